use Rattle.std.proofs.Common.{◌≡◌, ℕ, ◌+◌, List, [], ◌∷◌, ◌++◌, get_or, drop, ap, sym, ◌∙◌}
use Rattle.std.proofs.Common.{append_assoc}
use Rattle.std.proofs.lemmas.List.{drop_more}
use Rattle.tp_value.specs.declared.Op.{Op}
use Rattle.tp_value.specs.declared.Op.TheVariants.{Add}
use Rattle.handler_gen.specs.Blocks.{renames_from}
use Rattle.join_gen.proofs.loops.renames.Goals as goal

pub loop-r-preserved : goal.loop-r-preserved
loop-r-preserved c =
    let r : ℕ = c.loop-r.r in
    let accs : List (ℕ × Op) = c.args.accs.now in
    let left : List (ℕ × ℕ) = renames_from (r + 1) (drop (r + 1) accs) in
    let next : drop r accs ≡ get_or accs r (0, Add) ∷ drop (r + 1) accs = drop_more accs r (0, Add) c.loop-r-test.true in
    ap (λ (l : List (ℕ × ℕ)). l ++ left) c.in_ok-push.ensures.items
    ∙ (append_assoc c.loop-r.all.items ((r, 8 + r) ∷ []) left
    ∙ (ap (λ (l : List (ℕ × Op)). c.loop-r.all.items ++ renames_from r l) (sym next) ∙ c.loop-r.invariant))
