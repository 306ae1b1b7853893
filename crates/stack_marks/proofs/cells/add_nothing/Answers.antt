use Rattle.std.proofs.Common.{◌≡◌, ◌≤◌, List, ◌++◌, Result, Ok, Err, OnOk, is_ok, if◌then◌else◌, ap}
use Rattle.std.proofs.Common.{arith, ◌∙◌}
use Rattle.std.proofs.lemmas.List.{take-replicate}
use Rattle.tpal_syntax.specs.declared.words.Word.TheVariants.{Nil}
use Rattle.stack_marks.proofs.cells.add_nothing.Goals as goal

-- what is added is what a slice is known to be
added : {A E X : Type 0} (r : Result A E) (new old part other : List X)
    → new ≡ (if is_ok r then old ++ part else old) → part ≡ other → OnOk r (new ≡ old ++ other)
added (Ok a) new old part other is same = is ∙ ap (λ xs. old ++ xs) same
added (Err e) new old part other is same = tt

pub returns-clause-added : goal.returns-clause-added
returns-clause-added c =
    let few : c.args.count ≤ 64 = omega (arith, c.if-count-gt64.false) in
    added c.extend_from_slice.result c.extend_from_slice.new.self.items c.args.cells.now.items _ _
    c.extend_from_slice.ensures.items (take-replicate c.args.count 64 Nil few)
