use Rattle.std.proofs.Common.{◌∙◌, sym, ap, ℕ, List, [], ◌∷◌, ◌++◌, map, Bor, arith}
use Rattle.std.proofs.lemmas.List.{append-nil}
use Rattle.tpal_syntax.specs.declared.blocks.CodeTable.{CodeTable}
use Rattle.tpal_syntax.proofs.Distinct.{input_name, input_names-more, map-push}
use Rattle.tpal_syntax.proofs.names.input_names.Goals as goal
use Rattle.tpal_syntax.proofs.names.input_names.Goals.{in-Input+in_ok-push-in-Input, in-Made}

pub loop-table-preserved : goal.loop-table-preserved
loop-table-preserved c =
    let so_far = c.loop-table.names.items in
    let more = input_names-more so_far c.args.tables.now c.loop-table.table-index c.table-item.result (omega arith) c.table-item.is c.loop-table.invariant in
    elim c.match-table.branch [
      | in-Input+in_ok-push-in-Input w ↦
          ap (λ (ns : List (Bor (List ℕ))). map (λ n. n.now) ns) (ap (λ v. v.items) w.names-is ∙ w.in_ok-push-in-Input.ensures.items)
          ∙ map-push so_far w.items.result
          ∙ ap (λ (n : List ℕ). map (λ n. n.now) so_far ++ n ∷ []) w.items.ensures
          ∙ ap (λ (t : CodeTable). map (λ n. n.now) so_far ++ input_name t) (sym w.in-Input.is)
          ∙ more
      | in-Made w ↦
          ap (λ v. map (λ n. n.now) v.items) w.names-is
          ∙ sym (append-nil (map (λ n. n.now) so_far))
          ∙ ap (λ (t : CodeTable). map (λ n. n.now) so_far ++ input_name t) (sym w.in-Made.is)
          ∙ more
    ]
