use Rattle.std.proofs.Common.{◌≡◌, ◌∙◌, ◌-◌, ◌+◌, suc, ap, sym, subst, arith, length, [], ◌++◌, ◌∷◌}
use Rattle.std.proofs.Common.{SFits, w64, rules}
use Rattle.std.proofs.lemmas.Result.{err_from_is_err_and}
use Rattle.table_text.specs.Reading.{tokens_at, read, filled, Filling, TokenMisfits}
use Rattle.table_text.specs.Wanted.{ANumber, misfit}
use Rattle.std.proofs.lemmas.Int.{to_z-of_z}
use Rattle.table_text.proofs.Steps.{read-number, read-misfits, OnFault-any}
use Rattle.table_text.proofs.cells.read_cells.Goals as goal

pub returns-in_err-number-clause-fault : goal.returns-in_err-number-clause-fault
returns-in_err-number-clause-fault c =
    let e = err_from_is_err_and c.from_residual-in_err-number.result c.from_residual-in_err-number.ensures.1 in
    let left : c.args.count - c.loop-cell._cell ≡ suc (c.args.count - (c.loop-cell._cell + 1)) = omega arith in
    rw e.1
    (OnFault-any e.0 _
    (λ before name rows cols.
    c.loop-cell.invariant.2 before name rows cols
    ∙ ap (λ n. read (length c.args.text.now) (tokens_at c.args.text.now c.loop-cell.at) (filled before name rows cols c.loop-cell.values.items n))
    left
    ∙ read-misfits (length c.args.text.now) (tokens_at c.args.text.now c.loop-cell.at)
    (Filling before name rows cols c.loop-cell.values.items (c.args.count - (c.loop-cell._cell + 1))) e.0
    (subst (TokenMisfits (length c.args.text.now) (misfit ANumber) (tokens_at c.args.text.now c.loop-cell.at)) (sym e.2) c.in_err-number.ensures.fault)
    tt))

pub loop-cell-preserved : goal.loop-cell-preserved
loop-cell-preserved c =
    let left : c.args.count - c.loop-cell._cell ≡ suc (c.args.count - (c.loop-cell._cell + 1)) = omega arith in
    let fits : SFits w64 c.in_ok-number.number.value = search rules in (
      omega (arith, c.in_ok-number.ensures.behind),
      c.in_ok-number.ensures.within,
      λ before name rows cols.
          c.loop-cell.invariant.2 before name rows cols
          ∙ ap (λ n. read (length c.args.text.now) (tokens_at c.args.text.now c.loop-cell.at) (filled before name rows cols c.loop-cell.values.items n))
          left
          ∙ read-number (length c.args.text.now) (tokens_at c.args.text.now c.loop-cell.at) (tokens_at c.args.text.now c.in_ok-number.number.end)
          c.in_ok-number.number.value c.in_ok-number.ensures.number before name rows cols c.loop-cell.values.items (c.args.count - (c.loop-cell._cell + 1))
          ∙ ap (λ cells. read (length c.args.text.now) (tokens_at c.args.text.now c.in_ok-number.number.end) (filled before name rows cols cells (c.args.count - (c.loop-cell._cell + 1))))
          (sym (c.in_ok-push.ensures.items ∙ ap (λ v. c.loop-cell.values.items ++ v ∷ []) (to_z-of_z w64 c.in_ok-number.number.value fits))),
    )
