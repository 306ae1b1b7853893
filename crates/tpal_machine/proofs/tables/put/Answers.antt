use Rattle.std.proofs.Common.{Ok, Result, OnErr, ap, ◌∙◌}
use Rattle.std.specs.Prelude.{Err}
use Rattle.std.specs.Vec.{with_item}
use Rattle.tpal_machine.proofs.Vectors.{written_over}
use Rattle.tpal_machine.proofs.tables.put.Goals as goal

-- what holds anyway holds where the answer is an error
anyway : {A E : Type 0} (r : Result A E) (P : Type 0) → P → OnErr r P
anyway (Ok a) P p = tt
anyway (Err e) P p = p

pub returns-in_err-put-clause-refused : goal.returns-in_err-put-clause-refused
returns-in_err-put-clause-refused c =
    let machine = c.args.machine.now in
    anyway c.from_residual-in_err-put.result _
    (ap (λ ts. record machine { tables = ts })
    (ap (with_item machine.tables c.args.table) c.in_err-put.ensures.err
    ∙ written_over machine.tables c.args.table c.index_mut.result.now c.index_mut.ensures.value))

pub returns-else-branch-clause-refused : goal.returns-else-branch-clause-refused
returns-else-branch-clause-refused c =
    let machine = c.args.machine.now in
    ap (λ ts. record machine { tables = ts })
    (ap (with_item machine.tables c.args.table) (c.in_ok-put.ensures.not_held (ap Ok c.if-branch.false))
    ∙ written_over machine.tables c.args.table c.index_mut.result.now c.index_mut.ensures.value)
