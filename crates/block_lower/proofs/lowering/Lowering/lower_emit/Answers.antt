use Rattle.block_lower.proofs.Written.LoweredTables.{emit_written}
use Rattle.std.proofs.Common.{arith, lt-ltb}
use Rattle.block_lower.proofs.Written.Conforming.{visible_table}
use Rattle.block_lower.proofs.lowering.Lowering.lower_emit.Goals as goal

pub returns-clause-code : goal.returns-clause-code
returns-clause-code c = λ on reduces place.
    emit_written on reduces c.args.self.now.scope place c.args.t.now c.args.self.now.out
    c.push.new.self.out (rw c.table-table.ensures at c.in_ok-push.ensures.pushed)

pub returns-clause-fit : goal.returns-clause-fit
returns-clause-fit c = λ known before.
    let old = c.args.self.now in
    c.in_ok-push.ensures.fit
    (lt-ltb c.table-table.result old.on.tables
    (omega (arith, c.table-table.ensures, visible_table old c.args.t.now.text.items before known)))
    before
