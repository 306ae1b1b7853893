use Rattle.std.proofs.Common.{◌+◌, ◌<◌, arith, lt-ltb, refl, subst, sym}
use Rattle.expr_lower.specs.Bodies.{range_tests}
use Rattle.expr_lower.specs.Scopes.{table_number}
use Rattle.block_lower.specs.declared.output.Output.{Output}
use Rattle.block_lower.specs.Writing.{next_label, Pushes}
use Rattle.block_lower.proofs.Written.LoweredTables.{put_pushed}
use Rattle.expr_lower.proofs.Fitting.{both, range_fits}
use Rattle.block_lower.specs.Conforming.{AreInstrs, Conforms, blocks_of}
use Rattle.block_lower.specs.declared.body.Body.{Body}
use Rattle.block_lower.specs.declared.lowering.Lowering.{Lowering}
use Rattle.block_lower.proofs.Written.Conforming.{pushed_conforms, visible_table}
use Rattle.block_lower.proofs.lowering.Lowering.push_put.Goals as goal

pub returns-clause-code : goal.returns-clause-code
returns-clause-code c =
    let trapped = c.trap_block.new.self.out in
    let tested : Output =
    record {
      blocks = trapped.blocks;
      body = c.push_range_tests.new.body;
      traps = trapped.traps;
      note = trapped.note;
    } in
    let tests : Pushes (range_tests (table_number c.args.self.now.scope c.args.t.now.text.items) c.args.row c.args.col 3 (next_label c.args.self.now.out)) trapped tested =
    record {
      blocks = refl;
      body = rw (c.table-table.ensures, c.next_label-trap.ensures) at c.in_ok-push_range_tests.ensures;
      traps = refl;
      noted = refl;
    } in
    put_pushed _ c.args.row c.args.col c.args.value c.args.t.now.place c.args.self.now.out trapped
    tested c.push.new.self.out c.in_ok-trap_block.ensures.traps tests
    (rw c.table-table.ensures at c.in_ok-push.ensures.pushed)

pub returns-clause-fit : goal.returns-clause-fit
returns-clause-fit c = λ known placed row col value below before.
    let old = c.args.self.now in
    let name = c.args.t.now.text.items in
    let trapped = c.trap_block.new.self in
    let table = table_number old.scope name in
    let tested : Lowering =
    record {
      alloc = trapped.alloc;
      out = record {
        blocks = trapped.out.blocks;
        body = c.push_range_tests.new.body;
        traps = trapped.out.traps;
        note = trapped.out.note;
      };
      scope = trapped.scope;
      on = trapped.on;
    } in
    let tests : Pushes (range_tests table c.args.row c.args.col 3 (next_label old.out)) trapped.out tested.out =
    record {
      blocks = refl;
      body = rw (c.table-table.ensures, c.next_label-trap.ensures) at c.in_ok-push_range_tests.ensures;
      traps = refl;
      noted = refl;
    } in
    let there : table < old.on.tables = visible_table old name before known in
    let done = c.in_ok-trap_block.ensures in
    let pushed = c.in_ok-push.ensures in
    let trap : next_label old.out < blocks_of old.on = omega (arith, done.labels, pushed.labels, below) in
    let instrs : AreInstrs old.on (range_tests table c.args.row c.args.col 3 (next_label old.out)) =
    range_fits old.on.tables (blocks_of old.on) table c.args.row c.args.col 3 (next_label old.out)
    there row col (omega arith) trap in
    let then : Conforms tested =
    pushed_conforms trapped tested (range_tests table c.args.row c.args.col 3 (next_label old.out))
    (subst (λ (on : Body). AreInstrs on (range_tests table c.args.row c.args.col 3 (next_label old.out))) (sym done.on) instrs)
    tests refl refl (done.fit placed before) in
    let number : c.table-table.result < trapped.on.tables =
    subst (λ (on : Body). c.table-table.result < on.tables) (sym done.on) (omega (arith, c.table-table.ensures, there)) in
    pushed.fit
    (both _ _ (both _ _ (both _ _ (lt-ltb c.table-table.result trapped.on.tables number)
    (lt-ltb c.args.row 32 row)) (lt-ltb c.args.col 32 col)) (lt-ltb c.args.value 32 value)) then
