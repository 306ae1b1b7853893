use Rattle.loop_meaning.specs.Ends.{state_of}
use Rattle.loop_meaning.proofs.Runs.{ok_map}
use Rattle.loop_meaning.proofs.Whole.{whole_done, whole_stopped, tables_capped}
use Rattle.loop_meaning.proofs.plain.run_main.Goals as goal

pub returns-in_default : goal.returns-in_default
returns-in_default c =
    let e = rw (c.input_cells-cells.ensures, c.deref.ensures.value, c.deref-2.ensures.value, tables_capped) at c.in_ok-stop.ensures in
    whole_stopped c.args.setting.now.program.now c.args.tables.now c.args.setting.now.fuel (state_of c.args.memory.now) _ _ c.requires.first e c.in_default.not-Done

pub returns-in-Done : goal.returns-in-Done
returns-in-Done c =
    let e = rw (c.in-Done.is, c.input_cells-cells.ensures, c.deref.ensures.value, c.deref-2.ensures.value, tables_capped) at c.in_ok-stop.ensures in
    ok_map c.run_list.result
    (λ y f. whole_done c.args.setting.now.program.now c.args.tables.now c.args.setting.now.fuel (state_of c.args.memory.now) (state_of c.make_tables.new.memory) _ y c.requires.first e
    (rw (c.deref-in-Done.ensures.value, c.requires.no_reduces, c.requires.depth) at f)) c.run_list.ensures
