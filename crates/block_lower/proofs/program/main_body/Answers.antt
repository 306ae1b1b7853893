use Rattle.std.proofs.Common.{arith}
use Rattle.scene_laws.proofs.Counts.Adding.{few_kept_by_list, few_kept_by_decls}
use Rattle.block_lower.proofs.Written.Planning.{fitting_are_small, fitting_main_is_small}
use Rattle.block_lower.proofs.Written.WrittenPrograms.{funcs_low}
use Rattle.block_lower.proofs.program.main_body.Goals as goal

pub value_cell-requires : goal.value_cell-requires
value_cell-requires c =
    let few = fitting_main_is_small c.args.program.now c.requires.fits.main in
    let most = rw c.deref-2.ensures.value at c.declared_by_list-most.ensures in
    omega (arith, few, most)

pub overflow_add-size : goal.overflow_add-size
overflow_add-size c =
    let few = fitting_main_is_small c.args.program.now c.requires.fits.main in
    let most = rw c.deref-2.ensures.value at c.declared_by_list-most.ensures in
    let kept = rw c.deref-3.ensures.value at c.kept_by_list.ensures in
    let made = rw c.deref-4.ensures.value at c.kept_by_decls.ensures in
    omega (
      arith,
      few,
      most,
      kept,
      made,
      c.value_cell.ensures,
      c.max-kept.ensures,
      few_kept_by_list c.args.program.now.main.items c.requires.fits.main.low,
      few_kept_by_decls c.args.program.now.tables.items,
    )

pub callees_of-requires-clause-labels : goal.callees_of-requires-clause-labels
callees_of-requires-clause-labels c =
    let calls = rw c.deref.ensures.value at c.functions_are_quiet-quiet_calls.ensures in
    rw (c.deref-5.ensures.value, calls) (omega (
      arith,
      c.added_by_main-first.ensures,
      c.requires.labels,
    ))

pub callees_of-requires-clause-small : goal.callees_of-requires-clause-small
callees_of-requires-clause-small c = rw c.deref-5.ensures.value
    (fitting_are_small c.args.program.now c.args.program.now.funcs.items c.requires.fits.functions)

pub callees_of-requires-clause-low : goal.callees_of-requires-clause-low
callees_of-requires-clause-low c = rw c.deref-5.ensures.value
    (funcs_low c.args.program.now c.args.program.now.funcs.items c.requires.fits.functions)

pub returns-clause-callees : goal.returns-clause-callees
returns-clause-callees c =
    let p = c.args.program.now in
    let calls = rw c.deref.ensures.value at c.functions_are_quiet-quiet_calls.ensures in
    rw (c.deref-5.ensures.value, calls, c.added_by_main-first.ensures) at c.in_ok-callees.ensures
