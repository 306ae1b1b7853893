use Rattle.std.proofs.Common.{[], ◌∙◌, arith}
use Rattle.block_lower.proofs.Written.FittingNow.{is_outermost}
use Rattle.block_lower.proofs.Written.WrittenTables.{low_of_fit}
use Rattle.block_lower.proofs.Written.WrittenPrograms.{main_fits_now, main_written, sees_after_main}
use Rattle.block_lower.proofs.lowering.Lowering.lower_main.Goals as goal

pub push_makes-requires-clause-low : goal.push_makes-requires-clause-low
push_makes-requires-clause-low c = rw c.deref.ensures.value (low_of_fit [] c.args.program.now.tables.items c.requires.fits.declarations)

pub lower_list-requires-clause-fits : goal.lower_list-requires-clause-fits
lower_list-requires-clause-fits c =
    let self = c.args.self.now in
    let first = c.in_ok-push_first_activation.ensures in
    let makes = c.in_ok-push_makes.ensures in
    let on = makes.on ∙ first.on in
    rw (c.deref-2.ensures.value, on)
    (main_fits_now c.args.program.now self.on c.outermost.result self.scope
    c.push_makes.new.self.scope c.requires.fits c.requires.callees c.requires.most
    (is_outermost c.outermost.result c.outermost.ensures.reduces c.outermost.ensures.depth)
    c.requires.nothing.0 c.requires.nothing.1 c.requires.nothing.2
    (rw (c.deref.ensures.value, first.scope) at makes.sees))

pub returns-clause-labels : goal.returns-clause-labels
returns-clause-labels c =
    let first = c.in_ok-push_first_activation.ensures in
    let makes = c.in_ok-push_makes.ensures in
    let on = makes.on ∙ first.on in
    let listed = rw (c.deref-2.ensures.value, on, c.requires.calls) at c.in_ok-lower_list.ensures.labels in
    let made = rw c.deref.ensures.value at makes.labels in
    rw c.leave.ensures.out (omega (arith, first.labels, made, listed, c.in_ok-close.ensures.labels))

pub returns-clause-sees : goal.returns-clause-sees
returns-clause-sees c =
    let first = c.in_ok-push_first_activation.ensures in
    let makes = c.in_ok-push_makes.ensures in
    sees_after_main c.args.program.now c.args.self.now.scope c.push_makes.new.self.scope
    c.lower_list.new.self.scope c.leave.new.self.scope c.requires.nothing.0
    c.requires.nothing.1 c.requires.nothing.2
    (rw (c.deref.ensures.value, first.scope) at makes.sees) c.in_ok-lower_list.ensures.regs
    (rw c.deref-2.ensures.value at c.in_ok-lower_list.ensures.sees)
    (rw c.in_ok-close.ensures.scope at c.leave.ensures.regs)
    (rw c.in_ok-close.ensures.scope at c.leave.ensures.sees)

pub returns-clause-code : goal.returns-clause-code
returns-clause-code c =
    let first = c.in_ok-push_first_activation.ensures in
    let makes = c.in_ok-push_makes.ensures in
    let on = makes.on ∙ first.on in
    rw c.leave.ensures.out
    (main_written c.args.self.now.on c.outermost.result c.args.program.now c.args.self.now.scope
    c.push_makes.new.self.scope c.args.self.now.out c.push_first_activation.new.self.out
    c.push_makes.new.self.out c.lower_list.new.self.out c.close.new.self.out
    (is_outermost c.outermost.result c.outermost.ensures.reduces c.outermost.ensures.depth)
    c.requires.fits.declarations c.requires.nothing.0 c.requires.nothing.1 c.requires.nothing.2
    first.pushed
    (rw (c.deref.ensures.value, first.on, first.scope) at makes.code)
    (rw (c.deref.ensures.value, first.scope) at makes.sees)
    (rw (c.deref-2.ensures.value, on) at c.in_ok-lower_list.ensures.code)
    c.in_ok-close.ensures.closed)
