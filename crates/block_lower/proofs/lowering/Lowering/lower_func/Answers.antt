use Rattle.std.proofs.Common.{arith}
use Rattle.block_lower.proofs.Written.FittingNow.{fits_func, is_outermost}
use Rattle.block_lower.proofs.Written.WrittenFunctions.{func_written}
use Rattle.block_lower.proofs.lowering.Lowering.lower_func.Goals as goal

pub lower_list-requires-clause-fits : goal.lower_list-requires-clause-fits
lower_list-requires-clause-fits c =
    let declared = c.in_ok-declare_all.ensures in
    rw (c.deref-2.ensures.value, declared.on)
    (fits_func c.args.self.now.on c.args.self.now.scope c.outermost.result c.args.f.now
    c.declare_all.new.self.scope (is_outermost c.outermost.result c.outermost.ensures.reduces c.outermost.ensures.depth)
    c.requires.most declared.regs (rw c.deref.ensures.value at declared.sees) c.requires.fits)

pub returns-clause-code : goal.returns-clause-code
returns-clause-code c =
    let self = c.args.self.now in
    let declared = c.in_ok-declare_all.ensures in
    let listed = c.in_ok-lower_list.ensures in
    rw c.leave.ensures.out
    (func_written self.on c.outermost.result self.scope c.declare_all.new.self.scope c.lower_list.new.self.scope
    c.args.f.now _ self.out c.lower_list.new.self.out c.value.new.self.out
    c.push_return.new.self.out (is_outermost c.outermost.result c.outermost.ensures.reduces c.outermost.ensures.depth)
    c.requires.room (omega (arith, c.requires.most)) c.requires.fresh
    declared.regs (rw c.deref.ensures.value at declared.sees)
    (rw (c.deref-2.ensures.value, declared.on, declared.out) at listed.code)
    listed.regs (rw c.deref-2.ensures.value at listed.sees) c.in_ok-value.ensures.code
    c.in_ok-push_return.ensures.code)
