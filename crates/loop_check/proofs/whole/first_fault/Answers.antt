use Rattle.loop_check.proofs.Wholes.{sites_found}
use Rattle.loop_check.proofs.whole.first_fault.Goals as goal

pub returns : goal.returns
returns c =
    let one = rw c.deref.ensures.value at c.in_ok-in_funcs.ensures in
    let two = rw c.deref-2.ensures.value at c.in_ok-in_main.ensures in
    sites_found c.args.readers.now c.args.program.now c.in_funcs.new.found c.in_main.new.found one two
