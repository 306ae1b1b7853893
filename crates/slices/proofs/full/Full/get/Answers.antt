use Rattle.std.proofs.Common.{arith, rules}
use Rattle.slices.proofs.Slots.{between_in}
use Rattle.slices.proofs.Places.{in_front_some}
use Rattle.slices.proofs.full.Full.get.Goals as goal

pub returns : goal.returns
returns c =
    rw (between_in 0 c.args.self.now.end c.args.at _ (omega arith) (omega (arith, c.requires.0)), in_front_some c.args.self.now.list.items c.args.at c.index.result.now (omega (arith, c.requires.1))) (search rules)
