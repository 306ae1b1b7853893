use Rattle.std.proofs.Common.{rules, ◌≡◌, ◌*◌, replicate}
use Rattle.std.specs.Prelude.{pos}
use Rattle.tpal_machine.proofs.Sizes.{zeros_are}
use Rattle.tpal_machine.proofs.making.zeros.Goals as goal

pub returns : goal.returns
returns c =
    let all : c.in_ok-cells.cells.items ≡ replicate (c.args.rows * c.args.cols) (pos 0) = search rules in
    zeros_are c.whole.result c.args.rows c.args.cols c.in_ok-cells.cells.items c.whole.ensures.rows c.whole.ensures.cols c.whole.ensures.cells c.whole.ensures.owned all
