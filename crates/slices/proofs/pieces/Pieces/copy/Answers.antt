use Rattle.std.proofs.Common.{◌∙◌}
use Rattle.slices.specs.Pieces.{spans_of}
use Rattle.slices.proofs.Cuts.{all_between}
use Rattle.slices.proofs.pieces.Pieces.copy.Goals as goal

pub returns-clause-cells : goal.returns-clause-cells
returns-clause-cells c = λ i. c.in_ok-part.ensures.cells i ∙ all_between c.args.end i (spans_of c.args.self.now) c.requires
