use Rattle.std.proofs.Common.{arith}
use Rattle.std.proofs.lemmas.Int.{ints}
use Rattle.frame_machine.specs.Iterating.{LowerSeen, LowerWritten, UpperSeen, UpperWritten}
use Rattle.frame_machine.proofs.Following.{goes_done, goes_left}
use Rattle.frame_machine.proofs.Joining.{lower_kept, upper_kept}
use Rattle.frame_machine.proofs.Leaving.{lower_leaves}
use Rattle.frame_machine.proofs.Values.{chances_keep}
use Rattle.frame_machine.proofs.laws.iterations_keep_apart.Goals as goal

pub returns-clause-lower : goal.returns-clause-lower
returns-clause-lower c = λ outer l room again begin n i d s rules q r h.
    (lower_kept c.args.program.now outer l c.args.fuel room again begin n i d s rules
    (chances_keep (LowerSeen outer l s.vars d) (LowerWritten outer l s.vars d) again q) (chances_keep (LowerSeen outer l s.vars d) (LowerWritten outer l s.vars d) begin r) h).notes

pub returns-clause-upper : goal.returns-clause-upper
returns-clause-upper c = λ outer l room again begin n i d s rules q r h.
    (upper_kept c.args.program.now outer l c.args.fuel room again begin n i d s rules
    (chances_keep (UpperSeen outer l s.vars d) (UpperWritten outer l s.vars d) again q) (chances_keep (UpperSeen outer l s.vars d) (UpperWritten outer l s.vars d) begin r) h).notes

pub returns-clause-output : goal.returns-clause-output
returns-clause-output c = λ outer l room again begin n i s rules q r.
    (upper_kept c.args.program.now outer l c.args.fuel room again begin n i i s rules
    (chances_keep (UpperSeen outer l s.vars i) (UpperWritten outer l s.vars i) again q) (chances_keep (UpperSeen outer l s.vars i) (UpperWritten outer l s.vars i) begin r) (omega (arith, ints))).output

pub returns-clause-leaves : goal.returns-clause-leaves
returns-clause-leaves c = λ outer l room again begin n i d s rules q r h e.
    lower_leaves c.args.program.now outer l c.args.fuel room again begin n i d s rules
    (chances_keep (LowerSeen outer l s.vars d) (LowerWritten outer l s.vars d) again q) (chances_keep (LowerSeen outer l s.vars d) (LowerWritten outer l s.vars d) begin r) h (goes_done e)

pub returns-clause-left : goal.returns-clause-left
returns-clause-left c = λ outer l room again begin n i d m s rules q r h e.
    lower_leaves c.args.program.now outer l c.args.fuel room again begin n i d s rules
    (chances_keep (LowerSeen outer l s.vars d) (LowerWritten outer l s.vars d) again q) (chances_keep (LowerSeen outer l s.vars d) (LowerWritten outer l s.vars d) begin r) h (goes_left m e)
