use Rattle.loop_meaning.proofs.WholeFrames.{par_is, whole_range, whole_results, both_is}
use Rattle.loop_meaning.proofs.laws.whole_frames_are_the_loop.Goals as goal

pub returns-clause-par : goal.returns-clause-par
returns-clause-par c = λ depth rs l s. par_is c.args.program.now c.args.fuel depth rs l s

pub returns-clause-range : goal.returns-clause-range
returns-clause-range c = λ depth l i j accs s h. whole_range c.args.program.now c.args.fuel depth l i j accs s h

pub returns-clause-accumulators : goal.returns-clause-accumulators
returns-clause-accumulators c = λ depth l i j accs s h. whole_results c.args.program.now c.args.fuel depth l i j accs s h

pub returns-clause-both : goal.returns-clause-both
returns-clause-both c = λ depth rs child x f y g s. both_is c.args.program.now c.args.fuel depth rs child x f y g s
