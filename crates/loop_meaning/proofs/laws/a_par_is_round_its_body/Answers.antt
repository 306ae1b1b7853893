use Rattle.loop_meaning.proofs.Parallels.{par_bodies}
use Rattle.loop_meaning.proofs.laws.a_par_is_round_its_body.Goals as goal

pub returns : goal.returns
returns c = λ vs rounds. par_bodies vs rounds c.args.par.now
