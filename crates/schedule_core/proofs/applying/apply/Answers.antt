use Rattle.schedule_core.proofs.Asked.{given_sound, given_never}
use Rattle.schedule_core.proofs.applying.apply.Goals as goal

pub returns-clause-sound : goal.returns-clause-sound
returns-clause-sound c = given_sound c.args.code.now c.args.config c.args.event c.known.ensures c.blocks-blocks.ensures.right c.tried.result c.tried.ensures

pub returns-clause-never_stuck : goal.returns-clause-never_stuck
returns-clause-never_stuck c = given_never c.args.code.now c.args.config c.args.event c.known.ensures c.blocks-blocks.ensures.right c.tried.result c.tried.ensures
