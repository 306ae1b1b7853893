use Rattle.tests_events.proofs.Leading.{first_led}
use Rattle.tests_events.proofs.events.first.Goals as goal

pub returns-clause-led : goal.returns-clause-led
returns-clause-led c =
    first_led c.args.safe.now c.args.job c.requires.job c.first.result c.first.ensures.first
    c.first.ensures.run
