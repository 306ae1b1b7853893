use Rattle.std.proofs.Common.{length, sym, subst}
use Rattle.tpal_syntax.specs.Listing.{Listing}
use Rattle.schedule_core.specs.Apply.{SidesFit, Steps}
use Rattle.schedule_core.specs.Standing.{stands}
use Rattle.tpal_verify.specs.Fits.{of_run}
use Rattle.tpal_verify.specs.Flat.{ground_of}
use Rattle.tpal_verify.specs.Rounds.{least}
use Rattle.tests_events.proofs.Leading.{leads_on, sides_fit}
use Rattle.tests_events.proofs.events.happen.Goals as goal

pub apply-requires-clause-sides : goal.apply-requires-clause-sides
apply-requires-clause-sides c =
    let led = c.requires.led in
    let s = c.args.config in
    let code = c.args.safe.now in
    subst (λ (x : Listing). SidesFit x s c.args.event) (sym c.code-code.ensures.code)
    (sides_fit code (least (ground_of code)) s (of_run led.fuel led.held)
    (c.stays_sound.ensures.sound s.heartbeat s.forks (length s.cells) (length s.workers) led.fuel
    led.held (stands s) led.events led.some led.room led.sizes led.run)
    c.args.event)

pub returns-in-Ok-clause-led : goal.returns-in-Ok-clause-led
returns-in-Ok-clause-led c =
    leads_on c.args.safe.now c.args.config c.in-Ok.after c.args.event
    (subst (λ (x : Listing). Steps x c.args.config c.args.event c.in-Ok.after)
    c.code-code.ensures.code c.in-Ok.ensures.step)
    c.in-Ok.ensures.kept c.requires.led
