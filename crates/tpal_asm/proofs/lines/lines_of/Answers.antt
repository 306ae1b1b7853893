use Rattle.std.proofs.Common.{ℕ, length, ap, length-append, arith}
use Rattle.tpal_syntax.specs.declared.versions.Version.TheVariants.{Two}
use Rattle.tpal_syntax.specs.Text.{first_line}
use Rattle.tpal_asm.proofs.Sound.{after-sound}
use Rattle.tpal_asm.proofs.lines.lines_of.Goals as goal

pub returns-in-Some-clause-shorter : goal.returns-in-Some-clause-shorter
returns-in-Some-clause-shorter c =
    let is = after-sound (first_line Two) c.args.text.now c.in-Some.rest.now c.in-Some.ensures in
    omega (arith, ap (length {A = ℕ}) is, length-append (first_line Two) c.in-Some.rest.now)
