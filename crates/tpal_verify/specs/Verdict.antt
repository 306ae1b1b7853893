-- What the verifier answers of a code that it doesn't accept.
use Rattle.std.specs.Prelude.{◌≡◌, Option, Some}
use Rattle.tpal_verify.specs.declared.fault.VerifyFault.{VerifyFault}
use Rattle.tpal_verify.specs.declared.fault.VerifyFault.TheVariants.{Broken, NoMemory}
use Rattle.tpal_verify.specs.Breaks.{Break}

-- the first break is named; want of memory says nothing
abbrev pub IsBreak : Option Break → VerifyFault → Type 0
IsBreak first (Broken rule block at) = first ≡ Some (block, at, rule)
IsBreak first NoMemory = Unit {0}
