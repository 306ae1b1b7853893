-- The texts that a command is about: those of the names on a shelf, or the sample's own.
use Rattle.std.specs.Prelude.{◌≡◌, ℕ, ◌≤◌, List, [], length, Option, Some, None, IfSome}
use Rattle.tp_value.specs.declared.limits.TheConstants.{MAX_SOURCE_BYTES}
use Rattle.loop_syntax.specs.declared.program.Program.{Program}
use Rattle.sample_gen.specs.Texts.{sample_source, sample_tables}
use Rattle.tpal_syntax.specs.Listing.{Listing}
use Rattle.tpal_tool.specs.declared.fetching.TheConstants.{MAX_CODE_BYTES}
use Rattle.tpal_tool.specs.CodeVerdict.{AcceptsCode}
use Rattle.tpal_tool.specs.Verdict.{AcceptsOnly}
use Rattle.tpal_tool.specs.Words.{Command, Run, Compile, Sample, Exec}

-- the tables text of a name, where it is told; without a name it is the empty one
abbrev pub text_over : (List ℕ → Option (List ℕ)) → Option (List ℕ) → Option (List ℕ)
text_over told None = Some []
text_over told (Some name) = told name

-- the source that a command is about, where it is told; that of a sample always is
abbrev pub told_source : (List ℕ → Option (List ℕ)) → Command → Option (List ℕ)
told_source told (Run program tables options) = told program
told_source told (Compile program) = told program
told_source told (Sample seed options) = Some sample_source
told_source told (Exec code tables options) = None

-- the code text that a command is about, where it is told
abbrev pub told_code : (List ℕ → Option (List ℕ)) → Command → Option (List ℕ)
told_code told (Run program tables options) = None
told_code told (Compile program) = None
told_code told (Sample seed options) = None
told_code told (Exec code tables options) = told code

-- and its tables text; a sample has a thousand rows and columns
abbrev pub told_tables : (List ℕ → Option (List ℕ)) → Command → Option (List ℕ)
told_tables told (Run program tables options) = text_over told tables
told_tables told (Compile program) = Some []
told_tables told (Sample seed options) = Some (sample_tables seed 1000 1000)
told_tables told (Exec code tables options) = text_over told tables

-- the program of a source text, which is the told one where one is told
pub record IsProgramOf (told : Option (List ℕ)) (program : Program) : Type 0 where
  pub source : List ℕ
  pub is_source : IfSome told (λ text. text ≡ source)
  pub low : length source ≤ MAX_SOURCE_BYTES
  pub accepts : AcceptsOnly source program

-- the code of a code text, which is the told one where one is told
pub record IsCodeOf (told : Option (List ℕ)) (code : Listing) : Type 0 where
  pub source : List ℕ
  pub is_source : IfSome told (λ text. text ≡ source)
  pub low : length source ≤ MAX_CODE_BYTES
  pub accepts : AcceptsCode source code
