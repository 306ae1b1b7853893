-- The lines that a call writes: where it refuses, and where it shows what a run counted.
use Rattle.std.specs.Prelude.{ℕ, List, [], ◌∷◌, ◌++◌, codes, string_bytes}
use Rattle.std.specs.Fmt.{decimal}
use Rattle.tp_value.specs.declared.values.Place.{Place}
use Rattle.loop_meaning.specs.Answers.{place_text}
use Rattle.table_text.specs.declared.fault.TableFault.{TableFault}
use Rattle.table_text.specs.declared.fault.TableFault.TheVariants.{Form, Cells, Repeated, NoMemory}
use Rattle.loop_parse.specs.Text as text
use Rattle.loop_parse.specs.Text.{TextFault}
use Rattle.schedule_core.specs.declared.lanes.Tally.{Tally}
use Rattle.tpal_tool.specs.declared.refusal.Refusal.{Refusal}
use Rattle.tpal_tool.specs.declared.refusal.Refusal.TheVariants as refusals
use Rattle.tpal_tool.specs.declared.refusal.SourceFault.{SourceFault}
use Rattle.tpal_tool.specs.declared.refusal.SourceFault.TheVariants as faults
use Rattle.tpal_tool.specs.ExecLines.{assembly_line, break_line}

-- a refusal with its code, at a place
abbrev pub line_at : List ℕ → Place → List ℕ
line_at code place = codes "refused " ++ code ++ codes " at " ++ place_text place ++ 10 ∷ []

-- the fault that a value stands for
abbrev pub fault_of : SourceFault → TextFault
fault_of (faults.Byte place) = text.Byte place
fault_of (faults.Range place) = text.Range place
fault_of (faults.Form place) = text.Form place
fault_of (faults.Deep place) = text.Deep place

-- the first fault of a text
abbrev pub fault_line : TextFault → List ℕ
fault_line (text.Byte place) = line_at (codes "E1") place
fault_line (text.Range place) = line_at (codes "E2") place
fault_line (text.Form place) = line_at (codes "E3") place
fault_line (text.Deep place) = line_at (codes "E14") place

-- the first broken rule on names, limits, output and variables of loops
abbrev pub rule_line : ℕ → Place → List ℕ
rule_line rule place = line_at (codes "E7 C" ++ decimal rule) place

-- the first broken rule on parallel loops, in a program that breaks none of those
abbrev pub parallel_line : ℕ → Place → List ℕ
parallel_line rule place = line_at (codes "E8 C" ++ decimal rule) place

-- a refusal with its code, at a byte
abbrev pub line_at_byte : List ℕ → ℕ → List ℕ
line_at_byte code at = codes "refused " ++ code ++ codes " at byte " ++ decimal at ++ 10 ∷ []

-- the first fault of a tables text; want of memory has no line
abbrev pub tables_line : TableFault → List ℕ
tables_line (Form at) = line_at_byte (codes "E4") at
tables_line (Cells at) = line_at_byte (codes "E5") at
tables_line (Repeated at) = line_at_byte (codes "E6") at
tables_line NoMemory = []

-- a file above its limit
abbrev pub too_long_line : List ℕ → List ℕ
too_long_line name = codes "refused E15 file " ++ name ++ 10 ∷ []

-- a program with a statement for which there is no code yet
abbrev pub not_built_line : List ℕ
not_built_line = codes "refused E0 not built" ++ 10 ∷ []

-- a program whose code may have this many blocks, which are too many
abbrev pub blocks_line : ℕ → List ℕ
blocks_line blocks = codes "refused E12 blocks " ++ decimal blocks ++ 10 ∷ []

-- a declared input of this name, which the tables text doesn't give
abbrev pub missing_line : List ℕ → List ℕ
missing_line name = codes "refused E13 input " ++ name ++ 10 ∷ []

-- words that are not of the form
abbrev pub bad_words_line : List ℕ
bad_words_line = codes "bad words" ++ 10 ∷ []

-- what is refused
abbrev pub line_of : Refusal → List ℕ
line_of refusals.Words = bad_words_line
line_of (refusals.TooLong name) = too_long_line (string_bytes name)
line_of (refusals.Source fault) = fault_line (fault_of fault)
line_of (refusals.Rule rule place) = rule_line rule place
line_of (refusals.Parallel rule place) = parallel_line rule place
line_of refusals.NotBuilt = not_built_line
line_of (refusals.Assembly fault) = assembly_line fault
line_of (refusals.Break name at rule) = break_line name.items at rule
line_of (refusals.Blocks blocks) = blocks_line blocks
line_of (refusals.Tables fault) = tables_line fault
line_of (refusals.Missing name) = missing_line name.items

-- the counts of a run, with the ticks of the program's meaning
abbrev pub counts_line : Tally → ℕ → List ℕ
counts_line tally ticks =
    codes "tasks "
    ++ (decimal tally.tasks
    ++ (codes " beats "
    ++ (decimal tally.beats
    ++ (codes " skipped "
    ++ (decimal tally.skipped
    ++ (codes " instructions "
    ++ (decimal tally.instructions ++ (codes " ticks " ++ (decimal ticks ++ 10 ∷ [])))))))))
