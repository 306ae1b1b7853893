-- What the parts of a call answer.
use Rattle.std.specs.Prelude.{◌≡◌, ℕ, ◌<◌, List, ◌++◌, length, Option, Some, None, IfSome}
use Rattle.tp_value.specs.declared.limits.TheConstants.{MAX_TABLES_BYTES}
use Rattle.tp_value.specs.declared.values.Table.{Table}
use Rattle.loop_syntax.specs.declared.program.TableDecl.{TableDecl}
use Rattle.table_text.specs.declared.fault.TableFault.{TableFault}
use Rattle.table_text.specs.TablesText.{FirstTableFault}
use Rattle.tpal_tool.specs.declared.answer.Texts.{Texts}
use Rattle.tpal_tool.specs.declared.answer.Texts.TheVariants.{One, Shown}
use Rattle.tpal_tool.specs.declared.refusal.CallFault.{CallFault}
use Rattle.tpal_tool.specs.declared.refusal.CallFault.TheVariants.{Refused, ReadFailed, NoMemory}
use Rattle.tpal_tool.specs.declared.refusal.Refusal.{Refusal}
use Rattle.tpal_tool.specs.declared.refusal.Refusal.TheVariants as refusals
use Rattle.tpal_tool.specs.declared.status.Status.{Status}
use Rattle.tpal_tool.specs.declared.status.Status.TheVariants as statuses
use Rattle.tpal_syntax.specs.declared.blocks.CodeTable.{CodeTable}
use Rattle.tpal_tool.specs.CodeInputs.{first_missing_input}
use Rattle.tpal_tool.specs.CodeVerdict.{RefusesCode}
use Rattle.tpal_tool.specs.Inputs.{first_missing}
use Rattle.tpal_tool.specs.Lines.{line_of, missing_line, tables_line, too_long_line}
use Rattle.tpal_tool.specs.Verdict.{RefusesOnly}

-- all that a call writes: its texts, one behind the other
abbrev pub whole_of : Texts → List ℕ
whole_of (One text) = text.items
whole_of (Shown code output counts) = code.items ++ output.items ++ counts.items

-- the status of what is refused
abbrev pub status_with : Refusal → Status
status_with refusals.Words = statuses.BadWords
status_with (refusals.TooLong name) = statuses.Refused
status_with (refusals.Source fault) = statuses.Refused
status_with (refusals.Rule rule place) = statuses.Refused
status_with (refusals.Parallel rule place) = statuses.Refused
status_with refusals.NotBuilt = statuses.Refused
status_with (refusals.Assembly fault) = statuses.Refused
status_with (refusals.Break name at rule) = statuses.Refused
status_with (refusals.Blocks blocks) = statuses.Refused
status_with (refusals.Tables fault) = statuses.Refused
status_with (refusals.Missing name) = statuses.Refused

-- ---- why a part is_fault

-- a refusal is such a one, a fault of reading has this cause, and want of memory has none
abbrev pub IsFaultOf : (Refusal → Type 0) → Type 0 → CallFault → Type 0
IsFaultOf Refuses Cause (Refused refusal) = Refuses refusal
IsFaultOf Refuses Cause ReadFailed = Cause
IsFaultOf Refuses Cause NoMemory = Unit {0}

-- what is owed is a refusal's status and its line
abbrev pub OwesRefusal : (Status → List ℕ → Type 0) → Refusal → Type 0
OwesRefusal Owes refusal = Owes (status_with refusal) (line_of refusal)

-- a refusal with this line, and not one of the words
abbrev pub HasLine : List ℕ → Refusal → Type 0
HasLine line refusal = (status_with refusal ≡ statuses.Refused) × (line_of refusal ≡ line)

-- a source text is refused so, and in no other way
abbrev pub RefusesSource : List ℕ → Refusal → Type 0
RefusesSource source refusal =
    (status_with refusal ≡ statuses.Refused) × RefusesOnly source (line_of refusal)

-- the text of a name is told to be longer than so many bytes
abbrev pub RefusesLength : Option (List ℕ) → ℕ → List ℕ → Refusal → Type 0
RefusesLength told limit name refusal =
    HasLine (too_long_line name) refusal × IfSome told (λ text. limit < length text)

-- the same of the tables text, where one is named
abbrev pub RefusesTablesLength : (List ℕ → Option (List ℕ)) → Option (List ℕ) → Refusal → Type 0
RefusesTablesLength told None refusal = ⊥
RefusesTablesLength told (Some name) refusal =
    RefusesLength (told name) MAX_TABLES_BYTES name refusal

-- a tables text is refused for its first fault
abbrev pub RefusesTables : List ℕ → Refusal → Type 0
RefusesTables text refusal =
    (fault : TableFault) × FirstTableFault text fault × HasLine (tables_line fault) refusal

-- the first declared input that has no table
abbrev pub RefusesMissing : List TableDecl → List Table → Refusal → Type 0
RefusesMissing declared given refusal =
    (name : List ℕ)
    × (first_missing declared given ≡ Some name)
    × HasLine (missing_line name) refusal

-- ---- codes

-- a code text is refused so
abbrev pub RefusesCodeText : List ℕ → Refusal → Type 0
RefusesCodeText source refusal =
    (status_with refusal ≡ statuses.Refused) × RefusesCode source (line_of refusal)

-- the first input of a code that has no table
abbrev pub RefusesMissingInput : List CodeTable → List Table → Refusal → Type 0
RefusesMissingInput tables given refusal =
    (name : List ℕ)
    × (first_missing_input tables given ≡ Some name)
    × HasLine (missing_line name) refusal
