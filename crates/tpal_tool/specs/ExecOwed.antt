-- What a call owes that runs a code.
use Rattle.std.specs.Prelude.{◌≡◌, ℕ, ◌<◌, ◌≤◌, List, length, Option, Some, None, IfSome}
use Rattle.slices.specs.Holding.{Holding}
use Rattle.tp_value.specs.declared.limits.TheConstants.{MAX_TABLES_BYTES}
use Rattle.tp_value.specs.declared.values.Table.{Table}
use Rattle.loop_meaning.specs.Answers.{status_of, text_of}
use Rattle.table_text.specs.declared.fault.TableFault.{TableFault}
use Rattle.table_text.specs.TablesText.{TablesOf, FirstTableFault}
use Rattle.tpal_syntax.specs.Listing.{Listing}
use Rattle.tpal_verify.specs.declared.report.ExecEnd.{ExecEnd}
use Rattle.tpal_verify.specs.declared.report.ExecEnd.TheVariants.{Ended, Spent, Stuck}
use Rattle.tpal_verify.specs.declared.report.ExecReport.{ExecReport}
use Rattle.tpal_verify.specs.Exec.{exec}
use Rattle.tpal_tool.specs.declared.fetching.TheConstants.{MAX_CODE_BYTES}
use Rattle.tpal_tool.specs.declared.status.Status.{Status}
use Rattle.tpal_tool.specs.declared.status.Status.TheVariants.{Done, Trap, OutOfFuel, Refused}
use Rattle.tpal_tool.specs.CodeInputs.{AreCodeHeld, first_missing_input}
use Rattle.tpal_tool.specs.CodeVerdict.{AcceptsCode, RefusesCode}
use Rattle.tpal_tool.specs.ExecLines.{name_at, spent_line, stuck_line}
use Rattle.tpal_tool.specs.Lines.{missing_line, tables_line, too_long_line}
use Rattle.tpal_tool.specs.Told.{text_over}
use Rattle.tpal_tool.specs.Words.{ExecOptions}

-- ---- a run

-- the status of a run that ended so: that of its outcome; a run that has executed all its
-- instructions is out of fuel, and one that is stuck has trapped
abbrev pub exec_status : ExecEnd → Status
exec_status (Ended outcome) = status_of Done Trap OutOfFuel outcome
exec_status Spent = OutOfFuel
exec_status (Stuck fault block at) = Trap

-- its text: that of its outcome; else one line, and nothing of what the run printed
abbrev pub exec_text : Listing → ExecEnd → List ℕ
exec_text code (Ended outcome) = text_of outcome
exec_text code Spent = spent_line
exec_text code (Stuck fault block at) = stuck_line fault (name_at code block) at

-- the run of a code over these inputs, with these options, comes to this
pub record ComesTo (code : Listing) (inputs : List Table) (options : ExecOptions)
    (report : ExecReport) : Type 0 where
  pub holdings : List Holding
  pub are_held : AreCodeHeld code.tables inputs holdings
  pub told : exec options.steps code options.beat options.forks holdings options.fuel
      ≡ Some report

-- what a run of a code over a tables text owes, with these options: this status, and this text
pub data ExecRunOwes (code : Listing) (tables : List ℕ) (options : ExecOptions) (status : Status)
    (text : List ℕ) : Type 0 where
  faulty_tables : (fault : TableFault)
      → FirstTableFault tables fault
      → status ≡ Refused
      → text ≡ tables_line fault →
      ExecRunOwes code tables options status text
  missing : (inputs : List Table) (name : List ℕ)
      → TablesOf tables inputs
      → first_missing_input code.tables inputs ≡ Some name →
      status ≡ Refused → text ≡ missing_line name → ExecRunOwes code tables options status text
  ran : (inputs : List Table) (report : ExecReport)
      → TablesOf tables inputs
      → first_missing_input code.tables inputs ≡ None →
      ComesTo code inputs options report
      → status ≡ exec_status report.«end»
      → text ≡ exec_text code report.«end» →
      ExecRunOwes code tables options status text

-- the same over the tables text of a name, or over the empty one
pub data NamedExecOwes (code : Listing) (told : List ℕ → Option (List ℕ)) (over : Option (List ℕ))
    (options : ExecOptions) (status : Status) (text : List ℕ) : Type 0 where
  long : {name : List ℕ}
      → over ≡ Some name
      → IfSome (told name) (λ tables. MAX_TABLES_BYTES < length tables) →
      status ≡ Refused → text ≡ too_long_line name →
      NamedExecOwes code told over options status text
  fits : (tables : List ℕ)
      → IfSome (text_over told over) (λ text. text ≡ tables)
      → length tables ≤ MAX_TABLES_BYTES →
      ExecRunOwes code tables options status text →
      NamedExecOwes code told over options status text

-- ---- a call

-- what a call owes whose words ask for a run of the code of that name, over the tables of a name or
-- over none, where the texts are these
pub data ExecOwes (name : List ℕ) (over : Option (List ℕ)) (options : ExecOptions)
    (source tables : List ℕ) (status : Status) (text : List ℕ) : Type 0 where
  too_long : MAX_CODE_BYTES < length source
      → status ≡ Refused
      → text ≡ too_long_line name
      → ExecOwes name over options source tables status text
  refused : length source ≤ MAX_CODE_BYTES
      → RefusesCode source text
      → status ≡ Refused
      → ExecOwes name over options source tables status text
  tables_too_long : {other : List ℕ} {code : Listing}
      → over ≡ Some other
      → length source ≤ MAX_CODE_BYTES
      → AcceptsCode source code
      → MAX_TABLES_BYTES < length tables →
      status ≡ Refused
      → text ≡ too_long_line other
      → ExecOwes name over options source tables status text
  ran : {code : Listing}
      → length source ≤ MAX_CODE_BYTES
      → AcceptsCode source code
      → length tables ≤ MAX_TABLES_BYTES →
      ExecRunOwes code tables options status text
      → ExecOwes name over options source tables status text
