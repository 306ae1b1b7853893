-- What the top call promises of a run of a code: which answer comes where.
use Rattle.std.specs.Prelude.{◌≡◌, ◌⊎◌, ℕ, ◌<◌, ◌≤◌, List, length, Option, Some, None}
use Rattle.tp_value.specs.declared.limits.TheConstants.{MAX_TABLES_BYTES}
use Rattle.tp_value.specs.declared.values.Table.{Table}
use Rattle.table_text.specs.declared.fault.TableFault.{TableFault}
use Rattle.table_text.specs.TablesText.{TablesOf, FirstTableFault}
use Rattle.tpal_syntax.specs.Listing.{Listing}
use Rattle.tpal_verify.specs.declared.report.ExecReport.{ExecReport}
use Rattle.tpal_tool.specs.declared.fetching.TheConstants.{MAX_CODE_BYTES}
use Rattle.tpal_tool.specs.declared.status.Status.{Status}
use Rattle.tpal_tool.specs.declared.status.Status.TheVariants.{NoMemory}
use Rattle.tpal_tool.specs.CodeInputs.{first_missing_input}
use Rattle.tpal_tool.specs.CodeVerdict.{AcceptsCode, RefusesCode}
use Rattle.tpal_tool.specs.ExecOwed.{ComesTo, exec_status, exec_text}
use Rattle.tpal_tool.specs.Lines.{missing_line, tables_line, too_long_line}
use Rattle.tpal_tool.specs.Owed.{IsFinal}
use Rattle.tpal_tool.specs.Promises.{IsRefusedWith, MeetsNoFault}
use Rattle.tpal_tool.specs.Sink.{Appended}
use Rattle.tpal_tool.specs.Told.{text_over}
use Rattle.tpal_tool.specs.Words.{ExecOptions, Command, Exec}

-- a run of the code of that name is asked for, whose text is told, and is that of this code
pub record AsksForCode (wanted : Option Command) (told : List ℕ → Option (List ℕ))
    (name : List ℕ) (over : Option (List ℕ)) (options : ExecOptions) (code : Listing) :
    Type 0 where
  pub asked : wanted ≡ Some (Exec name over options)
  pub source : List ℕ
  pub tells : told name ≡ Some source
  pub low : length source ≤ MAX_CODE_BYTES
  pub accepts : AcceptsCode source code

-- and over this tables text, which is told and not too long
pub record AsksForExec (wanted : Option Command) (told : List ℕ → Option (List ℕ))
    (name : List ℕ) (over : Option (List ℕ)) (options : ExecOptions) (code : Listing)
    (tables : List ℕ) : Type 0 where
  pub of_code : AsksForCode wanted told name over options code
  pub tells_tables : text_over told over ≡ Some tables
  pub few : length tables ≤ MAX_TABLES_BYTES

-- a run of the code came to an end, and this is its text and its status
pub record HasExecuted (old new : Option (List ℕ)) (status : Status) (code : Listing)
    (inputs : List Table) (options : ExecOptions) : Type 0 where
  pub report : ExecReport
  pub comes : ComesTo code inputs options report
  pub status_is : status ≡ exec_status report.«end»
  pub written : Appended old new (exec_text code report.«end»)

-- a call that came to its end refuses exactly what is to be refused of a code and its tables, and
-- else runs the code
pub record ExecsRightly (wanted : Option Command) (told : List ℕ → Option (List ℕ))
    (reads reads' : List ℕ → ℕ) (old new : Option (List ℕ)) (writes writes' : ℕ) (status : Status) :
    Type 0 where
  pub too_long : (name source : List ℕ) (over : Option (List ℕ)) (options : ExecOptions)
      → IsFinal status
      → wanted ≡ Some (Exec name over options)
      → told name ≡ Some source
      → MAX_CODE_BYTES < length source →
      IsRefusedWith old new status (too_long_line name)
  pub refused : (name source line : List ℕ) (over : Option (List ℕ)) (options : ExecOptions)
      → IsFinal status
      → wanted ≡ Some (Exec name over options)
      → told name ≡ Some source
      → length source ≤ MAX_CODE_BYTES
      → RefusesCode source line →
      IsRefusedWith old new status line
  pub tables_too_long : (name other tables : List ℕ) (options : ExecOptions) (code : Listing)
      → IsFinal status
      → AsksForCode wanted told name (Some other) options code
      → told other ≡ Some tables
      → MAX_TABLES_BYTES < length tables →
      IsRefusedWith old new status (too_long_line other)
  pub faulty_tables : (name : List ℕ) (over : Option (List ℕ)) (options : ExecOptions)
      (code : Listing) (tables : List ℕ) (fault : TableFault)
      → IsFinal status
      → AsksForExec wanted told name over options code tables
      → FirstTableFault tables fault →
      IsRefusedWith old new status (tables_line fault)
  pub missing : (name : List ℕ) (over : Option (List ℕ)) (options : ExecOptions) (code : Listing)
      (tables : List ℕ) (inputs : List Table) (input : List ℕ)
      → IsFinal status
      → AsksForExec wanted told name over options code tables
      → TablesOf tables inputs
      → first_missing_input code.tables inputs ≡ Some input →
      IsRefusedWith old new status (missing_line input)
  pub executed : (name : List ℕ) (over : Option (List ℕ)) (options : ExecOptions)
      (code : Listing) (tables : List ℕ) (inputs : List Table)
      → IsFinal status
      → AsksForExec wanted told name over options code tables
      → TablesOf tables inputs
      → first_missing_input code.tables inputs ≡ None →
      HasExecuted old new status code inputs options
  -- with no counted fault, it runs the code, or finds no memory
  pub executes : (name : List ℕ) (over : Option (List ℕ)) (options : ExecOptions)
      (code : Listing) (tables : List ℕ) (inputs : List Table)
      → AsksForExec wanted told name over options code tables
      → TablesOf tables inputs
      → first_missing_input code.tables inputs ≡ None
      → MeetsNoFault (Exec name over options) reads reads' writes writes' →
      HasExecuted old new status code inputs options ⊎ (status ≡ NoMemory)
