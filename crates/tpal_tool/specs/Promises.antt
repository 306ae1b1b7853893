-- What the top call promises beside the headline: why it ends without that, and which answer comes
-- where.
use Rattle.std.specs.Prelude.{◌≡◌, ◌⊎◌, ◌↔◌, ℕ, ◌<◌, ◌≤◌, false, List, [], length, Option}
use Rattle.std.specs.Prelude.{Some, None}
use Rattle.tp_value.specs.declared.limits.TheConstants.{MAX_SOURCE_BYTES, MAX_TABLES_BYTES}
use Rattle.tp_value.specs.declared.values.Table.{Table}
use Rattle.loop_syntax.specs.declared.program.Program.{Program}
use Rattle.loop_meaning.specs.Answers.{status_of}
use Rattle.loop_meaning.specs.Meaning.{meaning}
use Rattle.table_text.specs.declared.fault.TableFault.{TableFault}
use Rattle.table_text.specs.TablesText.{TablesOf, FirstTableFault}
use Rattle.tpal_tool.specs.declared.status.Status.{Status}
use Rattle.tpal_tool.specs.declared.status.Status.TheVariants.{Done, Trap, OutOfFuel, Refused}
use Rattle.tpal_tool.specs.declared.status.Status.TheVariants.{NoMemory, ReadFault, WriteFault}
use Rattle.tpal_tool.specs.declared.status.Status.TheVariants.{BadWords}
use Rattle.tpal_tool.specs.Inputs.{first_missing}
use Rattle.tpal_tool.specs.Lines as lines
use Rattle.tpal_tool.specs.Lines.{missing_line, tables_line, too_long_line}
use Rattle.tpal_tool.specs.Owed.{CutShort, IsFinal, Names, ReadFailed, RunOwes}
use Rattle.tpal_tool.specs.Shelf.{HasRisen}
use Rattle.tpal_tool.specs.Sink.{Appended}
use Rattle.tpal_tool.specs.Told.{told_source, told_tables}
use Rattle.tpal_tool.specs.Verdict.{Accepts, Refuses}
use Rattle.tpal_tool.specs.Words.{Options, Command, Run, Compile, program_name, run_options}

-- ---- why a call ends without the whole text

-- each way to end without the whole text has its cause
pub record HasCause (wanted : Option Command) (told : List ℕ → Option (List ℕ))
    (reads reads' : List ℕ → ℕ) (old new : Option (List ℕ)) (writes writes' : ℕ) (status : Status) :
    Type 0 where
  pub read_fault : status ≡ ReadFault → ReadFailed wanted told reads reads'
  pub read_fault_writes_nothing : status ≡ ReadFault → Appended old new []
  pub write_fault : status ≡ WriteFault → HasRisen writes writes'
  pub write_fault_prefix : status ≡ WriteFault → CutShort wanted told old new
  pub no_memory : status ≡ NoMemory → Appended old new [] ⊎ CutShort wanted told old new

-- ---- what is asked for, of texts that are told

-- a command is asked for, and its source text is told, and is that of this program
pub record AsksFor (wanted : Option Command) (told : List ℕ → Option (List ℕ)) (command : Command)
    (program : Program) : Type 0 where
  pub asked : wanted ≡ Some command
  pub source : List ℕ
  pub tells : told_source told command ≡ Some source
  pub low : length source ≤ MAX_SOURCE_BYTES
  pub accepts : Accepts source program

-- and a run with these options, over this tables text, which is told and not too long
pub record AsksForRun (wanted : Option Command) (told : List ℕ → Option (List ℕ))
    (command : Command) (program : Program) (tables : List ℕ) (options : Options) : Type 0 where
  pub of_program : AsksFor wanted told command program
  pub goes : run_options command ≡ Some options
  pub tells_tables : told_tables told command ≡ Some tables
  pub few : length tables ≤ MAX_TABLES_BYTES

-- no count of faults rose that the call may name as a cause
pub record MeetsNoFault (command : Command) (reads reads' : List ℕ → ℕ) (writes writes' : ℕ) :
    Type 0 where
  pub no_read : (name : List ℕ) → Names command name → HasRisen (reads name) (reads' name) → ⊥
  pub no_write : HasRisen writes writes' → ⊥

-- ---- which answer comes where

-- something was refused, and this line was written
pub record IsRefusedWith (old new : Option (List ℕ)) (status : Status) (line : List ℕ) :
    Type 0 where
  pub refused : status ≡ Refused
  pub written : Appended old new line

-- a call that came to its end refuses exactly what is to be refused
pub record RefusesRightly (wanted : Option Command) (told : List ℕ → Option (List ℕ))
    (old new : Option (List ℕ)) (status : Status) : Type 0 where
  pub bad_words : IsFinal status → (status ≡ BadWords) ↔ (wanted ≡ None)
  pub bad_words_line : status ≡ BadWords → Appended old new lines.bad_words_line
  pub too_long : (command : Command) (name source : List ℕ)
      → IsFinal status
      → wanted ≡ Some command
      → program_name command ≡ Some name
      → told name ≡ Some source
      → MAX_SOURCE_BYTES < length source →
      IsRefusedWith old new status (too_long_line name)
  pub refused : (command : Command) (source line : List ℕ)
      → IsFinal status
      → wanted ≡ Some command
      → told_source told command ≡ Some source
      → length source ≤ MAX_SOURCE_BYTES
      → Refuses source line →
      IsRefusedWith old new status line
  pub tables_too_long : (name over tables : List ℕ) (options : Options) (program : Program)
      → IsFinal status
      → AsksFor wanted told (Run name (Some over) options) program
      → told over ≡ Some tables
      → MAX_TABLES_BYTES < length tables →
      IsRefusedWith old new status (too_long_line over)
  pub faulty_tables : (command : Command) (program : Program) (tables : List ℕ)
      (options : Options) (fault : TableFault)
      → IsFinal status
      → AsksForRun wanted told command program tables options
      → FirstTableFault tables fault →
      IsRefusedWith old new status (tables_line fault)
  pub missing : (command : Command) (program : Program) (tables : List ℕ) (options : Options)
      (inputs : List Table) (input : List ℕ)
      → IsFinal status
      → AsksForRun wanted told command program tables options
      → TablesOf tables inputs
      → first_missing program.tables.items inputs ≡ Some input →
      IsRefusedWith old new status (missing_line input)

-- a program that is accepted runs over its tables text, or is compiled
pub record RunsOrCompiles (wanted : Option Command) (told : List ℕ → Option (List ℕ))
    (reads reads' : List ℕ → ℕ) (old new : Option (List ℕ)) (writes writes' : ℕ) (status : Status) :
    Type 0 where
  pub ran : (command : Command) (program : Program) (tables : List ℕ) (options : Options)
      (owed : Status) (text : List ℕ)
      → IsFinal status
      → AsksForRun wanted told command program tables options
      → RunOwes program tables options owed text →
      (status ≡ owed) × (options.show ≡ false → Appended old new text)
  pub compiled : (name : List ℕ) (program : Program)
      → IsFinal status
      → AsksFor wanted told (Compile name) program →
      status ≡ Done
  -- over tables that have each input, and with no counted fault, a run ends as the program's
  -- meaning does, or finds no memory
  pub runs : (command : Command) (program : Program) (tables : List ℕ) (options : Options)
      (inputs : List Table)
      → AsksForRun wanted told command program tables options
      → TablesOf tables inputs
      → first_missing program.tables.items inputs ≡ None
      → MeetsNoFault command reads reads' writes writes' →
      (status ≡ status_of Done Trap OutOfFuel (meaning program inputs options.fuel))
      ⊎ (status ≡ NoMemory)
  pub compiles : (name : List ℕ) (program : Program)
      → AsksFor wanted told (Compile name) program
      → MeetsNoFault (Compile name) reads reads' writes writes' →
      (status ≡ Done) ⊎ (status ≡ NoMemory)
