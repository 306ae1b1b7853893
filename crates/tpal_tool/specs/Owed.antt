-- What a call owes.
use Rattle.std.specs.Prelude.{◌≡◌, ◌≢◌, ◌⊎◌, ℕ, ◌+◌, ◌*◌, ◌<◌, ◌≤◌, true, false, List, [], ◌++◌}
use Rattle.std.specs.Prelude.{length, Option, Some, None, IfSome}
use Rattle.slices.specs.Holding.{Holding}
use Rattle.tp_value.specs.declared.limits.TheConstants.{MAX_SOURCE_BYTES, MAX_TABLES_BYTES}
use Rattle.tp_value.specs.declared.values.Outcome.{Outcome}
use Rattle.tp_value.specs.declared.values.Table.{Table}
use Rattle.loop_syntax.specs.declared.program.Program.{Program}
use Rattle.loop_meaning.specs.Answers.{status_of, text_of}
use Rattle.loop_meaning.specs.Meaning.{meaning}
use Rattle.table_text.specs.declared.fault.TableFault.{TableFault}
use Rattle.table_text.specs.TablesText.{TablesOf, FirstTableFault}
use Rattle.tpal_syntax.specs.Listing.{Listing}
use Rattle.tpal_syntax.specs.declared.versions.Version.TheVariants.{Two}
use Rattle.tpal_syntax.specs.Text.{CodeTextIn}
use Rattle.tpal_machine.specs.State.{first_state}
use Rattle.schedule_core.specs.declared.lanes.Tally.{Tally}
use Rattle.schedule_core.specs.Solo.{SoloRun}
use Rattle.scene_laws.specs.Tables.{AreHeld}
use Rattle.code_laws.specs.Owing.{OwesMeaning}
use Rattle.tpal_tool.specs.declared.status.Status.{Status}
use Rattle.tpal_tool.specs.declared.status.Status.TheVariants.{Done, Trap, OutOfFuel, Refused}
use Rattle.tpal_tool.specs.declared.status.Status.TheVariants.{NoMemory, ReadFault, WriteFault}
use Rattle.tpal_tool.specs.declared.status.Status.TheVariants.{BadWords}
use Rattle.tpal_tool.specs.Inputs.{first_missing}
use Rattle.tpal_tool.specs.Lines.{bad_words_line, counts_line, missing_line, tables_line}
use Rattle.tpal_tool.specs.Lines.{too_long_line}
use Rattle.tpal_tool.specs.Shelf.{HasRisen}
use Rattle.tpal_tool.specs.Sink.{Appended, PrefixAppended}
use Rattle.tpal_tool.specs.ExecOwed.{ExecOwes}
use Rattle.tpal_tool.specs.Told.{IsCodeOf, IsProgramOf, text_over, told_code, told_source}
use Rattle.tpal_tool.specs.Told.{told_tables}
use Rattle.tpal_tool.specs.Verdict.{RefusesOnly, AcceptsOnly}
use Rattle.tpal_tool.specs.Words.{Options, ExecOptions, Command, Run, Compile, Exec, code_name}
use Rattle.tpal_tool.specs.Words.{file_name, program_name, tables_name, run_options}

-- ---- what a program owes

-- These counts go with a run of a code from its first task, over these inputs, that came to this
-- outcome. There are at most as many beats as the options allow a worker, times the workers; each
-- made a task or was skipped; and so many instructions as the heartbeat were executed for each
-- task. With one worker they are those of the solo run. With several nothing else is said of them:
-- not that they come of a run, nor by how many workers.
pub record Ran (program : Program) (code : Listing) (inputs : List Table) (options : Options)
    (outcome : Outcome) (tally : Tally) : Type 0 where
  pub holdings : List Holding
  pub are_held : AreHeld program.tables.items inputs holdings
  pub forks : tally.beats ≤ options.forks * options.workers
  pub beats : tally.tasks + tally.skipped ≡ tally.beats
  pub paid : tally.tasks * options.beat ≤ tally.instructions
  pub alone : options.workers ≡ 1
      → SoloRun code options.beat options.forks (first_state holdings options.fuel) outcome tally

-- the text of a code, then that of an outcome, and then the line of these counts
pub record ShowsRun (code : Listing) (outcome : Outcome) (tally : Tally) (text : List ℕ) :
    Type 0 where
  pub bytes : List ℕ
  pub code_text : CodeTextIn Two bytes code.tables code.blocks
  pub whole : text ≡ bytes ++ text_of outcome ++ counts_line tally outcome.ticks

-- the text of a run that is shown: a code whose first task owes the program's meaning, whatever is
-- promoted, that meaning's output, and the counts of workers that ran this code
pub record Shows (program : Program) (inputs : List Table) (options : Options) (text : List ℕ) :
    Type 0 where
  pub code : Listing
  pub owes : OwesMeaning program code
  pub tally : Tally
  pub ran : Ran program code inputs options (meaning program inputs options.fuel) tally
  pub shows : ShowsRun code (meaning program inputs options.fuel) tally text

-- what a run of a program over a tables text owes, with these options: this status, and this text
pub data RunOwes (program : Program) (tables : List ℕ) (options : Options) (status : Status)
    (text : List ℕ) : Type 0 where
  faulty_tables : (fault : TableFault)
      → FirstTableFault tables fault
      → status ≡ Refused
      → text ≡ tables_line fault →
      RunOwes program tables options status text
  missing : (inputs : List Table) (name : List ℕ)
      → TablesOf tables inputs
      → first_missing program.tables.items inputs ≡ Some name →
      status ≡ Refused → text ≡ missing_line name → RunOwes program tables options status text
  ran : (inputs : List Table)
      → TablesOf tables inputs
      → first_missing program.tables.items inputs ≡ None →
      status ≡ status_of Done Trap OutOfFuel (meaning program inputs options.fuel)
      → options.show ≡ false
      → text ≡ text_of (meaning program inputs options.fuel) →
      RunOwes program tables options status text
  shown : (inputs : List Table)
      → TablesOf tables inputs
      → first_missing program.tables.items inputs ≡ None →
      status ≡ status_of Done Trap OutOfFuel (meaning program inputs options.fuel)
      → options.show ≡ true
      → Shows program inputs options text →
      RunOwes program tables options status text

-- the text is that of a code whose first task owes the program's meaning, whatever is promoted
pub record CompilesTo (program : Program) (text : List ℕ) : Type 0 where
  pub code : Listing
  pub code_text : CodeTextIn Two text code.tables code.blocks
  pub owes : OwesMeaning program code

-- ---- what a call owes

-- what a call owes whose words ask for this, or are not of the form, where the texts that it is
-- about are these
pub data Owes (wanted : Option Command) (source tables : List ℕ) (status : Status) (text : List ℕ) :
    Type 0 where
  bad_words : wanted ≡ None
      → status ≡ BadWords
      → text ≡ bad_words_line
      → Owes wanted source tables status text
  too_long : {command : Command} {name : List ℕ}
      → wanted ≡ Some command
      → program_name command ≡ Some name
      → MAX_SOURCE_BYTES < length source →
      status ≡ Refused → text ≡ too_long_line name → Owes wanted source tables status text
  refused : {command : Command}
      → wanted ≡ Some command
      → code_name command ≡ None
      → length source ≤ MAX_SOURCE_BYTES
      → RefusesOnly source text →
      status ≡ Refused → Owes wanted source tables status text
  compiled : {name : List ℕ} {program : Program}
      → wanted ≡ Some (Compile name)
      → length source ≤ MAX_SOURCE_BYTES →
      AcceptsOnly source program
      → status ≡ Done
      → CompilesTo program text
      → Owes wanted source tables status text
  tables_too_long : {name over : List ℕ} {options : Options} {program : Program}
      → wanted ≡ Some (Run name (Some over) options) →
      length source ≤ MAX_SOURCE_BYTES
      → AcceptsOnly source program
      → MAX_TABLES_BYTES < length tables →
      status ≡ Refused → text ≡ too_long_line over → Owes wanted source tables status text
  ran : {command : Command} {options : Options} {program : Program}
      → wanted ≡ Some command
      → run_options command ≡ Some options →
      length source ≤ MAX_SOURCE_BYTES
      → AcceptsOnly source program
      → length tables ≤ MAX_TABLES_BYTES →
      RunOwes program tables options status text → Owes wanted source tables status text
  executed : {name : List ℕ} {over : Option (List ℕ)} {options : ExecOptions}
      → wanted ≡ Some (Exec name over options)
      → ExecOwes name over options source tables status text →
      Owes wanted source tables status text

-- the texts that are asked for are these, where they are told
pub record AreTexts (wanted : Option Command) (told : List ℕ → Option (List ℕ))
    (source tables : List ℕ) : Type 0 where
  pub is_source : (command : Command)
      → wanted ≡ Some command
      → IfSome (told_source told command) (λ text. text ≡ source)
  pub is_code : (command : Command)
      → wanted ≡ Some command
      → IfSome (told_code told command) (λ text. text ≡ source)
  pub is_tables : (command : Command)
      → wanted ≡ Some command
      → IfSome (told_tables told command) (λ text. text ≡ tables)

-- ---- how a call ends

-- a call that came to its end: it wrote the whole text that it owed, and answered the status that
-- it owed
pub record Finished (wanted : Option Command) (told : List ℕ → Option (List ℕ))
    (old new : Option (List ℕ)) (status : Status) : Type 0 where
  pub source : List ℕ
  pub tables : List ℕ
  pub are_texts : AreTexts wanted told source tables
  pub text : List ℕ
  pub owed : Owes wanted source tables status text
  pub written : Appended old new text

-- a call that was cut short while it wrote: a prefix of the text that it owed was written
pub record CutShort (wanted : Option Command) (told : List ℕ → Option (List ℕ))
    (old new : Option (List ℕ)) : Type 0 where
  pub source : List ℕ
  pub tables : List ℕ
  pub are_texts : AreTexts wanted told source tables
  pub status : Status
  pub text : List ℕ
  pub owed : Owes wanted source tables status text
  pub some : text ≢ []
  pub written : PrefixAppended old new text

-- a name that is asked for: that of the program's or the code's text, or that of the tables' text
abbrev pub Names : Command → List ℕ → Type 0
Names command name = (file_name command ≡ Some name) ⊎ (tables_name command ≡ Some name)

-- the count of the faults of a name rose: that of the program's or the code's text, or, where that
-- text was accepted, that of the tables' text
pub data ReadFailed (wanted : Option Command) (told : List ℕ → Option (List ℕ))
    (old new : List ℕ → ℕ) : Type 0 where
  program_failed : {command : Command} {name : List ℕ}
      → wanted ≡ Some command
      → program_name command ≡ Some name
      → HasRisen (old name) (new name) →
      ReadFailed wanted told old new
  tables_failed : {name over : List ℕ} {options : Options} {program : Program}
      → wanted ≡ Some (Run name (Some over) options)
      → IsProgramOf (told name) program
      → HasRisen (old over) (new over) →
      ReadFailed wanted told old new
  code_failed : {command : Command} {name : List ℕ}
      → wanted ≡ Some command
      → code_name command ≡ Some name
      → HasRisen (old name) (new name) →
      ReadFailed wanted told old new
  code_tables_failed : {name over : List ℕ} {options : ExecOptions} {code : Listing}
      → wanted ≡ Some (Exec name (Some over) options)
      → IsCodeOf (told name) code
      → HasRisen (old over) (new over) →
      ReadFailed wanted told old new

-- a status with which the whole text was written
abbrev pub IsFinal : Status → Type 0
IsFinal Done = Unit {0}
IsFinal Trap = Unit {0}
IsFinal OutOfFuel = Unit {0}
IsFinal Refused = Unit {0}
IsFinal BadWords = Unit {0}
IsFinal NoMemory = ⊥
IsFinal ReadFault = ⊥
IsFinal WriteFault = ⊥

-- how a call ends
pub data Ends (wanted : Option Command) (told : List ℕ → Option (List ℕ))
    (reads reads' : List ℕ → ℕ) (old new : Option (List ℕ)) (writes writes' : ℕ) (status : Status) :
    Type 0 where
  finished : IsFinal status
      → Finished wanted told old new status
      → Ends wanted told reads reads' old new writes writes' status
  read_failed : status ≡ ReadFault
      → ReadFailed wanted told reads reads'
      → Appended old new []
      → Ends wanted told reads reads' old new writes writes' status
  write_failed : status ≡ WriteFault
      → HasRisen writes writes'
      → CutShort wanted told old new
      → Ends wanted told reads reads' old new writes writes' status
  no_memory : status ≡ NoMemory
      → Appended old new [] ⊎ CutShort wanted told old new
      → Ends wanted told reads reads' old new writes writes' status

-- what came of writing a text with a status
pub data IsWritten (old new : Option (List ℕ)) (writes writes' : ℕ) (owed : Status) (text : List ℕ)
    (status : Status) : Type 0 where
  whole : status ≡ owed → Appended old new text → IsWritten old new writes writes' owed text status
  failed : status ≡ WriteFault
      → HasRisen writes writes'
      → text ≢ []
      → PrefixAppended old new text
      → IsWritten old new writes writes' owed text status
  no_room : status ≡ NoMemory
      → text ≢ []
      → PrefixAppended old new text
      → IsWritten old new writes writes' owed text status

-- ---- the parts of a call

-- what a call owes, over some texts that are the named ones where those are told
abbrev pub Owed : (wanted : Option Command) (told : List ℕ → Option (List ℕ)) (status : Status)
    (text : List ℕ)
    → Type 0
Owed wanted told status text =
    (source : List ℕ)
    × (tables : List ℕ)
    × AreTexts wanted told source tables
    × Owes wanted source tables status text

-- what a run of a program owes over the tables text of a name, or over the empty one
pub data NamedRunOwes (program : Program) (told : List ℕ → Option (List ℕ)) (over : Option (List ℕ))
    (options : Options) (status : Status) (text : List ℕ) : Type 0 where
  long : {name : List ℕ}
      → over ≡ Some name
      → IfSome (told name) (λ tables. MAX_TABLES_BYTES < length tables) →
      status ≡ Refused → text ≡ too_long_line name →
      NamedRunOwes program told over options status text
  fits : (tables : List ℕ)
      → IfSome (text_over told over) (λ text. text ≡ tables)
      → length tables ≤ MAX_TABLES_BYTES →
      RunOwes program tables options status text →
      NamedRunOwes program told over options status text
