-- What a call comes to before anything runs.
use Rattle.std.specs.Prelude.{◌≡◌, ℕ, All, true, false, List, length, Some}
use Rattle.slices.specs.Holding.{Holding}
use Rattle.tp_value.specs.declared.values.Table.{Table}
use Rattle.loop_syntax.specs.declared.program.Program.{Program}
use Rattle.loop_meaning.specs.Answers.{status_of, text_of}
use Rattle.loop_meaning.specs.Meaning.{meaning}
use Rattle.tpal_syntax.specs.Listing.{Listing}
use Rattle.tpal_syntax.specs.declared.versions.Version.TheVariants.{Two}
use Rattle.tpal_syntax.specs.Text.{CodeTextIn}
use Rattle.scene_laws.specs.Tables.{AreHeld, AreNamed, IsTable}
use Rattle.code_laws.specs.Owing.{OwesMeaning}
use Rattle.tpal_tool.specs.declared.prepared.Prepared.{Prepared}
use Rattle.tpal_tool.specs.declared.prepared.Prepared.TheVariants as prepared
use Rattle.tpal_tool.specs.declared.status.Status.{Status}
use Rattle.tpal_tool.specs.declared.status.Status.TheVariants.{Done, Trap, OutOfFuel}
use Rattle.tpal_verify.specs.declared.report.ExecReport.{ExecReport}
use Rattle.tpal_verify.specs.Exec.{exec}
use Rattle.tpal_tool.specs.Asking.{exec_options_seen, options_seen}
use Rattle.tpal_tool.specs.ExecOwed.{exec_status, exec_text}
use Rattle.tpal_tool.specs.Owed.{Shows}
use Rattle.tpal_tool.specs.Words.{ExecOptions, Options}

-- the text of a run
pub data RunText (program : Program) (inputs : List Table) (options : Options) (text : List ℕ) :
    Type 0 where
  plain : options.show ≡ false
      → text ≡ text_of (meaning program inputs options.fuel)
      → RunText program inputs options text
  shown : options.show ≡ true
      → Shows program inputs options text
      → RunText program inputs options text

-- the first task of a code, which holds this, owes the meaning of a program over inputs
pub record IsFirstTask (program : Program) (inputs : List Table) (code : Listing)
    (held : List Holding) : Type 0 where
  pub owes : OwesMeaning program code
  pub tables : All IsTable inputs
  pub named : AreNamed program.tables.items inputs
  pub are_held : AreHeld program.tables.items inputs held

-- a run is about to begin from the first task of a program; and who answers the status and the text
-- of that program's meaning answers what is owed
pub record IsPreparedFor (Owes : Status → List ℕ → Type 0) (code : Listing) (held : List Holding)
    (options : Options) : Type 0 where
  pub program : Program
  pub inputs : List Table
  pub first : IsFirstTask program inputs code held
  pub done : (status : Status) (text : List ℕ)
      → status ≡ status_of Done Trap OutOfFuel (meaning program inputs options.fuel)
      → RunText program inputs options text
      → Owes status text

-- a run of a code is about to begin; and who answers the status and the text that it comes to
-- answers what is owed
pub record IsPreparedExec (Owes : Status → List ℕ → Type 0) (code : Listing) (held : List Holding)
    (options : ExecOptions) : Type 0 where
  pub as_many : length held ≡ length code.tables
  pub done : (report : ExecReport)
      → exec options.steps code options.beat options.forks held options.fuel ≡ Some report
      → Owes (exec_status report.«end») (exec_text code report.«end»)

-- the text of a code is what is owed, and that of a run will be
abbrev pub Prepares : (Status → List ℕ → Type 0) → Prepared → Type 0
Prepares Owes (prepared.Compiled code) =
    (text : List ℕ) → CodeTextIn Two text code.tables code.blocks → Owes Done text
Prepares Owes (prepared.Run run) =
    IsPreparedFor Owes run.code run.held.items (options_seen run.options)
Prepares Owes (prepared.Exec run) =
    IsPreparedExec Owes run.code run.held.items (exec_options_seen run.options)

-- a run has so many workers
abbrev pub HasWorkers : ℕ → Prepared → Type 0
HasWorkers workers (prepared.Compiled code) = Unit {0}
HasWorkers workers (prepared.Run run) = run.options.workers ≡ workers
HasWorkers workers (prepared.Exec run) = workers ≡ 1
