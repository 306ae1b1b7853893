-- What a run comes to.
use Rattle.std.specs.Prelude.{◌≡◌, List}
use Rattle.tp_value.specs.declared.values.Table.{Table}
use Rattle.loop_syntax.specs.declared.program.Program.{Program}
use Rattle.loop_meaning.specs.Meaning.{meaning}
use Rattle.schedule_core.specs.Counting.{tally_of}
use Rattle.code_laws.specs.Owing.{OwesMeaning}
use Rattle.tpal_tool.specs.declared.running.EndedRun.{EndedRun}
use Rattle.tpal_tool.specs.Owed.{Ran}
use Rattle.tpal_tool.specs.Words.{Options}

-- a run of a program over inputs came to its end: a code that owes the program's meaning was run,
-- with these options, and came to that meaning
pub record IsEndOf (program : Program) (inputs : List Table) (options : Options) (run : EndedRun) :
    Type 0 where
  pub owes : OwesMeaning program run.code
  pub outcome : run.report.outcome ≡ meaning program inputs options.fuel
  pub ran : Ran program run.code inputs options run.report.outcome (tally_of run.report)
  pub show : run.show ≡ options.show
