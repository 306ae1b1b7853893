-- From a run that is prepared to what is owed.
use Rattle.std.proofs.Common.{◌≡◌, ℕ, List, refl, ap, subst, ◌∙◌}
use Rattle.std.specs.Prelude.{Bool, true, false, None}
use Rattle.slices.specs.Holding.{Holding}
use Rattle.tp_value.specs.declared.values.Outcome.{Outcome}
use Rattle.tp_value.specs.declared.values.Table.{Table}
use Rattle.loop_syntax.specs.declared.program.Program.{Program}
use Rattle.loop_meaning.specs.Answers.{status_of, text_of}
use Rattle.loop_meaning.specs.Meaning.{meaning}
use Rattle.table_text.specs.TablesText.{TablesOf}
use Rattle.tpal_syntax.specs.Listing.{Listing}
use Rattle.schedule_core.specs.Counting.{tally_of}
use Rattle.tpal_machine.specs.declared.ends.Ending.{Ending}
use Rattle.tpal_machine.specs.declared.ends.Ending.TheVariants.{At, Root}
use Rattle.tpal_machine.specs.Owes.{Owes}
use Rattle.tpal_machine.specs.State.{State, first_state}
use Rattle.tpal_machine.proofs.Owing.{no_least}
use Rattle.tpal_tool.specs.declared.answer.Answer.{Answer}
use Rattle.tpal_tool.specs.declared.running.EndedRun.{EndedRun}
use Rattle.tpal_tool.specs.declared.status.Status.{Status}
use Rattle.tpal_tool.specs.declared.status.Status.TheVariants.{Done, Trap, OutOfFuel}
use Rattle.tpal_tool.specs.Answering.{whole_of}
use Rattle.tpal_tool.specs.Inputs.{first_missing}
use Rattle.tpal_tool.specs.Owed.{Ran, RunOwes, ShowsRun}
use Rattle.tpal_tool.specs.Owed as owed
use Rattle.tpal_tool.specs.Preparing.{IsFirstTask, IsPreparedFor, RunText, plain, shown}
use Rattle.tpal_tool.specs.Running.{IsEndOf}
use Rattle.tpal_tool.specs.Words.{Options}

by_show : {P : Type 0} (show : Bool) → (show ≡ false → P) → (show ≡ true → P) → P
by_show false hidden shows = hidden refl
by_show true hidden shows = shows refl

-- what is owed of one thing is owed of another
pub prepared_more : {O P : Status → List ℕ → Type 0} (code : Listing) (held : List Holding) (options : Options) → ((status : Status) (text : List ℕ) → O status text → P status text) → IsPreparedFor O code held options → IsPreparedFor P code held options
prepared_more code held options more r = record {
  program = r.program;
  inputs = r.inputs;
  first = r.first;
  done = λ status text is run. more status text (r.done status text is run);
}

-- the text of a run is what the run owes
pub run_owes : (program : Program) (tables : List ℕ) (options : Options) (inputs : List Table) → TablesOf tables inputs → first_missing program.tables.items inputs ≡ None → (status : Status) (text : List ℕ) → status ≡ status_of Done Trap OutOfFuel (meaning program inputs options.fuel) → RunText program inputs options text → RunOwes program tables options status text
run_owes program tables options inputs are complete status text is (plain hidden text_is) = owed.ran inputs are complete is hidden text_is
run_owes program tables options inputs are complete status text is (shown show shows) = owed.shown inputs are complete is show shows

-- the answer of a run that came to its end is what is owed
pub ended-owed : {O : Status → List ℕ → Type 0} (code : Listing) (held : List Holding) (options : Options) (r : IsPreparedFor O code held options) (run : EndedRun) → IsEndOf r.program r.inputs options run → (answer : Answer) → answer.status ≡ status_of Done Trap OutOfFuel run.report.outcome → (run.show ≡ false → whole_of answer.texts ≡ text_of run.report.outcome) → (run.show ≡ true → ShowsRun run.code run.report.outcome (tally_of run.report) (whole_of answer.texts)) → O answer.status (whole_of answer.texts)
ended-owed code held options r run is answer status hides shows =
    r.done answer.status (whole_of answer.texts) (status ∙ ap (status_of Done Trap OutOfFuel) is.outcome)
    (by_show options.show
    (λ hidden. plain hidden (hides (is.show ∙ hidden) ∙ ap text_of is.outcome))
    (λ show. shown show (record {
      code = run.code;
      owes = is.owes;
      tally = tally_of run.report;
      ran = subst (λ (o : Outcome). Ran r.program run.code r.inputs options o (tally_of run.report)) is.outcome is.ran;
      shows = subst (λ (o : Outcome). ShowsRun run.code o (tally_of run.report) (whole_of answer.texts)) is.outcome (shows (is.show ∙ show));
    })))

-- ---- the first task of a run

abbrev pub outcome_in : Outcome → Ending → Outcome
outcome_in other (Root outcome) = outcome
outcome_in other (At rec side out) = other

-- how many promotion points are entered doesn't matter here
whatever_least : (code : Listing) (heartbeat n : ℕ) (state : State) (e : Ending) → Owes code heartbeat false n state e → Owes code heartbeat false 0 state e
whatever_least code heartbeat n state e owes = record {
  belongs = owes.belongs;
  waits_not = owes.waits_not;
  bound = no_least code heartbeat false n state e owes.bound;
}

-- the first task of a program owes the program's meaning
pub first_owes : (program : Program) (inputs : List Table) (code : Listing) (held task_held : List Holding) (options : Options) → IsFirstTask program inputs code held → held ≡ task_held → Owes code options.beat false 0 (first_state task_held options.fuel) (Root (meaning program inputs options.fuel))
first_owes program inputs code held task_held options first same =
    subst (λ (hs : List Holding). Owes code options.beat false 0 (first_state hs options.fuel) (Root (meaning program inputs options.fuel))) same
    (whatever_least code options.beat _ (first_state held options.fuel) (Root (meaning program inputs options.fuel))
    (first.owes.promoted inputs held options.beat options.fuel first.tables first.named first.are_held))
