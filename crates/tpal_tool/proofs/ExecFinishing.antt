-- From a run of a code that is prepared to what is owed.
use Rattle.std.proofs.Common.{◌≡◌, ℕ, List, refl, sym, subst}
use Rattle.std.specs.Prelude.{None, Some}
use Rattle.slices.specs.Holding.{Holding}
use Rattle.tp_value.specs.declared.values.Table.{Table}
use Rattle.table_text.specs.TablesText.{TablesOf}
use Rattle.tpal_syntax.specs.Listing.{Listing}
use Rattle.tpal_verify.specs.declared.report.ExecReport.{ExecReport}
use Rattle.tpal_verify.specs.Exec.{exec}
use Rattle.tpal_tool.specs.declared.answer.Answer.{Answer}
use Rattle.tpal_tool.specs.declared.running.EndedExec.{EndedExec}
use Rattle.tpal_tool.specs.declared.status.Status.{Status}
use Rattle.tpal_tool.specs.Answering.{whole_of}
use Rattle.tpal_tool.specs.CodeInputs.{AreCodeHeld, first_missing_input}
use Rattle.tpal_tool.specs.ExecOwed.{ExecRunOwes, exec_status, exec_text}
use Rattle.tpal_tool.specs.ExecOwed as owed
use Rattle.tpal_tool.specs.Preparing.{IsPreparedExec}
use Rattle.tpal_tool.specs.Words.{ExecOptions}

-- what is owed of one thing is owed of another
pub prepared_exec_more : {O P : Status → List ℕ → Type 0} (code : Listing) (held : List Holding) (options : ExecOptions) → ((status : Status) (text : List ℕ) → O status text → P status text) → IsPreparedExec O code held options → IsPreparedExec P code held options
prepared_exec_more code held options more r = record {
  as_many = r.as_many;
  done = λ report told. more (exec_status report.«end») (exec_text code report.«end») (r.done report told);
}

-- what a run comes to is what it owes
pub exec_owes : (code : Listing) (tables : List ℕ) (options : ExecOptions) (inputs : List Table) (held : List Holding) → TablesOf tables inputs → first_missing_input code.tables inputs ≡ None → AreCodeHeld code.tables inputs held → (report : ExecReport) → exec options.steps code options.beat options.forks held options.fuel ≡ Some report → ExecRunOwes code tables options (exec_status report.«end») (exec_text code report.«end»)
exec_owes code tables options inputs held are complete are_held report told =
    owed.ran inputs report are complete (record { holdings = held; are_held = are_held; told = told }) refl refl

-- the answer of a run that came to an end is what is owed
pub executed-owed : {O : Status → List ℕ → Type 0} (code : Listing) (held : List Holding) (options : ExecOptions) → IsPreparedExec O code held options → (run : EndedExec) → run.code ≡ code → exec options.steps code options.beat options.forks held options.fuel ≡ Some run.report → (answer : Answer) → answer.status ≡ exec_status run.report.«end» → whole_of answer.texts ≡ exec_text run.code run.report.«end» → O answer.status (whole_of answer.texts)
executed-owed {O = O} code held options r run same told answer status text =
    subst (λ (s : Status). O s (whole_of answer.texts)) (sym status)
    (subst (λ (t : List ℕ). O (exec_status run.report.«end») t) (sym text)
    (subst (λ (c : Listing). O (exec_status run.report.«end») (exec_text c run.report.«end»)) (sym same) (r.done run.report told)))
