-- How a call ends that runs a code.
use Rattle.std.proofs.Common.{◌≡◌, ℕ, List, ap, sym, ◌∙◌, arith, subst}
use Rattle.std.specs.Prelude.{Option}
use Rattle.tp_value.specs.declared.values.Stop.{Stop}
use Rattle.tp_value.specs.declared.values.Stop.TheVariants as stops
use Rattle.loop_meaning.specs.Answers.{by_stop}
use Rattle.tpal_syntax.specs.Listing.{Listing}
use Rattle.tpal_verify.specs.declared.report.ExecEnd.{ExecEnd}
use Rattle.tpal_verify.specs.declared.report.ExecEnd.TheVariants.{Ended, Spent, Stuck}
use Rattle.tpal_tool.specs.declared.status.Status.{Status}
use Rattle.tpal_tool.specs.declared.status.Status.TheVariants.{Done, Trap, OutOfFuel, BadWords}
use Rattle.tpal_tool.specs.ExecOwed.{exec_status, ExecRunOwes, faulty_tables, missing, ran}
use Rattle.tpal_tool.specs.ExecOwed.{ExecOwes}
use Rattle.tpal_tool.specs.ExecOwed as exec
use Rattle.tpal_tool.specs.Owed.{IsFinal}
use Rattle.tpal_tool.specs.Statuses.{number_of}
use Rattle.tpal_tool.specs.Words.{ExecOptions}

final : {status other : Status} → status ≡ other → IsFinal other → IsFinal status
final is ends = subst (λ (s : Status). IsFinal s) (sym is) ends

by_stop-final : (stop : Stop) → IsFinal (by_stop Done Trap OutOfFuel stop)
by_stop-final stops.Done = tt
by_stop-final (stops.Left n) = tt
by_stop-final (stops.Trap kind place) = tt
by_stop-final stops.NoFuel = tt

-- whatever a run of a code ends with, its text is written whole
exec_status-final : (way : ExecEnd) → IsFinal (exec_status way)
exec_status-final (Ended outcome) = by_stop-final outcome.stop
exec_status-final Spent = tt
exec_status-final (Stuck fault block at) = tt

ExecRunOwes-final : {code : Listing} {tables : List ℕ} {options : ExecOptions} {status : Status} {text : List ℕ} → ExecRunOwes code tables options status text → IsFinal status
ExecRunOwes-final (faulty_tables fault first is text_is) = final is tt
ExecRunOwes-final (missing inputs name are misses is text_is) = final is tt
ExecRunOwes-final (ran inputs report are complete comes is text_is) = final is (exec_status-final report.«end»)

pub ExecOwes-final : {name : List ℕ} {over : Option (List ℕ)} {options : ExecOptions} {source tables : List ℕ} {status : Status} {text : List ℕ} → ExecOwes name over options source tables status text → IsFinal status
ExecOwes-final (exec.too_long is_long is text_is) = final is tt
ExecOwes-final (exec.refused low refuses is) = final is tt
ExecOwes-final (exec.tables_too_long over_is low accepts is_long is text_is) = final is tt
ExecOwes-final (exec.ran low accepts few owes) = ExecRunOwes-final owes

-- and never the status of bad words
by_stop-not_bad : (stop : Stop) → by_stop Done Trap OutOfFuel stop ≡ BadWords → ⊥
by_stop-not_bad stops.Done bad = omega (arith, ap number_of bad)
by_stop-not_bad (stops.Left n) bad = omega (arith, ap number_of bad)
by_stop-not_bad (stops.Trap kind place) bad = omega (arith, ap number_of bad)
by_stop-not_bad stops.NoFuel bad = omega (arith, ap number_of bad)

exec_status-not_bad : (way : ExecEnd) → exec_status way ≡ BadWords → ⊥
exec_status-not_bad (Ended outcome) bad = by_stop-not_bad outcome.stop bad
exec_status-not_bad Spent bad = omega (arith, ap number_of bad)
exec_status-not_bad (Stuck fault block at) bad = omega (arith, ap number_of bad)

ExecRunOwes-not_bad : {code : Listing} {tables : List ℕ} {options : ExecOptions} {status : Status} {text : List ℕ} → ExecRunOwes code tables options status text → status ≡ BadWords → ⊥
ExecRunOwes-not_bad (faulty_tables fault first is text_is) bad = omega (arith, ap number_of (sym is ∙ bad))
ExecRunOwes-not_bad (missing inputs name are misses is text_is) bad = omega (arith, ap number_of (sym is ∙ bad))
ExecRunOwes-not_bad (ran inputs report are complete comes is text_is) bad = exec_status-not_bad report.«end» (sym is ∙ bad)

pub ExecOwes-not_bad : {name : List ℕ} {over : Option (List ℕ)} {options : ExecOptions} {source tables : List ℕ} {status : Status} {text : List ℕ} → ExecOwes name over options source tables status text → status ≡ BadWords → ⊥
ExecOwes-not_bad (exec.too_long is_long is text_is) bad = omega (arith, ap number_of (sym is ∙ bad))
ExecOwes-not_bad (exec.refused low refuses is) bad = omega (arith, ap number_of (sym is ∙ bad))
ExecOwes-not_bad (exec.tables_too_long over_is low accepts is_long is text_is) bad = omega (arith, ap number_of (sym is ∙ bad))
ExecOwes-not_bad (exec.ran low accepts few owes) bad = ExecRunOwes-not_bad owes bad
