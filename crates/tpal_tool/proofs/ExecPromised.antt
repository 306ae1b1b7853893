-- The promises of the top call of a run of a code, from how it ends.
use Rattle.std.proofs.Common.{◌≡◌, ℕ, List, refl, inl, inr}
use Rattle.std.specs.Prelude.{Option, Some, None, ◌⊎◌}
use Rattle.tp_value.specs.declared.values.Table.{Table}
use Rattle.table_text.specs.TablesText.{TablesOf}
use Rattle.tpal_syntax.specs.Listing.{Listing}
use Rattle.tpal_tool.specs.declared.status.Status.{Status}
use Rattle.tpal_tool.specs.declared.status.Status.TheVariants.{NoMemory}
use Rattle.tpal_tool.specs.CodeInputs.{first_missing_input}
use Rattle.tpal_tool.specs.ExecPromises.{AsksForExec, ExecsRightly, HasExecuted}
use Rattle.tpal_tool.specs.Owed.{Ends, IsFinal, Finished}
use Rattle.tpal_tool.specs.Words.{ExecOptions, Command, Exec}
use Rattle.tpal_tool.proofs.Answered.{ReadOneWay}
use Rattle.tpal_tool.proofs.Endings.{final-finished}
use Rattle.tpal_tool.proofs.ExecAnswered.{CodeReadOneWay, exec-too_long, exec-refused}
use Rattle.tpal_tool.proofs.ExecAnswered.{exec-tables_too_long, exec-faulty, exec-missing, exec-ran}
use Rattle.tpal_tool.proofs.Promised.{unhurt}

module _ (wanted : Option Command) (told : List ℕ → Option (List ℕ)) (reads reads' : List ℕ → ℕ) (old new : Option (List ℕ)) (writes writes' : ℕ) (status : Status) (read : ReadOneWay) (way : CodeReadOneWay) (ends : Ends wanted told reads reads' old new writes writes' status) where
  came : IsFinal status → Finished wanted told old new status
  came is_final = final-finished wanted told reads reads' old new writes writes' status ends is_final

  ended : (name : List ℕ) (over : Option (List ℕ)) (options : ExecOptions) (code : Listing) (tables : List ℕ) (inputs : List Table) → AsksForExec wanted told name over options code tables → TablesOf tables inputs → first_missing_input code.tables inputs ≡ None → (Finished wanted told old new status) ⊎ (status ≡ NoMemory) → HasExecuted old new status code inputs options ⊎ (status ≡ NoMemory)
  ended name over options code tables inputs asks are complete (inl f) =
      inl (exec-ran wanted told old new status f name over options asks.of_code.asked way asks.of_code.source asks.of_code.tells asks.of_code.low code asks.of_code.accepts read tables inputs asks.tells_tables asks.few are complete)
  ended name over options code tables inputs asks are complete (inr is) = inr is

  pub execs-rightly : ExecsRightly wanted told reads reads' old new writes writes' status
  execs-rightly = record {
    too_long = λ name source over options is_final asked tells is_long. exec-too_long wanted told old new status (came is_final) name over options asked source tells is_long;
    refused = λ name source line over options is_final asked tells low refuses. exec-refused wanted told old new status (came is_final) name over options asked way source tells low line refuses;
    tables_too_long = λ name other tables options code is_final asks tells is_long. exec-tables_too_long wanted told old new status (came is_final) name (Some other) options asks.asked way asks.source asks.tells asks.low code asks.accepts other tables refl tells is_long;
    faulty_tables = λ name over options code tables fault is_final asks first. exec-faulty wanted told old new status (came is_final) name over options asks.of_code.asked way asks.of_code.source asks.of_code.tells asks.of_code.low code asks.of_code.accepts read tables fault asks.tells_tables asks.few first;
    missing = λ name over options code tables inputs input is_final asks are misses. exec-missing wanted told old new status (came is_final) name over options asks.of_code.asked way asks.of_code.source asks.of_code.tells asks.of_code.low code asks.of_code.accepts read tables inputs input asks.tells_tables asks.few are misses;
    executed = λ name over options code tables inputs is_final asks are complete. exec-ran wanted told old new status (came is_final) name over options asks.of_code.asked way asks.of_code.source asks.of_code.tells asks.of_code.low code asks.of_code.accepts read tables inputs asks.tells_tables asks.few are complete;
    executes = λ name over options code tables inputs asks are complete meets. ended name over options code tables inputs asks are complete (unhurt wanted told reads reads' old new writes writes' status (Exec name over options) asks.of_code.asked meets ends);
  }
