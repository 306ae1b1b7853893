-- The promises of the top call, from how it ends.
use Rattle.std.proofs.Common.{◌≡◌, ℕ, List, ap, sym, ◌∙◌, arith, subst, inl, inr}
use Rattle.std.specs.Prelude.{Option, Some, None, ◌⊎◌}
use Rattle.tp_value.specs.declared.values.Table.{Table}
use Rattle.loop_syntax.specs.declared.program.Program.{Program}
use Rattle.loop_meaning.specs.Answers.{status_of}
use Rattle.loop_meaning.specs.Meaning.{meaning}
use Rattle.table_text.specs.TablesText.{TablesOf}
use Rattle.tpal_tool.specs.declared.status.Status.{Status}
use Rattle.tpal_tool.specs.declared.status.Status.TheVariants.{Done, Trap, OutOfFuel, NoMemory}
use Rattle.tpal_tool.specs.Inputs.{first_missing}
use Rattle.tpal_tool.specs.Owed.{Ends, IsFinal, Finished, finished, read_failed, write_failed}
use Rattle.tpal_tool.specs.Owed.{no_memory, program_failed, tables_failed, code_failed}
use Rattle.tpal_tool.specs.Owed.{code_tables_failed}
use Rattle.tpal_tool.specs.Promises.{HasCause, RefusesRightly, RunsOrCompiles, AsksFor, AsksForRun}
use Rattle.tpal_tool.specs.Promises.{MeetsNoFault}
use Rattle.tpal_tool.specs.Sink.{Appended}
use Rattle.tpal_tool.specs.Statuses.{number_of}
use Rattle.tpal_tool.specs.Words.{Options, Command, Compile, file_name, tables_name}
use Rattle.tpal_tool.proofs.Endings.{some_same, final-finished, not_final, program_first}
use Rattle.tpal_tool.proofs.Endings.{code_first}
use Rattle.tpal_tool.proofs.Answered.{ReadOneWay, bad_is, none_is_bad, finished-too_long}
use Rattle.tpal_tool.proofs.Answered.{finished-refused, finished-tables_too_long, finished-run}
use Rattle.tpal_tool.proofs.Answered.{finished-faulty, finished-missing, finished-ran}
use Rattle.tpal_tool.proofs.Answered.{finished-compiled, finished-status}

module _ (wanted : Option Command) (told : List ℕ → Option (List ℕ)) (reads reads' : List ℕ → ℕ) (old new : Option (List ℕ)) (writes writes' : ℕ) (status : Status) where
  -- each way to end without the whole text has its cause
  pub has-cause : Ends wanted told reads reads' old new writes writes' status → HasCause wanted told reads reads' old new writes writes' status
  has-cause (finished ends f) = record {
    read_fault = λ is. not_final is ends (λ x. x);
    read_fault_writes_nothing = λ is. not_final is ends (λ x. x);
    write_fault = λ is. not_final is ends (λ x. x);
    write_fault_prefix = λ is. not_final is ends (λ x. x);
    no_memory = λ is. not_final is ends (λ x. x);
  }
  has-cause (read_failed is cause silent) = record {
    read_fault = λ _. cause;
    read_fault_writes_nothing = λ _. silent;
    write_fault = λ also. absurd (omega (arith, ap number_of (sym is ∙ also)));
    write_fault_prefix = λ also. absurd (omega (arith, ap number_of (sym is ∙ also)));
    no_memory = λ also. absurd (omega (arith, ap number_of (sym is ∙ also)));
  }
  has-cause (write_failed is risen cut) = record {
    read_fault = λ also. absurd (omega (arith, ap number_of (sym is ∙ also)));
    read_fault_writes_nothing = λ also. absurd (omega (arith, ap number_of (sym is ∙ also)));
    write_fault = λ _. risen;
    write_fault_prefix = λ _. cut;
    no_memory = λ also. absurd (omega (arith, ap number_of (sym is ∙ also)));
  }
  has-cause (no_memory is cut) = record {
    read_fault = λ also. absurd (omega (arith, ap number_of (sym is ∙ also)));
    read_fault_writes_nothing = λ also. absurd (omega (arith, ap number_of (sym is ∙ also)));
    write_fault = λ also. absurd (omega (arith, ap number_of (sym is ∙ also)));
    write_fault_prefix = λ also. absurd (omega (arith, ap number_of (sym is ∙ also)));
    no_memory = λ _. cut;
  }

  came : Ends wanted told reads reads' old new writes writes' status → IsFinal status → Finished wanted told old new status
  came ends is_final = final-finished wanted told reads reads' old new writes writes' status ends is_final

  -- a call refuses exactly what is to be refused
  pub refuses-rightly : ReadOneWay → Ends wanted told reads reads' old new writes writes' status → RefusesRightly wanted told old new status
  refuses-rightly way ends = record {
    bad_words = λ is_final. (λ bad. (bad_is wanted told old new status (came ends is_final).owed bad).0, λ none. none_is_bad wanted told old new status (came ends is_final).owed none);
    bad_words_line = λ bad.
        let f : Finished wanted told old new status = came ends (subst IsFinal (sym bad) tt) in
        subst (λ (t : List ℕ). Appended old new t) (bad_is wanted told old new status f.owed bad).1 f.written;
    too_long = λ command name source is_final. finished-too_long wanted told old new status (came ends is_final) command name source;
    refused = λ command source line is_final. finished-refused wanted told old new status (came ends is_final) command source line;
    tables_too_long = λ name over tables options program is_final. finished-tables_too_long wanted told old new status (came ends is_final) name over tables options program;
    faulty_tables = λ command program tables options fault is_final asks first. finished-faulty wanted told old new status way program tables options fault first (finished-run wanted told old new status (came ends is_final) command program tables options asks);
    missing = λ command program tables options inputs input is_final asks are misses. finished-missing wanted told old new status way program tables options inputs input are misses (finished-run wanted told old new status (came ends is_final) command program tables options asks);
  }

  -- a call that meets no fault came to its end, or found no memory
  pub unhurt : (command : Command) → wanted ≡ Some command → MeetsNoFault command reads reads' writes writes' → Ends wanted told reads reads' old new writes writes' status → (Finished wanted told old new status) ⊎ (status ≡ NoMemory)
  unhurt command asked_is meets (finished ends f) = inl f
  unhurt command asked_is meets (read_failed is (program_failed {command = other} {name = name} also named risen) silent) =
      absurd (meets.no_read name (inl (ap file_name (some_same (sym asked_is ∙ also)) ∙ program_first other name named)) risen)
  unhurt command asked_is meets (read_failed is (tables_failed {over = over} also p risen) silent) =
      absurd (meets.no_read over (inr (ap tables_name (some_same (sym asked_is ∙ also)))) risen)
  unhurt command asked_is meets (read_failed is (code_failed {command = other} {name = name} also named risen) silent) =
      absurd (meets.no_read name (inl (ap file_name (some_same (sym asked_is ∙ also)) ∙ code_first other name named)) risen)
  unhurt command asked_is meets (read_failed is (code_tables_failed {over = over} also p risen) silent) =
      absurd (meets.no_read over (inr (ap tables_name (some_same (sym asked_is ∙ also)))) risen)
  unhurt command asked_is meets (write_failed is risen cut) = absurd (meets.no_write risen)
  unhurt command asked_is meets (no_memory is cut) = inr is

  run-ends : ReadOneWay → (command : Command) (program : Program) (tables : List ℕ) (options : Options) (inputs : List Table) → AsksForRun wanted told command program tables options → TablesOf tables inputs → first_missing program.tables.items inputs ≡ None → (Finished wanted told old new status) ⊎ (status ≡ NoMemory) → (status ≡ status_of Done Trap OutOfFuel (meaning program inputs options.fuel)) ⊎ (status ≡ NoMemory)
  run-ends way command program tables options inputs asks are complete (inl f) =
      inl (finished-status wanted told old new status way program tables options inputs are complete (finished-run wanted told old new status f command program tables options asks))
  run-ends way command program tables options inputs asks are complete (inr is) = inr is

  compile-ends : (name : List ℕ) (program : Program) → AsksFor wanted told (Compile name) program → (Finished wanted told old new status) ⊎ (status ≡ NoMemory) → (status ≡ Done) ⊎ (status ≡ NoMemory)
  compile-ends name program asks (inl f) = inl (finished-compiled wanted told old new status f name program asks)
  compile-ends name program asks (inr is) = inr is

  -- a program that is accepted runs over its tables text, or is compiled
  pub runs-or-compiles : ReadOneWay → Ends wanted told reads reads' old new writes writes' status → RunsOrCompiles wanted told reads reads' old new writes writes' status
  runs-or-compiles way ends = record {
    ran = λ command program tables options owed text is_final asks owes. finished-ran wanted told old new status way program tables options owed text owes (finished-run wanted told old new status (came ends is_final) command program tables options asks);
    compiled = λ name program is_final asks. finished-compiled wanted told old new status (came ends is_final) name program asks;
    runs = λ command program tables options inputs asks are complete meets. run-ends way command program tables options inputs asks are complete (unhurt command asks.of_program.asked meets ends);
    compiles = λ name program asks meets. compile-ends name program asks (unhurt (Compile name) asks.asked meets ends);
  }
