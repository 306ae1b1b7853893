-- What a call wrote that came to its end.
use Rattle.std.proofs.Common.{◌≡◌, ℕ, ◌<◌, ◌≤◌, List, length, refl, ap, sym, ◌∙◌, arith, subst}
use Rattle.std.specs.Prelude.{Bool, true, false, Option, Some, None, IfSome}
use Rattle.std.proofs.lemmas.Bool.{false≢true}
use Rattle.tp_value.specs.declared.limits.TheConstants.{MAX_SOURCE_BYTES, MAX_TABLES_BYTES}
use Rattle.tp_value.specs.declared.values.Stop.{Stop}
use Rattle.tp_value.specs.declared.values.Stop.TheVariants as stops
use Rattle.tp_value.specs.declared.values.Table.{Table}
use Rattle.loop_syntax.specs.declared.program.Program.{Program}
use Rattle.loop_syntax.specs.Tree.{program_of}
use Rattle.loop_meaning.specs.Answers.{by_stop, status_of, text_of}
use Rattle.loop_meaning.specs.Meaning.{meaning}
use Rattle.table_text.specs.TablesText.{TablesOf, FirstTableFault}
use Rattle.table_text.specs.declared.fault.TableFault.{TableFault}
use Rattle.tpal_tool.specs.declared.status.Status.{Status}
use Rattle.tpal_tool.specs.declared.status.Status.TheVariants.{Done, Trap, OutOfFuel, Refused}
use Rattle.tpal_tool.specs.declared.status.Status.TheVariants.{BadWords}
use Rattle.tpal_tool.specs.Inputs.{first_missing}
use Rattle.tpal_tool.specs.Lines.{bad_words_line, missing_line, tables_line, too_long_line}
use Rattle.tpal_tool.specs.Owed.{RunOwes, faulty_tables, missing, ran, shown, Owes, bad_words}
use Rattle.tpal_tool.specs.Owed.{too_long, refused, compiled, tables_too_long, executed, Finished}
use Rattle.tpal_tool.specs.Owed as owed
use Rattle.tpal_tool.specs.Promises.{AsksFor, AsksForRun, IsRefusedWith}
use Rattle.tpal_tool.specs.Sink.{Appended}
use Rattle.tpal_tool.specs.Statuses.{number_of}
use Rattle.tpal_tool.specs.Told.{told_source, told_tables}
use Rattle.tpal_tool.specs.Verdict.{Refuses, Accepts}
use Rattle.tpal_tool.specs.Words.{Options, ExecOptions, Command, Run, Compile, Exec, program_name}
use Rattle.tpal_tool.specs.Words.{run_options, tables_name}
use Rattle.tpal_tool.proofs.ExecEndings.{ExecOwes-not_bad}
use Rattle.tpal_tool.proofs.Endings.{some_none, some_same, told_named}
use Rattle.tpal_tool.proofs.TreeInputs.{missing_of_tree}
use Rattle.loop_meaning.proofs.TreeMeanings.{meaning_of_tree}

-- a tables text is read in one way only
pub record ReadOneWay : Type 0 where
  pub one_list : (text : List ℕ) (a b : List Table) → TablesOf text a → TablesOf text b → a ≡ b
  pub one_fault : (text : List ℕ) (a b : TableFault) → FirstTableFault text a → FirstTableFault text b → a ≡ b
  pub not_both : (text : List ℕ) (tables : List Table) (fault : TableFault) → TablesOf text tables → FirstTableFault text fault → ⊥

-- of one tables text, programs with one tree miss the same input first
missed_too : ReadOneWay → (p q : Program) (tables : List ℕ) (a b : List Table) → program_of p ≡ program_of q → TablesOf tables a → TablesOf tables b → first_missing p.tables.items a ≡ first_missing q.tables.items b
missed_too way p q tables a b same are are' =
    missing_of_tree p q a same ∙ ap (first_missing q.tables.items) (way.one_list tables a b are are')

-- of one tables text, programs with one tree mean the same
meant_same : ReadOneWay → (p q : Program) (tables : List ℕ) (fuel : ℕ) (a b : List Table) → program_of p ≡ program_of q → TablesOf tables a → TablesOf tables b → meaning q b fuel ≡ meaning p a fuel
meant_same way p q tables fuel a b same are are' =
    sym (meaning_of_tree p q a fuel same ∙ ap (λ list. meaning q list fuel) (way.one_list tables a b are are'))

no_show : {P : Type 0} {show : Bool} → show ≡ true → show ≡ false → P
no_show shows plain = absurd (false≢true (sym plain ∙ shows))

-- over a tables text with a fault a run owes that fault's line
faulty_is : ReadOneWay → (q : Program) (tables : List ℕ) (options : Options) (fault : TableFault) (status : Status) (text : List ℕ) → FirstTableFault tables fault → RunOwes q tables options status text → (status ≡ Refused) × (text ≡ tables_line fault)
faulty_is way q tables options fault status text first (faulty_tables other also is text_is) = (is, text_is ∙ ap tables_line (way.one_fault tables other fault also first))
faulty_is way q tables options fault status text first (missing inputs name are misses is text_is) = absurd (way.not_both tables inputs fault are first)
faulty_is way q tables options fault status text first (ran inputs are complete is plain text_is) = absurd (way.not_both tables inputs fault are first)
faulty_is way q tables options fault status text first (shown inputs are complete is show shows) = absurd (way.not_both tables inputs fault are first)

-- where an input is missing, a run owes its line
missing_is : ReadOneWay → (p q : Program) (tables : List ℕ) (options : Options) (inputs : List Table) (name : List ℕ) (status : Status) (text : List ℕ) → program_of p ≡ program_of q → TablesOf tables inputs → first_missing p.tables.items inputs ≡ Some name → RunOwes q tables options status text → (status ≡ Refused) × (text ≡ missing_line name)
missing_is way p q tables options inputs name status text same are misses (faulty_tables fault first is text_is) = absurd (way.not_both tables inputs fault are first)
missing_is way p q tables options inputs name status text same are misses (missing inputs' name' are' misses' is text_is) =
    let one : name' ≡ name = some_same (sym misses' ∙ sym (missed_too way p q tables inputs inputs' same are are') ∙ misses) in
    (is, text_is ∙ ap missing_line one)
missing_is way p q tables options inputs name status text same are misses (ran inputs' are' complete is plain text_is) =
    absurd (some_none (sym complete ∙ sym (missed_too way p q tables inputs inputs' same are are') ∙ misses))
missing_is way p q tables options inputs name status text same are misses (shown inputs' are' complete is show shows) =
    absurd (some_none (sym complete ∙ sym (missed_too way p q tables inputs inputs' same are are') ∙ misses))

-- where none is, a run owes the status of the meaning, and its text where it isn't shown
ran_is : ReadOneWay → (p q : Program) (tables : List ℕ) (options : Options) (inputs : List Table) (status : Status) (text : List ℕ) → program_of p ≡ program_of q → TablesOf tables inputs → first_missing p.tables.items inputs ≡ None → RunOwes q tables options status text → (status ≡ status_of Done Trap OutOfFuel (meaning p inputs options.fuel)) × (options.show ≡ false → text ≡ text_of (meaning p inputs options.fuel))
ran_is way p q tables options inputs status text same are complete (faulty_tables fault first is text_is) = absurd (way.not_both tables inputs fault are first)
ran_is way p q tables options inputs status text same are complete (missing inputs' name are' misses is text_is) =
    absurd (some_none (sym complete ∙ missed_too way p q tables inputs inputs' same are are' ∙ misses))
ran_is way p q tables options inputs status text same are complete (ran inputs' are' complete' is plain text_is) =
    let meant = meant_same way p q tables options.fuel inputs inputs' same are are' in
    (is ∙ ap (status_of Done Trap OutOfFuel) meant, λ _. text_is ∙ ap text_of meant)
ran_is way p q tables options inputs status text same are complete (shown inputs' are' complete' is show shows) =
    (is ∙ ap (status_of Done Trap OutOfFuel) (meant_same way p q tables options.fuel inputs inputs' same are are'), λ plain. no_show show plain)

-- what a run owes is one status alone, and one text where it isn't shown
run_same : ReadOneWay → (p q : Program) (tables : List ℕ) (options : Options) (status status' : Status) (text text' : List ℕ) → program_of p ≡ program_of q → RunOwes p tables options status text → RunOwes q tables options status' text' → (status ≡ status') × (options.show ≡ false → text ≡ text')
run_same way p q tables options status status' text text' same (faulty_tables fault first is text_is) other =
    let one = faulty_is way q tables options fault status' text' first other in
    (is ∙ sym one.0, λ _. text_is ∙ sym one.1)
run_same way p q tables options status status' text text' same (missing inputs name are misses is text_is) other =
    let one = missing_is way p q tables options inputs name status' text' same are misses other in
    (is ∙ sym one.0, λ _. text_is ∙ sym one.1)
run_same way p q tables options status status' text text' same (ran inputs are complete is plain text_is) other =
    let one = ran_is way p q tables options inputs status' text' same are complete other in
    (is ∙ sym one.0, λ none. text_is ∙ sym (one.1 none))
run_same way p q tables options status status' text text' same (shown inputs are complete is show shows) other =
    let one = ran_is way p q tables options inputs status' text' same are complete other in
    (is ∙ sym one.0, λ plain. no_show show plain)

-- where the code of a program is asked for, no run is
no_run : {P : Type 0} {wanted : Option Command} {name : List ℕ} {command : Command} {options : Options} → wanted ≡ Some (Compile name) → wanted ≡ Some command → run_options command ≡ Some options → P
no_run compiles runs goes = absurd (some_none (ap run_options (some_same (sym compiles ∙ runs)) ∙ goes))

-- where a source is told, it isn't a code that is asked for
no_exec : {P : Type 0} {wanted : Option Command} {name : List ℕ} {over : Option (List ℕ)} {options : ExecOptions} {command : Command} {source : List ℕ} (told : List ℕ → Option (List ℕ)) → wanted ≡ Some (Exec name over options) → wanted ≡ Some command → told_source told command ≡ Some source → P
no_exec told executes also tells = absurd (some_none (ap (told_source told) (some_same (sym executes ∙ also)) ∙ tells))

-- no run has the status of bad words
no_bad_stop : (stop : Stop) → by_stop Done Trap OutOfFuel stop ≡ BadWords → ⊥
no_bad_stop stops.Done bad = omega (arith, ap number_of bad)
no_bad_stop (stops.Left n) bad = omega (arith, ap number_of bad)
no_bad_stop (stops.Trap kind place) bad = omega (arith, ap number_of bad)
no_bad_stop stops.NoFuel bad = omega (arith, ap number_of bad)

RunOwes-not_bad : {program : Program} {tables : List ℕ} {options : Options} {status : Status} {text : List ℕ} → RunOwes program tables options status text → status ≡ BadWords → ⊥
RunOwes-not_bad (faulty_tables fault first is text_is) bad = omega (arith, ap number_of (sym is ∙ bad))
RunOwes-not_bad (missing inputs name are misses is text_is) bad = omega (arith, ap number_of (sym is ∙ bad))
RunOwes-not_bad {program = program} {options = options} (ran inputs are complete is plain text_is) bad = no_bad_stop (meaning program inputs options.fuel).stop (sym is ∙ bad)
RunOwes-not_bad {program = program} {options = options} (shown inputs are complete is show shows) bad = no_bad_stop (meaning program inputs options.fuel).stop (sym is ∙ bad)

module _ (wanted : Option Command) (told : List ℕ → Option (List ℕ)) (old new : Option (List ℕ)) (status : Status) where
  -- the source that is told is the one that the call was about
  source_same : (f : Finished wanted told old new status) (command : Command) (source : List ℕ) → wanted ≡ Some command → told_source told command ≡ Some source → source ≡ f.source
  source_same f command source asked_is told_is = subst (λ (o : Option (List ℕ)). IfSome o (λ text. text ≡ f.source)) told_is (f.are_texts.is_source command asked_is)

  -- and so is the tables text
  tables_same : (f : Finished wanted told old new status) (command : Command) (tables : List ℕ) → wanted ≡ Some command → told_tables told command ≡ Some tables → tables ≡ f.tables
  tables_same f command tables asked_is told_is = subst (λ (o : Option (List ℕ)). IfSome o (λ text. text ≡ f.tables)) told_is (f.are_texts.is_tables command asked_is)

  wrote : {text line : List ℕ} → text ≡ line → Appended old new text → Appended old new line
  wrote is appended = subst (λ (t : List ℕ). Appended old new t) is appended

  here_low : (source mine : List ℕ) → source ≡ mine → length source ≤ MAX_SOURCE_BYTES → length mine ≤ MAX_SOURCE_BYTES
  here_low source mine same low = subst (λ (s : List ℕ). length s ≤ MAX_SOURCE_BYTES) same low

  accepted_here : (source mine : List ℕ) (program : Program) → source ≡ mine → Accepts source program → Accepts mine program
  accepted_here source mine program same a = subst (λ (s : List ℕ). Accepts s program) same a

  -- a call owes the line of bad words with their status alone, and where no command is asked for
  pub bad_is : {source tables text : List ℕ} → Owes wanted source tables status text → status ≡ BadWords → (wanted ≡ None) × (text ≡ bad_words_line)
  bad_is (bad_words none is text_is) bad = (none, text_is)
  bad_is (too_long also named over_it is text_is) bad = absurd (omega (arith, ap number_of (sym is ∙ bad)))
  bad_is (refused also none low only is) bad = absurd (omega (arith, ap number_of (sym is ∙ bad)))
  bad_is (compiled also low only is compiles) bad = absurd (omega (arith, ap number_of (sym is ∙ bad)))
  bad_is (tables_too_long also low only beyond is text_is) bad = absurd (omega (arith, ap number_of (sym is ∙ bad)))
  bad_is (owed.ran also goes low only few owes) bad = absurd (RunOwes-not_bad owes bad)
  bad_is (executed also owes) bad = absurd (ExecOwes-not_bad owes bad)

  pub none_is_bad : {source tables text : List ℕ} → Owes wanted source tables status text → wanted ≡ None → status ≡ BadWords
  none_is_bad (bad_words none is text_is) not_asked = is
  none_is_bad (too_long also named over_it is text_is) not_asked = absurd (some_none (sym not_asked ∙ also))
  none_is_bad (refused also none low only is) not_asked = absurd (some_none (sym not_asked ∙ also))
  none_is_bad (compiled also low only is compiles) not_asked = absurd (some_none (sym not_asked ∙ also))
  none_is_bad (tables_too_long also low only beyond is text_is) not_asked = absurd (some_none (sym not_asked ∙ also))
  none_is_bad (owed.ran also goes low only few owes) not_asked = absurd (some_none (sym not_asked ∙ also))
  none_is_bad (executed also owes) not_asked = absurd (some_none (sym not_asked ∙ also))

  -- a source that is too long
  pub finished-too_long : (f : Finished wanted told old new status) (command : Command) (name source : List ℕ) → wanted ≡ Some command → program_name command ≡ Some name → told name ≡ Some source → MAX_SOURCE_BYTES < length source → IsRefusedWith old new status (too_long_line name)
  finished-too_long f command name source asked_is named told_is is_long = by f.owed f.written
    where
      same : source ≡ f.source
      same = source_same f command source asked_is (told_named told command name named ∙ told_is)

      over_here : MAX_SOURCE_BYTES < length f.source
      over_here = subst (λ (s : List ℕ). MAX_SOURCE_BYTES < length s) same is_long

      by : {text : List ℕ} → Owes wanted f.source f.tables status text → Appended old new text → IsRefusedWith old new status (too_long_line name)
      by (bad_words none is text_is) appended = absurd (some_none (sym none ∙ asked_is))
      by (too_long {name = other} also other_named over_it is text_is) appended =
          let one : other ≡ name = some_same (sym other_named ∙ ap program_name (some_same (sym also ∙ asked_is)) ∙ named) in
          record { refused = is; written = wrote (text_is ∙ ap too_long_line one) appended }
      by (refused also none low only is) appended = absurd (omega (arith, low, over_here))
      by (compiled also low only is compiles) appended = absurd (omega (arith, low, over_here))
      by (tables_too_long also low only beyond is text_is) appended = absurd (omega (arith, low, over_here))
      by (owed.ran also goes low only few owes) appended = absurd (omega (arith, low, over_here))
      by (executed also owes) appended = absurd (some_none (ap program_name (some_same (sym also ∙ asked_is)) ∙ named))

  -- a source that is refused
  pub finished-refused : (f : Finished wanted told old new status) (command : Command) (source line : List ℕ) → wanted ≡ Some command → told_source told command ≡ Some source → length source ≤ MAX_SOURCE_BYTES → Refuses source line → IsRefusedWith old new status line
  finished-refused f command source line asked_is told_is fits_it refuses = by f.owed f.written
    where
      same : source ≡ f.source
      same = source_same f command source asked_is told_is

      under : length f.source ≤ MAX_SOURCE_BYTES
      under = here_low source f.source same fits_it

      here : Refuses f.source line
      here = subst (λ (s : List ℕ). Refuses s line) same refuses

      by : {text : List ℕ} → Owes wanted f.source f.tables status text → Appended old new text → IsRefusedWith old new status line
      by (bad_words none is text_is) appended = absurd (some_none (sym none ∙ asked_is))
      by (too_long also named over_it is text_is) appended = absurd (omega (arith, under, over_it))
      by (refused also none low only is) appended = record { refused = is; written = wrote (sym (only.one_line line here)) appended }
      by (compiled also low only is compiles) appended = absurd (only.not_refused line here)
      by (tables_too_long also low only beyond is text_is) appended = absurd (only.not_refused line here)
      by (owed.ran also goes low only few owes) appended = absurd (only.not_refused line here)
      by (executed also owes) appended = no_exec told also asked_is told_is

  -- a program that is compiled
  pub finished-compiled : (f : Finished wanted told old new status) (name : List ℕ) (program : Program) → AsksFor wanted told (Compile name) program → status ≡ Done
  finished-compiled f name program a = by f.owed
    where
      same : a.source ≡ f.source
      same = source_same f (Compile name) a.source a.asked a.tells

      under : length f.source ≤ MAX_SOURCE_BYTES
      under = here_low a.source f.source same a.low

      by : {text : List ℕ} → Owes wanted f.source f.tables status text → status ≡ Done
      by (bad_words none is text_is) = absurd (some_none (sym none ∙ a.asked))
      by (too_long also named over_it is text_is) = absurd (omega (arith, under, over_it))
      by (refused also none low only is) = absurd (only.not_accepted program (accepted_here a.source f.source program same a.accepts))
      by (compiled also low only is compiles) = is
      by (tables_too_long {options = options} also low only beyond is text_is) = absurd (no_run {options = options} a.asked also refl)
      by (owed.ran {options = options} also goes low only few owes) = absurd (no_run {options = options} a.asked also goes)
      by (executed also owes) = no_exec told also a.asked a.tells

  -- a run whose tables text is too long
  pub finished-tables_too_long : (f : Finished wanted told old new status) (name over tables : List ℕ) (options : Options) (program : Program) → AsksFor wanted told (Run name (Some over) options) program → told over ≡ Some tables → MAX_TABLES_BYTES < length tables → IsRefusedWith old new status (too_long_line over)
  finished-tables_too_long f name over tables options program a tables_told is_long = by f.owed f.written
    where
      same : a.source ≡ f.source
      same = source_same f (Run name (Some over) options) a.source a.asked a.tells

      under : length f.source ≤ MAX_SOURCE_BYTES
      under = here_low a.source f.source same a.low

      over_it : MAX_TABLES_BYTES < length f.tables
      over_it = subst (λ (t : List ℕ). MAX_TABLES_BYTES < length t) (tables_same f (Run name (Some over) options) tables a.asked tables_told) is_long

      by : {text : List ℕ} → Owes wanted f.source f.tables status text → Appended old new text → IsRefusedWith old new status (too_long_line over)
      by (bad_words none is text_is) appended = absurd (some_none (sym none ∙ a.asked))
      by (too_long also named beyond is text_is) appended = absurd (omega (arith, under, beyond))
      by (refused also none low only is) appended = absurd (only.not_accepted program (accepted_here a.source f.source program same a.accepts))
      by (compiled also low only is compiles) appended = absurd (no_run {options = options} also a.asked refl)
      by (tables_too_long {over = other} also low only beyond is text_is) appended =
          let one : other ≡ over = some_same (ap tables_name (some_same (sym also ∙ a.asked))) in
          record { refused = is; written = wrote (text_is ∙ ap too_long_line one) appended }
      by (owed.ran also goes low only few owes) appended = absurd (omega (arith, few, over_it))
      by (executed also owes) appended = no_exec told also a.asked a.tells

  -- what a call owed that came to its end, of a run over a tables text that isn't too long
  pub record RunOf (program : Program) (tables : List ℕ) (options : Options) : Type 0 where
    pub run : Program
    pub tree : program_of program ≡ program_of run
    pub text : List ℕ
    pub owes : RunOwes run tables options status text
    pub written : Appended old new text

  pub finished-run : (f : Finished wanted told old new status) (command : Command) (program : Program) (tables : List ℕ) (options : Options) → AsksForRun wanted told command program tables options → RunOf program tables options
  finished-run f command program tables options a = by f.owed f.written
    where
      same : a.of_program.source ≡ f.source
      same = source_same f command a.of_program.source a.of_program.asked a.of_program.tells

      tables_is : tables ≡ f.tables
      tables_is = tables_same f command tables a.of_program.asked a.tells_tables

      under : length f.source ≤ MAX_SOURCE_BYTES
      under = here_low a.of_program.source f.source same a.of_program.low

      few_here : length f.tables ≤ MAX_TABLES_BYTES
      few_here = subst (λ (t : List ℕ). length t ≤ MAX_TABLES_BYTES) tables_is a.few

      accepts_here : Accepts f.source program
      accepts_here = accepted_here a.of_program.source f.source program same a.of_program.accepts

      by : {mine : List ℕ} → Owes wanted f.source f.tables status mine → Appended old new mine → RunOf program tables options
      by (bad_words none is text_is) appended = absurd (some_none (sym none ∙ a.of_program.asked))
      by (too_long also named beyond is text_is) appended = absurd (omega (arith, under, beyond))
      by (refused also none low only is) appended = absurd (only.not_accepted program accepts_here)
      by (compiled also low only is compiles) appended = absurd (no_run {options = options} also a.of_program.asked a.goes)
      by (tables_too_long also low only beyond is text_is) appended = absurd (omega (arith, few_here, beyond))
      by {mine = mine} (owed.ran {options = options'} {program = q} also goes low only few owes) appended =
          let options_is : options' ≡ options = some_same (sym goes ∙ ap run_options (some_same (sym also ∙ a.of_program.asked)) ∙ a.goes) in
          record {
            run = q;
            tree = only.one_program program accepts_here;
            text = mine;
            owes = subst (λ (t : List ℕ). RunOwes q t options status mine) (sym tables_is) (subst (λ (o : Options). RunOwes q f.tables o status mine) options_is owes);
            written = appended;
          }
      by (executed also owes) appended = no_exec told also a.of_program.asked a.of_program.tells

  -- a run whose tables text has a fault
  pub finished-faulty : ReadOneWay → (program : Program) (tables : List ℕ) (options : Options) (fault : TableFault) → FirstTableFault tables fault → RunOf program tables options → IsRefusedWith old new status (tables_line fault)
  finished-faulty way program tables options fault first r =
      let one = faulty_is way r.run tables options fault status r.text first r.owes in
      record { refused = one.0; written = wrote one.1 r.written }

  -- a run that misses an input
  pub finished-missing : ReadOneWay → (program : Program) (tables : List ℕ) (options : Options) (inputs : List Table) (name : List ℕ) → TablesOf tables inputs → first_missing program.tables.items inputs ≡ Some name → RunOf program tables options → IsRefusedWith old new status (missing_line name)
  finished-missing way program tables options inputs name are misses r =
      let one = missing_is way program r.run tables options inputs name status r.text r.tree are misses r.owes in
      record { refused = one.0; written = wrote one.1 r.written }

  -- a run ends with the one status that it owes, and with the one text where it isn't shown
  pub finished-ran : ReadOneWay → (program : Program) (tables : List ℕ) (options : Options) (other : Status) (text : List ℕ) → RunOwes program tables options other text → RunOf program tables options → (status ≡ other) × (options.show ≡ false → Appended old new text)
  finished-ran way program tables options other text owes r =
      let one = run_same way program r.run tables options other status text r.text r.tree owes r.owes in
      (sym one.0, λ plain. wrote (sym (one.1 plain)) r.written)

  -- a run over tables that are complete ends as the program's meaning does
  pub finished-status : ReadOneWay → (program : Program) (tables : List ℕ) (options : Options) (inputs : List Table) → TablesOf tables inputs → first_missing program.tables.items inputs ≡ None → RunOf program tables options → status ≡ status_of Done Trap OutOfFuel (meaning program inputs options.fuel)
  finished-status way program tables options inputs are complete r =
      (ran_is way program r.run tables options inputs status r.text r.tree are complete r.owes).0
