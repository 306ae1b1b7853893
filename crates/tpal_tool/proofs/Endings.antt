-- How a call ends.
use Rattle.std.proofs.Common.{◌≡◌, ℕ, suc, ◌<◌, ◌≤◌, List, [], length, refl, ap, sym, ◌∙◌, arith}
use Rattle.std.proofs.Common.{subst, inl, inr}
use Rattle.std.specs.Prelude.{Option, Some, None, Result, Ok, Err, IfOk, IfSome, IsSomeAnd}
use Rattle.std.specs.Prelude.{unwrap_or, replicate}
use Rattle.std.proofs.lemmas.List.{length-replicate}
use Rattle.tp_value.specs.declared.limits.TheConstants.{MAX_SOURCE_BYTES, MAX_TABLES_BYTES}
use Rattle.tp_value.specs.declared.values.Stop.{Stop}
use Rattle.tp_value.specs.declared.values.Stop.TheVariants as stops
use Rattle.loop_syntax.specs.declared.program.Program.{Program}
use Rattle.loop_meaning.specs.Answers.{by_stop}
use Rattle.loop_meaning.specs.Meaning.{meaning}
use Rattle.tpal_syntax.specs.Listing.{Listing}
use Rattle.sample_gen.specs.Texts.{sample_source, sample_tables}
use Rattle.tpal_tool.specs.declared.status.Status.{Status}
use Rattle.tpal_tool.specs.declared.status.Status.TheVariants.{Done, Trap, OutOfFuel, Refused}
use Rattle.tpal_tool.specs.declared.fetching.TheConstants.{MAX_CODE_BYTES}
use Rattle.tpal_tool.specs.CodeVerdict.{RefusesCode}
use Rattle.tpal_tool.specs.ExecOwed.{NamedExecOwes}
use Rattle.tpal_tool.specs.ExecOwed as exec
use Rattle.tpal_tool.specs.Lines.{too_long_line}
use Rattle.tpal_tool.specs.Owed.{RunOwes, faulty_tables, missing, ran, shown, CompilesTo, Owes}
use Rattle.tpal_tool.specs.Owed.{Owed, bad_words, too_long, refused, compiled, tables_too_long}
use Rattle.tpal_tool.specs.Owed.{AreTexts, IsFinal, Finished, ReadFailed, program_failed}
use Rattle.tpal_tool.specs.Owed.{tables_failed, Ends, finished, read_failed, write_failed}
use Rattle.tpal_tool.specs.Owed.{no_memory, IsWritten, whole, failed, no_room, NamedRunOwes, long}
use Rattle.tpal_tool.specs.Owed.{fits, executed, code_failed, code_tables_failed}
use Rattle.tpal_tool.specs.Owed as owed
use Rattle.tpal_tool.specs.Shelf.{HasRisen}
use Rattle.tpal_tool.specs.Told.{IsCodeOf, IsProgramOf, text_over, told_code, told_source}
use Rattle.tpal_tool.specs.Told.{told_tables}
use Rattle.tpal_tool.specs.Verdict.{RefusesOnly, AcceptsOnly}
use Rattle.tpal_tool.specs.Words.{Options, ExecOptions, Command, Run, Compile, Sample, Exec}
use Rattle.tpal_tool.specs.Words.{code_name, file_name, program_name}
use Rattle.tpal_tool.proofs.ExecEndings.{ExecOwes-final}

pub some_same : {A : Type 0} {a b : A} → Some a ≡ Some b → a ≡ b
some_same {a = a} same = ap (λ o. unwrap_or o a) same

pub some_none : {A : Type 0} {a : A} → None ≡ Some a → ⊥
some_none never = cc

-- what an answer gives gives more
pub ok_map : {A E : Type 0} (r : Result A E) {P Q : A → Type 0} → ((a : A) → P a → Q a) → IfOk r P → IfOk r Q
ok_map (Ok a) more is = more a is
ok_map (Err e) more is = tt

-- ---- the texts that a call is about

pub turned : (o : Option (List ℕ)) (text : List ℕ) → IfSome o (λ told. text ≡ told) → IfSome o (λ told. told ≡ text)
turned None text is = tt
turned (Some told) text is = sym is

-- a text: the told one, or the empty one
some_text : (o : Option (List ℕ)) → (text : List ℕ) × IfSome o (λ told. told ≡ text)
some_text None = ([], tt)
some_text (Some told) = (told, refl)

-- a command that names a program is about that name's text
pub told_named : (told : List ℕ → Option (List ℕ)) (command : Command) (name : List ℕ) → program_name command ≡ Some name → told_source told command ≡ told name
told_named told (Run program tables options) name is = ap told (some_same is)
told_named told (Compile program) name is = ap told (some_same is)
told_named told (Sample seed options) name is = absurd (some_none is)
told_named told (Exec code tables options) name is = absurd (some_none is)

-- a command that names a program names no code, and the program's text is fetched first
pub no_code_named : (command : Command) (name : List ℕ) → program_name command ≡ Some name → code_name command ≡ None
no_code_named (Run program tables options) name is = refl
no_code_named (Compile program) name is = refl
no_code_named (Sample seed options) name is = refl
no_code_named (Exec code tables options) name is = absurd (some_none is)

pub program_first : (command : Command) (name : List ℕ) → program_name command ≡ Some name → file_name command ≡ Some name
program_first (Run program tables options) name is = is
program_first (Compile program) name is = is
program_first (Sample seed options) name is = absurd (some_none is)
program_first (Exec code tables options) name is = absurd (some_none is)

pub code_first : (command : Command) (name : List ℕ) → code_name command ≡ Some name → file_name command ≡ Some name
code_first (Run program tables options) name is = absurd (some_none is)
code_first (Compile program) name is = absurd (some_none is)
code_first (Sample seed options) name is = absurd (some_none is)
code_first (Exec code tables options) name is = is

-- a command that names no code is about no code text
no_code_told : (told : List ℕ → Option (List ℕ)) (command : Command) (source : List ℕ) → code_name command ≡ None → IfSome (told_code told command) (λ text. text ≡ source)
no_code_told told (Run program tables options) source is = tt
no_code_told told (Compile program) source is = tt
no_code_told told (Sample seed options) source is = tt
no_code_told told (Exec code tables options) source is = absurd (some_none (sym is))

all_texts_of : (wanted : Option Command) (told : List ℕ → Option (List ℕ)) (command : Command) (source tables : List ℕ) → wanted ≡ Some command → IfSome (told_source told command) (λ text. text ≡ source) → IfSome (told_code told command) (λ text. text ≡ source) → IfSome (told_tables told command) (λ text. text ≡ tables) → AreTexts wanted told source tables
all_texts_of wanted told command source tables asked_is is_source is_code is_tables = record {
  is_code = λ other is. subst (λ (c : Command). IfSome (told_code told c) (λ text. text ≡ source)) (some_same (sym asked_is ∙ is)) is_code;
  is_source = λ other is. subst (λ (c : Command). IfSome (told_source told c) (λ text. text ≡ source)) (some_same (sym asked_is ∙ is)) is_source;
  is_tables = λ other is. subst (λ (c : Command). IfSome (told_tables told c) (λ text. text ≡ tables)) (some_same (sym asked_is ∙ is)) is_tables;
}

texts_of : (wanted : Option Command) (told : List ℕ → Option (List ℕ)) (command : Command) (source tables : List ℕ) → wanted ≡ Some command → code_name command ≡ None → IfSome (told_source told command) (λ text. text ≡ source) → IfSome (told_tables told command) (λ text. text ≡ tables) → AreTexts wanted told source tables
texts_of wanted told command source tables asked_is none is_source is_tables =
    all_texts_of wanted told command source tables asked_is is_source (no_code_told told command source none) is_tables

longer : (n : ℕ) → (xs : List ℕ) × (n < length xs)
longer n = (replicate (suc n) 0, omega (arith, length-replicate {A = ℕ} (suc n) 0))

some_longer : (o : Option (List ℕ)) (n : ℕ) → IfSome o (λ text. n < length text) → (text : List ℕ) × IfSome o (λ told. told ≡ text) × (n < length text)
some_longer None n is = let one : (xs : List ℕ) × (n < length xs) = longer n in (one.0, tt, one.1)
some_longer (Some text) n is = (text, refl, is)

pub too_long-owed : (told : List ℕ → Option (List ℕ)) (command : Command) (name : List ℕ) (status : Status) (text : List ℕ) → program_name command ≡ Some name → IfSome (told name) (λ t. MAX_SOURCE_BYTES < length t) → status ≡ Refused → text ≡ too_long_line name → Owed (Some command) told status text
too_long-owed told command name status text named is_long is text_is =
    let here : IfSome (told_source told command) (λ t. MAX_SOURCE_BYTES < length t) =
    subst (λ (o : Option (List ℕ)). IfSome o (λ t. MAX_SOURCE_BYTES < length t)) (sym (told_named told command name named)) is_long in
    let source : (s : List ℕ) × IfSome (told_source told command) (λ t. t ≡ s) × (MAX_SOURCE_BYTES < length s) = some_longer (told_source told command) MAX_SOURCE_BYTES here in
    let tables : (t : List ℕ) × IfSome (told_tables told command) (λ text. text ≡ t) = some_text (told_tables told command) in
    (source.0, tables.0, texts_of (Some command) told command source.0 tables.0 refl (no_code_named command name named) source.1 tables.1, too_long refl named source.2 is text_is)

pub refused-owed : (told : List ℕ → Option (List ℕ)) (command : Command) (source : List ℕ) (status : Status) (text : List ℕ) → code_name command ≡ None → IfSome (told_source told command) (λ t. t ≡ source) → length source ≤ MAX_SOURCE_BYTES → RefusesOnly source text → status ≡ Refused → Owed (Some command) told status text
refused-owed told command source status text none is_source low only is =
    let tables : (t : List ℕ) × IfSome (told_tables told command) (λ text. text ≡ t) = some_text (told_tables told command) in
    (source, tables.0, texts_of (Some command) told command source tables.0 refl none is_source tables.1, refused refl none low only is)

pub compiled-owed : (told : List ℕ → Option (List ℕ)) (name : List ℕ) (program : Program) (status : Status) (text : List ℕ) → IsProgramOf (told name) program → status ≡ Done → CompilesTo program text → Owed (Some (Compile name)) told status text
compiled-owed told name program status text p is compiles =
    (p.source, [], texts_of (Some (Compile name)) told (Compile name) p.source [] refl refl p.is_source refl, compiled refl p.low p.accepts is compiles)

pub run-owed : (told : List ℕ → Option (List ℕ)) (name : List ℕ) (over : Option (List ℕ)) (options : Options) (program : Program) (status : Status) (text : List ℕ) → IsProgramOf (told name) program → NamedRunOwes program told over options status text → Owed (Some (Run name over options)) told status text
run-owed told name over options program status text p (long {name = other} over_is is_long is text_is) =
    let tables : (t : List ℕ) × IfSome (told other) (λ told_text. told_text ≡ t) × (MAX_TABLES_BYTES < length t) = some_longer (told other) MAX_TABLES_BYTES is_long in (
      p.source,
      tables.0,
      texts_of (Some (Run name over options)) told (Run name over options) p.source tables.0 refl refl p.is_source (subst (λ (o : Option (List ℕ)). IfSome (text_over told o) (λ t. t ≡ tables.0)) (sym over_is) tables.1),
      tables_too_long {name = name} {over = other} {options = options} (ap (λ o. Some (Run name o options)) over_is) p.low p.accepts tables.2 is text_is,
    )
run-owed told name over options program status text p (fits tables is_tables few owes) =
    (p.source, tables, texts_of (Some (Run name over options)) told (Run name over options) p.source tables refl refl p.is_source is_tables, owed.ran {command = Run name over options} {options = options} refl refl p.low p.accepts few owes)

-- what a call that runs a code owes
pub exec_too_long-owed : (told : List ℕ → Option (List ℕ)) (name : List ℕ) (over : Option (List ℕ)) (options : ExecOptions) (status : Status) (text : List ℕ) → IfSome (told name) (λ t. MAX_CODE_BYTES < length t) → status ≡ Refused → text ≡ too_long_line name → Owed (Some (Exec name over options)) told status text
exec_too_long-owed told name over options status text is_long is text_is =
    let source : (s : List ℕ) × IfSome (told name) (λ t. t ≡ s) × (MAX_CODE_BYTES < length s) = some_longer (told name) MAX_CODE_BYTES is_long in
    let tables : (t : List ℕ) × IfSome (text_over told over) (λ text. text ≡ t) = some_text (text_over told over) in
    (source.0, tables.0, all_texts_of (Some (Exec name over options)) told (Exec name over options) source.0 tables.0 refl tt source.1 tables.1, executed refl (exec.too_long source.2 is text_is))

pub exec_refused-owed : (told : List ℕ → Option (List ℕ)) (name : List ℕ) (over : Option (List ℕ)) (options : ExecOptions) (source : List ℕ) (status : Status) (text : List ℕ) → IfSome (told name) (λ t. t ≡ source) → length source ≤ MAX_CODE_BYTES → RefusesCode source text → status ≡ Refused → Owed (Some (Exec name over options)) told status text
exec_refused-owed told name over options source status text is_source low refuses is =
    let tables : (t : List ℕ) × IfSome (text_over told over) (λ text. text ≡ t) = some_text (text_over told over) in
    (source, tables.0, all_texts_of (Some (Exec name over options)) told (Exec name over options) source tables.0 refl tt is_source tables.1, executed refl (exec.refused low refuses is))

pub exec-owed : (told : List ℕ → Option (List ℕ)) (name : List ℕ) (over : Option (List ℕ)) (options : ExecOptions) (code : Listing) (status : Status) (text : List ℕ) → IsCodeOf (told name) code → NamedExecOwes code told over options status text → Owed (Some (Exec name over options)) told status text
exec-owed told name over options code status text p (exec.long {name = other} over_is is_long is text_is) =
    let tables : (t : List ℕ) × IfSome (told other) (λ told_text. told_text ≡ t) × (MAX_TABLES_BYTES < length t) = some_longer (told other) MAX_TABLES_BYTES is_long in (
      p.source,
      tables.0,
      all_texts_of (Some (Exec name over options)) told (Exec name over options) p.source tables.0 refl tt p.is_source (subst (λ (o : Option (List ℕ)). IfSome (text_over told o) (λ t. t ≡ tables.0)) (sym over_is) tables.1),
      executed refl (exec.tables_too_long over_is p.low p.accepts tables.2 is text_is),
    )
exec-owed told name over options code status text p (exec.fits tables is_tables few owes) =
    (p.source, tables, all_texts_of (Some (Exec name over options)) told (Exec name over options) p.source tables refl tt p.is_source is_tables, executed refl (exec.ran p.low p.accepts few owes))

pub sample-owed : (told : List ℕ → Option (List ℕ)) (seed : ℕ) (options : Options) (program : Program) (source tables : List ℕ) (status : Status) (text : List ℕ) → sample_source ≡ source → length source ≤ MAX_SOURCE_BYTES → AcceptsOnly source program → sample_tables seed 1000 1000 ≡ tables → length tables ≤ MAX_TABLES_BYTES → RunOwes program tables options status text → Owed (Some (Sample seed options)) told status text
sample-owed told seed options program source tables status text is_source low only is_tables few owes =
    (source, tables, texts_of (Some (Sample seed options)) told (Sample seed options) source tables refl refl is_source is_tables, owed.ran {command = Sample seed options} {options = options} refl refl low only few owes)

-- ---- faults of reading

-- a count that rose behind another one rose
risen_from : (old mid new : ℕ) → old ≤ mid → HasRisen mid new → HasRisen old new
risen_from old mid new more (inl above) = inl (omega (arith, more, above))
risen_from old mid new more (inr last) = inr last

pub tables-failed : (told : List ℕ → Option (List ℕ)) (name : List ℕ) (over : Option (List ℕ)) (options : Options) (program : Program) (reads reads' : List ℕ → ℕ) → IsProgramOf (told name) program → IsSomeAnd over (λ n. HasRisen (reads n) (reads' n)) → ReadFailed (Some (Run name over options)) told reads reads'
tables-failed told name None options program reads reads' p never = elim never [ ]
tables-failed told name (Some over) options program reads reads' p risen = tables_failed refl p risen

-- a fault behind a fetch that told what was told before
pub later-failed : (wanted : Option Command) (told told' : List ℕ → Option (List ℕ)) (old mid new : List ℕ → ℕ) → ((name : List ℕ) → told' name ≡ told name) → ((name : List ℕ) → old name ≤ mid name) → ReadFailed wanted told' mid new → ReadFailed wanted told old new
later-failed wanted told told' old mid new same more (program_failed {name = name} asked_is named risen) =
    program_failed asked_is named (risen_from (old name) (mid name) (new name) (more name) risen)
later-failed wanted told told' old mid new same more (tables_failed {name = name} {over = over} {program = program} asked_is p risen) =
    tables_failed asked_is (subst (λ (o : Option (List ℕ)). IsProgramOf o program) (same name) p) (risen_from (old over) (mid over) (new over) (more over) risen)
later-failed wanted told told' old mid new same more (code_failed {name = name} asked_is named risen) =
    code_failed asked_is named (risen_from (old name) (mid name) (new name) (more name) risen)
later-failed wanted told told' old mid new same more (code_tables_failed {name = name} {over = over} {code = code} asked_is p risen) =
    code_tables_failed asked_is (subst (λ (o : Option (List ℕ)). IsCodeOf o code) (same name) p) (risen_from (old over) (mid over) (new over) (more over) risen)

pub exec-tables-failed : (told : List ℕ → Option (List ℕ)) (name : List ℕ) (over : Option (List ℕ)) (options : ExecOptions) (code : Listing) (reads reads' : List ℕ → ℕ) → IsCodeOf (told name) code → IsSomeAnd over (λ n. HasRisen (reads n) (reads' n)) → ReadFailed (Some (Exec name over options)) told reads reads'
exec-tables-failed told name None options code reads reads' p never = elim never [ ]
exec-tables-failed told name (Some over) options code reads reads' p risen = code_tables_failed refl p risen

-- ---- statuses

final : {status other : Status} → status ≡ other → IsFinal other → IsFinal status
final is ends = subst (λ (s : Status). IsFinal s) (sym is) ends

final-by_stop : (stop : Stop) → IsFinal (by_stop Done Trap OutOfFuel stop)
final-by_stop stops.Done = tt
final-by_stop (stops.Left n) = tt
final-by_stop (stops.Trap kind place) = tt
final-by_stop stops.NoFuel = tt

RunOwes-final : {program : Program} {tables : List ℕ} {options : Options} {status : Status} {text : List ℕ} → RunOwes program tables options status text → IsFinal status
RunOwes-final (faulty_tables fault first is text_is) = final is tt
RunOwes-final (missing inputs name are misses is text_is) = final is tt
RunOwes-final {program = program} {options = options} (ran inputs are complete is plain text_is) = final is (final-by_stop (meaning program inputs options.fuel).stop)
RunOwes-final {program = program} {options = options} (shown inputs are complete is show shows) = final is (final-by_stop (meaning program inputs options.fuel).stop)

Owes-final : {wanted : Option Command} {source tables : List ℕ} {status : Status} {text : List ℕ} → Owes wanted source tables status text → IsFinal status
Owes-final (bad_words none is text_is) = final is tt
Owes-final (too_long asked_is named is_long is text_is) = final is tt
Owes-final (refused asked_is none low only is) = final is tt
Owes-final (compiled asked_is low only is compiles) = final is tt
Owes-final (tables_too_long asked_is low only is_long is text_is) = final is tt
Owes-final (owed.ran asked_is goes low only few owes) = RunOwes-final owes
Owes-final (executed asked_is owes) = ExecOwes-final owes

pub not_final : {P : Type 0} {status other : Status} → status ≡ other → IsFinal status → (IsFinal other → ⊥) → P
not_final {status} {other} is ends never = absurd (never (subst (λ (s : Status). IsFinal s) is ends))

-- a call that wrote what it owes ends as it should
pub written-ends : (wanted : Option Command) (told : List ℕ → Option (List ℕ)) (reads reads' : List ℕ → ℕ) (old new : Option (List ℕ)) (writes writes' : ℕ) (first : Status) (text : List ℕ) (status : Status) → Owed wanted told first text → IsWritten old new writes writes' first text status → Ends wanted told reads reads' old new writes writes' status
written-ends wanted told reads reads' old new writes writes' first text status (source, tables, are_texts, owes) (whole same appended) =
    let mine : Owes wanted source tables status text = subst (λ (s : Status). Owes wanted source tables s text) (sym same) owes in
    finished (Owes-final mine) (record { source = source; tables = tables; are_texts = are_texts; text = text; owed = mine; written = appended })
written-ends wanted told reads reads' old new writes writes' first text status (source, tables, are_texts, owes) (failed same risen some prefix) =
    write_failed same risen (record { source = source; tables = tables; are_texts = are_texts; status = first; text = text; owed = owes; some = some; written = prefix })
written-ends wanted told reads reads' old new writes writes' first text status (source, tables, are_texts, owes) (no_room same some prefix) =
    no_memory same (inr (record { source = source; tables = tables; are_texts = are_texts; status = first; text = text; owed = owes; some = some; written = prefix }))

-- a call that ended with such a status came to its end
pub final-finished : (wanted : Option Command) (told : List ℕ → Option (List ℕ)) (reads reads' : List ℕ → ℕ) (old new : Option (List ℕ)) (writes writes' : ℕ) (status : Status) → Ends wanted told reads reads' old new writes writes' status → IsFinal status → Finished wanted told old new status
final-finished wanted told reads reads' old new writes writes' status (finished ends f) is_final = f
final-finished wanted told reads reads' old new writes writes' status (read_failed is cause silent) is_final = not_final is is_final (λ x. x)
final-finished wanted told reads reads' old new writes writes' status (write_failed is risen cut) is_final = not_final is is_final (λ x. x)
final-finished wanted told reads reads' old new writes writes' status (no_memory is cut) is_final = not_final is is_final (λ x. x)
