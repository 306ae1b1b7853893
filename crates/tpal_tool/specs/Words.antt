-- The words of a call.
use Rattle.std.specs.Prelude.{ℕ, ◌-◌, ◌^◌, Bool, true, false, not, ◌&&◌, ◌==◌, nat_le, is_some}
use Rattle.std.specs.Prelude.{is_none, List, [], ◌∷◌, length, take, drop, Option, Some, None}
use Rattle.std.specs.Prelude.{map, option_map, option_and_then, unwrap_or, bytes_eq, codes, String}
use Rattle.std.specs.Prelude.{if◌then◌else◌, string_bytes}
use Rattle.std.specs.Str.{all_ascii_digits}
use Rattle.std.specs.Str.Parse.{digits_value_after}
use Rattle.tp_value.specs.declared.limits.TheConstants.{MAX_BEAT, MAX_FORKS, MAX_FUEL, MAX_WORKERS}
use Rattle.tpal_verify.specs.declared.report.TheConstants.{MAX_STEPS}
use Rattle.tpal_tool.specs.declared.request.Valued.{Valued}
use Rattle.tpal_tool.specs.declared.request.Valued.TheVariants.{Beat, Workers, Forks, Fuel}
use Rattle.tpal_tool.specs.declared.request.Valued.TheVariants.{Steps}

-- ---- what a call is asked for

-- how a run goes: its heartbeat in instructions, its workers, how often each of them may be
-- diverted, its fuel in ticks, and whether its code and its counts are shown
pub record Options : Type 0 where
  pub beat : ℕ
  pub workers : ℕ
  pub forks : ℕ
  pub fuel : ℕ
  pub show : Bool

-- how a run of a code goes, by one worker: its heartbeat in instructions, how often it may be
-- diverted, its fuel in ticks, and how many instructions it may execute
pub record ExecOptions : Type 0 where
  pub beat : ℕ
  pub forks : ℕ
  pub fuel : ℕ
  pub steps : ℕ

-- a run of a program, over the tables of a text where one is named; the code of a program; a run of
-- the sample of a seed; or a run of a code whose text is named, over tables as that of a program
pub data Command : Type 0 where
  Run : (program : List ℕ) → (tables : Option (List ℕ)) → (options : Options) → Command
  Compile : (program : List ℕ) → Command
  Sample : (seed : ℕ) → (options : Options) → Command
  Exec : (code : List ℕ) → (tables : Option (List ℕ)) → (options : ExecOptions) → Command

-- the name of the program's text, where one is named
abbrev pub program_name : Command → Option (List ℕ)
program_name (Run program tables options) = Some program
program_name (Compile program) = Some program
program_name (Sample seed options) = None
program_name (Exec code tables options) = None

-- the name of the code's text, where one is named
abbrev pub code_name : Command → Option (List ℕ)
code_name (Run program tables options) = None
code_name (Compile program) = None
code_name (Sample seed options) = None
code_name (Exec code tables options) = Some code

-- the name of the text that is fetched first, where one is named: the program's or the code's
abbrev pub file_name : Command → Option (List ℕ)
file_name (Run program tables options) = Some program
file_name (Compile program) = Some program
file_name (Sample seed options) = None
file_name (Exec code tables options) = Some code

-- the name of the tables' text, where one is named
abbrev pub tables_name : Command → Option (List ℕ)
tables_name (Run program tables options) = tables
tables_name (Compile program) = None
tables_name (Sample seed options) = None
tables_name (Exec code tables options) = tables

-- how a run of a program goes, where one is asked for
abbrev pub run_options : Command → Option Options
run_options (Run program tables options) = Some options
run_options (Compile program) = None
run_options (Sample seed options) = Some options
run_options (Exec code tables options) = None

-- the name of the text that is fetched first, where words name one
abbrev pub file_asked : Option Command → Option (List ℕ)
file_asked None = None
file_asked (Some command) = file_name command

-- the workers that are asked for
abbrev pub workers_asked : Option Command → ℕ
workers_asked None = 1
workers_asked (Some (Run program tables options)) = options.workers
workers_asked (Some (Compile program)) = 1
workers_asked (Some (Sample seed options)) = options.workers
workers_asked (Some (Exec code tables options)) = 1

-- ---- numbers

-- the number that decimal digits spell behind those of another, where it is at most so many
abbrev pub spelled : ℕ → ℕ → List ℕ → Option ℕ
spelled most before digits =
    if all_ascii_digits digits && nat_le (digits_value_after 10 before digits) most then Some
    (digits_value_after 10 before digits) else None

-- the number that one to twenty decimal digits spell, where it is at most so many
abbrev pub number_up_to : ℕ → List ℕ → Option ℕ
number_up_to most word =
    if nat_le 1 (length word) && nat_le (length word) 20 then spelled most 0 word else None

-- a number that isn't below the least one
abbrev pub at_least : ℕ → Option ℕ → Option ℕ
at_least least None = None
at_least least (Some n) = if nat_le least n then Some n else None

-- the least value of an option
abbrev pub least_of : Valued → ℕ
least_of Beat = 1
least_of Workers = 1
least_of Forks = 0
least_of Fuel = 0
least_of Steps = 0

-- the greatest value of an option
abbrev pub most_of : Valued → ℕ
most_of Beat = MAX_BEAT
most_of Workers = MAX_WORKERS
most_of Forks = MAX_FORKS
most_of Fuel = MAX_FUEL
most_of Steps = MAX_STEPS

-- the value of an option: a number in its range
abbrev pub value_of : Valued → List ℕ → Option ℕ
value_of option word = at_least (least_of option) (number_up_to (most_of option) word)

-- ---- the words behind the command

-- whether a word begins with a dash
abbrev pub is_dashed : List ℕ → Bool
is_dashed [] = false
is_dashed (b ∷ bs) = b == 45

-- whether a word begins with these bytes
abbrev pub begins_with : List ℕ → List ℕ → Bool
begins_with front word = bytes_eq (take (length front) word) front

-- what a word is: a positional one, the end of the options, `--show`, an option whose value is the
-- next word, one with its value, or an option that isn't listed
pub data Kind : Type 0 where
  Positional : Kind
  EndOfOptions : Kind
  Show : Kind
  ValueNext : Valued → Kind
  ValueIs : Valued → List ℕ → Kind
  Unlisted : Kind

abbrev pub kind_of : List ℕ → Kind
kind_of word =
    if bytes_eq word (codes "--") then EndOfOptions
    else (if bytes_eq word (codes "--show") then Show
    else (if bytes_eq word (codes "--beat") then ValueNext Beat
    else (if bytes_eq word (codes "--workers") then ValueNext Workers
    else (if bytes_eq word (codes "--forks") then ValueNext Forks
    else (if bytes_eq word (codes "--fuel") then ValueNext Fuel
    else (if bytes_eq word (codes "--steps") then ValueNext Steps
    else (if begins_with (codes "--beat=") word then ValueIs Beat (drop 7 word)
    else (if begins_with (codes "--workers=") word then ValueIs Workers (drop 10 word)
    else (if begins_with (codes "--forks=") word then ValueIs Forks (drop 8 word)
    else (if begins_with (codes "--fuel=") word then ValueIs Fuel (drop 7 word)
    else (if begins_with (codes "--steps=") word then ValueIs Steps (drop 8 word)
    else (if is_dashed word && not (bytes_eq word (codes "-")) then Unlisted
    else Positional))))))))))))

-- the options so far
pub record Chosen : Type 0 where
  pub beat : Option ℕ
  pub workers : Option ℕ
  pub forks : Option ℕ
  pub fuel : Option ℕ
  pub steps : Option ℕ
  pub show : Bool

-- the words so far: up to two positional words, and the options
pub record Given : Type 0 where
  pub first_word : Option (List ℕ)
  pub second_word : Option (List ℕ)
  pub options : Chosen

abbrev pub nothing_chosen : Chosen
nothing_chosen =
    record {
      beat = None;
      workers = None;
      forks = None;
      fuel = None;
      steps = None;
      show = false;
    }

abbrev pub nothing_given : Given
nothing_given = record { first_word = None; second_word = None; options = nothing_chosen }

-- a positional word more, of two at most
abbrev pub with_word : List ℕ → Given → Option Given
with_word word given =
    if is_some given.second_word then None
    else (if is_some given.first_word then Some (record given { second_word = Some word })
    else Some (record given { first_word = Some word }))

-- the value of an option, which is given once
abbrev pub with_number : Valued → ℕ → Chosen → Option Chosen
with_number Beat n chosen =
    if is_some chosen.beat then None else Some (record chosen { beat = Some n })
with_number Workers n chosen =
    if is_some chosen.workers then None else Some (record chosen { workers = Some n })
with_number Forks n chosen =
    if is_some chosen.forks then None else Some (record chosen { forks = Some n })
with_number Fuel n chosen =
    if is_some chosen.fuel then None else Some (record chosen { fuel = Some n })
with_number Steps n chosen =
    if is_some chosen.steps then None else Some (record chosen { steps = Some n })

abbrev pub with_options : Option Chosen → Given → Option Given
with_options None given = None
with_options (Some chosen) given = Some (record given { options = chosen })

abbrev pub with_found : Valued → Option ℕ → Given → Option Given
with_found option None given = None
with_found option (Some n) given = with_options (with_number option n given.options) given

abbrev pub with_value : Valued → List ℕ → Given → Option Given
with_value option word given = with_found option (value_of option word) given

-- `--show`, which stands there once
abbrev pub with_show : Given → Option Given
with_show given =
    if given.options.show then None
    else Some (record given { options = record given.options { show = true } })

abbrev pub on_given : {A : Type 0} → Option Given → (Given → Option A) → Option A
on_given None go = None
on_given (Some given) go = go given

-- words that are positional whatever they are
abbrev pub with_words : List (List ℕ) → Given → Option Given
with_words [] given = Some given
with_words (word ∷ words) given = on_given (with_word word given) (with_words words)

-- what comes next behind the command: a word, or the value of an option
pub data Due : Type 0 where
  AnyWord : Due
  ValueOf : Valued → Due

-- one word more, by what it is; `more` reads the words behind it, and `value` reads the value of an
-- option and then those
abbrev pub with_kind : Kind
    → List ℕ
    → List (List ℕ)
    → (more : Given → Option Given)
    → (value : Valued → Given → Option Given)
    → Given
    → Option Given
with_kind Positional word words more value given = on_given (with_word word given) more
with_kind EndOfOptions word words more value given = with_words words given
with_kind Show word words more value given = on_given (with_show given) more
with_kind (ValueNext option) word words more value given = value option given
with_kind (ValueIs option number) word words more value given =
    on_given (with_value option number given) more
with_kind Unlisted word words more value given = None

-- the words behind the command, in order
abbrev pub with_rest : Due → List (List ℕ) → Given → Option Given
with_rest AnyWord [] given = Some given
with_rest (ValueOf option) [] given = None
with_rest (ValueOf option) (value ∷ words) given =
    on_given (with_value option value given) (with_rest AnyWord words)
with_rest AnyWord (word ∷ words) given =
    with_kind (kind_of word) word words (with_rest AnyWord words)
    (λ option. with_rest (ValueOf option) words) given

-- ---- whole lists of words

-- the options of a run, with what is taken where one isn't given
abbrev pub options_of : Chosen → Options
options_of chosen =
    record {
      beat = unwrap_or chosen.beat 10000;
      workers = unwrap_or chosen.workers 1;
      forks = unwrap_or chosen.forks 1000000;
      fuel = unwrap_or chosen.fuel 1000000000;
      show = chosen.show;
    }

-- the options of a run of a code, with what is taken where one isn't given
abbrev pub exec_options_of : Chosen → ExecOptions
exec_options_of chosen =
    record {
      beat = unwrap_or chosen.beat 10000;
      forks = unwrap_or chosen.forks 1000000;
      fuel = unwrap_or chosen.fuel 1000000000;
      steps = unwrap_or chosen.steps 1000000000;
    }

-- `run` takes a program, tables or none, and options but `--steps`
abbrev pub run_of : Given → Option Command
run_of given =
    if is_none given.options.steps then option_map
    (λ program. Run program given.second_word (options_of given.options)) given.first_word
    else None

-- whether no option was given
abbrev pub is_plain : Chosen → Bool
is_plain chosen =
    is_none chosen.beat && is_none chosen.workers && is_none chosen.forks && is_none chosen.fuel
    && is_none chosen.steps && not chosen.show

-- `compile` takes a program alone
abbrev pub compile_of : Given → Option Command
compile_of given =
    if is_none given.second_word && is_plain given.options then option_map Compile given.first_word
    else None

-- the seed that a word spells: a number of 32 bits
abbrev pub seed_of : List ℕ → Option ℕ
seed_of word = number_up_to (2 ^ 32 - 1) word

-- `sample` takes a seed alone, and the options of a run but `--show`
abbrev pub sample_run_of : Given → Option Command
sample_run_of given =
    if is_none given.second_word && not given.options.show && is_none given.options.steps
    then option_map (λ seed. Sample seed (options_of given.options))
    (option_and_then seed_of given.first_word) else None

-- `exec` takes a code, tables or none, and options but `--workers` and `--show`
abbrev pub exec_of : Given → Option Command
exec_of given =
    if is_none given.options.workers && not given.options.show then option_map
    (λ code. Exec code given.second_word (exec_options_of given.options)) given.first_word
    else None

-- what good words ask for: the first is the command
abbrev pub asked : List (List ℕ) → Option Command
asked [] = None
asked (command ∷ words) =
    if bytes_eq command (codes "run") then on_given (with_rest AnyWord words nothing_given) run_of
    else (if bytes_eq command (codes "compile") then on_given
    (with_rest AnyWord words nothing_given) compile_of
    else (if bytes_eq command (codes "sample") then on_given
    (with_rest AnyWord words nothing_given) sample_run_of
    else (if bytes_eq command (codes "exec") then on_given
    (with_rest AnyWord words nothing_given) exec_of
    else None)))

-- what the words of a call ask for
abbrev pub asked_by : {Z : Type 0} → List (String Z) → Option Command
asked_by words = asked (map string_bytes words)
