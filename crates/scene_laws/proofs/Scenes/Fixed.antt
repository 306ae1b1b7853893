-- The variables round a `par` that it doesn't reduce, whose cells keep their numbers while it runs.
use Rattle.std.proofs.Common.{◌≡◌, ◌≢◌, ℕ, suc, ◌+◌, ◌<◌, Bool, true, false, cond, List, [], ◌∷◌}
use Rattle.std.proofs.Common.{length, None, Some, bytes_eq, refl, sym, ap, ◌∙◌, arith}
use Rattle.std.specs.Prelude.{ℤ, pos, ⊤}
use Rattle.std.specs.List.{AllByRecursion}
use Rattle.std.proofs.lemmas.Slice.Eq.{bytes_eq-Decides}
use Rattle.stack_marks.specs.Stacks.{StackValue, word_at}
use Rattle.tpal_syntax.specs.declared.words.Word.TheVariants.{Int}
use Rattle.loop_syntax.specs.declared.Reduce.{Reduce}
use Rattle.loop_rules.specs.Names.{is_in, operator_of}
use Rattle.loop_rules.specs.Reductions.{some_op}
use Rattle.loop_meaning.specs.declared.value.Variable.{Variable}
use Rattle.loop_meaning.specs.State.{lookup}
use Rattle.frame_machine.specs.Joins.{SameRound, names_of}
use Rattle.frame_machine.specs.Lawful.{Distinct}
use Rattle.scene_laws.specs.Layout.{value_cell}
use Rattle.scene_laws.specs.Round.{unreduced}
use Rattle.scene_laws.proofs.Counts.Lists.{all_behind}
use Rattle.scene_laws.proofs.Scenes.Variables.{AreHeld, var_names}

-- each of the variables, from a level on, that isn't reduced has its number in its cell
abbrev pub AreFixed : List Reduce → StackValue → ℕ → ℕ → List Variable → Type 0
AreFixed reduces s z level [] = ⊤
AreFixed reduces s z level (u ∷ us) =
    ((operator_of reduces u.name ≡ None) → word_at s (pos (z + value_cell level)) ≡ Some
    (Int u.value))
    × AreFixed reduces s z (suc level) us

-- a cell is none of those variables that aren't reduced
abbrev pub IsFree : List Reduce → List (List ℕ) → ℕ → ℕ → Type 0
IsFree reduces names level c = AllByRecursion (λ x. c ≢ value_cell x)
    (unreduced names level reduces)

-- those that are held are fixed
pub held_fixed : (reduces : List Reduce) (s : StackValue) (z level : ℕ) (vs : List Variable)
    → AreHeld s z level vs → AreFixed reduces s z level vs
held_fixed reduces s z level [] held = tt
held_fixed reduces s z level (u ∷ us) held =
    (λ none. held.0, held_fixed reduces s z (suc level) us held.2)

-- they stay where the cells stay that aren't free
pub fixed_same : (reduces : List Reduce) (s t : StackValue) (z level : ℕ) (vs : List Variable)
    → ((x : ℕ) → x < level + length vs
    → ((c : ℕ) → IsFree reduces (var_names vs) level c → c ≢ value_cell x)
    → word_at t (pos (z + value_cell x)) ≡ word_at s (pos (z + value_cell x)))
    → AreFixed reduces s z level vs → AreFixed reduces t z level vs
fixed_same reduces s t z level [] same fixed = tt
fixed_same reduces s t z level (u ∷ us) same fixed = (
  λ none. same level (omega arith) (λ c free. first none c free) ∙ fixed.0 none,
  fixed_same reduces s t z (suc level) us
      (λ x low others. same x (omega (arith, low)) (λ c free. others c (later c free))) fixed.1,
)
  where
    first : operator_of reduces u.name ≡ None → (c : ℕ)
        → IsFree reduces (var_names (u ∷ us)) level c → c ≢ value_cell level
    first none c free =
        let one : AllByRecursion (λ x. c ≢ value_cell x)
        (level ∷ unreduced (var_names us) (suc level) reduces) = rw none at free in
        one.0

    later : (c : ℕ) → IsFree reduces (var_names (u ∷ us)) level c
        → IsFree reduces (var_names us) (suc level) c
    later c free = all_behind (λ x. c ≢ value_cell x) (cond (some_op
        (operator_of reduces u.name)) [] (level ∷ []))
        (unreduced (var_names us) (suc level) reduces) free

int_same : (m n : ℤ) → Some (Int m) ≡ Some (Int n) → m ≡ n
int_same m n is = cc

-- variables of the same names that are held have the same values where they aren't reduced
pub fixed_values : (reduces : List Reduce) (s : StackValue) (z level : ℕ) (vs us : List Variable)
    → names_of us ≡ names_of vs → AreFixed reduces s z level vs → AreHeld s z level us
    → (x : List ℕ) → operator_of reduces x ≡ None → lookup us x ≡ lookup vs x
fixed_values reduces s z level [] [] named fixed held x none = refl
fixed_values reduces s z level [] (u ∷ us) named fixed held x none = cc
fixed_values reduces s z level (v ∷ vs) [] named fixed held x none = cc
fixed_values reduces s z level (v ∷ vs) (u ∷ us) named fixed held x none =
    let others : names_of us ≡ names_of vs = cc in
    go (fixed_values reduces s z (suc level) vs us others fixed.1 held.2 x none)
    (bytes_eq v.name x) refl
  where
    alike : u.name ≡ v.name
    alike = cc

    go : lookup us x ≡ lookup vs x → (b : Bool) → bytes_eq v.name x ≡ b
        → lookup (u ∷ us) x ≡ lookup (v ∷ vs) x
    go rest true e =
        let f : bytes_eq u.name x ≡ true = rw alike e in
        let is : v.name ≡ x = (bytes_eq-Decides v.name x).0 e in
        let same : u.value ≡ v.value =
        int_same u.value v.value (sym held.0 ∙ fixed.0 (rw is none)) in
        rw (e, f) same
    go rest false e =
        let f : bytes_eq u.name x ≡ false = rw alike e in
        rw (e, f) rest

-- so they are those round the same `par`
pub fixed_round : (reduces : List Reduce) (s : StackValue) (z : ℕ) (vs us : List Variable)
    → names_of us ≡ names_of vs → AreFixed reduces s z 0 vs → AreHeld s z 0 us
    → SameRound reduces vs us
fixed_round reduces s z vs us named fixed held = record {
  names = named;
  values = fixed_values reduces s z 0 vs us named fixed held;
}

-- ---- variables round a `par` that are held

lookup_none : (vs : List Variable) (x : List ℕ) → is_in (names_of vs) x ≡ false
    → lookup vs x ≡ pos 0
lookup_none [] x is = refl
lookup_none (v ∷ vs) x is = go (bytes_eq v.name x) refl (λ rest. lookup_none vs x rest)
  where
    go : (b : Bool) → bytes_eq v.name x ≡ b → (is_in (names_of vs) x ≡ false → lookup vs x ≡ pos 0)
        → lookup (v ∷ vs) x ≡ pos 0
    go true e rest = let wrong : true ≡ false = rw e at is in cc
    go false e rest = let other : is_in (names_of vs) x ≡ false = rw e at is in rw e (rest other)

-- where variables are held that are round the same `par`, those that aren't reduced are fixed
round_held : (reduces : List Reduce) (s : StackValue) (z level : ℕ) (vs us : List Variable)
    → names_of us ≡ names_of vs → Distinct (names_of vs)
    → ((x : List ℕ) → operator_of reduces x ≡ None → lookup us x ≡ lookup vs x)
    → AreHeld s z level us → AreFixed reduces s z level vs
round_held reduces s z level [] us named distinct values held = tt
round_held reduces s z level (v ∷ vs) [] named distinct values held = cc
round_held reduces s z level (v ∷ vs) (u ∷ us) named distinct values held = (
  λ none. held.0 ∙ ap (λ (n : ℤ). Some (Int n)) (first none),
  round_held reduces s z (suc level) vs us others distinct.1 later held.2,
)
  where
    alike : u.name ≡ v.name
    alike = cc

    others : names_of us ≡ names_of vs
    others = cc

    itself : bytes_eq v.name v.name ≡ true
    itself = (bytes_eq-Decides v.name v.name).1 refl

    first : operator_of reduces v.name ≡ None → u.value ≡ v.value
    first none =
        let is : bytes_eq u.name v.name ≡ true = rw alike itself in
        let same : lookup (u ∷ us) v.name ≡ lookup (v ∷ vs) v.name = values v.name none in
        rw (is, itself) at same

    later : (x : List ℕ) → operator_of reduces x ≡ None → lookup us x ≡ lookup vs x
    later x none = go (bytes_eq v.name x) refl
      where
        go : (b : Bool) → bytes_eq v.name x ≡ b → lookup us x ≡ lookup vs x
        go true e =
            let is : v.name ≡ x = (bytes_eq-Decides v.name x).0 e in
            let none_here : is_in (names_of vs) x ≡ false = rw is at distinct.0 in
            let none_there : is_in (names_of us) x ≡ false = rw others none_here in
            lookup_none us x none_there ∙ sym (lookup_none vs x none_here)
        go false e =
            let f : bytes_eq u.name x ≡ false = rw alike e in
            let same : lookup (u ∷ us) x ≡ lookup (v ∷ vs) x = values x none in
            rw (f, e) at same

pub round_fixed : (reduces : List Reduce) (s : StackValue) (z : ℕ) (vs us : List Variable)
    → Distinct (names_of vs) → SameRound reduces vs us → AreHeld s z 0 us
    → AreFixed reduces s z 0 vs
round_fixed reduces s z vs us distinct same held =
    round_held reduces s z 0 vs us same.names distinct same.values held

-- the other way round
pub round_back : (reduces : List Reduce) (vs us : List Variable) → SameRound reduces vs us
    → SameRound reduces us vs
round_back reduces vs us same =
    record { names = sym same.names; values = λ x none. sym (same.values x none) }

-- and on from there
pub round_on : (reduces : List Reduce) (vs us ws : List Variable) → SameRound reduces vs us
    → SameRound reduces us ws → SameRound reduces vs ws
round_on reduces vs us ws first second = record {
  names = second.names ∙ first.names;
  values = λ x none. second.values x none ∙ first.values x none;
}
