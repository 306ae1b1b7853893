-- The variables of a state in the cells of an activation.
use Rattle.std.proofs.Common.{◌≡◌, ◌≢◌, ℕ, zero, suc, ◌+◌, ◌<◌, ◌≤◌, Bool, true, false, cond, List}
use Rattle.std.proofs.Common.{[], ◌∷◌, ◌++◌, length, take, map, Some, bytes_eq, Vec, refl, ap, ◌∙◌}
use Rattle.std.proofs.Common.{arith, All}
use Rattle.std.specs.Prelude.{ℤ, pos, ⊤}
use Rattle.std.specs.declared.alloc.Global.{Global}
use Rattle.std.proofs.lemmas.List.Elements.{All-nil, All-cons}
use Rattle.stack_marks.specs.Stacks.{StackValue, word_at}
use Rattle.tpal_syntax.specs.declared.words.Word.TheVariants.{Int}
use Rattle.loop_meaning.specs.declared.value.Variable.{Variable}
use Rattle.loop_meaning.specs.InRange.{InRange, VariableInRange}
use Rattle.loop_meaning.specs.State.{lookup, assign, declare}
use Rattle.expr_lower.specs.Scopes.{cell_in, has_cell_in}
use Rattle.scene_laws.specs.Layout.{value_cell}
use Rattle.scene_laws.specs.Names.{AreLaid}

-- each variable, from a level on, has its number in its cell, in the range of 64 bits
abbrev pub AreHeld : StackValue → ℕ → ℕ → List Variable → Type 0
AreHeld s z level [] = ⊤
AreHeld s z level (u ∷ us) = (word_at s (pos (z + value_cell level)) ≡ Some (Int u.value)) × InRange u.value × AreHeld s z (suc level) us

abbrev pub cell_names : List (Vec ℕ Global × ℕ) → List (List ℕ)
cell_names cs = map (λ (c : Vec ℕ Global × ℕ). c.0.items) cs

abbrev pub var_names : List Variable → List (List ℕ)
var_names vs = map (λ (u : Variable). u.name) vs

pub held_in_range : (s : StackValue) (z level : ℕ) (vs : List Variable) → AreHeld s z level vs → All VariableInRange vs
held_in_range s z level [] h = All-nil VariableInRange
held_in_range s z level (u ∷ us) h = All-cons VariableInRange u us h.1 (held_in_range s z (suc level) us h.2)

-- where the cells of the variables are as before
pub held_same : (s t : StackValue) (z level : ℕ) (vs : List Variable) → ((x : ℕ) → level ≤ x → x < level + length vs → word_at t (pos (z + value_cell x)) ≡ word_at s (pos (z + value_cell x))) → AreHeld s z level vs → AreHeld t z level vs
held_same s t z level [] same h = tt
held_same s t z level (u ∷ us) same h =
    (same level (omega arith) (omega arith) ∙ h.0, h.1, held_same s t z (suc level) us (λ x low high. same x (omega arith) (omega arith)) h.2)

-- one more variable
pub held_declare : (s : StackValue) (z level : ℕ) (vs : List Variable) (x : List ℕ) (n : ℤ) → AreHeld s z level vs → word_at s (pos (z + value_cell (level + length vs))) ≡ Some (Int n) → InRange n → AreHeld s z level (declare vs x n)
held_declare s z level [] x n h is fits =
    let e : level + 0 ≡ level = omega arith in
    (rw e at is, fits, tt)
held_declare s z level (u ∷ us) x n h is fits =
    let e : level + suc (length us) ≡ suc level + length us = omega arith in
    (h.0, h.1, held_declare s z (suc level) us x n h.2 (rw e at is) fits)

-- the first variables
pub held_take : (s : StackValue) (z level n : ℕ) (vs : List Variable) → AreHeld s z level vs → AreHeld s z level (take n vs)
held_take s z level zero [] h = tt
held_take s z level zero (u ∷ us) h = tt
held_take s z level (suc n) [] h = tt
held_take s z level (suc n) (u ∷ us) h = (h.0, h.1, held_take s z (suc level) n us h.2)

-- a cell of a scope is not below that of its first variable
cell_from : (cs : List (Vec ℕ Global × ℕ)) (level : ℕ) (x : List ℕ) → AreLaid level cs → has_cell_in cs x ≡ true → value_cell level ≤ cell_in cs x
cell_from [] level x laid has = cc
cell_from (c ∷ cs) level x laid has = go (cell_from cs (suc level) x laid.1) (bytes_eq c.0.items x) refl
  where
    go : (has_cell_in cs x ≡ true → value_cell (suc level) ≤ cell_in cs x) → (b : Bool) → bytes_eq c.0.items x ≡ b → value_cell level ≤ cell_in (c ∷ cs) x
    go others true e = rw e (let is : c.1 ≡ value_cell level = laid.0 in omega arith)
    go others false e =
        let rest : has_cell_in cs x ≡ true = rw e at has in
        let above : value_cell (suc level) ≤ cell_in cs x = others rest in
        rw e (omega arith)

-- the number of a variable that is visible is in its cell
pub held_lookup : (s : StackValue) (z : ℕ) (cs : List (Vec ℕ Global × ℕ)) (level : ℕ) (vs : List Variable) (x : List ℕ) → AreLaid level cs → cell_names cs ≡ var_names vs → has_cell_in cs x ≡ true → AreHeld s z level vs → word_at s (pos (z + cell_in cs x)) ≡ Some (Int (lookup vs x))
held_lookup s z [] level vs x laid names has h = cc
held_lookup s z (c ∷ cs) level [] x laid names has h = cc
held_lookup s z (c ∷ cs) level (u ∷ us) x laid names has h =
    let others : cell_names cs ≡ var_names us = cc in
    go (λ rest. held_lookup s z cs (suc level) us x laid.1 others rest h.2) (bytes_eq c.0.items x) refl
  where
    same : c.0.items ≡ u.name
    same = cc

    go : (has_cell_in cs x ≡ true → word_at s (pos (z + cell_in cs x)) ≡ Some (Int (lookup us x))) → (b : Bool) → bytes_eq c.0.items x ≡ b → word_at s (pos (z + cell_in (c ∷ cs) x)) ≡ Some (Int (lookup (u ∷ us) x))
    go behind true e =
        let f : bytes_eq u.name x ≡ true = rw same at e in
        rw (e, f, laid.0) h.0
    go behind false e =
        let f : bytes_eq u.name x ≡ false = rw same at e in
        let rest : has_cell_in cs x ≡ true = rw e at has in
        rw (e, f) (behind rest)

-- a variable that is assigned
pub held_assign : (s t : StackValue) (z : ℕ) (cs : List (Vec ℕ Global × ℕ)) (level : ℕ) (vs : List Variable) (x : List ℕ) (n : ℤ) → AreLaid level cs → cell_names cs ≡ var_names vs → has_cell_in cs x ≡ true → InRange n
    → word_at t (pos (z + cell_in cs x)) ≡ Some (Int n) → ((a : ℕ) → a ≢ z + cell_in cs x → word_at t (pos a) ≡ word_at s (pos a)) → AreHeld s z level vs → AreHeld t z level (assign vs x n)
held_assign s t z [] level vs x n laid names has fits is same h = cc
held_assign s t z (c ∷ cs) level [] x n laid names has fits is same h = cc
held_assign s t z (c ∷ cs) level (u ∷ us) x n laid names has fits is same h =
    let others : cell_names cs ≡ var_names us = cc in
    go (λ rest set others_same. held_assign s t z cs (suc level) us x n laid.1 others rest fits set others_same h.2) (bytes_eq c.0.items x) refl
  where
    alike : c.0.items ≡ u.name
    alike = cc

    go : (has_cell_in cs x ≡ true → word_at t (pos (z + cell_in cs x)) ≡ Some (Int n) → ((a : ℕ) → a ≢ z + cell_in cs x → word_at t (pos a) ≡ word_at s (pos a)) → AreHeld t z (suc level) (assign us x n))
        → (b : Bool) → bytes_eq c.0.items x ≡ b → AreHeld t z level (assign (u ∷ us) x n)
    go behind true e =
        let f : bytes_eq u.name x ≡ true = rw alike at e in
        let cell : cell_in (c ∷ cs) x ≡ value_cell level = rw e laid.0 in
        rw f (rw cell at is, fits, held_same s t z (suc level) us (λ y low high. same (z + value_cell y) (λ (q : z + value_cell y ≡ z + cell_in (c ∷ cs) x). absurd (omega (arith, q, cell)))) h.2)
    go behind false e =
        let f : bytes_eq u.name x ≡ false = rw alike at e in
        let rest : has_cell_in cs x ≡ true = rw e at has in
        let cell : cell_in (c ∷ cs) x ≡ cell_in cs x = rw e refl in
        let above : value_cell (suc level) ≤ cell_in cs x = cell_from cs (suc level) x laid.1 rest in
        rw f (
          same (z + value_cell level) (λ (q : z + value_cell level ≡ z + cell_in (c ∷ cs) x). absurd (omega (arith, q, cell, above))) ∙ h.0,
          h.1,
          behind rest (rw cell at is) (λ a ne. same a (λ (q : a ≡ z + cell_in (c ∷ cs) x). ne (omega (arith, q, cell)))),
        )

pub names_declare : (vs : List Variable) (x : List ℕ) (n : ℤ) → var_names (declare vs x n) ≡ var_names vs ++ x ∷ []
names_declare [] x n = refl
names_declare (u ∷ us) x n = ap (λ ns. u.name ∷ ns) (names_declare us x n)

pub names_assign : (vs : List Variable) (x : List ℕ) (n : ℤ) → var_names (assign vs x n) ≡ var_names vs
names_assign [] x n = refl
names_assign (u ∷ us) x n = go (bytes_eq u.name x) (names_assign us x n)
  where
    go : (b : Bool) → var_names (assign us x n) ≡ var_names us → var_names (cond b (record { name = u.name; value = n } ∷ us) (u ∷ assign us x n)) ≡ u.name ∷ var_names us
    go true r = refl
    go false r = ap (λ ns. u.name ∷ ns) r

pub names_take : (k : ℕ) (vs : List Variable) → var_names (take k vs) ≡ take k (var_names vs)
names_take zero [] = refl
names_take zero (u ∷ us) = refl
names_take (suc k) [] = refl
names_take (suc k) (u ∷ us) = ap (λ ns. u.name ∷ ns) (names_take k us)
