-- Tables that are taken out of the given ones, one by one.
use Rattle.std.proofs.Common.{◌≡◌, ℕ, suc, ◌+◌, ◌<◌, Bool, true, false, cond, not, ◌||◌, List, []}
use Rattle.std.proofs.Common.{◌∷◌, length, Some, None, refl, ap, sym, ◌∙◌, arith, lt-ltb}
use Rattle.std.specs.Prelude.{All, bytes_eq, get_or}
use Rattle.std.specs.List.{position, position_or_len, remove}
use Rattle.std.proofs.lemmas.List.Elements.{All-head, All-tail, All-cons, All-nil}
use Rattle.std.proofs.lemmas.Slice.Eq.{bytes_eq-Decides}
use Rattle.tp_value.specs.declared.values.Table.{Table}
use Rattle.loop_meaning.specs.State.{table_of}
use Rattle.scene_laws.specs.Tables.{IsTable}
use Rattle.tpal_tool.specs.Inputs.{is_given, without}

-- whether a table has a name
abbrev pub has_name : List ℕ → Table → Bool
has_name name table = bytes_eq table.name name

abbrev pub place : List Table → List ℕ → ℕ
place ts name = position_or_len (has_name name) ts

one_more : (n : ℕ) → 1 + n ≡ suc n
one_more n = omega arith

-- where a table of the name is given, it stands at its place
pub place_within : (ts : List Table) (name : List ℕ) → is_given ts name ≡ true → place ts name < length ts
place_within [] name given = cc
place_within (t ∷ ts) name given = go (bytes_eq t.name name) given (place_within ts name)
  where
    go : (b : Bool) → (b || is_given ts name) ≡ true → (is_given ts name ≡ true → place ts name < length ts) → cond (not b) (1 + place ts name) 0 < suc (length ts)
    go true h later = omega arith
    go false h later = omega (arith, later h)

pub place_has : (ts : List Table) (name : List ℕ) (d : Table) → is_given ts name ≡ true → get_or ts (place ts name) d ≡ table_of ts name
place_has [] name d given = cc
place_has (t ∷ ts) name d given = go (bytes_eq t.name name) given (place_has ts name d)
  where
    go : (b : Bool) → (b || is_given ts name) ≡ true → (is_given ts name ≡ true → get_or ts (place ts name) d ≡ table_of ts name) → get_or (t ∷ ts) (cond (not b) (1 + place ts name) 0) d ≡ cond b t (table_of ts name)
    go true h later = refl
    go false h later = ap (λ k. get_or (t ∷ ts) k d) (one_more (place ts name)) ∙ later h

-- and without it the others are left
pub place_taken : (ts : List Table) (name : List ℕ) → remove ts (place ts name) ≡ without ts name
place_taken [] name = refl
place_taken (t ∷ ts) name = go (bytes_eq t.name name) (place_taken ts name)
  where
    go : (b : Bool) → remove ts (place ts name) ≡ without ts name → remove (t ∷ ts) (cond (not b) (1 + place ts name) 0) ≡ cond b ts (t ∷ without ts name)
    go true later = refl
    go false later = ap (remove (t ∷ ts)) (one_more (place ts name)) ∙ ap (λ more. t ∷ more) later

-- a table of another name is left as it was
other_name : (a x y : List ℕ) → bytes_eq x y ≡ false → bytes_eq a x ≡ true → bytes_eq a y ≡ false
other_name a x y other is = ap (λ z. bytes_eq z y) ((bytes_eq-Decides a x).0 is) ∙ other

pub table_left : (ts : List Table) (x y : List ℕ) → bytes_eq x y ≡ false → table_of (without ts x) y ≡ table_of ts y
table_left [] x y other = refl
table_left (t ∷ ts) x y other = go (bytes_eq t.name x) refl (table_left ts x y other)
  where
    go : (b : Bool) → bytes_eq t.name x ≡ b → table_of (without ts x) y ≡ table_of ts y → table_of (cond b ts (t ∷ without ts x)) y ≡ cond (bytes_eq t.name y) t (table_of ts y)
    go true is later = ap (λ c. cond c t (table_of ts y)) (sym (other_name t.name x y other is))
    go false is later = ap (λ u. cond (bytes_eq t.name y) t u) later

pub given_left : (ts : List Table) (x y : List ℕ) → bytes_eq x y ≡ false → is_given (without ts x) y ≡ is_given ts y
given_left [] x y other = refl
given_left (t ∷ ts) x y other = go (bytes_eq t.name x) refl (given_left ts x y other)
  where
    go : (b : Bool) → bytes_eq t.name x ≡ b → is_given (without ts x) y ≡ is_given ts y → is_given (cond b ts (t ∷ without ts x)) y ≡ (bytes_eq t.name y || is_given ts y)
    go true is later = ap (λ c. c || is_given ts y) (sym (other_name t.name x y other is))
    go false is later = ap (λ u. bytes_eq t.name y || u) later

pub tables_left : (ts : List Table) (x : List ℕ) → All IsTable ts → All IsTable (without ts x)
tables_left [] x all = All-nil IsTable
tables_left (t ∷ ts) x all = go (bytes_eq t.name x) (tables_left ts x (All-tail IsTable t ts all))
  where
    go : (b : Bool) → All IsTable (without ts x) → All IsTable (cond b ts (t ∷ without ts x))
    go true later = All-tail IsTable t ts all
    go false later = All-cons IsTable t (without ts x) (All-head IsTable t ts all) later

-- a given table is one of those
pub table_of_all : (ts : List Table) (x : List ℕ) → is_given ts x ≡ true → All IsTable ts → IsTable (table_of ts x)
table_of_all [] x given all = cc
table_of_all (t ∷ ts) x given all = go (bytes_eq t.name x) given (λ h. table_of_all ts x h (All-tail IsTable t ts all))
  where
    go : (b : Bool) → (b || is_given ts x) ≡ true → (is_given ts x ≡ true → IsTable (table_of ts x)) → IsTable (cond b t (table_of ts x))
    go true h later = All-head IsTable t ts all
    go false h later = later h

-- the place that a search finds
pub place_found : (ts : List Table) (name : List ℕ) → is_given ts name ≡ true → position (has_name name) ts ≡ Some (place ts name)
place_found ts name given = ap (λ b. cond b (Some (place ts name)) None) (lt-ltb (place ts name) (length ts) (place_within ts name given))
