-- Names that a set has seen so far, as a loop goes over them.
use Rattle.std.proofs.Common.{◌≡◌, ◌≢◌, ◌⊎◌, ℕ, zero, suc, ◌+◌, ◌<◌, ◌≤◌, Bool, true, false, cond}
use Rattle.std.proofs.Common.{List, [], ◌∷◌, ◌++◌, take, length, get_or, map, refl, sym, ap, ◌∙◌}
use Rattle.std.proofs.Common.{inl, inr, arith, Bor, add-one}
use Rattle.std.specs.Str.{bytes_eq}
use Rattle.std.specs.List.{list_any}
use Rattle.std.specs.HashSet.{HashSet, contains, Updates}
use Rattle.std.proofs.lemmas.Slice.Eq.{bytes_eq-Decides}
use Rattle.std.proofs.lemmas.Bool.{cases_lt, false≢true}
use Rattle.std.proofs.lemmas.List.{get_or_default}
use Rattle.tpal_syntax.specs.Conditions.{AreDistinct, input_names}
use Rattle.tpal_syntax.specs.declared.blocks.CodeTable.{CodeTable}
use Rattle.tpal_syntax.specs.declared.blocks.CodeTable.TheVariants.{Input, Made}

-- two names with the same bytes
abbrev pub same : Bor (List ℕ) → Bor (List ℕ) → Bool
same x y = bytes_eq x.now y.now

-- the names before the index are distinct, and the set has these and no others
pub record Seen {S : Type 0} (names : List (Bor (List ℕ))) (i : ℕ) (seen : HashSet (Bor (List ℕ)) S) : Type 0 where
  pub apart : (j k : ℕ) (d : Bor (List ℕ)) → j < k → k < i → (get_or names j d).now ≢ (get_or names k d).now
  pub kept : (k : ℕ) (d : Bor (List ℕ)) → k < i → contains same seen (get_or names k d) ≡ true
  pub only : (q d : Bor (List ℕ)) → contains same seen q ≡ true → (k : ℕ) × (k < i) × ((get_or names k d).now ≡ q.now)

-- a set has a name by its bytes
contains_same : {S : Type 0} (seen : HashSet (Bor (List ℕ)) S) (p q : Bor (List ℕ)) → p.now ≡ q.now → contains same seen p ≡ contains same seen q
contains_same seen p q e = ap (λ (t : List ℕ). list_any (λ (y : Bor (List ℕ)). bytes_eq t y.now) seen.keys) e

pub Seen-none : {S : Type 0} (names : List (Bor (List ℕ))) (seen : HashSet (Bor (List ℕ)) S) → ((q : Bor (List ℕ)) → contains same seen q ≡ false) → Seen names 0 seen
Seen-none names seen empty = record {
  apart = λ j k d lt below. absurd (omega arith);
  kept = λ k d below. absurd (omega arith);
  only = λ q d e. absurd (false≢true (sym (empty q) ∙ e));
}

cond_true : (b : Bool) → cond b true true ≡ true
cond_true true = refl
cond_true false = refl

cond_cases : (b c : Bool) → cond b true c ≡ true → (b ≡ true) ⊎ (c ≡ true)
cond_cases true c e = inl refl
cond_cases false c e = inr e

-- one more name, which the set did not have
pub Seen-more : {S : Type 0} (names : List (Bor (List ℕ))) (i : ℕ) (seen next : HashSet (Bor (List ℕ)) S) (first : Bor (List ℕ)) → i < length names
    → let x = get_or names i first in contains same seen x ≡ false → Updates same seen next x true → Seen names i seen → Seen names (i + 1) next
Seen-more {S} names i seen next first inside absent updates before =
    let x = get_or names i first in
    let at : (d : Bor (List ℕ)) → get_or names i d ≡ x = λ d. get_or_default names i d first inside in
    record {
      apart = λ j k d lt below. elim (cases_lt k i) [
        | inl inside ↦ before.apart j k d lt inside
        | inr outside ↦ λ e.
            let k-is : k ≡ i = omega arith in
            let here : (get_or names k d).now ≡ x.now = ap (λ (n : ℕ). (get_or names n d).now) k-is ∙ ap (λ (b : Bor (List ℕ)). b.now) (at d) in
            let had : contains same seen (get_or names j d) ≡ true = before.kept j d (omega arith) in
            false≢true (sym absent ∙ contains_same seen x (get_or names j d) (sym (e ∙ here)) ∙ had)
      ];
      kept = λ k d below. updates.0 (get_or names k d) ∙ elim (cases_lt k i) [
        | inl inside ↦ ap (cond (same x (get_or names k d)) true) (before.kept k d inside) ∙ cond_true (same x (get_or names k d))
        | inr outside ↦
            let k-is : k ≡ i = omega arith in
            let here : (get_or names k d).now ≡ x.now = ap (λ (n : ℕ). (get_or names n d).now) k-is ∙ ap (λ (b : Bor (List ℕ)). b.now) (at d) in
            let equal : same x (get_or names k d) ≡ true = (bytes_eq-Decides x.now (get_or names k d).now).1 (sym here) in
            ap (λ (b : Bool). cond b true (contains same seen (get_or names k d))) equal
      ];
      only = λ q d e. elim (cond_cases (same x q) (contains same seen q) (sym (updates.0 q) ∙ e)) [
        | inl equal ↦ (i, omega arith, ap (λ (b : Bor (List ℕ)). b.now) (at d) ∙ (bytes_eq-Decides x.now q.now).0 equal)
        | inr old ↦ (let f = before.only q d old in (f.0, omega (arith, f.1), f.2))
      ];
    }

-- a reference to these bytes
abbrev lent : List ℕ → Bor (List ℕ)
lent bytes = record { ref_ptr = (0, 0); now = bytes }

get_or-names : (names : List (Bor (List ℕ))) (i : ℕ) (d : List ℕ) → get_or (map (λ n. n.now) names) i d ≡ (get_or names i (lent d)).now
get_or-names [] i d = refl
get_or-names (n ∷ names) zero d = refl
get_or-names (n ∷ names) (suc i) d = get_or-names names i d

length-names : (names : List (Bor (List ℕ))) → length (map (λ n. n.now) names) ≡ length names
length-names [] = refl
length-names (n ∷ names) = ap suc (length-names names)

pub Seen-all : {S : Type 0} (names : List (Bor (List ℕ))) (i : ℕ) (seen : HashSet (Bor (List ℕ)) S) → length names ≤ i → Seen names i seen → AreDistinct (map (λ n. n.now) names)
Seen-all names i seen whole all j k d lt below e =
    all.apart j k (lent d) lt (omega (arith, length-names names)) (sym (get_or-names names j d) ∙ e ∙ get_or-names names k d)

-- a name that the set has stands twice
pub Seen-twice : {S : Type 0} (names : List (Bor (List ℕ))) (i : ℕ) (seen : HashSet (Bor (List ℕ)) S) (first : Bor (List ℕ)) → i < length names
    → contains same seen (get_or names i first) ≡ true → Seen names i seen → AreDistinct (map (λ n. n.now) names) → ⊥
Seen-twice names i seen first inside had before distinct =
    let x = get_or names i first in
    let f = before.only x (lent []) had in
    distinct f.0 i [] f.1 (omega (arith, length-names names))
    (get_or-names names f.0 [] ∙ f.2 ∙ ap (λ (b : Bor (List ℕ)). b.now) (get_or_default names i first (lent []) inside) ∙ sym (get_or-names names i []))

-- ---- names of inputs

-- the name of an input, as a list of at most one
abbrev pub input_name : CodeTable → List (List ℕ)
input_name (Input name) = name ∷ []
input_name Made = []

input_names-take : (tables : List CodeTable) (i : ℕ) (d : CodeTable) → i < length tables → input_names (take (suc i) tables) ≡ input_names (take i tables) ++ input_name (get_or tables i d)
input_names-take [] i d inside = absurd (omega arith)
input_names-take (Input name ∷ tables) zero d inside = refl
input_names-take (Made ∷ tables) zero d inside = refl
input_names-take (Input name ∷ tables) (suc i) d inside = ap (λ (ns : List (List ℕ)). name ∷ ns) (input_names-take tables i d (omega arith))
input_names-take (Made ∷ tables) (suc i) d inside = input_names-take tables i d (omega arith)

-- the names of one table more
pub input_names-more : (names : List (Bor (List ℕ))) (tables : List CodeTable) (i : ℕ) (item : CodeTable) → i < length tables → item ≡ get_or tables i item
    → map (λ n. n.now) names ≡ input_names (take i tables) → map (λ n. n.now) names ++ input_name item ≡ input_names (take (i + 1) tables)
input_names-more names tables i item inside is so_far =
    ap (λ (ns : List (List ℕ)). ns ++ input_name item) so_far ∙ ap (λ (t : CodeTable). input_names (take i tables) ++ input_name t) is ∙ sym (input_names-take tables i item inside) ∙ ap (λ (n : ℕ). input_names (take n tables)) (sym (add-one i))

pub map-push : (names : List (Bor (List ℕ))) (n : Bor (List ℕ)) → map (λ n. n.now) (names ++ n ∷ []) ≡ map (λ n. n.now) names ++ n.now ∷ []
map-push [] n = refl
map-push (m ∷ names) n = ap (λ (ns : List (List ℕ)). m.now ∷ ns) (map-push names n)
