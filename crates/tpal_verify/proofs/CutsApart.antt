-- The parts of each table that a fork cuts have no cell in common, whatever its tasks do with them.
use Rattle.std.proofs.Common.{◌≡◌, ℕ, zero, suc, ◌+◌, List, [], ◌∷◌, ◌++◌, Option, Some, None, Result, Ok, Err, refl, sym, ap, subst, ◌∙◌, arith}
use Rattle.std.proofs.lemmas.Bool.{eq-eqb, false≢true}
use Rattle.std.proofs.lemmas.List.Elements.{All-cons, All-nil}
use Rattle.std.proofs.lemmas.List.Kept.{AllPairs-cons}
use Rattle.std.specs.Prelude.{Bool, true, false, ◌==◌, if◌then◌else◌, slice_get, AllPairs}
use Rattle.slices.specs.Holding.{Holding}
use Rattle.tpal_syntax.specs.declared.notes.CarryAt.{CarryAt}
use Rattle.tpal_syntax.specs.declared.notes.CarryAt.TheVariants as carry
use Rattle.tpal_syntax.specs.declared.words.Word.{Word}
use Rattle.tpal_syntax.specs.declared.words.Word.TheVariants as word
use Rattle.tpal_syntax.specs.Parts.{table_of}
use Rattle.tpal_machine.specs.declared.cut.TableCut.{TableCut}
use Rattle.tpal_machine.specs.declared.cut.TableCut.TheVariants.{ByRows, ByCells}
use Rattle.tpal_machine.specs.declared.faults.Fault.{Fault}
use Rattle.tpal_machine.specs.Calculation.{on_number}
use Rattle.tpal_machine.specs.Cut.{rest_of, left_of, child_of, cut_of, each_part, carried_at, with_cut, carried}
use Rattle.tpal_machine.specs.Merge.{AreParts}
use Rattle.tpal_machine.specs.Reading.{register, table_at, no_cells}
use Rattle.tpal_verify.specs.Fits.{IsPartOf}
use Rattle.tpal_verify.proofs.PartsApart.{IsShared, no_cell, rest_and_left, rest_and_child, left_and_child}
use Rattle.tpal_verify.proofs.PartsWithin.{OnePartOf, part_itself}

-- ---- which tables are cut

-- a carried table is cut, and not shared
abbrev pub IsCutOf : CarryAt → ℕ × TableCut → Type 0
IsCutOf c cut = (cut.0 ≡ table_of c) × (IsShared cut.1 → ⊥)

abbrev pub AreCutsOf : List CarryAt → List (ℕ × TableCut) → Type 0
AreCutsOf [] [] = Unit {0}
AreCutsOf [] (cut ∷ cuts) = ⊥
AreCutsOf (c ∷ cs) [] = ⊥
AreCutsOf (c ∷ cs) (cut ∷ cuts) = IsCutOf c cut × AreCutsOf cs cuts

abbrev WhereCut : {X : Type 0} → (X → Type 0) → Result X Fault → Type 0
WhereCut P (Ok x) = P x
WhereCut P (Err f) = Unit {0}

rows_cut : (table at : ℕ) (w : Word) → WhereCut (IsCutOf (carry.Rows table at)) (on_number w (λ i. Ok (table, ByRows i)))
rows_cut table at (word.Int i) = (refl, λ z. z)
rows_cut table at (word.Label l) = tt
rows_cut table at (word.Rec k) = tt
rows_cut table at word.Nil = tt

cells_cut : (table row at : ℕ) (a b : Word) → WhereCut (IsCutOf (carry.Cells table row at)) (on_number a (λ i. on_number b (λ j. Ok (table, ByCells i j))))
cells_cut table row at (word.Int i) (word.Int j) = (refl, λ z. z)
cells_cut table row at (word.Int i) (word.Label l) = tt
cells_cut table row at (word.Int i) (word.Rec k) = tt
cells_cut table row at (word.Int i) word.Nil = tt
cells_cut table row at (word.Label l) b = tt
cells_cut table row at (word.Rec k) b = tt
cells_cut table row at word.Nil b = tt

one_cut : (ws : List Word) (c : CarryAt) → WhereCut (IsCutOf c) (carried_at ws c)
one_cut ws (carry.Rows table at) = rows_cut table at (register ws at)
one_cut ws (carry.Cells table row at) = cells_cut table row at (register ws row) (register ws at)

all_cut : (ws : List Word) (cs : List CarryAt) → WhereCut (AreCutsOf cs) (carried ws cs)
all_cut ws [] = tt
all_cut ws (c ∷ cs) = by (carried_at ws c) (carried ws cs) (one_cut ws c) (all_cut ws cs)
  where
    by : (r : Result (ℕ × TableCut) Fault) (q : Result (List (ℕ × TableCut)) Fault) → WhereCut (IsCutOf c) r → WhereCut (AreCutsOf cs) q → WhereCut (AreCutsOf (c ∷ cs)) (with_cut r q)
    by (Ok x) (Ok xs) a b = (a, b)
    by (Ok x) (Err f) a b = tt
    by (Err f) q a b = tt

pub cuts_are : (ws : List Word) (cs : List CarryAt) (cuts : List (ℕ × TableCut)) → carried ws cs ≡ Ok cuts → AreCutsOf cs cuts
cuts_are ws cs cuts q = subst (λ r. WhereCut (AreCutsOf cs) r) q (all_cut ws cs)

pub not_shared : (cs : List CarryAt) (cuts : List (ℕ × TableCut)) → AreCutsOf cs cuts → (i : ℕ) (c : CarryAt) → slice_get cs i ≡ Some c → IsShared (cut_of cuts (table_of c)) → ⊥
not_shared [] [] are i c q = absurd (no_carry q)
  where
    no_carry : None ≡ Some c → ⊥
    no_carry z = cc
not_shared [] (x ∷ cuts) are i c q = absurd are
not_shared (d ∷ cs) [] are i c q = absurd are
not_shared (d ∷ cs) (x ∷ cuts) are zero c q = by (x.0 == table_of c) (eq-eqb x.0 (table_of c) (are.0.0 ∙ ap of q))
  where
    of : Option CarryAt → ℕ
    of None = 0
    of (Some e) = table_of e

    by : (b : Bool) → b ≡ true → IsShared (if b then x.1 else cut_of cuts (table_of c)) → ⊥
    by true z = are.0.1
    by false z = absurd (false≢true z)
not_shared (d ∷ cs) (x ∷ cuts) are (suc i) c q = by (x.0 == table_of c) (not_shared cs cuts are.1 i c q)
  where
    by : (b : Bool) → (IsShared (cut_of cuts (table_of c)) → ⊥) → IsShared (if b then x.1 else cut_of cuts (table_of c)) → ⊥
    by true later = are.0.1
    by false later = later

-- ---- apart

-- what the rest has of a table, and parts of what the left and the child have, are apart
pub record AreApart (h x y : Holding) : Type 0 where
  pub left : AreParts h x
  pub child : AreParts h y
  pub sides : AreParts x y

of_nothing : (x y : Holding) → IsPartOf x no_cells → IsPartOf y no_cells → AreApart no_cells x y
of_nothing x y p q = record {
  left = record { size = (sym p.size.0, sym p.size.1); apart = λ c. no_cell no_cells c.0 c.1 c.2 };
  child = record { size = (sym q.size.0, sym q.size.1); apart = λ c. no_cell no_cells c.0 c.1 c.2 };
  sides = record { size = (p.size.0 ∙ sym q.size.0, p.size.1 ∙ sym q.size.1); apart = λ c. no_cell no_cells c.0 c.1 (p.within c.0 c.1 c.2) };
}

apart_from : (cuts : List (ℕ × TableCut)) (hs : List Holding) (u t : ℕ) (x y : Holding) → (IsShared (cut_of cuts (u + t)) → ⊥) → IsPartOf x (table_at (each_part left_of cuts u hs) t) → IsPartOf y (table_at (each_part child_of cuts u hs) t)
    → AreApart (table_at (each_part rest_of cuts u hs) t) x y
apart_from cuts [] u t x y n p q = of_nothing x y p q
apart_from cuts (h ∷ hs) u zero x y n p q =
    let m = subst (λ k. IsShared (cut_of cuts k) → ⊥) (let z : u + 0 ≡ u = omega arith in z) n in
    record { left = rest_and_left (cut_of cuts u) h x y m p q; child = rest_and_child (cut_of cuts u) h x y m p q; sides = left_and_child (cut_of cuts u) h x y m p q }
apart_from cuts (h ∷ hs) u (suc t) x y n p q =
    apart_from cuts hs (u + 1) t x y (subst (λ k. IsShared (cut_of cuts k) → ⊥) (let z : u + suc t ≡ u + 1 + t = omega arith in z) n) p q

pub apart_at : (cuts : List (ℕ × TableCut)) (hs : List Holding) (t : ℕ) (x y : Holding) → (IsShared (cut_of cuts t) → ⊥) → IsPartOf x (table_at (each_part left_of cuts 0 hs) t) → IsPartOf y (table_at (each_part child_of cuts 0 hs) t)
    → AreApart (table_at (each_part rest_of cuts 0 hs) t) x y
apart_at cuts hs t x y n p q = apart_from cuts hs 0 t x y (subst (λ k. IsShared (cut_of cuts k) → ⊥) (let z : t ≡ 0 + t = omega arith in z) n) p q

-- ---- pairs

one_pair : (h : Holding) → AllPairs AreParts (h ∷ [])
one_pair h = AllPairs-cons AreParts h [] (All-nil (AreParts h)) (λ i j d less below. absurd (omega (arith, below)))

two_pairs : (h k : Holding) → AreParts h k → AllPairs AreParts (h ∷ k ∷ [])
two_pairs h k are = AllPairs-cons AreParts h (k ∷ []) (All-cons (AreParts h) k [] are (All-nil (AreParts h))) (one_pair k)

-- the rest's part with one of each side or of one side
pub pairs_apart : (h left child : Holding) (xs ys : List Holding) → ((x y : Holding) → IsPartOf x left → IsPartOf y child → AreApart h x y) → OnePartOf left xs → OnePartOf child ys → AllPairs AreParts (h ∷ xs ++ ys)
pairs_apart h left child [] [] apart a b = one_pair h
pairs_apart h left child [] (y ∷ []) apart a b = two_pairs h y (apart left y (part_itself left) b).child
pairs_apart h left child [] (y ∷ z ∷ ys) apart a b = absurd b
pairs_apart h left child (x ∷ []) [] apart a b = two_pairs h x (apart x child a (part_itself child)).left
pairs_apart h left child (x ∷ []) (y ∷ []) apart a b =
    let are = apart x y a b in
    AllPairs-cons AreParts h (x ∷ y ∷ []) (All-cons (AreParts h) x (y ∷ []) are.left (All-cons (AreParts h) y [] are.child (All-nil (AreParts h)))) (two_pairs x y are.sides)
pairs_apart h left child (x ∷ []) (y ∷ z ∷ ys) apart a b = absurd b
pairs_apart h left child (x ∷ z ∷ xs) ys apart a b = absurd a
