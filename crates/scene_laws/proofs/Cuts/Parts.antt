-- What the parts of a fork hold of tables, what a side gives back of them, and what they are
-- together.
use Rattle.std.proofs.Common.{◌≡◌, ℕ, zero, suc, ◌+◌, ◌*◌, ◌<◌, ◌≤◌, Bool, true, false, not, cond}
use Rattle.std.proofs.Common.{List, [], ◌∷◌, length, Option, Some, None, refl, sym, ap, ◌∙◌, arith}
use Rattle.std.specs.Prelude.{ℤ, pos, ⊤, ◌&&◌, ◌||◌, int_lt, nat_lt, slice_get}
use Rattle.std.specs.FinMap.{get-empty}
use Rattle.std.specs.Ordering.{int_eq}
use Rattle.std.proofs.lemmas.Bool.{lt-ltb}
use Rattle.slices.specs.Cells.{first_cells, place_cmp}
use Rattle.slices.specs.Holding.{Holding, cell_at, held_where, own, shared, together}
use Rattle.slices.specs.Spans.{or_else}
use Rattle.slices.proofs.JoinLaws.{cell_at-held_where, cell_at-together, same_holding}
use Rattle.tp_value.specs.declared.Table.{Table}
use Rattle.loop_meaning.specs.State.{has_cell, cell_of}
use Rattle.tpal_machine.specs.declared.cut.TableCut.{TableCut}
use Rattle.tpal_machine.specs.declared.cut.TableCut.TheVariants.{ByRows, ByCells, Whole}
use Rattle.tpal_machine.specs.Cut.{are_rows_held, child_of, cut_of, each_part, is_row_held}
use Rattle.tpal_machine.specs.Cut.{is_whole, left_of, nothing_of, rest_of}
use Rattle.scene_laws.proofs.Scenes.Cells.{listed_whole}
use Rattle.scene_laws.proofs.Scenes.Regions.{Extent, Wholly, Has, Unknown, Region, AreShown}
use Rattle.scene_laws.proofs.Scenes.Regions.{HasSize, IsPart, IsShown, part_cell, whole_shown}

-- ---- less of a table

-- those cells of an extent that pass a test
abbrev pub narrowed : (ℤ → ℤ → Bool) → Extent → Extent
narrowed test Wholly = Has test
narrowed test (Has other) = Has (λ i j. other i j && test i j)
narrowed test Unknown = Unknown

-- of a table that isn't cut a part gets a share where it is wholly held, and what else is held
-- isn't known
abbrev pub shared_extent : Extent → Extent
shared_extent Wholly = Wholly
shared_extent (Has test) = Unknown
shared_extent Unknown = Unknown

-- how much the left, the child and the rest of a fork hold of a table, by how it is cut
abbrev pub left_extent : TableCut → Extent → Extent
left_extent (ByRows at) e = narrowed (λ i j. int_lt i at) e
left_extent (ByCells row at) e = narrowed (λ i j. int_eq i row && int_lt j at) e
left_extent Whole e = shared_extent e

abbrev pub child_extent : TableCut → Extent → Extent
child_extent (ByRows at) e = narrowed (λ i j. not (int_lt i at)) e
child_extent (ByCells row at) e = narrowed (λ i j. int_eq i row && not (int_lt j at)) e
child_extent Whole e = shared_extent e

abbrev pub rest_extent : TableCut → Extent → Extent
rest_extent (ByRows at) e = narrowed (λ i j. false) e
rest_extent (ByCells row at) e = narrowed (λ i j. not (int_eq i row)) e
rest_extent Whole e = e

-- ---- it is held so

same_size : (h k : Holding) (t : Table) → k.rows ≡ h.rows → k.cols ≡ h.cols → HasSize h t
    → HasSize k t
same_size h k t rows cols size =
    record { rows = rows ∙ size.rows; cols = cols ∙ size.cols; full = size.full }

-- what holds the same cells holds as much
same_shown : (e : Extent) (h k : Holding) (t : Table) → k.rows ≡ h.rows → k.cols ≡ h.cols
    → ((i j : ℤ) → cell_at k i j ≡ cell_at h i j) → IsShown e h t → IsShown e k t
same_shown Wholly h k t rows cols cells shown =
    record {
      size = same_size h k t rows cols shown.size;
      cells =
          λ i j. cells i j ∙ shown.cells i j;
    }
same_shown (Has test) h k t rows cols cells shown =
    record {
      size = same_size h k t rows cols shown.size;
      cells =
          λ i j. cells i j ∙ shown.cells i j;
    }
same_shown Unknown h k t rows cols cells shown = same_size h k t rows cols shown

both_tests : (a b c : Bool) (v : Option ℤ)
    → cond c (cond (a && b) v None) None ≡ cond (a && (b && c)) v None
both_tests false b true v = refl
both_tests false b false v = refl
both_tests true false true v = refl
both_tests true false false v = refl
both_tests true true c v = refl

part_narrowed : (other test : ℤ → ℤ → Bool) (h : Holding) (t : Table) → IsPart other h t
    → IsPart (λ i j. other i j && test i j) (held_where (λ p. test p.0 p.1) h) t
part_narrowed other test h t part = record {
  size = same_size h (held_where (λ p. test p.0 p.1) h) t refl refl part.size;
  cells = λ i j.
      cell_at-held_where (λ p. test p.0 p.1) h i j
      ∙ (ap (λ (o : Option ℤ). cond (test i j) o None) (part.cells i j)
      ∙ both_tests (has_cell t i j) (other i j) (test i j) (Some (cell_of t i j)));
}

narrowed_shown : (test : ℤ → ℤ → Bool) (e : Extent) (h : Holding) (t : Table) → IsShown e h t
    → IsShown (narrowed test e) (held_where (λ p. test p.0 p.1) h) t
narrowed_shown test Wholly h t shown = part_narrowed (λ i j. true) test h t shown
narrowed_shown test (Has other) h t shown = part_narrowed other test h t shown
narrowed_shown test Unknown h t shown =
    same_size h (held_where (λ p. test p.0 p.1) h) t refl refl shown

no_cell : (a : Bool) (v : Option ℤ) → cond (a && false) v None ≡ None
no_cell true v = refl
no_cell false v = refl

never : (a b : Bool) (v : Option ℤ) → cond (a && (b && false)) v None ≡ None
never true true v = refl
never true false v = refl
never false b v = refl

nothing_shown : (e : Extent) (h : Holding) (t : Table) → IsShown e h t
    → IsShown (narrowed (λ i j. false) e) (nothing_of h) t
nothing_shown Wholly h t shown =
    record {
      size = same_size h (nothing_of h) t refl refl shown.size;
      cells =
          λ i j. get-empty place_cmp (i, j) ∙ sym (no_cell (has_cell t i j) (Some (cell_of t i j)));
    }
nothing_shown (Has test) h t shown =
    record {
      size = same_size h (nothing_of h) t refl refl shown.size;
      cells =
          λ i j. get-empty place_cmp (i, j)
          ∙ sym (never (has_cell t i j) (test i j) (Some (cell_of t i j)));
    }
nothing_shown Unknown h t shown = same_size h (nothing_of h) t refl refl shown

-- ---- a table that is wholly held is whole

module _ (h : Holding) (t : Table) (part : IsPart (λ i j. true) h t) where
  row_held : (row col n : ℕ) → row < t.rows → col + n ≤ t.cols → is_row_held h row col n ≡ true
  unfolding is_row_held
  row_held row col zero in_rows in_cols = refl
  row_held row col (suc n) in_rows in_cols =
      let first : nat_lt row t.rows ≡ true = lt-ltb row t.rows in_rows in
      let second : nat_lt col t.cols ≡ true = lt-ltb col t.cols (omega (arith, in_cols)) in
      let is : cell_at h (pos row) (pos col) ≡ Some (cell_of t (pos row) (pos col)) =
      part.cells (pos row) (pos col) ∙ rw (first, second) refl in
      rw is (row_held row (col + 1) n in_rows (omega (arith, in_cols)))

  rows_held : (row n : ℕ) → row + n ≤ t.rows → are_rows_held h row n ≡ true
  unfolding are_rows_held
  rows_held row zero in_rows = refl
  rows_held row (suc n) in_rows =
      let first : is_row_held h row 0 h.cols ≡ true =
      row_held row 0 h.cols (omega (arith, in_rows)) (omega (arith, part.size.cols)) in
      rw first (rows_held (row + 1) n (omega (arith, in_rows)))

  wholly_whole : is_whole h ≡ true
  wholly_whole = rows_held 0 h.rows (omega (arith, part.size.rows))

-- ---- the parts of a fork

uncut_share : (h : Holding) (t : Table) (whole : Bool) → HasSize h t
    → HasSize (cond whole (shared h) (nothing_of h)) t
uncut_share h t true size = same_size h (shared h) t refl refl size
uncut_share h t false size = same_size h (nothing_of h) t refl refl size

uncut_shown : (e : Extent) (h : Holding) (t : Table) → IsShown e h t
    → IsShown (shared_extent e) (cond (is_whole h) (shared h) (nothing_of h)) t
uncut_shown Wholly h t shown =
    rw (wholly_whole h t shown) (same_shown Wholly h (shared h) t refl refl (λ i j. refl) shown)
uncut_shown (Has test) h t shown = uncut_share h t (is_whole h) shown.size
uncut_shown Unknown h t shown = uncut_share h t (is_whole h) shown

kept_shown : (e : Extent) (h : Holding) (t : Table) (whole : Bool) → IsShown e h t
    → IsShown e (cond whole (shared h) h) t
kept_shown e h t true shown = same_shown e h (shared h) t refl refl (λ i j. refl) shown
kept_shown e h t false shown = shown

pub left_shown : (cut : TableCut) (e : Extent) (h : Holding) (t : Table) → IsShown e h t
    → IsShown (left_extent cut e) (left_of cut h) t
left_shown (ByRows at) e h t shown = narrowed_shown (λ i j. int_lt i at) e h t shown
left_shown (ByCells row at) e h t shown =
    narrowed_shown (λ i j. int_eq i row && int_lt j at) e h t shown
left_shown Whole e h t shown = uncut_shown e h t shown

pub child_shown : (cut : TableCut) (e : Extent) (h : Holding) (t : Table) → IsShown e h t
    → IsShown (child_extent cut e) (child_of cut h) t
child_shown (ByRows at) e h t shown = narrowed_shown (λ i j. not (int_lt i at)) e h t shown
child_shown (ByCells row at) e h t shown =
    narrowed_shown (λ i j. int_eq i row && not (int_lt j at)) e h t shown
child_shown Whole e h t shown = uncut_shown e h t shown

pub rest_shown : (cut : TableCut) (e : Extent) (h : Holding) (t : Table) → IsShown e h t
    → IsShown (rest_extent cut e) (rest_of cut h) t
rest_shown (ByRows at) e h t shown = nothing_shown e h t shown
rest_shown (ByCells row at) e h t shown = narrowed_shown (λ i j. not (int_eq i row)) e h t shown
rest_shown Whole e h t shown = kept_shown e h t (is_whole h) shown

-- the tables are cut by their numbers as by their names
abbrev pub AreCut : List (ℕ × TableCut) → (List ℕ → TableCut) → ℕ → List Table → Type 0
AreCut cuts by_name n [] = ⊤
AreCut cuts by_name n (t ∷ ts) = (cut_of cuts n ≡ by_name t.name) × AreCut cuts by_name (n + 1) ts

-- a part of each table is held, where it is of one
pub parts_shown : (part : TableCut → Holding → Holding) (extent : TableCut → Extent → Extent)
    → ((cut : TableCut) (e : Extent) (h : Holding) (t : Table) → IsShown e h t
    → IsShown (extent cut e) (part cut h) t)
    → (cuts : List (ℕ × TableCut)) (by_name : List ℕ → TableCut) (region : Region) (n : ℕ)
    (hs : List Holding) (ts : List Table) → AreCut cuts by_name n ts → AreShown region hs ts
    → AreShown (λ x. extent (by_name x) (region x)) (each_part part cuts n hs) ts
parts_shown part extent keeps cuts by_name region n hs [] are shown = tt
parts_shown part extent keeps cuts by_name region n [] (t ∷ ts) are shown = absurd shown
parts_shown part extent keeps cuts by_name region n (h ∷ hs) (t ∷ ts) are shown = (
  rw are.0 (keeps (by_name t.name)
      (region t.name) h t shown.0),
  parts_shown part extent keeps cuts by_name region
      (n + 1) hs ts are.1 shown.1,
)

-- ---- what a side gives back

-- the test that the cells of an extent pass
abbrev pub cells_in : Extent → ℤ → ℤ → Bool
cells_in Wholly i j = true
cells_in (Has test) i j = test i j
cells_in Unknown i j = false

-- all of a table, and what an extent has of it
abbrev pub all_of_table : Table → Holding
all_of_table t = record {
  rows = t.rows;
  cols = t.cols;
  cells =
      first_cells t.cols (slice_get t.cells) (t.rows * t.cols);
  owned = true;
}

abbrev pub part_of_table : Extent → Table → Holding
part_of_table e t = held_where (λ p. cells_in e p.0 p.1) (all_of_table t)

-- how much is held is known
abbrev pub IsKnown : Extent → Type 0
IsKnown Wholly = ⊤
IsKnown (Has test) = ⊤
IsKnown Unknown = ⊥

module _ (t : Table) where
  part_is : (test : ℤ → ℤ → Bool) (h : Holding) → IsPart test h t
      → own h ≡ held_where (λ p. test p.0 p.1) (all_of_table t)
  part_is test h part =
      let all : IsPart (λ i j. true) (all_of_table t) t =
      whole_shown (all_of_table t) t (listed_whole t part.size.full) in
      let mine : IsPart test (held_where (λ p. test p.0 p.1) (all_of_table t)) t =
      part_narrowed (λ i j. true) test (all_of_table t) t all in
      same_holding (own h) (held_where (λ p. test p.0 p.1)
      (all_of_table t)) part.size.rows part.size.cols
      (λ i j. part.cells i j ∙ sym (mine.cells i j)) refl

  -- what is held of a table to a known extent is the part that this has of it
  pub shown_is : (e : Extent) (h : Holding) → IsKnown e → IsShown e h t → own h ≡ part_of_table e t
  shown_is Wholly h known shown = part_is (λ i j. true) h shown
  shown_is (Has test) h known shown = part_is test h shown
  shown_is Unknown h known shown = absurd known

  -- and that part is held to this extent
  pub part_shown : (e : Extent) → length t.cells ≡ t.rows * t.cols → IsShown e (part_of_table e t) t
  part_shown e full = by_extent e (whole_shown (all_of_table t) t (listed_whole t full))
    where
      by_extent : (e : Extent) → IsPart (λ i j. true) (all_of_table t) t
          → IsShown e (part_of_table e t) t
      by_extent Wholly all = part_narrowed (λ i j. true) (λ i j. true) (all_of_table t) t all
      by_extent (Has test) all = part_narrowed (λ i j. true) test (all_of_table t) t all
      by_extent Unknown all = same_size (all_of_table t)
          (part_of_table Unknown t) t refl refl all.size

-- ---- together again

either_part : (a b c : Bool) (v : ℤ)
    → or_else (cond (a && b) (Some v) None) (cond (a && c) (Some v) None) ≡ cond (a && (b || c))
    (Some v) None
either_part false b c v = refl
either_part true true c v = refl
either_part true false c v = refl

part_together : (p q : ℤ → ℤ → Bool) (h k : Holding) (t : Table) → IsPart p h t → IsPart q k t
    → IsPart (λ i j. p i j || q i j) (together h k) t
part_together p q h k t one other = record {
  size = same_size h (together h k) t refl refl one.size;
  cells = λ i j.
      cell_at-together h k i j
      ∙ (ap (λ (o : Option ℤ). or_else o (cell_at k i j)) (one.cells i j)
      ∙ (ap (λ (o : Option ℤ). or_else (part_cell p t i j) o) (other.cells i j)
      ∙ either_part (has_cell t i j) (p i j) (q i j) (cell_of t i j)));
}

part_same : (p q : ℤ → ℤ → Bool) (h : Holding) (t : Table) → ((i j : ℤ) → p i j ≡ q i j)
    → IsPart p h t → IsPart q h t
part_same p q h t same part = record {
  size = part.size;
  cells =
      λ i j. part.cells i j ∙ ap (λ (b : Bool). cond (has_cell t i j && b)
      (Some (cell_of t i j)) None) (same i j);
}

any_of : (o p q s : Bool) → (p || q || s) ≡ true → ((o && p) || (o && q) || (o && s)) ≡ o
any_of false p q s is = refl
any_of true p q s is = is

-- a table is held again where each of its cells is in one of three parts
pub joined_shown : (p q s : ℤ → ℤ → Bool) → ((i j : ℤ) → (p i j || q i j || s i j) ≡ true)
    → (e : Extent) (h l r : Holding) (t : Table)
    → IsShown (narrowed p e) h t → IsShown (narrowed q e) l t → IsShown (narrowed s e) r t
    → IsShown e (together (together h l) r) t
joined_shown p q s all Wholly h l r t rest left right =
    part_same (λ i j. (p i j || q i j) || s i j) (λ i j. true) (together (together h l) r) t
    (λ i j. grouped (p i j) (q i j) (s i j) ∙ all i j)
    (part_together (λ i j. p i j || q i j) s (together h l) r t
    (part_together p q h l t rest left) right)
  where
    grouped : (a b c : Bool) → ((a || b) || c) ≡ (a || b || c)
    grouped true b c = refl
    grouped false b c = refl
joined_shown p q s all (Has test) h l r t rest left right =
    part_same (λ i j. ((test i j && p i j) || (test i j && q i j)) || (test i j && s i j)) test
    (together (together h l) r) t
    (λ i j. grouped (test i j && p i j) (test i j && q i j) (test i j && s i j)
    ∙ any_of (test i j) (p i j) (q i j) (s i j) (all i j))
    (part_together (λ i j. (test i j && p i j) || (test i j && q i j)) (λ i j. test i j && s i j)
    (together h l) r t
    (part_together (λ i j. test i j && p i j) (λ i j. test i j && q i j) h l t rest left) right)
  where
    grouped : (a b c : Bool) → ((a || b) || c) ≡ (a || b || c)
    grouped true b c = refl
    grouped false b c = refl
joined_shown p q s all Unknown h l r t rest left right =
    same_size h (together (together h l) r) t refl refl rest

-- what is held of a table is held of another one with the same cells there
pub part_other : (test : ℤ → ℤ → Bool) (h : Holding) (t u : Table) → u.rows ≡ t.rows
    → u.cols ≡ t.cols → length u.cells ≡ length t.cells
    → ((i j : ℤ) → has_cell t i j ≡ true → test i j ≡ true → cell_of u i j ≡ cell_of t i j)
    → IsPart test h t → IsPart test h u
part_other test h t u rows cols many same part = record {
  size = record {
    rows = part.size.rows ∙ sym rows;
    cols = part.size.cols ∙ sym cols;
    full =
        rw (rows, cols) (many ∙ part.size.full);
  };
  cells = λ i j. part.cells i j ∙ by_place i j (has_cell t i j) (test i j) refl refl;
}
  where
    alike : (i j : ℤ) → has_cell u i j ≡ has_cell t i j
    alike i j = rw (rows, cols) refl

    by_place : (i j : ℤ) (a b : Bool) → has_cell t i j ≡ a → test i j ≡ b
        → part_cell test t i j ≡ part_cell test u i j
    by_place i j true true is passes =
        rw (alike i j, is, passes) (ap Some (sym (same i j is passes)))
    by_place i j true false is passes = rw (alike i j, is, passes) refl
    by_place i j false b is passes = rw (alike i j, is) refl
