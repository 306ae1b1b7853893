-- The words in the cells of the parts of a cut.
use Rattle.std.proofs.Common.{◌≡◌, ◌≢◌, ℕ, zero, suc, ◌+◌, ◌-◌, ◌<◌, ◌≤◌, All, List, [], ◌∷◌, take}
use Rattle.std.proofs.Common.{drop, Some, refl, ap, sym, ◌∙◌, arith}
use Rattle.std.proofs.lemmas.List.Elements.{All-head, All-tail}
use Rattle.std.specs.Prelude.{ℤ, pos, slice_get}
use Rattle.reduce_ops.specs.Reduction.{unit}
use Rattle.stack_marks.specs.Causes.{Holds}
use Rattle.stack_marks.specs.Stacks.{StackValue, word_at, with_word, from_position, left_of}
use Rattle.stack_marks.specs.Stacks.{child_of}
use Rattle.tp_value.specs.declared.Op.{Op}
use Rattle.tpal_syntax.specs.declared.notes.CutKind.TheVariants.{Loop, Call}
use Rattle.tpal_syntax.specs.declared.sites.CallSite.{CallSite}
use Rattle.tpal_syntax.specs.declared.sites.LoopSite.{LoopSite}
use Rattle.tpal_syntax.specs.declared.words.Word.TheVariants.{Int, Label, Rec}
use Rattle.handler_gen.specs.CallCuts.{left_call_cells, child_call_cells}
use Rattle.handler_gen.specs.LoopCuts.{left_cells, child_cells, with_units}
use Rattle.handler_gen.specs.Sites.{left_end_label}
use Rattle.handler_gen.proofs.Cells.{Has, has_set, has_left, has_above, has_child}
use Rattle.handler_gen.proofs.Marks.{le_true}
use Rattle.handler_gen.proofs.Offsets.{cells_of}
use Rattle.handler_gen.proofs.Words.{word_same, word_other}

-- ---- lists

at_drop : {A : Type 0} (xs : List A) (n m : ℕ) → slice_get (drop n xs) m ≡ slice_get xs (n + m)
at_drop [] zero m = refl
at_drop [] (suc n) m = refl
at_drop (x ∷ xs) zero m = ap (slice_get (x ∷ xs)) (omega arith)
at_drop (x ∷ xs) (suc n) m = let e : suc n + m ≡ suc (n + m) = omega arith in at_drop xs n m ∙ ap (slice_get (x ∷ xs)) (sym e)

at_take : {A : Type 0} (xs : List A) (n m : ℕ) → m < n → slice_get (take n xs) m ≡ slice_get xs m
at_take xs zero m below = absurd (omega (arith, below))
at_take [] (suc n) m below = refl
at_take (x ∷ xs) (suc n) zero below = refl
at_take (x ∷ xs) (suc n) (suc m) below = at_take xs n m (omega (arith, below))

-- ---- parts of a stack

pub from_word : (s : StackValue) (low a : ℕ) → s.base ≤ low → low ≤ a → word_at (from_position s low) (pos a) ≡ word_at s (pos a)
from_word s low a under above =
    let same : low - s.base + (a - low) ≡ a - s.base = omega (arith, under, above) in
    rw (le_true low a above) (rw (le_true s.base a (omega (arith, under, above))) (at_drop s.cells (low - s.base) (a - low) ∙ ap (slice_get s.cells) same))

pub child_of_word : (s : StackValue) (z cells off : ℕ) → Holds s z cells → off < cells → word_at (child_of s z cells) (pos (z + off)) ≡ word_at s (pos (z + off))
child_of_word s z cells off held inside =
    let same : z - s.base + (z + off - z) ≡ z + off - s.base = omega (arith, held.0) in
    rw (le_true z (z + off) (omega arith)) (rw (le_true s.base (z + off) (omega (arith, held.0)))
    (at_take (drop (z - s.base) s.cells) cells (z + off - z) (omega (arith, inside)) ∙ (at_drop s.cells (z - s.base) (z + off - z) ∙ ap (slice_get s.cells) same)))

-- ---- units

pub units_other : (accs : List (ℕ × Op)) (s : StackValue) (z off : ℕ) → s.base ≤ z → All (λ c. off ≢ c) (cells_of accs) → word_at (with_units accs z s) (pos (z + off)) ≡ word_at s (pos (z + off))
units_other [] s z off low apart = refl
units_other (a ∷ accs) s z off low apart =
    let ne : z + off ≢ z + a.0 = λ e. All-head (λ (c : ℕ). off ≢ c) a.0 (cells_of accs) apart (omega (arith, e)) in
    units_other accs (with_word s (pos (z + a.0)) (Int (unit a.1))) z off low (All-tail (λ (c : ℕ). off ≢ c) a.0 (cells_of accs) apart) ∙ word_other s (z + a.0) (z + off) (Int (unit a.1)) (omega (arith, low)) ne

-- ---- the halves of a loop

module _ (site : LoopSite) (z k : ℕ) (place : ℤ) (s : StackValue) (held : Holds s z site.cells) where
  has_0 : Has (left_of s z site.cells Loop) z site.cells
  has_0 = has_left s z site.cells held

  abbrev left_1 : StackValue
  left_1 = with_word (left_of s z site.cells Loop) (pos (z + site.rec)) (Rec k)

  has_1 : Has left_1 z site.cells
  has_1 = has_set (left_of s z site.cells Loop) z site.cells (z + site.rec) (Rec k) has_0

  -- the left has its record and its end, and all else from its base on
  pub left_word : (off : ℕ) → off ≢ site.rec → off ≢ site.bound → word_at (left_cells site z place k s) (pos (z + off)) ≡ word_at s (pos (z + off))
  left_word off not_rec not_bound =
      word_other left_1 (z + site.bound) (z + off) (Int place) (omega (arith, has_1.low)) (λ e. not_bound (omega (arith, e)))
      ∙ (word_other (left_of s z site.cells Loop) (z + site.rec) (z + off) (Rec k) (omega (arith, has_0.low)) (λ e. not_rec (omega (arith, e)))
      ∙ from_word s z (z + off) held.0 (omega arith))

  pub left_rec : site.rec < site.cells → site.rec ≢ site.bound → word_at (left_cells site z place k s) (pos (z + site.rec)) ≡ Some (Rec k)
  left_rec inside apart =
      word_other left_1 (z + site.bound) (z + site.rec) (Int place) (omega (arith, has_1.low)) (λ e. apart (omega (arith, e)))
      ∙ word_same (left_of s z site.cells Loop) (z + site.rec) (Rec k) (omega (arith, has_0.low)) (omega (arith, has_0.high, inside))

  pub left_bound : site.bound < site.cells → word_at (left_cells site z place k s) (pos (z + site.bound)) ≡ Some (Int place)
  left_bound inside = word_same left_1 (z + site.bound) (Int place) (omega (arith, has_1.low)) (omega (arith, has_1.high, inside))

  child_0 : Has (child_of s z site.cells) z site.cells
  child_0 = has_child s z site.cells held

  abbrev child_1 : StackValue
  child_1 = with_word (child_of s z site.cells) (pos (z + site.rec)) (Rec k)

  has_child_1 : Has child_1 z site.cells
  has_child_1 = has_set (child_of s z site.cells) z site.cells (z + site.rec) (Rec k) child_0

  abbrev pub child_2 : StackValue
  child_2 = with_word child_1 (pos (z + site.cursor)) (Int place)

  pub has_child_2 : Has child_2 z site.cells
  has_child_2 = has_set child_1 z site.cells (z + site.cursor) (Int place) has_child_1

  -- the child has its record, its first iteration and its units, and all else of the activation
  pub child_word : (off : ℕ) → off < site.cells → off ≢ site.rec → off ≢ site.cursor → All (λ c. off ≢ c) (cells_of site.accs) → word_at (child_cells site z place k s) (pos (z + off)) ≡ word_at s (pos (z + off))
  child_word off inside not_rec not_cursor not_accs =
      units_other site.accs child_2 z off has_child_2.low not_accs
      ∙ (word_other child_1 (z + site.cursor) (z + off) (Int place) (omega (arith, has_child_1.low)) (λ e. not_cursor (omega (arith, e)))
      ∙ (word_other (child_of s z site.cells) (z + site.rec) (z + off) (Rec k) (omega (arith, child_0.low)) (λ e. not_rec (omega (arith, e)))
      ∙ child_of_word s z site.cells off held inside))

  pub child_rec : site.rec < site.cells → site.rec ≢ site.cursor → All (λ c. site.rec ≢ c) (cells_of site.accs) → word_at (child_cells site z place k s) (pos (z + site.rec)) ≡ Some (Rec k)
  child_rec inside not_cursor not_accs =
      units_other site.accs child_2 z site.rec has_child_2.low not_accs
      ∙ (word_other child_1 (z + site.cursor) (z + site.rec) (Int place) (omega (arith, has_child_1.low)) (λ e. not_cursor (omega (arith, e)))
      ∙ word_same (child_of s z site.cells) (z + site.rec) (Rec k) (omega (arith, child_0.low)) (omega (arith, child_0.high, inside)))

  pub child_cursor : site.cursor < site.cells → All (λ c. site.cursor ≢ c) (cells_of site.accs) → word_at (child_cells site z place k s) (pos (z + site.cursor)) ≡ Some (Int place)
  child_cursor inside not_accs =
      units_other site.accs child_2 z site.cursor has_child_2.low not_accs
      ∙ word_same child_1 (z + site.cursor) (Int place) (omega (arith, has_child_1.low)) (omega (arith, has_child_1.high, inside))

-- ---- the halves of a pair of calls

module _ (site : CallSite) (z k : ℕ) (s : StackValue) (held : Holds s z (site.cells + 2)) where
  above_0 : Has (left_of s z site.cells Call) (z + site.cells) 2
  above_0 = has_above s z site.cells 2 held

  abbrev above_1 : StackValue
  above_1 = with_word (left_of s z site.cells Call) (pos (z + site.cells)) (Label (left_end_label site.label))

  has_above_1 : Has above_1 (z + site.cells) 2
  has_above_1 = has_set (left_of s z site.cells Call) (z + site.cells) 2 (z + site.cells) (Label (left_end_label site.label)) above_0

  -- the left returns to its end, has its record, and all else above the activation that is cut
  pub left_call_word : (a : ℕ) → z + site.cells + 2 ≤ a → word_at (left_call_cells site z k s) (pos a) ≡ word_at s (pos a)
  left_call_word a from =
      word_other above_1 (z + site.cells + 1) a (Rec k) (omega (arith, has_above_1.low)) (λ e. absurd (omega (arith, e, from)))
      ∙ (word_other (left_of s z site.cells Call) (z + site.cells) a (Label (left_end_label site.label)) (omega (arith, above_0.low)) (λ e. absurd (omega (arith, e, from)))
      ∙ from_word s (z + site.cells) a (omega (arith, held.0)) (omega (arith, from)))

  pub left_call_label : word_at (left_call_cells site z k s) (pos (z + site.cells)) ≡ Some (Label (left_end_label site.label))
  left_call_label =
      word_other above_1 (z + site.cells + 1) (z + site.cells) (Rec k) (omega (arith, has_above_1.low)) (λ e. absurd (omega (arith, e)))
      ∙ word_same (left_of s z site.cells Call) (z + site.cells) (Label (left_end_label site.label)) (omega (arith, above_0.low)) (omega (arith, above_0.high))

  pub left_call_rec : word_at (left_call_cells site z k s) (pos (z + site.cells + 1)) ≡ Some (Rec k)
  left_call_rec = word_same above_1 (z + site.cells + 1) (Rec k) (omega (arith, has_above_1.low)) (omega (arith, has_above_1.high))

  own : Holds s z site.cells
  own = (held.0, omega (arith, held.1))

  -- the child has its record, and all else of the activation
  pub child_call_word : (off : ℕ) → off < site.cells → off ≢ site.rec → word_at (child_call_cells site z k s) (pos (z + off)) ≡ word_at s (pos (z + off))
  child_call_word off inside not_rec =
      word_other (child_of s z site.cells) (z + site.rec) (z + off) (Rec k) (omega arith) (λ e. not_rec (omega (arith, e)))
      ∙ child_of_word s z site.cells off own inside

  pub child_call_rec : site.rec < site.cells → word_at (child_call_cells site z k s) (pos (z + site.rec)) ≡ Some (Rec k)
  child_call_rec inside = word_same (child_of s z site.cells) (z + site.rec) (Rec k) (omega arith) (omega (arith, (has_child s z site.cells own).high, inside))
