-- A loop is cut as its frame is.
use Rattle.std.proofs.Common.{◌≡◌, ◌≢◌, ℕ, suc, ◌+◌, ◌<◌, Bool, true, false, cond, All, List, []}
use Rattle.std.proofs.Common.{◌∷◌, Option, None, Some, refl, ap, sym, subst, ◌∙◌, arith}
use Rattle.std.proofs.lemmas.List.Elements.{All-head, All-tail}
use Rattle.std.specs.Prelude.{ℤ, pos, int_lt, AllPairs}
use Rattle.frame_machine.specs.Splitting.{cut_of, parts_of, ranges_at}
use Rattle.frame_machine.specs.Splitting as splitting
use Rattle.loop_meaning.specs.declared.frame.Frame.{Frame}
use Rattle.loop_meaning.specs.declared.frame.Frame.TheVariants.{Range, Pair}
use Rattle.reduce_ops.specs.Reduction.{unit}
use Rattle.stack_marks.specs.Stacks.{StackValue, word_at, with_word, without_oldest}
use Rattle.tp_value.specs.declared.Op.{Op}
use Rattle.tpal_syntax.specs.declared.sites.CallSite.{CallSite}
use Rattle.tpal_syntax.specs.declared.sites.LoopSite.{LoopSite}
use Rattle.tpal_syntax.specs.declared.words.Word.TheVariants.{Int}
use Rattle.tpal_machine.specs.State.{State}
use Rattle.handler_gen.specs.CallCuts.{IsAtCalls, child_call_cells}
use Rattle.handler_gen.specs.Frames.{HoldAccs, HoldNumbers, Shows, ShowsCall, CutsFrame, CutsPair}
use Rattle.handler_gen.specs.LoopCuts.{IsAtLoop, left_cells, child_cells, with_units}
use Rattle.handler_gen.specs.Sites.{IsCallSite, call_cells, IsLoopSite}
use Rattle.handler_gen.proofs.Cells.{Has, has_set}
use Rattle.handler_gen.proofs.CutCells.{left_word, left_bound, child_word, child_cursor}
use Rattle.handler_gen.proofs.CutCells.{child_call_word, units_other, has_child_2, child_2}
use Rattle.handler_gen.proofs.Offsets.{cells_of, bound_in, cursor_in, accs_in}
use Rattle.handler_gen.proofs.Words.{word_same}

-- ---- numbers that differ

abbrev pub Differ : List ℕ → Type 0
Differ xs = AllPairs (λ a b. a ≢ b) xs

pub first_apart : (x : ℕ) (xs : List ℕ) → Differ (x ∷ xs) → All (λ c. x ≢ c) xs
first_apart x xs differ = λ i d below. differ 0 (suc i) d (omega arith) (omega (arith, below))

pub rest_differ : (x : ℕ) (xs : List ℕ) → Differ (x ∷ xs) → Differ xs
rest_differ x xs differ = λ i j d less below. differ (suc i) (suc j) d (omega (arith, less)) (omega (arith, below))

-- ---- accumulators

-- cells that are the same hold the same accumulators
accs_same : (cells : List (ℕ × Op)) (accs : List (Op × ℤ)) (s t : StackValue) (z : ℕ) → All (λ c. word_at t (pos (z + c)) ≡ word_at s (pos (z + c))) (cells_of cells) → HoldAccs s z cells accs → HoldAccs t z cells accs
accs_same [] [] s t z same hold = tt
accs_same [] (acc ∷ accs) s t z same hold = absurd hold
accs_same (cell ∷ cells) [] s t z same hold = absurd hold
accs_same (cell ∷ cells) (acc ∷ accs) s t z same hold = (
  hold.0,
  All-head (λ (c : ℕ). word_at t (pos (z + c)) ≡ word_at s (pos (z + c))) cell.0 (cells_of cells) same ∙ hold.1,
  accs_same cells accs s t z (All-tail (λ (c : ℕ). word_at t (pos (z + c)) ≡ word_at s (pos (z + c))) cell.0 (cells_of cells) same) hold.2,
)

-- units where accumulators were
units_hold : (cells : List (ℕ × Op)) (accs : List (Op × ℤ)) (before s : StackValue) (z n : ℕ) → Has s z n → All (λ c. c < n) (cells_of cells) → Differ (cells_of cells) → HoldAccs before z cells accs → HoldAccs (with_units cells z s) z cells (splitting.with_units accs)
units_hold [] [] before s z n has inside differ hold = tt
units_hold [] (acc ∷ accs) before s z n has inside differ hold = absurd hold
units_hold (cell ∷ cells) [] before s z n has inside differ hold = absurd hold
units_hold (cell ∷ cells) (acc ∷ accs) before s z n has inside differ hold =
    let after : StackValue = with_word s (pos (z + cell.0)) (Int (unit cell.1)) in
    let own : cell.0 < n = All-head (λ (c : ℕ). c < n) cell.0 (cells_of cells) inside in (
      hold.0,
      units_other cells after z cell.0 has.low (first_apart cell.0 (cells_of cells) differ)
          ∙ (word_same s (z + cell.0) (Int (unit cell.1)) (omega (arith, has.low)) (omega (arith, has.high, own)) ∙ ap (λ o. Some (Int (unit o))) hold.0),
      units_hold cells accs before after z n (has_set s z n (z + cell.0) (Int (unit cell.1)) has) (All-tail (λ (c : ℕ). c < n) cell.0 (cells_of cells) inside) (rest_differ cell.0 (cells_of cells) differ) hold.2,
    )

-- ---- the parts of a frame

lower_of : Option (Frame × Frame) → Frame → Frame
lower_of None d = d
lower_of (Some p) d = p.0

upper_of : Option (Frame × Frame) → Frame → Frame
upper_of None d = d
upper_of (Some p) d = p.1

lower_is : (next middle end : ℤ) (accs : List (Op × ℤ)) (lower upper : Frame) → cut_of next end ≡ Some middle → parts_of (Range next end accs) ≡ Some (lower, upper) → lower ≡ Range next middle accs
unfolding lower_of
lower_is next middle end accs lower upper cut is = ap (λ o. lower_of o lower) (sym is ∙ ap (ranges_at next end accs) cut)

upper_is : (next middle end : ℤ) (accs : List (Op × ℤ)) (lower upper : Frame) → cut_of next end ≡ Some middle → parts_of (Range next end accs) ≡ Some (lower, upper) → upper ≡ Range middle end (splitting.with_units accs)
unfolding upper_of
upper_is next middle end accs lower upper cut is = ap (λ o. upper_of o upper) (sym is ∙ ap (ranges_at next end accs) cut)

-- ---- the cut

module _ (site : LoopSite) (right : IsLoopSite site) (z : ℕ) (next middle end : ℤ) (accs : List (Op × ℤ)) (state : State) (k : ℕ) (at : IsAtLoop site z next middle end state) (shows : Shows site z (Range next end accs) state.stack) where
  cursor_apart : All (λ c. site.cursor ≢ c) (site.bound ∷ site.rec ∷ cells_of site.accs)
  cursor_apart = first_apart site.cursor (site.bound ∷ site.rec ∷ cells_of site.accs) right.offsets_differ

  behind_cursor : Differ (site.bound ∷ site.rec ∷ cells_of site.accs)
  behind_cursor = rest_differ site.cursor (site.bound ∷ site.rec ∷ cells_of site.accs) right.offsets_differ

  bound_apart : All (λ c. site.bound ≢ c) (site.rec ∷ cells_of site.accs)
  bound_apart = first_apart site.bound (site.rec ∷ cells_of site.accs) behind_cursor

  behind_bound : Differ (site.rec ∷ cells_of site.accs)
  behind_bound = rest_differ site.bound (site.rec ∷ cells_of site.accs) behind_cursor

  rec_apart : All (λ c. site.rec ≢ c) (cells_of site.accs)
  rec_apart = first_apart site.rec (cells_of site.accs) behind_bound

  cursor_bound : site.cursor ≢ site.bound
  cursor_bound = All-head (λ (c : ℕ). site.cursor ≢ c) site.bound (site.rec ∷ cells_of site.accs) cursor_apart

  cursor_behind : All (λ c. site.cursor ≢ c) (site.rec ∷ cells_of site.accs)
  cursor_behind = All-tail (λ (c : ℕ). site.cursor ≢ c) site.bound (site.rec ∷ cells_of site.accs) cursor_apart

  cursor_rec : site.cursor ≢ site.rec
  cursor_rec = All-head (λ (c : ℕ). site.cursor ≢ c) site.rec (cells_of site.accs) cursor_behind

  cursor_accs : All (λ c. site.cursor ≢ c) (cells_of site.accs)
  cursor_accs = All-tail (λ (c : ℕ). site.cursor ≢ c) site.rec (cells_of site.accs) cursor_behind

  bound_rec : site.bound ≢ site.rec
  bound_rec = All-head (λ (c : ℕ). site.bound ≢ c) site.rec (cells_of site.accs) bound_apart

  bound_accs : All (λ c. site.bound ≢ c) (cells_of site.accs)
  bound_accs = All-tail (λ (c : ℕ). site.bound ≢ c) site.rec (cells_of site.accs) bound_apart

  -- ---- the left

  accs_left : All (λ c. word_at (left_cells site z middle k state.stack) (pos (z + c)) ≡ word_at state.stack (pos (z + c))) (cells_of site.accs)
  accs_left = λ i d below. left_word site z k middle state.stack at.held _ (λ e. rec_apart i d below (sym e)) (λ e. bound_apart_at i d below (sym e))
    where
      bound_apart_at : All (λ c. site.bound ≢ c) (cells_of site.accs)
      bound_apart_at = bound_accs

  lower_shown : Shows site z (Range next middle accs) (left_cells site z middle k state.stack)
  lower_shown = (
    left_word site z k middle state.stack at.held site.cursor cursor_rec cursor_bound ∙ shows.0,
    left_bound site z k middle state.stack at.held (bound_in site right),
    accs_same site.accs accs state.stack (left_cells site z middle k state.stack) z accs_left shows.2,
  )

  left_shown : (b : Bool) → Shows site z (Range next middle accs) (cond b (left_cells site z middle k state.stack) (without_oldest (left_cells site z middle k state.stack)))
  left_shown true = lower_shown
  left_shown false = (lower_shown.0, lower_shown.1, accs_same site.accs accs (left_cells site z middle k state.stack) (without_oldest (left_cells site z middle k state.stack)) z (λ i d below. refl) lower_shown.2)

  -- ---- the child

  upper_shown : Shows site z (Range middle end (splitting.with_units accs)) (child_cells site z middle k state.stack)
  upper_shown = (
    child_cursor site z k middle state.stack at.held (cursor_in site right) cursor_accs,
    child_word site z k middle state.stack at.held site.bound (bound_in site right) bound_rec (λ e. cursor_bound (sym e)) bound_accs ∙ shows.1,
    accs_same site.accs (splitting.with_units accs) (with_units site.accs z (child_2 site z k middle state.stack at.held)) (child_cells site z middle k state.stack) z (λ i d below. refl)
        (units_hold site.accs accs state.stack (child_2 site z k middle state.stack at.held) z site.cells (has_child_2 site z k middle state.stack at.held) (accs_in site right) (rest_differ site.rec (cells_of site.accs) behind_bound) shows.2),
  )

module _ (site : LoopSite) (right : IsLoopSite site) where
  pub cuts_frame : CutsFrame site
  cuts_frame = record {
    left = λ z next middle end accs lower upper state k at shows is.
        subst (λ (f : Frame). Shows site z f (cond (int_lt next middle) (left_cells site z middle k state.stack) (without_oldest (left_cells site z middle k state.stack)))) (sym (lower_is next middle end accs lower upper at.cut is))
        (left_shown site right z next middle end accs state k at shows (int_lt next middle));
    child = λ z next middle end accs lower upper state k at shows is.
        subst (λ (f : Frame). Shows site z f (child_cells site z middle k state.stack)) (sym (upper_is next middle end accs lower upper at.cut is))
        (upper_shown site right z next middle end accs state k at shows);
  }

-- ---- pairs of calls

-- cells that are the same hold the same numbers
numbers_same : (cells : List ℕ) (numbers : List ℤ) (s t : StackValue) (z : ℕ) → All (λ c. word_at t (pos (z + c)) ≡ word_at s (pos (z + c))) cells → HoldNumbers s z cells numbers → HoldNumbers t z cells numbers
numbers_same [] [] s t z same hold = tt
numbers_same [] (n ∷ numbers) s t z same hold = absurd hold
numbers_same (c ∷ cells) [] s t z same hold = absurd hold
numbers_same (c ∷ cells) (n ∷ numbers) s t z same hold = (
  All-head (λ (d : ℕ). word_at t (pos (z + d)) ≡ word_at s (pos (z + d))) c cells same ∙ hold.0,
  numbers_same cells numbers s t z (All-tail (λ (d : ℕ). word_at t (pos (z + d)) ≡ word_at s (pos (z + d))) c cells same) hold.1,
)

taken_is : (second : List ℕ) (args : List ℤ) (rest upper : Frame) → parts_of (Pair second args false) ≡ Some (rest, upper) → Pair second args true ≡ upper
unfolding upper_of
taken_is second args rest upper is = ap (λ o. upper_of o upper) is

module _ (site : CallSite) (right : IsCallSite site) where
  abbrev Inside : ℕ → Type 0
  Inside off = off < site.cells

  args_in : All Inside site.args
  args_in = All-tail Inside site.rec site.args (All-tail Inside site.mark (call_cells site) right.offsets)

  rec_apart_args : All (λ c. site.rec ≢ c) site.args
  rec_apart_args = first_apart site.rec site.args right.offsets_differ

  child_shown : (z : ℕ) (args : List ℤ) (state : State) (k : ℕ) → IsAtCalls site z state → HoldNumbers state.stack z site.args args → HoldNumbers (child_call_cells site z k state.stack) z site.args args
  child_shown z args state k at hold =
      numbers_same site.args args state.stack (child_call_cells site z k state.stack) z (λ i d below. child_call_word site z k state.stack at.held _ (args_in i d below) (λ e. rec_apart_args i d below (sym e))) hold

  pub cuts_pair : CutsPair site
  cuts_pair = record {
    child = λ z second args rest upper state k at shows is.
        subst (λ (f : Frame). ShowsCall site z f (child_call_cells site z k state.stack)) (taken_is second args rest upper is) (child_shown z args state k at shows);
    left = λ z state k at. refl;
  }
