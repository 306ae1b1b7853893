-- What the parts of a cut have on their stacks, where more may stand above the activation of the
-- loop that is cut.
use Rattle.std.proofs.Common.{◌≡◌, ◌≢◌, ℕ, ◌+◌, ◌-◌, ◌<◌, ◌≤◌, Bool, true, false, cond, All, List}
use Rattle.std.proofs.Common.{[], ◌∷◌, ◌++◌, length, Some, None, drop, take, refl, ap, sym, subst}
use Rattle.std.proofs.Common.{◌∙◌, arith}
use Rattle.std.proofs.lemmas.List.{length-drop, length-set, length-take-le}
use Rattle.std.specs.Prelude.{ℤ, pos, nat_le, filter, slice_set}
use Rattle.std.specs.List.{AllByRecursion}
use Rattle.loop_meaning.specs.Frames.{with_accs}
use Rattle.loop_meaning.specs.InRange.{VariableInRange}
use Rattle.loop_meaning.specs.State.{lookup}
use Rattle.loop_meaning.specs.declared.value.Variable.{Variable}
use Rattle.loop_rules.specs.Names.{is_in, operator_of}
use Rattle.frame_machine.specs.Joins.{SameRound, units_for}
use Rattle.frame_machine.specs.Lawful.{Distinct}
use Rattle.stack_marks.specs.Stacks.{StackValue, rest_of, without_oldest, word_at, child_of}
use Rattle.stack_marks.specs.Stacks.{with_word}
use Rattle.stack_marks.specs.declared.mark.Mark.{Mark}
use Rattle.tp_value.specs.declared.Op.{Op}
use Rattle.tpal_syntax.specs.Listing.{Listing}
use Rattle.tpal_syntax.specs.declared.words.Word.{Word}
use Rattle.tpal_syntax.specs.declared.words.Word.TheVariants.{Int, Rec}
use Rattle.tpal_machine.specs.State.{State}
use Rattle.expr_lower.specs.Scopes.{offset_of}
use Rattle.handler_gen.specs.LoopCuts.{left_cells, child_cells, loop_mark, with_units}
use Rattle.handler_gen.specs.Sites.{IsLoopSite}
use Rattle.handler_gen.proofs.Cells.{Has, marks_units}
use Rattle.handler_gen.proofs.CutCells.{child_2, child_cursor, child_rec, child_word, has_child_2}
use Rattle.handler_gen.proofs.CutCells.{left_bound, left_rec, left_word, child_of_word}
use Rattle.handler_gen.proofs.Marks.{le_true}
use Rattle.handler_gen.proofs.Offsets.{bound_in, cells_of, cursor_in, rec_in}
use Rattle.join_gen.specs.LoopJoins.{with_numbers}
use Rattle.scene_laws.specs.Names.{level_of}
use Rattle.scene_laws.specs.Layout.{Activation, value_cell}
use Rattle.scene_laws.proofs.Scenes.Activations.{StandsFrom}
use Rattle.scene_laws.proofs.Scenes.Fixed.{AreFixed, fixed_same}
use Rattle.scene_laws.proofs.Merges.MergedStacks.{HasMerged, rest_has, rest_many, rest_word}
use Rattle.scene_laws.proofs.Cuts.OldestCuts.{IsOldestCut}
use Rattle.scene_laws.proofs.Cuts.OldestVariables.{fixed_lookup, units_set}
use Rattle.scene_laws.proofs.Cuts.OwnWork.{OwnCut, IsCutSite, has_iteration, own_halves}
use Rattle.scene_laws.proofs.Cuts.ReducedCells.{numbers_as_many, numbers_base, numbers_held}
use Rattle.scene_laws.proofs.Cuts.ReducedCells.{numbers_marks, numbers_other}
use Rattle.scene_laws.proofs.Scenes.Scene.{header}
use Rattle.scene_laws.proofs.Scenes.Seeing.{cell_of_level, seen_variable}
use Rattle.scene_laws.proofs.Cuts.Sides.{numbers_in}
use Rattle.scene_laws.proofs.Cuts.SiteCells.{accs_are, as_many, bound_accs, bound_is, bound_rec}
use Rattle.scene_laws.proofs.Cuts.SiteCells.{below_accs, cells_are, cursor_accs, cursor_bound}
use Rattle.scene_laws.proofs.Cuts.SiteCells.{cursor_is, cursor_rec, rec_accs, rec_is, reduced}
use Rattle.scene_laws.proofs.Cuts.SiteCells.{reduced_in, sees, variable_in, variable_no_cursor}
use Rattle.scene_laws.proofs.Cuts.SiteCells.{variable_no_rec, variable_no_bound}
use Rattle.scene_laws.proofs.Scenes.Levels.{at_level}
use Rattle.scene_laws.proofs.Scenes.Variables.{AreHeld, held_same}
use Rattle.reduce_ops.specs.Reduction.{unit}
use Rattle.stack_marks.specs.Causes.{Holds}
use Rattle.tpal_syntax.specs.declared.sites.LoopSite.{LoopSite}
use Rattle.handler_gen.proofs.Words.{word_other, words_as_many}

-- A stack begins with the activation of a loop. The loop has a record, these iterations are left,
-- the variables have these values, and these marks stand. All else in the activation is as on the
-- stack that was cut.
pub record HasLoop (c : OwnCut) (k : ℕ) (next end : ℤ) (vs : List Variable) (marks : List Mark)
    (s t : StackValue) : Type 0 where
  pub base : t.base ≡ c.z
  pub marked : t.marks ≡ marks
  pub rec : word_at t (pos (c.z + c.site.rec)) ≡ Some (Rec k)
  pub cursor : word_at t (pos (c.z + c.site.cursor)) ≡ Some (Int next)
  pub bound : word_at t (pos (c.z + c.site.bound)) ≡ Some (Int end)
  pub vars : AreHeld t c.z 0 vs
  pub others : (off : ℕ) → off < c.site.cells → off ≢ c.site.rec → off ≢ c.site.cursor
      → off ≢ c.site.bound → All (λ x. off ≢ x) (cells_of c.site.accs)
      → word_at t (pos (c.z + off)) ≡ word_at s (pos (c.z + off))

-- A stack begins with the activation of a loop, which has a record and another bound, and these
-- marks stand. All else from there on is as on the stack that was cut.
pub record HasLeft (c : OwnCut) (k : ℕ) (marks : List Mark) (s t : StackValue) : Type 0 where
  pub base : t.base ≡ c.z
  pub top : t.base + length t.cells ≡ s.base + length s.cells
  pub marked : t.marks ≡ marks
  pub rec : word_at t (pos (c.z + c.site.rec)) ≡ Some (Rec k)
  pub bound : word_at t (pos (c.z + c.site.bound)) ≡ Some (Int c.middle)
  pub others : (a : ℕ) → c.z ≤ a → a ≢ c.z + c.site.rec → a ≢ c.z + c.site.bound
      → word_at t (pos a) ≡ word_at s (pos a)

-- the mark of a left stays where an iteration is left, below the others
abbrev pub marks_behind : OwnCut → List Mark → List Mark
marks_behind c above = cond (has_iteration c) (loop_mark c.site c.z ∷ above) above

-- marks that stand from a place on are all of those from there on
all_from : (z : ℕ) (ms : List Mark) → AllByRecursion (StandsFrom z) ms
    → filter (λ m. nat_le z m.at) ms ≡ ms
all_from z [] from = refl
all_from z (m ∷ ms) from =
    rw (le_true z m.at from.0) (ap (λ (rest : List Mark). m ∷ rest) (all_from z ms from.1))

-- ---- stores

-- units leave the base of a stack and the number of its cells
units_base : (accs : List (ℕ × Op)) (s : StackValue) (z : ℕ) → (with_units accs z s).base ≡ s.base
units_base [] s z = refl
units_base (a ∷ accs) s z = units_base accs (with_word s (pos (z + a.0)) (Int (unit a.1))) z

units_many : (accs : List (ℕ × Op)) (s : StackValue) (z : ℕ)
    → length (with_units accs z s).cells ≡ length s.cells
units_many [] s z = refl
units_many (a ∷ accs) s z =
    units_many accs (with_word s (pos (z + a.0)) (Int (unit a.1))) z
    ∙ words_as_many s (z + a.0) (Int (unit a.1))

-- the child before its units are stored
begun_word : (site : LoopSite) (z k : ℕ) (place : ℤ) (s : StackValue) (held : Holds s z site.cells)
    (off : ℕ) → off < site.cells → off ≢ site.rec → off ≢ site.cursor
    → word_at (child_2 site z k place s held) (pos (z + off)) ≡ word_at s (pos (z + off))
begun_word site z k place s held off inside not_rec not_cursor =
    word_other (with_word (child_of s z site.cells) (pos (z + site.rec)) (Rec k))
    (z + site.cursor) (z + off) (Int place) (omega arith) (λ e. not_cursor (omega (arith, e)))
    ∙ (word_other (child_of s z site.cells) (z + site.rec) (z + off) (Rec k) (omega arith)
    (λ e. not_rec (omega (arith, e)))
    ∙ child_of_word s z site.cells off held inside)

module _ {code : Listing} {act : Activation} {names : List (List ℕ)} {depth cursor dispatch : ℕ}
    {c : OwnCut} (place : IsCutSite code act names depth cursor dispatch c) (k : ℕ) (state : State)
    {above : List Mark} (at : IsOldestCut dispatch c above state) (distinct : Distinct names) where
  abbrev own : Mark
  own = loop_mark c.site c.z

  abbrev s : StackValue
  s = state.stack

  right : IsLoopSite c.site
  right = place.is_site.right

  -- ---- the left

  abbrev left : StackValue
  left = left_cells c.site c.z c.middle k s

  left_marks : left.marks ≡ own ∷ above
  left_marks =
      ap (λ (marks : List Mark). filter (λ m. nat_le c.z m.at) marks) at.marked
      ∙ all_from c.z (own ∷ above) (omega arith, at.above)

  left_many : c.z + length left.cells ≡ s.base + length s.cells
  left_many =
      let many : length left.cells ≡ length dropped =
      length-set (slice_set dropped (c.z + c.site.rec - c.z) (Rec k))
      (c.z + c.site.bound - c.z) (Int c.middle)
      ∙ length-set dropped (c.z + c.site.rec - c.z) (Rec k) in
      omega (arith, many, length-drop (c.z - s.base) s.cells, at.held.0, at.held.1)
    where
      dropped : List Word
      dropped = drop (c.z - s.base) s.cells

  left_other : (a : ℕ) → c.z ≤ a → a ≢ c.z + c.site.rec → a ≢ c.z + c.site.bound
      → word_at left (pos a) ≡ word_at s (pos a)
  left_other a from not_rec not_bound =
      let is : c.z + (a - c.z) ≡ a = omega (arith, from) in
      subst (λ (n : ℕ). word_at left (pos n) ≡ word_at s (pos n)) is
      (left_word c.site c.z k c.middle s at.held (a - c.z)
      (λ e. not_rec (omega (arith, e, from))) (λ e. not_bound (omega (arith, e, from))))

  left_shows : (t : StackValue) (marks : List Mark) → t.base ≡ left.base → t.cells ≡ left.cells
      → t.marks ≡ marks → HasLeft c k marks s t
  left_shows t marks base cells marked =
      let same : (a : ℕ) → word_at t (pos a) ≡ word_at left (pos a) = λ a. rw (base, cells) refl in
      record {
        base = base;
        top = rw (base, cells) left_many;
        marked = marked;
        rec = same (c.z + c.site.rec)
            ∙ left_rec c.site c.z k c.middle s at.held (rec_in c.site right)
            (λ e. bound_rec c.site right (sym e));
        bound = same (c.z + c.site.bound)
            ∙ left_bound c.site c.z k c.middle s at.held (bound_in c.site right);
        others = λ a from not_rec not_bound. same a ∙ left_other a from not_rec not_bound;
      }

  pub left_has : HasLeft c k (marks_behind c above) s (own_halves c k state).left_stack
  left_has = by_iteration (has_iteration c)
    where
      by_iteration : (b : Bool) → HasLeft c k (cond b (own ∷ above) above) s
          (cond b left (without_oldest left))
      by_iteration true = left_shows left (own ∷ above) refl refl left_marks
      by_iteration false = left_shows (without_oldest left) above refl refl
          (ap (λ (marks : List Mark). drop 1 marks) left_marks)

  left_at : (off : ℕ) → off ≢ c.site.rec → off ≢ c.site.bound
      → word_at (own_halves c k state).left_stack (pos (c.z + off)) ≡ word_at s (pos (c.z + off))
  left_at off not_rec not_bound =
      left_has.others (c.z + off) (omega arith) (λ e. not_rec (omega (arith, e)))
      (λ e. not_bound (omega (arith, e)))

  pub left_cursor : word_at (own_halves c k state).left_stack (pos (c.z + c.site.cursor))
      ≡ Some (Int c.next)
  left_cursor = left_at c.site.cursor (cursor_rec c.site right) (cursor_bound c.site right)
      ∙ at.cursor

  -- variables that are held on the stack that is cut are held by the left
  pub left_vars : (us : List Variable) → AreHeld s c.z 0 us
      → AreHeld (own_halves c k state).left_stack c.z 0 us
  left_vars us held =
      held_same s (own_halves c k state).left_stack c.z 0 us
      (λ x low high. left_at (value_cell x) (variable_no_rec place x) (variable_no_bound place x))
      held

  -- the cells in front of those of `par` loops are as before
  pub left_header : (off : ℕ) → off < header
      → word_at (own_halves c k state).left_stack (pos (c.z + off)) ≡ word_at s (pos (c.z + off))
  left_header off below =
      left_at off (λ e. absurd (omega (arith, e, below, rec_is place)))
      (λ e. absurd (omega (arith, e, below, bound_is place)))

  -- ---- the child

  abbrev child : StackValue
  child = child_cells c.site c.z c.middle k s

  abbrev begun : StackValue
  begun = child_2 c.site c.z k c.middle s at.held

  has_begun : Has begun c.z c.site.cells
  has_begun = has_child_2 c.site c.z k c.middle s at.held

  child_other : (off : ℕ) → off < c.site.cells → off ≢ c.site.rec → off ≢ c.site.cursor
      → All (λ x. off ≢ x) (cells_of c.site.accs)
      → word_at child (pos (c.z + off)) ≡ word_at s (pos (c.z + off))
  child_other off inside not_rec not_cursor apart =
      child_word c.site c.z k c.middle s at.held off inside not_rec not_cursor apart

  -- behind the store of the cursor the variables that aren't reduced are as before
  begun_fixed : AreFixed c.loop.reduces.items begun c.z 0 c.vars
  begun_fixed = fixed_same c.loop.reduces.items s begun c.z 0 c.vars
      (λ x low others.
      let below : x < length names = omega (arith, low, as_many place) in
      begun_word c.site c.z k c.middle s at.held (value_cell x) (variable_in place x below)
      (variable_no_rec place x) (variable_no_cursor place x below)) at.fixed

  abbrev units : List Variable
  units = with_accs c.loop.reduces.items (units_for c.loop.reduces.items) c.vars

  child_vars : AreHeld child c.z 0 units
  child_vars = held_same (with_units c.site.accs c.z begun) child c.z 0 units
      (λ x low high. refl)
      (subst (λ (accs : List (ℕ × Op)). AreHeld (with_units accs c.z begun) c.z 0 units)
      (sym (accs_are place))
      (units_set c.scope names act.tables (sees place) c.z c.site.cells c.loop.reduces.items
      c.vars begun place.named (reduced place) has_begun (reduced_in place) distinct at.ranged
      (λ x in_x free. fixed_lookup c.loop.reduces.items begun c.z c.scope.cells.items 0 c.vars x
      (sees place).laid ((sees place).named ∙ sym place.named)
      (seen_variable c.scope names act.tables (sees place) x in_x) free begun_fixed)))

  pub child_has : HasLoop c k c.middle c.end units (own ∷ []) s (own_halves c k state).child_stack
  child_has = record {
    base = units_base c.site.accs begun c.z;
    marked = ap (λ (marks : List Mark). marks ++ own ∷ []) (marks_units c.site.accs begun c.z);
    rec = child_rec c.site c.z k c.middle s at.held (rec_in c.site right)
        (λ e. cursor_rec c.site right (sym e)) (rec_accs c.site right);
    cursor = child_cursor c.site c.z k c.middle s at.held (cursor_in c.site right)
        (cursor_accs c.site right);
    bound = child_other c.site.bound (bound_in c.site right) (bound_rec c.site right)
        (λ e. cursor_bound c.site right (sym e)) (bound_accs c.site right) ∙ at.bound;
    vars = child_vars;
    others = λ off inside not_rec not_cursor not_bound apart.
        child_other off inside not_rec not_cursor apart;
  }

  pub child_top : (own_halves c k state).child_stack.base
      + length (own_halves c k state).child_stack.cells ≡ c.z + c.site.cells
  child_top = top
    where
      cells : List Word
      cells = take c.site.cells (drop (c.z - s.base) s.cells)

      begun_many : length begun.cells ≡ c.site.cells
      begun_many =
          length-set (slice_set cells (c.z + c.site.rec - c.z) (Rec k))
          (c.z + c.site.cursor - c.z) (Int c.middle)
          ∙ (length-set cells (c.z + c.site.rec - c.z) (Rec k)
          ∙ length-take-le c.site.cells (drop (c.z - s.base) s.cells)
          (omega (arith, length-drop (c.z - s.base) s.cells, at.held.0, at.held.1)))

      top : (with_units c.site.accs c.z begun).base
          + length (with_units c.site.accs c.z begun).cells ≡ c.z + c.site.cells
      top =
          let base_is : (with_units c.site.accs c.z begun).base ≡ c.z =
          units_base c.site.accs begun c.z in
          let many : length (with_units c.site.accs c.z begun).cells ≡ c.site.cells =
          units_many c.site.accs begun c.z ∙ begun_many in
          omega (arith, base_is, many)

  -- the cells in front of those of `par` loops are as before
  pub child_header : (off : ℕ) → off < header
      → word_at (own_halves c k state).child_stack (pos (c.z + off)) ≡ word_at s (pos (c.z + off))
  child_header off below =
      child_has.others off (omega (arith, below, cells_are place, place.room))
      (λ e. absurd (omega (arith, e, below, rec_is place)))
      (λ e. absurd (omega (arith, e, below, cursor_is place, place.cursor_high)))
      (λ e. absurd (omega (arith, e, below, bound_is place)))
      (below_accs place off (omega (arith, below)))

  -- ---- the rest, where both sides are merged

  abbrev rest : StackValue
  rest = rest_of s c.z c.site.cells

  -- the cell of a variable is in the activation
  offset_inside : (x : List ℕ) → is_in names x ≡ true → offset_of c.scope x < c.site.cells
  offset_inside x in_x =
      let level : level_of names x < length names = (at_level names x in_x).0 in
      let inside : value_cell (level_of names x) < c.site.cells =
      variable_in place (level_of names x) level in
      omega (arith, inside, cell_of_level c.scope names act.tables (sees place) x in_x)

  module _ (us : List Variable) (same : SameRound c.loop.reduces.items c.vars us) where
    unset : (x : List ℕ) → is_in names x ≡ true → operator_of c.loop.reduces.items x ≡ None
        → word_at rest (pos (c.z + offset_of c.scope x)) ≡ Some (Int (lookup us x))
    unset x in_x free =
        rest_word s c.z c.site.cells at.held (c.z + offset_of c.scope x)
        (omega (arith, offset_inside x in_x))
        ∙ (fixed_lookup c.loop.reduces.items s c.z c.scope.cells.items 0 c.vars x (sees place).laid
        ((sees place).named ∙ sym place.named)
        (seen_variable c.scope names act.tables (sees place) x in_x) free at.fixed
        ∙ ap (λ (n : ℤ). Some (Int n)) (sym (same.values x free)))

    abbrev numbers : List ℤ
    numbers = numbers_in c.loop.reduces.items us

    abbrev merged : StackValue
    merged = with_numbers c.site.accs c.z numbers rest

    other : (a : ℕ) → a < c.z + c.site.cells → All (λ x. a ≢ c.z + x) (cells_of c.site.accs)
        → word_at merged (pos a) ≡ word_at s (pos a)
    other a below apart =
        numbers_other c.site.accs c.z numbers rest a at.held.0 apart
        ∙ rest_word s c.z c.site.cells at.held a below

    -- a cell of the activation that is apart from the accumulators
    apart_at : (off : ℕ) → All (λ x. off ≢ x) (cells_of c.site.accs)
        → All (λ x. c.z + off ≢ c.z + x) (cells_of c.site.accs)
    apart_at off apart = λ i d below e. apart i d below (omega (arith, e))

    pub merged_has : All VariableInRange us → HasMerged c us s merged
    merged_has ranged = record {
      base = numbers_base c.site.accs c.z numbers rest;
      top = omega (
        arith,
        numbers_base c.site.accs c.z numbers rest,
        numbers_as_many c.site.accs c.z numbers rest,
        rest_many s c.z c.site.cells at.held,
        at.held.0,
      );
      marked = numbers_marks c.site.accs c.z numbers rest;
      vars = subst (λ (accs : List (ℕ × Op)). AreHeld (with_numbers accs c.z numbers rest) c.z 0 us)
          (sym (accs_are place))
          (numbers_held c.scope names act.tables (sees place) us c.z c.site.cells
          c.loop.reduces.items rest (reduced place)
          (rest_has s c.z c.site.cells at.held) (reduced_in place)
          (same.names ∙ place.named) distinct ranged unset);
      rec = other (c.z + c.site.rec) (omega (arith, rec_in c.site right))
          (apart_at c.site.rec (rec_accs c.site right));
      cursor = other (c.z + c.site.cursor) (omega (arith, cursor_in c.site right))
          (apart_at c.site.cursor (cursor_accs c.site right)) ∙ at.cursor;
      bound = other (c.z + c.site.bound) (omega (arith, bound_in c.site right))
          (apart_at c.site.bound (bound_accs c.site right)) ∙ at.bound;
      others = other;
    }
