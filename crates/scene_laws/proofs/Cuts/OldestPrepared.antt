-- A diverted task whose oldest mark is that of a `par` comes to its handler, with the rows of
-- carries in their registers.
use Rattle.std.proofs.Common.{◌≡◌, ℕ, suc, ◌+◌, ◌≤◌, Bool, true, false, cond, All, List, [], ◌∷◌}
use Rattle.std.proofs.Common.{length, refl, ap, sym, subst, ◌∙◌, arith, Some}
use Rattle.std.proofs.lemmas.List.{length-set}
use Rattle.std.specs.Prelude.{pos, slice_get, slice_set}
use Rattle.std.specs.List.{list_any}
use Rattle.beat_count.specs.BeatState.{BeatState}
use Rattle.beat_count.specs.Heartbeat.{counted}
use Rattle.frame_machine.specs.Lawful.{RowsFixed}
use Rattle.loop_syntax.specs.declared.Carry.{Carry}
use Rattle.loop_syntax.specs.declared.Carry.TheVariants as carry
use Rattle.loop_syntax.specs.declared.Reduce.{Reduce}
use Rattle.loop_syntax.specs.declared.RowAt.TheVariants as row
use Rattle.loop_meaning.specs.declared.value.Variable.{Variable}
use Rattle.stack_marks.specs.declared.mark.Mark.{Mark}
use Rattle.stack_marks.specs.Stacks.{StackValue}
use Rattle.tpal_syntax.specs.Conditions.{is_ready}
use Rattle.tpal_syntax.specs.declared.instructions.Value.TheVariants as value
use Rattle.tpal_syntax.specs.declared.notes.CarryAt.{CarryAt}
use Rattle.tpal_syntax.specs.declared.words.Word.{Word}
use Rattle.tpal_syntax.specs.declared.words.Word.TheVariants.{Int, Label}
use Rattle.tpal_syntax.specs.Listing.{Listing}
use Rattle.tpal_machine.specs.Effect.{oldest}
use Rattle.tpal_machine.specs.Reading.{register, block_at, note_of}
use Rattle.tpal_machine.specs.State.{State}
use Rattle.tpal_machine.proofs.Kit.{Back, IsCalm}
use Rattle.expr_lower.specs.declared.scope.Scope.{Scope}
use Rattle.expr_lower.specs.Leaving.{moved_to}
use Rattle.expr_lower.proofs.Keeping.{register_set, register_other}
use Rattle.handler_gen.specs.LoopCuts.{IsAtLoop, HasRow, loop_mark}
use Rattle.handler_gen.specs.Reaching.{Reaches}
use Rattle.handler_gen.specs.Sites.{is_of_cells, prep_label, split_label}
use Rattle.handler_gen.proofs.Dispatched.{dispatches}
use Rattle.handler_gen.proofs.Reaching.{reached}
use Rattle.handler_gen.proofs.Straight.{enters}
use Rattle.scene_laws.specs.Code.{Opens, to}
use Rattle.scene_laws.specs.Layout.{Activation}
use Rattle.scene_laws.specs.Names.{Sees}
use Rattle.scene_laws.specs.Sites.{carries_from, rows_from}
use Rattle.scene_laws.proofs.Scenes.Fixed.{AreFixed}
use Rattle.scene_laws.proofs.Scenes.Moves.{opened, calm}
use Rattle.scene_laws.proofs.Cuts.OldestCuts.{IsOldestCut}
use Rattle.scene_laws.proofs.Cuts.OldestVariables.{fixed_lookup}
use Rattle.scene_laws.proofs.Cuts.OwnWork.{OwnCut, IsCutSite}
use Rattle.scene_laws.proofs.Cuts.RowLoads.{AreFound, HaveRows, loads_rows, no_rows, rows_read}
use Rattle.scene_laws.proofs.Scenes.Seeing.{seen_variable}
use Rattle.scene_laws.proofs.Scenes.Variables.{var_names}

-- a task that comes to the handler's first block: the rows of the carries are in their registers
pub record IsPrepared (c : OwnCut) (state : State) (words : List Word) (beat : BeatState) : Type 0
  where
    pub size : length words ≡ 32
    pub base : register words 28 ≡ Int (pos c.z)
    pub high : (r : ℕ) → 30 ≤ r → register words r ≡ register state.registers r
    pub quiet : beat.quiet ≡ state.beat.quiet
    pub granted : beat.granted ≡ state.beat.granted
    pub rows : HaveRows c.vars 0 c.loop.carries.items words

-- as many carries as before
pub as_many_carries : (scope : Scope) (before : ℕ) (cs : List Carry)
    → length (carries_from scope before cs) ≡ length cs
as_many_carries scope before [] = refl
as_many_carries scope before (c ∷ cs) = ap suc (as_many_carries scope (suc before) cs)

-- the rows of carries are found, where they are variables round the loop that it doesn't reduce
rows_found : (scope : Scope) (names tables : List (List ℕ)) (s : StackValue) (z : ℕ)
    (vs : List Variable) → Sees scope names tables → var_names vs ≡ names → (rs : List Reduce)
    → AreFixed rs s z 0 vs → (cs : List Carry) → RowsFixed names rs cs → AreFound scope vs s z cs
rows_found scope names tables s z vs sees named rs held [] fixed = tt
rows_found scope names tables s z vs sees named rs held (carry.Rows t i ∷ cs) fixed =
    rows_found scope names tables s z vs sees named rs held cs fixed
rows_found scope names tables s z vs sees named rs held (carry.Cells t (row.Var x) j ∷ cs) fixed = (
  fixed_lookup rs s z scope.cells.items 0 vs x.text.items sees.laid (sees.named ∙ sym named)
      (seen_variable scope names tables sees x.text.items fixed.0) fixed.1 held,
  rows_found scope names tables s z vs sees named rs held cs fixed.2,
)
rows_found scope names tables s z vs sees named rs held (carry.Cells t (row.Int n) j ∷ cs) fixed =
    (tt, rows_found scope names tables s z vs sees named rs held cs fixed)

module _ (code : Listing) (heartbeat : ℕ) {act : Activation} {names : List (List ℕ)}
    {depth cursor dispatch : ℕ} {c : OwnCut}
    (place : IsCutSite code act names depth cursor dispatch c) (state : State)
    {above : List Mark} (at : IsOldestCut dispatch c above state) where
  sees : Sees c.scope names act.tables
  sees = subst (λ (s : Scope). Sees s names act.tables) (sym place.scoped) place.is_site.sees

  pub carries_are : c.site.carries ≡ carries_from c.scope 0 c.loop.carries.items
  carries_are =
      ap (λ site. site.carries) place.is_site.is
      ∙ ap (λ (s : Scope). carries_from s 0 c.loop.carries.items) (sym place.scoped)

  few : 0 + length c.loop.carries.items ≤ 23
  few =
      let many : length c.site.carries ≡ length c.loop.carries.items =
      ap (λ (cs : List CarryAt). length cs) carries_are
      ∙ as_many_carries c.scope 0 c.loop.carries.items in
      omega (arith, many, place.is_site.right.few_carries)

  found : AreFound c.scope c.vars state.stack c.z c.loop.carries.items
  found = rows_found c.scope names act.tables state.stack c.z c.vars sees place.named
      c.loop.reduces.items at.fixed c.loop.carries.items place.rows

  abbrev mark : Mark
  mark = loop_mark c.site c.z

  is_oldest : oldest state.stack ≡ Some mark
  is_oldest = ap (λ (marks : List Mark). slice_get marks 0) at.marked

  -- the words behind the block of `dispatch`
  abbrev split_words : ℕ → List Word
  split_words l = slice_set (slice_set state.registers 28 (Int (pos c.z))) 29 (Label l)

  abbrev at_split : ℕ → State
  at_split l = moved_to state (split_words l) (counted (counted state.beat)) l 0

  comes : is_ready (note_of (block_at code (split_label c.site))) ≡ false
      → Reaches code heartbeat state (at_split (split_label c.site))
  comes calm_there = (dispatches code heartbeat dispatch place.dispatches.0).comes mark state
      at.diverted.block at.diverted.at at.size is_oldest calm_there

  size_two : (l : ℕ) → length (split_words l) ≡ 32
  size_two l =
      length-set (slice_set state.registers 28 (Int (pos c.z))) 29 (Label l)
      ∙ (length-set state.registers 28 (Int (pos c.z)) ∙ at.size)

  base_two : (l : ℕ) → register (split_words l) 28 ≡ Int (pos c.z)
  base_two l =
      register_other (slice_set state.registers 28 (Int (pos c.z))) 29 28 (Label l)
      (λ e. absurd (omega (arith, e)))
      ∙ register_set state.registers 28 (Int (pos c.z)) (omega (arith, at.size))

  high_two : (l r : ℕ) → 30 ≤ r → register (split_words l) r ≡ register state.registers r
  high_two l r from =
      register_other (slice_set state.registers 28 (Int (pos c.z))) 29 r (Label l)
      (λ e. absurd (omega (arith, e, from)))
      ∙ register_other state.registers 28 r (Int (pos c.z)) (λ e. absurd (omega (arith, e, from)))

  handler_calm : IsCalm code c.site.label
  handler_calm = ap (λ b. is_ready (note_of b)) place.is_site.handler.0

  module _ (K : Back code heartbeat)
      (go : (words : List Word) (beat : BeatState) → IsPrepared c state words beat
      → K.Holds (moved_to state words beat c.site.label 0)) where
    -- no carry has a row
    at_once : list_any is_of_cells c.site.carries ≡ false → K.Holds state
    at_once none =
        let split : split_label c.site ≡ c.site.label =
        ap (λ (b : Bool). cond b (prep_label c.site.label) c.site.label) none in
        let rowless : list_any is_of_cells (carries_from c.scope 0 c.loop.carries.items) ≡ false =
        ap (λ (cs : List CarryAt). list_any is_of_cells cs) (sym carries_are) ∙ none in
        reached code heartbeat K state (at_split (split_label c.site))
        (comes (ap (λ (l : ℕ). is_ready (note_of (block_at code l))) split ∙ handler_calm))
        (subst (λ (l : ℕ). K.Holds (at_split l)) (sym split)
        (go (split_words c.site.label) (counted (counted state.beat))
        (record {
          size = size_two c.site.label;
          base = base_two c.site.label;
          high = high_two c.site.label;
          quiet = refl;
          granted = refl;
          rows = no_rows c.scope c.vars c.loop.carries.items 0 (split_words c.site.label) rowless;
        })))

    -- the rows are loaded
    by_loads : list_any is_of_cells c.site.carries ≡ true → K.Holds state
    by_loads some =
        let split : split_label c.site ≡ prep_label c.site.label =
        ap (λ (b : Bool). cond b (prep_label c.site.label) c.site.label) some in
        let opens : Opens code (prep_label c.site.label)
        (rows_from c.scope 0 c.loop.carries.items) (to c.site.label) =
        subst (λ (s : Scope). Opens code (prep_label c.site.label)
        (rows_from s 0 c.loop.carries.items) (to c.site.label)) (sym place.scoped)
        (place.is_site.rows some) in
        let calm_there = calm code (prep_label c.site.label)
        (rows_from c.scope 0 c.loop.carries.items) (to c.site.label) opens in
        let s : State = at_split (prep_label c.site.label) in
        reached code heartbeat K state (at_split (split_label c.site))
        (comes (ap (λ (l : ℕ). is_ready (note_of (block_at code l))) split ∙ calm_there))
        (subst (λ (l : ℕ). K.Holds (at_split l)) (sym split)
        (loads_rows code heartbeat K c.scope c.vars c.z (to c.site.label) s c.loop.carries.items 0
        (split_words (prep_label c.site.label)) (counted (counted state.beat)) 0 few
        (size_two (prep_label c.site.label)) (base_two (prep_label c.site.label)) found
        (opened code (prep_label c.site.label) (rows_from c.scope 0 c.loop.carries.items)
        (to c.site.label) opens)
        (λ later beat there h quiet granted left.
        enters code heartbeat K s later beat there (value.Label c.site.label) c.site.label left
        refl handler_calm
        (go later (counted beat)
        (record {
          size = h.size ∙ size_two (prep_label c.site.label);
          base = h.above 28 (omega arith) ∙ base_two (prep_label c.site.label);
          high = λ r from. h.above r (omega (arith, from))
              ∙ high_two (prep_label c.site.label) r from;
          quiet = quiet;
          granted = granted;
          rows = h.rows;
        })))))

    pub prepares : K.Holds state
    prepares = by_carries (list_any is_of_cells c.site.carries) refl
      where
        by_carries : (b : Bool) → list_any is_of_cells c.site.carries ≡ b → K.Holds state
        by_carries true some = by_loads some
        by_carries false none = at_once none

  -- such a task is at the handler
  pub prepared_at : (words : List Word) (beat : BeatState) → IsPrepared c state words beat
      → IsAtLoop c.site c.z c.next c.middle c.end (moved_to state words beat c.site.label 0)
  prepared_at words beat h = record {
    block = refl;
    at = refl;
    size = h.size;
    base = h.base;
    rows = subst (λ (cs : List CarryAt). All (HasRow words) cs) (sym carries_are)
        (rows_read c.scope c.vars c.loop.carries.items 0 words h.rows);
    granted = h.granted ∙ at.diverted.granted;
    free = at.free;
    marked = is_oldest;
    held = at.held;
    cursor = at.cursor;
    bound = at.bound;
    next_in_range = at.next_in_range;
    end_in_range = at.end_in_range;
    short = at.short;
    cut = at.cut;
  }
