-- The site of a `par` that can be cut is a right one.
use Rattle.std.proofs.Common.{◌≡◌, ◌≢◌, ℕ, suc, ◌+◌, ◌<◌, ◌≤◌, Bool, true, false, cond, List, []}
use Rattle.std.proofs.Common.{◌∷◌, length, map, bytes_eq, None, Some, Vec, refl, sym, ap, subst}
use Rattle.std.proofs.Common.{◌∙◌, arith}
use Rattle.std.specs.Prelude.{◌||◌, IsTrue, All, AllPairs}
use Rattle.std.specs.List.{AllByRecursion}
use Rattle.std.specs.declared.alloc.Global.{Global}
use Rattle.std.proofs.lemmas.Bool.{true≢false}
use Rattle.std.proofs.lemmas.List.{length-map}
use Rattle.std.proofs.lemmas.List.Elements.{All-cons, All-nil}
use Rattle.std.proofs.lemmas.List.Kept.{AllPairs-cons}
use Rattle.tp_value.specs.declared.Op.{Op}
use Rattle.tp_value.specs.declared.limits.TheConstants.{MAX_PAR_NESTING}
use Rattle.loop_syntax.specs.declared.Carry.{Carry}
use Rattle.loop_syntax.specs.declared.Carry.TheVariants as carry
use Rattle.loop_syntax.specs.declared.ParLoop.{ParLoop}
use Rattle.loop_syntax.specs.declared.Reduce.{Reduce}
use Rattle.loop_syntax.specs.declared.Stmt.TheVariants.{Par}
use Rattle.loop_rules.specs.Names.{is_in, operator_of}
use Rattle.loop_check.proofs.Found.{eq_is, eq_self}
use Rattle.tpal_syntax.specs.declared.notes.CarryAt.{CarryAt}
use Rattle.tpal_syntax.specs.Parts.{table_of}
use Rattle.expr_lower.specs.declared.scope.Scope.{Scope}
use Rattle.expr_lower.specs.Scopes.{has_table_in, number_in, offset_of, table_number}
use Rattle.frame_machine.specs.Bodies.{Unreduced}
use Rattle.frame_machine.specs.Lawful.{Distinct, DistinctTargets, TargetsIn}
use Rattle.handler_gen.specs.Sites.{IsLoopSite, IsLowCarry, IsNoRow, at_of}
use Rattle.block_lower.specs.declared.body.Body.{Body}
use Rattle.block_lower.specs.declared.round.Round as told
use Rattle.block_lower.specs.Bodies.{HasRoomFor, entries}
use Rattle.code_laws.specs.Fitting.{CanBeCut}
use Rattle.scene_laws.specs.Layout.{bound_cell, cursor_cell, rec_cell, value_cell, Entry}
use Rattle.block_lower.specs.Lowering.{FitsIn}
use Rattle.scene_laws.specs.Names.{Sees}
use Rattle.scene_laws.specs.Sites.{accs_of, carried_table, carries_from, carry_at, loop_site}
use Rattle.block_lower.proofs.Written.LoweredPars.{targets_seen}
use Rattle.scene_laws.proofs.Scenes.Seeing.{as_long, cell_of_level, one_cell, seen_table}
use Rattle.scene_laws.proofs.Scenes.Levels.{at_level}

pub no_pairs : {X : Type 0} (R : X → X → Type 0) → AllPairs R []
no_pairs R i j d less below = absurd (omega (arith, below))

-- ---- variables

module _ (scope : Scope) (names tables : List (List ℕ)) (sees : Sees scope names tables) where
  -- what holds of the cells of all variables holds of those that are reduced
  all_reduced : (P : ℕ → Type 0)
      → ((x : List ℕ) → is_in names x ≡ true → P (offset_of scope x))
      → (rs : List Reduce) → TargetsIn names rs → All P
      (map (λ (a : ℕ × Op). a.0) (accs_of scope rs))
  all_reduced P each [] seen = All-nil P
  all_reduced P each (r ∷ rs) seen =
      All-cons P (offset_of scope r.target.text.items)
      (map (λ (a : ℕ × Op). a.0) (accs_of scope rs)) (each r.target.text.items seen.0)
      (all_reduced P each rs seen.1)

  -- a variable that isn't reduced has none of their cells
  apart : (x : List ℕ) → is_in names x ≡ true → (rs : List Reduce) → Unreduced rs x
      → TargetsIn names rs
      → All (λ b. offset_of scope x ≢ b) (map (λ (a : ℕ × Op). a.0) (accs_of scope rs))
  apart x seen [] new all = All-nil (λ b. offset_of scope x ≢ b)
  apart x seen (r ∷ rs) new all =
      go (bytes_eq r.target.text.items x) refl new (λ later. apart x seen rs later all.1)
    where
      P : ℕ → Type 0
      P b = offset_of scope x ≢ b

      go : (b : Bool) → bytes_eq r.target.text.items x ≡ b
          → cond b (Some r.op) (operator_of rs x) ≡ None
          → (operator_of rs x ≡ None → All P (map (λ (a : ℕ × Op). a.0) (accs_of scope rs)))
          → All P (offset_of scope r.target.text.items ∷ map (λ (a : ℕ × Op). a.0)
          (accs_of scope rs))
      go true e is behind = absurd (cc)
      go false e is behind =
          All-cons P (offset_of scope r.target.text.items)
          (map (λ (a : ℕ × Op). a.0) (accs_of scope rs))
          (λ same.
          let one : x ≡ r.target.text.items =
          one_cell scope names tables sees x r.target.text.items seen all.0 same in
          absurd (true≢false (sym (eq_self x) ∙ (subst (λ y. bytes_eq y x ≡ false) (sym one) e))))
          (behind is)

  accs_differ : (rs : List Reduce) → DistinctTargets rs → TargetsIn names rs
      → AllPairs (λ a b. a ≢ b) (map (λ (a : ℕ × Op). a.0) (accs_of scope rs))
  accs_differ [] new seen = no_pairs (λ a b. a ≢ b)
  accs_differ (r ∷ rs) new seen =
      AllPairs-cons (λ a b. a ≢ b) (offset_of scope r.target.text.items)
      (map (λ (a : ℕ × Op). a.0) (accs_of scope rs))
      (apart r.target.text.items seen.0 rs new.0 seen.1) (accs_differ rs new.1 seen.1)

-- ---- tables

number_below : (us : List (Vec ℕ Global)) (t : List ℕ) → has_table_in us t ≡ true
    → number_in us t < length us
number_below [] t has = absurd (cc)
number_below (u ∷ us) t has = go (bytes_eq u.items t) has (number_below us t)
  where
    go : (b : Bool) → (b || has_table_in us t) ≡ true
        → (has_table_in us t ≡ true → number_in us t < length us)
        → cond b 0 (suc (number_in us t)) < length (u ∷ us)
    go true h k = omega arith
    go false h k = let less : number_in us t < length us = k h in omega arith

-- two tables with one number are one
one_number : (us : List (Vec ℕ Global)) (s t : List ℕ) → has_table_in us s ≡ true
    → has_table_in us t ≡ true → number_in us s ≡ number_in us t → s ≡ t
one_number [] s t has also same = absurd (cc)
one_number (u ∷ us) s t has also same =
    go (bytes_eq u.items s) (bytes_eq u.items t) refl refl has also same (one_number us s t)
  where
    go : (b c : Bool) → bytes_eq u.items s ≡ b → bytes_eq u.items t ≡ c
        → (b || has_table_in us s) ≡ true → (c || has_table_in us t) ≡ true
        → cond b 0 (suc (number_in us s)) ≡ cond c 0 (suc (number_in us t))
        → (has_table_in us s ≡ true → has_table_in us t ≡ true
        → number_in us s ≡ number_in us t → s ≡ t)
        → s ≡ t
    go true true e f h k is later = sym (eq_is u.items s e) ∙ eq_is u.items t f
    go true false e f h k is later = absurd (omega (arith, is))
    go false true e f h k is later = absurd (omega (arith, is))
    go false false e f h k is later = later h k (omega (arith, is))

module _ (scope : Scope) (names tables : List (List ℕ)) (sees : Sees scope names tables)
    (few : length scope.tables.items ≤ 16) where
  low_carry : (before : ℕ) (c : Carry) → before < 4 → IsTrue (is_in tables (carried_table c))
      → IsLowCarry (carry_at scope before c)
  low_carry before (carry.Rows t i) less seen = (
    omega (
      arith,
      few,
      number_below scope.tables.items t.text.items
          (seen_table scope names tables sees t.text.items seen),
    ),
    omega arith,
  )
  low_carry before (carry.Cells t k j) less seen = (
    omega (
      arith,
      few,
      number_below scope.tables.items t.text.items
          (seen_table scope names tables sees t.text.items seen),
    ),
    omega (arith, less),
    omega arith,
  )

  low_carries : (before : ℕ) (cs : List Carry) → before + length cs ≤ 4
      → AllByRecursion (λ c. IsTrue (is_in tables (carried_table c))) cs
      → All IsLowCarry (carries_from scope before cs)
  low_carries before [] less seen = All-nil IsLowCarry
  low_carries before (c ∷ cs) less seen =
      All-cons IsLowCarry (carry_at scope before c) (carries_from scope (suc before) cs)
      (low_carry before c (omega (arith, less)) seen.0)
      (low_carries (suc before) cs (omega (arith, less)) seen.1)

number_of_carry : (scope : Scope) (before : ℕ) (c : Carry)
    → table_of (carry_at scope before c) ≡ table_number scope (carried_table c)
number_of_carry scope before (carry.Rows t i) = refl
number_of_carry scope before (carry.Cells t k j) = refl

module _ (scope : Scope) (names tables : List (List ℕ)) (sees : Sees scope names tables) where
  abbrev Differ : CarryAt → CarryAt → Type 0
  Differ c d = table_of c ≢ table_of d

  table_apart : (first before : ℕ) (c : Carry) (cs : List Carry)
      → is_in (map carried_table cs) (carried_table c) ≡ false
      → IsTrue (is_in tables (carried_table c))
      → AllByRecursion (λ d. IsTrue (is_in tables (carried_table d))) cs
      → All (Differ (carry_at scope first c)) (carries_from scope before cs)
  table_apart first before c [] new seen all = All-nil (Differ (carry_at scope first c))
  table_apart first before c (d ∷ cs) new seen all =
      go (bytes_eq (carried_table d) (carried_table c)) refl new
      (λ later. table_apart first (suc before) c cs later seen all.1)
    where
      P : CarryAt → Type 0
      P = Differ (carry_at scope first c)

      go : (b : Bool) → bytes_eq (carried_table d) (carried_table c) ≡ b
          → (b || is_in (map carried_table cs) (carried_table c)) ≡ false
          → (is_in (map carried_table cs) (carried_table c) ≡ false
          → All P (carries_from scope (suc before) cs))
          → All P (carry_at scope before d ∷ carries_from scope (suc before) cs)
      go true e is behind = absurd (cc)
      go false e is behind =
          All-cons P (carry_at scope before d) (carries_from scope (suc before) cs)
          (λ same.
          let one : carried_table c ≡ carried_table d =
          one_number scope.tables.items (carried_table c) (carried_table d)
          (seen_table scope names tables sees (carried_table c) seen)
          (seen_table scope names tables sees (carried_table d) all.0)
          (sym (number_of_carry scope first c) ∙ same ∙ number_of_carry scope before d) in
          absurd (true≢false (sym (eq_self (carried_table c))
          ∙ subst (λ t. bytes_eq t (carried_table c) ≡ false) (sym one) e)))
          (behind is)

  tables_apart : (before : ℕ) (cs : List Carry) → Distinct (map carried_table cs)
      → AllByRecursion (λ d. IsTrue (is_in tables (carried_table d))) cs
      → AllPairs Differ (carries_from scope before cs)
  tables_apart before [] new seen = no_pairs Differ
  tables_apart before (c ∷ cs) new seen =
      AllPairs-cons Differ (carry_at scope before c) (carries_from scope (suc before) cs)
      (table_apart before (suc before) c cs new.0 seen.0 seen.1)
      (tables_apart (suc before) cs new.1 seen.1)

-- ---- rows

-- the place of a cut comes into register 0, and no row stands there
at_is : (scope : Scope) (before : ℕ) (c : Carry) → at_of (carry_at scope before c) ≡ 0
at_is scope before (carry.Rows t i) = refl
at_is scope before (carry.Cells t k j) = refl

no_row : (scope : Scope) (before : ℕ) (c : Carry) → IsNoRow (carry_at scope before c) 0
no_row scope before (carry.Rows t i) = tt
no_row scope before (carry.Cells t k j) = λ same. absurd (omega (arith, same))

row_stays : (scope : Scope) (first before : ℕ) (c : Carry) (cs : List Carry)
    → All (λ d. IsNoRow (carry_at scope first c) (at_of d)) (carries_from scope before cs)
row_stays scope first before c [] = All-nil (λ d. IsNoRow (carry_at scope first c) (at_of d))
row_stays scope first before c (d ∷ cs) =
    All-cons (λ e. IsNoRow (carry_at scope first c) (at_of e)) (carry_at scope before d)
    (carries_from scope (suc before) cs)
    (subst (λ r. IsNoRow (carry_at scope first c) r) (sym (at_is scope before d))
    (no_row scope first c))
    (row_stays scope first (suc before) c cs)

rows_stay : (scope : Scope) (others : List Carry) (before : ℕ) (cs : List Carry)
    → All (λ c. All (λ d. IsNoRow c (at_of d)) (carries_from scope 0 others))
    (carries_from scope before cs)
rows_stay scope others before [] =
    All-nil (λ c. All (λ d. IsNoRow c (at_of d)) (carries_from scope 0 others))
rows_stay scope others before (c ∷ cs) =
    All-cons (λ c. All (λ d. IsNoRow c (at_of d)) (carries_from scope 0 others))
    (carry_at scope before c) (carries_from scope (suc before) cs)
    (row_stays scope before 0 c others) (rows_stay scope others (suc before) cs)

as_many_carries : (scope : Scope) (before : ℕ) (cs : List Carry)
    → length (carries_from scope before cs) ≡ length cs
as_many_carries scope before [] = refl
as_many_carries scope before (c ∷ cs) = ap suc (as_many_carries scope (suc before) cs)

-- ---- the site

-- The cell of the next iteration is that of the loop's variable, or one of the loop's own in front
-- of its record's.
pub data IsCursor (level depth : ℕ) : ℕ → Type 0 where
  of_variable : IsCursor level depth (value_cell level)
  of_loop : IsCursor level depth (cursor_cell depth)

-- such a cell is none of the loop's others, nor of a variable round it
record CursorIsApart (level depth cursor : ℕ) : Type 0 where
  below : cursor ≤ value_cell level
  no_bound : cursor ≢ bound_cell level
  no_rec : cursor ≢ rec_cell depth
  no_variable : (c : ℕ) → value_cell 0 ≤ c → c < value_cell level → cursor ≢ c

apart_cursor : (level depth : ℕ) {cursor : ℕ} → IsCursor level depth cursor
    → depth < MAX_PAR_NESTING → CursorIsApart level depth cursor
apart_cursor level depth of_variable shallow = record {
  below = omega arith;
  no_bound = λ same. absurd (omega (arith, same));
  no_rec = λ same. absurd (omega (arith, same, shallow));
  no_variable = λ c from below same. absurd (omega (arith, same, below));
}
apart_cursor level depth of_loop shallow = record {
  below = omega (arith, shallow);
  no_bound = λ same. absurd (omega (arith, same, shallow));
  no_rec = λ same. absurd (omega (arith, same));
  no_variable = λ c from below same. absurd (omega (arith, same, from, shallow));
}

pub right_site : (on : Body) (scope : Scope) (names tables : List (List ℕ)) (functions : List Entry)
    (fixed : List ℕ) (l : ParLoop) (depth label : ℕ) {cursor : ℕ}
    → IsCursor (length scope.cells.items) depth cursor
    → Sees scope names tables
    → CanBeCut tables functions on.most names fixed l.reduces.items l.carries.items
    → depth < MAX_PAR_NESTING → length names < on.most → HasRoomFor on 0 → label < 65536
    → length scope.tables.items ≤ 16
    → IsLoopSite (loop_site scope l on.size depth (length scope.cells.items) cursor label)
right_site on scope names tables functions fixed l depth label {cursor} is_cursor sees cut shallow
    room has_room below few =
    let level : ℕ = length scope.cells.items in
    let long : level ≡ length names = as_long scope names tables sees in
    let accs : List ℕ = map (λ (a : ℕ × Op). a.0) (accs_of scope l.reduces.items) in
    let inside : ℕ → Type 0 = λ off. off < on.size in
    let rs : List Reduce = l.reduces.items in
    let seen_all : TargetsIn names rs = targets_seen tables functions on.most names fixed rs
    cut.reduced in
    let own : (x : List ℕ) → is_in names x ≡ true → offset_of scope x < value_cell level =
    λ x seen. omega (
      arith,
      cell_of_level scope names tables sees x seen,
      (at_level names x seen).0,
      long,
    ) in
    let above : (x : List ℕ) → is_in names x ≡ true → rec_cell depth < offset_of scope x =
    λ x seen. omega (arith, cell_of_level scope names tables sees x seen, shallow) in
    let low : CursorIsApart level depth cursor = apart_cursor level depth is_cursor shallow in
    let all : (P : ℕ → Type 0) → ((x : List ℕ) → is_in names x ≡ true → P (offset_of scope x))
    → All P accs =
    λ P each. all_reduced scope names tables sees P each rs seen_all in
    record {
      label = omega (arith, below);
      cells = has_room.fits;
      offsets =
          All-cons inside (bound_cell level)
          (cursor ∷ bound_cell level ∷ rec_cell depth ∷ accs)
          (omega (arith, has_room.room, room, long))
          (All-cons inside cursor (bound_cell level ∷ rec_cell depth ∷ accs)
          (omega (arith, has_room.room, room, long, low.below))
          (All-cons inside (bound_cell level) (rec_cell depth ∷ accs)
          (omega (arith, has_room.room, room, long))
          (All-cons inside (rec_cell depth) accs (omega (arith, has_room.room, room, shallow))
          (all inside (λ x seen. omega (arith, own x seen, has_room.room, room, long))))));
      offsets_differ =
          AllPairs-cons (λ a b. a ≢ b) cursor (bound_cell level ∷ rec_cell depth ∷ accs)
          (All-cons (λ b. cursor ≢ b) (bound_cell level) (rec_cell depth ∷ accs) low.no_bound
          (All-cons (λ b. cursor ≢ b) (rec_cell depth) accs low.no_rec
          (all (λ b. cursor ≢ b) (λ x seen same. low.no_variable (offset_of scope x)
          (omega (arith, cell_of_level scope names tables sees x seen)) (own x seen) same))))
          (AllPairs-cons (λ a b. a ≢ b) (bound_cell level) (rec_cell depth ∷ accs)
          (All-cons (λ b. bound_cell level ≢ b) (rec_cell depth) accs
          (λ same. absurd (omega (arith, same, shallow)))
          (all (λ b. bound_cell level ≢ b) (λ x seen same. absurd
          (omega (arith, own x seen, same)))))
          (AllPairs-cons (λ a b. a ≢ b) (rec_cell depth) accs
          (all (λ b. rec_cell depth ≢ b) (λ x seen same. absurd
          (omega (arith, above x seen, same))))
          (accs_differ scope names tables sees rs cut.reduced_differ seen_all)));
      few_accs = omega (
        arith,
        cut.few_reduces,
        length-map {B = ℕ × Op} rs
            (λ (r : Reduce). (offset_of scope r.target.text.items, r.op)),
      );
      few_carries = omega (arith, cut.few_carries, as_many_carries scope 0 l.carries.items);
      carries = low_carries scope names tables sees few 0 l.carries.items
          (omega (arith, cut.few_carries)) cut.carried_seen;
      tables_differ = tables_apart scope names tables sees 0 l.carries.items cut.carried_differ
          cut.carried_seen;
      rows_stay = rows_stay scope l.carries.items 0 l.carries.items;
    }

-- what a `par` that fits gives for its site
pub record GivesSite (on : Body) (scope : Scope) (as_told : told.Round) (l : ParLoop) : Type 0
  where
    pub few_carries : length l.carries.items ≤ 4
    pub shallow : as_told.depth < MAX_PAR_NESTING
    pub cells : length scope.cells.items < on.most
    pub right : (label : ℕ) → label < 65536
        → IsLoopSite (loop_site scope l on.size as_told.depth (length scope.cells.items)
        (value_cell (length scope.cells.items)) label)
    pub right_deep : (label : ℕ) → label < 65536
        → IsLoopSite (loop_site scope l on.size as_told.depth (length scope.cells.items)
        (cursor_cell as_told.depth) label)

pub site_fits : (on : Body) (scope : Scope) (as_told : told.Round) (l : ParLoop)
    → FitsIn on scope as_told (Par l ∷ []) → HasRoomFor on 0 → length scope.tables.items ≤ 16
    → GivesSite on scope as_told l
site_fits on scope as_told l f room few =
    let shallow : as_told.depth < MAX_PAR_NESTING = omega (arith, f.fits.0.0, f.is_round.depth) in
    record {
      few_carries = f.fits.0.5.few_carries;
      shallow = shallow;
      cells = omega (arith, f.fits.0.1, as_long scope f.names f.tables f.sees);
      right = λ label below.
          right_site on scope f.names f.tables (entries on.callees.items) f.round.fixed l
          as_told.depth label of_variable f.sees f.fits.0.5 shallow f.fits.0.1 room below few;
      right_deep = λ label below.
          right_site on scope f.names f.tables (entries on.callees.items) f.round.fixed l
          as_told.depth label of_loop f.sees f.fits.0.5 shallow f.fits.0.1 room below few;
    }
