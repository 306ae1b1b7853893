-- What the sides of a `par` that is cut end with.
use Rattle.std.proofs.Common.{◌≡◌, ℕ, suc, zero, ◌+◌, Bool, true, false, not, cond, List, [], ◌∷◌}
use Rattle.std.proofs.Common.{◌++◌, length, map, drop, bytes_eq, refl, sym, ap, subst, ◌∙◌, Option}
use Rattle.std.proofs.Common.{Some, None, All, arith}
use Rattle.std.proofs.lemmas.List.Elements.{All-cons, All-nil}
use Rattle.std.proofs.lemmas.List.Kept.{AllPairs-cons}
use Rattle.std.proofs.lemmas.Slice.Eq.{bytes_eq-Decides}
use Rattle.std.specs.List.{AllPairs, slice_get}
use Rattle.std.specs.Ordering.{int_eq}
use Rattle.std.specs.Prelude.{ℤ, ◌&&◌, ◌||◌, IsSome, int_lt}
use Rattle.slices.specs.Holding.{Holding, cell_at}
use Rattle.slices.proofs.JoinLaws.{cell_at-held_where}
use Rattle.tp_value.specs.declared.Stop.{Stop}
use Rattle.tp_value.specs.declared.Stop.TheVariants.{Done, Trap, NoFuel}
use Rattle.tp_value.specs.declared.Stop.TheVariants as stop
use Rattle.tp_value.specs.declared.Table.{Table}
use Rattle.tpal_syntax.specs.Listing.{Listing}
use Rattle.tpal_syntax.specs.Parts as syntax
use Rattle.tpal_syntax.specs.declared.notes.CarryAt.{CarryAt}
use Rattle.tpal_syntax.specs.declared.notes.Target.{Target}
use Rattle.tpal_syntax.specs.declared.words.Word.{Word}
use Rattle.tpal_syntax.specs.declared.words.Word.TheVariants.{Int, Rec}
use Rattle.tpal_machine.specs.Belongs.{IsWordOf, SideBelongsTo}
use Rattle.tpal_machine.specs.Ended.{is_done}
use Rattle.tpal_machine.specs.Merge.{AreParts, IsSideOf, part_in, part_of}
use Rattle.tpal_machine.specs.declared.cut.TableCut.{TableCut}
use Rattle.tpal_machine.specs.declared.ends.Side.{Side}
use Rattle.tpal_machine.specs.declared.ends.SideName.TheVariants.{Left, Right}
use Rattle.loop_syntax.specs.declared.Carry.{Carry}
use Rattle.loop_syntax.specs.declared.Carry.TheVariants as carry
use Rattle.loop_syntax.specs.declared.ParLoop.{ParLoop}
use Rattle.loop_syntax.specs.declared.Reduce.{Reduce}
use Rattle.loop_meaning.specs.declared.value.Variable.{Variable}
use Rattle.loop_meaning.specs.State.{State, cell_of, has_cell, table_of}
use Rattle.expr_lower.specs.declared.scope.Scope.{Scope}
use Rattle.expr_lower.specs.Scopes.{HasTable, table_number}
use Rattle.frame_machine.specs.Modes.{Mode}
use Rattle.frame_machine.specs.Parts.{line_value}
use Rattle.handler_gen.specs.Blocks.{renames_from}
use Rattle.join_gen.specs.LoopJoins.{handed, words_from}
use Rattle.scene_laws.specs.Sites.{accs_of, carries_from, carry_at}
use Rattle.scene_laws.proofs.Merges.JoinsModes.{CutAs, by_cells, by_rows, first_true, is_carried}
use Rattle.scene_laws.proofs.Merges.JoinsModes.{narrowed_passes, not_true, rest_known, second_true}
use Rattle.scene_laws.proofs.Merges.JoinsNumbers.{same_number}
use Rattle.scene_laws.proofs.Cuts.Parts.{IsKnown, all_of_table, cells_in, child_extent}
use Rattle.scene_laws.proofs.Cuts.Parts.{left_extent}
use Rattle.scene_laws.proofs.Cuts.Parts.{part_of_table, rest_extent}
use Rattle.scene_laws.proofs.Scenes.Regions.{Extent, Has, HasCell, IsShown, Region, Unknown}
use Rattle.scene_laws.proofs.Scenes.Regions.{Wholly}
use Rattle.scene_laws.proofs.Scenes.Regions.{size_shown}
use Rattle.scene_laws.proofs.Scenes.Results.{end_by}
use Rattle.scene_laws.proofs.Cuts.Sides.{Part, carried, child_region, left_region, numbers_in}
use Rattle.scene_laws.proofs.Cuts.Sides.{parts_in}
use Rattle.scene_laws.proofs.Cuts.Sides.{side_by}

-- ---- the sides of a cut

-- the left and the child of a `par` that is cut at a number in a state, under a record
abbrev pub left_side : ParLoop → ℕ → Region → ℤ → State → Part
left_side l k region middle s = record {
  which = Left;
  rec = k;
  before = s.output;
  since = s.ticks;
  region = left_region s.vars middle l.carries.items region;
}

abbrev pub child_side : ParLoop → ℕ → Region → ℤ → State → Part
child_side l k region middle s = record {
  which = Right;
  rec = k;
  before = [];
  since = 0;
  region = child_region s.vars middle l.carries.items region;
}

-- ---- what a side hands over

numbers_renamed : (scope : Scope) (rs : List Reduce) (vs : List Variable) (k r : ℕ)
    → map (λ (w : ℕ × Word). w.0)
    (words_from r (map (λ (n : ℤ). Int n) (numbers_in rs vs)) ++ (24, Rec k) ∷ [])
    ≡ map (λ (q : ℕ × ℕ). q.0) (renames_from r (accs_of scope rs) ++ (24, 25) ∷ [])
numbers_renamed scope [] vs k r = refl
numbers_renamed scope (q ∷ rs) vs k r =
    ap (λ ns. r ∷ ns) (numbers_renamed scope rs vs k (r + 1))

table_at_carry : (scope : Scope) (before : ℕ) (c : Carry) (cs : List Carry)
    → map syntax.table_of (carries_from scope before (c ∷ cs))
    ≡ table_number scope (carried c) ∷ map syntax.table_of (carries_from scope (suc before) cs)
table_at_carry scope before (carry.Rows t i) cs = refl
table_at_carry scope before (carry.Cells t k j) cs = refl

parts_numbered : (scope : Scope) (region : Region) (ts : List Table) (cs : List Carry)
    (before : ℕ) → map (λ (s : ℕ × Holding). s.0) (parts_in scope region ts cs)
    ≡ map syntax.table_of (carries_from scope before cs)
parts_numbered scope region ts [] before = refl
parts_numbered scope region ts (c ∷ cs) before =
    ap (λ ns. table_number scope (carried c) ∷ ns) (parts_numbered scope region ts cs (suc before))
    ∙ sym (table_at_carry scope before c cs)

pub numbers_many : (scope : Scope) (rs : List Reduce) (vs : List Variable)
    → length (numbers_in rs vs) ≡ length (accs_of scope rs)
numbers_many scope [] vs = refl
numbers_many scope (r ∷ rs) vs = ap suc (numbers_many scope rs vs)

words_belong : (code : Listing) (r k : ℕ) (numbers : List ℤ)
    → All (λ (w : ℕ × Word). IsWordOf code w.1)
    (words_from r (map (λ (n : ℤ). Int n) numbers) ++ (24, Rec k) ∷ [])
words_belong code r k [] =
    All-cons (λ (w : ℕ × Word). IsWordOf code w.1) (24, Rec k) [] tt
    (All-nil (λ (w : ℕ × Word). IsWordOf code w.1))
words_belong code r k (n ∷ numbers) =
    All-cons (λ (w : ℕ × Word). IsWordOf code w.1) (r, Int n)
    (words_from (r + 1) (map (λ (m : ℤ). Int m) numbers) ++ (24, Rec k) ∷ []) tt
    (words_belong code (r + 1) k numbers)

module _ (scope : Scope) (l : ParLoop) (part : Part) (s : State) where
  abbrev pub ends_by : Stop → Side
  ends_by stop = side_by scope l part (end_by stop s)

  pub side_stop : (stop : Stop) → (ends_by stop).stop ≡ stop
  side_stop Done = refl
  side_stop (stop.Left number) = refl
  side_stop (Trap kind place) = refl
  side_stop NoFuel = refl

  pub side_ticks : (stop : Stop) → (ends_by stop).ticks ≡ s.ticks
  side_ticks Done = refl
  side_ticks (stop.Left number) = refl
  side_ticks (Trap kind place) = refl
  side_ticks NoFuel = refl

  pub side_output : (stop : Stop) → (ends_by stop).output ≡ drop (length part.before) s.output
  side_output Done = refl
  side_output (stop.Left number) = refl
  side_output (Trap kind place) = refl
  side_output NoFuel = refl

  -- where it is done, it hands over its accumulators with its record, and its parts of tables
  pub side_words : (stop : Stop) → stop ≡ Done
      → (ends_by stop).words ≡ handed (numbers_in l.reduces.items s.vars) part.rec
  side_words stop done =
      ap (λ (x : Stop). (side_by scope l part (end_by x s)).words) done

  pub side_slices : (stop : Stop) → stop ≡ Done
      → (ends_by stop).slices ≡ parts_in scope part.region s.tables l.carries.items
  side_slices stop done =
      ap (λ (x : Stop). (side_by scope l part (end_by x s)).slices) done

  -- it is one of a join target that renames its accumulators and carries its tables
  pub side_of_target : (target : Target)
      → target.renames ≡ renames_from 0 (accs_of scope l.reduces.items) ++ (24, 25) ∷ []
      → target.carries ≡ carries_from scope 0 l.carries.items
      → (stop : Stop) → IsSideOf target (ends_by stop)
  side_of_target target renames carries Done = record {
    words = numbers_renamed scope l.reduces.items s.vars part.rec 0
        ∙ sym (ap (map (λ (q : ℕ × ℕ). q.0)) renames);
    slices = parts_numbered scope part.region s.tables l.carries.items 0
        ∙ sym (ap (map syntax.table_of) carries);
  }
  side_of_target target renames carries (stop.Left number) = record { words = tt; slices = tt }
  side_of_target target renames carries (Trap kind place) = record { words = tt; slices = tt }
  side_of_target target renames carries NoFuel = record { words = tt; slices = tt }

  pub side_belongs : (code : Listing) (stop : Stop) → SideBelongsTo code (ends_by stop)
  side_belongs code Done = words_belong code 0 part.rec (numbers_in l.reduces.items s.vars)
  side_belongs code (stop.Left number) = All-nil (λ (w : ℕ × Word). IsWordOf code w.1)
  side_belongs code (Trap kind place) = All-nil (λ (w : ℕ × Word). IsWordOf code w.1)
  side_belongs code NoFuel = All-nil (λ (w : ℕ × Word). IsWordOf code w.1)

  module _ (x : List ℕ) (has : HasTable scope x) where
    -- its part of a carried table
    abbrev pub side_part : Holding
    side_part = part_of_table (part.region x) (table_of s.tables x)

    part_found : (cs : List Carry) → is_carried cs x ≡ true
        → part_in (parts_in scope part.region s.tables cs) (table_number scope x) ≡ side_part ∷ []
    part_found [] is = absurd (let no_way : false ≡ true = is in cc)
    part_found (c ∷ cs) is =
        ap (λ b. cond b (part_of_table (part.region (carried c)) (table_of s.tables (carried c))
        ∷ []) (part_in (parts_in scope part.region s.tables cs) (table_number scope x)))
        (same_number scope.tables.items x (carried c) has)
        ∙ go (bytes_eq (carried c) x) refl (λ more. part_found cs more)
      where
        go : (b : Bool) → bytes_eq (carried c) x ≡ b
            → (is_carried cs x ≡ true
            → part_in (parts_in scope part.region s.tables cs) (table_number scope x)
            ≡ side_part ∷ [])
            → cond b (part_of_table (part.region (carried c)) (table_of s.tables (carried c)) ∷ [])
            (part_in (parts_in scope part.region s.tables cs) (table_number scope x))
            ≡ side_part ∷ []
        go true same behind =
            ap (λ y. part_of_table (part.region y) (table_of s.tables y) ∷ [])
            ((bytes_eq-Decides (carried c) x).0 same)
        go false other behind = behind (rw other at is)

    pub side_parts : is_carried l.carries.items x ≡ true → (stop : Stop)
        → part_of (ends_by stop) (table_number scope x) ≡ cond (is_done stop) (side_part ∷ []) []
    side_parts is Done = part_found l.carries.items is
    side_parts is (stop.Left number) = refl
    side_parts is (Trap kind place) = refl
    side_parts is NoFuel = refl

-- ---- carries of a site

carry_table : (scope : Scope) (before : ℕ) (d : Carry)
    → syntax.table_of (carry_at scope before d) ≡ table_number scope (carried d)
carry_table scope before (carry.Rows t i) = refl
carry_table scope before (carry.Cells t k j) = refl

later_true : (a b : Bool) → b ≡ true → (a || b) ≡ true
later_true true b is = refl
later_true false b is = is

-- a carry of a site is of a table that is carried
pub carry_found : (scope : Scope) (cs : List Carry) (before i : ℕ) (c : CarryAt)
    → slice_get (carries_from scope before cs) i ≡ Some c
    → (x : List ℕ) × (syntax.table_of c ≡ table_number scope x) × (is_carried cs x ≡ true)
carry_found scope [] before i c found = absurd (let no_way : None ≡ Some c = found in cc)
carry_found scope (d ∷ cs) before zero c found = (
  carried d,
  (let same : carry_at scope before d ≡ c = cc in
      sym (ap syntax.table_of same) ∙ carry_table scope before d),
  rw ((bytes_eq-Decides (carried d) (carried d)).1 refl) refl,
)
carry_found scope (d ∷ cs) before (suc i) c found =
    let behind = carry_found scope cs (suc before) i c found in (
      behind.0,
      behind.1,
      later_true (bytes_eq (carried d) behind.0) (is_carried cs behind.0) behind.2,
    )

-- ---- parts of one table

none_paired : AllPairs AreParts []
none_paired i j d less below = absurd (omega (arith, below))

one_paired : (h : Holding) → AllPairs AreParts (h ∷ [])
one_paired h = AllPairs-cons AreParts h [] (All-nil (AreParts h)) none_paired

two_paired : (h k : Holding) → AreParts h k → AllPairs AreParts (h ∷ k ∷ [])
two_paired h k are =
    AllPairs-cons AreParts h (k ∷ []) (All-cons (AreParts h) k [] are (All-nil (AreParts h)))
    (one_paired k)

-- the part of a rest and those of the sides that are done
pub parts_paired : (h p q : Holding) (a b : Bool) → (a ≡ true → AreParts h p)
    → (b ≡ true → AreParts h q) → (a ≡ true → b ≡ true → AreParts p q)
    → AllPairs AreParts (h ∷ cond a (p ∷ []) [] ++ cond b (q ∷ []) [])
parts_paired h p q true true first second third =
    AllPairs-cons AreParts h (p ∷ q ∷ [])
    (All-cons (AreParts h) p (q ∷ []) (first refl)
    (All-cons (AreParts h) q [] (second refl) (All-nil (AreParts h))))
    (two_paired p q (third refl refl))
parts_paired h p q true false first second third = two_paired h p (first refl)
parts_paired h p q false true first second third = two_paired h q (second refl)
parts_paired h p q false false first second third = one_paired h

passed : (b : Bool) (v : Option ℤ) → IsSome (cond b v None) → b ≡ true
passed true v some = refl
passed false v some = absurd (let no_way : false ≡ true = some in cc)

-- what a part that is given back holds is in its extent
given_in : (e : Extent) (t : Table) (i j : ℤ) → IsSome (cell_at (part_of_table e t) i j)
    → HasCell e i j
given_in e t i j some =
    by_extent e (passed (cells_in e i j) (cell_at (all_of_table t) i j)
    (subst IsSome (cell_at-held_where (λ q. cells_in e q.0 q.1) (all_of_table t) i j) some))
  where
    by_extent : (d : Extent) → cells_in d i j ≡ true → HasCell d i j
    by_extent Wholly is = tt
    by_extent (Has test) is = is
    by_extent Unknown is = absurd (let no_way : false ≡ true = is in cc)

-- and what is held of a table, where that is known
held_in : (e : Extent) (h : Holding) (t : Table) (i j : ℤ) → IsKnown e → IsShown e h t
    → IsSome (cell_at h i j) → HasCell e i j
held_in Wholly h t i j known shown some = tt
held_in (Has test) h t i j known shown some =
    second_true (has_cell t i j) (test i j)
    (passed (has_cell t i j && test i j) (Some (cell_of t i j))
    (subst IsSome (shown.cells i j) some))
held_in Unknown h t i j known shown some = absurd known

module _ (vs : List Variable) (middle : ℤ) where
  rest_or_left : {md : Mode} {cut : TableCut} → CutAs vs middle true md cut → (e : Extent)
      (i j : ℤ) → HasCell (rest_extent cut e) i j → HasCell (left_extent cut e) i j → ⊥
  rest_or_left (by_rows x) e i j rest left =
      absurd (let no_way : false ≡ true = narrowed_passes (λ a b. false) e i j rest in cc)
  rest_or_left (by_cells k x) e i j rest left =
      not_true (int_eq i (line_value k vs))
      (first_true (int_eq i (line_value k vs)) (int_lt j middle)
      (narrowed_passes (λ a b. int_eq a (line_value k vs) && int_lt b middle) e i j left))
      (narrowed_passes (λ a b. not (int_eq a (line_value k vs))) e i j rest)

  rest_or_child : {md : Mode} {cut : TableCut} → CutAs vs middle true md cut → (e : Extent)
      (i j : ℤ) → HasCell (rest_extent cut e) i j → HasCell (child_extent cut e) i j → ⊥
  rest_or_child (by_rows x) e i j rest child =
      absurd (let no_way : false ≡ true = narrowed_passes (λ a b. false) e i j rest in cc)
  rest_or_child (by_cells k x) e i j rest child =
      not_true (int_eq i (line_value k vs))
      (first_true (int_eq i (line_value k vs)) (not (int_lt j middle))
      (narrowed_passes (λ a b. int_eq a (line_value k vs) && not (int_lt b middle)) e i j child))
      (narrowed_passes (λ a b. not (int_eq a (line_value k vs))) e i j rest)

  left_or_child : {md : Mode} {cut : TableCut} → CutAs vs middle true md cut → (e : Extent)
      (i j : ℤ) → HasCell (left_extent cut e) i j → HasCell (child_extent cut e) i j → ⊥
  left_or_child (by_rows x) e i j left child =
      not_true (int_lt i middle) (narrowed_passes (λ a b. int_lt a middle) e i j left)
      (narrowed_passes (λ a b. not (int_lt a middle)) e i j child)
  left_or_child (by_cells k x) e i j left child =
      not_true (int_lt j middle)
      (second_true (int_eq i (line_value k vs)) (int_lt j middle)
      (narrowed_passes (λ a b. int_eq a (line_value k vs) && int_lt b middle) e i j left))
      (second_true (int_eq i (line_value k vs)) (not (int_lt j middle))
      (narrowed_passes (λ a b. int_eq a (line_value k vs) && not (int_lt b middle)) e i j child))

  module _ {md : Mode} {cut : TableCut} (as_cut : CutAs vs middle true md cut) (e : Extent)
      (known : IsKnown e) (h : Holding) (old low up : Table)
      (rest : IsShown (rest_extent cut e) h old) where
    abbrev left_part : Holding
    left_part = part_of_table (left_extent cut e) low

    abbrev child_part : Holding
    child_part = part_of_table (child_extent cut e) up

    same_rows : h.rows ≡ old.rows
    same_rows = (size_shown (rest_extent cut e) h old rest).rows

    same_cols : h.cols ≡ old.cols
    same_cols = (size_shown (rest_extent cut e) h old rest).cols

    -- the rest, the left and the child of a carried table have no cell in common
    pub rest_and_left : low.rows ≡ old.rows → low.cols ≡ old.cols → AreParts h left_part
    rest_and_left rows cols = record {
      size = (same_rows ∙ sym rows, same_cols ∙ sym cols);
      apart = λ common. rest_or_left as_cut e common.0 common.1
          (held_in (rest_extent cut e) h old common.0 common.1
          (rest_known vs middle as_cut e known) rest common.2)
          (given_in (left_extent cut e) low common.0 common.1 common.3);
    }

    pub rest_and_child : up.rows ≡ old.rows → up.cols ≡ old.cols → AreParts h child_part
    rest_and_child rows cols = record {
      size = (same_rows ∙ sym rows, same_cols ∙ sym cols);
      apart = λ common. rest_or_child as_cut e common.0 common.1
          (held_in (rest_extent cut e) h old common.0 common.1
          (rest_known vs middle as_cut e known) rest common.2)
          (given_in (child_extent cut e) up common.0 common.1 common.3);
    }

    pub left_and_child : low.rows ≡ old.rows → low.cols ≡ old.cols → up.rows ≡ old.rows
        → up.cols ≡ old.cols → AreParts left_part child_part
    left_and_child rows cols up_rows up_cols = record {
      size = (rows ∙ sym up_rows, cols ∙ sym up_cols);
      apart = λ common. left_or_child as_cut e common.0 common.1
          (given_in (left_extent cut e) low common.0 common.1 common.2)
          (given_in (child_extent cut e) up common.0 common.1 common.3);
    }
