-- What the parts of a `par` that was cut hold of one table, put together, is what the whole `par`
-- leaves in it.
use Rattle.std.proofs.Common.{◌≡◌, ◌*◌, Bool, true, false, not, cond, List}
use Rattle.std.proofs.Common.{length, refl, sym, ◌∙◌}
use Rattle.std.specs.Ordering.{int_eq}
use Rattle.std.specs.Prelude.{ℤ, ◌&&◌, ◌||◌, int_lt}
use Rattle.slices.specs.Holding.{Holding, together}
use Rattle.tp_value.specs.declared.Table.{Table}
use Rattle.loop_meaning.specs.declared.value.Variable.{Variable}
use Rattle.tpal_machine.specs.declared.cut.TableCut.{TableCut}
use Rattle.frame_machine.specs.Modes.{Mode}
use Rattle.frame_machine.specs.Parts.{AgreeAt, Below, From, SeenAt}
use Rattle.frame_machine.specs.Parts.{WrittenAt, line_value}
use Rattle.scene_laws.proofs.Merges.JoinsModes.{CutAs, by_cells, by_rows, first_true, is_below}
use Rattle.scene_laws.proofs.Merges.JoinsModes.{is_closed}
use Rattle.scene_laws.proofs.Merges.JoinsModes.{is_from, is_read, is_row, narrowed_passes}
use Rattle.scene_laws.proofs.Merges.JoinsModes.{not_true}
use Rattle.scene_laws.proofs.Merges.JoinsModes.{row_is, second_true}
use Rattle.scene_laws.proofs.Cuts.Parts.{child_extent, joined_shown, left_extent, part_of_table}
use Rattle.scene_laws.proofs.Cuts.Parts.{part_other, part_shown, rest_extent}
use Rattle.scene_laws.proofs.Scenes.Regions.{Extent, Has, HasCell, IsShown, Unknown}
use Rattle.scene_laws.proofs.Scenes.Regions.{Wholly, size_shown}

-- ---- one table

-- what is held of a table is held of another one that agrees with it there
pub shown_where : (e : Extent) (A : ℤ → ℤ → Type 0) (h : Holding) (t u : Table) → AgreeAt A t u
    → ((i j : ℤ) → HasCell e i j → A i j) → IsShown e h t → IsShown e h u
shown_where Wholly A h t u agree inside shown =
    part_other (λ i j. true) h t u agree.rows agree.cols agree.size
    (λ i j has passes. agree.cells i j (inside i j tt) has) shown
shown_where (Has test) A h t u agree inside shown =
    part_other test h t u agree.rows agree.cols agree.size
    (λ i j has passes. agree.cells i j (inside i j passes) has) shown
shown_where Unknown A h t u agree inside shown = record {
  rows = shown.rows ∙ sym agree.rows;
  cols = shown.cols ∙ sym agree.cols;
  full = rw (agree.rows, agree.cols) (agree.size ∙ shown.full);
}

module _ (vs : List Variable) (middle : ℤ) where
  -- no iteration writes what the rest has of a table
  pub rest_spared : {b : Bool} {md : Mode} {cut : TableCut} → CutAs vs middle b md cut → (e : Extent)
      (i j : ℤ) → HasCell (rest_extent cut e) i j → (P : ℤ → Type 0) → WrittenAt P vs md i j → ⊥
  rest_spared is_read e i j has P written = written
  rest_spared is_closed e i j has P written = written
  rest_spared (by_rows x) e i j has P written =
      absurd (let no_way : false ≡ true = narrowed_passes (λ a b. false) e i j has in cc)
  rest_spared (by_cells k x) e i j has P written =
      not_true (int_eq i (line_value k vs)) (row_is i (line_value k vs) written.0)
      (narrowed_passes (λ a b. not (int_eq a (line_value k vs))) e i j has)

  -- the upper iterations don't write what the left has
  left_spared : {b : Bool} {md : Mode} {cut : TableCut} → CutAs vs middle b md cut → (e : Extent)
      (i j : ℤ) → HasCell (left_extent cut e) i j → WrittenAt (From middle) vs md i j → ⊥
  left_spared is_read e i j has written = written
  left_spared is_closed e i j has written = written
  left_spared (by_rows x) e i j has written =
      is_below i middle (narrowed_passes (λ a b. int_lt a middle) e i j has) written
  left_spared (by_cells k x) e i j has written =
      is_below j middle (second_true (int_eq i (line_value k vs)) (int_lt j middle)
      (narrowed_passes (λ a b. int_eq a (line_value k vs) && int_lt b middle) e i j has)) written.1

  -- and may read what the child has
  child_seen : {md : Mode} {cut : TableCut} → CutAs vs middle true md cut → (e : Extent)
      (i j : ℤ) → HasCell (child_extent cut e) i j → SeenAt (From middle) vs md i j
  child_seen (by_rows x) e i j has =
      is_from i middle (narrowed_passes (λ a b. not (int_lt a middle)) e i j has)
  child_seen (by_cells k x) e i j has =
      let passes : (int_eq i (line_value k vs) && not (int_lt j middle)) ≡ true =
      narrowed_passes (λ a b. int_eq a (line_value k vs) && not (int_lt b middle)) e i j has in (
        is_row i (line_value k vs)
            (first_true (int_eq i (line_value k vs)) (not (int_lt j middle)) passes),
        is_from j middle
            (second_true (int_eq i (line_value k vs)) (not (int_lt j middle)) passes),
      )

  -- the three parts of a carried table are all that was held of it
  parts_again : {md : Mode} {cut : TableCut} → CutAs vs middle true md cut → (e : Extent)
      (h l r : Holding) (t : Table) → IsShown (rest_extent cut e) h t
      → IsShown (left_extent cut e) l t → IsShown (child_extent cut e) r t
      → IsShown e (together (together h l) r) t
  parts_again (by_rows x) e h l r t rest left right =
      joined_shown (λ i j. false) (λ i j. int_lt i middle) (λ i j. not (int_lt i middle))
      (λ i j. either (int_lt i middle)) e h l r t rest left right
    where
      either : (b : Bool) → (false || b || not b) ≡ true
      either true = refl
      either false = refl
  parts_again (by_cells k x) e h l r t rest left right =
      joined_shown (λ i j. not (int_eq i (line_value k vs)))
      (λ i j. int_eq i (line_value k vs) && int_lt j middle)
      (λ i j. int_eq i (line_value k vs) && not (int_lt j middle))
      (λ i j. either (int_eq i (line_value k vs)) (int_lt j middle)) e h l r t rest left right
    where
      either : (a b : Bool) → (not a || (a && b) || (a && not b)) ≡ true
      either true true = refl
      either true false = refl
      either false b = refl

  -- the rest has all of a table that isn't carried
  rest_all : {md : Mode} {cut : TableCut} → CutAs vs middle false md cut → (e : Extent)
      (h : Holding) (t : Table) → IsShown (rest_extent cut e) h t → IsShown e h t
  rest_all is_read e h t shown = shown
  rest_all is_closed e h t shown = shown

  module _ (e : Extent) (h : Holding) (old low up whole : Table) (md : Mode) (cut : TableCut)
      (below : AgreeAt (λ i j. WrittenAt (Below middle) vs md i j → ⊥) old low)
      (above : AgreeAt (λ i j. WrittenAt (From middle) vs md i j → ⊥) low whole)
      (seen : AgreeAt (SeenAt (From middle) vs md) up whole)
      (rest : IsShown (rest_extent cut e) h old) where
    rest_whole : {b : Bool} → CutAs vs middle b md cut → IsShown (rest_extent cut e) h whole
    rest_whole as_cut =
        shown_where (rest_extent cut e) (λ i j. WrittenAt (From middle) vs md i j → ⊥) h low whole
        above (λ i j has. rest_spared as_cut e i j has (From middle))
        (shown_where (rest_extent cut e) (λ i j. WrittenAt (Below middle) vs md i j → ⊥) h old low
        below (λ i j has. rest_spared as_cut e i j has (Below middle)) rest)

    full_low : length low.cells ≡ low.rows * low.cols
    full_low =
        rw (below.rows, below.cols) (below.size ∙ (size_shown (rest_extent cut e) h old rest).full)

    full_up : length up.cells ≡ up.rows * up.cols
    full_up =
        let whole_full : length whole.cells ≡ whole.rows * whole.cols =
        rw (above.rows, above.cols) (above.size ∙ full_low) in
        rw (sym seen.rows, sym seen.cols) (sym seen.size ∙ whole_full)

    -- of a table the parts that the sides give back, put to that of the rest, are what was held, if
    -- it is carried
    pub one_table : (b : Bool) → CutAs vs middle b md cut
        → IsShown e (cond b (together (together h (part_of_table (left_extent cut e) low))
        (part_of_table (child_extent cut e) up)) h) whole
    one_table true as_cut =
        parts_again as_cut e h (part_of_table (left_extent cut e) low)
        (part_of_table (child_extent cut e) up) whole (rest_whole as_cut)
        (shown_where (left_extent cut e) (λ i j. WrittenAt (From middle) vs md i j → ⊥)
        (part_of_table (left_extent cut e) low) low whole above (left_spared as_cut e)
        (part_shown low (left_extent cut e) full_low))
        (shown_where (child_extent cut e) (SeenAt (From middle) vs md)
        (part_of_table (child_extent cut e) up) up whole seen (child_seen as_cut e)
        (part_shown up (child_extent cut e) full_up))
    one_table false as_cut = rest_all as_cut e h whole (rest_whole as_cut)
