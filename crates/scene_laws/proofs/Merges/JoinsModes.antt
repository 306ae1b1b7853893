-- What the parts of a `par` that is cut may do with each table, against how the cut parts it: each
-- part holds what it may read.
use Rattle.std.proofs.Common.{◌≡◌, ℕ, Bool, true, false, not, cond, List, [], ◌∷◌, bytes_eq, refl}
use Rattle.std.proofs.Common.{subst, arith, ◌∙◌}
use Rattle.std.proofs.lemmas.Bool.Decides.{Decides-int_eq}
use Rattle.std.proofs.lemmas.Int.{ints}
use Rattle.std.proofs.lemmas.Slice.Eq.{bytes_eq-Decides}
use Rattle.std.specs.List.{AllByRecursion}
use Rattle.std.specs.Ordering.{int_eq}
use Rattle.std.specs.Prelude.{ℤ, ◌&&◌, ◌||◌, ◌≤ℤ◌, ◌<ℤ◌, int_lt, pos, ⊤, ◌+ℤ◌}
use Rattle.loop_syntax.specs.declared.Carry.{Carry}
use Rattle.loop_syntax.specs.declared.Carry.TheVariants as carry
use Rattle.loop_syntax.specs.declared.RowAt.TheVariants as row
use Rattle.loop_meaning.specs.declared.value.Variable.{Variable}
use Rattle.tpal_machine.specs.declared.cut.TableCut.{TableCut}
use Rattle.tpal_machine.specs.declared.cut.TableCut.TheVariants.{ByRows, ByCells, Whole}
use Rattle.frame_machine.specs.Modes as mode
use Rattle.frame_machine.specs.Modes.{Fixed, Line, Mode, Modes, Named, demoted, inner_modes}
use Rattle.frame_machine.specs.Parts.{line_value, Below, Cells, From, NotesKeep, SeenAt, WrittenAt}
use Rattle.loop_syntax.specs.declared.ParLoop.{ParLoop}
use Rattle.loop_syntax.specs.declared.Program.{Program}
use Rattle.loop_syntax.specs.declared.Reduce.{Reduce}
use Rattle.loop_meaning.specs.State.{Note, Reads, Writes, Emits, Chance, State}
use Rattle.frame_machine.specs.Iterating.{LowerSeen, LowerWritten, UpperSeen, UpperWritten}
use Rattle.frame_machine.specs.Iterating.{OnlyChances, iterations_in}
use Rattle.frame_machine.specs.Joins.{SameRound, names_of}
use Rattle.frame_machine.specs.Lawful.{Lawful, RowsFixed, modes_in}
use Rattle.frame_machine.proofs.Joining.{lower_kept, upper_kept}
use Rattle.scene_laws.proofs.Cuts.Parts.{IsKnown, child_extent, left_extent, narrowed, rest_extent}
use Rattle.scene_laws.proofs.Cuts.Parts.{shared_extent}
use Rattle.scene_laws.proofs.Scenes.Regions.{Extent, Has, HasCell, Unknown, Wholly, Covers}
use Rattle.scene_laws.proofs.Scenes.Regions.{IsWholly}
use Rattle.scene_laws.proofs.Scenes.Regions.{Region}
use Rattle.scene_laws.proofs.Cuts.Sides.{carried, cut_by, Suffices, child_region, left_region}

-- ---- modes and cuts

-- whether a table is carried
abbrev pub is_carried : List Carry → List ℕ → Bool
is_carried [] t = false
is_carried (c ∷ cs) t = bytes_eq (carried c) t || is_carried cs t

-- what the body of a `par` may do with a table, and how a cut at a number parts the table, where
-- the variables round the `par` have these values; and whether the table is carried
pub data CutAs (vs : List Variable) (middle : ℤ) : Bool → Mode → TableCut → Type 0 where
  is_read : CutAs vs middle false mode.Whole Whole
  is_closed : CutAs vs middle false mode.Closed Whole
  by_rows : (x : List ℕ) → CutAs vs middle true (mode.OwnRow x) (ByRows middle)
  by_cells : (k : Line) (x : List ℕ)
      → CutAs vs middle true (mode.OwnCell k x) (ByCells (line_value k vs) middle)

-- one carry more
cut_by_rows : (vs : List Variable) (middle : ℤ) (x : List ℕ) (b a : Bool) (md : Mode)
    (cut : TableCut) → CutAs vs middle a md cut
    → CutAs vs middle (b || a) (cond b (mode.OwnRow x) md) (cond b (ByRows middle) cut)
cut_by_rows vs middle x true a md cut as_before = by_rows x
cut_by_rows vs middle x false a md cut as_before = as_before

cut_by_cells : (vs : List Variable) (middle : ℤ) (k : Line) (x : List ℕ) (b a : Bool) (md : Mode)
    (cut : TableCut) → CutAs vs middle a md cut
    → CutAs vs middle (b || a) (cond b (mode.OwnCell k x) md)
    (cond b (ByCells (line_value k vs) middle) cut)
cut_by_cells vs middle k x true a md cut as_before = by_cells k x
cut_by_cells vs middle k x false a md cut as_before = as_before

uncarried : (vs : List Variable) (middle : ℤ) (md : Mode)
    → CutAs vs middle false (demoted md) Whole
uncarried vs middle mode.Whole = is_read
uncarried vs middle mode.Closed = is_closed
uncarried vs middle (mode.OwnRow x) = is_closed
uncarried vs middle (mode.OwnCell k x) = is_closed

pub cut_as : (vs : List Variable) (middle : ℤ) (outer : Modes) (x : List ℕ) (cs : List Carry)
    (t : List ℕ)
    → CutAs vs middle (is_carried cs t) (inner_modes cs x outer t) (cut_by vs middle cs t)
cut_as vs middle outer x [] t = uncarried vs middle (outer t)
cut_as vs middle outer x (carry.Rows u i ∷ cs) t =
    cut_by_rows vs middle x (bytes_eq u.text.items t) (is_carried cs t) (inner_modes cs x outer t)
    (cut_by vs middle cs t) (cut_as vs middle outer x cs t)
cut_as vs middle outer x (carry.Cells u (row.Var k) j ∷ cs) t =
    cut_by_cells vs middle (Named k.text.items) x (bytes_eq u.text.items t) (is_carried cs t)
    (inner_modes cs x outer t) (cut_by vs middle cs t) (cut_as vs middle outer x cs t)
cut_as vs middle outer x (carry.Cells u (row.Int n) j ∷ cs) t =
    cut_by_cells vs middle (Fixed n) x (bytes_eq u.text.items t) (is_carried cs t)
    (inner_modes cs x outer t) (cut_by vs middle cs t) (cut_as vs middle outer x cs t)

-- ---- carried tables

-- what holds of every table that is carried holds of each carry's
pub of_carries : (P : List ℕ → Type 0) (all cs : List Carry)
    → ((t : List ℕ) → is_carried cs t ≡ true → is_carried all t ≡ true)
    → ((t : List ℕ) → is_carried all t ≡ true → P t)
    → AllByRecursion (λ (c : Carry). P (carried c)) cs
of_carries P all [] among every = tt
of_carries P all (c ∷ cs) among every = (
  every (carried c)
      (among (carried c) (rw ((bytes_eq-Decides (carried c) (carried c)).1 refl) refl)),
  of_carries P all cs (λ t is. among t (later (bytes_eq (carried c) t) (is_carried cs t) is)) every,
)
  where
    later : (a b : Bool) → b ≡ true → (a || b) ≡ true
    later true b is = refl
    later false b is = is

-- and the other way round
pub each_carried : (P : List ℕ → Type 0) (cs : List Carry) (t : List ℕ)
    → AllByRecursion (λ (c : Carry). P (carried c)) cs → is_carried cs t ≡ true → P t
each_carried P [] t every is = absurd (let no_way : false ≡ true = is in cc)
each_carried P (c ∷ cs) t every is =
    go (bytes_eq (carried c) t) refl (λ more. each_carried P cs t every.1 more)
  where
    go : (b : Bool) → bytes_eq (carried c) t ≡ b → (is_carried cs t ≡ true → P t) → P t
    go true same others = subst P ((bytes_eq-Decides (carried c) t).0 same) every.0
    go false other others = others (rw other at is)

-- ---- tests of numbers and of cells

pub both_true : (a b : Bool) → a ≡ true → b ≡ true → (a && b) ≡ true
both_true a b p q = rw (p, q) refl

pub first_true : (a b : Bool) → (a && b) ≡ true → a ≡ true
first_true true b is = refl
first_true false b is = is

pub not_true : (b : Bool) → b ≡ true → not b ≡ true → ⊥
not_true true is other = absurd (let no_way : false ≡ true = other in cc)
not_true false is other = absurd (let no_way : false ≡ true = is in cc)

pub second_true : (a b : Bool) → (a && b) ≡ true → b ≡ true
second_true true b is = is
second_true false b is = absurd (let no_way : false ≡ true = is in cc)

pub narrowed_has : (test : ℤ → ℤ → Bool) (e : Extent) (i j : ℤ) → HasCell e i j → test i j ≡ true
    → HasCell (narrowed test e) i j
narrowed_has test Wholly i j has passes = passes
narrowed_has test (Has other) i j has passes = both_true (other i j) (test i j) has passes
narrowed_has test Unknown i j has passes = absurd has

pub narrowed_passes : (test : ℤ → ℤ → Bool) (e : Extent) (i j : ℤ) → HasCell (narrowed test e) i j
    → test i j ≡ true
narrowed_passes test Wholly i j has = has
narrowed_passes test (Has other) i j has = second_true (other i j) (test i j) has
narrowed_passes test Unknown i j has = absurd has

pub narrowed_known : (test : ℤ → ℤ → Bool) (e : Extent) → IsKnown e → IsKnown (narrowed test e)
narrowed_known test Wholly known = tt
narrowed_known test (Has other) known = tt
narrowed_known test Unknown known = known

pub row_is : (i k : ℤ) → i ≡ k → int_eq i k ≡ true
row_is i k same = (Decides-int_eq i k).1 same

pub below_is : (i middle : ℤ) → i <ℤ middle → int_lt i middle ≡ true
below_is i middle below = grind (arith, ints)

pub from_is : (i middle : ℤ) → middle ≤ℤ i → not (int_lt i middle) ≡ true
from_is i middle above = let is : int_lt i middle ≡ false = grind (arith, ints) in rw is refl

pub is_row : (i k : ℤ) → int_eq i k ≡ true → i ≡ k
is_row i k is = (Decides-int_eq i k).0 is

pub is_below : (i middle : ℤ) → int_lt i middle ≡ true → middle ≤ℤ i → ⊥
is_below i middle is above = absurd (grind (arith, ints))

pub is_from : (i middle : ℤ) → not (int_lt i middle) ≡ true → middle ≤ℤ i
is_from i middle is = go (int_lt i middle) refl is
  where
    go : (b : Bool) → int_lt i middle ≡ b → not b ≡ true → middle ≤ℤ i
    go true lt no_way = absurd (let other : false ≡ true = no_way in cc)
    go false lt other = grind (arith, ints)

-- ---- what the parts have of a carried table

-- what a part of a cut has of a carried table is known
pub left_known : (vs : List Variable) (middle : ℤ) {md : Mode} {cut : TableCut}
    → CutAs vs middle true md cut → (e : Extent) → IsKnown e → IsKnown (left_extent cut e)
left_known vs middle (by_rows x) e known = narrowed_known (λ a b. int_lt a middle) e known
left_known vs middle (by_cells k x) e known =
    narrowed_known (λ a b. int_eq a (line_value k vs) && int_lt b middle) e known

pub child_known : (vs : List Variable) (middle : ℤ) {md : Mode} {cut : TableCut}
    → CutAs vs middle true md cut → (e : Extent) → IsKnown e → IsKnown (child_extent cut e)
child_known vs middle (by_rows x) e known = narrowed_known (λ a b. not (int_lt a middle)) e known
child_known vs middle (by_cells k x) e known =
    narrowed_known (λ a b. int_eq a (line_value k vs) && not (int_lt b middle)) e known

pub rest_known : (vs : List Variable) (middle : ℤ) {md : Mode} {cut : TableCut}
    → CutAs vs middle true md cut → (e : Extent) → IsKnown e → IsKnown (rest_extent cut e)
rest_known vs middle (by_rows x) e known = narrowed_known (λ a b. false) e known
rest_known vs middle (by_cells k x) e known =
    narrowed_known (λ a b. not (int_eq a (line_value k vs))) e known

-- ---- enough is held

-- Enough is held of each table for the iterations from one number to below another, where the
-- variables round the loop have these values: what they may read; and wholly what they may read
-- anywhere, since the sides of a cut share a table that isn't carried where it is held wholly.
pub record Serves (outer : Modes) (l : ParLoop) (vs : List Variable) (from to : ℤ)
    (region : Region) : Type 0 where
  pub enough : Suffices outer l vs from to region
  pub whole : (t : List ℕ) → modes_in outer l t ≡ mode.Whole → IsWholly (region t)

shared_has : (e : Extent) (i j : ℤ) → IsWholly e → HasCell (shared_extent e) i j
shared_has Wholly i j whole = tt
shared_has (Has test) i j whole = absurd whole
shared_has Unknown i j whole = absurd whole

shared_whole : (e : Extent) → IsWholly e → IsWholly (shared_extent e)
shared_whole Wholly whole = tt
shared_whole (Has test) whole = absurd whole
shared_whole Unknown whole = absurd whole

-- what a part of a cut may read, it holds
left_has : (vs : List Variable) (middle : ℤ) {b : Bool} {md : Mode} {cut : TableCut}
    → CutAs vs middle b md cut → (e : Extent) (i j : ℤ) → (md ≡ mode.Whole → IsWholly e)
    → SeenAt (Below middle) vs md i j → HasCell e i j → HasCell (left_extent cut e) i j
left_has vs middle is_read e i j whole seen has = shared_has e i j (whole refl)
left_has vs middle is_closed e i j whole seen has = absurd seen
left_has vs middle (by_rows x) e i j whole seen has =
    narrowed_has (λ a b. int_lt a middle) e i j has (below_is i middle seen)
left_has vs middle (by_cells k x) e i j whole seen has =
    narrowed_has (λ a b. int_eq a (line_value k vs) && int_lt b middle) e i j has
    (both_true (int_eq i (line_value k vs)) (int_lt j middle) (row_is i (line_value k vs) seen.0)
    (below_is j middle seen.1))

child_has : (vs : List Variable) (middle : ℤ) {b : Bool} {md : Mode} {cut : TableCut}
    → CutAs vs middle b md cut → (e : Extent) (i j : ℤ) → (md ≡ mode.Whole → IsWholly e)
    → SeenAt (From middle) vs md i j → HasCell e i j → HasCell (child_extent cut e) i j
child_has vs middle is_read e i j whole seen has = shared_has e i j (whole refl)
child_has vs middle is_closed e i j whole seen has = absurd seen
child_has vs middle (by_rows x) e i j whole seen has =
    narrowed_has (λ a b. not (int_lt a middle)) e i j has (from_is i middle seen)
child_has vs middle (by_cells k x) e i j whole seen has =
    narrowed_has (λ a b. int_eq a (line_value k vs) && not (int_lt b middle)) e i j has
    (both_true (int_eq i (line_value k vs)) (not (int_lt j middle))
    (row_is i (line_value k vs) seen.0) (from_is j middle seen.1))

-- what may be read anywhere is shared
left_whole : (vs : List Variable) (middle : ℤ) {b : Bool} {md : Mode} {cut : TableCut}
    → CutAs vs middle b md cut → (e : Extent) → md ≡ mode.Whole → IsWholly e
    → IsWholly (left_extent cut e)
left_whole vs middle is_read e is whole = shared_whole e whole
left_whole vs middle is_closed e is whole =
    absurd (let no_way : mode.Closed ≡ mode.Whole = is in cc)
left_whole vs middle (by_rows x) e is whole =
    absurd (let no_way : mode.OwnRow x ≡ mode.Whole = is in cc)
left_whole vs middle (by_cells k x) e is whole =
    absurd (let no_way : mode.OwnCell k x ≡ mode.Whole = is in cc)

child_whole : (vs : List Variable) (middle : ℤ) {b : Bool} {md : Mode} {cut : TableCut}
    → CutAs vs middle b md cut → (e : Extent) → md ≡ mode.Whole → IsWholly e
    → IsWholly (child_extent cut e)
child_whole vs middle is_read e is whole = shared_whole e whole
child_whole vs middle is_closed e is whole =
    absurd (let no_way : mode.Closed ≡ mode.Whole = is in cc)
child_whole vs middle (by_rows x) e is whole =
    absurd (let no_way : mode.OwnRow x ≡ mode.Whole = is in cc)
child_whole vs middle (by_cells k x) e is whole =
    absurd (let no_way : mode.OwnCell k x ≡ mode.Whole = is in cc)

-- what iterations may read, more of them may read
seen_more : (P Q : ℤ → Type 0) → ((n : ℤ) → P n → Q n) → (vs : List Variable) (md : Mode)
    (i j : ℤ) → SeenAt P vs md i j → SeenAt Q vs md i j
seen_more P Q more vs mode.Whole i j seen = tt
seen_more P Q more vs mode.Closed i j seen = seen
seen_more P Q more vs (mode.OwnRow x) i j seen = more i seen
seen_more P Q more vs (mode.OwnCell k x) i j seen = (seen.0, more j seen.1)

module _ (outer : Modes) (l : ParLoop) (vs : List Variable) (from to : ℤ) (region : Region)
    (serves : Serves outer l vs from to region) where
  -- for fewer iterations
  pub serves_within : (first last : ℤ) → from ≤ℤ first → last ≤ℤ to
      → Serves outer l vs first last region
  serves_within first last low high = record {
    enough = record {
      cells = λ t i j up below. serves.enough.cells t i j
          (seen_more (From first) (From from) (λ n is. omega (arith, ints, is, low)) vs
          (modes_in outer l t) i j up)
          (seen_more (Below last) (Below to) (λ n is. omega (arith, ints, is, high)) vs
          (modes_in outer l t) i j below);
      known = serves.enough.known;
    };
    whole = serves.whole;
  }

  module _ (middle : ℤ) where
    as_cut : (t : List ℕ) → CutAs vs middle (is_carried l.carries.items t) (modes_in outer l t)
        (cut_by vs middle l.carries.items t)
    as_cut t = cut_as vs middle outer l.var.text.items l.carries.items t

    known_of : (t : List ℕ) → is_carried l.carries.items t ≡ true → IsKnown (region t)
    known_of t is =
        each_carried (λ u. IsKnown (region u)) l.carries.items t serves.enough.known is

    known_part : (extent : TableCut → Extent → Extent)
        → ((md : Mode) (cut : TableCut) → CutAs vs middle true md cut → (e : Extent) → IsKnown e
        → IsKnown (extent cut e)) → (t : List ℕ) → is_carried l.carries.items t ≡ true
        → IsKnown (extent (cut_by vs middle l.carries.items t) (region t))
    known_part extent keeps t is =
        keeps (modes_in outer l t) (cut_by vs middle l.carries.items t)
        (subst (λ b. CutAs vs middle b (modes_in outer l t)
        (cut_by vs middle l.carries.items t)) is (as_cut t)) (region t) (known_of t is)

    -- the left of a cut holds enough, and so does the child
    pub left_serves : middle ≤ℤ to
        → Serves outer l vs from middle (left_region vs middle l.carries.items region)
    left_serves high = record {
      enough = record {
        cells = λ t i j up below.
            left_has vs middle (as_cut t) (region t) i j (serves.whole t) below
            (serves.enough.cells t i j up
            (seen_more (Below middle) (Below to) (λ n is. omega (arith, ints, is, high)) vs
            (modes_in outer l t) i j below));
        known = of_carries
            (λ t. IsKnown (left_region vs middle l.carries.items region t)) l.carries.items
            l.carries.items (λ t is. is)
            (known_part left_extent (λ md cut way. left_known vs middle way));
      };
      whole = λ t is. left_whole vs middle (as_cut t) (region t) is (serves.whole t is);
    }

    pub upper_serves : from ≤ℤ middle
        → Serves outer l vs middle to (child_region vs middle l.carries.items region)
    upper_serves low = record {
      enough = record {
        cells = λ t i j up below.
            child_has vs middle (as_cut t) (region t) i j (serves.whole t) up
            (serves.enough.cells t i j
            (seen_more (From middle) (From from) (λ n is. omega (arith, ints, is, low)) vs
            (modes_in outer l t) i j up) below);
        known = of_carries
            (λ t. IsKnown (child_region vs middle l.carries.items region t)) l.carries.items
            l.carries.items (λ t is. is)
            (known_part child_extent (λ md cut way. child_known vs middle way));
      };
      whole = λ t is. child_whole vs middle (as_cut t) (region t) is (serves.whole t is);
    }

-- ---- other variables round the loop

-- the row of a mode is the same
abbrev LineKept : List Variable → List Variable → Mode → Type 0
LineKept vs us mode.Whole = ⊤
LineKept vs us mode.Closed = ⊤
LineKept vs us (mode.OwnRow x) = ⊤
LineKept vs us (mode.OwnCell k x) = line_value k us ≡ line_value k vs

seen_kept : (P : ℤ → Type 0) (vs us : List Variable) (md : Mode) (i j : ℤ) → LineKept vs us md
    → SeenAt P us md i j → SeenAt P vs md i j
seen_kept P vs us mode.Whole i j kept seen = tt
seen_kept P vs us mode.Closed i j kept seen = seen
seen_kept P vs us (mode.OwnRow x) i j kept seen = seen
seen_kept P vs us (mode.OwnCell k x) i j kept seen = (seen.0 ∙ kept, seen.1)

module _ (rs : List Reduce) (vs us : List Variable) (same : SameRound rs vs us) where
  line_demoted : (md : Mode) → LineKept vs us (demoted md)
  line_demoted mode.Whole = tt
  line_demoted mode.Closed = tt
  line_demoted (mode.OwnRow x) = tt
  line_demoted (mode.OwnCell k x) = tt

  line_chosen : (b : Bool) (mine md : Mode) → LineKept vs us mine → LineKept vs us md
      → LineKept vs us (cond b mine md)
  line_chosen true mine md first second = first
  line_chosen false mine md first second = second

  line_kept : (outside : List (List ℕ)) (outer : Modes) (x : List ℕ) (cs : List Carry)
      → RowsFixed outside rs cs → (t : List ℕ) → LineKept vs us (inner_modes cs x outer t)
  line_kept outside outer x [] fixed t = line_demoted (outer t)
  line_kept outside outer x (carry.Rows u i ∷ cs) fixed t =
      line_chosen (bytes_eq u.text.items t) (mode.OwnRow x) (inner_modes cs x outer t) tt
      (line_kept outside outer x cs fixed t)
  line_kept outside outer x (carry.Cells u (row.Var k) j ∷ cs) fixed t =
      line_chosen (bytes_eq u.text.items t) (mode.OwnCell (Named k.text.items) x)
      (inner_modes cs x outer t) (same.values k.text.items fixed.1)
      (line_kept outside outer x cs fixed.2 t)
  line_kept outside outer x (carry.Cells u (row.Int n) j ∷ cs) fixed t =
      line_chosen (bytes_eq u.text.items t) (mode.OwnCell (Fixed n) x) (inner_modes cs x outer t)
      refl (line_kept outside outer x cs fixed t)

-- with other variables round the loop, of which those that it doesn't reduce are the same
pub serves_round : (outer : Modes) (l : ParLoop) (outside : List (List ℕ))
    (vs us : List Variable) (from to : ℤ) (region : Region)
    → RowsFixed outside l.reduces.items l.carries.items → SameRound l.reduces.items vs us
    → Serves outer l vs from to region → Serves outer l us from to region
serves_round outer l outside vs us from to region fixed same serves = record {
  enough = record {
    cells = λ t i j up below. serves.enough.cells t i j
        (seen_kept (From from) vs us (modes_in outer l t) i j (kept t) up)
        (seen_kept (Below to) vs us (modes_in outer l t) i j (kept t) below);
    known = serves.enough.known;
  };
  whole = serves.whole;
}
  where
    kept : (t : List ℕ) → LineKept vs us (modes_in outer l t)
    kept t = line_kept l.reduces.items vs us same outside outer l.var.text.items l.carries.items
        fixed t

-- ---- what iterations note

written_seen : (P : ℤ → Type 0) (vs : List Variable) (md : Mode) (i j : ℤ)
    → WrittenAt P vs md i j → SeenAt P vs md i j
written_seen P vs mode.Whole i j written = tt
written_seen P vs mode.Closed i j written = written
written_seen P vs (mode.OwnRow x) i j written = written
written_seen P vs (mode.OwnCell k x) i j written = written

pub chances_kept : (R W : Cells) (ns : List Note) → OnlyChances ns → NotesKeep R W ns
chances_kept R W [] only = tt
chances_kept R W (Reads t i j ∷ ns) only = absurd only.0
chances_kept R W (Writes t i j ∷ ns) only = absurd only.0
chances_kept R W (Emits t ∷ ns) only = absurd only.0
chances_kept R W (Chance ∷ ns) only = (tt, chances_kept R W ns only.1)

module _ (outer : Modes) (l : ParLoop) (vs : List Variable) (from to : ℤ) (region : Region)
    (serves : Serves outer l vs from to region) where
  covers_both : (ns : List Note)
      → NotesKeep (UpperSeen outer l vs from) (UpperWritten outer l vs from) ns
      → NotesKeep (LowerSeen outer l vs to) (LowerWritten outer l vs to) ns
      → AllByRecursion (Covers region) ns
  covers_both [] up low = tt
  covers_both (Reads t i j ∷ ns) up low =
      (serves.enough.cells t i j up.0 low.0, covers_both ns up.1 low.1)
  covers_both (Writes t i j ∷ ns) up low = (
    serves.enough.cells t i j (written_seen (From from) vs (modes_in outer l t) i j up.0)
        (written_seen (Below to) vs (modes_in outer l t) i j low.0),
    covers_both ns up.1 low.1,
  )
  covers_both (Emits t ∷ ns) up low = absurd up.0
  covers_both (Chance ∷ ns) up low = (tt, covers_both ns up.1 low.1)

-- what iterations note is of cells that are held
pub covered : (p : Program) (outer : Modes) (l : ParLoop) (fuel room : ℕ) (again begin : List Note)
    (n : ℕ) (i to : ℤ) (s : State) (region : Region) → Lawful p outer (names_of s.vars) l
    → Serves outer l s.vars i to region → OnlyChances again → OnlyChances begin
    → (i +ℤ pos n) ≤ℤ to
    → AllByRecursion (Covers region) (iterations_in p fuel room l again begin n i s).notes
covered p outer l fuel room again begin n i to s region rules serves q r ends =
    covers_both outer l s.vars i to region serves
    (iterations_in p fuel room l again begin n i s).notes
    (upper_kept p outer l fuel room again begin n i i s rules
    (chances_kept (UpperSeen outer l s.vars i) (UpperWritten outer l s.vars i) again q)
    (chances_kept (UpperSeen outer l s.vars i) (UpperWritten outer l s.vars i) begin r)
    (omega (arith, ints))).notes
    (lower_kept p outer l fuel room again begin n i to s rules
    (chances_kept (LowerSeen outer l s.vars to) (LowerWritten outer l s.vars to) again q)
    (chances_kept (LowerSeen outer l s.vars to) (LowerWritten outer l s.vars to) begin r)
    ends).notes
