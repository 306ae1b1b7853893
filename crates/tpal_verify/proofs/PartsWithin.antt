-- Parts of tables: what is put together of parts of a table is a part of it.
use Rattle.std.proofs.Common.{◌≡◌, ℕ, ℤ, zero, suc, ◌+◌, List, [], ◌∷◌, Option, Some, None, refl, ap, subst, ◌∙◌, cond}
use Rattle.std.proofs.lemmas.Bool.{eqb-true, false≢true}
use Rattle.std.specs.Prelude.{Bool, true, false, not, ◌&&◌, nat_eq, int_lt, if◌then◌else◌, IsSome, slice_set}
use Rattle.std.specs.Ordering.{int_eq}
use Rattle.slices.specs.Holding.{Holding, cell_at, together, held_where, shared}
use Rattle.slices.specs.Spans.{or_else}
use Rattle.slices.proofs.JoinLaws.{cell_at-together, cell_at-held_where}
use Rattle.tp_value.specs.declared.values.Stop.{Stop}
use Rattle.tp_value.specs.declared.values.Stop.TheVariants as stop
use Rattle.tpal_syntax.specs.declared.notes.CarryAt.{CarryAt}
use Rattle.tpal_syntax.specs.Parts.{table_of}
use Rattle.tpal_machine.specs.declared.cut.TableCut.{TableCut}
use Rattle.tpal_machine.specs.declared.cut.TableCut.TheVariants.{ByRows, ByCells, Whole}
use Rattle.tpal_machine.specs.declared.ends.Goal.{Goal}
use Rattle.tpal_machine.specs.declared.ends.Goal.TheVariants as goal
use Rattle.tpal_machine.specs.declared.ends.Side.{Side}
use Rattle.tpal_machine.specs.Cut.{rest_of, left_of, child_of, is_whole, each_part, nothing_of, cut_of}
use Rattle.tpal_machine.specs.Ended.{is_done}
use Rattle.tpal_machine.specs.Merge.{WhereDone, part_in, part_of, put_together}
use Rattle.tpal_machine.specs.Reading.{table_at, the_target}
use Rattle.tpal_syntax.specs.Listing.{Listing}
use Rattle.tpal_verify.specs.Fits.{IsPartOf, ArePartsOf, SlicesArePartsOf, Promise, GoalKeeps}
use Rattle.tpal_verify.proofs.PartsApart.{no_cell, rest_size, left_size, child_size}

-- ---- parts

pub part_itself : (h : Holding) → IsPartOf h h
part_itself h = record { size = (refl, refl); within = λ row col is. is }

pub part_of_part : (a b c : Holding) → IsPartOf a b → IsPartOf b c → IsPartOf a c
part_of_part a b c p q = record {
  size = (p.size.0 ∙ q.size.0, p.size.1 ∙ q.size.1);
  within = λ row col is. q.within row col (p.within row col is);
}

passed : (b : Bool) (v : Option ℤ) → IsSome (cond b v None) → IsSome v
passed true v is = is
passed false v is = absurd (false≢true is)

-- the cells that pass a test
where_part : (test : ℤ × ℤ → Bool) (h : Holding) → IsPartOf (held_where test h) h
where_part test h = record {
  size = (refl, refl);
  within = λ row col is. passed (test (row, col)) (cell_at h row col) (subst IsSome (cell_at-held_where test h row col) is);
}

in_one : {P : Type 0} (a b : Option ℤ) → (IsSome a → P) → (IsSome b → P) → IsSome (or_else a b) → P
in_one None b f g is = g is
in_one (Some x) b f g is = f refl

both_part : (a b c : Holding) → IsPartOf a c → IsPartOf b c → IsPartOf (together a b) c
both_part a b c p q = record {
  size = p.size;
  within = λ row col is. in_one (cell_at a row col) (cell_at b row col) (p.within row col) (q.within row col) (subst IsSome (cell_at-together a b row col) is);
}

-- ---- parts of a cut

pub rest_part : (cut : TableCut) (h : Holding) → IsPartOf (rest_of cut h) h
rest_part (ByRows at) h = record { size = (refl, refl); within = λ row col is. absurd (no_cell h row col is) }
rest_part (ByCells row at) h = where_part (λ place. not (int_eq place.0 row)) h
rest_part Whole h = record { size = rest_size Whole h; within = by (is_whole h) }
  where
    by : (b : Bool) (row col : ℤ) → IsSome (cell_at (if b then shared h else h) row col) → IsSome (cell_at h row col)
    by true row col is = is
    by false row col is = is

pub left_part : (cut : TableCut) (h : Holding) → IsPartOf (left_of cut h) h
left_part (ByRows at) h = where_part (λ place. int_lt place.0 at) h
left_part (ByCells row at) h = where_part (λ place. int_eq place.0 row && int_lt place.1 at) h
left_part Whole h = record { size = left_size Whole h; within = by (is_whole h) }
  where
    by : (b : Bool) (row col : ℤ) → IsSome (cell_at (if b then shared h else nothing_of h) row col) → IsSome (cell_at h row col)
    by true row col is = is
    by false row col is = absurd (no_cell h row col is)

pub child_part : (cut : TableCut) (h : Holding) → IsPartOf (child_of cut h) h
child_part (ByRows at) h = where_part (λ place. not (int_lt place.0 at)) h
child_part (ByCells row at) h = where_part (λ place. int_eq place.0 row && not (int_lt place.1 at)) h
child_part Whole h = record { size = child_size Whole h; within = by (is_whole h) }
  where
    by : (b : Bool) (row col : ℤ) → IsSome (cell_at (if b then shared h else nothing_of h) row col) → IsSome (cell_at h row col)
    by true row col is = is
    by false row col is = absurd (no_cell h row col is)

-- ---- lists of tables

-- each table is a part of the one at its place in another list
abbrev pub AreWithin : List Holding → List Holding → Type 0
AreWithin hs bounds = (t : ℕ) → IsPartOf (table_at hs t) (table_at bounds t)

pub each_within : (part : TableCut → Holding → Holding) → ((cut : TableCut) (h : Holding) → IsPartOf (part cut h) h) → (cuts : List (ℕ × TableCut)) (u : ℕ) (hs : List Holding) → AreWithin (each_part part cuts u hs) hs
each_within part is cuts u [] t = part_itself (table_at [] t)
each_within part is cuts u (h ∷ hs) zero = is (cut_of cuts u) h
each_within part is cuts u (h ∷ hs) (suc t) = each_within part is cuts (u + 1) hs t

set_within : (hs : List Holding) (u t : ℕ) (h bound : Holding) → (u ≡ t → IsPartOf h bound) → IsPartOf (table_at hs t) bound → IsPartOf (table_at (slice_set hs u h) t) bound
set_within [] u t h bound f p = p
set_within (k ∷ hs) zero zero h bound f p = f refl
set_within (k ∷ hs) zero (suc t) h bound f p = p
set_within (k ∷ hs) (suc u) zero h bound f p = p
set_within (k ∷ hs) (suc u) (suc t) h bound f p = set_within hs u t h bound (λ q. f (ap suc q)) p

-- parts that are put together stay within
pub put_within : (hs bounds : List Holding) (ss : List (ℕ × Holding)) → AreWithin hs bounds → SlicesArePartsOf bounds ss → AreWithin (put_together hs ss) bounds
put_within hs bounds [] w are = w
put_within hs bounds (s ∷ ss) w are =
    let h = together (table_at hs s.0) s.1 in
    put_within (slice_set hs s.0 h) bounds ss
    (λ t. set_within hs s.0 t h (table_at bounds t) (λ q. subst (λ k. IsPartOf h (table_at bounds k)) q (both_part (table_at hs s.0) s.1 (table_at bounds s.0) (w s.0) are.0)) (w t)) are.1

pub slices_within : (ks bounds : List Holding) (ss : List (ℕ × Holding)) → AreWithin ks bounds → SlicesArePartsOf ks ss → SlicesArePartsOf bounds ss
slices_within ks bounds [] w are = tt
slices_within ks bounds (s ∷ ss) w are = (part_of_part s.1 (table_at ks s.0) (table_at bounds s.0) are.0 (w s.0), slices_within ks bounds ss w are.1)

pub parts_within : (bounds hs ks : List Holding) (cs : List CarryAt) → AreWithin ks hs → ArePartsOf bounds cs hs → ArePartsOf bounds cs ks
parts_within bounds hs ks [] w are = tt
parts_within bounds hs ks (c ∷ cs) w are = (part_of_part (table_at ks (table_of c)) (table_at hs (table_of c)) (table_at bounds (table_of c)) (w (table_of c)) are.0, parts_within bounds hs ks cs w are.1)

pub parts_themselves : (hs : List Holding) (cs : List CarryAt) → ArePartsOf hs cs hs
parts_themselves hs [] = tt
parts_themselves hs (c ∷ cs) = (part_itself (table_at hs (table_of c)), parts_themselves hs cs)

-- a goal's promise holds of parts of the tables
pub goal_within : (code : Listing) (promise : Promise) (g : Goal) (hs ks : List Holding) → AreWithin ks hs → GoalKeeps code promise g hs → GoalKeeps code promise g ks
goal_within code promise goal.Root hs ks w k = tt
goal_within code promise (goal.At rec side target) hs ks w k = (k.0, parts_within promise.tables hs ks (the_target code target).carries w k.1)

-- ---- parts of sides

-- no part, or one part of a bound
abbrev pub OnePartOf : Holding → List Holding → Type 0
OnePartOf bound [] = Unit {0}
OnePartOf bound (h ∷ []) = IsPartOf h bound
OnePartOf bound (h ∷ k ∷ hs) = ⊥

one_part_in : (bounds : List Holding) (ss : List (ℕ × Holding)) (t : ℕ) → SlicesArePartsOf bounds ss → OnePartOf (table_at bounds t) (part_in ss t)
one_part_in bounds [] t are = tt
one_part_in bounds (s ∷ ss) t are = by (nat_eq s.0 t) refl (one_part_in bounds ss t are.1)
  where
    by : (b : Bool) → nat_eq s.0 t ≡ b → OnePartOf (table_at bounds t) (part_in ss t) → OnePartOf (table_at bounds t) (if b then s.1 ∷ [] else part_in ss t)
    by true q later = subst (λ k. IsPartOf s.1 (table_at bounds k)) (eqb-true s.0 t q) are.0
    by false q later = later

pub one_part_of : (bounds : List Holding) (out : Side) (t : ℕ) → WhereDone out.stop (SlicesArePartsOf bounds out.slices) → OnePartOf (table_at bounds t) (part_of out t)
one_part_of bounds out t are = by out.stop are
  where
    by : (x : Stop) → WhereDone x (SlicesArePartsOf bounds out.slices) → OnePartOf (table_at bounds t) (if is_done x then part_in out.slices t else [])
    by stop.Done w = one_part_in bounds out.slices t w
    by (stop.Left number) w = tt
    by (stop.Trap kind place) w = tt
    by stop.NoFuel w = tt
