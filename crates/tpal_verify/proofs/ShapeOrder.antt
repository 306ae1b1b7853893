-- The order of shapes, their joins, and what changes of shapes keep of the order.
use Rattle.std.proofs.Common.{◌≡◌, ℕ, refl, sym, subst}
use Rattle.std.proofs.lemmas.Bool.{false≢true}
use Rattle.std.specs.Prelude.{Bool, true, false, ◌&&◌, ◌==◌, if◌then◌else◌, map, slice_index_or}
use Rattle.tpal_verify.specs.declared.kinds.Kind.{Kind}
use Rattle.tpal_verify.specs.declared.kinds.Kind.TheVariants.{Number, Empty, Own, Back, Any}
use Rattle.tpal_verify.specs.declared.kinds.EndFact.{EndFact}
use Rattle.tpal_verify.specs.declared.kinds.EndFact.TheVariants.{Root, Side, Either}
use Rattle.tpal_verify.specs.declared.kinds.MarkFact.{MarkFact}
use Rattle.tpal_verify.specs.declared.kinds.MarkFact.TheVariants.{Marked, Clear}
use Rattle.tpal_verify.specs.Kinds.{is_root, end_below, mark_below, grant_below, met_below, parted, kept, unmet}
use Rattle.tpal_verify.specs.Shapes.{Shape, kinds_below, shape_below, joined, kind_at, cell_at, with_kind, with_cell, with_mark, handler_shape, root_shape, side_shape, left_shape, child_shape, behind_shape}
use Rattle.tpal_verify.proofs.Order.{and_left, and_right, and_both, KindBelow, same, to_any, own_up, nil_up, KindsBelow, kinds_of, are_below, kinds_same, kinds_trans, kinds_as, kinds_at, kinds_set, set_above, set_under, kinds_map, kinds_left, kinds_right, kinds_least, end_same, end_trans, end_root, end_left, end_right, end_least, mark_same, mark_trans, mark_left, mark_right, mark_least, grant_same, grant_trans, grant_left, grant_right, grant_least, met_same, met_trans, met_left, met_right, met_least}

-- what is known by the second shape holds by the first
pub record Below (s t : Shape) : Type 0 where
  pub registers : KindsBelow s.at_end s.registers t.registers
  pub cells : KindsBelow s.at_end s.cells t.cells
  pub at_end : end_below s.at_end t.at_end ≡ true
  pub mark : mark_below s.mark t.mark ≡ true
  pub granted : grant_below s.granted t.granted ≡ true
  pub met : met_below s.met t.met ≡ true

module _ (s t : Shape) where
  abbrev a : Bool
  a = kinds_below s.at_end s.registers t.registers

  abbrev b : Bool
  b = kinds_below s.at_end s.cells t.cells

  abbrev c : Bool
  c = end_below s.at_end t.at_end

  abbrev d : Bool
  d = mark_below s.mark t.mark

  abbrev e : Bool
  e = grant_below s.granted t.granted

  abbrev f : Bool
  f = met_below s.met t.met

  pub shape_of : shape_below s t ≡ true → Below s t
  shape_of q =
      let five = and_left (a && b && c && d && e) f q in
      let four = and_left (a && b && c && d) e five in
      let three = and_left (a && b && c) d four in
      let two = and_left (a && b) c three in
      record {
        registers = kinds_of s.at_end s.registers t.registers (and_left a b two);
        cells = kinds_of s.at_end s.cells t.cells (and_right a b two);
        at_end = and_right (a && b) c three;
        mark = and_right (a && b && c) d four;
        granted = and_right (a && b && c && d) e five;
        met = and_right (a && b && c && d && e) f q;
      }

  pub is_shape_below : Below s t → shape_below s t ≡ true
  is_shape_below w =
      let two = and_both a b (are_below s.at_end s.registers t.registers w.registers) (are_below s.at_end s.cells t.cells w.cells) in
      let three = and_both (a && b) c two w.at_end in
      let four = and_both (a && b && c) d three w.mark in
      let five = and_both (a && b && c && d) e four w.granted in
      and_both (a && b && c && d && e) f five w.met

-- ---- the order is one, and joins are least

pub below_same : (s : Shape) → Below s s
below_same s = record {
  registers = kinds_same s.at_end s.registers;
  cells = kinds_same s.at_end s.cells;
  at_end = end_same s.at_end;
  mark = mark_same s.mark;
  granted = grant_same s.granted;
  met = met_same s.met;
}

pub trans : (s t u : Shape) → Below s t → Below t u → Below s u
trans s t u x y = record {
  registers = kinds_trans s.at_end t.at_end s.registers t.registers u.registers (end_root s.at_end t.at_end x.at_end) x.registers y.registers;
  cells = kinds_trans s.at_end t.at_end s.cells t.cells u.cells (end_root s.at_end t.at_end x.at_end) x.cells y.cells;
  at_end = end_trans s.at_end t.at_end u.at_end x.at_end y.at_end;
  mark = mark_trans s.mark t.mark u.mark x.mark y.mark;
  granted = grant_trans s.granted t.granted u.granted x.granted y.granted;
  met = met_trans s.met t.met u.met x.met y.met;
}

pub join_left : (s t : Shape) → Below s (joined s t)
join_left s t = record {
  registers = kinds_left s.at_end t.at_end s.registers t.registers;
  cells = kinds_left s.at_end t.at_end s.cells t.cells;
  at_end = end_left s.at_end t.at_end;
  mark = mark_left s.mark t.mark;
  granted = grant_left s.granted t.granted;
  met = met_left s.met t.met;
}

pub join_right : (s t : Shape) → Below t (joined s t)
join_right s t = record {
  registers = kinds_right s.at_end t.at_end s.registers t.registers;
  cells = kinds_right s.at_end t.at_end s.cells t.cells;
  at_end = end_right s.at_end t.at_end;
  mark = mark_right s.mark t.mark;
  granted = grant_right s.granted t.granted;
  met = met_right s.met t.met;
}

pub join_least : (s t u : Shape) → Below s u → Below t u → Below (joined s t) u
join_least s t u x y = record {
  registers = kinds_least s.at_end t.at_end s.registers t.registers u.registers x.registers y.registers;
  cells = kinds_least s.at_end t.at_end s.cells t.cells u.cells x.cells y.cells;
  at_end = end_least s.at_end t.at_end u.at_end x.at_end y.at_end;
  mark = mark_least s.mark t.mark u.mark x.mark y.mark;
  granted = grant_least s.granted t.granted u.granted x.granted y.granted;
  met = met_least s.met t.met u.met x.met y.met;
}

-- ---- reading

pub kind_at_below : (s t : Shape) (r : ℕ) → Below s t → KindBelow s.at_end (kind_at s r) (kind_at t r)
kind_at_below s t r w = by (r == 31)
  where
    by : (b : Bool) → KindBelow s.at_end (if b then Number else slice_index_or s.registers r Any) (if b then Number else slice_index_or t.registers r Any)
    by true = same Number
    by false = kinds_at s.at_end s.registers t.registers r w.registers

pub cell_at_below : (s t : Shape) (c : ℕ) → Below s t → KindBelow s.at_end (cell_at s c) (cell_at t c)
cell_at_below s t c w = kinds_at s.at_end s.cells t.cells c w.cells

-- a kind that isn't that of r31 stands in the list
pub in_list : (s : Shape) (r : ℕ) (k : Kind) → kind_at s r ≡ k → (Number ≡ k → ⊥) → slice_index_or s.registers r Any ≡ k
in_list s r k q n = by (r == 31) q
  where
    by : (b : Bool) → (if b then Number else slice_index_or s.registers r Any) ≡ k → slice_index_or s.registers r Any ≡ k
    by true z = absurd (n z)
    by false z = z

-- ---- changes of both shapes

pub kind_below_set : (s t : Shape) (r : ℕ) (j k : Kind) → KindBelow s.at_end j k → Below s t → Below (with_kind s r j) (with_kind t r k)
kind_below_set s t r j k b w = record {
  registers = kinds_set s.at_end s.registers t.registers r j k b w.registers;
  cells = w.cells;
  at_end = w.at_end;
  mark = w.mark;
  granted = w.granted;
  met = w.met;
}

pub cell_below_set : (s t : Shape) (r : ℕ) (j k : Kind) → KindBelow s.at_end j k → Below s t → Below (with_cell s r j) (with_cell t r k)
cell_below_set s t r j k b w = record {
  registers = w.registers;
  cells = kinds_set s.at_end s.cells t.cells r j k b w.cells;
  at_end = w.at_end;
  mark = w.mark;
  granted = w.granted;
  met = w.met;
}

pub mark_below_set : (s t : Shape) (m : MarkFact) → Below s t → Below (with_mark s m) (with_mark t m)
mark_below_set s t m w = record {
  registers = w.registers;
  cells = w.cells;
  at_end = w.at_end;
  mark = mark_same m;
  granted = w.granted;
  met = w.met;
}

parted_below : (e f : EndFact) (j k : Kind) → KindBelow e j k → KindBelow f (parted j) (parted k)
parted_below e f _ _ (same k) = same (parted k)
parted_below e f _ _ (to_any k) = to_any (parted k)
parted_below e f _ _ own_up = same Any
parted_below e f _ _ (nil_up q) = to_any Empty

kept_below : (e : EndFact) (j k : Kind) → KindBelow e j k → KindBelow e (kept j) (kept k)
kept_below e _ _ (same k) = same (kept k)
kept_below e _ _ (to_any k) = to_any (kept k)
kept_below e _ _ own_up = own_up
kept_below e _ _ (nil_up q) = nil_up q

unmet_below : (e : EndFact) (j k : Kind) → KindBelow e j k → KindBelow e (unmet j) (unmet k)
unmet_below e _ _ (same k) = same (unmet k)
unmet_below e _ _ (to_any k) = to_any (unmet k)
unmet_below e _ _ own_up = own_up
unmet_below e _ _ (nil_up q) = nil_up q

pub handler_below : (s t : Shape) (h : ℕ) → Below s t → Below (handler_shape h s) (handler_shape h t)
handler_below s t h w = record {
  registers = kinds_set s.at_end s.registers t.registers 30 (Back h) (Back h) (same (Back h)) w.registers;
  cells = w.cells;
  at_end = w.at_end;
  mark = mark_same Marked;
  granted = grant_same true;
  met = w.met;
}

pub left_below : (s t : Shape) (r : ℕ) → Below s t → Below (left_shape r s) (left_shape r t)
left_below s t r w = record {
  registers = kinds_set Side (map parted s.registers) (map parted t.registers) r Own Own (same Own) (kinds_map s.at_end Side parted s.registers t.registers (parted_below s.at_end Side) w.registers);
  cells = kinds_map s.at_end Side parted s.cells t.cells (parted_below s.at_end Side) w.cells;
  at_end = refl;
  mark = w.mark;
  granted = refl;
  met = refl;
}

pub child_below : (s t : Shape) (r : ℕ) → Below s t → Below (child_shape r s) (child_shape r t)
child_below s t r w = mark_below_set (left_shape r s) (left_shape r t) Clear (left_below s t r w)

pub behind_below : (s t : Shape) → Below s t → Below (behind_shape s) (behind_shape t)
behind_below s t w = record {
  registers = kinds_map s.at_end s.at_end unmet s.registers t.registers (unmet_below s.at_end) w.registers;
  cells = kinds_map s.at_end s.at_end unmet s.cells t.cells (unmet_below s.at_end) w.cells;
  at_end = w.at_end;
  mark = w.mark;
  granted = w.granted;
  met = refl;
}

pub cells_kept : (s t : Shape) → Below s t → KindsBelow s.at_end (map kept s.cells) (map kept t.cells)
cells_kept s t w = kinds_map s.at_end s.at_end kept s.cells t.cells (kept_below s.at_end) w.cells

-- ---- what a test of a register against nil shows

not_root_side : is_root Side ≡ true → ⊥
not_root_side q = false≢true q

-- of both
pub root_below : (s t : Shape) (r : ℕ) → Below s t → Below (root_shape r s) (root_shape r t)
root_below s t r w = record {
  registers = kinds_set Root s.registers t.registers r Empty Empty (same Empty) (kinds_as s.at_end Root s.registers t.registers (λ _. refl) w.registers);
  cells = kinds_as s.at_end Root s.cells t.cells (λ _. refl) w.cells;
  at_end = refl;
  mark = w.mark;
  granted = w.granted;
  met = w.met;
}

pub side_below : (s t : Shape) (r : ℕ) → (is_root s.at_end ≡ true → ⊥) → Below s t → Below (side_shape r s) (side_shape r t)
side_below s t r n w = record {
  registers = kinds_set Side s.registers t.registers r Own Own (same Own) (kinds_as s.at_end Side s.registers t.registers (λ q. absurd (n q)) w.registers);
  cells = kinds_as s.at_end Side s.cells t.cells (λ q. absurd (n q)) w.cells;
  at_end = refl;
  mark = w.mark;
  granted = w.granted;
  met = w.met;
}

-- of the upper one alone
pub root_above : (s t : Shape) (r : ℕ) → s.at_end ≡ Root → slice_index_or s.registers r Any ≡ Empty → Below s t → Below s (root_shape r t)
root_above s t r q k w = record {
  registers = set_above s.at_end s.registers t.registers r Empty (subst (λ x. KindBelow s.at_end x Empty) (sym k) (same Empty)) w.registers;
  cells = w.cells;
  at_end = subst (λ x. end_below x Root ≡ true) (sym q) refl;
  mark = w.mark;
  granted = w.granted;
  met = w.met;
}

pub side_above : (s t : Shape) (r : ℕ) → s.at_end ≡ Side → slice_index_or s.registers r Any ≡ Own → Below s t → Below s (side_shape r t)
side_above s t r q k w = record {
  registers = set_above s.at_end s.registers t.registers r Own (subst (λ x. KindBelow s.at_end x Own) (sym k) (same Own)) w.registers;
  cells = w.cells;
  at_end = subst (λ x. end_below x Side ≡ true) (sym q) refl;
  mark = w.mark;
  granted = w.granted;
  met = w.met;
}

-- of the lower one alone
root_end : (e f : EndFact) → (e ≡ Side → ⊥) → end_below e f ≡ true → end_below Root f ≡ true
root_end Root f n q = q
root_end Side f n q = absurd (n refl)
root_end Either Root n q = absurd (false≢true q)
root_end Either Side n q = absurd (false≢true q)
root_end Either Either n q = refl

side_end : (e f : EndFact) → (e ≡ Root → ⊥) → end_below e f ≡ true → end_below Side f ≡ true
side_end Side f n q = q
side_end Root f n q = absurd (n refl)
side_end Either Root n q = absurd (false≢true q)
side_end Either Side n q = absurd (false≢true q)
side_end Either Either n q = refl

root_is : (e : EndFact) → is_root e ≡ true → e ≡ Root
root_is Root q = refl
root_is Side q = absurd (false≢true q)
root_is Either q = absurd (false≢true q)

pub root_under : (s t : Shape) (r : ℕ) → (s.at_end ≡ Side → ⊥) → slice_index_or t.registers r Any ≡ Any → Below s t → Below (root_shape r s) t
root_under s t r n k w = record {
  registers = set_under Root s.registers t.registers r Empty (subst (λ x. KindBelow Root Empty x) (sym k) (to_any Empty)) (kinds_as s.at_end Root s.registers t.registers (λ _. refl) w.registers);
  cells = kinds_as s.at_end Root s.cells t.cells (λ _. refl) w.cells;
  at_end = root_end s.at_end t.at_end n w.at_end;
  mark = w.mark;
  granted = w.granted;
  met = w.met;
}

pub side_under : (s t : Shape) (r : ℕ) → (s.at_end ≡ Root → ⊥) → slice_index_or t.registers r Any ≡ Any → Below s t → Below (side_shape r s) t
side_under s t r n k w = record {
  registers = set_under Side s.registers t.registers r Own (subst (λ x. KindBelow Side Own x) (sym k) (to_any Own)) (kinds_as s.at_end Side s.registers t.registers (λ q. absurd (n (root_is s.at_end q))) w.registers);
  cells = kinds_as s.at_end Side s.cells t.cells (λ q. absurd (n (root_is s.at_end q))) w.cells;
  at_end = side_end s.at_end t.at_end n w.at_end;
  mark = w.mark;
  granted = w.granted;
  met = w.met;
}
