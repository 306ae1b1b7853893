-- What words of kinds are, under the changes of a step.
use Rattle.std.proofs.Common.{◌≡◌, ℕ, zero, suc, List, [], ◌∷◌, Option, Some, None, refl, sym, ap, subst, ◌∙◌}
use Rattle.std.proofs.lemmas.Bool.{eqb-true, eq-eqb, false≢true}
use Rattle.std.specs.Prelude.{Bool, true, false, ◌==◌, if◌then◌else◌, map, slice_set, slice_index_or}
use Rattle.tpal_syntax.specs.declared.instructions.Value.{Value}
use Rattle.tpal_syntax.specs.declared.instructions.Value.TheVariants.{Reg, Int, Label, Nil}
use Rattle.tpal_syntax.specs.declared.notes.Note.{Note}
use Rattle.tpal_syntax.specs.declared.notes.Note.TheVariants as note
use Rattle.tpal_syntax.specs.declared.words.Word.{Word}
use Rattle.tpal_syntax.specs.declared.words.Word.TheVariants as word
use Rattle.tpal_machine.specs.declared.ends.Goal.{Goal}
use Rattle.tpal_machine.specs.declared.ends.Goal.TheVariants as goal
use Rattle.tpal_machine.specs.declared.ends.Tie.{Tie}
use Rattle.tpal_machine.specs.Reading.{register, operand}
use Rattle.tpal_verify.specs.declared.kinds.Kind.{Kind}
use Rattle.tpal_verify.specs.declared.kinds.Kind.TheVariants.{Number, Empty, Own, Up, Pend, Met, Back, Any}
use Rattle.tpal_verify.specs.declared.kinds.EndFact.{EndFact}
use Rattle.tpal_verify.specs.declared.kinds.EndFact.TheVariants.{Root, Side, Either}
use Rattle.tpal_verify.specs.declared.kinds.MarkFact.{MarkFact}
use Rattle.tpal_verify.specs.declared.kinds.MarkFact.TheVariants.{Marked, Clear, Maybe}
use Rattle.tpal_verify.specs.Kinds.{is_root, end_below, mark_below, grant_below, met_below, parted, kept, unmet}
use Rattle.tpal_verify.specs.Shapes.{Shape, kind_at}
use Rattle.tpal_verify.specs.Flat.{Ground, is_inner, is_flat_value}
use Rattle.tpal_verify.specs.Rules.{note_at, label_kind, value_kind}
use Rattle.tpal_verify.specs.Walk.{is_ready_for}
use Rattle.tpal_verify.specs.Fits.{IsOwnWord, IsUpWord, IsNumberWord, IsOfKind, AreOfKinds, EndIs, OneMark, OneMarkOrNone, MarkIs, GrantIs, MetIs, HoldsIn}
use Rattle.tpal_verify.proofs.Order.{KindBelow, same, to_any, own_up, nil_up, KindsBelow, met_some}
use Rattle.tpal_verify.proofs.ShapeOrder.{Below}

-- ---- lists

module _ (P : Kind → Word → Type 0) where
  -- one kind and one word changed
  pub set_both : (ks : List Kind) (ws : List Word) (r : ℕ) (k : Kind) (w : Word) → P k w → AreOfKinds P ks ws → AreOfKinds P (slice_set ks r k) (slice_set ws r w)
  set_both [] ws r k w p h = tt
  set_both (a ∷ ks) [] r k w p h = absurd h
  set_both (a ∷ ks) (b ∷ ws) zero k w p h = (p, h.1)
  set_both (a ∷ ks) (b ∷ ws) (suc r) k w p h = (h.0, set_both ks ws r k w p h.1)

  -- a kind alone
  pub set_kind : (ks : List Kind) (ws : List Word) (r : ℕ) (k : Kind) → P k (register ws r) → AreOfKinds P ks ws → AreOfKinds P (slice_set ks r k) ws
  set_kind [] ws r k p h = tt
  set_kind (a ∷ ks) [] r k p h = absurd h
  set_kind (a ∷ ks) (b ∷ ws) zero k p h = (p, h.1)
  set_kind (a ∷ ks) (b ∷ ws) (suc r) k p h = (h.0, set_kind ks ws r k p h.1)

  pub kind_is : (ks : List Kind) (ws : List Word) (r : ℕ) → ((w : Word) → P Any w) → AreOfKinds P ks ws → P (slice_index_or ks r Any) (register ws r)
  kind_is [] ws r all h = all (register ws r)
  kind_is (a ∷ ks) [] r all h = absurd h
  kind_is (a ∷ ks) (b ∷ ws) zero all h = h.0
  kind_is (a ∷ ks) (b ∷ ws) (suc r) all h = kind_is ks ws r all h.1

pub all_kinds : (P Q : Kind → Word → Type 0) (f : Kind → Kind) (ks : List Kind) (ws : List Word) → ((k : Kind) (w : Word) → P k w → Q (f k) w) → AreOfKinds P ks ws → AreOfKinds Q (map f ks) ws
all_kinds P Q f [] ws g h = tt
all_kinds P Q f (k ∷ ks) [] g h = absurd h
all_kinds P Q f (k ∷ ks) (w ∷ ws) g h = (g k w h.0, all_kinds P Q f ks ws g h.1)

pub same_kinds : (P Q : Kind → Word → Type 0) (ks : List Kind) (ws : List Word) → ((k : Kind) (w : Word) → P k w → Q k w) → AreOfKinds P ks ws → AreOfKinds Q ks ws
same_kinds P Q [] ws g h = tt
same_kinds P Q (k ∷ ks) [] g h = absurd h
same_kinds P Q (k ∷ ks) (w ∷ ws) g h = (g k w h.0, same_kinds P Q ks ws g h.1)

-- ---- the order

module _ (whole : Ground) (g : Goal) (p m : Option Tie) where
  abbrev pub Of : Kind → Word → Type 0
  Of k w = IsOfKind whole g p m k w

  at_root : (e : EndFact) (h : Goal) (w : Word) → is_root e ≡ true → EndIs e h → w ≡ word.Nil → IsUpWord h w
  at_root e goal.Root w is h q = q
  at_root Root (goal.At rec side target) w is h q = absurd h
  at_root Side (goal.At rec side target) w is h q = absurd (false≢true is)
  at_root Either (goal.At rec side target) w is h q = absurd (false≢true is)

  own_is_up : (h : Goal) (w : Word) → IsOwnWord h w → IsUpWord h w
  own_is_up goal.Root w o = absurd o
  own_is_up (goal.At rec side target) w o = o

  pub kind_above : (e : EndFact) (a b : Kind) (w : Word) → EndIs e g → KindBelow e a b → Of a w → Of b w
  kind_above e _ _ w h (same k) is = is
  kind_above e _ _ w h (to_any k) is = tt
  kind_above e _ _ w h own_up is = own_is_up g w is
  kind_above e _ _ w h (nil_up r) is = at_root e g w r h is

  pub kinds_above : (e : EndFact) (xs ys : List Kind) (ws : List Word) → EndIs e g → KindsBelow e xs ys → AreOfKinds Of xs ws → AreOfKinds Of ys ws
  kinds_above e xs [] ws h b is = tt
  kinds_above e [] (y ∷ ys) ws h b is = absurd b
  kinds_above e (x ∷ xs) (y ∷ ys) [] h b is = absurd is
  kinds_above e (x ∷ xs) (y ∷ ys) (w ∷ ws) h b is = (kind_above e x y w h b.0 is.0, kinds_above e xs ys ws h b.1 is.1)

pub end_above : (a b : EndFact) (g : Goal) → end_below a b ≡ true → EndIs a g → EndIs b g
end_above a Either g q h = tt
end_above Root Root g q h = h
end_above Side Side g q h = h
end_above Root Side g q h = absurd (false≢true q)
end_above Side Root g q h = absurd (false≢true q)
end_above Either Root g q h = absurd (false≢true q)
end_above Either Side g q h = absurd (false≢true q)

none_is : (whole : Ground) (ms : List _) → ms ≡ [] → OneMarkOrNone whole ms
none_is whole ms q = subst (OneMarkOrNone whole) (sym q) tt

one_is : (whole : Ground) (ms : List _) → OneMark whole ms → OneMarkOrNone whole ms
one_is whole [] o = tt
one_is whole (m ∷ ms) o = o

pub mark_above : (whole : Ground) (a b : MarkFact) (ms : List _) → mark_below a b ≡ true → MarkIs whole a ms → MarkIs whole b ms
mark_above whole Marked Maybe ms q h = one_is whole ms h
mark_above whole Clear Maybe ms q h = none_is whole ms h
mark_above whole Maybe Maybe ms q h = h
mark_above whole Marked Marked ms q h = h
mark_above whole Clear Clear ms q h = h
mark_above whole Marked Clear ms q h = absurd (false≢true q)
mark_above whole Clear Marked ms q h = absurd (false≢true q)
mark_above whole Maybe Marked ms q h = absurd (false≢true q)
mark_above whole Maybe Clear ms q h = absurd (false≢true q)

pub grant_above : (a b x : Bool) → grant_below a b ≡ true → GrantIs a x → GrantIs b x
grant_above a false x q h = tt
grant_above true true x q h = h
grant_above false true x q h = absurd (false≢true q)

met_as : (a : Option ℕ) (b : ℕ) (t : Option Tie) → a ≡ Some b → MetIs a t → MetIs (Some b) t
met_as a b t q h = subst (λ o. MetIs o t) q h

pub met_above : (a b : Option ℕ) (t : Option Tie) → met_below a b ≡ true → MetIs a t → MetIs b t
met_above a None t q h = tt
met_above a (Some b) t q h = met_as a b t (met_some a b q) h

pub holds_above : (whole : Ground) (first : Bool) (s u : Shape) (rs : List Word) (st : _) (g : Goal) (p m : Option Tie) (x : Bool) → Below s u → HoldsIn whole first s rs st g p m x → HoldsIn whole first u rs st g p m x
holds_above whole first s u rs st g p m x b h = record {
  registers_are = kinds_above whole g p m s.at_end s.registers u.registers rs h.end_is b.registers h.registers_are;
  base_is = h.base_is;
  cells_are = kinds_above whole g p m s.at_end s.cells u.cells _ h.end_is b.cells h.cells_are;
  stack_is = h.stack_is;
  end_is = end_above s.at_end u.at_end g b.at_end h.end_is;
  mark_is = mark_above whole s.mark u.mark _ b.mark h.mark_is;
  grant_is = grant_above s.granted u.granted x b.granted h.grant_is;
  met_is = met_above s.met u.met m b.met h.met_is;
}

-- ---- registers and operands

module _ (whole : Ground) (first : Bool) (s : Shape) (rs : List Word) (st : _) (g : Goal) (p m : Option Tie) (x : Bool) (h : HoldsIn whole first s rs st g p m x) where
  -- a register, also the one of the base
  pub register_is : (r : ℕ) → IsOfKind whole g p m (kind_at s r) (register rs r)
  register_is r = by (r == 31) refl
    where
      by : (b : Bool) → (r == 31) ≡ b → IsOfKind whole g p m (if b then Number else slice_index_or s.registers r Any) (register rs r)
      by true q = subst (λ w. IsNumberWord w) (sym (ap (register rs) (eqb-true r 31 q) ∙ h.base_is)) tt
      by false q = kind_is (IsOfKind whole g p m) s.registers rs r (λ w. tt) h.registers_are

  label_is : (l : ℕ) (n : Note) → note_at whole l ≡ n → is_inner l ≡ true → IsOfKind whole g p m (label_kind n) (word.Label l)
  label_is l note.Plain q i = tt
  label_is l (note.Ready handler) q i = record { label = l; is = refl; inner = i; ready = subst (λ n. is_ready_for handler n ≡ true) (sym q) (eq-eqb handler handler refl) }
  label_is l (note.Target target) q i = tt

  pub operand_is : (v : Value) → is_flat_value v ≡ true → IsOfKind whole g p m (value_kind whole s v) (operand rs v)
  operand_is (Reg r) f = register_is r
  operand_is (Int z) f = tt
  operand_is (Label l) f = label_is l (note_at whole l) refl f
  operand_is Nil f = refl

-- ---- changes of the end, the pending record and the met one

-- where no record is pending no word is of its kind
pub from_calm : (whole : Ground) (g : Goal) (p m : Option Tie) (k : Kind) (w : Word) → IsOfKind whole g None m k w → IsOfKind whole g p m k w
from_calm whole g p m Number w is = is
from_calm whole g p m Empty w is = is
from_calm whole g p m Own w is = is
from_calm whole g p m Up w is = is
from_calm whole g p m Pend w is = absurd is
from_calm whole g p m Met w is = is
from_calm whole g p m (Back h) w is = is
from_calm whole g p m Any w is = is

pub parted_is : (whole : Ground) (g g' : Goal) (p p' m m' : Option Tie) (k : Kind) (w : Word) → IsOfKind whole g p m k w → IsOfKind whole g' p' m' (parted k) w
parted_is whole g g' p p' m m' Number w is = is
parted_is whole g g' p p' m m' Empty w is = is
parted_is whole g g' p p' m m' Own w is = tt
parted_is whole g g' p p' m m' Up w is = tt
parted_is whole g g' p p' m m' Pend w is = tt
parted_is whole g g' p p' m m' Met w is = tt
parted_is whole g g' p p' m m' (Back h) w is = is
parted_is whole g g' p p' m m' Any w is = tt

pub kept_is : (whole : Ground) (g : Goal) (p p' m m' : Option Tie) (k : Kind) (w : Word) → IsOfKind whole g p m k w → IsOfKind whole g p' m' (kept k) w
kept_is whole g p p' m m' Number w is = is
kept_is whole g p p' m m' Empty w is = is
kept_is whole g p p' m m' Own w is = is
kept_is whole g p p' m m' Up w is = is
kept_is whole g p p' m m' Pend w is = tt
kept_is whole g p p' m m' Met w is = tt
kept_is whole g p p' m m' (Back h) w is = tt
kept_is whole g p p' m m' Any w is = tt

pub unmet_is : (whole : Ground) (g : Goal) (p m m' : Option Tie) (k : Kind) (w : Word) → IsOfKind whole g p m k w → IsOfKind whole g p m' (unmet k) w
unmet_is whole g p m m' Number w is = is
unmet_is whole g p m m' Empty w is = is
unmet_is whole g p m m' Own w is = is
unmet_is whole g p m m' Up w is = is
unmet_is whole g p m m' Pend w is = is
unmet_is whole g p m m' Met w is = tt
unmet_is whole g p m m' (Back h) w is = is
unmet_is whole g p m m' Any w is = is
