-- What is known of a task at a place: a kind for each register and cell, and four facts.
use Rattle.std.specs.Prelude.{ℕ, Bool, true, false, ◌&&◌, ◌==◌, if◌then◌else◌, List, [], ◌∷◌, map}
use Rattle.std.specs.Prelude.{Option, None, slice_index_or, slice_set, replicate}
use Rattle.std.specs.List.{zip}
use Rattle.tpal_verify.specs.declared.kinds.Kind.{Kind}
use Rattle.tpal_verify.specs.declared.kinds.Kind.TheVariants.{Number, Empty, Own, Back, Any}
use Rattle.tpal_verify.specs.declared.kinds.EndFact.{EndFact}
use Rattle.tpal_verify.specs.declared.kinds.EndFact.TheVariants.{Root, Side}
use Rattle.tpal_verify.specs.declared.kinds.MarkFact.{MarkFact}
use Rattle.tpal_verify.specs.declared.kinds.MarkFact.TheVariants.{Marked, Clear}
use Rattle.tpal_verify.specs.Kinds.{kind_below, end_below, mark_below, grant_below, met_below}
use Rattle.tpal_verify.specs.Kinds.{kind_joined, end_joined, mark_joined, grant_joined}
use Rattle.tpal_verify.specs.Kinds.{met_joined, parted, unmet}

-- the registers r0 to r30, the cells of the activation, whether the task ends the run or a side,
-- whether its mark stands, whether it surely has a grant, and of which join target it has met the
-- record, where it surely has
pub record Shape : Type 0 where
  pub registers : List Kind
  pub cells : List Kind
  pub at_end : EndFact
  pub mark : MarkFact
  pub granted : Bool
  pub met : Option ℕ

-- ---- the order and the join

-- Each kind is below the one at its place. Past the end of a list any word may stand.
abbrev pub kinds_below : EndFact → List Kind → List Kind → Bool
kinds_below e xs [] = true
kinds_below e [] (b ∷ ys) = false
kinds_below e (a ∷ xs) (b ∷ ys) = kind_below e a b && kinds_below e xs ys

-- what is known by the second shape holds by the first
abbrev pub shape_below : Shape → Shape → Bool
shape_below s t =
    kinds_below s.at_end s.registers t.registers && kinds_below s.at_end s.cells t.cells
    && end_below s.at_end t.at_end && mark_below s.mark t.mark
    && grant_below s.granted t.granted && met_below s.met t.met

abbrev pub kinds_joined : EndFact → EndFact → List Kind → List Kind → List Kind
kinds_joined e f xs ys = map (λ p. kind_joined e f p.0 p.1) (zip xs ys)

-- what holds of both shapes
abbrev pub joined : Shape → Shape → Shape
joined s t = record {
  registers = kinds_joined s.at_end t.at_end s.registers t.registers;
  cells = kinds_joined s.at_end t.at_end s.cells t.cells;
  at_end = end_joined s.at_end t.at_end;
  mark = mark_joined s.mark t.mark;
  granted = grant_joined s.granted t.granted;
  met = met_joined s.met t.met;
}

-- ---- reading and changing

-- r31 is the base of the one activation
abbrev pub kind_at : Shape → ℕ → Kind
kind_at s r = if r == 31 then Number else slice_index_or s.registers r Any

abbrev pub cell_at : Shape → ℕ → Kind
cell_at s c = slice_index_or s.cells c Any

abbrev pub with_kind : Shape → ℕ → Kind → Shape
with_kind s r k = record s { registers = slice_set s.registers r k }

abbrev pub with_cell : Shape → ℕ → Kind → Shape
with_cell s c k = record s { cells = slice_set s.cells c k }

abbrev pub with_mark : Shape → MarkFact → Shape
with_mark s m = record s { mark = m }

-- ---- the shapes that flow

-- where the run begins, with so many cells
abbrev pub first_shape : ℕ → Shape
first_shape n = record {
  registers = replicate 31 Empty;
  cells = replicate n Empty;
  at_end = Root;
  mark = Clear;
  granted = false;
  met = None;
}

-- in the handler of a promotion-ready block that was entered with this shape
abbrev pub handler_shape : ℕ → Shape → Shape
handler_shape h s = record s {
  registers = slice_set s.registers 30 (Back h);
  mark = Marked;
  granted = true;
}

-- where a test showed that the record of the end is nil: the task ends the run
abbrev pub root_shape : ℕ → Shape → Shape
root_shape r s = record s { registers = slice_set s.registers r Empty; at_end = Root }

-- where it showed that it isn't: the task ends a side
abbrev pub side_shape : ℕ → Shape → Shape
side_shape r s = record s { registers = slice_set s.registers r Own; at_end = Side }

-- in the left of a fork under the record in r
abbrev pub left_shape : ℕ → Shape → Shape
left_shape r s = record {
  registers = slice_set (map parted s.registers) r Own;
  cells = map parted s.cells;
  at_end = Side;
  mark = s.mark;
  granted = false;
  met = None;
}

-- in its child, whose mark was cut off
abbrev pub child_shape : ℕ → Shape → Shape
child_shape r s = with_mark (left_shape r s) Clear

-- behind a join of the met record
abbrev pub behind_shape : Shape → Shape
behind_shape s = record s {
  registers = map unmet s.registers;
  cells = map unmet s.cells;
  met = None;
}
