-- The values of expressions.
use Rattle.std.specs.Prelude.{zero, suc, true, false, not, ℤ, pos, negsuc, ◌+ℤ◌, ◌-ℤ◌, ◌*ℤ◌}
use Rattle.std.specs.Prelude.{int_div, int_rem, int_lt, int_le, List, [], ◌∷◌, ◌++◌}
use Rattle.std.specs.Ordering.{int_eq}
use Rattle.tp_value.specs.Number.{wrapped, truth}
use Rattle.tp_value.specs.declared.Place.{Place}
use Rattle.tp_value.specs.declared.TrapKind.{TrapKind}
use Rattle.tp_value.specs.declared.TrapKind.TheVariants.{Divide, Index}
use Rattle.tp_value.specs.declared.Table.{Table}
use Rattle.loop_syntax.specs.declared.Name.{Name}
use Rattle.loop_syntax.specs.declared.BinOp.{BinOp}
use Rattle.loop_syntax.specs.declared.BinOp.TheVariants as op
use Rattle.loop_syntax.specs.declared.Expr.{Expr}
use Rattle.loop_syntax.specs.declared.Expr.TheVariants.{Int, Var, Cell', Rows, Cols, Neg', Bin'}
use Rattle.loop_meaning.specs.declared.value.Answer.{Answer}
use Rattle.loop_meaning.specs.declared.value.Answer.TheVariants.{Number, Traps}
use Rattle.loop_meaning.specs.declared.value.Variable.{Variable}
use Rattle.loop_meaning.specs.State.{lookup, table_of, has_cell, cell_of, Note, Reads}

-- the answer of an expression, and the cells that it read
pub record Value : Type 0 where
  pub answer : Answer
  pub notes : List Note

abbrev pub number : ℤ → Value
number n = record { answer = Number n; notes = [] }

abbrev pub traps : TrapKind → Place → Value
traps k p = record { answer = Traps k p; notes = [] }

-- goes on with the number of an answer
abbrev pub bind_answer : Answer → List Note → (ℤ → Value) → Value
bind_answer (Number n) ns f = record { answer = (f n).answer; notes = ns ++ (f n).notes }
bind_answer (Traps k p) ns f = record { answer = Traps k p; notes = ns }

abbrev pub bind : Value → (ℤ → Value) → Value
bind v f = bind_answer v.answer v.notes f

-- a quotient or a remainder, which traps at 0
abbrev pub divided : (ℤ → ℤ → ℤ) → Place → ℤ → ℤ → Value
divided f p a (pos zero) = traps Divide p
divided f p a (pos (suc n)) = number (wrapped (f a (pos (suc n))))
divided f p a (negsuc n) = number (wrapped (f a (negsuc n)))

-- an operator with its place, on two numbers
abbrev pub calculated : BinOp → Place → ℤ → ℤ → Value
calculated op.Add p a b = number (wrapped (a +ℤ b))
calculated op.Sub p a b = number (wrapped (a -ℤ b))
calculated op.Mul p a b = number (wrapped (a *ℤ b))
calculated op.Div p a b = divided int_div p a b
calculated op.Rem p a b = divided int_rem p a b
calculated op.Eq p a b = number (truth (int_eq a b))
calculated op.Ne p a b = number (truth (not (int_eq a b)))
calculated op.Lt p a b = number (truth (int_lt a b))
calculated op.Le p a b = number (truth (int_le a b))
calculated op.Gt p a b = number (truth (int_lt b a))
calculated op.Ge p a b = number (truth (int_le b a))

-- the cell at row i, column j of the table that is named there
abbrev pub read_cell : List Table → Name → ℤ → ℤ → Value
read_cell ts t i j =
    elim (has_cell (table_of ts t.text.items) i j) [
      | true ↦ record {
        answer = Number (cell_of (table_of ts t.text.items) i j);
        notes = Reads t.text.items i j
            ∷ [];
      }
      | false ↦ traps Index t.place
    ]

-- the value of an expression, from left to right. Behind a box stands a pointer, here p and q
abbrev pub eval : List Variable → List Table → Expr → Value
eval vs ts (Int n place) = number n
eval vs ts (Var x) = number (lookup vs x.text.items)
eval vs ts (Cell' t p a q b) =
    bind (eval vs ts a) (λ i. bind (eval vs ts b) (λ j. read_cell ts t i j))
eval vs ts (Rows t) = number (pos (table_of ts t.text.items).rows)
eval vs ts (Cols t) = number (pos (table_of ts t.text.items).cols)
eval vs ts (Neg' p a place) = bind (eval vs ts a) (λ n. number (wrapped (pos 0 -ℤ n)))
eval vs ts (Bin' o place p a q b) =
    bind (eval vs ts a) (λ m. bind (eval vs ts b) (λ n. calculated o place m n))
