-- Leaving a `par`: which variable it sets where one of its iterations is left.
use Rattle.std.specs.Prelude.{ℕ, List, [], ◌∷◌, Option, Some, None}
use Rattle.tp_value.specs.declared.Stop.{Stop}
use Rattle.tp_value.specs.declared.Stop.TheVariants.{Done, Left}
use Rattle.loop_syntax.specs.declared.Stmt.{Stmt, Row_of-Stmt, end_of-Stmt, more_of-Stmt}
use Rattle.loop_syntax.specs.declared.Stmt.TheVariants.{If', While', Loop', Leave}
use Rattle.loop_meaning.specs.State.{assign, Ran}

-- the first where there is one, else the second
abbrev pub or_else : Option (List ℕ) → Option (List ℕ) → Option (List ℕ)
or_else None other = other
or_else (Some x) other = Some x

-- the target of the first `leave` of a statement, and of the statements of a block, that stands in
-- no `par` of theirs: it leaves the nearest `par` round them
abbrev mutual
  pub left_of : Stmt → Option (List ℕ)
  left_of (Leave x e) = Some x.text.items
  left_of (If' e p body q other) = or_else (left_in body) (left_in other)
  left_of (While' e p body) = left_in body
  left_of (Loop' x a b p body) = left_in body
  left_of _ = None

  pub left_in : {m : _} → Row_of-Stmt m → Option (List ℕ)
  left_in end_of-Stmt = None
  left_in (more_of-Stmt first rest) = or_else (left_of first) (left_in rest)

-- the same of the statements of a list
abbrev pub left_list : List Stmt → Option (List ℕ)
left_list [] = None
left_list (first ∷ rest) = or_else (left_of first) (left_list rest)

-- the end of a `par` whose iterations ended so, where its `leave` statements have this target: one
-- that was left sets the target, and is done
abbrev pub caught_by : Stop → Option (List ℕ) → Ran → Ran
caught_by (Left n) (Some x) r =
    record r { stop = Done; state = record r.state { vars = assign r.state.vars x n } }
caught_by (Left n) None r = record r { stop = Done }
caught_by _ target r = r

abbrev pub caught : Option (List ℕ) → Ran → Ran
caught target r = caught_by r.stop target r
