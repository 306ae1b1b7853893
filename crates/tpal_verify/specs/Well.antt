-- A walk that goes well: it breaks nothing, and all that flows from it is held by an assignment.
use Rattle.std.specs.Prelude.{ℕ, ◌≡◌, Bool, true, List, [], ◌∷◌, Option, None, Some, slice_index_or}
use Rattle.tpal_syntax.specs.declared.instructions.Instr.{Instr}
use Rattle.tpal_syntax.specs.declared.instructions.Term.{Term}
use Rattle.tpal_verify.specs.declared.kinds.Kind.{Kind}
use Rattle.tpal_verify.specs.declared.kinds.Kind.TheVariants.{Any}
use Rattle.tpal_verify.specs.declared.phases.Phase.{Phase}
use Rattle.tpal_verify.specs.Kinds.{kind_eq}
use Rattle.tpal_verify.specs.Shapes.{Shape}
use Rattle.tpal_verify.specs.Flat.{Ground}
use Rattle.tpal_verify.specs.Walk.{Walked, walk}
use Rattle.tpal_verify.specs.Rounds.{Shapes, traces, all_joins, each_has, comb_flows, holds_all}

-- what is found at all joins of sides is found at this one
abbrev pub IsJoinOf : List (List Kind) → Option (List Kind) → Type 0
IsJoinOf joins None = Unit {0}
IsJoinOf [] (Some registers) = ⊥
IsJoinOf (join ∷ joins) (Some registers) =
    (kind : Kind) (r : ℕ)
    → each_has kind r (join ∷ joins) ≡ true
    → kind_eq (slice_index_or registers r Any) kind ≡ true

-- nothing is broken, and what flows from here, also into combining blocks, is held
pub record IsWell (whole : Ground) (shapes : Shapes) (walked : Walked) : Type 0 where
  pub broken : walked.trace.broken ≡ None
  pub flows : holds_all shapes walked.flows ≡ true
  pub combines : holds_all shapes
      (comb_flows whole (all_joins (traces whole shapes)) walked.trace.forks)
      ≡ true
  pub join : IsJoinOf (all_joins (traces whole shapes)) walked.trace.join

-- the walk from a position of a block on
abbrev pub GoesWell : Ground → Shapes → Bool → ℕ → Phase → Shape → List Instr → Term → Type 0
GoesWell whole shapes first at phase s body term =
    IsWell whole shapes (walk whole first at phase s body term)
