-- A walk that stands somewhere in a block.
use Rattle.std.specs.Prelude.{◌≡◌, ℕ, List, [], ◌∷◌, ◌++◌, Option, Some, None, slice_get}
use Rattle.tpal_syntax.specs.declared.blocks.Block.{Block}
use Rattle.tpal_verify.specs.declared.blocks.Found.{Found}
use Rattle.tpal_verify.specs.declared.phases.Phase.{Phase}
use Rattle.tpal_verify.specs.declared.phases.Phase.TheVariants.{Calm}
use Rattle.tpal_verify.specs.Shapes.{Shape, left_shape, child_shape}
use Rattle.tpal_verify.specs.Flat.{Ground}
use Rattle.tpal_verify.specs.Walk.{Flow, Going, Walked}
use Rattle.tpal_verify.specs.Rounds.{Shapes, shape_at, with_flow, with_flows, walk_of}

-- the shapes before the round, those that it has come to, the shape where the walk stands, and the
-- forks so far
pub record Walking : Type 0 where
  pub now : Shapes
  pub next : Shapes
  pub shape : Shape
  pub forks : List Flow

-- a shape has flowed into the block at a label
abbrev pub flowed : Walking → ℕ → Shape → Walking
flowed walking l s = record walking { next = with_flow walking.next (l, s) }

abbrev pub flowed_all : Walking → List Flow → Walking
flowed_all walking flows = record walking { next = with_flows walking.next flows }

-- ---- instructions

-- where the walk goes on
abbrev pub stands : Option Phase → Shape → Option (Phase × Shape)
stands None s = None
stands (Some p) s = Some (p, s)

-- what an instruction lets flow has flowed
pub record Went (old new : Walking) (going : Going) (behind : Option Phase) : Type 0 where
  pub flows : new.next ≡ with_flows old.next going.flows
  pub forks : new.forks ≡ old.forks ++ going.forks
  pub on : stands behind new.shape ≡ going.on
  pub now : new.now ≡ old.now

-- a fork under a record that was given
abbrev pub forked : ℕ → Shape → ℕ → ℕ → Going
forked l s rec child = record {
  flows = (child, child_shape rec s) ∷ [];
  forks = (l, s) ∷ [];
  on = Some (Calm, left_shape rec s);
}

-- ---- whole blocks

-- what a walk lets flow has flowed, and what else is found in it
pub record Ended (old new : Walking) (walked : Walked) (found : Found) : Type 0 where
  pub flows : new.next ≡ with_flows old.next walked.flows
  pub forks : new.forks ≡ old.forks ++ walked.trace.forks
  pub broken : found.broken ≡ walked.trace.broken
  pub join : found.join ≡ walked.trace.join
  pub now : new.now ≡ old.now

abbrev pub walk_in : Ground → ℕ → Option Block → Option Shape → Option Walked
walk_in whole l None shape = None
walk_in whole l (Some block) shape = walk_of whole l block shape

-- the walk over the block at a label
abbrev pub walk_at : Ground → Shapes → ℕ → Option Walked
walk_at whole shapes l = walk_in whole l (slice_get whole.blocks l) (shape_at shapes l)

abbrev pub flows_in : Option Walked → List Flow
flows_in None = []
flows_in (Some walked) = walked.flows
