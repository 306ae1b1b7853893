-- Assignments of shapes to blocks, rounds, and the least assignment.
use Rattle.std.specs.Prelude.{ℕ, zero, suc, ◌+◌, ◌*◌, Bool, true, false, ◌&&◌, if◌then◌else◌}
use Rattle.std.specs.Prelude.{List, [], ◌∷◌, ◌++◌, map, length, replicate, Option, Some, None}
use Rattle.std.specs.Prelude.{slice_set, slice_get, slice_index_or}
use Rattle.std.specs.List.{list_all}
use Rattle.tpal_syntax.specs.declared.blocks.Block.{Block}
use Rattle.tpal_syntax.specs.declared.notes.Note.{Note}
use Rattle.tpal_syntax.specs.declared.notes.Note.TheVariants as note
use Rattle.tpal_syntax.specs.declared.notes.Target.{Target}
use Rattle.tpal_verify.specs.declared.kinds.Kind.{Kind}
use Rattle.tpal_verify.specs.declared.kinds.Kind.TheVariants.{Number, Empty, Own, Met, Any}
use Rattle.tpal_verify.specs.declared.kinds.MarkFact.TheVariants.{Clear}
use Rattle.tpal_verify.specs.declared.trace.Trace.{Trace}
use Rattle.tpal_verify.specs.Kinds.{kind_eq, kept}
use Rattle.tpal_verify.specs.Shapes.{Shape, shape_below, joined, first_shape}
use Rattle.tpal_verify.specs.Flat.{Ground}
use Rattle.tpal_verify.specs.Rules.{note_at}
use Rattle.tpal_verify.specs.Walk.{Flow, Walked, block_walk}

-- for each block its shape, or none where nothing is known to enter it
abbrev pub Shapes : Type 0
Shapes = List (Option Shape)

-- ---- the walks of an assignment

abbrev pub walk_of : Ground → ℕ → Block → Option Shape → Option Walked
walk_of whole l block None = None
walk_of whole l block (Some s) = Some (block_walk whole l block s)

-- the walks of the blocks from one on, by their shapes
abbrev pub walks_from : Ground → ℕ → List Block → Shapes → List (Option Walked)
walks_from whole l [] shapes = []
walks_from whole l (block ∷ blocks) [] = []
walks_from whole l (block ∷ blocks) (shape ∷ shapes) =
    walk_of whole l block shape ∷ walks_from whole (l + 1) blocks shapes

abbrev pub walks : Ground → Shapes → List (Option Walked)
walks whole shapes = walks_from whole 0 whole.blocks shapes

abbrev pub all_flows : List (Option Walked) → List Flow
all_flows [] = []
all_flows (None ∷ walks) = all_flows walks
all_flows (Some walked ∷ walks) = walked.flows ++ all_flows walks

abbrev pub trace_of : Option Walked → Option Trace
trace_of None = None
trace_of (Some walked) = Some walked.trace

abbrev pub traces : Ground → Shapes → List (Option Trace)
traces whole shapes = map trace_of (walks whole shapes)

-- ---- what the joins of sides find

abbrev pub forks_of : Option Trace → List Flow
forks_of None = []
forks_of (Some trace) = trace.forks

abbrev pub all_forks : List (Option Trace) → List Flow
all_forks [] = []
all_forks (trace ∷ traces) = forks_of trace ++ all_forks traces

abbrev pub join_in : Option Trace → Option (List Kind)
join_in None = None
join_in (Some trace) = trace.join

abbrev pub with_join : Option (List Kind) → List (List Kind) → List (List Kind)
with_join None joins = joins
with_join (Some registers) joins = registers ∷ joins

-- the kinds of the registers at each join of a side's record that is reached
abbrev pub all_joins : List (Option Trace) → List (List Kind)
all_joins [] = []
all_joins (trace ∷ traces) = with_join (join_in trace) (all_joins traces)

-- a register is of a kind at every such join
abbrev pub each_has : Kind → ℕ → List (List Kind) → Bool
each_has k r joins = list_all (λ registers. kind_eq (slice_index_or registers r Any) k) joins

-- the kind in which a listed register comes back from a join
abbrev pub found : List (List Kind) → ℕ → Kind
found joins r =
    if each_has Number r joins then Number else (if each_has Own r joins then Met else Any)

-- ---- the combining blocks

-- the kinds under the left names of a renaming, and those under the right names
abbrev pub left_kinds : List (List Kind) → List Kind → List (ℕ × ℕ) → List Kind
left_kinds joins kinds [] = kinds
left_kinds joins kinds (p ∷ renames) =
    left_kinds joins (slice_set kinds p.0 (found joins p.0)) renames

abbrev pub right_kinds : List (List Kind) → List Kind → List (ℕ × ℕ) → List Kind
right_kinds joins kinds [] = kinds
right_kinds joins kinds (p ∷ renames) =
    right_kinds joins (slice_set kinds p.1 (found joins p.0)) renames

-- where both sides of a fork that had this shape before it are joined under a target
abbrev pub comb_shape : List (List Kind) → ℕ → Target → Shape → Shape
comb_shape joins l target s = record {
  registers = right_kinds joins (left_kinds joins (replicate 31 Empty) target.renames) target.renames;
  cells = map kept s.cells;
  at_end = s.at_end;
  mark = Clear;
  granted = false;
  met = Some l;
}

abbrev pub comb_flow : Note → List (List Kind) → Flow → List Flow
comb_flow note.Plain joins fork = []
comb_flow (note.Ready handler) joins fork = []
comb_flow (note.Target target) joins fork =
    (target.comb, comb_shape joins fork.0 target fork.1) ∷ []

abbrev pub each_comb_flow : Ground → List (List Kind) → List Flow → List Flow
each_comb_flow whole joins [] = []
each_comb_flow whole joins (fork ∷ forks) =
    comb_flow (note_at whole fork.0) joins fork ++ each_comb_flow whole joins forks

-- What flows into combining blocks: nothing where no side is known to end by a join.
abbrev pub comb_flows : Ground → List (List Kind) → List Flow → List Flow
comb_flows whole [] forks = []
comb_flows whole (join ∷ joins) forks = each_comb_flow whole (join ∷ joins) forks

-- ---- rounds

-- all that flows by an assignment
abbrev pub flows_of : Ground → Shapes → List Flow
flows_of whole shapes =
    all_flows (walks whole shapes)
    ++ comb_flows whole (all_joins (traces whole shapes)) (all_forks (traces whole shapes))

abbrev pub with_shape : Option Shape → Shape → Option Shape
with_shape None s = Some s
with_shape (Some t) s = Some (joined t s)

abbrev pub shape_at : Shapes → ℕ → Option Shape
shape_at shapes l = slice_index_or shapes l None

abbrev pub with_flow : Shapes → Flow → Shapes
with_flow shapes flow =
    slice_set shapes flow.0 (with_shape (shape_at shapes flow.0) flow.1)

abbrev pub with_flows : Shapes → List Flow → Shapes
with_flows shapes [] = shapes
with_flows shapes (flow ∷ flows) = with_flows (with_flow shapes flow) flows

-- A round joins into each block all that flows into it by the shapes before the round.
abbrev pub round : Ground → Shapes → Shapes
round whole shapes = with_flows shapes (flows_of whole shapes)

-- a block's shape holds what flows into it; a label that is no block's asks nothing
abbrev pub holds_shape : Option Shape → Shape → Bool
holds_shape None s = false
holds_shape (Some t) s = shape_below s t

abbrev pub holds_at : Option (Option Shape) → Shape → Bool
holds_at None s = true
holds_at (Some shape) s = holds_shape shape s

abbrev pub holds : Shapes → Flow → Bool
holds shapes flow = holds_at (slice_get shapes flow.0) flow.1

abbrev pub holds_all : Shapes → List Flow → Bool
holds_all shapes flows = list_all (holds shapes) flows

-- one assignment is below another, block by block
abbrev pub option_below : Option Shape → Option Shape → Bool
option_below None b = true
option_below (Some s) b = holds_shape b s

abbrev pub shapes_below : Shapes → Shapes → Bool
shapes_below [] [] = true
shapes_below [] (b ∷ ys) = false
shapes_below (a ∷ xs) [] = false
shapes_below (a ∷ xs) (b ∷ ys) = option_below a b && shapes_below xs ys

abbrev pub or_later : Bool → Shapes → (Unit {0} → Shapes) → Shapes
or_later true shapes later = shapes
or_later false shapes later = later tt

-- rounds until one would change nothing, at most so many
unfoldable pub settled : ℕ → Ground → Shapes → Shapes
settled zero whole shapes = shapes
settled (suc n) whole shapes =
    or_later (holds_all shapes (flows_of whole shapes)) shapes
    (λ _. settled n whole (round whole shapes))

-- at first block 0 alone has a shape
abbrev pub start : Ground → Shapes
start whole =
    slice_set (replicate (length whole.blocks) None) 0 (Some (first_shape whole.cells))

-- how often shapes can change: each kind twice, each fact once, and a block can come in
abbrev pub height : Ground → ℕ
height whole = length whole.blocks * (2 * (31 + whole.cells) + 6)

abbrev pub least : Ground → Shapes
least whole = settled (height whole) whole (start whole)
