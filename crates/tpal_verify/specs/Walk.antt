-- One walk over a block: what flows from it, what it breaks, its join and its forks.
use Rattle.std.specs.Prelude.{ℕ, ◌+◌, Bool, false, ◌||◌, ◌==◌, List, [], ◌∷◌}
use Rattle.std.specs.Prelude.{◌++◌, Option, Some, None, if◌then◌else◌}
use Rattle.tpal_syntax.specs.declared.blocks.Block.{Block}
use Rattle.tpal_syntax.specs.declared.instructions.Value.{Value}
use Rattle.tpal_syntax.specs.declared.instructions.Value.TheVariants.{Reg, Int, Label, Nil}
use Rattle.tpal_syntax.specs.declared.instructions.Alu.{Alu}
use Rattle.tpal_syntax.specs.declared.instructions.Alu.TheVariants.{Eq}
use Rattle.tpal_syntax.specs.declared.instructions.Instr.{Instr}
use Rattle.tpal_syntax.specs.declared.instructions.Instr.TheVariants.{Move, Calc, IfJump, Load}
use Rattle.tpal_syntax.specs.declared.instructions.Instr.TheVariants.{Store, Salloc, Sfree, PrmPush}
use Rattle.tpal_syntax.specs.declared.instructions.Instr.TheVariants.{PrmPop, PrmDrop, PrmEmpty}
use Rattle.tpal_syntax.specs.declared.instructions.Instr.TheVariants.{PrmSplit, JrAlloc, Fork}
use Rattle.tpal_syntax.specs.declared.instructions.Instr.TheVariants.{Fetch, Put, Rows, Cols, Make}
use Rattle.tpal_syntax.specs.declared.instructions.Instr.TheVariants.{Tick, Trap, Print, Emit}
use Rattle.tpal_syntax.specs.declared.instructions.Term.{Term}
use Rattle.tpal_syntax.specs.declared.instructions.Term.TheVariants.{Jump, Halt, Join, Leave}
use Rattle.tpal_syntax.specs.declared.notes.Note.{Note}
use Rattle.tpal_syntax.specs.declared.notes.Note.TheVariants as note
use Rattle.tpal_verify.specs.declared.kinds.Kind.{Kind}
use Rattle.tpal_verify.specs.declared.kinds.Kind.TheVariants.{Number, Empty, Own, Up, Pend}
use Rattle.tpal_verify.specs.declared.kinds.Kind.TheVariants.{Met, Back, Any}
use Rattle.tpal_verify.specs.declared.kinds.EndFact.{EndFact}
use Rattle.tpal_verify.specs.declared.kinds.EndFact.TheVariants.{Root, Side, Either}
use Rattle.tpal_verify.specs.declared.kinds.MarkFact.TheVariants.{Marked, Clear}
use Rattle.tpal_verify.specs.declared.phases.Phase.{Phase}
use Rattle.tpal_verify.specs.declared.phases.Phase.TheVariants.{Calm, Compared, Asked, Tested}
use Rattle.tpal_verify.specs.declared.phases.Phase.TheVariants.{Given}
use Rattle.tpal_verify.specs.declared.trace.Trace.{Trace}
use Rattle.tpal_verify.specs.Kinds.{is_root, is_side}
use Rattle.tpal_verify.specs.Shapes.{Shape, kind_at, cell_at, with_kind, with_cell, with_mark}
use Rattle.tpal_verify.specs.Shapes.{handler_shape, root_shape, side_shape, left_shape}
use Rattle.tpal_verify.specs.Shapes.{child_shape, behind_shape}
use Rattle.tpal_verify.specs.Flat.{Ground, is_inner}
use Rattle.tpal_verify.specs.Rules.{value_kind, broken_rule}

-- a shape that flows into the block at a label; of a fork, its join target and the shape before it
abbrev pub Flow : Type 0
Flow = ℕ × Shape

-- ---- what an instruction that breaks no rule lets flow

-- the flows, the forks, and how the block goes on, unless nothing flows past the instruction
pub record Going : Type 0 where
  pub flows : List Flow
  pub forks : List Flow
  pub on : Option (Phase × Shape)

abbrev pub goes : Phase → Shape → Going
goes p s = record { flows = []; forks = []; on = Some (p, s) }

abbrev pub both_ways : ℕ → Shape → Phase → Shape → Going
both_ways l there p s = record { flows = (l, there) ∷ []; forks = []; on = Some (p, s) }

abbrev pub jumps_only : ℕ → Shape → Going
jumps_only l there = record { flows = (l, there) ∷ []; forks = []; on = None }

abbrev pub nowhere : Going
nowhere = record { flows = []; forks = []; on = None }

-- a jump after a test of a register that is nil where the task ends the run
abbrev pub up_branch : EndFact → ℕ → ℕ → Shape → Going
up_branch Root r l s = jumps_only l (root_shape r s)
up_branch Side r l s = goes Calm (side_shape r s)
up_branch Either r l s = both_ways l (root_shape r s) Calm (side_shape r s)

-- a jump after a test of a register of this kind against nil
abbrev pub branch : Kind → ℕ → ℕ → Shape → Going
branch Number r l s = both_ways l s Calm s
branch Empty r l s = jumps_only l s
branch Own r l s = goes Calm s
branch Up r l s = up_branch s.at_end r l s
branch Pend r l s = both_ways l s Calm s
branch Met r l s = both_ways l s Calm s
branch (Back h) r l s = both_ways l s Calm s
branch Any r l s = both_ways l s Calm s

abbrev pub if_jump : Phase → ℕ → ℕ → Shape → Going
if_jump Calm test l s = both_ways l s Calm s
if_jump (Compared r x) test l s =
    if x == test then branch (kind_at s r) r l s else both_ways l s Calm s
if_jump (Asked r m) test l s = both_ways l s Calm s
if_jump (Tested r x m) test l s =
    both_ways l (with_kind s r Empty) (Given r m) (with_kind s r Pend)
if_jump (Given r m) test l s = both_ways l s Calm s

-- what a test of a register against nil makes of a phase; r31 isn't looked at
abbrev pub compared : ℕ → ℕ → Phase
compared x left = if x == left || left == 31 then Calm else Compared left x

abbrev pub after_test : Phase → ℕ → ℕ → Phase
after_test Calm x left = compared x left
after_test (Compared r y) x left = compared x left
after_test (Asked r l) x left = Tested r x l
after_test (Tested r y l) x left = compared x left
after_test (Given r l) x left = Given r l

-- any other move, calculation, load or store keeps a record that was given
abbrev pub after_other : Phase → Phase
after_other Calm = Calm
after_other (Compared r x) = Calm
after_other (Asked r l) = Calm
after_other (Tested r x l) = Calm
after_other (Given r l) = Given r l

abbrev pub after_calc : Phase → ℕ → ℕ → Alu → Value → Phase
after_calc p x left Eq Nil = after_test p x left
after_calc p x left alu value = after_other p

abbrev pub fork_under : Phase → Shape → ℕ → ℕ → Going
fork_under Calm s rec child = nowhere
fork_under (Compared r x) s rec child = nowhere
fork_under (Asked r l) s rec child = nowhere
fork_under (Tested r x l) s rec child = nowhere
fork_under (Given r l) s rec child = record {
  flows = (child, child_shape rec s) ∷ [];
  forks = (l, s) ∷ [];
  on = Some (Calm, left_shape rec s);
}

abbrev pub going : Ground → Phase → Shape → Instr → Going
going whole p s (Move to value) = goes (after_other p) (with_kind s to (value_kind whole s value))
going whole p s (Calc to left alu right) =
    goes (after_calc p to left alu right) (with_kind s to Number)
going whole p s (IfJump test label) = if_jump p test label s
going whole p s (Load to base off) = goes (after_other p) (with_kind s to (cell_at s off))
going whole p s (Store base off value) =
    goes (after_other p) (with_cell s off (value_kind whole s value))
going whole p s (Salloc n) = goes Calm s
going whole p s (Sfree n) = goes Calm s
going whole p s (PrmPush base off cells split) = goes Calm (with_mark s Marked)
going whole p s (PrmPop base off) = goes Calm (with_mark s Clear)
going whole p s PrmDrop = goes Calm (with_mark s Clear)
going whole p s (PrmEmpty r) = goes Calm (with_kind s r Number)
going whole p s (PrmSplit base split) =
    goes Calm (with_kind (with_kind s base Number) split Any)
going whole p s (JrAlloc to target) = goes (Asked to target) (with_kind s to Any)
going whole p s (Fork rec child) = fork_under p s rec child
going whole p s (Fetch to table row col) = goes Calm (with_kind s to Number)
going whole p s (Put table row col value) = goes Calm s
going whole p s (Rows to table) = goes Calm (with_kind s to Number)
going whole p s (Cols to table) = goes Calm (with_kind s to Number)
going whole p s (Make table rows cols place) = goes Calm s
going whole p s Tick = goes Calm s
going whole p s (Trap kind place) = nowhere
going whole p s (Print r) = goes Calm s
going whole p s (Emit table) = goes Calm s

-- ---- whole blocks

-- what flows from a block, and what else is found in it
pub record Walked : Type 0 where
  pub flows : List Flow
  pub trace : Trace

abbrev pub no_trace : Trace
no_trace = record { broken = None; join = None; forks = [] }

abbrev pub only_flows : List Flow → Walked
only_flows flows = record { flows = flows; trace = no_trace }

abbrev pub breaks : ℕ → ℕ → Walked
breaks at rule = record {
  flows = [];
  trace = record { broken = Some (at, rule); join = None; forks = [] };
}

-- the promotion-ready blocks with a handler, from the block at a label on
abbrev pub is_ready_for : ℕ → Note → Bool
is_ready_for h note.Plain = false
is_ready_for h (note.Ready handler) = handler == h
is_ready_for h (note.Target target) = false

abbrev pub back_flows : ℕ → Shape → ℕ → List Block → List Flow
back_flows h s l [] = []
back_flows h s l (block ∷ blocks) =
    if is_ready_for h block.note then (l, s) ∷ back_flows h s (l + 1) blocks
    else back_flows h s (l + 1) blocks

-- a jump by r30
abbrev pub jump_back : Ground → Kind → ℕ → Shape → Walked
jump_back whole Number at s = breaks at 7
jump_back whole Empty at s = breaks at 7
jump_back whole Own at s = breaks at 7
jump_back whole Up at s = breaks at 7
jump_back whole Pend at s = breaks at 7
jump_back whole Met at s = breaks at 7
jump_back whole (Back h) at s = only_flows (back_flows h s 0 whole.blocks)
jump_back whole Any at s = breaks at 7

abbrev pub join_met : Option ℕ → ℕ → Shape → Walked
join_met None at s = breaks at 6
join_met (Some target) at s = only_flows ((target, behind_shape s) ∷ [])

-- a join of the record of a side's end, which is reached whether or not the end is known to be one
abbrev pub join_own : ℕ → Shape → Walked
join_own at s = record {
  flows = [];
  trace = record {
    broken = if is_side s.at_end then None else Some (at, 6);
    join = Some s.registers;
    forks = [];
  };
}

abbrev pub join_of : Kind → ℕ → Shape → Walked
join_of Number at s = breaks at 6
join_of Empty at s = breaks at 6
join_of Own at s = join_own at s
join_of Up at s = breaks at 6
join_of Pend at s = breaks at 6
join_of Met at s = join_met s.met at s
join_of (Back h) at s = breaks at 6
join_of Any at s = breaks at 6

-- the end of a block at a position
abbrev pub end_walk : Ground → ℕ → Shape → Term → Walked
end_walk whole at s (Jump (Reg r)) =
    if r == 30 then jump_back whole (kind_at s 30) at s else breaks at 1
end_walk whole at s (Jump (Int z)) = breaks at 1
end_walk whole at s (Jump (Label l)) = if is_inner l then only_flows ((l, s) ∷ []) else breaks at 1
end_walk whole at s (Jump Nil) = breaks at 1
end_walk whole at s Halt = if is_root s.at_end then only_flows [] else breaks at 6
end_walk whole at s (Join r) = join_of (kind_at s r) at s
end_walk whole at s (Leave rec value) = breaks at 1

abbrev pub with_forks : List Flow → Trace → Trace
with_forks forks trace = record trace { forks = forks ++ trace.forks }

-- flows and forks, and then a walk
abbrev pub with_going : List Flow → List Flow → Walked → Walked
with_going flows forks walked = record {
  flows = flows ++ walked.flows;
  trace = with_forks forks walked.trace;
}

-- the walk behind an instruction, unless nothing flows past it
abbrev pub walk_on : Option (Phase × Shape) → (Phase → Shape → Walked) → Walked
walk_on None later = only_flows []
walk_on (Some here) later = later here.0 here.1

-- nothing flows past a broken instruction
abbrev pub unless_broken : Option ℕ → ℕ → Going → (Phase → Shape → Walked) → Walked
unless_broken None at going later = with_going going.flows going.forks (walk_on going.on later)
unless_broken (Some rule) at going later = breaks at rule

-- a block from a position on; `first` tells whether that is the first one of block 0
abbrev pub walk : Ground → Bool → ℕ → Phase → Shape → List Instr → Term → Walked
walk whole first at p s [] term = end_walk whole at s term
walk whole first at p s (instr ∷ rest) term =
    unless_broken (broken_rule whole first p s instr rest) at (going whole p s instr)
    (λ q t. walk whole false (at + 1) q t rest term)

-- a promotion-ready block lets its shape flow into its handler, where the grant is new
abbrev pub note_flows : Note → Shape → List Flow
note_flows note.Plain s = []
note_flows (note.Ready handler) s = (handler, handler_shape handler s) ∷ []
note_flows (note.Target target) s = []

abbrev pub block_walk : Ground → ℕ → Block → Shape → Walked
block_walk whole l block s =
    with_going (note_flows block.note s) [] (walk whole (l == 0) 0 Calm s block.body block.term)
