-- The tasks of a code, as the core sees them.
use Rattle.std.specs.Prelude.{ℕ, ◌≡◌}
use Rattle.tpal_syntax.specs.Listing.{Listing}
use Rattle.tpal_machine.specs.declared.ends.End.{End}
use Rattle.tpal_machine.specs.declared.ends.End.TheVariants as «end»
use Rattle.tpal_machine.specs.declared.ends.Ending.{Ending}
use Rattle.tpal_machine.specs.declared.ends.Ending.TheVariants as ending
use Rattle.tpal_machine.specs.declared.ends.Side.{Side}
use Rattle.tpal_machine.specs.declared.ends.SideName.{SideName}
use Rattle.tpal_machine.specs.declared.ends.SideName.TheVariants.{Left, Right}
use Rattle.tpal_machine.specs.Effect.{answered}
use Rattle.tpal_machine.specs.Keeping.{number_of, place_of, credit}
use Rattle.tpal_machine.specs.Merge as merging
use Rattle.tpal_machine.specs.Merge.{Joined, MergeOf}
use Rattle.tpal_machine.specs.Owes.{Owes}
use Rattle.tpal_machine.specs.RestState.{RestState, end_of}
use Rattle.tpal_machine.specs.State.{State}
use Rattle.tpal_machine.specs.Step as machine
use Rattle.tpal_machine.specs.Step.{step}
use Rattle.schedule_core.specs.Machine.{root, left, right, CoreMachine, Turn, Goes, Beats, Ends}
use Rattle.schedule_core.specs.Machine.{Asks, Forks, Stuck, Merged, Runs, Over}

-- the number of an end
abbrev pub side_number : ℕ → SideName → ℕ
side_number k Left = left k
side_number k Right = right k

abbrev pub end_number : End → ℕ
end_number «end».Root = root
end_number («end».At rec side) = side_number rec side

-- what a step comes to. A task that belongs to its code never strays
abbrev pub turn_of : machine.Step → Turn State RestState Ending
turn_of (machine.Goes after) = Goes after
turn_of (machine.Beats diverted) = Beats diverted
turn_of (machine.Ends e) = Ends e
turn_of (machine.Asks waits) = Asks (λ rec. answered rec waits)
turn_of (machine.Forks parts) = Forks parts.rec parts.left parts.child parts.rest
turn_of (machine.Stuck fault) = Stuck
turn_of machine.Strays = Stuck

abbrev pub merged_of : Joined → Merged State Ending
merged_of (merging.Goes task) = Runs task
merged_of (merging.Ends e) = Over e

-- a rest and two sides of its record merge to this
pub record MergesSides (code : Listing) (rest : RestState) (p q : Side) (both : Merged State Ending)
    : Type 0 where
  pub joined : Joined
  pub merge : MergeOf code rest p q joined
  pub is : merged_of joined ≡ both

-- a rest merges with a left and a right side
abbrev pub MergesTo : Listing → RestState → Ending → Ending → Merged State Ending → Type 0
MergesTo code rest (ending.At i Left p) (ending.At j Right q) both = MergesSides code rest p q both
MergesTo code rest (ending.At i Left p) (ending.At j Left q) both = ⊥
MergesTo code rest (ending.At i Right p) (ending.At j side q) both = ⊥
MergesTo code rest (ending.At i Right p) (ending.Root outcome) both = ⊥
MergesTo code rest (ending.At i Left p) (ending.Root outcome) both = ⊥
MergesTo code rest (ending.Root outcome) e both = ⊥

-- the tasks of a code at a heartbeat. What is promised at an end is what its task will end with
abbrev pub tasks : Listing → ℕ → CoreMachine State RestState Ending
tasks code heartbeat = record {
  turn = λ allowed state. turn_of (step code heartbeat allowed state);
  merges = MergesTo code;
  home = λ state. end_number (end_of state.goal);
  kept = λ rest. end_number (end_of rest.goal);
  end_of = λ e. end_number (place_of e);
  pending = λ state. number_of state.pending;
  credit = λ state. credit heartbeat state.beat;
  Promise = Ending;
  owes = λ due state e. Owes code heartbeat due 0 state e;
  meets = λ e promised. e ≡ promised;
  Strict = Unit {0};
  Sticks = ⊥;
}
