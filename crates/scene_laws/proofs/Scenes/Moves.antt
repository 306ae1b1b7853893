-- Steps of a task over any predicate that goes backwards: into a block, to a trap, past a tick.
use Rattle.std.proofs.Common.{◌≡◌, ℕ, Bool, false, cond, List, [], None, Ok, refl, ap, ◌∙◌}
use Rattle.beat_count.specs.Ticks.{is_tick_allowed}
use Rattle.tp_value.specs.declared.Place.{Place}
use Rattle.tp_value.specs.declared.TrapKind.{TrapKind}
use Rattle.tp_value.specs.declared.Stop.TheVariants.{Trap, NoFuel}
use Rattle.tpal_syntax.specs.Conditions.{is_ready}
use Rattle.tpal_syntax.specs.declared.instructions.Instr.{Instr}
use Rattle.tpal_syntax.specs.declared.instructions.Instr.TheVariants as instr
use Rattle.tpal_syntax.specs.declared.instructions.Term.{Term}
use Rattle.tpal_syntax.specs.declared.instructions.Value.TheVariants as value
use Rattle.tpal_syntax.specs.Listing.{Listing}
use Rattle.tpal_machine.specs.Effect as effect
use Rattle.tpal_machine.specs.Ended.{ended}
use Rattle.tpal_machine.specs.Reading.{note_of}
use Rattle.tpal_machine.specs.State.{State}
use Rattle.tpal_machine.specs.Step.{Ends, step, halting, advanced, at_block}
use Rattle.tpal_machine.proofs.Kit.{Back, IsNext, IsCalm, on_jump}
use Rattle.tpal_machine.proofs.Steps.{step_of_instr}
use Rattle.expr_lower.specs.Standing.{Remains}
use Rattle.expr_lower.proofs.Standing.{at_end}
use Rattle.scene_laws.specs.Code.{Opens, to}

pub opened : (code : Listing) (label : ℕ) (instrs : List Instr) (end : Term) → Opens code label instrs end → Remains code label 0 instrs end
opened code label instrs end o = record { block = o.block; found = o.found; rest = o.body; ends = o.ends }

pub calm : (code : Listing) (label : ℕ) (instrs : List Instr) (end : Term) → Opens code label instrs end → IsCalm code label
calm code label instrs end o = ap (λ b. is_ready (note_of b)) o.found ∙ ap is_ready o.noted

module _ (code : Listing) (heartbeat : ℕ) where
  -- the end of a block that jumps
  pub jumps : (K : Back code heartbeat) (state : State) (label : ℕ) (instrs : List Instr) (end : Term) → Remains code state.block state.at [] (to label) → Opens code label instrs end → K.Holds (at_block label (advanced state)) → K.Holds state
  jumps K state label instrs end here there holds =
      on_jump code heartbeat K state (value.Label label) label (at_end code state (to label) here) refl (calm code label instrs end there) holds

  -- a trap ends a task that has no record left to use
  pub traps : (state : State) (kind : TrapKind) (place : Place) → IsNext code state (instr.Trap kind place) → state.pending ≡ None → (allowed : Bool) → step code heartbeat allowed state ≡ Ends (ended code (Trap kind place) (advanced state))
  traps state kind place is free allowed =
      step_of_instr code heartbeat allowed state is.block (instr.Trap kind place) is.found is.is
      ∙ ap (λ p. halting code (effect.stops p (Trap kind place) (advanced state))) free

  -- so does a tick that isn't allowed
  pub spends : (state : State) → IsNext code state instr.Tick → is_tick_allowed state.fuel.limit state.fuel.ticks ≡ false → state.pending ≡ None → (allowed : Bool) → step code heartbeat allowed state ≡ Ends (ended code NoFuel (effect.with_tick (advanced state)))
  spends state is over free allowed =
      step_of_instr code heartbeat allowed state is.block instr.Tick is.found is.is
      ∙ ap (λ b. halting code (cond b (Ok (effect.Goes (effect.with_tick (advanced state)))) (effect.stops state.pending NoFuel (effect.with_tick (advanced state))))) over
      ∙ ap (λ p. halting code (effect.stops p NoFuel (effect.with_tick (advanced state)))) free
