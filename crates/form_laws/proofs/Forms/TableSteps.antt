-- The instructions that change a table, print one or make one, over any predicate that goes backwards.
use Rattle.std.proofs.Common.{◌≡◌, ℕ, List, Bool, true, false, cond, Some, None, Ok, refl, ap, ◌∙◌}
use Rattle.std.specs.Prelude.{ℤ}
use Rattle.slices.specs.Holding.{cell_at, with_cell}
use Rattle.tp_value.specs.declared.Place.{Place}
use Rattle.tp_value.specs.declared.Stop.TheVariants.{Trap}
use Rattle.tp_value.specs.declared.TrapKind.TheVariants.{Size}
use Rattle.tpal_syntax.specs.declared.instructions.Instr.TheVariants as instr
use Rattle.tpal_syntax.specs.declared.words.Word.TheVariants as word
use Rattle.tpal_syntax.specs.Listing.{Listing}
use Rattle.tpal_machine.specs.Effect as effect
use Rattle.tpal_machine.specs.Ended.{ended}
use Rattle.tpal_machine.specs.Reading.{register, table_at}
use Rattle.tpal_machine.specs.State.{State}
use Rattle.tpal_machine.specs.Step.{Ends, step, stepped, halting, advanced}
use Rattle.tpal_machine.proofs.Kit.{Back, IsNext}
use Rattle.tpal_machine.proofs.Steps.{step_of_instr}

module _ (code : Listing) (heartbeat : ℕ) where
  -- `put` sets a cell that is held
  pub on_put : (K : Back code heartbeat) (state : State) (table row col number : ℕ) (i j n before : ℤ) → IsNext code state (instr.Put table row col number)
      → register state.registers row ≡ word.Int i → register state.registers col ≡ word.Int j → register state.registers number ≡ word.Int n → cell_at (table_at state.tables table) i j ≡ Some before
      → K.Holds (effect.with_table (advanced state) table (with_cell (table_at state.tables table) i j n)) → K.Holds state
  on_put K state table row col number i j n before at first second third held holds =
      let gives : effect.put table row col number (advanced state) ≡ Ok (effect.with_table (advanced state) table (with_cell (table_at state.tables table) i j n)) = rw (first, second, third, held) refl in
      K.back state _ (λ allowed. step_of_instr code heartbeat allowed state at.block _ at.found at.is ∙ ap stepped gives) holds

  -- `emit` prints a table whose cells are all held
  pub on_emit : (K : Back code heartbeat) (state : State) (table : ℕ) (text : List ℕ) → IsNext code state (instr.Emit table) → effect.table_lines (table_at state.tables table) ≡ Some text
      → K.Holds (effect.with_output (advanced state) text) → K.Holds state
  on_emit K state table text at lines holds =
      K.back state _ (λ allowed. step_of_instr code heartbeat allowed state at.block _ at.found at.is ∙ ap (λ o. stepped (effect.put_output (advanced state) o)) lines) holds

  module _ (state : State) (table rows cols : ℕ) (m n : ℤ) (place : Place) (at : IsNext code state (instr.Make table rows cols place)) (first : register state.registers rows ≡ word.Int m) (second : register state.registers cols ≡ word.Int n) (makeable : effect.is_makeable code table state ≡ true) where
    -- what a `make` comes to, where the table may be made
    makes : (b : Bool) → effect.fits state.tables m n ≡ b → (allowed : Bool) → step code heartbeat allowed state ≡ halting code (cond b (Ok (effect.Goes (effect.with_made (advanced state) table (effect.magnitude m) (effect.magnitude n)))) (effect.stops state.pending (Trap Size place) (advanced state)))
    makes b fits allowed =
        let gives : effect.make code table rows cols place (advanced state) ≡ effect.made table m n place (advanced state) = rw (first, second, makeable) refl in
        step_of_instr code heartbeat allowed state at.block _ at.found at.is ∙ ap (halting code) gives
        ∙ ap (λ c. halting code (cond c (Ok (effect.Goes (effect.with_made (advanced state) table (effect.magnitude m) (effect.magnitude n)))) (effect.stops state.pending (Trap Size place) (advanced state)))) fits

    -- `make` makes a table that fits
    pub on_make : (K : Back code heartbeat) → effect.fits state.tables m n ≡ true → K.Holds (effect.with_made (advanced state) table (effect.magnitude m) (effect.magnitude n)) → K.Holds state
    on_make K fits holds = K.back state _ (makes true fits) holds

    -- where it doesn't fit it traps, in a task that has no record left to use
    pub make_traps : effect.fits state.tables m n ≡ false → state.pending ≡ None → (allowed : Bool) → step code heartbeat allowed state ≡ Ends (ended code (Trap Size place) (advanced state))
    make_traps fits free allowed = makes false fits allowed ∙ ap (λ p. halting code (effect.stops p (Trap Size place) (advanced state))) free
