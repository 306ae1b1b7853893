-- The instructions of a call: in front of its function, and behind it.
use Rattle.std.specs.Prelude.{ℕ, zero, suc, ◌+◌, pos, List, [], ◌∷◌}
use Rattle.tp_value.specs.declared.Place.{Place}
use Rattle.tp_value.specs.declared.TrapKind.TheVariants.{Deep}
use Rattle.tpal_syntax.specs.declared.instructions.Alu.TheVariants.{Add, Sub}
use Rattle.tpal_syntax.specs.declared.instructions.Instr.{Instr}
use Rattle.tpal_syntax.specs.declared.instructions.Instr.TheVariants as instr
use Rattle.tpal_syntax.specs.declared.instructions.Value.TheVariants as value
use Rattle.tpal_syntax.specs.Listing.{Listing}
use Rattle.expr_lower.specs.Registers.{base_register}
use Rattle.scene_laws.specs.Layout.{Activation, kept_argument, levels_cell, return_cell}
use Rattle.scene_laws.specs.Layout.{value_cell}
use Rattle.scene_laws.specs.Opening.{load, store}

-- the end of a call, where the arguments stand in the new activation: a tick, and a trap where no
-- level is left
abbrev pub call_test : ℕ → Place → List Instr
call_test go place =
    instr.Tick ∷ load 0 levels_cell ∷ instr.IfJump 0 go ∷ instr.Trap Deep place ∷ []

-- the callee's levels and its label to return to; its activation is the one that runs
abbrev pub call_entry : ℕ → ℕ → List Instr
call_entry size back =
    instr.Calc 0 0 Sub (value.Int (pos 1)) ∷ store (size + levels_cell) (value.Reg 0)
    ∷ store (size + return_cell) (value.Label back)
    ∷ instr.Calc base_register base_register Add (value.Int (pos size)) ∷ []

-- behind a call the callee's activation is gone, and the caller's runs again
abbrev pub call_exit : ℕ → ℕ → List Instr → List Instr
call_exit callee size more =
    instr.Sfree callee ∷ instr.Calc base_register base_register Sub (value.Int (pos size)) ∷ more

-- The code of the statements of main, or of a function, that stands on this.
module _ (code : Listing) (act : Activation) where
  -- the cell of a parameter in the activation that begins behind this one
  abbrev pub parameter_cell : ℕ → ℕ
  parameter_cell i = act.size + value_cell i

  -- kept arguments, from one on, become those of a call
  abbrev pub passed : ℕ → ℕ → List Instr → List Instr
  passed zero i more = more
  passed (suc n) i more =
      load 0 (kept_argument act i) ∷ store (parameter_cell i) (value.Reg 0) ∷ passed n (suc i) more
