-- Where a pass is between two calls, for passes at whose ends 0 is owed.
use Rattle.std.specs.Prelude.{ℕ, Option, None, Some}
use Rattle.tpal_machine.specs.declared.ends.End.{End}
use Rattle.join_records.specs.declared.load.Load.{Ghosts}
use Rattle.join_records.specs.declared.table.Pass.{Pass}
use Rattle.join_records.specs.declared.table.Records.{Records}
use Rattle.join_records.specs.Views.{Holds, HoldsNothing, NoneMet}
use Rattle.join_records.specs.Passes.{IsPassOf, view}

module _ {L R C D : Type 0} {G : Ghosts L R C D ℕ} where
  -- the pass holds this end alone, or nothing
  abbrev pub HoldsJust : Option End → Pass L R C D ℕ G → Type 0
  HoldsJust None p = HoldsNothing (view p)
  HoldsJust (Some end) p = Holds (view p) end 0

  -- the pass is one of the table, holds this end alone, or nothing, and no record in its hand is
  -- met
  abbrev pub Sits : Records L R C D ℕ → Option End → Pass L R C D ℕ G → Type 0
  Sits t end p = IsPassOf t p × HoldsJust end p × NoneMet (view p)
