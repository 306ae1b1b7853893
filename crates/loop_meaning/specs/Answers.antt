-- What an outcome owes: its text and its status.
use Rattle.std.specs.Prelude.{ℕ, List, [], ◌∷◌, ◌++◌, codes}
use Rattle.std.specs.Fmt.{decimal}
use Rattle.tp_value.specs.declared.Place.{Place}
use Rattle.tp_value.specs.declared.TrapKind.{TrapKind}
use Rattle.tp_value.specs.declared.TrapKind.TheVariants.{Divide, Index, Deep, Size, Wide}
use Rattle.tp_value.specs.declared.Stop.{Stop}
use Rattle.tp_value.specs.declared.Stop.TheVariants.{Done, Left, Trap, NoFuel}
use Rattle.tp_value.specs.declared.Outcome.{Outcome}

-- the name of a trap
abbrev pub kind_name : TrapKind → List ℕ
kind_name Divide = codes "Divide"
kind_name Index = codes "Index"
kind_name Deep = codes "Deep"
kind_name Size = codes "Size"
kind_name Wide = codes "Wide"

-- a place, as LINE:COL
abbrev pub place_text : Place → List ℕ
place_text p = decimal p.line ++ (58 ∷ decimal p.col)

-- the line of a run that stopped early
abbrev pub stop_line : Stop → List ℕ
stop_line Done = []
stop_line (Left n) = []
stop_line (Trap kind place) =
    codes "trap " ++ (kind_name kind ++ (codes " at " ++ (place_text place ++ 10 ∷ [])))
stop_line NoFuel = codes "out of fuel" ++ 10 ∷ []

-- the output, and that line
abbrev pub text_of : Outcome → List ℕ
text_of o = o.output ++ stop_line o.stop

abbrev pub by_stop : {A : Type 0} → A → A → A → Stop → A
by_stop done trap spent Done = done
by_stop done trap spent (Left n) = done
by_stop done trap spent (Trap kind place) = trap
by_stop done trap spent NoFuel = spent

-- the status of a run: the first of these where it was done, the second where it trapped, the third
-- where it ran out of fuel
abbrev pub status_of : {A : Type 0} → A → A → A → Outcome → A
status_of done trap spent o = by_stop done trap spent o.stop
