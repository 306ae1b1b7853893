-- What a function does itself: which tables it reads, and which functions it calls.
use Rattle.std.specs.Prelude.{ℕ, Bool, false, ◌||◌, List, [], ◌∷◌, bytes_eq, Option, Some, None}
use Rattle.loop_syntax.specs.declared.Func.{Func}
use Rattle.loop_syntax.specs.declared.Program.{Program}
use Rattle.loop_rules.specs.Sites.{Act, ReadsCell, Calls, Site, Spot, in_func}
use Rattle.loop_check.specs.declared.usage.Usage.{Usage}
use Rattle.loop_check.specs.declared.usage.Usage.TheVariants as usage
use Rattle.loop_check.specs.Walk.{spot}

-- whether that is a read of the table t
abbrev pub reads_table : Usage → List ℕ → Bool
reads_table (usage.Reads read) table = bytes_eq table read.now
reads_table (usage.Calls called) table = false

-- whether that is a call of the function f
abbrev pub calls_func : Usage → List ℕ → Bool
calls_func (usage.Reads read) func = false
calls_func (usage.Calls called) func = bytes_eq func called.now

-- whether that is done at a place
abbrev pub is_use : Usage → Act → Bool
is_use what (ReadsCell table row_index column_index) = reads_table what table.text.items
is_use what (Calls func arguments) = calls_func what func.text.items
is_use what _ = false

-- whether that was found, or is done at one of these places
abbrev pub any_use : Usage → Bool → List Site → Bool
any_use what found [] = found
any_use what found (site ∷ sites) = any_use what (is_use what site.act || found) sites

-- a spot that nothing is known of
abbrev pub anywhere : Spot
anywhere = spot [] [] []

-- whether a function does that
abbrev pub uses : Program → Usage → Option Func → Bool
uses program what None = false
uses program what (Some func) = any_use what false (in_func program func)
