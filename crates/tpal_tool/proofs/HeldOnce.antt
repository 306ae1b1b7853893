-- What the first task of a run of a code holds is one list, and so the run comes to one report.
use Rattle.std.proofs.Common.{◌≡◌, ℤ, Bool, true, false, List, [], ◌∷◌, refl, sym, ap}
use Rattle.std.proofs.Common.{◌∙◌}
use Rattle.slices.specs.Holding.{Holding, cell_at}
use Rattle.slices.proofs.Maps.{same_cells}
use Rattle.tp_value.specs.declared.values.Table.{Table}
use Rattle.loop_meaning.specs.State.{has_cell, table_of}
use Rattle.tpal_syntax.specs.Listing.{Listing}
use Rattle.tpal_syntax.specs.declared.blocks.CodeTable.{CodeTable}
use Rattle.tpal_syntax.specs.declared.blocks.CodeTable.TheVariants.{Input, Made}
use Rattle.tpal_verify.specs.declared.report.ExecReport.{ExecReport}
use Rattle.tpal_verify.specs.Exec.{exec}
use Rattle.tpal_tool.specs.CodeInputs.{AreCodeHeld, IsInputOf, IsUnmade}
use Rattle.tpal_tool.specs.ExecOwed.{ComesTo}
use Rattle.tpal_tool.specs.Words.{ExecOptions}
use Rattle.tpal_tool.proofs.Endings.{some_same}

-- one table is held whole in one way
input_once : (g h : Holding) (t : Table) → IsInputOf g t → IsInputOf h t → g ≡ h
input_once g h t mine other =
    λ i. record { rows = (mine.whole.rows ∙ sym other.whole.rows) i; cols = (mine.whole.cols ∙ sym other.whole.cols) i; cells = cells i; owned = (mine.owned ∙ sym other.owned) i }
  where
    at : (row col : ℤ) (b : Bool) → has_cell t row col ≡ b → cell_at g row col ≡ cell_at h row col
    at row col true is = mine.whole.cells row col is ∙ sym (other.whole.cells row col is)
    at row col false is = mine.whole.outside row col is ∙ sym (other.whole.outside row col is)

    cells : g.cells ≡ h.cells
    cells = same_cells g.cells h.cells (λ row col. at row col (has_cell t row col) refl)

unmade_once : (g h : Holding) → IsUnmade g → IsUnmade h → g ≡ h
unmade_once g h mine other =
    λ i. record { rows = (mine.rows ∙ sym other.rows) i; cols = (mine.cols ∙ sym other.cols) i; cells = (mine.cells ∙ sym other.cells) i; owned = (mine.owned ∙ sym other.owned) i }

pub held_once : (tables : List CodeTable) (given : List Table) (held others : List Holding) → AreCodeHeld tables given held → AreCodeHeld tables given others → held ≡ others
held_once [] given [] [] mine other = refl
held_once [] given [] (h ∷ hs) mine other = absurd other
held_once [] given (g ∷ gs) others mine other = absurd mine
held_once (t ∷ ts) given [] others mine other = absurd mine
held_once (t ∷ ts) given (g ∷ gs) [] mine other = absurd other
held_once (Input name ∷ ts) given (g ∷ gs) (h ∷ hs) mine other =
    λ i. input_once g h (table_of given name) mine.0 other.0 i ∷ held_once ts given gs hs mine.1 other.1 i
held_once (Made ∷ ts) given (g ∷ gs) (h ∷ hs) mine other = λ i. unmade_once g h mine.0 other.0 i ∷ held_once ts given gs hs mine.1 other.1 i

pub report_once : (code : Listing) (inputs : List Table) (options : ExecOptions) (report other : ExecReport) → ComesTo code inputs options report → ComesTo code inputs options other → report ≡ other
report_once code inputs options report other mine its =
    some_same (sym mine.told
    ∙ ap (λ held. exec options.steps code options.beat options.forks held options.fuel) (held_once code.tables inputs mine.holdings its.holdings mine.are_held its.are_held)
    ∙ its.told)
