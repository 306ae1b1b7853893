use Rattle.std.proofs.Common.{ℕ, ◌+◌, ◌∷◌, [], ◌++◌, List, ap, sym, ◌∙◌, subst, arith}
use Rattle.slices.specs.Holding.{Holding}
use Rattle.tp_value.specs.declared.values.Table.{Table}
use Rattle.loop_meaning.specs.State.{table_of}
use Rattle.tpal_syntax.specs.declared.blocks.CodeTable.{CodeTable}
use Rattle.tpal_tool.specs.CodeInputs.{AreCodeHeld, IsInputOf}
use Rattle.tpal_tool.specs.Inputs.{is_given, without}
use Rattle.tpal_tool.proofs.CodeDeclarations.{SoFar, are_apart, at_first, at_last, behind_input}
use Rattle.tpal_tool.proofs.CodeDeclarations.{behind_made, input_left}
use Rattle.tpal_tool.proofs.code_inputs.hold_inputs.Goals.{in-Input, in-Made}
use Rattle.tpal_tool.proofs.code_inputs.hold_inputs.Goals as goal

pub loop-table-init : goal.loop-table-init
loop-table-init c =
    subst (λ (ts : List CodeTable). SoFar ts c.args.given.items 0 c.args.given.items c.new-held.result.items) (sym c.tables-table-items.ensures.tables)
    (subst (λ (hs : List Holding). SoFar c.args.code.now.tables c.args.given.items 0 c.args.given.items hs) (sym c.new-held.ensures.items)
    (at_first c.args.code.now.tables c.args.given.items c.requires.complete (are_apart c.args.code.now.tables c.tables-table-items.ensures.right.inputs.names_differ) c.requires.tables))

pub take_input-table-requires-clause-given : goal.take_input-table-requires-clause-given
take_input-table-requires-clause-given c =
    ap (is_given c.loop-table.given.items) c.items.ensures
    ∙ (input_left c.tables-table-items.result.now c.args.given.items c.loop-table.table-index c.loop-table.given.items c.loop-table.held.items c.loop-table.invariant c.table-item.result c.loop-table-test.true c.table-item.is c.in-Input.name c.in-Input.is).0

pub take_input-table-requires-clause-tables : goal.take_input-table-requires-clause-tables
take_input-table-requires-clause-tables c = c.loop-table.invariant.tables

pub loop-table-preserved : goal.loop-table-preserved
loop-table-preserved c =
    let ts : List CodeTable = c.tables-table-items.result.now in
    let given : List Table = c.args.given.items in
    let i : ℕ = c.loop-table.table-index in
    let left : List Table = c.loop-table.given.items in
    let held : List Holding = c.loop-table.held.items in
    let t : CodeTable = c.table-item.result in
    subst (λ (hs : List Holding). SoFar ts given (i + 1) c.match-table.given.items hs) (sym c.in_ok-push.ensures.items)
    (elim c.match-table.branch [
      | in-Input w ↦
          let whole : IsInputOf c.match-table.table (table_of left w.in-Input.name) =
          subst (λ (h : Holding). IsInputOf h (table_of left w.in-Input.name)) (sym w.table-is)
          (subst (λ (name : List ℕ). IsInputOf w.take_input-table.result (table_of left name)) w.items.ensures
          (record { whole = w.take_input-table.ensures.whole; owned = w.take_input-table.ensures.owned })) in
          subst (λ (us : List Table). SoFar ts given (i + 1) us (held ++ c.match-table.table ∷ []))
          (sym (ap (λ list. list.items) w.given-is ∙ w.take_input-table.ensures.others ∙ ap (without left) w.items.ensures))
          (behind_input ts given i left held c.loop-table.invariant t c.loop-table-test.true c.table-item.is w.in-Input.name c.match-table.table w.in-Input.is whole)
      | in-Made w ↦
          subst (λ (us : List Table). SoFar ts given (i + 1) us (held ++ c.match-table.table ∷ [])) (sym (ap (λ list. list.items) w.given-is))
          (behind_made ts given i left held c.loop-table.invariant t c.loop-table-test.true c.table-item.is c.match-table.table w.in-Made.is
          (record {
            rows = ap (λ h. h.rows) w.table-is ∙ w.none-table.ensures.rows;
            cols = ap (λ h. h.cols) w.table-is ∙ w.none-table.ensures.cols;
            cells = ap (λ h. h.cells) w.table-is ∙ w.none-table.ensures.cells;
            owned = ap (λ h. h.owned) w.table-is ∙ w.none-table.ensures.owned;
          }))
    ])

pub returns : goal.returns
returns c =
    subst (λ (ts : List CodeTable). AreCodeHeld ts c.args.given.items c.loop-table.held.items) c.tables-table-items.ensures.tables
    (at_last c.tables-table-items.result.now c.args.given.items c.loop-table.table-index c.loop-table.given.items c.loop-table.held.items c.loop-table.invariant (omega (arith, c.loop-table-test.false)))
