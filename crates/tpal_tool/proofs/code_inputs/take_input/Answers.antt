use Rattle.std.proofs.Common.{◌≡◌, ℕ, List, get_or, Some, None, ap, sym, ◌∙◌, subst}
use Rattle.std.specs.Prelude.{unwrap_or}
use Rattle.std.specs.List.{position, remove}
use Rattle.slices.specs.Cells.{listed}
use Rattle.tp_value.specs.declared.values.Table.{Table}
use Rattle.loop_meaning.specs.State.{table_of}
use Rattle.scene_laws.specs.Tables.{IsTable, IsWholeOf}
use Rattle.block_lower.proofs.HeldTables.{whole_of}
use Rattle.tpal_tool.proofs.TakenTables.{has_name, place, place_found, place_has, place_taken}
use Rattle.tpal_tool.proofs.TakenTables.{table_of_all}
use Rattle.tpal_tool.proofs.code_inputs.take_input.Goals as goal

no_place : (k : ℕ) → None ≡ Some k → ⊥
no_place k is = cc

one_place : (k l : ℕ) → Some k ≡ Some l → k ≡ l
one_place k l is = ap (λ o. unwrap_or o k) is

pub unreachable-requires : goal.unreachable-requires
unreachable-requires c =
    no_place (place c.args.given.now.items c.args.name.now)
    (sym c.in-None.is ∙ c.place_of.ensures ∙ ap (position (has_name c.args.name.now)) c.deref.ensures.value ∙ place_found c.args.given.now.items c.args.name.now c.requires.given)

pub returns-clause-whole : goal.returns-clause-whole
returns-clause-whole c =
    let given : List Table = c.args.given.now.items in
    let name : List ℕ = c.args.name.now in
    let taken : Table = c.remove-rows.result in
    let here : c.in-Some.at ≡ place given name = one_place c.in-Some.at (place given name)
    (sym c.in-Some.is ∙ c.place_of.ensures ∙ ap (position (has_name name)) c.deref.ensures.value ∙ place_found given name c.requires.given) in
    let is : taken ≡ table_of given name = c.remove-rows.ensures.value ∙ ap (λ k. get_or given k taken) here ∙ place_has given name taken c.requires.given in
    let table : IsTable taken = subst (λ (t : Table). IsTable t) (sym is) (table_of_all given name c.requires.given c.requires.tables) in
    subst (λ (t : Table). IsWholeOf c.whole.result t) is
    (whole_of c.whole.result taken c.whole.ensures.rows c.whole.ensures.cols table.full
    (λ i j. c.whole.ensures.cells i j ∙ ap (λ cells. listed taken.rows taken.cols cells i j) c.into_vec.ensures))

pub returns-clause-others : goal.returns-clause-others
returns-clause-others c =
    let given : List Table = c.args.given.now.items in
    let name : List ℕ = c.args.name.now in
    let here : c.in-Some.at ≡ place given name = one_place c.in-Some.at (place given name)
    (sym c.in-Some.is ∙ c.place_of.ensures ∙ ap (position (has_name name)) c.deref.ensures.value ∙ place_found given name c.requires.given) in
    c.remove-rows.ensures.items ∙ ap (remove given) here ∙ place_taken given name
