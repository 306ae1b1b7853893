-- The law of `emit`: the lines of a table that is wholly held are those of its numbers.
use Rattle.std.proofs.Common.{◌≡◌, ℕ, zero, suc, ◌+◌, ◌*◌, ◌<◌, ◌≤◌, true, List, [], ◌∷◌, length}
use Rattle.std.proofs.Common.{take, drop, Option, Some, refl, sym, ap, subst, ◌∙◌, arith, drop-cons}
use Rattle.std.specs.Prelude.{ℤ, pos, ◌&&◌, nat_lt, slice_index_or}
use Rattle.std.proofs.Math.Nat.{mul-le-mul_left}
use Rattle.std.proofs.lemmas.Bool.{lt-ltb}
use Rattle.std.proofs.lemmas.List.{drop-drop}
use Rattle.slices.specs.Holding.{Holding, cell_at}
use Rattle.tp_value.specs.declared.Place.{Place}
use Rattle.tp_value.specs.declared.Table.{Table}
use Rattle.loop_syntax.specs.declared.Name.{Name}
use Rattle.loop_syntax.specs.declared.Stmt.TheVariants.{Emit}
use Rattle.loop_meaning.specs.State as meaning
use Rattle.loop_meaning.specs.State.{Emits, has_cell, print_table, row_lines, table_of}
use Rattle.loop_meaning.specs.Statements.{Setting, run}
use Rattle.table_text.specs.RowText.{row_text}
use Rattle.tpal_syntax.specs.declared.instructions.Instr.{Instr}
use Rattle.tpal_syntax.specs.declared.instructions.Instr.TheVariants as instr
use Rattle.tpal_syntax.specs.declared.instructions.Term.{Term}
use Rattle.tpal_syntax.specs.Listing.{Listing}
use Rattle.tpal_machine.specs.Effect as effect
use Rattle.tpal_machine.specs.Effect.{line_of, numbers_from, row_numbers, rows_text, table_lines}
use Rattle.tpal_machine.specs.Effect.{with_first, with_line}
use Rattle.tpal_machine.specs.Reading.{table_at}
use Rattle.tpal_machine.specs.Step.{advanced}
use Rattle.expr_lower.specs.Scopes.{table_number}
use Rattle.expr_lower.proofs.Standing.{next, behind}
use Rattle.scene_laws.specs.Code.{IsTable}
use Rattle.scene_laws.specs.Layout.{Activation}
use Rattle.scene_laws.proofs.Scenes.Results.{Result, noting, result, then}
use Rattle.scene_laws.proofs.Scenes.Scene.{Scene, OwedSeen}
use Rattle.scene_laws.proofs.Scenes.Showing.{shows_output}
use Rattle.form_laws.proofs.Forms.TableSteps.{on_emit}
use Rattle.scene_laws.specs.Tables.{IsWholeOf}
use Rattle.scene_laws.proofs.Scenes.Regions.{shown_whole}
use Rattle.scene_laws.proofs.Scenes.Values.{shown}

-- numbers that stand in a list, from a place on
numbers_are : (value_of : ℕ → Option ℤ) (xs : List ℤ) (base n at : ℕ) → base + at + n ≤ length xs → ((c : ℕ) → c < at + n → value_of c ≡ Some (slice_index_or xs (base + c) (pos 0))) → numbers_from value_of at n ≡ Some (take n (drop (base + at) xs))
unfolding numbers_from
numbers_are value_of xs base zero at room are = ap Some (sym (nothing (drop (base + at) xs)))
  where
    nothing : (ys : List ℤ) → take zero ys ≡ []
    nothing [] = refl
    nothing (y ∷ ys) = refl
numbers_are value_of xs base (suc n) at room are =
    let behind_it : base + (at + 1) ≡ suc (base + at) = omega arith in
    let others : numbers_from value_of (at + 1) n ≡ Some (take n (drop (suc (base + at)) xs)) =
    numbers_are value_of xs base n (at + 1) (omega (arith, room)) (λ c below. are c (omega (arith, below))) ∙ ap (λ i. Some (take n (drop i xs))) behind_it in
    let first : value_of at ≡ Some (slice_index_or xs (base + at) (pos 0)) = are at (omega arith) in
    ap (λ o. with_first o (numbers_from value_of (at + 1) n)) first
    ∙ (ap (λ o. with_first (Some (slice_index_or xs (base + at) (pos 0))) o) others
    ∙ ap (λ ys. Some (take (suc n) ys)) (sym (drop-cons xs (base + at) (pos 0) (omega (arith, room)))))

module _ (h : Holding) (t : Table) (held : IsWholeOf h t) where
  row_is : (row : ℕ) → row < t.rows → row_numbers h row ≡ Some (take t.cols (drop (row * t.cols) t.cells))
  row_is row below =
      let in_rows : nat_lt row t.rows ≡ true = lt-ltb row t.rows below in
      let inside : row * t.cols + t.cols ≤ length t.cells = omega (arith, held.full, mul-le-mul_left t.cols below) in
      let at_zero : row * t.cols + 0 ≡ row * t.cols = omega arith in
      ap (λ n. numbers_from (λ col. cell_at h (pos row) (pos col)) 0 n) held.cols
      ∙ (numbers_are (λ col. cell_at h (pos row) (pos col)) t.cells (row * t.cols) t.cols 0 (omega (arith, inside))
      (λ c small. held.cells (pos row) (pos c) (ap (λ b. b && nat_lt c t.cols) in_rows ∙ lt-ltb c t.cols (omega (arith, small))))
      ∙ ap (λ n. Some (take t.cols (drop n t.cells))) at_zero)

  rows_are : (n at : ℕ) → at + n ≤ t.rows → rows_text h at n ≡ Some (row_lines n t.cols (drop (at * t.cols) t.cells))
  unfolding rows_text
  rows_are zero at room = refl
  rows_are (suc n) at room =
      let further : (at + 1) * t.cols ≡ at * t.cols + t.cols = omega arith in
      let rest : rows_text h (at + 1) n ≡ Some (row_lines n t.cols (drop t.cols (drop (at * t.cols) t.cells))) =
      rows_are n (at + 1) (omega (arith, room)) ∙ ap (λ xs. Some (row_lines n t.cols xs)) (ap (λ i. drop i t.cells) further ∙ sym (drop-drop t.cols (at * t.cols) t.cells)) in
      ap (λ o. with_line (line_of o) (rows_text h (at + 1) n)) (row_is at (omega (arith, room)))
      ∙ ap (λ o. with_line (Some (row_text (take t.cols (drop (at * t.cols) t.cells)))) o) rest

  pub lines_are : table_lines h ≡ Some (row_lines t.rows t.cols t.cells)
  lines_are =
      let none : 0 * t.cols ≡ 0 = omega arith in
      ap (λ n. rows_text h 0 n) held.rows ∙ (rows_are t.rows 0 (omega arith) ∙ ap (λ i. Some (row_lines t.rows t.cols (drop i t.cells))) none)

module _ (code : Listing) (heartbeat z : ℕ) (act : Activation) (set : Setting) (S : Scene code heartbeat z) (names : List (List ℕ)) (k : meaning.State → Result) where
  pub emit_law : (place : Place) (t : Name) (table : ℕ) (more : List Instr) (end : Term)
      → IsTable code act S.registers names t.text.items table
      → OwedSeen code heartbeat z act set.fuel S names more end k
      → OwedSeen code heartbeat z act set.fuel S names (instr.Emit table ∷ more) end
      (λ st. then (result (run set (Emit place t) st)) k)
  emit_law place t table more end is post i st state shows stands =
      let meant : Table = table_of st.tables t.text.items in
      let text : List ℕ = row_lines meant.rows meant.cols meant.cells in
      S.touches i (Emits t.text.items ∷ []) (k (print_table meant st)) state (tt, tt) (λ given.
      let held : IsWholeOf (table_at state.tables table) meant =
      subst (λ n. IsWholeOf (table_at state.tables n) meant) (sym is.is)
      (shown_whole (S.region i t.text.items) (table_at state.tables (table_number is.scope t.text.items)) meant (shown code heartbeat z act set.fuel S i names st state shows is.scope is.sees t.text.items is.inside)
      (S.covers i (noting (Emits t.text.items ∷ []) (k (print_table meant st))) given).0) in
      on_emit code heartbeat (S.owing i (k (print_table meant st))) state table text (next code state _ more end stands) (lines_are (table_at state.tables table) meant held)
      (post i (print_table meant st) (effect.with_output (advanced state) text) (shows_output code heartbeat z act set.fuel S i shows text) (behind code state.block state.at _ more end stands)))
