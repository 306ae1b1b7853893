-- Before a cut the rows of the carries come into their registers.
use Rattle.std.proofs.Common.{◌≡◌, ℕ, suc, ◌+◌, ◌<◌, ◌≤◌, false, All, List, [], ◌∷◌, length, Some}
use Rattle.std.proofs.Common.{refl, ap, sym, ◌∙◌, arith}
use Rattle.std.proofs.lemmas.List.{length-set}
use Rattle.std.proofs.lemmas.List.Elements.{All-nil, All-cons}
use Rattle.std.specs.Prelude.{ℤ, pos, ⊤, slice_set}
use Rattle.std.specs.List.{list_any}
use Rattle.beat_count.specs.BeatState.{BeatState}
use Rattle.beat_count.specs.Heartbeat.{counted}
use Rattle.loop_syntax.specs.declared.Carry.{Carry}
use Rattle.loop_syntax.specs.declared.Carry.TheVariants as carry
use Rattle.loop_syntax.specs.declared.RowAt.{RowAt}
use Rattle.loop_syntax.specs.declared.RowAt.TheVariants as row
use Rattle.loop_meaning.specs.declared.value.Variable.{Variable}
use Rattle.loop_meaning.specs.State.{lookup}
use Rattle.stack_marks.specs.Stacks.{StackValue, word_at}
use Rattle.tpal_syntax.specs.declared.instructions.Instr.{Instr}
use Rattle.tpal_syntax.specs.declared.instructions.Term.{Term}
use Rattle.tpal_syntax.specs.declared.instructions.Value.TheVariants as value
use Rattle.tpal_syntax.specs.declared.words.Word.{Word}
use Rattle.tpal_syntax.specs.declared.words.Word.TheVariants.{Int}
use Rattle.tpal_syntax.specs.Listing.{Listing}
use Rattle.tpal_machine.specs.declared.cut.TableCut.TheVariants.{ByRows, ByCells}
use Rattle.tpal_machine.specs.Reading.{register}
use Rattle.tpal_machine.specs.State.{State}
use Rattle.tpal_machine.proofs.Kit.{Back}
use Rattle.expr_lower.specs.declared.scope.Scope.{Scope}
use Rattle.expr_lower.specs.Leaving.{moved}
use Rattle.expr_lower.specs.Scopes.{offset_of, table_number}
use Rattle.expr_lower.specs.Standing.{Remains}
use Rattle.expr_lower.proofs.Keeping.{register_set, register_other}
use Rattle.handler_gen.specs.LoopCuts.{HasRow, number_of, table_cuts}
use Rattle.handler_gen.specs.Sites.{is_of_cells}
use Rattle.handler_gen.proofs.Straight.{loads, moves}
use Rattle.handler_gen.specs.Registers.{cut_register}
use Rattle.scene_laws.specs.Sites.{carries_from, row_load, row_register, rows_from}
use Rattle.scene_laws.proofs.Cuts.OwnWork.{cuts_by}
use Rattle.scene_laws.proofs.Cuts.Sides.{row_number}

-- the registers of rows hold their numbers
abbrev pub HaveRows : List Variable → ℕ → List Carry → List Word → Type 0
HaveRows vs before [] words = ⊤
HaveRows vs before (carry.Rows t i ∷ cs) words = HaveRows vs (suc before) cs words
HaveRows vs before (carry.Cells t k j ∷ cs) words =
    (register words (row_register before) ≡ Int (row_number vs k))
    × HaveRows vs (suc before) cs words

-- where a row is a variable, its cell holds its value
abbrev pub IsFound : Scope → List Variable → StackValue → ℕ → RowAt → Type 0
IsFound scope vs s z (row.Int n) = ⊤
IsFound scope vs s z (row.Var x) =
    word_at s (pos (z + offset_of scope x.text.items)) ≡ Some (Int (lookup vs x.text.items))

abbrev pub AreFound : Scope → List Variable → StackValue → ℕ → List Carry → Type 0
AreFound scope vs s z [] = ⊤
AreFound scope vs s z (carry.Rows t i ∷ cs) = AreFound scope vs s z cs
AreFound scope vs s z (carry.Cells t k j ∷ cs) =
    IsFound scope vs s z k × AreFound scope vs s z cs

-- the rows of carries from one on are loaded: no register below theirs changes, and none from 24 on
pub record AreLoaded (vs : List Variable) (before : ℕ) (cs : List Carry) (words later : List Word)
    : Type 0 where
  pub size : length later ≡ length words
  pub below : (r : ℕ) → r < row_register before → register later r ≡ register words r
  pub above : (r : ℕ) → 24 ≤ r → register later r ≡ register words r
  pub rows : HaveRows vs before cs later

-- ---- the loads

-- the register of a row is set first, and then those of the rows behind it
one_more : (vs : List Variable) (before : ℕ) (k : RowAt) (cs : List Carry)
    (words later : List Word) → length words ≡ 32 → row_register before < 24
    → AreLoaded vs (suc before) cs
    (slice_set words (row_register before) (Int (row_number vs k))) later
    → (register later (row_register before) ≡ Int (row_number vs k))
    × ((r : ℕ) → r < row_register before → register later r ≡ register words r)
    × ((r : ℕ) → 24 ≤ r → register later r ≡ register words r)
one_more vs before k cs words later size small h = (
  h.below own (omega arith) ∙ register_set words own w (omega (arith, size, small)),
  λ r lt. h.below r (omega (arith, lt)) ∙ register_other words own r w
      (λ e. absurd (omega (arith, e, lt))),
  λ r from. h.above r from ∙ register_other words own r w
      (λ e. absurd (omega (arith, e, from, small))),
)
  where
    own : ℕ
    own = row_register before

    w : Word
    w = Int (row_number vs k)

module _ (code : Listing) (heartbeat : ℕ) (K : Back code heartbeat) (scope : Scope)
    (vs : List Variable) (z : ℕ) (end : Term) (s : State) where
  -- one row comes into a register
  loads_row : (k : RowAt) (r : ℕ) (more : List Instr) (words : List Word) (beat : BeatState)
      (at : ℕ) → register words cut_register ≡ Int (pos z) → IsFound scope vs s.stack z k
      → Remains code s.block at (row_load scope r k ∷ more) end
      → (Remains code s.block (at + 1) more end
      → K.Holds (moved s (slice_set words r (Int (row_number vs k))) (counted beat) (at + 1)))
      → K.Holds (moved s words beat at)
  loads_row (row.Int n) r more words beat at base found stands go =
      moves code heartbeat K end s words beat at more r (value.Int n) (Int n) stands refl go
  loads_row (row.Var x) r more words beat at base found stands go =
      loads code heartbeat K end s words beat at more r cut_register
      (offset_of scope x.text.items) (pos z) (Int (lookup vs x.text.items)) stands base found go

  pub loads_rows : (cs : List Carry) (before : ℕ) (words : List Word) (beat : BeatState) (at : ℕ)
      → before + length cs ≤ 23 → length words ≡ 32
      → register words cut_register ≡ Int (pos z) → AreFound scope vs s.stack z cs
      → Remains code s.block at (rows_from scope before cs) end
      → ((later : List Word) (later_beat : BeatState) (there : ℕ)
      → AreLoaded vs before cs words later → later_beat.quiet ≡ beat.quiet
      → later_beat.granted ≡ beat.granted → Remains code s.block there [] end
      → K.Holds (moved s later later_beat there))
      → K.Holds (moved s words beat at)
  loads_rows [] before words beat at few size base found stands go =
      go words beat at
      (record { size = refl; below = λ r lt. refl; above = λ r from. refl; rows = tt })
      refl refl stands
  loads_rows (carry.Rows t i ∷ cs) before words beat at few size base found stands go =
      loads_rows cs (suc before) words beat at (omega (arith, few)) size base found stands
      (λ later later_beat there h quiet granted left.
      go later later_beat there
      (record {
        size = h.size;
        below = λ r lt. h.below r (omega (arith, lt));
        above = h.above;
        rows = h.rows;
      }) quiet granted left)
  loads_rows (carry.Cells t k j ∷ cs) before words beat at few size base found stands go =
      let own : ℕ = row_register before in
      let small : own < 24 = omega (arith, few) in
      let after : List Word = slice_set words own (Int (row_number vs k)) in
      let many : length after ≡ length words = length-set words own (Int (row_number vs k)) in
      loads_row k own (rows_from scope (suc before) cs) words beat at base found.0 stands (λ left.
      loads_rows cs (suc before) after (counted beat) (at + 1) (omega (arith, few))
      (many ∙ size)
      (register_other words own cut_register (Int (row_number vs k))
      (λ e. absurd (omega (arith, e, small))) ∙ base) found.1 left
      (λ later later_beat there h quiet granted remains.
      let all = one_more vs before k cs words later size small h in
      go later later_beat there
      (record {
        size = h.size ∙ many;
        below = all.1;
        above = all.2;
        rows = (all.0, h.rows);
      }) quiet granted remains))

-- ---- what the handler reads of them

module _ (scope : Scope) (vs : List Variable) where
  -- a carry that has a row has a number in its register
  pub rows_read : (cs : List Carry) (before : ℕ) (words : List Word)
      → HaveRows vs before cs words → All (HasRow words) (carries_from scope before cs)
  rows_read [] before words have = All-nil (HasRow words)
  rows_read (carry.Rows t i ∷ cs) before words have =
      All-cons (HasRow words) _ (carries_from scope (suc before) cs) tt
      (rows_read cs (suc before) words have)
  rows_read (carry.Cells t k j ∷ cs) before words have =
      All-cons (HasRow words) _ (carries_from scope (suc before) cs)
      (have.0 ∙ ap (λ (w : Word). Int (number_of w)) (sym have.0))
      (rows_read cs (suc before) words have.1)

  -- tables are cut in those rows
  pub cut_in_rows : (middle : ℤ) (cs : List Carry) (before : ℕ) (words : List Word)
      → HaveRows vs before cs words
      → table_cuts words middle (carries_from scope before cs) ≡ cuts_by scope vs middle cs
  cut_in_rows middle [] before words have = refl
  cut_in_rows middle (carry.Rows t i ∷ cs) before words have =
      ap (λ rest. (table_number scope t.text.items, ByRows middle) ∷ rest)
      (cut_in_rows middle cs (suc before) words have)
  cut_in_rows middle (carry.Cells t k j ∷ cs) before words have =
      ap (λ (w : Word). (table_number scope t.text.items, ByCells (number_of w) middle)
      ∷ table_cuts words middle (carries_from scope (suc before) cs)) have.0
      ∙ ap (λ rest. (table_number scope t.text.items, ByCells (row_number vs k) middle) ∷ rest)
      (cut_in_rows middle cs (suc before) words have.1)

  -- where no carry has a row there is nothing to load
  pub no_rows : (cs : List Carry) (before : ℕ) (words : List Word)
      → list_any is_of_cells (carries_from scope before cs) ≡ false → HaveRows vs before cs words
  no_rows [] before words none = tt
  no_rows (carry.Rows t i ∷ cs) before words none = no_rows cs (suc before) words none
  no_rows (carry.Cells t k j ∷ cs) before words none = cc
