-- The registers of a leaf loop are loaded from their cells.
use Rattle.std.proofs.Common.{◌≡◌, ℕ, suc, ◌+◌, ◌-◌, ◌<◌, ◌≤◌, All, List, [], ◌∷◌, ◌++◌, length}
use Rattle.std.proofs.Common.{Some, refl, ap, sym, ◌∙◌, arith}
use Rattle.std.proofs.lemmas.List.{length-set}
use Rattle.std.proofs.lemmas.List.Elements.{All-head, All-tail}
use Rattle.std.specs.Prelude.{pos, slice_index_or, slice_set}
use Rattle.beat_count.specs.BeatState.{BeatState}
use Rattle.beat_count.specs.Heartbeat.{counted}
use Rattle.stack_marks.specs.Stacks.{StackValue, word_at}
use Rattle.tp_value.specs.declared.Op.{Op}
use Rattle.tpal_syntax.specs.declared.instructions.Instr.{Instr}
use Rattle.tpal_syntax.specs.declared.instructions.Term.{Term}
use Rattle.tpal_syntax.specs.declared.words.Word.{Word}
use Rattle.tpal_syntax.specs.declared.words.Word.TheVariants.{Int, Nil}
use Rattle.tpal_syntax.specs.Listing.{Listing}
use Rattle.tpal_machine.specs.Reading.{register}
use Rattle.tpal_machine.specs.State.{State}
use Rattle.tpal_machine.proofs.Kit.{Back}
use Rattle.expr_lower.specs.Leaving.{moved}
use Rattle.expr_lower.specs.Standing.{Remains}
use Rattle.expr_lower.proofs.Keeping.{register_set, register_other}
use Rattle.tpal_syntax.specs.declared.sites.LeafSite.{LeafSite}
use Rattle.handler_gen.specs.LeafBlocks.{loads_of}
use Rattle.handler_gen.specs.LeafCuts.{HaveRegisters}
use Rattle.handler_gen.specs.LeafSites.{IsLeafSite, registers_from, registers_of, stored_loop}
use Rattle.handler_gen.proofs.Cells.{Has, some_word}
use Rattle.handler_gen.proofs.Offsets.{cells_of, accs_in, bound_in, cursor_in}
use Rattle.handler_gen.proofs.Straight.{loads}

-- registers behind the loads of accumulators into those from one on
record AreLoaded (r : ℕ) (accs : List (ℕ × Op)) (z : ℕ) (stack : StackValue)
    (before words : List Word) : Type 0 where
  size : length words ≡ length before
  below : (q : ℕ) → q < r → register words q ≡ register before q
  above : (q : ℕ) → 30 ≤ q → register words q ≡ register before q
  have : HaveRegisters (registers_from r accs) z words stack

one_loaded : (r : ℕ) (a : ℕ × Op) (accs : List (ℕ × Op)) (z : ℕ) (stack : StackValue) (w : Word)
    (before words : List Word) → r < length before → r < 30 → word_at stack (pos (z + a.0)) ≡ Some w
    → AreLoaded (r + 1) accs z stack (slice_set before r w) words
    → AreLoaded r (a ∷ accs) z stack before words
one_loaded r a accs z stack w before words inside low there m = record {
  size = m.size ∙ length-set before r w;
  below = λ q h. m.below q (omega (arith, h))
      ∙ register_other before r q w (λ e. absurd (omega (arith, e, h)));
  above = λ q h. m.above q h ∙ register_other before r q w (λ e. absurd (omega (arith, e, h, low)));
  have = (
    there ∙ ap (λ (u : Word). Some u)
        (sym (m.below r (omega arith) ∙ register_set before r w inside)),
    m.have,
  );
}

module _ (code : Listing) (heartbeat : ℕ) (K : Back code heartbeat) (end : Term) (s : State)
    (z cells : ℕ) (has : Has s.stack z cells) (more : List Instr) where
  loads_accs : (accs : List (ℕ × Op)) (r : ℕ) (words : List Word) (beat : BeatState) (at : ℕ)
      → r + length accs ≤ 30 → length words ≡ 32 → register words 31 ≡ Int (pos z)
      → All (λ off. off < cells) (cells_of accs)
      → Remains code s.block at (loads_of (registers_from r accs) ++ more) end
      → ((others : List Word) (later : BeatState) (there : ℕ)
      → AreLoaded r accs z s.stack words others → later.quiet ≡ beat.quiet
      → later.granted ≡ beat.granted → Remains code s.block there more end
      → K.Holds (moved s others later there))
      → K.Holds (moved s words beat at)
  loads_accs [] r words beat at few size base inside stands go =
      go words beat at (record { size = refl; below = λ q h. refl; above = λ q h. refl; have = tt })
      refl refl stands
  loads_accs (a ∷ accs) r words beat at few size base inside stands go =
      let many : r + suc (length accs) ≤ 30 = few in
      let w : Word = slice_index_or s.stack.cells (z + a.0 - s.stack.base) Nil in
      let there : word_at s.stack (pos (z + a.0)) ≡ Some w =
      some_word s.stack z cells a.0 has
      (All-head (λ (off : ℕ). off < cells) a.0 (cells_of accs) inside) in
      let after : List Word = slice_set words r w in
      let base_after : register after 31 ≡ Int (pos z) =
      register_other words r 31 w (λ e. absurd (omega (arith, e, many))) ∙ base in
      loads code heartbeat K end s words beat at (loads_of (registers_from (r + 1) accs) ++ more) r
      31 a.0 (pos z) w stands base there (λ left.
      loads_accs accs (r + 1) after (counted beat) (at + 1) (omega (arith, many))
      (length-set words r w ∙ size) base_after
      (All-tail (λ (off : ℕ). off < cells) a.0 (cells_of accs) inside) left
      (λ others later there_at m quiet granted left.
      go others later there_at (one_loaded r a accs z s.stack w words others
      (omega (arith, many, size)) (omega (arith, many)) there m) quiet granted left))

module _ (code : Listing) (heartbeat : ℕ) (K : Back code heartbeat) (end : Term) (s : State) (z : ℕ)
    (more : List Instr) (site : LeafSite) (right : IsLeafSite site) (has : Has s.stack z site.cells)
  where
    abbrev word_in : ℕ → Word
    word_in off = slice_index_or s.stack.cells (z + off - s.stack.base) Nil

    -- the loads of a leaf loop's registers, one after another
    pub loads_leaf : (words : List Word) (beat : BeatState) (at : ℕ) → length words ≡ 32
        → register words 31 ≡ Int (pos z)
        → Remains code s.block at (loads_of (registers_of site) ++ more) end
        → ((others : List Word) (later : BeatState) (there : ℕ) → length others ≡ 32
        → HaveRegisters (registers_of site) z others s.stack
        → ((q : ℕ) → q < 24 → register others q ≡ register words q)
        → ((q : ℕ) → 30 ≤ q → register others q ≡ register words q) → later.quiet ≡ beat.quiet
        → later.granted ≡ beat.granted → Remains code s.block there more end
        → K.Holds (moved s others later there))
        → K.Holds (moved s words beat at)
    loads_leaf words beat at size base stands go =
        let next : Word = word_in site.cursor in
        let last : Word = word_in site.bound in
        let next_there : word_at s.stack (pos (z + site.cursor)) ≡ Some next =
        some_word s.stack z site.cells site.cursor has
        (cursor_in (stored_loop site) right.loop) in
        let last_there : word_at s.stack (pos (z + site.bound)) ≡ Some last =
        some_word s.stack z site.cells site.bound has (bound_in (stored_loop site) right.loop) in
        let words_1 : List Word = slice_set words 24 next in
        let words_2 : List Word = slice_set words_1 25 last in
        let size_1 : length words_1 ≡ 32 = length-set words 24 next ∙ size in
        let size_2 : length words_2 ≡ 32 = length-set words_1 25 last ∙ size_1 in
        let base_1 : register words_1 31 ≡ Int (pos z) =
        register_other words 24 31 next (λ e. absurd (omega (arith, e))) ∙ base in
        let base_2 : register words_2 31 ≡ Int (pos z) =
        register_other words_1 25 31 last (λ e. absurd (omega (arith, e))) ∙ base_1 in
        let few : 26 + length site.accs ≤ 30 = omega (arith, right.few_accs) in
        loads code heartbeat K end s words beat at _ 24 31 site.cursor (pos z) next stands base
        next_there (λ left.
        loads code heartbeat K end s words_1 (counted beat) (at + 1) _ 25 31 site.bound (pos z) last
        left base_1 last_there (λ left.
        loads_accs code heartbeat K end s z site.cells has more site.accs 26 words_2
        (counted (counted beat)) (at + 1 + 1) few size_2 base_2
        (accs_in (stored_loop site) right.loop) left (λ others later there m quiet granted left.
        let kept_24 : register others 24 ≡ next =
        m.below 24 (omega arith) ∙ (register_other words_1 25 24 last
        (λ e. absurd (omega (arith, e))) ∙ register_set words 24 next (omega (arith, size))) in
        let kept_25 : register others 25 ≡ last =
        m.below 25 (omega arith) ∙ register_set words_1 25 last (omega (arith, size_1)) in
        go others later there (m.size ∙ size_2) (
          next_there ∙ ap (λ (u : Word). Some u) (sym kept_24),
          (last_there ∙ ap (λ (u : Word). Some u) (sym kept_25), m.have),
        )
        (λ q h. m.below q (omega (arith, h))
        ∙ (register_other words_1 25 q last (λ e. absurd (omega (arith, e, h)))
        ∙ register_other words 24 q next (λ e. absurd (omega (arith, e, h)))))
        (λ q h. m.above q h ∙ (register_other words_1 25 q last (λ e. absurd (omega (arith, e, h)))
        ∙ register_other words 24 q next (λ e. absurd (omega (arith, e, h)))))
        quiet granted left)))
