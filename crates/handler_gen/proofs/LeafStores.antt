-- The registers of a leaf loop come into their cells.
use Rattle.std.proofs.Common.{◌≡◌, ◌≢◌, ℕ, ◌+◌, ◌<◌, ◌≤◌, All, List, [], ◌∷◌, ◌++◌, map, refl}
use Rattle.std.proofs.Common.{ap, sym, subst, ◌∙◌, arith}
use Rattle.std.proofs.lemmas.List.Elements.{All-cons, All-head, All-tail}
use Rattle.std.proofs.lemmas.List.Kept.{AllPairs-cons}
use Rattle.std.specs.Prelude.{pos}
use Rattle.beat_count.specs.BeatState.{BeatState}
use Rattle.beat_count.specs.Heartbeat.{counted}
use Rattle.stack_marks.specs.Stacks.{StackValue, word_at, with_word}
use Rattle.tp_value.specs.declared.Op.{Op}
use Rattle.tpal_syntax.specs.declared.instructions.Instr.{Instr}
use Rattle.tpal_syntax.specs.declared.instructions.Term.{Term}
use Rattle.tpal_syntax.specs.declared.instructions.Value.TheVariants as value
use Rattle.tpal_syntax.specs.declared.words.Word.{Word}
use Rattle.tpal_syntax.specs.declared.words.Word.TheVariants.{Int}
use Rattle.tpal_syntax.specs.Listing.{Listing}
use Rattle.tpal_machine.specs.Effect.{with_stack}
use Rattle.tpal_machine.specs.Reading.{register}
use Rattle.tpal_machine.specs.State.{State}
use Rattle.tpal_machine.proofs.Kit.{Back}
use Rattle.expr_lower.specs.Leaving.{moved}
use Rattle.expr_lower.specs.Standing.{Remains}
use Rattle.tpal_syntax.specs.declared.sites.LeafSite.{LeafSite}
use Rattle.handler_gen.specs.LeafBlocks.{stores_of}
use Rattle.handler_gen.specs.LeafCuts.{HaveRegisters, with_registers}
use Rattle.handler_gen.specs.LeafSites.{IsLeafSite, registers_from, registers_of, stored_loop}
use Rattle.handler_gen.proofs.Cells.{Has, some_word, has_set}
use Rattle.handler_gen.proofs.FramesCut.{Differ, first_apart, rest_differ}
use Rattle.handler_gen.proofs.Offsets.{cells_of, accs_in, bound_in, cursor_in}
use Rattle.handler_gen.proofs.Straight.{stores}
use Rattle.handler_gen.proofs.Words.{word_same, word_other}

-- the cells of registers
abbrev pub cells_with : List (ℕ × ℕ) → List ℕ
cells_with ps = map (λ (p : ℕ × ℕ). p.0) ps

-- ---- steps

module _ (code : Listing) (heartbeat : ℕ) (K : Back code heartbeat) (end : Term) (words : List Word)
    (z cells : ℕ) (base : register words 31 ≡ Int (pos z)) (more : List Instr) where
  -- the stores of registers, one after another
  pub stores_all : (ps : List (ℕ × ℕ)) (s : State) (beat : BeatState) (at : ℕ)
      → All (λ off. off < cells) (cells_with ps) → Has s.stack z cells
      → Remains code s.block at (stores_of ps ++ more) end
      → ((later : BeatState) (there : ℕ) → later.quiet ≡ beat.quiet → later.granted ≡ beat.granted
      → Remains code s.block there more end
      → K.Holds (moved (with_stack s (with_registers ps z words s.stack)) words later there))
      → K.Holds (moved s words beat at)
  stores_all [] s beat at inside has stands go = go beat at refl refl stands
  stores_all (p ∷ ps) s beat at inside has stands go =
      let own : p.0 < cells = All-head (λ (off : ℕ). off < cells) p.0 (cells_with ps) inside in
      let after : StackValue = with_word s.stack (pos (z + p.0)) (register words p.1) in
      stores code heartbeat K end s words beat at (stores_of ps ++ more) 31 p.0 (value.Reg p.1)
      (pos z) _ (register words p.1) stands base (some_word s.stack z cells p.0 has own) refl
      (λ left.
      stores_all ps (with_stack s after) (counted beat) (at + 1)
      (All-tail (λ (off : ℕ). off < cells) p.0 (cells_with ps) inside)
      (has_set s.stack z cells (z + p.0) (register words p.1) has) left go)

-- ---- cells

pub marks_registers : (ps : List (ℕ × ℕ)) (words : List Word) (s : StackValue) (z : ℕ)
    → (with_registers ps z words s).marks ≡ s.marks
marks_registers [] words s z = refl
marks_registers (p ∷ ps) words s z =
    marks_registers ps words (with_word s (pos (z + p.0)) (register words p.1)) z

-- a cell of no register keeps its word
pub registers_other : (ps : List (ℕ × ℕ)) (words : List Word) (s : StackValue) (z off : ℕ)
    → s.base ≤ z → All (λ c. off ≢ c) (cells_with ps)
    → word_at (with_registers ps z words s) (pos (z + off)) ≡ word_at s (pos (z + off))
registers_other [] words s z off low apart = refl
registers_other (p ∷ ps) words s z off low apart =
    let ne : z + off ≢ z + p.0 =
    λ e. All-head (λ (c : ℕ). off ≢ c) p.0 (cells_with ps) apart (omega (arith, e)) in
    registers_other ps words (with_word s (pos (z + p.0)) (register words p.1)) z off low
    (All-tail (λ (c : ℕ). off ≢ c) p.0 (cells_with ps) apart)
    ∙ word_other s (z + p.0) (z + off) (register words p.1) (omega (arith, low)) ne

-- the cells have the words of the registers
pub have_stored : (ps : List (ℕ × ℕ)) (words : List Word) (s : StackValue) (z n : ℕ) → Has s z n
    → All (λ c. c < n) (cells_with ps) → Differ (cells_with ps)
    → HaveRegisters ps z words (with_registers ps z words s)
have_stored [] words s z n has inside differ = tt
have_stored (p ∷ ps) words s z n has inside differ =
    let after : StackValue = with_word s (pos (z + p.0)) (register words p.1) in
    let own : p.0 < n = All-head (λ (c : ℕ). c < n) p.0 (cells_with ps) inside in (
      registers_other ps words after z p.0 has.low (first_apart p.0 (cells_with ps) differ)
          ∙ word_same s (z + p.0) (register words p.1) (omega (arith, has.low))
          (omega (arith, has.high, own)),
      have_stored ps words after z n (has_set s z n (z + p.0) (register words p.1) has)
          (All-tail (λ (c : ℕ). c < n) p.0 (cells_with ps) inside)
          (rest_differ p.0 (cells_with ps) differ),
    )

-- ---- the cells of a leaf loop

accs_cells : (r : ℕ) (accs : List (ℕ × Op)) → cells_with (registers_from r accs) ≡ cells_of accs
accs_cells r [] = refl
accs_cells r (a ∷ accs) = ap (λ (cs : List ℕ). a.0 ∷ cs) (accs_cells (r + 1) accs)

-- those of a list without its third one differ
without_third : (x y w : ℕ) (xs : List ℕ) → Differ (x ∷ y ∷ w ∷ xs) → Differ (x ∷ y ∷ xs)
without_third x y w xs differ =
    let apart : All (λ c. x ≢ c) (y ∷ w ∷ xs) = first_apart x (y ∷ w ∷ xs) differ in
    let behind : Differ (y ∷ w ∷ xs) = rest_differ x (y ∷ w ∷ xs) differ in
    let x_apart : All (λ c. x ≢ c) (y ∷ xs) =
    All-cons (λ (c : ℕ). x ≢ c) y xs (All-head (λ (c : ℕ). x ≢ c) y (w ∷ xs) apart)
    (All-tail (λ (c : ℕ). x ≢ c) w xs (All-tail (λ (c : ℕ). x ≢ c) y (w ∷ xs) apart)) in
    let y_apart : All (λ c. y ≢ c) xs =
    All-tail (λ (c : ℕ). y ≢ c) w xs (first_apart y (w ∷ xs) behind) in
    AllPairs-cons (λ (a b : ℕ). a ≢ b) x (y ∷ xs) x_apart
    (AllPairs-cons (λ (a b : ℕ). a ≢ b) y xs y_apart
    (rest_differ w xs (rest_differ y (w ∷ xs) behind)))

module _ (site : LeafSite) (right : IsLeafSite site) where
  pub own_cells : cells_with (registers_of site) ≡ site.cursor ∷ site.bound ∷ cells_of site.accs
  own_cells = ap (λ (cs : List ℕ). site.cursor ∷ site.bound ∷ cs) (accs_cells 26 site.accs)

  pub registers_in : All (λ off. off < site.cells) (cells_with (registers_of site))
  registers_in =
      subst (λ (cs : List ℕ). All (λ off. off < site.cells) cs) (sym own_cells)
      (All-cons (λ (off : ℕ). off < site.cells) site.cursor (site.bound ∷ cells_of site.accs)
      (cursor_in (stored_loop site) right.loop)
      (All-cons (λ (off : ℕ). off < site.cells) site.bound (cells_of site.accs)
      (bound_in (stored_loop site) right.loop) (accs_in (stored_loop site) right.loop)))

  pub registers_differ : Differ (cells_with (registers_of site))
  registers_differ =
      subst Differ (sym own_cells) (without_third site.cursor site.bound site.rec
      (cells_of site.accs) right.loop.offsets_differ)
