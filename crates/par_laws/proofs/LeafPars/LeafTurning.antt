-- What goes on round an iteration of a leaf loop: the same as round one of a quiet `par`, but for
-- the cells of its next number, its end and its accumulators, for which registers stand.
use Rattle.std.proofs.Common.{◌≡◌, ◌≢◌, ℕ, suc, ◌+◌, ◌<◌, ◌≤◌, All, List, [], ◌∷◌, length, true}
use Rattle.std.proofs.Common.{false}
use Rattle.std.proofs.Common.{refl, ap, sym, ◌∙◌, arith}
use Rattle.std.proofs.lemmas.Bool.{true≢false}
use Rattle.std.proofs.lemmas.List.Elements.{All-head, All-tail}
use Rattle.std.specs.List.{AllByRecursion}
use Rattle.std.specs.Prelude.{ℤ, pos}
use Rattle.beat_count.specs.BeatState.{BeatState}
use Rattle.loop_meaning.specs.declared.value.Variable.{Variable}
use Rattle.loop_meaning.specs.State as meaning
use Rattle.stack_marks.specs.Stacks.{StackValue, word_at}
use Rattle.tp_value.specs.declared.Op.{Op}
use Rattle.tpal_syntax.specs.declared.words.Word.{Word}
use Rattle.tpal_syntax.specs.declared.words.Word.TheVariants as word
use Rattle.tpal_syntax.specs.Listing.{Listing}
use Rattle.tpal_machine.specs.Effect.{is_marked_from}
use Rattle.tpal_machine.specs.Reading.{register}
use Rattle.tpal_machine.specs.State as machine
use Rattle.tpal_syntax.specs.declared.sites.LeafSite.{LeafSite}
use Rattle.handler_gen.specs.LeafCuts.{HaveRegisters, with_registers}
use Rattle.handler_gen.specs.LeafSites.{IsLeafSite, registers_from, registers_of, stored_loop}
use Rattle.handler_gen.proofs.FramesCut.{Differ, first_apart, rest_differ}
use Rattle.handler_gen.proofs.LeafStores.{cells_with, marks_registers, registers_differ}
use Rattle.handler_gen.proofs.LeafStores.{registers_in}
use Rattle.scene_laws.specs.Layout.{Activation, bound_cell, levels_cell, value_cell}
use Rattle.par_laws.proofs.QuietPars.Turned.{T}
use Rattle.par_laws.proofs.QuietPars.Turning.{ParAt, stable_of}
use Rattle.scene_laws.proofs.Scenes.Pieces.{Piece}
use Rattle.scene_laws.proofs.Scenes.Registered.{AreApart, AreHigh, already_shown, as_many_shown}
use Rattle.scene_laws.proofs.Scenes.Registered.{base_shown}
use Rattle.scene_laws.proofs.Scenes.Results.{Result}
use Rattle.scene_laws.proofs.Scenes.Scene.{Scene, SeenIn, ShowsIn}
use Rattle.scene_laws.proofs.Scenes.Variables.{held_same, var_names}

-- a leaf loop at its place in a code, with the loop that it is while its registers are stored
pub record LeafAt (code : Listing) (act : Activation) : Type 0 where
  pub q : ParAt code act
  pub leaf : LeafSite
  pub right : IsLeafSite leaf
  pub is : q.site ≡ stored_loop leaf

-- ---- its registers

accs_high : (r : ℕ) (accs : List (ℕ × Op)) → 26 ≤ r → r + length accs ≤ 30
    → AreHigh (registers_from r accs)
accs_high r [] low few = tt
accs_high r (a ∷ accs) low few =
    let many : r + suc (length accs) ≤ 30 = few in (
      (omega (arith, low), omega (arith, many)),
      accs_high (r + 1) accs (omega (arith, low)) (omega (arith, many)),
    )

-- a cell and a register that are none of those from a register on
both_apart : (x r s : ℕ) (accs : List (ℕ × Op)) → r < s
    → All (λ c. x ≢ c) (cells_with (registers_from s accs))
    → AllByRecursion (λ (p : ℕ × ℕ). (x ≢ p.0) × (r ≢ p.1)) (registers_from s accs)
both_apart x r s [] below apart = tt
both_apart x r s (a ∷ accs) below apart = (
  (
    All-head (λ (c : ℕ). x ≢ c) a.0 (cells_with (registers_from (s + 1) accs)) apart,
    λ (e : r ≡ s). absurd (omega (arith, e, below)),
  ),
  both_apart x r (s + 1) accs (omega (arith, below))
      (All-tail (λ (c : ℕ). x ≢ c) a.0 (cells_with (registers_from (s + 1) accs)) apart),
)

accs_apart : (s : ℕ) (accs : List (ℕ × Op)) → Differ (cells_with (registers_from s accs))
    → AreApart (registers_from s accs)
accs_apart s [] differ = tt
accs_apart s (a ∷ accs) differ = (
  both_apart a.0 s (s + 1) accs (omega arith)
      (first_apart a.0 (cells_with (registers_from (s + 1) accs)) differ),
  accs_apart (s + 1) accs (rest_differ a.0 (cells_with (registers_from (s + 1) accs)) differ),
)

module _ {code : Listing} {act : Activation} (l : LeafAt code act) where
  abbrev pub kept : List (ℕ × ℕ)
  kept = registers_of l.leaf

  pub high : AreHigh kept
  high = (
    (omega arith, omega arith),
    (
      (omega arith, omega arith),
      accs_high 26 l.leaf.accs (omega arith) (omega (arith, l.right.few_accs)),
    ),
  )

  pub unlike : AreApart kept
  unlike =
      let accs : List (ℕ × ℕ) = registers_from 26 l.leaf.accs in
      let differ : Differ (l.leaf.cursor ∷ l.leaf.bound ∷ cells_with accs) =
      registers_differ l.leaf l.right in
      let behind : Differ (l.leaf.bound ∷ cells_with accs) =
      rest_differ l.leaf.cursor (l.leaf.bound ∷ cells_with accs) differ in
      let first : All (λ c. l.leaf.cursor ≢ c) (l.leaf.bound ∷ cells_with accs) =
      first_apart l.leaf.cursor (l.leaf.bound ∷ cells_with accs) differ in (
        (
          (
            All-head (λ (c : ℕ). l.leaf.cursor ≢ c) l.leaf.bound (cells_with accs) first,
            λ (e : 24 ≡ 25). absurd (omega (arith, e)),
          ),
          both_apart l.leaf.cursor 24 26 l.leaf.accs (omega arith)
              (All-tail (λ (c : ℕ). l.leaf.cursor ≢ c) l.leaf.bound (cells_with accs) first),
        ),
        (
          both_apart l.leaf.bound 25 26 l.leaf.accs (omega arith)
              (first_apart l.leaf.bound (cells_with accs) behind),
          accs_apart 26 l.leaf.accs (rest_differ l.leaf.bound (cells_with accs) behind),
        ),
      )

  pub cells_are : l.leaf.cells ≡ act.size
  cells_are = ap (λ s. s.cells) (sym l.is) ∙ ap (λ s. s.cells) l.q.is_site.is

  pub cursor_are : l.leaf.cursor ≡ value_cell (length l.q.names)
  cursor_are = ap (λ s. s.cursor) (sym l.is) ∙ ap (λ s. s.cursor) l.q.is_site.is

  pub bound_are : l.leaf.bound ≡ bound_cell (length l.q.names)
  bound_are = ap (λ s. s.bound) (sym l.is) ∙ ap (λ s. s.bound) l.q.is_site.is

  pub sized : All (λ c. c < act.size) (cells_with kept)
  sized = λ i d below. omega (arith, registers_in l.leaf l.right i d below, cells_are)

-- ---- the scene

module _ {code : Listing} (heartbeat z : ℕ) {act : Activation} (l : LeafAt code act)
    (S : Scene code heartbeat z) (lowest : S.lowest ≤ length l.q.names)
    (k : meaning.State → Result) (vs : List Variable) (named : var_names vs ≡ l.q.names)
    (accs_below : All (λ c. c < value_cell (suc (length l.q.names))) (cells_with (kept l))) where
  abbrev Stored : ℤ → ℤ → Scene code heartbeat z
  Stored m j = T code heartbeat z act l.q S lowest k vs named true m j

  abbrev pub leaf_turning : ℤ → ℤ → Scene code heartbeat z
  leaf_turning m j = record (Stored m j) {
    size = act.size;
    registers = kept l;
    high = high l;
    unlike = unlike l;
    under = accs_below;
    sized = sized l;
    is_open = false;
    handles = λ opened. absurd (true≢false (sym opened));
  }

  module _ (fuel : ℕ) (m j : ℤ) (i : Piece S.World) (names : List (List ℕ)) (st : meaning.State)
    where
      -- the task with its registers in their cells
      abbrev pub stored : machine.State → machine.State
      stored state =
          record state { stack = with_registers (kept l) z state.registers state.stack }

      pub seen_of : (state : machine.State)
          → ShowsIn code heartbeat z act fuel (Stored m j) i names st (stored state)
          → SeenIn code heartbeat z act fuel (leaf_turning m j) i names st state
      seen_of state h = record {
        size = h.size;
        base = h.base;
        limit = h.limit;
        limited = h.limited;
        tall = omega arith;
        ticks = h.ticks;
        within = h.within;
        begun = h.begun;
        printed = h.printed;
        ends = h.ends;
        free = h.free;
        unmet = h.unmet;
        marked = h.marked;
        named = h.named;
        few = h.few;
        tabled = h.tabled;
        held = h.held;
        can = h.can;
        ranged = h.ranged;
        levels = h.levels;
        unmarked = h.unmarked;
        top = h.top;
        low = h.low;
        room = h.room;
        vars = h.vars;
        keeps = h.keeps;
      }

      pub stored_of : S.size ≤ act.size → (state : machine.State)
          → SeenIn code heartbeat z act fuel (leaf_turning m j) i names st state
          → ShowsIn code heartbeat z act fuel (Stored m j) i names st (stored state)
      stored_of tall state h = record {
        size = h.size;
        base = h.base;
        limit = h.limit;
        limited = h.limited;
        tall = tall;
        ticks = h.ticks;
        within = h.within;
        begun = h.begun;
        printed = h.printed;
        ends = h.ends;
        free = h.free;
        unmet = h.unmet;
        marked = h.marked;
        named = h.named;
        few = h.few;
        tabled = h.tabled;
        held = h.held;
        can = h.can;
        ranged = h.ranged;
        levels = h.levels;
        unmarked = h.unmarked;
        top = h.top;
        low = h.low;
        room = h.room;
        vars = h.vars;
        keeps = h.keeps;
      }

      -- where the registers have the words of their cells
      pub seen_loaded : (state : machine.State)
          → ShowsIn code heartbeat z act fuel (Stored m j) i names st state → (words : List Word)
          (beat : BeatState) (label at : ℕ) → HaveRegisters (kept l) z words state.stack
          → length words ≡ 32 → register words 31 ≡ word.Int (pos z)
          → SeenIn code heartbeat z act fuel (leaf_turning m j) i names st
          (record state { registers = words; beat = beat; block = label; at = at })
      seen_loaded state h words beat label at have size base = record {
        size = size;
        base = base;
        limit = h.limit;
        limited = h.limited;
        tall = omega arith;
        ticks = h.ticks;
        within = h.within;
        begun = h.begun;
        printed = h.printed;
        ends = h.ends;
        free = h.free;
        unmet = h.unmet;
        marked = marks_registers (kept l) words state.stack z ∙ h.marked;
        named = h.named;
        few = h.few;
        tabled = h.tabled;
        held = h.held;
        can = h.can;
        ranged = h.ranged;
        levels = already (z + levels_cell) ∙ h.levels;
        unmarked = ap (λ ms. is_marked_from ms (z + act.size))
            (marks_registers (kept l) words state.stack z) ∙ h.unmarked;
        top = omega (arith, h.top, base_is, many_is);
        low = omega (arith, h.low, base_is);
        room = omega (arith, h.room, base_is, many_is);
        vars = held_same state.stack shown z 0 st.vars (λ x low up. already (z + value_cell x))
            h.vars;
        keeps = stable_of code heartbeat z act l.q S lowest vs named m j i
            (suc (length l.q.names)) state.stack shown (omega arith)
            (record { base = base_is; at = λ a lt others. already a }) h.keeps;
      }
        where
          shown : StackValue
          shown = with_registers (kept l) z words state.stack

          base_is : shown.base ≡ state.stack.base
          base_is = base_shown (kept l) z words state.stack

          many_is : length shown.cells ≡ length state.stack.cells
          many_is = as_many_shown (kept l) z words state.stack

          already : (a : ℕ) → word_at shown (pos a) ≡ word_at state.stack (pos a)
          already a =
              already_shown (kept l) z act.size words state.stack state.stack a h.low
              (omega (arith, h.top)) (sized l) have refl
