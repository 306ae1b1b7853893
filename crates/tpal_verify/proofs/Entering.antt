-- Entering a block.
use Rattle.std.proofs.Common.{◌≡◌, ℕ, zero, suc, ◌<◌, List, [], ◌∷◌, Option, Some, None, refl, sym, ap, subst, ◌∙◌, length, drop, arith}
use Rattle.std.proofs.lemmas.Bool.{eq-eqb, false≢true}
use Rattle.std.specs.Prelude.{Bool, true, false, not, ◌&&◌, ◌==◌, if◌then◌else◌, nat_le, slice_get, slice_set}
use Rattle.beat_count.specs.BeatState.{BeatState}
use Rattle.beat_count.specs.Heartbeat.{is_diverted, entered}
use Rattle.stack_marks.specs.Stacks.{StackValue}
use Rattle.stack_marks.specs.declared.mark.Mark.{Mark}
use Rattle.tpal_syntax.specs.declared.blocks.Block.{Block}
use Rattle.tpal_syntax.specs.declared.notes.Note.{Note}
use Rattle.tpal_syntax.specs.declared.notes.Note.TheVariants as note
use Rattle.tpal_syntax.specs.declared.words.Word.TheVariants as word
use Rattle.tpal_syntax.specs.Conditions.{IsCode, IsNote, IsHandler}
use Rattle.tpal_syntax.specs.Listing.{Listing}
use Rattle.tpal_machine.specs.declared.ends.Ending.{Ending}
use Rattle.tpal_machine.specs.declared.ends.Ending.TheVariants as ending
use Rattle.tpal_machine.specs.Cut.{Forked}
use Rattle.tpal_machine.specs.Effect.{answered, has_mark}
use Rattle.tpal_machine.specs.Merge.{WhereDone}
use Rattle.tpal_machine.specs.Reading.{block_at, note_of}
use Rattle.tpal_machine.specs.RestState.{end_of}
use Rattle.tpal_machine.specs.State.{State}
use Rattle.tpal_machine.specs.Step.{Step, Goes, Beats, Ends, Asks, Forks, Stuck, Strays, at_block, entered_by, enters}
use Rattle.tpal_machine.proofs.Belonging.{note_right}
use Rattle.schedule_core.specs.Machine.{left, right}
use Rattle.schedule_core.specs.Tasks.{end_number}
use Rattle.tpal_verify.specs.declared.kinds.Kind.TheVariants.{Back}
use Rattle.tpal_verify.specs.declared.kinds.MarkFact.{MarkFact}
use Rattle.tpal_verify.specs.declared.kinds.MarkFact.TheVariants.{Marked, Clear, Maybe}
use Rattle.tpal_verify.specs.declared.phases.Phase.TheVariants.{Calm}
use Rattle.tpal_verify.specs.Shapes.{Shape, handler_shape}
use Rattle.tpal_verify.specs.Flat.{Ground, ground_of, is_inner, is_flat_note, first_unflat, unflat_in}
use Rattle.tpal_verify.specs.Rules.{note_at}
use Rattle.tpal_verify.specs.Walk.{is_ready_for, note_flows}
use Rattle.tpal_verify.specs.Rounds.{Shapes, holds, holds_all}
use Rattle.tpal_verify.specs.Breaks.{flat_break, MeetsRules}
use Rattle.tpal_verify.specs.Safe.{IsAllowed}
use Rattle.tpal_verify.specs.Well.{GoesWell}
use Rattle.tpal_verify.specs.Fits.{IsOfKind, OneMark, MarkIs, GrantIs, HoldsIn, Holds, IsApart, Knows, joins_of, AnyJoin, AreFoundWords, IsUnleft}
use Rattle.tpal_verify.proofs.Order.{and_left, and_right}
use Rattle.tpal_verify.proofs.Lower.{some_none}
use Rattle.tpal_verify.proofs.Holding.{set_both, holds_above}
use Rattle.tpal_verify.proofs.Walking.{BlockWell, stands_at}
use Rattle.tpal_verify.proofs.Ahead.{set_other}

-- ---- labels and notes

pub record IsBlockAt (code : Listing) (l : ℕ) : Type 0 where
  pub block : Block
  pub is : block_at code l ≡ Some block

pub block_below : (code : Listing) (l : ℕ) → l < length code.blocks → IsBlockAt code l
block_below code l lt = by code.blocks l lt (slice_get code.blocks l) refl refl refl
  where
    none_beyond : (xs : List Block) (i : ℕ) → i < length xs → slice_get xs i ≡ None → ⊥
    none_beyond [] i below q = omega (arith, below)
    none_beyond (x ∷ xs) zero below q = some_none x q
    none_beyond (x ∷ xs) (suc i) below q = none_beyond xs i (omega (arith, below)) q

    by : (xs : List Block) (i : ℕ) → i < length xs → (o : Option Block) → slice_get xs i ≡ o → code.blocks ≡ xs → l ≡ i → IsBlockAt code l
    by xs i below None q e f = absurd (none_beyond xs i below q)
    by xs i below (Some b) q e f = record { block = b; is = (λ k. slice_get (e k) (f k)) ∙ q }

pub inner_first : (l : ℕ) → is_inner l ≡ true → (l == 0) ≡ false
inner_first l i = by (l == 0) i
  where
    by : (b : Bool) → not b ≡ true → b ≡ false
    by true q = absurd (false≢true q)
    by false q = refl

flat_none : (o : Option ℕ) → flat_break o ≡ None → o ≡ None
flat_none None q = refl
flat_none (Some at) q = some_none (at, 1) q

-- the note of a flat block
pub note_flat : (whole : Ground) (first : Bool) (block : Block) → flat_break (unflat_in whole first block) ≡ None → is_flat_note block.note ≡ true
note_flat whole first block q = by (is_flat_note block.note) (flat_none (unflat_in whole first block) q)
  where
    by : (b : Bool) → (if b then first_unflat whole first 0 block.body block.term else Some 0) ≡ None → b ≡ true
    by true z = refl
    by false z = some_none 0 z

-- ---- beats

pub grant_entered : (beat : BeatState) (quiet diverted g : Bool) → GrantIs g beat.granted
    → GrantIs g ((if quiet then record beat { quiet = false } else (if diverted then record { count = 0; quiet = true; granted = true } else beat)).granted)
grant_entered beat true diverted g h = h
grant_entered beat false true true h = refl
grant_entered beat false true false h = tt
grant_entered beat false false g h = h

granted_by : (beat : BeatState) (quiet rest : Bool) → (not quiet && rest) ≡ true → (if quiet then record beat { quiet = false } else (if not quiet && rest then record { count = 0; quiet = true; granted = true } else beat)).granted ≡ true
granted_by beat true rest q = absurd (false≢true q)
granted_by beat false true q = refl
granted_by beat false false q = absurd (false≢true q)

-- a task that is diverted has its mark
marked_stands : (whole : Ground) (m : MarkFact) (stack : StackValue) → has_mark stack ≡ true → MarkIs whole m stack.marks → OneMark whole stack.marks
marked_stands whole m stack q h = by m stack.marks h q
  where
    some_mark : List Mark → Bool
    some_mark [] = false
    some_mark (x ∷ xs) = true

    by : (f : MarkFact) (ms : List Mark) → MarkIs whole f ms → Rattle.std.specs.Prelude.is_some (slice_get ms 0) ≡ true → OneMark whole ms
    by Marked ms k z = k
    by Clear [] k z = absurd (false≢true z)
    by Clear (x ∷ ms) k z = absurd (false≢true (ap some_mark (sym k)))
    by Maybe [] k z = absurd (false≢true z)
    by Maybe (x ∷ ms) k z = k

-- ---- what a step is known to come to

module _ (code : Listing) (A : Shapes) where
  abbrev pub EndKnown : Ending → Type 0
  EndKnown (ending.At rec side out) = IsUnleft out.stop × WhereDone out.stop (AnyJoin (joins_of code A) × AreFoundWords (joins_of code A) rec out.words)
  EndKnown (ending.Root outcome) = Unit {0}

  -- but for a fork, of which more is to be said
  abbrev pub StepKnows : (Forked → Type 0) → Step → Type 0
  StepKnows F (Goes after) = Knows code A after
  StepKnows F (Beats diverted) = Knows code A diverted
  StepKnows F (Ends e) = EndKnown e
  StepKnows F (Asks waits) =
      Knows code A (answered None waits)
      × ((k : ℕ) → (end_number (end_of waits.goal) ≡ left k → ⊥) → (end_number (end_of waits.goal) ≡ right k → ⊥) → Knows code A (answered (Some k) waits))
  StepKnows F (Forks parts) = F parts
  StepKnows F (Stuck fault) = IsAllowed fault
  StepKnows F Strays = ⊥

-- ---- entering

module _ (code : Listing) (A : Shapes) (rules : MeetsRules code A) (right_code : IsCode code.tables code.blocks) (heartbeat : ℕ) (allowed : Bool) (F : Forked → Type 0) where
  abbrev whole : Ground
  whole = ground_of code

  -- a task at the start of a block
  pub at_start : (l : ℕ) (block : Block) (s u : Shape) (t : State) → block_at code l ≡ Some block → is_inner l ≡ true → BlockWell whole A l block u → Holds whole false u t → t.pending ≡ None → IsApart t.goal t.met → IsApart t.goal t.pending
      → t.block ≡ l → t.at ≡ 0 → Knows code A t
  at_start l block s u t is i w h n ma pa b a = record {
    first = false;
    shape = u;
    phase = Calm;
    block = block;
    found = ap (block_at code) b ∙ is;
    good = subst (λ k. GoesWell whole A false k Calm u (drop k block.body) block.term) (sym a) (subst (λ f. GoesWell whole A f 0 Calm u block.body block.term) (inner_first l i) w.walk);
    holds = h;
    in_phase = n;
    ahead = tt;
    opens = tt;
    met_apart = ma;
    pending_apart = pa;
  }

  handler_holds : (l h : ℕ) (u : Shape) (t : State) → Holds whole false u t → has_mark t.stack ≡ true → is_inner l ≡ true → is_ready_for h (note_at whole l) ≡ true → (e : BeatState) → e.granted ≡ true
      → HoldsIn whole false (handler_shape h u) (slice_set t.registers 30 (word.Label l)) t.stack t.goal t.pending t.met e.granted
  handler_holds l h u t ho m i r e g = record {
    registers_are = set_both (IsOfKind whole t.goal t.pending t.met) u.registers t.registers 30 (Back h) (word.Label l) (record { label = l; is = refl; inner = i; ready = r }) ho.registers_are;
    base_is = set_other t.registers 30 31 (word.Label l) (λ q. omega (arith, q)) ∙ ho.base_is;
    cells_are = ho.cells_are;
    stack_is = ho.stack_is;
    end_is = ho.end_is;
    mark_is = marked_stands whole u.mark t.stack m ho.mark_is;
    grant_is = g;
    met_is = ho.met_is;
  }

  -- the block of a handler
  handler_at : (h : ℕ) → IsHandler (slice_get code.blocks h) → IsBlockAt code h
  handler_at h i = by (slice_get code.blocks h) refl i
    where
      by : (o : Option Block) → slice_get code.blocks h ≡ o → IsHandler o → IsBlockAt code h
      by None q v = absurd v
      by (Some b) q v = record { block = b; is = q }

  ready_knows : (l h : ℕ) (block : Block) (s u : Shape) (t : State) → block_at code l ≡ Some block → block.note ≡ note.Ready h → is_inner l ≡ true → BlockWell whole A l block u → Holds whole false u t → t.pending ≡ None → IsApart t.goal t.met → IsApart t.goal t.pending
      → (d : Bool) → is_diverted heartbeat (has_mark t.stack) allowed t.beat ≡ d
      → StepKnows code A F (if d then Beats (record t { block = h; at = 0; registers = slice_set t.registers 30 (word.Label l); beat = entered heartbeat (has_mark t.stack) allowed t.beat })
      else Goes (record t { block = l; at = 0; beat = entered heartbeat (has_mark t.stack) allowed t.beat }))
  ready_knows l h block s u t is n i w ho pn ma pa false d =
      at_start l block s u (record t { block = l; at = 0; beat = entered heartbeat (has_mark t.stack) allowed t.beat }) is i w
      (record {
        registers_are = ho.registers_are;
        base_is = ho.base_is;
        cells_are = ho.cells_are;
        stack_is = ho.stack_is;
        end_is = ho.end_is;
        mark_is = ho.mark_is;
        grant_is = grant_entered t.beat t.beat.quiet (is_diverted heartbeat (has_mark t.stack) allowed t.beat) u.granted ho.grant_is;
        met_is = ho.met_is;
      }) pn ma pa refl refl
  ready_knows l h block s u t is n i w ho pn ma pa true d =
      let hn : IsNote code.tables code.blocks (note.Ready h) = subst (IsNote code.tables code.blocks) (ap note_of is ∙ n) (note_right code l right_code) in
      let there = handler_at h hn in
      let flat : is_inner h ≡ true = subst (λ (m : Note). is_flat_note m ≡ true) n (note_flat whole (l == 0) block w.flat) in
      let into : holds A (h, handler_shape h u) ≡ true = and_left (holds A (h, handler_shape h u)) true (subst (λ (m : Note). holds_all A (note_flows m u) ≡ true) n w.note) in
      let stands = stands_at code A rules h there.block (handler_shape h u) there.is into in
      let z = t.beat in
      let rest = nat_le heartbeat z.count && (has_mark t.stack && allowed) in
      let marked = and_left (has_mark t.stack) allowed (and_right (nat_le heartbeat z.count) (has_mark t.stack && allowed) (and_right (not z.quiet) rest d)) in
      let e = entered heartbeat (has_mark t.stack) allowed z in
      at_start h there.block (handler_shape h u) stands.shape (record t { block = h; at = 0; registers = slice_set t.registers 30 (word.Label l); beat = e }) there.is flat stands.well
      (holds_above whole false (handler_shape h u) stands.shape (slice_set t.registers 30 (word.Label l)) t.stack t.goal t.pending t.met e.granted stands.below
      (handler_holds l h u t ho marked i (subst (λ (m : Note). is_ready_for h m ≡ true) (sym (ap note_of is ∙ n)) (eq-eqb h h refl)) e (granted_by z z.quiet rest d)))
      pn ma pa refl refl

  entered_knows : (m : Note) (l : ℕ) (block : Block) (s u : Shape) (t : State) → block.note ≡ m → block_at code l ≡ Some block → is_inner l ≡ true → BlockWell whole A l block u → Holds whole false u t → t.pending ≡ None → IsApart t.goal t.met → IsApart t.goal t.pending
      → StepKnows code A F (entered_by m heartbeat allowed l t)
  entered_knows note.Plain l block s u t n is i w ho pn ma pa = at_start l block s u (at_block l t) is i w ho pn ma pa refl refl
  entered_knows (note.Ready h) l block s u t n is i w ho pn ma pa = ready_knows l h block s u t is n i w ho pn ma pa (is_diverted heartbeat (has_mark t.stack) allowed t.beat) refl
  entered_knows (note.Target target) l block s u t n is i w ho pn ma pa = at_start l block s u (at_block l t) is i w ho pn ma pa refl refl

  -- control enters a block with what its shape holds
  pub enters_knows : (l : ℕ) (s : Shape) (t : State) → IsBlockAt code l → is_inner l ≡ true → holds A (l, s) ≡ true → Holds whole false s t → t.pending ≡ None → IsApart t.goal t.met → IsApart t.goal t.pending
      → StepKnows code A F (enters code heartbeat allowed l t)
  enters_knows l s t there i into h n ma pa =
      let stands = stands_at code A rules l there.block s there.is into in
      subst (λ (m : Note). StepKnows code A F (entered_by m heartbeat allowed l t)) (sym (ap note_of there.is))
      (entered_knows there.block.note l there.block s stands.shape t refl there.is i stands.well
      (holds_above whole false s stands.shape t.registers t.stack t.goal t.pending t.met t.beat.granted stands.below h) n ma pa)
