-- A diverted task whose oldest mark is that of a pair of calls owes an ending, where it owes it
-- when it goes back and where both parts of the cut end as sides that merge to it.
use Rattle.std.proofs.Common.{◌≡◌, ℕ, ◌+◌, ◌≤◌, ◌^◌, true, false, List, [], ◌∷◌, length}
use Rattle.std.proofs.Common.{Option, None, Some, refl, ap, ◌∙◌, arith}
use Rattle.std.specs.Prelude.{pos, slice_get, slice_set, ⊤}
use Rattle.std.proofs.lemmas.List.{length-set}
use Rattle.beat_count.specs.BeatState.{BeatState}
use Rattle.beat_count.specs.Heartbeat.{counted}
use Rattle.stack_marks.specs.Causes.{Holds}
use Rattle.stack_marks.specs.declared.mark.Mark.{Mark}
use Rattle.tpal_syntax.specs.Conditions.{is_ready}
use Rattle.tpal_syntax.specs.declared.blocks.Block.{Block}
use Rattle.tpal_syntax.specs.declared.sites.CallSite.{CallSite}
use Rattle.tpal_syntax.specs.declared.words.Word.{Word}
use Rattle.tpal_syntax.specs.declared.words.Word.TheVariants.{Int, Label}
use Rattle.tpal_syntax.specs.Listing.{Listing}
use Rattle.tpal_machine.specs.declared.ends.Ending.{Ending}
use Rattle.tpal_machine.specs.Effect.{oldest}
use Rattle.tpal_machine.specs.Owes.{Bound, IsOtherRecord}
use Rattle.tpal_machine.specs.Reading.{block_at, note_of, register, target_of}
use Rattle.tpal_machine.specs.RestState.{RestState}
use Rattle.tpal_machine.specs.State.{State}
use Rattle.expr_lower.specs.Leaving.{moved_to}
use Rattle.expr_lower.specs.Standing.{AreAt}
use Rattle.expr_lower.proofs.Keeping.{register_other, register_set}
use Rattle.handler_gen.specs.Blocks.{call_handler_blocks, dispatch_block}
use Rattle.handler_gen.specs.CallCuts.{CutsCalls, IsAtCalls, IsRoundCalls, call_halves, call_mark}
use Rattle.handler_gen.specs.CallCuts.{call_work}
use Rattle.handler_gen.specs.Halves.{Halves, child_part}
use Rattle.handler_gen.specs.Halves.{left_part, rest_part}
use Rattle.handler_gen.specs.Reaching.{Reaches}
use Rattle.handler_gen.specs.Sites.{IsCallSite, target_label}
use Rattle.handler_gen.proofs.CallCutting.{cuts_calls}
use Rattle.handler_gen.proofs.Dispatched.{dispatches}
use Rattle.handler_gen.proofs.Reaching.{reached}
use Rattle.join_gen.specs.Blocks.{call_join_blocks}
use Rattle.scene_laws.proofs.Cuts.AtHandlers.{IsAtHandler, IsChild, SidesOwed, asks_owed}
use Rattle.scene_laws.proofs.Cuts.AtHandlers.{place_kept}
use Rattle.scene_laws.proofs.Scenes.Promises.{CanRun, promising}
use Rattle.scene_laws.proofs.Scenes.Scene.{GoesBack, IsDiverted, IsUncut}

-- What stands in a code round a pair of calls: its handler and its join, the block to which beats
-- go, and a plain block where the child begins.
pub record IsCutPair (code : Listing) (dispatch : ℕ) (site : CallSite) : Type 0 where
  pub right : IsCallSite site
  pub dispatches : AreAt code dispatch (dispatch_block dispatch ∷ [])
  pub handler : AreAt code site.label (call_handler_blocks site)
  pub join : AreAt code (target_label site.label) (call_join_blocks site)
  pub entry : is_ready (note_of (block_at code site.entry)) ≡ false

-- A diverted task whose oldest mark is that of a pair of calls in the activation at z, above which
-- the activation of the first function begins. More marks may stand there.
pub record IsOwnPair (dispatch : ℕ) (site : CallSite) (z : ℕ) (more : List Mark) (state : State)
    : Type 0 where
  pub diverted : IsDiverted dispatch state
  pub size : length state.registers ≡ 32
  pub free : state.pending ≡ None
  pub unmet : state.met ≡ None
  pub marked : state.stack.marks ≡ call_mark site z ∷ more
  pub held : Holds state.stack z (site.cells + 2)
  pub low : z + site.cells ≤ 2 ^ 62

-- ---- the parts

module _ (site : CallSite) (z k : ℕ) (state : State) where
  abbrev pub pair_halves : Halves
  pair_halves = call_halves site z k state.stack

  abbrev pub pair_left : List Word → BeatState → State
  pair_left words beat = left_part (call_work site z k) pair_halves state words beat

  abbrev pub pair_child : List Word → BeatState → State
  pair_child words beat = child_part (call_work site z k) pair_halves state words beat

  abbrev pub pair_rest : RestState
  pair_rest = rest_part (call_work site z k) state

-- what both parts of a cut owe under a record, where they go on with these words and beats
abbrev pub PairForkOwed : Listing → ℕ → CallSite → ℕ → State → Ending → ℕ → List Word → List Word
    → BeatState → BeatState → Type 0
PairForkOwed code heartbeat site z state e k words others beat later =
    SidesOwed code heartbeat e k (pair_left site z k state words beat)
    (pair_child site z k state others later) (pair_rest site z k state)

-- what the child of a cut goes on with
abbrev pub IsPairChild : Listing → CallSite → ℕ → ℕ → State → List Word → BeatState → Type 0
IsPairChild code site z k state words beat =
    IsChild code z words (pair_child site z k state words beat)

-- ---- the diverted task owes

module _ (code : Listing) (heartbeat : ℕ) {dispatch : ℕ} {site : CallSite}
    (place : IsCutPair code dispatch site) (z : ℕ) (more : List Mark) (state : State)
    (at : IsOwnPair dispatch site z more state) where
  round : IsRoundCalls code site
  round = record {
    target = ap (λ (b : Option Block). target_of (note_of b)) place.join.0;
    entry = place.entry;
  }

  cuts : CutsCalls code heartbeat site
  cuts = cuts_calls code heartbeat site place.right place.handler round

  -- ---- at the handler

  abbrev based : List Word
  based = slice_set state.registers 28 (Int (pos z))

  abbrev words_there : List Word
  words_there = slice_set based 29 (Label site.label)

  abbrev task : State
  task = moved_to state words_there (counted (counted state.beat)) site.label 0

  is_oldest : oldest state.stack ≡ Some (call_mark site z)
  is_oldest = ap (λ (marks : List Mark). slice_get marks 0) at.marked

  comes : Reaches code heartbeat state task
  comes = (dispatches code heartbeat dispatch place.dispatches.0).comes (call_mark site z) state
      at.diverted.block at.diverted.at at.size is_oldest
      (ap (λ (b : Option Block). is_ready (note_of b)) place.handler.0)

  many : length words_there ≡ 32
  many = length-set based 29 (Label site.label)
      ∙ (length-set state.registers 28 (Int (pos z)) ∙ at.size)

  high : (r : ℕ) → 30 ≤ r → register words_there r ≡ register state.registers r
  high r from =
      register_other based 29 r (Label site.label) (λ e. absurd (omega (arith, e, from)))
      ∙ register_other state.registers 28 r (Int (pos z)) (λ e. absurd (omega (arith, e, from)))

  at_calls : IsAtCalls site z task
  at_calls = record {
    block = refl;
    at = refl;
    size = many;
    base = register_other based 29 28 (Label site.label) (λ e. absurd (omega (arith, e)))
        ∙ register_set state.registers 28 (Int (pos z)) (omega (arith, at.size));
    granted = at.diverted.granted;
    free = at.free;
    marked = is_oldest;
    held = at.held;
    low = at.low;
  }

  at_handler : IsAtHandler code dispatch site.label state words_there
      (counted (counted state.beat))
  at_handler = record {
    found = place.handler.1.0;
    diverted = at.diverted;
    free = at.free;
    unmet = at.unmet;
    high = high;
    quiet = refl;
  }

  module _ (e : Ending)
      (back : (u : State) → GoesBack code state u → IsUncut state u → CanRun code u
      → Bound code heartbeat false 0 u e)
      (forks : (k : ℕ) → IsOtherRecord state.goal k → (words others : List Word)
      (beat later : BeatState) → GoesBack code state (pair_left site z k state words beat)
      → CanRun code (pair_left site z k state words beat)
      → IsPairChild code site z k state others later
      → PairForkOwed code heartbeat site z state e k words others beat later) where
    handler_owed : CanRun code task → Bound code heartbeat true 0 task e
    handler_owed =
        asks_owed code heartbeat at_handler e (λ k. call_work site z k)
        (λ k. pair_halves site z k state) (cuts.asks z task at_calls)
        (cuts.goes_back z task at_calls) (λ k. cuts.cuts z task k at_calls) back
        (λ k other words others beat later keeps can_left child.
        forks k other words others beat later
        (place_kept site.label place.handler.1.0 state at.diverted
        (pair_left site z k state words beat) refl refl keeps) can_left child)

    pub pair_cut_owed : CanRun code state → Bound code heartbeat true 0 state e
    pair_cut_owed can =
        reached code heartbeat (promising code heartbeat ⊤ true 0 e) state task comes
        (λ given can_task. handler_owed can_task) tt can
