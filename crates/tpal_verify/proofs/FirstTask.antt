-- The first task of a run knows its place, and a step of a task that does is stuck by a fault that is
-- allowed, if at all.
use Rattle.std.proofs.Common.{◌≡◌, ℕ, zero, suc, List, [], ◌∷◌, Option, Some, None, refl, ap, subst}
use Rattle.std.specs.Prelude.{Bool, true, false, pos, replicate, slice_get}
use Rattle.slices.specs.Holding.{Holding}
use Rattle.tpal_syntax.specs.declared.blocks.Block.{Block}
use Rattle.tpal_syntax.specs.declared.words.Word.{Word}
use Rattle.tpal_syntax.specs.declared.words.Word.TheVariants as word
use Rattle.tpal_syntax.specs.Conditions.{IsCode}
use Rattle.tpal_syntax.specs.Listing.{Listing}
use Rattle.tpal_machine.specs.declared.ends.Goal.TheVariants as goal
use Rattle.tpal_machine.specs.declared.ends.Tie.{Tie}
use Rattle.tpal_machine.specs.declared.faults.Fault.{Fault}
use Rattle.tpal_machine.specs.Belonging.{RunsOn}
use Rattle.tpal_machine.specs.State.{State, empty_stack, first_state}
use Rattle.tpal_machine.specs.Step.{Stuck, step}
use Rattle.tpal_verify.specs.declared.kinds.Kind.{Kind}
use Rattle.tpal_verify.specs.declared.kinds.Kind.TheVariants.{Empty}
use Rattle.tpal_verify.specs.declared.phases.Phase.TheVariants.{Calm}
use Rattle.tpal_verify.specs.Shapes.{first_shape}
use Rattle.tpal_verify.specs.Flat.{Ground, ground_of, cells_of, first_cells}
use Rattle.tpal_verify.specs.Rounds.{Shapes}
use Rattle.tpal_verify.specs.Breaks.{MeetsRules}
use Rattle.tpal_verify.specs.Safe.{IsAllowed}
use Rattle.tpal_verify.specs.Fits.{IsOfKind, AreOfKinds, HoldsIn, Knows}
use Rattle.tpal_verify.proofs.Holding.{holds_above}
use Rattle.tpal_verify.proofs.Walking.{stands_at}
use Rattle.tpal_verify.proofs.Entering.{block_below, StepKnows}
use Rattle.tpal_verify.proofs.Knowing.{step_knows}
use Rattle.tpal_verify.proofs.Forking.{ForkKnown, target_in, fork_comes}

empty_words : (P : Kind → Word → Type 0) → P Empty word.Nil → (n : ℕ) → AreOfKinds P (replicate n Empty) (replicate n word.Nil)
empty_words P e zero = tt
empty_words P e (suc n) = (e, empty_words P e n)

empty_registers : (P : Kind → Word → Type 0) (w : Word) → P Empty word.Nil → (n : ℕ) → AreOfKinds P (replicate n Empty) (Rattle.std.specs.Prelude.◌++◌ (replicate n word.Nil) (w ∷ []))
empty_registers P w e zero = tt
empty_registers P w e (suc n) = (e, empty_registers P w e n)

module _ (code : Listing) (A : Shapes) (meets : MeetsRules code A) (right_code : IsCode code.tables code.blocks) where
  abbrev whole : Ground
  whole = ground_of code

  opens_at : (blocks : List Block) (block : Block) → slice_get blocks 0 ≡ Some block → cells_of blocks ≡ first_cells block.body
  opens_at [] block q = absurd (no_block q)
    where
      no_block : None ≡ Some block → ⊥
      no_block z = cc
  opens_at (b ∷ bs) block q = ap body q
    where
      body : Option Block → ℕ
      body None = 0
      body (Some x) = first_cells x.body

  first_holds : HoldsIn whole true (first_shape whole.cells) (first_state [] 0).registers empty_stack goal.Root None None false
  first_holds = record {
    registers_are = empty_registers (IsOfKind whole goal.Root None None) (word.Int (pos 0)) refl 31;
    base_is = refl;
    cells_are = empty_words (IsOfKind whole goal.Root None None) refl whole.cells;
    stack_is = refl;
    end_is = tt;
    mark_is = refl;
    grant_is = tt;
    met_is = tt;
  }

  pub first_knows : (held : List Holding) (fuel : ℕ) → Knows code A (first_state held fuel)
  first_knows held fuel =
      let b = block_below code 0 right_code.some_block in
      let stands = stands_at code A meets 0 b.block (first_shape whole.cells) b.is meets.first in
      record {
        first = true;
        shape = stands.shape;
        phase = Calm;
        block = b.block;
        found = b.is;
        good = stands.well.walk;
        holds = holds_above whole true (first_shape whole.cells) stands.shape (first_state held fuel).registers empty_stack goal.Root None None false stands.below first_holds;
        in_phase = refl;
        ahead = tt;
        opens = opens_at code.blocks b.block b.is;
        met_apart = tt;
        pending_apart = tt;
      }

  pub after_step : (heartbeat : ℕ) (allowed : Bool) (state : State) → Knows code A state → RunsOn code state → StepKnows code A (ForkKnown code A) (step code heartbeat allowed state)
  after_step heartbeat allowed state k runs =
      step_knows code A meets right_code heartbeat allowed (ForkKnown code A)
      (λ block p s first rest t rec child tied h. fork_comes code A meets right_code heartbeat allowed block p s first rest t rec child
      (λ tie q. target_in code A meets right_code heartbeat allowed tie.target (tied_target t.pending tied tie q)) h)
      state k runs
    where
      tied_target : (o : Option Tie) → Rattle.tpal_machine.specs.Belongs.IsTieOf code o → (tie : Tie) → o ≡ Some tie → Rattle.tpal_machine.specs.Reading.is_target code tie.target ≡ true
      tied_target None is tie q = absurd (no_tie q)
        where
          no_tie : None ≡ Some tie → ⊥
          no_tie z = cc
      tied_target (Some x) is tie q = subst (λ k. Rattle.tpal_machine.specs.Reading.is_target code k ≡ true) (ap of q) is
        where
          of : Option Tie → ℕ
          of None = 0
          of (Some y) = y.target

  pub stuck_by : (heartbeat : ℕ) (allowed : Bool) (state : State) (fault : Fault) → Knows code A state → RunsOn code state → step code heartbeat allowed state ≡ Stuck fault → IsAllowed fault
  stuck_by heartbeat allowed state fault k runs q = subst (λ x. StepKnows code A (ForkKnown code A) x) q (after_step heartbeat allowed state k runs)
