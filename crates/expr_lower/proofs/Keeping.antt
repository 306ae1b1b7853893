-- Registers after an instruction, and what a task keeps over several.
use Rattle.std.proofs.Common.{◌≡◌, ◌≢◌, ◌⊎◌, inl, inr, ℕ, ◌<◌, ◌≤◌, List, length, refl}
use Rattle.std.proofs.Common.{sym, ◌∙◌, arith}
use Rattle.std.specs.Prelude.{slice_set}
use Rattle.std.proofs.lemmas.List.{get_or-set_same, get_or-set_other, length-set}
use Rattle.beat_count.specs.BeatState.{BeatState}
use Rattle.beat_count.specs.Heartbeat.{counted}
use Rattle.tpal_syntax.specs.declared.words.Word.{Word}
use Rattle.tpal_syntax.specs.declared.words.Word.TheVariants.{Nil}
use Rattle.tpal_machine.specs.Reading.{register}
use Rattle.tpal_machine.specs.State.{State}
use Rattle.expr_lower.specs.Leaving.{Keeps, moved}

pub register_set : (words : List Word) (r : ℕ) (w : Word) → r < length words → register (slice_set words r w) r ≡ w
register_set words r w inside = get_or-set_same words r w Nil inside

pub register_other : (words : List Word) (r q : ℕ) (w : Word) → q ≢ r → register (slice_set words r w) q ≡ register words q
register_other words r q w other = get_or-set_other words r q w Nil other

-- nothing done
pub kept : (to : ℕ) (state : State) → Keeps to state state.registers state.beat
kept to state = record { size = refl; below = λ r h. refl; above = λ r h. refl; quiet = refl; granted = refl }

-- an instruction more that changes no register
pub kept_counted : (to : ℕ) (state : State) → Keeps to state state.registers (counted state.beat)
kept_counted to state = record { size = refl; below = λ r h. refl; above = λ r h. refl; quiet = refl; granted = refl }

-- an instruction more that sets a register
pub kept_set : (to r : ℕ) (state : State) (w : Word) → to ≤ r → r < 24 → Keeps to state (slice_set state.registers r w) (counted state.beat)
kept_set to r state w from below = record {
  size = length-set state.registers r w;
  below = λ q h. register_other state.registers r q w (λ e. absurd (omega (arith, e)));
  above = λ q h. register_other state.registers r q w (λ e. absurd (omega (arith, e)));
  quiet = refl;
  granted = refl;
}

-- one after the other
pub kept_twice : (to from : ℕ) (state : State) (words other : List Word) (beat later : BeatState) (at : ℕ) → to ≤ from → Keeps to state words beat → Keeps from (moved state words beat at) other later → Keeps to state other later
kept_twice to from state words other beat later at within first second = record {
  size = second.size ∙ first.size;
  below = λ r h. second.below r (omega arith) ∙ first.below r h;
  above = λ r h. second.above r h ∙ first.above r h;
  quiet = second.quiet ∙ first.quiet;
  granted = second.granted ∙ first.granted;
}

-- fewer registers changed
pub kept_wider : (to from : ℕ) (state : State) (words : List Word) (beat : BeatState) → to ≤ from → Keeps from state words beat → Keeps to state words beat
kept_wider to from state words beat within keeps = record {
  size = keeps.size;
  below = λ r h. keeps.below r (omega arith);
  above = keeps.above;
  quiet = keeps.quiet;
  granted = keeps.granted;
}

-- ---- registers that are kept

-- a register that what changes those of values from one on leaves alone
abbrev pub Apart : ℕ → ℕ → Type 0
Apart from r = (r < from) ⊎ (24 ≤ r)

pub kept_apart : (from r : ℕ) (state : State) (words : List Word) (beat : BeatState) → Apart from r
    → Keeps from state words beat → register words r ≡ register state.registers r
kept_apart from r state words beat (inl low) keeps = keeps.below r low
kept_apart from r state words beat (inr high) keeps = keeps.above r high

pub apart_other : (from r : ℕ) → from < 24 → Apart from r → r ≢ from
apart_other from r low (inl below) e = absurd (omega (arith, e))
apart_other from r low (inr high) e = absurd (omega (arith, e))

-- an operand that is wanted in a register stands in it, or in one behind those of values
abbrev pub Stands : ℕ → ℕ → Type 0
Stands to place = (place ≡ to) ⊎ (24 ≤ place)

pub stands_apart : (to from place : ℕ) → to < from → Stands to place → Apart from place
stands_apart to from place above (inl same) = inl (omega (arith, same))
stands_apart to from place above (inr high) = inr high

pub stands_other : (to r place : ℕ) → to ≢ r → r < 24 → Stands to place → place ≢ r
stands_other to r place other low (inl same) e = absurd (other (sym same ∙ e))
stands_other to r place other low (inr high) e = absurd (omega (arith, e))
