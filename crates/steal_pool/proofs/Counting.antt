-- What a worker counts, from turn to turn.
use Rattle.std.proofs.Common.{◌≡◌, ◌⊎◌, ℕ, zero, suc, ◌+◌, ◌<◌, ◌≤◌, Bool, true, false, refl, sym}
use Rattle.std.proofs.Common.{◌∙◌, ◌-◌, ◌^◌, ap, subst, inl, inr, ⊎_elim, arith, Option, None, Some}
use Rattle.std.specs.Prelude.{min, nat_lt, IfNone}
use Rattle.std.proofs.Math.Nat.{min-eq_left, min-eq_right}
use Rattle.tpal_syntax.specs.Listing.{Listing}
use Rattle.tpal_machine.specs.declared.turn.Turn.{Turn}
use Rattle.tpal_machine.specs.declared.turn.Turn.TheVariants as turn
use Rattle.tpal_machine.specs.Answer.{HadMemory}
use Rattle.tpal_machine.specs.Keeping.{IsUndiverted}
use Rattle.tpal_machine.specs.Memory.{WhereWanting}
use Rattle.tpal_machine.specs.Owed.{due_after}
use Rattle.tpal_machine.specs.State.{State}
use Rattle.tpal_machine.specs.Step.{Step, Goes, Beats, Ends, Asks, Forks, Stuck, Strays, step}
use Rattle.tpal_machine.specs.Turn.{Turned, turn_from, turn_of, went_on}
use Rattle.tpal_machine.proofs.Undiverted.{agrees}
use Rattle.join_records.specs.declared.table.Taken.{Taken}
use Rattle.join_records.specs.Answers.{NoneFree}
use Rattle.join_records.specs.Words.{bit}
use Rattle.steal_pool.specs.declared.desk.Counts.{Counts}
use Rattle.steal_pool.specs.declared.desk.Work.{Work}
use Rattle.steal_pool.specs.declared.desk.Work.TheVariants as work
use Rattle.steal_pool.specs.Has.{Knows, count_in}
use Rattle.steal_pool.specs.Stepped.{CountsTask, SkipsFairly, turn_in, UnlessLost}
use Rattle.steal_pool.specs.Terms.{Terms}

-- a beat is due after a turn where one was, or came in it
pub due_bits : (due : Bool) (b : ℕ) → b ≤ 1 → (due ≡ true → b ≡ 0) → bit due + b ≡ bit (due_after due b)
due_bits true zero few calm = refl
due_bits true (suc b) few calm = let z = calm refl in absurd (omega arith)
due_bits false zero few calm = refl
due_bits false (suc zero) few calm = refl
due_bits false (suc (suc b)) few calm = absurd (omega arith)

-- what was saved up is paid by the instructions, also where their count comes to its end
pub paid_on : (top x s t n i j : ℕ) → t ≤ s + n → j ≡ min (i + n) top → (x + s ≤ i) ⊎ (top ≤ i) → (x + t ≤ j) ⊎ (top ≤ j)
paid_on top x s t n i j le is paid = by_size (le_or (i + n) top)
  where
    le_or : (a b : ℕ) → (a ≤ b) ⊎ (b ≤ a)
    le_or a b = grind arith

    by_size : (i + n ≤ top) ⊎ (top ≤ i + n) → (x + t ≤ j) ⊎ (top ≤ j)
    by_size (inl small) = let e : j ≡ i + n = is ∙ min-eq_left {n = i + n} {m = top} small in ⊎_elim (λ (a : x + s ≤ i). inl (omega arith)) (λ (a : top ≤ i). inr (omega arith)) paid
    by_size (inr big) = let e : j ≡ top = is ∙ min-eq_right {n = top} {m = i + n} big in inr (omega arith)

-- a step that isn't diverted is no beat
never_beats : (one calm : Step) (after : State) → IsUndiverted one calm → calm ≡ Beats after → ⊥
never_beats (Beats diverted) calm after goes is = let z : Goes goes.0 ≡ Beats after = sym goes.1 ∙ is in cc
never_beats (Goes other) calm after same is = let z : Goes other ≡ Beats after = sym same ∙ is in cc
never_beats (Ends e) calm after same is = let z : Ends e ≡ Beats after = sym same ∙ is in cc
never_beats (Asks waits) calm after same is = let z : Asks waits ≡ Beats after = sym same ∙ is in cc
never_beats (Forks parts) calm after same is = let z : Forks parts ≡ Beats after = sym same ∙ is in cc
never_beats (Stuck fault) calm after same is = let z : Stuck fault ≡ Beats after = sym same ∙ is in cc
never_beats Strays calm after same is = let z : Strays ≡ Beats after = sym same ∙ is in cc

-- a turn in which no diversion is allowed has no beat
calm_step : (one : Step) (steps beats : ℕ) (s : State) (go divert : State → Turned) → ((after : State) → one ≡ Beats after → ⊥) → ((after : State) → (go after).beats ≡ beats) → (went_on one steps beats s go divert).beats ≡ beats
calm_step (Goes after) steps beats s go divert never on = on after
calm_step (Beats after) steps beats s go divert never on = absurd (never after refl)
calm_step (Ends e) steps beats s go divert never on = refl
calm_step (Asks waits) steps beats s go divert never on = refl
calm_step (Forks parts) steps beats s go divert never on = refl
calm_step (Stuck fault) steps beats s go divert never on = refl
calm_step Strays steps beats s go divert never on = refl

pub calm_turn : (n : ℕ) (code : Listing) (heartbeat steps beats : ℕ) (s : State) → (turn_from n code heartbeat false steps beats s).beats ≡ beats
unfolding turn_from
calm_turn zero code heartbeat steps beats s = refl
calm_turn (suc n) code heartbeat steps beats s =
    calm_step (step code heartbeat false s) steps beats s (λ after. turn_from n code heartbeat false (steps + 1) beats after) (λ after. turn_from n code heartbeat false (steps + 1) (beats + 1) after)
    (λ after. never_beats (step code heartbeat true s) (step code heartbeat false s) after (agrees code heartbeat s))
    (λ after. calm_turn n code heartbeat (steps + 1) beats after)

-- what is had of a turn with memory may be weakened
had : (t : Turn) {P Q : Type 0} → (P → Q) → HadMemory t P → HadMemory t Q
had (turn.Pause task) f p = f p
had (turn.NeedRecord task) f p = f p
had (turn.Forked left rest child rec) f p = f p
had (turn.Arrived rec side out) f p = f p
had (turn.Halted outcome) f p = f p
had (turn.Stuck fault block at) f p = f p
had turn.NoMemory f p = tt

-- a worker is diverted at most so often as it may be
pub short_beats : (t : Turn) (code : Listing) (heartbeat n : ℕ) (allowed : Bool) (s : State) (before b after forks : ℕ) → HadMemory t (b ≡ (turn_of n code heartbeat allowed s).beats) → b ≤ 1 → after ≡ before + b → before ≤ forks → (allowed ≡ true → before < forks) → HadMemory t (after ≤ forks)
short_beats t code heartbeat n true s before b after forks is few sum low below = had t (λ e. let more = below refl in omega arith) is
short_beats t code heartbeat n false s before b after forks is few sum low below = had t (λ e. let none : b ≡ 0 = e ∙ calm_turn n code heartbeat 0 0 s in omega arith) is

-- ---- what a turn counts

pub unless : (w : Work) {P : Type 0} → P → UnlessLost w P
unless work.Nothing p = p
unless (work.Runs task) p = p
unless (work.Ended e) p = p
unless (work.Finished outcome) p = p
unless work.Saw p = p
unless work.Lost p = tt

-- a worker that has memory counted the machine's turn of its task
pub counts_turn : (terms : Terms) (task : State) (c d : Counts) (t : Turn) (after : Work) (n b : ℕ) (code : Listing) (heartbeat : ℕ) (allowed : Bool) → code ≡ terms.code → heartbeat ≡ terms.heartbeat → allowed ≡ nat_lt c.beats terms.forks
    → HadMemory t (n ≡ (turn_of 4096 code heartbeat allowed task).steps) → HadMemory t (b ≡ (turn_of 4096 code heartbeat allowed task).beats) → WhereWanting t (after ≡ work.Lost) → d.beats ≡ c.beats + b → d.instructions ≡ min (c.instructions + n) (2 ^ 64 - 1) → UnlessLost after (CountsTask terms task c d)
counts_turn terms task c d t after n b code heartbeat allowed same pace may steps beats lost all sum = by_turn t steps beats lost
  where
    turned : turn_of 4096 code heartbeat allowed task ≡ turn_in terms c task
    turned i = turn_of 4096 (same i) (pace i) (may i) task

    counted : n ≡ (turn_of 4096 code heartbeat allowed task).steps → b ≡ (turn_of 4096 code heartbeat allowed task).beats → UnlessLost after (CountsTask terms task c d)
    counted steps beats = unless after record {
      beats = all ∙ ap (λ (x : ℕ). c.beats + x) (beats ∙ ap (λ (x : Turned). x.beats) turned);
      instructions = sum ∙ ap (λ (x : ℕ). min (c.instructions + x) (2 ^ 64 - 1)) (steps ∙ ap (λ (x : Turned). x.steps) turned);
    }

    by_turn : (t : Turn) → HadMemory t (n ≡ (turn_of 4096 code heartbeat allowed task).steps) → HadMemory t (b ≡ (turn_of 4096 code heartbeat allowed task).beats) → WhereWanting t (after ≡ work.Lost) → UnlessLost after (CountsTask terms task c d)
    by_turn (turn.Pause after) steps beats lost = counted steps beats
    by_turn (turn.NeedRecord after) steps beats lost = counted steps beats
    by_turn (turn.Forked left rest child rec) steps beats lost = counted steps beats
    by_turn (turn.Arrived rec side out) steps beats lost = counted steps beats
    by_turn (turn.Halted outcome) steps beats lost = counted steps beats
    by_turn (turn.Stuck fault block at) steps beats lost = counted steps beats
    by_turn turn.NoMemory steps beats lost = subst (λ (w : Work). UnlessLost w (CountsTask terms task c d)) (sym lost) tt

-- a question is skipped where no record was taken
pub asked_fairly : (records : ℕ) (v w : Knows) (c d : Counts) (taken : Option Taken) → d.skipped + count_in taken ≡ c.skipped + 1 → IfNone taken (NoneFree 0 records v w) → SkipsFairly records v c w d
asked_fairly records v w c d None sum none = inr (omega arith, none)
asked_fairly records v w c d (Some taken) sum none = inl (omega arith)
