-- What a turn leaves of what a worker has.
use Rattle.std.proofs.Common.{◌≡◌, ℕ, ◌+◌, ◌*◌, ◌-◌, ◌^◌, ◌≤◌, true, false, Option, None, Some}
use Rattle.std.proofs.Common.{refl, sym, ap, ◌∙◌, subst, arith}
use Rattle.std.specs.Prelude.{min}
use Rattle.tpal_machine.specs.declared.ends.Ending.{Ending}
use Rattle.tpal_machine.specs.declared.ends.Ending.TheVariants as ending
use Rattle.tpal_machine.specs.declared.turn.Turn.{Turn}
use Rattle.tpal_machine.specs.declared.turn.Turn.TheVariants as turn
use Rattle.tpal_machine.specs.Answer.{HadMemory}
use Rattle.tpal_machine.specs.Keeping.{credit, number_of, AnsweredKeeps, EndsFrom}
use Rattle.tpal_machine.specs.Owed.{owing, due_after, AnsweredOwes}
use Rattle.tpal_machine.specs.RestState.{end_of}
use Rattle.tpal_machine.specs.State.{State}
use Rattle.join_records.specs.declared.table.Taken.{Taken}
use Rattle.join_records.specs.Words.{bit}
use Rattle.steal_pool.specs.declared.desk.Counts.{Counts}
use Rattle.steal_pool.specs.Has.{Knows, number_in, IsHeld, HasHand, HasCounts, HasEnded, Runs}
use Rattle.steal_pool.specs.Has.{TurnFits}
use Rattle.steal_pool.specs.Terms.{Terms}
use Rattle.steal_pool.proofs.Counting.{due_bits, paid_on}

-- counts after a turn of so many instructions and beats
pub record GoOn (c d : Counts) (n b : ℕ) : Type 0 where
  pub beats : d.beats ≡ c.beats + b
  pub skipped : d.skipped ≡ c.skipped
  pub instructions : d.instructions ≡ min (c.instructions + n) (2 ^ 64 - 1)

-- a worker without the number of a record has taken none
none_taken : (taken : Option Taken) → number_in taken ≡ None → taken ≡ None
none_taken None is = refl
none_taken (Some k) is = absurd (cc)

module _ (terms : Terms) where
  -- the counts after a turn
  counts_on : (v : Knows) (taken : Option Taken) (c d : Counts) (due saved more n b k : ℕ) → HasCounts terms v taken c due saved → GoOn c d n b → d.beats ≤ terms.forks → more ≤ saved + n → due + b ≡ k → HasCounts terms v taken d k more
  counts_on v taken c d due saved more n b k has on few le is = record {
    beats = let a = has.beats in let e = on.beats in let f = on.skipped in omega arith;
    few = few;
    paid = paid_on (2 ^ 64 - 1) (v.opens * terms.heartbeat) saved more n c.instructions d.instructions le on.instructions has.paid;
  }

  -- a task that ends had no record
  ended_fits : (v : Knows) (taken : Option Taken) (c d : Counts) (task : State) (n b : ℕ) (e : Ending) (r : Runs terms v taken c task) → due_after r.due b ≡ false → e ≡ r.ending → b ≤ 1 → (r.due ≡ true → b ≡ 0) → EndsFrom task e → GoOn c d n b → d.beats ≤ terms.forks
      → HasEnded terms v taken d e
  ended_fits v taken c d task n b e r calm_now is few calm keeps on short =
      let gone : taken ≡ None = none_taken taken (sym r.pending ∙ ap number_of keeps.pending) in record {
        rests = record {
          none = gone;
          hand = subst (HasHand terms v) gone r.hand;
          counts_fit = subst (λ (t : Option Taken). HasCounts terms v t d 0 0) gone
              (counts_on v taken c d (bit r.due) (credit terms.heartbeat task.beat) 0 n b 0 r.counts_fit on short (omega arith) (due_bits r.due b few calm ∙ ap bit calm_now));
        };
        made = r.made;
        held = subst (λ (x : _ × Ending). IsHeld terms v x.0 x.1) (λ i. (sym keeps.place i, sym is i)) r.held;
      }

  -- what a turn came to fits what the worker has and the counts after it
  pub turn_fits : (v : Knows) (taken : Option Taken) (c d : Counts) (task : State) (n b : ℕ) (t : Turn) (r : Runs terms v taken c task) → AnsweredOwes terms.code (owing terms.code terms.heartbeat) (due_after r.due b) r.ending t → b ≤ 1 → (r.due ≡ true → b ≡ 0)
      → AnsweredKeeps terms.heartbeat n task t → GoOn c d n b → HadMemory t (d.beats ≤ terms.forks) → TurnFits terms v taken d t
  turn_fits v taken c d task n b (turn.Pause after) r owes few calm keeps on short = record {
    ending = r.ending;
    due = due_after r.due b;
    owes = owes;
    held = subst (λ g. IsHeld terms v (end_of g) r.ending) (sym keeps.goal) r.held;
    pending = ap number_of keeps.pending ∙ r.pending;
    hand = r.hand;
    made = r.made;
    counts_fit = counts_on v taken c d (bit r.due) (credit terms.heartbeat task.beat) (credit terms.heartbeat after.beat) n b (bit (due_after r.due b)) r.counts_fit on short keeps.credit (due_bits r.due b few calm);
  }
  turn_fits v taken c d task n b (turn.NeedRecord waits) r owes few calm keeps on short =
      let gone : taken ≡ None = none_taken taken (sym r.pending ∙ ap number_of keeps.none) in record {
        ending = r.ending;
        owes = owes.1;
        held = subst (λ g. IsHeld terms v (end_of g) r.ending) (sym keeps.goal) r.held;
        waiting = keeps.waiting;
        pending = keeps.pending;
        none = gone;
        hand = subst (HasHand terms v) gone r.hand;
        made = r.made;
        counts_fit = subst (λ (t : Option Taken). HasCounts terms v t d 1 (credit terms.heartbeat waits.beat)) gone
            (counts_on v taken c d (bit r.due) (credit terms.heartbeat task.beat) (credit terms.heartbeat waits.beat) n b 1 r.counts_fit on short keeps.credit (due_bits r.due b few calm ∙ ap bit owes.0));
      }
  turn_fits v taken c d task n b (turn.Forked left rest child rec) r owes few calm keeps on short = record {
    ending = r.ending;
    steps = n;
    before = task;
    owes = owes.1;
    from = keeps;
    held = subst (λ g. IsHeld terms v (end_of g) r.ending) (sym keeps.rest_goal) r.held;
    record_is = sym r.pending ∙ (ap number_of keeps.pending ∙ ap Some (sym keeps.rec));
    hand = r.hand;
    made = r.made;
    counts_fit = counts_on v taken c d (bit r.due) (credit terms.heartbeat task.beat) (terms.heartbeat + credit terms.heartbeat left.beat) n b 0 r.counts_fit on short keeps.left_credit (due_bits r.due b few calm ∙ ap bit owes.0);
  }
  turn_fits v taken c d task n b (turn.Arrived rec side out) r owes few calm keeps on short = ended_fits v taken c d task n b (ending.At rec side out) r owes.0 owes.1 few calm keeps on short
  turn_fits v taken c d task n b (turn.Halted outcome) r owes few calm keeps on short = ended_fits v taken c d task n b (ending.Root outcome) r owes.0 owes.1 few calm keeps on short
  turn_fits v taken c d task n b (turn.Stuck fault block at) r owes few calm keeps on short = owes
  turn_fits v taken c d task n b turn.NoMemory r owes few calm keeps on short = tt
