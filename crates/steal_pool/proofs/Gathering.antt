-- What workers that have ended come to together.
use Rattle.std.proofs.Common.{◌≡◌, ◌⊎◌, ℕ, ◌+◌, ◌*◌, ◌-◌, ◌^◌, ◌<◌, ◌≤◌, List, [], ◌∷◌, ◌++◌}
use Rattle.std.proofs.Common.{length, Option, None, Some, inl, inr, refl, sym, ap, ◌∙◌, subst, ⊎_elim}
use Rattle.std.proofs.Common.{arith}
use Rattle.std.specs.Prelude.{min, Result, Ok, Err, IfErr, IfOk}
use Rattle.std.proofs.Math.Nat.{min-eq_left, min-eq_right}
use Rattle.tp_value.specs.declared.values.NoMemory.{NoMemory}
use Rattle.tp_value.specs.declared.values.Outcome.{Outcome}
use Rattle.tpal_syntax.specs.Listing.{Listing}
use Rattle.tpal_machine.specs.declared.ends.Ending.{Ending}
use Rattle.tpal_machine.specs.declared.ends.Ending.TheVariants as ending
use Rattle.tpal_machine.specs.State.{State}
use Rattle.join_records.specs.declared.load.Load.{Ghosts}
use Rattle.join_records.specs.declared.table.Pass.{Pass}
use Rattle.join_records.specs.declared.table.Taken.{Taken}
use Rattle.join_records.specs.Passes.{view, made_in, opens_in, parts_in, saw_in}
use Rattle.join_records.specs.Views.{saw_finish, total}
use Rattle.join_records.specs.Words.{bit}
use Rattle.join_records.proofs.Calls.{last_total}
use Rattle.join_records.proofs.Functions.{length_more}
use Rattle.steal_pool.specs.declared.desk.Counts.{Counts}
use Rattle.steal_pool.specs.declared.desk.Work.{Work}
use Rattle.steal_pool.specs.declared.desk.Work.TheVariants as work
use Rattle.steal_pool.specs.Facts.{Owed, owed_one}
use Rattle.steal_pool.specs.Has.{Has, HasFinished, HasSeen, IsRooted, Rests}
use Rattle.steal_pool.specs.Terms.{Terms}
use Rattle.steal_pool.specs.Together.{Adds, AreSums, Gathered, IsOutcomeWith}

-- a product with one more
times_more : (n k : ℕ) → n * (k + 1) ≡ n * k + n
times_more n k = grind arith

-- a product of a sum
shared : (a b h : ℕ) → (a + b) * h ≡ a * h + b * h
shared a b h = grind arith

-- a product grows with both its factors
both_grow : (a b x y : ℕ) → a ≤ x → b ≤ y → a * b ≤ x * y
both_grow a b x y p q = grind arith

-- a sum that stays at its type's end, and gets one more of all that are left to it
pub capped_on : (i one left all j more top : ℕ) → j ≡ min (i + one) top → more ≡ left + one → min (i + more) top ≡ min all top → min (j + left) top ≡ min all top
capped_on i one left all j more top is last before = ap (λ (n : ℕ). min (n + left) top) is ∙ (by_size (le_or (i + one) top) ∙ (ap (λ (n : ℕ). min n top) (let z : i + one + left ≡ i + more = omega arith in z) ∙ before))
  where
    le_or : (x y : ℕ) → (x ≤ y) ⊎ (y ≤ x)
    le_or x y = grind arith

    by_size : (i + one ≤ top) ⊎ (top ≤ i + one) → min (min (i + one) top + left) top ≡ min (i + one + left) top
    by_size (inl small) = ap (λ (n : ℕ). min (n + left) top) (min-eq_left {n = i + one} {m = top} small)
    by_size (inr big) = ap (λ (n : ℕ). min (n + left) top) (min-eq_right {n = top} {m = i + one} big) ∙ (min-eq_right {n = top} {m = top + left} (omega arith) ∙ sym (min-eq_right {n = top} {m = i + one + left} (omega arith)))

-- a sum that stays at its type's end is at most there
pub capped : (j x top : ℕ) → j ≡ min x top → j ≤ top
capped j x top is = by_size (le_or x top)
  where
    le_or : (x y : ℕ) → (x ≤ y) ⊎ (y ≤ x)
    le_or x y = grind arith

    by_size : (x ≤ top) ⊎ (top ≤ x) → j ≤ top
    by_size (inl small) = let e : j ≡ x = is ∙ min-eq_left {n = x} {m = top} small in omega arith
    by_size (inr big) = let e : j ≡ top = is ∙ min-eq_right {n = top} {m = x} big in omega arith

-- a sum with nothing left to it
alone : (b x y : ℕ) → x ≡ 0 → b + x ≡ y → b ≡ y
alone b x y none all = omega arith

-- the sums when no worker is left
pub all_sums : {A : Type 0} (counts : A → Counts) (left all : List A) (b s i : ℕ) → left ≡ [] → b + total (λ w. (counts w).beats) left ≡ total (λ w. (counts w).beats) all → s + total (λ w. (counts w).skipped) left ≡ total (λ w. (counts w).skipped) all
    → min (i + total (λ w. (counts w).instructions) left) (2 ^ 64 - 1) ≡ min (total (λ w. (counts w).instructions) all) (2 ^ 64 - 1) → i ≤ 2 ^ 64 - 1 → AreSums counts all b s i
all_sums {A} counts left all b s i none beats skipped instructions small = record {
  beats_is = alone b (total (λ w. (counts w).beats) left) _ (zero_of (λ w. (counts w).beats)) beats;
  skipped_is = alone s (total (λ w. (counts w).skipped) left) _ (zero_of (λ w. (counts w).skipped)) skipped;
  instructions_is = sym (min-eq_left {n = i} {m = 2 ^ 64 - 1} small) ∙ (ap (λ (n : ℕ). min n (2 ^ 64 - 1)) (alone i (total (λ w. (counts w).instructions) left) (i + total (λ w. (counts w).instructions) left) (zero_of (λ w. (counts w).instructions)) refl) ∙ instructions);
}
  where
    zero_of : (f : A → ℕ) → total f left ≡ 0
    zero_of f = ap (λ (l : List A). total f l) none

-- what holds anyway holds with any error
pub any_err : {A E : Type 0} (P : Type 0) (r : Result A E) → P → IfErr r (λ _. P)
any_err P (Ok a) p = tt
any_err P (Err e) p = p

-- one thing is not two
some_one : {A : Type 0} {a b : A} → Some a ≡ Some b → a ≡ b
some_one e = cc

-- a run that answers an outcome that its first task owes answers what is owed
pub one_outcome : {A : Type 0} (code : Listing) (heartbeat : ℕ) (first : State) (of : A → Outcome) (r : Result A NoMemory) (e : Ending) → Owed code heartbeat first e → IfOk r (λ a. Owed code heartbeat first (ending.Root (of a))) → IfOk r (λ a. e ≡ ending.Root (of a))
one_outcome code heartbeat first of (Ok a) e owes told = owed_one code heartbeat first e (ending.Root (of a)) owes told
one_outcome code heartbeat first of (Err f) e owes told = tt

module _ {L R D : Type 0} {G : Ghosts L R State D Ending} where
  -- passes that have all 16 parts are some
  some_passes : (ps : List (Pass L R State D Ending G)) → parts_in ps ≡ 16 → 0 < length ps
  some_passes [] all = absurd (omega arith)
  some_passes (p ∷ ps) all = omega arith

  -- with no outcome none made the finish, and each saw it: so there are none
  pub some_outcome : (terms : Terms) (out : Option Outcome) (ps : List (Pass L R State D Ending G)) → out ≡ None → parts_in ps ≡ 16 → Gathered terms out ps → (0 < saw_in ps → made_in ps ≡ 1) → ⊥
  some_outcome terms out ps is all g once =
      let none : Gathered terms None ps = subst (λ (o : Option Outcome). Gathered terms o ps) is g in let one = once (none.1 (some_passes ps all)) in let zero = none.0 in absurd (omega arith)

module _ {L R D : Type 0} {G : Ghosts L R State D Ending} (terms : Terms) where
  -- one more worker that made the finish, or that saw it made
  module _ (ps qs : List (Pass L R State D Ending G)) (p : Pass L R State D Ending G) (more : qs ≡ ps ++ p ∷ []) where
    made : made_in qs ≡ made_in ps + (view p).made
    made = last_total (λ u. u.seat.me.0.made) qs ps p more

    saw : saw_in qs ≡ saw_in ps + bit (saw_finish (view p).reads)
    saw = last_total (λ u. bit (saw_finish u.seat.me.0.reads)) qs ps p more

    opens : opens_in qs ≡ opens_in ps + (view p).opens
    opens = last_total (λ u. u.seat.me.0.opens) qs ps p more

    long : length qs ≡ length ps + 1
    long = ap length more ∙ length_more ps p

    pub one_finished : (taken : Option Taken) (c : Counts) (outcome : Outcome) → HasFinished terms (view p) taken c (ending.Root outcome) → IsRooted terms (view p) → Gathered terms (Some outcome) qs
    one_finished taken c outcome f rooted = let mm = made in let one = f.made in (subst (Owed terms.code terms.heartbeat terms.first) (some_one (sym rooted.root ∙ f.root)) rooted.owed, omega arith)

    pub one_seen : (taken : Option Taken) (c : Counts) (before : Option Outcome) → HasSeen terms (view p) taken c → Gathered terms before ps → Gathered terms before qs
    one_seen taken c None s g = let mm = made in let ss = saw in let none = s.made in let b = ap bit s.saw in let g0 = g.0 in (omega arith, λ _. omega arith)
    one_seen taken c (Some outcome) s g = let mm = made in let g1 = g.1 in (g.0, omega arith)

    pub one_adds : (taken : Option Taken) (c : Counts) (b s i j : ℕ) → Rests terms (view p) taken c → Adds terms b s i ps → terms.forks ≤ 1000000 → terms.heartbeat ≤ 1000000000 → length ps ≤ 15 → j ≡ min (i + c.instructions) (2 ^ 64 - 1) → Adds terms (b + c.beats) (s + c.skipped) j qs
    one_adds taken c b s i j rests adds forks beat short is =
        let oo = opens in let ll = long in let mine = rests.counts_fit.beats in let few = rests.counts_fit.few in let all = adds.all in
        let own_few : (view p).opens ≤ terms.forks = omega arith in
        let own : (view p).opens * terms.heartbeat ≤ c.instructions = paid_own in
        let bound : terms.forks * length ps ≤ 15000000 = both_grow terms.forks (length ps) 1000000 15 forks short in let adds_few = adds.few in
        let most : opens_in qs ≤ 16000000 = omega arith in
        let top : opens_in qs * terms.heartbeat ≤ 16000000 * 1000000000 = both_grow (opens_in qs) terms.heartbeat 16000000 1000000000 most beat in
        let split : opens_in qs * terms.heartbeat ≡ opens_in ps * terms.heartbeat + (view p).opens * terms.heartbeat = ap (λ (n : ℕ). n * terms.heartbeat) opens ∙ shared (opens_in ps) (view p).opens terms.heartbeat in
        let before = adds.paid in record {
          all = omega arith;
          few = let more_few : terms.forks * length qs ≡ terms.forks * length ps + terms.forks = ap (λ (n : ℕ). terms.forks * n) long ∙ times_more terms.forks (length ps) in omega arith;
          paid = by_size (opens_in qs * terms.heartbeat) (omega arith) (omega arith) (le_or (i + c.instructions) (2 ^ 64 - 1));
        }
      where
        le_or : (x y : ℕ) → (x ≤ y) ⊎ (y ≤ x)
        le_or x y = grind arith

        by_size : (x : ℕ) → x ≤ i + c.instructions → x ≤ 2 ^ 64 - 1 → (i + c.instructions ≤ 2 ^ 64 - 1) ⊎ (2 ^ 64 - 1 ≤ i + c.instructions) → x ≤ j
        by_size x low high (inl small) = let e : j ≡ i + c.instructions = is ∙ min-eq_left {n = i + c.instructions} {m = 2 ^ 64 - 1} small in omega arith
        by_size x low high (inr big) = let e : j ≡ 2 ^ 64 - 1 = is ∙ min-eq_right {n = 2 ^ 64 - 1} {m = i + c.instructions} big in omega arith

        paid_own : (view p).opens * terms.heartbeat ≤ c.instructions
        paid_own = let mine = rests.counts_fit.beats in let few = rests.counts_fit.few in
            let own_few : (view p).opens ≤ 1000000 = omega arith in
            let top : (view p).opens * terms.heartbeat ≤ 1000000 * 1000000000 = both_grow (view p).opens terms.heartbeat 1000000 1000000000 own_few beat in
            ⊎_elim (λ (a : (view p).opens * terms.heartbeat + 0 ≤ c.instructions). omega arith) (λ (a : 2 ^ 64 - 1 ≤ c.instructions). omega arith) rests.counts_fit.paid

    -- what one more worker that has ended makes of both
    pub one_more : (taken : Option Taken) (c : Counts) (w : Work) (before out : Option Outcome) (b s i j : ℕ) → Has terms (view p) taken c w → IsRooted terms (view p) → IsOutcomeWith w before out → Gathered terms before ps → Adds terms b s i ps → terms.forks ≤ 1000000 → terms.heartbeat ≤ 1000000000
        → length ps ≤ 15 → j ≡ min (i + c.instructions) (2 ^ 64 - 1) → Gathered terms out qs × Adds terms (b + c.beats) (s + c.skipped) j qs
    one_more taken c (work.Finished outcome) before out b s i j has rooted is g adds forks beat short sum =
        (subst (λ (o : Option Outcome). Gathered terms o qs) (sym is) (one_finished taken c outcome has rooted), one_adds taken c b s i j has.rests adds forks beat short sum)
    one_more taken c work.Saw before out b s i j has rooted is g adds forks beat short sum =
        (subst (λ (o : Option Outcome). Gathered terms o qs) (sym is) (one_seen taken c before has g), one_adds taken c b s i j has.rests adds forks beat short sum)
    one_more taken c work.Nothing before out b s i j has rooted is g adds forks beat short sum = absurd is
    one_more taken c (work.Runs task) before out b s i j has rooted is g adds forks beat short sum = absurd is
    one_more taken c (work.Ended e) before out b s i j has rooted is g adds forks beat short sum = absurd is
    one_more taken c work.Lost before out b s i j has rooted is g adds forks beat short sum = absurd is
