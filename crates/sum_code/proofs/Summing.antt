-- What the tasks of the code owe, block by block.
use Rattle.std.proofs.Common.{◌≡◌, ℕ, zero, suc, ◌+◌, ◌-◌, ◌/◌, ◌<◌, ◌≤◌, Bool, true, false, cond}
use Rattle.std.proofs.Common.{Option, Some, None, Err, [], ◌∷◌, refl, ap, subst, arith}
use Rattle.std.proofs.lemmas.Bool.{eq-eqb, le-ltb, lt-ltb}
use Rattle.std.specs.Prelude.{ℤ, pos, ◌^◌, nat_lt}
use Rattle.beat_count.specs.BeatState.{BeatState}
use Rattle.beat_count.specs.Heartbeat.{no_beat, counted, taken}
use Rattle.tp_value.specs.Number.{truth}
use Rattle.tpal_syntax.specs.declared.blocks.Block.{Block}
use Rattle.tpal_syntax.specs.declared.words.Word.{Word}
use Rattle.tpal_syntax.specs.declared.words.Word.TheVariants as word
use Rattle.tpal_syntax.specs.Listing.{Listing}
use Rattle.tpal_machine.specs.declared.ends.SideName.TheVariants.{Left, Right}
use Rattle.tpal_machine.specs.declared.faults.Fault.TheVariants as fault
use Rattle.tpal_machine.specs.Cut.{Forked, fork_under}
use Rattle.tpal_machine.specs.Effect.{answered}
use Rattle.tpal_machine.specs.Owes.{Bound}
use Rattle.tpal_machine.specs.Owes as owes
use Rattle.tpal_machine.specs.State.{State, first_state}
use Rattle.tpal_machine.specs.Step.{Goes, advanced, forked}
use Rattle.tpal_machine.proofs.Owing.{no_least}
use Rattle.sum_code.specs.Sum.{sum_of, sum_below, main_block, end_block, child_block}
use Rattle.sum_code.specs.Sum.{prints_sum}
use Rattle.sum_code.proofs.Sides.{tie, merged, end_owes, merged_owes, merges}
use Rattle.sum_code.proofs.Rounds.{iterated, iterates_once}
use Rattle.sum_code.proofs.Sums.{sum_split, sum_low, middle}
use Rattle.sum_code.proofs.Tasks.{Whose, run, side, record_of, handed, ending_of, mark}
use Rattle.sum_code.proofs.Tasks.{words, task, rest}
use Rattle.sum_code.proofs.Walking.{steps, owes_before, ready_owes, begun}

module _ (count heartbeat limit : ℕ) where
  abbrev pub code : Listing
  code = sum_below count

  abbrev main : Block
  main = main_block count

  abbrev child : Block
  child = child_block

  abbrev pub Owed : Bool → State → Whose → ℕ → Type 0
  Owed due state whose total = Bound code heartbeat due 0 state (ending_of whose total)

  -- ---- a loop that is cut

  -- a loop with one iteration to go, and so many more, before each of which the promotion point is
  -- entered
  abbrev Loop : ℕ → Type 0
  Loop m = (whose : Whose) (a b s total : ℕ) (beat : BeatState) (r3 r4 r5 r6 r7 r30 : Word)
      → a + suc m ≡ b → s + sum_of (suc m) a ≡ total → b < 2 ^ 63 → total < 2 ^ 63
      → Bound code heartbeat false m
      (task limit whose 2
      (words (word.Int (pos a)) (word.Int (pos b)) (word.Int (pos s)) r3 r4 r5 r6 r7 r30)
      (record_of whose) (mark ∷ []) beat)
      (ending_of whose total)

  -- ---- the left of a cut

  -- a beat after the instructions of a handler up to its fork, and that of the left then
  abbrev spent : BeatState
  spent = counted (counted (counted (counted (counted (counted begun)))))

  abbrev left_beat : BeatState
  left_beat = taken (counted spent)

  -- the left behind the fork: a loop with h iterations to go
  abbrev left : (h k a : ℕ) (sum : Word) (kept r1 r3 r6 r7 : Word) → State
  left h k a sum kept r1 r3 r6 r7 =
      record
      (task limit (side k Left) 5
      (words (word.Int (pos a)) r1 sum r3 (word.Rec k) (word.Int (pos (a + h))) r6 r7
      (word.Label 1))
      kept (mark ∷ []) left_beat)
      { at = 7 }

  -- the same, with its bound, and whether an iteration is to go
  abbrev left_tested : (h k a : ℕ) (sum : Word) (r6 r7 : Word) → Bool → State
  left_tested h k a sum r6 r7 more =
      record
      (task limit (side k Left) 5
      (words (word.Int (pos a)) (word.Int (pos (a + h))) sum (word.Int (truth more))
      (word.Rec k) (word.Int (pos (a + h))) r6 r7 (word.Label 1))
      (word.Rec k) (mark ∷ []) (counted (counted (counted left_beat))))
      { at = 10 }

  left_tests : (h k a s total : ℕ) (kept r1 r3 r6 r7 : Word) (more : Bool) → nat_lt a (a + h) ≡ more
      → Owed false (left_tested h k a (word.Int (pos s)) r6 r7 more) (side k Left) total
      → Owed false (left h k a (word.Int (pos s)) kept r1 r3 r6 r7) (side k Left) total
  unfolding steps
  left_tests h k a s total kept r1 r3 r6 r7 more is owes =
      owes_before code heartbeat 3 false _ (left_tested h k a (word.Int (pos s)) r6 r7 more) _
      (ap (λ t. Goes (left_tested h k a (word.Int (pos s)) r6 r7 t)) is) owes

  left_owes : (h k a s total : ℕ) (kept r1 r3 r6 r7 : Word)
      → ((j : ℕ) → suc j ≡ h → Loop j) → s + sum_of h a ≡ total → a + h < 2 ^ 63 → total < 2 ^ 63
      → Owed false (left h k a (word.Int (pos s)) kept r1 r3 r6 r7) (side k Left) total
  unfolding steps sum_of
  left_owes zero k a s total kept r1 r3 r6 r7 loops is high low =
      let same : s ≡ total = omega (arith, is) in
      left_tests 0 k a s total kept r1 r3 r6 r7 false (le-ltb a (a + 0) (omega arith))
      (subst (λ n. Owed false (left_tested 0 k a (word.Int (pos s)) r6 r7 false) (side k Left) n)
      same
      (owes_before code heartbeat 2 false _ _ _ refl
      (end_owes main child heartbeat limit (side k Left) s (mark ∷ []) _ _ _ _ _ _ _ _ _)))
  left_owes (suc j) k a s total kept r1 r3 r6 r7 loops is high low =
      left_tests (suc j) k a s total kept r1 r3 r6 r7 true (lt-ltb a (a + suc j) (omega arith))
      (owes_before code heartbeat 3 false _ _ _ refl
      (no_least code heartbeat false j _ _
      (loops j refl (side k Left) a (a + suc j) s total _ _ _ _ _ _ _ refl is high low)))

  -- ---- the child of a cut

  child_owes : (k a b mid c total : ℕ) (kept r0 r2 r3 r6 r7 r30 : Word)
      → Loop c → mid + suc c ≡ b → sum_of (suc c) mid ≡ total → b < 2 ^ 63 → total < 2 ^ 63
      → Owed false
      (task limit (side k Right) 7
      (words r0 (word.Int (pos b)) r2 r3 (word.Rec k) (word.Int (pos mid)) r6 r7 r30) kept []
      no_beat)
      (side k Right) total
  unfolding steps
  child_owes k a b mid c total kept r0 r2 r3 r6 r7 r30 loop ends is high low =
      owes_before code heartbeat 5 false _ _ _ refl
      (no_least code heartbeat false c _ _
      (loop (side k Right) mid b 0 total _ _ _ _ _ _ _ ends (omega (arith, is)) high low))

  -- ---- the handler

  -- a task that is diverted at the begin of an iteration
  abbrev diverted : Whose → (a b : ℕ) (sum r3 r4 r5 r6 r7 : Word) → State
  diverted whose a b sum r3 r4 r5 r6 r7 =
      task limit whose 5
      (words (word.Int (pos a)) (word.Int (pos b)) sum r3 r4 r5 r6 r7 (word.Label 1))
      (record_of whose) (mark ∷ []) begun

  abbrev waits : Whose → (a b : ℕ) (sum r3 r4 r5 r6 r7 : Word) → State
  waits whose a b sum r3 r4 r5 r6 r7 =
      record (diverted whose a b sum r3 r4 r5 r6 r7)
      { at = 1; beat = counted begun; waiting = Some (record { to = 4; target = 9 }) }

  -- a task that was given a record and has found the middle, before the fork
  abbrev forks : Whose → (k a b : ℕ) (sum r6 r7 : Word) → ℤ → State
  forks whose k a b sum r6 r7 mid =
      record
      (task limit whose 5
      (words (word.Int (pos a)) (word.Int (pos b)) sum (word.Int (pos 0)) (word.Rec k)
      (word.Int mid) r6 r7 (word.Label 1))
      (record_of whose) (mark ∷ []) spent)
      { at = 6; pending = Some (tie k) }

  abbrev parts_of : Whose → (k a b h : ℕ) (sum r6 r7 : Word) → Forked
  parts_of whose k a b h sum r6 r7 = record {
    rec = k;
    left = left h k a sum (record_of whose) (word.Int (pos b)) (word.Int (pos 0)) r6 r7;
    rest = rest limit whose k (record_of whose);
    child =
        task limit (side k Right) 7
        (words (word.Int (pos a)) (word.Int (pos b)) sum (word.Int (pos 0)) (word.Rec k)
        (word.Int (pos (a + h))) r6 r7 (word.Label 1))
        (record_of whose) [] no_beat;
  }

  fork_owes : (m : ℕ) → ((j : ℕ) → j ≤ m → Loop j) →
      (whose : Whose) (k a b s total : ℕ) (r6 r7 : Word)
      → a + suc m ≡ b → s + sum_of (suc m) a ≡ total → b < 2 ^ 63 → total < 2 ^ 63
      → Owed false (forks whose k a b (word.Int (pos s)) r6 r7 (pos (a + suc m / 2))) whose total
  fork_owes m loops whose k a b s total r6 r7 ends is high low =
      let h = suc m / 2 in
      let c = m - h in
      let whole : h + suc c ≡ suc m = omega arith in
      let split = sum_split h (suc c) (suc m) a whole in
      let lower = s + sum_of h a in
      let upper = sum_of (suc c) (a + h) in
      let both : lower + upper ≡ total = omega (arith, is, split) in
      owes.forks_on _ (parts_of whose k a b h (word.Int (pos s)) r6 r7) (handed k lower)
      (handed k upper) (merged limit whose k lower upper) _
      (ap
      (λ x.
      forked (cond x
      (fork_under code 7 (tie k) (advanced (forks whose k a b (word.Int (pos s)) r6
      r7 (pos (a + h)))))
      (Err fault.WrongRecord)))
      (eq-eqb k k refl))
      (left_owes h k a s lower (record_of whose) (word.Int (pos b)) (word.Int (pos 0)) r6 r7
      (λ j last. loops j (omega (arith, last))) refl (omega (arith, ends, high))
      (omega (arith, both, low)))
      (child_owes k a b (a + h) c upper (record_of whose) _ _ _ r6 r7 _ (loops c (omega arith))
      (omega (arith, whole, ends)) refl high (omega (arith, both, low)))
      (merges main child heartbeat limit whose k lower upper)
      (merged_owes main child heartbeat limit whose k lower upper total both low)

  handler_owes : (m : ℕ) → ((j : ℕ) → j ≤ m → Loop j) →
      (whose : Whose) (a b s total : ℕ) (r3 r4 r5 r6 r7 : Word)
      → a + suc m ≡ b → s + sum_of (suc m) a ≡ total → b < 2 ^ 63 → total < 2 ^ 63
      → Owed true (diverted whose a b (word.Int (pos s)) r3 r4 r5 r6 r7) whose total
  unfolding steps
  handler_owes m loops whose a b s total r3 r4 r5 r6 r7 ends is high low =
      owes.asks _ (waits whose a b (word.Int (pos s)) r3 r4 r5 r6 r7) _ refl
      (λ rec fits. answer rec)
    where
      answer : (rec : Option ℕ) →
          Owed false (answered rec (waits whose a b (word.Int (pos s)) r3 r4 r5 r6 r7)) whose total
      answer None =
          owes_before code heartbeat 4 false _ _ _ refl
          (no_least code heartbeat false m _ _
          (loops m (omega arith) whose a b s total _ _ _ _ _ _ _ ends is high low))
      answer (Some k) =
          owes_before code heartbeat 5 false _
          (forks whose k a b (word.Int (pos s)) r6 r7 (pos (a + suc m / 2))) _
          (ap (λ z. Goes (forks whose k a b (word.Int (pos s)) r6 r7 z)) (middle a b m ends high))
          (fork_owes m loops whose k a b s total r6 r7 ends is high low)

  -- ---- the loop

  iterates : {least : ℕ} (whose : Whose) (a b s sum total : ℕ) (beat : BeatState)
      (r3 r4 r5 r6 r7 r30 : Word) (more : Bool)
      → s + a ≡ sum → sum < 2 ^ 63 → a + 1 < 2 ^ 63 → nat_lt (a + 1) b ≡ more
      → Bound code heartbeat false least
      (iterated limit whose b (pos sum) (pos (a + 1)) r4 r5 r6 r7 r30 (record_of whose) (mark ∷ [])
      beat more)
      (ending_of whose total)
      → Bound code heartbeat false least
      (task limit whose 2
      (words (word.Int (pos a)) (word.Int (pos b)) (word.Int (pos s)) r3 r4 r5 r6 r7 r30)
      (record_of whose) (mark ∷ []) beat)
      (ending_of whose total)
  iterates whose a b s sum total beat r3 r4 r5 r6 r7 r30 more is low high test owes =
      owes_before code heartbeat 3 false _ _ _
      (iterates_once main end_block child heartbeat limit whose a b s sum (record_of whose)
      (mark ∷ []) beat r3 r4 r5 r6 r7 r30 more is low high test)
      owes

  loop_owes : (m : ℕ) → ((j : ℕ) → j < m → Loop j) → Loop m
  unfolding steps sum_of
  loop_owes zero loops whose a b s total beat r3 r4 r5 r6 r7 r30 ends is high low =
      iterates whose a b s total total beat r3 r4 r5 r6 r7 r30 false (omega (arith, is)) low
      (omega (arith, ends, high)) (le-ltb (a + 1) b (omega (arith, ends)))
      (owes_before code heartbeat 2 false _ _ _ refl
      (end_owes main child heartbeat limit whose total (mark ∷ []) _ _ _ _ _ _ _ _ _))
  loop_owes (suc m) loops whose a b s total beat r3 r4 r5 r6 r7 r30 ends is high low =
      iterates whose a b s (s + a) total beat r3 r4 r5 r6 r7 r30 true refl (omega (arith, is, low))
      (omega (arith, ends, high)) (lt-ltb (a + 1) b (omega (arith, ends)))
      (ready_owes code heartbeat _
      (advanced (iterated limit whose b (pos (s + a)) (pos (a + 1)) r4 r5 r6 r7 r30
      (record_of whose) (mark ∷ []) beat true)) 1 5 _
      refl (λ allowed. refl) (λ after. refl)
      (λ after. owes_before code heartbeat 1 false _ _ _ refl
      (loops m (omega arith) whose (a + 1) b (s + a) total _ _ _ _ _ _ _ (omega (arith, ends))
      (omega (arith, is)) high low))
      (handler_owes m (λ j less. loops j (omega (arith, less))) whose (a + 1) b (s + a) total _ _ _
      _ _ (omega (arith, ends)) (omega (arith, is)) high low))

  each_loop : (most m : ℕ) → m < most → Loop m
  each_loop zero m less = absurd (omega (arith, less))
  each_loop (suc most) m less =
      loop_owes m (λ j lower. each_loop most j (omega (arith, less, lower)))

  -- ---- the run

  pub run_owes : 1 ≤ count → count ≤ 2 ^ 31 →
      Bound code heartbeat false (count - 1) (first_state [] limit) (prints_sum count)
  unfolding steps
  run_owes some few =
      let m = count - 1 in
      let all : suc m ≡ count = omega (arith, some) in
      let sums : sum_of (suc m) 0 ≡ sum_of count 0 = ap (λ n. sum_of n 0) all in
      owes_before code heartbeat 7 false _ _ _ refl
      (each_loop count m (omega (arith, some)) run 0 count 0 (sum_of count 0) _ _ _ _ _ _ _
      (omega (arith, all)) (omega (arith, sums)) (omega (arith, few)) (sum_low count few))
