-- Runs with more ticks before them, as far as the fuel goes, and how two parts of a run are joined.
use Rattle.beat_count.specs.Joining.{joined_stop, joined_ticks}
use Rattle.loop_meaning.proofs.Runs.{after_alike, after_done, after_stopped, alike_back, alike_refl}
use Rattle.loop_meaning.proofs.Runs.{alike_trans}
use Rattle.loop_meaning.specs.Ends.{EndAlike, Ends}
use Rattle.loop_meaning.specs.Leaving.{caught, caught_by}
use Rattle.loop_meaning.specs.State.{Ran, State, after, assign, done, out_of_fuel, tick}
use Rattle.std.proofs.Common.{ap, arith, false, nat_le, nat_lt, refl, subst, sym, true, ℕ, ◌+◌, ◌<◌}
use Rattle.std.proofs.Common.{List, None, Option, Some, ℤ, ◌∙◌, ◌≡◌, ◌≤◌}
use Rattle.std.specs.Prelude.{⊤}
use Rattle.std.proofs.lemmas.Bool.Decides.{nat_tests}
use Rattle.tp_value.specs.declared.Place.{Place}
use Rattle.tp_value.specs.declared.Stop.{Stop}
use Rattle.tp_value.specs.declared.Stop.TheVariants.{Done, Left, NoFuel, Trap}
use Rattle.tp_value.specs.declared.TrapKind.{TrapKind}
use native.Mathlib.Decide.{dec_le, dec_lt}

-- after a run that stops so the program goes on: behind it, or where it is left behind the loop round it
abbrev pub GoesOn : Stop → Type 0
GoesOn Done = ⊤
GoesOn (Left n) = ⊤
GoesOn (Trap k p) = ⊥
GoesOn NoFuel = ⊥

pub goes_done : {x : Stop} → x ≡ Done → GoesOn x
goes_done e = subst GoesOn (sym e) tt

pub goes_left : {x : Stop} (n : ℤ) → x ≡ Left n → GoesOn x
goes_left n e = subst GoesOn (sym e) tt

-- q is the run r with t more ticks before it: the same end, or out of fuel where those don't fit
pub record Follows (fuel t : ℕ) (R : State → State → Type 0) (r q : Ran) : Type 0 where
  pub inside : r.state.ticks + t ≤ fuel → (q.stop ≡ r.stop) × (q.state.ticks ≡ r.state.ticks + t) × (GoesOn r.stop → R r.state q.state)
  pub beyond : fuel < r.state.ticks + t → (q.stop ≡ NoFuel) × (q.state.ticks ≡ fuel + 1)

-- from a state within the fuel the ticks don't fall, and where the program goes on they are within the fuel
pub record Later (fuel : ℕ) (s : State) (r : Ran) : Type 0 where
  pub later : s.ticks ≤ fuel → s.ticks ≤ r.state.ticks
  pub keeps : s.ticks ≤ fuel → GoesOn r.stop → r.state.ticks ≤ fuel

pub later_alike : (fuel : ℕ) (s : State) (r q : Ran) → EndAlike r q → Later fuel s q → Later fuel s r
later_alike fuel s r q e h = record { later = λ w. rw e.state (h.later w); keeps = λ w d. rw e.state (h.keeps w (subst GoesOn e.stop d)) }

pub follows_alike : (fuel t : ℕ) (R : State → State → Type 0) (r r' q q' : Ran) → EndAlike r r' → EndAlike q q' → Follows fuel t R r' q' → Follows fuel t R r q
follows_alike fuel t R r r' q q' e f h = rw (e.stop, e.state, f.stop, f.state) (record { inside = h.inside; beyond = h.beyond })

pub no_done : NoFuel ≡ Done → ⊥
no_done e = cc

pub trap_done : (k : TrapKind) (p : Place) → Trap k p ≡ Done → ⊥
trap_done k p e = cc

pub left_done : (n : ℤ) → Left n ≡ Done → ⊥
left_done n e = cc

pub lt_true : (a b : ℕ) → a < b → nat_lt a b ≡ true
lt_true a b h = grind (arith, nat_tests)

pub lt_false : (a b : ℕ) → b ≤ a → nat_lt a b ≡ false
lt_false a b h = grind (arith, nat_tests)

le_true : (a b : ℕ) → a ≤ b → nat_le a b ≡ true
le_true a b h = grind (arith, nat_tests)

le_false : (a b : ℕ) → b < a → nat_le a b ≡ false
le_false a b h = grind (arith, nat_tests)

-- a run that stopped stays what it is
pub after_stays : (r : Ran) (f : State → Ran) → (r.stop ≡ Done → ⊥) → EndAlike (after r f) r
after_stays r f d =
    let p = after_stopped r r.stop r.state f (record { stop = refl; state = refl }) d in
    record { stop = p.stop; state = p.state }

pub after_goes : (r : Ran) (f : State → Ran) → r.stop ≡ Done → EndAlike (after r f) (f r.state)
after_goes r f e = after_done r r.state f (record { stop = e; state = refl })

pub done_first : (r : Ran) (g : State → Ran) → (after r g).stop ≡ Done → r.stop ≡ Done
done_first r g e = go r.stop refl
  where
    go : (x : Stop) → r.stop ≡ x → r.stop ≡ Done
    go Done h = h
    go (Left n) h = sym (after_stays r g (λ z. left_done n (sym h ∙ z))).stop ∙ e
    go (Trap k p) h = sym (after_stays r g (λ z. trap_done k p (sym h ∙ z))).stop ∙ e
    go NoFuel h = sym (after_stays r g (λ z. no_done (sym h ∙ z))).stop ∙ e

pub after_alike_at : (r : Ran) (f g : State → Ran) → (r.stop ≡ Done → EndAlike (f r.state) (g r.state)) → EndAlike (after r f) (after r g)
after_alike_at r f g h = go r.stop refl
  where
    other : (r.stop ≡ Done → ⊥) → EndAlike (after r f) (after r g)
    other d = alike_trans (after_stays r f d) (alike_back (after_stays r g d))

    go : (x : Stop) → r.stop ≡ x → EndAlike (after r f) (after r g)
    go Done e = alike_trans (after_goes r f e) (alike_trans (h e) (alike_back (after_goes r g e)))
    go (Left n) e = other (λ z. left_done n (sym e ∙ z))
    go (Trap k p) e = other (λ z. trap_done k p (sym e ∙ z))
    go NoFuel e = other (λ z. no_done (sym e ∙ z))

module _ (fuel t : ℕ) (R : State → State → Type 0) where
  -- what comes after a run that follows another
  pub follows_after : (r q : Ran) (f g : State → Ran) → Follows fuel t R r q → (r.stop ≡ Done → r.state.ticks ≤ fuel) → ((u : State) → Later fuel u (f u)) → ((u v : State) → R u v → Follows fuel t R (f u) (g v)) → Follows fuel t R (after r f) (after q g)
  follows_after r q f g h within mono step = go r.stop refl (dec_le (r.state.ticks + t) fuel)
    where
      other : (r.stop ≡ Done → ⊥) → Dec (r.state.ticks + t ≤ fuel) → Follows fuel t R (after r f) (after q g)
      other d (yes i) = follows_alike fuel t R _ r _ q (after_stays r f d) (after_stays q g (λ z. d (sym (h.inside i).0 ∙ z))) h
      other d (no n) = follows_alike fuel t R _ r _ q (after_stays r f d) (after_stays q g (λ z. no_done (sym (h.beyond (omega arith)).0 ∙ z))) h

      go : (x : Stop) → r.stop ≡ x → Dec (r.state.ticks + t ≤ fuel) → Follows fuel t R (after r f) (after q g)
      go Done e (yes i) =
          follows_alike fuel t R _ (f r.state) _ (g q.state) (after_goes r f e) (after_goes q g ((h.inside i).0 ∙ e))
          (step r.state q.state ((h.inside i).2 (goes_done e)))
      go Done e (no n) =
          let b = h.beyond (omega arith) in
          let m : r.state.ticks ≤ (f r.state).state.ticks = (mono r.state).later (within e) in
          follows_alike fuel t R _ (f r.state) _ q (after_goes r f e) (after_stays q g (λ z. no_done (sym b.0 ∙ z)))
          (record { inside = λ i. absurd (omega arith); beyond = λ _. b })
      go (Left n) e d = other (λ z. left_done n (sym e ∙ z)) d
      go (Trap k p) e d = other (λ z. trap_done k p (sym e ∙ z)) d
      go NoFuel e d = other (λ z. no_done (sym e ∙ z)) d

pub later_after : (fuel : ℕ) (s : State) (r : Ran) (f : State → Ran) → Later fuel s r → ((u : State) → Later fuel u (f u)) → Later fuel s (after r f)
later_after fuel s r f h k = go r.stop refl
  where
    other : (r.stop ≡ Done → ⊥) → Later fuel s (after r f)
    other d = later_alike fuel s _ r (after_stays r f d) h

    go : (x : Stop) → r.stop ≡ x → Later fuel s (after r f)
    go Done e =
        later_alike fuel s _ (f r.state) (after_goes r f e)
        (record {
          later = λ w. (let a : s.ticks ≤ r.state.ticks = h.later w in
              let b : r.state.ticks ≤ (f r.state).state.ticks = (k r.state).later (h.keeps w (goes_done e)) in omega arith);
          keeps = λ w z. (k r.state).keeps (h.keeps w (goes_done e)) z;
        })
    go (Left n) e = other (λ z. left_done n (sym e ∙ z))
    go (Trap y p) e = other (λ z. trap_done y p (sym e ∙ z))
    go NoFuel e = other (λ z. no_done (sym e ∙ z))

-- three runs, one after the other
pub after_assoc : (r : Ran) (f g : State → Ran) → EndAlike (after (after r f) g) (after r (λ u. after (f u) g))
after_assoc r f g = go r.stop refl
  where
    other : (r.stop ≡ Done → ⊥) → EndAlike (after (after r f) g) (after r (λ u. after (f u) g))
    other d =
        let a = after_stays r f d in
        alike_trans (alike_trans (after_stays (after r f) g (λ z. d (sym a.stop ∙ z))) a) (alike_back (after_stays r (λ u. after (f u) g) d))

    go : (x : Stop) → r.stop ≡ x → EndAlike (after (after r f) g) (after r (λ u. after (f u) g))
    go Done e =
        alike_trans (after_alike (after r f) (f r.state) g g (after_goes r f e) (λ u. alike_refl (g u)))
        (alike_back (after_goes r (λ u. after (f u) g) e))
    go (Left n) e = other (λ z. left_done n (sym e ∙ z))
    go (Trap k p) e = other (λ z. trap_done k p (sym e ∙ z))
    go NoFuel e = other (λ z. no_done (sym e ∙ z))

-- ---- ticks

pub tick_yes : (fuel : ℕ) (u : State) → u.ticks < fuel → Ends (tick fuel u) Done (record u { ticks = u.ticks + 1 })
tick_yes fuel u h = rw (lt_true u.ticks fuel h) (record { stop = refl; state = refl })

pub tick_no : (fuel : ℕ) (u : State) → fuel ≤ u.ticks → Ends (tick fuel u) NoFuel (record u { ticks = fuel + 1 })
tick_no fuel u h = rw (lt_false u.ticks fuel h) (record { stop = refl; state = refl })

pub later_tick : (fuel : ℕ) (u : State) → Later fuel u (tick fuel u)
later_tick fuel u = go (dec_lt u.ticks fuel)
  where
    go : Dec (u.ticks < fuel) → Later fuel u (tick fuel u)
    go (yes h) =
        let e = tick_yes fuel u h in
        later_alike fuel u _ (done (record u { ticks = u.ticks + 1 })) (record { stop = e.stop; state = e.state })
        (record { later = λ w. omega arith; keeps = λ w d. omega arith })
    go (no h) =
        let e = tick_no fuel u (omega arith) in
        later_alike fuel u _ (out_of_fuel (record u { ticks = fuel + 1 })) (record { stop = e.stop; state = e.state })
        (record { later = λ w. omega arith; keeps = λ w d. absurd d })

-- a tick keeps what hangs on the variables and tables alone
pub follows_tick : (fuel t : ℕ) (R : State → State → Type 0) (u v : State) → v.ticks ≡ u.ticks + t → v.ticks ≤ fuel → (u.ticks < fuel → v.ticks < fuel → R (record u { ticks = u.ticks + 1 }) (record v { ticks = v.ticks + 1 })) → Follows fuel t R (tick fuel u) (tick fuel v)
follows_tick fuel t R u v c d r = go (dec_lt v.ticks fuel) (dec_lt u.ticks fuel)
  where
    go : Dec (v.ticks < fuel) → Dec (u.ticks < fuel) → Follows fuel t R (tick fuel u) (tick fuel v)
    go (yes h) (yes l) =
        let a = tick_yes fuel u l in
        let b = tick_yes fuel v h in
        follows_alike fuel t R _ (done (record u { ticks = u.ticks + 1 })) _ (done (record v { ticks = v.ticks + 1 }))
        (record { stop = a.stop; state = a.state }) (record { stop = b.stop; state = b.state })
        (record { inside = λ i. (refl, omega (arith, c), λ e. r l h); beyond = λ i. absurd (omega (arith, c, h)) })
    go (yes h) (no l) = absurd (omega (arith, c, h))
    go (no h) (yes l) =
        let a = tick_yes fuel u l in
        let b = tick_no fuel v (omega arith) in
        follows_alike fuel t R _ (done (record u { ticks = u.ticks + 1 })) _ (out_of_fuel (record v { ticks = fuel + 1 }))
        (record { stop = a.stop; state = a.state }) (record { stop = b.stop; state = b.state })
        (record { inside = λ i. absurd (omega (arith, c, d)); beyond = λ i. (refl, refl) })
    go (no h) (no l) =
        let a = tick_no fuel u (omega arith) in
        let b = tick_no fuel v (omega arith) in
        follows_alike fuel t R _ (out_of_fuel (record u { ticks = fuel + 1 })) _ (out_of_fuel (record v { ticks = fuel + 1 }))
        (record { stop = a.stop; state = a.state }) (record { stop = b.stop; state = b.state })
        (record { inside = λ i. absurd (omega (arith, c, d)); beyond = λ i. (refl, refl) })

-- ---- two parts

-- w is low and then up, joined, where R holds of the ends of up and w
pub record Joined (fuel : ℕ) (R : State → State → Type 0) (low up whole : Ran) : Type 0 where
  pub stop : whole.stop ≡ joined_stop low.stop low.state.ticks up.stop up.state.ticks fuel
  pub ticks : whole.state.ticks ≡ joined_ticks low.stop low.state.ticks up.stop up.state.ticks fuel
  pub merged : whole.stop ≡ Done → R up.state whole.state

-- a run, and then one that follows what it does at u
pub joined_from : (fuel : ℕ) (R : State → State → Type 0) (low : Ran) (b : State → Ran) (u : State) → (low.stop ≡ Done → Follows fuel low.state.ticks R (b u) (b low.state)) → Joined fuel R low (b u) (after low b)
joined_from fuel R low b u follows = go low.stop refl
  where
    other : (y : Stop) → low.stop ≡ y → (y ≡ Done → ⊥) → (joined_stop y low.state.ticks (b u).stop (b u).state.ticks fuel ≡ y) × (joined_ticks y low.state.ticks (b u).stop (b u).state.ticks fuel ≡ low.state.ticks) → Joined fuel R low (b u) (after low b)
    other y e d j =
        let w : Ends (after low b) y low.state = after_stopped low y low.state b (record { stop = e; state = refl }) d in
        let q : low.state.ticks ≡ joined_ticks low.stop low.state.ticks (b u).stop (b u).state.ticks fuel = rw e (sym j.1) in
        record {
          stop = w.stop ∙ sym j.0 ∙ ap (λ z. joined_stop z low.state.ticks (b u).stop (b u).state.ticks fuel) (sym e);
          ticks = ap (λ z. z.ticks) w.state ∙ q;
          merged = λ z. absurd (d (sym w.stop ∙ z));
        }

    fits : low.stop ≡ Done → Follows fuel low.state.ticks R (b u) (b low.state) → EndAlike (after low b) (b low.state) → Dec ((b u).state.ticks + low.state.ticks ≤ fuel) → Joined fuel R low (b u) (after low b)
    fits e f w (yes h) =
        let c : nat_le (low.state.ticks + (b u).state.ticks) fuel ≡ true = le_true (low.state.ticks + (b u).state.ticks) fuel (omega arith) in
        record {
          stop = w.stop ∙ (f.inside h).0 ∙ rw (e, c) refl;
          ticks = ap (λ z. z.ticks) w.state ∙ (f.inside h).1 ∙ rw (e, c) (omega arith);
          merged = λ z. subst (λ v. R (b u).state v) (sym w.state) ((f.inside h).2 (goes_done (sym (w.stop ∙ (f.inside h).0) ∙ z)));
        }
    fits e f w (no h) =
        let c : nat_le (low.state.ticks + (b u).state.ticks) fuel ≡ false = le_false (low.state.ticks + (b u).state.ticks) fuel (omega arith) in
        let k = f.beyond (omega arith) in
        record {
          stop = w.stop ∙ k.0 ∙ rw (e, c) refl;
          ticks = ap (λ z. z.ticks) w.state ∙ k.1 ∙ rw (e, c) refl;
          merged = λ z. absurd (no_done (sym (w.stop ∙ k.0) ∙ z));
        }

    go : (y : Stop) → low.stop ≡ y → Joined fuel R low (b u) (after low b)
    go Done e = fits e (follows e) (after_goes low b e) (dec_le _ _)
    go (Left n) e = other (Left n) e (left_done n) (refl, refl)
    go (Trap k l) e = other (Trap k l) e (trap_done k l) (refl, refl)
    go NoFuel e = other NoFuel e no_done (refl, refl)

-- ---- a `par` that catches its iterations

-- a run that is left, as one that is done
abbrev pub calmed : Ran → Ran
calmed r = record r { stop = Done }

-- what its `par` does then
abbrev pub set_left : Option (List ℕ) → ℤ → State → Ran
set_left None n s = done s
set_left (Some x) n s = done (record s { vars = assign s.vars x n })

pub caught_left : (target : Option (List ℕ)) (r : Ran) (n : ℤ) → r.stop ≡ Left n → EndAlike (caught target r) (after (calmed r) (set_left target n))
caught_left target r n e = subst (λ x. EndAlike (caught_by x target r) (after (calmed r) (set_left target n))) (sym e) (go target)
  where
    go : (target : Option (List ℕ)) → EndAlike (caught_by (Left n) target r) (after (calmed r) (set_left target n))
    go None = record { stop = refl; state = refl }
    go (Some x) = record { stop = refl; state = refl }

pub caught_stays : (target : Option (List ℕ)) (r : Ran) (x : Stop) → r.stop ≡ x → ((n : ℤ) → x ≡ Left n → ⊥) → EndAlike (caught target r) r
caught_stays target r x e d = subst (λ y. EndAlike (caught_by y target r) r) (sym e) (go x d)
  where
    go : (x : Stop) → ((n : ℤ) → x ≡ Left n → ⊥) → EndAlike (caught_by x target r) r
    go Done d = alike_refl r
    go (Left n) d = absurd (d n refl)
    go (Trap k p) d = alike_refl r
    go NoFuel d = alike_refl r
