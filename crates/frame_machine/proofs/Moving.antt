-- Runs that do the same from a state of an upper part and from the state of the whole: more ticks before, more in the accumulators, and other tables that agree on the cells that may be seen.
use Rattle.frame_machine.proofs.Bends.{Bend, Keeps, Plain, bent, bent_declare, bent_length}
use Rattle.frame_machine.proofs.Bends.{bent_take, keeps_declare, keeps_length, keeps_refl}
use Rattle.frame_machine.proofs.Bends.{keeps_take, keeps_trans, keeps_weaken}
use Rattle.frame_machine.proofs.Following.{Follows, GoesOn, Later, after_alike_at, after_goes}
use Rattle.frame_machine.proofs.Following.{after_stays, calmed, caught_left, caught_stays}
use Rattle.frame_machine.proofs.Following.{follows_after, follows_alike, follows_tick, goes_done}
use Rattle.frame_machine.proofs.Following.{goes_left, later_after, later_alike, later_tick}
use Rattle.frame_machine.proofs.Following.{left_done, no_done, set_left, tick_no, tick_yes}
use Rattle.frame_machine.proofs.Following.{trap_done}
use Rattle.frame_machine.specs.Parts.{AgreeOn, Cells}
use Rattle.loop_meaning.proofs.Runs.{after_done, after_stopped, alike_refl, given_number}
use Rattle.loop_meaning.proofs.Runs.{given_trap}
use Rattle.loop_meaning.specs.Calls.{enter}
use Rattle.loop_meaning.specs.Ends.{EndAlike}
use Rattle.loop_meaning.specs.Expressions.{eval}
use Rattle.loop_meaning.specs.State.{Note, Ran, State, after, declare, done, leave_block, noted}
use Rattle.loop_meaning.specs.State.{left_with, out_of_fuel, tick, trapped}
use Rattle.loop_meaning.specs.Leaving.{caught}
use Rattle.loop_meaning.specs.Statements.{Called, block, choose, given, given_all, given_two}
use Rattle.loop_meaning.specs.Statements.{iterate, iteration, turns, with_call}
use Rattle.loop_meaning.specs.declared.value.Answer.{Answer}
use Rattle.loop_meaning.specs.declared.value.Answer.TheVariants.{Number, Traps}
use Rattle.loop_meaning.specs.declared.value.Variable.{Variable}
use Rattle.loop_syntax.specs.declared.Expr.{Expr}
use Rattle.std.proofs.Common.{List, None, Option, Some, [], ap, arith, length, negsuc, pos, refl}
use Rattle.std.proofs.Common.{subst, suc, sym, take}
use Rattle.std.proofs.Common.{zero, ℕ, ℤ, ◌++◌, ◌+ℤ◌, ◌+◌, ◌<◌, ◌∙◌, ◌∷◌, ◌≡◌, ◌≤◌}
use Rattle.std.specs.Prelude.{⊤}
use Rattle.tp_value.specs.declared.Place.{Place}
use Rattle.tp_value.specs.declared.Stop.{Stop}
use Rattle.tp_value.specs.declared.Stop.TheVariants.{Done, Left, NoFuel, Trap}
use Rattle.tp_value.specs.declared.TrapKind.{TrapKind}
use native.Mathlib.Decide.{dec_le, dec_lt}

-- a claim about variables
abbrev pub Claim : Type 1
Claim = List Variable → Type 0

module _ (fuel t : ℕ) (o : List ℕ) (A : Cells) where
  -- v is a state of the whole, where u is one of the upper part, but for the variables
  pub record Base (u v : State) : Type 0 where
    pub tables : AgreeOn A u.tables v.tables
    pub output : v.output ≡ o ++ u.output
    pub ticks : v.ticks ≡ u.ticks + t
    pub fits : v.ticks ≤ fuel

  -- a call that does the same, with the same value
  pub record NearCall (c : State → Called) : Type 0 where
    pub later : (u : State) → Later fuel u (c u).ran
    pub vars : (u : State) → GoesOn (c u).ran.stop → (c u).ran.state.vars ≡ u.vars
    pub near : (u v : State) → Base u v → Follows fuel t Base (c u).ran (c v).ran
    pub value : (u v : State) → Base u v → (c u).ran.state.ticks + t ≤ fuel → (c u).ran.stop ≡ Done → (c v).value ≡ (c u).value

  module _ (h : Bend) where
    -- and with the variables, of which the claim holds
    pub record Near (I : Claim) (u v : State) : Type 0 where
      pub vars : v.vars ≡ bent h u.vars
      pub claim : I u.vars
      pub base : Base u v

  module _ (h : Bend) (F : List ℕ → Type 0) where
    pub record Moves (I : Claim) (act : State → Ran) : Type 0 where
      pub later : (u : State) → Later fuel u (act u)
      pub stays : (u : State) → GoesOn (act u).stop → Keeps F u.vars (act u).state.vars
      pub near : (u v : State) → Near h I u v → Follows fuel t (Near h I) (act u) (act v)

    -- a claim that survives where the fixed variables are kept
    abbrev pub Survives : Claim → Type 0
    Survives I = (us vs : List Variable) → Keeps F us vs → length vs ≡ length us → I us → I vs

    pub within : (I : Claim) (u v : State) → Near h I u v → u.ticks ≤ fuel
    within I u v r = let c : v.ticks ≡ u.ticks + t = r.base.ticks in let d : v.ticks ≤ fuel = r.base.fits in omega arith

    -- where both are done at once with as many ticks
    pub follows_same : (I : Claim) (u v x y : State) → Base u v → x.ticks ≡ u.ticks → y.ticks ≡ v.ticks → Near h I x y → Follows fuel t (Near h I) (done x) (done y)
    follows_same I u v x y b e f r = record {
      inside = λ i. (refl, r.base.ticks, λ d. r);
      beyond = λ q. absurd (let c : v.ticks ≡ u.ticks + t = b.ticks in let d : v.ticks ≤ fuel = b.fits in omega (arith, e, f));
    }

    pub moves_pure : (I : Claim) (f : State → State) → ((u : State) → (f u).ticks ≡ u.ticks) → ((u : State) → Keeps F u.vars (f u).vars) → ((u v : State) → Near h I u v → Near h I (f u) (f v)) → Moves I (λ s. done (f s))
    moves_pure I f e k n = record {
      later = λ u. record { later = λ w. omega (arith, e u); keeps = λ w d. omega (arith, e u) };
      stays = λ u d. k u;
      near = λ u v r. follows_same I u v (f u) (f v) r.base (e u) (e v) (n u v r);
    }

    pub moves_stop : (I : Claim) (x : Stop) → Moves I (λ s. record { stop = x; state = s; notes = [] })
    moves_stop I x = record {
      later = λ u. record { later = λ w. omega arith; keeps = λ w e. w };
      stays = λ u e. keeps_refl F u.vars;
      near = λ u v r. record {
        inside = λ i. (refl, r.base.ticks, λ e. r);
        beyond = λ b. absurd (let c : v.ticks ≡ u.ticks + t = r.base.ticks in let d : v.ticks ≤ fuel = r.base.fits in omega arith);
      };
    }

    pub moves_trap : (I : Claim) (k : TrapKind) (p : Place) → Moves I (trapped k p)
    moves_trap I k p = moves_stop I (Trap k p)

    pub moves_left : (I : Claim) (n : ℤ) → Moves I (left_with n)
    moves_left I n = moves_stop I (Left n)

    pub moves_done : (I : Claim) → Moves I done
    moves_done I = moves_pure I (λ s. s) (λ u. refl) (λ u. keeps_refl F u.vars) (λ u v r. r)

    pub stays_after : (us : List Variable) (r : Ran) (g : State → Ran) → (GoesOn r.stop → Keeps F us r.state.vars) → ((s : State) → GoesOn (g s).stop → Keeps F s.vars (g s).state.vars) → GoesOn (after r g).stop → Keeps F us (after r g).state.vars
    stays_after us r g p q e = go r.stop refl
      where
        other : (r.stop ≡ Done → ⊥) → Keeps F us (after r g).state.vars
        other d = (let a = after_stays r g d in subst (λ s. Keeps F us s.vars) (sym a.state) (p (subst GoesOn a.stop e)))

        go : (x : Stop) → r.stop ≡ x → Keeps F us (after r g).state.vars
        go Done h =
            let a = after_goes r g h in
            subst (λ s. Keeps F us s.vars) (sym a.state) (keeps_trans F us r.state.vars (g r.state).state.vars (p (goes_done h)) (q r.state (subst GoesOn a.stop e)))
        go (Left n) h = other (λ z. left_done n (sym h ∙ z))
        go (Trap k l) h = other (λ z. trap_done k l (sym h ∙ z))
        go NoFuel h = other (λ z. no_done (sym h ∙ z))

    pub moves_seq : (I : Claim) (a b : State → Ran) → Moves I a → Moves I b → Moves I (λ s. after (a s) b)
    moves_seq I a b p q = record {
      later = λ u. later_after fuel u (a u) b (p.later u) q.later;
      stays = λ u e. stays_after u.vars (a u) b (p.stays u) q.stays e;
      near = λ u v r. follows_after fuel t (Near h I) (a u) (a v) b b (p.near u v r) (λ d. (p.later u).keeps (within I u v r) (goes_done d)) q.later q.near;
    }

    pub moves_alike : (I : Claim) (a b : State → Ran) → ((s : State) → EndAlike (a s) (b s)) → Moves I b → Moves I a
    moves_alike I a b e p = record {
      later = λ u. later_alike fuel u (a u) (b u) (e u) (p.later u);
      stays = λ u d. subst (λ s. Keeps F u.vars s.vars) (sym (e u).state) (p.stays u (subst GoesOn (e u).stop d));
      near = λ u v r. follows_alike fuel t (Near h I) (a u) (b u) (a v) (b v) (e u) (e v) (p.near u v r);
    }

    pub moves_noted : (I : Claim) (ns : List Note) (a : State → Ran) → Moves I a → Moves I (λ s. noted ns (a s))
    moves_noted I ns a p = moves_alike I (λ s. noted ns (a s)) a (λ s. record { stop = refl; state = refl }) p

    -- an expression with one answer in both
    abbrev pub Agrees : Claim → Expr → Type 0
    Agrees I e = (u v : State) → Near h I u v → (eval v.vars v.tables e).answer ≡ (eval u.vars u.tables e).answer

    pub moves_given : (I : Claim) (e : Expr) (f : ℤ → State → Ran) → Agrees I e → ((n : ℤ) → Moves I (f n)) → Moves I (λ s. given e s (λ n. f n s))
    moves_given I e f g p = record {
      later = λ u. go_later u (eval u.vars u.tables e).answer refl;
      stays = λ u. go_stays u (eval u.vars u.tables e).answer refl;
      near = λ u v r. go_near u v r (eval u.vars u.tables e).answer refl;
    }
      where
        go_later : (u : State) (a : Answer) → (eval u.vars u.tables e).answer ≡ a → Later fuel u (given e u (λ n. f n u))
        go_later u (Number n) h = later_alike fuel u _ (f n u) (given_number e u n (λ m. f m u) h) ((p n).later u)
        go_later u (Traps k l) h =
            let s = given_trap e u k l (λ m. f m u) h in
            later_alike fuel u _ (trapped k l u) (record { stop = s.stop; state = s.state }) ((moves_trap I k l).later u)

        go_stays : (u : State) (a : Answer) → (eval u.vars u.tables e).answer ≡ a → GoesOn (given e u (λ n. f n u)).stop → Keeps F u.vars (given e u (λ n. f n u)).state.vars
        go_stays u (Number n) h d =
            let s = given_number e u n (λ m. f m u) h in
            subst (λ w. Keeps F u.vars w.vars) (sym s.state) ((p n).stays u (subst GoesOn s.stop d))
        go_stays u (Traps k l) h d =
            let s = given_trap e u k l (λ m. f m u) h in
            absurd (subst GoesOn s.stop d)

        go_near : (u v : State) → Near h I u v → (a : Answer) → (eval u.vars u.tables e).answer ≡ a → Follows fuel t (Near h I) (given e u (λ n. f n u)) (given e v (λ n. f n v))
        go_near u v r (Number n) q =
            let k : (eval v.vars v.tables e).answer ≡ Number n = g u v r ∙ q in
            follows_alike fuel t (Near h I) _ (f n u) _ (f n v) (given_number e u n (λ m. f m u) q) (given_number e v n (λ m. f m v) k) ((p n).near u v r)
        go_near u v r (Traps k l) q =
            let w : (eval v.vars v.tables e).answer ≡ Traps k l = g u v r ∙ q in
            let a = given_trap e u k l (λ m. f m u) q in
            let b = given_trap e v k l (λ m. f m v) w in
            follows_alike fuel t (Near h I) _ (trapped k l u) _ (trapped k l v)
            (record { stop = a.stop; state = a.state }) (record { stop = b.stop; state = b.state })
            ((moves_trap I k l).near u v r)

    pub moves_choose : (I : Claim) (n : ℤ) (a b : State → Ran) → Moves I a → Moves I b → Moves I (choose n a b)
    moves_choose I (pos zero) a b p q = q
    moves_choose I (pos (suc n)) a b p q = p
    moves_choose I (negsuc n) a b p q = p

    tick_vars : (u : State) → (tick fuel u).state.vars ≡ u.vars
    tick_vars u = go (dec_lt u.ticks fuel)
      where
        go : Dec (u.ticks < fuel) → (tick fuel u).state.vars ≡ u.vars
        go (yes h) = ap (λ s. s.vars) (tick_yes fuel u h).state
        go (no h) = ap (λ s. s.vars) (tick_no fuel u (omega arith)).state

    pub moves_tick : (I : Claim) → Moves I (tick fuel)
    moves_tick I = record {
      later = later_tick fuel;
      stays = λ u d. subst (λ vs. Keeps F u.vars vs) (sym (tick_vars u)) (keeps_refl F u.vars);
      near = λ u v r.
          let c : v.ticks ≡ u.ticks + t = r.base.ticks in
          follows_tick fuel t (Near h I) u v c r.base.fits (λ a b. record {
            vars = r.vars;
            claim = r.claim;
            base = record { tables = r.base.tables; output = r.base.output; ticks = omega (arith, c); fits = omega (arith, b) };
          });
    }

    -- a block in which another claim holds
    pub moves_inner : (I J : Claim) → Survives I → (f : State → State) (a : State → Ran)
        → ((u : State) → (f u).ticks ≡ u.ticks) → ((u : State) → Keeps F u.vars (f u).vars) → ((u v : State) → Near h I u v → Near h J (f u) (f v))
        → Moves J a → Moves I (λ s. leave_block (length s.vars) (a (f s)))
    moves_inner I J live f a e k n p = record {
      later = λ u. record {
        later = λ w. (let m : (f u).ticks ≤ (a (f u)).state.ticks = (p.later (f u)).later (omega (arith, e u)) in omega (arith, e u));
        keeps = λ w d. (p.later (f u)).keeps (omega (arith, e u)) d;
      };
      stays = λ u d. keeps_take F u.vars _ (keeps_trans F u.vars (f u).vars (a (f u)).state.vars (k u) (p.stays (f u) d));
      near = λ u v r. let g = p.near (f u) (f v) (n u v r) in record {
        inside = λ i. (
          (g.inside i).0,
          (g.inside i).1,
          λ d. let q = (g.inside i).2 d in
              let ks : Keeps F u.vars (a (f u)).state.vars = keeps_trans F u.vars (f u).vars (a (f u)).state.vars (k u) (p.stays (f u) d) in
              record {
                vars = ap (λ l. take l (a (f v)).state.vars) (ap length r.vars ∙ bent_length h u.vars) ∙ ap (take (length u.vars)) q.vars ∙ bent_take h (length u.vars) (a (f u)).state.vars;
                claim = live u.vars (take (length u.vars) (a (f u)).state.vars) (keeps_take F u.vars (a (f u)).state.vars ks) (keeps_length F u.vars (a (f u)).state.vars ks) r.claim;
                base = record { tables = q.base.tables; output = q.base.output; ticks = q.base.ticks; fits = q.base.fits };
              },
        );
        beyond = λ b. g.beyond b;
      };
    }

    pub moves_block : (I : Claim) → Survives I → (a : State → Ran) → Moves I a → Moves I (block a)
    moves_block I live a p = moves_inner I I live (λ s. s) a (λ u. refl) (λ u. keeps_refl F u.vars) (λ u v r. r) p

    turns_zero : (e : Expr) (body : State → Ran) (s : State) → turns 0 fuel e body s ≡ out_of_fuel s
    unfolding turns
    turns_zero e body s = refl

    turns_suc : (n : ℕ) (e : Expr) (body : State → Ran) (s : State) → turns (suc n) fuel e body s ≡ given e s (λ v. choose v (λ t. after (after (tick fuel t) body) (turns n fuel e body)) done s)
    unfolding turns
    turns_suc n e body s = refl

    equal_alike : (r q : Ran) → r ≡ q → EndAlike r q
    equal_alike r q e = record { stop = ap (λ z. z.stop) e; state = ap (λ z. z.state) e }

    pub moves_turns : (I : Claim) (n : ℕ) (e : Expr) (body : State → Ran) → Agrees I e → Moves I body → Moves I (turns n fuel e body)
    moves_turns I zero e body g p =
        moves_alike I (turns 0 fuel e body) out_of_fuel (λ s. equal_alike _ _ (turns_zero e body s)) (moves_stop I NoFuel)
    moves_turns I (suc n) e body g p =
        moves_alike I (turns (suc n) fuel e body) _ (λ s. equal_alike _ _ (turns_suc n e body s))
        (moves_given I e (λ v. choose v (λ t. after (after (tick fuel t) body) (turns n fuel e body)) done) g
        (λ v. moves_choose I v _ done (moves_seq I (λ t. after (tick fuel t) body) (turns n fuel e body) (moves_seq I (tick fuel) body (moves_tick I) p) (moves_turns I n e body g p)) (moves_done I)))

    -- one iteration, in which another claim holds
    pub moves_iteration : (I J : Claim) → Survives I → (x : List ℕ) (body : State → Ran) (ns : List Note) (i : ℤ) → Plain h x → ((us : List Variable) → I us → J (declare us x i)) → Moves J body → Moves I (iteration fuel x body ns i)
    moves_iteration I J live x body ns i plain enter p =
        moves_alike I (iteration fuel x body ns i) (λ s. leave_block (length s.vars) (after (tick fuel s) (λ t. leave_block (length t.vars) (noted ns (body (record t { vars = declare t.vars x i }))))))
        (λ s. twice s) (moves_block I live (λ s. after (tick fuel s) inside) (moves_seq I (tick fuel) inside (moves_tick I)
        (moves_inner I J live (λ t. record t { vars = declare t.vars x i }) (λ t. noted ns (body t)) (λ u. refl) (λ u. keeps_declare F u.vars x i)
        (λ u v r. record { vars = ap (λ w. declare w x i) r.vars ∙ bent_declare h u.vars x i plain; claim = enter u.vars r.claim; base = record { tables = r.base.tables; output = r.base.output; ticks = r.base.ticks; fits = r.base.fits } })
        (moves_noted J ns body p))))
      where
        inside : State → Ran
        inside t = leave_block (length t.vars) (noted ns (body (record t { vars = declare t.vars x i })))

        take_take : (n : ℕ) (vs : List Variable) → take n (take n vs) ≡ take n vs
        take_take zero vs = refl
        take_take (suc n) [] = refl
        take_take (suc n) (v ∷ vs) = ap (λ w. v ∷ w) (take_take n vs)

        twice : (s : State) → EndAlike (iteration fuel x body ns i s) (leave_block (length s.vars) (after (tick fuel s) inside))
        twice s = go (dec_lt s.ticks fuel)
          where
            go : Dec (s.ticks < fuel) → EndAlike (iteration fuel x body ns i s) (leave_block (length s.vars) (after (tick fuel s) inside))
            go (yes l) =
                let u : State = record s { ticks = s.ticks + 1 } in
                let q = after_done (tick fuel s) u (λ t. noted ns (body (record t { vars = declare t.vars x i }))) (tick_yes fuel s l) in
                let w = after_done (tick fuel s) u inside (tick_yes fuel s l) in
                record {
                  stop = q.stop ∙ sym w.stop;
                  state = ap {A = State} {B = State} (λ z. record z { vars = take (length s.vars) z.vars }) q.state
                      ∙ sym (ap {A = State} {B = State} (λ z. record z { vars = take (length s.vars) z.vars }) w.state
                      ∙ ap (λ vs. record (body (record u { vars = declare u.vars x i })).state { vars = vs }) (take_take (length s.vars) (body (record u { vars = declare u.vars x i })).state.vars));
                }
            go (no l) =
                let q = after_stopped (tick fuel s) NoFuel _ (λ t. noted ns (body (record t { vars = declare t.vars x i }))) (tick_no fuel s (omega arith)) (λ z. no_done z) in
                let w = after_stopped (tick fuel s) NoFuel _ inside (tick_no fuel s (omega arith)) (λ z. no_done z) in
                record {
                  stop = q.stop ∙ sym w.stop;
                  state = ap {A = State} {B = State} (λ z. record z { vars = take (length s.vars) z.vars }) (q.state ∙ sym w.state);
                }

    iterate_zero : (x : List ℕ) (body : State → Ran) (again ns : List Note) (i : ℤ) (s : State) → iterate fuel x body again ns 0 i s ≡ done s
    unfolding iterate
    iterate_zero x body again ns i s = refl

    iterate_suc : (x : List ℕ) (body : State → Ran) (again ns : List Note) (n : ℕ) (i : ℤ) (s : State) → iterate fuel x body again ns (suc n) i s ≡ after (iteration fuel x body ns i s) (iterate fuel x body again again n (i +ℤ pos 1))
    unfolding iterate
    iterate_suc x body again ns n i s = refl

    -- n iterations, whose numbers have P
    pub moves_iterate : (I J : Claim) → Survives I → (P : ℤ → Type 0) → ((i : ℤ) → P i → P (i +ℤ pos 1)) → (x : List ℕ) (body : State → Ran) → Plain h x → ((i : ℤ) → P i → (us : List Variable) → I us → J (declare us x i)) → Moves J body
        → (n : ℕ) (again ns : List Note) (i : ℤ) → P i → Moves I (iterate fuel x body again ns n i)
    moves_iterate I J live P up x body plain enter p zero again ns i q = moves_alike I _ done (λ s. equal_alike _ _ (iterate_zero x body again ns i s)) (moves_done I)
    moves_iterate I J live P up x body plain enter p (suc n) again ns i q =
        moves_alike I _ (λ s. after (iteration fuel x body ns i s) (iterate fuel x body again again n (i +ℤ pos 1))) (λ s. equal_alike _ _ (iterate_suc x body again ns n i s))
        (moves_seq I (iteration fuel x body ns i) _ (moves_iteration I J live x body ns i plain (enter i q) p) (moves_iterate I J live P up x body plain enter p n again again (i +ℤ pos 1) (up i q)))

    -- ---- a `par` that catches its iterations

    pub moves_caught : (I : Claim) (target : Option (List ℕ)) (act : State → Ran) → Moves I act → ((n : ℤ) → Moves I (set_left target n)) → Moves I (λ s. caught target (act s))
    moves_caught I target act p set = record {
      later = λ u. la u (act u).stop refl;
      stays = λ u. st u (act u).stop refl;
      near = λ u v r. ne u v r (act u).stop refl (dec_le ((act u).state.ticks + t) fuel);
    }
      where
        calm : (u : State) (n : ℤ) → (act u).stop ≡ Left n → Later fuel u (calmed (act u))
        calm u n e = record { later = (p.later u).later; keeps = λ w d. (p.later u).keeps w (goes_left n e) }

        left_only : (x : Stop) → ((n : ℤ) → x ≡ Left n → ⊥) → (u : State) → (act u).stop ≡ x → EndAlike (caught target (act u)) (act u)
        left_only x d u e = caught_stays target (act u) x e d

        la : (u : State) (x : Stop) → (act u).stop ≡ x → Later fuel u (caught target (act u))
        la u (Left n) e =
            later_alike fuel u _ (after (calmed (act u)) (set_left target n)) (caught_left target (act u) n e)
            (later_after fuel u (calmed (act u)) (set_left target n) (calm u n e) (set n).later)
        la u Done e = later_alike fuel u _ (act u) (left_only Done (λ n z. cc) u e) (p.later u)
        la u (Trap k l) e = later_alike fuel u _ (act u) (left_only (Trap k l) (λ n z. cc) u e) (p.later u)
        la u NoFuel e = later_alike fuel u _ (act u) (left_only NoFuel (λ n z. cc) u e) (p.later u)

        same : (x : Stop) → ((n : ℤ) → x ≡ Left n → ⊥) → (u : State) → (act u).stop ≡ x → GoesOn (caught target (act u)).stop → Keeps F u.vars (caught target (act u)).state.vars
        same x d u e g = (let a = left_only x d u e in subst (λ s. Keeps F u.vars s.vars) (sym a.state) (p.stays u (subst GoesOn a.stop g)))

        st : (u : State) (x : Stop) → (act u).stop ≡ x → GoesOn (caught target (act u)).stop → Keeps F u.vars (caught target (act u)).state.vars
        st u (Left n) e g =
            let a = caught_left target (act u) n e in
            subst (λ s. Keeps F u.vars s.vars) (sym a.state)
            (stays_after u.vars (calmed (act u)) (set_left target n) (λ d. p.stays u (goes_left n e)) (set n).stays (subst GoesOn a.stop g))
        st u Done e g = same Done (λ n z. cc) u e g
        st u (Trap k l) e g = same (Trap k l) (λ n z. cc) u e g
        st u NoFuel e g = same NoFuel (λ n z. cc) u e g

        -- the second is out of fuel
        beyond : (u v : State) → Near h I u v → fuel < (act u).state.ticks + t → Follows fuel t (Near h I) (act u) (caught target (act v))
        beyond u v r b =
            let q = (p.near u v r).beyond b in
            follows_alike fuel t (Near h I) (act u) (act u) (caught target (act v)) (act v) (alike_refl _) (left_only NoFuel (λ n z. cc) v q.0) (p.near u v r)

        -- the first isn't left
        stays : (x : Stop) → ((n : ℤ) → x ≡ Left n → ⊥) → (u v : State) → Near h I u v → (act u).stop ≡ x → Dec ((act u).state.ticks + t ≤ fuel) → Follows fuel t (Near h I) (caught target (act u)) (caught target (act v))
        stays x d u v r e (yes i) =
            follows_alike fuel t (Near h I) _ (act u) _ (act v) (left_only x d u e) (left_only x d v (((p.near u v r).inside i).0 ∙ e)) (p.near u v r)
        stays x d u v r e (no n) =
            follows_alike fuel t (Near h I) _ (act u) _ (caught target (act v)) (left_only x d u e) (alike_refl _) (beyond u v r (omega arith))

        ticks : (u : State) (n : ℤ) → (act u).stop ≡ Left n → (caught target (act u)).state.ticks ≡ (act u).state.ticks
        ticks u n e = ap (λ s. s.ticks) (caught_left target (act u) n e).state ∙ of target
          where
            of : (y : Option (List ℕ)) → (after (calmed (act u)) (set_left y n)).state.ticks ≡ (act u).state.ticks
            of None = refl
            of (Some x) = refl

        ne : (u v : State) → Near h I u v → (x : Stop) → (act u).stop ≡ x → Dec ((act u).state.ticks + t ≤ fuel) → Follows fuel t (Near h I) (caught target (act u)) (caught target (act v))
        ne u v r (Left n) e (yes i) =
            let f = (p.near u v r).inside i in
            follows_alike fuel t (Near h I) _ (after (calmed (act u)) (set_left target n)) _ (after (calmed (act v)) (set_left target n))
            (caught_left target (act u) n e) (caught_left target (act v) n (f.0 ∙ e))
            (follows_after fuel t (Near h I) (calmed (act u)) (calmed (act v)) (set_left target n) (set_left target n)
            (record { inside = λ j. (refl, f.1, λ g. f.2 (goes_left n e)); beyond = λ b. absurd (omega arith) })
            (λ d. (p.later u).keeps (within I u v r) (goes_left n e)) (set n).later (set n).near)
        ne u v r (Left n) e (no k) =
            let b = (p.near u v r).beyond (omega arith) in
            let a = left_only NoFuel (λ m z. cc) v b.0 in
            let w : (caught target (act u)).state.ticks ≡ (act u).state.ticks = ticks u n e in record {
              inside = λ i. absurd (omega (arith, w));
              beyond = λ i. (a.stop ∙ b.0, ap (λ s. s.ticks) a.state ∙ b.1);
            }
        ne u v r Done e d = stays Done (λ n z. cc) u v r e d
        ne u v r (Trap k l) e d = stays (Trap k l) (λ n z. cc) u v r e d
        ne u v r NoFuel e d = stays NoFuel (λ n z. cc) u v r e d

    -- ---- calls in statements

    pub moves_with_call : (I : Claim) (c : State → Called) (g : ℤ → State → Ran) → NearCall c → ((n : ℤ) → Moves I (g n)) → Moves I (λ s. with_call (c s) g)
    moves_with_call I c g p q = record {
      later = λ u. later_after fuel u (c u).ran (g (c u).value) (p.later u) (q (c u).value).later;
      stays = λ u e. stays_after u.vars (c u).ran (g (c u).value) (λ d. subst (λ vs. Keeps F u.vars vs) (sym (p.vars u d)) (keeps_refl F u.vars)) (q (c u).value).stays e;
      near = λ u v r.
          follows_alike fuel t (Near h I) _ _ _ (after (c v).ran (g (c u).value)) (alike_refl _)
          (after_alike_at (c v).ran (g (c v).value) (g (c u).value) (λ d. same u v r d (dec_le ((c u).ran.state.ticks + t) fuel)))
          (follows_after fuel t (Near h I) (c u).ran (c v).ran (g (c u).value) (g (c u).value) (ran u v r) (λ d. (p.later u).keeps (within I u v r) (goes_done d)) (q (c u).value).later (q (c u).value).near);
    }
      where
        ran : (u v : State) → Near h I u v → Follows fuel t (Near h I) (c u).ran (c v).ran
        ran u v r = let f = p.near u v r.base in record {
          inside = λ i. (
            (f.inside i).0,
            (f.inside i).1,
            λ d. record {
              vars = p.vars v (subst GoesOn (sym (f.inside i).0) d) ∙ r.vars ∙ ap (bent h) (sym (p.vars u d));
              claim = subst I (sym (p.vars u d)) r.claim;
              base = (f.inside i).2 d;
            },
          );
          beyond = f.beyond;
        }

        same : (u v : State) → Near h I u v → (c v).ran.stop ≡ Done → Dec ((c u).ran.state.ticks + t ≤ fuel) → EndAlike (g (c v).value (c v).ran.state) (g (c u).value (c v).ran.state)
        same u v r d (yes i) =
            let f = (p.near u v r.base).inside i in
            let e : (c v).value ≡ (c u).value = p.value u v r.base i (sym f.0 ∙ d) in
            rw e (alike_refl _)
        same u v r d (no n) = absurd (no_done (sym ((p.near u v r.base).beyond (omega arith)).0 ∙ d))

    pub moves_two : (I : Claim) (a b : Expr) (f : ℤ → ℤ → State → Ran) → Agrees I a → Agrees I b → ((m n : ℤ) → Moves I (f m n)) → Moves I (λ s. given_two a b s (λ m n. f m n s))
    moves_two I a b f ga gb p = moves_given I a (λ m s. given b s (λ n. f m n s)) ga (λ m. moves_given I b (f m) gb (p m))

    abbrev pub AllAgree : Claim → List Expr → Type 0
    AllAgree I [] = ⊤
    AllAgree I (e ∷ es) = Agrees I e × AllAgree I es

    pub moves_given_all : (I : Claim) (es : List Expr) (f : List ℤ → State → Ran) → AllAgree I es → ((ns : List ℤ) → Moves I (f ns)) → Moves I (λ s. given_all es s (λ ns. f ns s))
    moves_given_all I [] f g p = p []
    moves_given_all I (e ∷ es) f g p =
        moves_given I e (λ n s. given_all es s (λ ns. f (n ∷ ns) s)) g.0 (λ n. moves_given_all I es (λ ns. f (n ∷ ns)) g.1 (λ ns. p (n ∷ ns)))

  -- where fewer variables are fixed
  pub moves_weaken : (h : Bend) (F G : List ℕ → Type 0) → ((x : List ℕ) → F x → G x) → (I : Claim) (act : State → Ran) → Moves h G I act → Moves h F I act
  moves_weaken h F G w I act p = record { later = p.later; stays = λ u d. keeps_weaken F G w u.vars (act u).state.vars (p.stays u d); near = p.near }
