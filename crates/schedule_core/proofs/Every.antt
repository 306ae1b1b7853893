-- The first configuration, every event, every list of events, and the end.
use Rattle.std.proofs.Common.{◌≡◌, ℕ, zero, suc, ◌+◌, ◌*◌, ◌<◌, ◌≤◌, ◌⊎◌, List, Option, Some, None}
use Rattle.std.proofs.Common.{refl, sym, ap, ◌∙◌, subst, ⊎_elim, inl, inr, arith}
use Rattle.std.proofs.Math.Nat.{mul-le-mul_right}
use Rattle.std.specs.Prelude.{Bool, false}
use Rattle.schedule_core.specs.Machine.{left, right, CoreMachine, Lawful}
use Rattle.schedule_core.specs.Core.{put, top, Seat, resting, running, forked, ended, holding, Cell}
use Rattle.schedule_core.specs.Core.{free, taken, opened, met, Config, Event, AnyFree, CoreStep}
use Rattle.schedule_core.specs.Core.{goes, beats, ends, asks, forks, opens, claims, arrives_left}
use Rattle.schedule_core.specs.Core.{arrives_right, frees, finishes, given, first}
use Rattle.schedule_core.specs.Sound.{Holder, nobody, by_seat, by_record, total, owing, saved}
use Rattle.schedule_core.specs.Sound.{one_there, kept_of, IsOpen, IsPending, place, SeatHas, Counts, Sound}
use Rattle.schedule_core.specs.Run.{CoreRun, here, on, Settled}
use Rattle.schedule_core.proofs.Paid.{total_bound}
use Rattle.schedule_core.proofs.Puts.{put_here, put_else, at_put, total_same, total_put, total_zero}
use Rattle.schedule_core.proofs.View.{SeatOk, CellOk, RootOk, View, view_of, sound_of}
use Rattle.schedule_core.proofs.Frames.{seat_nobody, seat_record, record_nobody}
use Rattle.schedule_core.proofs.Keeps.{on_goes, on_beats, on_ends, on_skips, on_takes, on_forks}
use Rattle.schedule_core.proofs.Keeps.{on_opens, on_claims, left_in, right_in, on_frees}
use Rattle.schedule_core.proofs.Keeps.{on_finishes}

seat_number : {i : ℕ} → by_seat 0 ≡ by_seat i → i ≡ 0
seat_number {i} a = sym (ap of a)
  where
    of : Holder → ℕ
    of nobody = 0
    of (by_seat j) = j
    of (by_record j) = 0

module _ {T R E : Type 0} (M : CoreMachine T R E) (H K N W : ℕ) (out : M.Promise) where
  pub first_sound : (t : T) → 0 < W → M.home t ≡ 0 → M.pending t ≡ None → M.credit t ≡ 0 → M.owes false t out → View M H N K W out (first t)
  first_sound t lt hm pn cr ow =
      let h = put {A = Holder} (λ x. nobody) 0 (by_seat 0) in
      let seats = put {A = Seat T R E} (λ w. resting) 0 (running t false) in
      let z = total_zero W in
      let a = total_put W (owing M H) (λ w. resting) 0 (running t false) lt in
      let b = total_put W (saved M H) (λ w. resting) 0 (running t false) lt in
      let pe = ap one_there pn in
      record {
        holder = h;
        promise = λ x. out;
        root_is = refl;
        seat_ok = λ i. at_put (λ w. resting) 0 (running t false) (λ y v. SeatOk M h (λ x. out) (λ k. free) y v) i
            (ap h hm ∙ put_here (λ x. nobody) 0 (by_seat 0), ow, subst (IsPending M (λ k. free) 0) (sym pn) tt) (λ ne. tt);
        cell_ok = λ k. (put_else (λ x. nobody) 0 (by_seat 0) (left k) (λ q. omega (arith, q)), put_else (λ x. nobody) 0 (by_seat 0) (right k) (λ q. omega (arith, q)));
        has_seat = λ y i a. at_put {A = Holder} (λ x. nobody) 0 (by_seat 0) (λ z v. v ≡ by_seat i → SeatHas M (seats i) z) y
            (λ a2. at_put (λ w. resting) 0 (running t false) (λ z v. by_seat 0 ≡ by_seat z → SeatHas M v 0) i (λ a3. sym hm) (λ ne a3. absurd (ne (seat_number a3))) a2)
            (λ ne a2. absurd (seat_nobody i a2 refl)) a;
        has_record = λ y j a. at_put {A = Holder} (λ x. nobody) 0 (by_seat 0) (λ z v. v ≡ by_record j → ⊥) y (λ a2. seat_record 0 j refl a2) (λ ne a2. record_nobody j a2 refl) a;
        in_hand = λ k. tt;
        root_ok = λ a. seat_nobody 0 (put_here (λ x. nobody) 0 (by_seat 0)) a;
        beyond = λ k le. refl;
        order = record { listed = λ k a. absurd a; is_open = λ k a. absurd (omega (arith, a)); once = tt; below = λ k j u. ⊎_elim (λ (q : 0 ≡ left j). absurd (omega (arith, q))) (λ (q : 0 ≡ right j). absurd (omega (arith, q))) u };
        allowed = λ w. omega arith;
        beats_ok = λ t2. omega (arith, a, z, pe);
        saved_ok = inl (omega (arith, b, z, cr));
      }

module _ {T R E : Type 0} (M : CoreMachine T R E) (H K N W : ℕ) (L : Lawful M H K) (room : W * N ≤ top) (out : M.Promise) where
  asked : (c : Config T R E) (a : Bool) (w : ℕ) (t : T) (d : Bool) (f : Option ℕ → T) (o : Option ℕ) → View M H N K W out c → w < W → c.seats w ≡ running t d → M.turn a t ≡ Rattle.schedule_core.specs.Machine.Asks f → AnyFree K c.cells o → View M H N K W out (given c w (f o) o)
  asked c a w t d f None s lt q st ch = on_skips M H K N W out L room c s a w t d f lt q st
  asked c a w t d f (Some k) s lt q st ch = on_takes M H K N W out L room c s a w t d f k lt q st ch.0 ch.1

  view_event : (c d : Config T R E) (v : Event) → View M H N K W out c → CoreStep M AnyFree N K W c v d → View M H N K W out d
  view_event c _ _ s (goes w t d u lt q st) = on_goes M H K N W out L room c s _ w t d u lt q st
  view_event c _ _ s (beats w t d u lt q st) = on_beats M H K N W out L room c s w t d u lt q st
  view_event c _ _ s (ends w t d e lt q st) = on_ends M H K N W out L room c s _ w t d e lt q st
  view_event c _ _ s (asks w t d f o lt q st ch) = asked c _ w t d f o s lt q st ch
  view_event c _ _ s (forks w t d k l x r lt q st) = on_forks M H K N W out L room c s _ w t d k l x r lt q st
  view_event c _ _ s (opens w k l x r lt lk q) = on_opens M H K N W out L room c s w k l x r lt q
  view_event c _ _ s (claims w k r x p q lt a b) = on_claims M H K N W out L room c s w k r x p q lt a b
  view_event c _ _ s (arrives_left w k e lt a b) = left_in M H K N W out L room c s w k e (c.cells k) lt a b refl
  view_event c _ _ s (arrives_right w k e lt a b) = right_in M H K N W out L room c s w k e (c.cells k) lt a b refl
  view_event c _ _ s (frees w k i r p q both lt a b m) = on_frees M H K N W out L room c s w k i r p q both lt a b m
  view_event c _ _ s (finishes w e lt a b) = on_finishes M H K N W out L room c s w e lt a b

  pub every_event : (c d : Config T R E) (v : Event) → Sound M H N K W out c → CoreStep M AnyFree N K W c v d → Sound M H N K W out d
  every_event c d v s st = sound_of M H N K W out d (view_event c d v (view_of M H N K W out c s) st)

  pub every_run : (c d : Config T R E) (vs : List Event) → Sound M H N K W out c → CoreRun M AnyFree N K W c vs d → Sound M H N K W out d
  every_run c d vs s (here _) = s
  every_run c d _ s (on _ b _ v vs st r) = every_run b d vs (every_event c b v s st) r

-- an end's number: 0, or a record's left or right end
end_cases : (x : ℕ) → (x ≡ 0) ⊎ ((k : ℕ) × ((x ≡ left k) ⊎ (x ≡ right k)))
end_cases zero = inl refl
end_cases (suc x) = ⊎_elim
    (λ (q : x ≡ 0). inr (0, inl (omega (arith, q))))
    (λ (t : (k : ℕ) × ((x ≡ left k) ⊎ (x ≡ right k))). ⊎_elim (λ q. inr (t.0, inr (omega (arith, q)))) (λ q. inr (suc t.0, inl (omega (arith, q)))) t.1)
    (end_cases x)

-- where a record is asked once a beat, the tasks are no more than the diversions that are allowed
pub few_tasks : {T R E : Type 0} (M : CoreMachine T R E) (H N W : ℕ) (c : Config T R E) → Counts M H N W c → M.Strict → W * N * H ≤ top → c.tasks * H ≤ top
few_tasks M H N W c counts strict le =
    let b = counts.beats strict in
    let t = total_bound W N c.beats counts.allowed in
    let m = mul-le-mul_right {m = c.tasks} {n = W * N} H (omega (arith, b, t)) in
    omega (arith, m, le)

module _ {T R E : Type 0} (M : CoreMachine T R E) (H K N W : ℕ) (out : M.Promise) (c : Config T R E) (s : View M H N K W out c) where
  open_by : (k : ℕ) (x : Cell T R E) (y : ℕ) → CellOk M s.holder s.promise k x → (y ≡ left k) ⊎ (y ≡ right k) → (s.holder y ≡ nobody → ⊥) → IsOpen x
  open_by k free y o u nn = ⊎_elim (λ q. nn (ap s.holder q ∙ o.0)) (λ q. nn (ap s.holder q ∙ o.1)) u
  open_by k (taken w) y o u nn = ⊎_elim (λ q. nn (ap s.holder q ∙ o.0)) (λ q. nn (ap s.holder q ∙ o.1)) u
  open_by k (opened r ch p q) y o u nn = tt
  open_by k (met w r p q) y o u nn = tt

  rest_held : (k : ℕ) (x : Cell T R E) → IsOpen x → CellOk M s.holder s.promise k x → s.holder (kept_of M x) ≡ by_record k
  rest_held k free op o = absurd op
  rest_held k (taken w) op o = absurd op
  rest_held k (opened r ch p q) op o = o.0.0
  rest_held k (met w r p q) op o = o.0.0

  -- where Root has no holder, no record is open
  no_open : (n k : ℕ) → s.holder 0 ≡ nobody → place c.order k < n → IsOpen (c.cells k) → ⊥
  no_open zero k h lt op = absurd (omega (arith, lt))
  no_open (suc n) k h lt op =
      let hk = rest_held k (c.cells k) op (s.cell_ok k) in
      ⊎_elim
      (λ (q : kept_of M (c.cells k) ≡ 0). record_nobody k hk (ap s.holder q ∙ h))
      (λ (t : (j : ℕ) × ((kept_of M (c.cells k) ≡ left j) ⊎ (kept_of M (c.cells k) ≡ right j))).
      let a = s.order.below k t.0 t.1 in
      no_open n t.0 h (omega (arith, a, lt)) (open_by t.0 (c.cells t.0) (kept_of M (c.cells k)) (s.cell_ok t.0) t.1 (λ z. record_nobody k hk z)))
      (end_cases (kept_of M (c.cells k)))

  none_open : (k : ℕ) → s.holder 0 ≡ nobody → IsOpen (c.cells k) → ⊥
  none_open k h op = no_open (suc (place c.order k)) k h (omega arith) op

  no_end : (w y : ℕ) → s.holder 0 ≡ nobody → s.holder y ≡ by_seat w → ⊥
  no_end w y h q = ⊎_elim
      (λ (z : y ≡ 0). seat_nobody w q (ap s.holder z ∙ h))
      (λ (t : (j : ℕ) × ((y ≡ left j) ⊎ (y ≡ right j))). none_open t.0 h (open_by t.0 (c.cells t.0) y (s.cell_ok t.0) t.1 (λ z. seat_nobody w q z)))
      (end_cases y)

  all_rest : (w : ℕ) (x : Seat T R E) → s.holder 0 ≡ nobody → SeatOk M s.holder s.promise c.cells w x → x ≡ resting
  all_rest w resting h o = refl
  all_rest w (running t d) h o = absurd (no_end w (M.home t) h o.0)
  all_rest w (forked k l y r) h o = absurd (no_end w (M.kept r) h o.0)
  all_rest w (ended e) h o = absurd (no_end w (M.end_of e) h o.0)
  all_rest w (holding k) h o = absurd (none_open k h (subst IsOpen (sym o.3) tt))

  at_end : (o : Option E) (e : E) → RootOk M s.holder s.promise out o → o ≡ Some e → M.meets e out × (s.holder 0 ≡ nobody)
  at_end o e r q = subst (RootOk M s.holder s.promise out) q r

  pub finished : (c.instructions ≡ top → c.tasks * H ≤ top) → (e : E) → c.outcome ≡ Some e → Settled M H W out e c
  finished le e q =
      let r = at_end c.outcome e s.root_ok q in
      let rest : (w : ℕ) → c.seats w ≡ resting = λ w. all_rest w (c.seats w) r.1 (s.seat_ok w) in
      let a = total_same W (λ w. owing M H (c.seats w)) (λ w. 0) (λ i lt. ap (owing M H) (rest i)) in
      let z = total_zero W in
      record {
        owed = r.0;
        closed = λ k op. none_open k r.1 op;
        rest = rest;
        beats = λ t2. let b = s.beats_ok t2 in omega (arith, a, z, b);
        paid = ⊎_elim (λ (x : c.tasks * H + total W (λ w. saved M H (c.seats w)) ≤ c.instructions). omega (arith, x)) (λ (x : c.instructions ≡ top). let m = le x in omega (arith, x, m)) s.saved_ok;
      }
