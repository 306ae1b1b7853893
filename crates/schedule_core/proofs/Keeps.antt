-- Each event keeps what is known of a sound configuration.
use Rattle.std.proofs.Common.{◌≡◌, ℕ, suc, ◌+◌, ◌*◌, ◌<◌, ◌≤◌, ◌⊎◌, Option, Some, None, List, []}
use Rattle.std.proofs.Common.{◌∷◌, ◌++◌, refl, sym, ap, ◌∙◌, subst, ⊎_elim, inl, inr, arith}
use Rattle.std.specs.Prelude.{Bool, true, false}
use Rattle.std.proofs.Math.Nat.{suc-mul, mul-le-mul_right}
use Rattle.std.proofs.lemmas.Bool.{cases_eq, cases_lt}
use Rattle.schedule_core.specs.Machine.{left, right, Turn, Goes, Beats, Ends, Asks, Forks, Stuck}
use Rattle.schedule_core.specs.Machine.{Merged, Runs, Over, CoreMachine, MergedOwes, MergeOwes, MergesWell, IsOther}
use Rattle.schedule_core.specs.Machine.{TurnOwes, KeepsTurn, Lawful}
use Rattle.schedule_core.specs.Core.{put, top, one_more, without, is_allowed, Seat, resting}
use Rattle.schedule_core.specs.Core.{running, forked, ended, holding, Cell, free, taken, opened}
use Rattle.schedule_core.specs.Core.{met, Config, stepped, diverted, given, opens_record, moved}
use Rattle.schedule_core.specs.Core.{freed, over, merged_seat, left_arrives, right_arrives}
use Rattle.schedule_core.specs.Sound.{Holder, nobody, by_seat, by_record, total, one_if, one_there}
use Rattle.schedule_core.specs.Sound.{owing, saved, kept_of, KeepsEndOf, IsOpen, IsPending, Order}
use Rattle.schedule_core.specs.Sound.{SeatHas, SeatTakes, CellHas, Paid}
use Rattle.schedule_core.proofs.Puts.{put_here, put_else, at_put, total_put}
use Rattle.schedule_core.proofs.Paid.{counts, one_more_le, paid_more, paid_same, total_bound, lt_true}
use Rattle.schedule_core.proofs.View.{SeatOk, SideOk, ChildOk, CellOk, RootOk, HandOk, View}
use Rattle.schedule_core.proofs.Frames.{Untouched, Still, Back, NotHand, seat_moves, seat_frame}
use Rattle.schedule_core.proofs.Frames.{cell_frame, root_frame, order_same, order_free, order_open}
use Rattle.schedule_core.proofs.Frames.{TakenBy, kind_clash, some_same, held_same, none_some}
use Rattle.schedule_core.proofs.Frames.{seat_nobody, seat_record, record_nobody, still_put}
use Rattle.schedule_core.proofs.Frames.{back_put, back_same, still_same, mine, ours, dead_left}
use Rattle.schedule_core.proofs.Frames.{dead_right, held_up}

-- a record that isn't free
abbrev pub IsUsed : {T R E : Type 0} → Cell T R E → Type 0
IsUsed free = ⊥
IsUsed (taken w) = Unit {0}
IsUsed (opened r ch p q) = Unit {0}
IsUsed (met w r p q) = Unit {0}

open_used : {T R E : Type 0} (x : Cell T R E) → IsOpen x → IsUsed x
open_used free o = o
open_used (taken w) o = tt
open_used (opened r ch p q) o = tt
open_used (met w r p q) o = tt

module _ {T R E : Type 0} (M : CoreMachine T R E) (H K N W : ℕ) (out : M.Promise) (L : Lawful M H K) (room : W * N ≤ top) (c : Config T R E) (s : View M H N K W out c) where
  owing_put : (w : ℕ) (new old : Seat T R E) → w < W → c.seats w ≡ old → total W (λ i. owing M H (put c.seats w new i)) + owing M H old ≡ total W (λ i. owing M H (c.seats i)) + owing M H new
  owing_put w new old lt q = let a = total_put W (owing M H) c.seats w new lt in let b = ap (owing M H) q in omega (arith, a, b)

  saved_put : (w : ℕ) (new old : Seat T R E) → w < W → c.seats w ≡ old → total W (λ i. saved M H (put c.seats w new i)) + saved M H old ≡ total W (λ i. saved M H (c.seats i)) + saved M H new
  saved_put w new old lt q = let a = total_put W (saved M H) c.seats w new lt in let b = ap (saved M H) q in omega (arith, a, b)

  pub at_seat : (w : ℕ) (old : Seat T R E) → c.seats w ≡ old → SeatOk M s.holder s.promise c.cells w old
  at_seat w old q = subst (SeatOk M s.holder s.promise c.cells w) q (s.seat_ok w)

  pub at_cell : (k : ℕ) (old : Cell T R E) → c.cells k ≡ old → CellOk M s.holder s.promise k old
  at_cell k old q = subst (CellOk M s.holder s.promise k) q (s.cell_ok k)

  -- a step of worker w that changes no record
  hand_frame : (w j : ℕ) (new old : Seat T R E) → c.seats w ≡ old → (SeatTakes M old j → SeatTakes M new j) → (old ≡ holding j → ⊥) → (x : Cell T R E) → HandOk M c.seats j x → HandOk M (put c.seats w new) j x
  hand_frame w j new old q ta ho free o = o
  hand_frame w j new old q ta ho (taken i) o = at_put c.seats w new (λ y z. SeatTakes M (c.seats y) j → SeatTakes M z j) i (λ a. ta (subst (λ z. SeatTakes M z j) q a)) (λ ne a. a) o
  hand_frame w j new old q ta ho (opened r ch p s2) o = o
  hand_frame w j new old q ta ho (met i r p s2) o = at_put c.seats w new (λ y z. c.seats y ≡ holding j → z ≡ holding j) i (λ a. absurd (ho (sym q ∙ a))) (λ ne a. a) o

  reseat : (w : ℕ) (new old : Seat T R E) (b : ℕ → ℕ) (sk n : ℕ) → c.seats w ≡ old → ((y : ℕ) → SeatHas M old y → SeatHas M new y) → ((j : ℕ) → SeatTakes M old j → SeatTakes M new j) → ((j : ℕ) → old ≡ holding j → ⊥) → SeatOk M s.holder s.promise c.cells w new
      → ((i : ℕ) → b i ≤ N) → (M.Strict → total W b ≡ c.tasks + sk + total W (λ i. owing M H (put c.seats w new i))) → Paid (c.tasks * H + total W (λ i. saved M H (put c.seats w new i))) n
      → View M H N K W out (record { seats = put c.seats w new; cells = c.cells; order = c.order; outcome = c.outcome; beats = b; tasks = c.tasks; skipped = sk; instructions = n })
  reseat w new old b sk n qo sh ta ho ok al cb cs = record {
    has_seat = λ y i. at_put c.seats w new (λ z v. s.holder y ≡ by_seat z → SeatHas M v y) i (λ q. sh y (subst (λ v. SeatHas M v y) qo (s.has_seat y w q))) (λ ne q. s.has_seat y i q);
    has_record = s.has_record;
    in_hand = λ j. hand_frame w j new old qo (ta j) (ho j) (c.cells j) (s.in_hand j);
    holder = s.holder;
    promise = s.promise;
    root_is = s.root_is;
    seat_ok = λ i. at_put c.seats w new (λ y z. SeatOk M s.holder s.promise c.cells y z) i ok (λ ne. s.seat_ok i);
    cell_ok = s.cell_ok;
    root_ok = s.root_ok;
    beyond = s.beyond;
    order = s.order;
    allowed = al;
    beats_ok = cb;
    saved_ok = cs;
  }

  -- an event of worker w at record k
  rebuild : (w k : ℕ) (new old : Seat T R E) (x : Cell T R E) (h : ℕ → Holder) (xs : List ℕ) (tk sk n : ℕ) → k < K → c.seats w ≡ old
      → Back w k s.holder h → ((y : ℕ) → h y ≡ by_seat w → SeatHas M new y) → ((y : ℕ) → h y ≡ by_record k → CellHas M k x y)
      → HandOk M (put c.seats w new) k x → ((j : ℕ) → (j ≡ k → ⊥) → SeatTakes M old j → SeatTakes M new j) → ((j : ℕ) → (j ≡ k → ⊥) → old ≡ holding j → ⊥)
      → Still w k s.holder h
      → ((i : ℕ) → (i ≡ w → ⊥) → NotHand i (c.cells k)) → SeatOk M h s.promise (put c.cells k x) w new → CellOk M h s.promise k x
      → Order M (put c.cells k x) xs
      → (M.Strict → total W c.beats ≡ tk + sk + total W (λ i. owing M H (put c.seats w new i))) → Paid (tk * H + total W (λ i. saved M H (put c.seats w new i))) n
      → View M H N K W out (record { seats = put c.seats w new; cells = put c.cells k x; order = xs; outcome = c.outcome; beats = c.beats; tasks = tk; skipped = sk; instructions = n })
  rebuild w k new old x h xs tk sk n lk qo bk hs hc hx ta ho st hand ok okc ord cb cs = record {
    has_seat = λ y i. at_put c.seats w new (λ z v. h y ≡ by_seat z → SeatHas M v y) i (λ q. hs y q) (λ ne q. s.has_seat y i (sym (bk y (subst (Untouched w k y) (sym q) ne)) ∙ q));
    has_record = λ y j. at_put c.cells k x (λ z v. h y ≡ by_record z → CellHas M z v y) j (λ q. hc y q) (λ ne q. s.has_record y j (sym (bk y (subst (Untouched w k y) (sym q) ne)) ∙ q));
    in_hand = λ j. at_put c.cells k x (λ z v. HandOk M (put c.seats w new) z v) j hx (λ ne. hand_frame w j new old qo (ta j ne) (ho j ne) (c.cells j) (s.in_hand j));
    holder = h;
    promise = s.promise;
    root_is = s.root_is;
    seat_ok = λ i. at_put c.seats w new (λ y z. SeatOk M h s.promise (put c.cells k x) y z) i ok (λ ne. seat_frame M s.holder h s.promise w k st (λ y n0 n1 n2 q. sym (bk y (subst (Untouched w k y) (sym q) (n1, n2))) ∙ q) c.cells x i (c.seats i) ne (hand i ne) (s.seat_ok i));
    cell_ok = λ j. at_put c.cells k x (λ y z. CellOk M h s.promise y z) j okc (λ ne. cell_frame M s.holder h s.promise w k st (λ y n0 n1 n2 q. sym (bk y (subst (Untouched w k y) (sym q) (n1, n2))) ∙ q) j (c.cells j) ne (s.cell_ok j));
    root_ok = root_frame M s.holder h s.promise w k st (λ y n0 n1 n2 q. sym (bk y (subst (Untouched w k y) (sym q) (n1, n2))) ∙ q) out c.outcome (λ q. sym (bk 0 (subst (Untouched w k 0) (sym q) ((λ z. omega (arith, z)), (λ z. omega (arith, z))))) ∙ q) s.root_ok;
    beyond = λ j le. at_put c.cells k x (λ y z. K ≤ y → z ≡ free) j (λ l. absurd (omega (arith, lk, l))) (λ ne. s.beyond j) le;
    order = ord;
    allowed = s.allowed;
    beats_ok = cb;
    saved_ok = cs;
  }

  turn_of : (a d : Bool) (t : T) (e : M.Promise) (x : Turn T R E) → M.turn a t ≡ x → M.owes d t e → KeepsTurn M H a t x
  turn_of a d t e x st o = subst (KeepsTurn M H a t) st (L.keeps a d t e o)

  owed_of : (a d : Bool) (t : T) (e : M.Promise) (x : Turn T R E) → M.turn a t ≡ x → M.owes d t e → TurnOwes M K (M.home t) d e x
  owed_of a d t e x st o = subst (TurnOwes M K (M.home t) d e) st (L.invert a d t e o)

  same_seat : (w : ℕ) (t u : T) (d d' : Bool) → (M.home u ≡ M.home t) → (M.pending u ≡ M.pending t) → SeatOk M s.holder s.promise c.cells w (running t d) → M.owes d' u (s.promise (M.home t)) → SeatOk M s.holder s.promise c.cells w (running u d')
  same_seat w t u d d' e1 e2 o v = (ap s.holder e1 ∙ o.0, subst (λ x. M.owes d' u (s.promise x)) (sym e1) v, subst (IsPending M c.cells w) (sym e2) o.2)

  -- what the counts say after worker w has something else
  step_paid : (w : ℕ) (new old : Seat T R E) → w < W → c.seats w ≡ old → saved M H new ≤ suc (saved M H old) → Paid (c.tasks * H + total W (λ i. saved M H (put c.seats w new i))) (one_more c.instructions)
  step_paid w new old lt q le =
      let sv = saved_put w new old lt q in
      paid_more (c.tasks * H + total W (λ i. saved M H (c.seats i))) (c.tasks * H + total W (λ i. saved M H (put c.seats w new i))) c.instructions s.saved_ok (omega (arith, sv, le))

  same_paid : (w : ℕ) (new old : Seat T R E) → w < W → c.seats w ≡ old → saved M H new ≤ saved M H old → Paid (c.tasks * H + total W (λ i. saved M H (put c.seats w new i))) c.instructions
  same_paid w new old lt q le =
      let sv = saved_put w new old lt q in
      paid_same (c.tasks * H + total W (λ i. saved M H (c.seats i))) (c.tasks * H + total W (λ i. saved M H (put c.seats w new i))) c.instructions s.saved_ok (omega (arith, sv, le))

  -- no count of beats comes to its end
  room_left : M.Strict → c.tasks + c.skipped + total W (λ i. owing M H (c.seats i)) ≤ top
  room_left t = let a = total_bound W N c.beats s.allowed in let b = s.beats_ok t in omega (arith, a, b, room)

  pub on_goes : (a : Bool) (w : ℕ) (t : T) (d : Bool) (u : T) → w < W → c.seats w ≡ running t d → M.turn a t ≡ Goes u → View M H N K W out (stepped c w (running u d))
  on_goes a w t d u lt q st =
      let o = at_seat w (running t d) q in
      let k = turn_of a d t _ (Goes u) st o.1 in
      let v = owed_of a d t _ (Goes u) st o.1 in
      let ow = owing_put w (running u d) (running t d) lt q in
      let pe = ap one_there k.1 in
      let cr = k.2 in
      reseat w (running u d) (running t d) c.beats c.skipped (one_more c.instructions) q (λ y a. a ∙ sym k.0) (λ j a. k.1 ∙ a) (λ j a. kind_clash _ _ a (λ z. omega (arith, z))) (same_seat w t u d d k.0 k.1 o v)
      s.allowed (λ t2. let b = s.beats_ok t2 in omega (arith, ow, pe, b)) (step_paid w (running u d) (running t d) lt q (omega (arith, cr)))

  pub on_beats : (w : ℕ) (t : T) (d : Bool) (v : T) → w < W → c.seats w ≡ running t d → M.turn (is_allowed N (c.beats w)) t ≡ Beats v → View M H N K W out (diverted c w v)
  on_beats w t d v lt q st =
      let a = is_allowed N (c.beats w) in
      let o = at_seat w (running t d) q in
      let k = turn_of a d t _ (Beats v) st o.1 in
      let z = owed_of a d t _ (Beats v) st o.1 in
      let ow = owing_put w (running v true) (running t d) lt q in
      let pe = ap one_there k.1.1 in
      let cr = k.1.2 in
      let few = lt_true (c.beats w) N k.0 in
      let wide = mul-le-mul_right {m = 1} {n = W} N (omega (arith, lt)) in
      let bs = counts (c.beats w) (omega (arith, few, wide, room)) in
      let bb = total_put W (λ x. x) c.beats w (one_more (c.beats w)) lt in
      reseat w (running v true) (running t d) (put c.beats w (one_more (c.beats w))) c.skipped (one_more c.instructions) q (λ y a. a ∙ sym k.1.0) (λ j a. k.1.1 ∙ a) (λ j a. kind_clash _ _ a (λ z. omega (arith, z))) (same_seat w t v d true k.1.0 k.1.1 o z.1)
      (λ i. at_put c.beats w (one_more (c.beats w)) (λ y x. x ≤ N) i (omega (arith, few, bs)) (λ ne. s.allowed i)) (λ t2. let b = s.beats_ok t2 in let dd = ap one_if (z.0 t2) in omega (arith, ow, pe, b, bb, bs, dd)) (step_paid w (running v true) (running t d) lt q (omega (arith, cr)))

  pub on_ends : (a : Bool) (w : ℕ) (t : T) (d : Bool) (e : E) → w < W → c.seats w ≡ running t d → M.turn a t ≡ Ends e → View M H N K W out (stepped c w (ended e))
  on_ends a w t d e lt q st =
      let o = at_seat w (running t d) q in
      let k = turn_of a d t _ (Ends e) st o.1 in
      let z = owed_of a d t _ (Ends e) st o.1 in
      let ow = owing_put w (ended e) (running t d) lt q in
      let pe = ap one_there k.1 in
      reseat w (ended e) (running t d) c.beats c.skipped (one_more c.instructions) q (λ y a. a ∙ sym k.0) (λ j a. none_some (sym k.1 ∙ a)) (λ j a. kind_clash _ _ a (λ z. omega (arith, z))) (ap s.holder k.0 ∙ o.0, subst (λ y. M.meets e (s.promise y)) (sym k.0) z.1)
      s.allowed (λ t2. let b = s.beats_ok t2 in let dd = ap one_if (z.0 t2) in omega (arith, ow, pe, b, dd)) (step_paid w (ended e) (running t d) lt q (omega arith))

  pub on_skips : (a : Bool) (w : ℕ) (t : T) (d : Bool) (f : Option ℕ → T) → w < W → c.seats w ≡ running t d → M.turn a t ≡ Asks f → View M H N K W out (given c w (f None) None)
  on_skips a w t d f lt q st =
      let o = at_seat w (running t d) q in
      let k = turn_of a d t _ (Asks f) st o.1 in
      let z = owed_of a d t _ (Asks f) st o.1 in
      let g = k.1 None in
      let ow = owing_put w (running (f None) false) (running t d) lt q in
      let pe = ap one_there k.0 in
      let pf = ap one_there g.1 in
      let cr = g.2 in
      reseat w (running (f None) false) (running t d) c.beats (one_more c.skipped) (one_more c.instructions) q (λ y a. a ∙ sym g.0) (λ j a. absurd (none_some (sym k.0 ∙ a))) (λ j a. kind_clash _ _ a (λ z. omega (arith, z))) (same_seat w t (f None) d false g.0 (g.1 ∙ sym k.0) o z.1)
      s.allowed (λ t2. let b = s.beats_ok t2 in let dd = ap one_if (z.0 t2) in let rl = room_left t2 in let sk = counts c.skipped (omega (arith, ow, pe, pf, dd, rl)) in omega (arith, ow, pe, pf, b, dd, sk)) (step_paid w (running (f None) false) (running t d) lt q (omega (arith, cr)))

  pub on_takes : (a : Bool) (w : ℕ) (t : T) (d : Bool) (f : Option ℕ → T) (k : ℕ) → w < W → c.seats w ≡ running t d → M.turn a t ≡ Asks f → k < K → c.cells k ≡ free
      → View M H N K W out (given c w (f (Some k)) (Some k))
  on_takes a w t d f j lt q st jk fr =
      let o = at_seat w (running t d) q in
      let k = turn_of a d t _ (Asks f) st o.1 in
      let z = owed_of a d t _ (Asks f) st o.1 in
      let u = f (Some j) in
      let g = k.1 (Some j) in
      let ow = owing_put w (running u false) (running t d) lt q in
      let pe = ap one_there k.0 in
      let pf = ap one_there g.1 in
      let cr = g.2 in
      let cf = at_cell j free fr in
      let other : IsOther M K (M.home t) j = (jk, (λ y. seat_nobody w o.0 (ap s.holder y ∙ cf.0)), (λ y. seat_nobody w o.0 (ap s.holder y ∙ cf.1))) in
      rebuild w j (running u false) (running t d) (taken w) s.holder c.order c.tasks c.skipped (one_more c.instructions) jk q (back_same w j s.holder)
      (λ y a. subst (λ v. SeatHas M v y) q (s.has_seat y w a) ∙ sym g.0)
      (λ y a. subst (λ v. CellHas M j v y) fr (s.has_record y j a))
      (subst (λ v. SeatTakes M v j) (sym (put_here c.seats w (running u false))) g.1)
      (λ i ne a. absurd (none_some (sym k.0 ∙ a))) (λ i ne a. kind_clash _ _ a (λ z. omega (arith, z)))
      (still_same w j s.holder)
      (λ i ne. subst (NotHand i) (sym fr) tt)
      (ap s.holder g.0 ∙ o.0, subst (λ x. M.owes false u (s.promise x)) (sym g.0) (z.2 j other), subst (IsPending M (put c.cells j (taken w)) w) (sym g.1) (put_here c.cells j (taken w)))
      cf (order_same M c.cells c.order s.order j (taken w) (λ a. absurd a) (λ a. subst IsOpen fr a) (sym (ap (kept_of M) fr)))
      (λ t2. let b = s.beats_ok t2 in let dd = ap one_if (z.0 t2) in omega (arith, ow, pe, pf, b, dd)) (step_paid w (running u false) (running t d) lt q (omega (arith, cr)))

  -- a record that is in use is one of the K
  in_range : (k : ℕ) (x : Cell T R E) → c.cells k ≡ x → IsUsed x → k < K
  in_range k x q u = ⊎_elim (λ (l : k < K). l) (λ (l : K ≤ k). absurd (subst IsUsed (sym q ∙ s.beyond k l) u)) (cases_lt k K)

  -- nothing keeps an end that has no holder
  not_up : (k i : ℕ) → s.holder (left k) ≡ nobody → s.holder (right k) ≡ nobody → KeepsEndOf M (c.cells i) k → ⊥
  not_up k i n1 n2 u = ⊎_elim
      (λ z. record_nobody i (held_up M s.holder s.promise i (2 * k) (c.cells i) (s.cell_ok i) (z ∙ omega arith)) (subst (λ y. s.holder y ≡ nobody) {x = left k} {y = suc (2 * k)} (omega arith) n1))
      (λ z. record_nobody i (held_up M s.holder s.promise i (2 * k + 1) (c.cells i) (s.cell_ok i) (z ∙ omega arith)) (subst (λ y. s.holder y ≡ nobody) {x = right k} {y = suc (2 * k + 1)} (omega arith) n2))
      u

  pub on_opens : (w k : ℕ) (l x : T) (r : R) → w < W → c.seats w ≡ forked k l x r
      → View M H N K W out (opens_record c w k l x r)
  on_opens w k l x r lt q =
      let o = at_seat w (forked k l x r) q in
      let ct = at_cell k (taken w) o.1 in
      let h1 = put s.holder (M.kept r) (by_record k) in
      let h2 = put h1 (left k) (by_seat w) in
      let h3 = put h2 (right k) (by_record k) in
      let new : Cell T R E = opened r (Some x) None None in
      let ul : M.kept r ≡ left k → ⊥ = λ z. seat_nobody w o.0 (ap s.holder z ∙ ct.0) in
      let ur : M.kept r ≡ right k → ⊥ = λ z. seat_nobody w o.0 (ap s.holder z ∙ ct.1) in
      let at_up : h3 (M.kept r) ≡ by_record k = put_else h2 (right k) (by_record k) (M.kept r) ur ∙ (put_else h1 (left k) (by_seat w) (M.kept r) ul ∙ put_here s.holder (M.kept r) (by_record k)) in
      let at_left : h3 (left k) ≡ by_seat w = put_else h2 (right k) (by_record k) (left k) (λ z. omega (arith, z)) ∙ put_here h1 (left k) (by_seat w) in
      let ow = owing_put w (running l false) (forked k l x r) lt q in
      let sv = saved_put w (running l false) (forked k l x r) lt q in
      let pe = ap one_there o.3 in
      let mu = suc-mul c.tasks H in
      let mm = mul-le-mul_right {m = one_more c.tasks} {n = suc c.tasks} H (one_more_le c.tasks) in
      let paid = paid_same (c.tasks * H + total W (λ i. saved M H (c.seats i))) (one_more c.tasks * H + total W (λ i. saved M H (put c.seats w (running l false) i))) c.instructions s.saved_ok (omega (arith, sv, mu, mm)) in
      rebuild w k (running l false) (forked k l x r) new h3 (c.order ++ k ∷ []) (one_more c.tasks) c.skipped c.instructions (in_range k (taken w) o.1 tt) q
      (back_put w k s.holder h2 (back_put w k s.holder h1 (back_put w k s.holder s.holder (back_same w k s.holder) (M.kept r) (by_record k) (λ a. a refl)) (left k) (by_seat w) (λ a. a refl)) (right k) (by_record k) (λ a. a refl))
      (λ y. at_put h2 (right k) (by_record k) (λ z v. v ≡ by_seat w → z ≡ M.home l) y (λ a. absurd (seat_record w k a refl))
      (λ n1. at_put h1 (left k) (by_seat w) (λ z v. v ≡ by_seat w → z ≡ M.home l) y (λ a. sym o.2)
      (λ n2. at_put s.holder (M.kept r) (by_record k) (λ z v. v ≡ by_seat w → z ≡ M.home l) y (λ a. absurd (seat_record w k a refl))
      (λ n3 a. absurd (n3 (subst (λ v. SeatHas M v y) q (s.has_seat y w a)))))))
      (λ y. at_put h2 (right k) (by_record k) (λ z v. v ≡ by_record k → CellHas M k new z) y (λ a. inr (inr (refl, inl tt)))
      (λ n1. at_put h1 (left k) (by_seat w) (λ z v. v ≡ by_record k → CellHas M k new z) y (λ a. absurd (seat_record w k refl a))
      (λ n2. at_put s.holder (M.kept r) (by_record k) (λ z v. v ≡ by_record k → CellHas M k new z) y (λ a. inl refl)
      (λ n3 a. absurd (subst (λ v. CellHas M k v y) o.1 (s.has_record y k a))))))
      tt (λ j ne a. absurd (ne (sym a))) (λ j ne a. kind_clash _ _ a (λ z. omega (arith, z)))
      (still_put w k s.holder h2 (still_put w k s.holder h1 (still_put w k s.holder s.holder (still_same w k s.holder) (M.kept r) (by_record k) (mine w k (M.kept r) s.holder o.0)) (left k) (by_seat w) (dead_left w k s.holder ct.0)) (right k) (by_record k) (dead_right w k s.holder ct.1))
      (λ i ne. subst (NotHand i) (sym o.1) (λ z. ne (sym z)))
      (ap h3 o.2 ∙ at_left, subst (λ y. M.owes false l (s.promise y)) (sym o.2) o.4, subst (IsPending M (put c.cells k new) w) (sym o.3) tt)
      ((at_up, o.9), (refl, put_here h2 (right k) (by_record k), o.5, o.6, o.7, o.8), (λ a. seat_nobody w at_left a), (λ a. record_nobody k (put_here h2 (right k) (by_record k)) a))
      (order_open M c.cells c.order s.order k new (λ a. subst IsOpen o.1 a) tt
      (λ j u jk. ⊎_elim (λ z. ul (z ∙ ap left jk)) (λ z. ur (z ∙ ap right jk)) u) (λ i u. not_up k i ct.0 ct.1 u))
      (λ t2. let b = s.beats_ok t2 in let rl = room_left t2 in let tk = counts c.tasks (omega (arith, ow, pe, rl)) in omega (arith, ow, pe, b, tk)) paid

  pub on_claims : (w k : ℕ) (r : R) (x : T) (p q : Option E) → w < W → c.seats w ≡ resting → c.cells k ≡ opened r (Some x) p q
      → View M H N K W out (moved c w (running x false) k (opened r None p q))
  on_claims w k r x p q lt qs qc =
      let oc = at_cell k (opened r (Some x) p q) qc in
      let h1 = put s.holder (right k) (by_seat w) in
      let new : Cell T R E = opened r None p q in
      let ur : M.kept r ≡ right k → ⊥ = λ z. let a = s.order.below k k (inr (ap (kept_of M) qc ∙ z)) in omega (arith, a) in
      let lr : left k ≡ right k → ⊥ = λ z. omega (arith, z) in
      let ow = owing_put w (running x false) resting lt qs in
      let pe = ap one_there oc.1.3 in
      let cr = oc.1.4 in
      rebuild w k (running x false) resting new h1 c.order c.tasks c.skipped c.instructions (in_range k (opened r (Some x) p q) qc tt) qs
      (back_put w k s.holder s.holder (back_same w k s.holder) (right k) (by_seat w) (λ a. a refl))
      (λ y. at_put s.holder (right k) (by_seat w) (λ z v. v ≡ by_seat w → z ≡ M.home x) y (λ a. sym oc.1.2) (λ ne a. absurd (subst (λ v. SeatHas M v y) qs (s.has_seat y w a))))
      (λ y. at_put s.holder (right k) (by_seat w) (λ z v. v ≡ by_record k → CellHas M k new z) y (λ a. absurd (seat_record w k refl a))
      (λ ne a. ⊎_elim inl (λ b2. ⊎_elim (λ e2. inr (inl e2)) (λ e2. absurd (ne e2.0)) b2) (subst (λ v. CellHas M k v y) qc (s.has_record y k a))))
      tt (λ j ne a. absurd a) (λ j ne a. kind_clash _ _ a (λ z. omega (arith, z)))
      (still_put w k s.holder s.holder (still_same w k s.holder) (right k) (by_seat w) (ours w k (right k) s.holder oc.1.1))
      (λ i ne. subst (NotHand i) (sym qc) tt)
      (ap h1 oc.1.2 ∙ put_here s.holder (right k) (by_seat w), subst (λ y. M.owes false x (s.promise y)) (sym oc.1.2) oc.1.5, subst (IsPending M (put c.cells k new) w) (sym oc.1.3) tt)
      ((put_else s.holder (right k) (by_seat w) (M.kept r) ur ∙ oc.0.0, oc.0.1), tt, side_else k (left k) (right k) (by_seat w) p lr oc.2, subst (SideOk M h1 s.promise k (right k)) (sym oc.1.0) (λ a. seat_nobody w (put_here s.holder (right k) (by_seat w)) a))
      (order_same M c.cells c.order s.order k new (λ a. subst IsOpen (sym qc) tt) (λ a. tt) (sym (ap (kept_of M) qc)))
      (λ t2. let b = s.beats_ok t2 in omega (arith, ow, pe, b)) (same_paid w (running x false) resting lt qs (omega (arith, cr)))
    where
      side_else : (k x y : ℕ) (v : Holder) (o : Option E) → (x ≡ y → ⊥) → SideOk M s.holder s.promise k x o → SideOk M (put s.holder y v) s.promise k x o
      side_else k x y v None ne o = λ a. o (sym (put_else s.holder y v x ne) ∙ a)
      side_else k x y v (Some e) ne o = (put_else s.holder y v x ne ∙ o.0, o.1)

  -- what a kept side is after the holder of another end changes
  side_other : (k x y : ℕ) (v : Holder) (o : Option E) → (x ≡ y → ⊥) → SideOk M s.holder s.promise k x o → SideOk M (put s.holder y v) s.promise k x o
  side_other k x y v None ne o = λ a. o (sym (put_else s.holder y v x ne) ∙ a)
  side_other k x y v (Some e) ne o = (put_else s.holder y v x ne ∙ o.0, o.1)

  child_other : (k y : ℕ) (v : Holder) (o : Option T) (q : Option E) → (right k ≡ y → ⊥) → ChildOk M s.holder s.promise k o q → ChildOk M (put s.holder y v) s.promise k o q
  child_other k y v None q ne o = o
  child_other k y v (Some x) q ne o = (o.0, put_else s.holder y v (right k) ne ∙ o.1, o.2, o.3, o.4, o.5)

  abbrev pub After : (w k : ℕ) (x : Cell T R E × Seat T R E) → Type 0
  After w k x = View M H N K W out (moved c w x.1 k x.0)

  -- an arrival, where the record is open and no side or child of the end is there
  arrival : (w k y : ℕ) (e : E) (old new : Cell T R E) (st : Seat T R E) → w < W → c.seats w ≡ ended e → M.end_of e ≡ y → (y ≡ left k) ⊎ (y ≡ right k) → c.cells k ≡ old
      → ((i : ℕ) → NotHand i old) → IsOpen old → IsOpen new → kept_of M new ≡ kept_of M old → owing M H st ≡ 0 → saved M H st ≡ 0
      → ((z : ℕ) → (z ≡ y) ⊎ CellHas M k old z → CellHas M k new z) → HandOk M (put c.seats w st) k new
      → SeatOk M (put s.holder y (by_record k)) s.promise (put c.cells k new) w st → CellOk M (put s.holder y (by_record k)) s.promise k new
      → View M H N K W out (moved c w st k new)
  arrival w k y e old new st lt qs qe qy qc nh qo qn qu zo zs hc hx okst okc =
      let o = at_seat w (ended e) qs in
      let hy : s.holder y ≡ by_seat w = ap s.holder (sym qe) ∙ o.0 in
      let ow = owing_put w st (ended e) lt qs in
      rebuild w k st (ended e) new (put s.holder y (by_record k)) c.order c.tasks c.skipped c.instructions (in_range k old qc (open_used old qo)) qs
      (back_put w k s.holder s.holder (back_same w k s.holder) y (by_record k) (λ a. a refl))
      (λ z. at_put s.holder y (by_record k) (λ i v. v ≡ by_seat w → SeatHas M st i) z (λ a. absurd (seat_record w k a refl)) (λ ne a. absurd (ne (subst (λ v. SeatHas M v z) qs (s.has_seat z w a) ∙ qe))))
      (λ z. at_put s.holder y (by_record k) (λ i v. v ≡ by_record k → CellHas M k new i) z (λ a. hc y (inl refl)) (λ ne a. hc z (inr (subst (λ v. CellHas M k v z) qc (s.has_record z k a)))))
      hx (λ j ne a. absurd a) (λ j ne a. kind_clash _ _ a (λ z. omega (arith, z)))
      (still_put w k s.holder s.holder (still_same w k s.holder) y (by_record k) (mine w k y s.holder hy))
      (λ i ne. subst (NotHand i) (sym qc) (nh i))
      okst okc
      (order_same M c.cells c.order s.order k new (λ a. subst IsOpen (sym qc) qo) (λ a. qn) (qu ∙ sym (ap (kept_of M) qc)))
      (λ t2. let b = s.beats_ok t2 in omega (arith, ow, zo, b)) (same_paid w st (ended e) lt qs (omega (arith, zs)))

  pub left_in : (w k : ℕ) (e : E) (x : Cell T R E) → w < W → c.seats w ≡ ended e → M.end_of e ≡ left k → c.cells k ≡ x → After w k (left_arrives w k e x)
  left_in w k e free lt qs qe qc = absurd (seat_nobody w (at_seat w (ended e) qs).0 (ap s.holder qe ∙ (at_cell k free qc).0))
  left_in w k e (taken i) lt qs qe qc = absurd (seat_nobody w (at_seat w (ended e) qs).0 (ap s.holder qe ∙ (at_cell k (taken i) qc).0))
  left_in w k e (met i r p q) lt qs qe qc = absurd (seat_record w k (at_seat w (ended e) qs).0 (ap s.holder qe ∙ (at_cell k (met i r p q) qc).1.0))
  left_in w k e (opened r ch (Some p) q) lt qs qe qc = absurd (seat_record w k (at_seat w (ended e) qs).0 (ap s.holder qe ∙ (at_cell k (opened r ch (Some p) q) qc).2.0))
  left_in w k e (opened r ch None None) lt qs qe qc =
      let o = at_seat w (ended e) qs in
      let oc = at_cell k (opened r ch None None) qc in
      let ul : M.kept r ≡ left k → ⊥ = λ z. let a = s.order.below k k (inl (ap (kept_of M) qc ∙ z)) in omega (arith, a) in
      let rl : right k ≡ left k → ⊥ = λ z. omega (arith, z) in
      arrival w k (left k) e (opened r ch None None) (opened r ch (Some e) None) resting lt qs qe (inl refl) qc (λ i. tt) tt tt refl refl refl
      (λ z u. ⊎_elim (λ a. inr (inl (a, tt))) (λ b2. ⊎_elim inl (λ c2. ⊎_elim (λ d2. absurd d2.1) (λ d2. inr (inr d2)) c2) b2) u) tt tt
      ((put_else s.holder (left k) (by_record k) (M.kept r) ul ∙ oc.0.0, oc.0.1), child_other k (left k) (by_record k) ch None rl oc.1, (put_here s.holder (left k) (by_record k), subst (λ y. M.meets e (s.promise y)) qe o.1), side_other k (right k) (left k) (by_record k) None rl oc.3)
  left_in w k e (opened r ch None (Some q)) lt qs qe qc =
      let o = at_seat w (ended e) qs in
      let oc = at_cell k (opened r ch None (Some q)) qc in
      let ul : M.kept r ≡ left k → ⊥ = λ z. let a = s.order.below k k (inl (ap (kept_of M) qc ∙ z)) in omega (arith, a) in
      let rl : right k ≡ left k → ⊥ = λ z. omega (arith, z) in
      arrival w k (left k) e (opened r ch None (Some q)) (met w r e q) (holding k) lt qs qe (inl refl) qc (λ i. tt) tt tt refl refl refl
      (λ z u. ⊎_elim (λ a. inr (inl a)) (λ b2. ⊎_elim inl (λ c2. ⊎_elim (λ d2. absurd d2.1) (λ d2. inr (inr d2.0)) c2) b2) u) (put_here c.seats w (holding k))
      (r, e, q, put_here c.cells k (met w r e q))
      ((put_else s.holder (left k) (by_record k) (M.kept r) ul ∙ oc.0.0, oc.0.1), (put_here s.holder (left k) (by_record k), subst (λ y. M.meets e (s.promise y)) qe o.1), (put_else s.holder (left k) (by_record k) (right k) rl ∙ oc.3.0, oc.3.1))

  pub right_in : (w k : ℕ) (e : E) (x : Cell T R E) → w < W → c.seats w ≡ ended e → M.end_of e ≡ right k → c.cells k ≡ x → After w k (right_arrives w k e x)
  right_in w k e free lt qs qe qc = absurd (seat_nobody w (at_seat w (ended e) qs).0 (ap s.holder qe ∙ (at_cell k free qc).1))
  right_in w k e (taken i) lt qs qe qc = absurd (seat_nobody w (at_seat w (ended e) qs).0 (ap s.holder qe ∙ (at_cell k (taken i) qc).1))
  right_in w k e (met i r p q) lt qs qe qc = absurd (seat_record w k (at_seat w (ended e) qs).0 (ap s.holder qe ∙ (at_cell k (met i r p q) qc).2.0))
  right_in w k e (opened r ch p (Some q)) lt qs qe qc = absurd (seat_record w k (at_seat w (ended e) qs).0 (ap s.holder qe ∙ (at_cell k (opened r ch p (Some q)) qc).3.0))
  right_in w k e (opened r (Some x) p None) lt qs qe qc = absurd (seat_record w k (at_seat w (ended e) qs).0 (ap s.holder qe ∙ (at_cell k (opened r (Some x) p None) qc).1.1))
  right_in w k e (opened r None None None) lt qs qe qc =
      let o = at_seat w (ended e) qs in
      let oc = at_cell k (opened r None None None) qc in
      let ur : M.kept r ≡ right k → ⊥ = λ z. let a = s.order.below k k (inr (ap (kept_of M) qc ∙ z)) in omega (arith, a) in
      arrival w k (right k) e (opened r None None None) (opened r None None (Some e)) resting lt qs qe (inr refl) qc (λ i. tt) tt tt refl refl refl
      (λ z u. ⊎_elim (λ a. inr (inr (a, inr tt))) (λ b2. ⊎_elim inl (λ c2. ⊎_elim (λ d2. absurd d2.1) (λ d2. absurd (⊎_elim (λ g2. g2) (λ g2. g2) d2.1)) c2) b2) u) tt tt
      ((put_else s.holder (right k) (by_record k) (M.kept r) ur ∙ oc.0.0, oc.0.1), tt, side_other k (left k) (right k) (by_record k) None (λ z. omega (arith, z)) oc.2, (put_here s.holder (right k) (by_record k), subst (λ y. M.meets e (s.promise y)) qe o.1))
  right_in w k e (opened r None (Some p) None) lt qs qe qc =
      let o = at_seat w (ended e) qs in
      let oc = at_cell k (opened r None (Some p) None) qc in
      let ur : M.kept r ≡ right k → ⊥ = λ z. let a = s.order.below k k (inr (ap (kept_of M) qc ∙ z)) in omega (arith, a) in
      let lr : left k ≡ right k → ⊥ = λ z. omega (arith, z) in
      arrival w k (right k) e (opened r None (Some p) None) (met w r p e) (holding k) lt qs qe (inr refl) qc (λ i. tt) tt tt refl refl refl
      (λ z u. ⊎_elim (λ a. inr (inr a)) (λ b2. ⊎_elim inl (λ c2. ⊎_elim (λ d2. inr (inl d2.0)) (λ d2. absurd (⊎_elim (λ g2. g2) (λ g2. g2) d2.1)) c2) b2) u) (put_here c.seats w (holding k))
      (r, p, e, put_here c.cells k (met w r p e))
      ((put_else s.holder (right k) (by_record k) (M.kept r) ur ∙ oc.0.0, oc.0.1), (put_else s.holder (right k) (by_record k) (left k) lr ∙ oc.2.0, oc.2.1), (put_here s.holder (right k) (by_record k), subst (λ y. M.meets e (s.promise y)) qe o.1))

  -- what the merge owes
  pub merge_at : (k i : ℕ) (r : R) (p q : E) → c.cells k ≡ met i r p q → MergesWell M (s.promise (M.kept r)) r p q
  merge_at k i r p q qc =
      let oc = at_cell k (met i r p q) qc in
      oc.0.1 p q oc.1.1 oc.2.1

  -- the freeing of a met record, whatever the worker has then
  freeing : (w k i : ℕ) (r : R) (p q : E) (st : Seat T R E) → w < W → c.seats w ≡ holding k → c.cells k ≡ met i r p q → owing M H st ≡ 0 → saved M H st ≡ 0 → SeatHas M st (M.kept r)
      → ((h : ℕ → Holder) (cells : ℕ → Cell T R E) → h (M.kept r) ≡ by_seat w → SeatOk M h s.promise cells w st)
      → View M H N K W out (freed c w st k)
  freeing w k i r p q st lt qs qc zo zs hu okst =
      let o = at_seat w (holding k) qs in
      let oc = at_cell k (met i r p q) qc in
      let h1 = put s.holder (left k) nobody in
      let h2 = put h1 (right k) nobody in
      let h3 = put h2 (M.kept r) (by_seat w) in
      let lu : left k ≡ M.kept r → ⊥ = λ z. let a = s.order.below k k (inl (ap (kept_of M) qc ∙ sym z)) in omega (arith, a) in
      let ru : right k ≡ M.kept r → ⊥ = λ z. let a = s.order.below k k (inr (ap (kept_of M) qc ∙ sym z)) in omega (arith, a) in
      let ow = owing_put w st (holding k) lt qs in
      rebuild w k st (holding k) free h3 (without k c.order) c.tasks c.skipped c.instructions (in_range k (met i r p q) qc tt) qs
      (back_put w k s.holder h2 (back_put w k s.holder h1 (back_put w k s.holder s.holder (back_same w k s.holder) (left k) nobody (λ a. a.0 refl)) (right k) nobody (λ a. a.1 refl)) (M.kept r) (by_seat w) (λ a. a refl))
      (λ y. at_put h2 (M.kept r) (by_seat w) (λ z v. v ≡ by_seat w → SeatHas M st z) y (λ a. hu)
      (λ n1. at_put h1 (right k) nobody (λ z v. v ≡ by_seat w → SeatHas M st z) y (λ a. absurd (seat_nobody w a refl))
      (λ n2. at_put s.holder (left k) nobody (λ z v. v ≡ by_seat w → SeatHas M st z) y (λ a. absurd (seat_nobody w a refl))
      (λ n3 a. absurd (subst (λ v. SeatHas M v y) qs (s.has_seat y w a))))))
      (λ y. at_put h2 (M.kept r) (by_seat w) (λ z v. v ≡ by_record k → ⊥) y (λ a. seat_record w k refl a)
      (λ n1. at_put h1 (right k) nobody (λ z v. v ≡ by_record k → ⊥) y (λ a. record_nobody k a refl)
      (λ n2. at_put s.holder (left k) nobody (λ z v. v ≡ by_record k → ⊥) y (λ a. record_nobody k a refl)
      (λ n3 a. ⊎_elim n1 (λ b2. ⊎_elim n3 n2 b2) (subst (λ v. CellHas M k v y) qc (s.has_record y k a))))))
      tt (λ j ne a. absurd a) (λ j ne a. ne (sym (held_same k j a)))
      (still_put w k s.holder h2 (still_put w k s.holder h1 (still_put w k s.holder s.holder (still_same w k s.holder) (left k) nobody (ours w k (left k) s.holder oc.1.0)) (right k) nobody (ours w k (right k) s.holder oc.2.0)) (M.kept r) (by_seat w) (ours w k (M.kept r) s.holder oc.0.0))
      (λ j ne. subst (NotHand j) (sym o.3) (λ z. ne (sym z)))
      (okst h3 (put c.cells k free) (put_here h2 (M.kept r) (by_seat w)))
      (put_else h2 (M.kept r) (by_seat w) (left k) lu ∙ (put_else h1 (right k) nobody (left k) (λ z. omega (arith, z)) ∙ put_here s.holder (left k) nobody), put_else h2 (M.kept r) (by_seat w) (right k) ru ∙ put_here h1 (right k) nobody)
      (order_free M c.cells c.order s.order k free (λ a. a) refl)
      (λ t2. let b = s.beats_ok t2 in omega (arith, ow, zo, b)) (same_paid w st (holding k) lt qs (omega (arith, zs)))

  free_by : (w k i : ℕ) (r : R) (p q : E) (both : Merged T E) → w < W → c.seats w ≡ holding k → c.cells k ≡ met i r p q → M.merges r p q both → MergedOwes M (s.promise (M.kept r)) both → View M H N K W out (freed c w (merged_seat both) k)
  free_by w k i r p q (Runs u) lt qs qc qm m =
      let km = L.merged r p q (Runs u) qm in
      let pe = ap one_there km.1 in
      freeing w k i r p q (running u false) lt qs qc (omega (arith, pe)) km.2 (sym km.0)
      (λ h cells hu. (ap h km.0 ∙ hu, subst (λ y. M.owes false u (s.promise y)) (sym km.0) m, subst (IsPending M cells w) (sym km.1) tt))
  free_by w k i r p q (Over e) lt qs qc qm m =
      let km = L.merged r p q (Over e) qm in
      freeing w k i r p q (ended e) lt qs qc refl refl (sym km) (λ h cells hu. (ap h km ∙ hu, subst (λ y. M.meets e (s.promise y)) (sym km) m))

  pub on_frees : (w k i : ℕ) (r : R) (p q : E) (both : Merged T E) → w < W → c.seats w ≡ holding k → c.cells k ≡ met i r p q → M.merges r p q both → View M H N K W out (freed c w (merged_seat both) k)
  on_frees w k i r p q both lt qs qc qm =
      let m = merge_at k i r p q qc in
      free_by w k i r p q both lt qs qc qm (m.owes both qm)

  pub never_stuck : (a : Bool) (w : ℕ) (t : T) (d : Bool) → c.seats w ≡ running t d → M.turn a t ≡ Stuck → M.Sticks
  never_stuck a w t d q st = owed_of a d t _ Stuck st (at_seat w (running t d) q).1

  pub on_finishes : (w : ℕ) (e : E) → w < W → c.seats w ≡ ended e → M.end_of e ≡ 0
      → View M H N K W out (over c w e)
  on_finishes w e lt qs qe =
      let o = at_seat w (ended e) qs in
      let h = put s.holder 0 nobody in
      let h0 : s.holder 0 ≡ by_seat w = ap s.holder (sym qe) ∙ o.0 in
      let ow = owing_put w resting (ended e) lt qs in
      let still : (k : ℕ) → Still w k s.holder h = λ k. still_put w k s.holder s.holder (still_same w k s.holder) 0 nobody (mine w k 0 s.holder h0) in
      let back : (y : ℕ) (v : Holder) → h y ≡ v → (v ≡ nobody → ⊥) → s.holder y ≡ v = λ y v. at_put s.holder 0 nobody (λ z q. q ≡ v → (v ≡ nobody → ⊥) → s.holder z ≡ v) y (λ a b2. absurd (b2 (sym a))) (λ ne a b2. a) in
      record {
        has_seat = λ y i a. at_put c.seats w resting (λ z v. s.holder y ≡ by_seat z → h y ≡ by_seat z → SeatHas M v y) i
            (λ b2 a2. let y0 : y ≡ 0 = subst (λ v. SeatHas M v y) qs (s.has_seat y w b2) ∙ qe in seat_nobody w (sym (ap h y0) ∙ a2) (put_here s.holder 0 nobody))
            (λ ne b2 a2. s.has_seat y i b2) (back y (by_seat i) a (λ z. seat_nobody i refl z)) a;
        has_record = λ y j a. s.has_record y j (back y (by_record j) a (λ z. record_nobody j refl z));
        in_hand = λ j. hand_frame w j resting (ended e) qs (λ a. a) (λ a. kind_clash _ _ a (λ z. omega (arith, z))) (c.cells j) (s.in_hand j);
        holder = h;
        promise = s.promise;
        root_is = s.root_is;
        seat_ok = λ i. at_put c.seats w resting (λ y z. SeatOk M h s.promise c.cells y z) i tt (λ ne. seat_moves M s.holder h s.promise w 0 (still 0) (λ y n0 n1 n2 q. sym (put_else s.holder 0 nobody y n0) ∙ q) c.cells c.cells i (c.seats i) ne (λ j z. z) (λ j r p q z. z) (s.seat_ok i));
        cell_ok = λ j. cell_frame M s.holder h s.promise w (suc j) (still (suc j)) (λ y n0 n1 n2 q. sym (put_else s.holder 0 nobody y n0) ∙ q) j (c.cells j) (λ z. omega (arith, z)) (s.cell_ok j);
        root_ok = (subst (λ x. M.meets e x) (ap s.promise qe ∙ s.root_is) o.1, put_here s.holder 0 nobody);
        beyond = s.beyond;
        order = s.order;
        allowed = s.allowed;
        beats_ok = λ t2. let b = s.beats_ok t2 in omega (arith, ow, b);
        saved_ok = same_paid w resting (ended e) lt qs (omega arith);
      }

  module _ (e' : ℕ → M.Promise) (k w : ℕ) (tk : c.cells k ≡ taken w) (st : (x : ℕ) → (x ≡ left k → ⊥) → (x ≡ right k → ⊥) → e' x ≡ s.promise x) where
    by_seat_same : (x i : ℕ) → s.holder x ≡ by_seat i → e' x ≡ s.promise x
    by_seat_same x i q = let ct = at_cell k (taken w) tk in st x (λ z. seat_nobody i q (ap s.holder z ∙ ct.0)) (λ z. seat_nobody i q (ap s.holder z ∙ ct.1))

    by_record_same : (x i : ℕ) → s.holder x ≡ by_record i → e' x ≡ s.promise x
    by_record_same x i q = let ct = at_cell k (taken w) tk in st x (λ z. record_nobody i q (ap s.holder z ∙ ct.0)) (λ z. record_nobody i q (ap s.holder z ∙ ct.1))

    left_same : (j : ℕ) → (j ≡ k → ⊥) → e' (left j) ≡ s.promise (left j)
    left_same j ne = st (left j) (λ q. omega (arith, q, ne)) (λ q. omega (arith, q))

    right_same : (j : ℕ) → (j ≡ k → ⊥) → e' (right j) ≡ s.promise (right j)
    right_same j ne = st (right j) (λ q. omega (arith, q)) (λ q. omega (arith, q, ne))

    merge_same : (j : ℕ) (r : R) → (j ≡ k → ⊥) → e' (M.kept r) ≡ s.promise (M.kept r) → MergeOwes M (s.promise (M.kept r)) r (s.promise (left j)) (s.promise (right j)) → MergeOwes M (e' (M.kept r)) r (e' (left j)) (e' (right j))
    merge_same j r ne qu o =
        subst (λ y. MergeOwes M y r (e' (left j)) (e' (right j))) (sym qu)
        (subst (λ y. MergeOwes M (s.promise (M.kept r)) r y (e' (right j))) (sym (left_same j ne))
        (subst (λ y. MergeOwes M (s.promise (M.kept r)) r (s.promise (left j)) y) (sym (right_same j ne)) o))

    pending_promises : (i : ℕ) (o : Option ℕ) → IsPending M c.cells i o → IsPending M c.cells i o
    pending_promises i None p = p
    pending_promises i (Some j) p = p

    seat_promises : (i : ℕ) (x : Seat T R E) → (i ≡ w → ⊥) → SeatOk M s.holder s.promise c.cells i x → SeatOk M s.holder e' c.cells i x
    seat_promises i resting ne o = o
    seat_promises i (running t d) ne o = (o.0, subst (M.owes d t) (sym (by_seat_same (M.home t) i o.0)) o.1, pending_promises i (M.pending t) o.2)
    seat_promises i (forked j l x r) ne o =
        let nk : j ≡ k → ⊥ = λ z. ne (sym (subst (TakenBy i) (sym o.1 ∙ (ap c.cells z ∙ tk)) refl)) in
        (o.0, o.1, o.2, o.3, subst (M.owes false l) (sym (left_same j nk)) o.4, o.5, o.6, o.7, subst (M.owes false x) (sym (right_same j nk)) o.8, merge_same j r nk (by_seat_same (M.kept r) i o.0) o.9)
    seat_promises i (ended x) ne o = (o.0, subst (λ y. M.meets x y) (sym (by_seat_same (M.end_of x) i o.0)) o.1)
    seat_promises i (holding j) ne o = o

    side_promises : (j x : ℕ) (o : Option E) → SideOk M s.holder s.promise j x o → SideOk M s.holder e' j x o
    side_promises j x None p = p
    side_promises j x (Some y) p = (p.0, subst (λ z. M.meets y z) (sym (by_record_same x j p.0)) p.1)

    child_promises : (j : ℕ) (o : Option T) (q : Option E) → (j ≡ k → ⊥) → ChildOk M s.holder s.promise j o q → ChildOk M s.holder e' j o q
    child_promises j None q ne p = p
    child_promises j (Some x) q ne p = (p.0, p.1, p.2, p.3, p.4, subst (M.owes false x) (sym (right_same j ne)) p.5)

    cell_promises : (j : ℕ) (x : Cell T R E) → (j ≡ k → ⊥) → CellOk M s.holder s.promise j x → CellOk M s.holder e' j x
    cell_promises j free ne o = o
    cell_promises j (taken i) ne o = o
    cell_promises j (opened r ch p q) ne o = ((o.0.0, merge_same j r ne (by_record_same (M.kept r) j o.0.0) o.0.1), child_promises j ch q ne o.1, side_promises j (left j) p o.2, side_promises j (right j) q o.3)
    cell_promises j (met i r p q) ne o = ((o.0.0, merge_same j r ne (by_record_same (M.kept r) j o.0.0) o.0.1), side_promises j (left j) (Some p) o.1, side_promises j (right j) (Some q) o.2)

  root_promises : (h : ℕ → Holder) (e1 e2 : ℕ → M.Promise) (x : Option E) → RootOk M h e1 out x → RootOk M h e2 out x
  root_promises h e1 e2 None r = r
  root_promises h e1 e2 (Some x) r = r

  pub on_forks : (a : Bool) (w : ℕ) (t : T) (d : Bool) (k : ℕ) (l x : T) (r : R) → w < W → c.seats w ≡ running t d → M.turn a t ≡ Forks k l x r
      → View M H N K W out (stepped c w (forked k l x r))
  on_forks a w t d k l x r lt q st =
      let o = at_seat w (running t d) q in
      let g = turn_of a d t _ (Forks k l x r) st o.1 in
      let z = owed_of a d t _ (Forks k l x r) st o.1 in
      let tk : c.cells k ≡ taken w = subst (IsPending M c.cells w) g.0 o.2 in
      let ct = at_cell k (taken w) tk in
      let e1 = put s.promise (left k) z.1.p in
      let e' = put e1 (right k) z.1.q in
      let el : e' (left k) ≡ z.1.p = put_else e1 (right k) z.1.q (left k) (λ a. omega (arith, a)) ∙ put_here s.promise (left k) z.1.p in
      let er : e' (right k) ≡ z.1.q = put_here e1 (right k) z.1.q in
      let same : (y : ℕ) → (y ≡ left k → ⊥) → (y ≡ right k → ⊥) → e' y ≡ s.promise y = λ y n1 n2. put_else e1 (right k) z.1.q y n2 ∙ put_else s.promise (left k) z.1.p y n1 in
      let hu : s.holder (M.kept r) ≡ by_seat w = ap s.holder g.1 ∙ o.0 in
      let eu : e' (M.kept r) ≡ s.promise (M.home t) = by_seat_same e' k w tk same (M.kept r) w hu ∙ ap s.promise g.1 in
      let ow = owing_put w (forked k l x r) (running t d) lt q in
      let pe = ap one_there g.0 in
      let cr = g.6 in
      record {
        has_seat = λ y i. at_put c.seats w (forked k l x r) (λ z v. s.holder y ≡ by_seat z → SeatHas M v y) i (λ a. subst (λ v. SeatHas M v y) q (s.has_seat y w a) ∙ sym g.1) (λ ne a. s.has_seat y i a);
        has_record = s.has_record;
        in_hand = λ j. hand_frame w j (forked k l x r) (running t d) q (λ a. some_same k j (sym g.0 ∙ a)) (λ a. kind_clash _ _ a (λ z2. omega (arith, z2))) (c.cells j) (s.in_hand j);
        holder = s.holder;
        promise = e';
        root_is = same 0 (λ a. omega (arith, a)) (λ a. omega (arith, a)) ∙ s.root_is;
        seat_ok = λ i. at_put c.seats w (forked k l x r) (λ y v. SeatOk M s.holder e' c.cells y v) i (
          hu,
          tk,
          g.2,
          g.4,
          subst (M.owes false l) (sym el) z.1.on_owes,
          g.3,
          g.5,
          g.7,
          subst (M.owes false x) (sym er) z.1.child_owes,
          subst (λ y. MergeOwes M y r (e' (left k)) (e' (right k))) (sym eu)
              (subst (λ y. MergeOwes M (s.promise (M.home t)) r y (e' (right k))) (sym el)
              (subst (λ y. MergeOwes M (s.promise (M.home t)) r z.1.p y) (sym er) z.1.merged)),
        )
            (λ ne. seat_promises e' k w tk same i (c.seats i) ne (s.seat_ok i));
        cell_ok = λ j. ⊎_elim
            (λ (a : j ≡ k). let a2 : c.cells j ≡ taken w = ap c.cells a ∙ tk in subst (CellOk M s.holder e' j) (sym a2) (subst (CellOk M s.holder s.promise j) a2 (s.cell_ok j)))
            (λ (a : j ≡ k → ⊥). cell_promises e' k w tk same j (c.cells j) a (s.cell_ok j))
            (cases_eq j k);
        root_ok = root_promises s.holder s.promise e' c.outcome s.root_ok;
        beyond = s.beyond;
        order = s.order;
        allowed = s.allowed;
        beats_ok = λ t2. let b = s.beats_ok t2 in let dd = ap one_if (z.0 t2) in omega (arith, ow, pe, dd, b);
        saved_ok = step_paid w (forked k l x r) (running t d) lt q (omega (arith, cr));
      }
