-- Each record has one left and one right arrival between its opening and its freeing.
use Rattle.std.proofs.Common.{◌≡◌, ℕ, ◌*◌, ◌≤◌, List, Option, Some, None, refl, sym, ap, ◌∙◌, subst}
use Rattle.schedule_core.specs.Machine.{left, right, CoreMachine, Lawful}
use Rattle.schedule_core.specs.Core.{put, top, ended, Cell, free, taken, opened, met, Config, Event}
use Rattle.schedule_core.specs.Core.{AnyFree, CoreStep, goes, beats, ends, asks, forks, opens}
use Rattle.schedule_core.specs.Core.{claims, arrives_left, arrives_right, frees, finishes, given}
use Rattle.schedule_core.specs.Core.{left_arrives, right_arrives}
use Rattle.schedule_core.specs.Sound.{Sound, IsOpen}
use Rattle.schedule_core.specs.Run.{CoreRun, here, on, Arrivals, one_left, one_right, counted}
use Rattle.schedule_core.specs.Run.{counted_in}
use Rattle.schedule_core.proofs.Puts.{put_here, put_else, at_put}
use Rattle.schedule_core.proofs.View.{View, view_of}
use Rattle.schedule_core.proofs.Frames.{seat_nobody, seat_record}
use Rattle.schedule_core.proofs.Keeps.{at_cell, at_seat}
use Rattle.schedule_core.proofs.Every.{every_event}

-- the left and right arrivals that an open record shows
abbrev pub shown : {T R E : Type 0} → Cell T R E → ℕ × ℕ
shown free = (0, 0)
shown (taken w) = (0, 0)
shown (opened r ch None None) = (0, 0)
shown (opened r ch (Some p) None) = (1, 0)
shown (opened r ch None (Some q)) = (0, 1)
shown (opened r ch (Some p) (Some q)) = (1, 1)
shown (met w r p q) = (1, 1)

-- what was seen is right at each open record
abbrev pub SeenOk : {T R E : Type 0} → Arrivals → (ℕ → Cell T R E) → Type 0
SeenOk g cells = (k : ℕ) → IsOpen (cells k) → g k ≡ shown (cells k)

module _ {T R E : Type 0} (g : Arrivals) (cells : ℕ → Cell T R E) (ok : SeenOk g cells) where
  at_one : (k : ℕ) (y : ℕ × ℕ) (x : Cell T R E) → (IsOpen x → y ≡ shown x) → SeenOk (put g k y) (put cells k x)
  at_one k y x o j = at_put cells k x (λ i z. IsOpen z → put g k y i ≡ shown z) j
      (λ p. put_here g k y ∙ o p) (λ ne p. put_else g k y j ne ∙ ok j p)

  cell_one : (k : ℕ) (x : Cell T R E) → (IsOpen x → g k ≡ shown x) → SeenOk g (put cells k x)
  cell_one k x o j = at_put cells k x (λ i z. IsOpen z → g i ≡ shown z) j (λ p. o p) (λ ne p. ok j p)

-- the end's side is not there yet
abbrev NoLeft : {T R E : Type 0} → Cell T R E → Type 0
NoLeft free = ⊥
NoLeft (taken w) = ⊥
NoLeft (opened r ch None q) = Unit {0}
NoLeft (opened r ch (Some p) q) = ⊥
NoLeft (met w r p q) = ⊥

abbrev NoRight : {T R E : Type 0} → Cell T R E → Type 0
NoRight free = ⊥
NoRight (taken w) = ⊥
NoRight (opened r ch p None) = Unit {0}
NoRight (opened r ch p (Some q)) = ⊥
NoRight (met w r p q) = ⊥

claim_shown : {T R E : Type 0} (r : R) (ch ch' : Option T) (p q : Option E) → shown {T = T} {R = R} {E = E} (opened r ch p q) ≡ shown {T = T} {R = R} {E = E} (opened r ch' p q)
claim_shown r ch ch' None None = refl
claim_shown r ch ch' (Some p) None = refl
claim_shown r ch ch' None (Some q) = refl
claim_shown r ch ch' (Some p) (Some q) = refl

module _ {T R E : Type 0} (w k : ℕ) (e : E) where
  left_shown : (x : Cell T R E) → NoLeft x → one_left (shown x) ≡ shown (left_arrives w k e x).0
  left_shown free o = absurd o
  left_shown (taken i) o = absurd o
  left_shown (opened r ch None None) o = refl
  left_shown (opened r ch None (Some q)) o = refl
  left_shown (opened r ch (Some p) q) o = absurd o
  left_shown (met i r p q) o = absurd o

  right_shown : (x : Cell T R E) → NoRight x → one_right (shown x) ≡ shown (right_arrives w k e x).0
  right_shown free o = absurd o
  right_shown (taken i) o = absurd o
  right_shown (opened r ch None None) o = refl
  right_shown (opened r ch (Some p) None) o = refl
  right_shown (opened r ch p (Some q)) o = absurd o
  right_shown (met i r p q) o = absurd o

  left_was_open : (x : Cell T R E) → NoLeft x → IsOpen x
  left_was_open free o = o
  left_was_open (taken i) o = o
  left_was_open (opened r ch p q) o = tt
  left_was_open (met i r p q) o = tt

  right_was_open : (x : Cell T R E) → NoRight x → IsOpen x
  right_was_open free o = o
  right_was_open (taken i) o = o
  right_was_open (opened r ch p q) o = tt
  right_was_open (met i r p q) o = tt

module _ {T R E : Type 0} (M : CoreMachine T R E) (H K N W : ℕ) (L : Lawful M H K) (room : W * N ≤ top) (out : M.Promise) where
  module _ (c : Config T R E) (s : View M H N K W out c) (w k : ℕ) (e : E) (qs : c.seats w ≡ ended e) where
    no_left : (x : Cell T R E) → M.end_of e ≡ left k → c.cells k ≡ x → NoLeft x
    no_left free qe qc = seat_nobody w (at_seat M H K N W out L room c s w (ended e) qs).0 (ap s.holder qe ∙ (at_cell M H K N W out L room c s k free qc).0)
    no_left (taken i) qe qc = seat_nobody w (at_seat M H K N W out L room c s w (ended e) qs).0 (ap s.holder qe ∙ (at_cell M H K N W out L room c s k (taken i) qc).0)
    no_left (opened r ch None q) qe qc = tt
    no_left (opened r ch (Some p) q) qe qc = seat_record w k (at_seat M H K N W out L room c s w (ended e) qs).0 (ap s.holder qe ∙ (at_cell M H K N W out L room c s k (opened r ch (Some p) q) qc).2.0)
    no_left (met i r p q) qe qc = seat_record w k (at_seat M H K N W out L room c s w (ended e) qs).0 (ap s.holder qe ∙ (at_cell M H K N W out L room c s k (met i r p q) qc).1.0)

    no_right : (x : Cell T R E) → M.end_of e ≡ right k → c.cells k ≡ x → NoRight x
    no_right free qe qc = seat_nobody w (at_seat M H K N W out L room c s w (ended e) qs).0 (ap s.holder qe ∙ (at_cell M H K N W out L room c s k free qc).1)
    no_right (taken i) qe qc = seat_nobody w (at_seat M H K N W out L room c s w (ended e) qs).0 (ap s.holder qe ∙ (at_cell M H K N W out L room c s k (taken i) qc).1)
    no_right (opened r ch p None) qe qc = tt
    no_right (opened r ch p (Some q)) qe qc = seat_record w k (at_seat M H K N W out L room c s w (ended e) qs).0 (ap s.holder qe ∙ (at_cell M H K N W out L room c s k (opened r ch p (Some q)) qc).3.0)
    no_right (met i r p q) qe qc = seat_record w k (at_seat M H K N W out L room c s w (ended e) qs).0 (ap s.holder qe ∙ (at_cell M H K N W out L room c s k (met i r p q) qc).2.0)

  asked_seen : (c : Config T R E) (w : ℕ) (t : T) (o : Option ℕ) (g : Arrivals) → SeenOk g c.cells → SeenOk g (given c w t o).cells
  asked_seen c w t None g o = o
  asked_seen c w t (Some k) g o = cell_one g c.cells o k (taken w) (λ p. absurd p)

  seen_event : (c d : Config T R E) (v : Event) (st : CoreStep M AnyFree N K W c v d) (g : Arrivals) → View M H N K W out c → SeenOk g c.cells → SeenOk (counted M AnyFree N K W st g) d.cells
  seen_event c _ _ (goes w t d u lt q st) g s o = o
  seen_event c _ _ (beats w t d u lt q st) g s o = o
  seen_event c _ _ (ends w t d e lt q st) g s o = o
  seen_event c _ _ (asks w t d f a lt q st ch) g s o = asked_seen c w (f a) a g o
  seen_event c _ _ (forks w t d k l x r lt q st) g s o = o
  seen_event c _ _ (opens w k l x r lt lk q) g s o = at_one g c.cells o k (0, 0) (opened r (Some x) None None) (λ p. refl)
  seen_event c _ _ (claims w k r x p q lt a b) g s o = cell_one g c.cells o k (opened r None p q) (λ z. o k (subst IsOpen (sym b) tt) ∙ (ap shown b ∙ claim_shown r (Some x) None p q))
  seen_event c _ _ (arrives_left w k e lt a b) g s o =
      let n = no_left c s w k e a (c.cells k) b refl in
      at_one g c.cells o k (one_left (g k)) ((left_arrives w k e (c.cells k)).0) (λ p. ap one_left (o k (left_was_open w k e (c.cells k) n)) ∙ left_shown w k e (c.cells k) n)
  seen_event c _ _ (arrives_right w k e lt a b) g s o =
      let n = no_right c s w k e a (c.cells k) b refl in
      at_one g c.cells o k (one_right (g k)) ((right_arrives w k e (c.cells k)).0) (λ p. ap one_right (o k (right_was_open w k e (c.cells k) n)) ∙ right_shown w k e (c.cells k) n)
  seen_event c _ _ (frees w k i r p q both lt a b m) g s o = cell_one g c.cells o k free (λ z. absurd z)
  seen_event c _ _ (finishes w e lt a b) g s o = o

  seen_run : (c d : Config T R E) (vs : List Event) (r : CoreRun M AnyFree N K W c vs d) (g : Arrivals) → Sound M H N K W out c → SeenOk g c.cells → SeenOk (counted_in M AnyFree N K W r g) d.cells
  seen_run c d vs (here _) g s o = o
  seen_run c d _ (on _ b _ v vs st r) g s o = seen_run b d vs r (counted M AnyFree N K W st g) (every_event M H K N W L room out c b v s st) (seen_event c b v st g (view_of M H N K W out c s) o)

  -- a record that both sides have met has had one left and one right arrival since its opening
  pub one_each : (c d : Config T R E) (vs : List Event) (r : CoreRun M AnyFree N K W c vs d) (g : Arrivals) → Sound M H N K W out c → SeenOk g c.cells → (k i : ℕ) (x : R) (p q : E) → d.cells k ≡ met i x p q → counted_in M AnyFree N K W r g k ≡ (1, 1)
  one_each c d vs r g s o k i x p q e = seen_run c d vs r g s o k (subst IsOpen (sym e) tt) ∙ ap shown e
