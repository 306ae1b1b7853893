-- Soundness as one record, the form in which events are followed.
use Rattle.std.proofs.Common.{◌≡◌, ℕ, ◌+◌, ◌*◌, ◌≤◌, Option, Some, None, refl, sym, ap, subst}
use Rattle.std.specs.Prelude.{false}
use Rattle.schedule_core.specs.Machine.{left, right, CoreMachine, MergeOwes}
use Rattle.schedule_core.specs.Core.{Seat, resting, running, forked, ended, holding, Cell, free}
use Rattle.schedule_core.specs.Core.{taken, opened, met, Config}
use Rattle.schedule_core.specs.Sound.{Holder, nobody, by_seat, by_record, SeatHas, CellHas}
use Rattle.schedule_core.specs.Sound.{SeatEnds, ChildEnd, SideEnd, CellEnds, RootEnd, SeatOwes}
use Rattle.schedule_core.specs.Sound.{ChildOwes, SideIs, CellOwes, IsPending, SeatRecord, SeatTakes}
use Rattle.schedule_core.specs.Sound.{ChildRecord, CellRecord, Order, total, owing, saved}
use Rattle.schedule_core.specs.Sound.{SeatFresh, CellFresh, Paid, Sound}

module _ {T R E : Type 0} (M : CoreMachine T R E) (holder : ℕ → Holder) (promise : ℕ → M.Promise) where
  abbrev pub SeatOk : (ℕ → Cell T R E) → ℕ → Seat T R E → Type 0
  SeatOk cells w resting = Unit {0}
  SeatOk cells w (running t d) = (holder (M.home t) ≡ by_seat w) × M.owes d t (promise (M.home t)) × IsPending M cells w (M.pending t)
  SeatOk cells w (forked k l c r) = (holder (M.kept r) ≡ by_seat w) × (cells k ≡ taken w)
      × (M.home l ≡ left k) × (M.pending l ≡ None) × M.owes false l (promise (left k))
      × (M.home c ≡ right k) × (M.pending c ≡ None) × (M.credit c ≡ 0) × M.owes false c (promise (right k))
      × MergeOwes M (promise (M.kept r)) r (promise (left k)) (promise (right k))
  SeatOk cells w (ended e) = (holder (M.end_of e) ≡ by_seat w) × M.meets e (promise (M.end_of e))
  SeatOk cells w (holding k) = (r : R) × (p : E) × (q : E) × (cells k ≡ met w r p q)

  abbrev pub SideOk : ℕ → ℕ → Option E → Type 0
  SideOk k x None = holder x ≡ nobody → ⊥
  SideOk k x (Some e) = (holder x ≡ by_record k) × M.meets e (promise x)

  abbrev pub ChildOk : ℕ → Option T → Option E → Type 0
  ChildOk k None q = Unit {0}
  ChildOk k (Some c) q = (q ≡ None) × (holder (right k) ≡ by_record k) × (M.home c ≡ right k) × (M.pending c ≡ None) × (M.credit c ≡ 0) × M.owes false c (promise (right k))

  abbrev pub RestOk : ℕ → R → Type 0
  RestOk k r = (holder (M.kept r) ≡ by_record k) × MergeOwes M (promise (M.kept r)) r (promise (left k)) (promise (right k))

  abbrev pub CellOk : ℕ → Cell T R E → Type 0
  CellOk k free = (holder (left k) ≡ nobody) × (holder (right k) ≡ nobody)
  CellOk k (taken w) = (holder (left k) ≡ nobody) × (holder (right k) ≡ nobody)
  CellOk k (opened r ch p q) = RestOk k r × ChildOk k ch q × SideOk k (left k) p × SideOk k (right k) q
  CellOk k (met w r p q) = RestOk k r × SideOk k (left k) (Some p) × SideOk k (right k) (Some q)

  abbrev pub RootOk : M.Promise → Option E → Type 0
  RootOk out None = holder 0 ≡ nobody → ⊥
  RootOk out (Some e) = M.meets e out × (holder 0 ≡ nobody)

module _ {T R E : Type 0} (M : CoreMachine T R E) where
  -- a record that is taken or met is in its worker's hand
  abbrev pub HandOk : (ℕ → Seat T R E) → ℕ → Cell T R E → Type 0
  HandOk seats k free = Unit {0}
  HandOk seats k (taken w) = SeatTakes M (seats w) k
  HandOk seats k (opened r ch p q) = Unit {0}
  HandOk seats k (met w r p q) = seats w ≡ holding k

pub record View {T R E : Type 0} (M : CoreMachine T R E) (H N K W : ℕ) (out : M.Promise) (c : Config T R E) : Type 0 where
  pub holder : ℕ → Holder
  pub promise : ℕ → M.Promise
  pub root_is : promise 0 ≡ out
  pub seat_ok : (w : ℕ) → SeatOk M holder promise c.cells w (c.seats w)
  pub cell_ok : (k : ℕ) → CellOk M holder promise k (c.cells k)
  pub has_seat : (y w : ℕ) → holder y ≡ by_seat w → SeatHas M (c.seats w) y
  pub has_record : (y k : ℕ) → holder y ≡ by_record k → CellHas M k (c.cells k) y
  pub in_hand : (k : ℕ) → HandOk M c.seats k (c.cells k)
  pub root_ok : RootOk M holder promise out c.outcome
  pub beyond : (k : ℕ) → K ≤ k → c.cells k ≡ free
  pub order : Order M c.cells c.order
  pub allowed : (w : ℕ) → c.beats w ≤ N
  pub beats_ok : M.Strict → total W c.beats ≡ c.tasks + c.skipped + total W (λ w. owing M H (c.seats w))
  pub saved_ok : Paid (c.tasks * H + total W (λ w. saved M H (c.seats w))) c.instructions

-- ---- from soundness

module _ {T R E : Type 0} (M : CoreMachine T R E) (h : ℕ → Holder) (e : ℕ → M.Promise) where
  seat_in : (cells : ℕ → Cell T R E) (w : ℕ) (x : Seat T R E) → SeatEnds M h w x → SeatOwes M e x → SeatRecord M cells w x → SeatFresh M x → SeatOk M h e cells w x
  seat_in cells w resting a b c d = tt
  seat_in cells w (running t due) a b c d = (a, b, c)
  seat_in cells w (forked k l x r) a b c d = (a.0, c.0, a.1, c.1, b.0, a.2, c.2, d, b.1, b.2)
  seat_in cells w (ended x) a b c d = (a, b)
  seat_in cells w (holding k) a b c d = (c.rest, c.p, c.q, c.is)

  side_in : (k y : ℕ) (o : Option E) → SideEnd M h k y o → SideIs M e y o → SideOk M h e k y o
  side_in k y None a b = a
  side_in k y (Some x) a b = (a, b)

  child_in : (k : ℕ) (r : R) (o : Option T) (p q : Option E) → ChildEnd M h k o q → ChildOwes M e k o → ChildRecord M o → CellFresh M (opened r o p q) → ChildOk M h e k o q
  child_in k r None p q a b c d = tt
  child_in k r (Some x) p q a b c d = (a.0, a.1, a.2, c, d, b)

  cell_in : (seats : ℕ → Seat T R E) (k : ℕ) (x : Cell T R E) → CellEnds M h k x → CellOwes M e k x → CellRecord M seats k x → CellFresh M x → CellOk M h e k x
  cell_in seats k free a b c d = a
  cell_in seats k (taken w) a b c d = a
  cell_in seats k (opened r ch p q) a b c d = ((a.0, b.0), child_in k r ch p q a.1 b.1 c d, side_in k (left k) p a.2 b.2, side_in k (right k) q a.3 b.3)
  cell_in seats k (met w r p q) a b c d = ((a.0, b.0), (a.1, b.1), (a.2, b.2))

  hand_in : (seats : ℕ → Seat T R E) (k : ℕ) (x : Cell T R E) → CellRecord M seats k x → HandOk M seats k x
  hand_in seats k free c = tt
  hand_in seats k (taken w) c = c
  hand_in seats k (opened r ch p q) c = tt
  hand_in seats k (met w r p q) c = c

  root_in : (out : M.Promise) (o : Option E) → RootEnd M h o → ((x : E) → o ≡ Some x → M.meets x out) → RootOk M h e out o
  root_in out None a b = a
  root_in out (Some x) a b = (b x refl, a)

module _ {T R E : Type 0} (M : CoreMachine T R E) (H N K W : ℕ) (out : M.Promise) (c : Config T R E) where
  pub view_of : Sound M H N K W out c → View M H N K W out c
  view_of s = record {
    holder = s.holder;
    promise = s.promise;
    root_is = s.owed.run;
    seat_ok = λ w. seat_in M s.holder s.promise c.cells w (c.seats w) (s.ends.seats w) (s.owed.seats w) (s.records.seats w) (s.counts.seats w);
    cell_ok = λ k. cell_in M s.holder s.promise c.seats k (c.cells k) (s.ends.records k) (s.owed.records k) (s.records.records k) (s.counts.records k);
    has_seat = s.ends.of_seat;
    has_record = s.ends.of_record;
    in_hand = λ k. hand_in M s.holder s.promise c.seats k (c.cells k) (s.records.records k);
    root_ok = root_in M s.holder s.promise out c.outcome s.ends.run s.owed.outcome;
    beyond = s.records.beyond;
    order = s.order;
    allowed = s.counts.allowed;
    beats_ok = s.counts.beats;
    saved_ok = s.counts.paid;
  }

-- ---- and back

module _ {T R E : Type 0} (M : CoreMachine T R E) (h : ℕ → Holder) (e : ℕ → M.Promise) where
  ends_out : (cells : ℕ → Cell T R E) (w : ℕ) (x : Seat T R E) → SeatOk M h e cells w x → SeatEnds M h w x
  ends_out cells w resting o = tt
  ends_out cells w (running t due) o = o.0
  ends_out cells w (forked k l x r) o = (o.0, o.2, o.5)
  ends_out cells w (ended x) o = o.0
  ends_out cells w (holding k) o = tt

  owes_out : (cells : ℕ → Cell T R E) (w : ℕ) (x : Seat T R E) → SeatOk M h e cells w x → SeatOwes M e x
  owes_out cells w resting o = tt
  owes_out cells w (running t due) o = o.1
  owes_out cells w (forked k l x r) o = (o.4, o.8, o.9)
  owes_out cells w (ended x) o = o.1
  owes_out cells w (holding k) o = tt

  record_out : (cells : ℕ → Cell T R E) (w : ℕ) (x : Seat T R E) → SeatOk M h e cells w x → SeatRecord M cells w x
  record_out cells w resting o = tt
  record_out cells w (running t due) o = o.2
  record_out cells w (forked k l x r) o = (o.1, o.3, o.6)
  record_out cells w (ended x) o = tt
  record_out cells w (holding k) o = record { rest = o.0; p = o.1; q = o.2; is = o.3 }

  fresh_out : (cells : ℕ → Cell T R E) (w : ℕ) (x : Seat T R E) → SeatOk M h e cells w x → SeatFresh M x
  fresh_out cells w resting o = tt
  fresh_out cells w (running t due) o = tt
  fresh_out cells w (forked k l x r) o = o.7
  fresh_out cells w (ended x) o = tt
  fresh_out cells w (holding k) o = tt

  side_end : (k y : ℕ) (o : Option E) → SideOk M h e k y o → SideEnd M h k y o
  side_end k y None s = s
  side_end k y (Some x) s = s.0

  side_is : (k y : ℕ) (o : Option E) → SideOk M h e k y o → SideIs M e y o
  side_is k y None s = tt
  side_is k y (Some x) s = s.1

  child_end : (k : ℕ) (o : Option T) (q : Option E) → ChildOk M h e k o q → ChildEnd M h k o q
  child_end k None q s = tt
  child_end k (Some x) q s = (s.0, s.1, s.2)

  child_owes : (k : ℕ) (o : Option T) (q : Option E) → ChildOk M h e k o q → ChildOwes M e k o
  child_owes k None q s = tt
  child_owes k (Some x) q s = s.5

  cell_ends : (k : ℕ) (x : Cell T R E) → CellOk M h e k x → CellEnds M h k x
  cell_ends k free o = o
  cell_ends k (taken w) o = o
  cell_ends k (opened r ch p q) o = (o.0.0, child_end k ch q o.1, side_end k (left k) p o.2, side_end k (right k) q o.3)
  cell_ends k (met w r p q) o = (o.0.0, o.1.0, o.2.0)

  cell_owes : (k : ℕ) (x : Cell T R E) → CellOk M h e k x → CellOwes M e k x
  cell_owes k free o = tt
  cell_owes k (taken w) o = tt
  cell_owes k (opened r ch p q) o = (o.0.1, child_owes k ch q o.1, side_is k (left k) p o.2, side_is k (right k) q o.3)
  cell_owes k (met w r p q) o = (o.0.1, o.1.1, o.2.1)

  cell_record : (seats : ℕ → Seat T R E) (k : ℕ) (x : Cell T R E) → CellOk M h e k x → HandOk M seats k x → CellRecord M seats k x
  cell_record seats k free o z = tt
  cell_record seats k (taken w) o z = z
  cell_record seats k (opened r None p q) o z = tt
  cell_record seats k (opened r (Some x) p q) o z = o.1.3
  cell_record seats k (met w r p q) o z = z

  cell_fresh : (k : ℕ) (x : Cell T R E) → CellOk M h e k x → CellFresh M x
  cell_fresh k free o = tt
  cell_fresh k (taken w) o = tt
  cell_fresh k (opened r None p q) o = tt
  cell_fresh k (opened r (Some x) p q) o = o.1.4
  cell_fresh k (met w r p q) o = tt

  root_end : (out : M.Promise) (o : Option E) → RootOk M h e out o → RootEnd M h o
  root_end out None r = r
  root_end out (Some x) r = r.1

  root_owed : (out : M.Promise) (o : Option E) → RootOk M h e out o → (x : E) → o ≡ Some x → M.meets x out
  root_owed out None r x q = absurd (subst Is (sym q) tt)
    where
      Is : Option E → Type 0
      Is None = ⊥
      Is (Some y) = Unit {0}
  root_owed out (Some y) r x q = subst (λ u. M.meets u out) (ap (of y) q) r.0
    where
      of : E → Option E → E
      of z None = z
      of z (Some u) = u

module _ {T R E : Type 0} (M : CoreMachine T R E) (H N K W : ℕ) (out : M.Promise) (c : Config T R E) where
  pub sound_of : View M H N K W out c → Sound M H N K W out c
  sound_of v = record {
    holder = v.holder;
    promise = v.promise;
    ends = record {
      seats = λ w. ends_out M v.holder v.promise c.cells w (c.seats w) (v.seat_ok w);
      records = λ k. cell_ends M v.holder v.promise k (c.cells k) (v.cell_ok k);
      of_seat = v.has_seat;
      of_record = v.has_record;
      run = root_end M v.holder v.promise out c.outcome v.root_ok;
    };
    owed = record {
      seats = λ w. owes_out M v.holder v.promise c.cells w (c.seats w) (v.seat_ok w);
      records = λ k. cell_owes M v.holder v.promise k (c.cells k) (v.cell_ok k);
      run = v.root_is;
      outcome = root_owed M v.holder v.promise out c.outcome v.root_ok;
    };
    records = record {
      seats = λ w. record_out M v.holder v.promise c.cells w (c.seats w) (v.seat_ok w);
      records = λ k. cell_record M v.holder v.promise c.seats k (c.cells k) (v.cell_ok k) (v.in_hand k);
      beyond = v.beyond;
    };
    order = v.order;
    counts = record {
      beats = v.beats_ok;
      paid = v.saved_ok;
      allowed = v.allowed;
      seats = λ w. fresh_out M v.holder v.promise c.cells w (c.seats w) (v.seat_ok w);
      records = λ k. cell_fresh M v.holder v.promise k (c.cells k) (v.cell_ok k);
    };
  }
