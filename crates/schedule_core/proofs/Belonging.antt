-- What an event gives belongs to the code.
use Rattle.std.proofs.Common.{◌≡◌, ℕ, Option, Some, None, subst}
use Rattle.std.specs.Prelude.{Bool, true, false}
use Rattle.tpal_syntax.specs.Conditions.{IsCode}
use Rattle.tpal_syntax.specs.Listing.{Listing}
use Rattle.tpal_machine.specs.declared.ends.Ending.{Ending}
use Rattle.tpal_machine.specs.declared.ends.Ending.TheVariants as ending
use Rattle.tpal_machine.specs.declared.ends.Side.{Side}
use Rattle.tpal_machine.specs.declared.ends.SideName.TheVariants.{Left, Right}
use Rattle.tpal_machine.specs.Belonging.{RunsOn, IsEndingOf, IsStepOf, IsJoinedOf}
use Rattle.tpal_machine.specs.Belongs.{RestBelongsTo}
use Rattle.tpal_machine.specs.Merge as merging
use Rattle.tpal_machine.specs.Merge.{Joined}
use Rattle.tpal_machine.specs.RestState.{RestState}
use Rattle.tpal_machine.specs.State.{State}
use Rattle.tpal_machine.specs.Step as machine
use Rattle.tpal_machine.specs.Step.{Step, step}
use Rattle.tpal_machine.proofs.Belonging.{step_of}
use Rattle.tpal_machine.proofs.Given.{answered_of, joined_of_code}
use Rattle.schedule_core.specs.Machine.{Turn, Goes, Beats, Ends, Asks, Forks, Stuck, Merged}
use Rattle.schedule_core.specs.Core.{put, Seat, resting, running, forked, ended, Cell, free, taken}
use Rattle.schedule_core.specs.Core.{opened, met, Config, Event, Choice, CoreStep, goes, beats}
use Rattle.schedule_core.specs.Core.{ends, asks, forks, opens, claims, arrives_left, arrives_right}
use Rattle.schedule_core.specs.Core.{frees, finishes, left_arrives, right_arrives, merged_seat}
use Rattle.schedule_core.specs.Core.{given}
use Rattle.schedule_core.specs.Apply.{SeatBelongs, CellBelongs, Belongs}
use Rattle.schedule_core.specs.Tasks.{turn_of, merged_of, MergesSides, MergesTo, tasks}
use Rattle.schedule_core.proofs.Puts.{at_put}

module _ (code : Listing) where
  abbrev TurnBelongs : Turn State RestState Ending → Type 0
  TurnBelongs (Goes next) = RunsOn code next
  TurnBelongs (Beats diverted) = RunsOn code diverted
  TurnBelongs (Ends e) = IsEndingOf code e
  TurnBelongs (Asks f) = (o : Option ℕ) → RunsOn code (f o)
  TurnBelongs (Forks k on child rest) = RunsOn code on × RunsOn code child × RestBelongsTo code rest
  TurnBelongs Stuck = Unit {0}

  turn_belongs : (x : Step) → IsStepOf code x → TurnBelongs (turn_of x)
  turn_belongs (machine.Goes after) of = of
  turn_belongs (machine.Beats diverted) of = of
  turn_belongs (machine.Ends e) of = of
  turn_belongs (machine.Asks waits) of = λ o. answered_of code waits o of
  turn_belongs (machine.Forks parts) of = (of.left, of.child, of.rest)
  turn_belongs (machine.Stuck fault) of = tt
  turn_belongs machine.Strays of = tt

  joined_belongs : (both : Joined) → IsJoinedOf code both → SeatBelongs code (merged_seat (merged_of both))
  joined_belongs (merging.Goes task) of = of
  joined_belongs (merging.Ends e) of = of

  module _ (is_code : IsCode code.tables code.blocks) where
    sides_belong : (rest : RestState) (p q : Side) (both : Merged State Ending) (i j : ℕ) → MergesSides code rest p q both → SeatBelongs code (merged_seat both)
    sides_belong rest p q both i j m =
        subst (λ z. SeatBelongs code (merged_seat z)) m.is
        (joined_belongs m.joined (subst (IsJoinedOf code) m.merge.gives (joined_of_code code rest p q is_code m.merge.rest_belongs m.merge.left_belongs m.merge.right_belongs)))

    merge_belongs : (rest : RestState) (p q : Ending) (both : Merged State Ending) → MergesTo code rest p q both → SeatBelongs code (merged_seat both)
    merge_belongs rest (ending.At i Left p) (ending.At j Right q) both m = sides_belong rest p q both i j m
    merge_belongs rest (ending.At i Left p) (ending.At j Left q) both m = absurd m
    merge_belongs rest (ending.At i Right p) (ending.At j side q) both m = absurd m
    merge_belongs rest (ending.At i Right p) (ending.Root outcome) both m = absurd m
    merge_belongs rest (ending.At i Left p) (ending.Root outcome) both m = absurd m
    merge_belongs rest (ending.Root outcome) q both m = absurd m

  left_belongs : (w k : ℕ) (e : Ending) (x : Cell State RestState Ending) → CellBelongs code x → IsEndingOf code e → CellBelongs code (left_arrives w k e x).0 × SeatBelongs code (left_arrives w k e x).1
  left_belongs w k e free b of = (tt, tt)
  left_belongs w k e (taken i) b of = (tt, tt)
  left_belongs w k e (opened r c p None) b of = ((b.0, b.1, of, tt), tt)
  left_belongs w k e (opened r c p (Some q)) b of = ((b.0, of, b.3), tt)
  left_belongs w k e (met i r p q) b of = (b, tt)

  right_belongs : (w k : ℕ) (e : Ending) (x : Cell State RestState Ending) → CellBelongs code x → IsEndingOf code e → CellBelongs code (right_arrives w k e x).0 × SeatBelongs code (right_arrives w k e x).1
  right_belongs w k e free b of = (tt, tt)
  right_belongs w k e (taken i) b of = (tt, tt)
  right_belongs w k e (opened r c None q) b of = ((b.0, b.1, tt, of), tt)
  right_belongs w k e (opened r c (Some p) q) b of = ((b.0, b.2, of), tt)
  right_belongs w k e (met i r p q) b of = (b, tt)

module _ (code : Listing) (is_code : IsCode code.tables code.blocks) (H N K W : ℕ) (choice : Choice State RestState Ending) (c : Config State RestState Ending) (b : Belongs code c) where
  seat_put : (w : ℕ) (x : Seat State RestState Ending) → SeatBelongs code x → (i : ℕ) → SeatBelongs code (put c.seats w x i)
  seat_put w x h i = at_put c.seats w x (λ y z. SeatBelongs code z) i h (λ ne. b.seats i)

  cell_put : (k : ℕ) (x : Cell State RestState Ending) → CellBelongs code x → (i : ℕ) → CellBelongs code (put c.cells k x i)
  cell_put k x h i = at_put c.cells k x (λ y z. CellBelongs code z) i h (λ ne. b.records i)

  at_seat : (w : ℕ) (x : Seat State RestState Ending) → c.seats w ≡ x → SeatBelongs code x
  at_seat w x q = subst (SeatBelongs code) q (b.seats w)

  at_cell : (k : ℕ) (x : Cell State RestState Ending) → c.cells k ≡ x → CellBelongs code x
  at_cell k x q = subst (CellBelongs code) q (b.records k)

  turned : (a : Bool) (w : ℕ) (t : State) (d : Bool) (x : Turn State RestState Ending) → c.seats w ≡ running t d → turn_of (step code H a t) ≡ x → TurnBelongs code x
  turned a w t d x q st = subst (TurnBelongs code) st (turn_belongs code (step code H a t) (step_of code H a t is_code (at_seat w (running t d) q)))

  given_belongs : (w : ℕ) (t : State) (o : Option ℕ) → RunsOn code t → Belongs code (given c w t o)
  given_belongs w t None r = record { seats = seat_put w (running t false) r; records = b.records }
  given_belongs w t (Some k) r = record { seats = seat_put w (running t false) r; records = cell_put k (taken w) tt }

  pub event_belongs : (d : Config State RestState Ending) (v : Event) → CoreStep (tasks code H) choice N K W c v d → Belongs code d
  event_belongs _ _ (goes w t d u lt q st) = record { seats = seat_put w (running u d) (turned _ w t d (Goes u) q st); records = b.records }
  event_belongs _ _ (beats w t d u lt q st) = record { seats = seat_put w (running u true) (turned _ w t d (Beats u) q st); records = b.records }
  event_belongs _ _ (ends w t d e lt q st) = record { seats = seat_put w (ended e) (turned _ w t d (Ends e) q st); records = b.records }
  event_belongs _ _ (asks w t d f o lt q st ch) = given_belongs w (f o) o (turned _ w t d (Asks f) q st o)
  event_belongs _ _ (forks w t d k l x r lt q st) = record { seats = seat_put w (forked k l x r) (turned _ w t d (Forks k l x r) q st); records = b.records }
  event_belongs _ _ (opens w k l x r lt lk q) = let h = at_seat w (forked k l x r) q in
      record { seats = seat_put w (running l false) h.0; records = cell_put k (opened r (Some x) None None) (h.2, h.1, tt, tt) }
  event_belongs _ _ (claims w k r x p q lt a e) = let h = at_cell k (opened r (Some x) p q) e in
      record { seats = seat_put w (running x false) h.1; records = cell_put k (opened r None p q) (h.0, tt, h.2, h.3) }
  event_belongs _ _ (arrives_left w k e lt q st) = let h = left_belongs code w k e (c.cells k) (b.records k) (at_seat w (ended e) q) in
      record { seats = seat_put w (left_arrives w k e (c.cells k)).1 h.1; records = cell_put k (left_arrives w k e (c.cells k)).0 h.0 }
  event_belongs _ _ (arrives_right w k e lt q st) = let h = right_belongs code w k e (c.cells k) (b.records k) (at_seat w (ended e) q) in
      record { seats = seat_put w (right_arrives w k e (c.cells k)).1 h.1; records = cell_put k (right_arrives w k e (c.cells k)).0 h.0 }
  event_belongs _ _ (frees w k i r p q both lt sq cq m) = record { seats = seat_put w (merged_seat both) (merge_belongs code is_code r p q both m); records = cell_put k free tt }
  event_belongs _ _ (finishes w e lt q st) = record { seats = seat_put w resting tt; records = b.records }
