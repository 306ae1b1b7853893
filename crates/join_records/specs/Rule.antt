-- The rule of a table of join records: a fact over the words, the values in the slots that are
-- home, and the views of all seats, that holds between any two steps. It names who has each end and
-- where each record is. So there is exactly one holder, and one hand, of each. Word 0 is the finish
-- word. Word k + 1 is that of record k, which has the slots 4 * k for the rest, 4 * k + 1 for the
-- child, and the next two for the outcomes of its left and right sides.
use Rattle.std.specs.Prelude.{◌≡◌, ◌≢◌, ℕ, suc, ◌+◌, ◌*◌, ◌<◌, ◌≤◌, List, length, Bool, true, false}
use Rattle.std.specs.Prelude.{cond, eqb, Option, Some, None, slice_index_or}
use mathlib.Core.Option.{some}
use mathlib.Core.Option as maybe
use lib.ListN.{get_elem?}
use Rattle.atomic_table.specs.Table.{State}
use Rattle.tpal_machine.specs.declared.ends.End.{End}
use Rattle.tpal_machine.specs.declared.ends.End.TheVariants.{At}
use Rattle.tpal_machine.specs.declared.ends.SideName.TheVariants.{Left, Right}
use Rattle.join_records.specs.declared.slot.Item.{Item}
use Rattle.join_records.specs.declared.slot.Item.TheVariants.{Rest, Child, Side}
use Rattle.join_records.specs.declared.views.Grip.{Grip}
use Rattle.join_records.specs.declared.views.Grip.TheVariants.{Reserved, Filling, Emptying, Emptied}
use Rattle.join_records.specs.declared.views.CallState.{CallState}
use Rattle.join_records.specs.declared.views.CallState.TheVariants.{Steady, Claiming, Arriving}
use Rattle.join_records.specs.declared.views.View.{View}
use Rattle.join_records.specs.Ends.{left_of, right_of, code_of}
use Rattle.join_records.specs.Words.{bit}
use Rattle.join_records.specs.Views.{total, find, in_hand, saw_finish, spent}

-- what is known of rests R, children C, outcomes D of sides and endings E, as in `Load`
pub record Facts (R C D E : Type 0) : Type 1 where
  pub has_end : C → End → Type 0
  pub keeps : R → End → Type 0
  pub owes : C → E → Type 0
  pub is_ending : D → End → E → Type 0
  pub rest_owes : R → E → E → E → Type 0

-- who has an end: nobody, since it is not live or its child is unclaimed; a seat; or the rest of a
-- record
pub data Holder : Type 0 where
  nobody : Holder
  seat : ℕ → CallState → Holder
  kept : ℕ → Holder

-- whether the right side of an open record was claimed, and whether it has arrived
pub data RightSide : Type 0 where
  unclaimed : RightSide
  claimed : RightSide
  arrived : RightSide

-- where a record is: free; taken, in the hand of a seat; open, with the end that its rest keeps,
-- whether its left side has arrived, and how far its right side is; or met, in the hand of a seat.
-- A record in a hand says whether its slots are out with that seat
pub data Phase : Type 0 where
  free : Phase
  taken : ℕ → Bool → Phase
  opened : End → Bool → RightSide → Phase
  met : ℕ → Bool → End → Phase

-- the first seat has yet to read the finish word; or the finish is to come; or it was made
pub data Era : Type 0 where
  unborn : Era
  running : Era
  finished : Era

abbrev pub stage_number : CallState → ℕ
stage_number Steady = 0
stage_number Claiming = 1
stage_number Arriving = 2

-- 0 where an end is nobody's, 2 in the middle of a claim, 3 in the middle of an arrival, and else 1
abbrev pub kind : Holder → ℕ
kind nobody = 0
kind (seat j m) = suc (stage_number m)
kind (kept k) = 1

-- how seat j has a record in hand
abbrev pub hand_of : ℕ → Phase → Option Grip
hand_of j free = None
hand_of j (taken i out) = cond (eqb i j) (Some (cond out Filling Reserved)) None
hand_of j (opened up l r) = None
hand_of j (met i out up) = cond (eqb i j) (Some (cond out (Emptying up) (Emptied up))) None

-- how seat j holds an end, and the ending that is owed there
abbrev pub held_of : {E : Type 0} → ℕ → Holder → E → Option (E × CallState)
held_of j nobody e = None
held_of j (seat i m) e = cond (eqb i j) (Some (e, m)) None
held_of j (kept k) e = None

-- the claimed bit and that of the right side, in a record's word
abbrev pub marks : RightSide → ℕ
marks unclaimed = 0
marks claimed = 4
marks arrived = 20

-- not both sides of an open record have arrived
abbrev pub NotBoth : RightSide → Bool → Type 0
NotBoth unclaimed l = Unit {0}
NotBoth claimed l = Unit {0}
NotBoth arrived false = Unit {0}
NotBoth arrived true = ⊥

-- each seat knows Root's ending; the first seat begins with the child that owes it
abbrev pub Rooted : {C E : Type 0} → C → E → Era → Option C → Option E → Type 0
Rooted born root unborn b e = (e ≡ None) × (b ≡ Some born)
Rooted born root running b e = e ≡ Some root
Rooted born root finished b e = e ≡ Some root

-- the end of this code is the one that the record's rest keeps
abbrev pub KeepsEnd : ℕ → Phase → Type 0
KeepsEnd c free = ⊥
KeepsEnd c (taken i out) = ⊥
KeepsEnd c (opened up l r) = code_of up ≡ c
KeepsEnd c (met i out up) = ⊥

-- the seat that has the record in hand is one of the n
abbrev pub NamesBelow : ℕ → Phase → Type 0
NamesBelow n free = Unit {0}
NamesBelow n (taken i out) = i < n
NamesBelow n (opened up l r) = Unit {0}
NamesBelow n (met i out up) = i < n

-- what is so of record k, by the words, the slots that are home, and who has which end and what is
-- owed there
module _ {R C D E : Type 0} (F : Facts R C D E) (words : List ℕ)
    (homes : List (maybe.Option (Option (Item R C D)))) (holder : ℕ → Holder) (ending : ℕ → E)
    (k : ℕ) where
  -- a slot is home and empty
  abbrev pub IsEmpty : ℕ → Type 0
  IsEmpty slot = get_elem? homes slot ≡ some (some None)

  -- the rest is home, keeps `up`, and with the endings of both sides owes the ending there
  abbrev pub HasRest : End → Type 0
  HasRest up =
      (r : R)
      × (get_elem? homes (4 * k) ≡ some (some (Some (Rest r))))
      × F.keeps r up
      × F.rest_owes r (ending (left_of k)) (ending (right_of k)) (ending (code_of up))

  -- the child is home, has the right end and owes the ending there
  abbrev pub HasChild : Type 0
  HasChild =
      (c : C)
      × (get_elem? homes (4 * k + 1) ≡ some (some (Some (Child c))))
      × F.has_end c (At k Right)
      × F.owes c (ending (right_of k))

  -- a side's outcome is home, and is the ending of its end
  abbrev pub HasSide : ℕ → End → Type 0
  HasSide slot end =
      (d : D)
      × (get_elem? homes slot ≡ some (some (Some (Side d))))
      × F.is_ending d end (ending (code_of end))

  -- an end is neither held nor kept
  abbrev pub IsDead : ℕ → Type 0
  IsDead c = kind (holder c) ≡ 0

  -- a side that has not arrived: its end is held or kept, and the slot of its outcome is home and
  -- empty, unless its holder is in the middle of its arrival
  abbrev pub Waits : ℕ → ℕ → Type 0
  Waits slot c = (kind (holder c) ≢ 0) × (kind (holder c) ≢ 3 → IsEmpty slot)

  abbrev pub LeftOk : Bool → Type 0
  LeftOk false = Waits (4 * k + 2) (left_of k)
  LeftOk true = IsDead (left_of k) × HasSide (4 * k + 2) (At k Left)

  -- where the child was claimed its slot is home and empty, unless the holder of the right end is
  -- in the middle of its claim
  abbrev pub RightOk : RightSide → Type 0
  RightOk unclaimed = IsDead (right_of k) × HasChild × IsEmpty (4 * k + 3)
  RightOk claimed =
      Waits (4 * k + 3) (right_of k) × (kind (holder (right_of k)) ≢ 2 → IsEmpty (4 * k + 1))
  RightOk arrived = IsDead (right_of k) × IsEmpty (4 * k + 1) × HasSide (4 * k + 3) (At k Right)

  -- the rest keeps the end of another record, or Root
  abbrev pub IsOther : End → Type 0
  IsOther up = (code_of up ≢ left_of k) × (code_of up ≢ right_of k)

  -- the table of the rule, by the phase of the record: its word, its ends, and its slots
  abbrev pub CellOk : Phase → Type 0
  CellOk free =
      (slice_index_or words (k + 1) 0 ≡ 0)
      × (IsDead (left_of k) × IsDead (right_of k))
      × (IsEmpty (4 * k) × IsEmpty (4 * k + 1) × IsEmpty (4 * k + 2) × IsEmpty (4 * k + 3))
  CellOk (taken i out) =
      (slice_index_or words (k + 1) 0 ≡ 1)
      × (IsDead (left_of k) × IsDead (right_of k))
      × ((out ≡ false → IsEmpty (4 * k) × IsEmpty (4 * k + 1))
      × IsEmpty (4 * k + 2)
      × IsEmpty (4 * k + 3))
  CellOk (opened up l r) =
      (slice_index_or words (k + 1) 0 ≡ 3 + 8 * bit l + marks r + 256 * code_of up)
      × (holder (code_of up) ≡ kept k)
      × HasRest up
      × LeftOk l
      × RightOk r
      × IsOther up
      × NotBoth r l
  CellOk (met i out up) =
      (slice_index_or words (k + 1) 0 ≡ 31 + 256 * code_of up)
      × (holder (code_of up) ≡ seat i Steady)
      × (IsDead (left_of k) × IsDead (right_of k))
      × ((out ≡ false → IsEmpty (4 * k) × IsEmpty (4 * k + 2) × IsEmpty (4 * k + 3))
      × IsEmpty (4 * k + 1))

module _ {C E : Type 0} where
  -- the finish word, how many views made the finish, and whether Root is held or kept
  abbrev pub EraOk : List ℕ → List (View C E) → (ℕ → Holder) → Era → Type 0
  EraOk words views holder unborn =
      (slice_index_or words 0 0 ≡ 0)
      × (total (λ v. v.made) views ≡ 0)
      × (kind (holder 0) ≡ 0)
      × (length views ≡ 1)
  EraOk words views holder running =
      (slice_index_or words 0 0 ≡ 0) × (total (λ v. v.made) views ≡ 0) × (kind (holder 0) ≢ 0)
  EraOk words views holder finished =
      (slice_index_or words 0 0 ≡ 1) × (total (λ v. v.made) views ≡ 1) × (kind (holder 0) ≡ 0)

-- what seat j knows is so: the ends that it holds and the records in its hand are just those that
-- name it, a finish that it saw was made, and Root's ending is the one of all. A seat with no part
-- was joined away, and knows nothing
pub record SeatOk {C E : Type 0} (born : C) (words : List ℕ) (era : Era) (root : E)
    (cells : ℕ → Phase) (holder : ℕ → Holder) (ending : ℕ → E) (j : ℕ) (v : View C E) : Type 0 where
  pub ends : (c : ℕ) → find v.ends c ≡ held_of j (holder c) (ending c)
  pub hand : (k : ℕ) → in_hand v.hand k ≡ hand_of j (cells k)
  pub told : saw_finish v.reads ≡ true → slice_index_or words 0 0 ≡ 1
  pub rooted : v.parts ≢ 0 → Rooted born root era v.born v.root
  pub idle : v.parts ≡ 0 → v ≡ spent

-- the rule. `born` is the child whose ending is Root's
pub record Kept {R C D E : Type 0} (F : Facts R C D E) (born : C)
    (s : State (Option (Item R C D)) (View C E)) : Type 0 where
  -- how many records there are
  pub count : ℕ
  pub root : E
  pub era : Era
  pub cells : ℕ → Phase
  -- by the codes of ends
  pub holder : ℕ → Holder
  pub ending : ℕ → E
  pub owed : F.owes born root
  pub wide : length s.words ≡ count + 1
  pub slots : length s.homes ≡ 4 * count
  pub whole : total (λ v. v.parts) s.views ≡ 16
  pub era_ok : EraOk s.words s.views holder era
  pub root_is : ending 0 ≡ root
  pub each_cell : (k : ℕ) → k < count → CellOk F s.words s.homes holder ending k (cells k)
  pub each_seat : (j : ℕ) (v : View C E)
      → get_elem? s.views j ≡ some v
      → SeatOk born s.words era root cells holder ending j v
  -- only the rest of an open record keeps an end, and only that one
  pub keeps_end : (c k : ℕ) → holder c ≡ kept k → (k < count) × KeepsEnd c (cells k)
  pub seated : (c j : ℕ) (m : CallState) → holder c ≡ seat j m → j < length s.views
  pub handed : (k : ℕ) → NamesBelow (length s.views) (cells k)
  -- only Root and the ends of the table's records are held or kept
  pub within : (c : ℕ) → kind (holder c) ≢ 0 → c ≤ 2 * count
