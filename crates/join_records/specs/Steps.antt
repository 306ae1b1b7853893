-- What each kind of atomic step tells the seat that steps: its view and its slots before and after,
-- and the word that was found. Each event of a record is one of these steps. Those that only load
-- bring slots to a seat or send them home.
use Rattle.std.specs.Prelude.{◌≡◌, ◌≢◌, ℕ, ◌+◌, ◌*◌, ◌≤◌, [], ◌∷◌, true, Option, Some, None}
use Rattle.atomic_table.specs.Table.{Me, Step, rest}
use Rattle.tpal_machine.specs.declared.ends.End.{End}
use Rattle.tpal_machine.specs.declared.ends.End.TheVariants.{Root, At}
use Rattle.tpal_machine.specs.declared.ends.SideName.{SideName}
use Rattle.tpal_machine.specs.declared.ends.SideName.TheVariants.{Left, Right}
use Rattle.join_records.specs.declared.slot.Item.{Item}
use Rattle.join_records.specs.declared.slot.Item.TheVariants.{Rest, Child, Side}
use Rattle.join_records.specs.declared.views.Grip.TheVariants.{Reserved, Filling, Emptying, Emptied}
use Rattle.join_records.specs.declared.views.CallState.TheVariants.{Steady, Claiming, Arriving}
use Rattle.join_records.specs.declared.views.View.{View}
use Rattle.join_records.specs.Ends.{left_of, right_of, code_of}
use Rattle.join_records.specs.Words.{side_bit, other_bit}
use Rattle.join_records.specs.Views.{find, in_hand, drop_record, saw_finish, holds_end, read}
use Rattle.join_records.specs.Views.{rooted_at, with_hand, with_ends, one_made, opened_view}

module _ {C E S : Type 0} where
  -- a load of any word
  abbrev pub loaded : Step S → Me S (View C E) → ℕ → Me S (View C E) → Type 0
  loaded st m x m' = (m'.0 ≡ read m.0 st.word x) × (m'.1 ≡ m.1)

  -- a load of the finish word by a new seat: it holds Root, with what its child owes
  abbrev pub seat_opened : (C → E → Type 0) → Step S → Me S (View C E) → ℕ → Me S (View C E)
      → Type 0
  seat_opened owes st m x m' =
      (x ≡ 0)
      × (m'.1 ≡ m.1)
      × ((b : C) × (m.0.born ≡ Some b) × ((e : E) × owes b e × (m'.0 ≡ rooted_at (read m.0 0 0) e)))

  -- a load of the finish word: a seat with every part that saw the finish made it
  abbrev pub settled : Step S → Me S (View C E) → ℕ → Me S (View C E) → Type 0
  settled st m x m' =
      loaded st m x m' × (m.0.parts ≡ 16 → saw_finish m.0.reads ≡ true → m.0.made ≡ 1)

  -- a load of the word of a met record in hand
  abbrev pub full_read : Step S → Me S (View C E) → ℕ → Me S (View C E) → Type 0
  full_read st m x m' =
      loaded st m x m'
      × ((k : ℕ) (up : End)
      → st.word ≡ k + 1
      → in_hand m.0.hand k ≡ Some (Emptied up)
      → x ≡ 31 + 256 * code_of up)

  -- a word of 0 is taken, and the record comes into the hand. It is not the one of an end that the
  -- seat holds
  abbrev pub record_taken : Step S → Me S (View C E) → ℕ → Me S (View C E) → Type 0
  record_taken st m x m' = (m'.1 ≡ m.1) × (x ≢ 0 → m'.0 ≡ read m.0 st.word x)
      × ((k : ℕ)
      → st.word ≡ k + 1
      → x ≡ 0
      → (m'.0 ≡ with_hand (read m.0 st.word x) ((k, Reserved) ∷ m.0.hand))
      × (find m.0.ends (left_of k) ≡ None)
      × (find m.0.ends (right_of k) ≡ None))

  -- a met record is free again
  abbrev pub record_freed : Step S → Me S (View C E) → ℕ → Me S (View C E) → Type 0
  record_freed st m x m' =
      (k : ℕ)
      → st.word ≡ k + 1
      → (m'.0 ≡ with_hand (read m.0 (k + 1) st.first) (drop_record k m.0.hand)) × (m'.1 ≡ m.1)

  -- the finish word becomes 1. What was owed at Root is Root's ending, and the seat had made no
  -- finish
  abbrev pub finish_made : Me S (View C E) → Me S (View C E) → Type 0
  finish_made m m' =
      (m'.0 ≡ one_made (with_ends m.0 []))
      × (m'.1 ≡ m.1)
      × (m.0.made ≡ 0)
      × ((e : E) → m.0.ends ≡ holds_end Root e Steady → m.0.root ≡ Some e)

-- the slot of a side's outcome, and that of the other's
abbrev pub slot_of : ℕ → SideName → ℕ
slot_of k Left = 4 * k + 2
slot_of k Right = 4 * k + 3

abbrev pub other_slot : ℕ → SideName → ℕ
other_slot k Left = 4 * k + 3
other_slot k Right = 4 * k + 2

abbrev pub other_side : SideName → SideName
other_side Left = Right
other_side Right = Left

-- what a rest owes for this side's ending and the other's
abbrev pub owes_by : {R E : Type 0} → (R → E → E → E → Type 0) → SideName → R → E → E → E → Type 0
owes_by f Left r e q u = f r e q u
owes_by f Right r e q u = f r q e u

module _ {R C D E : Type 0} where
  -- the slots of a taken record's rest and child come to the seat
  abbrev pub places_taken : Step (Option (Item R C D))
      → Me (Option (Item R C D)) (View C E)
      → ℕ
      → Me (Option (Item R C D)) (View C E)
      → Type 0
  places_taken st m x m' =
      (k : ℕ)
      → st.word ≡ k + 1
      → (m'.0 ≡ with_hand (read m.0 (k + 1) x) ((k, Filling) ∷ drop_record k m.0.hand))
      × (m'.1 ≡ (4 * k, None) ∷ (4 * k + 1, None) ∷ m.1)

  -- the record is open, and the seat holds its left end with the ending that the call picked
  abbrev pub record_opened : Option E
      → Step (Option (Item R C D))
      → Me (Option (Item R C D)) (View C E)
      → ℕ
      → Me (Option (Item R C D)) (View C E)
      → Type 0
  record_opened o st m x m' =
      (k : ℕ) (e : E) → st.word ≡ k + 1 → o ≡ Some e → (m'.0 ≡ opened_view m.0 k e) × (m'.1 ≡ [])

  -- the child is claimed: its slot comes to the seat, which holds the right end with what the child
  -- owes
  abbrev pub record_claimed : (C → End → Type 0)
      → (C → E → Type 0)
      → Step (Option (Item R C D))
      → Me (Option (Item R C D)) (View C E)
      → ℕ
      → Me (Option (Item R C D)) (View C E)
      → Type 0
  record_claimed has_end owes st m x m' =
      (x ≢ st.first → (m'.0 ≡ read m.0 st.word x) × (m'.1 ≡ m.1))
      × ((k : ℕ)
      → st.word ≡ k + 1
      → x ≡ st.first
      → (c : C)
      × (e : E)
      × has_end c (At k Right)
      × owes c e
      × (m'.0 ≡ with_ends (read m.0 (k + 1) x) (holds_end (At k Right) e Claiming))
      × (m'.1 ≡ (4 * k + 1, Some (Child c)) ∷ m.1))

  -- the child's slot goes home, and the claim is over
  abbrev pub child_given : Step (Option (Item R C D))
      → Me (Option (Item R C D)) (View C E)
      → ℕ
      → Me (Option (Item R C D)) (View C E)
      → Type 0
  child_given st m x m' =
      (m'.1 ≡ rest m.1)
      × ((k : ℕ) (e : E)
      → st.word ≡ k + 1
      → m.0.ends ≡ holds_end (At k Right) e Claiming
      → m'.0 ≡ with_ends (read m.0 (k + 1) x) (holds_end (At k Right) e Steady))

  -- the slot of the side's outcome comes to the seat
  abbrev pub side_taken : SideName
      → Step (Option (Item R C D))
      → Me (Option (Item R C D)) (View C E)
      → ℕ
      → Me (Option (Item R C D)) (View C E)
      → Type 0
  side_taken side st m x m' =
      (k : ℕ) (e : E)
      → st.word ≡ k + 1
      → m.0.ends ≡ holds_end (At k side) e Steady
      → (m'.0 ≡ with_ends (read m.0 (k + 1) x) (holds_end (At k side) e Arriving))
      × (m'.1 ≡ (slot_of k side, None) ∷ m.1)

  -- of record k and the ending e, at a table with so many slots: the first side sends its outcome's
  -- slot home, and the second gets the rest and the other's outcome, and holds the end that the
  -- rest keeps, which is Root or an end of one of the table's records. Root is held with Root's
  -- ending
  abbrev pub arrived_at : (R → End → Type 0)
      → (R → E → E → E → Type 0)
      → (D → End → E → Type 0)
      → SideName
      → ℕ
      → Me (Option (Item R C D)) (View C E)
      → ℕ
      → Me (Option (Item R C D)) (View C E)
      → ℕ
      → E
      → Type 0
  arrived_at keeps rest_owes is_ending side slots m x m' k e =
      (other_bit x side ≡ 0 → (m'.0 ≡ with_ends (read m.0 (k + 1) x) []) × (m'.1 ≡ rest m.1))
      × (other_bit x side ≢ 0
      → (r : R)
      × (o : D)
      × (q : E)
      × (u : E)
      × (up : End)
      × (x + side_bit side ≡ 31 + 256 * code_of up)
      × keeps r up
      × owes_by rest_owes side r e q u
      × is_ending o (At k (other_side side)) q
      × (2 * code_of up ≤ slots)
      × (up ≡ Root → m.0.root ≡ Some u)
      × (m'.0
      ≡ with_hand (with_ends (read m.0 (k + 1) x) (holds_end up u Steady))
      ((k, Emptying up) ∷ drop_record k m.0.hand))
      × (m'.1 ≡ (4 * k, Some (Rest r)) ∷ (other_slot k side, Some (Side o)) ∷ m.1))

  abbrev pub side_arrived : (R → End → Type 0)
      → (R → E → E → E → Type 0)
      → (D → End → E → Type 0)
      → SideName
      → Step (Option (Item R C D))
      → Me (Option (Item R C D)) (View C E)
      → ℕ
      → Me (Option (Item R C D)) (View C E)
      → Type 0
  side_arrived keeps rest_owes is_ending side st m x m' =
      (k : ℕ) (e : E)
      → st.word ≡ k + 1
      → m.0.ends ≡ holds_end (At k side) e Arriving
      → arrived_at keeps rest_owes is_ending side st.slots m x m' k e

  -- the three slots of a met record go home
  abbrev pub slots_given : Step (Option (Item R C D))
      → Me (Option (Item R C D)) (View C E)
      → ℕ
      → Me (Option (Item R C D)) (View C E)
      → Type 0
  slots_given st m x m' =
      (k : ℕ) (up : End)
      → st.word ≡ k + 1
      → in_hand m.0.hand k ≡ Some (Emptying up)
      → (m'.0 ≡ with_hand (read m.0 (k + 1) x) ((k, Emptied up) ∷ drop_record k m.0.hand))
      × (m'.1 ≡ rest (rest (rest m.1)))
