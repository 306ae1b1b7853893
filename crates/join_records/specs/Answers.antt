-- What the calls ask and answer.
use Rattle.std.specs.Prelude.{◌≡◌, ◌≢◌, ◌⊎◌, ℕ, ◌+◌, ◌<◌, ◌≤◌, ◌%◌, List, [], ◌∷◌, ◌++◌, Some}
use Rattle.std.specs.Prelude.{Contains}
use Rattle.tpal_machine.specs.declared.ends.End.{End}
use Rattle.tpal_machine.specs.declared.ends.End.TheVariants.{Root, At}
use Rattle.tpal_machine.specs.declared.ends.SideName.{SideName}
use Rattle.tpal_machine.specs.declared.ends.SideName.TheVariants.{Left, Right}
use Rattle.join_records.specs.declared.table.Arrival.{Arrival}
use Rattle.join_records.specs.declared.table.Arrival.TheVariants.{First, Second}
use Rattle.join_records.specs.declared.views.Grip.TheVariants.{Reserved, Filling, Emptied}
use Rattle.join_records.specs.declared.views.CallState.TheVariants.{Steady}
use Rattle.join_records.specs.declared.views.View.{View}
use Rattle.join_records.specs.Ends.{IsEndOf}
use Rattle.join_records.specs.Words.{other_bit}
use Rattle.join_records.specs.Views.{holds_end, Holds, HoldsNot, read, with_hand, with_ends}
use Rattle.join_records.specs.Views.{drop_record}
use Rattle.join_records.specs.Steps.{other_side, owes_by}
use Rattle.join_records.specs.Passes.{met_number}

-- each record from the first number to below the second was read as not free, at a step of its own
abbrev pub ReadsNoneFree : ℕ → ℕ → List (ℕ × ℕ) → Type 0
ReadsNoneFree from to rs = (k : ℕ) → from ≤ k → k < to → (x : ℕ) × (x ≢ 0) × Contains rs (k + 1, x)

module _ {C E : Type 0} where
  -- more reads, and nothing else
  abbrev pub reads_more : View C E → List (ℕ × ℕ) → View C E
  reads_more v rs =
      record {
        number = v.number;
        parts = v.parts;
        born = v.born;
        root = v.root;
        ends = v.ends;
        hand
            = v.hand;
        opens = v.opens;
        made = v.made;
        reads = v.reads
            ++ rs;
      }

  -- the view has more reads, which tell that none of these records was free
  abbrev pub NoneFree : ℕ → ℕ → View C E → View C E → Type 0
  NoneFree from to v w = (rs : List (ℕ × ℕ)) × (w ≡ reads_more v rs) × ReadsNoneFree from to rs

  -- record k is in hand, once its word was read as free
  abbrev pub reserved_view : View C E → ℕ → View C E
  reserved_view v k = with_hand (read v (k + 1) 0) ((k, Reserved) ∷ v.hand)

  -- after some reads record k was taken
  abbrev pub FoundFree : View C E → ℕ → View C E → Type 0
  FoundFree v k w = (rs : List (ℕ × ℕ)) × (w ≡ reserved_view (reads_more v rs) k)

  -- the pass holds neither end of record k
  abbrev pub HoldsNoSide : View C E → ℕ → Type 0
  HoldsNoSide v k = HoldsNot v (At k Left) × HoldsNot v (At k Right)

-- for what `left` and `child` owe, the rest owes what the pass holds for `up`
abbrev pub Merges : {R C E : Type 0} → (C → E → Type 0) → (R → E → E → E → Type 0) → View C E → End
    → R → C → C → Type 0
Merges {E = E} owes rest_owes v up rest left child =
    (a : E) × (b : E) × (e : E) × owes left a × owes child b × rest_owes rest a b e × Holds v up e

-- the same, where the left child owes the ending a
abbrev pub MergesAt : {R C E : Type 0} → (C → E → Type 0) → (R → E → E → E → Type 0) → View C E
    → End → R → E → C → Type 0
MergesAt {E = E} owes rest_owes v up rest a child =
    (b : E) × (e : E) × owes child b × rest_owes rest a b e × Holds v up e

module _ {C E : Type 0} where
  -- the slots of record k came to the pass, and x was read
  abbrev pub filling_view : View C E → ℕ → ℕ → View C E
  filling_view v k x = with_hand (read v (k + 1) x) ((k, Filling) ∷ drop_record k v.hand)

  -- the word of record k was read as `found`, the child claimed, and the word read again
  abbrev pub claimed_view : View C E → ℕ → ℕ → ℕ → E → View C E
  claimed_view v k found again e =
      with_ends (read (read v (k + 1) found) (k + 1) again) (holds_end (At k Right) e Steady)

  -- the pass holds the right end of record k, with what the child owes
  abbrev pub Claims : (C → E → Type 0) → View C E → ℕ → C → View C E → Type 0
  Claims owes v k child w =
      (e : E) × (found : ℕ) × (again : ℕ) × owes child e × (w ≡ claimed_view v k found again e)

  -- the word of record k was read once or twice
  abbrev pub ReadFew : View C E → ℕ → View C E → Type 0
  ReadFew v k u =
      ((x : ℕ) × (u ≡ read v (k + 1) x))
      ⊎ ((x : ℕ) × (y : ℕ) × (u ≡ read (read v (k + 1) x) (k + 1) y))

  -- the child was claimed after one or two reads
  abbrev pub ClaimsSoon : (C → E → Type 0) → View C E → ℕ → C → View C E → Type 0
  ClaimsSoon owes v k child w = (u : View C E) × ReadFew v k u × Claims owes u k child w

  -- the word of record k was read as not open or as claimed, or three times, each time with another
  -- value
  abbrev pub Unclaimable : View C E → ℕ → View C E → Type 0
  Unclaimable v k w = ((x : ℕ) × (x % 8 ≢ 3) × (w ≡ read v (k + 1) x))
      ⊎ (((x : ℕ) × (y : ℕ) × (y % 8 ≢ 3) × (w ≡ read (read v (k + 1) x) (k + 1) y))
      ⊎ ((x : ℕ)
      × (y : ℕ)
      × (z : ℕ)
      × (y ≢ x)
      × (z ≢ y)
      × (w ≡ read (read (read v (k + 1) x) (k + 1) y) (k + 1) z)))

  -- the first side's pass holds nothing, after two steps on the record's word
  abbrev pub left_alone : View C E → ℕ → ℕ → ℕ → View C E
  left_alone v k x y = with_ends (read (read v (k + 1) x) (k + 1) y) []

  -- the second side's pass holds the end that the rest keeps, and has the record in hand as met,
  -- after three steps
  abbrev pub met_view : View C E → ℕ → ℕ → ℕ → ℕ → End → E → View C E
  met_view v k x y z up u =
      with_hand
      (with_ends (read (read (read v (k + 1) x) (k + 1) y) (k + 1) z) (holds_end up u Steady))
      ((k, Emptied up) ∷ drop_record k v.hand)

-- this side's of two things
abbrev pub own : {A : Type 0} → SideName → A → A → A
own Left left right = left
own Right left right = right

abbrev pub other : {A : Type 0} → SideName → A → A → A
other Left left right = right
other Right left right = left

-- what an arrival answers, where `e` is owed at this side's end: `First` where the word that its
-- fetch-or read lacks the other side's bit. Else the rest and both outcomes of this opening, and
-- the pass holds the end that the rest keeps with what it owes for both. That end is Root or one of
-- the `count` records, and Root is held with Root's ending
module _ {L R C D E : Type 0} where
  abbrev pub Arrives : ℕ → (R → End → Type 0) → (R → E → E → E → Type 0) → (D → End → E → Type 0)
      → SideName → D → View C E → ℕ → E → Arrival L R C D E → View C E → Type 0
  Arrives count keeps rest_owes is_ending side out v k e First w =
      (x : ℕ) × (y : ℕ) × (other_bit y side ≡ 0) × (w ≡ left_alone v k x y)
  Arrives count keeps rest_owes is_ending side out v k e (Second rest left right met) w =
      (x : ℕ)
      × (y : ℕ)
      × (z : ℕ)
      × (q : E)
      × (u : E)
      × (up : End)
      × (other_bit y side ≢ 0)
      × keeps rest up
      × owes_by rest_owes side rest e q u
      × is_ending (other side left right) (At k (other_side side)) q
      × (own side left right ≡ out)
      × (met_number met ≡ k)
      × IsEndOf count up
      × (up ≡ Root → v.root ≡ Some u)
      × (w ≡ met_view v k x y z up u)
