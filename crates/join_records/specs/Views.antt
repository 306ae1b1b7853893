-- What a pass knows, and how it changes.
use Rattle.std.specs.Prelude.{◌≡◌, ◌≢◌, ℕ, ◌+◌, ◌-◌, List, [], ◌∷◌, ◌++◌, Bool, false, cond, eqb}
use Rattle.std.specs.Prelude.{◌&&◌, ◌||◌, Option, Some, None}
use Rattle.tpal_machine.specs.declared.ends.End.{End}
use Rattle.tpal_machine.specs.declared.ends.End.TheVariants.{Root, At}
use Rattle.tpal_machine.specs.declared.ends.SideName.TheVariants.{Left}
use Rattle.join_records.specs.declared.views.Grip.{Grip}
use Rattle.join_records.specs.declared.views.Grip.TheVariants.{Emptying, Emptied}
use Rattle.join_records.specs.declared.views.Holding.{Holding}
use Rattle.join_records.specs.declared.views.CallState.{CallState}
use Rattle.join_records.specs.declared.views.CallState.TheVariants.{Steady}
use Rattle.join_records.specs.declared.views.View.{View}
use Rattle.join_records.specs.Ends.{code_of}

-- a number of each view, added up
abbrev pub total : {V : Type 0} → (V → ℕ) → List V → ℕ
total f [] = 0
total f (v ∷ vs) = f v + total f vs

-- what is owed at the end of this code, and the stage at which it is held, where it is held
abbrev pub find : {E : Type 0} → List (Holding E) → ℕ → Option (E × CallState)
find [] c = None
find (h ∷ hs) c = cond (eqb (code_of h.end) c) (Some (h.ending, h.stage)) (find hs c)

-- how a record is in hand, where it is
abbrev pub in_hand : List (ℕ × Grip) → ℕ → Option Grip
in_hand [] k = None
in_hand (x ∷ xs) k = cond (eqb x.0 k) (Some x.1) (in_hand xs k)

-- a hand without record k
abbrev pub drop_record : ℕ → List (ℕ × Grip) → List (ℕ × Grip)
drop_record k [] = []
drop_record k (x ∷ xs) = cond (eqb x.0 k) (drop_record k xs) (x ∷ drop_record k xs)

-- whether the finish word was read as 1
abbrev pub saw_finish : List (ℕ × ℕ) → Bool
saw_finish [] = false
saw_finish (x ∷ xs) = (eqb x.0 0 && eqb x.1 1) || saw_finish xs

-- one end alone
abbrev pub holds_end : {E : Type 0} → End → E → CallState → List (Holding E)
holds_end c e m = record { end = c; ending = e; stage = m } ∷ []

module _ {C E : Type 0} where
  -- the pass holds this end, and no other, between two calls, and this is owed there
  abbrev pub Holds : View C E → End → E → Type 0
  Holds v end e = v.ends ≡ holds_end end e Steady

  abbrev pub HoldsNothing : View C E → Type 0
  HoldsNothing v = v.ends ≡ []

  abbrev pub HoldsNot : View C E → End → Type 0
  HoldsNot v end = find v.ends (code_of end) ≡ None

  -- record k is in hand as met, and its rest kept the end `up`
  abbrev pub HasMet : View C E → ℕ → End → Type 0
  HasMet v k up = in_hand v.hand k ≡ Some (Emptied up)

  -- no record in hand is met
  abbrev pub NoneMet : View C E → Type 0
  NoneMet v =
      (k : ℕ) (up : End)
      → (in_hand v.hand k ≢ Some (Emptied up)) × (in_hand v.hand k ≢ Some (Emptying up))

  -- the view of the first seat: Root's ending is that of its child
  abbrev pub blank : C → View C E
  blank c =
      record {
        number = 0;
        parts = 16;
        born = Some c;
        root = None;
        ends = [];
        hand = [];
        opens = 0;
        made = 0;
        reads = [];
      }

  -- the view of a seat that was joined away
  abbrev pub spent : View C E
  spent =
      record {
        number = 0;
        parts = 0;
        born = None;
        root = None;
        ends = [];
        hand = [];
        opens = 0;
        made = 0;
        reads = [];
      }

  -- word i was read, and x was found
  abbrev pub read : View C E → ℕ → ℕ → View C E
  read v i x =
      record {
        number = v.number;
        parts = v.parts;
        born = v.born;
        root = v.root;
        ends = v.ends;
        hand
            = v.hand;
        opens = v.opens;
        made = v.made;
        reads = v.reads
            ++ (i, x) ∷ [];
      }

  -- the first seat holds Root, with its ending
  abbrev pub rooted_at : View C E → E → View C E
  rooted_at v e =
      record {
        number = v.number;
        parts = v.parts;
        born = None;
        root = Some e;
        ends = holds_end Root
            e Steady;
        hand = v.hand;
        opens = v.opens;
        made = v.made;
        reads = v.reads;
      }

  abbrev pub with_hand : View C E → List (ℕ × Grip) → View C E
  with_hand v h =
      record {
        number = v.number;
        parts = v.parts;
        born = v.born;
        root = v.root;
        ends = v.ends;
        hand
            = h;
        opens = v.opens;
        made = v.made;
        reads = v.reads;
      }

  abbrev pub with_ends : View C E → List (Holding E) → View C E
  with_ends v es =
      record {
        number = v.number;
        parts = v.parts;
        born = v.born;
        root = v.root;
        ends = es;
        hand =
            v.hand;
        opens = v.opens;
        made = v.made;
        reads = v.reads;
      }

  abbrev pub one_opened : View C E → View C E
  one_opened v =
      record {
        number = v.number;
        parts = v.parts;
        born = v.born;
        root = v.root;
        ends = v.ends;
        hand
            = v.hand;
        opens = v.opens
            + 1;
        made = v.made;
        reads = v.reads;
      }

  abbrev pub one_made : View C E → View C E
  one_made v =
      record {
        number = v.number;
        parts = v.parts;
        born = v.born;
        root = v.root;
        ends = v.ends;
        hand
            = v.hand;
        opens = v.opens;
        made = v.made
            + 1;
        reads = v.reads;
      }

  -- a new seat, with one part of the seat that is split
  abbrev pub fresh : View C E → View C E
  fresh v =
      record {
        number = 17
            - v.parts;
        parts = 1;
        born = None;
        root = v.root;
        ends = [];
        hand = [];
        opens = 0;
        made = 0;
        reads = [];
      }

  -- and what that one has left. The finish word is 0, since it holds Root
  abbrev pub split_left : View C E → View C E
  split_left v =
      record {
        number = v.number;
        parts = v.parts
            - 1;
        born = v.born;
        root = v.root;
        ends = v.ends;
        hand = v.hand;
        opens = v.opens;
        made =
            v.made;
        reads = v.reads
            ++ (0, 0) ∷ [];
      }

  -- two seats as one. What the step itself reads isn't told
  abbrev pub both_of : View C E → View C E → View C E
  both_of v w =
      record {
        number = v.number;
        parts = v.parts
            + w.parts;
        born = v.born;
        root = v.root;
        ends = v.ends
            ++ w.ends;
        hand = v.hand
            ++ w.hand;
        opens = v.opens + w.opens;
        made = v.made + w.made;
        reads = v.reads ++ w.reads;
      }

  -- record k was opened, and `e` is owed at its left end
  abbrev pub opened_view : View C E → ℕ → E → View C E
  opened_view v k e =
      one_opened
      (with_ends (with_hand (read v (k + 1) 1) (drop_record k v.hand))
      (holds_end (At k Left) e Steady))
