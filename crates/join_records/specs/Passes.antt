-- The passes of a table.
use Rattle.std.specs.Prelude.{◌≡◌, ◌≢◌, ℕ, zero, suc, ◌+◌, List, [], ◌∷◌, length, Some, None}
use mathlib.Core.Option.{some}
use lib.ListN.{get_elem?}
use Rattle.tpal_machine.specs.declared.ends.End.TheVariants.{Root}
use Rattle.join_records.specs.declared.views.CallState.TheVariants.{Steady}
use Rattle.join_records.specs.declared.views.View.{View}
use Rattle.join_records.specs.declared.table.Pass.{Pass}
use Rattle.join_records.specs.declared.table.Records.{Records}
use Rattle.join_records.specs.declared.table.Taken.{Taken}
use Rattle.join_records.specs.declared.table.Met.{Met}
use Rattle.join_records.specs.declared.load.Load.{Ghosts}
use Rattle.join_records.specs.Words.{bit}
use Rattle.join_records.specs.Views.{total, saw_finish, holds_end, Holds, HoldsNothing}

-- the numbers of a record that was taken and of one that was met
abbrev pub taken_number : Taken → ℕ
taken_number taken = taken.number

abbrev pub met_number : Met → ℕ
met_number met = met.number

-- the number of records of a table
abbrev pub record_count : {L R C D E : Type 0} → Records L R C D E → ℕ
record_count t = t.count

module _ {L R C D E : Type 0} {G : Ghosts L R C D E} where
  -- what a pass knows
  abbrev pub view : Pass L R C D E G → View C E
  view p = p.seat.me.0

  -- a pass of the table that was not given up, between two calls: no slot is out with it
  abbrev pub IsPassOf : Records L R C D E → Pass L R C D E G → Type 0
  IsPassOf t p =
      (p.seat.table_id ≡ t.table.shared.table_id) × (p.seat.me.1 ≡ []) × (p.seat.me.0.parts ≢ 0)

  -- a pass of the table, maybe with slots
  abbrev pub IsSeatOf : Records L R C D E → Pass L R C D E G → Type 0
  IsSeatOf t p = (p.seat.table_id ≡ t.table.shared.table_id) × (p.seat.me.0.parts ≢ 0)

  -- a call left a pass the pass that it was
  abbrev pub IsSamePass : Pass L R C D E G → Pass L R C D E G → Type 0
  IsSamePass old new =
      (new.seat.table_id ≡ old.seat.table_id)
      × (new.seat.id ≡ old.seat.id)
      × (new.seat.me.1 ≡ old.seat.me.1)

  -- the same, of a pass to which slots may have come
  abbrev pub IsSameSeat : Pass L R C D E G → Pass L R C D E G → Type 0
  IsSameSeat old new = (new.seat.table_id ≡ old.seat.table_id) × (new.seat.id ≡ old.seat.id)

  abbrev pub ArePassesOf : Records L R C D E → List (Pass L R C D E G) → Type 0
  ArePassesOf t ps = (k : ℕ) (p : Pass L R C D E G) → get_elem? ps k ≡ some p → IsPassOf t p

  abbrev pub parts_in : List (Pass L R C D E G) → ℕ
  parts_in ps = total (λ p. p.seat.me.0.parts) ps

  abbrev pub opens_in : List (Pass L R C D E G) → ℕ
  opens_in ps = total (λ p. p.seat.me.0.opens) ps

  -- how many made the finish, and how many read that it was made
  abbrev pub made_in : List (Pass L R C D E G) → ℕ
  made_in ps = total (λ p. p.seat.me.0.made) ps

  abbrev pub saw_in : List (Pass L R C D E G) → ℕ
  saw_in ps = total (λ p. bit (saw_finish p.seat.me.0.reads)) ps

module _ {C E : Type 0} where
  -- the view of the first pass before any other was made with it
  abbrev pub root_view : E → View C E
  root_view e =
      record {
        number = 0;
        parts = 16;
        born = None;
        root = Some e;
        ends = holds_end Root e Steady;
        hand = [];
        opens = 0;
        made = 0;
        reads = (0, 0)
            ∷ [];
      }

  -- the view of a pass that is new, but for its parts, its ends and its reads
  abbrev pub IsNew : E → ℕ → View C E → Type 0
  IsNew e k v = (v.number ≡ k) × (v.root ≡ Some e) × (v.hand ≡ []) × (v.opens ≡ 0) × (v.made ≡ 0)

  -- the first pass, once there are n passes: it holds Root, and has what the others left of the 16
  -- parts
  abbrev pub RootView : E → ℕ → View C E → Type 0
  RootView e n v = (v.parts + n ≡ 17) × Holds v Root e × IsNew e 0 v

  -- another pass
  abbrev pub IdleView : E → ℕ → View C E → Type 0
  IdleView e k v = (v.parts ≡ 1) × HoldsNothing v × (v.reads ≡ []) × IsNew e k v

  abbrev pub NewView : E → ℕ → ℕ → View C E → Type 0
  NewView e n zero v = RootView e n v
  NewView e n (suc k) v = IdleView e (suc k) v

module _ {L R C D E : Type 0} {G : Ghosts L R C D E} where
  -- the passes of a new table: they are n, and Root's ending is the one that `first` owes
  abbrev pub AreNew : (C → E → Type 0) → C → ℕ → Records L R C D E → List (Pass L R C D E G)
      → Type 0
  AreNew owes first n t ps =
      (e : E)
      × owes first e
      × (length ps ≡ n)
      × ((k : ℕ) (p : Pass L R C D E G)
      → get_elem? ps k ≡ some p
      → IsPassOf t p × NewView e n k (view p))
