-- Whose deques a worker can steal from.
use Rattle.std.specs.Prelude.{◌≡◌, ◌≢◌, ℕ, List, length, slice_index_or}
use mathlib.Core.Option.{some}
use lib.ListN.{get_elem?}
use Rattle.crossbeam_deque.specs.Handles.{stealer_deque, worker_deque}
use Rattle.steal_pool.specs.declared.load.RunTerms.{Ghosts}
use Rattle.steal_pool.specs.declared.other.Other.{Other}
use Rattle.steal_pool.specs.declared.source.Source.{Source}
use Rattle.steal_pool.specs.Deques.{DequeName}

module _ {S : Type 0} {G : Ghosts S} where
  -- one of these ends is one of this deque
  abbrev pub Reaches : List (Other S G) → DequeName → Type 0
  Reaches others deque =
      (k : ℕ) × (o : Other S G) × (get_elem? others k ≡ some o) × (stealer_deque o.thief ≡ deque)

  -- these ends are of the deques of all sources but the one of this number
  abbrev pub ReachesAllBut : ℕ → List (Source S G) → List (Other S G) → Type 0
  ReachesAllBut number sources others =
      (k : ℕ) (s : Source S G)
      → k ≢ number
      → get_elem? sources k ≡ some s
      → Reaches others (worker_deque s.owner)

  -- each source has an end of each other one's deque
  abbrev pub AreTied : List (Source S G) → Type 0
  AreTied sources =
      (k : ℕ) (s : Source S G)
      → get_elem? sources k ≡ some s
      → ReachesAllBut k sources s.others.items

  -- the deque is the same, and so are those of the others, in their order
  abbrev pub SameDeques : Source S G → Source S G → Type 0
  SameDeques old new =
      (worker_deque new.owner ≡ worker_deque old.owner)
      × (length new.others.items ≡ length old.others.items)
      × ((k : ℕ) (d : Other S G)
      → stealer_deque (slice_index_or new.others.items k d).thief
      ≡ stealer_deque (slice_index_or old.others.items k d).thief)

module _ {S A : Type 0} {G : Ghosts S} where
  -- each worker has an end of each other one's deque; `source` tells a worker's source
  abbrev pub AreTiedWorkers : (A → Source S G) → List A → Type 0
  AreTiedWorkers source workers =
      (j k : ℕ) (v w : A)
      → j ≢ k
      → get_elem? workers j ≡ some v
      → get_elem? workers k ≡ some w
      → Reaches (source v).others.items (worker_deque (source w).owner)
