-- What is said of what a look for a number came to.
use Rattle.std.specs.Prelude.{◌≡◌, ◌⊎◌, ℕ, ◌<◌, true, List, All, length}
use Rattle.std.specs.Prelude.{slice_index_or}
use Rattle.crossbeam_deque.specs.Handles.{stealer_deque, taken}
use Rattle.crossbeam_deque.specs.Tasks.{Finds}
use Rattle.steal_pool.specs.declared.load.RunTerms.{Ghosts}
use Rattle.steal_pool.specs.declared.other.Other.{Other}
use Rattle.steal_pool.specs.declared.source.Found.{Found}
use Rattle.steal_pool.specs.declared.source.Found.TheVariants.{Number, Lost, Nothing}
use Rattle.steal_pool.specs.Deques.{DequeName, DequeRule}

-- what was found is the number of a record
abbrev pub IsNumber : ℕ → Found → Type 0
IsNumber records (Number k) = k < records
IsNumber records Lost = Unit {0}
IsNumber records Nothing = Unit {0}

abbrev pub WhereNothing : Found → Type 0 → Type 0
WhereNothing (Number k) P = Unit {0}
WhereNothing Lost P = Unit {0}
WhereNothing Nothing P = P

abbrev pub WhereLost : Found → Type 0 → Type 0
WhereLost (Number k) P = Unit {0}
WhereLost Lost P = P
WhereLost Nothing P = Unit {0}

module _ {S : Type 0} {G : Ghosts S} where
  -- so much may be said at a moment when one of these deques is empty
  abbrev pub FindsAll : DequeRule → (DequeName → Type 0) → List (Other S G) → Type 0
  FindsAll holds empty others =
      All (λ o. Finds holds o.pass.id tt (empty (stealer_deque o.thief))) others

  -- a steal answered that it lost to another taker: others have taken more from that deque than
  -- this end knew of, or it was found empty
  pub record HasLost (empty : DequeName → Type 0) (before after : List (Other S G)) : Type 0 where
    pub place : ℕ
    pub near : place < length before
    pub old : Other S G
    pub new : Other S G
    pub was : (d : Other S G) → slice_index_or before place d ≡ old
    pub is : (d : Other S G) → slice_index_or after place d ≡ new
    pub answered : new.is_lost ≡ true
    pub taken : (taken old.pass < taken new.pass) ⊎ empty (stealer_deque old.thief)
