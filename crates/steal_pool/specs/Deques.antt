-- The rule of the workers' deques, and what a look into one may tell.
use Rattle.std.specs.Prelude.{ℕ, ◌<◌, List, [], ◌∷◌, All}
use Rattle.atomic_blocks.specs.Lent.{RowsId}
use Rattle.crossbeam_deque.specs.Tasks.{Admits, Pushes, Takes}
use Rattle.std.specs.declared.alloc.Global.{Global}

-- a rule of what is in a deque, front first, where no end of it knows anything
abbrev pub DequeRule : Type 1
DequeRule = List ℕ → List (Unit {0}) → Type 0

-- which deque it is
abbrev pub DequeName : Type 0
DequeName = RowsId × Global

-- the rule lets in only numbers of records, so that only such come out
pub record LetsNumbers (records : ℕ) (holds : DequeRule) : Type 0 where
  pub pushes : (port n : ℕ)
      → n < records
      → Pushes holds port tt (n ∷ []) (λ _. All (λ x. x < records) (n ∷ []))
  pub takes : (port : ℕ) → Takes holds port tt 1 (λ xs _. All (λ x. x < records) xs)

-- and a deque may begin, with any number of ends
pub record LetsBegin (holds : DequeRule) : Type 0 where
  pub empty : holds [] (tt ∷ [])
  pub admits : Admits holds tt

-- each number in a deque is that of a record
abbrev pub AreNumbers : ℕ → DequeRule
AreNumbers records items ends = All (λ x. x < records) items
