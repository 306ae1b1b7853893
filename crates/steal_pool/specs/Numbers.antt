-- Numbers of records may go in and out of a deque that holds only such.
use Rattle.std.specs.Prelude.{ℕ, ◌<◌, All, List, [], ◌∷◌, ◌++◌, length}
use Rattle.std.proofs.Common.{subst}
use lib.Seq.{take-append_seam, drop-append_seam}
use Rattle.std.proofs.lemmas.List.Elements.{All-append, All-cons, All-drop, All-nil, All-take}
use Rattle.steal_pool.specs.Deques.{AreNumbers, LetsNumbers, LetsBegin}

module _ (records : ℕ) where
  abbrev small : ℕ → Type 0
  small x = x < records

  left : (xs ys : List ℕ) → All small (xs ++ ys) → All small xs
  left xs ys h =
      subst (All small) (take-append_seam xs ys) (All-take small (length xs) (xs ++ ys) h)

  right : (xs ys : List ℕ) → All small (xs ++ ys) → All small ys
  right xs ys h =
      subst (All small) (drop-append_seam xs ys) (All-drop small (length xs) (xs ++ ys) h)

  one : (n : ℕ) → n < records → All small (n ∷ [])
  one n near = All-cons small n [] near (All-nil small)

  pub lets_numbers : LetsNumbers records (AreNumbers records)
  lets_numbers = record {
    pushes =
        λ port n near items views h at.
        (tt, All-append small items (n ∷ []) h (one n near), one n near);
    takes = λ port xs items views some few h at. (tt, right xs items h, left xs items h);
  }

  pub lets_begin : LetsBegin (AreNumbers records)
  lets_begin = record {
    empty = All-nil small;
    admits = λ items views h. h;
  }
