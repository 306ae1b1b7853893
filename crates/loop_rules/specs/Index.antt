-- What a table of first places keeps.
use Rattle.std.specs.Prelude.{◌≡◌, ℕ, List, Some, bytes_eq}
use Rattle.std.specs.Borrow.{Bor}
use Rattle.std.specs.HashMap.{HashMap, get_by}
use Rattle.std.specs.declared.hash.FoldHasher.{FoldHasher}
use Rattle.std.specs.declared.hash.BuildHasherDefault.{BuildHasherDefault}
use Rattle.loop_rules.specs.Search.{first_at}

-- for each name among these the table has the place where it stands first
pub record IsIndex (table : HashMap (Bor (List ℕ)) ℕ (BuildHasherDefault FoldHasher))
    (names : List (List ℕ)) : Type 0 where
  pub at : (x : List ℕ) (k : ℕ) → first_at names x ≡ Some k →
      get_by (λ n. bytes_eq x n.now) table ≡ Some k
