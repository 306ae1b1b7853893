-- Where bytes go.
use Rattle.std.specs.Prelude.{◌≡◌, ◌==◌, ◌++◌, ℕ, List, Option, Some, option_map, IfSome}
use Rattle.std.specs.List.{find}

-- the first bytes of a text, some of them or all
pub record IsPrefix (front text : List ℕ) : Type 0 where
  pub rest : List ℕ
  pub whole : front ++ rest ≡ text

-- where the bytes were told before, they are told after, with the text appended
abbrev pub Appended : Option (List ℕ) → Option (List ℕ) → List ℕ → Type 0
Appended old new text = IfSome old (λ bytes. new ≡ Some (bytes ++ text))

-- the same with the first bytes of the text, some of them or all
abbrev pub PrefixAppended : Option (List ℕ) → Option (List ℕ) → List ℕ → Type 0
PrefixAppended old new text =
    IfSome old (λ bytes. (front : List ℕ) × IsPrefix front text × (new ≡ Some (bytes ++ front)))

-- how many bytes of its piece a call keeps, where it is listed
abbrev pub kept_at : List (ℕ × ℕ) → ℕ → Option ℕ
kept_at fails call = option_map (λ entry. entry.1) (find (λ entry. entry.0 == call) fails)
