-- The names that a text gives its blocks.
use Rattle.std.specs.Prelude.{ℕ, Bool, false, List, [], ◌∷◌, ◌++◌, map, bytes_eq, slice_index_or}
use Rattle.std.specs.Prelude.{if◌then◌else◌}
use Rattle.std.specs.Borrow.{Bor}
use Rattle.std.specs.List.{position_or_len, list_any}
use Rattle.std.specs.HashMap.{HashMap}

-- a block's name, and whether the block is promotion-ready
abbrev pub Head : Type 0
Head = List ℕ × Bool

abbrev pub names_of : List Head → List (List ℕ)
names_of heads = map (λ h. h.0) heads

-- the first place of a name, or the number of names where it is none of them
abbrev pub place_of : List Head → List ℕ → ℕ
place_of heads name = position_or_len (λ h. bytes_eq name h.0) heads

-- the first block of that name is promotion-ready; so is no other
abbrev pub is_ready_name : List Head → List ℕ → Bool
is_ready_name heads name = (slice_index_or heads (place_of heads name) ([], false)).1

-- the names in a map, in order
abbrev pub heads : {S : Type 0} → HashMap (Bor (List ℕ)) Bool S → List Head
heads names = map (λ e. (e.0.now, e.1)) names.entries

-- the heads with one more at the end, where its name isn't among them
abbrev pub with_head : List Head → Head → List Head
with_head heads head =
    if list_any (bytes_eq head.0) (names_of heads) then heads else heads ++ head ∷ []
