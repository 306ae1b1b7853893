-- Where texts come from, and the counts of faults that shelves and sinks keep.
use Rattle.std.specs.Prelude.{◌≡◌, ◌⊎◌, ◌+◌, ◌-◌, ◌^◌, ◌<◌, ℕ, min, List, [], Option, option_map}
use Rattle.std.specs.Prelude.{unwrap_or, String, string_bytes, Vec}
use Rattle.std.specs.List.{find}
use Rattle.std.specs.Str.{bytes_eq}

-- the greatest count of faults, at which a count stands still
abbrev pub last_count : ℕ
last_count = 2 ^ 64 - 1

-- a count of faults rose, or it stands at its end, where it can't rise any more
abbrev pub HasRisen : ℕ → ℕ → Type 0
HasRisen old new = (old < new) ⊎ (new ≡ last_count)

-- one fault more, where there is room for it
abbrev pub count_after : ℕ → ℕ
count_after count = min (count + 1) last_count

-- the number of the call after this one, where there is room for it
abbrev pub call_after : ℕ → ℕ
call_after call = min (call + 1) (2 ^ 32 - 1)

-- the text that stands first under a name
abbrev pub text_of : {X Y : Type 0} → List (String X × Vec ℕ Y) → List ℕ → Option (List ℕ)
text_of texts name =
    option_map (λ entry. entry.1.items) (find (λ entry. bytes_eq (string_bytes entry.0) name) texts)

-- the same, where an absent name stands for the empty text
abbrev pub text_or_empty : {X Y : Type 0} → List (String X × Vec ℕ Y) → List ℕ → List ℕ
text_or_empty texts name = unwrap_or (text_of texts name) []
