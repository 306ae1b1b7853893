-- The tokens of a text, and what a name, a size and a number are.
use Rattle.std.specs.Prelude.{ℕ, ◌+◌, ◌^◌, Bool, false, not, ◌&&◌, ◌||◌, ◌==◌, if◌then◌else◌}
use Rattle.std.specs.Prelude.{nat_lt, ℤ, pos, negsuc, neg_ℤ, List, [], ◌∷◌, length, filter}
use Rattle.std.specs.List.{slice_split, list_all}
use Rattle.std.specs.Char.{is_ascii_digit, is_ascii_alphabetic, is_ascii_alphanumeric}
use Rattle.std.specs.Str.Parse.{digits_value}

-- a token, and the number of its first byte in the text, from 0
pub record Token : Type 0 where
  pub at : ℕ
  pub bytes : List ℕ

-- space, tab, CR or LF
abbrev pub is_blank : ℕ → Bool
is_blank byte = byte == 32 || byte == 9 || byte == 13 || byte == 10

-- a byte of a token
abbrev pub is_token_byte : ℕ → Bool
is_token_byte byte = not (is_blank byte)

-- parts of a text with one byte between each two, where the first part begins at byte `at`
abbrev pub placed : ℕ → List (List ℕ) → List Token
placed at [] = []
placed at (part ∷ parts) = record { at = at; bytes = part } ∷ placed (at + length part + 1) parts

-- whether a part has a byte
abbrev pub is_token : Token → Bool
is_token part = nat_lt 0 (length part.bytes)

-- the tokens of bytes that begin at byte `at`: the parts between blanks, but for the empty ones
unfoldable pub tokens_from : ℕ → List ℕ → List Token
tokens_from at bytes = filter is_token (placed at (slice_split is_blank bytes))

abbrev pub tokens_of : List ℕ → List Token
tokens_of text = tokens_from 0 text

-- a byte that a word may begin with: a letter or `_`
abbrev pub is_word_start : ℕ → Bool
is_word_start byte = is_ascii_alphabetic byte || byte == 95

-- a byte that may follow in a word: a letter, a digit or `_`
abbrev pub is_word_byte : ℕ → Bool
is_word_byte byte = is_ascii_alphanumeric byte || byte == 95

abbrev pub is_word : List ℕ → Bool
is_word [] = false
is_word (byte ∷ bytes) = is_word_start byte && list_all is_word_byte bytes

-- a run of digits, of any length
abbrev pub is_run : List ℕ → Bool
is_run [] = false
is_run (byte ∷ bytes) = is_ascii_digit byte && list_all is_ascii_digit bytes

-- the number that a run of digits writes
abbrev pub run_value : List ℕ → ℕ
run_value digits = digits_value 10 digits

-- whether the bytes begin with a minus
abbrev pub is_negative : List ℕ → Bool
is_negative [] = false
is_negative (byte ∷ bytes) = byte == 45

-- the bytes behind a first minus, or all where there is none
abbrev pub unsigned_part : List ℕ → List ℕ
unsigned_part [] = []
unsigned_part (byte ∷ bytes) = if byte == 45 then bytes else byte ∷ bytes

-- a number, or its negation
abbrev pub signed_value : Bool → ℕ → ℤ
signed_value negative n = if negative then neg_ℤ (pos n) else pos n

-- the number that a run of digits writes, where a minus may stand first
abbrev pub number_value : List ℕ → ℤ
number_value bytes = signed_value (is_negative bytes) (run_value (unsigned_part bytes))

-- whether a number has 64 bits
abbrev pub is_64_bits : ℤ → Bool
is_64_bits (pos n) = nat_lt n (2 ^ 63)
is_64_bits (negsuc n) = nat_lt n (2 ^ 63)

-- a run of digits, where a minus may stand first, with a value of 64 bits
abbrev pub is_number : List ℕ → Bool
is_number bytes = is_run (unsigned_part bytes) && is_64_bits (number_value bytes)
