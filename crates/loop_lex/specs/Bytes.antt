-- The bytes of the alphabet.
use Rattle.std.specs.Prelude.{ℕ, Bool, ◌&&◌, ◌||◌, ◌==◌, codes, List, [], ◌∷◌, false}
use Rattle.std.specs.List.{list_any}
use Rattle.std.specs.Char.{is_ascii_alphabetic, is_ascii_digit}

-- whether the byte is one of these
abbrev pub is_one_of : List ℕ → ℕ → Bool
is_one_of bytes b = list_any (λ c. b == c) bytes

-- space, tab, CR and LF
abbrev pub is_blank : ℕ → Bool
is_blank b = is_one_of (codes " \t\r\n") b

-- a word begins with a letter or an underscore
abbrev pub starts_word : ℕ → Bool
starts_word b = is_ascii_alphabetic b || b == 95

-- it goes on with these and with digits
abbrev pub continues_word : ℕ → Bool
continues_word b = starts_word b || is_ascii_digit b

-- the signs of one byte
abbrev pub is_single_sign : ℕ → Bool
is_single_sign b = is_one_of (codes "(){}[],;=+-*/%<>") b

-- the signs of two bytes: == != <= >= and ..
abbrev pub is_double_sign : ℕ → ℕ → Bool
is_double_sign a b = (is_one_of (codes "=!<>") a && b == 61) || (a == 46 && b == 46)

-- whether a sign of two bytes stands at the front of a text
abbrev pub begins_double : List ℕ → Bool
begins_double [] = false
begins_double (a ∷ []) = false
begins_double (a ∷ b ∷ rest) = is_double_sign a b
