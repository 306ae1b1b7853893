-- The first token of a text, and the tokens behind it.
use Rattle.std.proofs.Common.{◌≡◌, ℕ, ◌+◌, ◌-◌, ◌<◌, ◌≤◌, Bool, true, false, not, ◌&&◌, cond}
use Rattle.std.proofs.Common.{nat_lt, List, [], ◌∷◌, ◌++◌, length, get_or, drop, filter}
use Rattle.std.proofs.Common.{slice_range, refl, sym, ap, ◌∙◌, subst, ⊎_elim, append-nil, arith}
use Rattle.std.specs.List.{slice_split, onto_first, list_all}
use Rattle.std.proofs.lemmas.Bool.Decides.{nat_tests}
use Rattle.std.proofs.lemmas.List.{drop_more, length-take, length-drop, take-append-drop, drop-drop}
use Rattle.std.proofs.lemmas.Bool.{cases_lt, false≢true}
use Rattle.std.proofs.Math.ListN.{drop_of_length-le}
use Rattle.std.proofs.Math.Seq.{drop-length}
use Rattle.std.proofs.lemmas.List.Splits.{slice_split-cons_yes, slice_split-cons_no}
use Rattle.table_text.specs.Token.{is_blank, is_token_byte, placed, is_token, tokens_from}
use Rattle.table_text.specs.Reading.{tokens_at}

pub and_left : (a b : Bool) → (a && b) ≡ true → a ≡ true
and_left true b h = refl
and_left false b h = h

pub and_right : (a b : Bool) → (a && b) ≡ true → b ≡ true
and_right true b h = h
and_right false b h = cc

not_true : (a : Bool) → not a ≡ true → a ≡ false
not_true true h = sym h
not_true false h = refl

pub no_blank : (byte : ℕ) (others : Bool) → (is_token_byte byte && others) ≡ true → is_blank byte ≡ false
no_blank byte others h = not_true (is_blank byte) (and_left (is_token_byte byte) others h)

-- a blank in front leaves the tokens as they are
pub tokens_from-blank : (at byte : ℕ) (bytes : List ℕ) → is_blank byte ≡ true →
    tokens_from at (byte ∷ bytes) ≡ tokens_from (at + 1) bytes
unfolding tokens_from
tokens_from-blank at byte bytes blank =
    ap (λ parts. filter is_token (placed at parts)) (slice_split-cons_yes is_blank byte bytes blank)
    ∙ ap (λ n. filter is_token (placed (n + 1) (slice_split is_blank bytes))) (omega arith)

pub tokens_at-blank : (text : List ℕ) (at : ℕ) → at < length text → is_blank (get_or text at 0) ≡ true →
    tokens_at text (at + 1) ≡ tokens_at text at
tokens_at-blank text at within blank =
    sym (ap (tokens_from at) (drop_more text at 0 within) ∙ tokens_from-blank at (get_or text at 0) (drop (at + 1) text) blank)

-- bytes of a token, up to the end, are one part
split_none : (word : List ℕ) → list_all is_token_byte word ≡ true → slice_split is_blank word ≡ word ∷ []
split_none [] whole = refl
split_none (byte ∷ word) whole =
    slice_split-cons_no is_blank byte word (no_blank byte (list_all is_token_byte word) whole)
    ∙ ap (onto_first byte) (split_none word (and_right (is_token_byte byte) (list_all is_token_byte word) whole))

-- up to a blank they are the first part
split_at : (word : List ℕ) (blank : ℕ) (rest : List ℕ) → list_all is_token_byte word ≡ true → is_blank blank ≡ true →
    slice_split is_blank (word ++ blank ∷ rest) ≡ word ∷ slice_split is_blank rest
split_at [] blank rest whole stops = slice_split-cons_yes is_blank blank rest stops
split_at (byte ∷ word) blank rest whole stops =
    slice_split-cons_no is_blank byte (word ++ blank ∷ rest) (no_blank byte (list_all is_token_byte word) whole)
    ∙ ap (onto_first byte) (split_at word blank rest (and_right (is_token_byte byte) (list_all is_token_byte word) whole) stops)

-- the bytes end, or go on with such a byte
abbrev pub Stops : (ℕ → Type 0) → List ℕ → Type 0
Stops P [] = Unit {0}
Stops P (byte ∷ bytes) = P byte

-- the tokens of a first part that isn't empty
first_token : (at : ℕ) (word : List ℕ) (parts : List (List ℕ)) → 0 < length word →
    filter is_token (placed at (word ∷ parts)) ≡ record { at = at; bytes = word } ∷ filter is_token (placed (at + length word + 1) parts)
first_token at word parts some =
    let is : nat_lt 0 (length word) ≡ true = grind (arith, nat_tests) in
    ap (λ t. cond t (record { at = at; bytes = word } ∷ filter is_token (placed (at + length word + 1) parts))
    (filter is_token (placed (at + length word + 1) parts))) is

word_at_end : (at : ℕ) (word : List ℕ) → 0 < length word → list_all is_token_byte word ≡ true →
    tokens_from at (word ++ []) ≡ record { at = at; bytes = word } ∷ tokens_from (at + length word) []
unfolding tokens_from
word_at_end at word some whole =
    ap (λ bytes. filter is_token (placed at (slice_split is_blank bytes))) (append-nil word)
    ∙ ap (λ parts. filter is_token (placed at parts)) (split_none word whole) ∙ first_token at word [] some

word_before_blank : (at : ℕ) (word : List ℕ) (blank : ℕ) (rest : List ℕ) → 0 < length word →
    list_all is_token_byte word ≡ true → is_blank blank ≡ true →
    tokens_from at (word ++ blank ∷ rest) ≡ record { at = at; bytes = word } ∷ tokens_from (at + length word + 1) rest
unfolding tokens_from
word_before_blank at word blank rest some whole stops =
    ap (λ parts. filter is_token (placed at parts)) (split_at word blank rest whole stops)
    ∙ first_token at word (slice_split is_blank rest) some

-- bytes of a token, up to the end or a blank, are the first token
pub tokens_from-word : (at : ℕ) (word rest : List ℕ) → 0 < length word → list_all is_token_byte word ≡ true →
    Stops (λ byte. is_blank byte ≡ true) rest → tokens_from at (word ++ rest) ≡ record { at = at; bytes = word } ∷ tokens_from (at + length word) rest
tokens_from-word at word [] some whole stops = word_at_end at word some whole
tokens_from-word at word (blank ∷ rest) some whole stops =
    word_before_blank at word blank rest some whole stops
    ∙ ap (λ tokens. record { at = at; bytes = word } ∷ tokens) (sym (tokens_from-blank (at + length word) blank rest stops))

-- what holds of a byte that goes on holds of the rest from there on
pub rest_stops : (P : ℕ → Type 0) (text : List ℕ) (end : ℕ) → (end < length text → P (get_or text end 0)) → Stops P (drop end text)
rest_stops P text end stops =
    ⊎_elim (λ inside. subst (Stops P) (sym (drop_more text end 0 inside)) (stops inside))
    (λ outside. subst (Stops P) (sym (drop_of_length-le text outside)) tt)
    (cases_lt end (length text))

-- a place of a text: what lies before another place, and the rest from there on
pub drop-range : (text : List ℕ) (from end : ℕ) → from ≤ end → drop from text ≡ slice_range text from end ++ drop end text
drop-range text from end some =
    let place : from + (end - from) ≡ end = omega arith in
    sym (take-append-drop (end - from) (drop from text))
    ∙ ap (λ rest. slice_range text from end ++ rest) (drop-drop (end - from) from text ∙ ap (λ n. drop n text) place)

pub length-range : (text : List ℕ) (from end : ℕ) → from ≤ end → end ≤ length text → from + length (slice_range text from end) ≡ end
length-range text from end some within =
    omega (arith, length-take (end - from) (drop from text), length-drop from text)

-- the same at a place of a text
pub tokens_at-word : (text : List ℕ) (from end : ℕ) → from < end → end ≤ length text →
    list_all is_token_byte (slice_range text from end) ≡ true → (end < length text → is_blank (get_or text end 0) ≡ true) →
    tokens_at text from ≡ record { at = from; bytes = slice_range text from end } ∷ tokens_at text end
tokens_at-word text from end some within whole stops =
    let behind : from ≤ end = omega arith in
    let long : from + length (slice_range text from end) ≡ end = length-range text from end behind within in
    let filled : 0 < length (slice_range text from end) = omega arith in
    ap (tokens_from from) (drop-range text from end behind)
    ∙ tokens_from-word from (slice_range text from end) (drop end text) filled whole (rest_stops (λ byte. is_blank byte ≡ true) text end stops)
    ∙ ap (λ n. record { at = from; bytes = slice_range text from end } ∷ tokens_from n (drop end text)) long

pub tokens_at-end : (text : List ℕ) → tokens_at text (length text) ≡ []
unfolding tokens_from
tokens_at-end text = ap (λ rest. tokens_from (length text) rest) (drop-length text)

-- where a word that begins behind the blanks has no byte, the text is at its end
pub tokens_at-none : (text : List ℕ) (at : ℕ) → at ≤ length text → (at < length text → is_blank (get_or text at 0) ≡ false) →
    (at < length text → is_blank (get_or text at 0) ≡ true) → tokens_at text at ≡ []
tokens_at-none text at within no_blank blank =
    ⊎_elim (λ inside. absurd (false≢true (sym (no_blank inside) ∙ blank inside)))
    (λ outside. let is : at ≡ length text = omega arith in ap (tokens_at text) is ∙ tokens_at-end text)
    (cases_lt at (length text))
