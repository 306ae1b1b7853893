-- The number at the front of a text.
use Rattle.std.proofs.Common.{◌≡◌, ℕ, zero, suc, ◌+◌, ◌-◌, ◌^◌, ◌<◌, ◌≤◌, Bool, true, false, not}
use Rattle.std.proofs.Common.{◌&&◌, cond, eqb, take, inl, inr, nat_lt, Some, None, ℤ, min, List, []}
use Rattle.std.proofs.Common.{◌∷◌, ◌++◌, length, get_or, drop, slice_range, refl, sym, ap, ◌∙◌}
use Rattle.std.proofs.Common.{subst, ⊎_elim, ◌⊎◌, append-nil, arith}
use Rattle.std.specs.List.{list_all}
use Rattle.std.specs.Char.{is_ascii_digit}
use Rattle.std.specs.Int.{from_bool}
use Rattle.std.proofs.lemmas.Bool.Decides.{nat_tests}
use Rattle.std.proofs.lemmas.List.{drop_more, length-drop, length-append}
use Rattle.std.proofs.lemmas.Bool.{false≢true, cases_lt, le-ltb, lt-ltb, ltb-true}
use Rattle.table_text.specs.Token.{Token, is_blank, is_token_byte, tokens_from, is_run, is_number}
use Rattle.table_text.specs.Token.{is_64_bits, signed_value, run_value, number_value, unsigned_part}
use Rattle.table_text.specs.declared.word.TheConstants.{TOO_GREAT}
use Rattle.table_text.specs.Wanted.{ANumber, misfit}
use Rattle.table_text.specs.declared.fault.TableFault.TheVariants.{Form}
use Rattle.table_text.specs.Reading.{tokens_at, TokenMisfits, TakesNumber}
use Rattle.table_text.proofs.Tokens.{Stops, rest_stops, tokens_from-word, drop-range, length-range}
use Rattle.table_text.proofs.Tokens.{and_left, and_right, no_blank}

-- the bytes up to a blank, and those from there on
abbrev pub word_of : List ℕ → List ℕ
word_of [] = []
word_of (byte ∷ bytes) = cond (is_blank byte) [] (byte ∷ word_of bytes)

abbrev pub rest_of : List ℕ → List ℕ
rest_of [] = []
rest_of (byte ∷ bytes) = cond (is_blank byte) (byte ∷ bytes) (rest_of bytes)

word_of-rest_of : (bytes : List ℕ) → bytes ≡ word_of bytes ++ rest_of bytes
word_of-rest_of [] = refl
word_of-rest_of (byte ∷ bytes) = joined (is_blank byte) byte bytes (word_of bytes) (rest_of bytes) (word_of-rest_of bytes)
  where
    joined : (blank : Bool) (byte : ℕ) (bytes word rest : List ℕ) → bytes ≡ word ++ rest →
        byte ∷ bytes ≡ cond blank [] (byte ∷ word) ++ cond blank (byte ∷ bytes) rest
    joined true byte bytes word rest e = refl
    joined false byte bytes word rest e = ap (λ l. byte ∷ l) e

word_of-whole : (bytes : List ℕ) → list_all is_token_byte (word_of bytes) ≡ true
word_of-whole [] = refl
word_of-whole (byte ∷ bytes) = whole (is_blank byte) refl (word_of-whole bytes)
  where
    whole : (blank : Bool) → is_blank byte ≡ blank → list_all is_token_byte (word_of bytes) ≡ true →
        list_all is_token_byte (cond blank [] (byte ∷ word_of bytes)) ≡ true
    whole true e others = refl
    whole false e others = ap (λ t. not t && list_all is_token_byte (word_of bytes)) e ∙ others

rest_of-stops : (bytes : List ℕ) → Stops (λ byte. is_blank byte ≡ true) (rest_of bytes)
rest_of-stops [] = tt
rest_of-stops (byte ∷ bytes) = stops (is_blank byte) refl (rest_of-stops bytes)
  where
    stops : (blank : Bool) → is_blank byte ≡ blank → Stops (λ b. is_blank b ≡ true) (rest_of bytes) →
        Stops (λ b. is_blank b ≡ true) (cond blank (byte ∷ bytes) (rest_of bytes))
    stops true e others = e
    stops false e others = others

word_of-append : (word rest : List ℕ) → list_all is_token_byte word ≡ true → word_of (word ++ rest) ≡ word ++ word_of rest
word_of-append [] rest whole = refl
word_of-append (byte ∷ word) rest whole =
    ap (λ t. cond t [] (byte ∷ word_of (word ++ rest))) (no_blank byte (list_all is_token_byte word) whole)
    ∙ ap (λ l. byte ∷ l) (word_of-append word rest (and_right (is_token_byte byte) (list_all is_token_byte word) whole))

rest_of-append : (word rest : List ℕ) → list_all is_token_byte word ≡ true → rest_of (word ++ rest) ≡ rest_of rest
rest_of-append [] rest whole = refl
rest_of-append (byte ∷ word) rest whole =
    ap (λ t. cond t (byte ∷ word ++ rest) (rest_of (word ++ rest))) (no_blank byte (list_all is_token_byte word) whole)
    ∙ rest_of-append word rest (and_right (is_token_byte byte) (list_all is_token_byte word) whole)

word_of-stopped : (rest : List ℕ) → Stops (λ byte. is_blank byte ≡ true) rest → word_of rest ≡ []
word_of-stopped [] stops = refl
word_of-stopped (byte ∷ rest) stops = ap (λ t. cond t [] (byte ∷ word_of rest)) stops

rest_of-stopped : (rest : List ℕ) → Stops (λ byte. is_blank byte ≡ true) rest → rest_of rest ≡ rest
rest_of-stopped [] stops = refl
rest_of-stopped (byte ∷ rest) stops = ap (λ t. cond t (byte ∷ rest) (rest_of rest)) stops

-- the first token of bytes that don't begin with a blank
tokens_from-first : (at byte : ℕ) (bytes : List ℕ) → is_blank byte ≡ false →
    tokens_from at (byte ∷ bytes) ≡ record { at = at; bytes = byte ∷ word_of bytes } ∷ tokens_from (at + suc (length (word_of bytes))) (rest_of bytes)
tokens_from-first at byte bytes begins =
    let some : 0 < length (byte ∷ word_of bytes) = omega arith in
    ap (λ l. tokens_from at (byte ∷ l)) (word_of-rest_of bytes)
    ∙ tokens_from-word at (byte ∷ word_of bytes) (rest_of bytes) some
    (ap (λ t. not t && list_all is_token_byte (word_of bytes)) begins ∙ word_of-whole bytes) (rest_of-stops bytes)

-- a digit is no blank
digit_is_token_byte : (byte : ℕ) → is_ascii_digit byte ≡ true → is_token_byte byte ≡ true
digit_is_token_byte byte digit = grind (arith, nat_tests)

digits_are_token_bytes : (digits : List ℕ) → list_all is_ascii_digit digits ≡ true → list_all is_token_byte digits ≡ true
digits_are_token_bytes [] all = refl
digits_are_token_bytes (byte ∷ digits) all =
    ap (λ t. t && list_all is_token_byte digits) (digit_is_token_byte byte (and_left (is_ascii_digit byte) (list_all is_ascii_digit digits) all))
    ∙ digits_are_token_bytes digits (and_right (is_ascii_digit byte) (list_all is_ascii_digit digits) all)

-- a run of digits
is_run-digits : (digits : List ℕ) → 0 < length digits → list_all is_ascii_digit digits ≡ true → is_run digits ≡ true
is_run-digits [] some all = elim some [ ]
is_run-digits (byte ∷ digits) some all = all

and_false : (a : Bool) → (a && false) ≡ false
and_false true = refl
and_false false = refl

-- what begins with no digit is no run, also behind digits
is_run-no_digit : (digits : List ℕ) (byte : ℕ) (rest : List ℕ) → is_ascii_digit byte ≡ false → is_run (digits ++ byte ∷ rest) ≡ false
is_run-no_digit [] byte rest no_digit = ap (λ t. t && list_all is_ascii_digit rest) no_digit
is_run-no_digit (first ∷ digits) byte rest no_digit = ap (λ t. is_ascii_digit first && t) (none digits) ∙ and_false (is_ascii_digit first)
  where
    none : (digits : List ℕ) → list_all is_ascii_digit (digits ++ byte ∷ rest) ≡ false
    none [] = ap (λ t. t && list_all is_ascii_digit rest) no_digit
    none (next ∷ digits) = ap (λ t. is_ascii_digit next && t) (none digits) ∙ and_false (is_ascii_digit next)

-- the part behind a minus of a token
unsigned_part-word_of : (byte : ℕ) (bytes : List ℕ) → is_blank byte ≡ false →
    unsigned_part (byte ∷ word_of bytes) ≡ word_of (unsigned_part (byte ∷ bytes))
unsigned_part-word_of byte bytes begins = parts (eqb byte 45)
  where
    parts : (minus : Bool) → cond minus (word_of bytes) (byte ∷ word_of bytes) ≡ word_of (cond minus bytes (byte ∷ bytes))
    parts true = refl
    parts false = sym (ap (λ t. cond t [] (byte ∷ word_of bytes)) begins)

-- the place behind a minus
drop-unsigned_part : (text : List ℕ) (start : ℕ) → start < length text →
    drop (start + from_bool (eqb (get_or text start 0) 45)) text ≡ unsigned_part (get_or text start 0 ∷ drop (start + 1) text)
drop-unsigned_part text start inside = at (eqb (get_or text start 0) 45)
  where
    at : (minus : Bool) → drop (start + from_bool minus) text ≡ cond minus (drop (start + 1) text) (get_or text start 0 ∷ drop (start + 1) text)
    at true = refl
    at false = ap (λ n. drop n text) (omega arith) ∙ drop_more text start 0 inside

-- the token at a byte that is no blank
abbrev token_at : List ℕ → ℕ → Token
token_at text start = record { at = start; bytes = get_or text start 0 ∷ word_of (drop (start + 1) text) }

tokens_at-first : (text : List ℕ) (start : ℕ) → start < length text → is_blank (get_or text start 0) ≡ false →
    tokens_at text start ≡ token_at text start ∷ tokens_from (start + suc (length (word_of (drop (start + 1) text)))) (rest_of (drop (start + 1) text))
tokens_at-first text start inside begins =
    ap (tokens_from start) (drop_more text start 0 inside)
    ∙ tokens_from-first start (get_or text start 0) (drop (start + 1) text) begins

-- the token goes on
abbrev pub GoesOn : List ℕ → Type 0
GoesOn [] = ⊥
GoesOn (byte ∷ bytes) = is_blank byte ≡ false

-- digits and what is left of the token are no run, where there are no digits or something is left
not_run : (digits rest : List ℕ) → Stops (λ byte. is_ascii_digit byte ≡ false) rest → (digits ≡ []) ⊎ GoesOn rest →
    is_run (digits ++ word_of rest) ≡ false
not_run digits [] stops why = ⊎_elim (λ none. ap (λ d. is_run (d ++ [])) none) (λ goes. absurd goes) why
not_run digits (byte ∷ rest) stops why = at (is_blank byte) refl
  where
    at : (blank : Bool) → is_blank byte ≡ blank → is_run (digits ++ cond blank [] (byte ∷ word_of rest)) ≡ false
    at false e = is_run-no_digit digits byte (word_of rest) stops
    at true e = ⊎_elim (λ none. ap (λ d. is_run (d ++ [])) none) (λ goes. absurd (false≢true (sym goes ∙ e))) why

Misfits-number : (len : ℕ) (tokens : List Token) (token : Token) (rest : List Token) → tokens ≡ token ∷ rest →
    is_number token.bytes ≡ false → TokenMisfits len (misfit ANumber) tokens (Form token.at)
Misfits-number len tokens token rest is no_number =
    subst (λ ts. TokenMisfits len (misfit ANumber) ts (Form token.at)) (sym is) (ap (λ t. cond t None (Some (Form token.at))) no_number)

-- where the digits of that token may begin
abbrev pub first_digit : List ℕ → ℕ → ℕ
first_digit text start = start + from_bool (eqb (get_or text start 0) 45)

not_true : (a : Bool) → not a ≡ true → a ≡ false
not_true true h = sym h
not_true false h = refl

-- from `TOO_GREAT` on a number has no 64 bits, with a minus or without
beyond_64_bits : (minus : Bool) (n : ℕ) → TOO_GREAT ≤ n → is_64_bits (signed_value minus n) ≡ false
beyond_64_bits false n great = le-ltb n (2 ^ 63) (omega arith)
beyond_64_bits true zero great = absurd (omega arith)
beyond_64_bits true (suc n) great = le-ltb n (2 ^ 63) (omega arith)

capped_cases : (n : ℕ) → (min n TOO_GREAT ≡ n) ⊎ ((min n TOO_GREAT ≡ TOO_GREAT) × (TOO_GREAT ≤ n))
capped_cases n = ⊎_elim (λ below. inl (omega arith)) (λ above. inr (omega arith, above)) (cases_lt n TOO_GREAT)

-- so it shows of the capped number too
capped_fits : (minus : Bool) (n : ℕ) → is_64_bits (signed_value minus (min n TOO_GREAT)) ≡ is_64_bits (signed_value minus n)
capped_fits minus n =
    ⊎_elim (λ same. ap (λ k. is_64_bits (signed_value minus k)) same)
    (λ capped. ap (λ k. is_64_bits (signed_value minus k)) capped.0
    ∙ beyond_64_bits minus TOO_GREAT (omega arith) ∙ sym (beyond_64_bits minus n capped.1))
    (capped_cases n)

capped_same : (minus : Bool) (n : ℕ) → is_64_bits (signed_value minus (min n TOO_GREAT)) ≡ true → min n TOO_GREAT ≡ n
capped_same minus n fits =
    ⊎_elim (λ same. same)
    (λ capped. absurd (false≢true (sym (beyond_64_bits minus n capped.1) ∙ sym (capped_fits minus n) ∙ fits)))
    (capped_cases n)

-- where a token doesn't go on there is a blank
pub stops_there : (text : List ℕ) (end : ℕ) → false ≡ (nat_lt end (length text) && not (is_blank (get_or text end 0))) →
    end < length text → is_blank (get_or text end 0) ≡ true
stops_there text end stops inside =
    blank (is_blank (get_or text end 0)) (sym (stops ∙ ap (λ t. t && not (is_blank (get_or text end 0))) (lt-ltb end (length text) inside)))
  where
    blank : (t : Bool) → not t ≡ false → t ≡ true
    blank true h = refl
    blank false h = sym h

-- digits that begin behind the sign of the token at `start` and end at `end`
module _ (text : List ℕ) (start first end : ℕ) (first_is : first ≡ first_digit text start) (inside : start < length text) (begins : is_blank (get_or text start 0) ≡ false)
    (behind : first ≤ end) (within : end ≤ length text)
    (digits : list_all is_ascii_digit (slice_range text (first) end) ≡ true) where
  unsigned_drop : drop first text ≡ unsigned_part (get_or text start 0 ∷ drop (start + 1) text)
  unsigned_drop = ap (λ n. drop n text) first_is ∙ drop-unsigned_part text start inside

  -- what they are to the token
  unsigned_token : unsigned_part (token_at text start).bytes ≡ slice_range text (first) end ++ word_of (drop end text)
  unsigned_token =
      unsigned_part-word_of (get_or text start 0) (drop (start + 1) text) begins
      ∙ ap word_of (sym unsigned_drop ∙ drop-range text (first) end behind)
      ∙ word_of-append (slice_range text (first) end) (drop end text)
      (digits_are_token_bytes (slice_range text (first) end) digits)

  -- where there are none, or the token goes on behind them, it is no number
  pub no_digits : (end < length text → is_ascii_digit (get_or text end 0) ≡ false) →
      (end ≡ first) ⊎ ((nat_lt end (length text) && not (is_blank (get_or text end 0))) ≡ true) →
      TokenMisfits (length text) (misfit ANumber) (tokens_at text start) (Form start)
  no_digits stops why =
      Misfits-number (length text) (tokens_at text start) (token_at text start) _ (tokens_at-first text start inside begins)
      (ap (λ t. t && is_64_bits (number_value (token_at text start).bytes))
      (ap is_run unsigned_token
      ∙ not_run (slice_range text (first) end) (drop end text)
      (rest_stops (λ byte. is_ascii_digit byte ≡ false) text end stops) (⊎_elim none goes why)))
    where
      none : end ≡ first → (slice_range text (first) end ≡ []) ⊎ GoesOn (drop end text)
      none e =
          let no : end - first ≡ 0 = omega arith in
          inl (ap (λ n. take n (drop (first) text)) no)

      goes : (nat_lt end (length text) && not (is_blank (get_or text end 0))) ≡ true →
          (slice_range text (first) end ≡ []) ⊎ GoesOn (drop end text)
      goes h =
          let more : end < length text = ltb-true end (length text) (and_left (nat_lt end (length text)) (not (is_blank (get_or text end 0))) h) in
          inr (subst GoesOn (sym (drop_more text end 0 more))
          (not_true (is_blank (get_or text end 0)) (and_right (nat_lt end (length text)) (not (is_blank (get_or text end 0))) h)))

  -- where the token ends behind them
  module _ (stops : end < length text → is_blank (get_or text end 0) ≡ true) where
    unsigned_digits : unsigned_part (token_at text start).bytes ≡ slice_range text (first) end
    unsigned_digits =
        unsigned_token
        ∙ ap (λ l. slice_range text (first) end ++ l) (word_of-stopped (drop end text) (rest_stops (λ byte. is_blank byte ≡ true) text end stops))
        ∙ append-nil (slice_range text (first) end)

    rest_is : rest_of (drop (start + 1) text) ≡ drop end text
    rest_is =
        sym (minus (eqb (get_or text start 0) 45))
        ∙ ap rest_of (sym unsigned_drop ∙ drop-range text (first) end behind)
        ∙ rest_of-append (slice_range text (first) end) (drop end text)
        (digits_are_token_bytes (slice_range text (first) end) digits)
        ∙ rest_of-stopped (drop end text) (rest_stops (λ byte. is_blank byte ≡ true) text end stops)
      where
        minus : (t : Bool) → rest_of (cond t (drop (start + 1) text) (get_or text start 0 ∷ drop (start + 1) text)) ≡ rest_of (drop (start + 1) text)
        minus true = refl
        minus false = ap (λ t. cond t (get_or text start 0 ∷ drop (start + 1) text) (rest_of (drop (start + 1) text))) begins

    end_is : start + suc (length (word_of (drop (start + 1) text))) ≡ end
    end_is =
        let whole : length (drop (start + 1) text) ≡ length (word_of (drop (start + 1) text)) + length (rest_of (drop (start + 1) text)) =
        ap length (word_of-rest_of (drop (start + 1) text)) ∙ length-append (word_of (drop (start + 1) text)) (rest_of (drop (start + 1) text)) in
        let left : length (rest_of (drop (start + 1) text)) ≡ length text - end = ap length rest_is ∙ length-drop end text in
        let all : length (drop (start + 1) text) ≡ length text - (start + 1) = length-drop (start + 1) text in
        omega (arith, whole, left, all)

    tokens_are : tokens_at text start ≡ token_at text start ∷ tokens_at text end
    tokens_are =
        tokens_at-first text start inside begins
        ∙ ap (λ n. token_at text start ∷ tokens_from n (rest_of (drop (start + 1) text))) end_is
        ∙ ap (λ l. token_at text start ∷ tokens_from end l) rest_is

    value_is : number_value (token_at text start).bytes ≡ signed_value (eqb (get_or text start 0) 45) (run_value (slice_range text (first) end))
    value_is = ap (λ d. signed_value (eqb (get_or text start 0) 45) (run_value d)) unsigned_digits

    -- the token is a number of the capped digits' value, where that has 64 bits
    pub takes_number : first < end → (value : ℤ) →
        is_64_bits (signed_value (eqb (get_or text start 0) 45) (min (run_value (slice_range text (first) end)) TOO_GREAT)) ≡ true →
        value ≡ signed_value (eqb (get_or text start 0) 45) (min (run_value (slice_range text (first) end)) TOO_GREAT) →
        TakesNumber (tokens_at text start) value (tokens_at text end)
    takes_number some value fits is =
        let long : first + length (slice_range text (first) end) ≡ end =
        length-range text (first) end behind within in
        let filled : 0 < length (slice_range text (first) end) = omega arith in
        let run : is_run (unsigned_part (token_at text start).bytes) ≡ true =
        ap is_run unsigned_digits ∙ is_run-digits (slice_range text (first) end) filled digits in
        let bits : is_64_bits (number_value (token_at text start).bytes) ≡ true =
        ap is_64_bits value_is
        ∙ sym (capped_fits (eqb (get_or text start 0) 45) (run_value (slice_range text (first) end))) ∙ fits in (
          token_at text start,
          (
            (
              tokens_are,
              ap (λ t. cond t None (Some (Form start))) (ap (λ t. t && is_64_bits (number_value (token_at text start).bytes)) run ∙ bits),
            ),
            is ∙ ap (signed_value (eqb (get_or text start 0) 45)) (capped_same (eqb (get_or text start 0) 45) (run_value (slice_range text (first) end)) fits)
                ∙ sym value_is,
          ),
        )

    -- else it is no number
    pub too_great :
        is_64_bits (signed_value (eqb (get_or text start 0) 45) (min (run_value (slice_range text (first) end)) TOO_GREAT)) ≡ false →
        TokenMisfits (length text) (misfit ANumber) (tokens_at text start) (Form start)
    too_great unfit =
        Misfits-number (length text) (tokens_at text start) (token_at text start) (tokens_at text end) tokens_are
        (ap (λ t. is_run (unsigned_part (token_at text start).bytes) && t)
        (ap is_64_bits value_is
        ∙ sym (capped_fits (eqb (get_or text start 0) 45) (run_value (slice_range text (first) end))) ∙ unfit)
        ∙ and_false (is_run (unsigned_part (token_at text start).bytes)))
