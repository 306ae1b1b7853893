-- A part of a text, one byte longer.
use Rattle.std.proofs.Common.{◌≡◌, ℕ, ◌+◌, ◌-◌, ◌*◌, ◌<◌, ◌≤◌, Bool, true, ◌&&◌, min, List, [], ◌∷◌}
use Rattle.std.proofs.Common.{◌++◌, length, get_or, take, drop, slice_range, refl, sym, ap, ◌∙◌}
use Rattle.std.proofs.Common.{arith}
use Rattle.std.specs.List.{list_all}
use Rattle.std.specs.Char.{digit_value}
use Rattle.std.proofs.lemmas.List.{take_more, get_or-drop, length-drop}
use Rattle.std.proofs.lemmas.List.Folds.{list_all-append}
use Rattle.std.proofs.lemmas.Int.Digits.{digits_value_push}
use Rattle.table_text.specs.Token.{run_value}

pub slice_range_more : (text : List ℕ) (from at : ℕ) → from ≤ at → at < length text →
    slice_range text from (at + 1) ≡ slice_range text from at ++ get_or text at 0 ∷ []
slice_range_more text from at behind within =
    let inside : at - from < length (drop from text) = omega (arith, length-drop from text) in
    let shifted : at + 1 - from ≡ at - from + 1 = omega arith in
    let place : from + (at - from) ≡ at = omega arith in
    ap (λ n. take n (drop from text)) shifted ∙ take_more (drop from text) (at - from) 0 inside
    ∙ ap (λ byte. slice_range text from at ++ byte ∷ []) (get_or-drop from text (at - from) 0 ∙ ap (λ k. get_or text k 0) place)

and_true : (a b : Bool) → a ≡ true → b ≡ true → (a && b) ≡ true
and_true a b p q = ap (λ x. x && b) p ∙ q

pub list_all_more : (p : ℕ → Bool) (text : List ℕ) (from at : ℕ) → from ≤ at → at < length text →
    list_all p (slice_range text from at) ≡ true → p (get_or text at 0) ≡ true →
    list_all p (slice_range text from (at + 1)) ≡ true
list_all_more p text from at behind within all one =
    ap (list_all p) (slice_range_more text from at behind within)
    ∙ list_all-append p (slice_range text from at) (get_or text at 0 ∷ [])
    ∙ and_true (list_all p (slice_range text from at)) (p (get_or text at 0) && true) all (and_true (p (get_or text at 0)) true one refl)

-- a value that stays at its greatest
capped_more : (most value digit capped : ℕ) → capped ≡ min value most → min (capped * 10 + digit) most ≡ min (value * 10 + digit) most
capped_more most value digit capped is = omega (arith, is)

pub run_value_more : (text : List ℕ) (from at most capped byte : ℕ) → from ≤ at → at < length text →
    capped ≡ min (run_value (slice_range text from at)) most → byte ≡ digit_value (get_or text at 0) →
    min (capped * 10 + byte) most ≡ min (run_value (slice_range text from (at + 1))) most
run_value_more text from at most capped byte behind within is digit =
    capped_more most (run_value (slice_range text from at)) byte capped is
    ∙ ap (λ d. min (run_value (slice_range text from at) * 10 + d) most) digit
    ∙ ap (λ v. min v most) (sym (ap run_value (slice_range_more text from at behind within) ∙ digits_value_push 10 (slice_range text from at) (get_or text at 0)))
