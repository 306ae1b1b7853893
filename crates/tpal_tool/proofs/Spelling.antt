-- Numbers that digits spell.
use Rattle.std.proofs.Common.{◌≡◌, ℕ, ◌+◌, ◌*◌, ◌-◌, ◌<◌, ◌≤◌, Bool, true, false, cond, List, []}
use Rattle.std.proofs.Common.{◌∷◌, None, Some, refl, ap, sym, arith}
use Rattle.std.proofs.lemmas.Bool.Decides.{nat_tests}
use Rattle.std.proofs.lemmas.Str.{digit_value_digit}
use Rattle.std.specs.Char.{digit_value}
use Rattle.std.specs.Int.{IsInRange}
use Rattle.std.specs.Prelude.{nat_le, ◌&&◌}
use Rattle.std.specs.Str.{all_ascii_digits}
use Rattle.std.specs.Str.Parse.{digits_value_after}
use Rattle.tpal_tool.specs.Words.{spelled}

-- digits behind a number spell no lesser one
after_least : (n : ℕ) (digits : List ℕ) → n ≤ digits_value_after 10 n digits
after_least n [] = omega arith
after_least n (d ∷ digits) = omega (arith, after_least (n * 10 + digit_value d) digits)

refused : {A : Type 0} (digits fits : Bool) (a : A) → fits ≡ false → None ≡ cond (digits && fits) (Some a) None
refused true fits a none = sym (ap (λ b. cond b (Some a) None) none)
refused false fits a none = refl

-- where one digit more makes the number too great, those behind it don't mend that
pub too_great : (most before d : ℕ) (digits : List ℕ) → IsInRange 48 57 d → most < before * 10 + (d - 48) → None ≡ spelled most before (d ∷ digits)
too_great most before d digits digit great =
    let least : before * 10 + digit_value d ≤ digits_value_after 10 (before * 10 + digit_value d) digits = after_least (before * 10 + digit_value d) digits in
    let is : digit_value d ≡ d - 48 = omega (arith, digit_value_digit d digit) in
    let beyond : nat_le (digits_value_after 10 before (d ∷ digits)) most ≡ false = grind (arith, nat_tests) in
    refused (all_ascii_digits (d ∷ digits)) _ _ beyond
