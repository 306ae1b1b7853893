use Rattle.std.proofs.Common.{◌≡◌, ◌+◌, ◌%◌, ◌/◌, ◌++◌, ◌∷◌, [], ◌∙◌, sym, ap, List, ℕ}
use Rattle.std.proofs.Common.{append_assoc, arith}
use Rattle.std.specs.Fmt.{decimal}
use Rattle.std.proofs.lemmas.Fmt.{decimal_step, decimal_digit}
use Rattle.tpal_print.proofs.parts.+push_number.Goals as goal
use Rattle.tpal_print.proofs.parts.+push_number.Goals.{then-n-ge10+in_ok-push_number, else-n-ge10}

pub returns : goal.returns
returns t c =
    let n = c.args.n in
    let before = c.args.out.now.items in
    let digit = 48 + n % 10 in
    elim c.if-n-ge10.branch [
      | then-n-ge10+in_ok-push_number w ↦
          c.in_ok-push.ensures.items
          ∙ ap (λ v. v.items ++ digit ∷ []) w.out-is
          ∙ ap (λ (x : List ℕ). x ++ digit ∷ []) w.in_ok-push_number.ensures
          ∙ append_assoc before (decimal (n / 10)) (digit ∷ [])
          ∙ ap (λ (x : List ℕ). before ++ x) (sym (decimal_step n (omega arith) (omega arith)))
      | else-n-ge10 w ↦
          let small : n % 10 ≡ n = omega arith in
          c.in_ok-push.ensures.items
          ∙ ap (λ v. v.items ++ digit ∷ []) w.out-is
          ∙ ap (λ (x : ℕ). before ++ (48 + x) ∷ []) small
          ∙ ap (λ (x : List ℕ). before ++ x) (sym (decimal_digit n (omega arith)))
    ]
