-- What a `par` sets where it is left is one of the targets of its `leave` statements.
use Rattle.std.proofs.Common.{◌≡◌, ℕ, List, Option, Some, None, subst}
use Rattle.loop_syntax.specs.declared.Name.{Name}
use Rattle.loop_syntax.specs.declared.Stmt.{Stmt, Row_of-Stmt, end_of-Stmt, more_of-Stmt}
use Rattle.loop_syntax.specs.declared.Stmt.TheVariants.{If', While', Loop', Leave}
use Rattle.loop_rules.specs.Targets.{targets_in, targets_all}
use Rattle.loop_meaning.specs.Leaving.{or_else, left_of, left_in}
use Rattle.loop_check.proofs.Lists.{Each, each_left, each_right}

one_of_two : (a b : Option (List ℕ)) (x : List ℕ) (Q : Type 0) → (a ≡ Some x → Q) → (b ≡ Some x → Q) → or_else a b ≡ Some x → Q
one_of_two None b x Q f g e = g e
one_of_two (Some y) b x Q f g e = f e

-- what holds of all targets holds of the one that is set
module _ (P : List ℕ → Type 0) (x : List ℕ) where
  abbrev All : List Name → Type 0
  All names = Each (λ (n : Name). P n.text.items) names

  mutual
    left_stmt : (s : Stmt) → All (targets_in s) → left_of s ≡ Some x → P x
    left_stmt (Leave target value) h e = let is : target.text.items ≡ x = cc in subst P is h.0
    left_stmt (If' condition p body q other) h e =
        one_of_two (left_in body) (left_in other) x (P x)
        (left_row body (each_left _ (targets_all body) (targets_all other) h))
        (left_row other (each_right _ (targets_all body) (targets_all other) h)) e
    left_stmt (While' condition p body) h e = left_row body h e
    left_stmt (Loop' variable from to p body) h e = left_row body h e
    left_stmt _ h e = absurd (cc)

    pub left_row : {m : _} (row : Row_of-Stmt m) → All (targets_all row) → left_in row ≡ Some x → P x
    left_row end_of-Stmt h e = absurd (cc)
    left_row (more_of-Stmt first rest) h e =
        one_of_two (left_of first) (left_in rest) x (P x)
        (left_stmt first (each_left _ (targets_in first) (targets_all rest) h))
        (left_row rest (each_right _ (targets_in first) (targets_all rest) h)) e
