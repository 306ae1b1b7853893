-- Where statements stand in a program: what is visible behind a statement.
use Rattle.std.proofs.Common.{◌≡◌, ℕ, ◌+◌, ◌≤◌, List, []}
use Rattle.std.proofs.Common.{◌∷◌, ◌++◌, length, refl, ap, subst, ◌∙◌, arith}
use Rattle.std.proofs.lemmas.List.{length-append}
use Rattle.loop_syntax.specs.declared.Stmt.{Stmt, Row_of-Stmt}
use Rattle.loop_syntax.specs.declared.Stmt.TheVariants.{Let}
use Rattle.loop_rules.specs.Declarations.{declared_in}
use Rattle.loop_rules.specs.Sites.{Spot, in_stmt, in_all, in_list, spot_after, spot_of_list}
use Rattle.loop_check.proofs.Lists.{Each, each_right}
use Rattle.scene_laws.specs.Names.{names_after, names_after_list}
use Rattle.code_laws.proofs.Rules.UnbrokenExpressions.{Keeps}

-- the same spot with other variables
abbrev pub with_names : Spot → List (List ℕ) → Spot
with_names w names = record w { scope = names }

after_is : (w : Spot) (s : Stmt) → spot_after w s ≡ with_names w (names_after w.scope s)
after_is w (Let x e) = refl
after_is w _ = refl

pub end_is : (w : Spot) (ss : List Stmt) → spot_of_list w ss ≡ with_names w (names_after_list w.scope ss)
end_is w [] = refl
end_is w (s ∷ ss) = ap (λ (v : Spot). spot_of_list v ss) (after_is w s) ∙ end_is (with_names w (names_after w.scope s)) ss

pub behind_first : {m : _} (w : Spot) (s : Stmt) (rest : Row_of-Stmt m) → Each Keeps (in_stmt w s ++ in_all (spot_after w s) rest) → Each Keeps (in_all (with_names w (names_after w.scope s)) rest)
behind_first w s rest k = subst (λ (v : Spot). Each Keeps (in_all v rest)) (after_is w s) (each_right Keeps (in_stmt w s) (in_all (spot_after w s) rest) k)

pub behind_head : (w : Spot) (s : Stmt) (ss : List Stmt) → Each Keeps (in_stmt w s ++ in_list (spot_after w s) ss) → Each Keeps (in_list (with_names w (names_after w.scope s)) ss)
behind_head w s ss k = subst (λ (v : Spot). Each Keeps (in_list v ss)) (after_is w s) (each_right Keeps (in_stmt w s) (in_list (spot_after w s) ss) k)

-- no more variables are visible than were declared
pub long_after : (names : List (List ℕ)) (s : Stmt) → length (names_after names s) ≤ length names + length (declared_in s)
long_after names (Let x e) = omega (arith, length-append names (x.text.items ∷ []))
long_after names _ = omega arith
