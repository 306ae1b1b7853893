-- Which `par` loops are round plays no part in the rules of names, limits and loop variables; how many does.
use Rattle.std.proofs.Common.{◌≡◌, ◌++◌, ◌∷◌, [], List, Option, refl, sym, ap, ◌∙◌}
use Rattle.loop_syntax.specs.declared.RowAt.TheVariants as row
use Rattle.loop_syntax.specs.declared.Carry.{Carry}
use Rattle.loop_syntax.specs.declared.Carry.TheVariants as carry
use Rattle.loop_syntax.specs.declared.Expr.{Expr}
use Rattle.loop_syntax.specs.declared.Expr.TheVariants.{Int, Var, Cell', Rows, Cols, Neg', Bin'}
use Rattle.loop_syntax.specs.declared.App.{App}
use Rattle.loop_syntax.specs.declared.Stmt.{Stmt, Row_of-Stmt, end_of-Stmt, more_of-Stmt}
use Rattle.loop_syntax.specs.declared.Stmt.TheVariants.{Let, Set, Put, If', While', Loop', Par'}
use Rattle.loop_syntax.specs.declared.Stmt.TheVariants.{Fold, Call, Both, Print, Emit, Leave, Fill}
use Rattle.loop_rules.specs.declared.fault.Fault.{Fault}
use Rattle.loop_rules.specs.Sites.{Site, Spot, in_expr, in_whole, in_args, in_app, in_carries}
use Rattle.loop_rules.specs.Sites.{in_stmt, in_all, in_list, in_loop, in_par, spot_after}
use Rattle.loop_rules.specs.Search.{lowest_at, lowest_in, resolved_rules}
use Rattle.loop_rules.proofs.Searching.{lowest_in_append}

-- without the loops round
abbrev pub bare : Spot → Spot
bare w = record w { rounds = [] }

record Same (xs ys : List Site) : Type 0 where
  at : (b : Option Fault) → lowest_in resolved_rules b xs ≡ lowest_in resolved_rules b ys

none : Same [] []
none = record { at = λ b. refl }

same_append : (xs ys us vs : List Site) → Same xs us → Same ys vs → Same (xs ++ ys) (us ++ vs)
same_append xs ys us vs f g = record {
  at = λ b. lowest_in_append resolved_rules b xs ys ∙ ap (λ c. lowest_in resolved_rules c ys) (f.at b) ∙ g.at (lowest_in resolved_rules b us) ∙ sym (lowest_in_append resolved_rules b us vs);
}

same_cons : (s t : Site) (xs ys : List Site) → ((b : Option Fault) → lowest_at resolved_rules b s ≡ lowest_at resolved_rules b t) → Same xs ys → Same (s ∷ xs) (t ∷ ys)
same_cons s t xs ys f g = record { at = λ b. ap (λ c. lowest_in resolved_rules c xs) (f b) ∙ g.at (lowest_at resolved_rules b t) }

expr_apart : (w : Spot) (e : Expr) → Same (in_expr w e) (in_expr (bare w) e)
expr_apart w (Int n p) = none
expr_apart w (Var x) = record { at = λ b. refl }
expr_apart w (Cell' t p a q b) =
    same_cons _ _ _ _ (λ b. refl) (same_cons _ _ _ _ (λ b. refl) (same_append _ _ _ _ (expr_apart w a) (expr_apart w b)))
expr_apart w (Rows t) = record { at = λ b. refl }
expr_apart w (Cols t) = record { at = λ b. refl }
expr_apart w (Neg' p a place) = expr_apart w a
expr_apart w (Bin' o place p a q b) = same_append _ _ _ _ (expr_apart w a) (expr_apart w b)

whole_apart : (w : Spot) (e : Expr) → Same (in_whole w e) (in_whole (bare w) e)
whole_apart w e = same_cons _ _ _ _ (λ b. refl) (expr_apart w e)

args_apart : (w : Spot) (es : List Expr) → Same (in_args w es) (in_args (bare w) es)
args_apart w [] = none
args_apart w (e ∷ es) = same_append _ _ _ _ (whole_apart w e) (args_apart w es)

app_apart : (w : Spot) (f : App) → Same (in_app w f) (in_app (bare w) f)
app_apart w f = same_cons _ _ _ _ (λ b. refl) (args_apart w f.args.items)

carries_apart : (w : Spot) (cs : List Carry) → Same (in_carries w cs) (in_carries (bare w) cs)
carries_apart w [] = none
carries_apart w (carry.Rows t i ∷ cs) = same_cons _ _ _ _ (λ b. refl) (carries_apart w cs)
carries_apart w (carry.Cells t (row.Var k) j ∷ cs) = same_cons _ _ _ _ (λ b. refl) (same_cons _ _ _ _ (λ b. refl) (carries_apart w cs))
carries_apart w (carry.Cells t (row.Int n) j ∷ cs) = same_cons _ _ _ _ (λ b. refl) (carries_apart w cs)

after_bare : (w : Spot) (s : Stmt) → spot_after (bare w) s ≡ bare (spot_after w s)
after_bare w (Let x e) = refl
after_bare w _ = refl

two_bare : (xs ys zs : List Site) → Same xs zs → Same ys zs → Same xs ys
two_bare xs ys zs f g = record { at = λ b. f.at b ∙ sym (g.at b) }

mutual
  stmt_apart : (w : Spot) (s : Stmt) → Same (in_stmt w s) (in_stmt (bare w) s)
  stmt_apart w (Let x e) = same_cons _ _ _ _ (λ b. refl) (whole_apart w e)
  stmt_apart w (Set x e) = same_cons _ _ _ _ (λ b. refl) (whole_apart w e)
  stmt_apart w (Put t a b e) =
      same_cons _ _ _ _ (λ b. refl) (same_cons _ _ _ _ (λ b. refl) (same_append _ _ _ _ (whole_apart w a) (same_append _ _ _ _ (whole_apart w b) (whole_apart w e))))
  stmt_apart w (If' e p body q other) = same_append _ _ _ _ (whole_apart w e) (same_append _ _ _ _ (all_apart w body) (all_apart w other))
  stmt_apart w (While' e p body) = same_append _ _ _ _ (whole_apart w e) (all_apart w body)
  stmt_apart w (Loop' x a b p body) =
      same_cons _ _ _ _ (λ b. refl) (same_append _ _ _ _ (whole_apart w a) (same_append _ _ _ _ (whole_apart w b) (all_apart (in_loop w x) body)))
  stmt_apart w (Par' place x a b carry_place carries reduces p body) =
      same_cons _ _ _ _ (λ b. refl) (same_cons _ _ _ _ (λ b. refl) (same_cons _ _ _ _ (λ b. refl)
      (same_append _ _ _ _ (whole_apart w a) (same_append _ _ _ _ (whole_apart w b)
      (same_append _ _ _ _ (carries_apart w carries.items)
      (two_bare _ _ _ (all_apart (in_par w x carries.items reduces.items) body) (all_apart (in_par (bare w) x carries.items reduces.items) body)))))))
  stmt_apart w (Fold x e) = same_cons _ _ _ _ (λ b. refl) (whole_apart w e)
  stmt_apart w (Call x f) = same_cons _ _ _ _ (λ b. refl) (app_apart w f)
  stmt_apart w (Both x f y g) =
      same_cons _ _ _ _ (λ b. refl) (same_append _ _ _ _ (app_apart w f) (same_cons _ _ _ _ (λ b. refl) (same_cons _ _ _ _ (λ b. refl) (app_apart w g))))
  stmt_apart w (Print place e) = same_cons _ _ _ _ (λ b. refl) (whole_apart w e)
  stmt_apart w (Emit place t) = record { at = λ b. refl }
  stmt_apart w (Leave x e) = same_cons _ _ _ _ (λ b. refl) (whole_apart w e)
  stmt_apart w (Fill f t r es) = none

  all_apart : {m : _} (w : Spot) (row : Row_of-Stmt m) → Same (in_all w row) (in_all (bare w) row)
  all_apart w end_of-Stmt = none
  all_apart w (more_of-Stmt first rest) =
      rw (after_bare w first) (same_append _ _ _ _ (stmt_apart w first) (all_apart (spot_after w first) rest))

list_apart : (w : Spot) (ss : List Stmt) → Same (in_list w ss) (in_list (bare w) ss)
list_apart w [] = none
list_apart w (s ∷ ss) = rw (after_bare w s) (same_append _ _ _ _ (stmt_apart w s) (list_apart (spot_after w s) ss))

pub rounds_apart : (b : Option Fault) (w : Spot) (ss : List Stmt) → lowest_in resolved_rules b (in_list w ss) ≡ lowest_in resolved_rules b (in_list (bare w) ss)
rounds_apart b w ss = (list_apart w ss).at b
