-- The rules of disjoint writes look at the visible variables, at loops' variables and at the `par` loops round, and at nothing else of a spot.
use Rattle.std.proofs.Common.{◌≡◌, ◌++◌, ◌∷◌, [], ℕ, ◌||◌, List, length, Option, refl, sym, ap, ◌∙◌}
use Rattle.loop_syntax.specs.declared.Name.{Name}
use Rattle.loop_syntax.specs.declared.RowAt.TheVariants as row
use Rattle.loop_syntax.specs.declared.Carry.{Carry}
use Rattle.loop_syntax.specs.declared.Carry.TheVariants as carry
use Rattle.loop_syntax.specs.declared.Expr.{Expr}
use Rattle.loop_syntax.specs.declared.Expr.TheVariants.{Int, Var, Cell', Rows, Cols, Neg', Bin'}
use Rattle.loop_syntax.specs.declared.App.{App}
use Rattle.loop_syntax.specs.declared.Stmt.{Stmt, Row_of-Stmt, end_of-Stmt, more_of-Stmt}
use Rattle.loop_syntax.specs.declared.Stmt.TheVariants.{Let, Set, Put, If', While', Loop', Par'}
use Rattle.loop_syntax.specs.declared.Stmt.TheVariants.{Fold, Call, Both, Print, Emit, Leave, Fill}
use Rattle.loop_rules.specs.declared.fault.Fault.{Fault}
use Rattle.loop_rules.specs.declared.rule.Rule.TheVariants as rules
use Rattle.loop_rules.specs.Leaves.{has_other, bad_lefts}
use Rattle.loop_rules.specs.Names.{is_in}
use Rattle.loop_rules.specs.Reductions.{any_loop}
use Rattle.loop_rules.specs.Scopes.{at}
use Rattle.loop_rules.specs.Sites.{Site, Spot, site, Calls, LeavesAll, in_expr, in_whole, in_args}
use Rattle.loop_rules.specs.Sites.{in_app}
use Rattle.loop_rules.specs.Targets.{targets_all}
use Rattle.loop_rules.specs.Sites.{in_carries, in_stmt, in_all, in_list, in_loop, in_par}
use Rattle.loop_rules.specs.Sites.{spot_after}
use Rattle.loop_check.specs.declared.reader.Reader.{Reader}
use Rattle.loop_check.specs.Walk.{spot}
use Rattle.loop_rules.specs.Search.{lowest, lowest_at, lowest_in}
use Rattle.loop_check.specs.Search.{checked_rules}
use Rattle.loop_rules.proofs.Searching.{lowest_in_append}

-- with no more than these rules look at
abbrev pub bare : Spot → Spot
bare w = spot w.scope w.loops w.rounds

record Same (xs ys : List Site) : Type 0 where
  at : (rs : List Reader) (b : Option Fault) → lowest_in (checked_rules rs) b xs ≡ lowest_in (checked_rules rs) b ys

none : Same [] []
none = record { at = λ rs b. refl }

same_append : (xs ys us vs : List Site) → Same xs us → Same ys vs → Same (xs ++ ys) (us ++ vs)
same_append xs ys us vs f g = record {
  at = λ rs b. lowest_in_append (checked_rules rs) b xs ys ∙ ap (λ c. lowest_in (checked_rules rs) c ys) (f.at rs b) ∙ g.at rs (lowest_in (checked_rules rs) b us) ∙ sym (lowest_in_append (checked_rules rs) b us vs);
}

same_cons : (s t : Site) (xs ys : List Site) → ((rs : List Reader) (b : Option Fault) → lowest_at (checked_rules rs) b s ≡ lowest_at (checked_rules rs) b t) → Same xs ys → Same (s ∷ xs) (t ∷ ys)
same_cons s t xs ys f g = record { at = λ rs b. ap (λ c. lowest_in (checked_rules rs) c xs) (f rs b) ∙ g.at rs (lowest_at (checked_rules rs) b t) }

expr_apart : (w : Spot) (e : Expr) → Same (in_expr w e) (in_expr (bare w) e)
expr_apart w (Int n p) = none
expr_apart w (Var x) = record { at = λ rs b. refl }
expr_apart w (Cell' t p a q b) =
    same_cons _ _ _ _ (λ rs b. refl) (same_cons _ _ _ _ (λ rs b. refl) (same_append _ _ _ _ (expr_apart w a) (expr_apart w b)))
expr_apart w (Rows t) = record { at = λ rs b. refl }
expr_apart w (Cols t) = record { at = λ rs b. refl }
expr_apart w (Neg' p a place) = expr_apart w a
expr_apart w (Bin' o place p a q b) = same_append _ _ _ _ (expr_apart w a) (expr_apart w b)

whole_apart : (w : Spot) (e : Expr) → Same (in_whole w e) (in_whole (bare w) e)
whole_apart w e = same_cons _ _ _ _ (λ rs b. refl) (expr_apart w e)

args_apart : (w : Spot) (es : List Expr) → Same (in_args w es) (in_args (bare w) es)
args_apart w [] = none
args_apart w (e ∷ es) = same_append _ _ _ _ (whole_apart w e) (args_apart w es)

app_apart : (w : Spot) (f : App) → Same (in_app w f) (in_app (bare w) f)
app_apart w f =
    same_cons (site w (Calls f.callee (length f.args.items))) (site (bare w) (Calls f.callee (length f.args.items))) _ _ (λ rs b. refl) (args_apart w f.args.items)

carries_apart : (w : Spot) (cs : List Carry) → Same (in_carries w cs) (in_carries (bare w) cs)
carries_apart w [] = none
carries_apart w (carry.Rows t i ∷ cs) = same_cons _ _ _ _ (λ rs b. refl) (carries_apart w cs)
carries_apart w (carry.Cells t (row.Var k) j ∷ cs) = same_cons _ _ _ _ (λ rs b. refl) (same_cons _ _ _ _ (λ rs b. refl) (carries_apart w cs))
carries_apart w (carry.Cells t (row.Int n) j ∷ cs) = same_cons _ _ _ _ (λ rs b. refl) (carries_apart w cs)

after_bare : (w : Spot) (s : Stmt) → spot_after (bare w) s ≡ bare (spot_after w s)
after_bare w (Let x e) = refl
after_bare w _ = refl

two_bare : (xs ys zs : List Site) → Same xs zs → Same ys zs → Same xs ys
two_bare xs ys zs f g = record { at = λ rs b. f.at rs b ∙ sym (g.at rs b) }

lefts_bare : (before : List (List ℕ)) (xs : List Name) (w : Spot) → bad_lefts before xs w ≡ bad_lefts before xs (bare w)
lefts_bare before [] w = refl
lefts_bare before (x ∷ xs) w =
    ap (λ ps. at x (any_loop (λ loop. is_in loop.outside x.text.items) w.rounds || is_in w.loops x.text.items || has_other before x.text.items) ++ ps)
    (lefts_bare (x.text.items ∷ before) xs w)

mutual
  stmt_apart : (w : Spot) (s : Stmt) → Same (in_stmt w s) (in_stmt (bare w) s)
  stmt_apart w (Let x e) = same_cons _ _ _ _ (λ rs b. refl) (whole_apart w e)
  stmt_apart w (Set x e) = same_cons _ _ _ _ (λ rs b. refl) (whole_apart w e)
  stmt_apart w (Put t a b e) =
      same_cons _ _ _ _ (λ rs b. refl) (same_cons _ _ _ _ (λ rs b. refl) (same_append _ _ _ _ (whole_apart w a) (same_append _ _ _ _ (whole_apart w b) (whole_apart w e))))
  stmt_apart w (If' e p body q other) = same_append _ _ _ _ (whole_apart w e) (same_append _ _ _ _ (all_apart w body) (all_apart w other))
  stmt_apart w (While' e p body) = same_append _ _ _ _ (whole_apart w e) (all_apart w body)
  stmt_apart w (Loop' x a b p body) =
      same_cons _ _ _ _ (λ rs b. refl) (same_append _ _ _ _ (whole_apart w a) (same_append _ _ _ _ (whole_apart w b) (two_bare _ _ _ (all_apart (in_loop w x) body) (all_apart (in_loop (bare w) x) body))))
  stmt_apart w (Par' place x a b carry_place carries reduces p body) =
      same_cons _ _ _ _ (λ rs b. refl) (same_cons (site w (LeavesAll (targets_all body))) (site (bare w) (LeavesAll (targets_all body))) _ _ (λ rs b. ap (lowest b rules.Leaves) (lefts_bare [] (targets_all body) w)) (same_cons _ _ _ _ (λ rs b. refl)
      (same_append _ _ _ _ (whole_apart w a) (same_append _ _ _ _ (whole_apart w b)
      (same_append _ _ _ _ (carries_apart w carries.items)
      (two_bare _ _ _ (all_apart (in_par w x carries.items reduces.items) body) (all_apart (in_par (bare w) x carries.items reduces.items) body)))))))
  stmt_apart w (Fold x e) = same_cons _ _ _ _ (λ rs b. refl) (whole_apart w e)
  stmt_apart w (Call x f) = same_cons _ _ _ _ (λ rs b. refl) (app_apart w f)
  stmt_apart w (Both x f y g) =
      same_cons _ _ _ _ (λ rs b. refl) (same_append _ _ _ _ (app_apart w f) (same_cons _ _ _ _ (λ rs b. refl) (same_cons _ _ _ _ (λ rs b. refl) (app_apart w g))))
  stmt_apart w (Print place e) = same_cons _ _ _ _ (λ rs b. refl) (whole_apart w e)
  stmt_apart w (Emit place t) = record { at = λ rs b. refl }
  stmt_apart w (Leave x e) = same_cons _ _ _ _ (λ rs b. refl) (whole_apart w e)
  stmt_apart w (Fill f t r es) = none

  all_apart : {m : _} (w : Spot) (row : Row_of-Stmt m) → Same (in_all w row) (in_all (bare w) row)
  all_apart w end_of-Stmt = none
  all_apart w (more_of-Stmt first rest) =
      rw (after_bare w first) (same_append _ _ _ _ (stmt_apart w first) (all_apart (spot_after w first) rest))

list_apart : (w : Spot) (ss : List Stmt) → Same (in_list w ss) (in_list (bare w) ss)
list_apart w [] = none
list_apart w (s ∷ ss) = rw (after_bare w s) (same_append _ _ _ _ (stmt_apart w s) (list_apart (spot_after w s) ss))

pub bare_apart : (rs : List Reader) (b : Option Fault) (w : Spot) (ss : List Stmt) → lowest_in (checked_rules rs) b (in_list w ss) ≡ lowest_in (checked_rules rs) b (in_list (bare w) ss)
bare_apart rs b w ss = (list_apart w ss).at rs b
