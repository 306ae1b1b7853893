-- What a function does is the same anywhere.
use Rattle.std.proofs.Common.{◌≡◌, ◌++◌, ◌∷◌, [], ℕ, suc, ◌<◌, ◌+◌, drop, drop-cons, add-one}
use Rattle.std.proofs.Common.{get_or, Vec, List, length, refl, Bool, false, ◌||◌, sym, ap, ◌∙◌}
use Rattle.loop_syntax.specs.declared.RowAt.TheVariants as row
use Rattle.loop_syntax.specs.declared.Carry.{Carry}
use Rattle.loop_syntax.specs.declared.Carry.TheVariants as carry
use Rattle.loop_syntax.specs.declared.Expr.{Expr}
use Rattle.loop_syntax.specs.declared.Expr.TheVariants.{Int, Var, Cell', Rows, Cols, Neg', Bin'}
use Rattle.std.specs.declared.alloc.Global.{Global}
use Rattle.loop_syntax.specs.declared.Name.{Name}
use Rattle.loop_syntax.specs.declared.Func.{Func}
use Rattle.loop_syntax.specs.declared.ParLoop.{ParLoop}
use Rattle.loop_syntax.specs.declared.Program.{Program}
use Rattle.loop_rules.specs.declared.part.Part.TheVariants.{OfFunc}
use Rattle.loop_syntax.specs.declared.App.{App}
use Rattle.loop_syntax.specs.declared.Stmt.{Stmt, Row_of-Stmt, end_of-Stmt, more_of-Stmt}
use Rattle.loop_syntax.specs.declared.Stmt.TheVariants.{Loop, Par, Let, Set, Put, If', While'}
use Rattle.loop_syntax.specs.declared.Stmt.TheVariants.{Loop', Par', Fold, Call, Both, Print, Emit, Leave, Fill}
use Rattle.loop_rules.specs.Sites.{Site, Spot, site, Calls, top, tables_of, func_spot, spot_of_list}
use Rattle.loop_rules.specs.Sites.{in_func, in_params, declared_var, in_expr, in_whole, in_args}
use Rattle.loop_rules.specs.Sites.{in_app, in_carries, in_stmt, in_all, in_list, in_loop, in_par}
use Rattle.loop_rules.specs.Sites.{spot_after}
use Rattle.loop_check.specs.declared.usage.Usage.{Usage}
use Rattle.loop_check.specs.Usage.{is_use, any_use, anywhere}
use Rattle.loop_rules.proofs.Walking.{in_looped, in_parallel}

pub any_append : (u : Usage) (b : Bool) (xs ys : List Site) → any_use u b (xs ++ ys) ≡ any_use u (any_use u b xs) ys
any_append u b [] ys = refl
any_append u b (s ∷ xs) ys = any_append u (is_use u s.act || b) xs ys

record Same (xs ys : List Site) : Type 0 where
  at : (rs : Usage) (b : Bool) → any_use rs b xs ≡ any_use rs b ys

none : Same [] []
none = record { at = λ rs b. refl }

same_append : (xs ys us vs : List Site) → Same xs us → Same ys vs → Same (xs ++ ys) (us ++ vs)
same_append xs ys us vs f g = record {
  at = λ rs b. any_append rs b xs ys ∙ ap (λ c. any_use rs c ys) (f.at rs b) ∙ g.at rs (any_use rs b us) ∙ sym (any_append rs b us vs);
}

same_cons : (s t : Site) (xs ys : List Site) → ((rs : Usage) → is_use rs s.act ≡ is_use rs t.act) → Same xs ys → Same (s ∷ xs) (t ∷ ys)
same_cons s t xs ys f g = record { at = λ rs b. ap (λ c. any_use rs (c || b) xs) (f rs) ∙ g.at rs (is_use rs t.act || b) }

expr_apart : (w : Spot) (e : Expr) → Same (in_expr w e) (in_expr anywhere e)
expr_apart w (Int n p) = none
expr_apart w (Var x) = record { at = λ rs b. refl }
expr_apart w (Cell' t p a q b) =
    same_cons _ _ _ _ (λ rs. refl) (same_cons _ _ _ _ (λ rs. refl) (same_append _ _ _ _ (expr_apart w a) (expr_apart w b)))
expr_apart w (Rows t) = record { at = λ rs b. refl }
expr_apart w (Cols t) = record { at = λ rs b. refl }
expr_apart w (Neg' p a place) = expr_apart w a
expr_apart w (Bin' o place p a q b) = same_append _ _ _ _ (expr_apart w a) (expr_apart w b)

whole_apart : (w : Spot) (e : Expr) → Same (in_whole w e) (in_whole anywhere e)
whole_apart w e = same_cons _ _ _ _ (λ rs. refl) (expr_apart w e)

args_apart : (w : Spot) (es : List Expr) → Same (in_args w es) (in_args anywhere es)
args_apart w [] = none
args_apart w (e ∷ es) = same_append _ _ _ _ (whole_apart w e) (args_apart w es)

app_apart : (w : Spot) (f : App) → Same (in_app w f) (in_app anywhere f)
app_apart w f =
    same_cons (site w (Calls f.callee (length f.args.items))) (site anywhere (Calls f.callee (length f.args.items))) _ _ (λ rs. refl) (args_apart w f.args.items)

carries_apart : (w : Spot) (cs : List Carry) → Same (in_carries w cs) (in_carries anywhere cs)
carries_apart w [] = none
carries_apart w (carry.Rows t i ∷ cs) = same_cons _ _ _ _ (λ rs. refl) (carries_apart w cs)
carries_apart w (carry.Cells t (row.Var k) j ∷ cs) = same_cons _ _ _ _ (λ rs. refl) (same_cons _ _ _ _ (λ rs. refl) (carries_apart w cs))
carries_apart w (carry.Cells t (row.Int n) j ∷ cs) = same_cons _ _ _ _ (λ rs. refl) (carries_apart w cs)

two_bare : (xs ys zs : List Site) → Same xs zs → Same ys zs → Same xs ys
two_bare xs ys zs f g = record { at = λ rs b. f.at rs b ∙ sym (g.at rs b) }

mutual
  stmt_apart : (w : Spot) (s : Stmt) → Same (in_stmt w s) (in_stmt anywhere s)
  stmt_apart w (Let x e) = same_cons _ _ _ _ (λ rs. refl) (whole_apart w e)
  stmt_apart w (Set x e) = same_cons _ _ _ _ (λ rs. refl) (whole_apart w e)
  stmt_apart w (Put t a b e) =
      same_cons _ _ _ _ (λ rs. refl) (same_cons _ _ _ _ (λ rs. refl) (same_append _ _ _ _ (whole_apart w a) (same_append _ _ _ _ (whole_apart w b) (whole_apart w e))))
  stmt_apart w (If' e p body q other) = same_append _ _ _ _ (whole_apart w e) (same_append _ _ _ _ (all_apart w body) (all_apart w other))
  stmt_apart w (While' e p body) = same_append _ _ _ _ (whole_apart w e) (all_apart w body)
  stmt_apart w (Loop' x a b p body) =
      same_cons _ _ _ _ (λ rs. refl) (same_append _ _ _ _ (whole_apart w a) (same_append _ _ _ _ (whole_apart w b) (two_bare _ _ _ (all_apart (in_loop w x) body) (all_apart (in_loop anywhere x) body))))
  stmt_apart w (Par' place x a b carry_place carries reduces p body) =
      same_cons _ _ _ _ (λ rs. refl) (same_cons _ _ _ _ (λ rs. refl) (same_cons _ _ _ _ (λ rs. refl)
      (same_append _ _ _ _ (whole_apart w a) (same_append _ _ _ _ (whole_apart w b)
      (same_append _ _ _ _ (carries_apart w carries.items)
      (two_bare _ _ _ (all_apart (in_par w x carries.items reduces.items) body) (all_apart (in_par anywhere x carries.items reduces.items) body)))))))
  stmt_apart w (Fold x e) = same_cons _ _ _ _ (λ rs. refl) (whole_apart w e)
  stmt_apart w (Call x f) = same_cons _ _ _ _ (λ rs. refl) (app_apart w f)
  stmt_apart w (Both x f y g) =
      same_cons _ _ _ _ (λ rs. refl) (same_append _ _ _ _ (app_apart w f) (same_cons _ _ _ _ (λ rs. refl) (same_cons _ _ _ _ (λ rs. refl) (app_apart w g))))
  stmt_apart w (Print place e) = same_cons _ _ _ _ (λ rs. refl) (whole_apart w e)
  stmt_apart w (Emit place t) = record { at = λ rs b. refl }
  stmt_apart w (Leave x e) = same_cons _ _ _ _ (λ rs. refl) (whole_apart w e)
  stmt_apart w (Fill f t r es) = none

  all_apart : {m : _} (w : Spot) (row : Row_of-Stmt m) → Same (in_all w row) (in_all anywhere row)
  all_apart w end_of-Stmt = none
  all_apart w (more_of-Stmt first rest) =
      same_append _ _ _ _ (stmt_apart w first) (two_bare _ _ _ (all_apart (spot_after w first) rest) (all_apart (spot_after anywhere first) rest))

list_apart : (w : Spot) (ss : List Stmt) → Same (in_list w ss) (in_list anywhere ss)
list_apart w [] = none
list_apart w (s ∷ ss) = same_append _ _ _ _ (stmt_apart w s) (two_bare _ _ _ (list_apart (spot_after w s) ss) (list_apart (spot_after anywhere s) ss))

pub list_anywhere : (u : Usage) (b : Bool) (w : Spot) (ss : List Stmt) → any_use u b (in_list w ss) ≡ any_use u b (in_list anywhere ss)
list_anywhere u b w ss = (list_apart w ss).at u b

pub whole_anywhere : (u : Usage) (b : Bool) (w : Spot) (e : Expr) → any_use u b (in_whole w e) ≡ any_use u b (in_whole anywhere e)
whole_anywhere u b w e = (whole_apart w e).at u b

carries_none : (u : Usage) (b : Bool) (w : Spot) (cs : List Carry) → any_use u b (in_carries w cs) ≡ b
carries_none u b w [] = refl
carries_none u b w (carry.Rows t i ∷ cs) = carries_none u b w cs
carries_none u b w (carry.Cells t (row.Var k) j ∷ cs) = carries_none u b w cs
carries_none u b w (carry.Cells t (row.Int n) j ∷ cs) = carries_none u b w cs

params_none : (u : Usage) (b : Bool) (w : Spot) (xs : List Name) → any_use u b (in_params w xs) ≡ b
params_none u b w [] = refl
params_none u b w (x ∷ xs) = params_none u b (declared_var w x) xs

-- ---- parts in order

module _ (u : Usage) where
  pub two_uses : (f g h : Bool) (xs ys : List Site) → g ≡ any_use u f xs → h ≡ any_use u g ys → h ≡ any_use u f (xs ++ ys)
  two_uses f g h xs ys p q = q ∙ ap (λ b. any_use u b ys) p ∙ sym (any_append u f xs ys)

  pub args_uses : (b : Bool) (i : ℕ) (es : List Expr) (e : Expr) → i < length es → e ≡ get_or es i e → any_use u (any_use u b (in_whole anywhere e)) (in_args anywhere (drop (i + 1) es)) ≡ any_use u b (in_args anywhere (drop i es))
  args_uses b i es e lt is = rw (add-one, drop-cons es i e lt, ← is) (sym (any_append u b (in_whole anywhere e) (in_args anywhere (drop (suc i) es))))

  pub list_uses : (b : Bool) (i : ℕ) (ss : List Stmt) (s : Stmt) → i < length ss → s ≡ get_or ss i s → any_use u (any_use u b (in_stmt anywhere s)) (in_list anywhere (drop (i + 1) ss)) ≡ any_use u b (in_list anywhere (drop i ss))
  list_uses b i ss s lt is =
      rw (add-one, drop-cons ss i s lt, ← is)
      (sym (any_append u b (in_stmt anywhere s) (in_list (spot_after anywhere s) (drop (suc i) ss)) ∙ list_anywhere u (any_use u b (in_stmt anywhere s)) (spot_after anywhere s) (drop (suc i) ss)))

  pub looped_uses : (f g h : Bool) (x : Name) (a b : Expr) (body : Vec Stmt Global) → g ≡ any_use u f (in_whole anywhere a ++ in_whole anywhere b) → h ≡ any_use u g (in_list anywhere body.items)
      → h ≡ any_use u f (in_stmt anywhere (Loop x a b body))
  looped_uses f g h x a b body p q =
      two_uses f g h (in_whole anywhere a ++ in_whole anywhere b) (in_list (in_loop anywhere x) body.items) p (q ∙ sym (list_anywhere u g (in_loop anywhere x) body.items))
      ∙ ap (any_use u f) (sym (in_looped anywhere x a b body))

  pub par_uses : (f g h : Bool) (l : ParLoop) → g ≡ any_use u f (in_whole anywhere l.from ++ in_whole anywhere l.to) → h ≡ any_use u g (in_list anywhere l.body.items)
      → h ≡ any_use u f (in_stmt anywhere (Par l))
  par_uses f g h l p q =
      let v : Spot = in_par anywhere l.var l.carries.items l.reduces.items in
      let carried : List Site = in_carries anywhere l.carries.items in
      two_uses f g h (in_whole anywhere l.from ++ in_whole anywhere l.to) (carried ++ in_list v l.body.items) p
      (two_uses g g h carried (in_list v l.body.items) (sym (carries_none u g anywhere l.carries.items)) (q ∙ sym (list_anywhere u g v l.body.items)))
      ∙ ap (any_use u f) (sym (in_parallel anywhere l))

  pub func_uses : (p : Program) (g : Func) (a b : Bool) → a ≡ any_use u false (in_list anywhere g.body.items) → b ≡ any_use u a (in_whole anywhere g.result) → b ≡ any_use u false (in_func p g)
  func_uses p g a b h k =
      let params : List Site = in_params (top OfFunc (tables_of p) p.funcs.items) g.params.items in
      let body : List Site = in_list (func_spot p g) g.body.items in
      let last : List Site = in_whole (spot_of_list (func_spot p g) g.body.items) g.result in
      two_uses false false b params (body ++ last) (sym (params_none u false (top OfFunc (tables_of p) p.funcs.items) g.params.items))
      (two_uses false a b body last (h ∙ sym (list_anywhere u false (func_spot p g) g.body.items)) (k ∙ sym (whole_anywhere u a (spot_of_list (func_spot p g) g.body.items) g.result)))
