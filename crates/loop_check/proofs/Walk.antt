-- What holds at every site of a statement, where it follows at each site from what stands there and from what holds of the spot.
use Rattle.std.proofs.Common.{List, [], ◌∷◌, ◌++◌}
use Rattle.tp_value.specs.declared.Place.{Place}
use Rattle.loop_syntax.specs.declared.Name.{Name}
use Rattle.loop_syntax.specs.declared.App.{App}
use Rattle.loop_syntax.specs.declared.Expr.{Expr}
use Rattle.loop_syntax.specs.declared.Expr.TheVariants.{Int, Var, Cell', Rows, Cols, Neg', Bin'}
use Rattle.loop_syntax.specs.declared.RowAt.TheVariants as row
use Rattle.loop_syntax.specs.declared.Carry.{Carry}
use Rattle.loop_syntax.specs.declared.Carry.TheVariants as carry
use Rattle.loop_syntax.specs.declared.Reduce.{Reduce}
use Rattle.loop_syntax.specs.declared.Stmt.{Stmt, Row_of-Stmt, end_of-Stmt, more_of-Stmt}
use Rattle.loop_syntax.specs.declared.Stmt.TheVariants.{Let, Set, Put, If', While', Loop', Par'}
use Rattle.loop_syntax.specs.declared.Stmt.TheVariants.{Fold, Call, Both, Print, Emit, Leave, Fill}
use Rattle.loop_rules.specs.Sites.{Act, Declares, Uses, Assigns, Folds, AssignsBoth, NamesTable}
use Rattle.loop_rules.specs.Sites.{ReadsCell, WritesCell, Calls, Evaluates, Shows, Parallel, Leaves, LeavesAll, Spot}
use Rattle.loop_rules.specs.Sites.{Site, site, in_expr, in_whole, in_args, in_app, in_carries}
use Rattle.loop_rules.specs.Sites.{in_stmt, in_all, in_list, spot_after, spot_of_list, declared_var}
use Rattle.loop_rules.specs.Sites.{in_loop, in_par, the_loop}
use Rattle.loop_rules.specs.Targets.{targets_all}
use Rattle.loop_check.proofs.Lists.{Each, each_left, each_right, each_both}

module _ (F T : Act → Spot → Type 0) (I : Spot → Type 0)
    (site_ok : (a : Act) (w : Spot) → F a w → I w → T a w)
    (let_ok : (w : Spot) (y : Name) → I w → I (declared_var w y))
    (loop_ok : (w : Spot) (y : Name) → I w → I (in_loop w y))
    (par_ok : (w : Spot) (y : Name) (cs : List Carry) (rs : List Reduce) (p q : Place) → F (Parallel p q (the_loop w y cs rs)) w → Each (λ (s : Site). F s.act s.spot) (in_carries w cs) → I w → I (in_par w y cs rs)) where
  abbrev pub AllF : List Site → Type 0
  AllF ss = Each (λ (s : Site). F s.act s.spot) ss

  abbrev pub AllT : List Site → Type 0
  AllT ss = Each (λ (s : Site). T s.act s.spot) ss

  -- what holds of two parts of a walk
  both_walk : (xs ys : List Site) → AllF (xs ++ ys) → (AllF xs → AllT xs) → (AllF ys → AllT ys) → AllT (xs ++ ys)
  both_walk xs ys h f g =
      each_both (λ (s : Site). T s.act s.spot) xs ys (f (each_left (λ (s : Site). F s.act s.spot) xs ys h)) (g (each_right (λ (s : Site). F s.act s.spot) xs ys h))

  expr_walk : (w : Spot) → I w → (e : Expr) → AllF (in_expr w e) → AllT (in_expr w e)
  expr_walk w i (Int n p) h = tt
  expr_walk w i (Var y) h = (site_ok (Uses y) w h.0 i, tt)
  expr_walk w i (Cell' t p a q b) h = (
    site_ok (NamesTable t) w h.0 i,
    (site_ok (ReadsCell t a b) w h.1.0 i, both_walk (in_expr w a) (in_expr w b) h.1.1 (λ k. expr_walk w i a k) (λ k. expr_walk w i b k)),
  )
  expr_walk w i (Rows t) h = (site_ok (NamesTable t) w h.0 i, tt)
  expr_walk w i (Cols t) h = (site_ok (NamesTable t) w h.0 i, tt)
  expr_walk w i (Neg' p a z) h = expr_walk w i a h
  expr_walk w i (Bin' o z p a q b) h = both_walk (in_expr w a) (in_expr w b) h (λ k. expr_walk w i a k) (λ k. expr_walk w i b k)

  pub whole_walk : (w : Spot) → I w → (e : Expr) → AllF (in_whole w e) → AllT (in_whole w e)
  whole_walk w i e h = (site_ok (Evaluates e) w h.0 i, expr_walk w i e h.1)

  args_walk : (w : Spot) → I w → (es : List Expr) → AllF (in_args w es) → AllT (in_args w es)
  args_walk w i [] h = tt
  args_walk w i (e ∷ es) h = both_walk (in_whole w e) (in_args w es) h (λ k. whole_walk w i e k) (λ k. args_walk w i es k)

  app_walk : (w : Spot) → I w → (f : App) → AllF (in_app w f) → AllT (in_app w f)
  app_walk w i f h = (site_ok (Calls f.callee _) w h.0 i, args_walk w i f.args.items h.1)

  carries_walk : (w : Spot) → I w → (cs : List Carry) → AllF (in_carries w cs) → AllT (in_carries w cs)
  carries_walk w i [] h = tt
  carries_walk w i (carry.Rows t k ∷ cs) h = (site_ok (NamesTable t) w h.0 i, carries_walk w i cs h.1)
  carries_walk w i (carry.Cells t (row.Var k) j ∷ cs) h = (site_ok (NamesTable t) w h.0 i, (site_ok (Uses k) w h.1.0 i, carries_walk w i cs h.1.1))
  carries_walk w i (carry.Cells t (row.Int n) j ∷ cs) h = (site_ok (NamesTable t) w h.0 i, carries_walk w i cs h.1)

  after_walk : (w : Spot) (s : Stmt) → I w → I (spot_after w s)
  after_walk w (Let y e) i = let_ok w y i
  after_walk w (Set y e) i = i
  after_walk w (Put t a b e) i = i
  after_walk w (If' e p body q other) i = i
  after_walk w (While' e p body) i = i
  after_walk w (Loop' y a b p body) i = i
  after_walk w (Par' place y a b z cs rs p body) i = i
  after_walk w (Fold y e) i = i
  after_walk w (Call y f) i = i
  after_walk w (Both y f z g) i = i
  after_walk w (Print p e) i = i
  after_walk w (Emit p t) i = i
  after_walk w (Leave y e) i = i
  after_walk w (Fill f t r es) i = i

  two_walk : (w : Spot) → I w → (a b : Expr) (rest : List Site) → AllF (in_whole w a ++ (in_whole w b ++ rest)) → (AllF rest → AllT rest) → AllT (in_whole w a ++ (in_whole w b ++ rest))
  two_walk w i a b rest h f =
      both_walk (in_whole w a) (in_whole w b ++ rest) h (λ k. whole_walk w i a k) (λ k. both_walk (in_whole w b) rest k (λ l. whole_walk w i b l) f)

  mutual
    pub stmt_walk : (w : Spot) → I w → (s : Stmt) → AllF (in_stmt w s) → AllT (in_stmt w s)
    stmt_walk w i (Let y e) h = (site_ok (Declares y) w h.0 i, whole_walk w i e h.1)
    stmt_walk w i (Set y e) h = (site_ok (Assigns y) w h.0 i, whole_walk w i e h.1)
    stmt_walk w i (Put t a b e) h =
        (site_ok (NamesTable t) w h.0 i, (site_ok (WritesCell t a b) w h.1.0 i, two_walk w i a b (in_whole w e) h.1.1 (λ k. whole_walk w i e k)))
    stmt_walk w i (If' e p body q other) h =
        both_walk (in_whole w e) (in_all w body ++ in_all w other) h (λ k. whole_walk w i e k) (λ k.
        both_walk (in_all w body) (in_all w other) k (λ l. row_walk w i body l) (λ l. row_walk w i other l))
    stmt_walk w i (While' e p body) h = both_walk (in_whole w e) (in_all w body) h (λ k. whole_walk w i e k) (λ k. row_walk w i body k)
    stmt_walk w i (Loop' y a b p body) h =
        (site_ok (Declares y) w h.0 i, two_walk w i a b (in_all (in_loop w y) body) h.1 (λ k. row_walk (in_loop w y) (loop_ok w y i) body k))
    stmt_walk w i (Par' place y a b z cs rs p body) h = (
      site_ok (Parallel place z (the_loop w y cs.items rs.items)) w h.0 i,
      (
        site_ok (LeavesAll (targets_all body)) w h.1.0 i,
        (
          site_ok (Declares y) w h.1.1.0 i,
          two_walk w i a b (in_carries w cs.items ++ in_all (in_par w y cs.items rs.items) body) h.1.1.1 (λ k.
              both_walk (in_carries w cs.items) (in_all (in_par w y cs.items rs.items) body) k (λ l. carries_walk w i cs.items l)
              (λ l. row_walk (in_par w y cs.items rs.items)
              (par_ok w y cs.items rs.items place z h.0 (each_left (λ (s : Site). F s.act s.spot) (in_carries w cs.items) (in_all (in_par w y cs.items rs.items) body) k) i) body l)),
        ),
      ),
    )
    stmt_walk w i (Fold y e) h = (site_ok (Folds y) w h.0 i, whole_walk w i e h.1)
    stmt_walk w i (Call y f) h = (site_ok (Assigns y) w h.0 i, app_walk w i f h.1)
    stmt_walk w i (Both y f z g) h = (
      site_ok (Assigns y) w h.0 i,
      both_walk (in_app w f) (site w (Assigns z) ∷ site w (AssignsBoth y z) ∷ in_app w g) h.1 (λ k. app_walk w i f k) (λ k.
          (site_ok (Assigns z) w k.0 i, (site_ok (AssignsBoth y z) w k.1.0 i, app_walk w i g k.1.1))),
    )
    stmt_walk w i (Print p e) h = (site_ok (Shows p) w h.0 i, whole_walk w i e h.1)
    stmt_walk w i (Emit p t) h = (site_ok (Shows p) w h.0 i, (site_ok (NamesTable t) w h.1.0 i, tt))
    stmt_walk w i (Leave y e) h = (site_ok (Leaves y) w h.0 i, whole_walk w i e h.1)
    stmt_walk w i (Fill f t r es) h = tt

    pub row_walk : {n : _} → (w : Spot) → I w → (row : Row_of-Stmt n) → AllF (in_all w row) → AllT (in_all w row)
    row_walk w i end_of-Stmt h = tt
    row_walk w i (more_of-Stmt first rest) h =
        both_walk (in_stmt w first) (in_all (spot_after w first) rest) h (λ k. stmt_walk w i first k) (λ k. row_walk (spot_after w first) (after_walk w first i) rest k)

  pub list_walk : (w : Spot) → I w → (ss : List Stmt) → AllF (in_list w ss) → AllT (in_list w ss)
  list_walk w i [] h = tt
  list_walk w i (first ∷ rest) h =
      both_walk (in_stmt w first) (in_list (spot_after w first) rest) h (λ k. stmt_walk w i first k) (λ k. list_walk (spot_after w first) (after_walk w first i) rest k)

  pub end_walk : (w : Spot) → I w → (ss : List Stmt) → I (spot_of_list w ss)
  end_walk w i [] = i
  end_walk w i (first ∷ rest) = end_walk (spot_after w first) (after_walk w first i) rest
