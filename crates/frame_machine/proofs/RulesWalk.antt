-- Statements keep to what is asked of the body of a `par` that is cut, where it follows at each site from what stands there.
use Rattle.std.proofs.Common.{◌≡◌, ℕ, List, [], ◌∷◌, ◌++◌, Option, Some, None, refl}
use Rattle.tp_value.specs.declared.Place.{Place}
use Rattle.loop_syntax.specs.declared.Name.{Name}
use Rattle.loop_syntax.specs.declared.Expr.{Expr}
use Rattle.loop_syntax.specs.declared.Expr.TheVariants.{Int, Var, Cell', Rows, Cols, Neg', Bin'}
use Rattle.loop_syntax.specs.declared.Carry.{Carry}
use Rattle.loop_syntax.specs.declared.Reduce.{Reduce}
use Rattle.loop_syntax.specs.declared.Stmt.{Stmt, Row_of-Stmt, end_of-Stmt, more_of-Stmt}
use Rattle.loop_syntax.specs.declared.Stmt.TheVariants.{Let, Set, Put, If', While', Loop', Par'}
use Rattle.loop_syntax.specs.declared.Stmt.TheVariants.{Fold, Call, Both, Print, Emit, Leave, Fill}
use Rattle.loop_rules.specs.Names.{operator_of}
use Rattle.loop_rules.specs.Sites.{Act, Declares, Uses, Assigns, Folds, AssignsBoth, ReadsCell}
use Rattle.loop_rules.specs.Sites.{WritesCell, Calls, Shows, Parallel, LeavesAll, Spot, Site, site}
use Rattle.loop_rules.specs.Sites.{in_expr}
use Rattle.loop_rules.specs.Sites.{in_whole, in_args, in_app, in_carries, in_stmt, in_all, in_list}
use Rattle.loop_rules.specs.Sites.{spot_after, spot_of_list, declared_var, in_loop, in_par}
use Rattle.loop_rules.specs.Sites.{the_loop}
use Rattle.loop_rules.specs.Targets.{targets_all}
use Rattle.loop_meaning.specs.Leaving.{left_in}
use Rattle.loop_check.proofs.Leaving.{left_row}
use Rattle.loop_check.proofs.Lists.{Each, each_left, each_right}
use Rattle.frame_machine.specs.Modes.{Modes, inner_modes, AllOfModes}
use Rattle.frame_machine.specs.Bodies.{Unreduced, ReadsAt, WritesAt, MayCarry, MayRead, AllRead}
use Rattle.frame_machine.specs.Bodies.{FoldsBy, MayDeclare, MayAssign, MayLeave, AndVar, KeepsTo}
use Rattle.frame_machine.specs.Bodies.{AllKeep}
use Rattle.frame_machine.specs.Bodies.{ListKeeps}

-- what follows of variables at each site where G holds, and V of the spot with its fixed variables and its nearest
-- reduce list
pub record VariableRules (G : Act → Spot → Type 0) (cut : List Reduce) (V : (List ℕ → Type 0) → List Reduce → Spot → Type 0) : Type 1 where
  pub used : (F : List ℕ → Type 0) (rs : List Reduce) (w : Spot) (x : Name) → V F rs w → G (Uses x) w → Unreduced cut x.text.items
  pub declared : (F : List ℕ → Type 0) (rs : List Reduce) (w : Spot) (x : Name) → V F rs w → G (Declares x) w → Unreduced cut x.text.items
  pub assigned : (F : List ℕ → Type 0) (rs : List Reduce) (w : Spot) (x : Name) → V F rs w → G (Assigns x) w → MayAssign cut F x.text.items
  pub folded : (F : List ℕ → Type 0) (rs : List Reduce) (w : Spot) (x : Name) → V F rs w → G (Folds x) w → FoldsBy cut x.text.items (operator_of rs x.text.items)
  pub free : (F : List ℕ → Type 0) (rs : List Reduce) (w : Spot) (x : Name) → V F rs w → G (Folds x) w → F x.text.items → ⊥
  pub left : (F : List ℕ → Type 0) (rs : List Reduce) (w : Spot) (xs : List Name) → V F rs w → G (LeavesAll xs) w → Each (λ (x : Name). MayAssign cut F x.text.items) xs
  pub after_let : (F : List ℕ → Type 0) (rs : List Reduce) (w : Spot) (x : Name) → V F rs w → V F rs (declared_var w x)
  pub into_loop : (F : List ℕ → Type 0) (rs : List Reduce) (w : Spot) (x : Name) → V F rs w → V F rs (in_loop w x)
  pub into_par : (F : List ℕ → Type 0) (rs : List Reduce) (w : Spot) (x : Name) (cs : List Carry) (qs : List Reduce) (p q : Place) → V F rs w → G (Parallel p q (the_loop w x cs qs)) w
      → V (AndVar F x.text.items) qs (in_par w x cs qs)

-- and of tables, where M holds of the spot with its modes
pub record TableRules (G : Act → Spot → Type 0) (Safe : List ℕ → Type 0) (M : Modes → Spot → Type 0) : Type 0 where
  pub read : (m : Modes) (w : Spot) (t : Name) (a b : Expr) → M m w → G (ReadsCell t a b) w → ReadsAt (m t.text.items) a b
  pub written : (m : Modes) (w : Spot) (t : Name) (a b : Expr) → M m w → G (WritesCell t a b) w → WritesAt (m t.text.items) a b
  pub unnamed : (m : Modes) (w : Spot) (x : Name) → M m w → G (Declares x) w → AllOfModes (λ y. x.text.items ≡ y → ⊥) m
  pub called : (m : Modes) (w : Spot) (f : Name) (n : ℕ) → M m w → G (Calls f n) w → Safe f.text.items
  pub shown : (m : Modes) (w : Spot) (q : Place) → M m w → G (Shows q) w → ⊥
  pub carried : (m : Modes) (w : Spot) (x : Name) (cs : List Carry) (qs : List Reduce) (p q : Place) → M m w → G (Parallel p q (the_loop w x cs qs)) w → MayCarry m cs
  pub after_let : (m : Modes) (w : Spot) (x : Name) → M m w → M m (declared_var w x)
  pub into_loop : (m : Modes) (w : Spot) (x : Name) → M m w → M m (in_loop w x)
  pub into_par : (m : Modes) (w : Spot) (x : Name) (cs : List Carry) (qs : List Reduce) (p q : Place) → M m w → G (Parallel p q (the_loop w x cs qs)) w
      → Each (λ (s : Site). G s.act s.spot) (in_carries w cs) → M (inner_modes cs x.text.items m) (in_par w x cs qs)

module _ (G : Act → Spot → Type 0) (cut : List Reduce) (V : (List ℕ → Type 0) → List Reduce → Spot → Type 0) (variables : VariableRules G cut V) (Safe : List ℕ → Type 0) (M : Modes → Spot → Type 0) (tables : TableRules G Safe M) where
  abbrev pub All : List Site → Type 0
  All ss = Each (λ (s : Site). G s.act s.spot) ss

  front : (xs ys : List Site) → All (xs ++ ys) → All xs
  front xs ys h = each_left (λ (s : Site). G s.act s.spot) xs ys h

  back : (xs ys : List Site) → All (xs ++ ys) → All ys
  back xs ys h = each_right (λ (s : Site). G s.act s.spot) xs ys h

  module _ (F : List ℕ → Type 0) (rs : List Reduce) (m : Modes) (w : Spot) (v : V F rs w) (k : M m w) where
    reads_expr : (e : Expr) → All (in_expr w e) → MayRead cut m e
    reads_expr (Int n p) h = tt
    reads_expr (Var x) h = variables.used F rs w x v h.0
    reads_expr (Cell' t p a q b) h =
        (reads_expr a (front (in_expr w a) (in_expr w b) h.1.1), reads_expr b (back (in_expr w a) (in_expr w b) h.1.1), tables.read m w t a b k h.1.0)
    reads_expr (Rows t) h = tt
    reads_expr (Cols t) h = tt
    reads_expr (Neg' p a z) h = reads_expr a h
    reads_expr (Bin' o z p a q b) h = (reads_expr a (front (in_expr w a) (in_expr w b) h), reads_expr b (back (in_expr w a) (in_expr w b) h))

    pub reads : (e : Expr) → All (in_whole w e) → MayRead cut m e
    reads e h = reads_expr e h.1

    reads_all : (es : List Expr) → All (in_args w es) → AllRead cut m es
    reads_all [] h = tt
    reads_all (e ∷ es) h = (reads e (front (in_whole w e) (in_args w es) h), reads_all es (back (in_whole w e) (in_args w es) h))

    new : (x : Name) → G (Declares x) w → MayDeclare cut m x.text.items
    new x h = (variables.declared F rs w x v h, tables.unnamed m w x k h)

  after_variables : (F : List ℕ → Type 0) (rs : List Reduce) (w : Spot) → V F rs w → (s : Stmt) → V F rs (spot_after w s)
  after_variables F rs w v (Let y e) = variables.after_let F rs w y v
  after_variables F rs w v (Set y e) = v
  after_variables F rs w v (Put t a b e) = v
  after_variables F rs w v (If' e p body q other) = v
  after_variables F rs w v (While' e p body) = v
  after_variables F rs w v (Loop' y a b p body) = v
  after_variables F rs w v (Par' place y a b z cs qs p body) = v
  after_variables F rs w v (Fold y e) = v
  after_variables F rs w v (Call y f) = v
  after_variables F rs w v (Both y f z g) = v
  after_variables F rs w v (Print p e) = v
  after_variables F rs w v (Emit p t) = v
  after_variables F rs w v (Leave y e) = v
  after_variables F rs w v (Fill f t r es) = v

  after_tables : (m : Modes) (w : Spot) → M m w → (s : Stmt) → M m (spot_after w s)
  after_tables m w k (Let y e) = tables.after_let m w y k
  after_tables m w k (Set y e) = k
  after_tables m w k (Put t a b e) = k
  after_tables m w k (If' e p body q other) = k
  after_tables m w k (While' e p body) = k
  after_tables m w k (Loop' y a b p body) = k
  after_tables m w k (Par' place y a b z cs qs p body) = k
  after_tables m w k (Fold y e) = k
  after_tables m w k (Call y f) = k
  after_tables m w k (Both y f z g) = k
  after_tables m w k (Print p e) = k
  after_tables m w k (Emit p t) = k
  after_tables m w k (Leave y e) = k
  after_tables m w k (Fill f t r es) = k

  may_leave : (F : List ℕ → Type 0) (target : Option (List ℕ)) → ((x : List ℕ) → target ≡ Some x → MayAssign cut F x) → MayLeave cut F target
  may_leave F None h = tt
  may_leave F (Some x) h = h x refl

  mutual
    keeps : (F : List ℕ → Type 0) (rs : List Reduce) (m : Modes) (w : Spot) → V F rs w → M m w → (s : Stmt) → All (in_stmt w s) → KeepsTo cut Safe F rs m s
    keeps F rs m w v k (Let x e) h = (reads F rs m w v k e h.1, new F rs m w v k x h.0)
    keeps F rs m w v k (Set x e) h = (reads F rs m w v k e h.1, variables.assigned F rs w x v h.0)
    keeps F rs m w v k (Put t a b e) h =
        let later = back (in_whole w a) (in_whole w b ++ in_whole w e) h.1.1 in (
          reads F rs m w v k a (front (in_whole w a) (in_whole w b ++ in_whole w e) h.1.1),
          reads F rs m w v k b (front (in_whole w b) (in_whole w e) later),
          reads F rs m w v k e (back (in_whole w b) (in_whole w e) later),
          tables.written m w t a b k h.1.0,
        )
    keeps F rs m w v k (If' e p body q other) h =
        let later = back (in_whole w e) (in_all w body ++ in_all w other) h in (
          reads F rs m w v k e (front (in_whole w e) (in_all w body ++ in_all w other) h),
          row_keeps F rs m w v k body (front (in_all w body) (in_all w other) later),
          row_keeps F rs m w v k other (back (in_all w body) (in_all w other) later),
        )
    keeps F rs m w v k (While' e p body) h =
        (reads F rs m w v k e (front (in_whole w e) (in_all w body) h), row_keeps F rs m w v k body (back (in_whole w e) (in_all w body) h))
    keeps F rs m w v k (Loop' x a b p body) h =
        let inner = in_all (in_loop w x) body in
        let later = back (in_whole w a) (in_whole w b ++ inner) h.1 in (
          reads F rs m w v k a (front (in_whole w a) (in_whole w b ++ inner) h.1),
          reads F rs m w v k b (front (in_whole w b) inner later),
          new F rs m w v k x h.0,
          row_keeps F rs m (in_loop w x) (variables.into_loop F rs w x v) (tables.into_loop m w x k) body (back (in_whole w b) inner later),
        )
    keeps F rs m w v k (Par' place x a b z cs qs p body) h =
        let clauses = in_carries w cs.items in
        let inner = in_all (in_par w x cs.items qs.items) body in
        let later = back (in_whole w a) (in_whole w b ++ (clauses ++ inner)) h.1.1.1 in
        let last = back (in_whole w b) (clauses ++ inner) later in (
          reads F rs m w v k a (front (in_whole w a) (in_whole w b ++ (clauses ++ inner)) h.1.1.1),
          reads F rs m w v k b (front (in_whole w b) (clauses ++ inner) later),
          new F rs m w v k x h.1.1.0,
          tables.carried m w x cs.items qs.items place z k h.0,
          row_keeps (AndVar F x.text.items) qs.items (inner_modes cs.items x.text.items m) (in_par w x cs.items qs.items)
              (variables.into_par F rs w x cs.items qs.items place z v h.0) (tables.into_par m w x cs.items qs.items place z k h.0 (front clauses inner last)) body (back clauses inner last),
          may_leave F (left_in body) (λ z e. left_row (λ y. MayAssign cut F y) z body (variables.left F rs w (targets_all body) v h.1.0) e),
        )
    keeps F rs m w v k (Fold x e) h = (reads F rs m w v k e h.1, variables.folded F rs w x v h.0, variables.free F rs w x v h.0)
    keeps F rs m w v k (Call x f) h = (reads_all F rs m w v k f.args.items h.1.1, tables.called m w f.callee _ k h.1.0, variables.assigned F rs w x v h.0)
    keeps F rs m w v k (Both x f y g) h =
        let second = site w (Assigns y) ∷ site w (AssignsBoth x y) ∷ in_app w g in
        let one = front (in_app w f) second h.1 in
        let two = back (in_app w f) second h.1 in (
          reads_all F rs m w v k f.args.items one.1,
          reads_all F rs m w v k g.args.items two.1.1.1,
          tables.called m w f.callee _ k one.0,
          tables.called m w g.callee _ k two.1.1.0,
          variables.assigned F rs w x v h.0,
          variables.assigned F rs w y v two.0,
        )
    keeps F rs m w v k (Print p e) h = tables.shown m w p k h.0
    keeps F rs m w v k (Emit p t) h = tables.shown m w p k h.0
    keeps F rs m w v k (Leave x e) h = reads F rs m w v k e h.1
    keeps F rs m w v k (Fill f t r es) h = tt

    row_keeps : {n : _} → (F : List ℕ → Type 0) (rs : List Reduce) (m : Modes) (w : Spot) → V F rs w → M m w → (row : Row_of-Stmt n) → All (in_all w row) → AllKeep cut Safe F rs m row
    row_keeps F rs m w v k end_of-Stmt h = tt
    row_keeps F rs m w v k (more_of-Stmt first rest) h = (
      keeps F rs m w v k first (front (in_stmt w first) (in_all (spot_after w first) rest) h),
      row_keeps F rs m (spot_after w first) (after_variables F rs w v first) (after_tables m w k first) rest (back (in_stmt w first) (in_all (spot_after w first) rest) h),
    )

  pub list_keeps : (F : List ℕ → Type 0) (rs : List Reduce) (m : Modes) (w : Spot) → V F rs w → M m w → (ss : List Stmt) → All (in_list w ss) → ListKeeps cut Safe F rs m ss
  list_keeps F rs m w v k [] h = tt
  list_keeps F rs m w v k (first ∷ rest) h = (
    keeps F rs m w v k first (front (in_stmt w first) (in_list (spot_after w first) rest) h),
    list_keeps F rs m (spot_after w first) (after_variables F rs w v first) (after_tables m w k first) rest (back (in_stmt w first) (in_list (spot_after w first) rest) h),
  )

  -- behind a list
  pub end_variables : (F : List ℕ → Type 0) (rs : List Reduce) (w : Spot) → V F rs w → (ss : List Stmt) → V F rs (spot_of_list w ss)
  end_variables F rs w v [] = v
  end_variables F rs w v (first ∷ rest) = end_variables F rs (spot_after w first) (after_variables F rs w v first) rest

  pub end_tables : (m : Modes) (w : Spot) → M m w → (ss : List Stmt) → M m (spot_of_list w ss)
  end_tables m w k [] = k
  end_tables m w k (first ∷ rest) = end_tables m (spot_after w first) (after_tables m w k first) rest
