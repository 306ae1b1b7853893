-- The expressions of statements are low enough where no rule is broken.
use Rattle.std.proofs.Common.{List, [], ◌∷◌, ◌++◌}
use Rattle.loop_syntax.specs.declared.Stmt.{Stmt, Row_of-Stmt, end_of-Stmt, more_of-Stmt}
use Rattle.loop_syntax.specs.declared.Stmt.TheVariants.{Let, Set, Put, If', While', Loop', Par'}
use Rattle.loop_syntax.specs.declared.Stmt.TheVariants.{Fold, Call, Both, Print, Emit, Leave, Fill}
use Rattle.loop_rules.specs.Sites.{Assigns, AssignsBoth, Spot, Site, site, in_whole, in_app}
use Rattle.loop_rules.specs.Sites.{in_carries, in_stmt, in_all, in_list, spot_after, in_loop}
use Rattle.loop_rules.specs.Sites.{in_par}
use Rattle.loop_check.proofs.Lists.{Each, each_left, each_right}
use Rattle.scene_laws.specs.Heights.{AreLow, RowIsLow, AllAreLow}
use Rattle.scene_laws.specs.Names.{names_after}
use Rattle.code_laws.proofs.Rules.UnbrokenExpressions.{Keeps, AreShort, whole_low, app_low}
use Rattle.code_laws.proofs.Rules.UnbrokenSpots.{with_names, behind_first, behind_head}

mutual
  low_stmt : (w : Spot) (s : Stmt) → AreShort w.funcs → Each Keeps (in_stmt w s) → AreLow s
  low_stmt w (Let x e) short k = whole_low w e k.1
  low_stmt w (Set x e) short k = whole_low w e k.1
  low_stmt w (Put t a b e) short k =
      let behind : Each Keeps (in_whole w b ++ in_whole w e) = each_right Keeps (in_whole w a) (in_whole w b ++ in_whole w e) k.1.1 in (
        whole_low w a (each_left Keeps (in_whole w a) (in_whole w b ++ in_whole w e) k.1.1),
        whole_low w b (each_left Keeps (in_whole w b) (in_whole w e) behind),
        whole_low w e (each_right Keeps (in_whole w b) (in_whole w e) behind),
      )
  low_stmt w (If' e p body q other) short k =
      let inner : Each Keeps (in_all w body ++ in_all w other) = each_right Keeps (in_whole w e) (in_all w body ++ in_all w other) k in (
        whole_low w e (each_left Keeps (in_whole w e) (in_all w body ++ in_all w other) k),
        low_row w body short (each_left Keeps (in_all w body) (in_all w other) inner),
        low_row w other short (each_right Keeps (in_all w body) (in_all w other) inner),
      )
  low_stmt w (While' e p body) short k = (whole_low w e (each_left Keeps (in_whole w e) (in_all w body) k), low_row w body short (each_right Keeps (in_whole w e) (in_all w body) k))
  low_stmt w (Loop' x a b p body) short k =
      let inside : List Site = in_all (in_loop w x) body in
      let behind : Each Keeps (in_whole w b ++ inside) = each_right Keeps (in_whole w a) (in_whole w b ++ inside) k.1 in (
        whole_low w a (each_left Keeps (in_whole w a) (in_whole w b ++ inside) k.1),
        whole_low w b (each_left Keeps (in_whole w b) inside behind),
        low_row (in_loop w x) body short (each_right Keeps (in_whole w b) inside behind),
      )
  low_stmt w (Par' place x a b carry_place carries reduces p body) short k =
      let clauses : List Site = in_carries w carries.items in
      let inside : List Site = in_all (in_par w x carries.items reduces.items) body in
      let behind : Each Keeps (in_whole w b ++ (clauses ++ inside)) = each_right Keeps (in_whole w a) (in_whole w b ++ (clauses ++ inside)) k.1.1.1 in (
        whole_low w a (each_left Keeps (in_whole w a) (in_whole w b ++ (clauses ++ inside)) k.1.1.1),
        whole_low w b (each_left Keeps (in_whole w b) (clauses ++ inside) behind),
        low_row (in_par w x carries.items reduces.items) body short (each_right Keeps clauses inside (each_right Keeps (in_whole w b) (clauses ++ inside) behind)),
      )
  low_stmt w (Fold x e) short k = whole_low w e k.1
  low_stmt w (Call x f) short k = app_low w f short k.1
  low_stmt w (Both x f y g) short k =
      let second : List Site = site w (Assigns y) ∷ site w (AssignsBoth x y) ∷ in_app w g in
      (app_low w f short (each_left Keeps (in_app w f) second k.1), app_low w g short (each_right Keeps (in_app w f) second k.1).1.1)
  low_stmt w (Print place e) short k = whole_low w e k.1
  low_stmt w (Emit place t) short k = tt
  low_stmt w (Leave x e) short k = whole_low w e k.1
  low_stmt w (Fill f t r es) short k = tt

  low_row : {m : _} (w : Spot) (row : Row_of-Stmt m) → AreShort w.funcs → Each Keeps (in_all w row) → RowIsLow row
  low_row w end_of-Stmt short k = tt
  low_row w (more_of-Stmt s rest) short k = (
    low_stmt w s short (each_left Keeps (in_stmt w s) (in_all (spot_after w s) rest) k),
    low_row (with_names w (names_after w.scope s)) rest short (behind_first w s rest k),
  )

pub low_list : (w : Spot) (ss : List Stmt) → AreShort w.funcs → Each Keeps (in_list w ss) → AllAreLow ss
low_list w [] short k = tt
low_list w (s ∷ ss) short k = (
  low_stmt w s short (each_left Keeps (in_stmt w s) (in_list (spot_after w s) ss) k),
  low_list (with_names w (names_after w.scope s)) ss short (behind_head w s ss k),
)
