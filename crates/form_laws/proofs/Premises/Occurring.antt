-- Which `par` loops occur in statements, with what is round them; and what is called there.
use Rattle.std.proofs.Common.{◌≡◌, ℕ, List, [], ◌∷◌, ◌++◌, Vec}
use Rattle.std.specs.declared.alloc.Global.{Global}
use Rattle.loop_syntax.specs.declared.App.{App}
use Rattle.loop_syntax.specs.declared.Expr.{Expr}
use Rattle.loop_syntax.specs.declared.Name.{Name}
use Rattle.loop_syntax.specs.declared.ParLoop.{ParLoop}
use Rattle.loop_syntax.specs.declared.Stmt.{Stmt}
use Rattle.loop_syntax.specs.declared.Stmt.TheVariants.{Both, Call, If, Loop, Par, While}
use Rattle.scene_laws.specs.Names.{names_after}
use Rattle.form_laws.proofs.Premises.Around.{Around, in_body}

-- this `par` occurs in a statement, round which this stands and where these variables are visible;
-- and other things are so where it stands
mutual
  pub data Occurs (l : ParLoop) (outside : List (List ℕ)) (near : Around) : Around
      → List (List ℕ) → Stmt → Type 0 where
    itself : Occurs l outside near near outside (Par l)
    in_if : {a : Around} {names : List (List ℕ)} {e : Expr} (body other : Vec Stmt Global)
        → OccursIn l outside near a names body.items
        → Occurs l outside near a names (If e body other)
    in_other : {a : Around} {names : List (List ℕ)} {e : Expr} (body other : Vec Stmt Global)
        → OccursIn l outside near a names other.items
        → Occurs l outside near a names (If e body other)
    in_while : {a : Around} {names : List (List ℕ)} {e : Expr} (body : Vec Stmt Global)
        → OccursIn l outside near a names body.items
        → Occurs l outside near a names (While e body)
    in_loop : {a : Around} {names : List (List ℕ)} {x : Name} {e f : Expr}
        (body : Vec Stmt Global)
        → OccursIn l outside near a (names ++ x.text.items ∷ []) body.items
        → Occurs l outside near a names (Loop x e f body)
    in_par : {a : Around} {names : List (List ℕ)} (o : ParLoop)
        → OccursIn l outside near (in_body a o) (names ++ o.var.text.items ∷ []) o.body.items
        → Occurs l outside near a names (Par o)

  pub data OccursIn (l : ParLoop) (outside : List (List ℕ)) (near : Around) : Around
      → List (List ℕ) → List Stmt → Type 0 where
    at_first : {a : Around} {names : List (List ℕ)} {s : Stmt} {ss : List Stmt}
        → Occurs l outside near a names s → OccursIn l outside near a names (s ∷ ss)
    at_later : {a : Around} {names : List (List ℕ)} {s : Stmt} {ss : List Stmt}
        → OccursIn l outside near a (names_after names s) ss
        → OccursIn l outside near a names (s ∷ ss)

-- a function of this name is called in a statement, outside of the `par` loops in it
mutual
  pub data Called (f : List ℕ) : Stmt → Type 0 where
    by_call : {x : Name} (g : App) → g.callee.text.items ≡ f → Called f (Call x g)
    by_first : {x y : Name} (g h : App) → g.callee.text.items ≡ f → Called f (Both x g y h)
    by_second : {x y : Name} (g h : App) → h.callee.text.items ≡ f → Called f (Both x g y h)
    called_if : {e : Expr} (body other : Vec Stmt Global) → CalledIn f body.items
        → Called f (If e body other)
    called_other : {e : Expr} (body other : Vec Stmt Global) → CalledIn f other.items
        → Called f (If e body other)
    called_while : {e : Expr} (body : Vec Stmt Global) → CalledIn f body.items
        → Called f (While e body)
    called_loop : {x : Name} {a b : Expr} (body : Vec Stmt Global) → CalledIn f body.items
        → Called f (Loop x a b body)

  pub data CalledIn (f : List ℕ) : List Stmt → Type 0 where
    first_calls : {s : Stmt} {ss : List Stmt} → Called f s → CalledIn f (s ∷ ss)
    later_calls : {s : Stmt} {ss : List Stmt} → CalledIn f ss → CalledIn f (s ∷ ss)
