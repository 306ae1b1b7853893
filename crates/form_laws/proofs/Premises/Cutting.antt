-- What the rules of a program say of its `par` loops, where these may be cut, and of its calls.
use Rattle.std.proofs.Common.{◌≡◌, ℕ, List, [], Some, bytes_eq}
use Rattle.std.specs.List.{All, IsDistinct}
use Rattle.loop_syntax.specs.declared.Func.{Func}
use Rattle.loop_syntax.specs.declared.ParLoop.{ParLoop}
use Rattle.loop_syntax.specs.declared.Program.{Program}
use Rattle.loop_syntax.specs.declared.Stmt.TheVariants.{Par}
use Rattle.loop_rules.specs.Names.{func_of, texts}
use Rattle.loop_meaning.specs.InRange.{FuncInRange, StmtInRange}
use Rattle.loop_meaning.specs.Only.{LeavesNothing, IsNeverLeft}
use Rattle.frame_machine.specs.Bodies.{FuncsKeep}
use Rattle.frame_machine.specs.Lawful.{Callable, Distinct, Lawful}
use Rattle.frame_machine.specs.Modes.{Modes}
use Rattle.form_laws.proofs.Premises.Around.{Around, Free, MayStand, in_call, modes_at}
use Rattle.form_laws.proofs.Premises.Occurring.{CalledIn, OccursIn}

-- a `par` may be cut that this stands round, where these variables are visible; it has no `leave`
pub record MayCut (p : Program) (near : Around) (outside : List (List ℕ)) (l : ParLoop) : Type 0
  where
    pub lawful : Lawful p (modes_at near) outside l
    pub stands : MayStand near l.carries.items
    pub ranged : StmtInRange (Par l)
    pub stays : LeavesNothing l.body.items

-- Each `par` of a program may be cut, no function has a `leave` of its own, no two tables have one
-- name, and a function that may be
-- called reads only whole tables and calls only what may be called there.
pub record ProgramRules (p : Program) (tables : List (List ℕ)) : Type 0 where
  pub funcs : All FuncInRange p.funcs.items
  pub never : All IsNeverLeft p.funcs.items
  pub differ : IsDistinct bytes_eq tables
  pub distinct : Distinct tables
  pub functions : (m : Modes) → FuncsKeep (Callable p m) m p.funcs.items
  pub of_main : (outside : List (List ℕ)) (l : ParLoop) (near : Around)
      → OccursIn l outside near Free [] p.main.items → MayCut p near outside l
  pub of_function : (x : List ℕ) (f : Func) → func_of p.funcs.items x ≡ Some f
      → (a : Around) → Callable p (modes_at a) x
      → (outside : List (List ℕ)) (l : ParLoop) (near : Around)
      → OccursIn l outside near (in_call a) (texts f.params.items) f.body.items
      → MayCut p near outside l
  pub calls : (x : List ℕ) (f : Func) → func_of p.funcs.items x ≡ Some f
      → (a : Around) → Callable p (modes_at a) x
      → (g : List ℕ) → CalledIn g f.body.items → Callable p (modes_at a) g
