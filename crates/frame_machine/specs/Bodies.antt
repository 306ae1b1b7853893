-- What the body of a `par` keeps to, by its text and its names, so that the loop may be cut in two.
use Rattle.std.specs.Prelude.{◌≡◌, ◌⊎◌, ℕ, ℤ, List, [], ◌∷◌, Option, Some, None, ⊤}
use Rattle.tp_value.specs.declared.Op.{Op}
use Rattle.loop_syntax.specs.declared.Expr.{Expr}
use Rattle.loop_syntax.specs.declared.Expr.TheVariants.{Int, Var, Cell', Rows, Cols, Neg', Bin'}
use Rattle.loop_syntax.specs.declared.RowAt.TheVariants as row
use Rattle.loop_syntax.specs.declared.Carry.{Carry}
use Rattle.loop_syntax.specs.declared.Carry.TheVariants as carry
use Rattle.loop_syntax.specs.declared.Reduce.{Reduce}
use Rattle.loop_syntax.specs.declared.Func.{Func}
use Rattle.loop_syntax.specs.declared.Stmt.{Stmt, Row_of-Stmt, end_of-Stmt, more_of-Stmt}
use Rattle.loop_syntax.specs.declared.Stmt.TheVariants.{Let, Set, Put, If', While', Loop', Par'}
use Rattle.loop_syntax.specs.declared.Stmt.TheVariants.{Fold, Call, Both, Print, Emit, Leave, Fill}
use Rattle.loop_rules.specs.Names.{func_of, operator_of}
use Rattle.loop_meaning.specs.Leaving.{left_in}
use Rattle.frame_machine.specs.Modes.{Line, Named, Fixed, Mode, Whole, Closed, OwnRow, OwnCell}
use Rattle.frame_machine.specs.Modes.{Modes, demoted, inner_modes, AllOfModes}

-- ---- reads and writes

-- the expression is just this variable, this number, or this row
abbrev pub IsVar : List ℕ → Expr → Type 0
IsVar x (Var y) = y.text.items ≡ x
IsVar x _ = ⊥

abbrev pub IsNumber : ℤ → Expr → Type 0
IsNumber n (Int m place) = m ≡ n
IsNumber n _ = ⊥

abbrev pub IsLine : Line → Expr → Type 0
IsLine (Named x) e = IsVar x e
IsLine (Fixed n) e = IsNumber n e

-- a cell at these indexes may be read, by the table's mode
abbrev pub ReadsAt : Mode → Expr → Expr → Type 0
ReadsAt Whole a b = ⊤
ReadsAt Closed a b = ⊥
ReadsAt (OwnRow x) a b = IsVar x a
ReadsAt (OwnCell k x) a b = IsLine k a × IsVar x b

-- and written
abbrev pub WritesAt : Mode → Expr → Expr → Type 0
WritesAt Whole a b = ⊥
WritesAt Closed a b = ⊥
WritesAt (OwnRow x) a b = IsVar x a
WritesAt (OwnCell k x) a b = IsLine k a × IsVar x b

-- a `par` with these carries may stand inside, where m is what may be done round it: it carries the
-- cells of a row that the nearest one carries
abbrev pub MayCarry : Modes → List Carry → Type 0
MayCarry m [] = ⊤
MayCarry m (carry.Rows t i ∷ cs) = ⊥
MayCarry m (carry.Cells t (row.Var k) j ∷ cs) =
    (m t.text.items ≡ OwnRow k.text.items) × MayCarry m cs
MayCarry m (carry.Cells t (row.Int n) j ∷ cs) = ⊥

-- ---- variables. Here `cut` is the reduce list of the loop that is cut

-- the loop that is cut doesn't reduce x
abbrev pub Unreduced : List Reduce → List ℕ → Type 0
Unreduced cut x = operator_of cut x ≡ None

-- an expression uses no variable that is reduced, and reads only cells that it may
abbrev pub MayRead : List Reduce → Modes → Expr → Type 0
MayRead cut m (Int n place) = ⊤
MayRead cut m (Var x) = Unreduced cut x.text.items
MayRead cut m (Cell' t p a q b) = MayRead cut m a × MayRead cut m b × ReadsAt (m t.text.items) a b
MayRead cut m (Rows t) = ⊤
MayRead cut m (Cols t) = ⊤
MayRead cut m (Neg' p a place) = MayRead cut m a
MayRead cut m (Bin' o place p a q b) = MayRead cut m a × MayRead cut m b

abbrev pub AllRead : List Reduce → Modes → List Expr → Type 0
AllRead cut m [] = ⊤
AllRead cut m (e ∷ es) = MayRead cut m e × AllRead cut m es

-- what is folded into a variable that the loop reduces is folded by its operator
abbrev pub SameOp : Op → Option Op → Type 0
SameOp o None = ⊤
SameOp o (Some q) = q ≡ o

abbrev pub FoldsBy : List Reduce → List ℕ → Option Op → Type 0
FoldsBy cut x None = ⊤
FoldsBy cut x (Some o) = SameOp o (operator_of cut x)

-- a declared variable is not reduced, and no mode names it
abbrev pub MayDeclare : List Reduce → Modes → List ℕ → Type 0
MayDeclare cut m x = Unreduced cut x × AllOfModes (λ y. x ≡ y → ⊥) m

-- an assigned variable is not reduced, and not among the fixed ones
abbrev pub MayAssign : List Reduce → (List ℕ → Type 0) → List ℕ → Type 0
MayAssign cut F x = Unreduced cut x × (F x → ⊥)

-- a `par` inside may be left where it sets no variable then, or one that may be assigned
abbrev pub MayLeave : List Reduce → (List ℕ → Type 0) → Option (List ℕ) → Type 0
MayLeave cut F None = ⊤
MayLeave cut F (Some x) = MayAssign cut F x

-- the fixed variables in the body of a `par` over x
abbrev pub AndVar : (List ℕ → Type 0) → List ℕ → List ℕ → Type 0
AndVar F x = λ y. F y ⊎ (y ≡ x)

-- ---- statements: F are the variables that are never assigned, rs is the reduce list of the
-- nearest `par`, and m says what may be done with each table. Safe are the functions that may be
-- called
module _ (cut : List Reduce) (Safe : List ℕ → Type 0) where
  abbrev mutual
    pub KeepsTo : (List ℕ → Type 0) → List Reduce → Modes → Stmt → Type 0
    KeepsTo F rs m (Let x e) = MayRead cut m e × MayDeclare cut m x.text.items
    KeepsTo F rs m (Set x e) = MayRead cut m e × MayAssign cut F x.text.items
    KeepsTo F rs m (Put t a b e) =
        MayRead cut m a × MayRead cut m b × MayRead cut m e × WritesAt (m t.text.items) a b
    KeepsTo F rs m (If' e p body q other) =
        MayRead cut m e × AllKeep F rs m body × AllKeep F rs m other
    KeepsTo F rs m (While' e p body) = MayRead cut m e × AllKeep F rs m body
    KeepsTo F rs m (Loop' x a b p body) =
        MayRead cut m a × MayRead cut m b × MayDeclare cut m x.text.items × AllKeep F rs m body
    KeepsTo F rs m (Par' place x a b carry_place carries reduces p body) =
        MayRead cut m a × MayRead cut m b × MayDeclare cut m x.text.items × MayCarry m carries.items
        × AllKeep (AndVar F x.text.items) reduces.items
        (inner_modes carries.items x.text.items m) body
        × MayLeave cut F (left_in body)
    KeepsTo F rs m (Fold x e) =
        MayRead cut m e × FoldsBy cut x.text.items (operator_of rs x.text.items)
        × (F x.text.items → ⊥)
    KeepsTo F rs m (Call x f) =
        AllRead cut m f.args.items × Safe f.callee.text.items × MayAssign cut F x.text.items
    KeepsTo F rs m (Both x f y g) =
        AllRead cut m f.args.items × AllRead cut m g.args.items
        × Safe f.callee.text.items × Safe g.callee.text.items
        × MayAssign cut F x.text.items × MayAssign cut F y.text.items
    KeepsTo F rs m (Print place e) = ⊥
    KeepsTo F rs m (Emit place t) = ⊥
    KeepsTo F rs m (Leave x e) = MayRead cut m e
    KeepsTo F rs m (Fill f t r es) = ⊤

    pub AllKeep : {n : _} → (List ℕ → Type 0) → List Reduce → Modes → Row_of-Stmt n → Type 0
    AllKeep F rs m end_of-Stmt = ⊤
    AllKeep F rs m (more_of-Stmt first rest) = KeepsTo F rs m first × AllKeep F rs m rest

  abbrev pub ListKeeps : (List ℕ → Type 0) → List Reduce → Modes → List Stmt → Type 0
  ListKeeps F rs m [] = ⊤
  ListKeeps F rs m (s ∷ ss) = KeepsTo F rs m s × ListKeeps F rs m ss

-- ---- functions

abbrev pub NoVariable : List ℕ → Type 0
NoVariable x = ⊥

-- a function that may be called reads only whole tables, writes and shows nothing, and calls only
-- such functions
abbrev pub FuncKeeps : (List ℕ → Type 0) → Modes → Option Func → Type 0
FuncKeeps Safe m None = ⊤
FuncKeeps Safe m (Some f) =
    ListKeeps [] Safe NoVariable [] (λ t. demoted (m t)) f.body.items
    × MayRead [] (λ t. demoted (m t)) f.result

abbrev pub FuncsKeep : (List ℕ → Type 0) → Modes → List Func → Type 0
FuncsKeep Safe m fs = (f : List ℕ) → Safe f → FuncKeeps Safe m (func_of fs f)
