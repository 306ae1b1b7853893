-- When a `par` may be cut in two: what its carries, its reduce list and its body keep to, and the
-- functions.
use Rattle.std.specs.Prelude.{◌≡◌, ◌⊎◌, ℕ, true, false, List, [], ◌∷◌, ⊤}
use Rattle.loop_syntax.specs.declared.RowAt.TheVariants as row
use Rattle.loop_syntax.specs.declared.Carry.{Carry}
use Rattle.loop_syntax.specs.declared.Carry.TheVariants as carry
use Rattle.loop_syntax.specs.declared.Reduce.{Reduce}
use Rattle.loop_syntax.specs.declared.ParLoop.{ParLoop}
use Rattle.loop_syntax.specs.declared.Program.{Program}
use Rattle.loop_rules.specs.Names.{is_in}
use Rattle.loop_rules.specs.Reading.{ReadsTable}
use Rattle.frame_machine.specs.Modes.{Whole, Modes, inner_modes}
use Rattle.frame_machine.specs.Bodies.{Unreduced, ListKeeps, FuncsKeep}

-- no name twice
abbrev pub Distinct : List (List ℕ) → Type 0
Distinct [] = ⊤
Distinct (x ∷ xs) = (is_in xs x ≡ false) × Distinct xs

abbrev pub DistinctTargets : List Reduce → Type 0
DistinctTargets [] = ⊤
DistinctTargets (r ∷ rs) = Unreduced rs r.target.text.items × DistinctTargets rs

-- the reduced variables are among these
abbrev pub TargetsIn : List (List ℕ) → List Reduce → Type 0
TargetsIn outside [] = ⊤
TargetsIn outside (r ∷ rs) = (is_in outside r.target.text.items ≡ true) × TargetsIn outside rs

-- a row of carried cells that is a variable is one round the loop, which the loop doesn't reduce
abbrev pub RowsFixed : List (List ℕ) → List Reduce → List Carry → Type 0
RowsFixed outside rs [] = ⊤
RowsFixed outside rs (carry.Rows t i ∷ cs) = RowsFixed outside rs cs
RowsFixed outside rs (carry.Cells t (row.Var k) j ∷ cs) =
    (is_in outside k.text.items ≡ true) × Unreduced rs k.text.items × RowsFixed outside rs cs
RowsFixed outside rs (carry.Cells t (row.Int n) j ∷ cs) = RowsFixed outside rs cs

-- the variables that the body of a `par` over x never assigns: those round it that it doesn't
-- reduce, and x
abbrev pub FixedIn : List (List ℕ) → List Reduce → List ℕ → List ℕ → Type 0
FixedIn outside rs x y = ((is_in outside y ≡ true) × Unreduced rs y) ⊎ (y ≡ x)

-- the functions that may be called where m holds: they read, themselves or through calls, only
-- whole tables
abbrev pub Callable : Program → Modes → List ℕ → Type 0
Callable p m f = (t : List ℕ) → ReadsTable p f t → m t ≡ Whole

-- what the body of a `par` may do with each table, where those round it allow `outer`
abbrev pub modes_in : Modes → ParLoop → Modes
modes_in outer l = inner_modes l.carries.items l.var.text.items outer

-- `outside` are the variables round the loop, in the order of their declarations
pub record Lawful (p : Program) (outer : Modes) (outside : List (List ℕ)) (l : ParLoop) : Type 0
  where
    pub distinct : Distinct outside
    pub fresh : is_in outside l.var.text.items ≡ false
    pub plain : Unreduced l.reduces.items l.var.text.items
    pub targets : DistinctTargets l.reduces.items
    pub visible : TargetsIn outside l.reduces.items
    pub rows : RowsFixed outside l.reduces.items l.carries.items
    pub body :
        ListKeeps l.reduces.items (Callable p (modes_in outer l))
        (FixedIn outside l.reduces.items l.var.text.items) l.reduces.items (modes_in outer l)
        l.body.items
    pub functions : FuncsKeep (Callable p (modes_in outer l)) (modes_in outer l) p.funcs.items
