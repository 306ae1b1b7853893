-- The instructions and the trap blocks of an expression. The instructions stand in one block, one
-- after another; where they find a trap they enter a small block of its own.
use Rattle.std.specs.Prelude.{ℕ, zero, suc, ◌+◌, ℤ, pos, negsuc, Bool, true, false, nat_lt}
use Rattle.std.specs.Prelude.{if◌then◌else◌, List, [], ◌∷◌, ◌++◌, Option, None, Some, codes}
use Rattle.std.specs.Fmt.{decimal}
use Rattle.expr_lower.specs.Registers.{base_register, last_left}
use Rattle.tp_value.specs.declared.Place.{Place}
use Rattle.tp_value.specs.declared.TrapKind.{TrapKind}
use Rattle.tp_value.specs.declared.TrapKind.TheVariants.{Divide, Index}
use Rattle.loop_syntax.specs.declared.BinOp.{BinOp}
use Rattle.loop_syntax.specs.declared.BinOp.TheVariants as op
use Rattle.loop_syntax.specs.declared.Expr.{Expr}
use Rattle.loop_syntax.specs.declared.Expr.TheVariants.{Int, Var, Cell', Rows, Cols, Neg', Bin'}
use Rattle.tpal_syntax.specs.declared.blocks.Block.{Block}
use Rattle.tpal_syntax.specs.declared.instructions.Alu.{Alu}
use Rattle.tpal_syntax.specs.declared.instructions.Alu.TheVariants as alu
use Rattle.tpal_syntax.specs.declared.instructions.Instr.{Instr}
use Rattle.tpal_syntax.specs.declared.instructions.Instr.TheVariants as instr
use Rattle.tpal_syntax.specs.declared.instructions.Term.TheVariants as term
use Rattle.tpal_syntax.specs.declared.instructions.Value.TheVariants as value
use Rattle.tpal_syntax.specs.declared.notes.Note.TheVariants as note
use Rattle.expr_lower.specs.declared.scope.Scope.{Scope}
use Rattle.expr_lower.specs.Scopes.{home_of, offset_of, register_of, table_number}

-- ---- trap blocks

-- the name of the block at a label
abbrev pub name_of : ℕ → List ℕ
name_of label = codes "b" ++ decimal label

-- a block that traps
abbrev pub trap_block : ℕ → TrapKind → Place → Block
trap_block label kind place = record {
  name = name_of label;
  note = note.Plain;
  body = instr.Trap kind place ∷ [];
  term = term.Halt;
}

-- the number that an expression is, where it is a literal
abbrev pub literal : Expr → Option ℤ
literal (Int n place) = Some n
literal (Var x) = None
literal (Cell' t p a q b) = None
literal (Rows t) = None
literal (Cols t) = None
literal (Neg' p a place) = None
literal (Bin' o place p a q b) = None

-- whether a divisor may be 0
abbrev pub may_be_zero : Option ℤ → Bool
may_be_zero None = true
may_be_zero (Some (pos zero)) = true
may_be_zero (Some (pos (suc n))) = false
may_be_zero (Some (negsuc n)) = false

-- whether an operator with this right operand can trap
abbrev pub can_trap : BinOp → Option ℤ → Bool
can_trap op.Add right = false
can_trap op.Sub right = false
can_trap op.Mul right = false
can_trap op.Div right = may_be_zero right
can_trap op.Rem right = may_be_zero right
can_trap op.Eq right = false
can_trap op.Ne right = false
can_trap op.Lt right = false
can_trap op.Le right = false
can_trap op.Gt right = false
can_trap op.Ge right = false

-- how many trap blocks an expression has
abbrev pub trap_count : Expr → ℕ
trap_count (Int n place) = 0
trap_count (Var x) = 0
trap_count (Cell' t p a q b) = trap_count a + trap_count b + 1
trap_count (Rows t) = 0
trap_count (Cols t) = 0
trap_count (Neg' p a place) = trap_count a
trap_count (Bin' o place p a q b) =
    trap_count a + trap_count b + (if can_trap o (literal b) then 1 else 0)

-- the trap blocks of an expression, from a label on: those of its operands from left to right, then
-- its own
abbrev pub traps_of : ℕ → Expr → List Block
traps_of label (Int n place) = []
traps_of label (Var x) = []
traps_of label (Cell' t p a q b) =
    traps_of label a
    ++ (traps_of (label + trap_count a) b
    ++ trap_block (label + trap_count a + trap_count b) Index t.place ∷ [])
traps_of label (Rows t) = []
traps_of label (Cols t) = []
traps_of label (Neg' p a place) = traps_of label a
traps_of label (Bin' o place p a q b) =
    traps_of label a
    ++ (traps_of (label + trap_count a) b
    ++ (if can_trap o (literal b) then trap_block (label + trap_count a + trap_count b) Divide place
    ∷ [] else []))

-- ---- operands

-- the register where an operand stands: the one that it has before any instruction, else the one
-- where its instructions leave it
abbrev pub operand_at : Option ℕ → ℕ → ℕ
operand_at None to = to
operand_at (Some r) to = r

-- an operand has its instructions, but none where it stands in a register before them
abbrev pub operand_body : Option ℕ → List Instr → List Instr
operand_body None body = body
operand_body (Some r) body = []

-- ---- operators

-- `to` gets the result of two operands, the left one in a register. The right one is a number or
-- stands in a register behind its instructions.
abbrev pub calculation : Alu → ℕ → ℕ → ℕ → List Instr → Option ℤ → List Instr
calculation o to left right body None = body ++ instr.Calc to left o (value.Reg right) ∷ []
calculation o to left right body (Some n) = instr.Calc to left o (value.Int n) ∷ []

-- the same, with the operands in turn
abbrev pub turned : Alu → ℕ → ℕ → ℕ → List Instr → List Instr
turned o to left right body = body ++ instr.Calc to right o (value.Reg left) ∷ []

-- A division, with a test of the divisor before it. The register behind `last_left` is the last one
-- that may change: where the test has no register of its own, it takes the one in which the
-- instructions of the divisor leave it, and these stand once more behind it.
abbrev pub tested_division : Alu → ℕ → ℕ → ℕ → List Instr → ℕ → List Instr
tested_division o to left right body trap =
    if nat_lt to last_left
    then body ++ instr.Calc (to + 2) right alu.Eq (value.Int (pos 0)) ∷ instr.IfJump (to + 2) trap
    ∷ instr.Calc to left o (value.Reg right) ∷ []
    else body
    ++ (instr.Calc (to + 1) right alu.Eq (value.Int (pos 0)) ∷ instr.IfJump (to + 1) trap ∷ body
    ++ instr.Calc to left o (value.Reg right) ∷ [])

abbrev pub division : Alu → ℕ → ℕ → ℕ → List Instr → Option ℤ → ℕ → List Instr
division o to left right body None trap = tested_division o to left right body trap
division o to left right body (Some (pos zero)) trap =
    instr.Move to (value.Int (pos 1)) ∷ instr.IfJump to trap ∷ []
division o to left right body (Some (pos (suc n))) trap =
    instr.Calc to left o (value.Int (pos (suc n))) ∷ []
division o to left right body (Some (negsuc n)) trap =
    instr.Calc to left o (value.Int (negsuc n)) ∷ []

-- the negation of the number in a register
abbrev pub negation : ℕ → ℕ → List Instr
negation to left = instr.Calc to left alu.Mul (value.Int (negsuc 0)) ∷ []

-- The instructions of an operator behind those of its left operand. Its operands stand in two
-- registers, the right one behind its instructions, or are a register and a number.
abbrev pub operation : BinOp → ℕ → ℕ → ℕ → List Instr → Option ℤ → ℕ → List Instr
operation op.Add to left right body number trap = calculation alu.Add to left right body number
operation op.Sub to left right body number trap = calculation alu.Sub to left right body number
operation op.Mul to left right body number trap = calculation alu.Mul to left right body number
operation op.Div to left right body number trap = division alu.Div to left right body number trap
operation op.Rem to left right body number trap = division alu.Rem to left right body number trap
operation op.Eq to left right body number trap = calculation alu.Eq to left right body number
operation op.Ne to left right body number trap = calculation alu.Ne to left right body number
operation op.Lt to left right body number trap = calculation alu.Lt to left right body number
operation op.Le to left right body number trap = calculation alu.Le to left right body number
operation op.Gt to left right body number trap = turned alu.Lt to left right body
operation op.Ge to left right body number trap = turned alu.Le to left right body

-- ---- cells

-- a trap where one of the indexes in two registers is below 0, tested in a third
abbrev pub below_test : ℕ → ℕ → ℕ → ℕ → List Instr
below_test row col test trap =
    instr.Calc test row alu.Min (value.Reg col) ∷ instr.Calc test test alu.Lt (value.Int (pos 0))
    ∷ instr.IfJump test trap ∷ []

-- a trap where the row in a register isn't below the number of rows
abbrev pub row_test : ℕ → ℕ → ℕ → ℕ → List Instr
row_test table row test trap =
    instr.Rows test table ∷ instr.Calc test test alu.Le (value.Reg row) ∷ instr.IfJump test trap
    ∷ []

-- a trap where the column isn't below the number of columns
abbrev pub col_test : ℕ → ℕ → ℕ → ℕ → List Instr
col_test table col test trap =
    instr.Cols test table ∷ instr.Calc test test alu.Le (value.Reg col) ∷ instr.IfJump test trap
    ∷ []

-- a trap where a row and a column in two registers are those of no cell of a table, tested in a
-- third
abbrev pub range_tests : ℕ → ℕ → ℕ → ℕ → ℕ → List Instr
range_tests table row col test trap =
    below_test row col test trap ++ (row_test table row test trap ++ col_test table col test trap)

-- A cell, whose row and column stand in two registers behind their instructions. Where the tests
-- have no register of their own, they take the one in which the instructions of the column leave
-- it, and then that of the row, and these instructions stand once more behind them.
abbrev pub cell_read : ℕ → ℕ → ℕ → ℕ → List Instr → List Instr → ℕ → List Instr
cell_read table to row col row_body col_body trap =
    if nat_lt to last_left
    then row_body
    ++ (col_body
    ++ (range_tests table row col (to + 2) trap ++ instr.Fetch to table row col ∷ []))
    else row_body
    ++ (col_body
    ++ (below_test row col (to + 1) trap
    ++ (row_test table row (to + 1) trap
    ++ (col_body
    ++ (col_test table col to trap
    ++ (row_body ++ (col_body ++ instr.Fetch to table row col ∷ [])))))))

-- ---- expressions

-- a variable's number comes into `to`: from its register where it stands in one, else from its cell
abbrev pub variable_read : Option ℕ → ℕ → ℕ → List Instr
variable_read (Some r) off to = instr.Move to (value.Reg r) ∷ []
variable_read None off to = instr.Load to base_register off ∷ []

-- The instructions that leave an expression's value in register `to`, where its trap blocks stand
-- from a label on. An operand that stands in a register is used there.
abbrev pub body_of : Scope → ℕ → Expr → ℕ → List Instr
body_of scope label (Int n place) to = instr.Move to (value.Int n) ∷ []
body_of scope label (Var x) to =
    variable_read (register_of scope x.text.items) (offset_of scope x.text.items) to
body_of scope label (Cell' t p a q b) to =
    cell_read (table_number scope t.text.items) to (operand_at (home_of scope a) to)
    (operand_at (home_of scope b) (to + 1))
    (operand_body (home_of scope a) (body_of scope label a to))
    (operand_body (home_of scope b) (body_of scope (label + trap_count a) b (to + 1)))
    (label + trap_count a + trap_count b)
body_of scope label (Rows t) to = instr.Rows to (table_number scope t.text.items) ∷ []
body_of scope label (Cols t) to = instr.Cols to (table_number scope t.text.items) ∷ []
body_of scope label (Neg' p a place) to =
    operand_body (home_of scope a) (body_of scope label a to)
    ++ negation to (operand_at (home_of scope a) to)
body_of scope label (Bin' o place p a q b) to =
    operand_body (home_of scope a) (body_of scope label a to)
    ++ operation o to (operand_at (home_of scope a) to) (operand_at (home_of scope b) (to + 1))
    (operand_body (home_of scope b) (body_of scope (label + trap_count a) b (to + 1))) (literal b)
    (label + trap_count a + trap_count b)

-- the blocks of an expression from a label on: the one with its instructions, which goes on at the
-- label behind them all, and its trap blocks
abbrev pub blocks_of : Scope → Expr → ℕ → List Block
blocks_of scope e to =
    record {
      name = name_of scope.next_label;
      note = note.Plain;
      body = body_of scope (scope.next_label + 1) e to;
      term = term.Jump (value.Label (scope.next_label + 1 + trap_count e));
    } ∷ traps_of (scope.next_label + 1) e
