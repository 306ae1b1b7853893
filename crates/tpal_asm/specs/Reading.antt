-- Reading a line from its front, as the assembler does: each reading answers what was read and the
-- rest.
use Rattle.std.specs.Prelude.{◌≡◌, ℕ, Bool, List, ◌++◌, Option, Some, None, codes, pos, length}
use Rattle.std.specs.Prelude.{◌==◌, if◌then◌else◌}
use Rattle.std.specs.Borrow.{Bor}
use Rattle.tpal_syntax.specs.declared.instructions.Value.{Value}
use Rattle.tpal_syntax.specs.declared.instructions.Value.TheVariants.{Reg, Int}
use Rattle.tpal_syntax.specs.declared.instructions.Instr.{Instr}
use Rattle.tpal_syntax.specs.declared.instructions.Instr.TheVariants.{Calc, IfJump, Load, Store}
use Rattle.tpal_syntax.specs.declared.instructions.Instr.TheVariants.{Salloc, Sfree, PrmPush}
use Rattle.tpal_syntax.specs.declared.instructions.Instr.TheVariants.{PrmPop, PrmDrop, PrmEmpty}
use Rattle.tpal_syntax.specs.declared.instructions.Instr.TheVariants.{PrmSplit, JrAlloc, Fork}
use Rattle.tpal_syntax.specs.declared.instructions.Instr.TheVariants.{Fetch, Put, Rows, Cols, Make}
use Rattle.tpal_syntax.specs.declared.instructions.Instr.TheVariants.{Tick, Trap, Print, Emit}
use Rattle.tpal_syntax.specs.declared.instructions.Term.{Term}
use Rattle.tpal_syntax.specs.declared.instructions.Term.TheVariants.{Jump, Halt, Join, Leave}
use Rattle.tpal_syntax.specs.declared.notes.CutKind.{CutKind}
use Rattle.tpal_syntax.specs.declared.notes.CarryAt.{CarryAt}
use Rattle.tpal_syntax.specs.declared.notes.CarryAt.TheVariants as carry
use Rattle.tpal_syntax.specs.declared.notes.Note.{Note}
use Rattle.tpal_syntax.specs.declared.notes.Note.TheVariants as note
use Rattle.tpal_syntax.specs.declared.notes.Target.{Target}
use Rattle.tpal_syntax.specs.declared.blocks.CodeTable.{CodeTable}
use Rattle.tpal_syntax.specs.declared.blocks.CodeTable.TheVariants.{Input, Made}
use Rattle.tpal_syntax.specs.declared.versions.Version.{Version}
use Rattle.tpal_syntax.specs.declared.versions.Version.TheVariants.{One, Two}
use Rattle.tpal_syntax.specs.Readers.{renames_at, carries_at, policy_at, kind_at, ◌>>=◌, after}
use Rattle.tpal_syntax.specs.Readers.{branch, negative, number_at, word_at, register_at, table_at}
use Rattle.tpal_syntax.specs.Readers.{label_at, cell_at, place_at, value_at, alu_at, trap_at}
use Rattle.tpal_syntax.specs.Readers.{source_at}

-- what a function returned, seen by view, is what a reading gives
abbrev pub Reads : {X Y : Type 0} → (X → Y) → Option X → Option Y → Type 0
Reads view None read = read ≡ None
Reads view (Some x) read = read ≡ Some (view x)

-- what was read, with the bytes that the rest points to
abbrev pub rest_of : {A : Type 0} → A × Bor (List ℕ) → A × List ℕ
rest_of x = (x.0, x.1.now)

abbrev pub rests_of : Bor (List ℕ) × Bor (List ℕ) → List ℕ × List ℕ
rests_of x = (x.0.now, x.1.now)

abbrev pub cell_of : (ℕ × ℕ) × Bor (List ℕ) → (ℕ × ℕ) × List ℕ
cell_of x = ((x.0.0, x.0.1), x.1.now)

-- ---- operands

-- the label of a name
abbrev pub name_rest : (List ℕ → ℕ) → List ℕ → Option (ℕ × List ℕ)
name_rest f us = word_at us >>= λ n. Some (f n.0, n.1)

unfoldable pub reg_rest : List ℕ → Option (Value × List ℕ)
reg_rest us = number_at 31 us >>= λ r. Some (Reg r.0, r.1)

unfoldable pub negative_rest : List ℕ → Option (Value × List ℕ)
negative_rest us = number_at 9223372036854775808 us >>= negative

unfoldable pub number_rest : List ℕ → Option (Value × List ℕ)
number_rest us = number_at 9223372036854775807 us >>= λ n. Some (Int (pos n.0), n.1)

-- ---- instructions, behind their first word

unfoldable pub if_jump_rest : (List ℕ → ℕ) → List ℕ → Option (Instr × List ℕ)
if_jump_rest f us =
    register_at us >>= λ r.
    after (codes ", ") r.1 >>= λ vs. label_at f vs >>= λ l. Some (IfJump r.0 l.0, l.1)

unfoldable pub store_rest : (List ℕ → ℕ) → List ℕ → Option (Instr × List ℕ)
store_rest f us =
    cell_at us >>= λ c.
    after (codes " := ") c.1 >>= λ vs. value_at f vs >>= λ v. Some (Store c.0.0 c.0.1 v.0, v.1)

unfoldable pub salloc_rest : List ℕ → Option (Instr × List ℕ)
salloc_rest us = number_at 512 us >>= λ n. Some (Salloc n.0, n.1)

unfoldable pub sfree_rest : List ℕ → Option (Instr × List ℕ)
sfree_rest us = number_at 512 us >>= λ n. Some (Sfree n.0, n.1)

unfoldable pub prmpush_rest : (List ℕ → ℕ) → List ℕ → Option (Instr × List ℕ)
prmpush_rest f us =
    cell_at us >>= λ c.
    after (codes ", ") c.1 >>= λ vs.
    number_at 512 vs >>= λ n.
    after (codes ", ") n.1 >>= λ ws.
    label_at f ws >>= λ l. Some (PrmPush c.0.0 c.0.1 n.0 l.0, l.1)

unfoldable pub prmpop_rest : List ℕ → Option (Instr × List ℕ)
prmpop_rest us = cell_at us >>= λ c. Some (PrmPop c.0.0 c.0.1, c.1)

unfoldable pub prmempty_rest : List ℕ → Option (Instr × List ℕ)
prmempty_rest us = register_at us >>= λ r. Some (PrmEmpty r.0, r.1)

unfoldable pub prmsplit_rest : List ℕ → Option (Instr × List ℕ)
prmsplit_rest us =
    register_at us >>= λ a.
    after (codes ", ") a.1 >>= λ vs. register_at vs >>= λ b. Some (PrmSplit a.0 b.0, b.1)

unfoldable pub fork_rest : (List ℕ → ℕ) → List ℕ → Option (Instr × List ℕ)
fork_rest f us =
    register_at us >>= λ r.
    after (codes ", ") r.1 >>= λ vs. label_at f vs >>= λ l. Some (Fork r.0 l.0, l.1)

unfoldable pub put_rest : List ℕ → Option (Instr × List ℕ)
put_rest us =
    table_at us >>= λ t.
    after (codes ", ") t.1 >>= λ vs.
    register_at vs >>= λ row.
    after (codes ", ") row.1 >>= λ ws.
    register_at ws >>= λ col.
    after (codes ", ") col.1 >>= λ xs.
    register_at xs >>= λ v. Some (Put t.0 row.0 col.0 v.0, v.1)

unfoldable pub make_rest : List ℕ → Option (Instr × List ℕ)
make_rest us =
    table_at us >>= λ t.
    after (codes ", ") t.1 >>= λ vs.
    register_at vs >>= λ row.
    after (codes ", ") row.1 >>= λ ws.
    register_at ws >>= λ col.
    after (codes ", ") col.1 >>= λ xs.
    place_at xs >>= λ p. Some (Make t.0 row.0 col.0 p.0, p.1)

unfoldable pub trap_rest : List ℕ → Option (Instr × List ℕ)
trap_rest us = trap_at us >>= λ k. place_at k.1 >>= λ p. Some (Trap k.0 p.0, p.1)

unfoldable pub print_rest : List ℕ → Option (Instr × List ℕ)
print_rest us = register_at us >>= λ r. Some (Print r.0, r.1)

unfoldable pub emit_rest : List ℕ → Option (Instr × List ℕ)
emit_rest us = table_at us >>= λ t. Some (Emit t.0, t.1)

unfoldable pub load_rest : ℕ → List ℕ → Option (Instr × List ℕ)
load_rest to us = cell_at us >>= λ c. Some (Load to c.0.0 c.0.1, c.1)

unfoldable pub jralloc_rest : (List ℕ → ℕ) → ℕ → List ℕ → Option (Instr × List ℕ)
jralloc_rest f to us = label_at f us >>= λ l. Some (JrAlloc to l.0, l.1)

unfoldable pub fetch_rest : ℕ → List ℕ → Option (Instr × List ℕ)
fetch_rest to us =
    table_at us >>= λ t.
    after (codes ", ") t.1 >>= λ vs.
    register_at vs >>= λ row.
    after (codes ", ") row.1 >>= λ ws.
    register_at ws >>= λ col. Some (Fetch to t.0 row.0 col.0, col.1)

unfoldable pub rows_rest : ℕ → List ℕ → Option (Instr × List ℕ)
rows_rest to us = table_at us >>= λ t. Some (Rows to t.0, t.1)

unfoldable pub cols_rest : ℕ → List ℕ → Option (Instr × List ℕ)
cols_rest to us = table_at us >>= λ t. Some (Cols to t.0, t.1)

-- a register with an operator and an operand
unfoldable pub calc_rest : (List ℕ → ℕ) → ℕ → ℕ → List ℕ → Option (Instr × List ℕ)
calc_rest f to left us =
    alu_at us >>= λ op. value_at f op.1 >>= λ v. Some (Calc to left op.0 v.0, v.1)

-- an operand alone, or a register with an operator and an operand
abbrev pub source_rest : (List ℕ → ℕ) → ℕ → Value × List ℕ → Option (Instr × List ℕ)
source_rest f to read = source_at f to read

unfoldable pub move_rest : (List ℕ → ℕ) → ℕ → List ℕ → Option (Instr × List ℕ)
move_rest f to ts = value_at f ts >>= source_rest f to

-- what stands behind `rA := `
unfoldable pub assigned_rest : (List ℕ → ℕ) → ℕ → List ℕ → Option (Instr × List ℕ)
assigned_rest f to ts =
    branch (after (codes "mem[") ts) (λ us. load_rest to ts)
    (branch (after (codes "jralloc ") ts) (jralloc_rest f to)
    (branch (after (codes "fetch ") ts) (fetch_rest to)
    (branch (after (codes "rows ") ts) (rows_rest to)
    (branch (after (codes "cols ") ts) (cols_rest to)
    (move_rest f to ts)))))

-- what stands behind the `r` of an assigned register
unfoldable pub changed_rest : (List ℕ → ℕ) → List ℕ → Option (Instr × List ℕ)
changed_rest f us =
    number_at 31 us >>= λ to. after (codes " := ") to.1 >>= λ vs. assigned_rest f to.0 vs

-- an instruction that changes no register by `:=`: of stacks and marks
unfoldable pub stack_rest : (List ℕ → ℕ) → List ℕ → Option (Instr × List ℕ) →
    Option (Instr × List ℕ)
stack_rest f ts other =
    branch (after (codes "salloc ") ts) salloc_rest
    (branch (after (codes "sfree ") ts) sfree_rest
    (branch (after (codes "prmpush ") ts) (prmpush_rest f)
    (branch (after (codes "prmpop ") ts) prmpop_rest
    (branch (after (codes "prmdrop") ts) (λ us. Some (PrmDrop, us))
    (branch (after (codes "prmempty ") ts) prmempty_rest
    (branch (after (codes "prmsplit ") ts) prmsplit_rest other))))))

-- or of tables, ticks and outputs
unfoldable pub table_rest : List ℕ → Option (Instr × List ℕ)
table_rest ts =
    branch (after (codes "put ") ts) put_rest
    (branch (after (codes "make ") ts) make_rest
    (branch (after (codes "tick") ts) (λ us. Some (Tick, us))
    (branch (after (codes "trap ") ts) trap_rest
    (branch (after (codes "print ") ts) print_rest
    (branch (after (codes "emit ") ts) emit_rest None)))))

-- or of control
unfoldable pub other_rest : (List ℕ → ℕ) → List ℕ → Option (Instr × List ℕ)
other_rest f ts = branch (after (codes "fork ") ts) (fork_rest f) (table_rest ts)

unfoldable pub instr_rest : (List ℕ → ℕ) → List ℕ → Option (Instr × List ℕ)
instr_rest f ts =
    branch (after (codes "r") ts) (changed_rest f)
    (branch (after (codes "if-jump ") ts) (if_jump_rest f)
    (branch (after (codes "mem[") ts) (λ us. store_rest f ts)
    (stack_rest f ts (other_rest f ts))))

-- ---- ends

unfoldable pub jump_rest : (List ℕ → ℕ) → List ℕ → Option (Term × List ℕ)
jump_rest f us = value_at f us >>= λ v. Some (Jump v.0, v.1)

unfoldable pub join_rest : List ℕ → Option (Term × List ℕ)
join_rest us = register_at us >>= λ r. Some (Join r.0, r.1)

unfoldable pub leave_rest : List ℕ → Option (Term × List ℕ)
leave_rest us =
    register_at us >>= λ r.
    after (codes ", ") r.1 >>= λ vs. register_at vs >>= λ q. Some (Leave r.0 q.0, q.1)

-- an end that stands in version 2 alone
unfoldable pub left_rest : Version → List ℕ → Option (Term × List ℕ)
left_rest One ts = None
left_rest Two ts = branch (after (codes "leave ") ts) leave_rest None

unfoldable pub term_rest : Version → (List ℕ → ℕ) → List ℕ → Option (Term × List ℕ)
term_rest v f ts =
    branch (after (codes "jump ") ts) (jump_rest f)
    (branch (after (codes "halt") ts) (λ us. Some (Halt, us))
    (branch (after (codes "join ") ts) join_rest (left_rest v ts)))

-- ---- notes

abbrev pub pair_of : (ℕ × ℕ) × Bor (List ℕ) → (ℕ × ℕ) × List ℕ
pair_of x = ((x.0.0, x.0.1), x.1.now)

-- more of its kind behind what was read already
abbrev pub onto : {A : Type 0} → List A → Option (List A × List ℕ) → Option (List A × List ℕ)
onto xs None = None
onto xs (Some read) = Some (xs ++ read.0, read.1)

unfoldable pub carried_rows_rest : ℕ → List ℕ → Option (CarryAt × List ℕ)
carried_rows_rest table us = register_at us >>= λ r. Some (carry.Rows table r.0, r.1)

unfoldable pub carried_cells_rest : ℕ → List ℕ → Option (CarryAt × List ℕ)
carried_cells_rest table ts =
    after (codes " cells ") ts >>= λ us.
    register_at us >>= λ r.
    after (codes " ") r.1 >>= λ vs.
    register_at vs >>= λ q. Some (carry.Cells table r.0 q.0, q.1)

-- what stands between the renames and the carries
unfoldable pub cut_rest : (List ℕ → ℕ) → List ℕ → Option ((ℕ × CutKind) × List ℕ)
cut_rest f ts =
    after (codes "; @") ts >>= λ us.
    word_at us >>= λ w.
    after (codes "; ") w.1 >>= λ vs. kind_at vs >>= λ k. Some ((f w.0, k.0), k.1)

abbrev pub made_target : Bool → List (ℕ × ℕ) → ℕ × CutKind → List CarryAt → Target
made_target comm renames cut carries =
    record { comm = comm; renames = renames; comb = cut.0; kind = cut.1; carries = carries }

unfoldable pub target_rest : (List ℕ → ℕ) → ℕ → List ℕ → Option (Target × List ℕ)
target_rest f n ts =
    policy_at ts >>= λ p.
    renames_at n p.1 >>= λ r.
    cut_rest f r.1 >>= λ k.
    carries_at n k.1 >>= λ c. Some (made_target p.0 r.0 k.0 c.0, c.1)

unfoldable pub ready_rest : (List ℕ → ℕ) → List ℕ → Option (Note × List ℕ)
ready_rest f us = word_at us >>= λ w. Some (note.Ready (f w.0), w.1)

unfoldable pub jtppt_rest : (List ℕ → ℕ) → ℕ → List ℕ → Option (Note × List ℕ)
jtppt_rest f n us = target_rest f n us >>= λ t. Some (note.Target t.0, t.1)

unfoldable pub note_rest : (List ℕ → ℕ) → ℕ → List ℕ → Option (Note × List ℕ)
note_rest f n ts =
    branch (after (codes "plain") ts) (λ us. Some (note.Plain, us))
    (branch (after (codes "prppt @") ts) (ready_rest f)
    (branch (after (codes "jtppt ") ts) (jtppt_rest f n) None))

-- ---- whole lines

-- the number of a block behind its name; 0 where the version has none
unfoldable pub number_rest_of : Version → List ℕ → Option (ℕ × List ℕ)
number_rest_of One ts = Some (0, ts)
number_rest_of Two ts = after (codes " #") ts >>= number_at 9223372036854775807

-- the first line of a block: a name and a note; its number is read over
unfoldable pub header_rest : Version → (List ℕ → ℕ) → List ℕ → Option ((List ℕ × Note) × List ℕ)
header_rest v f ts =
    word_at ts >>= λ w.
    number_rest_of v w.1 >>= λ n.
    after (codes ": ") n.1 >>= λ us. note_rest f (length us) us >>= λ x. Some ((w.0, x.0), x.1)

-- the number in the first line of a block
unfoldable pub header_number : Version → List ℕ → Option ℕ
header_number v ts = word_at ts >>= λ w. number_rest_of v w.1 >>= λ n. Some n.0

-- behind the word `table t` the number of a table, and what it is; the number is at most 16
unfoldable pub table_line_rest : List ℕ → Option ((ℕ × CodeTable) × List ℕ)
table_line_rest ts = number_at 16 ts >>= λ n.
    branch (after (codes " made") n.1) (λ us. Some ((n.0, Made), us))
    (after (codes " input ") n.1 >>= λ us. word_at us >>= λ w. Some ((n.0, Input w.0), w.1))

-- what was read, where the byte that ends the line is all that is left
abbrev pub ended : {A : Type 0} → Option (A × List ℕ) → Option A
ended None = None
ended (Some read) = if length read.1 == 1 then Some read.0 else None
