-- The rules of an instruction, by what is known where it stands.
use Rattle.std.specs.Prelude.{ℕ, Bool, true, false, not, ◌&&◌, ◌||◌, ◌==◌, List, [], ◌∷◌}
use Rattle.std.specs.Prelude.{Option, Some, None, if◌then◌else◌, slice_get}
use Rattle.std.specs.List.{list_all}
use Rattle.tpal_syntax.specs.declared.blocks.Block.{Block}
use Rattle.tpal_syntax.specs.declared.instructions.Value.{Value}
use Rattle.tpal_syntax.specs.declared.instructions.Value.TheVariants.{Reg, Int, Label, Nil}
use Rattle.tpal_syntax.specs.declared.instructions.Alu.{Alu}
use Rattle.tpal_syntax.specs.declared.instructions.Alu.TheVariants.{Eq, Ne}
use Rattle.tpal_syntax.specs.declared.instructions.Instr.{Instr}
use Rattle.tpal_syntax.specs.declared.instructions.Instr.TheVariants.{Move, Calc, IfJump, Load}
use Rattle.tpal_syntax.specs.declared.instructions.Instr.TheVariants.{Store, PrmPush, PrmPop}
use Rattle.tpal_syntax.specs.declared.instructions.Instr.TheVariants.{PrmDrop, PrmSplit, JrAlloc}
use Rattle.tpal_syntax.specs.declared.instructions.Instr.TheVariants.{Fork, Fetch, Put, Make, Print}
use Rattle.tpal_syntax.specs.declared.notes.CarryAt.{CarryAt}
use Rattle.tpal_syntax.specs.declared.notes.CarryAt.TheVariants as carry
use Rattle.tpal_syntax.specs.declared.notes.Note.{Note}
use Rattle.tpal_syntax.specs.declared.notes.Note.TheVariants as note
use Rattle.tpal_verify.specs.declared.kinds.Kind.{Kind}
use Rattle.tpal_verify.specs.declared.kinds.Kind.TheVariants.{Number, Empty, Pend, Back, Any}
use Rattle.tpal_verify.specs.declared.phases.Phase.{Phase}
use Rattle.tpal_verify.specs.declared.phases.Phase.TheVariants.{Calm, Compared, Asked, Tested}
use Rattle.tpal_verify.specs.declared.phases.Phase.TheVariants.{Given}
use Rattle.tpal_verify.specs.Kinds.{kind_eq, is_marked, is_clear}
use Rattle.tpal_verify.specs.Shapes.{Shape, kind_at}
use Rattle.tpal_verify.specs.Flat.{Ground, is_flat}

-- ---- notes of blocks, by their labels

abbrev pub note_of : Option Block → Note
note_of None = note.Plain
note_of (Some block) = block.note

abbrev pub note_at : Ground → ℕ → Note
note_at whole l = note_of (slice_get whole.blocks l)

abbrev pub is_target : Note → Bool
is_target note.Plain = false
is_target (note.Ready handler) = false
is_target (note.Target target) = true

abbrev pub carries_of : Note → List CarryAt
carries_of note.Plain = []
carries_of (note.Ready handler) = []
carries_of (note.Target target) = target.carries

-- the word of a label
abbrev pub label_kind : Note → Kind
label_kind note.Plain = Any
label_kind (note.Ready handler) = Back handler
label_kind (note.Target target) = Any

-- the word of an operand
abbrev pub value_kind : Ground → Shape → Value → Kind
value_kind whole s (Reg r) = kind_at s r
value_kind whole s (Int z) = Number
value_kind whole s (Label l) = label_kind (note_at whole l)
value_kind whole s Nil = Empty

-- ---- rule 2: numbers where the machine asks for numbers

abbrev pub compares : Alu → Bool
compares Eq = true
compares Ne = true
compares _ = false

abbrev pub is_number_at : Shape → ℕ → Bool
is_number_at s r = kind_eq (kind_at s r) Number

-- the registers by which a table is cut
abbrev pub cuts_by_numbers : Shape → CarryAt → Bool
cuts_by_numbers s (carry.Rows table at) = is_number_at s at
cuts_by_numbers s (carry.Cells table row at) = is_number_at s row && is_number_at s at

-- a fork cuts the tables that its target carries, where it is under a record that was given
abbrev pub fork_cuts : Ground → Phase → Shape → ℕ → Bool
fork_cuts whole Calm s rec = true
fork_cuts whole (Compared r x) s rec = true
fork_cuts whole (Asked r l) s rec = true
fork_cuts whole (Tested r x l) s rec = true
fork_cuts whole (Given r l) s rec =
    not (kind_eq (kind_at s rec) Pend)
    || list_all (cuts_by_numbers s) (carries_of (note_at whole l))

abbrev pub has_numbers : Ground → Phase → Shape → Instr → Bool
has_numbers whole p s (Calc to left alu right) =
    compares alu || (is_number_at s left && kind_eq (value_kind whole s right) Number)
has_numbers whole p s (IfJump test label) = is_number_at s test
has_numbers whole p s (Load to base off) = is_number_at s base
has_numbers whole p s (Store base off value) = is_number_at s base
has_numbers whole p s (PrmPush base off cells split) = is_number_at s base
has_numbers whole p s (PrmPop base off) = is_number_at s base
has_numbers whole p s (Fork rec child) = fork_cuts whole p s rec
has_numbers whole p s (Fetch to table row col) = is_number_at s row && is_number_at s col
has_numbers whole p s (Put table row col value) =
    is_number_at s row && is_number_at s col && is_number_at s value
has_numbers whole p s (Make table rows cols place) = is_number_at s rows && is_number_at s cols
has_numbers whole p s (Print r) = is_number_at s r
has_numbers whole p s _ = true

-- ---- rule 3: the mark

abbrev pub marks_rightly : Shape → Instr → Bool
marks_rightly s (PrmPush base off cells split) = is_clear s.mark
marks_rightly s PrmDrop = is_marked s.mark
marks_rightly s (PrmSplit base split) = is_marked s.mark
marks_rightly s (Fork rec child) = is_marked s.mark
marks_rightly s _ = true

-- ---- rule 4: what stands behind a `jralloc`

-- a move, a calculation, a load or a store that leaves a register alone
abbrev pub leaves_alone : ℕ → Instr → Bool
leaves_alone r (Move to value) = not (to == r)
leaves_alone r (Calc to left alu right) = not (to == r)
leaves_alone r (Load to base off) = not (to == r)
leaves_alone r (Store base off value) = true
leaves_alone r _ = false

-- the record of a fork
abbrev pub forked_under : Instr → Option ℕ
forked_under (Fork rec child) = Some rec
forked_under _ = None

-- instructions that leave a register alone, and then a fork under it
abbrev pub leads_by : ℕ → Option ℕ → Bool → Bool
leads_by r (Some rec) later = rec == r
leads_by r None later = later

abbrev pub leads_to_fork : ℕ → List Instr → Bool
leads_to_fork r [] = false
leads_to_fork r (instr ∷ body) =
    leads_by r (forked_under instr) (leaves_alone r instr && leads_to_fork r body)

abbrev pub is_eq : Alu → Bool
is_eq Eq = true
is_eq _ = false

abbrev pub is_nil : Value → Bool
is_nil Nil = true
is_nil _ = false

-- the register that holds the answer of a test of another one against nil
abbrev pub truth_of : ℕ → Instr → Option ℕ
truth_of r (Calc x left alu right) =
    if left == r && not (x == r) && is_eq alu && is_nil right then Some x else None
truth_of r _ = None

abbrev pub jumps_by : Option ℕ → Instr → Bool
jumps_by (Some x) (IfJump y label) = y == x
jumps_by _ _ = false

-- a test of a register against nil, a jump by it, and what leads to a fork
abbrev pub tests_first : ℕ → List Instr → Bool
tests_first r (test ∷ jump ∷ body) = jumps_by (truth_of r test) jump && leads_to_fork r body
tests_first r _ = false

abbrev pub asks_rightly : Ground → Instr → List Instr → Bool
asks_rightly whole (JrAlloc to target) rest =
    is_target (note_at whole target) && tests_first to rest
asks_rightly whole _ rest = true

-- ---- rule 5: the record and the grant of a fork

abbrev pub may_fork : Shape → Instr → Bool
may_fork s (Fork rec child) = kind_eq (kind_at s rec) Pend && s.granted
may_fork s _ = true

-- ---- the least rule that an instruction breaks

abbrev pub broken_rule : Ground → Bool → Phase → Shape → Instr → List Instr → Option ℕ
broken_rule whole first p s instr rest =
    if not (is_flat whole first instr) then Some 1
    else (if not (has_numbers whole p s instr) then Some 2
    else (if not (marks_rightly s instr) then Some 3
    else (if not (asks_rightly whole instr rest) then Some 4
    else (if not (may_fork s instr) then Some 5 else None))))
