-- The texts of a code: one of version 2, and one of version 1 where no block of it is left. Labels
-- are written by the names of their blocks.
use Rattle.std.specs.Prelude.{◌≡◌, ◌⊎◌, ℕ, ◌+◌, Bool, true, false, List, [], ◌∷◌, ◌++◌, IsTrue}
use Rattle.std.specs.Prelude.{slice_index_or, codes}
use Rattle.std.specs.List.{flat_map, join_by, list_all}
use Rattle.std.specs.Fmt.{decimal, signed_decimal}
use Rattle.tp_value.specs.declared.values.Place.{Place}
use Rattle.tp_value.specs.declared.values.TrapKind.{TrapKind}
use Rattle.tp_value.specs.declared.values.TrapKind.TheVariants.{Divide, Index, Deep, Size, Wide}
use Rattle.tpal_syntax.specs.declared.instructions.Value.{Value}
use Rattle.tpal_syntax.specs.declared.instructions.Value.TheVariants.{Reg, Int, Label, Nil}
use Rattle.tpal_syntax.specs.declared.instructions.Alu.{Alu}
use Rattle.tpal_syntax.specs.declared.instructions.Alu.TheVariants as alu
use Rattle.tpal_syntax.specs.declared.instructions.Instr.{Instr}
use Rattle.tpal_syntax.specs.declared.instructions.Instr.TheVariants.{Move, Calc, IfJump, Load}
use Rattle.tpal_syntax.specs.declared.instructions.Instr.TheVariants.{Store, Salloc, Sfree, PrmPush}
use Rattle.tpal_syntax.specs.declared.instructions.Instr.TheVariants.{PrmPop, PrmDrop, PrmEmpty}
use Rattle.tpal_syntax.specs.declared.instructions.Instr.TheVariants.{PrmSplit, JrAlloc, Fork}
use Rattle.tpal_syntax.specs.declared.instructions.Instr.TheVariants.{Fetch, Put, Rows, Cols, Make}
use Rattle.tpal_syntax.specs.declared.instructions.Instr.TheVariants.{Tick, Trap, Print, Emit}
use Rattle.tpal_syntax.specs.declared.instructions.Term.{Term}
use Rattle.tpal_syntax.specs.declared.instructions.Term.TheVariants.{Jump, Halt, Join, Leave}
use Rattle.tpal_syntax.specs.declared.notes.CutKind.{CutKind}
use Rattle.tpal_syntax.specs.declared.notes.CutKind.TheVariants as cut
use Rattle.tpal_syntax.specs.declared.notes.CarryAt.{CarryAt}
use Rattle.tpal_syntax.specs.declared.notes.CarryAt.TheVariants as carry
use Rattle.tpal_syntax.specs.declared.notes.Note.{Note}
use Rattle.tpal_syntax.specs.declared.notes.Note.TheVariants as note
use Rattle.tpal_syntax.specs.declared.notes.Target.{Target}
use Rattle.tpal_syntax.specs.declared.blocks.Block.{Block}
use Rattle.tpal_syntax.specs.declared.blocks.CodeTable.{CodeTable}
use Rattle.tpal_syntax.specs.declared.blocks.CodeTable.TheVariants.{Input, Made}
use Rattle.tpal_syntax.specs.declared.versions.Version.{Version}
use Rattle.tpal_syntax.specs.declared.versions.Version.TheVariants.{One, Two}
use Rattle.tpal_syntax.specs.Conditions.{IsCode, block_names}

-- one text after another, grouped to the right
infixr 5 ◌+++◌
abbrev pub ◌+++◌ : List ℕ → List ℕ → List ℕ
xs +++ ys = xs ++ ys

-- ---- parts

abbrev pub register_text : ℕ → List ℕ
register_text r = codes "r" +++ decimal r

abbrev pub table_text : ℕ → List ℕ
table_text t = codes "t" +++ decimal t

-- the name of the block at a label
abbrev pub label_text : List (List ℕ) → ℕ → List ℕ
label_text names label = codes "@" +++ slice_index_or names label []

-- a cell, by the register of its base and an offset
abbrev pub cell_text : ℕ → ℕ → List ℕ
cell_text base off = codes "mem[" +++ register_text base +++ codes "+" +++ decimal off +++ codes "]"

abbrev pub place_text : Place → List ℕ
place_text place = decimal place.line +++ codes ", " +++ decimal place.col

abbrev pub value_text : List (List ℕ) → Value → List ℕ
value_text names (Reg r) = register_text r
value_text names (Int z) = signed_decimal z
value_text names (Label label) = label_text names label
value_text names Nil = codes "nil"

abbrev pub alu_text : Alu → List ℕ
alu_text alu.Add = codes "add"
alu_text alu.Sub = codes "sub"
alu_text alu.Mul = codes "mul"
alu_text alu.Div = codes "div"
alu_text alu.Rem = codes "rem"
alu_text alu.Eq = codes "eq"
alu_text alu.Ne = codes "ne"
alu_text alu.Lt = codes "lt"
alu_text alu.Le = codes "le"
alu_text alu.Min = codes "min"
alu_text alu.Max = codes "max"
alu_text alu.Affine = codes "affine"

abbrev pub trap_text : TrapKind → List ℕ
trap_text Divide = codes "Divide"
trap_text Index = codes "Index"
trap_text Deep = codes "Deep"
trap_text Size = codes "Size"
trap_text Wide = codes "Wide"

-- ---- instructions and ends

abbrev pub instr_text : List (List ℕ) → Instr → List ℕ
instr_text names (Move to value) = register_text to +++ codes " := " +++ value_text names value
instr_text names (Calc to left alu right) =
    register_text to +++ codes " := " +++ register_text left +++ codes " " +++ alu_text alu
    +++ codes " " +++ value_text names right
instr_text names (IfJump test label) =
    codes "if-jump " +++ register_text test +++ codes ", " +++ label_text names label
instr_text names (Load to base off) = register_text to +++ codes " := " +++ cell_text base off
instr_text names (Store base off value) =
    cell_text base off +++ codes " := " +++ value_text names value
instr_text names (Salloc n) = codes "salloc " +++ decimal n
instr_text names (Sfree n) = codes "sfree " +++ decimal n
instr_text names (PrmPush base off cells split) =
    codes "prmpush " +++ cell_text base off +++ codes ", " +++ decimal cells +++ codes ", "
    +++ label_text names split
instr_text names (PrmPop base off) = codes "prmpop " +++ cell_text base off
instr_text names PrmDrop = codes "prmdrop"
instr_text names (PrmEmpty r) = codes "prmempty " +++ register_text r
instr_text names (PrmSplit base split) =
    codes "prmsplit " +++ register_text base +++ codes ", " +++ register_text split
instr_text names (JrAlloc to target) =
    register_text to +++ codes " := jralloc " +++ label_text names target
instr_text names (Fork rec child) =
    codes "fork " +++ register_text rec +++ codes ", " +++ label_text names child
instr_text names (Fetch to table row col) =
    register_text to +++ codes " := fetch " +++ table_text table +++ codes ", "
    +++ register_text row +++ codes ", " +++ register_text col
instr_text names (Put table row col value) =
    codes "put " +++ table_text table +++ codes ", " +++ register_text row +++ codes ", "
    +++ register_text col +++ codes ", " +++ register_text value
instr_text names (Rows to table) = register_text to +++ codes " := rows " +++ table_text table
instr_text names (Cols to table) = register_text to +++ codes " := cols " +++ table_text table
instr_text names (Make table rows cols place) =
    codes "make " +++ table_text table +++ codes ", " +++ register_text rows +++ codes ", "
    +++ register_text cols +++ codes ", " +++ place_text place
instr_text names Tick = codes "tick"
instr_text names (Trap kind place) =
    codes "trap " +++ trap_text kind +++ codes ", " +++ place_text place
instr_text names (Print r) = codes "print " +++ register_text r
instr_text names (Emit table) = codes "emit " +++ table_text table

abbrev pub term_text : List (List ℕ) → Term → List ℕ
term_text names (Jump value) = codes "jump " +++ value_text names value
term_text names Halt = codes "halt"
term_text names (Join r) = codes "join " +++ register_text r
term_text names (Leave rec value) =
    codes "leave " +++ register_text rec +++ codes ", " +++ register_text value

-- the ends that stand in texts of a version: `leave` stands in version 2 alone
abbrev pub stands_in : Version → Term → Bool
stands_in One (Jump value) = true
stands_in One Halt = true
stands_in One (Join r) = true
stands_in One (Leave rec value) = false
stands_in Two term = true

-- ---- notes

abbrev pub rename_text : ℕ × ℕ → List ℕ
rename_text p = register_text p.0 +++ codes " -> " +++ register_text p.1

abbrev pub carry_text : CarryAt → List ℕ
carry_text (carry.Rows table at) = table_text table +++ codes " rows " +++ register_text at
carry_text (carry.Cells table row at) =
    table_text table +++ codes " cells " +++ register_text row +++ codes " " +++ register_text at

abbrev pub carries_text : List CarryAt → List ℕ
carries_text [] = codes "none"
carries_text (c ∷ cs) = join_by carry_text (codes ", ") (c ∷ cs)

abbrev pub policy_text : Bool → List ℕ
policy_text false = codes "assoc"
policy_text true = codes "assoc-comm"

abbrev pub kind_text : CutKind → List ℕ
kind_text cut.Loop = codes "loop"
kind_text cut.Call = codes "call"

abbrev pub target_text : List (List ℕ) → Target → List ℕ
target_text names t =
    codes "jtppt " +++ policy_text t.comm +++ codes "; {"
    +++ join_by rename_text (codes ", ") t.renames +++ codes "}; " +++ label_text names t.comb
    +++ codes "; " +++ kind_text t.kind +++ codes "; carry " +++ carries_text t.carries

abbrev pub note_text : List (List ℕ) → Note → List ℕ
note_text names note.Plain = codes "plain"
note_text names (note.Ready handler) = codes "prppt " +++ label_text names handler
note_text names (note.Target target) = target_text names target

-- ---- lines, blocks and whole texts

-- a line, with the byte that ends it
abbrev pub line : List ℕ → List ℕ
line bytes = bytes +++ 10 ∷ []

-- the table of this number
abbrev pub table_line : ℕ → CodeTable → List ℕ
table_line n (Input name) = codes "table t" +++ decimal n +++ codes " input " +++ name
table_line n Made = codes "table t" +++ decimal n +++ codes " made"

-- the tables from this number on
abbrev pub tables_text : ℕ → List CodeTable → List ℕ
tables_text n [] = []
tables_text n (table ∷ tables) = line (table_line n table) +++ tables_text (n + 1) tables

-- a block's number behind its name, in version 2
abbrev pub number_text : Version → ℕ → List ℕ
number_text One n = []
number_text Two n = codes " #" +++ decimal n

-- the first line of the block of this number
abbrev pub header_text : Version → List (List ℕ) → ℕ → List ℕ → Note → List ℕ
header_text v names n name note =
    name +++ number_text v n +++ codes ": " +++ note_text names note

-- the block of this number
abbrev pub block_text : Version → List (List ℕ) → ℕ → Block → List ℕ
block_text v names n block =
    line (header_text v names n block.name block.note)
    +++ flat_map (λ instr. line (codes "  " +++ instr_text names instr)) block.body
    +++ line (codes "  " +++ term_text names block.term)

-- the blocks from this number on
abbrev pub blocks_text : Version → List (List ℕ) → ℕ → List Block → List ℕ
blocks_text v names n [] = []
blocks_text v names n (block ∷ blocks) =
    block_text v names n block +++ blocks_text v names (n + 1) blocks

-- the first line of a text, with the byte that ends it, in version 2
abbrev pub first_line : Version → List ℕ
first_line One = []
first_line Two = line (codes "tpal 2")

-- the tables, and then the blocks
abbrev pub lines_of : Version → List CodeTable → List Block → List ℕ
lines_of v tables blocks = tables_text 0 tables +++ blocks_text v (block_names blocks) 0 blocks

-- the first line, if any, and then the tables and the blocks
abbrev pub text_of : Version → List CodeTable → List Block → List ℕ
text_of v tables blocks = first_line v +++ lines_of v tables blocks

-- the ends of all blocks stand in texts of a version
abbrev pub all_stand_in : Version → List Block → Bool
all_stand_in v blocks = list_all (λ b. stands_in v b.term) blocks

-- a text is that of a code in a version
pub record CodeTextIn (v : Version) (text : List ℕ) (tables : List CodeTable)
    (blocks : List Block) : Type 0 where
  pub right : IsCode tables blocks
  pub ends : IsTrue (all_stand_in v blocks)
  pub spelled : text ≡ text_of v tables blocks

-- a text is that of a code, in version 1 or 2
abbrev pub CodeText : List ℕ → List CodeTable → List Block → Type 0
CodeText text tables blocks = CodeTextIn One text tables blocks ⊎ CodeTextIn Two text tables blocks
