-- Reading a text from its front, part by part. Each reading answers what was read and the rest, or
-- nothing where no such part comes first.
use Rattle.std.specs.Prelude.{ℕ, zero, suc, ◌+◌, ◌-◌, ◌*◌, Bool, true, false, not, nat_le, ◌==◌}
use Rattle.std.specs.Prelude.{◌&&◌, if◌then◌else◌, List, [], ◌∷◌, Option, Some, None, pos, negsuc}
use Rattle.std.specs.Prelude.{codes}
use Rattle.tp_value.specs.declared.values.Place.{Place}
use Rattle.tp_value.specs.declared.values.TrapKind.{TrapKind}
use Rattle.tp_value.specs.declared.values.TrapKind.TheVariants.{Divide, Index, Deep, Size, Wide}
use Rattle.tpal_syntax.specs.declared.instructions.Value.{Value}
use Rattle.tpal_syntax.specs.declared.instructions.Value.TheVariants.{Reg, Int, Label, Nil}
use Rattle.tpal_syntax.specs.declared.instructions.Alu.{Alu}
use Rattle.tpal_syntax.specs.declared.instructions.Alu.TheVariants as alu
use Rattle.tpal_syntax.specs.declared.instructions.Instr.{Instr}
use Rattle.tpal_syntax.specs.declared.instructions.Instr.TheVariants.{Move, Calc}
use Rattle.tpal_syntax.specs.declared.notes.CutKind.{CutKind}
use Rattle.tpal_syntax.specs.declared.notes.CutKind.TheVariants as cut
use Rattle.tpal_syntax.specs.declared.notes.CarryAt.{CarryAt}
use Rattle.tpal_syntax.specs.declared.notes.CarryAt.TheVariants as carry
use Rattle.tpal_syntax.specs.declared.versions.Version.{Version}
use Rattle.tpal_syntax.specs.declared.versions.Version.TheVariants.{One, Two}
use Rattle.tpal_syntax.specs.Parts.{is_letter, is_word_byte}
use Rattle.tpal_syntax.specs.Text.{first_line}

-- what a reading of some kind answers to a text
abbrev pub Reading : Type 0 → Type 0
Reading A = List ℕ → Option (A × List ℕ)

-- a reading goes on with what was read, where something was
infixl 10 ◌>>=◌
abbrev pub ◌>>=◌ : {A B : Type 0} → Option A → (A → Option B) → Option B
(Some x) >>= f = f x
None >>= f = None

-- the rest behind these bytes
abbrev pub after : List ℕ → List ℕ → Option (List ℕ)
after [] ts = Some ts
after (l ∷ ls) [] = None
after (l ∷ ls) (t ∷ ts) = if t == l then after ls ts else None

-- one thing where these bytes come first, else another
abbrev pub branch : {A : Type 0} → Option (List ℕ) → (List ℕ → Option A) → Option A → Option A
branch (Some rest) then_ else_ = then_ rest
branch None then_ else_ = else_

-- ---- numbers and words

-- a decimal digit
abbrev pub is_digit : ℕ → Bool
is_digit b = nat_le 48 b && nat_le b 57

-- the digits that go on, up to a limit
unfoldable pub digits_at : ℕ → ℕ → Reading ℕ
digits_at limit n [] = Some (n, [])
digits_at limit n (t ∷ ts) =
    if is_digit t then
    (if nat_le (10 * n + (t - 48)) limit then digits_at limit (10 * n + (t - 48)) ts else None)
    else Some (n, t ∷ ts)

-- no digit comes next
abbrev pub no_digit : List ℕ → Bool
no_digit [] = true
no_digit (t ∷ ts) = not (is_digit t)

-- a number without leading zeros, up to a limit
unfoldable pub number_at : ℕ → Reading ℕ
number_at limit [] = None
number_at limit (t ∷ ts) =
    if t == 48 then (if no_digit ts then Some (0, ts) else None) else
    (if is_digit t then
    (if nat_le (t - 48) limit then digits_at limit (t - 48) ts else None) else None)

-- the bytes of a word that go on, and the rest
abbrev pub word_bytes : List ℕ → List ℕ × List ℕ
word_bytes [] = ([], [])
word_bytes (t ∷ ts) =
    if is_word_byte t then (t ∷ (word_bytes ts).0, (word_bytes ts).1) else ([], t ∷ ts)

-- a letter, and the bytes of a word that go on
unfoldable pub word_at : Reading (List ℕ)
word_at [] = None
word_at (t ∷ ts) =
    if is_letter t then Some (t ∷ (word_bytes ts).0, (word_bytes ts).1) else None

-- ---- parts; f gives each name its label

-- the number of a register
abbrev pub register_at : Reading ℕ
register_at ts = after (codes "r") ts >>= number_at 31

-- the number of a table
abbrev pub table_at : Reading ℕ
table_at ts = after (codes "t") ts >>= number_at 15

-- the label of a name
abbrev pub label_at : (List ℕ → ℕ) → Reading ℕ
label_at f ts = after (codes "@") ts >>= λ us. word_at us >>= λ n. Some (f n.0, n.1)

-- the register and the offset of a cell
unfoldable pub cell_at : Reading (ℕ × ℕ)
cell_at ts =
    after (codes "mem[") ts >>= λ us.
    register_at us >>= λ base.
    after (codes "+") base.1 >>= λ vs.
    number_at 511 vs >>= λ off.
    after (codes "]") off.1 >>= λ ws. Some ((base.0, off.0), ws)

-- a line and a column
unfoldable pub place_at : Reading Place
place_at ts =
    number_at 4294967295 ts >>= λ line.
    after (codes ", ") line.1 >>= λ us.
    number_at 4294967295 us >>= λ col. Some (record { line = line.0; col = col.0 }, col.1)

-- a number behind a sign
abbrev pub negative : ℕ × List ℕ → Option (Value × List ℕ)
negative (zero, rest) = None
negative (suc n, rest) = Some (Int (negsuc n), rest)

-- an operand
unfoldable pub value_at : (List ℕ → ℕ) → Reading Value
value_at f ts =
    branch (after (codes "r") ts) (λ us. number_at 31 us >>= λ r. Some (Reg r.0, r.1))
    (branch (after (codes "@") ts) (λ us. word_at us >>= λ n. Some (Label (f n.0), n.1))
    (branch (after (codes "nil") ts) (λ us. Some (Nil, us))
    (branch (after (codes "-") ts) (λ us. number_at 9223372036854775808 us >>= negative)
    (number_at 9223372036854775807 ts >>= λ n. Some (Int (pos n.0), n.1)))))

-- an operator and the blank behind it
unfoldable pub alu_at : Reading Alu
alu_at ts =
    branch (after (codes "add ") ts) (λ us. Some (alu.Add, us))
    (branch (after (codes "sub ") ts) (λ us. Some (alu.Sub, us))
    (branch (after (codes "mul ") ts) (λ us. Some (alu.Mul, us))
    (branch (after (codes "div ") ts) (λ us. Some (alu.Div, us))
    (branch (after (codes "rem ") ts) (λ us. Some (alu.Rem, us))
    (branch (after (codes "eq ") ts) (λ us. Some (alu.Eq, us))
    (branch (after (codes "ne ") ts) (λ us. Some (alu.Ne, us))
    (branch (after (codes "lt ") ts) (λ us. Some (alu.Lt, us))
    (branch (after (codes "le ") ts) (λ us. Some (alu.Le, us))
    (branch (after (codes "min ") ts) (λ us. Some (alu.Min, us))
    (branch (after (codes "max ") ts) (λ us. Some (alu.Max, us))
    (branch (after (codes "affine ") ts) (λ us. Some (alu.Affine, us)) None)))))))))))

-- the kind of a trap and the comma behind it
unfoldable pub trap_at : Reading TrapKind
trap_at ts =
    branch (after (codes "Divide, ") ts) (λ us. Some (Divide, us))
    (branch (after (codes "Index, ") ts) (λ us. Some (Index, us))
    (branch (after (codes "Deep, ") ts) (λ us. Some (Deep, us))
    (branch (after (codes "Size, ") ts) (λ us. Some (Size, us))
    (branch (after (codes "Wide, ") ts) (λ us. Some (Wide, us)) None))))

-- an operand alone, or a register with an operator and an operand
abbrev pub source_at : (List ℕ → ℕ) → ℕ → Value × List ℕ → Option (Instr × List ℕ)
source_at f to (Reg left, rest) =
    branch (after (codes " ") rest)
    (λ us. alu_at us >>= λ op. value_at f op.1 >>= λ v. Some (Calc to left op.0 v.0, v.1))
    (Some (Move to (Reg left), rest))
source_at f to (Int z, rest) = Some (Move to (Int z), rest)
source_at f to (Label l, rest) = Some (Move to (Label l), rest)
source_at f to (Nil, rest) = Some (Move to Nil, rest)

-- ---- notes

-- what was read before more of its kind
abbrev pub with_more : {A : Type 0} → List ℕ → (List ℕ → Option (List A × List ℕ)) →
    Option (A × List ℕ) → Option (List A × List ℕ)
with_more ts go None = Some ([], ts)
with_more ts go (Some a) = go a.1 >>= λ xs. Some (a.0 ∷ xs.0, xs.1)

-- one thing after another, while they come; at most so many
abbrev pub many : {A : Type 0} → ℕ → Reading A → Reading (List A)
many zero read ts = Some ([], ts)
many (suc n) read ts = with_more ts (many n read) (read ts)

-- two registers, one of which is renamed to the other
abbrev pub rename_at : Reading (ℕ × ℕ)
rename_at ts =
    register_at ts >>= λ a.
    after (codes " -> ") a.1 >>= λ us. register_at us >>= λ b. Some ((a.0, b.0), b.1)

-- a further rename
abbrev pub next_rename_at : Reading (ℕ × ℕ)
next_rename_at ts = after (codes ", ") ts >>= rename_at

-- the renames, and the brace behind them
unfoldable pub renames_at : ℕ → Reading (List (ℕ × ℕ))
renames_at n ts =
    branch (after (codes "}") ts) (λ us. Some ([], us))
    (rename_at ts >>= λ p.
    many n next_rename_at p.1 >>= λ ps.
    after (codes "}") ps.1 >>= λ us. Some (p.0 ∷ ps.0, us))

-- the rows or the cells of a table that are carried
abbrev pub carry_at : Reading CarryAt
carry_at ts = table_at ts >>= λ t.
    branch (after (codes " rows ") t.1) (λ us.
    register_at us >>= λ r. Some (carry.Rows t.0 r.0, r.1))
    (after (codes " cells ") t.1 >>= λ us.
    register_at us >>= λ r.
    after (codes " ") r.1 >>= λ vs.
    register_at vs >>= λ q. Some (carry.Cells t.0 r.0 q.0, q.1))

-- a further carry
abbrev pub next_carry_at : Reading CarryAt
next_carry_at ts = after (codes ", ") ts >>= carry_at

-- the carries, or the word for none
unfoldable pub carries_at : ℕ → Reading (List CarryAt)
carries_at n ts =
    branch (after (codes "none") ts) (λ us. Some ([], us))
    (carry_at ts >>= λ c. many n next_carry_at c.1 >>= λ cs. Some (c.0 ∷ cs.0, cs.1))

-- whether merging is commutative
unfoldable pub policy_at : Reading Bool
policy_at ts =
    branch (after (codes "assoc; {") ts) (λ us. Some (false, us))
    (branch (after (codes "assoc-comm; {") ts) (λ us. Some (true, us)) None)

-- how work is cut
unfoldable pub kind_at : Reading CutKind
kind_at ts =
    branch (after (codes "loop; carry ") ts) (λ us. Some (cut.Loop, us))
    (branch (after (codes "call; carry ") ts) (λ us. Some (cut.Call, us)) None)

-- ---- versions

abbrev pub parted_by : List ℕ → Option (List ℕ) → Version × List ℕ
parted_by text None = (One, text)
parted_by text (Some rest) = (Two, rest)

-- the version of a text and the lines behind its first line: a text whose first line is that of
-- version 2 is of this version, and every other text is of version 1, where all lines are meant
abbrev pub parted : List ℕ → Version × List ℕ
parted text = parted_by text (after (first_line Two) text)
