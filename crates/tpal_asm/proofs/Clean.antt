-- No line of a code text has within it the byte that ends lines, so the pieces of the text are its lines.
use Rattle.std.proofs.Common.{◌≡◌, ℕ, zero, suc, ◌+◌, ◌/◌, ◌%◌, ◌<◌, Bool, true, false, cond, ◌&&◌}
use Rattle.std.proofs.Common.{List, [], ◌∷◌, ◌++◌, length, get_or, pos, negsuc, refl, sym, ap, ◌∙◌}
use Rattle.std.proofs.Common.{append_assoc, mod-lt, arith}
use Rattle.std.specs.Prelude.{codes, not, ◌==◌}
use Rattle.std.specs.List.{list_all, flat_map, join_by, onto_first, AllByRecursion}
use Rattle.std.specs.Fmt.{decimal, digits, digits_onto, digit_glyph}
use Rattle.std.proofs.lemmas.Bool.{eqb-true, false≢true, lt-ltb}
use Rattle.std.proofs.lemmas.List.Concat.{flat_map-cons}
use Rattle.std.proofs.lemmas.List.Folds.{list_all-append}
use Rattle.tp_value.specs.declared.values.TrapKind.{TrapKind}
use Rattle.tp_value.specs.declared.values.TrapKind.TheVariants.{Divide, Index, Deep, Size, Wide}
use Rattle.tpal_syntax.specs.declared.instructions.Value.{Value}
use Rattle.tpal_syntax.specs.declared.instructions.Value.TheVariants.{Reg, Int, Label, Nil}
use Rattle.tpal_syntax.specs.declared.instructions.Alu.{Alu}
use Rattle.tpal_syntax.specs.declared.instructions.Alu.TheVariants as alu
use Rattle.tpal_syntax.specs.declared.instructions.Instr.{Instr}
use Rattle.tpal_syntax.specs.declared.instructions.Instr.TheVariants.{Move, Calc, IfJump, Load}
use Rattle.tpal_syntax.specs.declared.instructions.Instr.TheVariants.{Store, Salloc, Sfree, PrmPush}
use Rattle.tpal_syntax.specs.declared.instructions.Instr.TheVariants.{PrmPop, PrmDrop, PrmEmpty}
use Rattle.tpal_syntax.specs.declared.instructions.Instr.TheVariants.{PrmSplit, JrAlloc, Fork}
use Rattle.tpal_syntax.specs.declared.instructions.Instr.TheVariants.{Fetch, Put, Rows, Cols, Make}
use Rattle.tpal_syntax.specs.declared.instructions.Instr.TheVariants.{Tick, Trap, Print, Emit}
use Rattle.tpal_syntax.specs.declared.instructions.Term.{Term}
use Rattle.tpal_syntax.specs.declared.instructions.Term.TheVariants.{Jump, Halt, Join, Leave}
use Rattle.tpal_syntax.specs.declared.notes.CutKind.{CutKind}
use Rattle.tpal_syntax.specs.declared.notes.CutKind.TheVariants as cut
use Rattle.tpal_syntax.specs.declared.notes.CarryAt.{CarryAt}
use Rattle.tpal_syntax.specs.declared.notes.CarryAt.TheVariants as carry
use Rattle.tpal_syntax.specs.declared.notes.Note.{Note}
use Rattle.tpal_syntax.specs.declared.notes.Note.TheVariants as note
use Rattle.tpal_syntax.specs.declared.blocks.CodeTable.{CodeTable}
use Rattle.tpal_syntax.specs.declared.blocks.CodeTable.TheVariants.{Input, Made}
use Rattle.tpal_syntax.specs.Parts.{is_word_byte, is_word}
use Rattle.tpal_syntax.specs.declared.versions.Version.{Version}
use Rattle.tpal_syntax.specs.declared.versions.Version.TheVariants.{One, Two}
use Rattle.tpal_syntax.specs.Text.{line, value_text, alu_text, trap_text, instr_text, term_text}
use Rattle.tpal_syntax.specs.Text.{rename_text, carry_text, carries_text, policy_text, kind_text}
use Rattle.tpal_syntax.specs.Text.{note_text, number_text, header_text, table_line}
use Rattle.tpal_print.proofs.Pieces.{and_left, and_right}
use Rattle.tpal_print.proofs.Unique.{word_rest}
use Rattle.tpal_asm.specs.Lines.{pieces}
use Rattle.tpal_asm.specs.Drafts.{IsNewTable, Draft, Says, a_table, a_header, an_instr, an_end}
use Rattle.tpal_asm.specs.Drafts.{Leads, stay, go_on}
use Rattle.tpal_asm.specs.Labels.{Head, names_of}
use Rattle.std.specs.Cmp.Derive.{both_true}

abbrev is_inner : ℕ → Bool
is_inner b = not (b == 10)

-- the byte that ends lines is none of these
abbrev pub Clean : List ℕ → Type 0
Clean bytes = list_all is_inner bytes ≡ true

pub clean-append : (a b : List ℕ) → Clean a → Clean b → Clean (a ++ b)
clean-append a b p q = list_all-append is_inner a b ∙ both_true p q

-- ---- words and numbers

other_byte : (x : Bool) → (x ≡ true → ⊥) → not x ≡ true
other_byte true never = absurd (never refl)
other_byte false never = refl

word_byte_clean : (b : ℕ) → is_word_byte b ≡ true → is_inner b ≡ true
word_byte_clean b ok = other_byte (b == 10) (λ e. false≢true (ap is_word_byte (sym (eqb-true b 10 e)) ∙ ok))

bytes_clean : (n : List ℕ) → list_all is_word_byte n ≡ true → Clean n
bytes_clean [] ok = refl
bytes_clean (b ∷ n) ok =
    both_true (word_byte_clean b (and_left (is_word_byte b) (list_all is_word_byte n) ok)) (bytes_clean n (and_right (is_word_byte b) (list_all is_word_byte n) ok))

pub word-clean : (n : List ℕ) → is_word n ≡ true → Clean n
word-clean n ok = bytes_clean n (word_rest n ok)

-- each name of words is clean, and so is none
pub name-clean : (names : List (List ℕ)) → list_all is_word names ≡ true → (l : ℕ) → Clean (get_or names l [])
name-clean [] words l = refl
name-clean (n ∷ names) words zero = word-clean n (and_left (is_word n) (list_all is_word names) words)
name-clean (n ∷ names) words (suc l) = name-clean names (and_right (is_word n) (list_all is_word names) words) l

glyph_clean : (d : ℕ) → d < 10 → is_inner (digit_glyph false d) ≡ true
glyph_clean d lt =
    ap (λ (b : Bool). not (cond b (48 + d) (87 + d) == 10)) (lt-ltb d 10 lt) ∙ other_byte (48 + d == 10) (λ e. absurd_digit (eqb-true (48 + d) 10 e))
  where
    absurd_digit : 48 + d ≡ 10 → ⊥
    absurd_digit e = omega arith

onto_clean : (k n : ℕ) (acc : List ℕ) → Clean acc → Clean (digits_onto k 10 false n acc)
onto_clean zero n acc ok = ok
onto_clean (suc k) n acc ok =
    let more : Clean (digit_glyph false (n % 10) ∷ acc) = both_true (glyph_clean (n % 10) (mod-lt n (omega arith))) ok in
    go (n / 10 == 0) more (onto_clean k (n / 10) (digit_glyph false (n % 10) ∷ acc) more)
  where
    go : (b : Bool) → Clean (digit_glyph false (n % 10) ∷ acc) → Clean (digits_onto k 10 false (n / 10) (digit_glyph false (n % 10) ∷ acc))
        → Clean (cond b (digit_glyph false (n % 10) ∷ acc) (digits_onto k 10 false (n / 10) (digit_glyph false (n % 10) ∷ acc)))
    go true one all = one
    go false one all = all

pub decimal-clean : (n : ℕ) → Clean (decimal n)
unfolding digits
decimal-clean n = onto_clean 64 n [] refl

-- ---- lines

alu_clean : (op : Alu) → Clean (alu_text op)
alu_clean alu.Add = refl
alu_clean alu.Sub = refl
alu_clean alu.Mul = refl
alu_clean alu.Div = refl
alu_clean alu.Rem = refl
alu_clean alu.Eq = refl
alu_clean alu.Ne = refl
alu_clean alu.Lt = refl
alu_clean alu.Le = refl
alu_clean alu.Min = refl
alu_clean alu.Max = refl
alu_clean alu.Affine = refl

trap_clean : (kind : TrapKind) → Clean (trap_text kind)
trap_clean Divide = refl
trap_clean Index = refl
trap_clean Deep = refl
trap_clean Size = refl
trap_clean Wide = refl

module _ (names : List (List ℕ)) (words : list_all is_word names ≡ true) where
  label_clean : (l : ℕ) → Clean (get_or names l [])
  label_clean l = name-clean names words l

  value_clean : (v : Value) → Clean (value_text names v)
  value_clean (Reg r) = decimal-clean r
  value_clean (Int (pos n)) = decimal-clean n
  value_clean (Int (negsuc n)) = decimal-clean (suc n)
  value_clean (Label l) = label_clean l
  value_clean Nil = refl

  pub instr-clean : (i : Instr) → Clean (instr_text names i)
  instr-clean (Move to value) = search (clean-append, decimal-clean, value_clean) depth 16
  instr-clean (Calc to left op right) = search (clean-append, decimal-clean, value_clean, alu_clean) depth 16
  instr-clean (IfJump test label) = search (clean-append, decimal-clean, label_clean) depth 16
  instr-clean (Load to base off) = search (clean-append, decimal-clean) depth 16
  instr-clean (Store base off value) = search (clean-append, decimal-clean, value_clean) depth 16
  instr-clean (Salloc n) = decimal-clean n
  instr-clean (Sfree n) = decimal-clean n
  instr-clean (PrmPush base off cells split) = search (clean-append, decimal-clean, label_clean) depth 16
  instr-clean (PrmPop base off) = search (clean-append, decimal-clean) depth 16
  instr-clean PrmDrop = refl
  instr-clean (PrmEmpty r) = decimal-clean r
  instr-clean (PrmSplit base split) = search (clean-append, decimal-clean) depth 16
  instr-clean (JrAlloc to target) = search (clean-append, decimal-clean, label_clean) depth 16
  instr-clean (Fork rec child) = search (clean-append, decimal-clean, label_clean) depth 16
  instr-clean (Fetch to table row col) = search (clean-append, decimal-clean) depth 16
  instr-clean (Put table row col value) = search (clean-append, decimal-clean) depth 16
  instr-clean (Rows to table) = search (clean-append, decimal-clean) depth 16
  instr-clean (Cols to table) = search (clean-append, decimal-clean) depth 16
  instr-clean (Make table rows cols place) = search (clean-append, decimal-clean) depth 16
  instr-clean Tick = refl
  instr-clean (Trap kind place) = search (clean-append, decimal-clean, trap_clean) depth 16
  instr-clean (Print r) = decimal-clean r
  instr-clean (Emit table) = decimal-clean table

  pub term-clean : (t : Term) → Clean (term_text names t)
  term-clean (Jump value) = value_clean value
  term-clean Halt = refl
  term-clean (Join r) = decimal-clean r
  term-clean (Leave rec value) = search (clean-append, decimal-clean) depth 16

  policy_clean : (comm : Bool) → Clean (policy_text comm)
  policy_clean false = refl
  policy_clean true = refl

  kind_clean : (kind : CutKind) → Clean (kind_text kind)
  kind_clean cut.Loop = refl
  kind_clean cut.Call = refl

  rename_clean : (p : ℕ × ℕ) → Clean (rename_text p)
  rename_clean p = search (clean-append, decimal-clean) depth 16

  carry_clean : (c : CarryAt) → Clean (carry_text c)
  carry_clean (carry.Rows table at) = search (clean-append, decimal-clean) depth 16
  carry_clean (carry.Cells table row at) = search (clean-append, decimal-clean) depth 16

  rest_clean : {A : Type 0} (f : A → List ℕ) → ((x : A) → Clean (f x)) → (xs : List A) → Clean (flat_map (λ x. codes ", " ++ f x) xs)
  rest_clean f each [] = refl
  rest_clean f each (x ∷ xs) = clean-append (f x) (flat_map (λ x. codes ", " ++ f x) xs) (each x) (rest_clean f each xs)

  list_clean : {A : Type 0} (f : A → List ℕ) → ((x : A) → Clean (f x)) → (xs : List A) → Clean (join_by f (codes ", ") xs)
  list_clean f each [] = refl
  list_clean f each (x ∷ xs) = clean-append (f x) (flat_map (λ x. codes ", " ++ f x) xs) (each x) (rest_clean f each xs)

  carries_clean : (cs : List CarryAt) → Clean (carries_text cs)
  carries_clean [] = refl
  carries_clean (c ∷ cs) = list_clean carry_text carry_clean (c ∷ cs)

  note_clean : (x : Note) → Clean (note_text names x)
  note_clean note.Plain = refl
  note_clean (note.Ready h) = label_clean h
  note_clean (note.Target t) =
      let renames = list_clean rename_text rename_clean t.renames in
      search (clean-append, renames, policy_clean, label_clean, kind_clean, carries_clean) depth 16

  number_clean : (v : Version) (n : ℕ) → Clean (number_text v n)
  number_clean One n = refl
  number_clean Two n = decimal-clean n

  pub header-clean : (v : Version) (n : ℕ) (name : List ℕ) (x : Note) → is_word name ≡ true → Clean (header_text v names n name x)
  header-clean v n name x word =
      clean-append name (number_text v n ++ (codes ": " ++ note_text names x)) (word-clean name word)
      (clean-append (number_text v n) (codes ": " ++ note_text names x) (number_clean v n) (note_clean x))

  pub table-clean : (n : ℕ) (tables : List CodeTable) (table : CodeTable) → IsNewTable tables table → Clean (table_line n table)
  table-clean n tables (Input name) new = clean-append (decimal n) (codes " input " ++ name) (decimal-clean n) (word-clean name new.0)
  table-clean n tables Made new = clean-append (decimal n) (codes " made") (decimal-clean n) refl

-- ---- the pieces of a text

pieces_line : (x rest : List ℕ) → Clean x → pieces (x ++ (10 ∷ rest)) ≡ x ∷ pieces rest
pieces_line [] rest ok = refl
pieces_line (b ∷ x) rest ok = go (b == 10) ok (pieces_line x rest)
  where
    go : (c : Bool) → (not c && list_all is_inner x) ≡ true → (Clean x → pieces (x ++ (10 ∷ rest)) ≡ x ∷ pieces rest)
        → cond c ([] ∷ pieces (x ++ (10 ∷ rest))) (onto_first b (pieces (x ++ (10 ∷ rest)))) ≡ (b ∷ x) ∷ pieces rest
    go true ok more = absurd cc
    go false ok more = ap (onto_first b) (more ok)

pieces_lines : (lines : List (List ℕ)) → AllByRecursion Clean lines → pieces (flat_map line lines) ≡ lines ++ [] ∷ []
pieces_lines [] all = refl
pieces_lines (x ∷ lines) all =
    ap pieces (flat_map-cons line x lines ∙ append_assoc x (10 ∷ []) (flat_map line lines))
    ∙ pieces_line x (flat_map line lines) all.0 ∙ ap (λ (ls : List (List ℕ)). x ∷ ls) (pieces_lines lines all.1)

says_clean : {v : Version} {heads : List Head} {names : List (List ℕ)} {draft : Draft} {bytes : List ℕ} {next : Draft} → Says v heads names draft bytes next → list_all is_word names ≡ true → Clean bytes
says_clean {v} {heads} {names} (a_table tables table new) words = table-clean names words (length tables) tables table new
says_clean {v} {heads} {names} (a_header tables blocks name x word of) words = header-clean names words v (length blocks) name x word
says_clean {v} {heads} {names} (an_instr tables blocks name x body i ok) words = instr-clean names words i
says_clean {v} {heads} {names} (an_end tables blocks name x body t ok stands) words = term-clean names words t

leads_clean : {v : Version} {heads : List Head} {draft : Draft} {lines : List (List ℕ)} {last : Draft} → Leads v heads draft lines last → list_all is_word (names_of heads) ≡ true → AllByRecursion Clean lines
leads_clean (stay draft) words = tt
leads_clean (go_on draft next last bytes lines says named within rest) words = (says_clean says words, leads_clean rest words)

-- lines that lead on are the pieces of their text
pub leads-pieces : {v : Version} {heads : List Head} {draft : Draft} {lines : List (List ℕ)} {last : Draft} → Leads v heads draft lines last → list_all is_word (names_of heads) ≡ true → pieces (flat_map line lines) ≡ lines ++ [] ∷ []
leads-pieces {v} {heads} {draft} {lines} leads words = pieces_lines lines (leads_clean leads words)
