-- What lines of a text say, one after another.
use Rattle.std.specs.Prelude.{◌≡◌, ℕ, ◌<◌, ◌≤◌, Bool, true, false, ◌&&◌, List, [], ◌∷◌, ◌++◌}
use Rattle.std.specs.Prelude.{length, IsTrue, slice_index_or, codes, bytes_eq}
use Rattle.std.specs.List.{list_all, list_any}
use Rattle.tpal_syntax.specs.declared.instructions.Instr.{Instr}
use Rattle.tpal_syntax.specs.declared.instructions.Term.{Term}
use Rattle.tpal_syntax.specs.declared.notes.Note.{Note}
use Rattle.tpal_syntax.specs.declared.notes.Note.TheVariants as note
use Rattle.tpal_syntax.specs.declared.blocks.Block.{Block}
use Rattle.tpal_syntax.specs.declared.blocks.CodeTable.{CodeTable}
use Rattle.tpal_syntax.specs.declared.blocks.CodeTable.TheVariants.{Input, Made}
use Rattle.tpal_syntax.specs.Parts.{is_word, is_register, is_instr, is_term, is_carry}
use Rattle.tpal_syntax.specs.Conditions.{IsTarget, is_ready, input_names, block_names}
use Rattle.tpal_syntax.specs.declared.versions.Version.{Version}
use Rattle.tpal_syntax.specs.Text.{◌+++◌, instr_text, term_text, stands_in, header_text}
use Rattle.tpal_syntax.specs.Text.{table_line}
use Rattle.tpal_asm.specs.Labels.{Head, names_of, is_ready_name}

-- ---- the names of the blocks

-- one of these names
abbrev pub is_among : List ℕ → List (List ℕ) → Bool
is_among name names = list_any (bytes_eq name) names

abbrev pub AreWords : List (List ℕ) → Type 0
AreWords names = IsTrue (list_all is_word names)

-- a note as the grammar has it, where labels are below this number
abbrev pub IsNoteForm : ℕ → Note → Type 0
IsNoteForm labels note.Plain = Unit {0}
IsNoteForm labels (note.Ready handler) = handler < labels
IsNoteForm labels (note.Target t) =
    IsTrue (list_all (λ p. is_register p.0 && is_register p.1) t.renames) × (t.comb < labels)
    × IsTrue (list_all (is_carry 16) t.carries)

-- the line is, as the grammar has it, the first line of a block of this name; whatever its number,
-- as long as that is in the range of operands
pub record IsHead (v : Version) (bytes : List ℕ) (head : Head) : Type 0 where
  pub names : List (List ℕ)
  pub number : ℕ
  pub note : Note
  pub words : AreWords names
  pub word : IsTrue (is_word head.0)
  pub low : number ≤ 9223372036854775807
  pub form : IsNoteForm (length names) note
  pub spelled : bytes ≡ header_text v names number head.0 note
  pub readiness : head.1 ≡ is_ready note

-- The names of the blocks of lines in the order in which they first stand, behind those that are
-- known before the lines.
pub data AreHeads (v : Version) : List Head → List (List ℕ) → List Head → Type 0 where
  no_line : (heads : List Head) → AreHeads v heads [] heads
  new_head : (heads last : List Head) (head : Head) (bytes : List ℕ) (lines : List (List ℕ)) →
      IsHead v bytes head → is_among head.0 (names_of heads) ≡ false →
      AreHeads v (heads ++ head ∷ []) lines last → AreHeads v heads (bytes ∷ lines) last
  known_head : (heads last : List Head) (head : Head) (bytes : List ℕ) (lines : List (List ℕ)) →
      IsHead v bytes head → is_among head.0 (names_of heads) ≡ true → AreHeads v heads lines last →
      AreHeads v heads (bytes ∷ lines) last
  no_head : (heads last : List Head) (bytes : List ℕ) (lines : List (List ℕ)) →
      ((head : Head) → ¬ IsHead v bytes head) → AreHeads v heads lines last →
      AreHeads v heads (bytes ∷ lines) last

-- ---- drafts

-- what the lines so far say: tables and whole blocks, and perhaps the beginning of one more block
pub data Draft : Type 0 where
  Outside : List CodeTable → List Block → Draft
  Inside : List CodeTable → List Block → List ℕ → Note → List Instr → Draft

-- a table that may come behind these
abbrev pub IsNewTable : List CodeTable → CodeTable → Type 0
IsNewTable before (Input name) =
    IsTrue (is_word name) × (is_among name (input_names before) ≡ false)
IsNewTable before Made = Unit {0}

-- a note that breaks no condition, in a text with these blocks and so many tables
abbrev pub IsNoteOf : List Head → List (List ℕ) → ℕ → Note → Type 0
IsNoteOf heads names tables note.Plain = Unit {0}
IsNoteOf heads names tables (note.Ready handler) =
    (handler < length names) × (is_ready_name heads (slice_index_or names handler []) ≡ false)
IsNoteOf heads names tables (note.Target t) = IsTarget tables (length names) t

-- What a line says behind a draft, and so the next draft. Labels stand for the given names; `heads`
-- are the blocks of the text. A block's number is that of the blocks before it.
pub data Says (v : Version) (heads : List Head) (names : List (List ℕ)) :
    Draft → List ℕ → Draft → Type 0 where
  a_table : (tables : List CodeTable) (table : CodeTable) → IsNewTable tables table →
      Says v heads names (Outside tables []) (table_line (length tables) table)
      (Outside (tables ++ table ∷ []) [])
  a_header : (tables : List CodeTable) (blocks : List Block) (name : List ℕ) (x : Note) →
      IsTrue (is_word name) → IsNoteOf heads names (length tables) x →
      Says v heads names (Outside tables blocks) (header_text v names (length blocks) name x)
      (Inside tables blocks name x [])
  an_instr : (tables : List CodeTable) (blocks : List Block) (name : List ℕ) (x : Note)
      (body : List Instr) (instr : Instr) →
      IsTrue (is_instr (length tables) (length names) instr) →
      Says v heads names (Inside tables blocks name x body) (codes "  " +++ instr_text names instr)
      (Inside tables blocks name x (body ++ instr ∷ []))
  an_end : (tables : List CodeTable) (blocks : List Block) (name : List ℕ) (x : Note)
      (body : List Instr) (term : Term) →
      IsTrue (is_term (length names) term) → IsTrue (stands_in v term) →
      Says v heads names (Inside tables blocks name x body) (codes "  " +++ term_text names term)
      (Outside tables (blocks ++ record { name = name; note = x; body = body; term = term } ∷ []))

-- the block that has begun has a name of its own
abbrev pub IsNewName : Draft → Type 0
IsNewName (Outside tables blocks) = Unit {0}
IsNewName (Inside tables blocks name x body) = is_among name (block_names blocks) ≡ false

-- no more tables and blocks than a code may have
abbrev pub IsWithin : Draft → Type 0
IsWithin (Outside tables blocks) = (length tables ≤ 16) × (length blocks ≤ 65536)
IsWithin (Inside tables blocks name x body) = (length tables ≤ 16) × (length blocks < 65536)

-- the lines lead from one draft to another, and each is right; `heads` are the blocks of the text
pub data Leads (v : Version) (heads : List Head) : Draft → List (List ℕ) → Draft → Type 0 where
  stay : (draft : Draft) → Leads v heads draft [] draft
  go_on : (draft next last : Draft) (bytes : List ℕ) (lines : List (List ℕ)) →
      Says v heads (names_of heads) draft bytes next → IsNewName next → IsWithin next →
      Leads v heads next lines last → Leads v heads draft (bytes ∷ lines) last

-- the draft before the first line
abbrev pub first_draft : Draft
first_draft = Outside [] []

-- a text may end behind this draft
abbrev pub IsWhole : Draft → Type 0
IsWhole (Outside tables []) = ⊥
IsWhole (Outside tables (block ∷ blocks)) = Unit {0}
IsWhole (Inside tables blocks name x body) = ⊥
