-- The assembler's own words for drafts and what is unfit.
use Rattle.std.specs.Prelude.{◌≡◌, ℕ, ◌<◌, ◌≤◌, Bool, true, false, List, [], length, slice_index_or}
use Rattle.std.specs.Prelude.{bytes_eq, ◌==◌, Option, Some, None}
use Rattle.std.specs.Borrow.{Bor}
use Rattle.tpal_syntax.specs.declared.notes.Note.{Note}
use Rattle.tpal_syntax.specs.declared.notes.Note.TheVariants as note
use Rattle.tpal_syntax.specs.declared.notes.Target.{Target}
use Rattle.tpal_syntax.specs.Conditions.{IsTarget, input_names}
use Rattle.tpal_asm.specs.Labels.{Head, names_of}
use Rattle.tpal_syntax.specs.declared.blocks.Block.{Block}
use Rattle.tpal_syntax.specs.declared.blocks.CodeTable.{CodeTable}
use Rattle.tpal_syntax.specs.declared.blocks.CodeTable.TheVariants.{Input, Made}
use Rattle.tpal_syntax.specs.declared.versions.Version.{Version}
use Rattle.tpal_syntax.specs.declared.versions.Version.TheVariants.{One, Two}
use Rattle.tpal_asm.specs.declared.fault.Wrong.{Wrong}
use Rattle.tpal_asm.specs.declared.fault.Wrong.TheVariants as wrongs
use Rattle.tpal_asm.specs.declared.drafts.Begun.{Begun}
use Rattle.tpal_asm.specs.declared.drafts.Draft as code
use Rattle.tpal_asm.specs.Reading.{ended, table_line_rest, header_number}
use Rattle.tpal_asm.specs.Drafts.{Draft, Outside, Inside, is_among}

-- a draft, seen by its lists
abbrev pub seen_with : List CodeTable → List Block → Option Begun → Draft
seen_with tables blocks None = Outside tables blocks
seen_with tables blocks (Some begun) = Inside tables blocks begun.name begun.note begun.body.items

abbrev pub seen : code.Draft → Draft
seen draft = seen_with draft.tables.items draft.blocks.items draft.begun

-- What is unfit, by a test that asks whether labels are below a number: that fails for any label,
-- or only for the number of names.
abbrev pub Unfit : (ℕ → Bool) → ℕ → Wrong → Type 0
Unfit test known wrongs.Form = test 4294967295 ≡ false
Unfit test known wrongs.Label = (test 4294967295 ≡ true) × (test known ≡ false)
Unfit test known wrongs.Limit = ⊥
Unfit test known wrongs.NoMemory = Unit {0}

-- a note that breaks no condition, in a text with so many tables and these blocks, where a handler
-- is the place of its name
abbrev pub NoteFits : List Head → ℕ → Note → Type 0
NoteFits heads tables note.Plain = Unit {0}
NoteFits heads tables (note.Ready handler) =
    (handler < length (names_of heads)) × ((slice_index_or heads handler ([], false)).1 ≡ false)
NoteFits heads tables (note.Target t) = IsTarget tables (length (names_of heads)) t

-- what is unfit of a note
abbrev pub HandlerUnfit : List Head → ℕ → Wrong → Type 0
HandlerUnfit heads handler wrongs.Form = (slice_index_or heads handler ([], false)).1 ≡ true
HandlerUnfit heads handler wrongs.Label = length (names_of heads) ≤ handler
HandlerUnfit heads handler wrongs.Limit = ⊥
HandlerUnfit heads handler wrongs.NoMemory = ⊥

abbrev pub TargetUnfit : List Head → ℕ → Target → Wrong → Type 0
TargetUnfit heads tables t wrongs.Form = ¬ IsTarget tables 4294967295 t
TargetUnfit heads tables t wrongs.Label =
    IsTarget tables 4294967295 t × (length (names_of heads) ≤ t.comb)
TargetUnfit heads tables t wrongs.Limit = ⊥
TargetUnfit heads tables t wrongs.NoMemory = ⊥

abbrev pub NoteUnfit : List Head → ℕ → Note → Wrong → Type 0
NoteUnfit heads tables note.Plain wrong = ⊥
NoteUnfit heads tables (note.Ready handler) wrong = HandlerUnfit heads handler wrong
NoteUnfit heads tables (note.Target t) wrong = TargetUnfit heads tables t wrong

-- a name and a note that were read, with a number between them
abbrev pub header_of : Bor (List ℕ) × ℕ × Note → List ℕ × Note
header_of read = (read.0.now, read.2)

-- a block's number is that of the blocks before it, where the version has numbers
abbrev pub is_next : Version → ℕ → ℕ → Bool
is_next One number blocks = true
is_next Two number blocks = number == blocks

-- the same of the number that is read of a line
abbrev pub is_next_by : Version → Option ℕ → ℕ → Bool
is_next_by v None blocks = false
is_next_by v (Some number) blocks = is_next v number blocks

abbrev pub is_numbered : Version → ℕ → List ℕ → Bool
is_numbered v blocks line = is_next_by v (header_number v line) blocks

-- a table that was read, by its number, and the rest
abbrev pub made_of : Option (Bor (List ℕ)) → CodeTable
made_of None = Made
made_of (Some name) = Input name.now

abbrev pub table_of : ℕ × Option (Bor (List ℕ)) × Bor (List ℕ) → (ℕ × CodeTable) × List ℕ
table_of read = ((read.0, made_of read.1), read.2.now)

-- a table is the input of that name
abbrev pub is_input_of : List ℕ → CodeTable → Bool
is_input_of name (Input other) = bytes_eq name other
is_input_of name Made = false

-- no table before has the name of this one
abbrev pub IsUnrepeated : List CodeTable → CodeTable → Type 0
IsUnrepeated before (Input name) = is_among name (input_names before) ≡ false
IsUnrepeated before Made = Unit {0}

-- what is unfit of a table's line, behind its first word: no table that is new can be read, or one
-- too many
abbrev pub TableUnfit : List CodeTable → List ℕ → Wrong → Type 0
TableUnfit before text wrongs.Form =
    (table : CodeTable) → ended (table_line_rest text) ≡ Some (length before, table) →
    ¬ IsUnrepeated before table
TableUnfit before text wrongs.Label = ⊥
TableUnfit before text wrongs.Limit =
    (table : CodeTable) × (ended (table_line_rest text) ≡ Some (length before, table))
    × IsUnrepeated before table × (16 ≤ length before)
TableUnfit before text wrongs.NoMemory = Unit {0}
