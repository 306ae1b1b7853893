-- The conditions that every code meets.
use Rattle.std.specs.Prelude.{◌≡◌, ◌≢◌, ℕ, ◌<◌, ◌≤◌, Bool, true, false, ◌&&◌, ◌||◌, not, List, []}
use Rattle.std.specs.Prelude.{◌∷◌, length, map, ◌==◌, IsTrue, AllPairs, slice_get, Option, Some}
use Rattle.std.specs.Prelude.{None}
use Rattle.std.specs.List.{list_all, AllByRecursion}
use Rattle.tpal_syntax.specs.declared.blocks.Block.{Block}
use Rattle.tpal_syntax.specs.declared.blocks.CodeTable.{CodeTable}
use Rattle.tpal_syntax.specs.declared.blocks.CodeTable.TheVariants.{Input, Made}
use Rattle.tpal_syntax.specs.declared.notes.Note.{Note}
use Rattle.tpal_syntax.specs.declared.notes.Note.TheVariants as note
use Rattle.tpal_syntax.specs.declared.notes.Target.{Target}
use Rattle.tpal_syntax.specs.declared.notes.CarryAt.{CarryAt}
use Rattle.tpal_syntax.specs.Parts.{is_word, is_register, is_instr, is_term, is_carry, table_of}

-- ---- renamings and carries

-- a register that a renaming may name: r30 and r31 are left alone
abbrev pub is_renamed : ℕ → Bool
is_renamed r = is_register r && not (r == 30) && not (r == 31)

-- two renamings have no register in common
abbrev pub are_apart : ℕ × ℕ → ℕ × ℕ → Bool
are_apart p q = not (p.0 == q.0 || p.1 == q.1 || p.0 == q.1 || p.1 == q.0)

-- The left names are distinct, the right names are distinct, and none is in both.
abbrev pub are_distinct_names : List (ℕ × ℕ) → Bool
are_distinct_names [] = true
are_distinct_names (p ∷ ps) = not (p.0 == p.1) && list_all (are_apart p) ps && are_distinct_names ps

-- a table stands once
abbrev pub are_distinct_tables : List CarryAt → Bool
are_distinct_tables [] = true
are_distinct_tables (c ∷ cs) =
    list_all (λ d. not (table_of c == table_of d)) cs && are_distinct_tables cs

-- ---- notes

-- a join target of a code with so many tables and blocks
pub record IsTarget (tables blocks : ℕ) (target : Target) : Type 0 where
  pub registers : IsTrue (list_all (λ p. is_renamed p.0 && is_renamed p.1) target.renames)
  pub names_differ : IsTrue (are_distinct_names target.renames)
  pub comb_is_block : target.comb < blocks
  pub few_carries : length target.carries ≤ 4
  pub carries : IsTrue (list_all (is_carry tables) target.carries)
  pub tables_differ : IsTrue (are_distinct_tables target.carries)

-- a block that is promotion-ready
abbrev pub is_ready : Note → Bool
is_ready note.Plain = false
is_ready (note.Ready handler) = true
is_ready (note.Target target) = false

-- there is a block at this label, and it isn't promotion-ready
abbrev pub IsHandler : Option Block → Type 0
IsHandler None = ⊥
IsHandler (Some block) = is_ready block.note ≡ false

abbrev pub IsNote : List CodeTable → List Block → Note → Type 0
IsNote tables blocks note.Plain = Unit {0}
IsNote tables blocks (note.Ready handler) = IsHandler (slice_get blocks handler)
IsNote tables blocks (note.Target target) = IsTarget (length tables) (length blocks) target

-- ---- blocks and codes

-- a block of a code with these tables and blocks
pub record IsBlock (tables : List CodeTable) (blocks : List Block) (block : Block) : Type 0 where
  pub name : IsTrue (is_word block.name)
  pub note : IsNote tables blocks block.note
  pub body : IsTrue (list_all (is_instr (length tables) (length blocks)) block.body)
  pub term : IsTrue (is_term (length blocks) block.term)

-- the names of the inputs, in order
abbrev pub input_names : List CodeTable → List (List ℕ)
input_names [] = []
input_names (Input name ∷ tables) = name ∷ input_names tables
input_names (Made ∷ tables) = input_names tables

abbrev pub block_names : List Block → List (List ℕ)
block_names blocks = map (λ b. b.name) blocks

-- no two names are the same
abbrev pub AreDistinct : List (List ℕ) → Type 0
AreDistinct names = AllPairs (λ a b. a ≢ b) names

-- the names of the inputs
pub record AreInputs (tables : List CodeTable) : Type 0 where
  pub words : IsTrue (list_all is_word (input_names tables))
  pub names_differ : AreDistinct (input_names tables)

-- the conditions on codes
pub record IsCode (tables : List CodeTable) (blocks : List Block) : Type 0 where
  pub some_block : 1 ≤ length blocks
  pub few_blocks : length blocks ≤ 65536
  pub few_tables : length tables ≤ 16
  pub block_names_differ : AreDistinct (block_names blocks)
  pub inputs : AreInputs tables
  pub each_block : AllByRecursion (IsBlock tables blocks) blocks
