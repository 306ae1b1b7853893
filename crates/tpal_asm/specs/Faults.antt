-- The first fault of a text.
use Rattle.std.specs.Prelude.{◌≡◌, ℕ, ◌+◌, List, [], ◌∷◌, ◌++◌, length}
use Rattle.tpal_asm.specs.declared.fault.AsmFault.{AsmFault}
use Rattle.tpal_asm.specs.declared.fault.AsmFault.TheVariants.{Form, Label, Limit, NoMemory}
use Rattle.tpal_asm.specs.declared.fault.Wrong.{Wrong}
use Rattle.tpal_asm.specs.declared.fault.Wrong.TheVariants as wrongs
use Rattle.tpal_syntax.specs.declared.versions.Version.{Version}
use Rattle.tpal_syntax.specs.Readers.{parted}
use Rattle.tpal_asm.specs.Lines.{pieces, lines_before}
use Rattle.tpal_asm.specs.Labels.{Head, names_of}
use Rattle.tpal_asm.specs.Drafts.{AreWords, AreHeads, Draft, Says, IsNewName, IsWithin, Leads}
use Rattle.tpal_asm.specs.Drafts.{first_draft, IsWhole}

-- the line is of the grammar and breaks no condition, but perhaps those on labels and limits: under
-- some names it says something
pub record IsFormed (v : Version) (heads : List Head) (draft : Draft) (bytes : List ℕ) :
    Type 0 where
  pub names : List (List ℕ)
  pub next : Draft
  pub words : AreWords names
  pub says : Says v heads names draft bytes next

-- also its labels are names of blocks, and the name that it gives a block is new
pub record IsLabelled (v : Version) (heads : List Head) (draft : Draft) (bytes : List ℕ) :
    Type 0 where
  pub next : Draft
  pub says : Says v heads (names_of heads) draft bytes next
  pub new : IsNewName next

-- also it is within the limits
pub record IsRight (v : Version) (heads : List Head) (draft : Draft) (bytes : List ℕ) : Type 0 where
  pub next : Draft
  pub says : Says v heads (names_of heads) draft bytes next
  pub new : IsNewName next
  pub within : IsWithin next

-- what is wrong with a line behind a draft: the first of these tests that it fails
abbrev pub IsWrong : Version → List Head → Draft → List ℕ → Wrong → Type 0
IsWrong v heads draft bytes wrongs.Form = ¬ IsFormed v heads draft bytes
IsWrong v heads draft bytes wrongs.Label =
    IsFormed v heads draft bytes × (¬ IsLabelled v heads draft bytes)
IsWrong v heads draft bytes wrongs.Limit =
    IsLabelled v heads draft bytes × (¬ IsRight v heads draft bytes)
IsWrong v heads draft bytes wrongs.NoMemory = ⊥

-- the fault of the line of this number with that wrong
abbrev pub fault_at : Wrong → ℕ → AsmFault
fault_at wrongs.Form line = Form line
fault_at wrongs.Label line = Label line
fault_at wrongs.Limit line = Limit line
fault_at wrongs.NoMemory line = NoMemory

-- The first fault of the lines of tables and blocks: at a line behind right ones, or where the last
-- line or its end is missing. Lines count from 1, from the first of the text.
pub data FirstFaultIn (v : Version) (text : List ℕ) : AsmFault → Type 0 where
  at_line : (heads : List Head) (before behind : List (List ℕ)) (bytes last : List ℕ)
      (draft : Draft) (wrong : Wrong) →
      pieces text ≡ (before ++ bytes ∷ behind) ++ last ∷ [] →
      AreHeads v [] (before ++ bytes ∷ behind) heads →
      Leads v heads first_draft before draft → IsWrong v heads draft bytes wrong →
      FirstFaultIn v text (fault_at wrong (lines_before v + length before + 1))
  at_end : (heads : List Head) (lines : List (List ℕ)) (last : List ℕ) (draft : Draft) →
      pieces text ≡ lines ++ last ∷ [] → AreHeads v [] lines heads →
      Leads v heads first_draft lines draft → (¬ ((last ≡ []) × IsWhole draft)) →
      FirstFaultIn v text (Form (lines_before v + length lines + 1))

-- the first fault of a text, in its version
abbrev pub FirstFault : List ℕ → AsmFault → Type 0
FirstFault text fault = FirstFaultIn (parted text).0 (parted text).1 fault

-- what is said of a fault, but of want of memory
abbrev pub OnFault : AsmFault → Type 0 → Type 0
OnFault (Form line) P = P
OnFault (Label line) P = P
OnFault (Limit line) P = P
OnFault NoMemory P = Unit {0}

-- the same of what is wrong with a line
abbrev pub OnWrong : Wrong → Type 0 → Type 0
OnWrong wrongs.Form P = P
OnWrong wrongs.Label P = P
OnWrong wrongs.Limit P = P
OnWrong wrongs.NoMemory P = Unit {0}
