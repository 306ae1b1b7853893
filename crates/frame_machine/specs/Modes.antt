-- What the body of a `par` may do with each table.
use Rattle.std.specs.Prelude.{ℕ, ℤ, cond, List, [], ◌∷◌, bytes_eq, ⊤}
use Rattle.loop_syntax.specs.declared.RowAt.{RowAt}
use Rattle.loop_syntax.specs.declared.RowAt.TheVariants as row
use Rattle.loop_syntax.specs.declared.Carry.{Carry}
use Rattle.loop_syntax.specs.declared.Carry.TheVariants as carry
use Rattle.loop_rules.specs.Sites.{Loop}

-- the row of cells that are carried: that of a variable, or a number
pub data Line : Type 0 where
  Named : List ℕ → Line
  Fixed : ℤ → Line

-- every cell may be read, and none written; no cell may be touched; those of the row of a loop's
-- variable may be; the one of a row and of a loop's variable may be
pub data Mode : Type 0 where
  Whole : Mode
  Closed : Mode
  OwnRow : List ℕ → Mode
  OwnCell : Line → List ℕ → Mode

-- a mode for each table
abbrev pub Modes : Type 0
Modes = List ℕ → Mode

abbrev pub line_of : RowAt → Line
line_of (row.Var k) = Named k.text.items
line_of (row.Int n) = Fixed n

-- what a `par` that doesn't carry a table leaves of its mode
abbrev pub demoted : Mode → Mode
demoted Whole = Whole
demoted Closed = Closed
demoted (OwnRow x) = Closed
demoted (OwnCell k x) = Closed

-- in the body of a `par` over x with these carries, where m is what those round it allow
abbrev pub inner_modes : List Carry → List ℕ → Modes → Modes
inner_modes [] x m t = demoted (m t)
inner_modes (carry.Rows u i ∷ cs) x m t =
    cond (bytes_eq u.text.items t) (OwnRow x) (inner_modes cs x m t)
inner_modes (carry.Cells u k j ∷ cs) x m t =
    cond (bytes_eq u.text.items t) (OwnCell (line_of k) x) (inner_modes cs x m t)

-- where no `par` is round
abbrev pub all_whole : Modes
all_whole t = Whole

-- in the body of the first of these `par` loops, which stand nearest first
abbrev pub modes_of : List Loop → Modes
modes_of [] = all_whole
modes_of (r ∷ rs) = inner_modes r.carries r.var (modes_of rs)

-- every variable that a mode names has P
abbrev pub AllOfLine : (List ℕ → Type 0) → Line → Type 0
AllOfLine P (Named x) = P x
AllOfLine P (Fixed n) = ⊤

abbrev pub AllOfMode : (List ℕ → Type 0) → Mode → Type 0
AllOfMode P Whole = ⊤
AllOfMode P Closed = ⊤
AllOfMode P (OwnRow x) = P x
AllOfMode P (OwnCell k x) = AllOfLine P k × P x

abbrev pub AllOfModes : (List ℕ → Type 0) → Modes → Type 0
AllOfModes P m = (t : List ℕ) → AllOfMode P (m t)
