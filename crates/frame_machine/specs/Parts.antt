-- The two parts of a loop that is cut: the cells that each may read and write, and what keeps to
-- them.
use Rattle.frame_machine.specs.Modes.{Closed, Fixed, Line, Mode, Modes, Named, OwnCell, OwnRow}
use Rattle.frame_machine.specs.Modes.{Whole}
use Rattle.loop_meaning.specs.State.{Chance, Emits, Note, Reads, Writes, cell_of, has_cell, lookup}
use Rattle.loop_meaning.specs.State.{table_of}
use Rattle.loop_meaning.specs.declared.value.Variable.{Variable}
use Rattle.std.specs.Prelude.{List, [], length, true, ℕ, ℤ, ⊤, ◌<ℤ◌, ◌∷◌, ◌≡◌, ◌≤ℤ◌}
use Rattle.tp_value.specs.declared.Table.{Table}

-- some cells of each table: its name, the row and the column
abbrev pub Cells : Type 1
Cells = List ℕ → ℤ → ℤ → Type 0

-- every other cell
abbrev pub Outside : Cells → Cells
Outside W = λ t i j. W t i j → ⊥

-- two tables of one size with the same numbers in these cells
pub record AgreeAt (A : ℤ → ℤ → Type 0) (a b : Table) : Type 0 where
  pub rows : b.rows ≡ a.rows
  pub cols : b.cols ≡ a.cols
  pub size : length b.cells ≡ length a.cells
  pub cells : (i j : ℤ) → A i j → has_cell a i j ≡ true → cell_of b i j ≡ cell_of a i j

abbrev pub AgreeOn : Cells → List Table → List Table → Type 0
AgreeOn A us vs = (t : List ℕ) → AgreeAt (A t) (table_of us t) (table_of vs t)

-- ---- what the iterations whose numbers have P may do

-- the row of carried cells, where the variables round the loop have these values
abbrev pub line_value : Line → List Variable → ℤ
line_value (Named x) vs = lookup vs x
line_value (Fixed n) vs = n

abbrev pub SeenAt : (ℤ → Type 0) → List Variable → Mode → ℤ → ℤ → Type 0
SeenAt P vs Whole i j = ⊤
SeenAt P vs Closed i j = ⊥
SeenAt P vs (OwnRow x) i j = P i
SeenAt P vs (OwnCell k x) i j = (i ≡ line_value k vs) × P j

abbrev pub WrittenAt : (ℤ → Type 0) → List Variable → Mode → ℤ → ℤ → Type 0
WrittenAt P vs Whole i j = ⊥
WrittenAt P vs Closed i j = ⊥
WrittenAt P vs (OwnRow x) i j = P i
WrittenAt P vs (OwnCell k x) i j = (i ≡ line_value k vs) × P j

-- the cells that they may read
abbrev pub Seen : (ℤ → Type 0) → List Variable → Modes → Cells
Seen P vs m = λ t i j. SeenAt P vs (m t) i j

-- those that they may write
abbrev pub Written : (ℤ → Type 0) → List Variable → Modes → Cells
Written P vs m = λ t i j. WrittenAt P vs (m t) i j

-- the numbers of the upper part, and those of the lower one
abbrev pub From : ℤ → ℤ → Type 0
From c i = c ≤ℤ i

abbrev pub Below : ℤ → ℤ → Type 0
Below c i = i <ℤ c

-- ---- notes

-- a note of a run that reads and writes these cells alone, and shows nothing
abbrev pub NoteKeeps : Cells → Cells → Note → Type 0
NoteKeeps R W (Reads t i j) = R t i j
NoteKeeps R W (Writes t i j) = W t i j
NoteKeeps R W (Emits t) = ⊥
NoteKeeps R W Chance = ⊤

abbrev pub NotesKeep : Cells → Cells → List Note → Type 0
NotesKeep R W [] = ⊤
NotesKeep R W (n ∷ ns) = NoteKeeps R W n × NotesKeep R W ns
