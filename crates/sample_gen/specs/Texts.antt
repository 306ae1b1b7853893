-- The tables text of a sample, and its source.
use Rattle.std.specs.Prelude.{ℕ, List, [], ◌∷◌, ◌++◌, codes}
use Rattle.std.specs.List.{flat_map}
use Rattle.std.specs.Fmt.{decimal}
use Rattle.table_text.specs.RowText.{row_text}
use Rattle.sample_gen.specs.Cells.{sample_rows}

-- the first line: the table's name, the number of its rows and of its columns
abbrev pub head_line : ℕ → ℕ → List ℕ
head_line rows cols = codes "table a " ++ decimal rows ++ codes " " ++ decimal cols ++ codes "\n"

-- the tables text of a seed: one table of so many rows and columns, each row on its line
unfoldable pub sample_tables : ℕ → ℕ → ℕ → List ℕ
sample_tables seed rows cols = head_line rows cols ++ flat_map row_text (sample_rows seed rows cols)

-- the lines of the source
abbrev pub source_lines : List (List ℕ)
source_lines =
    codes "input a;"
    ∷ codes "table s[rows(a)][1];"
    ∷ codes "main {"
    ∷ codes "  par i in 0..rows(a) carry s[i] {"
    ∷ codes "    let x = 0;"
    ∷ codes "    loop j in 0..cols(a) { x = x + a[i][j]; }"
    ∷ codes "    s[i][0] = x;"
    ∷ codes "  }"
    ∷ codes "  let h = 4294967296;"
    ∷ codes "  par i in 0..rows(a) reduce h by affine { fold h with 31 * 4294967296 + s[i][0]; }"
    ∷ codes "  let m = 0;"
    ∷ codes "  par i in 0..rows(a) reduce m by add {"
    ∷ codes "    par j in 0..cols(a) reduce m by add { fold m with a[i][j] * a[i][j]; }"
    ∷ codes "  }"
    ∷ codes "  let g = 0;"
    ∷ codes "  par i in 0..rows(a) reduce g by max { fold g with s[i][0]; }"
    ∷ codes "  print h;"
    ∷ codes "  print m;"
    ∷ codes "  print g;"
    ∷ codes "}"
    ∷ []

-- the source of every sample: each line with its line end
unfoldable pub sample_source : List ℕ
sample_source = flat_map (λ line. line ++ 10 ∷ []) source_lines
