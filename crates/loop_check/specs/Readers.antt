-- Which functions read which tables.
use Rattle.std.specs.Prelude.{◌≡◌, ℕ, true, cond, not, ◌&&◌, List, [], ◌∷◌, ◌++◌, map, Contains}
use Rattle.loop_check.specs.declared.reader.Reader.{Reader}
use Rattle.loop_syntax.specs.declared.Name.{Name}
use Rattle.loop_syntax.specs.declared.Func.{Func}
use Rattle.loop_syntax.specs.declared.Program.{Program}
use Rattle.loop_rules.specs.Names.{is_in, texts, func_of}
use Rattle.loop_rules.specs.Reading.{ReadsTable}
use Rattle.loop_check.specs.declared.usage.Usage.{Usage}
use Rattle.loop_check.specs.Usage.{uses}

-- the names with those functions that do that and aren't among them
abbrev pub add_users : Program → Usage → List Func → List (List ℕ) → List (List ℕ)
add_users program usage [] names = names
add_users program usage (func ∷ funcs) names =
    add_users program usage funcs
    (cond
    (not (is_in names func.name.text.items)
    && uses program usage (func_of program.funcs.items func.name.text.items))
    (names ++ func.name.text.items ∷ []) names)

-- a function and a table
pub record Pair : Type 0 where
  pub func : List ℕ
  pub table : List ℕ

abbrev pub pair : List ℕ → List ℕ → Pair
pair table func = record { func = func; table = table }

-- what readers stand for
abbrev pub pairs_of : List Reader → List Pair
pairs_of readers = map (λ reader. pair reader.table.now reader.func.now) readers

-- these are exactly the functions that read the table t, themselves or through calls
pub record IsReadersOf (program : Program) (table : List ℕ) (names : List (List ℕ)) : Type 0 where
  pub sound : (func : List ℕ) → is_in names func ≡ true → ReadsTable program func table
  pub complete : (func : List ℕ) → ReadsTable program func table → is_in names func ≡ true

-- the readers are exactly the functions that read one of these tables, each with it
pub record IsReaders (program : Program) (tables : List Name) (readers : List Reader) : Type 0 where
  pub sound : (read : Pair) → Contains (pairs_of readers) read →
      ReadsTable program read.func read.table
  pub complete : (func table : List ℕ)
      → is_in (texts tables) table ≡ true
      → ReadsTable program func table
      → Contains (pairs_of readers) (pair table func)
