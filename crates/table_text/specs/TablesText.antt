-- The tables of a text, and the first fault of a text that has none.
use Rattle.std.specs.Prelude.{◌≡◌, ℕ, ◌*◌, ◌<◌, List, [], ◌∷◌, ◌++◌, length, map, true, Some}
use Rattle.std.specs.List.{list_all}
use Rattle.tp_value.specs.declared.values.Table.{Table}
use Rattle.table_text.specs.declared.fault.TableFault.{TableFault}
use Rattle.table_text.specs.declared.fault.TableFault.TheVariants.{Form}
use Rattle.table_text.specs.Token.{Token, tokens_of, run_value, is_number, number_value}
use Rattle.table_text.specs.Wanted.{Wanted, ATable, AName, RowCount, ColCount, ANumber, misfit}
use Rattle.table_text.specs.Wanted.{Fits}

-- the first tokens of a table behind the tables `before`: the word, a new name, the rows and the
-- columns
pub record IsHead (before : List Table) (word name rows cols : Token) : Type 0 where
  pub opens : Fits (ATable before) word
  pub named : Fits (AName before) name
  pub tall : Fits RowCount rows
  pub wide : Fits (ColCount before (run_value rows.bytes)) cols

-- the tokens are those of this table, behind the tables `before`
pub record IsTable (before : List Table) (tokens : List Token) (table : Table) : Type 0 where
  pub word : Token
  pub name : Token
  pub rows : Token
  pub cols : Token
  pub numbers : List Token
  pub split : tokens ≡ word ∷ name ∷ rows ∷ cols ∷ numbers
  pub head : IsHead before word name rows cols
  pub numbers_fit : list_all (λ number. is_number number.bytes) numbers ≡ true
  pub complete : length numbers ≡ run_value rows.bytes * run_value cols.bytes
  pub gives : table
      ≡
      record {
        name = name.bytes;
        rows = run_value rows.bytes;
        cols = run_value cols.bytes;
        cells = map (λ number. number_value number.bytes) numbers;
      }

-- the tokens are those of these tables, in order
pub data AreTables : List Token → List Table → Type 0 where
  no_table : AreTables [] []
  table_more : (front tokens : List Token) (before : List Table) (table : Table) →
      AreTables front before → IsTable before tokens table →
      AreTables (front ++ tokens) (before ++ table ∷ [])

-- the text is that of these tables
abbrev pub TablesOf : List ℕ → List Table → Type 0
TablesOf text tables = AreTables (tokens_of text) tables

-- the tokens are those of whole tables and then the first ones of another, or none; this comes next
pub data Begun : List Token → Wanted → Type 0 where
  at_table : (front : List Token) (before : List Table) → AreTables front before →
      Begun front (ATable before)
  at_name : (front : List Token) (before : List Table) (word : Token) →
      AreTables front before → Fits (ATable before) word → Begun (front ++ word ∷ []) (AName before)
  at_rows : (front : List Token) (before : List Table) (word name : Token) →
      AreTables front before → Fits (ATable before) word → Fits (AName before) name →
      Begun (front ++ word ∷ name ∷ []) RowCount
  at_cols : (front : List Token) (before : List Table) (word name rows : Token) →
      AreTables front before → Fits (ATable before) word → Fits (AName before) name →
      Fits RowCount rows →
      Begun (front ++ word ∷ name ∷ rows ∷ []) (ColCount before (run_value rows.bytes))
  at_number : (front : List Token) (before : List Table) (word name rows cols : Token)
      (numbers : List Token) →
      AreTables front before → IsHead before word name rows cols →
      list_all (λ number. is_number number.bytes) numbers ≡ true →
      length numbers < run_value rows.bytes * run_value cols.bytes →
      Begun (front ++ word ∷ name ∷ rows ∷ cols ∷ numbers) ANumber

-- the text may not end here
abbrev pub IsUnfinished : Wanted → Type 0
IsUnfinished (ATable before) = ⊥
IsUnfinished (AName before) = Unit {0}
IsUnfinished RowCount = Unit {0}
IsUnfinished (ColCount before rows) = Unit {0}
IsUnfinished ANumber = Unit {0}

-- the text's first fault: at the first token that doesn't fit, or at the text's length where a
-- token is missing
pub data FirstTableFault (text : List ℕ) : TableFault → Type 0 where
  at_token : (front rest : List Token) (token : Token) (wanted : Wanted) (fault : TableFault) →
      tokens_of text ≡ front ++ token ∷ rest → Begun front wanted →
      misfit wanted token ≡ Some fault →
      FirstTableFault text fault
  at_end : (wanted : Wanted) → Begun (tokens_of text) wanted → IsUnfinished wanted →
      FirstTableFault text (Form (length text))
