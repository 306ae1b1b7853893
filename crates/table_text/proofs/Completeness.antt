-- What is so is what the reader answers: it reads every text of tables, and finds every first fault.
use Rattle.std.proofs.Common.{◌≡◌, ℕ, suc, ◌+◌, ◌-◌, ◌*◌, ◌<◌, true, cond, ℤ, List, [], ◌∷◌, ◌++◌}
use Rattle.std.proofs.Common.{length, None, Some, Ok, Err, refl, sym, ap, ◌∙◌, subst, append_assoc}
use Rattle.std.proofs.Common.{append-nil, zero-add, arith}
use Rattle.tp_value.specs.declared.values.Table.{Table}
use Rattle.table_text.specs.declared.fault.TableFault.{TableFault}
use Rattle.table_text.specs.declared.fault.TableFault.TheVariants.{Form}
use Rattle.table_text.specs.Token.{Token, run_value, is_number, number_value, tokens_of}
use Rattle.table_text.specs.Wanted.{Wanted, ANumber, misfit}
use Rattle.table_text.specs.TablesText.{IsHead, IsTable, AreTables, no_table, table_more, Begun}
use Rattle.table_text.specs.TablesText.{at_table, at_name, at_rows, at_cols, at_number}
use Rattle.table_text.specs.TablesText.{IsUnfinished, TablesOf, FirstTableFault, at_token, at_end}
use Rattle.table_text.specs.Reading.{Progress, Between, Opened, Named, Tall, Filling, filled}
use Rattle.table_text.specs.Reading.{progress, wanted_at, read, ended, unless}
use Rattle.table_text.proofs.Tokens.{and_left, and_right}
use Rattle.table_text.proofs.Steps.{read-fits}
use Rattle.table_text.proofs.Soundness.{values_of, are_numbers}

-- numbers are read one after another
numbers_read : (len : ℕ) (numbers rest : List Token) (before : List Table) (name : List ℕ) (rows cols : ℕ) (cells : List ℤ) (left : ℕ) →
    are_numbers numbers ≡ true →
    read len (numbers ++ rest) (filled before name rows cols cells (length numbers + left))
    ≡ read len rest (filled before name rows cols (cells ++ values_of numbers) left)
numbers_read len [] rest before name rows cols cells left fit =
    ap (λ n. read len rest (filled before name rows cols cells n)) (zero-add left)
    ∙ ap (λ c. read len rest (filled before name rows cols c left)) (sym (append-nil cells))
numbers_read len (number ∷ numbers) rest before name rows cols cells left fit =
    let one_more : suc (length numbers) + left ≡ suc (length numbers + left) = omega arith in
    ap (λ n. read len (number ∷ numbers ++ rest) (filled before name rows cols cells n)) one_more
    ∙ read-fits len number (numbers ++ rest) (Filling before name rows cols cells (length numbers + left))
    (ap (λ t. cond t None (Some (Form number.at))) (and_left (is_number number.bytes) (are_numbers numbers) fit))
    ∙ numbers_read len numbers rest before name rows cols (cells ++ number_value number.bytes ∷ []) left
    (and_right (is_number number.bytes) (are_numbers numbers) fit)
    ∙ ap (λ c. read len rest (filled before name rows cols c left)) (append_assoc cells (number_value number.bytes ∷ []) (values_of numbers))

-- the first tokens of a table
head_read : (len : ℕ) (before : List Table) (word name rows cols : Token) (rest : List Token) → IsHead before word name rows cols →
    read len (word ∷ name ∷ rows ∷ cols ∷ rest) (Between before)
    ≡ read len rest (filled before name.bytes (run_value rows.bytes) (run_value cols.bytes) [] (run_value rows.bytes * run_value cols.bytes))
head_read len before word name rows cols rest head =
    read-fits len word (name ∷ rows ∷ cols ∷ rest) (Between before) head.opens
    ∙ read-fits len name (rows ∷ cols ∷ rest) (Opened before) head.named
    ∙ read-fits len rows (cols ∷ rest) (Named before name.bytes) head.tall
    ∙ read-fits len cols rest (Tall before name.bytes (run_value rows.bytes)) head.wide

-- a head and some of its numbers
part_read : (len : ℕ) (before : List Table) (word name rows cols : Token) (numbers rest : List Token) (left : ℕ) →
    IsHead before word name rows cols → are_numbers numbers ≡ true →
    length numbers + left ≡ run_value rows.bytes * run_value cols.bytes →
    read len ((word ∷ name ∷ rows ∷ cols ∷ numbers) ++ rest) (Between before)
    ≡ read len rest (filled before name.bytes (run_value rows.bytes) (run_value cols.bytes) (values_of numbers) left)
part_read len before word name rows cols numbers rest left head fit count =
    head_read len before word name rows cols (numbers ++ rest) head
    ∙ ap (λ n. read len (numbers ++ rest) (filled before name.bytes (run_value rows.bytes) (run_value cols.bytes) [] n)) (sym count)
    ∙ numbers_read len numbers rest before name.bytes (run_value rows.bytes) (run_value cols.bytes) [] left fit

-- a table
table_read : (len : ℕ) (before : List Table) (tokens rest : List Token) (table : Table) → IsTable before tokens table →
    read len (tokens ++ rest) (Between before) ≡ read len rest (Between (before ++ table ∷ []))
table_read len before tokens rest table is =
    let count : length is.numbers + 0 ≡ run_value is.rows.bytes * run_value is.cols.bytes = omega (arith, is.complete) in
    ap (λ ts. read len (ts ++ rest) (Between before)) is.split
    ∙ part_read len before is.word is.name is.rows is.cols is.numbers rest 0 is.head is.numbers_fit count
    ∙ ap (λ t. read len rest (Between (before ++ t ∷ []))) (sym is.gives)

-- tables
tables_read : (len : ℕ) (tokens : List Token) (tables : List Table) (rest : List Token) → AreTables tokens tables →
    read len (tokens ++ rest) (Between []) ≡ read len rest (Between tables)
tables_read len _ _ rest no_table = refl
tables_read len _ _ rest (table_more front tokens before table are is) =
    ap (λ ts. read len ts (Between [])) (append_assoc front tokens rest)
    ∙ tables_read len front before (tokens ++ rest) are ∙ table_read len before tokens rest table is

-- what was begun
pub record Reaches (len : ℕ) (front : List Token) (wanted : Wanted) : Type 0 where
  pub place : Progress
  pub wants : wanted_at place ≡ wanted
  pub reads : (rest : List Token) → read len (front ++ rest) (Between []) ≡ read len rest place

begun_read : (len : ℕ) (front : List Token) (wanted : Wanted) → Begun front wanted → Reaches len front wanted
begun_read len _ _ (at_table front before are) =
    record { place = Between before; wants = refl; reads = λ rest. tables_read len front before rest are }
begun_read len _ _ (at_name front before word are w) = record {
  place = Opened before;
  wants = refl;
  reads = λ rest.
      ap (λ ts. read len ts (Between [])) (append_assoc front (word ∷ []) rest)
      ∙ tables_read len front before (word ∷ rest) are ∙ read-fits len word rest (Between before) w;
}
begun_read len _ _ (at_rows front before word name are w n) = record {
  place = Named before name.bytes;
  wants = refl;
  reads = λ rest.
      ap (λ ts. read len ts (Between [])) (append_assoc front (word ∷ name ∷ []) rest)
      ∙ tables_read len front before (word ∷ name ∷ rest) are ∙ read-fits len word (name ∷ rest) (Between before) w
      ∙ read-fits len name rest (Opened before) n;
}
begun_read len _ _ (at_cols front before word name rows are w n r) = record {
  place = Tall before name.bytes (run_value rows.bytes);
  wants = refl;
  reads = λ rest.
      ap (λ ts. read len ts (Between [])) (append_assoc front (word ∷ name ∷ rows ∷ []) rest)
      ∙ tables_read len front before (word ∷ name ∷ rows ∷ rest) are ∙ read-fits len word (name ∷ rows ∷ rest) (Between before) w
      ∙ read-fits len name (rows ∷ rest) (Opened before) n ∙ read-fits len rows rest (Named before name.bytes) r;
}
begun_read len _ _ (at_number front before word name rows cols numbers are head fit fewer) =
    left (run_value rows.bytes * run_value cols.bytes) refl (above (length numbers) (run_value rows.bytes * run_value cols.bytes) fewer)
  where
    above : (a b : ℕ) → a < b → (more' : ℕ) × (a + suc more' ≡ b)
    above a b h = (b - suc a, omega arith)

    left : (count : ℕ) → run_value rows.bytes * run_value cols.bytes ≡ count → (more' : ℕ) × (length numbers + suc more' ≡ count) →
        Reaches len (front ++ word ∷ name ∷ rows ∷ cols ∷ numbers) ANumber
    left count is gap = record {
      place = Filling before name.bytes (run_value rows.bytes) (run_value cols.bytes) (values_of numbers) gap.0;
      wants = refl;
      reads = λ rest.
          ap (λ ts. read len ts (Between [])) (append_assoc front (word ∷ name ∷ rows ∷ cols ∷ numbers) rest)
          ∙ tables_read len front before ((word ∷ name ∷ rows ∷ cols ∷ numbers) ++ rest) are
          ∙ part_read len before word name rows cols numbers rest (suc gap.0) head fit (gap.1 ∙ sym is);
    }

pub read-TablesOf : (text : List ℕ) (tables : List Table) → TablesOf text tables → read (length text) (tokens_of text) (Between []) ≡ Ok tables
unfolding read
read-TablesOf text tables of =
    ap (λ ts. read (length text) ts (Between [])) (sym (append-nil (tokens_of text)))
    ∙ tables_read (length text) (tokens_of text) tables [] of

pub read-FirstTableFault : (text : List ℕ) (fault : TableFault) → FirstTableFault text fault →
    read (length text) (tokens_of text) (Between []) ≡ Err fault
unfolding read
read-FirstTableFault text _ (at_token front rest token wanted fault is begun wrong) = at_misfit (begun_read (length text) front wanted begun)
  where
    at_misfit : Reaches (length text) front wanted → read (length text) (tokens_of text) (Between []) ≡ Err fault
    at_misfit reached =
        ap (λ ts. read (length text) ts (Between [])) is ∙ reached.reads (token ∷ rest)
        ∙ ap (λ m. unless m (read (length text) rest (progress reached.place token))) (ap (λ w. misfit w token) reached.wants ∙ wrong)
read-FirstTableFault text _ (at_end wanted begun unfinished) = at_last (begun_read (length text) (tokens_of text) wanted begun)
  where
    stops : (place : Progress) → IsUnfinished (wanted_at place) → ended (length text) place ≡ Err (Form (length text))
    stops (Between before) u = absurd u
    stops (Opened before) u = refl
    stops (Named before name) u = refl
    stops (Tall before name rows) u = refl
    stops (Filling before name rows cols cells more') u = refl

    at_last : Reaches (length text) (tokens_of text) wanted → read (length text) (tokens_of text) (Between []) ≡ Err (Form (length text))
    at_last reached =
        ap (λ ts. read (length text) ts (Between [])) (sym (append-nil (tokens_of text))) ∙ reached.reads []
        ∙ stops reached.place (subst IsUnfinished (sym reached.wants) unfinished)
