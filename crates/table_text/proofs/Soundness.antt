-- What the reader answers is so: the tables of the text, or its first fault.
use Rattle.std.proofs.Common.{◌≡◌, ◌⊎◌, ⊎_elim, inl, inr, ℕ, zero, suc, ◌+◌, ◌*◌, Bool, true, false}
use Rattle.std.proofs.Common.{◌&&◌, cond, ℤ, List, [], ◌∷◌, ◌++◌, length, map, Option, None, Some}
use Rattle.std.proofs.Common.{Result, Ok, Err, refl, sym, ap, ◌∙◌, subst, append_assoc, append-nil}
use Rattle.std.proofs.Common.{arith}
use Rattle.std.specs.List.{list_all}
use Rattle.std.proofs.lemmas.List.{map-append, length-append}
use Rattle.std.proofs.lemmas.List.Folds.{list_all-append}
use Rattle.tp_value.specs.declared.values.Table.{Table}
use Rattle.table_text.specs.declared.fault.TableFault.{TableFault}
use Rattle.table_text.specs.declared.fault.TableFault.TheVariants.{Form}
use Rattle.table_text.specs.Token.{Token, run_value, is_number, number_value, tokens_of}
use Rattle.table_text.specs.Wanted.{ATable, AName, RowCount, ColCount, ANumber, misfit, Fits}
use Rattle.table_text.specs.TablesText.{IsHead, AreTables, no_table, table_more, Begun, at_table}
use Rattle.table_text.specs.TablesText.{at_name, at_rows, at_cols, at_number, TablesOf}
use Rattle.table_text.specs.TablesText.{FirstTableFault, at_token, at_end}
use Rattle.table_text.specs.Reading.{Progress, Between, Opened, Named, Tall, Filling, filled}
use Rattle.table_text.specs.Reading.{progress, wanted_at, read, ended, unless}

abbrev pub values_of : List Token → List ℤ
values_of numbers = map (λ number. number_value number.bytes) numbers

abbrev pub are_numbers : List Token → Bool
are_numbers numbers = list_all (λ number. is_number number.bytes) numbers

-- the tokens `front` lead to that progress
data Stands : List Token → Progress → Type 0 where
  between : (front : List Token) (before : List Table) → AreTables front before → Stands front (Between before)
  opened : (front : List Token) (before : List Table) (word : Token) →
      AreTables front before → Fits (ATable before) word → Stands (front ++ word ∷ []) (Opened before)
  named : (front : List Token) (before : List Table) (word name : Token) →
      AreTables front before → Fits (ATable before) word → Fits (AName before) name →
      Stands (front ++ word ∷ name ∷ []) (Named before name.bytes)
  tall : (front : List Token) (before : List Table) (word name rows : Token) →
      AreTables front before → Fits (ATable before) word → Fits (AName before) name → Fits RowCount rows →
      Stands (front ++ word ∷ name ∷ rows ∷ []) (Tall before name.bytes (run_value rows.bytes))
  filling : (front : List Token) (before : List Table) (word name rows cols : Token) (numbers : List Token) (more' : ℕ) →
      AreTables front before → IsHead before word name rows cols → are_numbers numbers ≡ true →
      length numbers + suc more' ≡ run_value rows.bytes * run_value cols.bytes →
      Stands (front ++ word ∷ name ∷ rows ∷ cols ∷ numbers)
      (Filling before name.bytes (run_value rows.bytes) (run_value cols.bytes) (values_of numbers) more')

numbers_more : (numbers : List Token) (token : Token) → are_numbers numbers ≡ true → is_number token.bytes ≡ true →
    are_numbers (numbers ++ token ∷ []) ≡ true
numbers_more numbers token fit one =
    list_all-append (λ number. is_number number.bytes) numbers (token ∷ [])
    ∙ ap (λ t. t && (is_number token.bytes && true)) fit ∙ ap (λ t. t && true) one

number_fits : (token : Token) → misfit ANumber token ≡ None → is_number token.bytes ≡ true
number_fits token fits = only (is_number token.bytes) fits
  where
    only : (t : Bool) → cond t None (Some (Form token.at)) ≡ None → t ≡ true
    only true e = refl
    only false e = cc

begun : (front : List Token) (at : Progress) → Stands front at → Begun front (wanted_at at)
begun _ _ (between front before tables) = at_table front before tables
begun _ _ (opened front before word tables w) = at_name front before word tables w
begun _ _ (named front before word name tables w n) = at_rows front before word name tables w n
begun _ _ (tall front before word name rows tables w n r) = at_cols front before word name rows tables w n r
begun _ _ (filling front before word name rows cols numbers more' tables head fit left) =
    at_number front before word name rows cols numbers tables head fit (omega (arith, left))

-- so many numbers are left
fill_step : (front : List Token) (before : List Table) (word name rows cols : Token) (numbers : List Token) (left : ℕ) →
    AreTables front before → IsHead before word name rows cols → are_numbers numbers ≡ true →
    length numbers + left ≡ run_value rows.bytes * run_value cols.bytes →
    Stands (front ++ word ∷ name ∷ rows ∷ cols ∷ numbers)
    (filled before name.bytes (run_value rows.bytes) (run_value cols.bytes) (values_of numbers) left)
fill_step front before word name rows cols numbers zero tables head fit count =
    between (front ++ word ∷ name ∷ rows ∷ cols ∷ numbers) _
    (table_more front (word ∷ name ∷ rows ∷ cols ∷ numbers) before _ tables
    (record { word = word; name = name; rows = rows; cols = cols; numbers = numbers; split = refl; head = head; numbers_fit = fit; complete = omega (arith, count); gives = refl }))
fill_step front before word name rows cols numbers (suc more') tables head fit count =
    filling front before word name rows cols numbers more' tables head fit count

-- a token that fits leads on
step : (front : List Token) (token : Token) (at : Progress) → Stands front at → misfit (wanted_at at) token ≡ None →
    Stands (front ++ token ∷ []) (progress at token)
step _ token _ (between front before tables) fits = opened front before token tables fits
step _ token _ (opened front before word tables w) fits =
    subst (λ l. Stands l (Named before token.bytes)) (sym (append_assoc front (word ∷ []) (token ∷ [])))
    (named front before word token tables w fits)
step _ token _ (named front before word name tables w n) fits =
    subst (λ l. Stands l (Tall before name.bytes (run_value token.bytes))) (sym (append_assoc front (word ∷ name ∷ []) (token ∷ [])))
    (tall front before word name token tables w n fits)
step _ token _ (tall front before word name rows tables w n r) fits =
    subst (λ l. Stands l (filled before name.bytes (run_value rows.bytes) (run_value token.bytes) [] (run_value rows.bytes * run_value token.bytes)))
    (sym (append_assoc front (word ∷ name ∷ rows ∷ []) (token ∷ [])))
    (fill_step front before word name rows token [] (run_value rows.bytes * run_value token.bytes) tables
    (record { opens = w; named = n; tall = r; wide = fits }) refl (omega arith))
step _ token _ (filling front before word name rows cols numbers more' tables head fit left) fits =
    subst (λ l. Stands l (filled before name.bytes (run_value rows.bytes) (run_value cols.bytes) (values_of numbers ++ number_value token.bytes ∷ []) more'))
    (sym (append_assoc front (word ∷ name ∷ rows ∷ cols ∷ numbers) (token ∷ [])))
    (subst (λ cells. Stands (front ++ word ∷ name ∷ rows ∷ cols ∷ (numbers ++ token ∷ [])) (filled before name.bytes (run_value rows.bytes) (run_value cols.bytes) cells more'))
    (map-append (λ number. number_value number.bytes) numbers (token ∷ []))
    (fill_step front before word name rows cols (numbers ++ token ∷ []) more' tables head
    (numbers_more numbers token fit (number_fits token fits)) (omega (arith, length-append numbers (token ∷ []), left))))

-- ---- what the reader answers

some_none : {A : Type 0} (m : Option A) → (m ≡ None) ⊎ ((x : A) × (m ≡ Some x))
some_none None = inl refl
some_none (Some x) = inr (x, refl)

pub err_no_ok : (fault : TableFault) (tables : List Table) → ◌≡◌ {A = Result (List Table) TableFault} (Err fault) (Ok tables) → ⊥
err_no_ok fault tables e = cc

pub err_same : (a b : TableFault) → ◌≡◌ {A = Result (List Table) TableFault} (Err a) (Err b) → a ≡ b
err_same a b e = cc

pub ok_same : (a b : List Table) → ◌≡◌ {A = Result (List Table) TableFault} (Ok a) (Ok b) → a ≡ b
ok_same a b e = cc

-- at the end of the text
ended_ok : (len : ℕ) (front : List Token) (at : Progress) (tables : List Table) → Stands front at → ended len at ≡ Ok tables →
    AreTables front tables
ended_ok len _ _ tables (between front before are) is = subst (AreTables front) (ok_same before tables is) are
ended_ok len _ _ tables (opened front before word are w) is = absurd (err_no_ok (Form len) tables is)
ended_ok len _ _ tables (named front before word name are w n) is = absurd (err_no_ok (Form len) tables is)
ended_ok len _ _ tables (tall front before word name rows are w n r) is = absurd (err_no_ok (Form len) tables is)
ended_ok len _ _ tables (filling front before word name rows cols numbers more' are head fit left) is = absurd (err_no_ok (Form len) tables is)

-- the tokens read are those of the tables that it answers
sound_ok : (len : ℕ) (tokens front : List Token) (at : Progress) (tables : List Table) → Stands front at →
    read len tokens at ≡ Ok tables → AreTables (front ++ tokens) tables
unfolding read
sound_ok len [] front at tables stands is = subst (λ l. AreTables l tables) (sym (append-nil front)) (ended_ok len front at tables stands is)
sound_ok len (token ∷ tokens) front at tables stands is =
    ⊎_elim
    (λ fits. subst (λ l. AreTables l tables) (append_assoc front (token ∷ []) tokens)
    (sound_ok len tokens (front ++ token ∷ []) (progress at token) tables (step front token at stands fits)
    (sym (ap (λ m. unless m (read len tokens (progress at token))) fits) ∙ is)))
    (λ wrong. absurd (err_no_ok wrong.0 tables (sym (ap (λ m. unless m (read len tokens (progress at token))) wrong.1) ∙ is)))
    (some_none (misfit (wanted_at at) token))

ended_err : (text : List ℕ) (front : List Token) (at : Progress) (fault : TableFault) → tokens_of text ≡ front → Stands front at →
    ended (length text) at ≡ Err fault → FirstTableFault text fault
ended_err text front at fault is stands e =
    missing at fault (subst (λ l. Begun l (wanted_at at)) (sym is) (begun front at stands)) e
  where
    missing : (at : Progress) (fault : TableFault) → Begun (tokens_of text) (wanted_at at) → ended (length text) at ≡ Err fault →
        FirstTableFault text fault
    missing (Between before) fault b e = absurd (err_no_ok fault before (sym e))
    missing (Opened before) fault b e = subst (FirstTableFault text) (err_same (Form (length text)) fault e) (at_end (AName before) b tt)
    missing (Named before name) fault b e = subst (FirstTableFault text) (err_same (Form (length text)) fault e) (at_end RowCount b tt)
    missing (Tall before name rows) fault b e = subst (FirstTableFault text) (err_same (Form (length text)) fault e) (at_end (ColCount before rows) b tt)
    missing (Filling before name rows cols cells more') fault b e = subst (FirstTableFault text) (err_same (Form (length text)) fault e) (at_end ANumber b tt)

-- a fault that it answers is the text's first one
sound_err : (text : List ℕ) (tokens front : List Token) (at : Progress) (fault : TableFault) → tokens_of text ≡ front ++ tokens →
    Stands front at → read (length text) tokens at ≡ Err fault → FirstTableFault text fault
unfolding read
sound_err text [] front at fault is stands e = ended_err text front at fault (is ∙ append-nil front) stands e
sound_err text (token ∷ tokens) front at fault is stands e =
    ⊎_elim
    (λ fits. sound_err text tokens (front ++ token ∷ []) (progress at token) fault
    (is ∙ sym (append_assoc front (token ∷ []) tokens)) (step front token at stands fits)
    (sym (ap (λ m. unless m (read (length text) tokens (progress at token))) fits) ∙ e))
    (λ wrong. at_token front tokens token (wanted_at at) fault is (begun front at stands)
    (wrong.1 ∙ ap Some (err_same wrong.0 fault (sym (ap (λ m. unless m (read (length text) tokens (progress at token))) wrong.1) ∙ e))))
    (some_none (misfit (wanted_at at) token))

pub TablesOf-read : (text : List ℕ) (tables : List Table) → read (length text) (tokens_of text) (Between []) ≡ Ok tables → TablesOf text tables
TablesOf-read text tables is = sound_ok (length text) (tokens_of text) [] (Between []) tables (between [] [] no_table) is

pub FirstTableFault-read : (text : List ℕ) (fault : TableFault) → read (length text) (tokens_of text) (Between []) ≡ Err fault → FirstTableFault text fault
FirstTableFault-read text fault is = sound_err text (tokens_of text) [] (Between []) fault refl (between [] [] no_table) is
