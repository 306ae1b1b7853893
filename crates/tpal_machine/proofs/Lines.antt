-- Rows and lines of a table, one number and one line more at a time.
use Rattle.std.proofs.Common.{◌≡◌, ℕ, suc, ◌+◌, ◌-◌, ◌<◌, ◌≤◌, List, [], ◌∷◌, ◌++◌, Option, Some}
use Rattle.std.proofs.Common.{None, Ok, Err, refl, ap, sym, ◌∙◌, arith, append_assoc, append-nil}
use Rattle.std.specs.Prelude.{ℤ, pos}
use Rattle.slices.specs.Holding.{Holding, cell_at}
use Rattle.table_text.specs.RowText.{row_text}
use Rattle.tpal_machine.specs.declared.faults.Fault.TheVariants.{NotHeld}
use Rattle.tpal_machine.specs.Effect.{appended, with_first, numbers_from, row_numbers, line_of}
use Rattle.tpal_machine.specs.Effect.{line, with_line, rows_text, put_output}
use Rattle.tpal_machine.specs.State.{State}

appended_append : {A : Type 0} (xs ys : List A) (o : Option (List A)) → appended (xs ++ ys) o ≡ appended xs (appended ys o)
appended_append xs ys None = refl
appended_append xs ys (Some zs) = ap Some (append_assoc xs ys zs)

appended_nil : {A : Type 0} (o : Option (List A)) → appended [] o ≡ o
appended_nil None = refl
appended_nil (Some xs) = refl

-- ---- the numbers of a row

abbrev pub value_in : Holding → ℕ → ℕ → Option ℤ
value_in h row col = cell_at h (pos row) (pos col)

left_over : (at n : ℕ) → at < n → n - at ≡ suc (n - (at + 1))
left_over at n below = omega arith

pub numbers_end : (h : Holding) (row n at : ℕ) (xs : List ℤ) → n ≤ at → appended xs (numbers_from (value_in h row) at (n - at)) ≡ Some xs
unfolding numbers_from
numbers_end h row n at xs past =
    let none : n - at ≡ 0 = omega arith in
    ap (λ k. appended xs (numbers_from (value_in h row) at k)) none ∙ ap Some (append-nil xs)

first_more : (xs : List ℤ) (x : ℤ) (o : Option (List ℤ)) → appended xs (with_first (Some x) o) ≡ appended (xs ++ x ∷ []) o
first_more xs x None = refl
first_more xs x (Some ys) = ap Some (sym (append_assoc xs (x ∷ []) ys))

pub numbers_more : (h : Holding) (row n at : ℕ) (x : ℤ) (xs : List ℤ) → at < n → cell_at h (pos row) (pos at) ≡ Some x → appended xs (numbers_from (value_in h row) at (n - at)) ≡ appended (xs ++ x ∷ []) (numbers_from (value_in h row) (at + 1) (n - (at + 1)))
unfolding numbers_from
numbers_more h row n at x xs below found =
    ap (λ k. appended xs (numbers_from (value_in h row) at k)) (left_over at n below)
    ∙ ap (λ o. appended xs (with_first o (numbers_from (value_in h row) (at + 1) (n - (at + 1))))) found
    ∙ first_more xs x (numbers_from (value_in h row) (at + 1) (n - (at + 1)))

pub numbers_none : (h : Holding) (row n at : ℕ) (xs : List ℤ) → at < n → cell_at h (pos row) (pos at) ≡ None → appended xs (numbers_from (value_in h row) at (n - at)) ≡ None
unfolding numbers_from
numbers_none h row n at xs below missing =
    ap (λ k. appended xs (numbers_from (value_in h row) at k)) (left_over at n below)
    ∙ ap (λ o. appended xs (with_first o (numbers_from (value_in h row) (at + 1) (n - (at + 1))))) missing

-- ---- the line of a row

row_is : (o : Option (List ℤ)) (r : Option (List ℤ)) → appended [] o ≡ r → o ≡ r
row_is o r is = sym (appended_nil o) ∙ is

pub line_there : (h : Holding) (at : ℕ) (row : List ℤ) (text : List ℕ) → appended [] (row_numbers h at) ≡ Some row → appended text (line h at) ≡ Some (text ++ row_text row)
line_there h at row text is = ap (λ o. appended text (line_of o)) (row_is _ _ is)

pub line_missing : (h : Holding) (at : ℕ) (text : List ℕ) → appended [] (row_numbers h at) ≡ None → appended text (line h at) ≡ None
line_missing h at text is = ap (λ o. appended text (line_of o)) (row_is _ _ is)

-- ---- the lines of a table

pub rows_end : (h : Holding) (n at : ℕ) (text : List ℕ) → n ≤ at → appended text (rows_text h at (n - at)) ≡ Some text
unfolding rows_text
rows_end h n at text past =
    let none : n - at ≡ 0 = omega arith in
    ap (λ k. appended text (rows_text h at k)) none ∙ ap Some (append-nil text)

-- a line that is there, where it makes that text of the one before
line_more : (text more : List ℕ) (one others : Option (List ℕ)) → appended text one ≡ Some more → appended text (with_line one others) ≡ appended more others
line_more text more None others is = cc
line_more text more (Some bytes) others is =
    let same : text ++ bytes ≡ more = cc in
    sym (appended_append text bytes others) ∙ ap (λ t. appended t others) same

line_none : (text : List ℕ) (one others : Option (List ℕ)) → appended text one ≡ None → appended text (with_line one others) ≡ None
line_none text None others is = refl
line_none text (Some bytes) others is = cc

pub rows_more : (h : Holding) (n at : ℕ) (text more : List ℕ) → at < n → appended text (line h at) ≡ Some more → appended text (rows_text h at (n - at)) ≡ appended more (rows_text h (at + 1) (n - (at + 1)))
unfolding rows_text
rows_more h n at text more below is =
    ap (λ k. appended text (rows_text h at k)) (left_over at n below)
    ∙ line_more text more (line h at) (rows_text h (at + 1) (n - (at + 1))) is

pub rows_none : (h : Holding) (n at : ℕ) (text : List ℕ) → at < n → appended text (line h at) ≡ None → appended text (rows_text h at (n - at)) ≡ None
unfolding rows_text
rows_none h n at text below is =
    ap (λ k. appended text (rows_text h at k)) (left_over at n below)
    ∙ line_none text (line h at) (rows_text h (at + 1) (n - (at + 1))) is

-- ---- what is printed

pub printed : (state : State) (o : Option (List ℕ)) (text : List ℕ) → appended state.output o ≡ Some text → put_output state o ≡ Ok (record state { output = text })
printed state None text is = cc
printed state (Some bytes) text is =
    let same : state.output ++ bytes ≡ text = cc in
    ap (λ (t : List ℕ). Ok (record state { output = t })) same

pub not_printed : (state : State) (o : Option (List ℕ)) → appended state.output o ≡ None → put_output state o ≡ Err NotHeld
not_printed state None is = refl
not_printed state (Some bytes) is = cc
