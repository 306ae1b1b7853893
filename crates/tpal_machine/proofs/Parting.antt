-- The parts of held tables.
use Rattle.std.proofs.Common.{◌≡◌, ℕ, zero, suc, ◌+◌, ◌<◌, ◌≤◌, inl, inr, Bool, true, false, List}
use Rattle.std.proofs.Common.{[], ◌∷◌, ◌++◌, length, Option, Result, Ok, Err, refl, ap, sym, subst}
use Rattle.std.proofs.Common.{◌∙◌, arith, append_assoc, append-nil, add-zero, length-append}
use Rattle.std.proofs.lemmas.Bool.{cases_eq}
use Rattle.std.specs.Prelude.{pos, IsSome, is_some, IsTrue, ◌&&◌, ◌↔◌}
use Rattle.slices.specs.Holding.{Holding, cell_at, IsWhole}
use Rattle.tpal_syntax.specs.declared.notes.CarryAt.{CarryAt}
use Rattle.tpal_syntax.specs.declared.words.Word.{Word}
use Rattle.tpal_machine.specs.declared.cut.TableCut.{TableCut}
use Rattle.tpal_machine.specs.declared.faults.Fault.{Fault}
use Rattle.tpal_machine.specs.Cut.{carried_at, with_cut, carried, cut_of, is_row_held}
use Rattle.tpal_machine.specs.Cut.{are_rows_held, is_whole, each_part}

-- ---- where the tables are cut

-- cuts in front of others, where those are there
abbrev pub prefixed : List (ℕ × TableCut) → Result (List (ℕ × TableCut)) Fault → Result (List (ℕ × TableCut)) Fault
prefixed xs (Ok cuts) = Ok (xs ++ cuts)
prefixed xs (Err f) = Err f

pub prefixed_nil : (r : Result (List (ℕ × TableCut)) Fault) → r ≡ prefixed [] r
prefixed_nil (Ok cuts) = refl
prefixed_nil (Err f) = refl

with_more : (xs : List (ℕ × TableCut)) (cut : ℕ × TableCut) (r : Result (List (ℕ × TableCut)) Fault) → prefixed xs (with_cut (Ok cut) r) ≡ prefixed (xs ++ cut ∷ []) r
with_more xs cut (Ok cuts) = ap Ok (sym (append_assoc xs (cut ∷ []) cuts))
with_more xs cut (Err f) = refl

-- one item more
pub carried_more : (words : List Word) (items cs : List CarryAt) (xs : List (ℕ × TableCut)) (c : CarryAt) (cut : ℕ × TableCut) → items ≡ c ∷ cs → carried_at words c ≡ Ok cut → prefixed xs (carried words items) ≡ prefixed (xs ++ cut ∷ []) (carried words cs)
carried_more words items cs xs c cut first is =
    ap (λ l. prefixed xs (carried words l)) first ∙ ap (λ r. prefixed xs (with_cut r (carried words cs))) is ∙ with_more xs cut (carried words cs)

pub carried_refused : (words : List Word) (items cs : List CarryAt) (xs : List (ℕ × TableCut)) (c : CarryAt) (f : Fault) → items ≡ c ∷ cs → carried_at words c ≡ Err f → prefixed xs (carried words items) ≡ Err f
carried_refused words items cs xs c f first is =
    ap (λ l. prefixed xs (carried words l)) first ∙ ap (λ r. prefixed xs (with_cut r (carried words cs))) is

pub carried_end : (words : List Word) (items : List CarryAt) (xs : List (ℕ × TableCut)) → items ≡ [] → prefixed xs (carried words items) ≡ Ok xs
carried_end words items xs none = ap (λ l. prefixed xs (carried words l)) none ∙ ap Ok (append-nil xs)

-- ---- whether a table is whole

pub left_true : (a b : Bool) → (a && b) ≡ true → a ≡ true
left_true true b is = refl
left_true false b is = is

pub right_true : (a b : Bool) → (a && b) ≡ true → b ≡ true
right_true true b is = is
right_true false b is = cc

both_true : (a b : Bool) → a ≡ true → b ≡ true → (a && b) ≡ true
both_true a b left right = ap (λ t. t && b) left ∙ right

some_true : {A : Type 0} (o : Option A) → IsSome o → is_some o ≡ true
some_true o found = found

true_some : {A : Type 0} (o : Option A) → is_some o ≡ true → IsSome o
true_some o is = is

row_true : (h : Holding) (row col n : ℕ) → ((k : ℕ) → col ≤ k → k < col + n → IsSome (cell_at h (pos row) (pos k))) → is_row_held h row col n ≡ true
unfolding is_row_held
row_true h row col zero each = refl
row_true h row col (suc n) each =
    both_true _ _ (some_true (cell_at h (pos row) (pos col)) (each col (omega arith) (omega arith))) (row_true h row (col + 1) n (λ k low high. each k (omega arith) (omega arith)))

true_row : (h : Holding) (row col n : ℕ) → is_row_held h row col n ≡ true → (k : ℕ) → col ≤ k → k < col + n → IsSome (cell_at h (pos row) (pos k))
unfolding is_row_held
true_row h row col zero is k low high = absurd (omega arith)
true_row h row col (suc n) is k low high = elim (cases_eq k col) [
  | inl e ↦ subst (λ j. IsSome (cell_at h (pos row) (pos j))) (sym e) (true_some (cell_at h (pos row) (pos col)) (left_true _ _ is))
  | inr e ↦ true_row h row (col + 1) n (right_true _ _ is) k (omega (arith, e)) (omega arith)
]

rows_true : (h : Holding) (row n : ℕ) → ((r k : ℕ) → row ≤ r → r < row + n → k < h.cols → IsSome (cell_at h (pos r) (pos k))) → are_rows_held h row n ≡ true
unfolding are_rows_held
rows_true h row zero each = refl
rows_true h row (suc n) each =
    both_true _ _ (row_true h row 0 h.cols (λ k low high. each row k (omega arith) (omega arith) (omega arith))) (rows_true h (row + 1) n (λ r k low high in_row. each r k (omega arith) (omega arith) in_row))

true_rows : (h : Holding) (row n : ℕ) → are_rows_held h row n ≡ true → (r k : ℕ) → row ≤ r → r < row + n → k < h.cols → IsSome (cell_at h (pos r) (pos k))
unfolding are_rows_held
true_rows h row zero is r k low high in_row = absurd (omega arith)
true_rows h row (suc n) is r k low high in_row = elim (cases_eq r row) [
  | inl e ↦ subst (λ j. IsSome (cell_at h (pos j) (pos k))) (sym e) (true_row h row 0 h.cols (left_true _ _ is) k (omega arith) (omega arith))
  | inr e ↦ true_rows h (row + 1) n (right_true _ _ is) r k (omega (arith, e)) (omega arith) in_row
]

same_test : (a b : Bool) → (a ≡ true → b ≡ true) → (b ≡ true → a ≡ true) → a ≡ b
same_test true b there back = sym (there refl)
same_test false true there back = back refl
same_test false false there back = refl

-- the test that goes through the cells is the one of a held table
pub whole_test : (h : Holding) (b : Bool) → (IsTrue b ↔ IsWhole h) → b ≡ is_whole h
whole_test h b test =
    same_test b (is_whole h) (λ is. rows_true h 0 h.rows (λ r k low high in_row. test.0 is r k (omega arith) in_row))
    (λ is. test.1 (λ r k in_rows in_row. true_rows h 0 h.rows is r k (omega arith) (omega arith) in_row))

-- ---- a part of each table

part_push_from : (part : TableCut → Holding → Holding) (cuts : List (ℕ × TableCut)) (t : ℕ) (hs : List Holding) (h : Holding) → each_part part cuts t (hs ++ h ∷ []) ≡ each_part part cuts t hs ++ part (cut_of cuts (t + length hs)) h ∷ []
part_push_from part cuts t [] h = ap (λ n. part (cut_of cuts n) h ∷ []) (sym (add-zero t))
part_push_from part cuts t (g ∷ hs) h =
    ap (λ l. part (cut_of cuts t) g ∷ l) (part_push_from part cuts (t + 1) hs h ∙ ap (λ n. each_part part cuts (t + 1) hs ++ part (cut_of cuts n) h ∷ []) (omega arith))

-- one table more
pub part_push : (part : TableCut → Holding → Holding) (cuts : List (ℕ × TableCut)) (hs : List Holding) (h : Holding) (n : ℕ) → n ≡ length hs → each_part part cuts 0 (hs ++ h ∷ []) ≡ each_part part cuts 0 hs ++ part (cut_of cuts n) h ∷ []
part_push part cuts hs h n many =
    let same : 0 + length hs ≡ n = omega arith in
    part_push_from part cuts 0 hs h ∙ ap (λ k. each_part part cuts 0 hs ++ part (cut_of cuts k) h ∷ []) same

-- the part of one table more
pub part_more : (part : TableCut → Holding → Holding) (cuts : List (ℕ × TableCut)) (hs : List Holding) (h : Holding) (n : ℕ) (old new : List Holding) (p : Holding) (cut : TableCut) → n ≡ length hs → cut ≡ cut_of cuts n → p ≡ part cut h → old ≡ each_part part cuts 0 hs → new ≡ old ++ p ∷ [] → new ≡ each_part part cuts 0 (hs ++ h ∷ [])
part_more part cuts hs h n old new p cut many at is before pushed =
    pushed ∙ (λ i. before i ++ (is ∙ ap (λ (k : TableCut). part k h) at) i ∷ []) ∙ sym (part_push part cuts hs h n many)

pub count_more : (old new : List Holding) (p : Holding) (hs : List Holding) (h : Holding) → length old ≡ length hs → new ≡ old ++ p ∷ [] → length new ≡ length (hs ++ h ∷ [])
count_more old new p hs h same pushed = omega (arith, same, ap length pushed, length-append old (p ∷ []), length-append hs (h ∷ []))
