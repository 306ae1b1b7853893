-- What a side hands over.
use Rattle.std.proofs.Common.{◌≡◌, ◌≢◌, ℕ, ◌+◌, true, ◌<◌, List, [], ◌∷◌, ◌++◌, length, drop}
use Rattle.std.proofs.Common.{get_or, refl, ap, sym, subst, ◌∙◌, arith, append_assoc, add-one}
use Rattle.std.proofs.Math.Seq.{drop-cons}
use Rattle.std.proofs.lemmas.Bool.Decides.{nat_tests}
use Rattle.std.proofs.lemmas.List.{get_or-set_other}
use Rattle.std.specs.Prelude.{IsTrue, ◌&&◌, not, nat_eq, slice_set}
use Rattle.std.specs.List.{list_all}
use Rattle.slices.specs.Holding.{Holding, own}
use Rattle.tpal_syntax.specs.declared.notes.CarryAt.{CarryAt}
use Rattle.tpal_syntax.specs.Conditions.{are_distinct_tables}
use Rattle.tpal_syntax.specs.Parts.{table_of}
use Rattle.tpal_machine.specs.Ended.{slices_of}
use Rattle.tpal_machine.specs.Reading.{table_at, no_cells}
use Rattle.tpal_machine.proofs.Parting.{left_true, right_true}

apart : (a b : ℕ) → not (nat_eq a b) ≡ true → b ≢ a
apart a b is = grind (arith, nat_tests)

-- what is handed over of other tables than one
kept : (tables : List Holding) (t : ℕ) (h : Holding) (cs : List CarryAt) → list_all (λ d. not (nat_eq t (table_of d))) cs ≡ true → slices_of (slice_set tables t h) cs ≡ slices_of tables cs
kept tables t h [] differ = refl
kept tables t h (c ∷ cs) differ =
    ap (λ g. (table_of c, own g) ∷ slices_of (slice_set tables t h) cs) (get_or-set_other tables t (table_of c) h no_cells (apart t (table_of c) (left_true _ _ differ)))
    ∙ ap (λ l. (table_of c, own (table_at tables (table_of c))) ∷ l) (kept tables t h cs (right_true _ _ differ))

-- one table more
pub handed_more : (tables : List Holding) (items cs : List CarryAt) (c : CarryAt) → items ≡ c ∷ cs → IsTrue (are_distinct_tables items) → slices_of tables items ≡ (table_of c, own (table_at tables (table_of c))) ∷ slices_of (slice_set tables (table_of c) no_cells) cs
handed_more tables items cs c first differ =
    let all : (list_all (λ d. not (nat_eq (table_of c) (table_of d))) cs && are_distinct_tables cs) ≡ true = subst (λ (l : List CarryAt). IsTrue (are_distinct_tables l)) first differ in
    ap (slices_of tables) first
    ∙ ap (λ l. (table_of c, own (table_at tables (table_of c))) ∷ l) (sym (kept tables (table_of c) no_cells cs (left_true _ _ all)))

pub distinct_more : (items cs : List CarryAt) (c : CarryAt) → items ≡ c ∷ cs → IsTrue (are_distinct_tables items) → IsTrue (are_distinct_tables cs)
distinct_more items cs c first differ =
    right_true (list_all (λ d. not (nat_eq (table_of c) (table_of d))) cs) (are_distinct_tables cs) (subst (λ (l : List CarryAt). IsTrue (are_distinct_tables l)) first differ)

at_place : (carries : List CarryAt) (i : ℕ) (d : CarryAt) → i < length carries → drop i carries ≡ get_or carries i d ∷ drop (i + 1) carries
at_place carries i d inside = drop-cons carries i d inside ∙ ap (λ (n : ℕ). get_or carries i d ∷ drop n carries) (sym (add-one i))

-- one step of handing over
pub handed_step : (all finished new : List (ℕ × Holding)) (tables after : List Holding) (carries : List CarryAt) (i : ℕ) (d : CarryAt) (t : ℕ) (taken owned : Holding) → all ≡ finished ++ slices_of tables (drop i carries) → IsTrue (are_distinct_tables (drop i carries)) → i < length carries → t ≡ table_of (get_or carries i d) → taken ≡ table_at tables t → after ≡ slice_set tables t no_cells → owned ≡ own taken → new ≡ finished ++ (t, owned) ∷ [] → all ≡ new ++ slices_of after (drop (i + 1) carries)
handed_step all finished new tables after carries i d t taken owned before differ inside named took left owns pushed =
    let c = get_or carries i d in
    let rest = drop (i + 1) carries in
    before
    ∙ ap (λ l. finished ++ l) (handed_more tables (drop i carries) rest c (at_place carries i d inside) differ)
    ∙ sym (append_assoc finished ((table_of c, own (table_at tables (table_of c))) ∷ []) (slices_of (slice_set tables (table_of c) no_cells) rest))
    ∙ (λ j. (finished ++ (sym named j, own (table_at tables (sym named j))) ∷ []) ++ slices_of (slice_set tables (sym named j) no_cells) rest)
    ∙ (λ j. (finished ++ (t, sym (owns ∙ ap own took) j) ∷ []) ++ slices_of (sym left j) rest)
    ∙ ap (λ l. l ++ slices_of after rest) (sym pushed)

pub distinct_step : (carries : List CarryAt) (i : ℕ) (d : CarryAt) → i < length carries → IsTrue (are_distinct_tables (drop i carries)) → IsTrue (are_distinct_tables (drop (i + 1) carries))
distinct_step carries i d inside differ = distinct_more (drop i carries) (drop (i + 1) carries) (get_or carries i d) (at_place carries i d inside) differ
