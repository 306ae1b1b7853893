-- Each note is read from its own text.
use Rattle.std.proofs.Common.{◌≡◌, ℕ, zero, suc, ◌≤◌, Bool, true, eqb, ltb, ◌&&◌, List, [], ◌∷◌}
use Rattle.std.proofs.Common.{◌++◌, length, map, Some, None, refl, sym, ap, subst, ◌∙◌}
use Rattle.std.proofs.Common.{append_assoc, arith}
use Rattle.std.specs.Prelude.{codes, not}
use Rattle.std.specs.List.{AllByRecursion, flat_map, list_all, join_by}
use Rattle.std.specs.Cmp.Derive.{both_true}
use Rattle.std.specs.Fmt.{decimal}
use Rattle.std.proofs.lemmas.List.Concat.{flat_map-cons}
use Rattle.tpal_syntax.specs.declared.notes.CarryAt.{CarryAt}
use Rattle.tpal_syntax.specs.declared.notes.CarryAt.TheVariants as carry
use Rattle.tpal_syntax.specs.Parts.{is_register, is_carry}
use Rattle.tpal_syntax.specs.Conditions.{is_renamed}
use Rattle.tpal_syntax.specs.Text.{rename_text, carry_text, carries_text}
use Rattle.tpal_syntax.specs.Readers.{Reading, ◌>>=◌, after, branch, many, with_more, rename_at}
use Rattle.tpal_syntax.specs.Readers.{next_rename_at, renames_at, carry_at, next_carry_at}
use Rattle.tpal_syntax.specs.Readers.{carries_at}
use Rattle.tpal_print.proofs.Pieces.{stops, and_left, and_right, register_comes, register_mid}
use Rattle.tpal_print.proofs.Pieces.{table_mid}

-- what is read from the text of an item, whatever follows that meets P
pub record Comes {A : Type 0} (read : Reading A) (text : A → List ℕ) (h : A → A) (P : List ℕ → Type 0) (x : A) : Type 0 where
  pub comes : (rest : List ℕ) → P rest → read (text x ++ rest) ≡ Some (h x, rest)
  pub keeps : (rest : List ℕ) → P rest → P (text x ++ rest)

flat_keeps : {A : Type 0} (read : Reading A) (text : A → List ℕ) (h : A → A) (P : List ℕ → Type 0) (xs : List A) (rest : List ℕ) → AllByRecursion (Comes read text h P) xs → P rest → P (flat_map text xs ++ rest)
flat_keeps read text h P [] rest all p = p
flat_keeps read text h P (x ∷ xs) rest all p =
    subst (λ (t : List ℕ). P t) (sym (ap (λ (t : List ℕ). t ++ rest) (flat_map-cons text x xs) ∙ append_assoc (text x) (flat_map text xs) rest))
    (all.0.keeps (flat_map text xs ++ rest) (flat_keeps read text h P xs rest all.1 p))

-- the texts of items, one after another, are read as the items
pub many_come : {A : Type 0} (read : Reading A) (text : A → List ℕ) (h : A → A) (P : List ℕ → Type 0) (n : ℕ) (xs : List A) (rest : List ℕ)
    → AllByRecursion (Comes read text h P) xs → P rest → read rest ≡ None → length xs ≤ n → many n read (flat_map text xs ++ rest) ≡ Some (map h xs, rest)
many_come read text h P zero [] rest all p none fits = refl
many_come read text h P (suc n) [] rest all p none fits = ap (with_more rest (many n read)) none
many_come read text h P zero (x ∷ xs) rest all p none fits = absurd (omega arith)
many_come read text h P (suc n) (x ∷ xs) rest all p none fits =
    let back = flat_map text xs ++ rest in
    ap (many (suc n) read) (ap (λ (t : List ℕ). t ++ rest) (flat_map-cons text x xs) ∙ append_assoc (text x) (flat_map text xs) rest)
    ∙ ap (with_more (text x ++ back) (many n read)) (all.0.comes back (flat_keeps read text h P xs rest all.1 p))
    ∙ ap (λ r. r >>= λ ys. Some (h x ∷ ys.0, ys.1)) (many_come read text h P n xs rest all.1 p none (omega arith))

map_same : {A : Type 0} (xs : List A) → map (λ x. x) xs ≡ xs
map_same [] = refl
map_same (x ∷ xs) = ap (λ ys. x ∷ ys) (map_same xs)

abbrev Stops : List ℕ → Type 0
Stops rest = stops rest ≡ true

-- ---- renamings

rename_comes : (p : ℕ × ℕ) (rest : List ℕ) → is_register p.0 ≡ true → is_register p.1 ≡ true → stops rest ≡ true → rename_at (rename_text p ++ rest) ≡ Some (p, rest)
rename_comes p rest left right s = rw (register_mid p.0 (codes " -> r" ++ decimal p.1) rest left refl, register_comes p.1 rest right s) refl

abbrev next_rename : ℕ × ℕ → List ℕ
next_rename p = codes ", " ++ rename_text p

renamed_register : (r : ℕ) → is_renamed r ≡ true → is_register r ≡ true
renamed_register r ok = and_left (is_register r) (not (eqb r 30)) (and_left (is_register r && not (eqb r 30)) (not (eqb r 31)) ok)

abbrev pub both_registers : ℕ × ℕ → Bool
both_registers p = is_register p.0 && is_register p.1

renames_all : (ps : List (ℕ × ℕ)) → list_all both_registers ps ≡ true → AllByRecursion (Comes next_rename_at next_rename (λ x. x) Stops) ps
renames_all [] ok = tt
renames_all (p ∷ ps) ok =
    let here = and_left (both_registers p) (list_all both_registers ps) ok in (
      record {
        comes = λ rest s. rename_comes p rest (and_left (is_register p.0) (is_register p.1) here) (and_right (is_register p.0) (is_register p.1) here) s;
        keeps = λ rest s. refl;
      },
      renames_all ps (and_right (both_registers p) (list_all both_registers ps) ok),
    )

pub renames_come : (n : ℕ) (ps : List (ℕ × ℕ)) (rest : List ℕ) → list_all both_registers ps ≡ true → length ps ≤ n → renames_at n (join_by rename_text (codes ", ") ps ++ (125 ∷ rest)) ≡ Some (ps, rest)
unfolding renames_at
renames_come n [] rest ok fits = refl
renames_come n (p ∷ ps) rest ok fits =
    let end = 125 ∷ rest in
    let tail = flat_map next_rename ps in
    let here = and_left (both_registers p) (list_all both_registers ps) ok in
    let all = renames_all ps (and_right (both_registers p) (list_all both_registers ps) ok) in
    let first : rename_at ((rename_text p ++ tail) ++ end) ≡ Some (p, tail ++ end) =
    ap rename_at (append_assoc (rename_text p) tail end) ∙ rename_comes p (tail ++ end) (and_left (is_register p.0) (is_register p.1) here) (and_right (is_register p.0) (is_register p.1) here) (flat_keeps next_rename_at next_rename (λ x. x) Stops ps end all refl) in
    let others : many n next_rename_at (tail ++ end) ≡ Some (ps, end) = many_come next_rename_at next_rename (λ x. x) Stops n ps end all refl refl (omega arith) ∙ ap (λ (qs : List (ℕ × ℕ)). Some (qs, end)) (map_same ps) in
    rw (first, others) refl

-- a renaming names registers
pub renamed_registers : (ps : List (ℕ × ℕ)) → list_all (λ p. is_renamed p.0 && is_renamed p.1) ps ≡ true → list_all both_registers ps ≡ true
renamed_registers [] ok = refl
renamed_registers (p ∷ ps) ok =
    let here = and_left (is_renamed p.0 && is_renamed p.1) (list_all (λ q. is_renamed q.0 && is_renamed q.1) ps) ok in
    both_true
    (both_true (renamed_register p.0 (and_left (is_renamed p.0) (is_renamed p.1) here)) (renamed_register p.1 (and_right (is_renamed p.0) (is_renamed p.1) here)))
    (renamed_registers ps (and_right (is_renamed p.0 && is_renamed p.1) (list_all (λ q. is_renamed q.0 && is_renamed q.1) ps) ok))

-- ---- carries

carry_comes : (tables : ℕ) (c : CarryAt) (rest : List ℕ) → tables ≤ 16 → is_carry tables c ≡ true → stops rest ≡ true → carry_at (carry_text c ++ rest) ≡ Some (c, rest)
carry_comes tables (carry.Rows table at) rest few ok s =
    rw (table_mid tables table (codes " rows r" ++ decimal at) rest few (and_left (ltb table tables) (is_register at) ok) refl, register_comes at rest (and_right (ltb table tables) (is_register at) ok) s) refl
carry_comes tables (carry.Cells table row at) rest few ok s =
    let okab = and_left (ltb table tables && is_register row) (is_register at) ok in
    rw (
      table_mid tables table (codes " cells r" ++ (decimal row ++ (codes " r" ++ decimal at))) rest few (and_left (ltb table tables) (is_register row) okab) refl,
      register_mid row (codes " r" ++ decimal at) rest (and_right (ltb table tables) (is_register row) okab) refl,
      register_comes at rest (and_right (ltb table tables && is_register row) (is_register at) ok) s,
    ) refl

abbrev next_carry : CarryAt → List ℕ
next_carry c = codes ", " ++ carry_text c

carries_all : (tables : ℕ) (cs : List CarryAt) → tables ≤ 16 → list_all (is_carry tables) cs ≡ true → AllByRecursion (Comes next_carry_at next_carry (λ x. x) Stops) cs
carries_all tables [] few ok = tt
carries_all tables (c ∷ cs) few ok = (
  record {
    comes = λ rest s. carry_comes tables c rest few (and_left (is_carry tables c) (list_all (is_carry tables) cs) ok) s;
    keeps = λ rest s. refl;
  },
  carries_all tables cs few (and_right (is_carry tables c) (list_all (is_carry tables) cs) ok),
)

-- no table's text begins with an `n`
carry_is_some : (c : CarryAt) (rest : List ℕ) → after (codes "none") (carry_text c ++ rest) ≡ None
carry_is_some (carry.Rows table at) rest = refl
carry_is_some (carry.Cells table row at) rest = refl

pub carries_come : (tables n : ℕ) (cs : List CarryAt) (rest : List ℕ) → tables ≤ 16 → list_all (is_carry tables) cs ≡ true → length cs ≤ n → carries_at n (carries_text cs ++ (10 ∷ rest)) ≡ Some (cs, 10 ∷ rest)
unfolding carries_at
carries_come tables n [] rest few ok fits = refl
carries_come tables n (c ∷ cs) rest few ok fits =
    let end = 10 ∷ rest in
    let tail = flat_map next_carry cs in
    let all = carries_all tables cs few (and_right (is_carry tables c) (list_all (is_carry tables) cs) ok) in
    let some : after (codes "none") ((carry_text c ++ tail) ++ end) ≡ None = ap (after (codes "none")) (append_assoc (carry_text c) tail end) ∙ carry_is_some c (tail ++ end) in
    let first : carry_at ((carry_text c ++ tail) ++ end) ≡ Some (c, tail ++ end) =
    ap carry_at (append_assoc (carry_text c) tail end) ∙ carry_comes tables c (tail ++ end) few (and_left (is_carry tables c) (list_all (is_carry tables) cs) ok) (flat_keeps next_carry_at next_carry (λ x. x) Stops cs end all refl) in
    let others : many n next_carry_at (tail ++ end) ≡ Some (cs, end) = many_come next_carry_at next_carry (λ x. x) Stops n cs end all refl refl (omega arith) ∙ ap (λ (ds : List CarryAt). Some (ds, end)) (map_same cs) in
    let step : branch (after (codes "none") ((carry_text c ++ tail) ++ end)) (λ us. Some ([], us)) (carry_at ((carry_text c ++ tail) ++ end) >>= λ d. many n next_carry_at d.1 >>= λ ds. Some (d.0 ∷ ds.0, ds.1)) ≡ Some (c ∷ cs, end) = rw (some, first, others) refl in
    step
