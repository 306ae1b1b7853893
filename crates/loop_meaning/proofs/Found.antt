-- What a search from the front finds.
use Rattle.std.proofs.Common.{◌≡◌, ℕ, zero, suc, ◌<◌, ◌≤◌, ℤ, List, [], ◌∷◌, ◌++◌, true, false}
use Rattle.std.proofs.Common.{length, get_or, take, drop, set, refl, Some, ap, subst, bytes_eq}
use Rattle.std.proofs.Common.{drop-cons, arith, sym, ◌∙◌, Bool, if◌then◌else◌, ◌-◌, ◌+◌, min}
use Rattle.std.proofs.lemmas.List.{get_or_default, set-get_or, take_min, drop_min}
use Rattle.tp_value.specs.declared.Table.{Table}
use Rattle.loop_meaning.specs.declared.value.Variable.{Variable}
use Rattle.loop_meaning.specs.State.{lookup, assign, table_of, write_cell, with_cell, has_cell}
use Rattle.loop_meaning.specs.State.{row_lines}
use Rattle.table_text.specs.RowText.{row_text}
use Rattle.loop_rules.specs.Names.{operator_of}
use Rattle.loop_syntax.specs.declared.Reduce.{Reduce}

pub lookup_found : (vs : List Variable) (x : List ℕ) (i : ℕ) (v : Variable) → i < length vs → v ≡ get_or vs i v → bytes_eq v.name x ≡ true → lookup (drop i vs) x ≡ v.value
lookup_found vs x i v h is e = rw (drop-cons vs i v h, ← is, e) refl

pub lookup_passed : (vs : List Variable) (x : List ℕ) (i : ℕ) (v : Variable) → i < length vs → v ≡ get_or vs i v → bytes_eq v.name x ≡ false → lookup (drop (suc i) vs) x ≡ lookup (drop i vs) x
lookup_passed vs x i v h is e = rw (drop-cons vs i v h, ← is, e) refl

pub table_found : (ts : List Table) (x : List ℕ) (i : ℕ) (t : Table) → i < length ts → t ≡ get_or ts i t → bytes_eq t.name x ≡ true → table_of (drop i ts) x ≡ t
table_found ts x i t h is e = rw (drop-cons ts i t h, ← is, e) refl

pub assign_found : (vs : List Variable) (x : List ℕ) (n : ℤ) (i : ℕ) (v d : Variable) → i < length vs → v ≡ get_or vs i v → bytes_eq v.name x ≡ true → take i vs ++ assign (drop i vs) x n ≡ set vs i (record { name = (get_or vs i d).name; value = n })
assign_found [] x n i v d h is e = absurd (omega arith)
assign_found (u ∷ vs) x n zero v d h is e = rw (subst (λ w. bytes_eq w.name x ≡ true) is e) refl
assign_found (u ∷ vs) x n (suc i) v d h is e = ap (λ r. u ∷ r) (assign_found vs x n i v d (omega arith) is e)

pub assign_passed : (vs : List Variable) (x : List ℕ) (n : ℤ) (i : ℕ) (v : Variable) → i < length vs → v ≡ get_or vs i v → bytes_eq v.name x ≡ false → take (suc i) vs ++ assign (drop (suc i) vs) x n ≡ take i vs ++ assign (drop i vs) x n
assign_passed [] x n i v h is e = absurd (omega arith)
assign_passed (u ∷ vs) x n zero v h is e = rw (subst (λ w. bytes_eq w.name x ≡ false) is e) refl
assign_passed (u ∷ vs) x n (suc i) v h is e = ap (λ r. u ∷ r) (assign_passed vs x n i v (omega arith) is e)

pub assign_end : (vs : List Variable) (x : List ℕ) (n : ℤ) (i : ℕ) → length vs ≤ i → take i vs ++ assign (drop i vs) x n ≡ vs
assign_end [] x n zero h = refl
assign_end [] x n (suc i) h = refl
assign_end (u ∷ vs) x n zero h = absurd (omega arith)
assign_end (u ∷ vs) x n (suc i) h = ap (λ r. u ∷ r) (assign_end vs x n i (omega arith))

pub operator_found : (rs : List Reduce) (x : List ℕ) (i : ℕ) (r : Reduce) → i < length rs → r ≡ get_or rs i r → bytes_eq r.target.text.items x ≡ true → operator_of (drop i rs) x ≡ Some r.op
operator_found rs x i r h is e = rw (drop-cons rs i r h, ← is, e) refl

pub write_found : (ts : List Table) (x : List ℕ) (i j n : ℤ) (k : ℕ) (t d : Table) → k < length ts → t ≡ get_or ts k t → bytes_eq t.name x ≡ true → take k ts ++ write_cell (drop k ts) x i j n ≡ set ts k (with_cell (get_or ts k d) i j n)
write_found [] x i j n k t d h is e = absurd (omega arith)
write_found (u ∷ ts) x i j n zero t d h is e = rw (subst (λ w. bytes_eq w.name x ≡ true) is e) refl
write_found (u ∷ ts) x i j n (suc k) t d h is e = ap (λ r. u ∷ r) (write_found ts x i j n k t d (omega arith) is e)

pub write_passed : (ts : List Table) (x : List ℕ) (i j n : ℤ) (k : ℕ) (t : Table) → k < length ts → t ≡ get_or ts k t → bytes_eq t.name x ≡ false → take (suc k) ts ++ write_cell (drop (suc k) ts) x i j n ≡ take k ts ++ write_cell (drop k ts) x i j n
write_passed [] x i j n k t h is e = absurd (omega arith)
write_passed (u ∷ ts) x i j n zero t h is e = rw (subst (λ w. bytes_eq w.name x ≡ false) is e) refl
write_passed (u ∷ ts) x i j n (suc k) t h is e = ap (λ r. u ∷ r) (write_passed ts x i j n k t (omega arith) is e)

-- the tables after a write to the one that was found
pub put_after : (ts t0 : List Table) (x : List ℕ) (i j n : ℤ) (k : ℕ) (t d u : Table) → k < length ts → t ≡ get_or ts k t → bytes_eq t.name x ≡ true → table_of (drop k ts) x ≡ table_of t0 x → take k ts ++ write_cell (drop k ts) x i j n ≡ write_cell t0 x i j n → ts ≡ t0 → u ≡ (if has_cell (get_or ts k d) i j then with_cell (get_or ts k d) i j n else get_or ts k d) → set ts k u ≡ (if has_cell (table_of t0 x) i j then write_cell t0 x i j n else t0)
put_after ts t0 x i j n k t d u h is e p q r m =
    let same : get_or ts k d ≡ table_of t0 x = get_or_default ts k d t h ∙ sym is ∙ sym (table_found ts x k t h is e) ∙ p in
    ap (set ts k) m ∙ go (has_cell (get_or ts k d) i j)
    ∙ ap (λ w. if has_cell w i j then write_cell t0 x i j n else t0) same
  where
    go : (b : Bool) → set ts k (if b then with_cell (get_or ts k d) i j n else get_or ts k d) ≡ (if b then write_cell t0 x i j n else t0)
    go true = sym (write_found ts x i j n k t d h is e) ∙ q
    go false = set-get_or ts k d ∙ r

pub rows_step : (rows k cols : ℕ) (rest : List ℤ) → k < rows → row_lines (rows - k) cols rest ≡ row_text (take (min cols (length rest)) rest) ++ row_lines (rows - (k + 1)) cols (drop (min cols (length rest)) rest)
rows_step rows k cols rest h =
    let q : rows - k ≡ suc (rows - (k + 1)) = omega arith in
    rw (q, take_min cols rest) (ap (λ r. row_text (take cols rest) ++ row_lines (rows - (k + 1)) cols r) (sym (drop_min cols rest)))
