-- Tables that agree on some of their cells.
use Rattle.frame_machine.proofs.Bends.{name_is}
use Rattle.frame_machine.specs.Parts.{AgreeAt, AgreeOn, Cells}
use Rattle.loop_meaning.specs.State.{cell_number, cell_of, has_cell, table_of, with_cell}
use Rattle.loop_meaning.specs.State.{write_cell}
use Rattle.std.proofs.Common.{Bool, List, [], ap, arith, bytes_eq, cond, false, get_or, inl, inr}
use Rattle.std.proofs.Common.{length, pos, refl, set, subst, sym, true, unsigned_abs, ℕ, ℤ, ⊎_elim}
use Rattle.std.proofs.Common.{◌*◌, ◌+◌, ◌<◌, ◌∙◌, ◌∷◌, ◌≡◌, ◌≤◌, ◌⊎◌}
use Rattle.std.proofs.lemmas.Bool.{cases_eq}
use Rattle.std.proofs.lemmas.List.{get_or-set_other, get_or-set_same, get_or_past, length-set}
use Rattle.std.proofs.lemmas.Slice.Eq.{bytes_eq-Decides}
use Rattle.tp_value.specs.declared.Table.{Table}
use native.Mathlib.Decide.{dec_lt}

pub agree_refl : (A : Cells) (us : List Table) → AgreeOn A us us
agree_refl A us x = record { rows = refl; cols = refl; size = refl; cells = λ i j a h. refl }

pub agree_has : (A : ℤ → ℤ → Type 0) (a b : Table) (i j : ℤ) → AgreeAt A a b → has_cell b i j ≡ has_cell a i j
agree_has A a b i j s = rw (s.rows, s.cols) refl

pub agree_sym : (A : Cells) (us vs : List Table) → AgreeOn A us vs → AgreeOn A vs us
agree_sym A us vs h x = record {
  rows = sym (h x).rows;
  cols = sym (h x).cols;
  size = sym (h x).size;
  cells = λ i j a g. sym ((h x).cells i j a (sym (agree_has (A x) (table_of us x) (table_of vs x) i j (h x)) ∙ g));
}

pub agree_trans : (A : Cells) (us vs ws : List Table) → AgreeOn A us vs → AgreeOn A vs ws → AgreeOn A us ws
agree_trans A us vs ws p q x = record {
  rows = (q x).rows ∙ (p x).rows;
  cols = (q x).cols ∙ (p x).cols;
  size = (q x).size ∙ (p x).size;
  cells = λ i j a h. (q x).cells i j a (agree_has (A x) (table_of us x) (table_of vs x) i j (p x) ∙ h) ∙ (p x).cells i j a h;
}

-- what is written to, among tables
pub table_written : (ts : List Table) (x : List ℕ) (i j n : ℤ) → table_of (write_cell ts x i j n) x ≡ with_cell (table_of ts x) i j n
table_written [] x i j n = refl
table_written (t ∷ ts) x i j n = go (bytes_eq t.name x) refl (table_written ts x i j n)
  where
    go : (b : Bool) → bytes_eq t.name x ≡ b → table_of (write_cell ts x i j n) x ≡ with_cell (table_of ts x) i j n → table_of (write_cell (t ∷ ts) x i j n) x ≡ with_cell (table_of (t ∷ ts) x) i j n
    go true e r = rw (e, e) refl
    go false e r = rw (e, e) r

pub table_other : (ts : List Table) (x y : List ℕ) (i j n : ℤ) → (x ≡ y → ⊥) → table_of (write_cell ts x i j n) y ≡ table_of ts y
table_other [] x y i j n h = refl
table_other (t ∷ ts) x y i j n h = go (bytes_eq t.name x) refl (table_other ts x y i j n h)
  where
    two : (b : Bool) → bytes_eq t.name y ≡ b → t.name ≡ x → cond b (with_cell t i j n) (table_of ts y) ≡ cond b t (table_of ts y)
    two true e f = absurd (h (sym f ∙ name_is t.name y e))
    two false e f = refl

    go : (b : Bool) → bytes_eq t.name x ≡ b → table_of (write_cell ts x i j n) y ≡ table_of ts y → table_of (write_cell (t ∷ ts) x i j n) y ≡ table_of (t ∷ ts) y
    go true e r = rw e (two (bytes_eq t.name y) refl (name_is t.name x e))
    go false e r = rw e (ap (λ w. cond (bytes_eq t.name y) t w) r)

-- two lists that agree at k, after one more number is set in both
set_both : (us vs : List ℤ) (p k : ℕ) (n : ℤ) → length vs ≡ length us → get_or vs k (pos 0) ≡ get_or us k (pos 0) → get_or (set vs p n) k (pos 0) ≡ get_or (set us p n) k (pos 0)
set_both us vs p k n l e = ⊎_elim
    (λ (q : k ≡ p). at q (dec_lt p (length us)))
    (λ (q : k ≡ p → ⊥). get_or-set_other vs p k n (pos 0) q ∙ e ∙ sym (get_or-set_other us p k n (pos 0) q))
    (cases_eq k p)
  where
    at : k ≡ p → Dec (p < length us) → get_or (set vs p n) k (pos 0) ≡ get_or (set us p n) k (pos 0)
    at q (yes h) =
        ap (λ m. get_or (set vs p n) m (pos 0)) q ∙ get_or-set_same vs p n (pos 0) (subst (λ m. p < m) (sym l) h)
        ∙ sym (ap (λ m. get_or (set us p n) m (pos 0)) q ∙ get_or-set_same us p n (pos 0) h)
    at q (no h) =
        let a : length (set us p n) ≤ k = rw (length-set us p n) (omega (arith, q)) in
        let b : length (set vs p n) ≤ k = rw (length-set vs p n) (omega (arith, q, l)) in
        get_or_past (set vs p n) k (pos 0) b ∙ sym (get_or_past (set us p n) k (pos 0) a)

pub agree_with : (A : ℤ → ℤ → Type 0) (a b : Table) (i j n : ℤ) → AgreeAt A a b → AgreeAt A (with_cell a i j n) (with_cell b i j n)
agree_with A a b i j n s = record {
  rows = s.rows;
  cols = s.cols;
  size = length-set b.cells (cell_number b i j) n ∙ s.size ∙ sym (length-set a.cells (cell_number a i j) n);
  cells = λ k l p h. rw (s.cols) (set_both a.cells b.cells (unsigned_abs i * a.cols + unsigned_abs j) (unsigned_abs k * a.cols + unsigned_abs l) n s.size (subst (λ c. get_or b.cells (unsigned_abs k * c + unsigned_abs l) (pos 0) ≡ cell_of a k l) s.cols (s.cells k l p h)));
}

pub agree_write : (A : Cells) (us vs : List Table) (x : List ℕ) (i j n : ℤ) → AgreeOn A us vs → AgreeOn A (write_cell us x i j n) (write_cell vs x i j n)
agree_write A us vs x i j n s y = ⊎_elim
    (λ (q : bytes_eq x y ≡ true). at (name_is x y q))
    (λ (q : x ≡ y → ⊥). subst (λ t. AgreeAt (A y) t (table_of (write_cell vs x i j n) y)) (sym (table_other us x y i j n q)) (subst (λ t. AgreeAt (A y) (table_of us y) t) (sym (table_other vs x y i j n q)) (s y)))
    (decide (bytes_eq x y) refl)
  where
    decide : (b : Bool) → bytes_eq x y ≡ b → (bytes_eq x y ≡ true) ⊎ (x ≡ y → ⊥)
    decide true e = inl e
    decide false e = inr (λ q. absurd (true_false (sym (same_name x y q) ∙ e)))
      where
        true_false : true ≡ false → ⊥
        true_false q = cc

        same_name : (a b : List ℕ) → a ≡ b → bytes_eq a b ≡ true
        same_name a b q = (bytes_eq-Decides a b).1 q

    at : x ≡ y → AgreeAt (A y) (table_of (write_cell us x i j n) y) (table_of (write_cell vs x i j n) y)
    at q = subst (λ z. AgreeAt (A z) (table_of (write_cell us x i j n) z) (table_of (write_cell vs x i j n) z)) q
        (subst (λ t. AgreeAt (A x) t (table_of (write_cell vs x i j n) x)) (sym (table_written us x i j n))
        (subst (λ t. AgreeAt (A x) (with_cell (table_of us x) i j n) t) (sym (table_written vs x i j n)) (agree_with (A x) (table_of us x) (table_of vs x) i j n (s x))))
