-- The sizes of tables, and the numbers in their cells, after a write.
use Rattle.std.proofs.Common.{◌≡◌, ◌≢◌, ℕ, ◌+◌, ◌*◌, ◌/◌, ◌%◌, ◌<◌, ◌≤◌, Bool, true, false, cond, ℤ}
use Rattle.std.proofs.Common.{pos, negsuc, List, [], ◌∷◌, length, get_or, set, None, Some, bytes_eq}
use Rattle.std.proofs.Common.{refl, ap, sym, ◌∙◌, subst, arith}
use Rattle.std.specs.Prelude.{◌&&◌, nat_lt, unsigned_abs}
use Rattle.std.proofs.lemmas.Bool.{true≢false}
use Rattle.std.proofs.lemmas.Bool.Decides.{nat_tests}
use Rattle.std.proofs.lemmas.Slice.Eq.{bytes_eq-Decides}
use Rattle.std.proofs.lemmas.List.{get_or-set_same, get_or-set_other, get_or_past, length-set}
use Rattle.std.proofs.lemmas.Nat.{div-mul-add, mod-mul-add}
use native.Mathlib.Decide.{dec_lt, ℕ_discrete}
use Rattle.tp_value.specs.declared.Table.{Table}
use Rattle.loop_meaning.specs.State.{table_of, is_below, has_cell, cell_of, cell_number, with_cell}
use Rattle.loop_meaning.specs.State.{write_cell}
use Rattle.loop_meaning.specs.Cells.{Cell}
use Rattle.loop_meaning.specs.Told.{Shape, shape_of, shapes, number_in_cell, number_at}

-- ---- the cells that a table has

-- a row and a column inside a table
record Inside (t : Table) (i j : ℤ) : Type 0 where
  pub row : ℕ
  pub col : ℕ
  pub is_row : i ≡ pos row
  pub is_col : j ≡ pos col
  pub left : col < t.cols

back_of : (x y : Bool) → (x && y) ≡ true → y ≡ true
back_of true y both = both
back_of false y both = cc

inside : (t : Table) (i j : ℤ) → has_cell t i j ≡ true → Inside t i j
inside t (pos r) (pos c) has =
    let in_cols : nat_lt c t.cols ≡ true = back_of (nat_lt r t.rows) (nat_lt c t.cols) has in
    record { row = r; col = c; is_row = refl; is_col = refl; left = grind (arith, nat_tests) }
inside t (pos r) (negsuc c) has = absurd (true≢false (sym (back_of (nat_lt r t.rows) false has)))
inside t (negsuc r) j has = absurd (true≢false (sym has))

-- cells with the same number are the same
same_cell : (t : Table) (i j a b : ℤ) → has_cell t i j ≡ true → has_cell t a b ≡ true → cell_number t a b ≡ cell_number t i j → (i ≡ a) × (j ≡ b)
same_cell t i j a b has other same = go (inside t i j has) (inside t a b other)
  where
    go : Inside t i j → Inside t a b → (i ≡ a) × (j ≡ b)
    go h k =
        let first : cell_number t a b ≡ k.row * t.cols + k.col = rw (k.is_row, k.is_col) refl in
        let second : cell_number t i j ≡ h.row * t.cols + h.col = rw (h.is_row, h.is_col) refl in
        let numbers : k.row * t.cols + k.col ≡ h.row * t.cols + h.col = sym first ∙ (same ∙ second) in
        let rows : k.row ≡ h.row = sym (div-mul-add k.row t.cols k.col k.left) ∙ (ap (λ n. n / t.cols) numbers ∙ div-mul-add h.row t.cols h.col h.left) in
        let cols : k.col ≡ h.col = sym (mod-mul-add k.row t.cols k.col k.left) ∙ (ap (λ n. n % t.cols) numbers ∙ mod-mul-add h.row t.cols h.col h.left) in
        (h.is_row ∙ sym (k.is_row ∙ ap pos rows), h.is_col ∙ sym (k.is_col ∙ ap pos cols))

-- ---- one table

pub has_same : (t u : Table) (i j : ℤ) → shape_of t ≡ shape_of u → has_cell t i j ≡ has_cell u i j
has_same t u i j h = ap (λ (s : Shape). is_below i s.rows && is_below j s.cols) h

cell_same : (t u : Table) (i j : ℤ) → shape_of t ≡ shape_of u → cell_number t i j ≡ cell_number u i j
cell_same t u i j h = ap (λ (s : Shape). unsigned_abs i * s.cols + unsigned_abs j) h

-- the number there, where the table has the cell
number_there : (t : Table) (i j : ℤ) → has_cell t i j ≡ true → number_in_cell t i j ≡ Some (cell_of t i j)
number_there t i j h = rw h refl

number_missing : (t : Table) (i j : ℤ) → has_cell t i j ≡ false → number_in_cell t i j ≡ None
number_missing t i j h = rw h refl

-- another cell keeps its number
kept_number : (t : Table) (i j n a b : ℤ) → has_cell t i j ≡ true → ((i ≡ a) × (j ≡ b) → ⊥) → number_in_cell (with_cell t i j n) a b ≡ number_in_cell t a b
kept_number t i j n a b has d = go (has_cell t a b) refl
  where
    go : (c : Bool) → has_cell t a b ≡ c → number_in_cell (with_cell t i j n) a b ≡ number_in_cell t a b
    go true e =
        let apart : cell_number t a b ≢ cell_number t i j = λ (q : cell_number t a b ≡ cell_number t i j). d (same_cell t i j a b has e q) in
        number_there (with_cell t i j n) a b e ∙ ap Some (get_or-set_other t.cells (cell_number t i j) (cell_number t a b) n (pos 0) apart) ∙ sym (number_there t a b e)
    go false e = number_missing (with_cell t i j n) a b e ∙ sym (number_missing t a b e)

-- what is set there hangs on the length alone
set_alike : (cs ds : List ℤ) (k m : ℕ) (n : ℤ) → length cs ≡ length ds → k ≡ m → get_or (set cs k n) k (pos 0) ≡ get_or (set ds m n) m (pos 0)
set_alike cs ds k m n l e = go (dec_lt k (length cs))
  where
    go : Dec (k < length cs) → get_or (set cs k n) k (pos 0) ≡ get_or (set ds m n) m (pos 0)
    go (yes h) = get_or-set_same cs k n (pos 0) h ∙ sym (get_or-set_same ds m n (pos 0) (omega arith))
    go (no h) =
        let past : length (set cs k n) ≤ k = omega (arith, length-set cs k n) in
        let beyond : length (set ds m n) ≤ m = omega (arith, length-set ds m n) in
        get_or_past (set cs k n) k (pos 0) past ∙ sym (get_or_past (set ds m n) m (pos 0) beyond)

set_number : (t u : Table) (i j n : ℤ) → shape_of t ≡ shape_of u → cell_of (with_cell t i j n) i j ≡ cell_of (with_cell u i j n) i j
set_number t u i j n h = set_alike t.cells u.cells (cell_number t i j) (cell_number u i j) n (ap (λ (s : Shape). s.count) h) (cell_same t u i j h)

written_number : (t u : Table) (i j n : ℤ) → shape_of t ≡ shape_of u → has_cell t i j ≡ true → number_in_cell (with_cell t i j n) i j ≡ number_in_cell (with_cell u i j n) i j
written_number t u i j n h has =
    number_there (with_cell t i j n) i j has ∙ ap Some (set_number t u i j n h) ∙ sym (number_there (with_cell u i j n) i j (sym (has_same t u i j h) ∙ has))

some_is : (m n : ℤ) → Some m ≡ Some n → m ≡ n
some_is m n e = cc

-- a cell with one number in both has one number in both after a write to both
alike_number : (t u : Table) (i j n a b : ℤ) → shape_of t ≡ shape_of u → has_cell t i j ≡ true → number_in_cell t a b ≡ number_in_cell u a b → number_in_cell (with_cell t i j n) a b ≡ number_in_cell (with_cell u i j n) a b
alike_number t u i j n a b h has same = go (has_cell t a b) refl
  where
    go : (c : Bool) → has_cell t a b ≡ c → number_in_cell (with_cell t i j n) a b ≡ number_in_cell (with_cell u i j n) a b
    go false e = number_missing (with_cell t i j n) a b e ∙ sym (number_missing (with_cell u i j n) a b (sym (has_same t u a b h) ∙ e))
    go true e =
        let f : has_cell u a b ≡ true = sym (has_same t u a b h) ∙ e in
        let cells : cell_of t a b ≡ cell_of u a b = some_is (cell_of t a b) (cell_of u a b) (sym (number_there t a b e) ∙ same ∙ number_there u a b f) in
        number_there (with_cell t i j n) a b e ∙ ap Some (value cells (ℕ_discrete (cell_number t a b) (cell_number t i j))) ∙ sym (number_there (with_cell u i j n) a b f)
      where
        value : cell_of t a b ≡ cell_of u a b → Dec (cell_number t a b ≡ cell_number t i j) → cell_of (with_cell t i j n) a b ≡ cell_of (with_cell u i j n) a b
        value cells (yes q) =
            let r : cell_number u a b ≡ cell_number u i j = sym (cell_same t u a b h) ∙ q ∙ cell_same t u i j h in
            ap (λ k. get_or (set t.cells (cell_number t i j) n) k (pos 0)) q ∙ set_number t u i j n h ∙ sym (ap (λ k. get_or (set u.cells (cell_number u i j) n) k (pos 0)) r)
        value cells (no d) =
            let r : cell_number u a b ≢ cell_number u i j = λ (q : cell_number u a b ≡ cell_number u i j). d (cell_same t u a b h ∙ q ∙ sym (cell_same t u i j h)) in
            get_or-set_other t.cells (cell_number t i j) (cell_number t a b) n (pos 0) d ∙ cells ∙ sym (get_or-set_other u.cells (cell_number u i j) (cell_number u a b) n (pos 0) r)

-- ---- a list of tables

table_written : (ts : List Table) (x : List ℕ) (i j n : ℤ) → table_of (write_cell ts x i j n) x ≡ with_cell (table_of ts x) i j n
table_written [] x i j n = refl
table_written (t ∷ ts) x i j n = go (bytes_eq t.name x) refl (table_written ts x i j n)
  where
    go : (b : Bool) → bytes_eq t.name x ≡ b → table_of (write_cell ts x i j n) x ≡ with_cell (table_of ts x) i j n
        → table_of (cond b (with_cell t i j n ∷ ts) (t ∷ write_cell ts x i j n)) x ≡ with_cell (cond b t (table_of ts x)) i j n
    go true e r = rw e refl
    go false e r = rw e r

table_other : (ts : List Table) (x y : List ℕ) (i j n : ℤ) → bytes_eq x y ≡ false → table_of (write_cell ts x i j n) y ≡ table_of ts y
table_other [] x y i j n d = refl
table_other (t ∷ ts) x y i j n d = go (bytes_eq t.name x) refl (table_other ts x y i j n d)
  where
    go : (b : Bool) → bytes_eq t.name x ≡ b → table_of (write_cell ts x i j n) y ≡ table_of ts y → table_of (cond b (with_cell t i j n ∷ ts) (t ∷ write_cell ts x i j n)) y ≡ cond (bytes_eq t.name y) t (table_of ts y)
    go true e r =
        let f : bytes_eq t.name y ≡ false = subst (λ z. bytes_eq z y ≡ false) (sym ((bytes_eq-Decides t.name x).0 e)) d in
        rw f refl
    go false e r = ap (cond (bytes_eq t.name y) t) r

pub shapes_written : (ts : List Table) (x : List ℕ) (i j n : ℤ) → shapes (write_cell ts x i j n) ≡ shapes ts
shapes_written [] x i j n = refl
shapes_written (t ∷ ts) x i j n = go (bytes_eq t.name x) (shapes_written ts x i j n)
  where
    go : (b : Bool) → shapes (write_cell ts x i j n) ≡ shapes ts → shapes (cond b (with_cell t i j n ∷ ts) (t ∷ write_cell ts x i j n)) ≡ shape_of t ∷ shapes ts
    go true r = ap (λ l. record { name = t.name; rows = t.rows; cols = t.cols; count = l } ∷ shapes ts) (length-set t.cells (cell_number t i j) n)
    go false r = ap (λ l. shape_of t ∷ l) r

pub shape_at : (ts us : List Table) (x : List ℕ) → shapes ts ≡ shapes us → shape_of (table_of ts x) ≡ shape_of (table_of us x)
shape_at [] [] x h = refl
shape_at [] (u ∷ us) x h = cc
shape_at (t ∷ ts) [] x h = cc
shape_at (t ∷ ts) (u ∷ us) x h =
    let first : shape_of t ≡ shape_of u = cc in
    let rest : shapes ts ≡ shapes us = cc in
    let name : t.name ≡ u.name = ap (λ (s : Shape). s.name) first in
    ap (λ z. shape_of (cond (bytes_eq z x) t (table_of ts x))) name ∙ go (bytes_eq u.name x) first (shape_at ts us x rest)
  where
    go : (b : Bool) → shape_of t ≡ shape_of u → shape_of (table_of ts x) ≡ shape_of (table_of us x) → shape_of (cond b t (table_of ts x)) ≡ shape_of (cond b u (table_of us x))
    go true f r = f
    go false f r = r

pub has_at : (ts us : List Table) (x : List ℕ) (i j : ℤ) → shapes ts ≡ shapes us → has_cell (table_of ts x) i j ≡ has_cell (table_of us x) i j
has_at ts us x i j h = has_same (table_of ts x) (table_of us x) i j (shape_at ts us x h)

-- the number that was read there is the number there
pub read_alike : (ts us : List Table) (x : List ℕ) (i j : ℤ) → shapes ts ≡ shapes us → has_cell (table_of ts x) i j ≡ true → number_at ts (record { table = x; row = i; col = j }) ≡ number_at us (record { table = x; row = i; col = j })
    → cell_of (table_of ts x) i j ≡ cell_of (table_of us x) i j
read_alike ts us x i j h has same =
    some_is _ _ (sym (number_there (table_of ts x) i j has) ∙ same ∙ number_there (table_of us x) i j (sym (has_at ts us x i j h) ∙ has))

-- another cell keeps its number
pub number_kept : (ts : List Table) (x : List ℕ) (i j n : ℤ) (c : Cell) → has_cell (table_of ts x) i j ≡ true → (record { table = x; row = i; col = j } ≡ c → ⊥) → number_at (write_cell ts x i j n) c ≡ number_at ts c
number_kept ts x i j n c has d = go (bytes_eq x c.table) refl
  where
    go : (b : Bool) → bytes_eq x c.table ≡ b → number_at (write_cell ts x i j n) c ≡ number_at ts c
    go true e =
        let same : x ≡ c.table = (bytes_eq-Decides x c.table).0 e in
        subst (λ y. number_in_cell (table_of (write_cell ts x i j n) y) c.row c.col ≡ number_in_cell (table_of ts y) c.row c.col) same
        (ap (λ t. number_in_cell t c.row c.col) (table_written ts x i j n)
        ∙ kept_number (table_of ts x) i j n c.row c.col has (λ q. d (λ k. record { table = same k; row = q.0 k; col = q.1 k })))
    go false e = ap (λ t. number_in_cell t c.row c.col) (table_other ts x c.table i j n e)

-- what is written to both is in both
pub number_set : (ts us : List Table) (x : List ℕ) (i j n : ℤ) → shapes ts ≡ shapes us → has_cell (table_of ts x) i j ≡ true
    → number_at (write_cell ts x i j n) (record { table = x; row = i; col = j }) ≡ number_at (write_cell us x i j n) (record { table = x; row = i; col = j })
number_set ts us x i j n h has =
    ap (λ t. number_in_cell t i j) (table_written ts x i j n) ∙ written_number (table_of ts x) (table_of us x) i j n (shape_at ts us x h) has
    ∙ sym (ap (λ t. number_in_cell t i j) (table_written us x i j n))

-- a cell with one number in both has one number in both after a write to both
pub number_alike : (ts us : List Table) (x : List ℕ) (i j n : ℤ) (c : Cell) → shapes ts ≡ shapes us → has_cell (table_of ts x) i j ≡ true → number_at ts c ≡ number_at us c → number_at (write_cell ts x i j n) c ≡ number_at (write_cell us x i j n) c
number_alike ts us x i j n c h has same = go (bytes_eq x c.table) refl
  where
    go : (b : Bool) → bytes_eq x c.table ≡ b → number_at (write_cell ts x i j n) c ≡ number_at (write_cell us x i j n) c
    go true e =
        let q : c.table ≡ x = sym ((bytes_eq-Decides x c.table).0 e) in
        let here : number_in_cell (table_of ts x) c.row c.col ≡ number_in_cell (table_of us x) c.row c.col = subst (λ y. number_in_cell (table_of ts y) c.row c.col ≡ number_in_cell (table_of us y) c.row c.col) q same in
        subst (λ y. number_in_cell (table_of (write_cell ts x i j n) y) c.row c.col ≡ number_in_cell (table_of (write_cell us x i j n) y) c.row c.col) (sym q)
        (ap (λ t. number_in_cell t c.row c.col) (table_written ts x i j n)
        ∙ alike_number (table_of ts x) (table_of us x) i j n c.row c.col (shape_at ts us x h) has here
        ∙ sym (ap (λ t. number_in_cell t c.row c.col) (table_written us x i j n)))
    go false e =
        ap (λ t. number_in_cell t c.row c.col) (table_other ts x c.table i j n e) ∙ same ∙ sym (ap (λ t. number_in_cell t c.row c.col) (table_other us x c.table i j n e))

-- and so has a table that is the same in both
pub table_alike : (ts us : List Table) (x y : List ℕ) (i j n : ℤ) → table_of ts y ≡ table_of us y → table_of (write_cell ts x i j n) y ≡ table_of (write_cell us x i j n) y
table_alike ts us x y i j n same = go (bytes_eq x y) refl
  where
    go : (b : Bool) → bytes_eq x y ≡ b → table_of (write_cell ts x i j n) y ≡ table_of (write_cell us x i j n) y
    go true e =
        let q : x ≡ y = (bytes_eq-Decides x y).0 e in
        let here : table_of ts x ≡ table_of us x = subst (λ z. table_of ts z ≡ table_of us z) (sym q) same in
        subst (λ z. table_of (write_cell ts x i j n) z ≡ table_of (write_cell us x i j n) z) q
        (table_written ts x i j n ∙ ap (λ t. with_cell t i j n) here ∙ sym (table_written us x i j n))
    go false e = table_other ts x y i j n e ∙ same ∙ sym (table_other us x y i j n e)
