-- What the rules on tables say of the modes in the body of a `par`.
use Rattle.std.proofs.Common.{◌≡◌, ℕ, ℤ, List, [], ◌∷◌, Option, Some, None, refl, sym, ap, subst}
use Rattle.std.proofs.Common.{◌∙◌, Bool, true, false, cond, ◌&&◌, not, bytes_eq, inl, inr}
use Rattle.std.proofs.lemmas.Bool.Decides.{Decides-int_eq}
use Rattle.loop_syntax.specs.declared.Name.{Name}
use Rattle.loop_syntax.specs.declared.Expr.{Expr}
use Rattle.loop_syntax.specs.declared.Expr.TheVariants.{Int, Var, Cell', Rows, Cols, Neg', Bin'}
use Rattle.loop_syntax.specs.declared.RowAt.{RowAt}
use Rattle.loop_syntax.specs.declared.RowAt.TheVariants as row
use Rattle.loop_syntax.specs.declared.Carry.{Carry}
use Rattle.loop_syntax.specs.declared.Carry.TheVariants as carry
use Rattle.loop_rules.specs.Names.{is_in, item_of}
use Rattle.loop_rules.specs.Carries.{is_some_item, carries, is_var, is_int, is_row, fits, fits_some}
use Rattle.loop_rules.specs.Carries.{has_shape, bad_write, bad_read, last_index, is_rows_item}
use Rattle.loop_rules.specs.Carries.{bad_items}
use Rattle.loop_rules.specs.Reductions.{any_loop}
use Rattle.loop_rules.specs.Sites.{Loop}
use Rattle.loop_check.proofs.Bools.{no_both, not_false, or_left, or_right, and_left, and_right}
use Rattle.loop_check.proofs.Found.{eq_is}
use Rattle.loop_check.proofs.Inner.{RowVar}
use Rattle.loop_check.proofs.Shapes.{HeadOk, Inside, item_fine, item_index, item_outside}
use Rattle.frame_machine.specs.Modes.{Mode, Whole, Closed, OwnRow, OwnCell, Modes, line_of, demoted}
use Rattle.frame_machine.specs.Modes.{inner_modes, modes_of, AllOfMode, AllOfModes}
use Rattle.frame_machine.specs.Bodies.{IsVar, IsNumber, IsLine, ReadsAt, WritesAt, MayCarry}
use Rattle.frame_machine.proofs.RulesNames.{first_item, other_items}

-- ---- a mode, and the item of the nearest loop

pub demoted_all : (P : List ℕ → Type 0) (md : Mode) → AllOfMode P (demoted md)
demoted_all P Whole = tt
demoted_all P Closed = tt
demoted_all P (OwnRow x) = tt
demoted_all P (OwnCell k x) = tt

pub demoted_twice : (md : Mode) → demoted (demoted md) ≡ demoted md
demoted_twice Whole = refl
demoted_twice Closed = refl
demoted_twice (OwnRow x) = refl
demoted_twice (OwnCell k x) = refl

abbrev pub item_mode : Carry → List ℕ → Mode
item_mode (carry.Rows t i) x = OwnRow x
item_mode (carry.Cells t k j) x = OwnCell (line_of k) x

pub carried_mode : (cs : List Carry) (x : List ℕ) (m : Modes) (t : List ℕ) (d : Carry) → item_of cs t ≡ Some d → inner_modes cs x m t ≡ item_mode d x
carried_mode [] x m t d h = absurd (cc)
carried_mode (carry.Rows u i ∷ cs) x m t d h = go (bytes_eq u.text.items t) (λ k. carried_mode cs x m t d k) h
  where
    go : (b : Bool) → (item_of cs t ≡ Some d → inner_modes cs x m t ≡ item_mode d x) → cond b (Some (carry.Rows u i)) (item_of cs t) ≡ Some d → cond b (OwnRow x) (inner_modes cs x m t) ≡ item_mode d x
    go true f k = (let q : carry.Rows u i ≡ d = cc in ap (λ z. item_mode z x) q)
    go false f k = f k
carried_mode (carry.Cells u y j ∷ cs) x m t d h = go (bytes_eq u.text.items t) (λ k. carried_mode cs x m t d k) h
  where
    go : (b : Bool) → (item_of cs t ≡ Some d → inner_modes cs x m t ≡ item_mode d x) → cond b (Some (carry.Cells u y j)) (item_of cs t) ≡ Some d → cond b (OwnCell (line_of y) x) (inner_modes cs x m t) ≡ item_mode d x
    go true f k = (let q : carry.Cells u y j ≡ d = cc in ap (λ z. item_mode z x) q)
    go false f k = f k

pub other_mode : (cs : List Carry) (x : List ℕ) (m : Modes) (t : List ℕ) → item_of cs t ≡ None → inner_modes cs x m t ≡ demoted (m t)
other_mode [] x m t h = refl
other_mode (carry.Rows u i ∷ cs) x m t h = go (bytes_eq u.text.items t) (λ k. other_mode cs x m t k) h
  where
    go : (b : Bool) → (item_of cs t ≡ None → inner_modes cs x m t ≡ demoted (m t)) → cond b (Some (carry.Rows u i)) (item_of cs t) ≡ None → cond b (OwnRow x) (inner_modes cs x m t) ≡ demoted (m t)
    go true f k = absurd (cc)
    go false f k = f k
other_mode (carry.Cells u y j ∷ cs) x m t h = go (bytes_eq u.text.items t) (λ k. other_mode cs x m t k) h
  where
    go : (b : Bool) → (item_of cs t ≡ None → inner_modes cs x m t ≡ demoted (m t)) → cond b (Some (carry.Cells u y j)) (item_of cs t) ≡ None → cond b (OwnCell (line_of y) x) (inner_modes cs x m t) ≡ demoted (m t)
    go true f k = absurd (cc)
    go false f k = f k

-- it goes by the item, and by the mode of that table alone
pub inner_same : (cs : List Carry) (x : List ℕ) (m n : Modes) (t : List ℕ) → m t ≡ n t → inner_modes cs x m t ≡ inner_modes cs x n t
inner_same cs x m n t h = go (item_of cs t) refl
  where
    go : (o : Option Carry) → item_of cs t ≡ o → inner_modes cs x m t ≡ inner_modes cs x n t
    go None e = other_mode cs x m t e ∙ ap demoted h ∙ sym (other_mode cs x n t e)
    go (Some d) e = carried_mode cs x m t d e ∙ sym (carried_mode cs x n t d e)

-- a table that no loop round carries
pub whole_mode : (rs : List Loop) (t : List ℕ) → any_loop (carries t) rs ≡ false → modes_of rs t ≡ Whole
whole_mode [] t h = refl
whole_mode (r ∷ rs) t h = go (whole_mode rs t (or_right (carries t r) (any_loop (carries t) rs) h)) (item_of r.carries t) refl
  where
    go : modes_of rs t ≡ Whole → (o : Option Carry) → item_of r.carries t ≡ o → modes_of (r ∷ rs) t ≡ Whole
    go rest None e = other_mode r.carries r.var (modes_of rs) t e ∙ ap demoted rest
    go rest (Some d) e = absurd (no_both (carries t r) (rw e refl) (or_left (carries t r) (any_loop (carries t) rs) h))

-- ---- reads and writes have the nearest loop's shape

var_is : (a : Expr) (y x : List ℕ) → is_var a y ≡ true → y ≡ x → IsVar x a
var_is (Var z) y x h e = eq_is z.text.items y h ∙ e
var_is (Int n p) y x h e = absurd (no_both true refl (sym h))
var_is (Cell' t p a q b) y x h e = absurd (no_both true refl (sym h))
var_is (Rows t) y x h e = absurd (no_both true refl (sym h))
var_is (Cols t) y x h e = absurd (no_both true refl (sym h))
var_is (Neg' p a l) y x h e = absurd (no_both true refl (sym h))
var_is (Bin' o l p a q b) y x h e = absurd (no_both true refl (sym h))

number_is : (a : Expr) (m : ℤ) → is_int a m ≡ true → IsNumber m a
number_is (Int n p) m h = (Decides-int_eq n m).0 h
number_is (Var z) m h = absurd (no_both true refl (sym h))
number_is (Cell' t p a q b) m h = absurd (no_both true refl (sym h))
number_is (Rows t) m h = absurd (no_both true refl (sym h))
number_is (Cols t) m h = absurd (no_both true refl (sym h))
number_is (Neg' p a l) m h = absurd (no_both true refl (sym h))
number_is (Bin' o l p a q b) m h = absurd (no_both true refl (sym h))

line_is : (k : RowAt) (a : Expr) → is_row k a ≡ true → IsLine (line_of k) a
line_is (row.Var y) a h = var_is a y.text.items y.text.items h refl
line_is (row.Int n) a h = number_is a n h

read_own : (d : Carry) (x : List ℕ) (a b : Expr) → last_index d ≡ x → fits d a b ≡ true → ReadsAt (item_mode d x) a b
read_own (carry.Rows t i) x a b l f = var_is a i.text.items x f l
read_own (carry.Cells t k j) x a b l f = (line_is k a (and_left (is_row k a) (is_var b j.text.items) f), var_is b j.text.items x (and_right (is_row k a) (is_var b j.text.items) f) l)

write_own : (d : Carry) (x : List ℕ) (a b : Expr) → last_index d ≡ x → fits d a b ≡ true → WritesAt (item_mode d x) a b
write_own (carry.Rows t i) x a b l f = var_is a i.text.items x f l
write_own (carry.Cells t k j) x a b l f = (line_is k a (and_left (is_row k a) (is_var b j.text.items) f), var_is b j.text.items x (and_right (is_row k a) (is_var b j.text.items) f) l)

pub nearest_head : (r0 : Loop) (outer : List Loop) → HeadOk r0 outer → (r : Loop) (rs : List Loop) → Inside r0 outer (r ∷ rs) → HeadOk r rs
nearest_head r0 outer head r rs i = elim i [
  | inl q ↦ subst (λ l. HeadOk l rs) (sym q.0) (subst (λ ls. HeadOk r0 ls) (sym q.1) head)
  | inr k ↦ k.0
]

pub index_of : (r : Loop) (rs : List Loop) (t : List ℕ) (d : Carry) → HeadOk r rs → item_of r.carries t ≡ Some d → last_index d ≡ r.var
index_of r rs t d head e = item_index rs r d (item_fine t [] r.carries r rs d head.items e)

module _ (r0 : Loop) (outer : List Loop) (head : HeadOk r0 outer) where
  pub reads_at : (t : List ℕ) (a b : Expr) (rounds : List Loop) → Inside r0 outer rounds → bad_read rounds t a b ≡ false → ReadsAt (modes_of rounds t) a b
  reads_at t a b [] i h = absurd i
  reads_at t a b (r ∷ rs) i h = go (item_of r.carries t) refl
    where
      -- no loop round carries it
      unless : (s : Bool) → s ≡ false → (any_loop (carries t) (r ∷ rs) && not s) ≡ false → any_loop (carries t) (r ∷ rs) ≡ false
      unless true e k = absurd (no_both true refl e)
      unless false e k = alone (any_loop (carries t) (r ∷ rs)) k
        where
          alone : (c : Bool) → (c && true) ≡ false → c ≡ false
          alone true l = l
          alone false l = refl

      shaped : (c : Bool) (s : Bool) → c ≡ true → (c && not s) ≡ false → s ≡ true
      shaped true s e k = not_false s k
      shaped false s e k = absurd (no_both true refl (sym e))

      go : (o : Option Carry) → item_of r.carries t ≡ o → ReadsAt (modes_of (r ∷ rs) t) a b
      go None e = subst (λ md. ReadsAt md a b) (sym (whole_mode (r ∷ rs) t (unless (has_shape r t a b) (ap (λ o. fits_some o a b) e) h))) tt
      go (Some d) e =
          let some : carries t r ≡ true = ap is_some_item e in
          let fit : fits d a b ≡ true = sym (ap (λ o. fits_some o a b) e) ∙ shaped (any_loop (carries t) (r ∷ rs)) (has_shape r t a b) (rw some refl) h in
          subst (λ md. ReadsAt md a b) (sym (carried_mode r.carries r.var (modes_of rs) t d e)) (read_own d r.var a b (index_of r rs t d (nearest_head r0 outer head r rs i) e) fit)

  pub writes_at : (t : List ℕ) (a b : Expr) (rounds : List Loop) → Inside r0 outer rounds → bad_write rounds t a b ≡ false → WritesAt (modes_of rounds t) a b
  writes_at t a b [] i h = absurd i
  writes_at t a b (r ∷ rs) i h = go (item_of r.carries t) refl
    where
      fit : has_shape r t a b ≡ true
      fit = not_false (has_shape r t a b) (or_right (any_loop (λ q. not (carries t q)) (r ∷ rs)) (not (has_shape r t a b)) h)

      go : (o : Option Carry) → item_of r.carries t ≡ o → WritesAt (modes_of (r ∷ rs) t) a b
      go None e = absurd (no_both (has_shape r t a b) fit (ap (λ o. fits_some o a b) e))
      go (Some d) e =
          subst (λ md. WritesAt md a b) (sym (carried_mode r.carries r.var (modes_of rs) t d e))
          (write_own d r.var a b (index_of r rs t d (nearest_head r0 outer head r rs i) e) (sym (ap (λ o. fits_some o a b) e) ∙ fit))

  -- ---- an inner loop's carries are cells of rows that the nearest one carries
  within_row : (o : Option Carry) (k : RowAt) → is_rows_item o k ≡ true → (t i y : Name) × (o ≡ Some (carry.Rows t i)) × (k ≡ row.Var y) × (i.text.items ≡ y.text.items)
  within_row None k h = absurd (no_both true refl (sym h))
  within_row (Some (carry.Cells t k2 j)) k h = absurd (no_both true refl (sym h))
  within_row (Some (carry.Rows t i)) (row.Int n) h = absurd (no_both true refl (sym h))
  within_row (Some (carry.Rows t i)) (row.Var y) h = (t, i, y, refl, refl, eq_is i.text.items y.text.items h)

  pub may_carry : (m : Modes) (before : List (List ℕ)) (cs : List Carry) (r n : Loop) (ns : List Loop) → Inside r0 outer (n ∷ ns) → ((t : List ℕ) → m t ≡ modes_of (n ∷ ns) t) → bad_items before cs r (n ∷ ns) ≡ [] → MayCarry m cs
  may_carry m before [] r n ns i e h = tt
  may_carry m before (carry.Rows t y ∷ cs) r n ns i e h =
      absurd (no_both true refl (item_outside (n ∷ ns) r (carry.Rows t y) (first_item before (carry.Rows t y) cs r (n ∷ ns) h)))
  may_carry m before (carry.Cells t (row.Int k) j ∷ cs) r n ns i e h =
      let w = within_row (item_of n.carries t.text.items) (row.Int k)
      (not_false _ (item_outside (n ∷ ns) r (carry.Cells t (row.Int k) j) (first_item before (carry.Cells t (row.Int k) j) cs r (n ∷ ns) h))) in
      let z : row.Int k ≡ row.Var w.2 = w.4 in absurd (cc)
  may_carry m before (carry.Cells t (row.Var k) j ∷ cs) r n ns i e h =
      let w = within_row (item_of n.carries t.text.items) (row.Var k)
      (not_false _ (item_outside (n ∷ ns) r (carry.Cells t (row.Var k) j) (first_item before (carry.Cells t (row.Var k) j) cs r (n ∷ ns) h))) in
      let same : row.Var k ≡ row.Var w.2 = w.4 in
      let same : k ≡ w.2 = cc in
      let index : w.1.text.items ≡ n.var = index_of n ns t.text.items (carry.Rows w.0 w.1) (nearest_head r0 outer head n ns i) w.3 in
      let own : n.var ≡ k.text.items = sym index ∙ w.5 ∙ ap (λ (z : Name). z.text.items) (sym same) in
      (e t.text.items ∙ carried_mode n.carries n.var (modes_of ns) t.text.items (carry.Rows w.0 w.1) w.3 ∙ ap OwnRow own, may_carry m (t.text.items ∷ before) cs r n ns i e (other_items before (carry.Cells t (row.Var k) j) cs r (n ∷ ns) h))

-- ---- the variables that modes name

-- the nearest loop's variable, and those that name rows in its carry list, are among these
abbrev pub SeenIn : List (List ℕ) → List Loop → Type 0
SeenIn scope [] = Unit {0}
SeenIn scope (r ∷ rs) = (is_in scope r.var ≡ true) × ((t y : List ℕ) → RowVar (item_of r.carries t) y → is_in scope y ≡ true)

pub modes_seen : (scope : List (List ℕ)) (P : List ℕ → Type 0) → ((y : List ℕ) → is_in scope y ≡ true → P y) → (rs : List Loop) → SeenIn scope rs → AllOfModes P (modes_of rs)
modes_seen scope P f [] s t = tt
modes_seen scope P f (r ∷ rs) s t = go (item_of r.carries t) refl
  where
    named : (d : Carry) → item_of r.carries t ≡ Some d → AllOfMode P (item_mode d r.var)
    named (carry.Rows u i) e = f r.var s.0
    named (carry.Cells u (row.Int n) j) e = (tt, f r.var s.0)
    named (carry.Cells u (row.Var k) j) e = (f k.text.items (s.1 t k.text.items (subst (λ o. RowVar o k.text.items) (sym e) refl)), f r.var s.0)

    go : (o : Option Carry) → item_of r.carries t ≡ o → AllOfMode P (modes_of (r ∷ rs) t)
    go None e = subst (AllOfMode P) (sym (other_mode r.carries r.var (modes_of rs) t e)) (demoted_all P (modes_of rs t))
    go (Some d) e = subst (AllOfMode P) (sym (carried_mode r.carries r.var (modes_of rs) t d e)) (named d e)
