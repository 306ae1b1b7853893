-- Inside a `par` that carries a table, each cell of the table has that par's shape.
use Rattle.std.proofs.Common.{◌≡◌, ℕ, List, [], ◌∷◌, Option, Some, None, refl, sym, subst, ◌∙◌}
use Rattle.std.proofs.Common.{Bool, true, false, cond, ◌&&◌, ◌||◌, not, bytes_eq, ◌⊎◌, inl, inr}
use Rattle.tp_value.specs.declared.Op.{Op}
use Rattle.loop_syntax.specs.declared.Name.{Name}
use Rattle.loop_syntax.specs.declared.Expr.{Expr}
use Rattle.loop_syntax.specs.declared.RowAt.{RowAt}
use Rattle.loop_syntax.specs.declared.RowAt.TheVariants as row
use Rattle.loop_syntax.specs.declared.Carry.{Carry}
use Rattle.loop_syntax.specs.declared.Carry.TheVariants as carry
use Rattle.loop_syntax.specs.declared.Reduce.{Reduce}
use Rattle.loop_rules.specs.Carries.{carries, is_var, is_row, fits, fits_some, has_shape, bad_write}
use Rattle.loop_rules.specs.Carries.{bad_read, last_index, row_reduced, is_rows_item}
use Rattle.loop_rules.specs.Carries.{outside_nearest, bad_item, bad_items}
use Rattle.loop_rules.specs.Names.{operator_of, is_in, table_name, item_of}
use Rattle.loop_rules.specs.Reductions.{any_loop, is_op, some_op, reduced, nearest_reduces}
use Rattle.loop_rules.specs.Reductions.{reduced_otherwise, other_operator, bad_targets}
use Rattle.loop_rules.specs.Scopes.{at}
use Rattle.loop_rules.specs.Sites.{Loop}
use Rattle.loop_check.proofs.Fine.{at_none, append_none_left, append_none_right}
use Rattle.loop_check.proofs.Bools.{or_left, or_right, not_false, and_left, no_both}
use Rattle.loop_check.proofs.Found.{eq_is}

-- a `par` whose carry list and reduce list break neither C6 nor C3, where these are round it
pub record HeadOk (r : Loop) (rs : List Loop) : Type 0 where
  pub items : bad_items [] r.carries r rs ≡ []
  pub targets : bad_targets [] r.reduces rs ≡ []

-- the loops round something inside r0: some that break no rule, then r0, then those round it
abbrev pub Inside : Loop → List Loop → List Loop → Type 0
Inside r0 outer [] = ⊥
Inside r0 outer (r ∷ rs) = ((r ≡ r0) × (rs ≡ outer)) ⊎ (HeadOk r rs × Inside r0 outer rs)

pub any_inside : (f : Loop → Bool) (r0 : Loop) (outer rs : List Loop) → Inside r0 outer rs → f r0 ≡ true → any_loop f rs ≡ true
any_inside f r0 outer [] i h = absurd i
any_inside f r0 outer (r ∷ rs) i h = elim i [
  | inl e ↦ (let q : f r ≡ true = subst (λ z. f z ≡ true) (sym e.0) h in rw q refl)
  | inr k ↦ go (f r) (any_inside f r0 outer rs k.1 h)
]
  where
    go : (b : Bool) → any_loop f rs ≡ true → (b || any_loop f rs) ≡ true
    go true h = refl
    go false h = h

-- the item of a table breaks no rule
module _ (t : List ℕ) where
  pub item_name : (cs : List Carry) (d : Carry) → item_of cs t ≡ Some d → bytes_eq (table_name d).text.items t ≡ true
  item_name [] d h = absurd (cc)
  item_name (c ∷ cs) d h = go (λ k. item_name cs d k) (bytes_eq (table_name c).text.items t) refl h
    where
      go : (item_of cs t ≡ Some d → bytes_eq (table_name d).text.items t ≡ true) → (b : Bool) → bytes_eq (table_name c).text.items t ≡ b → cond b (Some c) (item_of cs t) ≡ Some d → bytes_eq (table_name d).text.items t ≡ true
      go f true e k = (let q : c ≡ d = cc in subst (λ z. bytes_eq (table_name z).text.items t ≡ true) q e)
      go f false e k = f k

  pub item_fine : (before : List (List ℕ)) (cs : List Carry) (r : Loop) (rounds : List Loop) (d : Carry) → bad_items before cs r rounds ≡ [] → item_of cs t ≡ Some d → bad_item rounds r d ≡ false
  item_fine before [] r rounds d h k = absurd (cc)
  item_fine before (c ∷ cs) r rounds d h k =
      let first = at_none (table_name c) (bad_item rounds r c || is_in before (table_name c).text.items) (append_none_left (at (table_name c) (bad_item rounds r c || is_in before (table_name c).text.items)) (bad_items ((table_name c).text.items ∷ before) cs r rounds) h) in
      go (or_left (bad_item rounds r c) (is_in before (table_name c).text.items) first)
      (λ q. item_fine ((table_name c).text.items ∷ before) cs r rounds d (append_none_right (at (table_name c) (bad_item rounds r c || is_in before (table_name c).text.items)) (bad_items ((table_name c).text.items ∷ before) cs r rounds) h) q)
      (bytes_eq (table_name c).text.items t) k
    where
      go : bad_item rounds r c ≡ false → (item_of cs t ≡ Some d → bad_item rounds r d ≡ false) → (b : Bool) → cond b (Some c) (item_of cs t) ≡ Some d → bad_item rounds r d ≡ false
      go g f true e = (let q : c ≡ d = cc in subst (λ z. bad_item rounds r z ≡ false) q g)
      go g f false e = f e

-- ---- the parts of an item that breaks no rule

pub item_index : (rounds : List Loop) (r : Loop) (d : Carry) → bad_item rounds r d ≡ false → last_index d ≡ r.var
item_index rounds r d h =
    let two = or_left (not (bytes_eq (last_index d) r.var) || row_reduced r d) (outside_nearest rounds d) h in
    eq_is (last_index d) r.var (not_false (bytes_eq (last_index d) r.var) (or_left (not (bytes_eq (last_index d) r.var)) (row_reduced r d) two))

pub item_row : (rounds : List Loop) (r : Loop) (d : Carry) → bad_item rounds r d ≡ false → row_reduced r d ≡ false
item_row rounds r d h =
    or_right (not (bytes_eq (last_index d) r.var)) (row_reduced r d) (or_left (not (bytes_eq (last_index d) r.var) || row_reduced r d) (outside_nearest rounds d) h)

pub item_outside : (rounds : List Loop) (r : Loop) (d : Carry) → bad_item rounds r d ≡ false → outside_nearest rounds d ≡ false
item_outside rounds r d h = or_right (not (bytes_eq (last_index d) r.var) || row_reduced r d) (outside_nearest rounds d) h

-- ---- the shape

-- an item t[i] stands inside no other loop
rows_outside : (r0 : Loop) (outer : List Loop) (x y : Name) (rs : List Loop) → Inside r0 outer rs → outside_nearest rs (carry.Rows x y) ≡ false → ⊥
rows_outside r0 outer x y [] i h = i
rows_outside r0 outer x y (q ∷ qs) i h = no_both true refl h

rows_item : (o : Option Carry) (k : RowAt) → is_rows_item o k ≡ true → (t i : Name) × (o ≡ Some (carry.Rows t i))
rows_item None k h = absurd (no_both true refl (sym h))
rows_item (Some (carry.Cells t k2 j)) k h = absurd (no_both true refl (sym h))
rows_item (Some (carry.Rows t i)) k h = (t, i, refl)

-- a cell with the shape of an item within that of the loop round has that loop's shape
within_shape : (o : Option Carry) (k : RowAt) (a : Expr) → is_rows_item o k ≡ true → is_row k a ≡ true → (t i : Name) × (o ≡ Some (carry.Rows t i)) × (is_var a i.text.items ≡ true)
within_shape None k a h f = absurd (no_both true refl (sym h))
within_shape (Some (carry.Cells t k2 j)) k a h f = absurd (no_both true refl (sym h))
within_shape (Some (carry.Rows t i)) (row.Int n) a h f = absurd (no_both true refl (sym h))
within_shape (Some (carry.Rows t i)) (row.Var k) a h f = (t, i, refl, subst (λ z. is_var a z ≡ true) (sym (eq_is i.text.items k.text.items h)) f)

pub carried : (r : Loop) (t : List ℕ) (c : Carry) → item_of r.carries t ≡ Some c → carries t r ≡ true
carried r t c is = rw is refl

module _ (r0 : Loop) (outer : List Loop) (t : List ℕ) (c : Carry) (is : item_of r0.carries t ≡ Some c) (a b : Expr) where
  -- the loop round the nearest one is r0, since an item t[i] can't stand inside another loop
  at_second : (r1 : Loop) (rs : List Loop) → Inside r0 outer (r1 ∷ rs) → (x i : Name) → item_of r1.carries t ≡ Some (carry.Rows x i) → is_var a i.text.items ≡ true → fits c a b ≡ true
  at_second r1 rs i x y e v = elim i [
    | inl q ↦ (let z : Some (carry.Rows x y) ≡ Some c = sym (subst (λ l. item_of l.carries t ≡ Some (carry.Rows x y)) q.0 e) ∙ is in let w : carry.Rows x y ≡ c = cc in subst (λ d. fits d a b ≡ true) w v)
    | inr k ↦ absurd (rows_outside r0 outer x y rs k.1 (item_outside rs r1 (carry.Rows x y) (item_fine t [] r1.carries r1 rs (carry.Rows x y) k.0.items e)))
  ]

  at_first : (r : Loop) (rs : List Loop) (d : Carry) → item_of r.carries t ≡ Some d → HeadOk r rs → Inside r0 outer rs → fits d a b ≡ true → fits c a b ≡ true
  at_first r [] d e k i f = absurd i
  at_first r (r1 ∷ rs) (carry.Rows x y) e k i f = absurd (no_both true refl (item_outside (r1 ∷ rs) r (carry.Rows x y) (item_fine t [] r.carries r (r1 ∷ rs) (carry.Rows x y) k.items e)))
  at_first r (r1 ∷ rs) (carry.Cells x y j) e k i f =
      let within : is_rows_item (item_of r1.carries x.text.items) y ≡ true = not_false _ (item_outside (r1 ∷ rs) r (carry.Cells x y j) (item_fine t [] r.carries r (r1 ∷ rs) (carry.Cells x y j) k.items e)) in
      let same : x.text.items ≡ t = eq_is x.text.items t (item_name t r.carries (carry.Cells x y j) e) in
      let w = within_shape (item_of r1.carries t) y a (subst (λ z. is_rows_item (item_of r1.carries z) y ≡ true) same within) (and_left (is_row y a) (is_var b j.text.items) f) in
      at_second r1 rs i w.0 w.1 w.2 w.3

  -- a cell with the nearest loop's shape has r0's
  pub shape_of : (r : Loop) (rs : List Loop) → Inside r0 outer (r ∷ rs) → has_shape r t a b ≡ true → fits c a b ≡ true
  shape_of r rs i h = elim i [
    | inl q ↦ (let z : fits_some (item_of r0.carries t) a b ≡ true = subst (λ l. has_shape l t a b ≡ true) q.0 h in subst (λ o. fits_some o a b ≡ true) is z)
    | inr k ↦ go (item_of r.carries t) refl h k
  ]
    where
      go : (o : Option Carry) → item_of r.carries t ≡ o → fits_some o a b ≡ true → (HeadOk r rs × Inside r0 outer rs) → fits c a b ≡ true
      go None e f k = absurd (no_both true refl (sym f))
      go (Some d) e f k = at_first r rs d e k.0 k.1 f

  pub read_shape : (rs : List Loop) → Inside r0 outer rs → bad_read rs t a b ≡ false → fits c a b ≡ true
  read_shape [] i h = absurd i
  read_shape (r ∷ rs) i h =
      let some : any_loop (carries t) (r ∷ rs) ≡ true = any_inside (carries t) r0 outer (r ∷ rs) i (carried r0 t c is) in
      shape_of r rs i (not_false (has_shape r t a b) (subst (λ z. (z && not (has_shape r t a b)) ≡ false) some h))

  pub write_shape : (rs : List Loop) → Inside r0 outer rs → bad_write rs t a b ≡ false → fits c a b ≡ true
  write_shape [] i h = absurd i
  write_shape (r ∷ rs) i h = shape_of r rs i (not_false (has_shape r t a b) (or_right (any_loop (λ q. not (carries t q)) (r ∷ rs)) (not (has_shape r t a b)) h))

-- a write of a table that r0 doesn't carry
pub write_carried : (r0 : Loop) (outer : List Loop) (t : List ℕ) (a b : Expr) (rs : List Loop) → item_of r0.carries t ≡ None → Inside r0 outer rs → bad_write rs t a b ≡ false → ⊥
write_carried r0 outer t a b [] e i h = i
write_carried r0 outer t a b (r ∷ rs) e i h =
    no_both (any_loop (λ q. not (carries t q)) (r ∷ rs)) (any_inside (λ q. not (carries t q)) r0 outer (r ∷ rs) i (rw e refl))
    (or_left (any_loop (λ q. not (carries t q)) (r ∷ rs)) (not (has_shape r t a b)) h)

-- ---- a table that r0 doesn't carry

pub any_round : (f : Loop → Bool) (r0 : Loop) (outer rs : List Loop) → Inside r0 outer rs → any_loop f outer ≡ true → any_loop f rs ≡ true
any_round f r0 outer [] i h = absurd i
any_round f r0 outer (r ∷ rs) i h = elim i [
  | inl e ↦ go (f r) (subst (λ z. any_loop f z ≡ true) (sym e.1) h)
  | inr k ↦ go (f r) (any_round f r0 outer rs k.1 h)
]
  where
    go : (b : Bool) → any_loop f rs ≡ true → (b || any_loop f rs) ≡ true
    go true h = refl
    go false h = h

-- no loop inside carries it
module _ (r0 : Loop) (outer : List Loop) (t : List ℕ) (is : item_of r0.carries t ≡ None) where
  not_own : (r : Loop) (d : Carry) → r ≡ r0 → item_of r.carries t ≡ Some d → ⊥
  not_own r d q e = let z : Some d ≡ None = sym (subst (λ l. item_of l.carries t ≡ Some d) q e) ∙ is in absurd (cc)

  no_rows : (r : Loop) (rs : List Loop) → Inside r0 outer (r ∷ rs) → (x y : Name) → item_of r.carries t ≡ Some (carry.Rows x y) → ⊥
  no_rows r rs i x y e = elim i [
    | inl q ↦ not_own r (carry.Rows x y) q.0 e
    | inr k ↦ rows_outside r0 outer x y rs k.1 (item_outside rs r (carry.Rows x y) (item_fine t [] r.carries r rs (carry.Rows x y) k.0.items e))
  ]

  within_none : (r : Loop) (rs : List Loop) (d : Carry) → item_of r.carries t ≡ Some d → HeadOk r rs → Inside r0 outer rs → ⊥
  within_none r rs (carry.Rows x y) e k i = rows_outside r0 outer x y rs i (item_outside rs r (carry.Rows x y) (item_fine t [] r.carries r rs (carry.Rows x y) k.items e))
  within_none r [] (carry.Cells x y j) e k i = i
  within_none r (r1 ∷ rs) (carry.Cells x y j) e k i =
      let within : is_rows_item (item_of r1.carries x.text.items) y ≡ true = not_false _ (item_outside (r1 ∷ rs) r (carry.Cells x y j) (item_fine t [] r.carries r (r1 ∷ rs) (carry.Cells x y j) k.items e)) in
      let same : x.text.items ≡ t = eq_is x.text.items t (item_name t r.carries (carry.Cells x y j) e) in
      let w = rows_item (item_of r1.carries t) y (subst (λ z. is_rows_item (item_of r1.carries z) y ≡ true) same within) in
      no_rows r1 rs i w.0 w.1 w.2

  pub no_item : (r : Loop) (rs : List Loop) → Inside r0 outer (r ∷ rs) → (a b : Expr) → has_shape r t a b ≡ true → ⊥
  no_item r rs i a b h = go (item_of r.carries t) refl h
    where
      go : (o : Option Carry) → item_of r.carries t ≡ o → fits_some o a b ≡ true → ⊥
      go None e f = no_both true refl (sym f)
      go (Some d) e f = elim i [
        | inl q ↦ not_own r d q.0 e
        | inr k ↦ within_none r rs d e k.0 k.1
      ]

  -- a cell of it is read only where no loop round r0 carries it
  pub read_round : (a b : Expr) (rs : List Loop) → Inside r0 outer rs → bad_read rs t a b ≡ false → any_loop (carries t) outer ≡ false
  read_round a b [] i h = absurd i
  read_round a b (r ∷ rs) i h = go (any_loop (carries t) outer) refl
    where
      go : (c : Bool) → any_loop (carries t) outer ≡ c → c ≡ false
      go false q = refl
      go true q = absurd (no_item r rs i a b (not_false (has_shape r t a b) (subst (λ z. (z && not (has_shape r t a b)) ≡ false) (any_round (carries t) r0 outer (r ∷ rs) i q) h)))

-- ---- a variable that is declared outside r0 and that r0 doesn't reduce is folded nowhere inside

op_found : (qs : List Reduce) (x : List ℕ) (before : List (List ℕ)) (rs : List Loop) → bad_targets before qs rs ≡ [] → some_op (operator_of qs x) ≡ true → (q : Reduce) × (q.target.text.items ≡ x) × (any_loop (reduced_otherwise q) rs ≡ false)
op_found [] x before rs h k = absurd (no_both true refl (sym k))
op_found (q ∷ qs) x before rs h k =
    let z = append_none_left (at q.target (any_loop (other_operator q) rs || any_loop (reduced_otherwise q) rs || is_in before q.target.text.items)) (bad_targets (q.target.text.items ∷ before) qs rs) h in
    let y = append_none_right (at q.target (any_loop (other_operator q) rs || any_loop (reduced_otherwise q) rs || is_in before q.target.text.items)) (bad_targets (q.target.text.items ∷ before) qs rs) h in
    go (λ l. op_found qs x (q.target.text.items ∷ before) rs y l) (at_none q.target _ z) (bytes_eq q.target.text.items x) refl k
  where
    go : (some_op (operator_of qs x) ≡ true → (q : Reduce) × (q.target.text.items ≡ x) × (any_loop (reduced_otherwise q) rs ≡ false)) → (any_loop (other_operator q) rs || any_loop (reduced_otherwise q) rs || is_in before q.target.text.items) ≡ false → (b : Bool) → bytes_eq q.target.text.items x ≡ b → some_op (cond b (Some q.op) (operator_of qs x)) ≡ true → (q : Reduce) × (q.target.text.items ≡ x) × (any_loop (reduced_otherwise q) rs ≡ false)
    go f g true e l = (q, eq_is q.target.text.items x e, or_right (any_loop (other_operator q) rs) (any_loop (reduced_otherwise q) rs) (or_left (any_loop (other_operator q) rs || any_loop (reduced_otherwise q) rs) (is_in before q.target.text.items) g))
    go f g false e l = f l

not_reduced : (o : Op) (p : Option Op) → some_op p ≡ false → is_op o p ≡ false
not_reduced o None h = refl
not_reduced o (Some p) h = absurd (no_both true refl h)

pub fold_apart : (r0 : Loop) (outer : List Loop) (x : List ℕ) (rs : List Loop) → Inside r0 outer rs → is_in r0.outside x ≡ true → reduced x r0 ≡ false → nearest_reduces rs x ≡ true → ⊥
fold_apart r0 outer x [] i o n h = i
fold_apart r0 outer x (r ∷ rs) i o n h = elim i [
  | inl q ↦ no_both (reduced x r0) (subst (λ l. reduced x l ≡ true) q.0 h) n
  | inr k ↦ (let f = op_found r.reduces x [] rs k.0.targets h in
      let y : is_in r0.outside f.0.target.text.items ≡ true = subst (λ z. is_in r0.outside z ≡ true) (sym f.1) o in
      let m : reduced f.0.target.text.items r0 ≡ false = subst (λ z. reduced z r0 ≡ false) (sym f.1) n in
      no_both (any_loop (reduced_otherwise f.0) rs) (any_inside (reduced_otherwise f.0) r0 outer rs k.1 (rw (y, not_reduced f.0.op (operator_of r0.reduces f.0.target.text.items) m) refl)) f.2)
]
