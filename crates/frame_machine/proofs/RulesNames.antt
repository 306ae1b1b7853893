-- What the rules on names and clauses say of the variables round a `par`.
use Rattle.std.proofs.Common.{◌≡◌, ℕ, List, [], ◌∷◌, ◌++◌, Option, Some, None, refl, sym, subst}
use Rattle.std.proofs.Common.{Bool, true, false, cond, ◌||◌, not, bytes_eq}
use Rattle.std.proofs.lemmas.List.{append_assoc, append-nil}
use Rattle.tp_value.specs.declared.Op.{Op}
use Rattle.tp_value.specs.declared.Place.{Place}
use Rattle.loop_syntax.specs.declared.Name.{Name}
use Rattle.loop_syntax.specs.declared.RowAt.TheVariants as row
use Rattle.loop_syntax.specs.declared.Carry.{Carry}
use Rattle.loop_syntax.specs.declared.Carry.TheVariants as carry
use Rattle.loop_syntax.specs.declared.Reduce.{Reduce}
use Rattle.loop_syntax.specs.declared.Program.{Program}
use Rattle.loop_rules.specs.Names.{is_in, texts, func_names, operator_of, table_name}
use Rattle.loop_rules.specs.Carries.{bad_item, bad_items}
use Rattle.loop_rules.specs.Reductions.{any_loop, some_op, other_operator, reduced_otherwise}
use Rattle.loop_rules.specs.Reductions.{bad_targets}
use Rattle.loop_rules.specs.Scopes.{at, is_visible, unseen_targets}
use Rattle.loop_rules.specs.Sites.{Loop, Declares, Spot, in_carries, in_params, declared_var}
use Rattle.loop_check.proofs.Bools.{no_both, not_false, or_left, or_right}
use Rattle.loop_check.proofs.Found.{eq_is, eq_self}
use Rattle.loop_check.proofs.Fine.{Fine, AllFine, at_none, append_none_left, append_none_right}
use Rattle.loop_check.proofs.Shapes.{item_row}
use Rattle.frame_machine.specs.Bodies.{Unreduced}
use Rattle.frame_machine.specs.Lawful.{Distinct, DistinctTargets, TargetsIn, RowsFixed}

-- what isn't reduced
pub unreduced : (rs : List Reduce) (x : List ℕ) → some_op (operator_of rs x) ≡ false → Unreduced rs x
unreduced rs x h = go (operator_of rs x) refl
  where
    go : (o : Option Op) → operator_of rs x ≡ o → o ≡ None
    go None e = refl
    go (Some o) e = absurd (no_both true refl (subst (λ z. some_op z ≡ false) e h))

-- ---- the names of variables are distinct

differs : (x y : List ℕ) → bytes_eq x y ≡ false → bytes_eq y x ≡ false
differs x y h = go (bytes_eq y x) refl
  where
    go : (b : Bool) → bytes_eq y x ≡ b → b ≡ false
    go false e = refl
    go true e = absurd (no_both (bytes_eq x y) (subst (λ z. bytes_eq z y ≡ true) (eq_is y x e) (eq_self y)) h)

not_in_end : (ys : List (List ℕ)) (x z : List ℕ) → is_in ys z ≡ false → bytes_eq x z ≡ false → is_in (ys ++ x ∷ []) z ≡ false
not_in_end [] x z h k = rw k refl
not_in_end (y ∷ ys) x z h k = rw (or_left (bytes_eq y z) (is_in ys z) h) (not_in_end ys x z (or_right (bytes_eq y z) (is_in ys z) h) k)

pub distinct_end : (ys : List (List ℕ)) (x : List ℕ) → Distinct ys → is_in ys x ≡ false → Distinct (ys ++ x ∷ [])
distinct_end [] x d h = (refl, tt)
distinct_end (y ∷ ys) x d h =
    (not_in_end ys x y d.0 (differs y x (or_left (bytes_eq y x) (is_in ys x) h)), distinct_end ys x d.1 (or_right (bytes_eq y x) (is_in ys x) h))

-- a variable that is declared isn't visible
pub is_new : (p : Program) (w : Spot) (x : Name) → Fine p (Declares x) w → is_in w.scope x.text.items ≡ false
is_new p w x f =
    or_left (is_in w.scope x.text.items) (is_in (texts w.tables) x.text.items || is_in (func_names w.funcs) x.text.items) (at_none x (is_visible w x.text.items) f.f1)

pub distinct_params : (p : Program) (w : Spot) (xs : List Name) → AllFine p (in_params w xs) → Distinct w.scope → Distinct (w.scope ++ texts xs)
distinct_params p w [] h d = subst Distinct (sym (append-nil w.scope)) d
distinct_params p w (x ∷ xs) h d =
    subst Distinct (append_assoc w.scope (x.text.items ∷ []) (texts xs)) (distinct_params p (declared_var w x) xs h.1 (distinct_end w.scope x.text.items d (is_new p w x h.0)))

-- ---- reduce lists

pub targets_in : (vs : List (List ℕ)) (rs : List Reduce) → unseen_targets vs rs ≡ [] → TargetsIn vs rs
targets_in vs [] h = tt
targets_in vs (r ∷ rs) h =
    let own : List Place = at r.target (not (is_in vs r.target.text.items)) in (
      not_false (is_in vs r.target.text.items) (at_none r.target (not (is_in vs r.target.text.items)) (append_none_left own (unseen_targets vs rs) h)),
      targets_in vs rs (append_none_right own (unseen_targets vs rs) h),
    )

-- no variable that isn't visible is reduced
pub new_unreduced : (vs : List (List ℕ)) (rs : List Reduce) (x : List ℕ) → TargetsIn vs rs → is_in vs x ≡ false → Unreduced rs x
new_unreduced vs [] x h n = refl
new_unreduced vs (r ∷ rs) x h n = go (new_unreduced vs rs x h.1 n) (bytes_eq r.target.text.items x) refl
  where
    go : Unreduced rs x → (b : Bool) → bytes_eq r.target.text.items x ≡ b → cond b (Some r.op) (operator_of rs x) ≡ None
    go later true e = absurd (no_both (is_in vs x) (subst (λ z. is_in vs z ≡ true) (eq_is r.target.text.items x e) h.0) n)
    go later false e = later

-- what stands before isn't named again
not_before : (before : List (List ℕ)) (rs : List Reduce) (rounds : List Loop) (x : List ℕ) → bad_targets before rs rounds ≡ [] → is_in before x ≡ true → Unreduced rs x
not_before before [] rounds x h i = refl
not_before before (r ∷ rs) rounds x h i =
    let bad = any_loop (other_operator r) rounds || any_loop (reduced_otherwise r) rounds || is_in before r.target.text.items in
    let new = or_right (any_loop (other_operator r) rounds || any_loop (reduced_otherwise r) rounds) (is_in before r.target.text.items)
    (at_none r.target bad (append_none_left (at r.target bad) (bad_targets (r.target.text.items ∷ before) rs rounds) h)) in
    let later = append_none_right (at r.target bad) (bad_targets (r.target.text.items ∷ before) rs rounds) h in
    go new (not_before (r.target.text.items ∷ before) rs rounds x later (here (bytes_eq r.target.text.items x))) (bytes_eq r.target.text.items x) refl
  where
    here : (b : Bool) → (b || is_in before x) ≡ true
    here true = refl
    here false = i

    go : is_in before r.target.text.items ≡ false → Unreduced rs x → (b : Bool) → bytes_eq r.target.text.items x ≡ b → cond b (Some r.op) (operator_of rs x) ≡ None
    go new later true e = absurd (no_both (is_in before x) i (subst (λ z. is_in before z ≡ false) (eq_is r.target.text.items x e) new))
    go new later false e = later

pub distinct_targets : (before : List (List ℕ)) (rs : List Reduce) (rounds : List Loop) → bad_targets before rs rounds ≡ [] → DistinctTargets rs
distinct_targets before [] rounds h = tt
distinct_targets before (r ∷ rs) rounds h =
    let bad = any_loop (other_operator r) rounds || any_loop (reduced_otherwise r) rounds || is_in before r.target.text.items in
    let later = append_none_right (at r.target bad) (bad_targets (r.target.text.items ∷ before) rs rounds) h in
    (not_before (r.target.text.items ∷ before) rs rounds r.target.text.items later (rw (eq_self r.target.text.items) refl), distinct_targets (r.target.text.items ∷ before) rs rounds later)

-- ---- carry lists

pub first_item : (before : List (List ℕ)) (c : Carry) (cs : List Carry) (r : Loop) (rounds : List Loop) → bad_items before (c ∷ cs) r rounds ≡ [] → bad_item rounds r c ≡ false
first_item before c cs r rounds h =
    let bad = bad_item rounds r c || is_in before (table_name c).text.items in
    or_left (bad_item rounds r c) (is_in before (table_name c).text.items)
    (at_none (table_name c) bad (append_none_left (at (table_name c) bad) (bad_items ((table_name c).text.items ∷ before) cs r rounds) h))

pub other_items : (before : List (List ℕ)) (c : Carry) (cs : List Carry) (r : Loop) (rounds : List Loop) → bad_items before (c ∷ cs) r rounds ≡ [] → bad_items ((table_name c).text.items ∷ before) cs r rounds ≡ []
other_items before c cs r rounds h =
    append_none_right (at (table_name c) (bad_item rounds r c || is_in before (table_name c).text.items)) (bad_items ((table_name c).text.items ∷ before) cs r rounds) h

-- a row that is a variable is visible, and the loop doesn't reduce it
pub rows_fixed : (p : Program) (w : Spot) (before : List (List ℕ)) (cs : List Carry) (r : Loop) (rounds : List Loop) → AllFine p (in_carries w cs) → bad_items before cs r rounds ≡ [] → RowsFixed w.scope r.reduces cs
rows_fixed p w before [] r rounds h k = tt
rows_fixed p w before (carry.Rows t i ∷ cs) r rounds h k = rows_fixed p w (t.text.items ∷ before) cs r rounds h.1 (other_items before (carry.Rows t i) cs r rounds k)
rows_fixed p w before (carry.Cells t (row.Int n) j ∷ cs) r rounds h k =
    rows_fixed p w (t.text.items ∷ before) cs r rounds h.1 (other_items before (carry.Cells t (row.Int n) j) cs r rounds k)
rows_fixed p w before (carry.Cells t (row.Var y) j ∷ cs) r rounds h k = (
  not_false (is_in w.scope y.text.items) (at_none y (not (is_in w.scope y.text.items)) h.1.0.f1),
  unreduced r.reduces y.text.items (item_row rounds r (carry.Cells t (row.Var y) j) (first_item before (carry.Cells t (row.Var y) j) cs r rounds k)),
  rows_fixed p w (t.text.items ∷ before) cs r rounds h.1.1 (other_items before (carry.Cells t (row.Var y) j) cs r rounds k),
)
