-- Each site inside a `par` keeps within that par's part of each table.
use Rattle.std.proofs.Common.{◌≡◌, ℕ, ℤ, List, [], ◌∷◌, ◌++◌, Option, Some, None, refl, sym, subst}
use Rattle.std.proofs.Common.{◌∙◌, Bool, true, false, ◌||◌, bytes_eq, ◌⊎◌, inl, inr, int_eq}
use Rattle.std.proofs.lemmas.Bool.Decides.{Decides-int_eq}
use Rattle.tp_value.specs.declared.Table.{Table}
use Rattle.loop_syntax.specs.declared.Name.{Name}
use Rattle.loop_syntax.specs.declared.Expr.{Expr}
use Rattle.loop_syntax.specs.declared.Expr.TheVariants.{Int, Var, Cell', Rows, Cols, Neg', Bin'}
use Rattle.loop_syntax.specs.declared.RowAt.TheVariants as row
use Rattle.loop_syntax.specs.declared.Carry.{Carry}
use Rattle.loop_syntax.specs.declared.Carry.TheVariants as carry
use Rattle.loop_syntax.specs.declared.Stmt.{Stmt}
use Rattle.loop_syntax.specs.declared.Program.{Program}
use Rattle.loop_rules.specs.Names.{is_in, item_of}
use Rattle.loop_rules.specs.Carries.{carries, is_var, is_int, fits, bad_read, bad_write, last_index}
use Rattle.loop_rules.specs.Leaves.{has_other, bad_lefts}
use Rattle.loop_rules.specs.Reading.{ReadsTable}
use Rattle.loop_rules.specs.Scopes.{at}
use Rattle.loop_rules.specs.Reductions.{any_loop, reduced}
use Rattle.loop_rules.specs.Sites.{Loop, Act, DeclaresTable, DeclaresFunc, DeclaresAll, Declares}
use Rattle.loop_rules.specs.Sites.{Uses, Assigns, Folds, AssignsBoth, NamesTable, ReadsCell}
use Rattle.loop_rules.specs.Sites.{WritesCell, Calls, Evaluates, Shows, Parallel, Leaves, LeavesAll, Spot, in_list}
use Rattle.loop_meaning.specs.declared.value.Answer.TheVariants.{Number}
use Rattle.loop_meaning.specs.declared.value.Variable.{Variable}
use Rattle.loop_meaning.specs.State.{State, lookup, declare}
use Rattle.loop_meaning.specs.Expressions.{eval}
use Rattle.loop_check.proofs.Bools.{no_both, not_false, and_left, and_right, or_left, or_right}
use Rattle.loop_check.proofs.Found.{found_lookup, place_in, eq_is, is_in_more}
use Rattle.loop_check.proofs.Keeps.{Mode, Fixed, ActOk, SitesOk}
use Rattle.loop_check.proofs.Fine.{Fine, AllFine, at_none, append_none_left, append_none_right}
use Rattle.loop_check.proofs.Shapes.{HeadOk, Inside, any_inside, carried, read_shape, write_shape}
use Rattle.loop_check.proofs.Shapes.{write_carried, fold_apart, item_fine, item_index}
use Rattle.loop_check.proofs.Walk.{list_walk}

-- the variable that names the row of an item
abbrev pub RowVar : Option Carry → List ℕ → Type 0
RowVar (Some (carry.Cells t (row.Var k) j)) y = y ≡ k.text.items
RowVar _ y = ⊥

-- the cells of an item, where the variables have these values
abbrev pub Region : (List ℕ → ℤ) → List ℕ → Carry → ℤ → ℤ → Type 0
Region h x (carry.Rows t i) a b = a ≡ h x
Region h x (carry.Cells t (row.Var k) j) a b = (a ≡ h k.text.items) × (b ≡ h x)
Region h x (carry.Cells t (row.Int n) j) a b = (a ≡ n) × (b ≡ h x)

abbrev pub ReadRegion : (List ℕ → ℤ) → List ℕ → Option Carry → ℤ → ℤ → Type 0
ReadRegion h x None a b = Unit
ReadRegion h x (Some c) a b = Region h x c a b

abbrev pub WriteRegion : (List ℕ → ℤ) → List ℕ → Option Carry → ℤ → ℤ → Type 0
WriteRegion h x None a b = ⊥
WriteRegion h x (Some c) a b = Region h x c a b

-- a variable that is declared outside the loop and that the loop doesn't reduce
abbrev pub Kept : Loop → List ℕ → Type 0
Kept r y = (is_in r.outside y ≡ true) × (reduced y r ≡ false)

-- the state in which the body of iteration i begins, but for the tick
abbrev pub begun : State → List ℕ → ℤ → State
begun s x i = record s { vars = declare s.vars x i }

-- what an iteration of that loop may touch of the table x, where its body begins in this state
abbrev pub mode_of : Loop → List ℕ → State → Mode
mode_of r x start = record {
  frozen = λ y. (y ≡ r.var) ⊎ Kept r y;
  stands = λ y. place_in (r.outside ++ r.var ∷ []) y;
  holds = λ y. lookup start.vars y;
  reads = λ t a b. t ≡ x → ReadRegion (λ y. lookup start.vars y) r.var (item_of r.carries x) a b;
  writes = λ t a b. t ≡ x → WriteRegion (λ y. lookup start.vars y) r.var (item_of r.carries x) a b;
  shows = Unit {0};
  tables = start.tables;
  output = start.output;
}

var_value : (a : Expr) (y : List ℕ) → is_var a y ≡ true → (vs : List Variable) (ts : List Table) (i : ℤ) → (eval vs ts a).answer ≡ Number i → lookup vs y ≡ i
var_value (Var z) y h vs ts i e = (let q : z.text.items ≡ y = eq_is z.text.items y h in let f : Number (lookup vs z.text.items) ≡ Number i = e in let g : lookup vs z.text.items ≡ i = cc in subst (λ n. lookup vs n ≡ i) q g)
var_value (Int n p) y h vs ts i e = absurd (no_both true refl (sym h))
var_value (Cell' t p a q b) y h vs ts i e = absurd (no_both true refl (sym h))
var_value (Rows t) y h vs ts i e = absurd (no_both true refl (sym h))
var_value (Cols t) y h vs ts i e = absurd (no_both true refl (sym h))
var_value (Neg' p a l) y h vs ts i e = absurd (no_both true refl (sym h))
var_value (Bin' o l p a q b) y h vs ts i e = absurd (no_both true refl (sym h))

int_same : (m n : ℤ) → int_eq m n ≡ true → m ≡ n
int_same m n h = (Decides-int_eq m n).0 h

int_value : (a : Expr) (m : ℤ) → is_int a m ≡ true → (vs : List Variable) (ts : List Table) (i : ℤ) → (eval vs ts a).answer ≡ Number i → i ≡ m
int_value (Int n p) m h vs ts i e = (let q : n ≡ m = int_same n m h in let f : Number n ≡ Number i = e in cc)
int_value (Var z) m h vs ts i e = absurd (no_both true refl (sym h))
int_value (Cell' t p a q b) m h vs ts i e = absurd (no_both true refl (sym h))
int_value (Rows t) m h vs ts i e = absurd (no_both true refl (sym h))
int_value (Cols t) m h vs ts i e = absurd (no_both true refl (sym h))
int_value (Neg' p a l) m h vs ts i e = absurd (no_both true refl (sym h))
int_value (Bin' o l p a q b) m h vs ts i e = absurd (no_both true refl (sym h))

-- a cell of the shape lies in the region
module _ (r : Loop) (x : List ℕ) (rows : (y : List ℕ) → RowVar (item_of r.carries x) y → Kept r y) (start s : State) (fixed : Fixed (mode_of r x start) s) (a b : Expr) (i j : ℤ) (ea : (eval s.vars s.tables a).answer ≡ Number i) (eb : (eval s.vars s.tables b).answer ≡ Number j) where
  kept : (y : List ℕ) → (y ≡ r.var) ⊎ Kept r y → lookup s.vars y ≡ lookup start.vars y
  kept y f = found_lookup (place_in (r.outside ++ r.var ∷ []) y) s.vars y (lookup start.vars y) (fixed.found y f)

  own : (e : Expr) (n : ℤ) (z : List ℕ) → (eval s.vars s.tables e).answer ≡ Number n → is_var e z ≡ true → z ≡ r.var → n ≡ lookup start.vars r.var
  own e n z q v k = sym (var_value e r.var (subst (λ l. is_var e l ≡ true) k v) s.vars s.tables n q) ∙ kept r.var (inl refl)

  pub in_region : (c : Carry) → item_of r.carries x ≡ Some c → last_index c ≡ r.var → fits c a b ≡ true → Region (λ y. lookup start.vars y) r.var c i j
  in_region (carry.Rows t k) is l f = own a i k.text.items ea f l
  in_region (carry.Cells t (row.Var k) v) is l f = (
    sym (var_value a k.text.items (and_left (is_var a k.text.items) (is_var b v.text.items) f) s.vars s.tables i ea) ∙ kept k.text.items (inr (rows k.text.items (subst (λ o. RowVar o k.text.items) (sym is) refl))),
    own b j v.text.items eb (and_right (is_var a k.text.items) (is_var b v.text.items) f) l,
  )
  in_region (carry.Cells t (row.Int n) v) is l f = (
    int_value a n (and_left (is_int a n) (is_var b v.text.items) f) s.vars s.tables i ea,
    own b j v.text.items eb (and_right (is_int a n) (is_var b v.text.items) f) l,
  )

module _ (prog : Program) (r : Loop) (outer : List Loop) (x : List ℕ) (start : State) (head : HeadOk r outer)
    (rows : (y : List ℕ) → RowVar (item_of r.carries x) y → Kept r y) where
  index : (c : Carry) → item_of r.carries x ≡ Some c → last_index c ≡ r.var
  index c is = item_index outer r c (item_fine x [] r.carries r outer c head.items is)

  apart_of : (z y : List ℕ) → (z ≡ y → ⊥) → bytes_eq z y ≡ false
  apart_of z y h = go (bytes_eq z y) refl
    where
      go : (b : Bool) → bytes_eq z y ≡ b → bytes_eq z y ≡ false
      go true e = absurd (h (eq_is z y e))
      go false e = e

  -- neither the loop's variable nor the row's is a target
  target_ok : (z : List ℕ) (loops : List (List ℕ)) → is_in loops r.var ≡ true → is_in loops z ≡ false → (is_in r.outside z ≡ true → reduced z r ≡ false → ⊥) → (y : List ℕ) → (y ≡ r.var) ⊎ Kept r y → bytes_eq z y ≡ false
  target_ok z loops l n h y f = apart_of z y (λ e. elim f [
    | inl q ↦ no_both (is_in loops z) (subst (λ v. is_in loops v ≡ true) (sym (e ∙ q)) l) n
    | inr q ↦ h (subst (λ v. is_in r.outside v ≡ true) (sym e) q.0) (subst (λ v. reduced v r ≡ false) (sym e) q.1)
  ])

  reads_ok : (t : Name) (a b : Expr) (w : Spot) → Inside r outer w.rounds → bad_read w.rounds t.text.items a b ≡ false → ActOk (mode_of r x start) prog (ReadsCell t a b)
  reads_ok t a b w i f = λ s m n fixed ea eb e.
      go s m n fixed ea eb (subst (λ z. bad_read w.rounds z a b ≡ false) e f) (item_of r.carries x) refl
    where
      go : (s : State) (m n : ℤ) → Fixed (mode_of r x start) s → (eval s.vars s.tables a).answer ≡ Number m → (eval s.vars s.tables b).answer ≡ Number n → bad_read w.rounds x a b ≡ false → (o : Option Carry) → item_of r.carries x ≡ o → ReadRegion (λ y. lookup start.vars y) r.var o m n
      go s m n fixed ea eb g None is = tt
      go s m n fixed ea eb g (Some c) is = in_region r x rows start s fixed a b m n ea eb c is (index c is) (read_shape r outer x c is a b w.rounds i g)

  writes_ok : (t : Name) (a b : Expr) (w : Spot) → Inside r outer w.rounds → bad_write w.rounds t.text.items a b ≡ false → ActOk (mode_of r x start) prog (WritesCell t a b)
  writes_ok t a b w i f = λ s m n fixed ea eb e.
      go s m n fixed ea eb (subst (λ z. bad_write w.rounds z a b ≡ false) e f) (item_of r.carries x) refl
    where
      go : (s : State) (m n : ℤ) → Fixed (mode_of r x start) s → (eval s.vars s.tables a).answer ≡ Number m → (eval s.vars s.tables b).answer ≡ Number n → bad_write w.rounds x a b ≡ false → (o : Option Carry) → item_of r.carries x ≡ o → WriteRegion (λ y. lookup start.vars y) r.var o m n
      go s m n fixed ea eb g None is = write_carried r outer x a b w.rounds is i g
      go s m n fixed ea eb g (Some c) is = in_region r x rows start s fixed a b m n ea eb c is (index c is) (write_shape r outer x c is a b w.rounds i g)

  calls_ok : (f : Name) (n : ℕ) (w : Spot) → Inside r outer w.rounds → Fine prog (Calls f n) w → ActOk (mode_of r x start) prog (Calls f n)
  calls_ok f n w i fine = λ t q l m e. go l m t q e (item_of r.carries x) refl
    where
      go : (l m : ℤ) (t : List ℕ) → ReadsTable prog f.text.items t → t ≡ x → (o : Option Carry) → item_of r.carries x ≡ o → ReadRegion (λ y. lookup start.vars y) r.var o l m
      go l m t q e None is = tt
      go l m t q e (Some c) is =
          absurd (fine.f8 f n refl t q (any_inside (carries t) r outer w.rounds i (subst (λ z. carries z r ≡ true) (sym e) (carried r x c is))))

  -- a spot inside the loop
  abbrev pub Within : Spot → Type 0
  Within w = Inside r outer w.rounds × (is_in w.loops r.var ≡ true)

  -- nor is what a `par` inside is left with
  left_ok : (w : Spot) → Within w → (before : List (List ℕ)) (ys : List Name) → bad_lefts before ys w ≡ [] → ActOk (mode_of r x start) prog (LeavesAll ys)
  left_ok w i before [] h y f = tt
  left_ok w i before (z ∷ ys) h y f =
      let bad = any_loop (λ q. is_in q.outside z.text.items) w.rounds || is_in w.loops z.text.items || has_other before z.text.items in
      let round = any_loop (λ q. is_in q.outside z.text.items) w.rounds in
      let none = at_none z bad (append_none_left (at z bad) (bad_lefts (z.text.items ∷ before) ys w) h) in
      let both = or_left (round || is_in w.loops z.text.items) (has_other before z.text.items) none in (
        target_ok z.text.items w.loops i.1 (or_right round (is_in w.loops z.text.items) both)
            (λ o n. no_both round (any_inside (λ q. is_in q.outside z.text.items) r outer w.rounds i.0 o) (or_left round (is_in w.loops z.text.items) both)) y f,
        left_ok w i (z.text.items ∷ before) ys (append_none_right (at z bad) (bad_lefts (z.text.items ∷ before) ys w) h) y f,
      )

  pub site_ok : (a : Act) (w : Spot) → Fine prog a w → Within w → ActOk (mode_of r x start) prog a
  site_ok (ReadsCell t a b) w f i = reads_ok t a b w i.0 (at_none t _ f.f5)
  site_ok (WritesCell t a b) w f i = writes_ok t a b w i.0 (at_none t _ f.f4)
  site_ok (Assigns y) w f i =
      target_ok y.text.items w.loops i.1 (at_none y _ f.f10) (λ o n. no_both (any_loop (λ q. is_in q.outside y.text.items) w.rounds)
      (any_inside (λ q. is_in q.outside y.text.items) r outer w.rounds i.0 o) (at_none y _ f.f2))
  site_ok (Folds y) w f i =
      target_ok y.text.items w.loops i.1 (at_none y _ f.f10) (λ o n. fold_apart r outer y.text.items w.rounds i.0 o n (not_false _ (at_none y _ f.f3)))
  site_ok (Calls c n) w f i = calls_ok c n w i.0 f
  site_ok (DeclaresTable t) w f i = tt
  site_ok (DeclaresFunc d) w f i = tt
  site_ok (DeclaresAll ys) w f i = tt
  site_ok (Declares y) w f i = tt
  site_ok (Uses y) w f i = tt
  site_ok (AssignsBoth y z) w f i = tt
  site_ok (NamesTable t) w f i = tt
  site_ok (Evaluates e) w f i = tt
  site_ok (Shows p) w f i = tt
  site_ok (Parallel p q l) w f i = tt
  site_ok (Leaves y) w f i = tt
  site_ok (LeavesAll ys) w f i = left_ok w i [] ys f.f12

  -- all the sites of a body
  pub list_inner : (w : Spot) → Within w → (ss : List Stmt) → AllFine prog (in_list w ss) → SitesOk (mode_of r x start) prog (in_list w ss)
  list_inner w i ss h =
      list_walk (Fine prog) (λ a w. ActOk (mode_of r x start) prog a) Within site_ok
      (λ w y i. i)
      (λ w y i. (i.0, is_in_more w.loops y.text.items r.var i.1))
      (λ w y cs rs p q f c i. (inr (record { items = f.f6; targets = f.f3 }, i.0), is_in_more w.loops y.text.items r.var i.1))
      w i ss h
