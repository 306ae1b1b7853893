-- Where the upper part begins: the variables round the loop, with units for those that it reduces.
use Rattle.frame_machine.proofs.Bends.{Bend, Goes, Keeps, bent, keeps_assign, keeps_refl}
use Rattle.frame_machine.proofs.Bends.{keeps_trans, name_is}
use Rattle.frame_machine.proofs.Ranges.{Around, Cut, Over}
use Rattle.frame_machine.specs.Bodies.{SameOp, Unreduced}
use Rattle.frame_machine.specs.Joins.{combined, combined_by, names_of, units_for}
use Rattle.frame_machine.specs.Lawful.{Callable, Distinct, DistinctTargets, FixedIn, Lawful}
use Rattle.frame_machine.specs.Lawful.{RowsFixed, modes_in}
use Rattle.frame_machine.specs.Modes.{AllOfMode, Closed, Fixed, Mode, Modes, Named, OwnCell, OwnRow}
use Rattle.frame_machine.specs.Modes.{Whole, demoted, inner_modes}
use Rattle.loop_meaning.specs.Frames.{with_accs}
use Rattle.loop_meaning.specs.State.{assign, lookup}
use Rattle.loop_meaning.specs.declared.value.Variable.{Variable}
use Rattle.loop_rules.specs.Names.{is_in, operator_of}
use Rattle.loop_syntax.specs.declared.Carry.{Carry}
use Rattle.loop_syntax.specs.declared.ParLoop.{ParLoop}
use Rattle.loop_syntax.specs.declared.Program.{Program}
use Rattle.loop_syntax.specs.declared.Reduce.{Reduce}
use Rattle.reduce_ops.specs.Laws.{combine-assoc}
use Rattle.reduce_ops.specs.Reduction.{combine, unit}
use Rattle.std.proofs.Common.{Bool, List, None, Option, Some, [], ap, arith, bytes_eq, cond, false}
use Rattle.std.proofs.Common.{inl, inr, length, refl, subst, suc, sym, true, ℕ, ℤ, ◌||◌, ◌∙◌, ◌∷◌}
use Rattle.std.proofs.Common.{◌≡◌}
use Rattle.std.proofs.lemmas.Slice.Eq.{bytes_eq-Decides}
use Rattle.std.specs.Prelude.{⊤}
use Rattle.tp_value.specs.declared.Op.{Op}
use Rattle.loop_syntax.specs.declared.RowAt.TheVariants as row
use Rattle.loop_syntax.specs.declared.Carry.TheVariants as carry

-- ---- the accumulators of the lower part before those of the upper part

abbrev pub bend_by : Option Op → ℤ → ℤ → ℤ
bend_by None a n = n
bend_by (Some o) a n = combine o a n

abbrev pub bend_of : List Reduce → (List ℕ → ℤ) → Bend
bend_of rs a y n = bend_by (operator_of rs y) (a y) n

pub goes_bend : (rs : List Reduce) (a : List ℕ → ℤ) → Goes rs (bend_of rs a)
goes_bend rs a = record {
  plain = λ x e n. ap (λ q. bend_by q (a x) n) e;
  folds = λ x o s m n. go x o m n (operator_of rs x) s;
}
  where
    go : (x : List ℕ) (o : Op) (m n : ℤ) (q : Option Op) → SameOp o q → bend_by q (a x) (combine o m n) ≡ combine o (bend_by q (a x) m) n
    go x o m n None s = refl
    go x o m n (Some q) s = subst (λ p. combine p (a x) (combine o m n) ≡ combine o (combine p (a x) m) n) (sym s) (sym (combine-assoc o (a x) m n))

-- ---- names

pub names_assign : (vs : List Variable) (x : List ℕ) (n : ℤ) → names_of (assign vs x n) ≡ names_of vs
names_assign [] x n = refl
names_assign (v ∷ vs) x n = go (bytes_eq v.name x) (names_assign vs x n)
  where
    go : (b : Bool) → names_of (assign vs x n) ≡ names_of vs → names_of (cond b (record { name = v.name; value = n } ∷ vs) (v ∷ assign vs x n)) ≡ names_of (v ∷ vs)
    go true r = refl
    go false r = ap (λ ns. v.name ∷ ns) r

pub names_kept : (F : List ℕ → Type 0) (vs ws : List Variable) → Keeps F vs ws → length ws ≡ length vs → names_of ws ≡ names_of vs
names_kept F [] [] k l = refl
names_kept F [] (w ∷ ws) k l = absurd (omega (arith, l))
names_kept F (v ∷ vs) [] k l = absurd k
names_kept F (v ∷ vs) (w ∷ ws) k l = ap (λ n. n ∷ names_of ws) k.0 ∙ ap (λ ns. v.name ∷ ns) (names_kept F vs ws k.2 (omega (arith, l)))

unequal : (x y : List ℕ) → bytes_eq x y ≡ false → bytes_eq y x ≡ false
unequal x y e = go (bytes_eq y x) refl
  where
    go : (b : Bool) → bytes_eq y x ≡ b → b ≡ false
    go true q = absurd (let z : true ≡ false = sym ((bytes_eq-Decides x y).1 (sym (name_is y x q))) ∙ e in cc)
    go false q = refl

-- ---- variables with units

abbrev pub UnitAt : Option Op → ℤ → ℤ → Type 0
UnitAt None m n = n ≡ m
UnitAt (Some o) m n = n ≡ unit o

-- us are the variables vs with units for the reduced ones
abbrev pub Units : List Reduce → List Variable → List Variable → Type 0
Units rs [] [] = ⊤
Units rs [] (u ∷ us) = ⊥
Units rs (v ∷ vs) [] = ⊥
Units rs (v ∷ vs) (u ∷ us) = (u.name ≡ v.name) × UnitAt (operator_of rs v.name) v.value u.value × Units rs vs us

-- a variable round the loop that it doesn't reduce is fixed
abbrev pub FixedRound : (List ℕ → Type 0) → List Reduce → List Variable → Type 0
FixedRound F rs [] = ⊤
FixedRound F rs (v ∷ vs) = (Unreduced rs v.name → F v.name) × FixedRound F rs vs

-- a gives each variable's value
abbrev pub At : (List ℕ → ℤ) → List Variable → Type 0
At a [] = ⊤
At a (w ∷ ws) = (a w.name ≡ w.value) × At a ws

-- the unit stands on the right of each accumulator
abbrev pub UnitsRight : List Reduce → (List ℕ → ℤ) → Type 0
UnitsRight rs a = (y : List ℕ) (o : Op) → operator_of rs y ≡ Some o → combine o (a y) (unit o) ≡ a y

variable_is : (w : Variable) (n : List ℕ) (m : ℤ) → n ≡ w.name → m ≡ w.value → w ≡ record { name = n; value = m }
variable_is w n m e f = sym (ap (λ z. record { name = z; value = m }) e ∙ ap (λ z. record { name = w.name; value = z }) f)

-- from units the lower part's end is what the upper part begins with, with the accumulators before
pub begins_bent : (F : List ℕ → Type 0) (rs : List Reduce) (a : List ℕ → ℤ) → UnitsRight rs a → (vs us ws : List Variable) → Units rs vs us → Keeps F vs ws → length ws ≡ length vs → FixedRound F rs vs → At a ws → ws ≡ bent (bend_of rs a) us
begins_bent F rs a r [] [] [] u k l f at = refl
begins_bent F rs a r [] [] (w ∷ ws) u k l f at = absurd (omega (arith, l))
begins_bent F rs a r [] (u ∷ us) ws p k l f at = absurd p
begins_bent F rs a r (v ∷ vs) [] ws p k l f at = absurd p
begins_bent F rs a r (v ∷ vs) (u ∷ us) [] p k l f at = absurd k
begins_bent F rs a r (v ∷ vs) (u ∷ us) (w ∷ ws) p k l f at =
    ap (λ z. w ∷ z) (begins_bent F rs a r vs us ws p.2 k.2 (omega (arith, l)) f.1 at.1)
    ∙ ap (λ z. z ∷ bent (bend_of rs a) us) (variable_is w u.name (bend_of rs a u.name u.value) (p.0 ∙ sym k.0) (go (operator_of rs v.name) refl p.1))
  where
    go : (q : Option Op) → operator_of rs v.name ≡ q → UnitAt q v.value u.value → bend_of rs a u.name u.value ≡ w.value
    go None e z = ap (λ y. bend_of rs a y u.value) p.0 ∙ ap (λ y. bend_by y (a v.name) u.value) e ∙ z ∙ sym (k.1 (f.0 e))
    go (Some o) e z =
        ap (λ y. bend_of rs a y u.value) p.0 ∙ ap (λ y. bend_by y (a v.name) u.value) e ∙ ap (combine o (a v.name)) z ∙ r v.name o e ∙ ap a (sym k.0) ∙ at.0

-- at the end the upper part's variables with the accumulators before are those of both parts combined
pub bent_combined : (F : List ℕ → Type 0) (rs : List Reduce) (a : List ℕ → ℤ) (vs ws us : List Variable) → Keeps F vs ws → length ws ≡ length vs → Keeps F vs us → length us ≡ length vs → FixedRound F rs vs → At a ws → bent (bend_of rs a) us ≡ combined rs ws us
bent_combined F rs a [] [] [] k l j m f at = refl
bent_combined F rs a [] [] (u ∷ us) k l j m f at = absurd (omega (arith, m))
bent_combined F rs a [] (w ∷ ws) us k l j m f at = absurd (omega (arith, l))
bent_combined F rs a (v ∷ vs) [] us k l j m f at = absurd k
bent_combined F rs a (v ∷ vs) (w ∷ ws) [] k l j m f at = absurd j
bent_combined F rs a (v ∷ vs) (w ∷ ws) (u ∷ us) k l j m f at =
    ap (λ z. record { name = u.name; value = bend_of rs a u.name u.value } ∷ z) (bent_combined F rs a vs ws us k.2 (omega (arith, l)) j.2 (omega (arith, m)) f.1 at.1)
    ∙ ap (λ n. record { name = n; value = bend_of rs a n u.value } ∷ combined rs ws us) (j.0 ∙ sym k.0)
    ∙ ap (λ n. record { name = w.name; value = n } ∷ combined rs ws us) (go (operator_of rs w.name) refl)
  where
    go : (q : Option Op) → operator_of rs w.name ≡ q → bend_by q (a w.name) u.value ≡ combined_by q w.value u.value
    go None e = let g = f.0 (ap (operator_of rs) (sym k.0) ∙ e) in j.1 g ∙ sym (k.1 g)
    go (Some o) e = ap (λ n. combine o n u.value) at.0

-- a target that names none of the variables makes no difference
units_more : (r : Reduce) (rs : List Reduce) (vs us : List Variable) → is_in (names_of vs) r.target.text.items ≡ false → Units rs vs us → Units (r ∷ rs) vs us
units_more r rs [] [] h p = tt
units_more r rs [] (u ∷ us) h p = absurd p
units_more r rs (v ∷ vs) [] h p = absurd p
units_more r rs (v ∷ vs) (u ∷ us) h p = go (bytes_eq v.name r.target.text.items) refl (λ k. units_more r rs vs us k p.2)
  where
    go : (b : Bool) → bytes_eq v.name r.target.text.items ≡ b → (is_in (names_of vs) r.target.text.items ≡ false → Units (r ∷ rs) vs us) → Units (r ∷ rs) (v ∷ vs) (u ∷ us)
    go true e k = absurd (let z : true ≡ false = (rw e at h) in cc)
    go false e k =
        let f : bytes_eq r.target.text.items v.name ≡ false = unequal v.name r.target.text.items e in
        (p.0, subst (λ b. UnitAt (cond b (Some r.op) (operator_of rs v.name)) v.value u.value) (sym f) p.1, k (rw e at h))

units_step : (r : Reduce) (rs : List Reduce) (vs us : List Variable) → Distinct (names_of vs) → operator_of rs r.target.text.items ≡ None → Units rs (assign vs r.target.text.items (unit r.op)) us → Units (r ∷ rs) vs us
units_step r rs [] [] d o p = tt
units_step r rs [] (u ∷ us) d o p = absurd p
units_step r rs (v ∷ vs) us d o p = go (bytes_eq v.name r.target.text.items) refl us p (λ ws. units_step r rs vs ws d.1 o)
  where
    go : (b : Bool) → bytes_eq v.name r.target.text.items ≡ b → (us : List Variable) → Units rs (cond b (record { name = v.name; value = unit r.op } ∷ vs) (v ∷ assign vs r.target.text.items (unit r.op))) us
        → ((ws : List Variable) → Units rs (assign vs r.target.text.items (unit r.op)) ws → Units (r ∷ rs) vs ws) → Units (r ∷ rs) (v ∷ vs) us
    go true e [] p k = absurd p
    go false e [] p k = absurd p
    go true e (u ∷ us) p k =
        let n : v.name ≡ r.target.text.items = name_is v.name r.target.text.items e in
        let f : bytes_eq r.target.text.items v.name ≡ true = (bytes_eq-Decides r.target.text.items v.name).1 (sym n) in
        let q : u.value ≡ unit r.op = subst (λ w. UnitAt w (unit r.op) u.value) (ap (operator_of rs) n ∙ o) p.1 in
        (p.0, subst (λ b. UnitAt (cond b (Some r.op) (operator_of rs v.name)) v.value u.value) (sym f) q, units_more r rs vs us (ap (is_in (names_of vs)) (sym n) ∙ d.0) p.2)
    go false e (u ∷ us) p k =
        let f : bytes_eq r.target.text.items v.name ≡ false = unequal v.name r.target.text.items e in
        (p.0, subst (λ b. UnitAt (cond b (Some r.op) (operator_of rs v.name)) v.value u.value) (sym f) p.1, k us p.2)

units_none : (vs : List Variable) → Units [] vs vs
units_none [] = tt
units_none (v ∷ vs) = (refl, refl, units_none vs)

pub units_accs : (rs : List Reduce) (vs : List Variable) → DistinctTargets rs → Distinct (names_of vs) → Units rs vs (with_accs rs (units_for rs) vs)
units_accs [] vs t d = units_none vs
units_accs (r ∷ rs) vs t d =
    units_step r rs vs (with_accs rs (units_for rs) (assign vs r.target.text.items (unit r.op))) d t.0
    (units_accs rs (assign vs r.target.text.items (unit r.op)) t.1 (subst Distinct (sym (names_assign vs r.target.text.items (unit r.op))) d))

-- ---- looking up in distinct variables

at_more : (w : Variable) (all ws : List Variable) → is_in (names_of ws) w.name ≡ false → At (lookup all) ws → At (lookup (w ∷ all)) ws
at_more w all [] h p = tt
at_more w all (v ∷ ws) h p = go (bytes_eq v.name w.name) refl (λ k. at_more w all ws k p.1)
  where
    go : (b : Bool) → bytes_eq v.name w.name ≡ b → (is_in (names_of ws) w.name ≡ false → At (lookup (w ∷ all)) ws) → At (lookup (w ∷ all)) (v ∷ ws)
    go true e k = absurd (let z : true ≡ false = (rw e at h) in cc)
    go false e k = (two (bytes_eq w.name v.name) refl, k (rw e at h))
      where
        two : (b : Bool) → bytes_eq w.name v.name ≡ b → cond b w.value (lookup all v.name) ≡ v.value
        two true q = absurd (let z : true ≡ false = sym ((bytes_eq-Decides v.name w.name).1 (sym (name_is w.name v.name q))) ∙ e in cc)
        two false q = p.0

pub at_lookup : (ws : List Variable) → Distinct (names_of ws) → At (lookup ws) ws
at_lookup [] d = tt
at_lookup (w ∷ ws) d = (ap (λ b. cond b w.value (lookup ws w.name)) ((bytes_eq-Decides w.name w.name).1 refl), at_more w ws ws d.0 (at_lookup ws d.1))

-- ---- the variables round the loop, with accumulators in the reduced ones

length_assign : (vs : List Variable) (x : List ℕ) (n : ℤ) → length (assign vs x n) ≡ length vs
length_assign [] x n = refl
length_assign (v ∷ vs) x n = go (bytes_eq v.name x) (length_assign vs x n)
  where
    go : (b : Bool) → length (assign vs x n) ≡ length vs → length (cond b (record { name = v.name; value = n } ∷ vs) (v ∷ assign vs x n)) ≡ suc (length vs)
    go true r = refl
    go false r = ap suc r

-- no reduced variable is fixed
abbrev pub NoneFixed : (List ℕ → Type 0) → List Reduce → Type 0
NoneFixed F [] = ⊤
NoneFixed F (r ∷ rs) = (F r.target.text.items → ⊥) × NoneFixed F rs

pub accs_around : (F : List ℕ → Type 0) (rs : List Reduce) (xs : List (Op × ℤ)) (vs : List Variable) → NoneFixed F rs → Around F vs (with_accs rs xs vs)
accs_around F [] xs vs n = record { keeps = keeps_refl F vs; size = refl }
accs_around F (r ∷ rs) [] vs n = record { keeps = keeps_refl F vs; size = refl }
accs_around F (r ∷ rs) (a ∷ xs) vs n =
    let q = accs_around F rs xs (assign vs r.target.text.items a.1) n.1 in
    record {
      keeps = keeps_trans F vs (assign vs r.target.text.items a.1) (with_accs rs xs (assign vs r.target.text.items a.1)) (keeps_assign F vs r.target.text.items a.1 n.0) q.keeps;
      size = q.size ∙ length_assign vs r.target.text.items a.1;
    }

-- ---- what the definition of a lawful `par` gives

-- each of these is given its operator by the whole list
abbrev pub Ops : List Reduce → List Reduce → Type 0
Ops all [] = ⊤
Ops all (r ∷ rs) = (operator_of all r.target.text.items ≡ Some r.op) × Ops all rs

ops_more : (r : Reduce) (all rs : List Reduce) → operator_of all r.target.text.items ≡ None → Ops all rs → Ops (r ∷ all) rs
ops_more r all [] e p = tt
ops_more r all (q ∷ rs) e p = (go (bytes_eq r.target.text.items q.target.text.items) refl, ops_more r all rs e p.1)
  where
    go : (b : Bool) → bytes_eq r.target.text.items q.target.text.items ≡ b → cond b (Some r.op) (operator_of all q.target.text.items) ≡ Some q.op
    go true f = absurd (let z : None ≡ Some q.op = sym e ∙ ap (operator_of all) (name_is r.target.text.items q.target.text.items f) ∙ p.0 in cc)
    go false f = p.0

pub ops_all : (rs : List Reduce) → DistinctTargets rs → Ops rs rs
ops_all [] d = tt
ops_all (r ∷ rs) d = (ap (λ b. cond b (Some r.op) (operator_of rs r.target.text.items)) ((bytes_eq-Decides r.target.text.items r.target.text.items).1 refl), ops_more r rs rs d.0 (ops_all rs d.1))

module _ (outside : List (List ℕ)) (rs : List Reduce) (x : List ℕ) where
  fixed_round : (vs : List Variable) → ((y : List ℕ) → is_in (names_of vs) y ≡ true → is_in outside y ≡ true) → FixedRound (FixedIn outside rs x) rs vs
  fixed_round [] f = tt
  fixed_round (v ∷ vs) f = (
    λ e. inl (f v.name (ap (λ b. b || is_in (names_of vs) v.name) ((bytes_eq-Decides v.name v.name).1 refl)), e),
    fixed_round vs (λ y h. f y (go (bytes_eq v.name y) (is_in (names_of vs) y) h)),
  )
    where
      go : (b c : Bool) → c ≡ true → (b || c) ≡ true
      go true c h = refl
      go false c h = h

  none_fixed : Unreduced rs x → (qs : List Reduce) → Ops rs qs → NoneFixed (FixedIn outside rs x) qs
  none_fixed u [] o = tt
  none_fixed u (r ∷ qs) o = (λ f. go f, none_fixed u qs o.1)
    where
      go : FixedIn outside rs x r.target.text.items → ⊥
      go (inl p) = absurd (let z : None ≡ Some r.op = sym p.1 ∙ o.0 in cc)
      go (inr e) = absurd (let z : None ≡ Some r.op = sym u ∙ ap (operator_of rs) (sym e) ∙ o.0 in cc)

  other : is_in outside x ≡ false → (k : List ℕ) → is_in outside k ≡ true → x ≡ k → ⊥
  other f k h e = absurd (let z : true ≡ false = sym h ∙ sym (ap (is_in outside) e) ∙ f in cc)

  demoted_over : (md : Mode) → Over (FixedIn outside rs x) x (demoted md)
  demoted_over Whole = tt
  demoted_over Closed = tt
  demoted_over (OwnRow z) = tt
  demoted_over (OwnCell k z) = tt

  rows_over : is_in outside x ≡ false → (outer : Modes) (cs : List Carry) → RowsFixed outside rs cs → (y : List ℕ) → Over (FixedIn outside rs x) x (inner_modes cs x outer y)
  rows_over f outer [] c y = demoted_over (outer y)
  rows_over f outer (carry.Rows t i ∷ cs) c y = go (bytes_eq t.text.items y) (rows_over f outer cs c y)
    where
      go : (b : Bool) → Over (FixedIn outside rs x) x (inner_modes cs x outer y) → Over (FixedIn outside rs x) x (cond b (OwnRow x) (inner_modes cs x outer y))
      go true r = refl
      go false r = r
  rows_over f outer (carry.Cells t (row.Var k) j ∷ cs) c y = go (bytes_eq t.text.items y) (rows_over f outer cs c.2 y)
    where
      go : (b : Bool) → Over (FixedIn outside rs x) x (inner_modes cs x outer y) → Over (FixedIn outside rs x) x (cond b (OwnCell (Named k.text.items) x) (inner_modes cs x outer y))
      go true r = (refl, inl (c.0, c.1), other f k.text.items c.0)
      go false r = r
  rows_over f outer (carry.Cells t (row.Int n) j ∷ cs) c y = go (bytes_eq t.text.items y) (rows_over f outer cs c y)
    where
      go : (b : Bool) → Over (FixedIn outside rs x) x (inner_modes cs x outer y) → Over (FixedIn outside rs x) x (cond b (OwnCell (Fixed n) x) (inner_modes cs x outer y))
      go true r = (refl, tt, tt)
      go false r = r

  over_held : (md : Mode) → Over (FixedIn outside rs x) x md → AllOfMode (FixedIn outside rs x) md
  over_held Whole o = tt
  over_held Closed o = tt
  over_held (OwnRow z) o = inr o
  over_held (OwnCell k z) o = (o.1, inr o.0)

module _ (p : Program) (outer : Modes) (l : ParLoop) (vs : List Variable) (rules : Lawful p outer (names_of vs) l) where
  abbrev pub fixed : List ℕ → Type 0
  fixed = FixedIn (names_of vs) l.reduces.items l.var.text.items

  pub lawful_cut : Cut p.funcs.items l.var.text.items l.reduces.items l.body.items fixed (Callable p (modes_in outer l)) (modes_in outer l) vs
  lawful_cut =
      let over = rows_over (names_of vs) l.reduces.items l.var.text.items rules.fresh outer l.carries.items rules.rows in
      record {
        fresh = rules.fresh;
        plain = rules.plain;
        over = over;
        held = λ y. over_held (names_of vs) l.reduces.items l.var.text.items (modes_in outer l y) (over y);
        fine = rules.body;
        safe = rules.functions;
      }

  pub lawful_round : FixedRound fixed l.reduces.items vs
  lawful_round = fixed_round (names_of vs) l.reduces.items l.var.text.items vs (λ y h. h)

  pub lawful_reduced : NoneFixed fixed l.reduces.items
  lawful_reduced = none_fixed (names_of vs) l.reduces.items l.var.text.items rules.plain l.reduces.items (ops_all l.reduces.items rules.targets)
