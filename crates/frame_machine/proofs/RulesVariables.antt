-- What the rules on variables say inside the body of a `par`, and in a function that it calls.
use Rattle.std.proofs.Common.{◌≡◌, ℕ, List, [], ◌∷◌, ◌++◌, ◌⊎◌, inl, inr, Option, Some, None, refl}
use Rattle.std.proofs.Common.{sym, ap, subst, ◌∙◌, Bool, true, false, ◌||◌, cond, bytes_eq}
use Rattle.tp_value.specs.declared.Op.{Op}
use Rattle.tp_value.specs.declared.Op.TheVariants.{Add, Mul, Min, Max, Affine}
use Rattle.loop_syntax.specs.declared.Name.{Name}
use Rattle.loop_syntax.specs.declared.Reduce.{Reduce}
use Rattle.loop_syntax.specs.declared.Program.{Program}
use Rattle.loop_rules.specs.Names.{is_in, operator_of}
use Rattle.loop_rules.specs.Reductions.{any_loop, same_op, some_op, reduced, other_operator}
use Rattle.loop_rules.specs.Reductions.{reduced_otherwise, bad_targets}
use Rattle.loop_rules.specs.Scopes.{at}
use Rattle.loop_rules.specs.Leaves.{has_other, bad_lefts}
use Rattle.loop_rules.specs.Sites.{Loop, Act, Declares, Uses, Assigns, Folds, Parallel, LeavesAll}
use Rattle.loop_rules.specs.Sites.{Spot}
use Rattle.loop_rules.specs.Sites.{the_loop}
use Rattle.loop_check.proofs.Lists.{Each}
use Rattle.loop_check.proofs.Bools.{no_both, not_false, or_left, or_right}
use Rattle.loop_check.proofs.Found.{eq_is, is_in_end, is_in_more}
use Rattle.loop_check.proofs.Fine.{Fine, at_none, append_none_left, append_none_right}
use Rattle.loop_check.proofs.Inner.{Kept}
use Rattle.loop_check.proofs.Shapes.{HeadOk, Inside, any_inside, fold_apart}
use Rattle.frame_machine.specs.Bodies.{Unreduced, SameOp, FoldsBy, MayAssign, AndVar, NoVariable}
use Rattle.frame_machine.specs.Lawful.{FixedIn, TargetsIn}
use Rattle.frame_machine.proofs.RulesNames.{new_unreduced}
use Rattle.frame_machine.proofs.RulesWalk.{VariableRules}

-- ---- operators

same_is : (o q : Op) → same_op o q ≡ true → q ≡ o
same_is Add Add h = refl
same_is Mul Mul h = refl
same_is Min Min h = refl
same_is Max Max h = refl
same_is Affine Affine h = refl
same_is Add Mul h = absurd (no_both true refl (sym h))
same_is Add Min h = absurd (no_both true refl (sym h))
same_is Add Max h = absurd (no_both true refl (sym h))
same_is Add Affine h = absurd (no_both true refl (sym h))
same_is Mul Add h = absurd (no_both true refl (sym h))
same_is Mul Min h = absurd (no_both true refl (sym h))
same_is Mul Max h = absurd (no_both true refl (sym h))
same_is Mul Affine h = absurd (no_both true refl (sym h))
same_is Min Add h = absurd (no_both true refl (sym h))
same_is Min Mul h = absurd (no_both true refl (sym h))
same_is Min Max h = absurd (no_both true refl (sym h))
same_is Min Affine h = absurd (no_both true refl (sym h))
same_is Max Add h = absurd (no_both true refl (sym h))
same_is Max Mul h = absurd (no_both true refl (sym h))
same_is Max Min h = absurd (no_both true refl (sym h))
same_is Max Affine h = absurd (no_both true refl (sym h))
same_is Affine Add h = absurd (no_both true refl (sym h))
same_is Affine Mul h = absurd (no_both true refl (sym h))
same_is Affine Min h = absurd (no_both true refl (sym h))
same_is Affine Max h = absurd (no_both true refl (sym h))

-- a reduced variable is reduced by no other operator round
op_agrees : (qs : List Reduce) (x : List ℕ) (before : List (List ℕ)) (rs : List Loop) (o : Op) → bad_targets before qs rs ≡ [] → operator_of qs x ≡ Some o → (q : Reduce) × (q.target.text.items ≡ x) × (q.op ≡ o) × (any_loop (other_operator q) rs ≡ false)
op_agrees [] x before rs o h k = absurd (cc)
op_agrees (q ∷ qs) x before rs o h k =
    let bad = any_loop (other_operator q) rs || any_loop (reduced_otherwise q) rs || is_in before q.target.text.items in
    let own = at_none q.target bad (append_none_left (at q.target bad) (bad_targets (q.target.text.items ∷ before) qs rs) h) in
    let later = append_none_right (at q.target bad) (bad_targets (q.target.text.items ∷ before) qs rs) h in
    go (λ l. op_agrees qs x (q.target.text.items ∷ before) rs o later l)
    (or_left (any_loop (other_operator q) rs) (any_loop (reduced_otherwise q) rs)
    (or_left (any_loop (other_operator q) rs || any_loop (reduced_otherwise q) rs) (is_in before q.target.text.items) own))
    (bytes_eq q.target.text.items x) refl k
  where
    go : (operator_of qs x ≡ Some o → (q : Reduce) × (q.target.text.items ≡ x) × (q.op ≡ o) × (any_loop (other_operator q) rs ≡ false)) → any_loop (other_operator q) rs ≡ false → (b : Bool) → bytes_eq q.target.text.items x ≡ b → cond b (Some q.op) (operator_of qs x) ≡ Some o
        → (q : Reduce) × (q.target.text.items ≡ x) × (q.op ≡ o) × (any_loop (other_operator q) rs ≡ false)
    go f own true e l = (q, eq_is q.target.text.items x e, (let z : q.op ≡ o = cc in z), own)
    go f own false e l = f l

-- ---- reductions inside a loop

-- the reduce list of the nearest loop
abbrev pub nearest_of : List Loop → List Reduce
nearest_of [] = []
nearest_of (r ∷ rs) = r.reduces

module _ (r0 : Loop) (outer : List Loop) where
  not_reduced : (x : List ℕ) (rounds : List Loop) → Inside r0 outer rounds → any_loop (reduced x) rounds ≡ false → Unreduced r0.reduces x
  not_reduced x rounds i h = go (operator_of r0.reduces x) refl
    where
      go : (o : Option Op) → operator_of r0.reduces x ≡ o → o ≡ None
      go None e = refl
      go (Some o) e = absurd (no_both (any_loop (reduced x) rounds) (any_inside (reduced x) r0 outer rounds i (ap some_op e)) h)

  folds_at : (x : List ℕ) (rounds : List Loop) → Inside r0 outer rounds → FoldsBy r0.reduces x (operator_of (nearest_of rounds) x)
  folds_at x [] i = absurd i
  folds_at x (r ∷ rs) i = go (operator_of r.reduces x) refl
    where
      at_own : (o : Op) → operator_of r.reduces x ≡ Some o → r ≡ r0 → (z : Option Op) → operator_of r0.reduces x ≡ z → SameOp o z
      at_own o e q None f = tt
      at_own o e q (Some p) f = (let k : Some p ≡ Some o = sym f ∙ subst (λ (l : Loop). operator_of l.reduces x ≡ Some o) q e in cc)

      within : (o : Op) → operator_of r.reduces x ≡ Some o → HeadOk r rs → Inside r0 outer rs → (z : Option Op) → operator_of r0.reduces x ≡ z → SameOp o z
      within o e head k None f = tt
      within o e head k (Some p) f =
          let a = op_agrees r.reduces x [] rs o head.targets e in
          let here : operator_of r0.reduces a.0.target.text.items ≡ Some p = ap (operator_of r0.reduces) a.1 ∙ f in
          let other : other_operator a.0 r0 ≡ false = unless (other_operator a.0) rs k a.3 in
          let same : same_op a.0.op p ≡ true = not_false (same_op a.0.op p) (rw (here) at other) in
          same_is a.0.op p same ∙ a.2
        where
          unless : (f : Loop → Bool) (rs : List Loop) → Inside r0 outer rs → any_loop f rs ≡ false → f r0 ≡ false
          unless f rs k h = none (f r0) refl
            where
              none : (b : Bool) → f r0 ≡ b → b ≡ false
              none false e = refl
              none true e = absurd (no_both (any_loop f rs) (any_inside f r0 outer rs k e) h)

      go : (o : Option Op) → operator_of r.reduces x ≡ o → FoldsBy r0.reduces x o
      go None e = tt
      go (Some o) e = elim i [
        | inl q ↦ at_own o e q.0 (operator_of r0.reduces x) refl
        | inr k ↦ within o e k.0 k.1 (operator_of r0.reduces x) refl
      ]

-- ---- the sites of a body

-- the variables that a loop fixes are its own, and those round it that it doesn't reduce
pub fixed_kept : (r0 : Loop) (loops : List (List ℕ)) (y : List ℕ) → FixedIn r0.outside r0.reduces r0.var y → Kept r0 y ⊎ (is_in (loops ++ r0.var ∷ []) y ≡ true)
fixed_kept r0 loops y f = elim f [
  | inl k ↦ inl (k.0, ap some_op k.1)
  | inr e ↦ inr (subst (λ u. is_in (loops ++ r0.var ∷ []) u ≡ true) (sym e) (is_in_end loops r0.var))
]

-- what holds of a variable that is fixed, or the loop's
and_loop : (P : List ℕ → Type 0) (F : List ℕ → Type 0) (loops : List (List ℕ)) (x : List ℕ) → ((y : List ℕ) → F y → P y ⊎ (is_in loops y ≡ true)) → (y : List ℕ) → AndVar F x y → P y ⊎ (is_in (loops ++ x ∷ []) y ≡ true)
and_loop P F loops x f y h = elim h [
  | inl g ↦ elim (f y g) [ inl k ↦ inl k | inr l ↦ inr (is_in_more loops x y l) ]
  | inr e ↦ inr (subst (λ u. is_in (loops ++ x ∷ []) u ≡ true) (sym e) (is_in_end loops x))
]

module _ (p : Program) (G : Act → Spot → Type 0) (fine : (a : Act) (w : Spot) → G a w → Fine p a w) where
  -- what is fixed is no target
  no_target : (P : List ℕ → Type 0) (w : Spot) (F : List ℕ → Type 0) (x : Name) → ((y : List ℕ) → F y → P y ⊎ (is_in w.loops y ≡ true)) → is_in w.loops x.text.items ≡ false → (P x.text.items → ⊥) → F x.text.items → ⊥
  no_target P w F x fixed l k f = elim (fixed x.text.items f) [ inl q ↦ k q | inr q ↦ no_both (is_in w.loops x.text.items) q l ]

  -- a target of a `par` that is left, and those behind it
  no_left : (before : List (List ℕ)) (z : Name) (ys : List Name) (w : Spot) → bad_lefts before (z ∷ ys) w ≡ []
      → (any_loop (λ q. is_in q.outside z.text.items) w.rounds ≡ false) × (is_in w.loops z.text.items ≡ false) × (bad_lefts (z.text.items ∷ before) ys w ≡ [])
  no_left before z ys w h =
      let round = any_loop (λ q. is_in q.outside z.text.items) w.rounds in
      let bad = round || is_in w.loops z.text.items || has_other before z.text.items in
      let none = at_none z bad (append_none_left (at z bad) (bad_lefts (z.text.items ∷ before) ys w) h) in
      let both = or_left (round || is_in w.loops z.text.items) (has_other before z.text.items) none in
      (or_left round (is_in w.loops z.text.items) both, or_right round (is_in w.loops z.text.items) both, append_none_right (at z bad) (bad_lefts (z.text.items ∷ before) ys w) h)

  unless : (b : Bool) → (b ≡ true → ⊥) → b ≡ false
  unless false h = refl
  unless true h = absurd (h refl)

  -- ---- inside a loop

  module _ (r0 : Loop) (outer : List Loop) where
    -- a spot in its body, with the variables that are never assigned and the nearest reduce list
    pub record Inner (F : List ℕ → Type 0) (rs : List Reduce) (w : Spot) : Type 0 where
      pub inside : Inside r0 outer w.rounds
      pub near : rs ≡ nearest_of w.rounds
      pub fixed : (y : List ℕ) → F y → Kept r0 y ⊎ (is_in w.loops y ≡ true)

    -- what a `par` inside is left with
    inner_lefts : TargetsIn r0.outside r0.reduces → (F : List ℕ → Type 0) (w : Spot) → Inside r0 outer w.rounds → ((y : List ℕ) → F y → Kept r0 y ⊎ (is_in w.loops y ≡ true)) → (before : List (List ℕ)) (ys : List Name) → bad_lefts before ys w ≡ []
        → Each (λ (x : Name). MayAssign r0.reduces F x.text.items) ys
    inner_lefts visible F w i fixed before [] h = tt
    inner_lefts visible F w i fixed before (z ∷ ys) h =
        let n = no_left before z ys w h in
        let apart : is_in r0.outside z.text.items ≡ false = unless (is_in r0.outside z.text.items) (λ o.
        no_both (any_loop (λ q. is_in q.outside z.text.items) w.rounds) (any_inside (λ q. is_in q.outside z.text.items) r0 outer w.rounds i o) n.0) in (
          (new_unreduced r0.outside r0.reduces z.text.items visible apart, no_target (Kept r0) w F z fixed n.1 (λ k. no_both (is_in r0.outside z.text.items) k.0 apart)),
          inner_lefts visible F w i fixed (z.text.items ∷ before) ys n.2,
        )

    -- where what it reduces is visible round it
    pub inner_variables : TargetsIn r0.outside r0.reduces → VariableRules G r0.reduces Inner
    inner_variables visible = record {
      used = λ F rs w x i h. not_reduced r0 outer x.text.items w.rounds i.inside (at_none x _ (fine (Uses x) w h).f3);
      declared = λ F rs w x i h. not_reduced r0 outer x.text.items w.rounds i.inside (at_none x _ (fine (Declares x) w h).f3);
      assigned = λ F rs w x i h.
          let f = fine (Assigns x) w h in (
            not_reduced r0 outer x.text.items w.rounds i.inside (at_none x _ f.f3),
            no_target (Kept r0) w F x i.fixed (at_none x _ f.f10) (λ k.
                no_both (any_loop (λ q. is_in q.outside x.text.items) w.rounds) (any_inside (λ q. is_in q.outside x.text.items) r0 outer w.rounds i.inside k.0) (at_none x _ f.f2)),
          );
      folded = λ F rs w x i h. subst (λ qs. FoldsBy r0.reduces x.text.items (operator_of qs x.text.items)) (sym i.near) (folds_at r0 outer x.text.items w.rounds i.inside);
      free = λ F rs w x i h.
          let f = fine (Folds x) w h in
          no_target (Kept r0) w F x i.fixed (at_none x _ f.f10) (λ k. fold_apart r0 outer x.text.items w.rounds i.inside k.0 k.1 (not_false _ (at_none x _ f.f3)));
      left = λ F rs w xs i h. inner_lefts visible F w i.inside i.fixed [] xs (fine (LeavesAll xs) w h).f12;
      after_let = λ F rs w x i. record { inside = i.inside; near = i.near; fixed = i.fixed };
      into_loop = λ F rs w x i. record {
        inside = i.inside;
        near = i.near;
        fixed = λ y f. elim (i.fixed y f) [ inl k ↦ inl k | inr l ↦ inr (is_in_more w.loops x.text.items y l) ];
      };
      into_par = λ F rs w x cs qs y z i h.
          let f = fine (Parallel y z (the_loop w x cs qs)) w h in
          record {
            inside = inr (record { items = f.f6; targets = f.f3 }, i.inside);
            near = refl;
            fixed = and_loop (Kept r0) F w.loops x.text.items i.fixed;
          };
    }

  -- ---- in a function, where no loop is cut

  any_fold : (x : List ℕ) (o : Option Op) → FoldsBy [] x o
  any_fold x None = tt
  any_fold x (Some o) = tt

  pub record Alone (F : List ℕ → Type 0) (rs : List Reduce) (w : Spot) : Type 0 where
    pub fixed : (y : List ℕ) → F y → NoVariable y ⊎ (is_in w.loops y ≡ true)

  alone_lefts : (F : List ℕ → Type 0) (w : Spot) → ((y : List ℕ) → F y → NoVariable y ⊎ (is_in w.loops y ≡ true)) → (before : List (List ℕ)) (ys : List Name) → bad_lefts before ys w ≡ [] → Each (λ (x : Name). MayAssign [] F x.text.items) ys
  alone_lefts F w fixed before [] h = tt
  alone_lefts F w fixed before (z ∷ ys) h =
      let n = no_left before z ys w h in
      ((refl, no_target NoVariable w F z fixed n.1 (λ k. k)), alone_lefts F w fixed (z.text.items ∷ before) ys n.2)

  pub alone_variables : VariableRules G [] Alone
  alone_variables = record {
    used = λ F rs w x i h. refl;
    declared = λ F rs w x i h. refl;
    assigned = λ F rs w x i h. (refl, no_target NoVariable w F x i.fixed (at_none x _ (fine (Assigns x) w h).f10) (λ k. k));
    folded = λ F rs w x i h. any_fold x.text.items (operator_of rs x.text.items);
    free = λ F rs w x i h. no_target NoVariable w F x i.fixed (at_none x _ (fine (Folds x) w h).f10) (λ k. k);
    left = λ F rs w xs i h. alone_lefts F w i.fixed [] xs (fine (LeavesAll xs) w h).f12;
    after_let = λ F rs w x i. record { fixed = i.fixed };
    into_loop = λ F rs w x i. record { fixed = λ y f. elim (i.fixed y f) [ inl k ↦ inl k | inr l ↦ inr (is_in_more w.loops x.text.items y l) ] };
    into_par = λ F rs w x cs qs y z i h. record { fixed = and_loop NoVariable F w.loops x.text.items i.fixed };
  }
