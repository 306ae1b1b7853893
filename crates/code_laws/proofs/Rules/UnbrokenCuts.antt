-- A `par` can be cut where no rule is broken.
use Rattle.std.proofs.Common.{◌≡◌, ◌≢◌, ℕ, zero, suc, ◌≤◌, Bool, true, false, cond, List, [], ◌∷◌}
use Rattle.std.proofs.Common.{◌++◌}
use Rattle.std.proofs.Common.{length, map, bytes_eq, None, Some, refl, sym, subst, ◌∙◌, arith}
use Rattle.std.specs.Prelude.{◌||◌, not, drop, IsTrue}
use Rattle.std.specs.List.{AllByRecursion}
use Rattle.std.proofs.lemmas.List.{length-map}
use Rattle.tp_value.specs.declared.limits.TheConstants.{MAX_CARRIES}
use Rattle.tp_value.specs.declared.limits.TheConstants.{MAX_REDUCTIONS}
use Rattle.tp_value.specs.declared.Place.{Place}
use Rattle.loop_syntax.specs.declared.Carry.{Carry}
use Rattle.loop_syntax.specs.declared.Carry.TheVariants as carry
use Rattle.loop_syntax.specs.declared.Name.{Name}
use Rattle.loop_syntax.specs.declared.Reduce.{Reduce}
use Rattle.loop_syntax.specs.declared.RowAt.TheVariants as row
use Rattle.loop_rules.specs.Carries.{bad_item, bad_items}
use Rattle.loop_rules.specs.Limits.{first_name, past}
use Rattle.loop_rules.specs.Names.{is_in, operator_of, table_name, texts}
use Rattle.loop_rules.specs.Reductions.{any_loop, bad_targets, other_operator, reduced_otherwise}
use Rattle.loop_rules.specs.Scopes.{at, unseen_targets}
use Rattle.loop_rules.specs.Sites.{Loop, Parallel, Spot, site, in_carries, the_loop}
use Rattle.loop_check.proofs.Bools.{no_both, not_false, or_right}
use Rattle.loop_check.proofs.Fine.{append_none_left, append_none_right, at_none}
use Rattle.loop_check.proofs.Found.{eq_is, eq_self}
use Rattle.loop_check.proofs.Lists.{Each}
use Rattle.frame_machine.specs.Bodies.{Unreduced}
use Rattle.frame_machine.specs.Lawful.{Distinct, DistinctTargets, TargetsIn}
use Rattle.code_laws.specs.Fitting.{CanBeCut, IsFree}
use Rattle.scene_laws.specs.Names.{level_of}
use Rattle.scene_laws.specs.Layout.{Entry}
use Rattle.scene_laws.specs.Round.{Round}
use Rattle.scene_laws.specs.Sites.{carried_table}
use Rattle.code_laws.proofs.Rules.UnbrokenExpressions.{Keeps, named_table}
use Rattle.code_laws.proofs.Rules.UnbrokenRounds.{Around, reduced_free}
use Rattle.scene_laws.proofs.Scenes.Levels.{at_level}

-- ---- reduce lists

targets_in : (vs : List (List ℕ)) (rs : List Reduce) → unseen_targets vs rs ≡ [] → TargetsIn vs rs
targets_in vs [] none = tt
targets_in vs (r ∷ rs) none =
    let x : List ℕ = r.target.text.items in
    let own : List Place = at r.target (not (is_in vs x)) in (
      not_false (is_in vs x)
          (at_none r.target (not (is_in vs x)) (append_none_left own (unseen_targets vs rs) none)),
      targets_in vs rs (append_none_right own (unseen_targets vs rs) none),
    )

-- the first test of a reduce list, and what follows
module _ (before : List (List ℕ)) (r : Reduce) (rs : List Reduce) (rounds : List Loop)
    (none : bad_targets before (r ∷ rs) rounds ≡ []) where
  abbrev others : Bool
  others = any_loop (other_operator r) rounds || any_loop (reduced_otherwise r) rounds

  abbrev first : List Place
  first = at r.target (others || is_in before r.target.text.items)

  abbrev rest : List Place
  rest = bad_targets (r.target.text.items ∷ before) rs rounds

  is_new : is_in before r.target.text.items ≡ false
  is_new =
      or_right others (is_in before r.target.text.items)
      (at_none r.target (others || is_in before r.target.text.items)
      (append_none_left first rest none))

  later : rest ≡ []
  later = append_none_right first rest none

seen_first : (b : Bool) (before : List (List ℕ)) (x : List ℕ) → is_in before x ≡ true
    → (b || is_in before x) ≡ true
seen_first true before x seen = refl
seen_first false before x seen = seen

-- what stands before isn't named again
not_again : (before : List (List ℕ)) (rs : List Reduce) (rounds : List Loop) (x : List ℕ)
    → bad_targets before rs rounds ≡ [] → is_in before x ≡ true → Unreduced rs x
not_again before [] rounds x none seen = refl
not_again before (r ∷ rs) rounds x none seen =
    go (not_again (r.target.text.items ∷ before) rs rounds x (later before r rs rounds none)
    (seen_first (bytes_eq r.target.text.items x) before x seen))
    (bytes_eq r.target.text.items x) refl
  where
    go : Unreduced rs x → (b : Bool) → bytes_eq r.target.text.items x ≡ b
        → cond b (Some r.op) (operator_of rs x) ≡ None
    go behind true e =
        let same : is_in before x ≡ false =
        subst (λ y. is_in before y ≡ false) (eq_is r.target.text.items x e)
        (is_new before r rs rounds none) in
        absurd (no_both (is_in before x) seen same)
    go behind false e = behind

distinct_targets : (before : List (List ℕ)) (rs : List Reduce) (rounds : List Loop)
    → bad_targets before rs rounds ≡ [] → DistinctTargets rs
distinct_targets before [] rounds none = tt
distinct_targets before (r ∷ rs) rounds none =
    let x : List ℕ = r.target.text.items in
    let behind : bad_targets (x ∷ before) rs rounds ≡ [] = later before r rs rounds none in (
      not_again (x ∷ before) rs rounds x behind (rw (eq_self x) refl),
      distinct_targets (x ∷ before) rs rounds behind,
    )

-- ---- carry lists

carried_in : (w : Spot) (cs : List Carry) → Each Keeps (in_carries w cs)
    → AllByRecursion (λ c. IsTrue (is_in (texts w.tables) (carried_table c))) cs
carried_in w [] k = tt
carried_in w (carry.Rows t i ∷ cs) k = (named_table w t k.0, carried_in w cs k.1)
carried_in w (carry.Cells t (row.Var y) j ∷ cs) k = (named_table w t k.0, carried_in w cs k.1.1)
carried_in w (carry.Cells t (row.Int n) j ∷ cs) k = (named_table w t k.0, carried_in w cs k.1)

table_is : (c : Carry) → carried_table c ≡ (table_name c).text.items
table_is (carry.Rows t i) = refl
table_is (carry.Cells t k j) = refl

-- the first test of a carry list, and what follows
module _ (before : List (List ℕ)) (c : Carry) (cs : List Carry) (r : Loop) (rounds : List Loop)
    (none : bad_items before (c ∷ cs) r rounds ≡ []) where
  abbrev own_item : List Place
  own_item = at (table_name c) (bad_item rounds r c || is_in before (table_name c).text.items)

  abbrev rest_items : List Place
  rest_items = bad_items ((table_name c).text.items ∷ before) cs r rounds

  item_new : is_in before (table_name c).text.items ≡ false
  item_new =
      or_right (bad_item rounds r c) (is_in before (table_name c).text.items)
      (at_none (table_name c) (bad_item rounds r c || is_in before (table_name c).text.items)
      (append_none_left own_item rest_items none))

  later_items : rest_items ≡ []
  later_items = append_none_right own_item rest_items none

no_item_again : (before : List (List ℕ)) (cs : List Carry) (r : Loop) (rounds : List Loop)
    (t : List ℕ) → bad_items before cs r rounds ≡ [] → is_in before t ≡ true
    → is_in (map carried_table cs) t ≡ false
no_item_again before [] r rounds t none seen = refl
no_item_again before (c ∷ cs) r rounds t none seen =
    go (no_item_again ((table_name c).text.items ∷ before) cs r rounds t
    (later_items before c cs r rounds none)
    (seen_first (bytes_eq (table_name c).text.items t) before t seen))
    (bytes_eq (carried_table c) t) refl
  where
    go : is_in (map carried_table cs) t ≡ false → (b : Bool) → bytes_eq (carried_table c) t ≡ b
        → (b || is_in (map carried_table cs) t) ≡ false
    go behind true e =
        let is : (table_name c).text.items ≡ t = sym (table_is c) ∙ eq_is (carried_table c) t e in
        absurd (no_both (is_in before t) seen
        (subst (λ u. is_in before u ≡ false) is (item_new before c cs r rounds none)))
    go behind false e = behind

distinct_items : (before : List (List ℕ)) (cs : List Carry) (r : Loop) (rounds : List Loop)
    → bad_items before cs r rounds ≡ [] → Distinct (map carried_table cs)
distinct_items before [] r rounds none = tt
distinct_items before (c ∷ cs) r rounds none =
    let t : List ℕ = (table_name c).text.items in
    let behind : bad_items (t ∷ before) cs r rounds ≡ [] =
    later_items before c cs r rounds none in (
      no_item_again (t ∷ before) cs r rounds (carried_table c) behind
          (rw (table_is c, eq_self t) refl),
      distinct_items (t ∷ before) cs r rounds behind,
    )

-- ---- both

-- no name stands past a limit
pub short_enough : (m : ℕ) (xs : List Name) → first_name (drop m xs) ≡ [] → length xs ≤ m
short_enough zero [] h = omega arith
short_enough zero (x ∷ xs) h = absurd (cc)
short_enough (suc m) [] h = omega arith
short_enough (suc m) (x ∷ xs) h = let less : length xs ≤ m = short_enough m xs h in omega arith

-- the reduced variables are visible, and none of the fixed ones
reduced_all_free : (tables : List (List ℕ)) (functions : List Entry) (most : ℕ)
    (names : List (List ℕ)) (fixed : List ℕ) (rs : List Reduce) → length names ≤ most
    → TargetsIn names rs
    → AllByRecursion
    (λ r. AllByRecursion (λ j. j ≢ level_of names r.target.text.items) fixed) rs
    → AllByRecursion (λ r. IsFree tables functions most names fixed r.target.text.items) rs
reduced_all_free tables functions most names fixed [] room seen free = tt
reduced_all_free tables functions most names fixed (r ∷ rs) room seen free = (
  record {
    seen = seen.0;
    below = omega (arith, room, (at_level names r.target.text.items seen.0).0);
    free = free.0;
  },
  reduced_all_free tables functions most names fixed rs room seen.1 free.1,
)

pub can_be_cut : (functions : List Entry) (most : ℕ) (w : Spot) (round : Round) (x : Name)
    (cs : List Carry) (rs : List Reduce) (place word : Place) → Around w round
    → length w.scope ≤ most → Keeps (site w (Parallel place word (the_loop w x cs rs)))
    → Each Keeps (in_carries w cs)
    → CanBeCut (texts w.tables) functions most w.scope round.fixed rs cs
can_be_cut functions most w round x cs rs place word around room k carries =
    let targets : List Name = map (λ d. d.target) rs in
    let names : List Name = map table_name cs in
    let seen : TargetsIn w.scope rs = targets_in w.scope rs k.names in
    let few : past MAX_REDUCTIONS targets ++ past MAX_CARRIES names ≡ [] =
    append_none_right _ (past MAX_REDUCTIONS targets ++ past MAX_CARRIES names) k.limits in
    record {
      few_reduces = omega (
        arith,
        short_enough MAX_REDUCTIONS targets
            (append_none_left (past MAX_REDUCTIONS targets) (past MAX_CARRIES names) few),
        length-map rs (λ (d : Reduce). d.target),
      );
      few_carries = omega (
        arith,
        short_enough MAX_CARRIES names
            (append_none_right (past MAX_REDUCTIONS targets) (past MAX_CARRIES names) few),
        length-map cs table_name,
      );
      reduced = reduced_all_free (texts w.tables) functions most w.scope round.fixed rs room seen
          (reduced_free w round [] rs around seen k.loops k.reductions);
      reduced_differ = distinct_targets [] rs w.rounds k.reductions;
      carried_seen = carried_in w cs carries;
      carried_differ = distinct_items [] cs (the_loop w x cs rs) w.rounds k.items;
    }
