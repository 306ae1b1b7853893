-- What stands round a statement where no rule is broken: each fixed variable is that of a loop, or the nearest
-- `par` doesn't let its body set it.
use Rattle.std.proofs.Common.{◌≡◌, ◌≢◌, ℕ, zero, suc, ◌+◌, ◌<◌, Bool, true, false, cond, List, []}
use Rattle.std.proofs.Common.{◌∷◌, ◌++◌, length, bytes_eq, Option, None, Some, ◌⊎◌, inl, inr}
use Rattle.std.proofs.Common.{⊎_elim, refl, sym, ap, subst, ◌∙◌, arith}
use Rattle.std.specs.Prelude.{◌||◌, ◌&&◌, not, nat_le, slice_index_or}
use Rattle.std.specs.List.{AllByRecursion}
use Rattle.std.proofs.lemmas.Bool.Decides.{nat_tests}
use Rattle.std.proofs.lemmas.Bool.{true≢false}
use Rattle.std.proofs.lemmas.List.{length-append}
use Rattle.tp_value.specs.declared.limits.TheConstants.{MAX_PAR_NESTING}
use Rattle.tp_value.specs.declared.Op.{Op}
use Rattle.tp_value.specs.declared.Place.{Place}
use Rattle.loop_syntax.specs.declared.Carry.{Carry}
use Rattle.loop_syntax.specs.declared.Name.{Name}
use Rattle.loop_syntax.specs.declared.Reduce.{Reduce}
use Rattle.loop_syntax.specs.declared.Stmt.{Stmt}
use Rattle.loop_syntax.specs.declared.Stmt.TheVariants.{Let}
use Rattle.loop_rules.specs.Names.{is_in, operator_of}
use Rattle.loop_rules.specs.Reductions.{any_loop, is_op, some_op, reduced, nearest_reduces}
use Rattle.loop_rules.specs.Reductions.{other_operator, reduced_otherwise, bad_targets}
use Rattle.loop_rules.specs.Scopes.{at, loop_targets}
use Rattle.loop_rules.specs.Sites.{Loop, Assigns, Folds, Parallel, Spot, site, the_loop, in_loop}
use Rattle.loop_rules.specs.Sites.{in_par}
use Rattle.loop_check.proofs.Bools.{or_left, not_false, no_both}
use Rattle.loop_check.proofs.Fine.{at_none, append_none_left, append_none_right}
use Rattle.loop_check.proofs.Found.{eq_self, eq_is, is_in_end, is_in_more}
use Rattle.frame_machine.specs.Lawful.{TargetsIn}
use Rattle.scene_laws.specs.Names.{level_of}
use Rattle.scene_laws.specs.Names.{names_after}
use Rattle.scene_laws.specs.Round.{Round, loop_round, unreduced, par_round}
use Rattle.scene_laws.proofs.Counts.Lists.{all_both}
use Rattle.code_laws.proofs.Rules.UnbrokenExpressions.{Keeps, chosen_none}
use Rattle.code_laws.proofs.Rules.UnbrokenSpots.{with_names}
use Rattle.scene_laws.proofs.Scenes.Levels.{get_before, get_last, at_level}

-- ---- variables that may not be set

-- a variable stands outside the nearest `par`, which doesn't reduce it
abbrev Stays : List Loop → List ℕ → Type 0
Stays [] x = ⊥
Stays (r ∷ rs) x = (is_in r.outside x ≡ true) × (reduced x r ≡ false)

-- a variable is that of a loop, or stays
abbrev IsKept : Spot → List ℕ → Type 0
IsKept w x = (is_in w.loops x ≡ true) ⊎ Stays w.rounds x

outside_set : (rounds : List Loop) (x : List ℕ)
    → any_loop (λ r. is_in r.outside x) rounds ≡ false → Stays rounds x → ⊥
outside_set [] x none stays = stays
outside_set (r ∷ rs) x none stays = no_both (is_in r.outside x) stays.0 (or_left _ _ none)

outside_folded : (rounds : List Loop) (x : List ℕ) → nearest_reduces rounds x ≡ true
    → Stays rounds x → ⊥
outside_folded [] x is stays = stays
outside_folded (r ∷ rs) x is stays = no_both (reduced x r) is stays.1

-- a variable that is set is not kept, nor is one that is folded into
set_not_kept : (w : Spot) (x : Name) → Keeps (site w (Assigns x)) → IsKept w x.text.items → ⊥
set_not_kept w x k = ⊎_elim
    (λ is. no_both (is_in w.loops x.text.items) is (at_none x _ k.loops))
    (outside_set w.rounds x.text.items (at_none x _ k.sets))

folded_not_kept : (w : Spot) (x : Name) → Keeps (site w (Folds x)) → IsKept w x.text.items → ⊥
folded_not_kept w x k = ⊎_elim
    (λ is. no_both (is_in w.loops x.text.items) is (at_none x _ k.loops))
    (outside_folded w.rounds x.text.items
    (not_false (nearest_reduces w.rounds x.text.items) (at_none x _ k.reductions)))

-- ---- in the body of a `par`

middle : (a b c : Bool) → (a || b || c) ≡ false → b ≡ false
middle true true c h = h
middle false true c h = h
middle a false c h = refl

-- a test that fails though its first part holds
second_fails : (a b : Bool) → (a && not b) ≡ false → a ≡ true → b ≡ true
second_fails true b h is = not_false b h
second_fails false b h is = absurd (no_both false is refl)

some_of_op : (o : Op) (of : Option Op) → is_op o of ≡ true → some_op of ≡ true
some_of_op o None h = h
some_of_op o (Some p) h = refl

-- a variable that stays is reduced by no `par` inside
still_unreduced : (reduces : List Reduce) (before : List (List ℕ)) (rounds : List Loop) (x : List ℕ)
    → bad_targets before reduces rounds ≡ [] → Stays rounds x
    → some_op (operator_of reduces x) ≡ false
still_unreduced [] before rounds x none stays = refl
still_unreduced (q ∷ qs) before [] x none stays = absurd stays
still_unreduced (q ∷ qs) before (r ∷ rs) x none stays =
    go (bytes_eq q.target.text.items x) refl
    (still_unreduced qs (q.target.text.items ∷ before) (r ∷ rs) x
    (append_none_right (at q.target bad) _ none) stays)
  where
    bad : Bool
    bad = any_loop (other_operator q) (r ∷ rs) || any_loop (reduced_otherwise q) (r ∷ rs)
        || is_in before q.target.text.items

    agrees : is_in r.outside q.target.text.items ≡ true → reduced q.target.text.items r ≡ true
    agrees outside =
        some_of_op q.op (operator_of r.reduces q.target.text.items)
        (second_fails (is_in r.outside q.target.text.items) _
        (or_left _ _ (middle (any_loop (other_operator q) (r ∷ rs)) _ _
        (at_none q.target bad (append_none_left (at q.target bad) _ none))))
        outside)

    go : (b : Bool) → bytes_eq q.target.text.items x ≡ b → some_op (operator_of qs x) ≡ false
        → some_op (cond b (Some q.op) (operator_of qs x)) ≡ false
    go true e others =
        let is : q.target.text.items ≡ x = eq_is q.target.text.items x e in
        absurd (no_both (reduced x r)
        (subst (λ y. reduced y r ≡ true) is
        (agrees (subst (λ y. is_in r.outside y ≡ true) (sym is) stays.0)))
        stays.1)
    go false e others = others

-- ---- levels

-- the variables at these levels are as told
abbrev AreAll : List (List ℕ) → (List ℕ → Type 0) → List ℕ → Type 0
AreAll names told levels =
    AllByRecursion (λ j. (j < length names) × told (slice_index_or names j [])) levels

is_in_at : (names : List (List ℕ)) (j : ℕ) → j < length names
    → is_in names (slice_index_or names j []) ≡ true
is_in_at [] j below = absurd (omega arith)
is_in_at (y ∷ ys) zero below = rw (eq_self y) refl
is_in_at (y ∷ ys) (suc j) below =
    go (bytes_eq y (slice_index_or ys j [])) (is_in_at ys j (omega arith))
  where
    go : (b : Bool) → is_in ys (slice_index_or ys j []) ≡ true
        → (b || is_in ys (slice_index_or ys j [])) ≡ true
    go true h = refl
    go false h = h

-- where one more variable is visible
all_more : (names : List (List ℕ)) (x : List ℕ) (told also : List ℕ → Type 0)
    → ((y : List ℕ) → is_in names y ≡ true → told y → also y) → (levels : List ℕ)
    → AreAll names told levels → AreAll (names ++ x ∷ []) also levels
all_more names x told also so [] h = tt
all_more names x told also so (j ∷ js) h = (
  (
    omega (arith, length-append names (x ∷ []), h.0.0),
    subst also (sym (get_before names x j h.0.0))
        (so (slice_index_or names j []) (is_in_at names j h.0.0) h.0.1),
  ),
  all_more names x told also so js h.1,
)

-- what holds of the level of each variable that isn't reduced
all_unreduced : (names : List (List ℕ)) (level : ℕ) (reduces : List Reduce) (P : ℕ → Type 0)
    → ((j : ℕ) → j < length names
    → some_op (operator_of reduces (slice_index_or names j [])) ≡ false → P (level + j))
    → AllByRecursion P (unreduced names level reduces)
all_unreduced [] level reduces P f = tt
all_unreduced (x ∷ xs) level reduces P f =
    go (some_op (operator_of reduces x)) refl
    (all_unreduced xs (suc level) reduces P
    (λ j below none. subst P (omega arith) (f (suc j) (omega (arith, below)) none)))
  where
    go : (b : Bool) → some_op (operator_of reduces x) ≡ b
        → AllByRecursion P (unreduced xs (suc level) reduces)
        → AllByRecursion P (cond b [] (level ∷ []) ++ unreduced xs (suc level) reduces)
    go true e rest = rest
    go false e rest = (subst P (omega arith) (f 0 (omega arith) e), rest)

unreduced_kept : (names : List (List ℕ)) (x : List ℕ) (reduces : List Reduce)
    (told : List ℕ → Type 0) → ((y : List ℕ) → is_in names y ≡ true
    → some_op (operator_of reduces y) ≡ false → told y)
    → AreAll (names ++ x ∷ []) told (unreduced names 0 reduces)
unreduced_kept names x reduces told so =
    all_unreduced names 0 reduces _ (λ j below none.
    let same : j ≡ 0 + j = omega arith in
    subst (λ (i : ℕ). (i < length (names ++ x ∷ [])) × told (slice_index_or (names ++ x ∷ []) i []))
    same (
      omega (arith, below, length-append names (x ∷ [])),
      subst told (sym (get_before names x j below))
          (so (slice_index_or names j []) (is_in_at names j below) none),
    ))

-- ---- what stands round a statement

-- the variable of a loop is kept in its body
own_kept : (names loops : List (List ℕ)) (rounds : List Loop) (x : List ℕ)
    → AreAll (names ++ x ∷ []) (λ y. (is_in (loops ++ x ∷ []) y ≡ true) ⊎ Stays rounds y)
    (length names ∷ [])
own_kept names loops rounds x = (
  (
    omega (arith, length-append names (x ∷ [])),
    subst (λ y. (is_in (loops ++ x ∷ []) y ≡ true) ⊎ Stays rounds y) (sym (get_last names x))
        (inl (is_in_end loops x)),
  ),
  tt,
)

-- so much stands round the statements at a spot
pub record Around (w : Spot) (round : Round) : Type 0 where
  pub deep : round.depth ≡ w.depth
  pub kept : AreAll w.scope (IsKept w) round.fixed

pub around_after : (w : Spot) (round : Round) (s : Stmt) → Around w round
    → Around (with_names w (names_after w.scope s)) round
around_after w round (Let x e) around = record {
  deep = around.deep;
  kept = all_more w.scope x.text.items (IsKept w) (IsKept w) (λ y seen kept. kept) round.fixed
      around.kept;
}
around_after w round _ around = record { deep = around.deep; kept = around.kept }

pub around_loop : (w : Spot) (round : Round) (x : Name) → Around w round
    → Around (in_loop w x) (loop_round round (length w.scope))
around_loop w round x around = record {
  deep = around.deep;
  kept = (
    (own_kept w.scope w.loops w.rounds x.text.items).0,
    all_more w.scope x.text.items (IsKept w) (IsKept (in_loop w x))
        (λ y seen. ⊎_elim (λ is. inl (is_in_more w.loops x.text.items y is)) inr) round.fixed
        around.kept,
  );
}

pub around_par : (w : Spot) (round : Round) (x : Name) (carries : List Carry)
    (reduces : List Reduce) (place word : Place)
    → Keeps (site w (Parallel place word (the_loop w x carries reduces))) → Around w round
    → Around (in_par w x carries reduces) (par_round round w.scope reduces)
around_par w round x carries reduces place word k around = record {
  deep = ap suc around.deep;
  kept = (
    (own_kept w.scope w.loops within.rounds x.text.items).0,
    all_both _ (unreduced w.scope 0 reduces) round.fixed
        (unreduced_kept w.scope x.text.items reduces (IsKept within)
        (λ y seen none. inr (seen, none)))
        (all_more w.scope x.text.items (IsKept w) (IsKept within) stay round.fixed around.kept),
  );
}
  where
    within : Spot
    within = in_par w x carries reduces

    stay : (y : List ℕ) → is_in w.scope y ≡ true → IsKept w y → IsKept within y
    stay y seen = ⊎_elim (λ is. inl (is_in_more w.loops x.text.items y is))
        (λ stays. inr (seen, still_unreduced reduces [] w.rounds y k.reductions stays))

-- few `par` loops stand round one
pub shallow : (w : Spot) (round : Round) (place word : Place) (l : Loop)
    → Keeps (site w (Parallel place word l)) → Around w round → round.depth < MAX_PAR_NESTING
shallow w round place word l k around =
    below round.depth w.depth around.deep
    (chosen_none (nat_le MAX_PAR_NESTING w.depth) place
    (append_none_left (cond (nat_le MAX_PAR_NESTING w.depth) (place ∷ []) []) _ k.limits))
  where
    below : (n m : ℕ) → n ≡ m → nat_le MAX_PAR_NESTING m ≡ false → n < MAX_PAR_NESTING
    below n m same few = grind (arith, nat_tests)

-- a variable that isn't kept is none of those at the fixed levels
not_fixed : (names : List (List ℕ)) (told : List ℕ → Type 0) (x : List ℕ) (fixed : List ℕ)
    → is_in names x ≡ true → (told x → ⊥) → AreAll names told fixed
    → AllByRecursion (λ j. j ≢ level_of names x) fixed
not_fixed names told x [] seen never h = tt
not_fixed names told x (j ∷ js) seen never h = (
  λ (e : j ≡ level_of names x). never (subst told
      (ap (λ (k : ℕ). slice_index_or names k []) e ∙ (at_level names x seen).1) h.0.1),
  not_fixed names told x js seen never h.1,
)

pub set_free : (w : Spot) (round : Round) (x : Name) → Around w round
    → is_in w.scope x.text.items ≡ true → Keeps (site w (Assigns x))
    → AllByRecursion (λ j. j ≢ level_of w.scope x.text.items) round.fixed
set_free w round x around seen k =
    not_fixed w.scope (IsKept w) x.text.items round.fixed seen (set_not_kept w x k) around.kept

pub folded_free : (w : Spot) (round : Round) (x : Name) → Around w round
    → is_in w.scope x.text.items ≡ true → Keeps (site w (Folds x))
    → AllByRecursion (λ j. j ≢ level_of w.scope x.text.items) round.fixed
folded_free w round x around seen k =
    not_fixed w.scope (IsKept w) x.text.items round.fixed seen (folded_not_kept w x k) around.kept

-- nor is one that a `par` reduces
pub reduced_free : (w : Spot) (round : Round) (before : List (List ℕ)) (rs : List Reduce)
    → Around w round → TargetsIn w.scope rs → loop_targets w.loops rs ≡ []
    → bad_targets before rs w.rounds ≡ []
    → AllByRecursion
    (λ r. AllByRecursion (λ j. j ≢ level_of w.scope r.target.text.items) round.fixed) rs
reduced_free w round before [] around seen loops targets = tt
reduced_free w round before (r ∷ rs) around seen loops targets = (
  not_fixed w.scope (IsKept w) x round.fixed seen.0
      (⊎_elim
      (λ is. no_both (is_in w.loops x) is
      (at_none r.target (is_in w.loops x)
      (append_none_left (at r.target (is_in w.loops x)) (loop_targets w.loops rs) loops)))
      (λ stays. reduces_it (still_unreduced (r ∷ rs) before w.rounds x targets stays)))
      around.kept,
  reduced_free w round (x ∷ before) rs around seen.1
      (append_none_right (at r.target (is_in w.loops x)) (loop_targets w.loops rs) loops)
      (append_none_right (at r.target bad) (bad_targets (x ∷ before) rs w.rounds) targets),
)
  where
    x : List ℕ
    x = r.target.text.items

    bad : Bool
    bad = any_loop (other_operator r) w.rounds || any_loop (reduced_otherwise r) w.rounds
        || is_in before x

    reduces_it : some_op (cond (bytes_eq x x) (Some r.op) (operator_of rs x)) ≡ false → ⊥
    reduces_it none = let is : true ≡ false = rw (eq_self x) at none in true≢false is
