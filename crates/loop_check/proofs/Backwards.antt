-- Going over the clauses of a `par`, with what stood before.
use Rattle.std.proofs.Common.{◌≡◌, ◌<◌, ◌+◌, ◌++◌, ◌∷◌, [], ℕ, suc, List, map, take, drop}
use Rattle.std.proofs.Common.{drop-cons, add-one, length, get_or, Option, refl, sym, ap, ◌∙◌, Bool}
use Rattle.std.proofs.Common.{true, false, ◌||◌, bytes_eq}
use Rattle.std.proofs.Math.Seq.{take-suc}
use Rattle.loop_syntax.specs.declared.Carry.{Carry}
use Rattle.loop_syntax.specs.declared.Reduce.{Reduce}
use Rattle.loop_rules.specs.Names.{is_in, table_name}
use Rattle.loop_rules.specs.Sites.{Loop}
use Rattle.loop_rules.specs.Scopes.{at}
use Rattle.loop_rules.specs.Reductions.{any_loop, other_operator, reduced_otherwise, bad_targets}
use Rattle.loop_rules.specs.Carries.{bad_item, bad_items}
use Rattle.loop_rules.specs.declared.fault.Fault.{Fault}
use Rattle.loop_rules.specs.declared.rule.Rule.TheVariants.{Reductions, CarryLists}
use Rattle.loop_rules.specs.Search.{lowest}
use Rattle.loop_check.specs.Walk.{targets_of, carried_tables}
use Rattle.loop_rules.proofs.Searching.{lowest_append}

-- the names of a list, the last one first, before others
abbrev pub onto : {A : Type 0} → (A → List ℕ) → List A → List (List ℕ) → List (List ℕ)
onto f [] xs = xs
onto f (y ∷ ys) xs = onto f ys (f y ∷ xs)

onto_more : {A : Type 0} (f : A → List ℕ) (ys : List A) (y : A) (xs : List (List ℕ)) → onto f (ys ++ y ∷ []) xs ≡ f y ∷ onto f ys xs
onto_more f [] y xs = refl
onto_more f (z ∷ ys) y xs = onto_more f ys y (f z ∷ xs)

swapped : (a b c : Bool) → (a || (b || c)) ≡ ((b || a) || c)
swapped true true c = refl
swapped true false c = refl
swapped false true c = refl
swapped false false c = refl

or_none : (a : Bool) → (a || false) ≡ a
or_none true = refl
or_none false = refl

pub onto_in : {A : Type 0} (f : A → List ℕ) (ys : List A) (xs : List (List ℕ)) (x : List ℕ) → is_in (onto f ys xs) x ≡ (is_in (map f ys) x || is_in xs x)
onto_in f [] xs x = refl
onto_in f (y ∷ ys) xs x = onto_in f ys (f y ∷ xs) x ∙ swapped (is_in (map f ys) x) (bytes_eq (f y) x) (is_in xs x)

abbrev pub target_name : Reduce → List ℕ
target_name q = q.target.text.items

abbrev pub carried_name : Carry → List ℕ
carried_name c = (table_name c).text.items

abbrev pub targets_back : List Reduce → List (List ℕ)
targets_back qs = onto target_name qs []

abbrev pub tables_back : List Carry → List (List ℕ)
tables_back cs = onto carried_name cs []

module _ (b : Option Fault) (i : ℕ) (rounds : List Loop) where
  pub targets_step : (qs : List Reduce) (q : Reduce) → i < length qs → q ≡ get_or qs i q
      → lowest (lowest b Reductions (at q.target ((any_loop (other_operator q) rounds || any_loop (reduced_otherwise q) rounds) || is_in (targets_of (take i qs)) q.target.text.items))) Reductions (bad_targets (targets_back (take (i + 1) qs)) (drop (i + 1) qs) rounds)
      ≡ lowest b Reductions (bad_targets (targets_back (take i qs)) (drop i qs) rounds)
  targets_step qs q lt is =
      let back : targets_back (take (i + 1) qs) ≡ target_name q ∷ targets_back (take i qs) =
      ap (λ n. targets_back (take n qs)) (add-one i) ∙ ap targets_back (take-suc qs i q lt) ∙ ap (λ z. targets_back (take i qs ++ z ∷ [])) (sym is) ∙ onto_more target_name (take i qs) q [] in
      let seen : is_in (targets_of (take i qs)) q.target.text.items ≡ is_in (targets_back (take i qs)) q.target.text.items =
      sym (onto_in target_name (take i qs) [] q.target.text.items ∙ or_none (is_in (targets_of (take i qs)) q.target.text.items)) in
      rw (back, seen, add-one, drop-cons qs i q lt, ← is)
      (sym (lowest_append b Reductions (at q.target (any_loop (other_operator q) rounds || any_loop (reduced_otherwise q) rounds || is_in (targets_back (take i qs)) q.target.text.items)) (bad_targets (target_name q ∷ targets_back (take i qs)) (drop (suc i) qs) rounds)))

  pub items_step : (r : Loop) (cs : List Carry) (c : Carry) → i < length cs → c ≡ get_or cs i c
      → lowest (lowest b CarryLists (at (table_name c) (bad_item rounds r c || is_in (carried_tables (take i cs)) (table_name c).text.items))) CarryLists (bad_items (tables_back (take (i + 1) cs)) (drop (i + 1) cs) r rounds)
      ≡ lowest b CarryLists (bad_items (tables_back (take i cs)) (drop i cs) r rounds)
  items_step r cs c lt is =
      let back : tables_back (take (i + 1) cs) ≡ carried_name c ∷ tables_back (take i cs) =
      ap (λ n. tables_back (take n cs)) (add-one i) ∙ ap tables_back (take-suc cs i c lt) ∙ ap (λ z. tables_back (take i cs ++ z ∷ [])) (sym is) ∙ onto_more carried_name (take i cs) c [] in
      let seen : is_in (carried_tables (take i cs)) (table_name c).text.items ≡ is_in (tables_back (take i cs)) (table_name c).text.items =
      sym (onto_in carried_name (take i cs) [] (table_name c).text.items ∙ or_none (is_in (carried_tables (take i cs)) (table_name c).text.items)) in
      rw (back, seen, add-one, drop-cons cs i c lt, ← is)
      (sym (lowest_append b CarryLists (at (table_name c) (bad_item rounds r c || is_in (tables_back (take i cs)) (table_name c).text.items)) (bad_items (carried_name c ∷ tables_back (take i cs)) (drop (suc i) cs) r rounds)))
