-- Going over sites one after the other.
use Rattle.std.proofs.Common.{◌≡◌, ◌<◌, ◌≤◌, ◌+◌, ◌++◌, ◌∷◌, [], ℕ, zero, suc, List, map, not, drop}
use Rattle.std.proofs.Common.{drop-cons, add-one, length, get_or, Option, refl, sym, ap, arith}
use Rattle.tp_value.specs.declared.Place.{Place}
use Rattle.loop_syntax.specs.declared.Name.{Name}
use Rattle.loop_syntax.specs.declared.RowAt.TheVariants as row
use Rattle.loop_syntax.specs.declared.Carry.{Carry}
use Rattle.loop_syntax.specs.declared.Carry.TheVariants as carry
use Rattle.loop_rules.specs.declared.rule.Rule.TheVariants.{Names, LoopVariables}
use Rattle.loop_rules.specs.declared.rule.Rule.{Rule}
use Rattle.loop_rules.specs.declared.fault.Fault.{Fault}
use Rattle.loop_syntax.specs.declared.Expr.{Expr}
use Rattle.loop_syntax.specs.declared.Reduce.{Reduce}
use Rattle.loop_rules.specs.Names.{is_in}
use Rattle.loop_rules.specs.Scopes.{at, unseen_targets, loop_targets}
use Rattle.loop_rules.specs.Sites.{Site, Spot, in_whole, in_args, in_carries}
use Rattle.loop_rules.specs.Limits.{past}
use Rattle.loop_rules.specs.Search.{lower, lowest, Asked, lowest_at, lowest_in}

pub lowest_in_append : (rules : List Asked) (b : Option Fault) (xs ys : List Site) →
    lowest_in rules b (xs ++ ys) ≡ lowest_in rules (lowest_in rules b xs) ys
lowest_in_append rules b [] ys = refl
lowest_in_append rules b (x ∷ xs) ys = lowest_in_append rules (lowest_at rules b x) xs ys

pub lowest_append : (b : Option Fault) (n : Rule) (ps qs : List Place) → lowest b n (ps ++ qs) ≡ lowest (lowest b n ps) n qs
lowest_append b n [] qs = refl
lowest_append b n (p ∷ ps) qs = lowest_append (lower b (record { rule = n; place = p })) n ps qs

pub in_carries_cons : (w : Spot) (c : Carry) (cs : List Carry) → in_carries w (c ∷ cs) ≡ in_carries w (c ∷ []) ++ in_carries w cs
in_carries_cons w (carry.Rows t i) cs = refl
in_carries_cons w (carry.Cells t (row.Var k) j) cs = refl
in_carries_cons w (carry.Cells t (row.Int n) j) cs = refl

-- the name past a limit
pub past_at : {A : Type 0} (f : A → Name) (xs : List A) (n : ℕ) (x : A) → n < length xs → x ≡ get_or xs n x → past n (map f xs) ≡ (f x).place ∷ []
past_at f [] n x h e = absurd (omega arith)
past_at f (y ∷ xs) zero x h e = ap (λ z. (f z).place ∷ []) (sym e)
past_at f (y ∷ xs) (suc n) x h e = past_at f xs n x (omega arith) e

pub past_out : {A : Type 0} (f : A → Name) (xs : List A) (n : ℕ) → length xs ≤ n → past n (map f xs) ≡ []
past_out f [] zero h = refl
past_out f [] (suc n) h = refl
past_out f (y ∷ xs) zero h = absurd (omega arith)
past_out f (y ∷ xs) (suc n) h = past_out f xs n (omega arith)

-- ---- one more element of a list

module _ (rules : List Asked) (w : Spot) (b : Option Fault) (i : ℕ) where
  pub args_step : (es : List Expr) (e : Expr) → i < length es → e ≡ get_or es i e → lowest_in rules (lowest_in rules b (in_whole w e)) (in_args w (drop (i + 1) es)) ≡ lowest_in rules b (in_args w (drop i es))
  args_step es e lt is = rw (add-one, drop-cons es i e lt, ← is) (sym (lowest_in_append rules b (in_whole w e) (in_args w (drop (suc i) es))))

  pub carries_step : (cs : List Carry) (c : Carry) → i < length cs → c ≡ get_or cs i c → lowest_in rules (lowest_in rules b (in_carries w (c ∷ []))) (in_carries w (drop (i + 1) cs)) ≡ lowest_in rules b (in_carries w (drop i cs))
  carries_step cs c lt is =
      rw (add-one, drop-cons cs i c lt, ← is, in_carries_cons w c (drop (suc i) cs))
      (sym (lowest_in_append rules b (in_carries w (c ∷ [])) (in_carries w (drop (suc i) cs))))

module _ (w : Spot) (b : Option Fault) (i : ℕ) where
  pub unseen_step : (rs : List Reduce) (r : Reduce) → i < length rs → r ≡ get_or rs i r → lowest (lowest b Names (at r.target (not (is_in w.scope r.target.text.items)))) Names (unseen_targets w.scope (drop (i + 1) rs)) ≡ lowest b Names (unseen_targets w.scope (drop i rs))
  unseen_step rs r lt is =
      rw (add-one, drop-cons rs i r lt, ← is) (sym (lowest_append b Names (at r.target (not (is_in w.scope r.target.text.items))) (unseen_targets w.scope (drop (suc i) rs))))

  pub looped_step : (rs : List Reduce) (r : Reduce) → i < length rs → r ≡ get_or rs i r → lowest (lowest b LoopVariables (at r.target (is_in w.loops r.target.text.items))) LoopVariables (loop_targets w.loops (drop (i + 1) rs)) ≡ lowest b LoopVariables (loop_targets w.loops (drop i rs))
  looped_step rs r lt is =
      rw (add-one, drop-cons rs i r lt, ← is) (sym (lowest_append b LoopVariables (at r.target (is_in w.loops r.target.text.items)) (loop_targets w.loops (drop (suc i) rs))))
