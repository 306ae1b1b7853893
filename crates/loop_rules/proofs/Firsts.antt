-- A program has one first broken rule, which its tree alone decides.
use Rattle.std.proofs.Common.{◌≡◌, ℕ, Option, Some, None, refl, sym, ◌∙◌, subst}
use Rattle.tp_value.specs.declared.values.Place.{Place}
use Rattle.loop_syntax.specs.declared.program.Program.{Program}
use Rattle.loop_syntax.specs.Tree.{program_of}
use Rattle.loop_rules.specs.declared.fault.Fault.{Fault}
use Rattle.loop_rules.specs.Rules.{number_of}
use Rattle.loop_rules.specs.Resolving.{IsFirstBroken}
use Rattle.loop_rules.specs.Search.{lowest_in, resolved_rules}
use Rattle.loop_rules.specs.Sites.{sites}
use Rattle.loop_rules.specs.Unbroken.{IsResolved}
use Rattle.loop_rules.proofs.Faults.{same_first}
use Rattle.loop_rules.proofs.First.{nothing_broken, first_broken}
use Rattle.loop_rules.proofs.TreePrograms.{found-tree}

-- ---- one first broken rule

pub firsts_agree : (p : Program) (n m : ℕ) (x y : Place) → IsFirstBroken p n x → IsFirstBroken p m y → (n ≡ m) × (x ≡ y)
firsts_agree p n m x y f g =
    let same = same_first f.rule g.rule x y (f.first g.rule y g.of_resolve g.broken) (g.first f.rule x f.of_resolve f.broken) in
    (f.numbered ∙ same.0 ∙ sym g.numbered, same.1)

pub not_both : (p : Program) (n : ℕ) (x : Place) → IsResolved p → IsFirstBroken p n x → ⊥
not_both p n x r f = r.unbroken f.rule x f.of_resolve f.broken

-- ---- programs with one tree

moved : (q : Program) (f : Fault) (n : ℕ) (x : Place) → (n ≡ number_of f.rule) × (x ≡ f.place) → IsFirstBroken q (number_of f.rule) f.place → IsFirstBroken q n x
moved q f n x e h = subst (λ (m : ℕ). IsFirstBroken q m x) (sym e.0) (subst (λ (y : Place). IsFirstBroken q (number_of f.rule) y) (sym e.1) h)

pub first-tree : (p q : Program) (n : ℕ) (x : Place) → program_of p ≡ program_of q → IsFirstBroken p n x → IsFirstBroken q n x
first-tree p q n x same h = go (lowest_in resolved_rules None (sites p)) refl
  where
    go : (o : Option Fault) → lowest_in resolved_rules None (sites p) ≡ o → IsFirstBroken q n x
    go None e = absurd (not_both p n x (nothing_broken p (sym e)) h)
    go (Some f) e =
        moved q f n x (firsts_agree p n (number_of f.rule) x f.place h (first_broken p f (sym e)))
        (first_broken q f (sym e ∙ found-tree p q same))

pub resolved-tree : (p q : Program) → program_of p ≡ program_of q → IsResolved p → IsResolved q
resolved-tree p q same r = go (lowest_in resolved_rules None (sites p)) refl
  where
    go : (o : Option Fault) → lowest_in resolved_rules None (sites p) ≡ o → IsResolved q
    go None e = nothing_broken q (sym e ∙ found-tree p q same)
    go (Some f) e = absurd (not_both p (number_of f.rule) f.place r (first_broken p f (sym e)))
