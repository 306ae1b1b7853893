-- What the search for a broken rule on names and limits comes to.
use Rattle.std.proofs.Common.{◌≡◌, ◌⊎◌, inl, inr, Option, Some, None, refl, sym, subst}
use Rattle.tp_value.specs.declared.Place.{Place}
use Rattle.loop_syntax.specs.declared.Program.{Program}
use Rattle.loop_rules.specs.declared.rule.Rule.{Rule}
use Rattle.loop_rules.specs.declared.rule.Rule.TheVariants.{Names, OuterVariables, Reductions}
use Rattle.loop_rules.specs.declared.rule.Rule.TheVariants.{TableWrites, TableReads, CarryLists}
use Rattle.loop_rules.specs.declared.rule.Rule.TheVariants.{Functions, ReadingCalls, Output}
use Rattle.loop_rules.specs.declared.rule.Rule.TheVariants.{LoopVariables, Limits, Leaves}
use Rattle.loop_rules.specs.declared.fault.Fault.{Fault}
use Rattle.loop_rules.specs.Broken.{BreaksAt, Broken}
use Rattle.loop_rules.specs.Resolving.{IsFirstBroken}
use Rattle.loop_rules.specs.Rules.{number_of}
use Rattle.loop_rules.specs.Search.{lowest_in, resolved_rules}
use Rattle.loop_rules.specs.Sites.{Site, sites}
use Rattle.loop_rules.specs.Unbroken.{IsOfResolve, IsResolved}
use Rattle.loop_rules.proofs.Faults.{AtSite, InSites, none_there, first_there, none_before}
use Rattle.loop_rules.proofs.Faults.{no_later}

module _ (p : Program) (s : Site) where
  at_site : (r : Rule) (q : Place) → IsOfResolve r → BreaksAt p r s q →
      AtSite resolved_rules s r q
  at_site Names q u h = inl (refl, h)
  at_site Functions q u h = inr (inl (refl, h))
  at_site Output q u h = inr (inr (inl (refl, h)))
  at_site LoopVariables q u h = inr (inr (inr (inl (refl, h))))
  at_site Limits q u h = inr (inr (inr (inr (inl (refl, h)))))
  at_site OuterVariables q u h = absurd u
  at_site Reductions q u h = absurd u
  at_site TableWrites q u h = absurd u
  at_site TableReads q u h = absurd u
  at_site CarryLists q u h = absurd u
  at_site ReadingCalls q u h = absurd u
  at_site Leaves q u h = absurd u

  abbrev Breaks : Rule → Place → Type 0
  Breaks r q = IsOfResolve r × BreaksAt p r s q

  is_rule : (r o : Rule) (q : Place) → r ≡ o → Breaks o q → Breaks r q
  is_rule r o q e h = subst (λ (k : Rule). Breaks k q) (sym e) h

  breaks : (r : Rule) (q : Place) → AtSite resolved_rules s r q → Breaks r q
  breaks r q (inl h) = is_rule r Names q h.0 (tt, h.1)
  breaks r q (inr (inl h)) = is_rule r Functions q h.0 (tt, h.1)
  breaks r q (inr (inr (inl h))) = is_rule r Output q h.0 (tt, h.1)
  breaks r q (inr (inr (inr (inl h)))) = is_rule r LoopVariables q h.0 (tt, h.1)
  breaks r q (inr (inr (inr (inr (inl h))))) = is_rule r Limits q h.0 (tt, h.1)
  breaks r q (inr (inr (inr (inr (inr h))))) = absurd h

in_sites : (p : Program) (r : Rule) (q : Place) → IsOfResolve r → Broken p r q →
    InSites resolved_rules (sites p) r q
in_sites p r q u h =
    record { site = h.where_at; stands = h.stands; by = at_site p h.where_at r q u h.breaks }

pub nothing_broken : (p : Program) → None ≡ lowest_in resolved_rules None (sites p) → IsResolved p
nothing_broken p e = record {
  unbroken = λ r q u h. none_there resolved_rules (sites p) e r q (in_sites p r q u h);
}

pub first_broken : (p : Program) (f : Fault) → Some f ≡ lowest_in resolved_rules None (sites p) →
    IsFirstBroken p (number_of f.rule) f.place
first_broken p f e =
    let there = first_there resolved_rules (sites p) f e in
    let breaks_there = breaks p there.site f.rule f.place there.by in
    record {
      rule = f.rule;
      of_resolve = breaks_there.0;
      numbered = refl;
      broken = record { where_at = there.site; stands = there.stands; breaks = breaks_there.1 };
      first =
          λ o q u k.
          no_later f.rule o f.place q (none_before resolved_rules (sites p) f o q e
          (in_sites p o q u k));
    }
