-- What the search for a broken rule of disjoint writes comes to.
use Rattle.std.proofs.Common.{◌≡◌, inl, inr, List, Some, None, refl, sym, subst}
use Rattle.std.specs.List.{Contains}
use Rattle.tp_value.specs.declared.Place.{Place}
use Rattle.loop_syntax.specs.declared.Program.{Program}
use Rattle.loop_rules.specs.declared.rule.Rule.{Rule}
use Rattle.loop_rules.specs.declared.rule.Rule.TheVariants.{Names, OuterVariables, Reductions}
use Rattle.loop_rules.specs.declared.rule.Rule.TheVariants.{TableWrites, TableReads, CarryLists}
use Rattle.loop_rules.specs.declared.rule.Rule.TheVariants.{Functions, ReadingCalls, Output}
use Rattle.loop_rules.specs.declared.rule.Rule.TheVariants.{LoopVariables, Limits, Leaves}
use Rattle.loop_rules.specs.declared.fault.Fault.{Fault}
use Rattle.loop_rules.specs.Broken.{BreaksAt, Broken}
use Rattle.loop_rules.specs.Reading.{CallsReader}
use Rattle.loop_rules.specs.Rules.{number_of}
use Rattle.loop_rules.specs.Search.{lowest_in}
use Rattle.loop_rules.specs.Sites.{Site, sites}
use Rattle.loop_rules.proofs.Faults.{AtSite, InSites, none_there, first_there, none_before}
use Rattle.loop_rules.proofs.Faults.{no_later}
use Rattle.loop_check.specs.declared.reader.Reader.{Reader}
use Rattle.loop_check.specs.Search.{calls_reader, checked_rules}
use Rattle.loop_check.specs.Checking.{IsOfCheck, IsFirstBroken}

-- at the sites of a program the readers tell where a call breaks its rule
pub record Tells (p : Program) (rs : List Reader) : Type 0 where
  pub there : (s : Site) (q : Place) → Contains (sites p) s → CallsReader p s q →
      Contains (calls_reader rs s.act s.spot) q
  pub back : (s : Site) (q : Place) → Contains (sites p) s →
      Contains (calls_reader rs s.act s.spot) q →
      CallsReader p s q

module _ (p : Program) (rs : List Reader) (tells : Tells p rs) where
  module _ (s : Site) (stands : Contains (sites p) s) where
    at_site : (r : Rule) (q : Place) → IsOfCheck r → BreaksAt p r s q →
        AtSite (checked_rules rs) s r q
    at_site OuterVariables q u h = inl (refl, h)
    at_site Reductions q u h = inr (inl (refl, h))
    at_site TableWrites q u h = inr (inr (inl (refl, h)))
    at_site TableReads q u h = inr (inr (inr (inl (refl, h))))
    at_site CarryLists q u h = inr (inr (inr (inr (inl (refl, h)))))
    at_site ReadingCalls q u h = inr (inr (inr (inr (inr (inl (refl, tells.there s q stands h))))))
    at_site Names q u h = absurd u
    at_site Functions q u h = absurd u
    at_site Output q u h = absurd u
    at_site LoopVariables q u h = absurd u
    at_site Limits q u h = absurd u
    at_site Leaves q u h = inr (inr (inr (inr (inr (inr (inl (refl, h)))))))

    abbrev Breaks : Rule → Place → Type 0
    Breaks r q = IsOfCheck r × BreaksAt p r s q

    is_rule : (r o : Rule) (q : Place) → r ≡ o → Breaks o q → Breaks r q
    is_rule r o q e h = subst (λ (k : Rule). Breaks k q) (sym e) h

    breaks : (r : Rule) (q : Place) → AtSite (checked_rules rs) s r q → Breaks r q
    breaks r q (inl h) = is_rule r OuterVariables q h.0 (tt, h.1)
    breaks r q (inr (inl h)) = is_rule r Reductions q h.0 (tt, h.1)
    breaks r q (inr (inr (inl h))) = is_rule r TableWrites q h.0 (tt, h.1)
    breaks r q (inr (inr (inr (inl h)))) = is_rule r TableReads q h.0 (tt, h.1)
    breaks r q (inr (inr (inr (inr (inl h))))) = is_rule r CarryLists q h.0 (tt, h.1)
    breaks r q (inr (inr (inr (inr (inr (inl h)))))) =
        is_rule r ReadingCalls q h.0 (tt, tells.back s q stands h.1)
    breaks r q (inr (inr (inr (inr (inr (inr (inl h))))))) = is_rule r Leaves q h.0 (tt, h.1)
    breaks r q (inr (inr (inr (inr (inr (inr (inr h))))))) = absurd h

  in_sites : (r : Rule) (q : Place) → IsOfCheck r → Broken p r q →
      InSites (checked_rules rs) (sites p) r q
  in_sites r q u h =
      record {
        site = h.where_at;
        stands = h.stands;
        by = at_site h.where_at h.stands r q u h.breaks;
      }

  pub nothing_broken : None ≡ lowest_in (checked_rules rs) None (sites p) → (r : Rule) (q : Place) →
      IsOfCheck r → Broken p r q → ⊥
  nothing_broken e r q u h =
      none_there (checked_rules rs) (sites p) e r q (in_sites r q u h)

  pub first_broken : (f : Fault) → Some f ≡ lowest_in (checked_rules rs) None (sites p) →
      IsFirstBroken p (number_of f.rule) f.place
  first_broken f e =
      let there = first_there (checked_rules rs) (sites p) f e in
      let breaks_there = breaks there.site there.stands f.rule f.place there.by in
      record {
        rule = f.rule;
        of_check = breaks_there.0;
        numbered = refl;
        broken = record { where_at = there.site; stands = there.stands; breaks = breaks_there.1 };
        first =
            λ o q u k.
            no_later f.rule o f.place q (none_before (checked_rules rs) (sites p) f o q e
            (in_sites o q u k));
      }
