-- A program has one first broken rule of disjoint writes, which its tree alone decides.
use Rattle.std.proofs.Common.{◌≡◌, ℕ, true, List, sym, ap, ◌∙◌, subst}
use Rattle.std.specs.List.{Contains}
use Rattle.tp_value.specs.declared.values.Place.{Place}
use Rattle.loop_syntax.specs.declared.program.Program.{Program}
use Rattle.loop_syntax.specs.Tree.{Spelled, spelled, program_of}
use Rattle.loop_rules.specs.declared.rule.Rule.{Rule}
use Rattle.loop_rules.specs.declared.rule.Rule.TheVariants.{Names, OuterVariables, Reductions}
use Rattle.loop_rules.specs.declared.rule.Rule.TheVariants.{TableWrites, TableReads, CarryLists}
use Rattle.loop_rules.specs.declared.rule.Rule.TheVariants.{Functions, ReadingCalls, Output}
use Rattle.loop_rules.specs.declared.rule.Rule.TheVariants.{LoopVariables, Limits, Leaves}
use Rattle.loop_rules.specs.Broken.{BreaksAt, Broken}
use Rattle.loop_rules.specs.Carries.{carries}
use Rattle.loop_rules.specs.Reading.{CallsReader, ReadsTable}
use Rattle.loop_rules.specs.Sites.{Site, sites}
use Rattle.loop_rules.proofs.Faults.{same_first}
use Rattle.loop_rules.proofs.Firsts.{resolved-tree}
use Rattle.loop_check.specs.Checking.{IsOfCheck, IsFirstBroken}
use Rattle.loop_check.specs.Unbroken.{NoneBroken}
use Rattle.loop_check.proofs.TreeSites.{Called, SiteTree, tree_sites}
use Rattle.loop_check.proofs.TreeWalk.{act_tree, site_tree, program_same}
use Rattle.loop_check.proofs.TreeBroken.{any_round, any_same, carries_in, carries_same, two, three}
use Rattle.loop_check.proofs.TreeBroken.{four, five, six, twelve, same_places}
use Rattle.loop_check.proofs.TreeReads.{has_tree, Stands, of_tree, Callee, callee_of, reads_too}
use Rattle.loop_check.proofs.Verdict.{all_unbroken}

-- ---- one first broken rule

pub firsts_agree : (p : Program) (n m : ℕ) (x y : Place) → IsFirstBroken p n x → IsFirstBroken p m y → (n ≡ m) × (x ≡ y)
firsts_agree p n m x y f g =
    let same = same_first f.rule g.rule x y (f.first g.rule y g.of_check g.broken) (g.first f.rule x f.of_check f.broken) in
    (f.numbered ∙ same.0 ∙ sym g.numbered, same.1)

pub not_both : (p : Program) (n : ℕ) (x : Place) → NoneBroken p → IsFirstBroken p n x → ⊥
not_both p n x none f = none.unbroken f.rule x f.broken

-- ---- what breaks a rule, by its tree

-- a call, inside such a loop, of a function that reads that table
pub record BadCall (p : Program) (t : SiteTree) (place : Place) : Type 0 where
  pub callee : Spelled
  pub is_call : t.act ≡ Called callee
  pub table : List ℕ
  pub reads : ReadsTable p callee.text table
  pub carried : any_round (carries_in table) t.spot.rounds ≡ true
  pub here : place ≡ callee.place

-- one of the rules of disjoint writes is broken there
abbrev pub TreeBreaks : Program → Rule → SiteTree → Place → Type 0
TreeBreaks p Names t place = ⊥
TreeBreaks p OuterVariables t place = Contains (two t.act t.spot.rounds) place
TreeBreaks p Reductions t place = Contains (three t.act t.spot.rounds) place
TreeBreaks p TableWrites t place = Contains (four t.act t.spot.rounds) place
TreeBreaks p TableReads t place = Contains (five t.act t.spot.rounds) place
TreeBreaks p CarryLists t place = Contains (six t.act t.spot.rounds) place
TreeBreaks p Functions t place = ⊥
TreeBreaks p ReadingCalls t place = BadCall p t place
TreeBreaks p Output t place = ⊥
TreeBreaks p LoopVariables t place = ⊥
TreeBreaks p Limits t place = ⊥
TreeBreaks p Leaves t place = Contains (twelve t.act t.spot) place

module _ (place : Place) where
  moved : {xs ys : List Place} → xs ≡ ys → Contains xs place → Contains ys place
  moved {xs} {ys} e h = subst (λ (zs : List Place). Contains zs place) e h

module _ (p : Program) (s : Site) (place : Place) where
  bad_call : CallsReader p s place → BadCall p (site_tree s) place
  bad_call h = record {
    callee = spelled h.callee;
    is_call = ap act_tree h.is_call;
    table = h.table;
    reads = h.reads;
    carried = sym (any_same (carries h.table) (carries_in h.table) (carries_same h.table) s.spot.rounds) ∙ h.carried;
    here = h.here;
  }

  call_back : BadCall p (site_tree s) place → CallsReader p s place
  call_back h =
      let call : Callee s.act h.callee = callee_of s.act h.callee h.is_call in
      record {
        callee = call.callee;
        arguments = call.arguments;
        is_call = call.is_call;
        table = h.table;
        reads = subst (λ (x : List ℕ). ReadsTable p x h.table) (sym (ap (λ (x : Spelled). x.text) call.named)) h.reads;
        carried = any_same (carries h.table) (carries_in h.table) (carries_same h.table) s.spot.rounds ∙ h.carried;
        here = h.here ∙ sym (ap (λ (x : Spelled). x.place) call.named);
      }

  pub tree_breaks : (r : Rule) → IsOfCheck r → BreaksAt p r s place → TreeBreaks p r (site_tree s) place
  tree_breaks Names u h = absurd u
  tree_breaks OuterVariables u h = moved place (same_places s.spot s.act).by2 h
  tree_breaks Reductions u h = moved place (same_places s.spot s.act).by3 h
  tree_breaks TableWrites u h = moved place (same_places s.spot s.act).by4 h
  tree_breaks TableReads u h = moved place (same_places s.spot s.act).by5 h
  tree_breaks CarryLists u h = moved place (same_places s.spot s.act).by6 h
  tree_breaks Functions u h = absurd u
  tree_breaks ReadingCalls u h = bad_call h
  tree_breaks Output u h = absurd u
  tree_breaks LoopVariables u h = absurd u
  tree_breaks Limits u h = absurd u
  tree_breaks Leaves u h = moved place (same_places s.spot s.act).by12 h

  breaks_back : (r : Rule) → TreeBreaks p r (site_tree s) place → BreaksAt p r s place
  breaks_back Names h = absurd h
  breaks_back OuterVariables h = moved place (sym (same_places s.spot s.act).by2) h
  breaks_back Reductions h = moved place (sym (same_places s.spot s.act).by3) h
  breaks_back TableWrites h = moved place (sym (same_places s.spot s.act).by4) h
  breaks_back TableReads h = moved place (sym (same_places s.spot s.act).by5) h
  breaks_back CarryLists h = moved place (sym (same_places s.spot s.act).by6) h
  breaks_back Functions h = absurd h
  breaks_back ReadingCalls h = call_back h
  breaks_back Output h = absurd h
  breaks_back LoopVariables h = absurd h
  breaks_back Limits h = absurd h
  breaks_back Leaves h = moved place (sym (same_places s.spot s.act).by12) h

-- ---- programs with one tree

module _ (p q : Program) (same : program_of p ≡ program_of q) where
  breaks_too : (r : Rule) (t : SiteTree) (place : Place) → TreeBreaks p r t place → TreeBreaks q r t place
  breaks_too Names t place h = h
  breaks_too OuterVariables t place h = h
  breaks_too Reductions t place h = h
  breaks_too TableWrites t place h = h
  breaks_too TableReads t place h = h
  breaks_too CarryLists t place h = h
  breaks_too Functions t place h = h
  breaks_too ReadingCalls t place h =
      record { callee = h.callee; is_call = h.is_call; table = h.table; reads = reads_too p q same h.callee.text h.table h.reads; carried = h.carried; here = h.here }
  breaks_too Output t place h = h
  breaks_too LoopVariables t place h = h
  breaks_too Limits t place h = h
  breaks_too Leaves t place h = h

  site_too : (s : Site) → Contains (sites p) s → Stands (sites q) (site_tree s)
  site_too s h =
      let trees = program_same p ∙ ap tree_sites same ∙ sym (program_same q) in
      of_tree (sites q) (site_tree s) (subst (λ (ts : List SiteTree). Contains ts (site_tree s)) trees (has_tree (sites p) s h))

  -- what breaks a rule of disjoint writes in the one breaks it in the other
  broken_too : (r : Rule) (place : Place) → IsOfCheck r → Broken p r place → Broken q r place
  broken_too r place u h =
      let there : Stands (sites q) (site_tree h.where_at) = site_too h.where_at h.stands in
      let breaks = breaks_too r (site_tree h.where_at) place (tree_breaks p h.where_at place r u h.breaks) in
      record {
        where_at = there.site;
        stands = there.stands;
        breaks = breaks_back q there.site place r (subst (λ (t : SiteTree). TreeBreaks q r t place) (sym there.is) breaks);
      }

module _ (p q : Program) (same : program_of p ≡ program_of q) where
  pub first-tree : (n : ℕ) (x : Place) → IsFirstBroken p n x → IsFirstBroken q n x
  first-tree n x f = record {
    rule = f.rule;
    of_check = f.of_check;
    numbered = f.numbered;
    broken = broken_too p q same f.rule x f.of_check f.broken;
    first = λ o y u k. f.first o y u (broken_too q p (sym same) o y u k);
  }

  pub none-tree : NoneBroken p → NoneBroken q
  none-tree none =
      all_unbroken q (resolved-tree p q same (record { unbroken = λ r x u h. none.unbroken r x h }))
      (λ r x u h. none.unbroken r x (broken_too q p (sym same) r x u h))
