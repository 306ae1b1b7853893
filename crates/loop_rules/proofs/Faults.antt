-- The first of many faults, whichever rules are asked for.
use Rattle.std.proofs.Common.{◌≡◌, ◌<◌, ◌⊎◌, inl, inr, ℕ, zero, suc, Bool, true, false, cond}
use Rattle.std.proofs.Common.{List, [], ◌∷◌, length, get_or, Option, Some, None, refl, sym, ap}
use Rattle.std.proofs.Common.{◌∙◌, subst, arith}
use Rattle.std.proofs.lemmas.Bool.{cases_order}
use Rattle.std.specs.List.{Contains}
use Rattle.std.specs.Bool.{Decides}
use Rattle.std.proofs.lemmas.Bool.Decides.{Decides-or, Decides-and, Decides-ltb, Decides-eqb}
use Rattle.std.proofs.lemmas.Bool.Decides.{not_from_Decides}
use Rattle.tp_value.specs.declared.Place.{Place}
use Rattle.loop_rules.specs.declared.rule.Rule.{Rule}
use Rattle.loop_rules.specs.declared.fault.Fault.{Fault}
use Rattle.loop_rules.specs.Resolving.{IsNoLater}
use Rattle.loop_rules.specs.Rules.{number_of}
use Rattle.loop_rules.specs.Scopes.{is_before}
use Rattle.loop_rules.specs.Search.{is_first, lower, lowest, Asked, lowest_at, lowest_in}
use Rattle.loop_rules.specs.Sites.{Site}

-- ---- the order of faults

abbrev pub Before : Fault → Fault → Type 0
Before f g =
    ((f.place.line < g.place.line)
    ⊎ ((f.place.line ≡ g.place.line) × (f.place.col < g.place.col)))
    ⊎ (((f.place.line ≡ g.place.line) × (f.place.col ≡ g.place.col))
    × (number_of f.rule < number_of g.rule))

is_first_tells : (f g : Fault) → Decides (is_first f g) (Before f g)
is_first_tells f g =
    Decides-or _ _
    (Decides-or _ _ (Decides-ltb _ _) (Decides-and _ _ (Decides-eqb _ _) (Decides-ltb _ _)))
    (Decides-and _ _ (Decides-and _ _ (Decides-eqb _ _) (Decides-eqb _ _)) (Decides-ltb _ _))

not_itself : (f : Fault) → Before f f → ⊥
not_itself f (inl (inl h)) = omega arith
not_itself f (inl (inr h)) = omega (arith, h.1)
not_itself f (inr h) = omega (arith, h.1)

through : (f g h : Fault) → Before f g → Before g h → Before f h
through f g h (inl (inl p)) (inl (inl q)) = inl (inl (omega arith))
through f g h (inl (inl p)) (inl (inr q)) = inl (inl (omega (arith, q.0)))
through f g h (inl (inl p)) (inr q) = inl (inl (omega (arith, q.0.0)))
through f g h (inl (inr p)) (inl (inl q)) = inl (inl (omega (arith, p.0)))
through f g h (inl (inr p)) (inl (inr q)) = inl (inr (p.0 ∙ q.0, omega (arith, p.1, q.1)))
through f g h (inl (inr p)) (inr q) = inl (inr (p.0 ∙ q.0.0, omega (arith, p.1, q.0.1)))
through f g h (inr p) (inl (inl q)) = inl (inl (omega (arith, p.0.0)))
through f g h (inr p) (inl (inr q)) = inl (inr (p.0.0 ∙ q.0, omega (arith, p.0.1, q.1)))
through f g h (inr p) (inr q) =
    inr ((p.0.0 ∙ q.0.0, p.0.1 ∙ q.0.1), omega (arith, p.1, q.1))

-- something was found that the fault doesn't come before
abbrev Covered : Option Fault → Fault → Type 0
Covered None f = ⊥
Covered (Some g) f = Before f g → ⊥

-- ---- one more fault

lower_keeps : (b : Option Fault) (h f : Fault) → Covered b f → Covered (lower b h) f
lower_keeps None h f c = absurd c
lower_keeps (Some g) h f c = go (is_first h g) refl
  where
    go : (t : Bool) → is_first h g ≡ t → Covered (cond t (Some h) (Some g)) f
    go true e = λ r. c (through f h g r ((is_first_tells h g).0 e))
    go false e = c

lower_covers : (b : Option Fault) (f : Fault) → Covered (lower b f) f
lower_covers None f = not_itself f
lower_covers (Some g) f = go (is_first f g) refl
  where
    go : (t : Bool) → is_first f g ≡ t → Covered (cond t (Some f) (Some g)) f
    go true e = not_itself f
    go false e = not_from_Decides (is_first f g) (is_first_tells f g) e

some_same : (f g : Fault) → ◌≡◌ {A = Option Fault} (Some f) (Some g) → f ≡ g
some_same f g e = cc

lower_from : (b : Option Fault) (h f : Fault) → lower b h ≡ Some f → (b ≡ Some f) ⊎ (h ≡ f)
lower_from None h f e = inr (some_same h f e)
lower_from (Some g) h f e = go (is_first h g) e
  where
    go : (t : Bool) → cond t (Some h) (Some g) ≡ Some f → (Some g ≡ Some f) ⊎ (h ≡ f)
    go true e = inr (some_same h f e)
    go false e = inl e

-- ---- a rule's places

abbrev pub fault : Rule → Place → Fault
fault rule p = record { rule = rule; place = p }

lowest_keeps : (b : Option Fault) (n : Rule) (ps : List Place) (f : Fault) → Covered b f →
    Covered (lowest b n ps) f
lowest_keeps b n [] f c = c
lowest_keeps b n (p ∷ ps) f c =
    lowest_keeps (lower b (fault n p)) n ps f (lower_keeps b (fault n p) f c)

-- that is the rule, and the place is one of these
abbrev Of : Rule → List Place → Rule → Place → Type 0
Of n ps rule place = (rule ≡ n) × Contains ps place

covers_at : (b : Option Fault) (n : Rule) (ps : List Place) (q : Place) (k : ℕ) → k < length ps →
    get_or ps k q ≡ q → Covered (lowest b n ps) (fault n q)
covers_at b n [] q k lt e = absurd (omega arith)
covers_at b n (p ∷ ps) q zero lt e =
    lowest_keeps (lower b (fault n p)) n ps (fault n q) (rw e (lower_covers b (fault n q)))
covers_at b n (p ∷ ps) q (suc k) lt e = covers_at (lower b (fault n p)) n ps q k (omega arith) e

lowest_covers : (b : Option Fault) (n : Rule) (ps : List Place) (rule : Rule) (q : Place) →
    Of n ps rule q → Covered (lowest b n ps) (fault rule q)
lowest_covers b n ps rule q h =
    subst (λ (r : Rule). Covered (lowest b n ps) (fault r q)) (sym h.0)
    (covers_at b n ps q h.1.0 h.1.1 h.1.2)

-- found before, or a rule's place
abbrev From : Option Fault → Rule → List Place → Fault → Type 0
From b n ps f = (b ≡ Some f) ⊎ Of n ps f.rule f.place

lowest_from : (b : Option Fault) (n : Rule) (ps : List Place) (f : Fault) →
    lowest b n ps ≡ Some f → From b n ps f
lowest_from b n [] f e = inl e
lowest_from b n (p ∷ ps) f e = go (lowest_from (lower b (fault n p)) n ps f e)
  where
    here : (b ≡ Some f) ⊎ (fault n p ≡ f) → From b n (p ∷ ps) f
    here (inl h) = inl h
    here (inr h) =
        inr (sym (ap (λ (g : Fault). g.rule) h), (0, omega arith, ap (λ (g : Fault). g.place) h))

    go : From (lower b (fault n p)) n ps f → From b n (p ∷ ps) f
    go (inl h) = here (lower_from b (fault n p) f h)
    go (inr h) = inr (h.0, (suc h.1.0, omega (arith, h.1.1), h.1.2))

-- ---- a site

-- the rule is one of these, and the site breaks it at that place
abbrev pub AtSite : List Asked → Site → Rule → Place → Type 0
AtSite [] s rule place = ⊥
AtSite (asked ∷ more) s rule place =
    Of asked.rule (asked.broken s.act s.spot) rule place ⊎ AtSite more s rule place

at_keeps : (rules : List Asked) (b : Option Fault) (s : Site) (f : Fault) → Covered b f →
    Covered (lowest_at rules b s) f
at_keeps [] b s f c = c
at_keeps (asked ∷ more) b s f c =
    let places = asked.broken s.act s.spot in
    at_keeps more (lowest b asked.rule places) s f (lowest_keeps b asked.rule places f c)

at_covers : (rules : List Asked) (b : Option Fault) (s : Site) (rule : Rule) (q : Place) →
    AtSite rules s rule q → Covered (lowest_at rules b s) (fault rule q)
at_covers [] b s rule q h = absurd h
at_covers (asked ∷ more) b s rule q (inl h) =
    let places = asked.broken s.act s.spot in
    at_keeps more (lowest b asked.rule places) s (fault rule q)
    (lowest_covers b asked.rule places rule q h)
at_covers (asked ∷ more) b s rule q (inr h) =
    at_covers more (lowest b asked.rule (asked.broken s.act s.spot)) s rule q h

at_from : (rules : List Asked) (b : Option Fault) (s : Site) (f : Fault) →
    lowest_at rules b s ≡ Some f → (b ≡ Some f) ⊎ AtSite rules s f.rule f.place
at_from [] b s f e = inl e
at_from (asked ∷ more) b s f e =
    go (at_from more (lowest b asked.rule (asked.broken s.act s.spot)) s f e)
  where
    here : From b asked.rule (asked.broken s.act s.spot) f →
        (b ≡ Some f) ⊎ AtSite (asked ∷ more) s f.rule f.place
    here (inl h) = inl h
    here (inr h) = inr (inl h)

    go : (lowest b asked.rule (asked.broken s.act s.spot) ≡ Some f)
        ⊎ AtSite more s f.rule f.place →
        (b ≡ Some f) ⊎ AtSite (asked ∷ more) s f.rule f.place
    go (inl h) = here (lowest_from b asked.rule (asked.broken s.act s.spot) f h)
    go (inr h) = inr (inr h)

-- ---- all sites

-- the rule is one of these, and one of the sites breaks it at that place
pub record InSites (rules : List Asked) (ss : List Site) (rule : Rule) (place : Place) : Type 0
  where
    pub site : Site
    pub stands : Contains ss site
    pub by : AtSite rules site rule place

module _ (rules : List Asked) where
  in_keeps : (b : Option Fault) (ss : List Site) (f : Fault) → Covered b f →
      Covered (lowest_in rules b ss) f
  in_keeps b [] f c = c
  in_keeps b (s ∷ ss) f c = in_keeps (lowest_at rules b s) ss f (at_keeps rules b s f c)

  in_covers_at : (b : Option Fault) (ss : List Site) (s : Site) (rule : Rule) (q : Place) →
      AtSite rules s rule q → (k : ℕ) → k < length ss → get_or ss k s ≡ s →
      Covered (lowest_in rules b ss) (fault rule q)
  in_covers_at b [] s rule q h k lt e = absurd (omega arith)
  in_covers_at b (t ∷ ss) s rule q h zero lt e =
      in_keeps (lowest_at rules b t) ss (fault rule q)
      (at_covers rules b t rule q
      (subst (λ (u : Site). AtSite rules u rule q) (sym e) h))
  in_covers_at b (t ∷ ss) s rule q h (suc k) lt e =
      in_covers_at (lowest_at rules b t) ss s rule q h k (omega arith) e

  in_covers : (b : Option Fault) (ss : List Site) (rule : Rule) (q : Place) →
      InSites rules ss rule q → Covered (lowest_in rules b ss) (fault rule q)
  in_covers b ss rule q h =
      in_covers_at b ss h.site rule q h.by h.stands.0 h.stands.1 h.stands.2

  in_from : (b : Option Fault) (ss : List Site) (f : Fault) → lowest_in rules b ss ≡ Some f →
      (b ≡ Some f) ⊎ InSites rules ss f.rule f.place
  in_from b [] f e = inl e
  in_from b (s ∷ ss) f e = go (in_from (lowest_at rules b s) ss f e)
    where
      here : (b ≡ Some f) ⊎ AtSite rules s f.rule f.place →
          (b ≡ Some f) ⊎ InSites rules (s ∷ ss) f.rule f.place
      here (inl h) = inl h
      here (inr h) = inr (record { site = s; stands = (0, omega arith, refl); by = h })

      go : (lowest_at rules b s ≡ Some f) ⊎ InSites rules ss f.rule f.place →
          (b ≡ Some f) ⊎ InSites rules (s ∷ ss) f.rule f.place
      go (inl h) = here (at_from rules b s f h)
      go (inr h) = inr (record {
        site = h.site;
        stands = (suc h.stands.0, omega (arith, h.stands.1), h.stands.2);
        by = h.by;
      })

  -- ---- what a search from nothing comes to

  pub none_there : (ss : List Site) → None ≡ lowest_in rules None ss → (rule : Rule) (q : Place) →
      InSites rules ss rule q → ⊥
  none_there ss e rule q h = rw (← e) at (in_covers None ss rule q h)

  pub first_there : (ss : List Site) (f : Fault) → Some f ≡ lowest_in rules None ss →
      InSites rules ss f.rule f.place
  first_there ss f e = go (in_from None ss f (sym e))
    where
      go : (◌≡◌ {A = Option Fault} None (Some f)) ⊎ InSites rules ss f.rule f.place →
          InSites rules ss f.rule f.place
      go (inl h) = cc
      go (inr h) = h

  pub none_before : (ss : List Site) (f : Fault) (rule : Rule) (q : Place) →
      Some f ≡ lowest_in rules None ss → InSites rules ss rule q → Before (fault rule q) f → ⊥
  none_before ss f rule q e h = rw (← e) at (in_covers None ss rule q h)

-- ---- rules and places

is_before_tells : (p q : Place) →
    Decides (is_before p q) ((p.line < q.line) ⊎ ((p.line ≡ q.line) × (p.col < q.col)))
is_before_tells p q =
    Decides-or _ _ (Decides-ltb _ _) (Decides-and _ _ (Decides-eqb _ _) (Decides-ltb _ _))

same_place : (p q : Place) → p.line ≡ q.line → p.col ≡ q.col → p ≡ q
same_place p q e d =
    ap {A = ℕ} {B = Place} (λ l. record { line = l; col = p.col }) e
    ∙ ap {A = ℕ} {B = Place} (λ c. record { line = q.line; col = c }) d

pub no_later : (r o : Rule) (p q : Place) → (Before (fault o q) (fault r p) → ⊥) →
    IsNoLater r p o q
no_later r o p q n = lines (cases_order p.line q.line)
  where
    numbers : p.line ≡ q.line → p.col ≡ q.col →
        (number_of r ≡ number_of o)
        ⊎ ((number_of r < number_of o) ⊎ (number_of o < number_of r)) → IsNoLater r p o q
    numbers e d (inl h) = inr (same_place p q e d, omega (arith, h))
    numbers e d (inr (inl h)) = inr (same_place p q e d, omega (arith, h))
    numbers e d (inr (inr h)) = absurd (n (inr ((sym e, sym d), h)))

    columns : p.line ≡ q.line → (p.col ≡ q.col) ⊎ ((p.col < q.col) ⊎ (q.col < p.col)) →
        IsNoLater r p o q
    columns e (inl h) = numbers e h (cases_order (number_of r) (number_of o))
    columns e (inr (inl h)) = inl ((is_before_tells p q).1 (inr (e, h)))
    columns e (inr (inr h)) = absurd (n (inl (inr (sym e, h))))

    lines : (p.line ≡ q.line) ⊎ ((p.line < q.line) ⊎ (q.line < p.line)) → IsNoLater r p o q
    lines (inl h) = columns h (cases_order p.col q.col)
    lines (inr (inl h)) = inl ((is_before_tells p q).1 (inl h))
    lines (inr (inr h)) = absurd (n (inl (inl h)))

-- ---- one first fault

abbrev Earlier : Place → Place → Type 0
Earlier p q = (p.line < q.line) ⊎ ((p.line ≡ q.line) × (p.col < q.col))

one_way : (p q : Place) → Earlier p q → Earlier q p → ⊥
one_way p q (inl h) (inl k) = omega arith
one_way p q (inl h) (inr k) = omega (arith, k.0)
one_way p q (inr h) (inl k) = omega (arith, h.0)
one_way p q (inr h) (inr k) = omega (arith, h.1, k.1)

not_earlier : (p q : Place) → p ≡ q → Earlier p q → ⊥
not_earlier p q e (inl h) =
    let l : p.line ≡ q.line = ap (λ (r : Place). r.line) e in omega arith
not_earlier p q e (inr h) =
    let c : p.col ≡ q.col = ap (λ (r : Place). r.col) e in omega (arith, h.1)

pub same_first : (r o : Rule) (p q : Place) → IsNoLater r p o q → IsNoLater o q r p →
    (number_of r ≡ number_of o) × (p ≡ q)
same_first r o p q (inl h) (inl k) =
    absurd (one_way p q ((is_before_tells p q).0 h) ((is_before_tells q p).0 k))
same_first r o p q (inl h) (inr k) =
    absurd (not_earlier p q (sym k.0) ((is_before_tells p q).0 h))
same_first r o p q (inr h) (inl k) =
    absurd (not_earlier q p (sym h.0) ((is_before_tells q p).0 k))
same_first r o p q (inr h) (inr k) = (omega (arith, h.1, k.1), h.0)
