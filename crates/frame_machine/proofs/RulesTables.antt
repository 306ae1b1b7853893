-- What the rules on tables and output say inside the body of a `par`, and in a function.
use Rattle.std.proofs.Common.{◌≡◌, ℕ, suc, List, [], ◌∷◌, ◌++◌, inr, refl, sym, ap, subst, ◌∙◌}
use Rattle.std.proofs.Common.{Bool, true, false, ◌||◌, Some, Contains}
use Rattle.tp_value.specs.declared.Place.{Place}
use Rattle.loop_syntax.specs.declared.Name.{Name}
use Rattle.loop_syntax.specs.declared.Carry.{Carry}
use Rattle.loop_syntax.specs.declared.Reduce.{Reduce}
use Rattle.loop_syntax.specs.declared.Func.{Func}
use Rattle.loop_syntax.specs.declared.Program.{Program}
use Rattle.loop_rules.specs.declared.part.Part.TheVariants.{OfFunc}
use Rattle.loop_rules.specs.Names.{is_in, func_of, item_of}
use Rattle.loop_rules.specs.Carries.{carries, bad_items}
use Rattle.loop_rules.specs.Keeps.{in_function, carry_word}
use Rattle.loop_rules.specs.Reading.{itself, through}
use Rattle.loop_rules.specs.Reductions.{any_loop}
use Rattle.loop_rules.specs.Sites.{Loop, Act, Declares, Calls, Spot, in_carries, in_func, the_loop}
use Rattle.loop_check.proofs.Bodies.{HasStatements}
use Rattle.loop_check.proofs.Bools.{no_both}
use Rattle.loop_check.proofs.Found.{is_in_end, is_in_more}
use Rattle.loop_check.proofs.Fine.{Fine, AllFine, at_none}
use Rattle.loop_check.proofs.Law.{uses_seen}
use Rattle.loop_check.proofs.Shapes.{HeadOk, Inside, any_inside, any_round}
use Rattle.loop_check.proofs.Spared.{silent}
use Rattle.frame_machine.specs.Modes.{Whole, Modes, demoted, inner_modes, modes_of, AllOfMode}
use Rattle.frame_machine.specs.Bodies.{ReadsAt, WritesAt, MayCarry}
use Rattle.frame_machine.specs.Lawful.{Callable}
use Rattle.frame_machine.proofs.RulesNames.{is_new}
use Rattle.frame_machine.proofs.RulesModes.{demoted_all, demoted_twice, inner_same, whole_mode}
use Rattle.frame_machine.proofs.RulesModes.{reads_at, writes_at, may_carry, SeenIn, modes_seen}
use Rattle.frame_machine.proofs.RulesWalk.{TableRules}

-- a variable that is declared isn't among those that these modes name
apart_from : (p : Program) (w : Spot) (x : Name) → Fine p (Declares x) w → (y : List ℕ) → is_in w.scope y ≡ true → x.text.items ≡ y → ⊥
apart_from p w x f y s q = no_both (is_in w.scope y) s (subst (λ z. is_in w.scope z ≡ false) q (is_new p w x f))

-- ---- inside a loop, by the loops round

module _ (p : Program) (r0 : Loop) (outer : List Loop) (head : HeadOk r0 outer) where
  -- a spot in its body, with the modes
  pub record Inner (m : Modes) (w : Spot) : Type 0 where
    pub inside : Inside r0 outer w.rounds
    pub modes : (t : List ℕ) → m t ≡ modes_of w.rounds t
    pub seen : SeenIn w.scope w.rounds
    pub part : HasStatements w.part
    pub below : (n : ℕ) × (w.depth ≡ suc n)

  seen_more : (scope : List (List ℕ)) (x : List ℕ) (rounds : List Loop) → SeenIn scope rounds → SeenIn (scope ++ x ∷ []) rounds
  seen_more scope x [] s = tt
  seen_more scope x (r ∷ rs) s = (is_in_more scope x r.var s.0, λ t y h. is_in_more scope x y (s.1 t y h))

  pub seen_par : (w : Spot) (x : Name) (cs : List Carry) (rs : List Reduce) → AllFine p (in_carries w cs) → SeenIn (w.scope ++ x.text.items ∷ []) (the_loop w x cs rs ∷ w.rounds)
  seen_par w x cs rs h =
      (is_in_end w.scope x.text.items, λ t y q. is_in_more w.scope x.text.items y (uses_seen p w cs t (item_of cs t) h refl y q))

  safe_call : (c : Name) (n : ℕ) (w : Spot) → Inside r0 outer w.rounds → Fine p (Calls c n) w → Callable p (modes_of (r0 ∷ outer)) c.text.items
  safe_call c n w i f t reads = whole_mode (r0 ∷ outer) t (go (any_loop (carries t) (r0 ∷ outer)) refl)
    where
      by_own : (b : Bool) → carries t r0 ≡ b → (b || any_loop (carries t) outer) ≡ true → any_loop (carries t) w.rounds ≡ true
      by_own true e l = any_inside (carries t) r0 outer w.rounds i e
      by_own false e l = any_round (carries t) r0 outer w.rounds i l

      go : (b : Bool) → any_loop (carries t) (r0 ∷ outer) ≡ b → b ≡ false
      go false e = refl
      go true e = absurd (f.f8 c n refl t reads (by_own (carries t r0) refl e))

  rounds_carry : (m : Modes) (cs : List Carry) (r : Loop) (rounds : List Loop) → Inside r0 outer rounds → ((t : List ℕ) → m t ≡ modes_of rounds t) → bad_items [] cs r rounds ≡ [] → MayCarry m cs
  rounds_carry m cs r [] i e h = absurd i
  rounds_carry m cs r (n ∷ ns) i e h = may_carry r0 outer head m [] cs r n ns i e h

  pub inner_tables : TableRules (Fine p) (Callable p (modes_of (r0 ∷ outer))) Inner
  inner_tables = record {
    read = λ m w t a b i f. subst (λ md. ReadsAt md a b) (sym (i.modes t.text.items)) (reads_at r0 outer head t.text.items a b w.rounds i.inside (at_none t _ f.f5));
    written = λ m w t a b i f. subst (λ md. WritesAt md a b) (sym (i.modes t.text.items)) (writes_at r0 outer head t.text.items a b w.rounds i.inside (at_none t _ f.f4));
    unnamed = λ m w x i f t.
        subst (AllOfMode (λ y. x.text.items ≡ y → ⊥)) (sym (i.modes t)) (modes_seen w.scope (λ y. x.text.items ≡ y → ⊥) (apart_from p w x f) w.rounds i.seen t);
    called = λ m w c n i f. safe_call c n w i.inside f;
    shown = λ m w q i f. silent w.part w.depth i.below.0 i.part i.below.1 q f.f7 f.f9;
    carried = λ m w x cs qs y z i f. rounds_carry m cs (the_loop w x cs qs) w.rounds i.inside i.modes f.f6;
    after_let = λ m w x i. record {
      inside = i.inside;
      modes = i.modes;
      seen = seen_more w.scope x.text.items w.rounds i.seen;
      part = i.part;
      below = i.below;
    };
    into_loop = λ m w x i. record {
      inside = i.inside;
      modes = i.modes;
      seen = seen_more w.scope x.text.items w.rounds i.seen;
      part = i.part;
      below = i.below;
    };
    into_par = λ m w x cs qs y z i f h. record {
      inside = inr (record { items = f.f6; targets = f.f3 }, i.inside);
      modes = λ t. inner_same cs x.text.items m (modes_of w.rounds) t (i.modes t);
      seen = seen_par w x cs qs h;
      part = i.part;
      below = (w.depth, refl);
    };
  }

-- ---- in a function, where what it reads is whole

-- a function carries nothing
pub inner_none : (cs : List Carry) (x : List ℕ) (m : Modes) (q : Place) → carry_word OfFunc q cs ≡ [] → (t : List ℕ) → inner_modes cs x m t ≡ demoted (m t)
inner_none [] x m q h t = refl
inner_none (c ∷ cs) x m q h t = absurd (cc)

none_carried : (cs : List Carry) (m : Modes) (q : Place) → carry_word OfFunc q cs ≡ [] → MayCarry m cs
none_carried [] m q h = tt
none_carried (c ∷ cs) m q h = absurd (cc)

-- a site of the function that breaks no rule
abbrev pub Stands : Program → Func → Act → Spot → Type 0
Stands p g a w = Fine p a w × Contains (in_func p g) (record { act = a; spot = w })

module _ (p : Program) (safe : Modes) (f : List ℕ) (g : Func) (is : func_of p.funcs.items f ≡ Some g) (reads : Callable p safe f) where
  pub record OfFunction (m : Modes) (w : Spot) : Type 0 where
    pub part : w.part ≡ OfFunc
    pub whole : (t : List ℕ) → safe t ≡ Whole → m t ≡ Whole
    pub plain : (t : List ℕ) → demoted (m t) ≡ m t

  no_word : (w : Spot) (q : Place) → w.part ≡ OfFunc → in_function w.part q ≡ [] → ⊥
  no_word w q i h = (let k : in_function OfFunc q ≡ [] = subst (λ z. in_function z q ≡ []) i h in absurd (cc))

  pub function_tables : TableRules (Stands p g) (Callable p safe) OfFunction
  function_tables = record {
    read = λ m w t a b i h. subst (λ md. ReadsAt md a b) (sym (i.whole t.text.items (reads t.text.items (itself f g w t a b is h.1)))) tt;
    written = λ m w t a b i h. absurd (no_word w t.place i.part h.0.f7);
    unnamed = λ m w x i h t. subst (AllOfMode (λ y. x.text.items ≡ y → ⊥)) (i.plain t) (demoted_all (λ y. x.text.items ≡ y → ⊥) (m t));
    called = λ m w c n i h t k. reads t (through f g w c n t is h.1 k);
    shown = λ m w q i h. no_word w q i.part h.0.f7;
    carried = λ m w x cs qs y z i h. none_carried cs m z (subst (λ u. carry_word u z cs ≡ []) i.part h.0.f7);
    after_let = λ m w x i. record { part = i.part; whole = i.whole; plain = i.plain };
    into_loop = λ m w x i. record { part = i.part; whole = i.whole; plain = i.plain };
    into_par = λ m w x cs qs y z i h l.
        let same = inner_none cs x.text.items m z (subst (λ u. carry_word u z cs ≡ []) i.part h.0.f7) in
        record {
          part = i.part;
          whole = λ t e. same t ∙ ap demoted (i.whole t e);
          plain = λ t. ap demoted (same t) ∙ demoted_twice (m t) ∙ sym (same t);
        };
  }
