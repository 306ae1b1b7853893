-- The variables of a leaf loop stand in its registers.
use Rattle.std.proofs.Common.{◌≡◌, ◌≢◌, ℕ, ◌+◌, ◌<◌, ◌≤◌, Bool, true, false, cond, List, []}
use Rattle.std.proofs.Common.{◌∷◌, ◌++◌, length, bytes_eq, None, Some, Vec, refl, sym}
use Rattle.std.proofs.Common.{ap, subst, ◌∙◌, arith}
use Rattle.std.specs.Prelude.{nat_eq}
use Rattle.std.specs.declared.alloc.Global.{Global}
use Rattle.std.proofs.lemmas.Bool.{eq-eqb, eqb-true, true≢false}
use Rattle.std.proofs.lemmas.List.{length-append, map-append}
use Rattle.frame_machine.specs.Lawful.{TargetsIn}
use Rattle.handler_gen.specs.LeafSites.{registers_from, registers_of}
use Rattle.loop_check.proofs.Found.{eq_is, eq_self, is_in_end, is_in_more}
use Rattle.loop_rules.specs.Names.{is_in}
use Rattle.loop_syntax.specs.declared.ParLoop.{ParLoop}
use Rattle.loop_syntax.specs.declared.Reduce.{Reduce}
use Rattle.tpal_syntax.specs.declared.sites.LeafSite.{LeafSite}
use Rattle.expr_lower.specs.declared.scope.Scope.{Scope}
use Rattle.expr_lower.specs.Scopes.{has_cell_in, offset_of, register_in}
use Rattle.scene_laws.specs.Layout.{bound_cell, value_cell}
use Rattle.block_lower.specs.Lowering.{AreHeld, held_by, held_from}
use Rattle.scene_laws.specs.Names.{Sees, StandFor, level_of}
use Rattle.scene_laws.specs.Round.{register_for}
use Rattle.scene_laws.specs.Sites.{accs_of}
use Rattle.scene_laws.proofs.Scenes.Levels.{at_level}
use Rattle.scene_laws.proofs.Scenes.Seeing.{cell_of_level, one_cell}
use Rattle.block_lower.proofs.Written.Standing.{is_behind, level_before, level_behind}

abbrev Held : Type 0
Held = Vec ℕ Global × ℕ

abbrev named : Held → List ℕ × ℕ
named r = (r.0.items, r.1)

-- the first of some variables and the others
first_held : (c : Held) (cs : List Held) (p : List ℕ × ℕ) (ps : List (List ℕ × ℕ))
    → AreHeld (c ∷ cs) (p ∷ ps) → named c ≡ p
first_held c cs p ps held = cc

other_held : (c : Held) (cs : List Held) (p : List ℕ × ℕ) (ps : List (List ℕ × ℕ))
    → AreHeld (c ∷ cs) (p ∷ ps) → AreHeld cs ps
other_held c cs p ps held = cc

-- one more variable that is reduced
held_from_more : (r : ℕ) (xs : List Reduce) (x : Reduce)
    → held_from r (xs ++ x ∷ []) ≡ held_from r xs ++ (x.target.text.items, r + length xs) ∷ []
held_from_more r [] x = ap (λ (k : ℕ). (x.target.text.items, k) ∷ []) (omega arith)
held_from_more r (y ∷ ys) x =
    ap (λ (ps : List (List ℕ × ℕ)). (y.target.text.items, r) ∷ ps)
    (held_from_more (r + 1) ys x
    ∙ ap (λ (k : ℕ). held_from (r + 1) ys ++ (x.target.text.items, k) ∷ []) (omega arith))

pub held_more : (own : List ℕ) (xs : List Reduce) (x : Reduce) (regs : List Held) (c : Held)
    → c.0.items ≡ x.target.text.items → c.1 ≡ 26 + length xs
    → AreHeld regs ((own, 24) ∷ held_from 26 xs)
    → AreHeld (regs ++ c ∷ []) ((own, 24) ∷ held_from 26 (xs ++ x ∷ []))
held_more own xs x regs c is_x in_next held =
    map-append named regs (c ∷ [])
    ∙ ap (λ (ps : List (List ℕ × ℕ)). ps ++ named c ∷ []) held
    ∙ ap (λ (p : List ℕ × ℕ). (own, 24) ∷ (held_from 26 xs ++ p ∷ []))
    (ap (λ (y : List ℕ). (y, c.1)) is_x ∙ ap (λ (k : ℕ). (x.target.text.items, k)) in_next)
    ∙ ap (λ (ps : List (List ℕ × ℕ)). (own, 24) ∷ ps) (sym (held_from_more 26 xs x))

other_cell : (a b : ℕ) → a ≢ b → nat_eq a b ≡ false
other_cell a b apart = go (nat_eq a b) refl
  where
    go : (e : Bool) → nat_eq a b ≡ e → nat_eq a b ≡ false
    go true e = absurd (apart (eqb-true a b e))
    go false e = e

module _ (scope : Scope) (names tables : List (List ℕ)) (sees : Sees scope names tables) where
  own_cell : (x : List ℕ) → is_in names x ≡ true
      → offset_of scope x ≡ value_cell (level_of names x)
  own_cell x seen = cell_of_level scope names tables sees x seen

  -- the register of a variable that is reduced is that of its cell
  reduced_held : (r : ℕ) (rs : List Reduce) (regs : List Held) → AreHeld regs (held_from r rs)
      → TargetsIn names rs → (x : List ℕ) → is_in names x ≡ true
      → register_in regs x ≡ register_for (registers_from r (accs_of scope rs)) (offset_of scope x)
  reduced_held r [] [] held targets x seen = refl
  reduced_held r [] (c ∷ cs) held targets x seen = cc
  reduced_held r (q ∷ qs) [] held targets x seen = cc
  reduced_held r (q ∷ qs) (c ∷ cs) held targets x seen =
      let first : named c ≡ (q.target.text.items, r) =
      first_held c cs (q.target.text.items, r) (held_from (r + 1) qs) held in
      ap (λ (p : List ℕ × ℕ). cond (bytes_eq p.0 x) (Some p.1) (register_in cs x)) first
      ∙ go (bytes_eq q.target.text.items x) refl
      (reduced_held (r + 1) qs cs
      (other_held c cs (q.target.text.items, r) (held_from (r + 1) qs) held) targets.1 x seen)
    where
      rest : List (ℕ × ℕ)
      rest = registers_from (r + 1) (accs_of scope qs)

      go : (b : Bool) → bytes_eq q.target.text.items x ≡ b
          → register_in cs x ≡ register_for rest (offset_of scope x)
          → cond (bytes_eq q.target.text.items x) (Some r) (register_in cs x)
          ≡ cond (nat_eq (offset_of scope q.target.text.items) (offset_of scope x)) (Some r)
          (register_for rest (offset_of scope x))
      go true e others =
          let same : nat_eq (offset_of scope q.target.text.items) (offset_of scope x) ≡ true =
          eq-eqb (offset_of scope q.target.text.items) (offset_of scope x)
          (ap (λ (y : List ℕ). offset_of scope y) (eq_is q.target.text.items x e)) in
          rw (e, same) refl
      go false e others =
          let apart : offset_of scope q.target.text.items ≢ offset_of scope x = λ same.
          absurd (true≢false (sym (subst (λ (y : List ℕ). bytes_eq q.target.text.items y ≡ true)
          (one_cell scope names tables sees q.target.text.items x targets.0 seen same)
          (eq_self q.target.text.items)) ∙ e)) in
          let differ : nat_eq (offset_of scope q.target.text.items) (offset_of scope x) ≡ false =
          other_cell (offset_of scope q.target.text.items) (offset_of scope x) apart in
          rw (e, differ) others

  -- they are visible
  reduced_seen : (r : ℕ) (rs : List Reduce) (regs : List Held) → AreHeld regs (held_from r rs)
      → TargetsIn names rs → (x : List ℕ) → has_cell_in regs x ≡ true → is_in names x ≡ true
  reduced_seen r [] [] held targets x has = absurd (true≢false (sym has))
  reduced_seen r [] (c ∷ cs) held targets x has = cc
  reduced_seen r (q ∷ qs) [] held targets x has = cc
  reduced_seen r (q ∷ qs) (c ∷ cs) held targets x has =
      go (bytes_eq c.0.items x) refl
      (λ later. reduced_seen (r + 1) qs cs
      (other_held c cs (q.target.text.items, r) (held_from (r + 1) qs) held) targets.1 x later)
    where
      first : c.0.items ≡ q.target.text.items
      first = ap (λ (p : List ℕ × ℕ). p.0)
          (first_held c cs (q.target.text.items, r) (held_from (r + 1) qs) held)

      go : (b : Bool) → bytes_eq c.0.items x ≡ b
          → (has_cell_in cs x ≡ true → is_in names x ≡ true) → is_in names x ≡ true
      go true e others =
          subst (λ (y : List ℕ). is_in names y ≡ true) (sym first ∙ eq_is c.0.items x e) targets.0
      go false e others = others (rw e at has)

  -- no register stands for the cell of a level behind them
  none_behind : (r : ℕ) (rs : List Reduce) → TargetsIn names rs → (level : ℕ)
      → length names ≤ level
      → register_for (registers_from r (accs_of scope rs)) (value_cell level) ≡ None
  none_behind r [] targets level above = refl
  none_behind r (q ∷ qs) targets level above =
      let cell : offset_of scope q.target.text.items
      ≡ value_cell (level_of names q.target.text.items) =
      own_cell q.target.text.items targets.0 in
      let below : level_of names q.target.text.items < length names =
      (at_level names q.target.text.items targets.0).0 in
      let differ : nat_eq (offset_of scope q.target.text.items) (value_cell level) ≡ false =
      other_cell (offset_of scope q.target.text.items) (value_cell level)
      (λ same. absurd (omega (arith, cell, below, above, same))) in
      rw differ (none_behind (r + 1) qs targets.1 level above)

  module _ (l : ParLoop) (site : LeafSite) (new : is_in names l.var.text.items ≡ false)
      (targets : TargetsIn names l.reduces.items)
      (cursor : site.cursor ≡ value_cell (length names))
      (bound : site.bound ≡ bound_cell (length names))
      (accs : site.accs ≡ accs_of scope l.reduces.items) where
    abbrev deeper : List (List ℕ)
    deeper = names ++ l.var.text.items ∷ []

    -- what registers stand for a cell that is none of the loop's own
    other_for : (cell : ℕ) → site.cursor ≢ cell → site.bound ≢ cell
        → register_for (registers_of site) cell
        ≡ register_for (registers_from 26 (accs_of scope l.reduces.items)) cell
    other_for cell no_cursor no_bound =
        let one : nat_eq site.cursor cell ≡ false = other_cell site.cursor cell no_cursor in
        let two : nat_eq site.bound cell ≡ false = other_cell site.bound cell no_bound in
        rw (one, two, accs) refl

    -- the loop's variable stands in the register of its cell
    own_for : register_for (registers_of site) (value_cell (length names)) ≡ Some 24
    own_for =
        let same : nat_eq site.cursor (value_cell (length names)) ≡ true =
        eq-eqb site.cursor (value_cell (length names)) cursor in
        rw same refl

    pub stand_held : (regs : List Held) → AreHeld regs (held_by l)
        → StandFor (names ++ l.var.text.items ∷ []) regs (registers_of site)
    stand_held [] held = cc
    stand_held (c ∷ cs) held = record {
      are = λ y seen. by_name y seen (bytes_eq c.0.items y) refl;
      seen = λ y has. there y has (bytes_eq c.0.items y) refl;
      others = behind;
      bare = λ none. cc;
    }
      where
        first : named c ≡ (l.var.text.items, 24)
        first = first_held c cs (l.var.text.items, 24) (held_from 26 l.reduces.items) held

        rest : AreHeld cs (held_from 26 l.reduces.items)
        rest = other_held c cs (l.var.text.items, 24) (held_from 26 l.reduces.items) held

        is_var : c.0.items ≡ l.var.text.items
        is_var = ap (λ (p : List ℕ × ℕ). p.0) first

        old : (y : List ℕ) → is_in deeper y ≡ true → bytes_eq c.0.items y ≡ false
            → is_in names y ≡ true
        old y seen other = go (is_in names y) refl
          where
            go : (b : Bool) → is_in names y ≡ b → is_in names y ≡ true
            go true e = e
            go false e =
                absurd (true≢false (sym (is_behind names l.var.text.items y e seen)
                ∙ ap (λ (x : List ℕ). bytes_eq x y) (sym is_var) ∙ other))

        by_name : (y : List ℕ) → is_in deeper y ≡ true → (b : Bool) → bytes_eq c.0.items y ≡ b
            → register_in (c ∷ cs) y
            ≡ register_for (registers_of site) (value_cell (level_of deeper y))
        by_name y seen true e =
            let is_y : l.var.text.items ≡ y = sym is_var ∙ eq_is c.0.items y e in
            let unseen : is_in names y ≡ false =
            subst (λ (x : List ℕ). is_in names x ≡ false) is_y new in
            let level : level_of deeper y ≡ length names =
            level_behind names l.var.text.items y unseen seen in
            let held_there : register_in (c ∷ cs) y ≡ Some c.1 = rw e refl in
            held_there ∙ ap (λ (p : List ℕ × ℕ). Some p.1) first ∙ sym own_for
            ∙ ap (λ (n : ℕ). register_for (registers_of site) (value_cell n)) (sym level)
        by_name y seen false e =
            let seen_y : is_in names y ≡ true = old y seen e in
            let below : level_of names y < length names = (at_level names y seen_y).0 in
            let cell : offset_of scope y ≡ value_cell (level_of names y) = own_cell y seen_y in
            let level : level_of deeper y ≡ level_of names y =
            level_before names l.var.text.items y seen_y in
            let held_there : register_in (c ∷ cs) y ≡ register_in cs y = rw e refl in
            held_there ∙ reduced_held 26 l.reduces.items cs rest targets y seen_y
            ∙ sym (other_for (offset_of scope y)
            (λ same. absurd (omega (arith, same, cursor, cell, below)))
            (λ same. absurd (omega (arith, same, bound, cell, below))))
            ∙ ap (λ (n : ℕ). register_for (registers_of site) n)
            (cell ∙ ap value_cell (sym level))

        there : (y : List ℕ) → has_cell_in (c ∷ cs) y ≡ true → (b : Bool)
            → bytes_eq c.0.items y ≡ b → is_in deeper y ≡ true
        there y has true e =
            subst (λ (x : List ℕ). is_in deeper x ≡ true) (sym is_var ∙ eq_is c.0.items y e)
            (is_in_end names l.var.text.items)
        there y has false e =
            is_in_more names l.var.text.items y
            (reduced_seen 26 l.reduces.items cs rest targets y (rw e at has))

        behind : (level : ℕ) → length deeper ≤ level
            → register_for (registers_of site) (value_cell level) ≡ None
        behind level above =
            let more : length deeper ≡ length names + 1 =
            length-append names (l.var.text.items ∷ []) in
            other_for (value_cell level)
            (λ same. absurd (omega (arith, same, cursor, above, more)))
            (λ same. absurd (omega (arith, same, bound, above, more)))
            ∙ none_behind 26 l.reduces.items targets level (omega (arith, above, more))
