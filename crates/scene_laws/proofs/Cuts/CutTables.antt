-- What the parts of a cut `par` hold of tables.
use Rattle.std.proofs.Common.{◌≡◌, ◌≢◌, ℕ, suc, ◌+◌, Bool, true, false, cond, List, [], ◌∷◌}
use Rattle.std.proofs.Common.{bytes_eq, Vec, refl, ap, sym, subst, ◌∙◌, arith}
use Rattle.std.proofs.lemmas.Bool.Decides.{nat_tests}
use Rattle.std.proofs.lemmas.Slice.Eq.{bytes_eq-Decides}
use Rattle.std.specs.Prelude.{ℤ, ⊤, ◌==◌}
use Rattle.std.specs.declared.alloc.Global.{Global}
use Rattle.frame_machine.specs.Lawful.{Distinct}
use Rattle.loop_meaning.specs.declared.value.Variable.{Variable}
use Rattle.loop_rules.specs.Names.{is_in}
use Rattle.loop_syntax.specs.declared.Carry.{Carry}
use Rattle.loop_syntax.specs.declared.Carry.TheVariants as carry
use Rattle.slices.specs.Holding.{Holding}
use Rattle.tp_value.specs.declared.Table.{Table}
use Rattle.tpal_machine.specs.declared.cut.TableCut.{TableCut}
use Rattle.tpal_machine.specs.Cut.{child_of, cut_of, each_part, left_of, rest_of}
use Rattle.expr_lower.specs.declared.scope.Scope.{Scope}
use Rattle.expr_lower.specs.Scopes.{number_in}
use Rattle.scene_laws.proofs.Cuts.OwnWork.{cut_by_one, cuts_by}
use Rattle.scene_laws.proofs.Cuts.Parts.{AreCut, child_extent, child_shown, left_extent}
use Rattle.scene_laws.proofs.Cuts.Parts.{left_shown}
use Rattle.scene_laws.proofs.Cuts.Parts.{parts_shown, rest_extent, rest_shown}
use Rattle.scene_laws.proofs.Scenes.Regions.{AreShown, Region}
use Rattle.scene_laws.proofs.Cuts.Sides.{carried, child_region, cut_by, left_region}
use Rattle.scene_laws.proofs.Scenes.Tables.{listed_names, table_names}

-- how much the rest of a cut holds of each table
abbrev pub rest_region : List Variable → ℤ → List Carry → Region → Region
rest_region vs middle carries region = λ t. rest_extent (cut_by vs middle carries t) (region t)

-- a cut by a carry, and by those behind it
cut_first : (vs : List Variable) (middle : ℤ) (c : Carry) (cs : List Carry) (t : List ℕ)
    → cut_by vs middle (c ∷ cs) t
    ≡ cond (bytes_eq (carried c) t) (cut_by_one vs middle c) (cut_by vs middle cs t)
cut_first vs middle (carry.Rows u i) cs t = refl
cut_first vs middle (carry.Cells u k j) cs t = refl

-- ---- numbers of tables

-- each table has the number from n on that its name has, and no other name has it
abbrev AreNumbered : (List ℕ → ℕ) → ℕ → List Table → Type 0
AreNumbered number n [] = ⊤
AreNumbered number n (t ∷ ts) =
    ((x : List ℕ) → (number x == n) ≡ bytes_eq x t.name) × AreNumbered number (n + 1) ts

other_name : (x y : List ℕ) → x ≢ y → bytes_eq x y ≡ false
other_name x y ne = by_test (bytes_eq x y) refl
  where
    by_test : (b : Bool) → bytes_eq x y ≡ b → bytes_eq x y ≡ false
    by_test true e = absurd (ne ((bytes_eq-Decides x y).0 e))
    by_test false e = e

same_name : (x y : List ℕ) → bytes_eq x y ≡ true → bytes_eq y x ≡ true
same_name x y e = (bytes_eq-Decides y x).1 (sym ((bytes_eq-Decides x y).0 e))

swapped : (x y : List ℕ) → bytes_eq x y ≡ false → bytes_eq y x ≡ false
swapped x y e = other_name y x (λ is. clash ((bytes_eq-Decides x y).1 (sym is)))
  where
    clash : bytes_eq x y ≡ true → ⊥
    clash is = cc

-- the same numbers, each one more
one_more : (a n : ℕ) → (suc a == n + 1) ≡ (a == n)
one_more a n = by_test (a == n) refl
  where
    by_test : (b : Bool) → (a == n) ≡ b → (suc a == n + 1) ≡ b
    by_test true e = grind (arith, nat_tests)
    by_test false e = grind (arith, nat_tests)

none_less : (n : ℕ) → (0 == n + 1) ≡ false
none_less n = grind (arith, nat_tests)

none_more : (a : ℕ) → (suc a == 0) ≡ false
none_more a = grind (arith, nat_tests)

-- with one table more in front
in_front : (u : List ℕ) (number : List ℕ → ℕ) (n : ℕ) (ts : List Table)
    → is_in (table_names ts) u ≡ false → AreNumbered number n ts
    → AreNumbered (λ x. cond (bytes_eq u x) 0 (suc (number x))) (n + 1) ts
in_front u number n [] none numbered = tt
in_front u number n (t ∷ ts) none numbered = (
  λ x. by_name x (bytes_eq u x) refl,
  in_front u number (n + 1) ts (none_behind (bytes_eq t.name u) refl) numbered.1,
)
  where
    first_other : bytes_eq t.name u ≡ false
    first_other = by_test (bytes_eq t.name u) refl
      where
        by_test : (b : Bool) → bytes_eq t.name u ≡ b → bytes_eq t.name u ≡ false
        by_test true e = let wrong : true ≡ false = rw e at none in cc
        by_test false e = e

    none_behind : (b : Bool) → bytes_eq t.name u ≡ b → is_in (table_names ts) u ≡ false
    none_behind true e = let wrong : true ≡ false = rw e at none in cc
    none_behind false e = rw e at none

    by_name : (x : List ℕ) (b : Bool) → bytes_eq u x ≡ b
        → (cond b 0 (suc (number x)) == n + 1) ≡ bytes_eq x t.name
    by_name x true e =
        let is : u ≡ x = (bytes_eq-Decides u x).0 e in
        let other : bytes_eq u t.name ≡ false = swapped t.name u first_other in
        none_less n
        ∙ (sym other ∙ ap (λ (y : List ℕ). bytes_eq y t.name) is)
    by_name x false e =
        one_more (number x) n ∙ numbered.0 x

-- the tables of a scope have the numbers of their names there
scope_numbers : (us : List (Vec ℕ Global)) (ts : List Table)
    → listed_names us ≡ table_names ts → Distinct (table_names ts)
    → AreNumbered (λ x. number_in us x) 0 ts
scope_numbers us [] listed distinct = tt
scope_numbers [] (t ∷ ts) listed distinct = cc
scope_numbers (u ∷ us) (t ∷ ts) listed distinct = (
  λ x. first x (bytes_eq u.items x) refl,
  in_front u.items (λ x. number_in us x) 0 ts
      (ap (λ (y : List ℕ). is_in (table_names ts) y) named ∙ distinct.0)
      (scope_numbers us ts others distinct.1),
)
  where
    named : u.items ≡ t.name
    named = cc

    others : listed_names us ≡ table_names ts
    others = cc

    first : (x : List ℕ) (b : Bool) → bytes_eq u.items x ≡ b
        → (cond b 0 (suc (number_in us x)) == 0) ≡ bytes_eq x t.name
    first x true e =
        sym (subst (λ (y : List ℕ). bytes_eq x y ≡ true) named (same_name u.items x e))
    first x false e =
        none_more (number_in us x)
        ∙ sym (subst (λ (y : List ℕ). bytes_eq x y ≡ false) named (swapped u.items x e))

-- ---- cuts

module _ (scope : Scope) (vs : List Variable) (middle : ℤ) where
  -- the table of a number is cut as the one of its name
  cut_there : (cs : List Carry) (n : ℕ) (t : List ℕ)
      → ((x : List ℕ) → (number_in scope.tables.items x == n) ≡ bytes_eq x t)
      → cut_of (cuts_by scope vs middle cs) n ≡ cut_by vs middle cs t
  cut_there [] n t numbered = refl
  cut_there (c ∷ cs) n t numbered =
      ap (λ (b : Bool). cond b (cut_by_one vs middle c) (cut_of (cuts_by scope vs middle cs) n))
      (numbered (carried c))
      ∙ (ap (λ (cut : TableCut). cond (bytes_eq (carried c) t) (cut_by_one vs middle c) cut)
      (cut_there cs n t numbered)
      ∙ sym (cut_first vs middle c cs t))

  cut_each : (cs : List Carry) (n : ℕ) (ts : List Table)
      → AreNumbered (λ x. number_in scope.tables.items x) n ts
      → AreCut (cuts_by scope vs middle cs) (cut_by vs middle cs) n ts
  cut_each cs n [] numbered = tt
  cut_each cs n (t ∷ ts) numbered =
      (cut_there cs n t.name numbered.0, cut_each cs (n + 1) ts numbered.1)

  -- tables are cut by their numbers as by their names
  pub are_cut : (cs : List Carry) (ts : List Table)
      → listed_names scope.tables.items ≡ table_names ts → Distinct (table_names ts)
      → AreCut (cuts_by scope vs middle cs) (cut_by vs middle cs) 0 ts
  are_cut cs ts listed distinct =
      cut_each cs 0 ts (scope_numbers scope.tables.items ts listed distinct)

  -- what the left, the child and the rest hold of a task's tables
  module _ (cs : List Carry) (region : Region) (hs : List Holding) (ts : List Table)
      (listed : listed_names scope.tables.items ≡ table_names ts)
      (distinct : Distinct (table_names ts)) (shown : AreShown region hs ts) where
    pub left_tables : AreShown (left_region vs middle cs region)
        (each_part left_of (cuts_by scope vs middle cs) 0 hs) ts
    left_tables = parts_shown left_of left_extent left_shown (cuts_by scope vs middle cs)
        (cut_by vs middle cs) region 0 hs ts (are_cut cs ts listed distinct) shown

    pub child_tables : AreShown (child_region vs middle cs region)
        (each_part child_of (cuts_by scope vs middle cs) 0 hs) ts
    child_tables = parts_shown child_of child_extent child_shown (cuts_by scope vs middle cs)
        (cut_by vs middle cs) region 0 hs ts (are_cut cs ts listed distinct) shown

    pub rest_tables : AreShown (rest_region vs middle cs region)
        (each_part rest_of (cuts_by scope vs middle cs) 0 hs) ts
    rest_tables = parts_shown rest_of rest_extent rest_shown (cuts_by scope vs middle cs)
        (cut_by vs middle cs) region 0 hs ts (are_cut cs ts listed distinct) shown
