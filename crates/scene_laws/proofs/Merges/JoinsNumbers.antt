-- Parts of tables that are put to those of their numbers.
use Rattle.std.proofs.Common.{◌≡◌, ℕ, suc, ◌<◌, ◌≤◌, Bool, true, false, cond, List, []}
use Rattle.std.proofs.Common.{◌∷◌, length, Vec, bytes_eq, refl, sym, ap, subst, ◌∙◌, Option, Some}
use Rattle.std.proofs.Common.{None, arith}
use Rattle.std.proofs.lemmas.Bool.{eqb-true, eq-eqb}
use Rattle.std.proofs.lemmas.List.{get_or-set_other, get_or-set_same, length-set}
use Rattle.std.proofs.lemmas.Slice.Eq.{bytes_eq-Decides}
use Rattle.std.specs.List.{AllByRecursion, IsDistinct}
use Rattle.std.specs.Prelude.{ℤ, ◌||◌, nat_eq, slice_set}
use Rattle.std.specs.declared.alloc.Global.{Global}
use Rattle.slices.specs.Holding.{Holding, cell_at, together}
use Rattle.slices.specs.Spans.{or_else}
use Rattle.slices.proofs.JoinLaws.{cell_at-together, same_holding}
use Rattle.tp_value.specs.declared.Table.{Table}
use Rattle.loop_syntax.specs.declared.Carry.{Carry}
use Rattle.loop_meaning.specs.State.{table_of}
use Rattle.tpal_machine.specs.Merge.{put_together}
use Rattle.tpal_machine.specs.Reading.{no_cells, table_at}
use Rattle.expr_lower.specs.declared.scope.Scope.{Scope}
use Rattle.expr_lower.specs.Scopes.{has_table_in, number_in, table_number}
use Rattle.scene_laws.proofs.Merges.JoinsModes.{is_carried}
use Rattle.scene_laws.proofs.Cuts.Parts.{part_of_table}
use Rattle.scene_laws.proofs.Scenes.Regions.{AreShown, IsShown, Region}
use Rattle.scene_laws.proofs.Cuts.Sides.{carried, parts_in}
use Rattle.scene_laws.proofs.Scenes.Tables.{listed_names, table_names}

-- ---- by numbers

-- what is put to the table of a number
abbrev pub gathered : Holding → List (ℕ × Holding) → ℕ → Holding
gathered h [] n = h
gathered h (s ∷ ss) n = gathered (cond (nat_eq s.0 n) (together h s.1) h) ss n

set_at : (tables : List Holding) (m n : ℕ) (h : Holding) → n < length tables
    → table_at (slice_set tables m (together (table_at tables m) h)) n
    ≡ cond (nat_eq m n) (together (table_at tables n) h) (table_at tables n)
set_at tables m n h inside = go (nat_eq m n) refl
  where
    go : (b : Bool) → nat_eq m n ≡ b
        → table_at (slice_set tables m (together (table_at tables m) h)) n
        ≡ cond b (together (table_at tables n) h) (table_at tables n)
    go true is =
        let same : m ≡ n = eqb-true m n is in
        ap (λ k. table_at (slice_set tables k (together (table_at tables k) h)) n) same
        ∙ get_or-set_same tables n (together (table_at tables n) h) no_cells inside
    go false is =
        get_or-set_other tables m n (together (table_at tables m) h) no_cells (λ same.
        (let no_way : false ≡ true = sym is ∙ eq-eqb m n (sym same) in cc))

pub put_at : (tables : List Holding) (ss : List (ℕ × Holding)) (n : ℕ) → n < length tables
    → table_at (put_together tables ss) n ≡ gathered (table_at tables n) ss n
put_at tables [] n inside = refl
put_at tables (s ∷ ss) n inside =
    put_at (slice_set tables s.0 (together (table_at tables s.0) s.1)) ss n
    (rw (length-set tables s.0 (together (table_at tables s.0) s.1)) inside)
    ∙ ap (λ h. gathered h ss n) (set_at tables s.0 n s.1 inside)

pub put_length : (tables : List Holding) (ss : List (ℕ × Holding))
    → length (put_together tables ss) ≡ length tables
put_length tables [] = refl
put_length tables (s ∷ ss) =
    put_length (slice_set tables s.0 (together (table_at tables s.0) s.1)) ss
    ∙ length-set tables s.0 (together (table_at tables s.0) s.1)

-- a part that is put to a table twice
together_twice : (h k : Holding) → together (together h k) k ≡ together h k
together_twice h k =
    same_holding (together (together h k) k) (together h k) refl refl
    (λ i j. cell_at-together (together h k) k i j
    ∙ (ap (λ o. or_else o (cell_at k i j)) (cell_at-together h k i j)
    ∙ (again (cell_at h i j) (cell_at k i j) ∙ sym (cell_at-together h k i j)))) refl
  where
    again : (a b : Option ℤ) → or_else (or_else a b) b ≡ or_else a b
    again None None = refl
    again None (Some n) = refl
    again (Some m) b = refl

-- two names of one number are the same, where a table has one of them
pub same_number : (us : List (Vec ℕ Global)) (x y : List ℕ) → has_table_in us x ≡ true
    → nat_eq (number_in us y) (number_in us x) ≡ bytes_eq y x
same_number us x y has = go (bytes_eq y x) refl
  where
    number_apart : (us : List (Vec ℕ Global)) → has_table_in us x ≡ true
        → number_in us y ≡ number_in us x → y ≡ x
    number_apart [] has same = absurd (let no_way : false ≡ true = has in cc)
    number_apart (u ∷ us) has same =
        by_first (bytes_eq u.items x) (bytes_eq u.items y) refl refl
        (λ more others. number_apart us more others)
      where
        by_first : (a b : Bool) → bytes_eq u.items x ≡ a → bytes_eq u.items y ≡ b
            → (has_table_in us x ≡ true → number_in us y ≡ number_in us x → y ≡ x) → y ≡ x
        by_first true true is_x is_y behind =
            sym ((bytes_eq-Decides u.items y).0 is_y) ∙ (bytes_eq-Decides u.items x).0 is_x
        by_first true false is_x is_y behind =
            let no_way : suc (number_in us y) ≡ 0 = rw (is_x, is_y) at same in
            absurd (omega (arith, no_way))
        by_first false true is_x is_y behind =
            let no_way : 0 ≡ suc (number_in us x) = rw (is_x, is_y) at same in
            absurd (omega (arith, no_way))
        by_first false false is_x is_y behind =
            let next : suc (number_in us y) ≡ suc (number_in us x) = rw (is_x, is_y) at same in
            behind (rw is_x at has) (omega (arith, next))

    go : (b : Bool) → bytes_eq y x ≡ b → nat_eq (number_in us y) (number_in us x) ≡ b
    go true is =
        eq-eqb (number_in us y) (number_in us x)
        (ap (number_in us) ((bytes_eq-Decides y x).0 is))
    go false is = apart (nat_eq (number_in us y) (number_in us x)) refl
      where
        apart : (b : Bool) → nat_eq (number_in us y) (number_in us x) ≡ b → b ≡ false
        apart true same =
            let names : y ≡ x = number_apart us has
            (eqb-true (number_in us y) (number_in us x) same) in
            absurd (let no_way : false ≡ true = sym is ∙ (bytes_eq-Decides y x).1 names in cc)
        apart false same = refl

module _ (scope : Scope) (region : Region) (ts : List Table) (x : List ℕ)
    (has : has_table_in scope.tables.items x ≡ true) where
  -- the part that is given back of a table
  abbrev pub given_back : Holding
  given_back = part_of_table (region x) (table_of ts x)

  gathered_more : (cs : List Carry) (h : Holding)
      → gathered (together h given_back) (parts_in scope region ts cs) (table_number scope x)
      ≡ together h given_back
  gathered_more [] h = refl
  gathered_more (c ∷ cs) h =
      ap (λ b. gathered (cond b (together (together h given_back)
      (part_of_table (region (carried c)) (table_of ts (carried c)))) (together h given_back))
      (parts_in scope region ts cs) (table_number scope x))
      (same_number scope.tables.items x (carried c) has)
      ∙ go (bytes_eq (carried c) x) refl (gathered_more cs h)
    where
      go : (b : Bool) → bytes_eq (carried c) x ≡ b
          → gathered (together h given_back) (parts_in scope region ts cs) (table_number scope x)
          ≡ together h given_back
          → gathered (cond b (together (together h given_back)
          (part_of_table (region (carried c)) (table_of ts (carried c)))) (together h given_back))
          (parts_in scope region ts cs) (table_number scope x) ≡ together h given_back
      go true is behind =
          ap (λ y. gathered (together (together h given_back)
          (part_of_table (region y) (table_of ts y))) (parts_in scope region ts cs)
          (table_number scope x)) ((bytes_eq-Decides (carried c) x).0 is)
          ∙ (ap (λ k. gathered k (parts_in scope region ts cs) (table_number scope x))
          (together_twice h given_back) ∙ behind)
      go false is behind = behind

  -- it is put to what is there of the table, if the table is carried
  pub gathered_is : (cs : List Carry) (h : Holding)
      → gathered h (parts_in scope region ts cs) (table_number scope x)
      ≡ cond (is_carried cs x) (together h given_back) h
  gathered_is [] h = refl
  gathered_is (c ∷ cs) h =
      ap (λ b. gathered (cond b (together h
      (part_of_table (region (carried c)) (table_of ts (carried c)))) h)
      (parts_in scope region ts cs) (table_number scope x))
      (same_number scope.tables.items x (carried c) has)
      ∙ go (bytes_eq (carried c) x) refl (gathered_is cs h)
    where
      go : (b : Bool) → bytes_eq (carried c) x ≡ b
          → gathered h (parts_in scope region ts cs) (table_number scope x)
          ≡ cond (is_carried cs x) (together h given_back) h
          → gathered (cond b (together h
          (part_of_table (region (carried c)) (table_of ts (carried c)))) h)
          (parts_in scope region ts cs) (table_number scope x)
          ≡ cond (b || is_carried cs x) (together h given_back) h
      go true is behind =
          ap (λ y. gathered (together h (part_of_table (region y) (table_of ts y)))
          (parts_in scope region ts cs) (table_number scope x))
          ((bytes_eq-Decides (carried c) x).0 is) ∙ gathered_more cs h
      go false is behind = behind

-- ---- by names

-- a table that is there has a number below how many there are
pub number_inside : (us : List (Vec ℕ Global)) (x : List ℕ) → has_table_in us x ≡ true
    → number_in us x < length us
number_inside [] x has = absurd (let no_way : false ≡ true = has in cc)
number_inside (u ∷ us) x has = go (bytes_eq u.items x) refl (λ more. number_inside us x more)
  where
    go : (b : Bool) → bytes_eq u.items x ≡ b
        → (has_table_in us x ≡ true → number_in us x < length us)
        → number_in (u ∷ us) x < length (u ∷ us)
    go true is behind = rw is (omega arith)
    go false is behind =
        let rest : number_in us x < length us = behind (rw is at has) in
        rw is (omega (arith, rest))

pub names_length : (us : List (Vec ℕ Global)) (ts : List Table) → listed_names us ≡ table_names ts
    → length us ≡ length ts
names_length [] [] named = refl
names_length [] (t ∷ ts) named = absurd (let no_way : [] ≡ t.name ∷ table_names ts = named in cc)
names_length (u ∷ us) [] named =
    absurd (let no_way : u.items ∷ listed_names us ≡ [] = named in cc)
names_length (u ∷ us) (t ∷ ts) named =
    let others : listed_names us ≡ table_names ts = cc in ap suc (names_length us ts others)

pub shown_length : (region : Region) (hs : List Holding) (ts : List Table) → AreShown region hs ts
    → length ts ≤ length hs
shown_length region hs [] shown = omega arith
shown_length region [] (t ∷ ts) shown = absurd shown
shown_length region (h ∷ hs) (t ∷ ts) shown =
    let behind : length ts ≤ length hs = shown_length region hs ts shown.1 in
    omega (arith, behind)

-- a name that differs from all of a list is none of a table there
not_among : (x y : List ℕ) (us : List (Vec ℕ Global))
    → AllByRecursion (λ z. bytes_eq x z ≡ false) (listed_names us) → has_table_in us y ≡ true
    → bytes_eq x y ≡ false
not_among x y [] differ has = absurd (let no_way : false ≡ true = has in cc)
not_among x y (u ∷ us) differ has =
    go (bytes_eq u.items y) refl (λ more. not_among x y us differ.1 more)
  where
    go : (b : Bool) → bytes_eq u.items y ≡ b → (has_table_in us y ≡ true → bytes_eq x y ≡ false)
        → bytes_eq x y ≡ false
    go true is behind =
        subst (λ z. bytes_eq x z ≡ false) ((bytes_eq-Decides u.items y).0 is) differ.0
    go false is behind = behind (rw is at has)

-- each table is held so where each is by its name, and no two have one name
pub shown_by_name : (region : Region) (hs : List Holding) (ts : List Table)
    (us : List (Vec ℕ Global)) → IsDistinct bytes_eq (listed_names us)
    → listed_names us ≡ table_names ts → length ts ≤ length hs
    → ((x : List ℕ) → has_table_in us x ≡ true
    → IsShown (region x) (table_at hs (number_in us x)) (table_of ts x)) → AreShown region hs ts
unfolding IsDistinct
shown_by_name region hs [] us differ named long each = tt
shown_by_name region [] (t ∷ ts) us differ named long each = absurd (omega (arith, long))
shown_by_name region (h ∷ hs) (t ∷ ts) [] differ named long each =
    absurd (let no_way : [] ≡ t.name ∷ table_names ts = named in cc)
shown_by_name region (h ∷ hs) (t ∷ ts) (u ∷ us) differ named long each =
    (here, shown_by_name region hs ts us differ.1 others (omega (arith, long)) behind)
  where
    alike : u.items ≡ t.name
    alike = cc

    others : listed_names us ≡ table_names ts
    others = cc

    itself : bytes_eq u.items t.name ≡ true
    itself = (bytes_eq-Decides u.items t.name).1 alike

    itself_too : bytes_eq t.name t.name ≡ true
    itself_too = (bytes_eq-Decides t.name t.name).1 refl

    here : IsShown (region t.name) h t
    here =
        let all : IsShown (region t.name) (table_at (h ∷ hs) (number_in (u ∷ us) t.name))
        (table_of (t ∷ ts) t.name) = each t.name (rw itself refl) in
        rw (itself, itself_too) at all

    behind : (x : List ℕ) → has_table_in us x ≡ true
        → IsShown (region x) (table_at hs (number_in us x)) (table_of ts x)
    behind x has =
        let other : bytes_eq u.items x ≡ false = not_among u.items x us differ.0 has in
        let other_too : bytes_eq t.name x ≡ false = rw alike at other in
        let all : IsShown (region x) (table_at (h ∷ hs) (number_in (u ∷ us) x))
        (table_of (t ∷ ts) x) = each x (rw other has) in
        rw (other, other_too) at all
