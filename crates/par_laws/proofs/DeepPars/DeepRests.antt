-- Tables that are held of some tables are held of others that agree with these where they are held.
use Rattle.std.proofs.Common.{◌≡◌, Bool, true, false, List, [], ◌∷◌, bytes_eq, refl, sym, ap, subst}
use Rattle.std.proofs.Common.{◌∙◌}
use Rattle.std.specs.Prelude.{ℤ, ℕ}
use Rattle.std.proofs.lemmas.Slice.Eq.{bytes_eq-Decides}
use Rattle.slices.specs.Holding.{Holding}
use Rattle.tp_value.specs.declared.Table.{Table}
use Rattle.loop_rules.specs.Names.{is_in}
use Rattle.loop_meaning.specs.State.{no_table, table_of}
use Rattle.frame_machine.specs.Lawful.{Distinct}
use Rattle.frame_machine.specs.Parts.{AgreeAt, AgreeOn, Cells}
use Rattle.scene_laws.proofs.Merges.JoinsExtents.{shown_where}
use Rattle.scene_laws.proofs.Scenes.Regions.{AreShown, HasCell, IsShown, Region}
use Rattle.scene_laws.proofs.Scenes.Tables.{table_names}

no_such_table : (ts : List Table) (x : List ℕ) → is_in (table_names ts) x ≡ false
    → table_of ts x ≡ no_table
no_such_table [] x is = refl
no_such_table (t ∷ ts) x is = go (bytes_eq t.name x) refl (λ rest. no_such_table ts x rest)
  where
    go : (b : Bool) → bytes_eq t.name x ≡ b
        → (is_in (table_names ts) x ≡ false → table_of ts x ≡ no_table)
        → table_of (t ∷ ts) x ≡ no_table
    go true e rest = let wrong : true ≡ false = rw e at is in cc
    go false e rest = let other : is_in (table_names ts) x ≡ false = rw e at is in rw e (rest other)

pub shown_over : (region : Region) (A : Cells) (hs : List Holding) (us ts : List Table)
    → table_names us ≡ table_names ts → Distinct (table_names us) → AgreeOn A us ts
    → ((t : List ℕ) (i j : ℤ) → HasCell (region t) i j → A t i j) → AreShown region hs us
    → AreShown region hs ts
shown_over region A hs [] [] named distinct agree inside shown = tt
shown_over region A hs [] (t ∷ ts) named distinct agree inside shown = cc
shown_over region A hs (u ∷ us) [] named distinct agree inside shown = tt
shown_over region A [] (u ∷ us) (t ∷ ts) named distinct agree inside shown = absurd shown
shown_over region A (h ∷ hs) (u ∷ us) (t ∷ ts) named distinct agree inside shown = (
  subst (λ (x : List ℕ). IsShown (region x) h t) alike
      (shown_where (region u.name) (A u.name) h u t first (inside u.name) shown.0),
  shown_over region A hs us ts others distinct.1
      (λ x. behind x (bytes_eq u.name x) refl) inside shown.1,
)
  where
    alike : u.name ≡ t.name
    alike = cc

    others : table_names us ≡ table_names ts
    others = cc

    itself : bytes_eq u.name u.name ≡ true
    itself = (bytes_eq-Decides u.name u.name).1 refl

    same_test : (x : List ℕ) → bytes_eq t.name x ≡ bytes_eq u.name x
    same_test x = ap (λ (y : List ℕ). bytes_eq y x) (sym alike)

    first : AgreeAt (A u.name) u t
    first =
        let there : bytes_eq t.name u.name ≡ true = same_test u.name ∙ itself in
        let both : AgreeAt (A u.name) (table_of (u ∷ us) u.name) (table_of (t ∷ ts) u.name) =
        agree u.name in
        rw (itself, there) at both

    behind : (x : List ℕ) (b : Bool) → bytes_eq u.name x ≡ b
        → AgreeAt (A x) (table_of us x) (table_of ts x)
    behind x true e =
        let is : u.name ≡ x = (bytes_eq-Decides u.name x).0 e in
        let none_here : is_in (table_names us) x ≡ false = rw is at distinct.0 in
        let none_there : is_in (table_names ts) x ≡ false =
        subst (λ (ns : List (List ℕ)). is_in ns x ≡ false) others none_here in
        rw (no_such_table us x none_here, no_such_table ts x none_there)
        (record { rows = refl; cols = refl; size = refl; cells = λ i j a has. refl })
    behind x false e =
        let there : bytes_eq t.name x ≡ false = same_test x ∙ e in
        let both : AgreeAt (A x) (table_of (u ∷ us) x) (table_of (t ∷ ts) x) = agree x in
        rw (e, there) at both
