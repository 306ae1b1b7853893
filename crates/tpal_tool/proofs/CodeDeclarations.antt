-- The tables of a code, one by one.
use Rattle.std.proofs.Common.{◌≡◌, ℕ, suc, ◌+◌, ◌<◌, ◌≤◌, Bool, true, false, cond, List, [], ◌∷◌}
use Rattle.std.proofs.Common.{◌++◌, length, drop, get_or, Some, None, All, bytes_eq, refl, ap, sym}
use Rattle.std.proofs.Common.{◌∙◌, subst, append_assoc, append-nil, arith}
use Rattle.std.specs.Prelude.{⊤, ◌≢◌, slice_index_or}
use Rattle.tpal_syntax.specs.Conditions.{AreDistinct, input_names}
use Rattle.std.proofs.lemmas.Slice.Eq.{bytes_eq-Decides}
use Rattle.std.proofs.lemmas.List.{drop_more, drop_all}
use Rattle.slices.specs.Holding.{Holding}
use Rattle.tp_value.specs.declared.values.Table.{Table}
use Rattle.loop_meaning.specs.State.{table_of}
use Rattle.scene_laws.specs.Tables.{IsTable}
use Rattle.tpal_syntax.specs.declared.blocks.CodeTable.{CodeTable}
use Rattle.tpal_syntax.specs.declared.blocks.CodeTable.TheVariants.{Input, Made}
use Rattle.tpal_tool.specs.CodeInputs.{AreCodeHeld, IsInputOf, IsUnmade, first_missing_input}
use Rattle.tpal_tool.specs.Inputs.{is_given, without}
use Rattle.tpal_tool.proofs.TakenTables.{table_left, given_left, tables_left}

-- as many tables are held as are in the code
pub as_many_held : (ts : List CodeTable) (given : List Table) (hs : List Holding) → AreCodeHeld ts given hs → length hs ≡ length ts
as_many_held [] given [] held = refl
as_many_held [] given (h ∷ hs) held = absurd held
as_many_held (t ∷ ts) given [] held = absurd held
as_many_held (Input name ∷ ts) given (h ∷ hs) held = ap suc (as_many_held ts given hs held.1)
as_many_held (Made ∷ ts) given (h ∷ hs) held = ap suc (as_many_held ts given hs held.1)

-- the tables from one on
from_here : (ts : List CodeTable) (i : ℕ) (t e : CodeTable) → i < length ts → t ≡ get_or ts i t → t ≡ e → drop i ts ≡ e ∷ drop (i + 1) ts
from_here ts i t e within is same = drop_more ts i t within ∙ ap (λ (f : CodeTable). f ∷ drop (i + 1) ts) (sym is ∙ same)

-- no input has that name
abbrev pub Apart : List ℕ → List CodeTable → Type 0
Apart name [] = ⊤
Apart name (Input x ∷ ts) = (bytes_eq name x ≡ false) × Apart name ts
Apart name (Made ∷ ts) = Apart name ts

-- the inputs have different names
abbrev pub AreApart : List CodeTable → Type 0
AreApart [] = ⊤
AreApart (Input x ∷ ts) = Apart x ts × AreApart ts
AreApart (Made ∷ ts) = AreApart ts

-- each input's table is among those that are left
abbrev pub AreLeft : List CodeTable → List Table → List Table → Type 0
AreLeft [] given left = ⊤
AreLeft (Input x ∷ ts) given left = (is_given left x ≡ true) × (table_of left x ≡ table_of given x) × AreLeft ts given left
AreLeft (Made ∷ ts) given left = AreLeft ts given left

-- at first all of them are
all_left : (ts : List CodeTable) (given : List Table) → first_missing_input ts given ≡ None → AreLeft ts given given
all_left [] given complete = tt
all_left (Input x ∷ ts) given complete = go (is_given given x) refl complete (all_left ts given)
  where
    go : (b : Bool) → is_given given x ≡ b → cond b (first_missing_input ts given) (Some x) ≡ None → (first_missing_input ts given ≡ None → AreLeft ts given given) → AreLeft (Input x ∷ ts) given given
    go true is rest later = (is, refl, later rest)
    go false is never later = cc
all_left (Made ∷ ts) given complete = all_left ts given complete

-- and those of other inputs are, where one is taken
others_left : (ts : List CodeTable) (given left : List Table) (name : List ℕ) → Apart name ts → AreLeft ts given left → AreLeft ts given (without left name)
others_left [] given left name apart are = tt
others_left (Input x ∷ ts) given left name apart are =
    (given_left left name x apart.0 ∙ are.0, table_left left name x apart.0 ∙ are.1, others_left ts given left name apart.1 are.2)
others_left (Made ∷ ts) given left name apart are = others_left ts given left name apart are

-- behind i tables: what is held of the others completes what is held of all, and the tables of the
-- others are left
pub record SoFar (ts : List CodeTable) (given : List Table) (i : ℕ) (left : List Table) (held : List Holding) : Type 0 where
  pub completes : (rest : List Holding) → AreCodeHeld (drop i ts) given rest → AreCodeHeld ts given (held ++ rest)
  pub are_left : AreLeft (drop i ts) given left
  pub apart : AreApart (drop i ts)
  pub tables : All IsTable left

pub at_first : (ts : List CodeTable) (given : List Table) → first_missing_input ts given ≡ None → AreApart ts → All IsTable given → SoFar ts given 0 given []
at_first ts given complete apart tables = record { completes = λ rest held. held; are_left = all_left ts given complete; apart = apart; tables = tables }

module _ (ts : List CodeTable) (given : List Table) (i : ℕ) (left : List Table) (held : List Holding) (so_far : SoFar ts given i left held) (t : CodeTable) (within : i < length ts) (is : t ≡ get_or ts i t) where
  -- at an input its table is left
  pub input_left : (x : List ℕ) → t ≡ Input x → (is_given left x ≡ true) × (table_of left x ≡ table_of given x)
  input_left x input =
      let are : AreLeft (Input x ∷ drop (i + 1) ts) given left = subst (λ (es : List CodeTable). AreLeft es given left) (from_here ts i t (Input x) within is input) so_far.are_left in
      (are.0, are.1)

  -- behind an input, whose table is held whole
  pub behind_input : (x : List ℕ) (h : Holding) → t ≡ Input x → IsInputOf h (table_of left x) → SoFar ts given (i + 1) (without left x) (held ++ h ∷ [])
  behind_input x h input whole =
      let here : drop i ts ≡ Input x ∷ drop (i + 1) ts = from_here ts i t (Input x) within is input in
      let are : AreLeft (Input x ∷ drop (i + 1) ts) given left = subst (λ (es : List CodeTable). AreLeft es given left) here so_far.are_left in
      let apart : AreApart (Input x ∷ drop (i + 1) ts) = subst (λ (es : List CodeTable). AreApart es) here so_far.apart in
      let mine : IsInputOf h (table_of given x) = subst (λ (u : Table). IsInputOf h u) are.1 whole in
      record {
        completes = λ rest more.
            subst (λ (hs : List Holding). AreCodeHeld ts given hs) (sym (append_assoc held (h ∷ []) rest))
            (so_far.completes (h ∷ rest) (subst (λ (es : List CodeTable). AreCodeHeld es given (h ∷ rest)) (sym here) (mine, more)));
        are_left = others_left (drop (i + 1) ts) given left x apart.0 are.2;
        apart = apart.1;
        tables = tables_left left x so_far.tables;
      }

  -- behind a table that is made, of which nothing is held
  pub behind_made : (h : Holding) → t ≡ Made → IsUnmade h → SoFar ts given (i + 1) left (held ++ h ∷ [])
  behind_made h made unmade =
      let here : drop i ts ≡ Made ∷ drop (i + 1) ts = from_here ts i t Made within is made in
      record {
        completes = λ rest more.
            subst (λ (hs : List Holding). AreCodeHeld ts given hs) (sym (append_assoc held (h ∷ []) rest))
            (so_far.completes (h ∷ rest) (subst (λ (es : List CodeTable). AreCodeHeld es given (h ∷ rest)) (sym here) (unmade, more)));
        are_left = subst (λ (es : List CodeTable). AreLeft es given left) here so_far.are_left;
        apart = subst (λ (es : List CodeTable). AreApart es) here so_far.apart;
        tables = so_far.tables;
      }

-- at the end all are held
pub at_last : (ts : List CodeTable) (given : List Table) (i : ℕ) (left : List Table) (held : List Holding) → SoFar ts given i left held → length ts ≤ i → AreCodeHeld ts given held
at_last ts given i left held so_far end =
    subst (λ (hs : List Holding). AreCodeHeld ts given hs) (append-nil held)
    (so_far.completes [] (subst (λ (es : List CodeTable). AreCodeHeld es given []) (sym (drop_all i ts end)) tt))

-- ---- a code gives its inputs different names

differ : (x y : List ℕ) → x ≢ y → bytes_eq x y ≡ false
differ x y other = go (bytes_eq x y) refl
  where
    go : (b : Bool) → bytes_eq x y ≡ b → bytes_eq x y ≡ false
    go true is = absurd (other ((bytes_eq-Decides x y).0 is))
    go false is = is

apart_of : (name : List ℕ) (ts : List CodeTable) → ((j : ℕ) (d : List ℕ) → j < length (input_names ts) → name ≢ slice_index_or (input_names ts) j d) → Apart name ts
apart_of name [] others = tt
apart_of name (Input x ∷ ts) others = (differ name x (others 0 [] (omega arith)), apart_of name ts (λ j d within. others (suc j) d (omega (arith, within))))
apart_of name (Made ∷ ts) others = apart_of name ts others

pub are_apart : (ts : List CodeTable) → AreDistinct (input_names ts) → AreApart ts
are_apart [] distinct = tt
are_apart (Input x ∷ ts) distinct = (
  apart_of x ts (λ j d within. distinct 0 (suc j) d (omega arith) (omega (arith, within))),
  are_apart ts (λ i j d before within. distinct (suc i) (suc j) d (omega (arith, before)) (omega (arith, within))),
)
are_apart (Made ∷ ts) distinct = are_apart ts distinct
