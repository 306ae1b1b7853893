-- The variables of an activation where those that a loop reduces are set: to units, or to numbers.
use Rattle.std.proofs.Common.{◌≡◌, ◌≢◌, ℕ, suc, ◌+◌, ◌<◌, ◌≤◌, Bool, true, false, cond, All, List}
use Rattle.std.proofs.Common.{[], ◌∷◌, length, None, Some, bytes_eq, Vec, refl, ap, sym, subst, ◌∙◌}
use Rattle.std.proofs.Common.{arith}
use Rattle.std.proofs.lemmas.List.Elements.{All-head, All-tail}
use Rattle.std.proofs.lemmas.Slice.Eq.{bytes_eq-Decides}
use Rattle.std.specs.Prelude.{ℤ, pos, slice_index_or}
use Rattle.std.specs.List.{AllByRecursion}
use Rattle.std.specs.declared.alloc.Global.{Global}
use Rattle.loop_meaning.specs.declared.value.Variable.{Variable}
use Rattle.loop_meaning.specs.InRange.{VariableInRange}
use Rattle.loop_meaning.specs.State.{lookup}
use Rattle.loop_rules.specs.Names.{is_in, operator_of}
use Rattle.loop_syntax.specs.declared.Reduce.{Reduce}
use Rattle.frame_machine.specs.Lawful.{Distinct}
use Rattle.stack_marks.specs.Stacks.{StackValue, word_at, with_word}
use Rattle.tp_value.specs.declared.Op.{Op}
use Rattle.tpal_syntax.specs.declared.words.Word.{Word}
use Rattle.tpal_syntax.specs.declared.words.Word.TheVariants.{Int}
use Rattle.expr_lower.specs.declared.scope.Scope.{Scope}
use Rattle.expr_lower.specs.Scopes.{HasCell, cell_in, has_cell_in, offset_of}
use Rattle.handler_gen.proofs.Cells.{Has, has_set}
use Rattle.handler_gen.proofs.Offsets.{cells_of}
use Rattle.handler_gen.proofs.Words.{word_same, word_other, words_as_many}
use Rattle.join_gen.specs.LoopJoins.{with_numbers}
use Rattle.scene_laws.specs.Names.{level_of}
use Rattle.scene_laws.specs.Names.{AreLaid, Sees}
use Rattle.scene_laws.specs.Sites.{accs_of}
use Rattle.scene_laws.proofs.Scenes.Seeing.{cell_of_level, has_cell}
use Rattle.scene_laws.proofs.Cuts.Sides.{numbers_in}
use Rattle.scene_laws.proofs.Scenes.Levels.{at_level}
use Rattle.scene_laws.proofs.Scenes.Variables.{AreHeld, cell_names, var_names}

-- ---- variables by their cells

-- variables of different names are held where each has its value in its cell
pub held_by_cells : (s : StackValue) (z : ℕ) (cs : List (Vec ℕ Global × ℕ)) (level : ℕ)
    (us : List Variable) → AreLaid level cs → cell_names cs ≡ var_names us
    → Distinct (var_names us) → All VariableInRange us
    → ((x : List ℕ) → has_cell_in cs x ≡ true
    → word_at s (pos (z + cell_in cs x)) ≡ Some (Int (lookup us x)))
    → AreHeld s z level us
held_by_cells s z cs level [] laid named distinct ranged shown = tt
held_by_cells s z [] level (u ∷ us) laid named distinct ranged shown = cc
held_by_cells s z (c ∷ cs) level (u ∷ us) laid named distinct ranged shown = (
  subst (λ (n : ℕ). word_at s (pos (z + n)) ≡ Some (Int u.value)) laid.0 own,
  All-head VariableInRange u us ranged,
  held_by_cells s z cs (suc level) us laid.1 others distinct.1
      (All-tail VariableInRange u us ranged)
      (λ x has. behind x has (bytes_eq u.name x) refl),
)
  where
    same : c.0.items ≡ u.name
    same = cc

    others : cell_names cs ≡ var_names us
    others = cc

    itself : bytes_eq u.name u.name ≡ true
    itself = (bytes_eq-Decides u.name u.name).1 refl

    of_name : bytes_eq c.0.items u.name ≡ true
    of_name = ap (λ (x : List ℕ). bytes_eq x u.name) same ∙ itself

    own : word_at s (pos (z + c.1)) ≡ Some (Int u.value)
    own =
        ap (λ (b : Bool). word_at s (pos (z + cond b c.1 (cell_in cs u.name)))) (sym of_name)
        ∙ (shown u.name (rw of_name refl)
        ∙ ap (λ (b : Bool). Some (Int (cond b u.value (lookup us u.name)))) itself)

    behind : (x : List ℕ) → has_cell_in cs x ≡ true → (b : Bool) → bytes_eq u.name x ≡ b
        → word_at s (pos (z + cell_in cs x)) ≡ Some (Int (lookup us x))
    behind x has true e =
        let is : u.name ≡ x = (bytes_eq-Decides u.name x).0 e in
        let twice : is_in (var_names us) u.name ≡ true =
        ap (λ (ns : List (List ℕ)). is_in ns u.name) (sym others)
        ∙ (sym (has_cell cs u.name)
        ∙ subst (λ (y : List ℕ). has_cell_in cs y ≡ true) (sym is) has) in
        let wrong : true ≡ false = sym twice ∙ distinct.0 in
        cc
    behind x has false e =
        let other : bytes_eq c.0.items x ≡ false = ap (λ (y : List ℕ). bytes_eq y x) same ∙ e in
        ap (λ (b : Bool). word_at s (pos (z + cond b c.1 (cell_in cs x)))) (sym other)
        ∙ (shown x (rw other has)
        ∙ ap (λ (b : Bool). Some (Int (cond b u.value (lookup us x)))) e)

-- ---- numbers

-- with numbers in the cells of accumulators all else of a stack is as before
pub numbers_base : (accs : List (ℕ × Op)) (z : ℕ) (ns : List ℤ) (s : StackValue)
    → (with_numbers accs z ns s).base ≡ s.base
numbers_base [] z ns s = refl
numbers_base (a ∷ accs) z [] s = refl
numbers_base (a ∷ accs) z (n ∷ ns) s =
    numbers_base accs z ns (with_word s (pos (z + a.0)) (Int n))

pub numbers_as_many : (accs : List (ℕ × Op)) (z : ℕ) (ns : List ℤ) (s : StackValue)
    → length (with_numbers accs z ns s).cells ≡ length s.cells
numbers_as_many [] z ns s = refl
numbers_as_many (a ∷ accs) z [] s = refl
numbers_as_many (a ∷ accs) z (n ∷ ns) s =
    numbers_as_many accs z ns (with_word s (pos (z + a.0)) (Int n))
    ∙ words_as_many s (z + a.0) (Int n)

pub numbers_marks : (accs : List (ℕ × Op)) (z : ℕ) (ns : List ℤ) (s : StackValue)
    → (with_numbers accs z ns s).marks ≡ s.marks
numbers_marks [] z ns s = refl
numbers_marks (a ∷ accs) z [] s = refl
numbers_marks (a ∷ accs) z (n ∷ ns) s =
    numbers_marks accs z ns (with_word s (pos (z + a.0)) (Int n))

pub numbers_other : (accs : List (ℕ × Op)) (z : ℕ) (ns : List ℤ) (s : StackValue) (a : ℕ)
    → s.base ≤ z → All (λ x. a ≢ z + x) (cells_of accs)
    → word_at (with_numbers accs z ns s) (pos a) ≡ word_at s (pos a)
numbers_other [] z ns s a low apart = refl
numbers_other (b ∷ accs) z [] s a low apart = refl
numbers_other (b ∷ accs) z (n ∷ ns) s a low apart =
    numbers_other accs z ns (with_word s (pos (z + b.0)) (Int n)) a low
    (All-tail (λ x. a ≢ z + x) b.0 (cells_of accs) apart)
    ∙ word_other s (z + b.0) a (Int n) (omega (arith, low))
    (All-head (λ x. a ≢ z + x) b.0 (cells_of accs) apart)

module _ (scope : Scope) (names tables : List (List ℕ)) (sees : Sees scope names tables) where
  -- different variables have different cells
  pub cells_differ : (x y : List ℕ) → is_in names x ≡ true → is_in names y ≡ true
      → offset_of scope x ≡ offset_of scope y → x ≡ y
  cells_differ x y in_x in_y e =
      let level : level_of names x ≡ level_of names y =
      omega (
        arith,
        e,
        cell_of_level scope names tables sees x in_x,
        cell_of_level scope names tables sees y in_y,
      ) in
      sym (at_level names x in_x).1
      ∙ (ap (λ (n : ℕ). slice_index_or names n []) level ∙ (at_level names y in_y).1)

  -- a variable of the scope is among the names
  pub is_named : (x : List ℕ) → HasCell scope x → is_in names x ≡ true
  is_named x has =
      ap (λ (ns : List (List ℕ)). is_in ns x) (sym sees.named)
      ∙ (sym (has_cell scope.cells.items x) ∙ has)

  module _ (us : List Variable) (z n : ℕ) where
    -- the variables that aren't reduced have these values in their cells
    abbrev Unset : List Reduce → StackValue → Type 0
    Unset rs s = (x : List ℕ) → is_in names x ≡ true → operator_of rs x ≡ None
        → word_at s (pos (z + offset_of scope x)) ≡ Some (Int (lookup us x))

    -- the reduced ones are set to their values
    numbers_set : (rs : List Reduce) (s : StackValue)
        → AllByRecursion (λ (r : Reduce). HasCell scope r.target.text.items) rs → Has s z n
        → All (λ x. x < n) (cells_of (accs_of scope rs)) → Unset rs s
        → Unset [] (with_numbers (accs_of scope rs) z (numbers_in rs us) s)
    numbers_set [] s seen has inside unset = unset
    numbers_set (r ∷ rs) s seen has inside unset =
        numbers_set rs t seen.1 (has_set s z n (z + cell) w has)
        (All-tail (λ (y : ℕ). y < n) cell (cells_of (accs_of scope rs)) inside)
        (λ x in_x free. by_name x in_x free (bytes_eq target x) refl)
      where
        target : List ℕ
        target = r.target.text.items

        cell : ℕ
        cell = offset_of scope target

        w : Word
        w = Int (lookup us target)

        t : StackValue
        t = with_word s (pos (z + cell)) w

        own : cell < n
        own = All-head (λ (y : ℕ). y < n) cell (cells_of (accs_of scope rs)) inside

        by_name : (x : List ℕ) → is_in names x ≡ true → operator_of rs x ≡ None → (b : Bool)
            → bytes_eq target x ≡ b
            → word_at t (pos (z + offset_of scope x)) ≡ Some (Int (lookup us x))
        by_name x in_x free true e =
            subst (λ (y : List ℕ). word_at t (pos (z + offset_of scope y))
            ≡ Some (Int (lookup us y))) ((bytes_eq-Decides target x).0 e)
            (word_same s (z + cell) w (omega (arith, has.low)) (omega (arith, has.high, own)))
        by_name x in_x free false e =
            word_other s (z + cell) (z + offset_of scope x) w (omega (arith, has.low))
            (λ q. other (cells_differ x target in_x (is_named target seen.0) (omega (arith, q))))
            ∙ unset x in_x (rw e free)
          where
            other : x ≡ target → ⊥
            other is =
                let same : bytes_eq target x ≡ true = (bytes_eq-Decides target x).1 (sym is) in
                cc

    -- variables are held where those that are reduced are set to their values
    pub numbers_held : (rs : List Reduce) (s : StackValue)
        → AllByRecursion (λ (r : Reduce). HasCell scope r.target.text.items) rs → Has s z n
        → All (λ x. x < n) (cells_of (accs_of scope rs)) → var_names us ≡ names
        → Distinct names → All VariableInRange us → Unset rs s
        → AreHeld (with_numbers (accs_of scope rs) z (numbers_in rs us) s) z 0 us
    numbers_held rs s seen has inside named distinct ranged unset =
        held_by_cells (with_numbers (accs_of scope rs) z (numbers_in rs us) s) z
        scope.cells.items 0 us sees.laid (sees.named ∙ sym named)
        (subst Distinct (sym named) distinct) ranged
        (λ x has_x. numbers_set rs s seen has inside unset x (is_named x has_x) refl)
