-- The variables round a loop in the cells of an activation, where those that it reduces have any
-- values: they are known, and set to units or to numbers all are.
use Rattle.std.proofs.Common.{◌≡◌, ℕ, suc, ◌+◌, ◌<◌, Bool, true, false, cond, All, List}
use Rattle.std.proofs.Common.{[], ◌∷◌, None, Some, bytes_eq, Vec, refl, ap, sym, subst, ◌∙◌}
use Rattle.std.proofs.Common.{arith}
use Rattle.std.proofs.lemmas.List.Elements.{All-cons, All-head, All-nil, All-tail}
use Rattle.std.proofs.lemmas.Slice.Eq.{bytes_eq-Decides}
use Rattle.std.specs.Prelude.{ℤ, pos}
use Rattle.std.specs.List.{AllByRecursion}
use Rattle.std.specs.declared.alloc.Global.{Global}
use Rattle.loop_meaning.specs.declared.value.Variable.{Variable}
use Rattle.loop_meaning.specs.Frames.{with_accs}
use Rattle.loop_meaning.specs.InRange.{InRange, VariableInRange}
use Rattle.loop_meaning.specs.State.{assign, lookup}
use Rattle.loop_rules.specs.Names.{is_in, operator_of}
use Rattle.loop_syntax.specs.declared.Reduce.{Reduce}
use Rattle.frame_machine.specs.Joins.{units_for}
use Rattle.frame_machine.specs.Lawful.{Distinct}
use Rattle.reduce_ops.specs.Reduction.{unit}
use Rattle.reduce_ops.specs.Laws.{unit_fits}
use Rattle.stack_marks.specs.Stacks.{StackValue, word_at, with_word}
use Rattle.tpal_syntax.specs.declared.words.Word.{Word}
use Rattle.tpal_syntax.specs.declared.words.Word.TheVariants.{Int}
use Rattle.expr_lower.specs.declared.scope.Scope.{Scope}
use Rattle.expr_lower.specs.Scopes.{HasCell, cell_in, has_cell_in, offset_of}
use Rattle.handler_gen.specs.LoopCuts.{with_units}
use Rattle.handler_gen.proofs.Cells.{Has, has_set}
use Rattle.handler_gen.proofs.Offsets.{cells_of}
use Rattle.handler_gen.proofs.Words.{word_same, word_other}
use Rattle.scene_laws.specs.Names.{AreLaid, Sees}
use Rattle.scene_laws.specs.Sites.{accs_of}
use Rattle.scene_laws.proofs.Scenes.Fixed.{AreFixed}
use Rattle.scene_laws.proofs.Merges.JoinsRuns.{assign_other}
use Rattle.scene_laws.proofs.Cuts.ReducedCells.{cells_differ, held_by_cells, is_named}
use Rattle.scene_laws.proofs.Scenes.Variables.{AreHeld, cell_names, names_assign, var_names}

-- the number of a variable that isn't reduced is in its cell
pub fixed_lookup : (reduces : List Reduce) (s : StackValue) (z : ℕ) (cs : List (Vec ℕ Global × ℕ))
    (level : ℕ) (vs : List Variable) (x : List ℕ) → AreLaid level cs → cell_names cs ≡ var_names vs
    → has_cell_in cs x ≡ true → operator_of reduces x ≡ None → AreFixed reduces s z level vs
    → word_at s (pos (z + cell_in cs x)) ≡ Some (Int (lookup vs x))
fixed_lookup reduces s z [] level vs x laid names has free h = cc
fixed_lookup reduces s z (c ∷ cs) level [] x laid names has free h = cc
fixed_lookup reduces s z (c ∷ cs) level (u ∷ us) x laid names has free h =
    let others : cell_names cs ≡ var_names us = cc in
    go (λ rest. fixed_lookup reduces s z cs (suc level) us x laid.1 others rest free h.1)
    (bytes_eq c.0.items x) refl
  where
    same : c.0.items ≡ u.name
    same = cc

    go : (has_cell_in cs x ≡ true → word_at s (pos (z + cell_in cs x)) ≡ Some (Int (lookup us x)))
        → (b : Bool) → bytes_eq c.0.items x ≡ b
        → word_at s (pos (z + cell_in (c ∷ cs) x)) ≡ Some (Int (lookup (u ∷ us) x))
    go behind true e =
        let f : bytes_eq u.name x ≡ true = rw same at e in
        let is : u.name ≡ x = (bytes_eq-Decides u.name x).0 f in
        let unreduced : operator_of reduces u.name ≡ None = rw is free in
        rw (e, f, laid.0) (h.0 unreduced)
    go behind false e =
        let f : bytes_eq u.name x ≡ false = rw same at e in
        let rest : has_cell_in cs x ≡ true = rw e at has in
        rw (e, f) (behind rest)

-- ---- units

lookup_assigned : (vs : List Variable) (x : List ℕ) (n : ℤ) → is_in (var_names vs) x ≡ true
    → lookup (assign vs x n) x ≡ n
lookup_assigned [] x n is = absurd (let wrong : false ≡ true = is in cc)
lookup_assigned (v ∷ vs) x n is =
    go (bytes_eq v.name x) refl (λ rest. lookup_assigned vs x n rest)
  where
    go : (b : Bool) → bytes_eq v.name x ≡ b
        → (is_in (var_names vs) x ≡ true → lookup (assign vs x n) x ≡ n)
        → lookup (assign (v ∷ vs) x n) x ≡ n
    go true e behind = rw e (rw e refl)
    go false e behind = rw e (rw e (behind (rw e at is)))

assign_ranged : (vs : List Variable) (x : List ℕ) (n : ℤ) → InRange n → All VariableInRange vs
    → All VariableInRange (assign vs x n)
assign_ranged [] x n fits ranged = All-nil VariableInRange
assign_ranged (v ∷ vs) x n fits ranged =
    go (bytes_eq v.name x)
    (assign_ranged vs x n fits (All-tail VariableInRange v vs ranged))
  where
    go : (b : Bool) → All VariableInRange (assign vs x n)
        → All VariableInRange
        (cond b (record { name = v.name; value = n } ∷ vs) (v ∷ assign vs x n))
    go true rest =
        All-cons VariableInRange (record { name = v.name; value = n }) vs fits
        (All-tail VariableInRange v vs ranged)
    go false rest =
        All-cons VariableInRange v (assign vs x n) (All-head VariableInRange v vs ranged) rest

pub units_ranged : (rs : List Reduce) (vs : List Variable) → All VariableInRange vs
    → All VariableInRange (with_accs rs (units_for rs) vs)
units_ranged [] vs ranged = ranged
units_ranged (r ∷ rs) vs ranged =
    units_ranged rs (assign vs r.target.text.items (unit r.op))
    (assign_ranged vs r.target.text.items (unit r.op) (unit_fits r.op) ranged)

pub units_named : (rs : List Reduce) (vs : List Variable)
    → var_names (with_accs rs (units_for rs) vs) ≡ var_names vs
units_named [] vs = refl
units_named (r ∷ rs) vs =
    units_named rs (assign vs r.target.text.items (unit r.op))
    ∙ names_assign vs r.target.text.items (unit r.op)

module _ (scope : Scope) (names tables : List (List ℕ)) (sees : Sees scope names tables) (z n : ℕ)
  where
    -- the variables that aren't reduced have their values in their cells
    abbrev Known : List Reduce → List Variable → StackValue → Type 0
    Known rs vs s = (x : List ℕ) → is_in names x ≡ true → operator_of rs x ≡ None
        → word_at s (pos (z + offset_of scope x)) ≡ Some (Int (lookup vs x))

    -- behind the units of those that are reduced all have
    units_known : (rs : List Reduce) (vs : List Variable) (s : StackValue)
        → var_names vs ≡ names
        → AllByRecursion (λ (r : Reduce). HasCell scope r.target.text.items) rs → Has s z n
        → All (λ x. x < n) (cells_of (accs_of scope rs)) → Known rs vs s
        → Known [] (with_accs rs (units_for rs) vs) (with_units (accs_of scope rs) z s)
    units_known [] vs s named seen has inside known = known
    units_known (r ∷ rs) vs s named seen has inside known =
        units_known rs (assign vs target (unit r.op)) t
        (names_assign vs target (unit r.op) ∙ named) seen.1 (has_set s z n (z + cell) w has)
        (All-tail (λ (y : ℕ). y < n) cell (cells_of (accs_of scope rs)) inside)
        (λ x in_x free. by_name x in_x free (bytes_eq target x) refl)
      where
        target : List ℕ
        target = r.target.text.items

        cell : ℕ
        cell = offset_of scope target

        w : Word
        w = Int (unit r.op)

        t : StackValue
        t = with_word s (pos (z + cell)) w

        own : cell < n
        own = All-head (λ (y : ℕ). y < n) cell (cells_of (accs_of scope rs)) inside

        by_name : (x : List ℕ) → is_in names x ≡ true → operator_of rs x ≡ None → (b : Bool)
            → bytes_eq target x ≡ b
            → word_at t (pos (z + offset_of scope x))
            ≡ Some (Int (lookup (assign vs target (unit r.op)) x))
        by_name x in_x free true e =
            let is : target ≡ x = (bytes_eq-Decides target x).0 e in
            let there : is_in (var_names vs) target ≡ true = rw (named, is) in_x in
            subst (λ (y : List ℕ). word_at t (pos (z + offset_of scope y))
            ≡ Some (Int (lookup (assign vs target (unit r.op)) y))) is
            (word_same s (z + cell) w (omega (arith, has.low)) (omega (arith, has.high, own))
            ∙ ap (λ (m : ℤ). Some (Int m)) (sym (lookup_assigned vs target (unit r.op) there)))
        by_name x in_x free false e =
            word_other s (z + cell) (z + offset_of scope x) w (omega (arith, has.low))
            (λ q. other (cells_differ scope names tables sees x target in_x
            (is_named scope names tables sees target seen.0) (omega (arith, q))))
            ∙ (known x in_x (rw e free)
            ∙ ap (λ (m : ℤ). Some (Int m)) (sym (assign_other vs target x (unit r.op) e)))
          where
            other : x ≡ target → ⊥
            other is =
                let same : bytes_eq target x ≡ true = (bytes_eq-Decides target x).1 (sym is) in
                cc

    -- variables are held where those that are reduced are set to their units
    pub units_set : (rs : List Reduce) (vs : List Variable) (s : StackValue)
        → var_names vs ≡ names
        → AllByRecursion (λ (r : Reduce). HasCell scope r.target.text.items) rs → Has s z n
        → All (λ x. x < n) (cells_of (accs_of scope rs)) → Distinct names → All VariableInRange vs
        → Known rs vs s
        → AreHeld (with_units (accs_of scope rs) z s) z 0 (with_accs rs (units_for rs) vs)
    units_set rs vs s named seen has inside distinct ranged known =
        held_by_cells (with_units (accs_of scope rs) z s) z scope.cells.items 0
        (with_accs rs (units_for rs) vs) sees.laid
        (sees.named ∙ sym (units_named rs vs ∙ named))
        (subst Distinct (sym (units_named rs vs ∙ named)) distinct) (units_ranged rs vs ranged)
        (λ x has_x. units_known rs vs s named seen has inside known x
        (is_named scope names tables sees x has_x) refl)
