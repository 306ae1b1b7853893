-- The tables of a `par` that was cut, put together: what the rest, the left and the child hold is
-- what the whole `par` leaves.
use Rattle.std.proofs.Common.{◌≡◌, ℕ, ◌<◌, ◌≤◌, Bool, true, false, cond, List}
use Rattle.std.proofs.Common.{length, bytes_eq, refl, sym, ap, subst, ◌∙◌}
use Rattle.std.proofs.Common.{arith}
use Rattle.std.specs.List.{IsDistinct}
use Rattle.std.specs.Prelude.{ℤ}
use Rattle.slices.specs.Holding.{Holding, together}
use Rattle.tp_value.specs.declared.Table.{Table}
use Rattle.loop_syntax.specs.declared.Carry.{Carry}
use Rattle.loop_meaning.specs.declared.value.Variable.{Variable}
use Rattle.loop_meaning.specs.State.{table_of}
use Rattle.tpal_machine.specs.Merge.{put_together}
use Rattle.tpal_machine.specs.Reading.{table_at}
use Rattle.expr_lower.specs.declared.scope.Scope.{Scope}
use Rattle.expr_lower.specs.Scopes.{has_table_in, table_number}
use Rattle.frame_machine.specs.Modes.{Modes, inner_modes}
use Rattle.frame_machine.specs.Parts.{AgreeOn, Below, From, Outside, Seen, Written}
use Rattle.scene_laws.proofs.Merges.JoinsModes.{cut_as, is_carried}
use Rattle.scene_laws.proofs.Merges.JoinsExtents.{one_table}
use Rattle.scene_laws.proofs.Merges.JoinsNumbers.{gathered, gathered_is, names_length}
use Rattle.scene_laws.proofs.Merges.JoinsNumbers.{number_inside}
use Rattle.scene_laws.proofs.Merges.JoinsNumbers.{put_at, put_length, shown_by_name, shown_length}
use Rattle.scene_laws.proofs.Cuts.Parts.{part_of_table}
use Rattle.scene_laws.proofs.Cuts.Parts.{rest_extent}
use Rattle.scene_laws.proofs.Scenes.Regions.{AreShown, IsShown, Region}
use Rattle.scene_laws.proofs.Scenes.Regions.{shown_at}
use Rattle.scene_laws.proofs.Cuts.Sides.{child_region, cut_by, left_region, parts_in}
use Rattle.scene_laws.proofs.Scenes.Tables.{listed_names, table_names}

-- The tables of a loop that is cut at a number: those before it, and those that its lower part, its
-- upper part and the whole of it leave.
module _ (scope : Scope) (vs : List Variable) (middle : ℤ) (outer : Modes) (var : List ℕ)
    (cs : List Carry) (region : Region) (hs : List Holding) (old low up whole : List Table) where
  pub record AreOfCut : Type 0 where
    pub differ : IsDistinct bytes_eq (table_names old)
    pub listed : listed_names scope.tables.items ≡ table_names old
    pub named : table_names whole ≡ table_names old
    pub below : AgreeOn (Outside (Written (Below middle) vs (inner_modes cs var outer))) old low
    pub above : AgreeOn (Outside (Written (From middle) vs (inner_modes cs var outer))) low whole
    pub seen : AgreeOn (Seen (From middle) vs (inner_modes cs var outer)) up whole
    pub rest : AreShown (λ t. rest_extent (cut_by vs middle cs t) (region t)) hs old

  module _ (are : AreOfCut) where
    abbrev left_parts : List (ℕ × Holding)
    left_parts = parts_in scope (left_region vs middle cs region) low cs

    abbrev child_parts : List (ℕ × Holding)
    child_parts = parts_in scope (child_region vs middle cs region) up cs

    fewer : length old ≤ length hs
    fewer = shown_length (λ t. rest_extent (cut_by vs middle cs t) (region t)) hs old are.rest

    inside : (x : List ℕ) → has_table_in scope.tables.items x ≡ true
        → table_number scope x < length hs
    inside x has =
        let all : length scope.tables.items ≡ length old =
        names_length scope.tables.items old are.listed in
        let below : table_number scope x < length scope.tables.items =
        number_inside scope.tables.items x has in
        omega (arith, all, below, fewer)

    -- the parts of a table are put to what the rest has of it
    put_twice : (x : List ℕ) → has_table_in scope.tables.items x ≡ true
        → table_at (put_together (put_together hs left_parts) child_parts) (table_number scope x)
        ≡ cond (is_carried cs x) (together (together (table_at hs (table_number scope x))
        (part_of_table (left_region vs middle cs region x) (table_of low x)))
        (part_of_table (child_region vs middle cs region x) (table_of up x)))
        (table_at hs (table_number scope x))
    put_twice x has =
        put_at (put_together hs left_parts) child_parts (table_number scope x)
        (rw (put_length hs left_parts) (inside x has))
        ∙ (ap (λ h. gathered h child_parts (table_number scope x))
        (put_at hs left_parts (table_number scope x) (inside x has)
        ∙ gathered_is scope (left_region vs middle cs region) low x has cs
        (table_at hs (table_number scope x)))
        ∙ (gathered_is scope (child_region vs middle cs region) up x has cs
        (cond (is_carried cs x) (together (table_at hs (table_number scope x))
        (part_of_table (left_region vs middle cs region x) (table_of low x)))
        (table_at hs (table_number scope x)))
        ∙ both (is_carried cs x)))
      where
        both : (b : Bool) → cond b
            (together (cond b (together (table_at hs (table_number scope x))
            (part_of_table (left_region vs middle cs region x) (table_of low x)))
            (table_at hs (table_number scope x)))
            (part_of_table (child_region vs middle cs region x) (table_of up x)))
            (cond b (together (table_at hs (table_number scope x))
            (part_of_table (left_region vs middle cs region x) (table_of low x)))
            (table_at hs (table_number scope x)))
            ≡ cond b (together (together (table_at hs (table_number scope x))
            (part_of_table (left_region vs middle cs region x) (table_of low x)))
            (part_of_table (child_region vs middle cs region x) (table_of up x)))
            (table_at hs (table_number scope x))
        both true = refl
        both false = refl

    -- all tables put together are held to the region before the cut
    pub tables_joined : AreShown region (put_together (put_together hs left_parts) child_parts)
        whole
    tables_joined =
        shown_by_name region (put_together (put_together hs left_parts) child_parts) whole
        scope.tables.items (subst (IsDistinct bytes_eq) (sym are.listed) are.differ)
        (are.listed ∙ sym are.named) long each
      where
        long : length whole ≤ length (put_together (put_together hs left_parts) child_parts)
        long =
            let all : length scope.tables.items ≡ length whole =
            names_length scope.tables.items whole (are.listed ∙ sym are.named) in
            let before : length scope.tables.items ≡ length old =
            names_length scope.tables.items old are.listed in
            rw (put_length (put_together hs left_parts) child_parts, put_length hs left_parts)
            (omega (arith, all, before, fewer))

        each : (x : List ℕ) → has_table_in scope.tables.items x ≡ true
            → IsShown (region x) (table_at (put_together (put_together hs left_parts) child_parts)
            (table_number scope x)) (table_of whole x)
        each x has =
            subst (λ h. IsShown (region x) h (table_of whole x)) (sym (put_twice x has))
            (one_table vs middle (region x) (table_at hs (table_number scope x)) (table_of old x)
            (table_of low x) (table_of up x) (table_of whole x) (inner_modes cs var outer x)
            (cut_by vs middle cs x) (are.below x) (are.above x) (are.seen x)
            (shown_at (λ t. rest_extent (cut_by vs middle cs t) (region t)) hs old
            scope.tables.items x are.rest are.listed has) (is_carried cs x)
            (cut_as vs middle outer var cs x))
