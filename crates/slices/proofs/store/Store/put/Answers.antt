use Rattle.std.proofs.Common.{◌+◌, ◌<◌, ◌∙◌, Some, cond, ap, subst, sym, refl, arith, length}
use Rattle.std.proofs.Common.{to_z-of_z}
use Rattle.std.specs.Prelude.{IsSome, nat_eq}
use Rattle.std.specs.Vec.{with_item}
use Rattle.slices.specs.Spans.{span_at}
use Rattle.slices.specs.Stored.{store_at, reaching_in, full_span, IsSound, HasBelow}
use Rattle.slices.specs.declared.store.Store.TheVariants.{Whole}
use Rattle.slices.proofs.Flats.{flat_set, flat_count}
use Rattle.slices.proofs.SpanLists.{or_else-none}
use Rattle.slices.proofs.Sound.{sound_there, boxed_there, count_set}
use Rattle.slices.proofs.store.Store.put.Goals as goal

pub returns-in-Whole-clause-found : goal.returns-in-Whole-clause-found
returns-in-Whole-clause-found c = sym (subst (λ s. IsSome (store_at s c.args.at)) (sym c.in-Whole.is) (sound_there (c.args.at + 1) (Whole c.in-Whole.cells) c.args.at refl (subst (IsSound (c.args.at + 1)) c.in-Whole.is c.requires) (omega arith)))

pub returns-in-Whole-clause-cells : goal.returns-in-Whole-clause-cells
returns-in-Whole-clause-cells c = λ i.
    let lt : c.args.at < length c.in-Whole.cells.items = omega (arith, subst (IsSound (c.args.at + 1)) c.in-Whole.is c.requires, c.in-Whole.cells.ok.0) in
    rw (to_z-of_z c.ranges.value) (
    flat_set c.in-Whole.cells (with_item c.in-Whole.cells c.args.at c.args.value) c.args.at i c.args.value lt refl
    ∙ ap (λ s. cond (nat_eq i c.args.at) (Some c.args.value) (store_at s i)) (sym c.in-Whole.is)
    )

pub returns-in-Whole-clause-reaching : goal.returns-in-Whole-clause-reaching
returns-in-Whole-clause-reaching c = λ i.
    let lt : c.args.at < length c.in-Whole.cells.items = omega (arith, subst (IsSound (c.args.at + 1)) c.in-Whole.is c.requires, c.in-Whole.cells.ok.0) in
    rw (to_z-of_z c.ranges.value) (flat_count c.in-Whole.cells (with_item c.in-Whole.cells c.args.at c.args.value) c.args.at i c.args.value lt refl ∙ ap (λ s. reaching_in s i) (sym c.in-Whole.is))

pub returns-in-Boxed-clause-found : goal.returns-in-Boxed-clause-found
returns-in-Boxed-clause-found c = sym (subst (λ s. IsSome (store_at s c.args.at)) (sym c.in-Boxed.is) (boxed_there (c.args.at + 1) c.in-Boxed.full c.args.at (subst (IsSound (c.args.at + 1)) c.in-Boxed.is c.requires) (omega arith)))

pub returns-in-Boxed-clause-reaching : goal.returns-in-Boxed-clause-reaching
returns-in-Boxed-clause-reaching c = λ i.
    let sound : HasBelow (c.args.at + 1) c.in-Boxed.full = subst (IsSound (c.args.at + 1)) c.in-Boxed.is c.requires in
    ap (λ n. n + 0) (count_set c.args.at i _ _ (span_at (full_span c.in-Boxed.full) i) (c.put.ensures.cells i)
    (λ q. subst IsSome (or_else-none _) (boxed_there (c.args.at + 1) c.in-Boxed.full i sound (omega (arith, q)))))
    ∙ ap (λ s. reaching_in s i) (sym c.in-Boxed.is)
