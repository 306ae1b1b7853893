use Rattle.std.proofs.Common.{◌≡◌, ◌+◌, ◌<◌, ◌∙◌, Some, ap, sym, subst, arith, rules, length, get_or}
use Rattle.std.proofs.Common.{to_z, of_z, w64}
use Rattle.slices.specs.Stored.{store_at, IsSound}
use Rattle.slices.proofs.Flats.{flat_within}
use Rattle.slices.proofs.store.Store.get.Goals as goal

pub returns-in-Whole : goal.returns-in-Whole
returns-in-Whole c =
    let lt : c.args.at < length c.in-Whole.cells.items = omega (arith, subst (IsSound (c.args.at + 1)) c.in-Whole.is c.requires, c.in-Whole.cells.ok.0) in
    let item : Some (to_z w64 (of_z w64 c.index.result.now)) ≡ Some (get_or c.in-Whole.cells.items c.args.at c.index.result.now) = search rules in
    item ∙ sym (flat_within c.in-Whole.cells c.args.at c.index.result.now lt) ∙ ap (λ s. store_at s c.args.at) (sym c.in-Whole.is)
