use Rattle.std.proofs.Common.{◌≡◌, ◌+◌, ◌∙◌, Some, ap, sym, subst, arith, rules, get_or}
use Rattle.std.proofs.Common.{to_z, of_z, w64}
use Rattle.slices.specs.Spans.{span_at, HasAll}
use Rattle.slices.specs.declared.spans.Span.TheVariants.{Flat}
use Rattle.slices.proofs.Sound.{flat_there}
use Rattle.slices.proofs.spans.Span.get_flat.Goals as goal

pub returns : goal.returns
returns c =
    let all : HasAll (c.args.at + 1) (Flat c.in-Flat.flat) = subst (HasAll (c.args.at + 1)) c.in-Flat.is c.requires.here in
    let item : Some (to_z w64 (of_z w64 c.index.result.now)) ≡ Some (get_or c.in-Flat.flat.cells.items c.args.at c.index.result.now) = search rules in
    item ∙ sym (flat_there c.in-Flat.flat c.args.at c.index.result.now all.0 (omega (arith, all.1, c.in-Flat.flat.cells.ok.0))) ∙ ap (λ s. span_at s c.args.at) (sym c.in-Flat.is)
