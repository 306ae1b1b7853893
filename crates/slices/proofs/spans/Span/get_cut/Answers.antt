use Rattle.std.proofs.Common.{◌≡◌, ◌+◌, ◌/◌, ◌%◌, ◌∙◌, Some, ap, sym, subst, arith, rules, get_or}
use Rattle.std.proofs.Common.{to_z, of_z, w64}
use Rattle.slices.specs.Spans.{span_at, number, HasAll}
use Rattle.slices.specs.declared.spans.Span.TheVariants.{Cut}
use Rattle.slices.proofs.Sound.{cut_there}
use Rattle.slices.proofs.spans.Span.get_cut.Goals as goal

pub returns : goal.returns
returns c =
    let all : HasAll (c.args.at + 1) (Cut c.in-Cut.cut) = subst (HasAll (c.args.at + 1)) c.in-Cut.is c.requires.here in
    let item : Some (to_z w64 (of_z w64 c.read.result)) ≡ Some (number (get_or c.in-Cut.cut.list.items (c.args.at / 256) c.index.result.now).value (c.args.at % 256)) = search rules in
    item ∙ sym (cut_there c.in-Cut.cut c.args.at c.index.result.now all.0 (omega (arith, all.1)) (omega (arith, all.2))) ∙ ap (λ s. span_at s c.args.at) (sym c.in-Cut.is)
