use Rattle.std.proofs.Common.{◌∙◌, ap, subst, sym}
use Rattle.slices.specs.Spans.{AreApart}
use Rattle.slices.specs.Pieces.{spans_of}
use Rattle.slices.specs.Stored.{stored}
use Rattle.slices.specs.declared.store.Store.TheVariants.{Parted}
use Rattle.slices.proofs.Cuts.{apart_less}
use Rattle.slices.proofs.store.Store.cut_out.Goals as goal

pub cut_out-requires-clause-apart : goal.cut_out-requires-clause-apart
cut_out-requires-clause-apart c = λ i. (subst (λ s. AreApart c.args.end (stored s)) (c.in-Parted-Owned.is ∙ ap Parted c.in-Parted-Owned.field-0-is) (subst (AreApart c.args.end) (sym c.open.ensures.spans) c.requires.apart) i).0

pub copy-requires : goal.copy-requires
copy-requires c = subst (λ p. AreApart c.args.end (spans_of p)) (sym c.deref.ensures) (subst (λ s. AreApart c.args.end (stored s)) (c.in-Parted-Shared.is ∙ ap Parted c.in-Parted-Shared.field-0-is) (subst (AreApart c.args.end) (sym c.open.ensures.spans) c.requires.apart))

pub cut_out-requires-in-Parted-Shared-clause-apart : goal.cut_out-requires-in-Parted-Shared-clause-apart
cut_out-requires-in-Parted-Shared-clause-apart c = λ i. (apart_less c.args.end (spans_of c.deref.result.now) (spans_of c.in_ok-pieces-in-Parted-Shared.pieces) c.in_ok-pieces-in-Parted-Shared.ensures.reaching (subst (λ p. AreApart c.args.end (spans_of p)) (sym c.deref.ensures) (subst (λ s. AreApart c.args.end (stored s)) (c.in-Parted-Shared.is ∙ ap Parted c.in-Parted-Shared.field-0-is) (subst (AreApart c.args.end) (sym c.open.ensures.spans) c.requires.apart))) i).0
