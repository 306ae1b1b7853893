use Rattle.std.proofs.Common.{◌∙◌, ap, subst, sym}
use Rattle.slices.specs.Spans.{AreApart}
use Rattle.slices.specs.Pieces.{spans_of}
use Rattle.slices.specs.Stored.{stored}
use Rattle.slices.specs.declared.store.Store.TheVariants.{Parted}
use Rattle.slices.proofs.store.Store.own.Goals as goal

pub copy_of-requires : goal.copy_of-requires
copy_of-requires c = subst (λ p. AreApart c.args.end (spans_of p)) (sym c.deref.ensures) (subst (λ s. AreApart c.args.end (stored s)) (c.in-Parted-Shared.is ∙ ap Parted c.in-Parted-Shared.field-0-is) c.requires)
