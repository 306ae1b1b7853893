use Rattle.std.proofs.Common.{◌∙◌, ap, sym, subst}
use Rattle.slices.specs.Spans.{AreApart, between, spans_at}
use Rattle.slices.specs.Pieces.{spans_of}
use Rattle.slices.specs.Stored.{stored, store_at}
use Rattle.slices.specs.declared.store.Store.TheVariants.{Parted}
use Rattle.slices.proofs.Splits.{upper_between}
use Rattle.slices.proofs.store.Store.split.Goals as goal

pub split_off-requires : goal.split_off-requires
split_off-requires c = λ i. (subst (λ s. AreApart c.args.end (stored s)) (c.in-Parted-Owned.is ∙ ap Parted c.in-Parted-Owned.field-0-is) (subst (AreApart c.args.end) (sym c.open.ensures.spans) c.requires) i).0

pub returns-in_ok-upper-in-Parted-Owned-clause-given : goal.returns-in_ok-upper-in-Parted-Owned-clause-given
returns-in_ok-upper-in-Parted-Owned-clause-given c = λ i.
    c.in_ok-upper-in-Parted-Owned.ensures.given i
    ∙ upper_between c.args.at c.args.end i (spans_of c.in-Parted-Owned.pieces) (subst (λ s. AreApart c.args.end (stored s)) (c.in-Parted-Owned.is ∙ ap Parted c.in-Parted-Owned.field-0-is) (subst (AreApart c.args.end) (sym c.open.ensures.spans) c.requires))
    ∙ ap (λ s. between c.args.at c.args.end i (store_at s i)) (sym (c.in-Parted-Owned.is ∙ ap Parted c.in-Parted-Owned.field-0-is))
    ∙ ap (λ xs. between c.args.at c.args.end i (spans_at xs i)) c.open.ensures.spans
