use Rattle.std.proofs.Common.{sym, ap, ◌∙◌, slice_range}
use Rattle.loop_parse.specs.Terms.{kind_of}
use Rattle.loop_parse.specs.Reading.{is_fixed}
use Rattle.loop_parse.proofs.Tags.{same_tags}
use Rattle.loop_parse.proofs.reader.is.Goals as goal

pub returns-in-Fixed : goal.returns-in-Fixed
returns-in-Fixed c =
    same_tags c.in-Fixed.found c.args.fixed
    ∙ ap (λ t. is_fixed c.args.fixed (kind_of t (slice_range c.args.source.now c.args.token.start c.args.token.end))) (sym c.in-Fixed.is)
