use Rattle.std.proofs.Common.{◌∙◌, sym}
use Rattle.tpal_verify.proofs.Zipped.{zip_below, longer_above}
use Rattle.tpal_verify.proofs.shape.are_below.Goals as goal

pub returns-then-lower-upper : goal.returns-then-lower-upper
returns-then-lower-upper c =
    sym (longer_above c.args.end c.args.lower.now c.args.upper.now c.if-lower-upper.true)

pub returns : goal.returns
returns c =
    c.pairs_below.ensures ∙ zip_below c.args.end c.args.lower.now c.args.upper.now c.if-lower-upper.false
