use Rattle.std.proofs.Common.{length, ap, length-take, arith}
use Rattle.std.proofs.lemmas.List.{length-map}
use Rattle.loop_parse.specs.Terms.{saw, seen}
use Rattle.loop_parse.proofs.expression.widened.Goals as goal

pub skip-requires : goal.skip-requires
skip-requires c =
    omega (arith, length-take 257 (seen c.args.source.now c.args.tokens.now), ap length c.looked_at.ensures, length-map c.args.tokens.now (saw c.args.source.now), length-map c.looked_at.result.now (saw c.args.source.now))
