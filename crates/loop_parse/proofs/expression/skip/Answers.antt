use Rattle.std.proofs.Common.{drop, sym, ap, length-drop, arith, ◌∙◌}
use Rattle.std.proofs.lemmas.List.{take_all, drop-map}
use Rattle.loop_parse.specs.Terms.{saw, seen}
use Rattle.loop_parse.proofs.expression.skip.Goals as goal

pub returns : goal.returns
returns c =
    ap (seen c.args.source.now) (take_all _ (drop c.args.count c.args.tokens.now) (omega (arith, length-drop c.args.count c.args.tokens.now)))
    ∙ sym (drop-map (saw c.args.source.now) c.args.count c.args.tokens.now)
