use Rattle.std.proofs.Common.{sym, length-take, arith}
use Rattle.std.proofs.lemmas.List.{take_all, take-map, length-map}
use Rattle.loop_parse.specs.Terms.{saw, seen}
use Rattle.loop_parse.proofs.expression.looked_at.Goals as goal

pub slice_bounds-result-end : goal.slice_bounds-result-end
slice_bounds-result-end c = omega (arith, length-take 257 c.args.tokens.now)

pub returns-then-tokens-le-WINDOW : goal.returns-then-tokens-le-WINDOW
returns-then-tokens-le-WINDOW c = sym (take_all 257 (seen c.args.source.now c.args.tokens.now) (omega (arith, length-map c.args.tokens.now (saw c.args.source.now))))

pub returns-else-tokens-le-WINDOW : goal.returns-else-tokens-le-WINDOW
returns-else-tokens-le-WINDOW c = sym (take-map (saw c.args.source.now) 257 c.args.tokens.now)
