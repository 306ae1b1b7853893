use Rattle.std.proofs.Common.{◌+◌, sym, arith}
use Rattle.std.proofs.lemmas.Bool.{lt-leb}
use Rattle.loop_rules.specs.Limits.{height}
use Rattle.scene_laws.proofs.Counts.Adding.{some_height}
use Rattle.block_lower.proofs.sizes.+is_low_at.Goals as goal

pub returns-then-to-ge-MAX_EXPRESSION_HEIGHT : goal.returns-then-to-ge-MAX_EXPRESSION_HEIGHT
returns-then-to-ge-MAX_EXPRESSION_HEIGHT t c = sym (lt-leb (c.args.to + height c.args.e.now) 24 (omega (arith, some_height c.args.e.now, c.if-to-ge-MAX_EXPRESSION_HEIGHT.true)))
