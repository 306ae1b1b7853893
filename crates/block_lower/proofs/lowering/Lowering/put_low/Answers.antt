use Rattle.std.proofs.Common.{◌∙◌}
use Rattle.block_lower.proofs.Written.LoweredTables.{put_written}
use Rattle.block_lower.proofs.lowering.Lowering.put_low.Goals as goal

pub returns-clause-code : goal.returns-clause-code
returns-clause-code c = λ on reduces.
    let second = c.in_ok-value.ensures.scope in
    let third = c.in_ok-value-2.ensures.scope ∙ second in
    let last = c.in_ok-value-3.ensures.scope ∙ third in
    put_written on reduces c.args.self.now.scope c.args.t.now c.args.a.now c.args.b.now
    c.args.e.now c.args.self.now.out c.value.new.self.out c.value-2.new.self.out
    c.value-3.new.self.out c.push_put.new.self.out c.in_ok-value.ensures.code
    (rw second at c.in_ok-value-2.ensures.code) (rw third at c.in_ok-value-3.ensures.code)
    (rw last at c.in_ok-push_put.ensures.code)
