use Rattle.std.proofs.Common.{◌∙◌}
use Rattle.block_lower.proofs.Written.LoweredCalls.{call_statement_written}
use Rattle.block_lower.proofs.lowering.Lowering.lower_call.Goals as goal

pub returns-clause-code : goal.returns-clause-code
returns-clause-code c = λ reduces.
    let target = c.target_of-target in
    let label_is = rw c.deref.ensures.value at target.ensures.label in
    let size_is = rw c.deref.ensures.value at target.ensures.size in
    let on = c.in_ok-arguments.ensures.on ∙ c.in_ok-push.ensures.on in
    call_statement_written c.args.self.now.on reduces c.args.self.now.scope c.args.x.now
    c.args.f.now target.result.label target.result.size c.parameter_cell-first.result
    c.args.self.now.out c.push.new.self.out c.arguments.new.self.out c.push_call.new.self.out
    c.store.new.self.out c.requires.bare (record { at_is = label_is; size_is = size_is })
    c.parameter_cell-first.ensures c.in_ok-push.ensures.pushed
    (rw (c.deref-2.ensures.value, c.in_ok-push.ensures.scope) at c.in_ok-arguments.ensures.code)
    (rw on at c.in_ok-push_call.ensures.code)
    (rw c.offset-cell.ensures at c.in_ok-store.ensures.pushed)
