use Rattle.std.proofs.Common.{◌∙◌}
use Rattle.block_lower.proofs.Written.Lowered.{let_written}
use Rattle.block_lower.proofs.lowering.Lowering.lower_let.Goals as goal

pub returns-clause-sees : goal.returns-clause-sees
returns-clause-sees c =
    let same = c.in_ok-store.ensures.scope ∙ c.in_ok-value.ensures.scope in
    rw same at c.in_ok-declare.ensures.sees

pub returns-clause-code : goal.returns-clause-code
returns-clause-code c = λ on reduces.
    let value = c.in_ok-value.value in
    let stored = rw (c.value_cell-cell.ensures, c.level.ensures) at c.in_ok-store.ensures.pushed in
    rw c.in_ok-declare.ensures.out
    (let_written on reduces c.args.self.now.scope c.args.x.now c.args.e.now value
    c.args.self.now.out c.operand.new.self.out c.store.new.self.out c.in_ok-value.ensures.code
    stored)
