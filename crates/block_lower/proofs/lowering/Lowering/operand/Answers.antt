use Rattle.std.proofs.Common.{sym, to_z-of_z, arith}
use Rattle.block_lower.proofs.Written.Lowered.{computed_operand, literal_operand}
use Rattle.block_lower.proofs.Written.Lowered.{standing_calm, standing_operand}
use Rattle.std.proofs.Common.{Option, ℕ, subst, lt-ltb}
use Rattle.expr_lower.proofs.Fitting.{IsRegister, home_low}
use Rattle.block_lower.proofs.lowering.Lowering.operand.Goals as goal

pub returns-in-Some-clause-code : goal.returns-in-Some-clause-code
returns-in-Some-clause-code c =
    simp (to_z-of_z, c.in-Some.ensures.in_range)
    (literal_operand c.args.self.now.scope c.args.expr.now c.args.to c.in-Some.number
    c.args.self.now.out (sym c.in-Some.ensures.number) c.in-Some.ensures.in_range)

pub returns-in-Some-home_of-clause-code : goal.returns-in-Some-home_of-clause-code
returns-in-Some-home_of-clause-code c =
    standing_operand c.args.self.now.scope c.args.expr.now c.args.to c.in-Some-home_of.register
    c.args.self.now.out (sym c.in-Some-home_of.ensures)

pub returns-in-Some-home_of-clause-labels : goal.returns-in-Some-home_of-clause-labels
returns-in-Some-home_of-clause-labels c =
    omega (
      arith,
      standing_calm c.args.self.now.scope c.args.expr.now c.in-Some-home_of.register
          (sym c.in-Some-home_of.ensures),
    )

pub returns-in_ok-value-in-None-home_of-clause-code : goal.returns-in_ok-value-in-None-home_of-clause-code
returns-in_ok-value-in-None-home_of-clause-code c =
    computed_operand c.args.self.now.scope c.args.expr.now c.args.to c.args.self.now.out
    c.value.new.self.out c.in_ok-value-in-None-home_of.ensures.code

pub returns-in-Some-home_of-clause-operand : goal.returns-in-Some-home_of-clause-operand
returns-in-Some-home_of-clause-operand c = λ named.
    lt-ltb c.in-Some-home_of.register 32
    (subst (λ (home : Option ℕ). IsRegister home) (sym c.in-Some-home_of.ensures)
    (home_low c.args.self.now.scope c.args.expr.now named.registers))
