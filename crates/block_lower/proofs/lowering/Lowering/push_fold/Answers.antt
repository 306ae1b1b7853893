use Rattle.std.proofs.Common.{sym}
use Rattle.block_lower.proofs.Written.Stepping.{on_ok}
use Rattle.block_lower.proofs.Written.LoweredTables.{fold_register_written, fold_written}
use Rattle.std.proofs.Common.{arith}
use Rattle.block_lower.proofs.Written.Conforming.{operand_of, visible_cell, visible_register}
use Rattle.block_lower.specs.Conforming.{Conforms, IsOperand}
use Rattle.block_lower.proofs.Written.Stepping.{on_ok_two}
use Rattle.block_lower.proofs.lowering.Lowering.push_fold.Goals as goal

pub returns-in-Some-clause-code : goal.returns-in-Some-clause-code
returns-in-Some-clause-code c =
    on_ok c.calc.result
    (λ pushed on reduces is.
    fold_register_written on reduces c.args.self.now.scope c.args.x.now c.args.e.now c.args.op
    c.in_ok-value.value c.in-Some.held c.args.self.now.out c.operand.new.self.out
    c.calc.new.self.out is (sym (rw c.in_ok-value.ensures.scope at c.in-Some.ensures))
    c.in_ok-value.ensures.code (rw c.alu_of.ensures at pushed))
    c.calc.ensures.pushed

pub returns-in-None-clause-code : goal.returns-in-None-clause-code
returns-in-None-clause-code c =
    on_ok c.fold_in_cell.result
    (λ pushed on reduces is.
    fold_written on reduces c.args.self.now.scope c.args.x.now c.args.e.now c.args.op
    c.in_ok-value.value c.args.self.now.out c.operand.new.self.out c.fold_in_cell.new.self.out is
    (sym (rw c.in_ok-value.ensures.scope at c.in-None.ensures)) c.in_ok-value.ensures.code
    (rw (c.offset-cell.ensures, c.alu_of-in-None.ensures) at pushed))
    c.fold_in_cell.ensures.pushed

pub returns-in-Some-clause-fit : goal.returns-in-Some-clause-fit
returns-in-Some-clause-fit c =
    let old = c.args.self.now in
    let middle = c.operand.new.self in
    let done = c.in_ok-value.ensures in
    on_ok_two c.calc.result (λ fit labels known below before.
    let then : Conforms middle = done.fit known (omega (arith, labels, below)) before in
    let operand : IsOperand middle.on c.in_ok-value.value =
    operand_of old.on middle.on c.in_ok-value.value done.on (done.operand before.scope) in
    let register =
    visible_register middle c.args.x.now.text.items c.in-Some.held then (sym c.in-Some.ensures) in
    fit register register operand then)
    c.calc.ensures.fit c.calc.ensures.labels

pub returns-in-None-clause-fit : goal.returns-in-None-clause-fit
returns-in-None-clause-fit c =
    let old = c.args.self.now in
    let middle = c.operand.new.self in
    let done = c.in_ok-value.ensures in
    on_ok_two c.fold_in_cell.result (λ fit labels known below before.
    let then : Conforms middle = done.fit known (omega (arith, labels, below)) before in
    let operand : IsOperand middle.on c.in_ok-value.value =
    operand_of old.on middle.on c.in_ok-value.value done.on (done.operand before.scope) in
    fit
    (omega (arith, c.offset-cell.ensures, visible_cell old c.args.x.now.text.items before))
    operand then)
    c.fold_in_cell.ensures.fit c.fold_in_cell.ensures.labels
