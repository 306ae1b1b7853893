use Rattle.std.proofs.Common.{sym}
use Rattle.block_lower.proofs.Written.Stepping.{on_ok}
use Rattle.block_lower.proofs.Written.Lowered.{set_register_written, set_written}
use Rattle.std.proofs.Common.{arith}
use Rattle.block_lower.proofs.Written.Conforming.{operand_of, visible_cell, visible_register}
use Rattle.block_lower.specs.Conforming.{Conforms, IsOperand}
use Rattle.block_lower.proofs.Written.Stepping.{on_ok_two}
use Rattle.std.proofs.Common.{lt-ltb}
use Rattle.expr_lower.proofs.Fitting.{both}
use Rattle.block_lower.proofs.lowering.Lowering.lower_set.Goals as goal

pub returns-in-Some-clause-code : goal.returns-in-Some-clause-code
returns-in-Some-clause-code c =
    on_ok c.push.result
    (λ pushed on reduces.
    set_register_written on reduces c.args.self.now.scope c.args.x.now c.args.e.now
    c.in_ok-value.value c.in-Some.to c.args.self.now.out c.operand.new.self.out
    c.push.new.self.out (sym (rw c.in_ok-value.ensures.scope at c.in-Some.ensures))
    c.in_ok-value.ensures.code pushed)
    c.push.ensures.pushed

pub returns-in-None-clause-code : goal.returns-in-None-clause-code
returns-in-None-clause-code c =
    on_ok c.store.result
    (λ pushed on reduces.
    set_written on reduces c.args.self.now.scope c.args.x.now c.args.e.now c.in_ok-value.value
    c.args.self.now.out c.operand.new.self.out c.store.new.self.out
    (sym (rw c.in_ok-value.ensures.scope at c.in-None.ensures)) c.in_ok-value.ensures.code
    (rw c.offset-cell.ensures at pushed))
    c.store.ensures.pushed

pub returns-in-Some-clause-fit : goal.returns-in-Some-clause-fit
returns-in-Some-clause-fit c =
    let old = c.args.self.now in
    let middle = c.operand.new.self in
    let done = c.in_ok-value.ensures in
    on_ok_two c.push.result (λ fit labels known below before.
    let then : Conforms middle = done.fit known (omega (arith, labels, below)) before in
    let operand : IsOperand middle.on c.in_ok-value.value =
    operand_of old.on middle.on c.in_ok-value.value done.on (done.operand before.scope) in
    fit (both _ _
    (lt-ltb c.in-Some.to 32
    (visible_register middle c.args.x.now.text.items c.in-Some.to then (sym c.in-Some.ensures)))
    operand) then)
    c.push.ensures.fit c.push.ensures.labels

pub returns-in-None-clause-fit : goal.returns-in-None-clause-fit
returns-in-None-clause-fit c =
    let old = c.args.self.now in
    let middle = c.operand.new.self in
    let done = c.in_ok-value.ensures in
    on_ok_two c.store.result (λ fit labels known below before.
    let then : Conforms middle = done.fit known (omega (arith, labels, below)) before in
    let operand : IsOperand middle.on c.in_ok-value.value =
    operand_of old.on middle.on c.in_ok-value.value done.on (done.operand before.scope) in
    fit
    (omega (arith, c.offset-cell.ensures, visible_cell old c.args.x.now.text.items before))
    operand then)
    c.store.ensures.fit c.store.ensures.labels
