use Rattle.std.proofs.Common.{◌≡◌, ℕ, ◌+◌, ap, length, subst, arith}
use Rattle.block_lower.specs.Lowering.{WritesTest, by_opposite, by_test}
use Rattle.block_lower.specs.Writing.{label}
use Rattle.form_laws.proofs.Forms.Opposites.{found_blocks, found_traps}
use Rattle.std.proofs.Common.{Option}
use Rattle.loop_syntax.specs.declared.Expr.{Expr}
use Rattle.block_lower.specs.declared.body.Body.{Body}
use Rattle.block_lower.specs.Conforming.{Conforms, IsKnown, blocks_of}
use Rattle.std.proofs.Common.{◌<◌, sym}
use Rattle.block_lower.proofs.Written.Conforming.{IsKnownIf, opposite_known}
use Rattle.block_lower.proofs.lowering.Lowering.choice.Goals as goal

pub operation-requires-clause-labels : goal.operation-requires-clause-labels
operation-requires-clause-labels c =
    omega (arith, found_traps c.args.e.now c.in-Some.other c.in-Some.ensures, c.requires.labels)

pub returns-in_ok-jump_if-in-Some-clause-labels : goal.returns-in_ok-jump_if-in-Some-clause-labels
returns-in_ok-jump_if-in-Some-clause-labels c =
    omega (
      arith,
      found_traps c.args.e.now c.in-Some.other c.in-Some.ensures,
      found_blocks c.args.e.now c.in-Some.other c.in-Some.ensures,
      c.in_ok-operation-in-Some.ensures.labels,
      c.in_ok-jump_if-in-Some.ensures.labels,
    )

pub returns-in_ok-jump_if-in-Some-clause-code : goal.returns-in_ok-jump_if-in-Some-clause-code
returns-in_ok-jump_if-in-Some-clause-code c =
    by_opposite c.in-Some.ensures.is
    (c.in_ok-operation-in-Some.ensures.code c.in-Some.ensures.node c.in-Some.ensures.holds)
    c.in_ok-jump_if-in-Some.ensures.pushed

pub returns-in_ok-test-in-None-clause-code : goal.returns-in_ok-test-in-None-clause-code
returns-in_ok-test-in-None-clause-code c =
    let test = c.in_ok-test-in-None.ensures in
    let out = c.test.new.self.out in
    let first = c.next_label.result + c.trap_count.result in
    let is : first ≡ label out = omega (arith, test.labels, ap length test.fresh.traps) in
    by_test test.fresh
    (subst
    (λ (l : ℕ). WritesTest c.args.self.now.scope c.args.e.now l c.args.second c.args.self.now.out
    out) is test.code)

pub returns-in_ok-jump_if-in-Some-clause-fit : goal.returns-in_ok-jump_if-in-Some-clause-fit
returns-in_ok-jump_if-in-Some-clause-fit c = λ known there below before.
    let old = c.args.self.now in
    let found = c.in-Some.ensures in
    let done = c.in_ok-operation-in-Some.ensures in
    let jumped = c.in_ok-jump_if-in-Some.ensures in
    let is : IsKnown old.scope found.node =
    subst (λ (o : Option Expr). IsKnownIf old.scope o) found.is
    (opposite_known old.scope c.args.e.now known) in
    let then : Conforms c.operation.new.self =
    done.fit found.node found.holds is (omega (arith, jumped.labels, below)) before in
    jumped.fit (omega arith) (subst (λ (on : Body). c.args.second < blocks_of on) (sym done.on) there) then
