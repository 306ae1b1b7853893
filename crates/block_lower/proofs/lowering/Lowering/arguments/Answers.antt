use Rattle.std.proofs.Common.{◌≡◌, ℕ, ◌+◌, ◌*◌, ◌≤◌, List, [], ◌∷◌, ◌++◌, length, take, take_all}
use Rattle.std.proofs.Common.{refl, sym, subst, ◌∙◌, arith}
use Rattle.std.proofs.lemmas.List.{length-take}
use Rattle.std.proofs.lemmas.List.Sums.{sum_by_more}
use Rattle.loop_syntax.specs.declared.Expr.{Expr}
use Rattle.expr_lower.specs.Bodies.{trap_count}
use Rattle.expr_lower.specs.declared.scope.Scope.{Scope}
use Rattle.block_lower.specs.declared.body.Body.{Body}
use Rattle.block_lower.specs.declared.output.Output.{Output}
use Rattle.block_lower.specs.Conforming.{Conforms, IsKnown, blocks_of}
use Rattle.scene_laws.specs.Code.{store}
use Rattle.block_lower.specs.Lowering.{WritesArguments}
use Rattle.block_lower.specs.Writing.{next_label, Pushes}
use Rattle.block_lower.proofs.Written.Conforming.{operand_of}
use Rattle.block_lower.proofs.Written.Placed.{all_at}
use Rattle.block_lower.proofs.Written.LoweredCalls.{none_stored, more_stored}
use Rattle.block_lower.proofs.Written.Stepping.{first_more}
use Rattle.block_lower.proofs.lowering.Lowering.arguments.Goals as goal

pub loop-i-init : goal.loop-i-init
loop-i-init c = record {
  labels = omega arith;
  code = none_stored c.args.self.now.scope (λ k. c.args.first + k * c.args.distance)
      c.args.self.now.out;
  on = refl;
  scope = refl;
  fit = λ known cells below before. before;
}

pub loop-i-preserved : goal.loop-i-preserved
loop-i-preserved c =
    let xs = c.args.list.now in
    let i = c.loop-i.i in
    let e = c.index-list-i.result in
    let was = c.loop-i.invariant in
    let new : Output = c.store.new.self.out in
    let cell : ℕ → ℕ = λ k. c.args.first + k * c.args.distance in
    let step : take (i + 1) xs ≡ take i xs ++ e ∷ [] =
    first_more xs i e c.loop-i-test.true c.index-list-i.is in
    let more_traps =
    rw (← c.index-list-i.is) at (sum_by_more trap_count xs i e c.loop-i-test.true) in
    let long : i ≡ length (take i xs) = omega (arith, length-take i xs, c.loop-i-test.true) in
    record {
      labels = omega (
        arith,
        more_traps,
        was.labels,
        c.in_ok-value.ensures.labels,
        c.in_ok-store.ensures.labels,
      );
      code = subst
          (λ (es : List Expr).
          WritesArguments c.args.self.now.scope es cell c.args.self.now.out new)
          (sym step)
          (more_stored c.args.self.now.scope (take i xs) e c.in_ok-value.value cell
          c.args.self.now.out c.loop-i.self.out c.operand.new.self.out new was.code
          (rw was.scope at c.in_ok-value.ensures.code)
          (subst
          (λ (k : ℕ).
          Pushes (store (cell k) c.in_ok-value.value ∷ []) c.operand.new.self.out new)
          long c.in_ok-store.ensures.pushed));
      on = c.in_ok-store.ensures.on ∙ c.in_ok-value.ensures.on ∙ was.on;
      scope = c.in_ok-store.ensures.scope ∙ c.in_ok-value.ensures.scope ∙ was.scope;
      fit = λ known cells below before.
          let value = c.in_ok-value.ensures in
          let stored = c.in_ok-store.ensures in
          let now : Conforms c.loop-i.self =
          was.fit known cells (omega (arith, value.labels, stored.labels, below)) before in
          let one : IsKnown c.args.self.now.scope e =
          subst (IsKnown c.args.self.now.scope) (sym c.index-list-i.is)
          (all_at (IsKnown c.args.self.now.scope) xs i e c.loop-i-test.true known) in
          let room : next_label c.operand.new.self.out ≤ blocks_of c.args.self.now.on =
          omega (arith, stored.labels, below) in
          stored.fit (cells i c.loop-i-test.true)
          (operand_of c.loop-i.self.on c.operand.new.self.on c.in_ok-value.value value.on
          (value.operand now.scope))
          (value.fit (subst (λ (s : Scope). IsKnown s e) (sym was.scope) one)
          (subst (λ (x : Body). next_label c.operand.new.self.out ≤ blocks_of x) (sym was.on) room)
          now);
    }

pub returns-clause-code : goal.returns-clause-code
returns-clause-code c =
    subst
    (λ (es : List Expr).
    WritesArguments c.args.self.now.scope es (λ k. c.args.first + k * c.args.distance)
    c.args.self.now.out c.loop-i.self.out)
    (take_all c.loop-i.i c.args.list.now c.loop-i-test.false) c.loop-i.invariant.code
