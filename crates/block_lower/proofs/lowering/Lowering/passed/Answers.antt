use Rattle.std.proofs.Common.{◌≡◌, ℕ, suc, ◌+◌, refl, subst, ap, ◌∙◌, arith}
use Rattle.block_lower.specs.declared.body.Body.{Body}
use Rattle.block_lower.specs.Lowering.{WritesPassed}
use Rattle.block_lower.proofs.Written.LoweredCalls.{more_passed}
use Rattle.block_lower.proofs.lowering.Lowering.passed.Goals as goal

pub loop-i-preserved : goal.loop-i-preserved
loop-i-preserved c =
    let i = c.loop-i.i in
    let was = c.loop-i.invariant in
    let next : suc i ≡ i + 1 = omega arith in
    record {
      labels = omega (
        arith,
        was.labels,
        c.in_ok-load.ensures.labels,
        c.in_ok-store.ensures.labels,
      );
      code = subst
          (λ (n : ℕ).
          WritesPassed c.args.self.now.on n c.args.self.now.out c.store.new.self.out)
          next
          (more_passed c.args.self.now.on i c.args.self.now.out c.loop-i.self.out
          c.load.new.self.out c.store.new.self.out was.code
          (rw (c.kept_argument-kept.ensures, was.on) at c.in_ok-load.ensures.pushed)
          (rw (c.parameter_cell-parameter.ensures, was.on) at c.in_ok-store.ensures.pushed));
      on = c.in_ok-store.ensures.on ∙ c.in_ok-load.ensures.on ∙ was.on;
      scope = c.in_ok-store.ensures.scope ∙ c.in_ok-load.ensures.scope ∙ was.scope;
      fit = λ before.
          let room = c.requires.room in
          let now = was.fit before in
          c.in_ok-store.ensures.fit
          (omega (
            arith,
            c.parameter_cell-parameter.ensures,
            c.loop-i-test.true,
            c.requires.few,
            now.size,
          )) refl
          (c.in_ok-load.ensures.fit (omega arith)
          (omega (
            arith,
            c.kept_argument-kept.ensures,
            c.loop-i-test.true,
            ap (λ (x : Body). x.most) was.on,
            room.room,
            room.fits,
          )) now);
    }

pub returns-clause-code : goal.returns-clause-code
returns-clause-code c =
    let all : c.loop-i.i ≡ c.args.count = omega (arith, c.loop-i-test.false) in
    subst
    (λ (n : ℕ). WritesPassed c.args.self.now.on n c.args.self.now.out c.loop-i.self.out) all
    c.loop-i.invariant.code
