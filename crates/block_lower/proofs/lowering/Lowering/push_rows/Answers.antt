use Rattle.std.proofs.Common.{[], ◌∷◌, subst, ◌∙◌, arith}
use Rattle.expr_lower.specs.declared.scope.Scope.{Scope}
use Rattle.scene_laws.specs.Sites.{rows_from}
use Rattle.block_lower.specs.Writing.{Pushes}
use Rattle.block_lower.proofs.Written.LoweredRows.{rows_pushed}
use Rattle.block_lower.proofs.Written.Stepping.{first_more}
use Rattle.block_lower.proofs.lowering.Lowering.push_rows.Goals as goal

pub loop-before-preserved : goal.loop-before-preserved
loop-before-preserved c =
    let cs = c.args.carries.now in
    let before = c.loop-before.before in
    let one = c.index-carries-before.result in
    let was = c.loop-before.invariant in
    let more = c.in_ok-push_row_of.ensures in
    record {
      pushed =
          rows_pushed c.args.self.now.scope cs before one c.args.self.now.out
          c.loop-before.self.out c.push_row_of.new.self.out
          (omega (arith, c.loop-before-test.true))
          (first_more cs before one c.loop-before-test.true c.index-carries-before.is)
          was.pushed
          (subst (λ (s : Scope). Pushes (rows_from s before (one ∷ [])) c.loop-before.self.out
          c.push_row_of.new.self.out) was.scope more.pushed);
      labels = more.labels ∙ was.labels;
      on = more.on ∙ was.on;
      scope = more.scope ∙ was.scope;
      fit = λ h. more.fit (was.fit h);
    }
