use Rattle.std.proofs.Common.{◌++◌, List, take, take_all, refl, sym, subst, ◌∙◌, arith}
use Rattle.loop_syntax.specs.declared.Name.{Name}
use Rattle.loop_rules.specs.Names.{texts}
use Rattle.scene_laws.specs.Names.{SeesAfter}
use Rattle.block_lower.proofs.Written.Stepping.{first_more}
use Rattle.block_lower.proofs.Written.WrittenFunctions.{sees_parameter, sees_no_parameter}
use Rattle.block_lower.proofs.lowering.Lowering.declare_all.Goals as goal

pub loop-x-init : goal.loop-x-init
loop-x-init c = record {
  sees = sees_no_parameter c.args.self.now.scope;
  cells = omega arith;
  tables = refl;
  regs = refl;
  on = refl;
  out = refl;
  fit = λ before. before;
}

pub loop-x-preserved : goal.loop-x-preserved
loop-x-preserved c =
    let xs = c.args.params.now in
    let i = c.loop-x.x-index in
    let x = c.x-item.result in
    let was = c.loop-x.invariant in
    let declared = c.in_ok-declare.ensures in
    let step = first_more xs i x c.loop-x-test.true c.x-item.is in
    record {
      sees = subst
          (λ (ys : List Name).
          SeesAfter (λ names. names ++ texts ys) c.args.self.now.scope c.declare.new.self.scope)
          (sym step)
          (sees_parameter (take i xs) x c.args.self.now.scope c.loop-x.self.scope
          c.declare.new.self.scope was.sees declared.sees);
      cells = omega (arith, declared.cells, was.cells);
      tables = declared.tables ∙ was.tables;
      regs = declared.regs ∙ was.regs;
      on = declared.on ∙ was.on;
      out = declared.out ∙ was.out;
      fit = λ before. declared.fit (was.fit before);
    }

pub returns-clause-sees : goal.returns-clause-sees
returns-clause-sees c =
    subst
    (λ (ys : List Name).
    SeesAfter (λ names. names ++ texts ys) c.args.self.now.scope c.loop-x.self.scope)
    (take_all c.loop-x.x-index c.args.params.now c.loop-x-test.false) c.loop-x.invariant.sees
