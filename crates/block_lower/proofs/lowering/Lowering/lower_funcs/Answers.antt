use Rattle.std.proofs.Common.{take, take_all, List, refl, ap, sym, subst, ◌∙◌, arith}
use Rattle.std.proofs.lemmas.List.Sums.{sum_by_more}
use Rattle.loop_syntax.specs.declared.Func.{Func}
use Rattle.block_lower.specs.declared.body.Body.{Body}
use Rattle.scene_laws.specs.Heights.{FuncIsLow}
use Rattle.block_lower.specs.Programs.{LowersFuncs, FuncIsSmall}
use Rattle.scene_laws.specs.Sizes.{added_by_func}
use Rattle.block_lower.proofs.Written.FittingNow.{func_fits_now}
use Rattle.block_lower.proofs.Written.Stepping.{first_more}
use Rattle.block_lower.proofs.Written.WrittenFunctions.{holds_at, func_room, no_funcs_written}
use Rattle.block_lower.proofs.Written.WrittenFunctions.{funcs_written, StandAlike}
use Rattle.block_lower.proofs.lowering.Lowering.lower_funcs.Goals as goal

pub loop-f-init : goal.loop-f-init
loop-f-init c = record {
  labels = omega arith;
  cells = c.requires.cells;
  regs = refl;
  tables = refl;
  alike = record { callees = refl; calls = refl; dispatch = refl };
  fresh = c.requires.fresh;
  code = no_funcs_written c.args.self.now.on c.args.self.now.scope c.args.self.now.out;
}

pub lower_func-requires-clause-room : goal.lower_func-requires-clause-room
lower_func-requires-clause-room c =
    let small = holds_at FuncIsSmall c.args.fs.now c.loop-f.f-index c.f-item.result c.loop-f-test.true c.f-item.is c.requires.small in
    let low = holds_at FuncIsLow c.args.fs.now c.loop-f.f-index c.f-item.result c.loop-f-test.true c.f-item.is c.requires.low in
    func_room (record c.loop-f.self.on { most = c.most_of-self.result; size = c.size_of-self.result }) c.f-item.result small low c.most_of-self.ensures c.size_of-self.ensures

pub lower_func-requires-clause-fits : goal.lower_func-requires-clause-fits
lower_func-requires-clause-fits c =
    let was = c.loop-f.invariant in
    func_fits_now c.args.self.now.on
    (record c.loop-f.self.on { most = c.most_of-self.result; size = c.size_of-self.result })
    c.args.self.now.scope c.loop-f.self.scope c.args.fs.now c.loop-f.f-index c.f-item.result
    c.loop-f-test.true c.f-item.is was.alike.callees c.requires.cells was.cells was.regs was.tables
    c.requires.fits

pub loop-f-preserved : goal.loop-f-preserved
loop-f-preserved c =
    let fs = c.args.fs.now in
    let i = c.loop-f.f-index in
    let f = c.f-item.result in
    let self = c.args.self.now in
    let was = c.loop-f.invariant in
    let new = c.in_ok-lower_func.ensures in
    let step = first_more fs i f c.loop-f-test.true c.f-item.is in
    let blocks = rw (← c.f-item.is) at (sum_by_more (added_by_func self.on.quiet_calls) fs i f c.loop-f-test.true) in
    let on : Body = record c.loop-f.self.on { most = c.most_of-self.result; size = c.size_of-self.result } in
    let alike : StandAlike on self.on = record { callees = was.alike.callees; calls = was.alike.calls; dispatch = was.alike.dispatch } in
    let labels = rw was.alike.calls at new.labels in
    record {
      labels = omega (arith, blocks, labels, was.labels);
      cells = new.cells;
      regs = new.regs ∙ was.regs;
      tables = new.tables ∙ was.tables;
      alike = record {
        callees = ap (λ o. o.callees) new.on ∙ alike.callees;
        calls = ap (λ o. o.quiet_calls) new.on ∙ alike.calls;
        dispatch = ap (λ o. o.dispatch) new.on ∙ alike.dispatch;
      };
      fresh = new.fresh;
      code = subst (λ (gs : List Func). LowersFuncs self.on self.scope gs self.out c.lower_func.new.self.out) (sym step)
          (funcs_written self.on on self.scope c.loop-f.self.scope (take i fs) f self.out
          c.loop-f.self.out c.lower_func.new.self.out alike c.most_of-self.ensures
          c.size_of-self.ensures c.requires.cells was.cells was.regs was.tables
          c.requires.fresh was.fresh was.labels was.code new.code);
    }

pub returns-clause-code : goal.returns-clause-code
returns-clause-code c =
    subst (λ (gs : List Func). LowersFuncs c.args.self.now.on c.args.self.now.scope gs c.args.self.now.out c.loop-f.self.out) (take_all c.loop-f.f-index c.args.fs.now c.loop-f-test.false) c.loop-f.invariant.code
