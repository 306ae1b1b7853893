use Rattle.std.proofs.Common.{◌++◌, List, length, map, take, take_all, refl, ap, sym, subst}
use Rattle.std.proofs.Common.{◌∙◌, arith}
use Rattle.std.proofs.lemmas.List.Sums.{sum_by_more}
use Rattle.loop_syntax.specs.declared.TableDecl.{TableDecl}
use Rattle.form_laws.specs.Functions.{table_name}
use Rattle.block_lower.specs.Programs.{SeesTables, WritesMakes}
use Rattle.scene_laws.specs.Sizes.{added_by_decl}
use Rattle.block_lower.proofs.Written.Stepping.{first_more}
use Rattle.block_lower.proofs.Written.WrittenTables.{no_makes_written, makes_written, sees_no_table}
use Rattle.block_lower.proofs.Written.WrittenTables.{sees_next_table, room_at}
use Rattle.block_lower.proofs.lowering.Lowering.push_makes.Goals as goal

pub loop-d-init : goal.loop-d-init
loop-d-init c = record {
  labels = omega arith;
  cells = refl;
  tables = omega arith;
  sees = sees_no_table c.args.self.now.scope;
  code = no_makes_written c.args.self.now.on c.args.self.now.scope c.args.self.now.out;
  on = refl;
}

pub push_decl-requires-clause-room : goal.push_decl-requires-clause-room
push_decl-requires-clause-room c =
    rw c.loop-d.invariant.on
    (room_at c.args.self.now.on c.args.ds.now c.loop-d.d-index c.d-item.result
    c.loop-d-test.true c.d-item.is c.requires.room)

pub loop-d-preserved : goal.loop-d-preserved
loop-d-preserved c =
    let ds = c.args.ds.now in
    let i = c.loop-d.d-index in
    let d = c.d-item.result in
    let self = c.args.self.now in
    let was = c.loop-d.invariant in
    let pushed = c.in_ok-push_decl.ensures in
    let declared = c.in_ok-declare_table.ensures in
    let step = first_more ds i d c.loop-d-test.true c.d-item.is in
    let blocks = rw (← c.d-item.is) at (sum_by_more added_by_decl ds i d c.loop-d-test.true) in
    record {
      labels = rw declared.out (omega (arith, blocks, pushed.labels, was.labels));
      cells = declared.cells ∙ ap (λ s. s.cells) pushed.scope ∙ was.cells;
      tables = omega (arith, declared.tables, ap (λ s. length s.tables.items) pushed.scope, was.tables);
      sees = subst
          (λ (es : List TableDecl).
          SeesTables (λ tables. tables ++ map table_name es) self.scope
          c.declare_table.new.self.scope)
          (sym step)
          (sees_next_table (take i ds) d self.scope c.loop-d.self.scope
          c.declare_table.new.self.scope was.sees (rw pushed.scope at declared.sees));
      code = rw declared.out
          (subst (λ (es : List TableDecl). WritesMakes self.on self.scope es self.out c.push_decl.new.self.out)
          (sym step)
          (makes_written self.on self.scope c.loop-d.self.scope (take i ds) d self.out
          c.loop-d.self.out c.push_decl.new.self.out was.code was.sees (rw was.on at pushed.code)));
      on = declared.on ∙ pushed.on ∙ was.on;
    }

pub returns-clause-sees : goal.returns-clause-sees
returns-clause-sees c =
    subst
    (λ (es : List TableDecl).
    SeesTables (λ tables. tables ++ map table_name es) c.args.self.now.scope c.loop-d.self.scope)
    (take_all c.loop-d.d-index c.args.ds.now c.loop-d-test.false) c.loop-d.invariant.sees
