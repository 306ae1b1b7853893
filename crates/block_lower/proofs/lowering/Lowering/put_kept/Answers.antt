use Rattle.std.proofs.Common.{◌∙◌}
use Rattle.block_lower.proofs.Written.LoweredTables.{put_kept_written}
use Rattle.block_lower.proofs.lowering.Lowering.put_kept.Goals as goal

pub returns-clause-code : goal.returns-clause-code
returns-clause-code c = λ reduces.
    let first = c.in_ok-store.ensures.scope ∙ c.in_ok-value.ensures.scope in
    let second = c.in_ok-store-2.ensures.scope ∙ c.in_ok-value-2.ensures.scope ∙ first in
    let third = c.in_ok-value-3.ensures.scope ∙ second in
    let last = c.in_ok-load-2.ensures.scope ∙ c.in_ok-load.ensures.scope ∙ third in
    put_kept_written c.args.self.now.on reduces c.args.self.now.scope c.args.t.now c.args.a.now
    c.args.b.now c.args.e.now c.args.self.now.out c.value.new.self.out c.store.new.self.out
    c.value-2.new.self.out c.store-2.new.self.out c.value-3.new.self.out c.load.new.self.out
    c.load-2.new.self.out c.push_put.new.self.out c.requires.room c.in_ok-value.ensures.code
    (rw c.kept_cell-row.ensures at c.in_ok-store.ensures.pushed)
    (rw first at c.in_ok-value-2.ensures.code)
    (rw c.kept_cell-col.ensures at c.in_ok-store-2.ensures.pushed)
    (rw second at c.in_ok-value-3.ensures.code)
    (rw c.kept_cell-row.ensures at c.in_ok-load.ensures.pushed)
    (rw c.kept_cell-col.ensures at c.in_ok-load-2.ensures.pushed)
    (rw last at c.in_ok-push_put.ensures.code)
