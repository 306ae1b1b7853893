use Rattle.std.proofs.Common.{refl, ◌∙◌}
use Rattle.block_lower.proofs.Written.WrittenTables.{made_kept_written}
use Rattle.block_lower.proofs.lowering.Lowering.make_kept.Goals as goal

pub returns-clause-code : goal.returns-clause-code
returns-clause-code c =
    let second = c.in_ok-store.ensures.scope ∙ c.in_ok-value.ensures.scope in
    let last = c.in_ok-load.ensures.scope ∙ c.in_ok-value-2.ensures.scope ∙ second in
    made_kept_written c.args.self.now.on c.args.self.now.scope c.args.x.now c.args.a.now
    c.args.b.now _ c.args.self.now.out c.value.new.self.out c.store.new.self.out
    c.value-2.new.self.out c.load.new.self.out c.push_make.new.self.out refl c.requires.room
    c.in_ok-value.ensures.code (rw c.kept_cell-kept.ensures at c.in_ok-store.ensures.pushed)
    (rw second at c.in_ok-value-2.ensures.code)
    (rw c.kept_cell-kept.ensures at c.in_ok-load.ensures.pushed)
    (rw last at c.in_ok-push_make.ensures.pushed)
