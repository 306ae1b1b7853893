use Rattle.std.proofs.Common.{refl}
use Rattle.block_lower.specs.declared.lowering.Lowering.{Lowering}
use Rattle.block_lower.proofs.Written.Placed.{stores_conform}
use Rattle.block_lower.proofs.lowering.Lowering.push_stores.Goals as goal

pub returns-clause-fit : goal.returns-clause-fit
returns-clause-fit c =
    let old = c.args.self.now in
    let new : Lowering =
    record {
      alloc = old.alloc;
      out = record {
        blocks = old.out.blocks;
        body = c.push_leaf_stores.new.body;
        traps = old.out.traps;
        note = old.out.note;
      };
      scope = old.scope;
      on = old.on;
    } in
    stores_conform old new c.args.site.now c.requires
    (record {
      blocks = refl;
      body = c.in_ok-push_leaf_stores.ensures;
      traps = refl;
      noted = refl;
    })
    refl refl
