use Rattle.std.proofs.Common.{refl}
use Rattle.block_lower.specs.declared.output.Output.{Output}
use Rattle.block_lower.proofs.Written.Conforming.{appends_proper, kept_conforms}
use Rattle.block_lower.proofs.lowering.Lowering.append.Goals as goal

pub returns-clause-appended : goal.returns-clause-appended
returns-clause-appended c =
    let fresh = c.requires.fresh in
    record {
      blocks = c.in_ok-append.ensures.items;
      fresh = record { body = fresh.body; traps = fresh.traps; plain = fresh.plain };
    }

pub returns-clause-fit : goal.returns-clause-fit
returns-clause-fit c = λ named are before.
    let old = c.args.self.now in
    let fresh = c.requires.fresh in
    let out : Output =
    record {
      blocks = c.append.new.self;
      body = old.out.body;
      traps = old.out.traps;
      note = old.out.note;
    } in
    kept_conforms old (record { alloc = old.alloc; out = out; scope = old.scope; on = old.on })
    refl refl
    (appends_proper old.on old.out out c.args.blocks.items named are
    (record {
      blocks = c.in_ok-append.ensures.items;
      fresh = record { body = fresh.body; traps = fresh.traps; plain = fresh.plain };
    }) before.written) before
