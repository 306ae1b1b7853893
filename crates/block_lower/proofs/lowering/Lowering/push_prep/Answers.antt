use Rattle.block_lower.proofs.Written.LoweredPars.{prep_written}
use Rattle.block_lower.proofs.lowering.Lowering.push_prep.Goals as goal

pub returns-clause-code : goal.returns-clause-code
returns-clause-code c =
    prep_written c.args.self.now.scope c.args.l.now c.args.site.now.label c.args.self.now.out
    c.push_rows.new.self.out c.close.new.self.out c.requires.fresh
    (rw c.deref-2.ensures.value at c.in_ok-push_rows.ensures.pushed)
    (rw c.jump.ensures at c.in_ok-close.ensures.closed)
