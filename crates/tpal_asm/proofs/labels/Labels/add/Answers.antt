use Rattle.std.proofs.Common.{arith}
use Rattle.tpal_asm.specs.Labels.{heads}
use Rattle.tpal_asm.proofs.Adding.{with_known, with_new, words_after, few_after}
use Rattle.tpal_asm.proofs.labels.Labels.add.Goals as goal

pub invariant_of-self : goal.invariant_of-self
invariant_of-self c =
    let m = c.args.self.now.places in
    record {
      few = few_after c.insert.result m.entries c.insert.new.self.entries c.requires.room c.insert.ensures.len c.insert.ensures.err;
      words = words_after c.insert.result c.args.name c.args.is_ready m.entries c.insert.new.self.entries c.args.self.now.words c.requires.word (omega (arith, c.place.ensures, c.count.ensures, c.if-place-count.true)) c.insert.ensures.entries c.insert.ensures.err;
    }

pub returns-in_ok-insert-clause-added : goal.returns-in_ok-insert-clause-added
returns-in_ok-insert-clause-added c =
    let m = c.args.self.now.places in
    with_new c.args.name c.args.is_ready m.entries c.insert.new.self.entries (omega (arith, c.place.ensures, c.count.ensures, c.if-place-count.true)) c.in_ok-insert.ensures.entries

pub returns-else-place-count-clause-added : goal.returns-else-place-count-clause-added
returns-else-place-count-clause-added c =
    with_known (heads c.args.self.now.places) c.args.name.now c.args.is_ready (omega (arith, c.place.ensures, c.count.ensures, c.if-place-count.false))
