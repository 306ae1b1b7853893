use Rattle.std.proofs.Common.{◌∙◌, ap, sym, ◌+◌, ◌-◌, arith}
use Rattle.tpal_syntax.specs.Readers.{many, next_rename_at}
use Rattle.tpal_asm.specs.Reading.{onto}
use Rattle.tpal_asm.proofs.Lists.{more-none, more-some}
use Rattle.tpal_asm.proofs.notes.more_renames.Goals as goal

pub returns-in-None : goal.returns-in-None
returns-in-None c = c.loop-at.invariant ∙ more-none next_rename_at c.loop-at.renames.items c.args.most c.loop-at._at c.loop-at.rest.now (omega arith) c.in-None.ensures

pub loop-at-preserved : goal.loop-at-preserved
loop-at-preserved c =
    c.loop-at.invariant
    ∙ more-some next_rename_at c.loop-at.renames.items c.args.most c.loop-at._at c.loop-at.rest.now c.in-Some.next c.in-Some.others.now (omega arith) c.in-Some.ensures
    ∙ ap (λ x. onto x (many (c.args.most - (c.loop-at._at + 1)) next_rename_at c.in-Some.others.now)) (sym c.in_ok-push-in-Some.ensures.items)
