use Rattle.std.proofs.Common.{◌≡◌, Some, sym, ◌∙◌}
use Rattle.std.proofs.lemmas.Result.{IfOk-weaker}
use Rattle.tpal_syntax.specs.declared.words.Word.TheVariants as words
use Rattle.tpal_machine.specs.Reading.{register}
use Rattle.tpal_machine.specs.Seen.{state_of}
use Rattle.tpal_machine.proofs.Refusals.{fork_is}
use Rattle.tpal_machine.proofs.fork.fork.Goals as goal

pub returns-then-tie-number-clause-ok : goal.returns-then-tie-number-clause-ok
returns-then-tie-number-clause-ok c =
    let machine = c.args.machine.value in
    let number = c.in-Rec.number in
    let held : register machine.registers c.args.rec ≡ words.Rec number =
    sym (rw c.deref.ensures at c.in-Rec.ensures) in
    let pending : machine.pending ≡ Some c.in-Some.tie = cc c.in-Some.is in
    let same =
    fork_is c.args.code.now c.args.rec c.args.child (state_of machine) number c.in-Some.tie
    held pending c.if-tie-number.true in
    IfOk-weaker c.fork_under.result _ _ (λ parts h. same ∙ h) c.fork_under.ensures.ok
