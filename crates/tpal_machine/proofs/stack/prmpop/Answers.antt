use Rattle.std.proofs.Common.{◌≡◌, arith, length, ◌∙◌, ◌+ℤ◌, ap, pos, subst, sym, w64}
use Rattle.std.proofs.lemmas.Int.{to_z-of_z}
use Rattle.std.proofs.lemmas.List.{get_or_default}
use Rattle.tpal_syntax.specs.declared.words.Word.{Word}
use Rattle.tpal_syntax.specs.declared.words.Word.TheVariants as words
use Rattle.tpal_machine.specs.Answer.{Gives}
use Rattle.tpal_machine.specs.Calculation.{on_number}
use Rattle.tpal_machine.specs.Effect.{Effect, without_mark}
use Rattle.tpal_machine.specs.Reading.{register}
use Rattle.tpal_machine.specs.Seen.{state_of}
use Rattle.tpal_machine.proofs.stack.prmpop.Goals as goal

pub returns-clause-effect : goal.returns-clause-effect
returns-clause-effect c =
    let long : length c.args.machine.now.registers ≡ 32 = search in
    let held : register c.args.machine.now.registers c.args.base ≡ words.Int c.in_ok-from.from =
    get_or_default c.args.machine.now.registers c.args.base words.Nil (words.Int (pos 0))
    (omega (arith, long, c.requires)) ∙ c.in_ok-from.ensures.ok in
    let number = sym (ap words.Int (to_z-of_z w64 c.in_ok-from.from (search))) in
    subst (λ (e : Effect). Gives e c.unmark_from.result (state_of c.unmark_from.new.machine))
    (sym (ap (λ (w : Word). on_number w (λ i. without_mark (i +ℤ pos c.args.off)
    (state_of c.args.machine.now))) (held ∙ number))) c.unmark_from.ensures.effect
