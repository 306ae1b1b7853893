use Rattle.std.proofs.Common.{arith, sym, ap, ◌∙◌, ◌+◌, ◌<◌, eqb, get_or, inl, inr, SFits, w64}
use Rattle.std.proofs.Common.{rules}
use Rattle.std.proofs.lemmas.Int.{to_z-of_z}
use Rattle.table_text.specs.Token.{is_64_bits, signed_value}
use Rattle.table_text.proofs.Numbers.{no_digits, stops_there, takes_number, too_great}
use Rattle.table_text.proofs.number.number_at.Goals as goal
use Rattle.table_text.proofs.number.number_at.Goals.{then-digits-first-via-then-digits-first}
use Rattle.table_text.proofs.number.number_at.Goals.{then-digits-first-via-else-digits-first+then-goes_on}

pub returns-then-digits-first-clause-none : goal.returns-then-digits-first-clause-none
returns-then-digits-first-clause-none c =
    no_digits c.args.text.now c.args.start (c.args.start + c.from.result) c.run_at-digits.result.end
    (ap (λ k. c.args.start + k) c.from.ensures) c.requires.inside c.requires.begins
    c.run_at-digits.ensures.behind c.run_at-digits.ensures.within c.run_at-digits.ensures.digits c.run_at-digits.ensures.stops
    (elim c.then-digits-first.branch [ then-digits-first-via-then-digits-first w ↦ inl w.if-digits-first.true | then-digits-first-via-else-digits-first+then-goes_on w ↦ inr (sym w.if-goes_on.ensures) ])

pub returns-in-None-clause-none : goal.returns-in-None-clause-none
returns-in-None-clause-none c =
    too_great c.args.text.now c.args.start (c.args.start + c.from.result) c.run_at-digits.result.end
    (ap (λ k. c.args.start + k) c.from.ensures) c.requires.inside c.requires.begins
    c.run_at-digits.ensures.behind c.run_at-digits.ensures.within c.run_at-digits.ensures.digits
    (stops_there c.args.text.now c.run_at-digits.result.end c.if-goes_on.ensures)
    (ap (λ n. is_64_bits (signed_value (eqb (get_or c.args.text.now c.args.start 0) 45) n)) (sym c.run_at-digits.ensures.value)
    ∙ sym c.in-None.ensures.some)

pub returns-in-Some-clause-number : goal.returns-in-Some-clause-number
returns-in-Some-clause-number c =
    let some : c.args.start + c.from.result < c.run_at-digits.result.end = omega arith in
    let fits : SFits w64 c.in-Some.value = search rules in
    takes_number c.args.text.now c.args.start (c.args.start + c.from.result) c.run_at-digits.result.end
    (ap (λ k. c.args.start + k) c.from.ensures) c.requires.inside c.requires.begins
    c.run_at-digits.ensures.behind c.run_at-digits.ensures.within c.run_at-digits.ensures.digits
    (stops_there c.args.text.now c.run_at-digits.result.end c.if-goes_on.ensures)
    some _
    (ap (λ n. is_64_bits (signed_value (eqb (get_or c.args.text.now c.args.start 0) 45) n)) (sym c.run_at-digits.ensures.value)
    ∙ sym c.in-Some.ensures.some)
    (to_z-of_z w64 c.in-Some.value fits ∙ c.in-Some.ensures.value
    ∙ ap (signed_value (eqb (get_or c.args.text.now c.args.start 0) 45)) c.run_at-digits.ensures.value)
