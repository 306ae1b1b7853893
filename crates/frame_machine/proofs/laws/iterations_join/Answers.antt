use Rattle.std.proofs.Common.{◌≡◌, ◌+ℤ◌, ℤ, pos, ap, subst, ◌∙◌, arith}
use Rattle.std.proofs.lemmas.Int.{ints}
use Rattle.frame_machine.specs.Iterating.{UpperSeen}
use Rattle.frame_machine.specs.Parts.{AgreeOn}
use Rattle.frame_machine.proofs.Framing.{iterations_join, iterations_from_units}
use Rattle.frame_machine.proofs.laws.iterations_join.Goals as goal

pub returns-clause-joins : goal.returns-clause-joins
returns-clause-joins c = λ outer l k rules h.
    iterations_join c.args.program.now outer l c.args.fuel k.room k.again k.begin k.upper_again k.upper_begin k.below k.above k.first k.state k.vars k.tables
    rules h.calls h.range h.within h.round h.given

pub returns-clause-from_units : goal.returns-clause-from_units
returns-clause-from_units c = λ outer l k rules h none.
    let zero : k.first +ℤ pos 0 ≡ k.first = omega (arith, ints) in
    let same : k.first +ℤ pos k.below ≡ k.first = ap (λ n. k.first +ℤ pos n) none ∙ zero in
    iterations_from_units c.args.program.now outer l c.args.fuel k.room k.again k.begin k.upper_again k.upper_begin k.above k.first k.state k.vars k.tables
    rules h.calls
    (record { funcs = h.range.funcs; par = h.range.par; state = h.range.state; begins = h.range.begins; ends = h.range.begins })
    h.within h.round (subst (λ (j : ℤ). AgreeOn (UpperSeen outer l k.state.vars j) k.tables k.state.tables) same h.given)
