use Rattle.std.proofs.Common.{rules, SFits, sym, ◌∙◌}
use Rattle.std.specs.Int.{w64}
use Rattle.std.proofs.lemmas.Int.{to_z-of_z}
use Rattle.loop_meaning.specs.Ends.{state_of}
use Rattle.loop_meaning.proofs.Calls.{next_given}
use Rattle.loop_meaning.proofs.Runs.{alike_trans}
use Rattle.loop_meaning.proofs.argument.numbers_of.Goals as goal

pub loop-e-preserved : goal.loop-e-preserved
loop-e-preserved c =
    let h = sym c.value_of.ensures ∙ c.in-Number.is in
    let fit : SFits w64 c.in-Number.n = search rules in
    let pushed = simp (to_z-of_z, fit) at c.in_ok-push-in-Number.ensures.items in
    λ go. alike_trans (c.loop-e.invariant go)
    (next_given c.args.arguments.now c.loop-e.e-index c.e-item.result (state_of c.args.memory.now) c.in-Number.n c.loop-e-test.true c.e-item.is h c.loop-e.ns.items _ go pushed)
