use Rattle.std.proofs.Common.{arith, ◌≡◌, ◌+◌, ◌∙◌, ap}
use Rattle.slices.specs.Spans.{number}
use Rattle.slices.proofs.boxes.chunk_of.Goals as goal

pub returns-in-Ok : goal.returns-in-Ok
returns-in-Ok c = λ j h.
    let z : c.args.skip + j ≡ j = omega (arith, c.requires, c.in-Ok.ensures.1.long) in
    ap (λ xs. number xs (c.args.skip + j)) (c.in_ok-chunk.ensures ∙ c.in-Ok.ensures.1.same) ∙ ap (number c.args.part.now) z
