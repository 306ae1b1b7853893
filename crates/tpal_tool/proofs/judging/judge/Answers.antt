use Rattle.std.proofs.Common.{ap, ◌∙◌, arith}
use Rattle.scene_laws.specs.Count.{blocks_of_program}
use Rattle.scene_laws.proofs.Counts.FewBlocks.{few_blocks_of}
use Rattle.tpal_tool.proofs.judging.judge.Goals as goal

pub fitting-requires-clause-few : goal.fitting-requires-clause-few
fitting-requires-clause-few c =
    let read = few_blocks_of c.args.source.now c.in_ok-program.program
    c.in_ok-program.ensures.parses.0 in
    let same = ap blocks_of_program
    (c.in_ok-program-3.ensures.program ∙ c.in_ok-program-2.ensures.program) in
    omega (arith, read, same, c.requires)
