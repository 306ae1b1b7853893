use Rattle.std.proofs.Common.{◌≡◌, ap, refl, sym, arith}
use Rattle.scene_laws.specs.Count.{blocks_of_program}
use Rattle.tpal_tool.specs.Lines.{blocks_line}
use Rattle.tpal_tool.proofs.Soles.{accepted-only, not_built-only, too_many-only}
use Rattle.tpal_tool.proofs.judging.fitting.Goals as goal

pub returns-then-not-program_is_built-clause-fault : goal.returns-then-not-program_is_built-clause-fault
returns-then-not-program_is_built-clause-fault c source parses_as = (
  refl,
  not_built-only source c.args.program parses_as c.requires.unbroken
      (sym c.if-not-program_is_built.ensures),
)

pub returns-then-blocks-clause-accepted : goal.returns-then-blocks-clause-accepted
returns-then-blocks-clause-accepted c source parses_as =
    accepted-only source c.args.program parses_as c.requires.unbroken
    (sym c.if-not-program_is_built.ensures)
    (omega (arith, c.if-blocks.true, c.block_count-blocks.ensures))

pub returns-clause-fault : goal.returns-clause-fault
returns-clause-fault c source parses_as =
    let counted : c.block_count-blocks.result ≡ blocks_of_program c.args.program =
    omega (arith, c.block_count-blocks.ensures, c.requires.few) in (
      refl,
      too_many-only source c.args.program (blocks_line c.block_count-blocks.result) parses_as
          c.requires.unbroken (sym c.if-not-program_is_built.ensures)
          (omega (arith, c.if-blocks.false, counted)) (ap blocks_line counted),
    )
