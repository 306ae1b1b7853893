use Rattle.std.proofs.Common.{◌≡◌, ◌≤◌, length, sym, subst, arith}
use Rattle.loop_syntax.specs.declared.Program.{Program}
use Rattle.tpal_syntax.specs.Conditions.{IsCode}
use Rattle.tpal_syntax.specs.Listing.{Listing}
use Rattle.scene_laws.specs.Count.{blocks_of_program}
use Rattle.code_laws.specs.Owing.{OwesMeaning}
use Rattle.block_lower.proofs.Written.Planning.{fewer_blocks}
use Rattle.code_laws.proofs.Rules.Unbroken.{program_fits}
use Rattle.scene_laws.proofs.Counts.Wholes.{stand_whole}
use Rattle.code_laws.proofs.Whole.Owes.{owes_of}
use Rattle.block_lower.proofs.program.lower.Goals as goal

pub program_blocks-requires-clause-fits : goal.program_blocks-requires-clause-fits
program_blocks-requires-clause-fits c = rw c.program-program.ensures.program (program_fits c.args.program.now c.program-program.ensures.unbroken c.requires.built)

pub program_blocks-requires-clause-built : goal.program_blocks-requires-clause-built
program_blocks-requires-clause-built c = rw c.program-program.ensures.program c.requires.built

pub program_blocks-requires-clause-labels : goal.program_blocks-requires-clause-labels
program_blocks-requires-clause-labels c = rw c.program-program.ensures.program (omega (arith, fewer_blocks c.args.program.now, c.if-count.false, c.block_count-count.ensures))

pub returns-in-Some-clause-owes : goal.returns-in-Some-clause-owes
returns-in-Some-clause-owes c =
    let p = c.program-program.result.now in
    let listing : Listing = record { tables = c.in_ok-tables.tables.items; blocks = c.in_ok-blocks.blocks.items } in
    let same : c.in-Some.code ≡ listing = rw c.in-Some.is at c.in_ok-code.ensures.exact in
    let right : IsCode listing.tables listing.blocks = rw c.in-Some.is at c.in_ok-code.ensures.right in
    let owes : OwesMeaning p listing = owes_of p listing (rw c.program-program.ensures.program c.program-program.ensures.unbroken) right (c.in_ok-blocks.ensures.code listing (rw c.deref.ensures.value at c.in_ok-tables.ensures) (stand_whole listing)) in
    subst (λ (q : Program). OwesMeaning q c.in-Some.code) c.program-program.ensures.program (subst (λ (l : Listing). OwesMeaning p l) (sym same) owes)

pub returns-in-Some-clause-count : goal.returns-in-Some-clause-count
returns-in-Some-clause-count c =
    let listing : Listing = record { tables = c.in_ok-tables.tables.items; blocks = c.in_ok-blocks.blocks.items } in
    let same : c.in-Some.code ≡ listing = rw c.in-Some.is at c.in_ok-code.ensures.exact in
    let count = rw c.program-program.ensures.program at c.in_ok-blocks.ensures.count in
    subst (λ (l : Listing). length l.blocks ≤ blocks_of_program c.args.program.now) (sym same) (omega (arith, count, fewer_blocks c.args.program.now))
