use Rattle.std.proofs.Common.{◌≡◌, ◌++◌, drop}
use Rattle.tpal_syntax.specs.Conditions.{block_names}
use Rattle.tpal_syntax.specs.Text.{blocks_text}
use Rattle.tpal_print.proofs.printing.push_blocks.Given as goal

-- the number of the next block, and what is written with what is left
abbrev pub invariant-loop-block : goal.invariant-loop-block
invariant-loop-block l = record {
  counted : l.number ≡ l.block-index;
  written : l.out.items ++ blocks_text l.version (block_names l.blocks) l.block-index (drop l.block-index l.blocks) ≡ l.fn.out.items ++ blocks_text l.version (block_names l.blocks) 0 l.blocks;
}
