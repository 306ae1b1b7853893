use Rattle.std.proofs.Common.{◌≡◌, ◌++◌, drop}
use Rattle.std.specs.Prelude.{codes}
use Rattle.std.specs.List.{flat_map}
use Rattle.tpal_syntax.specs.Conditions.{block_names}
use Rattle.tpal_syntax.specs.Text.{◌+++◌, line, instr_text}
use Rattle.tpal_print.proofs.printing.push_body.Given as goal

-- what is written, and what is left
abbrev pub invariant-loop-instr : goal.invariant-loop-instr
invariant-loop-instr l =
    l.out.items ++ flat_map (λ i. line (codes "  " +++ instr_text (block_names l.blocks) i)) (drop l.instr-index l.body)
    ≡ l.fn.out.items ++ flat_map (λ i. line (codes "  " +++ instr_text (block_names l.blocks) i)) l.body
