use Rattle.std.proofs.Common.{take}
use Rattle.loop_rules.specs.Declarations.{tables_of_decls}
use Rattle.loop_check.specs.Readers.{IsReaders}
use Rattle.loop_check.proofs.readers.all_readers.Given as goal

abbrev pub invariant-loop-d : goal.invariant-loop-d
invariant-loop-d l = IsReaders l.program (tables_of_decls (take l.d-index l.program.tables.items)) l.readers.items
