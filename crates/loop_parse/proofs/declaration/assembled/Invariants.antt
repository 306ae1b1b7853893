use Rattle.std.proofs.Common.{◌≡◌, map}
use Rattle.loop_syntax.specs.Tree.{table_of, func_of}
use Rattle.loop_parse.specs.Heads.{decl_of}
use Rattle.loop_parse.specs.Grammar.{tables_in, funcs_in}
use Rattle.loop_parse.proofs.declaration.assembled.Given as goal

abbrev pub invariant-loop-found : goal.invariant-loop-found
invariant-loop-found l = (map table_of l.tables.items ≡ tables_in (map decl_of l.yielded)) × (map func_of l.funcs.items ≡ funcs_in (map decl_of l.yielded))
