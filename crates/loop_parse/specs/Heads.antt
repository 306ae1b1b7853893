-- The trees of values that only the parser has.
use Rattle.loop_syntax.specs.Tree.{table_of, func_of}
use Rattle.loop_parse.specs.declared.declaration.Decl.{Decl}
use Rattle.loop_parse.specs.declared.declaration.Decl.TheVariants as decls
use Rattle.loop_parse.specs.Grammar.{DeclTree, DTable, DFunc}

abbrev pub decl_of : Decl → DeclTree
decl_of (decls.Table t) = DTable (table_of t)
decl_of (decls.Func f) = DFunc (func_of f)
