-- The program of a text is counted with at most 64 blocks for each of its bytes.
use Rattle.std.proofs.Common.{ℕ, ◌+◌, ◌*◌, ◌≤◌, List, [], ◌∷◌, length, arith, sym, subst}
use Rattle.std.proofs.lemmas.List.{length-append, length-map}
use Rattle.std.proofs.lemmas.List.Sums.{sum_by-cons}
use Rattle.std.specs.Prelude.{Ok, Err}
use Rattle.std.specs.List.{sum_by}
use Rattle.loop_lex.specs.declared.token.Token as lexed
use Rattle.loop_lex.specs.Lexical.{ReadsAs, Reading, IsForm, before}
use Rattle.loop_lex.specs.Lexical as lexical
use Rattle.loop_syntax.specs.declared.program.Program.{Program}
use Rattle.loop_syntax.specs.Tree.{Tree, ProgramTree, nodes, program_of}
use Rattle.loop_parse.specs.Expressions.{IsExpr, IsSum, IsProduct, IsUnary, IsPrimary}
use Rattle.loop_parse.specs.Expressions as expr
use Rattle.loop_parse.specs.Grammar as grammar
use Rattle.loop_parse.specs.Grammar.{DeclTree, DTable, DFunc, tables_in, funcs_in, Item, The, At}
use Rattle.loop_parse.specs.Grammar.{AName, ALiteral, AnExpr, ABrace, AProgram, Decls, ADecl}
use Rattle.loop_parse.specs.Grammar.{Params, MoreNames, ABlock, Stmts, AStmt, Other, CarryList}
use Rattle.loop_parse.specs.Grammar.{MoreCarries, ACarry, ReduceList, MoreReduces, AReduce, AnOp}
use Rattle.loop_parse.specs.Grammar.{AnApp, Args, MoreArgs, Makes, Fits, FitAll, IsProgram}
use Rattle.loop_parse.specs.Terms.{Token, token_of}
use Rattle.loop_parse.specs.Text.{Reads}
use Rattle.scene_laws.specs.Count.{blocks_of_program}
use Rattle.scene_laws.proofs.Counts.TreeBlocks.{nodes_tree, in_tree, in_trees, in_node, in_nodes}
use Rattle.scene_laws.proofs.Counts.TreeBlocks.{in_func}
use Rattle.scene_laws.proofs.Counts.TreeBlocks.{in_table, in_program, program_same}

-- ---- a text has at most as many tokens as bytes

abbrev many : Reading → ℕ
many (Ok tokens) = length tokens
many (Err fault) = 0

many_before : (t : lexed.Token) (read : Reading) → many (before t read) ≤ 1 + many read
many_before t (Ok tokens) = omega arith
many_before t (Err fault) = omega arith

some_byte : {form : lexical.Form} {bytes : List ℕ} → IsForm form bytes → 1 ≤ length bytes
some_byte (lexical.word first others) = omega arith
some_byte (lexical.literal first others) = omega arith
some_byte (lexical.single is) = omega arith
some_byte (lexical.double is) = omega arith

few_tokens : {front text : List ℕ} {read : Reading} → ReadsAs front text read
    → many read ≤ length text
few_tokens lexical.at_end = omega arith
few_tokens (lexical.blank is behind) = let few = few_tokens behind in omega arith
few_tokens (lexical.comment {front} {bytes} {rest} is behind) =
    let few = few_tokens behind in
    let all = length-append bytes rest in
    omega arith
few_tokens (lexical.token {front} {bytes} {rest} {form} {kind} {read} longest is behind) =
    let few = few_tokens behind in
    let all = length-append bytes rest in
    let some = some_byte longest.is_form in
    let one_more = many_before (lexical.token_after front bytes kind) read in
    omega arith
few_tokens (lexical.bad_byte is) = omega arith
few_tokens (lexical.too_large rest longest large) = omega arith

-- ---- an expression has at most as many nodes as tokens

mutual
  expr_few : {ts rest : List Token} {e : Tree} → IsExpr ts e rest
      → nodes_tree e + length rest ≤ length ts
  expr_few (expr.plain sum) = sum_few sum
  expr_few (expr.compare left is op right) =
      let first = sum_few left in
      let second = sum_few right in
      omega arith

  sum_few : {ts rest : List Token} {e : Tree} → IsSum ts e rest
      → nodes_tree e + length rest ≤ length ts
  sum_few (expr.one product) = product_few product
  sum_few (expr.more left is op right) =
      let first = sum_few left in
      let second = product_few right in
      omega arith

  product_few : {ts rest : List Token} {e : Tree} → IsProduct ts e rest
      → nodes_tree e + length rest ≤ length ts
  product_few (expr.factor unary) = unary_few unary
  product_few (expr.times left is op right) =
      let first = product_few left in
      let second = unary_few right in
      omega arith

  unary_few : {ts rest : List Token} {e : Tree} → IsUnary ts e rest
      → nodes_tree e + length rest ≤ length ts
  unary_few (expr.primary prim) = primary_few prim
  unary_few (expr.negated is unary) = let inner = unary_few unary in omega arith

  primary_few : {ts rest : List Token} {e : Tree} → IsPrimary ts e rest
      → nodes_tree e + length rest ≤ length ts
  primary_few (expr.literal is) = omega arith
  primary_few (expr.variable is) = omega arith
  primary_few (expr.cell named opened row closed opens col closes) =
      let first = expr_few row in
      let second = expr_few col in
      omega arith
  primary_few (expr.rows w opened named closed) = omega arith
  primary_few (expr.cols w opened named closed) = omega arith
  primary_few (expr.bracketed opened inside closed) = let inner = expr_few inside in omega arith

-- ---- each form is counted with at most 64 blocks for each of its tokens

abbrev of_decls : List DeclTree → ℕ
of_decls ds = sum_by in_table (tables_in ds) + sum_by in_func (funcs_in ds)

abbrev weight : Item → ℕ
weight (The s) = 64
weight (At s place) = 64
weight (AName x) = 64
weight (ALiteral n) = 64
weight (AnExpr e) = in_tree e
weight (ABrace l) = 64
weight (AProgram ds b) = 8 + of_decls ds + in_nodes b
weight (Decls ds) = of_decls ds
weight (ADecl (DTable t)) = in_table t
weight (ADecl (DFunc f)) = in_func f
weight (Params xs) = 0
weight (MoreNames xs) = 0
weight (ABlock l b) = in_nodes b
weight (Stmts l ss) = in_nodes (nodes ss)
weight (AStmt l s) = in_node s
weight (Other l b) = in_nodes b
weight (CarryList p q cs) = 0
weight (MoreCarries cs) = 0
weight (ACarry c) = 0
weight (ReduceList rs) = 0
weight (MoreReduces rs) = 0
weight (AReduce r) = 0
weight (AnOp o) = 0
weight (AnApp f) = in_trees f.args
weight (Args es) = in_trees es
weight (MoreArgs es) = in_trees es

abbrev weights : List Item → ℕ
weights [] = 0
weights (i ∷ is) = weight i + weights is

decls_few : (d : DeclTree) (ds : List DeclTree)
    → of_decls (d ∷ ds) ≤ weights (ADecl d ∷ Decls ds ∷ [])
decls_few (DTable t) ds = let sum = sum_by-cons in_table t (tables_in ds) in omega arith
decls_few (DFunc f) ds = let sum = sum_by-cons in_func f (funcs_in ds) in omega arith

made_few : {item : Item} {parts : List Item} → Makes item parts → weight item ≤ weights parts
made_few grammar.program = omega arith
made_few grammar.no_decl = omega arith
made_few (grammar.decls {d} {ds}) = decls_few d ds
made_few grammar.input_decl = omega arith
made_few grammar.table_decl = omega arith
made_few grammar.fn_decl = omega arith
made_few grammar.no_param = omega arith
made_few grammar.params = omega arith
made_few grammar.no_name = omega arith
made_few grammar.names = omega arith
made_few grammar.block = omega arith
made_few grammar.no_stmt = omega arith
made_few grammar.stmts = omega arith
made_few grammar.let_stmt = omega arith
made_few grammar.set_stmt = omega arith
made_few grammar.put_stmt = omega arith
made_few grammar.if_stmt = omega arith
made_few grammar.while_stmt = omega arith
made_few grammar.loop_stmt = omega arith
made_few grammar.par_stmt = omega arith
made_few grammar.fold_stmt = omega arith
made_few grammar.call_stmt = omega arith
made_few grammar.both_stmt = omega arith
made_few grammar.print_stmt = omega arith
made_few grammar.emit_stmt = omega arith
made_few grammar.leave_stmt = omega arith
made_few grammar.no_other = omega arith
made_few grammar.other = omega arith
made_few (grammar.no_carry is) = omega arith
made_few grammar.carries = omega arith
made_few grammar.no_more_carry = omega arith
made_few grammar.more_carries = omega arith
made_few grammar.rows_item = omega arith
made_few grammar.cells_item = omega arith
made_few grammar.literal_item = omega arith
made_few grammar.no_reduce = omega arith
made_few grammar.reduces = omega arith
made_few grammar.no_more_reduce = omega arith
made_few grammar.more_reduces = omega arith
made_few grammar.red = omega arith
made_few grammar.add_op = omega arith
made_few grammar.mul_op = omega arith
made_few grammar.min_op = omega arith
made_few grammar.max_op = omega arith
made_few grammar.affine_op = omega arith
made_few grammar.app = omega arith
made_few grammar.no_arg = omega arith
made_few (grammar.args {e} {es}) = let sum = sum_by-cons in_tree e es in omega arith
made_few grammar.no_more_arg = omega arith
made_few (grammar.more_args {e} {es}) = let sum = sum_by-cons in_tree e es in omega arith

mutual
  item_few : {item : Item} {ts rest : List Token} → Fits item ts rest
      → weight item + 64 * length rest ≤ 64 * length ts
  item_few (grammar.the is) = omega arith
  item_few (grammar.at_place is) = omega arith
  item_few (grammar.a_name is) = omega arith
  item_few (grammar.a_literal is) = omega arith
  item_few (grammar.an_expr is) = let few = expr_few is in omega arith
  item_few (grammar.a_brace is) = omega arith
  item_few (grammar.by makes fit) =
      let made = made_few makes in
      let few = items_few fit in
      omega arith

  items_few : {items : List Item} {ts rest : List Token} → FitAll items ts rest
      → weights items + 64 * length rest ≤ 64 * length ts
  items_few grammar.none = omega arith
  items_few (grammar.next_item fits fit) =
      let first = item_few fits in
      let others = items_few fit in
      omega arith

-- ---- a text

program_few : {ts : List Token} {p : ProgramTree} → IsProgram ts p → in_program p ≤ 64 * length ts
program_few {ts} is =
    subst (λ (q : ProgramTree). in_program q ≤ 64 * length ts) (sym is.tree)
    (let few = item_few is.fits in omega arith)

-- a program with the tree of a text
pub few_blocks_of : (source : List ℕ) (p : Program) → Reads source (program_of p)
    → blocks_of_program p ≤ 64 * length source
few_blocks_of source p reads =
    let few = few_tokens reads.lexed in
    let as_many = length-map reads.tokens (token_of source) in
    let counted = program_few reads.is_program in
    let same = program_same p in
    omega arith
