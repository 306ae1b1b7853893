-- The grammar of programs: what each form is made of, and which tokens it is.
use Rattle.std.specs.Prelude.{◌≡◌, ℕ, suc, ℤ, List, [], ◌∷◌, ◌++◌, ◌≤◌, ◌<◌, length, take, drop}
use Rattle.tp_value.specs.declared.limits.TheConstants.{MAX_BLOCK_NESTING, MAX_EXPRESSION_TOKENS}
use Rattle.tp_value.specs.declared.values.Place.{Place}
use Rattle.tp_value.specs.declared.values.Op.{Op}
use Rattle.tp_value.specs.declared.values.Op.TheVariants as reducers
use Rattle.loop_syntax.specs.Tree.{Spelled, Tree, RVar, RInt, CarryTree, CRows, CCells, ReduceTree}
use Rattle.loop_syntax.specs.Tree.{AppTree, Node, NLet, NSet, NPut, NIf, NWhile, NLoop, NPar, NFold}
use Rattle.loop_syntax.specs.Tree.{NCall, NBoth, NPrint, NEmit, NLeave, Nodes, nodes, TableTree}
use Rattle.loop_syntax.specs.Tree.{TInput, TMade, FuncTree, ProgramTree}
use Rattle.loop_parse.specs.declared.terminal.Fixed.{Fixed}
use Rattle.loop_parse.specs.declared.terminal.Fixed.TheVariants.{Input, Table, Fn, Return, Main}
use Rattle.loop_parse.specs.declared.terminal.Fixed.TheVariants.{Let, If, Else, While, Loop, Par}
use Rattle.loop_parse.specs.declared.terminal.Fixed.TheVariants.{In, Carry, Reduce, By, Fold, With}
use Rattle.loop_parse.specs.declared.terminal.Fixed.TheVariants.{Call, Both, Print, Emit, Add, Mul}
use Rattle.loop_parse.specs.declared.terminal.Fixed.TheVariants.{Min, Max, Affine, Leave, OpenRound}
use Rattle.loop_parse.specs.declared.terminal.Fixed.TheVariants.{CloseRound, OpenBrace, CloseBrace}
use Rattle.loop_parse.specs.declared.terminal.Fixed.TheVariants.{OpenSquare, CloseSquare, Comma}
use Rattle.loop_parse.specs.declared.terminal.Fixed.TheVariants.{Semi, Assign, DotDot}
use Rattle.loop_parse.specs.Terms.{Token, Is, IsName, IsLiteral}
use Rattle.loop_parse.specs.Expressions.{IsExpr, BeginsExpr}

-- a declaration
pub data DeclTree : Type 0 where
  DTable : TableTree → DeclTree
  DFunc : FuncTree → DeclTree

-- the tables of declarations, in order
abbrev pub tables_in : List DeclTree → List TableTree
tables_in [] = []
tables_in (DTable t ∷ ds) = t ∷ tables_in ds
tables_in (DFunc f ∷ ds) = tables_in ds

-- the functions of declarations, in order
abbrev pub funcs_in : List DeclTree → List FuncTree
funcs_in [] = []
funcs_in (DTable t ∷ ds) = funcs_in ds
funcs_in (DFunc f ∷ ds) = f ∷ funcs_in ds

-- what the tokens of a program are, with their values. The number counts the blocks round a form.
pub data Item : Type 0 where
  The : Fixed → Item  -- a reserved word or a sign
  At : Fixed → Place → Item  -- one at this place
  AName : Spelled → Item
  ALiteral : ℤ → Item
  AnExpr : Tree → Item  -- an expression that isn't inside another one
  ABrace : ℕ → Item  -- the opening brace of a block inside this many
  AProgram : List DeclTree → Nodes → Item
  Decls : List DeclTree → Item
  ADecl : DeclTree → Item
  Params : List Spelled → Item
  MoreNames : List Spelled → Item
  ABlock : ℕ → Nodes → Item
  Stmts : ℕ → List Node → Item
  AStmt : ℕ → Node → Item
  Other : ℕ → Nodes → Item  -- the other block of an `if`
  CarryList : Place → Place → List CarryTree → Item  -- the place where it is left out, and its own
  MoreCarries : List CarryTree → Item
  ACarry : CarryTree → Item
  ReduceList : List ReduceTree → Item
  MoreReduces : List ReduceTree → Item
  AReduce : ReduceTree → Item
  AnOp : Op → Item
  AnApp : AppTree → Item
  Args : List Tree → Item
  MoreArgs : List Tree → Item

-- the forms, and what each is made of
pub data Makes : Item → List Item → Type 0 where
  -- program = { decl } "main" block
  program : {ds : List DeclTree} {b : Nodes} →
      Makes (AProgram ds b) (Decls ds ∷ The Main ∷ ABlock 0 b ∷ [])
  no_decl : Makes (Decls []) []
  decls : {d : DeclTree} {ds : List DeclTree} → Makes (Decls (d ∷ ds)) (ADecl d ∷ Decls ds ∷ [])
  -- decl = "input" name ";" | "table" name "[" expr "]" "[" expr "]" ";"
  input_decl : {x : Spelled} →
      Makes (ADecl (DTable (TInput x))) (The Input ∷ AName x ∷ The Semi ∷ [])
  table_decl : {x : Spelled} {a b : Tree} → Makes (ADecl (DTable (TMade x a b)))
      (The Table ∷ AName x ∷ The OpenSquare ∷ AnExpr a ∷ The CloseSquare ∷ The OpenSquare ∷ AnExpr b
      ∷ The CloseSquare ∷ The Semi ∷ [])
  -- | "fn" name "(" [ name { "," name } ] ")" "{" { stmt } "return" expr ";" "}"
  fn_decl : {x : Spelled} {ps : List Spelled} {ss : List Node} {e : Tree} →
      Makes (ADecl (DFunc (record { name = x; params = ps; body = nodes ss; value = e })))
      (The Fn ∷ AName x ∷ The OpenRound ∷ Params ps ∷ The CloseRound ∷ ABrace 0 ∷ Stmts 1 ss
      ∷ The Return ∷ AnExpr e ∷ The Semi ∷ The CloseBrace ∷ [])
  no_param : Makes (Params []) []
  params : {x : Spelled} {xs : List Spelled} → Makes (Params (x ∷ xs)) (AName x ∷ MoreNames xs ∷ [])
  no_name : Makes (MoreNames []) []
  names : {x : Spelled} {xs : List Spelled} →
      Makes (MoreNames (x ∷ xs)) (The Comma ∷ AName x ∷ MoreNames xs ∷ [])
  -- block = "{" { stmt } "}"
  block : {l : ℕ} {ss : List Node} →
      Makes (ABlock l (nodes ss)) (ABrace l ∷ Stmts (suc l) ss ∷ The CloseBrace ∷ [])
  no_stmt : {l : ℕ} → Makes (Stmts l []) []
  stmts : {l : ℕ} {s : Node} {ss : List Node} →
      Makes (Stmts l (s ∷ ss)) (AStmt l s ∷ Stmts l ss ∷ [])
  -- stmt = "let" name "=" expr ";" | name "=" expr ";"
  let_stmt : {l : ℕ} {x : Spelled} {e : Tree} →
      Makes (AStmt l (NLet x e)) (The Let ∷ AName x ∷ The Assign ∷ AnExpr e ∷ The Semi ∷ [])
  set_stmt : {l : ℕ} {x : Spelled} {e : Tree} →
      Makes (AStmt l (NSet x e)) (AName x ∷ The Assign ∷ AnExpr e ∷ The Semi ∷ [])
  -- | name "[" expr "]" "[" expr "]" "=" expr ";"
  put_stmt : {l : ℕ} {x : Spelled} {a b e : Tree} → Makes (AStmt l (NPut x a b e))
      (AName x ∷ The OpenSquare ∷ AnExpr a ∷ The CloseSquare ∷ The OpenSquare ∷ AnExpr b
      ∷ The CloseSquare ∷ The Assign ∷ AnExpr e ∷ The Semi ∷ [])
  -- | "if" expr block [ "else" block ] | "while" expr block
  if_stmt : {l : ℕ} {e : Tree} {b c : Nodes} →
      Makes (AStmt l (NIf e b c)) (The If ∷ AnExpr e ∷ ABlock l b ∷ Other l c ∷ [])
  while_stmt : {l : ℕ} {e : Tree} {b : Nodes} →
      Makes (AStmt l (NWhile e b)) (The While ∷ AnExpr e ∷ ABlock l b ∷ [])
  -- | "loop" name "in" expr ".." expr block
  loop_stmt : {l : ℕ} {x : Spelled} {a b : Tree} {c : Nodes} → Makes (AStmt l (NLoop x a b c))
      (The Loop ∷ AName x ∷ The In ∷ AnExpr a ∷ The DotDot ∷ AnExpr b ∷ ABlock l c ∷ [])
  -- | "par" name "in" expr ".." expr [ "carry" item { "," item } ] [ "reduce" red { "," red } ]
  -- block
  par_stmt : {l : ℕ} {p q : Place} {x : Spelled} {a b : Tree} {cs : List CarryTree}
      {rs : List ReduceTree} {c : Nodes} →
      Makes (AStmt l (NPar
      (record {
        place = p;
        var = x;
        from = a;
        to = b;
        carry_place = q;
        carries = cs;
        reduces = rs;
      })
      c))
      (At Par p ∷ AName x ∷ The In ∷ AnExpr a ∷ The DotDot ∷ AnExpr b ∷ CarryList p q cs
      ∷ ReduceList rs ∷ ABlock l c ∷ [])
  -- | "fold" name "with" expr ";" | "call" name "=" app ";" | "both" name "=" app "," name "=" app
  -- ";"
  fold_stmt : {l : ℕ} {x : Spelled} {e : Tree} →
      Makes (AStmt l (NFold x e)) (The Fold ∷ AName x ∷ The With ∷ AnExpr e ∷ The Semi ∷ [])
  call_stmt : {l : ℕ} {x : Spelled} {f : AppTree} →
      Makes (AStmt l (NCall x f)) (The Call ∷ AName x ∷ The Assign ∷ AnApp f ∷ The Semi ∷ [])
  both_stmt : {l : ℕ} {x y : Spelled} {f g : AppTree} → Makes (AStmt l (NBoth x f y g))
      (The Both ∷ AName x ∷ The Assign ∷ AnApp f ∷ The Comma ∷ AName y ∷ The Assign ∷ AnApp g
      ∷ The Semi ∷ [])
  -- | "print" expr ";" | "emit" name ";"
  print_stmt : {l : ℕ} {p : Place} {e : Tree} →
      Makes (AStmt l (NPrint p e)) (At Print p ∷ AnExpr e ∷ The Semi ∷ [])
  emit_stmt : {l : ℕ} {p : Place} {x : Spelled} →
      Makes (AStmt l (NEmit p x)) (At Emit p ∷ AName x ∷ The Semi ∷ [])
  -- | "leave" name "=" expr ";"
  leave_stmt : {l : ℕ} {x : Spelled} {e : Tree} →
      Makes (AStmt l (NLeave x e)) (The Leave ∷ AName x ∷ The Assign ∷ AnExpr e ∷ The Semi ∷ [])
  no_other : {l : ℕ} → Makes (Other l (nodes [])) []
  other : {l : ℕ} {b : Nodes} → Makes (Other l b) (The Else ∷ ABlock l b ∷ [])
  no_carry : {p q : Place} → q ≡ p → Makes (CarryList p q []) []
  carries : {p q : Place} {c : CarryTree} {cs : List CarryTree} →
      Makes (CarryList p q (c ∷ cs)) (At Carry q ∷ ACarry c ∷ MoreCarries cs ∷ [])
  no_more_carry : Makes (MoreCarries []) []
  more_carries : {c : CarryTree} {cs : List CarryTree} →
      Makes (MoreCarries (c ∷ cs)) (The Comma ∷ ACarry c ∷ MoreCarries cs ∷ [])
  -- item = name "[" name "]" | name "[" ( name | literal ) "]" "[" name "]"
  rows_item : {t i : Spelled} →
      Makes (ACarry (CRows t i)) (AName t ∷ The OpenSquare ∷ AName i ∷ The CloseSquare ∷ [])
  cells_item : {t k j : Spelled} → Makes (ACarry (CCells t (RVar k) j))
      (AName t ∷ The OpenSquare ∷ AName k ∷ The CloseSquare ∷ The OpenSquare ∷ AName j
      ∷ The CloseSquare ∷ [])
  literal_item : {t j : Spelled} {n : ℤ} → Makes (ACarry (CCells t (RInt n) j))
      (AName t ∷ The OpenSquare ∷ ALiteral n ∷ The CloseSquare ∷ The OpenSquare ∷ AName j
      ∷ The CloseSquare ∷ [])
  no_reduce : Makes (ReduceList []) []
  reduces : {r : ReduceTree} {rs : List ReduceTree} →
      Makes (ReduceList (r ∷ rs)) (The Reduce ∷ AReduce r ∷ MoreReduces rs ∷ [])
  no_more_reduce : Makes (MoreReduces []) []
  more_reduces : {r : ReduceTree} {rs : List ReduceTree} →
      Makes (MoreReduces (r ∷ rs)) (The Comma ∷ AReduce r ∷ MoreReduces rs ∷ [])
  -- red = name "by" ( "add" | "mul" | "min" | "max" | "affine" )
  red : {x : Spelled} {o : Op} →
      Makes (AReduce (record { target = x; op = o })) (AName x ∷ The By ∷ AnOp o ∷ [])
  add_op : Makes (AnOp reducers.Add) (The Add ∷ [])
  mul_op : Makes (AnOp reducers.Mul) (The Mul ∷ [])
  min_op : Makes (AnOp reducers.Min) (The Min ∷ [])
  max_op : Makes (AnOp reducers.Max) (The Max ∷ [])
  affine_op : Makes (AnOp reducers.Affine) (The Affine ∷ [])
  -- app = name "(" [ expr { "," expr } ] ")"
  app : {x : Spelled} {es : List Tree} →
      Makes (AnApp (record { callee = x; args = es }))
      (AName x ∷ The OpenRound ∷ Args es ∷ The CloseRound ∷ [])
  no_arg : Makes (Args []) []
  args : {e : Tree} {es : List Tree} → Makes (Args (e ∷ es)) (AnExpr e ∷ MoreArgs es ∷ [])
  no_more_arg : Makes (MoreArgs []) []
  more_args : {e : Tree} {es : List Tree} →
      Makes (MoreArgs (e ∷ es)) (The Comma ∷ AnExpr e ∷ MoreArgs es ∷ [])

mutual
  -- the tokens, up to the rest, are this item
  pub data Fits : Item → List Token → List Token → Type 0 where
    the : {s : Fixed} {t : Token} {rest : List Token} → Is s t → Fits (The s) (t ∷ rest) rest
    at_place : {s : Fixed} {t : Token} {rest : List Token} → Is s t →
        Fits (At s t.place) (t ∷ rest) rest
    a_name : {x : Spelled} {t : Token} {rest : List Token} → IsName t x →
        Fits (AName x) (t ∷ rest) rest
    a_literal : {n : ℤ} {t : Token} {rest : List Token} → IsLiteral t n →
        Fits (ALiteral n) (t ∷ rest) rest
    an_expr : {e : Tree} {ts rest : List Token} → IsExpr ts e rest → Fits (AnExpr e) ts rest
    a_brace : {l : ℕ} {t : Token} {rest : List Token} → Is OpenBrace t →
        Fits (ABrace l) (t ∷ rest) rest
    by : {item : Item} {parts : List Item} {ts rest : List Token} → Makes item parts →
        FitAll parts ts rest → Fits item ts rest

  -- the tokens, up to the rest, are these items one after another
  pub data FitAll : List Item → List Token → List Token → Type 0 where
    none : {ts : List Token} → FitAll [] ts ts
    next_item : {item : Item} {items : List Item} {ts mid rest : List Token} → Fits item ts mid →
        FitAll items mid rest → FitAll (item ∷ items) ts rest

-- the tree of a program: its tables and its functions are kept apart, each in order
abbrev pub tree_from : List DeclTree → Nodes → ProgramTree
tree_from ds b = record { tables = tables_in ds; funcs = funcs_in ds; main = b }

-- the whole list of tokens is a program, with this tree
pub record IsProgram (ts : List Token) (p : ProgramTree) : Type 0 where
  pub decls : List DeclTree
  pub body : Nodes
  pub fits : Fits (AProgram decls body) ts []
  pub tree : p ≡ tree_from decls body

-- some further tokens, or none, make it a program
abbrev pub Begins : List Token → Type 0
Begins ts = (more : List Token) × (p : ProgramTree) × IsProgram (ts ++ more) p

-- no program continues at the tokens that are left: those before begin a program, and with the next
-- one they don't; or all tokens begin a program and aren't one
abbrev pub NoneContinues : List Token → List Token → Type 0
NoneContinues front [] = (p : ProgramTree) → IsProgram front p → ⊥
NoneContinues front (t ∷ rest) = Begins (front ++ t ∷ []) → ⊥

-- where a list of tokens first isn't of the form
pub record FormFault (ts rest : List Token) : Type 0 where
  pub front : List Token
  pub split : ts ≡ front ++ rest
  pub begins : Begins front
  pub stuck : NoneContinues front rest

mutual
  -- where the tokens, up to the second list, begin the first item, and the second item comes next
  pub data Comes : Item → List Token → Item → List Token → Type 0 where
    here : {item : Item} {ts : List Token} → Comes item ts item ts
    inside : {item what : Item} {parts : List Item} {ts us : List Token} → Makes item parts →
        ComesIn parts ts what us → Comes item ts what us

  pub data ComesIn : List Item → List Token → Item → List Token → Type 0 where
    in_first : {item what : Item} {items : List Item} {ts us : List Token} → Comes item ts what us →
        ComesIn (item ∷ items) ts what us
    in_later : {item what : Item} {items : List Item} {ts mid us : List Token} → Fits item ts mid →
        ComesIn items mid what us → ComesIn (item ∷ items) ts what us

-- what comes at these tokens is too deep, at the second list: the first token past the limit, where
-- the tokens up to it begin an expression, or the brace of a block inside as many as there may be
pub data IsTooDeep : Item → List Token → List Token → Type 0 where
  long_expr : {e : Tree} {ts us : List Token} → MAX_EXPRESSION_TOKENS < length ts →
      BeginsExpr (take (suc MAX_EXPRESSION_TOKENS) ts) → us ≡ drop MAX_EXPRESSION_TOKENS ts →
      IsTooDeep (AnExpr e) ts us
  deep_brace : {l : ℕ} {t : Token} {rest us : List Token} → MAX_BLOCK_NESTING ≤ l →
      Is OpenBrace t → us ≡ t ∷ rest → IsTooDeep (ABrace l) (t ∷ rest) us

-- something too deep comes in the item
pub record DeepIn (item : Item) (ts us : List Token) : Type 0 where
  pub what : Item
  pub at : List Token
  pub comes : Comes item ts what at
  pub is_deep : IsTooDeep what at us

-- where something in a list of tokens is too deep
abbrev pub DeepFault : List Token → List Token → Type 0
DeepFault ts us = (ds : List DeclTree) × (b : Nodes) × DeepIn (AProgram ds b) ts us
