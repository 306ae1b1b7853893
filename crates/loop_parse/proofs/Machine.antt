-- A machine that goes over the tokens, with a stack of what it waits for. It says at which token no program
-- continues, and what would complete one.
use Rattle.std.proofs.Common.{List, [], ◌∷◌, ◌++◌, Option, Some, None, Bool, true, false, ◌&&◌}
use Rattle.std.proofs.Common.{if◌then◌else◌}
use Rattle.tp_value.specs.declared.values.Op.{Op}
use Rattle.loop_parse.specs.declared.terminal.Fixed.{Fixed}
use Rattle.loop_parse.specs.declared.terminal.Fixed.TheVariants.{Input, Table, Fn, Return, Let, If}
use Rattle.loop_parse.specs.declared.terminal.Fixed.TheVariants.{Else, While, Loop, Par, In, Carry}
use Rattle.loop_parse.specs.declared.terminal.Fixed.TheVariants.{Reduce, By, Fold, With, Call, Both}
use Rattle.loop_parse.specs.declared.terminal.Fixed.TheVariants.{Print, Emit, Leave, Rows, Cols}
use Rattle.loop_parse.specs.declared.terminal.Fixed.TheVariants.{OpenRound}
use Rattle.loop_parse.specs.declared.terminal.Fixed.TheVariants.{CloseRound, OpenBrace, CloseBrace}
use Rattle.loop_parse.specs.declared.terminal.Fixed.TheVariants.{OpenSquare, CloseSquare, Comma}
use Rattle.loop_parse.specs.declared.terminal.Fixed.TheVariants.{Semi, Assign, Minus, DotDot}
use Rattle.loop_parse.specs.Terms as kinds
use Rattle.loop_parse.specs.Terms.{Kind, Token}
use Rattle.loop_parse.specs.Reading.{is_fixed, compare_op_of, sum_op_of, product_op_of, reducer_of}

-- what is waited for; the names that end in Rest, Stmts, Decls, Params, Args, the lists and More may be left out
pub data Symbol : Type 0 where
  Want : Fixed → Symbol
  AName : Symbol
  Unary : Symbol
  NameRest : Symbol
  ProductRest : Symbol
  SumRest : Symbol
  CompareRest : Symbol
  Stmt : Symbol
  Stmts : Symbol
  AssignRest : Symbol
  ElseRest : Symbol
  Args : Symbol
  MoreArgs : Symbol
  Params : Symbol
  MoreNames : Symbol
  Row : Symbol
  ColumnRest : Symbol
  CarryList : Symbol
  MoreCarries : Symbol
  ReduceList : Symbol
  MoreReduces : Symbol
  Reducer : Symbol
  Decl : Symbol
  Decls : Symbol

-- what a symbol does with a token: takes it and waits for more, is left out, or refuses it
pub data Move : Type 0 where
  Take : List Symbol → Move
  Skip : Move
  Refuse : Move

abbrev pub an_expr : List Symbol → List Symbol
an_expr st = Unary ∷ ProductRest ∷ SumRest ∷ CompareRest ∷ st

abbrev pub a_block : List Symbol → List Symbol
a_block st = Want OpenBrace ∷ Stmts ∷ Want CloseBrace ∷ st

abbrev pub an_app : List Symbol → List Symbol
an_app st = AName ∷ Want OpenRound ∷ Args ∷ Want CloseRound ∷ st

abbrev pub a_carry : List Symbol → List Symbol
a_carry st = AName ∷ Want OpenSquare ∷ Row ∷ st

abbrev pub a_column : List Symbol → List Symbol
a_column st = Want OpenSquare ∷ AName ∷ Want CloseSquare ∷ st

abbrev pub a_reduce : List Symbol → List Symbol
a_reduce st = AName ∷ Want By ∷ Reducer ∷ st

abbrev pub fixed_move : Fixed → List Symbol → Move
fixed_move OpenRound more = Take (an_expr (Want CloseRound ∷ more))
fixed_move Rows more = Take (Want OpenRound ∷ AName ∷ Want CloseRound ∷ more)
fixed_move Cols more = Take (Want OpenRound ∷ AName ∷ Want CloseRound ∷ more)
fixed_move _ more = Refuse

abbrev pub primary_move : Kind → List Symbol → Move
primary_move (kinds.Literal n) more = Take more
primary_move (kinds.Name x) more = Take (NameRest ∷ more)
primary_move (kinds.Spelling s) more = fixed_move s more

abbrev pub unary_move : Kind → List Symbol → Move
unary_move k more = if is_fixed Minus k then Take (Unary ∷ more) else primary_move k more

abbrev pub rest_move : {A : Type 0} → Option A → List Symbol → Move
rest_move None more = Skip
rest_move (Some o) more = Take more

abbrev pub name_move : Kind → Move
name_move (kinds.Name x) = Take []
name_move (kinds.Literal n) = Refuse
name_move (kinds.Spelling s) = Refuse

-- a statement, and what is waited for after it
abbrev pub word_move : Fixed → List Symbol → Move
word_move Let more = Take (AName ∷ Want Assign ∷ an_expr (Want Semi ∷ more))
word_move If more = Take (an_expr (a_block (ElseRest ∷ more)))
word_move While more = Take (an_expr (a_block more))
word_move Loop more = Take (AName ∷ Want In ∷ an_expr (Want DotDot ∷ an_expr (a_block more)))
word_move Par more = Take (AName ∷ Want In ∷ an_expr (Want DotDot ∷ an_expr (CarryList ∷ ReduceList ∷ a_block more)))
word_move Fold more = Take (AName ∷ Want With ∷ an_expr (Want Semi ∷ more))
word_move Call more = Take (AName ∷ Want Assign ∷ an_app (Want Semi ∷ more))
word_move Both more = Take (AName ∷ Want Assign ∷ an_app (Want Comma ∷ AName ∷ Want Assign ∷ an_app (Want Semi ∷ more)))
word_move Print more = Take (an_expr (Want Semi ∷ more))
word_move Emit more = Take (AName ∷ Want Semi ∷ more)
word_move Leave more = Take (AName ∷ Want Assign ∷ an_expr (Want Semi ∷ more))
word_move _ more = Refuse

abbrev pub stmt_move : Kind → List Symbol → Move
stmt_move (kinds.Spelling s) more = word_move s more
stmt_move (kinds.Name x) more = Take (AssignRest ∷ more)
stmt_move (kinds.Literal n) more = Refuse

abbrev pub assign_fixed : Fixed → Move
assign_fixed Assign = Take (an_expr (Want Semi ∷ []))
assign_fixed OpenSquare = Take (an_expr (Want CloseSquare ∷ Want OpenSquare ∷ an_expr (Want CloseSquare ∷ Want Assign ∷ an_expr (Want Semi ∷ []))))
assign_fixed _ = Refuse

abbrev pub assign_move : Kind → Move
assign_move (kinds.Spelling s) = assign_fixed s
assign_move (kinds.Name x) = Refuse
assign_move (kinds.Literal n) = Refuse

abbrev pub row_move : Kind → Move
row_move (kinds.Name x) = Take (Want CloseSquare ∷ ColumnRest ∷ [])
row_move (kinds.Literal n) = Take (Want CloseSquare ∷ a_column [])
row_move (kinds.Spelling s) = Refuse

abbrev pub reducer_move : Option Op → Move
reducer_move None = Refuse
reducer_move (Some o) = Take []

abbrev pub decl_fixed : Fixed → List Symbol → Move
decl_fixed Input more = Take (AName ∷ Want Semi ∷ more)
decl_fixed Table more = Take (AName ∷ Want OpenSquare ∷ an_expr (Want CloseSquare ∷ Want OpenSquare ∷ an_expr (Want CloseSquare ∷ Want Semi ∷ more)))
decl_fixed Fn more = Take (AName ∷ Want OpenRound ∷ Params ∷ Want CloseRound ∷ Want OpenBrace ∷ Stmts ∷ Want Return ∷ an_expr (Want Semi ∷ Want CloseBrace ∷ more))
decl_fixed _ more = Refuse

abbrev pub decl_move : Kind → List Symbol → Move
decl_move (kinds.Spelling s) more = decl_fixed s more
decl_move (kinds.Name x) more = Refuse
decl_move (kinds.Literal n) more = Refuse

-- what may be left out is left out where it would be refused
abbrev pub or_skip : Move → Move
or_skip (Take more) = Take more
or_skip Skip = Skip
or_skip Refuse = Skip

abbrev pub on_fixed : Fixed → Kind → List Symbol → Move
on_fixed s k more = if is_fixed s k then Take more else Skip

abbrev pub if_name : Kind → List Symbol → Move
if_name (kinds.Name x) more = Take more
if_name (kinds.Literal n) more = Refuse
if_name (kinds.Spelling s) more = Refuse

abbrev pub step : Symbol → Kind → Move
step (Want s) k = if is_fixed s k then Take [] else Refuse
step AName k = name_move k
step Unary k = unary_move k []
step NameRest k = on_fixed OpenSquare k (an_expr (Want CloseSquare ∷ Want OpenSquare ∷ an_expr (Want CloseSquare ∷ [])))
step ProductRest k = rest_move (product_op_of k) (Unary ∷ ProductRest ∷ [])
step SumRest k = rest_move (sum_op_of k) (Unary ∷ ProductRest ∷ SumRest ∷ [])
step CompareRest k = rest_move (compare_op_of k) (Unary ∷ ProductRest ∷ SumRest ∷ [])
step Stmt k = stmt_move k []
step Stmts k = or_skip (stmt_move k (Stmts ∷ []))
step AssignRest k = assign_move k
step ElseRest k = on_fixed Else k (a_block [])
step Args k = if is_fixed CloseRound k then Skip else unary_move k (ProductRest ∷ SumRest ∷ CompareRest ∷ MoreArgs ∷ [])
step MoreArgs k = on_fixed Comma k (an_expr (MoreArgs ∷ []))
step Params k = if is_fixed CloseRound k then Skip else (if_name k (MoreNames ∷ []))
step MoreNames k = on_fixed Comma k (AName ∷ MoreNames ∷ [])
step Row k = row_move k
step ColumnRest k = on_fixed OpenSquare k (AName ∷ Want CloseSquare ∷ [])
step CarryList k = on_fixed Carry k (a_carry (MoreCarries ∷ []))
step MoreCarries k = on_fixed Comma k (a_carry (MoreCarries ∷ []))
step ReduceList k = on_fixed Reduce k (a_reduce (MoreReduces ∷ []))
step MoreReduces k = on_fixed Comma k (a_reduce (MoreReduces ∷ []))
step Reducer k = reducer_move (reducer_of k)
step Decl k = decl_move k []
step Decls k = or_skip (decl_move k (Decls ∷ []))

abbrev pub moved : Move → Option (List Symbol) → List Symbol → Option (List Symbol)
moved (Take more) below st = Some (more ++ st)
moved Skip below st = below
moved Refuse below st = None

-- the stack after a token, or none where no symbol takes it
abbrev pub offer : List Symbol → Kind → Option (List Symbol)
offer [] k = None
offer (s ∷ st) k = moved (step s k) (offer st k) st

-- whether the symbol may be left out at the end of the tokens
abbrev pub may_end : Symbol → Bool
may_end (Want s) = false
may_end AName = false
may_end Unary = false
may_end Stmt = false
may_end AssignRest = false
may_end Row = false
may_end Reducer = false
may_end Decl = false
may_end Args = false
may_end Params = false
may_end _ = true

abbrev pub finished : List Symbol → Bool
finished [] = true
finished (s ∷ st) = may_end s && finished st

-- the tokens that are left where the machine stops, or none where it takes all and may end there
abbrev pub run : List Symbol → List Token → Option (List Token)
run st [] = if finished st then None else Some []
run st (t ∷ ts) = elim (offer st t.kind) [ None ↦ Some (t ∷ ts) | Some more ↦ run more ts ]
