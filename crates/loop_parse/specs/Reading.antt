-- What the parser reads, as functions on lists of tokens. Each answers a value with the tokens
-- after it, or the tokens that are left where reading stops. The number bounds how deep and how
-- often a reading goes on; a number from the length of the list on is enough.
use Rattle.std.specs.Prelude.{◌≡◌, ℕ, zero, suc, List, [], ◌∷◌, ◌++◌, ◌-◌, ◌&&◌, length, take, drop}
use Rattle.std.specs.Prelude.{nat_le, true, Option, Some, None, Result, Ok, Err, Bool, false}
use Rattle.std.specs.Prelude.{nat_eq, if◌then◌else◌}
use Rattle.tp_value.specs.declared.limits.TheConstants.{MAX_BLOCK_NESTING, MAX_EXPRESSION_TOKENS}
use Rattle.tp_value.specs.declared.values.Place.{Place}
use Rattle.tp_value.specs.declared.values.Op.{Op}
use Rattle.tp_value.specs.declared.values.Op.TheVariants as reducers
use Rattle.loop_syntax.specs.declared.expression.BinOp.{BinOp}
use Rattle.loop_syntax.specs.Tree.{Spelled, Tree, TInt, TVar, TCell, TRows, TCols, TNeg, TBin}
use Rattle.loop_syntax.specs.Tree.{RowTree, RVar, RInt, CarryTree, CRows, CCells, ReduceTree}
use Rattle.loop_syntax.specs.Tree.{AppTree, Node, NLet, NSet, NPut, NIf, NWhile, NLoop, NPar, NFold}
use Rattle.loop_syntax.specs.Tree.{NCall, NBoth, NPrint, NEmit, NLeave, Nodes, Last, nodes, TInput}
use Rattle.loop_syntax.specs.Tree.{TMade, ProgramTree}
use Rattle.loop_parse.specs.declared.terminal.Fixed.{Fixed}
use Rattle.loop_parse.specs.declared.terminal.Fixed.TheVariants.{Input, Table, Fn, Return, Main}
use Rattle.loop_parse.specs.declared.terminal.Fixed.TheVariants.{Let, If, Else, While, Loop, Par}
use Rattle.loop_parse.specs.declared.terminal.Fixed.TheVariants.{In, Carry, Reduce, By, Fold, With}
use Rattle.loop_parse.specs.declared.terminal.Fixed.TheVariants.{Call, Both, Print, Emit, Rows}
use Rattle.loop_parse.specs.declared.terminal.Fixed.TheVariants.{Cols, Add, Mul, Min, Max, Affine}
use Rattle.loop_parse.specs.declared.terminal.Fixed.TheVariants.{Leave, OpenRound, CloseRound}
use Rattle.loop_parse.specs.declared.terminal.Fixed.TheVariants.{OpenBrace, CloseBrace, OpenSquare}
use Rattle.loop_parse.specs.declared.terminal.Fixed.TheVariants.{CloseSquare, Comma, Semi, Assign}
use Rattle.loop_parse.specs.declared.terminal.Fixed.TheVariants.{Plus, Minus, Star, Slash, Percent}
use Rattle.loop_parse.specs.declared.terminal.Fixed.TheVariants.{Same, Differs, Less, AtMost}
use Rattle.loop_parse.specs.declared.terminal.Fixed.TheVariants.{Greater, AtLeast, DotDot}
use Rattle.loop_parse.specs.declared.reader.Unparsed.{Unparsed}
use Rattle.loop_parse.specs.declared.reader.Unparsed.TheVariants as halts
use Rattle.loop_parse.specs.Terms.{Kind, Literal, Name, Spelling, Token, seen}
use Rattle.loop_parse.specs.Expressions.{compare_fixed, sum_fixed, product_fixed}
use Rattle.loop_parse.specs.Grammar.{DeclTree, DTable, DFunc, tables_in, funcs_in}

pub data Fault : Type 0 where
  Form : List Token → Fault
  Deep : List Token → Fault

abbrev pub Reply : Type 0 → Type 0
Reply A = Result (A × List Token) Fault

abbrev pub Reader : Type 0 → Type 0
Reader A = List Token → Reply A

infixl 10 ◌>>=◌
abbrev pub ◌>>=◌ : {A B : Type 0} → Result A Fault → (A → Result B Fault) → Result B Fault
(Ok x) >>= f = f x
(Err e) >>= f = Err e

-- what a function returned, seen by view, is what reading gives, unless memory ran out
abbrev pub Fails : {Y : Type 0} → List ℕ → Unparsed → Result Y Fault → Type 0
Fails source (halts.Form rest) read = read ≡ Err (Form (seen source rest.now))
Fails source (halts.Deep rest) read = read ≡ Err (Deep (seen source rest.now))
Fails source halts.NoMemory read = Unit {0}

abbrev pub Gives : {X Y : Type 0} → List ℕ → (X → Y) → Result X Unparsed → Result Y Fault → Type 0
Gives source view (Ok x) read = read ≡ Ok (view x)
Gives source view (Err e) read = Fails source e read

-- the number of a word or sign
abbrev pub tag : Fixed → ℕ
tag Input = 0
tag Table = 1
tag Fn = 2
tag Return = 3
tag Main = 4
tag Let = 5
tag If = 6
tag Else = 7
tag While = 8
tag Loop = 9
tag Par = 10
tag In = 11
tag Carry = 12
tag Reduce = 13
tag By = 14
tag Fold = 15
tag With = 16
tag Call = 17
tag Both = 18
tag Print = 19
tag Emit = 20
tag Rows = 21
tag Cols = 22
tag Add = 23
tag Mul = 24
tag Min = 25
tag Max = 26
tag Affine = 27
tag Leave = 28
tag OpenRound = 29
tag CloseRound = 30
tag OpenBrace = 31
tag CloseBrace = 32
tag OpenSquare = 33
tag CloseSquare = 34
tag Comma = 35
tag Semi = 36
tag Assign = 37
tag Plus = 38
tag Minus = 39
tag Star = 40
tag Slash = 41
tag Percent = 42
tag Same = 43
tag Differs = 44
tag Less = 45
tag AtMost = 46
tag Greater = 47
tag AtLeast = 48
tag DotDot = 49

abbrev pub is_fixed : Fixed → Kind → Bool
is_fixed s (Spelling u) = nat_eq (tag u) (tag s)
is_fixed s (Literal n) = false
is_fixed s (Name x) = false

unfoldable pub expect : Fixed → Reader Place
expect s [] = Err (Form [])
expect s (t ∷ ts) = if is_fixed s t.kind then Ok (t.place, ts) else Err (Form (t ∷ ts))

abbrev pub by_fixed : (Fixed → Option BinOp) → Kind → Option BinOp
by_fixed f (Spelling s) = f s
by_fixed f (Literal n) = None
by_fixed f (Name x) = None

abbrev pub compare_op_of : Kind → Option BinOp
compare_op_of k = by_fixed compare_fixed k

abbrev pub sum_op_of : Kind → Option BinOp
sum_op_of k = by_fixed sum_fixed k

abbrev pub product_op_of : Kind → Option BinOp
product_op_of k = by_fixed product_fixed k

abbrev pub name_at : Kind → Token → Reader Spelled
name_at (Name x) t ts = Ok (record { text = x; place = t.place }, ts)
name_at (Literal n) t ts = Err (Form (t ∷ ts))
name_at (Spelling s) t ts = Err (Form (t ∷ ts))

unfoldable pub name : Reader Spelled
name [] = Err (Form [])
name (t ∷ ts) = name_at t.kind t ts

-- the rest of a chain of operators, which groups to the left
abbrev pub chain_rest : Reader Tree → (Kind → Option BinOp) → ℕ → Tree → Reader Tree
chain_rest item op zero l ts = Ok (l, ts)
chain_rest item op (suc m) l [] = Ok (l, [])
chain_rest item op (suc m) l (t ∷ ts) =
    elim (op t.kind) [
      | None ↦ Ok (l, t ∷ ts)
      | Some o ↦ item ts >>= λ x. chain_rest item op m (TBin o t.place l x.0) x.1
    ]

abbrev pub chain : Reader Tree → (Kind → Option BinOp) → ℕ → Reader Tree
chain item op m ts = item ts >>= λ x. chain_rest item op m x.0 x.1

-- after a name: the two indexes of a cell, or nothing
abbrev pub name_rest : Reader Tree → Spelled → Reader Tree
name_rest inner x [] = Ok (TVar x, [])
name_rest inner x (o ∷ ts) =
    if is_fixed OpenSquare o.kind then (do
      a ← inner ts
      c ← expect CloseSquare a.1
      o2 ← expect OpenSquare c.1
      b ← inner o2.1
      c2 ← expect CloseSquare b.1
      Ok (TCell x a.0 b.0, c2.1))
    else Ok (TVar x, o ∷ ts)

-- a name, with the two indexes of a cell or alone
abbrev pub name_cell : Reader Tree → Reader Tree
name_cell inner ts = name ts >>= λ x. name_rest inner x.0 x.1

abbrev pub bracketed : Reader Tree → Reader Tree
bracketed inner ts = do
  e ← inner ts
  c ← expect CloseRound e.1
  Ok (e.0, c.1)

-- a name in brackets
unfoldable pub sized : Reader Spelled
sized ts = do
  o ← expect OpenRound ts
  x ← name o.1
  c ← expect CloseRound x.1
  Ok (x.0, c.1)

abbrev pub fixed_at : Reader Tree → Fixed → Token → Reader Tree
fixed_at inner OpenRound t ts = bracketed inner ts
fixed_at inner Rows t ts = sized ts >>= λ x. Ok (TRows x.0, x.1)
fixed_at inner Cols t ts = sized ts >>= λ x. Ok (TCols x.0, x.1)
fixed_at inner _ t ts = Err (Form (t ∷ ts))

abbrev pub primary_at : Reader Tree → Kind → Token → Reader Tree
primary_at inner (Literal n) t ts = Ok (TInt n t.place, ts)
primary_at inner (Name x) t ts = name_rest inner (record { text = x; place = t.place }) ts
primary_at inner (Spelling s) t ts = fixed_at inner s t ts

-- whether a bracket opens
abbrev pub opens : List Token → Bool
opens [] = false
opens (t ∷ ts) = is_fixed OpenRound t.kind

abbrev pub primary_of : Reader Tree → Reader Tree
primary_of inner [] = Err (Form [])
primary_of inner (t ∷ ts) = primary_at inner t.kind t ts

-- what was read after a minus, negated
abbrev pub opposite : Place → Reply Tree → Reply Tree
opposite at read = read >>= λ e. Ok (TNeg e.0 at, e.1)

abbrev pub unary_of : Reader Tree → Reader Tree
unary_of inner [] = Err (Form [])
unary_of inner (t ∷ ts) =
    if is_fixed Minus t.kind then (unary_of inner ts >>= λ e. Ok (TNeg e.0 t.place, e.1))
    else primary_of inner (t ∷ ts)

abbrev pub expr_of : Reader Tree → ℕ → Reader Tree
expr_of inner n = chain (chain (chain (unary_of inner) product_op_of n) sum_op_of n) compare_op_of 1

-- an expression inside another one
unfoldable pub nested : ℕ → Reader Tree
nested zero ts = Err (Form ts)
nested (suc n) ts = expr_of (nested n) n ts

unfoldable pub primary : ℕ → Reader Tree
primary n = primary_of (nested n)

unfoldable pub unary : ℕ → Reader Tree
unary n = unary_of (nested n)

unfoldable pub product : ℕ → Reader Tree
product n = chain (unary n) product_op_of n

unfoldable pub sum : ℕ → Reader Tree
sum n = chain (product n) sum_op_of n

unfoldable pub expr : ℕ → Reader Tree
expr n = chain (sum n) compare_op_of 1

abbrev pub is_empty : List Token → Bool
is_empty [] = true
is_empty (t ∷ ts) = false

-- how many tokens of an outermost expression are looked at: one more than it may have
abbrev pub window : ℕ
window = suc MAX_EXPRESSION_TOKENS

-- what the reading of the window says of the whole
abbrev pub limited : List Token → Reply Tree → Reply Tree
limited ts (Ok x) =
    if nat_le window (length ts) && is_empty x.1 then Err (Deep (drop MAX_EXPRESSION_TOKENS ts))
    else Ok (x.0, drop (length (take window ts) - length x.1) ts)
limited ts (Err (Form us)) =
    if nat_le window (length ts) && is_empty us then Err (Deep (drop MAX_EXPRESSION_TOKENS ts))
    else Err (Form (drop (length (take window ts) - length us) ts))
limited ts (Err (Deep us)) = Err (Deep us)

-- an expression that isn't inside another one
unfoldable pub outer : ℕ → Reader Tree
outer n ts = limited ts (expr n (take window ts))

-- the limits of a reading: how it reads an outermost expression, and whether a block inside this
-- many is too deep
pub record Limits : Type 0 where
  pub outermost : ℕ → Reader Tree
  pub is_deep : ℕ → Bool

abbrev pub within : Limits
within = record { outermost = outer; is_deep = λ level. nat_le MAX_BLOCK_NESTING level }

abbrev pub unlimited : Limits
unlimited = record { outermost = expr; is_deep = λ level. false }

-- whether the first token passes the test
abbrev pub starts : (Kind → Bool) → List Token → Bool
starts test [] = false
starts test (t ∷ ts) = test t.kind

-- whether the list begins with this word or sign
abbrev pub begins_with : Fixed → List Token → Bool
begins_with s = starts (λ k. is_fixed s k)

-- items as long as one begins
abbrev pub many_of : {A : Type 0} → (Kind → Bool) → Reader A → ℕ → Reader (List A)
many_of begins item zero ts = Ok ([], ts)
many_of begins item (suc n) [] = Ok ([], [])
many_of begins item (suc n) (t ∷ ts) =
    if begins t.kind then (do
      x ← item (t ∷ ts)
      xs ← many_of begins item n x.1
      Ok (x.0 ∷ xs.0, xs.1))
    else Ok ([], t ∷ ts)

-- a comma and an item
abbrev pub after_comma : {A : Type 0} → Reader A → Reader A
after_comma item ts = expect Comma ts >>= λ k. item k.1

-- further items, each after a comma
abbrev pub further : {A : Type 0} → Reader A → ℕ → Reader (List A)
further item n = many_of (λ k. is_fixed Comma k) (after_comma item) n

-- items with commas between them, at least one
abbrev pub listed : {A : Type 0} → Reader A → ℕ → Reader (List A)
listed item n ts = do
  x ← item ts
  xs ← further item n x.1
  Ok (x.0 ∷ xs.0, xs.1)

-- none before a closing bracket, else at least one
abbrev pub bracket_list : {A : Type 0} → Reader A → ℕ → Reader (List A)
bracket_list item n ts = if begins_with CloseRound ts then Ok ([], ts) else listed item n ts

unfoldable pub more_names : ℕ → Reader (List Spelled)
more_names n = further name n

unfoldable pub params : ℕ → Reader (List Spelled)
params n ts = if begins_with CloseRound ts then Ok ([], ts) else (do
  x ← name ts
  xs ← more_names n x.1
  Ok (x.0 ∷ xs.0, xs.1))

unfoldable pub more_args : Limits → ℕ → Reader (List Tree)
more_args k n = further (k.outermost n) n

unfoldable pub args : Limits → ℕ → Reader (List Tree)
args k n ts = if begins_with CloseRound ts then Ok ([], ts) else (do
  x ← k.outermost n ts
  xs ← more_args k n x.1
  Ok (x.0 ∷ xs.0, xs.1))

unfoldable pub app : Limits → ℕ → Reader AppTree
app k n ts = do
  f ← name ts
  o ← expect OpenRound f.1
  es ← args k n o.1
  c ← expect CloseRound es.1
  Ok (record { callee = f.0; args = es.0 }, c.1)

unfoldable pub let_rest : Limits → ℕ → Reader Node
let_rest k n ts = do
  x ← name ts
  q ← expect Assign x.1
  e ← k.outermost n q.1
  s ← expect Semi e.1
  Ok (NLet x.0 e.0, s.1)

-- what stands after a name: the new value, or the cell and its new value
unfoldable pub set_rest : Limits → ℕ → Spelled → Reader Node
set_rest k n x ts = do
  e ← k.outermost n ts
  s ← expect Semi e.1
  Ok (NSet x e.0, s.1)

unfoldable pub put_rest : Limits → ℕ → Spelled → Reader Node
put_rest k n x ts = do
  a ← k.outermost n ts
  c ← expect CloseSquare a.1
  o ← expect OpenSquare c.1
  b ← k.outermost n o.1
  d ← expect CloseSquare b.1
  q ← expect Assign d.1
  e ← k.outermost n q.1
  s ← expect Semi e.1
  Ok (NPut x a.0 b.0 e.0, s.1)

abbrev pub assign_at : Limits → ℕ → Spelled → Kind → Token → Reader Node
assign_at k n x (Spelling Assign) t ts = set_rest k n x ts
assign_at k n x (Spelling OpenSquare) t ts = put_rest k n x ts
assign_at k n x _ t ts = Err (Form (t ∷ ts))

unfoldable pub assign_rest : Limits → ℕ → Spelled → Reader Node
assign_rest k n x [] = Err (Form [])
assign_rest k n x (t ∷ ts) = assign_at k n x t.kind t ts

unfoldable pub fold_rest : Limits → ℕ → Reader Node
fold_rest k n ts = do
  x ← name ts
  w ← expect With x.1
  e ← k.outermost n w.1
  s ← expect Semi e.1
  Ok (NFold x.0 e.0, s.1)

unfoldable pub call_rest : Limits → ℕ → Reader Node
call_rest k n ts = do
  x ← name ts
  q ← expect Assign x.1
  f ← app k n q.1
  s ← expect Semi f.1
  Ok (NCall x.0 f.0, s.1)

unfoldable pub both_rest : Limits → ℕ → Reader Node
both_rest k n ts = do
  x ← name ts
  q ← expect Assign x.1
  f ← app k n q.1
  c ← expect Comma f.1
  y ← name c.1
  r ← expect Assign y.1
  g ← app k n r.1
  s ← expect Semi g.1
  Ok (NBoth x.0 f.0 y.0 g.0, s.1)

unfoldable pub print_rest : Limits → ℕ → Place → Reader Node
print_rest k n p ts = do
  e ← k.outermost n ts
  s ← expect Semi e.1
  Ok (NPrint p e.0, s.1)

unfoldable pub emit_rest : Place → Reader Node
emit_rest p ts = do
  x ← name ts
  s ← expect Semi x.1
  Ok (NEmit p x.0, s.1)

unfoldable pub leave_rest : Limits → ℕ → Reader Node
leave_rest k n ts = do
  x ← name ts
  q ← expect Assign x.1
  e ← k.outermost n q.1
  s ← expect Semi e.1
  Ok (NLeave x.0 e.0, s.1)

-- the row of a carry item
abbrev pub row_at : Kind → Token → Reader RowTree
row_at (Name x) t ts = Ok (RVar (record { text = x; place = t.place }), ts)
row_at (Literal n) t ts = Ok (RInt n, ts)
row_at (Spelling s) t ts = Err (Form (t ∷ ts))

unfoldable pub row : Reader RowTree
row [] = Err (Form [])
row (t ∷ ts) = row_at t.kind t ts

unfoldable pub column : Spelled → RowTree → Reader CarryTree
column t k ts = do
  o ← expect OpenSquare ts
  j ← name o.1
  c ← expect CloseSquare j.1
  Ok (CCells t k j.0, c.1)

-- what stands after the first index of a carry item
abbrev pub carry_rest_of : Spelled → RowTree → Reader CarryTree
carry_rest_of t (RVar i) ts =
    if begins_with OpenSquare ts then column t (RVar i) ts else Ok (CRows t i, ts)
carry_rest_of t (RInt n) ts = column t (RInt n) ts

unfoldable pub carry_item : Reader CarryTree
carry_item ts = do
  t ← name ts
  o ← expect OpenSquare t.1
  k ← row o.1
  c ← expect CloseSquare k.1
  carry_rest_of t.0 k.0 c.1

abbrev pub op_by : Fixed → Option Op
op_by Add = Some reducers.Add
op_by Mul = Some reducers.Mul
op_by Min = Some reducers.Min
op_by Max = Some reducers.Max
op_by Affine = Some reducers.Affine
op_by _ = None

abbrev pub reducer_of : Kind → Option Op
reducer_of (Spelling s) = op_by s
reducer_of (Literal n) = None
reducer_of (Name x) = None

unfoldable pub reducer : Reader Op
reducer [] = Err (Form [])
reducer (t ∷ ts) = elim (reducer_of t.kind) [ None ↦ Err (Form (t ∷ ts)) | Some o ↦ Ok (o, ts) ]

unfoldable pub reduce_item : Reader ReduceTree
reduce_item ts = do
  x ← name ts
  b ← expect By x.1
  o ← reducer b.1
  Ok (record { target = x.0; op = o.0 }, o.1)

unfoldable pub more_carries : ℕ → Reader (List CarryTree)
more_carries n = further carry_item n

unfoldable pub more_reduces : ℕ → Reader (List ReduceTree)
more_reduces n = further reduce_item n

-- the carry list with its place, which is p where there is none
unfoldable pub carry_list : ℕ → Place → Reader (Place × List CarryTree)
carry_list n p ts = if begins_with Carry ts then (do
  w ← expect Carry ts
  c ← carry_item w.1
  cs ← more_carries n c.1
  Ok ((w.0, c.0 ∷ cs.0), cs.1))
    else Ok ((p, []), ts)

unfoldable pub reduce_list : ℕ → Reader (List ReduceTree)
reduce_list n ts = if begins_with Reduce ts then (do
  w ← expect Reduce ts
  r ← reduce_item w.1
  rs ← more_reduces n r.1
  Ok (r.0 ∷ rs.0, rs.1))
    else Ok ([], ts)

-- an opening brace, where level braces are open
unfoldable pub open_brace : Limits → ℕ → Reader Place
open_brace k level ts = expect OpenBrace ts >>= λ o. if k.is_deep level then Err (Deep ts) else Ok o

-- a block, where inner reads the statements inside this many blocks
abbrev pub block_of : Limits → (ℕ → Reader (List Node)) → ℕ → Reader Nodes
block_of k inner level ts = do
  o ← open_brace k level ts
  ss ← inner (suc level) o.1
  c ← expect CloseBrace ss.1
  Ok (nodes ss.0, c.1)

abbrev pub else_of : Limits → (ℕ → Reader (List Node)) → ℕ → Reader Nodes
else_of k inner level ts =
    if begins_with Else ts then (expect Else ts >>= λ w. block_of k inner level w.1)
    else Ok (Last, ts)

abbrev pub if_of : Limits → (ℕ → Reader (List Node)) → ℕ → ℕ → Reader Node
if_of k inner level n ts = do
  e ← k.outermost n ts
  b ← block_of k inner level e.1
  c ← else_of k inner level b.1
  Ok (NIf e.0 b.0 c.0, c.1)

abbrev pub while_of : Limits → (ℕ → Reader (List Node)) → ℕ → ℕ → Reader Node
while_of k inner level n ts = do
  e ← k.outermost n ts
  b ← block_of k inner level e.1
  Ok (NWhile e.0 b.0, b.1)

abbrev pub loop_of : Limits → (ℕ → Reader (List Node)) → ℕ → ℕ → Reader Node
loop_of k inner level n ts = do
  x ← name ts
  i ← expect In x.1
  a ← k.outermost n i.1
  d ← expect DotDot a.1
  b ← k.outermost n d.1
  c ← block_of k inner level b.1
  Ok (NLoop x.0 a.0 b.0 c.0, c.1)

-- the clauses and the body of a `par` over x from a to b
abbrev pub par_tail_of : Limits → (ℕ → Reader (List Node)) → ℕ → ℕ → Place → Spelled → Tree → Tree →
    Reader Node
par_tail_of k inner level n p x a b ts = do
  cs ← carry_list n p ts
  rs ← reduce_list n cs.1
  c ← block_of k inner level rs.1
  Ok (
    NPar
        (record {
          place = p;
          var = x;
          from = a;
          to = b;
          carry_place = cs.0.0;
          carries = cs.0.1;
          reduces = rs.0;
        })
        c.0,
    c.1,
  )

abbrev pub par_of : Limits → (ℕ → Reader (List Node)) → ℕ → ℕ → Place → Reader Node
par_of k inner level n p ts = do
  x ← name ts
  i ← expect In x.1
  a ← k.outermost n i.1
  d ← expect DotDot a.1
  b ← k.outermost n d.1
  par_tail_of k inner level n p x.0 a.0 b.0 b.1

-- a statement, from its first word
abbrev pub stmt_at : Limits → (ℕ → Reader (List Node)) → ℕ → ℕ → Fixed → Token → Reader Node
stmt_at k inner level n Let t ts = let_rest k n ts
stmt_at k inner level n If t ts = if_of k inner level n ts
stmt_at k inner level n While t ts = while_of k inner level n ts
stmt_at k inner level n Loop t ts = loop_of k inner level n ts
stmt_at k inner level n Par t ts = par_of k inner level n t.place ts
stmt_at k inner level n Fold t ts = fold_rest k n ts
stmt_at k inner level n Call t ts = call_rest k n ts
stmt_at k inner level n Both t ts = both_rest k n ts
stmt_at k inner level n Print t ts = print_rest k n t.place ts
stmt_at k inner level n Emit t ts = emit_rest t.place ts
stmt_at k inner level n Leave t ts = leave_rest k n ts
stmt_at k inner level n _ t ts = Err (Form (t ∷ ts))

abbrev pub stmt_by : Limits → (ℕ → Reader (List Node)) → ℕ → ℕ → Kind → Token → Reader Node
stmt_by k inner level n (Spelling s) t ts = stmt_at k inner level n s t ts
stmt_by k inner level n (Name x) t ts = assign_rest k n (record { text = x; place = t.place }) ts
stmt_by k inner level n (Literal i) t ts = Err (Form (t ∷ ts))

abbrev pub stmt_of : Limits → (ℕ → Reader (List Node)) → ℕ → ℕ → Reader Node
stmt_of k inner level n [] = Err (Form [])
stmt_of k inner level n (t ∷ ts) = stmt_by k inner level n t.kind t ts

abbrev pub is_first_word : Fixed → Bool
is_first_word Let = true
is_first_word If = true
is_first_word While = true
is_first_word Loop = true
is_first_word Par = true
is_first_word Fold = true
is_first_word Call = true
is_first_word Both = true
is_first_word Print = true
is_first_word Emit = true
is_first_word Leave = true
is_first_word _ = false

-- whether a statement begins with the token
abbrev pub begins_stmt : Kind → Bool
begins_stmt (Spelling s) = is_first_word s
begins_stmt (Name x) = true
begins_stmt (Literal i) = false

-- the statements inside this many blocks
abbrev pub stmts_of : Limits → (ℕ → Reader (List Node)) → ℕ → ℕ → Reader (List Node)
stmts_of k inner n level = many_of begins_stmt (stmt_of k inner level n) n

unfoldable pub inner_stmts : Limits → ℕ → ℕ → Reader (List Node)
inner_stmts k zero level ts = Err (Form ts)
inner_stmts k (suc n) level ts = stmts_of k (inner_stmts k n) n level ts

unfoldable pub stmt : Limits → ℕ → ℕ → Reader Node
stmt k n level = stmt_of k (inner_stmts k n) level n

unfoldable pub stmts : Limits → ℕ → ℕ → Reader (List Node)
stmts k n level = many_of begins_stmt (stmt k n level) n

unfoldable pub block : Limits → ℕ → ℕ → Reader Nodes
block k n level = block_of k (inner_stmts k n) level

unfoldable pub else_block : Limits → ℕ → ℕ → Reader Nodes
else_block k n level = else_of k (inner_stmts k n) level

unfoldable pub if_rest : Limits → ℕ → ℕ → Reader Node
if_rest k n level = if_of k (inner_stmts k n) level n

unfoldable pub while_rest : Limits → ℕ → ℕ → Reader Node
while_rest k n level = while_of k (inner_stmts k n) level n

unfoldable pub loop_rest : Limits → ℕ → ℕ → Reader Node
loop_rest k n level = loop_of k (inner_stmts k n) level n

unfoldable pub par_tail : Limits → ℕ → ℕ → Place → Spelled → Tree → Tree → Reader Node
par_tail k n level = par_tail_of k (inner_stmts k n) level n

unfoldable pub par_rest : Limits → ℕ → ℕ → Place → Reader Node
par_rest k n level = par_of k (inner_stmts k n) level n

unfoldable pub input_rest : Reader DeclTree
input_rest ts = do
  x ← name ts
  s ← expect Semi x.1
  Ok (DTable (TInput x.0), s.1)

unfoldable pub table_rest : Limits → ℕ → Reader DeclTree
table_rest k n ts = do
  x ← name ts
  o ← expect OpenSquare x.1
  a ← k.outermost n o.1
  c ← expect CloseSquare a.1
  p ← expect OpenSquare c.1
  b ← k.outermost n p.1
  d ← expect CloseSquare b.1
  s ← expect Semi d.1
  Ok (DTable (TMade x.0 a.0 b.0), s.1)

unfoldable pub fn_rest : Limits → ℕ → Reader DeclTree
fn_rest k n ts = do
  x ← name ts
  o ← expect OpenRound x.1
  ps ← params n o.1
  c ← expect CloseRound ps.1
  p ← open_brace k 0 c.1
  ss ← stmts k n 1 p.1
  r ← expect Return ss.1
  e ← k.outermost n r.1
  s ← expect Semi e.1
  d ← expect CloseBrace s.1
  Ok (DFunc (record { name = x.0; params = ps.0; body = nodes ss.0; value = e.0 }), d.1)

abbrev pub decl_at : Limits → ℕ → Fixed → Token → Reader DeclTree
decl_at k n Input t ts = input_rest ts
decl_at k n Table t ts = table_rest k n ts
decl_at k n Fn t ts = fn_rest k n ts
decl_at k n _ t ts = Err (Form (t ∷ ts))

abbrev pub decl_by : Limits → ℕ → Kind → Token → Reader DeclTree
decl_by k n (Spelling s) t ts = decl_at k n s t ts
decl_by k n (Name x) t ts = Err (Form (t ∷ ts))
decl_by k n (Literal i) t ts = Err (Form (t ∷ ts))

unfoldable pub decl : Limits → ℕ → Reader DeclTree
decl k n [] = Err (Form [])
decl k n (t ∷ ts) = decl_by k n t.kind t ts

abbrev pub is_decl_word : Fixed → Bool
is_decl_word Input = true
is_decl_word Table = true
is_decl_word Fn = true
is_decl_word _ = false

abbrev pub begins_decl : Kind → Bool
begins_decl (Spelling s) = is_decl_word s
begins_decl (Name x) = false
begins_decl (Literal i) = false

unfoldable pub decls : Limits → ℕ → Reader (List DeclTree)
decls k n = many_of begins_decl (decl k n) n

unfoldable pub program : Limits → ℕ → Reader ProgramTree
program k n ts = do
  ds ← decls k n ts
  m ← expect Main ds.1
  b ← block k n 0 m.1
  Ok (record { tables = tables_in ds.0; funcs = funcs_in ds.0; main = b.0 }, b.1)

-- with what was read before
abbrev pub with_front : {A : Type 0} → List A → Reply (List A) → Reply (List A)
with_front front (Ok x) = Ok (front ++ x.0, x.1)
with_front front (Err e) = Err e
