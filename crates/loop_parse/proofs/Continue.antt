-- Each stack of the machine can be completed, so what it has taken begins a program.
use Rattle.std.proofs.Common.{◌≡◌, pos, List, [], ◌∷◌, ◌++◌, Option, Some, None, Bool, true, false}
use Rattle.std.proofs.Common.{◌&&◌, ◌||◌, ⊎_elim, if◌then◌else◌, refl, ap, subst, ◌∙◌}
use Rattle.std.proofs.lemmas.Bool.{or_cases}
use Rattle.tp_value.specs.declared.values.Op.{Op}
use Rattle.loop_parse.specs.declared.terminal.Fixed.{Fixed}
use Rattle.loop_parse.specs.declared.terminal.Fixed.TheVariants.{Input, Table, Fn, Return, Main}
use Rattle.loop_parse.specs.declared.terminal.Fixed.TheVariants.{Let, If, Else, While, Loop, Par}
use Rattle.loop_parse.specs.declared.terminal.Fixed.TheVariants.{Carry, Reduce, Fold, Call, Both}
use Rattle.loop_parse.specs.declared.terminal.Fixed.TheVariants.{Print, Emit, Leave, Rows, Cols, Add}
use Rattle.loop_parse.specs.declared.terminal.Fixed.TheVariants.{OpenRound, CloseRound, OpenBrace}
use Rattle.loop_parse.specs.declared.terminal.Fixed.TheVariants.{CloseBrace, OpenSquare}
use Rattle.loop_parse.specs.declared.terminal.Fixed.TheVariants.{CloseSquare, Comma, Semi, Assign}
use Rattle.loop_parse.specs.declared.terminal.Fixed.TheVariants.{Plus, Minus, Star, Slash, Percent}
use Rattle.loop_parse.specs.declared.terminal.Fixed.TheVariants.{Same, Differs, Less, AtMost}
use Rattle.loop_parse.specs.declared.terminal.Fixed.TheVariants.{Greater, AtLeast}
use Rattle.loop_parse.specs.Terms as kinds
use Rattle.loop_parse.specs.Terms.{Kind, Token}
use Rattle.loop_parse.specs.Reading.{is_fixed, begins_with, compare_op_of, sum_op_of, product_op_of}
use Rattle.loop_parse.specs.Reading.{reducer_of}
use Rattle.loop_parse.proofs.Machine.{Symbol, Want, AName, Unary, NameRest, ProductRest, SumRest}
use Rattle.loop_parse.proofs.Machine.{CompareRest, Stmt, Stmts, AssignRest, ElseRest, Args}
use Rattle.loop_parse.proofs.Machine.{MoreArgs, Params, MoreNames, Row, ColumnRest, CarryList}
use Rattle.loop_parse.proofs.Machine.{MoreCarries, ReduceList, MoreReduces, Reducer, Decl, Decls}
use Rattle.loop_parse.proofs.Machine.{Move, Take, Skip, Refuse, an_expr, step, offer, moved}
use Rattle.loop_parse.proofs.Machine.{may_end, finished, run, fixed_move, primary_move, unary_move}
use Rattle.loop_parse.proofs.Machine.{rest_move, name_move, stmt_move, assign_move, row_move}
use Rattle.loop_parse.proofs.Machine.{reducer_move, decl_move, or_skip, if_name}
use Rattle.loop_parse.proofs.Exact.{is_found}
use Rattle.loop_parse.proofs.Complete.{same_tag}

abbrev token_of : Kind → Token
token_of k = record { kind = k; place = record { line = 1; col = 1 } }

abbrev fixed : Fixed → Token
fixed s = token_of (kinds.Spelling s)

-- tokens that a symbol is content with
abbrev own : Symbol → List Token
own (Want s) = fixed s ∷ []
own AName = token_of (kinds.Name []) ∷ []
own Unary = token_of (kinds.Literal (pos 0)) ∷ []
own AssignRest = fixed Assign ∷ token_of (kinds.Literal (pos 0)) ∷ fixed Semi ∷ []
own Row = token_of (kinds.Literal (pos 0)) ∷ fixed CloseSquare ∷ fixed OpenSquare ∷ token_of (kinds.Name []) ∷ fixed CloseSquare ∷ []
own Reducer = fixed Add ∷ []
own _ = []

-- tokens that complete what is waited for
abbrev pub completion : List Symbol → List Token
completion [] = []
completion (s ∷ st) = own s ++ completion st

-- no expression goes on with the word or sign
abbrev ends_fixed : Fixed → Bool
ends_fixed Plus = false
ends_fixed Minus = false
ends_fixed Star = false
ends_fixed Slash = false
ends_fixed Percent = false
ends_fixed Same = false
ends_fixed Differs = false
ends_fixed Less = false
ends_fixed AtMost = false
ends_fixed Greater = false
ends_fixed AtLeast = false
ends_fixed OpenSquare = false
ends_fixed _ = true

abbrev ends_kind : Kind → Bool
ends_kind (kinds.Spelling s) = ends_fixed s
ends_kind (kinds.Literal n) = true
ends_kind (kinds.Name x) = true

abbrev ends_expr : List Token → Bool
ends_expr [] = true
ends_expr (t ∷ ts) = ends_kind t.kind

-- the end of statements
abbrev closes : List Token → Bool
closes ts = begins_with CloseBrace ts || begins_with Return ts

-- what completes the rest isn't taken by the symbol
abbrev fits : Symbol → List Token → Bool
fits Unary ts = ends_expr ts
fits NameRest ts = ends_expr ts
fits ProductRest ts = ends_expr ts
fits SumRest ts = ends_expr ts
fits CompareRest ts = ends_expr ts
fits Stmt ts = false
fits Decl ts = false
fits Stmts ts = closes ts
fits ElseRest ts = closes ts
fits AssignRest ts = true
fits Args ts = begins_with CloseRound ts
fits MoreArgs ts = begins_with CloseRound ts
fits Params ts = begins_with CloseRound ts
fits MoreNames ts = begins_with CloseRound ts
fits Row ts = begins_with OpenBrace ts
fits ColumnRest ts = begins_with OpenBrace ts
fits CarryList ts = begins_with OpenBrace ts
fits MoreCarries ts = begins_with OpenBrace ts
fits ReduceList ts = begins_with OpenBrace ts
fits MoreReduces ts = begins_with OpenBrace ts
fits Reducer ts = true
fits Decls ts = begins_with Main ts
fits (Want s) ts = true
fits AName ts = true

abbrev pub good : List Symbol → Bool
good [] = true
good (s ∷ st) = fits s (completion st) && good st

both_true : (a b : Bool) → (a && b) ≡ true → (a ≡ true) × (b ≡ true)
both_true true b h = (refl, h)
both_true false b h = cc

skip_name : (k : Kind) → ends_kind k ≡ true → step NameRest k ≡ Skip
skip_name (kinds.Literal n) h = refl
skip_name (kinds.Name x) h = refl
skip_name (kinds.Spelling OpenSquare) h = cc
skip_name (kinds.Spelling _) h = refl

skip_product : (k : Kind) → ends_kind k ≡ true → step ProductRest k ≡ Skip
skip_product (kinds.Literal n) h = refl
skip_product (kinds.Name x) h = refl
skip_product (kinds.Spelling Star) h = cc
skip_product (kinds.Spelling Slash) h = cc
skip_product (kinds.Spelling Percent) h = cc
skip_product (kinds.Spelling _) h = refl

skip_sum : (k : Kind) → ends_kind k ≡ true → step SumRest k ≡ Skip
skip_sum (kinds.Literal n) h = refl
skip_sum (kinds.Name x) h = refl
skip_sum (kinds.Spelling Plus) h = cc
skip_sum (kinds.Spelling Minus) h = cc
skip_sum (kinds.Spelling _) h = refl

skip_compare : (k : Kind) → ends_kind k ≡ true → step CompareRest k ≡ Skip
skip_compare (kinds.Literal n) h = refl
skip_compare (kinds.Name x) h = refl
skip_compare (kinds.Spelling Same) h = cc
skip_compare (kinds.Spelling Differs) h = cc
skip_compare (kinds.Spelling Less) h = cc
skip_compare (kinds.Spelling AtMost) h = cc
skip_compare (kinds.Spelling Greater) h = cc
skip_compare (kinds.Spelling AtLeast) h = cc
skip_compare (kinds.Spelling _) h = refl

skips : (s : Symbol) (st : List Symbol) (t : Token) (ts : List Token) → step s t.kind ≡ Skip → run (s ∷ st) (t ∷ ts) ≡ run st (t ∷ ts)
skips s st t ts h = ap (λ m. elim (moved m (offer st t.kind) st) [ None ↦ Some (t ∷ ts) | Some next ↦ run next ts ]) h

ends_all : (s : Symbol) → may_end s ≡ true → ((k : Kind) → ends_kind k ≡ true → step s k ≡ Skip) → (st : List Symbol) (ts : List Token) → ends_expr ts ≡ true → run (s ∷ st) ts ≡ run st ts
ends_all s m f st [] h = ap (λ b. if (b && finished st) then None else Some []) m
ends_all s m f st (t ∷ ts) h = skips s st t ts (f t.kind h)

-- a symbol that is left out before this word or sign
skip_at : (s : Symbol) (u : Fixed) → step s (kinds.Spelling u) ≡ Skip → (st : List Symbol) (ts : List Token) → begins_with u ts ≡ true → run (s ∷ st) ts ≡ run st ts
skip_at s u m st [] h = cc
skip_at s u m st (t ∷ ts) h = skips s st t ts (ap (step s) (is_found u t.kind h) ∙ m)

skip_closes : (s : Symbol) → step s (kinds.Spelling CloseBrace) ≡ Skip → step s (kinds.Spelling Return) ≡ Skip → (st : List Symbol) (ts : List Token) → closes ts ≡ true → run (s ∷ st) ts ≡ run st ts
skip_closes s m n st ts h = ⊎_elim (λ k. skip_at s CloseBrace m st ts k) (λ k. skip_at s Return n st ts k) (or_cases (begins_with CloseBrace ts) (begins_with Return ts) h)

pub completed : (st : List Symbol) → good st ≡ true → run st (completion st) ≡ None
completed [] h = refl
completed (Want s ∷ st) h = ap (λ b. elim (moved (if b then Take [] else Refuse) (offer st (kinds.Spelling s)) st) [ None ↦ Some (fixed s ∷ completion st) | Some next ↦ run next (completion st) ]) (same_tag s) ∙ completed st h
completed (AName ∷ st) h = completed st h
completed (Unary ∷ st) h = completed st (both_true _ _ h).1
completed (NameRest ∷ st) h = let p = both_true (ends_expr (completion st)) (good st) h in ends_all NameRest refl skip_name st (completion st) p.0 ∙ completed st p.1
completed (ProductRest ∷ st) h = let p = both_true (ends_expr (completion st)) (good st) h in ends_all ProductRest refl skip_product st (completion st) p.0 ∙ completed st p.1
completed (SumRest ∷ st) h = let p = both_true (ends_expr (completion st)) (good st) h in ends_all SumRest refl skip_sum st (completion st) p.0 ∙ completed st p.1
completed (CompareRest ∷ st) h = let p = both_true (ends_expr (completion st)) (good st) h in ends_all CompareRest refl skip_compare st (completion st) p.0 ∙ completed st p.1
completed (Stmt ∷ st) h = cc
completed (Decl ∷ st) h = cc
completed (Stmts ∷ st) h = let p = both_true (closes (completion st)) (good st) h in skip_closes Stmts refl refl st (completion st) p.0 ∙ completed st p.1
completed (ElseRest ∷ st) h = let p = both_true (closes (completion st)) (good st) h in skip_closes ElseRest refl refl st (completion st) p.0 ∙ completed st p.1
completed (AssignRest ∷ st) h = completed st h
completed (Args ∷ st) h = let p = both_true (begins_with CloseRound (completion st)) (good st) h in skip_at Args CloseRound refl st (completion st) p.0 ∙ completed st p.1
completed (MoreArgs ∷ st) h = let p = both_true (begins_with CloseRound (completion st)) (good st) h in skip_at MoreArgs CloseRound refl st (completion st) p.0 ∙ completed st p.1
completed (Params ∷ st) h = let p = both_true (begins_with CloseRound (completion st)) (good st) h in skip_at Params CloseRound refl st (completion st) p.0 ∙ completed st p.1
completed (MoreNames ∷ st) h = let p = both_true (begins_with CloseRound (completion st)) (good st) h in skip_at MoreNames CloseRound refl st (completion st) p.0 ∙ completed st p.1
completed (Row ∷ st) h = completed st (both_true (begins_with OpenBrace (completion st)) (good st) h).1
completed (ColumnRest ∷ st) h = let p = both_true (begins_with OpenBrace (completion st)) (good st) h in skip_at ColumnRest OpenBrace refl st (completion st) p.0 ∙ completed st p.1
completed (CarryList ∷ st) h = let p = both_true (begins_with OpenBrace (completion st)) (good st) h in skip_at CarryList OpenBrace refl st (completion st) p.0 ∙ completed st p.1
completed (MoreCarries ∷ st) h = let p = both_true (begins_with OpenBrace (completion st)) (good st) h in skip_at MoreCarries OpenBrace refl st (completion st) p.0 ∙ completed st p.1
completed (ReduceList ∷ st) h = let p = both_true (begins_with OpenBrace (completion st)) (good st) h in skip_at ReduceList OpenBrace refl st (completion st) p.0 ∙ completed st p.1
completed (MoreReduces ∷ st) h = let p = both_true (begins_with OpenBrace (completion st)) (good st) h in skip_at MoreReduces OpenBrace refl st (completion st) p.0 ∙ completed st p.1
completed (Reducer ∷ st) h = completed st h
completed (Decls ∷ st) h = let p = both_true (begins_with Main (completion st)) (good st) h in skip_at Decls Main refl st (completion st) p.0 ∙ completed st p.1

both : {a b : Bool} → a ≡ true → b ≡ true → (a && b) ≡ true
both {a} {b} h k = rw (h, k) refl

-- a choice that took something took this
take_is : (x : List Symbol) (new : List Symbol) (P : List Symbol → Type 0) → Take x ≡ Take new → P x → P new
take_is x new P h p = let e : x ≡ new = cc in subst P e p

if_take : (b : Bool) (x new : List Symbol) (P : List Symbol → Type 0) → (if b then Take x else Refuse) ≡ Take new → P x → P new
if_take true x new P h p = take_is x new P h p
if_take false x new P h p = cc

if_take_skip : (b : Bool) (x new : List Symbol) (P : List Symbol → Type 0) → (if b then Take x else Skip) ≡ Take new → P x → P new
if_take_skip true x new P h p = take_is x new P h p
if_take_skip false x new P h p = cc

rest_take : {A : Type 0} (o : Option A) (x new : List Symbol) (P : List Symbol → Type 0) → rest_move o x ≡ Take new → P x → P new
rest_take None x new P h p = cc
rest_take (Some o) x new P h p = take_is x new P h p

abbrev Good : List Symbol → List Symbol → Type 0
Good st new = good (new ++ st) ≡ true

or_skip_take : (m : Move) (new : List Symbol) → or_skip m ≡ Take new → m ≡ Take new
or_skip_take (Take x) new h = h
or_skip_take Skip new h = cc
or_skip_take Refuse new h = cc

module _ (st : List Symbol) (g : good st ≡ true) where
  name_good : (k : Kind) (new : List Symbol) → name_move k ≡ Take new → Good st new
  name_good (kinds.Name x) new h = take_is [] new (Good st) h g
  name_good (kinds.Literal n) new h = cc
  name_good (kinds.Spelling s) new h = cc

  -- an expression begins, with tails of which each is content with what follows
  fixed_good : (s : Fixed) (tails new : List Symbol) → good (tails ++ st) ≡ true → fixed_move s tails ≡ Take new → Good st new
  fixed_good OpenRound tails new f h = take_is (an_expr (Want CloseRound ∷ tails)) new (Good st) h f
  fixed_good Rows tails new f h = take_is (Want OpenRound ∷ AName ∷ Want CloseRound ∷ tails) new (Good st) h f
  fixed_good Cols tails new f h = take_is (Want OpenRound ∷ AName ∷ Want CloseRound ∷ tails) new (Good st) h f
  fixed_good _ tails new f h = cc

  primary_good : (k : Kind) (tails new : List Symbol) → ends_expr (completion (tails ++ st)) ≡ true → good (tails ++ st) ≡ true → primary_move k tails ≡ Take new → Good st new
  primary_good (kinds.Literal n) tails new e f h = take_is tails new (Good st) h f
  primary_good (kinds.Name x) tails new e f h = take_is (NameRest ∷ tails) new (Good st) h (both e f)
  primary_good (kinds.Spelling s) tails new e f h = fixed_good s tails new f h

  unary_good : (k : Kind) (tails new : List Symbol) → ends_expr (completion (tails ++ st)) ≡ true → good (tails ++ st) ≡ true → unary_move k tails ≡ Take new → Good st new
  unary_good k tails new e f h = go (is_fixed Minus k) h
    where
      go : (b : Bool) → (if b then Take (Unary ∷ tails) else primary_move k tails) ≡ Take new → Good st new
      go true h = take_is (Unary ∷ tails) new (Good st) h (both e f)
      go false h = primary_good k tails new e f h

  assign_good : (k : Kind) (new : List Symbol) → assign_move k ≡ Take new → Good st new
  assign_good (kinds.Spelling Assign) new h = take_is _ new (Good st) h g
  assign_good (kinds.Spelling OpenSquare) new h = take_is _ new (Good st) h g
  assign_good (kinds.Spelling _) new h = cc
  assign_good (kinds.Name x) new h = cc
  assign_good (kinds.Literal n) new h = cc

-- the end of statements is no operator and begins no list
closes_good : (st : List Symbol) → good (Stmts ∷ st) ≡ true → (k : Kind) (new : List Symbol) → stmt_move k (Stmts ∷ []) ≡ Take new → Good st new
closes_good st g (kinds.Name x) new h = take_is (AssignRest ∷ Stmts ∷ []) new (Good st) h g
closes_good st g (kinds.Literal n) new h = cc
closes_good st g (kinds.Spelling Let) new h = take_is _ new (Good st) h g
closes_good st g (kinds.Spelling If) new h = take_is _ new (Good st) h (both (both_true (closes (completion st)) (good st) g).0 g)
closes_good st g (kinds.Spelling While) new h = take_is _ new (Good st) h g
closes_good st g (kinds.Spelling Loop) new h = take_is _ new (Good st) h g
closes_good st g (kinds.Spelling Par) new h = take_is _ new (Good st) h g
closes_good st g (kinds.Spelling Fold) new h = take_is _ new (Good st) h g
closes_good st g (kinds.Spelling Call) new h = take_is _ new (Good st) h g
closes_good st g (kinds.Spelling Both) new h = take_is _ new (Good st) h g
closes_good st g (kinds.Spelling Print) new h = take_is _ new (Good st) h g
closes_good st g (kinds.Spelling Emit) new h = take_is _ new (Good st) h g
closes_good st g (kinds.Spelling Leave) new h = take_is _ new (Good st) h g
closes_good st g (kinds.Spelling _) new h = cc

decl_good : (st : List Symbol) → good (Decls ∷ st) ≡ true → (k : Kind) (new : List Symbol) → decl_move k (Decls ∷ []) ≡ Take new → Good st new
decl_good st g (kinds.Spelling Input) new h = take_is _ new (Good st) h g
decl_good st g (kinds.Spelling Table) new h = take_is _ new (Good st) h g
decl_good st g (kinds.Spelling Fn) new h = take_is _ new (Good st) h g
decl_good st g (kinds.Spelling _) new h = cc
decl_good st g (kinds.Name x) new h = cc
decl_good st g (kinds.Literal n) new h = cc

-- what ends arguments ends an expression
ends_at : (u : Fixed) → ends_fixed u ≡ true → (ts : List Token) → begins_with u ts ≡ true → ends_expr ts ≡ true
ends_at u e [] h = refl
ends_at u e (t ∷ ts) h = ap ends_kind (is_found u t.kind h) ∙ e

args_good : (st : List Symbol) → good (Args ∷ st) ≡ true → (k : Kind) (new : List Symbol) → step Args k ≡ Take new → Good st new
args_good st g k new h = go (is_fixed CloseRound k) h
  where
    p : (begins_with CloseRound (completion st) ≡ true) × (good st ≡ true)
    p = both_true (begins_with CloseRound (completion st)) (good st) g

    e : ends_expr (completion st) ≡ true
    e = ends_at CloseRound refl (completion st) p.0

    go : (b : Bool) → (if b then Skip else unary_move k (ProductRest ∷ SumRest ∷ CompareRest ∷ MoreArgs ∷ [])) ≡ Take new → Good st new
    go true h = cc
    go false h = unary_good st p.1 k (ProductRest ∷ SumRest ∷ CompareRest ∷ MoreArgs ∷ []) new e (both e (both e (both e g))) h

params_good : (st : List Symbol) → good (Params ∷ st) ≡ true → (k : Kind) (new : List Symbol) → step Params k ≡ Take new → Good st new
params_good st g k new h = go (is_fixed CloseRound k) h
  where
    at : (k : Kind) → if_name k (MoreNames ∷ []) ≡ Take new → Good st new
    at (kinds.Name x) h = take_is (MoreNames ∷ []) new (Good st) h g
    at (kinds.Literal n) h = cc
    at (kinds.Spelling s) h = cc

    go : (b : Bool) → (if b then Skip else if_name k (MoreNames ∷ [])) ≡ Take new → Good st new
    go true h = cc
    go false h = at k h

row_good : (st : List Symbol) → good (Row ∷ st) ≡ true → (k : Kind) (new : List Symbol) → row_move k ≡ Take new → Good st new
row_good st g (kinds.Name x) new h = take_is _ new (Good st) h g
row_good st g (kinds.Literal n) new h = take_is _ new (Good st) h (both_true (begins_with OpenBrace (completion st)) (good st) g).1
row_good st g (kinds.Spelling s) new h = cc

reducer_good : (st : List Symbol) → good st ≡ true → (o : Option Op) (new : List Symbol) → reducer_move o ≡ Take new → Good st new
reducer_good st g None new h = cc
reducer_good st g (Some o) new h = take_is [] new (Good st) h g

step_good : (s : Symbol) (st : List Symbol) (k : Kind) (new : List Symbol) → good (s ∷ st) ≡ true → step s k ≡ Take new → good (new ++ st) ≡ true
step_good (Want u) st k new g h = if_take (is_fixed u k) [] new (Good st) h g
step_good AName st k new g h = name_good st g k new h
step_good Unary st k new g h = let p = both_true (ends_expr (completion st)) (good st) g in unary_good st p.1 k [] new p.0 p.1 h
step_good NameRest st k new g h = let p = both_true (ends_expr (completion st)) (good st) g in if_take_skip (is_fixed OpenSquare k) _ new (Good st) h p.1
step_good ProductRest st k new g h =
    let p = both_true (ends_expr (completion st)) (good st) g in
    rest_take (product_op_of k) _ new (Good st) h (both p.0 g)
step_good SumRest st k new g h =
    let p = both_true (ends_expr (completion st)) (good st) g in
    rest_take (sum_op_of k) _ new (Good st) h (both p.0 (both p.0 g))
step_good CompareRest st k new g h =
    let p = both_true (ends_expr (completion st)) (good st) g in
    rest_take (compare_op_of k) _ new (Good st) h (both p.0 (both p.0 (both p.0 p.1)))
step_good Stmt st k new g h = cc
step_good Decl st k new g h = cc
step_good Stmts st k new g h = closes_good st g k new (or_skip_take (stmt_move k (Stmts ∷ [])) new h)
step_good AssignRest st k new g h = assign_good st g k new h
step_good ElseRest st k new g h = if_take_skip (is_fixed Else k) _ new (Good st) h (both_true (closes (completion st)) (good st) g).1
step_good Args st k new g h = args_good st g k new h
step_good MoreArgs st k new g h =
    let e = ends_at CloseRound refl (completion st) (both_true (begins_with CloseRound (completion st)) (good st) g).0 in
    if_take_skip (is_fixed Comma k) _ new (Good st) h (both e (both e (both e (both e g))))
step_good Params st k new g h = params_good st g k new h
step_good MoreNames st k new g h = if_take_skip (is_fixed Comma k) _ new (Good st) h g
step_good Row st k new g h = row_good st g k new h
step_good ColumnRest st k new g h = if_take_skip (is_fixed OpenSquare k) _ new (Good st) h (both_true (begins_with OpenBrace (completion st)) (good st) g).1
step_good CarryList st k new g h = if_take_skip (is_fixed Carry k) _ new (Good st) h (both (both_true (begins_with OpenBrace (completion st)) (good st) g).0 g)
step_good MoreCarries st k new g h = if_take_skip (is_fixed Comma k) _ new (Good st) h (both (both_true (begins_with OpenBrace (completion st)) (good st) g).0 g)
step_good ReduceList st k new g h = if_take_skip (is_fixed Reduce k) _ new (Good st) h g
step_good MoreReduces st k new g h = if_take_skip (is_fixed Comma k) _ new (Good st) h g
step_good Reducer st k new g h = reducer_good st g (reducer_of k) new h
step_good Decls st k new g h = decl_good st g k new (or_skip_take (decl_move k (Decls ∷ [])) new h)

offer_good : (st next : List Symbol) (k : Kind) → good st ≡ true → offer st k ≡ Some next → good next ≡ true
offer_good [] next k g h = cc
offer_good (s ∷ st) next k g h = go (λ h. offer_good st next k (both_true (fits s (completion st)) (good st) g).1 h) (step s k) refl h
  where
    go : (offer st k ≡ Some next → good next ≡ true) → (m : Move) → step s k ≡ m → moved m (offer st k) st ≡ Some next → good next ≡ true
    go again (Take new) e h = let q : new ++ st ≡ next = cc in subst (λ (x : List Symbol). good x ≡ true) q (step_good s st k new g e)
    go again Skip e h = again h
    go again Refuse e h = cc

-- the stack after some tokens
abbrev pub reach : List Symbol → List Token → Option (List Symbol)
reach st [] = Some st
reach st (t ∷ ts) = elim (offer st t.kind) [ None ↦ None | Some next ↦ reach next ts ]

pub reach_good : (ts : List Token) (st next : List Symbol) → good st ≡ true → reach st ts ≡ Some next → good next ≡ true
reach_good [] st next g h = let e : st ≡ next = cc in subst (λ (x : List Symbol). good x ≡ true) e g
reach_good (t ∷ ts) st next g h = go (λ mid k q. reach_good ts mid next k q) (offer st t.kind) refl h
  where
    go : ((mid : List Symbol) → good mid ≡ true → reach mid ts ≡ Some next → good next ≡ true) → (o : Option (List Symbol)) → offer st t.kind ≡ o → elim o [ None ↦ None | Some next ↦ reach next ts ] ≡ Some next → good next ≡ true
    go again None e h = cc
    go again (Some mid) e h = again mid (offer_good st mid t.kind g e) h

pub reach_run : (ts us : List Token) (st next : List Symbol) → reach st ts ≡ Some next → run st (ts ++ us) ≡ run next us
reach_run [] us st next h = let e : st ≡ next = cc in ap (λ x. run x us) e
reach_run (t ∷ ts) us st next h = go (λ mid q. reach_run ts us mid next q) (offer st t.kind) h
  where
    go : ((mid : List Symbol) → reach mid ts ≡ Some next → run mid (ts ++ us) ≡ run next us) → (o : Option (List Symbol)) → elim o [ None ↦ None | Some next ↦ reach next ts ] ≡ Some next →
        elim o [ None ↦ Some (t ∷ ts ++ us) | Some more ↦ run more (ts ++ us) ] ≡ run next us
    go again None h = cc
    go again (Some mid) h = again mid h

-- the stack takes no further token, or may not end
abbrev pub Stuck : List Symbol → List Token → Type 0
Stuck st [] = finished st ≡ false
Stuck st (t ∷ ts) = offer st t.kind ≡ None

pub record Front (st : List Symbol) (ts rest : List Token) : Type 0 where
  pub front : List Token
  pub split : ts ≡ front ++ rest
  pub state : List Symbol
  pub reached : reach st front ≡ Some state
  pub stuck : Stuck state rest

pub fronts : (ts rest : List Token) (st : List Symbol) → run st ts ≡ Some rest → Front st ts rest
fronts [] rest st h = go (finished st) refl h
  where
    go : (b : Bool) → finished st ≡ b → (if b then None else Some []) ≡ Some rest → Front st [] rest
    go true e h = cc
    go false e h = let q : [] ≡ rest = cc in subst (λ (us : List Token). Front st [] us) q (record { front = []; split = refl; state = st; reached = refl; stuck = e })
fronts (t ∷ ts) rest st h = go (λ mid q. fronts ts rest mid q) (offer st t.kind) refl h
  where
    go : ((mid : List Symbol) → run mid ts ≡ Some rest → Front mid ts rest) → (o : Option (List Symbol)) → offer st t.kind ≡ o → elim o [ None ↦ Some (t ∷ ts) | Some more ↦ run more ts ] ≡ Some rest → Front st (t ∷ ts) rest
    go again None e h = let q : t ∷ ts ≡ rest = cc in subst (λ (us : List Token). Front st (t ∷ ts) us) q (record { front = []; split = refl; state = st; reached = refl; stuck = e })
    go again (Some mid) e h =
        let f = again mid h in
        record {
          front = t ∷ f.front;
          split = ap (λ us. t ∷ us) f.split;
          state = f.state;
          reached = ap (λ o. elim o [ None ↦ None | Some next ↦ reach next f.front ]) e ∙ f.reached;
          stuck = f.stuck;
        }

pub stuck_run : (st : List Symbol) (t : Token) (us : List Token) → offer st t.kind ≡ None → run st (t ∷ us) ≡ Some (t ∷ us)
stuck_run st t us h = ap (λ o. elim o [ None ↦ Some (t ∷ us) | Some more ↦ run more us ]) h

pub stuck_end : (st : List Symbol) → finished st ≡ false → run st [] ≡ Some []
stuck_end st h = ap (λ b. if b then None else Some []) h
