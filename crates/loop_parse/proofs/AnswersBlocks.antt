-- Statements, blocks, declarations and programs are read, or are refused as too deep.
use Rattle.std.proofs.Common.{◌≡◌, ℕ, ℤ, zero, suc, ◌<◌, ◌≤◌, List, [], ◌∷◌, length, Ok, Bool, true}
use Rattle.std.proofs.Common.{false, if◌then◌else◌, refl, sym, ap, subst, ◌∙◌, arith}
use Rattle.tp_value.specs.declared.values.Place.{Place}
use Rattle.loop_syntax.specs.Tree.{Spelled, Tree, RowTree, RVar, RInt, CarryTree, CRows, CCells}
use Rattle.loop_syntax.specs.Tree.{ReduceTree, AppTree, Node, NLet, NSet, NPut, NIf, NWhile, NLoop}
use Rattle.loop_syntax.specs.Tree.{NPar, NFold, NCall, NBoth, NPrint, NEmit, NLeave, Nodes, Last}
use Rattle.loop_syntax.specs.Tree.{nodes, TInput, TMade}
use Rattle.loop_parse.specs.declared.terminal.Fixed.{Fixed}
use Rattle.loop_parse.specs.declared.terminal.Fixed.TheVariants as words
use Rattle.loop_parse.specs.declared.terminal.Fixed.TheVariants.{Comma, OpenBrace, CloseBrace}
use Rattle.loop_parse.specs.declared.terminal.Fixed.TheVariants.{OpenRound, CloseRound, OpenSquare}
use Rattle.loop_parse.specs.declared.terminal.Fixed.TheVariants.{CloseSquare}
use Rattle.loop_parse.specs.Terms as kinds
use Rattle.loop_parse.specs.Terms.{Kind, Token, Is, IsName, IsLiteral}
use Rattle.loop_parse.specs.Expressions.{IsExpr}
use Rattle.loop_parse.specs.Grammar.{DeclTree, DTable, DFunc, tree_from, Item, The, At, AName}
use Rattle.loop_parse.specs.Grammar.{ALiteral, AnExpr, ABrace, AProgram, Decls, ADecl, Params}
use Rattle.loop_parse.specs.Grammar.{ABlock, Stmts, AStmt, Other, CarryList, MoreCarries, ACarry}
use Rattle.loop_parse.specs.Grammar.{ReduceList, AnApp, Args, MoreArgs, Makes, program, no_decl}
use Rattle.loop_parse.specs.Grammar.{decls, input_decl, table_decl, fn_decl, block, no_stmt, stmts}
use Rattle.loop_parse.specs.Grammar.{let_stmt, set_stmt, put_stmt, if_stmt, while_stmt, loop_stmt}
use Rattle.loop_parse.specs.Grammar.{par_stmt, fold_stmt, call_stmt, both_stmt, print_stmt}
use Rattle.loop_parse.specs.Grammar.{emit_stmt, leave_stmt, no_other, other, no_carry, carries, no_more_carry}
use Rattle.loop_parse.specs.Grammar.{more_carries, rows_item, cells_item, literal_item, app, no_arg}
use Rattle.loop_parse.specs.Grammar.{args, no_more_arg, more_args, FitAll, next_item}
use Rattle.loop_parse.specs.Reading.{Reply, Reader, Fault, Form, Deep, ◌>>=◌, tag, is_fixed, expect}
use Rattle.loop_parse.specs.Reading.{Limits, starts, begins_with, many_of, after_comma, further}
use Rattle.loop_parse.specs.Reading
use Rattle.loop_parse.specs.Expressions.{plain, compare, one, more, factor, times, primary, negated}
use Rattle.loop_parse.specs.Expressions.{literal, variable, cell, rows, cols, bracketed, IsSum}
use Rattle.loop_parse.specs.Expressions.{IsProduct, IsUnary, IsPrimary}
use Rattle.loop_parse.proofs.Items.{Out, Full, Bad, Part, whole, bad, Parts, wholes, Headed}
use Rattle.loop_parse.proofs.Items.{deep_head, head, headed, Opened, opened, open_part, TheHead}
use Rattle.loop_parse.proofs.Items.{the_head, head_the, AtHead, at_head, head_at, NameHead}
use Rattle.loop_parse.proofs.Items.{name_head, head_name, LiteralHead, literal_head, head_literal}
use Rattle.loop_parse.proofs.Items.{none_left, First, first_the, first_block, first_more_args}
use Rattle.loop_parse.proofs.Items.{first_carries, first_reduces, ends, stop_first, starts_first}
use Rattle.loop_parse.proofs.Items.{fits_expr, deep_expr, all_length, fits_the, fits_at, fits_name}
use Rattle.loop_parse.proofs.Outer.{TooLong}
use Rattle.loop_parse.proofs.Answering.{Answers, answers_along, the_then, at_then, name_then}
use Rattle.loop_parse.proofs.Answering.{expr_then, brace_then, item_then, finished, sole, made}
use Rattle.loop_parse.proofs.Answering.{Follows, follow_full, follow_bad, follows_at, Split, stop}
use Rattle.loop_parse.proofs.Answering.{halt, go_on, many_answers, BaseAnswers}
use Rattle.loop_parse.proofs.Answers.{Next, next_of, first_after, first_weaken, follows_next}
use Rattle.loop_parse.proofs.Answers.{closing, heading, opening, ending, closing_ends}
use Rattle.loop_parse.proofs.Answers.{closing_comma, heading_comma, heading_carry, heading_after}
use Rattle.loop_parse.proofs.Answers.{after_carry, after_square, comma_go, none_before}
use Rattle.loop_parse.proofs.Answers.{params_answers, reduce_list_answers}

-- no expression begins with a closing bracket
mutual
  expr_starts : {ts rest : List Token} {e : Tree} → IsExpr ts e rest → begins_with CloseRound ts ≡ false
  expr_starts (plain z) = sum_starts z
  expr_starts (compare z i p y) = sum_starts z

  sum_starts : {ts rest : List Token} {e : Tree} → IsSum ts e rest → begins_with CloseRound ts ≡ false
  sum_starts (one z) = product_starts z
  sum_starts (more z i p y) = sum_starts z

  product_starts : {ts rest : List Token} {e : Tree} → IsProduct ts e rest → begins_with CloseRound ts ≡ false
  product_starts (factor z) = unary_starts z
  product_starts (times z i p y) = product_starts z

  unary_starts : {ts rest : List Token} {e : Tree} → IsUnary ts e rest → begins_with CloseRound ts ≡ false
  unary_starts (primary z) = primary_starts z
  unary_starts (negated i z) = ap (is_fixed CloseRound) i

  primary_starts : {ts rest : List Token} {e : Tree} → IsPrimary ts e rest → begins_with CloseRound ts ≡ false
  primary_starts (literal i) = ap (is_fixed CloseRound) i
  primary_starts (variable i) = ap (is_fixed CloseRound) i.named
  primary_starts (cell i o a p b q c) = ap (is_fixed CloseRound) i.named
  primary_starts (rows i a b c) = ap (is_fixed CloseRound) i
  primary_starts (cols i a b c) = ap (is_fixed CloseRound) i
  primary_starts (bracketed i z j) = ap (is_fixed CloseRound) i

long_starts : (ts us : List Token) → TooLong ts us → begins_with CloseRound ts ≡ false
long_starts [] us b = absurd (omega (arith, b.0))
long_starts (t ∷ ts) us b = expr_starts b.1.2

part_starts : {e : Tree} {ts : List Token} {o : Out} → Part (AnExpr e) ts o → begins_with CloseRound ts ≡ false
part_starts (whole z) = expr_starts (fits_expr z)
part_starts {ts = ts} (bad {us} d) = long_starts ts us (deep_expr d)

head_starts : {e : Tree} {items : List Item} {ts : List Token} {out : Out} → Headed (AnExpr e) items ts out → begins_with CloseRound ts ≡ false
head_starts (deep_head us q d) = part_starts (bad d)
head_starts (head mid z zs) = part_starts (whole z)

-- the word or the name that items begin with
abbrev leads : List Item → Bool
leads (The s ∷ items) = true
leads (At s p ∷ items) = true
leads (AName x ∷ items) = true
leads _ = false

abbrev lead_test : (Kind → Bool) → List Item → Bool
lead_test test (The s ∷ items) = test (kinds.Spelling s)
lead_test test (At s p ∷ items) = test (kinds.Spelling s)
lead_test test (AName x ∷ items) = test (kinds.Name x.text)
lead_test test _ = false

the_starts : {s : Fixed} {items : List Item} {ts : List Token} {out : Out} (test : Kind → Bool) → TheHead s items ts out → starts test ts ≡ test (kinds.Spelling s)
the_starts test (the_head t mid i e zs) = ap (starts test) e ∙ ap test i

at_starts : {s : Fixed} {p : Place} {items : List Item} {ts : List Token} {out : Out} (test : Kind → Bool) → AtHead s p items ts out → starts test ts ≡ test (kinds.Spelling s)
at_starts test (at_head t mid i e q zs) = ap (starts test) e ∙ ap test i

name_starts : {x : Spelled} {items : List Item} {ts : List Token} {out : Out} (test : Kind → Bool) → NameHead x items ts out → starts test ts ≡ test (kinds.Name x.text)
name_starts test (name_head t mid i e zs) = ap (starts test) e ∙ ap test i.named

lead_starts : {ts : List Token} {out : Out} (items : List Item) (test : Kind → Bool) → Parts items ts out → leads items ≡ true → starts test ts ≡ lead_test test items
lead_starts [] test ps h = cc
lead_starts (The s ∷ items) test ps h = the_starts test (head_the ps)
lead_starts (At s p ∷ items) test ps h = at_starts test (head_at ps)
lead_starts (AName x ∷ items) test ps h = name_starts test (head_name ps)
lead_starts (ALiteral n ∷ items) test ps h = cc
lead_starts (_ ∷ items) test ps h = cc

lead_strict : {ts rest : List Token} (items : List Item) → FitAll items ts rest → leads items ≡ true → length rest < length ts
lead_strict [] z h = cc
lead_strict (The s ∷ items) (next_item z zs) h = let f = fits_the z in let k = all_length zs in omega (arith, ap length f.2)
lead_strict (At s p ∷ items) (next_item z zs) h = let f = fits_at z in let k = all_length zs in omega (arith, ap length f.2)
lead_strict (AName x ∷ items) (next_item z zs) h = let f = fits_name z in let k = all_length zs in omega (arith, ap length f.2)
lead_strict (ALiteral n ∷ items) z h = cc
lead_strict (_ ∷ items) z h = cc

stmt_leads : {l : ℕ} {s : Node} {parts : List Item} → Makes (AStmt l s) parts → leads parts ≡ true
stmt_leads let_stmt = refl
stmt_leads _ = refl

stmt_begins : {l : ℕ} {s : Node} {parts : List Item} → Makes (AStmt l s) parts → lead_test Reading.begins_stmt parts ≡ true
stmt_begins let_stmt = refl
stmt_begins _ = refl

stmt_no_else : {l : ℕ} {s : Node} {parts : List Item} → Makes (AStmt l s) parts → lead_test (λ k. is_fixed words.Else k) parts ≡ false
stmt_no_else let_stmt = refl
stmt_no_else _ = refl

decl_leads : {d : DeclTree} {parts : List Item} → Makes (ADecl d) parts → leads parts ≡ true
decl_leads input_decl = refl
decl_leads _ = refl

decl_begins : {d : DeclTree} {parts : List Item} → Makes (ADecl d) parts → lead_test Reading.begins_decl parts ≡ true
decl_begins input_decl = refl
decl_begins _ = refl

ending_stmt : (s : Fixed) → ending s ≡ true → Reading.begins_stmt (kinds.Spelling s) ≡ false
ending_stmt words.CloseBrace h = refl
ending_stmt words.Return h = refl
ending_stmt _ h = cc

ending_else : (s : Fixed) → ending s ≡ true → is_fixed words.Else (kinds.Spelling s) ≡ false
ending_else words.CloseBrace h = refl
ending_else words.Return h = refl
ending_else _ h = cc

opening_ends : (s : Fixed) → opening s ≡ true → ends s ≡ true
opening_ends words.OpenBrace h = refl
opening_ends _ h = cc

-- a carry item
row_name : (t : Token) (x : Spelled) (ts : List Token) → IsName t x → Reading.row (t ∷ ts) ≡ Ok (RVar x, ts)
unfolding Reading.row
row_name t x ts i = ap (λ q. Reading.row_at q t ts) i.named ∙ ap (λ p. Ok (RVar (record { text = x.text; place = p }), ts)) (sym i.placed)

row_literal : (t : Token) (n : ℤ) (ts : List Token) → IsLiteral t n → Reading.row (t ∷ ts) ≡ Ok (RInt n, ts)
unfolding Reading.row
row_literal t n ts i = ap (λ q. Reading.row_at q t ts) i

name_row_then : {B : Type 0} {L : Type 0} {x : Spelled} {items : List Item} {ts : List Token} {out : Out} {w : B} (f : RowTree × List Token → Reply B) → NameHead x items ts out →
    ((mid : List Token) → length mid < length ts → Parts items mid out → Answers L (f (RVar x, mid)) w out) → Answers L (Reading.row ts >>= f) w out
name_row_then {x = x} f (name_head t mid i e ys) next = answers_along (ap (λ (u : List Token). Reading.row u >>= f) e ∙ ap (λ r. r >>= f) (row_name t x mid i)) (next mid (omega (arith, ap length e)) ys)

literal_row_then : {B : Type 0} {L : Type 0} {n : ℤ} {items : List Item} {ts : List Token} {out : Out} {w : B} (f : RowTree × List Token → Reply B) → LiteralHead n items ts out →
    ((mid : List Token) → length mid < length ts → Parts items mid out → Answers L (f (RInt n, mid)) w out) → Answers L (Reading.row ts >>= f) w out
literal_row_then {n = n} f (literal_head t mid i e ys) next = answers_along (ap (λ (u : List Token). Reading.row u >>= f) e ∙ ap (λ r. r >>= f) (row_literal t n mid i)) (next mid (omega (arith, ap length e)) ys)

column_answers : {L : Type 0} (t : Spelled) (k : RowTree) {j : Spelled} {ts : List Token} {out : Out} → Parts (The OpenSquare ∷ AName j ∷ The CloseSquare ∷ []) ts out → Answers L (Reading.column t k ts) (CCells t k j) out
unfolding Reading.column
column_answers t k ps = the_then OpenSquare _ ps (λ a1 m1 q1 p1. name_then _ p1 (λ m2 q2 p2. the_then CloseSquare _ p2 (λ a3 m3 q3 p3. finished p3)))

carry_made : {L : Type 0} {c : CarryTree} {parts : List Item} {ts : List Token} {out : Out} → Makes (ACarry c) parts → Parts parts ts out → Next after_carry out → Answers L (Reading.carry_item ts) c out
unfolding Reading.carry_item
carry_made (rows_item {t} {i}) ps f =
    name_then _ ps (λ m1 q1 p1. the_then OpenSquare _ p1 (λ a2 m2 q2 p2. name_row_then _ (head_name p2) (λ m3 q3 p3. the_then CloseSquare _ p3 (λ a4 m4 q4 p4.
    answers_along (ap (λ b. if b then Reading.column t (RVar i) m4 else Ok (CRows t i, m4)) (starts_first (λ k. is_fixed OpenSquare k) after_carry m4 (first_after after_carry f p4) after_square)) (finished p4)))))
carry_made (cells_item {t} {k} {j}) ps f =
    name_then _ ps (λ m1 q1 p1. the_then OpenSquare _ p1 (λ a2 m2 q2 p2. name_row_then _ (head_name p2) (λ m3 q3 p3. the_then CloseSquare _ p3 (λ a4 m4 q4 p4.
    answers_along (ap (λ b. if b then Reading.column t (RVar k) m4 else Ok (CRows t k, m4)) (the_starts (λ q. is_fixed OpenSquare q) (head_the p4))) (column_answers t (RVar k) p4)))))
carry_made (literal_item {t} {j} {n}) ps f =
    name_then _ ps (λ m1 q1 p1. the_then OpenSquare _ p1 (λ a2 m2 q2 p2. literal_row_then _ (head_literal p2) (λ m3 q3 p3. the_then CloseSquare _ p3 (λ a4 m4 q4 p4. column_answers t (RInt n) p4))))

carry_open : {L : Type 0} {c : CarryTree} {ts : List Token} {out : Out} → Opened (ACarry c) ts out → Next after_carry out → Answers L (Reading.carry_item ts) c out
carry_open (opened parts m ps) f = carry_made m ps f

more_carries_first : {xs : List CarryTree} {ts : List Token} {out : Out} → Next heading out → Opened (MoreCarries xs) ts out → First after_carry ts
more_carries_first {xs} {ts} {out} f (opened parts m ps) = at m ps
  where
    at : {xs : List CarryTree} {parts : List Item} → Makes (MoreCarries xs) parts → Parts parts ts out → First after_carry ts
    at no_more_carry ps = first_weaken heading after_carry ts heading_after (first_after heading f ps)
    at more_carries ps = first_the after_carry ps refl

carries_split : {L : Type 0} {xs : List CarryTree} {parts : List Item} {ts : List Token} {out : Out} → Next heading out → Makes (MoreCarries xs) parts → Parts parts ts out → Split MoreCarries L (λ k. is_fixed Comma k) (after_comma Reading.carry_item) xs ts out
carries_split f no_more_carry ps = stop refl (none_left ps)
carries_split f more_carries ps = comma_go ACarry Reading.carry_item (λ mid q o z g. carry_open (open_part z refl) (next_of after_carry o g (λ end zs. more_carries_first f (open_part (sole zs) refl)))) (head_the ps)

carries_open : {L : Type 0} {xs : List CarryTree} {ts : List Token} {out : Out} → Next heading out → Opened (MoreCarries xs) ts out → Split MoreCarries L (λ k. is_fixed Comma k) (after_comma Reading.carry_item) xs ts out
carries_open f (opened parts m ps) = carries_split f m ps

carries_answers : {L : Type 0} (n : ℕ) (xs : List CarryTree) (ts : List Token) (out : Out) → length ts ≤ n → Part (MoreCarries xs) ts out → Next heading out → Answers L (Reading.more_carries n ts) xs out
unfolding Reading.more_carries
carries_answers {L} n xs ts out l p f = many_answers MoreCarries L (λ k. is_fixed Comma k) (after_comma Reading.carry_item) n out (follows_next (λ k. is_fixed Comma k) heading out heading_comma f) (λ ys us q z. carries_open f (open_part z refl)) n xs ts l l p

abbrev carry_read : ℕ → List Token → Reply (Place × List CarryTree)
carry_read n ts = expect words.Carry ts >>= λ w. Reading.carry_item w.1 >>= λ c. Reading.more_carries n c.1 >>= λ cs. Ok ((w.0, c.0 ∷ cs.0), cs.1)

carry_list_made : {L : Type 0} {p q : Place} {cs : List CarryTree} {parts : List Item} {ts : List Token} {out : Out} (n : ℕ) → length ts ≤ n → Makes (CarryList p q cs) parts → Parts parts ts out → Next heading out → Answers L (Reading.carry_list n p ts) (q, cs) out
unfolding Reading.carry_list
carry_list_made {L} {p} {q} {ts = ts} {out = out} n l (no_carry e) ps f =
    subst (λ (x : Place). Answers L (Reading.carry_list n p ts) (x, []) out) (sym e)
    (answers_along (ap (λ b. if b then carry_read n ts else Ok ((p, []), ts)) (starts_first (λ k. is_fixed words.Carry k) heading ts (first_after heading f ps) heading_carry)) (finished ps))
carry_list_made {L} {p} {ts = ts} {out = out} n l (carries {q = q} {c} {cs}) ps f =
    answers_along (ap (λ b. if b then carry_read n ts else Ok ((p, []), ts)) (at_starts (λ k. is_fixed words.Carry k) (head_at ps)))
    (at_then words.Carry _ ps (λ m1 q1 p1. item_then _ p1 (λ o z g. carry_open (open_part z refl) (next_of after_carry o g (λ end zs. more_carries_first f (open_part (sole zs) refl)))) (λ m2 q2 p2. made (λ v. (q, c ∷ v)) (carries_answers n cs m2 out (omega arith) (sole p2) f))))

carry_list_open : {L : Type 0} {p q : Place} {cs : List CarryTree} {ts : List Token} {out : Out} (n : ℕ) → length ts ≤ n → Opened (CarryList p q cs) ts out → Next heading out → Answers L (Reading.carry_list n p ts) (q, cs) out
carry_list_open n l (opened parts m ps) f = carry_list_made n l m ps f

module _ (k : Limits) (L : Type 0) (base : BaseAnswers k L) (n : ℕ) where
  expr_answers : {e : Tree} (ts : List Token) (o : Out) → length ts ≤ n → Part (AnExpr e) ts o → ((mid : List Token) → o ≡ Full mid → First ends mid) → Answers L (k.outermost n ts) e o
  expr_answers {e} ts (Full rest) l (whole z) f = record { says = base.expr_reads n ts rest e (fits_expr z) l (stop_first rest (f rest refl)) }
  expr_answers ts (Bad us) l (bad d) f = record { says = λ q. base.expr_deeps q n ts us l (deep_expr d) }

  more_args_after : {es : List Tree} {ts : List Token} {out : Out} → Next closing out → Parts (MoreArgs es ∷ []) ts out → First ends ts
  more_args_after {es} {ts} {out} f ps = first_more_args ends ps refl (λ qs. first_weaken closing ends ts closing_ends (first_after closing f qs))

  args_split : {xs : List Tree} {parts : List Item} {ts : List Token} {out : Out} → length ts ≤ n → Next closing out → Makes (MoreArgs xs) parts → Parts parts ts out → Split MoreArgs L (λ q. is_fixed Comma q) (after_comma (k.outermost n)) xs ts out
  args_split l f no_more_arg ps = stop refl (none_left ps)
  args_split l f more_args ps = comma_go AnExpr (k.outermost n) (λ mid q o z g. expr_answers mid o (omega arith) z (λ end e. more_args_after f (g end e))) (head_the ps)

  args_open : {xs : List Tree} {ts : List Token} {out : Out} → length ts ≤ n → Next closing out → Opened (MoreArgs xs) ts out → Split MoreArgs L (λ q. is_fixed Comma q) (after_comma (k.outermost n)) xs ts out
  args_open l f (opened parts m ps) = args_split l f m ps

  more_args_answers : (xs : List Tree) (ts : List Token) (out : Out) → length ts ≤ n → Part (MoreArgs xs) ts out → Next closing out → Answers L (Reading.more_args k n ts) xs out
  unfolding Reading.more_args
  more_args_answers xs ts out l p f = many_answers MoreArgs L (λ q. is_fixed Comma q) (after_comma (k.outermost n)) n out (follows_next (λ q. is_fixed Comma q) closing out closing_comma f) (λ ys us q z. args_open q f (open_part z refl)) n xs ts l l p

  abbrev args_read : List Token → Reply (List Tree)
  args_read ts = k.outermost n ts >>= λ e. Reading.more_args k n e.1 >>= λ es. Ok (e.0 ∷ es.0, es.1)

  args_made : {xs : List Tree} {parts : List Item} {ts : List Token} {out : Out} → length ts ≤ n → Makes (Args xs) parts → Parts parts ts out → Next closing out → Answers L (Reading.args k n ts) xs out
  unfolding Reading.args
  args_made {ts = ts} l no_arg ps f = none_before (args_read ts) ts (first_after closing f ps) ps
  args_made {ts = ts} {out = out} l (args {e} {es}) ps f =
      answers_along (ap (λ b. if b then Ok ([], ts) else args_read ts) (head_starts (headed ps)))
      (expr_then base n _ l ps (λ mid zs. more_args_after f zs) (λ m1 q1 p1. made (λ v. e ∷ v) (more_args_answers es m1 out (omega arith) (sole p1) f)))

  args_opened : {xs : List Tree} {ts : List Token} {out : Out} → length ts ≤ n → Opened (Args xs) ts out → Next closing out → Answers L (Reading.args k n ts) xs out
  args_opened l (opened parts m ps) f = args_made l m ps f

  app_made : {f : AppTree} {parts : List Item} {ts : List Token} {out : Out} → length ts ≤ n → Makes (AnApp f) parts → Parts parts ts out → Answers L (Reading.app k n ts) f out
  unfolding Reading.app
  app_made l (app {x} {es}) ps = name_then _ ps (λ m1 q1 p1. the_then OpenRound _ p1 (λ a2 m2 q2 p2. item_then _ p2 (λ o z g. args_opened (omega arith) (open_part z refl) (next_of closing o g (λ mid zs. first_the closing zs refl))) (λ m3 q3 p3. the_then CloseRound _ p3 (λ a4 m4 q4 p4. finished p4))))

  app_open : {f : AppTree} {ts : List Token} {out : Out} → length ts ≤ n → Opened (AnApp f) ts out → Answers L (Reading.app k n ts) f out
  app_open l (opened parts m ps) = app_made l m ps

module _ (k : Limits) (L : Type 0) (base : BaseAnswers k L) (n : ℕ) (inner : ℕ → Reader (List Node))
    (inner_answers : (level : ℕ) (ss : List Node) (ts : List Token) (o : Out) → length ts < n → Part (Stmts level ss) ts o → Next ending o → Answers L (inner level ts) ss o) (level : ℕ) where
  block_made : {b : Nodes} {parts : List Item} {ts : List Token} {out : Out} → length ts ≤ n → Makes (ABlock level b) parts → Parts parts ts out → Answers L (Reading.block_of k inner level ts) b out
  block_made l (block {ss = ss}) ps =
      brace_then base level _ ps (λ a1 m1 q1 p1. item_then _ p1 (λ o z g. inner_answers (suc level) ss m1 o (omega arith) z (next_of ending o g (λ mid zs. first_the ending zs refl))) (λ m2 q2 p2. the_then CloseBrace _ p2 (λ a3 m3 q3 p3. finished p3)))

  block_open : {b : Nodes} {ts : List Token} {out : Out} → length ts ≤ n → Opened (ABlock level b) ts out → Answers L (Reading.block_of k inner level ts) b out
  block_open l (opened parts m ps) = block_made l m ps

  abbrev else_read : List Token → Reply Nodes
  else_read ts = expect words.Else ts >>= λ w. Reading.block_of k inner level w.1

  other_made : {b : Nodes} {parts : List Item} {ts : List Token} {out : Out} → length ts ≤ n → Makes (Other level b) parts → Parts parts ts out → Follows (λ q. is_fixed words.Else q) out → Answers L (Reading.else_of k inner level ts) b out
  other_made {ts = ts} {out = out} l no_other ps f = answers_along (ap (λ b. if b then else_read ts else Ok (Last, ts)) (follows_at (λ q. is_fixed words.Else q) out ts f (none_left ps))) (finished ps)
  other_made {ts = ts} l other ps f =
      answers_along (ap (λ b. if b then else_read ts else Ok (Last, ts)) (the_starts (λ q. is_fixed words.Else q) (head_the ps)))
      (the_then words.Else _ ps (λ a1 m1 q1 p1. block_open (omega arith) (open_part (sole p1) refl)))

  other_open : {b : Nodes} {ts : List Token} {out : Out} → length ts ≤ n → Opened (Other level b) ts out → Follows (λ q. is_fixed words.Else q) out → Answers L (Reading.else_of k inner level ts) b out
  other_open l (opened parts m ps) f = other_made l m ps f

  head_word : {s : Node} {ts mid : List Token} {out : Out} {w : Fixed} (t : Token) → Is w t → ts ≡ t ∷ mid → Answers L (Reading.stmt_at k inner level n w t mid) s out → Answers L (Reading.stmt_of k inner level n ts) s out
  head_word {mid = mid} t i e h = answers_along (ap (Reading.stmt_of k inner level n) e ∙ ap (λ q. Reading.stmt_by k inner level n q t mid) i) h

  let_head : {x : Spelled} {e : Tree} {ts : List Token} {out : Out} → length ts ≤ suc n → TheHead words.Let (AName x ∷ The words.Assign ∷ AnExpr e ∷ The words.Semi ∷ []) ts out → Answers L (Reading.stmt_of k inner level n ts) (NLet x e) out
  unfolding Reading.let_rest
  let_head {ts = ts} {out = out} l (the_head t mid i eq ps) = let less = ap length eq in head_word t i eq (name_then _ ps (λ m1 q1 p1. the_then words.Assign _ p1 (λ a2 m2 q2 p2. expr_then base n _ (omega arith) p2 (λ mid zs. first_the ends zs refl) (λ m3 q3 p3. the_then words.Semi _ p3 (λ a4 m4 q4 p4. finished p4)))))

  fold_head : {x : Spelled} {e : Tree} {ts : List Token} {out : Out} → length ts ≤ suc n → TheHead words.Fold (AName x ∷ The words.With ∷ AnExpr e ∷ The words.Semi ∷ []) ts out → Answers L (Reading.stmt_of k inner level n ts) (NFold x e) out
  unfolding Reading.fold_rest
  fold_head {ts = ts} {out = out} l (the_head t mid i eq ps) = let less = ap length eq in head_word t i eq (name_then _ ps (λ m1 q1 p1. the_then words.With _ p1 (λ a2 m2 q2 p2. expr_then base n _ (omega arith) p2 (λ mid zs. first_the ends zs refl) (λ m3 q3 p3. the_then words.Semi _ p3 (λ a4 m4 q4 p4. finished p4)))))

  call_head : {x : Spelled} {f : AppTree} {ts : List Token} {out : Out} → length ts ≤ suc n → TheHead words.Call (AName x ∷ The words.Assign ∷ AnApp f ∷ The words.Semi ∷ []) ts out → Answers L (Reading.stmt_of k inner level n ts) (NCall x f) out
  unfolding Reading.call_rest
  call_head {ts = ts} {out = out} l (the_head t mid i eq ps) = let less = ap length eq in head_word t i eq (name_then _ ps (λ m1 q1 p1. the_then words.Assign _ p1 (λ a2 m2 q2 p2. item_then _ p2 (λ o z g. app_open k L base n (omega arith) (open_part z refl)) (λ m3 q3 p3. the_then words.Semi _ p3 (λ a4 m4 q4 p4. finished p4)))))

  both_head : {x y : Spelled} {f g : AppTree} {ts : List Token} {out : Out} → length ts ≤ suc n → TheHead words.Both (AName x ∷ The words.Assign ∷ AnApp f ∷ The Comma ∷ AName y ∷ The words.Assign ∷ AnApp g ∷ The words.Semi ∷ []) ts out → Answers L (Reading.stmt_of k inner level n ts) (NBoth x f y g) out
  unfolding Reading.both_rest
  both_head {ts = ts} {out = out} l (the_head t mid i eq ps) = let less = ap length eq in head_word t i eq (name_then _ ps (λ m1 q1 p1. the_then words.Assign _ p1 (λ a2 m2 q2 p2. item_then _ p2 (λ o z g. app_open k L base n (omega arith) (open_part z refl)) (λ m3 q3 p3. the_then Comma _ p3 (λ a4 m4 q4 p4. name_then _ p4 (λ m5 q5 p5. the_then words.Assign _ p5 (λ a6 m6 q6 p6. item_then _ p6 (λ o z g. app_open k L base n (omega arith) (open_part z refl)) (λ m7 q7 p7. the_then words.Semi _ p7 (λ a8 m8 q8 p8. finished p8)))))))))

  print_head : {p : Place} {e : Tree} {ts : List Token} {out : Out} → length ts ≤ suc n → AtHead words.Print p (AnExpr e ∷ The words.Semi ∷ []) ts out → Answers L (Reading.stmt_of k inner level n ts) (NPrint p e) out
  unfolding Reading.print_rest
  print_head {e = e} {ts = ts} {out = out} l (at_head t mid i eq q0 ps) = let less = ap length eq in subst (λ (u : Place). Answers L (Reading.stmt_of k inner level n ts) (NPrint u e) out) (sym q0) (head_word t i eq (expr_then base n _ (omega arith) ps (λ mid zs. first_the ends zs refl) (λ m1 q1 p1. the_then words.Semi _ p1 (λ a2 m2 q2 p2. finished p2))))

  emit_head : {p : Place} {x : Spelled} {ts : List Token} {out : Out} → length ts ≤ suc n → AtHead words.Emit p (AName x ∷ The words.Semi ∷ []) ts out → Answers L (Reading.stmt_of k inner level n ts) (NEmit p x) out
  unfolding Reading.emit_rest
  emit_head {x = x} {ts = ts} {out = out} l (at_head t mid i eq q0 ps) = let less = ap length eq in subst (λ (u : Place). Answers L (Reading.stmt_of k inner level n ts) (NEmit u x) out) (sym q0) (head_word t i eq (name_then _ ps (λ m1 q1 p1. the_then words.Semi _ p1 (λ a2 m2 q2 p2. finished p2))))

  leave_head : {x : Spelled} {e : Tree} {ts : List Token} {out : Out} → length ts ≤ suc n → TheHead words.Leave (AName x ∷ The words.Assign ∷ AnExpr e ∷ The words.Semi ∷ []) ts out → Answers L (Reading.stmt_of k inner level n ts) (NLeave x e) out
  unfolding Reading.leave_rest
  leave_head {ts = ts} {out = out} l (the_head t mid i eq ps) = let less = ap length eq in head_word t i eq (name_then _ ps (λ m1 q1 p1. the_then words.Assign _ p1 (λ a2 m2 q2 p2. expr_then base n _ (omega arith) p2 (λ mid zs. first_the ends zs refl) (λ m3 q3 p3. the_then words.Semi _ p3 (λ a4 m4 q4 p4. finished p4)))))

  while_head : {e : Tree} {b : Nodes} {ts : List Token} {out : Out} → length ts ≤ suc n → TheHead words.While (AnExpr e ∷ ABlock level b ∷ []) ts out → Answers L (Reading.stmt_of k inner level n ts) (NWhile e b) out
  while_head {ts = ts} {out = out} l (the_head t mid i eq ps) = let less = ap length eq in head_word t i eq (expr_then base n _ (omega arith) ps (λ mid zs. first_block ends zs refl) (λ m1 q1 p1. item_then _ p1 (λ o z g. block_open (omega arith) (open_part z refl)) (λ m2 q2 p2. finished p2)))

  loop_head : {x : Spelled} {a b : Tree} {c : Nodes} {ts : List Token} {out : Out} → length ts ≤ suc n → TheHead words.Loop (AName x ∷ The words.In ∷ AnExpr a ∷ The words.DotDot ∷ AnExpr b ∷ ABlock level c ∷ []) ts out → Answers L (Reading.stmt_of k inner level n ts) (NLoop x a b c) out
  loop_head {ts = ts} {out = out} l (the_head t mid i eq ps) = let less = ap length eq in head_word t i eq (name_then _ ps (λ m1 q1 p1. the_then words.In _ p1 (λ a2 m2 q2 p2. expr_then base n _ (omega arith) p2 (λ mid zs. first_the ends zs refl) (λ m3 q3 p3. the_then words.DotDot _ p3 (λ a4 m4 q4 p4. expr_then base n _ (omega arith) p4 (λ mid zs. first_block ends zs refl) (λ m5 q5 p5. item_then _ p5 (λ o z g. block_open (omega arith) (open_part z refl)) (λ m6 q6 p6. finished p6)))))))

  if_head : {e : Tree} {b c : Nodes} {ts : List Token} {out : Out} → length ts ≤ suc n → TheHead words.If (AnExpr e ∷ ABlock level b ∷ Other level c ∷ []) ts out → Follows (λ q. is_fixed words.Else q) out → Answers L (Reading.stmt_of k inner level n ts) (NIf e b c) out
  if_head {e = e} {b} {c} l (the_head t mid i q ps) f = let less = ap length q in
      head_word t i q (expr_then base n _ (omega arith) ps (λ mid zs. first_block ends zs refl) (λ m1 q1 p1. item_then _ p1 (λ o z g. block_open (omega arith) (open_part z refl)) (λ m2 q2 p2. made (λ v. NIf e b v) (other_open (omega arith) (open_part (sole p2) refl) f))))

  name_word : {s : Node} {x : Spelled} {ts mid : List Token} {out : Out} (t : Token) → IsName t x → ts ≡ t ∷ mid → Answers L (Reading.assign_rest k n x mid) s out → Answers L (Reading.stmt_of k inner level n ts) s out
  name_word {x = x} {mid = mid} t i e h = answers_along (ap (Reading.stmt_of k inner level n) e ∙ ap (λ q. Reading.stmt_by k inner level n q t mid) i.named ∙ ap (λ (p : Place). Reading.assign_rest k n (record { text = x.text; place = p }) mid) (sym i.placed)) h

  set_second : {x : Spelled} {e : Tree} {all : List Token} {out : Out} (u : Token) (mid : List Token) → IsName u x → all ≡ u ∷ mid → length all ≤ suc n → TheHead words.Assign (AnExpr e ∷ The words.Semi ∷ []) mid out → Answers L (Reading.stmt_of k inner level n all) (NSet x e) out
  unfolding Reading.assign_rest Reading.set_rest
  set_second {x} u mid j d l (the_head t end i e ps) = let less = ap length d in let less2 = ap length e in name_word u j d (answers_along (ap (Reading.assign_rest k n x) e ∙ ap (λ q. Reading.assign_at k n x q t end) i) (expr_then base n _ (omega arith) ps (λ mid zs. first_the ends zs refl) (λ m1 q1 p1. the_then words.Semi _ p1 (λ a2 m2 q2 p2. finished p2))))

  set_head : {x : Spelled} {e : Tree} {ts : List Token} {out : Out} → length ts ≤ suc n → NameHead x (The words.Assign ∷ AnExpr e ∷ The words.Semi ∷ []) ts out → Answers L (Reading.stmt_of k inner level n ts) (NSet x e) out
  set_head l (name_head u mid j d zs) = set_second u mid j d l (head_the zs)

  put_second : {x : Spelled} {a b e : Tree} {all : List Token} {out : Out} (u : Token) (mid : List Token) → IsName u x → all ≡ u ∷ mid → length all ≤ suc n → TheHead OpenSquare (AnExpr a ∷ The CloseSquare ∷ The OpenSquare ∷ AnExpr b ∷ The CloseSquare ∷ The words.Assign ∷ AnExpr e ∷ The words.Semi ∷ []) mid out → Answers L (Reading.stmt_of k inner level n all) (NPut x a b e) out
  unfolding Reading.assign_rest Reading.put_rest
  put_second {x} u mid j d l (the_head t end i e ps) = let less = ap length d in let less2 = ap length e in name_word u j d (answers_along (ap (Reading.assign_rest k n x) e ∙ ap (λ q. Reading.assign_at k n x q t end) i) (expr_then base n _ (omega arith) ps (λ mid zs. first_the ends zs refl) (λ m1 q1 p1. the_then CloseSquare _ p1 (λ a2 m2 q2 p2. the_then OpenSquare _ p2 (λ a3 m3 q3 p3. expr_then base n _ (omega arith) p3 (λ mid zs. first_the ends zs refl) (λ m4 q4 p4. the_then CloseSquare _ p4 (λ a5 m5 q5 p5. the_then words.Assign _ p5 (λ a6 m6 q6 p6. expr_then base n _ (omega arith) p6 (λ mid zs. first_the ends zs refl) (λ m7 q7 p7. the_then words.Semi _ p7 (λ a8 m8 q8 p8. finished p8))))))))))

  put_head : {x : Spelled} {a b e : Tree} {ts : List Token} {out : Out} → length ts ≤ suc n → NameHead x (The OpenSquare ∷ AnExpr a ∷ The CloseSquare ∷ The OpenSquare ∷ AnExpr b ∷ The CloseSquare ∷ The words.Assign ∷ AnExpr e ∷ The words.Semi ∷ []) ts out → Answers L (Reading.stmt_of k inner level n ts) (NPut x a b e) out
  put_head l (name_head u mid j d zs) = put_second u mid j d l (head_the zs)

  -- a parallel loop
  par_head : {p q : Place} {x : Spelled} {a b : Tree} {cs : List CarryTree} {rs : List ReduceTree} {c : Nodes} {ts : List Token} {out : Out} → length ts ≤ suc n →
      AtHead words.Par p (AName x ∷ The words.In ∷ AnExpr a ∷ The words.DotDot ∷ AnExpr b ∷ CarryList p q cs ∷ ReduceList rs ∷ ABlock level c ∷ []) ts out →
      Answers L (Reading.stmt_of k inner level n ts) (NPar (record { place = p; var = x; from = a; to = b; carry_place = q; carries = cs; reduces = rs }) c) out
  par_head {p} {q} {x} {a} {b} {cs} {rs} {c} {ts} {out} l (at_head t mid i e q0 ps) = let less = ap length e in
      head_word t i e (subst (λ (u : Place). Answers L (Reading.par_of k inner level n u mid) (NPar (record { place = p; var = x; from = a; to = b; carry_place = q; carries = cs; reduces = rs }) c) out) q0
      (name_then _ ps (λ m1 q1 p1. the_then words.In _ p1 (λ a2 m2 q2 p2. expr_then base n _ (omega arith) p2 (λ mid zs. first_the ends zs refl) (λ m3 q3 p3. the_then words.DotDot _ p3 (λ a4 m4 q4 p4. expr_then base n _ (omega arith) p4 (λ mid zs. first_carries ends zs refl (λ ys. first_reduces ends ys refl (λ us. first_block ends us refl))) (λ m5 q5 p5. item_then _ p5 (λ o z g. carry_list_open n (omega arith) (open_part z refl) (next_of heading o g (λ mid zs. first_reduces heading zs refl (λ ys. first_block heading ys refl)))) (λ m6 q6 p6. item_then _ p6 (λ o z g. reduce_list_answers n _ _ o (omega arith) z (next_of opening o g (λ mid zs. first_block opening zs refl))) (λ m7 q7 p7. item_then _ p7 (λ o z g. block_open (omega arith) (open_part z refl)) (λ m8 q8 p8. finished p8))))))))))

  stmt_made : {s : Node} {parts : List Item} {ts : List Token} {out : Out} → length ts ≤ suc n → Makes (AStmt level s) parts → Parts parts ts out → Follows (λ q. is_fixed words.Else q) out → Answers L (Reading.stmt_of k inner level n ts) s out
  stmt_made l let_stmt ps f = let_head l (head_the ps)
  stmt_made l set_stmt ps f = set_head l (head_name ps)
  stmt_made l put_stmt ps f = put_head l (head_name ps)
  stmt_made l if_stmt ps f = if_head l (head_the ps) f
  stmt_made l while_stmt ps f = while_head l (head_the ps)
  stmt_made l loop_stmt ps f = loop_head l (head_the ps)
  stmt_made l par_stmt ps f = par_head l (head_at ps)
  stmt_made l fold_stmt ps f = fold_head l (head_the ps)
  stmt_made l call_stmt ps f = call_head l (head_the ps)
  stmt_made l both_stmt ps f = both_head l (head_the ps)
  stmt_made l print_stmt ps f = print_head l (head_at ps)
  stmt_made l emit_stmt ps f = emit_head l (head_at ps)
  stmt_made l leave_stmt ps f = leave_head l (head_the ps)

  stmt_open : {s : Node} {ts : List Token} {out : Out} → length ts ≤ suc n → Opened (AStmt level s) ts out → Follows (λ q. is_fixed words.Else q) out → Answers L (Reading.stmt_of k inner level n ts) s out
  stmt_open l (opened parts m ps) f = stmt_made l m ps f

  stmt_starts : {s : Node} {ts : List Token} {out : Out} → Opened (AStmt level s) ts out → (starts Reading.begins_stmt ts ≡ true) × (starts (λ q. is_fixed words.Else q) ts ≡ false)
  stmt_starts (opened parts m ps) = (lead_starts parts Reading.begins_stmt ps (stmt_leads m) ∙ stmt_begins m, lead_starts parts (λ q. is_fixed words.Else q) ps (stmt_leads m) ∙ stmt_no_else m)

  stmt_shorter : {s : Node} {ts mid : List Token} → Opened (AStmt level s) ts (Full mid) → length mid < length ts
  stmt_shorter (opened parts m (wholes z)) = lead_strict parts z (stmt_leads m)

  -- after a statement comes no else
  stmts_no_else : {ss : List Node} {parts : List Item} {ts : List Token} {out : Out} → Next ending out → Makes (Stmts level ss) parts → Parts parts ts out → starts (λ q. is_fixed words.Else q) ts ≡ false
  stmts_no_else {ts = ts} f no_stmt ps = starts_first (λ q. is_fixed words.Else q) ending ts (first_after ending f ps) ending_else
  stmts_no_else f stmts ps = heads (headed ps)
    where
      heads : {s : Node} {items : List Item} {ts : List Token} {out : Out} → Headed (AStmt level s) items ts out → starts (λ q. is_fixed words.Else q) ts ≡ false
      heads (deep_head us e d) = (stmt_starts (open_part (bad d) refl)).1
      heads (head mid z zs) = (stmt_starts (open_part (whole z) refl)).1

  stmts_else_open : {ss : List Node} {ts : List Token} {out : Out} → Next ending out → Opened (Stmts level ss) ts out → starts (λ q. is_fixed words.Else q) ts ≡ false
  stmts_else_open f (opened parts m ps) = stmts_no_else f m ps

  stmts_split : {ss : List Node} {parts : List Item} {ts : List Token} {out : Out} → length ts ≤ n → Next ending out → Makes (Stmts level ss) parts → Parts parts ts out → Split (Stmts level) L Reading.begins_stmt (Reading.stmt_of k inner level n) ss ts out
  stmts_split l f no_stmt ps = stop refl (none_left ps)
  stmts_split {ts = ts} {out = out} l f (stmts {s = s} {ss = ss}) ps = go (headed ps)
    where
      go : Headed (AStmt level s) (Stmts level ss ∷ []) ts out → Split (Stmts level) L Reading.begins_stmt (Reading.stmt_of k inner level n) (s ∷ ss) ts out
      go (deep_head us e d) = halt us e (stmt_starts (open_part (bad d) refl)).0 (λ q. (stmt_open (omega arith) (open_part (bad d) refl) follow_bad).says q)
      go (head mid z zs) =
          go_on s ss mid refl (stmt_starts (open_part (whole z) refl)).0
          (stmt_open (omega arith) (open_part (whole z) refl) (follow_full (stmts_else_open f (open_part (sole zs) refl)))).says
          (stmt_shorter (open_part (whole z) refl)) (sole zs)

  stmts_split_open : {ss : List Node} {ts : List Token} {out : Out} → length ts ≤ n → Next ending out → Opened (Stmts level ss) ts out → Split (Stmts level) L Reading.begins_stmt (Reading.stmt_of k inner level n) ss ts out
  stmts_split_open l f (opened parts m ps) = stmts_split l f m ps

  stmts_answers : (ss : List Node) (ts : List Token) (out : Out) → length ts ≤ n → Part (Stmts level ss) ts out → Next ending out → Answers L (Reading.stmts_of k inner n level ts) ss out
  stmts_answers ss ts out l p f = many_answers (Stmts level) L Reading.begins_stmt (Reading.stmt_of k inner level n) n out (follows_next Reading.begins_stmt ending out ending_stmt f) (λ ys us q z. stmts_split_open q f (open_part z refl)) n ss ts l l p

inner_stmts_answers : (k : Limits) (L : Type 0) (base : BaseAnswers k L) (n level : ℕ) (ss : List Node) (ts : List Token) (o : Out) → length ts < n → Part (Stmts level ss) ts o → Next ending o → Answers L (Reading.inner_stmts k n level ts) ss o
unfolding Reading.inner_stmts
inner_stmts_answers k L base zero level ss ts o l p f = absurd (omega arith)
inner_stmts_answers k L base (suc n) level ss ts o l p f = stmts_answers k L base n (Reading.inner_stmts k n) (λ lv xs us q h z g. inner_stmts_answers k L base n lv xs us q h z g) level ss ts o (omega arith) p f

-- declarations
main : Fixed → Bool
main words.Main = true
main _ = false

module _ (k : Limits) (L : Type 0) (base : BaseAnswers k L) (n : ℕ) where
  body_answers : (level : ℕ) (ss : List Node) (ts : List Token) (o : Out) → length ts ≤ n → Part (Stmts level ss) ts o → Next ending o → Answers L (Reading.stmts k n level ts) ss o
  unfolding Reading.stmts Reading.stmt
  body_answers level ss ts o l p f = stmts_answers k L base n (Reading.inner_stmts k n) (inner_stmts_answers k L base n) level ss ts o l p f

  decl_word : {d : DeclTree} {ts mid : List Token} {out : Out} {w : Fixed} (t : Token) → Is w t → ts ≡ t ∷ mid → Answers L (Reading.decl_at k n w t mid) d out → Answers L (Reading.decl k n ts) d out
  unfolding Reading.decl
  decl_word {mid = mid} t i e h = answers_along (ap (Reading.decl k n) e ∙ ap (λ q. Reading.decl_by k n q t mid) i) h

  input_head : {x : Spelled} {ts : List Token} {out : Out} → TheHead words.Input (AName x ∷ The words.Semi ∷ []) ts out → Answers L (Reading.decl k n ts) (DTable (TInput x)) out
  unfolding Reading.input_rest
  input_head (the_head t mid i e ps) = decl_word t i e (name_then _ ps (λ m1 q1 p1. the_then words.Semi _ p1 (λ a2 m2 q2 p2. finished p2)))

  table_head : {x : Spelled} {a b : Tree} {ts : List Token} {out : Out} → length ts ≤ suc n → TheHead words.Table (AName x ∷ The OpenSquare ∷ AnExpr a ∷ The CloseSquare ∷ The OpenSquare ∷ AnExpr b ∷ The CloseSquare ∷ The words.Semi ∷ []) ts out → Answers L (Reading.decl k n ts) (DTable (TMade x a b)) out
  unfolding Reading.table_rest
  table_head l (the_head t mid i e ps) = let less = ap length e in decl_word t i e (name_then _ ps (λ m1 q1 p1. the_then OpenSquare _ p1 (λ a2 m2 q2 p2. expr_then base n _ (omega arith) p2 (λ mid zs. first_the ends zs refl) (λ m3 q3 p3. the_then CloseSquare _ p3 (λ a4 m4 q4 p4. the_then OpenSquare _ p4 (λ a5 m5 q5 p5. expr_then base n _ (omega arith) p5 (λ mid zs. first_the ends zs refl) (λ m6 q6 p6. the_then CloseSquare _ p6 (λ a7 m7 q7 p7. the_then words.Semi _ p7 (λ a8 m8 q8 p8. finished p8)))))))))

  fn_head : {x : Spelled} {xs : List Spelled} {ss : List Node} {r : Tree} {ts : List Token} {out : Out} → length ts ≤ suc n → TheHead words.Fn (AName x ∷ The OpenRound ∷ Params xs ∷ The CloseRound ∷ ABrace 0 ∷ Stmts 1 ss ∷ The words.Return ∷ AnExpr r ∷ The words.Semi ∷ The CloseBrace ∷ []) ts out →
      Answers L (Reading.decl k n ts) (DFunc (record { name = x; params = xs; body = nodes ss; value = r })) out
  unfolding Reading.fn_rest
  fn_head {xs = xs} {ss = ss} l (the_head t mid i e ps) = let less = ap length e in
      decl_word t i e (name_then _ ps (λ m1 q1 p1. the_then OpenRound _ p1 (λ a2 m2 q2 p2. item_then _ p2 (λ o z g. params_answers n xs m2 o (omega arith) z (next_of closing o g (λ end zs. first_the closing zs refl))) (λ m3 q3 p3. the_then CloseRound _ p3 (λ a4 m4 q4 p4.
      brace_then base 0 _ p4 (λ a5 m5 q5 p5. item_then _ p5 (λ o z g. body_answers 1 ss m5 o (omega arith) z (next_of ending o g (λ end zs. first_the ending zs refl))) (λ m6 q6 p6. the_then words.Return _ p6 (λ a7 m7 q7 p7. expr_then base n _ (omega arith) p7 (λ end zs. first_the ends zs refl) (λ m8 q8 p8. the_then words.Semi _ p8 (λ a9 m9 q9 p9. the_then CloseBrace _ p9 (λ a10 m10 q10 p10. finished p10)))))))))))

  decl_made : {d : DeclTree} {parts : List Item} {ts : List Token} {out : Out} → length ts ≤ suc n → Makes (ADecl d) parts → Parts parts ts out → Answers L (Reading.decl k n ts) d out
  decl_made l input_decl ps = input_head (head_the ps)
  decl_made l table_decl ps = table_head l (head_the ps)
  decl_made l fn_decl ps = fn_head l (head_the ps)

  decl_open : {d : DeclTree} {ts : List Token} {out : Out} → length ts ≤ suc n → Opened (ADecl d) ts out → Answers L (Reading.decl k n ts) d out
  decl_open l (opened parts m ps) = decl_made l m ps

  decl_starts : {d : DeclTree} {ts : List Token} {out : Out} → Opened (ADecl d) ts out → starts Reading.begins_decl ts ≡ true
  decl_starts (opened parts m ps) = lead_starts parts Reading.begins_decl ps (decl_leads m) ∙ decl_begins m

  decl_shorter : {d : DeclTree} {ts mid : List Token} → Opened (ADecl d) ts (Full mid) → length mid < length ts
  decl_shorter (opened parts m (wholes z)) = lead_strict parts z (decl_leads m)

  decls_split : {ds : List DeclTree} {parts : List Item} {ts : List Token} {out : Out} → length ts ≤ n → Makes (Decls ds) parts → Parts parts ts out → Split Decls L Reading.begins_decl (Reading.decl k n) ds ts out
  decls_split l no_decl ps = stop refl (none_left ps)
  decls_split {ts = ts} {out = out} l (decls {d = d} {ds = ds}) ps = go (headed ps)
    where
      go : Headed (ADecl d) (Decls ds ∷ []) ts out → Split Decls L Reading.begins_decl (Reading.decl k n) (d ∷ ds) ts out
      go (deep_head us e q) = halt us e (decl_starts (open_part (bad q) refl)) (λ x. (decl_open (omega arith) (open_part (bad q) refl)).says x)
      go (head mid z zs) = go_on d ds mid refl (decl_starts (open_part (whole z) refl)) (decl_open (omega arith) (open_part (whole z) refl)).says (decl_shorter (open_part (whole z) refl)) (sole zs)

  decls_split_open : {ds : List DeclTree} {ts : List Token} {out : Out} → length ts ≤ n → Opened (Decls ds) ts out → Split Decls L Reading.begins_decl (Reading.decl k n) ds ts out
  decls_split_open l (opened parts m ps) = decls_split l m ps

  main_decl : (s : Fixed) → main s ≡ true → Reading.begins_decl (kinds.Spelling s) ≡ false
  unfolding main
  main_decl words.Main h = refl
  main_decl _ h = cc

  decls_answers : (ds : List DeclTree) (ts : List Token) (out : Out) → length ts ≤ n → Part (Decls ds) ts out → Next main out → Answers L (Reading.decls k n ts) ds out
  unfolding Reading.decls
  decls_answers ds ts out l p f = many_answers Decls L Reading.begins_decl (Reading.decl k n) n out (follows_next Reading.begins_decl main out main_decl f) (λ ys us q z. decls_split_open q (open_part z refl)) n ds ts l l p

  program_made : {ds : List DeclTree} {b : Nodes} {parts : List Item} {ts : List Token} {out : Out} → length ts ≤ n → Makes (AProgram ds b) parts → Parts parts ts out → Answers L (Reading.program k n ts) (tree_from ds b) out
  unfolding Reading.program Reading.block main
  program_made {ts = ts} l (program {ds} {b}) ps =
      item_then _ ps (λ o z g. decls_answers ds ts o l z (next_of main o g (λ end zs. first_the main zs refl))) (λ m1 q1 p1. the_then words.Main _ p1 (λ a2 m2 q2 p2.
      made (λ v. tree_from ds v) (block_open k L base n (Reading.inner_stmts k n) (inner_stmts_answers k L base n) 0 (omega arith) (open_part (sole p2) refl))))

  program_open : {ds : List DeclTree} {b : Nodes} {ts : List Token} {out : Out} → length ts ≤ n → Opened (AProgram ds b) ts out → Answers L (Reading.program k n ts) (tree_from ds b) out
  program_open l (opened parts m ps) = program_made l m ps

  pub program_answers : (ds : List DeclTree) (b : Nodes) (ts : List Token) (out : Out) → length ts ≤ n → Part (AProgram ds b) ts out → Answers L (Reading.program k n ts) (tree_from ds b) out
  program_answers ds b ts out l p = program_open l (open_part p refl)
