-- The readings of blocks, statements, declarations and programs are sound, and stop where the machine stops.
use Rattle.std.proofs.Common.{◌≡◌, ℕ, pos, zero, suc, ◌<◌, ◌≤◌, List, [], ◌∷◌, length, Ok, Bool}
use Rattle.std.proofs.Common.{true, false, if◌then◌else◌, refl, sym, ap, ◌∙◌, arith}
use Rattle.loop_syntax.specs.Tree.{TInt, Node, NIf, NWhile, NLoop, NPar, Nodes, Last, nodes, TMade}
use Rattle.loop_syntax.specs.Tree.{ProgramTree}
use Rattle.loop_parse.specs.declared.terminal.Fixed.TheVariants as words
use Rattle.loop_parse.specs.declared.terminal.Fixed.TheVariants.{Comma, OpenBrace, CloseBrace}
use Rattle.loop_parse.specs.declared.terminal.Fixed.TheVariants.{OpenRound, CloseRound, OpenSquare}
use Rattle.loop_parse.specs.declared.terminal.Fixed.TheVariants.{CloseSquare}
use Rattle.loop_parse.specs.Terms as kinds
use Rattle.loop_parse.specs.Terms.{Kind, Token, Is, IsName, IsLiteral}
use Rattle.loop_parse.specs.Grammar.{DeclTree, DTable, DFunc, tree_from, AProgram, Decls, ADecl}
use Rattle.loop_parse.specs.Grammar.{ABlock, Stmts, AStmt, Other, program, no_decl, decls}
use Rattle.loop_parse.specs.Grammar.{input_decl, table_decl, fn_decl, block, no_stmt, stmts}
use Rattle.loop_parse.specs.Grammar.{if_stmt, while_stmt, loop_stmt, par_stmt, no_other, other}
use Rattle.loop_parse.specs.Grammar.{Fits, the, at_place, a_name, by, none, DeepIn}
use Rattle.loop_parse.specs.Reading.{Reply, Reader, Fault, Form, Deep, ◌>>=◌, tag, is_fixed, expect}
use Rattle.loop_parse.specs.Reading.{Limits, starts, begins_with, many_of, after_comma, further}
use Rattle.loop_parse.specs.Reading
use Rattle.loop_parse.proofs.Items.{Deeply, under, now, ◌▸◌, ◌◂◌}
use Rattle.loop_parse.proofs.Machine.{Symbol, Want, AName as Naming, Stmt, Stmts as Stating}
use Rattle.loop_parse.proofs.Machine.{ElseRest, Params as Naming_all, CarryList as Carrying}
use Rattle.loop_parse.proofs.Machine.{ReduceList as Reducing, Decl, Decls as Declaring, Take, Skip}
use Rattle.loop_parse.proofs.Machine.{Refuse, an_expr as expr_on, a_block, step, run, stmt_move}
use Rattle.loop_parse.proofs.Machine.{decl_move, or_skip}
use Rattle.loop_parse.proofs.Exact.{Ends, done, stopped, bind, along, weaken, wider, deeper, took}
use Rattle.loop_parse.proofs.Exact.{refused, skipped}
use Rattle.loop_parse.proofs.Sound.{Base, Listing, many_law, the_law, name_item, params_law}
use Rattle.loop_parse.proofs.Sound.{let_law, fold_law, call_law, both_law, print_law, emit_law}
use Rattle.loop_parse.proofs.Sound.{leave_law, assign_law, carry_list_law, reduce_list_law}

stmts_cons : (level : ℕ) (s : Node) (ss : List Node) (ts mid rest : List Token) → Fits (AStmt level s) ts mid → Fits (Stmts level ss) mid rest → Fits (Stmts level (s ∷ ss)) ts rest
stmts_cons level s ss ts mid rest z zs = by stmts (z ◂ zs ◂ none)

-- a statement's move, with the statements after it
stmts_takes : (t : Token) (ts : List Token) (k : Kind) → t.kind ≡ k → Reading.begins_stmt k ≡ true → (st : List Symbol) → run (Stating ∷ st) (t ∷ ts) ≡ run (Stmt ∷ Stating ∷ st) (t ∷ ts)
stmts_takes t ts (kinds.Literal n) i h st = cc
stmts_takes t ts (kinds.Name x) i h st = took Stating t ts _ (ap (λ q. or_skip (stmt_move q (Stating ∷ []))) i) st ∙ sym (took Stmt t ts _ (ap (λ q. stmt_move q []) i) (Stating ∷ st))
stmts_takes t ts (kinds.Spelling words.Let) i h st = took Stating t ts _ (ap (λ q. or_skip (stmt_move q (Stating ∷ []))) i) st ∙ sym (took Stmt t ts _ (ap (λ q. stmt_move q []) i) (Stating ∷ st))
stmts_takes t ts (kinds.Spelling words.If) i h st = took Stating t ts _ (ap (λ q. or_skip (stmt_move q (Stating ∷ []))) i) st ∙ sym (took Stmt t ts _ (ap (λ q. stmt_move q []) i) (Stating ∷ st))
stmts_takes t ts (kinds.Spelling words.While) i h st = took Stating t ts _ (ap (λ q. or_skip (stmt_move q (Stating ∷ []))) i) st ∙ sym (took Stmt t ts _ (ap (λ q. stmt_move q []) i) (Stating ∷ st))
stmts_takes t ts (kinds.Spelling words.Loop) i h st = took Stating t ts _ (ap (λ q. or_skip (stmt_move q (Stating ∷ []))) i) st ∙ sym (took Stmt t ts _ (ap (λ q. stmt_move q []) i) (Stating ∷ st))
stmts_takes t ts (kinds.Spelling words.Par) i h st = took Stating t ts _ (ap (λ q. or_skip (stmt_move q (Stating ∷ []))) i) st ∙ sym (took Stmt t ts _ (ap (λ q. stmt_move q []) i) (Stating ∷ st))
stmts_takes t ts (kinds.Spelling words.Fold) i h st = took Stating t ts _ (ap (λ q. or_skip (stmt_move q (Stating ∷ []))) i) st ∙ sym (took Stmt t ts _ (ap (λ q. stmt_move q []) i) (Stating ∷ st))
stmts_takes t ts (kinds.Spelling words.Call) i h st = took Stating t ts _ (ap (λ q. or_skip (stmt_move q (Stating ∷ []))) i) st ∙ sym (took Stmt t ts _ (ap (λ q. stmt_move q []) i) (Stating ∷ st))
stmts_takes t ts (kinds.Spelling words.Both) i h st = took Stating t ts _ (ap (λ q. or_skip (stmt_move q (Stating ∷ []))) i) st ∙ sym (took Stmt t ts _ (ap (λ q. stmt_move q []) i) (Stating ∷ st))
stmts_takes t ts (kinds.Spelling words.Print) i h st = took Stating t ts _ (ap (λ q. or_skip (stmt_move q (Stating ∷ []))) i) st ∙ sym (took Stmt t ts _ (ap (λ q. stmt_move q []) i) (Stating ∷ st))
stmts_takes t ts (kinds.Spelling words.Emit) i h st = took Stating t ts _ (ap (λ q. or_skip (stmt_move q (Stating ∷ []))) i) st ∙ sym (took Stmt t ts _ (ap (λ q. stmt_move q []) i) (Stating ∷ st))
stmts_takes t ts (kinds.Spelling words.Leave) i h st = took Stating t ts _ (ap (λ q. or_skip (stmt_move q (Stating ∷ []))) i) st ∙ sym (took Stmt t ts _ (ap (λ q. stmt_move q []) i) (Stating ∷ st))
stmts_takes t ts (kinds.Spelling _) i h st = cc

stmts_skip : (k : Kind) → Reading.begins_stmt k ≡ false → step Stating k ≡ Skip
stmts_skip (kinds.Literal n) h = refl
stmts_skip (kinds.Name x) h = cc
stmts_skip (kinds.Spelling words.Let) h = cc
stmts_skip (kinds.Spelling words.If) h = cc
stmts_skip (kinds.Spelling words.While) h = cc
stmts_skip (kinds.Spelling words.Loop) h = cc
stmts_skip (kinds.Spelling words.Par) h = cc
stmts_skip (kinds.Spelling words.Fold) h = cc
stmts_skip (kinds.Spelling words.Call) h = cc
stmts_skip (kinds.Spelling words.Both) h = cc
stmts_skip (kinds.Spelling words.Print) h = cc
stmts_skip (kinds.Spelling words.Emit) h = cc
stmts_skip (kinds.Spelling words.Leave) h = cc
stmts_skip (kinds.Spelling _) h = refl

stmts_listing : (L : Type 0) (level : ℕ) → Listing (Stmts level) (λ s ts mid. Fits (AStmt level s) ts mid) L (λ ts us. L × Deeply (AStmt level) ts us) Reading.begins_stmt Stating (λ st. Stmt ∷ st)
stmts_listing L level = record {
  nil = λ ts. by no_stmt none;
  cons = stmts_cons level;
  deep_here = λ ts us d. (d.0, (d.1.0 ∷ [], under stmts (now d.1.1)));
  deep_later = λ s ts mid us z d. (d.0, (s ∷ d.1.0, under stmts (z ▸ now d.1.1)));
  takes = λ t ts st h. stmts_takes t ts t.kind refl h st;
  skips = λ t ts st h. skipped Stating t ts (stmts_skip t.kind h) st;
  stops = λ st. refl;
}

module _ (k : Limits) (L : Type 0) (base : Base k L) (n : ℕ) (inner : ℕ → Reader (List Node))
    (inner_law : (level : ℕ) (ts : List Token) → length ts < n → Ends (λ ss rest. Fits (Stmts level ss) ts rest) (λ st. run (Stating ∷ st) ts) (λ us. L × Deeply (Stmts level) ts us) (suc (length ts)) (inner level ts)) (level : ℕ) where
  block_law : (ts : List Token) → length ts ≤ n → Ends (λ b rest. Fits (ABlock level b) ts rest) (λ st. run (a_block st) ts) (λ us. L × Deeply (ABlock level) ts us) (length ts) (Reading.block_of k inner level ts)
  block_law ts l =
      bind (λ st. Stating ∷ Want CloseBrace ∷ st) _ (λ st. refl) (deeper (λ us d. (d.0, (nodes [], under (block {ss = []}) (now d.1)))) (base.brace_law level ts)) (λ p r1 z1 q1.
      bind (λ st. Want CloseBrace ∷ st) _ (λ st. refl) (deeper (λ us d. (d.0, (nodes d.1.0, under (block {ss = d.1.0}) (z1 ▸ now d.1.1)))) (inner_law (suc level) r1 (omega arith))) (λ ss r2 z2 q2.
      bind (λ st. st) _ (λ st. refl) (the_law CloseBrace r2) (λ p3 r3 z3 q3.
      done (by (block {ss = ss}) (z1 ◂ z2 ◂ z3 ◂ none)) (omega arith) (λ st. refl))))

  else_law : (ts : List Token) → length ts ≤ n → Ends (λ c rest. Fits (Other level c) ts rest) (λ st. run (ElseRest ∷ st) ts) (λ us. L × Deeply (Other level) ts us) (suc (length ts)) (Reading.else_of k inner level ts)
  else_law [] l = done (by no_other none) (omega arith) (λ st. refl)
  else_law (t ∷ ts) l = go (is_fixed words.Else t.kind) refl
    where
      go : (b : Bool) → is_fixed words.Else t.kind ≡ b → Ends (λ c rest. Fits (Other level c) (t ∷ ts) rest) (λ st. run (ElseRest ∷ st) (t ∷ ts)) (λ us. L × Deeply (Other level) (t ∷ ts) us) (suc (length (t ∷ ts)))
          (if b then (expect words.Else (t ∷ ts) >>= λ w. Reading.block_of k inner level w.1) else Ok (Last, t ∷ ts))
      go false h = done (by no_other none) (omega arith) (skipped ElseRest t ts (ap (λ b. if b then Take (a_block []) else Skip) h))
      go true h =
          bind (λ st. a_block st) _ (λ st. took ElseRest t ts (a_block []) (ap (λ b. if b then Take (a_block []) else Skip) h) st ∙ sym (took (Want words.Else) t ts [] (ap (λ b. if b then Take [] else Refuse) h) (a_block st))) (the_law words.Else (t ∷ ts)) (λ w r1 z1 q1.
          wider (omega arith) (deeper (λ us d. (d.0, (d.1.0, under other (z1 ▸ now d.1.1)))) (weaken (λ b rest z2. by other (z1 ◂ z2 ◂ none)) (block_law r1 (omega arith)))))

  if_law : (t : Token) → Is words.If t → (ts : List Token) → length ts ≤ n → Ends (λ s rest. Fits (AStmt level s) (t ∷ ts) rest) (λ st. run (expr_on (a_block (ElseRest ∷ st))) ts) (λ us. L × Deeply (AStmt level) (t ∷ ts) us) (length (t ∷ ts)) (Reading.if_of k inner level n ts)
  if_law t i ts l =
      bind (λ st. a_block (ElseRest ∷ st)) _ (λ st. refl) (deeper (λ us d. (d.0, (NIf d.1.0 Last Last, under if_stmt (the i ▸ now d.1.1)))) (base.expr_law n ts (omega arith))) (λ e r1 z1 q1.
      bind (λ st. ElseRest ∷ st) _ (λ st. refl) (deeper (λ us d. (d.0, (NIf e d.1.0 Last, under if_stmt (the i ▸ z1 ▸ now d.1.1)))) (block_law r1 (omega arith))) (λ b r2 z2 q2.
      bind (λ st. st) _ (λ st. refl) (deeper (λ us d. (d.0, (NIf e b d.1.0, under if_stmt (the i ▸ z1 ▸ z2 ▸ now d.1.1)))) (else_law r2 (omega arith))) (λ c r3 z3 q3.
      done (by if_stmt (the i ◂ z1 ◂ z2 ◂ z3 ◂ none)) (omega arith) (λ st. refl))))

  while_law : (t : Token) → Is words.While t → (ts : List Token) → length ts ≤ n → Ends (λ s rest. Fits (AStmt level s) (t ∷ ts) rest) (λ st. run (expr_on (a_block (st))) ts) (λ us. L × Deeply (AStmt level) (t ∷ ts) us) (length (t ∷ ts)) (Reading.while_of k inner level n ts)
  while_law t i ts l =
      bind (λ st. a_block (st)) _ (λ st. refl) (deeper (λ us d. (d.0, (NWhile d.1.0 Last, under while_stmt (the i ▸ now d.1.1)))) (base.expr_law n ts (omega arith))) (λ e r1 z1 q1.
      bind (λ st. st) _ (λ st. refl) (deeper (λ us d. (d.0, (NWhile e d.1.0, under while_stmt (the i ▸ z1 ▸ now d.1.1)))) (block_law r1 (omega arith))) (λ b r2 z2 q2.
      done (by while_stmt (the i ◂ z1 ◂ z2 ◂ none)) (omega arith) (λ st. refl)))

  loop_law : (t : Token) → Is words.Loop t → (ts : List Token) → length ts ≤ n → Ends (λ s rest. Fits (AStmt level s) (t ∷ ts) rest) (λ st. run (Naming ∷ Want words.In ∷ expr_on (Want words.DotDot ∷ expr_on (a_block (st)))) ts) (λ us. L × Deeply (AStmt level) (t ∷ ts) us) (length (t ∷ ts)) (Reading.loop_of k inner level n ts)
  loop_law t i ts l =
      bind (λ st. Want words.In ∷ expr_on (Want words.DotDot ∷ expr_on (a_block (st)))) _ (λ st. refl) (name_item ts) (λ x r1 z1 q1.
      bind (λ st. expr_on (Want words.DotDot ∷ expr_on (a_block (st)))) _ (λ st. refl) (the_law words.In r1) (λ p1 r2 z2 q2.
      bind (λ st. Want words.DotDot ∷ expr_on (a_block (st))) _ (λ st. refl) (deeper (λ us d. (d.0, (NLoop x d.1.0 d.1.0 Last, under loop_stmt (the i ▸ z1 ▸ z2 ▸ now d.1.1)))) (base.expr_law n r2 (omega arith))) (λ a r3 z3 q3.
      bind (λ st. expr_on (a_block (st))) _ (λ st. refl) (the_law words.DotDot r3) (λ p2 r4 z4 q4.
      bind (λ st. a_block (st)) _ (λ st. refl) (deeper (λ us d. (d.0, (NLoop x a d.1.0 Last, under loop_stmt (the i ▸ z1 ▸ z2 ▸ z3 ▸ z4 ▸ now d.1.1)))) (base.expr_law n r4 (omega arith))) (λ b r5 z5 q5.
      bind (λ st. st) _ (λ st. refl) (deeper (λ us d. (d.0, (NLoop x a b d.1.0, under loop_stmt (the i ▸ z1 ▸ z2 ▸ z3 ▸ z4 ▸ z5 ▸ now d.1.1)))) (block_law r5 (omega arith))) (λ c r6 z6 q6.
      done (by loop_stmt (the i ◂ z1 ◂ z2 ◂ z3 ◂ z4 ◂ z5 ◂ z6 ◂ none)) (omega arith) (λ st. refl)))))))

  par_law : (t : Token) → Is words.Par t → (ts : List Token) → length ts ≤ n → Ends (λ s rest. Fits (AStmt level s) (t ∷ ts) rest) (λ st. run (Naming ∷ Want words.In ∷ expr_on (Want words.DotDot ∷ expr_on (Carrying ∷ Reducing ∷ a_block (st)))) ts) (λ us. L × Deeply (AStmt level) (t ∷ ts) us) (length (t ∷ ts)) (Reading.par_of k inner level n t.place ts)
  par_law t i ts l =
      bind (λ st. Want words.In ∷ expr_on (Want words.DotDot ∷ expr_on (Carrying ∷ Reducing ∷ a_block (st)))) _ (λ st. refl) (name_item ts) (λ x r1 z1 q1.
      bind (λ st. expr_on (Want words.DotDot ∷ expr_on (Carrying ∷ Reducing ∷ a_block (st)))) _ (λ st. refl) (the_law words.In r1) (λ p1 r2 z2 q2.
      bind (λ st. Want words.DotDot ∷ expr_on (Carrying ∷ Reducing ∷ a_block (st))) _ (λ st. refl) (deeper (λ us d. (d.0, (NPar (record { place = t.place; var = x; from = d.1.0; to = d.1.0; carry_place = t.place; carries = []; reduces = [] }) Last, under par_stmt (at_place i ▸ z1 ▸ z2 ▸ now d.1.1)))) (base.expr_law n r2 (omega arith))) (λ a r3 z3 q3.
      bind (λ st. expr_on (Carrying ∷ Reducing ∷ a_block (st))) _ (λ st. refl) (the_law words.DotDot r3) (λ p2 r4 z4 q4.
      bind (λ st. Carrying ∷ Reducing ∷ a_block (st)) _ (λ st. refl) (deeper (λ us d. (d.0, (NPar (record { place = t.place; var = x; from = a; to = d.1.0; carry_place = t.place; carries = []; reduces = [] }) Last, under par_stmt (at_place i ▸ z1 ▸ z2 ▸ z3 ▸ z4 ▸ now d.1.1)))) (base.expr_law n r4 (omega arith))) (λ b r5 z5 q5.
      bind (λ st. Reducing ∷ a_block (st)) _ (λ st. refl) (deeper (λ us d. (d.0, (NPar (record { place = t.place; var = x; from = a; to = b; carry_place = d.1.0.0; carries = d.1.0.1; reduces = [] }) Last, under par_stmt (at_place i ▸ z1 ▸ z2 ▸ z3 ▸ z4 ▸ z5 ▸ now d.1.1)))) (carry_list_law k L base n t.place r5 (omega arith))) (λ cs r6 z6 q6.
      bind (λ st. a_block (st)) _ (λ st. refl) (deeper (λ us d. (d.0, (NPar (record { place = t.place; var = x; from = a; to = b; carry_place = cs.0; carries = cs.1; reduces = d.1.0 }) Last, under par_stmt (at_place i ▸ z1 ▸ z2 ▸ z3 ▸ z4 ▸ z5 ▸ z6 ▸ now d.1.1)))) (reduce_list_law k L base n r6 (omega arith))) (λ rs r7 z7 q7.
      bind (λ st. st) _ (λ st. refl) (deeper (λ us d. (d.0, (NPar (record { place = t.place; var = x; from = a; to = b; carry_place = cs.0; carries = cs.1; reduces = rs }) d.1.0, under par_stmt (at_place i ▸ z1 ▸ z2 ▸ z3 ▸ z4 ▸ z5 ▸ z6 ▸ z7 ▸ now d.1.1)))) (block_law r7 (omega arith))) (λ c r8 z8 q8.
      done (by par_stmt (at_place i ◂ z1 ◂ z2 ◂ z3 ◂ z4 ◂ z5 ◂ z6 ◂ z7 ◂ z8 ◂ none)) (omega arith) (λ st. refl)))))))))

  by_law : (t : Token) (ts : List Token) (kk : Kind) → t.kind ≡ kk → length ts ≤ n → Ends (λ s rest. Fits (AStmt level s) (t ∷ ts) rest) (λ st. run (Stmt ∷ st) (t ∷ ts)) (λ us. L × Deeply (AStmt level) (t ∷ ts) us) (length (t ∷ ts)) (Reading.stmt_by k inner level n kk t ts)
  by_law t ts (kinds.Literal m) i l = stopped (refused Stmt t ts (ap (λ q. stmt_move q []) i))
  by_law t ts (kinds.Name x) i l = along (took Stmt t ts _ (ap (λ q. stmt_move q []) i)) (assign_law k L base n level (record { text = x; place = t.place }) (t ∷ ts) ts (a_name (record { named = i; placed = refl })) l (omega arith))
  by_law t ts (kinds.Spelling words.Let) i l = along (took Stmt t ts _ (ap (λ q. stmt_move q []) i)) (let_law k L base n level t i ts l)
  by_law t ts (kinds.Spelling words.Fold) i l = along (took Stmt t ts _ (ap (λ q. stmt_move q []) i)) (fold_law k L base n level t i ts l)
  by_law t ts (kinds.Spelling words.Call) i l = along (took Stmt t ts _ (ap (λ q. stmt_move q []) i)) (call_law k L base n level t i ts l)
  by_law t ts (kinds.Spelling words.Both) i l = along (took Stmt t ts _ (ap (λ q. stmt_move q []) i)) (both_law k L base n level t i ts l)
  by_law t ts (kinds.Spelling words.Print) i l = along (took Stmt t ts _ (ap (λ q. stmt_move q []) i)) (print_law k L base n level t i ts l)
  by_law t ts (kinds.Spelling words.Emit) i l = along (took Stmt t ts _ (ap (λ q. stmt_move q []) i)) (emit_law k L base n level t i ts l)
  by_law t ts (kinds.Spelling words.Leave) i l = along (took Stmt t ts _ (ap (λ q. stmt_move q []) i)) (leave_law k L base n level t i ts l)
  by_law t ts (kinds.Spelling words.If) i l = along (took Stmt t ts _ (ap (λ q. stmt_move q []) i)) (if_law t i ts l)
  by_law t ts (kinds.Spelling words.While) i l = along (took Stmt t ts _ (ap (λ q. stmt_move q []) i)) (while_law t i ts l)
  by_law t ts (kinds.Spelling words.Loop) i l = along (took Stmt t ts _ (ap (λ q. stmt_move q []) i)) (loop_law t i ts l)
  by_law t ts (kinds.Spelling words.Par) i l = along (took Stmt t ts _ (ap (λ q. stmt_move q []) i)) (par_law t i ts l)
  by_law t ts (kinds.Spelling _) i l = stopped (refused Stmt t ts (ap (λ q. stmt_move q []) i))

  stmt_law : (ts : List Token) → length ts ≤ suc n → Ends (λ s rest. Fits (AStmt level s) ts rest) (λ st. run (Stmt ∷ st) ts) (λ us. L × Deeply (AStmt level) ts us) (length ts) (Reading.stmt_of k inner level n ts)
  stmt_law [] l = stopped (λ st. refl)
  stmt_law (t ∷ ts) l = by_law t ts t.kind refl (omega arith)

  stmts_law : (ts : List Token) → length ts ≤ n → Ends (λ ss rest. Fits (Stmts level ss) ts rest) (λ st. run (Stating ∷ st) ts) (λ us. L × Deeply (Stmts level) ts us) (suc (length ts)) (Reading.stmts_of k inner n level ts)
  stmts_law ts l = many_law (Stmts level) (λ s us mid. Fits (AStmt level s) us mid) L (λ us vs. L × Deeply (AStmt level) us vs) Reading.begins_stmt Stating (λ st. Stmt ∷ st) (stmts_listing L level) n (Reading.stmt_of k inner level n) (λ us q. stmt_law us (omega arith)) n ts l l

inner_stmts_law : (k : Limits) (L : Type 0) (base : Base k L) (n level : ℕ) (ts : List Token) → length ts < n → Ends (λ ss rest. Fits (Stmts level ss) ts rest) (λ st. run (Stating ∷ st) ts) (λ us. L × Deeply (Stmts level) ts us) (suc (length ts)) (Reading.inner_stmts k n level ts)
unfolding Reading.inner_stmts
inner_stmts_law k L base zero level ts l = absurd (omega arith)
inner_stmts_law k L base (suc n) level ts l = stmts_law k L base n (Reading.inner_stmts k n) (λ lv us q. inner_stmts_law k L base n lv us q) level ts (omega arith)

module _ (k : Limits) (L : Type 0) (base : Base k L) where
  body_law : (n level : ℕ) (ts : List Token) → length ts ≤ n → Ends (λ ss rest. Fits (Stmts level ss) ts rest) (λ st. run (Stating ∷ st) ts) (λ us. L × Deeply (Stmts level) ts us) (suc (length ts)) (Reading.stmts k n level ts)
  unfolding Reading.stmts Reading.stmt
  body_law n level ts l = stmts_law k L base n (Reading.inner_stmts k n) (inner_stmts_law k L base n) level ts l

  input_law : {V : List Token → Type 0} (t : Token) → Is words.Input t → (ts : List Token) → Ends (λ d rest. Fits (ADecl d) (t ∷ ts) rest) (λ st. run (Naming ∷ Want words.Semi ∷ st) ts) V (length (t ∷ ts)) (Reading.input_rest ts)
  unfolding Reading.input_rest
  input_law t i ts =
      bind (λ st. Want words.Semi ∷ st) _ (λ st. refl) (name_item ts) (λ x r1 z1 q1.
      bind (λ st. st) _ (λ st. refl) (the_law words.Semi r1) (λ p r2 z2 q2.
      done (by input_decl (the i ◂ z1 ◂ z2 ◂ none)) (omega arith) (λ st. refl)))

  table_law : (n : ℕ) (t : Token) → Is words.Table t → (ts : List Token) → length ts ≤ n → Ends (λ d rest. Fits (ADecl d) (t ∷ ts) rest) (λ st. run (Naming ∷ Want OpenSquare ∷ expr_on (Want CloseSquare ∷ Want OpenSquare ∷ expr_on (Want CloseSquare ∷ Want words.Semi ∷ st))) ts) (λ us. L × Deeply ADecl (t ∷ ts) us) (length (t ∷ ts)) (Reading.table_rest k n ts)
  unfolding Reading.table_rest
  table_law n t i ts l =
      bind (λ st. Want OpenSquare ∷ expr_on (Want CloseSquare ∷ Want OpenSquare ∷ expr_on (Want CloseSquare ∷ Want words.Semi ∷ st))) _ (λ st. refl) (name_item ts) (λ x r1 z1 q1.
      bind (λ st. expr_on (Want CloseSquare ∷ Want OpenSquare ∷ expr_on (Want CloseSquare ∷ Want words.Semi ∷ st))) _ (λ st. refl) (the_law OpenSquare r1) (λ p1 r2 z2 q2.
      bind (λ st. Want CloseSquare ∷ Want OpenSquare ∷ expr_on (Want CloseSquare ∷ Want words.Semi ∷ st)) _ (λ st. refl) (deeper (λ us d. (d.0, (DTable (TMade x d.1.0 d.1.0), under table_decl (the i ▸ z1 ▸ z2 ▸ now d.1.1)))) (base.expr_law n r2 (omega arith))) (λ a r3 z3 q3.
      bind (λ st. Want OpenSquare ∷ expr_on (Want CloseSquare ∷ Want words.Semi ∷ st)) _ (λ st. refl) (the_law CloseSquare r3) (λ p2 r4 z4 q4.
      bind (λ st. expr_on (Want CloseSquare ∷ Want words.Semi ∷ st)) _ (λ st. refl) (the_law OpenSquare r4) (λ p3 r5 z5 q5.
      bind (λ st. Want CloseSquare ∷ Want words.Semi ∷ st) _ (λ st. refl) (deeper (λ us d. (d.0, (DTable (TMade x a d.1.0), under table_decl (the i ▸ z1 ▸ z2 ▸ z3 ▸ z4 ▸ z5 ▸ now d.1.1)))) (base.expr_law n r5 (omega arith))) (λ b r6 z6 q6.
      bind (λ st. Want words.Semi ∷ st) _ (λ st. refl) (the_law CloseSquare r6) (λ p4 r7 z7 q7.
      bind (λ st. st) _ (λ st. refl) (the_law words.Semi r7) (λ p5 r8 z8 q8.
      done (by table_decl (the i ◂ z1 ◂ z2 ◂ z3 ◂ z4 ◂ z5 ◂ z6 ◂ z7 ◂ z8 ◂ none)) (omega arith) (λ st. refl)))))))))

  fn_law : (n : ℕ) (t : Token) → Is words.Fn t → (ts : List Token) → length ts ≤ n → Ends (λ d rest. Fits (ADecl d) (t ∷ ts) rest) (λ st. run (Naming ∷ Want OpenRound ∷ Naming_all ∷ Want CloseRound ∷ Want OpenBrace ∷ Stating ∷ Want words.Return ∷ expr_on (Want words.Semi ∷ Want CloseBrace ∷ st)) ts) (λ us. L × Deeply ADecl (t ∷ ts) us) (length (t ∷ ts)) (Reading.fn_rest k n ts)
  unfolding Reading.fn_rest
  fn_law n t i ts l =
      bind (λ st. Want OpenRound ∷ Naming_all ∷ Want CloseRound ∷ Want OpenBrace ∷ Stating ∷ Want words.Return ∷ expr_on (Want words.Semi ∷ Want CloseBrace ∷ st)) _ (λ st. refl) (name_item ts) (λ x r1 z1 q1.
      bind (λ st. Naming_all ∷ Want CloseRound ∷ Want OpenBrace ∷ Stating ∷ Want words.Return ∷ expr_on (Want words.Semi ∷ Want CloseBrace ∷ st)) _ (λ st. refl) (the_law OpenRound r1) (λ p1 r2 z2 q2.
      bind (λ st. Want CloseRound ∷ Want OpenBrace ∷ Stating ∷ Want words.Return ∷ expr_on (Want words.Semi ∷ Want CloseBrace ∷ st)) _ (λ st. refl) (deeper (λ us d. (d.0, (DFunc (record { name = x; params = d.1.0; body = nodes []; value = (TInt (pos 0) (record { line = 1; col = 1 })) }), under (fn_decl {ss = []} {e = (TInt (pos 0) (record { line = 1; col = 1 }))}) (the i ▸ z1 ▸ z2 ▸ now d.1.1)))) (params_law k L base n r2 (omega arith))) (λ ps r3 z3 q3.
      bind (λ st. Want OpenBrace ∷ Stating ∷ Want words.Return ∷ expr_on (Want words.Semi ∷ Want CloseBrace ∷ st)) _ (λ st. refl) (the_law CloseRound r3) (λ p2 r4 z4 q4.
      bind (λ st. Stating ∷ Want words.Return ∷ expr_on (Want words.Semi ∷ Want CloseBrace ∷ st)) _ (λ st. refl) (deeper (λ us d. (d.0, (DFunc (record { name = x; params = ps; body = nodes []; value = (TInt (pos 0) (record { line = 1; col = 1 })) }), under (fn_decl {ss = []} {e = (TInt (pos 0) (record { line = 1; col = 1 }))}) (the i ▸ z1 ▸ z2 ▸ z3 ▸ z4 ▸ now d.1)))) (base.brace_law 0 r4)) (λ p3 r5 z5 q5.
      bind (λ st. Want words.Return ∷ expr_on (Want words.Semi ∷ Want CloseBrace ∷ st)) _ (λ st. refl) (deeper (λ us d. (d.0, (DFunc (record { name = x; params = ps; body = nodes d.1.0; value = (TInt (pos 0) (record { line = 1; col = 1 })) }), under (fn_decl {ss = d.1.0} {e = (TInt (pos 0) (record { line = 1; col = 1 }))}) (the i ▸ z1 ▸ z2 ▸ z3 ▸ z4 ▸ z5 ▸ now d.1.1)))) (body_law n 1 r5 (omega arith))) (λ ss r6 z6 q6.
      bind (λ st. expr_on (Want words.Semi ∷ Want CloseBrace ∷ st)) _ (λ st. refl) (the_law words.Return r6) (λ p4 r7 z7 q7.
      bind (λ st. Want words.Semi ∷ Want CloseBrace ∷ st) _ (λ st. refl) (deeper (λ us d. (d.0, (DFunc (record { name = x; params = ps; body = nodes ss; value = d.1.0 }), under (fn_decl {ss = ss} {e = d.1.0}) (the i ▸ z1 ▸ z2 ▸ z3 ▸ z4 ▸ z5 ▸ z6 ▸ z7 ▸ now d.1.1)))) (base.expr_law n r7 (omega arith))) (λ e r8 z8 q8.
      bind (λ st. Want CloseBrace ∷ st) _ (λ st. refl) (the_law words.Semi r8) (λ p5 r9 z9 q9.
      bind (λ st. st) _ (λ st. refl) (the_law CloseBrace r9) (λ p6 r10 z10 q10.
      done (by (fn_decl {ss = ss} {e = e}) (the i ◂ z1 ◂ z2 ◂ z3 ◂ z4 ◂ z5 ◂ z6 ◂ z7 ◂ z8 ◂ z9 ◂ z10 ◂ none)) (omega arith) (λ st. refl)))))))))))

  decl_law : (n : ℕ) (ts : List Token) → length ts ≤ suc n → Ends (λ d rest. Fits (ADecl d) ts rest) (λ st. run (Decl ∷ st) ts) (λ us. L × Deeply ADecl ts us) (length ts) (Reading.decl k n ts)
  unfolding Reading.decl
  decl_law n [] l = stopped (λ st. refl)
  decl_law n (t ∷ ts) l = go t.kind refl
    where
      go : (kk : Kind) → t.kind ≡ kk → Ends (λ d rest. Fits (ADecl d) (t ∷ ts) rest) (λ st. run (Decl ∷ st) (t ∷ ts)) (λ us. L × Deeply ADecl (t ∷ ts) us) (length (t ∷ ts)) (Reading.decl_by k n kk t ts)
      go (kinds.Literal m) i = stopped (refused Decl t ts (ap (λ q. decl_move q []) i))
      go (kinds.Name x) i = stopped (refused Decl t ts (ap (λ q. decl_move q []) i))
      go (kinds.Spelling words.Input) i = along (took Decl t ts _ (ap (λ q. decl_move q []) i)) (input_law t i ts)
      go (kinds.Spelling words.Table) i = along (took Decl t ts _ (ap (λ q. decl_move q []) i)) (table_law n t i ts (omega arith))
      go (kinds.Spelling words.Fn) i = along (took Decl t ts _ (ap (λ q. decl_move q []) i)) (fn_law n t i ts (omega arith))
      go (kinds.Spelling _) i = stopped (refused Decl t ts (ap (λ q. decl_move q []) i))

decls_takes : (t : Token) (ts : List Token) (k : Kind) → t.kind ≡ k → Reading.begins_decl k ≡ true → (st : List Symbol) → run (Declaring ∷ st) (t ∷ ts) ≡ run (Decl ∷ Declaring ∷ st) (t ∷ ts)
decls_takes t ts (kinds.Literal n) i h st = cc
decls_takes t ts (kinds.Name x) i h st = cc
decls_takes t ts (kinds.Spelling words.Input) i h st = took Declaring t ts _ (ap (λ q. or_skip (decl_move q (Declaring ∷ []))) i) st ∙ sym (took Decl t ts _ (ap (λ q. decl_move q []) i) (Declaring ∷ st))
decls_takes t ts (kinds.Spelling words.Table) i h st = took Declaring t ts _ (ap (λ q. or_skip (decl_move q (Declaring ∷ []))) i) st ∙ sym (took Decl t ts _ (ap (λ q. decl_move q []) i) (Declaring ∷ st))
decls_takes t ts (kinds.Spelling words.Fn) i h st = took Declaring t ts _ (ap (λ q. or_skip (decl_move q (Declaring ∷ []))) i) st ∙ sym (took Decl t ts _ (ap (λ q. decl_move q []) i) (Declaring ∷ st))
decls_takes t ts (kinds.Spelling _) i h st = cc

decls_skip : (k : Kind) → Reading.begins_decl k ≡ false → step Declaring k ≡ Skip
decls_skip (kinds.Literal n) h = refl
decls_skip (kinds.Name x) h = refl
decls_skip (kinds.Spelling words.Input) h = cc
decls_skip (kinds.Spelling words.Table) h = cc
decls_skip (kinds.Spelling words.Fn) h = cc
decls_skip (kinds.Spelling _) h = refl

decls_listing : (L : Type 0) → Listing Decls (λ d ts mid. Fits (ADecl d) ts mid) L (λ ts us. L × Deeply ADecl ts us) Reading.begins_decl Declaring (λ st. Decl ∷ st)
decls_listing L = record {
  nil = λ ts. by no_decl none;
  cons = λ d ds ts mid rest z zs. by decls (z ◂ zs ◂ none);
  deep_here = λ ts us d. (d.0, (d.1.0 ∷ [], under decls (now d.1.1)));
  deep_later = λ x ts mid us z d. (d.0, (x ∷ d.1.0, under decls (z ▸ now d.1.1)));
  takes = λ t ts st h. decls_takes t ts t.kind refl h st;
  skips = λ t ts st h. skipped Declaring t ts (decls_skip t.kind h) st;
  stops = λ st. refl;
}

-- a program, with nothing said of what comes after it
pub record AtProgram (ts : List Token) (p : ProgramTree) (rest : List Token) : Type 0 where
  pub ds : List DeclTree
  pub body : Nodes
  pub fits : Fits (AProgram ds body) ts rest
  pub tree : p ≡ tree_from ds body

abbrev pub DeepProgram : List Token → List Token → Type 0
DeepProgram ts us = (ds : List DeclTree) × (b : Nodes) × DeepIn (AProgram ds b) ts us

pub program_law : (k : Limits) (L : Type 0) (base : Base k L) (n : ℕ) (ts : List Token) → length ts ≤ n → Ends (AtProgram ts) (λ st. run (Declaring ∷ Want words.Main ∷ a_block st) ts) (λ us. L × DeepProgram ts us) (length ts) (Reading.program k n ts)
unfolding Reading.program Reading.decls Reading.block
program_law k L base n ts l =
    bind (λ st. Want words.Main ∷ a_block st) _ (λ st. refl) (deeper (λ us d. (d.0, (d.1.0, Last, under program (now d.1.1)))) (many_law Decls (λ d us mid. Fits (ADecl d) us mid) L (λ us vs. L × Deeply ADecl us vs) Reading.begins_decl Declaring (λ st. Decl ∷ st) (decls_listing L) n (Reading.decl k n) (λ us q. decl_law k L base n us (omega arith)) n ts l l)) (λ ds r1 z1 q1.
    bind (λ st. a_block st) _ (λ st. refl) (the_law words.Main r1) (λ p r2 z2 q2.
    bind (λ st. st) _ (λ st. refl) (deeper (λ us d. (d.0, (ds, d.1.0, under program (z1 ▸ z2 ▸ now d.1.1)))) (block_law k L base n (Reading.inner_stmts k n) (inner_stmts_law k L base n) 0 r2 (omega arith))) (λ b r3 z3 q3.
    done (record { ds = ds; body = b; fits = by program (z1 ◂ z2 ◂ z3 ◂ none); tree = refl }) (omega arith) (λ st. refl))))
