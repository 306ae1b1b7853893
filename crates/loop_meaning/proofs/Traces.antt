-- What every run does to tables and output, and what it notes, put together from what one note tells.
use Rattle.std.proofs.Common.{◌≡◌, ◌+◌, ◌++◌, ◌∷◌, [], ℕ, zero, suc, ℤ, pos, negsuc, ◌+ℤ◌, List}
use Rattle.std.proofs.Common.{Option, Some, None, Bool, true, false, cond, nat_lt, length, bytes_eq}
use Rattle.std.proofs.Common.{int_div, int_rem, All, refl}
use Rattle.std.specs.Int.{int_gap}
use Rattle.std.specs.Prelude.{⊤}
use Rattle.std.proofs.lemmas.List.Elements.{All-nil, All-cons, All-head, All-tail}
use Rattle.tp_value.specs.declared.Place.{Place}
use Rattle.tp_value.specs.declared.TrapKind.TheVariants.{Deep}
use Rattle.tp_value.specs.declared.Table.{Table}
use Rattle.tp_value.specs.declared.Stop.{Stop}
use Rattle.tp_value.specs.declared.Stop.TheVariants.{Done, Left, Trap, NoFuel}
use Rattle.loop_syntax.specs.declared.Name.{Name}
use Rattle.loop_syntax.specs.declared.BinOp.{BinOp}
use Rattle.loop_syntax.specs.declared.BinOp.TheVariants as op
use Rattle.loop_syntax.specs.declared.Expr.{Expr}
use Rattle.loop_syntax.specs.declared.Expr.TheVariants.{Int, Var, Cell', Rows, Cols, Neg', Bin'}
use Rattle.loop_syntax.specs.declared.Reduce.{Reduce}
use Rattle.loop_syntax.specs.declared.Stmt.{Stmt, Row_of-Stmt, end_of-Stmt, more_of-Stmt}
use Rattle.loop_syntax.specs.declared.Stmt.TheVariants.{Let, Set, Put, If', While', Loop', Par'}
use Rattle.loop_syntax.specs.declared.Stmt.TheVariants.{Fold, Call, Both, Print, Emit, Leave, Fill}
use Rattle.loop_syntax.specs.declared.Func.{Func}
use Rattle.loop_rules.specs.Names.{func_of}
use Rattle.loop_meaning.specs.declared.value.Answer.{Answer}
use Rattle.loop_meaning.specs.declared.value.Answer.TheVariants.{Number, Traps}
use Rattle.loop_meaning.specs.declared.value.Variable.{Variable}
use Rattle.loop_meaning.specs.State.{declare, table_of, has_cell, write_cell, State, Note, Reads}
use Rattle.loop_meaning.specs.State.{Writes, Emits, Chance, Ran, done, trapped, noted, after, go_on}
use Rattle.loop_meaning.specs.State.{tick, leave_block}
use Rattle.loop_meaning.specs.Expressions.{Value, eval, bind, bind_answer, read_cell, calculated}
use Rattle.loop_meaning.specs.Expressions.{divided}
use Rattle.loop_meaning.specs.Statements.{Setting, Called, given, given_answer, given_two}
use Rattle.loop_meaning.specs.Statements.{given_all, set_var, put_cell, choose, block, turns}
use Rattle.loop_meaning.specs.Statements.{iteration, iterate, too_wide, unless_wide, with_call}
use Rattle.loop_meaning.specs.Statements.{two_calls, run, run_all, run_list}
use Rattle.loop_meaning.specs.Calls.{bound, enter, no_value, call_on, call_at}
use Rattle.loop_meaning.specs.Leaving.{left_in, caught_by, caught}
use Rattle.loop_meaning.specs.Only.{StmtOnly, BlockOnly}

-- R tells of notes, of tables and output before them, and of tables and output after them
pub record Tells (R : List Note → List Table → List ℕ → List Table → List ℕ → Type 0) (writes prints : Bool) : Type 0 where
  pub nothing : (ts : List Table) (o : List ℕ) → R [] ts o ts o
  pub joins : (ns ms : List Note) (ts : List Table) (o : List ℕ) (us : List Table) (p : List ℕ) (vs : List Table) (q : List ℕ) → R ns ts o us p → R ms us p vs q → R (ns ++ ms) ts o vs q
  pub reads : (x : List ℕ) (i j : ℤ) (ts : List Table) (o : List ℕ) → R (Reads x i j ∷ []) ts o ts o
  pub chance : (ts : List Table) (o : List ℕ) → R (Chance ∷ []) ts o ts o
  pub puts : writes ≡ true → (x : List ℕ) (i j n : ℤ) (ts : List Table) (o : List ℕ) → has_cell (table_of ts x) i j ≡ true → R (Writes x i j ∷ []) ts o (write_cell ts x i j n) o
  pub shows : prints ≡ true → (ts : List Table) (o more : List ℕ) → R [] ts o ts (o ++ more)
  pub emits : prints ≡ true → (x : List ℕ) (ts : List Table) (o more : List ℕ) → R (Emits x ∷ []) ts o ts (o ++ more)

module _ (R : List Note → List Table → List ℕ → List Table → List ℕ → Type 0) (writes prints : Bool) (tells : Tells R writes prints) where
  abbrev Links : List Note → State → State → Type 0
  Links ns s t = R ns s.tables s.output t.tables t.output

  -- ---- expressions

  bind_reads : (v : Value) (f : ℤ → Value) (ts : List Table) (o : List ℕ) → R v.notes ts o ts o → ((n : ℤ) → R (f n).notes ts o ts o) → R (bind v f).notes ts o ts o
  bind_reads v f ts o h k = go v.answer
    where
      go : (a : Answer) → R (bind_answer a v.notes f).notes ts o ts o
      go (Number n) = tells.joins v.notes (f n).notes ts o ts o ts o h (k n)
      go (Traps x p) = h

  divided_reads : (f : ℤ → ℤ → ℤ) (p : Place) (a b : ℤ) (ts : List Table) (o : List ℕ) → R (divided f p a b).notes ts o ts o
  divided_reads f p a (pos zero) ts o = tells.nothing ts o
  divided_reads f p a (pos (suc k)) ts o = tells.nothing ts o
  divided_reads f p a (negsuc k) ts o = tells.nothing ts o

  calculated_reads : (w : BinOp) (p : Place) (a b : ℤ) (ts : List Table) (o : List ℕ) → R (calculated w p a b).notes ts o ts o
  calculated_reads op.Div p a b ts o = divided_reads int_div p a b ts o
  calculated_reads op.Rem p a b ts o = divided_reads int_rem p a b ts o
  calculated_reads op.Add p a b ts o = tells.nothing ts o
  calculated_reads op.Sub p a b ts o = tells.nothing ts o
  calculated_reads op.Mul p a b ts o = tells.nothing ts o
  calculated_reads op.Eq p a b ts o = tells.nothing ts o
  calculated_reads op.Ne p a b ts o = tells.nothing ts o
  calculated_reads op.Lt p a b ts o = tells.nothing ts o
  calculated_reads op.Le p a b ts o = tells.nothing ts o
  calculated_reads op.Gt p a b ts o = tells.nothing ts o
  calculated_reads op.Ge p a b ts o = tells.nothing ts o

  cell_reads : (us : List Table) (x : Name) (i j : ℤ) (ts : List Table) (o : List ℕ) → R (read_cell us x i j).notes ts o ts o
  cell_reads us x i j ts o = go (has_cell (table_of us x.text.items) i j) refl
    where
      go : (b : Bool) → has_cell (table_of us x.text.items) i j ≡ b → R (read_cell us x i j).notes ts o ts o
      go true e = rw (e, read_cell) (tells.reads x.text.items i j ts o)
      go false e = rw (e, read_cell) (tells.nothing ts o)

  eval_reads : (vs : List Variable) (us : List Table) (e : Expr) (ts : List Table) (o : List ℕ) → R (eval vs us e).notes ts o ts o
  eval_reads vs us (Int n p) ts o = tells.nothing ts o
  eval_reads vs us (Var x) ts o = tells.nothing ts o
  eval_reads vs us (Cell' t p a q b) ts o =
      bind_reads (eval vs us a) (λ i. bind (eval vs us b) (λ j. read_cell us t i j)) ts o (eval_reads vs us a ts o)
      (λ i. bind_reads (eval vs us b) (λ j. read_cell us t i j) ts o (eval_reads vs us b ts o) (λ j. cell_reads us t i j ts o))
  eval_reads vs us (Rows t) ts o = tells.nothing ts o
  eval_reads vs us (Cols t) ts o = tells.nothing ts o
  eval_reads vs us (Neg' p a place) ts o = bind_reads (eval vs us a) _ ts o (eval_reads vs us a ts o) (λ n. tells.nothing ts o)
  eval_reads vs us (Bin' w place p a q b) ts o =
      bind_reads (eval vs us a) (λ m. bind (eval vs us b) (λ n. calculated w place m n)) ts o (eval_reads vs us a ts o)
      (λ m. bind_reads (eval vs us b) (λ n. calculated w place m n) ts o (eval_reads vs us b ts o) (λ n. calculated_reads w place m n ts o))

  -- ---- runs, however they stop

  pub record Traced (act : State → Ran) : Type 0 where
    pub links : (s : State) → Links (act s).notes s (act s).state

  traced_seq : (a b : State → Ran) → Traced a → Traced b → Traced (λ s. after (a s) b)
  traced_seq a b p q = record { links = λ s. go s (a s).stop }
    where
      go : (s : State) (x : Stop) → Links (go_on x (a s) b).notes s (go_on x (a s) b).state
      go s Done = tells.joins (a s).notes (b (a s).state).notes s.tables s.output (a s).state.tables (a s).state.output (b (a s).state).state.tables (b (a s).state).state.output (p.links s) (q.links (a s).state)
      go s (Left n) = p.links s
      go s (Trap k y) = p.links s
      go s NoFuel = p.links s

  traced_vars : (f : List Variable → List Variable) → Traced (λ s. done (record s { vars = f s.vars }))
  traced_vars f = record { links = λ s. tells.nothing s.tables s.output }

  traced_done : Traced done
  traced_done = record { links = λ s. tells.nothing s.tables s.output }

  traced_given : (e : Expr) (f : ℤ → State → Ran) → ((n : ℤ) → Traced (f n)) → Traced (λ s. given e s (λ n. f n s))
  traced_given e f p = record { links = λ s. go s (eval s.vars s.tables e).answer }
    where
      go : (s : State) (a : Answer) → Links (given_answer a (eval s.vars s.tables e).notes s (λ n. f n s)).notes s (given_answer a (eval s.vars s.tables e).notes s (λ n. f n s)).state
      go s (Number n) = tells.joins (eval s.vars s.tables e).notes (f n s).notes s.tables s.output s.tables s.output (f n s).state.tables (f n s).state.output (eval_reads s.vars s.tables e s.tables s.output) ((p n).links s)
      go s (Traps k x) = eval_reads s.vars s.tables e s.tables s.output

  traced_two : (a b : Expr) (f : ℤ → ℤ → State → Ran) → ((m n : ℤ) → Traced (f m n)) → Traced (λ s. given_two a b s (λ m n. f m n s))
  traced_two a b f p = traced_given a (λ i s. given b s (λ j. f i j s)) (λ i. traced_given b (f i) (p i))

  traced_args : (es : List Expr) (f : List ℤ → State → Ran) → ((ns : List ℤ) → Traced (f ns)) → Traced (λ s. given_all es s (λ ns. f ns s))
  traced_args [] f p = p []
  traced_args (e ∷ es) f p = traced_given e (λ n s. given_all es s (λ ns. f (n ∷ ns) s)) (λ n. traced_args es (λ ns. f (n ∷ ns)) (λ ns. p (n ∷ ns)))

  traced_choose : (n : ℤ) (a b : State → Ran) → Traced a → Traced b → Traced (choose n a b)
  traced_choose (pos zero) a b p q = q
  traced_choose (pos (suc n)) a b p q = p
  traced_choose (negsuc n) a b p q = p

  traced_leave : (a : State → Ran) → Traced a → Traced (λ s. leave_block (length s.vars) (a s))
  traced_leave a p = record { links = λ s. p.links s }

  traced_noted : (ns : List Note) (a : State → Ran) → ((ts : List Table) (o : List ℕ) → R ns ts o ts o) → Traced a → Traced (λ s. noted ns (a s))
  traced_noted ns a h p = record { links = λ s. tells.joins ns (a s).notes s.tables s.output s.tables s.output (a s).state.tables (a s).state.output (h s.tables s.output) (p.links s) }

  traced_put : writes ≡ true → (t : Name) (i j n : ℤ) → Traced (put_cell t i j n)
  traced_put w t i j n = record { links = λ s. go s (has_cell (table_of s.tables t.text.items) i j) refl }
    where
      go : (s : State) (b : Bool) → has_cell (table_of s.tables t.text.items) i j ≡ b → Links (put_cell t i j n s).notes s (put_cell t i j n s).state
      go s true e = rw (e, put_cell) (tells.puts w t.text.items i j n s.tables s.output e)
      go s false e = rw (e, put_cell) (tells.nothing s.tables s.output)

  traced_wide : (b : Bool) (p : Place) (f : State → Ran) → Traced f → Traced (unless_wide b p f)
  traced_wide true p f q = record { links = λ s. tells.nothing s.tables s.output }
  traced_wide false p f q = q

  traced_caught : (target : Option (List ℕ)) (a : State → Ran) → Traced a → Traced (λ s. caught target (a s))
  traced_caught target a p = record { links = λ s. go s (a s).stop target }
    where
      go : (s : State) (x : Stop) (target : Option (List ℕ)) → Links (caught_by x target (a s)).notes s (caught_by x target (a s)).state
      go s (Left n) (Some y) = p.links s
      go s (Left n) None = p.links s
      go s Done target = p.links s
      go s (Trap k y) target = p.links s
      go s NoFuel target = p.links s

  module _ (fuel : ℕ) where
    traced_tick : Traced (tick fuel)
    traced_tick = record { links = λ s. go s (nat_lt s.ticks fuel) refl }
      where
        go : (s : State) (b : Bool) → nat_lt s.ticks fuel ≡ b → Links (tick fuel s).notes s (tick fuel s).state
        go s true e = rw e (tells.nothing s.tables s.output)
        go s false e = rw e (tells.nothing s.tables s.output)

    traced_turns : (n : ℕ) (e : Expr) (body : State → Ran) → Traced body → Traced (turns n fuel e body)
    unfolding turns
    traced_turns zero e body p = record { links = λ s. tells.nothing s.tables s.output }
    traced_turns (suc n) e body p =
        traced_given e (λ v. choose v (λ t. after (after (tick fuel t) body) (turns n fuel e body)) done)
        (λ v. traced_choose v _ done (traced_seq (λ t. after (tick fuel t) body) (turns n fuel e body) (traced_seq (tick fuel) body traced_tick p) (traced_turns n e body p)) traced_done)

    traced_iteration : (x : List ℕ) (body : State → Ran) (ns : List Note) (i : ℤ) → ((ts : List Table) (o : List ℕ) → R ns ts o ts o) → Traced body → Traced (iteration fuel x body ns i)
    traced_iteration x body ns i h p =
        traced_leave (λ s. after (tick fuel s) (λ t. noted ns (body (record t { vars = declare t.vars x i }))))
        (traced_seq (tick fuel) (λ t. noted ns (body (record t { vars = declare t.vars x i }))) traced_tick
        (traced_noted ns (λ t. body (record t { vars = declare t.vars x i })) h (record { links = λ s. p.links (record s { vars = declare s.vars x i }) })))

    pub traced_iterate : (n : ℕ) (x : List ℕ) (body : State → Ran) (again ns : List Note) (i : ℤ) → ((ts : List Table) (o : List ℕ) → R again ts o ts o) → ((ts : List Table) (o : List ℕ) → R ns ts o ts o) → Traced body
        → Traced (iterate fuel x body again ns n i)
    unfolding iterate
    traced_iterate zero x body again ns i g h p = traced_done
    traced_iterate (suc n) x body again ns i g h p =
        traced_seq (iteration fuel x body ns i) (iterate fuel x body again again n (i +ℤ pos 1)) (traced_iteration x body ns i h p)
        (traced_iterate n x body again again (i +ℤ pos 1) g g p)

  -- ---- statements, given what calls do

  traced_with_call : (c : State → Called) (f : ℤ → State → Ran) → Traced (λ s. (c s).ran) → ((n : ℤ) → Traced (f n)) → Traced (λ s. with_call (c s) f)
  traced_with_call c f p q = record { links = λ s. (traced_seq (λ t. (c t).ran) (f (c s).value) p (q (c s).value)).links s }

  abbrev pub CallsTraced : (List ℕ → Place → List ℤ → List Note → State → Called) → Type 0
  CallsTraced call = (f : List ℕ) (p : Place) (ns : List ℤ) (b : List Note) → ((ts : List Table) (o : List ℕ) → R b ts o ts o) → Traced (λ s. (call f p ns b s).ran)

  module _ (fuel : ℕ) (call : List ℕ → Place → List ℤ → List Note → State → Called) (calls : CallsTraced call) where
    abbrev under : List Reduce → Setting
    under rs = record { reduces = rs; fuel = fuel; call = call }

    traced_two_calls : (rs : List Reduce) (x f : Name) (ns : List ℤ) (y g : Name) (ms : List ℤ) → Traced (two_calls (under rs) x f ns y g ms (Chance ∷ []))
    traced_two_calls rs x f ns y g ms =
        traced_with_call (call f.text.items f.place ns (Chance ∷ [])) (λ v t. with_call (call g.text.items g.place ms [] t) (set v)) (calls f.text.items f.place ns (Chance ∷ []) tells.chance)
        (λ v. traced_with_call (call g.text.items g.place ms []) (set v) (calls g.text.items g.place ms [] tells.nothing)
        (λ w. record { links = λ u. tells.nothing u.tables u.output }))
      where
        set : ℤ → ℤ → State → Ran
        set v w u = done (set_var y w (set_var x v u))

    mutual
      traced_stmt : (rs : List Reduce) (st : Stmt) → StmtOnly writes prints st → Traced (run (under rs) st)
      traced_stmt rs (Let x e) l = traced_given e _ (λ n. record { links = λ s. tells.nothing s.tables s.output })
      traced_stmt rs (Set x e) l = traced_given e _ (λ n. record { links = λ s. tells.nothing s.tables s.output })
      traced_stmt rs (Put t a b e) l = traced_two a b _ (λ i j. traced_given e _ (λ n. traced_put l t i j n))
      traced_stmt rs (If' e p body q other) l =
          traced_given e _ (λ n. traced_choose n (block (run_all (under rs) body)) (block (run_all (under rs) other)) (traced_leave _ (traced_all rs body l.0)) (traced_leave _ (traced_all rs other l.1)))
      traced_stmt rs (While' e p body) l = traced_turns fuel (fuel + 1) e (block (run_all (under rs) body)) (traced_leave _ (traced_all rs body l))
      traced_stmt rs (Loop' x a b p body) l =
          traced_two a b _ (λ i j. traced_iterate fuel (int_gap i j) x.text.items (run_all (under rs) body) [] [] i tells.nothing tells.nothing (traced_all rs body l))
      traced_stmt rs (Par' place x a b carry_place carries reduces p body) l =
          traced_two a b _ (λ i j. traced_wide (too_wide i j) place _ (traced_caught (left_in body) _
          (traced_iterate fuel (int_gap i j) x.text.items (run_all (under reduces.items) body) (Chance ∷ []) [] i tells.chance tells.nothing (traced_all reduces.items body l))))
      traced_stmt rs (Fold x e) l = traced_given e _ (λ n. record { links = λ s. tells.nothing s.tables s.output })
      traced_stmt rs (Call x f) l =
          traced_args f.args.items _ (λ ns. traced_with_call (call f.callee.text.items f.callee.place ns []) (λ v t. done (set_var x v t)) (calls f.callee.text.items f.callee.place ns [] tells.nothing)
          (λ n. record { links = λ s. tells.nothing s.tables s.output }))
      traced_stmt rs (Both x f y g) l =
          traced_args f.args.items (λ ns s. given_all g.args.items s (λ ms. two_calls (under rs) x f.callee ns y g.callee ms (Chance ∷ []) s))
          (λ ns. traced_args g.args.items (λ ms. two_calls (under rs) x f.callee ns y g.callee ms (Chance ∷ [])) (λ ms. traced_two_calls rs x f.callee ns y g.callee ms))
      traced_stmt rs (Print place e) l = traced_given e _ (λ n. record { links = λ s. tells.shows l s.tables s.output _ })
      traced_stmt rs (Emit place t) l = record { links = λ s. tells.emits l t.text.items s.tables s.output _ }
      traced_stmt rs (Leave x e) l = traced_given e _ (λ n. record { links = λ s. tells.nothing s.tables s.output })
      traced_stmt rs (Fill f t r es) l = traced_done

      traced_all : {m : _} (rs : List Reduce) (row : Row_of-Stmt m) → BlockOnly writes prints row → Traced (run_all (under rs) row)
      traced_all rs end_of-Stmt l = traced_done
      traced_all rs (more_of-Stmt first rest) l = traced_seq (run (under rs) first) (run_all (under rs) rest) (traced_stmt rs first l.0) (traced_all rs rest l.1)

    pub traced_list : (rs : List Reduce) (ss : List Stmt) → All (StmtOnly writes prints) ss → Traced (run_list (under rs) ss)
    traced_list rs [] l = traced_done
    traced_list rs (first ∷ rest) l =
        traced_seq (run (under rs) first) (run_list (under rs) rest) (traced_stmt rs first (All-head (StmtOnly writes prints) first rest l)) (traced_list rs rest (All-tail (StmtOnly writes prints) first rest l))

  -- ---- calls

  abbrev FuncOnly : Func → Type 0
  FuncOnly f = All (StmtOnly writes prints) f.body.items

  abbrev FoundOnly : Option Func → Type 0
  FoundOnly None = ⊤
  FoundOnly (Some f) = FuncOnly f

  found_only : (fs : List Func) (x : List ℕ) → All FuncOnly fs → FoundOnly (func_of fs x)
  found_only [] x h = tt
  found_only (f ∷ fs) x h = go (bytes_eq f.name.text.items x) (found_only fs x (All-tail FuncOnly f fs h))
    where
      go : (b : Bool) → FoundOnly (func_of fs x) → FoundOnly (cond b (Some f) (func_of fs x))
      go true r = All-head FuncOnly f fs h
      go false r = r

  traced_enter : (fuel : ℕ) (call : List ℕ → Place → List ℤ → List Note → State → Called) → CallsTraced call → (o : Option Func) → FoundOnly o → (ns : List ℤ) (b : List Note) → ((ts : List Table) (out : List ℕ) → R b ts out ts out)
      → Traced (λ s. (enter (record { reduces = []; fuel = fuel; call = call }) o ns b s).ran)
  traced_enter fuel call calls None l ns b h = traced_noted b done h traced_done
  traced_enter fuel call calls (Some f) l ns b h = record { links = λ s. (traced_seq body end begun ended).links s }
    where
      body : State → Ran
      body s = noted b (run_list (record { reduces = []; fuel = fuel; call = call }) f.body.items (record s { vars = bound f.params.items ns }))

      end : State → Ran
      end s = given f.result s (λ n. done s)

      begun : Traced body
      begun = traced_noted b (λ s. run_list (record { reduces = []; fuel = fuel; call = call }) f.body.items (record s { vars = bound f.params.items ns })) h
          (record { links = λ s. (traced_list fuel call calls [] f.body.items l).links (record s { vars = bound f.params.items ns }) })

      ended : Traced end
      ended = traced_given f.result (λ n s. done s) (λ n. traced_done)

  traced_call_on : (fuel : ℕ) (go : State → Called) → Traced (λ s. (go s).ran) → Traced (λ s. (call_on (tick fuel s).stop (tick fuel s) go).ran)
  traced_call_on fuel go p = record { links = λ s. on s (tick fuel s).stop }
    where
      on : (s : State) (x : Stop) → Links (call_on x (tick fuel s) go).ran.notes s (call_on x (tick fuel s) go).ran.state
      on s Done =
          let t : State = (tick fuel s).state in
          tells.joins (tick fuel s).notes (go t).ran.notes s.tables s.output t.tables t.output (go t).ran.state.tables (go t).ran.state.output ((traced_tick fuel).links s) (p.links t)
      on s (Left n) = (traced_tick fuel).links s
      on s (Trap k q) = (traced_tick fuel).links s
      on s NoFuel = (traced_tick fuel).links s

  pub traced_call : (fs : List Func) → All FuncOnly fs → (fuel room : ℕ) → CallsTraced (call_at fs fuel room)
  unfolding call_at
  traced_call fs l fuel zero f p ns b h = traced_call_on fuel (λ u. no_value (trapped Deep p u)) (record { links = λ s. tells.nothing s.tables s.output })
  traced_call fs l fuel (suc room) f p ns b h =
      traced_call_on fuel (enter (record { reduces = []; fuel = fuel; call = call_at fs fuel room }) (func_of fs f) ns b)
      (traced_enter fuel (call_at fs fuel room) (traced_call fs l fuel room) (func_of fs f) (found_only fs f l) ns b h)

-- ---- every statement may write and print

mutual
  any_stmt : (s : Stmt) → StmtOnly true true s
  any_stmt (Let x e) = tt
  any_stmt (Set x e) = tt
  any_stmt (Put t a b e) = refl
  any_stmt (If' e p body q other) = (any_block body, any_block other)
  any_stmt (While' e p body) = any_block body
  any_stmt (Loop' x a b p body) = any_block body
  any_stmt (Par' place x a b carry_place carries reduces p body) = any_block body
  any_stmt (Fold x e) = tt
  any_stmt (Call x f) = tt
  any_stmt (Both x f y g) = tt
  any_stmt (Print place e) = refl
  any_stmt (Emit place t) = refl
  any_stmt (Leave x e) = tt
  any_stmt (Fill f t r es) = tt

  any_block : {m : _} (row : Row_of-Stmt m) → BlockOnly true true row
  any_block end_of-Stmt = tt
  any_block (more_of-Stmt first rest) = (any_stmt first, any_block rest)

pub any_list : (ss : List Stmt) → All (StmtOnly true true) ss
any_list [] = All-nil (StmtOnly true true)
any_list (s ∷ ss) = All-cons (StmtOnly true true) s ss (any_stmt s) (any_list ss)

pub any_funcs : (fs : List Func) → All (λ (f : Func). All (StmtOnly true true) f.body.items) fs
any_funcs [] = All-nil (λ (f : Func). All (StmtOnly true true) f.body.items)
any_funcs (f ∷ fs) = All-cons (λ (f : Func). All (StmtOnly true true) f.body.items) f fs (any_list f.body.items) (any_funcs fs)
