-- What is never left: runs of statements with no `leave` but in a `par` of theirs.
use Rattle.std.proofs.Common.{◌≡◌, ◌∷◌, [], ℕ, zero, suc, ◌+◌, ◌-◌, ◌*◌, ℤ, pos, negsuc, ◌+ℤ◌, List}
use Rattle.std.proofs.Common.{Option, Some, None, Bool, true, false, cond, nat_lt, bytes_eq}
use Rattle.std.proofs.Common.{unsigned_abs, All, refl, sym, ◌∙◌}
use Rattle.std.specs.Int.{int_gap}
use Rattle.std.specs.Prelude.{⊤}
use Rattle.std.proofs.lemmas.List.Elements.{All-head, All-tail}
use Rattle.tp_value.specs.declared.limits.TheConstants.{MAX_CALL_DEPTH}
use Rattle.tp_value.specs.declared.Place.{Place}
use Rattle.tp_value.specs.declared.TrapKind.TheVariants.{Deep}
use Rattle.tp_value.specs.declared.Stop.{Stop}
use Rattle.tp_value.specs.declared.Stop.TheVariants.{Done, Left, Trap, NoFuel}
use Rattle.tp_value.specs.declared.Table.{Table}
use Rattle.loop_syntax.specs.declared.Name.{Name}
use Rattle.loop_syntax.specs.declared.Expr.{Expr}
use Rattle.loop_syntax.specs.declared.Reduce.{Reduce}
use Rattle.loop_syntax.specs.declared.Stmt.{Stmt, Row_of-Stmt, end_of-Stmt, more_of-Stmt}
use Rattle.loop_syntax.specs.declared.Stmt.TheVariants.{Let, Set, Put, If', While', Loop', Par'}
use Rattle.loop_syntax.specs.declared.Stmt.TheVariants.{Fold, Call, Both, Print, Emit, Leave, Fill}
use Rattle.loop_syntax.specs.declared.Func.{Func}
use Rattle.loop_syntax.specs.declared.TableDecl.{TableDecl}
use Rattle.loop_syntax.specs.declared.TableDecl.TheVariants.{Input, Made}
use Rattle.loop_syntax.specs.declared.Program.{Program}
use Rattle.loop_rules.specs.Names.{func_of}
use Rattle.loop_meaning.specs.declared.value.Answer.{Answer}
use Rattle.loop_meaning.specs.declared.value.Answer.TheVariants.{Number, Traps}
use Rattle.loop_meaning.specs.State.{declare, table_of, has_cell, State, Note, Chance, Ran, done}
use Rattle.loop_meaning.specs.State.{trapped, noted, after, go_on, tick}
use Rattle.loop_meaning.specs.Expressions.{eval}
use Rattle.loop_meaning.specs.Leaving.{or_else, left_of, left_in, left_list, caught_by, caught}
use Rattle.loop_meaning.specs.Statements.{Setting, Called, given, given_answer, given_two}
use Rattle.loop_meaning.specs.Statements.{given_all, set_var, put_cell, choose, block, turns}
use Rattle.loop_meaning.specs.Statements.{iteration, iterate, too_wide, unless_wide, with_call}
use Rattle.loop_meaning.specs.Statements.{two_calls, run, run_all, run_list}
use Rattle.loop_meaning.specs.Calls.{bound, enter, no_value, call_on, call_at, setting}
use Rattle.loop_meaning.specs.Meaning.{make_tables, unless_large, is_too_large, add_table}
use Rattle.loop_meaning.specs.Meaning.{zero_table, input_cells, first_state, whole_run, meaning}
use Rattle.loop_meaning.specs.Only.{LeavesNothing, IsNeverLeft}

-- runs that are never left
record Stays (act : State → Ran) : Type 0 where
  pub never : (s : State) (n : ℤ) → (act s).stop ≡ Left n → ⊥

stays_done : (f : State → State) → Stays (λ s. done (f s))
stays_done f = record { never = λ s n e. cc }

stays_seq : (a b : State → Ran) → Stays a → Stays b → Stays (λ s. after (a s) b)
stays_seq a b p q = record { never = λ s n. go s n (a s).stop }
  where
    go : (s : State) (n : ℤ) (x : Stop) → (go_on x (a s) b).stop ≡ Left n → ⊥
    go s n Done d = q.never (a s).state n d
    go s n (Left m) d = p.never s n d
    go s n (Trap k y) d = p.never s n d
    go s n NoFuel d = p.never s n d

-- whatever ends the iterations of a `par`, it isn't left itself
stays_caught : (target : Option (List ℕ)) (act : State → Ran) → Stays (λ s. caught target (act s))
stays_caught target act = record { never = λ s n. go s n (act s).stop refl target }
  where
    go : (s : State) (n : ℤ) (x : Stop) → (act s).stop ≡ x → (target : Option (List ℕ)) → (caught_by x target (act s)).stop ≡ Left n → ⊥
    go s n (Left m) e (Some y) d = cc
    go s n (Left m) e None d = cc
    go s n Done e target d = (let q : Done ≡ Left n = sym e ∙ d in cc)
    go s n (Trap k y) e target d = (let q : Trap k y ≡ Left n = sym e ∙ d in cc)
    go s n NoFuel e target d = (let q : NoFuel ≡ Left n = sym e ∙ d in cc)

stays_given : (e : Expr) (f : ℤ → State → Ran) → ((n : ℤ) → Stays (f n)) → Stays (λ s. given e s (λ n. f n s))
stays_given e f p = record { never = λ s n. go s n (eval s.vars s.tables e).answer (eval s.vars s.tables e).notes }
  where
    go : (s : State) (n : ℤ) (a : Answer) (ns : List Note) → (given_answer a ns s (λ m. f m s)).stop ≡ Left n → ⊥
    go s n (Number m) ns d = (p m).never s n d
    go s n (Traps k x) ns d = cc

stays_two : (a b : Expr) (f : ℤ → ℤ → State → Ran) → ((m n : ℤ) → Stays (f m n)) → Stays (λ s. given_two a b s (λ m n. f m n s))
stays_two a b f p = stays_given a (λ i s. given b s (λ j. f i j s)) (λ i. stays_given b (f i) (p i))

stays_args : (es : List Expr) (f : List ℤ → State → Ran) → ((ns : List ℤ) → Stays (f ns)) → Stays (λ s. given_all es s (λ ns. f ns s))
stays_args [] f p = p []
stays_args (e ∷ es) f p = stays_given e (λ n s. given_all es s (λ ns. f (n ∷ ns) s)) (λ n. stays_args es (λ ns. f (n ∷ ns)) (λ ns. p (n ∷ ns)))

stays_choose : (n : ℤ) (a b : State → Ran) → Stays a → Stays b → Stays (choose n a b)
stays_choose (pos zero) a b p q = q
stays_choose (pos (suc n)) a b p q = p
stays_choose (negsuc n) a b p q = p

stays_block : (a : State → Ran) → Stays a → Stays (block a)
stays_block a p = record { never = λ s n d. p.never s n d }

stays_put : (t : Name) (i j v : ℤ) → Stays (put_cell t i j v)
stays_put t i j v = record { never = λ s n. go s n (has_cell (table_of s.tables t.text.items) i j) refl }
  where
    go : (s : State) (n : ℤ) (b : Bool) → has_cell (table_of s.tables t.text.items) i j ≡ b → (put_cell t i j v s).stop ≡ Left n → ⊥
    go s n true e = rw (e, put_cell) (λ d. cc)
    go s n false e = rw (e, put_cell) (λ d. cc)

stays_wide : (b : Bool) (p : Place) (f : State → Ran) → Stays f → Stays (unless_wide b p f)
stays_wide true p f q = record { never = λ s n d. cc }
stays_wide false p f q = q

module _ (fuel : ℕ) where
  stays_tick : Stays (tick fuel)
  stays_tick = record { never = λ s n. go s n (nat_lt s.ticks fuel) refl }
    where
      go : (s : State) (n : ℤ) (b : Bool) → nat_lt s.ticks fuel ≡ b → (tick fuel s).stop ≡ Left n → ⊥
      go s n true e = rw e (λ d. cc)
      go s n false e = rw e (λ d. cc)

  stays_turns : (n : ℕ) (e : Expr) (body : State → Ran) → Stays body → Stays (turns n fuel e body)
  unfolding turns
  stays_turns zero e body p = record { never = λ s n d. cc }
  stays_turns (suc n) e body p =
      stays_given e (λ v. choose v (λ t. after (after (tick fuel t) body) (turns n fuel e body)) done)
      (λ v. stays_choose v _ done (stays_seq (λ t. after (tick fuel t) body) (turns n fuel e body) (stays_seq (tick fuel) body stays_tick p) (stays_turns n e body p)) (stays_done (λ s. s)))

  stays_iteration : (x : List ℕ) (body : State → Ran) (ns : List Note) (i : ℤ) → Stays body → Stays (iteration fuel x body ns i)
  stays_iteration x body ns i p =
      stays_block (λ s. after (tick fuel s) (λ t. noted ns (body (record t { vars = declare t.vars x i }))))
      (stays_seq (tick fuel) (λ t. noted ns (body (record t { vars = declare t.vars x i }))) stays_tick
      (record { never = λ s n d. p.never (record s { vars = declare s.vars x i }) n d }))

  stays_iterate : (n : ℕ) (x : List ℕ) (body : State → Ran) (again ns : List Note) (i : ℤ) → Stays body → Stays (iterate fuel x body again ns n i)
  unfolding iterate
  stays_iterate zero x body again ns i p = stays_done (λ s. s)
  stays_iterate (suc n) x body again ns i p =
      stays_seq (iteration fuel x body ns i) (iterate fuel x body again again n (i +ℤ pos 1)) (stays_iteration x body ns i p) (stays_iterate n x body again again (i +ℤ pos 1) p)

-- ---- statements, given what calls do

stays_with_call : (c : State → Called) (f : ℤ → State → Ran) → Stays (λ s. (c s).ran) → ((n : ℤ) → Stays (f n)) → Stays (λ s. with_call (c s) f)
stays_with_call c f p q = record { never = λ s n d. (stays_seq (λ t. (c t).ran) (f (c s).value) p (q (c s).value)).never s n d }

abbrev CallsStay : (List ℕ → Place → List ℤ → List Note → State → Called) → Type 0
CallsStay call = (f : List ℕ) (p : Place) (ns : List ℤ) (b : List Note) → Stays (λ s. (call f p ns b s).ran)

neither : (x y : Option (List ℕ)) → or_else x y ≡ None → (x ≡ None) × (y ≡ None)
neither None y e = (refl, e)
neither (Some x) y e = cc

module _ (fuel : ℕ) (call : List ℕ → Place → List ℤ → List Note → State → Called) (calls : CallsStay call) where
  abbrev under : List Reduce → Setting
  under rs = record { reduces = rs; fuel = fuel; call = call }

  stays_two_calls : (rs : List Reduce) (x f : Name) (ns : List ℤ) (y g : Name) (ms : List ℤ) (b : List Note) → Stays (two_calls (under rs) x f ns y g ms b)
  stays_two_calls rs x f ns y g ms b =
      stays_with_call (call f.text.items f.place ns b) (λ v t. with_call (call g.text.items g.place ms [] t) (set v)) (calls f.text.items f.place ns b)
      (λ v. stays_with_call (call g.text.items g.place ms []) (set v) (calls g.text.items g.place ms []) (λ w. stays_done (λ u. set_var y w (set_var x v u))))
    where
      set : ℤ → ℤ → State → Ran
      set v w u = done (set_var y w (set_var x v u))

  mutual
    stays_stmt : (rs : List Reduce) (st : Stmt) → left_of st ≡ None → Stays (run (under rs) st)
    stays_stmt rs (Let x e) l = stays_given e _ (λ n. stays_done (λ s. record s { vars = declare s.vars x.text.items n }))
    stays_stmt rs (Set x e) l = stays_given e _ (λ n. stays_done (set_var x n))
    stays_stmt rs (Put t a b e) l = stays_two a b _ (λ i j. stays_given e _ (λ n. stays_put t i j n))
    stays_stmt rs (If' e p body q other) l =
        let h = neither (left_in body) (left_in other) l in
        stays_given e _ (λ n. stays_choose n (block (run_all (under rs) body)) (block (run_all (under rs) other)) (stays_block _ (stays_all rs body h.0)) (stays_block _ (stays_all rs other h.1)))
    stays_stmt rs (While' e p body) l = stays_turns fuel (fuel + 1) e (block (run_all (under rs) body)) (stays_block _ (stays_all rs body l))
    stays_stmt rs (Loop' x a b p body) l =
        stays_two a b _ (λ i j. stays_iterate fuel (int_gap i j) x.text.items (run_all (under rs) body) [] [] i (stays_all rs body l))
    stays_stmt rs (Par' place x a b carry_place carries reduces p body) l =
        stays_two a b _ (λ i j. stays_wide (too_wide i j) place _
        (stays_caught (left_in body) (iterate fuel x.text.items (run_all (under reduces.items) body) (Chance ∷ []) [] (int_gap i j) i)))
    stays_stmt rs (Fold x e) l = stays_given e _ (λ n. record { never = λ s m d. cc })
    stays_stmt rs (Call x f) l =
        stays_args f.args.items _ (λ ns. stays_with_call (call f.callee.text.items f.callee.place ns []) (λ v t. done (set_var x v t)) (calls f.callee.text.items f.callee.place ns [])
        (λ n. stays_done (set_var x n)))
    stays_stmt rs (Both x f y g) l =
        stays_args f.args.items (λ ns s. given_all g.args.items s (λ ms. two_calls (under rs) x f.callee ns y g.callee ms (Chance ∷ []) s))
        (λ ns. stays_args g.args.items (λ ms. two_calls (under rs) x f.callee ns y g.callee ms (Chance ∷ [])) (λ ms. stays_two_calls rs x f.callee ns y g.callee ms (Chance ∷ [])))
    stays_stmt rs (Print place e) l = stays_given e _ (λ n. record { never = λ s m d. cc })
    stays_stmt rs (Emit place t) l = record { never = λ s m d. cc }
    stays_stmt rs (Leave x e) l = cc
    stays_stmt rs (Fill f t r es) l = stays_done (λ s. s)

    stays_all : {m : _} (rs : List Reduce) (row : Row_of-Stmt m) → left_in row ≡ None → Stays (run_all (under rs) row)
    stays_all rs end_of-Stmt l = stays_done (λ s. s)
    stays_all rs (more_of-Stmt first rest) l =
        let h = neither (left_of first) (left_in rest) l in
        stays_seq (run (under rs) first) (run_all (under rs) rest) (stays_stmt rs first h.0) (stays_all rs rest h.1)

  stays_list : (rs : List Reduce) (ss : List Stmt) → LeavesNothing ss → Stays (run_list (under rs) ss)
  stays_list rs [] l = stays_done (λ s. s)
  stays_list rs (first ∷ rest) l =
      let h = neither (left_of first) (left_list rest) l in
      stays_seq (run (under rs) first) (run_list (under rs) rest) (stays_stmt rs first h.0) (stays_list rs rest h.1)

-- ---- calls

abbrev FoundStays : Option Func → Type 0
FoundStays None = ⊤
FoundStays (Some f) = IsNeverLeft f

found_stays : (fs : List Func) (x : List ℕ) → All IsNeverLeft fs → FoundStays (func_of fs x)
found_stays [] x h = tt
found_stays (f ∷ fs) x h = go (bytes_eq f.name.text.items x) (found_stays fs x (All-tail IsNeverLeft f fs h))
  where
    go : (b : Bool) → FoundStays (func_of fs x) → FoundStays (cond b (Some f) (func_of fs x))
    go true r = All-head IsNeverLeft f fs h
    go false r = r

stays_enter : (fuel : ℕ) (call : List ℕ → Place → List ℤ → List Note → State → Called) → CallsStay call → (o : Option Func) → FoundStays o → (ns : List ℤ) (b : List Note)
    → Stays (λ s. (enter (record { reduces = []; fuel = fuel; call = call }) o ns b s).ran)
stays_enter fuel call calls None l ns b = record { never = λ s n d. cc }
stays_enter fuel call calls (Some f) l ns b = record { never = λ s n d. (stays_seq body (λ t. given f.result t (λ m. done t)) begun (stays_given f.result (λ m t. done t) (λ m. stays_done (λ t. t)))).never s n d }
  where
    body : State → Ran
    body s = noted b (run_list (record { reduces = []; fuel = fuel; call = call }) f.body.items (record s { vars = bound f.params.items ns }))

    begun : Stays body
    begun = record { never = λ s n d. (stays_list fuel call calls [] f.body.items l).never (record s { vars = bound f.params.items ns }) n d }

stays_call_on : (fuel : ℕ) (go : State → Called) → Stays (λ s. (go s).ran) → Stays (λ s. (call_on (tick fuel s).stop (tick fuel s) go).ran)
stays_call_on fuel go p = record { never = λ s n. on s n (tick fuel s).stop }
  where
    on : (s : State) (n : ℤ) (x : Stop) → (call_on x (tick fuel s) go).ran.stop ≡ Left n → ⊥
    on s n Done d = p.never (tick fuel s).state n d
    on s n (Left m) d = (stays_tick fuel).never s n d
    on s n (Trap k q) d = (stays_tick fuel).never s n d
    on s n NoFuel d = (stays_tick fuel).never s n d

stays_call : (fs : List Func) → All IsNeverLeft fs → (fuel room : ℕ) → CallsStay (call_at fs fuel room)
unfolding call_at
stays_call fs l fuel zero f p ns b = stays_call_on fuel (λ u. no_value (trapped Deep p u)) (record { never = λ s n d. cc })
stays_call fs l fuel (suc room) f p ns b =
    stays_call_on fuel (enter (record { reduces = []; fuel = fuel; call = call_at fs fuel room }) (func_of fs f) ns b)
    (stays_enter fuel (call_at fs fuel room) (stays_call fs l fuel room) (func_of fs f) (found_stays fs f l) ns b)

-- ---- a program

module _ (p : Program) (fuel : ℕ) (only : All IsNeverLeft p.funcs.items) where
  pub calls_stay : (depth : ℕ) (rs : List Reduce) (f : List ℕ) (place : Place) (ns : List ℤ) (b : List Note) (s : State) (n : ℤ) → ((setting p fuel depth rs).call f place ns b s).ran.stop ≡ Left n → ⊥
  calls_stay depth rs f place ns b s n = (stays_call p.funcs.items only fuel (MAX_CALL_DEPTH - depth) f place ns b).never s n

  stays_at : (depth : ℕ) (rs : List Reduce) (body : List Stmt) → LeavesNothing body → Stays (run_list (setting p fuel depth rs) body)
  stays_at depth rs body l = stays_list fuel (call_at p.funcs.items fuel (MAX_CALL_DEPTH - depth)) (stays_call p.funcs.items only fuel (MAX_CALL_DEPTH - depth)) rs body l

  pub statements_stay : (depth : ℕ) (rs : List Reduce) (body : List Stmt) (s : State) (n : ℤ) → LeavesNothing body → (run_list (setting p fuel depth rs) body s).stop ≡ Left n → ⊥
  statements_stay depth rs body s n l = (stays_at depth rs body l).never s n

  pub iterations_stay : (depth : ℕ) (rs : List Reduce) (body : List Stmt) (x : List ℕ) (again ns : List Note) (m : ℕ) (i : ℤ) (s : State) (n : ℤ) → LeavesNothing body
      → (iterate fuel x (run_list (setting p fuel depth rs) body) again ns m i s).stop ≡ Left n → ⊥
  iterations_stay depth rs body x again ns m i s n l = (stays_iterate fuel m x (run_list (setting p fuel depth rs) body) again ns i (stays_at depth rs body l)).never s n

  stays_large : (b : Bool) (place : Place) (f : State → Ran) → Stays f → Stays (unless_large b place f)
  stays_large true place f q = record { never = λ s n d. cc }
  stays_large false place f q = q

  stays_tables : (ts : List Table) (c : ℕ) (ds : List TableDecl) → Stays (make_tables ts c ds)
  stays_tables ts c [] = stays_done (λ s. s)
  stays_tables ts c (Input x ∷ ds) = record { never = λ s n d. (stays_tables ts c ds).never (add_table (table_of ts x.text.items) s) n d }
  stays_tables ts c (Made x a b ∷ ds) =
      stays_two a b _ (λ m n. stays_large (is_too_large c m n) x.place _
      (record { never = λ s k d. (stays_tables ts (c + unsigned_abs m * unsigned_abs n) ds).never (add_table (zero_table x m n) s) k d }))

  pub meaning_stays : (ts : List Table) (n : ℤ) → LeavesNothing p.main.items → (meaning p ts fuel).stop ≡ Left n → ⊥
  unfolding meaning whole_run
  meaning_stays ts n l = (stays_seq (make_tables ts (input_cells p.tables.items ts) p.tables.items) (run_list (setting p fuel 0 []) p.main.items) (stays_tables ts (input_cells p.tables.items ts) p.tables.items) (stays_at 0 [] p.main.items l)).never first_state n
