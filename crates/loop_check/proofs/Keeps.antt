-- What a run touches, which variables it leaves, and that it prints nothing, whatever the state.
use Rattle.std.proofs.Common.{◌≡◌, ℕ, zero, suc, ◌+◌, ℤ, pos, negsuc, ◌+ℤ◌, List, [], ◌∷◌, ◌++◌}
use Rattle.std.proofs.Common.{Option, Some, None, refl, Bool, true, false, take, length, bytes_eq}
use Rattle.std.proofs.Common.{int_div, int_rem}
use Rattle.std.specs.Int.{int_gap}
use Rattle.tp_value.specs.declared.Place.{Place}
use Rattle.tp_value.specs.declared.Stop.{Stop}
use Rattle.tp_value.specs.declared.Stop.TheVariants.{Done, Left, Trap, NoFuel}
use Rattle.loop_syntax.specs.declared.Name.{Name}
use Rattle.loop_syntax.specs.declared.BinOp.{BinOp}
use Rattle.loop_syntax.specs.declared.BinOp.TheVariants as op
use Rattle.loop_syntax.specs.declared.Expr.{Expr}
use Rattle.loop_syntax.specs.declared.Expr.TheVariants.{Int, Var, Cell', Rows, Cols, Neg', Bin'}
use Rattle.loop_syntax.specs.declared.Stmt.{Stmt, Row_of-Stmt, end_of-Stmt, more_of-Stmt}
use Rattle.loop_syntax.specs.declared.Stmt.TheVariants.{Let, Set, Put, If', While', Loop', Par'}
use Rattle.loop_syntax.specs.declared.Stmt.TheVariants.{Fold, Call, Both, Print, Emit, Leave, Fill}
use Rattle.loop_syntax.specs.declared.Program.{Program}
use Rattle.tp_value.specs.declared.Op.{Op}
use Rattle.tp_value.specs.declared.Table.{Table}
use Rattle.loop_meaning.specs.declared.value.Answer.{Answer}
use Rattle.loop_meaning.specs.declared.value.Answer.TheVariants.{Number, Traps}
use Rattle.loop_meaning.specs.declared.value.Variable.{Variable}
use Rattle.loop_rules.specs.Names.{operator_of}
use Rattle.loop_rules.specs.Reading.{ReadsTable}
use Rattle.loop_rules.specs.Sites.{Act, Assigns, AssignsBoth, Folds, ReadsCell, WritesCell, Calls}
use Rattle.loop_rules.specs.Sites.{Shows, LeavesAll, Spot, Site, site, in_expr, in_whole}
use Rattle.loop_rules.specs.Sites.{in_args, in_app}
use Rattle.loop_rules.specs.Sites.{in_carries, in_stmt, in_all, in_list, spot_after, in_loop}
use Rattle.loop_rules.specs.Sites.{in_par}
use Rattle.beat_count.specs.Ticks.{is_tick_allowed}
use Rattle.loop_meaning.specs.Expressions.{Value, bind, bind_answer, divided, calculated, read_cell}
use Rattle.loop_meaning.specs.Expressions.{eval}
use Rattle.loop_meaning.specs.State.{assign, declare, table_of, has_cell, State, Note, Reads}
use Rattle.loop_meaning.specs.State.{Writes, Emits, Chance, Ran, done, noted, go_on, after, tick}
use Rattle.loop_meaning.specs.State.{leave_block}
use Rattle.loop_meaning.specs.Statements.{given, given_answer, given_all, choose, block, turns}
use Rattle.loop_meaning.specs.Statements.{iteration, iterate, folded, put_cell, set_var, Called}
use Rattle.loop_meaning.specs.Statements.{with_call, Setting, unless_wide, too_wide, run, run_all}
use Rattle.loop_meaning.specs.Statements.{run_list}
use Rattle.loop_meaning.specs.Leaving.{left_in, caught, caught_by}
use Rattle.loop_check.proofs.Leaving.{left_row}
use Rattle.loop_check.proofs.Lists.{Each, each_left, each_right}
use Rattle.loop_check.proofs.Found.{Found, found_more, found_below, found_take, found_assign}

-- which variables stay, where they stand, with which value; which cells may be read and written, and whether
-- anything may be printed; and the tables and the output, which stay where nothing may be written or printed
pub record Mode : Type 1 where
  pub frozen : List ℕ → Type 0
  pub stands : List ℕ → ℕ
  pub holds : List ℕ → ℤ
  pub reads : List ℕ → ℤ → ℤ → Type 0
  pub writes : List ℕ → ℤ → ℤ → Type 0
  pub shows : Type 0
  pub tables : List Table
  pub output : List ℕ

abbrev pub NoteOk : Mode → Note → Type 0
NoteOk m (Reads t i j) = m.reads t i j
NoteOk m (Writes t i j) = m.writes t i j
NoteOk m (Emits t) = m.shows
NoteOk m Chance = Unit

abbrev pub Notes : Mode → List Note → Type 0
Notes m ns = Each (NoteOk m) ns

pub record Fixed (m : Mode) (s : State) : Type 0 where
  pub found : (x : List ℕ) → m.frozen x → Found (m.stands x) s.vars x (m.holds x)
  pub written : ((t : List ℕ) (i j : ℤ) → ¬ (m.writes t i j)) → s.tables ≡ m.tables
  pub shown : ¬ m.shows → s.output ≡ m.output

pub record Good (m : Mode) (r : Ran) : Type 0 where
  pub fixed : Fixed m r.state
  pub notes : Notes m r.notes

-- what is done at a place keeps within the mode, whatever the state
abbrev pub ActOk : Mode → Program → Act → Type 0
ActOk m p (ReadsCell t a b) =
    (s : State) (i j : ℤ) → Fixed m s → (eval s.vars s.tables a).answer ≡ Number i → (eval s.vars s.tables b).answer ≡ Number j → m.reads t.text.items i j
ActOk m p (WritesCell t a b) =
    (s : State) (i j : ℤ) → Fixed m s → (eval s.vars s.tables a).answer ≡ Number i → (eval s.vars s.tables b).answer ≡ Number j → m.writes t.text.items i j
ActOk m p (Assigns x) = (y : List ℕ) → m.frozen y → bytes_eq x.text.items y ≡ false
ActOk m p (Folds x) = (y : List ℕ) → m.frozen y → bytes_eq x.text.items y ≡ false
ActOk m p (LeavesAll xs) = (y : List ℕ) → m.frozen y → Each (λ (x : Name). bytes_eq x.text.items y ≡ false) xs
ActOk m p (Calls f n) = (t : List ℕ) → ReadsTable p f.text.items t → (i j : ℤ) → m.reads t i j
ActOk m p (Shows q) = m.shows
ActOk m p _ = Unit

abbrev pub SitesOk : Mode → Program → List Site → Type 0
SitesOk m p ss = Each (λ (s : Site). ActOk m p s.act) ss

-- a call to a function that reads no more than it may
abbrev pub CallsOk : Mode → Program → Setting → Type 0
CallsOk m prog k =
    (f : List ℕ) (p : Place) (ns : List ℤ) (b : List Note) (s : State) → ((t : List ℕ) → ReadsTable prog f t → (i j : ℤ) → m.reads t i j) → Notes m b → Fixed m s → Good m (k.call f p ns b s).ran

module _ (m : Mode) (prog : Program) where
  notes_both : (ns ks : List Note) → Notes m ns → Notes m ks → Notes m (ns ++ ks)
  notes_both [] ks h k = k
  notes_both (n ∷ ns) ks h k = (h.0, notes_both ns ks h.1 k)

  bind_ok : (v : Value) (f : ℤ → Value) → Notes m v.notes → ((n : ℤ) → v.answer ≡ Number n → Notes m (f n).notes) → Notes m (bind v f).notes
  bind_ok v f h k = go v.answer refl
    where
      go : (a : Answer) → v.answer ≡ a → Notes m (bind_answer a v.notes f).notes
      go (Number n) e = notes_both v.notes (f n).notes h (k n e)
      go (Traps c p) e = h

  divided_ok : (f : ℤ → ℤ → ℤ) (p : Place) (a b : ℤ) → Notes m (divided f p a b).notes
  divided_ok f p a (pos zero) = tt
  divided_ok f p a (pos (suc n)) = tt
  divided_ok f p a (negsuc n) = tt

  calculated_ok : (o : BinOp) (p : Place) (a b : ℤ) → Notes m (calculated o p a b).notes
  calculated_ok op.Add p a b = tt
  calculated_ok op.Sub p a b = tt
  calculated_ok op.Mul p a b = tt
  calculated_ok op.Div p a b = divided_ok int_div p a b
  calculated_ok op.Rem p a b = divided_ok int_rem p a b
  calculated_ok op.Eq p a b = tt
  calculated_ok op.Ne p a b = tt
  calculated_ok op.Lt p a b = tt
  calculated_ok op.Le p a b = tt
  calculated_ok op.Gt p a b = tt
  calculated_ok op.Ge p a b = tt

  read_ok : (ts : List Table) (t : Name) (i j : ℤ) → m.reads t.text.items i j → Notes m (read_cell ts t i j).notes
  read_ok ts t i j h = go (has_cell (table_of ts t.text.items) i j) refl
    where
      go : (b : Bool) → has_cell (table_of ts t.text.items) i j ≡ b → Notes m (read_cell ts t i j).notes
      go true e = rw (e, read_cell) (h, tt)
      go false e = rw (e, read_cell) tt

  pub eval_ok : (w : Spot) (e : Expr) (s : State) → Fixed m s → SitesOk m prog (in_expr w e) → Notes m (eval s.vars s.tables e).notes
  eval_ok w (Int n p) s h k = tt
  eval_ok w (Var x) s h k = tt
  eval_ok w (Cell' t p a q b) s h k =
      bind_ok (eval s.vars s.tables a) _ (eval_ok w a s h (each_left _ (in_expr w a) (in_expr w b) k.1.1)) (λ i e.
      bind_ok (eval s.vars s.tables b) _ (eval_ok w b s h (each_right _ (in_expr w a) (in_expr w b) k.1.1)) (λ j f.
      read_ok s.tables t i j (k.1.0 s i j h e f)))
  eval_ok w (Rows t) s h k = tt
  eval_ok w (Cols t) s h k = tt
  eval_ok w (Neg' p a place) s h k = bind_ok (eval s.vars s.tables a) _ (eval_ok w a s h k) (λ n e. tt)
  eval_ok w (Bin' o place p a q b) s h k =
      bind_ok (eval s.vars s.tables a) _ (eval_ok w a s h (each_left _ (in_expr w a) (in_expr w b) k)) (λ i e.
      bind_ok (eval s.vars s.tables b) _ (eval_ok w b s h (each_right _ (in_expr w a) (in_expr w b) k)) (λ j f.
      calculated_ok o place i j))

  pub noted_ok : (ns : List Note) (r : Ran) → Notes m ns → Good m r → Good m (noted ns r)
  noted_ok ns r h g = record { fixed = g.fixed; notes = notes_both ns r.notes h g.notes }

  pub done_ok : (s : State) → Fixed m s → Good m (done s)
  done_ok s h = record { fixed = h; notes = tt }

  pub after_ok : (r : Ran) (go : State → Ran) → Good m r → ((s : State) → Fixed m s → Good m (go s)) → Good m (after r go)
  after_ok r go g f = by_stop r.stop
    where
      by_stop : (x : Stop) → Good m (go_on x r go)
      by_stop Done = noted_ok r.notes (go r.state) g.notes (f r.state g.fixed)
      by_stop (Left n) = g
      by_stop (Trap k p) = g
      by_stop NoFuel = g

  pub given_ok : (w : Spot) (e : Expr) (s : State) (go : ℤ → Ran) → Fixed m s → SitesOk m prog (in_whole w e) → ((n : ℤ) → (eval s.vars s.tables e).answer ≡ Number n → Good m (go n)) → Good m (given e s go)
  given_ok w e s go h k f = by_answer (eval s.vars s.tables e).answer refl
    where
      by_answer : (a : Answer) → (eval s.vars s.tables e).answer ≡ a → Good m (given_answer a (eval s.vars s.tables e).notes s go)
      by_answer (Number n) q = noted_ok _ (go n) (eval_ok w e s h k.1) (f n q)
      by_answer (Traps c p) q = record { fixed = h; notes = eval_ok w e s h k.1 }

  pub ticks_fixed : (s : State) (n : ℕ) → Fixed m s → Fixed m (record s { ticks = n })
  ticks_fixed s n h = record { found = h.found; written = h.written; shown = h.shown }

  pub tick_ok : (fuel : ℕ) (s : State) → Fixed m s → Good m (tick fuel s)
  tick_ok fuel s h = go (is_tick_allowed fuel s.ticks) refl
    where
      go : (b : Bool) → is_tick_allowed fuel s.ticks ≡ b → Good m (tick fuel s)
      go true e = rw e (record { fixed = ticks_fixed s _ h; notes = tt })
      go false e = rw e (record { fixed = ticks_fixed s _ h; notes = tt })

  -- with other variables
  fixed_vars : (s : State) (vs : List Variable) → Fixed m s → ((y : List ℕ) → m.frozen y → Found (m.stands y) vs y (m.holds y)) → Fixed m (record s { vars = vs })
  fixed_vars s vs h f = record { found = f; written = h.written; shown = h.shown }

  pub declare_fixed : (s : State) (x : List ℕ) (n : ℤ) → Fixed m s → Fixed m (record s { vars = declare s.vars x n })
  declare_fixed s x n h = fixed_vars s (declare s.vars x n) h (λ y f. found_more (m.stands y) s.vars _ y (m.holds y) (h.found y f))

  pub assign_fixed : (s : State) (x : List ℕ) (n : ℤ) → ((y : List ℕ) → m.frozen y → bytes_eq x y ≡ false) → Fixed m s → Fixed m (record s { vars = assign s.vars x n })
  assign_fixed s x n a h = fixed_vars s (assign s.vars x n) h (λ y f. found_assign (m.stands y) s.vars x n y (m.holds y) (a y f) (h.found y f))

  pub folded_fixed : (o : Option Op) (s : State) (x : List ℕ) (n : ℤ) → ((y : List ℕ) → m.frozen y → bytes_eq x y ≡ false) → Fixed m s → Fixed m (record s { vars = folded o s.vars x n })
  folded_fixed None s x n a h = fixed_vars s s.vars h h.found
  folded_fixed (Some o) s x n a h = assign_fixed s x _ a h

  -- with more output, where something may be printed
  shown_more : (s : State) (more : List ℕ) → m.shows → Fixed m s → Fixed m (record s { output = s.output ++ more })
  shown_more s more q h = record { found = h.found; written = h.written; shown = λ n. absurd (n q) }

  pub leave_ok : (s : State) (r : Ran) → Fixed m s → Good m r → Good m (leave_block (length s.vars) r)
  leave_ok s r h g = record {
    fixed = fixed_vars r.state (take (length s.vars) r.state.vars) g.fixed
        (λ y f. found_take (m.stands y) (length s.vars) r.state.vars y (m.holds y) (found_below (m.stands y) s.vars y (m.holds y) (h.found y f)) (g.fixed.found y f));
    notes = g.notes;
  }

  -- what keeps within the mode from every state that has the fixed variables
  abbrev pub Keeps : (State → Ran) → Type 0
  Keeps act = (s : State) → Fixed m s → Good m (act s)

  choose_ok : (n : ℤ) (a b : State → Ran) → Keeps a → Keeps b → Keeps (choose n a b)
  choose_ok (pos zero) a b p q = q
  choose_ok (pos (suc n)) a b p q = p
  choose_ok (negsuc n) a b p q = p

  block_ok : (a : State → Ran) → Keeps a → Keeps (block a)
  block_ok a p s h = leave_ok s (a s) h (p s h)

  turns_ok : (w : Spot) (n fuel : ℕ) (e : Expr) (body : State → Ran) → SitesOk m prog (in_whole w e) → Keeps body → Keeps (turns n fuel e body)
  unfolding turns
  turns_ok w zero fuel e body k p s h = record { fixed = h; notes = tt }
  turns_ok w (suc n) fuel e body k p s h =
      given_ok w e s _ h k (λ v q. choose_ok v _ done
      (λ t g. after_ok (after (tick fuel t) body) (turns n fuel e body) (after_ok (tick fuel t) body (tick_ok fuel t g) p) (turns_ok w n fuel e body k p)) done_ok s h)

  pub iteration_ok : (fuel : ℕ) (x : List ℕ) (body : State → Ran) (ns : List Note) (i : ℤ) → Notes m ns → Keeps body → Keeps (iteration fuel x body ns i)
  iteration_ok fuel x body ns i k p s h =
      leave_ok s _ h (after_ok (tick fuel s) _ (tick_ok fuel s h) (λ t g. noted_ok ns _ k (p (record t { vars = declare t.vars x i }) (declare_fixed t x i g))))

  iterate_ok : (n fuel : ℕ) (x : List ℕ) (body : State → Ran) (again ns : List Note) (i : ℤ) → Notes m again → Notes m ns → Keeps body → Keeps (iterate fuel x body again ns n i)
  unfolding iterate
  iterate_ok zero fuel x body again ns i a k p s h = done_ok s h
  iterate_ok (suc n) fuel x body again ns i a k p s h =
      after_ok (iteration fuel x body ns i s) _ (iteration_ok fuel x body ns i k p s h) (iterate_ok n fuel x body again again (i +ℤ pos 1) a a p)

  -- where it isn't left with a variable that stays
  caught_ok : (target : Option (List ℕ)) (act : State → Ran) → ((x : List ℕ) → target ≡ Some x → (y : List ℕ) → m.frozen y → bytes_eq x y ≡ false) → Keeps act → Keeps (λ t. caught target (act t))
  caught_ok target act free p s h = by_stop (act s).stop target free (p s h)
    where
      by_stop : (x : Stop) (target : Option (List ℕ)) → ((x : List ℕ) → target ≡ Some x → (y : List ℕ) → m.frozen y → bytes_eq x y ≡ false) → Good m (act s) → Good m (caught_by x target (act s))
      by_stop Done target free g = g
      by_stop (Left n) None free g = record { fixed = g.fixed; notes = g.notes }
      by_stop (Left n) (Some x) free g = record { fixed = assign_fixed (act s).state x n (free x refl) g.fixed; notes = g.notes }
      by_stop (Trap k q) target free g = g
      by_stop NoFuel target free g = g

  all_ok : (w : Spot) (es : List Expr) (s : State) (go : List ℤ → Ran) → Fixed m s → SitesOk m prog (in_args w es) → ((ns : List ℤ) → Good m (go ns)) → Good m (given_all es s go)
  all_ok w [] s go h k f = f []
  all_ok w (e ∷ es) s go h k f =
      given_ok w e s _ h (each_left _ (in_whole w e) (in_args w es) k) (λ n q. all_ok w es s _ h (each_right _ (in_whole w e) (in_args w es) k) (λ ns. f (n ∷ ns)))

  put_ok : (t : Name) (i j n : ℤ) (s : State) → m.writes t.text.items i j → Fixed m s → Good m (put_cell t i j n s)
  put_ok t i j n s k h = go (has_cell (table_of s.tables t.text.items) i j) refl
    where
      go : (b : Bool) → has_cell (table_of s.tables t.text.items) i j ≡ b → Good m (put_cell t i j n s)
      go true e = rw (e, put_cell) (record { fixed = record { found = h.found; written = λ n. absurd (n t.text.items i j k); shown = h.shown }; notes = (k, tt) })
      go false e = rw (e, put_cell) (record { fixed = h; notes = tt })

  wide_ok : (b : Bool) (p : Place) (f : State → Ran) → Keeps f → Keeps (unless_wide b p f)
  wide_ok true p f q s h = record { fixed = h; notes = tt }
  wide_ok false p f q s h = q s h

  call_then : (c : Called) (go : ℤ → State → Ran) → Good m c.ran → ((n : ℤ) → Keeps (go n)) → Good m (with_call c go)
  call_then c go g f = after_ok c.ran (go c.value) g (f c.value)

  mutual
    pub run_ok : (w : Spot) (k : Setting) → CallsOk m prog k → (s : Stmt) → SitesOk m prog (in_stmt w s) → Keeps (run k s)
    run_ok w k c (Let x e) o s h = given_ok w e s _ h o.1 (λ n q. record { fixed = declare_fixed s x.text.items n h; notes = tt })
    run_ok w k c (Set x e) o s h = given_ok w e s _ h o.1 (λ n q. record { fixed = assign_fixed s x.text.items n o.0 h; notes = tt })
    run_ok w k c (Put t a b e) o s h =
        given_ok w a s _ h (each_left _ (in_whole w a) (in_whole w b ++ in_whole w e) o.1.1) (λ i q.
        given_ok w b s _ h (each_left _ (in_whole w b) (in_whole w e) (each_right _ (in_whole w a) (in_whole w b ++ in_whole w e) o.1.1)) (λ j r.
        given_ok w e s _ h (each_right _ (in_whole w b) (in_whole w e) (each_right _ (in_whole w a) (in_whole w b ++ in_whole w e) o.1.1)) (λ n z.
        put_ok t i j n s (o.1.0 s i j h q r) h)))
    run_ok w k c (If' e p body q other) o s h =
        given_ok w e s _ h (each_left _ (in_whole w e) (in_all w body ++ in_all w other) o) (λ n z.
        choose_ok n _ _
        (block_ok _ (all_run_ok w k c body (each_left _ (in_all w body) (in_all w other) (each_right _ (in_whole w e) (in_all w body ++ in_all w other) o))))
        (block_ok _ (all_run_ok w k c other (each_right _ (in_all w body) (in_all w other) (each_right _ (in_whole w e) (in_all w body ++ in_all w other) o)))) s h)
    run_ok w k c (While' e p body) o s h =
        turns_ok w (k.fuel + 1) k.fuel e _ (each_left _ (in_whole w e) (in_all w body) o) (block_ok _ (all_run_ok w k c body (each_right _ (in_whole w e) (in_all w body) o))) s h
    run_ok w k c (Loop' x a b p body) o s h =
        given_ok w a s _ h (each_left _ (in_whole w a) (in_whole w b ++ in_all (in_loop w x) body) o.1) (λ i q.
        given_ok w b s _ h (each_left _ (in_whole w b) (in_all (in_loop w x) body) (each_right _ (in_whole w a) (in_whole w b ++ in_all (in_loop w x) body) o.1)) (λ j r.
        iterate_ok (int_gap i j) k.fuel x.text.items (run_all k body) [] [] i tt tt (all_run_ok (in_loop w x) k c body (each_right _ (in_whole w b) (in_all (in_loop w x) body) (each_right _ (in_whole w a) (in_whole w b ++ in_all (in_loop w x) body) o.1))) s h))
    run_ok w k c (Par' place x a b carry_place carries reduces p body) o s h =
        let o1 = each_right _ (in_whole w a) (in_whole w b ++ (in_carries w carries.items ++ in_all (in_par w x carries.items reduces.items) body)) o.1.1.1 in
        let o2 = each_right _ (in_whole w b) (in_carries w carries.items ++ in_all (in_par w x carries.items reduces.items) body) o1 in
        given_ok w a s _ h (each_left _ (in_whole w a) (in_whole w b ++ (in_carries w carries.items ++ in_all (in_par w x carries.items reduces.items) body)) o.1.1.1) (λ i q.
        given_ok w b s _ h (each_left _ (in_whole w b) (in_carries w carries.items ++ in_all (in_par w x carries.items reduces.items) body) o1) (λ j r.
        wide_ok (too_wide i j) place _ (caught_ok (left_in body) _ (λ z e y f. left_row (λ v. bytes_eq v y ≡ false) z body (o.1.0 y f) e) (iterate_ok (int_gap i j) k.fuel x.text.items _ (Chance ∷ []) [] i (tt, tt) tt
        (all_run_ok (in_par w x carries.items reduces.items) (record k { reduces = reduces.items }) c body (each_right _ (in_carries w carries.items) (in_all (in_par w x carries.items reduces.items) body) o2)))) s h))
    run_ok w k c (Fold x e) o s h = given_ok w e s _ h o.1 (λ n q. record { fixed = folded_fixed (operator_of k.reduces x.text.items) s x.text.items n o.0 h; notes = tt })
    run_ok w k c (Call x f) o s h =
        all_ok w f.args.items s _ h o.1.1 (λ ns.
        call_then (k.call f.callee.text.items f.callee.place ns [] s) (λ v t. done (set_var x v t)) (c f.callee.text.items f.callee.place ns [] s o.1.0 tt h) (λ v t g. record { fixed = assign_fixed t x.text.items v o.0 g; notes = tt }))
    run_ok w k c (Both x f y g) o s h =
        let fs : List Site = in_app w f in
        let gs : List Site = site w (Assigns y) ∷ site w (AssignsBoth x y) ∷ in_app w g in
        let first : SitesOk m prog fs = each_left _ fs gs o.1 in
        let second : SitesOk m prog gs = each_right _ fs gs o.1 in
        all_ok w f.args.items s _ h first.1 (λ ns.
        all_ok w g.args.items s _ h second.1.1.1 (λ ms.
        call_then (k.call f.callee.text.items f.callee.place ns (Chance ∷ []) s) (λ v t. with_call (k.call g.callee.text.items g.callee.place ms [] t) (λ z u. done (set_var y z (set_var x v u)))) (c f.callee.text.items f.callee.place ns (Chance ∷ []) s first.0 (tt, tt) h) (λ u t a.
        call_then (k.call g.callee.text.items g.callee.place ms [] t) (λ z v. done (set_var y z (set_var x u v))) (c g.callee.text.items g.callee.place ms [] t second.1.1.0 tt a) (λ v q b.
        record { fixed = assign_fixed (set_var x u q) y.text.items v second.0 (assign_fixed q x.text.items u o.0 b); notes = tt }))))
    run_ok w k c (Print place e) o s h = given_ok w e s _ h o.1 (λ n q. record { fixed = shown_more s _ o.0 h; notes = tt })
    run_ok w k c (Emit place t) o s h = record { fixed = shown_more s _ o.0 h; notes = (o.0, tt) }
    run_ok w k c (Leave x e) o s h = given_ok w e s _ h o.1 (λ n q. record { fixed = h; notes = tt })
    run_ok w k c (Fill f t r es) o s h = done_ok s h

    pub all_run_ok : {n : _} → (w : Spot) (k : Setting) → CallsOk m prog k → (row : Row_of-Stmt n) → SitesOk m prog (in_all w row) → Keeps (run_all k row)
    all_run_ok w k c end_of-Stmt o s h = done_ok s h
    all_run_ok w k c (more_of-Stmt first rest) o s h =
        after_ok (run k first s) (run_all k rest) (run_ok w k c first (each_left _ (in_stmt w first) (in_all (spot_after w first) rest) o) s h)
        (all_run_ok (spot_after w first) k c rest (each_right _ (in_stmt w first) (in_all (spot_after w first) rest) o))

  pub list_ok : (w : Spot) (k : Setting) → CallsOk m prog k → (ss : List Stmt) → SitesOk m prog (in_list w ss) → Keeps (run_list k ss)
  list_ok w k c [] o s h = done_ok s h
  list_ok w k c (first ∷ rest) o s h =
      after_ok (run k first s) (run_list k rest) (run_ok w k c first (each_left _ (in_stmt w first) (in_list (spot_after w first) rest) o) s h)
      (list_ok (spot_after w first) k c rest (each_right _ (in_stmt w first) (in_list (spot_after w first) rest) o))
