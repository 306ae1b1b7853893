-- Numbers stay in the range of 64 bits.
use Rattle.std.proofs.Common.{◌≡◌, ◌<◌, ◌+◌, ℕ, zero, suc, ℤ, pos, negsuc, ◌+ℤ◌, ◌-ℤ◌, ◌*ℤ◌, List}
use Rattle.std.proofs.Common.{[], ◌∷◌, Option, Some, None, Bool, true, false, not, cond, ◌||◌}
use Rattle.std.proofs.Common.{nat_lt, length, bytes_eq, get_or, int_div, int_rem, int_lt, int_le}
use Rattle.std.proofs.Common.{unsigned_abs, ◌*◌, All, refl, sym, ◌∙◌, subst, arith}
use Rattle.std.specs.Int.{int_gap, w64}
use Rattle.std.specs.Ordering.{int_eq}
use Rattle.std.specs.Prelude.{⊤}
use Rattle.std.proofs.lemmas.Bool.{true≢false}
use Rattle.std.proofs.lemmas.Int.{ints, SFits-int_wrap}
use Rattle.std.proofs.lemmas.List.{get_or_past}
use Rattle.std.proofs.lemmas.List.Elements.{All-nil, All-cons, All-head, All-tail, All-append}
use Rattle.std.proofs.lemmas.List.Elements.{All-take, All-set, All-get_or, All-replicate}
use native.Mathlib.Decide.{dec_lt}
use Rattle.tp_value.specs.Number.{truth}
use Rattle.tp_value.specs.declared.limits.TheConstants.{MAX_TABLE_CELLS}
use Rattle.tp_value.specs.declared.Place.{Place}
use Rattle.tp_value.specs.declared.TrapKind.{TrapKind}
use Rattle.tp_value.specs.declared.TrapKind.TheVariants.{Deep, Size, Wide}
use Rattle.tp_value.specs.declared.Table.{Table}
use Rattle.tp_value.specs.declared.Op.{Op}
use Rattle.tp_value.specs.declared.Stop.{Stop}
use Rattle.tp_value.specs.declared.Stop.TheVariants.{Done, Left, Trap, NoFuel}
use Rattle.loop_syntax.specs.declared.Name.{Name}
use Rattle.loop_syntax.specs.declared.BinOp.{BinOp}
use Rattle.loop_syntax.specs.declared.BinOp.TheVariants as op
use Rattle.loop_syntax.specs.declared.Expr.{Expr}
use Rattle.loop_syntax.specs.declared.Expr.TheVariants.{Int, Var, Cell', Rows, Cols, Neg', Bin'}
use Rattle.loop_syntax.specs.declared.Reduce.{Reduce}
use Rattle.loop_syntax.specs.declared.Stmt.{Stmt, Row_of-Stmt, end_of-Stmt, more_of-Stmt}
use Rattle.loop_syntax.specs.declared.Stmt.TheVariants.{Let, Set, Put, If', While', Loop', Par'}
use Rattle.loop_syntax.specs.declared.Stmt.TheVariants.{Fold, Call, Both, Print, Emit, Leave, Fill}
use Rattle.loop_syntax.specs.declared.Func.{Func}
use Rattle.loop_syntax.specs.declared.TableDecl.{TableDecl}
use Rattle.loop_syntax.specs.declared.TableDecl.TheVariants.{Input, Made}
use Rattle.loop_syntax.specs.declared.Program.{Program}
use Rattle.loop_rules.specs.Names.{func_of, operator_of}
use Rattle.reduce_ops.specs.Reduction.{combine}
use Rattle.reduce_ops.specs.Laws.{combine_fits}
use Rattle.loop_meaning.specs.declared.value.Answer.{Answer}
use Rattle.loop_meaning.specs.declared.value.Answer.TheVariants.{Number, Traps}
use Rattle.loop_meaning.specs.declared.value.Variable.{Variable}
use Rattle.loop_meaning.specs.State.{lookup, assign, declare, table_of, has_cell, cell_of}
use Rattle.loop_meaning.specs.State.{cell_number, with_cell, write_cell, print_line, print_table}
use Rattle.loop_meaning.specs.State.{State, Note, Emits, Chance, Ran, done, trapped, noted, after}
use Rattle.loop_meaning.specs.State.{left_with, go_on, tick, leave_block}
use Rattle.loop_meaning.specs.Expressions.{Value, eval, bind, bind_answer, read_cell, calculated}
use Rattle.loop_meaning.specs.Expressions.{divided}
use Rattle.loop_meaning.specs.Statements.{Setting, Called, given, given_answer, given_two}
use Rattle.loop_meaning.specs.Statements.{given_all, set_var, folded, put_cell, choose, block}
use Rattle.loop_meaning.specs.Statements.{turns, iteration, iterate, too_wide, unless_wide}
use Rattle.loop_meaning.specs.Statements.{with_call, two_calls, run, run_all, run_list}
use Rattle.loop_meaning.specs.Leaving.{left_in, caught_by, caught}
use Rattle.loop_meaning.specs.Calls.{bound, number_in, enter, no_value, call_on, call_at, setting}
use Rattle.loop_meaning.specs.Meaning.{input_cells, is_bad_size, is_too_large, zero_table}
use Rattle.loop_meaning.specs.Meaning.{add_table, unless_large, make_tables, first_state, whole_run}
use Rattle.loop_meaning.specs.InRange.{InRange, VariableInRange, TableInRange, StateInRange}
use Rattle.loop_meaning.specs.InRange.{ExprInRange, StmtInRange, BlockInRange, FuncInRange}
use Rattle.loop_meaning.specs.InRange.{DeclInRange, ProgramInRange}

zero_in : InRange (pos 0)
zero_in = omega (arith, ints)

-- ---- variables

lookup_in : (vs : List Variable) (x : List ℕ) → All VariableInRange vs → InRange (lookup vs x)
lookup_in [] x h = zero_in
lookup_in (v ∷ vs) x h = go (bytes_eq v.name x) (lookup_in vs x (All-tail VariableInRange v vs h))
  where
    go : (b : Bool) → InRange (lookup vs x) → InRange (cond b v.value (lookup vs x))
    go true r = All-head VariableInRange v vs h
    go false r = r

assign_in_range : (vs : List Variable) (x : List ℕ) (n : ℤ) → InRange n → All VariableInRange vs → All VariableInRange (assign vs x n)
assign_in_range [] x n f h = All-nil VariableInRange
assign_in_range (v ∷ vs) x n f h = go (bytes_eq v.name x) (assign_in_range vs x n f (All-tail VariableInRange v vs h))
  where
    go : (b : Bool) → All VariableInRange (assign vs x n) → All VariableInRange (cond b (record { name = v.name; value = n } ∷ vs) (v ∷ assign vs x n))
    go true r = All-cons VariableInRange (record { name = v.name; value = n }) vs f (All-tail VariableInRange v vs h)
    go false r = All-cons VariableInRange v (assign vs x n) (All-head VariableInRange v vs h) r

declare_in : (vs : List Variable) (x : List ℕ) (n : ℤ) → InRange n → All VariableInRange vs → All VariableInRange (declare vs x n)
declare_in vs x n f h =
    All-append VariableInRange vs (record { name = x; value = n } ∷ []) h
    (All-cons VariableInRange (record { name = x; value = n }) [] f (All-nil VariableInRange))

-- ---- tables

table_in : (ts : List Table) (x : List ℕ) → All TableInRange ts → TableInRange (table_of ts x)
table_in [] x h = record { cells = All-nil InRange; rows = zero_in; cols = zero_in }
table_in (t ∷ ts) x h = go (bytes_eq t.name x) (table_in ts x (All-tail TableInRange t ts h))
  where
    go : (b : Bool) → TableInRange (table_of ts x) → TableInRange (cond b t (table_of ts x))
    go true r = All-head TableInRange t ts h
    go false r = r

cell_in : (t : Table) (i j : ℤ) → TableInRange t → InRange (cell_of t i j)
cell_in t i j h = go (dec_lt (cell_number t i j) (length t.cells))
  where
    go : Dec (cell_number t i j < length t.cells) → InRange (get_or t.cells (cell_number t i j) (pos 0))
    go (yes l) = All-get_or InRange t.cells (cell_number t i j) (pos 0) l h.cells
    go (no l) = subst InRange (sym (get_or_past t.cells (cell_number t i j) (pos 0) (omega arith))) zero_in

write_in : (ts : List Table) (x : List ℕ) (i j n : ℤ) → InRange n → All TableInRange ts → All TableInRange (write_cell ts x i j n)
write_in [] x i j n f h = All-nil TableInRange
write_in (t ∷ ts) x i j n f h = go (bytes_eq t.name x) (write_in ts x i j n f (All-tail TableInRange t ts h))
  where
    here : TableInRange t
    here = All-head TableInRange t ts h

    go : (b : Bool) → All TableInRange (write_cell ts x i j n) → All TableInRange (cond b (with_cell t i j n ∷ ts) (t ∷ write_cell ts x i j n))
    go true r =
        All-cons TableInRange (with_cell t i j n) ts
        (record { cells = All-set InRange t.cells (cell_number t i j) n f here.cells; rows = here.rows; cols = here.cols }) (All-tail TableInRange t ts h)
    go false r = All-cons TableInRange t (write_cell ts x i j n) here r

-- ---- expressions

-- the number of an answer is in range, where it has one
abbrev AnswerInRange : Answer → Type 0
AnswerInRange (Number n) = InRange n
AnswerInRange (Traps k p) = ⊤

bind_in : (v : Value) (f : ℤ → Value) → AnswerInRange v.answer → ((n : ℤ) → InRange n → AnswerInRange (f n).answer) → AnswerInRange (bind v f).answer
bind_in v f h g = go v.answer h
  where
    go : (a : Answer) → AnswerInRange a → AnswerInRange (bind_answer a v.notes f).answer
    go (Number n) h = g n h
    go (Traps k p) h = tt

truth_in : (b : Bool) → InRange (truth b)
truth_in true = omega (arith, ints)
truth_in false = zero_in

divided_in : (f : ℤ → ℤ → ℤ) (p : Place) (a b : ℤ) → AnswerInRange (divided f p a b).answer
divided_in f p a (pos zero) = tt
divided_in f p a (pos (suc k)) = SFits-int_wrap w64 (f a (pos (suc k)))
divided_in f p a (negsuc k) = SFits-int_wrap w64 (f a (negsuc k))

calculated_in : (o : BinOp) (p : Place) (a b : ℤ) → AnswerInRange (calculated o p a b).answer
calculated_in op.Add p a b = SFits-int_wrap w64 (a +ℤ b)
calculated_in op.Sub p a b = SFits-int_wrap w64 (a -ℤ b)
calculated_in op.Mul p a b = SFits-int_wrap w64 (a *ℤ b)
calculated_in op.Div p a b = divided_in int_div p a b
calculated_in op.Rem p a b = divided_in int_rem p a b
calculated_in op.Eq p a b = truth_in (int_eq a b)
calculated_in op.Ne p a b = truth_in (not (int_eq a b))
calculated_in op.Lt p a b = truth_in (int_lt a b)
calculated_in op.Le p a b = truth_in (int_le a b)
calculated_in op.Gt p a b = truth_in (int_lt b a)
calculated_in op.Ge p a b = truth_in (int_le b a)

read_in : (ts : List Table) (x : Name) (i j : ℤ) → All TableInRange ts → AnswerInRange (read_cell ts x i j).answer
read_in ts x i j h = go (has_cell (table_of ts x.text.items) i j) refl
  where
    go : (b : Bool) → has_cell (table_of ts x.text.items) i j ≡ b → AnswerInRange (read_cell ts x i j).answer
    go true e = rw (e, read_cell) (cell_in (table_of ts x.text.items) i j (table_in ts x.text.items h))
    go false e = rw (e, read_cell) tt

eval_in : (s : State) → StateInRange s → (e : Expr) → ExprInRange e → AnswerInRange (eval s.vars s.tables e).answer
eval_in s h (Int n p) l = l
eval_in s h (Var x) l = lookup_in s.vars x.text.items h.vars
eval_in s h (Cell' t p a q b) l = bind_in (eval s.vars s.tables a) _ (eval_in s h a l.0) (λ i f. bind_in (eval s.vars s.tables b) _ (eval_in s h b l.1) (λ j g. read_in s.tables t i j h.tables))
eval_in s h (Rows t) l = (table_in s.tables t.text.items h.tables).rows
eval_in s h (Cols t) l = (table_in s.tables t.text.items h.tables).cols
eval_in s h (Neg' p a place) l = bind_in (eval s.vars s.tables a) _ (eval_in s h a l) (λ n f. SFits-int_wrap w64 (pos 0 -ℤ n))
eval_in s h (Bin' o place p a q b) l = bind_in (eval s.vars s.tables a) _ (eval_in s h a l.0) (λ m f. bind_in (eval s.vars s.tables b) _ (eval_in s h b l.1) (λ n g. calculated_in o place m n))

pub value_in : (s : State) → StateInRange s → (e : Expr) → ExprInRange e → (n : ℤ) → (eval s.vars s.tables e).answer ≡ Number n → InRange n
value_in s h e l n q = subst AnswerInRange q (eval_in s h e l)

-- ---- runs, however they stop

-- the number that an iteration is left with is in range: its `par` sets a variable to it
abbrev LeftInRange : Stop → Type 0
LeftInRange (Left n) = InRange n
LeftInRange _ = ⊤

record RanInRange (r : Ran) : Type 0 where
  pub state : StateInRange r.state
  pub left : LeftInRange r.stop

record Holds (act : State → Ran) : Type 0 where
  pub leaves : (s : State) → StateInRange s → RanInRange (act s)

in_noted : (ns : List Note) (r : Ran) → RanInRange r → RanInRange (noted ns r)
in_noted ns r h = record { state = h.state; left = h.left }

in_after : (r : Ran) (go : State → Ran) → RanInRange r → Holds go → RanInRange (after r go)
in_after r go h g = f r.stop
  where
    f : (x : Stop) → RanInRange (go_on x r go)
    f Done = in_noted r.notes (go r.state) (g.leaves r.state h.state)
    f (Left n) = h
    f (Trap k p) = h
    f NoFuel = h

holds_seq : (a b : State → Ran) → Holds a → Holds b → Holds (λ s. after (a s) b)
holds_seq a b p q = record { leaves = λ s h. in_after (a s) b (p.leaves s h) q }

in_caught : (target : Option (List ℕ)) (r : Ran) → RanInRange r → RanInRange (caught target r)
in_caught target r h = f r.stop h.left target
  where
    f : (x : Stop) → LeftInRange x → (target : Option (List ℕ)) → RanInRange (caught_by x target r)
    f (Left n) l (Some y) = record { state = record { vars = assign_in_range r.state.vars y n l h.state.vars; tables = h.state.tables }; left = tt }
    f (Left n) l None = record { state = h.state; left = tt }
    f Done l target = h
    f (Trap k p) l target = h
    f NoFuel l target = h

holds_caught : (target : Option (List ℕ)) (act : State → Ran) → Holds act → Holds (λ s. caught target (act s))
holds_caught target act p = record { leaves = λ s h. in_caught target (act s) (p.leaves s h) }

-- runs that leave variables and tables as they are
holds_still : (act : State → Ran) → ((s : State) → (act s).stop ≡ Done) → ((s : State) → (act s).state.vars ≡ s.vars) → ((s : State) → (act s).state.tables ≡ s.tables) → Holds act
holds_still act d v t = record {
  leaves = λ s h.
      record {
        state = record { vars = subst (All VariableInRange) (sym (v s)) h.vars; tables = subst (All TableInRange) (sym (t s)) h.tables };
        left = subst LeftInRange (sym (d s)) tt;
      };
}

holds_vars : (f : List Variable → List Variable) → ((vs : List Variable) → All VariableInRange vs → All VariableInRange (f vs)) → Holds (λ s. done (record s { vars = f s.vars }))
holds_vars f g = record { leaves = λ s h. record { state = record { vars = g s.vars h.vars; tables = h.tables }; left = tt } }

holds_done : Holds done
holds_done = record { leaves = λ s h. record { state = h; left = tt } }

holds_trapped : (k : TrapKind) (p : Place) → Holds (trapped k p)
holds_trapped k p = record { leaves = λ s h. record { state = h; left = tt } }

holds_left : (n : ℤ) → InRange n → Holds (left_with n)
holds_left n f = record { leaves = λ s h. record { state = h; left = f } }

holds_given : (e : Expr) (f : ℤ → State → Ran) → ExprInRange e → ((n : ℤ) → InRange n → Holds (f n)) → Holds (λ s. given e s (λ n. f n s))
holds_given e f l p = record { leaves = λ s h. go s h (eval s.vars s.tables e).answer (eval s.vars s.tables e).notes (eval_in s h e l) }
  where
    go : (s : State) → StateInRange s → (a : Answer) (ns : List Note) → AnswerInRange a → RanInRange (given_answer a ns s (λ n. f n s))
    go s h (Number n) ns q = in_noted ns (f n s) ((p n q).leaves s h)
    go s h (Traps k x) ns q = record { state = h; left = tt }

holds_two : (a b : Expr) (f : ℤ → ℤ → State → Ran) → ExprInRange a → ExprInRange b → ((m n : ℤ) → InRange m → InRange n → Holds (f m n)) → Holds (λ s. given_two a b s (λ m n. f m n s))
holds_two a b f l m p = holds_given a (λ i s. given b s (λ j. f i j s)) l (λ i h. holds_given b (f i) m (λ j k. p i j h k))

holds_args : (es : List Expr) (f : List ℤ → State → Ran) → All ExprInRange es → ((ns : List ℤ) → All InRange ns → Holds (f ns)) → Holds (λ s. given_all es s (λ ns. f ns s))
holds_args [] f l p = p [] (All-nil InRange)
holds_args (e ∷ es) f l p =
    holds_given e (λ n s. given_all es s (λ ns. f (n ∷ ns) s)) (All-head ExprInRange e es l)
    (λ n h. holds_args es (λ ns. f (n ∷ ns)) (All-tail ExprInRange e es l) (λ ns k. p (n ∷ ns) (All-cons InRange n ns h k)))

holds_choose : (n : ℤ) (a b : State → Ran) → Holds a → Holds b → Holds (choose n a b)
holds_choose (pos zero) a b p q = q
holds_choose (pos (suc n)) a b p q = p
holds_choose (negsuc n) a b p q = p

holds_leave : (a : State → Ran) → Holds a → Holds (λ s. leave_block (length s.vars) (a s))
holds_leave a p = record {
  leaves = λ s h.
      let q = p.leaves s h in
      record { state = record { vars = All-take VariableInRange (length s.vars) (a s).state.vars q.state.vars; tables = q.state.tables }; left = q.left };
}

holds_put : (t : Name) (i j n : ℤ) → InRange n → Holds (put_cell t i j n)
holds_put t i j n f = record { leaves = λ s h. go s h (has_cell (table_of s.tables t.text.items) i j) refl }
  where
    go : (s : State) → StateInRange s → (b : Bool) → has_cell (table_of s.tables t.text.items) i j ≡ b → RanInRange (put_cell t i j n s)
    go s h true e = rw (e, put_cell) (record { state = record { vars = h.vars; tables = write_in s.tables t.text.items i j n f h.tables }; left = tt })
    go s h false e = rw (e, put_cell) (record { state = h; left = tt })

holds_wide : (b : Bool) (p : Place) (f : State → Ran) → Holds f → Holds (unless_wide b p f)
holds_wide true p f q = holds_trapped Wide p
holds_wide false p f q = q

gap_in : (i j : ℤ) → InRange i → InRange j → InRange (i +ℤ pos (int_gap i j))
gap_in (pos a) (pos b) f g = omega (arith, ints)
gap_in (pos a) (negsuc b) f g = omega (arith, ints)
gap_in (negsuc a) (pos b) f g = omega (arith, ints)
gap_in (negsuc a) (negsuc b) f g = omega (arith, ints)

module _ (fuel : ℕ) where
  holds_tick : Holds (tick fuel)
  holds_tick = record { leaves = λ s h. go s h (nat_lt s.ticks fuel) refl }
    where
      go : (s : State) → StateInRange s → (b : Bool) → nat_lt s.ticks fuel ≡ b → RanInRange (tick fuel s)
      go s h true e = rw e (record { state = record { vars = h.vars; tables = h.tables }; left = tt })
      go s h false e = rw e (record { state = record { vars = h.vars; tables = h.tables }; left = tt })

  holds_turns : (n : ℕ) (e : Expr) (body : State → Ran) → ExprInRange e → Holds body → Holds (turns n fuel e body)
  unfolding turns
  holds_turns zero e body l p = record { leaves = λ s h. record { state = h; left = tt } }
  holds_turns (suc n) e body l p =
      holds_given e (λ v. choose v (λ t. after (after (tick fuel t) body) (turns n fuel e body)) done) l
      (λ v h. holds_choose v _ done (holds_seq (λ t. after (tick fuel t) body) (turns n fuel e body) (holds_seq (tick fuel) body holds_tick p) (holds_turns n e body l p)) holds_done)

  holds_iteration : (x : List ℕ) (body : State → Ran) (ns : List Note) (i : ℤ) → InRange i → Holds body → Holds (iteration fuel x body ns i)
  holds_iteration x body ns i f p =
      holds_leave (λ s. after (tick fuel s) (λ t. noted ns (body (record t { vars = declare t.vars x i }))))
      (holds_seq (tick fuel) (λ t. noted ns (body (record t { vars = declare t.vars x i }))) holds_tick
      (record {
        leaves = λ s h.
            in_noted ns (body (record s { vars = declare s.vars x i }))
            (p.leaves (record s { vars = declare s.vars x i }) (record { vars = declare_in s.vars x i f h.vars; tables = h.tables }));
      }))

  holds_iterate : (n : ℕ) (x : List ℕ) (body : State → Ran) (again ns : List Note) (i : ℤ) → InRange i → InRange (i +ℤ pos n) → Holds body → Holds (iterate fuel x body again ns n i)
  unfolding iterate
  holds_iterate zero x body again ns i f g p = holds_done
  holds_iterate (suc n) x body again ns i f g p =
      let h : InRange (i +ℤ pos 1) = omega (arith, ints) in
      let k : (i +ℤ pos 1) +ℤ pos n ≡ i +ℤ pos (suc n) = omega (arith, ints) in
      holds_seq (iteration fuel x body ns i) (iterate fuel x body again again n (i +ℤ pos 1)) (holds_iteration x body ns i f p)
      (holds_iterate n x body again again (i +ℤ pos 1) h (subst InRange (sym k) g) p)

-- ---- statements, given what calls do

-- a call from numbers in range leaves them so, its value too
record CallHolds (c : State → Called) : Type 0 where
  pub leaves : (s : State) → StateInRange s → RanInRange (c s).ran
  pub value : (s : State) → StateInRange s → InRange (c s).value

holds_with_call : (c : State → Called) (f : ℤ → State → Ran) → CallHolds c → ((n : ℤ) → InRange n → Holds (f n)) → Holds (λ s. with_call (c s) f)
holds_with_call c f p q = record { leaves = λ s h. in_after (c s).ran (f (c s).value) (p.leaves s h) (q (c s).value (p.value s h)) }

folded_in : (o : Option Op) (vs : List Variable) (x : List ℕ) (n : ℤ) → InRange n → All VariableInRange vs → All VariableInRange (folded o vs x n)
folded_in None vs x n f h = h
folded_in (Some o) vs x n f h = assign_in_range vs x (combine o (lookup vs x) n) (combine_fits o (lookup vs x) n (lookup_in vs x h) f) h

abbrev CallsHold : (List ℕ → Place → List ℤ → List Note → State → Called) → Type 0
CallsHold call = (f : List ℕ) (p : Place) (ns : List ℤ) (b : List Note) → All InRange ns → CallHolds (call f p ns b)

module _ (fuel : ℕ) (call : List ℕ → Place → List ℤ → List Note → State → Called) (calls : CallsHold call) where
  abbrev under : List Reduce → Setting
  under rs = record { reduces = rs; fuel = fuel; call = call }

  holds_set : (x : Name) (n : ℤ) → InRange n → Holds (λ s. done (set_var x n s))
  holds_set x n f = holds_vars (λ vs. assign vs x.text.items n) (λ vs h. assign_in_range vs x.text.items n f h)

  holds_two_calls : (rs : List Reduce) (x f : Name) (ns : List ℤ) (y g : Name) (ms : List ℤ) (b : List Note) → All InRange ns → All InRange ms → Holds (two_calls (under rs) x f ns y g ms b)
  holds_two_calls rs x f ns y g ms b p q =
      holds_with_call (call f.text.items f.place ns b) (λ v t. with_call (call g.text.items g.place ms [] t) (set v)) (calls f.text.items f.place ns b p)
      (λ v h. holds_with_call (call g.text.items g.place ms []) (set v) (calls g.text.items g.place ms [] q)
      (λ w k. holds_vars (λ vs. assign (assign vs x.text.items v) y.text.items w)
      (λ vs r. assign_in_range (assign vs x.text.items v) y.text.items w k (assign_in_range vs x.text.items v h r))))
    where
      set : ℤ → ℤ → State → Ran
      set v w u = done (set_var y w (set_var x v u))

  mutual
    holds_stmt : (rs : List Reduce) (st : Stmt) → StmtInRange st → Holds (run (under rs) st)
    holds_stmt rs (Let x e) l = holds_given e _ l (λ n h. holds_vars (λ vs. declare vs x.text.items n) (λ vs f. declare_in vs x.text.items n h f))
    holds_stmt rs (Set x e) l = holds_given e _ l (λ n h. holds_set x n h)
    holds_stmt rs (Put t a b e) l = holds_two a b _ l.0 l.1 (λ i j f g. holds_given e _ l.2 (λ n h. holds_put t i j n h))
    holds_stmt rs (If' e p body q other) l =
        holds_given e _ l.0 (λ n h. holds_choose n (block (run_all (under rs) body)) (block (run_all (under rs) other)) (holds_leave _ (holds_all rs body l.1)) (holds_leave _ (holds_all rs other l.2)))
    holds_stmt rs (While' e p body) l = holds_turns fuel (fuel + 1) e (block (run_all (under rs) body)) l.0 (holds_leave _ (holds_all rs body l.1))
    holds_stmt rs (Loop' x a b p body) l =
        holds_two a b _ l.0 l.1 (λ i j f g. holds_iterate fuel (int_gap i j) x.text.items (run_all (under rs) body) [] [] i f (gap_in i j f g) (holds_all rs body l.2))
    holds_stmt rs (Par' place x a b carry_place carries reduces p body) l =
        holds_two a b _ l.0 l.1 (λ i j f g. holds_wide (too_wide i j) place _ (holds_caught (left_in body) _
        (holds_iterate fuel (int_gap i j) x.text.items (run_all (under reduces.items) body) (Chance ∷ []) [] i f (gap_in i j f g) (holds_all reduces.items body l.2))))
    holds_stmt rs (Fold x e) l =
        holds_given e _ l (λ n h. holds_vars (λ vs. folded (operator_of rs x.text.items) vs x.text.items n) (λ vs f. folded_in (operator_of rs x.text.items) vs x.text.items n h f))
    holds_stmt rs (Call x f) l =
        holds_args f.args.items _ l (λ ns k. holds_with_call (call f.callee.text.items f.callee.place ns []) (λ v t. done (set_var x v t)) (calls f.callee.text.items f.callee.place ns [] k)
        (λ n h. holds_set x n h))
    holds_stmt rs (Both x f y g) l =
        holds_args f.args.items (λ ns s. given_all g.args.items s (λ ms. two_calls (under rs) x f.callee ns y g.callee ms (Chance ∷ []) s)) l.0
        (λ ns k. holds_args g.args.items (λ ms. two_calls (under rs) x f.callee ns y g.callee ms (Chance ∷ [])) l.1
        (λ ms m. holds_two_calls rs x f.callee ns y g.callee ms (Chance ∷ []) k m))
    holds_stmt rs (Print place e) l = holds_given e _ l (λ n h. holds_still (λ s. done (print_line n s)) (λ s. refl) (λ s. refl) (λ s. refl))
    holds_stmt rs (Emit place t) l = holds_still (λ s. noted (Emits t.text.items ∷ []) (done (print_table (table_of s.tables t.text.items) s))) (λ s. refl) (λ s. refl) (λ s. refl)
    holds_stmt rs (Leave x e) l = holds_given e _ l (λ n h. holds_left n h)
    holds_stmt rs (Fill f t r es) l = holds_done

    holds_all : {m : _} (rs : List Reduce) (row : Row_of-Stmt m) → BlockInRange row → Holds (run_all (under rs) row)
    holds_all rs end_of-Stmt l = holds_done
    holds_all rs (more_of-Stmt first rest) l = holds_seq (run (under rs) first) (run_all (under rs) rest) (holds_stmt rs first l.0) (holds_all rs rest l.1)

  holds_list : (rs : List Reduce) (ss : List Stmt) → All StmtInRange ss → Holds (run_list (under rs) ss)
  holds_list rs [] l = holds_done
  holds_list rs (first ∷ rest) l =
      holds_seq (run (under rs) first) (run_list (under rs) rest) (holds_stmt rs first (All-head StmtInRange first rest l)) (holds_list rs rest (All-tail StmtInRange first rest l))

-- ---- calls

bound_in : (xs : List Name) (ns : List ℤ) → All InRange ns → All VariableInRange (bound xs ns)
bound_in [] ns h = All-nil VariableInRange
bound_in (x ∷ xs) [] h = All-nil VariableInRange
bound_in (x ∷ xs) (n ∷ ns) h =
    All-cons VariableInRange (record { name = x.text.items; value = n }) (bound xs ns) (All-head InRange n ns h) (bound_in xs ns (All-tail InRange n ns h))

number_in_range : (a : Answer) → AnswerInRange a → InRange (number_in a)
number_in_range (Number n) h = h
number_in_range (Traps k p) h = zero_in

abbrev FoundInRange : Option Func → Type 0
FoundInRange None = ⊤
FoundInRange (Some f) = FuncInRange f

found_in : (fs : List Func) (x : List ℕ) → All FuncInRange fs → FoundInRange (func_of fs x)
found_in [] x h = tt
found_in (f ∷ fs) x h = go (bytes_eq f.name.text.items x) (found_in fs x (All-tail FuncInRange f fs h))
  where
    go : (b : Bool) → FoundInRange (func_of fs x) → FoundInRange (cond b (Some f) (func_of fs x))
    go true r = All-head FuncInRange f fs h
    go false r = r

holds_enter : (fuel : ℕ) (call : List ℕ → Place → List ℤ → List Note → State → Called) → CallsHold call → (o : Option Func) → FoundInRange o → (ns : List ℤ) (b : List Note) → All InRange ns
    → CallHolds (enter (record { reduces = []; fuel = fuel; call = call }) o ns b)
holds_enter fuel call calls None l ns b k = record { leaves = λ s h. record { state = h; left = tt }; value = λ s h. zero_in }
holds_enter fuel call calls (Some f) l ns b k = record {
  leaves = λ s h. let q = in_after (body s) end (begun s h) ended in record { state = record { vars = h.vars; tables = q.state.tables }; left = q.left };
  value = λ s h. number_in_range (eval (body s).state.vars (body s).state.tables f.result).answer (eval_in (body s).state (begun s h).state f.result l.1);
}
  where
    body : State → Ran
    body s = noted b (run_list (record { reduces = []; fuel = fuel; call = call }) f.body.items (record s { vars = bound f.params.items ns }))

    end : State → Ran
    end s = given f.result s (λ n. done s)

    begun : (s : State) → StateInRange s → RanInRange (body s)
    begun s h =
        in_noted b _ ((holds_list fuel call calls [] f.body.items l.0).leaves (record s { vars = bound f.params.items ns }) (record { vars = bound_in f.params.items ns k; tables = h.tables }))

    ended : Holds end
    ended = holds_given f.result (λ n s. done s) l.1 (λ n h. holds_done)

holds_call_on : (fuel : ℕ) (go : State → Called) → CallHolds go → CallHolds (λ s. call_on (tick fuel s).stop (tick fuel s) go)
holds_call_on fuel go p = record { leaves = λ s h. state (tick fuel s).stop s h; value = λ s h. value (tick fuel s).stop s h }
  where
    state : (x : Stop) (s : State) → StateInRange s → RanInRange (call_on x (tick fuel s) go).ran
    state Done s h = in_noted (tick fuel s).notes (go (tick fuel s).state).ran (p.leaves (tick fuel s).state ((holds_tick fuel).leaves s h).state)
    state (Left n) s h = (holds_tick fuel).leaves s h
    state (Trap k q) s h = (holds_tick fuel).leaves s h
    state NoFuel s h = (holds_tick fuel).leaves s h

    value : (x : Stop) (s : State) → StateInRange s → InRange (call_on x (tick fuel s) go).value
    value Done s h = p.value (tick fuel s).state ((holds_tick fuel).leaves s h).state
    value (Left n) s h = zero_in
    value (Trap k q) s h = zero_in
    value NoFuel s h = zero_in

holds_call : (fs : List Func) → All FuncInRange fs → (fuel room : ℕ) → CallsHold (call_at fs fuel room)
unfolding call_at
holds_call fs l fuel zero f p ns b k = holds_call_on fuel (λ u. no_value (trapped Deep p u)) (record { leaves = (holds_trapped Deep p).leaves; value = λ s h. zero_in })
holds_call fs l fuel (suc room) f p ns b k =
    holds_call_on fuel (enter (record { reduces = []; fuel = fuel; call = call_at fs fuel room }) (func_of fs f) ns b)
    (holds_enter fuel (call_at fs fuel room) (holds_call fs l fuel room) (func_of fs f) (found_in fs f l) ns b k)

-- ---- at any depth of a program

ran_in_range : (p : Program) (fuel depth : ℕ) (rs : List Reduce) (body : List Stmt) → All FuncInRange p.funcs.items → All StmtInRange body → Holds (run_list (setting p fuel depth rs) body)
ran_in_range p fuel depth rs body l m = holds_list fuel (call_at p.funcs.items fuel _) (holds_call p.funcs.items l fuel _) rs body m

pub runs_in_range : (p : Program) (fuel depth : ℕ) (rs : List Reduce) (body : List Stmt) (s : State) → All FuncInRange p.funcs.items → All StmtInRange body → StateInRange s
    → StateInRange (run_list (setting p fuel depth rs) body s).state
runs_in_range p fuel depth rs body s l m h = ((ran_in_range p fuel depth rs body l m).leaves s h).state

pub left_in_range : (p : Program) (fuel depth : ℕ) (rs : List Reduce) (body : List Stmt) (s : State) (n : ℤ) → All FuncInRange p.funcs.items → All StmtInRange body → StateInRange s
    → (run_list (setting p fuel depth rs) body s).stop ≡ Left n → InRange n
left_in_range p fuel depth rs body s n l m h e = subst LeftInRange e ((ran_in_range p fuel depth rs body l m).leaves s h).left

-- ---- a whole program

or_true : (b c : Bool) → b || true || c ≡ true
or_true true c = refl
or_true false c = refl

-- a table of sizes that aren't too large
made_in : (c : ℕ) (x : Name) (m n : ℤ) → InRange m → InRange n → is_too_large c m n ≡ false → TableInRange (zero_table x m n)
made_in c x (pos m) (pos n) f g e = record { cells = All-replicate InRange _ (pos 0) zero_in; rows = f; cols = g }
made_in c x (pos m) (negsuc n) f g e = absurd (true≢false (sym (or_true (is_bad_size (pos m)) (nat_lt MAX_TABLE_CELLS (c + unsigned_abs (pos m) * unsigned_abs (negsuc n)))) ∙ e))
made_in c x (negsuc m) n f g e = absurd (true≢false e)

holds_large : (b : Bool) (p : Place) (f : State → Ran) → (b ≡ false → Holds f) → Holds (unless_large b p f)
holds_large true p f q = holds_trapped Size p
holds_large false p f q = q refl

-- a run on one table more
holds_added : (t : Table) (f : State → Ran) → TableInRange t → Holds f → Holds (λ s. f (add_table t s))
holds_added t f h p = record {
  leaves = λ s k. p.leaves (add_table t s)
      (record { vars = k.vars; tables = All-append TableInRange s.tables (t ∷ []) k.tables (All-cons TableInRange t [] h (All-nil TableInRange)) });
}

holds_tables : (ts : List Table) → All TableInRange ts → (c : ℕ) (ds : List TableDecl) → All DeclInRange ds → Holds (make_tables ts c ds)
holds_tables ts h c [] l = holds_done
holds_tables ts h c (Input x ∷ ds) l =
    holds_added (table_of ts x.text.items) (make_tables ts c ds) (table_in ts x.text.items h) (holds_tables ts h c ds (All-tail DeclInRange (Input x) ds l))
holds_tables ts h c (Made x a b ∷ ds) l =
    let d : DeclInRange (Made x a b) = All-head DeclInRange (Made x a b) ds l in
    holds_two a b _ d.0 d.1 (λ m n f g. holds_large (is_too_large c m n) x.place _
    (λ e. holds_added (zero_table x m n) (make_tables ts (c + unsigned_abs m * unsigned_abs n) ds) (made_in c x m n f g e)
    (holds_tables ts h (c + unsigned_abs m * unsigned_abs n) ds (All-tail DeclInRange (Made x a b) ds l))))

pub whole_in_range : (p : Program) (ts : List Table) (fuel : ℕ) → ProgramInRange p → All TableInRange ts → StateInRange (whole_run p ts fuel).state
unfolding whole_run
whole_in_range p ts fuel l h =
    ((holds_seq (make_tables ts (input_cells p.tables.items ts) p.tables.items) (run_list (setting p fuel 0 []) p.main.items)
    (holds_tables ts h (input_cells p.tables.items ts) p.tables.items l.tables)
    (ran_in_range p fuel 0 [] p.main.items l.funcs l.main)).leaves first_state
    (record { vars = All-nil VariableInRange; tables = All-nil TableInRange })).state
