-- The readings of statements and declarations are sound, and stop where the machine stops.
use Rattle.std.proofs.Common.{◌≡◌, ℕ, ℤ, zero, suc, ◌<◌, ◌≤◌, List, [], ◌∷◌, ◌++◌, length, Option}
use Rattle.std.proofs.Common.{Some, None, Ok, Err, Bool, true, false, if◌then◌else◌, refl, sym, ap}
use Rattle.std.proofs.Common.{subst, ◌∙◌, arith}
use Rattle.tp_value.specs.declared.values.Place.{Place}
use Rattle.tp_value.specs.declared.values.Op.{Op}
use Rattle.tp_value.specs.declared.values.Op.TheVariants as reducers
use Rattle.loop_syntax.specs.Tree.{Spelled, Tree, RowTree, RVar, RInt, CarryTree, CRows, CCells}
use Rattle.loop_syntax.specs.Tree.{ReduceTree, NLet, NSet, NPut, NFold, NCall, NBoth, NPrint, NLeave}
use Rattle.loop_parse.specs.declared.terminal.Fixed.{Fixed}
use Rattle.loop_parse.specs.declared.terminal.Fixed.TheVariants as words
use Rattle.loop_parse.specs.declared.terminal.Fixed.TheVariants.{Comma, OpenBrace, CloseBrace}
use Rattle.loop_parse.specs.declared.terminal.Fixed.TheVariants.{OpenRound, CloseRound, OpenSquare}
use Rattle.loop_parse.specs.declared.terminal.Fixed.TheVariants.{CloseSquare}
use Rattle.loop_parse.specs.Terms as kinds
use Rattle.loop_parse.specs.Terms.{Kind, Token, Is, IsName, IsLiteral}
use Rattle.loop_parse.specs.Grammar.{Item, The, At, AName, ALiteral, AnExpr, ABrace, Params}
use Rattle.loop_parse.specs.Grammar.{MoreNames, AStmt, CarryList, MoreCarries, ACarry, ReduceList}
use Rattle.loop_parse.specs.Grammar.{MoreReduces, AReduce, AnOp, AnApp, Args, MoreArgs, no_param}
use Rattle.loop_parse.specs.Grammar.{params, no_name, names, let_stmt, set_stmt, put_stmt}
use Rattle.loop_parse.specs.Grammar.{fold_stmt, call_stmt, both_stmt, print_stmt, emit_stmt, leave_stmt}
use Rattle.loop_parse.specs.Grammar.{no_carry, carries, no_more_carry, more_carries, rows_item}
use Rattle.loop_parse.specs.Grammar.{cells_item, literal_item, no_reduce, reduces, no_more_reduce}
use Rattle.loop_parse.specs.Grammar.{more_reduces, red, add_op, mul_op, min_op, max_op, affine_op}
use Rattle.loop_parse.specs.Grammar.{app, no_arg, args, no_more_arg, more_args, Fits, the, at_place}
use Rattle.loop_parse.specs.Grammar.{a_name, a_literal, by, FitAll, none, next_item, DeepIn}
use Rattle.loop_parse.specs.Reading.{Reply, Reader, Fault, Form, Deep, ◌>>=◌, tag, is_fixed, expect}
use Rattle.loop_parse.specs.Reading.{Limits, starts, begins_with, many_of, after_comma, further}
use Rattle.loop_parse.specs.Reading
use Rattle.loop_parse.proofs.Items.{Deeply, under, now, ◌▸◌, ◌◂◌}
use Rattle.loop_parse.proofs.Machine.{Symbol, Want, AName as Naming, Unary, ProductRest, SumRest}
use Rattle.loop_parse.proofs.Machine.{CompareRest, AssignRest, Args as Arguing, MoreArgs as Further}
use Rattle.loop_parse.proofs.Machine.{Params as Naming_all, MoreNames as Further_names, Row}
use Rattle.loop_parse.proofs.Machine.{ColumnRest, CarryList as Carrying}
use Rattle.loop_parse.proofs.Machine.{MoreCarries as Further_carries, ReduceList as Reducing}
use Rattle.loop_parse.proofs.Machine.{MoreReduces as Further_reduces, Reducer, Take, Skip, Refuse}
use Rattle.loop_parse.proofs.Machine.{an_expr as expr_on, an_app, a_carry, a_column, a_reduce, step}
use Rattle.loop_parse.proofs.Machine.{offer, moved, run, unary_move, primary_move, fixed_move}
use Rattle.loop_parse.proofs.Machine.{assign_move, row_move, reducer_move, on_fixed, if_name}
use Rattle.loop_parse.proofs.Exact.{Ends, done, stopped, bind, along, weaken, wider, deeper}
use Rattle.loop_parse.proofs.Exact.{expects, taken, took, refused, skipped, name_law, AtFixed}

pub the_law : {W : List Token → Type 0} (s : Fixed) (ts : List Token) → Ends (λ p rest. Fits (The s) ts rest) (λ st. run (Want s ∷ st) ts) W (length ts) (expect s ts)
the_law s ts = weaken (λ p rest z. subst (λ (us : List Token). Fits (The s) us rest) (sym z.2) (the z.1)) (expects s ts)

at_fits : (s : Fixed) (ts : List Token) (p : Place) (rest : List Token) → AtFixed s ts p rest → Fits (At s p) ts rest
at_fits s ts p rest z = subst (λ (q : Place). Fits (At s q) ts rest) (sym z.3) (subst (λ (us : List Token). Fits (At s z.0.place) us rest) (sym z.2) (at_place z.1))

pub at_law : {W : List Token → Type 0} (s : Fixed) (ts : List Token) → Ends (λ p rest. Fits (At s p) ts rest) (λ st. run (Want s ∷ st) ts) W (length ts) (expect s ts)
at_law s ts = weaken (at_fits s ts) (expects s ts)

pub name_item : {W : List Token → Type 0} (ts : List Token) → Ends (λ x rest. Fits (AName x) ts rest) (λ st. run (Naming ∷ st) ts) W (length ts) (Reading.name ts)
name_item ts = weaken (λ x rest z. subst (λ (us : List Token). Fits (AName x) us rest) (sym z.2) (a_name z.1)) (name_law ts)

-- what a list of items is made of, and what the machine waits for
pub record Listing {A : Type 0} (F : List A → Item) (G : A → List Token → List Token → Type 0) (L : Type 0) (W : List Token → List Token → Type 0) (begins : Kind → Bool) (M : Symbol) (pre : List Symbol → List Symbol) : Type 0 where
  pub nil : (ts : List Token) → Fits (F []) ts ts
  pub cons : (x : A) (xs : List A) (ts mid rest : List Token) → G x ts mid → Fits (F xs) mid rest → Fits (F (x ∷ xs)) ts rest
  pub deep_here : (ts us : List Token) → W ts us → L × Deeply F ts us
  pub deep_later : (x : A) (ts mid us : List Token) → G x ts mid → L × Deeply F mid us → L × Deeply F ts us
  pub takes : (t : Token) (ts : List Token) (st : List Symbol) → begins t.kind ≡ true → run (M ∷ st) (t ∷ ts) ≡ run (pre (M ∷ st)) (t ∷ ts)
  pub skips : (t : Token) (ts : List Token) (st : List Symbol) → begins t.kind ≡ false → run (M ∷ st) (t ∷ ts) ≡ run st (t ∷ ts)
  pub stops : (st : List Symbol) → run (M ∷ st) [] ≡ run st []

module _ {A : Type 0} (F : List A → Item) (G : A → List Token → List Token → Type 0) (L : Type 0) (W : List Token → List Token → Type 0) (begins : Kind → Bool) (M : Symbol) (pre : List Symbol → List Symbol) (c : Listing F G L W begins M pre) (n : ℕ) (item : Reader A) (law : (ts : List Token) → length ts ≤ n → Ends (λ x rest. G x ts rest) (λ st. run (pre st) ts) (W ts) (length ts) (item ts)) where
  pub many_law : (m : ℕ) (ts : List Token) → length ts ≤ m → length ts ≤ n → Ends (λ xs rest. Fits (F xs) ts rest) (λ st. run (M ∷ st) ts) (λ us. L × Deeply F ts us) (suc (length ts)) (many_of begins item m ts)
  many_law zero [] l k = done (c.nil []) (omega arith) c.stops
  many_law zero (t ∷ ts) l k = absurd (omega arith)
  many_law (suc m) [] l k = done (c.nil []) (omega arith) c.stops
  many_law (suc m) (t ∷ ts) l k = go (begins t.kind) refl (λ us q. many_law m us (omega arith) (omega arith))
    where
      go : (b : Bool) → begins t.kind ≡ b → ((us : List Token) → length us < length (t ∷ ts) → Ends (λ xs rest. Fits (F xs) us rest) (λ st. run (M ∷ st) us) (λ vs. L × Deeply F us vs) (suc (length us)) (many_of begins item m us)) →
          Ends (λ xs rest. Fits (F xs) (t ∷ ts) rest) (λ st. run (M ∷ st) (t ∷ ts)) (λ us. L × Deeply F (t ∷ ts) us) (suc (length (t ∷ ts)))
          (if b then (do
            x ← item (t ∷ ts)
            xs ← many_of begins item m x.1
            Ok (x.0 ∷ xs.0, xs.1))
          else Ok ([], t ∷ ts))
      go false h again = done (c.nil (t ∷ ts)) (omega arith) (λ st. c.skips t ts st h)
      go true h again =
          bind (λ st. M ∷ st) _ (λ st. c.takes t ts st h) (deeper (c.deep_here (t ∷ ts)) (law (t ∷ ts) k)) (λ x r1 z q.
          bind (λ st. st) _ (λ st. refl) (deeper (λ us d. c.deep_later x (t ∷ ts) r1 us z d) (again r1 q)) (λ xs r2 zs qs.
          done (c.cons x xs (t ∷ ts) r1 r2 z zs) (omega arith) (λ st. refl)))

-- a symbol that waits for a comma
comma_takes : (M : Symbol) (more : List Symbol) → ((k : Kind) → step M k ≡ on_fixed Comma k more) → (t : Token) (ts : List Token) (st : List Symbol) → is_fixed Comma t.kind ≡ true → run (M ∷ st) (t ∷ ts) ≡ run (Want Comma ∷ more ++ st) (t ∷ ts)
comma_takes M more f t ts st h =
    took M t ts more (f t.kind ∙ ap (λ b. if b then Take more else Skip) h) st
    ∙ sym (took (Want Comma) t ts [] (ap (λ b. if b then Take [] else Refuse) h) (more ++ st))

comma_skips : (M : Symbol) (more : List Symbol) → ((k : Kind) → step M k ≡ on_fixed Comma k more) → (t : Token) (ts : List Token) (st : List Symbol) → is_fixed Comma t.kind ≡ false → run (M ∷ st) (t ∷ ts) ≡ run st (t ∷ ts)
comma_skips M more f t ts st h = skipped M t ts (f t.kind ∙ ap (λ b. if b then Take more else Skip) h) st

-- the two limits of a reading: what is read of an outermost expression and of the brace of a block
pub record Base (k : Limits) (L : Type 0) : Type 0 where
  pub expr_law : (n : ℕ) (ts : List Token) → length ts ≤ n → Ends (λ e rest. Fits (AnExpr e) ts rest) (λ st. run (expr_on st) ts) (λ us. L × Deeply AnExpr ts us) (length ts) (k.outermost n ts)
  pub brace_law : (level : ℕ) (ts : List Token) → Ends (λ p rest. Fits (ABrace level) ts rest) (λ st. run (Want OpenBrace ∷ st) ts) (λ us. L × DeepIn (ABrace level) ts us) (length ts) (Reading.open_brace k level ts)

names_cons : (x : Spelled) (xs : List Spelled) (ts mid rest : List Token) → FitAll (The Comma ∷ AName x ∷ []) ts mid → Fits (MoreNames xs) mid rest → Fits (MoreNames (x ∷ xs)) ts rest
names_cons x xs ts mid rest (next_item c (next_item y none)) zs = by names (c ◂ y ◂ zs ◂ none)

names_later : (L : Type 0) (x : Spelled) (ts mid us : List Token) → FitAll (The Comma ∷ AName x ∷ []) ts mid → L × Deeply MoreNames mid us → L × Deeply MoreNames ts us
names_later L x ts mid us (next_item c (next_item y none)) d = (d.0, (x ∷ d.1.0, under names (c ▸ y ▸ now d.1.1)))

carries_cons : (x : CarryTree) (xs : List CarryTree) (ts mid rest : List Token) → FitAll (The Comma ∷ ACarry x ∷ []) ts mid → Fits (MoreCarries xs) mid rest → Fits (MoreCarries (x ∷ xs)) ts rest
carries_cons x xs ts mid rest (next_item c (next_item y none)) zs = by more_carries (c ◂ y ◂ zs ◂ none)

carries_later : (L : Type 0) (x : CarryTree) (ts mid us : List Token) → FitAll (The Comma ∷ ACarry x ∷ []) ts mid → L × Deeply MoreCarries mid us → L × Deeply MoreCarries ts us
carries_later L x ts mid us (next_item c (next_item y none)) d = (d.0, (x ∷ d.1.0, under more_carries (c ▸ y ▸ now d.1.1)))

reduces_cons : (x : ReduceTree) (xs : List ReduceTree) (ts mid rest : List Token) → FitAll (The Comma ∷ AReduce x ∷ []) ts mid → Fits (MoreReduces xs) mid rest → Fits (MoreReduces (x ∷ xs)) ts rest
reduces_cons x xs ts mid rest (next_item c (next_item y none)) zs = by more_reduces (c ◂ y ◂ zs ◂ none)

reduces_later : (L : Type 0) (x : ReduceTree) (ts mid us : List Token) → FitAll (The Comma ∷ AReduce x ∷ []) ts mid → L × Deeply MoreReduces mid us → L × Deeply MoreReduces ts us
reduces_later L x ts mid us (next_item c (next_item y none)) d = (d.0, (x ∷ d.1.0, under more_reduces (c ▸ y ▸ now d.1.1)))

args_cons : (x : Tree) (xs : List Tree) (ts mid rest : List Token) → FitAll (The Comma ∷ AnExpr x ∷ []) ts mid → Fits (MoreArgs xs) mid rest → Fits (MoreArgs (x ∷ xs)) ts rest
args_cons x xs ts mid rest (next_item c (next_item y none)) zs = by more_args (c ◂ y ◂ zs ◂ none)

args_later : (L : Type 0) (x : Tree) (ts mid us : List Token) → FitAll (The Comma ∷ AnExpr x ∷ []) ts mid → L × Deeply MoreArgs mid us → L × Deeply MoreArgs ts us
args_later L x ts mid us (next_item c (next_item y none)) d = (d.0, (x ∷ d.1.0, under more_args (c ▸ y ▸ now d.1.1)))

names_listing : (L : Type 0) → Listing MoreNames (λ x ts mid. FitAll (The Comma ∷ AName x ∷ []) ts mid) L (λ ts us. L × Deeply MoreNames ts us) (λ q. is_fixed Comma q) Further_names (λ st. Want Comma ∷ Naming ∷ st)
names_listing L = record {
  nil = λ ts. by no_name none;
  cons = names_cons;
  deep_here = λ ts us d. d;
  deep_later = names_later L;
  takes = λ t ts st h. comma_takes Further_names (Naming ∷ Further_names ∷ []) (λ q. refl) t ts st h;
  skips = λ t ts st h. comma_skips Further_names (Naming ∷ Further_names ∷ []) (λ q. refl) t ts st h;
  stops = λ st. refl;
}

carries_listing : (L : Type 0) → Listing MoreCarries (λ x ts mid. FitAll (The Comma ∷ ACarry x ∷ []) ts mid) L (λ ts us. L × Deeply MoreCarries ts us) (λ q. is_fixed Comma q) Further_carries (λ st. Want Comma ∷ a_carry st)
carries_listing L = record {
  nil = λ ts. by no_more_carry none;
  cons = carries_cons;
  deep_here = λ ts us d. d;
  deep_later = carries_later L;
  takes = λ t ts st h. comma_takes Further_carries (a_carry (Further_carries ∷ [])) (λ q. refl) t ts st h;
  skips = λ t ts st h. comma_skips Further_carries (a_carry (Further_carries ∷ [])) (λ q. refl) t ts st h;
  stops = λ st. refl;
}

reduces_listing : (L : Type 0) → Listing MoreReduces (λ x ts mid. FitAll (The Comma ∷ AReduce x ∷ []) ts mid) L (λ ts us. L × Deeply MoreReduces ts us) (λ q. is_fixed Comma q) Further_reduces (λ st. Want Comma ∷ a_reduce st)
reduces_listing L = record {
  nil = λ ts. by no_more_reduce none;
  cons = reduces_cons;
  deep_here = λ ts us d. d;
  deep_later = reduces_later L;
  takes = λ t ts st h. comma_takes Further_reduces (a_reduce (Further_reduces ∷ [])) (λ q. refl) t ts st h;
  skips = λ t ts st h. comma_skips Further_reduces (a_reduce (Further_reduces ∷ [])) (λ q. refl) t ts st h;
  stops = λ st. refl;
}

-- a comma, and an argument that is too deep
abbrev AfterComma : Type 0 → List Token → List Token → Type 0
AfterComma L ts us = L × (mid : List Token) × Fits (The Comma) ts mid × Deeply AnExpr mid us

args_listing : (L : Type 0) → Listing MoreArgs (λ x ts mid. FitAll (The Comma ∷ AnExpr x ∷ []) ts mid) L (AfterComma L) (λ q. is_fixed Comma q) Further (λ st. Want Comma ∷ expr_on st)
args_listing L = record {
  nil = λ ts. by no_more_arg none;
  cons = args_cons;
  deep_here = λ ts us d. (d.0, (d.3.0 ∷ [], under more_args (d.2 ▸ now d.3.1)));
  deep_later = args_later L;
  takes = λ t ts st h. comma_takes Further (expr_on (Further ∷ [])) (λ q. refl) t ts st h;
  skips = λ t ts st h. comma_skips Further (expr_on (Further ∷ [])) (λ q. refl) t ts st h;
  stops = λ st. refl;
}

-- the row of a carry item
data AtRow (ts : List Token) : RowTree → List Token → Type 0 where
  named_row : {x : Spelled} {rest : List Token} → Fits (AName x) ts rest → AtRow ts (RVar x) rest
  literal_row : {n : ℤ} {rest : List Token} → Fits (ALiteral n) ts rest → AtRow ts (RInt n) rest

-- an operator of a reduction
op_fits : (s : Fixed) (o : Op) (t : Token) (ts : List Token) → Is s t → Reading.op_by s ≡ Some o → Fits (AnOp o) (t ∷ ts) ts
op_fits words.Add o t ts i h = let e : reducers.Add ≡ o = cc in subst (λ (q : Op). Fits (AnOp q) (t ∷ ts) ts) e (by add_op (the i ◂ none))
op_fits words.Mul o t ts i h = let e : reducers.Mul ≡ o = cc in subst (λ (q : Op). Fits (AnOp q) (t ∷ ts) ts) e (by mul_op (the i ◂ none))
op_fits words.Min o t ts i h = let e : reducers.Min ≡ o = cc in subst (λ (q : Op). Fits (AnOp q) (t ∷ ts) ts) e (by min_op (the i ◂ none))
op_fits words.Max o t ts i h = let e : reducers.Max ≡ o = cc in subst (λ (q : Op). Fits (AnOp q) (t ∷ ts) ts) e (by max_op (the i ◂ none))
op_fits words.Affine o t ts i h = let e : reducers.Affine ≡ o = cc in subst (λ (q : Op). Fits (AnOp q) (t ∷ ts) ts) e (by affine_op (the i ◂ none))
op_fits _ o t ts i h = cc

reducer_some : (t : Token) (ts : List Token) (k : Kind) (o : Op) → t.kind ≡ k → Reading.reducer_of k ≡ Some o → Fits (AnOp o) (t ∷ ts) ts
reducer_some t ts (kinds.Literal n) o i h = cc
reducer_some t ts (kinds.Name x) o i h = cc
reducer_some t ts (kinds.Spelling s) o i h = op_fits s o t ts i h

reducer_law : {W : List Token → Type 0} (ts : List Token) → Ends (λ o rest. Fits (AnOp o) ts rest) (λ st. run (Reducer ∷ st) ts) W (length ts) (Reading.reducer ts)
unfolding Reading.reducer
reducer_law {W} [] = stopped (λ st. refl)
reducer_law {W} (t ∷ ts) = go (Reading.reducer_of t.kind) refl
  where
    go : (o : Option Op) → Reading.reducer_of t.kind ≡ o → Ends (λ o rest. Fits (AnOp o) (t ∷ ts) rest) (λ st. run (Reducer ∷ st) (t ∷ ts)) W (length (t ∷ ts)) (elim o [ None ↦ Err (Form (t ∷ ts)) | Some o2 ↦ Ok (o2, ts) ])
    go None h = stopped (refused Reducer t ts (ap reducer_move h))
    go (Some o) h = done (reducer_some t ts t.kind o refl h) (omega arith) (took Reducer t ts [] (ap reducer_move h))

-- an expression that begins at another symbol begins as one of its own
fixed_more : (s : Fixed) (tails st : List Symbol) (a b : Option (List Symbol)) → moved (fixed_move s tails) a st ≡ moved (fixed_move s []) b (tails ++ st)
fixed_more OpenRound tails st a b = refl
fixed_more words.Rows tails st a b = refl
fixed_more words.Cols tails st a b = refl
fixed_more _ tails st a b = refl

primary_more : (k : Kind) (tails st : List Symbol) (a b : Option (List Symbol)) → moved (primary_move k tails) a st ≡ moved (primary_move k []) b (tails ++ st)
primary_more (kinds.Literal n) tails st a b = refl
primary_more (kinds.Name x) tails st a b = refl
primary_more (kinds.Spelling s) tails st a b = fixed_more s tails st a b

unary_more : (k : Kind) (tails st : List Symbol) (a b : Option (List Symbol)) → moved (unary_move k tails) a st ≡ moved (unary_move k []) b (tails ++ st)
unary_more k tails st a b = go (is_fixed words.Minus k)
  where
    go : (d : Bool) → moved (if d then Take (Unary ∷ tails) else primary_move k tails) a st ≡ moved (if d then Take (Unary ∷ []) else primary_move k []) b (tails ++ st)
    go true = refl
    go false = primary_more k tails st a b

module _ (k : Limits) (L : Type 0) (base : Base k L) where
  more_names_law : (n : ℕ) (ts : List Token) → length ts ≤ n → Ends (λ xs rest. Fits (MoreNames xs) ts rest) (λ st. run (Further_names ∷ st) ts) (λ us. L × Deeply MoreNames ts us) (suc (length ts)) (Reading.more_names n ts)
  unfolding Reading.more_names
  more_names_law n ts l = many_law MoreNames (λ x ts mid. FitAll (The Comma ∷ AName x ∷ []) ts mid) L (λ ts us. L × Deeply MoreNames ts us) (λ q. is_fixed Comma q) Further_names (λ st. Want Comma ∷ Naming ∷ st) (names_listing L) n (after_comma Reading.name)
      (λ us q.
      bind (λ st. Naming ∷ st) _ (λ st. refl) (the_law Comma us) (λ p r1 z1 q1.
      wider (omega arith) (weaken (λ x rest z. z1 ◂ z ◂ none) (name_item r1)))) n ts l l

  more_args_law : (n : ℕ) (ts : List Token) → length ts ≤ n → Ends (λ xs rest. Fits (MoreArgs xs) ts rest) (λ st. run (Further ∷ st) ts) (λ us. L × Deeply MoreArgs ts us) (suc (length ts)) (Reading.more_args k n ts)
  unfolding Reading.more_args
  more_args_law n ts l = many_law MoreArgs (λ x ts mid. FitAll (The Comma ∷ AnExpr x ∷ []) ts mid) L (AfterComma L) (λ q. is_fixed Comma q) Further (λ st. Want Comma ∷ expr_on st) (args_listing L) n (after_comma (k.outermost n))
      (λ us q.
      bind (λ st. expr_on st) _ (λ st. refl) (the_law Comma us) (λ p r1 z1 q1.
      wider (omega arith) (deeper (λ vs d. (d.0, r1, z1, d.1)) (weaken (λ x rest z. z1 ◂ z ◂ none) (base.expr_law n r1 (omega arith)))))) n ts l l

  -- parameters, up to a closing bracket
  pub params_law : (n : ℕ) (ts : List Token) → length ts ≤ n → Ends (λ xs rest. Fits (Params xs) ts rest) (λ st. run (Naming_all ∷ st) ts) (λ us. L × Deeply Params ts us) (suc (length ts)) (Reading.params n ts)
  unfolding Reading.params Reading.name
  params_law n [] l = stopped (λ st. refl)
  params_law n (t ∷ ts) l = go (is_fixed CloseRound t.kind) refl
    where
      at : (kk : Kind) → t.kind ≡ kk → is_fixed CloseRound t.kind ≡ false → (st : List Symbol) → run (Naming_all ∷ st) (t ∷ ts) ≡ run (Naming ∷ Further_names ∷ st) (t ∷ ts)
      at (kinds.Name x) i h st = took Naming_all t ts (Further_names ∷ []) (ap (λ b. if b then Skip else if_name t.kind (Further_names ∷ [])) h ∙ ap (λ q. if_name q (Further_names ∷ [])) i) st ∙ sym (took Naming t ts [] (ap (λ q. step Naming q) i) (Further_names ∷ st))
      at (kinds.Literal x) i h st = refused Naming_all t ts (ap (λ b. if b then Skip else if_name t.kind (Further_names ∷ [])) h ∙ ap (λ q. if_name q (Further_names ∷ [])) i) st ∙ sym (refused Naming t ts (ap (λ q. step Naming q) i) (Further_names ∷ st))
      at (kinds.Spelling x) i h st = refused Naming_all t ts (ap (λ b. if b then Skip else if_name t.kind (Further_names ∷ [])) h ∙ ap (λ q. if_name q (Further_names ∷ [])) i) st ∙ sym (refused Naming t ts (ap (λ q. step Naming q) i) (Further_names ∷ st))

      go : (b : Bool) → is_fixed CloseRound t.kind ≡ b → Ends (λ xs rest. Fits (Params xs) (t ∷ ts) rest) (λ st. run (Naming_all ∷ st) (t ∷ ts)) (λ us. L × Deeply Params (t ∷ ts) us) (suc (length (t ∷ ts)))
          (if b then Ok ([], t ∷ ts) else (do
            x ← Reading.name (t ∷ ts)
            xs ← Reading.more_names n x.1
            Ok (x.0 ∷ xs.0, xs.1)))
      go true h = done (by no_param none) (omega arith) (skipped Naming_all t ts (ap (λ b. if b then Skip else if_name t.kind (Further_names ∷ [])) h))
      go false h =
          bind (λ st. Further_names ∷ st) _ (at t.kind refl h) (name_item (t ∷ ts)) (λ x r1 z1 q1.
          bind (λ st. st) _ (λ st. refl) (deeper (λ us d. (d.0, (x ∷ d.1.0, under params (z1 ▸ now d.1.1)))) (more_names_law n r1 (omega arith))) (λ xs r2 z2 q2.
          done (by params (z1 ◂ z2 ◂ none)) (omega arith) (λ st. refl)))

  pub args_law : (n : ℕ) (ts : List Token) → length ts ≤ n → Ends (λ xs rest. Fits (Args xs) ts rest) (λ st. run (Arguing ∷ st) ts) (λ us. L × Deeply Args ts us) (suc (length ts)) (Reading.args k n ts)
  unfolding Reading.args
  args_law n [] l =
      bind (λ st. Further ∷ st) _ (λ st. refl) (deeper (λ us d. (d.0, (d.1.0 ∷ [], under args (now d.1.1)))) (base.expr_law n [] l)) (λ e r1 z1 q1.
      bind (λ st. st) _ (λ st. refl) (deeper (λ us d. (d.0, (e ∷ d.1.0, under args (z1 ▸ now d.1.1)))) (more_args_law n r1 (omega arith))) (λ es r2 z2 q2.
      done (by args (z1 ◂ z2 ◂ none)) (omega arith) (λ st. refl)))
  args_law n (t ∷ ts) l = go (is_fixed CloseRound t.kind) refl
    where
      as_expr : is_fixed CloseRound t.kind ≡ false → (st : List Symbol) → run (Arguing ∷ st) (t ∷ ts) ≡ run (expr_on (Further ∷ st)) (t ∷ ts)
      as_expr h st =
          let tails : List Symbol = ProductRest ∷ SumRest ∷ CompareRest ∷ Further ∷ [] in
          ap (λ b. taken (if b then Skip else unary_move t.kind tails) st t ts) h
          ∙ ap (λ o. elim o [ None ↦ Some (t ∷ ts) | Some next ↦ run next ts ]) (unary_more t.kind tails st (offer st t.kind) (offer (tails ++ st) t.kind))

      go : (b : Bool) → is_fixed CloseRound t.kind ≡ b → Ends (λ xs rest. Fits (Args xs) (t ∷ ts) rest) (λ st. run (Arguing ∷ st) (t ∷ ts)) (λ us. L × Deeply Args (t ∷ ts) us) (suc (length (t ∷ ts)))
          (if b then Ok ([], t ∷ ts) else (do
            x ← k.outermost n (t ∷ ts)
            xs ← Reading.more_args k n x.1
            Ok (x.0 ∷ xs.0, xs.1)))
      go true h = done (by no_arg none) (omega arith) (skipped Arguing t ts (ap (λ b. if b then Skip else unary_move t.kind (ProductRest ∷ SumRest ∷ CompareRest ∷ Further ∷ [])) h))
      go false h =
          bind (λ st. Further ∷ st) _ (as_expr h) (deeper (λ us d. (d.0, (d.1.0 ∷ [], under args (now d.1.1)))) (base.expr_law n (t ∷ ts) l)) (λ e r1 z1 q1.
          bind (λ st. st) _ (λ st. refl) (deeper (λ us d. (d.0, (e ∷ d.1.0, under args (z1 ▸ now d.1.1)))) (more_args_law n r1 (omega arith))) (λ es r2 z2 q2.
          done (by args (z1 ◂ z2 ◂ none)) (omega arith) (λ st. refl)))

  pub app_law : (n : ℕ) (ts : List Token) → length ts ≤ n → Ends (λ f rest. Fits (AnApp f) ts rest) (λ st. run (an_app st) ts) (λ us. L × Deeply AnApp ts us) (length ts) (Reading.app k n ts)
  unfolding Reading.app
  app_law n ts l =
      bind (λ st. Want OpenRound ∷ Arguing ∷ Want CloseRound ∷ st) _ (λ st. refl) (name_item ts) (λ x r1 z1 q1.
      bind (λ st. Arguing ∷ Want CloseRound ∷ st) _ (λ st. refl) (the_law OpenRound r1) (λ p1 r2 z2 q2.
      bind (λ st. Want CloseRound ∷ st) _ (λ st. refl) (deeper (λ us d. (d.0, (record { callee = x; args = d.1.0 }, under app (z1 ▸ z2 ▸ now d.1.1)))) (args_law n r2 (omega arith))) (λ es r3 z3 q3.
      bind (λ st. st) _ (λ st. refl) (the_law CloseRound r3) (λ p2 r4 z4 q4.
      done (by app (z1 ◂ z2 ◂ z3 ◂ z4 ◂ none)) (omega arith) (λ st. refl)))))

  carry_law : {W : List Token → Type 0} (ts : List Token) → Ends (λ c rest. Fits (ACarry c) ts rest) (λ st. run (a_carry st) ts) W (length ts) (Reading.carry_item ts)
  unfolding Reading.carry_item Reading.column Reading.row
  carry_law {W} ts =
      bind (λ st. Want OpenSquare ∷ Row ∷ st) _ (λ st. refl) (name_item ts) (λ x r1 z1 q1.
      bind (λ st. Row ∷ st) _ (λ st. refl) (the_law OpenSquare r1) (λ p r2 z2 q2.
      wider (omega arith) (row_law x r1 r2 z1 z2)))
    where
      column_law : (x : Spelled) (kk : RowTree) (us : List Token) → Ends (λ c rest. (j : Spelled) × FitAll (The OpenSquare ∷ AName j ∷ The CloseSquare ∷ []) us rest × (c ≡ CCells x kk j)) (λ st. run (a_column st) us) W (length us) (Reading.column x kk us)
      column_law x kk us =
          bind (λ st. Naming ∷ Want CloseSquare ∷ st) _ (λ st. refl) (the_law OpenSquare us) (λ p r3 z3 q3.
          bind (λ st. Want CloseSquare ∷ st) _ (λ st. refl) (name_item r3) (λ j r4 z4 q4.
          bind (λ st. st) _ (λ st. refl) (the_law CloseSquare r4) (λ p5 r5 z5 q5.
          done (j, z3 ◂ z4 ◂ z5 ◂ none, refl) (omega arith) (λ st. refl))))

      all_cells : {t i : Spelled} {ts a b c d rest : List Token} {q : CarryTree} → Fits (AName t) ts a → Fits (The OpenSquare) a b → Fits (AName i) b c → Fits (The CloseSquare) c d →
          (j : Spelled) × FitAll (The OpenSquare ∷ AName j ∷ The CloseSquare ∷ []) d rest × (q ≡ CCells t (RVar i) j) → Fits (ACarry q) ts rest
      all_cells {ts = ts} {rest = rest} z1 z2 z3 z4 y = subst (λ (c : CarryTree). Fits (ACarry c) ts rest) (sym y.2) (by cells_item (z1 ◂ z2 ◂ z3 ◂ z4 ◂ y.1))

      all_literal : {t : Spelled} {n : ℤ} {ts a b c d rest : List Token} {q : CarryTree} → Fits (AName t) ts a → Fits (The OpenSquare) a b → Fits (ALiteral n) b c → Fits (The CloseSquare) c d →
          (j : Spelled) × FitAll (The OpenSquare ∷ AName j ∷ The CloseSquare ∷ []) d rest × (q ≡ CCells t (RInt n) j) → Fits (ACarry q) ts rest
      all_literal {ts = ts} {rest = rest} z1 z2 z3 z4 y = subst (λ (c : CarryTree). Fits (ACarry c) ts rest) (sym y.2) (by literal_item (z1 ◂ z2 ◂ z3 ◂ z4 ◂ y.1))

      column_rest : (x i : Spelled) (a b c us : List Token) → Fits (AName x) ts a → Fits (The OpenSquare) a b → Fits (AName i) b c → Fits (The CloseSquare) c us →
          Ends (λ q rest. Fits (ACarry q) ts rest) (λ st. run (ColumnRest ∷ st) us) W (suc (length us)) (Reading.carry_rest_of x (RVar i) us)
      column_rest x i a b c [] z1 z2 z3 z4 = done (by rows_item (z1 ◂ z2 ◂ z3 ◂ z4 ◂ none)) (omega arith) (λ st. refl)
      column_rest x i a b c (t ∷ us) z1 z2 z3 z4 = go (is_fixed OpenSquare t.kind) refl
        where
          go : (d : Bool) → is_fixed OpenSquare t.kind ≡ d → Ends (λ q rest. Fits (ACarry q) ts rest) (λ st. run (ColumnRest ∷ st) (t ∷ us)) W (suc (length (t ∷ us)))
              (if d then Reading.column x (RVar i) (t ∷ us) else Ok (CRows x i, t ∷ us))
          go false h = done (by rows_item (z1 ◂ z2 ◂ z3 ◂ z4 ◂ none)) (omega arith) (skipped ColumnRest t us (ap (λ b. if b then Take (Naming ∷ Want CloseSquare ∷ []) else Skip) h))
          go true h =
              along (λ st. took ColumnRest t us (Naming ∷ Want CloseSquare ∷ []) (ap (λ b. if b then Take (Naming ∷ Want CloseSquare ∷ []) else Skip) h) st ∙ sym (took (Want OpenSquare) t us [] (ap (λ b. if b then Take [] else Refuse) h) (Naming ∷ Want CloseSquare ∷ st)))
              (wider (omega arith) (weaken (λ q rest y. all_cells z1 z2 z3 z4 y) (column_law x (RVar i) (t ∷ us))))

      row_law : (x : Spelled) (a us : List Token) → Fits (AName x) ts a → Fits (The OpenSquare) a us →
          Ends (λ q rest. Fits (ACarry q) ts rest) (λ st. run (Row ∷ st) us) W (length us) (Reading.row us >>= λ r. (expect CloseSquare r.1 >>= λ c. Reading.carry_rest_of x r.0 c.1))
      row_law x a [] z1 z2 = stopped (λ st. refl)
      row_law x a (t ∷ us) z1 z2 = go t.kind refl
        where
          go : (kk : Kind) → t.kind ≡ kk → Ends (λ q rest. Fits (ACarry q) ts rest) (λ st. run (Row ∷ st) (t ∷ us)) W (length (t ∷ us)) (Reading.row_at kk t us >>= λ r. (expect CloseSquare r.1 >>= λ c. Reading.carry_rest_of x r.0 c.1))
          go (kinds.Spelling s) i = stopped (refused Row t us (ap row_move i))
          go (kinds.Name y) i =
              bind (λ st. ColumnRest ∷ st) _ (took Row t us (Want CloseSquare ∷ ColumnRest ∷ []) (ap row_move i)) (the_law CloseSquare us) (λ p r3 z3 q3.
              wider (omega arith) (column_rest x (record { text = y; place = t.place }) a (t ∷ us) us r3 z1 z2 (a_name (record { named = i; placed = refl })) z3))
          go (kinds.Literal m) i =
              bind (λ st. a_column st) _ (took Row t us (Want CloseSquare ∷ a_column []) (ap row_move i)) (the_law CloseSquare us) (λ p r3 z3 q3.
              wider (omega arith) (weaken (λ q rest y. all_literal z1 z2 (a_literal i) z3 y) (column_law x (RInt m) r3)))

  reduce_law : {W : List Token → Type 0} (ts : List Token) → Ends (λ r rest. Fits (AReduce r) ts rest) (λ st. run (a_reduce st) ts) W (length ts) (Reading.reduce_item ts)
  unfolding Reading.reduce_item
  reduce_law ts =
      bind (λ st. Want words.By ∷ Reducer ∷ st) _ (λ st. refl) (name_item ts) (λ x r1 z1 q1.
      bind (λ st. Reducer ∷ st) _ (λ st. refl) (the_law words.By r1) (λ p1 r2 z2 q2.
      bind (λ st. st) _ (λ st. refl) (reducer_law r2) (λ o r3 z3 q3.
      done (by red (z1 ◂ z2 ◂ z3 ◂ none)) (omega arith) (λ st. refl))))

  more_carries_law : (n : ℕ) (ts : List Token) → length ts ≤ n → Ends (λ xs rest. Fits (MoreCarries xs) ts rest) (λ st. run (Further_carries ∷ st) ts) (λ us. L × Deeply MoreCarries ts us) (suc (length ts)) (Reading.more_carries n ts)
  unfolding Reading.more_carries
  more_carries_law n ts l = many_law MoreCarries (λ x ts mid. FitAll (The Comma ∷ ACarry x ∷ []) ts mid) L (λ ts us. L × Deeply MoreCarries ts us) (λ q. is_fixed Comma q) Further_carries (λ st. Want Comma ∷ a_carry st) (carries_listing L) n (after_comma Reading.carry_item)
      (λ us q.
      bind (λ st. a_carry st) _ (λ st. refl) (the_law Comma us) (λ p r1 z1 q1.
      wider (omega arith) (weaken (λ x rest z. z1 ◂ z ◂ none) (carry_law r1)))) n ts l l

  more_reduces_law : (n : ℕ) (ts : List Token) → length ts ≤ n → Ends (λ xs rest. Fits (MoreReduces xs) ts rest) (λ st. run (Further_reduces ∷ st) ts) (λ us. L × Deeply MoreReduces ts us) (suc (length ts)) (Reading.more_reduces n ts)
  unfolding Reading.more_reduces
  more_reduces_law n ts l = many_law MoreReduces (λ x ts mid. FitAll (The Comma ∷ AReduce x ∷ []) ts mid) L (λ ts us. L × Deeply MoreReduces ts us) (λ q. is_fixed Comma q) Further_reduces (λ st. Want Comma ∷ a_reduce st) (reduces_listing L) n (after_comma Reading.reduce_item)
      (λ us q.
      bind (λ st. a_reduce st) _ (λ st. refl) (the_law Comma us) (λ p r1 z1 q1.
      wider (omega arith) (weaken (λ x rest z. z1 ◂ z ◂ none) (reduce_law r1)))) n ts l l

  pub carry_list_law : (n : ℕ) (p : Place) (ts : List Token) → length ts ≤ n → Ends {A = Place × List CarryTree} (λ c rest. Fits (CarryList p c.0 c.1) ts rest) (λ st. run (Carrying ∷ st) ts) (λ us. L × Deeply (λ (c : Place × List CarryTree). CarryList p c.0 c.1) ts us) (suc (length ts)) (Reading.carry_list n p ts)
  unfolding Reading.carry_list
  carry_list_law n p [] l = done (by (no_carry refl) none) (omega arith) (λ st. refl)
  carry_list_law n p (t ∷ ts) l = go (is_fixed words.Carry t.kind) refl
    where
      go : (b : Bool) → is_fixed words.Carry t.kind ≡ b → Ends {A = Place × List CarryTree} (λ c rest. Fits (CarryList p c.0 c.1) (t ∷ ts) rest) (λ st. run (Carrying ∷ st) (t ∷ ts)) (λ us. L × Deeply (λ (c : Place × List CarryTree). CarryList p c.0 c.1) (t ∷ ts) us) (suc (length (t ∷ ts)))
          (if b then (do
            w ← expect words.Carry (t ∷ ts)
            c ← Reading.carry_item w.1
            cs ← Reading.more_carries n c.1
            Ok ((w.0, c.0 ∷ cs.0), cs.1))
          else Ok ((p, []), t ∷ ts))
      go false h = done (by (no_carry refl) none) (omega arith) (skipped Carrying t ts (ap (λ b. if b then Take (a_carry (Further_carries ∷ [])) else Skip) h))
      go true h =
          bind (λ st. a_carry (Further_carries ∷ st)) _ (λ st. took Carrying t ts (a_carry (Further_carries ∷ [])) (ap (λ b. if b then Take (a_carry (Further_carries ∷ [])) else Skip) h) st ∙ sym (took (Want words.Carry) t ts [] (ap (λ b. if b then Take [] else Refuse) h) (a_carry (Further_carries ∷ st)))) (at_law words.Carry (t ∷ ts)) (λ w r1 z1 q1.
          bind (λ st. Further_carries ∷ st) _ (λ st. refl) (carry_law r1) (λ c r2 z2 q2.
          bind (λ st. st) _ (λ st. refl) (deeper (λ us d. (d.0, ((w, c ∷ d.1.0), under carries (z1 ▸ z2 ▸ now d.1.1)))) (more_carries_law n r2 (omega arith))) (λ cs r3 z3 q3.
          done (by carries (z1 ◂ z2 ◂ z3 ◂ none)) (omega arith) (λ st. refl))))

  pub reduce_list_law : (n : ℕ) (ts : List Token) → length ts ≤ n → Ends (λ rs rest. Fits (ReduceList rs) ts rest) (λ st. run (Reducing ∷ st) ts) (λ us. L × Deeply ReduceList ts us) (suc (length ts)) (Reading.reduce_list n ts)
  unfolding Reading.reduce_list
  reduce_list_law n [] l = done (by no_reduce none) (omega arith) (λ st. refl)
  reduce_list_law n (t ∷ ts) l = go (is_fixed words.Reduce t.kind) refl
    where
      go : (b : Bool) → is_fixed words.Reduce t.kind ≡ b → Ends (λ rs rest. Fits (ReduceList rs) (t ∷ ts) rest) (λ st. run (Reducing ∷ st) (t ∷ ts)) (λ us. L × Deeply ReduceList (t ∷ ts) us) (suc (length (t ∷ ts)))
          (if b then (do
            w ← expect words.Reduce (t ∷ ts)
            r ← Reading.reduce_item w.1
            rs ← Reading.more_reduces n r.1
            Ok (r.0 ∷ rs.0, rs.1))
          else Ok ([], t ∷ ts))
      go false h = done (by no_reduce none) (omega arith) (skipped Reducing t ts (ap (λ b. if b then Take (a_reduce (Further_reduces ∷ [])) else Skip) h))
      go true h =
          bind (λ st. a_reduce (Further_reduces ∷ st)) _ (λ st. took Reducing t ts (a_reduce (Further_reduces ∷ [])) (ap (λ b. if b then Take (a_reduce (Further_reduces ∷ [])) else Skip) h) st ∙ sym (took (Want words.Reduce) t ts [] (ap (λ b. if b then Take [] else Refuse) h) (a_reduce (Further_reduces ∷ st)))) (the_law words.Reduce (t ∷ ts)) (λ w r1 z1 q1.
          bind (λ st. Further_reduces ∷ st) _ (λ st. refl) (reduce_law r1) (λ c r2 z2 q2.
          bind (λ st. st) _ (λ st. refl) (deeper (λ us d. (d.0, (c ∷ d.1.0, under reduces (z1 ▸ z2 ▸ now d.1.1)))) (more_reduces_law n r2 (omega arith))) (λ cs r3 z3 q3.
          done (by reduces (z1 ◂ z2 ◂ z3 ◂ none)) (omega arith) (λ st. refl))))

  pub let_law : (n level : ℕ) (t : Token) → Is words.Let t → (ts : List Token) → length ts ≤ n → Ends (λ s rest. Fits (AStmt level s) (t ∷ ts) rest) (λ st. run (Naming ∷ Want words.Assign ∷ expr_on (Want words.Semi ∷ st)) ts) (λ us. L × Deeply (AStmt level) (t ∷ ts) us) (length (t ∷ ts)) (Reading.let_rest k n ts)
  unfolding Reading.let_rest
  let_law n level t i ts l =
      bind (λ st. Want words.Assign ∷ expr_on (Want words.Semi ∷ st)) _ (λ st. refl) (name_item ts) (λ x r1 z1 q1.
      bind (λ st. expr_on (Want words.Semi ∷ st)) _ (λ st. refl) (the_law words.Assign r1) (λ p1 r2 z2 q2.
      bind (λ st. Want words.Semi ∷ st) _ (λ st. refl) (deeper (λ us d. (d.0, (NLet x d.1.0, under let_stmt (the i ▸ z1 ▸ z2 ▸ now d.1.1)))) (base.expr_law n r2 (omega arith))) (λ e r3 z3 q3.
      bind (λ st. st) _ (λ st. refl) (the_law words.Semi r3) (λ p2 r4 z4 q4.
      done (by let_stmt (the i ◂ z1 ◂ z2 ◂ z3 ◂ z4 ◂ none)) (omega arith) (λ st. refl)))))

  pub fold_law : (n level : ℕ) (t : Token) → Is words.Fold t → (ts : List Token) → length ts ≤ n → Ends (λ s rest. Fits (AStmt level s) (t ∷ ts) rest) (λ st. run (Naming ∷ Want words.With ∷ expr_on (Want words.Semi ∷ st)) ts) (λ us. L × Deeply (AStmt level) (t ∷ ts) us) (length (t ∷ ts)) (Reading.fold_rest k n ts)
  unfolding Reading.fold_rest
  fold_law n level t i ts l =
      bind (λ st. Want words.With ∷ expr_on (Want words.Semi ∷ st)) _ (λ st. refl) (name_item ts) (λ x r1 z1 q1.
      bind (λ st. expr_on (Want words.Semi ∷ st)) _ (λ st. refl) (the_law words.With r1) (λ p1 r2 z2 q2.
      bind (λ st. Want words.Semi ∷ st) _ (λ st. refl) (deeper (λ us d. (d.0, (NFold x d.1.0, under fold_stmt (the i ▸ z1 ▸ z2 ▸ now d.1.1)))) (base.expr_law n r2 (omega arith))) (λ e r3 z3 q3.
      bind (λ st. st) _ (λ st. refl) (the_law words.Semi r3) (λ p2 r4 z4 q4.
      done (by fold_stmt (the i ◂ z1 ◂ z2 ◂ z3 ◂ z4 ◂ none)) (omega arith) (λ st. refl)))))

  pub call_law : (n level : ℕ) (t : Token) → Is words.Call t → (ts : List Token) → length ts ≤ n → Ends (λ s rest. Fits (AStmt level s) (t ∷ ts) rest) (λ st. run (Naming ∷ Want words.Assign ∷ an_app (Want words.Semi ∷ st)) ts) (λ us. L × Deeply (AStmt level) (t ∷ ts) us) (length (t ∷ ts)) (Reading.call_rest k n ts)
  unfolding Reading.call_rest
  call_law n level t i ts l =
      bind (λ st. Want words.Assign ∷ an_app (Want words.Semi ∷ st)) _ (λ st. refl) (name_item ts) (λ x r1 z1 q1.
      bind (λ st. an_app (Want words.Semi ∷ st)) _ (λ st. refl) (the_law words.Assign r1) (λ p1 r2 z2 q2.
      bind (λ st. Want words.Semi ∷ st) _ (λ st. refl) (deeper (λ us d. (d.0, (NCall x d.1.0, under call_stmt (the i ▸ z1 ▸ z2 ▸ now d.1.1)))) (app_law n r2 (omega arith))) (λ f r3 z3 q3.
      bind (λ st. st) _ (λ st. refl) (the_law words.Semi r3) (λ p2 r4 z4 q4.
      done (by call_stmt (the i ◂ z1 ◂ z2 ◂ z3 ◂ z4 ◂ none)) (omega arith) (λ st. refl)))))

  pub both_law : (n level : ℕ) (t : Token) → Is words.Both t → (ts : List Token) → length ts ≤ n → Ends (λ s rest. Fits (AStmt level s) (t ∷ ts) rest) (λ st. run (Naming ∷ Want words.Assign ∷ an_app (Want Comma ∷ Naming ∷ Want words.Assign ∷ an_app (Want words.Semi ∷ st))) ts) (λ us. L × Deeply (AStmt level) (t ∷ ts) us) (length (t ∷ ts)) (Reading.both_rest k n ts)
  unfolding Reading.both_rest
  both_law n level t i ts l =
      bind (λ st. Want words.Assign ∷ an_app (Want Comma ∷ Naming ∷ Want words.Assign ∷ an_app (Want words.Semi ∷ st))) _ (λ st. refl) (name_item ts) (λ x r1 z1 q1.
      bind (λ st. an_app (Want Comma ∷ Naming ∷ Want words.Assign ∷ an_app (Want words.Semi ∷ st))) _ (λ st. refl) (the_law words.Assign r1) (λ p1 r2 z2 q2.
      bind (λ st. Want Comma ∷ Naming ∷ Want words.Assign ∷ an_app (Want words.Semi ∷ st)) _ (λ st. refl) (deeper (λ us d. (d.0, (NBoth x d.1.0 x d.1.0, under both_stmt (the i ▸ z1 ▸ z2 ▸ now d.1.1)))) (app_law n r2 (omega arith))) (λ f r3 z3 q3.
      bind (λ st. Naming ∷ Want words.Assign ∷ an_app (Want words.Semi ∷ st)) _ (λ st. refl) (the_law Comma r3) (λ p2 r4 z4 q4.
      bind (λ st. Want words.Assign ∷ an_app (Want words.Semi ∷ st)) _ (λ st. refl) (name_item r4) (λ y r5 z5 q5.
      bind (λ st. an_app (Want words.Semi ∷ st)) _ (λ st. refl) (the_law words.Assign r5) (λ p3 r6 z6 q6.
      bind (λ st. Want words.Semi ∷ st) _ (λ st. refl) (deeper (λ us d. (d.0, (NBoth x f y d.1.0, under both_stmt (the i ▸ z1 ▸ z2 ▸ z3 ▸ z4 ▸ z5 ▸ z6 ▸ now d.1.1)))) (app_law n r6 (omega arith))) (λ g r7 z7 q7.
      bind (λ st. st) _ (λ st. refl) (the_law words.Semi r7) (λ p4 r8 z8 q8.
      done (by both_stmt (the i ◂ z1 ◂ z2 ◂ z3 ◂ z4 ◂ z5 ◂ z6 ◂ z7 ◂ z8 ◂ none)) (omega arith) (λ st. refl)))))))))

  pub print_law : (n level : ℕ) (t : Token) → Is words.Print t → (ts : List Token) → length ts ≤ n → Ends (λ s rest. Fits (AStmt level s) (t ∷ ts) rest) (λ st. run (expr_on (Want words.Semi ∷ st)) ts) (λ us. L × Deeply (AStmt level) (t ∷ ts) us) (length (t ∷ ts)) (Reading.print_rest k n t.place ts)
  unfolding Reading.print_rest
  print_law n level t i ts l =
      bind (λ st. Want words.Semi ∷ st) _ (λ st. refl) (deeper (λ us d. (d.0, (NPrint t.place d.1.0, under print_stmt (at_place i ▸ now d.1.1)))) (base.expr_law n ts (omega arith))) (λ e r1 z1 q1.
      bind (λ st. st) _ (λ st. refl) (the_law words.Semi r1) (λ p2 r2 z2 q2.
      done (by print_stmt (at_place i ◂ z1 ◂ z2 ◂ none)) (omega arith) (λ st. refl)))

  pub emit_law : (n level : ℕ) (t : Token) → Is words.Emit t → (ts : List Token) → length ts ≤ n → Ends (λ s rest. Fits (AStmt level s) (t ∷ ts) rest) (λ st. run (Naming ∷ Want words.Semi ∷ st) ts) (λ us. L × Deeply (AStmt level) (t ∷ ts) us) (length (t ∷ ts)) (Reading.emit_rest t.place ts)
  unfolding Reading.emit_rest
  emit_law n level t i ts l =
      bind (λ st. Want words.Semi ∷ st) _ (λ st. refl) (name_item ts) (λ x r1 z1 q1.
      bind (λ st. st) _ (λ st. refl) (the_law words.Semi r1) (λ p2 r2 z2 q2.
      done (by emit_stmt (at_place i ◂ z1 ◂ z2 ◂ none)) (omega arith) (λ st. refl)))

  pub leave_law : (n level : ℕ) (t : Token) → Is words.Leave t → (ts : List Token) → length ts ≤ n → Ends (λ s rest. Fits (AStmt level s) (t ∷ ts) rest) (λ st. run (Naming ∷ Want words.Assign ∷ expr_on (Want words.Semi ∷ st)) ts) (λ us. L × Deeply (AStmt level) (t ∷ ts) us) (length (t ∷ ts)) (Reading.leave_rest k n ts)
  unfolding Reading.leave_rest
  leave_law n level t i ts l =
      bind (λ st. Want words.Assign ∷ expr_on (Want words.Semi ∷ st)) _ (λ st. refl) (name_item ts) (λ x r1 z1 q1.
      bind (λ st. expr_on (Want words.Semi ∷ st)) _ (λ st. refl) (the_law words.Assign r1) (λ p1 r2 z2 q2.
      bind (λ st. Want words.Semi ∷ st) _ (λ st. refl) (deeper (λ us d. (d.0, (NLeave x d.1.0, under leave_stmt (the i ▸ z1 ▸ z2 ▸ now d.1.1)))) (base.expr_law n r2 (omega arith))) (λ e r3 z3 q3.
      bind (λ st. st) _ (λ st. refl) (the_law words.Semi r3) (λ p2 r4 z4 q4.
      done (by leave_stmt (the i ◂ z1 ◂ z2 ◂ z3 ◂ z4 ◂ none)) (omega arith) (λ st. refl)))))

  set_law : (n level : ℕ) (x : Spelled) (all : List Token) (t : Token) (ts : List Token) → Fits (AName x) all (t ∷ ts) → Is words.Assign t → length (t ∷ ts) ≤ n → length (t ∷ ts) < length all → Ends (λ s rest. Fits (AStmt level s) all rest) (λ st. run (expr_on (Want words.Semi ∷ st)) ts) (λ us. L × Deeply (AStmt level) all us) (length all) (Reading.set_rest k n x ts)
  unfolding Reading.set_rest
  set_law n level x all t ts z0 i l w =
      bind (λ st. Want words.Semi ∷ st) _ (λ st. refl) (deeper (λ us d. (d.0, (NSet x d.1.0, under set_stmt (z0 ▸ the i ▸ now d.1.1)))) (base.expr_law n ts (omega arith))) (λ e r1 z1 q1.
      bind (λ st. st) _ (λ st. refl) (the_law words.Semi r1) (λ p2 r2 z2 q2.
      done (by set_stmt (z0 ◂ the i ◂ z1 ◂ z2 ◂ none)) (omega arith) (λ st. refl)))

  put_law : (n level : ℕ) (x : Spelled) (all : List Token) (t : Token) (ts : List Token) → Fits (AName x) all (t ∷ ts) → Is OpenSquare t → length (t ∷ ts) ≤ n → length (t ∷ ts) < length all → Ends (λ s rest. Fits (AStmt level s) all rest) (λ st. run (expr_on (Want CloseSquare ∷ Want OpenSquare ∷ expr_on (Want CloseSquare ∷ Want words.Assign ∷ expr_on (Want words.Semi ∷ st)))) ts) (λ us. L × Deeply (AStmt level) all us) (length all) (Reading.put_rest k n x ts)
  unfolding Reading.put_rest
  put_law n level x all t ts z0 i l w =
      bind (λ st. Want CloseSquare ∷ Want OpenSquare ∷ expr_on (Want CloseSquare ∷ Want words.Assign ∷ expr_on (Want words.Semi ∷ st))) _ (λ st. refl) (deeper (λ us d. (d.0, (NPut x d.1.0 d.1.0 d.1.0, under put_stmt (z0 ▸ the i ▸ now d.1.1)))) (base.expr_law n ts (omega arith))) (λ a r1 z1 q1.
      bind (λ st. Want OpenSquare ∷ expr_on (Want CloseSquare ∷ Want words.Assign ∷ expr_on (Want words.Semi ∷ st))) _ (λ st. refl) (the_law CloseSquare r1) (λ p1 r2 z2 q2.
      bind (λ st. expr_on (Want CloseSquare ∷ Want words.Assign ∷ expr_on (Want words.Semi ∷ st))) _ (λ st. refl) (the_law OpenSquare r2) (λ p2 r3 z3 q3.
      bind (λ st. Want CloseSquare ∷ Want words.Assign ∷ expr_on (Want words.Semi ∷ st)) _ (λ st. refl) (deeper (λ us d. (d.0, (NPut x a d.1.0 d.1.0, under put_stmt (z0 ▸ the i ▸ z1 ▸ z2 ▸ z3 ▸ now d.1.1)))) (base.expr_law n r3 (omega arith))) (λ b r4 z4 q4.
      bind (λ st. Want words.Assign ∷ expr_on (Want words.Semi ∷ st)) _ (λ st. refl) (the_law CloseSquare r4) (λ p3 r5 z5 q5.
      bind (λ st. expr_on (Want words.Semi ∷ st)) _ (λ st. refl) (the_law words.Assign r5) (λ p4 r6 z6 q6.
      bind (λ st. Want words.Semi ∷ st) _ (λ st. refl) (deeper (λ us d. (d.0, (NPut x a b d.1.0, under put_stmt (z0 ▸ the i ▸ z1 ▸ z2 ▸ z3 ▸ z4 ▸ z5 ▸ z6 ▸ now d.1.1)))) (base.expr_law n r6 (omega arith))) (λ e r7 z7 q7.
      bind (λ st. st) _ (λ st. refl) (the_law words.Semi r7) (λ p5 r8 z8 q8.
      done (by put_stmt (z0 ◂ the i ◂ z1 ◂ z2 ◂ z3 ◂ z4 ◂ z5 ◂ z6 ◂ z7 ◂ z8 ◂ none)) (omega arith) (λ st. refl)))))))))

  pub assign_law : (n level : ℕ) (x : Spelled) (all ts : List Token) → Fits (AName x) all ts → length ts ≤ n → length ts < length all → Ends (λ s rest. Fits (AStmt level s) all rest) (λ st. run (AssignRest ∷ st) ts) (λ us. L × Deeply (AStmt level) all us) (length all) (Reading.assign_rest k n x ts)
  unfolding Reading.assign_rest
  assign_law n level x all [] z l w = stopped (λ st. refl)
  assign_law n level x all (t ∷ ts) z l w = go t.kind refl
    where
      go : (kk : Kind) → t.kind ≡ kk → Ends (λ s rest. Fits (AStmt level s) all rest) (λ st. run (AssignRest ∷ st) (t ∷ ts)) (λ us. L × Deeply (AStmt level) all us) (length all) (Reading.assign_at k n x kk t ts)
      go (kinds.Name y) i = stopped (refused AssignRest t ts (ap assign_move i))
      go (kinds.Literal y) i = stopped (refused AssignRest t ts (ap assign_move i))
      go (kinds.Spelling words.Assign) i = along (took AssignRest t ts _ (ap assign_move i)) (set_law n level x all t ts z i l w)
      go (kinds.Spelling OpenSquare) i = along (took AssignRest t ts _ (ap assign_move i)) (put_law n level x all t ts z i l w)
      go (kinds.Spelling _) i = stopped (refused AssignRest t ts (ap assign_move i))
