-- What `par` loops carry is declared, so that the readers tell where a call breaks its rule.
use Rattle.std.proofs.Common.{◌≡◌, ℕ, List, [], ◌∷◌, ◌++◌, Some, refl, sym, subst, ap, inl, inr}
use Rattle.std.proofs.Common.{Bool, true, false, cond, not, ◌&&◌, ◌||◌, bytes_eq, Contains}
use Rattle.tp_value.specs.declared.Place.{Place}
use Rattle.loop_syntax.specs.declared.Name.{Name}
use Rattle.loop_syntax.specs.declared.RowAt.TheVariants as row
use Rattle.loop_syntax.specs.declared.Carry.{Carry}
use Rattle.loop_syntax.specs.declared.Carry.TheVariants as carry
use Rattle.loop_syntax.specs.declared.Func.{Func}
use Rattle.loop_syntax.specs.declared.Program.{Program}
use Rattle.loop_rules.specs.Names.{is_in, texts, item_of, table_name}
use Rattle.loop_syntax.specs.declared.Expr.{Expr}
use Rattle.loop_syntax.specs.declared.Expr.TheVariants.{Int, Var, Cell', Rows, Cols, Neg', Bin'}
use Rattle.loop_syntax.specs.declared.Reduce.{Reduce}
use Rattle.loop_syntax.specs.declared.Stmt.{Stmt}
use Rattle.loop_syntax.specs.declared.TableDecl.{TableDecl}
use Rattle.loop_syntax.specs.declared.TableDecl.TheVariants.{Input, Made}
use Rattle.loop_rules.specs.declared.part.Part.TheVariants.{OfSize, OfFunc}
use Rattle.loop_rules.specs.declared.rule.Rule.TheVariants.{Names}
use Rattle.loop_rules.specs.Unbroken.{IsResolved}
use Rattle.loop_rules.specs.Scopes.{at, misnamed}
use Rattle.loop_rules.specs.Carries.{carries, is_some_item}
use Rattle.loop_rules.specs.Reductions.{any_loop}
use Rattle.loop_rules.specs.Reading.{CallsReader}
use Rattle.loop_rules.specs.Sites.{Loop, Act, DeclaresTable, DeclaresFunc, DeclaresAll, Declares}
use Rattle.loop_rules.specs.Sites.{Uses, Assigns, Folds, AssignsBoth, NamesTable, ReadsCell}
use Rattle.loop_rules.specs.Sites.{WritesCell, Calls, Evaluates, Shows, Parallel, Leaves, LeavesAll, Spot, Site}
use Rattle.loop_rules.specs.Sites.{in_carries, in_expr, in_whole, in_params, in_decls, in_list}
use Rattle.loop_rules.specs.Sites.{in_func, in_funcs, in_main, in_par, the_loop, declared_var}
use Rattle.loop_rules.specs.Sites.{spot_of_list, func_spot, main_spot, top, sites, tables_of}
use Rattle.loop_check.specs.declared.reader.Reader.{Reader}
use Rattle.loop_check.specs.Search.{reads_carried, calls_reader}
use Rattle.loop_check.specs.Readers.{Pair, pair, pairs_of, IsReaders}
use Rattle.loop_check.proofs.Lists.{Each, each_left, each_right, each_both, each_of, each_at}
use Rattle.loop_check.proofs.Lists.{contains_here, contains_there, contains_cons, contains_none}
use Rattle.loop_check.proofs.Bools.{no_both, not_false, and_left, and_right}
use Rattle.loop_check.proofs.Found.{eq_is, eq_self}
use Rattle.loop_check.proofs.Fine.{at_none, none_of}
use Rattle.loop_check.proofs.Walk.{list_walk}
use Rattle.loop_check.proofs.Wholes.{end_rounds}
use Rattle.loop_check.proofs.First.{Tells}

-- a reader of that function whose table is carried
record Carried (rs : List Reader) (f : List ℕ) (rounds : List Loop) : Type 0 where
  table : List ℕ
  reads : Contains (pairs_of rs) (pair table f)
  carried : any_loop (carries table) rounds ≡ true

carried_at : (rs : List Reader) (f : List ℕ) (rounds : List Loop) → reads_carried rs f rounds ≡ true → Carried rs f rounds
carried_at [] f rounds h = absurd (no_both true refl (sym h))
carried_at (r ∷ rs) f rounds h = go (bytes_eq r.func.now f && any_loop (carries r.table.now) rounds) refl h (λ k. carried_at rs f rounds k)
  where
    go : (b : Bool) → (bytes_eq r.func.now f && any_loop (carries r.table.now) rounds) ≡ b → (b || reads_carried rs f rounds) ≡ true → (reads_carried rs f rounds ≡ true → Carried rs f rounds) → Carried (r ∷ rs) f rounds
    go true e k n = record {
      table = r.table.now;
      reads = subst (λ z. Contains (pair r.table.now r.func.now ∷ pairs_of rs) (pair r.table.now z)) (eq_is r.func.now f (and_left (bytes_eq r.func.now f) (any_loop (carries r.table.now) rounds) e)) (contains_here (pairs_of rs) (pair r.table.now r.func.now));
      carried = and_right (bytes_eq r.func.now f) (any_loop (carries r.table.now) rounds) e;
    }
    go false e k n = (let m = n k in record { table = m.table; reads = contains_there (pairs_of rs) (pair r.table.now r.func.now) (pair m.table f) m.reads; carried = m.carried })

carried_from : (rs : List Reader) (f t : List ℕ) (rounds : List Loop) → Contains (pairs_of rs) (pair t f) → any_loop (carries t) rounds ≡ true → reads_carried rs f rounds ≡ true
carried_from [] f t rounds h k = absurd (contains_none (pair t f) h)
carried_from (r ∷ rs) f t rounds h k = elim (contains_cons (pairs_of rs) (pair r.table.now r.func.now) (pair t f) h) [
  | inl e ↦ (let a : r.func.now ≡ f = ap (λ (z : Pair). z.func) e in let b : r.table.now ≡ t = ap (λ (z : Pair). z.table) e in
      let p : bytes_eq r.func.now f ≡ true = subst (λ z. bytes_eq r.func.now z ≡ true) a (eq_self r.func.now) in
      let q : any_loop (carries r.table.now) rounds ≡ true = subst (λ z. any_loop (carries z) rounds ≡ true) (sym b) k in
      rw (p, q) refl)
  | inr l ↦ go (bytes_eq r.func.now f && any_loop (carries r.table.now) rounds) (carried_from rs f t rounds l k)
]
  where
    go : (b : Bool) → reads_carried rs f rounds ≡ true → (b || reads_carried rs f rounds) ≡ true
    go true h = refl
    go false h = h

-- ---- carried tables are declared

abbrev Named : Act → Spot → Type 0
Named a w = misnamed a w ≡ []

abbrev AllNamed : List Site → Type 0
AllNamed ss = Each (λ (s : Site). Named s.act s.spot) ss

module _ (p : Program) where
  -- each table that a loop round carries is declared
  abbrev Declared : Spot → Type 0
  Declared w = (t : List ℕ) → any_loop (carries t) w.rounds ≡ true → is_in (texts (tables_of p)) t ≡ true

  abbrev Known : Spot → Type 0
  Known w = (w.tables ≡ tables_of p) × Declared w

  abbrev AllDeclared : List Site → Type 0
  AllDeclared ss = Each (λ (s : Site). Declared s.spot) ss

  named_table : (w : Spot) (x : Name) → Named (NamesTable x) w → is_in (texts w.tables) x.text.items ≡ true
  named_table w x h = not_false (is_in (texts w.tables) x.text.items) (at_none x (not (is_in (texts w.tables) x.text.items)) h)

  first_item : (w : Spot) (t : List ℕ) (c : Carry) (cs : List Carry) → Named (NamesTable (table_name c)) w → is_some_item (item_of (c ∷ cs) t) ≡ true → (is_some_item (item_of cs t) ≡ true → is_in (texts w.tables) t ≡ true) → is_in (texts w.tables) t ≡ true
  first_item w t c cs h k f = go (bytes_eq (table_name c).text.items t) refl k
    where
      go : (b : Bool) → bytes_eq (table_name c).text.items t ≡ b → is_some_item (cond b (Some c) (item_of cs t)) ≡ true → is_in (texts w.tables) t ≡ true
      go true e k = subst (λ z. is_in (texts w.tables) z ≡ true) (eq_is (table_name c).text.items t e) (named_table w (table_name c) h)
      go false e k = f k

  items_declared : (w : Spot) (t : List ℕ) (cs : List Carry) → AllNamed (in_carries w cs) → is_some_item (item_of cs t) ≡ true → is_in (texts w.tables) t ≡ true
  items_declared w t [] h k = absurd (no_both true refl (sym k))
  items_declared w t (carry.Rows x i ∷ cs) h k = first_item w t (carry.Rows x i) cs h.0 k (λ l. items_declared w t cs h.1 l)
  items_declared w t (carry.Cells x (row.Var y) j ∷ cs) h k = first_item w t (carry.Cells x (row.Var y) j) cs h.0 k (λ l. items_declared w t cs h.1.1 l)
  items_declared w t (carry.Cells x (row.Int n) j ∷ cs) h k = first_item w t (carry.Cells x (row.Int n) j) cs h.0 k (λ l. items_declared w t cs h.1 l)

  par_known : (w : Spot) (y : Name) (cs : List Carry) (rs : List Reduce) (q z : Place) → Named (Parallel q z (the_loop w y cs rs)) w → AllNamed (in_carries w cs) → Known w → Known (in_par w y cs rs)
  par_known w y cs rs q z f c i = (i.0, λ t h. go t (is_some_item (item_of cs t)) refl h)
    where
      go : (t : List ℕ) (b : Bool) → is_some_item (item_of cs t) ≡ b → (b || any_loop (carries t) w.rounds) ≡ true → is_in (texts (tables_of p)) t ≡ true
      go t true e h = subst (λ l. is_in (texts l) t ≡ true) i.0 (items_declared w t cs c e)
      go t false e h = i.1 t h

  list_declared : (w : Spot) → Known w → (ss : List Stmt) → AllNamed (in_list w ss) → AllDeclared (in_list w ss)
  list_declared w i ss h = list_walk Named (λ a w. Declared w) Known (λ a w f i. i.1) (λ w y i. i) (λ w y i. i) par_known w i ss h

  -- outside all loops
  top_declared : (w : Spot) → w.rounds ≡ [] → Declared w
  top_declared w e t h = absurd (no_both true refl (sym (rw e at h)))

  expr_top : (w : Spot) → w.rounds ≡ [] → (e : Expr) → AllDeclared (in_expr w e)
  expr_top w h (Int n q) = tt
  expr_top w h (Var x) = (top_declared w h, tt)
  expr_top w h (Cell' t q a r b) = (top_declared w h, (top_declared w h, each_both _ (in_expr w a) (in_expr w b) (expr_top w h a) (expr_top w h b)))
  expr_top w h (Rows t) = (top_declared w h, tt)
  expr_top w h (Cols t) = (top_declared w h, tt)
  expr_top w h (Neg' q a z) = expr_top w h a
  expr_top w h (Bin' o z q a r b) = each_both _ (in_expr w a) (in_expr w b) (expr_top w h a) (expr_top w h b)

  whole_top : (w : Spot) → w.rounds ≡ [] → (e : Expr) → AllDeclared (in_whole w e)
  whole_top w h e = (top_declared w h, expr_top w h e)

  params_top : (w : Spot) → w.rounds ≡ [] → (xs : List Name) → AllDeclared (in_params w xs)
  params_top w h [] = tt
  params_top w h (x ∷ xs) = (top_declared w h, params_top (declared_var w x) h xs)

  decls_top : (fs : List Func) (before : List Name) (ds : List TableDecl) → AllDeclared (in_decls fs before ds)
  decls_top fs before [] = tt
  decls_top fs before (Input t ∷ ds) = (top_declared (top OfSize before fs) refl, decls_top fs (before ++ t ∷ []) ds)
  decls_top fs before (Made t a b ∷ ds) =
      let w : Spot = top OfSize before fs in
      let rest : List Site = in_decls fs (before ++ t ∷ []) ds in (
        top_declared w refl,
        each_both (λ (s : Site). Declared s.spot) (in_whole w a ++ in_whole w b) rest
            (each_both (λ (s : Site). Declared s.spot) (in_whole w a) (in_whole w b) (whole_top w refl a) (whole_top w refl b)) (decls_top fs (before ++ t ∷ []) ds),
      )

  top_known : (w : Spot) → w.tables ≡ tables_of p → w.rounds ≡ [] → Known w
  top_known w e h = (e, top_declared w h)

  func_declared : (f : Func) → AllNamed (in_func p f) → AllDeclared (in_func p f)
  func_declared f h =
      let outer : Spot = top OfFunc (tables_of p) p.funcs.items in
      let w : Spot = func_spot p f in
      let params : List Site = in_params outer f.params.items in
      let body : List Site = in_list w f.body.items in
      let last : List Site = in_whole (spot_of_list w f.body.items) f.result in
      let D : Site → Type 0 = λ s. Declared s.spot in
      let own : AllNamed (body ++ last) = each_right (λ (s : Site). Named s.act s.spot) params (body ++ last) h.1 in (
        top_declared w refl,
        each_both D params (body ++ last) (params_top outer refl f.params.items) (each_both D body last
            (list_declared w (top_known w refl refl) f.body.items (each_left (λ (s : Site). Named s.act s.spot) body last own))
            (whole_top (spot_of_list w f.body.items) (end_rounds w f.body.items refl) f.result)),
      )

  funcs_declared : (before fs : List Func) → AllNamed (in_funcs p before fs) → AllDeclared (in_funcs p before fs)
  funcs_declared before [] h = tt
  funcs_declared before (f ∷ fs) h =
      let rest : List Site = in_funcs p (before ++ f ∷ []) fs in (
        top_declared (top OfFunc (tables_of p) before) refl,
        each_both (λ (s : Site). Declared s.spot) (in_func p f) rest
            (func_declared f (each_left (λ (s : Site). Named s.act s.spot) (in_func p f) rest h.1))
            (funcs_declared (before ++ f ∷ []) fs (each_right (λ (s : Site). Named s.act s.spot) (in_func p f) rest h.1)),
      )

  named_all : IsResolved p → AllNamed (sites p)
  named_all r = each_of (λ (s : Site). Named s.act s.spot) (sites p) (λ s h. none_of (misnamed s.act s.spot) (λ q k. r.unbroken Names q tt (record { where_at = s; stands = h; breaks = k })))

  sites_declared : IsResolved p → AllDeclared (sites p)
  sites_declared r =
      let D : Site → Type 0 = λ s. Declared s.spot in
      let N : Site → Type 0 = λ s. Named s.act s.spot in
      let decls : List Site = in_decls p.funcs.items [] p.tables.items in
      let funcs : List Site = in_funcs p [] p.funcs.items in
      let behind : AllNamed (funcs ++ in_main p) = each_right N decls (funcs ++ in_main p) (named_all r) in
      let main : AllNamed (in_main p) = each_right N funcs (in_main p) behind in
      each_both D decls (funcs ++ in_main p) (decls_top p.funcs.items [] p.tables.items) (each_both D funcs (in_main p)
      (funcs_declared [] p.funcs.items (each_left N funcs (in_main p) behind))
      (top_declared (main_spot p) refl, list_declared (main_spot p) (top_known (main_spot p) refl refl) p.main.items main.1))

  -- ---- the readers tell

  module _ (resolved : IsResolved p) (rs : List Reader) (known : IsReaders p (tables_of p) rs) where
    there_at : (s : Site) (q : Place) → Declared s.spot → CallsReader p s q → Contains (calls_reader rs s.act s.spot) q
    there_at s q d h =
        let f = h.callee.text.items in
        let hit : reads_carried rs f s.spot.rounds ≡ true = carried_from rs f h.table s.spot.rounds (known.complete f h.table (d h.table h.carried) h.reads) h.carried in
        let one : Contains (at h.callee true) q = subst (λ z. Contains (h.callee.place ∷ []) z) (sym h.here) (contains_here [] h.callee.place) in
        subst (λ a. Contains (calls_reader rs a s.spot) q) (sym h.is_call) (subst (λ b. Contains (at h.callee b) q) (sym hit) one)

    call_back : (c : Name) (n : ℕ) (w : Spot) (q : Place) (b : Bool) → reads_carried rs c.text.items w.rounds ≡ b → Contains (at c b) q → CallsReader p (record { act = Calls c n; spot = w }) q
    call_back c n w q false e h = absurd (contains_none q h)
    call_back c n w q true e h =
        let k = carried_at rs c.text.items w.rounds e in
        record { callee = c; arguments = n; is_call = refl; table = k.table; reads = known.sound (pair k.table c.text.items) k.reads; carried = k.carried; here = only c.place q h }
      where
        only : (x y : Place) → Contains (x ∷ []) y → y ≡ x
        only x y h = elim (contains_cons [] x y h) [ inl e ↦ sym e | inr k ↦ absurd (contains_none y k) ]

    back_at : (a : Act) (w : Spot) (q : Place) → Contains (calls_reader rs a w) q → CallsReader p (record { act = a; spot = w }) q
    back_at (Calls c n) w q h = call_back c n w q (reads_carried rs c.text.items w.rounds) refl h
    back_at (ReadsCell t a b) w q h = absurd (contains_none q h)
    back_at (WritesCell t a b) w q h = absurd (contains_none q h)
    back_at (Assigns y) w q h = absurd (contains_none q h)
    back_at (Folds y) w q h = absurd (contains_none q h)
    back_at (DeclaresTable t) w q h = absurd (contains_none q h)
    back_at (DeclaresFunc d) w q h = absurd (contains_none q h)
    back_at (DeclaresAll ys) w q h = absurd (contains_none q h)
    back_at (Declares y) w q h = absurd (contains_none q h)
    back_at (Uses y) w q h = absurd (contains_none q h)
    back_at (AssignsBoth y z) w q h = absurd (contains_none q h)
    back_at (NamesTable t) w q h = absurd (contains_none q h)
    back_at (Evaluates e) w q h = absurd (contains_none q h)
    back_at (Shows z) w q h = absurd (contains_none q h)
    back_at (Parallel y z l) w q h = absurd (contains_none q h)
    back_at (Leaves y) w q h = absurd (contains_none q h)
    back_at (LeavesAll ys) w q h = absurd (contains_none q h)

    pub tells : Tells p rs
    tells = record {
      there = λ s q stands h. there_at s q (each_at (λ (s : Site). Declared s.spot) (sites p) s (sites_declared resolved) stands) h;
      back = λ s q stands h. back_at s.act s.spot q h;
    }
