-- Where no rule is broken, the iterations of each `par` touch no cell that another one writes.
use Rattle.tp_value.specs.declared.limits.TheConstants.{MAX_CALL_DEPTH}
use Rattle.loop_meaning.specs.Calls.{setting}
use Rattle.loop_meaning.specs.State.{lookup, declare, State, Note, Reads, Writes, Emits, Chance}
use Rattle.loop_meaning.specs.State.{Ran}
use Rattle.loop_meaning.specs.Statements.{iteration, run_list}
use Rattle.std.proofs.Common.{◌≡◌, ◌≢◌, ℕ, ◌+◌, ◌-◌, ℤ, List, [], ◌∷◌, ◌++◌, map, length, Option}
use Rattle.std.proofs.Common.{Some, None, refl, sym, ap, subst, ◌∙◌, Bool, true, false, cond, ◌||◌}
use Rattle.std.proofs.Common.{not, bytes_eq, Contains, ◌⊎◌, inl, inr}
use Rattle.tp_value.specs.declared.Place.{Place}
use Rattle.loop_syntax.specs.declared.Name.{Name}
use Rattle.loop_syntax.specs.declared.RowAt.TheVariants as row
use Rattle.loop_syntax.specs.declared.Carry.{Carry}
use Rattle.loop_syntax.specs.declared.Carry.TheVariants as carry
use Rattle.loop_syntax.specs.declared.Reduce.{Reduce}
use Rattle.loop_syntax.specs.declared.Program.{Program}
use Rattle.loop_meaning.specs.declared.value.Variable.{Variable}
use Rattle.loop_syntax.specs.declared.Stmt.{Stmt}
use Rattle.beat_count.specs.Ticks.{is_tick_allowed}
use Rattle.loop_rules.specs.Names.{is_in, item_of, texts, func_names}
use Rattle.loop_rules.specs.Reductions.{reduced}
use Rattle.loop_rules.specs.Scopes.{is_visible}
use Rattle.loop_rules.specs.Sites.{Loop, Declares, Parallel, Spot, in_carries, in_list, in_par}
use Rattle.loop_rules.specs.Sites.{the_loop}
use Rattle.loop_meaning.specs.Cells.{Cell, read_cells, write_cells, Body, bodies_of, run_of, Agree}
use Rattle.loop_meaning.specs.Cells.{Disjoint}
use Rattle.loop_check.specs.Unbroken.{NoneBroken}
use Rattle.loop_check.proofs.Lists.{each_at, contains_none, contains_cons, contains_append}
use Rattle.loop_check.proofs.Bools.{or_left, not_false}
use Rattle.loop_check.proofs.Found.{Found, found_lookup, found_end, found_in, place_in, is_in_end}
use Rattle.loop_check.proofs.Found.{is_in_more, names_more}
use Rattle.loop_check.proofs.Keeps.{Mode, Notes, Fixed, Keeps, ticks_fixed, list_ok}
use Rattle.loop_check.proofs.Calls.{QuietFuncs, call_ok}
use Rattle.loop_check.proofs.Fine.{Fine, AllFine, at_none, quiet_funcs}
use Rattle.loop_check.proofs.Bodies.{body_at, each_par}
use Rattle.loop_check.proofs.Shapes.{HeadOk, item_fine, item_row}
use Rattle.loop_check.proofs.Inner.{RowVar, Kept, Region, ReadRegion, WriteRegion, begun, mode_of}
use Rattle.loop_check.proofs.Inner.{list_inner}

-- ---- the cells of notes

pub notes_reads : (m : Mode) (ns : List Note) (c : Cell) → Notes m ns → Contains (read_cells ns) c → m.reads c.table c.row c.col
notes_reads m [] c h k = absurd (contains_none c k)
notes_reads m (Reads t i j ∷ ns) c h k = elim (contains_cons (read_cells ns) (record { table = t; row = i; col = j }) c k) [
  | inl e ↦ subst (λ (z : Cell). m.reads z.table z.row z.col) e h.0
  | inr l ↦ notes_reads m ns c h.1 l
]
notes_reads m (Writes t i j ∷ ns) c h k = notes_reads m ns c h.1 k
notes_reads m (Emits t ∷ ns) c h k = notes_reads m ns c h.1 k
notes_reads m (Chance ∷ ns) c h k = notes_reads m ns c h.1 k

pub notes_writes : (m : Mode) (ns : List Note) (c : Cell) → Notes m ns → Contains (write_cells ns) c → m.writes c.table c.row c.col
notes_writes m [] c h k = absurd (contains_none c k)
notes_writes m (Writes t i j ∷ ns) c h k = elim (contains_cons (write_cells ns) (record { table = t; row = i; col = j }) c k) [
  | inl e ↦ subst (λ (z : Cell). m.writes z.table z.row z.col) e h.0
  | inr l ↦ notes_writes m ns c h.1 l
]
notes_writes m (Reads t i j ∷ ns) c h k = notes_writes m ns c h.1 k
notes_writes m (Emits t ∷ ns) c h k = notes_writes m ns c h.1 k
notes_writes m (Chance ∷ ns) c h k = notes_writes m ns c h.1 k

-- the notes of an iteration, whose body begins with the loop's variable
pub iteration_notes : (m : Mode) (prog : Program) (fuel : ℕ) (x : List ℕ) (body : State → Ran) (i : ℤ) (s : State) → Keeps m prog body → Fixed m (begun s x i) → Notes m (iteration fuel x body [] i s).notes
iteration_notes m prog fuel x body i s k h = go (is_tick_allowed fuel s.ticks) refl
  where
    go : (b : Bool) → is_tick_allowed fuel s.ticks ≡ b → Notes m (iteration fuel x body [] i s).notes
    go true e = rw e ((k (record s { vars = declare s.vars x i; ticks = s.ticks + 1 }) (ticks_fixed m prog (begun s x i) (s.ticks + 1) h)).notes)
    go false e = rw e tt

-- ---- two iterations

no_region : (g h : List ℕ → ℤ) (x : List ℕ) (c : Carry) (a b : ℤ) → Region g x c a b → Region h x c a b → g x ≡ h x
no_region g h x (carry.Rows t i) a b p q = sym p ∙ q
no_region g h x (carry.Cells t (row.Var k) j) a b p q = sym p.1 ∙ q.1
no_region g h x (carry.Cells t (row.Int n) j) a b p q = sym p.1 ∙ q.1

apart_reads : (g h : List ℕ → ℤ) (x : List ℕ) (o : Option Carry) (a b : ℤ) → WriteRegion g x o a b → ReadRegion h x o a b → g x ≡ h x
apart_reads g h x None a b p q = absurd p
apart_reads g h x (Some c) a b p q = no_region g h x c a b p q

apart_writes : (g h : List ℕ → ℤ) (x : List ℕ) (o : Option Carry) (a b : ℤ) → WriteRegion g x o a b → WriteRegion h x o a b → g x ≡ h x
apart_writes g h x None a b p q = absurd p
apart_writes g h x (Some c) a b p q = no_region g h x c a b p q

pub record Apart (p : Program) (b : Body) : Type 0 where
  pub apart : (fuel depth : ℕ) (s t : State) → Agree b s t → (i j : ℤ) → i ≢ j → (c : Cell)
      → Contains (write_cells (run_of p fuel depth b i s).notes) c
      → ¬ (Contains (read_cells (run_of p fuel depth b j t).notes ++ write_cells (run_of p fuel depth b j t).notes) c)

-- ---- one `par` of main

-- a row's variable is visible outside the loop, and the loop doesn't reduce it
pub uses_seen : (p : Program) (w : Spot) (cs : List Carry) (t : List ℕ) (o : Option Carry) → AllFine p (in_carries w cs) → item_of cs t ≡ o → (y : List ℕ) → RowVar o y → is_in w.scope y ≡ true
uses_seen p w [] t o h e y q = absurd (subst (λ z. RowVar z y) (sym e) q)
uses_seen p w (carry.Rows x k ∷ cs) t o h e y q = go (λ f. uses_seen p w cs t o h.1 f y q) (bytes_eq x.text.items t) e
  where
    go : (item_of cs t ≡ o → is_in w.scope y ≡ true) → (b : Bool) → cond b (Some (carry.Rows x k)) (item_of cs t) ≡ o → is_in w.scope y ≡ true
    go f true g = absurd (subst (λ z. RowVar z y) (sym g) q)
    go f false g = f g
uses_seen p w (carry.Cells x (row.Int n) j ∷ cs) t o h e y q = go (λ f. uses_seen p w cs t o h.1 f y q) (bytes_eq x.text.items t) e
  where
    go : (item_of cs t ≡ o → is_in w.scope y ≡ true) → (b : Bool) → cond b (Some (carry.Cells x (row.Int n) j)) (item_of cs t) ≡ o → is_in w.scope y ≡ true
    go f true g = absurd (subst (λ z. RowVar z y) (sym g) q)
    go f false g = f g
uses_seen p w (carry.Cells x (row.Var k) j ∷ cs) t o h e y q = go (λ f. uses_seen p w cs t o h.1.1 f y q) (bytes_eq x.text.items t) e
  where
    go : (item_of cs t ≡ o → is_in w.scope y ≡ true) → (b : Bool) → cond b (Some (carry.Cells x (row.Var k) j)) (item_of cs t) ≡ o → is_in w.scope y ≡ true
    go f true g = (let m : y ≡ k.text.items = subst (λ z. RowVar z y) (sym g) q in subst (λ z. is_in w.scope z ≡ true) (sym m) (not_false (is_in w.scope k.text.items) (at_none k (not (is_in w.scope k.text.items)) h.1.0.f1)))
    go f false g = f g

pub row_apart : (r : Loop) (outer : List Loop) (t : List ℕ) → HeadOk r outer → (o : Option Carry) → item_of r.carries t ≡ o → (y : List ℕ) → RowVar o y → reduced y r ≡ false
row_apart r outer t h None e y q = absurd q
row_apart r outer t h (Some (carry.Rows x k)) e y q = absurd q
row_apart r outer t h (Some (carry.Cells x (row.Int n) j)) e y q = absurd q
row_apart r outer t h (Some (carry.Cells x (row.Var k) j)) e y q =
    subst (λ z. reduced z r ≡ false) (sym q) (item_row outer r (carry.Cells x (row.Var k) j) (item_fine t [] r.carries r outer (carry.Cells x (row.Var k) j) h.items e))

module _ (p : Program) (quiet : QuietFuncs p) (w : Spot) (x : Name) (cs : List Carry) (rs : List Reduce) where
  -- what an iteration touches of the table t
  pub body_keeps : (body : List Stmt) (place later : Place) → Fine p (Parallel place later (the_loop w x cs rs)) w → AllFine p (in_carries w cs) → AllFine p (in_list (in_par w x cs rs) body)
      → (fuel depth : ℕ) (s : State) → map (λ (v : Variable). v.name) s.vars ≡ w.scope → (i : ℤ) (t : List ℕ)
      → Keeps (mode_of (the_loop w x cs rs) t (begun s x.text.items i)) p (run_list (setting p fuel depth rs) body) × Fixed (mode_of (the_loop w x cs rs) t (begun s x.text.items i)) (begun s x.text.items i)
  body_keeps body place later head uses inner fuel depth s names i t = (
    list_ok (mode_of (the_loop w x cs rs) t start) p (in_par w x cs rs) (setting p fuel depth rs) (call_ok p quiet fuel (MAX_CALL_DEPTH - depth) (mode_of (the_loop w x cs rs) t start)) body
        (list_inner p (the_loop w x cs rs) w.rounds t start head_ok rows (in_par w x cs rs) (inl (refl, refl), own) body inner),
    record { found = found; written = λ h. refl; shown = λ h. refl },
  )
    where
      start : State
      start = begun s x.text.items i

      head_ok : HeadOk (the_loop w x cs rs) w.rounds
      head_ok = record { items = head.f6; targets = head.f3 }

      rows : (y : List ℕ) → RowVar (item_of cs t) y → Kept (the_loop w x cs rs) y
      rows y q = (uses_seen p w cs t (item_of cs t) uses refl y q, row_apart (the_loop w x cs rs) w.rounds t head_ok (item_of cs t) refl y q)

      own : is_in (w.loops ++ x.text.items ∷ []) x.text.items ≡ true
      own = is_in_end w.loops x.text.items

      all_names : map (λ (v : Variable). v.name) start.vars ≡ w.scope ++ x.text.items ∷ []
      all_names = names_more s.vars x.text.items i ∙ ap (λ l. l ++ x.text.items ∷ []) names

      seen : (y : List ℕ) → (y ≡ x.text.items) ⊎ Kept (the_loop w x cs rs) y → is_in (w.scope ++ x.text.items ∷ []) y ≡ true
      seen y f = elim f [
        | inl q ↦ subst (λ z. is_in (w.scope ++ x.text.items ∷ []) z ≡ true) (sym q) (is_in_end w.scope x.text.items)
        | inr q ↦ is_in_more w.scope x.text.items y q.0
      ]

      found : (y : List ℕ) → (y ≡ x.text.items) ⊎ Kept (the_loop w x cs rs) y → Found (place_in (w.scope ++ x.text.items ∷ []) y) start.vars y (lookup start.vars y)
      found y f = subst (λ l. Found (place_in l y) start.vars y (lookup start.vars y)) all_names (found_in start.vars y (subst (λ l. is_in l y ≡ true) (sym all_names) (seen y f)))

  pub iteration_keeps : (body : List Stmt) (place later : Place) → Fine p (Parallel place later (the_loop w x cs rs)) w → Fine p (Declares x) w → AllFine p (in_carries w cs) → AllFine p (in_list (in_par w x cs rs) body)
      → (fuel depth : ℕ) (s : State) → map (λ (v : Variable). v.name) s.vars ≡ w.scope → (i : ℤ) (t : List ℕ)
      → Notes (mode_of (the_loop w x cs rs) t (begun s x.text.items i)) (iteration fuel x.text.items (run_list (setting p fuel depth rs) body) [] i s).notes
  iteration_keeps body place later head fresh uses inner fuel depth s names i t =
      let k = body_keeps body place later head uses inner fuel depth s names i t in
      iteration_notes (mode_of (the_loop w x cs rs) t (begun s x.text.items i)) p fuel x.text.items (run_list (setting p fuel depth rs) body) i s k.0 k.1

  -- the loop's variable has the iteration's number
  pub own_value : Fine p (Declares x) w → (s : State) → map (λ (v : Variable). v.name) s.vars ≡ w.scope → (i : ℤ) → lookup (declare s.vars x.text.items i) x.text.items ≡ i
  own_value fresh s names i =
      found_lookup (length s.vars) (declare s.vars x.text.items i) x.text.items i
      (found_end s.vars x.text.items i (subst (λ l. is_in l x.text.items ≡ false) (sym names) (or_left _ (is_in (texts w.tables) x.text.items || is_in (func_names w.funcs) x.text.items) (at_none x (is_visible w x.text.items) fresh.f1))))

  pub par_apart : (body : List Stmt) (place later : Place) → Fine p (Parallel place later (the_loop w x cs rs)) w → Fine p (Declares x) w → AllFine p (in_carries w cs) → AllFine p (in_list (in_par w x cs rs) body)
      → Apart p (body_at w x cs rs body)
  par_apart body place later head fresh uses inner = record {
    apart = λ fuel depth s t agree i j ne c hw ho.
        let ki = iteration_keeps body place later head fresh uses inner fuel depth s agree.first i c.table in
        let kj = iteration_keeps body place later head fresh uses inner fuel depth t agree.second j c.table in
        let si : State = begun s x.text.items i in
        let sj : State = begun t x.text.items j in
        let ri : Ran = iteration fuel x.text.items (run_list (setting p fuel depth rs) body) [] i s in
        let rj : Ran = iteration fuel x.text.items (run_list (setting p fuel depth rs) body) [] j t in
        let first : WriteRegion (λ y. lookup si.vars y) x.text.items (item_of cs c.table) c.row c.col = notes_writes (mode_of (the_loop w x cs rs) c.table si) ri.notes c ki hw refl in
        let same : lookup si.vars x.text.items ≡ lookup sj.vars x.text.items = elim (contains_append (read_cells rj.notes) (write_cells rj.notes) c ho) [
          | inl z ↦ apart_reads (λ y. lookup si.vars y) (λ y. lookup sj.vars y) x.text.items (item_of cs c.table) c.row c.col first (notes_reads (mode_of (the_loop w x cs rs) c.table sj) rj.notes c kj z refl)
          | inr z ↦ apart_writes (λ y. lookup si.vars y) (λ y. lookup sj.vars y) x.text.items (item_of cs c.table) c.row c.col first (notes_writes (mode_of (the_loop w x cs rs) c.table sj) rj.notes c kj z refl)
        ] in
        ne (sym (own_value fresh s agree.first i) ∙ same ∙ own_value fresh t agree.second j);
  }

pub disjoint_law : (p : Program) → NoneBroken p → Disjoint p
disjoint_law p none =
    let quiet = quiet_funcs p none in
    let all = each_par p none (Apart p) (λ w x cs rs body place later i a b c d. par_apart p quiet w x cs rs body place later a b c d) in
    record { apart = λ b h. (each_at (Apart p) (bodies_of p) b all h).apart }
