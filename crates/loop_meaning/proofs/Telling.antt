-- The notes tell all that a run does to tables, and what is before a run moves its ticks and its output.
use Rattle.std.proofs.Common.{◌≡◌, ◌<◌, ◌≤◌, ◌+◌, ◌-◌, ◌++◌, ◌∷◌, [], ℕ, ℤ, List, Bool, true}
use Rattle.std.proofs.Common.{false, Contains, All, inl, inr, refl, sym, ap, subst, ◌∙◌, arith}
use Rattle.std.proofs.lemmas.List.Elements.{All-nil, All-cons, All-head, All-tail}
use Rattle.tp_value.specs.declared.limits.TheConstants.{MAX_CALL_DEPTH}
use Rattle.tp_value.specs.declared.Place.{Place}
use Rattle.tp_value.specs.declared.Table.{Table}
use Rattle.loop_syntax.specs.declared.Reduce.{Reduce}
use Rattle.loop_syntax.specs.declared.Stmt.{Stmt, Row_of-Stmt, end_of-Stmt, more_of-Stmt}
use Rattle.loop_syntax.specs.declared.Stmt.TheVariants.{Let, Set, Put, If', While', Loop', Par'}
use Rattle.loop_syntax.specs.declared.Stmt.TheVariants.{Fold, Call, Both, Print, Emit, Leave, Fill}
use Rattle.loop_syntax.specs.declared.Func.{Func}
use Rattle.loop_syntax.specs.declared.Program.{Program}
use Rattle.loop_meaning.specs.State.{State, Note, Ran}
use Rattle.loop_meaning.specs.Statements.{Called, iterate, run_list}
use Rattle.loop_meaning.specs.Calls.{call_at, setting}
use Rattle.loop_meaning.specs.Cells.{Cell, write_cells}
use Rattle.loop_meaning.specs.Only.{StmtOnly, BlockOnly, PrintsNothing, OnlyCounts, Untouched}
use Rattle.loop_meaning.specs.Told.{shapes, number_at, SeenAlike, AlikeOver, NotesTell}
use Rattle.loop_meaning.specs.Told.{CallNotesTell, moved, moved_ran, Spent, Moves, CallMoves}
use Rattle.loop_meaning.proofs.Seen.{no_writes_is, writes_append, writes_left, writes_right}
use Rattle.loop_meaning.proofs.Seen.{writes_cases}
use Rattle.loop_meaning.proofs.Seen.{contains_none, contains_only}
use Rattle.loop_meaning.proofs.Traces.{Tells, Traced, CallsTraced, traced_iterate, traced_list}
use Rattle.loop_meaning.proofs.Traces.{traced_call, any_list, any_funcs}
use Rattle.loop_meaning.proofs.Twins.{Within, shift, Like, Twin, Twins, twins_iterate}
use Rattle.loop_meaning.proofs.TwinCalls.{TwinCalls, CallsTwin, twins_list, twins_call}
use Rattle.loop_meaning.proofs.WrittenCells.{shapes_written, number_kept}

-- ---- sizes, and cells of which no write is noted

abbrev pub Keeps : List Note → List Table → List ℕ → List Table → List ℕ → Type 0
Keeps ns ts o us p = (shapes us ≡ shapes ts) × ((c : Cell) → ¬ (Contains (write_cells ns) c) → number_at us c ≡ number_at ts c)

pub kept : Tells Keeps true true
kept = record {
  nothing = λ ts o. (refl, λ c d. refl);
  joins = λ ns ms ts o us p vs q h k. (k.0 ∙ h.0, λ c d. k.1 c (λ z. d (writes_right ns ms c z)) ∙ h.1 c (λ z. d (writes_left ns ms c z)));
  reads = λ x i j ts o. (refl, λ c d. refl);
  chance = λ ts o. (refl, λ c d. refl);
  puts = λ w x i j n ts o has. (
    shapes_written ts x i j n,
    λ c d. number_kept ts x i j n c has (λ e. d (subst (λ z. Contains (record { table = x; row = i; col = j } ∷ []) z) e (contains_only (record { table = x; row = i; col = j })))),
  );
  shows = λ w ts o more. (refl, λ c d. refl);
  emits = λ w x ts o more. (refl, λ c d. refl);
}

-- ---- the output of what doesn't print

abbrev pub Quiet : List Note → List Table → List ℕ → List Table → List ℕ → Type 0
Quiet ns ts o us p = p ≡ o

pub quiet : Tells Quiet true false
quiet = record {
  nothing = λ ts o. refl;
  joins = λ ns ms ts o us p vs q h k. k ∙ h;
  reads = λ x i j ts o. refl;
  chance = λ ts o. refl;
  puts = λ w x i j n ts o has. refl;
  shows = λ w ts o more. cc;
  emits = λ w x ts o more. cc;
}

-- ---- tables of what doesn't write

abbrev pub Still : List Note → List Table → List ℕ → List Table → List ℕ → Type 0
Still ns ts o us p = (us ≡ ts) × (write_cells ns ≡ [])

pub still : (prints : Bool) → Tells Still false prints
still prints = record {
  nothing = λ ts o. (refl, refl);
  joins = λ ns ms ts o us p vs q h k. (k.0 ∙ h.0, writes_append ns ms ∙ ap (λ l. l ++ write_cells ms) h.1 ∙ k.1);
  reads = λ x i j ts o. (refl, refl);
  chance = λ ts o. (refl, refl);
  puts = λ w x i j n ts o has. cc;
  shows = λ w ts o more. (refl, refl);
  emits = λ w x ts o more. (refl, refl);
}

-- ---- tables and output of what neither writes nor prints, and the notes begin, but for them

module _ (begin : List Note) where
  abbrev pub Counts : List Note → List Table → List ℕ → List Table → List ℕ → Type 0
  Counts ns ts o us p = (us ≡ ts) × (p ≡ o) × ((c : Cell) → Contains (write_cells ns) c → Contains (write_cells begin) c)

  pub counts : Tells Counts false false
  counts = record {
    nothing = λ ts o. (refl, refl, λ c h. absurd (contains_none c h));
    joins = λ ns ms ts o us p vs q h k. (k.0 ∙ h.0, k.1 ∙ h.1, λ c z. elim (writes_cases ns ms c z) [ inl a ↦ h.2 c a | inr b ↦ k.2 c b ]);
    reads = λ x i j ts o. (refl, refl, λ c h. absurd (contains_none c h));
    chance = λ ts o. (refl, refl, λ c h. absurd (contains_none c h));
    puts = λ w x i j n ts o has. cc;
    shows = λ w ts o more. cc;
    emits = λ w x ts o more. cc;
  }

-- ---- over other tables

over_alike : (fuel : ℕ) (f : State → Ran) (s : State) (us : List Table) → Like fuel 0 [] s.tables us (f s) (f (record s { tables = us })) → (shapes (f (record s { tables = us })).state.tables ≡ shapes us)
    → ((c : Cell) → ¬ (Contains (write_cells (f (record s { tables = us })).notes) c) → number_at (f (record s { tables = us })).state.tables c ≡ number_at us c) → AlikeOver us (f s) (f (record s { tables = us }))
over_alike fuel f s us l z k =
    let ends : (f (record s { tables = us })).state.tables ≡ l.end = ap (λ (r : Ran). r.state.tables) l.same in
    let tick : (f s).state.ticks + 0 ≡ (f s).state.ticks = omega arith in
    let notes : (f (record s { tables = us })).notes ≡ (f s).notes = ap (λ (r : Ran). r.notes) l.same in
    record {
      same = l.same ∙ ap (λ n. record (f s) { state = record (f s).state { tables = l.end; ticks = n } }) tick ∙ sym (ap (λ ts. record (f s) { state = record (f s).state { tables = ts } }) ends);
      written = λ c h. ap (λ ts. number_at ts c) ends ∙ sym (l.written c h);
      kept = λ c d. k c (λ h. d (subst (λ ns. Contains (write_cells ns) c) notes h));
    }

shift_none : (fuel : ℕ) (us : List Table) (s : State) → shift fuel 0 [] us s ≡ record s { tables = us }
shift_none fuel us s = (let n : s.ticks + 0 ≡ s.ticks = omega arith in ap (λ k. record { vars = s.vars; tables = us; output = s.output; ticks = k }) n)

module _ (fuel : ℕ) (f : State → Ran) (held : (s : State) → Keeps (f s).notes s.tables s.output (f s).state.tables (f s).state.output) (twins : (t : ℕ) (o : List ℕ) → Twins fuel t o f) where
  unseen : (s : State) (us : List Table) → SeenAlike (f s).notes s.tables us → AlikeOver us (f s) (f (record s { tables = us }))
  unseen s us h = go ((twins 0 []).twin s us (inl refl) h)
    where
      go : Twin fuel 0 [] s.tables us (f s) (f (shift fuel 0 [] us s)) → AlikeOver us (f s) (f (record s { tables = us }))
      go (inl k) =
          over_alike fuel f s us (subst (λ u. Like fuel 0 [] s.tables us (f s) (f u)) (shift_none fuel us s) k.1) (held (record s { tables = us })).0 (held (record s { tables = us })).1
      go (inr k) = absurd (k.0 (inl refl))

  pub notes_tell : NotesTell f
  notes_tell = record { sizes = λ s. (held s).0; kept = λ s. (held s).1; unseen = unseen }

  pub moves : Moves fuel f
  moves = record { suffices = λ t o s l m. go t o s (inr m) ((twins t o).twin s s.tables (inr l) (record { sizes = refl; cells = λ c k. refl; tables = λ x k. refl })); spent = λ t o s l m. beyond t o s l m ((twins t o).twin s s.tables (inr l) (record { sizes = refl; cells = λ c k. refl; tables = λ x k. refl })) }
    where
      go : (t : ℕ) (o : List ℕ) (s : State) → Within fuel t o (f s).state.ticks → Twin fuel t o s.tables s.tables (f s) (f (moved t o s)) → f (moved t o s) ≡ moved_ran t o (f s)
      go t o s w (inl k) = k.1.same ∙ ap (λ ts. record (f s) { state = record (moved t o (f s).state) { tables = ts } }) (sym (k.1.whole refl))
      go t o s w (inr k) = absurd (k.0 w)

      beyond : (t : ℕ) (o : List ℕ) (s : State) → s.ticks + t ≤ fuel → fuel < (f s).state.ticks + t → Twin fuel t o s.tables s.tables (f s) (f (moved t o s)) → Spent fuel (f (moved t o s))
      beyond t o s l m (inl k) = on k.0
        where
          on : Within fuel t o (f s).state.ticks → Spent fuel (f (moved t o s))
          on (inr z) = absurd (omega arith)
          on (inl z) =
              let low : s.ticks ≤ fuel = omega arith in
              let high : fuel < (f s).state.ticks = omega arith in
              let h : Spent fuel (f s) = (twins t o).goes.spends s low high in
              let ends : (f (moved t o s)).state.ticks ≡ (f s).state.ticks + t = ap (λ (r : Ran). r.state.ticks) k.1.same in
              let none : (f s).state.ticks + t ≡ (f s).state.ticks = omega arith in
              record { stop = ap (λ (r : Ran). r.stop) k.1.same ∙ h.stop; ticks = ends ∙ (none ∙ h.ticks) }
      beyond t o s l m (inr k) = k.1

-- ---- any run of a program's statements, iterations and calls

module _ (p : Program) (fuel depth : ℕ) where
  abbrev Calling : List ℕ → Place → List ℤ → List Note → State → Called
  Calling = call_at p.funcs.items fuel (MAX_CALL_DEPTH - depth)

  kept_calls : CallsTraced Keeps true true kept Calling
  kept_calls = traced_call Keeps true true kept p.funcs.items (any_funcs p.funcs.items) fuel (MAX_CALL_DEPTH - depth)

  kept_list : (rs : List Reduce) (body : List Stmt) → Traced Keeps true true kept (run_list (setting p fuel depth rs) body)
  kept_list rs body = traced_list Keeps true true kept fuel Calling kept_calls rs body (any_list body)

  twins_calls : (t : ℕ) (o : List ℕ) → CallsTwin fuel t o Calling
  twins_calls t o = twins_call fuel t o p.funcs.items (MAX_CALL_DEPTH - depth)

  twins_of : (rs : List Reduce) (body : List Stmt) (t : ℕ) (o : List ℕ) → Twins fuel t o (run_list (setting p fuel depth rs) body)
  twins_of rs body t o = twins_list fuel t o Calling (twins_calls t o) rs body

  pub statements_tell : (rs : List Reduce) (body : List Stmt) → NotesTell (run_list (setting p fuel depth rs) body)
  statements_tell rs body = notes_tell fuel (run_list (setting p fuel depth rs) body) (λ s. (kept_list rs body).links s) (twins_of rs body)

  pub statements_move : (rs : List Reduce) (body : List Stmt) → Moves fuel (run_list (setting p fuel depth rs) body)
  statements_move rs body = moves fuel (run_list (setting p fuel depth rs) body) (λ s. (kept_list rs body).links s) (twins_of rs body)

  module _ (rs : List Reduce) (body : List Stmt) (x : List ℕ) (again ns : List Note) (a : write_cells again ≡ []) (b : write_cells ns ≡ []) (n : ℕ) (i : ℤ) where
    abbrev Iterations : State → Ran
    Iterations = iterate fuel x (run_list (setting p fuel depth rs) body) again ns n i

    kept_iterations : Traced Keeps true true kept Iterations
    kept_iterations =
        traced_iterate Keeps true true kept fuel n x (run_list (setting p fuel depth rs) body) again ns i (λ ts o. (refl, λ c d. refl)) (λ ts o. (refl, λ c d. refl)) (kept_list rs body)

    twins_iterations : (t : ℕ) (o : List ℕ) → Twins fuel t o Iterations
    twins_iterations t o = twins_iterate fuel t o n x (run_list (setting p fuel depth rs) body) again ns i (no_writes_is again a) (no_writes_is ns b) (twins_of rs body t o)

    pub iterations_tell : NotesTell Iterations
    iterations_tell = notes_tell fuel Iterations (λ s. kept_iterations.links s) twins_iterations

    pub iterations_move : Moves fuel Iterations
    iterations_move = moves fuel Iterations (λ s. kept_iterations.links s) twins_iterations

  module _ (rs : List Reduce) (f : List ℕ) (place : Place) (ns : List ℤ) (begin : List Note) (a : write_cells begin ≡ []) where
    abbrev Called_ : State → Called
    Called_ = (setting p fuel depth rs).call f place ns begin

    twin_call : (t : ℕ) (o : List ℕ) → TwinCalls fuel t o Called_
    twin_call t o = twins_calls t o f place ns begin (no_writes_is begin a)

    kept_call : (s : State) → Keeps (Called_ s).ran.notes s.tables s.output (Called_ s).ran.state.tables (Called_ s).ran.state.output
    kept_call s = (kept_calls f place ns begin (λ ts o. (refl, λ c d. refl))).links s

    pub call_tells : CallNotesTell Called_
    call_tells = record {
      ran = notes_tell fuel (λ s. (Called_ s).ran) kept_call (λ t o. (twin_call t o).runs);
      value = λ s ts h d. ap (λ u. (Called_ u).value) (sym (shift_none fuel ts s)) ∙ (twin_call 0 []).value s ts (inl refl) h (inl refl) d;
    }

    pub call_moves : CallMoves fuel Called_
    call_moves = record {
      ran = moves fuel (λ s. (Called_ s).ran) kept_call (λ t o. (twin_call t o).runs);
      value = λ t o s l m d. (twin_call t o).value s s.tables (inr l) (record { sizes = refl; cells = λ c k. refl; tables = λ x k. refl }) (inr m) d;
    }

-- ---- what doesn't print, and what only counts

-- what may do less may do more
module _ (w p v q : Bool) (writes : w ≡ true → v ≡ true) (prints : p ≡ true → q ≡ true) where
  mutual
    more_stmt : (s : Stmt) → StmtOnly w p s → StmtOnly v q s
    more_stmt (Let x e) h = tt
    more_stmt (Set x e) h = tt
    more_stmt (Put t a b e) h = writes h
    more_stmt (If' e p body q other) h = (more_block body h.0, more_block other h.1)
    more_stmt (While' e p body) h = more_block body h
    more_stmt (Loop' x a b p body) h = more_block body h
    more_stmt (Par' place x a b carry_place carries reduces p body) h = more_block body h
    more_stmt (Fold x e) h = tt
    more_stmt (Call x f) h = tt
    more_stmt (Both x f y g) h = tt
    more_stmt (Print place e) h = prints h
    more_stmt (Emit place t) h = prints h
    more_stmt (Leave x e) h = tt
    more_stmt (Fill f t r es) h = tt

    more_block : {m : _} (row : Row_of-Stmt m) → BlockOnly w p row → BlockOnly v q row
    more_block end_of-Stmt h = tt
    more_block (more_of-Stmt first rest) h = (more_stmt first h.0, more_block rest h.1)

  more_list : (ss : List Stmt) → All (StmtOnly w p) ss → All (StmtOnly v q) ss
  more_list [] h = All-nil (StmtOnly v q)
  more_list (s ∷ ss) h = All-cons (StmtOnly v q) s ss (more_stmt s (All-head (StmtOnly w p) s ss h)) (more_list ss (All-tail (StmtOnly w p) s ss h))

  more_funcs : (fs : List Func) → All (λ (f : Func). All (StmtOnly w p) f.body.items) fs → All (λ (f : Func). All (StmtOnly v q) f.body.items) fs
  more_funcs [] h = All-nil (λ (f : Func). All (StmtOnly v q) f.body.items)
  more_funcs (f ∷ fs) h =
      All-cons (λ (f : Func). All (StmtOnly v q) f.body.items) f fs (more_list f.body.items (All-head (λ (f : Func). All (StmtOnly w p) f.body.items) f fs h))
      (more_funcs fs (All-tail (λ (f : Func). All (StmtOnly w p) f.body.items) f fs h))

module _ (p : Program) (fuel depth : ℕ) (only : All OnlyCounts p.funcs.items) where
  pub keeps_output : (rs : List Reduce) (body : List Stmt) (s : State) → All PrintsNothing body → (run_list (setting p fuel depth rs) body s).state.output ≡ s.output
  keeps_output rs body s h =
      (traced_list Quiet true false quiet fuel (call_at p.funcs.items fuel (MAX_CALL_DEPTH - depth))
      (traced_call Quiet true false quiet p.funcs.items (more_funcs false false true false (λ e. refl) (λ e. e) p.funcs.items only) fuel (MAX_CALL_DEPTH - depth)) rs body h).links s

  module _ (prints : Bool) (rs : List Reduce) (body : List Stmt) (none : All (StmtOnly false prints) body) where
    still_list : Traced Still false prints (still prints) (run_list (setting p fuel depth rs) body)
    still_list =
        traced_list Still false prints (still prints) fuel (call_at p.funcs.items fuel (MAX_CALL_DEPTH - depth))
        (traced_call Still false prints (still prints) p.funcs.items (more_funcs false false false prints (λ e. e) (λ e. cc) p.funcs.items only) fuel (MAX_CALL_DEPTH - depth)) rs body none

    pub statements_still : (s : State) → Untouched s (run_list (setting p fuel depth rs) body s)
    statements_still s = (let h = still_list.links s in record { tables = h.0; writes = h.1 })

    pub iterations_still : (x : List ℕ) (again ns : List Note) → write_cells again ≡ [] → write_cells ns ≡ [] → (n : ℕ) (i : ℤ) (s : State) → Untouched s (iterate fuel x (run_list (setting p fuel depth rs) body) again ns n i s)
    iterations_still x again ns a b n i s =
        let h = (traced_iterate Still false prints (still prints) fuel n x (run_list (setting p fuel depth rs) body) again ns i (λ ts o. (refl, a)) (λ ts o. (refl, b)) still_list).links s in
        record { tables = h.0; writes = h.1 }

  pub call_counts : (rs : List Reduce) (f : List ℕ) (place : Place) (ns : List ℤ) (begin : List Note) (s : State)
      → Counts begin ((setting p fuel depth rs).call f place ns begin s).ran.notes s.tables s.output ((setting p fuel depth rs).call f place ns begin s).ran.state.tables ((setting p fuel depth rs).call f place ns begin s).ran.state.output
  call_counts rs f place ns begin s =
      (traced_call (Counts begin) false false (counts begin) p.funcs.items only fuel (MAX_CALL_DEPTH - depth) f place ns begin (λ ts o. (refl, refl, λ c h. h))).links s
