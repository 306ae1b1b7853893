-- What is written next fits where what stands round it does.
use Rattle.std.proofs.Common.{◌≡◌, ℕ, zero, suc, ◌+◌, ◌<◌, List, [], ◌∷◌, ◌++◌, length, take}
use Rattle.std.proofs.Common.{get_or}
use Rattle.std.proofs.Common.{Bool, true, false, Vec, refl, sym, ap, subst, ◌∙◌, arith}
use Rattle.std.specs.Prelude.{◌&&◌}
use Rattle.std.proofs.lemmas.Bool.{true≢false}
use Rattle.loop_check.proofs.Bools.{and_left, and_right}
use Rattle.std.specs.declared.alloc.Global.{Global}
use Rattle.loop_syntax.specs.declared.Expr.{Expr}
use Rattle.loop_syntax.specs.declared.Func.{Func}
use Rattle.loop_syntax.specs.declared.Name.{Name}
use Rattle.loop_syntax.specs.declared.ParLoop.{ParLoop}
use Rattle.loop_syntax.specs.declared.Stmt.{Stmt}
use Rattle.loop_syntax.specs.declared.Stmt.TheBlock.{hidden-the_row-Stmt-0}
use Rattle.loop_syntax.specs.declared.Stmt.TheVariants.{If, Loop, Par, While}
use Rattle.loop_rules.specs.Names.{texts}
use Rattle.expr_lower.specs.declared.scope.Scope.{Scope}
use Rattle.block_lower.specs.declared.body.Body.{Body}
use Rattle.block_lower.specs.declared.round.Round as told
use Rattle.block_lower.specs.Bodies.{entries}
use Rattle.code_laws.specs.Fitting.{AllFit, Fits}
use Rattle.scene_laws.specs.Layout.{Entry}
use Rattle.block_lower.specs.Lowering.{AreStill, FitsIn, FitsInside, IsRound}
use Rattle.scene_laws.specs.Names.{SeesAfter, names_after, names_after_list}
use Rattle.block_lower.specs.Programs.{FuncFitsIn, FuncsFitNow, most_of}
use Rattle.scene_laws.specs.Quiet.{all_is_quiet, is_leaf, is_quiet, list_is_quiet}
use Rattle.scene_laws.specs.Round.{Round, loop_round, outermost, par_round}
use Rattle.block_lower.proofs.Written.Fitting.{fit_of_vec}
use Rattle.block_lower.proofs.Written.LoweredLoops.{loop_is_round, par_is_round}
use Rattle.scene_laws.proofs.Counts.QuietRows.{leaf_is_quiet, quiet_of_vec}
use Rattle.block_lower.proofs.Written.Standing.{sees_held}
use Rattle.block_lower.proofs.Written.WrittenFunctions.{holds_at, sees_tables}

-- nothing stands round the statements of main, or of a function
pub is_outermost : (as_told : told.Round) → as_told.reduces.now ≡ [] → as_told.depth ≡ 0
    → IsRound outermost as_told
is_outermost as_told reduces depth = record { reduces = sym reduces; depth = sym depth }

-- the statement at a place, where those before it are seen
fit_at : (tables : List (List ℕ)) (functions : List Entry) (most : ℕ) (round : Round)
    (names : List (List ℕ)) (ss : List Stmt) (i : ℕ) (d : Stmt) → i < length ss
    → AllFit tables functions most round names ss
    → Fits tables functions most round (names_after_list names (take i ss)) (get_or ss i d)
fit_at tables functions most round names [] i d below fits = absurd (omega (arith, below))
fit_at tables functions most round names (s ∷ ss) zero d below fits = fits.0
fit_at tables functions most round names (s ∷ ss) (suc i) d below fits =
    fit_at tables functions most round (names_after names s) ss i d (omega (arith, below)) fits.1

-- ---- where variables stand in registers

-- a part of statements in which no point of promotion is reached
still_part : (scope : Scope) (whole part : List Stmt)
    → (list_is_quiet false whole ≡ true → list_is_quiet false part ≡ true)
    → AreStill scope whole → AreStill scope part
still_part scope whole part inside still loud = go (list_is_quiet false whole) refl
  where
    go : (b : Bool) → list_is_quiet false whole ≡ b → scope.regs.items ≡ []
    go true e = absurd (true≢false (sym (inside e) ∙ loud))
    go false e = still e

-- the same statements later
still_later : (scope later : Scope) (ss : List Stmt) → later.regs ≡ scope.regs → AreStill scope ss
    → AreStill later ss
still_later scope later ss same still loud =
    ap (λ (rs : Vec (Vec ℕ Global × ℕ) Global). rs.items) same ∙ still loud

quiet_at : (calls : Bool) (ss : List Stmt) (i : ℕ) (d : Stmt) → i < length ss
    → list_is_quiet calls ss ≡ true → is_quiet calls (get_or ss i d) ≡ true
quiet_at calls [] i d below quiet = absurd (omega (arith, below))
quiet_at calls (s ∷ ss) zero d below quiet =
    and_left (is_quiet calls s) (list_is_quiet calls ss) quiet
quiet_at calls (s ∷ ss) (suc i) d below quiet =
    quiet_at calls ss i d (omega (arith, below))
    (and_right (is_quiet calls s) (list_is_quiet calls ss) quiet)

-- the statements of a vector
quiet_vec : (body : Vec Stmt Global) → all_is_quiet false (hidden-the_row-Stmt-0 body) ≡ true
    → list_is_quiet false body.items ≡ true
quiet_vec body quiet = sym (quiet_of_vec false body) ∙ quiet

module _ (on : Body) (scope : Scope) (as_told : told.Round) where
  -- where the same variables and tables are seen
  pub fits_later : (later : Scope) (ss : List Stmt) → later.regs ≡ scope.regs
      → SeesAfter (λ names. names) scope later
      → FitsIn on scope as_told ss → FitsIn on later as_told ss
  fits_later later ss same keeps f = record {
    tables = f.tables;
    names = f.names;
    round = f.round;
    is_round = f.is_round;
    sees = keeps f.names f.tables f.sees;
    fits = f.fits;
    still = still_later scope later ss same f.still;
  }

  pub fits_next : (between : Scope) (body : List Stmt) (i : ℕ) (s : Stmt) → i < length body
      → s ≡ get_or body i s → between.regs ≡ scope.regs
      → SeesAfter (λ names. names_after_list names (take i body)) scope between
      → FitsIn on scope as_told body → FitsIn on between as_told (s ∷ [])
  fits_next between body i s below is same keeps f = record {
    tables = f.tables;
    names = names_after_list f.names (take i body);
    round = f.round;
    is_round = f.is_round;
    sees = keeps f.names f.tables f.sees;
    fits = (
      subst
          (λ (t : Stmt).
          Fits f.tables (entries on.callees.items) on.most f.round
          (names_after_list f.names (take i body)) t)
          (sym is)
          (fit_at f.tables (entries on.callees.items) on.most f.round f.names body i s below
          f.fits),
      tt,
    );
    still = still_later scope between (s ∷ []) same
        (still_part scope body (s ∷ []) (λ quiet. ap (λ (b : Bool). b && true)
        (ap (is_quiet false) is ∙ quiet_at false body i s below quiet)) f.still);
  }

  pub fits_first : (e : Expr) (body other : Vec Stmt Global)
      → FitsIn on scope as_told (If e body other ∷ []) → FitsIn on scope as_told body.items
  fits_first e body other f = record {
    tables = f.tables;
    names = f.names;
    round = f.round;
    is_round = f.is_round;
    sees = f.sees;
    fits = fit_of_vec f.tables (entries on.callees.items) on.most f.round f.names body f.fits.0.1;
    still = still_part scope (If e body other ∷ []) body.items
        (λ quiet. quiet_vec body (and_left (all_is_quiet false (hidden-the_row-Stmt-0 body))
        (all_is_quiet false (hidden-the_row-Stmt-0 other))
        (and_left (is_quiet false (If e body other)) true quiet))) f.still;
  }

  pub fits_second : (e : Expr) (body other : Vec Stmt Global)
      → FitsIn on scope as_told (If e body other ∷ []) → FitsIn on scope as_told other.items
  fits_second e body other f = record {
    tables = f.tables;
    names = f.names;
    round = f.round;
    is_round = f.is_round;
    sees = f.sees;
    fits = fit_of_vec f.tables (entries on.callees.items) on.most f.round f.names other f.fits.0.2;
    still = still_part scope (If e body other ∷ []) other.items
        (λ quiet. quiet_vec other (and_right (all_is_quiet false (hidden-the_row-Stmt-0 body))
        (all_is_quiet false (hidden-the_row-Stmt-0 other))
        (and_left (is_quiet false (If e body other)) true quiet))) f.still;
  }

  pub fits_while : (e : Expr) (body : Vec Stmt Global)
      → FitsIn on scope as_told (While e body ∷ []) → FitsIn on scope as_told body.items
  fits_while e body f = record {
    tables = f.tables;
    names = f.names;
    round = f.round;
    is_round = f.is_round;
    sees = f.sees;
    fits = fit_of_vec f.tables (entries on.callees.items) on.most f.round f.names body f.fits.0.1;
    still = still_part scope (While e body ∷ []) body.items
        (λ quiet. quiet_vec body (and_left (is_quiet false (While e body)) true quiet)) f.still;
  }

  pub fits_loop : (x : Name) (a b : Expr) (body : Vec Stmt Global)
      → FitsIn on scope as_told (Loop x a b body ∷ [])
      → FitsInside on scope as_told x.text.items body.items
  fits_loop x a b body f =
      let within : Round = loop_round f.round (length f.names) in
      record {
        tables = f.tables;
        names = f.names;
        round = within;
        is_round = loop_is_round f.round as_told (length f.names) f.is_round;
        sees = f.sees;
        fits = fit_of_vec f.tables (entries on.callees.items) on.most within
            (f.names ++ x.text.items ∷ []) body f.fits.0.3;
        still = still_part scope (Loop x a b body ∷ []) body.items
            (λ quiet. quiet_vec body (and_left (is_quiet false (Loop x a b body)) true quiet))
            f.still;
      }

  pub fits_par : (inside : told.Round) (l : ParLoop) → inside.reduces.now ≡ l.reduces.items
      → inside.depth ≡ as_told.depth + 1 → FitsIn on scope as_told (Par l ∷ [])
      → FitsInside on scope inside l.var.text.items l.body.items
  fits_par inside l reduces depth f =
      let within : Round = par_round f.round f.names l.reduces.items in
      record {
        tables = f.tables;
        names = f.names;
        round = within;
        is_round = par_is_round f.round as_told inside f.names l reduces depth f.is_round;
        sees = f.sees;
        fits = fit_of_vec f.tables (entries on.callees.items) on.most within
            (f.names ++ l.var.text.items ∷ []) l.body f.fits.0.4;
        still = λ loud. f.still refl;
      }

  pub inside_later : (later : Scope) (x : List ℕ) (ss : List Stmt) → later.regs ≡ scope.regs
      → SeesAfter (λ names. names) scope later → FitsInside on scope as_told x ss
      → FitsInside on later as_told x ss
  inside_later later x ss same keeps f = record {
    tables = f.tables;
    names = f.names;
    round = f.round;
    is_round = f.is_round;
    sees = keeps f.names f.tables f.sees;
    fits = f.fits;
    still = still_later scope later ss same f.still;
  }

  -- where a leaf loop's variables stand in registers
  pub fits_held : (held : Scope) (l : ParLoop) → held.cells ≡ scope.cells
      → held.tables ≡ scope.tables → is_leaf l.body.items l.reduces.items ≡ true
      → FitsInside on scope as_told l.var.text.items l.body.items
      → FitsInside on held as_told l.var.text.items l.body.items
  fits_held held l same_cells same_tables leaf f = record {
    tables = f.tables;
    names = f.names;
    round = f.round;
    is_round = f.is_round;
    sees = sees_held scope held f.names f.tables same_cells same_tables f.sees;
    fits = f.fits;
    still = λ loud.
        absurd (true≢false (sym (leaf_is_quiet l.body.items l.reduces.items leaf) ∙ loud));
  }

  -- where the variable of a loop is visible
  pub fits_declared : (x : List ℕ) (inner : Scope) (ss : List Stmt) → inner.regs ≡ scope.regs
      → SeesAfter (λ names. names ++ x ∷ []) scope inner → FitsInside on scope as_told x ss
      → FitsIn on inner as_told ss
  fits_declared x inner ss same declares f = record {
    tables = f.tables;
    names = f.names ++ x ∷ [];
    round = f.round;
    is_round = f.is_round;
    sees = declares f.names f.tables f.sees;
    fits = f.fits;
    still = still_later scope inner ss same f.still;
  }

  -- where its parameters are visible, so does a function
  pub fits_func : (f : Func) (declared : Scope) → IsRound outermost as_told → on.most ≡ most_of f
      → declared.regs ≡ scope.regs
      → SeesAfter (λ names. names ++ texts f.params.items) scope declared
      → FuncsFitNow on scope (f ∷ []) → FitsIn on declared as_told f.body.items
  fits_func f declared is_round most same declares fits = record {
    tables = fits.tables;
    names = texts f.params.items;
    round = outermost;
    is_round = is_round;
    sees = declares [] fits.tables fits.sees.sees;
    fits = subst
        (λ (n : ℕ).
        AllFit fits.tables (entries on.callees.items) n outermost (texts f.params.items)
        f.body.items)
        (sym most) fits.fits.0.fits;
    still = λ loud.
        ap (λ (rs : Vec (Vec ℕ Global × ℕ) Global). rs.items) same ∙ fits.sees.bare;
  }

-- ---- functions

-- the function at a place fits, where the body stands on the same functions
pub func_fits_now : (base on : Body) (first scope : Scope) (fs : List Func) (i : ℕ) (f : Func)
    → i < length fs → f ≡ get_or fs i f → on.callees ≡ base.callees → first.cells.items ≡ []
    → scope.cells.items ≡ [] → scope.regs ≡ first.regs → scope.tables ≡ first.tables
    → FuncsFitNow base first fs
    → FuncsFitNow on scope (f ∷ [])
func_fits_now base on first scope fs i f below is callees empty none same_regs same fits = record {
  tables = fits.tables;
  sees = sees_tables first scope empty none same_regs same fits.tables fits.sees;
  fits = (
    subst (λ v. FuncFitsIn fits.tables (entries v.items) f) (sym callees)
        (holds_at (FuncFitsIn fits.tables (entries base.callees.items)) fs i f below is fits.fits),
    tt,
  );
}
