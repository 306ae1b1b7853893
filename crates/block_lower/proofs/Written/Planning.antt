-- The code of a program has no more blocks than it is counted with, and its activations are not too large. Each
-- function of a program has an entry, and each entry is that of a function.
use Rattle.std.proofs.Common.{◌≡◌, ℕ, ◌<◌, ◌≤◌, ◌+◌, ◌*◌, ◌++◌, Bool, true, false, true≢false, ◌&&◌}
use Rattle.std.proofs.Common.{if◌then◌else◌, cond, bytes_eq, max, List, [], ◌∷◌, length, refl}
use Rattle.std.proofs.Common.{Option, None, Some}
use Rattle.std.proofs.Common.{ap, sym, subst, ◌∙◌, arith}
use Rattle.std.specs.Prelude.{nat_le}
use Rattle.std.specs.List.{sum_by, list_any, AllByRecursion}
use Rattle.handler_gen.specs.Registers.{leaf_accs}
use Rattle.std.proofs.lemmas.Option.{none-some, same_Some}
use Rattle.std.proofs.lemmas.List.{length-append}
use Rattle.std.proofs.lemmas.List.Sums.{sum_by-cons}
use Rattle.loop_syntax.specs.declared.Carry.{Carry}
use Rattle.loop_syntax.specs.declared.Expr.{Expr}
use Rattle.loop_syntax.specs.declared.Expr.TheVariants.{Int, Var, Cell', Rows, Cols, Neg', Bin'}
use Rattle.loop_syntax.specs.declared.Func.{Func}
use Rattle.loop_syntax.specs.declared.Program.{Program}
use Rattle.loop_syntax.specs.declared.Stmt.{Stmt, Row_of-Stmt, end_of-Stmt, more_of-Stmt}
use Rattle.loop_syntax.specs.declared.Stmt.TheVariants.{Let, Set, Put, If', While', Loop', Par'}
use Rattle.loop_syntax.specs.declared.Stmt.TheVariants.{Fold, Call, Both, Print, Emit, Leave, Fill}
use Rattle.loop_syntax.specs.declared.TableDecl.{TableDecl}
use Rattle.loop_syntax.specs.declared.TableDecl.TheVariants.{Input, Made}
use Rattle.loop_rules.specs.Declarations.{declared_in, declared_list}
use Rattle.loop_rules.specs.Names.{func_of, texts}
use Rattle.loop_rules.specs.Sites.{tables_of}
use Rattle.tp_value.specs.declared.limits.TheConstants.{MAX_DECLARED_VARIABLES}
use Rattle.tp_value.specs.declared.limits.TheConstants.{MAX_ACTIVATION_CELLS}
use Rattle.expr_lower.specs.Bodies.{can_trap, literal, trap_count}
use Rattle.scene_laws.specs.Count.{nodes, blocks_of_expr, blocks_of_exprs, blocks, blocks_of_all}
use Rattle.scene_laws.specs.Count.{blocks_of_list, blocks_of_func, blocks_of_decl}
use Rattle.scene_laws.specs.Count.{blocks_of_program}
use Rattle.scene_laws.specs.Heights.{AllAreLow, FuncIsLow}
use Rattle.scene_laws.specs.Layout.{Entry, entry_of, value_cell}
use Rattle.code_laws.specs.Fitting.{AllFit, HasEntry, AreEntriesOf, MainFits, FuncFits}
use Rattle.code_laws.specs.Fitting.{variables_of}
use Rattle.scene_laws.specs.Opposite.{branch_blocks, opposite}
use Rattle.block_lower.specs.Programs.{most_of, size_of, added_by_funcs, added_by_program, entry_at}
use Rattle.block_lower.specs.Programs.{entries_from, quiet_calls, FuncIsSmall}
use Rattle.scene_laws.specs.Quiet.{is_quiet, all_is_quiet, row_is_leaf}
use Rattle.scene_laws.specs.Round.{outermost}
use Rattle.scene_laws.specs.Sizes.{trap_counts, added, added_by_all, added_by_other, added_by_list}
use Rattle.scene_laws.specs.Sizes.{added_by_func, added_by_decl, added_by_decls, has_row}
use Rattle.scene_laws.specs.Sizes.{par_blocks, declared, declared_by_list, kept_by_list}
use Rattle.scene_laws.specs.Sizes.{kept_by_decls}
use Rattle.scene_laws.proofs.Counts.Adding.{few_kept_by_list, few_kept_by_decls}

-- ---- blocks

at_most_one : (b : Bool) → cond b 1 0 ≤ 1
at_most_one true = omega arith
at_most_one false = omega arith

-- an expression has no more trap blocks than nodes
pub few_trap_blocks : (e : Expr) → trap_count e ≤ nodes e
few_trap_blocks (Int n place) = omega arith
few_trap_blocks (Var x) = omega arith
few_trap_blocks (Cell' t p a q b) = omega (arith, few_trap_blocks a, few_trap_blocks b)
few_trap_blocks (Rows t) = omega arith
few_trap_blocks (Cols t) = omega arith
few_trap_blocks (Neg' p a place) = omega (arith, few_trap_blocks a)
few_trap_blocks (Bin' o place p a q b) = omega (arith, few_trap_blocks a, few_trap_blocks b, at_most_one (can_trap o (literal b)))

twice_few_trap_blocks : (es : List Expr) → 2 * trap_counts es ≤ blocks_of_exprs es
twice_few_trap_blocks [] = omega arith
twice_few_trap_blocks (e ∷ es) = omega (arith, sum_by-cons trap_count e es, sum_by-cons blocks_of_expr e es, few_trap_blocks e, twice_few_trap_blocks es)

both_first : (a b : Bool) → (a && b) ≡ true → a ≡ true
both_first true b is = refl
both_first false b is = is

both_second : (a b : Bool) → (a && b) ≡ true → b ≡ true
both_second true b is = is
both_second false b is = absurd (true≢false (sym is))

both_true : (a b : Bool) → a ≡ true → b ≡ true → (a && b) ≡ true
both_true a b one two = rw (one, two) refl

few_branch_blocks : (e : Expr) → branch_blocks (opposite e) ≤ 1
few_branch_blocks e = by (opposite e)
  where
    by : (found : Option Expr) → branch_blocks found ≤ 1
    by None = omega arith
    by (Some x) = omega arith

-- a quiet statement adds no more than half of the blocks that it is counted with, so that it may stand twice
mutual
  few_twice : (calls : Bool) (s : Stmt) → is_quiet calls s ≡ true → 2 * added calls s ≤ blocks s
  few_twice calls (Let x e) quiet = omega (arith, few_trap_blocks e)
  few_twice calls (Set x e) quiet = omega (arith, few_trap_blocks e)
  few_twice calls (Put t a b e) quiet = omega (arith, few_trap_blocks a, few_trap_blocks b, few_trap_blocks e)
  few_twice calls (If' e p body q other) quiet =
      omega (arith, few_trap_blocks e, few_branch_blocks e, few_twice_by_all calls body (both_first (all_is_quiet calls body) (all_is_quiet calls other) quiet), few_twice_by_other calls other (both_second (all_is_quiet calls body) (all_is_quiet calls other) quiet))
  few_twice calls (While' e p body) quiet = omega (arith, few_trap_blocks e, few_twice_by_all calls body quiet)
  few_twice calls (Loop' x a b p body) quiet = omega (arith, few_trap_blocks a, few_trap_blocks b, few_twice_by_all calls body quiet)
  few_twice calls (Par' place x a b carry_place carries reduces p body) quiet = absurd (true≢false (sym quiet))
  few_twice calls (Fold x e) quiet = omega (arith, few_trap_blocks e)
  few_twice calls (Call x f) quiet = omega (arith, twice_few_trap_blocks f.args.items)
  few_twice calls (Both x f y g) quiet = absurd (true≢false (sym quiet))
  few_twice calls (Print place e) quiet = omega (arith, few_trap_blocks e)
  few_twice calls (Emit place t) quiet = omega arith
  few_twice calls (Leave x e) quiet = omega (arith, few_trap_blocks e)
  few_twice calls (Fill f t r es) quiet = omega arith

  few_twice_by_all : {m : _} (calls : Bool) (row : Row_of-Stmt m) → all_is_quiet calls row ≡ true → 2 * added_by_all calls row ≤ blocks_of_all row
  few_twice_by_all calls end_of-Stmt quiet = omega arith
  few_twice_by_all calls (more_of-Stmt first rest) quiet =
      omega (arith, few_twice calls first (both_first (is_quiet calls first) (all_is_quiet calls rest) quiet), few_twice_by_all calls rest (both_second (is_quiet calls first) (all_is_quiet calls rest) quiet))

  few_twice_by_other : {m : _} (calls : Bool) (row : Row_of-Stmt m) → all_is_quiet calls row ≡ true → 2 * added_by_other calls row ≤ blocks_of_all row + 2
  few_twice_by_other calls end_of-Stmt quiet = omega arith
  few_twice_by_other calls (more_of-Stmt first rest) quiet =
      omega (arith, few_twice calls first (both_first (is_quiet calls first) (all_is_quiet calls rest) quiet), few_twice_by_all calls rest (both_second (is_quiet calls first) (all_is_quiet calls rest) quiet))

few_site_blocks : (row : Bool) → (if row then 10 else 9) ≤ 10
few_site_blocks true = omega arith
few_site_blocks false = omega arith

-- a statement that is quiet whatever a call reaches is quiet where calls reach no point too
mutual
  quiet_too : (calls : Bool) (s : Stmt) → is_quiet false s ≡ true → is_quiet calls s ≡ true
  quiet_too calls (Let x e) quiet = refl
  quiet_too calls (Set x e) quiet = refl
  quiet_too calls (Put t a b e) quiet = refl
  quiet_too calls (If' e p body q other) quiet =
      both_true (all_is_quiet calls body) (all_is_quiet calls other)
      (all_quiet_too calls body (both_first (all_is_quiet false body) (all_is_quiet false other) quiet))
      (all_quiet_too calls other (both_second (all_is_quiet false body) (all_is_quiet false other) quiet))
  quiet_too calls (While' e p body) quiet = all_quiet_too calls body quiet
  quiet_too calls (Loop' x a b p body) quiet = all_quiet_too calls body quiet
  quiet_too calls (Par' place x a b carry_place carries reduces p body) quiet = quiet
  quiet_too calls (Fold x e) quiet = refl
  quiet_too calls (Call x f) quiet = absurd (true≢false (sym quiet))
  quiet_too calls (Both x f y g) quiet = quiet
  quiet_too calls (Print place e) quiet = refl
  quiet_too calls (Emit place t) quiet = refl
  quiet_too calls (Leave x e) quiet = refl
  quiet_too calls (Fill f t r es) quiet = refl

  all_quiet_too : {m : _} (calls : Bool) (row : Row_of-Stmt m) → all_is_quiet false row ≡ true → all_is_quiet calls row ≡ true
  all_quiet_too calls end_of-Stmt quiet = refl
  all_quiet_too calls (more_of-Stmt first rest) quiet =
      both_true (is_quiet calls first) (all_is_quiet calls rest)
      (quiet_too calls first (both_first (is_quiet false first) (all_is_quiet false rest) quiet))
      (all_quiet_too calls rest (both_second (is_quiet false first) (all_is_quiet false rest) quiet))

-- so a `par` has behind its tests no more blocks than its body is counted with, and fifteen
few_par_blocks : {m : _} (calls : Bool) (carries : List Carry) (row : Row_of-Stmt m)
    → added_by_all calls row ≤ blocks_of_all row
    → (leaf quiet : Bool) → (leaf ≡ true → all_is_quiet false row ≡ true)
    → all_is_quiet calls row ≡ quiet
    → par_blocks leaf quiet carries (added_by_all calls row + 1) ≤ blocks_of_all row + 15
few_par_blocks calls carries row once true quiet is_leaf is =
    omega (arith, few_site_blocks (list_any has_row carries), few_twice_by_all calls row (all_quiet_too calls row (is_leaf refl)))
few_par_blocks calls carries row once false true is_leaf is = omega (arith, few_site_blocks (list_any has_row carries), few_twice_by_all calls row is)
few_par_blocks calls carries row once false false is_leaf is = omega (arith, few_site_blocks (list_any has_row carries), once)

-- a statement adds no more blocks than it is counted with
mutual
  pub few_added : (calls : Bool) (s : Stmt) → added calls s ≤ blocks s
  few_added calls (Let x e) = omega (arith, few_trap_blocks e)
  few_added calls (Set x e) = omega (arith, few_trap_blocks e)
  few_added calls (Put t a b e) = omega (arith, few_trap_blocks a, few_trap_blocks b, few_trap_blocks e)
  few_added calls (If' e p body q other) = omega (arith, few_trap_blocks e, few_branch_blocks e, few_added_by_all calls body, few_added_by_other calls other)
  few_added calls (While' e p body) = omega (arith, few_trap_blocks e, few_added_by_all calls body)
  few_added calls (Loop' x a b p body) = omega (arith, few_trap_blocks a, few_trap_blocks b, few_added_by_all calls body)
  few_added calls (Par' place x a b carry_place carries reduces p body) =
      omega (arith, few_trap_blocks a, few_trap_blocks b, few_par_blocks calls carries.items body (few_added_by_all calls body) (row_is_leaf body reduces.items) (all_is_quiet calls body) (both_second (nat_le (length reduces.items) leaf_accs) (all_is_quiet false body)) refl)
  few_added calls (Fold x e) = omega (arith, few_trap_blocks e)
  few_added calls (Call x f) = omega (arith, twice_few_trap_blocks f.args.items)
  few_added calls (Both x f y g) = omega (arith, twice_few_trap_blocks f.args.items, twice_few_trap_blocks g.args.items)
  few_added calls (Print place e) = omega (arith, few_trap_blocks e)
  few_added calls (Emit place t) = omega arith
  few_added calls (Leave x e) = omega (arith, few_trap_blocks e)
  few_added calls (Fill f t r es) = omega arith

  few_added_by_all : {m : _} (calls : Bool) (row : Row_of-Stmt m) → added_by_all calls row ≤ blocks_of_all row
  few_added_by_all calls end_of-Stmt = omega arith
  few_added_by_all calls (more_of-Stmt first rest) = omega (arith, few_added calls first, few_added_by_all calls rest)

  few_added_by_other : {m : _} (calls : Bool) (row : Row_of-Stmt m) → added_by_other calls row ≤ blocks_of_all row + 1
  few_added_by_other calls end_of-Stmt = omega arith
  few_added_by_other calls (more_of-Stmt first rest) = omega (arith, few_added calls first, few_added_by_all calls rest)

pub few_added_by_list : (calls : Bool) (body : List Stmt) → added_by_list calls body ≤ blocks_of_list body
few_added_by_list calls [] = omega arith
few_added_by_list calls (s ∷ ss) = omega (arith, sum_by-cons (added calls) s ss, sum_by-cons blocks s ss, few_added calls s, few_added_by_list calls ss)

pub few_added_by_func : (calls : Bool) (f : Func) → added_by_func calls f ≤ blocks_of_func f
few_added_by_func calls f = omega (arith, few_added_by_list calls f.body.items, few_trap_blocks f.result)

few_added_by_funcs : (calls : Bool) (fs : List Func) → added_by_funcs calls fs ≤ sum_by blocks_of_func fs
few_added_by_funcs calls [] = omega arith
few_added_by_funcs calls (f ∷ fs) = omega (arith, sum_by-cons (added_by_func calls) f fs, sum_by-cons blocks_of_func f fs, few_added_by_func calls f, few_added_by_funcs calls fs)

pub few_added_by_decl : (d : TableDecl) → added_by_decl d ≤ blocks_of_decl d
few_added_by_decl (Input x) = omega arith
few_added_by_decl (Made x a b) = omega (arith, few_trap_blocks a, few_trap_blocks b)

few_added_by_decls : (ds : List TableDecl) → added_by_decls ds ≤ sum_by blocks_of_decl ds
few_added_by_decls [] = omega arith
few_added_by_decls (d ∷ ds) = omega (arith, sum_by-cons added_by_decl d ds, sum_by-cons blocks_of_decl d ds, few_added_by_decl d, few_added_by_decls ds)

-- a program has fewer blocks than it is counted with
pub fewer_blocks : (p : Program) → added_by_program p < blocks_of_program p
fewer_blocks p = omega (arith, few_added_by_decls p.tables.items, few_added_by_list (quiet_calls p) p.main.items, few_added_by_funcs (quiet_calls p) p.funcs.items)

-- ---- activations

-- an activation is not too large
pub func_fits : (f : Func) → FuncIsLow f → most_of f ≤ MAX_DECLARED_VARIABLES
    → size_of f ≤ MAX_ACTIVATION_CELLS
func_fits f low few = omega (arith, few, few_kept_by_list f.body.items low.0)

pub main_fits : (p : Program) → AllAreLow p.main.items → declared_by_list p.main.items ≤ MAX_DECLARED_VARIABLES → value_cell (declared_by_list p.main.items) + max (kept_by_list p.main.items) (kept_by_decls p.tables.items) ≤ MAX_ACTIVATION_CELLS
main_fits p low few =
    omega (arith, few, few_kept_by_list p.main.items low, few_kept_by_decls p.tables.items)

-- ---- functions and their entries

-- an entry is that of the function of its name, which stands behind the blocks of those before it
pub record IsPlanned (calls : Bool) (label : ℕ) (fs : List Func) (x : List ℕ) (e : Entry) : Type 0 where
  pub func : Func
  pub named : func_of fs x ≡ Some func
  pub before : List Func
  pub behind : List Func
  pub among : fs ≡ before ++ func ∷ behind
  pub entry : e ≡ entry_at (label + added_by_funcs calls before) func

planned_by : (calls b : Bool) (label : ℕ) (f : Func) (fs : List Func) (x : List ℕ) (e : Entry) → bytes_eq f.name.text.items x ≡ b → cond b (Some (entry_at label f)) (entry_of (entries_from calls (label + added_by_func calls f) fs) x) ≡ Some e
    → (entry_of (entries_from calls (label + added_by_func calls f) fs) x ≡ Some e → IsPlanned calls (label + added_by_func calls f) fs x e) → IsPlanned calls label (f ∷ fs) x e
planned_by calls true label f fs x e same is rest =
    let first : label ≡ label + added_by_funcs calls [] = omega arith in
    record {
      func = f;
      named = rw same refl;
      before = [];
      behind = fs;
      among = refl;
      entry = sym (same_Some (entry_at label f) e is) ∙ ap (λ l. entry_at l f) first;
    }
planned_by calls false label f fs x e other is rest =
    let planned : IsPlanned calls (label + added_by_func calls f) fs x e = rest is in
    record {
      func = planned.func;
      named = rw other planned.named;
      before = f ∷ planned.before;
      behind = planned.behind;
      among = ap (λ gs. f ∷ gs) planned.among;
      entry = planned.entry ∙ ap (λ l. entry_at l planned.func) (omega (arith, sum_by-cons (added_by_func calls) f planned.before));
    }

pub entry_is_planned : (calls : Bool) (label : ℕ) (fs : List Func) (x : List ℕ) (e : Entry) → entry_of (entries_from calls label fs) x ≡ Some e → IsPlanned calls label fs x e
entry_is_planned calls label [] x e is = absurd (none-some e is)
entry_is_planned calls label (f ∷ fs) x e is = planned_by calls (bytes_eq f.name.text.items x) label f fs x e refl is (entry_is_planned calls (label + added_by_func calls f) fs x e)

entry_by : (calls b : Bool) (label : ℕ) (g : Func) (fs : List Func) (x : List ℕ) (f : Func) → bytes_eq g.name.text.items x ≡ b → cond b (Some g) (func_of fs x) ≡ Some f
    → (func_of fs x ≡ Some f → HasEntry (entries_from calls (label + added_by_func calls g) fs) x f) → HasEntry (entries_from calls label (g ∷ fs)) x f
entry_by calls true label g fs x f same is rest = record {
  entry = entry_at label g;
  is_entry = rw same refl;
  arity = sym (ap (λ h. length h.params.items) (same_Some g f is));
}
entry_by calls false label g fs x f other is rest =
    let has : HasEntry (entries_from calls (label + added_by_func calls g) fs) x f = rest is in
    record { entry = has.entry; is_entry = rw other has.is_entry; arity = has.arity }

-- each function has an entry of its name, with as many parameters
pub are_entries : (calls : Bool) (label : ℕ) (fs : List Func) → AreEntriesOf (entries_from calls label fs) fs
are_entries calls label [] x f is = absurd (none-some f is)
are_entries calls label (g ∷ fs) x f is = entry_by calls (bytes_eq g.name.text.items x) label g fs x f refl is (are_entries calls (label + added_by_func calls g) fs x f)

-- ---- programs that fit

-- statements declare so many variables
pub declared_as_many : (ss : List Stmt) → length (declared_list ss) ≡ declared_by_list ss
declared_as_many [] = refl
declared_as_many (s ∷ ss) = omega (arith, length-append (declared_in s) (declared_list ss), sum_by-cons declared s ss, declared_as_many ss)

pub as_many_variables : (f : Func) → variables_of f ≡ most_of f
as_many_variables f = ap (λ n. length f.params.items + n) (declared_as_many f.body.items)

pub fitting_is_small : (p : Program) (f : Func) → FuncFits p f → FuncIsSmall f
fitting_is_small p f fits = record { few_parameters = fits.few_parameters; few = omega (arith, as_many_variables f, fits.few) }

pub fitting_are_small : (p : Program) (fs : List Func) → AllByRecursion (FuncFits p) fs → AllByRecursion FuncIsSmall fs
fitting_are_small p [] all = tt
fitting_are_small p (f ∷ fs) all = (fitting_is_small p f all.0, fitting_are_small p fs all.1)

pub fitting_main_is_small : (p : Program) → MainFits p → declared_by_list p.main.items ≤ MAX_DECLARED_VARIABLES
fitting_main_is_small p fits = omega (arith, declared_as_many p.main.items, fits.few)

-- the statements of a function, and those of main, fit in their activations where the functions stand one behind
-- another from a label on
pub fitting_body : (p : Program) (calls : Bool) (label : ℕ) (f : Func) → FuncFits p f → AllFit (texts (tables_of p)) (entries_from calls label p.funcs.items) (most_of f) outermost (texts f.params.items) f.body.items
fitting_body p calls label f fits =
    subst (λ (n : ℕ). AllFit (texts (tables_of p)) (entries_from calls label p.funcs.items) n outermost (texts f.params.items) f.body.items) (as_many_variables f)
    (fits.fits (entries_from calls label p.funcs.items) (are_entries calls label p.funcs.items))

pub fitting_main : (p : Program) (calls : Bool) (label : ℕ) → MainFits p → AllFit (texts (tables_of p)) (entries_from calls label p.funcs.items) (declared_by_list p.main.items) outermost [] p.main.items
fitting_main p calls label fits =
    subst (λ (n : ℕ). AllFit (texts (tables_of p)) (entries_from calls label p.funcs.items) n outermost [] p.main.items) (declared_as_many p.main.items)
    (fits.fits (entries_from calls label p.funcs.items) (are_entries calls label p.funcs.items))
