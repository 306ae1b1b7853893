-- The code of a program is written where that of its parts is.
use Rattle.std.proofs.Common.{◌≡◌, ℕ, ◌+◌, ◌≤◌, max, List, [], ◌∷◌, ◌++◌, length, map, take, Vec}
use Rattle.std.proofs.Common.{refl, sym, ap, subst, ◌∙◌, arith}
use Rattle.std.specs.Prelude.{pos, true}
use Rattle.std.specs.List.{AllByRecursion}
use Rattle.std.proofs.lemmas.List.Sums.{sum_by-cons}
use Rattle.std.specs.declared.alloc.Global.{Global}
use Rattle.tp_value.specs.declared.limits.TheConstants.{MAX_CALL_DEPTH, MAX_DECLARED_VARIABLES}
use Rattle.loop_syntax.specs.declared.Func.{Func}
use Rattle.loop_syntax.specs.declared.Program.{Program}
use Rattle.loop_syntax.specs.declared.TableDecl.{TableDecl}
use Rattle.loop_rules.specs.Names.{texts}
use Rattle.tpal_syntax.specs.declared.blocks.Block.{Block}
use Rattle.tpal_syntax.specs.declared.blocks.CodeTable.{CodeTable}
use Rattle.tpal_syntax.specs.declared.instructions.Instr.{Instr}
use Rattle.tpal_syntax.specs.declared.instructions.Instr.TheVariants as instr
use Rattle.tpal_syntax.specs.declared.instructions.Term.{Term}
use Rattle.tpal_syntax.specs.declared.instructions.Term.TheVariants as term
use Rattle.tpal_syntax.specs.declared.instructions.Value.TheVariants as value
use Rattle.tpal_syntax.specs.Listing.{Listing}
use Rattle.expr_lower.specs.declared.scope.Scope.{Scope}
use Rattle.expr_lower.specs.Standing.{AreAt}
use Rattle.handler_gen.specs.Blocks.{dispatch_block}
use Rattle.expr_lower.proofs.Standing.{front, back}
use Rattle.block_lower.specs.declared.body.Body.{Body}
use Rattle.block_lower.specs.declared.output.Output.{Output}
use Rattle.block_lower.specs.declared.round.Round as told
use Rattle.block_lower.specs.Bodies.{entries, activation, HasRoomFor}
use Rattle.scene_laws.specs.Built.{program_is_built}
use Rattle.scene_laws.specs.Code.{Codes, store}
use Rattle.scene_laws.specs.Visible.{IsVisible}
use Rattle.code_laws.specs.Fitting.{AllFit, FuncFits, DeclsFit, ProgramFits}
use Rattle.scene_laws.specs.Heights.{FuncIsLow}
use Rattle.scene_laws.specs.Layout.{levels_cell, value_cell, Entry, entry_of, Activation}
use Rattle.block_lower.specs.Lowering.{IsRound, FitsIn, LowersAll}
use Rattle.form_laws.specs.Functions.{IsFunction, AreFunctions, Makes, table_name}
use Rattle.code_laws.specs.Main.{IsProgram}
use Rattle.scene_laws.specs.Names.{Sees, SeesAfter, SeesBare, names_after_list}
use Rattle.scene_laws.specs.Tables.{IsDeclared, AreDeclared}
use Rattle.block_lower.specs.Programs.{most_of, entries_from, quiet_calls, dispatch_of}
use Rattle.block_lower.specs.Programs.{added_by_main, added_by_funcs, FuncFitsIn, FuncsFitNow}
use Rattle.block_lower.specs.Programs.{activation_of, AreWritten, LowersFuncs, SeesTables}
use Rattle.block_lower.specs.Programs.{WritesMakes, IsMainAt, LowersMain}
use Rattle.scene_laws.specs.Round.{outermost}
use Rattle.scene_laws.specs.Sizes.{added_by_func, declared_by_list, kept_by_list, kept_by_decls}
use Rattle.block_lower.specs.Writing.{label, next_label, IsFresh, Pushes, Closes, Stands, Continues}
use Rattle.block_lower.specs.Writing.{Leads}
use Rattle.block_lower.proofs.Written.Planning.{IsPlanned, entry_is_planned, main_fits}
use Rattle.block_lower.proofs.Written.Planning.{fitting_main_is_small, fitting_body, fitting_main}
use Rattle.block_lower.proofs.Written.Ranges.{codes_ranged, functions_ranged, makes_ranged}
use Rattle.block_lower.proofs.Written.Standing.{sees_bare}
use Rattle.block_lower.proofs.Written.Writing.{reopened, pushed, closed_block, fresh_opens}
use Rattle.block_lower.proofs.Written.WrittenFunctions.{room_of, fresh_label}
use Rattle.block_lower.proofs.Written.WrittenTables.{names_of_tables}

-- ---- the tables of a code

pub declared_more : (ds : List TableDecl) (ts : List CodeTable) (d : TableDecl) (t : CodeTable) → AreDeclared ds ts → IsDeclared d t → AreDeclared (ds ++ d ∷ []) (ts ++ t ∷ [])
declared_more [] [] d t all one = (one, tt)
declared_more [] (u ∷ us) d t all one = absurd all
declared_more (e ∷ es) [] d t all one = absurd all
declared_more (e ∷ es) (u ∷ us) d t all one = (all.0, declared_more es us d t all.1 one)

-- ---- main

sees_nothing : (scope : Scope) → scope.cells.items ≡ [] → scope.regs.items ≡ []
    → scope.tables.items ≡ [] → SeesBare scope [] []
sees_nothing scope cells regs tables = record {
  sees = record {
    named = ap (λ (cs : List (Vec ℕ Global × ℕ)). map (λ (c : Vec ℕ Global × ℕ). c.0.items) cs) cells;
    laid = rw cells tt;
    listed = ap (λ (ts : List (Vec ℕ Global)). map (λ (t : Vec ℕ Global). t.items) ts) tables;
  };
  bare = regs;
}

abbrev head : ℕ → List Instr
head size = instr.Salloc size ∷ store levels_cell (value.Int (pos MAX_CALL_DEPTH)) ∷ []

pub main_written : (on : Body) (as_told : told.Round) (p : Program) (scope seen : Scope)
    (old begins made inner new : Output) → IsRound outermost as_told → DeclsFit [] p.tables.items
    → scope.cells.items ≡ [] → scope.regs.items ≡ [] → scope.tables.items ≡ []
    → Pushes (head on.size) old begins
    → WritesMakes on scope p.tables.items begins made → SeesTables (λ tables. tables ++ map table_name p.tables.items) scope seen → LowersAll on as_told seen p.main.items made inner → Closes term.Halt inner new → LowersMain on p old new
main_written on as_told p scope seen old begins made inner new is_round fit cells bare none push
    makes keeps all close code fits stands =
    let tables : List (List ℕ) = map table_name p.tables.items in
    let act : Activation = activation on tables in
    let nothing : SeesBare scope [] [] = sees_nothing scope cells bare none in
    let made_bare : SeesBare seen [] tables = keeps [] [] nothing in
    let w : Leads code made (λ instrs end. Codes code act outermost [] p.main.items instrs end [] term.Halt) = all code tables [] outermost [] term.Halt is_round (sees_bare made_bare.bare made_bare.sees) fits (closed_block code inner new term.Halt close stands) in
    let v : Leads code begins (λ instrs end. (end ≡ w.end) × Makes code act [] p.tables.items instrs w.instrs) = makes code tables [] w.instrs w.end nothing fit w.continues in
    record {
      makes = v.instrs;
      instrs = w.instrs;
      end = w.end;
      begins = subst (λ (t : Term). Continues code old (head on.size ++ v.instrs) t) v.told.0 (pushed code old begins (head on.size) v.instrs v.end push v.continues);
      made = v.told.1;
      statements = w.told;
    }

take_none : {A : Type 0} (xs : List A) → take 0 xs ≡ []
take_none [] = refl
take_none (x ∷ xs) = refl

-- behind main only the tables are visible
pub sees_after_main : (p : Program) (scope seen after new : Scope) → scope.cells.items ≡ []
    → scope.regs.items ≡ [] → scope.tables.items ≡ []
    → SeesTables (λ tables. tables ++ map table_name p.tables.items) scope seen
    → after.regs ≡ seen.regs → SeesAfter (λ names. names_after_list names p.main.items) seen after
    → new.regs ≡ after.regs → SeesAfter (take 0) after new
    → SeesBare new [] (map table_name p.tables.items)
sees_after_main p scope seen after new cells bare none keeps same_after runs same_new leaves =
    let tables : List (List ℕ) = map table_name p.tables.items in
    let regs : Vec (Vec ℕ Global × ℕ) Global → List (Vec ℕ Global × ℕ) = λ rs. rs.items in
    let made : SeesBare seen [] tables = keeps [] [] (sees_nothing scope cells bare none) in
    record {
      sees = subst (λ (ns : List (List ℕ)). Sees new ns tables)
          (take_none (names_after_list [] p.main.items))
          (leaves (names_after_list [] p.main.items) tables (runs [] tables made.sees));
      bare = ap regs same_new ∙ ap regs same_after ∙ made.bare;
    }

-- ---- functions

written_at : (code : Listing) (act : Activation) (before : List Func) (f : Func) (behind : List Func) (at : ℕ) → AreWritten code act at (before ++ f ∷ behind)
    → IsFunction code (activation_of act f) f (at + added_by_funcs act.calls before)
written_at code act [] f behind at all =
    let there : at ≡ at + added_by_funcs act.calls [] = omega arith in
    subst (λ (l : ℕ). IsFunction code (activation_of act f) f l) there all.0
written_at code act (g ∷ gs) f behind at all =
    let there : at + added_by_func act.calls g + added_by_funcs act.calls gs ≡ at + added_by_funcs act.calls (g ∷ gs) = omega (arith, sum_by-cons (added_by_func act.calls) g gs) in
    subst (λ (l : ℕ). IsFunction code (activation_of act f) f l) there (written_at code act gs f behind (at + added_by_func act.calls g) all.1)

pub are_functions : (code : Listing) (act : Activation) (at : ℕ) (fs : List Func) → act.functions ≡ entries_from act.calls at fs → AreWritten code act at fs → AreFunctions code act fs
are_functions code act at fs same all x e is =
    let p : IsPlanned act.calls at fs x e = entry_is_planned act.calls at fs x e (ap (λ (es : List Entry). entry_of es x) (sym same) ∙ is) in
    let w : IsFunction code (activation_of act p.func) p.func (at + added_by_funcs act.calls p.before) =
    written_at code act p.before p.func p.behind at (subst (λ (gs : List Func). AreWritten code act at gs) p.among all) in
    record {
      func = p.func;
      named = p.named;
      arity = sym (ap (λ (d : Entry). d.parameters) p.entry);
      most = most_of p.func;
      is = subst (λ (d : Entry). IsFunction code (record act { most = most_of p.func; size = d.size }) p.func d.label) (sym p.entry) w;
    }

func_fits_in : (p : Program) (label : ℕ) (f : Func) → FuncFits p f → FuncFitsIn (map table_name p.tables.items) (entries_from (quiet_calls p) label p.funcs.items) f
func_fits_in p label f fits = record {
  fits = subst (λ (ts : List (List ℕ)). AllFit ts (entries_from (quiet_calls p) label p.funcs.items) (most_of f) outermost (texts f.params.items) f.body.items) (names_of_tables p) (fitting_body p (quiet_calls p) label f fits);
  seen = subst (λ (ts : List (List ℕ)). IsVisible ts (names_after_list (texts f.params.items) f.body.items) f.result) (names_of_tables p) fits.seen;
}

funcs_fit_in : (p : Program) (label : ℕ) (fs : List Func) → AllByRecursion (FuncFits p) fs → AllByRecursion (FuncFitsIn (map table_name p.tables.items) (entries_from (quiet_calls p) label p.funcs.items)) fs
funcs_fit_in p label [] all = tt
funcs_fit_in p label (f ∷ fs) all = (func_fits_in p label f all.0, funcs_fit_in p label fs all.1)

-- ---- programs

main_fits_in : (p : Program) → ProgramFits p → AllFit (map table_name p.tables.items) (entries_from (quiet_calls p) (added_by_main p) p.funcs.items) (declared_by_list p.main.items) outermost [] p.main.items
main_fits_in p fits =
    subst (λ (ts : List (List ℕ)). AllFit ts (entries_from (quiet_calls p) (added_by_main p) p.funcs.items) (declared_by_list p.main.items) outermost [] p.main.items) (names_of_tables p) (fitting_main p (quiet_calls p) (added_by_main p) fits.main)

pub funcs_low : (p : Program) (fs : List Func) → AllByRecursion (FuncFits p) fs → AllByRecursion FuncIsLow fs
funcs_low p [] all = tt
funcs_low p (f ∷ fs) all = (all.0.low, funcs_low p fs all.1)

-- they fit in a body that stands on the functions of the program
pub funcs_fit_now : (p : Program) (on : Body) (scope : Scope) → ProgramFits p → entries on.callees.items ≡ entries_from (quiet_calls p) (added_by_main p) p.funcs.items
    → SeesBare scope [] (map table_name p.tables.items) → FuncsFitNow on scope p.funcs.items
funcs_fit_now p on scope fits same sees = record {
  tables = map table_name p.tables.items;
  sees = sees;
  fits = subst (λ (es : List Entry). AllByRecursion (FuncFitsIn (map table_name p.tables.items) es) p.funcs.items) (sym same) (funcs_fit_in p (added_by_main p) p.funcs.items fits.functions);
}

-- the activation of main has room for its statements and for the sizes of tables
pub main_room : (p : Program) (on : Body) → ProgramFits p → on.most ≡ declared_by_list p.main.items → on.size ≡ value_cell (declared_by_list p.main.items) + max (kept_by_list p.main.items) (kept_by_decls p.tables.items)
    → HasRoomFor on (max (kept_by_list p.main.items) (kept_by_decls p.tables.items))
main_room p on fits most size =
    let few : declared_by_list p.main.items ≤ MAX_DECLARED_VARIABLES = fitting_main_is_small p fits.main in
    record { few = rw most few; room = rw (most, size) (omega arith); fits = rw size (main_fits p fits.main.low few) }

-- main fits in its body
pub main_fits_now : (p : Program) (on : Body) (as_told : told.Round) (scope seen : Scope) → ProgramFits p → entries on.callees.items ≡ entries_from (quiet_calls p) (added_by_main p) p.funcs.items → on.most ≡ declared_by_list p.main.items
    → IsRound outermost as_told → scope.cells.items ≡ [] → scope.regs.items ≡ []
    → scope.tables.items ≡ [] → SeesTables (λ tables. tables ++ map table_name p.tables.items) scope
    seen → FitsIn on seen as_told p.main.items
main_fits_now p on as_told scope seen fits same most is_round cells bare none keeps =
    let made : SeesBare seen [] (map table_name p.tables.items) =
    keeps [] [] (sees_nothing scope cells bare none) in
    record {
      tables = map table_name p.tables.items;
      names = [];
      round = outermost;
      is_round = is_round;
      sees = made.sees;
      fits = rw (same, most) (main_fits_in p fits);
      still = λ loud. made.bare;
    }

-- the blocks of main, those of the functions, and the one to which each beat goes are the code of the program
pub program_written : (p : Program) (on : Body) (kept : ℕ) (scope : Scope) (old main new : Output) → ProgramFits p → program_is_built p ≡ true → entries on.callees.items ≡ entries_from (quiet_calls p) (added_by_main p) p.funcs.items → on.most ≡ declared_by_list p.main.items
    → on.quiet_calls ≡ quiet_calls p → on.dispatch ≡ dispatch_of p → HasRoomFor on kept → old.blocks.items ≡ [] → IsFresh old → LowersMain on p old main → IsFresh main → next_label main ≡ next_label old + added_by_main p → SeesBare scope [] (map table_name p.tables.items)
    → LowersFuncs on scope p.funcs.items main new → length new.blocks.items ≡ dispatch_of p
    → (code : Listing) → AreDeclared p.tables.items code.tables → AreAt code 0 (new.blocks.items ++ dispatch_block on.dispatch ∷ []) → IsProgram code p
program_written p on kept scope old main new fits built same most calls beat room empty fresh lowers fresh_main labels sees functions many code declared all_stand =
    let tables : List (List ℕ) = map table_name p.tables.items in
    let stands : Stands code new = front code 0 new.blocks.items (dispatch_block on.dispatch ∷ []) all_stand in
    let last : AreAt code (0 + length new.blocks.items) (dispatch_block on.dispatch ∷ []) = back code 0 new.blocks.items (dispatch_block on.dispatch ∷ []) all_stand in
    let here : 0 + length new.blocks.items ≡ on.dispatch = omega (arith, many, beat) in
    let all_fit : AllByRecursion (FuncFitsIn tables (entries on.callees.items)) p.funcs.items =
    subst (λ (es : List Entry). AllByRecursion (FuncFitsIn tables es) p.funcs.items) (sym same) (funcs_fit_in p (added_by_main p) p.funcs.items fits.functions) in
    let f : Stands code main × AreWritten code (activation on tables) (label main) p.funcs.items = functions code tables sees all_fit stands in
    let fit_main : AllFit tables (entries on.callees.items) on.most outermost [] p.main.items = rw (same, most) (main_fits_in p fits) in
    let m : IsMainAt code (activation on tables) p old = lowers code fit_main f.0 in
    let none : length old.blocks.items ≡ 0 = ap (λ (bs : List Block). length bs) empty in
    let there : label main ≡ added_by_main p = omega (arith, labels, none, fresh_label old fresh, fresh_label main fresh_main) in
    record {
      act = activation on tables;
      has_room = room_of on kept tables room;
      declared = declared;
      tables = refl;
      calls = calls;
      functions = are_functions code (activation on tables) (added_by_main p) p.funcs.items (same ∙ ap (λ b. entries_from b (added_by_main p) p.funcs.items) (sym calls))
          (subst (λ (l : ℕ). AreWritten code (activation on tables) l p.funcs.items) there f.1);
      dispatch = subst (λ (l : ℕ). AreAt code l (dispatch_block on.dispatch ∷ [])) here last;
      makes = m.makes;
      instrs = m.instrs;
      end = m.end;
      begins = reopened code (label old) 0 _ _ m.end none refl (fresh_opens code old _ m.end fresh m.begins);
      made = m.made;
      statements = m.statements;
      ranged = record {
        tables = makes_ranged code (activation on tables) m.made;
        funcs = functions_ranged code (activation on tables) (label main) p.funcs.items f.1;
        main = codes_ranged code (activation on tables) m.statements;
      };
      built = built;
    }
