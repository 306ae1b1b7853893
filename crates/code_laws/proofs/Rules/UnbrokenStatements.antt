-- Statements fit where no rule is broken.
use Rattle.std.proofs.Common.{◌≡◌, ◌≢◌, ℕ, suc, ◌+◌, ◌<◌, ◌≤◌, true, false, List, [], ◌∷◌, ◌++◌}
use Rattle.std.proofs.Common.{length, refl, sym, ◌∙◌, arith}
use Rattle.std.specs.Prelude.{◌||◌, not}
use Rattle.std.specs.List.{AllByRecursion}
use Rattle.std.proofs.lemmas.List.{length-append}
use Rattle.loop_syntax.specs.declared.App.{App}
use Rattle.loop_syntax.specs.declared.Name.{Name}
use Rattle.loop_syntax.specs.declared.Stmt.{Stmt, Row_of-Stmt, end_of-Stmt, more_of-Stmt}
use Rattle.loop_syntax.specs.declared.Stmt.TheVariants.{Let, Set, Put, If', While', Loop', Par'}
use Rattle.loop_syntax.specs.declared.Stmt.TheVariants.{Fold, Call, Both, Print, Emit, Leave, Fill}
use Rattle.loop_rules.specs.Declarations.{declared_in, declared_all, declared_list}
use Rattle.loop_rules.specs.Names.{func_names, is_in, texts}
use Rattle.loop_rules.specs.Scopes.{at, is_visible}
use Rattle.loop_rules.specs.Sites.{Assigns, AssignsBoth, Folds, Spot, Site, site, in_whole, in_app}
use Rattle.loop_rules.specs.Sites.{in_carries, in_stmt, in_all, in_list, spot_after, the_loop}
use Rattle.loop_rules.specs.Sites.{in_loop, in_par}
use Rattle.loop_check.proofs.Bools.{and_left, and_right, no_both, not_false, or_left}
use Rattle.loop_check.proofs.Fine.{at_none}
use Rattle.loop_check.proofs.Lists.{Each, each_left, each_right}
use Rattle.scene_laws.specs.Built.{is_built, all_are_built, list_is_built}
use Rattle.scene_laws.specs.Names.{level_of}
use Rattle.code_laws.specs.Fitting.{IsFree, IsCall, Fits, FitInRow, AllFit, HasEntry}
use Rattle.code_laws.specs.Fitting.{AreEntriesOf}
use Rattle.scene_laws.specs.Layout.{Entry}
use Rattle.scene_laws.specs.Names.{names_after}
use Rattle.scene_laws.specs.Round.{Round, loop_round, par_round}
use Rattle.code_laws.proofs.Rules.UnbrokenCuts.{can_be_cut}
use Rattle.code_laws.proofs.Rules.UnbrokenExpressions.{Keeps, IsCallee, named_table}
use Rattle.code_laws.proofs.Rules.UnbrokenExpressions.{whole_visible, args_visible, callee_of}
use Rattle.code_laws.proofs.Rules.UnbrokenRounds.{Around, around_after, around_loop, around_par}
use Rattle.code_laws.proofs.Rules.UnbrokenRounds.{shallow, set_free, folded_free}
use Rattle.code_laws.proofs.Rules.UnbrokenSpots.{with_names, behind_first, behind_head}
use Rattle.code_laws.proofs.Rules.UnbrokenSpots.{long_after}
use Rattle.scene_laws.proofs.Scenes.Levels.{at_level}

module _ (functions : List Entry) (most : ℕ) where
  -- a variable that is visible, and none of the fixed ones
  free : (w : Spot) (round : Round) (x : Name) → length w.scope ≤ most
      → at x (not (is_in w.scope x.text.items)) ≡ []
      → (is_in w.scope x.text.items ≡ true
      → AllByRecursion (λ j. j ≢ level_of w.scope x.text.items) round.fixed)
      → IsFree (texts w.tables) functions most w.scope round.fixed x.text.items
  free w round x room names others =
      let seen : is_in w.scope x.text.items ≡ true =
      not_false (is_in w.scope x.text.items) (at_none x (not (is_in w.scope x.text.items)) names) in
      let there : level_of w.scope x.text.items < length w.scope =
      (at_level w.scope x.text.items seen).0 in
      record { seen = seen; below = omega (arith, there, room); free = others seen }

  -- one that is set, and one that is folded into
  target : (w : Spot) (round : Round) (x : Name) → Around w round → length w.scope ≤ most
      → Keeps (site w (Assigns x))
      → IsFree (texts w.tables) functions most w.scope round.fixed x.text.items
  target w round x around room k =
      free w round x room k.names (λ seen. set_free w round x around seen k)

  folded : (w : Spot) (round : Round) (x : Name) → Around w round → length w.scope ≤ most
      → Keeps (site w (Folds x))
      → IsFree (texts w.tables) functions most w.scope round.fixed x.text.items
  folded w round x around room k =
      free w round x room k.names (λ seen. folded_free w round x around seen k)

  call : (w : Spot) (f : App) → AreEntriesOf functions w.funcs → Each Keeps (in_app w f) → IsCall (texts w.tables) functions most w.scope f
  call w f entries k =
      let callee : IsCallee w.funcs f.callee.text.items (length f.args.items) = callee_of w f k.0 in
      let has : HasEntry functions f.callee.text.items callee.func = entries f.callee.text.items callee.func callee.is in
      record {
        entry = has.entry;
        is_entry = has.is_entry;
        arity = sym callee.arity ∙ has.arity;
        seen = args_visible w f.args.items k.1;
      }

  mutual
    fits_stmt : (w : Spot) (round : Round) (s : Stmt) → AreEntriesOf functions w.funcs → Around w round → length w.scope + length (declared_in s) ≤ most → is_built s ≡ true → Each Keeps (in_stmt w s)
        → Fits (texts w.tables) functions most round w.scope s
    fits_stmt w round (Let x e) entries around room built k = ((let r : length w.scope + 1 ≤ most = room in omega arith), whole_visible w e k.1)
    fits_stmt w round (Set x e) entries around room built k = (target w round x around (omega arith) k.0, whole_visible w e k.1)
    fits_stmt w round (Put t a b e) entries around room built k =
        let behind : Each Keeps (in_whole w b ++ in_whole w e) = each_right Keeps (in_whole w a) (in_whole w b ++ in_whole w e) k.1.1 in (
          named_table w t k.0,
          whole_visible w a (each_left Keeps (in_whole w a) (in_whole w b ++ in_whole w e) k.1.1),
          whole_visible w b (each_left Keeps (in_whole w b) (in_whole w e) behind),
          whole_visible w e (each_right Keeps (in_whole w b) (in_whole w e) behind),
        )
    fits_stmt w round (If' e p body q other) entries around room built k =
        let inner : Each Keeps (in_all w body ++ in_all w other) = each_right Keeps (in_whole w e) (in_all w body ++ in_all w other) k in
        let both : length (declared_all body ++ declared_all other) ≡ length (declared_all body) + length (declared_all other) = length-append (declared_all body) (declared_all other) in (
          whole_visible w e (each_left Keeps (in_whole w e) (in_all w body ++ in_all w other) k),
          fits_row w round body entries around (omega arith) (and_left (all_are_built body) (all_are_built other) built) (each_left Keeps (in_all w body) (in_all w other) inner),
          fits_row w round other entries around (omega arith) (and_right (all_are_built body) (all_are_built other) built) (each_right Keeps (in_all w body) (in_all w other) inner),
        )
    fits_stmt w round (While' e p body) entries around room built k =
        (whole_visible w e (each_left Keeps (in_whole w e) (in_all w body) k), fits_row w round body entries around room built (each_right Keeps (in_whole w e) (in_all w body) k))
    fits_stmt w round (Loop' x a b p body) entries around room built k =
        let inside : List Site = in_all (in_loop w x) body in
        let behind : Each Keeps (in_whole w b ++ inside) = each_right Keeps (in_whole w a) (in_whole w b ++ inside) k.1 in
        let r : length w.scope + suc (length (declared_all body)) ≤ most = room in (
          (omega arith),
          whole_visible w a (each_left Keeps (in_whole w a) (in_whole w b ++ inside) k.1),
          whole_visible w b (each_left Keeps (in_whole w b) inside behind),
          fits_row (in_loop w x) (loop_round round (length w.scope)) body entries (around_loop w round x around) (omega (arith, length-append w.scope (x.text.items ∷ []))) built (each_right Keeps (in_whole w b) inside behind),
        )
    fits_stmt w round (Par' place x a b carry_place carries reduces p body) entries around room built k =
        let clauses : List Site = in_carries w carries.items in
        let within : Spot = in_par w x carries.items reduces.items in
        let behind : Each Keeps (in_whole w b ++ (clauses ++ in_all within body)) = each_right Keeps (in_whole w a) (in_whole w b ++ (clauses ++ in_all within body)) k.1.1.1 in
        let r : length w.scope + suc (length (declared_all body)) ≤ most = room in (
          shallow w round place carry_place (the_loop w x carries.items reduces.items) k.0 around,
          (omega arith),
          whole_visible w a (each_left Keeps (in_whole w a) (in_whole w b ++ (clauses ++ in_all within body)) k.1.1.1),
          whole_visible w b (each_left Keeps (in_whole w b) (clauses ++ in_all within body) behind),
          fits_row (in_par w x carries.items reduces.items) (par_round round w.scope reduces.items) body entries (around_par w round x carries.items reduces.items place carry_place k.0 around) (omega (arith, length-append w.scope (x.text.items ∷ []))) built
              (each_right Keeps clauses (in_all within body) (each_right Keeps (in_whole w b) (clauses ++ in_all within body) behind)),
          can_be_cut functions most w round x carries.items reduces.items place carry_place around (omega arith) k.0 (each_left Keeps clauses (in_all within body) (each_right Keeps (in_whole w b) (clauses ++ in_all within body) behind)),
          or_left (is_in w.scope x.text.items)
              (is_in (texts w.tables) x.text.items || is_in (func_names w.funcs) x.text.items)
              (at_none x (is_visible w x.text.items) k.1.1.0.names),
        )
    fits_stmt w round (Fold x e) entries around room built k = (folded w round x around (omega arith) k.0, whole_visible w e k.1)
    fits_stmt w round (Call x f) entries around room built k = (target w round x around (omega arith) k.0, call w f entries k.1)
    fits_stmt w round (Both x f y g) entries around room built k =
        let rest : List Site = site w (Assigns y) ∷ site w (AssignsBoth x y) ∷ in_app w g in
        let second : Each Keeps rest = each_right Keeps (in_app w f) rest k.1 in (
          target w round x around (omega arith) k.0,
          target w round y around (omega arith) second.0,
          call w f entries (each_left Keeps (in_app w f) rest k.1),
          call w g entries second.1.1,
        )
    fits_stmt w round (Print place e) entries around room built k = whole_visible w e k.1
    fits_stmt w round (Emit place t) entries around room built k = named_table w t k.1.0
    fits_stmt w round (Leave x e) entries around room built k = no_both false built refl
    fits_stmt w round (Fill f t r es) entries around room built k = no_both false built refl

    fits_row : {m : _} (w : Spot) (round : Round) (row : Row_of-Stmt m) → AreEntriesOf functions w.funcs → Around w round → length w.scope + length (declared_all row) ≤ most → all_are_built row ≡ true → Each Keeps (in_all w row)
        → FitInRow (texts w.tables) functions most round w.scope row
    fits_row w round end_of-Stmt entries around room built k = tt
    fits_row w round (more_of-Stmt s rest) entries around room built k =
        let both : length (declared_in s ++ declared_all rest) ≡ length (declared_in s) + length (declared_all rest) = length-append (declared_in s) (declared_all rest) in
        let long : length (names_after w.scope s) ≤ length w.scope + length (declared_in s) = long_after w.scope s in (
          fits_stmt w round s entries around (omega arith) (and_left (is_built s) (all_are_built rest) built) (each_left Keeps (in_stmt w s) (in_all (spot_after w s) rest) k),
          fits_row (with_names w (names_after w.scope s)) round rest entries (around_after w round s around) (omega arith) (and_right (is_built s) (all_are_built rest) built) (behind_first w s rest k),
        )

  pub fits_list : (w : Spot) (round : Round) (ss : List Stmt) → AreEntriesOf functions w.funcs → Around w round → length w.scope + length (declared_list ss) ≤ most → list_is_built ss ≡ true → Each Keeps (in_list w ss)
      → AllFit (texts w.tables) functions most round w.scope ss
  fits_list w round [] entries around room built k = tt
  fits_list w round (s ∷ ss) entries around room built k =
      let both : length (declared_in s ++ declared_list ss) ≡ length (declared_in s) + length (declared_list ss) = length-append (declared_in s) (declared_list ss) in
      let long : length (names_after w.scope s) ≤ length w.scope + length (declared_in s) = long_after w.scope s in (
        fits_stmt w round s entries around (omega arith) (and_left (is_built s) (list_is_built ss) built) (each_left Keeps (in_stmt w s) (in_list (spot_after w s) ss) k),
        fits_list (with_names w (names_after w.scope s)) round ss entries (around_after w round s around) (omega arith) (and_right (is_built s) (list_is_built ss) built) (behind_head w s ss k),
      )
