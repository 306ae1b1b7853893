-- The law of a leaf loop where it stands among statements.
use Rattle.std.proofs.Common.{◌≡◌, ℕ, suc, ◌<◌, ◌≤◌, All, List, [], ◌∷◌, ◌++◌, length, take}
use Rattle.std.proofs.Common.{false, true, refl, ap, sym, subst, arith}
use Rattle.std.specs.Prelude.{ℤ}
use Rattle.std.proofs.lemmas.List.Elements.{All-cons, All-nil}
use Rattle.std.specs.List.{AllByRecursion}
use Rattle.loop_syntax.specs.declared.ParLoop.{ParLoop}
use Rattle.loop_syntax.specs.declared.Program.{Program}
use Rattle.loop_syntax.specs.declared.Reduce.{Reduce}
use Rattle.loop_syntax.specs.declared.Stmt.TheVariants.{Par}
use Rattle.loop_rules.specs.Names.{is_in}
use Rattle.loop_meaning.specs.Calls.{call_at}
use Rattle.loop_meaning.specs.declared.value.Variable.{Variable}
use Rattle.loop_meaning.specs.State as meaning
use Rattle.loop_meaning.specs.Statements.{run, run_list}
use Rattle.tp_value.specs.declared.limits.TheConstants.{MAX_CALL_DEPTH, MAX_PAR_NESTING}
use Rattle.tp_value.specs.declared.Op.{Op}
use Rattle.tpal_syntax.specs.declared.instructions.Alu.TheVariants as alu
use Rattle.tpal_syntax.specs.declared.instructions.Instr.{Instr}
use Rattle.tpal_syntax.specs.declared.instructions.Instr.TheVariants as instr
use Rattle.tpal_syntax.specs.declared.instructions.Term.{Term}
use Rattle.tpal_syntax.specs.declared.instructions.Value.TheVariants as value
use Rattle.tpal_syntax.specs.declared.notes.Note.TheVariants as note
use Rattle.tpal_syntax.specs.declared.sites.LoopSite.{LoopSite}
use Rattle.tpal_syntax.specs.Conditions.{is_ready}
use Rattle.tpal_syntax.specs.Listing.{Listing}
use Rattle.tpal_machine.specs.Reading.{block_at, note_of, target_of}
use Rattle.expr_lower.specs.declared.scope.Scope.{Scope}
use Rattle.expr_lower.specs.Scopes.{HasCell, offset_of}
use Rattle.expr_lower.specs.Standing.{AreAt}
use Rattle.frame_machine.specs.Iterating.{body_setting}
use Rattle.handler_gen.specs.Blocks.{dispatch_block}
use Rattle.tpal_syntax.specs.declared.sites.LeafSite.{LeafSite}
use Rattle.handler_gen.specs.LeafCuts.{CutsLeaf, StartsLeaf}
use Rattle.handler_gen.specs.LeafSites.{head_label, reload_label, start_label, stored_loop}
use Rattle.handler_gen.specs.LoopCuts.{IsRoundLoop}
use Rattle.handler_gen.specs.Sites.{over_label}
use Rattle.handler_gen.proofs.LeafCutting.{cuts_leaf, starts_leaf}
use Rattle.handler_gen.proofs.LeafStores.{cells_with, own_cells}
use Rattle.handler_gen.proofs.Offsets.{cells_of}
use Rattle.scene_laws.specs.Code.{Computes, IsCell, IsFreeCell, Opens, OpensAs, load, store, to}
use Rattle.scene_laws.specs.Layout.{Activation, bound_cell, value_cell}
use Rattle.scene_laws.specs.Names.{level_of}
use Rattle.scene_laws.specs.LeafMarked.{IsLeafAt, leaf_turn}
use Rattle.scene_laws.specs.Names.{Sees}
use Rattle.scene_laws.specs.Round.{Round, leaf_round}
use Rattle.scene_laws.specs.Sites.{accs_of}
use Rattle.scene_laws.proofs.Cuts.ReducedCells.{is_named}
use Rattle.par_laws.proofs.LeafPars.LeafLaws.{leaf_law}
use Rattle.par_laws.proofs.LeafPars.LeafLoops.{LeafBlocks}
use Rattle.par_laws.proofs.LeafPars.LeafTurning.{LeafAt, bound_are, cursor_are, kept}
use Rattle.par_laws.proofs.LeafPars.LeafTurning.{leaf_turning}
use Rattle.par_laws.proofs.QuietPars.QuietSides.{AllowsCuts}
use Rattle.par_laws.proofs.QuietPars.QuietStatements.{accs_may, admits_turning}
use Rattle.par_laws.proofs.QuietPars.Turning.{ParAt, rec_is}
use Rattle.form_laws.proofs.Premises.Admitting.{Admits}
use Rattle.scene_laws.proofs.Scenes.Moves.{calm}
use Rattle.scene_laws.proofs.Scenes.Results.{Result, result, then}
use Rattle.scene_laws.proofs.Scenes.Scene.{Owed, OwedSeen, Scene}
use Rattle.scene_laws.proofs.Scenes.Values.{ExprLaw}
use Rattle.scene_laws.proofs.Scenes.Variables.{var_names}
use Rattle.scene_laws.proofs.Scenes.Levels.{at_level}
use Rattle.form_laws.proofs.Premises.Around.{modes_at}
use Rattle.form_laws.proofs.Premises.Cutting.{MayCut, ProgramRules}
use Rattle.form_laws.proofs.Premises.Occurring.{itself}
use Rattle.form_laws.proofs.Premises.Permitting.{PermitsOne}
use Rattle.form_laws.proofs.Premises.Serving.{serves_at}
use Rattle.scene_laws.proofs.Scenes.Seeing.{cell_of_level}

-- the variables that are reduced have cells below those of the variable behind them all
accs_low : (scope : Scope) (names tables : List (List ℕ)) → Sees scope names tables
    → (rs : List Reduce) → AllByRecursion (λ (r : Reduce). HasCell scope r.target.text.items) rs
    → All (λ c. c < value_cell (suc (length names))) (cells_of (accs_of scope rs))
accs_low scope names tables sees [] seen = All-nil (λ (c : ℕ). c < value_cell (suc (length names)))
accs_low scope names tables sees (r ∷ rs) seen =
    let x : List ℕ = r.target.text.items in
    let in_x : is_in names x ≡ true = is_named scope names tables sees x seen.0 in
    let is : offset_of scope x ≡ value_cell (level_of names x) =
    cell_of_level scope names tables sees x in_x in
    let below : level_of names x < length names = (at_level names x in_x).0 in
    All-cons (λ (c : ℕ). c < value_cell (suc (length names))) (offset_of scope x)
    (cells_of (accs_of scope rs)) (omega (arith, is, below))
    (accs_low scope names tables sees rs seen.1)

module _ (code : Listing) (heartbeat z : ℕ) (act : Activation) (p : Program) (fuel room : ℕ)
    (expr_law : ExprLaw code heartbeat) (rules : ProgramRules p act.tables)
    (dispatches : AreAt code act.dispatch (dispatch_block act.dispatch ∷ []))
    (few : room ≤ MAX_CALL_DEPTH) (S : Scene code heartbeat z)
    (round : Round) (names : List (List ℕ))
    (admits : Admits code heartbeat z room S round names) (k : meaning.State → Result)
    (l : ParLoop) (site : LeafSite) (check start exit : ℕ)
    (permits : PermitsOne code heartbeat z p act.dispatch S names (Par l))
    (shallow : round.depth < MAX_PAR_NESTING) (room_left : length names < act.most)
    (free : AllByRecursion
    (λ (r : Reduce). IsFreeCell code act names round.fixed r.target.text.items) l.reduces.items)
  where
    -- the body of an iteration, in whatever scene it runs
    abbrev BodyOwes : List (List ℕ) → List Instr → Term → Type 1
    BodyOwes inner instrs end =
        (C : Scene code heartbeat z)
        → Admits code heartbeat z room C (leaf_round round names l.reduces.items site)
        (names ++ l.var.text.items ∷ []) → (f : meaning.State → Result)
        → OwedSeen code heartbeat z act fuel C inner (leaf_turn site)
        (to (over_label (stored_loop site).label)) f
        → OwedSeen code heartbeat z act fuel C (names ++ l.var.text.items ∷ []) instrs end
        (λ st. then (result (run_list (body_setting p fuel room l) l.body.items st)) f)

    pub leaf_statement : S.registers ≡ [] → (here second instrs again more : List Instr)
        (last half end : Term)
        → Computes code act [] names l.from 0 here
        (store (value_cell (length names)) (value.Reg 0) ∷ second)
        → Computes code act [] names l.to 0 second
        (store (bound_cell (length names)) (value.Reg 0) ∷ load 1 (value_cell (length names))
        ∷ instr.Calc 2 1 alu.Lt (value.Reg 0) ∷ instr.IfJump 2 check ∷ [])
        → IsLeafAt code act names l round.depth check start exit site
        → Opens code start (instr.Tick ∷ instrs) last
        → OpensAs code (note.Ready site.label) (head_label site) (instr.Tick ∷ again) half
        → Opens code exit more end
        → (inner : List (List ℕ)) → take (length names) inner ≡ names
        → Owed code heartbeat z act fuel S names more end k
        → BodyOwes inner instrs last → BodyOwes inner again half
        → Owed code heartbeat z act fuel S names here (to exit)
        (λ st. then (result (run
        (record { reduces = round.reduces; fuel = fuel; call = call_at p.funcs.items fuel room })
        (Par l) st)) k)
    leaf_statement none here second instrs again more last half end from_code to_code leaf begins
        ready ends inner inner_first post first_owes again_owes =
        leaf_law heartbeat z at S admits.lowest k accs_below fuel p room round.reduces expr_law
        inner inner_first blocks allows cuts starts calm_start calm_reload none check leaf.wide here
        second more end from_code to_code leaf.begins leaf.too_wide ends post
        (λ vs named tall m j f after_it. first_owes (inside vs named m j)
        (admits_inside vs named m j) f after_it)
        (λ vs named tall m j f after_it. again_owes (inside vs named m j)
        (admits_inside vs named m j) f after_it)
      where
        q : ParAt code act
        q = record {
          names = names;
          loop = l;
          depth = round.depth;
          site = stored_loop site;
          modes = modes_at permits.around;
          nested = shallow;
          fits = room_left;
          is_site = leaf.is_site;
        }

        at : LeafAt code act
        at = record { q = q; leaf = site; right = leaf.right; is = refl }

        -- the variables that are reduced stand below the loop's own
        accs_below : All (λ c. c < value_cell (suc (length names))) (cells_with (kept at))
        accs_below =
            let low : ℕ → Type 0 = λ c. c < value_cell (suc (length names)) in
            let accs_are : site.accs ≡ accs_of leaf.is_site.scope l.reduces.items =
            ap (λ (s : LoopSite). s.accs) leaf.is_site.is in
            subst (All low) (sym (own_cells site leaf.right))
            (All-cons low site.cursor (site.bound ∷ cells_of site.accs)
            (omega (arith, cursor_are at))
            (All-cons low site.bound (cells_of site.accs) (omega (arith, bound_are at))
            (subst (λ (accs : List (ℕ × Op)). All low (cells_of accs)) (sym accs_are)
            (accs_low leaf.is_site.scope names act.tables leaf.is_site.sees l.reduces.items
            leaf.is_site.reduced))))

        calm_start : is_ready (note_of (block_at code (start_label site))) ≡ false
        calm_start = ap (λ b. is_ready (note_of b)) leaf.start.0

        calm_reload : is_ready (note_of (block_at code (reload_label site.label))) ≡ false
        calm_reload = ap (λ b. is_ready (note_of b)) leaf.handler.1.0

        round_it : IsRoundLoop code (stored_loop site)
        round_it = record {
          target = ap (λ b. target_of (note_of b)) leaf.is_site.join.0;
          first = calm_start;
          none = calm code _ [] (to (over_label (stored_loop site).label)) leaf.none;
        }

        cuts : CutsLeaf code heartbeat site
        cuts = cuts_leaf code heartbeat site leaf.right leaf.handler round_it

        starts : StartsLeaf code heartbeat site start
        starts = starts_leaf code heartbeat site leaf.right start leaf.start.0

        blocks : LeafBlocks code act at
        blocks = record {
          first = start;
          exit = exit;
          instrs = instrs;
          last = last;
          again = again;
          half = half;
          begins = begins;
          ready = ready;
          over = leaf.over;
        }

        cut : MayCut p permits.around names l
        cut = permits.cuts names l permits.around itself

        changes : (x : List ℕ) (cell : ℕ) → IsCell code act names round.fixed x cell → S.may cell
        changes x cell is =
            subst (λ (c : ℕ). S.may c) (sym is.at_level) (admits.allows is.level is.free)

        allows : AllowsCuts code heartbeat z act q S p room
        allows = record {
          may = record {
            calls = few;
            rules = cut.lawful;
            funcs = rules.funcs;
            par = cut.ranged;
            never = rules.never;
            stays = cut.stays;
            differ = rules.differ;
            distinct = rules.distinct;
          };
          blocks = record {
            dispatches = subst (λ (label : ℕ). AreAt code label (dispatch_block label ∷ []))
                (sym permits.diverts) dispatches;
            child = calm_start;
            none = leaf.none;
          };
          opened = permits.opened;
          serves = λ w s vs named kept_it fixed.
              serves_at code heartbeat z S p l names w s vs named kept_it fixed permits.around
              permits.served cut.lawful cut.stands;
          free_rec = subst (λ (c : ℕ). S.may c)
              (sym (rec_is code heartbeat z act q S admits.lowest))
              (admits.controls round.depth (omega arith) shallow).1;
          free_accs = subst (λ (accs : List (ℕ × Op)). All S.may (cells_of accs))
              (sym (ap (λ (s : LoopSite). s.accs) leaf.is_site.is))
              (accs_may code act leaf.is_site.scope names leaf.is_site.sees S.may round.fixed
              changes l.reduces.items leaf.is_site.reduced free);
        }

        inside : (vs : List Variable) → var_names vs ≡ names → ℤ → ℤ
            → Scene code heartbeat z
        inside vs named m j =
            leaf_turning heartbeat z at S admits.lowest k vs named accs_below m j

        admits_inside : (vs : List Variable) (named : var_names vs ≡ names) (m j : ℤ)
            → Admits code heartbeat z room (inside vs named m j)
            (leaf_round round names l.reduces.items site) (names ++ l.var.text.items ∷ [])
        admits_inside vs named m j =
            let quiet = admits_turning code heartbeat z room act q S round refl admits k true vs
            named m j in
            record {
              levels = quiet.levels;
              lowest = quiet.lowest;
              allows = quiet.allows;
              registers = refl;
              controls = quiet.controls;
            }
