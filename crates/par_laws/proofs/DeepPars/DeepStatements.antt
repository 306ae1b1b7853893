-- The law of the code of a `par` that may be cut in the middle of an iteration, as the law of
-- statements uses it.
use Rattle.std.proofs.Common.{◌≡◌, ◌≢◌, ℕ, ◌+◌, ◌<◌, ◌≤◌, List, [], ◌∷◌, ◌++◌, All, length, take}
use Rattle.std.proofs.Common.{refl}
use Rattle.std.proofs.Common.{Some, sym, ap, subst, ◌∙◌, arith}
use Rattle.std.specs.List.{AllByRecursion}
use Rattle.std.proofs.lemmas.List.{length-append}
use Rattle.tp_value.specs.declared.limits.TheConstants.{MAX_CALL_DEPTH, MAX_PAR_NESTING}
use Rattle.tp_value.specs.declared.Op.{Op}
use Rattle.loop_syntax.specs.declared.ParLoop.{ParLoop}
use Rattle.loop_syntax.specs.declared.Program.{Program}
use Rattle.loop_syntax.specs.declared.Reduce.{Reduce}
use Rattle.loop_syntax.specs.declared.Stmt.TheVariants.{Par}
use Rattle.loop_meaning.specs.Calls.{call_at}
use Rattle.loop_meaning.specs.State as meaning
use Rattle.loop_meaning.specs.Statements.{run, run_list}
use Rattle.tpal_syntax.specs.declared.instructions.Alu.TheVariants as alu
use Rattle.tpal_syntax.specs.declared.instructions.Instr.{Instr}
use Rattle.tpal_syntax.specs.declared.instructions.Instr.TheVariants as instr
use Rattle.tpal_syntax.specs.declared.instructions.Term.{Term}
use Rattle.tpal_syntax.specs.declared.instructions.Term.TheVariants as term
use Rattle.tpal_syntax.specs.declared.instructions.Value.TheVariants as value
use Rattle.tpal_syntax.specs.declared.sites.LoopSite.{LoopSite}
use Rattle.tpal_syntax.specs.Listing.{Listing}
use Rattle.tpal_machine.specs.Reading.{block_at}
use Rattle.expr_lower.specs.Standing.{AreAt}
use Rattle.frame_machine.specs.Iterating.{body_setting}
use Rattle.frame_machine.specs.Lawful.{Callable}
use Rattle.handler_gen.specs.Blocks.{dispatch_block}
use Rattle.handler_gen.specs.Sites.{side_label, target_label}
use Rattle.handler_gen.proofs.Offsets.{cells_of}
use Rattle.join_gen.specs.Blocks.{loads_from, side_block}
use Rattle.scene_laws.specs.Code.{Computes, IsCell, IsFreeCell, Opens, load, store, to}
use Rattle.scene_laws.specs.DeepMarked.{IsDeepSite}
use Rattle.scene_laws.specs.Layout.{Activation, bound_cell, cursor_cell, rec_cell, value_cell}
use Rattle.scene_laws.specs.Marked.{IsSite}
use Rattle.scene_laws.specs.Round.{Round, par_round, unreduced}
use Rattle.form_laws.proofs.Premises.Admitting.{Admits}
use Rattle.form_laws.proofs.Premises.Around.{in_body, modes_at}
use Rattle.form_laws.proofs.Premises.Cutting.{MayCut, ProgramRules}
use Rattle.par_laws.proofs.DeepPars.DeepLaws.{Runs, deep_law, joins, over_owed}
use Rattle.par_laws.proofs.DeepPars.DeepHandles.{handles}
use Rattle.par_laws.proofs.DeepPars.DeepRunning.{Handles, MayRunning, running}
use Rattle.par_laws.proofs.DeepPars.DeepScenes.{Deep, DeepAt, bound_is, cursor_is, rec_is}
use Rattle.par_laws.proofs.DeepPars.DeepServed.{served_running}
use Rattle.form_laws.proofs.Premises.Keeps.{called_in_safe}
use Rattle.scene_laws.proofs.Counts.Lists.{all_behind}
use Rattle.form_laws.proofs.Premises.Occurring.{in_par, itself}
use Rattle.form_laws.proofs.Premises.Permitting.{PermitsAll, PermitsOne}
use Rattle.par_laws.proofs.QuietPars.QuietStatements.{accs_may, all_front, below_cells}
use Rattle.par_laws.proofs.QuietPars.QuietStatements.{other_cells}
use Rattle.scene_laws.proofs.Scenes.Results.{Result, result, then}
use Rattle.scene_laws.proofs.Scenes.Scene.{Owed, Scene}
use Rattle.form_laws.proofs.Premises.Serving.{meets_at, serves_at}
use Rattle.scene_laws.proofs.Scenes.Values.{ExprLaw}

-- ---- in the body

module _ {code : Listing} {heartbeat z : ℕ} {act : Activation} (d : Deep code heartbeat z act)
    (room : ℕ) (round : Round) (depth_is : round.depth ≡ d.q.depth)
    (admits : Admits code heartbeat z room d.S round d.q.names) where
  control : (c : ℕ) → 3 ≤ c → c < value_cell 0 → c ≢ cursor_cell d.q.depth → c ≢ rec_cell d.q.depth
      → d.S.may c → MayRunning d c
  control c high below not_cursor not_rec may = record {
    no_next = λ e. absurd (omega (arith, e, below));
    no_bound = λ e. absurd (omega (arith, e, below, bound_is d));
    no_cursor = λ e. not_cursor (e ∙ cursor_is d);
    no_rec = λ e. not_rec (e ∙ rec_is d);
    no_levels = λ e. absurd (omega (arith, e, high));
    free = below_cells c _ below;
    may = may;
  }

  pub admits_running : (N : ℕ) (there : Handles d N)
      → Admits code heartbeat z room (running d N there)
      (par_round round d.q.names d.q.loop.reduces.items)
      (d.q.names ++ d.q.loop.var.text.items ∷ [])
  admits_running N there = record {
    registers = refl;
    levels = admits.levels;
    lowest = omega (arith, length-append d.q.names (d.q.loop.var.text.items ∷ []));
    allows = λ y free. record {
      no_next = λ e. free.0 (omega (arith, e));
      no_bound = λ e. absurd (omega (arith, e, bound_is d));
      no_cursor = λ e. absurd (omega (arith, e, cursor_is d, d.q.nested));
      no_rec = λ e. absurd (omega (arith, e, rec_is d, d.q.nested));
      no_levels = λ e. absurd (omega (arith, e));
      free = other_cells y (unreduced d.q.names 0 d.q.loop.reduces.items)
          (all_front (λ i. i ≢ y) (unreduced d.q.names 0 d.q.loop.reduces.items) round.fixed
          free.1);
      may = admits.allows y (all_behind (λ i. i ≢ y)
          (unreduced d.q.names 0 d.q.loop.reduces.items) round.fixed free.1);
    };
    controls = λ e from below. (
      control (cursor_cell e) (omega arith) (omega (arith, below))
          (λ same. absurd (omega (arith, same, from, depth_is)))
          (λ same. absurd (omega (arith, same)))
          (admits.controls e (omega (arith, from)) below).0,
      control (rec_cell e) (omega arith) (omega (arith, below))
          (λ same. absurd (omega (arith, same)))
          (λ same. absurd (omega (arith, same, from, depth_is)))
          (admits.controls e (omega (arith, from)) below).1,
    );
  }

-- ---- the statement

-- the block where a side ends
side_opens : (code : Listing) (act : Activation) (names : List (List ℕ)) (l : ParLoop)
    (depth cursor : ℕ) (site : LoopSite) → IsSite code act names l depth cursor site
    → Opens code (side_label site.label) (loads_from 0 site.accs) (term.Join 24)
side_opens code act names l depth cursor site is_site = record {
  block = side_block site;
  found =
      let same : target_label site.label + 1 + 1 ≡ side_label site.label = omega arith in
      subst (λ (label : ℕ). block_at code label ≡ Some (side_block site)) same is_site.join.1.1.0;
  noted = refl;
  body = refl;
  ends = refl;
}

module _ (code : Listing) (heartbeat z : ℕ) (act : Activation) (p : Program) (fuel room : ℕ)
    (expr_law : ExprLaw code heartbeat) (rules : ProgramRules p act.tables)
    (dispatches : AreAt code act.dispatch (dispatch_block act.dispatch ∷ []))
    (few : room ≤ MAX_CALL_DEPTH) (S : Scene code heartbeat z) (round : Round)
    (names : List (List ℕ)) (admits : Admits code heartbeat z room S round names)
    (k : meaning.State → Result) (l : ParLoop) (site : LoopSite) (check head turn exit : ℕ)
    (permits : PermitsOne code heartbeat z p act.dispatch S names (Par l))
    (shallow : round.depth < MAX_PAR_NESTING) (room_left : length names < act.most)
    (free : AllByRecursion
    (λ (r : Reduce). IsFreeCell code act names round.fixed r.target.text.items) l.reduces.items)
    (deep_site : IsDeepSite code act act.dispatch names l round.depth check head turn exit site)
  where
    -- the body of an iteration, in whatever scene it runs
    abbrev BodyOwes : List (List ℕ) → List Instr → Term → Type 1
    BodyOwes inner instrs end =
        (C : Scene code heartbeat z)
        → Admits code heartbeat z room C (par_round round names l.reduces.items)
        (names ++ l.var.text.items ∷ [])
        → PermitsAll code heartbeat z p act.dispatch C (names ++ l.var.text.items ∷ []) l.body.items
        → (f : meaning.State → Result) → Owed code heartbeat z act fuel C inner [] (to head) f
        → Owed code heartbeat z act fuel C (names ++ l.var.text.items ∷ []) instrs end
        (λ st. then (result (run_list (body_setting p fuel room l) l.body.items st)) f)

    cut : MayCut p permits.around names l
    cut = permits.cuts names l permits.around itself

    abbrev place : DeepAt code act S.dispatch
    place = record {
      names = names;
      loop = l;
      depth = round.depth;
      site = site;
      modes = modes_at permits.around;
      nested = shallow;
      fits = room_left;
      check = check;
      head = head;
      turn = turn;
      exit = exit;
      is_deep = subst (λ (label : ℕ). IsDeepSite code act label names l round.depth check head turn
          exit site) (sym permits.diverts) deep_site;
    }

    changes : (x : List ℕ) (cell : ℕ) → IsCell code act names round.fixed x cell → S.may cell
    changes x cell is =
        subst (λ (c : ℕ). S.may c) (sym is.at_level) (admits.allows is.level is.free)

    module _ (limited : S.fuel ≡ fuel) (tall : S.size ≤ act.size)
        (space : value_cell act.most ≤ act.size) where
      abbrev deep : Deep code heartbeat z act
      deep = record {
        S = S;
        q = place;
        k = k;
        p = p;
        room = room;
        fuel = fuel;
        lowest = admits.lowest;
        limited = limited;
        tall = tall;
        space = space;
        dispatches = subst (λ (label : ℕ). AreAt code label (dispatch_block label ∷ []))
            (sym permits.diverts) dispatches;
        opened = permits.opened;
        free_cursor = subst (λ (c : ℕ). S.may c)
            (sym (ap (λ (s : LoopSite). s.cursor) deep_site.is_site.is))
            (admits.controls round.depth (omega arith) shallow).0;
        free_rec = subst (λ (c : ℕ). S.may c)
            (sym (ap (λ (s : LoopSite). s.rec) deep_site.is_site.is))
            (admits.controls round.depth (omega arith) shallow).1;
        free_accs = subst (λ (accs : List (ℕ × Op)). All S.may (cells_of accs))
            (sym (ap (λ (s : LoopSite). s.accs) deep_site.is_site.is))
            (accs_may code act deep_site.is_site.scope names deep_site.is_site.sees S.may
            round.fixed changes l.reduces.items deep_site.is_site.reduced free);
        serves = λ w s vs named kept fixed.
            serves_at code heartbeat z S p l names w s vs named kept fixed permits.around
            permits.served cut.lawful cut.stands;
        meets = λ w s vs named kept fixed.
            meets_at code heartbeat z S p l names w s vs named kept fixed permits.around
            permits.served cut.lawful cut.stands;
        early = permits.served.early;
        calls = few;
        rules = cut.lawful;
        funcs = rules.funcs;
        par = cut.ranged;
        never = rules.never;
        stays = cut.stays;
        differ = rules.differ;
        distinct = rules.distinct;
      }

      -- what its body permits
      permits_running : (N : ℕ) (there : Handles deep N)
          → PermitsAll code heartbeat z p act.dispatch (running deep N there)
          (names ++ l.var.text.items ∷ []) l.body.items
      permits_running N there = record {
        opened = refl;
        diverts = permits.diverts;
        around = in_body permits.around l;
        served = served_running deep N there permits.around refl;
        cuts = λ outside o near occurs. permits.cuts outside o near (in_par l occurs);
        calls = λ f called. called_in_safe l.reduces.items
            (Callable p (modes_at (in_body permits.around l))) _ l.reduces.items
            (modes_at (in_body permits.around l)) f called cut.lawful.body;
      }

    pub deep_statement : S.registers ≡ [] → (here second instrs more : List Instr) (half end : Term)
        → Computes code act [] names l.from 0 here (store (value_cell (length names))
        (value.Reg 0) ∷ second)
        → Computes code act [] names l.to 0 second
        (store (bound_cell (length names)) (value.Reg 0) ∷ load 1 (value_cell (length names))
        ∷ instr.Calc 2 1 alu.Lt (value.Reg 0) ∷ instr.IfJump 2 check ∷ [])
        → Opens code turn (instr.Tick ∷ instrs) half → Opens code exit more end
        → (inner : List (List ℕ)) → take (length names) inner ≡ names
        → Owed code heartbeat z act fuel S names more end k → BodyOwes inner instrs half
        → Owed code heartbeat z act fuel S names here (to exit)
        (λ st. then (result (run
        (record { reduces = round.reduces; fuel = fuel; call = call_at p.funcs.items fuel room })
        (Par l) st)) k)
    deep_statement none here second instrs more half end from_code to_code opens ends inner first
        post body_owes i st state shows stands =
        deep_law d expr_law round.reduces more end ends post (loads_from 0 site.accs) (term.Join 24)
        side instrs half opens inner first none here second from_code to_code runs i st state shows
        stands
      where
        d : Deep code heartbeat z act
        d = deep shows.limited shows.tall (omega (arith, shows.room, shows.top))

        side : Opens code (side_label site.label) (loads_from 0 site.accs) (term.Join 24)
        side =
            side_opens code act names l round.depth (cursor_cell round.depth) site deep_site.is_site

        runs : Runs d expr_law round.reduces more end ends post (loads_from 0 site.accs)
            (term.Join 24) side instrs half opens inner first
        runs N turns f after_it =
            body_owes (running d N there)
            (admits_running d room round refl admits N there)
            (permits_running shows.limited shows.tall (omega (arith, shows.room, shows.top)) N
            there)
            f after_it
          where
            there : Handles d N
            there = handles d N
                (joins d expr_law round.reduces more end ends post (loads_from 0 site.accs)
                (term.Join 24) side instrs half opens inner first) turns
                (over_owed d expr_law round.reduces more end ends post (loads_from 0 site.accs)
                (term.Join 24) side instrs half opens inner first)
