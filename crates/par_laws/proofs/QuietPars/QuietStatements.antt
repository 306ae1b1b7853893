-- The law of the code of a quiet `par`, as the law of statements uses it.
use Rattle.std.proofs.Common.{◌≡◌, ◌≢◌, ℕ, ◌<◌, ◌≤◌, Bool, true, List, [], ◌∷◌, ◌++◌, All}
use Rattle.std.proofs.Common.{length, take, refl, sym, ap, subst, ◌∙◌, arith}
use Rattle.std.proofs.lemmas.List.Elements.{All-cons, All-nil}
use Rattle.std.specs.Prelude.{ℤ}
use Rattle.std.specs.List.{AllByRecursion}
use Rattle.std.proofs.lemmas.List.{length-append}
use Rattle.tp_value.specs.declared.limits.TheConstants.{MAX_CALL_DEPTH, MAX_PAR_NESTING}
use Rattle.loop_syntax.specs.declared.ParLoop.{ParLoop}
use Rattle.loop_syntax.specs.declared.Program.{Program}
use Rattle.loop_syntax.specs.declared.Reduce.{Reduce}
use Rattle.loop_syntax.specs.declared.Stmt.TheVariants.{Par}
use Rattle.loop_meaning.specs.declared.value.Variable.{Variable}
use Rattle.loop_meaning.specs.Calls.{call_at}
use Rattle.loop_meaning.specs.State as meaning
use Rattle.loop_meaning.specs.Statements.{run, run_list}
use Rattle.loop_rules.specs.Names.{is_in}
use Rattle.tp_value.specs.declared.Op.{Op}
use Rattle.tpal_syntax.specs.declared.instructions.Alu.TheVariants as alu
use Rattle.tpal_syntax.specs.declared.instructions.Instr.{Instr}
use Rattle.tpal_syntax.specs.declared.instructions.Instr.TheVariants as instr
use Rattle.tpal_syntax.specs.declared.instructions.Term.{Term}
use Rattle.tpal_syntax.specs.declared.instructions.Term.TheVariants as term
use Rattle.tpal_syntax.specs.declared.instructions.Value.TheVariants as value
use Rattle.tpal_syntax.specs.declared.notes.Note.TheVariants as note
use Rattle.tpal_syntax.specs.declared.sites.LoopSite.{LoopSite}
use Rattle.tpal_syntax.specs.Listing.{Listing}
use Rattle.expr_lower.specs.declared.scope.Scope.{Scope}
use Rattle.expr_lower.specs.Scopes.{HasCell, offset_of}
use Rattle.expr_lower.specs.Standing.{AreAt}
use Rattle.frame_machine.specs.Iterating.{body_setting}
use Rattle.handler_gen.specs.Blocks.{dispatch_block}
use Rattle.handler_gen.specs.Sites.{over_label}
use Rattle.handler_gen.proofs.Offsets.{cells_of}
use Rattle.join_gen.specs.Blocks.{loads_from}
use Rattle.scene_laws.specs.Code.{Computes, IsCell, IsFreeCell, Opens, OpensAs, load, next_turn}
use Rattle.scene_laws.specs.Code.{store, to}
use Rattle.scene_laws.specs.Layout.{Activation, bound_cell, cursor_cell, rec_cell, value_cell}
use Rattle.scene_laws.specs.Marked.{IsQuietSite}
use Rattle.scene_laws.specs.Names.{Sees}
use Rattle.scene_laws.specs.Round.{Round, par_round, unreduced}
use Rattle.scene_laws.specs.Sites.{accs_of}
use Rattle.scene_laws.proofs.Scenes.Moves.{calm}
use Rattle.form_laws.proofs.Premises.Admitting.{Admits}
use Rattle.form_laws.proofs.Premises.Around.{modes_at}
use Rattle.scene_laws.proofs.Counts.Lists.{all_behind}
use Rattle.form_laws.proofs.Premises.Cutting.{MayCut, ProgramRules}
use Rattle.form_laws.proofs.Premises.Occurring.{itself}
use Rattle.form_laws.proofs.Premises.Permitting.{PermitsOne}
use Rattle.form_laws.proofs.Premises.Serving.{serves_at}
use Rattle.par_laws.proofs.QuietPars.QuietLaws.{quiet_law, side_opens}
use Rattle.par_laws.proofs.QuietPars.QuietLoops.{TurnBlocks}
use Rattle.par_laws.proofs.QuietPars.QuietSides.{AllowsCuts}
use Rattle.scene_laws.proofs.Cuts.ReducedCells.{is_named}
use Rattle.scene_laws.proofs.Scenes.Results.{Result, result, then}
use Rattle.scene_laws.proofs.Scenes.Scene.{Owed, Scene}
use Rattle.scene_laws.proofs.Scenes.Seeing.{cell_of_level}
use Rattle.par_laws.proofs.QuietPars.Turned.{T}
use Rattle.par_laws.proofs.QuietPars.Turning.{MayTurn, ParAt, rec_is}
use Rattle.scene_laws.proofs.Scenes.Values.{ExprLaw}
use Rattle.scene_laws.proofs.Scenes.Variables.{var_names}

-- the first ones of two lists, one behind the other
pub all_front : {X : Type 0} (P : X → Type 0) (xs ys : List X) → AllByRecursion P (xs ++ ys)
    → AllByRecursion P xs
all_front P [] ys all = tt
all_front P (x ∷ xs) ys all = (all.0, all_front P xs ys all.1)

-- levels that differ have cells that differ
pub other_cells : (x : ℕ) (levels : List ℕ) → AllByRecursion (λ j. j ≢ x) levels
    → AllByRecursion (λ j. value_cell x ≢ value_cell j) levels
other_cells x [] all = tt
other_cells x (j ∷ js) all =
    (λ (e : value_cell x ≡ value_cell j). all.0 (omega (arith, e)), other_cells x js all.1)

-- a cell below those of the variables is none of theirs
pub below_cells : (c : ℕ) (levels : List ℕ) → c < value_cell 0
    → AllByRecursion (λ j. c ≢ value_cell j) levels
below_cells c [] low = tt
below_cells c (j ∷ js) low =
    (λ (e : c ≡ value_cell j). absurd (omega (arith, e, low)), below_cells c js low)

module _ (code : Listing) (heartbeat z room : ℕ) (act : Activation) (q : ParAt code act)
    (S : Scene code heartbeat z) (round : Round) (depth_is : round.depth ≡ q.depth)
    (admits : Admits code heartbeat z room S round q.names) (k : meaning.State → Result)
    (marked : Bool) (vs : List Variable) (named : var_names vs ≡ q.names) (m j : ℤ) where
  abbrev turning : Scene code heartbeat z
  turning = T code heartbeat z act q S admits.lowest k vs named marked m j

  abbrev May : ℕ → Type 0
  May = MayTurn code heartbeat z act q S admits.lowest

  control : (c : ℕ) → c < value_cell 0 → c ≢ rec_cell q.depth → S.may c → May c
  control c below other may = record {
    no_next = λ e. absurd (omega (arith, e, below));
    no_bound = λ e. absurd (omega (arith, e, below));
    no_rec = λ e. other (omega (arith, e, rec_is code heartbeat z act q S admits.lowest));
    free = below_cells c _ below;
    may = may;
  }

  -- in the body of a quiet `par`
  pub admits_turning : Admits code heartbeat z room turning
      (par_round round q.names q.loop.reduces.items) (q.names ++ q.loop.var.text.items ∷ [])
  admits_turning = record {
    registers = refl;
    levels = admits.levels;
    lowest = omega (arith, length-append q.names (q.loop.var.text.items ∷ []));
    allows = λ y free. record {
      no_next = λ e. free.0 (omega (arith, e));
      no_bound = λ e. absurd (omega (arith, e));
      no_rec = λ e. absurd (omega (
        arith,
        e,
        rec_is code heartbeat z act q S admits.lowest,
        q.nested,
      ));
      free = other_cells y (unreduced q.names 0 q.loop.reduces.items)
          (all_front (λ i. i ≢ y) (unreduced q.names 0 q.loop.reduces.items) round.fixed free.1);
      may = admits.allows y (all_behind (λ i. i ≢ y) (unreduced q.names 0 q.loop.reduces.items)
          round.fixed free.1);
    };
    controls = λ d from below. (
      control (cursor_cell d) (omega (arith, below)) (λ e. absurd (omega (arith, e)))
          (admits.controls d (omega (arith, from)) below).0,
      control (rec_cell d) (omega (arith, below)) (λ e. absurd (omega (arith, e, from, depth_is)))
          (admits.controls d (omega (arith, from)) below).1,
    );
  }

-- ---- the variables that it reduces may be set

module _ (code : Listing) (act : Activation) (scope : Scope) (names : List (List ℕ))
    (sees : Sees scope names act.tables) (may : ℕ → Type 0) (fixed : List ℕ)
    (changes : (x : List ℕ) (cell : ℕ) → IsCell code act names fixed x cell → may cell) where
  cell_may : (x : List ℕ) → HasCell scope x → IsFreeCell code act names fixed x
      → may (offset_of scope x)
  cell_may x has free =
      let is : IsCell code act names fixed x free.cell = free.is in
      let in_x : is_in names x ≡ true = is_named scope names act.tables sees x has in
      let same : free.cell ≡ offset_of scope x =
      is.is ∙ (cell_of_level is.scope names act.tables is.sees x in_x
      ∙ sym (cell_of_level scope names act.tables sees x in_x)) in
      subst may same (changes x free.cell is)

  pub accs_may : (rs : List Reduce)
      → AllByRecursion (λ (r : Reduce). HasCell scope r.target.text.items) rs
      → AllByRecursion (λ (r : Reduce). IsFreeCell code act names fixed r.target.text.items) rs
      → All may (cells_of (accs_of scope rs))
  accs_may [] seen free = All-nil may
  accs_may (r ∷ rs) seen free =
      All-cons may (offset_of scope r.target.text.items) (cells_of (accs_of scope rs))
      (cell_may r.target.text.items seen.0 free.0) (accs_may rs seen.1 free.1)

-- ---- the statement

module _ (code : Listing) (heartbeat z : ℕ) (act : Activation) (p : Program) (fuel room : ℕ)
    (expr_law : ExprLaw code heartbeat) (rules : ProgramRules p act.tables)
    (dispatches : AreAt code act.dispatch (dispatch_block act.dispatch ∷ []))
    (few : room ≤ MAX_CALL_DEPTH) (S : Scene code heartbeat z)
    (round : Round) (names : List (List ℕ))
    (admits : Admits code heartbeat z room S round names) (k : meaning.State → Result)
    (l : ParLoop) (site : LoopSite) (check start head exit : ℕ)
    (permits : PermitsOne code heartbeat z p act.dispatch S names (Par l))
    (shallow : round.depth < MAX_PAR_NESTING) (room_left : length names < act.most)
    (free : AllByRecursion
    (λ (r : Reduce). IsFreeCell code act names round.fixed r.target.text.items) l.reduces.items)
  where
    -- the body of an iteration, in whatever scene it runs
    abbrev BodyOwes : List (List ℕ) → List Instr → Term → Type 1
    BodyOwes inner instrs end =
        (C : Scene code heartbeat z)
        → Admits code heartbeat z room C (par_round round names l.reduces.items)
        (names ++ l.var.text.items ∷ []) → (f : meaning.State → Result)
        → Owed code heartbeat z act fuel C inner (next_turn (length names) head)
        (to (over_label site.label)) f
        → Owed code heartbeat z act fuel C (names ++ l.var.text.items ∷ []) instrs end
        (λ st. then (result (run_list (body_setting p fuel room l) l.body.items st)) f)

    pub quiet_statement : S.registers ≡ [] → (here second instrs again more : List Instr)
        (last half end : Term) → Computes code act [] names l.from 0 here (store
        (value_cell (length names)) (value.Reg 0) ∷ second)
        → Computes code act [] names l.to 0 second
        (store (bound_cell (length names)) (value.Reg 0) ∷ load 1 (value_cell (length names))
        ∷ instr.Calc 2 1 alu.Lt (value.Reg 0) ∷ instr.IfJump 2 check ∷ [])
        → IsQuietSite code act names l round.depth check start exit site
        → Opens code start (instr.Tick ∷ instrs) last
        → OpensAs code (note.Ready act.dispatch) head (instr.Tick ∷ again) half
        → Opens code exit more end
        → (inner : List (List ℕ)) → take (length names) inner ≡ names
        → Owed code heartbeat z act fuel S names more end k
        → BodyOwes inner instrs last → BodyOwes inner again half
        → Owed code heartbeat z act fuel S names here (to exit)
        (λ st. then (result (run
        (record { reduces = round.reduces; fuel = fuel; call = call_at p.funcs.items fuel room })
        (Par l) st)) k)
    quiet_statement none here second instrs again more last half end from_code to_code quiet_site
        begins ready ends inner inner_first post first_owes again_owes =
        quiet_law code heartbeat z act q S admits.lowest k fuel p room round.reduces expr_law inner
        inner_first blocks allows quiet_site.child none check quiet_site.wide here second more end
        from_code to_code quiet_site.begins quiet_site.too_wide ends post
        (λ vs named m j f after_it. first_owes
        (T code heartbeat z act q S admits.lowest k vs named true m j)
        (admits_turning code heartbeat z room act q S round refl admits k true vs named m j) f
        after_it)
        (λ vs named m j f after_it. again_owes
        (T code heartbeat z act q S admits.lowest k vs named true m j)
        (admits_turning code heartbeat z room act q S round refl admits k true vs named m j) f
        after_it)
      where
        q : ParAt code act
        q = record {
          names = names;
          loop = l;
          depth = round.depth;
          site = site;
          modes = modes_at permits.around;
          nested = shallow;
          fits = room_left;
          is_site = quiet_site.is_site;
        }

        cut : MayCut p permits.around names l
        cut = permits.cuts names l permits.around itself

        blocks : TurnBlocks code act q S.dispatch
        blocks = record {
          first = start;
          head = head;
          exit = exit;
          instrs = instrs;
          last = last;
          again = again;
          half = half;
          begins = begins;
          ready = subst (λ (label : ℕ). OpensAs code (note.Ready label) head
              (instr.Tick ∷ again) half)
              (sym permits.diverts) ready;
          over = quiet_site.over;
          side_instrs = loads_from 0 site.accs;
          side_end = term.Join 24;
          side = side_opens code act q;
        }

        changes : (x : List ℕ) (cell : ℕ) → IsCell code act names round.fixed x cell → S.may cell
        changes x cell is =
            subst (λ (c : ℕ). S.may c) (sym is.at_level) (admits.allows is.level is.free)

        allows : AllowsCuts code heartbeat z act q S p room
        allows = record {
          may = record {
            calls = few;
            rules = cut.lawful;
            funcs = rules.funcs;
            par = cut.ranged;
            never = rules.never;
            stays = cut.stays;
            differ = rules.differ;
            distinct = rules.distinct;
          };
          blocks = record {
            dispatches = subst (λ (label : ℕ). AreAt code label (dispatch_block label ∷ []))
                (sym permits.diverts) dispatches;
            child = calm code _ [] (to start) quiet_site.child;
            none = quiet_site.none;
          };
          opened = permits.opened;
          serves = λ w s vs named kept fixed.
              serves_at code heartbeat z S p l names w s vs named kept fixed permits.around
              permits.served cut.lawful cut.stands;
          free_rec = subst (λ (c : ℕ). S.may c)
              (sym (rec_is code heartbeat z act q S admits.lowest))
              (admits.controls round.depth (omega arith) shallow).1;
          free_accs = subst (λ (accs : List (ℕ × Op)). All S.may (cells_of accs))
              (sym (ap (λ (s : LoopSite). s.accs) quiet_site.is_site.is))
              (accs_may code act quiet_site.is_site.scope names quiet_site.is_site.sees S.may
              round.fixed changes l.reduces.items quiet_site.is_site.reduced free);
        }
