-- The code of a quiet `par` is written where that of its parts is.
use Rattle.std.proofs.Common.{◌≡◌, ℕ, suc, ◌+◌, true, List, [], ◌∷◌, ◌++◌, length}
use Rattle.std.proofs.Common.{refl, sym, ap, arith, subst, ◌∙◌, append-nil, append_assoc}
use Rattle.std.specs.Prelude.{pos}
use Rattle.std.specs.List.{list_any, AllByRecursion}
use Rattle.loop_syntax.specs.declared.Carry.{Carry}
use Rattle.loop_syntax.specs.declared.Carry.TheVariants as carry
use Rattle.loop_syntax.specs.declared.ParLoop.{ParLoop}
use Rattle.loop_syntax.specs.declared.Reduce.{Reduce}
use Rattle.loop_syntax.specs.declared.Stmt.{Stmt}
use Rattle.loop_syntax.specs.declared.Stmt.TheVariants.{Par}
use Rattle.tp_value.specs.declared.limits.TheConstants.{MAX_PAR_LENGTH}
use Rattle.tp_value.specs.declared.Place.{Place}
use Rattle.tp_value.specs.declared.TrapKind.TheVariants.{Wide}
use Rattle.tpal_syntax.specs.declared.blocks.Block.{Block}
use Rattle.tpal_syntax.specs.declared.instructions.Alu.TheVariants.{Eq, Le, Lt, Sub}
use Rattle.tpal_syntax.specs.declared.instructions.Instr.{Instr}
use Rattle.tpal_syntax.specs.declared.instructions.Instr.TheVariants as instr
use Rattle.tpal_syntax.specs.declared.instructions.Term.{Term}
use Rattle.tpal_syntax.specs.declared.instructions.Value.TheVariants as value
use Rattle.tpal_syntax.specs.declared.notes.Note.TheVariants as note
use Rattle.tpal_syntax.specs.declared.sites.LoopSite.{LoopSite}
use Rattle.tpal_syntax.specs.Listing.{Listing}
use Rattle.expr_lower.specs.declared.scope.Scope.{Scope}
use Rattle.expr_lower.specs.Bodies.{trap_block}
use Rattle.expr_lower.specs.Scopes.{HasTable, HasCell, offset_of}
use Rattle.expr_lower.specs.Standing.{AreAt}
use Rattle.expr_lower.proofs.Standing.{front, back}
use Rattle.handler_gen.specs.Blocks.{loop_handler_blocks}
use Rattle.handler_gen.specs.Sites.{IsLoopSite, first_label, is_of_cells, none_label, over_label}
use Rattle.handler_gen.specs.Sites.{prep_label, side_label, split_label, target_label}
use Rattle.join_gen.specs.Blocks.{loop_join_blocks}
use Rattle.loop_rules.specs.Names.{is_in}
use Rattle.frame_machine.specs.Lawful.{TargetsIn}
use Rattle.std.specs.Prelude.{IsTrue}
use Rattle.block_lower.specs.declared.body.Body.{Body}
use Rattle.block_lower.specs.declared.output.Output.{Output}
use Rattle.block_lower.specs.declared.repeat.Bound.TheVariants as bound
use Rattle.block_lower.specs.declared.repeat.Turns.{Turns}
use Rattle.block_lower.specs.declared.round.Round as told
use Rattle.block_lower.specs.Bodies.{entries, activation}
use Rattle.scene_laws.specs.Code.{OpensAs, Opens, IsFreeCell, Code, Codes, quiet_par_code, to}
use Rattle.scene_laws.specs.Code.{store, load, next_turn}
use Rattle.code_laws.specs.Fitting.{CanBeCut, IsFree}
use Rattle.scene_laws.specs.Layout.{value_cell, Activation, Entry}
use Rattle.block_lower.specs.Lowering.{BeginsPar, IsParBegun, WritesBounds, WritesSome}
use Rattle.block_lower.specs.Lowering.{WritesLength}
use Rattle.block_lower.specs.Lowering.{WritesBegin, WritesPrep, IsRoundQuiet, WritesSite}
use Rattle.block_lower.specs.Lowering.{IsQuietBegun, BeginsQuiet, EndsLoop, turn, Lowers}
use Rattle.block_lower.specs.Lowering.{LowersBody}
use Rattle.scene_laws.specs.Marked.{length_test, marked_begin, unmark, side_test, IsSite}
use Rattle.scene_laws.specs.Marked.{IsQuietSite}
use Rattle.scene_laws.specs.Names.{Sees, SeesAfter, StandFor}
use Rattle.scene_laws.specs.Quiet.{list_is_quiet}
use Rattle.scene_laws.specs.Round.{Round, par_round}
use Rattle.scene_laws.specs.Sites.{carried_table, carries_from, loop_site, rows_from}
use Rattle.scene_laws.specs.Sizes.{has_row}
use Rattle.block_lower.specs.Writing.{label, next_label, IsFresh, Pushes, Traps, Closes}
use Rattle.block_lower.specs.Writing.{Appends, Readies, Stands, Continues, Leads}
use Rattle.block_lower.proofs.Written.Fitting.{fit_of_vec}
use Rattle.block_lower.proofs.Written.Lowered.{cell_is}
use Rattle.block_lower.proofs.Written.LoweredLoops.{Bodied, bodied, par_is_round}
use Rattle.scene_laws.proofs.Scenes.Seeing.{as_long, seen_table, seen_variable}
use Rattle.block_lower.proofs.Written.Standing.{sees_bare, stand_bare}
use Rattle.block_lower.proofs.Written.Writing.{reopened, pushed, trapped, closed_block, fresh_opens}
use Rattle.block_lower.proofs.Written.Writing.{appended}

-- ---- the begin

pub length_written : (old calc first new : Output)
    → Pushes (instr.Calc 2 0 Sub (value.Reg 1) ∷ []) old calc
    → Pushes (instr.Calc 3 2 Lt (value.Int (pos 0)) ∷ instr.IfJump 3 (next_label old) ∷ []) calc
    first
    → Pushes (instr.Calc 3 2 Le (value.Int (pos MAX_PAR_LENGTH)) ∷ []) first new
    → WritesLength old new
length_written old calc first new one two three code more last c =
    pushed code old calc (instr.Calc 2 0 Sub (value.Reg 1) ∷ []) _ last one
    (pushed code calc first
    (instr.Calc 3 2 Lt (value.Int (pos 0)) ∷ instr.IfJump 3 (next_label old) ∷ []) _ last two
    (pushed code first new (instr.Calc 3 2 Le (value.Int (pos MAX_PAR_LENGTH)) ∷ []) more last three
    c))

pub begin_written : (place : Place) (site : LoopSite) (first : ℕ)
    (old stores marks jumps traps new : Output)
    → Pushes (store site.rec value.Nil ∷ []) old stores
    → Pushes (instr.PrmPush 31 site.mark site.cells (split_label site) ∷ []) stores marks
    → Pushes (instr.IfJump 3 first ∷ []) marks jumps
    → Traps Wide place jumps traps → next_label jumps ≡ next_label old
    → Closes (to (next_label old)) traps new → WritesBegin place site first old new
begin_written place site first old stores marks jumps traps new one two three trap same close code
    stands =
    let wide : ℕ = next_label old in
    let mark : Instr = instr.PrmPush 31 site.mark site.cells (split_label site) in
    let t : Continues code jumps [] (to wide)
    × AreAt code (next_label jumps) (trap_block (next_label jumps) Wide place ∷ []) =
    trapped code jumps traps Wide place [] (to wide) trap
    (closed_block code traps new (to wide) close stands) in (
      pushed code old stores (store site.rec value.Nil ∷ []) _ (to wide) one
          (pushed code stores marks (mark ∷ []) _ (to wide) two
          (pushed code marks jumps (instr.IfJump 3 first ∷ []) [] (to wide) three t.0)),
      subst (λ (l : ℕ). AreAt code l (trap_block l Wide place ∷ [])) same t.1,
    )

-- ---- the blocks round the iterations

pub end_written : (site : LoopSite) (exit : ℕ) (old loads calc jumps new : Output)
    → Pushes (load 24 site.rec ∷ []) old loads
    → Pushes (instr.Calc 27 24 Eq value.Nil ∷ []) loads calc
    → Pushes (instr.IfJump 27 exit ∷ []) calc jumps
    → Closes (to (side_label site.label)) jumps new
    → (code : Listing) → Stands code new
    → Continues code old (side_test site exit) (to (side_label site.label))
end_written site exit old loads calc jumps new one two three close code stands =
    let end : Term = to (side_label site.label) in
    pushed code old loads (load 24 site.rec ∷ []) _ end one
    (pushed code loads calc (instr.Calc 27 24 Eq value.Nil ∷ []) _ end two
    (pushed code calc jumps (instr.IfJump 27 exit ∷ []) [] end three
    (closed_block code jumps new end close stands)))

pub over_written : (site : LoopSite) (exit : ℕ) (old pops new : Output)
    → Pushes (unmark site ∷ []) old pops
    → ((code : Listing) → Stands code new
    → Continues code pops (side_test site exit) (to (side_label site.label)))
    → (code : Listing) → Stands code new
    → Continues code old (unmark site ∷ side_test site exit) (to (side_label site.label))
over_written site exit old pops new push ends code stands =
    pushed code old pops (unmark site ∷ []) (side_test site exit) (to (side_label site.label)) push
    (ends code stands)

pub prep_written : (scope : Scope) (l : ParLoop) (at : ℕ) (old rows new : Output) → IsFresh old
    → Pushes (rows_from scope 0 l.carries.items) old rows → Closes (to at) rows new
    → WritesPrep scope l at old new
prep_written scope l at old rows new fresh push close code stands =
    let own : List Instr = rows_from scope 0 l.carries.items in
    let c : Continues code old (own ++ []) (to at) =
    pushed code old rows own [] (to at) push (closed_block code rows new (to at) close stands) in (
      c.closed,
      λ is. reopened code (label old) (label old) (own ++ []) own (to at) refl (append-nil own)
          (fresh_opens code old (own ++ []) (to at) fresh c),
    )

-- one list of blocks behind another
pub both_appended : (site : LoopSite) (old handled new : Output)
    → Appends (loop_handler_blocks site) old handled
    → Appends (loop_join_blocks site) handled new
    → Appends (loop_handler_blocks site ++ loop_join_blocks site) old new
both_appended site old handled new first second =
    let handler : List Block = loop_handler_blocks site in
    let join : List Block = loop_join_blocks site in
    record {
      blocks = second.blocks ∙ ap (λ (bs : List Block). bs ++ join) first.blocks
          ∙ append_assoc old.blocks.items handler join;
      fresh = second.fresh;
    }

pub site_written : (scope : Scope) (l : ParLoop) (site : LoopSite) (first exit : ℕ)
    (old handled child over none new : Output)
    → site.label ≡ label old
    → Appends (loop_handler_blocks site ++ loop_join_blocks site) old handled
    → first_label site.label ≡ label handled → Closes (to first) handled child
    → over_label site.label ≡ label child
    → ((code : Listing) → Stands code over
    → Continues code child (unmark site ∷ side_test site exit) (to (side_label site.label)))
    → none_label site.label ≡ label over → IsFresh over
    → Closes (to (over_label site.label)) over none
    → prep_label site.label ≡ label none
    → WritesPrep scope l site.label none new
    → WritesSite scope l site first exit old new
site_written scope l site first exit old handled child over none new here append first_is
    close_first over_is writes_over none_is fresh_over close_none prep_is prep code stands =
    let p : Stands code none
    × (list_any has_row l.carries.items ≡ true
    → Opens code (label none) (rows_from scope 0 l.carries.items) (to site.label)) = prep code
    stands in
    let n : Continues code over [] (to (over_label site.label)) = closed_block code over none
    (to (over_label site.label)) close_none p.0 in
    let o : Continues code child (unmark site ∷ side_test site exit) (to (side_label site.label)) =
    writes_over code n.closed in
    let f : Continues code handled [] (to first) = closed_block code handled child (to first)
    close_first o.closed in
    let handler : List Block = loop_handler_blocks site in
    let join : List Block = loop_join_blocks site in
    let a : Stands code old × AreAt code (label old) (handler ++ join) = appended code old handled
    (handler ++ join) append f.closed in (
      a.0,
      record {
        handler = subst (λ (k : ℕ). AreAt code k handler) (sym here)
            (front code (label old) handler join a.1);
        join = subst (λ (k : ℕ). AreAt code k join) (ap target_label (sym here))
            (back code (label old) handler join a.1);
        child = subst (λ (k : ℕ). Opens code k [] (to first)) (sym first_is)
            (fresh_opens code handled [] (to first) append.fresh f);
        over = subst (λ (k : ℕ). Opens code k (unmark site ∷ side_test site exit)
            (to (side_label site.label))) (sym over_is)
            (fresh_opens code child (unmark site ∷ side_test site exit) (to (side_label site.label))
            close_first.fresh o);
        none = subst (λ (k : ℕ). Opens code k [] (to (over_label site.label))) (sym none_is)
            (fresh_opens code over [] (to (over_label site.label)) fresh_over n);
        rows = λ is. subst (λ (k : ℕ). Opens code k (rows_from scope 0 l.carries.items)
            (to site.label)) (sym prep_is) (p.1 is);
      },
    )

-- ---- the whole begin

pub any_rows : (scope : Scope) (before : ℕ) (cs : List Carry)
    → list_any is_of_cells (carries_from scope before cs) ≡ list_any has_row cs
any_rows scope before [] = refl
any_rows scope before (carry.Rows t i ∷ cs) = any_rows scope (suc before) cs
any_rows scope before (carry.Cells t k j ∷ cs) = refl

pub targets_seen : (tables : List (List ℕ)) (functions : List Entry) (most : ℕ)
    (names : List (List ℕ)) (fixed : List ℕ) (rs : List Reduce)
    → AllByRecursion (λ r. IsFree tables functions most names fixed r.target.text.items) rs
    → TargetsIn names rs
targets_seen tables functions most names fixed [] free = tt
targets_seen tables functions most names fixed (r ∷ rs) free =
    (free.0.seen, targets_seen tables functions most names fixed rs free.1)

module _ (on : Body) (as_told : told.Round) (scope : Scope) (tables names : List (List ℕ))
    (sees : Sees scope names tables) where
  reduced_there : (rs : List Reduce) → TargetsIn names rs
      → AllByRecursion (λ (r : Reduce). HasCell scope r.target.text.items) rs
  reduced_there [] seen = tt
  reduced_there (r ∷ rs) seen = (
    seen_variable scope names tables sees r.target.text.items seen.0,
    reduced_there rs seen.1,
  )

  pub reduced_free_cells : (code : Listing) (fixed : List ℕ) (rs : List Reduce)
      → AllByRecursion (λ r. IsFree tables (entries on.callees.items) on.most names fixed
      r.target.text.items) rs
      → AllByRecursion (λ (r : Reduce). IsFreeCell code (activation on tables) names fixed
      r.target.text.items) rs
  reduced_free_cells code fixed [] free = tt
  reduced_free_cells code fixed (r ∷ rs) free = (
    record {
      cell = offset_of scope r.target.text.items;
      is = cell_is on as_told scope tables names
          fixed r.target.text.items code sees free.0;
    },
    reduced_free_cells code fixed rs free.1,
  )

carried_there : (scope : Scope) (names tables : List (List ℕ)) → Sees scope names tables
    → (cs : List Carry) → AllByRecursion (λ c. IsTrue (is_in tables (carried_table c))) cs
    → AllByRecursion (λ (c : Carry). HasTable scope (carried_table c)) cs
carried_there scope names tables sees [] seen = tt
carried_there scope names tables sees (c ∷ cs) seen = (
  seen_table scope names tables sees (carried_table c) seen.0,
  carried_there scope names tables
      sees cs seen.1,
)

-- the site of a `par` that fits, with its blocks
module _ (on : Body) (as_told : told.Round) (scope : Scope) (tables names : List (List ℕ))
    (sees : Sees scope names tables) where
  pub site_there : (code : Listing) (l : ParLoop) (round : Round) (cursor : ℕ) (site : LoopSite)
      → CanBeCut tables (entries on.callees.items) on.most names round.fixed l.reduces.items
      l.carries.items
      → site ≡ loop_site scope l on.size round.depth (length names) cursor site.label
      → IsLoopSite site → AreAt code site.label (loop_handler_blocks site)
      → AreAt code (target_label site.label) (loop_join_blocks site)
      → (list_any has_row l.carries.items ≡ true
      → Opens code (prep_label site.label) (rows_from scope 0 l.carries.items) (to site.label))
      → IsSite code (activation on tables) names l round.depth cursor site
  site_there code l round cursor site cut here right handler join loads =
      let rows : list_any is_of_cells site.carries ≡ list_any has_row l.carries.items =
      ap (λ (q : LoopSite). list_any is_of_cells q.carries) here
      ∙ any_rows scope 0 l.carries.items in
      record {
        scope = scope;
        sees = sees;
        reduced = reduced_there on as_told scope tables names sees l.reduces.items
            (targets_seen tables (entries on.callees.items) on.most names round.fixed
            l.reduces.items cut.reduced);
        carried = carried_there scope names tables sees l.carries.items cut.carried_seen;
        is = here;
        right = right;
        handler = handler;
        join = join;
        rows = λ has. loads (sym rows ∙ has);
      }

pub par_begun : (scope : Scope) (l : ParLoop) (check exit : ℕ) (old bounds start tested : Output)
    → WritesBounds scope l.from l.to old bounds → WritesSome check exit bounds start → IsFresh start
    → check ≡ label start → WritesLength start tested → BeginsPar scope l check exit old tested
par_begun scope l check exit old bounds start tested starts some fresh check_is measures code act
    names more last sees from below c =
    let test : List Instr = instr.Calc 2 1 Lt (value.Reg 0) ∷ instr.IfJump 2 check ∷ [] in
    let wide_is : next_label start ≡ check + 1 = omega (arith, check_is, ap length fresh.traps) in
    let t : Continues code start (length_test (next_label start) more) last =
    measures code more last c in
    record {
      leads = starts code act names [] test (to exit) sees from below (some code t.closed);
      tests = subst (λ (k : ℕ). Opens code check (length_test k more) last) wide_is
          (subst (λ (k : ℕ). Opens code k (length_test (next_label start) more) last)
          (sym check_is)
          (fresh_opens code start (length_test (next_label start) more) last fresh t));
    }

pub quiet_begun : (on : Body) (as_told : told.Round) (scope : Scope) (l : ParLoop) (site : LoopSite)
    (turns : Turns) (check first exit : ℕ) (old tested begun new : Output)
    → site ≡ loop_site scope l on.size as_told.depth (length scope.cells.items)
    (value_cell (length scope.cells.items)) site.label
    → IsLoopSite site → turns.exit ≡ over_label site.label
    → BeginsPar scope l check exit old tested → next_label tested ≡ check + 1
    → WritesBegin l.place site first tested begun
    → WritesSite scope l site first exit begun new → first ≡ label new
    → BeginsQuiet on as_told scope l turns exit old new
quiet_begun on as_told scope l site turns check first exit old tested begun new is right exits
    starts wide_is begins round_it first_is code tables names round same sees fits stands =
    let wide : ℕ = next_label tested in
    let s : Stands code begun × IsRoundQuiet code scope l site first exit = round_it code stands in
    let b : Continues code tested (marked_begin site first) (to wide)
    × AreAt code wide (trap_block wide Wide l.place ∷ []) = begins code s.0 in
    let w : IsParBegun code (activation on tables) names l check exit old (marked_begin site first)
    (to wide) =
    starts code (activation on tables) names (marked_begin site first) (to wide) sees fits.2 fits.3
    b.0 in
    let here : site ≡ loop_site scope l on.size round.depth (length names)
    (value_cell (length names)) site.label =
    is ∙ ap (λ (d : ℕ). loop_site scope l on.size d (length scope.cells.items)
    (value_cell (length scope.cells.items)) site.label) (sym same.depth)
    ∙ ap (λ (n : ℕ). loop_site scope l on.size round.depth n (value_cell n) site.label)
    (as_long scope names tables sees.sees) in
    record {
      instrs = w.leads.instrs;
      end = w.leads.end;
      continues = w.leads.continues;
      told = (
        w.leads.told.0,
        record {
          site = site;
          check = check;
          bounds = w.leads.told.1;
          is_site = subst (λ (k : ℕ). IsQuietSite code (activation on tables) names l round.depth
              check k exit site) first_is (record {
                is_site = site_there on as_told scope tables names sees.sees code l round
                    (value_cell (length names)) site fits.5 here right s.1.handler s.1.join s.1.rows;
                wide = wide;
                begins = subst (λ (k : ℕ). Opens code check
                    (length_test k (marked_begin site first)) (to wide)) (sym wide_is) w.tests;
                too_wide = b.1;
                child = s.1.child;
                over = s.1.over;
                none = s.1.none;
              });
          over = exits;
        },
      );
    }

-- ---- the iterations

-- the same body, where the same variables and tables are seen
pub body_same : (on : Body) (as_told : told.Round) (scope later : Scope) (x : List ℕ)
    (body : List Stmt) (old new : Output) → later.regs ≡ scope.regs
    → SeesAfter (λ names. names) scope later
    → LowersBody on as_told later x body old new → LowersBody on as_told scope x body old new
body_same on as_told scope later x body old new same_regs keeps lowers code tables names round more
    last same sees stand fits c =
    lowers code tables names round more last same (keeps names tables sees)
    (subst (λ rs. StandFor (names ++ x ∷ []) rs.items round.registers) (sym same_regs) stand) fits c

pub readied : (code : Listing) (dispatch : ℕ) (old new : Output) → Readies dispatch old new
    → Stands code new → Stands code old
readied code dispatch old new r stands = subst (λ (bs : List Block). AreAt code 0 bs) r.blocks
    stands

pub quiet_written : (on : Body) (as_told inside : told.Round) (scope : Scope) (l : ParLoop)
    (turns : Turns) (exit : ℕ) (old start middle closed ready inner new : Output)
    → list_is_quiet on.quiet_calls l.body.items ≡ true → scope.regs.items ≡ []
    → inside.reduces.now ≡ l.reduces.items
    → inside.depth ≡ as_told.depth + 1
    → turns.level ≡ length scope.cells.items → turns.bound ≡ bound.Cell → turns.again ≡ label closed
    → exit ≡ label new
    → BeginsQuiet on as_told scope l turns exit old start → IsFresh start
    → LowersBody on inside scope l.var.text.items l.body.items start middle
    → EndsLoop turns middle closed → Readies on.dispatch closed ready
    → LowersBody on inside scope l.var.text.items l.body.items ready inner
    → EndsLoop turns inner new → IsFresh new
    → Lowers on as_told scope (Par l) old new
quiet_written on as_told inside scope l turns exit old start middle closed ready inner new quiet
    none reduces depth long by_cell again_is exit_is begins fresh_start first ends_first readies second
    ends_second fresh code tables names round more last same sees fits c =
    let within : Round = par_round round names l.reduces.items in
    let behind : ℕ → List Instr = λ n. turn n turns.bound turns.again in
    let bare : round.registers ≡ [] = sees.stand.bare none in
    let stand : StandFor (names ++ l.var.text.items ∷ []) scope.regs.items [] =
    stand_bare (names ++ l.var.text.items ∷ []) scope.regs.items none in
    let same_within = par_is_round round as_told inside names l reduces depth same in
    let fits_within = fit_of_vec tables (entries on.callees.items) on.most within
    (names ++ l.var.text.items ∷ []) l.body fits.4 in
    let two : Bodied on inside scope l.var l.body.items turns.level (to turns.exit)
    (note.Ready on.dispatch) ready inner new behind long readies.noted second ends_second code
    tables names within l.body =
    bodied on inside scope l.var l.body.items turns.level (to turns.exit) (note.Ready on.dispatch)
    ready inner new behind long readies.noted second ends_second code tables names within l.body
    same_within refl sees.sees stand fits_within c.closed in
    let one : Bodied on inside scope l.var l.body.items turns.level (to turns.exit) note.Plain start
    middle closed behind long fresh_start.plain first ends_first code tables names within l.body
    =
    bodied on inside scope l.var l.body.items turns.level (to turns.exit) note.Plain start middle
    closed behind long fresh_start.plain first ends_first code tables names within l.body
    same_within refl sees.sees stand fits_within
    (readied code on.dispatch closed ready readies two.before) in
    let act : Activation = activation on tables in
    let w : Leads code old (λ instrs end. (end ≡ to exit)
    × IsQuietBegun code act names l round.depth (label start) exit turns instrs) = begins code
    tables names round same (sees_bare none sees.sees) fits one.before in
    let b : IsQuietBegun code act names l round.depth (label start) exit turns w.instrs = w.told.1
    in
    let turns_are : behind (length names) ≡ next_turn (length names) turns.again = ap
    (λ k. turn (length names) k turns.again) by_cell in
    let over : to turns.exit ≡ to (over_label b.site.label) = ap to b.over in
    let as_said : (instrs : List Instr) (first : Term)
    → Codes code act within (names ++ l.var.text.items ∷ []) l.body.items instrs first
    (behind (length names)) (to turns.exit)
    → Codes code act within (names ++ l.var.text.items ∷ []) l.body.items instrs first
    (next_turn (length names) turns.again) (to (over_label b.site.label)) =
    λ instrs first codes. subst (λ (e : Term). Codes code act within
    (names ++ l.var.text.items ∷ []) l.body.items instrs first
    (next_turn (length names) turns.again) e) over
    (subst (λ (is : List Instr). Codes code act within (names ++ l.var.text.items ∷ []) l.body.items
    instrs first is (to turns.exit)) turns_are codes) in
    let head : turns.again ≡ label ready = again_is ∙ ap length (sym readies.blocks) in
    record {
      instrs = w.instrs;
      end = w.end;
      continues = w.continues;
      told = subst (λ (e : Term). Code code act round names (Par l) w.instrs e more last)
          (sym w.told.0)
          (quiet_par_code l b.site bare fits.0 fits.1 quiet
          (reduced_free_cells on as_told scope tables names sees.sees code round.fixed
          l.reduces.items fits.5.reduced) b.bounds.from b.bounds.to b.is_site one.begins
          (as_said one.instrs one.first one.codes)
          (subst (λ (k : ℕ). OpensAs code (note.Ready on.dispatch) k (instr.Tick ∷ two.instrs)
          two.first) (sym head) two.begins)
          (as_said two.instrs two.first two.codes)
          (subst (λ (k : ℕ). Opens code k more last) (sym exit_is)
          (fresh_opens code new more last fresh c)));
    }
