-- The code of a leaf loop is written where that of its parts is.
use Rattle.std.proofs.Common.{◌≡◌, ℕ, ◌+◌, ◌≤◌, Bool, true, false, List, [], ◌∷◌, ◌++◌, length}
use Rattle.std.proofs.Common.{Vec, refl, sym}
use Rattle.std.proofs.Common.{ap, subst, ◌∙◌, arith, append-nil, append_assoc}
use Rattle.std.specs.Prelude.{nat_le, pos}
use Rattle.std.proofs.lemmas.Bool.Decides.{nat_tests}
use Rattle.std.proofs.lemmas.List.{length-map}
use Rattle.loop_check.proofs.Bools.{and_left}
use Rattle.std.specs.List.{list_any}
use Rattle.std.specs.declared.alloc.Global.{Global}
use Rattle.frame_machine.specs.Lawful.{TargetsIn}
use Rattle.handler_gen.specs.Blocks.{loop_handler_blocks}
use Rattle.handler_gen.specs.LeafBlocks.{leaf_handler_blocks, start_block, stores_of}
use Rattle.handler_gen.specs.LeafSites.{IsLeafSite, head_label, registers_of, start_label}
use Rattle.handler_gen.specs.LeafSites.{stored_loop}
use Rattle.handler_gen.specs.Sites.{IsLoopSite, is_of_cells}
use Rattle.handler_gen.specs.Sites.{none_label, over_label, prep_label, side_label, target_label}
use Rattle.join_gen.specs.Blocks.{loop_join_blocks}
use Rattle.loop_syntax.specs.declared.ParLoop.{ParLoop}
use Rattle.loop_syntax.specs.declared.Reduce.{Reduce}
use Rattle.loop_syntax.specs.declared.Stmt.TheVariants.{Par}
use Rattle.tp_value.specs.declared.Op.{Op}
use Rattle.tp_value.specs.declared.TrapKind.TheVariants.{Wide}
use Rattle.tpal_syntax.specs.declared.blocks.Block.{Block}
use Rattle.tpal_syntax.specs.declared.instructions.Alu.TheVariants.{Add, Lt}
use Rattle.tpal_syntax.specs.declared.instructions.Instr.{Instr}
use Rattle.tpal_syntax.specs.declared.instructions.Instr.TheVariants as instr
use Rattle.tpal_syntax.specs.declared.instructions.Term.{Term}
use Rattle.tpal_syntax.specs.declared.instructions.Value.TheVariants as value
use Rattle.tpal_syntax.specs.declared.notes.Note.TheVariants as note
use Rattle.tpal_syntax.specs.declared.sites.LeafSite.{LeafSite}
use Rattle.tpal_syntax.specs.declared.sites.LoopSite.{LoopSite}
use Rattle.tpal_syntax.specs.Listing.{Listing}
use Rattle.expr_lower.specs.declared.scope.Scope.{Scope}
use Rattle.expr_lower.specs.Bodies.{trap_block}
use Rattle.expr_lower.specs.Scopes.{offset_of}
use Rattle.expr_lower.specs.Standing.{AreAt}
use Rattle.expr_lower.proofs.Standing.{back, front}
use Rattle.block_lower.specs.declared.body.Body.{Body}
use Rattle.block_lower.specs.declared.output.Output.{Output}
use Rattle.block_lower.specs.declared.round.Round as told
use Rattle.block_lower.specs.Bodies.{activation, entries}
use Rattle.scene_laws.specs.Code.{Code, Opens, leaf_par_code, to}
use Rattle.code_laws.specs.Fitting.{AllFit}
use Rattle.scene_laws.specs.Layout.{Activation, bound_cell, value_cell}
use Rattle.scene_laws.specs.LeafMarked.{leaf_turn}
use Rattle.block_lower.specs.Lowering.{AreHeld, BeginsLeaf, BeginsPar, EndsLeaf, IsBodyAt}
use Rattle.block_lower.specs.Lowering.{IsLeafBegun, IsParBegun, IsRound, IsRoundLeaf, Lowers}
use Rattle.block_lower.specs.Lowering.{LowersBody, WritesBegin, WritesLeafSite, WritesLeafTurn}
use Rattle.block_lower.specs.Lowering.{WritesPrep, held_by, leaf_of}
use Rattle.scene_laws.specs.Marked.{marked_begin, length_test, side_test, unmark}
use Rattle.scene_laws.specs.Names.{SeesAfter, StandFor}
use Rattle.scene_laws.specs.Quiet.{is_leaf, list_is_quiet}
use Rattle.scene_laws.specs.Round.{Round, leaf_round, par_round}
use Rattle.scene_laws.specs.Sites.{accs_of, loop_site, rows_from}
use Rattle.scene_laws.specs.Sizes.{has_row, site_blocks}
use Rattle.block_lower.specs.Writing.{Appends, Closes, Continues, IsFresh, Leads, Pushes, Readies}
use Rattle.block_lower.specs.Writing.{Stands, label, next_label}
use Rattle.block_lower.proofs.Written.Fitting.{all_held, fit_of_vec}
use Rattle.block_lower.proofs.Written.Held.{stand_held}
use Rattle.block_lower.proofs.Written.LoweredPars.{readied, reduced_free_cells, site_there}
use Rattle.block_lower.proofs.Written.LoweredPars.{targets_seen}
use Rattle.block_lower.proofs.Written.LoweredPars.{any_rows}
use Rattle.scene_laws.proofs.Counts.QuietRows.{leaf_is_quiet}
use Rattle.scene_laws.proofs.Scenes.Seeing.{as_long}
use Rattle.block_lower.proofs.Written.Standing.{sees_bare, sees_held}
use Rattle.block_lower.proofs.Written.Writing.{appended, closed_block, fresh_opens, pushed}
use Rattle.block_lower.proofs.Written.Writing.{reopened_as}

-- ---- the blocks round the iterations

-- one list of blocks behind another
pub lists_appended : (first second : List Block) (old middle new : Output)
    → Appends first old middle → Appends second middle new → Appends (first ++ second) old new
lists_appended first second old middle new one two = record {
  blocks = two.blocks ∙ ap (λ (bs : List Block). bs ++ second) one.blocks
      ∙ append_assoc old.blocks.items first second;
  fresh = two.fresh;
}

pub leaf_site_written : (scope : Scope) (l : ParLoop) (site : LeafSite) (first exit : ℕ)
    (old handled start over none new : Output)
    → site.label ≡ label old
    → Appends (leaf_handler_blocks site ++ loop_join_blocks (stored_loop site)) old handled
    → start_label site ≡ label handled → Appends (start_block site first ∷ []) handled start
    → over_label (stored_loop site).label ≡ label start
    → ((code : Listing) → Stands code over
    → Continues code start (unmark (stored_loop site) ∷ side_test (stored_loop site) exit)
    (to (side_label (stored_loop site).label)))
    → none_label (stored_loop site).label ≡ label over → IsFresh over
    → Closes (to (over_label (stored_loop site).label)) over none
    → prep_label (stored_loop site).label ≡ label none
    → WritesPrep scope l (stored_loop site).label none new
    → WritesLeafSite scope l site first exit old new
leaf_site_written scope l site first exit old handled start over none new here append start_is
    append_start over_is writes_over none_is fresh_over close_none prep_is prep code stands =
    let stored : LoopSite = stored_loop site in
    let ends : Term = to (side_label stored.label) in
    let p : Stands code none
    × (list_any has_row l.carries.items ≡ true
    → Opens code (label none) (rows_from scope 0 l.carries.items) (to stored.label)) = prep code
    stands in
    let n : Continues code over [] (to (over_label stored.label)) =
    closed_block code over none (to (over_label stored.label)) close_none p.0 in
    let o : Continues code start (unmark stored ∷ side_test stored exit) ends =
    writes_over code n.closed in
    let s : Stands code handled × AreAt code (label handled) (start_block site first ∷ []) =
    appended code handled start (start_block site first ∷ []) append_start o.closed in
    let handler : List Block = leaf_handler_blocks site in
    let join : List Block = loop_join_blocks stored in
    let a : Stands code old × AreAt code (label old) (handler ++ join) =
    appended code old handled (handler ++ join) append s.0 in
    let join_is : label old + length handler ≡ target_label stored.label = omega (arith, here) in (
      a.0,
      record {
        handler = subst (λ (k : ℕ). AreAt code k handler) (sym here)
            (front code (label old) handler join a.1);
        join = subst (λ (k : ℕ). AreAt code k join) join_is
            (back code (label old) handler join a.1);
        start = subst (λ (k : ℕ). AreAt code k (start_block site first ∷ [])) (sym start_is) s.1;
        over = subst (λ (k : ℕ). Opens code k (unmark stored ∷ side_test stored exit) ends)
            (sym over_is)
            (fresh_opens code start (unmark stored ∷ side_test stored exit) ends append_start.fresh
            o);
        none = subst (λ (k : ℕ). Opens code k [] (to (over_label stored.label))) (sym none_is)
            (fresh_opens code over [] (to (over_label stored.label)) fresh_over n);
        rows = λ is. subst (λ (k : ℕ). Opens code k (rows_from scope 0 l.carries.items)
            (to stored.label)) (sym prep_is) (p.1 is);
      },
    )

-- ---- the site

-- the site of a leaf loop that is made from that of a loop
pub leaf_stored : (scope : Scope) (l : ParLoop) (cells depth level cursor at label : ℕ)
    (first : LoopSite) (site : LeafSite) → first ≡ loop_site scope l cells depth level at label
    → at ≡ cursor → site ≡ leaf_of first
    → stored_loop site ≡ loop_site scope l cells depth level cursor (site.label + 2)
leaf_stored scope l cells depth level cursor at label first site is same leaf =
    let whole : site ≡ leaf_of (loop_site scope l cells depth level cursor label) =
    leaf ∙ ap leaf_of is
    ∙ ap (λ (k : ℕ). leaf_of (loop_site scope l cells depth level k label)) same in
    ap stored_loop whole
    ∙ ap (λ (k : ℕ). loop_site scope l cells depth level cursor (k + 2))
    (sym (ap (λ (s : LeafSite). s.label) whole))

at_most : (a b : ℕ) → nat_le a b ≡ true → a ≤ b
at_most a b is = grind (arith, nat_tests, is)

-- it is a right one, where that loop's is
pub leaf_right : (scope : Scope) (l : ParLoop) (cells depth level cursor : ℕ) (site : LeafSite)
    → stored_loop site ≡ loop_site scope l cells depth level cursor (site.label + 2)
    → IsLoopSite (loop_site scope l cells depth level cursor (site.label + 2))
    → is_leaf l.body.items l.reduces.items ≡ true → IsLeafSite site
leaf_right scope l cells depth level cursor site is right leaf =
    let accs : site.accs ≡ accs_of scope l.reduces.items = ap (λ (s : LoopSite). s.accs) is in
    let few : length l.reduces.items ≤ 4 =
    at_most (length l.reduces.items) 4
    (and_left (nat_le (length l.reduces.items) 4) (list_is_quiet false l.body.items) leaf) in
    let many : length (accs_of scope l.reduces.items) ≡ length l.reduces.items =
    length-map {B = ℕ × Op} l.reduces.items
    (λ (r : Reduce). (offset_of scope r.target.text.items, r.op)) in
    record {
      loop = subst IsLoopSite (sym is) right;
      few_accs = omega (arith, few, many, ap length accs);
    }

-- its promotion point stands behind the blocks round it
pub leaf_head : (scope : Scope) (l : ParLoop) (cells depth level cursor : ℕ) (site : LeafSite)
    → stored_loop site ≡ loop_site scope l cells depth level cursor (site.label + 2)
    → head_label site ≡ site.label + (site_blocks l.carries.items + 2)
leaf_head scope l cells depth level cursor site is =
    by_rows (list_any is_of_cells site.carries) refl
  where
    rows : list_any is_of_cells site.carries ≡ list_any has_row l.carries.items
    rows = ap (λ (s : LoopSite). list_any is_of_cells s.carries) is
        ∙ any_rows scope 0 l.carries.items

    by_rows : (b : Bool) → list_any is_of_cells site.carries ≡ b
        → head_label site ≡ site.label + (site_blocks l.carries.items + 2)
    by_rows true e =
        let also : list_any has_row l.carries.items ≡ true = sym rows ∙ e in
        rw (e, also) (omega arith)
    by_rows false e =
        let also : list_any has_row l.carries.items ≡ false = sym rows ∙ e in
        rw (e, also) (omega arith)

-- ---- the whole begin

pub leaf_begun : (on : Body) (as_told : told.Round) (scope : Scope) (l : ParLoop) (site : LeafSite)
    (check first exit : ℕ) (old tested begun new : Output)
    → stored_loop site ≡ loop_site scope l on.size as_told.depth (length scope.cells.items)
    (value_cell (length scope.cells.items)) (site.label + 2)
    → IsLeafSite site → BeginsPar scope l check exit old tested
    → next_label tested ≡ check + 1
    → WritesBegin l.place (stored_loop site) (start_label site) tested begun
    → WritesLeafSite scope l site first exit begun new
    → BeginsLeaf on as_told scope l site first exit old new
leaf_begun on as_told scope l site check first exit old tested begun new is right starts wide_is
    begins round_it code tables names round same sees fits stands =
    let stored : LoopSite = stored_loop site in
    let wide : ℕ = next_label tested in
    let begin : List Instr = marked_begin stored (start_label site) in
    let s : Stands code begun × IsRoundLeaf code scope l site first exit = round_it code stands in
    let b : Continues code tested begin (to wide)
    × AreAt code wide (trap_block wide Wide l.place ∷ []) = begins code s.0 in
    let w : IsParBegun code (activation on tables) names l check exit old begin (to wide) =
    starts code (activation on tables) names begin (to wide) sees fits.2 fits.3 b.0 in
    let here : stored ≡ loop_site scope l on.size round.depth (length names)
    (value_cell (length names)) stored.label =
    is ∙ ap (λ (d : ℕ). loop_site scope l on.size d (length scope.cells.items)
    (value_cell (length scope.cells.items)) stored.label) (sym same.depth)
    ∙ ap (λ (n : ℕ). loop_site scope l on.size round.depth n (value_cell n) stored.label)
    (as_long scope names tables sees.sees) in
    let behind : site.label + 1 + 1 ≡ stored.label = omega arith in
    record {
      instrs = w.leads.instrs;
      end = w.leads.end;
      continues = w.leads.continues;
      told = (
        w.leads.told.0,
        record {
          check = check;
          bounds = w.leads.told.1;
          is_leaf = record {
            is_site = site_there on as_told scope tables names sees.sees code l round
                (value_cell (length names)) stored fits.5 here right.loop
                (subst (λ (k : ℕ). AreAt code k (loop_handler_blocks stored)) behind
                s.1.handler.1.1)
                s.1.join s.1.rows;
            right = right;
            handler = s.1.handler;
            start = s.1.start;
            wide = wide;
            begins = subst (λ (k : ℕ). Opens code check (length_test k begin) (to wide))
                (sym wide_is) w.tests;
            too_wide = b.1;
            over = s.1.over;
            none = s.1.none;
          };
        },
      );
    }

-- ---- an iteration

-- behind its body
pub leaf_ended : (site : LeafSite) (old steps tests jumps stores new : Output)
    → Pushes (instr.Calc 24 24 Add (value.Int (pos 1)) ∷ []) old steps
    → Pushes (instr.Calc 0 24 Lt (value.Reg 25) ∷ []) steps tests
    → Pushes (instr.IfJump 0 (head_label site) ∷ []) tests jumps
    → Pushes (stores_of (registers_of site)) jumps stores
    → Closes (to (over_label (stored_loop site).label)) stores new → EndsLeaf site old new
leaf_ended site old steps tests jumps stores new one two three four close code stands =
    let end : Term = to (over_label (stored_loop site).label) in
    let own : List Instr = stores_of (registers_of site) in
    let stored : Continues code jumps own end =
    subst (λ (is : List Instr). Continues code jumps is end) (append-nil own)
    (pushed code jumps stores own [] end four (closed_block code stores new end close stands)) in
    pushed code old steps (instr.Calc 24 24 Add (value.Int (pos 1)) ∷ []) _ end one
    (pushed code steps tests (instr.Calc 0 24 Lt (value.Reg 25) ∷ []) _ end two
    (pushed code tests jumps (instr.IfJump 0 (head_label site) ∷ []) own end three stored))

-- the whole, whose variables stand in registers
pub turn_written : (on : Body) (inside : told.Round) (scope held : Scope) (l : ParLoop)
    (site : LeafSite) (old inner new : Output) → held.cells ≡ scope.cells
    → held.tables ≡ scope.tables → AreHeld held.regs.items (held_by l)
    → LowersBody on inside held l.var.text.items l.body.items old inner
    → EndsLeaf site inner new → WritesLeafTurn on inside scope l site old new
turn_written on inside scope held l site old inner new same_cells same_tables are_held lowers ends
    code tables names round same sees stand fits stands =
    lowers code tables names round (leaf_turn site) (to (over_label (stored_loop site).label)) same
    (sees_held scope held names tables same_cells same_tables sees)
    (stand held.regs.items are_held) fits (ends code stands)

-- what is seen behind it
pub sees_turn : (scope held inner new : Scope) → held.cells ≡ scope.cells
    → held.tables ≡ scope.tables → SeesAfter (λ names. names) held inner
    → new.cells ≡ inner.cells → new.tables ≡ inner.tables → SeesAfter (λ names. names) scope new
sees_turn scope held inner new same_cells same_tables keeps cells_new tables_new names tables sees =
    sees_held inner new names tables cells_new tables_new
    (keeps names tables (sees_held scope held names tables same_cells same_tables sees))

-- the same iteration, where the same variables and tables are seen
pub turn_same : (on : Body) (inside : told.Round) (scope later : Scope) (l : ParLoop)
    (site : LeafSite) (old new : Output) → SeesAfter (λ names. names) scope later
    → WritesLeafTurn on inside later l site old new
    → WritesLeafTurn on inside scope l site old new
turn_same on inside scope later l site old new keeps writes code tables names round same sees =
    writes code tables names round same (keeps names tables sees)

-- ---- the loop

pub leaf_written : (on : Body) (as_told inside : told.Round) (scope : Scope) (l : ParLoop)
    (site : LeafSite) (first exit : ℕ) (old start ready middle new : Output)
    → is_leaf l.body.items l.reduces.items ≡ true → scope.regs.items ≡ []
    → inside.reduces.now ≡ l.reduces.items
    → inside.depth ≡ as_told.depth + 1
    → stored_loop site ≡ loop_site scope l on.size as_told.depth (length scope.cells.items)
    (value_cell (length scope.cells.items)) (site.label + 2)
    → head_label site ≡ label start → first ≡ label middle → exit ≡ label new
    → BeginsLeaf on as_told scope l site first exit old start → Readies site.label start ready
    → WritesLeafTurn on inside scope l site ready middle → IsFresh middle
    → WritesLeafTurn on inside scope l site middle new → IsFresh new
    → Lowers on as_told scope (Par l) old new
leaf_written on as_told inside scope l site first exit old start ready middle new leaf none reduces depth
    is head_is first_is exit_is begins readies again fresh_middle once fresh code tables names round
    more last same sees fits c =
    let act : Activation = activation on tables in
    let deeper : List (List ℕ) = names ++ l.var.text.items ∷ [] in
    let within : Round = leaf_round round names l.reduces.items site in
    let over : Term = to (over_label (stored_loop site).label) in
    let same_within : IsRound within inside =
    record { reduces = sym reduces; depth = omega (arith, depth, same.depth) } in
    let long : length scope.cells.items ≡ length names = as_long scope names tables sees.sees in
    let cursor : site.cursor ≡ value_cell (length names) =
    ap (λ (s : LoopSite). s.cursor) is ∙ ap value_cell long in
    let bound : site.bound ≡ bound_cell (length names) =
    ap (λ (s : LoopSite). s.bound) is ∙ ap bound_cell long in
    let accs : site.accs ≡ accs_of scope l.reduces.items = ap (λ (s : LoopSite). s.accs) is in
    let targets : TargetsIn names l.reduces.items =
    targets_seen tables (entries on.callees.items) on.most names round.fixed l.reduces.items
    fits.5.reduced in
    let stand : (regs : List (Vec ℕ Global × ℕ)) → AreHeld regs (held_by l)
    → StandFor deeper regs within.registers =
    λ regs held. stand_held scope names tables sees.sees l site fits.6 targets cursor bound accs
    regs held in
    let fits_within : AllFit tables (entries on.callees.items) on.most within deeper l.body.items =
    all_held tables (entries on.callees.items) on.most
    (par_round round names l.reduces.items) (registers_of site) deeper l.body.items
    (fit_of_vec tables (entries on.callees.items) on.most (par_round round names l.reduces.items)
    deeper l.body fits.4) in
    let two : IsBodyAt code act within deeper l.body.items middle (leaf_turn site) over =
    once code tables names within same_within sees.sees stand fits_within c.closed in
    let one : IsBodyAt code act within deeper l.body.items ready (leaf_turn site) over =
    again code tables names within same_within sees.sees stand fits_within two.before in
    let w : Leads code old (λ instrs end. (end ≡ to exit)
    × IsLeafBegun code act names l round.depth first exit site instrs) =
    begins code tables names round same (sees_bare none sees.sees) fits
    (readied code site.label start ready readies one.before) in
    let b : IsLeafBegun code act names l round.depth first exit site w.instrs = w.told.1 in
    let head : label ready ≡ head_label site = ap length readies.blocks ∙ sym head_is in
    record {
      instrs = w.instrs;
      end = w.end;
      continues = w.continues;
      told = subst (λ (e : Term). Code code act round names (Par l) w.instrs e more last)
          (sym w.told.0)
          (leaf_par_code l site (sees.stand.bare none) fits.0 fits.1
          (leaf_is_quiet l.body.items l.reduces.items leaf)
          (reduced_free_cells on as_told scope tables names sees.sees code round.fixed
          l.reduces.items fits.5.reduced) b.bounds.from b.bounds.to b.is_leaf
          (reopened_as code ready.note (note.Ready site.label) (label ready) (head_label site)
          (instr.Tick ∷ one.instrs) (instr.Tick ∷ one.instrs) one.end readies.noted head refl
          one.opens)
          one.codes
          (reopened_as code middle.note note.Plain (label middle) first
          (instr.Tick ∷ two.instrs) (instr.Tick ∷ two.instrs) two.end fresh_middle.plain
          (sym first_is) refl two.opens)
          two.codes
          (subst (λ (k : ℕ). Opens code k more last) (sym exit_is)
          (fresh_opens code new more last fresh c)));
    }
