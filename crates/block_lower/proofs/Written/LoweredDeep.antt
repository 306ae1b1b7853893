-- The code of a `par` that may be cut in the middle of an iteration is written where that of its
-- parts is.
use Rattle.std.proofs.Common.{◌≡◌, ℕ, ◌+◌, true, false, List, [], ◌∷◌, ◌++◌, length, refl, sym, ap}
use Rattle.std.proofs.Common.{subst}
use Rattle.std.proofs.Common.{◌∙◌}
use Rattle.std.specs.Prelude.{pos, negsuc}
use Rattle.std.specs.List.{list_any}
use Rattle.loop_syntax.specs.declared.ParLoop.{ParLoop}
use Rattle.loop_syntax.specs.declared.Stmt.TheVariants.{Par}
use Rattle.tp_value.specs.declared.TrapKind.TheVariants.{Wide}
use Rattle.tpal_syntax.specs.declared.blocks.Block.{Block}
use Rattle.tpal_syntax.specs.declared.instructions.Alu.TheVariants.{Add, Eq, Lt, Sub}
use Rattle.tpal_syntax.specs.declared.instructions.Instr.{Instr}
use Rattle.tpal_syntax.specs.declared.instructions.Instr.TheVariants as instr
use Rattle.tpal_syntax.specs.declared.instructions.Term.{Term}
use Rattle.tpal_syntax.specs.declared.instructions.Term.TheVariants as term
use Rattle.tpal_syntax.specs.declared.instructions.Value.TheVariants as value
use Rattle.tpal_syntax.specs.declared.notes.Note.TheVariants as note
use Rattle.tpal_syntax.specs.declared.sites.LoopSite.{LoopSite}
use Rattle.tpal_syntax.specs.Listing.{Listing}
use Rattle.expr_lower.specs.declared.scope.Scope.{Scope}
use Rattle.expr_lower.specs.Bodies.{trap_block}
use Rattle.expr_lower.specs.Standing.{AreAt}
use Rattle.expr_lower.proofs.Standing.{front, back}
use Rattle.handler_gen.specs.Blocks.{loop_handler_blocks}
use Rattle.handler_gen.specs.Sites.{IsLoopSite, first_label, none_label, over_label, prep_label}
use Rattle.handler_gen.specs.Sites.{side_label, target_label}
use Rattle.join_gen.specs.Blocks.{loop_join_blocks}
use Rattle.block_lower.specs.declared.body.Body.{Body}
use Rattle.block_lower.specs.declared.output.Output.{Output}
use Rattle.block_lower.specs.declared.round.Round as told
use Rattle.block_lower.specs.Bodies.{entries, activation}
use Rattle.scene_laws.specs.Code.{Code, Opens, OpensAs, deep_par_code, load, store, to}
use Rattle.scene_laws.specs.DeepMarked.{last_begun, next_begun}
use Rattle.scene_laws.specs.Layout.{cursor_cell, value_cell, Activation}
use Rattle.block_lower.specs.Lowering.{BeginsPar, IsParBegun}
use Rattle.block_lower.specs.Lowering.{WritesBegin, WritesPrep, WritesNext, WritesLast}
use Rattle.block_lower.specs.Lowering.{IsRoundDeep, WritesDeepSite, IsDeepBegun, BeginsDeep, Lowers}
use Rattle.block_lower.specs.Lowering.{LowersBody}
use Rattle.scene_laws.specs.Marked.{length_test, marked_begin, side_test, unmark}
use Rattle.scene_laws.specs.Quiet.{list_is_quiet}
use Rattle.scene_laws.specs.Round.{Round, par_round}
use Rattle.scene_laws.specs.Sites.{loop_site, rows_from}
use Rattle.scene_laws.specs.Sizes.{has_row}
use Rattle.block_lower.specs.Writing.{label, next_label, IsFresh, Pushes, Closes, Appends, Readies}
use Rattle.block_lower.specs.Writing.{Stands, Continues, Leads}
use Rattle.block_lower.proofs.Written.Fitting.{fit_of_vec}
use Rattle.block_lower.proofs.Written.LoweredLoops.{Bodied, bodied, par_is_round}
use Rattle.block_lower.proofs.Written.LoweredPars.{readied, reduced_free_cells, site_there}
use Rattle.scene_laws.proofs.Scenes.Seeing.{as_long}
use Rattle.block_lower.proofs.Written.Standing.{sees_bare, stand_bare}
use Rattle.block_lower.proofs.Written.Writing.{appended, closed_block, empty_opens, fresh_opens}
use Rattle.block_lower.proofs.Written.Writing.{pushed}

-- ---- between two iterations

pub next_written : (site : LoopSite) (level head : ℕ)
    (old cursors bounds differ stores added moved tested jumps new : Output)
    → Pushes (load 1 site.cursor ∷ []) old cursors → Pushes (load 0 site.bound ∷ []) cursors bounds
    → Pushes (instr.Calc 3 1 Sub (value.Reg 0) ∷ []) bounds differ
    → Pushes (store (value_cell level) (value.Reg 1) ∷ []) differ stores
    → Pushes (instr.Calc 1 1 Add (value.Int (pos 1)) ∷ []) stores added
    → Pushes (store site.cursor (value.Reg 1) ∷ []) added moved
    → Pushes (instr.Calc 2 3 Lt (value.Int (negsuc 0)) ∷ []) moved tested
    → Pushes (instr.IfJump 2 (head + 2) ∷ []) tested jumps → Closes (to (head + 1)) jumps new
    → WritesNext site level head old new
next_written site level head old cursors bounds differ stores added moved tested jumps new one two
    three four five six seven eight close code stands =
    let end : Term = to (head + 1) in
    pushed code old cursors (load 1 site.cursor ∷ []) _ end one
    (pushed code cursors bounds (load 0 site.bound ∷ []) _ end two
    (pushed code bounds differ (instr.Calc 3 1 Sub (value.Reg 0) ∷ []) _ end three
    (pushed code differ stores (store (value_cell level) (value.Reg 1) ∷ []) _ end four
    (pushed code stores added (instr.Calc 1 1 Add (value.Int (pos 1)) ∷ []) _ end five
    (pushed code added moved (store site.cursor (value.Reg 1) ∷ []) _ end six
    (pushed code moved tested (instr.Calc 2 3 Lt (value.Int (negsuc 0)) ∷ []) _ end seven
    (pushed code tested jumps (instr.IfJump 2 (head + 2) ∷ []) [] end eight
    (closed_block code jumps new end close stands))))))))

pub last_written : (site : LoopSite) (turn : ℕ) (old tested jumps pops new : Output)
    → Pushes (instr.Calc 2 3 Eq (value.Int (pos 0)) ∷ []) old tested
    → Pushes (instr.IfJump 2 (over_label site.label) ∷ []) tested jumps
    → Pushes (unmark site ∷ []) jumps pops → Closes (to turn) pops new
    → WritesLast site turn old new
last_written site turn old tested jumps pops new one two three close code stands =
    pushed code old tested (instr.Calc 2 3 Eq (value.Int (pos 0)) ∷ []) _ (to turn) one
    (pushed code tested jumps (instr.IfJump 2 (over_label site.label) ∷ []) _ (to turn) two
    (pushed code jumps pops (unmark site ∷ []) [] (to turn) three
    (closed_block code pops new (to turn) close stands)))

-- ---- the blocks round the iterations

pub deep_site_written : (on : Body) (scope : Scope) (l : ParLoop) (site : LoopSite)
    (head exit : ℕ) (old handled first over none prepped ready next new : Output)
    → site.label ≡ label old
    → Appends (loop_handler_blocks site ++ loop_join_blocks site) old handled
    → first_label site.label ≡ label handled
    → WritesNext site (length scope.cells.items) head handled first
    → over_label site.label ≡ label first → IsFresh first
    → ((code : Listing) → Stands code over
    → Continues code first (side_test site exit) (to (side_label site.label)))
    → none_label site.label ≡ label over → IsFresh over
    → Closes (term.Jump (value.Reg 30)) over none → prep_label site.label ≡ label none
    → WritesPrep scope l site.label none prepped → Readies on.dispatch prepped ready
    → head ≡ label ready → WritesNext site (length scope.cells.items) head ready next
    → head + 1 ≡ label next → IsFresh next → WritesLast site (head + 2) next new
    → WritesDeepSite on scope l site head exit old new
deep_site_written on scope l site head exit old handled first over none prepped ready next new here
    append first_is begins over_is fresh_first ends none_is fresh_over close_none prep_is prep
    readies head_is begins_again last_is fresh_next lasts code stands =
    let level : ℕ = length scope.cells.items in
    let w : Continues code next (last_begun site) (to (head + 2)) = lasts code stands in
    let h : Continues code ready (next_begun site level (head + 2)) (to (head + 1)) =
    begins_again code w.closed in
    let p : Stands code none
    × (list_any has_row l.carries.items ≡ true
    → Opens code (label none) (rows_from scope 0 l.carries.items) (to site.label)) =
    prep code (readied code on.dispatch prepped ready readies h.closed) in
    let n : Continues code over [] (term.Jump (value.Reg 30)) =
    closed_block code over none (term.Jump (value.Reg 30)) close_none p.0 in
    let o : Continues code first (side_test site exit) (to (side_label site.label)) =
    ends code n.closed in
    let f : Continues code handled (next_begun site level (head + 2)) (to (head + 1)) =
    begins code o.closed in
    let handler : List Block = loop_handler_blocks site in
    let join : List Block = loop_join_blocks site in
    let a : Stands code old × AreAt code (label old) (handler ++ join) =
    appended code old handled (handler ++ join) append f.closed in (
      a.0,
      record {
        handler = subst (λ (k : ℕ). AreAt code k handler) (sym here)
            (front code (label old) handler join a.1);
        join = subst (λ (k : ℕ). AreAt code k join) (ap target_label (sym here))
            (back code (label old) handler join a.1);
        first = subst (λ (k : ℕ). Opens code k (next_begun site level (head + 2)) (to (head + 1)))
            (sym first_is)
            (fresh_opens code handled (next_begun site level (head + 2)) (to (head + 1))
            append.fresh f);
        over = subst (λ (k : ℕ). Opens code k (side_test site exit) (to (side_label site.label)))
            (sym over_is)
            (fresh_opens code first (side_test site exit) (to (side_label site.label)) fresh_first
            o);
        none = subst (λ (k : ℕ). Opens code k [] (term.Jump (value.Reg 30))) (sym none_is)
            (fresh_opens code over [] (term.Jump (value.Reg 30)) fresh_over n);
        rows = λ is. subst (λ (k : ℕ). Opens code k (rows_from scope 0 l.carries.items)
            (to site.label)) (sym prep_is) (p.1 is);
        next = subst (λ (k : ℕ). OpensAs code (note.Ready on.dispatch) k
            (next_begun site level (head + 2)) (to (head + 1))) (sym head_is)
            (subst (λ m. OpensAs code m (label ready) (next_begun site level (head + 2))
            (to (head + 1))) readies.noted
            (empty_opens code ready (next_begun site level (head + 2)) (to (head + 1))
            (record { body = readies.body; traps = readies.traps }) h));
        ends = subst (λ (k : ℕ). Opens code k (last_begun site) (to (head + 2))) (sym last_is)
            (fresh_opens code next (last_begun site) (to (head + 2)) fresh_next w);
      },
    )

-- ---- the whole begin

pub deep_begun : (on : Body) (as_told : told.Round) (scope : Scope) (l : ParLoop) (site : LoopSite)
    (check head exit : ℕ) (old tested stores begun new : Output)
    → site ≡ loop_site scope l on.size as_told.depth (length scope.cells.items)
    (cursor_cell as_told.depth) site.label
    → IsLoopSite site → BeginsPar scope l check exit old tested → next_label stores ≡ check + 1
    → Pushes (store site.cursor (value.Reg 1) ∷ []) tested stores
    → WritesBegin l.place site (first_label site.label) stores begun
    → WritesDeepSite on scope l site head exit begun new
    → BeginsDeep on as_told scope l head exit old new
deep_begun on as_told scope l site check head exit old tested stores begun new is right starts
    wide_is push begins round_it code tables names round same sees fits stands =
    let first : ℕ = first_label site.label in
    let wide : ℕ = next_label stores in
    let s : Stands code begun
    × IsRoundDeep code on.dispatch scope l site (length scope.cells.items) head exit =
    round_it code stands in
    let b : Continues code stores (marked_begin site first) (to wide)
    × AreAt code wide (trap_block wide Wide l.place ∷ []) = begins code s.0 in
    let begin : List Instr = store site.cursor (value.Reg 1) ∷ marked_begin site first in
    let w : IsParBegun code (activation on tables) names l check exit old begin (to wide) =
    starts code (activation on tables) names begin (to wide) sees fits.2 fits.3
    (pushed code tested stores (store site.cursor (value.Reg 1) ∷ []) (marked_begin site first)
    (to wide) push b.0) in
    let long : length scope.cells.items ≡ length names = as_long scope names tables sees.sees in
    let here : site ≡ loop_site scope l on.size round.depth (length names) (cursor_cell round.depth)
    site.label =
    is ∙ ap (λ (d : ℕ). loop_site scope l on.size d (length scope.cells.items) (cursor_cell d)
    site.label) (sym same.depth)
    ∙ ap (λ (n : ℕ). loop_site scope l on.size round.depth n (cursor_cell round.depth) site.label)
    long in
    let round_there : IsRoundDeep code on.dispatch scope l site (length names) head exit =
    subst (λ (n : ℕ). IsRoundDeep code on.dispatch scope l site n head exit) long s.1 in
    record {
      instrs = w.leads.instrs;
      end = w.leads.end;
      continues = w.leads.continues;
      told = (
        w.leads.told.0,
        record {
          site = site;
          check = check;
          bounds = w.leads.told.1;
          is_site = record {
            is_site = site_there on as_told scope tables names sees.sees code l round
                (cursor_cell round.depth) site fits.5 here right s.1.handler s.1.join s.1.rows;
            wide = wide;
            begins = subst (λ (k : ℕ). Opens code check (length_test k begin) (to wide))
                (sym wide_is) w.tests;
            too_wide = b.1;
            last = head + 1;
            first = round_there.first;
            next = round_there.next;
            ends = round_there.ends;
            over = round_there.over;
            none = round_there.none;
          };
        },
      );
    }

-- ---- the iterations

pub deep_written : (on : Body) (as_told inside : told.Round) (scope : Scope) (l : ParLoop)
    (head exit : ℕ) (old start inner new : Output)
    → list_is_quiet on.quiet_calls l.body.items ≡ false → scope.regs.items ≡ []
    → inside.reduces.now ≡ l.reduces.items
    → inside.depth ≡ as_told.depth + 1 → BeginsDeep on as_told scope l head exit old start
    → IsFresh start → head + 2 ≡ label start
    → LowersBody on inside scope l.var.text.items l.body.items start inner
    → Closes (to head) inner new → exit ≡ label new → Lowers on as_told scope (Par l) old new
deep_written on as_told inside scope l head exit old start inner new deep none reduces depth begins
    fresh_start turn_is lowers close exit_is code tables names round more last same sees fits c =
    let within : Round = par_round round names l.reduces.items in
    let behind : ℕ → List Instr = λ n. [] in
    let turns : (other : Listing) → Stands other new → Continues other inner [] (to head) =
    λ other stands. closed_block other inner new (to head) close stands in
    let level : ℕ = length scope.cells.items in
    let one : Bodied on inside scope l.var l.body.items level (to head) note.Plain start inner new
    behind refl fresh_start.plain lowers turns code tables names within l.body =
    bodied on inside scope l.var l.body.items level (to head) note.Plain start inner new behind refl
    fresh_start.plain lowers turns code tables names within l.body
    (par_is_round round as_told inside names l reduces depth same) refl sees.sees
    (stand_bare (names ++ l.var.text.items ∷ []) scope.regs.items none)
    (fit_of_vec tables (entries on.callees.items) on.most within (names ++ l.var.text.items ∷ [])
    l.body fits.4) c.closed in
    let act : Activation = activation on tables in
    let w : Leads code old (λ instrs end. (end ≡ to exit)
    × IsDeepBegun code act on.dispatch names l round.depth head exit instrs) =
    begins code tables names round same (sees_bare none sees.sees) fits one.before in
    let b : IsDeepBegun code act on.dispatch names l round.depth head exit w.instrs = w.told.1 in
    record {
      instrs = w.instrs;
      end = w.end;
      continues = w.continues;
      told = subst (λ (e : Term). Code code act round names (Par l) w.instrs e more last)
          (sym w.told.0)
          (deep_par_code l b.site (sees.stand.bare none) fits.0 fits.1 deep
          (reduced_free_cells on as_told scope tables names sees.sees code round.fixed l.reduces.items
          fits.5.reduced) b.bounds.from b.bounds.to b.is_site
          (subst (λ (k : ℕ). Opens code k (instr.Tick ∷ one.instrs) one.first) (sym turn_is)
          one.begins) one.codes
          (subst (λ (k : ℕ). Opens code k more last) (sym exit_is)
          (fresh_opens code new more last close.fresh c)));
    }
