-- The law of a leaf loop.
use Rattle.std.proofs.Common.{◌≡◌, ℕ, suc, ◌<◌, ◌≤◌, false, All, List, [], ◌∷◌, length}
use Rattle.std.proofs.Common.{take}
use Rattle.std.specs.Int.{int_gap}
use Rattle.loop_syntax.specs.declared.Program.{Program}
use Rattle.loop_syntax.specs.declared.Reduce.{Reduce}
use Rattle.loop_syntax.specs.declared.Stmt.TheVariants.{Par}
use Rattle.loop_meaning.specs.Calls.{call_at}
use Rattle.loop_meaning.specs.declared.value.Variable.{Variable}
use Rattle.loop_meaning.specs.State as meaning
use Rattle.loop_meaning.specs.State.{Chance}
use Rattle.loop_meaning.specs.Statements.{Setting, iterate, run, run_list}
use Rattle.tp_value.specs.declared.TrapKind.TheVariants.{Wide}
use Rattle.tpal_syntax.specs.Conditions.{is_ready}
use Rattle.tpal_syntax.specs.declared.instructions.Alu.TheVariants as alu
use Rattle.tpal_syntax.specs.declared.instructions.Instr.{Instr}
use Rattle.tpal_syntax.specs.declared.instructions.Instr.TheVariants as instr
use Rattle.tpal_syntax.specs.declared.instructions.Term.{Term}
use Rattle.tpal_syntax.specs.declared.instructions.Term.TheVariants as term
use Rattle.tpal_syntax.specs.declared.instructions.Value.TheVariants as value
use Rattle.tpal_syntax.specs.Listing.{Listing}
use Rattle.tpal_machine.specs.Reading.{block_at, note_of}
use Rattle.tpal_machine.proofs.Kit.{IsCalm}
use Rattle.expr_lower.specs.Bodies.{trap_block}
use Rattle.expr_lower.specs.Standing.{AreAt}
use Rattle.handler_gen.specs.LeafCuts.{CutsLeaf, StartsLeaf}
use Rattle.handler_gen.specs.LeafSites.{reload_label, start_label}
use Rattle.handler_gen.specs.Sites.{over_label}
use Rattle.handler_gen.proofs.LeafStores.{cells_with}
use Rattle.join_gen.specs.Blocks.{loads_from}
use Rattle.join_gen.specs.LoopJoins.{JoinsLoop}
use Rattle.join_gen.proofs.LoopJoining.{joins_loop}
use Rattle.scene_laws.specs.Code.{Computes, Opens, load, store, to}
use Rattle.scene_laws.specs.Layout.{Activation, bound_cell, value_cell}
use Rattle.scene_laws.specs.Marked.{length_test, marked_begin}
use Rattle.par_laws.proofs.LeafPars.LeafHeads.{loads_first}
use Rattle.par_laws.proofs.LeafPars.LeafLoops.{LeafBlocks, Runs, all_turns, ready}
use Rattle.par_laws.proofs.LeafPars.LeafTurning.{LeafAt, kept}
use Rattle.par_laws.proofs.QuietPars.Pars.{begins_par}
use Rattle.par_laws.proofs.QuietPars.QuietCuts.{OverOwed}
use Rattle.par_laws.proofs.QuietPars.QuietEnds.{at_over}
use Rattle.par_laws.proofs.QuietPars.QuietLaws.{side_opens}
use Rattle.par_laws.proofs.QuietPars.QuietPars.{FirstOwed, quiet_begins}
use Rattle.par_laws.proofs.QuietPars.QuietSides.{AllowsCuts}
use Rattle.scene_laws.proofs.Merges.JoinsRuns.{never_left}
use Rattle.scene_laws.proofs.Scenes.Moves.{calm, opened}
use Rattle.scene_laws.proofs.Scenes.Pieces.{Host}
use Rattle.scene_laws.proofs.Scenes.Results.{Result, result, then}
use Rattle.scene_laws.proofs.Scenes.Scene.{Owed, Scene}
use Rattle.scene_laws.proofs.Scenes.Values.{ExprLaw}
use Rattle.scene_laws.proofs.Scenes.Variables.{var_names}

module _ {code : Listing} (heartbeat z : ℕ) {act : Activation} (l : LeafAt code act)
    (S : Scene code heartbeat z) (lowest : S.lowest ≤ length l.q.names)
    (k : meaning.State → Result)
    (accs_below : All (λ c. c < value_cell (suc (length l.q.names))) (cells_with (kept l)))
    (fuel : ℕ) (p : Program) (room : ℕ) (reduces : List Reduce)
    (expr_law : ExprLaw code heartbeat) (inner : List (List ℕ))
    (inner_first : take (length l.q.names) inner ≡ l.q.names) (b : LeafBlocks code act l)
    (allows : AllowsCuts code heartbeat z act l.q S p room) (cuts : CutsLeaf code heartbeat l.leaf)
    (starts : StartsLeaf code heartbeat l.leaf b.first)
    (calm_start : IsCalm code (start_label l.leaf))
    (calm_reload : is_ready (note_of (block_at code (reload_label l.leaf.label))) ≡ false) where
  abbrev set : Setting
  set = record { reduces = reduces; fuel = fuel; call = call_at p.funcs.items fuel room }

  pub joins : JoinsLoop code heartbeat l.q.site
  joins =
      joins_loop code heartbeat l.q.site l.q.is_site.right l.q.is_site.join
      (record { over = calm code (over_label l.q.site.label) _ _ b.over })

  -- the body of an iteration, where the variables round the loop have these values
  abbrev pub RunsLeafBody : (vs : List Variable) → var_names vs ≡ l.q.names → S.size ≤ act.size
      → List Instr → Term → Type 0
  RunsLeafBody vs named tall instrs end =
      Runs heartbeat z l S lowest k vs named accs_below tall fuel p room inner inner_first b allows
      joins cuts starts calm_reload instrs end

  pub leaf_law : S.registers ≡ [] → (check wide : ℕ) (here second more : List Instr) (end : Term)
      → Computes code act [] l.q.names l.q.loop.from 0 here
      (store (value_cell (length l.q.names)) (value.Reg 0) ∷ second)
      → Computes code act [] l.q.names l.q.loop.to 0 second
      (store (bound_cell (length l.q.names)) (value.Reg 0)
      ∷ load 1 (value_cell (length l.q.names)) ∷ instr.Calc 2 1 alu.Lt (value.Reg 0)
      ∷ instr.IfJump 2 check ∷ [])
      → Opens code check (length_test wide (marked_begin l.q.site (start_label l.leaf))) (to wide)
      → AreAt code wide (trap_block wide Wide l.q.loop.place ∷ []) → Opens code b.exit more end
      → Owed code heartbeat z act fuel S l.q.names more end k
      → ((vs : List Variable) (named : var_names vs ≡ l.q.names) (tall : S.size ≤ act.size)
      → RunsLeafBody vs named tall b.instrs b.last)
      → ((vs : List Variable) (named : var_names vs ≡ l.q.names) (tall : S.size ≤ act.size)
      → RunsLeafBody vs named tall b.again b.half)
      → Owed code heartbeat z act fuel S l.q.names here (to b.exit)
      (λ st. then (result (run set (Par l.q.loop) st)) k)
  leaf_law none check wide here second more end from_code to_code tests trap ends post runs_first
      runs_again =
      begins_par code heartbeat z act set expr_law S l.q.names lowest l.q.fits k l.q.loop
      (λ i j t number is. never_left p fuel room l.q.loop (Chance ∷ []) [] (int_gap i j) i t
      allows.may.calls allows.may.never allows.may.stays number is) none check
      b.exit here second (length_test wide (marked_begin l.q.site (start_label l.leaf))) more
      (to wide) end from_code to_code tests ends post
      (quiet_begins code heartbeat z act l.q S lowest k set expr_law (start_label l.leaf) calm_start
      allows.free_rec check wide tests trap owed)
    where
      over_owed : (vs : List Variable) (named : var_names vs ≡ l.q.names)
          → OverOwed code heartbeat z act l.q S lowest k vs named fuel p room b.exit b.over allows
          joins
      over_owed vs named marked m j i st task shows at_label at_begin =
          at_over code heartbeat z act l.q S lowest k vs named fuel marked m j st task b.exit b.over
          more end ends post joins (loads_from 0 l.q.site.accs) (term.Join 24)
          (side_opens code act l.q) i shows at_label at_begin

      owed : FirstOwed code heartbeat z act l.q S lowest k set expr_law (start_label l.leaf)
          calm_start
      owed n short m j gap in_m in_j i st named task shows at_label at_begin =
          let tall : S.size ≤ act.size = shows.tall in
          loads_first heartbeat z l S lowest k st.vars named accs_below tall fuel cuts
          allows.blocks.dispatches
          (ready heartbeat z l S lowest k st.vars named accs_below tall fuel p room inner
          inner_first b allows joins cuts starts calm_reload) calm_reload b.first starts
          (calm code b.first (instr.Tick ∷ b.instrs) b.last b.begins) m j (Host i) st
          (result (iterate fuel l.q.loop.var.text.items
          (run_list (record set { reduces = l.q.loop.reduces.items }) l.q.loop.body.items)
          (Chance ∷ []) [] (suc n) m st)) task shows at_label at_begin (λ first_task seen at_first
          at_zero. all_turns heartbeat z l S lowest k st.vars named accs_below tall fuel p room
          inner inner_first b allows joins cuts starts calm_reload (runs_first st.vars named tall)
          (runs_again st.vars named tall) (over_owed st.vars named) n short m j (Host i) st
          first_task seen gap in_m in_j b.instrs b.last (runs_first st.vars named tall)
          (rw (at_first, at_zero)
          (opened code b.first (instr.Tick ∷ b.instrs) b.last b.begins)))
