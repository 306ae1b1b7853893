-- The law of a `par` that is cut between two iterations alone: inside any scene that holds all
-- tables, where a task owes what follows, it owes what the `par` gives and what follows.
use Rattle.std.proofs.Common.{◌≡◌, ℕ, ◌+◌, ◌≤◌, List, [], ◌∷◌, length, take, Some, refl, subst}
use Rattle.std.proofs.Common.{arith}
use Rattle.std.specs.Int.{int_gap}
use Rattle.tp_value.specs.declared.TrapKind.TheVariants.{Wide}
use Rattle.loop_syntax.specs.declared.Program.{Program}
use Rattle.loop_syntax.specs.declared.Reduce.{Reduce}
use Rattle.loop_syntax.specs.declared.Stmt.TheVariants.{Par}
use Rattle.loop_meaning.specs.Calls.{call_at}
use Rattle.loop_meaning.specs.declared.value.Variable.{Variable}
use Rattle.loop_meaning.specs.State as meaning
use Rattle.loop_meaning.specs.State.{Chance}
use Rattle.loop_meaning.specs.Statements.{Setting, run}
use Rattle.tpal_syntax.specs.declared.instructions.Alu.TheVariants as alu
use Rattle.tpal_syntax.specs.declared.instructions.Instr.{Instr}
use Rattle.tpal_syntax.specs.declared.instructions.Instr.TheVariants as instr
use Rattle.tpal_syntax.specs.declared.instructions.Term.{Term}
use Rattle.tpal_syntax.specs.declared.instructions.Term.TheVariants as term
use Rattle.tpal_syntax.specs.declared.instructions.Value.TheVariants as value
use Rattle.tpal_syntax.specs.Listing.{Listing}
use Rattle.tpal_machine.specs.Reading.{block_at}
use Rattle.expr_lower.specs.Bodies.{trap_block}
use Rattle.expr_lower.specs.Standing.{AreAt}
use Rattle.handler_gen.specs.Sites.{first_label, over_label, side_label, target_label}
use Rattle.join_gen.specs.Blocks.{loads_from, side_block}
use Rattle.join_gen.specs.LoopJoins.{JoinsLoop}
use Rattle.join_gen.proofs.LoopJoining.{joins_loop}
use Rattle.scene_laws.specs.Code.{Computes, Opens, load, store, to}
use Rattle.scene_laws.specs.Layout.{Activation, bound_cell, value_cell}
use Rattle.scene_laws.specs.Marked.{length_test, marked_begin}
use Rattle.scene_laws.proofs.Merges.JoinsRuns.{never_left}
use Rattle.scene_laws.proofs.Scenes.Pieces.{Host}
use Rattle.scene_laws.proofs.Scenes.Moves.{calm, opened}
use Rattle.par_laws.proofs.QuietPars.Pars.{begins_par}
use Rattle.par_laws.proofs.QuietPars.QuietCuts.{OverOwed, body, own_cut_owed}
use Rattle.par_laws.proofs.QuietPars.QuietEnds.{at_over}
use Rattle.par_laws.proofs.QuietPars.QuietLoops.{TurnBlocks, all_turns}
use Rattle.par_laws.proofs.QuietPars.QuietPars.{FirstOwed, quiet_begins}
use Rattle.par_laws.proofs.QuietPars.QuietSides.{AllowsCuts}
use Rattle.scene_laws.proofs.Scenes.Results.{Result, result, then}
use Rattle.scene_laws.proofs.Scenes.Scene.{Owed, Scene}
use Rattle.par_laws.proofs.QuietPars.Turned.{RunsBody}
use Rattle.par_laws.proofs.QuietPars.Turning.{ParAt}
use Rattle.scene_laws.proofs.Scenes.Values.{ExprLaw}
use Rattle.scene_laws.proofs.Scenes.Variables.{var_names}

module _ (code : Listing) (heartbeat z : ℕ) (act : Activation) (q : ParAt code act)
    (S : Scene code heartbeat z) (lowest : S.lowest ≤ length q.names) (k : meaning.State → Result)
    (fuel : ℕ) (p : Program) (room : ℕ) (reduces : List Reduce)
    (expr_law : ExprLaw code heartbeat) (inner : List (List ℕ))
    (inner_first : take (length q.names) inner ≡ q.names) (b : TurnBlocks code act q S.dispatch)
    (allows : AllowsCuts code heartbeat z act q S p room)
    (child : Opens code (first_label q.site.label) [] (to b.first)) where
  abbrev set : Setting
  set = record { reduces = reduces; fuel = fuel; call = call_at p.funcs.items fuel room }

  pub joins : JoinsLoop code heartbeat q.site
  joins =
      joins_loop code heartbeat q.site q.is_site.right q.is_site.join
      (record { over = calm code (over_label q.site.label) _ _ b.over })

  -- the body of an iteration, where the variables round the loop have these values
  abbrev pub Runs : (vs : List Variable) → var_names vs ≡ q.names → List Instr → Term → Type 0
  Runs vs named instrs end =
      RunsBody code heartbeat z act q S lowest k vs named fuel q.loop.var.text.items
      (body code heartbeat z act q S lowest k vs named fuel p room b.exit b.over allows joins)
      inner inner_first b.head (over_label q.site.label) instrs end

  pub quiet_law : S.registers ≡ [] → (check wide : ℕ) (here second more : List Instr) (end : Term)
      → Computes code act [] q.names q.loop.from 0 here
      (store (value_cell (length q.names)) (value.Reg 0) ∷ second)
      → Computes code act [] q.names q.loop.to 0 second
      (store (bound_cell (length q.names)) (value.Reg 0) ∷ load 1 (value_cell (length q.names))
      ∷ instr.Calc 2 1 alu.Lt (value.Reg 0) ∷ instr.IfJump 2 check ∷ [])
      → Opens code check (length_test wide (marked_begin q.site b.first)) (to wide)
      → AreAt code wide (trap_block wide Wide q.loop.place ∷ []) → Opens code b.exit more end
      → Owed code heartbeat z act fuel S q.names more end k
      → ((vs : List Variable) (named : var_names vs ≡ q.names) → Runs vs named b.instrs b.last)
      → ((vs : List Variable) (named : var_names vs ≡ q.names) → Runs vs named b.again b.half)
      → Owed code heartbeat z act fuel S q.names here (to b.exit)
      (λ st. then (result (run set (Par q.loop) st)) k)
  quiet_law none check wide here second more end from_code to_code tests trap ends post runs_first
      runs_again =
      begins_par code heartbeat z act set expr_law S q.names lowest q.fits k q.loop
      (λ i j t number is. never_left p fuel room q.loop (Chance ∷ []) [] (int_gap i j) i t
      allows.may.calls allows.may.never allows.may.stays number is) none check
      b.exit here second (length_test wide (marked_begin q.site b.first)) more (to wide) end
      from_code to_code tests ends post
      (quiet_begins code heartbeat z act q S lowest k set expr_law b.first
      (calm code b.first (instr.Tick ∷ b.instrs) b.last b.begins) allows.free_rec check wide tests
      trap owed)
    where
      over_owed : (vs : List Variable) (named : var_names vs ≡ q.names)
          → OverOwed code heartbeat z act q S lowest k vs named fuel p room b.exit b.over allows
          joins
      over_owed vs named marked m j i st task shows at_label at_begin =
          at_over code heartbeat z act q S lowest k vs named fuel marked m j st task b.exit b.over
          more end ends post joins b.side_instrs b.side_end b.side i shows at_label at_begin

      owed : FirstOwed code heartbeat z act q S lowest k set expr_law b.first
          (calm code b.first (instr.Tick ∷ b.instrs) b.last b.begins)
      owed n short m j gap in_m in_j i st named task shows at_label at_begin =
          all_turns code heartbeat z act q S lowest k st.vars named fuel q.loop.var.text.items
          (body code heartbeat z act q S lowest k st.vars named fuel p room b.exit b.over allows
          joins) inner inner_first b allows.opened allows.free_rec more end ends post joins
          (runs_again st.vars named)
          (own_cut_owed code heartbeat z act q S lowest k st.vars named fuel p room b.exit b.over
          allows joins inner inner_first b child (runs_first st.vars named)
          (runs_again st.vars named) (over_owed st.vars named)) n short m j (Host i) st task shows
          gap in_m in_j b.instrs b.last (runs_first st.vars named)
          (rw (at_label, at_begin)
          (opened code b.first (instr.Tick ∷ b.instrs) b.last b.begins))

-- the block where a side ends
pub side_opens : (code : Listing) (act : Activation) (q : ParAt code act)
    → Opens code (side_label q.site.label) (loads_from 0 q.site.accs) (term.Join 24)
side_opens code act q = record {
  block = side_block q.site;
  found =
      let same : target_label q.site.label + 1 + 1 ≡ side_label q.site.label = omega arith in
      subst (λ (l : ℕ). block_at code l ≡ Some (side_block q.site)) same q.is_site.join.1.1.0;
  noted = refl;
  body = refl;
  ends = refl;
}
