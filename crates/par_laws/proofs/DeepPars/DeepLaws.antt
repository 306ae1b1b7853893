-- The law of a `par` that may be cut in the middle of an iteration: inside any open scene that
-- serves it, where a task owes what follows, it owes what the `par` gives and what follows.
use Rattle.std.proofs.Common.{◌≡◌, ℕ, ◌<◌, List, [], ◌∷◌, length, take}
use Rattle.std.specs.Int.{int_gap}
use Rattle.loop_meaning.specs.State.{Chance}
use Rattle.loop_meaning.specs.Statements.{run}
use Rattle.loop_syntax.specs.declared.Reduce.{Reduce}
use Rattle.loop_syntax.specs.declared.Stmt.TheVariants.{Par}
use Rattle.tpal_syntax.specs.declared.instructions.Alu.TheVariants as alu
use Rattle.tpal_syntax.specs.declared.instructions.Instr.{Instr}
use Rattle.tpal_syntax.specs.declared.instructions.Instr.TheVariants as instr
use Rattle.tpal_syntax.specs.declared.instructions.Term.{Term}
use Rattle.tpal_syntax.specs.declared.instructions.Value.TheVariants as value
use Rattle.tpal_syntax.specs.Listing.{Listing}
use Rattle.handler_gen.specs.Sites.{first_label, over_label, side_label}
use Rattle.join_gen.specs.LoopJoins.{JoinsLoop}
use Rattle.join_gen.proofs.LoopJoining.{joins_loop}
use Rattle.scene_laws.specs.Code.{Computes, Opens, load, store, to}
use Rattle.scene_laws.specs.Layout.{Activation, bound_cell, value_cell}
use Rattle.scene_laws.specs.Marked.{length_test, marked_begin, side_test}
use Rattle.par_laws.proofs.DeepPars.DeepBegins.{deep_begins, set}
use Rattle.par_laws.proofs.DeepPars.DeepEnds.{at_over}
use Rattle.par_laws.proofs.DeepPars.DeepHandles.{handles}
use Rattle.par_laws.proofs.DeepPars.DeepLoops.{all_owed}
use Rattle.par_laws.proofs.DeepPars.DeepScenes.{Deep, FirstOwed, OverOwed}
use Rattle.par_laws.proofs.DeepPars.DeepTurns.{BodyOwed}
use Rattle.scene_laws.proofs.Merges.JoinsRuns.{never_left}
use Rattle.scene_laws.proofs.Scenes.Moves.{calm}
use Rattle.par_laws.proofs.QuietPars.Pars.{begins_par}
use Rattle.scene_laws.proofs.Scenes.Results.{result, then}
use Rattle.scene_laws.proofs.Scenes.Scene.{Owed}
use Rattle.scene_laws.proofs.Scenes.Values.{ExprLaw}

module _ {code : Listing} {heartbeat z : ℕ} {act : Activation} (d : Deep code heartbeat z act)
    (expr_law : ExprLaw code heartbeat) (reduces : List Reduce)
    (more : List Instr) (last : Term) (ends : Opens code d.q.exit more last)
    (post : Owed code heartbeat z act d.fuel d.S d.q.names more last d.k)
    (side_instrs : List Instr) (side_end : Term)
    (side : Opens code (side_label d.q.site.label) side_instrs side_end)
    (instrs : List Instr) (half : Term) (opens : Opens code d.q.turn (instr.Tick ∷ instrs) half)
    (inner : List (List ℕ)) (first : take (length d.q.names) inner ≡ d.q.names) where
  pub joins : JoinsLoop code heartbeat d.q.site
  joins =
      joins_loop code heartbeat d.q.site d.q.is_deep.is_site.right d.q.is_deep.is_site.join
      (record { over = calm code (over_label d.q.site.label) _ _ d.q.is_deep.over })

  pub over_owed : OverOwed d
  over_owed m j i st task shows enough at_label at_begin =
      at_over d st task more last ends post joins side_instrs side_end side m j i shows enough
      at_label at_begin

  -- the body of an iteration, in the scene of a running iteration, however many may be cut off
  abbrev pub Runs : Type 0
  Runs = (N : ℕ) (turns : (c : ℕ) → c < N → FirstOwed d c)
      → BodyOwed d N (handles d N joins turns over_owed) inner first instrs half opens

  pub deep_law : d.S.registers ≡ [] → (here second : List Instr)
      → Computes code act [] d.q.names d.q.loop.from 0 here
      (store (value_cell (length d.q.names)) (value.Reg 0) ∷ second)
      → Computes code act [] d.q.names d.q.loop.to 0 second
      (store (bound_cell (length d.q.names)) (value.Reg 0)
      ∷ load 1 (value_cell (length d.q.names)) ∷ instr.Calc 2 1 alu.Lt (value.Reg 0)
      ∷ instr.IfJump 2 d.q.check ∷ [])
      → Runs
      → Owed code heartbeat z act d.fuel d.S d.q.names here (to d.q.exit)
      (λ st. then (result (run (set d expr_law reduces) (Par d.q.loop) st)) d.k)
  deep_law none here second from_code to_code runs =
      begins_par code heartbeat z act (set d expr_law reduces) expr_law d.S d.q.names d.lowest
      d.q.fits d.k d.q.loop
      (λ i j t number is. never_left d.p d.fuel d.room d.q.loop (Chance ∷ []) [] (int_gap i j) i t
      d.calls d.never d.stays number is) none d.q.check d.q.exit here
      second
      (length_test d.q.is_deep.wide
      (store d.q.site.cursor (value.Reg 1) ∷ marked_begin d.q.site (first_label d.q.site.label)))
      more (to d.q.is_deep.wide) last from_code to_code d.q.is_deep.begins ends post
      (deep_begins d expr_law reduces
      (all_owed d joins over_owed (side_test d.q.site d.q.exit) (to (side_label d.q.site.label))
      d.q.is_deep.over instrs half opens inner first runs))
