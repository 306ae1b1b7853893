-- A turn of a `par` that may be cut in the middle of an iteration: its tick and its body, in the
-- scene of a running iteration; behind it the task is at the head again.
use Rattle.std.proofs.Common.{◌≡◌, ℕ, suc, List, [], ◌∷◌, ◌++◌, append-nil}
use Rattle.std.proofs.Common.{length, take, refl, sym, ap, subst}
use Rattle.beat_count.specs.Ticks.{ticked}
use Rattle.loop_meaning.specs.State as meaning
use Rattle.loop_meaning.specs.State.{Chance, Note, Ran, after, declare, tick}
use Rattle.loop_meaning.specs.Statements.{iterate}
use Rattle.tpal_syntax.specs.declared.instructions.Instr.{Instr}
use Rattle.tpal_syntax.specs.declared.instructions.Instr.TheVariants as instr
use Rattle.tpal_syntax.specs.declared.instructions.Term.{Term}
use Rattle.tpal_syntax.specs.Listing.{Listing}
use Rattle.tpal_machine.specs.Effect as effect
use Rattle.tpal_machine.specs.State as machine
use Rattle.tpal_machine.specs.Step.{advanced}
use Rattle.expr_lower.specs.Standing.{Remains}
use Rattle.expr_lower.proofs.Standing.{behind}
use Rattle.scene_laws.specs.Code.{Opens, to}
use Rattle.scene_laws.specs.Layout.{Activation}
use Rattle.form_laws.proofs.Forms.Choices.{leaving}
use Rattle.par_laws.proofs.DeepPars.DeepRunning.{Handles, Running, follows, later_of, running}
use Rattle.par_laws.proofs.DeepPars.DeepRunning.{running_of}
use Rattle.par_laws.proofs.DeepPars.DeepScenes.{Deep, body, pieces, variable}
use Rattle.scene_laws.proofs.Scenes.Moves.{opened}
use Rattle.scene_laws.proofs.Scenes.Results.{End, Fin, Out, Result, fin, left, result, then}
use Rattle.scene_laws.proofs.Scenes.Results.{then_end}
use Rattle.scene_laws.proofs.Scenes.Scene.{Owed, Scene, ShowsIn}
use Rattle.scene_laws.proofs.Scenes.Showing.{as_many, shows_declared, shows_ticked}
use Rattle.form_laws.proofs.Forms.Ticks.{ticks}
use Rattle.par_laws.proofs.QuietPars.Turned.{after_result}

-- what follows by giving the state alone is nothing more
then_fin : (r : Result) → then r fin ≡ r
then_fin r = by_end r.notes r.end
  where
    by_end : (ns : List Note) (e : End) → then_end ns e fin ≡ record { notes = ns; end = e }
    by_end ns (Fin s) = ap (λ (ms : List Note). record { notes = ms; end = Fin s }) (append-nil ns)
    by_end ns (Out stop ticks output) = refl

module _ {code : Listing} {heartbeat z : ℕ} {act : Activation} (d : Deep code heartbeat z act)
    (N : ℕ) (handles : Handles d N) (inner : List (List ℕ))
    (first : take (length d.q.names) inner ≡ d.q.names) (instrs : List Instr) (half : Term)
    (opens : Opens code d.q.turn (instr.Tick ∷ instrs) half) where
  abbrev level : ℕ
  level = length d.q.names

  abbrev R : Scene code heartbeat z
  R = running d N handles

  -- the body of an iteration: behind it the task jumps to the head
  abbrev pub BodyOwed : Type 0
  BodyOwed =
      (f : meaning.State → Result) → Owed code heartbeat z act d.fuel R inner [] (to d.q.head) f
      → Owed code heartbeat z act d.fuel R (d.q.names ++ variable d ∷ []) instrs half
      (λ st. then (result (body d st)) f)

  -- what a task owes behind the body: the iterations that aren't begun
  abbrev pub BehindOwed : Type 0
  BehindOwed =
      (v : Running d N) (st : meaning.State) (task : machine.State)
      → ShowsIn code heartbeat z act d.fuel R v inner st task
      → Remains code task.block task.at [] (to d.q.head)
      → ((pieces d).owing v.piece (follows d v (left level st))).Holds task

  module _ (runs : BodyOwed) (behind_owed : BehindOwed) (v : Running d N) (task : machine.State)
      (shows : ShowsIn code heartbeat z act d.fuel R v d.q.names v.start task)
      (at_label : task.block ≡ d.q.turn) (at_begin : task.at ≡ 0) where
    abbrev st : meaning.State
    st = v.start

    abbrev after_tick : machine.State
    after_tick = effect.with_tick (advanced task)

    abbrev later : meaning.State
    later = record st { ticks = ticked d.fuel st.ticks }

    abbrev begun : meaning.State → Ran
    begun t = body d (record t { vars = declare t.vars (variable d) v.from })

    here : Remains code task.block task.at (instr.Tick ∷ instrs) half
    here =
        let there : Remains code d.q.turn 0 (instr.Tick ∷ instrs) half =
        opened code d.q.turn (instr.Tick ∷ instrs) half opens in
        rw (at_label, at_begin) there

    behind_body : Owed code heartbeat z act d.fuel R inner [] (to d.q.head)
        (λ s. fin (left level s))
    behind_body w s done_task shows_done stands_done = λ known.
        behind_owed w s done_task shows_done stands_done

    -- in its scene the task owes the iteration
    iteration_owed : (R.owing v (result (running_of d v))).Holds task
    iteration_owed =
        subst (λ (r : Result). (R.owing v r).Holds task) (then_fin (result (running_of d v)))
        (leaving code heartbeat z act d.fuel R v d.q.names st task
        (λ t. after (tick d.fuel t) begun) st fin (as_many st.vars d.q.names shows.named)
        (ticks code heartbeat z act d.fuel R v d.q.names st task shows instrs half begun
        (λ s. fin (left level s)) here
        (λ below.
        runs (λ s. fin (left level s)) behind_body v
        (record later { vars = declare later.vars (variable d) v.from }) after_tick
        (shows_declared code heartbeat z act d.fuel R v
        (shows_ticked code heartbeat z act d.fuel R v shows below) (variable d) v.from d.q.fits
        shows.keeps.next v.in_from)
        (behind code task.block task.at instr.Tick instrs half here))))

    -- so it owes this iteration and the later ones
    pub turn_owed : ((pieces d).owing v.piece
        (result (iterate d.fuel (variable d) (body d) (Chance ∷ []) [] (suc v.more) v.from
        v.start))).Holds task
    unfolding iterate
    turn_owed =
        subst (λ (r : Result). ((pieces d).owing v.piece r).Holds task)
        (sym (after_result (running_of d v) (later_of d v)))
        (iteration_owed ([], refl))
