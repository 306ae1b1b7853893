-- A beat at the promotion point of a leaf loop: the registers are stored, and the task owes what
-- the loop that it is then owes; whoever goes back, and whoever begins it, loads them.
use Rattle.std.proofs.Common.{◌≡◌, ℕ, suc, ◌<◌, ◌≤◌, Bool, true, false, All, List, [], ◌∷◌}
use Rattle.std.proofs.Common.{length}
use Rattle.std.proofs.Common.{Some, refl, ap, sym, subst, ◌∙◌, arith}
use Rattle.std.proofs.lemmas.List.{length-set}
use Rattle.std.specs.Prelude.{ℤ, slice_get}
use Rattle.beat_count.specs.BeatState.{BeatState}
use Rattle.beat_count.specs.Heartbeat.{is_diverted}
use Rattle.loop_meaning.specs.declared.value.Variable.{Variable}
use Rattle.loop_meaning.specs.State as meaning
use Rattle.loop_meaning.specs.State.{Ran}
use Rattle.stack_marks.specs.declared.mark.Mark.{Mark}
use Rattle.stack_marks.specs.Stacks.{StackValue}
use Rattle.tpal_syntax.specs.Conditions.{is_ready}
use Rattle.tpal_syntax.specs.declared.instructions.Instr.TheVariants as instr
use Rattle.tpal_syntax.specs.declared.instructions.Term.TheVariants as term
use Rattle.tpal_syntax.specs.declared.instructions.Value.TheVariants as value
use Rattle.tpal_syntax.specs.declared.notes.Note.TheVariants as note
use Rattle.tpal_syntax.specs.declared.words.Word.TheVariants as word
use Rattle.tpal_syntax.specs.Listing.{Listing}
use Rattle.tpal_machine.specs.Belongs.{IsPositionIn}
use Rattle.tpal_machine.specs.Effect.{has_mark, oldest}
use Rattle.tpal_machine.specs.Reading.{block_at, note_of, register}
use Rattle.tpal_machine.specs.State as machine
use Rattle.tpal_machine.specs.Step.{Goes, advanced, at_block, step}
use Rattle.tpal_machine.proofs.Kit.{Back, on_jump}
use Rattle.expr_lower.specs.Leaving.{moved}
use Rattle.expr_lower.specs.Standing.{AreAt, Remains}
use Rattle.expr_lower.proofs.Keeping.{register_other, register_set}
use Rattle.expr_lower.proofs.Standing.{at_end}
use Rattle.handler_gen.specs.Blocks.{dispatch_block, to}
use Rattle.handler_gen.specs.LeafCuts.{CutsLeaf, IsLoaded, IsStored}
use Rattle.handler_gen.specs.LeafCuts.{StartsLeaf}
use Rattle.handler_gen.specs.LeafCuts.{stored_task, with_registers}
use Rattle.handler_gen.specs.LeafSites.{head_label, reload_label, start_label}
use Rattle.handler_gen.proofs.LeafStores.{cells_with, marks_registers}
use Rattle.handler_gen.proofs.Reaching.{reached}
use Rattle.handler_gen.proofs.Ready.{beat_is, diverted_to, goes_allowed, goes_in, goes_undiverted}
use Rattle.scene_laws.specs.Layout.{Activation, value_cell}
use Rattle.form_laws.proofs.Forms.Simple.{low_there, top_there}
use Rattle.par_laws.proofs.LeafPars.LeafTurning.{LeafAt, cells_are, high, kept, leaf_turning}
use Rattle.par_laws.proofs.LeafPars.LeafTurning.{seen_loaded, stored_of}
use Rattle.par_laws.proofs.LeafPars.SameRest.{rest_owed}
use Rattle.par_laws.proofs.QuietPars.Turned.{T}
use Rattle.par_laws.proofs.QuietPars.Turning.{pieces}
use Rattle.scene_laws.proofs.Scenes.Pieces.{Piece}
use Rattle.scene_laws.proofs.Scenes.Promises.{CanRun, Promise, promising}
use Rattle.scene_laws.proofs.Scenes.Registered.{same_registers}
use Rattle.scene_laws.proofs.Scenes.Results.{Result}
use Rattle.scene_laws.proofs.Scenes.Scene.{GoesBack, IsDiverted, Scene, SeenIn, ShowsIn}
use Rattle.scene_laws.proofs.Scenes.Showing.{shows_words}
use Rattle.scene_laws.proofs.Scenes.Variables.{var_names}

module _ {code : Listing} (heartbeat z : ℕ) {act : Activation} (l : LeafAt code act)
    (S : Scene code heartbeat z) (lowest : S.lowest ≤ length l.q.names)
    (k : meaning.State → Result) (vs : List Variable) (named : var_names vs ≡ l.q.names)
    (accs_below : All (λ c. c < value_cell (suc (length l.q.names))) (cells_with (kept l)))
    (tall : S.size ≤ act.size) (fuel : ℕ) (cuts : CutsLeaf code heartbeat l.leaf)
    (dispatches : AreAt code S.dispatch (dispatch_block S.dispatch ∷ []))
    (ready : note_of (block_at code (head_label l.leaf)) ≡ note.Ready l.leaf.label)
    (calm_reload : is_ready (note_of (block_at code (reload_label l.leaf.label))) ≡ false) where
  abbrev head : ℕ
  head = head_label l.leaf

  abbrev P : Promise code heartbeat (Piece S.World)
  P = pieces code heartbeat z act l.q S lowest k

  abbrev L : ℤ → ℤ → Scene code heartbeat z
  L m j = leaf_turning heartbeat z l S lowest k vs named accs_below m j

  abbrev Stored : ℤ → ℤ → Scene code heartbeat z
  Stored m j = T code heartbeat z act l.q S lowest k vs named true m j

  -- ---- the registers are loaded, and the loop goes on at the promotion point

  -- a task that goes back to the block that loads them, where it shows the loop in its cells
  pub loads_again : (m j : ℤ) (o : Piece S.World) (st : meaning.State) (r : Result)
      (other u : machine.State) → register other.registers 30 ≡ word.Label
      (reload_label l.leaf.label) → GoesBack code other u
      → ShowsIn code heartbeat z act fuel (Stored m j) o l.q.names st u
      → ((task : machine.State)
      → SeenIn code heartbeat z act fuel (L m j) o l.q.names st task → task.block ≡ head
      → task.at ≡ 0 → (P.owing o r).Holds task)
      → (P.owing o r).Holds u
  loads_again m j o st r other u label gone shows turn =
      let K : Back code heartbeat = P.owing o r in
      on_jump code heartbeat K u (value.Reg 30) (reload_label l.leaf.label)
      (at_end code u (term.Jump (value.Reg 30)) gone.stands) (gone.label ∙ label) calm_reload
      (reached code heartbeat K there loaded at.comes
      (K.back loaded (goes_in heartbeat head loaded) steps
      (turn (goes_in heartbeat head loaded) seen refl refl)))
    where
      there : machine.State
      there = at_block (reload_label l.leaf.label) (advanced u)

      at : IsLoaded code heartbeat l.leaf z head there
      at = cuts.loads z there (record {
        block = refl;
        at = refl;
        size = shows.size;
        base = shows.base;
        held = (shows.low, omega (arith, shows.top, cells_are l));
      })

      loaded : machine.State
      loaded = moved there at.words at.beat at.at

      seen : SeenIn code heartbeat z act fuel (L m j) o l.q.names st (goes_in heartbeat head loaded)
      seen =
          seen_loaded heartbeat z l S lowest k vs named accs_below fuel m j o l.q.names st u shows
          at.words (goes_in heartbeat head loaded).beat head 0 at.have at.size
          (at.high 31 (omega arith) ∙ shows.base)

      quiet : loaded.beat.quiet ≡ true
      quiet = at.quiet ∙ gone.quiet

      steps : (allowed : Bool)
          → step code heartbeat allowed loaded ≡ Goes (goes_in heartbeat head loaded)
      steps true =
          goes_allowed code heartbeat loaded (value.Label head) head l.leaf.label
          (at_end code loaded (to head) at.goes_on) refl ready (rw quiet refl)
      steps false =
          goes_undiverted code heartbeat loaded (value.Label head) head l.leaf.label
          (at_end code loaded (to head) at.goes_on) refl ready

  -- and so where the loop, or its child, begins
  pub loads_first : (first : ℕ) → StartsLeaf code heartbeat l.leaf first
      → is_ready (note_of (block_at code first)) ≡ false → (m j : ℤ) (o : Piece S.World)
      (st : meaning.State) (r : Result) (u : machine.State)
      → ShowsIn code heartbeat z act fuel (Stored m j) o l.q.names st u
      → u.block ≡ start_label l.leaf → u.at ≡ 0
      → ((task : machine.State)
      → SeenIn code heartbeat z act fuel (L m j) o l.q.names st task → task.block ≡ first
      → task.at ≡ 0 → (P.owing o r).Holds task)
      → (P.owing o r).Holds u
  loads_first first starts calm m j o st r u shows at_label at_begin turn =
      let K : Back code heartbeat = P.owing o r in
      reached code heartbeat K u loaded at.comes
      (on_jump code heartbeat K loaded (value.Label first) first
      (at_end code loaded (to first) at.goes_on) refl calm
      (turn (at_block first (advanced loaded))
      (seen_loaded heartbeat z l S lowest k vs named accs_below fuel m j o l.q.names st u shows
      at.words (advanced loaded).beat first 0 at.have at.size
      (at.high 31 (omega arith) ∙ shows.base)) refl refl))
    where
      at : IsLoaded code heartbeat l.leaf z first u
      at = starts.loads z u (record {
        block = at_label;
        at = at_begin;
        size = shows.size;
        base = shows.base;
        held = (shows.low, omega (arith, shows.top, cells_are l));
      })

      loaded : machine.State
      loaded = moved u at.words at.beat at.at

  -- ---- the registers are stored

  module _ (m j : ℤ) (i : Piece S.World) (st : meaning.State) (state : machine.State)
      (seen : SeenIn code heartbeat z act fuel (L m j) i l.q.names st state) (mark : Mark)
      (marked : oldest state.stack ≡ Some mark)
      (beats : is_diverted heartbeat (has_mark state.stack) true (advanced state).beat ≡ true) where
    -- the task that was diverted, at the block that stores
    abbrev pub turned : machine.State
    turned = diverted_to heartbeat head l.leaf.label state

    pub saved : IsStored code heartbeat l.leaf z mark turned
    saved = cuts.stores z mark turned (record {
      block = refl;
      at = refl;
      size = length-set state.registers 30 (word.Label head) ∙ seen.size;
      base = register_other state.registers 30 31 (word.Label head)
          (λ (e : 31 ≡ 30). absurd (omega (arith, e))) ∙ seen.base;
      held = (
        low_there code heartbeat z act fuel (L m j) i l.q.names st state seen,
        omega (
          arith,
          top_there code heartbeat z act fuel (L m j) i l.q.names st state seen,
          cells_are l,
        ),
      );
      marked = marked;
    })

    -- the same task as if it had been diverted to the block of `dispatch`
    abbrev pub at_dispatch : machine.State
    at_dispatch =
        record (stored_task l.leaf z turned saved.beat) { block = S.dispatch; at = 0 }

    pub is_turned : IsDiverted S.dispatch at_dispatch
    is_turned =
        let is = beat_is heartbeat (has_mark state.stack) (advanced state).beat beats in
        record {
          block = refl;
          at = refl;
          quiet = saved.quiet ∙ ap (λ (b : BeatState). b.quiet) is;
          granted = saved.granted ∙ ap (λ (b : BeatState). b.granted) is;
        }

    pub label_there : register at_dispatch.registers 30 ≡ word.Label (reload_label l.leaf.label)
    label_there =
        register_set turned.registers 30 (word.Label (reload_label l.leaf.label))
        (omega (arith, length-set state.registers 30 (word.Label head), seen.size))

    -- it shows the loop in its cells
    pub shows_stored_task : ShowsIn code heartbeat z act fuel (Stored m j) i l.q.names st
        at_dispatch
    shows_stored_task =
        let same : with_registers (kept l) z turned.registers state.stack
        ≡ with_registers (kept l) z state.registers state.stack =
        same_registers (kept l) z state.registers turned.registers state.stack (high l)
        (λ r low up. register_other state.registers 30 r (word.Label head)
        (λ (e : r ≡ 30). absurd (omega (arith, e, up)))) in
        subst (λ (t : StackValue). ShowsIn code heartbeat z act fuel (Stored m j) i l.q.names st
        (record at_dispatch { stack = t })) (sym same)
        (shows_words code heartbeat z act fuel (Stored m j) i
        (stored_of heartbeat z l S lowest k vs named accs_below fuel m j i l.q.names st tall state
        seen) at_dispatch.registers
        (length-set turned.registers 30 (word.Label (reload_label l.leaf.label))
        ∙ length-set state.registers 30 (word.Label head))
        (register_other turned.registers 30 31 (word.Label (reload_label l.leaf.label))
        (λ (e : 31 ≡ 30). absurd (omega (arith, e)))
        ∙ register_other state.registers 30 31 (word.Label head)
        (λ (e : 31 ≡ 30). absurd (omega (arith, e)))))

    -- what it owes at that block it owes where a beat came
    pub turned_owes : (r : Result) → (P.diverted i r).Holds at_dispatch → (P.diverted i r).Holds
        turned
    turned_owes r holds =
        P.turned_closes i r turned (λ given can.
        reached code heartbeat (promising code heartbeat (P.given i r) true 0 (P.ending i r)) turned
        there saved.comes (λ given_it can_there.
        rest_owed code heartbeat mark at_dispatch
        (length-set turned.registers 30 (word.Label (reload_label l.leaf.label))
        ∙ (length-set state.registers 30 (word.Label head) ∙ seen.size))
        (ap (λ marks. slice_get marks 0) (marks_registers (kept l) turned.registers state.stack z)
        ∙ marked) true turned.block saved.at (P.ending i r) at_it saved.goes_on
        (P.turned_opens i r at_dispatch holds given_it (can_dispatch can_there))) given can)
      where
        there : machine.State
        there = record (stored_task l.leaf z turned saved.beat) { at = saved.at }

        at_it : Remains code S.dispatch 0 (instr.PrmSplit 28 29 ∷ []) (term.Jump (value.Reg 29))
        at_it = record {
          block = dispatch_block S.dispatch;
          found = dispatches.0;
          rest = refl;
          ends = refl;
        }

        can_dispatch : CanRun code there → CanRun code at_dispatch
        can_dispatch can = record {
          right = can.right;
          runs = record {
            belongs = record {
              holds = record {
                registers = can.runs.belongs.holds.registers;
                words = can.runs.belongs.holds.words;
                stack = can.runs.belongs.holds.stack;
                tables = can.runs.belongs.holds.tables;
                goal = can.runs.belongs.holds.goal;
                pending = can.runs.belongs.holds.pending;
                met = can.runs.belongs.holds.met;
                waiting = can.runs.belongs.holds.waiting;
              };
              next = subst (λ b. IsPositionIn b 0) (sym dispatches.0) (omega arith);
            };
            waits_not = can.runs.waits_not;
          };
        }
