-- A task that was diverted between two iterations of a `par` goes back to the next one, and a
-- handler of what goes on round the loop may cut that instead.
use Rattle.std.proofs.Common.{◌≡◌, ◌⊎◌, inl, inr, ℕ, suc, ◌+◌, ◌<◌, ◌≤◌, true, List, [], ◌∷◌, ◌++◌}
use Rattle.std.proofs.Common.{length, refl, sym, ap, ◌∙◌, arith}
use Rattle.std.specs.Prelude.{ℤ, pos}
use Rattle.std.specs.List.{AllByRecursion}
use Rattle.std.proofs.lemmas.Bool.{cases_lt}
use Rattle.std.proofs.lemmas.List.{length-set}
use Rattle.beat_count.specs.BeatState.{BeatState}
use Rattle.beat_count.specs.Heartbeat.{is_diverted}
use Rattle.stack_marks.specs.declared.mark.Mark.{Mark}
use Rattle.stack_marks.specs.Stacks.{word_at}
use Rattle.loop_meaning.specs.declared.value.Variable.{Variable}
use Rattle.loop_meaning.specs.State as meaning
use Rattle.tpal_syntax.specs.declared.instructions.Term.TheVariants as term
use Rattle.tpal_syntax.specs.declared.instructions.Value.TheVariants as value
use Rattle.tpal_syntax.specs.declared.notes.Note.TheVariants as note
use Rattle.tpal_syntax.specs.declared.words.Word.TheVariants as word
use Rattle.tpal_syntax.specs.Listing.{Listing}
use Rattle.tpal_machine.specs.Effect.{has_mark, is_marked_from}
use Rattle.tpal_machine.specs.Reading.{block_at, note_of, register}
use Rattle.tpal_machine.specs.State as machine
use Rattle.tpal_machine.specs.Step.{advanced}
use Rattle.tpal_machine.proofs.Kit.{Back}
use Rattle.expr_lower.proofs.Keeping.{register_other, register_set}
use Rattle.expr_lower.proofs.Standing.{at_end}
use Rattle.handler_gen.specs.LoopCuts.{loop_mark}
use Rattle.handler_gen.proofs.Ready.{beat_is, diverted_to, goes_in}
use Rattle.scene_laws.specs.Layout.{Activation, bound_cell, value_cell}
use Rattle.scene_laws.proofs.Scenes.Activations.{StandsFrom, clear_above}
use Rattle.form_laws.proofs.Entering.{goes_back_in}
use Rattle.scene_laws.proofs.Scenes.Fixed.{fixed_same}
use Rattle.scene_laws.proofs.Scenes.Pieces.{Host, Piece}
use Rattle.scene_laws.proofs.Scenes.Promises.{Promise}
use Rattle.scene_laws.proofs.Scenes.Results.{Result, then}
use Rattle.scene_laws.proofs.Scenes.Scene.{GoesBack, IsDiverted, IsUncut, Near, RunsIn, Scene}
use Rattle.scene_laws.proofs.Scenes.Scene.{ShowsIn}
use Rattle.scene_laws.proofs.Scenes.Scene.{facts}
use Rattle.scene_laws.proofs.Scenes.Showing.{shows_words}
use Rattle.par_laws.proofs.QuietPars.Turned.{T}
use Rattle.par_laws.proofs.QuietPars.Turning.{ParAt, clear_of, mark_is, pieces}
use Rattle.scene_laws.proofs.Scenes.Variables.{held_same, var_names}

-- what is owed at a promotion point is owed where a task goes back to it
pub goes_back_to : (code : Listing) (heartbeat head dispatch : ℕ)
    → note_of (block_at code head) ≡ note.Ready dispatch → (K : Back code heartbeat)
    (other u : machine.State) → register other.registers 30 ≡ word.Label head
    → GoesBack code other u → K.Holds (goes_in heartbeat head u) → K.Holds u
goes_back_to code heartbeat head dispatch ready K other u label gone holds =
    goes_back_in code heartbeat K u head dispatch
    (at_end code u (term.Jump (value.Reg 30)) gone.stands) (gone.label ∙ label) ready gone.quiet
    holds

module _ (code : Listing) (heartbeat z : ℕ) (act : Activation) (q : ParAt code act)
    (S : Scene code heartbeat z) (lowest : S.lowest ≤ length q.names) (k : meaning.State → Result)
    (vs : List Variable) (named : var_names vs ≡ q.names) (fuel : ℕ) where
  abbrev level : ℕ
  level = length q.names

  abbrev P : Promise code heartbeat (Piece S.World)
  P = pieces code heartbeat z act q S lowest k

  module _ (m j : ℤ) where
    abbrev Turning : Scene code heartbeat z
    Turning = T code heartbeat z act q S lowest k vs named true m j

    -- A task that was diverted between two iterations shows the loop as it stands in its cells.
    -- Where it goes back and shows it again, it owes what it should.
    pub record IsTurned (i : Piece S.World) (st : meaning.State) (r : Result)
        (other : machine.State) : Type 0 where
      pub shows : ShowsIn code heartbeat z act fuel Turning i q.names st other
      pub turned : IsDiverted S.dispatch other
      pub goes_on : (o : Piece S.World) (u : machine.State) → GoesBack code other u
          → ShowsIn code heartbeat z act fuel Turning o q.names st u → (P.owing o r).Holds u

    -- it may go back as it was
    pub uncut_goes_on : (i : Piece S.World) (st : meaning.State) (r : Result)
        (other : machine.State) → IsTurned i st r other → (u : machine.State)
        → GoesBack code other u → IsUncut other u → (P.owing i r).Holds u
    uncut_goes_on i st r other t u gone uncut = t.goes_on i u gone shows_u
      where
        free : u.pending ≡ other.pending
        free = uncut.free ∙ sym t.shows.free

        unmet : u.met ≡ other.met
        unmet = uncut.unmet ∙ sym t.shows.unmet

        shows_u : ShowsIn code heartbeat z act fuel Turning i q.names st u
        shows_u =
            rw (uncut.stack, uncut.tables, uncut.fuel, uncut.output, uncut.goal, free, unmet)
            (shows_words code heartbeat z act fuel Turning i t.shows u.registers
            (gone.size ∙ sym t.shows.size) gone.base)

    -- ---- what goes on round the loop is cut

    module _ (opened : S.is_open ≡ true) (free_rec : S.may q.site.rec) (w : S.World)
        (outer : S.marks w ≡ [] → ⊥) (st : meaning.State) (r : Result) (other : machine.State)
        (t : IsTurned (Host w) st r other) where
      abbrev own : List Mark
      own = loop_mark q.site z ∷ []

      runs : RunsIn z S.size S.fuel (facts S.around w) own st other
      runs = record {
        many = t.shows.size;
        limit = t.shows.limit ∙ sym t.shows.limited;
        ticks = t.shows.ticks;
        within = omega (arith, t.shows.within, t.shows.limited);
        begun = t.shows.begun;
        printed = t.shows.printed;
        ends = t.shows.ends;
        free = t.shows.free;
        unmet = t.shows.unmet;
        marked = t.shows.marked;
        held = t.shows.held;
        can = t.shows.can;
        ranged = t.shows.ranged;
        low = t.shows.low;
        tall = omega (arith, t.shows.top, t.shows.tall);
        keeps = t.shows.keeps.outer;
      }

      own_from : AllByRecursion (StandsFrom (z + value_cell S.lowest)) own
      own_from = (omega (arith, lowest, mark_is code heartbeat z act q S lowest), tt)

      -- behind a cut of its world the loop goes on
      module _ (c : ℕ) (u : machine.State) (gone : GoesBack code other u)
          (near : Near z S.may S.lowest other.stack u.stack)
          (runs_u : RunsIn z S.size S.fuel (facts S.around (S.cut w c st.output)) own st u) where
        abbrev cut_world : Piece S.World
        cut_world = Host (S.cut w c st.output)

        -- the cells of the variables, and those behind them, are as they were
        cell_kept : (x : ℕ)
            → word_at u.stack (pos (z + value_cell x)) ≡ word_at other.stack (pos
            (z + value_cell x))
        cell_kept x = by_level (cases_lt x S.lowest)
          where
            by_level : (x < S.lowest) ⊎ (S.lowest ≤ x)
                → word_at u.stack (pos (z + value_cell x))
                ≡ word_at other.stack (pos (z + value_cell x))
            by_level (inl below) = near.vars x below
            by_level (inr above) = near.above (z + value_cell x) (omega (arith, above))

        shows_cut : ShowsIn code heartbeat z act fuel Turning cut_world q.names st u
        shows_cut = record {
          size = gone.size;
          base = gone.base ∙ t.shows.base;
          limit = runs_u.limit ∙ t.shows.limited;
          limited = t.shows.limited;
          tall = t.shows.tall;
          ticks = runs_u.ticks;
          within = t.shows.within;
          begun = runs_u.begun;
          printed = runs_u.printed;
          ends = runs_u.ends;
          free = runs_u.free;
          unmet = runs_u.unmet;
          marked = runs_u.marked;
          named = t.shows.named;
          few = t.shows.few;
          tabled = t.shows.tabled;
          held = runs_u.held;
          can = runs_u.can;
          ranged = t.shows.ranged;
          levels = near.levels ∙ t.shows.levels;
          unmarked =
              ap (λ (ms : List Mark). is_marked_from ms (z + act.size)) runs_u.marked
              ∙ clear_above (S.marks (S.cut w c st.output) ++ own) (z + value_cell (suc level))
              (z + act.size) (omega (arith, t.shows.top, t.shows.room, q.fits))
              (clear_of code heartbeat z act q S lowest true cut_world);
          top = near.top ∙ t.shows.top;
          low = near.low;
          room = omega (arith, near.top, t.shows.room);
          vars = held_same other.stack u.stack z 0 st.vars (λ x low high. cell_kept x) t.shows.vars;
          keeps = record {
            outer = runs_u.keeps;
            rec = near.own q.site.rec free_rec ∙ t.shows.keeps.rec;
            next = cell_kept level ∙ t.shows.keeps.next;
            bound = near.above (z + bound_cell level) (omega (arith, lowest)) ∙ t.shows.keeps.bound;
            fixed = fixed_same q.loop.reduces.items other.stack u.stack z 0 vs
                (λ x below others. cell_kept x) t.shows.keeps.fixed;
            enough = tt;
          };
        }

      -- what is owed where the mark of another loop, or of a pair of calls, is the oldest
      pub outer_handles : (S.diverted w (then r k)).Holds other
      outer_handles =
          S.handles opened w own (then r k) st other outer own_from t.turned runs
          (uncut_goes_on (Host w) st r other t)
          (λ c u gone near runs_u.
          t.goes_on (Host (S.cut w c st.output)) u gone (shows_cut c u gone near runs_u))

    -- ---- a beat at the promotion point

    module _ (head : ℕ) (ready : note_of (block_at code head) ≡ note.Ready S.dispatch)
        (i : Piece S.World) (st : meaning.State) (r : Result) (state : machine.State)
        (shows : ShowsIn code heartbeat z act fuel Turning i q.names st state)
        (beats : is_diverted heartbeat (has_mark state.stack) true (advanced state).beat ≡ true)
        (turn : (o : Piece S.World) (task : machine.State)
        → ShowsIn code heartbeat z act fuel Turning o q.names st task → task.block ≡ head
        → task.at ≡ 0 → (P.owing o r).Holds task) where
      -- the task that was diverted
      abbrev other : machine.State
      other = diverted_to heartbeat head S.dispatch state

      pub is_turned : IsDiverted S.dispatch other
      is_turned =
          let is = beat_is heartbeat (has_mark state.stack) (advanced state).beat beats in
          record {
            block = refl;
            at = refl;
            quiet = ap (λ (b : BeatState). b.quiet) is;
            granted = ap (λ (b : BeatState). b.granted) is;
          }

      base_kept : register other.registers 31 ≡ register state.registers 31
      base_kept =
          register_other state.registers 30 31 (word.Label head)
          (λ (e : 31 ≡ 30). absurd (omega (arith, e)))

      pub label_there : register other.registers 30 ≡ word.Label head
      label_there = register_set state.registers 30 (word.Label head) (omega (arith, shows.size))

      pub turned_at_head : IsTurned i st r other
      turned_at_head = record {
        shows = shows_words code heartbeat z act fuel Turning i shows other.registers
            (length-set state.registers 30 (word.Label head)) base_kept;
        turned = is_turned;
        goes_on = λ o u gone shows_u.
            goes_back_to code heartbeat head S.dispatch ready (P.owing o r) other u label_there gone
            (turn o (goes_in heartbeat head u) shows_u refl refl);
      }
