-- The promotion point of a `par` that may be cut in the middle of an iteration: what a task owes
-- that jumps to it, by what it owes behind it and where it is diverted.
use Rattle.std.proofs.Common.{◌≡◌, ℕ, zero, suc, ◌≤◌, Bool, true, false, List, [], ◌∷◌, length}
use Rattle.std.proofs.Common.{refl, sym, ap, subst, ◌∙◌}
use Rattle.std.specs.Prelude.{ℤ, pos, ◌+ℤ◌, is_some, slice_get}
use Rattle.beat_count.specs.Heartbeat.{is_diverted}
use Rattle.beat_count.specs.Ticks.{is_tick_allowed}
use Rattle.stack_marks.specs.declared.mark.Mark.{Mark}
use Rattle.tp_value.specs.declared.limits.TheConstants.{MAX_PAR_LENGTH}
use Rattle.loop_meaning.specs.InRange.{InRange}
use Rattle.loop_meaning.specs.State as meaning
use Rattle.loop_meaning.specs.State.{Chance, Note}
use Rattle.loop_meaning.specs.Statements.{iterate}
use Rattle.tpal_syntax.specs.declared.notes.Note.TheVariants as note
use Rattle.tpal_syntax.specs.Listing.{Listing}
use Rattle.tpal_machine.specs.Effect.{has_mark}
use Rattle.tpal_machine.specs.Owes.{is_at_point}
use Rattle.tpal_machine.specs.Reading.{block_at, note_of}
use Rattle.tpal_machine.specs.State as machine
use Rattle.tpal_machine.specs.Step.{advanced, entered_ready, step}
use Rattle.expr_lower.specs.Standing.{Remains}
use Rattle.expr_lower.proofs.Standing.{at_end}
use Rattle.handler_gen.proofs.Ready.{diverted_to, goes_in}
use Rattle.scene_laws.specs.Code.{to}
use Rattle.scene_laws.specs.DeepMarked.{next_begun}
use Rattle.scene_laws.specs.Layout.{Activation}
use Rattle.par_laws.proofs.DeepPars.DeepRunning.{are_any}
use Rattle.par_laws.proofs.DeepPars.DeepScenes.{Deep, between, body, enough_of, marks_of, pieces}
use Rattle.par_laws.proofs.DeepPars.DeepScenes.{variable}
use Rattle.form_laws.proofs.Entering.{jumps_in, on_entry, on_unmarked}
use Rattle.scene_laws.proofs.Scenes.Pieces.{Apart, Host, Piece}
use Rattle.par_laws.proofs.QuietPars.QuietTests.{chance_by, chance_first, one_chance, some_mark}
use Rattle.scene_laws.proofs.Scenes.Regions.{AtMostAChance}
use Rattle.scene_laws.proofs.Scenes.Results.{Result, fin, noting, result}
use Rattle.scene_laws.proofs.Scenes.Scene.{ShowsIn}

module _ {code : Listing} {heartbeat z : ℕ} {act : Activation} (d : Deep code heartbeat z act) where
  abbrev level : ℕ
  level = length d.q.names

  -- a task shows so many iterations that aren't begun
  pub record IsAhead (n : ℕ) (m j : ℤ) (i : Piece d.S.World) (st : meaning.State)
      (task : machine.State) : Type 0 where
    pub shows : ShowsIn code heartbeat z act d.fuel (between d (are_any n) m j) i d.q.names st task
    pub enough : enough_of d i st.vars m j
    pub far : j ≡ m +ℤ pos n
    pub in_m : InRange m
    pub in_j : InRange j
    pub short : n ≤ MAX_PAR_LENGTH

  -- what is owed for so many iterations, the first of which notes no chance
  abbrev pub next_result : ℕ → ℤ → meaning.State → Result
  next_result n m st =
      result (iterate d.fuel (variable d) (body d) (Chance ∷ []) [] n m st)

  -- what a task owes where the next one begins, behind the promotion point or where there is none
  abbrev pub NextOwed : ℕ → Type 0
  NextOwed n =
      (m j : ℤ) (i : Piece d.S.World) (st : meaning.State) (task : machine.State)
      → IsAhead n m j i st task
      → Remains code task.block task.at (next_begun d.q.site level d.q.turn) (to d.q.is_deep.last)
      → ((pieces d).owing i (next_result n m st)).Holds task

  -- where it jumps to the promotion point
  abbrev pub HeadOwed : ℕ → Type 0
  HeadOwed n =
      (m j : ℤ) (i : Piece d.S.World) (st : meaning.State) (task : machine.State)
      → IsAhead n m j i st task → Remains code task.block task.at [] (to d.q.head)
      → ((pieces d).owing i
      (result (iterate d.fuel (variable d) (body d) (Chance ∷ []) (Chance ∷ []) n m st))).Holds task

  -- where it is diverted there
  abbrev pub DivertedOwed : ℕ → Type 0
  DivertedOwed n =
      (m j : ℤ) (i : Piece d.S.World) (st : meaning.State) (task : machine.State)
      → IsAhead n m j i st task
      → is_diverted heartbeat (has_mark task.stack) true (advanced task).beat ≡ true
      → ((pieces d).diverted i (next_result n m st)).Holds
      (diverted_to heartbeat d.q.head d.S.dispatch task)

  pub ready : note_of (block_at code d.q.head) ≡ note.Ready d.S.dispatch
  ready = ap note_of d.q.is_deep.next.found ∙ d.q.is_deep.next.noted

  pub opens_head : Remains code d.q.head 0 (next_begun d.q.site level d.q.turn)
      (to d.q.is_deep.last)
  opens_head = record {
    block = d.q.is_deep.next.block;
    found = d.q.is_deep.next.found;
    rest = d.q.is_deep.next.body;
    ends = d.q.is_deep.next.ends;
  }

  has_own : (i : Piece d.S.World) → is_some (slice_get (marks_of d true i) 0) ≡ true
  has_own (Host w) = some_mark (d.S.marks w) _
  has_own (Apart part) = refl

  module _ (n : ℕ) (m j : ℤ) (i : Piece d.S.World) (st : meaning.State) (task : machine.State)
      (h : IsAhead n m j i st task) where
    -- so it is where it entered the block
    pub ahead_in : IsAhead n m j i st (goes_in heartbeat d.q.head task)
    ahead_in = record {
      shows = h.shows;
      enough = h.enough;
      far = h.far;
      in_m = h.in_m;
      in_j = h.in_j;
      short = h.short;
    }

    module _ (owed : NextOwed n) (diverted : DivertedOwed n)
        (stands : Remains code task.block task.at [] (to d.q.head)) where
      abbrev r : Result
      r = next_result n m st

      enters : (allowed : Bool)
          → step code heartbeat allowed task
          ≡ entered_ready heartbeat allowed d.q.head d.S.dispatch (advanced task)
      enters =
          jumps_in code heartbeat task d.q.head d.S.dispatch
          (at_end code task (to d.q.head) stands) ready

      goes : ((pieces d).owing i r).Holds (goes_in heartbeat d.q.head task)
      goes = owed m j i st (goes_in heartbeat d.q.head task) ahead_in opens_head

      at_point : has_mark task.stack ≡ true
          → is_at_point code (goes_in heartbeat d.q.head task) ≡ true
      at_point marked = rw (ready, marked) refl

      -- a beat may divert it where a mark stands, and a chance may be noted there
      with_mark : (ns : List Note) → AtMostAChance ns → has_mark task.stack ≡ true
          → ((pieces d).owing i (noting ns r)).Holds task
      with_mark ns one marked =
          on_entry code heartbeat task d.q.head d.S.dispatch enters (pieces d) i ns r one
          (at_point marked) goes (λ beats. diverted m j i st task h beats)

      -- where none stands it goes on
      without_mark : has_mark task.stack ≡ false → ((pieces d).owing i r).Holds task
      without_mark unmarked =
          on_unmarked code heartbeat task d.q.head d.S.dispatch enters ((pieces d).owing i r)
          unmarked goes

  -- what a task owes at the promotion point; behind the last iteration a mark may stand or not
  pub head_owed : (n : ℕ) → NextOwed n → DivertedOwed n → HeadOwed n
  unfolding iterate
  head_owed zero owed diverted m j i st task h stands = by_mark (has_mark task.stack) refl
    where
      by_mark : (b : Bool) → has_mark task.stack ≡ b → ((pieces d).owing i (fin st)).Holds task
      by_mark true marked = with_mark zero m j i st task h owed diverted stands [] tt marked
      by_mark false unmarked = without_mark zero m j i st task h owed diverted stands unmarked
  head_owed (suc n) owed diverted m j i st task h stands =
      subst (λ (r : Result). ((pieces d).owing i r).Holds task)
      (sym (chance_first d.fuel (variable d) (body d) n m st))
      (with_mark (suc n) m j i st task h owed diverted stands
      (chance_by d.fuel (variable d) (body d) (is_tick_allowed d.fuel st.ticks))
      (one_chance d.fuel (variable d) (body d) (is_tick_allowed d.fuel st.ticks))
      (ap (λ (ms : List Mark). is_some (slice_get ms 0)) h.shows.marked ∙ has_own i))
