-- A diverted task whose oldest mark is that of a `par` owes an ending, where it owes it when it
-- goes back and where both parts of the cut end as sides that merge to it.
use Rattle.std.proofs.Common.{◌≡◌, ℕ, Bool, true, false, List, [], length, Option, Some, refl}
use Rattle.std.proofs.Common.{ap, subst, ◌∙◌}
use Rattle.std.specs.Prelude.{pos, ⊤}
use Rattle.beat_count.specs.BeatState.{BeatState}
use Rattle.stack_marks.specs.declared.mark.Mark.{Mark}
use Rattle.tp_value.specs.declared.Stop.TheVariants.{NoFuel}
use Rattle.tpal_syntax.specs.declared.blocks.Block.{Block}
use Rattle.tpal_syntax.specs.declared.notes.CarryAt.{CarryAt}
use Rattle.tpal_syntax.specs.declared.words.Word.{Word}
use Rattle.tpal_syntax.specs.declared.words.Word.TheVariants.{Int}
use Rattle.tpal_syntax.specs.Listing.{Listing}
use Rattle.tpal_machine.specs.Belongs.{RestBelongsTo}
use Rattle.tpal_machine.specs.declared.cut.TableCut.{TableCut}
use Rattle.tpal_machine.specs.declared.ends.Ending.{Ending}
use Rattle.tpal_machine.specs.declared.ends.Ending.TheVariants as ending
use Rattle.tpal_machine.specs.declared.ends.Side.{Side}
use Rattle.tpal_machine.specs.declared.ends.SideName.TheVariants.{Left, Right}
use Rattle.tpal_machine.specs.Effect.{answered}
use Rattle.tpal_machine.specs.Owes.{Bound, IsOtherRecord}
use Rattle.tpal_machine.specs.Reading.{register, note_of, target_of}
use Rattle.tpal_machine.specs.State.{State}
use Rattle.expr_lower.specs.Leaving.{moved_to}
use Rattle.handler_gen.specs.Halves.{KeepsPlace, IsCutInTwo, Work, asking}
use Rattle.handler_gen.specs.LoopCuts.{IsAtLoop, IsRoundLoop, CutsLoop, table_cuts}
use Rattle.handler_gen.specs.Sites.{target_label}
use Rattle.handler_gen.proofs.LoopCutting.{cuts_loop}
use Rattle.scene_laws.specs.Layout.{Activation}
use Rattle.scene_laws.proofs.Cuts.AtHandlers.{IsAtHandler, IsChild, MergesTo, SidesOwed, asks_owed}
use Rattle.scene_laws.proofs.Cuts.OldestCuts.{IsOldestCut}
use Rattle.scene_laws.proofs.Cuts.OldestPrepared.{IsPrepared, carries_are, prepares, prepared_at}
use Rattle.scene_laws.proofs.Cuts.OwnWork.{OwnCut, IsCutSite, cuts_by, own_child, own_halves}
use Rattle.scene_laws.proofs.Cuts.OwnWork.{own_left, own_rest, own_work}
use Rattle.scene_laws.proofs.Pairs.PairPromises.{ends_no_root}
use Rattle.scene_laws.proofs.Scenes.Promises.{CanRun, promising}
use Rattle.scene_laws.proofs.Cuts.RowLoads.{cut_in_rows}
use Rattle.scene_laws.proofs.Scenes.Scene.{GoesBack, IsUncut}

-- An ending where something is so, and else the end of the whole, to which no side comes.
abbrev pub only_where : Bool → Ending → Ending
only_where true e = e
only_where false e = ending.Root (record { stop = NoFuel; output = []; ticks = 0 })

-- What the parts of a cut owe under a record: the left and the child end as sides that merge to
-- what the diverted task owes. If the left could end as a side only where something is so, that is
-- so.
pub record PartsOwed (code : Listing) (heartbeat : ℕ) (c : OwnCut) (state : State) (e : Ending)
    (k : ℕ) : Type 0 where
  pub p : Side
  pub q : Side
  pub so : Bool
  pub left : (words : List Word) (beat : BeatState) → KeepsPlace state words beat
      → CanRun code (own_left c k state words beat)
      → Bound code heartbeat false 0 (own_left c k state words beat)
      (only_where so (ending.At k Left p))
  pub child : (words : List Word) (beat : BeatState) → length words ≡ 32
      → register words 31 ≡ Int (pos c.z) → CanRun code (own_child c k state words beat)
      → Bound code heartbeat false 0 (own_child c k state words beat) (ending.At k Right q)
  pub merged : so ≡ true → RestBelongsTo code (own_rest c k state)
      → MergesTo code heartbeat (own_rest c k state) p q e

module _ (code : Listing) (heartbeat : ℕ) {act : Activation} {names : List (List ℕ)}
    {depth cursor dispatch : ℕ} {c : OwnCut}
    (place : IsCutSite code act names depth cursor dispatch c) (state : State)
    {above : List Mark} (at : IsOldestCut dispatch c above state) where
  round : IsRoundLoop code c.site
  round = record {
    target = ap (λ (b : Option Block). target_of (note_of b)) place.is_site.join.0;
    first = place.first;
    none = place.none;
  }

  cuts : CutsLoop code heartbeat c.site
  cuts = cuts_loop code heartbeat c.site place.is_site.right place.is_site.handler round

  module _ (e : Ending)
      (back : (u : State) → GoesBack code state u → IsUncut state u → CanRun code u
      → Bound code heartbeat false 0 u e)
      (forks : (k : ℕ) → IsOtherRecord state.goal k → PartsOwed code heartbeat c state e k) where
    module _ (words : List Word) (beat : BeatState) (h : IsPrepared c state words beat) where
      abbrev task : State
      task = moved_to state words beat c.site.label 0

      abbrev waits : State
      waits = asking c.site.label task

      at_loop : IsAtLoop c.site c.z c.next c.middle c.end task
      at_loop = prepared_at code heartbeat place state at words beat h

      at_handler : IsAtHandler code dispatch c.site.label state words beat
      at_handler = record {
        found = place.is_site.handler.1.0;
        diverted = at.diverted;
        free = at.free;
        unmet = at.unmet;
        high = h.high;
        quiet = h.quiet;
      }

      -- the tables are cut in the rows that the registers hold
      same_cuts : table_cuts words c.middle c.site.carries
          ≡ cuts_by c.scope c.vars c.middle c.loop.carries.items
      same_cuts =
          ap (λ (cs : List CarryAt). table_cuts words c.middle cs)
          (carries_are code heartbeat place state at)
          ∙ cut_in_rows c.scope c.vars c.middle c.loop.carries.items 0 words h.rows

      abbrev work_with : List (ℕ × TableCut) → ℕ → Work
      work_with tables k = record {
        base = c.z;
        cells = c.site.cells;
        cuts = tables;
        rec = k;
        target = target_label c.site.label;
      }

      in_two : (k : ℕ) → IsCutInTwo code heartbeat (own_work c k state) (own_halves c k state) task
          (answered (Some k) waits)
      in_two k =
          subst (λ (tables : List (ℕ × TableCut)). IsCutInTwo code heartbeat (work_with tables k)
          (own_halves c k state) task (answered (Some k) waits)) same_cuts
          (cuts.cuts c.z c.next c.middle c.end task k at_loop)

      -- a left that couldn't end as a side would come to the end of the whole
      sides_owed : (k : ℕ) → PartsOwed code heartbeat c state e k → (left_words others : List Word)
          (left_beat later : BeatState) → KeepsPlace state left_words left_beat
          → CanRun code (own_left c k state left_words left_beat)
          → IsChild code c.z others (own_child c k state others later)
          → SidesOwed code heartbeat e k (own_left c k state left_words left_beat)
          (own_child c k state others later) (own_rest c k state)
      sides_owed k owed left_words others left_beat later keeps can_left child =
          by_left owed.so refl (owed.left left_words left_beat keeps can_left)
        where
          by_left : (so : Bool) → owed.so ≡ so
              → Bound code heartbeat false 0 (own_left c k state left_words left_beat)
              (only_where so (ending.At k Left owed.p))
              → SidesOwed code heartbeat e k (own_left c k state left_words left_beat)
              (own_child c k state others later) (own_rest c k state)
          by_left true so left = record {
            p = owed.p;
            q = owed.q;
            left_owes = left;
            child_owes = owed.child others later child.size child.base child.can;
            merged = owed.merged so;
          }
          by_left false so left =
              absurd (ends_no_root code heartbeat false 0 k (target_label c.site.label) Left
              (own_left c k state left_words left_beat)
              (record { stop = NoFuel; output = []; ticks = 0 }) refl left)

      handler_owed : CanRun code task → Bound code heartbeat true 0 task e
      handler_owed =
          asks_owed code heartbeat at_handler e (λ k. own_work c k state)
          (λ k. own_halves c k state) (cuts.asks c.z c.next c.middle c.end task at_loop)
          (cuts.goes_back c.z c.next c.middle c.end task at_loop) in_two back
          (λ k other. sides_owed k (forks k other))

    pub oldest_cut_owed : CanRun code state → Bound code heartbeat true 0 state e
    oldest_cut_owed can =
        prepares code heartbeat place state at (promising code heartbeat ⊤ true 0 e)
        (λ words beat h given can_task. handler_owed words beat h can_task) tt can
