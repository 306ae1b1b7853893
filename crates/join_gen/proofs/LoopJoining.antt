-- The join of a loop: a side ends, and both are combined.
use Rattle.std.proofs.Common.{◌≡◌, ℕ, ◌+◌, Bool, false, List, [], ◌∷◌, ◌++◌, length, drop, None}
use Rattle.std.proofs.Common.{Some, refl, ap, sym, subst, ◌∙◌, arith, append-nil}
use Rattle.std.specs.Prelude.{ℤ, pos}
use Rattle.beat_count.specs.BeatState.{BeatState}
use Rattle.beat_count.specs.Heartbeat.{counted, no_beat}
use Rattle.frame_machine.specs.Splitting.{merged}
use Rattle.tp_value.specs.declared.values.Stop.TheVariants.{Done}
use Rattle.tpal_syntax.specs.Conditions.{is_ready}
use Rattle.tpal_syntax.specs.declared.instructions.Term.TheVariants as term
use Rattle.tpal_syntax.specs.declared.instructions.Value.TheVariants as value
use Rattle.tpal_syntax.specs.declared.sites.LoopSite.{LoopSite}
use Rattle.tpal_syntax.specs.declared.words.Word.{Word}
use Rattle.tpal_syntax.specs.declared.words.Word.TheVariants.{Int, Rec}
use Rattle.tpal_syntax.specs.Listing.{Listing}
use Rattle.tpal_machine.specs.declared.ends.Ending.TheVariants as ending
use Rattle.tpal_machine.specs.declared.ends.Side.{Side}
use Rattle.tpal_machine.specs.declared.ends.SideName.{SideName}
use Rattle.tpal_machine.specs.Effect.{with_stack}
use Rattle.tpal_machine.specs.Ended.{ended_at, side_of, words_of, slices_of}
use Rattle.tpal_machine.specs.Merge.{merged_task, merged_registers}
use Rattle.tpal_machine.specs.Reading.{register, block_at, note_of, the_target, target_of, or_plain}
use Rattle.tpal_machine.specs.RestState.{RestState}
use Rattle.tpal_machine.specs.State.{State}
use Rattle.tpal_machine.specs.Step.{Ends, step, advanced}
use Rattle.tpal_machine.proofs.Kit.{Back, IsCalm}
use Rattle.expr_lower.specs.Leaving.{moved}
use Rattle.expr_lower.specs.Standing.{Remains, AreAt}
use Rattle.expr_lower.proofs.Standing.{at_end}
use Rattle.handler_gen.specs.Blocks.{loop_target, loop_renames, renames_from, to}
use Rattle.handler_gen.specs.Reaching.{Reaches}
use Rattle.handler_gen.specs.Reaching as reaching
use Rattle.handler_gen.specs.Sites.{IsLoopSite, target_label, comb_label, side_label, over_label}
use Rattle.handler_gen.proofs.Marks.{ends_side, on_join}
use Rattle.handler_gen.proofs.Offsets.{accs_in}
use Rattle.handler_gen.proofs.Straight.{enters}
use Rattle.join_gen.specs.Blocks.{loads_from, combines_from, loop_target_block, loop_comb_block}
use Rattle.join_gen.specs.Blocks.{side_block, loop_join_blocks}
use Rattle.join_gen.specs.LoopJoins.{IsAtSide, ComesToEnd, loop_side, words_from, AreSidesOfLoop}
use Rattle.join_gen.specs.LoopJoins.{Combines, IsRoundJoin, JoinsLoop, with_numbers, ops_of, handed}
use Rattle.join_gen.proofs.Coming.{coming_to_end}
use Rattle.join_gen.proofs.Combining.{combines_all}
use Rattle.join_gen.proofs.Filled.{AreMerged, are_merged}
use Rattle.join_gen.proofs.Loads.{AreLoaded, loads_all}

-- the words of two lists of registers
words_append : (words : List Word) (xs ys : List (ℕ × ℕ)) → words_of words (xs ++ ys) ≡ words_of words xs ++ words_of words ys
words_append words [] ys = refl
words_append words (x ∷ xs) ys = ap (λ l. (x.0, register words x.0) ∷ l) (words_append words xs ys)

module _ (code : Listing) (heartbeat : ℕ) (site : LoopSite) (right : IsLoopSite site) (stands : AreAt code (target_label site.label) (loop_join_blocks site)) (round : IsRoundJoin code site) where
  target_is : the_target code (target_label site.label) ≡ loop_target site
  target_is = ap (λ b. or_plain (target_of (note_of b))) stands.0

  calm_target : IsCalm code (target_label site.label)
  calm_target = ap (λ b. is_ready (note_of b)) stands.0

  comb_found : block_at code (comb_label site.label) ≡ Some (loop_comb_block site)
  comb_found =
      let same : target_label site.label + 1 ≡ comb_label site.label = omega arith in
      subst (λ (l : ℕ). block_at code l ≡ Some (loop_comb_block site)) same stands.1.0

  side_found : block_at code (side_label site.label) ≡ Some (side_block site)
  side_found =
      let same : target_label site.label + 1 + 1 ≡ side_label site.label = omega arith in
      subst (λ (l : ℕ). block_at code l ≡ Some (side_block site)) same stands.1.1.0

  -- ---- a side ends

  module _ (z k : ℕ) (side : SideName) (values : List Word) (state : State) (at : IsAtSide site z k side values state) where
    abbrev own_end : Back code heartbeat
    own_end = coming_to_end code heartbeat (ending.At k side (loop_side site values k state))

    starts : Remains code state.block state.at (loads_from 0 site.accs ++ []) (term.Join 24)
    starts = record {
      block = side_block site;
      found = ap (block_at code) at.block ∙ side_found;
      rest = ap (λ n. drop n (side_block site).body) at.at ∙ sym (append-nil (loads_from 0 site.accs));
      ends = refl;
    }

    module _ (words : List Word) (beat : BeatState) (there : ℕ) (m : AreLoaded 0 site.accs values state.registers words) (left : Remains code state.block there [] (term.Join 24)) where
      abbrev last : State
      last = moved state words beat there

      rec_in : register words 24 ≡ Rec k
      rec_in = m.above 24 (omega (arith, right.few_accs)) ∙ at.rec

      all_words : words_of words (loop_renames site) ≡ words_from 0 values ++ (24, Rec k) ∷ []
      all_words =
          words_append words (renames_from 0 site.accs) ((24, 25) ∷ [])
          ∙ (ap (λ l. l ++ (24, register words 24) ∷ []) m.handed ∙ ap (λ u. words_from 0 values ++ (24, u) ∷ []) rec_in)

      ends_so : (allowed : Bool) → step code heartbeat allowed last ≡ Ends (ending.At k side (loop_side site values k state))
      ends_so allowed =
          ends_side code heartbeat last 24 k (target_label site.label) side (at_end code last (term.Join 24) left) rec_in at.goal at.unmet at.free allowed
          ∙ (ap (λ g. Ends (ended_at g code Done (advanced last))) at.goal
          ∙ (ap (λ t. Ends (ending.At k side (side_of t Done (advanced last)))) target_is
          ∙ ap (λ (ws : List (ℕ × Word)). Ends (ending.At k side (record { stop = Done; ticks = state.fuel.ticks; output = state.output; words = ws; slices = slices_of state.tables site.carries }))) all_words))

      comes_there : ComesToEnd code heartbeat (ending.At k side (loop_side site values k state)) last
      comes_there = record { last = last; comes = reaching.here last; ends = ends_so }

    ends_here : ComesToEnd code heartbeat (ending.At k side (loop_side site values k state)) state
    ends_here =
        loads_all code heartbeat own_end (term.Join 24) state z [] site.accs values 0 state.registers state.beat state.at (omega (arith, right.few_accs)) at.size at.base at.accs starts (λ words beat there m left.
        comes_there words beat there m left)

  -- ---- both are combined

  module _ (lefts rights : List ℤ) (rest : RestState) (left_side right_side : Side) (ticks : ℕ) (output : List ℕ) (are : AreSidesOfLoop site lefts rights rest left_side right_side) where
    abbrev task : State
    task = merged_task (loop_target site) rest left_side right_side ticks output

    filled_in : AreMerged rest.base rest.rec lefts rights task.registers
    filled_in =
        let words : merged_registers rest.base (loop_renames site) left_side.words right_side.words ≡ merged_registers rest.base (loop_renames site) (handed lefts rest.rec) (handed rights rest.rec) =
        ap (λ (ws : List (ℕ × Word)). merged_registers rest.base (loop_renames site) ws right_side.words) are.left_words ∙ ap (λ (ws : List (ℕ × Word)). merged_registers rest.base (loop_renames site) (handed lefts rest.rec) ws) are.right_words in
        subst (AreMerged rest.base rest.rec lefts rights) (sym words) (are_merged site.accs right.few_accs rest.base rest.rec lefts rights are.left_many are.right_many)

    starts_comb : Remains code task.block task.at (combines_from 0 site.accs ++ []) (term.Join 24)
    starts_comb = record { block = loop_comb_block site; found = comb_found; rest = sym (append-nil (combines_from 0 site.accs)); ends = refl }

    abbrev done : State
    done = with_stack task (with_numbers site.accs rest.base (merged (ops_of site.accs) lefts rights) rest.stack)

    met_is : task.met ≡ Some (record { rec = rest.rec; target = target_label site.label })
    met_is = ap (λ (t : ℕ). Some (record { rec = rest.rec; target = t })) are.target

    abbrev behind_join : List Word → BeatState → State
    behind_join words beat = record done { registers = words; beat = beat; block = over_label site.label; at = 0; met = None }

    -- a task comes to where the merged one goes on
    record GoesOnFrom (from : State) : Type 0 where
      words : List Word
      beat : BeatState
      size : length words ≡ 32
      base : register words 31 ≡ Int (pos rest.base)
      loud : beat.quiet ≡ false
      granted : beat.granted ≡ false
      comes : Reaches code heartbeat from (behind_join words beat)

    abbrev goes_on : Back code heartbeat
    goes_on = record {
      Holds = GoesOnFrom;
      back = λ from after is c. record {
        words = c.words;
        beat = c.beat;
        size = c.size;
        base = c.base;
        loud = c.loud;
        granted = c.granted;
        comes = reaching.goes_on from after (behind_join c.words c.beat) is c.comes;
      };
    }

    from_comb : GoesOnFrom task
    from_comb =
        combines_all code heartbeat goes_on (term.Join 24) rest.base site.cells [] site.accs lefts rights task 0 task.registers no_beat 0 (omega (arith, right.few_accs)) are.left_many are.right_many (accs_in site right)
        filled_in.size filled_in.base_in filled_in.lefts_in filled_in.rights_in (record { low = are.held.0; high = are.held.1 }) starts_comb (λ others later there h quiet granted left.
        let met : State = record done { block = target_label site.label; met = None } in
        let size : length others ≡ 32 = h.size ∙ filled_in.size in
        let base : register others 31 ≡ Int (pos rest.base) = h.high 31 (omega arith) ∙ filled_in.base_in in
        let rec_in : register others 24 ≡ Rec rest.rec = h.high 24 (omega arith) ∙ filled_in.rec_in in
        let stands_target : Remains code met.block 0 [] (to (over_label site.label)) = record { block = loop_target_block site; found = stands.0; rest = refl; ends = refl } in
        on_join code heartbeat goes_on (moved done others later there) 24 rest.rec (target_label site.label) (at_end code (moved done others later there) (term.Join 24) left) rec_in met_is refl calm_target
        (enters code heartbeat goes_on met others (counted later) 0 (value.Label (over_label site.label)) (over_label site.label) stands_target refl round.over
        (record {
          words = others;
          beat = counted (counted later);
          size = size;
          base = base;
          loud = quiet;
          granted = granted;
          comes = reaching.here _;
        })))

    combines_here : Combines code heartbeat site lefts rights rest task
    combines_here = record {
      words = from_comb.words;
      beat = from_comb.beat;
      size = from_comb.size;
      base = from_comb.base;
      loud = from_comb.loud;
      granted = from_comb.granted;
      comes = from_comb.comes;
    }

  pub joins_loop : JoinsLoop code heartbeat site
  joins_loop = record {
    ends = λ z k side values state at. ends_here z k side values state at;
    combines = λ lefts rights rest left_side right_side ticks output are. combines_here lefts rights rest left_side right_side ticks output are;
  }
