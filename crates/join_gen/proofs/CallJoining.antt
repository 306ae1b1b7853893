-- The join of a pair of calls: the child and the left end, and the task goes on with both values.
use Rattle.std.proofs.Common.{◌≡◌, ℕ, ◌+◌, ◌≤◌, ◌^◌, List, [], ◌∷◌, length, drop, None, Some, Ok}
use Rattle.std.proofs.Common.{refl, ap, subst, ◌∙◌, arith}
use Rattle.std.proofs.lemmas.Int.{ints, int_wrap_fits}
use Rattle.std.proofs.lemmas.List.{length-set}
use Rattle.std.specs.Int.{w64}
use Rattle.std.specs.Prelude.{pos, ◌-ℤ◌, slice_set}
use Rattle.beat_count.specs.BeatState.{BeatState}
use Rattle.beat_count.specs.Heartbeat.{counted, no_beat}
use Rattle.stack_marks.specs.Stacks.{word_at}
use Rattle.tp_value.specs.Number.{wrapped}
use Rattle.tp_value.specs.declared.values.Stop.TheVariants.{Done}
use Rattle.tpal_syntax.specs.Conditions.{is_ready}
use Rattle.tpal_syntax.specs.declared.instructions.Alu.TheVariants as alu
use Rattle.tpal_syntax.specs.declared.instructions.Instr.TheVariants as instr
use Rattle.tpal_syntax.specs.declared.instructions.Term.TheVariants as term
use Rattle.tpal_syntax.specs.declared.instructions.Value.TheVariants as value
use Rattle.tpal_syntax.specs.declared.sites.CallSite.{CallSite}
use Rattle.tpal_syntax.specs.declared.words.Word.{Word}
use Rattle.tpal_syntax.specs.declared.words.Word.TheVariants.{Int, Rec}
use Rattle.tpal_syntax.specs.Listing.{Listing}
use Rattle.tpal_machine.specs.Calculation.{calculated}
use Rattle.tpal_machine.specs.declared.ends.Ending.TheVariants as ending
use Rattle.tpal_machine.specs.declared.ends.Side.{Side}
use Rattle.tpal_machine.specs.declared.ends.SideName.{SideName}
use Rattle.tpal_machine.specs.Ended.{ended_at, side_of}
use Rattle.tpal_machine.specs.Merge.{merged_task, merged_registers}
use Rattle.tpal_machine.specs.Reading.{register, block_at, note_of, the_target, target_of, or_plain}
use Rattle.tpal_machine.specs.RestState.{RestState}
use Rattle.tpal_machine.specs.State.{State, no_words}
use Rattle.tpal_machine.specs.Step.{Ends, advanced}
use Rattle.tpal_machine.proofs.Kit.{Back, IsCalm}
use Rattle.expr_lower.specs.Leaving.{moved}
use Rattle.expr_lower.specs.Standing.{Remains, AreAt}
use Rattle.expr_lower.proofs.Keeping.{register_set, register_other}
use Rattle.expr_lower.proofs.Standing.{at_end}
use Rattle.handler_gen.specs.Blocks.{call_target, to}
use Rattle.handler_gen.specs.Reaching as reaching
use Rattle.handler_gen.specs.Sites.{target_label, comb_label, child_end_label, left_end_label}
use Rattle.handler_gen.specs.Sites.{joined_label}
use Rattle.handler_gen.proofs.Marks.{ends_side, on_join}
use Rattle.handler_gen.proofs.Reaching.{reaching_task}
use Rattle.handler_gen.proofs.Straight.{calculates, loads, enters}
use Rattle.join_gen.specs.Blocks.{call_target_block, call_comb_block, child_end_block}
use Rattle.join_gen.specs.Blocks.{left_end_block, call_join_blocks}
use Rattle.join_gen.specs.CallJoins.{call_side, HasReturned, AreSidesOfCalls, Meets, IsRoundMeeting}
use Rattle.join_gen.specs.CallJoins.{JoinsCalls}
use Rattle.join_gen.specs.LoopJoins.{ComesToEnd}
use Rattle.join_gen.proofs.Coming.{coming_to_end}

module _ (code : Listing) (heartbeat : ℕ) (site : CallSite) (stands : AreAt code (target_label site.label) (call_join_blocks site)) (round : IsRoundMeeting code site) where
  target_is : the_target code (target_label site.label) ≡ call_target site
  target_is = ap (λ b. or_plain (target_of (note_of b))) stands.0

  calm_target : IsCalm code (target_label site.label)
  calm_target = ap (λ b. is_ready (note_of b)) stands.0

  comb_found : block_at code (comb_label site.label) ≡ Some (call_comb_block site)
  comb_found =
      let same : target_label site.label + 1 ≡ comb_label site.label = omega arith in
      subst (λ (l : ℕ). block_at code l ≡ Some (call_comb_block site)) same stands.1.0

  child_found : block_at code (child_end_label site.label) ≡ Some (child_end_block site)
  child_found =
      let same : target_label site.label + 1 + 1 ≡ child_end_label site.label = omega arith in
      subst (λ (l : ℕ). block_at code l ≡ Some (child_end_block site)) same stands.1.1.0

  left_found : block_at code (left_end_label site.label) ≡ Some (left_end_block site)
  left_found =
      let same : target_label site.label + 1 + 1 + 1 ≡ left_end_label site.label = omega arith in
      subst (λ (l : ℕ). block_at code l ≡ Some (left_end_block site)) same stands.1.1.1.0

  -- ---- ends

  module _ (label position k : ℕ) (side : SideName) (given : Word) (state : State) (at : HasReturned site label position k side given state) where
    abbrev own : Back code heartbeat
    own = coming_to_end code heartbeat (ending.At k side (call_side given k state))

    abbrev call_side_of : Word → Word → Side
    call_side_of first second = record { stop = Done; ticks = state.fuel.ticks; output = state.output; words = (0, first) ∷ (24, second) ∷ []; slices = [] }

    -- a side whose value and record are in their registers ends
    ends_with : (words : List Word) (beat : BeatState) (there : ℕ) → register words 0 ≡ given → register words 24 ≡ Rec k → Remains code state.block there [] (term.Join 24) → ComesToEnd code heartbeat (ending.At k side (call_side given k state)) (moved state words beat there)
    ends_with words beat there value_in rec_in left =
        let last : State = moved state words beat there in
        record {
          last = last;
          comes = reaching.here last;
          ends = λ allowed.
              ends_side code heartbeat last 24 k (target_label site.label) side (at_end code last (term.Join 24) left) rec_in at.goal at.unmet at.free allowed
              ∙ (ap (λ g. Ends (ended_at g code Done (advanced last))) at.goal
              ∙ (ap (λ t. Ends (ending.At k side (side_of t Done (advanced last)))) target_is
              ∙ (ap (λ u. Ends (ending.At k side (call_side_of u (register words 24)))) value_in ∙ ap (λ u. Ends (ending.At k side (call_side_of given u))) rec_in)));
        }

  child_ends : (z k : ℕ) (side : SideName) (given : Word) (state : State) → HasReturned site (child_end_label site.label) (z + site.cells) k side given state → z + site.cells ≤ 2 ^ 62 → word_at state.stack (pos (z + site.rec)) ≡ Some (Rec k)
      → ComesToEnd code heartbeat (ending.At k side (call_side given k state)) state
  child_ends z k side given state at low cell =
      let K : Back code heartbeat = coming_to_end code heartbeat (ending.At k side (call_side given k state)) in
      let starts : Remains code state.block state.at (instr.Calc 31 31 alu.Sub (value.Int (pos site.cells)) ∷ instr.Load 24 31 site.rec ∷ []) (term.Join 24) = record {
        block = child_end_block site;
        found = ap (block_at code) at.block ∙ child_found;
        rest = ap (λ n. drop n (child_end_block site).body) at.at;
        ends = refl;
      } in
      let lowered : List Word = slice_set state.registers 31 (Int (pos z)) in
      let base : register lowered 31 ≡ Int (pos z) = register_set state.registers 31 (Int (pos z)) (omega (arith, at.size)) in
      calculates code heartbeat K (term.Join 24) state state.registers state.beat state.at (instr.Load 24 31 site.rec ∷ []) 31 31 alu.Sub (value.Int (pos site.cells)) (Int (pos z)) starts
      (ap (λ u. calculated alu.Sub u (Int (pos site.cells))) at.base ∙ ap (λ n. Ok (Int n)) (sub_is z site.cells low)) (λ left.
      loads code heartbeat K (term.Join 24) state lowered (counted state.beat) (state.at + 1) [] 24 31 site.rec (pos z) (Rec k) left base cell (λ left.
      ends_with (child_end_label site.label) (z + site.cells) k side given state at (slice_set lowered 24 (Rec k)) (counted (counted state.beat)) (state.at + 1 + 1)
      (register_other lowered 24 0 (Rec k) (λ e. absurd (omega (arith, e))) ∙ (register_other state.registers 31 0 (Int (pos z)) (λ e. absurd (omega (arith, e))) ∙ at.value))
      (register_set lowered 24 (Rec k) (omega (arith, length-set state.registers 31 (Int (pos z)), at.size))) left))
    where
      sub_is : (z cells : ℕ) → z + cells ≤ 2 ^ 62 → wrapped (pos (z + cells) -ℤ pos cells) ≡ pos z
      sub_is z cells low =
          let same : pos (z + cells) -ℤ pos cells ≡ pos z = omega (arith, ints) in
          ap wrapped same ∙ int_wrap_fits w64 (pos z) (omega (arith, ints, low))

  left_ends : (position k : ℕ) (side : SideName) (given : Word) (state : State) → HasReturned site (left_end_label site.label) position k side given state → word_at state.stack (pos (position + 1)) ≡ Some (Rec k)
      → ComesToEnd code heartbeat (ending.At k side (call_side given k state)) state
  left_ends position k side given state at cell =
      let K : Back code heartbeat = coming_to_end code heartbeat (ending.At k side (call_side given k state)) in
      let starts : Remains code state.block state.at (instr.Load 24 31 1 ∷ []) (term.Join 24) = record {
        block = left_end_block site;
        found = ap (block_at code) at.block ∙ left_found;
        rest = ap (λ n. drop n (left_end_block site).body) at.at;
        ends = refl;
      } in
      loads code heartbeat K (term.Join 24) state state.registers state.beat state.at [] 24 31 1 (pos position) (Rec k) starts at.base cell (λ left.
      ends_with (left_end_label site.label) position k side given state at (slice_set state.registers 24 (Rec k)) (counted state.beat) (state.at + 1)
      (register_other state.registers 24 0 (Rec k) (λ e. absurd (omega (arith, e))) ∙ at.value)
      (register_set state.registers 24 (Rec k) (omega (arith, at.size))) left)

  -- ---- both meet

  module _ (first second : Word) (rest : RestState) (left_side right_side : Side) (ticks : ℕ) (output : List ℕ) (are : AreSidesOfCalls site first second rest left_side right_side) where
    abbrev task : State
    task = merged_task (call_target site) rest left_side right_side ticks output

    abbrev based : List Word
    based = slice_set no_words 31 (Int (pos rest.base))

    abbrev with_first : List Word
    with_first = slice_set (slice_set based 0 first) 24 (Rec rest.rec)

    abbrev with_both : List Word
    with_both = slice_set (slice_set with_first 1 second) 25 (Rec rest.rec)

    words_are : task.registers ≡ with_both
    words_are =
        ap (λ (ws : List (ℕ × Word)). merged_registers rest.base ((0, 1) ∷ (24, 25) ∷ []) ws right_side.words) are.left_words
        ∙ ap (λ (ws : List (ℕ × Word)). merged_registers rest.base ((0, 1) ∷ (24, 25) ∷ []) ((0, first) ∷ (24, Rec rest.rec) ∷ []) ws) are.right_words

    -- what a register holds, where it is another one than those that were set last
    long : length with_both ≡ 32
    long =
        length-set (slice_set with_first 1 second) 25 (Rec rest.rec) ∙ (length-set with_first 1 second
        ∙ (length-set (slice_set based 0 first) 24 (Rec rest.rec) ∙ (length-set based 0 first ∙ length-set no_words 31 (Int (pos rest.base)))))

    from_first : (q : ℕ) → ((q ≡ 1) → ⊥) → ((q ≡ 25) → ⊥) → register with_both q ≡ register with_first q
    from_first q not_1 not_25 = register_other (slice_set with_first 1 second) 25 q (Rec rest.rec) not_25 ∙ register_other with_first 1 q second not_1

    base_in : register with_both 31 ≡ Int (pos rest.base)
    base_in =
        from_first 31 (λ e. absurd (omega (arith, e))) (λ e. absurd (omega (arith, e)))
        ∙ (register_other (slice_set based 0 first) 24 31 (Rec rest.rec) (λ e. absurd (omega (arith, e)))
        ∙ (register_other based 0 31 first (λ e. absurd (omega (arith, e))) ∙ register_set no_words 31 (Int (pos rest.base)) (omega arith)))

    first_in : register with_both 0 ≡ first
    first_in =
        from_first 0 (λ e. absurd (omega (arith, e))) (λ e. absurd (omega (arith, e)))
        ∙ (register_other (slice_set based 0 first) 24 0 (Rec rest.rec) (λ e. absurd (omega (arith, e))) ∙ register_set based 0 first (omega (arith, length-set no_words 31 (Int (pos rest.base)))))

    second_in : register with_both 1 ≡ second
    second_in =
        register_other (slice_set with_first 1 second) 25 1 (Rec rest.rec) (λ e. absurd (omega (arith, e)))
        ∙ register_set with_first 1 second (omega (arith, length-set (slice_set based 0 first) 24 (Rec rest.rec), length-set based 0 first, length-set no_words 31 (Int (pos rest.base))))

    rec_in : register with_both 24 ≡ Rec rest.rec
    rec_in =
        from_first 24 (λ e. absurd (omega (arith, e))) (λ e. absurd (omega (arith, e)))
        ∙ register_set (slice_set based 0 first) 24 (Rec rest.rec) (omega (arith, length-set based 0 first, length-set no_words 31 (Int (pos rest.base))))

    meets_here : Meets code heartbeat site first second rest task
    meets_here =
        let starts : Remains code task.block task.at [] (term.Join 24) = record { block = call_comb_block site; found = comb_found; rest = refl; ends = refl } in
        let met : State = record task { block = target_label site.label; met = None } in
        let stands_target : Remains code met.block 0 [] (to (joined_label site.label)) = record { block = call_target_block site; found = stands.0; rest = refl; ends = refl } in
        let last : State = record task { beat = counted (counted no_beat); block = joined_label site.label; at = 0; met = None } in
        record {
          words = task.registers;
          beat = counted (counted no_beat);
          size = ap length words_are ∙ long;
          base = ap (λ ws. register ws 31) words_are ∙ base_in;
          first_value = ap (λ ws. register ws 0) words_are ∙ first_in;
          second_value = ap (λ ws. register ws 1) words_are ∙ second_in;
          loud = refl;
          granted = refl;
          comes =
              on_join code heartbeat (reaching_task code heartbeat last) task 24 rest.rec (target_label site.label) (at_end code task (term.Join 24) starts) (ap (λ ws. register ws 24) words_are ∙ rec_in)
              (ap (λ (t : ℕ). Some (record { rec = rest.rec; target = t })) are.target) refl calm_target
              (enters code heartbeat (reaching_task code heartbeat last) met task.registers (counted no_beat) 0 (value.Label (joined_label site.label)) (joined_label site.label) stands_target refl round.joined (reaching.here last));
        }

  pub joins_calls : JoinsCalls code heartbeat site
  joins_calls = record {
    child_ends = λ z k side given state at low cell. child_ends z k side given state at low cell;
    left_ends = λ position k side given state at cell. left_ends position k side given state at cell;
    meets = λ first second rest left_side right_side ticks output are. meets_here first second rest left_side right_side ticks output are;
  }
