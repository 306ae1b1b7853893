-- The merge of two sides where the left has printed something.
use Rattle.std.proofs.Common.{◌≡◌, ℕ, Bool, true, false, cond, List, [], ◌++◌, append-nil, refl, ap}
use Rattle.std.proofs.Common.{◌∙◌}
use Rattle.beat_count.specs.Joining.{joined_stop, joined_ticks}
use Rattle.tp_value.specs.declared.Stop.{Stop}
use Rattle.tp_value.specs.declared.Stop.TheVariants.{Done, Left, NoFuel, Trap}
use Rattle.tpal_syntax.specs.declared.notes.Target.{Target}
use Rattle.tpal_syntax.specs.Listing.{Listing}
use Rattle.tpal_machine.specs.declared.ends.Ending.TheVariants as ending
use Rattle.tpal_machine.specs.declared.ends.Goal.{Goal}
use Rattle.tpal_machine.specs.declared.ends.Goal.TheVariants as goal
use Rattle.tpal_machine.specs.declared.ends.Side.{Side}
use Rattle.tpal_machine.specs.Ended.{is_done}
use Rattle.tpal_machine.specs.Merge.{Ends, Goes, Joined, MergeOf, ended_together, joined_by}
use Rattle.tpal_machine.specs.Merge.{joined_output}
use Rattle.tpal_machine.specs.Reading.{the_target}
use Rattle.tpal_machine.specs.RestState.{RestState}

-- the same task, or the same end, with another output
abbrev pub printing : List ℕ → Joined → Joined
printing output (Goes s) = Goes (record s { output = output })
printing output (Ends (ending.Root outcome)) =
    Ends (ending.Root (record outcome { output = output }))
printing output (Ends (ending.At rec which side)) =
    Ends (ending.At rec which (record side { output = output }))

pub printing_ended : (g : Goal) (stop : Stop) (ticks : ℕ) (output other : List ℕ)
    → printing other (Ends (ended_together g stop ticks output))
    ≡ Ends (ended_together g stop ticks other)
printing_ended goal.Root stop ticks output other = refl
printing_ended (goal.At rec which target) stop ticks output other = refl

joined_printing : (stop : Stop) (ticks : ℕ) (output other more : List ℕ) (target : Target)
    (rest : RestState) (left right : Side)
    → joined_by stop ticks other target rest (record left { output = more }) right
    ≡ printing other (joined_by stop ticks output target rest left right)
joined_printing Done ticks output other more target rest left right = refl
joined_printing (Left number) ticks output other more target rest left right = refl
joined_printing (Trap kind place) ticks output other more target rest left right =
    by_goal rest.goal
  where
    by_goal : (g : Goal) → Ends (ended_together g (Trap kind place) ticks other)
        ≡ printing other (Ends (ended_together g (Trap kind place) ticks output))
    by_goal goal.Root = refl
    by_goal (goal.At rec which there) = refl
joined_printing NoFuel ticks output other more target rest left right = by_goal rest.goal
  where
    by_goal : (g : Goal) → Ends (ended_together g NoFuel ticks other)
        ≡ printing other (Ends (ended_together g NoFuel ticks output))
    by_goal goal.Root = refl
    by_goal (goal.At rec which there) = refl

-- what the left prints, and the right doesn't, is printed behind the rest's output
pub merge_printed : (code : Listing) (rest : RestState) (left right : Side) (both : Joined)
    (more : List ℕ) → right.output ≡ [] → MergeOf code rest left right both
    → MergeOf code rest (record left { output = more }) right
    (printing (rest.output ++ more) both)
merge_printed code rest left right both more silent merge = record {
  sides = record {
    left_ticks = merge.sides.left_ticks;
    right_ticks = merge.sides.right_ticks;
    left_side = record {
      words = merge.sides.left_side.words;
      slices = merge.sides.left_side.slices;
    };
    right_side = merge.sides.right_side;
    parts = merge.sides.parts;
  };
  rest_belongs = merge.rest_belongs;
  left_belongs = merge.left_belongs;
  right_belongs = merge.right_belongs;
  gives = joined_printing
      (joined_stop left.stop left.ticks right.stop right.ticks rest.limit)
      (joined_ticks left.stop left.ticks right.stop right.ticks rest.limit)
      (joined_output rest left right) (joined_output rest printed right) more
      (the_target code rest.target) rest left right
      ∙ (ap (printing (joined_output rest printed right)) merge.gives
      ∙ ap (λ (output : List ℕ). printing output both) as_printed);
}
  where
    printed : Side
    printed = record left { output = more }

    nothing : (b : Bool) (output : List ℕ) → output ≡ []
        → rest.output ++ more ++ cond b output [] ≡ rest.output ++ more
    nothing true output none_printed =
        ap (λ (bytes : List ℕ). rest.output ++ more ++ bytes) none_printed
        ∙ append-nil (rest.output ++ more)
    nothing false output none_printed = append-nil (rest.output ++ more)

    as_printed : joined_output rest printed right ≡ rest.output ++ more
    as_printed = nothing (is_done left.stop) right.output silent
