use Rattle.std.proofs.Common.{◌≡◌, cond, [], ◌++◌, ap, sym, subst, ◌∙◌}
use Rattle.beat_count.specs.Joining.{joined_stop, joined_ticks}
use Rattle.tp_value.specs.declared.values.Stop.{Stop}
use Rattle.tp_value.specs.declared.values.Stop.TheVariants.{Done}
use Rattle.tpal_machine.specs.Merge.{joined, joined_by, joined_output, merged_task, Goes}
use Rattle.tpal_machine.specs.Reading.{the_target}
use Rattle.tpal_machine.specs.RestState.{RestState}
use Rattle.tpal_machine.specs.Seen.{rest_state}
use Rattle.tpal_machine.proofs.joining.merge_parts.Goals as goal

pub returns-in_ok-task-in-Done : goal.returns-in_ok-task-in-Done
returns-in_ok-task-in-Done c =
    let code = c.args.code.now in
    let rest = rest_state c.rest.inside.kept in
    let left = c.args.left in
    let right = c.args.right in
    let target = the_target code rest.target in
    let stops : joined_stop left.stop left.ticks right.stop right.ticks rest.limit ≡ Done = sym c.join_stops-stop.ensures.stop ∙ c.in-Done.is in
    let output : joined_output rest left right ≡ c.in_ok-output.output.items =
    sym (c.in_ok-output.ensures ∙ (λ i. (c.replace-before.ensures.value i).items ++ c.items.ensures i ++ cond (c.is_done-is_left_done.ensures i) (c.items-2.ensures i) [])) in
    subst (λ (r : RestState). joined code r left right ≡ Goes c.in_ok-task-in-Done.task) c.rest.view_is
    (ap (λ (s : Stop). joined_by s (joined_ticks left.stop left.ticks right.stop right.ticks rest.limit) (joined_output rest left right) target rest left right) stops
    ∙ (λ i. Goes (merged_task target rest left right (sym c.join_stops-stop.ensures.ticks i) (output i)))
    ∙ ap Goes (sym c.in_ok-task-in-Done.ensures))
