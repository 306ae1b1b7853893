use Rattle.std.proofs.Common.{◌∙◌, ◌++◌, ap, sym}
use Rattle.loop_rules.specs.Targets.{targets_in, targets_list}
use Rattle.loop_rules.specs.Walk.{named}
use Rattle.loop_rules.proofs.Walking.{ok_map}
use Rattle.loop_rules.proofs.Declaring.{pushed_two}
use Rattle.loop_check.proofs.Targeting.{targets_if, targets_while, targets_loop}
use Rattle.loop_check.proofs.leaves.+targets.Goals as goal

pub push_targets-returns-in_ok-push_all-in-If : goal.push_targets-returns-in_ok-push_all-in-If
push_targets-returns-in_ok-push_all-in-If t c =
    let a = named c.args.targets.now.items in
    let body = targets_list c.in-If.body.items in
    let other = targets_list c.in-If.other.items in
    let one = rw c.deref.ensures.value at c.in_ok-push_all-in-If.ensures in
    ok_map c.push_all-in-If.result
    (λ u e.
    let two = rw c.deref-in-If.ensures.value at e in
    pushed_two a (named c.push_all.new.targets.items) (named c.push_all-in-If.new.targets.items) body other one two
    ∙ ap (λ r. a ++ r) (sym (targets_if c.in-If.field-0 c.in-If.body c.in-If.other)) ∙ ap (λ s. a ++ targets_in s) (sym c.in-If.is)) c.push_all-in-If.ensures

pub push_targets-returns-in-While : goal.push_targets-returns-in-While
push_targets-returns-in-While t c =
    let a = named c.args.targets.now.items in
    ok_map c.push_all-in-While.result
    (λ u e.
    let two = rw c.deref-in-While.ensures.value at e in
    two ∙ ap (λ r. a ++ r) (sym (targets_while c.in-While.field-0 c.in-While.body)) ∙ ap (λ s. a ++ targets_in s) (sym c.in-While.is)) c.push_all-in-While.ensures

pub push_targets-returns-in-Loop : goal.push_targets-returns-in-Loop
push_targets-returns-in-Loop t c =
    let a = named c.args.targets.now.items in
    ok_map c.push_all-in-Loop.result
    (λ u e.
    let two = rw c.deref-in-Loop.ensures.value at e in
    two ∙ ap (λ r. a ++ r) (sym (targets_loop c.in-Loop.field-0 c.in-Loop.field-1 c.in-Loop.field-2 c.in-Loop.body)) ∙ ap (λ s. a ++ targets_in s) (sym c.in-Loop.is)) c.push_all-in-Loop.ensures
