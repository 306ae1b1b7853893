use Rattle.std.proofs.Common.{◌∷◌, [], List, reverse, ap, sym, subst, ◌∙◌}
use Rattle.std.proofs.lemmas.List.{reverse-append}
use Rattle.tpal_machine.specs.Answer.{IsMerged}
use Rattle.tpal_machine.specs.Merge.{joined}
use Rattle.schedule_core.specs.declared.lanes.Opened.{Opened}
use Rattle.schedule_core.specs.declared.lanes.Opened.TheVariants.{Half}
use Rattle.schedule_core.specs.Lanes.{CanArrive, JoinedArrives}
use Rattle.schedule_core.specs.Solo.{arrived_at, arrived_with, on_joined, runs}
use Rattle.schedule_core.proofs.Turning.{half_arrives}
use Rattle.schedule_core.proofs.solo.arrive.Goals as goal

pub returns-in-Waiting : goal.returns-in-Waiting
returns-in-Waiting c = λ tally.
    let whole = ap reverse c.in-Some.ensures.items ∙ reverse-append c.pop.new.self.items (c.in-Some.last ∷ []) ∙ ap (λ (x : Opened). x ∷ reverse c.pop.new.self.items) c.in-Waiting.is in
    let pushed = ap reverse c.in_ok-push-in-Waiting.ensures.items ∙ reverse-append c.pop.new.self.items (Half c.in-Waiting.rest c.loop-last.out ∷ []) in
    c.loop-last.invariant.same tally
    ∙ ap (λ (o : List Opened). arrived_at o c.args.code.now tally c.loop-last.out) whole
    ∙ ap (λ (o : List Opened). runs c.in-Waiting.child o tally) (sym pushed)

pub merge-requires-clause-left : goal.merge-requires-clause-left
merge-requires-clause-left c =
    let whole = ap reverse c.in-Some.ensures.items ∙ reverse-append c.pop.new.self.items (c.in-Some.last ∷ []) ∙ ap (λ (x : Opened). x ∷ reverse c.pop.new.self.items) c.in-Half.is in
    (half_arrives c.args.code.now _ (reverse c.pop.new.self.items) c.in-Half.rest c.in-Half.left c.loop-last.out whole c.loop-last.invariant.arrives).merge.left_belongs

pub merge-requires-clause-right : goal.merge-requires-clause-right
merge-requires-clause-right c =
    let whole = ap reverse c.in-Some.ensures.items ∙ reverse-append c.pop.new.self.items (c.in-Some.last ∷ []) ∙ ap (λ (x : Opened). x ∷ reverse c.pop.new.self.items) c.in-Half.is in
    (half_arrives c.args.code.now _ (reverse c.pop.new.self.items) c.in-Half.rest c.in-Half.left c.loop-last.out whole c.loop-last.invariant.arrives).merge.right_belongs

pub returns-in-Runs : goal.returns-in-Runs
returns-in-Runs c = λ tally.
    let whole = ap reverse c.in-Some.ensures.items ∙ reverse-append c.pop.new.self.items (c.in-Some.last ∷ []) ∙ ap (λ (x : Opened). x ∷ reverse c.pop.new.self.items) c.in-Half.is in
    let merged = subst (IsMerged (joined c.args.code.now c.in-Half.rest c.in-Half.left c.loop-last.out)) c.in-Runs.is c.in_ok-task-in-Half.ensures.merged in
    c.loop-last.invariant.same tally
    ∙ ap (λ (o : List Opened). arrived_at o c.args.code.now tally c.loop-last.out) whole
    ∙ ap (λ both. on_joined both (reverse c.pop.new.self.items) tally (λ e. arrived_with e tally (λ other. arrived_at (reverse c.pop.new.self.items) c.args.code.now tally other))) merged

pub returns-in-Halted : goal.returns-in-Halted
returns-in-Halted c = λ tally.
    let whole = ap reverse c.in-Some.ensures.items ∙ reverse-append c.pop.new.self.items (c.in-Some.last ∷ []) ∙ ap (λ (x : Opened). x ∷ reverse c.pop.new.self.items) c.in-Half.is in
    let merged = subst (IsMerged (joined c.args.code.now c.in-Half.rest c.in-Half.left c.loop-last.out)) c.in-Halted.is c.in_ok-task-in-Half.ensures.merged in
    c.loop-last.invariant.same tally
    ∙ ap (λ (o : List Opened). arrived_at o c.args.code.now tally c.loop-last.out) whole
    ∙ ap (λ both. on_joined both (reverse c.pop.new.self.items) tally (λ e. arrived_with e tally (λ other. arrived_at (reverse c.pop.new.self.items) c.args.code.now tally other))) merged

pub loop-last-preserved : goal.loop-last-preserved
loop-last-preserved c =
    let whole = ap reverse c.in-Some.ensures.items ∙ reverse-append c.pop.new.self.items (c.in-Some.last ∷ []) ∙ ap (λ (x : Opened). x ∷ reverse c.pop.new.self.items) c.in-Half.is in
    let merged = subst (IsMerged (joined c.args.code.now c.in-Half.rest c.in-Half.left c.loop-last.out)) c.in-Arrived.is c.in_ok-task-in-Half.ensures.merged in
    let rest = half_arrives c.args.code.now _ (reverse c.pop.new.self.items) c.in-Half.rest c.in-Half.left c.loop-last.out whole c.loop-last.invariant.arrives in
    record {
      arrives = subst (λ both. JoinedArrives both (λ other. CanArrive c.args.code.now (reverse c.pop.new.self.items) other)) (sym rest.merge.gives ∙ merged) rest.later;
      same = λ tally.
          c.loop-last.invariant.same tally
          ∙ ap (λ (o : List Opened). arrived_at o c.args.code.now tally c.loop-last.out) whole
          ∙ ap (λ both. on_joined both (reverse c.pop.new.self.items) tally (λ e. arrived_with e tally (λ other. arrived_at (reverse c.pop.new.self.items) c.args.code.now tally other))) merged;
    }
