use Rattle.std.proofs.Common.{◌≡◌, ◌∙◌, ◌++◌, ◌∷◌, [], ap, sym}
use Rattle.loop_rules.specs.Declarations.{declared_in, declared_list}
use Rattle.loop_rules.specs.Walk.{named}
use Rattle.loop_rules.proofs.Walking.{ok_map}
use Rattle.loop_rules.proofs.Declaring.{declared_if, declared_while, declared_loop, declared_par}
use Rattle.loop_rules.proofs.Declaring.{pushed_two, named-append}
use Rattle.loop_rules.proofs.declaration.+declared.Goals as goal

pub push_declared-returns-in_ok-push_all-in-If : goal.push_declared-returns-in_ok-push_all-in-If
push_declared-returns-in_ok-push_all-in-If t c =
    let a = named c.args.names.now.items in
    let body = declared_list c.in-If.body.items in
    let other = declared_list c.in-If.other.items in
    let one = rw c.deref.ensures.value at c.in_ok-push_all-in-If.ensures in
    ok_map c.push_all-in-If.result
    (λ u e.
    let two = rw c.deref-in-If.ensures.value at e in
    pushed_two a (named c.push_all.new.names.items) (named c.push_all-in-If.new.names.items) body other one two
    ∙ ap (λ r. a ++ r) (sym (declared_if c.in-If.field-0 c.in-If.body c.in-If.other)) ∙ ap (λ s. a ++ declared_in s) (sym c.in-If.is)) c.push_all-in-If.ensures

pub push_declared-returns-in-While : goal.push_declared-returns-in-While
push_declared-returns-in-While t c =
    let a = named c.args.names.now.items in
    ok_map c.push_all-in-While.result
    (λ u e.
    let two = rw c.deref-in-While.ensures.value at e in
    two ∙ ap (λ r. a ++ r) (sym (declared_while c.in-While.field-0 c.in-While.body)) ∙ ap (λ s. a ++ declared_in s) (sym c.in-While.is)) c.push_all-in-While.ensures

pub push_declared-returns-in_ok-push-in-Loop : goal.push_declared-returns-in_ok-push-in-Loop
push_declared-returns-in_ok-push-in-Loop t c =
    let a = named c.args.names.now.items in
    let one : named c.push-in-Loop.new.self.items ≡ a ++ c.in-Loop.x ∷ [] = rw c.in_ok-push-in-Loop.ensures.items (named-append c.args.names.now.items _) in
    ok_map c.push_all-in-Loop.result
    (λ u e.
    let two = rw c.deref-in-Loop.ensures.value at e in
    pushed_two a (named c.push-in-Loop.new.self.items) (named c.push_all-in-Loop.new.names.items) (c.in-Loop.x ∷ []) (declared_list c.in-Loop.body.items) one two
    ∙ ap (λ r. a ++ r) (sym (declared_loop c.in-Loop.x c.in-Loop.field-1 c.in-Loop.field-2 c.in-Loop.body)) ∙ ap (λ s. a ++ declared_in s) (sym c.in-Loop.is)) c.push_all-in-Loop.ensures

pub push_declared-returns-in_ok-push-in-Par : goal.push_declared-returns-in_ok-push-in-Par
push_declared-returns-in_ok-push-in-Par t c =
    let a = named c.args.names.now.items in
    let one : named c.push-in-Par.new.self.items ≡ a ++ c.in-Par.l.var ∷ [] = rw c.in_ok-push-in-Par.ensures.items (named-append c.args.names.now.items _) in
    ok_map c.push_all-in-Par.result
    (λ u e.
    let two = rw c.deref-in-Par.ensures.value at e in
    pushed_two a (named c.push-in-Par.new.self.items) (named c.push_all-in-Par.new.names.items) (c.in-Par.l.var ∷ []) (declared_list c.in-Par.l.body.items) one two
    ∙ ap (λ r. a ++ r) (sym (declared_par c.in-Par.l)) ∙ ap (λ s. a ++ declared_in s) (sym c.in-Par.is)) c.push_all-in-Par.ensures
