use Rattle.loop_rules.proofs.Indexing.{IsIndex-front, names_of}
use Rattle.loop_rules.proofs.scope.Scope.declare.Goals as goal

pub invariant_of-self-in_err-push : goal.invariant_of-self-in_err-push
invariant_of-self-in_err-push c =
    let known = rw c.deref.ensures.value at c.in_ok-remember.ensures.ok in
    rw c.in_err-push.ensures.items (IsIndex-front c.remember.new.first (names_of c.self.inside.names.items) c.args.name.now known)
