use Rattle.std.proofs.Common.{◌∙◌, ap, take}
use Rattle.loop_rules.proofs.Indexing.{IsIndex-take, names_of, names_of-take}
use Rattle.loop_rules.proofs.scope.Scope.leave.Goals as goal

pub invariant_of-self : goal.invariant_of-self
invariant_of-self c =
    rw (c.truncate.ensures.items, names_of-take) (IsIndex-take c.self.inside.first (names_of c.self.inside.names.items) c.args.count c.self.invariant)

pub returns : goal.returns
returns c = ap names_of c.truncate.ensures.items ∙ names_of-take c.self.inside.names.items c.args.count ∙ ap (take c.args.count) c.self.view_is
