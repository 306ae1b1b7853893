use Rattle.std.proofs.Common.{◌≡◌, ◌≤◌, subst}
use Rattle.std.specs.Prelude.{Any, All}
use Rattle.stack_marks.specs.Linked.{AreLinked}
use Rattle.stack_marks.proofs.Following.{opened}
use Rattle.stack_marks.proofs.Chains.{newest_is}
use Rattle.stack_marks.proofs.links.Links.newest.Goals as goal

pub returns-in-Some-clause-some : goal.returns-in-Some-clause-some
returns-in-Some-clause-some c =
    subst (λ v. Any (λ m. m.at ≡ c.in-Some.ends.newest) v.marks × All (λ m. m.at ≤ c.in-Some.ends.newest) v.marks) c.self.view_is
    (newest_is c.self.inside.lowest c.self.inside.links.items c.in-Some.ends (opened c.self.inside.lowest c.self.inside.links.items c.in-Some.ends (subst (AreLinked c.self.inside.lowest c.self.inside.links.items) c.in-Some.is c.self.invariant)))
