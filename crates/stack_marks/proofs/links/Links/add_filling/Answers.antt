use Rattle.std.proofs.Common.{◌+◌, ◌-◌, ◌<◌, ◌++◌, ◌∷◌, [], length, subst, sym, ap, ◌∙◌}
use Rattle.std.specs.Prelude.{All}
use Rattle.stack_marks.specs.Linked.{marks_from}
use Rattle.stack_marks.proofs.Linking.{padded}
use Rattle.stack_marks.proofs.Chains.{padded_are_linked}
use Rattle.stack_marks.specs.Linked.{AreLinked}
use Rattle.stack_marks.proofs.links.Links.add_filling.Goals as goal

pub place-requires-clause-newest : goal.place-requires-clause-newest
place-requires-clause-newest c =
    let s = c.self.inside in
    let extra = c.args.at - s.lowest + 1 - length s.links.items in
    let same = ap (marks_from s.lowest) c.fill.ensures.items ∙ padded s.lowest extra s.links.items ∙ ap (λ v. v.marks) c.self.view_is in
    subst (λ ms. All (λ m. m.at < c.args.at) ms) (sym same) c.requires.newest

pub place-requires-clause-linked : goal.place-requires-clause-linked
place-requires-clause-linked c =
    let s = c.self.inside in
    let extra = c.args.at - s.lowest + 1 - length s.links.items in
    subst (λ ls. AreLinked s.lowest ls s.ends) (sym c.fill.ensures.items) (padded_are_linked s.lowest extra s.links.items s.ends c.self.invariant)

pub returns-clause-marks : goal.returns-clause-marks
returns-clause-marks c =
    let s = c.self.inside in
    let extra = c.args.at - s.lowest + 1 - length s.links.items in
    let same = ap (marks_from s.lowest) c.fill.ensures.items ∙ padded s.lowest extra s.links.items ∙ ap (λ v. v.marks) c.self.view_is in
    c.place.ensures.marks ∙ ap (λ ms. ms ++ record { at = c.args.at; base = c.args.base; cells = c.args.cells; split = c.args.split } ∷ []) same
