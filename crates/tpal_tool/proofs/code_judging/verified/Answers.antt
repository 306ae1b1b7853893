use Rattle.std.proofs.Common.{rules, ◌≡◌, ℕ, List, Some, refl, ap, sym, subst}
use Rattle.tpal_syntax.specs.Listing.{Listing}
use Rattle.tpal_syntax.specs.Text.{CodeText}
use Rattle.tpal_verify.specs.Breaks.{Accepted, first_break}
use Rattle.tpal_tool.specs.CodeVerdict.{broken}
use Rattle.tpal_tool.specs.ExecLines.{break_line, name_at}
use Rattle.tpal_tool.proofs.code_judging.verified.Goals as goal

pub returns-in-Ok-clause-accepted : goal.returns-in-Ok-clause-accepted
returns-in-Ok-clause-accepted c = λ source reads. record {
  code_text = subst (λ (code : Listing). CodeText source code.tables code.blocks) (sym c.in-Ok.ensures.code) reads;
  accepted = subst (λ (code : Listing). Accepted code) (sym c.in-Ok.ensures.code) c.in-Ok.ensures.accepted;
}

pub returns-in-Broken-clause-fault : goal.returns-in-Broken-clause-fault
returns-in-Broken-clause-fault c = λ source reads.
    let block : ℕ = c.in-Broken.block in
    let at : ℕ = c.in-Broken.at in
    let rule : ℕ = c.in-Broken.rule in
    let name : c.in_ok-name-in-Broken.name.items ≡ name_at c.args.code block = search rules in
    let breaks : first_break c.args.code ≡ Some (block, at, rule) = search rules in
    (refl, broken c.args.code block at rule reads breaks (ap (λ (n : List ℕ). break_line n at rule) name))
