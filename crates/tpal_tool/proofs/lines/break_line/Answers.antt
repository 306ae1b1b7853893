use Rattle.std.proofs.Common.{rules, ◌≡◌, ℕ, List, [], ◌∷◌, ◌++◌, ap, ◌∙◌}
use Rattle.std.specs.Fmt.{decimal}
use Rattle.std.specs.Prelude.{codes}
use Rattle.tpal_tool.proofs.CodeRefused.{position_behind}
use Rattle.tpal_tool.proofs.lines.break_line.Goals as goal

pub returns : goal.returns
returns c =
    let place : List ℕ = codes ":" ++ decimal c.args.at ++ 10 ∷ [] in
    let front : c.into_bytes-line.result.items ≡ codes "refused E16 V" ++ decimal c.args.rule ++ codes " at " = search rules in
    let whole : c.extend_from_slice-2.new.self.items ≡ (c.into_bytes-line.result.items ++ c.args.name.now) ++ place = search rules in
    whole ∙ ap (λ (f : List ℕ). (f ++ c.args.name.now) ++ place) front ∙ position_behind (codes "refused E16 V" ++ decimal c.args.rule ++ codes " at " ++ c.args.name.now) (decimal c.args.at)
