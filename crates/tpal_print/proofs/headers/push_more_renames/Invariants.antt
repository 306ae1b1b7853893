use Rattle.std.proofs.Common.{◌≡◌, ◌++◌, drop}
use Rattle.std.specs.Prelude.{codes}
use Rattle.std.specs.List.{flat_map}
use Rattle.tpal_syntax.specs.Text.{rename_text}
use Rattle.tpal_print.proofs.headers.push_more_renames.Given as goal

-- what is written, and what is left
abbrev pub invariant-loop-rename : goal.invariant-loop-rename
invariant-loop-rename l =
    l.out.items ++ flat_map (λ p. codes ", " ++ rename_text p) (drop l.rename-index l.renames)
    ≡ l.fn.out.items ++ flat_map (λ p. codes ", " ++ rename_text p) l.renames
