use Rattle.std.proofs.Common.{◌≡◌, ◌++◌, drop}
use Rattle.std.specs.Prelude.{codes}
use Rattle.std.specs.List.{flat_map}
use Rattle.tpal_syntax.specs.Text.{carry_text}
use Rattle.tpal_print.proofs.headers.push_more_carries.Given as goal

-- what is written, and what is left
abbrev pub invariant-loop-item : goal.invariant-loop-item
invariant-loop-item l =
    l.out.items ++ flat_map (λ p. codes ", " ++ carry_text p) (drop l.item-index l.items)
    ≡ l.fn.out.items ++ flat_map (λ p. codes ", " ++ carry_text p) l.items
