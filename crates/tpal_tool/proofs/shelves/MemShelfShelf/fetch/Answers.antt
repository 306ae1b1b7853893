use Rattle.std.proofs.Common.{rules, inl, inr, refl}
use Rattle.tpal_tool.proofs.shelves.MemShelfShelf.fetch.Goals as goal
use Rattle.tpal_tool.proofs.shelves.MemShelfShelf.fetch.Goals.{then-contains, else-contains}

pub returns-in_default-clause-fails : goal.returns-in_default-clause-fails
returns-in_default-clause-fails c =
    elim c.if-contains.branch [ then-contains w ↦ (λ _. inl (search rules), λ _. refl) | else-contains w ↦ (λ _. inr (search rules), λ _. refl) ]
