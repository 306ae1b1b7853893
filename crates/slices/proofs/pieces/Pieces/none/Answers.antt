use Rattle.slices.proofs.pieces.Pieces.none.Goals as goal

pub returns-clause-cells : goal.returns-clause-cells
returns-clause-cells c = λ i. rw (c.new.ensures.items, c.none.ensures i)

pub returns-clause-reaching : goal.returns-clause-reaching
returns-clause-reaching c = λ i. rw (c.new.ensures.items, c.none.ensures i)
