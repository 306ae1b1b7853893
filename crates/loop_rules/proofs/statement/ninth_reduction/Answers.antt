use Rattle.loop_syntax.specs.declared.Reduce.{Reduce}
use Rattle.loop_rules.proofs.Searching.{past_at}
use Rattle.loop_rules.proofs.statement.ninth_reduction.Goals as goal

pub returns-then-reduces-gt-MAX_REDUCTIONS : goal.returns-then-reduces-gt-MAX_REDUCTIONS
returns-then-reduces-gt-MAX_REDUCTIONS c =
    let noted = rw (← c.index-reduces-8.is) at c.note.ensures in
    rw (past_at {A = Reduce} (λ d. d.target) c.args.reduces.now 8 c.index-reduces-8.result c.if-reduces-gt-MAX_REDUCTIONS.true c.index-reduces-8.is) noted
