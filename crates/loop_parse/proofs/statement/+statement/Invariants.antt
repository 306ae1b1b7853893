use Rattle.std.proofs.Common.{ℕ, ◌+◌, ◌*◌, ◌≤◌, length, map}
use Rattle.loop_syntax.specs.Tree.{node_of}
use Rattle.loop_parse.specs.Terms.{seen}
use Rattle.loop_parse.specs.Reading.{stmts, stmt, begins_stmt, within}
use Rattle.loop_parse.proofs.Many.{Many}
use Rattle.loop_parse.proofs.statement.+statement.Given as goal

abbrev pub decreases-block : goal.decreases-block
decreases-block l = 4 * length (seen l.source.now l.tokens.now)

abbrev pub decreases-else_block : goal.decreases-else_block
decreases-else_block l = 4 * length (seen l.source.now l.tokens.now)

abbrev pub decreases-if_rest : goal.decreases-if_rest
decreases-if_rest l = 4 * length (seen l.source.now l.tokens.now)

abbrev pub decreases-while_rest : goal.decreases-while_rest
decreases-while_rest l = 4 * length (seen l.source.now l.tokens.now)

abbrev pub decreases-loop_rest : goal.decreases-loop_rest
decreases-loop_rest l = 4 * length (seen l.source.now l.tokens.now)

abbrev pub decreases-par_rest : goal.decreases-par_rest
decreases-par_rest l = 4 * length (seen l.source.now l.tokens.now)

abbrev pub decreases-par_tail : goal.decreases-par_tail
decreases-par_tail l = 4 * length (seen l.source.now l.tokens.now) + 1

abbrev pub decreases-statement : goal.decreases-statement
decreases-statement l = 4 * length (seen l.source.now l.tokens.now)

abbrev pub decreases-statements : goal.decreases-statements
decreases-statements l = 4 * length (seen l.source.now l.tokens.now) + 1

abbrev pub decreases-inner_statements : goal.decreases-inner_statements
decreases-inner_statements l = 4 * length (seen l.source.now l.tokens.now) + 2

abbrev pub invariant-statements-loop-alloc : goal.invariant-statements-loop-alloc
invariant-statements-loop-alloc l =
    (length (seen l.source l.rest) ≤ length (seen l.source l.fn.tokens))
    × ((n : ℕ) → length (seen l.source l.fn.tokens) ≤ n → Many (stmts within n l.level (seen l.source l.fn.tokens)) begins_stmt (stmt within n l.level) (map node_of l.list.items) (seen l.source l.rest))

abbrev pub decreases-statements-loop-alloc : goal.decreases-statements-loop-alloc
decreases-statements-loop-alloc l = length (seen l.source l.rest)
