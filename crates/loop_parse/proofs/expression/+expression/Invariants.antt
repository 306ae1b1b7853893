use Rattle.std.proofs.Common.{ℕ, ◌+◌, ◌*◌, ◌<◌, ◌≤◌, length}
use Rattle.loop_syntax.specs.Tree.{tree_of}
use Rattle.loop_parse.specs.Terms.{seen}
use Rattle.loop_parse.specs.Reading.{unary, product, sum_op_of, product_op_of, chain_rest}
use Rattle.loop_parse.proofs.Chains.{Continues}
use Rattle.loop_parse.proofs.expression.+expression.Given as goal

abbrev pub decreases-name_rest : goal.decreases-name_rest
decreases-name_rest l = 8 * length (seen l.source.now l.tokens.now) + 7

abbrev pub decreases-cell_or_variable : goal.decreases-cell_or_variable
decreases-cell_or_variable l = 8 * length (seen l.source.now l.tokens.now)

abbrev pub decreases-inner : goal.decreases-inner
decreases-inner l = 8 * length (seen l.source.now l.tokens.now) + 7

abbrev pub decreases-expr : goal.decreases-expr
decreases-expr l = 8 * length (seen l.source.now l.tokens.now) + 6

abbrev pub decreases-sum : goal.decreases-sum
decreases-sum l = 8 * length (seen l.source.now l.tokens.now) + 5

abbrev pub decreases-product : goal.decreases-product
decreases-product l = 8 * length (seen l.source.now l.tokens.now) + 4

abbrev pub decreases-unary : goal.decreases-unary
decreases-unary l = 8 * length (seen l.source.now l.tokens.now) + 3

abbrev pub decreases-primary : goal.decreases-primary
decreases-primary l = 8 * length (seen l.source.now l.tokens.now) + 2

abbrev pub decreases-compared : goal.decreases-compared
decreases-compared l = 8 * length (seen l.source.now l.tokens.now) + 7

abbrev pub decreases-terms : goal.decreases-terms
decreases-terms l = 8 * length (seen l.source.now l.tokens.now) + 7

abbrev pub decreases-factors : goal.decreases-factors
decreases-factors l = 8 * length (seen l.source.now l.tokens.now) + 7

abbrev pub decreases-atom : goal.decreases-atom
decreases-atom l = 8 * length (seen l.source.now l.tokens.now) + 1

abbrev pub decreases-opposite : goal.decreases-opposite
decreases-opposite l = 8 * length (seen l.source.now l.tokens.now) + 4

abbrev pub invariant-factors-loop-token : goal.invariant-factors-loop-token
invariant-factors-loop-token l =
    (length (seen l.source l.rest) ≤ length (seen l.source l.fn.tokens))
    × ((n m : ℕ) → length (seen l.source l.fn.tokens) ≤ n → length (seen l.source l.fn.tokens) ≤ m
    → Continues (chain_rest (unary n) product_op_of m (tree_of l.fn.first.value) (seen l.source l.fn.tokens))
    (unary n) product_op_of (tree_of l.left.value) (seen l.source l.rest))

abbrev pub decreases-factors-loop-token : goal.decreases-factors-loop-token
decreases-factors-loop-token l = length (seen l.source l.rest)

abbrev pub invariant-terms-loop-token : goal.invariant-terms-loop-token
invariant-terms-loop-token l =
    (length (seen l.source l.rest) ≤ length (seen l.source l.fn.tokens))
    × ((n m : ℕ) → length (seen l.source l.fn.tokens) ≤ n → length (seen l.source l.fn.tokens) ≤ m
    → Continues (chain_rest (product n) sum_op_of m (tree_of l.fn.first.value) (seen l.source l.fn.tokens))
    (product n) sum_op_of (tree_of l.left.value) (seen l.source l.rest))

abbrev pub decreases-terms-loop-token : goal.decreases-terms-loop-token
decreases-terms-loop-token l = length (seen l.source l.rest)
