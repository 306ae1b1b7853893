use Rattle.std.proofs.Common.{ℕ, ◌≤◌, length, map}
use Rattle.loop_parse.specs.declared.terminal.Fixed.TheVariants.{Comma}
use Rattle.loop_syntax.specs.Tree.{tree_of}
use Rattle.loop_parse.specs.Terms.{seen}
use Rattle.loop_parse.specs.Reading.{more_args, within, outer, is_fixed, after_comma, with_front}
use Rattle.loop_parse.proofs.Many.{Many}
use Rattle.loop_parse.proofs.lists.more_args.Given as goal

abbrev pub invariant-loop-alloc : goal.invariant-loop-alloc
invariant-loop-alloc l =
    (length (seen l.source l.rest) ≤ length (seen l.source l.fn.tokens))
    × ((n : ℕ) → length (seen l.source l.fn.tokens) ≤ n → Many (with_front (map tree_of l.fn.given.items) (more_args within n (seen l.source l.fn.tokens))) (λ k. is_fixed Comma k) (after_comma (outer n)) (map tree_of l.list.items) (seen l.source l.rest))

abbrev pub decreases-loop-alloc : goal.decreases-loop-alloc
decreases-loop-alloc l = length (seen l.source l.rest)
