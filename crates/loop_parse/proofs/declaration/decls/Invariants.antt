use Rattle.std.proofs.Common.{ℕ, ◌≤◌, length, map}
use Rattle.loop_parse.specs.Terms.{seen}
use Rattle.loop_parse.specs.Heads.{decl_of}
use Rattle.loop_parse.specs.Reading.{decls, decl, begins_decl, within}
use Rattle.loop_parse.proofs.Many.{Many}
use Rattle.loop_parse.proofs.declaration.decls.Given as goal

abbrev pub invariant-loop-alloc : goal.invariant-loop-alloc
invariant-loop-alloc l =
    (length (seen l.source l.rest) ≤ length (seen l.source l.fn.tokens))
    × ((n : ℕ) → length (seen l.source l.fn.tokens) ≤ n → Many (decls within n (seen l.source l.fn.tokens)) begins_decl (decl within n) (map decl_of l.list.items) (seen l.source l.rest))

abbrev pub decreases-loop-alloc : goal.decreases-loop-alloc
decreases-loop-alloc l = length (seen l.source l.rest)
