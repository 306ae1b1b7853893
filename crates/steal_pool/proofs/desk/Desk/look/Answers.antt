use Rattle.std.proofs.Common.{sym, ◌∙◌}
use Rattle.join_records.specs.Passes.{view}
use Rattle.steal_pool.proofs.Claiming.{seen}
use Rattle.steal_pool.proofs.desk.Desk.look.Goals as goal

-- the finish word was read as 1
pub returns-then-is_made-clause-has : goal.returns-then-is_made-clause-has
returns-then-is_made-clause-has g c =
    let word = c.finished-is_made.ensures.word in
    seen g.S.RunTerms.terms (view c.args.self.now.pass) (view c.finished-is_made.new.pass)
    c.args.self.now.taken c.args.self.now.counts word.0 c.requires.has word.1
    (sym word.2 ∙ c.if-is_made.true)
