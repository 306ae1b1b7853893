use Rattle.std.proofs.Common.{◌∙◌, sym}
use Rattle.join_records.proofs.Callers.{found_first, searched}
use Rattle.join_records.proofs.tests.take_one.Goals as goal

pub returns-clause-taken : goal.returns-clause-taken
returns-clause-taken c = found_first c.find_free.result c.args.pass.now.seat.me.0 c.find_free.new.pass.seat.me.0 _ c.requires.table.1 c.find_free.ensures.found c.find_free.ensures.number

pub returns-clause-pass : goal.returns-clause-pass
returns-clause-pass c = let r = c.requires.table.0 in let s = c.find_free.ensures.pass in let is = searched c.find_free.result c.args.pass.now.seat.me.0 c.find_free.new.pass.seat.me.0 _ c.find_free.ensures.found c.find_free.ensures.none c.requires.none_met in
    ((s.0 ∙ r.0, s.2 ∙ r.1, λ z. r.2 (sym is.2 ∙ z)), is.1 ∙ c.requires.root, is.0, is.2, is.3)
