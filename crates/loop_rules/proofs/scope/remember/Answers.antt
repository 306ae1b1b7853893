use Rattle.std.proofs.Common.{sym}
use Rattle.std.proofs.lemmas.List.{length-map}
use Rattle.std.proofs.lemmas.Map.Text.{hash_map_updates_str}
use Rattle.loop_rules.proofs.Indexing.{index_known, index_new, names_of}
use Rattle.loop_rules.proofs.scope.remember.Goals as goal

pub returns-in-Some-clause-ok : goal.returns-in-Some-clause-ok
returns-in-Some-clause-ok c =
    index_known c.args.first.now (names_of c.args.names.now) c.args.name.now c.requires c.in-Some.field-0 (sym c.in-Some.ensures)

pub returns-in_ok-insert-in-None-clause-ok : goal.returns-in_ok-insert-in-None-clause-ok
returns-in_ok-insert-in-None-clause-ok c =
    index_new c.args.first.now (names_of c.args.names.now) c.args.name.now c.requires c.insert.new.self (sym c.in-None.ensures)
    (rw length-map (hash_map_updates_str c.args.name.now c.args.first.now c.insert.new.self _ c.in_ok-insert-in-None.ensures.updates))
