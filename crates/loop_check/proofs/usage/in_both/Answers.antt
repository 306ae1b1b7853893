use Rattle.loop_rules.specs.Sites.{in_app}
use Rattle.loop_check.specs.Usage.{anywhere}
use Rattle.loop_check.proofs.Using.{two_uses}
use Rattle.loop_check.proofs.usage.in_both.Goals as goal

pub returns : goal.returns
returns c =
    two_uses c.args.usage.now c.args.found.now c.in_app.new.found c.in_app-2.new.found (in_app anywhere c.args.first.now) (in_app anywhere c.args.second.now) c.in_app.ensures c.in_app-2.ensures
