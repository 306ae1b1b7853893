use Rattle.std.proofs.Common.{rules}
use Rattle.beat_count.proofs.Counts.{calm_always, calm_before, due_then}
use Rattle.beat_count.proofs.heartbeat.Beat.calm.Goals as goal

pub returns-then-allowed-clause-calm : goal.returns-then-allowed-clause-calm
returns-then-allowed-clause-calm c = λ n soon.
    calm_before n c.args.heartbeat c.args.marked c.args.allowed c.args.self.now (search rules)
    (search rules) (search rules)

pub returns-then-allowed-clause-most : goal.returns-then-allowed-clause-most
returns-then-allowed-clause-most c = λ speaks early.
    due_then c.saturating_sub.result c.args.heartbeat c.args.marked c.args.allowed c.args.self.now (search rules)
    (search rules) speaks (search rules) (search rules)

pub returns-else-marked-clause-calm : goal.returns-else-marked-clause-calm
returns-else-marked-clause-calm c = λ n soon.
    calm_always n c.args.heartbeat c.args.marked c.args.allowed c.args.self.now (search rules)
    (search rules)
