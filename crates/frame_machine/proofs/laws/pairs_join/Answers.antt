use Rattle.std.proofs.Common.{◌-◌, ◌∷◌, [], refl}
use Rattle.tp_value.specs.declared.limits.TheConstants.{MAX_CALL_DEPTH}
use Rattle.loop_meaning.specs.State.{Chance}
use Rattle.frame_machine.specs.FrameLaws.{child_start}
use Rattle.frame_machine.proofs.Pairs.{pair_joins, call_keeps}
use Rattle.frame_machine.proofs.laws.pairs_join.Goals as goal

pub returns-clause-joins : goal.returns-clause-joins
returns-clause-joins c = λ m depth k rules within given child.
    pair_joins c.args.program.now m c.args.fuel (MAX_CALL_DEPTH - depth) k.first.text.items k.second.text.items rules
    k.first.place k.args k.second.place k.second_args k.state (child_start k.vars k.tables) within given refl refl

pub returns-clause-first : goal.returns-clause-first
returns-clause-first c = λ m depth k rules.
    (call_keeps c.args.program.now m c.args.fuel (MAX_CALL_DEPTH - depth) k.first.text.items k.second.text.items rules
    k.first.text.items rules.first k.first.place k.args (Chance ∷ []) (tt, tt) k.state).notes

pub returns-clause-second : goal.returns-clause-second
returns-clause-second c = λ m depth k rules.
    (call_keeps c.args.program.now m c.args.fuel (MAX_CALL_DEPTH - depth) k.first.text.items k.second.text.items rules
    k.second.text.items rules.second k.second.place k.second_args [] tt (child_start k.vars k.tables)).notes
