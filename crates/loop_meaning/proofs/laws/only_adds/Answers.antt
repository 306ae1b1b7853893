use Rattle.loop_meaning.specs.Calls.{setting}
use Rattle.loop_meaning.proofs.Spending.{sound_list, sound_call}
use Rattle.loop_meaning.proofs.laws.only_adds.Goals as goal

pub returns-clause-output : goal.returns-clause-output
returns-clause-output c =
    λ depth rs body s h.
    let k = setting c.args.program.now c.args.fuel depth rs in
    let q = sound_list k (sound_call c.args.program.now.funcs.items c.args.fuel _) body s h in
    (q.more, q.grows)

pub returns-clause-ticks : goal.returns-clause-ticks
returns-clause-ticks c =
    λ depth rs body s h.
    let k = setting c.args.program.now c.args.fuel depth rs in
    (sound_list k (sound_call c.args.program.now.funcs.items c.args.fuel _) body s h).later
