use Rattle.std.proofs.Common.{◌-◌, refl}
use Rattle.tp_value.specs.declared.limits.TheConstants.{MAX_CALL_DEPTH}
use Rattle.loop_rules.specs.Reading.{through}
use Rattle.frame_machine.specs.Modes.{modes_of}
use Rattle.frame_machine.specs.FrameLaws.{child_start}
use Rattle.frame_machine.proofs.Frames.{frames_join}
use Rattle.frame_machine.proofs.Pairs.{pair_joins}
use Rattle.frame_machine.proofs.RulesLawful.{all_lawful}
use Rattle.frame_machine.proofs.laws.frames_join.Goals as goal

pub returns-clause-ranges : goal.returns-clause-ranges
returns-clause-ranges c = λ none rounds l depth k at h.
    frames_join c.args.program.now c.args.fuel depth (modes_of rounds) l k.first k.last k.next k.middle k.end k.accs k.state k.vars k.tables
    ((all_lawful c.args.program.now none).loops rounds _ l at) h.fits h.low h.high h.range h.within h.round h.given

pub returns-clause-ranges_of_functions : goal.returns-clause-ranges_of_functions
returns-clause-ranges_of_functions c = λ none f g outer rounds l depth k found safe at h.
    frames_join c.args.program.now c.args.fuel depth outer l k.first k.last k.next k.middle k.end k.accs k.state k.vars k.tables
    ((all_lawful c.args.program.now none).of_function f g found outer safe rounds _ l at) h.fits h.low h.high h.range h.within h.round h.given

pub returns-clause-pairs : goal.returns-clause-pairs
returns-clause-pairs c = λ none w i j depth k at_first at_second within given child.
    let all = all_lawful c.args.program.now none in
    pair_joins c.args.program.now (modes_of w.rounds) c.args.fuel (MAX_CALL_DEPTH - depth) k.first.text.items k.second.text.items
    (record { functions = all.functions (modes_of w.rounds); first = all.calls w k.first i at_first; second = all.calls w k.second j at_second })
    k.first.place k.args k.second.place k.second_args k.state (child_start k.vars k.tables) within given refl refl

pub returns-clause-pairs_of_functions : goal.returns-clause-pairs_of_functions
returns-clause-pairs_of_functions c = λ none f g m w i j depth k found safe at_first at_second within given child.
    let all = all_lawful c.args.program.now none in
    pair_joins c.args.program.now m c.args.fuel (MAX_CALL_DEPTH - depth) k.first.text.items k.second.text.items
    (record {
      functions = all.functions m;
      first = λ t r. safe t (through f g w k.first i t found at_first r);
      second = λ t r. safe t (through f g w k.second j t found at_second r);
    })
    k.first.place k.args k.second.place k.second_args k.state (child_start k.vars k.tables) within given refl refl
