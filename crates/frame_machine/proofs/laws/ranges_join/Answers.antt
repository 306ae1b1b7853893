use Rattle.frame_machine.proofs.Frames.{frames_join, lower_frame_keeps, upper_frame_keeps}
use Rattle.frame_machine.proofs.laws.ranges_join.Goals as goal

pub returns-clause-joins : goal.returns-clause-joins
returns-clause-joins c = λ outer l depth k rules h.
    frames_join c.args.program.now c.args.fuel depth outer l k.first k.last k.next k.middle k.end k.accs k.state k.vars k.tables rules h.fits h.low h.high h.range h.within h.round h.given

pub returns-clause-lower : goal.returns-clause-lower
returns-clause-lower c = λ outer l depth next end d accs s rules h k. lower_frame_keeps c.args.program.now c.args.fuel depth outer l next end d accs s rules h k

pub returns-clause-upper : goal.returns-clause-upper
returns-clause-upper c = λ outer l depth next end d accs s rules h. upper_frame_keeps c.args.program.now c.args.fuel depth outer l next end d accs s rules h
