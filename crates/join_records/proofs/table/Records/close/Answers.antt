use Rattle.std.proofs.Common.{◌∙◌, ap, rules, arith}
use Rattle.join_records.specs.Words.{bit}
use Rattle.join_records.specs.Views.{saw_finish}
use Rattle.join_records.proofs.Calls.{last_total, last_here, last_before, saw_left, saw_right}
use Rattle.join_records.proofs.Calls.{byte_bit, bit_small}
use Rattle.join_records.proofs.Joining.{joins}
use Rattle.join_records.proofs.Seats.{settles}
use Rattle.join_records.proofs.table.Records.close.Goals as goal

pub loop-pass-init : goal.loop-pass-init
loop-pass-init g c = let e = c.in-Some.ensures.items in let p = c.in-Some.first in let xs = c.pop.new.self.items in let mine = c.requires.table _ p (last_here _ xs p e) in let was = p.counted in let q = c.from-count.ensures in
    let parts = last_total (λ u. u.seat.me.0.parts) _ xs p e in let opens = last_total (λ u. u.seat.me.0.opens) _ xs p e in let made = last_total (λ u. u.seat.me.0.made) _ xs p e in let saw = last_total (λ u. bit (saw_finish u.seat.me.0.reads)) _ xs p e in let all = c.requires.all in record {
      seat = mine;
      rest = λ k y at. c.requires.table k y (last_before _ xs p e k y at);
      opens = (was.0, (let few = was.1 in let some_part = mine.2 in omega arith), omega arith);
      made = (q ∙ byte_bit p.made ∙ was.2, (let some_part = mine.2 in let b = bit_small p.made in let t = byte_bit p.made in omega arith), omega arith);
      parts = omega arith;
      saw = λ z. omega arith;
    }

pub join_seat-requires : goal.join_seat-requires
join_seat-requires g c = let e = c.in-Some-pop.ensures.items in let p = c.in-Some-pop.pass in let inv = c.loop-pass.invariant in let mine = inv.rest _ p (last_here _ _ p e) in
    (inv.seat.0, mine.0, mine.1, search rules, λ s r at apart at'. joins _ _ _ _ apart _ _ inv.seat.2 s r at apart at')

pub load-requires : goal.load-requires
load-requires g c = let inv = c.loop-pass.invariant in (inv.seat.0, search rules, settles _ _ _ _ _ inv.seat.2)

pub loop-pass-preserved : goal.loop-pass-preserved
loop-pass-preserved g c = let e = c.in-Some-pop.ensures.items in let p = c.in-Some-pop.pass in let xs = c.pop-in-loop-pass.new.self.items in let inv = c.loop-pass.invariant in let mine = inv.rest _ p (last_here _ xs p e) in let was = p.counted in
    let join = c.join_seat.ensures in let same = ap (λ m. m.0) join.2 in let n_parts = ap (λ v. v.parts) same in let n_opens = ap (λ v. v.opens) same in let n_made = ap (λ v. v.made) same in let n_saw = ap (λ v. bit (saw_finish v.reads)) same in
    let q = c.from-count-in-Some-pop.ensures in let byte = byte_bit p.made in let b = bit_small p.made in
    let parts = last_total (λ u. u.seat.me.0.parts) _ xs p e in let opens = last_total (λ u. u.seat.me.0.opens) _ xs p e in let made = last_total (λ u. u.seat.me.0.made) _ xs p e in let saw = last_total (λ u. bit (saw_finish u.seat.me.0.reads)) _ xs p e in
    let io0 = inv.opens.0 in let io1 = inv.opens.1 in let io2 = inv.opens.2 in let im0 = inv.made.0 in let im1 = inv.made.1 in let im2 = inv.made.2 in let ip = inv.parts in let w0 = was.0 in let w1 = was.1 in let w2 = was.2 in let live = mine.2 in record {
      seat = (join.0 ∙ inv.seat.0, ap (λ m. m.1) join.2 ∙ inv.seat.1, λ z. inv.seat.2 (omega arith));
      rest = λ k y at. inv.rest k y (last_before _ xs p e k y at);
      opens = (omega arith, omega arith, omega arith);
      made = (omega arith, omega arith, omega arith);
      parts = omega arith;
      saw = λ z. let t = inv.saw z in let l = saw_left c.loop-pass.whole.me.0.reads p.seat.me.0.reads in let r = saw_right c.loop-pass.whole.me.0.reads p.seat.me.0.reads in omega arith;
    }
