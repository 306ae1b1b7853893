use Rattle.std.proofs.Common.{rules, arith, ◌≡◌, ◌∙◌, ap, sym, ◌∷◌, length, None}
use Rattle.tpal_verify.specs.Rules.{broken_rule}
use Rattle.tpal_verify.specs.Walk.{walk, going}
use Rattle.tpal_verify.specs.Walking.{Went}
use Rattle.tpal_verify.proofs.Stepping.{comes_to, goes_on}
use Rattle.tpal_verify.proofs.walk.Walk.run.Goals as goal

pub loop-instr-preserved : goal.loop-instr-preserved
loop-instr-preserved c =
    let l = c.loop-instr in
    let whole = c.args.ground.now in
    let term = c.args.block.now.term in
    let instr = c.in-Some.instr.now in
    let behind = c.in-Some.behind.now in
    let split : l.rest.now ≡ instr ∷ behind = search rules in
    let none : broken_rule whole l.leads l.phase l.self.shape instr behind ≡ None = search rules in
    let went : Went l.self c.going.new.self (going whole l.phase l.self.shape instr) c.in_ok-next.field-0 = search rules in
    let fewer = ap (λ xs. length xs) split in
    let seen = l.invariant.seen in
    record {
      came = goes_on whole l.leads l.at l.phase instr behind term l.self c.going.new.self c.in_ok-next.field-0 c.in-Some-2.next none went (search rules)
          ∙ (ap (λ r. comes_to l.self.next l.self.forks (walk whole l.leads l.at l.phase l.self.shape r term)) (sym split) ∙ l.invariant.came);
      now = went.now ∙ l.invariant.now;
      seen = omega (arith, fewer, seen);
    }
