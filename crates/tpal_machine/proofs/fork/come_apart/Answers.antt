use Rattle.std.proofs.Common.{◌≡◌, None, ap, sym, ◌∙◌}
use Rattle.std.specs.Prelude.{slice_set}
use Rattle.tpal_machine.specs.Seen.{state_of}
use Rattle.tpal_machine.specs.declared.ends.Goal.TheVariants as goals
use Rattle.tpal_machine.specs.declared.ends.SideName.TheVariants.{Left, Right}
use Rattle.tpal_machine.proofs.fork.come_apart.Goals as goal

pub returns-clause-parts : goal.returns-clause-parts
returns-clause-parts c =
    let rest_made : c.in_ok-rest_made.rest_made.items ≡ c.args.machine.now.made.items =
    cc c.in_ok-rest_made.ensures in
    let child_made : c.in_ok-child_made.child_made.items ≡ c.args.machine.now.made.items =
    cc c.in_ok-child_made.ensures in
    let limit = c.limit-limit.ensures.limit in
    let held = ap (λ v. v.items) c.replace-held.ensures.value in
    sym (λ i. record {
      rec = c.args.tie.rec;
      left = record {
        registers = c.args.machine.now.registers;
        stack = c.args.stacks.left;
        tables = (rw held at c.in_ok-tables.ensures.left) i;
        made = c.args.machine.now.made.items;
        fuel = c.args.machine.now.fuel;
        beat = c.take.ensures.after i;
        output = (ap (λ v. v.items) c.replace.ensures.after ∙ c.new-6.ensures.items) i;
        goal = goals.At c.args.tie.rec Left c.args.tie.target;
        block = c.args.machine.now.block;
        at = c.args.machine.now.at;
        pending = None;
        met = None;
        waiting = c.args.machine.now.waiting;
      };
      rest = record {
        stack = c.args.stacks.rest;
        tables = (rw held at c.in_ok-tables.ensures.rest) i;
        output = (c.replace.ensures.value i).items;
        goal = c.args.machine.now.goal;
        base = c.args.base;
        rec = c.args.tie.rec;
        target = c.args.tie.target;
        limit = limit i;
        made = rest_made i;
      };
      child = (ap state_of c.in_ok-right.ensures.ok ∙ (λ j. record {
        registers = slice_set c.args.machine.now.registers 31 (c.position.ensures j);
        stack = c.args.stacks.child;
        tables = (rw held at c.in_ok-tables.ensures.child) j;
        made = child_made j;
        fuel = (c.new-2.ensures ∙ ap (λ n. record { limit = n; ticks = 0 }) limit) j;
        beat = c.new-3.ensures j;
        output = c.new-4.ensures.items j;
        goal = goals.At c.args.tie.rec Right c.args.tie.target;
        block = c.args.child;
        at = 0;
        pending = None;
        met = None;
        waiting = None;
      })) i;
    })
