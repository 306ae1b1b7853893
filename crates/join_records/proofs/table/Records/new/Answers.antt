use Rattle.std.proofs.Common.{◌≡◌, ◌∙◌, ◌+◌, ◌∷◌, length, ap, subst, arith}
use Rattle.join_records.specs.Passes.{view, RootView}
use Rattle.join_records.proofs.NewPasses.{root_split, idle_split, more_each, new_each}
use Rattle.join_records.proofs.Functions.{length_more}
use Rattle.join_records.proofs.table.Records.new.Goals as goal

pub loop-number-preserved : goal.loop-number-preserved
loop-number-preserved g c = let inv = c.loop-number.invariant in let s = c.split-pass.ensures in let items = c.in_ok-push.ensures.items in let long = c.in_ok-push.ensures.len in let more = c.loop-number-test.true in let few = c.requires.seats.1 in let len = inv.4 in
    let root = root_split inv.0 c.loop-number._number (view c.loop-number.root) (view c.split-pass.new.pass) (omega arith) inv.3 s.pass.1 in (
      inv.0,
      inv.1,
      (s.pass.0.0 ∙ inv.2.0, s.pass.0.2 ∙ inv.2.1, λ z. let p = root.0 in omega arith),
      root,
      ap (λ n. n + 1) (ap length items ∙ length_more _ _ ∙ inv.4),
      more_each c.in_ok-table.table inv.0 _ _ _ items (s.other.0, idle_split inv.0 c.loop-number._number _ (view c.loop-number.root) (view c.split-pass.result) inv.3 s.other.1 inv.4) inv.5,
    )

pub returns : goal.returns
returns g c = let inv = c.loop-number.invariant in let items = c.in_ok-insert.ensures.items in let over = c.loop-number-test.false in let some_seat = c.requires.seats.0 in let near = c.loop-number.auto._number-end some_seat in let len = inv.4 in
    let same : c.loop-number._number ≡ c.args.seats = omega arith in let is : c.insert.new.self.items ≡ c.loop-number.root ∷ c.loop-number.passes.items = items in let n = ap length is in record {
      records = c.in_ok-table.ensures.0;
      passes = (inv.0, inv.1, omega arith, new_each c.in_ok-table.table inv.0 c.args.seats _ _ _ is (inv.2, subst (λ z. RootView inv.0 z (view c.loop-number.root)) same inv.3) inv.5);
    }
