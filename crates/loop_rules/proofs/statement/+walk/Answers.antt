use Rattle.std.proofs.Common.{◌≡◌, ◌∙◌, ap, arith, ℕ, suc, take, vec_len, length, length-append}
use Rattle.std.proofs.Common.{◌++◌, ◌∷◌, []}
use Rattle.loop_rules.specs.Search.{resolved_rules}
use Rattle.loop_rules.specs.Sites.{Spot, site, Declares, in_loop, in_whole, in_list}
use Rattle.loop_rules.specs.Walk.{spot_of}
use Rattle.loop_rules.proofs.Walking.{two_parts, in_if, in_while, in_looped, list_found}
use Rattle.loop_rules.proofs.Walking.{list_stands, block_left, loop_left, popped, par_left}
use Rattle.loop_rules.proofs.Walking.{par_found, ok_map}
use Rattle.loop_rules.proofs.statement.+walk.Goals as goal

pub in_block-returns : goal.in_block-returns
in_block-returns t c = record {
  found = c.in_ok-in_list.ensures.found;
  stands =
      block_left (spot_of c.args.spot.now) (spot_of c.in_list.new.spot) c.args.body.now c.leave.new.self c.in_ok-in_list.ensures.stands
      (c.leave.ensures ∙ ap (λ n. take n c.in_list.new.spot.scope) c.len-n.ensures);
}

pub in_list-loop-s-preserved : goal.in_list-loop-s-preserved
in_list-loop-s-preserved t c =
    let w = spot_of c.loop-s.spot in
    let e = c.in_ok-in_stmt.ensures in (
      list_found resolved_rules w c.loop-s.found c.in_stmt.new.found c.args.body.now c.loop-s.s-index c.s-item.result (spot_of c.in_stmt.new.spot) c.loop-s-test.true c.s-item.is e.found e.stands
          ∙ c.loop-s.invariant.0,
      list_stands w c.args.body.now c.loop-s.s-index c.s-item.result (spot_of c.in_stmt.new.spot) c.loop-s-test.true c.s-item.is e.stands
          ∙ c.loop-s.invariant.1,
    )

pub in_loop-returns : goal.in_loop-returns
in_loop-returns t c =
    let e = rw (c.in_ok-declare.ensures, c.in_ok-declare-2.ensures, c.deref.ensures.value, c.deref-2.ensures.value) at c.in_ok-in_list.ensures in
    record {
      found = e.found;
      stands =
          loop_left (spot_of c.args.spot.now) (spot_of c.in_list.new.spot) c.args.variable.now c.args.body.now c.leave.new.self c.leave-2.new.self e.stands
          (c.leave.ensures ∙ ap (λ n. take n c.in_list.new.spot.scope) c.len-n.ensures)
          (c.leave-2.ensures ∙ ap (λ n. take n c.in_list.new.spot.loops) c.len-m.ensures);
    }

pub in_par-returns : goal.in_par-returns
in_par-returns t c =
    let w = spot_of c.args.spot.now in
    let deeper : length c.push.new.self.items ≡ suc (length c.args.spot.now.rounds.items) =
    ap length c.in_ok-push.ensures.items ∙ length-append c.args.spot.now.rounds.items (c.args.par.now.place ∷ []) ∙ omega arith in
    let e = rw (deeper, c.deref-2.ensures.value) at c.in_ok-in_loop.ensures in
    let carried = rw c.deref.ensures.value at c.in_carries.ensures in
    let some : length c.in_loop.new.spot.rounds.items ≡ suc (length c.args.spot.now.rounds.items) = ap {A = Spot} {B = ℕ} (λ u. u.depth) e.stands in
    let fewer : suc (vec_len c.pop.new.self) ≡ vec_len c.in_loop.new.spot.rounds =
    popped c.pop.result _ _ c.pop.ensures.cases (omega (arith, c.in_loop.new.spot.rounds.ok)) in
    record {
      found =
          par_found w c.args.par.now c.args.found.now c.parallel.new.found c.in_bounds.new.found c.in_carries.new.found c.in_loop.new.found
          c.parallel.ensures c.in_bounds.ensures carried e.found;
      stands =
          par_left w (spot_of c.in_loop.new.spot) (length c.pop.new.self.items) e.stands
          (omega (arith, fewer, c.pop.new.self.ok, c.in_loop.new.spot.rounds.ok));
    }

pub in_stmt-returns-in_ok-in_block-in-If : goal.in_stmt-returns-in_ok-in_block-in-If
in_stmt-returns-in_ok-in_block-in-If t c =
    let w = spot_of c.args.spot.now in
    let one = rw c.deref-in-If.ensures.value at c.in_ok-in_block-in-If.ensures in
    ok_map c.in_block-in-If.result
    (λ u e.
    let two = rw (one.stands, c.deref-in-If-2.ensures.value) at e in
    rw (c.in-If.is, in_if w c.in-If.e c.in-If.body c.in-If.other) (record {
      found =
          two_parts resolved_rules c.args.found.now c.in_whole-in-If.new.found c.in_block-in-If.new.found (in_whole w c.in-If.e) (in_list w c.in-If.body.items ++ in_list w c.in-If.other.items) c.in_whole-in-If.ensures
          (two_parts resolved_rules c.in_whole-in-If.new.found c.in_block.new.found c.in_block-in-If.new.found (in_list w c.in-If.body.items) (in_list w c.in-If.other.items) one.found two.found);
      stands = two.stands;
    })) c.in_block-in-If.ensures

pub in_stmt-returns-in-While : goal.in_stmt-returns-in-While
in_stmt-returns-in-While t c =
    let w = spot_of c.args.spot.now in
    ok_map c.in_block-in-While.result
    (λ u e.
    let two = rw c.deref-in-While.ensures.value at e in
    rw (c.in-While.is, in_while w c.in-While.e c.in-While.body) (record {
      found =
          two_parts resolved_rules c.args.found.now c.in_whole-in-While.new.found c.in_block-in-While.new.found (in_whole w c.in-While.e) (in_list w c.in-While.body.items)
          c.in_whole-in-While.ensures two.found;
      stands = two.stands;
    })) c.in_block-in-While.ensures

pub in_stmt-returns-in-Loop : goal.in_stmt-returns-in-Loop
in_stmt-returns-in-Loop t c =
    let w = spot_of c.args.spot.now in
    ok_map c.in_loop.result
    (λ u e.
    let two = rw c.deref-in-Loop.ensures.value at e in
    rw (c.in-Loop.is, in_looped w c.in-Loop.x c.in-Loop.a c.in-Loop.b c.in-Loop.body) (record {
      found =
          two_parts resolved_rules c.args.found.now c.in_bounds.new.found c.in_loop.new.found
          (site w (Declares c.in-Loop.x) ∷ in_whole w c.in-Loop.a ++ in_whole w c.in-Loop.b) (in_list (in_loop w c.in-Loop.x) c.in-Loop.body.items)
          c.in_bounds.ensures two.found;
      stands = two.stands;
    })) c.in_loop.ensures
