use Rattle.std.proofs.Common.{◌≡◌, ◌∙◌, ap, arith, ℕ, List, Option, take, length, ◌++◌, ◌∷◌}
use Rattle.loop_rules.specs.Sites.{Loop, in_loop, in_whole, in_list}
use Rattle.std.specs.Borrow.{Bor}
use Rattle.loop_rules.specs.declared.fault.Fault.{Fault}
use Rattle.loop_check.specs.declared.round.Round.{Round}
use Rattle.loop_rules.specs.Search.{lowest_in}
use Rattle.loop_check.specs.Search.{checked_rules}
use Rattle.loop_check.specs.Walk.{inside, texts_of, rounds_of}
use Rattle.loop_rules.proofs.Walking.{two_parts, in_if, in_while, list_found, list_stands}
use Rattle.loop_rules.proofs.Walking.{block_left, loop_left, ok_map}
use Rattle.loop_check.proofs.Walking.{texts_more, texts_take, texts_length, looped_found, par_found}
use Rattle.loop_check.proofs.statement.+walk.Goals as goal

pub in_block-returns : goal.in_block-returns
in_block-returns t c =
    let w = c.args.spot.now in
    let v = c.in_list.new.spot in
    let count : c.len-n.result ≡ length (texts_of w.scope.items) = omega (arith, c.len-n.ensures, w.scope.ok, texts_length w.scope.items) in
    record {
      found = c.in_ok-in_list.ensures.found;
      stands =
          block_left (inside w) (inside v) c.args.body.now (texts_of c.truncate.new.self.items) c.in_ok-in_list.ensures.stands
          (ap texts_of c.truncate.ensures.items ∙ texts_take c.len-n.result v.scope.items ∙ ap (λ n. take n (texts_of v.scope.items)) count);
    }

pub in_list-loop-s-preserved : goal.in_list-loop-s-preserved
in_list-loop-s-preserved t c =
    let w = inside c.loop-s.spot in
    let e = c.in_ok-in_stmt.ensures in (
      list_found (checked_rules c.args.readers.now) w c.loop-s.found c.in_stmt.new.found c.args.body.now c.loop-s.s-index c.s-item.result (inside c.in_stmt.new.spot) c.loop-s-test.true c.s-item.is e.found e.stands
          ∙ c.loop-s.invariant.0,
      list_stands w c.args.body.now c.loop-s.s-index c.s-item.result (inside c.in_stmt.new.spot) c.loop-s-test.true c.s-item.is e.stands
          ∙ c.loop-s.invariant.1,
    )

pub in_loop-returns : goal.in_loop-returns
in_loop-returns t c =
    let w = c.args.spot.now in
    let v = c.in_list.new.spot in
    let count : c.len-n.result ≡ length (texts_of w.scope.items) = omega (arith, c.len-n.ensures, w.scope.ok, texts_length w.scope.items) in
    let counted : c.len-m.result ≡ length (texts_of w.loops.items) = omega (arith, c.len-m.ensures, w.loops.ok, texts_length w.loops.items) in
    let e =
    rw (c.in_ok-push.ensures.items, texts_more w.scope.items c.deref.result, c.deref.ensures.value, c.in_ok-push-2.ensures.items, texts_more w.loops.items c.deref-2.result, c.deref-2.ensures.value)
    at c.in_ok-in_list.ensures in
    record {
      found = e.found;
      stands =
          loop_left (inside w) (inside v) c.args.variable.now c.args.body.now (texts_of c.truncate.new.self.items) (texts_of c.truncate-2.new.self.items) e.stands
          (ap texts_of c.truncate.ensures.items ∙ texts_take c.len-n.result v.scope.items ∙ ap (λ n. take n (texts_of v.scope.items)) count)
          (ap texts_of c.truncate-2.ensures.items ∙ texts_take c.len-m.result v.loops.items ∙ ap (λ n. take n (texts_of v.loops.items)) counted);
    }

pub in_par-returns : goal.in_par-returns
in_par-returns t c =
    let w = c.args.spot.now in
    let l = c.args.par_loop.now in
    ok_map c.in_body.result
    (λ u e.
    let head = rw c.as_slice.ensures.value at (c.parallel.ensures l.place l.carry_place) in
    let carried = rw c.deref.ensures.value at c.in_carries.ensures in
    let step = λ (ls : List Loop). lowest_in (checked_rules c.args.readers.now) c.in_carries.new.found (in_list (in_loop (record (inside w) { rounds = ls }) l.var) l.body.items) in
    let body : c.in_body.new.found ≡ step (rounds_of c.deref-2.result.now) = e in
    let deeper : c.deref-2.result.now ≡ record { outside = c.as_slice.result; par = c.args.par_loop } ∷ w.rounds.now = c.deref-2.ensures.value ∙ c.in_ok-rounds.ensures in
    let round : List (Bor (List ℕ)) → Loop = λ outside. record { outside = texts_of outside; var = l.var.text.items; carries = l.carries.items; reduces = l.reduces.items } in
    let last : c.in_body.new.found ≡ step (round w.scope.items ∷ rounds_of w.rounds.now) =
    body
    ∙ ap {A = List Round} {B = Option Fault} (λ rs. step (rounds_of rs)) deeper
    ∙ ap {A = List (Bor (List ℕ))} {B = Option Fault} (λ xs. step (round xs ∷ rounds_of w.rounds.now)) c.as_slice.ensures.value in
    par_found c.args.readers.now (inside w) l c.args.found.now c.parallel.new.found c.all_leave.new.found c.in_bounds.new.found c.in_carries.new.found c.in_body.new.found
    head c.in_ok-all_leave.ensures c.in_bounds.ensures carried last) c.in_body.ensures

pub in_stmt-returns-in_ok-in_block-in-If : goal.in_stmt-returns-in_ok-in_block-in-If
in_stmt-returns-in_ok-in_block-in-If t c =
    let rs = checked_rules c.args.readers.now in
    let w = inside c.args.spot.now in
    let one = rw c.deref-in-If.ensures.value at c.in_ok-in_block-in-If.ensures in
    ok_map c.in_block-in-If.result
    (λ u e.
    let two = rw (one.stands, c.deref-in-If-2.ensures.value) at e in
    rw (c.in-If.is, in_if w c.in-If.e c.in-If.body c.in-If.other) (record {
      found =
          two_parts rs c.args.found.now c.in_whole-in-If.new.found c.in_block-in-If.new.found (in_whole w c.in-If.e) (in_list w c.in-If.body.items ++ in_list w c.in-If.other.items) c.in_whole-in-If.ensures
          (two_parts rs c.in_whole-in-If.new.found c.in_block.new.found c.in_block-in-If.new.found (in_list w c.in-If.body.items) (in_list w c.in-If.other.items) one.found two.found);
      stands = two.stands;
    })) c.in_block-in-If.ensures

pub in_stmt-returns-in-While : goal.in_stmt-returns-in-While
in_stmt-returns-in-While t c =
    let rs = checked_rules c.args.readers.now in
    let w = inside c.args.spot.now in
    ok_map c.in_block-in-While.result
    (λ u e.
    let two = rw c.deref-in-While.ensures.value at e in
    rw (c.in-While.is, in_while w c.in-While.e c.in-While.body) (record {
      found =
          two_parts rs c.args.found.now c.in_whole-in-While.new.found c.in_block-in-While.new.found (in_whole w c.in-While.e) (in_list w c.in-While.body.items)
          c.in_whole-in-While.ensures two.found;
      stands = two.stands;
    })) c.in_block-in-While.ensures

pub in_stmt-returns-in-Loop : goal.in_stmt-returns-in-Loop
in_stmt-returns-in-Loop t c =
    let w = c.args.spot.now in
    ok_map c.in_loop.result
    (λ u e.
    let two = rw c.deref-in-Loop.ensures.value at e in
    rw c.in-Loop.is (record {
      found =
          looped_found c.args.readers.now (inside w) c.in-Loop.x c.in-Loop.a c.in-Loop.b c.in-Loop.body
          c.args.found.now c.in_bounds.new.found c.in_loop.new.found c.in_bounds.ensures two.found;
      stands = two.stands;
    })) c.in_loop.ensures
