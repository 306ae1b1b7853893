use Rattle.std.proofs.Common.{◌≡◌, ◌<◌, ◌+◌, ◌∙◌, arith, ℕ, List, [], get_or, ap, subst, sym}
use Rattle.std.proofs.Common.{length}
use Rattle.std.specs.Borrow.{Bor}
use Rattle.loop_check.specs.Walk.{texts_of}
use Rattle.loop_check.proofs.Walking.{texts_length}
use Rattle.loop_check.proofs.Reading.{Closing, closing_first, closing_next, closing_end, texts_at}
use Rattle.loop_check.proofs.readers.readers_of.Goals as goal

pub loop-i-init : goal.loop-i-init
loop-i-init c =
    let e = rw c.new-names.ensures.items at c.in_ok-add_users.ensures in
    subst (λ xs. Closing c.args.program.now c.args.table.now xs 0) (sym e) (closing_first c.args.program.now c.args.table)

pub returns-then-i-len : goal.returns-then-i-len
returns-then-i-len c =
    closing_end c.args.program.now c.args.table.now (texts_of c.loop-i.names.items) c.loop-i.i c.loop-i.invariant (omega (arith, c.if-i-len.true, c.len.ensures, c.loop-i.names.ok, texts_length c.loop-i.names.items))

pub loop-i-preserved : goal.loop-i-preserved
loop-i-preserved c =
    let p = c.args.program.now in
    let xs = c.loop-i.names.items in
    let f = c.index-f.result.now in
    let lt : c.loop-i.i < length xs = omega (arith, c.if-i-len.false, c.len.ensures, c.loop-i.names.ok) in
    let is : f.now ≡ get_or (texts_of xs) c.loop-i.i [] = ap (λ (z : Bor (List ℕ)). z.now) c.index-f.ensures ∙ sym (texts_at xs c.loop-i.i f lt) in
    subst (λ ys. Closing p c.args.table.now ys (c.loop-i.i + 1)) (sym c.in_ok-add_users-2.ensures)
    (closing_next p c.args.table.now (texts_of xs) c.loop-i.i f c.loop-i.invariant (omega (arith, lt, texts_length xs)) is)

pub returns : goal.returns
returns c =
    closing_end c.args.program.now c.args.table.now (texts_of c.loop-i.names.items) c.loop-i.i c.loop-i.invariant (omega (arith, c.loop-i-test.false, c.loop-i.names.ok, c.loop-i.names.small, texts_length c.loop-i.names.items))
