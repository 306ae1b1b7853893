use Rattle.std.proofs.Common.{◌≡◌, ◌≤◌, [], length, Some, None, ap, slice_range, arith}
use Rattle.std.specs.Prelude.{Option, MatchOption}
use Rattle.std.proofs.lemmas.Result.{err_from_is_err_and}
use Rattle.loop_syntax.specs.Tree.{tree_of}
use Rattle.loop_parse.specs.Terms as kinds
use Rattle.loop_parse.specs.Terms.{saw, seen, kind_of}
use Rattle.loop_parse.specs.Reading.{sum_op_of, product_op_of}
use Rattle.loop_parse.proofs.Chains.{Continues-fails, Continues-step, Continues-stop, Continues-end}
use Rattle.loop_parse.proofs.Steps.{unary_primary, gives_nested, primary_name}
use Rattle.loop_parse.proofs.expression.+expression.Goals as goal
use Rattle.loop_parse.proofs.expression.+expression.Goals.{factors-in-Some+in_default-product_op}
use Rattle.loop_parse.proofs.expression.+expression.Goals.{factors-in_default}
use Rattle.loop_parse.proofs.expression.+expression.Goals.{terms-in-Some+in_default-sum_op}
use Rattle.loop_parse.proofs.expression.+expression.Goals.{terms-in_default}

none_some : {A : Type 0} (a : A) → Some a ≡ None → ⊥
none_some a is = cc

-- what a match says where there is none
none_left : {A : Type 0} (o : Option A) (P : Type 0) (Q : A → Type 0) → MatchOption o P Q → o ≡ None → P
none_left None P Q holds is = holds
none_left (Some a) P Q holds is = absurd (none_some a is)

pub unary-returns-clause-reads : goal.unary-returns-clause-reads
unary-returns-clause-reads t c = λ n h.
    rw (unary_primary n (seen c.args.source.now c.args.tokens.now) (saw c.args.source.now c.in-Some.first) (seen c.args.source.now c.in-Some.after.now) c.in-Some.ensures cc) (c.primary.ensures.reads n h)

pub inner-returns-clause-reads : goal.inner-returns-clause-reads
inner-returns-clause-reads t c =
    gives_nested c.args.source.now (λ x. (tree_of x.0.value, seen c.args.source.now x.1.now)) c.expr.result (seen c.args.source.now c.args.tokens.now) c.expr.ensures.reads

pub atom-returns-in-Name-clause-reads : goal.atom-returns-in-Name-clause-reads
atom-returns-in-Name-clause-reads t c = λ n h o.
    let text = slice_range c.args.source.now c.in-Some.first.start c.in-Some.first.end in
    let k : (saw c.args.source.now c.in-Some.first).kind ≡ kinds.Name text = ap (λ q. kind_of q text) c.in-Name.is in
    rw (primary_name n (seen c.args.source.now c.args.tokens.now) (saw c.args.source.now c.in-Some.first) (seen c.args.source.now c.in-Some.after.now) text c.in-Some.ensures k) (c.cell_or_variable.ensures.reads n h)

pub factors-returns-in_err-right-clause-reads : goal.factors-returns-in_err-right-clause-reads
factors-returns-in_err-right-clause-reads t c = λ n m h k.
    let p = err_from_is_err_and c.from_residual.result c.from_residual.ensures.1 in
    let l : length (seen c.args.source.now c.in-Some.after.now) ≤ n = omega (arith, c.loop-token.invariant.0, ap length c.in-Some.ensures) in
    let e : product_op_of (saw c.args.source.now c.in-Some.token).kind ≡ Some c.in-Some-product_op.op = cc in
    rw (p.1, p.2) (Continues-fails c.args.source.now c.in_err-right.field-0.0 (saw c.args.source.now c.in-Some.token) (seen c.args.source.now c.in-Some.after.now) c.in-Some-product_op.op (c.loop-token.invariant.1 n m h k) c.in-Some.ensures e (c.in_err-right.ensures.reads n l))

pub terms-returns-in_err-right-clause-reads : goal.terms-returns-in_err-right-clause-reads
terms-returns-in_err-right-clause-reads t c = λ n m h k.
    let p = err_from_is_err_and c.from_residual.result c.from_residual.ensures.1 in
    let l : length (seen c.args.source.now c.in-Some.after.now) ≤ n = omega (arith, c.loop-token.invariant.0, ap length c.in-Some.ensures) in
    let e : sum_op_of (saw c.args.source.now c.in-Some.token).kind ≡ Some c.in-Some-sum_op.op = cc in
    rw (p.1, p.2) (Continues-fails c.args.source.now c.in_err-right.field-0.0 (saw c.args.source.now c.in-Some.token) (seen c.args.source.now c.in-Some.after.now) c.in-Some-sum_op.op (c.loop-token.invariant.1 n m h k) c.in-Some.ensures e (c.in_err-right.ensures.reads n l))

pub factors-loop-token-preserved : goal.factors-loop-token-preserved
factors-loop-token-preserved t c = (
  omega (arith, c.loop-token.invariant.0, ap length c.in-Some.ensures, c.in_ok-right.ensures.shorter),
  λ n m h k.
      let l : length (seen c.args.source.now c.in-Some.after.now) ≤ n = omega (arith, c.loop-token.invariant.0, ap length c.in-Some.ensures) in
      let e : product_op_of (saw c.args.source.now c.in-Some.token).kind ≡ Some c.in-Some-product_op.op = cc in
      rw c.in_ok-left.ensures
      (Continues-step (saw c.args.source.now c.in-Some.token) (seen c.args.source.now c.in-Some.after.now) (seen c.args.source.now c.in_ok-right.more.now) c.in-Some-product_op.op (tree_of c.in_ok-right.right.value)
      (c.loop-token.invariant.1 n m h k) c.in-Some.ensures e (c.in_ok-right.ensures.reads n l) c.in_ok-right.ensures.shorter),
)

pub factors-returns-clause-reads : goal.factors-returns-clause-reads
factors-returns-clause-reads t c = λ n m h k. elim c.match-next.branch [
  | factors-in-Some+in_default-product_op w ↦
      let e : product_op_of (saw c.args.source.now w.in-Some.token).kind ≡ None = cc in
      Continues-stop (saw c.args.source.now w.in-Some.token) (seen c.args.source.now w.in-Some.after.now) (c.loop-token.invariant.1 n m h k) w.in-Some.ensures e
  | factors-in_default w ↦ Continues-end (c.loop-token.invariant.1 n m h k) (none_left c.next.result (seen c.args.source.now c.loop-token.rest.now ≡ []) _ c.next.ensures w.in_default.is)
]

pub terms-loop-token-preserved : goal.terms-loop-token-preserved
terms-loop-token-preserved t c = (
  omega (arith, c.loop-token.invariant.0, ap length c.in-Some.ensures, c.in_ok-right.ensures.shorter),
  λ n m h k.
      let l : length (seen c.args.source.now c.in-Some.after.now) ≤ n = omega (arith, c.loop-token.invariant.0, ap length c.in-Some.ensures) in
      let e : sum_op_of (saw c.args.source.now c.in-Some.token).kind ≡ Some c.in-Some-sum_op.op = cc in
      rw c.in_ok-left.ensures
      (Continues-step (saw c.args.source.now c.in-Some.token) (seen c.args.source.now c.in-Some.after.now) (seen c.args.source.now c.in_ok-right.more.now) c.in-Some-sum_op.op (tree_of c.in_ok-right.right.value)
      (c.loop-token.invariant.1 n m h k) c.in-Some.ensures e (c.in_ok-right.ensures.reads n l) c.in_ok-right.ensures.shorter),
)

pub terms-returns-clause-reads : goal.terms-returns-clause-reads
terms-returns-clause-reads t c = λ n m h k. elim c.match-next.branch [
  | terms-in-Some+in_default-sum_op w ↦
      let e : sum_op_of (saw c.args.source.now w.in-Some.token).kind ≡ None = cc in
      Continues-stop (saw c.args.source.now w.in-Some.token) (seen c.args.source.now w.in-Some.after.now) (c.loop-token.invariant.1 n m h k) w.in-Some.ensures e
  | terms-in_default w ↦ Continues-end (c.loop-token.invariant.1 n m h k) (none_left c.next.result (seen c.args.source.now c.loop-token.rest.now ≡ []) _ c.next.ensures w.in_default.is)
]
