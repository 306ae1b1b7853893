use Rattle.std.proofs.Common.{◌≡◌, ◌<◌, ◌∙◌, ◌++◌, ◌∷◌, [], ap, sym, take, length, get_or}
use Rattle.loop_rules.specs.Names.{func_names}
use Rattle.loop_rules.proofs.Wholes.{names_more, funcs_step}
use Rattle.loop_rules.proofs.whole.in_funcs.Goals as goal

pub loop-i-preserved : goal.loop-i-preserved
loop-i-preserved c =
    let p = c.args.whole.now.program.now in
    let fs = p.funcs.items in
    let i = c.loop-i.i in
    let f = c.index-funcs-i.result in
    let is : f ≡ get_or fs i f = rw c.as_slice-funcs.ensures.value at c.index-funcs-i.is in
    let lt : i < length fs = rw c.as_slice-funcs.ensures.value at c.loop-i-test.true in
    let e = rw c.as_slice-funcs.ensures.value at c.in_ok-in_declared_func.ensures in (
      c.in_ok-declare.ensures ∙ ap (λ r. r ++ c.deref.result.now ∷ []) c.loop-i.invariant.0 ∙ ap (λ n. func_names (take i fs) ++ n ∷ []) c.deref.ensures.value
          ∙ sym (names_more fs i f lt is),
      funcs_step fs i f lt is p c.loop-i.found c.in_declared_func.new.found e ∙ c.loop-i.invariant.1,
    )
