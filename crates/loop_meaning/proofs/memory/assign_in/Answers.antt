use Rattle.std.proofs.Common.{rules, ◌≡◌, true, ◌<◌, ◌≤◌, ◌∙◌, ap, sym, length, get_or, set}
use Rattle.std.proofs.Common.{bytes_eq}
use Rattle.std.specs.Int.{w64}
use Rattle.std.proofs.lemmas.Int.{to_z-of_z}
use Rattle.loop_meaning.proofs.Found.{assign_found, assign_end}
use Rattle.loop_meaning.proofs.memory.assign_in.Goals as goal

pub returns-then-eq : goal.returns-then-eq
returns-then-eq c =
    let vs = c.loop-i.vars in
    let i = c.loop-i.i in
    let d = c.index-vars-i-then-eq.result in
    let h : i < length vs = search rules in
    let e : bytes_eq c.index-vars-i.result.name c.args.variable.now ≡ true = cc in
    ap (λ z. set vs i (record { name = (get_or vs i d).name; value = z })) (to_z-of_z w64 c.args.n c.ranges.n)
    ∙ sym (assign_found vs c.args.variable.now c.args.n i c.index-vars-i.result d h c.index-vars-i.is e)
    ∙ simp (to_z-of_z, c.ranges.n) at c.loop-i.invariant

pub returns : goal.returns
returns c =
    let h : length c.loop-i.vars ≤ c.loop-i.i = search rules in
    sym (assign_end c.loop-i.vars c.args.variable.now c.args.n c.loop-i.i h) ∙ simp (to_z-of_z, c.ranges.n) at c.loop-i.invariant
