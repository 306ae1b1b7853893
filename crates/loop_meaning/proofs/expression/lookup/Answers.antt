use Rattle.std.proofs.Common.{rules, ◌≡◌, true, ◌<◌, length, ◌∙◌, sym, SFits, bytes_eq}
use Rattle.std.specs.Int.{w64}
use Rattle.std.proofs.lemmas.Int.{to_z-of_z}
use Rattle.loop_meaning.proofs.Found.{lookup_found}
use Rattle.loop_meaning.proofs.expression.lookup.Goals as goal

pub returns-then-eq : goal.returns-then-eq
returns-then-eq c =
    let f : SFits w64 c.v-item.result.value = search rules in
    let h : c.loop-v.v-index < length c.args.vars.now = search rules in
    let e : bytes_eq c.v-item.result.name c.args.name.now ≡ true = cc in
    to_z-of_z w64 c.v-item.result.value f ∙ sym (lookup_found _ _ _ _ h c.v-item.is e) ∙ c.loop-v.invariant
