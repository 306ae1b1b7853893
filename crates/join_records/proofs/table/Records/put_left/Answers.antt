use Rattle.std.proofs.Common.{◌∙◌, ℕ, ◌+◌, ◌*◌, ◌∷◌, Some, None, refl, sym, ap, rules}
use Rattle.atomic_table.specs.Table.{rest}
use Rattle.join_records.specs.declared.slot.Item.TheVariants.{Side}
use Rattle.join_records.proofs.Calls.{front}
use Rattle.join_records.proofs.Arriving.{takes_left}
use Rattle.join_records.proofs.table.Records.put_left.Goals as goal

pub load-requires : goal.load-requires
load-requires g c = let end = c.requires.end.1 in (search rules, search rules, takes_left _ _ _ _ _ _ end.0 c.requires.table.2 (search rules) c.requires.end.0 end.1)

pub exchange-requires : goal.exchange-requires
exchange-requires g c = let end = c.requires.end.1 in let told = c.load.ensures.2 c.args.k end.0 refl end.1 in (c.load.ensures.0 ∙ c.requires.table.0, (None, front _ _ _ told.1))

pub invariant_of-pass : goal.invariant_of-pass
invariant_of-pass g c = let was = c.args.pass.now.counted in let end = c.requires.end.1 in let told = c.load.ensures.2 c.args.k end.0 refl end.1 in let same = ap (λ m. m.0) c.exchange.ensures.3 ∙ told.0 in
    record { counted = (was.0 ∙ sym (ap (λ v. v.opens) same), was.1, was.2 ∙ sym (ap (λ v. v.made) same)) }

pub returns-clause-slot : goal.returns-clause-slot
returns-clause-slot g c = let k : ℕ = c.args.k in let end = c.requires.end.1 in let told = c.load.ensures.2 k end.0 refl end.1 in
    (ap (λ m. m.1) c.exchange.ensures.3 ∙ ap (λ l. (4 * k + 2, Some (Side c.args.out)) ∷ rest l) (told.1 ∙ ap (λ l. (4 * k + 2, None) ∷ l) c.requires.table.1))

pub returns-clause-seen : goal.returns-clause-seen
returns-clause-seen g c = (c.load.result, λ e is. ap (λ m. m.0) c.exchange.ensures.3 ∙ (c.load.ensures.2 c.args.k e refl is).0)
