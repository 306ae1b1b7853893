use Rattle.std.proofs.Common.{◌∙◌, ℕ, ◌+◌, ◌*◌, ◌∷◌, Some, None, refl, sym, ap, rules}
use Rattle.atomic_table.specs.Table.{rest, turned}
use Rattle.join_records.specs.declared.slot.Item.TheVariants.{Rest, Child}
use Rattle.join_records.proofs.Opening.{takes_places}
use Rattle.join_records.proofs.Calls.{front}
use Rattle.join_records.proofs.table.Records.place.Goals as goal

pub load-requires : goal.load-requires
load-requires g c = (search rules, search rules, takes_places _ _ _ _ _ _ (search rules) (search rules) c.requires.hand)

pub exchange-requires : goal.exchange-requires
exchange-requires g c = let told = c.load.ensures.2 c.args.k refl in (search rules, (None, front _ _ _ told.1))

pub exchange-requires-2 : goal.exchange-requires-2
exchange-requires-2 g c =
    let k : ℕ = c.args.k in let told = c.load.ensures.2 k refl in
    let one = told.1 ∙ ap (λ l. (4 * k, None) ∷ (4 * k + 1, None) ∷ l) c.requires.table.1 in
    let two = ap (λ m. m.1) c.exchange.ensures.3 ∙ ap (λ l. (4 * k, Some (Rest c.args.rest)) ∷ rest l) one in
    (search rules, (None, front _ _ _ (ap (λ m. m.1) c.turn.ensures.2 ∙ ap turned two)))

pub invariant_of-pass : goal.invariant_of-pass
invariant_of-pass g c = let was = c.args.pass.now.counted in let told = c.load.ensures.2 c.args.k refl in
    let same = ap (λ m. m.0) c.exchange-2.ensures.3 ∙ ap (λ m. m.0) c.turn.ensures.2 ∙ ap (λ m. m.0) c.exchange.ensures.3 ∙ told.0 in
    record { counted = (was.0 ∙ sym (ap (λ v. v.opens) same), was.1, was.2 ∙ sym (ap (λ v. v.made) same)) }

pub returns-clause-slots : goal.returns-clause-slots
returns-clause-slots g c =
    let k : ℕ = c.args.k in let told = c.load.ensures.2 k refl in
    let one = told.1 ∙ ap (λ l. (4 * k, None) ∷ (4 * k + 1, None) ∷ l) c.requires.table.1 in
    let two = ap (λ m. m.1) c.exchange.ensures.3 ∙ ap (λ l. (4 * k, Some (Rest c.args.rest)) ∷ rest l) one in
    let three = ap (λ m. m.1) c.turn.ensures.2 ∙ ap turned two in
    ap (λ m. m.1) c.exchange-2.ensures.3 ∙ ap (λ l. (4 * k + 1, Some (Child c.args.child)) ∷ rest l) three
