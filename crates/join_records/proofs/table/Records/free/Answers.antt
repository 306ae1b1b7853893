use Rattle.std.proofs.Common.{◌∙◌, refl, sym, ap, rules}
use Rattle.join_records.specs.Views.{in_hand}
use Rattle.join_records.proofs.Freeing.{frees}
use Rattle.join_records.proofs.table.Records.free.Goals as goal

pub compare_exchange-requires : goal.compare_exchange-requires
compare_exchange-requires g c = let met = c.requires.hand in let f = c.read_full-full.ensures in let seen = f.word in
    (f.pass.0 ∙ c.requires.table.0, search rules, frees _ _ _ _ _ _ met.0 _ (λ z. c.requires.table.2 (sym (ap (λ v. v.parts) seen) ∙ z)) (search rules) (ap (λ v. in_hand v.hand c.args.met.number) seen ∙ met.1) (f.full met.0 met.1))

pub invariant_of-pass : goal.invariant_of-pass
invariant_of-pass g c = let was = c.read_full-full.new.pass.counted in let told = (c.compare_exchange.ensures.2 c.args.met.number refl).0 in
    record { counted = (was.0 ∙ sym (ap (λ v. v.opens) told), was.1, was.2 ∙ sym (ap (λ v. v.made) told)) }

pub returns-clause-pass : goal.returns-clause-pass
returns-clause-pass g c = let f = c.read_full-full.ensures.pass in let x = c.compare_exchange.ensures in (x.0 ∙ f.0, x.1 ∙ f.1, (x.2 c.args.met.number refl).1 ∙ f.2)
