use Rattle.std.proofs.Common.{◌∙◌, ℕ, ◌+◌, refl, sym, ap, rules, arith}
use Rattle.join_records.specs.Views.{opened_view}
use Rattle.join_records.proofs.Opening.{opens_filled}
use Rattle.join_records.proofs.table.Records.open_filled.Goals as goal

pub compare_exchange-pass-requires : goal.compare_exchange-pass-requires
compare_exchange-pass-requires g c = let fits = c.requires.fits in let m = fits.5 in
    (search rules, search rules, opens_filled _ _ _ _ _ _ c.args.up _ m.0 m.1 _ fits.0 fits.1 _ c.end_code.ensures.code c.requires.picks c.requires.table.1 (search rules) c.requires.hand.0 c.requires.hand.1 m.4 fits.3 m.3 fits.4 m.2 fits.2)

pub invariant_of-pass : goal.invariant_of-pass
invariant_of-pass g c = let was = c.args.pass.now.counted in let told = c.compare_exchange-pass.ensures.2 c.args.k _ refl c.requires.picks in let few = c.requires.hand.2 in let count = was.0 in
    record { counted = (ap (λ (n : ℕ). n + 1) was.0 ∙ sym (ap (λ v. v.opens) told.0), omega arith, was.2 ∙ sym (ap (λ v. v.made) told.0)) }

pub returns-clause-pass : goal.returns-clause-pass
returns-clause-pass g c = let told = c.compare_exchange-pass.ensures.2 c.args.k _ refl c.requires.picks in ((c.compare_exchange-pass.ensures.0, c.compare_exchange-pass.ensures.1), told.1)

pub returns-clause-seen : goal.returns-clause-seen
returns-clause-seen g c = let told = c.compare_exchange-pass.ensures.2 c.args.k _ refl c.requires.picks in
    λ e owes. told.0 ∙ ap (λ a. opened_view c.args.pass.now.seat.me.0 c.args.k a) (c.args.left.now.promise.1.1 e (∣ owes ∣₁))
