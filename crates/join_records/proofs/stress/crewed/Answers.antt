use Rattle.std.proofs.Common.{◌≡◌, ℕ, sym, subst, arith}
use Rattle.tpal_machine.specs.declared.ends.End.TheVariants.{Root}
use Rattle.join_records.specs.Views.{Holds}
use Rattle.join_records.specs.Passes.{view, IsPassOf, NewView}
use Rattle.join_records.specs.Seated.{Sits}
use Rattle.join_records.proofs.Callers.{last_four, empty_unmet}
use Rattle.join_records.proofs.stress.crewed.Goals as goal

pub returns-clause-one : goal.returns-clause-one
returns-clause-one c = let new = c.in_ok-table.ensures.passes in let t = c.in_ok-table.table in let pass = c.in-Some-pop-3.first in
    let four = last_four (λ (k : ℕ) p. IsPassOf t p × NewView new.0 4 k (view p)) _ _ _ _ _ _ _ _ _ new.3 new.2 c.in-Some.ensures.items c.in-Some-pop.ensures.items c.in-Some-pop-2.ensures.items c.in-Some-pop-3.ensures.items in
    let mine = four.0 in let v = mine.1 in let parts : (view pass).parts ≡ 13 = (let all = v.0 in omega arith) in
    subst (λ p. Sits t c.seated.result.end p × ((view p).parts ≡ 13)) (sym c.seated.ensures.pass)
    (subst (λ e. Sits t e pass × ((view pass).parts ≡ 13)) (sym c.seated.ensures.end) ((mine.0, subst (λ e. Holds (view pass) Root e) new.1 v.1, empty_unmet (view pass) v.2.2), parts))

pub returns-clause-two : goal.returns-clause-two
returns-clause-two c = let new = c.in_ok-table.ensures.passes in let t = c.in_ok-table.table in let pass = c.in-Some-pop-2.second in
    let four = last_four (λ (k : ℕ) p. IsPassOf t p × NewView new.0 4 k (view p)) _ _ _ _ _ _ _ _ _ new.3 new.2 c.in-Some.ensures.items c.in-Some-pop.ensures.items c.in-Some-pop-2.ensures.items c.in-Some-pop-3.ensures.items in
    let mine = four.1 in let v = mine.1 in
    subst (λ p. Sits t c.seated-2.result.end p × ((view p).parts ≡ 1)) (sym c.seated-2.ensures.pass)
    (subst (λ e. Sits t e pass × ((view pass).parts ≡ 1)) (sym c.seated-2.ensures.end) ((mine.0, v.1, empty_unmet (view pass) v.3.2), v.0))

pub returns-clause-three : goal.returns-clause-three
returns-clause-three c = let new = c.in_ok-table.ensures.passes in let t = c.in_ok-table.table in let pass = c.in-Some-pop.third in
    let four = last_four (λ (k : ℕ) p. IsPassOf t p × NewView new.0 4 k (view p)) _ _ _ _ _ _ _ _ _ new.3 new.2 c.in-Some.ensures.items c.in-Some-pop.ensures.items c.in-Some-pop-2.ensures.items c.in-Some-pop-3.ensures.items in
    let mine = four.2 in let v = mine.1 in
    subst (λ p. Sits t c.seated-3.result.end p × ((view p).parts ≡ 1)) (sym c.seated-3.ensures.pass)
    (subst (λ e. Sits t e pass × ((view pass).parts ≡ 1)) (sym c.seated-3.ensures.end) ((mine.0, v.1, empty_unmet (view pass) v.3.2), v.0))

pub returns-clause-four : goal.returns-clause-four
returns-clause-four c = let new = c.in_ok-table.ensures.passes in let t = c.in_ok-table.table in let pass = c.in-Some.fourth in
    let four = last_four (λ (k : ℕ) p. IsPassOf t p × NewView new.0 4 k (view p)) _ _ _ _ _ _ _ _ _ new.3 new.2 c.in-Some.ensures.items c.in-Some-pop.ensures.items c.in-Some-pop-2.ensures.items c.in-Some-pop-3.ensures.items in
    let mine = four.3 in let v = mine.1 in
    subst (λ p. Sits t c.seated-4.result.end p × ((view p).parts ≡ 1)) (sym c.seated-4.ensures.pass)
    (subst (λ e. Sits t e pass × ((view pass).parts ≡ 1)) (sym c.seated-4.ensures.end) ((mine.0, v.1, empty_unmet (view pass) v.3.2), v.0))
