use Rattle.std.proofs.Common.{◌≡◌, ◌∙◌, ℕ, length, ap, subst, arith}
use Rattle.tpal_machine.specs.declared.ends.End.TheVariants.{Root}
use Rattle.join_records.specs.Views.{Holds}
use Rattle.join_records.specs.Passes.{view, IsPassOf, NewView}
use Rattle.join_records.proofs.Callers.{popped, empty_unmet}
use Rattle.join_records.proofs.Functions.{length_more}
use Rattle.join_records.proofs.tests.two_passes.Goals as goal

pub returns-clause-first : goal.returns-clause-first
returns-clause-first c = let new = c.in_ok-table.ensures.passes in let t = c.in_ok-table.table in let xs = c.pop.new.self.items in let ys = c.pop-2.new.self.items in
    let last = popped (λ (k : ℕ) p. IsPassOf t p × NewView new.0 2 k (view p)) _ xs _ new.3 c.in-Some.ensures.items in let first = popped (λ (k : ℕ) p. IsPassOf t p × NewView new.0 2 k (view p)) _ ys _ last.1 c.in-Some-pop.ensures.items in
    let n = ap length c.in-Some.ensures.items ∙ length_more xs _ in let m = ap length c.in-Some-pop.ensures.items ∙ length_more ys _ in let long = new.2 in
    let empty : length ys ≡ 0 = omega arith in
    let mine = subst (λ (k : ℕ). IsPassOf t c.in-Some-pop.first × NewView new.0 2 k (view c.in-Some-pop.first)) empty first.0 in let v = mine.1 in
    (mine.0, subst (λ e. Holds (view c.in-Some-pop.first) Root e) new.1 v.1, empty_unmet (view c.in-Some-pop.first) v.2.2, v.2.3, (let parts = v.0 in omega arith))

pub returns-clause-second : goal.returns-clause-second
returns-clause-second c = let new = c.in_ok-table.ensures.passes in let t = c.in_ok-table.table in let xs = c.pop.new.self.items in let ys = c.pop-2.new.self.items in
    let last = popped (λ (k : ℕ) p. IsPassOf t p × NewView new.0 2 k (view p)) _ xs _ new.3 c.in-Some.ensures.items in
    let n = ap length c.in-Some.ensures.items ∙ length_more xs _ in let long = new.2 in
    let one : length xs ≡ 1 = omega arith in
    let mine = subst (λ (k : ℕ). IsPassOf t c.in-Some.second × NewView new.0 2 k (view c.in-Some.second)) one last.0 in let v = mine.1 in
    (mine.0, v.1, empty_unmet (view c.in-Some.second) v.3.2, v.3.3, v.0)
