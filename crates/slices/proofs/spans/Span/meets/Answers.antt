use Rattle.std.proofs.Common.{arith, ℕ, ◌≡◌, inl, inr, max}
use Rattle.std.proofs.lemmas.Bool.{OnFalse_from, ltb-false}
use Rattle.std.specs.Prelude.{IsSome, nat_lt}
use Rattle.slices.specs.Spans.{span_at, span_start}
use Rattle.slices.proofs.Starts.{never_meet}
use Rattle.slices.proofs.spans.Span.meets.Goals as goal

pub returns-then-reach-gt0-clause-no : goal.returns-then-reach-gt0-clause-no
returns-then-reach-gt0-clause-no c =
    let e : c.max-low.result ≡ max (span_start c.args.self.now) (span_start c.args.other.now) = omega (arith, c.max-low.ensures, c.start.ensures, c.start-2.ensures) in
    OnFalse_from (nat_lt 0 c.reach-then-reach-gt0.result) ((i : ℕ) → IsSome (span_at c.args.self.now i) → IsSome (span_at c.args.other.now i) → ⊥)
    (λ f. never_meet c.args.self.now c.args.other.now c.max-low.result e (inr (c.reach-then-reach-gt0.ensures.none (omega (arith, ltb-false 0 c.reach-then-reach-gt0.result f)))))

pub returns-else-reach-gt0-clause-no : goal.returns-else-reach-gt0-clause-no
returns-else-reach-gt0-clause-no c =
    let e : c.max-low.result ≡ max (span_start c.args.self.now) (span_start c.args.other.now) = omega (arith, c.max-low.ensures, c.start.ensures, c.start-2.ensures) in
    OnFalse_from (nat_lt 0 c.reach.result) ((i : ℕ) → IsSome (span_at c.args.self.now i) → IsSome (span_at c.args.other.now i) → ⊥)
    (λ f. never_meet c.args.self.now c.args.other.now c.max-low.result e (inl (c.reach.ensures.none (omega (arith, ltb-false 0 c.reach.result f)))))
