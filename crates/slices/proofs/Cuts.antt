-- Where cells are after a cut.
use Rattle.std.proofs.Common.{◌≡◌, ℕ, ◌≤◌, inl, inr, List, [], ◌∷◌, Option, None, Some, refl, sym}
use Rattle.std.proofs.Common.{◌∙◌, ap, arith}
use Rattle.std.proofs.lemmas.Bool.{cases_lt}
use Rattle.std.specs.Prelude.{ℤ}
use Rattle.slices.specs.Spans.{or_else, count, between, span_at, spans_at, holders, AreApart}
use Rattle.slices.specs.declared.spans.Span.{Span}
use Rattle.slices.proofs.SpanLists.{count_none, count_spans}
use Rattle.slices.proofs.Slots.{between_in, between_past}

two_none : (a b : Option ℤ) → or_else a b ≡ None → (a ≡ None) × (b ≡ None)
two_none None b e = (refl, e)
two_none (Some x) b e = cc

-- no span reaches a position where nothing is
pub holders_none : (xs : List Span) (i : ℕ) → spans_at xs i ≡ None → holders xs i ≡ 0
holders_none [] i e = refl
holders_none (x ∷ xs) i e = let n = two_none (span_at x i) (spans_at xs i) e in omega (arith, ap count n.0, holders_none xs i n.1)

-- nothing is where no span reaches
pub none_there : (xs : List Span) (i : ℕ) → holders xs i ≡ 0 → spans_at xs i ≡ None
none_there xs i e = count_none (spans_at xs i) (omega (arith, count_spans xs i))

-- all that is below the end
pub all_between : (end i : ℕ) (xs : List Span) → AreApart end xs → between 0 end i (spans_at xs i) ≡ spans_at xs i
all_between end i xs a =
    elim (cases_lt i end) [
      | inl h ↦ between_in 0 end i _ (omega arith) h
      | inr h ↦ between_past 0 end i _ h ∙ sym (none_there xs i ((a i).1 h))
    ]

pub apart_less : (end : ℕ) (xs ys : List Span) → ((i : ℕ) → holders ys i ≤ holders xs i) → AreApart end xs → AreApart end ys
apart_less end xs ys f a i = (omega (arith, f i, (a i).0), λ h. omega (arith, f i, (a i).1 h))
