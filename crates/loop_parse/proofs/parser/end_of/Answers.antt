use Rattle.std.proofs.Common.{◌≡◌, ℕ, ◌+◌, ◌<◌, List, [], ◌∷◌, take, get_or, length, refl, ap, sym}
use Rattle.std.proofs.Common.{◌∙◌, arith}
use Rattle.std.proofs.Common.{inl, inr}
use Rattle.std.proofs.lemmas.Bool.Decides.{eqb_tells}
use Rattle.std.proofs.lemmas.List.{take_more, length-take-le}
use Rattle.tp_value.specs.declared.values.Place.{Place}
use Rattle.loop_lex.specs.Lexical.{place_of, place_after}
use Rattle.loop_lex.proofs.Places.{place_bounds, place_after-append}
use Rattle.loop_parse.proofs.parser.end_of.Goals as goal
use Rattle.loop_parse.proofs.parser.end_of.Goals.{then-byte-eq10, else-byte-eq10}

pub overflow_add-place : goal.overflow_add-place
overflow_add-place c =
    let front = take c.loop-byte.byte-index c.args.source.now in
    omega (arith, ap (λ p. p.line) c.loop-byte.invariant, (place_bounds front).0, length-take-le c.loop-byte.byte-index c.args.source.now (omega arith), c.loop-byte-test.true, c.requires)

pub overflow_add-place-else-byte-eq10 : goal.overflow_add-place-else-byte-eq10
overflow_add-place-else-byte-eq10 c =
    let front = take c.loop-byte.byte-index c.args.source.now in
    omega (arith, ap (λ p. p.col) c.loop-byte.invariant, (place_bounds front).1, length-take-le c.loop-byte.byte-index c.args.source.now (omega arith), c.loop-byte-test.true, c.requires)

-- the place after one byte more
place_more : (source : List ℕ) (i : ℕ) (p q : Place) → i < length source → p ≡ place_of (take i source) → q ≡ place_after p (get_or source i 0 ∷ []) → q ≡ place_of (take (i + 1) source)
place_more source i p q inside is step =
    step ∙ ap (λ r. place_after r (get_or source i 0 ∷ [])) is
    ∙ sym (place_after-append (record { line = 1; col = 1 }) (take i source) (get_or source i 0 ∷ []))
    ∙ ap place_of (sym (take_more source i 0 inside))

line_end : (b : ℕ) (p : Place) → b ≡ 10 → record { line = p.line + 1; col = 1 } ≡ place_after p (b ∷ [])
line_end b p is = rw is refl

in_line : (b : ℕ) (p : Place) → (b ≡ 10 → ⊥) → record { line = p.line; col = p.col + 1 } ≡ place_after p (b ∷ [])
in_line b p other = elim (eqb_tells b 10) [ inl h ↦ absurd (other h.1) | inr h ↦ rw h.0 refl ]

pub loop-byte-preserved : goal.loop-byte-preserved
loop-byte-preserved c = elim c.if-byte-eq10.branch [
  | then-byte-eq10 w ↦ place_more c.args.source.now c.loop-byte.byte-index c.loop-byte.place _ c.loop-byte-test.true c.loop-byte.invariant (w.place-is ∙ line_end _ c.loop-byte.place w.if-byte-eq10.true)
  | else-byte-eq10 w ↦ place_more c.args.source.now c.loop-byte.byte-index c.loop-byte.place _ c.loop-byte-test.true c.loop-byte.invariant (w.place-is ∙ in_line _ c.loop-byte.place w.if-byte-eq10.false)
]
