-- The spans that one value holds, owned by it or shared with others.
use Rattle.std.specs.Prelude.{ℤ, ℕ, Option, List, ◌∷◌}
use Rattle.slices.specs.Spans.{spans_at, holders}
use Rattle.slices.specs.declared.spans.Span.{Span}
use Rattle.slices.specs.declared.pieces.Pieces.{Pieces}

abbrev pub spans_of : Pieces → List Span
spans_of pieces = pieces.first ∷ pieces.more.items

-- what the pieces hold at a position
abbrev pub piece_at : Pieces → ℕ → Option ℤ
piece_at pieces i = spans_at (spans_of pieces) i

-- how many of the pieces reach a position
abbrev pub reaching : Pieces → ℕ → ℕ
reaching pieces i = holders (spans_of pieces) i
