-- Cutting a range or a frame in two, and merging what two parts come to.
use Rattle.std.specs.Prelude.{true, false, ℤ, pos, ◌+ℤ◌, ◌-ℤ◌, ◌≤ℤ◌, int_div, int_le, List, [], ◌∷◌}
use Rattle.std.specs.Prelude.{map, Option, Some, None, ⊤, if◌then◌else◌}
use Rattle.tp_value.specs.declared.limits.TheConstants.{MAX_PAR_LENGTH}
use Rattle.tp_value.specs.declared.Op.{Op}
use Rattle.reduce_ops.specs.Reduction.{combine, unit}
use Rattle.loop_meaning.specs.declared.frame.Frame.{Frame}
use Rattle.loop_meaning.specs.declared.frame.Frame.TheVariants.{Range, Pair}

-- a half of a number above 0, rounded up
abbrev pub half_up : ℤ → ℤ
half_up n = int_div (n +ℤ pos 1) (pos 2)

-- where the iterations next, .., end - 1 are cut: the upper part has the last half, rounded up
abbrev pub cut_of : ℤ → ℤ → Option ℤ
cut_of next end = if int_le end next then None else Some (end -ℤ half_up (end -ℤ next))

-- the same operators, each with its unit
abbrev pub with_units : List (Op × ℤ) → List (Op × ℤ)
with_units accs = map (λ (a : Op × ℤ). (a.0, unit a.0)) accs

-- both parts of a range with that cut: the lower one keeps the accumulators, the upper one begins
-- with units
abbrev pub ranges_at : ℤ → ℤ → List (Op × ℤ) → Option ℤ → Option (Frame × Frame)
ranges_at next end accs None = None
ranges_at next end accs (Some middle) =
    Some (Range next middle accs, Range middle end (with_units accs))

-- both parts of a frame: of a range that has an iteration left, or of a pair that isn't taken
abbrev pub parts_of : Frame → Option (Frame × Frame)
parts_of (Range next end accs) = ranges_at next end accs (cut_of next end)
parts_of (Pair second args false) = Some (Pair second args true, Pair second args true)
parts_of (Pair second args true) = None

-- a range isn't longer than a `par` may be
abbrev pub IsShort : Frame → Type 0
IsShort (Range next end accs) = (end -ℤ next) ≤ℤ pos MAX_PAR_LENGTH
IsShort (Pair second args taken) = ⊤

-- two lists of accumulators as one, place by place, the left one first
abbrev pub merged : List Op → List ℤ → List ℤ → List ℤ
merged [] ms ns = []
merged (o ∷ os) [] ns = []
merged (o ∷ os) (m ∷ ms) [] = []
merged (o ∷ os) (m ∷ ms) (n ∷ ns) = combine o m n ∷ merged os ms ns
