-- When a frame fits the source that it is a part of.
use Rattle.std.specs.Prelude.{◌≡◌, ℕ, false, ℤ, ◌≤ℤ◌, List, map}
use Rattle.std.specs.List.{All}
use Rattle.tp_value.specs.declared.Op.{Op}
use Rattle.loop_syntax.specs.declared.Reduce.{Reduce}
use Rattle.loop_syntax.specs.declared.App.{App}
use Rattle.loop_syntax.specs.declared.ParLoop.{ParLoop}
use Rattle.loop_meaning.specs.declared.frame.Frame.{Frame}
use Rattle.loop_meaning.specs.declared.frame.Frame.TheVariants.{Range, Pair}
use Rattle.loop_meaning.specs.InRange.{InRange}
use Rattle.loop_meaning.specs.Statements.{too_wide}

-- a `par` whose bounds came to these numbers, or a `both` whose two calls have these arguments
pub data Begun : Type 0 where
  BegunPar : ParLoop → (first last : ℤ) → Begun
  BegunBoth : (first : App) → List ℤ → (second : App) → List ℤ → Begun

-- the numbers of accumulators
abbrev pub numbers_of : List (Op × ℤ) → List ℤ
numbers_of accs = map (λ (a : Op × ℤ). a.1) accs

-- their operators
abbrev pub operators_of : List (Op × ℤ) → List Op
operators_of accs = map (λ (a : Op × ℤ). a.0) accs

-- a range is within the bounds of its `par`, has one accumulator for each variable of the reduce
-- list, with that operator, and numbers in the range of 64 bits
pub record RangeFits (l : ParLoop) (first last next end : ℤ) (accs : List (Op × ℤ)) : Type 0 where
  pub begins : first ≤ℤ next
  pub ordered : next ≤ℤ end
  pub ends : end ≤ℤ last
  pub short : too_wide first last ≡ false
  pub first_in_range : InRange first
  pub last_in_range : InRange last
  pub operators : operators_of accs ≡ map (λ (r : Reduce). r.op) l.reduces.items
  pub numbers : All InRange (numbers_of accs)

-- a pair is that of the second call
pub record PairFits (second : App) (ms : List ℤ) (function : List ℕ) (args : List ℤ) : Type 0 where
  pub callee : function ≡ second.callee.text.items
  pub arguments : args ≡ ms

abbrev pub Fits : Begun → Frame → Type 0
Fits (BegunPar l first last) (Range next end accs) = RangeFits l first last next end accs
Fits (BegunPar l first last) (Pair function args taken) = ⊥
Fits (BegunBoth f ns g ms) (Range next end accs) = ⊥
Fits (BegunBoth f ns g ms) (Pair function args taken) = PairFits g ms function args
