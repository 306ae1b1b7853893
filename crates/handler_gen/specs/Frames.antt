-- What an activation shows of a loop that is partly done: a frame.
use Rattle.std.specs.Prelude.{◌≡◌, ℕ, ◌+◌, ℤ, pos, int_lt, false, ⊤, List, [], ◌∷◌, Some}
use Rattle.frame_machine.specs.Splitting.{parts_of}
use Rattle.loop_meaning.specs.declared.frame.Frame.{Frame}
use Rattle.loop_meaning.specs.declared.frame.Frame.TheVariants.{Range, Pair}
use Rattle.stack_marks.specs.Stacks.{StackValue, word_at}
use Rattle.tp_value.specs.declared.Op.{Op}
use Rattle.tpal_syntax.specs.declared.sites.CallSite.{CallSite}
use Rattle.tpal_syntax.specs.declared.sites.LoopSite.{LoopSite}
use Rattle.tpal_syntax.specs.declared.words.Word.TheVariants.{Int}
use Rattle.tpal_machine.specs.State.{State}
use Rattle.handler_gen.specs.CallCuts.{IsAtCalls, call_halves}
use Rattle.handler_gen.specs.LoopCuts.{IsAtLoop, loop_halves}

-- cells of an activation hold these accumulators, each by its operator
abbrev pub HoldAccs : StackValue → ℕ → List (ℕ × Op) → List (Op × ℤ) → Type 0
HoldAccs s z [] [] = ⊤
HoldAccs s z [] (acc ∷ accs) = ⊥
HoldAccs s z (cell ∷ cells) [] = ⊥
HoldAccs s z (cell ∷ cells) (acc ∷ accs) =
    (cell.1 ≡ acc.0) × (word_at s (pos (z + cell.0)) ≡ Some (Int acc.1)) × HoldAccs s z cells accs

-- an activation shows a frame of a loop
abbrev pub Shows : LoopSite → ℕ → Frame → StackValue → Type 0
Shows site z (Range next end accs) s =
    (word_at s (pos (z + site.cursor)) ≡ Some (Int next))
    × (word_at s (pos (z + site.bound)) ≡ Some (Int end)) × HoldAccs s z site.accs accs
Shows site z (Pair second args taken) s = ⊥

-- A loop is cut as `split_frame` cuts its frame: the left's activation shows the lower part, and
-- the child's shows the upper one, which begins with units.
pub record CutsFrame (site : LoopSite) : Type 0 where
  pub left : (z : ℕ) (next middle end : ℤ) (accs : List (Op × ℤ)) (lower upper : Frame)
      (state : State) (k : ℕ)
      → IsAtLoop site z next middle end state
      → Shows site z (Range next end accs) state.stack
      → parts_of (Range next end accs) ≡ Some (lower, upper)
      → Shows site z lower
      (loop_halves site z middle k state.stack (int_lt next middle)).left_stack
  pub child : (z : ℕ) (next middle end : ℤ) (accs : List (Op × ℤ)) (lower upper : Frame)
      (state : State) (k : ℕ)
      → IsAtLoop site z next middle end state
      → Shows site z (Range next end accs) state.stack
      → parts_of (Range next end accs) ≡ Some (lower, upper)
      → Shows site z upper
      (loop_halves site z middle k state.stack (int_lt next middle)).child_stack

-- ---- pairs of calls

-- cells of an activation hold these numbers
abbrev pub HoldNumbers : StackValue → ℕ → List ℕ → List ℤ → Type 0
HoldNumbers s z [] [] = ⊤
HoldNumbers s z [] (n ∷ numbers) = ⊥
HoldNumbers s z (cell ∷ cells) [] = ⊥
HoldNumbers s z (cell ∷ cells) (n ∷ numbers) =
    (word_at s (pos (z + cell)) ≡ Some (Int n)) × HoldNumbers s z cells numbers

-- an activation shows the arguments of a frame's second call
abbrev pub ShowsCall : CallSite → ℕ → Frame → StackValue → Type 0
ShowsCall site z (Range next end accs) s = ⊥
ShowsCall site z (Pair second args taken) s = HoldNumbers s z site.args args

-- A pair of calls is cut as `split_frame` cuts its frame: the child's activation shows the
-- arguments of the second call, which it makes. The left has nothing of that activation.
pub record CutsPair (site : CallSite) : Type 0 where
  pub child : (z : ℕ) (second : List ℕ) (args : List ℤ) (rest upper : Frame) (state : State)
      (k : ℕ)
      → IsAtCalls site z state
      → ShowsCall site z (Pair second args false) state.stack
      → parts_of (Pair second args false) ≡ Some (rest, upper)
      → ShowsCall site z upper (call_halves site z k state.stack).child_stack
  pub left : (z : ℕ) (state : State) (k : ℕ)
      → IsAtCalls site z state
      → (call_halves site z k state.stack).left_stack.base ≡ z + site.cells
