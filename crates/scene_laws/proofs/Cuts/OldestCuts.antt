-- A task that a beat interrupted wherever it was, where the oldest of its marks is that of a loop:
-- more marks, and more cells, may stand above those of the loop.
use Rattle.std.proofs.Common.{◌≡◌, ℕ, ◌+◌, All, List, ◌∷◌, length, None, Some}
use Rattle.std.specs.Prelude.{pos, ◌-ℤ◌, ◌≤ℤ◌}
use Rattle.std.specs.List.{AllByRecursion}
use Rattle.loop_meaning.specs.InRange.{InRange, VariableInRange}
use Rattle.stack_marks.specs.Causes.{Holds}
use Rattle.stack_marks.specs.declared.mark.Mark.{Mark}
use Rattle.stack_marks.specs.Stacks.{word_at}
use Rattle.tp_value.specs.declared.limits.TheConstants.{MAX_PAR_LENGTH}
use Rattle.tpal_syntax.specs.declared.words.Word.TheVariants.{Int}
use Rattle.tpal_machine.specs.State.{State}
use Rattle.frame_machine.specs.Splitting.{cut_of}
use Rattle.handler_gen.specs.LoopCuts.{loop_mark}
use Rattle.scene_laws.proofs.Scenes.Activations.{StandsFrom}
use Rattle.scene_laws.proofs.Scenes.Fixed.{AreFixed}
use Rattle.scene_laws.proofs.Cuts.OwnWork.{OwnCut}
use Rattle.scene_laws.proofs.Scenes.Scene.{IsDiverted}

-- A diverted task whose oldest mark is that of a loop, in whose activation the loop shows the
-- iterations that aren't begun. The variables round the loop that it doesn't reduce have their
-- values, and more marks stand above.
pub record IsOldestCut (dispatch : ℕ) (c : OwnCut) (more : List Mark) (state : State) : Type 0
  where
    pub diverted : IsDiverted dispatch state
    pub size : length state.registers ≡ 32
    pub free : state.pending ≡ None
    pub unmet : state.met ≡ None
    pub marked : state.stack.marks ≡ loop_mark c.site c.z ∷ more
    pub above : AllByRecursion (StandsFrom c.z) more
    pub held : Holds state.stack c.z c.site.cells
    pub cursor : word_at state.stack (pos (c.z + c.site.cursor)) ≡ Some (Int c.next)
    pub bound : word_at state.stack (pos (c.z + c.site.bound)) ≡ Some (Int c.end)
    pub next_in_range : InRange c.next
    pub end_in_range : InRange c.end
    pub short : (c.end -ℤ c.next) ≤ℤ pos MAX_PAR_LENGTH
    pub cut : cut_of c.next c.end ≡ Some c.middle
    pub fixed : AreFixed c.loop.reduces.items state.stack c.z 0 c.vars
    pub ranged : All VariableInRange c.vars
