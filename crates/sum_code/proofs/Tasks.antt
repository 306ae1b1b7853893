-- The tasks of the code: what their registers, cells and marks hold, and where they end.
use Rattle.std.proofs.Common.{ℕ, None, List, [], ◌∷◌, ◌++◌}
use Rattle.std.specs.Fmt.{signed_decimal}
use Rattle.std.specs.Prelude.{pos, replicate}
use Rattle.beat_count.specs.BeatState.{BeatState}
use Rattle.stack_marks.specs.declared.mark.Mark.{Mark}
use Rattle.tp_value.specs.declared.values.Stop.TheVariants.{Done}
use Rattle.tpal_syntax.specs.declared.words.Word.{Word}
use Rattle.tpal_syntax.specs.declared.words.Word.TheVariants as word
use Rattle.tpal_machine.specs.declared.ends.Ending.{Ending}
use Rattle.tpal_machine.specs.declared.ends.Ending.TheVariants as ending
use Rattle.tpal_machine.specs.declared.ends.Goal.{Goal}
use Rattle.tpal_machine.specs.declared.ends.Goal.TheVariants as goal
use Rattle.tpal_machine.specs.declared.ends.Side.{Side}
use Rattle.tpal_machine.specs.declared.ends.SideName.{SideName}
use Rattle.tpal_machine.specs.RestState.{RestState}
use Rattle.tpal_machine.specs.State.{State}

-- whose part of the sum a task adds: the whole run's, or that of a side of a record
pub data Whose : Type 0 where
  run : Whose
  side : (k : ℕ) (name : SideName) → Whose

abbrev pub goal_of : Whose → Goal
goal_of run = goal.Root
goal_of (side k name) = goal.At k name 9

-- what the second cell holds
abbrev pub record_of : Whose → Word
record_of run = word.Nil
record_of (side k name) = word.Rec k

-- what a side hands over
abbrev pub handed : ℕ → ℕ → Side
handed k total =
    record {
      stop = Done;
      ticks = 0;
      output = [];
      words = (2, word.Int (pos total)) ∷ (4, word.Rec k) ∷ [];
      slices = [];
    }

-- what a part ends with
abbrev pub ending_of : Whose → ℕ → Ending
ending_of run total =
    ending.Root (record { stop = Done; output = signed_decimal (pos total) ++ 10 ∷ []; ticks = 0 })
ending_of (side k name) total = ending.At k name (handed k total)

-- the mark of the loop
abbrev pub mark : Mark
mark = record { at = 0; base = 0; cells = 2; split = 5 }

-- registers 0 to 7 and 30, where 31 is the base and the others hold nothing
abbrev pub words : (r0 r1 r2 r3 r4 r5 r6 r7 r30 : Word) → List Word
words r0 r1 r2 r3 r4 r5 r6 r7 r30 =
    r0 ∷ r1 ∷ r2 ∷ r3 ∷ r4 ∷ r5 ∷ r6 ∷ r7 ∷ replicate 22 word.Nil ++ r30 ∷ word.Int (pos 0) ∷ []

module _ (limit : ℕ) where
  -- a task at the start of a block: its registers, what the second cell holds, its marks and its
  -- beat
  abbrev pub task : Whose → ℕ → List Word → Word → List Mark → BeatState → State
  task whose block registers kept marks beat = record {
    registers = registers;
    stack = record { base = 0; cells = word.Nil ∷ kept ∷ []; marks = marks };
    tables = [];
    made = [];
    fuel = record { limit = limit; ticks = 0 };
    beat = beat;
    output = [];
    goal = goal_of whose;
    block = block;
    at = 0;
    pending = None;
    met = None;
    waiting = None;
  }

  -- what a fork of a task leaves behind
  abbrev pub rest : Whose → ℕ → Word → RestState
  rest whose k kept = record {
    stack = record { base = 0; cells = word.Nil ∷ kept ∷ []; marks = [] };
    tables = [];
    output = [];
    goal = goal_of whose;
    base = 0;
    rec = k;
    target = 9;
    limit = limit;
    made = [];
  }
