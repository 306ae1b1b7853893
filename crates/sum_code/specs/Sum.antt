-- A code that prints the sum of the numbers below a count, by a loop that may be cut.
use Rattle.std.specs.Prelude.{ℕ, zero, suc, pos, ◌+◌, false, List, [], ◌∷◌, ◌++◌}
use Rattle.std.specs.Fmt.{signed_decimal}
use Rattle.tp_value.specs.declared.values.Stop.TheVariants.{Done}
use Rattle.tpal_syntax.specs.declared.blocks.Block.{Block}
use Rattle.tpal_syntax.specs.declared.instructions.Alu.TheVariants.{Add, Sub, Div, Eq, Lt}
use Rattle.tpal_syntax.specs.declared.instructions.Instr.{Instr}
use Rattle.tpal_syntax.specs.declared.instructions.Instr.TheVariants.{Move, Calc, IfJump, Load}
use Rattle.tpal_syntax.specs.declared.instructions.Instr.TheVariants.{Store}
use Rattle.tpal_syntax.specs.declared.instructions.Instr.TheVariants.{Salloc, PrmPush, PrmPop}
use Rattle.tpal_syntax.specs.declared.instructions.Instr.TheVariants.{JrAlloc}
use Rattle.tpal_syntax.specs.declared.instructions.Instr.TheVariants.{Fork, Print}
use Rattle.tpal_syntax.specs.declared.instructions.Term.{Term}
use Rattle.tpal_syntax.specs.declared.instructions.Term.TheVariants.{Jump, Halt, Join}
use Rattle.tpal_syntax.specs.declared.instructions.Value.TheVariants.{Reg, Int, Label, Nil}
use Rattle.tpal_syntax.specs.declared.notes.CutKind.TheVariants.{Loop}
use Rattle.tpal_syntax.specs.declared.notes.Note.TheVariants.{Plain, Ready, Target}
use Rattle.tpal_syntax.specs.declared.notes.Target as declared
use Rattle.tpal_syntax.specs.Listing.{Listing}
use Rattle.tpal_machine.specs.declared.ends.Ending.{Ending}
use Rattle.tpal_machine.specs.declared.ends.Ending.TheVariants.{Root}

-- ---- what it prints

-- the sum of so many numbers from one on
unfoldable pub sum_of : (count first : ℕ) → ℕ
sum_of zero first = 0
sum_of (suc count) first = first + sum_of count (first + 1)

-- the end of a run that printed the sum of the numbers below a count, and counted no tick
abbrev pub prints_sum : ℕ → Ending
prints_sum count =
    Root
    (record {
      stop = Done;
      output = signed_decimal (pos (sum_of count 0)) ++ 10 ∷ [];
      ticks = 0;
    })

-- ---- the code

abbrev pub plain : List ℕ → List Instr → Term → Block
plain name body term = record { name = name; note = Plain; body = body; term = term }

-- r0 is the next number, r1 the first one that isn't added, r2 the sum so far; the first cell has
-- the mark, the second the record of the side
abbrev pub main_block : ℕ → Block
main_block count =
    plain (109 ∷ 97 ∷ 105 ∷ 110 ∷ [])
    (Salloc 2
    ∷ Store 31 1 Nil
    ∷ Move 0 (Int (pos 0))
    ∷ Move 1 (Int (pos count))
    ∷ Move 2 (Int (pos 0))
    ∷ PrmPush 31 0 2 5
    ∷ [])
    (Jump (Label 2))

abbrev pub loop_block : Block
loop_block =
    record { name = 108 ∷ 111 ∷ 111 ∷ 112 ∷ []; note = Ready 5; body = []; term = Jump (Label 2) }

abbrev pub body_block : Block
body_block =
    plain (98 ∷ 111 ∷ 100 ∷ 121 ∷ [])
    (Calc 2 2 Add (Reg 0) ∷ Calc 0 0 Add (Int (pos 1)) ∷ Calc 3 0 Lt (Reg 1) ∷ IfJump 3 1 ∷ [])
    (Jump (Label 3))

abbrev pub end_block : Block
end_block =
    plain (101 ∷ 110 ∷ 100 ∷ [])
    (PrmPop 31 0 ∷ Load 4 31 1 ∷ Calc 3 4 Eq Nil ∷ IfJump 3 4 ∷ []) (Join 4)

abbrev pub out_block : Block
out_block = plain (111 ∷ 117 ∷ 116 ∷ []) (Print 2 ∷ []) Halt

-- the loop is cut: the child gets the last half of what is left, rounded up
abbrev pub beat_block : Block
beat_block =
    plain (98 ∷ 101 ∷ 97 ∷ 116 ∷ [])
    (JrAlloc 4 9
    ∷ Calc 3 4 Eq Nil
    ∷ IfJump 3 6
    ∷ Calc 5 1 Sub (Reg 0)
    ∷ Calc 5 5 Div (Int (pos 2))
    ∷ Calc 5 5 Add (Reg 0)
    ∷ Fork 4 7
    ∷ Store 31 1 (Reg 4)
    ∷ Move 1 (Reg 5)
    ∷ Calc 3 0 Lt (Reg 1)
    ∷ IfJump 3 6
    ∷ [])
    (Jump (Label 3))

abbrev pub back_block : Block
back_block = plain (98 ∷ 97 ∷ 99 ∷ 107 ∷ []) [] (Jump (Reg 30))

abbrev pub child_block : Block
child_block =
    plain (99 ∷ 104 ∷ 105 ∷ 108 ∷ 100 ∷ [])
    (Store 31 1 (Reg 4) ∷ Move 0 (Reg 5) ∷ Move 2 (Int (pos 0)) ∷ PrmPush 31 0 2 5 ∷ [])
    (Jump (Label 2))

abbrev pub comb_block : Block
comb_block = plain (99 ∷ 111 ∷ 109 ∷ 98 ∷ []) (Calc 2 2 Add (Reg 6) ∷ []) (Join 4)

-- both sides hand over their sum and their record
abbrev pub joins : declared.Target
joins =
    record { comm = false; renames = (2, 6) ∷ (4, 7) ∷ []; comb = 8; kind = Loop; carries = [] }

abbrev pub joined_block : Block
joined_block =
    record {
      name = 106 ∷ 111 ∷ 105 ∷ 110 ∷ 101 ∷ 100 ∷ [];
      note = Target joins;
      body = [];
      term = Jump (Label 3);
    }

-- main, loop, body, end, out, beat, back, child, comb, joined
abbrev pub sum_with : (main end child : Block) → Listing
sum_with main end child = record {
  tables = [];
  blocks = main ∷ loop_block ∷ body_block ∷ end ∷ out_block ∷ beat_block ∷ back_block ∷ child
      ∷ comb_block ∷ joined_block ∷ [];
}

abbrev pub sum_below : ℕ → Listing
sum_below count = sum_with (main_block count) end_block child_block
