-- The code of a sum of three numbers with one fault each.
use Rattle.std.specs.Prelude.{pos, [], ◌∷◌}
use Rattle.tpal_syntax.specs.declared.blocks.Block.{Block}
use Rattle.tpal_syntax.specs.declared.instructions.Alu.TheVariants.{Eq}
use Rattle.tpal_syntax.specs.declared.instructions.Instr.TheVariants.{Move, Calc, IfJump, Load}
use Rattle.tpal_syntax.specs.declared.instructions.Instr.TheVariants.{Store, Salloc, PrmPush}
use Rattle.tpal_syntax.specs.declared.instructions.Term.TheVariants.{Jump, Join}
use Rattle.tpal_syntax.specs.declared.instructions.Value.TheVariants.{Reg, Int, Label, Nil}
use Rattle.tpal_syntax.specs.Listing.{Listing}
use Rattle.sum_code.specs.Sum.{plain, main_block, end_block, sum_with}

-- ---- the child begins with the left's sum so far, and not with 0

abbrev pub keeping_child : Block
keeping_child =
    plain (99 ∷ 104 ∷ 105 ∷ 108 ∷ 100 ∷ [])
    (Store 31 1 (Reg 4) ∷ Move 0 (Reg 5) ∷ PrmPush 31 0 2 5 ∷ []) (Jump (Label 2))

abbrev pub with_kept_sum : Listing
with_kept_sum = sum_with (main_block 3) end_block keeping_child

-- ---- the loop has no mark

abbrev pub unmarked_main : Block
unmarked_main =
    plain (109 ∷ 97 ∷ 105 ∷ 110 ∷ [])
    (Salloc 2
    ∷ Store 31 1 Nil
    ∷ Move 0 (Int (pos 0))
    ∷ Move 1 (Int (pos 3))
    ∷ Move 2 (Int (pos 0))
    ∷ [])
    (Jump (Label 2))

abbrev pub unmarked_end : Block
unmarked_end =
    plain (101 ∷ 110 ∷ 100 ∷ []) (Load 4 31 1 ∷ Calc 3 4 Eq Nil ∷ IfJump 3 4 ∷ []) (Join 4)

abbrev pub unmarked_child : Block
unmarked_child =
    plain (99 ∷ 104 ∷ 105 ∷ 108 ∷ 100 ∷ [])
    (Store 31 1 (Reg 4) ∷ Move 0 (Reg 5) ∷ Move 2 (Int (pos 0)) ∷ []) (Jump (Label 2))

abbrev pub with_no_mark : Listing
with_no_mark = sum_with unmarked_main unmarked_end unmarked_child
