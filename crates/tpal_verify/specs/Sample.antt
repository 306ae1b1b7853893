-- Codes by which the definitions were tried: a sum over 0 to 99 that can be cut, the same with one
-- mistake each, and small ones.
use Rattle.std.specs.Prelude.{ℕ, pos, false, List, [], ◌∷◌}
use Rattle.tp_value.specs.declared.values.TrapKind.TheVariants.{Divide}
use Rattle.tpal_syntax.specs.declared.blocks.Block.{Block}
use Rattle.tpal_syntax.specs.declared.instructions.Value.{Value}
use Rattle.tpal_syntax.specs.declared.instructions.Value.TheVariants.{Reg, Int, Label, Nil}
use Rattle.tpal_syntax.specs.declared.instructions.Alu.TheVariants.{Add, Sub, Div, Eq, Lt}
use Rattle.tpal_syntax.specs.declared.instructions.Instr.{Instr}
use Rattle.tpal_syntax.specs.declared.instructions.Instr.TheVariants.{Move, Calc, IfJump, Load}
use Rattle.tpal_syntax.specs.declared.instructions.Instr.TheVariants.{Store, Salloc, PrmPush}
use Rattle.tpal_syntax.specs.declared.instructions.Instr.TheVariants.{PrmPop, JrAlloc, Fork, Tick}
use Rattle.tpal_syntax.specs.declared.instructions.Instr.TheVariants.{Trap, Print}
use Rattle.tpal_syntax.specs.declared.instructions.Term.{Term}
use Rattle.tpal_syntax.specs.declared.instructions.Term.TheVariants.{Jump, Halt, Join}
use Rattle.tpal_syntax.specs.declared.notes.CutKind.TheVariants as cut
use Rattle.tpal_syntax.specs.declared.notes.Note.TheVariants as note
use Rattle.tpal_syntax.specs.Listing.{Listing}

abbrev pub num : ℕ → Value
num n = Int (pos n)

abbrev pub plain : List Instr → Term → Block
plain body term = record { name = []; note = note.Plain; body = body; term = term }

abbrev pub ready : ℕ → List Instr → Term → Block
ready h body term = record { name = []; note = note.Ready h; body = body; term = term }

abbrev pub code_of : List Block → Listing
code_of blocks = record { tables = []; blocks = blocks }

-- the sum's join target
abbrev pub joined : Block
joined = record {
  name = [];
  note = note.Target (record {
    comm = false;
    renames = (2, 6) ∷ (4, 7) ∷ [];
    comb = 8;
    kind = cut.Loop;
    carries = [];
  });
  body = [];
  term = Jump (Label 3);
}

-- 0 main, 1 loop, 2 body, 3 end, 4 out, 5 beat, 6 back, 7 child, 8 comb, 9 joined
abbrev pub sum_with : List Instr → List Instr → List Instr → Term → Listing
sum_with body_test end_test fork_part end_term =
    code_of
    (plain
    (Salloc 2 ∷ Store 31 1 Nil ∷ Move 0 (num 0) ∷ Move 1 (num 100) ∷ Move 2 (num 0)
    ∷ PrmPush 31 0 2 5 ∷ []) (Jump (Label 2))
    ∷ ready 5 [] (Jump (Label 2))
    ∷ plain (Calc 2 2 Add (Reg 0) ∷ Calc 0 0 Add (num 1) ∷ body_test) (Jump (Label 3))
    ∷ plain (PrmPop 31 0 ∷ Load 4 31 1 ∷ end_test) end_term
    ∷ plain (Print 2 ∷ []) Halt
    ∷ plain
    (JrAlloc 4 9 ∷ Calc 3 4 Eq Nil ∷ IfJump 3 6 ∷ Calc 5 1 Sub (Reg 0) ∷ Calc 5 5 Div (num 2)
    ∷ Calc 5 5 Add (Reg 0) ∷ fork_part) (Jump (Label 3))
    ∷ plain [] (Jump (Reg 30))
    ∷ plain
    (Store 31 1 (Reg 4) ∷ Move 0 (Reg 5) ∷ Move 2 (num 0) ∷ PrmPush 31 0 2 5 ∷ []) (Jump (Label 2))
    ∷ plain (Calc 2 2 Add (Reg 6) ∷ []) (Join 4)
    ∷ joined
    ∷ [])

abbrev pub body_test : List Instr
body_test = Calc 3 0 Lt (Reg 1) ∷ IfJump 3 1 ∷ []

abbrev pub end_test : List Instr
end_test = Calc 3 4 Eq Nil ∷ IfJump 3 4 ∷ []

abbrev pub fork_part : List Instr
fork_part = Fork 4 7 ∷ Store 31 1 (Reg 4) ∷ Move 1 (Reg 5) ∷ Calc 3 0 Lt (Reg 1) ∷ IfJump 3 6 ∷ []

abbrev pub sum : Listing
sum = sum_with body_test end_test fork_part (Join 4)

-- `fork` twice in a row
abbrev pub forks_twice : Listing
forks_twice = sum_with body_test end_test (Fork 4 7 ∷ fork_part) (Join 4)

-- `halt` for `join` at the end of a piece
abbrev pub halts_at_end : Listing
halts_at_end = sum_with body_test end_test fork_part Halt

-- the two tests swapped
abbrev pub swapped : Listing
swapped =
    sum_with (Calc 3 4 Eq Nil ∷ IfJump 3 1 ∷ []) (Calc 3 0 Lt (Reg 1) ∷ IfJump 3 4 ∷ []) fork_part
    (Join 4)

-- block 0 is promotion-ready and is flowed into
abbrev pub goes_back : List Instr → Listing
goes_back pops =
    code_of
    (ready 2 (Salloc 1 ∷ pops) (Jump (Label 1))
    ∷ ready 2 (Tick ∷ []) (Jump (Label 1))
    ∷ plain [] (Jump (Reg 30))
    ∷ [])

-- a test of a register that is nil, and a jump back behind it
abbrev pub tests_nil : Listing
tests_nil = code_of (plain (Calc 1 0 Eq Nil ∷ IfJump 1 1 ∷ []) (Jump (Reg 30)) ∷ plain [] Halt ∷ [])

-- the same of a number
abbrev pub tests_number : Listing
tests_number =
    code_of
    (plain (Move 0 (num 1) ∷ Calc 1 0 Eq Nil ∷ IfJump 1 1 ∷ []) (Jump (Reg 30))
    ∷ plain [] Halt ∷ [])

-- nothing flows past a stop
abbrev pub stops : Listing
stops = code_of (plain (Trap Divide (record { line = 1; col = 1 }) ∷ []) (Jump (Reg 30)) ∷ [])

-- a write of r31 in a block that nothing enters
abbrev pub writes_base : Listing
writes_base = code_of (plain [] Halt ∷ plain (Move 31 (num 1) ∷ []) Halt ∷ [])

-- ---- codes that are run

abbrev pub block_of_main : List Instr → Term → Listing
block_of_main body term = code_of (plain body term ∷ [])

-- 2 and 3 are added and printed
abbrev pub adds : Listing
adds = block_of_main (Move 0 (num 2) ∷ Calc 0 0 Add (num 3) ∷ Print 0 ∷ []) Halt

-- a division by zero
abbrev pub divides : Listing
divides = block_of_main (Move 0 (num 1) ∷ Calc 0 0 Div (num 0) ∷ []) Halt

-- two blocks, the second of which jumps to itself
abbrev pub loops : Listing
loops = code_of (plain [] (Jump (Label 1)) ∷ plain [] (Jump (Label 1)) ∷ [])

-- a count to 20, whose handler prints how far it is and goes back without asking for a record
abbrev pub counts : Listing
counts =
    code_of
    (plain (Salloc 1 ∷ Move 0 (num 0) ∷ PrmPush 31 0 1 2 ∷ []) (Jump (Label 1))
    ∷ ready 2 (Calc 0 0 Add (num 1) ∷ Calc 1 0 Lt (num 20) ∷ IfJump 1 1 ∷ []) Halt
    ∷ plain (Print 0 ∷ []) (Jump (Reg 30))
    ∷ [])
