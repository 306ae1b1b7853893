-- The blocks of an expression are ones that a code may have: their names are words, and their
-- instructions, places and labels are in range.
use Rattle.std.proofs.Common.{◌≡◌, ℕ, ◌+◌, ◌%◌, ◌<◌, ◌≤◌, ◌^◌, Bool, true, false, cond, List, []}
use Rattle.std.proofs.Common.{◌∷◌, ◌++◌, ◌∙◌, length, refl, arith, lt-ltb, sym, subst}
use Rattle.std.proofs.lemmas.Bool.Decides.{nat_tests}
use Rattle.std.proofs.lemmas.Fmt.{decimal_by_steps}
use Rattle.std.proofs.lemmas.List.Folds.{list_all-append}
use Rattle.std.specs.Fmt.{decimal}
use Rattle.std.specs.List.{list_all}
use Rattle.std.specs.Prelude.{IsTrue}
use Rattle.loop_meaning.specs.InRange.{ExprInRange}
use Rattle.loop_rules.specs.Limits.{height}
use Rattle.loop_syntax.specs.declared.Expr.{Expr}
use Rattle.loop_syntax.specs.declared.Expr.TheVariants.{Int, Var, Cell', Rows, Cols, Neg', Bin'}
use Rattle.tp_value.specs.declared.Place.{Place}
use Rattle.tp_value.specs.declared.TrapKind.{TrapKind}
use Rattle.tp_value.specs.declared.TrapKind.TheVariants.{Divide, Index}
use Rattle.tpal_syntax.specs.Conditions.{IsBlock}
use Rattle.tpal_syntax.specs.Parts.{is_place, is_word, is_word_byte}
use Rattle.tpal_syntax.specs.declared.blocks.Block.{Block}
use Rattle.tpal_syntax.specs.declared.blocks.CodeTable.{CodeTable}
use Rattle.expr_lower.specs.declared.expression.Operation.{Operation}
use Rattle.expr_lower.specs.declared.scope.Scope.{Scope}
use Rattle.expr_lower.specs.Bodies.{blocks_of, can_trap, literal, name_of, trap_block}
use Rattle.expr_lower.specs.Bodies.{trap_count, traps_of}
use Rattle.expr_lower.specs.Fitting.{AreBlocksOf, CanStand, IsPlaced}
use Rattle.expr_lower.specs.Nodes.{IsNode}
use Rattle.expr_lower.proofs.Fitting.{body_fits, both}

-- ---- names

digit_is : (n : ℕ) → n < 10 → is_word_byte (48 + n) ≡ true
digit_is n below = grind (arith, nat_tests)

digits_are : (n : ℕ) → n < 2 ^ 64 → list_all is_word_byte (decimal n) ≡ true
digits_are n small =
    decimal_by_steps (λ m ds. list_all is_word_byte ds ≡ true)
    (λ m below. both (is_word_byte (48 + m)) true (digit_is m below) refl)
    (λ m ds from h.
    list_all-append is_word_byte ds ((48 + m % 10) ∷ [])
    ∙ both _ _ h (both (is_word_byte (48 + m % 10)) true (digit_is (m % 10) (omega arith)) refl)) n
    small

-- the name of the block at a label is a word
pub name_is : (label : ℕ) → label < 2 ^ 64 → IsTrue (is_word (name_of label))
name_is label small = digits_are label small

-- the literals of an operation are numbers of 64 bits where those of its operands are
pub node_in_range : (o : Operation) (e : Expr) → IsNode o e → ExprInRange o.left.now
    → ExprInRange o.right.now → ExprInRange e
node_in_range o e node left right =
    subst (λ (x : Expr). ExprInRange x) (sym node.is) (left, right)

-- ---- trap blocks

module _ (tables : List CodeTable) (all : List Block) where
  pub trap_fits : (label : ℕ) (kind : TrapKind) (place : Place) → label < 2 ^ 64
      → IsTrue (is_place place) → IsBlock tables all (trap_block label kind place)
  trap_fits label kind place small placed = record {
    name = name_is label small;
    note = tt;
    body = both (is_place place) true placed refl;
    term = refl;
  }

  pub joined_blocks : (xs ys : List Block) → AreBlocksOf tables all xs → AreBlocksOf tables all ys
      → AreBlocksOf tables all (xs ++ ys)
  joined_blocks [] ys first second = second
  joined_blocks (x ∷ xs) ys first second = (first.0, joined_blocks xs ys first.1 second)

  -- the trap block of an operator, if it has one
  own_fits : (own : Bool) (label : ℕ) (place : Place) → label < 2 ^ 64 → IsTrue (is_place place)
      → AreBlocksOf tables all (cond own (trap_block label Divide place ∷ []) [])
  own_fits true label place small placed = (trap_fits label Divide place small placed, tt)
  own_fits false label place small placed = tt

  pub traps_fit : (e : Expr) (label : ℕ) → label + trap_count e < 2 ^ 64 → IsPlaced e
      → AreBlocksOf tables all (traps_of label e)
  traps_fit (Int n place) label small placed = tt
  traps_fit (Var x) label small placed = tt
  traps_fit (Cell' t p a q b) label small placed =
      joined_blocks (traps_of label a) _ (traps_fit a label (omega (arith, small)) placed.1)
      (joined_blocks (traps_of (label + trap_count a) b) _
      (traps_fit b (label + trap_count a) (omega (arith, small)) placed.2) (
        trap_fits (label + trap_count a + trap_count b) Index t.place (omega (arith, small))
            placed.0,
        tt,
      ))
  traps_fit (Rows t) label small placed = tt
  traps_fit (Cols t) label small placed = tt
  traps_fit (Neg' p a place) label small placed = traps_fit a label small placed
  traps_fit (Bin' o place p a q b) label small placed =
      joined_blocks (traps_of label a) _ (traps_fit a label (omega (arith, small)) placed.1)
      (joined_blocks (traps_of (label + trap_count a) b) _
      (traps_fit b (label + trap_count a) (omega (arith, small)) placed.2)
      (own_fits (can_trap o (literal b)) (label + trap_count a + trap_count b) place
      (omega (arith, small)) placed.0))

  -- ---- the blocks of an expression

  pub blocks_fit : (scope : Scope) (e : Expr) (to : ℕ) → CanStand (length tables) scope e
      → ExprInRange e → to + height e ≤ 24 → scope.next_label + 1 + trap_count e < length all
      → length all ≤ 65536 → AreBlocksOf tables all (blocks_of scope e to)
  blocks_fit scope e to can within registers known few = (
    record {
      name = name_is scope.next_label (omega (arith, known, few));
      note = tt;
      body = body_fits (length tables) (length all) scope e (scope.next_label + 1) to
          can.named.cells can.named.registers can.named.few_tables can.inside within registers
          (omega (arith, known));
      term = lt-ltb (scope.next_label + 1 + trap_count e) (length all) known;
    },
    traps_fit e (scope.next_label + 1) (omega (arith, known, few)) can.placed,
  )
