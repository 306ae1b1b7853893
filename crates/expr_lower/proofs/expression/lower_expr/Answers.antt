use Rattle.std.proofs.Common.{◌≡◌, ℕ, ◌+◌, ◌<◌, ◌≤◌, List, length, sym, subst, arith}
use Rattle.tp_value.specs.declared.limits.TheConstants.{MAX_BLOCKS}
use Rattle.tp_value.specs.declared.Table.{Table}
use Rattle.loop_meaning.specs.declared.value.Variable.{Variable}
use Rattle.loop_meaning.specs.Expressions.{eval}
use Rattle.tpal_syntax.specs.declared.blocks.Block.{Block}
use Rattle.tpal_syntax.specs.declared.blocks.CodeTable.{CodeTable}
use Rattle.tpal_syntax.specs.Listing.{Listing}
use Rattle.tpal_machine.specs.State.{State}
use Rattle.expr_lower.specs.Bodies.{blocks_of, trap_count}
use Rattle.expr_lower.specs.Fitting.{AreBlocksOf, CanStand}
use Rattle.expr_lower.specs.Holding.{Holds}
use Rattle.expr_lower.specs.Leaving.{ComesTo}
use Rattle.expr_lower.specs.Scopes.{IsIn}
use Rattle.expr_lower.specs.Standing.{AreAt}
use Rattle.expr_lower.proofs.Coming.{comes_to}
use Rattle.expr_lower.proofs.Law.{length_traps}
use Rattle.expr_lower.proofs.FittingBlocks.{blocks_fit}
use Rattle.expr_lower.proofs.expression.lower_expr.Goals as goal

pub returns-clause-answer : goal.returns-clause-answer
returns-clause-answer c =
    let scope = c.args.scope.now in
    let e = c.args.expr.now in
    subst (λ (blocks : List Block). (code : Listing) (heartbeat : ℕ) (vars : List Variable) (tables : List Table) (state : State) → IsIn scope e → AreAt code scope.next_label blocks → state.block ≡ scope.next_label → state.at ≡ 0 → Holds scope vars tables (eval vars tables e).notes state → ComesTo code heartbeat (scope.next_label + length blocks) c.args.to (eval vars tables e).answer state)
    (sym c.in_ok-blocks.ensures.blocks) (λ code heartbeat vars tables state inside are at_label at_start holds.
    comes_to code heartbeat scope vars tables e c.args.to state inside c.requires.registers are at_label at_start holds)

pub returns-clause-fit : goal.returns-clause-fit
returns-clause-fit c =
    let scope = c.args.scope.now in
    let e = c.args.expr.now in
    let long : length (blocks_of scope e c.args.to) ≡ trap_count e + 1 =
    omega (arith, length_traps e (scope.next_label + 1)) in
    subst
    (λ (blocks : List Block). (tables : List CodeTable) (all : List Block)
    → CanStand (length tables) scope e
    → scope.next_label + length blocks < length all → length all ≤ MAX_BLOCKS
    → AreBlocksOf tables all blocks)
    (sym c.in_ok-blocks.ensures.blocks)
    (λ tables all can known few.
    blocks_fit tables all scope e c.args.to can c.in_ok-blocks.ensures.literals
    c.requires.registers (omega (arith, known, long)) few)
