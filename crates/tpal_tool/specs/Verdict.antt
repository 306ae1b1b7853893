-- What a source text comes to.
use Rattle.std.specs.Prelude.{◌≡◌, ℕ, ◌<◌, ◌≤◌, true, false, List}
use Rattle.tp_value.specs.declared.limits.TheConstants.{MAX_BLOCKS}
use Rattle.tp_value.specs.declared.values.Place.{Place}
use Rattle.loop_syntax.specs.declared.program.Program.{Program}
use Rattle.loop_syntax.specs.Tree.{program_of}
use Rattle.loop_parse.specs.Text.{Reads, TextFault, FirstTextFault}
use Rattle.loop_rules.specs.Resolving.{IsFirstBroken}
use Rattle.loop_rules.specs.Unbroken.{IsResolved}
use Rattle.loop_check.specs.Checking as parallel
use Rattle.loop_check.specs.Unbroken.{NoneBroken}
use Rattle.scene_laws.specs.Built.{program_is_built}
use Rattle.scene_laws.specs.Count.{blocks_of_program}
use Rattle.tpal_tool.specs.Lines.{blocks_line, fault_line, not_built_line, parallel_line, rule_line}

-- a source text of at most the greatest length is refused with this line
pub data Refuses (source : List ℕ) (line : List ℕ) : Type 0 where
  faulty : (fault : TextFault)
      → FirstTextFault source fault
      → line ≡ fault_line fault
      → Refuses source line
  broken : (program : Program) (rule : ℕ) (place : Place)
      → Reads source (program_of program)
      → IsFirstBroken program rule place →
      line ≡ rule_line rule place → Refuses source line
  broken_parallel : (program : Program) (rule : ℕ) (place : Place)
      → Reads source (program_of program)
      → IsResolved program →
      parallel.IsFirstBroken program rule place
      → line ≡ parallel_line rule place
      → Refuses source line
  not_built : (program : Program)
      → Reads source (program_of program)
      → NoneBroken program
      → program_is_built program ≡ false →
      line ≡ not_built_line → Refuses source line
  too_many_blocks : (program : Program)
      → Reads source (program_of program)
      → NoneBroken program
      → program_is_built program ≡ true
      → MAX_BLOCKS < blocks_of_program program →
      line ≡ blocks_line (blocks_of_program program) → Refuses source line

-- a source text is that of this program, which breaks no rule, for which there is code, and whose
-- code has few enough blocks
pub record Accepts (source : List ℕ) (program : Program) : Type 0 where
  pub reads : Reads source (program_of program)
  pub unbroken : NoneBroken program
  pub built : program_is_built program ≡ true
  pub fits : blocks_of_program program ≤ MAX_BLOCKS

-- it is refused with this line, and in no other way
pub record RefusesOnly (source : List ℕ) (line : List ℕ) : Type 0 where
  pub refuses : Refuses source line
  pub one_line : (other : List ℕ) → Refuses source other → other ≡ line
  pub not_accepted : (program : Program) → Accepts source program → ⊥

-- it is that of this program, and of no other
pub record AcceptsOnly (source : List ℕ) (program : Program) : Type 0 where
  pub accepts : Accepts source program
  pub one_program : (other : Program) → Accepts source other → program_of other ≡ program_of program
  pub not_refused : (line : List ℕ) → Refuses source line → ⊥
