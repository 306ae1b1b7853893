-- What a code text comes to.
use Rattle.std.specs.Prelude.{◌≡◌, ℕ, List, Some}
use Rattle.tpal_syntax.specs.Listing.{Listing}
use Rattle.tpal_syntax.specs.Text.{CodeText}
use Rattle.tpal_asm.specs.declared.fault.AsmFault.{AsmFault}
use Rattle.tpal_asm.specs.Faults.{FirstFault}
use Rattle.tpal_verify.specs.Breaks.{Accepted, first_break}
use Rattle.tpal_tool.specs.ExecLines.{assembly_line, break_line, name_at}

-- a code text of at most the greatest length is refused with this line: it has a fault, or it is
-- that of a code that breaks a rule
pub data RefusesCode (text line : List ℕ) : Type 0 where
  faulty : (fault : AsmFault)
      → FirstFault text fault
      → line ≡ assembly_line fault
      → RefusesCode text line
  broken : (code : Listing) (block at rule : ℕ)
      → CodeText text code.tables code.blocks
      → first_break code ≡ Some (block, at, rule)
      → line ≡ break_line (name_at code block) at rule →
      RefusesCode text line

-- a code text is that of this code, which breaks no rule
pub record AcceptsCode (text : List ℕ) (code : Listing) : Type 0 where
  pub code_text : CodeText text code.tables code.blocks
  pub accepted : Accepted code
