-- Which code is the code of a program.
use Rattle.std.specs.Prelude.{◌≡◌, true, pos, List, [], ◌∷◌, map}
use Rattle.loop_syntax.specs.declared.Program.{Program}
use Rattle.loop_meaning.specs.InRange.{ProgramInRange}
use Rattle.tp_value.specs.declared.limits.TheConstants.{MAX_CALL_DEPTH}
use Rattle.tpal_syntax.specs.declared.instructions.Instr.{Instr}
use Rattle.tpal_syntax.specs.declared.instructions.Instr.TheVariants as instr
use Rattle.tpal_syntax.specs.declared.instructions.Term.{Term}
use Rattle.tpal_syntax.specs.declared.instructions.Term.TheVariants as term
use Rattle.tpal_syntax.specs.declared.instructions.Value.TheVariants as value
use Rattle.tpal_syntax.specs.Listing.{Listing}
use Rattle.scene_laws.specs.Code.{Opens, Codes, store}
use Rattle.scene_laws.specs.Layout.{levels_cell, Activation}
use Rattle.scene_laws.specs.Tables.{AreDeclared}
use Rattle.form_laws.specs.Functions.{HasRoom, Makes, AreFunctions, table_name}
use Rattle.scene_laws.specs.Built.{program_is_built}
use Rattle.scene_laws.specs.Quiet.{functions_are_quiet}
use Rattle.expr_lower.specs.Standing.{AreAt}
use Rattle.handler_gen.specs.Blocks.{dispatch_block}
use Rattle.scene_laws.specs.Round.{outermost}

-- The first block begins with the activation of main, which has all levels of calls left. The
-- tables are made, the statements of main follow, and behind them the run ends. Each beat goes to
-- the block that enters the handler of the oldest mark. All literals are numbers of 64 bits, and no
-- statement is one that has no code yet.
pub record IsProgram (code : Listing) (p : Program) : Type 0 where
  pub act : Activation
  pub has_room : HasRoom act
  pub declared : AreDeclared p.tables.items code.tables
  pub tables : act.tables ≡ map table_name p.tables.items
  pub calls : act.calls ≡ functions_are_quiet p.funcs.items
  pub functions : AreFunctions code act p.funcs.items
  pub dispatch : AreAt code act.dispatch (dispatch_block act.dispatch ∷ [])
  pub makes : List Instr
  pub instrs : List Instr
  pub end : Term
  pub begins : Opens code 0
      (instr.Salloc act.size ∷ store levels_cell (value.Int (pos MAX_CALL_DEPTH)) ∷ makes) end
  pub made : Makes code act [] p.tables.items makes instrs
  pub statements : Codes code act outermost [] p.main.items instrs end [] term.Halt
  pub ranged : ProgramInRange p
  pub built : program_is_built p ≡ true
