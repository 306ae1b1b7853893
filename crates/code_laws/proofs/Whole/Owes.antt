-- The code of a program owes its meaning.
use Rattle.std.proofs.Common.{subst, sym}
use Rattle.loop_syntax.specs.declared.Program.{Program}
use Rattle.loop_check.specs.Unbroken.{NoneBroken}
use Rattle.tpal_syntax.specs.Conditions.{IsCode}
use Rattle.tpal_syntax.specs.Listing.{Listing}
use Rattle.tpal_machine.proofs.Given.{first_of}
use Rattle.expr_lower.proofs.Law.{expr_law}
use Rattle.code_laws.specs.Main.{IsProgram}
use Rattle.code_laws.specs.Owing.{OwesMeaning}
use Rattle.form_laws.proofs.Forms.Makes.{given_tables_are}
use Rattle.form_laws.proofs.Premises.Cutting.{ProgramRules}
use Rattle.code_laws.proofs.Whole.Found.{program_rules}
use Rattle.code_laws.proofs.Whole.Root.{as_many_held, owes_promoted}

-- a code that is the code of a program owes its meaning
pub owes_of : (p : Program) (code : Listing) → NoneBroken p → IsCode code.tables code.blocks → IsProgram code p → OwesMeaning p code
owes_of p code unbroken right is =
    let rules : ProgramRules p is.act.tables = subst (ProgramRules p) (sym is.tables) (program_rules p unbroken is.ranged is.built) in
    record {
      declared = is.declared;
      promoted = λ given holdings heartbeat fuel are named held.
          owes_promoted code heartbeat (λ K scope vars tables e label r inside low blocks. expr_law code heartbeat K scope vars tables e label r inside low blocks)
          p given holdings fuel is rules (given_tables_are p.tables.items given are named) held
          (record { right = right; runs = first_of code holdings fuel right (as_many_held p.tables.items code.tables given holdings is.declared held) });
    }
