use Rattle.std.proofs.Common.{rules, ◌≢◌, refl}
use Rattle.tpal_asm.specs.declared.fault.AsmFault.TheVariants.{NoMemory}
use Rattle.tpal_tool.proofs.CodeRefused.{text_refused}
use Rattle.tpal_tool.proofs.code_judging.assembled.Goals as goal

pub returns-in-Err : goal.returns-in-Err
returns-in-Err c =
    let other : c.in-Err.fault ≢ NoMemory = search rules in
    record { code = tt; fault = (refl, text_refused c.args.source.now c.in-Err.fault other c.in-Err.ensures.fault) }
