-- What a code owes that owes a program's meaning, for those who don't count promotion points.
use Rattle.std.proofs.Common.{ℕ, false, List, All, arith}
use Rattle.slices.specs.Holding.{Holding}
use Rattle.tp_value.specs.declared.values.Table.{Table}
use Rattle.loop_syntax.specs.declared.program.Program.{Program}
use Rattle.loop_meaning.specs.Meaning.{chances, meaning}
use Rattle.tpal_syntax.specs.Listing.{Listing}
use Rattle.tpal_machine.specs.declared.ends.Ending.TheVariants.{Root}
use Rattle.tpal_machine.specs.Owes.{Owes}
use Rattle.tpal_machine.specs.State.{first_state}
use Rattle.scene_laws.specs.Tables.{AreHeld, AreNamed, IsTable}
use Rattle.code_laws.specs.Owing.{OwesMeaning}
use Rattle.scene_laws.proofs.Scenes.Promises.{lesser}

-- its first task owes the meaning, however many points it enters
pub owes_anyhow : (program : Program) (listing : Listing) → OwesMeaning program listing
    → (given : List Table) (holdings : List Holding) (heartbeat fuel : ℕ) → All IsTable given
    → AreNamed program.tables.items given → AreHeld program.tables.items given holdings
    → Owes listing heartbeat false 0 (first_state holdings fuel)
    (Root (meaning program given fuel))
owes_anyhow program listing owes given holdings heartbeat fuel are named held =
    let all : Owes listing heartbeat false (chances program given fuel)
    (first_state holdings fuel) (Root (meaning program given fuel)) =
    owes.promoted given holdings heartbeat fuel are named held in
    record {
      belongs = all.belongs;
      waits_not = all.waits_not;
      bound = lesser listing heartbeat false (chances program given fuel) 0
          (first_state holdings fuel) (Root (meaning program given fuel)) (omega arith) all.bound;
    }
