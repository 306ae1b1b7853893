-- What programs are given in tests are tables, and their codes owe their meanings over them.
use Rattle.std.proofs.Common.{◌≡◌, ℕ, ◌≤◌, false, List, [], ◌∷◌, refl, sym, subst, arith}
use Rattle.std.proofs.lemmas.Int.{ints}
use Rattle.std.proofs.lemmas.List.Elements.{All-cons, All-nil}
use Rattle.std.specs.Prelude.{All, pos}
use Rattle.slices.specs.Holding.{Holding}
use Rattle.loop_syntax.specs.declared.program.Program.{Program}
use Rattle.loop_syntax.specs.declared.program.TableDecl.{TableDecl}
use Rattle.loop_syntax.specs.declared.program.TableDecl.TheVariants.{Input, Made}
use Rattle.loop_meaning.specs.InRange.{InRange}
use Rattle.tpal_syntax.specs.Listing.{Listing}
use Rattle.tpal_machine.specs.Owes.{Owes}
use Rattle.tpal_machine.specs.State.{first_state}
use Rattle.scene_laws.specs.Tables.{AreHeld, AreNamed, IsTable}
use Rattle.code_laws.specs.Owing.{OwesMeaning}
use Rattle.code_laws.proofs.Whole.Owed.{owes_anyhow}
use Rattle.tests_code.specs.Owed.{column, given_to, owed}

in_range : (n : ℕ) → n ≤ 4 → InRange (pos n)
in_range n few = omega (arith, ints, few)

is_column : IsTable column
is_column = record {
  full = refl;
  ranged = record {
    cells = All-cons InRange (pos 1) (pos 2 ∷ pos 3 ∷ pos 4 ∷ []) (in_range 1 (omega arith))
        (All-cons InRange (pos 2) (pos 3 ∷ pos 4 ∷ []) (in_range 2 (omega arith))
        (All-cons InRange (pos 3) (pos 4 ∷ []) (in_range 3 (omega arith))
        (All-cons InRange (pos 4) [] (in_range 4 (omega arith)) (All-nil InRange))));
    rows = in_range 4 (omega arith);
    cols = in_range 1 (omega arith);
  };
}

-- what a program is given are tables
are_tables : (declared : List TableDecl) → All IsTable (given_to declared)
are_tables [] = All-nil IsTable
are_tables (Input x ∷ []) = All-cons IsTable column [] is_column (All-nil IsTable)
are_tables (Made x a b ∷ []) = All-nil IsTable
are_tables (Input x ∷ e ∷ ds) = All-nil IsTable
are_tables (Made x a b ∷ e ∷ ds) = All-nil IsTable

-- the first task that holds what a program is given owes the program's meaning
pub first_owes : (program : Program) (code : Listing) (held task_held : List Holding)
    (heartbeat : ℕ)
    → OwesMeaning program code
    → AreNamed program.tables.items (given_to program.tables.items)
    → AreHeld program.tables.items (given_to program.tables.items) held
    → task_held ≡ held
    → Owes code heartbeat false 0 (first_state task_held 1000000) (owed program)
first_owes program code held task_held heartbeat owes named are_held same =
    subst
    (λ (holdings : List Holding).
    Owes code heartbeat false 0 (first_state holdings 1000000) (owed program))
    (sym same)
    (owes_anyhow program code owes (given_to program.tables.items) held heartbeat 1000000
    (are_tables program.tables.items) named are_held)
