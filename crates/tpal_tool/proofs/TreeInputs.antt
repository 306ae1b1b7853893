-- The inputs that a program misses, by its tree alone.
use Rattle.std.proofs.Common.{◌≡◌, ◌∷◌, [], ℕ, List, map, Option, Some, None, cond, refl, sym, ap}
use Rattle.std.proofs.Common.{◌∙◌}
use Rattle.tp_value.specs.declared.values.Table.{Table}
use Rattle.loop_syntax.specs.declared.program.Program.{Program}
use Rattle.loop_syntax.specs.declared.program.TableDecl.{TableDecl}
use Rattle.loop_syntax.specs.declared.program.TableDecl.TheVariants.{Input, Made}
use Rattle.loop_syntax.specs.Tree.{TableTree, TInput, TMade, table_of, ProgramTree, program_of}
use Rattle.tpal_tool.specs.Inputs.{is_given, first_missing}

abbrev missing_tree : List TableTree → List Table → Option (List ℕ)
missing_tree [] given = None
missing_tree (TInput x ∷ ds) given = cond (is_given given x.text) (missing_tree ds given) (Some x.text)
missing_tree (TMade x a b ∷ ds) given = missing_tree ds given

missing_same : (ds : List TableDecl) (given : List Table) → first_missing ds given ≡ missing_tree (map table_of ds) given
missing_same [] given = refl
missing_same (Input x ∷ ds) given = ap (λ o. cond (is_given given x.text.items) o (Some x.text.items)) (missing_same ds given)
missing_same (Made x a b ∷ ds) given = missing_same ds given

-- programs with one tree miss the same input first
pub missing_of_tree : (p q : Program) (given : List Table) → program_of p ≡ program_of q → first_missing p.tables.items given ≡ first_missing q.tables.items given
missing_of_tree p q given same =
    missing_same p.tables.items given ∙ ap (λ (t : ProgramTree). missing_tree t.tables given) same ∙ sym (missing_same q.tables.items given)
