-- The tables that a program takes as its inputs, and those that a tables text gives.
use Rattle.std.specs.Prelude.{ℕ, Bool, cond, List, [], ◌∷◌, Option, Some, None, bytes_eq}
use Rattle.std.specs.List.{list_any}
use Rattle.tp_value.specs.declared.values.Table.{Table}
use Rattle.loop_syntax.specs.declared.program.TableDecl.{TableDecl}
use Rattle.loop_syntax.specs.declared.program.TableDecl.TheVariants.{Input, Made}

-- whether one of the tables has that name
abbrev pub is_given : List Table → List ℕ → Bool
is_given given name = list_any (λ table. bytes_eq table.name name) given

-- the first declared input, in order, that has no table of its name
abbrev pub first_missing : List TableDecl → List Table → Option (List ℕ)
first_missing [] given = None
first_missing (Input x ∷ ds) given =
    cond (is_given given x.text.items) (first_missing ds given) (Some x.text.items)
first_missing (Made x a b ∷ ds) given = first_missing ds given

-- the tables without the first one of that name
abbrev pub without : List Table → List ℕ → List Table
without [] name = []
without (t ∷ ts) name = cond (bytes_eq t.name name) ts (t ∷ without ts name)
