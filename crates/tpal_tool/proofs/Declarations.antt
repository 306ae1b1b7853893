-- The declared tables, and those of the program's code.
use Rattle.std.proofs.Common.{◌≡◌, ℕ, suc, Bool, true, false, cond, List, [], ◌∷◌, length, Some, None}
use Rattle.std.proofs.Common.{bytes_eq, refl, ap, subst}
use Rattle.std.specs.Prelude.{◌||◌}
use Rattle.std.proofs.lemmas.Slice.Eq.{bytes_eq-Decides}
use Rattle.slices.specs.Holding.{Holding}
use Rattle.tp_value.specs.declared.values.Table.{Table}
use Rattle.loop_syntax.specs.declared.program.TableDecl.{TableDecl}
use Rattle.loop_syntax.specs.declared.program.TableDecl.TheVariants.{Input, Made}
use Rattle.loop_meaning.specs.State.{table_of}
use Rattle.scene_laws.specs.Tables.{AreDeclared, AreHeld, AreNamed, IsWholeOf}
use Rattle.tpal_syntax.specs.declared.blocks.CodeTable.{CodeTable}
use Rattle.tpal_syntax.specs.declared.blocks.CodeTable.TheVariants as code
use Rattle.tpal_tool.specs.CodeInputs.{AreCodeHeld, first_missing_input}
use Rattle.tpal_tool.specs.Inputs.{first_missing, is_given}

-- the table of a name that is given has it
given_name : (given : List Table) (x : List ℕ) → is_given given x ≡ true → (table_of given x).name ≡ x
given_name [] x is = cc
given_name (t ∷ ts) x is = go (bytes_eq t.name x) refl is (given_name ts x)
  where
    go : (b : Bool) → bytes_eq t.name x ≡ b → (b || is_given ts x) ≡ true → (is_given ts x ≡ true → (table_of ts x).name ≡ x) → (cond b t (table_of ts x)).name ≡ x
    go true e there others = (bytes_eq-Decides t.name x).0 e
    go false e there others = others there

-- each input has a table of its name
pub are_named : (ds : List TableDecl) (given : List Table) → first_missing ds given ≡ None → AreNamed ds given
are_named [] given complete = tt
are_named (Input x ∷ ds) given complete = go (is_given given x.text.items) refl complete (are_named ds given)
  where
    go : (b : Bool) → is_given given x.text.items ≡ b → cond b (first_missing ds given) (Some x.text.items) ≡ None → (first_missing ds given ≡ None → AreNamed ds given) → AreNamed (Input x ∷ ds) given
    go true is rest later = (given_name given x.text.items is, later rest)
    go false is never later = cc
are_named (Made x a b ∷ ds) given complete = are_named ds given complete

-- the code misses the input that the program misses
pub missing_input : (ds : List TableDecl) (ts : List CodeTable) (given : List Table) → AreDeclared ds ts → first_missing_input ts given ≡ first_missing ds given
missing_input [] [] given declared = refl
missing_input [] (t ∷ ts) given declared = absurd declared
missing_input (d ∷ ds) [] given declared = absurd declared
missing_input (Input x ∷ ds) (code.Input name ∷ ts) given declared =
    λ i. cond (is_given given (declared.0 i)) (missing_input ds ts given declared.1 i) (Some (declared.0 i))
missing_input (Input x ∷ ds) (code.Made ∷ ts) given declared = absurd declared.0
missing_input (Made x a b ∷ ds) (code.Input name ∷ ts) given declared = absurd declared.0
missing_input (Made x a b ∷ ds) (code.Made ∷ ts) given declared = missing_input ds ts given declared.1

-- what is held of the tables of its code is held of those that it declares
pub as_declared : (ds : List TableDecl) (ts : List CodeTable) (given : List Table) (hs : List Holding) → AreDeclared ds ts → AreCodeHeld ts given hs → AreHeld ds given hs
as_declared [] [] given [] declared held = tt
as_declared [] [] given (h ∷ hs) declared held = absurd held
as_declared [] (t ∷ ts) given hs declared held = absurd declared
as_declared (d ∷ ds) [] given hs declared held = absurd declared
as_declared (d ∷ ds) (t ∷ ts) given [] declared held = absurd held
as_declared (Input x ∷ ds) (code.Input name ∷ ts) given (h ∷ hs) declared held =
    (subst (λ (n : List ℕ). IsWholeOf h (table_of given n)) declared.0 held.0.whole, as_declared ds ts given hs declared.1 held.1)
as_declared (Input x ∷ ds) (code.Made ∷ ts) given (h ∷ hs) declared held = absurd declared.0
as_declared (Made x a b ∷ ds) (code.Input name ∷ ts) given (h ∷ hs) declared held = absurd declared.0
as_declared (Made x a b ∷ ds) (code.Made ∷ ts) given (h ∷ hs) declared held = (held.0.rows, held.0.cols, as_declared ds ts given hs declared.1 held.1)

-- as many tables are held as are in the code
pub as_many : (ds : List TableDecl) (given : List Table) (hs : List Holding) (ts : List CodeTable) → AreHeld ds given hs → AreDeclared ds ts → length hs ≡ length ts
as_many [] given [] [] held declared = refl
as_many [] given [] (t ∷ ts) held declared = absurd declared
as_many [] given (h ∷ hs) ts held declared = absurd held
as_many (Input x ∷ ds) given [] ts held declared = absurd held
as_many (Made x a b ∷ ds) given [] ts held declared = absurd held
as_many (Input x ∷ ds) given (h ∷ hs) [] held declared = absurd declared
as_many (Made x a b ∷ ds) given (h ∷ hs) [] held declared = absurd declared
as_many (Input x ∷ ds) given (h ∷ hs) (t ∷ ts) held declared = ap suc (as_many ds given hs ts held.1 declared.1)
as_many (Made x a b ∷ ds) given (h ∷ hs) (t ∷ ts) held declared = ap suc (as_many ds given hs ts held.2 declared.1)
