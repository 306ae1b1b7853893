-- The reader's own words: what it holds between two tokens, and what the tokens from there on give.
use Rattle.std.specs.Prelude.{◌≡◌, Bool, ℕ, zero, suc, ◌*◌, ℤ, List, [], ◌∷◌, ◌++◌, drop, Option}
use Rattle.std.specs.Prelude.{Some, None, Result, Ok, Err}
use Rattle.std.specs.Borrow.{Bor}
use Rattle.std.specs.BTreeSet.{BTreeSet, contains_by}
use Rattle.std.specs.Cmp.Lexicographic.{slice_cmp}
use Rattle.std.specs.Ordering.{nat_cmp}
use Rattle.tp_value.specs.declared.values.Table.{Table}
use Rattle.table_text.specs.declared.fault.TableFault.{TableFault}
use Rattle.table_text.specs.declared.fault.TableFault.TheVariants.{Form, Cells, Repeated, NoMemory}
use Rattle.table_text.specs.Token.{Token, tokens_from, run_value, number_value}
use Rattle.table_text.specs.Wanted.{is_known, name_misfit, size_misfit, Wanted, ATable, AName}
use Rattle.table_text.specs.Wanted.{RowCount, ColCount, ANumber, misfit}

-- the tokens of a text from byte `at` on
abbrev pub tokens_at : List ℕ → ℕ → List Token
tokens_at text at = tokens_from at (drop at text)

-- the first token passes a test, and the rest stands behind it
abbrev pub Takes : (Token → Option TableFault) → List Token → Token → List Token → Type 0
Takes test tokens token rest = (tokens ≡ token ∷ rest) × (test token ≡ None)

-- it is a number of this value
abbrev pub TakesNumber : List Token → ℤ → List Token → Type 0
TakesNumber tokens value rest =
    (token : Token)
    × (Takes (misfit ANumber) tokens token rest × (value ≡ number_value token.bytes))

-- it is a name that is none of those known
abbrev pub TakesName : (List ℕ → Bool) → List Token → List ℕ → List Token → Type 0
TakesName known tokens name rest =
    (token : Token)
    × (Takes (λ t. name_misfit (known t.bytes) t) tokens token rest × (name ≡ token.bytes))

-- it is a number of rows or columns of so many cells each, where some cells are there already
abbrev pub TakesSize : ℕ → ℕ → List Token → ℕ → List Token → Type 0
TakesSize cells each tokens value rest =
    (token : Token)
    × (Takes (size_misfit cells each) tokens token rest × (value ≡ run_value token.bytes))

-- the first token has this fault by that test, or there is no token in a text of that length
abbrev pub TokenMisfits : ℕ → (Token → Option TableFault) → List Token → TableFault → Type 0
TokenMisfits len test [] fault = fault ≡ Form len
TokenMisfits len test (token ∷ tokens) fault = test token ≡ Some fault

-- the whole tables so far, and what is known of the next one; inside its cells, one number and
-- `more` others are missing
pub data Progress : Type 0 where
  Between : List Table → Progress
  Opened : List Table → Progress
  Named : List Table → List ℕ → Progress
  Tall : List Table → List ℕ → ℕ → Progress
  Filling : List Table → List ℕ → ℕ → ℕ → List ℤ → ℕ → Progress

-- that many numbers are missing
abbrev pub filled : List Table → List ℕ → ℕ → ℕ → List ℤ → ℕ → Progress
filled before name rows cols cells zero =
    Between (before ++ record { name = name; rows = rows; cols = cols; cells = cells } ∷ [])
filled before name rows cols cells (suc more) = Filling before name rows cols cells more

abbrev pub wanted_at : Progress → Wanted
wanted_at (Between before) = ATable before
wanted_at (Opened before) = AName before
wanted_at (Named before name) = RowCount
wanted_at (Tall before name rows) = ColCount before rows
wanted_at (Filling before name rows cols cells more) = ANumber

-- behind a token that fits
abbrev pub progress : Progress → Token → Progress
progress (Between before) token = Opened before
progress (Opened before) token = Named before token.bytes
progress (Named before name) token = Tall before name (run_value token.bytes)
progress (Tall before name rows) token =
    filled before name rows (run_value token.bytes) [] (rows * run_value token.bytes)
progress (Filling before name rows cols cells more) token =
    filled before name rows cols (cells ++ number_value token.bytes ∷ []) more

-- where the text of that length ends
abbrev pub ended : ℕ → Progress → Result (List Table) TableFault
ended len (Between before) = Ok before
ended len (Opened before) = Err (Form len)
ended len (Named before name) = Err (Form len)
ended len (Tall before name rows) = Err (Form len)
ended len (Filling before name rows cols cells more) = Err (Form len)

-- the fault, or else the rest
abbrev pub unless : Option TableFault → Result (List Table) TableFault →
    Result (List Table) TableFault
unless None rest = rest
unless (Some fault) rest = Err fault

-- what the tokens give from there on, in a text of that length
unfoldable pub read : ℕ → List Token → Progress → Result (List Table) TableFault
read len [] at = ended len at
read len (token ∷ tokens) at =
    unless (misfit (wanted_at at) token) (read len tokens (progress at token))

-- what a fault says, but for want of memory
abbrev pub OnFault : TableFault → Type 0 → Type 0
OnFault (Form at) P = P
OnFault (Cells at) P = P
OnFault (Repeated at) P = P
OnFault NoMemory P = Unit {0}

-- the names that a set holds, of the bytes that its keys point to
abbrev pub has_name : BTreeSet (Bor (List ℕ)) → List ℕ → Bool
has_name names name = contains_by (λ key. slice_cmp nat_cmp name key.now) names

-- the set holds the tables' names
abbrev pub HoldsNames : BTreeSet (Bor (List ℕ)) → List Table → Type 0
HoldsNames names before = (name : List ℕ) → has_name names name ≡ is_known before name
