-- The tables of a text have as many cells as they should, and numbers in range.
use Rattle.std.proofs.Common.{◌≡◌, ℕ, ◌+◌, ◌*◌, ◌<◌, ◌≤◌, Bool, true, false, cond, ◌&&◌, List, []}
use Rattle.std.proofs.Common.{◌∷◌, map, Some, None, refl, sym, ◌∙◌, subst, arith, ltb-true}
use Rattle.std.proofs.Common.{leb-true}
use Rattle.std.specs.Prelude.{ℤ, pos, negsuc, All, nat_le, ◌^◌}
use Rattle.std.specs.List.{list_all}
use Rattle.std.proofs.lemmas.Int.{ints}
use Rattle.std.proofs.lemmas.List.{length-map}
use Rattle.std.proofs.lemmas.List.Elements.{All-nil, All-cons, All-push}
use Rattle.tp_value.specs.declared.limits.TheConstants.{MAX_SIDE, MAX_TABLE_CELLS}
use Rattle.tp_value.specs.declared.values.Table.{Table}
use Rattle.table_text.specs.declared.fault.TableFault.TheVariants.{Cells, Form}
use Rattle.table_text.specs.Token.{Token, tokens_of, is_run, is_number, is_64_bits, number_value}
use Rattle.table_text.specs.Token.{run_value, unsigned_part}
use Rattle.table_text.specs.Wanted.{size_misfit, cells_of}
use Rattle.table_text.specs.TablesText as text
use Rattle.table_text.specs.TablesText.{AreTables, no_table, table_more, TablesOf}
use Rattle.loop_meaning.specs.InRange.{InRange}
use Rattle.scene_laws.specs.Tables.{IsTable}

both : (a b : Bool) → (a && b) ≡ true → (a ≡ true) × (b ≡ true)
both true b h = (refl, h)
both false b h = cc

-- a number of 64 bits is in range
number_in : (n : ℤ) → is_64_bits n ≡ true → InRange n
number_in (pos n) h = let few : n < 2 ^ 63 = ltb-true n (2 ^ 63) h in omega (arith, ints, few)
number_in (negsuc n) h = let few : n < 2 ^ 63 = ltb-true n (2 ^ 63) h in omega (arith, ints, few)

numbers_in : (tokens : List Token) → list_all (λ number. is_number number.bytes) tokens ≡ true → All InRange (map (λ number. number_value number.bytes) tokens)
numbers_in [] h = All-nil InRange
numbers_in (t ∷ ts) h =
    let parts = both (is_number t.bytes) (list_all (λ number. is_number number.bytes) ts) h in
    All-cons InRange (number_value t.bytes) (map (λ number. number_value number.bytes) ts)
    (number_in (number_value t.bytes) (both (is_run (unsigned_part t.bytes)) (is_64_bits (number_value t.bytes)) parts.0).1)
    (numbers_in ts parts.1)

-- a size isn't greater than a side may be
side_of : (cells each : ℕ) (t : Token) → size_misfit cells each t ≡ None → run_value t.bytes ≤ MAX_SIDE
side_of cells each t fits = go (is_run t.bytes) (nat_le (run_value t.bytes) MAX_SIDE) (nat_le (cells + each * run_value t.bytes) MAX_TABLE_CELLS) refl fits
  where
    go : (run low few : Bool) → nat_le (run_value t.bytes) MAX_SIDE ≡ low → cond run (cond (low && few) None (Some (Cells t.at))) (Some (Form t.at)) ≡ None → run_value t.bytes ≤ MAX_SIDE
    go true true few is h = leb-true (run_value t.bytes) MAX_SIDE is
    go true false few is h = cc
    go false low few is h = cc

-- a table of a text
table_in : (before : List Table) (tokens : List Token) (table : Table) → text.IsTable before tokens table → IsTable table
table_in before tokens table is =
    let rows : run_value is.rows.bytes ≤ MAX_SIDE = side_of 0 0 is.rows is.head.tall in
    let cols : run_value is.cols.bytes ≤ MAX_SIDE = side_of (cells_of before) (run_value is.rows.bytes) is.cols is.head.wide in
    subst (λ (t : Table). IsTable t) (sym is.gives) (record {
      full = length-map is.numbers (λ number. number_value number.bytes) ∙ is.complete;
      ranged = record { cells = numbers_in is.numbers is.numbers_fit; rows = omega (arith, ints, rows); cols = omega (arith, ints, cols) };
    })

tables_in : (tokens : List Token) (tables : List Table) → AreTables tokens tables → All IsTable tables
tables_in tokens tables no_table = All-nil IsTable
tables_in tokens tables (table_more front more before table are is) = All-push IsTable before table (tables_in front before are) (table_in before more table is)

-- the tables of a text
pub given_tables : (bytes : List ℕ) (tables : List Table) → TablesOf bytes tables → All IsTable tables
given_tables bytes tables are = tables_in (tokens_of bytes) tables are
