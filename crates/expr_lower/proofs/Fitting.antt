-- The instructions of an expression are ones that a code may have: their registers, offsets, tables, labels
-- and numbers are in range.
use Rattle.std.proofs.Common.{◌≡◌, ℕ, zero, suc, ◌+◌, ◌<◌, ◌≤◌, Bool, true, false, cond, List, []}
use Rattle.std.proofs.Common.{◌∷◌, ◌++◌, Option, None, Some, Vec, length, bytes_eq, refl, ap, ◌∙◌}
use Rattle.std.proofs.Common.{arith, lt-ltb, le-leb}
use Rattle.std.specs.Prelude.{ℤ, pos, negsuc, ◌&&◌, ◌||◌, nat_lt, ⊤}
use Rattle.std.specs.List.{list_all, AllByRecursion}
use Rattle.std.specs.declared.alloc.Global.{Global}
use Rattle.std.proofs.lemmas.List.Folds.{list_all-append}
use Rattle.loop_syntax.specs.declared.BinOp.{BinOp}
use Rattle.loop_syntax.specs.declared.BinOp.TheVariants as op
use Rattle.loop_syntax.specs.declared.Expr.{Expr}
use Rattle.loop_syntax.specs.declared.Expr.TheVariants.{Int, Var, Cell', Rows, Cols, Neg', Bin'}
use Rattle.loop_rules.specs.Limits.{height}
use Rattle.loop_meaning.specs.InRange.{InRange, ExprInRange}
use Rattle.tpal_syntax.specs.Parts.{is_register, is_number, is_value, is_instr}
use Rattle.tpal_syntax.specs.declared.instructions.Alu.{Alu}
use Rattle.tpal_syntax.specs.declared.instructions.Alu.TheVariants as alu
use Rattle.tpal_syntax.specs.declared.instructions.Instr.{Instr}
use Rattle.tpal_syntax.specs.declared.instructions.Instr.TheVariants as instr
use Rattle.tpal_syntax.specs.declared.instructions.Value as operands
use Rattle.tpal_syntax.specs.declared.instructions.Value.TheVariants as value
use Rattle.expr_lower.specs.declared.scope.Scope.{Scope}
use Rattle.expr_lower.specs.Bodies.{literal, can_trap, may_be_zero, trap_count, calculation, turned}
use Rattle.expr_lower.specs.Bodies.{division, operation, below_test, row_test, col_test}
use Rattle.expr_lower.specs.Bodies.{operand_at, operand_body, range_tests, variable_read, body_of}
use Rattle.expr_lower.specs.Scopes.{IsIn, home_of, cell_in, register_in, number_in, has_table_in}
use Rattle.expr_lower.proofs.Law.{Fits, fits}

-- ---- tests

pub both : (a b : Bool) → a ≡ true → b ≡ true → (a && b) ≡ true
both a b first second = ap (λ x. x && b) first ∙ second

-- the cells of a scope can be named in a code
abbrev pub AreOffsets : List (Vec ℕ Global × ℕ) → Type 0
AreOffsets cells = AllByRecursion (λ c. c.1 ≤ 511) cells

pub offset_low : (cells : List (Vec ℕ Global × ℕ)) (x : List ℕ) → AreOffsets cells → cell_in cells x ≤ 511
offset_low [] x are = omega arith
offset_low (c ∷ cs) x (is, are) = by_name (bytes_eq c.0.items x) (offset_low cs x are)
  where
    by_name : (same : Bool) → cell_in cs x ≤ 511 → cond same c.1 (cell_in cs x) ≤ 511
    by_name true low = is
    by_name false low = low

-- the registers of a scope are ones that a code has
abbrev pub AreRegisters : List (Vec ℕ Global × ℕ) → Type 0
AreRegisters regs = AllByRecursion (λ r. r.1 < 32) regs

abbrev pub IsRegister : Option ℕ → Type 0
IsRegister None = ⊤
IsRegister (Some r) = r < 32

pub register_low : (regs : List (Vec ℕ Global × ℕ)) (x : List ℕ) → AreRegisters regs
    → IsRegister (register_in regs x)
register_low [] x are = tt
register_low (r ∷ rs) x (is, are) = by_name (bytes_eq r.0.items x) (register_low rs x are)
  where
    by_name : (same : Bool) → IsRegister (register_in rs x)
        → IsRegister (cond same (Some r.1) (register_in rs x))
    by_name true low = is
    by_name false low = low

-- the register of an operand
pub home_low : (scope : Scope) (e : Expr) → AreRegisters scope.regs.items → IsRegister (home_of scope e)
home_low scope (Int n place) are = tt
home_low scope (Var x) are = register_low scope.regs.items x.text.items are
home_low scope (Cell' t p a q b) are = tt
home_low scope (Rows t) are = tt
home_low scope (Cols t) are = tt
home_low scope (Neg' p a place) are = tt
home_low scope (Bin' o place p a q b) are = tt

operand_low : (home : Option ℕ) (to : ℕ) → to < 32 → IsRegister home → operand_at home to < 32
operand_low None to low is = low
operand_low (Some r) to low is = is

pub number_low : (tables : List (Vec ℕ Global)) (t : List ℕ) → has_table_in tables t ≡ true → number_in tables t < length tables
number_low [] t has = cc
number_low (u ∷ us) t has = by_name (bytes_eq u.items t) has (number_low us t)
  where
    by_name : (same : Bool) → (same || has_table_in us t) ≡ true → (has_table_in us t ≡ true → number_in us t < length us) → cond same 0 (suc (number_in us t)) < suc (length us)
    by_name true found low = omega arith
    by_name false found low = let below : number_in us t < length us = low found in omega arith

pub number_fits : (n : ℤ) → InRange n → is_number n ≡ true
number_fits (pos n) within = lt-ltb n 9223372036854775808 within.sfits
number_fits (negsuc n) within = lt-ltb n 9223372036854775808 within.sfits

-- a literal is a number of 64 bits
abbrev pub IsFitting : Option ℤ → Type 0
IsFitting None = ⊤
IsFitting (Some n) = is_number n ≡ true

pub literal_fits : (e : Expr) → ExprInRange e → IsFitting (literal e)
literal_fits (Int n place) within = number_fits n within
literal_fits (Var x) within = tt
literal_fits (Cell' t p a q b) within = tt
literal_fits (Rows t) within = tt
literal_fits (Cols t) within = tt
literal_fits (Neg' p a place) within = tt
literal_fits (Bin' o place p a q b) within = tt

module _ (tables blocks : ℕ) where
  abbrev pub AreFitting : List Instr → Type 0
  AreFitting body = list_all (is_instr tables blocks) body ≡ true

  pub joined : (xs ys : List Instr) → AreFitting xs → AreFitting ys → AreFitting (xs ++ ys)
  joined xs ys first second = list_all-append (is_instr tables blocks) xs ys ∙ both _ _ first second

  -- ---- single instructions

  pub low : (r : ℕ) → r < 32 → is_register r ≡ true
  low r h = lt-ltb r 32 h

  pub calc_fits : (to left : ℕ) (o : Alu) (right : operands.Value) → to < 32 → left < 32 → is_value blocks right ≡ true → is_instr tables blocks (instr.Calc to left o right) ≡ true
  calc_fits to left o right first second third = both _ _ (both _ _ (low to first) (low left second)) third

  pub jump_fits : (test label : ℕ) → test < 32 → label < blocks → is_instr tables blocks (instr.IfJump test label) ≡ true
  jump_fits test label first second = both _ _ (low test first) (lt-ltb label blocks second)

  size_fits : (to table : ℕ) → to < 32 → table < tables → (is_register to && nat_lt table tables) ≡ true
  size_fits to table first second = both _ _ (low to first) (lt-ltb table tables second)

  fetch_fits : (to table row col : ℕ) → to < 32 → table < tables → row < 32 → col < 32 → is_instr tables blocks (instr.Fetch to table row col) ≡ true
  fetch_fits to table row col first second third fourth = both _ _ (both _ _ (size_fits to table first second) (low row third)) (low col fourth)

  operand_fits : (home : Option ℕ) (body : List Instr) → AreFitting body
      → AreFitting (operand_body home body)
  operand_fits None body are = are
  operand_fits (Some r) body are = refl

  -- ---- operators

  -- the registers of an operator, or of the read of a cell
  record ArePlaces (to left right : ℕ) : Type 0 where
    own : to ≤ 22
    first : left < 32
    second : right < 32

  calculation_fits : (o : Alu) (to left right : ℕ) (body : List Instr) (number : Option ℤ) → ArePlaces to left right → IsFitting number → AreFitting body → AreFitting (calculation o to left right body number)
  calculation_fits o to left right body None at fit are = joined body _ are (both _ _ (calc_fits to left o (value.Reg right) (omega (arith, at.own)) at.first (low right at.second)) refl)
  calculation_fits o to left right body (Some n) at fit are = both _ _ (calc_fits to left o (value.Int n) (omega (arith, at.own)) at.first fit) refl

  turned_fits : (o : Alu) (to left right : ℕ) (body : List Instr) → ArePlaces to left right → AreFitting body → AreFitting (turned o to left right body)
  turned_fits o to left right body at are = joined body _ are (both _ _ (calc_fits to right o (value.Reg left) (omega (arith, at.own)) at.second (low left at.first)) refl)

  zero_test_fits : (test right trap : ℕ) (more : List Instr) → test < 32 → right < 32 → trap < blocks → AreFitting more → AreFitting (instr.Calc test right alu.Eq (value.Int (pos 0)) ∷ instr.IfJump test trap ∷ more)
  zero_test_fits test right trap more first within second are =
      both _ _ (calc_fits test right alu.Eq (value.Int (pos 0)) first within refl) (both _ _ (jump_fits test trap first second) are)

  tested_fits : (o : Alu) (to left right trap : ℕ) (body : List Instr) → ArePlaces to left right → trap < blocks → AreFitting body → (form : Bool) → AreFitting (cond form
      (body ++ instr.Calc (to + 2) right alu.Eq (value.Int (pos 0)) ∷ instr.IfJump (to + 2) trap ∷ instr.Calc to left o (value.Reg right) ∷ [])
      (body ++ (instr.Calc (to + 1) right alu.Eq (value.Int (pos 0)) ∷ instr.IfJump (to + 1) trap ∷ body ++ instr.Calc to left o (value.Reg right) ∷ [])))
  tested_fits o to left right trap body at known are form =
      let last : List Instr = instr.Calc to left o (value.Reg right) ∷ [] in
      let last_fits : AreFitting last = both _ _ (calc_fits to left o (value.Reg right) (omega (arith, at.own)) at.first (low right at.second)) refl in
      by_form last last_fits form
    where
      by_form : (last : List Instr) → AreFitting last → (form : Bool) → AreFitting (cond form
          (body ++ instr.Calc (to + 2) right alu.Eq (value.Int (pos 0)) ∷ instr.IfJump (to + 2) trap ∷ last)
          (body ++ (instr.Calc (to + 1) right alu.Eq (value.Int (pos 0)) ∷ instr.IfJump (to + 1) trap ∷ body ++ last)))
      by_form last last_fits true = joined body _ are (zero_test_fits (to + 2) right trap last (omega (arith, at.own)) at.second known last_fits)
      by_form last last_fits false = joined body _ are (zero_test_fits (to + 1) right trap (body ++ last) (omega (arith, at.own)) at.second known (joined body last are last_fits))

  division_fits : (o : Alu) (to left right trap : ℕ) (body : List Instr) (number : Option ℤ) → ArePlaces to left right → trap + cond (may_be_zero number) 1 0 ≤ blocks → IsFitting number → AreFitting body → AreFitting (division o to left right body number trap)
  division_fits o to left right trap body None at known fit are = tested_fits o to left right trap body at (omega arith) are (nat_lt to 22)
  division_fits o to left right trap body (Some (pos zero)) at known fit are = both _ _ (both _ _ (low to (omega (arith, at.own))) refl) (both _ _ (jump_fits to trap (omega (arith, at.own)) (omega arith)) refl)
  division_fits o to left right trap body (Some (pos (suc n))) at known fit are = both _ _ (calc_fits to left o (value.Int (pos (suc n))) (omega (arith, at.own)) at.first fit) refl
  division_fits o to left right trap body (Some (negsuc n)) at known fit are = both _ _ (calc_fits to left o (value.Int (negsuc n)) (omega (arith, at.own)) at.first fit) refl

  operation_fits : (o : BinOp) (to left right trap : ℕ) (body : List Instr) (number : Option ℤ) → ArePlaces to left right → trap + cond (can_trap o number) 1 0 ≤ blocks → IsFitting number → AreFitting body → AreFitting (operation o to left right body number trap)
  operation_fits op.Add to left right trap body number at known fit are = calculation_fits alu.Add to left right body number at fit are
  operation_fits op.Sub to left right trap body number at known fit are = calculation_fits alu.Sub to left right body number at fit are
  operation_fits op.Mul to left right trap body number at known fit are = calculation_fits alu.Mul to left right body number at fit are
  operation_fits op.Div to left right trap body number at known fit are = division_fits alu.Div to left right trap body number at known fit are
  operation_fits op.Rem to left right trap body number at known fit are = division_fits alu.Rem to left right trap body number at known fit are
  operation_fits op.Eq to left right trap body number at known fit are = calculation_fits alu.Eq to left right body number at fit are
  operation_fits op.Ne to left right trap body number at known fit are = calculation_fits alu.Ne to left right body number at fit are
  operation_fits op.Lt to left right trap body number at known fit are = calculation_fits alu.Lt to left right body number at fit are
  operation_fits op.Le to left right trap body number at known fit are = calculation_fits alu.Le to left right body number at fit are
  operation_fits op.Gt to left right trap body number at known fit are = turned_fits alu.Lt to left right body at are
  operation_fits op.Ge to left right trap body number at known fit are = turned_fits alu.Le to left right body at are

  -- ---- cells

  below_fits : (row col test trap : ℕ) → row < 32 → col < 32 → test < 32 → trap < blocks → AreFitting (below_test row col test trap)
  below_fits row col test trap first second third known =
      both _ _ (calc_fits test row alu.Min (value.Reg col) third first (low col second)) (both _ _ (calc_fits test test alu.Lt (value.Int (pos 0)) third third refl) (both _ _ (jump_fits test trap third known) refl))

  row_fits : (table row test trap : ℕ) → table < tables → row < 32 → test < 32 → trap < blocks → AreFitting (row_test table row test trap)
  row_fits table row test trap first second third known =
      both _ _ (size_fits test table third first) (both _ _ (calc_fits test test alu.Le (value.Reg row) third third (low row second)) (both _ _ (jump_fits test trap third known) refl))

  col_fits : (table col test trap : ℕ) → table < tables → col < 32 → test < 32 → trap < blocks → AreFitting (col_test table col test trap)
  col_fits table col test trap first second third known =
      both _ _ (size_fits test table third first) (both _ _ (calc_fits test test alu.Le (value.Reg col) third third (low col second)) (both _ _ (jump_fits test trap third known) refl))

  pub range_fits : (table row col test trap : ℕ) → table < tables → row < 32 → col < 32 → test < 32
      → trap < blocks → AreFitting (range_tests table row col test trap)
  range_fits table row col test trap named first second third known =
      joined (below_test row col test trap)
      (row_test table row test trap ++ col_test table col test trap)
      (below_fits row col test trap first second third known)
      (joined (row_test table row test trap) (col_test table col test trap)
      (row_fits table row test trap named first third known)
      (col_fits table col test trap named second third known))

  cell_fits : (table to row_at col_at trap : ℕ) (row col : List Instr) → table < tables → ArePlaces to row_at col_at → trap < blocks → AreFitting row → AreFitting col → (form : Bool) → AreFitting (cond form
      (row ++ (col ++ (below_test row_at col_at (to + 2) trap ++ (row_test table row_at (to + 2) trap ++ (col_test table col_at (to + 2) trap ++ instr.Fetch to table row_at col_at ∷ [])))))
      (row ++ (col ++ (below_test row_at col_at (to + 1) trap ++ (row_test table row_at (to + 1) trap ++ (col ++ (col_test table col_at to trap ++ (row ++ (col ++ instr.Fetch to table row_at col_at ∷ [])))))))))
  cell_fits table to row_at col_at trap row col named at known on_row on_col true =
      let fetch : List Instr = instr.Fetch to table row_at col_at ∷ [] in
      let fetched : AreFitting fetch = both _ _ (fetch_fits to table row_at col_at (omega (arith, at.own)) named at.first at.second) refl in
      let test : to + 2 < 32 = omega (arith, at.own) in
      let cols : List Instr = col_test table col_at (to + 2) trap ++ fetch in
      let rows : List Instr = row_test table row_at (to + 2) trap ++ cols in
      let tests : List Instr = below_test row_at col_at (to + 2) trap ++ rows in
      joined row (col ++ tests) on_row (joined col tests on_col (joined (below_test row_at col_at (to + 2) trap) rows (below_fits row_at col_at (to + 2) trap at.first at.second test known)
      (joined (row_test table row_at (to + 2) trap) cols (row_fits table row_at (to + 2) trap named at.first test known)
      (joined (col_test table col_at (to + 2) trap) fetch (col_fits table col_at (to + 2) trap named at.second test known) fetched))))
  cell_fits table to row_at col_at trap row col named at known on_row on_col false =
      let fetch : List Instr = instr.Fetch to table row_at col_at ∷ [] in
      let fetched : AreFitting fetch = both _ _ (fetch_fits to table row_at col_at (omega (arith, at.own)) named at.first at.second) refl in
      let test : to + 1 < 32 = omega (arith, at.own) in
      let anew : List Instr = row ++ (col ++ fetch) in
      let cols : List Instr = col_test table col_at to trap ++ anew in
      let rows : List Instr = row_test table row_at (to + 1) trap ++ (col ++ cols) in
      let tests : List Instr = below_test row_at col_at (to + 1) trap ++ rows in
      joined row (col ++ tests) on_row (joined col tests on_col (joined (below_test row_at col_at (to + 1) trap) rows (below_fits row_at col_at (to + 1) trap at.first at.second test known)
      (joined (row_test table row_at (to + 1) trap) (col ++ cols) (row_fits table row_at (to + 1) trap named at.first test known)
      (joined col cols on_col (joined (col_test table col_at to trap) anew (col_fits table col_at to trap named at.second (omega (arith, at.own)) known) (joined row (col ++ fetch) on_row (joined col fetch on_col fetched)))))))

  -- ---- expressions

  read_fits : (home : Option ℕ) (off to : ℕ) → to < 32 → IsRegister home → off ≤ 511
      → AreFitting (variable_read home off to)
  read_fits (Some r) off to first second third =
      both _ _ (both _ _ (low to first) (low r second)) refl
  read_fits None off to first second third =
      both _ _ (both _ _ (both _ _ (low to first) refl) (le-leb off 511 third)) refl

  -- the registers of a node and of its operands
  places : (scope : Scope) (to : ℕ) (a b : Expr) → AreRegisters scope.regs.items → to ≤ 22
      → ArePlaces to (operand_at (home_of scope a) to) (operand_at (home_of scope b) (to + 1))
  places scope to a b registered within = record {
    own = within;
    first = operand_low (home_of scope a) to (omega arith) (home_low scope a registered);
    second = operand_low (home_of scope b) (to + 1) (omega arith) (home_low scope b registered);
  }

  -- the instructions of an expression, in a code with at least the scope's tables and with its trap blocks
  pub body_fits : (scope : Scope) (e : Expr) (label to : ℕ) → AreOffsets scope.cells.items
      → AreRegisters scope.regs.items → length scope.tables.items ≤ tables → IsIn scope e
      → ExprInRange e → to + height e ≤ 24 → label + trap_count e ≤ blocks
      → AreFitting (body_of scope label e to)
  body_fits scope (Int n place) label to offsets registered few is within registers known =
      both _ _ (both _ _ (low to (omega arith)) (number_fits n within)) refl
  body_fits scope (Var x) label to offsets registered few is within registers known =
      read_fits (register_in scope.regs.items x.text.items) (cell_in scope.cells.items x.text.items)
      to (omega arith) (register_low scope.regs.items x.text.items registered)
      (offset_low scope.cells.items x.text.items offsets)
  body_fits scope (Cell' t p a q b) label to offsets registered few is within registers known =
      let has : Fits to a b = fits to a b registers in
      let named : number_in scope.tables.items t.text.items < tables = omega (arith, number_low scope.tables.items t.text.items is.0) in
      cell_fits (number_in scope.tables.items t.text.items) to (operand_at (home_of scope a) to)
      (operand_at (home_of scope b) (to + 1)) (label + trap_count a + trap_count b) _ _ named
      (places scope to a b registered has.node) (omega arith)
      (operand_fits (home_of scope a) _
      (body_fits scope a label to offsets registered few is.1 within.0 has.first (omega arith)))
      (operand_fits (home_of scope b) _
      (body_fits scope b (label + trap_count a) (to + 1) offsets registered few is.2 within.1
      has.second (omega arith))) (nat_lt to 22)
  body_fits scope (Rows t) label to offsets registered few is within registers known =
      both _ _ (size_fits to _ (omega arith)
      (omega (arith, number_low scope.tables.items t.text.items is))) refl
  body_fits scope (Cols t) label to offsets registered few is within registers known =
      both _ _ (size_fits to _ (omega arith)
      (omega (arith, number_low scope.tables.items t.text.items is))) refl
  body_fits scope (Neg' p a place) label to offsets registered few is within registers known =
      joined (operand_body (home_of scope a) (body_of scope label a to)) _
      (operand_fits (home_of scope a) _
      (body_fits scope a label to offsets registered few is within (omega arith) known))
      (both _ _ (calc_fits to (operand_at (home_of scope a) to) alu.Mul (value.Int (negsuc 0))
      (omega arith)
      (operand_low (home_of scope a) to (omega arith) (home_low scope a registered)) refl) refl)
  body_fits scope (Bin' o place p a q b) label to offsets registered few is within registers known =
      let has : Fits to a b = fits to a b registers in
      joined (operand_body (home_of scope a) (body_of scope label a to)) _
      (operand_fits (home_of scope a) _
      (body_fits scope a label to offsets registered few is.0 within.0 has.first (omega arith)))
      (operation_fits o to (operand_at (home_of scope a) to) (operand_at (home_of scope b) (to + 1))
      (label + trap_count a + trap_count b)
      (operand_body (home_of scope b) (body_of scope (label + trap_count a) b (to + 1))) (literal b)
      (places scope to a b registered has.node) (omega arith) (literal_fits b within.1)
      (operand_fits (home_of scope b) _ (body_fits scope b (label + trap_count a) (to + 1) offsets
      registered few is.1 within.1 has.second (omega arith))))
