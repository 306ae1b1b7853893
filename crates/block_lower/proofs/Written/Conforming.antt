-- Each step of writing keeps what is written proper.
use Rattle.std.proofs.Common.{◌≡◌, ℕ, zero, suc, ◌+◌, ◌<◌, ◌≤◌, ◌^◌, Bool, true, false, cond, List, []}
use Rattle.std.proofs.Common.{◌∷◌, ◌++◌, length, take, Option, None, Some, Vec}
use Rattle.std.specs.declared.alloc.Global.{Global}
use Rattle.std.proofs.Common.{refl, sym, subst, arith}
use Rattle.std.specs.List.{AllByRecursion}
use Rattle.std.specs.Prelude.{Box, IsTrue, ℤ, ⊤}
use Rattle.loop_syntax.specs.declared.BinOp.{BinOp}
use Rattle.loop_syntax.specs.declared.BinOp.TheVariants as op
use Rattle.loop_syntax.specs.declared.Expr.{Expr}
use Rattle.loop_syntax.specs.declared.Expr.TheVariants.{Int, Var, Cell', Rows, Cols, Neg', Bin'}
use Rattle.tp_value.specs.declared.Place.{Place}
use Rattle.tp_value.specs.declared.TrapKind.{TrapKind}
use Rattle.tp_value.specs.declared.TrapKind.TheVariants.{Divide, Index}
use Rattle.tp_value.specs.declared.limits.TheConstants.{MAX_ACTIVATION_CELLS, MAX_PARAMETERS}
use Rattle.tp_value.specs.declared.limits.TheConstants.{REGISTERS}
use Rattle.tpal_syntax.specs.declared.instructions.Value.{Value}
use Rattle.tpal_syntax.specs.Conditions.{IsNote}
use Rattle.tpal_syntax.specs.Parts.{is_place, is_term}
use Rattle.tpal_syntax.specs.declared.blocks.Block.{Block}
use Rattle.tpal_syntax.specs.declared.instructions.Instr.{Instr}
use Rattle.tpal_syntax.specs.declared.instructions.Term.{Term}
use Rattle.tpal_syntax.specs.declared.notes.Note.{Note}
use Rattle.tpal_syntax.specs.declared.notes.Note.TheVariants as note
use Rattle.tpal_syntax.specs.Listing.{Listing}
use Rattle.expr_lower.specs.declared.scope.Scope.{Scope}
use Rattle.expr_lower.specs.Bodies.{can_trap, literal, name_of, trap_block, trap_count, traps_of}
use Rattle.expr_lower.specs.Fitting.{AreInstrsOf, CanBeNamed, IsPlaced}
use Rattle.expr_lower.specs.Scopes.{HasTable, IsIn, offset_of, register_of, table_number}
use Rattle.expr_lower.proofs.Fitting.{IsRegister, joined, number_low, offset_low, register_low}
use Rattle.expr_lower.proofs.FittingBlocks.{joined_blocks, name_is, trap_fits, traps_fit}
use Rattle.expr_lower.proofs.Law.{length_traps}
use Rattle.expr_lower.proofs.Standing.{front}
use Rattle.block_lower.specs.declared.body.Body.{Body}
use Rattle.block_lower.specs.declared.lowering.Lowering.{Lowering}
use Rattle.block_lower.specs.declared.output.Output.{Output}
use Rattle.scene_laws.specs.Layout.{value_cell}
use Rattle.scene_laws.specs.Opposite.{of_below, opposite}
use Rattle.block_lower.specs.Conforming.{AreBlocksRound, AreInstrs, AreNamed, AreProper, IsAround}
use Rattle.block_lower.specs.Conforming.{Conforms, IsCallee, IsKnown, IsOperand, IsProper}
use Rattle.block_lower.specs.Conforming.{blocks_of}
use Rattle.block_lower.specs.Writing.{label, next_label, Appends, Closes, IsEmpty, Pushes}
use Rattle.block_lower.specs.Writing.{Readies, Traps}

-- ---- the same, told in another way

same_proper : (on : Body) (bs cs : List Block) (is js : List Instr) (ts us : List Block)
    (n m : Note) → cs ≡ bs → js ≡ is → us ≡ ts → m ≡ n → AreProper on bs is ts n
    → AreProper on cs js us m
same_proper on bs cs is js ts us n m closed body traps noted proper =
    subst (λ (x : List Block). AreProper on x js us m) (sym closed)
    (subst (λ (x : List Instr). AreProper on bs x us m) (sym body)
    (subst (λ (x : List Block). AreProper on bs is x m) (sym traps)
    (subst (λ (x : Note). AreProper on bs is ts x) (sym noted) proper)))

-- ---- names

named_append : (at : ℕ) (xs ys : List Block) → AreNamed at xs → AreNamed (at + length xs) ys
    → AreNamed at (xs ++ ys)
named_append at [] ys first second =
    let same : at + 0 ≡ at = omega arith in
    subst (λ (n : ℕ). AreNamed n ys) same second
named_append at (x ∷ xs) ys first second =
    let same : at + suc (length xs) ≡ at + 1 + length xs = omega arith in
    (first.0, named_append (at + 1) xs ys first.1 (subst (λ (n : ℕ). AreNamed n ys) same second))

named_behind : (xs ys : List Block) → AreNamed 0 xs → AreNamed (length xs) ys
    → AreNamed 0 (xs ++ ys)
named_behind xs ys first second =
    let same : length xs ≡ 0 + length xs = omega arith in
    named_append 0 xs ys first (subst (λ (n : ℕ). AreNamed n ys) same second)

-- ---- codes round fewer blocks

module _ (on : Body) where
  around_front : (bs more : List Block) (code : Listing) → IsAround on (bs ++ more) code
      → IsAround on bs code
  around_front bs more code around = record {
    tables = around.tables;
    blocks = around.blocks;
    dispatch = around.dispatch;
    stand = front code 0 bs more around.stand;
  }

  -- instructions of a code with so many tables and blocks are ones of that code
  instrs_of : (closed : List Block) (code : Listing) (is : List Instr) → IsAround on closed code
      → AreInstrs on is → AreInstrsOf (length code.tables) (length code.blocks) is
  instrs_of closed code is around are =
      subst (λ (n : ℕ). AreInstrsOf n (length code.blocks) is) (sym around.tables)
      (subst (λ (n : ℕ). AreInstrsOf on.tables n is) (sym around.blocks) are)

  term_of : (closed : List Block) (code : Listing) (end : Term) → IsAround on closed code
      → IsTrue (is_term (blocks_of on) end) → IsTrue (is_term (length code.blocks) end)
  term_of closed code end around is =
      subst (λ (n : ℕ). IsTrue (is_term n end)) (sym around.blocks) is

  -- ---- steps

  pub pushes_proper : (old new : Output) (instrs : List Instr) → AreInstrs on instrs
      → Pushes instrs old new → IsProper on old → IsProper on new
  pushes_proper old new instrs are p proper =
      same_proper on old.blocks.items new.blocks.items (old.body.items ++ instrs) new.body.items
      old.traps.items new.traps.items old.note new.note p.blocks p.body p.traps p.noted (record {
        named = proper.named;
        traps_named = proper.traps_named;
        blocks = proper.blocks;
        traps = proper.traps;
        body = joined on.tables (blocks_of on) old.body.items instrs proper.body are;
        note = proper.note;
      })

  pub traps_proper : (old new : Output) (kind : TrapKind) (place : Place) → IsTrue (is_place place)
      → next_label old < 2 ^ 64 → Traps kind place old new → IsProper on old → IsProper on new
  traps_proper old new kind place placed small t proper =
      same_proper on old.blocks.items new.blocks.items old.body.items new.body.items
      (old.traps.items ++ trap_block (next_label old) kind place ∷ []) new.traps.items old.note
      new.note t.blocks t.body t.traps t.noted (record {
        named = proper.named;
        traps_named = named_append (length old.blocks.items + 1) old.traps.items _
            proper.traps_named (refl, tt);
        blocks = proper.blocks;
        traps = λ code around. joined_blocks code.tables code.blocks old.traps.items _
            (proper.traps code around)
            (trap_fits code.tables code.blocks (next_label old) kind place small placed, tt);
        body = proper.body;
        note = proper.note;
      })

  -- blocks behind the closed ones
  more_blocks : (closed more : List Block) → AreBlocksRound on closed closed
      → AreBlocksRound on (closed ++ more) more
      → AreBlocksRound on (closed ++ more) (closed ++ more)
  more_blocks closed more are behind = λ code around.
      joined_blocks code.tables code.blocks closed more
      (are code (around_front closed more code around)) (behind code around)

  fresh_proper : (closed : List Block) → AreNamed 0 closed → AreBlocksRound on closed closed
      → AreProper on closed [] [] note.Plain
  fresh_proper closed named are = record {
    named = named;
    traps_named = tt;
    blocks = are;
    traps = λ code around. tt;
    body = refl;
    note = λ code around. tt;
  }

  pub closes_proper : (old new : Output) (end : Term) → IsTrue (is_term (blocks_of on) end)
      → label old < 2 ^ 64 → Closes end old new → IsProper on old → IsProper on new
  closes_proper old new end is small c proper =
      let bs = old.blocks.items in
      let block : Block =
      record { name = name_of (label old); note = old.note; body = old.body.items; term = end } in
      let more : List Block = block ∷ old.traps.items in
      same_proper on (bs ++ more) new.blocks.items [] new.body.items [] new.traps.items note.Plain
      new.note c.blocks c.fresh.body c.fresh.traps c.fresh.plain
      (fresh_proper (bs ++ more)
      (named_behind bs more proper.named (refl, proper.traps_named))
      (more_blocks bs more proper.blocks (λ code around.
      let before : IsAround on bs code = around_front bs more code around in (
        record {
          name = name_is (label old) small;
          note = proper.note code before;
          body = instrs_of bs code old.body.items before proper.body;
          term = term_of bs code end before is;
        },
        proper.traps code before,
      ))))

  pub appends_proper : (old new : Output) (more : List Block) → AreNamed (label old) more
      → AreBlocksRound on (old.blocks.items ++ more) more → Appends more old new
      → IsProper on old → IsProper on new
  appends_proper old new more named are a proper =
      let bs = old.blocks.items in
      same_proper on (bs ++ more) new.blocks.items [] new.body.items [] new.traps.items note.Plain
      new.note a.blocks a.fresh.body a.fresh.traps a.fresh.plain
      (fresh_proper (bs ++ more) (named_behind bs more proper.named named)
      (more_blocks bs more proper.blocks are))

  pub readies_proper : (old new : Output) (to : ℕ)
      → ((code : Listing) → IsAround on old.blocks.items code
      → IsNote code.tables code.blocks (note.Ready to))
      → IsEmpty old → Readies to old new → IsProper on old → IsProper on new
  readies_proper old new to handler empty r proper =
      same_proper on old.blocks.items new.blocks.items [] new.body.items [] new.traps.items
      (note.Ready to) new.note r.blocks r.body r.traps r.noted (record {
        named = proper.named;
        traps_named = tt;
        blocks = proper.blocks;
        traps = λ code around. tt;
        body = refl;
        note = handler;
      })

-- ---- values

named_own : (own : Bool) (label : ℕ) (place : Place)
    → AreNamed label (cond own (trap_block label Divide place ∷ []) [])
named_own true label place = (refl, tt)
named_own false label place = tt

-- the trap blocks of two operands, and those behind them
named_two : (a b : Expr) (label : ℕ) (own : List Block) → AreNamed label (traps_of label a)
    → AreNamed (label + trap_count a) (traps_of (label + trap_count a) b)
    → AreNamed (label + trap_count a + trap_count b) own
    → AreNamed label (traps_of label a ++ (traps_of (label + trap_count a) b ++ own))
named_two a b label own first second last =
    let many : label + trap_count a ≡ label + length (traps_of label a) =
    omega (arith, length_traps a label) in
    let more : label + trap_count a + trap_count b
    ≡ label + trap_count a + length (traps_of (label + trap_count a) b) =
    omega (arith, length_traps b (label + trap_count a)) in
    named_append label (traps_of label a) _ first
    (subst (λ (n : ℕ). AreNamed n (traps_of (label + trap_count a) b ++ own)) many
    (named_append (label + trap_count a) (traps_of (label + trap_count a) b) own second
    (subst (λ (n : ℕ). AreNamed n own) more last)))

-- the trap blocks of an expression have the names of their labels
named_traps : (e : Expr) (label : ℕ) → AreNamed label (traps_of label e)
named_traps (Int n place) label = tt
named_traps (Var x) label = tt
named_traps (Cell' t p a q b) label =
    named_two a b label (trap_block (label + trap_count a + trap_count b) Index t.place ∷ [])
    (named_traps a label) (named_traps b (label + trap_count a)) (refl, tt)
named_traps (Rows t) label = tt
named_traps (Cols t) label = tt
named_traps (Neg' p a place) label = named_traps a label
named_traps (Bin' o place p a q b) label =
    named_two a b label
    (cond (can_trap o (literal b))
    (trap_block (label + trap_count a + trap_count b) Divide place ∷ []) [])
    (named_traps a label) (named_traps b (label + trap_count a))
    (named_own (can_trap o (literal b)) (label + trap_count a + trap_count b) place)

pub value_proper : (on : Body) (e : Expr) (old new : Output) → new.blocks.items ≡ old.blocks.items
    → AreInstrs on new.body.items → new.traps.items ≡ old.traps.items ++ traps_of (next_label old) e
    → new.note ≡ old.note → next_label old + trap_count e < 2 ^ 64 → IsPlaced e → IsProper on old
    → IsProper on new
value_proper on e old new closed are behind noted small placed proper =
    same_proper on old.blocks.items new.blocks.items new.body.items new.body.items
    (old.traps.items ++ traps_of (next_label old) e) new.traps.items old.note new.note closed refl
    behind noted (record {
      named = proper.named;
      traps_named = named_append (length old.blocks.items + 1) old.traps.items _
          proper.traps_named (named_traps e (next_label old));
      blocks = proper.blocks;
      traps = λ code around. joined_blocks code.tables code.blocks old.traps.items _
          (proper.traps code around)
          (traps_fit code.tables code.blocks e (next_label old) small placed);
      body = are;
      note = proper.note;
    })

-- ---- what is written, with what it stands on

pub kept_conforms : (old new : Lowering) → new.on ≡ old.on → new.scope ≡ old.scope
    → IsProper old.on new.out → Conforms old → Conforms new
kept_conforms old new on scope proper before = record {
  size = subst (λ (x : Body). x.size + value_cell MAX_PARAMETERS ≤ MAX_ACTIVATION_CELLS) (sym on)
      before.size;
  callees = subst (λ (x : Body). AllByRecursion (IsCallee x) x.callees.items) (sym on)
      before.callees;
  scope = subst (λ (x : Body). CanBeNamed x.tables new.scope) (sym on)
      (subst (λ (x : Scope). CanBeNamed old.on.tables x) (sym scope) before.scope);
  written = subst (λ (x : Body). IsProper x new.out) (sym on) proper;
}

pub pushed_conforms : (old new : Lowering) (instrs : List Instr) → AreInstrs old.on instrs
    → Pushes instrs old.out new.out → new.on ≡ old.on → new.scope ≡ old.scope → Conforms old
    → Conforms new
pushed_conforms old new instrs are p on scope before =
    kept_conforms old new on scope
    (pushes_proper old.on old.out new.out instrs are p before.written) before

-- ---- variables that become visible and leave

all_more : {X : Type 0} (P : X → Type 0) (xs : List X) (x : X) → AllByRecursion P xs → P x
    → AllByRecursion P (xs ++ x ∷ [])
all_more P [] x are is = (is, tt)
all_more P (y ∷ ys) x are is = (are.0, all_more P ys x are.1 is)

all_taken : {X : Type 0} (P : X → Type 0) (n : ℕ) (xs : List X) → AllByRecursion P xs
    → AllByRecursion P (take n xs)
all_taken P zero xs are = tt
all_taken P (suc n) [] are = tt
all_taken P (suc n) (x ∷ xs) are = (are.0, all_taken P n xs are.1)

pub declared_named : (tables : ℕ) (old new : Scope) (x : Vec ℕ Global × ℕ) → x.1 ≤ 511
    → new.cells.items ≡ old.cells.items ++ x ∷ [] → new.regs ≡ old.regs → new.tables ≡ old.tables
    → CanBeNamed tables old → CanBeNamed tables new
declared_named tables old new x low cells regs known before = record {
  cells = subst (λ (cs : List (Vec ℕ Global × ℕ)). AllByRecursion (λ c. c.1 ≤ 511) cs)
      (sym cells) (all_more (λ c. c.1 ≤ 511) old.cells.items x before.cells low);
  registers = subst (λ (rs : Vec (Vec ℕ Global × ℕ) Global).
      AllByRecursion (λ r. r.1 < 32) rs.items) (sym regs) before.registers;
  few_tables = subst (λ (ts : Vec (Vec ℕ Global) Global). length ts.items ≤ tables) (sym known)
      before.few_tables;
}

pub left_named : (tables n : ℕ) (old new : Scope) → new.cells.items ≡ take n old.cells.items
    → new.regs ≡ old.regs → new.tables ≡ old.tables → CanBeNamed tables old
    → CanBeNamed tables new
left_named tables n old new cells regs known before = record {
  cells = subst (λ (cs : List (Vec ℕ Global × ℕ)). AllByRecursion (λ c. c.1 ≤ 511) cs)
      (sym cells) (all_taken (λ c. c.1 ≤ 511) n old.cells.items before.cells);
  registers = subst (λ (rs : Vec (Vec ℕ Global × ℕ) Global).
      AllByRecursion (λ r. r.1 < 32) rs.items) (sym regs) before.registers;
  few_tables = subst (λ (ts : Vec (Vec ℕ Global) Global). length ts.items ≤ tables) (sym known)
      before.few_tables;
}

pub scoped_conforms : (old new : Lowering) → new.on ≡ old.on → new.out ≡ old.out
    → CanBeNamed old.on.tables new.scope → Conforms old → Conforms new
scoped_conforms old new on out named before = record {
  size = subst (λ (x : Body). x.size + value_cell MAX_PARAMETERS ≤ MAX_ACTIVATION_CELLS) (sym on)
      before.size;
  callees = subst (λ (x : Body). AllByRecursion (IsCallee x) x.callees.items) (sym on)
      before.callees;
  scope = subst (λ (x : Body). CanBeNamed x.tables new.scope) (sym on) named;
  written = subst (λ (x : Body). IsProper x new.out) (sym on)
      (subst (λ (x : Output). IsProper old.on x) (sym out) before.written);
}

-- ---- variables of a scope

pub visible_cell : (self : Lowering) (x : List ℕ) → Conforms self
    → offset_of self.scope x < MAX_ACTIVATION_CELLS
visible_cell self x before =
    omega (arith, offset_low self.scope.cells.items x before.scope.cells)

pub visible_register : (self : Lowering) (x : List ℕ) (r : ℕ) → Conforms self
    → register_of self.scope x ≡ Some r → r < REGISTERS
visible_register self x r before is =
    subst (λ (home : Option ℕ). IsRegister home) is
    (register_low self.scope.regs.items x before.scope.registers)

pub operand_of : (on new : Body) (v : Value) → new ≡ on → IsOperand on v → IsOperand new v
operand_of on new v same is = subst (λ (x : Body). IsOperand x v) (sym same) is

pub visible_table : (self : Lowering) (t : List ℕ) → Conforms self → HasTable self.scope t
    → table_number self.scope t < self.on.tables
visible_table self t before has =
    omega (arith, number_low self.scope.tables.items t has, before.scope.few_tables)

-- ---- opposites

abbrev pub IsKnownIf : Scope → Option Expr → Type 0
IsKnownIf scope None = ⊤
IsKnownIf scope (Some e) = IsKnown scope e

below_known : (scope : Scope) (turned same : BinOp) (place : Place) (p : Box (Unit {0}) Global)
    (a : Expr) (q : Box (Unit {0}) Global) (b : Expr) → IsIn scope a → IsIn scope b
    → IsTrue (is_place place) → IsPlaced a → IsPlaced b → (left right : Option ℤ)
    → IsKnownIf scope (of_below turned same place p a q b left right)
below_known scope turned same place p a q b one two placed first second (Some m) right =
    record { inside = (two, one); placed = (placed, second, first) }
below_known scope turned same place p a q b one two placed first second None (Some n) = tt
below_known scope turned same place p a q b one two placed first second None None =
    record { inside = (one, two); placed = (placed, first, second) }

pub opposite_known : (scope : Scope) (e : Expr) → IsKnown scope e → IsKnownIf scope (opposite e)
opposite_known scope (Int n place) k = tt
opposite_known scope (Var x) k = tt
opposite_known scope (Cell' t p a q b) k = tt
opposite_known scope (Rows t) k = tt
opposite_known scope (Cols t) k = tt
opposite_known scope (Neg' p a place) k = tt
opposite_known scope (Bin' op.Add place p a q b) k = tt
opposite_known scope (Bin' op.Sub place p a q b) k = tt
opposite_known scope (Bin' op.Mul place p a q b) k = tt
opposite_known scope (Bin' op.Div place p a q b) k = tt
opposite_known scope (Bin' op.Rem place p a q b) k = tt
opposite_known scope (Bin' op.Eq place p a q b) k =
    record { inside = k.inside; placed = k.placed }
opposite_known scope (Bin' op.Ne place p a q b) k =
    record { inside = k.inside; placed = k.placed }
opposite_known scope (Bin' op.Lt place p a q b) k =
    below_known scope op.Le op.Ge place p a q b k.inside.0 k.inside.1 k.placed.0 k.placed.1
    k.placed.2 (literal a) (literal b)
opposite_known scope (Bin' op.Le place p a q b) k =
    below_known scope op.Lt op.Gt place p a q b k.inside.0 k.inside.1 k.placed.0 k.placed.1
    k.placed.2 (literal a) (literal b)
opposite_known scope (Bin' op.Gt place p a q b) k =
    record { inside = k.inside; placed = k.placed }
opposite_known scope (Bin' op.Ge place p a q b) k =
    record { inside = k.inside; placed = k.placed }
