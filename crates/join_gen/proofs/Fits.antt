-- The blocks of joins meet the conditions on blocks of a code.
use Rattle.std.proofs.Common.{◌≡◌, ◌≢◌, ℕ, suc, ◌+◌, ◌<◌, ◌≤◌, Bool, true, false, not, All, List}
use Rattle.std.proofs.Common.{[], ◌∷◌, ◌++◌, length, refl, ap, arith}
use Rattle.std.proofs.lemmas.Bool.Decides.{nat_tests}
use Rattle.std.proofs.lemmas.List.Elements.{All-head, All-tail}
use Rattle.std.specs.List.{list_all}
use Rattle.std.specs.Prelude.{pos, ◌&&◌, ◌==◌, nat_lt, nat_le, AllPairs}
use Rattle.tp_value.specs.declared.Op.{Op}
use Rattle.tpal_syntax.specs.Conditions.{IsTarget, is_renamed, are_apart, are_distinct_names}
use Rattle.tpal_syntax.specs.Conditions.{are_distinct_tables}
use Rattle.tpal_syntax.specs.declared.blocks.Block.{Block}
use Rattle.tpal_syntax.specs.declared.blocks.CodeTable.{CodeTable}
use Rattle.tpal_syntax.specs.declared.instructions.Instr.{Instr}
use Rattle.tpal_syntax.specs.declared.notes.CarryAt.{CarryAt}
use Rattle.tpal_syntax.specs.declared.notes.CarryAt.TheVariants as carry
use Rattle.tpal_syntax.specs.declared.sites.CallSite.{CallSite}
use Rattle.tpal_syntax.specs.declared.sites.LoopSite.{LoopSite}
use Rattle.tpal_syntax.specs.Parts.{is_instr, is_carry, is_number, table_of}
use Rattle.handler_gen.specs.Blocks.{renames_from, loop_target, call_target}
use Rattle.expr_lower.specs.Fitting.{AreBlocksOf}
use Rattle.handler_gen.specs.Fitting.{HasLoopPlaces, HasCallPlaces}
use Rattle.handler_gen.specs.Sites.{IsLowCarry, IsLoopSite, IsCallSite, call_cells, target_label}
use Rattle.handler_gen.specs.Sites.{comb_label, side_label, over_label, child_end_label}
use Rattle.handler_gen.specs.Sites.{left_end_label, joined_label}
use Rattle.expr_lower.proofs.FittingBlocks.{name_is}
use Rattle.handler_gen.proofs.Fits.{both, offset_is}
use Rattle.handler_gen.proofs.Marks.{lt_true}
use Rattle.handler_gen.proofs.Offsets.{cells_of, accs_in}
use Rattle.join_gen.specs.Blocks.{loads_from, combines_from, loop_join_blocks, call_join_blocks}
use Rattle.join_gen.specs.Blocks.{child_end_block}

-- ---- renamings

different : (m n : ℕ) → m ≢ n → (m == n) ≡ false
different m n ne = grind (arith, nat_tests)

renamed_is : (r : ℕ) → r < 30 → is_renamed r ≡ true
renamed_is r low =
    both (nat_lt r 32 && not (r == 30)) (not (r == 31))
    (both (nat_lt r 32) (not (r == 30)) (lt_true r 32 (omega (arith, low))) (ap not (different r 30 (λ e. absurd (omega (arith, e, low))))))
    (ap not (different r 31 (λ e. absurd (omega (arith, e, low)))))

-- two renamings of four registers
apart_is : (a b c d : ℕ) → a ≢ c → b ≢ d → a ≢ d → b ≢ c → are_apart (a, b) (c, d) ≡ true
apart_is a b c d ac bd ad bc = rw (different a c ac) (rw (different b d bd) (rw (different a d ad) (rw (different b c bc) refl)))

abbrev both_renamed : ℕ × ℕ → Bool
both_renamed p = is_renamed p.0 && is_renamed p.1

-- the renamings of accumulators from a register on, and that of the record
abbrev renames : ℕ → List (ℕ × Op) → List (ℕ × ℕ)
renames r accs = renames_from r accs ++ (24, 25) ∷ []

all_renamed : (accs : List (ℕ × Op)) (r : ℕ) → r + length accs ≤ 8 → list_all both_renamed (renames r accs) ≡ true
all_renamed [] r few = refl
all_renamed (a ∷ accs) r few =
    let many : r + suc (length accs) ≤ 8 = few in
    both (both_renamed (r, 8 + r)) (list_all both_renamed (renames (r + 1) accs)) (both (is_renamed r) (is_renamed (8 + r)) (renamed_is r (omega (arith, many))) (renamed_is (8 + r) (omega (arith, many)))) (all_renamed accs (r + 1) (omega (arith, many)))

all_apart : (accs : List (ℕ × Op)) (q r : ℕ) → q < r → r + length accs ≤ 8 → list_all (are_apart (q, 8 + q)) (renames r accs) ≡ true
all_apart [] q r below few =
    both (are_apart (q, 8 + q) (24, 25)) true
    (apart_is q (8 + q) 24 25 (λ e. absurd (omega (arith, e, below, few))) (λ e. absurd (omega (arith, e, below, few))) (λ e. absurd (omega (arith, e, below, few))) (λ e. absurd (omega (arith, e, below, few)))) refl
all_apart (a ∷ accs) q r below few =
    let many : r + suc (length accs) ≤ 8 = few in
    both (are_apart (q, 8 + q) (r, 8 + r)) (list_all (are_apart (q, 8 + q)) (renames (r + 1) accs))
    (apart_is q (8 + q) r (8 + r) (λ e. absurd (omega (arith, e, below))) (λ e. absurd (omega (arith, e, below))) (λ e. absurd (omega (arith, e, below, many))) (λ e. absurd (omega (arith, e, below, many))))
    (all_apart accs q (r + 1) (omega (arith, below)) (omega (arith, many)))

all_distinct : (accs : List (ℕ × Op)) (r : ℕ) → r + length accs ≤ 8 → are_distinct_names (renames r accs) ≡ true
all_distinct [] r few = refl
all_distinct (a ∷ accs) r few =
    let many : r + suc (length accs) ≤ 8 = few in
    both (not (r == 8 + r) && list_all (are_apart (r, 8 + r)) (renames (r + 1) accs)) (are_distinct_names (renames (r + 1) accs))
    (both (not (r == 8 + r)) (list_all (are_apart (r, 8 + r)) (renames (r + 1) accs)) (ap not (different r (8 + r) (λ e. absurd (omega (arith, e))))) (all_apart accs r (r + 1) (omega arith) (omega (arith, many))))
    (all_distinct accs (r + 1) (omega (arith, many)))

-- ---- carries

carry_is : (tables : ℕ) (c : CarryAt) → IsLowCarry c → table_of c < tables → is_carry tables c ≡ true
carry_is tables (carry.Rows table at) low there = both (nat_lt table tables) (nat_lt at 32) (lt_true table tables there) (lt_true at 32 (omega (arith, low.1)))
carry_is tables (carry.Cells table row at) low there =
    both (nat_lt table tables && nat_lt row 32) (nat_lt at 32) (both (nat_lt table tables) (nat_lt row 32) (lt_true table tables there) (lt_true row 32 (omega (arith, low.1)))) (lt_true at 32 (omega (arith, low.2)))

carries_are : (tables : ℕ) (carries : List CarryAt) → All IsLowCarry carries → All (λ c. table_of c < tables) carries → list_all (is_carry tables) carries ≡ true
carries_are tables [] low there = refl
carries_are tables (c ∷ carries) low there =
    both (is_carry tables c) (list_all (is_carry tables) carries) (carry_is tables c (All-head IsLowCarry c carries low) (All-head (λ (d : CarryAt). table_of d < tables) c carries there))
    (carries_are tables carries (All-tail IsLowCarry c carries low) (All-tail (λ (d : CarryAt). table_of d < tables) c carries there))

abbrev Differ : List CarryAt → Type 0
Differ carries = AllPairs (λ c d. table_of c ≢ table_of d) carries

others_differ : (c : CarryAt) (carries : List CarryAt) → All (λ d. table_of c ≢ table_of d) carries → list_all (λ d. not (table_of c == table_of d)) carries ≡ true
others_differ c [] differ = refl
others_differ c (d ∷ carries) differ =
    both (not (table_of c == table_of d)) (list_all (λ e. not (table_of c == table_of e)) carries) (ap not (different (table_of c) (table_of d) (All-head (λ (e : CarryAt). table_of c ≢ table_of e) d carries differ)))
    (others_differ c carries (All-tail (λ (e : CarryAt). table_of c ≢ table_of e) d carries differ))

tables_differ : (carries : List CarryAt) → Differ carries → are_distinct_tables carries ≡ true
tables_differ [] differ = refl
tables_differ (c ∷ carries) differ =
    both (list_all (λ d. not (table_of c == table_of d)) carries) (are_distinct_tables carries) (others_differ c carries (λ i d below. differ 0 (suc i) d (omega arith) (omega (arith, below))))
    (tables_differ carries (λ i j d less below. differ (suc i) (suc j) d (omega (arith, less)) (omega (arith, below))))

-- ---- instructions

module _ (tables : List CodeTable) (all : List Block) where
  abbrev fits : Instr → Bool
  fits i = is_instr (length tables) (length all) i

  loads_fit : (accs : List (ℕ × Op)) (r cells : ℕ) → r + length accs ≤ 24 → cells ≤ 512 → All (λ off. off < cells) (cells_of accs) → list_all fits (loads_from r accs) ≡ true
  loads_fit [] r cells few small inside = refl
  loads_fit (a ∷ accs) r cells few small inside =
      let many : r + suc (length accs) ≤ 24 = few in
      both ((nat_lt r 32 && true) && nat_le a.0 511) (list_all fits (loads_from (r + 1) accs))
      (both (nat_lt r 32 && true) (nat_le a.0 511) (both (nat_lt r 32) true (lt_true r 32 (omega (arith, many))) refl) (offset_is a.0 cells (All-head (λ (off : ℕ). off < cells) a.0 (cells_of accs) inside) small))
      (loads_fit accs (r + 1) cells (omega (arith, many)) small (All-tail (λ (off : ℕ). off < cells) a.0 (cells_of accs) inside))

  combines_fit : (accs : List (ℕ × Op)) (r cells : ℕ) → r + length accs ≤ 8 → cells ≤ 512 → All (λ off. off < cells) (cells_of accs) → list_all fits (combines_from r accs) ≡ true
  combines_fit [] r cells few small inside = refl
  combines_fit (a ∷ accs) r cells few small inside =
      let many : r + suc (length accs) ≤ 8 = few in
      let register : nat_lt r 32 ≡ true = lt_true r 32 (omega (arith, many)) in
      let offset : nat_le a.0 511 ≡ true = offset_is a.0 cells (All-head (λ (off : ℕ). off < cells) a.0 (cells_of accs) inside) small in
      both ((nat_lt r 32 && nat_lt r 32) && nat_lt (8 + r) 32) ((nat_le a.0 511 && nat_lt r 32) && list_all fits (combines_from (r + 1) accs))
      (both (nat_lt r 32 && nat_lt r 32) (nat_lt (8 + r) 32) (both (nat_lt r 32) (nat_lt r 32) register register) (lt_true (8 + r) 32 (omega (arith, many))))
      (both (nat_le a.0 511 && nat_lt r 32) (list_all fits (combines_from (r + 1) accs)) (both (nat_le a.0 511) (nat_lt r 32) offset register)
      (combines_fit accs (r + 1) cells (omega (arith, many)) small (All-tail (λ (off : ℕ). off < cells) a.0 (cells_of accs) inside)))

  -- ---- blocks

  module _ (site : LoopSite) (right : IsLoopSite site) (places : HasLoopPlaces site tables all) where
    target_fits : IsTarget (length tables) (length all) (loop_target site)
    target_fits = record {
      registers = all_renamed site.accs 0 (omega (arith, right.few_accs));
      names_differ = all_distinct site.accs 0 (omega (arith, right.few_accs));
      comb_is_block = omega (arith, places.none);
      few_carries = right.few_carries;
      carries = carries_are (length tables) site.carries right.carries places.carried;
      tables_differ = tables_differ site.carries right.tables_differ;
    }

    pub loop_join_fits : AreBlocksOf tables all (loop_join_blocks site)
    loop_join_fits = (
      record { name = name_is (target_label site.label) (omega (arith, right.label)); note = target_fits; body = refl; term = lt_true (over_label site.label) (length all) (omega (arith, places.none)) },
      (
        record { name = name_is (comb_label site.label) (omega (arith, right.label)); note = tt; body = combines_fit site.accs 0 site.cells (omega (arith, right.few_accs)) right.cells (accs_in site right); term = refl },
        (record { name = name_is (side_label site.label) (omega (arith, right.label)); note = tt; body = loads_fit site.accs 0 site.cells (omega (arith, right.few_accs)) right.cells (accs_in site right); term = refl }, tt),
      ),
    )

  module _ (site : CallSite) (right : IsCallSite site) (places : HasCallPlaces site all) where
    call_target_fits : IsTarget (length tables) (length all) (call_target site)
    call_target_fits = record {
      registers = refl;
      names_differ = refl;
      comb_is_block = omega (arith, places.joined);
      few_carries = omega arith;
      carries = refl;
      tables_differ = refl;
    }

    child_end_fits : list_all fits (child_end_block site).body ≡ true
    child_end_fits =
        let rec_in : site.rec < site.cells = All-head (λ (off : ℕ). off < site.cells) site.rec site.args (All-tail (λ (off : ℕ). off < site.cells) site.mark (call_cells site) right.offsets) in
        both (is_number (pos site.cells)) (nat_le site.rec 511 && true) (lt_true site.cells 9223372036854775808 (omega (arith, right.cells)))
        (both (nat_le site.rec 511) true (offset_is site.rec site.cells rec_in right.cells) refl)

    pub call_join_fits : AreBlocksOf tables all (call_join_blocks site)
    call_join_fits = (
      record { name = name_is (target_label site.label) (omega (arith, right.label)); note = call_target_fits; body = refl; term = lt_true (joined_label site.label) (length all) places.joined },
      (
        record { name = name_is (comb_label site.label) (omega (arith, right.label)); note = tt; body = refl; term = refl },
        (
          record { name = name_is (child_end_label site.label) (omega (arith, right.label)); note = tt; body = child_end_fits; term = refl },
          (record { name = name_is (left_end_label site.label) (omega (arith, right.label)); note = tt; body = refl; term = refl }, tt),
        ),
      ),
    )
