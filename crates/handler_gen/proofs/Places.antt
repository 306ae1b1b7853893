-- The moves of the place of a cut to the registers of carries, and where the tables are cut then.
use Rattle.std.proofs.Common.{◌≡◌, ◌≢◌, ℕ, ◌+◌, ◌<◌, ◌≤◌, Bool, true, false, All, List, [], ◌∷◌}
use Rattle.std.proofs.Common.{◌++◌, length, Ok, refl, ap, ◌∙◌, arith}
use Rattle.std.proofs.lemmas.Bool.Decides.{nat_tests}
use Rattle.std.proofs.lemmas.List.{length-set}
use Rattle.std.proofs.lemmas.List.Elements.{All-head, All-tail, All-nil, All-cons}
use Rattle.std.specs.Prelude.{ℤ, ⊤, nat_eq, slice_set}
use Rattle.beat_count.specs.BeatState.{BeatState}
use Rattle.beat_count.specs.Heartbeat.{counted}
use Rattle.tpal_syntax.specs.declared.instructions.Instr.{Instr}
use Rattle.tpal_syntax.specs.declared.instructions.Term.{Term}
use Rattle.tpal_syntax.specs.declared.instructions.Value.TheVariants as value
use Rattle.tpal_syntax.specs.declared.notes.CarryAt.{CarryAt}
use Rattle.tpal_syntax.specs.declared.notes.CarryAt.TheVariants as carry
use Rattle.tpal_syntax.specs.declared.words.Word.{Word}
use Rattle.tpal_syntax.specs.declared.words.Word.TheVariants.{Int}
use Rattle.tpal_syntax.specs.Listing.{Listing}
use Rattle.tpal_machine.specs.Calculation.{on_number}
use Rattle.tpal_machine.specs.declared.cut.TableCut.TheVariants.{ByRows, ByCells}
use Rattle.tpal_machine.specs.Cut.{carried, carried_at, with_cut}
use Rattle.tpal_machine.specs.Reading.{register}
use Rattle.tpal_machine.specs.State.{State}
use Rattle.tpal_machine.proofs.Kit.{Back}
use Rattle.expr_lower.specs.Leaving.{moved}
use Rattle.expr_lower.specs.Standing.{Remains}
use Rattle.expr_lower.proofs.Keeping.{register_set, register_other}
use Rattle.handler_gen.specs.Blocks.{cut_places}
use Rattle.handler_gen.specs.LoopCuts.{HasRow, table_cut, table_cuts, number_of}
use Rattle.handler_gen.specs.Sites.{at_of, IsLowCarry, IsNoRow}
use Rattle.handler_gen.proofs.Straight.{moves}

-- the register of a low carry is low
low_at : (c : CarryAt) → IsLowCarry c → at_of c < 24
low_at (carry.Rows table at) h = h.1
low_at (carry.Cells table row at) h = h.2

-- Registers behind the moves for these carries: those of the carries have the place, and no others changed.
pub record AreMoved (place : Word) (carries : List CarryAt) (before words : List Word) : Type 0 where
  pub size : length words ≡ length before
  pub others : (r : ℕ) → All (λ c. r ≢ at_of c) carries → register words r ≡ register before r
  pub stay : (r : ℕ) → register before r ≡ place → register words r ≡ place
  pub placed : All (λ c. register words (at_of c) ≡ place) carries

none_moved : (place : Word) (words : List Word) → AreMoved place [] words words
none_moved place words = record { size = refl; others = λ r h. refl; stay = λ r h. h; placed = All-nil (λ (c : CarryAt). register words (at_of c) ≡ place) }

one_moved : (place : Word) (c : CarryAt) (carries : List CarryAt) (before words : List Word) → at_of c < length before → AreMoved place carries (slice_set before (at_of c) place) words → AreMoved place (c ∷ carries) before words
one_moved place c carries before words inside m = record {
  size = m.size ∙ length-set before (at_of c) place;
  others = λ r h. m.others r (All-tail (λ (d : CarryAt). r ≢ at_of d) c carries h) ∙ register_other before (at_of c) r place (All-head (λ (d : CarryAt). r ≢ at_of d) c carries h);
  stay = λ r h. m.stay r (still r h);
  placed = All-cons (λ (d : CarryAt). register words (at_of d) ≡ place) c carries (m.stay (at_of c) (register_set before (at_of c) place inside)) m.placed;
}
  where
    still : (r : ℕ) → register before r ≡ place → register (slice_set before (at_of c) place) r ≡ place
    still r h = by_test (nat_eq r (at_of c)) refl
      where
        by_test : (b : Bool) → nat_eq r (at_of c) ≡ b → register (slice_set before (at_of c) place) r ≡ place
        by_test true e =
            let same : r ≡ at_of c = grind (arith, nat_tests) in
            ap (λ (q : ℕ). register (slice_set before (at_of c) place) q) same ∙ register_set before (at_of c) place inside
        by_test false e =
            let apart : r ≢ at_of c = grind (arith, nat_tests) in
            register_other before (at_of c) r place apart ∙ h

module _ (code : Listing) (heartbeat : ℕ) (K : Back code heartbeat) (end : Term) (s : State) (place : Word) (more : List Instr) where
  -- the moves, one after another
  pub moves_all : (carries : List CarryAt) (words : List Word) (beat : BeatState) (at : ℕ) → All IsLowCarry carries → length words ≡ 32 → register words 25 ≡ place
      → Remains code s.block at (cut_places carries ++ more) end
      → ((others : List Word) (later : BeatState) (there : ℕ) → AreMoved place carries words others → later.quiet ≡ beat.quiet → later.granted ≡ beat.granted → Remains code s.block there more end → K.Holds (moved s others later there))
      → K.Holds (moved s words beat at)
  moves_all [] words beat at low size is stands go = go words beat at (none_moved place words) refl refl stands
  moves_all (c ∷ carries) words beat at low size is stands go =
      let inside : at_of c < 24 = low_at c (All-head IsLowCarry c carries low) in
      let after : List Word = slice_set words (at_of c) place in
      let size_after : length after ≡ 32 = length-set words (at_of c) place ∙ size in
      let is_after : register after 25 ≡ place = register_other words (at_of c) 25 place (λ e. absurd (omega (arith, e, inside))) ∙ is in
      moves code heartbeat K end s words beat at (cut_places carries ++ more) (at_of c) (value.Reg 25) place stands is (λ left.
      moves_all carries after (counted beat) (at + 1) (All-tail IsLowCarry c carries low) size_after is_after left (λ others later there m quiet granted stands_there.
      go others later there (one_moved place c carries words others (omega (arith, size, inside)) m) quiet granted stands_there))

-- ---- tables

-- the register of a carry's row, if it has one, is as before
abbrev HasSameRow : List Word → List Word → CarryAt → Type 0
HasSameRow before words (carry.Rows table at) = ⊤
HasSameRow before words (carry.Cells table row at) = register words row ≡ register before row

same_row : (place : Word) (carries : List CarryAt) (old before words : List Word) → AreMoved place carries before words → ((r : ℕ) → r < 24 → register before r ≡ register old r) → (c : CarryAt) → IsLowCarry c → All (λ d. IsNoRow c (at_of d)) carries → HasSameRow old words c
same_row place carries old before words m same (carry.Rows table at) low stays = tt
same_row place carries old before words m same (carry.Cells table row at) low stays = m.others row stays ∙ same row low.1

one_carried : (before words : List Word) (middle : ℤ) (c : CarryAt) → HasRow before c → HasSameRow before words c → register words (at_of c) ≡ Int middle → carried_at words c ≡ Ok (table_cut before middle c)
one_carried before words middle (carry.Rows table at) row same placed = ap (λ w. on_number w (λ i. Ok (table, ByRows i))) placed
one_carried before words middle (carry.Cells table row at) is same placed =
    ap (λ w. on_number w (λ i. on_number (register words at) (λ j. Ok (table, ByCells i j)))) (same ∙ is)
    ∙ ap (λ w. on_number w (λ j. Ok (table, ByCells (number_of (register before row)) j))) placed

-- the tables are cut at the place that the registers have, in the rows that they had
module _ (middle : ℤ) (all : List CarryAt) (old before words : List Word) (m : AreMoved (Int middle) all before words) (same : (r : ℕ) → r < 24 → register before r ≡ register old r) where
  carried_each : (carries : List CarryAt) → All IsLowCarry carries → All (HasRow old) carries → All (λ c. All (λ d. IsNoRow c (at_of d)) all) carries → All (λ c. register words (at_of c) ≡ Int middle) carries
      → carried words carries ≡ Ok (table_cuts old middle carries)
  carried_each [] low rows stay placed = refl
  carried_each (c ∷ carries) low rows stay placed =
      let row : HasSameRow old words c = same_row (Int middle) all old before words m same c (All-head IsLowCarry c carries low) (All-head (λ (d : CarryAt). All (λ (e : CarryAt). IsNoRow d (at_of e)) all) c carries stay) in
      let one : carried_at words c ≡ Ok (table_cut old middle c) = one_carried old words middle c (All-head (HasRow old) c carries rows) row (All-head (λ (d : CarryAt). register words (at_of d) ≡ Int middle) c carries placed) in
      let rest : carried words carries ≡ Ok (table_cuts old middle carries) =
      carried_each carries (All-tail IsLowCarry c carries low) (All-tail (HasRow old) c carries rows) (All-tail (λ (d : CarryAt). All (λ (e : CarryAt). IsNoRow d (at_of e)) all) c carries stay) (All-tail (λ (d : CarryAt). register words (at_of d) ≡ Int middle) c carries placed) in
      ap (λ r. with_cut r (carried words carries)) one ∙ ap (with_cut (Ok (table_cut old middle c))) rest

  pub are_carried : All IsLowCarry all → All (HasRow old) all → All (λ c. All (λ d. IsNoRow c (at_of d)) all) all → carried words all ≡ Ok (table_cuts old middle all)
  are_carried low rows stay = carried_each all low rows stay m.placed

-- a register above those of carries isn't one of them
pub apart_high : (carries : List CarryAt) (r : ℕ) → 24 ≤ r → All IsLowCarry carries → All (λ c. r ≢ at_of c) carries
apart_high [] r from low = All-nil (λ (c : CarryAt). r ≢ at_of c)
apart_high (c ∷ carries) r from low =
    let inside : at_of c < 24 = low_at c (All-head IsLowCarry c carries low) in
    All-cons (λ (d : CarryAt). r ≢ at_of d) c carries (λ e. absurd (omega (arith, e, inside, from))) (apart_high carries r from (All-tail IsLowCarry c carries low))
