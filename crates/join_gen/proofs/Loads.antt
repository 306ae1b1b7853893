-- The loads of accumulators into registers, one after another.
use Rattle.std.proofs.Common.{◌≡◌, ℕ, suc, ◌+◌, ◌<◌, ◌≤◌, List, [], ◌∷◌, ◌++◌, length, refl, ap}
use Rattle.std.proofs.Common.{◌∙◌, arith}
use Rattle.std.proofs.lemmas.List.{length-set}
use Rattle.std.specs.Prelude.{pos, slice_set}
use Rattle.beat_count.specs.BeatState.{BeatState}
use Rattle.beat_count.specs.Heartbeat.{counted}
use Rattle.tp_value.specs.declared.Op.{Op}
use Rattle.tpal_syntax.specs.declared.instructions.Instr.{Instr}
use Rattle.tpal_syntax.specs.declared.instructions.Term.{Term}
use Rattle.tpal_syntax.specs.declared.words.Word.{Word}
use Rattle.tpal_syntax.specs.declared.words.Word.TheVariants.{Int}
use Rattle.tpal_syntax.specs.Listing.{Listing}
use Rattle.tpal_machine.specs.Ended.{words_of}
use Rattle.tpal_machine.specs.Reading.{register}
use Rattle.tpal_machine.specs.State.{State}
use Rattle.tpal_machine.proofs.Kit.{Back}
use Rattle.expr_lower.specs.Leaving.{moved}
use Rattle.expr_lower.specs.Standing.{Remains}
use Rattle.expr_lower.proofs.Keeping.{register_set, register_other}
use Rattle.handler_gen.specs.Blocks.{renames_from}
use Rattle.handler_gen.proofs.Straight.{loads}
use Rattle.join_gen.specs.Blocks.{loads_from}
use Rattle.join_gen.specs.LoopJoins.{HoldWords, words_from}

-- Registers behind the loads of accumulators, in those from one on: they are the words that a side hands over.
pub record AreLoaded (r : ℕ) (accs : List (ℕ × Op)) (values before words : List Word) : Type 0 where
  pub size : length words ≡ length before
  pub below : (q : ℕ) → q < r → register words q ≡ register before q
  pub above : (q : ℕ) → r + length accs ≤ q → register words q ≡ register before q
  pub handed : words_of words (renames_from r accs) ≡ words_from r values

one_loaded : (r : ℕ) (a : ℕ × Op) (accs : List (ℕ × Op)) (w : Word) (values before words : List Word) → r < length before → AreLoaded (r + 1) accs values (slice_set before r w) words → AreLoaded r (a ∷ accs) (w ∷ values) before words
one_loaded r a accs w values before words inside m = record {
  size = m.size ∙ length-set before r w;
  below = λ q h. m.below q (omega (arith, h)) ∙ register_other before r q w (λ e. absurd (omega (arith, e, h)));
  above = λ q h. m.above q (omega (arith, h)) ∙ register_other before r q w (λ e. absurd (omega (arith, e, h)));
  handed = ap (λ u. (r, u) ∷ words_of words (renames_from (r + 1) accs)) (m.below r (omega arith) ∙ register_set before r w inside) ∙ ap (λ l. (r, w) ∷ l) m.handed;
}

module _ (code : Listing) (heartbeat : ℕ) (K : Back code heartbeat) (end : Term) (s : State) (z : ℕ) (more : List Instr) where
  pub loads_all : (accs : List (ℕ × Op)) (values : List Word) (r : ℕ) (words : List Word) (beat : BeatState) (at : ℕ) → r + length accs ≤ 24 → length words ≡ 32 → register words 31 ≡ Int (pos z) → HoldWords s.stack z accs values
      → Remains code s.block at (loads_from r accs ++ more) end
      → ((others : List Word) (later : BeatState) (there : ℕ) → AreLoaded r accs values words others → Remains code s.block there more end → K.Holds (moved s others later there))
      → K.Holds (moved s words beat at)
  loads_all [] [] r words beat at few size base holds stands go = go words beat at (record { size = refl; below = λ q h. refl; above = λ q h. refl; handed = refl }) stands
  loads_all [] (w ∷ values) r words beat at few size base holds stands go = absurd holds
  loads_all (a ∷ accs) [] r words beat at few size base holds stands go = absurd holds
  loads_all (a ∷ accs) (w ∷ values) r words beat at few size base holds stands go =
      let after : List Word = slice_set words r w in
      let many : r + suc (length accs) ≤ 24 = few in
      let base_after : register after 31 ≡ Int (pos z) = register_other words r 31 w (λ e. absurd (omega (arith, e, many))) ∙ base in
      loads code heartbeat K end s words beat at (loads_from (r + 1) accs ++ more) r 31 a.0 (pos z) w stands base holds.0 (λ left.
      loads_all accs values (r + 1) after (counted beat) (at + 1) (omega (arith, many)) (length-set words r w ∙ size) base_after holds.1 left (λ others later there m left.
      go others later there (one_loaded r a accs w values words others (omega (arith, many, size)) m) left))
