-- The merge of two sides, a word and a part more at a time.
use Rattle.std.proofs.Common.{◌≡◌, ℕ, suc, ◌+◌, ◌<◌, ◌≤◌, List, [], ◌∷◌, ◌++◌, length, get_or, drop}
use Rattle.std.proofs.Common.{refl, ap, sym, ◌∙◌, arith, add-one, length-drop}
use Rattle.std.proofs.Math.Seq.{drop-cons}
use Rattle.std.proofs.lemmas.List.{nil_from_length}
use Rattle.std.specs.Prelude.{slice_set}
use Rattle.slices.specs.Holding.{Holding, together}
use Rattle.tpal_syntax.specs.declared.words.Word.{Word}
use Rattle.tpal_machine.specs.Merge.{filled, renamed, put_together}
use Rattle.tpal_machine.specs.Reading.{table_at}

drop_past : {X : Type 0} (n : ℕ) (xs : List X) → length xs ≤ n → drop n xs ≡ []
drop_past n xs past = nil_from_length (drop n xs) (omega (arith, length-drop n xs))

-- the words left at a place where both lists go on
renamed_at : (ps : List (ℕ × ℕ)) (ws : List (ℕ × Word)) (at : ℕ) (p : ℕ × ℕ) (w : ℕ × Word) → at < length ps → at < length ws → renamed (drop at ps) (drop at ws) ≡ ((get_or ps at p).1, (get_or ws at w).1) ∷ renamed (drop (at + 1) ps) (drop (at + 1) ws)
renamed_at ps ws at p w in_names in_words =
    ap (λ l. renamed l (drop at ws)) (drop-cons ps at p in_names)
    ∙ ap (λ l. renamed (get_or ps at p ∷ drop (suc at) ps) l) (drop-cons ws at w in_words)
    ∙ ap (λ n. ((get_or ps at p).1, (get_or ws at w).1) ∷ renamed (drop n ps) (drop n ws)) (sym (add-one at))

-- one register more
pub renamed_more : (registers : List Word) (ps : List (ℕ × ℕ)) (ws : List (ℕ × Word)) (at : ℕ) (p : ℕ × ℕ) (w : ℕ × Word) → at < length ps → at < length ws → filled registers (renamed (drop at ps) (drop at ws)) ≡ filled (slice_set registers (get_or ps at p).1 (get_or ws at w).1) (renamed (drop (at + 1) ps) (drop (at + 1) ws))
renamed_more registers ps ws at p w in_names in_words = ap (filled registers) (renamed_at ps ws at p w in_names in_words)

renamed_none : (ps : List (ℕ × ℕ)) → renamed ps [] ≡ []
renamed_none [] = refl
renamed_none (p ∷ ps) = refl

-- no register more
pub names_end : (registers : List Word) (ps : List (ℕ × ℕ)) (ws : List (ℕ × Word)) (at : ℕ) → length ps ≤ at → filled registers (renamed (drop at ps) (drop at ws)) ≡ registers
names_end registers ps ws at past = ap (λ l. filled registers (renamed l (drop at ws))) (drop_past at ps past)

pub words_end : (registers : List Word) (ps : List (ℕ × ℕ)) (ws : List (ℕ × Word)) (at : ℕ) → length ws ≤ at → filled registers (renamed (drop at ps) (drop at ws)) ≡ registers
words_end registers ps ws at past = ap (λ l. filled registers (renamed (drop at ps) l)) (drop_past at ws past) ∙ ap (filled registers) (renamed_none (drop at ps))

-- one part more
pub together_more : (tables : List Holding) (ss : List (ℕ × Holding)) (s : ℕ × Holding) → put_together tables (ss ++ s ∷ []) ≡ slice_set (put_together tables ss) s.0 (together (table_at (put_together tables ss) s.0) s.1)
together_more tables [] s = refl
together_more tables (t ∷ ss) s = together_more (slice_set tables t.0 (together (table_at tables t.0) t.1)) ss s
