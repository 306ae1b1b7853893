-- The line of a table is read exactly.
use Rattle.std.proofs.Common.{◌≡◌, ℕ, ◌≤◌, true, List, [], ◌∷◌, ◌++◌, Some, refl, ap, subst, ◌∙◌}
use Rattle.std.proofs.Common.{inl, inr, append_assoc, arith}
use Rattle.std.specs.Prelude.{codes}
use Rattle.std.specs.Fmt.{decimal}
use Rattle.tpal_syntax.specs.declared.blocks.CodeTable.{CodeTable}
use Rattle.tpal_syntax.specs.declared.blocks.CodeTable.TheVariants.{Input, Made}
use Rattle.tpal_syntax.specs.Parts.{is_word}
use Rattle.tpal_syntax.specs.Text.{table_line}
use Rattle.tpal_syntax.specs.Readers.{◌>>=◌, after, word_at}
use Rattle.tpal_print.proofs.Pieces.{number_comes, word_comes}
use Rattle.tpal_asm.specs.Reading.{ended, table_line_rest}
use Rattle.tpal_asm.proofs.Sound.{bind, chosen, after-sound, number-sound, word-sound, join3, join4}
use Rattle.tpal_asm.proofs.Sound.{same}
use Rattle.tpal_asm.proofs.Inside.{end_is}
use Rattle.tpal_asm.proofs.InsideFaults.{ended_is}

-- the name of an input is a word
abbrev pub IsNamed : CodeTable → Type 0
IsNamed (Input name) = is_word name ≡ true
IsNamed Made = Unit {0}

pub table_comes : (n : ℕ) (table : CodeTable) → n ≤ 16 → IsNamed table → (us : List ℕ) → codes "table t" ++ us ≡ table_line n table ++ (10 ∷ []) → ended (table_line_rest us) ≡ Some (n, table)
unfolding table_line_rest
table_comes n (Input name) few word us e =
    let is : us ≡ decimal n ++ (codes " input " ++ (name ++ (10 ∷ []))) = cc_tail us ((decimal n ++ (codes " input " ++ name)) ++ (10 ∷ [])) e ∙ append_assoc (decimal n) (codes " input " ++ name) (10 ∷ []) in
    ap (λ y. ended (table_line_rest y)) is ∙ rw (number_comes 16 n (codes " input " ++ (name ++ (10 ∷ []))) few (omega arith) refl, word_comes name (10 ∷ []) word refl) refl
  where
    cc_tail : (a b : List ℕ) → codes "table t" ++ a ≡ codes "table t" ++ b → a ≡ b
    cc_tail a b e = cc
table_comes n Made few word us e =
    let is : us ≡ decimal n ++ (codes " made" ++ (10 ∷ [])) = cc_tail us ((decimal n ++ codes " made") ++ (10 ∷ [])) e ∙ append_assoc (decimal n) (codes " made") (10 ∷ []) in
    ap (λ y. ended (table_line_rest y)) is ∙ rw (number_comes 16 n (codes " made" ++ (10 ∷ [])) few (omega arith) refl) refl
  where
    cc_tail : (a b : List ℕ) → codes "table t" ++ a ≡ codes "table t" ++ b → a ≡ b
    cc_tail a b e = cc

-- what is read of a table's line stands there
pub record SaidTable (bytes : List ℕ) (n : ℕ) (table : CodeTable) : Type 0 where
  pub named : IsNamed table
  pub spelled : bytes ≡ table_line n table

said_rest : (us : List ℕ) (r : (ℕ × CodeTable) × List ℕ) → table_line_rest us ≡ Some r → IsNamed r.0.1 × (codes "table t" ++ us ≡ table_line r.0.0 r.0.1 ++ r.1)
unfolding table_line_rest
said_rest us r e =
    let a = bind _ _ r e in
    let num = number-sound 16 us a.0.0 a.0.1 (omega arith) a.1 in
    let P : (ℕ × CodeTable) × List ℕ → Type 0 = λ p. IsNamed p.0.1 × (codes "table t" ++ us ≡ table_line p.0.0 p.0.1 ++ p.1) in
    elim (chosen {A = (ℕ × CodeTable) × List ℕ} (after (codes " made") a.0.1) (λ vs. Some ((a.0.0, Made), vs)) (after (codes " input ") a.0.1 >>= λ vs. word_at vs >>= λ w. Some ((a.0.0, Input w.0), w.1)) r a.2) [
      | inl h ↦ subst P (same ((a.0.0, Made), h.0) r h.2)
          (tt, ap (λ (x : List ℕ). codes "table t" ++ x) (num ∙ ap (λ (x : List ℕ). decimal a.0.0 ++ x) (after-sound (codes " made") a.0.1 h.0 h.1)) ∙ join3 (codes "table t") (decimal a.0.0) (codes " made") h.0)
      | inr e1 ↦ (let b = bind _ _ r e1 in
          let d = bind _ _ r b.2 in
          let w = word-sound b.0 d.0.0 d.0.1 d.1 in
          subst P (same ((a.0.0, Input d.0.0), d.0.1) r d.2)
          (w.1, ap (λ (x : List ℕ). codes "table t" ++ x) (num ∙ ap (λ (x : List ℕ). decimal a.0.0 ++ x) (after-sound (codes " input ") a.0.1 b.0 b.1 ∙ ap (λ (x : List ℕ). codes " input " ++ x) w.0)) ∙ join4 (codes "table t") (decimal a.0.0) (codes " input ") d.0.0 d.0.1))
    ]

pub table-said : (bytes us : List ℕ) (n : ℕ) (table : CodeTable) → bytes ++ (10 ∷ []) ≡ codes "table t" ++ us → ended (table_line_rest us) ≡ Some (n, table) → SaidTable bytes n table
table-said bytes us n table line read =
    let e = ended_is (table_line_rest us) (n, table) read in
    let s = said_rest us ((n, table), e.0) e.1 in
    record { named = s.0; spelled = end_is bytes (table_line n table) e.0 (line ∙ s.1) e.2 }
