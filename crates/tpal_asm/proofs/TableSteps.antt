-- From a draft before all blocks to the next by the line of a table.
use Rattle.std.proofs.Common.{◌≡◌, ℕ, ◌≤◌, true, List, [], ◌∷◌, ◌++◌, length, Some, sym, ap}
use Rattle.std.proofs.Common.{subst, ◌∙◌, inl, inr, length-append, arith}
use Rattle.std.specs.Prelude.{codes}
use Rattle.tpal_syntax.specs.declared.notes.Note.{Note}
use Rattle.tpal_syntax.specs.declared.blocks.CodeTable.{CodeTable}
use Rattle.tpal_syntax.specs.declared.blocks.CodeTable.TheVariants.{Input, Made}
use Rattle.tpal_syntax.specs.Parts.{is_word}
use Rattle.tpal_syntax.specs.declared.versions.Version.{Version}
use Rattle.tpal_syntax.specs.declared.versions.Version.TheVariants.{One, Two}
use Rattle.tpal_syntax.specs.Text.{table_line, header_text, number_text, note_text}
use Rattle.tpal_syntax.specs.Readers.{word_at}
use Rattle.tpal_print.proofs.Pieces.{word_comes}
use Rattle.tpal_print.proofs.Whole.{name_stops}
use Rattle.tpal_asm.specs.Reading.{ended, table_line_rest}
use Rattle.tpal_asm.specs.Labels.{Head, names_of}
use Rattle.tpal_asm.specs.Drafts.{IsNewTable, Draft, Outside, Says, a_table, IsWithin}
use Rattle.tpal_asm.specs.Faults.{IsFormed, IsLabelled, IsRight}
use Rattle.tpal_asm.specs.Steps.{IsUnrepeated}
use Rattle.tpal_asm.proofs.TableLine.{IsNamed, table-said, table_comes}
use Rattle.tpal_asm.proofs.Outside.{outside_says}
use Rattle.tpal_asm.proofs.HeaderLine.{header_split}
use Rattle.tpal_asm.proofs.Sound.{same}

abbrev first : List ℕ → ℕ
first [] = 0
first (b ∷ bytes) = b

abbrev second : List ℕ → ℕ
second [] = 0
second (b ∷ bytes) = first bytes

-- what stands behind a block's name doesn't begin as what stands behind the word `table` does
no_number : (v : Version) (n : ℕ) (a b : List ℕ) → 32 ∷ 116 ∷ a ≡ number_text v n ++ (58 ∷ b) → ⊥
no_number One n a b e = let other : 32 ≡ 58 = ap first e in absurd (omega (arith, other))
no_number Two n a b e = let other : 116 ≡ 35 = ap second e in absurd (omega (arith, other))

-- the first line of a block begins with no `table t`
pub no_header : (v : Version) (names : List (List ℕ)) (n : ℕ) (name us : List ℕ) (x : Note) → is_word name ≡ true → header_text v names n name x ++ (10 ∷ []) ≡ codes "table t" ++ us → ⊥
unfolding word_at
no_header v names n name us x word e =
    let rest = 32 ∷ (note_text names x ++ (10 ∷ [])) in
    let behind = number_text v n ++ (58 ∷ rest) in
    let one : word_at (codes "table t" ++ us) ≡ Some (name, behind) = ap word_at (sym e ∙ header_split v names n name x) ∙ word_comes name behind word (name_stops v n rest) in
    no_number v n us rest (ap (λ (p : List ℕ × List ℕ). p.1) (same (codes "table", 32 ∷ 116 ∷ us) (name, behind) one))

new_of : (tables : List CodeTable) (table : CodeTable) → IsNamed table → IsUnrepeated tables table → IsNewTable tables table
new_of tables (Input name) word new = (word, new)
new_of tables Made word new = tt

pub named_of : (tables : List CodeTable) (table : CodeTable) → IsNewTable tables table → IsNamed table
named_of tables (Input name) new = new.0
named_of tables Made new = tt

unrepeated_of : (tables : List CodeTable) (table : CodeTable) → IsNewTable tables table → IsUnrepeated tables table
unrepeated_of tables (Input name) new = new.1
unrepeated_of tables Made new = tt

module _ (v : Version) (heads : List Head) (tables : List CodeTable) (few : length tables ≤ 16) (us bytes : List ℕ) (line : bytes ++ (10 ∷ []) ≡ codes "table t" ++ us) where
  -- whatever the line says is a table
  is_table : (names : List (List ℕ)) (next : Draft) → Says v heads names (Outside tables []) bytes next
      → (table : CodeTable) × IsNewTable tables table × (bytes ≡ table_line (length tables) table) × (next ≡ Outside (tables ++ table ∷ []) [])
  is_table names next says = elim (outside_says says) [
    | inl h ↦ (h.0, h.1, h.2, h.3)
    | inr h ↦ absurd (no_header v names 0 h.0 us h.1 h.2 (ap (λ (y : List ℕ). y ++ (10 ∷ [])) (sym h.4) ∙ line))
  ]

  pub table_right : (names : List (List ℕ)) (table : CodeTable) → ended (table_line_rest us) ≡ Some (length tables, table) → IsUnrepeated tables table → Says v heads names (Outside tables []) bytes (Outside (tables ++ table ∷ []) [])
  table_right names table read new =
      let s = table-said bytes us (length tables) table line read in
      let P : List ℕ → Type 0 = λ y. Says v heads names (Outside tables []) y (Outside (tables ++ table ∷ []) []) in
      subst P (sym s.spelled) (a_table tables table (new_of tables table s.named new))

  pub table_unformed : ((table : CodeTable) → ended (table_line_rest us) ≡ Some (length tables, table) → ¬ IsUnrepeated tables table) → ¬ IsFormed v heads (Outside tables []) bytes
  table_unformed bad formed =
      let t = is_table formed.names formed.next formed.says in
      bad t.0 (table_comes (length tables) t.0 few (named_of tables t.0 t.1) us (sym line ∙ ap (λ (y : List ℕ). y ++ (10 ∷ [])) t.2)) (unrepeated_of tables t.0 t.1)

  pub table_labelled : (table : CodeTable) → ended (table_line_rest us) ≡ Some (length tables, table) → IsUnrepeated tables table → IsLabelled v heads (Outside tables []) bytes
  table_labelled table read new = record { next = Outside (tables ++ table ∷ []) []; says = table_right (names_of heads) table read new; new = tt }

  pub table_many : 16 ≤ length tables → ¬ IsRight v heads (Outside tables []) bytes
  table_many many right =
      let t = is_table (names_of heads) right.next right.says in
      let P : Draft → Type 0 = λ s. IsWithin s in
      let w : IsWithin (Outside (tables ++ t.0 ∷ []) []) = subst P t.3 right.within in
      omega (arith, w.0, length-append tables (t.0 ∷ []))
