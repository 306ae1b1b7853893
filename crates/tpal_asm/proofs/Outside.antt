-- Lines behind tables alone or behind a whole block.
use Rattle.std.proofs.Common.{◌≡◌, ◌⊎◌, ℕ, suc, ◌+◌, ◌≤◌, Bool, true, false, cond, ltb, eqb, ◌&&◌}
use Rattle.std.proofs.Common.{◌||◌, List, [], ◌∷◌, ◌++◌, length, Some, None, refl, sym, ap, ◌∙◌}
use Rattle.std.proofs.Common.{inl, inr, arith}
use Rattle.std.specs.Prelude.{codes, not, bytes_eq}
use Rattle.std.specs.List.{list_all, list_any, position_or_len}
use Rattle.std.proofs.lemmas.Bool.{lt-ltb, ltb-true}
use Rattle.std.proofs.lemmas.Bool.Decides.{nat_tests}
use Rattle.tpal_syntax.specs.declared.notes.CarryAt.{CarryAt}
use Rattle.tpal_syntax.specs.declared.notes.CarryAt.TheVariants as carry
use Rattle.tpal_syntax.specs.declared.notes.Note.{Note}
use Rattle.tpal_syntax.specs.declared.notes.Note.TheVariants as note
use Rattle.tpal_syntax.specs.declared.blocks.Block.{Block}
use Rattle.tpal_syntax.specs.declared.blocks.CodeTable.{CodeTable}
use Rattle.tpal_syntax.specs.declared.blocks.CodeTable.TheVariants.{Input, Made}
use Rattle.tpal_syntax.specs.Parts.{is_word, is_register, is_carry}
use Rattle.tpal_syntax.specs.Conditions.{is_renamed, block_names}
use Rattle.tpal_syntax.specs.Text.{table_line, header_text}
use Rattle.tpal_syntax.specs.Readers.{after}
use Rattle.tpal_syntax.specs.declared.versions.Version.{Version}
use Rattle.tpal_print.proofs.Pieces.{and_left, and_right}
use Rattle.tpal_asm.specs.Labels.{Head, names_of, place_of}
use Rattle.tpal_asm.specs.Drafts.{IsNoteForm, IsNoteOf, IsNewTable, Draft, Outside, Inside, Says}
use Rattle.tpal_asm.specs.Drafts.{a_table, a_header, is_among}

-- what a line outside of blocks says
pub outside_says : {v : Version} {heads : List Head} {names : List (List ℕ)} {tables : List CodeTable} {blocks : List Block} {bytes : List ℕ} {next : Draft}
    → Says v heads names (Outside tables blocks) bytes next
    → ((table : CodeTable) × IsNewTable tables table × (bytes ≡ table_line (length tables) table) × (next ≡ Outside (tables ++ table ∷ []) []) × (blocks ≡ []))
    ⊎ ((name : List ℕ) × (x : Note) × (is_word name ≡ true) × IsNoteOf heads names (length tables) x × (bytes ≡ header_text v names (length blocks) name x) × (next ≡ Inside tables blocks name x []))
outside_says (a_table tables table new) = inl (table, new, refl, refl, refl)
outside_says (a_header tables blocks name x word of) = inr (name, x, word, of, refl, refl)

-- ---- what breaks no condition is of the grammar

renamed_all : (ps : List (ℕ × ℕ)) → list_all (λ p. is_renamed p.0 && is_renamed p.1) ps ≡ true → list_all (λ p. is_register p.0 && is_register p.1) ps ≡ true
renamed_all [] ok = refl
renamed_all (p ∷ ps) ok =
    let here = and_left (is_renamed p.0 && is_renamed p.1) (list_all (λ p. is_renamed p.0 && is_renamed p.1) ps) ok in
    let rest = renamed_all ps (and_right (is_renamed p.0 && is_renamed p.1) (list_all (λ p. is_renamed p.0 && is_renamed p.1) ps) ok) in
    let a = register p.0 (and_left (is_renamed p.0) (is_renamed p.1) here) in
    let b = register p.1 (and_right (is_renamed p.0) (is_renamed p.1) here) in
    ap (λ (c : Bool). (c && is_register p.1) && list_all (λ p. is_register p.0 && is_register p.1) ps) a
    ∙ ap (λ (c : Bool). c && list_all (λ p. is_register p.0 && is_register p.1) ps) b ∙ rest
  where
    register : (r : ℕ) → is_renamed r ≡ true → is_register r ≡ true
    register r ok = and_left (is_register r) (not (eqb r 30)) (and_left (is_register r && not (eqb r 30)) (not (eqb r 31)) ok)

below_more : (t tables most : ℕ) → tables ≤ most → ltb t tables ≡ true → ltb t most ≡ true
below_more t tables most le lt = lt-ltb t most (omega (arith, ltb-true t tables lt))

carry_wide : (tables most : ℕ) (c : CarryAt) → tables ≤ most → is_carry tables c ≡ true → is_carry most c ≡ true
carry_wide tables most (carry.Rows table at) le ok =
    ap (λ (b : Bool). b && is_register at) (below_more table tables most le (and_left (ltb table tables) (is_register at) ok)) ∙ and_right (ltb table tables) (is_register at) ok
carry_wide tables most (carry.Cells table row at) le ok =
    let first = and_left (ltb table tables && is_register row) (is_register at) ok in
    ap (λ (b : Bool). (b && is_register row) && is_register at) (below_more table tables most le (and_left (ltb table tables) (is_register row) first))
    ∙ ap (λ (b : Bool). b && is_register at) (and_right (ltb table tables) (is_register row) first) ∙ and_right (ltb table tables && is_register row) (is_register at) ok

carries_wide : (tables most : ℕ) (cs : List CarryAt) → tables ≤ most → list_all (is_carry tables) cs ≡ true → list_all (is_carry most) cs ≡ true
carries_wide tables most [] le ok = refl
carries_wide tables most (c ∷ cs) le ok =
    ap (λ (b : Bool). b && list_all (is_carry most) cs) (carry_wide tables most c le (and_left (is_carry tables c) (list_all (is_carry tables) cs) ok))
    ∙ carries_wide tables most cs le (and_right (is_carry tables c) (list_all (is_carry tables) cs) ok)

pub note_of_form : (heads : List Head) (names : List (List ℕ)) (tables : ℕ) (x : Note) → tables ≤ 16 → IsNoteOf heads names tables x → IsNoteForm (length names) x
note_of_form heads names tables note.Plain few of = tt
note_of_form heads names tables (note.Ready h) few of = of.0
note_of_form heads names tables (note.Target t) few of = (renamed_all t.renames of.registers, of.comb_is_block, carries_wide tables 16 t.carries few of.carries)

-- ---- a line of a table is no first line of a block, by its first bytes

pub is_no_table : (line bytes : List ℕ) (n : ℕ) (table : CodeTable) → after (codes "table t") line ≡ None → line ≡ bytes ++ (10 ∷ []) → bytes ≡ table_line n table → ⊥
is_no_table line bytes n (Input name) none is e = clash (sym none ∙ ap (after (codes "table t")) (is ∙ ap (λ (y : List ℕ). y ++ (10 ∷ [])) e))
  where
    clash : {a : List ℕ} → None ≡ Some a → ⊥
    clash e = cc
is_no_table line bytes n Made none is e = clash (sym none ∙ ap (after (codes "table t")) (is ∙ ap (λ (y : List ℕ). y ++ (10 ∷ [])) e))
  where
    clash : {a : List ℕ} → None ≡ Some a → ⊥
    clash e = cc

-- ---- a name that stands among the first ones has its place there

place_in : (name : List ℕ) (hs : List Head) → place_of hs name ≡ position_or_len (bytes_eq name) (names_of hs)
place_in name [] = refl
place_in name (h ∷ hs) = ap (λ (n : ℕ). cond (not (bytes_eq name h.0)) (1 + n) 0) (place_in name hs)

front_place : (name : List ℕ) (front more : List (List ℕ)) → ltb (position_or_len (bytes_eq name) (front ++ more)) (length front) ≡ list_any (bytes_eq name) front
front_place name [] more = none (position_or_len (bytes_eq name) more)
  where
    none : (n : ℕ) → ltb n 0 ≡ false
    none n = grind (arith, nat_tests)
front_place name (x ∷ front) more = go (bytes_eq name x) (position_or_len (bytes_eq name) (front ++ more)) (front_place name front more)
  where
    go : (b : Bool) (n : ℕ) → ltb n (length front) ≡ list_any (bytes_eq name) front → ltb (cond (not b) (1 + n) 0) (suc (length front)) ≡ (b || list_any (bytes_eq name) front)
    go true n e = lt-ltb 0 (suc (length front)) (omega arith)
    go false n e = shift n (length front) ∙ e
      where
        shift : (n m : ℕ) → ltb (1 + n) (suc m) ≡ ltb n m
        shift n m = grind (arith, nat_tests)

-- the names of whole blocks are the first names of the text
pub among_place : (name : List ℕ) (hs : List Head) (front more : List (List ℕ)) → names_of hs ≡ front ++ more → ltb (place_of hs name) (length front) ≡ is_among name front
among_place name hs front more e =
    ap (λ (n : ℕ). ltb n (length front)) (place_in name hs ∙ ap (position_or_len (bytes_eq name)) e) ∙ front_place name front more

pub length-block_names : (blocks : List Block) → length (block_names blocks) ≡ length blocks
length-block_names [] = refl
length-block_names (b ∷ blocks) = ap suc (length-block_names blocks)
