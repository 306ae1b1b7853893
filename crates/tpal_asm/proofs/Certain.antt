-- A line says one thing behind a draft.
use Rattle.std.proofs.Common.{◌≡◌, ℕ, ◌≤◌, true, ltb, List, [], ◌∷◌, ◌++◌, length, Option, Some}
use Rattle.std.proofs.Common.{None, get_or, refl, sym, ap, ◌∙◌, inl, inr, arith}
use Rattle.std.specs.Prelude.{codes}
use Rattle.std.specs.List.{list_all}
use Rattle.std.specs.Fmt.{decimal}
use Rattle.std.proofs.lemmas.Bool.{lt-ltb, ltb-true}
use Rattle.tpal_syntax.specs.declared.instructions.Instr.{Instr}
use Rattle.tpal_syntax.specs.declared.instructions.Term.{Term}
use Rattle.tpal_syntax.specs.declared.notes.Note.{Note}
use Rattle.tpal_syntax.specs.declared.notes.Note.TheVariants as note
use Rattle.tpal_syntax.specs.declared.blocks.Block.{Block}
use Rattle.tpal_syntax.specs.declared.blocks.CodeTable.{CodeTable}
use Rattle.tpal_syntax.specs.declared.blocks.CodeTable.TheVariants.{Input, Made}
use Rattle.tpal_syntax.specs.declared.versions.Version.{Version}
use Rattle.tpal_syntax.specs.Parts.{is_word, is_instr, is_term}
use Rattle.tpal_syntax.specs.Conditions.{AreDistinct}
use Rattle.tpal_syntax.specs.Text.{instr_text, term_text, header_text, table_line}
use Rattle.tpal_print.proofs.Reading.{instr_at, term_at, relabel, relabel_term, relabel_note}
use Rattle.tpal_print.proofs.Lines.{instr_comes, term_comes, term_is_no_instr}
use Rattle.tpal_print.proofs.Unique.{relabel_same, relabel_term_same}
use Rattle.tpal_asm.specs.Reading.{ended, header_rest}
use Rattle.tpal_asm.specs.Labels.{Head, names_of, place_of}
use Rattle.tpal_asm.specs.Drafts.{IsNoteOf, Draft, Outside, Inside, Says, IsWithin}
use Rattle.tpal_asm.proofs.Finding.{length-names}
use Rattle.tpal_asm.proofs.Inside.{words-all, inside_says}
use Rattle.tpal_asm.proofs.Outside.{outside_says, note_of_form}
use Rattle.tpal_asm.proofs.TableLine.{IsNamed, table_comes}
use Rattle.tpal_asm.proofs.TableSteps.{no_header, named_of}
use Rattle.tpal_asm.proofs.HeaderLine.{header_comes}
use Rattle.tpal_asm.proofs.Sofar.{place-own}

-- ---- labels that stay

abbrev Stays : (ℕ → ℕ) → ℕ → Type 0
Stays h blocks = (l : ℕ) → ltb l blocks ≡ true → h l ≡ l

note_stays : (h : ℕ → ℕ) (heads : List Head) (names : List (List ℕ)) (tables : ℕ) (x : Note) → Stays h (length names) → IsNoteOf heads names tables x → relabel_note h x ≡ x
note_stays h heads names tables note.Plain same of = refl
note_stays h heads names tables (note.Ready l) same of = ap (λ (k : ℕ). note.Ready k) (same l (lt-ltb l (length names) of.0))
note_stays h heads names tables (note.Target t) same of =
    ap (λ (k : ℕ). note.Target (record { comm = t.comm; renames = t.renames; comb = k; kind = t.kind; carries = t.carries })) (same t.comb (lt-ltb t.comb (length names) of.comb_is_block))

first_of : {A B : Type 0} (a b : A) (x y : B) → ◌≡◌ {A = Option (A × B)} (Some (a, x)) (Some (b, y)) → a ≡ b
first_of {A} {B} a b x y e =
    let p : A × B = (a, x) in
    let q : A × B = (b, y) in
    ap (λ (r : A × B). r.0) (inner p q e)
  where
    inner : {C : Type 0} (p q : C) → Some p ≡ Some q → p ≡ q
    inner p q e = cc

second_of : {A B : Type 0} (a b : A) (x y : B) → ◌≡◌ {A = Option (A × B)} (Some (a, x)) (Some (b, y)) → x ≡ y
second_of {A} {B} a b x y e =
    let p : A × B = (a, x) in
    let q : A × B = (b, y) in
    ap (λ (r : A × B). r.1) (inner p q e)
  where
    inner : {C : Type 0} (p q : C) → Some p ≡ Some q → p ≡ q
    inner p q e = cc

behind_spaces : (a b : List ℕ) → codes "  " ++ a ≡ codes "  " ++ b → a ≡ b
behind_spaces a b e = cc

-- ---- what a line says, and the next draft

-- the front of a table's line
table_front : (n : ℕ) (table : CodeTable) → (us : List ℕ) × (table_line n table ++ (10 ∷ []) ≡ codes "table t" ++ us)
table_front n (Input name) = ((decimal n ++ (codes " input " ++ name)) ++ (10 ∷ []), refl)
table_front n Made = ((decimal n ++ codes " made") ++ (10 ∷ []), refl)

module _ (v : Version) (hs : List Head) (distinct : AreDistinct (names_of hs)) (words : list_all is_word (names_of hs) ≡ true) where
  own : Stays (λ l. place_of hs (get_or (names_of hs) l [])) (length (names_of hs))
  own l lt = place-own hs l distinct (omega (arith, ltb-true l (length (names_of hs)) lt, length-names hs))

  one_instr : (tables : ℕ) (i j : Instr) → tables ≤ 16 → is_instr tables (length (names_of hs)) i ≡ true → is_instr tables (length (names_of hs)) j ≡ true → instr_text (names_of hs) i ≡ instr_text (names_of hs) j → i ≡ j
  one_instr tables i j few oki okj e =
      let names = names_of hs in
      let f = place_of hs in
      let g : ℕ → ℕ = λ l. f (get_or names l []) in
      let a = instr_comes f names tables (length names) i [] (words-all names words) few oki in
      let b = instr_comes f names tables (length names) j [] (words-all names words) few okj in
      let same = first_of (relabel g i) (relabel g j) (10 ∷ []) (10 ∷ []) (sym a ∙ ap (λ (t : List ℕ). instr_at f (t ++ (10 ∷ []))) e ∙ b) in
      sym (relabel_same g tables (length names) i own oki) ∙ same ∙ relabel_same g tables (length names) j own okj

  one_term : (s t : Term) → is_term (length (names_of hs)) s ≡ true → is_term (length (names_of hs)) t ≡ true → term_text (names_of hs) s ≡ term_text (names_of hs) t → s ≡ t
  one_term s t oks okt e =
      let names = names_of hs in
      let f = place_of hs in
      let g : ℕ → ℕ = λ l. f (get_or names l []) in
      let a = term_comes f names (length names) s [] (words-all names words) oks in
      let b = term_comes f names (length names) t [] (words-all names words) okt in
      let same = first_of (relabel_term g s) (relabel_term g t) (10 ∷ []) (10 ∷ []) (sym a ∙ ap (λ (x : List ℕ). term_at f (x ++ (10 ∷ []))) e ∙ b) in
      sym (relabel_term_same g (length names) s own oks) ∙ same ∙ relabel_term_same g (length names) t own okt

  not_both : (tables : ℕ) (i : Instr) (t : Term) → tables ≤ 16 → is_instr tables (length (names_of hs)) i ≡ true → instr_text (names_of hs) i ≡ term_text (names_of hs) t → ⊥
  not_both tables i t few ok e =
      let names = names_of hs in
      let f = place_of hs in
      clash (sym (term_is_no_instr f names t (10 ∷ [])) ∙ ap (λ (x : List ℕ). instr_at f (x ++ (10 ∷ []))) (sym e) ∙ instr_comes f names tables (length names) i [] (words-all names words) few ok)
    where
      clash : {A : Type 0} {a : A} → None ≡ Some a → ⊥
      clash e = cc

  header_reads : (tables n : ℕ) (name : List ℕ) (x : Note) → tables ≤ 16 → n ≤ 65536 → is_word name ≡ true → IsNoteOf hs (names_of hs) tables x → ended (header_rest v (place_of hs) (header_text v (names_of hs) n name x ++ (10 ∷ []))) ≡ Some (name, x)
  header_reads tables n name x few room word of =
      let names = names_of hs in
      let g : ℕ → ℕ = λ l. place_of hs (get_or names l []) in
      header_comes v (place_of hs) names n name x (omega (arith, room)) words word (note_of_form hs names tables x few of) ∙ ap (λ (y : Note). Some (name, y)) (note_stays g hs names tables x own of)

  one_table : (n : ℕ) (t u : CodeTable) → n ≤ 16 → IsNamed t → IsNamed u → table_line n t ≡ table_line n u → t ≡ u
  one_table n t u few nt nu e =
      let a = table_front n t in
      second_of n n t u (sym (table_comes n t few nt a.0 (sym a.1)) ∙ table_comes n u few nu a.0 (sym a.1 ∙ ap (λ (x : List ℕ). x ++ (10 ∷ [])) e))

  no_table : (n m : ℕ) (t : CodeTable) (name : List ℕ) (x : Note) → is_word name ≡ true → header_text v (names_of hs) m name x ≡ table_line n t → ⊥
  no_table n m t name x word e = let a = table_front n t in no_header v (names_of hs) m name a.0 x word (ap (λ (y : List ℕ). y ++ (10 ∷ [])) e ∙ a.1)

  outside_once : (tables : List CodeTable) (blocks : List Block) (bytes : List ℕ) (a b : Draft) → length tables ≤ 16 → length blocks ≤ 65536 → Says v hs (names_of hs) (Outside tables blocks) bytes a → Says v hs (names_of hs) (Outside tables blocks) bytes b → a ≡ b
  outside_once tables blocks bytes a b few room one two = elim (outside_says one) [
    | inl h ↦ elim (outside_says two) [
      | inl k ↦
          let same = one_table (length tables) h.0 k.0 few (named_of tables h.0 h.1) (named_of tables k.0 k.1) (sym h.2 ∙ k.2) in
          h.3 ∙ ap (λ (t : CodeTable). Outside (tables ++ t ∷ []) []) same ∙ sym k.3
      | inr k ↦ absurd (no_table (length tables) (length blocks) h.0 k.0 k.1 k.2 (sym k.4 ∙ h.2))
    ]
    | inr h ↦ elim (outside_says two) [
      | inl k ↦ absurd (no_table (length tables) (length blocks) k.0 h.0 h.1 h.2 (sym h.4 ∙ k.2))
      | inr k ↦
          let both = sym (header_reads (length tables) (length blocks) h.0 h.1 few room h.2 h.3) ∙ ap (λ (y : List ℕ). ended (header_rest v (place_of hs) (y ++ (10 ∷ [])))) (sym h.4 ∙ k.4) ∙ header_reads (length tables) (length blocks) k.0 k.1 few room k.2 k.3 in
          h.5 ∙ ap (λ (n : List ℕ). Inside tables blocks n h.1 []) (first_of h.0 k.0 h.1 k.1 both) ∙ ap (λ (x : Note). Inside tables blocks k.0 x []) (second_of h.0 k.0 h.1 k.1 both) ∙ sym k.5
    ]
  ]

  inside_once : (tables : List CodeTable) (blocks : List Block) (name : List ℕ) (x : Note) (body : List Instr) (bytes : List ℕ) (a b : Draft) → length tables ≤ 16
      → Says v hs (names_of hs) (Inside tables blocks name x body) bytes a → Says v hs (names_of hs) (Inside tables blocks name x body) bytes b → a ≡ b
  inside_once tables blocks name x body bytes a b few one two =
      let names = names_of hs in
      elim (inside_says one) [
        | inl h ↦ elim (inside_says two) [
          | inl k ↦
              let same = one_instr (length tables) h.0 k.0 few h.1 k.1 (behind_spaces (instr_text names h.0) (instr_text names k.0) (sym h.2 ∙ k.2)) in
              h.3 ∙ ap (λ (i : Instr). Inside tables blocks name x (body ++ i ∷ [])) same ∙ sym k.3
          | inr k ↦ absurd (not_both (length tables) h.0 k.0 few h.1 (behind_spaces (instr_text names h.0) (term_text names k.0) (sym h.2 ∙ k.2)))
        ]
        | inr h ↦ elim (inside_says two) [
          | inl k ↦ absurd (not_both (length tables) k.0 h.0 few k.1 (behind_spaces (instr_text names k.0) (term_text names h.0) (sym k.2 ∙ h.2)))
          | inr k ↦
              let same = one_term h.0 k.0 h.1 k.1 (behind_spaces (term_text names h.0) (term_text names k.0) (sym h.2 ∙ k.2)) in
              h.3 ∙ ap (λ (t : Term). Outside tables (blocks ++ record { name = name; note = x; body = body; term = t } ∷ [])) same ∙ sym k.3
        ]
      ]

  pub says-once : (draft : Draft) (bytes : List ℕ) (a b : Draft) → IsWithin draft → Says v hs (names_of hs) draft bytes a → Says v hs (names_of hs) draft bytes b → a ≡ b
  says-once (Outside tables blocks) bytes a b within one two = outside_once tables blocks bytes a b within.0 within.1 one two
  says-once (Inside tables blocks name x body) bytes a b within one two = inside_once tables blocks name x body bytes a b within.0 one two
