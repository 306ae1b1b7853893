-- From a draft outside of blocks to the next by the first line of a block.
use Rattle.std.proofs.Common.{◌≡◌, ℕ, zero, suc, ◌≤◌, ◌<◌, true, false, List, [], ◌∷◌, ◌++◌, length}
use Rattle.std.proofs.Common.{Option, Some, None, get_or, refl, sym, ap, subst, ◌∙◌, inl, inr}
use Rattle.std.proofs.Common.{arith}
use Rattle.std.specs.Prelude.{codes}
use Rattle.std.specs.List.{list_all}
use Rattle.std.proofs.lemmas.Bool.{lt-ltb, ltb-true, false≢true}
use Rattle.tpal_syntax.specs.declared.notes.Note.{Note}
use Rattle.tpal_syntax.specs.declared.notes.Note.TheVariants as note
use Rattle.tpal_syntax.specs.declared.notes.Target.{Target}
use Rattle.tpal_syntax.specs.declared.blocks.Block.{Block}
use Rattle.tpal_syntax.specs.declared.blocks.CodeTable.{CodeTable}
use Rattle.tpal_syntax.specs.declared.versions.Version.{Version}
use Rattle.tpal_syntax.specs.Parts.{is_word}
use Rattle.tpal_syntax.specs.Conditions.{IsTarget, block_names}
use Rattle.tpal_syntax.specs.Text.{header_text}
use Rattle.tpal_syntax.specs.Readers.{after}
use Rattle.tpal_print.proofs.Reading.{relabel_note}
use Rattle.tpal_asm.specs.Reading.{ended, header_rest}
use Rattle.tpal_asm.specs.Labels.{Head, names_of, place_of, is_ready_name}
use Rattle.tpal_asm.specs.Drafts.{IsNoteOf, Draft, Outside, Inside, Says, a_header, IsNewName}
use Rattle.tpal_asm.specs.Drafts.{IsWithin, is_among}
use Rattle.tpal_asm.specs.Faults.{IsFormed, IsLabelled, IsRight}
use Rattle.tpal_asm.specs.Steps.{NoteFits, is_next, is_next_by, is_numbered}
use Rattle.tpal_asm.proofs.Sound.{Stands}
use Rattle.tpal_asm.proofs.NoteSaid.{is_label_below}
use Rattle.tpal_asm.proofs.InsideFaults.{Finds, stands_by, under}
use Rattle.tpal_asm.proofs.HeaderLine.{own_number, renumbered, header_comes, header_numbered}
use Rattle.tpal_asm.proofs.HeaderLine.{SaidHeader, header-said}
use Rattle.tpal_asm.proofs.Outside.{outside_says, is_no_table, note_of_form}

-- a join target whose label is another one
target_again : (tables blocks most comb : ℕ) (t : Target) → IsTarget tables blocks t → comb < most → IsTarget tables most (record { comm = t.comm; renames = t.renames; comb = comb; kind = t.kind; carries = t.carries })
target_again tables blocks most comb t of lt = record { registers = of.registers; names_differ = of.names_differ; comb_is_block = lt; few_carries = of.few_carries; carries = of.carries; tables_differ = of.tables_differ }

target_at : (tables blocks most : ℕ) (t : Target) → IsTarget tables blocks t → t.comb < most → IsTarget tables most t
target_at tables blocks most t of lt = target_again tables blocks most t.comb t of lt

-- behind the last block there is none that is promotion-ready
past : (heads : List Head) (h : ℕ) → length (names_of heads) ≤ h → (get_or heads h ([], false)).1 ≡ false
past [] h le = refl
past (x ∷ heads) zero le = absurd (omega arith)
past (x ∷ heads) (suc h) le = past heads h (omega arith)

-- which note has this one as it is with labels given anew
was_ready : (g : ℕ → ℕ) (h : ℕ) (heads : List Head) (names : List (List ℕ)) (tables : ℕ) (y : Note) → note.Ready h ≡ relabel_note g y → IsNoteOf heads names tables y
    → (k : ℕ) × (h ≡ g k) × (k < length names) × (is_ready_name heads (get_or names k []) ≡ false)
was_ready g h heads names tables note.Plain e of = absurd cc
was_ready g h heads names tables (note.Ready k) e of = (k, cc, of.0, of.1)
was_ready g h heads names tables (note.Target t) e of = absurd cc

was_target : (g : ℕ → ℕ) (t : Target) (heads : List Head) (names : List (List ℕ)) (tables : ℕ) (y : Note) → note.Target t ≡ relabel_note g y → IsNoteOf heads names tables y
    → (u : Target) × (t ≡ record { comm = u.comm; renames = u.renames; comb = g u.comb; kind = u.kind; carries = u.carries }) × IsTarget tables (length names) u
was_target g t heads names tables note.Plain e of = absurd cc
was_target g t heads names tables (note.Ready k) e of = absurd cc
was_target g t heads names tables (note.Target u) e of = (u, one _ _ e, of)
  where
    one : (a b : Target) → note.Target a ≡ note.Target b → a ≡ b
    one a b e = cc

module _ (v : Version) (heads : List Head) (tables : List CodeTable) (blocks : List Block) (few : length tables ≤ 16) (room : length blocks ≤ 65536) (most : ℕ)
    (finds : Finds (place_of heads) (names_of heads) most) (line bytes : List ℕ) (line_is : line ≡ bytes ++ (10 ∷ [])) (no_table : after (codes "table t") line ≡ None) where
  f : List ℕ → ℕ
  f = place_of heads

  -- a first line that stands there is read
  reads : (names : List (List ℕ)) (next : Draft) → list_all is_word names ≡ true → Says v heads names (Outside tables blocks) bytes next
      → (name : List ℕ) × (x : Note) × (ended (header_rest v (place_of heads) line) ≡ Some (name, relabel_note (λ l. place_of heads (get_or names l [])) x)) × IsNoteOf heads names (length tables) x × (next ≡ Inside tables blocks name x [])
  reads names next words says = elim (outside_says says) [
    | inl h ↦ absurd (is_no_table line bytes (length tables) h.0 no_table line_is h.2)
    | inr h ↦ (
      h.0,
      h.1,
      ap (λ y. ended (header_rest v (place_of heads) y)) (line_is ∙ ap (λ (y : List ℕ). y ++ (10 ∷ [])) h.4) ∙ header_comes v (place_of heads) names (length blocks) h.0 h.1 (omega (arith, room)) words h.2 (note_of_form heads names (length tables) h.1 few h.3),
      h.3,
      h.5,
    )
  ]

  -- a first line that stands there has the number of the blocks before it
  numbers : (names : List (List ℕ)) (next : Draft) → Says v heads names (Outside tables blocks) bytes next → is_numbered v (length blocks) line ≡ true
  numbers names next says = elim (outside_says says) [
    | inl h ↦ absurd (is_no_table line bytes (length tables) h.0 no_table line_is h.2)
    | inr h ↦
        ap (is_numbered v (length blocks)) (line_is ∙ ap (λ (y : List ℕ). y ++ (10 ∷ [])) h.4)
        ∙ ap (λ (o : Option ℕ). is_next_by v o (length blocks)) (header_numbered v names (length blocks) h.0 h.1 (omega (arith, room)) h.2)
        ∙ own_number v (length blocks)
  ]

  pub header_misnumbered : is_numbered v (length blocks) line ≡ false → ¬ IsFormed v heads (Outside tables blocks) bytes
  header_misnumbered other formed = false≢true (sym other ∙ numbers formed.names formed.next formed.says)

  pub header_unread : ended (header_rest v (place_of heads) line) ≡ None → ¬ IsFormed v heads (Outside tables blocks) bytes
  header_unread none formed = clash (sym none ∙ (reads formed.names formed.next formed.words formed.says).2)
    where
      clash : {A : Type 0} {a : A} → None ≡ Some a → ⊥
      clash e = cc

  -- ---- a name and a note that were read, with the number of the blocks before

  module _ (name : List ℕ) (x : Note) (read : ended (header_rest v (place_of heads) line) ≡ Some (name, x)) (numbered : is_numbered v (length blocks) line ≡ true) where
    said : SaidHeader v (place_of heads) bytes line name x
    said = header-said v (place_of heads) bytes line name x line_is read

    next_number : is_next v said.number (length blocks) ≡ true
    next_number = sym (ap (λ (o : Option ℕ). is_next_by v o (length blocks)) said.numbered) ∙ numbered

    -- whatever the line says is this name and, with the labels given anew, this note
    only : (names : List (List ℕ)) (next : Draft) → list_all is_word names ≡ true → Says v heads names (Outside tables blocks) bytes next
        → (y : Note) × (x ≡ relabel_note (λ l. place_of heads (get_or names l [])) y) × IsNoteOf heads names (length tables) y × (next ≡ Inside tables blocks name y [])
    only names next words says =
        let r = reads names next words says in
        let same : (r.0, relabel_note (λ l. place_of heads (get_or names l [])) r.1) ≡ (name, x) = one _ _ (sym r.2 ∙ read) in
        (r.1, sym (ap (λ (p : List ℕ × Note). p.1) same), r.3, r.4 ∙ ap (λ (n : List ℕ). Inside tables blocks n r.1 []) (ap (λ (p : List ℕ × Note). p.0) same))
      where
        one : (a b : List ℕ × Note) → Some a ≡ Some b → a ≡ b
        one a b e = cc

    -- where the label of a name is, the name is found
    at_place : (m : List ℕ) (h : ℕ) (names : List (List ℕ)) → place_of heads m ≡ h → get_or names h [] ≡ m → is_ready_name heads (get_or names h []) ≡ (get_or heads h ([], false)).1
    at_place m h names is stands = ap (is_ready_name heads) stands ∙ ap (λ (k : ℕ). (get_or heads k ([], false)).1) is

    -- under names where its label stands, the line says this
    says_under : (names : List (List ℕ)) → Stands (place_of heads) names said.marked.name → IsNoteOf heads names (length tables) x → Says v heads names (Outside tables blocks) bytes (Inside tables blocks name x [])
    says_under names stands of =
        let P : List ℕ → Type 0 = λ y. Says v heads names (Outside tables blocks) y (Inside tables blocks name x []) in
        subst P (sym (said.spelled names stands ∙ renumbered v names said.number (length blocks) name x next_number)) (a_header tables blocks name x said.word of)

    -- a note that fits is one of the text
    fits_of : (y : Note) → x ≡ y → NoteFits heads (length tables) y → IsNoteOf heads (names_of heads) (length tables) y
    fits_of note.Plain is fits = tt
    fits_of (note.Ready h) is fits =
        let m = said.handler h is in
        let stands : get_or (names_of heads) h [] ≡ m.0 = ap (λ (k : ℕ). get_or (names_of heads) k []) (sym m.1) ∙ finds.right m.0 (lt-ltb (place_of heads m.0) (length (names_of heads)) (omega (arith, m.1, fits.0))) in
        (fits.0, at_place m.0 h (names_of heads) m.1 stands ∙ fits.1)
    fits_of (note.Target t) is fits = fits

    below_of : (y : Note) → IsNoteOf heads (names_of heads) (length tables) y → is_label_below (length (names_of heads)) y ≡ true
    below_of note.Plain of = refl
    below_of (note.Ready h) of = lt-ltb h (length (names_of heads)) of.0
    below_of (note.Target t) of = lt-ltb t.comb (length (names_of heads)) of.comb_is_block

    pub header_right : NoteFits heads (length tables) x → Says v heads (names_of heads) (Outside tables blocks) bytes (Inside tables blocks name x [])
    header_right fits =
        let of = fits_of x refl fits in
        says_under (names_of heads) (stands_by (place_of heads) (names_of heads) most said.marked.name finds (said.marked.within (length (names_of heads)) (below_of x of))) of

    pub header_formed : NoteFits heads (length tables) x → IsFormed v heads (Outside tables blocks) bytes
    header_formed fits = record { names = names_of heads; next = Inside tables blocks name x []; words = finds.words; says = header_right fits }

    -- ---- repeated names, and too many blocks

    next_name : (next : Draft) → (y : Note) × (next ≡ Inside tables blocks name y []) → IsNewName next → is_among name (block_names blocks) ≡ false
    next_name next h new = let P : Draft → Type 0 = λ s. IsNewName s in subst P h.1 new

    pub header_repeated : is_among name (block_names blocks) ≡ true → ¬ IsLabelled v heads (Outside tables blocks) bytes
    header_repeated again labelled =
        let o = only (names_of heads) labelled.next finds.words labelled.says in
        false≢true (sym (next_name labelled.next (o.0, o.3) labelled.new) ∙ again)

    pub header_many : 65536 ≤ length blocks → ¬ IsRight v heads (Outside tables blocks) bytes
    header_many many right =
        let o = only (names_of heads) right.next finds.words right.says in
        let P : Draft → Type 0 = λ s. IsWithin s in
        let w : IsWithin (Inside tables blocks name o.0 []) = subst P o.3 right.within in
        omega (arith, w.1)

    pub header_labelled : NoteFits heads (length tables) x → is_among name (block_names blocks) ≡ false → IsLabelled v heads (Outside tables blocks) bytes
    header_labelled fits new = record { next = Inside tables blocks name x []; says = header_right fits; new = new }

    -- ---- what is unfit of the note

    pub ready_unformed : (h : ℕ) → x ≡ note.Ready h → (get_or heads h ([], false)).1 ≡ true → ¬ IsFormed v heads (Outside tables blocks) bytes
    ready_unformed h is ready formed =
        let o = only formed.names formed.next formed.words formed.says in
        let w = was_ready (λ l. place_of heads (get_or formed.names l [])) h heads formed.names (length tables) o.0 (sym is ∙ o.1) o.2 in
        false≢true (sym w.3 ∙ ap (λ (k : ℕ). (get_or heads k ([], false)).1) (sym w.1) ∙ ready)

    pub target_unformed : (t : Target) → x ≡ note.Target t → ¬ IsTarget (length tables) most t → ¬ IsFormed v heads (Outside tables blocks) bytes
    target_unformed t is bad formed =
        let o = only formed.names formed.next formed.words formed.says in
        let g : ℕ → ℕ = λ l. place_of heads (get_or formed.names l []) in
        let w = was_target g t heads formed.names (length tables) o.0 (sym is ∙ o.1) o.2 in
        let P : Target → Type 0 = λ u. IsTarget (length tables) most u in
        bad (subst P (sym w.1) (target_again (length tables) (length formed.names) most (g w.0.comb) w.0 w.2 (ltb-true (g w.0.comb) most (finds.low (get_or formed.names w.0.comb [])))))

    pub ready_unlabelled : (h : ℕ) → x ≡ note.Ready h → length (names_of heads) ≤ h → ¬ IsLabelled v heads (Outside tables blocks) bytes
    ready_unlabelled h is far labelled =
        let o = only (names_of heads) labelled.next finds.words labelled.says in
        let w = was_ready (λ l. place_of heads (get_or (names_of heads) l [])) h heads (names_of heads) (length tables) o.0 (sym is ∙ o.1) o.2 in
        let low = ltb-true (place_of heads (get_or (names_of heads) w.0 [])) (length (names_of heads)) (finds.known w.0 (lt-ltb w.0 (length (names_of heads)) w.2)) in
        omega (arith, w.1, low)

    pub target_unlabelled : (t : Target) → x ≡ note.Target t → length (names_of heads) ≤ t.comb → ¬ IsLabelled v heads (Outside tables blocks) bytes
    target_unlabelled t is far labelled =
        let o = only (names_of heads) labelled.next finds.words labelled.says in
        let w = was_target (λ l. place_of heads (get_or (names_of heads) l [])) t heads (names_of heads) (length tables) o.0 (sym is ∙ o.1) o.2 in
        let low = ltb-true (place_of heads (get_or (names_of heads) w.0.comb [])) (length (names_of heads)) (finds.known w.0.comb (lt-ltb w.0.comb (length (names_of heads)) w.2.comb_is_block)) in
        omega (arith, ap (λ (u : Target). u.comb) w.1, low)

    pub target_formed : (t : Target) → x ≡ note.Target t → IsTarget (length tables) most t → IsFormed v heads (Outside tables blocks) bytes
    target_formed t is ok =
        let u = under (place_of heads) (names_of heads) most said.marked.name finds said.marked.word in
        let P : ℕ → Type 0 = λ n. IsTarget (length tables) n t in
        let Q : Note → Type 0 = λ y. IsNoteOf heads u.names (length tables) y in
        record { names = u.names; next = Inside tables blocks name x []; words = u.words; says = says_under u.names u.stands (subst Q (sym is) (subst P (sym u.many) ok)) }

    -- a handler that is read is the place of its name, whatever the names
    own_place : (names : List (List ℕ)) (h : ℕ) → x ≡ note.Ready h → list_all is_word names ≡ true → h < length names → Stands (place_of heads) names said.marked.name → place_of heads (get_or names h []) ≡ h
    own_place names h is words lt stands =
        let text : bytes ≡ header_text v names said.number name (note.Ready h) = said.spelled names stands ∙ ap (header_text v names said.number name) is in
        let again : ended (header_rest v (place_of heads) line) ≡ Some (name, note.Ready (place_of heads (get_or names h []))) =
        ap (λ y. ended (header_rest v (place_of heads) y)) (line_is ∙ ap (λ (y : List ℕ). y ++ (10 ∷ [])) text) ∙ header_comes v (place_of heads) names said.number name (note.Ready h) said.low words said.word lt in
        one _ _ (ap (λ (p : List ℕ × Note). p.1) (pair _ _ (sym again ∙ read)) ∙ is)
      where
        pair : (a b : List ℕ × Note) → Some a ≡ Some b → a ≡ b
        pair a b e = cc

        one : (a b : ℕ) → note.Ready a ≡ note.Ready b → a ≡ b
        one a b e = cc

    pub ready_formed : (h : ℕ) → x ≡ note.Ready h → length (names_of heads) ≤ h → IsFormed v heads (Outside tables blocks) bytes
    ready_formed h is far =
        let u = under (place_of heads) (names_of heads) most said.marked.name finds said.marked.word in
        let m = said.handler h is in
        let lt : h < length u.names = omega (arith, u.many, m.1, ltb-true (place_of heads m.0) most (finds.low m.0)) in
        let own = own_place u.names h is u.words lt u.stands in
        let Q : Note → Type 0 = λ y. IsNoteOf heads u.names (length tables) y in
        record {
          names = u.names;
          next = Inside tables blocks name x [];
          words = u.words;
          says = says_under u.names u.stands (subst Q (sym is) (lt, ap (λ (k : ℕ). (get_or heads k ([], false)).1) own ∙ past heads h far));
        }
