-- Each note of the grammar is read from its text, whether or not it breaks a condition.
use Rattle.std.proofs.Common.{◌≡◌, ℕ, ◌≤◌, List, [], ◌∷◌, ◌++◌, length, Some, get_or, refl, ap, ◌∙◌}
use Rattle.std.proofs.Common.{append_assoc, length-append, arith}
use Rattle.std.specs.Prelude.{codes}
use Rattle.std.specs.List.{flat_map, join_by}
use Rattle.std.proofs.lemmas.List.Concat.{flat_map-cons}
use Rattle.std.proofs.lemmas.Bool.{lt-ltb}
use Rattle.tpal_syntax.specs.declared.notes.CarryAt.{CarryAt}
use Rattle.tpal_syntax.specs.declared.notes.CarryAt.TheVariants as carry
use Rattle.tpal_syntax.specs.declared.notes.Note.{Note}
use Rattle.tpal_syntax.specs.declared.notes.Note.TheVariants as note
use Rattle.tpal_syntax.specs.Text.{rename_text, carry_text, carries_text, policy_text, kind_text}
use Rattle.tpal_syntax.specs.Text.{note_text}
use Rattle.tpal_syntax.specs.Readers.{word_at, renames_at}
use Rattle.tpal_print.proofs.Reading.{relabel_note}
use Rattle.tpal_print.proofs.Pieces.{Words, word_comes}
use Rattle.tpal_print.proofs.Notes.{renames_come, carries_come}
use Rattle.tpal_print.proofs.Whole.{policy_mid, kind_mid, ShortNote}
use Rattle.tpal_asm.specs.Reading.{cut_rest, target_rest, ready_rest, jtppt_rest, note_rest}
use Rattle.tpal_asm.specs.Drafts.{IsNoteForm}

-- ---- notes

pub note_form_comes : (f : List ℕ → ℕ) (names : List (List ℕ)) (n : ℕ) (x : Note) (more : List ℕ) → Words names (length names) → IsNoteForm (length names) x → ShortNote n x
    → note_rest f n (note_text names x ++ (10 ∷ more)) ≡ Some (relabel_note (λ l. f (get_or names l [])) x, 10 ∷ more)
unfolding note_rest ready_rest jtppt_rest target_rest cut_rest
note_form_comes f names n note.Plain more words ok short = refl
note_form_comes f names n (note.Ready h) more words ok short = rw (word_comes (get_or names h []) (10 ∷ more) (words h (lt-ltb h (length names) ok)) refl) refl
note_form_comes f names n (note.Target t) more words ok short =
    let rest = 10 ∷ more in
    let name = get_or names t.comb [] in
    let list = join_by rename_text (codes ", ") t.renames in
    let behind_kind = carries_text t.carries in
    let behind_name = codes "; " ++ (kind_text t.kind ++ (codes "; carry " ++ behind_kind)) in
    let behind_list = codes "}; @" ++ (name ++ behind_name) in
    let renames : renames_at n ((list ++ behind_list) ++ rest) ≡ Some (t.renames, codes "; @" ++ ((name ++ behind_name) ++ rest)) =
    ap (renames_at n) (append_assoc list behind_list rest) ∙ renames_come n t.renames (codes "; @" ++ ((name ++ behind_name) ++ rest)) ok.0 short.0 in
    let word : word_at ((name ++ behind_name) ++ rest) ≡ Some (name, behind_name ++ rest) =
    ap word_at (append_assoc name behind_name rest) ∙ word_comes name (behind_name ++ rest) (words t.comb (lt-ltb t.comb (length names) ok.1)) refl in
    rw (policy_mid t.comm (list ++ behind_list) rest, renames, word, kind_mid t.kind behind_kind rest, carries_come 16 n t.carries more (omega arith) ok.2 short.1) refl

-- ---- how long the lists of a note are

length-more : {A : Type 0} (text : A → List ℕ) (xs : List A) → ((a : A) → 1 ≤ length (text a)) → length xs ≤ length (flat_map text xs)
length-more text [] some = omega arith
length-more text (x ∷ xs) some = omega (arith, ap length (flat_map-cons text x xs), length-append (text x) (flat_map text xs), some x, length-more text xs some)

length-join : {A : Type 0} (text : A → List ℕ) (xs : List A) → ((a : A) → 1 ≤ length (text a)) → length xs ≤ length (join_by text (codes ", ") xs)
length-join text [] some = omega arith
length-join text (x ∷ xs) some = omega (arith, length-append (text x) (flat_map (λ y. codes ", " ++ text y) xs), some x, length-more (λ y. codes ", " ++ text y) xs (λ a. omega (arith, length-append (codes ", ") (text a))))

rename-some : (p : ℕ × ℕ) → 1 ≤ length (rename_text p)
rename-some p = omega arith

carry-some : (c : CarryAt) → 1 ≤ length (carry_text c)
carry-some (carry.Rows table at) = omega arith
carry-some (carry.Cells table row at) = omega arith

carries-length : (cs : List CarryAt) → length cs ≤ length (carries_text cs)
carries-length [] = omega arith
carries-length (c ∷ cs) = length-join carry_text (c ∷ cs) carry-some

-- the lists are no longer than the text
pub short_note : (names : List (List ℕ)) (x : Note) (more : List ℕ) → ShortNote (length (note_text names x ++ more)) x
short_note names note.Plain more = tt
short_note names (note.Ready h) more = tt
short_note names (note.Target t) more =
    let name = get_or names t.comb [] in
    let list = join_by rename_text (codes ", ") t.renames in
    let last = carries_text t.carries in
    let e1 = length-append (kind_text t.kind) (codes "; carry " ++ last) in
    let e2 = length-append name (codes "; " ++ (kind_text t.kind ++ (codes "; carry " ++ last))) in
    let e3 = length-append list (codes "}; @" ++ (name ++ (codes "; " ++ (kind_text t.kind ++ (codes "; carry " ++ last))))) in
    let e4 = length-append (policy_text t.comm) (codes "; {" ++ (list ++ (codes "}; @" ++ (name ++ (codes "; " ++ (kind_text t.kind ++ (codes "; carry " ++ last))))))) in
    let e5 = length-append (note_text names (note.Target t)) more in
    (omega (arith, length-join rename_text t.renames rename-some), omega (arith, carries-length t.carries))
