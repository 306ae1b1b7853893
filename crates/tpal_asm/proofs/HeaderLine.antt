-- The first line of a block is read exactly.
use Rattle.std.proofs.Common.{◌≡◌, ℕ, ◌≤◌, true, List, [], ◌∷◌, ◌++◌, length, Option, Some}
use Rattle.std.proofs.Common.{get_or, refl, sym, ap, subst, ◌∙◌, append_assoc, eq-eqb, arith}
use Rattle.std.proofs.lemmas.Bool.{eqb-true}
use Rattle.std.specs.Prelude.{codes}
use Rattle.std.specs.List.{list_all}
use Rattle.tpal_syntax.specs.declared.notes.Note.{Note}
use Rattle.tpal_syntax.specs.declared.notes.Note.TheVariants as note
use Rattle.tpal_syntax.specs.declared.versions.Version.{Version}
use Rattle.tpal_syntax.specs.declared.versions.Version.TheVariants.{One, Two}
use Rattle.tpal_syntax.specs.Parts.{is_word}
use Rattle.tpal_syntax.specs.Text.{note_text, number_text, header_text}
use Rattle.tpal_syntax.specs.Readers.{◌>>=◌, after, number_at, word_at}
use Rattle.tpal_print.proofs.Reading.{relabel_note}
use Rattle.tpal_print.proofs.Pieces.{number_comes, word_comes}
use Rattle.tpal_print.proofs.Whole.{name_stops}
use Rattle.tpal_asm.specs.Reading.{ended, note_rest, number_rest_of, header_rest, header_number}
use Rattle.tpal_asm.specs.Drafts.{IsNoteForm}
use Rattle.tpal_asm.specs.Steps.{is_next}
use Rattle.tpal_asm.proofs.Sound.{bind, after-sound, number-sound, word-sound, join4, Stands, same}
use Rattle.tpal_asm.proofs.HeaderForm.{number-within}
use Rattle.tpal_asm.proofs.NoteSaid.{SaidNote, note-said, handler-said}
use Rattle.tpal_asm.proofs.NoteComes.{note_form_comes, short_note}
use Rattle.tpal_asm.proofs.Inside.{end_is, words-all}
use Rattle.tpal_asm.proofs.InsideFaults.{ended_is}

-- ---- numbers

-- the number that is read of a first line with this one
abbrev pub number_in : Version → ℕ → ℕ
number_in One n = 0
number_in Two n = n

number_read : (v : Version) (n : ℕ) (more : List ℕ) → n ≤ 9223372036854775807 → number_rest_of v (number_text v n ++ (58 ∷ more)) ≡ Some (number_in v n, 58 ∷ more)
unfolding number_rest_of
number_read One n more le = refl
number_read Two n more le = number_comes 9223372036854775807 n (58 ∷ more) le (omega arith) refl

-- a number that is read stands there
record SaidNumber (v : Version) (ts : List ℕ) (r : ℕ × List ℕ) : Type 0 where
  spelled : ts ≡ number_text v r.0 ++ r.1
  low : r.0 ≤ 9223372036854775807

number-said : (v : Version) (ts : List ℕ) (r : ℕ × List ℕ) → number_rest_of v ts ≡ Some r → SaidNumber v ts r
unfolding number_rest_of
number-said One ts r e =
    let is : (0, ts) ≡ r = same (0, ts) r e in
    record { spelled = ap (λ (p : ℕ × List ℕ). p.1) is; low = omega (arith, ap (λ (p : ℕ × List ℕ). p.0) is) }
number-said Two ts r e =
    let a = bind (after (codes " #") ts) (number_at 9223372036854775807) r e in
    record {
      spelled = after-sound (codes " #") ts a.0 a.1 ∙ ap (λ (x : List ℕ). codes " #" ++ x) (number-sound 9223372036854775807 a.0 r.0 r.1 (omega arith) a.2);
      low = number-within 9223372036854775807 a.0 r.0 r.1 a.2;
    }

-- a block's own number is the next one
pub own_number : (v : Version) (n : ℕ) → is_next v (number_in v n) n ≡ true
own_number One n = refl
own_number Two n = eq-eqb n n refl

-- numbers of which one is the next are written alike
pub renumbered : (v : Version) (names : List (List ℕ)) (m n : ℕ) (name : List ℕ) (x : Note) → is_next v m n ≡ true → header_text v names m name x ≡ header_text v names n name x
renumbered One names m n name x next = refl
renumbered Two names m n name x next = ap (λ (k : ℕ). header_text Two names k name x) (eqb-true m n next)

-- ---- first lines

-- a first line by its parts
pub header_split : (v : Version) (names : List (List ℕ)) (n : ℕ) (name : List ℕ) (x : Note) → header_text v names n name x ++ (10 ∷ []) ≡ name ++ (number_text v n ++ (58 ∷ 32 ∷ (note_text names x ++ (10 ∷ []))))
header_split v names n name x =
    append_assoc name (number_text v n ++ (codes ": " ++ note_text names x)) (10 ∷ [])
    ∙ ap (λ (y : List ℕ). name ++ y) (append_assoc (number_text v n) (codes ": " ++ note_text names x) (10 ∷ []))

-- a first line of the grammar is read
pub header_comes : (v : Version) (f : List ℕ → ℕ) (names : List (List ℕ)) (n : ℕ) (name : List ℕ) (x : Note) → n ≤ 9223372036854775807 → list_all is_word names ≡ true → is_word name ≡ true → IsNoteForm (length names) x
    → ended (header_rest v f (header_text v names n name x ++ (10 ∷ []))) ≡ Some (name, relabel_note (λ l. f (get_or names l [])) x)
unfolding header_rest
header_comes v f names n name x le words word form =
    let us = note_text names x ++ (10 ∷ []) in
    let behind = number_text v n ++ (58 ∷ 32 ∷ us) in
    let first : word_at (name ++ behind) ≡ Some (name, behind) = word_comes name behind word (name_stops v n (32 ∷ us)) in
    let between : number_rest_of v behind ≡ Some (number_in v n, 58 ∷ 32 ∷ us) = number_read v n (32 ∷ us) le in
    let second : note_rest f (length us) us ≡ Some (relabel_note (λ l. f (get_or names l [])) x, 10 ∷ []) = note_form_comes f names (length us) x [] (words-all names words) form (short_note names x (10 ∷ [])) in
    ap (λ y. ended (header_rest v f y)) (header_split v names n name x) ∙ rw (first, between, second) refl

-- its number too
pub header_numbered : (v : Version) (names : List (List ℕ)) (n : ℕ) (name : List ℕ) (x : Note) → n ≤ 9223372036854775807 → is_word name ≡ true
    → header_number v (header_text v names n name x ++ (10 ∷ [])) ≡ Some (number_in v n)
unfolding header_number
header_numbered v names n name x le word =
    let us = note_text names x ++ (10 ∷ []) in
    let behind = number_text v n ++ (58 ∷ 32 ∷ us) in
    let first : word_at (name ++ behind) ≡ Some (name, behind) = word_comes name behind word (name_stops v n (32 ∷ us)) in
    let between : number_rest_of v behind ≡ Some (number_in v n, 58 ∷ 32 ∷ us) = number_read v n (32 ∷ us) le in
    ap (header_number v) (header_split v names n name x) ∙ rw (first, between) refl

-- what is read of a first line stands there
pub record SaidHeader (v : Version) (f : List ℕ → ℕ) (bytes line name : List ℕ) (x : Note) : Type 0 where
  pub word : is_word name ≡ true
  pub rest : List ℕ
  pub us : List ℕ
  pub number : ℕ
  pub low : number ≤ 9223372036854775807
  pub numbered : header_number v line ≡ Some number
  pub marked : SaidNote f us (x, rest)
  pub spelled : (names : List (List ℕ)) → Stands f names marked.name → bytes ≡ header_text v names number name x
  pub handler : (h : ℕ) → x ≡ note.Ready h → (m : List ℕ) × (f m ≡ h)

pub header-said : (v : Version) (f : List ℕ → ℕ) (bytes line name : List ℕ) (x : Note) → line ≡ bytes ++ (10 ∷ []) → ended (header_rest v f line) ≡ Some (name, x) → SaidHeader v f bytes line name x
unfolding header_rest header_number
header-said v f bytes line name x is read =
    let e = ended_is (header_rest v f line) (name, x) read in
    let a = bind (word_at line) _ ((name, x), e.0) e.1 in
    let n = bind (number_rest_of v a.0.1) _ ((name, x), e.0) a.2 in
    let b = bind (after (codes ": ") n.0.1) _ ((name, x), e.0) n.2 in
    let d = bind _ _ ((name, x), e.0) b.2 in
    let w = word-sound line a.0.0 a.0.1 a.1 in
    let k = number-said v a.0.1 n.0 n.1 in
    let s = note-said f (length b.0) b.0 d.0 d.1 in
    let eq : ((a.0.0, d.0.0), d.0.1) ≡ ((name, x), e.0) = same _ _ d.2 in
    let named : a.0.0 ≡ name = ap (λ (p : (List ℕ × Note) × List ℕ). p.0.0) eq in
    let noted : (d.0.0, d.0.1) ≡ (x, e.0) = ap (λ (p : (List ℕ × Note) × List ℕ). (p.0.1, p.1)) eq in
    let t : SaidNote f b.0 (x, e.0) = subst (SaidNote f b.0) noted s in
    record {
      word = ap is_word (sym named) ∙ w.1;
      rest = e.0;
      us = b.0;
      number = n.0.0;
      low = k.low;
      numbered = ap (λ (o : Option (List ℕ × List ℕ)). o >>= λ p. number_rest_of v p.1 >>= λ q. Some q.0) a.1
          ∙ ap (λ (o : Option (ℕ × List ℕ)). o >>= λ q. Some q.0) n.1;
      marked = t;
      spelled = λ names stands.
          end_is bytes (header_text v names n.0.0 name x) e.0
          (sym is ∙ w.0 ∙ ap (λ (y : List ℕ). y ++ a.0.1) named ∙ ap (λ (y : List ℕ). name ++ y) (k.spelled ∙ ap (λ (y : List ℕ). number_text v n.0.0 ++ y) (after-sound (codes ": ") n.0.1 b.0 b.1 ∙ ap (λ (y : List ℕ). codes ": " ++ y) (t.spelled names stands))) ∙ join4 name (number_text v n.0.0) (codes ": ") (note_text names x) e.0)
          e.2;
      handler = λ h is_ready.
          handler-said f (length b.0) b.0 h e.0 (d.1 ∙ ap (λ (p : Note × List ℕ). Some p) (noted ∙ ap (λ (y : Note). (y, e.0)) is_ready));
    }
