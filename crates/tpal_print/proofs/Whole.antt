-- Each code is read from its own text, so no other code has that text.
use Rattle.std.proofs.Common.{◌≡◌, ℕ, zero, suc, ◌≤◌, Bool, true, false, ltb, List, [], ◌∷◌, ◌++◌}
use Rattle.std.proofs.Common.{length, map, Some, None, get_or, refl, ap, ◌∙◌, append_assoc, arith}
use Rattle.std.specs.Prelude.{codes, slice_get}
use Rattle.std.specs.List.{AllByRecursion, flat_map, list_all, join_by}
use Rattle.std.proofs.lemmas.Bool.{lt-ltb}
use Rattle.tpal_syntax.specs.declared.notes.CutKind.{CutKind}
use Rattle.tpal_syntax.specs.declared.notes.CutKind.TheVariants as cut
use Rattle.tpal_syntax.specs.declared.notes.Note.{Note}
use Rattle.tpal_syntax.specs.declared.notes.Note.TheVariants as note
use Rattle.tpal_syntax.specs.declared.notes.Target.{Target}
use Rattle.tpal_syntax.specs.declared.instructions.Instr.{Instr}
use Rattle.tpal_syntax.specs.declared.instructions.Term.{Term}
use Rattle.tpal_syntax.specs.declared.blocks.Block.{Block}
use Rattle.tpal_syntax.specs.declared.blocks.CodeTable.{CodeTable}
use Rattle.tpal_syntax.specs.declared.versions.Version.{Version}
use Rattle.tpal_syntax.specs.declared.versions.Version.TheVariants.{One, Two}
use Rattle.tpal_syntax.specs.Parts.{is_instr, is_term}
use Rattle.tpal_syntax.specs.Conditions.{IsTarget, IsNote, IsBlock, IsHandler}
use Rattle.tpal_syntax.specs.Text.{◌+++◌, line, policy_text, kind_text, rename_text, carries_text}
use Rattle.tpal_syntax.specs.Text.{target_text, note_text, instr_text, term_text, number_text}
use Rattle.tpal_syntax.specs.Text.{block_text, stands_in}
use Rattle.tpal_syntax.specs.Readers.{word_at, many, policy_at, renames_at, kind_at}
use Rattle.tpal_print.proofs.Reading.{note_at, instr_line_at, term_line_at, behind_number, block_at}
use Rattle.tpal_print.proofs.Reading.{relabel, relabel_term, relabel_note, relabel_block}
use Rattle.tpal_print.proofs.Pieces.{Words, stops, and_left, and_right, below, number_comes}
use Rattle.tpal_print.proofs.Pieces.{word_comes}
use Rattle.tpal_print.proofs.Lines.{instr_comes, term_comes, term_is_no_instr}
use Rattle.tpal_print.proofs.Notes.{Comes, many_come, renames_come, renamed_registers, carries_come}

-- ---- notes

pub policy_mid : (comm : Bool) (tail rest : List ℕ) → policy_at ((policy_text comm ++ (codes "; {" ++ tail)) ++ rest) ≡ Some (comm, tail ++ rest)
unfolding policy_at
policy_mid false tail rest = refl
policy_mid true tail rest = refl

pub kind_mid : (kind : CutKind) (tail rest : List ℕ) → kind_at ((kind_text kind ++ (codes "; carry " ++ tail)) ++ rest) ≡ Some (kind, tail ++ rest)
unfolding kind_at
kind_mid cut.Loop tail rest = refl
kind_mid cut.Call tail rest = refl

-- the lists of a note are no longer than n
abbrev pub ShortNote : ℕ → Note → Type 0
ShortNote n note.Plain = Unit {0}
ShortNote n (note.Ready handler) = Unit {0}
ShortNote n (note.Target t) = (length t.renames ≤ n) × (length t.carries ≤ n)

pub handler_below : (blocks : List Block) (h : ℕ) → IsHandler (slice_get blocks h) → ltb h (length blocks) ≡ true
handler_below [] h is = absurd is
handler_below (b ∷ blocks) zero is = lt-ltb 0 (length (b ∷ blocks)) (omega arith)
handler_below (b ∷ blocks) (suc h) is = let lt = below h (length blocks) (handler_below blocks h is) in lt-ltb (suc h) (length (b ∷ blocks)) (omega arith)

target_comes : (f : List ℕ → ℕ) (names : List (List ℕ)) (tables blocks n : ℕ) (t : Target) (more : List ℕ) → Words names blocks → tables ≤ 16 → IsTarget tables blocks t → length t.renames ≤ n → length t.carries ≤ n
    → note_at f n (target_text names t ++ (10 ∷ more)) ≡ Some (relabel_note (λ l. f (get_or names l [])) (note.Target t), 10 ∷ more)
unfolding note_at
target_comes f names tables blocks n t more words few ok short_renames short_carries =
    let rest = 10 ∷ more in
    let name = get_or names t.comb [] in
    let list = join_by rename_text (codes ", ") t.renames in
    let behind_kind = carries_text t.carries in
    let behind_name = codes "; " ++ (kind_text t.kind ++ (codes "; carry " ++ behind_kind)) in
    let behind_list = codes "}; @" ++ (name ++ behind_name) in
    let renames : renames_at n ((list ++ behind_list) ++ rest) ≡ Some (t.renames, codes "; @" ++ ((name ++ behind_name) ++ rest)) =
    ap (renames_at n) (append_assoc list behind_list rest) ∙ renames_come n t.renames (codes "; @" ++ ((name ++ behind_name) ++ rest)) (renamed_registers t.renames ok.registers) short_renames in
    let word : word_at ((name ++ behind_name) ++ rest) ≡ Some (name, behind_name ++ rest) =
    ap word_at (append_assoc name behind_name rest) ∙ word_comes name (behind_name ++ rest) (words t.comb (lt-ltb t.comb blocks ok.comb_is_block)) refl in
    rw (policy_mid t.comm (list ++ behind_list) rest, renames, word, kind_mid t.kind behind_kind rest, carries_come tables n t.carries more few ok.carries short_carries) refl

note_comes : (f : List ℕ → ℕ) (names : List (List ℕ)) (tables : List CodeTable) (blocks : List Block) (n : ℕ) (x : Note) (more : List ℕ) → Words names (length blocks) → length tables ≤ 16 → IsNote tables blocks x → ShortNote n x
    → note_at f n (note_text names x ++ (10 ∷ more)) ≡ Some (relabel_note (λ l. f (get_or names l [])) x, 10 ∷ more)
unfolding note_at
note_comes f names tables blocks n note.Plain more words few ok short = refl
note_comes f names tables blocks n (note.Ready h) more words few ok short = rw (word_comes (get_or names h []) (10 ∷ more) (words h (handler_below blocks h ok)) refl) refl
note_comes f names tables blocks n (note.Target t) more words few ok short = target_comes f names (length tables) (length blocks) n t more words few ok short.0 short.1

-- ---- lines and blocks

abbrev pub instr_line : List (List ℕ) → Instr → List ℕ
instr_line names i = line (codes "  " +++ instr_text names i)

abbrev pub term_line : List (List ℕ) → Term → List ℕ
term_line names t = line (codes "  " +++ term_text names t)

abbrev Any_rest : List ℕ → Type 0
Any_rest rest = Unit {0}

instr_lines : (f : List ℕ → ℕ) (names : List (List ℕ)) (tables blocks : ℕ) (is : List Instr) → Words names blocks → tables ≤ 16 → list_all (is_instr tables blocks) is ≡ true
    → AllByRecursion (Comes (instr_line_at f) (instr_line names) (relabel (λ l. f (get_or names l []))) Any_rest) is
instr_lines f names tables blocks [] words few ok = tt
instr_lines f names tables blocks (i ∷ is) words few ok = (
  record {
    comes = λ rest p. rw (append_assoc (instr_text names i) (10 ∷ []) rest, instr_comes f names tables blocks i rest words few (and_left (is_instr tables blocks i) (list_all (is_instr tables blocks) is) ok)) refl;
    keeps = λ rest p. tt;
  },
  instr_lines f names tables blocks is words few (and_right (is_instr tables blocks i) (list_all (is_instr tables blocks) is) ok),
)

term_line_comes : (f : List ℕ → ℕ) (names : List (List ℕ)) (blocks : ℕ) (t : Term) (rest : List ℕ) → Words names blocks → is_term blocks t ≡ true
    → term_line_at f (term_line names t ++ rest) ≡ Some (relabel_term (λ l. f (get_or names l [])) t, rest)
term_line_comes f names blocks t rest words ok = rw (append_assoc (term_text names t) (10 ∷ []) rest, term_comes f names blocks t rest words ok) refl

term_line_ends : (f : List ℕ → ℕ) (names : List (List ℕ)) (t : Term) (rest : List ℕ) → instr_line_at f (term_line names t ++ rest) ≡ None
term_line_ends f names t rest = rw (append_assoc (term_text names t) (10 ∷ []) rest, term_is_no_instr f names t (10 ∷ rest)) refl

-- behind a name stands no further byte of a word
pub name_stops : (v : Version) (k : ℕ) (more : List ℕ) → stops (number_text v k ++ (58 ∷ more)) ≡ true
name_stops One k more = refl
name_stops Two k more = refl

-- a block's number is read over
number_passed : (v : Version) (k : ℕ) (more : List ℕ) → k ≤ 65535 → behind_number v (number_text v k ++ (58 ∷ more)) ≡ Some (58 ∷ more)
unfolding behind_number
number_passed One k more le = refl
number_passed Two k more le = rw (number_comes 65535 k (58 ∷ more) le (omega arith) refl) refl

pub regroup : (n m x is t rest : List ℕ) → (((n ++ (m ++ (58 ∷ 32 ∷ x))) ++ (10 ∷ [])) ++ (is ++ t)) ++ rest ≡ n ++ (m ++ (58 ∷ 32 ∷ (x ++ (10 ∷ (is ++ (t ++ rest))))))
regroup n m x is t rest = simp append_assoc

-- the lists of a block are no longer than n
pub record ShortBlock (n : ℕ) (b : Block) : Type 0 where
  pub body : length b.body ≤ n
  pub note : ShortNote n b.note

pub block_comes : (v : Version) (f : List ℕ → ℕ) (names : List (List ℕ)) (tables : List CodeTable) (blocks : List Block) (n k : ℕ) (b : Block) (rest : List ℕ) → Words names (length blocks) → length tables ≤ 16 → k ≤ 65535 → IsBlock tables blocks b → ShortBlock n b
    → block_at v f n (block_text v names k b ++ rest) ≡ Some (relabel_block (λ l. f (get_or names l [])) b, rest)
block_comes v f names tables blocks n k b rest words few le ok short =
    let m = number_text v k in
    let h = λ (l : ℕ). f (get_or names l []) in
    let x = note_text names b.note in
    let is = flat_map (instr_line names) b.body in
    let t = term_line names b.term in
    let lines : many n (instr_line_at f) (is ++ (t ++ rest)) ≡ Some (map (relabel h) b.body, t ++ rest) =
    many_come (instr_line_at f) (instr_line names) (relabel h) Any_rest n b.body (t ++ rest) (instr_lines f names (length tables) (length blocks) b.body words few ok.body) tt (term_line_ends f names b.term rest) short.body in
    ap (block_at v f n) (regroup b.name m x is t rest)
    ∙ rw (
      word_comes b.name (m ++ (58 ∷ 32 ∷ (x ++ (10 ∷ (is ++ (t ++ rest)))))) ok.name (name_stops v k (32 ∷ (x ++ (10 ∷ (is ++ (t ++ rest)))))),
      number_passed v k (32 ∷ (x ++ (10 ∷ (is ++ (t ++ rest))))) le,
      note_comes f names tables blocks n b.note (is ++ (t ++ rest)) words few ok.note short.note,
      lines,
      term_line_comes f names (length blocks) b.term rest words ok.term,
    ) refl

-- each end stands in texts of version 2
pub all_stand : (blocks : List Block) → list_all (λ (b : Block). stands_in Two b.term) blocks ≡ true
all_stand [] = refl
all_stand (b ∷ blocks) = all_stand blocks
