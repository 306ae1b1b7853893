-- The names of the blocks of lines, one line after another.
use Rattle.std.proofs.Common.{◌≡◌, ℕ, Bool, true, false, cond, ◌&&◌, List, [], ◌∷◌, ◌++◌, length}
use Rattle.std.proofs.Common.{map, Option, Some, None, get_or, refl, sym, ap, subst, ◌∙◌}
use Rattle.std.proofs.Common.{append_assoc, append-nil, arith}
use Rattle.std.specs.Prelude.{codes}
use Rattle.std.specs.List.{list_all}
use Rattle.std.proofs.lemmas.List.{map-append}
use Rattle.tpal_syntax.specs.declared.notes.Note.{Note}
use Rattle.tpal_syntax.specs.declared.notes.Note.TheVariants as note
use Rattle.tpal_syntax.specs.declared.blocks.Block.{Block}
use Rattle.tpal_syntax.specs.declared.blocks.CodeTable.{CodeTable}
use Rattle.tpal_syntax.specs.declared.blocks.CodeTable.TheVariants.{Input, Made}
use Rattle.std.specs.Fmt.{decimal}
use Rattle.tpal_syntax.specs.declared.versions.Version.{Version}
use Rattle.tpal_syntax.specs.Parts.{is_word}
use Rattle.tpal_syntax.specs.Conditions.{is_ready, block_names}
use Rattle.tpal_syntax.specs.Text.{header_text, table_line, instr_text, term_text}
use Rattle.tpal_syntax.specs.Readers.{word_at}
use Rattle.tpal_print.proofs.Reading.{relabel_note}
use Rattle.tpal_asm.specs.Reading.{ended, header_rest}
use Rattle.tpal_asm.specs.Labels.{Head, names_of, place_of, with_head}
use Rattle.tpal_asm.specs.Drafts.{IsHead, AreHeads, no_line, new_head, known_head, no_head}
use Rattle.tpal_asm.specs.Drafts.{is_among, Draft, Outside, Inside, Says, a_table, a_header}
use Rattle.tpal_asm.specs.Drafts.{an_instr, an_end, Leads, stay, go_on, IsNewName, IsWithin}
use Rattle.tpal_asm.proofs.Sound.{OnName, Stands}
use Rattle.tpal_asm.proofs.Outside.{note_of_form}
use Rattle.tpal_asm.proofs.TableSteps.{no_header}
use Rattle.tpal_asm.proofs.HeaderLine.{header-said, header_comes}
use Rattle.tpal_asm.proofs.HeaderForm.{header-form}

-- ---- the head of one line

abbrev pub head_seen : Option (List ℕ × Note) → Option Head
head_seen None = None
head_seen (Some read) = Some (read.0, is_ready read.1)

-- what the line is read as, where all labels are 0
abbrev pub read_line : Version → List ℕ → Option (List ℕ × Note)
read_line v bytes = ended (header_rest v (place_of []) (bytes ++ (10 ∷ [])))

abbrev pub read_head : Version → List ℕ → Option Head
read_head v bytes = head_seen (read_line v bytes)

ready_again : (g : ℕ → ℕ) (x : Note) → is_ready (relabel_note g x) ≡ is_ready x
ready_again g note.Plain = refl
ready_again g (note.Ready h) = refl
ready_again g (note.Target t) = refl

pair_is : {A : Type 0} {B : Type 0} (p : A × B) (b : B) → p.1 ≡ b → (p.0, b) ≡ p
pair_is p b e = ap (λ c. (p.0, c)) (sym e)

-- each head is read
pub head-read : (v : Version) (bytes : List ℕ) (head : Head) → IsHead v bytes head → read_head v bytes ≡ Some head
head-read v bytes head is =
    let g : ℕ → ℕ = λ l. place_of [] (get_or is.names l []) in
    let come = header_comes v (place_of []) is.names is.number head.0 is.note is.low is.words is.word is.form in
    ap (read_head v) is.spelled ∙ ap head_seen come
    ∙ ap (λ (b : Bool). Some (head.0, b)) (ready_again g is.note)
    ∙ ap (λ (p : Head). Some p) (pair_is head (is_ready is.note) is.readiness)

record One (name : Option (List ℕ)) : Type 0 where
  word : List ℕ
  is : is_word word ≡ true
  stands : Stands (place_of []) (word ∷ []) name

one_name : (name : Option (List ℕ)) → OnName (λ n. is_word n ≡ true) name → One name
one_name None ok = record { word = codes "a"; is = refl; stands = tt }
one_name (Some n) ok = record { word = n; is = ok; stands = refl }

said_head : (v : Version) (bytes name : List ℕ) (x : Note) → read_line v bytes ≡ Some (name, x) → IsHead v bytes (name, is_ready x)
said_head v bytes name x read =
    let s = header-said v (place_of []) bytes (bytes ++ (10 ∷ [])) name x refl read in
    let o = one_name s.marked.name s.marked.word in
    record {
      names = o.word ∷ [];
      number = s.number;
      note = x;
      words = ap (λ (b : Bool). b && true) o.is;
      word = s.word;
      low = s.low;
      form = header-form v (bytes ++ (10 ∷ [])) name x read;
      spelled = s.spelled (o.word ∷ []) o.stands;
      readiness = refl;
    }

-- what is read is a head
pub read-head : (v : Version) (bytes : List ℕ) (head : Head) → read_head v bytes ≡ Some head → IsHead v bytes head
read-head v bytes head e = go (read_line v bytes) refl e
  where
    go : (o : Option (List ℕ × Note)) → read_line v bytes ≡ o → head_seen o ≡ Some head → IsHead v bytes head
    go None q e = absurd cc
    go (Some read) q e =
        let is : (read.0, is_ready read.1) ≡ head = inner (read.0, is_ready read.1) head e in
        subst (IsHead v bytes) is (said_head v bytes read.0 read.1 q)
      where
        inner : (a b : Head) → Some a ≡ Some b → a ≡ b
        inner a b e = cc

pub read-none : (v : Version) (bytes : List ℕ) → ((head : Head) → ¬ IsHead v bytes head) → read_head v bytes ≡ None
read-none v bytes never = go (read_head v bytes) refl
  where
    go : (o : Option Head) → read_head v bytes ≡ o → o ≡ None
    go None e = refl
    go (Some head) e = absurd (never head (read-head v bytes head e))

-- ---- the heads of lines

abbrev pub with_read : List Head → Option Head → List Head
with_read hs None = hs
with_read hs (Some head) = with_head hs head

abbrev pub heads_after : Version → List Head → List (List ℕ) → List Head
heads_after v hs [] = hs
heads_after v hs (bytes ∷ lines) = heads_after v (with_read hs (read_head v bytes)) lines

new_one : (hs : List Head) (head : Head) → is_among head.0 (names_of hs) ≡ false → with_head hs head ≡ hs ++ head ∷ []
new_one hs head e = ap (λ (b : Bool). cond b hs (hs ++ head ∷ [])) e

known_one : (hs : List Head) (head : Head) → is_among head.0 (names_of hs) ≡ true → with_head hs head ≡ hs
known_one hs head e = ap (λ (b : Bool). cond b hs (hs ++ head ∷ [])) e

pub heads-are : {v : Version} {hs : List Head} {lines : List (List ℕ)} {last : List Head} → AreHeads v hs lines last → last ≡ heads_after v hs lines
heads-are {v} (no_line heads) = refl
heads-are {v} (new_head heads last head bytes lines is new rest) =
    heads-are rest ∙ ap (λ (hs : List Head). heads_after v hs lines) (sym (ap (with_read heads) (head-read v bytes head is) ∙ new_one heads head new))
heads-are {v} (known_head heads last head bytes lines is known rest) =
    heads-are rest ∙ ap (λ (hs : List Head). heads_after v hs lines) (sym (ap (with_read heads) (head-read v bytes head is) ∙ known_one heads head known))
heads-are {v} (no_head heads last bytes lines never rest) =
    heads-are rest ∙ ap (λ (hs : List Head). heads_after v hs lines) (sym (ap (with_read heads) (read-none v bytes never)))

one_more : (v : Version) (hs : List Head) (bytes : List ℕ) (lines : List (List ℕ)) (head : Head) (b : Bool) (last : List Head) → IsHead v bytes head → is_among head.0 (names_of hs) ≡ b
    → AreHeads v (cond b hs (hs ++ head ∷ [])) lines last → AreHeads v hs (bytes ∷ lines) last
one_more v hs bytes lines head true last is e rest = known_head hs last head bytes lines is e rest
one_more v hs bytes lines head false last is e rest = new_head hs last head bytes lines is e rest

step_head : (v : Version) (hs : List Head) (bytes : List ℕ) (lines : List (List ℕ)) (o : Option Head) (last : List Head) → read_head v bytes ≡ o → AreHeads v (with_read hs o) lines last → AreHeads v hs (bytes ∷ lines) last
step_head v hs bytes lines None last e rest = no_head hs last bytes lines (λ head is. clash head (sym e ∙ head-read v bytes head is)) rest
  where
    clash : (head : Head) → None ≡ Some head → ⊥
    clash head e = cc
step_head v hs bytes lines (Some head) last e rest = one_more v hs bytes lines head (is_among head.0 (names_of hs)) last (read-head v bytes head e) refl rest

pub are-heads : (v : Version) (hs : List Head) (lines : List (List ℕ)) → AreHeads v hs lines (heads_after v hs lines)
are-heads v hs [] = no_line hs
are-heads v hs (bytes ∷ lines) = step_head v hs bytes lines (read_head v bytes) (heads_after v hs (bytes ∷ lines)) refl (are-heads v (with_read hs (read_head v bytes)) lines)

pub heads-append : (v : Version) (hs : List Head) (xs ys : List (List ℕ)) → heads_after v hs (xs ++ ys) ≡ heads_after v (heads_after v hs xs) ys
heads-append v hs [] ys = refl
heads-append v hs (x ∷ xs) ys = heads-append v (with_read hs (read_head v x)) xs ys

-- the names that were known come first
more_by : (hs : List Head) (o : Option Head) → (more : List Head) × (with_read hs o ≡ hs ++ more)
more_by hs None = ([], sym (append-nil hs))
more_by hs (Some head) = go (is_among head.0 (names_of hs))
  where
    go : (b : Bool) → (more : List Head) × (cond b hs (hs ++ head ∷ []) ≡ hs ++ more)
    go true = ([], sym (append-nil hs))
    go false = (head ∷ [], refl)

pub heads-front : (v : Version) (hs : List Head) (lines : List (List ℕ)) → (more : List Head) × (heads_after v hs lines ≡ hs ++ more)
heads-front v hs [] = ([], sym (append-nil hs))
heads-front v hs (bytes ∷ lines) =
    let one = more_by hs (read_head v bytes) in
    let rest = heads-front v (with_read hs (read_head v bytes)) lines in
    (one.0 ++ rest.0, rest.1 ∙ ap (λ (xs : List Head). xs ++ rest.0) one.1 ∙ append_assoc hs one.0 rest.0)

-- ---- the heads of drafts

abbrev pub block_head : Block → Head
block_head b = (b.name, is_ready b.note)

abbrev pub stage_heads : Draft → List Head
stage_heads (Outside tables blocks) = map block_head blocks
stage_heads (Inside tables blocks name x body) = map block_head blocks ++ (name, is_ready x) ∷ []

pub names-heads : (blocks : List Block) → names_of (map block_head blocks) ≡ block_names blocks
names-heads [] = refl
names-heads (b ∷ blocks) = ap (λ (ns : List (List ℕ)). b.name ∷ ns) (names-heads blocks)

no_table_head : (v : Version) (n : ℕ) (table : CodeTable) (head : Head) → ¬ IsHead v (table_line n table) head
no_table_head v n (Input name) head is =
    no_header v is.names is.number head.0 ((decimal n ++ (codes " input " ++ name)) ++ (10 ∷ [])) is.note is.word (ap (λ (y : List ℕ). y ++ (10 ∷ [])) (sym is.spelled))
no_table_head v n Made head is =
    no_header v is.names is.number head.0 ((decimal n ++ codes " made") ++ (10 ∷ [])) is.note is.word (ap (λ (y : List ℕ). y ++ (10 ∷ [])) (sym is.spelled))

spaces_none : (v : Version) (text : List ℕ) → read_head v (codes "  " ++ text) ≡ None
unfolding header_rest word_at
spaces_none v text = refl

-- what a line says is what is read of it
pub says-heads : {v : Version} {hs : List Head} {names : List (List ℕ)} {draft : Draft} {bytes : List ℕ} {next : Draft} → Says v hs names draft bytes next → list_all is_word names ≡ true → IsNewName next → IsWithin next
    → with_read (stage_heads draft) (read_head v bytes) ≡ stage_heads next
says-heads {v} {hs} {names} (a_table tables table new) words named within = ap (with_read []) (read-none v (table_line (length tables) table) (no_table_head v (length tables) table))
says-heads {v} {hs} {names} (a_header tables blocks name x word of) words named within =
    let is : IsHead v (header_text v names (length blocks) name x) (name, is_ready x) = record { names = names; number = length blocks; note = x; words = words; word = word; low = omega (arith, within.1); form = note_of_form hs names (length tables) x within.0 of; spelled = refl; readiness = refl } in
    let new : is_among name (names_of (map block_head blocks)) ≡ false = ap (is_among name) (names-heads blocks) ∙ named in
    ap (with_read (map block_head blocks)) (head-read v (header_text v names (length blocks) name x) (name, is_ready x) is) ∙ new_one (map block_head blocks) (name, is_ready x) new
says-heads {v} {hs} {names} (an_instr tables blocks name x body i ok) words named within =
    ap (with_read (map block_head blocks ++ (name, is_ready x) ∷ [])) (spaces_none v (instr_text names i))
says-heads {v} {hs} {names} (an_end tables blocks name x body t ok stands) words named within =
    ap (with_read (map block_head blocks ++ (name, is_ready x) ∷ [])) (spaces_none v (term_text names t))
    ∙ sym (map-append block_head blocks (record { name = name; note = x; body = body; term = t } ∷ []))

pub leads-heads : {v : Version} {hs : List Head} {draft : Draft} {lines : List (List ℕ)} {last : Draft} → Leads v hs draft lines last → list_all is_word (names_of hs) ≡ true → heads_after v (stage_heads draft) lines ≡ stage_heads last
leads-heads {v} (stay draft) words = refl
leads-heads {v} (go_on draft next last bytes lines says named within rest) words =
    ap (λ (hs : List Head). heads_after v hs lines) (says-heads says words named within) ∙ leads-heads rest words

-- ---- the whole blocks are the first ones of the text

abbrev pub blocks_of : Draft → List Block
blocks_of (Outside tables blocks) = blocks
blocks_of (Inside tables blocks name x body) = blocks

names_append : (xs ys : List Head) → names_of (xs ++ ys) ≡ names_of xs ++ names_of ys
names_append xs ys = map-append (λ (h : Head). h.0) xs ys

names_front : (draft : Draft) → (more : List (List ℕ)) × (names_of (stage_heads draft) ≡ block_names (blocks_of draft) ++ more)
names_front (Outside tables blocks) = ([], names-heads blocks ∙ sym (append-nil (block_names blocks)))
names_front (Inside tables blocks name x body) =
    (name ∷ [], names_append (map block_head blocks) ((name, is_ready x) ∷ []) ∙ ap (λ (ns : List (List ℕ)). ns ++ name ∷ []) (names-heads blocks))

pub blocks-front : (v : Version) (hs : List Head) (draft : Draft) (before behind : List (List ℕ)) → AreHeads v [] (before ++ behind) hs → Leads v hs (Outside [] []) before draft → list_all is_word (names_of hs) ≡ true
    → (more : List (List ℕ)) × (names_of hs ≡ block_names (blocks_of draft) ++ more)
blocks-front v hs draft before behind are leads words =
    let all : hs ≡ heads_after v (stage_heads draft) behind = heads-are are ∙ heads-append v [] before behind ∙ ap (λ (xs : List Head). heads_after v xs behind) (leads-heads leads words) in
    let rest = heads-front v (stage_heads draft) behind in
    let front = names_front draft in (
      front.0 ++ names_of rest.0,
      ap names_of (all ∙ rest.1) ∙ names_append (stage_heads draft) rest.0 ∙ ap (λ (ns : List (List ℕ)). ns ++ names_of rest.0) front.1 ∙ append_assoc (block_names (blocks_of draft)) front.0 (names_of rest.0),
    )
