-- What holds of the tables and blocks that lines say, and of the text.
use Rattle.std.proofs.Common.{◌≡◌, ℕ, zero, suc, ◌+◌, ◌≤◌, ◌<◌, Bool, true, false, ◌&&◌, ◌||◌, List}
use Rattle.std.proofs.Common.{[], ◌∷◌, ◌++◌, length, map, get_or, refl, sym, ap, subst, ◌∙◌}
use Rattle.std.proofs.Common.{append_assoc, append-nil, length-append, inl, inr, arith}
use Rattle.std.specs.Prelude.{bytes_eq, slice_get}
use Rattle.std.specs.List.{list_all, AllByRecursion, flat_map, join_with_byte}
use Rattle.std.proofs.lemmas.Bool.{cases_lt, false≢true}
use Rattle.std.proofs.lemmas.Grind.{flat_map-append}
use Rattle.std.proofs.lemmas.List.{map-append, get_or_append_left}
use Rattle.std.proofs.lemmas.List.Concat.{flat_map-cons}
use Rattle.std.proofs.lemmas.List.Folds.{list_all-append}
use Rattle.std.proofs.lemmas.List.Splits.{join_with_byte-slice_split}
use Rattle.std.proofs.lemmas.Slice.Eq.{bytes_eq-Decides}
use Rattle.std.proofs.Math.Seq.{get_or-append_seam}
use Rattle.tpal_syntax.specs.declared.instructions.Instr.{Instr}
use Rattle.tpal_syntax.specs.declared.notes.Note.{Note}
use Rattle.tpal_syntax.specs.declared.notes.Note.TheVariants as note
use Rattle.tpal_syntax.specs.declared.blocks.Block.{Block}
use Rattle.tpal_syntax.specs.declared.blocks.CodeTable.{CodeTable}
use Rattle.tpal_syntax.specs.declared.blocks.CodeTable.TheVariants.{Input, Made}
use Rattle.tpal_syntax.specs.Parts.{is_word, is_instr, is_term}
use Rattle.tpal_syntax.specs.Conditions.{IsCode, IsBlock, IsNote, IsHandler, IsTarget, AreDistinct}
use Rattle.tpal_syntax.specs.Conditions.{AreInputs, input_names, block_names}
use Rattle.tpal_syntax.specs.declared.versions.Version.{Version}
use Rattle.tpal_syntax.specs.Text.{line, stands_in, header_text, block_text}
use Rattle.tpal_syntax.specs.Text.{table_line, tables_text, blocks_text, lines_of, all_stand_in}
use Rattle.std.specs.Cmp.Derive.{both_true}
use Rattle.tpal_print.proofs.Whole.{instr_line, term_line}
use Rattle.tpal_asm.specs.Lines.{pieces}
use Rattle.tpal_asm.specs.Labels.{Head, names_of, place_of}
use Rattle.tpal_asm.specs.Drafts.{AreHeads, is_among, IsNewTable, IsNoteOf, Draft, Outside, Inside}
use Rattle.tpal_asm.specs.Drafts.{Says, a_table, a_header, an_instr, an_end, Leads, stay, go_on}
use Rattle.tpal_asm.specs.Drafts.{IsNewName, IsWithin}
use Rattle.tpal_asm.proofs.Finding.{place-known, place-right, length-names}
use Rattle.tpal_asm.proofs.Outside.{length-block_names}
use Rattle.tpal_asm.proofs.Heads.{heads-are, leads-heads, block_head, names-heads}

-- ---- distinct names

among_at : (n : List ℕ) (names : List (List ℕ)) (i : ℕ) → i < length names → get_or names i [] ≡ n → is_among n names ≡ true
among_at n [] i lt e = absurd (omega arith)
among_at n (m ∷ names) zero lt e = ap (λ (b : Bool). b || is_among n names) ((bytes_eq-Decides n m).1 (sym e))
among_at n (m ∷ names) (suc i) lt e = either (bytes_eq n m) (is_among n names) (among_at n names i (omega arith) e)
  where
    either : (a b : Bool) → b ≡ true → (a || b) ≡ true
    either true b e = refl
    either false b e = e

get-other : (names : List (List ℕ)) (i : ℕ) (d e : List ℕ) → i < length names → get_or names i d ≡ get_or names i e
get-other [] i d e lt = absurd (omega arith)
get-other (n ∷ names) zero d e lt = refl
get-other (n ∷ names) (suc i) d e lt = get-other names i d e (omega arith)

pub distinct-snoc : (names : List (List ℕ)) (n : List ℕ) → AreDistinct names → is_among n names ≡ false → AreDistinct (names ++ n ∷ [])
distinct-snoc names n distinct new i j d lt inside e = elim (cases_lt j (length names)) [
  | inl below ↦ distinct i j d lt below (sym (get_or_append_left names (n ∷ []) d i (omega (arith, lt, below))) ∙ e ∙ get_or_append_left names (n ∷ []) d j below)
  | inr past ↦
      let len : length (names ++ n ∷ []) ≡ length names + 1 = length-append names (n ∷ []) in
      let at : j ≡ length names = omega (arith, len, inside, past) in
      let first : i < length names = omega (arith, lt, at) in
      let end : get_or (names ++ n ∷ []) j d ≡ n = ap (λ (k : ℕ). get_or (names ++ n ∷ []) k d) at ∙ get_or-append_seam names n [] d in
      false≢true (sym new ∙ among_at n names i first (get-other names i [] d first ∙ sym (get_or_append_left names (n ∷ []) d i first) ∙ e ∙ end))
]

pub all-snoc : {A : Type 0} (P : A → Type 0) (xs : List A) (x : A) → AllByRecursion P xs → P x → AllByRecursion P (xs ++ x ∷ [])
all-snoc P [] x all p = (p, tt)
all-snoc P (y ∷ xs) x all p = (all.0, all-snoc P xs x all.1 p)

list_all-snoc : {A : Type 0} (p : A → Bool) (xs : List A) (x : A) → list_all p xs ≡ true → p x ≡ true → list_all p (xs ++ x ∷ []) ≡ true
list_all-snoc p xs x all one = list_all-append p xs (x ∷ []) ∙ ap (λ (b : Bool). b && (p x && true)) all ∙ ap (λ (b : Bool). b && true) one

-- ---- so far

pub record IsPart (v : Version) (heads : List Head) (names : List (List ℕ)) (tables : ℕ) (b : Block) : Type 0 where
  pub name : is_word b.name ≡ true
  pub note : IsNoteOf heads names tables b.note
  pub body : list_all (is_instr tables (length names)) b.body ≡ true
  pub term : is_term (length names) b.term ≡ true
  pub stands : stands_in v b.term ≡ true

pub record Sofar (v : Version) (heads : List Head) (names : List (List ℕ)) (tables : List CodeTable) (blocks : List Block) : Type 0 where
  pub few_tables : length tables ≤ 16
  pub few_blocks : length blocks ≤ 65536
  pub inputs : AreInputs tables
  pub differ : AreDistinct (block_names blocks)
  pub each : AllByRecursion (IsPart v heads names (length tables)) blocks

pub record Begins (v : Version) (heads : List Head) (names : List (List ℕ)) (tables : List CodeTable) (blocks : List Block) (name : List ℕ) (x : Note) (body : List Instr) : Type 0 where
  pub whole : Sofar v heads names tables blocks
  pub word : is_word name ≡ true
  pub noted : IsNoteOf heads names (length tables) x
  pub each : list_all (is_instr (length tables) (length names)) body ≡ true
  pub new : is_among name (block_names blocks) ≡ false

abbrev pub Good : Version → List Head → List (List ℕ) → Draft → Type 0
Good v heads names (Outside tables blocks) = Sofar v heads names tables blocks
Good v heads names (Inside tables blocks name x body) = Begins v heads names tables blocks name x body

pub inputs-append : (xs ys : List CodeTable) → input_names (xs ++ ys) ≡ input_names xs ++ input_names ys
inputs-append [] ys = refl
inputs-append (Input n ∷ xs) ys = ap (λ (ns : List (List ℕ)). n ∷ ns) (inputs-append xs ys)
inputs-append (Made ∷ xs) ys = inputs-append xs ys

inputs-snoc : (tables : List CodeTable) (table : CodeTable) → AreInputs tables → IsNewTable tables table → AreInputs (tables ++ table ∷ [])
inputs-snoc tables (Input name) of new =
    let names : input_names tables ++ name ∷ [] ≡ input_names (tables ++ Input name ∷ []) = sym (inputs-append tables (Input name ∷ [])) in
    let P : List (List ℕ) → Type 0 = λ ns. list_all is_word ns ≡ true in
    record {
      words = subst P names (list_all-snoc is_word (input_names tables) name of.words new.0);
      names_differ = subst AreDistinct names (distinct-snoc (input_names tables) name of.names_differ new.1);
    }
inputs-snoc tables Made of new =
    let names : input_names tables ≡ input_names (tables ++ Made ∷ []) = sym (inputs-append tables (Made ∷ []) ∙ append-nil (input_names tables)) in
    let P : List (List ℕ) → Type 0 = λ ns. list_all is_word ns ≡ true in
    record { words = subst P names of.words; names_differ = subst AreDistinct names of.names_differ }

says-good : {v : Version} {heads : List Head} {names : List (List ℕ)} {draft : Draft} {bytes : List ℕ} {next : Draft} → Says v heads names draft bytes next → Good v heads names draft → IsNewName next → IsWithin next → Good v heads names next
says-good (a_table tables table new) good named within =
    record { few_tables = within.0; few_blocks = within.1; inputs = inputs-snoc tables table good.inputs new; differ = good.differ; each = tt }
says-good (a_header tables blocks name x word of) good named within = record { whole = good; word = word; noted = of; each = refl; new = named }
says-good {v} {heads} {names} (an_instr tables blocks name x body i ok) good named within =
    record { whole = good.whole; word = good.word; noted = good.noted; each = list_all-snoc (is_instr (length tables) (length names)) body i good.each ok; new = good.new }
says-good {v} {heads} {names} (an_end tables blocks name x body t ok stands) good named within =
    let b : Block = record { name = name; note = x; body = body; term = t } in
    let ns : block_names blocks ++ name ∷ [] ≡ block_names (blocks ++ b ∷ []) = sym (map-append (λ (b : Block). b.name) blocks (b ∷ [])) in
    record {
      few_tables = within.0;
      few_blocks = within.1;
      inputs = good.whole.inputs;
      differ = subst AreDistinct ns (distinct-snoc (block_names blocks) name good.whole.differ good.new);
      each = all-snoc (IsPart v heads names (length tables)) blocks b good.whole.each record { name = good.word; note = good.noted; body = good.each; term = ok; stands = stands };
    }

pub leads-good : {v : Version} {heads : List Head} {draft : Draft} {lines : List (List ℕ)} {last : Draft} → Leads v heads draft lines last → Good v heads (names_of heads) draft → Good v heads (names_of heads) last
leads-good (stay draft) good = good
leads-good (go_on draft next last bytes lines says named within rest) good = leads-good rest (says-good says good named within)

-- ---- the text

abbrev pub stage_text : Version → List (List ℕ) → Draft → List ℕ
stage_text v names (Outside tables blocks) = tables_text 0 tables ++ blocks_text v names 0 blocks
stage_text v names (Inside tables blocks name x body) = (tables_text 0 tables ++ blocks_text v names 0 blocks) ++ (line (header_text v names (length blocks) name x) ++ flat_map (instr_line names) body)

none_before : (n : ℕ) → 0 + n ≡ n
none_before n = omega arith

tables-snoc : (k : ℕ) (tables : List CodeTable) (table : CodeTable) → tables_text k (tables ++ table ∷ []) ≡ tables_text k tables ++ line (table_line (k + length tables) table)
tables-snoc k [] table = ap (λ (n : ℕ). line (table_line n table) ++ []) (plus k) ∙ append-nil (line (table_line (k + 0) table))
  where
    plus : (k : ℕ) → k ≡ k + 0
    plus k = omega arith
tables-snoc k (t ∷ tables) table =
    let at : (k + 1) + length tables ≡ k + length (t ∷ tables) = omega arith in
    ap (λ (x : List ℕ). line (table_line k t) ++ x) (tables-snoc (k + 1) tables table ∙ ap (λ (n : ℕ). tables_text (k + 1) tables ++ line (table_line n table)) at)
    ∙ sym (append_assoc (line (table_line k t)) (tables_text (k + 1) tables) (line (table_line (k + length (t ∷ tables)) table)))

blocks-snoc : (v : Version) (names : List (List ℕ)) (k : ℕ) (blocks : List Block) (b : Block) → blocks_text v names k (blocks ++ b ∷ []) ≡ blocks_text v names k blocks ++ block_text v names (k + length blocks) b
blocks-snoc v names k [] b = ap (λ (n : ℕ). block_text v names n b ++ []) (plus k) ∙ append-nil (block_text v names (k + 0) b)
  where
    plus : (k : ℕ) → k ≡ k + 0
    plus k = omega arith
blocks-snoc v names k (c ∷ blocks) b =
    let at : (k + 1) + length blocks ≡ k + length (c ∷ blocks) = omega arith in
    ap (λ (x : List ℕ). block_text v names k c ++ x) (blocks-snoc v names (k + 1) blocks b ∙ ap (λ (n : ℕ). blocks_text v names (k + 1) blocks ++ block_text v names n b) at)
    ∙ sym (append_assoc (block_text v names k c) (blocks_text v names (k + 1) blocks) (block_text v names (k + length (c ∷ blocks)) b))

flat-snoc : {A : Type 0} (f : A → List ℕ) (xs : List A) (x : A) → flat_map f (xs ++ x ∷ []) ≡ flat_map f xs ++ f x
flat-snoc f xs x = flat_map-append f xs (x ∷ []) ∙ ap (λ (y : List ℕ). flat_map f xs ++ y) (flat_map-cons f x [] ∙ append-nil (f x))

says-text : {v : Version} {heads : List Head} {names : List (List ℕ)} {draft : Draft} {bytes : List ℕ} {next : Draft} → Says v heads names draft bytes next → stage_text v names next ≡ stage_text v names draft ++ line bytes
says-text {v} {heads} {names} (a_table tables table new) =
    append-nil (tables_text 0 (tables ++ table ∷ [])) ∙ tables-snoc 0 tables table ∙ ap (λ (n : ℕ). tables_text 0 tables ++ line (table_line n table)) (none_before (length tables)) ∙ ap (λ (x : List ℕ). x ++ line (table_line (length tables) table)) (sym (append-nil (tables_text 0 tables)))
says-text {v} {heads} {names} (a_header tables blocks name x word of) =
    ap (λ (y : List ℕ). (tables_text 0 tables ++ blocks_text v names 0 blocks) ++ y) (append-nil (line (header_text v names (length blocks) name x)))
says-text {v} {heads} {names} (an_instr tables blocks name x body i ok) =
    let front = tables_text 0 tables ++ blocks_text v names 0 blocks in
    let head = line (header_text v names (length blocks) name x) in
    let is = flat_map (instr_line names) body in
    ap (λ (y : List ℕ). front ++ (head ++ y)) (flat-snoc (instr_line names) body i)
    ∙ ap (λ (y : List ℕ). front ++ y) (sym (append_assoc head is (instr_line names i))) ∙ sym (append_assoc front (head ++ is) (instr_line names i))
says-text {v} {heads} {names} (an_end tables blocks name x body t ok stands) =
    let b : Block = record { name = name; note = x; body = body; term = t } in
    let ts = tables_text 0 tables in
    let bs = blocks_text v names 0 blocks in
    let head = line (header_text v names (length blocks) name x) in
    let is = flat_map (instr_line names) body in
    let end = term_line names t in
    ap (λ (y : List ℕ). ts ++ y) (blocks-snoc v names 0 blocks b ∙ ap (λ (n : ℕ). bs ++ block_text v names n b) (none_before (length blocks)))
    ∙ sym (append_assoc ts bs (block_text v names (length blocks) b))
    ∙ ap (λ (y : List ℕ). (ts ++ bs) ++ y) (sym (append_assoc head is end)) ∙ sym (append_assoc (ts ++ bs) (head ++ is) end)

pub leads-text : {v : Version} {heads : List Head} {draft : Draft} {lines : List (List ℕ)} {last : Draft} → Leads v heads draft lines last → stage_text v (names_of heads) last ≡ stage_text v (names_of heads) draft ++ flat_map line lines
leads-text {v} {heads} (stay draft) = sym (append-nil (stage_text v (names_of heads) draft))
leads-text {v} {heads} (go_on draft next last bytes lines says named within rest) =
    leads-text rest ∙ ap (λ (x : List ℕ). x ++ flat_map line lines) (says-text says) ∙ append_assoc (stage_text v (names_of heads) draft) (line bytes) (flat_map line lines)
    ∙ ap (λ (x : List ℕ). stage_text v (names_of heads) draft ++ x) (sym (flat_map-cons line bytes lines))

joined : (lines : List (List ℕ)) → join_with_byte 10 (lines ++ [] ∷ []) ≡ flat_map line lines
joined [] = refl
joined (x ∷ []) = sym (flat_map-cons line x [] ∙ append-nil (line x))
joined (x ∷ y ∷ lines) = ap (λ (r : List ℕ). x ++ (10 ∷ r)) (joined (y ∷ lines)) ∙ sym (flat_map-cons line x (y ∷ lines) ∙ append_assoc x (10 ∷ []) (flat_map line (y ∷ lines)))

pub text-lines : (text : List ℕ) (lines : List (List ℕ)) → pieces text ≡ lines ++ [] ∷ [] → text ≡ flat_map line lines
text-lines text lines e = sym (join_with_byte-slice_split 10 text) ∙ ap (join_with_byte 10) e ∙ joined lines

-- ---- each name is at its own place

pub place-own : (hs : List Head) (l : ℕ) → AreDistinct (names_of hs) → l < length hs → place_of hs (get_or (names_of hs) l []) ≡ l
place-own hs l distinct lt =
    let n = get_or (names_of hs) l [] in
    let known = place-known hs l lt in
    let same = place-right hs n known in
    let len = length-names hs in
    elim (cases_lt (place_of hs n) l) [
      | inl below ↦ absurd (distinct (place_of hs n) l [] below (omega (arith, len, lt)) same)
      | inr past ↦ elim (cases_lt l (place_of hs n)) [
        | inl above ↦ absurd (distinct l (place_of hs n) [] above (omega (arith, len, known)) (sym same))
        | inr not_above ↦ omega (arith, past, not_above)
      ]
    ]

handler_at : (blocks : List Block) (h : ℕ) → h < length blocks → (get_or (map block_head blocks) h ([], false)).1 ≡ false → IsHandler (slice_get blocks h)
handler_at [] h lt e = absurd (omega arith)
handler_at (b ∷ blocks) zero lt e = e
handler_at (b ∷ blocks) (suc h) lt e = handler_at blocks h (omega arith) e

note_is : (tables : List CodeTable) (blocks : List Block) (x : Note) → AreDistinct (names_of (map block_head blocks)) → IsNoteOf (map block_head blocks) (names_of (map block_head blocks)) (length tables) x → IsNote tables blocks x
note_is tables blocks note.Plain distinct of = tt
note_is tables blocks (note.Ready h) distinct of =
    let hs = map block_head blocks in
    let count : length (names_of hs) ≡ length blocks = ap (length {A = List ℕ}) (names-heads blocks) ∙ length-block_names blocks in
    let lt : h < length hs = omega (arith, of.0, length-names hs) in
    handler_at blocks h (omega (arith, of.0, count)) (ap (λ (p : ℕ). (get_or hs p ([], false)).1) (sym (place-own hs h distinct lt)) ∙ of.1)
note_is tables blocks (note.Target t) distinct of =
    let count : length (names_of (map block_head blocks)) ≡ length blocks = ap (length {A = List ℕ}) (names-heads blocks) ∙ length-block_names blocks in
    let P : ℕ → Type 0 = λ n. IsTarget (length tables) n t in
    subst P count of

each_is : (v : Version) (tables : List CodeTable) (all blocks : List Block) → AreDistinct (names_of (map block_head all)) → AllByRecursion (IsPart v (map block_head all) (names_of (map block_head all)) (length tables)) blocks → AllByRecursion (IsBlock tables all) blocks
each_is v tables all [] distinct parts = tt
each_is v tables all (b ∷ blocks) distinct parts =
    let count : length (names_of (map block_head all)) ≡ length all = ap (length {A = List ℕ}) (names-heads all) ∙ length-block_names all in
    let P : ℕ → Type 0 = λ n. list_all (is_instr (length tables) n) b.body ≡ true in
    let Q : ℕ → Type 0 = λ n. is_term n b.term ≡ true in (
      record { name = parts.0.name; note = note_is tables all b.note distinct parts.0.note; body = subst P count parts.0.body; term = subst Q count parts.0.term },
      each_is v tables all blocks distinct parts.1,
    )

each_stands : (v : Version) (heads : List Head) (names : List (List ℕ)) (tables : ℕ) (blocks : List Block) → AllByRecursion (IsPart v heads names tables) blocks → all_stand_in v blocks ≡ true
each_stands v heads names tables [] parts = refl
each_stands v heads names tables (b ∷ blocks) parts = both_true parts.0.stands (each_stands v heads names tables blocks parts.1)

-- ---- lines that lead to whole blocks are those of a code

module _ (v : Version) (hs : List Head) (lines : List (List ℕ)) (tables : List CodeTable) (blocks : List Block) (are : AreHeads v [] lines hs) (words : list_all is_word (names_of hs) ≡ true)
    (leads : Leads v hs (Outside [] []) lines (Outside tables blocks)) where
  pub heads-whole : hs ≡ map block_head blocks
  heads-whole = heads-are are ∙ leads-heads leads words

  pub names-whole : names_of hs ≡ block_names blocks
  names-whole = ap names_of heads-whole ∙ names-heads blocks

  start : Good v hs (names_of hs) (Outside [] [])
  start = record {
    few_tables = omega arith;
    few_blocks = omega arith;
    inputs = record { words = refl; names_differ = λ i j d lt inside e. absurd (omega arith) };
    differ = λ i j d lt inside e. absurd (omega arith);
    each = tt;
  }

  pub leads-code : 1 ≤ length blocks → IsCode tables blocks
  leads-code some =
      let good = leads-good leads start in
      let P : List Head → Type 0 = λ xs. AllByRecursion (IsPart v xs (names_of xs) (length tables)) blocks in
      record {
        some_block = some;
        few_blocks = good.few_blocks;
        few_tables = good.few_tables;
        block_names_differ = good.differ;
        inputs = good.inputs;
        each_block = each_is v tables blocks blocks (subst AreDistinct (sym (names-heads blocks)) good.differ) (subst P heads-whole good.each);
      }

  pub leads-ends : all_stand_in v blocks ≡ true
  leads-ends = each_stands v hs (names_of hs) (length tables) blocks (leads-good leads start).each

  pub leads-spelled : (text : List ℕ) → pieces text ≡ lines ++ [] ∷ [] → text ≡ lines_of v tables blocks
  leads-spelled text e =
      text-lines text lines e ∙ sym (leads-text leads) ∙ ap (λ (ns : List (List ℕ)). tables_text 0 tables ++ blocks_text v ns 0 blocks) names-whole
