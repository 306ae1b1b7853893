-- No two codes have one text.
use Rattle.std.proofs.Common.{◌≡◌, ◌⊎◌, inl, inr, ℕ, zero, suc, ◌+◌, ◌<◌, ◌≤◌, Bool, true, false, cond, eqb, leb}
use Rattle.std.proofs.Common.{ltb, ◌&&◌, ◌||◌, List, [], ◌∷◌, ◌++◌, length, map, Option, Some, None}
use Rattle.std.proofs.Common.{get_or, refl, sym, ap, ◌∙◌, append_assoc, arith}
use Rattle.std.specs.Prelude.{codes}
use Rattle.std.specs.Str.{bytes_eq}
use Rattle.std.specs.List.{AllByRecursion, flat_map, list_all}
use Rattle.std.specs.Fmt.{decimal}
use Rattle.std.proofs.lemmas.Bool.{lt-ltb, false≢true, eqb-true}
use Rattle.std.proofs.lemmas.List.{append-nil}
use Rattle.std.proofs.lemmas.Slice.Eq.{bytes_eq-Decides}
use Rattle.tpal_syntax.specs.declared.notes.Note.{Note}
use Rattle.tpal_syntax.specs.declared.notes.Note.TheVariants as note
use Rattle.tpal_syntax.specs.declared.instructions.Value.{Value}
use Rattle.tpal_syntax.specs.declared.instructions.Value.TheVariants.{Reg, Int, Label, Nil}
use Rattle.tpal_syntax.specs.declared.instructions.Instr.{Instr}
use Rattle.tpal_syntax.specs.declared.instructions.Instr.TheVariants.{Move, Calc, IfJump, Load}
use Rattle.tpal_syntax.specs.declared.instructions.Instr.TheVariants.{Store, Salloc, Sfree, PrmPush}
use Rattle.tpal_syntax.specs.declared.instructions.Instr.TheVariants.{PrmPop, PrmDrop, PrmEmpty}
use Rattle.tpal_syntax.specs.declared.instructions.Instr.TheVariants.{PrmSplit, JrAlloc, Fork}
use Rattle.tpal_syntax.specs.declared.instructions.Instr.TheVariants.{Fetch, Put, Rows, Cols, Make}
use Rattle.tpal_syntax.specs.declared.instructions.Instr.TheVariants.{Tick, Trap, Print, Emit}
use Rattle.tpal_syntax.specs.declared.instructions.Term.{Term}
use Rattle.tpal_syntax.specs.declared.instructions.Term.TheVariants.{Jump, Halt, Join, Leave}
use Rattle.tpal_syntax.specs.declared.blocks.Block.{Block}
use Rattle.tpal_syntax.specs.declared.blocks.CodeTable.{CodeTable}
use Rattle.tpal_syntax.specs.declared.blocks.CodeTable.TheVariants.{Input, Made}
use Rattle.tpal_syntax.specs.declared.versions.Version.{Version}
use Rattle.tpal_syntax.specs.declared.versions.Version.TheVariants.{One, Two}
use Rattle.tpal_syntax.specs.Parts.{is_word, is_word_byte, is_letter, is_register, is_offset}
use Rattle.tpal_syntax.specs.Parts.{is_size, is_value, is_instr, is_term}
use Rattle.tpal_syntax.specs.Conditions.{IsNote, IsBlock, IsCode, AreDistinct, block_names}
use Rattle.tpal_syntax.specs.Conditions.{input_names}
use Rattle.tpal_syntax.specs.Text.{CodeText, CodeTextIn, line, note_text, number_text, table_line}
use Rattle.tpal_syntax.specs.Text.{tables_text, blocks_text, first_line, lines_of, text_of}
use Rattle.tpal_syntax.specs.Readers.{◌>>=◌, after, word_at, many, with_more, parted, parted_by}
use Rattle.tpal_print.proofs.Reading.{block_at, table_line_at, code_at, relabel_value, relabel}
use Rattle.tpal_print.proofs.Reading.{relabel_term, relabel_note, relabel_block}
use Rattle.tpal_print.proofs.Pieces.{Words, stops, stops_word, and_left, and_right, below}
use Rattle.tpal_print.proofs.Pieces.{number_comes, word_comes}
use Rattle.tpal_print.proofs.Whole.{ShortNote, ShortBlock, handler_below, instr_line, term_line}
use Rattle.tpal_print.proofs.Whole.{name_stops, regroup, block_comes}

-- ---- tables

table_comes : (k : ℕ) (t : CodeTable) (rest : List ℕ) → k ≤ 15 → list_all is_word (input_names (t ∷ [])) ≡ true → table_line_at (line (table_line k t) ++ rest) ≡ Some (t, rest)
table_comes k Made rest le ok =
    let regroup : (decimal k ++ codes " made") ++ (10 ∷ []) ++ rest ≡ decimal k ++ (codes " made" ++ (10 ∷ rest)) = simp append_assoc in
    rw (regroup, number_comes 15 k (codes " made" ++ (10 ∷ rest)) le (omega arith) refl) refl
table_comes k (Input name) rest le ok =
    let regroup : (decimal k ++ (codes " input " ++ name)) ++ (10 ∷ []) ++ rest ≡ decimal k ++ (codes " input " ++ (name ++ (10 ∷ rest))) = simp append_assoc in
    rw (regroup, number_comes 15 k (codes " input " ++ (name ++ (10 ∷ rest))) le (omega arith) refl, word_comes name (10 ∷ rest) (and_left (is_word name) true ok) refl) refl

first_word : (t : CodeTable) (ts : List CodeTable) → list_all is_word (input_names (t ∷ ts)) ≡ true → list_all is_word (input_names (t ∷ [])) ≡ true
first_word Made ts ok = refl
first_word (Input name) ts ok = ap (λ (b : Bool). b && true) (and_left (is_word name) (list_all is_word (input_names ts)) ok)

other_words : (t : CodeTable) (ts : List CodeTable) → list_all is_word (input_names (t ∷ ts)) ≡ true → list_all is_word (input_names ts) ≡ true
other_words Made ts ok = ok
other_words (Input name) ts ok = and_right (is_word name) (list_all is_word (input_names ts)) ok

tables_come : (n k : ℕ) (ts : List CodeTable) (rest : List ℕ) → k + length ts ≤ 16 → length ts ≤ n → list_all is_word (input_names ts) ≡ true → table_line_at rest ≡ None → many n table_line_at (tables_text k ts ++ rest) ≡ Some (ts, rest)
tables_come zero k [] rest few fits ok none = refl
tables_come (suc n) k [] rest few fits ok none = ap (with_more rest (many n table_line_at)) none
tables_come zero k (t ∷ ts) rest few fits ok none = absurd (omega arith)
tables_come (suc n) k (t ∷ ts) rest few fits ok none =
    let back = tables_text (k + 1) ts ++ rest in
    ap (many (suc n) table_line_at) (append_assoc (line (table_line k t)) (tables_text (k + 1) ts) rest)
    ∙ ap (with_more (line (table_line k t) ++ back) (many n table_line_at)) (table_comes k t back (omega arith) (first_word t ts ok))
    ∙ ap (λ r. r >>= λ us. Some (t ∷ us.0, us.1)) (tables_come n (k + 1) ts rest (omega arith) (omega arith) (other_words t ts ok) none)

-- a name has no space in it
no_space : (ls ms n tail : List ℕ) → list_all is_word_byte ls ≡ true → list_all is_word_byte n ≡ true → stops tail ≡ true → after (32 ∷ ms) tail ≡ None → after (ls ++ (32 ∷ ms)) (n ++ tail) ≡ None
no_space [] ms [] tail wl wn s none = none
no_space [] ms (b ∷ n) tail wl wn s none = go (eqb b 32) (λ e. absurd (false≢true (ap is_word_byte (sym (eqb-true b 32 e)) ∙ and_left (is_word_byte b) (list_all is_word_byte n) wn)))
  where
    go : (x : Bool) → (x ≡ true → ⊥) → cond x (after ms (n ++ tail)) None ≡ None
    go true never = absurd (never refl)
    go false never = refl
no_space (l ∷ ls) ms [] [] wl wn s none = refl
no_space (l ∷ ls) ms [] (t ∷ tail) wl wn s none =
    go (eqb t l) (λ e. absurd (false≢true (sym (stops_word (is_word_byte t) true s) ∙ ap is_word_byte (eqb-true t l e) ∙ and_left (is_word_byte l) (list_all is_word_byte ls) wl)))
  where
    go : (x : Bool) → (x ≡ true → ⊥) → cond x (after (ls ++ (32 ∷ ms)) tail) None ≡ None
    go true never = absurd (never refl)
    go false never = refl
no_space (l ∷ ls) ms (b ∷ n) tail wl wn s none = go (eqb b l) (no_space ls ms n tail (and_right (is_word_byte l) (list_all is_word_byte ls) wl) (and_right (is_word_byte b) (list_all is_word_byte n) wn) s none)
  where
    go : (x : Bool) → after (ls ++ (32 ∷ ms)) (n ++ tail) ≡ None → cond x (after (ls ++ (32 ∷ ms)) (n ++ tail)) None ≡ None
    go true e = e
    go false e = refl

-- ---- labels that stay

relabel_value_same : (h : ℕ → ℕ) (blocks : ℕ) (v : Value) → ((l : ℕ) → ltb l blocks ≡ true → h l ≡ l) → is_value blocks v ≡ true → relabel_value h v ≡ v
relabel_value_same h blocks (Reg r) same ok = refl
relabel_value_same h blocks (Int z) same ok = refl
relabel_value_same h blocks (Label l) same ok = ap (λ (x : ℕ). Label x) (same l ok)
relabel_value_same h blocks Nil same ok = refl

pub relabel_same : (h : ℕ → ℕ) (tables blocks : ℕ) (i : Instr) → ((l : ℕ) → ltb l blocks ≡ true → h l ≡ l) → is_instr tables blocks i ≡ true → relabel h i ≡ i
relabel_same h tables blocks (Calc to left op right) same ok = ap (λ (x : Value). Calc to left op x) (relabel_value_same h blocks right same (and_right ((is_register to && is_register left)) (is_value blocks right) ok))
relabel_same h tables blocks (Move to value) same ok = ap (λ (x : Value). Move to x) (relabel_value_same h blocks value same (and_right (is_register to) (is_value blocks value) ok))
relabel_same h tables blocks (IfJump test label) same ok = ap (λ (x : ℕ). IfJump test x) (same label (and_right (is_register test) (ltb label blocks) ok))
relabel_same h tables blocks (Load to base off) same ok = refl
relabel_same h tables blocks (Store base off value) same ok = ap (λ (x : Value). Store base off x) (relabel_value_same h blocks value same (and_right ((is_register base && is_offset off)) (is_value blocks value) ok))
relabel_same h tables blocks (Salloc n) same ok = refl
relabel_same h tables blocks (Sfree n) same ok = refl
relabel_same h tables blocks (PrmPush base off cells split) same ok = ap (λ (x : ℕ). PrmPush base off cells x) (same split (and_right (((is_register base && is_offset off) && is_size cells)) (ltb split blocks) ok))
relabel_same h tables blocks (PrmPop base off) same ok = refl
relabel_same h tables blocks PrmDrop same ok = refl
relabel_same h tables blocks (PrmEmpty r) same ok = refl
relabel_same h tables blocks (PrmSplit base split) same ok = refl
relabel_same h tables blocks (JrAlloc to target) same ok = ap (λ (x : ℕ). JrAlloc to x) (same target (and_right (is_register to) (ltb target blocks) ok))
relabel_same h tables blocks (Fork rec child) same ok = ap (λ (x : ℕ). Fork rec x) (same child (and_right (is_register rec) (ltb child blocks) ok))
relabel_same h tables blocks (Fetch to table row col) same ok = refl
relabel_same h tables blocks (Put table row col value) same ok = refl
relabel_same h tables blocks (Rows to table) same ok = refl
relabel_same h tables blocks (Cols to table) same ok = refl
relabel_same h tables blocks (Make table rows cols place) same ok = refl
relabel_same h tables blocks Tick same ok = refl
relabel_same h tables blocks (Trap kind place) same ok = refl
relabel_same h tables blocks (Print r) same ok = refl
relabel_same h tables blocks (Emit table) same ok = refl

relabel_all_same : (h : ℕ → ℕ) (tables blocks : ℕ) (is : List Instr) → ((l : ℕ) → ltb l blocks ≡ true → h l ≡ l) → list_all (is_instr tables blocks) is ≡ true → map (relabel h) is ≡ is
relabel_all_same h tables blocks [] same ok = refl
relabel_all_same h tables blocks (i ∷ is) same ok =
    ap (λ (j : Instr). j ∷ map (relabel h) is) (relabel_same h tables blocks i same (and_left (is_instr tables blocks i) (list_all (is_instr tables blocks) is) ok))
    ∙ ap (λ (js : List Instr). i ∷ js) (relabel_all_same h tables blocks is same (and_right (is_instr tables blocks i) (list_all (is_instr tables blocks) is) ok))

pub relabel_term_same : (h : ℕ → ℕ) (blocks : ℕ) (t : Term) → ((l : ℕ) → ltb l blocks ≡ true → h l ≡ l) → is_term blocks t ≡ true → relabel_term h t ≡ t
relabel_term_same h blocks (Jump value) same ok = ap (λ (v : Value). Jump v) (relabel_value_same h blocks value same ok)
relabel_term_same h blocks Halt same ok = refl
relabel_term_same h blocks (Join r) same ok = refl
relabel_term_same h blocks (Leave rec value) same ok = refl

relabel_note_same : (h : ℕ → ℕ) (tables : List CodeTable) (blocks : List Block) (x : Note) → ((l : ℕ) → ltb l (length blocks) ≡ true → h l ≡ l) → IsNote tables blocks x → relabel_note h x ≡ x
relabel_note_same h tables blocks note.Plain same ok = refl
relabel_note_same h tables blocks (note.Ready l) same ok = ap (λ (x : ℕ). note.Ready x) (same l (handler_below blocks l ok))
relabel_note_same h tables blocks (note.Target t) same ok =
    ap (λ (x : ℕ). note.Target (record { comm = t.comm; renames = t.renames; comb = x; kind = t.kind; carries = t.carries })) (same t.comb (lt-ltb t.comb (length blocks) ok.comb_is_block))

relabel_block_same : (h : ℕ → ℕ) (tables : List CodeTable) (blocks : List Block) (b : Block) → ((l : ℕ) → ltb l (length blocks) ≡ true → h l ≡ l) → IsBlock tables blocks b → relabel_block h b ≡ b
relabel_block_same h tables blocks b same ok =
    rw (relabel_note_same h tables blocks b.note same ok.note, relabel_all_same h (length tables) (length blocks) b.body same ok.body, relabel_term_same h (length blocks) b.term same ok.term) refl

relabel_blocks_same : (h : ℕ → ℕ) (tables : List CodeTable) (all blocks : List Block) → ((l : ℕ) → ltb l (length all) ≡ true → h l ≡ l) → AllByRecursion (IsBlock tables all) blocks → map (relabel_block h) blocks ≡ blocks
relabel_blocks_same h tables all [] same ok = refl
relabel_blocks_same h tables all (b ∷ blocks) same ok =
    ap (λ (c : Block). c ∷ map (relabel_block h) blocks) (relabel_block_same h tables all b same ok.0)
    ∙ ap (λ (cs : List Block). b ∷ cs) (relabel_blocks_same h tables all blocks same ok.1)

-- ---- labels by names

-- the place of a name among names
abbrev pub place_of : List (List ℕ) → List ℕ → ℕ
place_of [] q = 0
place_of (n ∷ names) q = cond (bytes_eq q n) 0 (suc (place_of names q))

place_of-get : (names : List (List ℕ)) (l : ℕ) → AreDistinct names → l < length names → place_of names (get_or names l []) ≡ l
place_of-get [] l distinct inside = absurd (omega arith)
place_of-get (n ∷ names) zero distinct inside = ap (λ (b : Bool). cond b 0 (suc (place_of names n))) ((bytes_eq-Decides n n).1 refl)
place_of-get (n ∷ names) (suc l) distinct inside =
    let q = get_or names l [] in
    let other : bytes_eq q n ≡ false = go (bytes_eq q n) (λ e. distinct 0 (suc l) [] (omega arith) inside (sym ((bytes_eq-Decides q n).0 e))) in
    ap (λ (b : Bool). cond b 0 (suc (place_of names q))) other
    ∙ ap suc (place_of-get names l (λ i j d lt below e. distinct (suc i) (suc j) d (omega arith) (omega arith) e) (omega arith))
  where
    go : (b : Bool) → (b ≡ true → ⊥) → b ≡ false
    go true never = absurd (never refl)
    go false never = refl

words_of : (tables : List CodeTable) (all blocks : List Block) → AllByRecursion (IsBlock tables all) blocks → Words (block_names blocks) (length blocks)
words_of tables all [] ok l lt = absurd (omega (arith, below l 0 lt))
words_of tables all (b ∷ blocks) ok zero lt = ok.0.name
words_of tables all (b ∷ blocks) ok (suc l) lt = let h = below (suc l) (length (b ∷ blocks)) lt in words_of tables all blocks ok.1 l (lt-ltb l (length blocks) (omega arith))

length-names : (blocks : List Block) → length (block_names blocks) ≡ length blocks
length-names [] = refl
length-names (b ∷ blocks) = ap suc (length-names blocks)

-- ---- whole texts

no_block : (v : Version) (f : List ℕ → ℕ) (n : ℕ) → block_at v f n [] ≡ None
unfolding word_at
no_block v f n = refl

-- the blocks from a number on, where the lists of each are no longer than n
blocks_come : (v : Version) (f : List ℕ → ℕ) (names : List (List ℕ)) (tables : List CodeTable) (all : List Block) (n m k : ℕ) (blocks : List Block) → Words names (length all) → length tables ≤ 16 → k + length blocks ≤ 65536 → length blocks ≤ m → AllByRecursion (IsBlock tables all) blocks → AllByRecursion (ShortBlock n) blocks
    → many m (block_at v f n) (blocks_text v names k blocks) ≡ Some (map (relabel_block (λ l. f (get_or names l []))) blocks, [])
blocks_come v f names tables all n zero k [] words few low fits ok short = refl
blocks_come v f names tables all n (suc m) k [] words few low fits ok short = ap (with_more [] (many m (block_at v f n))) (no_block v f n)
blocks_come v f names tables all n zero k (b ∷ blocks) words few low fits ok short = absurd (omega arith)
blocks_come v f names tables all n (suc m) k (b ∷ blocks) words few low fits ok short =
    let back = blocks_text v names (k + 1) blocks in
    ap (with_more (blocks_text v names k (b ∷ blocks)) (many m (block_at v f n))) (block_comes v f names tables all n k b back words few (omega arith) ok.0 short.0)
    ∙ ap (λ r. r >>= λ xs. Some (relabel_block (λ l. f (get_or names l [])) b ∷ xs.0, xs.1)) (blocks_come v f names tables all n m (k + 1) blocks words few (omega arith) (omega arith) ok.1 short.1)

pub word_rest : (name : List ℕ) → is_word name ≡ true → list_all is_word_byte name ≡ true
word_rest [] ok = refl
word_rest (b ∷ name) ok =
    ap (λ (x : Bool). (x || (leb 48 b && leb b 57)) && list_all is_word_byte name) (and_left (is_letter b) (list_all is_word_byte name) ok)
    ∙ and_right (is_letter b) (list_all is_word_byte name) ok

-- no header begins as the line of a table does
blocks_are_no_table : (v : Version) (names : List (List ℕ)) (tables : List CodeTable) (all : List Block) (k : ℕ) (blocks : List Block) → AllByRecursion (IsBlock tables all) blocks → table_line_at (blocks_text v names k blocks) ≡ None
blocks_are_no_table v names tables all k [] ok = refl
blocks_are_no_table v names tables all k (b ∷ blocks) ok =
    let x = note_text names b.note in
    let is = flat_map (instr_line names) b.body in
    let t = term_line names b.term in
    let rest = blocks_text v names (k + 1) blocks in
    let behind = 32 ∷ (x ++ (10 ∷ (is ++ (t ++ rest)))) in
    ap table_line_at (regroup b.name (number_text v k) x is t rest)
    ∙ rw (no_space (codes "table") (codes "t") b.name (number_text v k ++ (58 ∷ behind)) refl (word_rest b.name ok.0.name) (name_stops v k behind) (no_t v behind)) refl
  where
    no_t : (v : Version) (behind : List ℕ) → after (32 ∷ codes "t") (number_text v k ++ (58 ∷ behind)) ≡ None
    no_t One behind = refl
    no_t Two behind = refl

-- a code is read from its lines, with the labels that f gives
code_comes : (v : Version) (f : List ℕ → ℕ) (n : ℕ) (tables : List CodeTable) (blocks : List Block) → IsCode tables blocks → 16 ≤ n → length blocks ≤ n → AllByRecursion (ShortBlock n) blocks
    → code_at v f n (lines_of v tables blocks) ≡ Some (tables, map (relabel_block (λ l. f (get_or (block_names blocks) l []))) blocks)
code_comes v f n tables blocks code room fits short =
    let names = block_names blocks in
    let words = words_of tables blocks blocks code.each_block in
    let text = blocks_text v names 0 blocks in
    let first : many n table_line_at (tables_text 0 tables ++ text) ≡ Some (tables, text) =
    tables_come n 0 tables text (omega (arith, code.few_tables)) (omega (arith, code.few_tables)) code.inputs.words (blocks_are_no_table v names tables blocks 0 blocks code.each_block) in
    let second : many n (block_at v f n) text ≡ Some (map (relabel_block (λ l. f (get_or names l []))) blocks, []) =
    blocks_come v f names tables blocks n n 0 blocks words code.few_tables (omega (arith, code.few_blocks)) fits code.each_block short in
    rw (first, second) refl

-- ---- versions

-- no text of version 1 has the first line of version 2
no_first_line : (tables : List CodeTable) (blocks : List Block) → IsCode tables blocks → after (first_line Two) (lines_of One tables blocks) ≡ None
no_first_line (Made ∷ tables) blocks code = refl
no_first_line (Input name ∷ tables) blocks code = refl
no_first_line [] [] code = absurd (omega (arith, code.some_block))
no_first_line [] (b ∷ blocks) code =
    let names = block_names (b ∷ blocks) in
    let x = note_text names b.note in
    let is = flat_map (instr_line names) b.body in
    let t = term_line names b.term in
    let rest = blocks_text One names 1 blocks in
    ap (after (first_line Two)) (regroup b.name [] x is t rest)
    ∙ no_space (codes "tpal") (codes "2" ++ (10 ∷ [])) b.name (58 ∷ 32 ∷ (x ++ (10 ∷ (is ++ (t ++ rest))))) refl (word_rest b.name code.each_block.0.name) refl refl

-- the version and the lines of a code's text
pub parted_comes : (v : Version) (tables : List CodeTable) (blocks : List Block) → IsCode tables blocks → parted (text_of v tables blocks) ≡ (v, lines_of v tables blocks)
parted_comes One tables blocks code = ap (parted_by (lines_of One tables blocks)) (no_first_line tables blocks code)
parted_comes Two tables blocks code = refl

is_one : Version → Bool
is_one One = true
is_one Two = false

-- a text is of one version
pub one_version : (text : List ℕ) (tables others : List CodeTable) (blocks more_blocks : List Block) → CodeTextIn One text tables blocks → CodeTextIn Two text others more_blocks → ⊥
unfolding is_one
one_version text tables others blocks more_blocks one two =
    false≢true (ap (λ p. is_one p.0) (sym (parted_comes Two others more_blocks two.right) ∙ ap parted (sym two.spelled ∙ one.spelled) ∙ parted_comes One tables blocks one.right))

-- ---- one code

-- how long the lists of a note, or of blocks, are together
note_size : Note → ℕ
note_size note.Plain = 0
note_size (note.Ready handler) = 0
note_size (note.Target t) = length t.renames + length t.carries

size : List Block → ℕ
size [] = 0
size (b ∷ blocks) = 1 + length b.body + note_size b.note + size blocks

short_note : (n : ℕ) (x : Note) → note_size x ≤ n → ShortNote n x
unfolding note_size
short_note n note.Plain le = tt
short_note n (note.Ready handler) le = tt
short_note n (note.Target t) le = (omega arith, omega arith)

short_from : (n : ℕ) (blocks : List Block) → size blocks ≤ n → AllByRecursion (ShortBlock n) blocks
unfolding size
short_from n [] le = tt
short_from n (b ∷ blocks) le = (record { body = omega arith; note = short_note n b.note (omega arith) }, short_from n blocks (omega arith))

length-size : (blocks : List Block) → length blocks ≤ size blocks
unfolding size
length-size [] = omega arith
length-size (b ∷ blocks) = omega (arith, length-size blocks)

names_stay : (h : ℕ → ℕ) (blocks : List Block) → block_names (map (relabel_block h) blocks) ≡ block_names blocks
names_stay h [] = refl
names_stay h (b ∷ blocks) = ap (λ (ns : List (List ℕ)). b.name ∷ ns) (names_stay h blocks)

tables_in : Option (List CodeTable × List Block) → List CodeTable
tables_in None = []
tables_in (Some c) = c.0

blocks_in : Option (List CodeTable × List Block) → List Block
blocks_in None = []
blocks_in (Some c) = c.1

-- the labels that the names of a code give are its own
own_labels : (names : List (List ℕ)) (tables : List CodeTable) (blocks : List Block) → IsCode tables blocks → names ≡ block_names blocks → map (relabel_block (λ l. place_of names (get_or (block_names blocks) l []))) blocks ≡ blocks
own_labels names tables blocks code e =
    relabel_blocks_same (λ l. place_of names (get_or (block_names blocks) l [])) tables blocks blocks
    (λ l lt. let inside = below l (length blocks) lt in
    ap (λ (ns : List (List ℕ)). place_of ns (get_or (block_names blocks) l [])) e ∙ place_of-get (block_names blocks) l code.block_names_differ (omega (arith, length-names blocks)))
    code.each_block

abbrev read_as : List CodeTable → List Block → Option (List CodeTable × List Block)
read_as tables blocks = Some (tables, blocks)

module _ (v : Version) (text : List ℕ) (tables others : List CodeTable) (blocks more_blocks : List Block) (one : CodeTextIn v text tables blocks) (two : CodeTextIn v text others more_blocks) where
  fuel : ℕ
  fuel = 16 + size blocks + size more_blocks

  -- both have the same lines
  same_lines : lines_of v tables blocks ≡ lines_of v others more_blocks
  same_lines = ap (λ p. p.1) (sym (parted_comes v tables blocks one.right) ∙ ap parted (sym one.spelled ∙ two.spelled) ∙ parted_comes v others more_blocks two.right)

  -- both are read from them
  both : (f : List ℕ → ℕ) → read_as tables (map (relabel_block (λ l. f (get_or (block_names blocks) l []))) blocks) ≡ read_as others (map (relabel_block (λ l. f (get_or (block_names more_blocks) l []))) more_blocks)
  unfolding fuel
  both f =
      sym (code_comes v f fuel tables blocks one.right (omega arith) (omega (arith, length-size blocks)) (short_from fuel blocks (omega arith)))
      ∙ ap (code_at v f fuel) same_lines
      ∙ code_comes v f fuel others more_blocks two.right (omega arith) (omega (arith, length-size more_blocks)) (short_from fuel more_blocks (omega arith))

  pub same_tables : tables ≡ others
  unfolding tables_in
  same_tables = ap tables_in (both (λ _. 0))

  same_names : block_names blocks ≡ block_names more_blocks
  unfolding blocks_in
  same_names = sym (names_stay _ blocks) ∙ ap (λ o. block_names (blocks_in o)) (both (λ _. 0)) ∙ names_stay _ more_blocks

  pub same_blocks : blocks ≡ more_blocks
  unfolding blocks_in
  same_blocks =
      sym (own_labels (block_names blocks) tables blocks one.right refl)
      ∙ ap blocks_in (both (place_of (block_names blocks)))
      ∙ own_labels (block_names blocks) others more_blocks two.right same_names

-- a text has one code, whatever the version
pub same_code : (text : List ℕ) (tables others : List CodeTable) (blocks more : List Block) → CodeText text tables blocks → CodeText text others more → (tables ≡ others) × (blocks ≡ more)
same_code text tables others blocks more (inl one) (inl two) = (same_tables One text tables others blocks more one two, same_blocks One text tables others blocks more one two)
same_code text tables others blocks more (inr one) (inr two) = (same_tables Two text tables others blocks more one two, same_blocks Two text tables others blocks more one two)
same_code text tables others blocks more (inl one) (inr two) = absurd (one_version text tables others blocks more one two)
same_code text tables others blocks more (inr one) (inl two) = absurd (one_version text others tables more blocks two one)
