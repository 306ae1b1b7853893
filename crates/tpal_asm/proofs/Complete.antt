-- The lines of a code's text lead to the code, so its text has no fault.
use Rattle.std.proofs.Common.{◌≡◌, ℕ, zero, suc, ◌≤◌, ◌<◌, Bool, true, false, ◌&&◌, ◌||◌, List, []}
use Rattle.std.proofs.Common.{◌∷◌, ◌++◌, length, map, Result, Ok, Err, IfOk, IfErr, get_or, inl}
use Rattle.std.proofs.Common.{inr, refl, sym, ap, subst, ◌∙◌, append_assoc, append-nil, length-append, arith}
use Rattle.std.specs.Prelude.{MatchResult, codes, bytes_eq, slice_get}
use Rattle.std.specs.List.{list_all, AllByRecursion}
use Rattle.std.proofs.lemmas.Bool.{ltb-true}
use Rattle.std.proofs.lemmas.List.{map-append}
use Rattle.std.proofs.lemmas.List.Folds.{list_all-append}
use Rattle.std.proofs.lemmas.Slice.Eq.{bytes_eq-Decides}
use Rattle.std.proofs.Math.Seq.{get_or-append_seam}
use Rattle.tpal_syntax.specs.declared.instructions.Instr.{Instr}
use Rattle.tpal_syntax.specs.declared.notes.Note.{Note}
use Rattle.tpal_syntax.specs.declared.notes.Note.TheVariants as note
use Rattle.tpal_syntax.specs.declared.blocks.Block.{Block}
use Rattle.tpal_syntax.specs.declared.blocks.CodeTable.{CodeTable}
use Rattle.tpal_syntax.specs.declared.blocks.CodeTable.TheVariants.{Input, Made}
use Rattle.tpal_syntax.specs.Listing.{Listing}
use Rattle.tpal_syntax.specs.Parts.{is_word, is_instr, is_term}
use Rattle.tpal_syntax.specs.Conditions.{IsCode, IsBlock, IsNote, IsHandler, IsTarget, AreDistinct}
use Rattle.tpal_syntax.specs.Conditions.{AreInputs, input_names, block_names}
use Rattle.tpal_syntax.specs.declared.versions.Version.{Version}
use Rattle.tpal_syntax.specs.declared.versions.Version.TheVariants.{One, Two}
use Rattle.tpal_syntax.specs.Text.{◌+++◌, CodeText, CodeTextIn, tables_text, blocks_text, lines_of}
use Rattle.tpal_syntax.specs.Text.{all_stand_in, stands_in, header_text, instr_text, term_text}
use Rattle.tpal_syntax.specs.Text.{table_line}
use Rattle.tpal_syntax.specs.Readers.{parted}
use Rattle.tpal_print.proofs.Pieces.{and_left, and_right}
use Rattle.tpal_print.proofs.Whole.{handler_below}
use Rattle.tpal_print.proofs.Unique.{parted_comes, same_code}
use Rattle.tpal_asm.specs.declared.fault.AsmFault.{AsmFault}
use Rattle.tpal_asm.specs.declared.fault.AsmFault.TheVariants as faults
use Rattle.tpal_asm.specs.Lines.{pieces, AreLines}
use Rattle.tpal_asm.specs.Labels.{Head, names_of}
use Rattle.tpal_asm.specs.Drafts.{AreHeads, is_among, IsNewTable, IsNoteOf, Draft, Outside, Inside}
use Rattle.tpal_asm.specs.Drafts.{Says, a_table, a_header, an_instr, an_end, Leads, stay, go_on}
use Rattle.tpal_asm.specs.Drafts.{IsNewName, IsWithin, IsWhole, first_draft}
use Rattle.tpal_asm.specs.Faults.{FirstFaultIn, FirstFault, at_line, at_end, OnFault}
use Rattle.tpal_asm.proofs.Finding.{length-names}
use Rattle.tpal_asm.proofs.Outside.{length-block_names}
use Rattle.tpal_asm.proofs.Heads.{are-heads, leads-heads, block_head, names-heads}
use Rattle.tpal_asm.proofs.Sofar.{place-own, inputs-append, leads-text}
use Rattle.tpal_asm.proofs.Clean.{leads-pieces}
use Rattle.tpal_asm.proofs.Loops.{same-front}
use Rattle.tpal_asm.proofs.OneFault.{leads-once, fault_next, same_heads, one-fault, start_within}
use Rattle.std.specs.Cmp.Derive.{both_true}

-- ---- distinct names

tail_distinct : (x : List ℕ) (xs : List (List ℕ)) → AreDistinct (x ∷ xs) → AreDistinct xs
tail_distinct x xs distinct i j d lt below e = distinct (suc i) (suc j) d (omega arith) (omega arith) e

never_true : (b : Bool) → (b ≡ true → ⊥) → b ≡ false
never_true true never = absurd (never refl)
never_true false never = refl

neither : (a b : Bool) → a ≡ false → b ≡ false → (a || b) ≡ false
neither true b p q = absurd cc
neither false b p q = q

-- a name isn't among those before it
distinct_new : (xs : List (List ℕ)) (n : List ℕ) (ys : List (List ℕ)) → AreDistinct (xs ++ n ∷ ys) → is_among n xs ≡ false
distinct_new [] n ys distinct = refl
distinct_new (x ∷ xs) n ys distinct =
    neither (bytes_eq n x) (is_among n xs)
    (never_true (bytes_eq n x) (λ e. distinct 0 (suc (length xs)) [] (omega arith) (omega (arith, length-append xs (n ∷ ys))) (sym ((bytes_eq-Decides n x).0 e) ∙ sym (get_or-append_seam xs n ys []))))
    (distinct_new xs n ys (tail_distinct x (xs ++ n ∷ ys) distinct))

-- ---- a table of a code is new behind those before it

new_table : (before behind : List CodeTable) (t : CodeTable) → AreInputs (before ++ t ∷ behind) → IsNewTable before t
new_table before behind (Input name) of =
    let names = inputs-append before (Input name ∷ behind) in
    let P : List (List ℕ) → Type 0 = λ ns. list_all is_word ns ≡ true in
    let words = sym (list_all-append is_word (input_names before) (name ∷ input_names behind)) ∙ subst P names of.words in (
      and_left (is_word name) (list_all is_word (input_names behind)) (and_right (list_all is_word (input_names before)) (is_word name && list_all is_word (input_names behind)) words),
      distinct_new (input_names before) name (input_names behind) (subst AreDistinct names of.names_differ),
    )
new_table before behind Made of = tt

-- ---- lines that lead on

-- some lines lead from one draft to another
abbrev Way : Version → List Head → Draft → Draft → Type 0
Way v hs s t = (lines : List (List ℕ)) × Leads v hs s lines t

leads_append : {v : Version} {hs : List Head} {a b c : Draft} {xs ys : List (List ℕ)} → Leads v hs a xs b → Leads v hs b ys c → Leads v hs a (xs ++ ys) c
leads_append (stay draft) more = more
leads_append {v} {hs} {a} {b} {c} {xs} {ys} (go_on draft next last bytes lines says named within rest) more = go_on draft next c bytes (lines ++ ys) says named within (leads_append rest more)

joined : (v : Version) (hs : List Head) (a b c : Draft) → Way v hs a b → Way v hs b c → Way v hs a c
joined v hs a b c one two = (one.0 ++ two.0, leads_append one.1 two.1)

along : (v : Version) (hs : List Head) (a b c : Draft) → b ≡ c → Way v hs a b → Way v hs a c
along v hs a b c e way = let P : Draft → Type 0 = λ s. Way v hs a s in subst P e way

one_line : (v : Version) (hs : List Head) (a b : Draft) (bytes : List ℕ) → Says v hs (names_of hs) a bytes b → IsNewName b → IsWithin b → Way v hs a b
one_line v hs a b bytes says named within = (bytes ∷ [], go_on a b b bytes [] says named within (stay b))

tables_lead : (v : Version) (hs : List Head) (before behind : List CodeTable) → AreInputs (before ++ behind) → length (before ++ behind) ≤ 16 → Way v hs (Outside before []) (Outside (before ++ behind) [])
tables_lead v hs before [] of few = along v hs (Outside before []) (Outside before []) (Outside (before ++ []) []) (ap (λ (ts : List CodeTable). Outside ts []) (sym (append-nil before))) ([], stay (Outside before []))
tables_lead v hs before (t ∷ behind) of few =
    let next = Outside (before ++ t ∷ []) [] in
    let regroup = append_assoc before (t ∷ []) behind in
    let P : List CodeTable → Type 0 = λ ts. length ts ≤ 16 in
    along v hs (Outside before []) (Outside ((before ++ t ∷ []) ++ behind) []) (Outside (before ++ t ∷ behind) []) (ap (λ (ts : List CodeTable). Outside ts []) regroup) (
    joined v hs (Outside before []) next (Outside ((before ++ t ∷ []) ++ behind) [])
    (one_line v hs (Outside before []) next (table_line (length before) t) (a_table before t (new_table before behind t of)) tt (omega (arith, few, length-append before (t ∷ behind), length-append before (t ∷ [])), omega arith))
    (tables_lead v hs (before ++ t ∷ []) behind (subst AreInputs (sym regroup) of) (subst P (sym regroup) few)))

-- ---- the blocks of a code

handler_not_ready : (blocks : List Block) (h : ℕ) → IsHandler (slice_get blocks h) → (get_or (map block_head blocks) h ([], false)).1 ≡ false
handler_not_ready [] h is = absurd is
handler_not_ready (b ∷ blocks) zero is = is
handler_not_ready (b ∷ blocks) (suc h) is = handler_not_ready blocks h is

words_are : (tables : List CodeTable) (all blocks : List Block) → AllByRecursion (IsBlock tables all) blocks → list_all is_word (names_of (map block_head blocks)) ≡ true
words_are tables all [] each = refl
words_are tables all (b ∷ blocks) each = both_true each.0.name (words_are tables all blocks each.1)

module _ (v : Version) (tables : List CodeTable) (blocks : List Block) (code : IsCode tables blocks) (ends : all_stand_in v blocks ≡ true) where
  abbrev hs : List Head
  hs = map block_head blocks

  count : length (names_of hs) ≡ length blocks
  count = ap (length {A = List ℕ}) (names-heads blocks) ∙ length-block_names blocks

  pub code-words : list_all is_word (names_of hs) ≡ true
  code-words = words_are tables blocks blocks code.each_block

  pub code-distinct : AreDistinct (names_of hs)
  code-distinct = subst AreDistinct (sym (names-heads blocks)) code.block_names_differ

  note_of : (x : Note) → IsNote tables blocks x → IsNoteOf hs (names_of hs) (length tables) x
  note_of note.Plain is = tt
  note_of (note.Ready h) is =
      let below = ltb-true h (length blocks) (handler_below blocks h is) in
      let lt : h < length hs = omega (arith, below, count, length-names hs) in (
        omega (arith, below, count),
        ap (λ (p : ℕ). (get_or hs p ([], false)).1) (place-own hs h code-distinct lt) ∙ handler_not_ready blocks h is,
      )
  note_of (note.Target t) is = let P : ℕ → Type 0 = λ n. IsTarget (length tables) n t in subst P (sym count) is

  body_lead : (before : List Block) (name : List ℕ) (x : Note) (done body : List Instr) → is_among name (block_names before) ≡ false → length before < 65536 → list_all (is_instr (length tables) (length blocks)) body ≡ true
      → Way v hs (Inside tables before name x done) (Inside tables before name x (done ++ body))
  body_lead before name x done [] new room ok =
      along v hs (Inside tables before name x done) (Inside tables before name x done) (Inside tables before name x (done ++ [])) (ap (λ (is : List Instr). Inside tables before name x is) (sym (append-nil done))) ([], stay (Inside tables before name x done))
  body_lead before name x done (i ∷ body) new room ok =
      let names = names_of hs in
      let start = Inside tables before name x done in
      let next = Inside tables before name x (done ++ i ∷ []) in
      let last = Inside tables before name x ((done ++ i ∷ []) ++ body) in
      let P : ℕ → Type 0 = λ n. is_instr (length tables) n i ≡ true in
      let fits = subst P (sym count) (and_left (is_instr (length tables) (length blocks) i) (list_all (is_instr (length tables) (length blocks)) body) ok) in
      along v hs start last (Inside tables before name x (done ++ i ∷ body)) (ap (λ (is : List Instr). Inside tables before name x is) (append_assoc done (i ∷ []) body)) (
      joined v hs start next last
      (one_line v hs start next (codes "  " +++ instr_text names i) (an_instr tables before name x done i fits) new (code.few_tables, room))
      (body_lead before name x (done ++ i ∷ []) body new room (and_right (is_instr (length tables) (length blocks) i) (list_all (is_instr (length tables) (length blocks)) body) ok)))

  block_leads : (before : List Block) (b : Block) → is_among b.name (block_names before) ≡ false → length before < 65536 → IsBlock tables blocks b → stands_in v b.term ≡ true → Way v hs (Outside tables before) (Outside tables (before ++ b ∷ []))
  block_leads before b new room is stands =
      let names = names_of hs in
      let begun = Inside tables before b.name b.note [] in
      let full = Inside tables before b.name b.note b.body in
      let done = Outside tables (before ++ b ∷ []) in
      let P : ℕ → Type 0 = λ n. is_term n b.term ≡ true in
      joined v hs (Outside tables before) begun done
      (one_line v hs (Outside tables before) begun (header_text v names (length before) b.name b.note) (a_header tables before b.name b.note is.name (note_of b.note is.note)) new (code.few_tables, room))
      (joined v hs begun full done
      (body_lead before b.name b.note [] b.body new room is.body)
      (one_line v hs full done (codes "  " +++ term_text names b.term) (an_end tables before b.name b.note b.body b.term (subst P (sym count) is.term) stands) tt (code.few_tables, omega (arith, room, length-append before (b ∷ [])))))

  blocks_lead : (before behind : List Block) → AreDistinct (block_names (before ++ behind)) → length (before ++ behind) ≤ 65536 → AllByRecursion (IsBlock tables blocks) behind → all_stand_in v behind ≡ true → Way v hs (Outside tables before) (Outside tables (before ++ behind))
  blocks_lead before [] distinct few each stand =
      along v hs (Outside tables before) (Outside tables before) (Outside tables (before ++ [])) (ap (λ (bs : List Block). Outside tables bs) (sym (append-nil before))) ([], stay (Outside tables before))
  blocks_lead before (b ∷ behind) distinct few each stand =
      let next = Outside tables (before ++ b ∷ []) in
      let last = Outside tables ((before ++ b ∷ []) ++ behind) in
      let regroup = append_assoc before (b ∷ []) behind in
      let P : List Block → Type 0 = λ bs. length bs ≤ 65536 in
      let Q : List Block → Type 0 = λ bs. AreDistinct (block_names bs) in
      let new = distinct_new (block_names before) b.name (block_names behind) (subst AreDistinct (map-append (λ (b : Block). b.name) before (b ∷ behind)) distinct) in
      along v hs (Outside tables before) last (Outside tables (before ++ b ∷ behind)) (ap (λ (bs : List Block). Outside tables bs) regroup) (
      joined v hs (Outside tables before) next last
      (block_leads before b new (omega (arith, few, length-append before (b ∷ behind))) each.0 (and_left (stands_in v b.term) (all_stand_in v behind) stand))
      (blocks_lead (before ++ b ∷ []) behind (subst Q (sym regroup) distinct) (subst P (sym regroup) few) each.1 (and_right (stands_in v b.term) (all_stand_in v behind) stand)))

  pub code-leads : Way v hs first_draft (Outside tables blocks)
  code-leads =
      joined v hs first_draft (Outside tables []) (Outside tables blocks)
      (tables_lead v hs [] tables code.inputs code.few_tables)
      (blocks_lead [] blocks code.block_names_differ code.few_blocks code.each_block ends)

  pub code-heads : AreHeads v [] code-leads.0 hs
  code-heads =
      let P : List Head → Type 0 = λ xs. AreHeads v [] code-leads.0 xs in
      subst P (leads-heads code-leads.1 code-words) (are-heads v [] code-leads.0)

  pub code-pieces : (text : List ℕ) → text ≡ lines_of v tables blocks → pieces text ≡ code-leads.0 ++ [] ∷ []
  code-pieces text e =
      let names : lines_of v tables blocks ≡ tables_text 0 tables ++ blocks_text v (names_of hs) 0 blocks = ap (λ (ns : List (List ℕ)). tables_text 0 tables ++ blocks_text v ns 0 blocks) (sym (names-heads blocks)) in
      ap pieces (e ∙ names ∙ leads-text code-leads.1) ∙ leads-pieces code-leads.1 code-words

-- ---- no fault

same_last : (xs ys : List (List ℕ)) (x y : List ℕ) → xs ≡ ys → xs ++ x ∷ [] ≡ ys ++ y ∷ [] → x ≡ y
same_last xs ys x y e f =
    let at : get_or (xs ++ x ∷ []) (length xs) [] ≡ get_or (ys ++ y ∷ []) (length ys) [] = ap (λ (l : List (List ℕ)). get_or l (length xs) []) f ∙ ap (λ (l : List (List ℕ)). get_or (ys ++ y ∷ []) (length l) []) e in
    sym (get_or-append_seam xs x [] []) ∙ at ∙ get_or-append_seam ys y [] []

some_whole : (tables : List CodeTable) (blocks : List Block) → 1 ≤ length blocks → IsWhole (Outside tables blocks)
some_whole tables [] some = absurd (omega arith)
some_whole tables (b ∷ blocks) some = tt

-- the lines of a code have no fault
lines_no_fault : (v : Version) (text : List ℕ) (tables : List CodeTable) (blocks : List Block) → AreLines v text tables blocks → (f : AsmFault) → FirstFaultIn v text f → ⊥
lines_no_fault v text tables blocks is f (at_line ks before behind bytes last draft w are heads leads bad) =
    let code = is.right in
    let way = code-leads v tables blocks code is.ends in
    let front = same-front (before ++ bytes ∷ behind) way.0 last [] (sym are ∙ code-pieces v tables blocks code is.ends text is.spelled) in
    let same = same_heads (map block_head blocks) ks (code-heads v tables blocks code is.ends) heads (sym front) in
    let P : List Head → Type 0 = λ xs. Leads v xs first_draft way.0 (Outside tables blocks) in
    let Q : List (List ℕ) → Type 0 = λ ls. Leads v ks first_draft ls (Outside tables blocks) in
    let D : List Head → Type 0 = λ xs. AreDistinct (names_of xs) in
    let W : List Head → Type 0 = λ xs. list_all is_word (names_of xs) ≡ true in
    fault_next v text ks (subst D (sym same) (code-distinct v tables blocks code is.ends)) (subst W (sym same) (code-words v tables blocks code is.ends)) before behind bytes draft (Outside tables blocks) w leads bad (subst Q (sym front) (subst P (sym same) way.1))
lines_no_fault v text tables blocks is f (at_end ks lines last draft are heads leads bad) =
    let code = is.right in
    let way = code-leads v tables blocks code is.ends in
    let cut = sym are ∙ code-pieces v tables blocks code is.ends text is.spelled in
    let front = same-front lines way.0 last [] cut in
    let same = same_heads (map block_head blocks) ks (code-heads v tables blocks code is.ends) heads (sym front) in
    let P : List Head → Type 0 = λ xs. Leads v xs first_draft lines draft in
    let Q : List (List ℕ) → Type 0 = λ ls. Leads v (map block_head blocks) first_draft ls draft in
    let drafts = leads-once v (map block_head blocks) (code-distinct v tables blocks code is.ends) (code-words v tables blocks code is.ends) way.0 first_draft (Outside tables blocks) draft start_within way.1 (subst Q front (subst P same leads)) in
    bad (same_last lines way.0 last [] front cut, subst IsWhole drafts (some_whole tables blocks code.some_block))

-- nor has a text
text_no_fault : (v : Version) (text : List ℕ) (tables : List CodeTable) (blocks : List Block) → CodeTextIn v text tables blocks → (f : AsmFault) → FirstFault text f → ⊥
text_no_fault v text tables blocks is f first =
    let P : Version × List ℕ → Type 0 = λ p. FirstFaultIn p.0 p.1 f in
    lines_no_fault v (lines_of v tables blocks) tables blocks (record { right = is.right; ends = is.ends; spelled = refl }) f (subst P (ap parted is.spelled ∙ parted_comes v tables blocks is.right) first)

-- the text of a code has no fault
pub code-no-fault : (text : List ℕ) (tables : List CodeTable) (blocks : List Block) → CodeText text tables blocks → (f : AsmFault) → FirstFault text f → ⊥
code-no-fault text tables blocks (inl is) f first = text_no_fault One text tables blocks is f first
code-no-fault text tables blocks (inr is) f first = text_no_fault Two text tables blocks is f first

-- ---- what a call answers

abbrev listed : List CodeTable → List Block → Listing
listed tables blocks = record { tables = tables; blocks = blocks }

one_listing : (text : List ℕ) (x : Listing) (tables : List CodeTable) (blocks : List Block) → CodeText text x.tables x.blocks → CodeText text tables blocks → x ≡ listed tables blocks
one_listing text x tables blocks one two =
    let same = same_code text x.tables tables x.blocks blocks one two in
    ap (λ (ts : List CodeTable). listed ts x.blocks) same.0 ∙ ap (λ (bs : List Block). listed tables bs) same.1

module _ (text : List ℕ) where
  -- a text with a code gets that code
  pub code-answered : (r : Result Listing AsmFault) → IfOk r (λ code. CodeText text code.tables code.blocks) → IfErr r (λ f. OnFault f (FirstFault text f))
      → (tables : List CodeTable) (blocks : List Block) → CodeText text tables blocks → MatchResult r (λ code. code ≡ listed tables blocks) (λ f. f ≡ faults.NoMemory)
  code-answered (Ok x) right first tables blocks is = one_listing text x tables blocks right is
  code-answered (Err (faults.Form n)) right first tables blocks is = absurd (code-no-fault text tables blocks is (faults.Form n) first)
  code-answered (Err (faults.Label n)) right first tables blocks is = absurd (code-no-fault text tables blocks is (faults.Label n) first)
  code-answered (Err (faults.Limit n)) right first tables blocks is = absurd (code-no-fault text tables blocks is (faults.Limit n) first)
  code-answered (Err faults.NoMemory) right first tables blocks is = refl

  -- a text with a fault gets that fault
  pub fault-answered : (r : Result Listing AsmFault) → IfOk r (λ code. CodeText text code.tables code.blocks) → IfErr r (λ f. OnFault f (FirstFault text f))
      → (first : AsmFault) → FirstFault text first → MatchResult r (λ code. ⊥) (λ f. OnFault f (f ≡ first))
  fault-answered (Ok x) right first f is = code-no-fault text x.tables x.blocks right f is
  fault-answered (Err (faults.Form n)) right first f is = one-fault text (faults.Form n) f first is
  fault-answered (Err (faults.Label n)) right first f is = one-fault text (faults.Label n) f first is
  fault-answered (Err (faults.Limit n)) right first f is = one-fault text (faults.Limit n) f first is
  fault-answered (Err faults.NoMemory) right first f is = tt

  -- a refused text has no code
  pub refused-codeless : (r : Result Listing AsmFault) → IfErr r (λ f. OnFault f (FirstFault text f)) → IfErr r (λ f. OnFault f ((tables : List CodeTable) (blocks : List Block) → ¬ CodeText text tables blocks))
  refused-codeless (Ok x) first = tt
  refused-codeless (Err (faults.Form n)) first = λ tables blocks is. code-no-fault text tables blocks is (faults.Form n) first
  refused-codeless (Err (faults.Label n)) first = λ tables blocks is. code-no-fault text tables blocks is (faults.Label n) first
  refused-codeless (Err (faults.Limit n)) first = λ tables blocks is. code-no-fault text tables blocks is (faults.Limit n) first
  refused-codeless (Err faults.NoMemory) first = tt
