-- Each line leads on from a draft, or something is wrong with it.
use Rattle.std.proofs.Common.{◌≡◌, ◌⊎◌, ℕ, suc, ◌≤◌, ◌<◌, ◌&&◌, true, false, List, []}
use Rattle.std.proofs.Common.{◌∷◌, ◌++◌, length, Option, Some, None, get_or, refl, sym, ap, subst}
use Rattle.std.proofs.Common.{◌∙◌, inl, inr, length-append, arith}
use Rattle.std.specs.Prelude.{codes}
use Rattle.std.specs.List.{list_all}
use Rattle.std.proofs.lemmas.Bool.{cases_Bool, cases_lt, cases_eq, false≢true}
use Rattle.tpal_syntax.specs.declared.instructions.Instr.{Instr}
use Rattle.tpal_syntax.specs.declared.instructions.Term.{Term}
use Rattle.tpal_syntax.specs.declared.notes.Note.{Note}
use Rattle.tpal_syntax.specs.declared.notes.Note.TheVariants as note
use Rattle.tpal_syntax.specs.declared.notes.Target.{Target}
use Rattle.tpal_syntax.specs.declared.blocks.Block.{Block}
use Rattle.tpal_syntax.specs.declared.blocks.CodeTable.{CodeTable}
use Rattle.tpal_syntax.specs.declared.blocks.CodeTable.TheVariants.{Input, Made}
use Rattle.tpal_syntax.specs.declared.versions.Version.{Version}
use Rattle.tpal_syntax.specs.Parts.{is_word, is_instr, is_term, is_carry}
use Rattle.tpal_syntax.specs.Conditions.{IsTarget, is_renamed, are_distinct_names}
use Rattle.tpal_syntax.specs.Conditions.{are_distinct_tables, block_names, input_names}
use Rattle.tpal_syntax.specs.Readers.{after}
use Rattle.tpal_asm.specs.declared.fault.Wrong.{Wrong}
use Rattle.tpal_asm.specs.declared.fault.Wrong.TheVariants as wrongs
use Rattle.tpal_asm.specs.Reading.{ended, instr_rest, term_rest, header_rest, table_line_rest}
use Rattle.tpal_asm.specs.Labels.{Head, names_of, place_of}
use Rattle.tpal_asm.specs.Drafts.{Draft, Outside, Inside, Says, an_instr, an_end, is_among}
use Rattle.tpal_asm.specs.Drafts.{IsNewName, IsWithin}
use Rattle.tpal_asm.specs.Faults.{IsWrong, IsFormed}
use Rattle.tpal_asm.specs.Steps.{NoteFits, IsUnrepeated, is_numbered}
use Rattle.tpal_asm.proofs.Sound.{after-sound}
use Rattle.tpal_asm.proofs.Inside.{inside_says}
use Rattle.tpal_asm.proofs.InsideFaults.{Finds, neither, instr_right, instr_formed, instr_unformed}
use Rattle.tpal_asm.proofs.InsideFaults.{instr_unlabelled, term_right, term_formed, term_unformed}
use Rattle.tpal_asm.proofs.InsideFaults.{term_unlabelled, term_stands}
use Rattle.tpal_asm.proofs.Finding.{finds-places}
use Rattle.tpal_asm.proofs.TableSteps.{table_right, table_unformed, table_labelled, table_many}
use Rattle.tpal_asm.proofs.OutsideSteps.{table_late}
use Rattle.tpal_asm.proofs.HeaderSteps.{header_unread, header_misnumbered, header_right}
use Rattle.tpal_asm.proofs.HeaderSteps.{header_formed}
use Rattle.tpal_asm.proofs.HeaderSteps.{header_repeated, header_many, header_labelled}
use Rattle.tpal_asm.proofs.HeaderSteps.{ready_unformed, target_unformed, ready_unlabelled}
use Rattle.tpal_asm.proofs.HeaderSteps.{target_unlabelled, ready_formed, target_formed}
use Rattle.tpal_asm.proofs.OneFault.{Next}

-- what a line comes to behind a draft
abbrev pub Comes : Version → List Head → Draft → List ℕ → Type 0
Comes v hs draft bytes = Next v hs draft bytes ⊎ ((w : Wrong) × IsWrong v hs draft bytes w)

read_or_not : {A : Type 0} (o : Option A) → ((a : A) × (o ≡ Some a)) ⊎ (o ≡ None)
read_or_not None = inr refl
read_or_not (Some a) = inl (a, refl)

clash : {A : Type 0} {a : A} → None ≡ Some a → ⊥
clash e = cc

-- ---- join targets

-- what a join target is, but for its label
record FitsAnywhere (tables : ℕ) (t : Target) : Type 0 where
  registers : list_all (λ p. is_renamed p.0 && is_renamed p.1) t.renames ≡ true
  names_differ : are_distinct_names t.renames ≡ true
  few_carries : length t.carries ≤ 4
  carries : list_all (is_carry tables) t.carries ≡ true
  tables_differ : are_distinct_tables t.carries ≡ true

fits_or_not : (tables : ℕ) (t : Target) → FitsAnywhere tables t ⊎ ((blocks : ℕ) → ¬ IsTarget tables blocks t)
fits_or_not tables t = elim (cases_Bool (list_all (λ p. is_renamed p.0 && is_renamed p.1) t.renames)) [
  | inr fails ↦ inr (λ blocks is. false≢true (sym fails ∙ is.registers))
  | inl a ↦ elim (cases_Bool (are_distinct_names t.renames)) [
    | inr fails ↦ inr (λ blocks is. false≢true (sym fails ∙ is.names_differ))
    | inl b ↦ elim (cases_lt 4 (length t.carries)) [
      | inl fails ↦ inr (λ blocks is. omega (arith, fails, is.few_carries))
      | inr c ↦ elim (cases_Bool (list_all (is_carry tables) t.carries)) [
        | inr fails ↦ inr (λ blocks is. false≢true (sym fails ∙ is.carries))
        | inl d ↦ elim (cases_Bool (are_distinct_tables t.carries)) [
          | inr fails ↦ inr (λ blocks is. false≢true (sym fails ∙ is.tables_differ))
          | inl e ↦ inl record { registers = a; names_differ = b; few_carries = c; carries = d; tables_differ = e }
        ]
      ]
    ]
  ]
]

target_of : (tables blocks : ℕ) (t : Target) → FitsAnywhere tables t → t.comb < blocks → IsTarget tables blocks t
target_of tables blocks t fits lt = record { registers = fits.registers; names_differ = fits.names_differ; comb_is_block = lt; few_carries = fits.few_carries; carries = fits.carries; tables_differ = fits.tables_differ }

-- ---- lines of a block that has begun

module _ (v : Version) (hs : List Head) (words : list_all is_word (names_of hs) ≡ true) (tables : List CodeTable) (blocks : List Block) (few : length tables ≤ 16) where
  -- more than any label
  abbrev most : ℕ
  most = suc (length hs)

  finds : Finds (place_of hs) (names_of hs) most
  finds = finds-places hs most words (omega arith)

  module _ (name : List ℕ) (x : Note) (body : List Instr) (room : length blocks < 65536) (named : is_among name (block_names blocks) ≡ false) (bytes : List ℕ) where
    instr_comes_to : (us : List ℕ) → bytes ++ (10 ∷ []) ≡ 32 ∷ 32 ∷ us → (i : Instr) → ended (instr_rest (place_of hs) us) ≡ Some i → Comes v hs (Inside tables blocks name x body) bytes
    instr_comes_to us line i read = elim (cases_Bool (is_instr (length tables) most i)) [
      | inr fails ↦ inr (wrongs.Form, instr_unformed v hs tables blocks name x body (place_of hs) most finds few us bytes line i read fails)
      | inl formed ↦ elim (cases_Bool (is_instr (length tables) (length (names_of hs)) i)) [
        | inr fails ↦ inr (wrongs.Label, (instr_formed v hs tables blocks name x body (place_of hs) most finds few us bytes line i read formed, instr_unlabelled v hs tables blocks name x body (place_of hs) most finds few us bytes line i read fails))
        | inl ok ↦ (let next = Inside tables blocks name x (body ++ i ∷ []) in
            let P : List ℕ → Type 0 = λ y. Says v hs (names_of hs) (Inside tables blocks name x body) y next in
            inl record {
              next = next;
              says = subst P (sym (instr_right v hs tables blocks name x body (place_of hs) most finds few us bytes line i read ok)) (an_instr tables blocks name x body i ok);
              new = named;
              within = (few, room);
            })
      ]
    ]

    term_comes_to : (us : List ℕ) → bytes ++ (10 ∷ []) ≡ 32 ∷ 32 ∷ us → ended (instr_rest (place_of hs) us) ≡ None → (t : Term) → ended (term_rest v (place_of hs) us) ≡ Some t → Comes v hs (Inside tables blocks name x body) bytes
    term_comes_to us line none t read = elim (cases_Bool (is_term most t)) [
      | inr fails ↦ inr (wrongs.Form, term_unformed v hs tables blocks name x body (place_of hs) most finds few us bytes line t none read fails)
      | inl formed ↦ elim (cases_Bool (is_term (length (names_of hs)) t)) [
        | inr fails ↦ inr (wrongs.Label, (term_formed v hs tables blocks name x body (place_of hs) most finds few us bytes line t none read formed, term_unlabelled v hs tables blocks name x body (place_of hs) most finds few us bytes line t none read fails))
        | inl ok ↦ (let b : Block = record { name = name; note = x; body = body; term = t } in
            let next = Outside tables (blocks ++ b ∷ []) in
            let P : List ℕ → Type 0 = λ y. Says v hs (names_of hs) (Inside tables blocks name x body) y next in
            inl record {
              next = next;
              says = subst P (sym (term_right v hs tables blocks name x body (place_of hs) most finds few us bytes line t none read ok)) (an_end tables blocks name x body t ok (term_stands v hs tables blocks name x body (place_of hs) most finds few us bytes line t none read));
              new = tt;
              within = (few, omega (arith, room, length-append blocks (b ∷ [])));
            })
      ]
    ]

    unspaced : after (codes "  ") (bytes ++ (10 ∷ [])) ≡ None → ¬ IsFormed v hs (Inside tables blocks name x body) bytes
    unspaced none formed = elim (inside_says formed.says) [
      | inl h ↦ clash (sym none ∙ ap (λ (y : List ℕ). after (codes "  ") (y ++ (10 ∷ []))) h.2)
      | inr h ↦ clash (sym none ∙ ap (λ (y : List ℕ). after (codes "  ") (y ++ (10 ∷ []))) h.2)
    ]

    inside_comes : Comes v hs (Inside tables blocks name x body) bytes
    inside_comes = elim (read_or_not (after (codes "  ") (bytes ++ (10 ∷ [])))) [
      | inr none ↦ inr (wrongs.Form, unspaced none)
      | inl behind ↦ (let line = after-sound (codes "  ") (bytes ++ (10 ∷ [])) behind.0 behind.1 in
          elim (read_or_not (ended (instr_rest (place_of hs) behind.0))) [
            | inl i ↦ instr_comes_to behind.0 line i.0 i.1
            | inr no_instr ↦ elim (read_or_not (ended (term_rest v (place_of hs) behind.0))) [
              | inl t ↦ term_comes_to behind.0 line no_instr t.0 t.1
              | inr no_term ↦ inr (wrongs.Form, neither v hs tables blocks name x body (place_of hs) most finds few behind.0 bytes line no_instr no_term)
            ]
          ])
    ]

  -- ---- lines of tables

  unrepeated_or_not : (table : CodeTable) → IsUnrepeated tables table ⊎ (¬ IsUnrepeated tables table)
  unrepeated_or_not (Input name) = elim (cases_Bool (is_among name (input_names tables))) [
    | inl again ↦ inr (λ new. false≢true (sym new ∙ again))
    | inr new ↦ inl new
  ]
  unrepeated_or_not Made = inl tt

  only_table : (us : List ℕ) (read : ℕ × CodeTable) → ended (table_line_rest us) ≡ Some read → (table : CodeTable) → ended (table_line_rest us) ≡ Some (length tables, table) → read ≡ (length tables, table)
  only_table us read is table e = same read (length tables, table) (sym is ∙ e)
    where
      same : (a b : ℕ × CodeTable) → Some a ≡ Some b → a ≡ b
      same a b e = cc

  table_comes_to : (us bytes : List ℕ) → bytes ++ (10 ∷ []) ≡ codes "table t" ++ us → (read : ℕ × CodeTable) → ended (table_line_rest us) ≡ Some read → read.0 ≡ length tables → Comes v hs (Outside tables []) bytes
  table_comes_to us bytes line read is next =
      let Q : ℕ → Type 0 = λ n. ended (table_line_rest us) ≡ Some (n, read.1) in
      let here : ended (table_line_rest us) ≡ Some (length tables, read.1) = subst Q next is in
      let one : (table : CodeTable) → ended (table_line_rest us) ≡ Some (length tables, table) → read.1 ≡ table = λ table e. ap (λ (p : ℕ × CodeTable). p.1) (only_table us read is table e) in
      let P : CodeTable → Type 0 = λ t. ¬ IsUnrepeated tables t in
      elim (unrepeated_or_not read.1) [
        | inr fails ↦ inr (wrongs.Form, table_unformed v hs tables few us bytes line (λ table e. subst P (one table e) fails))
        | inl new ↦ elim (cases_lt (length tables) 16) [
          | inl room ↦ inl record { next = Outside (tables ++ read.1 ∷ []) []; says = table_right v hs tables few us bytes line (names_of hs) read.1 here new; new = tt; within = (omega (arith, room, length-append tables (read.1 ∷ [])), omega arith) }
          | inr many ↦ inr (wrongs.Limit, (table_labelled v hs tables few us bytes line read.1 here new, table_many v hs tables few us bytes line many))
        ]
      ]

  tables_come : (us bytes : List ℕ) → bytes ++ (10 ∷ []) ≡ codes "table t" ++ us → Comes v hs (Outside tables []) bytes
  tables_come us bytes line = elim (read_or_not (ended (table_line_rest us))) [
    | inr none ↦ inr (wrongs.Form, table_unformed v hs tables few us bytes line (λ table e. absurd (clash (sym none ∙ e))))
    | inl read ↦ elim (cases_eq read.0.0 (length tables)) [
      | inl next ↦ table_comes_to us bytes line read.0 read.1 next
      | inr other ↦ inr (wrongs.Form, table_unformed v hs tables few us bytes line (λ table e. absurd (other (ap (λ (p : ℕ × CodeTable). p.0) (only_table us read.0 read.1 table e)))))
    ]
  ]

  -- ---- first lines of blocks

  module _ (full : length blocks ≤ 65536) (bytes : List ℕ) (no_table : after (codes "table t") (bytes ++ (10 ∷ [])) ≡ None) where
    fits_comes : (name : List ℕ) (x : Note) → ended (header_rest v (place_of hs) (bytes ++ (10 ∷ []))) ≡ Some (name, x) → is_numbered v (length blocks) (bytes ++ (10 ∷ [])) ≡ true → NoteFits hs (length tables) x → Comes v hs (Outside tables blocks) bytes
    fits_comes name x read numbered fits = elim (cases_Bool (is_among name (block_names blocks))) [
      | inl again ↦ inr (
        wrongs.Label,
        (
          header_formed v hs tables blocks few full most finds (bytes ++ (10 ∷ [])) bytes refl no_table name x read numbered fits,
          header_repeated v hs tables blocks few full most finds (bytes ++ (10 ∷ [])) bytes refl no_table name x read numbered again,
        ),
      )
      | inr new ↦ elim (cases_lt (length blocks) 65536) [
        | inl room ↦ inl record { next = Inside tables blocks name x []; says = header_right v hs tables blocks few full most finds (bytes ++ (10 ∷ [])) bytes refl no_table name x read numbered fits; new = new; within = (few, room) }
        | inr many ↦ inr (
          wrongs.Limit,
          (
            header_labelled v hs tables blocks few full most finds (bytes ++ (10 ∷ [])) bytes refl no_table name x read numbered fits new,
            header_many v hs tables blocks few full most finds (bytes ++ (10 ∷ [])) bytes refl no_table name x read numbered many,
          ),
        )
      ]
    ]

    module _ (name : List ℕ) (x : Note) (read : ended (header_rest v (place_of hs) (bytes ++ (10 ∷ []))) ≡ Some (name, x)) (numbered : is_numbered v (length blocks) (bytes ++ (10 ∷ [])) ≡ true) where
      noted : (y : Note) → x ≡ y → NoteFits hs (length tables) y → Comes v hs (Outside tables blocks) bytes
      noted y is fits = let P : Note → Type 0 = λ n. NoteFits hs (length tables) n in fits_comes name x read numbered (subst P (sym is) fits)

      handler_comes : (h : ℕ) → x ≡ note.Ready h → Comes v hs (Outside tables blocks) bytes
      handler_comes h is = elim (cases_lt h (length (names_of hs))) [
        | inr far ↦ inr (
          wrongs.Label,
          (
            ready_formed v hs tables blocks few full most finds (bytes ++ (10 ∷ [])) bytes refl no_table name x read numbered h is far,
            ready_unlabelled v hs tables blocks few full most finds (bytes ++ (10 ∷ [])) bytes refl no_table name x read numbered h is far,
          ),
        )
        | inl known ↦ elim (cases_Bool ((get_or hs h ([], false)).1)) [
          | inl ready ↦ inr (wrongs.Form, ready_unformed v hs tables blocks few full most finds (bytes ++ (10 ∷ [])) bytes refl no_table name x read numbered h is ready)
          | inr plain ↦ noted (note.Ready h) is (known, plain)
        ]
      ]

      target_comes : (t : Target) → x ≡ note.Target t → Comes v hs (Outside tables blocks) bytes
      target_comes t is = elim (fits_or_not (length tables) t) [
        | inr fails ↦ inr (wrongs.Form, target_unformed v hs tables blocks few full most finds (bytes ++ (10 ∷ [])) bytes refl no_table name x read numbered t is (fails most))
        | inl fits ↦ elim (cases_lt t.comb (length (names_of hs))) [
          | inl known ↦ noted (note.Target t) is (target_of (length tables) (length (names_of hs)) t fits known)
          | inr far ↦ elim (cases_lt t.comb most) [
            | inl low ↦ inr (
              wrongs.Label,
              (
                target_formed v hs tables blocks few full most finds (bytes ++ (10 ∷ [])) bytes refl no_table name x read numbered t is (target_of (length tables) most t fits low),
                target_unlabelled v hs tables blocks few full most finds (bytes ++ (10 ∷ [])) bytes refl no_table name x read numbered t is far,
              ),
            )
            | inr high ↦ inr (wrongs.Form, target_unformed v hs tables blocks few full most finds (bytes ++ (10 ∷ [])) bytes refl no_table name x read numbered t is (λ of. omega (arith, of.comb_is_block, high)))
          ]
        ]
      ]

      note_comes_to : (y : Note) → x ≡ y → Comes v hs (Outside tables blocks) bytes
      note_comes_to note.Plain is = noted note.Plain is tt
      note_comes_to (note.Ready h) is = handler_comes h is
      note_comes_to (note.Target t) is = target_comes t is

    header_comes_to : Comes v hs (Outside tables blocks) bytes
    header_comes_to = elim (read_or_not (ended (header_rest v (place_of hs) (bytes ++ (10 ∷ []))))) [
      | inr none ↦ inr (wrongs.Form, header_unread v hs tables blocks few full most finds (bytes ++ (10 ∷ [])) bytes refl no_table none)
      | inl read ↦ elim (cases_Bool (is_numbered v (length blocks) (bytes ++ (10 ∷ [])))) [
        | inr other ↦ inr (wrongs.Form, header_misnumbered v hs tables blocks few full most finds (bytes ++ (10 ∷ [])) bytes refl no_table other)
        | inl numbered ↦ note_comes_to read.0.0 read.0.1 read.1 numbered read.0.1 refl
      ]
    ]

table_or_late : (v : Version) (hs : List Head) → list_all is_word (names_of hs) ≡ true → (tables : List CodeTable) (blocks : List Block) → length tables ≤ 16 → (us bytes : List ℕ) → after (codes "table t") (bytes ++ (10 ∷ [])) ≡ Some us → Comes v hs (Outside tables blocks) bytes
table_or_late v hs words tables [] few us bytes behind = tables_come v hs words tables [] few us bytes (after-sound (codes "table t") (bytes ++ (10 ∷ [])) us behind)
table_or_late v hs words tables (b ∷ blocks) few us bytes behind =
    inr (wrongs.Form, table_late v hs tables few (bytes ++ (10 ∷ [])) us behind (b ∷ blocks) (λ e. some b blocks e) bytes refl)
  where
    some : (b : Block) (blocks : List Block) → b ∷ blocks ≡ [] → ⊥
    some b blocks e = cc

-- whatever the line
pub line-comes : (v : Version) (hs : List Head) → list_all is_word (names_of hs) ≡ true → (draft : Draft) → IsNewName draft → IsWithin draft → (bytes : List ℕ) → Comes v hs draft bytes
line-comes v hs words (Outside tables blocks) named within bytes = elim (read_or_not (after (codes "table t") (bytes ++ (10 ∷ [])))) [
  | inl behind ↦ table_or_late v hs words tables blocks within.0 behind.0 bytes behind.1
  | inr none ↦ header_comes_to v hs words tables blocks within.0 within.1 bytes none
]
line-comes v hs words (Inside tables blocks name x body) named within bytes = inside_comes v hs words tables blocks within.0 name x body within.1 named bytes
