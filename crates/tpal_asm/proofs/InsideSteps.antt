-- From a draft inside a block to the next.
use Rattle.std.proofs.Common.{◌≡◌, ℕ, ◌≤◌, true, List, [], ◌∷◌, ◌++◌, length, Some, None, Result}
use Rattle.std.proofs.Common.{Ok, Err, IfOk, IfErr, sym, subst, ◌∙◌}
use Rattle.std.specs.Prelude.{codes}
use Rattle.tpal_syntax.specs.declared.instructions.Instr.{Instr}
use Rattle.tpal_syntax.specs.declared.instructions.Term.{Term}
use Rattle.tpal_syntax.specs.declared.notes.Note.{Note}
use Rattle.tpal_syntax.specs.declared.blocks.Block.{Block}
use Rattle.tpal_syntax.specs.declared.blocks.CodeTable.{CodeTable}
use Rattle.tpal_syntax.specs.Parts.{is_instr, is_term}
use Rattle.tpal_syntax.specs.declared.versions.Version.{Version}
use Rattle.tpal_syntax.specs.Text.{instr_text, term_text}
use Rattle.tpal_syntax.specs.Readers.{after}
use Rattle.tpal_asm.specs.declared.fault.Wrong.{Wrong}
use Rattle.tpal_asm.specs.declared.fault.Wrong.TheVariants as wrongs
use Rattle.tpal_asm.specs.declared.drafts.Draft as code
use Rattle.tpal_asm.specs.Reading.{ended, instr_rest, term_rest}
use Rattle.tpal_asm.specs.Labels.{Head, names_of}
use Rattle.tpal_asm.specs.Drafts.{Draft, Outside, Inside, Says, an_instr, an_end}
use Rattle.tpal_asm.specs.Faults.{IsWrong, OnWrong}
use Rattle.tpal_asm.specs.Steps.{seen, Unfit}
use Rattle.tpal_asm.proofs.Sound.{after-sound}
use Rattle.tpal_asm.proofs.InsideFaults.{Finds, neither, instr_right, instr_formed, instr_unformed}
use Rattle.tpal_asm.proofs.InsideFaults.{instr_unlabelled, term_right, term_formed, term_unformed}
use Rattle.tpal_asm.proofs.InsideFaults.{term_unlabelled, term_stands}

module _ (v : Version) (heads : List Head) (tables : List CodeTable) (blocks : List Block) (name : List ℕ) (x : Note) (body : List Instr) (f : List ℕ → ℕ)
    (finds : Finds f (names_of heads) 4294967295) (few : length tables ≤ 16) (line us : List ℕ) (behind : after (codes "  ") line ≡ Some us) where
  line_is : (bytes : List ℕ) → line ≡ bytes ++ (10 ∷ []) → bytes ++ (10 ∷ []) ≡ 32 ∷ 32 ∷ us
  line_is bytes e = sym e ∙ after-sound (codes "  ") line us behind

  pub none_fits : ended (instr_rest f us) ≡ None → ended (term_rest v f us) ≡ None → (bytes : List ℕ) → line ≡ bytes ++ (10 ∷ []) → IsWrong v heads (Inside tables blocks name x body) bytes wrongs.Form
  none_fits no_instr no_term bytes e = neither v heads tables blocks name x body f 4294967295 finds few us bytes (line_is bytes e) no_instr no_term

  pub instr_goes : (i : Instr) → ended (instr_rest f us) ≡ Some i → (r : Result code.Draft Wrong) → IfOk r (λ next. is_instr (length tables) (length (names_of heads)) i ≡ true)
      → IfOk r (λ next. seen next ≡ Inside tables blocks name x (body ++ i ∷ [])) → IfOk r (λ next. (bytes : List ℕ) → line ≡ bytes ++ (10 ∷ []) → Says v heads (names_of heads) (Inside tables blocks name x body) bytes (seen next))
  instr_goes i read (Err w) ok is = tt
  instr_goes i read (Ok next) ok is = λ bytes e.
      let text = instr_right v heads tables blocks name x body f 4294967295 finds few us bytes (line_is bytes e) i read ok in
      let P : List ℕ → Type 0 = λ y. Says v heads (names_of heads) (Inside tables blocks name x body) y (seen next) in
      let Q : Draft → Type 0 = λ s. Says v heads (names_of heads) (Inside tables blocks name x body) (codes "  " ++ instr_text (names_of heads) i) s in
      subst P (sym text) (subst Q (sym is) (an_instr tables blocks name x body i ok))

  pub instr_fails : (i : Instr) → ended (instr_rest f us) ≡ Some i → (r : Result code.Draft Wrong) → IfErr r (Unfit (λ labels. is_instr (length tables) labels i) (length (names_of heads)))
      → IfErr r (λ w. OnWrong w ((bytes : List ℕ) → line ≡ bytes ++ (10 ∷ []) → IsWrong v heads (Inside tables blocks name x body) bytes w))
  instr_fails i read (Ok next) bad = tt
  instr_fails i read (Err wrongs.Form) bad = λ bytes e. instr_unformed v heads tables blocks name x body f 4294967295 finds few us bytes (line_is bytes e) i read bad
  instr_fails i read (Err wrongs.Label) bad = λ bytes e.
      (instr_formed v heads tables blocks name x body f 4294967295 finds few us bytes (line_is bytes e) i read bad.0, instr_unlabelled v heads tables blocks name x body f 4294967295 finds few us bytes (line_is bytes e) i read bad.1)
  instr_fails i read (Err wrongs.Limit) bad = absurd bad
  instr_fails i read (Err wrongs.NoMemory) bad = tt

  pub term_goes : (t : Term) → ended (instr_rest f us) ≡ None → ended (term_rest v f us) ≡ Some t → (r : Result code.Draft Wrong) → IfOk r (λ next. is_term (length (names_of heads)) t ≡ true)
      → IfOk r (λ next. seen next ≡ Outside tables (blocks ++ record { name = name; note = x; body = body; term = t } ∷ [])) → IfOk r (λ next. (bytes : List ℕ) → line ≡ bytes ++ (10 ∷ []) → Says v heads (names_of heads) (Inside tables blocks name x body) bytes (seen next))
  term_goes t none read (Err w) ok is = tt
  term_goes t none read (Ok next) ok is = λ bytes e.
      let stands = term_stands v heads tables blocks name x body f 4294967295 finds few us bytes (line_is bytes e) t none read in
      let text = term_right v heads tables blocks name x body f 4294967295 finds few us bytes (line_is bytes e) t none read ok in
      let P : List ℕ → Type 0 = λ y. Says v heads (names_of heads) (Inside tables blocks name x body) y (seen next) in
      let Q : Draft → Type 0 = λ s. Says v heads (names_of heads) (Inside tables blocks name x body) (codes "  " ++ term_text (names_of heads) t) s in
      subst P (sym text) (subst Q (sym is) (an_end tables blocks name x body t ok stands))

  pub term_fails : (t : Term) → ended (instr_rest f us) ≡ None → ended (term_rest v f us) ≡ Some t → (r : Result code.Draft Wrong) → IfErr r (Unfit (λ labels. is_term labels t) (length (names_of heads)))
      → IfErr r (λ w. OnWrong w ((bytes : List ℕ) → line ≡ bytes ++ (10 ∷ []) → IsWrong v heads (Inside tables blocks name x body) bytes w))
  term_fails t none read (Ok next) bad = tt
  term_fails t none read (Err wrongs.Form) bad = λ bytes e. term_unformed v heads tables blocks name x body f 4294967295 finds few us bytes (line_is bytes e) t none read bad
  term_fails t none read (Err wrongs.Label) bad = λ bytes e.
      (term_formed v heads tables blocks name x body f 4294967295 finds few us bytes (line_is bytes e) t none read bad.0, term_unlabelled v heads tables blocks name x body f 4294967295 finds few us bytes (line_is bytes e) t none read bad.1)
  term_fails t none read (Err wrongs.Limit) bad = absurd bad
  term_fails t none read (Err wrongs.NoMemory) bad = tt
