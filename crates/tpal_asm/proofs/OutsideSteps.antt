-- From a draft outside of blocks to the next by a line that begins as that of a table.
use Rattle.std.proofs.Common.{◌≡◌, ℕ, ◌≤◌, ◌<◌, List, [], ◌∷◌, ◌++◌, length, Some, Result, Ok, Err}
use Rattle.std.proofs.Common.{IfOk, IfErr, sym, ap, subst, ◌∙◌, inl, inr}
use Rattle.std.specs.Prelude.{codes}
use Rattle.tpal_syntax.specs.declared.blocks.Block.{Block}
use Rattle.tpal_syntax.specs.declared.blocks.CodeTable.{CodeTable}
use Rattle.tpal_syntax.specs.declared.versions.Version.{Version}
use Rattle.tpal_syntax.specs.Readers.{after}
use Rattle.tpal_asm.specs.declared.fault.Wrong.{Wrong}
use Rattle.tpal_asm.specs.declared.fault.Wrong.TheVariants as wrongs
use Rattle.tpal_asm.specs.declared.drafts.Draft as code
use Rattle.tpal_asm.specs.Reading.{ended, table_line_rest}
use Rattle.tpal_asm.specs.Labels.{Head, names_of}
use Rattle.tpal_asm.specs.Drafts.{Draft, Outside, Says}
use Rattle.tpal_asm.specs.Faults.{IsWrong, OnWrong, IsFormed}
use Rattle.tpal_asm.specs.Steps.{seen, IsUnrepeated, TableUnfit}
use Rattle.tpal_asm.proofs.Sound.{after-sound}
use Rattle.tpal_asm.proofs.Outside.{outside_says}
use Rattle.tpal_asm.proofs.TableSteps.{no_header, table_right, table_unformed, table_labelled}
use Rattle.tpal_asm.proofs.TableSteps.{table_many}

-- what a line behind tables and these blocks says, where the call goes well
abbrev pub Goes : Version → List Head → List CodeTable → List ℕ → List Block → Result code.Draft Wrong → Type 0
Goes v heads tables line blocks r = IfOk r (λ next. (bytes : List ℕ) → line ≡ bytes ++ (10 ∷ []) → Says v heads (names_of heads) (Outside tables blocks) bytes (seen next))

-- and what is wrong with it, where it doesn't
abbrev pub Fails : Version → List Head → List CodeTable → List ℕ → List Block → Result code.Draft Wrong → Type 0
Fails v heads tables line blocks r = IfErr r (λ w. OnWrong w ((bytes : List ℕ) → line ≡ bytes ++ (10 ∷ []) → IsWrong v heads (Outside tables blocks) bytes w))

module _ (v : Version) (heads : List Head) (tables : List CodeTable) (few : length tables ≤ 16) (line us : List ℕ) (behind : after (codes "table t") line ≡ Some us) where
  line_is : (bytes : List ℕ) → line ≡ bytes ++ (10 ∷ []) → bytes ++ (10 ∷ []) ≡ codes "table t" ++ us
  line_is bytes e = sym e ∙ after-sound (codes "table t") line us behind

  abbrev Made_next : code.Draft → Type 0
  Made_next next = (table : CodeTable) × (ended (table_line_rest us) ≡ Some (length tables, table)) × IsUnrepeated tables table × (length tables < 16) × (seen next ≡ Outside (tables ++ table ∷ []) [])

  pub table_goes : (r : Result code.Draft Wrong) → IfOk r Made_next → IfOk r (λ next. (bytes : List ℕ) → line ≡ bytes ++ (10 ∷ []) → Says v heads (names_of heads) (Outside tables []) bytes (seen next))
  table_goes (Err w) made = tt
  table_goes (Ok next) made = λ bytes e.
      let P : Draft → Type 0 = λ s. Says v heads (names_of heads) (Outside tables []) bytes s in
      subst P (sym made.4) (table_right v heads tables few us bytes (line_is bytes e) (names_of heads) made.0 made.1 made.2)

  pub table_fails : (r : Result code.Draft Wrong) → IfErr r (TableUnfit tables us) → IfErr r (λ w. OnWrong w ((bytes : List ℕ) → line ≡ bytes ++ (10 ∷ []) → IsWrong v heads (Outside tables []) bytes w))
  table_fails (Ok next) bad = tt
  table_fails (Err wrongs.Form) bad = λ bytes e. table_unformed v heads tables few us bytes (line_is bytes e) bad
  table_fails (Err wrongs.Label) bad = absurd bad
  table_fails (Err wrongs.Limit) bad = λ bytes e.
      (table_labelled v heads tables few us bytes (line_is bytes e) bad.0 bad.1 bad.2, table_many v heads tables few us bytes (line_is bytes e) bad.3)
  table_fails (Err wrongs.NoMemory) bad = tt

  -- behind a block there is no table
  pub table_late : (blocks : List Block) → (blocks ≡ [] → ⊥) → (bytes : List ℕ) → line ≡ bytes ++ (10 ∷ []) → ¬ IsFormed v heads (Outside tables blocks) bytes
  table_late blocks some bytes e formed = elim (outside_says formed.says) [
    | inl h ↦ some h.4
    | inr h ↦ no_header v formed.names (length blocks) h.0 us h.1 h.2 (ap (λ (y : List ℕ). y ++ (10 ∷ [])) (sym h.4) ∙ line_is bytes e)
  ]
