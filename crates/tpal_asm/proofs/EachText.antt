-- Each text has a code or a first fault.
use Rattle.std.proofs.Common.{◌≡◌, ◌⊎◌, ℕ, true, List, [], ◌∷◌, ◌++◌, length, Option, Some, None}
use Rattle.std.proofs.Common.{refl, sym, ap, subst, ◌∙◌, ◌+◌, append_assoc, append-nil, inl, inr, arith}
use Rattle.std.specs.List.{list_all}
use Rattle.tpal_syntax.specs.declared.blocks.Block.{Block}
use Rattle.tpal_syntax.specs.declared.blocks.CodeTable.{CodeTable}
use Rattle.tpal_syntax.specs.Parts.{is_word}
use Rattle.tpal_syntax.specs.declared.versions.Version.{Version}
use Rattle.tpal_syntax.specs.declared.versions.Version.TheVariants.{One, Two}
use Rattle.tpal_syntax.specs.Text.{CodeText, CodeTextIn, first_line}
use Rattle.tpal_syntax.specs.Readers.{after, parted, parted_by}
use Rattle.tpal_asm.specs.declared.fault.AsmFault.{AsmFault}
use Rattle.tpal_asm.specs.declared.fault.AsmFault.TheVariants as faults
use Rattle.tpal_asm.specs.Lines.{pieces, lines_before, AreLines}
use Rattle.tpal_asm.specs.Labels.{Head, names_of}
use Rattle.tpal_asm.specs.Drafts.{AreHeads, Draft, Outside, Inside, Leads, stay, IsNewName}
use Rattle.tpal_asm.specs.Drafts.{IsWithin, IsWhole, first_draft}
use Rattle.tpal_asm.specs.Faults.{FirstFaultIn, FirstFault, at_line, at_end, fault_at}
use Rattle.tpal_asm.proofs.Heads.{heads_after, are-heads}
use Rattle.tpal_asm.proofs.Sound.{after-sound}
use Rattle.tpal_asm.proofs.Sofar.{leads-code, leads-ends, leads-spelled}
use Rattle.tpal_asm.proofs.Loops.{pieces-last, leads-snoc}
use Rattle.tpal_asm.proofs.OneFault.{heads-words, start_within}
use Rattle.tpal_asm.proofs.EachLine.{line-comes}

-- what the lines of a text come to
abbrev Ends : Version → List ℕ → Type 0
Ends v text = ((tables : List CodeTable) × (blocks : List Block) × AreLines v text tables blocks) ⊎ ((fault : AsmFault) × FirstFaultIn v text fault)

module _ (v : Version) (text : List ℕ) (lines : List (List ℕ)) (last : List ℕ) (are : pieces text ≡ lines ++ last ∷ []) where
  abbrev hs : List Head
  hs = heads_after v [] lines

  heads : AreHeads v [] lines hs
  heads = are-heads v [] lines

  words : list_all is_word (names_of hs) ≡ true
  words = heads-words heads refl

  missing : (draft : Draft) → Leads v hs first_draft lines draft → (¬ ((last ≡ []) × IsWhole draft)) → Ends v text
  missing draft leads bad = inr (faults.Form (lines_before v + length lines + 1), at_end hs lines last draft are heads leads bad)

  some_left : (b : ℕ) (bs : List ℕ) → last ≡ b ∷ bs → last ≡ [] → ⊥
  some_left b bs e f = absurd cc

  -- all lines lead on
  at_last : (draft : Draft) (rest : List ℕ) → last ≡ rest → Leads v hs first_draft lines draft → Ends v text
  at_last draft (b ∷ bs) e leads = missing draft leads (λ p. some_left b bs e p.0)
  at_last (Inside tables blocks name x body) [] e leads = missing (Inside tables blocks name x body) leads (λ p. p.1)
  at_last (Outside tables []) [] e leads = missing (Outside tables []) leads (λ p. p.1)
  at_last (Outside tables (b ∷ blocks)) [] e leads =
      inl (
        tables,
        b ∷ blocks,
        record {
          right = leads-code v hs lines tables (b ∷ blocks) heads words leads (omega arith);
          ends = leads-ends v hs lines tables (b ∷ blocks) heads words leads;
          spelled = leads-spelled v hs lines tables (b ∷ blocks) heads words leads text (are ∙ ap (λ (r : List ℕ). lines ++ r ∷ []) e);
        },
      )

  -- the lines before led to a draft
  from : (before behind : List (List ℕ)) (draft : Draft) → lines ≡ before ++ behind → Leads v hs first_draft before draft → IsNewName draft → IsWithin draft → Ends v text
  from before [] draft is leads named within =
      let P : List (List ℕ) → Type 0 = λ ls. Leads v hs first_draft ls draft in
      at_last draft last refl (subst P (sym (is ∙ append-nil before)) leads)
  from before (bytes ∷ behind) draft is leads named within = elim (line-comes v hs words draft named within bytes) [
    | inl n ↦ from (before ++ bytes ∷ []) behind n.next (is ∙ sym (append_assoc before (bytes ∷ []) behind)) (leads-snoc leads bytes n.next n.says n.new n.within) n.new n.within
    | inr bad ↦
        (let P : List (List ℕ) → Type 0 = λ ls. AreHeads v [] ls hs in
        inr (fault_at bad.0 (lines_before v + length before + 1), at_line hs before behind bytes last draft bad.0 (are ∙ ap (λ (ls : List (List ℕ)). ls ++ last ∷ []) is) (subst P is heads) leads bad.1))
  ]

  ends : Ends v text
  ends = from [] lines first_draft refl (stay first_draft) tt start_within

lines-end : (v : Version) (text : List ℕ) → Ends v text
lines-end v text = let p = pieces-last text in ends v text p.0 p.1 p.2

-- a text is its first line and the lines behind
pub whole_text : (text : List ℕ) → text ≡ first_line (parted text).0 ++ (parted text).1
whole_text text = go (after (first_line Two) text) refl
  where
    go : (o : Option (List ℕ)) → after (first_line Two) text ≡ o → text ≡ first_line (parted_by text o).0 ++ (parted_by text o).1
    go None e = refl
    go (Some rest) e = after-sound (first_line Two) text rest e

-- lines of a code are those of a text of it
of_lines : (v : Version) (text lines : List ℕ) (tables : List CodeTable) (blocks : List Block) → text ≡ first_line v ++ lines → AreLines v lines tables blocks → CodeTextIn v text tables blocks
of_lines v text lines tables blocks e are = record { right = are.right; ends = are.ends; spelled = e ∙ ap (λ (y : List ℕ). first_line v ++ y) are.spelled }

pub code_text : (v : Version) (text lines : List ℕ) (tables : List CodeTable) (blocks : List Block) → text ≡ first_line v ++ lines → AreLines v lines tables blocks → CodeText text tables blocks
code_text One text lines tables blocks e are = inl (of_lines One text lines tables blocks e are)
code_text Two text lines tables blocks e are = inr (of_lines Two text lines tables blocks e are)

pub text-ends : (text : List ℕ) → ((tables : List CodeTable) × (blocks : List Block) × CodeText text tables blocks) ⊎ ((fault : AsmFault) × FirstFault text fault)
text-ends text = elim (lines-end (parted text).0 (parted text).1) [
  | inl h ↦ inl (h.0, h.1, code_text (parted text).0 text (parted text).1 h.0 h.1 (whole_text text) h.2)
  | inr h ↦ inr h
]
