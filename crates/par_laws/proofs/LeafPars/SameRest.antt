-- A task at the two last instructions of the block of `dispatch`, wherever they stand, owes what a
-- task at that block owes that is like it in all else.
use Rattle.std.proofs.Common.{◌≡◌, ℕ, ◌+◌, Bool, true, false, [], ◌∷◌, Some, ap, sym, subst}
use Rattle.std.proofs.Common.{◌∙◌}
use Rattle.std.proofs.Common.{arith, refl, Ok}
use Rattle.std.proofs.lemmas.List.{length-set}
use Rattle.std.specs.Prelude.{pos, length, slice_set}
use Rattle.stack_marks.specs.declared.mark.Mark.{Mark}
use Rattle.tpal_syntax.specs.declared.instructions.Instr.TheVariants as instr
use Rattle.tpal_syntax.specs.declared.instructions.Term.TheVariants as term
use Rattle.tpal_syntax.specs.declared.instructions.Value.TheVariants as value
use Rattle.tpal_syntax.specs.declared.notes.Note.{Note}
use Rattle.tpal_syntax.specs.declared.notes.Note.TheVariants as note
use Rattle.tpal_syntax.specs.declared.words.Word.{Word}
use Rattle.tpal_syntax.specs.declared.words.Word.TheVariants as word
use Rattle.tpal_syntax.specs.Listing.{Listing}
use Rattle.tpal_machine.specs.declared.ends.Ending.{Ending}
use Rattle.tpal_machine.specs.Effect as effect
use Rattle.tpal_machine.specs.Effect.{oldest}
use Rattle.tpal_machine.specs.Owes.{Bound}
use Rattle.tpal_machine.specs.Owes as owes
use Rattle.tpal_machine.specs.Reading.{block_at, note_of, register, with_register}
use Rattle.tpal_machine.specs.State.{State}
use Rattle.tpal_machine.specs.Step.{Goes, advanced, entered_by, jump, step, stepped}
use Rattle.tpal_machine.proofs.Kit.{IsNext}
use Rattle.tpal_machine.proofs.Steps.{step_of_instr}
use Rattle.expr_lower.specs.Standing.{Remains}
use Rattle.expr_lower.proofs.Keeping.{register_set}
use Rattle.expr_lower.proofs.Standing.{at_end, behind, next}
use Rattle.handler_gen.proofs.Marks.{term_step}
use Rattle.scene_laws.proofs.Scenes.Promises.{lesser}

module _ (code : Listing) (heartbeat : ℕ) where
  -- ---- tasks whose steps are the same

  pub same_bound : (due : Bool) (n : ℕ) (s t : State) (e : Ending)
      → ((allowed : Bool) → step code heartbeat allowed t ≡ step code heartbeat allowed s)
      → Bound code heartbeat due n s e → Bound code heartbeat due n t e
  same_bound _ _ s t e same (owes.ends _ _ is) = owes.ends t e (same true ∙ is)
  same_bound due n s t e same (owes.goes _ _ m _ after _ few is bound) =
      owes.goes due n m t after e few (same true ∙ is) bound
  same_bound _ n s t e same (owes.beats _ m _ after other _ few calmly is bound also) =
      owes.beats n m t after other e few (same false ∙ calmly) (same true ∙ is) bound also
  same_bound _ _ s t e same (owes.asks _ waits _ is bound) =
      owes.asks t waits e (same true ∙ is) bound
  same_bound _ _ s t e same (owes.forks _ parts p q _ is left right merged) =
      owes.forks t parts p q e (same true ∙ is) left right merged
  same_bound _ _ s t e same (owes.forks_on _ parts p q joined _ is left right merged bound) =
      owes.forks_on t parts p q joined e (same true ∙ is) left right merged bound

  -- what is owed behind a step that goes
  pub went : (due : Bool) (n : ℕ) (s after : State) (e : Ending)
      → step code heartbeat true s ≡ Goes after → Bound code heartbeat due n s e
      → Bound code heartbeat due 0 after e
  went due n s after e goes (owes.goes _ _ m _ other _ few is bound) =
      let both : Goes other ≡ Goes after = sym is ∙ goes in
      let same : other ≡ after = cc in
      lesser code heartbeat due m 0 after e (omega arith)
      (subst (λ (u : State). Bound code heartbeat due m u e) same bound)
  went _ _ s after e goes (owes.ends _ _ is) = let wrong = sym is ∙ goes in cc
  went _ _ s after e goes (owes.beats _ m _ other turned _ few calmly is bound also) =
      let wrong = sym is ∙ goes in cc
  went _ _ s after e goes (owes.asks _ waits _ is bound) = let wrong = sym is ∙ goes in cc
  went _ _ s after e goes (owes.forks _ parts p q _ is left right merged) =
      let wrong = sym is ∙ goes in cc
  went _ _ s after e goes (owes.forks_on _ parts p q joined _ is left right merged bound) =
      let wrong = sym is ∙ goes in cc

  -- ---- the two instructions

  -- entering a block, which block was left makes no difference
  entered_alike : (n : Note) (allowed : Bool) (l : ℕ) (s : State) (block at : ℕ)
      → entered_by n heartbeat allowed l (record s { block = block; at = at })
      ≡ entered_by n heartbeat allowed l s
  entered_alike note.Plain allowed l s block at = refl
  entered_alike (note.Ready handler) allowed l s block at = refl
  entered_alike (note.Target target) allowed l s block at = refl

  jumped_alike : (w : Word) (allowed : Bool) (s : State) (block at : ℕ) → (l : ℕ)
      → w ≡ word.Label l
      → jump code heartbeat allowed w (record s { block = block; at = at })
      ≡ jump code heartbeat allowed w s
  jumped_alike w allowed s block at l is =
      rw is (entered_alike (note_of (block_at code l)) allowed l s block at)

  module _ (mark : Mark) (s : State) (size : length s.registers ≡ 32)
      (marked : oldest s.stack ≡ Some mark) where
    -- behind `prmsplit`
    abbrev split : State → State
    split t =
        with_register (with_register (advanced t) 28 (word.Int (pos mark.base))) 29
        (word.Label mark.split)

    splits : (t : State) → oldest t.stack ≡ Some mark
        → Remains code t.block t.at (instr.PrmSplit 28 29 ∷ []) (term.Jump (value.Reg 29))
        → (allowed : Bool) → step code heartbeat allowed t ≡ Goes (split t)
    splits t is stands allowed =
        let at : IsNext code t (instr.PrmSplit 28 29) =
        next code t (instr.PrmSplit 28 29) [] (term.Jump (value.Reg 29)) stands in
        step_of_instr code heartbeat allowed t at.block (instr.PrmSplit 28 29) at.found at.is
        ∙ ap (λ o. stepped (effect.on_oldest o (λ (u : Mark). Ok (with_register
        (with_register (advanced t) 28 (word.Int (pos u.base))) 29 (word.Label u.split))))) is

    pub rest_owed : (due : Bool) (block at : ℕ) (e : Ending)
        → Remains code s.block s.at (instr.PrmSplit 28 29 ∷ []) (term.Jump (value.Reg 29))
        → Remains code block at (instr.PrmSplit 28 29 ∷ []) (term.Jump (value.Reg 29))
        → Bound code heartbeat due 0 s e
        → Bound code heartbeat due 0 (record s { block = block; at = at }) e
    rest_owed due block at e here there bound =
        let t : State = record s { block = block; at = at } in
        let later : Bound code heartbeat due 0 (split s) e =
        went due 0 s (split s) e (splits s marked here true) bound in
        owes.goes due 0 0 t (split t) e (omega arith) (splits t marked there true)
        (same_bound due 0 (split s) (split t) e alike later)
      where
        label_is : register (split s).registers 29 ≡ word.Label mark.split
        label_is = register_set (slice_set s.registers 28 (word.Int (pos mark.base))) 29
            (word.Label mark.split)
            (omega (arith, length-set s.registers 28 (word.Int (pos mark.base)), size))

        alike : (allowed : Bool)
            → step code heartbeat allowed (split (record s { block = block; at = at }))
            ≡ step code heartbeat allowed (split s)
        alike allowed =
            term_step code heartbeat (split (record s { block = block; at = at }))
            (term.Jump (value.Reg 29))
            (at_end code (split (record s { block = block; at = at })) (term.Jump (value.Reg 29))
            (behind code block at (instr.PrmSplit 28 29) [] (term.Jump (value.Reg 29)) there))
            allowed ∙ (jumped_alike (register (split s).registers 29) allowed (advanced (split s))
            block (at + 1 + 1) mark.split label_is
            ∙ sym (term_step code heartbeat (split s) (term.Jump (value.Reg 29))
            (at_end code (split s) (term.Jump (value.Reg 29))
            (behind code s.block s.at (instr.PrmSplit 28 29) [] (term.Jump (value.Reg 29)) here))
            allowed))
