-- What a step of a task that knows its place comes to.
use Rattle.std.proofs.Common.{◌≡◌, ℕ, ◌+◌, List, [], ◌∷◌, Option, Some, None, refl, sym, ap, subst, ◌∙◌, ◌⊎◌, inl, inr, ⊎_elim, length, drop}
use Rattle.std.proofs.lemmas.Bool.{false≢true}
use Rattle.std.specs.Prelude.{Bool, true, false, slice_get, replicate}
use Rattle.stack_marks.specs.Stacks.{StackValue}
use Rattle.tpal_syntax.specs.declared.blocks.Block.{Block}
use Rattle.tpal_syntax.specs.declared.instructions.Instr.{Instr}
use Rattle.tpal_syntax.specs.declared.instructions.Instr.TheVariants.{Move, Calc, IfJump, Load, Store, Salloc, Sfree, PrmPush, PrmPop, PrmDrop, PrmEmpty, PrmSplit, JrAlloc, Fork, Fetch, Put, Rows, Cols, Make, Tick, Trap, Print, Emit}
use Rattle.tpal_syntax.specs.declared.words.Word.{Word}
use Rattle.tpal_syntax.specs.declared.words.Word.TheVariants as word
use Rattle.tpal_syntax.specs.Listing.{Listing}
use Rattle.tpal_syntax.specs.Parts.{is_instr}
use Rattle.tpal_machine.specs.declared.ends.Tie.{Tie}
use Rattle.tpal_machine.specs.Cut.{Forked}
use Rattle.tpal_machine.specs.Reading.{block_at}
use Rattle.tpal_machine.specs.State.{State}
use Rattle.tpal_verify.specs.declared.phases.Phase.{Phase}
use Rattle.tpal_verify.specs.declared.phases.Phase.TheVariants.{Calm, Compared, Asked, Tested, Given}
use Rattle.tpal_verify.specs.Shapes.{Shape}
use Rattle.tpal_verify.specs.Flat.{Ground, ground_of}
use Rattle.tpal_verify.specs.Rounds.{Shapes}
use Rattle.tpal_verify.specs.Well.{GoesWell}
use Rattle.tpal_verify.specs.Fits.{IsOfKind, AreOfKinds, Holds, InPhase, Ahead, Knows}
use Rattle.tpal_verify.proofs.Lower.{some_none}
use Rattle.tpal_syntax.specs.Conditions.{IsCode}
use Rattle.tpal_machine.specs.Belonging.{RunsOn}
use Rattle.tpal_machine.specs.Belongs.{IsTieOf}
use Rattle.tpal_machine.specs.Reading as reading
use Rattle.tpal_machine.specs.Step.{Step, executed, finished, advanced, step_at, step_in, step}
use Rattle.tpal_machine.proofs.Fits.{instr_right, term_right}
use Rattle.std.specs.Prelude.{is_some}
use Rattle.tpal_verify.specs.Breaks.{MeetsRules}
use Rattle.tpal_verify.specs.Fits.{Opens}
use Rattle.tpal_verify.proofs.Walking.{StepsWell, steps_well}
use Rattle.tpal_verify.proofs.Ahead.{at_instr, at_term, obeys, IsSalloc, no_cells, calm_at}
use Rattle.tpal_verify.proofs.Entering.{IsBlockAt, StepKnows}
use Rattle.tpal_verify.proofs.Instructions.{Here, move_comes, load_comes, store_comes, drop_comes, empty_comes, rows_comes, cols_comes}
use Rattle.tpal_verify.proofs.Numbers.{fetch_comes, put_comes, print_comes, emit_comes, trap_comes, tick_comes, make_comes}
use Rattle.tpal_verify.proofs.Marks.{pop_comes, push_comes, split_comes, salloc_comes}
use Rattle.tpal_verify.proofs.Jumps.{calc_comes, if_comes, jralloc_comes}
use Rattle.tpal_verify.proofs.BlockEnds.{ends_come}

module _ (code : Listing) (A : Shapes) (meets : MeetsRules code A) (right_code : IsCode code.tables code.blocks) (heartbeat : ℕ) (allowed : Bool) (F : Forked → Type 0) where
  abbrev whole : Ground
  whole = ground_of code

  abbrev Gives : Step → Type 0
  Gives x = StepKnows code A F x

  -- what a fork comes to
  abbrev pub ForksCome : Type 0
  ForksCome = (block : Block) (p : Phase) (s : Shape) (first : Bool) (rest : List Instr) (t : State) (rec child : ℕ) → IsTieOf code t.pending → Here code A heartbeat allowed F block p s first (Fork rec child) rest t → Gives (executed code heartbeat allowed (Fork rec child) t)

  instr_comes : ForksCome → (i : Instr) (block : Block) (p : Phase) (s : Shape) (first : Bool) (rest : List Instr) (t : State) (l at : ℕ) → slice_get code.blocks l ≡ Some block → slice_get block.body at ≡ Some i → (IsSalloc i → ⊥) → IsTieOf code t.pending
      → Here code A heartbeat allowed F block p s first i rest t → Gives (executed code heartbeat allowed i t)
  instr_comes fk (Move to value) block p s first rest t l at f q other tied h = move_comes code A heartbeat allowed F block p s first rest t to value h
  instr_comes fk (Calc to left alu right) block p s first rest t l at f q other tied h = calc_comes code A heartbeat allowed F block p s first rest t to left alu right h
  instr_comes fk (IfJump test label) block p s first rest t l at f q other tied h = if_comes code A heartbeat allowed F block meets right_code p s first rest t test label h
  instr_comes fk (Load to base off) block p s first rest t l at f q other tied h = load_comes code A heartbeat allowed F block p s first rest t to base off h
  instr_comes fk (Store base off value) block p s first rest t l at f q other tied h = store_comes code A heartbeat allowed F block p s first rest t base off value h
  instr_comes fk (Salloc n) block p s first rest t l at f q other tied h = absurd (other tt)
  instr_comes fk (Sfree n) block p s first rest t l at f q other tied h = absurd (false≢true h.obeys.flat)
  instr_comes fk (PrmPush base off cells split) block p s first rest t l at f q other tied h = push_comes code A heartbeat allowed F block p s first rest t base off cells split l at f q h
  instr_comes fk (PrmPop base off) block p s first rest t l at f q other tied h = pop_comes code A heartbeat allowed F block p s first rest t base off h
  instr_comes fk PrmDrop block p s first rest t l at f q other tied h = drop_comes code A heartbeat allowed F block p s first rest t h
  instr_comes fk (PrmEmpty r) block p s first rest t l at f q other tied h = empty_comes code A heartbeat allowed F block p s first rest t r h
  instr_comes fk (PrmSplit base split) block p s first rest t l at f q other tied h = split_comes code A heartbeat allowed F block p s first rest t base split h
  instr_comes fk (JrAlloc to target) block p s first rest t l at f q other tied h = jralloc_comes code A heartbeat allowed F block p s first rest t to target h
  instr_comes fk (Fork rec child) block p s first rest t l at f q other tied h = fk block p s first rest t rec child tied h
  instr_comes fk (Fetch to table row col) block p s first rest t l at f q other tied h = fetch_comes code A heartbeat allowed F block p s first rest t to table row col h
  instr_comes fk (Put table row col value) block p s first rest t l at f q other tied h = put_comes code A heartbeat allowed F block p s first rest t table row col value h
  instr_comes fk (Rows to table) block p s first rest t l at f q other tied h = rows_comes code A heartbeat allowed F block p s first rest t to table h
  instr_comes fk (Cols to table) block p s first rest t l at f q other tied h = cols_comes code A heartbeat allowed F block p s first rest t to table h
  instr_comes fk (Make table rows cols place) block p s first rest t l at f q other tied h = make_comes code A heartbeat allowed F block p s first rest t table rows cols place h
  instr_comes fk Tick block p s first rest t l at f q other tied h = tick_comes code A heartbeat allowed F block p s first rest t h
  instr_comes fk (Trap kind place) block p s first rest t l at f q other tied h = trap_comes code A heartbeat allowed F block p s first rest t kind place h
  instr_comes fk (Print r) block p s first rest t l at f q other tied h = print_comes code A heartbeat allowed F block p s first rest t r h
  instr_comes fk (Emit table) block p s first rest t l at f q other tied h = emit_comes code A heartbeat allowed F block p s first rest t table h

  -- before its first instruction, where it makes no activation, the run's first task has an empty one
  settled : (s : Shape) (t : State) → whole.cells ≡ 0 → Holds whole true s t → Holds whole false s t
  settled s t none h = record {
    registers_are = h.registers_are;
    base_is = h.base_is;
    cells_are = subst (λ ws. AreOfKinds (IsOfKind whole t.goal t.pending t.met) s.cells ws) (ap (λ k. replicate k word.Nil) none ∙ ap (λ st. st.cells) (sym h.stack_is)) h.cells_are;
    stack_is = (ap (λ st. st.base) h.stack_is, ap (λ (st : StackValue). length st.cells) h.stack_is ∙ sym none);
    end_is = h.end_is;
    mark_is = h.mark_is;
    grant_is = h.grant_is;
    met_is = h.met_is;
  }

  settle : (first : Bool) (s : Shape) (t : State) → (first ≡ true → whole.cells ≡ 0) → Holds whole first s t → Holds whole false s t
  settle true s t none h = settled s t (none refl) h
  settle false s t none h = h

  is_salloc : (i : Instr) → IsSalloc i ⊎ (IsSalloc i → ⊥)
  is_salloc (Move to value) = inr (λ z. z)
  is_salloc (Calc to left alu right) = inr (λ z. z)
  is_salloc (IfJump test label) = inr (λ z. z)
  is_salloc (Load to base off) = inr (λ z. z)
  is_salloc (Store base off value) = inr (λ z. z)
  is_salloc (Salloc n) = inl tt
  is_salloc (Sfree n) = inr (λ z. z)
  is_salloc (PrmPush base off cells split) = inr (λ z. z)
  is_salloc (PrmPop base off) = inr (λ z. z)
  is_salloc PrmDrop = inr (λ z. z)
  is_salloc (PrmEmpty r) = inr (λ z. z)
  is_salloc (PrmSplit base split) = inr (λ z. z)
  is_salloc (JrAlloc to target) = inr (λ z. z)
  is_salloc (Fork rec child) = inr (λ z. z)
  is_salloc (Fetch to table row col) = inr (λ z. z)
  is_salloc (Put table row col value) = inr (λ z. z)
  is_salloc (Rows to table) = inr (λ z. z)
  is_salloc (Cols to table) = inr (λ z. z)
  is_salloc (Make table rows cols place) = inr (λ z. z)
  is_salloc Tick = inr (λ z. z)
  is_salloc (Trap kind place) = inr (λ z. z)
  is_salloc (Print r) = inr (λ z. z)
  is_salloc (Emit table) = inr (λ z. z)

  -- a block that a tie names
  tied_block : (l : ℕ) → reading.is_target code l ≡ true → IsBlockAt code l
  tied_block l q = by (block_at code l) refl q
    where
      by : (o : Option Block) → block_at code l ≡ o → is_some (reading.target_of (reading.note_of o)) ≡ true → IsBlockAt code l
      by None e z = absurd (false≢true z)
      by (Some b) e z = record { block = b; is = e }

  met_block : (m : Option Tie) → IsTieOf code m → (tie : Tie) → m ≡ Some tie → IsBlockAt code tie.target
  met_block None is tie q = some_none tie (sym q)
  met_block (Some x) is tie q = tied_block tie.target (subst (λ k. reading.is_target code k ≡ true) (ap of q) is)
    where
      of : Option Tie → ℕ
      of None = 0
      of (Some y) = y.target

  no_end : (p : Phase) (rs : List Word) (pending : Option Tie) → Ahead p [] → InPhase p rs pending → pending ≡ None
  no_end Calm rs pending a h = h
  no_end (Compared r x) rs pending a h = h.0
  no_end (Asked r l) rs pending a h = absurd (false≢true a)
  no_end (Tested r x l) rs pending a h = absurd (false≢true a)
  no_end (Given r l) rs pending a h = absurd (false≢true a)

  module _ (forks_come : ForksCome) (state : State) (k : Knows code A state) (runs : RunsOn code state) where
    abbrev rest : List Instr
    rest = drop (state.at + 1) k.block.body

    at_end : slice_get k.block.body state.at ≡ None → Gives (finished code heartbeat allowed k.block.term (advanced state))
    at_end q =
        let e = at_term state.at k.block.body q in
        let opens = subst (λ b. Opens whole k.first b) e k.opens in
        ends_come code A meets right_code heartbeat allowed F state.at k.shape (advanced state)
        (settle k.first k.shape (advanced state) (empty k.first opens) k.holds)
        (no_end k.phase state.registers state.pending (subst (λ b. Ahead k.phase b) e k.ahead) k.in_phase) k.met_apart k.pending_apart k.block.term
        (term_right code.tables code.blocks state.block k.block right_code k.found) (met_block state.met runs.belongs.holds.met)
        (subst (λ b. GoesWell whole A k.first state.at k.phase k.shape b k.block.term) e k.good)
      where
        empty : (first : Bool) → Opens whole first [] → first ≡ true → whole.cells ≡ 0
        empty true o q = o
        empty false o q = absurd (false≢true q)

    module _ (i : Instr) (q : slice_get k.block.body state.at ≡ Some i) where
      ahead : Ahead k.phase (i ∷ rest)
      ahead = subst (λ b. Ahead k.phase b) (at_instr state.at k.block.body i q) k.ahead

      opens : Opens whole k.first (i ∷ rest)
      opens = subst (λ b. Opens whole k.first b) (at_instr state.at k.block.body i q) k.opens

      right : is_instr (length code.tables) (length code.blocks) i ≡ true
      right = instr_right code.tables code.blocks state.block state.at k.block i right_code k.found q

      walked : StepsWell whole A k.first state.at k.phase k.shape i rest k.block.term
      walked = steps_well whole A k.first state.at k.phase k.shape i rest k.block.term (subst (λ b. GoesWell whole A k.first state.at k.phase k.shape b k.block.term) (at_instr state.at k.block.body i q) k.good)

      at_other : (IsSalloc i → ⊥) → Gives (executed code heartbeat allowed i (advanced state))
      at_other other =
          let w = walked in
          instr_comes forks_come i k.block k.phase k.shape k.first rest (advanced state) state.block state.at k.found q other runs.belongs.holds.pending (record {
            found = k.found;
            rest_is = refl;
            obeys = obeys whole k.first k.phase k.shape i rest w.unbroken;
            flows = w.flows;
            combines = w.combines;
            on = w.on;
            holds = settle k.first k.shape (advanced state) (no_cells whole k.first i rest other opens) k.holds;
            in_phase = k.in_phase;
            ahead = ahead;
            met_apart = k.met_apart;
            pending_apart = k.pending_apart;
            count = runs.belongs.holds.registers;
            right = right;
          })

    makes : (n : ℕ) → slice_get k.block.body state.at ≡ Some (Salloc n) → Gives (executed code heartbeat allowed (Salloc n) (advanced state))
    makes n q =
        let w = walked (Salloc n) q in
        let first = (obeys whole k.first k.phase k.shape (Salloc n) rest w.unbroken).flat in
        salloc_comes code A heartbeat allowed F k.block k.shape rest (advanced state) n k.found refl (right (Salloc n) q) (subst (λ f. Opens whole f (Salloc n ∷ rest)) first (opens (Salloc n) q)) w.on
        (subst (λ f. Holds whole f k.shape (advanced state)) first k.holds) (calm_at k.phase (Salloc n) rest state.registers state.pending tt (ahead (Salloc n) q) k.in_phase) k.met_apart k.pending_apart

    at_salloc : (i : Instr) → slice_get k.block.body state.at ≡ Some i → IsSalloc i → Gives (executed code heartbeat allowed i (advanced state))
    at_salloc (Move to value) q y = absurd y
    at_salloc (Calc to left alu v) q y = absurd y
    at_salloc (IfJump test label) q y = absurd y
    at_salloc (Load to base off) q y = absurd y
    at_salloc (Store base off value) q y = absurd y
    at_salloc (Salloc n) q y = makes n q
    at_salloc (Sfree n) q y = absurd y
    at_salloc (PrmPush base off cells split) q y = absurd y
    at_salloc (PrmPop base off) q y = absurd y
    at_salloc PrmDrop q y = absurd y
    at_salloc (PrmEmpty r) q y = absurd y
    at_salloc (PrmSplit base split) q y = absurd y
    at_salloc (JrAlloc to target) q y = absurd y
    at_salloc (Fork rec child) q y = absurd y
    at_salloc (Fetch to table row col) q y = absurd y
    at_salloc (Put table row col value) q y = absurd y
    at_salloc (Rows to table) q y = absurd y
    at_salloc (Cols to table) q y = absurd y
    at_salloc (Make table rows cols place) q y = absurd y
    at_salloc Tick q y = absurd y
    at_salloc (Trap kind place) q y = absurd y
    at_salloc (Print r) q y = absurd y
    at_salloc (Emit table) q y = absurd y

    -- what is known after a step, whichever it is
    pub step_knows : Gives (step code heartbeat allowed state)
    step_knows = subst (λ o. Gives (step_in code heartbeat allowed o state)) (sym k.found) (by (slice_get k.block.body state.at) refl)
      where
        by : (o : Option Instr) → slice_get k.block.body state.at ≡ o → Gives (step_at code heartbeat allowed o k.block.term state)
        by None q = at_end q
        by (Some i) q = ⊎_elim (λ (y : IsSalloc i). at_salloc i q y) (λ (y : IsSalloc i → ⊥). at_other i q y) (is_salloc i)
