-- What a step leaves of a task's tables and ticks, whatever the task knows.
use Rattle.std.proofs.Common.{Ordering, Less, Equal, Greater, is_eq, ◌+ℤ◌, ◌^◌, ◌≡◌, ℕ, ℤ, zero, suc, ◌+◌, ◌≤◌, List, [], ◌∷◌, Option, Some, None, Result, Ok, Err, refl, sym, ap, subst, ◌∙◌, length, arith, cond}
use Rattle.std.proofs.lemmas.Bool.{ltb-true, false≢true}
use Rattle.std.specs.Prelude.{Bool, true, false, not, ◌&&◌, ◌==◌, if◌then◌else◌, nat_le, nat_lt, pos, negsuc, slice_get, slice_set}
use Rattle.std.specs.Ordering.{int_eq}
use Rattle.stack_marks.specs.Stacks.{word_at}
use Rattle.stack_marks.specs.declared.mark.Mark.{Mark}
use Rattle.tp_value.specs.declared.values.Stop.{Stop}
use Rattle.tp_value.specs.declared.values.Stop.TheVariants as stop
use Rattle.tpal_syntax.specs.declared.blocks.Block.{Block}
use Rattle.tpal_syntax.specs.declared.instructions.Instr.{Instr}
use Rattle.tpal_syntax.specs.declared.instructions.Instr.TheVariants.{Move, Calc, IfJump, Load, Store, Salloc, Sfree, PrmPush, PrmPop, PrmDrop, PrmEmpty, PrmSplit, JrAlloc, Fork, Fetch, Put, Rows, Cols, Make, Tick, Trap, Print, Emit}
use Rattle.tpal_syntax.specs.declared.words.Word.{Word}
use Rattle.tpal_syntax.specs.declared.words.Word.TheVariants as word
use Rattle.tpal_syntax.specs.Listing.{Listing}
use Rattle.tpal_machine.specs.declared.ends.Goal.{Goal}
use Rattle.tpal_machine.specs.declared.ends.Goal.TheVariants as goal
use Rattle.tpal_machine.specs.declared.ends.Tie.{Tie}
use Rattle.tpal_machine.specs.declared.faults.Fault.{Fault}
use Rattle.tpal_machine.specs.declared.faults.Fault.TheVariants as fault
use Rattle.tpal_machine.specs.Calculation.{on_number, calculated}
use Rattle.tpal_machine.specs.Cut.{Forked, rest_of, left_of, child_of, each_part, carried, parts, on_record, on_pending, on_cuts, fork}
use Rattle.tpal_machine.specs.declared.cut.TableCut.{TableCut}
use Rattle.tpal_machine.specs.declared.ends.SideName.TheVariants as side
use Rattle.tpal_machine.specs.Effect as effect
use Rattle.tpal_machine.specs.Effect.{on_cell, on_held, on_oldest}
use Rattle.tpal_machine.specs.Ended.{ended_at}
use Rattle.tpal_machine.specs.Reading.{register, operand, with_register, block_at, table_at}
use Rattle.tpal_machine.specs.State.{State}
use Rattle.tp_value.specs.declared.values.Place.{Place}
use Rattle.tp_value.specs.declared.values.TrapKind.TheVariants.{Size}
use Rattle.beat_count.specs.Ticks.{is_tick_allowed}
use Rattle.slices.specs.Holding as slices
use Rattle.std.specs.Prelude.{IsSome, map, is_some}
use Rattle.std.specs.List.{list_any}
use Rattle.beat_count.specs.Ticks.{ticked}
use Rattle.std.specs.Ordering.{eq_by_cmp}
use Rattle.std.specs.FinMap.{get-insert}
use Rattle.slices.specs.Cells.{place_cmp}
use Rattle.slices.proofs.Maps.{place_total, place_only}
use Rattle.slices.specs.Holding.{Holding, with_cell}
use Rattle.tpal_syntax.specs.declared.notes.CarryAt.{CarryAt}
use Rattle.tpal_syntax.specs.declared.notes.Note.{Note}
use Rattle.tpal_syntax.specs.declared.notes.Note.TheVariants as note
use Rattle.tpal_syntax.specs.declared.instructions.Term.{Term}
use Rattle.tpal_syntax.specs.declared.instructions.Term.TheVariants as term
use Rattle.tpal_syntax.specs.Parts.{table_of}
use Rattle.tpal_machine.specs.declared.ends.Ending.{Ending}
use Rattle.tpal_machine.specs.declared.ends.Ending.TheVariants as ending
use Rattle.tpal_machine.specs.Ended.{words_of, slices_of}
use Rattle.tpal_machine.specs.Merge.{IsSideOf, WhereDone}
use Rattle.tpal_machine.specs.Reading.{the_target, note_of}
use Rattle.tpal_machine.specs.Step.{Step, Goes, Beats, Ends, Asks, Forks, Stuck, Strays, at_block, entered_by, stepped, asked, halting, forked, if_jump, executed, jump, halt, is_end, join_end, join_met, joined, join, leave_end, leave, finished, advanced, step_at, step_in, step}
use Rattle.tpal_verify.specs.Fits.{IsPartOf, ArePartsOf, SlicesArePartsOf}

abbrev pub IsSideGoal : Goal → Type 0
IsSideGoal goal.Root = ⊥
IsSideGoal (goal.At rec side target) = Unit {0}

-- the limit stays, and so do the bound on ticks and what a side may hold of its tables
pub record Steady (s t : State) : Type 0 where
  pub limit : t.fuel.limit ≡ s.fuel.limit
  pub ticks : s.fuel.ticks ≤ s.fuel.limit + 1 → t.fuel.ticks ≤ s.fuel.limit + 1
  pub tables : IsSideGoal s.goal → (bounds : List Holding) (cs : List CarryAt) → ArePartsOf bounds cs s.tables → ArePartsOf bounds cs t.tables

-- what a side ends with is one of its join target, within its limit and its tables
abbrev pub EndSteady : Listing → Goal → State → Ending → Type 0
EndSteady code goal.Root s e = Unit {0}
EndSteady code (goal.At rec sd target) s (ending.Root outcome) = Unit {0}
EndSteady code (goal.At rec sd target) s (ending.At i side out) =
    (s.fuel.ticks ≤ s.fuel.limit + 1 → out.ticks ≤ s.fuel.limit + 1)
    × IsSideOf (the_target code target) out
    × ((bounds : List Holding) → ArePartsOf bounds (the_target code target).carries s.tables → WhereDone out.stop (SlicesArePartsOf bounds out.slices))

-- what the parts of a fork have of a task
pub record PartsFrom (code : Listing) (s : State) (parts : Forked) : Type 0 where
  pub cuts : List (ℕ × TableCut)
  pub cut : carried s.registers (the_target code parts.rest.target).carries ≡ Ok cuts
  pub left_goal : parts.left.goal ≡ goal.At parts.rec side.Left parts.rest.target
  pub child_goal : parts.child.goal ≡ goal.At parts.rec side.Right parts.rest.target
  pub rest_goal : parts.rest.goal ≡ s.goal
  pub rest_rec : parts.rest.rec ≡ parts.rec
  pub rest_limit : parts.rest.limit ≡ s.fuel.limit
  pub left_limit : parts.left.fuel.limit ≡ s.fuel.limit
  pub left_ticks : parts.left.fuel.ticks ≡ s.fuel.ticks
  pub child_limit : parts.child.fuel.limit ≡ s.fuel.limit
  pub child_ticks : parts.child.fuel.ticks ≡ 0
  pub left_tables : parts.left.tables ≡ each_part left_of cuts 0 s.tables
  pub rest_tables : parts.rest.tables ≡ each_part rest_of cuts 0 s.tables
  pub child_tables : parts.child.tables ≡ each_part child_of cuts 0 s.tables

same : (s : State) → Steady s s
same s = record { limit = refl; ticks = λ le. le; tables = λ side bounds cs a. a }

-- ---- a cell that is held gets another number

equal_is : (o : Ordering) → is_eq o ≡ true → o ≡ Equal
equal_is Less q = absurd (false≢true q)
equal_is Equal q = refl
equal_is Greater q = absurd (false≢true q)

put_cell : (h : Holding) (i j n : ℤ) → IsSome (slices.cell_at h i j) → (row col : ℤ) → IsSome (slices.cell_at (with_cell h i j n) row col) → IsSome (slices.cell_at h row col)
put_cell h i j n there row col is = by (eq_by_cmp place_cmp (row, col) (i, j)) refl (subst IsSome (get-insert place_total h.cells (i, j) n (row, col)) is)
  where
    by : (b : Bool) → eq_by_cmp place_cmp (row, col) (i, j) ≡ b → IsSome (cond b (Some n) (slices.cell_at h row col)) → IsSome (slices.cell_at h row col)
    by true q z = subst (λ (p : ℤ × ℤ). IsSome (slices.cell_at h p.0 p.1)) (sym (place_only (row, col) (i, j) (equal_is (place_cmp (row, col) (i, j)) q))) there
    by false q z = z

put_part : (hs : List Holding) (t u : ℕ) (i j n : ℤ) (b : Holding) → IsSome (slices.cell_at (table_at hs t) i j) → IsPartOf (table_at hs u) b → IsPartOf (table_at (slice_set hs t (with_cell (table_at hs t) i j n)) u) b
put_part [] t u i j n b there p = p
put_part (h ∷ hs) zero zero i j n b there p = record { size = p.size; within = λ row col is. p.within row col (put_cell h i j n there row col is) }
put_part (h ∷ hs) zero (suc u) i j n b there p = p
put_part (h ∷ hs) (suc t) zero i j n b there p = p
put_part (h ∷ hs) (suc t) (suc u) i j n b there p = put_part hs t u i j n b there p

put_parts : (bounds hs : List Holding) (cs : List CarryAt) (t : ℕ) (i j n : ℤ) → IsSome (slices.cell_at (table_at hs t) i j) → ArePartsOf bounds cs hs → ArePartsOf bounds cs (slice_set hs t (with_cell (table_at hs t) i j n))
put_parts bounds hs [] t i j n there a = tt
put_parts bounds hs (c ∷ cs) t i j n there a = (put_part hs t (table_of c) i j n (table_at bounds (table_of c)) there a.0, put_parts bounds hs cs t i j n there a.1)

-- ---- ends

names_are : (ws : List Word) (ps : List (ℕ × ℕ)) → map (λ w. w.0) (words_of ws ps) ≡ map (λ p. p.0) ps
names_are ws [] = refl
names_are ws (p ∷ ps) = ap (λ ns. p.0 ∷ ns) (names_are ws ps)

tables_are : (hs : List Holding) (cs : List CarryAt) → map (λ x. x.0) (slices_of hs cs) ≡ map table_of cs
tables_are hs [] = refl
tables_are hs (c ∷ cs) = ap (λ ns. table_of c ∷ ns) (tables_are hs cs)

slices_are : (bounds hs : List Holding) (cs : List CarryAt) → ArePartsOf bounds cs hs → SlicesArePartsOf bounds (slices_of hs cs)
slices_are bounds hs [] a = tt
slices_are bounds hs (c ∷ cs) a = (record { size = a.0.size; within = a.0.within }, slices_are bounds hs cs a.1)

module _ (code : Listing) (heartbeat : ℕ) (allowed : Bool) where
  ended_steady : (g : Goal) (x : Stop) (s v : State) → (s.fuel.ticks ≤ s.fuel.limit + 1 → v.fuel.ticks ≤ s.fuel.limit + 1) → v.tables ≡ s.tables → EndSteady code g s (ended_at g code x v)
  ended_steady goal.Root x s v k e = tt
  ended_steady (goal.At rec sd target) stop.Done s v k e = (
    k,
    record { words = names_are v.registers (the_target code target).renames; slices = tables_are v.tables (the_target code target).carries },
    λ bounds a. slices_are bounds v.tables (the_target code target).carries (subst (λ hs. ArePartsOf bounds (the_target code target).carries hs) (sym e) a),
  )
  ended_steady (goal.At rec sd target) (stop.Left number) s v k e = (k, record { words = tt; slices = tt }, λ bounds a. tt)
  ended_steady (goal.At rec sd target) (stop.Trap kind place) s v k e = (k, record { words = tt; slices = tt }, λ bounds a. tt)
  ended_steady (goal.At rec sd target) stop.NoFuel s v k e = (k, record { words = tt; slices = tt }, λ bounds a. tt)

  abbrev pub StepSteady : State → Step → Type 0
  StepSteady s (Goes after) = Steady s after
  StepSteady s (Beats diverted) = Steady s diverted
  StepSteady s (Ends e) = EndSteady code s.goal s e
  StepSteady s (Asks waits) = Steady s waits
  StepSteady s (Forks parts) = PartsFrom code s parts
  StepSteady s (Stuck fault) = Unit {0}
  StepSteady s Strays = Unit {0}

  module _ (s : State) where
    abbrev Is : Step → Type 0
    Is x = StepSteady s x

    -- a change of neither fuel nor tables
    other : (t : State) → t.fuel ≡ s.fuel → t.tables ≡ s.tables → Steady s t
    other t f h = record {
      limit = ap (λ x. x.limit) f;
      ticks = λ le. subst (λ x. x.ticks ≤ s.fuel.limit + 1) (sym f) le;
      tables = λ side bounds cs a. subst (λ hs. ArePartsOf bounds cs hs) (sym h) a;
    }

    number : (w : Word) (go : ℤ → effect.Effect) → ((i : ℤ) → Is (stepped (go i))) → Is (stepped (on_number w go))
    number (word.Int i) go f = f i
    number (word.Label l) go f = tt
    number (word.Rec k) go f = tt
    number word.Nil go f = tt

    cell : (o : Option Word) (go : Word → effect.Effect) → ((w : Word) → Is (stepped (go w))) → Is (stepped (on_cell o go))
    cell None go f = tt
    cell (Some w) go f = f w

    held : (o : Option ℤ) (go : ℤ → effect.Effect) → ((n : ℤ) → o ≡ Some n → Is (stepped (go n))) → Is (stepped (on_held o go))
    held None go f = tt
    held (Some n) go f = f n refl

    oldest_one : (o : Option Mark) (go : Mark → effect.Effect) → ((m : Mark) → Is (stepped (go m))) → Is (stepped (on_oldest o go))
    oldest_one None go f = tt
    oldest_one (Some m) go f = f m

    either : {X : Type 0} (Q : X → Type 0) (b : Bool) (x y : X) → Q x → Q y → Q (cond b x y)
    either Q true x y p q = p
    either Q false x y p q = q

    result : (to : ℕ) (r : Result Word Fault) → Is (stepped (effect.put_result s to r))
    result to (Ok w) = other (with_register s to w) refl refl
    result to (Err f) = tt

    stops : (o : Option Tie) (x : Stop) (v : State) → v.goal ≡ s.goal → (s.fuel.ticks ≤ s.fuel.limit + 1 → v.fuel.ticks ≤ s.fuel.limit + 1) → v.tables ≡ s.tables → Is (halting code (effect.stops o x v))
    stops None x v g k e = subst (λ y. EndSteady code y s (ended_at v.goal code x v)) g (ended_steady_as v.goal x v k e)
      where
        ended_steady_as : (g : Goal) (x : Stop) (v : State) → (s.fuel.ticks ≤ s.fuel.limit + 1 → v.fuel.ticks ≤ s.fuel.limit + 1) → v.tables ≡ s.tables → EndSteady code g s (ended_at g code x v)
        ended_steady_as g x v k e = ended_steady g x s v k e
    stops (Some tie) x v g k e = tt

    -- ---- entering

    enters_steady : (n : Note) (l : ℕ) (v : State) → v.fuel ≡ s.fuel → v.tables ≡ s.tables → Is (entered_by n heartbeat allowed l v)
    enters_steady note.Plain l v f h = other (at_block l v) f h
    enters_steady (note.Ready handler) l v f h = either Is (Rattle.beat_count.specs.Heartbeat.is_diverted heartbeat (effect.has_mark v.stack) allowed v.beat) _ _ (other _ f h) (other _ f h)
    enters_steady (note.Target target) l v f h = other (at_block l v) f h

    jumps_steady : (w : Word) (l : ℕ) → Is (if_jump code heartbeat allowed w l s)
    jumps_steady (word.Int n) l = either Is (int_eq n (pos 0)) _ _ (same s) (enters_steady (note_of (block_at code l)) l s refl refl)
    jumps_steady (word.Label k) l = tt
    jumps_steady (word.Rec k) l = tt
    jumps_steady word.Nil l = tt

    -- ---- tables and ticks

    ticked_bound : s.fuel.ticks ≤ s.fuel.limit + 1 → ticked s.fuel.limit s.fuel.ticks ≤ s.fuel.limit + 1
    ticked_bound le = by (is_tick_allowed s.fuel.limit s.fuel.ticks) refl
      where
        by : (b : Bool) → is_tick_allowed s.fuel.limit s.fuel.ticks ≡ b → (cond b (s.fuel.ticks + 1) (s.fuel.limit + 1)) ≤ s.fuel.limit + 1
        by true q = let a = ltb-true s.fuel.ticks s.fuel.limit q in omega (arith, a)
        by false q = omega arith

    ticks_on : Steady s (effect.with_tick s)
    ticks_on = record { limit = refl; ticks = ticked_bound; tables = λ side bounds cs a. a }

    halting_number : (w : Word) (go : ℤ → effect.Halting) → ((n : ℤ) → Is (halting code (go n))) → Is (halting code (on_number w go))
    halting_number (word.Int n) go f = f n
    halting_number (word.Label l) go f = tt
    halting_number (word.Rec k) go f = tt
    halting_number word.Nil go f = tt

    some_cell : (o : Option ℤ) (n : ℤ) → o ≡ Some n → IsSome o
    some_cell o n q = subst IsSome (sym q) refl

    mark_from : (i : ℤ) (off cells split : ℕ) → Is (stepped (effect.with_mark_from s i off cells split))
    mark_from (pos base) off cells split =
        let m : Mark = record { at = base + off; base = base; cells = cells; split = split } in
        either (λ x. Is (stepped x)) (effect.holds_mark s.stack m) _ _ (either (λ x. Is (stepped x)) (effect.is_marked_from s.stack.marks m.at) _ _ tt (other _ refl refl)) tt
    mark_from (negsuc below) off cells split = tt

    printed : (o : Option (List ℕ)) → Is (stepped (effect.put_output s o))
    printed None = tt
    printed (Some text) = other _ refl refl

    -- a table is made at the end of the run alone
    made_steady : (g : Goal) → s.goal ≡ g → (table : ℕ) (m n : ℤ) (place : Place) → Is (halting code (if effect.is_makeable code table s then effect.made table m n place s else Err fault.Made))
    made_steady goal.Root e table m n place =
        either (λ x. Is (halting code x)) (effect.is_makeable code table s) _ _
        (either (λ x. Is (halting code x)) (effect.fits s.tables m n) _ _
        (record { limit = refl; ticks = λ le. le; tables = λ side bounds cs a. absurd (subst IsSideGoal e side) })
        (stops s.pending (stop.Trap Size place) s refl (λ le. le) refl)) tt
    made_steady (goal.At rec sd target) e table m n place = false_by (effect.is_makeable code table s) (not_makeable table)
      where
        and_false : (b : Bool) → (b && false) ≡ false
        and_false true = refl
        and_false false = refl

        not_makeable : (table : ℕ) → effect.is_makeable code table s ≡ false
        not_makeable table = ap (λ g. not (effect.is_input (slice_get code.tables table)) && not (list_any (λ x. x == table) s.made) && effect.is_root g) e ∙ and_false (not (effect.is_input (slice_get code.tables table)) && not (list_any (λ x. x == table) s.made))

        false_by : (b : Bool) → b ≡ false → Is (halting code (if b then effect.made table m n place s else Err fault.Made))
        false_by true q = absurd (false≢true (sym q))
        false_by false q = tt

    -- ---- forks

    on_record_steady : (w : Word) (go : ℕ → Result Forked Fault) → ((k : ℕ) → Is (forked (go k))) → Is (forked (on_record w go))
    on_record_steady (word.Int n) go f = tt
    on_record_steady (word.Label l) go f = tt
    on_record_steady (word.Rec k) go f = f k
    on_record_steady word.Nil go f = tt

    on_pending_steady : (o : Option Tie) (k : ℕ) (go : Tie → Result Forked Fault) → ((tie : Tie) → Is (forked (go tie))) → Is (forked (on_pending o k go))
    on_pending_steady None k go f = tt
    on_pending_steady (Some tie) k go f = either (λ x. Is (forked x)) (tie.rec == k) _ _ (f tie) tt

    on_mark_steady : (o : Option Mark) (go : Mark → Result Forked Fault) → ((m : Mark) → Is (forked (go m))) → Is (forked (on_oldest o go))
    on_mark_steady None go f = tt
    on_mark_steady (Some m) go f = f m

    on_cuts_steady : (r : Result (List (ℕ × TableCut)) Fault) (go : List (ℕ × TableCut) → Result Forked Fault) → ((cuts : List (ℕ × TableCut)) → r ≡ Ok cuts → Is (forked (go cuts))) → Is (forked (on_cuts r go))
    on_cuts_steady (Ok cuts) go f = f cuts refl
    on_cuts_steady (Err e) go f = tt

    parts_from : (child : ℕ) (tie : Tie) (m : Mark) (cuts : List (ℕ × TableCut)) → carried s.registers (the_target code tie.target).carries ≡ Ok cuts → PartsFrom code s (parts (the_target code tie.target) child tie m cuts s)
    parts_from child tie m cuts q = record {
      cuts = cuts;
      cut = q;
      left_goal = refl;
      child_goal = refl;
      rest_goal = refl;
      rest_rec = refl;
      rest_limit = refl;
      left_limit = refl;
      left_ticks = refl;
      child_limit = refl;
      child_ticks = refl;
      left_tables = refl;
      rest_tables = refl;
      child_tables = refl;
    }

    fork_steady : (rec child : ℕ) → Is (forked (fork code rec child s))
    fork_steady rec child =
        on_record_steady (register s.registers rec) _ (λ k. on_pending_steady s.pending k _ (λ tie.
        either (λ x. Is (forked x)) s.beat.granted _ _ (on_mark_steady (effect.oldest s.stack) _ (λ m.
        either (λ x. Is (forked x)) (effect.holds_cells s.stack m.base m.cells) _ _ (on_cuts_steady (carried s.registers (the_target code tie.target).carries) _ (λ cuts q. parts_from child tie m cuts q)) tt)) tt))

    pub executed_steady : (i : Instr) → Is (executed code heartbeat allowed i s)
    executed_steady (Move to value) = other _ refl refl
    executed_steady (Calc to left alu right) = result to (calculated alu (register s.registers left) (operand s.registers right))
    executed_steady (IfJump test label) = jumps_steady (register s.registers test) label
    executed_steady (Load to base off) = number (register s.registers base) _ (λ i. cell (word_at s.stack (i +ℤ pos off)) _ (λ w. other _ refl refl))
    executed_steady (Store base off value) = number (register s.registers base) _ (λ i. cell (word_at s.stack (i +ℤ pos off)) _ (λ w. other _ refl refl))
    executed_steady (Salloc n) = either (λ x. Is (stepped x)) (nat_le (s.stack.base + length s.stack.cells + n) (2 ^ 62)) _ _ (other _ refl refl) tt
    executed_steady (Sfree n) = either (λ x. Is (stepped x)) (nat_lt (length s.stack.cells) n) _ _ tt (either (λ x. Is (stepped x)) (effect.is_marked_from s.stack.marks _) _ _ tt (other _ refl refl))
    executed_steady (PrmPush base off cells split) = number (register s.registers base) _ (λ i. mark_from i off cells split)
    executed_steady (PrmPop base off) = number (register s.registers base) _ (λ i. cell (word_at s.stack (i +ℤ pos off)) _ (λ w. other _ refl refl))
    executed_steady PrmDrop = oldest_one (effect.oldest s.stack) _ (λ m. other _ refl refl)
    executed_steady (PrmEmpty r) = other _ refl refl
    executed_steady (PrmSplit base split) = oldest_one (effect.oldest s.stack) _ (λ m. other _ refl refl)
    executed_steady (JrAlloc to target) = either (λ x. Is (asked x)) (is_some s.pending) _ _ tt (either (λ x. Is (asked x)) (Rattle.tpal_machine.specs.Reading.is_target code target) _ _ (other _ refl refl) tt)
    executed_steady (Fork rec child) = fork_steady rec child
    executed_steady (Fetch to table row col) = number (register s.registers row) _ (λ i. number (register s.registers col) _ (λ j. held (slices.cell_at (table_at s.tables table) i j) _ (λ n q. other _ refl refl)))
    executed_steady (Put table row col value) = number (register s.registers row) _ (λ i. number (register s.registers col) _ (λ j. number (register s.registers value) _ (λ n. held (slices.cell_at (table_at s.tables table) i j) _ (λ before q.
        record { limit = refl; ticks = λ le. le; tables = λ side bounds cs a. put_parts bounds s.tables cs table i j n (some_cell (slices.cell_at (table_at s.tables table) i j) before q) a }))))
    executed_steady (Rows to table) = other _ refl refl
    executed_steady (Cols to table) = other _ refl refl
    executed_steady (Make table rows cols place) = halting_number (register s.registers rows) _ (λ m. halting_number (register s.registers cols) _ (λ n. made_steady s.goal refl table m n place))
    executed_steady Tick = either (λ x. Is (halting code x)) (is_tick_allowed s.fuel.limit s.fuel.ticks) _ _ ticks_on (stops s.pending stop.NoFuel (effect.with_tick s) refl ticked_bound refl)
    executed_steady (Trap kind place) = stops s.pending (stop.Trap kind place) s refl (λ le. le) refl
    executed_steady (Print r) = number (register s.registers r) _ (λ n. other _ refl refl)
    executed_steady (Emit table) = printed (effect.table_lines (table_at s.tables table))

    -- ---- the ends of blocks

    jump_steady : (w : Word) → Is (jump code heartbeat allowed w s)
    jump_steady (word.Int n) = tt
    jump_steady (word.Label l) = enters_steady (note_of (block_at code l)) l s refl refl
    jump_steady (word.Rec k) = tt
    jump_steady word.Nil = tt

    halt_steady : (g : Goal) → Is (halt g code s)
    halt_steady goal.Root = stops s.pending stop.Done s refl (λ le. le) refl
    halt_steady (goal.At rec sd target) = tt

    join_end_steady : (k : ℕ) → Is (join_end code k s)
    join_end_steady k = either Is (is_end s.goal k) _ _ (stops s.pending stop.Done s refl (λ le. le) refl) tt

    join_met_steady : (tie : Tie) → Is (join_met code heartbeat allowed tie s)
    join_met_steady tie = either Is (is_some s.pending) _ _ tt (enters_steady (note_of (block_at code tie.target)) tie.target (record s { met = None }) refl refl)

    joined_steady : (m : Option Tie) (k : ℕ) → Is (joined code heartbeat allowed m k s)
    joined_steady None k = join_end_steady k
    joined_steady (Some tie) k = either Is (tie.rec == k) _ _ (join_met_steady tie) (join_end_steady k)

    join_steady : (w : Word) → Is (join code heartbeat allowed w s)
    join_steady (word.Int n) = tt
    join_steady (word.Label l) = tt
    join_steady (word.Rec k) = joined_steady s.met k
    join_steady word.Nil = tt

    leave_end_steady : (k : ℕ) (number : Word) → Is (leave_end code k number s)
    leave_end_steady k number = either Is (is_end s.goal k) _ _ (halting_number number _ (λ n. stops s.pending (stop.Left n) s refl (λ le. le) refl)) tt

    leave_steady : (w number : Word) → Is (leave code w number s)
    leave_steady (word.Int n) number = tt
    leave_steady (word.Label l) number = tt
    leave_steady (word.Rec k) number = leave_end_steady k number
    leave_steady word.Nil number = tt

    finished_steady : (t : Term) → Is (finished code heartbeat allowed t s)
    finished_steady (term.Jump v) = jump_steady (operand s.registers v)
    finished_steady term.Halt = halt_steady s.goal
    finished_steady (term.Join r) = join_steady (register s.registers r)
    finished_steady (term.Leave r value) = leave_steady (register s.registers r) (register s.registers value)

  -- ---- steps

  counted_end : (s : State) (g : Goal) (e : Ending) → EndSteady code g (advanced s) e → EndSteady code g s e
  counted_end s goal.Root e h = tt
  counted_end s (goal.At rec sd target) (ending.Root outcome) h = tt
  counted_end s (goal.At rec sd target) (ending.At i side out) h = h

  -- the count of an instruction changes neither tables nor ticks
  counted_steady : (s : State) (x : Step) → StepSteady (advanced s) x → StepSteady s x
  counted_steady s (Goes after) h = record { limit = h.limit; ticks = h.ticks; tables = h.tables }
  counted_steady s (Beats diverted) h = record { limit = h.limit; ticks = h.ticks; tables = h.tables }
  counted_steady s (Ends e) h = counted_end s s.goal e h
  counted_steady s (Asks waits) h = record { limit = h.limit; ticks = h.ticks; tables = h.tables }
  counted_steady s (Forks parts) h = record {
    cuts = h.cuts;
    cut = h.cut;
    left_goal = h.left_goal;
    child_goal = h.child_goal;
    rest_goal = h.rest_goal;
    rest_rec = h.rest_rec;
    rest_limit = h.rest_limit;
    left_limit = h.left_limit;
    left_ticks = h.left_ticks;
    child_limit = h.child_limit;
    child_ticks = h.child_ticks;
    left_tables = h.left_tables;
    rest_tables = h.rest_tables;
    child_tables = h.child_tables;
  }
  counted_steady s (Stuck fault) h = tt
  counted_steady s Strays h = tt

  pub step_steady : (s : State) → StepSteady s (step code heartbeat allowed s)
  step_steady s = in_block (block_at code s.block)
    where
      at_place : (t : Term) (o : Option Instr) → StepSteady s (step_at code heartbeat allowed o t s)
      at_place t None = counted_steady s (finished code heartbeat allowed t (advanced s)) (finished_steady (advanced s) t)
      at_place t (Some i) = counted_steady s (executed code heartbeat allowed i (advanced s)) (executed_steady (advanced s) i)

      in_block : (o : Option Block) → StepSteady s (step_in code heartbeat allowed o s)
      in_block None = tt
      in_block (Some block) = at_place block.term (slice_get block.body s.at)
