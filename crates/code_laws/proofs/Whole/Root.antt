-- The first task of a code that is the code of a program is bound to its meaning, whatever is
-- diverted.
use Rattle.std.proofs.Common.{◌≡◌, ℕ, suc, ◌+◌, ◌<◌, ◌≤◌, true, false, List, [], ◌∷◌, ◌++◌, length}
use Rattle.std.proofs.Common.{map, append-nil, refl, sym, ap, subst, ◌∙◌, arith}
use Rattle.std.specs.Prelude.{pos, ⊤}
use Rattle.std.specs.List.{AllByRecursion}
use Rattle.std.proofs.lemmas.List.{length-replicate}
use Rattle.std.proofs.lemmas.List.Elements.{All-nil}
use Rattle.slices.specs.Holding.{Holding}
use Rattle.stack_marks.specs.Stacks.{StackValue, with_word, pushed}
use Rattle.tp_value.specs.declared.limits.TheConstants.{MAX_CALL_DEPTH}
use Rattle.tp_value.specs.declared.Outcome.{Outcome}
use Rattle.tp_value.specs.declared.Stop.{Stop}
use Rattle.tp_value.specs.declared.Stop.TheVariants.{Done, Left, Trap, NoFuel}
use Rattle.tp_value.specs.declared.Table.{Table}
use Rattle.loop_syntax.specs.declared.Program.{Program}
use Rattle.loop_syntax.specs.declared.TableDecl.{TableDecl}
use Rattle.loop_syntax.specs.declared.TableDecl.TheVariants.{Input, Made}
use Rattle.loop_meaning.specs.InRange.{TableInRange}
use Rattle.loop_meaning.specs.Calls.{setting}
use Rattle.loop_meaning.specs.Meaning as whole
use Rattle.loop_meaning.specs.Meaning.{chances, count_chances, input_cells, make_tables, whole_run}
use Rattle.loop_meaning.specs.Meaning.{outcome_of, meaning}
use Rattle.loop_meaning.specs.State as source
use Rattle.loop_meaning.specs.State.{Note, Reads, Writes, Emits, Chance, Ran}
use Rattle.loop_meaning.specs.Statements.{run_list}
use Rattle.tpal_syntax.specs.declared.blocks.CodeTable.{CodeTable}
use Rattle.tpal_syntax.specs.declared.instructions.Instr.TheVariants as instr
use Rattle.tpal_syntax.specs.declared.instructions.Term.TheVariants as term
use Rattle.tpal_syntax.specs.declared.instructions.Value.TheVariants as value
use Rattle.tpal_syntax.specs.declared.words.Word.TheVariants as word
use Rattle.tpal_syntax.specs.Listing.{Listing}
use Rattle.tpal_machine.specs.declared.ends.Ending.TheVariants as ending
use Rattle.tpal_machine.specs.declared.ends.Goal.TheVariants as goal
use Rattle.tpal_machine.specs.Effect as effect
use Rattle.tpal_machine.specs.Ended.{ended, ended_at}
use Rattle.tpal_machine.specs.Owes.{Bound, Owes}
use Rattle.tpal_machine.specs.Owes as owes
use Rattle.tpal_machine.specs.State as machine
use Rattle.tpal_machine.specs.State.{first_state}
use Rattle.tpal_machine.specs.Step.{Ends, advanced}
use Rattle.tpal_machine.proofs.Kit.{Back, on_salloc, halts}
use Rattle.expr_lower.specs.Standing.{Remains}
use Rattle.expr_lower.proofs.Standing.{next, behind, at_end}
use Rattle.handler_gen.proofs.Words.{word_same, words_as_many}
use Rattle.scene_laws.specs.Code.{store}
use Rattle.scene_laws.specs.Layout.{levels_cell, Activation}
use Rattle.code_laws.specs.Main.{IsProgram}
use Rattle.form_laws.specs.Functions.{table_name}
use Rattle.scene_laws.specs.Tables.{AreDeclared, AreHeld}
use Rattle.scene_laws.specs.Names.{names_after_list}
use Rattle.form_laws.proofs.Forms.Callees.{main_has_place}
use Rattle.form_laws.proofs.Premises.Around.{Free}
use Rattle.form_laws.proofs.Premises.Cutting.{ProgramRules}
use Rattle.code_laws.proofs.Whole.Functions.{calls_owe}
use Rattle.code_laws.proofs.Whole.Law.{codes_law}
use Rattle.form_laws.proofs.Forms.Makes.{Making, AreGiven, count_held, makes_law, seeing}
use Rattle.scene_laws.proofs.Scenes.Moves.{opened}
use Rattle.scene_laws.proofs.Scenes.Promises.{CanRun, Terms, promised}
use Rattle.scene_laws.proofs.Scenes.Regions.{AtMostAChance, Covers, IsQuiet, everywhere}
use Rattle.scene_laws.proofs.Scenes.Results.{End, Result, Fin, Out, after_then, end_by, fin}
use Rattle.scene_laws.proofs.Scenes.Results.{result, then}
use Rattle.scene_laws.proofs.Scenes.Results.{then_end}
use Rattle.scene_laws.proofs.Scenes.Scene.{Scene, Owed}
use Rattle.form_laws.proofs.Forms.Simple.{stores_in}
use Rattle.scene_laws.proofs.Scenes.Values.{ExprLaw}

abbrev outcome_of_end : End → Outcome
outcome_of_end (Fin s) = record { stop = Done; output = s.output; ticks = s.ticks }
outcome_of_end (Out stop ticks output) = record { stop = stop; output = output; ticks = ticks }

abbrev outcome_by : Result → Outcome
outcome_by r = outcome_of_end r.end

same_by : (x : Stop) (r : Ran) → r.stop ≡ x →
    outcome_by (then_end r.notes (end_by x r.state) fin) ≡ outcome_of r
same_by Done r is =
    ap (λ (x : Stop). record { stop = x; output = r.state.output; ticks = r.state.ticks }) (sym is)
same_by (Left number) r is =
    ap (λ (x : Stop). record { stop = x; output = r.state.output; ticks = r.state.ticks }) (sym is)
same_by (Trap kind place) r is =
    ap (λ (x : Stop). record { stop = x; output = r.state.output; ticks = r.state.ticks }) (sym is)
same_by NoFuel r is =
    ap (λ (x : Stop). record { stop = x; output = r.state.output; ticks = r.state.ticks }) (sym is)

same_notes : (x : Stop) (r : Ran) → (then_end r.notes (end_by x r.state) fin).notes ≡ r.notes
same_notes Done r = append-nil r.notes
same_notes (Left number) r = refl
same_notes (Trap kind place) r = refl
same_notes NoFuel r = refl

-- a task that ends the run ends with its stop, its output and its ticks
ended_is : (code : Listing) (stop : Stop) (st : source.State) (last : machine.State) →
    last.goal ≡ goal.Root → last.fuel.ticks ≡ st.ticks → st.output ≡ last.output →
    ended code stop last
    ≡ ending.Root (record { stop = stop; output = st.output; ticks = st.ticks })
ended_is code stop st last root ticks output =
    ap (λ g. ended_at g code stop last) root
    ∙ (ap (λ (n : ℕ). ending.Root (record { stop = stop; output = last.output; ticks = n })) ticks
    ∙ ap
    (λ (bytes : List ℕ). ending.Root (record { stop = stop; output = bytes; ticks = st.ticks }))
    (sym output))

-- each table that is declared has one that is held
pub as_many_held : (ds : List TableDecl) (ts : List CodeTable) (given : List Table)
    (hs : List Holding) →
    AreDeclared ds ts → AreHeld ds given hs → length hs ≡ length ts
as_many_held [] [] given [] declared held = refl
as_many_held [] [] given (h ∷ hs) declared held = absurd held
as_many_held [] (t ∷ ts) given hs declared held = absurd declared
as_many_held (d ∷ ds) [] given hs declared held = absurd declared
as_many_held (d ∷ ds) (t ∷ ts) given [] declared held = absurd held
as_many_held (Input x ∷ ds) (t ∷ ts) given (h ∷ hs) declared held =
    ap suc (as_many_held ds ts given hs declared.1 held.1)
as_many_held (Made x a b ∷ ds) (t ∷ ts) given (h ∷ hs) declared held =
    ap suc (as_many_held ds ts given hs declared.1 held.2)

covers_all : (ns : List Note) → AllByRecursion (Covers everywhere) ns
covers_all [] = tt
covers_all (Reads t i j ∷ ns) = (tt, covers_all ns)
covers_all (Writes t i j ∷ ns) = (tt, covers_all ns)
covers_all (Emits t ∷ ns) = (tt, covers_all ns)
covers_all (Chance ∷ ns) = (tt, covers_all ns)

-- a note of a cell adds no chance
quiet_count : (ns ms : List Note) → AllByRecursion IsQuiet ns →
    count_chances (ns ++ ms) ≡ count_chances ms
quiet_count [] ms quiet = refl
quiet_count (Reads t i j ∷ ns) ms quiet = quiet_count ns ms quiet.1
quiet_count (Writes t i j ∷ ns) ms quiet = quiet_count ns ms quiet.1
quiet_count (Emits t ∷ ns) ms quiet = quiet_count ns ms quiet.1
quiet_count (Chance ∷ ns) ms quiet = absurd quiet.0

-- and others at most one
more_chances : (ns ms : List Note) → AtMostAChance ns
    → count_chances (ns ++ ms) ≤ suc (count_chances ms)
more_chances [] ms one = omega arith
more_chances (Reads t i j ∷ ns) ms one = absurd one
more_chances (Writes t i j ∷ ns) ms one = absurd one
more_chances (Emits t ∷ ns) ms one = absurd one
more_chances (Chance ∷ []) ms one = omega arith
more_chances (Chance ∷ n ∷ ns) ms one = absurd one

module _ (code : Listing) (heartbeat fuel dispatch : ℕ) where
  -- main owes its outcome, and as many promotion points as there are chances
  abbrev whole_terms : Terms code heartbeat ⊤
  whole_terms = record {
    given = λ i r. ⊤;
    least = λ i r. count_chances r.notes;
    ending = λ i r. ending.Root (outcome_by r);
    blind = λ i ns r. refl;
    fewer = λ i ns r given. tt;
    quietly = λ i ns r quiet. omega (arith, quiet_count ns r.notes quiet);
    at_most = λ i ns r one. more_chances ns r.notes one;
  }

  -- nothing goes on round main
  abbrev root : Scene code heartbeat 0
  root = record {
    World = ⊤;
    levels = MAX_CALL_DEPTH;
    fuel = fuel;
    dispatch = dispatch;
    size = 0;
    promise = promised code heartbeat whole_terms;
    around = record {
      marks = λ i. [];
      goal = λ i. goal.Root;
      before = λ i. [];
      since = λ i. 0;
      region = λ i. everywhere;
      kept = λ i s. ⊤;
      can = λ i ts. ⊤;
    };
    lowest = 0;
    may = λ x. ⊤;
    cut = λ i k printed. i;
    registers = [];
    high = tt;
    unlike = tt;
    under = λ i d below. absurd (omega (arith, below));
    sized = λ i d below. absurd (omega (arith, below));
    stable = λ i level s t low same kept. tt;
    below = λ i. refl;
    stops =
        λ i stop st state last early ticks output root_goal ends given can.
        owes.ends state
        (ending.Root (record { stop = stop; output = st.output; ticks = st.ticks }))
        (ends true ∙ ap Ends (ended_is code stop st last root_goal ticks output));
    stopped =
        λ i stop st output early printed.
        ap
        (λ (bytes : List ℕ).
        ending.Root (record { stop = stop; output = bytes; ticks = st.ticks }))
        printed;
    covers = λ i r given. covers_all r.notes;
    allows = λ i t a b n ts r has given can. tt;
    is_open = true;
    handles = λ opened i more r st state marked from diverted runs back cut. absurd (marked refl);
  }

  -- behind main the run ends
  at_halt : (act : Activation) (names : List (List ℕ)) →
      Owed code heartbeat 0 act fuel root names [] term.Halt fin
  at_halt act names i st state shows stands = λ given can.
      owes.ends state (ending.Root (record { stop = Done; output = st.output; ticks = st.ticks }))
      (halts code heartbeat state (at_end code state term.Halt stands) shows.ends shows.free true
      ∙ ap Ends (ended_is code Done st (advanced state) shows.ends shows.ticks shows.printed))

  module _ (expr_law : ExprLaw code heartbeat) (program : Program) (given : List Table)
      (holdings : List Holding) (is : IsProgram code program) (diverts : dispatch ≡ is.act.dispatch)
      (rules : ProgramRules program is.act.tables) (there : AreGiven program.tables.items given)
      (holds : AreHeld program.tables.items given holdings) where
    abbrev act : Activation
    act = is.act

    abbrev ds : List TableDecl
    ds = program.tables.items

    -- what main gives, where the tables are made
    main_gives : source.State → Result
    main_gives s = then (result (run_list (setting program fuel 0 []) program.main.items s)) fin

    abbrev given_whole : Result
    given_whole =
        then (result (make_tables given (input_cells ds given) ds whole.first_state)) main_gives

    K : Back code heartbeat
    K = root.owing tt given_whole

    zeroth : machine.State
    zeroth = first_state holdings fuel

    stack : StackValue
    unfolding zeroth
    stack = pushed zeroth.stack act.size

    first : machine.State
    unfolding zeroth
    first = effect.with_stack (advanced zeroth) stack

    with_levels : machine.State
    unfolding first
    with_levels =
        effect.with_stack (advanced first) (with_word stack (pos (0 + levels_cell))
        (word.Int (pos MAX_CALL_DEPTH)))

    here : Remains code 0 0
        (instr.Salloc act.size ∷ store levels_cell (value.Int (pos MAX_CALL_DEPTH)) ∷ is.makes)
        is.end
    here = opened code 0 _ is.end is.begins

    second : Remains code 0 1 (store levels_cell (value.Int (pos MAX_CALL_DEPTH)) ∷ is.makes) is.end
    second = behind code 0 0 _ _ is.end here

    size_is : stack.base + length stack.cells ≡ act.size
    unfolding stack zeroth
    size_is = omega (arith, length-replicate act.size word.Nil)

    inside : 0 + levels_cell < stack.base + length stack.cells
    inside = omega (arith, size_is, is.has_room.room)

    making : Making code heartbeat 0 act fuel expr_law root refl (omega arith) (λ i. refl)
        (λ i. refl)
        (λ i ts. tt) given tt [] (input_cells ds given) ds whole.first_state with_levels
    unfolding with_levels first stack zeroth
    making = record {
      shows = record {
        size = refl;
        base = refl;
        limit = refl;
        limited = refl;
        tall = omega arith;
        ticks = refl;
        within = omega arith;
        begun = omega arith;
        printed = refl;
        ends = refl;
        free = refl;
        unmet = refl;
        marked = refl;
        named = refl;
        few = omega arith;
        tabled = refl;
        held = tt;
        can = tt;
        ranged = All-nil TableInRange;
        levels =
            word_same stack (0 + levels_cell) (word.Int (pos MAX_CALL_DEPTH)) (omega arith) inside;
        unmarked = refl;
        top =
            omega (
              arith,
              size_is,
              words_as_many stack (0 + levels_cell) (word.Int (pos MAX_CALL_DEPTH)),
            );
        low = omega arith;
        room =
            omega (
              arith,
              size_is,
              is.has_room.room,
              words_as_many stack (0 + levels_cell) (word.Int (pos MAX_CALL_DEPTH)),
            );
        vars = tt;
        keeps = tt;
      };
      before = [];
      as_many = refl;
      as_tables = refl;
      held = tt;
      rest = holdings;
      left = holds;
      tables = refl;
      count = count_held ds given holdings holds;
      made = tt;
    }

    -- main, where the tables are made
    main_owed : Owed code heartbeat 0 (seeing act (map table_name ds)) fuel root [] is.instrs is.end
        main_gives
    unfolding main_gives
    main_owed =
        subst (λ ts. Owed code heartbeat 0 (seeing act ts) fuel root [] is.instrs is.end main_gives)
        is.tables
        (codes_law code heartbeat 0 act program fuel MAX_CALL_DEPTH expr_law rules is.dispatch
        (calls_owe code heartbeat fuel expr_law act program rules is.dispatch is.calls
        is.functions MAX_CALL_DEPTH (omega arith))
        (main_has_place act is.has_room) is.statements root
        (record {
          levels = refl;
          registers = refl;
          lowest = omega arith;
          allows = λ x free. tt;
          controls = λ d from below. (tt, tt);
        })
        (λ loud.
        record {
          opened = refl;
          diverts = diverts;
          around = Free;
          served =
              record {
                whole = λ w s kept t is. tt;
                known = λ w s kept t x is. tt;
                cells = λ w s rs vs begins kept fixed t i j own. tt;
                meets = λ w s rs vs begins kept fixed ts us changed can. tt;
                early = λ w c printed. omega arith;
              };
          cuts = rules.of_main;
          calls = λ f called t reads. refl;
        })
        fin (at_halt act (names_after_list [] program.main.items)))

    all_made : K.Holds zeroth
    unfolding K with_levels first stack zeroth
    all_made =
        on_salloc code heartbeat K zeroth act.size (next code zeroth _ _ is.end here)
        (omega (arith, is.has_room.fits))
        (stores_in code heartbeat 0 act fuel K first levels_cell (value.Int (pos MAX_CALL_DEPTH))
        is.makes is.end second refl (omega arith) inside
        (makes_law code heartbeat 0 act fuel expr_law root refl (omega arith) (λ i. refl)
        (λ i. refl)
        (λ i ts. tt) given is.made is.end [] code.tables refl refl is.declared there main_gives
        main_owed
        (input_cells ds given) tt whole.first_state with_levels making
        (behind code 0 1 _ is.makes is.end second)))

    -- the end is that of the whole run, and so are the notes
    end_is : outcome_by given_whole ≡ meaning program given fuel
    unfolding meaning whole_run main_gives
    end_is =
        ap outcome_by (sym (after_then
        (make_tables given (input_cells ds given) ds whole.first_state)
        (run_list (setting program fuel 0 []) program.main.items) fin))
        ∙ same_by (whole_run program given fuel).stop (whole_run program given fuel) refl

    notes_are : given_whole.notes ≡ (whole_run program given fuel).notes
    unfolding whole_run main_gives
    notes_are =
        ap (λ (r : Result). r.notes) (sym (after_then
        (make_tables given (input_cells ds given) ds whole.first_state)
        (run_list (setting program fuel 0 []) program.main.items) fin))
        ∙ same_notes (whole_run program given fuel).stop (whole_run program given fuel)

    -- the first task is bound to the meaning of the program, whatever is diverted
    pub program_bound : CanRun code (first_state holdings fuel) →
        Bound code heartbeat false (count_chances (whole_run program given fuel).notes)
        (first_state holdings fuel) (ending.Root (meaning program given fuel))
    unfolding K zeroth
    program_bound can =
        subst
        (λ (ns : List Note).
        Bound code heartbeat false (count_chances ns) zeroth
        (ending.Root (meaning program given fuel)))
        notes_are
        (subst
        (λ (o : Outcome).
        Bound code heartbeat false (count_chances given_whole.notes) zeroth
        (ending.Root o))
        end_is (all_made tt can))

module _ (code : Listing) (heartbeat : ℕ) (expr_law : ExprLaw code heartbeat) (program : Program)
    (given : List Table) (holdings : List Holding) (fuel : ℕ) (is : IsProgram code program)
    (rules : ProgramRules program is.act.tables) (there : AreGiven program.tables.items given)
    (holds : AreHeld program.tables.items given holdings)
    (can : CanRun code (first_state holdings fuel)) where
  -- The first task of a code that is the code of a program owes the meaning of the program,
  -- whatever is promoted, and enters as many promotion points as there are chances.
  pub owes_promoted : Owes code heartbeat false (chances program given fuel)
      (first_state holdings fuel) (ending.Root (meaning program given fuel))
  unfolding chances
  owes_promoted = record {
    belongs = can.runs.belongs;
    waits_not = refl;
    bound = program_bound code heartbeat fuel is.act.dispatch expr_law program given holdings is
        refl rules there holds can;
  }
