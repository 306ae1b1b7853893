-- What a step of a task that fits comes to, as the core asks it.
use Rattle.std.proofs.Common.{◌≡◌, ℕ, Option, Some, None, refl, sym, ap, subst, ◌∙◌, arith}
use Rattle.std.specs.Prelude.{Bool}
use Rattle.tpal_syntax.specs.Conditions.{IsCode}
use Rattle.tpal_syntax.specs.Listing.{Listing}
use Rattle.tpal_machine.specs.declared.ends.End.{End}
use Rattle.tpal_machine.specs.declared.ends.End.TheVariants as «end»
use Rattle.tpal_machine.specs.declared.ends.Ending.{Ending}
use Rattle.tpal_machine.specs.declared.ends.Ending.TheVariants as ending
use Rattle.tpal_machine.specs.declared.ends.Goal.{Goal}
use Rattle.tpal_machine.specs.declared.ends.Goal.TheVariants as goal
use Rattle.tpal_machine.specs.declared.ends.SideName.{SideName}
use Rattle.tpal_machine.specs.declared.ends.Wait.{Wait}
use Rattle.tpal_machine.specs.Belonging.{RunsOn, IsStepOf}
use Rattle.tpal_machine.specs.Effect.{answered, with_answer}
use Rattle.tpal_machine.specs.Keeping.{place_of, StepKeeps}
use Rattle.tpal_machine.specs.Merge.{IsSideOf}
use Rattle.tpal_machine.specs.Reading.{the_target}
use Rattle.tpal_machine.specs.RestState.{RestState, end_of}
use Rattle.tpal_machine.specs.State.{State}
use Rattle.tpal_machine.specs.Step as machine
use Rattle.tpal_machine.specs.Step.{Step, step}
use Rattle.tpal_machine.proofs.Belonging.{step_of}
use Rattle.tpal_machine.proofs.Given.{answered_of}
use Rattle.tpal_machine.proofs.Keeping.{step_keeps}
use Rattle.schedule_core.specs.Machine.{left, right, Turn, Goes, Beats, Ends, Asks, Forks, Stuck, Merged, Runs, Over, TurnOwes, KeepsTurn, KeepsMerge, Lawful}
use Rattle.schedule_core.specs.Tasks.{end_number, turn_of, tasks}
use Rattle.schedule_core.proofs.Instance.{keeps_at, merges_keep}
use Rattle.tpal_verify.specs.Breaks.{MeetsRules}
use Rattle.tpal_verify.specs.Rounds.{Shapes}
use Rattle.tpal_verify.specs.Fits.{Promise, GoalKeeps, Keeps, Fits, AnyJoin, AreFoundWords, joins_of, OutFits, fitting}
use Rattle.tpal_verify.proofs.Entering.{EndKnown, StepKnows}
use Rattle.tpal_verify.proofs.FirstTask.{after_step}
use Rattle.tpal_verify.proofs.Forking.{ForkKnown}
use Rattle.tpal_verify.proofs.Steady.{IsSideGoal, Steady, EndSteady, StepSteady, step_steady}
use Rattle.tpal_verify.proofs.PartsWithin.{parts_themselves}
use Rattle.tpal_verify.proofs.Stops.{where_all}
use Rattle.tpal_verify.proofs.Merged.{promised, merges_owe}

-- ---- answers

-- an answer changes neither tables nor ticks
answer_steady : (s waits : State) (rec : Option ℕ) → Steady s waits → Steady s (answered rec waits)
answer_steady s waits rec st = by waits.waiting rec
  where
    by : (o : Option Wait) (r : Option ℕ) → Steady s (with_answer o r waits)
    by None r = st
    by (Some wait) None = record { limit = st.limit; ticks = st.ticks; tables = st.tables }
    by (Some wait) (Some k) = record { limit = st.limit; ticks = st.ticks; tables = st.tables }

answer_goal : (waits : State) (rec : Option ℕ) → (answered rec waits).goal ≡ waits.goal
answer_goal waits rec = by waits.waiting rec
  where
    by : (o : Option Wait) (r : Option ℕ) → (with_answer o r waits).goal ≡ waits.goal
    by None r = refl
    by (Some wait) None = refl
    by (Some wait) (Some k) = refl

not_root : (rec : ℕ) (sd : SideName) → «end».At rec sd ≡ «end».Root → ⊥
not_root rec sd q = subst IsSide q tt
  where
    IsSide : End → Type 0
    IsSide «end».Root = ⊥
    IsSide («end».At k s) = Unit {0}

-- ---- the other machine

module _ (code : Listing) (A : Shapes) (heartbeat : ℕ) where
  -- two machines with the same moves keep the same
  same_turn : (allowed : Bool) (task : State) (x : Turn State RestState Ending) → KeepsTurn (tasks code heartbeat) heartbeat allowed task x → KeepsTurn (fitting code A heartbeat) heartbeat allowed task x
  same_turn allowed task (Goes next) k = k
  same_turn allowed task (Beats diverted) k = k
  same_turn allowed task (Ends e) k = k
  same_turn allowed task (Asks answer) k = k
  same_turn allowed task (Forks rec on child rest) k = k
  same_turn allowed task Stuck k = tt

  same_merge : (rest : RestState) (both : Merged State Ending) → KeepsMerge (tasks code heartbeat) rest both → KeepsMerge (fitting code A heartbeat) rest both
  same_merge rest (Runs task) k = k
  same_merge rest (Over e) k = k

-- ---- steps

module _ (code : Listing) (A : Shapes) (meets : MeetsRules code A) (right_code : IsCode code.tables code.blocks) (heartbeat K : ℕ) where
  module _ (allowed due : Bool) (state : State) (promise : Promise) (fits : Fits code A state promise) where
    goal_steady : (t : State) → Steady state t → (g : Goal) → state.goal ≡ g → GoalKeeps code promise g state.tables → GoalKeeps code promise g t.tables
    goal_steady t st goal.Root e k = tt
    goal_steady t st (goal.At rec sd target) e k = (k.0, st.tables (subst IsSideGoal (sym e) tt) promise.tables (the_target code target).carries k.1)

    keeps_on : (t : State) → Steady state t → t.goal ≡ state.goal → RunsOn code t → Keeps code promise t
    keeps_on t st g runs = record {
      runs = runs;
      number = ap (λ x. end_number (end_of x)) g ∙ fits.keeps.number;
      tables = subst (λ x. GoalKeeps code promise x t.tables) (sym g) (goal_steady t st state.goal refl fits.keeps.tables);
      limit = st.limit ∙ fits.keeps.limit;
      ticks =
          let l = fits.keeps.limit in
          let b = fits.keeps.ticks in
          let c = st.ticks (omega (arith, l, b)) in
          omega (arith, l, c);
    }

    -- what a task ends with
    out_fits : (g : Goal) (e : Ending) → place_of e ≡ end_of g → GoalKeeps code promise g state.tables → EndSteady code g state e → EndKnown code A e → OutFits code A promise e
    out_fits g (ending.Root outcome) p k st known = tt
    out_fits goal.Root (ending.At i sd out) p k st known = absurd (not_root i sd p)
    out_fits (goal.At rec s target) (ending.At i sd out) p k st known = record {
      ticks =
          let l = fits.keeps.limit in
          let b = fits.keeps.ticks in
          let c = st.0 (omega (arith, l, b)) in
          omega (arith, l, c);
      unleft = known.0;
      is_side = subst (λ l. IsSideOf (the_target code l) out) k.0 st.1;
      reached = where_all out.stop (AnyJoin (joins_of code A) × AreFoundWords (joins_of code A) i out.words) (AnyJoin (joins_of code A)) (λ x. x.0) known.1;
      words = where_all out.stop (AnyJoin (joins_of code A) × AreFoundWords (joins_of code A) i out.words) (AreFoundWords (joins_of code A) i out.words) (λ x. x.1) known.1;
      slices = st.2 promise.tables k.1;
    }

    abbrev Owed : Step → Type 0
    Owed x = TurnOwes (fitting code A heartbeat) K (end_number (end_of state.goal)) due promise (turn_of x)

    step_owes : (x : Step) → StepKnows code A (ForkKnown code A) x → StepSteady code heartbeat allowed state x → StepKeeps heartbeat state x → IsStepOf code x → Owed x
    step_owes (machine.Goes after) k st keep of = record { knows = k; keeps = keeps_on after st keep.goal of }
    step_owes (machine.Beats diverted) k st keep of = (λ strict. absurd strict, record { knows = k; keeps = keeps_on diverted st keep.goal of })
    step_owes (machine.Ends e) k st keep of = (
      λ strict. absurd strict,
      record { number = ap end_number keep.place ∙ fits.keeps.number; belongs = of; fits = out_fits state.goal e keep.place fits.keeps.tables st k },
    )
    step_owes (machine.Asks waits) k st keep of = (
      λ strict. absurd strict,
      record { knows = k.0; keeps = keeps_on (answered None waits) (answer_steady state waits None st) (answer_goal waits None ∙ keep.goal) (answered_of code waits None of) },
      λ j is. record {
        knows = k.1 j (λ q. is.1 (ap (λ g. end_number (end_of g)) (sym keep.goal) ∙ q)) (λ q. is.2 (ap (λ g. end_number (end_of g)) (sym keep.goal) ∙ q));
        keeps = keeps_on (answered (Some j) waits) (answer_steady state waits (Some j) st) (answer_goal waits (Some j) ∙ keep.goal) (answered_of code waits (Some j) of);
      },
    )
    step_owes (machine.Forks parts) k st keep of = (
      λ strict. absurd strict,
      record {
        p = promised (left parts.rec) parts.rest parts.left.tables;
        q = promised (right parts.rec) parts.rest parts.child.tables;
        on_owes = record {
          knows = k.0;
          keeps = record {
            runs = of.left;
            number = ap end_number keep.left_end;
            tables = subst (λ g. GoalKeeps code (promised (left parts.rec) parts.rest parts.left.tables) g parts.left.tables) (sym st.left_goal) (refl, parts_themselves parts.left.tables (the_target code parts.rest.target).carries);
            limit = st.left_limit ∙ sym st.rest_limit;
            ticks =
                let l = fits.keeps.limit in
                let b = fits.keeps.ticks in
                let t = st.left_ticks in
                let r = st.rest_limit in
                omega (arith, l, b, t, r);
          };
        };
        child_owes = record {
          knows = k.1;
          keeps = record {
            runs = of.child;
            number = ap end_number keep.child_end;
            tables = subst (λ g. GoalKeeps code (promised (right parts.rec) parts.rest parts.child.tables) g parts.child.tables) (sym st.child_goal) (refl, parts_themselves parts.child.tables (the_target code parts.rest.target).carries);
            limit = st.child_limit ∙ sym st.rest_limit;
            ticks = let t = st.child_ticks in omega (arith, t);
          };
        };
        merged = merges_owe code A heartbeat right_code state parts st k of promise fits.keeps;
      },
    )
    step_owes (machine.Stuck fault) k st keep of = tt
    step_owes machine.Strays k st keep of = tt

    turn_owes : Owed (step code heartbeat allowed state)
    turn_owes = step_owes (step code heartbeat allowed state) (after_step code A meets right_code heartbeat allowed state fits.knows fits.keeps.runs) (step_steady code heartbeat allowed state)
        (step_keeps heartbeat code allowed state) (step_of code heartbeat allowed state right_code fits.keeps.runs)

  pub lawful : Lawful (fitting code A heartbeat) heartbeat K
  lawful = record {
    invert = λ allowed due task promise fits. turn_owes allowed due task promise fits;
    keeps = λ allowed due task promise fits. same_turn code A heartbeat allowed task (turn_of (step code heartbeat allowed task)) (keeps_at code heartbeat allowed task);
    merged = λ rest p q both m. same_merge code A heartbeat rest both (merges_keep code heartbeat rest p q both m);
  }
