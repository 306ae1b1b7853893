-- Ticks inside a scene, and the law of `while`.
use Rattle.std.proofs.Common.{◌≡◌, ℕ, zero, suc, ◌+◌, ◌<◌, ◌≤◌, Bool, true, false, cond, List, []}
use Rattle.std.proofs.Common.{◌∷◌, length, max, take, refl, sym, subst, arith, Vec}
use Rattle.std.specs.declared.alloc.Global.{Global}
use Rattle.std.proofs.lemmas.Bool.Decides.{nat_tests}
use Rattle.beat_count.specs.Ticks.{is_tick_allowed, ticked}
use Rattle.tp_value.specs.declared.Stop.TheVariants.{NoFuel}
use Rattle.loop_syntax.specs.declared.Expr.{Expr}
use Rattle.loop_syntax.specs.declared.Stmt.{Stmt}
use Rattle.loop_syntax.specs.declared.Stmt.TheVariants.{While}
use Rattle.loop_meaning.specs.State as meaning
use Rattle.loop_meaning.specs.State.{Ran, after, done, out_of_fuel, tick, go_on}
use Rattle.loop_meaning.specs.Statements.{Setting, choose, block, run, run_list, turns}
use Rattle.loop_meaning.proofs.Runs.{run_while_is}
use Rattle.stack_marks.specs.Stacks.{StackValue}
use Rattle.tpal_syntax.specs.declared.instructions.Instr.{Instr}
use Rattle.tpal_syntax.specs.declared.instructions.Instr.TheVariants as instr
use Rattle.tpal_syntax.specs.declared.instructions.Term.{Term}
use Rattle.tpal_syntax.specs.Listing.{Listing}
use Rattle.tpal_machine.specs.Effect as effect
use Rattle.tpal_machine.specs.State as machine
use Rattle.tpal_machine.specs.Step.{advanced}
use Rattle.tpal_machine.proofs.Kit.{on_tick}
use Rattle.expr_lower.specs.Leaving.{moved}
use Rattle.expr_lower.specs.Standing.{Remains}
use Rattle.expr_lower.proofs.Standing.{next, behind}
use Rattle.scene_laws.specs.Layout.{Activation}
use Rattle.scene_laws.specs.Code.{Computes, Opens, to}
use Rattle.form_laws.proofs.Forms.Choices.{enters_seen, leaving, chooses}
use Rattle.scene_laws.proofs.Scenes.Moves.{opened, calm, spends}
use Rattle.scene_laws.proofs.Scenes.Results.{Result, result, then, left, after_then}
use Rattle.scene_laws.proofs.Scenes.Scene.{Scene, Shows, SeenIn, OwedSeen, runs_since}
use Rattle.scene_laws.proofs.Scenes.Showing.{as_many, shows_left, shows_ticked}
use Rattle.form_laws.proofs.Forms.Simple.{still_seen}
use Rattle.scene_laws.proofs.Scenes.Values.{ExprLaw, computes}

module _ (code : Listing) (heartbeat z : ℕ) (act : Activation) (fuel : ℕ)
    (S : Scene code heartbeat z) (i : S.World) (names : List (List ℕ)) (st : meaning.State)
    (state : machine.State) {stack : StackValue}
    (shows : Shows code heartbeat z act fuel S i names st state.registers stack state.tables
    state.fuel state.output state.goal (state.pending, state.met)) where
  -- a tick, behind which a task owes what is run on the state with one tick more
  pub ticks : (more : List Instr) (end : Term) (g : meaning.State → Ran) (k : meaning.State → Result) → Remains code state.block state.at (instr.Tick ∷ more) end
      → (st.ticks < fuel → (S.owing i (then (result (g (record st { ticks = ticked fuel st.ticks }))) k)).Holds (effect.with_tick (advanced state)))
      → (S.owing i (then (result (after (tick fuel st) g)) k)).Holds state
  ticks more end g k stands go = by_test (is_tick_allowed fuel st.ticks) refl
    where
      later : meaning.State
      later = record st { ticks = ticked fuel st.ticks }

      ran : Bool → Ran
      ran b = cond b (done later) (out_of_fuel later)

      by_test : (b : Bool) → is_tick_allowed fuel st.ticks ≡ b → (S.owing i (then (result (after (ran b) g)) k)).Holds state
      by_test true is =
          let below : st.ticks < fuel = grind (arith, nat_tests) in
          on_tick code heartbeat (S.owing i (then (result (g later)) k)) state (next code state instr.Tick more end stands) (omega (arith, shows.limit, shows.ticks)) (go below)
      by_test false is =
          let over : is_tick_allowed state.fuel.limit state.fuel.ticks ≡ false = rw (shows.limit, shows.ticks) is in
          let same : ticked state.fuel.limit state.fuel.ticks ≡ ticked fuel st.ticks = rw (shows.limit, shows.ticks) refl in
          S.stops i NoFuel later state (effect.with_tick (advanced state)) tt same shows.printed shows.ends
          (spends code heartbeat state (next code state instr.Tick more end stands) over shows.free)

-- ---- scenes later in a run

module _ (code : Listing) (heartbeat z : ℕ) where
  -- a scene with at least so many ticks
  abbrev pub later_in : Scene code heartbeat z → ℕ → Scene code heartbeat z
  later_in S n = record {
    World = S.World;
    levels = S.levels;
    fuel = S.fuel;
    dispatch = S.dispatch;
    size = S.size;
    promise = S.promise;
    around = record S.around { since = λ i. max (S.since i) n };
    lowest = S.lowest;
    may = S.may;
    registers = S.registers;
    high = S.high;
    unlike = S.unlike;
    under = S.under;
    sized = S.sized;
    cut = S.cut;
    stable = S.stable;
    below = S.below;
    stops = S.stops;
    stopped = S.stopped;
    covers = S.covers;
    allows = S.allows;
    is_open = S.is_open;
    handles = λ opened i more r st state marked from diverted runs back cut. S.handles opened i more r st state marked from diverted (runs_since runs (S.since i) (omega (arith, runs.begun))) back
        (λ k u gone near runs_u. cut k u gone near (runs_since runs_u (max (S.since (S.cut i k st.output)) n) (omega (arith, runs.begun, runs_u.begun))));
  }

  pub shows_later : (act : Activation) (fuel : ℕ) (S : Scene code heartbeat z) (i : S.World)
      (names : List (List ℕ)) (st : meaning.State) (state : machine.State) (n : ℕ) → n ≤ st.ticks
      → SeenIn code heartbeat z act fuel S i names st state → SeenIn code heartbeat z act fuel
      (later_in S n) i names st state
  shows_later act fuel S i names st state n by h = record {
    size = h.size;
    base = h.base;
    limit = h.limit;
    limited = h.limited;
    tall = h.tall;
    ticks = h.ticks;
    within = h.within;
    begun = omega (arith, h.begun);
    printed = h.printed;
    ends = h.ends;
    free = h.free;
    unmet = h.unmet;
    marked = h.marked;
    named = h.named;
    few = h.few;
    tabled = h.tabled;
    held = h.held;
    can = h.can;
    ranged = h.ranged;
    levels = h.levels;
    unmarked = h.unmarked;
    top = h.top;
    low = h.low;
    room = h.room;
    vars = h.vars;
    keeps = h.keeps;
  }

  pub shows_whole : (act : Activation) (fuel : ℕ) (S : Scene code heartbeat z) (i : S.World)
      (names : List (List ℕ)) (st : meaning.State) (state : machine.State) (n : ℕ)
      → SeenIn code heartbeat z act fuel (later_in S n) i names st state
      → SeenIn code heartbeat z act fuel S i names st state
  shows_whole act fuel S i names st state n h = record {
    size = h.size;
    base = h.base;
    limit = h.limit;
    limited = h.limited;
    tall = h.tall;
    ticks = h.ticks;
    within = h.within;
    begun = omega (arith, h.begun);
    printed = h.printed;
    ends = h.ends;
    free = h.free;
    unmet = h.unmet;
    marked = h.marked;
    named = h.named;
    few = h.few;
    tabled = h.tabled;
    held = h.held;
    can = h.can;
    ranged = h.ranged;
    levels = h.levels;
    unmarked = h.unmarked;
    top = h.top;
    low = h.low;
    room = h.room;
    vars = h.vars;
    keeps = h.keeps;
  }

module _ (code : Listing) (heartbeat z : ℕ) (act : Activation) (set : Setting) (expr_law : ExprLaw code heartbeat) (S : Scene code heartbeat z) (names inner : List (List ℕ)) (first : take (length names) inner ≡ names) (k : meaning.State → Result)
    (e : Expr) (body : List Stmt) (again exit : ℕ) (instrs test more : List Instr) (last end : Term)
    (begins : Opens code again (instr.Tick ∷ instrs) last)
    (test_code : Computes code act S.registers names e 0 test (instr.IfJump 0 again ∷ []))
    (ends : Opens code exit more end)
    (post : OwedSeen code heartbeat z act set.fuel S names more end k)
    (body_law : (n : ℕ) (f : meaning.State → Result) → OwedSeen code heartbeat z act set.fuel
    (later_in code heartbeat z S n) inner test (to exit) f → OwedSeen code heartbeat z act set.fuel
    (later_in code heartbeat z S n) names instrs last
    (λ st. then (result (run_list set body st)) f)) where
  abbrev turning : ℕ → meaning.State → Ran
  turning n = turns n set.fuel e (block (run_list set body))

  -- at a test, with enough turns
  at_test : (n : ℕ) (here : List Instr) → Computes code act S.registers names e 0 here
      (instr.IfJump 0 again ∷ [])
      → (i : S.World) (st : meaning.State) (state : machine.State)
      → SeenIn code heartbeat z act set.fuel S i names st state
      → Remains code state.block state.at here (to exit) → set.fuel + 1 ≤ n + st.ticks
      → (S.owing i (then (result (turning n st)) k)).Holds state
  unfolding turns
  at_test zero here c i st state shows stands enough = absurd (omega (arith, shows.within))
  at_test (suc n) here c i st state shows stands enough =
      computes code heartbeat z act set.fuel expr_law S i names st state shows e 0 here (instr.IfJump 0 again ∷ []) (to exit) c stands
      (λ v. choose v (λ t. after (after (tick set.fuel t) (block (run_list set body))) (turning n)) done st) k
      (λ v fits words beat at keeps is left_here.
      chooses code heartbeat z act set.fuel S i names st k (λ t. after (after (tick set.fuel t) (block (run_list set body))) (turning n)) done v (moved state words beat at) again exit more end
      (still_seen code heartbeat z act set.fuel S i names st state 0 words beat at shows keeps) is
      left_here (calm code again (instr.Tick ∷ instrs) last begins) ends
      (a_turn (λ j u task shows_u left_u by. at_test n test test_code j u task shows_u left_u by))
      (enters_seen code heartbeat z act set.fuel S names exit more end k ends post i st))
    where
      follows : meaning.State → Result
      follows s = then (result (turning n s)) k

      -- one turn, and what follows it
      a_turn : ((j : S.World) (u : meaning.State) (task : machine.State)
          → SeenIn code heartbeat z act set.fuel S j names u task
          → Remains code task.block task.at test (to exit) → set.fuel + 1 ≤ n + u.ticks
          → (S.owing j (follows u)).Holds task)
          → (task : machine.State) → SeenIn code heartbeat z act set.fuel S i names st task
          → task.block ≡ again → task.at ≡ 0
          → (S.owing i (then (result (after (after (tick set.fuel st) (block (run_list set body)))
          (turning n))) k)).Holds task
      a_turn goes task shows_task at_label at_begin =
          let begun : Remains code again 0 (instr.Tick ∷ instrs) last = opened code again (instr.Tick ∷ instrs) last begins in
          let here_it : Remains code task.block task.at (instr.Tick ∷ instrs) last = rw (at_label, at_begin) begun in
          subst (λ (r : Result). (S.owing i r).Holds task) (sym (after_then (after (tick set.fuel st) (block (run_list set body))) (turning n) k))
          (ticks code heartbeat z act set.fuel S i names st task shows_task instrs last (block (run_list set body)) follows here_it
          (λ below.
          let test_true : is_tick_allowed set.fuel st.ticks ≡ true = grind (arith, nat_tests) in
          let one_more : ticked set.fuel st.ticks ≡ st.ticks + 1 = rw test_true refl in
          let shows_more : SeenIn code heartbeat z act set.fuel S i names
          (record st { ticks = ticked set.fuel st.ticks }) (effect.with_tick (advanced task)) =
          shows_ticked code heartbeat z act set.fuel S i shows_task below in
          leaving code heartbeat z act set.fuel S i names (record st { ticks = ticked set.fuel st.ticks }) (effect.with_tick (advanced task)) (run_list set body) (record st { ticks = ticked set.fuel st.ticks }) follows (as_many st.vars names shows_task.named)
          (body_law (suc st.ticks) (λ s. follows (left (length names) s))
          (λ j s last_task shows_last stands_last.
          goes j (left (length names) s) last_task (shows_left code heartbeat z act set.fuel S j (shows_whole code heartbeat z act set.fuel S j inner s last_task (suc st.ticks) shows_last) (length names) names first) stands_last (omega (arith, shows_last.begun, enough)))
          i (record st { ticks = ticked set.fuel st.ticks }) (effect.with_tick (advanced task))
          (shows_later code heartbeat z act set.fuel S i names (record st { ticks = ticked set.fuel st.ticks }) (effect.with_tick (advanced task)) (suc st.ticks) (omega (arith, one_more)) shows_more)
          (behind code task.block task.at instr.Tick instrs last here_it))))

module _ (code : Listing) (heartbeat z : ℕ) (act : Activation) (set : Setting) (expr_law : ExprLaw code heartbeat) (S : Scene code heartbeat z) (names inner : List (List ℕ)) (first : take (length names) inner ≡ names) (k : meaning.State → Result) where
  pub while_law : (e : Expr) (body : Vec Stmt Global) (again exit : ℕ) (here instrs test more : List Instr) (last end : Term)
      → Computes code act S.registers names e 0 here (instr.IfJump 0 again ∷ [])
      → Opens code again (instr.Tick ∷ instrs) last → Computes code act S.registers names e 0 test
      (instr.IfJump 0 again ∷ []) → Opens code exit more end
      → OwedSeen code heartbeat z act set.fuel S names more end k
      → ((n : ℕ) (f : meaning.State → Result) → OwedSeen code heartbeat z act set.fuel
      (later_in code heartbeat z S n) inner test (to exit) f
      → OwedSeen code heartbeat z act set.fuel (later_in code heartbeat z S n) names instrs last
      (λ st. then (result (run_list set body.items st)) f))
      → OwedSeen code heartbeat z act set.fuel S names here (to exit)
      (λ st. then (result (run set (While e body) st)) k)
  while_law e body again exit here instrs test more last end c begins test_code ends post body_law i st state shows stands =
      subst (λ (r : Ran). (S.owing i (then (result r) k)).Holds state) (sym (run_while_is set (While e body) e body st refl))
      (at_test code heartbeat z act set expr_law S names inner first k e body.items again exit instrs test more last end begins test_code ends post body_law (set.fuel + 1) here c i st state shows stands (omega arith))
