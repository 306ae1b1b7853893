-- What a task is bound to end with, for each world round a statement and each result of it.
use Rattle.std.proofs.Common.{◌≡◌, ℕ, suc, ◌+◌, ◌≤◌, Bool, true, false, List, refl, sym, ap, subst}
use Rattle.std.proofs.Common.{◌∙◌, arith, ◌⊎◌, inl, inr}
use Rattle.std.specs.List.{AllByRecursion}
use Rattle.tpal_syntax.specs.Conditions.{IsCode}
use Rattle.tpal_syntax.specs.Listing.{Listing}
use Rattle.tpal_machine.specs.declared.ends.Ending.{Ending}
use Rattle.tpal_machine.specs.Belonging.{RunsOn, IsStepOf}
use Rattle.tpal_machine.specs.Owes.{Bound, is_at_point}
use Rattle.tpal_machine.specs.Owes as owes
use Rattle.tpal_machine.specs.State.{State}
use Rattle.tpal_machine.specs.Step.{Beats, Goes, step}
use Rattle.tpal_machine.proofs.Belonging.{step_of}
use Rattle.tpal_machine.proofs.Kit.{Back}
use Rattle.loop_meaning.specs.State as meaning
use Rattle.loop_meaning.specs.State.{Note, Chance}
use Rattle.scene_laws.proofs.Scenes.Regions.{IsQuiet, AtMostAChance}
use Rattle.scene_laws.proofs.Scenes.Results.{Result, noting, noting_then, then}

-- a task that can be run on a code that is right
pub record CanRun (code : Listing) (state : State) : Type 0 where
  pub right : IsCode code.tables code.blocks
  pub runs : RunsOn code state

module _ (code : Listing) (heartbeat : ℕ) where
  -- so can the task after a step
  pub can_go_on : (state after : State) → step code heartbeat true state ≡ Goes after
      → CanRun code state → CanRun code after
  can_go_on state after is can = record {
    right = can.right;
    runs = subst (IsStepOf code) is (step_of code heartbeat true state can.right can.runs);
  }

  -- bound to an ending, where something is given and the task can be run
  abbrev pub promising : Type 0 → Bool → ℕ → Ending → Back code heartbeat
  promising Given due least e = record {
    Holds = λ state. Given → CanRun code state → Bound code heartbeat due least state e;
    back = λ state after is bound given can. owes.goes due least least state after e (omega arith)
        (is true) (bound given (can_go_on state after (is true) can));
  }

  -- What a task of a world owes for each result of a statement: an ending with a least number of
  -- promotion points, where what is given of the result holds.
  pub record Promise (World : Type 0) : Type 1 where
    pub given : World → Result → Type 0
    pub least : World → Result → ℕ
    pub ending : World → Result → Ending
    -- so owes a task, and so one that was diverted
    pub owing : World → Result → Back code heartbeat
    pub diverted : World → Result → Back code heartbeat
    pub opens : (i : World) (r : Result) (state : State) → (owing i r).Holds state
        → (promising (given i r) false (least i r) (ending i r)).Holds state
    pub closes : (i : World) (r : Result) (state : State)
        → (promising (given i r) false (least i r) (ending i r)).Holds state
        → (owing i r).Holds state
    pub turned_opens : (i : World) (r : Result) (state : State) → (diverted i r).Holds state
        → (promising (given i r) true 0 (ending i r)).Holds state
    pub turned_closes : (i : World) (r : Result) (state : State)
        → (promising (given i r) true 0 (ending i r)).Holds state → (diverted i r).Holds state
    -- the ending doesn't depend on the notes, and what is given with more notes is given with fewer
    pub blind : (i : World) (ns : List Note) (r : Result) → ending i (noting ns r) ≡ ending i r
    pub fewer : (i : World) (ns : List Note) (r : Result) → given i (noting ns r) → given i r
    -- what a run notes of cells is given where they are touched
    pub touches : (i : World) (ns : List Note) (r : Result) (state : State)
        → AllByRecursion IsQuiet ns → (given i (noting ns r) → (owing i r).Holds state)
        → (owing i (noting ns r)).Holds state
    -- at a promotion point it may be diverted, and a chance may be counted there
    pub points : (i : World) (ns : List Note) (r : Result) (state after : State) → AtMostAChance ns
        → is_at_point code after ≡ true → step code heartbeat false state ≡ Goes after
        → (step code heartbeat true state ≡ Goes after) ⊎
        ((other : State) × (step code heartbeat true state ≡ Beats other)
        × (diverted i r).Holds other)
        → (owing i r).Holds after → (owing i (noting ns r)).Holds state

  -- ---- a promise, by what is given, the least number of points and the ending

  pub record Terms (World : Type 0) : Type 1 where
    pub given : World → Result → Type 0
    pub least : World → Result → ℕ
    pub ending : World → Result → Ending
    pub blind : (i : World) (ns : List Note) (r : Result) → ending i (noting ns r) ≡ ending i r
    pub fewer : (i : World) (ns : List Note) (r : Result) → given i (noting ns r) → given i r
    -- a note of a cell adds no point, and a chance at most one
    pub quietly : (i : World) (ns : List Note) (r : Result) → AllByRecursion IsQuiet ns
        → least i (noting ns r) ≤ least i r
    pub at_most : (i : World) (ns : List Note) (r : Result) → AtMostAChance ns
        → least i (noting ns r) ≤ suc (least i r)

  at_none : (due : Bool) (m : ℕ) (state : State) (e : Ending) → m ≡ 0
      → Bound code heartbeat due 0 state e → Bound code heartbeat due m state e
  at_none due m state e none bound =
      subst (λ (k : ℕ). Bound code heartbeat due k state e) (sym none) bound

  -- a task that is bound with a least number of points is bound with a smaller one
  pub lesser : (due : Bool) (n m : ℕ) (state : State) (e : Ending) → m ≤ n
      → Bound code heartbeat due n state e → Bound code heartbeat due m state e
  lesser false n m state e few (owes.ends _ _ is) =
      at_none false m state e (omega (arith, few)) (owes.ends state e is)
  lesser due n m state e few (owes.goes _ _ k _ after _ more is bound) =
      owes.goes due m k state after e (omega (arith, few, more)) is bound
  lesser false n m state e few (owes.beats _ k _ after other _ more calmly is bound also) =
      owes.beats m k state after other e (omega (arith, few, more)) calmly is bound also
  lesser true n m state e few (owes.asks _ waits _ is bound) =
      at_none true m state e (omega (arith, few)) (owes.asks state waits e is bound)
  lesser false n m state e few (owes.forks _ parts p q _ is left right merged) =
      at_none false m state e (omega (arith, few))
      (owes.forks state parts p q e is left right merged)
  lesser false n m state e few (owes.forks_on _ parts p q joined _ is left right merged bound) =
      at_none false m state e (omega (arith, few))
      (owes.forks_on state parts p q joined e is left right merged bound)

  module _ {World : Type 0} (terms : Terms World) where
    abbrev pub owing_by : World → Result → Back code heartbeat
    owing_by i r = promising (terms.given i r) false (terms.least i r) (terms.ending i r)

    abbrev pub turned_by : World → Result → Back code heartbeat
    turned_by i r = promising (terms.given i r) true 0 (terms.ending i r)

    -- what is owed for a result is owed with more notes, if these add no points
    pub noted : (i : World) (ns : List Note) (r : Result) (state : State)
        → terms.least i (noting ns r) ≤ terms.least i r
        → (terms.given i (noting ns r) → (owing_by i r).Holds state)
        → (owing_by i (noting ns r)).Holds state
    noted i ns r state few holds = λ given can.
        subst (λ (e : Ending). Bound code heartbeat false (terms.least i (noting ns r)) state e)
        (sym (terms.blind i ns r))
        (lesser false (terms.least i r) (terms.least i (noting ns r)) state (terms.ending i r) few
        (holds given (terms.fewer i ns r given) can))

    pub at_point : (i : World) (ns : List Note) (r : Result) (state after : State)
        → AtMostAChance ns → is_at_point code after ≡ true
        → step code heartbeat false state ≡ Goes after
        → (step code heartbeat true state ≡ Goes after) ⊎
        ((other : State) × (step code heartbeat true state ≡ Beats other)
        × (turned_by i r).Holds other)
        → (owing_by i r).Holds after → (owing_by i (noting ns r)).Holds state
    at_point i ns r state after one at calm loud holds = λ given can.
        subst (λ (e : Ending). Bound code heartbeat false (terms.least i (noting ns r)) state e)
        (sym (terms.blind i ns r)) (by_step (terms.fewer i ns r given) can loud)
      where
        few : terms.least i (noting ns r) ≤ owes.points code after + terms.least i r
        few =
            let one_point : owes.points code after ≡ 1 = rw at refl in
            omega (arith, one_point, terms.at_most i ns r one)

        by_step : terms.given i r → CanRun code state
            → (step code heartbeat true state ≡ Goes after) ⊎
            ((other : State) × (step code heartbeat true state ≡ Beats other)
            × (turned_by i r).Holds other)
            → Bound code heartbeat false (terms.least i (noting ns r)) state (terms.ending i r)
        by_step given can (inl goes) =
            owes.goes false (terms.least i (noting ns r)) (terms.least i r) state after
            (terms.ending i r) few goes (holds given (can_go_on state after goes can))
        by_step given can (inr (other, beats, turned)) =
            owes.beats (terms.least i (noting ns r)) (terms.least i r) state after other
            (terms.ending i r) few calm beats
            (holds given (record {
              right = can.right;
              runs = subst (IsStepOf code) calm
                  (step_of code heartbeat false state can.right can.runs);
            }))
            (turned given (record {
              right = can.right;
              runs = subst (IsStepOf code) beats
                  (step_of code heartbeat true state can.right can.runs);
            }))

    abbrev pub promised : Promise World
    promised = record {
      given = terms.given;
      least = terms.least;
      ending = terms.ending;
      owing = owing_by;
      diverted = turned_by;
      opens = λ i r state holds. holds;
      closes = λ i r state holds. holds;
      turned_opens = λ i r state holds. holds;
      turned_closes = λ i r state holds. holds;
      blind = terms.blind;
      fewer = terms.fewer;
      touches = λ i ns r state quiet holds. noted i ns r state (terms.quietly i ns r quiet) holds;
      points = at_point;
    }

  -- ---- a promise for what goes before: each result is handed to what follows

  module _ {World Inner : Type 0} (P : Promise World) (outer : Inner → World)
      (k : Inner → meaning.State → Result) where
    -- what is noted before a run is noted before what follows it
    pub before_it : (v : Inner) (ns : List Note) (r : Result) (state : State)
        → (P.owing (outer v) (noting ns (then r (k v)))).Holds state
        → (P.owing (outer v) (then (noting ns r) (k v))).Holds state
    before_it v ns r state holds =
        subst (λ (q : Result). (P.owing (outer v) q).Holds state)
        (sym (noting_then ns r (k v))) holds

    abbrev pub following : Promise Inner
    following = record {
      given = λ v r. P.given (outer v) (then r (k v));
      least = λ v r. P.least (outer v) (then r (k v));
      ending = λ v r. P.ending (outer v) (then r (k v));
      owing = λ v r. P.owing (outer v) (then r (k v));
      diverted = λ v r. P.diverted (outer v) (then r (k v));
      opens = λ v r. P.opens (outer v) (then r (k v));
      closes = λ v r. P.closes (outer v) (then r (k v));
      turned_opens = λ v r. P.turned_opens (outer v) (then r (k v));
      turned_closes = λ v r. P.turned_closes (outer v) (then r (k v));
      blind = λ v ns r. ap (P.ending (outer v)) (noting_then ns r (k v))
          ∙ P.blind (outer v) ns (then r (k v));
      fewer = λ v ns r is. P.fewer (outer v) ns (then r (k v))
          (subst (P.given (outer v)) (noting_then ns r (k v)) is);
      touches = λ v ns r state quiet holds. before_it v ns r state
          (P.touches (outer v) ns (then r (k v)) state quiet
          (λ is. holds (subst (P.given (outer v)) (sym (noting_then ns r (k v))) is)));
      points = λ v ns r state after one at calm loud holds. before_it v ns r state
          (P.points (outer v) ns (then r (k v)) state after one at calm loud holds);
    }
