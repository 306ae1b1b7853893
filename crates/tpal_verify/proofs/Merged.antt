-- What a rest comes to with two sides that keep what was promised of its record's ends.
use Rattle.std.proofs.Common.{◌≡◌, ℕ, ◌+◌, ◌*◌, ◌≤◌, List, [], Some, refl, sym, ap, subst, ◌∙◌, arith}
use Rattle.std.specs.Prelude.{map, slice_get}
use Rattle.beat_count.specs.Joining.{joined_stop, joined_ticks}
use Rattle.slices.specs.Holding.{Holding}
use Rattle.tp_value.specs.declared.values.Stop.{Stop}
use Rattle.tp_value.specs.declared.values.Stop.TheVariants as stop
use Rattle.tpal_syntax.specs.declared.notes.CarryAt.{CarryAt}
use Rattle.tpal_syntax.specs.declared.notes.Target.{Target}
use Rattle.tpal_syntax.specs.Conditions.{IsCode}
use Rattle.tpal_syntax.specs.Listing.{Listing}
use Rattle.tpal_syntax.specs.Parts.{table_of}
use Rattle.tpal_machine.specs.declared.ends.Ending.{Ending}
use Rattle.tpal_machine.specs.declared.ends.Ending.TheVariants as ending
use Rattle.tpal_machine.specs.declared.ends.Goal.{Goal}
use Rattle.tpal_machine.specs.declared.ends.Goal.TheVariants as goal
use Rattle.tpal_machine.specs.declared.ends.Side.{Side}
use Rattle.tpal_machine.specs.declared.ends.SideName.TheVariants as side
use Rattle.tpal_machine.specs.Belonging.{RunsOn, IsEndingOf, AreForkedOf, IsJoinedOf}
use Rattle.tpal_machine.specs.Belongs.{SideBelongsTo}
use Rattle.tpal_machine.specs.Cut.{Forked, rest_of, left_of, child_of}
use Rattle.tpal_machine.specs.Merge.{AreSides, part_of, put_together, joined_output, ended_together, merged_task, joined_by, joined}
use Rattle.tpal_machine.specs.Reading.{table_at, the_target}
use Rattle.tpal_machine.specs.RestState.{RestState, end_of}
use Rattle.tpal_machine.specs.State.{State}
use Rattle.tpal_machine.proofs.Given.{joined_of_code}
use Rattle.schedule_core.specs.Machine.{left, right, Merged, MergedOwes, MergeOwes, MergesWell}
use Rattle.schedule_core.specs.Tasks.{end_number, merged_of, MergesSides, MergesTo}
use Rattle.schedule_core.proofs.Instance.{one_merge}
use Rattle.tpal_verify.specs.Rounds.{Shapes}
use Rattle.tpal_verify.specs.Fits.{IsPartOf, Promise, GoalKeeps, Keeps, Fits, SlicesArePartsOf, AnyJoin, AreFoundWords, joins_of, IsUnleft, SideFits, Meets, fitting}
use Rattle.tpal_verify.proofs.Forking.{ForkKnown}
use Rattle.tpal_verify.proofs.Steady.{PartsFrom}
use Rattle.tpal_verify.proofs.Stops.{IsDone, where_done, where_not, both_done, both_unleft, few_ticks}
use Rattle.tpal_verify.proofs.PartsWithin.{AreWithin, rest_part, left_part, child_part, each_within, put_within, slices_within, goal_within, one_part_of}
use Rattle.tpal_verify.proofs.CutsApart.{AreApart, cuts_are, not_shared, apart_at, pairs_apart}

-- ---- two sides of a fork

-- what is promised at an end of a fork, of which a task has these tables
abbrev pub promised : ℕ → RestState → List Holding → Promise
promised number rest tables = record { number = number; target = rest.target; limit = rest.limit; tables = tables }

module _ (code : Listing) (A : Shapes) (heartbeat : ℕ) (right_code : IsCode code.tables code.blocks) (state : State) (parts : Forked) (from : PartsFrom code state parts) (known : ForkKnown code A parts) (of : AreForkedOf code parts) where
  abbrev target : Target
  target = the_target code parts.rest.target

  abbrev pub left_promise : Promise
  left_promise = promised (left parts.rec) parts.rest parts.left.tables

  abbrev pub child_promise : Promise
  child_promise = promised (right parts.rec) parts.rest parts.child.tables

  -- ---- tables

  apart_here : (i : ℕ) (c : CarryAt) → slice_get target.carries i ≡ Some c → (x y : Holding) → IsPartOf x (table_at parts.left.tables (table_of c)) → IsPartOf y (table_at parts.child.tables (table_of c))
      → AreApart (table_at parts.rest.tables (table_of c)) x y
  apart_here i c q x y p r =
      let t = table_of c in
      subst (λ hs. AreApart (table_at hs t) x y) (sym from.rest_tables)
      (apart_at from.cuts state.tables t x y (not_shared target.carries from.cuts (cuts_are state.registers target.carries from.cuts from.cut) i c q)
      (subst (λ hs. IsPartOf x (table_at hs t)) from.left_tables p)
      (subst (λ hs. IsPartOf y (table_at hs t)) from.child_tables r))

  rest_within : AreWithin parts.rest.tables state.tables
  rest_within = subst (λ hs. AreWithin hs state.tables) (sym from.rest_tables) (each_within rest_of rest_part from.cuts 0 state.tables)

  left_within : AreWithin parts.left.tables state.tables
  left_within = subst (λ hs. AreWithin hs state.tables) (sym from.left_tables) (each_within left_of left_part from.cuts 0 state.tables)

  child_within : AreWithin parts.child.tables state.tables
  child_within = subst (λ hs. AreWithin hs state.tables) (sym from.child_tables) (each_within child_of child_part from.cuts 0 state.tables)

  module _ (x y : Side) (fx : SideFits code A parts.rec left_promise x) (fy : SideFits code A parts.rec child_promise y) where
    sides_are : AreSides code parts.rest x y
    sides_are = record {
      left_ticks = fx.ticks;
      right_ticks = fy.ticks;
      left_side = fx.is_side;
      right_side = fy.is_side;
      parts = λ i c q.
          let t = table_of c in
          pairs_apart (table_at parts.rest.tables t) (table_at parts.left.tables t) (table_at parts.child.tables t) (part_of x t) (part_of y t) (apart_here i c q)
          (one_part_of parts.left.tables x t fx.slices) (one_part_of parts.child.tables y t fy.slices);
    }

    module _ (promise : Promise) (keeps : Keeps code promise state) where
      -- what both are put together to, where both are done
      goes_on : IsDone x.stop → IsDone y.stop → (ticks : ℕ) → ticks ≤ parts.rest.limit + 1 → RunsOn code (merged_task target parts.rest x y ticks (joined_output parts.rest x y)) → Fits code A (merged_task target parts.rest x y ticks (joined_output parts.rest x y)) promise
      goes_on dx dy ticks le runs = record {
        knows = known.2 x y ticks (joined_output parts.rest x y)
            (where_done x.stop (AnyJoin (joins_of code A)) dx fx.reached)
            (where_done x.stop (map (λ w. w.0) x.words ≡ map (λ p. p.0) target.renames) dx fx.is_side.words)
            (where_done y.stop (map (λ w. w.0) y.words ≡ map (λ p. p.0) target.renames) dy fy.is_side.words)
            (subst (λ k. AreFoundWords (joins_of code A) k x.words) (sym from.rest_rec) (where_done x.stop (AreFoundWords (joins_of code A) parts.rec x.words) dx fx.words))
            (subst (λ k. AreFoundWords (joins_of code A) k y.words) (sym from.rest_rec) (where_done y.stop (AreFoundWords (joins_of code A) parts.rec y.words) dy fy.words));
        keeps = record {
          runs = runs;
          number = ap (λ g. end_number (end_of g)) from.rest_goal ∙ keeps.number;
          tables = goal_within code promise parts.rest.goal state.tables (put_together (put_together parts.rest.tables x.slices) y.slices) together (subst (λ g. GoalKeeps code promise g state.tables) (sym from.rest_goal) keeps.tables);
          limit = from.rest_limit ∙ keeps.limit;
          ticks = let e = from.rest_limit in let f = keeps.limit in omega (arith, le, e, f);
        };
      }
        where
          together : AreWithin (put_together (put_together parts.rest.tables x.slices) y.slices) state.tables
          together =
              put_within (put_together parts.rest.tables x.slices) state.tables y.slices
              (put_within parts.rest.tables state.tables x.slices rest_within (slices_within parts.left.tables state.tables x.slices left_within (where_done x.stop (SlicesArePartsOf parts.left.tables x.slices) dx fx.slices)))
              (slices_within parts.child.tables state.tables y.slices child_within (where_done y.stop (SlicesArePartsOf parts.child.tables y.slices) dy fy.slices))

      -- what both end with, where one is not
      ends_by : (s : Stop) → (IsDone s → ⊥) → IsUnleft s → (ticks : ℕ) (output : List ℕ) → ticks ≤ parts.rest.limit + 1 → (g : Goal) → end_number (end_of g) ≡ promise.number → IsEndingOf code (ended_together g s ticks output) → Meets code A (ended_together g s ticks output) promise
      ends_by s n u ticks output le goal.Root e b = record { number = e; belongs = b; fits = tt }
      ends_by s n u ticks output le (goal.At rec sd l) e b = record {
        number = e;
        belongs = b;
        fits = record {
          ticks = let p = from.rest_limit in let f = keeps.limit in omega (arith, le, p, f);
          unleft = u;
          is_side = record { words = where_not s _ n; slices = where_not s _ n };
          reached = where_not s (AnyJoin (joins_of code A)) n;
          words = where_not s (AreFoundWords (joins_of code A) rec []) n;
          slices = where_not s (SlicesArePartsOf promise.tables []) n;
        };
      }

      joined_owed : (s : Stop) (ticks : ℕ) → ticks ≤ parts.rest.limit + 1 → (IsDone s → IsDone x.stop × IsDone y.stop) → IsUnleft s → IsJoinedOf code (joined_by s ticks (joined_output parts.rest x y) target parts.rest x y)
          → MergedOwes (fitting code A heartbeat) promise (merged_of (joined_by s ticks (joined_output parts.rest x y) target parts.rest x y))
      joined_owed stop.Done ticks le done unleft is = goes_on (done tt).0 (done tt).1 ticks le is
      joined_owed (stop.Left number) ticks le done unleft is = absurd unleft
      joined_owed (stop.Trap kind place) ticks le done unleft is = ends_by (stop.Trap kind place) (λ z. z) tt ticks (joined_output parts.rest x y) le parts.rest.goal (ap (λ g. end_number (end_of g)) from.rest_goal ∙ keeps.number) is
      joined_owed stop.NoFuel ticks le done unleft is = ends_by stop.NoFuel (λ z. z) tt ticks (joined_output parts.rest x y) le parts.rest.goal (ap (λ g. end_number (end_of g)) from.rest_goal ∙ keeps.number) is

      -- they merge to what keeps the promise of the end of the task that forked
      sides_merge : (e f : Ending) → MergesTo code parts.rest e f ≡ MergesSides code parts.rest x y → SideBelongsTo code x → SideBelongsTo code y → MergesWell (fitting code A heartbeat) promise parts.rest e f
      sides_merge e f same bx by =
          let both = joined code parts.rest x y in
          let m : MergesSides code parts.rest x y (merged_of both) = record { joined = both; merge = record { sides = sides_are; rest_belongs = of.rest; left_belongs = bx; right_belongs = by; gives = refl }; is = refl } in
          let n : MergesTo code parts.rest e f (merged_of both) = subst (λ (P : Merged State Ending → Type 0). P (merged_of both)) (sym same) m in
          record {
            both = merged_of both;
            merges = n;
            owes = λ other k. subst (MergedOwes (fitting code A heartbeat) promise) (one_merge code parts.rest e f (merged_of both) other n k)
                (joined_owed (joined_stop x.stop x.ticks y.stop y.ticks parts.rest.limit) (joined_ticks x.stop x.ticks y.stop y.ticks parts.rest.limit)
                (few_ticks x.stop x.ticks y.stop y.ticks parts.rest.limit fx.ticks) (both_done x.stop x.ticks y.stop y.ticks parts.rest.limit)
                (both_unleft x.stop x.ticks y.stop y.ticks parts.rest.limit fx.unleft fy.unleft)
                (joined_of_code code parts.rest x y right_code of.rest bx by));
          }

  module _ (promise : Promise) (keeps : Keeps code promise state) where
    pub merges_owe : MergeOwes (fitting code A heartbeat) promise parts.rest left_promise child_promise
    merges_owe (ending.Root outcome) f a b = absurd (let z : 0 ≡ 2 * parts.rec + 1 = a.number in omega (arith, z))
    merges_owe (ending.At i side.Right x) f a b = absurd (let z : 2 * i + 2 ≡ 2 * parts.rec + 1 = a.number in omega (arith, z))
    merges_owe (ending.At i side.Left x) (ending.Root outcome) a b = absurd (let z : 0 ≡ 2 * parts.rec + 2 = b.number in omega (arith, z))
    merges_owe (ending.At i side.Left x) (ending.At j side.Left y) a b = absurd (let z : 2 * j + 1 ≡ 2 * parts.rec + 2 = b.number in omega (arith, z))
    merges_owe (ending.At i side.Left x) (ending.At j side.Right y) a b =
        let p : i ≡ parts.rec = let z : 2 * i + 1 ≡ 2 * parts.rec + 1 = a.number in omega (arith, z) in
        let q : j ≡ parts.rec = let z : 2 * j + 2 ≡ 2 * parts.rec + 2 = b.number in omega (arith, z) in
        sides_merge x y (subst (λ k. SideFits code A k left_promise x) p a.fits) (subst (λ k. SideFits code A k child_promise y) q b.fits) promise keeps (ending.At i side.Left x) (ending.At j side.Right y) refl a.belongs b.belongs
