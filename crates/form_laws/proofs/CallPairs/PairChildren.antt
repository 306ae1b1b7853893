-- The child of a pair of calls that is cut makes the second call, and ends with its value.
use Rattle.std.proofs.Common.{◌≡◌, ℕ, ◌+◌, true, List, [], ◌∷◌, refl, ◌++◌, append-nil, ◌∙◌}
use Rattle.std.proofs.Common.{arith}
use Rattle.std.specs.Prelude.{ℤ, ⊤}
use Rattle.tp_value.specs.declared.Stop.{Stop}
use Rattle.tp_value.specs.declared.Stop.TheVariants.{Done, Left, NoFuel, Trap}
use Rattle.tp_value.specs.declared.Table.{Table}
use Rattle.loop_meaning.specs.State as meaning
use Rattle.loop_meaning.specs.State.{Ran, done}
use Rattle.loop_meaning.specs.Statements.{Called, with_call}
use Rattle.tpal_syntax.specs.declared.sites.CallSite.{CallSite}
use Rattle.tpal_syntax.specs.Listing.{Listing}
use Rattle.tpal_machine.specs.declared.cut.TableCut.TheVariants.{Whole}
use Rattle.tpal_machine.specs.declared.ends.Goal.TheVariants as goal
use Rattle.tpal_machine.specs.declared.ends.SideName.TheVariants.{Right}
use Rattle.handler_gen.specs.Sites.{target_label}
use Rattle.scene_laws.specs.Layout.{Activation}
use Rattle.scene_laws.proofs.Scenes.Called.{with_value}
use Rattle.scene_laws.proofs.Pairs.PairPromises.{call_promise, call_stops, early_ending}
use Rattle.scene_laws.proofs.Pairs.PairRuns.{call_end}
use Rattle.scene_laws.proofs.Cuts.Parts.{AreCut}
use Rattle.scene_laws.proofs.Scenes.Promises.{Promise}
use Rattle.scene_laws.proofs.Scenes.Regions.{Region}
use Rattle.scene_laws.proofs.Scenes.Results.{fin, result, then}
use Rattle.scene_laws.proofs.Scenes.Scene.{Scene}
use Rattle.scene_laws.proofs.Cuts.Sides.{Part}

-- ---- tables

-- tables that no cut is of
pub uncut : (n : ℕ) (ts : List Table) → AreCut [] (λ t. Whole) n ts
uncut n [] = tt
uncut n (t ∷ ts) = (refl, uncut (n + 1) ts)

-- the value of a call as a statement's only variable
abbrev pub its_value : ℤ → meaning.State → Ran
its_value v t = done (with_value v t)

pub value_end : (c : Called) → (then (result (with_call c its_value)) fin).end ≡ call_end c
value_end c = by_stop c.ran.stop refl
  where
    by_stop : (stop : Stop) → c.ran.stop ≡ stop
        → (then (result (with_call c its_value)) fin).end ≡ call_end c
    by_stop Done is = rw is refl
    by_stop (Left number) is = rw is refl
    by_stop (Trap kind place) is = rw is refl
    by_stop NoFuel is = rw is refl

-- and that adds no note
pub value_notes : (c : Called) → (then (result (with_call c its_value)) fin).notes ≡ c.ran.notes
value_notes c = by_stop c.ran.stop refl
  where
    by_stop : (stop : Stop) → c.ran.stop ≡ stop
        → (then (result (with_call c its_value)) fin).notes ≡ c.ran.notes
    by_stop Done is = rw is (append-nil (c.ran.notes ++ []) ∙ append-nil c.ran.notes)
    by_stop (Left number) is = rw is refl
    by_stop (Trap kind place) is = rw is refl
    by_stop NoFuel is = rw is refl

-- the child of a cut under a record
abbrev pub child_part : ℕ → Region → Part
child_part k region = record { which = Right; rec = k; before = []; since = 0; region = region }

-- ---- the scene of the child's own activation, under a record

module _ (code : Listing) (heartbeat z : ℕ) (act : Activation) (fuel dispatch : ℕ)
    (site : CallSite) (levels k : ℕ) (region : Region) where
  abbrev pub children : Promise code heartbeat ⊤
  children = call_promise code heartbeat (λ (i : ⊤). child_part k region)

  abbrev pub child_scene : Scene code heartbeat z
  child_scene = record {
    World = ⊤;
    levels = levels;
    fuel = fuel;
    dispatch = dispatch;
    size = 0;
    promise = children;
    around = record {
      marks = λ i. [];
      goal = λ i. goal.At k Right (target_label site.label);
      before = λ i. [];
      since = λ i. 0;
      region = λ i. region;
      kept = λ i s. ⊤;
      can = λ i ts. ⊤;
    };
    lowest = 0;
    may = λ c. ⊤;
    cut = λ i n printed. tt;
    registers = [];
    high = tt;
    unlike = tt;
    under = λ i d below. absurd (omega (arith, below));
    sized = λ i d below. absurd (omega (arith, below));
    stable = λ i level s t low same h. tt;
    below = λ i. refl;
    stops = λ i stop st state last early ticks printed ends step_is.
        call_stops code heartbeat (λ (u : ⊤). child_part k region) i (target_label site.label)
        stop
        st
        state last early ticks printed ends step_is;
    stopped = λ i stop st output early printed.
        early_ending (child_part k region) (target_label site.label) stop st output early printed;
    covers = λ i r given. given;
    allows = λ i t a b n ts r has given can. tt;
    is_open = true;
    handles = λ opened i more r st state marked from diverted runs back cut. absurd (marked refl);
  }
