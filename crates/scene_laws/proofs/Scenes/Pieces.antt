-- The pieces of a `par` that is cut, and what the task of each owes: the whole of it in a world,
-- and the sides of cuts.
use Rattle.std.proofs.Common.{◌≡◌, ◌⊎◌, ℕ, Bool, true, false, List, refl, arith}
use Rattle.std.specs.List.{AllByRecursion}
use Rattle.tpal_syntax.specs.Listing.{Listing}
use Rattle.tpal_machine.specs.declared.ends.Ending.{Ending}
use Rattle.tpal_machine.specs.declared.ends.Ending.TheVariants as ending
use Rattle.tpal_machine.specs.Owes.{is_at_point}
use Rattle.tpal_machine.specs.State.{State}
use Rattle.tpal_machine.specs.Step.{Beats, Goes, step}
use Rattle.tpal_machine.proofs.Kit.{Back}
use Rattle.loop_syntax.specs.declared.ParLoop.{ParLoop}
use Rattle.loop_meaning.specs.State.{Note}
use Rattle.expr_lower.specs.declared.scope.Scope.{Scope}
use Rattle.scene_laws.proofs.Counts.Lists.{all_behind}
use Rattle.scene_laws.proofs.Scenes.Promises.{Promise, Terms, promised, promising}
use Rattle.scene_laws.proofs.Scenes.Regions.{AtMostAChance, Covers, IsQuiet}
use Rattle.scene_laws.proofs.Scenes.Results.{Result, noting}
use Rattle.scene_laws.proofs.Cuts.Sides.{Part, side_by}

-- the whole `par` in a world, or a side of a cut
pub data Piece (World : Type 0) : Type 0 where
  Host : World → Piece World
  Apart : Part → Piece World

module _ (code : Listing) (heartbeat : ℕ) where
  -- a side owes its end, where it holds all that its run touches
  abbrev pub side_terms : Scope → ParLoop → Terms code heartbeat Part
  side_terms scope l = record {
    given = λ p r. AllByRecursion (Covers p.region) r.notes;
    least = λ p r. 0;
    ending = λ p r. ending.At p.rec p.which (side_by scope l p r.end);
    blind = λ p ns r. refl;
    fewer = λ p ns r given. all_behind (Covers p.region) ns r.notes given;
    quietly = λ p ns r quiet. omega arith;
    at_most = λ p ns r one. omega arith;
  }

  abbrev pub side_promise : Scope → ParLoop → Promise code heartbeat Part
  side_promise scope l = promised code heartbeat (side_terms scope l)

  -- ---- what a piece owes, by what a world owes and what a side does

  module _ {World : Type 0} (P : Promise code heartbeat World) (Q : Promise code heartbeat Part)
    where
      abbrev pub given_of : Piece World → Result → Type 0
      given_of (Host w) r = P.given w r
      given_of (Apart p) r = Q.given p r

      abbrev pub least_of : Piece World → Result → ℕ
      least_of (Host w) r = P.least w r
      least_of (Apart p) r = Q.least p r

      abbrev pub ending_of : Piece World → Result → Ending
      ending_of (Host w) r = P.ending w r
      ending_of (Apart p) r = Q.ending p r

      abbrev pub owing_of : Piece World → Result → Back code heartbeat
      owing_of (Host w) r = P.owing w r
      owing_of (Apart p) r = Q.owing p r

      abbrev pub diverted_of : Piece World → Result → Back code heartbeat
      diverted_of (Host w) r = P.diverted w r
      diverted_of (Apart p) r = Q.diverted p r

      abbrev pub Promised : Bool → ℕ → Piece World → Result → State → Type 0
      Promised due least i r state =
          (promising code heartbeat (given_of i r) due least (ending_of i r)).Holds state

      pub opens_of : (i : Piece World) (r : Result) (state : State) → (owing_of i r).Holds state
          → Promised false (least_of i r) i r state
      opens_of (Host w) r state holds = P.opens w r state holds
      opens_of (Apart p) r state holds = Q.opens p r state holds

      pub closes_of : (i : Piece World) (r : Result) (state : State)
          → Promised false (least_of i r) i r state → (owing_of i r).Holds state
      closes_of (Host w) r state holds = P.closes w r state holds
      closes_of (Apart p) r state holds = Q.closes p r state holds

      pub turned_opens_of : (i : Piece World) (r : Result) (state : State)
          → (diverted_of i r).Holds state → Promised true 0 i r state
      turned_opens_of (Host w) r state holds = P.turned_opens w r state holds
      turned_opens_of (Apart p) r state holds = Q.turned_opens p r state holds

      pub turned_closes_of : (i : Piece World) (r : Result) (state : State)
          → Promised true 0 i r state
          → (diverted_of i r).Holds state
      turned_closes_of (Host w) r state holds = P.turned_closes w r state holds
      turned_closes_of (Apart p) r state holds = Q.turned_closes p r state holds

      pub blind_of : (i : Piece World) (ns : List Note) (r : Result)
          → ending_of i (noting ns r) ≡ ending_of i r
      blind_of (Host w) ns r = P.blind w ns r
      blind_of (Apart p) ns r = Q.blind p ns r

      pub fewer_of : (i : Piece World) (ns : List Note) (r : Result) → given_of i (noting ns r)
          → given_of i r
      fewer_of (Host w) ns r given = P.fewer w ns r given
      fewer_of (Apart p) ns r given = Q.fewer p ns r given

      pub touches_of : (i : Piece World) (ns : List Note) (r : Result) (state : State)
          → AllByRecursion IsQuiet ns → (given_of i (noting ns r) → (owing_of i r).Holds state)
          → (owing_of i (noting ns r)).Holds state
      touches_of (Host w) ns r state quiet holds = P.touches w ns r state quiet holds
      touches_of (Apart p) ns r state quiet holds = Q.touches p ns r state quiet holds

      pub points_of : (i : Piece World) (ns : List Note) (r : Result) (state after : State)
          → AtMostAChance ns → is_at_point code after ≡ true
          → step code heartbeat false state ≡ Goes after
          → (step code heartbeat true state ≡ Goes after) ⊎
          ((other : State) × (step code heartbeat true state ≡ Beats other)
          × (diverted_of i r).Holds other)
          → (owing_of i r).Holds after → (owing_of i (noting ns r)).Holds state
      points_of (Host w) ns r state after one at calm loud holds =
          P.points w ns r state after one at calm loud holds
      points_of (Apart p) ns r state after one at calm loud holds =
          Q.points p ns r state after one at calm loud holds

      abbrev pub either_promise : Promise code heartbeat (Piece World)
      either_promise = record {
        given = given_of;
        least = least_of;
        ending = ending_of;
        owing = owing_of;
        diverted = diverted_of;
        opens = opens_of;
        closes = closes_of;
        turned_opens = turned_opens_of;
        turned_closes = turned_closes_of;
        blind = blind_of;
        fewer = fewer_of;
        touches = touches_of;
        points = points_of;
      }
