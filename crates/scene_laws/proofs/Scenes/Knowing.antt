-- A promise where more is known of each result.
use Rattle.std.proofs.Common.{◌≡◌, ◌⊎◌, inl, inr, ℕ, true, false, List}
use Rattle.tpal_syntax.specs.Listing.{Listing}
use Rattle.tpal_machine.specs.Owes.{is_at_point}
use Rattle.tpal_machine.specs.State.{State}
use Rattle.tpal_machine.specs.Step.{Beats, Goes, step}
use Rattle.tpal_machine.proofs.Kit.{Back}
use Rattle.loop_meaning.specs.State.{Note}
use Rattle.scene_laws.proofs.Scenes.Promises.{Promise}
use Rattle.scene_laws.proofs.Scenes.Regions.{AtMostAChance}
use Rattle.scene_laws.proofs.Scenes.Results.{Result, noting}

module _ (code : Listing) (heartbeat : ℕ) where
  -- what holds where something is known
  abbrev pub where_known : Type 0 → Back code heartbeat → Back code heartbeat
  where_known Known K = record {
    Holds = λ state. Known → K.Holds state;
    back = λ state after is holds known. K.back state after is (holds known);
  }

  module _ {World : Type 0} (P : Promise code heartbeat World) (Known : World → Result → Type 0)
      (fewer_known : (i : World) (ns : List Note) (r : Result) → Known i (noting ns r) → Known i r)
    where
      pub known_points : (i : World) (ns : List Note) (r : Result) (state after : State)
          → AtMostAChance ns → is_at_point code after ≡ true
          → step code heartbeat false state ≡ Goes after
          → (step code heartbeat true state ≡ Goes after) ⊎
          ((other : State) × (step code heartbeat true state ≡ Beats other)
          × (where_known (Known i r) (P.diverted i r)).Holds other)
          → (where_known (Known i r) (P.owing i r)).Holds after
          → (where_known (Known i (noting ns r)) (P.owing i (noting ns r))).Holds state
      known_points i ns r state after one at calm loud holds known =
          P.points i ns r state after one at calm (by_step loud) (holds (fewer_known i ns r known))
        where
          by_step : (step code heartbeat true state ≡ Goes after) ⊎
              ((other : State) × (step code heartbeat true state ≡ Beats other)
              × (where_known (Known i r) (P.diverted i r)).Holds other)
              → (step code heartbeat true state ≡ Goes after) ⊎
              ((other : State) × (step code heartbeat true state ≡ Beats other)
              × (P.diverted i r).Holds other)
          by_step (inl goes) = inl goes
          by_step (inr (other, beats, turned)) =
              inr (other, beats, turned (fewer_known i ns r known))

      -- what is known is given too
      abbrev pub knowing : Promise code heartbeat World
      knowing = record {
        given = λ i r. P.given i r × Known i r;
        least = P.least;
        ending = P.ending;
        owing = λ i r. where_known (Known i r) (P.owing i r);
        diverted = λ i r. where_known (Known i r) (P.diverted i r);
        opens = λ i r state holds given can. P.opens i r state (holds given.1) given.0 can;
        closes = λ i r state holds known.
            P.closes i r state (λ given can. holds (given, known) can);
        turned_opens = λ i r state holds given can.
            P.turned_opens i r state (holds given.1) given.0 can;
        turned_closes = λ i r state holds known.
            P.turned_closes i r state (λ given can. holds (given, known) can);
        blind = P.blind;
        fewer = λ i ns r given. (P.fewer i ns r given.0, fewer_known i ns r given.1);
        touches = λ i ns r state quiet holds known.
            P.touches i ns r state quiet
            (λ given. holds (given, known) (fewer_known i ns r known));
        points = known_points;
      }
