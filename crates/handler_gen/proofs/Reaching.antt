-- What a task reaches, as a predicate that goes backwards, and what holds of it by any other one.
use Rattle.std.proofs.Common.{ℕ}
use Rattle.tpal_syntax.specs.Listing.{Listing}
use Rattle.tpal_machine.specs.State.{State}
use Rattle.tpal_machine.proofs.Kit.{Back}
use Rattle.handler_gen.specs.Reaching.{Reaches}
use Rattle.handler_gen.specs.Reaching as reaching

module _ (code : Listing) (heartbeat : ℕ) where
  -- reaching a task
  abbrev pub reaching_task : State → Back code heartbeat
  reaching_task last = record {
    Holds = λ state. Reaches code heartbeat state last;
    back = λ state after is comes. reaching.goes_on state after last is comes;
  }

  -- what holds of a task holds of each that reaches it
  pub reached : (K : Back code heartbeat) (state last : State) → Reaches code heartbeat state last → K.Holds last → K.Holds state
  reached K state last (reaching.here _) holds = holds
  reached K state last (reaching.goes_on _ after _ is comes) holds = K.back state after is (reached K after last comes holds)
