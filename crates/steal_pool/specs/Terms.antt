-- The terms of a run.
use Rattle.std.specs.Prelude.{◌≡◌, ℕ, ◌*◌, []}
use Rattle.tpal_syntax.specs.Listing.{Listing}
use Rattle.tpal_machine.specs.State.{State, first_state}

-- the code that is run, the instructions between two beats, how many beats each worker may have,
-- how many records there are, and the first task
pub record Terms : Type 0 where
  pub code : Listing
  pub heartbeat : ℕ
  pub forks : ℕ
  pub records : ℕ
  pub first : State

-- the terms of a run that is none
abbrev pub no_terms : Terms
no_terms = record {
  code = record { tables = []; blocks = [] };
  heartbeat = 1;
  forks = 0;
  records = 0;
  first = first_state [] 0;
}

-- the terms of a run that begins so, with 64 records for each worker
pub record IsStart (terms : Terms) (code : Listing) (heartbeat forks workers : ℕ) (first : State) :
    Type 0 where
  pub code_is : terms.code ≡ code
  pub heartbeat_is : terms.heartbeat ≡ heartbeat
  pub forks_is : terms.forks ≡ forks
  pub records_is : terms.records ≡ 64 * workers
  pub first_is : terms.first ≡ first
