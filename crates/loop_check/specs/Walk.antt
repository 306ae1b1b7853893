-- What the walk knows of a place, and how its state stands for a spot.
use Rattle.std.specs.Prelude.{◌≡◌, ℕ, Bool, false, not, List, [], ◌∷◌, map, Option}
use Rattle.std.specs.Borrow.{Bor}
use Rattle.loop_rules.specs.declared.part.Part.TheVariants.{OfMain}
use Rattle.loop_syntax.specs.declared.Reduce.{Reduce}
use Rattle.loop_syntax.specs.declared.Carry.{Carry}
use Rattle.loop_rules.specs.Names.{is_in, table_name}
use Rattle.loop_rules.specs.Sites.{Loop, Spot, Site}
use Rattle.loop_rules.specs.Reductions.{reduced, other_operator, reduced_otherwise}
use Rattle.loop_rules.specs.Carries.{carries}
use Rattle.loop_rules.specs.declared.fault.Fault.{Fault}
use Rattle.loop_check.specs.declared.reader.Reader.{Reader}
use Rattle.loop_check.specs.declared.spot as state
use Rattle.loop_check.specs.declared.round.Round.{Round}
use Rattle.loop_check.specs.declared.round.Test.{Test}
use Rattle.loop_check.specs.declared.round.Test.TheVariants as test
use Rattle.loop_rules.specs.Search.{lowest_in}
use Rattle.loop_check.specs.Search.{checked_rules}

-- the names behind references
abbrev pub texts_of : List (Bor (List ℕ)) → List (List ℕ)
texts_of names = map {A = Bor (List ℕ)} {B = List ℕ} (λ name. name.now) names

-- the loop of a round
abbrev pub loop_of : Round → Loop
loop_of round = record {
  outside = texts_of round.outside.now;
  var = round.par.now.var.text.items;
  carries = round.par.now.carries.items;
  reduces = round.par.now.reduces.items;
}

abbrev pub rounds_of : List Round → List Loop
rounds_of rounds = map loop_of rounds

-- the answer of a `par`
abbrev pub holds : Test → Loop → Bool
holds (test.Reduces name) loop = reduced name.now loop
holds (test.Outside name) loop = is_in loop.outside name.now
holds (test.Carries table) loop = carries table.now loop
holds (test.Lacks table) loop = not (carries table.now loop)
holds (test.OtherOperator reduce) loop = other_operator reduce.now loop
holds (test.ReducedOtherwise reduce) loop = reduced_otherwise reduce.now loop

-- the answer of the nearest one
abbrev pub nearest_holds : Test → List Loop → Bool
nearest_holds asked [] = false
nearest_holds asked (loop ∷ loops) = holds asked loop

-- a spot as far as these rules look at it: the visible variables, those of them that are a
-- loop's, and the `par` loops round
abbrev pub spot : List (List ℕ) → List (List ℕ) → List Loop → Spot
spot scope loops rounds =
    record {
      part = OfMain;
      tables = [];
      funcs = [];
      scope = scope;
      loops = loops;
      depth = 0;
      rounds = rounds;
    }

-- that of the walk's state
abbrev pub inside : state.Spot.Spot → Spot
inside walk =
    spot (texts_of walk.scope.items) (texts_of walk.loops.items) (rounds_of walk.rounds.now)

-- the targets of reductions
abbrev pub targets_of : List Reduce → List (List ℕ)
targets_of reduces = map (λ reduce. reduce.target.text.items) reduces

-- the tables of carry items
abbrev pub carried_tables : List Carry → List (List ℕ)
carried_tables items = map (λ item. (table_name item).text.items) items

-- the walk went over these sites, and stands at that spot
pub record Walked (readers : List Reader) (before after : Option Fault) (sites : List Site)
    (new : state.Spot.Spot) (at : Spot) : Type 0 where
  pub found : after ≡ lowest_in (checked_rules readers) before sites
  pub stands : inside new ≡ at
