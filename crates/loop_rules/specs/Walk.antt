-- How the state of the walk stands for a spot, and what a step of the walk does.
use Rattle.std.specs.Prelude.{◌≡◌, List, [], ◌∷◌, map, length, Option}
use Rattle.std.specs.Borrow.{Bor}
use Rattle.loop_syntax.specs.declared.Name.{Name}
use Rattle.loop_rules.specs.declared.fault.Fault.{Fault}
use Rattle.loop_rules.specs.declared.spot as state
use Rattle.loop_rules.specs.Declarations.{tables_of_decls}
use Rattle.loop_rules.specs.Sites.{Spot, Site, declared_var}
use Rattle.loop_rules.specs.Search.{lowest_in, resolved_rules}

-- the state knows how many `par` loops are round, and not which
abbrev pub spot_of : state.Spot.Spot → Spot
spot_of walk = record {
  part = walk.part;
  tables = tables_of_decls walk.decls.now;
  funcs = walk.all.now;
  scope = walk.scope;
  loops = walk.loops;
  depth = length walk.rounds.items;
  rounds = [];
}

-- the walk went over these sites, and stands at that spot
pub record Walked (before after : Option Fault) (sites : List Site) (new : state.Spot.Spot)
    (spot : Spot) : Type 0 where
  pub found : after ≡ lowest_in resolved_rules before sites
  pub stands : spot_of new ≡ spot

-- the names behind references
abbrev pub named : List (Bor Name) → List Name
named xs = map {A = Bor Name} {B = Name} (λ x. x.now) xs

-- where a walk stands after parameters
abbrev pub spot_of_params : Spot → List Name → Spot
spot_of_params spot [] = spot
spot_of_params spot (param ∷ params) = spot_of_params (declared_var spot param) params
