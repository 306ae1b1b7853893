-- The search for the first broken rule: the words of its contracts. Which rules are asked for is a
-- parameter.
use Rattle.std.specs.Prelude.{ℕ, suc, Bool, cond, ◌||◌, ◌&&◌, List, [], ◌∷◌, nat_lt, nat_eq}
use Rattle.std.specs.Prelude.{bytes_eq, Option, Some, None}
use Rattle.tp_value.specs.declared.Place.{Place}
use Rattle.loop_rules.specs.declared.rule.Rule.{Rule}
use Rattle.loop_rules.specs.declared.rule.Rule.TheVariants.{Names, Functions, Output}
use Rattle.loop_rules.specs.declared.rule.Rule.TheVariants.{LoopVariables, Limits}
use Rattle.loop_rules.specs.declared.fault.Fault.{Fault}
use Rattle.loop_rules.specs.Rules.{number_of}
use Rattle.loop_rules.specs.Sites.{Act, Spot, Site}
use Rattle.loop_rules.specs.Scopes.{is_before, misnamed, loop_variable_set}
use Rattle.loop_rules.specs.Keeps.{unfit_for_functions, shown_in_par}
use Rattle.loop_rules.specs.Limits.{over_limits}

-- the same place, one further
abbrev pub next_at : Option ℕ → Option ℕ
next_at None = None
next_at (Some position) = Some (suc position)

-- where a name stands first
abbrev pub first_at : List (List ℕ) → List ℕ → Option ℕ
first_at [] name = None
first_at (first ∷ rest) name = cond (bytes_eq first name) (Some 0) (next_at (first_at rest name))

-- ---- faults

abbrev pub is_same_place : Place → Place → Bool
is_same_place place other = nat_eq place.line other.line && nat_eq place.col other.col

-- whether a fault comes first: by place, and at one place by the rule's number
abbrev pub is_first : Fault → Fault → Bool
is_first fault other =
    is_before fault.place other.place
    || (is_same_place fault.place other.place
    && nat_lt (number_of fault.rule) (number_of other.rule))

-- the first of what was found and one more fault
abbrev pub lower : Option Fault → Fault → Option Fault
lower None fault = Some fault
lower (Some before) fault = cond (is_first fault before) (Some fault) (Some before)

-- the first of what was found and a rule's places
abbrev pub lowest : Option Fault → Rule → List Place → Option Fault
lowest found rule [] = found
lowest found rule (place ∷ places) =
    lowest (lower found (record { rule = rule; place = place })) rule places

-- ---- rules that are asked for

-- a rule, and the places where what is done at a spot breaks it
pub record Asked : Type 0 where
  pub rule : Rule
  pub broken : Act → Spot → List Place

-- the first of what was found and what a site breaks
abbrev pub lowest_at : List Asked → Option Fault → Site → Option Fault
lowest_at [] found site = found
lowest_at (asked ∷ more) found site =
    lowest_at more (lowest found asked.rule (asked.broken site.act site.spot)) site

-- and what sites break, one after the other
abbrev pub lowest_in : List Asked → Option Fault → List Site → Option Fault
lowest_in rules found [] = found
lowest_in rules found (site ∷ sites) = lowest_in rules (lowest_at rules found site) sites

-- the rules on names, limits, output and variables of loops
abbrev pub resolved_rules : List Asked
resolved_rules =
    record { rule = Names; broken = misnamed }
    ∷ record { rule = Functions; broken = unfit_for_functions }
    ∷ record { rule = Output; broken = shown_in_par }
    ∷ record { rule = LoopVariables; broken = loop_variable_set }
    ∷ record { rule = Limits; broken = over_limits }
    ∷ []
