-- Where a program breaks a rule.
use Rattle.std.specs.Prelude.{Contains}
use Rattle.tp_value.specs.declared.Place.{Place}
use Rattle.loop_syntax.specs.declared.Program.{Program}
use Rattle.loop_rules.specs.declared.rule.Rule.{Rule}
use Rattle.loop_rules.specs.declared.rule.Rule.TheVariants.{Names, OuterVariables, Reductions}
use Rattle.loop_rules.specs.declared.rule.Rule.TheVariants.{TableWrites, TableReads, CarryLists}
use Rattle.loop_rules.specs.declared.rule.Rule.TheVariants.{Functions, ReadingCalls, Output}
use Rattle.loop_rules.specs.declared.rule.Rule.TheVariants.{LoopVariables, Limits, Leaves}
use Rattle.loop_rules.specs.Sites.{Site, sites}
use Rattle.loop_rules.specs.Scopes.{misnamed, loop_variable_set}
use Rattle.loop_rules.specs.Limits.{over_limits}
use Rattle.loop_rules.specs.Keeps.{unfit_for_functions, shown_in_par}
use Rattle.loop_rules.specs.Reductions.{outer_set, misreduced}
use Rattle.loop_rules.specs.Carries.{miswritten, misread, miscarried}
use Rattle.loop_rules.specs.Reading.{CallsReader}
use Rattle.loop_rules.specs.Leaves.{misleft}

-- what stands at that site breaks the rule at that place
abbrev pub BreaksAt : Program → Rule → Site → Place → Type 0
BreaksAt program Names site place = Contains (misnamed site.act site.spot) place
BreaksAt program OuterVariables site place = Contains (outer_set site.act site.spot) place
BreaksAt program Reductions site place = Contains (misreduced site.act site.spot) place
BreaksAt program TableWrites site place = Contains (miswritten site.act site.spot) place
BreaksAt program TableReads site place = Contains (misread site.act site.spot) place
BreaksAt program CarryLists site place = Contains (miscarried site.act site.spot) place
BreaksAt program Functions site place = Contains (unfit_for_functions site.act site.spot) place
BreaksAt program ReadingCalls site place = CallsReader program site place
BreaksAt program Output site place = Contains (shown_in_par site.act site.spot) place
BreaksAt program LoopVariables site place = Contains (loop_variable_set site.act site.spot) place
BreaksAt program Limits site place = Contains (over_limits site.act site.spot) place
BreaksAt program Leaves site place = Contains (misleft site.act site.spot) place

pub record Broken (program : Program) (rule : Rule) (place : Place) : Type 0 where
  pub where_at : Site
  pub stands : Contains (sites program) where_at
  pub breaks : BreaksAt program rule where_at place
