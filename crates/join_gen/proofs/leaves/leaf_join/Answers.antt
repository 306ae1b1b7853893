use Rattle.std.proofs.Common.{sym, subst}
use Rattle.tpal_syntax.specs.declared.sites.LoopSite.{LoopSite}
use Rattle.expr_lower.specs.Standing.{AreAt}
use Rattle.handler_gen.specs.Fitting.{HasLoopPlaces}
use Rattle.handler_gen.specs.Sites.{IsLoopSite, target_label}
use Rattle.join_gen.specs.LoopJoins.{IsRoundJoin, JoinsLoop}
use Rattle.join_gen.proofs.leaves.leaf_join.Goals as goal

pub loop_join-requires : goal.loop_join-requires
loop_join-requires c = record {
  site = subst IsLoopSite (sym c.in_ok-stored.ensures) c.requires.site.loop;
}

pub returns-clause-joins : goal.returns-clause-joins
returns-clause-joins c = λ code heartbeat stands round.
    let same = c.in_ok-stored.ensures in
    subst (λ (s : LoopSite). JoinsLoop code heartbeat s) same
    (c.in_ok-blocks.ensures.joins code heartbeat
    (subst (λ (s : LoopSite). AreAt code (target_label s.label) c.in_ok-blocks.blocks.items)
    (sym same) stands)
    (subst (λ (s : LoopSite). IsRoundJoin code s) (sym same) round))

pub returns-clause-fit : goal.returns-clause-fit
returns-clause-fit c = λ tables all places.
    c.in_ok-blocks.ensures.fit tables all
    (subst (λ (s : LoopSite). HasLoopPlaces s tables all) (sym c.in_ok-stored.ensures) places.loop)
