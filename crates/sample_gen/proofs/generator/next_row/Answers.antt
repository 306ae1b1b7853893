use Rattle.std.proofs.Common.{rules, ◌≡◌, ◌∙◌, ◌+◌, ap, sym, refl, SFits, w64}
use Rattle.std.proofs.lemmas.Int.{to_z-of_z}
use Rattle.sample_gen.specs.Cells.{next_state, state_after}
use Rattle.sample_gen.proofs.States.{after_one_more}
use Rattle.sample_gen.proofs.Rows.{cell_more}
use Rattle.sample_gen.proofs.generator.next_row.Goals as goal

pub loop-col-init : goal.loop-col-init
unfolding state_after
loop-col-init c = record { cells = c.clear.ensures.items; state = refl }

pub loop-col-preserved : goal.loop-col-preserved
loop-col-preserved c =
    let stands : c.next_state-state.result ≡ state_after c.args.start (c.loop-col._col + 1)
    = c.next_state-state.ensures ∙ ap next_state c.loop-col.invariant.state
    ∙ sym (after_one_more c.args.start c.loop-col._col) in
    let fits : SFits w64 c.cell_of.result = search rules in
    record {
      cells = c.in_ok-push.ensures.items
          ∙ simp to_z-of_z (cell_more _ _ _ _ _ c.loop-col.invariant.cells stands c.cell_of.ensures);
      state = stands;
    }
