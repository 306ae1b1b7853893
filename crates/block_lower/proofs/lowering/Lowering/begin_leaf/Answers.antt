use Rattle.std.proofs.Common.{◌≡◌, ◌+◌, ◌*◌, length, ap, ◌∙◌, arith, subst}
use Rattle.expr_lower.specs.Bodies.{trap_count}
use Rattle.tpal_syntax.specs.declared.sites.LeafSite.{LeafSite}
use Rattle.tpal_syntax.specs.declared.sites.LoopSite.{LoopSite}
use Rattle.scene_laws.specs.Layout.{value_cell}
use Rattle.block_lower.specs.Lowering.{BeginsLeaf, BeginsPar}
use Rattle.scene_laws.specs.Sizes.{added_by_list}
use Rattle.block_lower.specs.Writing.{label, next_label}
use Rattle.block_lower.proofs.Written.LoweredLeaves.{leaf_begun, leaf_head, leaf_right, leaf_stored}
use Rattle.block_lower.proofs.Written.Sited.{site_fits}
use Rattle.std.proofs.Common.{ℕ, ◌<◌, ◌≤◌, sym}
use Rattle.handler_gen.specs.LeafSites.{IsLeafSite, head_label, stored_loop}
use Rattle.handler_gen.specs.Sites.{split_label}
use Rattle.block_lower.specs.declared.body.Body.{Body}
use Rattle.block_lower.specs.Conforming.{IsLeafPlaced, blocks_of}
use Rattle.block_lower.proofs.Written.Placed.{known_still, loop_cells_low, many_site_blocks}
use Rattle.block_lower.proofs.Written.Placed.{site_placed}
use Rattle.block_lower.proofs.lowering.Lowering.begin_leaf.Goals as goal

pub value_cell-cursor-requires : goal.value_cell-cursor-requires
value_cell-cursor-requires c =
    let self = c.args.self.now in
    let s = site_fits self.on self.scope c.args.round c.args.l.now c.requires.fits c.requires.room
    c.requires.few_tables in
    omega (arith, s.cells, c.requires.room.few, c.level.ensures)

pub push_leaf_site-requires-clause-site : goal.push_leaf_site-requires-clause-site
push_leaf_site-requires-clause-site c =
    let self = c.args.self.now in
    let l = c.args.l.now in
    let s = site_fits self.on self.scope c.args.round l c.requires.fits c.requires.room
    c.requires.few_tables in
    let long = length self.scope.cells.items in
    let site = c.leaf_of-site.result in
    let begun = c.in_ok-begin_par.ensures in
    let stored =
    leaf_stored self.scope l self.on.size c.args.round.depth long (value_cell long) _ _
    c.in_ok-begin_par.field-0 site begun.site
    (c.value_cell-cursor.ensures ∙ ap value_cell c.level.ensures) c.leaf_of-site.ensures in
    let label = ap (λ (q : LeafSite). q.label) c.leaf_of-site.ensures
    ∙ ap (λ (q : LoopSite). q.label) begun.site in
    leaf_right self.scope l self.on.size c.args.round.depth long (value_cell long) site stored
    (s.right (site.label + 2) (omega (arith, label, begun.labels, c.requires.labels)))
    c.requires.leaf

pub returns-clause-site : goal.returns-clause-site
returns-clause-site c =
    let self = c.args.self.now in
    let l = c.args.l.now in
    let s = site_fits self.on self.scope c.args.round l c.requires.fits c.requires.room
    c.requires.few_tables in
    let long = length self.scope.cells.items in
    let site = c.leaf_of-site.result in
    let begun = c.in_ok-begin_par.ensures in
    let pushed = c.in_ok-push_begin.ensures in
    let round_it = c.in_ok-push_leaf_site.ensures in
    let stored =
    leaf_stored self.scope l self.on.size c.args.round.depth long (value_cell long) _ _
    c.in_ok-begin_par.field-0 site begun.site
    (c.value_cell-cursor.ensures ∙ ap value_cell c.level.ensures) c.leaf_of-site.ensures in
    let label = ap (λ (q : LeafSite). q.label) c.leaf_of-site.ensures
    ∙ ap (λ (q : LoopSite). q.label) begun.site in
    let right = leaf_right self.scope l self.on.size c.args.round.depth long (value_cell long) site
    stored (s.right (site.label + 2) (omega (arith, label, begun.labels, c.requires.labels)))
    c.requires.leaf in
    let head = leaf_head self.scope l self.on.size c.args.round.depth long (value_cell long) site
    stored in (
      right,
      omega (
        arith,
        head,
        label,
        begun.labels,
        pushed.labels,
        round_it.labels,
        ap length round_it.fresh.traps,
      ),
      stored,
    )

pub returns-clause-code : goal.returns-clause-code
returns-clause-code c =
    let self = c.args.self.now in
    let l = c.args.l.now in
    let s = site_fits self.on self.scope c.args.round l c.requires.fits c.requires.room
    c.requires.few_tables in
    let long = length self.scope.cells.items in
    let site = c.leaf_of-site.result in
    let begun = c.in_ok-begin_par.ensures in
    let pushed = c.in_ok-push_begin.ensures in
    let round_it = c.in_ok-push_leaf_site.ensures in
    let scope = pushed.scope ∙ begun.scope in
    let stored =
    leaf_stored self.scope l self.on.size c.args.round.depth long (value_cell long) _ _
    c.in_ok-begin_par.field-0 site begun.site
    (c.value_cell-cursor.ensures ∙ ap value_cell c.level.ensures) c.leaf_of-site.ensures in
    let label_is = ap (λ (q : LeafSite). q.label) c.leaf_of-site.ensures
    ∙ ap (λ (q : LoopSite). q.label) begun.site in
    let right = leaf_right self.scope l self.on.size c.args.round.depth long (value_cell long) site
    stored (s.right (site.label + 2) (omega (arith, label_is, begun.labels, c.requires.labels)))
    c.requires.leaf in
    let check = c.next_label.result + c.trap_count.result + c.trap_count-2.result in
    let body = c.added_by_body-body.result in
    let first = check + 4 + c.site_blocks.result + body in
    let exit = first + body in
    let spot : next_label self.out + trap_count l.from + trap_count l.to ≡ check =
    omega (
      arith,
      c.next_label.ensures,
      c.trap_count.ensures,
      c.trap_count-2.ensures,
      c.requires.labels,
    ) in
    let code =
    subst (λ n. BeginsPar self.scope l n exit self.out c.begin_par.new.self.out) spot begun.code in
    let size = rw c.deref-2.ensures.value at c.added_by_body-body.ensures in
    let blocks = rw c.deref.ensures.value at c.site_blocks.ensures in
    let small : body ≡ added_by_list self.on.quiet_calls l.body.items + 1 =
    omega (arith, size, c.requires.labels) in
    let there : check + 4 + c.site_blocks.result ≡ label c.push_leaf_site.new.self.out =
    omega (
      arith,
      spot,
      blocks,
      begun.labels,
      pushed.labels,
      round_it.labels,
      ap length round_it.fresh.traps,
    ) in
    let first_is : first ≡ label c.push_leaf_site.new.self.out
    + (added_by_list self.on.quiet_calls l.body.items + 1) = omega (arith, there, small) in
    let exit_is : exit ≡ label c.push_leaf_site.new.self.out
    + 2 * (added_by_list self.on.quiet_calls l.body.items + 1) = omega (arith, there, small) in
    subst (λ n. BeginsLeaf self.on c.args.round self.scope l site n
    (label c.push_leaf_site.new.self.out
    + 2 * (added_by_list self.on.quiet_calls l.body.items + 1)) self.out
    c.push_leaf_site.new.self.out) first_is
    (subst (λ n. BeginsLeaf self.on c.args.round self.scope l site first n self.out
    c.push_leaf_site.new.self.out) exit_is
    (leaf_begun self.on c.args.round self.scope l site check first exit self.out
    c.begin_par.new.self.out c.push_begin.new.self.out c.push_leaf_site.new.self.out stored right
    code (omega (arith, begun.labels, spot))
    (rw (c.in_ok-stored.ensures, c.start_label.ensures) at pushed.code)
    (rw scope at round_it.code)))

pub returns-clause-fit : goal.returns-clause-fit
returns-clause-fit c = λ from to place below before.
    let self = c.args.self.now in
    let on = self.on in
    let l = c.args.l.now in
    let site = c.leaf_of-site.result in
    let begun = c.in_ok-begin_par.ensures in
    let pushed = c.in_ok-push_begin.ensures in
    let round_it = c.in_ok-push_leaf_site.ensures in
    let told = returns-clause-site c in
    let right : IsLeafSite site = told.0 in
    let label_is = ap (λ (q : LeafSite). q.label) c.leaf_of-site.ensures
    ∙ ap (λ (q : LoopSite). q.label) begun.site in
    let carries = ap (λ (q : LoopSite). q.carries) told.2 in
    let size = rw c.deref-2.ensures.value at c.added_by_body-body.ensures in
    let blocks = rw c.deref.ensures.value at c.site_blocks.ensures in
    let body = c.added_by_body-body.result in
    let small : body ≡ added_by_list on.quiet_calls l.body.items + 1 =
    omega (arith, size, c.requires.labels) in
    let check = c.next_label.result + c.trap_count.result + c.trap_count-2.result in
    let head = check + 4 + c.site_blocks.result in
    let first = head + body in
    let spot : next_label self.out + trap_count l.from + trap_count l.to ≡ check =
    omega (
      arith,
      c.next_label.ensures,
      c.trap_count.ensures,
      c.trap_count-2.ensures,
      c.requires.labels,
    ) in
    let end : first + body < blocks_of on =
    omega (arith, spot, blocks, small, begun.labels, pushed.labels, round_it.labels, below) in
    let start : first < blocks_of on = omega (arith, end) in
    let placed : IsLeafPlaced on site =
    record {
      loop = site_placed on self.scope c.args.round l (stored_loop site) c.requires.fits
          before.scope carries
          (omega (
            arith,
            label_is,
            spot,
            blocks,
            small,
            begun.labels,
            end,
            many_site_blocks l.carries.items,
          ));
      head = omega (
        arith,
        told.1,
        ap length round_it.fresh.traps,
        below,
      );
    } in
    let on_pushed = pushed.on ∙ begun.on in
    round_it.fit (subst (λ (x : Body). IsLeafPlaced x site) (sym on_pushed) placed)
    (known_still on c.push_begin.new.self.on first on_pushed start)
    (known_still on c.push_begin.new.self.on (first + body) on_pushed end)
    ((rw (c.in_ok-stored.ensures, c.start_label.ensures) at pushed.fit) place
    (loop_cells_low (stored_loop site) right.loop)
    (known_still on c.begin_par.new.self.on (split_label (stored_loop site)) begun.on
    placed.loop.split)
    (known_still on c.begin_par.new.self.on (site.label + 2 + 6) begun.on
    (omega (arith, placed.loop.none)))
    (subst (λ (x : Body). next_label c.push_begin.new.self.out ≤ blocks_of x) (sym begun.on)
    (omega (arith, round_it.labels, below)))
    (begun.fit from to end (omega (arith, pushed.labels, round_it.labels, below)) before))
