use Rattle.std.proofs.Common.{◌≡◌, ℕ, ◌+◌, length, refl, subst, ap, sym, ◌∙◌, arith}
use Rattle.tpal_syntax.specs.declared.sites.LoopSite.{LoopSite}
use Rattle.block_lower.specs.declared.repeat.Bound.TheVariants as bound
use Rattle.block_lower.specs.declared.repeat.Turns.{Turns}
use Rattle.block_lower.specs.Lowering.{BeginsQuiet, BeginsPar}
use Rattle.block_lower.specs.Writing.{next_label}
use Rattle.expr_lower.specs.Bodies.{trap_count}
use Rattle.scene_laws.specs.Layout.{value_cell}
use Rattle.scene_laws.specs.Sites.{loop_site}
use Rattle.scene_laws.specs.Sizes.{added_by_list}
use Rattle.block_lower.proofs.Written.LoweredPars.{quiet_begun}
use Rattle.block_lower.proofs.Written.Sited.{site_fits}
use Rattle.std.proofs.Common.{◌<◌, ◌≤◌}
use Rattle.handler_gen.specs.Sites.{IsLoopSite, split_label}
use Rattle.block_lower.specs.declared.body.Body.{Body}
use Rattle.block_lower.specs.Conforming.{IsLoopPlaced, blocks_of}
use Rattle.block_lower.proofs.Written.Placed.{known_still, loop_cells_low, many_site_blocks}
use Rattle.block_lower.proofs.Written.Placed.{site_placed}
use Rattle.block_lower.proofs.lowering.Lowering.begin_quiet.Goals as goal

pub value_cell-requires : goal.value_cell-requires
value_cell-requires c =
    let self = c.args.self.now in
    let s = site_fits self.on self.scope c.args.round c.args.l.now c.requires.fits c.requires.room
    c.requires.few_tables in
    omega (arith, s.cells, c.requires.room.few, c.level-level.ensures)

pub push_begin-requires-clause-label : goal.push_begin-requires-clause-label
push_begin-requires-clause-label c =
    let label = ap (λ (q : LoopSite). q.label) c.in_ok-site.ensures.site in
    omega (arith, label, c.in_ok-site.ensures.labels, c.requires.labels)

pub push_begin-requires-clause-cells : goal.push_begin-requires-clause-cells
push_begin-requires-clause-cells c =
    let cells = ap (λ (q : LoopSite). q.cells) c.in_ok-site.ensures.site in
    ap (λ o. o.size) c.in_ok-site.ensures.on ∙ sym cells

pub push_site-requires-clause-site : goal.push_site-requires-clause-site
push_site-requires-clause-site c =
    let self = c.args.self.now in
    let s = site_fits self.on self.scope c.args.round c.args.l.now c.requires.fits c.requires.room
    c.requires.few_tables in
    rw (c.in_ok-site.ensures.site, c.value_cell.ensures, c.level-level.ensures)
    (s.right _ (omega (arith, c.in_ok-site.ensures.labels, c.requires.labels)))

pub push_site-requires-clause-here : goal.push_site-requires-clause-here
push_site-requires-clause-here c =
    let label = ap (λ (q : LoopSite). q.label) c.in_ok-site.ensures.site in
    let begun = c.in_ok-push_begin.ensures in
    omega (
      arith,
      label,
      c.in_ok-site.ensures.labels,
      begun.labels,
      ap length begun.fresh.traps,
    )

pub push_site-requires-clause-carries : goal.push_site-requires-clause-carries
push_site-requires-clause-carries c =
    let self = c.args.self.now in
    (site_fits self.on self.scope c.args.round c.args.l.now c.requires.fits c.requires.room
    c.requires.few_tables).few_carries

pub returns-clause-turns : goal.returns-clause-turns
returns-clause-turns c =
    let label = ap (λ (q : LoopSite). q.label) c.in_ok-site.ensures.site in
    let begun = c.in_ok-push_begin.ensures in
    let round_it = c.in_ok-push_site.ensures in
    let size = rw c.deref-2.ensures.value at c.added_by_body-body.ensures in
    let blocks = rw c.deref.ensures.value at c.site_blocks.ensures in (
      c.level-level.ensures,
      refl,
      omega (
        arith,
        label,
        size,
        blocks,
        c.in_ok-site.ensures.labels,
        begun.labels,
        round_it.labels,
        ap length round_it.fresh.traps,
        c.requires.labels,
      ),
    )

pub returns-clause-code : goal.returns-clause-code
returns-clause-code c =
    let self = c.args.self.now in
    let l = c.args.l.now in
    let site = c.in_ok-site.site in
    let s = site_fits self.on self.scope c.args.round l c.requires.fits c.requires.room
    c.requires.few_tables in
    let begun = c.in_ok-site.ensures in
    let is = begun.site in
    let label = ap (λ (q : LoopSite). q.label) is in
    let pushed = c.in_ok-push_begin.ensures in
    let round_it = c.in_ok-push_site.ensures in
    let scope = pushed.scope ∙ begun.scope in
    let check = c.next_label.result + c.trap_count.result + c.trap_count-2.result in
    let first = check + 2 + c.site_blocks.result in
    let exit = first + c.added_by_body-body.result + c.added_by_body-body.result in
    let spot : next_label self.out + trap_count l.from + trap_count l.to ≡ check =
    omega (
      arith,
      c.next_label.ensures,
      c.trap_count.ensures,
      c.trap_count-2.ensures,
      c.requires.labels,
    ) in
    let code =
    subst (λ (n : ℕ). BeginsPar self.scope l n exit self.out c.begin_par.new.self.out) spot
    begun.code in
    let size = rw c.deref-2.ensures.value at c.added_by_body-body.ensures in
    let blocks = rw c.deref.ensures.value at c.site_blocks.ensures in
    let long = length self.scope.cells.items in
    let here = (rw (c.value_cell.ensures, c.level-level.ensures) at is)
    ∙ ap (λ (k : ℕ). loop_site self.scope l self.on.size c.args.round.depth long (value_cell long)
    k) (sym label) in
    let small : c.added_by_body-body.result ≡ added_by_list self.on.quiet_calls l.body.items + 1 =
    omega (arith, size, c.requires.labels) in
    let again = first + c.added_by_body-body.result in
    let turns : Turns = record {
      level = c.level-level.result;
      bound = bound.Cell;
      again = again;
      exit = c.over_label.result;
    } in
    subst (λ (n : ℕ). BeginsQuiet self.on c.args.round self.scope l turns (again + n) self.out
    c.push_site.new.self.out) small
    (quiet_begun self.on c.args.round self.scope l site turns check first exit self.out
    c.begin_par.new.self.out c.push_begin.new.self.out c.push_site.new.self.out here
    (rw here (s.right _ (omega (arith, c.requires.labels, label, begun.labels))))
    c.over_label.ensures code
    (omega (arith, begun.labels)) pushed.code (rw scope at round_it.code)
    (omega (
      arith,
      blocks,
      begun.labels,
      pushed.labels,
      round_it.labels,
      ap length round_it.fresh.traps,
    )))

pub returns-clause-fit : goal.returns-clause-fit
returns-clause-fit c = λ from to place below before.
    let self = c.args.self.now in
    let on = self.on in
    let l = c.args.l.now in
    let site = c.in_ok-site.site in
    let begun = c.in_ok-site.ensures in
    let pushed = c.in_ok-push_begin.ensures in
    let round_it = c.in_ok-push_site.ensures in
    let label = ap (λ (q : LoopSite). q.label) begun.site in
    let carries = ap (λ (q : LoopSite). q.carries) begun.site in
    let size = rw c.deref-2.ensures.value at c.added_by_body-body.ensures in
    let blocks = rw c.deref.ensures.value at c.site_blocks.ensures in
    let body = c.added_by_body-body.result in
    let small : body ≡ added_by_list on.quiet_calls l.body.items + 1 =
    omega (arith, size, c.requires.labels) in
    let check = c.next_label.result + c.trap_count.result + c.trap_count-2.result in
    let first = check + 2 + c.site_blocks.result in
    let spot : next_label self.out + trap_count l.from + trap_count l.to ≡ check =
    omega (
      arith,
      c.next_label.ensures,
      c.trap_count.ensures,
      c.trap_count-2.ensures,
      c.requires.labels,
    ) in
    let end : first + body + body < blocks_of on =
    omega (arith, spot, blocks, small, begun.labels, pushed.labels, round_it.labels, below) in
    let start : first < blocks_of on = omega (arith, end) in
    let placed : IsLoopPlaced on site =
    site_placed on self.scope c.args.round l site c.requires.fits before.scope carries
    (omega (
      arith,
      label,
      spot,
      blocks,
      small,
      begun.labels,
      end,
      many_site_blocks l.carries.items,
    )) in
    let s = site_fits on self.scope c.args.round l c.requires.fits c.requires.room
    c.requires.few_tables in
    let long = length self.scope.cells.items in
    let here = (rw (c.value_cell.ensures, c.level-level.ensures) at begun.site)
    ∙ ap (λ (k : ℕ). loop_site self.scope l on.size c.args.round.depth long (value_cell long) k)
    (sym label) in
    let right : IsLoopSite site =
    rw here (s.right _ (omega (arith, c.requires.labels, label, begun.labels))) in
    let on_pushed = pushed.on ∙ begun.on in
    round_it.fit (subst (λ (x : Body). IsLoopPlaced x site) (sym on_pushed) placed)
    (known_still on c.push_begin.new.self.on first on_pushed start)
    (known_still on c.push_begin.new.self.on (first + body + body) on_pushed end)
    (pushed.fit place (loop_cells_low site right)
    (known_still on c.begin_par.new.self.on (split_label site) begun.on placed.split)
    (known_still on c.begin_par.new.self.on first begun.on start)
    (subst (λ (x : Body). next_label c.push_begin.new.self.out ≤ blocks_of x) (sym begun.on)
    (omega (arith, round_it.labels, below)))
    (begun.fit from to end (omega (arith, pushed.labels, round_it.labels, below)) before))
