use Rattle.std.proofs.Common.{◌≡◌, ℕ, ◌+◌, length, ap, subst, ◌∙◌, arith}
use Rattle.expr_lower.specs.Bodies.{trap_count}
use Rattle.block_lower.specs.Lowering.{BeginsPar}
use Rattle.block_lower.specs.Writing.{next_label}
use Rattle.scene_laws.specs.Sites.{loop_site}
use Rattle.block_lower.proofs.Written.LoweredPars.{par_begun}
use Rattle.block_lower.proofs.Written.Sited.{site_fits}
use Rattle.block_lower.proofs.Written.Placed.{known_still}
use Rattle.block_lower.proofs.lowering.Lowering.begin_par.Goals as goal

pub site_of-requires-clause-few_carries : goal.site_of-requires-clause-few_carries
site_of-requires-clause-few_carries c =
    let self = c.args.self.now in
    (site_fits self.on self.scope c.args.round c.args.l.now c.requires.fits c.requires.room
    c.requires.few_tables).few_carries

pub site_of-requires-clause-depth : goal.site_of-requires-clause-depth
site_of-requires-clause-depth c =
    let self = c.args.self.now in
    (site_fits self.on self.scope c.args.round c.args.l.now c.requires.fits c.requires.room
    c.requires.few_tables).shallow

pub site_of-requires-clause-cells : goal.site_of-requires-clause-cells
site_of-requires-clause-cells c =
    let self = c.args.self.now in
    let s = site_fits self.on self.scope c.args.round c.args.l.now c.requires.fits c.requires.room
    c.requires.few_tables in
    omega (arith, s.cells, c.requires.room.few)

pub bounds-requires-clause-cells : goal.bounds-requires-clause-cells
bounds-requires-clause-cells c =
    let self = c.args.self.now in
    let s = site_fits self.on self.scope c.args.round c.args.l.now c.requires.fits c.requires.room
    c.requires.few_tables in
    omega (arith, s.cells, c.requires.room.few)

pub returns-clause-site : goal.returns-clause-site
returns-clause-site c =
    let self = c.args.self.now in
    c.in_ok-site.ensures
    ∙ ap (λ (k : ℕ). loop_site self.scope c.args.l.now self.on.size c.args.round.depth
    (length self.scope.cells.items) c.args.cursor k)
    (omega (
      arith,
      c.in_ok-bounds.ensures.labels,
      c.in_ok-push_some.ensures.labels,
      c.in_ok-push_length.ensures.labels,
    ))

pub returns-clause-code : goal.returns-clause-code
returns-clause-code c =
    let self = c.args.self.now in
    let l = c.args.l.now in
    let bounds = c.in_ok-bounds.ensures in
    let some = c.in_ok-push_some.ensures in
    let check = c.next_label.result + c.trap_count.result + c.trap_count-2.result in
    let spot : check ≡ next_label self.out + trap_count l.from + trap_count l.to =
    omega (
      arith,
      c.next_label.ensures,
      c.trap_count.ensures,
      c.trap_count-2.ensures,
      c.requires.labels,
    ) in
    subst (λ (n : ℕ). BeginsPar self.scope l n c.args.exit self.out c.push_length.new.self.out) spot
    (par_begun self.scope l check c.args.exit self.out c.bounds.new.self.out
    c.push_some.new.self.out c.push_length.new.self.out bounds.code some.code some.fresh
    (omega (arith, bounds.labels, some.labels, ap length some.fresh.traps))
    c.in_ok-push_length.ensures.code)

pub returns-clause-fit : goal.returns-clause-fit
returns-clause-fit c = λ from to end below before.
    let on = c.args.self.now.on in
    let bounds = c.in_ok-bounds.ensures in
    let some = c.in_ok-push_some.ensures in
    let long = c.in_ok-push_length.ensures in
    let check = c.next_label.result + c.trap_count.result + c.trap_count-2.result in
    let on_some = some.on ∙ bounds.on in
    long.fit
    (known_still on c.push_some.new.self.on (next_label c.push_some.new.self.out) on_some
    (omega (arith, long.labels, below)))
    (some.fit
    (known_still on c.bounds.new.self.on check bounds.on
    (omega (
      arith,
      c.next_label.ensures,
      c.trap_count.ensures,
      c.trap_count-2.ensures,
      bounds.labels,
      some.labels,
      long.labels,
      c.requires.labels,
      below,
    )))
    (known_still on c.bounds.new.self.on c.args.exit bounds.on end)
    (bounds.fit from to (omega (arith, some.labels, long.labels, below)) before))
