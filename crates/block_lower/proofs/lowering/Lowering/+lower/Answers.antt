use Rattle.std.proofs.Common.{◌≡◌, ◌+◌, ◌≤◌, true, List, length, take, take_all, refl, ap}
use Rattle.std.proofs.Common.{sym, subst, ◌∙◌, arith}
use Rattle.std.specs.List.{sum_by}
use Rattle.std.proofs.lemmas.List.{length-append}
use Rattle.std.proofs.lemmas.List.Sums.{sum_by_more, sum_by_more_le}
use Rattle.loop_rules.specs.Declarations.{declared_all}
use Rattle.loop_syntax.specs.declared.Stmt.{Stmt}
use Rattle.loop_syntax.specs.declared.Stmt.TheBlock.{hidden-the_row-Stmt-0}
use Rattle.expr_lower.specs.declared.scope.Scope.{Scope}
use Rattle.scene_laws.specs.Heights.{AreLow}
use Rattle.scene_laws.specs.Count.{blocks}
use Rattle.block_lower.specs.Lowering.{LowersAll, LowersOther}
use Rattle.scene_laws.specs.Names.{SeesAfter, names_after_list}
use Rattle.scene_laws.specs.Sizes.{added, declared, kept, kept_by_list}
use Rattle.scene_laws.proofs.Counts.Counting.{blocks_of_vec}
use Rattle.scene_laws.proofs.Counts.Adding.{added_of_vec, par_of_vec, second_of_vec}
use Rattle.scene_laws.proofs.Counts.Adding.{declared_of_vec, kept_of_vec}
use Rattle.block_lower.proofs.Written.Fitting.{low_of_vec}
use Rattle.block_lower.proofs.Written.Keeping.{sees_block, sees_body, sees_more}
use Rattle.block_lower.proofs.Written.Lowered.{none_written, more_written, branch_written}
use Rattle.block_lower.proofs.Written.Lowered.{other_written, no_other_written, if_written}
use Rattle.block_lower.proofs.Written.Lowered.{while_written, body_written}
use Rattle.block_lower.proofs.Written.FittingNow.{fits_declared, fits_first, fits_later, fits_loop}
use Rattle.block_lower.proofs.Written.FittingNow.{fits_next, fits_par, fits_second, fits_while}
use Rattle.block_lower.proofs.Written.FittingNow.{fits_held, inside_later}
use Rattle.block_lower.proofs.Written.LoweredDeep.{deep_written}
use Rattle.block_lower.proofs.Written.LoweredLeaves.{leaf_written, sees_turn, turn_same}
use Rattle.block_lower.proofs.Written.LoweredLeaves.{turn_written}
use Rattle.block_lower.proofs.Written.LoweredLoops.{loop_written}
use Rattle.block_lower.proofs.Written.LoweredPars.{body_same, quiet_written}
use Rattle.block_lower.proofs.Written.Writing.{fresh_empty}
use Rattle.scene_laws.specs.Quiet.{is_leaf}
use Rattle.block_lower.proofs.Written.Stepping.{on_ok, low_at, kept_at, room_within, first_more}
use Rattle.block_lower.proofs.Written.Stepping.{no_items}
use Rattle.block_lower.proofs.lowering.Lowering.+lower.Goals as goal

-- ---- branches and bodies

pub lower_branch-returns-clause-sees : goal.lower_branch-returns-clause-sees
lower_branch-returns-clause-sees t c =
    rw c.in_ok-close.ensures.scope
    (sees_block c.args.self.now.scope c.lower_list.new.self.scope c.leave.new.self.scope c.level-level.result c.args.body.now c.level-level.ensures c.in_ok-lower_list.ensures.sees c.leave.ensures.sees)

pub lower_branch-returns-clause-code : goal.lower_branch-returns-clause-code
lower_branch-returns-clause-code t c =
    branch_written c.args.self.now.on c.args.round c.args.self.now.scope c.args.body.now c.args.exit c.args.self.now.out c.lower_list.new.self.out c.close.new.self.out
    c.in_ok-lower_list.ensures.code (rw (c.jump.ensures, c.leave.ensures.out) at c.in_ok-close.ensures.closed)

pub lower_other-returns-then-is_empty-clause-code : goal.lower_other-returns-then-is_empty-clause-code
lower_other-returns-then-is_empty-clause-code t c =
    subst (λ (ss : List Stmt). LowersOther c.args.self.now.on c.args.round c.args.self.now.scope ss c.args.exit c.args.self.now.out c.args.self.now.out) (sym (no_items c.args.body.now c.if-is_empty.ensures))
    (no_other_written c.args.self.now.on c.args.round c.args.self.now.scope c.args.exit c.args.self.now.out)

pub lower_other-returns-clause-code : goal.lower_other-returns-clause-code
lower_other-returns-clause-code t c =
    other_written c.args.self.now.on c.args.round c.args.self.now.scope c.args.body.now c.args.exit c.args.self.now.out c.lower_branch.new.self.out c.requires.fresh c.in_ok-lower_branch.ensures.code

pub lower_body-returns-clause-sees : goal.lower_body-returns-clause-sees
lower_body-returns-clause-sees t c =
    sees_body c.args.self.now.scope c.declare.new.self.scope c.lower_list.new.self.scope c.leave.new.self.scope c.level-level.result c.args.x.now.text.items c.args.body.now c.level-level.ensures
    c.in_ok-declare.ensures.sees (rw c.in_ok-push.ensures.scope at c.in_ok-lower_list.ensures.sees) c.leave.ensures.sees

pub lower_body-returns-clause-code : goal.lower_body-returns-clause-code
lower_body-returns-clause-code t c =
    rw c.leave.ensures.out
    (body_written c.args.self.now.on c.args.round c.args.self.now.scope c.declare.new.self.scope c.args.x.now.text.items c.args.body.now c.args.self.now.out c.push.new.self.out c.lower_list.new.self.out
    c.requires.empty c.in_ok-declare.ensures.regs c.in_ok-declare.ensures.sees (rw c.in_ok-declare.ensures.out at c.in_ok-push.ensures.pushed)
    (rw (c.in_ok-push.ensures.on, c.in_ok-declare.ensures.on, c.in_ok-push.ensures.scope) at c.in_ok-lower_list.ensures.code))

-- ---- what the calls inside need

pub lower_body-lower_list-requires : goal.lower_body-lower_list-requires
lower_body-lower_list-requires t c =
    let self = c.args.self.now in
    let declared = c.in_ok-declare.ensures in
    let ticked = c.in_ok-push.ensures in
    let on = ticked.on ∙ declared.on in
    let labels = rw declared.out at ticked.labels in
    let measure : sum_by blocks c.args.body.now + 2 ≡ t = c.decreases in (
      omega (arith, measure),
      rw (on, ticked.scope) (
        rw declared.tables c.requires.few_tables,
        (
          c.requires.low,
          (
            omega (arith, labels, c.requires.labels),
            (
              c.requires.room,
              (
                omega (arith, declared.cells, c.requires.cells),
                fits_declared self.on self.scope c.args.round c.args.x.now.text.items c.declare.new.self.scope c.args.body.now declared.regs declared.sees c.requires.fits,
              ),
            ),
          ),
        ),
      ),
    )

pub lower_while-lower_list-requires : goal.lower_while-lower_list-requires
lower_while-lower_list-requires t c =
    let test = c.in_ok-test.ensures in
    let ticked = c.in_ok-push.ensures in
    let on = ticked.on ∙ test.on in
    let scope = ticked.scope ∙ test.scope in
    let measure : sum_by blocks c.args.body.now + 3 ≡ t = c.decreases in (
      omega (arith, measure),
      rw (on, scope) (
        c.requires.few_tables,
        (
          c.requires.low.1,
          (omega (arith, test.labels, ticked.labels, c.requires.labels), (c.requires.room, (c.requires.cells, c.requires.fits))),
        ),
      ),
    )

pub lower_if-lower_branch-requires : goal.lower_if-lower_branch-requires
lower_if-lower_branch-requires t c =
    let test = c.in_ok-choice.ensures in
    let measure : sum_by blocks c.args.body.now + sum_by blocks c.args.other.now + 4 ≡ t = c.decreases in (
      omega (arith, measure),
      rw (test.on, test.scope) (
        c.requires.few_tables,
        (
          c.requires.low.1,
          (omega (arith, test.labels, c.requires.labels), (c.requires.room.0, (omega (arith, c.requires.cells), c.requires.fits.0))),
        ),
      ),
    )

pub lower_if-lower_other-requires : goal.lower_if-lower_other-requires
lower_if-lower_other-requires t c =
    let self = c.args.self.now in
    let test = c.in_ok-choice.ensures in
    let one = c.in_ok-lower_branch.ensures in
    let on = one.on ∙ test.on in
    let labels = rw test.on at one.labels in
    let cells = rw test.scope at one.cells in
    let sees = rw test.scope at one.sees in
    let regs = rw test.scope at one.regs in
    let measure : sum_by blocks c.args.body.now + sum_by blocks c.args.other.now + 4 ≡ t = c.decreases in (
      omega (arith, measure),
      rw on (
        rw (one.tables, test.scope) c.requires.few_tables,
        (
          c.requires.low.2,
          (
            omega (arith, test.labels, labels, c.requires.labels),
            (
              c.requires.room.1,
              (
                omega (arith, cells, c.requires.cells),
                (one.fresh, fits_later self.on self.scope c.args.round c.lower_branch.new.self.scope c.args.other.now regs sees c.requires.fits.1),
              ),
            ),
          ),
        ),
      ),
    )

pub lower_deep-lower_body-requires : goal.lower_deep-lower_body-requires
lower_deep-lower_body-requires t c =
    let self = c.args.self.now in
    let l = c.args.l.now in
    let inside = c.round_inside-inside in
    let begun = c.in_ok-head.ensures in
    let measure : sum_by blocks l.body.items + 3 ≡ t = c.decreases in (
      rw c.deref.ensures.value (omega (arith, measure)),
      rw (begun.on, begun.scope, c.deref.ensures.value) (
        c.requires.few_tables,
        (
          c.requires.low.2,
          (
            omega (arith, begun.labels, c.requires.labels),
            (
              c.requires.room,
              (
                c.requires.cells,
                (
                  fresh_empty c.begin_deep.new.self.out begun.fresh,
                  fits_par self.on self.scope c.args.round inside.result l inside.ensures.reduces inside.ensures.depth c.requires.fits,
                ),
              ),
            ),
          ),
        ),
      ),
    )

pub lower_quiet-lower_body-requires : goal.lower_quiet-lower_body-requires
lower_quiet-lower_body-requires t c =
    let self = c.args.self.now in
    let l = c.args.l.now in
    let inside = c.round_inside-inside in
    let begun = c.in_ok-turns.ensures in
    let measure : sum_by blocks l.body.items + 3 ≡ t = c.decreases in (
      rw c.deref.ensures.value (omega (arith, measure)),
      rw (begun.on, begun.scope, c.deref.ensures.value) (
        c.requires.few_tables,
        (
          c.requires.low.2,
          (
            omega (arith, begun.labels, c.requires.labels),
            (
              c.requires.room,
              (
                c.requires.cells,
                (
                  fresh_empty c.begin_quiet.new.self.out begun.fresh,
                  fits_par self.on self.scope c.args.round inside.result l inside.ensures.reduces inside.ensures.depth c.requires.fits,
                ),
              ),
            ),
          ),
        ),
      ),
    )

pub lower_quiet-lower_body-requires-2 : goal.lower_quiet-lower_body-requires-2
lower_quiet-lower_body-requires-2 t c =
    let self = c.args.self.now in
    let l = c.args.l.now in
    let inside = c.round_inside-inside in
    let begun = c.in_ok-turns.ensures in
    let first = c.in_ok-lower_body.ensures in
    let ended = c.in_ok-end_loop.ensures in
    let ready = c.make_ready.ensures in
    let on = ready.on ∙ ended.on ∙ first.on ∙ begun.on in
    let scope = ready.scope ∙ ended.scope in
    let labels = rw (c.deref.ensures.value, begun.on) at first.labels in
    let cells = rw begun.scope at first.cells in
    let sees = rw begun.scope at first.sees in
    let regs = rw begun.scope at first.regs in
    let measure : sum_by blocks l.body.items + 3 ≡ t = c.decreases in (
      rw c.deref-2.ensures.value (omega (arith, measure)),
      rw (on, scope, c.deref-2.ensures.value) (
        rw (first.tables, begun.scope) c.requires.few_tables,
        (
          c.requires.low.2,
          (
            omega (arith, begun.labels, labels, ended.labels, ready.labels, c.requires.labels),
            (
              c.requires.room,
              (
                omega (arith, cells, c.requires.cells),
                (
                  record { body = ready.ready.body; traps = ready.ready.traps },
                  inside_later self.on self.scope inside.result c.lower_body.new.self.scope l.var.text.items l.body.items regs sees
                      (fits_par self.on self.scope c.args.round inside.result l inside.ensures.reduces inside.ensures.depth c.requires.fits),
                ),
              ),
            ),
          ),
        ),
      ),
    )

-- ---- lists

pub lower_list-loop-s-init : goal.lower_list-loop-s-init
lower_list-loop-s-init t c = record {
  labels = omega arith;
  cells = omega arith;
  tables = refl;
  regs = refl;
  sees = λ names tables sees. sees;
  code = none_written c.args.self.now.on c.args.round c.args.self.now.scope c.args.self.now.out;
  on = refl;
}

pub lower_list-lower_stmt-requires : goal.lower_list-lower_stmt-requires
lower_list-lower_stmt-requires t c =
    let self = c.args.self.now in
    let body = c.args.body.now in
    let i = c.loop-s.s-index in
    let s = c.s-item.result in
    let was = c.loop-s.invariant in
    let more_blocks = rw (← c.s-item.is) at (sum_by_more_le (added self.on.quiet_calls) body i s c.loop-s-test.true) in
    let more_cells = rw (← c.s-item.is) at (sum_by_more_le declared body i s c.loop-s-test.true) in
    let few = c.requires.few_tables in
    let measure : sum_by blocks body + 1 ≡ t = c.decreases in
    let within = rw (← c.s-item.is) at (sum_by_more_le blocks body i s c.loop-s-test.true) in (
      omega (arith, measure, within),
      rw was.on (
        rw was.tables few,
        (
          subst AreLow (sym c.s-item.is) (low_at body i s c.loop-s-test.true c.requires.low),
          (
            omega (arith, more_blocks, c.requires.labels, was.labels),
            (
              room_within self.on _ _ (subst (λ (d : Stmt). kept d ≤ kept_by_list body) (sym c.s-item.is) (kept_at body i s c.loop-s-test.true)) c.requires.room,
              (
                omega (arith, more_cells, c.requires.cells, was.cells),
                fits_next self.on self.scope c.args.round c.loop-s.self.scope body i s c.loop-s-test.true c.s-item.is was.regs was.sees c.requires.fits,
              ),
            ),
          ),
        ),
      ),
    )

pub lower_list-loop-s-preserved : goal.lower_list-loop-s-preserved
lower_list-loop-s-preserved t c =
    let self = c.args.self.now in
    let body = c.args.body.now in
    let i = c.loop-s.s-index in
    let s = c.s-item.result in
    let was = c.loop-s.invariant in
    let new = c.in_ok-lower_stmt.ensures in
    let step : take (i + 1) body ≡ _ = first_more body i s c.loop-s-test.true c.s-item.is in
    let more_blocks = rw (← c.s-item.is) at (sum_by_more (added self.on.quiet_calls) body i s c.loop-s-test.true) in
    let more_cells = rw (← c.s-item.is) at (sum_by_more declared body i s c.loop-s-test.true) in
    let labels = rw was.on at new.labels in
    record {
      labels = omega (arith, more_blocks, labels, was.labels);
      cells = omega (arith, more_cells, new.cells, was.cells);
      tables = new.tables ∙ was.tables;
      regs = new.regs ∙ was.regs;
      sees = subst (λ (ss : List Stmt). SeesAfter (λ names. names_after_list names ss) self.scope c.lower_stmt.new.self.scope) (sym step)
          (sees_more self.scope c.loop-s.self.scope c.lower_stmt.new.self.scope (take i body) s was.sees new.sees);
      code = subst (λ (ss : List Stmt). LowersAll self.on c.args.round self.scope ss self.out c.lower_stmt.new.self.out) (sym step)
          (more_written self.on c.args.round self.scope c.loop-s.self.scope (take i body) s self.out c.loop-s.self.out c.lower_stmt.new.self.out was.code was.regs was.sees (rw was.on at new.code));
      on = new.on ∙ was.on;
    }

pub lower_list-returns-clause-sees : goal.lower_list-returns-clause-sees
lower_list-returns-clause-sees t c =
    subst (λ (ss : List Stmt). SeesAfter (λ names. names_after_list names ss) c.args.self.now.scope c.loop-s.self.scope) (take_all c.loop-s.s-index c.args.body.now c.loop-s-test.false) c.loop-s.invariant.sees

-- ---- loops

pub lower_while-returns-clause-sees : goal.lower_while-returns-clause-sees
lower_while-returns-clause-sees t c =
    rw c.in_ok-test-2.ensures.scope
    (sees_block c.args.self.now.scope c.lower_list.new.self.scope c.leave.new.self.scope c.level-level.result c.args.body.now c.level-level.ensures
    (rw (c.in_ok-push.ensures.scope, c.in_ok-test.ensures.scope) at c.in_ok-lower_list.ensures.sees) c.leave.ensures.sees)

pub lower_while-returns-clause-code : goal.lower_while-returns-clause-code
lower_while-returns-clause-code t c =
    let again = c.next_label.result + c.trap_count.result in
    let exit = again + c.added_by_body.result + c.trap_count-2.result in
    let scope = c.in_ok-push.ensures.scope ∙ c.in_ok-test.ensures.scope in
    let on = c.in_ok-push.ensures.on ∙ c.in_ok-test.ensures.on in
    let listed = c.in_ok-lower_list.ensures in
    let regs = c.leave.ensures.regs ∙ (rw scope at listed.regs) in
    let keeps : SeesAfter (λ names. names) c.args.self.now.scope c.leave.new.self.scope =
    sees_block c.args.self.now.scope c.lower_list.new.self.scope c.leave.new.self.scope c.level-level.result c.args.body.now c.level-level.ensures (rw scope at listed.sees) c.leave.ensures.sees in
    let first = c.in_ok-test.ensures in
    let second = c.in_ok-test-2.ensures in
    let closed = rw c.leave.ensures.out at second.labels in
    let inner = rw on at listed.labels in
    while_written c.args.self.now.on c.args.round c.args.self.now.scope c.leave.new.self.scope c.args.e.now c.args.body.now again exit c.args.self.now.out c.test.new.self.out c.push.new.self.out c.lower_list.new.self.out c.test-2.new.self.out
    first.code first.fresh (omega (arith, first.labels, ap length first.fresh.traps))
    c.in_ok-push.ensures.pushed (rw (on, scope) at listed.code) regs keeps (rw c.leave.ensures.out at second.code) second.fresh
    (omega (arith, first.labels, c.in_ok-push.ensures.labels, inner, closed, ap length second.fresh.traps))

pub lower_deep-returns-clause-code : goal.lower_deep-returns-clause-code
lower_deep-returns-clause-code t c =
    let self = c.args.self.now in
    let l = c.args.l.now in
    let inside = c.round_inside-inside in
    let head = c.in_ok-head.head in
    let begun = c.in_ok-head.ensures in
    let body = c.in_ok-lower_body.ensures in
    let last = c.in_ok-close.ensures in
    let labels = rw (c.deref.ensures.value, begun.on) at body.labels in
    deep_written self.on c.args.round inside.result self.scope l head _ self.out c.begin_deep.new.self.out c.lower_body.new.self.out c.close.new.self.out
    c.requires.deep (c.requires.fits.still refl) inside.ensures.reduces inside.ensures.depth begun.code begun.fresh begun.head
    (rw (c.deref.ensures.value, begun.on, begun.scope) at body.code) (rw c.jump.ensures at last.closed)
    (omega (arith, begun.head, labels, last.labels, ap length begun.fresh.traps, ap length last.closed.fresh.traps))

pub lower_quiet-returns-clause-code : goal.lower_quiet-returns-clause-code
lower_quiet-returns-clause-code t c =
    let self = c.args.self.now in
    let l = c.args.l.now in
    let inside = c.round_inside-inside in
    let turns = c.in_ok-turns.turns in
    let begun = c.in_ok-turns.ensures in
    let first = c.in_ok-lower_body.ensures in
    let ended = c.in_ok-end_loop.ensures in
    let ready = c.make_ready.ensures in
    let second = c.in_ok-lower_body-2.ensures in
    let last = c.in_ok-end_loop-2.ensures in
    let on1 = ended.on ∙ first.on ∙ begun.on in
    let on2 = ready.on ∙ on1 in
    let scope = ready.scope ∙ ended.scope in
    let one = rw (c.deref.ensures.value, begun.on) at first.labels in
    let two = rw (c.deref-2.ensures.value, on2) at second.labels in
    let sees = rw begun.scope at first.sees in
    let regs = rw begun.scope at first.regs in
    let body = rw (c.deref-2.ensures.value, on2, scope) at second.code in
    quiet_written self.on c.args.round inside.result self.scope l turns _ self.out c.begin_quiet.new.self.out c.lower_body.new.self.out c.end_loop.new.self.out c.make_ready.new.self.out c.lower_body-2.new.self.out c.end_loop-2.new.self.out
    c.requires.quiet (c.requires.fits.still refl) inside.ensures.reduces inside.ensures.depth begun.turns.0 begun.turns.1
    (omega (arith, begun.turns.2, one, ended.labels, ap length begun.fresh.traps, ap length ended.fresh.traps))
    (omega (arith, begun.turns.2, one, two, ended.labels, ready.labels, last.labels, ap length begun.fresh.traps, ap length last.fresh.traps))
    begun.code begun.fresh (rw (c.deref.ensures.value, begun.on, begun.scope) at first.code) ended.code (rw on1 at ready.ready)
    (body_same self.on inside.result self.scope c.lower_body.new.self.scope l.var.text.items l.body.items c.make_ready.new.self.out c.lower_body-2.new.self.out regs sees body) last.code last.fresh

-- ---- leaf loops

pub leaf_turn-lower_body-requires : goal.leaf_turn-lower_body-requires
leaf_turn-lower_body-requires t c =
    let self = c.args.self.now in
    let l = c.args.l.now in
    let measure : sum_by blocks l.body.items + 3 ≡ t = c.decreases in (
      rw c.deref.ensures.value (omega (arith, measure)),
      rw c.deref.ensures.value (
        c.requires.few_tables,
        (
          c.requires.low,
          (
            omega (arith, c.requires.labels),
            (
              c.requires.room,
              (
                c.requires.cells,
                (
                  c.requires.empty,
                  fits_held self.on self.scope c.args.round
                      (record {
                        cells = self.scope.cells;
                        regs = c.replace-before.new.dest;
                        tables = self.scope.tables;
                        next_label = self.scope.next_label;
                      }) l refl refl c.requires.leaf c.requires.fits,
                ),
              ),
            ),
          ),
        ),
      ),
    )

pub leaf_turn-returns-clause-sees : goal.leaf_turn-returns-clause-sees
leaf_turn-returns-clause-sees t c =
    let self = c.args.self.now in
    let body = c.in_ok-lower_body.ensures in
    let end = c.in_ok-end_leaf.ensures in
    sees_turn self.scope
    (record {
      cells = self.scope.cells;
      regs = c.replace-before.new.dest;
      tables = self.scope.tables;
      next_label = self.scope.next_label;
    }) c.lower_body.new.self.scope c.end_leaf.new.self.scope refl refl body.sees
    (ap (λ (s : Scope). s.cells) end.scope) (ap (λ (s : Scope). s.tables) end.scope)

pub leaf_turn-returns-clause-code : goal.leaf_turn-returns-clause-code
leaf_turn-returns-clause-code t c =
    let self = c.args.self.now in
    let l = c.args.l.now in
    let body = c.in_ok-lower_body.ensures in
    turn_written self.on c.args.round self.scope
    (record {
      cells = self.scope.cells;
      regs = c.replace-before.new.dest;
      tables = self.scope.tables;
      next_label = self.scope.next_label;
    }) l c.args.site.now self.out c.lower_body.new.self.out c.end_leaf.new.self.out refl refl
    (rw c.replace-before.ensures.after c.in_ok-regs.ensures)
    (rw c.deref.ensures.value at body.code) c.in_ok-end_leaf.ensures.code

pub lower_leaf-leaf_turn-requires : goal.lower_leaf-leaf_turn-requires
lower_leaf-leaf_turn-requires t c =
    let self = c.args.self.now in
    let l = c.args.l.now in
    let inside = c.round_inside-inside in
    let begun = c.in_ok-site.ensures in
    let ready = c.make_ready.ensures in
    let measure : sum_by blocks l.body.items + 4 ≡ t = c.decreases in (
      omega (arith, measure),
      rw (ready.on, begun.on, ready.scope, begun.scope) (
        c.requires.few_tables,
        (
          c.requires.low.2,
          (
            omega (arith, begun.labels, ready.labels, c.requires.labels),
            (
              c.requires.room,
              (
                c.requires.cells,
                (
                  record { body = ready.ready.body; traps = ready.ready.traps },
                  (
                    fits_par self.on self.scope c.args.round inside.result l inside.ensures.reduces inside.ensures.depth c.requires.fits,
                    (c.requires.leaf, begun.site.0),
                  ),
                ),
              ),
            ),
          ),
        ),
      ),
    )

pub lower_leaf-leaf_turn-requires-2 : goal.lower_leaf-leaf_turn-requires-2
lower_leaf-leaf_turn-requires-2 t c =
    let self = c.args.self.now in
    let l = c.args.l.now in
    let inside = c.round_inside-inside in
    let begun = c.in_ok-site.ensures in
    let ready = c.make_ready.ensures in
    let first = c.in_ok-leaf_turn.ensures in
    let on = ready.on ∙ begun.on in
    let scope = ready.scope ∙ begun.scope in
    let labels = rw on at first.labels in
    let cells = rw scope at first.cells in
    let sees = rw scope at first.sees in
    let regs = rw scope at first.regs in
    let tables = rw scope at first.tables in
    let measure : sum_by blocks l.body.items + 4 ≡ t = c.decreases in (
      omega (arith, measure),
      rw (first.on ∙ on) (
        rw tables c.requires.few_tables,
        (
          c.requires.low.2,
          (
            omega (arith, begun.labels, ready.labels, labels, c.requires.labels),
            (
              c.requires.room,
              (
                omega (arith, cells, c.requires.cells),
                (
                  fresh_empty c.leaf_turn.new.self.out first.fresh,
                  (
                    inside_later self.on self.scope inside.result c.leaf_turn.new.self.scope l.var.text.items l.body.items regs sees
                        (fits_par self.on self.scope c.args.round inside.result l inside.ensures.reduces inside.ensures.depth c.requires.fits),
                    (c.requires.leaf, begun.site.0),
                  ),
                ),
              ),
            ),
          ),
        ),
      ),
    )

pub lower_leaf-returns-clause-code : goal.lower_leaf-returns-clause-code
lower_leaf-returns-clause-code t c =
    let self = c.args.self.now in
    let l = c.args.l.now in
    let inside = c.round_inside-inside in
    let begun = c.in_ok-site.ensures in
    let ready = c.make_ready.ensures in
    let first = c.in_ok-leaf_turn.ensures in
    let second = c.in_ok-leaf_turn-2.ensures in
    let on = ready.on ∙ begun.on in
    let scope = ready.scope ∙ begun.scope in
    let one = rw on at first.labels in
    let two = rw (first.on ∙ on) at second.labels in
    let sees = rw scope at first.sees in
    leaf_written self.on c.args.round inside.result self.scope l c.in_ok-site.site _ _ self.out c.begin_leaf.new.self.out c.make_ready.new.self.out c.leaf_turn.new.self.out c.leaf_turn-2.new.self.out
    c.requires.leaf (c.requires.fits.still refl) inside.ensures.reduces inside.ensures.depth begun.site.2 begun.site.1
    (omega (arith, ready.labels, one, ap length begun.fresh.traps, ap length first.fresh.traps))
    (omega (arith, ready.labels, one, two, ap length begun.fresh.traps, ap length second.fresh.traps))
    begun.code ready.ready (rw (on, scope) at first.code) first.fresh
    (turn_same self.on inside.result self.scope c.leaf_turn.new.self.scope l c.in_ok-site.site c.leaf_turn.new.self.out c.leaf_turn-2.new.self.out sees (rw (first.on ∙ on) at second.code))
    second.fresh

pub lower_par-lower_leaf-requires : goal.lower_par-lower_leaf-requires
lower_par-lower_leaf-requires t c =
    let leaf : is_leaf c.args.l.now.body.items c.args.l.now.reduces.items ≡ true = sym (rw (c.deref.ensures.value, c.deref-2.ensures.value) at c.if-is_leaf.ensures) in
    let labels = rw leaf at c.requires.labels in
    let measure : sum_by blocks c.args.l.now.body.items + 5 ≡ t = c.decreases in
    (omega (arith, measure), (c.requires.few_tables, (c.requires.low, (labels, (c.requires.room, (c.requires.cells, (c.requires.fits, leaf)))))))

pub lower_if-returns-clause-code : goal.lower_if-returns-clause-code
lower_if-returns-clause-code t c =
    let second = c.next_label.result + c.trap_count.result + c.branch_blocks.result + c.added_by_list.result in
    let exit = second + c.added_by_second.result in
    let test = c.in_ok-choice.ensures in
    let one = c.in_ok-lower_branch.ensures in
    let two = c.in_ok-lower_other.ensures in
    let on = one.on ∙ test.on in
    let first_labels = rw test.on at one.labels in
    let second_labels = rw on at two.labels in
    if_written c.args.self.now.on c.args.round c.args.self.now.scope c.lower_branch.new.self.scope c.args.e.now c.args.body.now c.args.other.now second exit c.args.self.now.out c.choice.new.self.out c.lower_branch.new.self.out c.lower_other.new.self.out
    test.code (rw (test.on, test.scope) at one.code) (rw on at two.code) (rw test.scope at one.regs) (rw test.scope at one.sees) two.fresh
    (omega (arith, test.labels, first_labels, c.added_by_list.ensures, ap length one.fresh.traps))
    (omega (arith, test.labels, first_labels, second_labels, c.added_by_list.ensures, c.added_by_second.ensures, ap length two.fresh.traps))

-- ---- statements

pub lower_stmt-lower_if-requires : goal.lower_stmt-lower_if-requires
lower_stmt-lower_if-requires t c =
    let labels = rw c.in-If.is at c.requires.labels in
    let cells = rw c.in-If.is at c.requires.cells in
    let low = rw c.in-If.is at c.requires.low in
    let room = rw c.in-If.is at c.requires.room in
    let body = c.deref.ensures.value in
    let other = c.deref-in-If.ensures.value in
    let many = length-append (declared_all (hidden-the_row-Stmt-0 c.in-If.body)) (declared_all (hidden-the_row-Stmt-0 c.in-If.other)) in
    let measure : blocks c.args.s.now ≡ t = c.decreases in
    let whole = rw c.in-If.is at measure in (
      rw (body, other) (omega (arith, whole, blocks_of_vec c.in-If.body, blocks_of_vec c.in-If.other)),
      (
        c.requires.few_tables,
        (
          (low.0, rw body (low_of_vec c.in-If.body low.1), rw other (low_of_vec c.in-If.other low.2)),
          (
            rw (body, other) (omega (arith, added_of_vec c.args.self.now.on.quiet_calls c.in-If.body, second_of_vec c.args.self.now.on.quiet_calls c.in-If.other, labels)),
            (
              (
                rw body (room_within c.args.self.now.on _ _ (omega (arith, kept_of_vec c.in-If.body)) room),
                rw other (room_within c.args.self.now.on _ _ (omega (arith, kept_of_vec c.in-If.other)) room),
              ),
              (
                rw (body, other) (omega (arith, many, declared_of_vec c.in-If.body, declared_of_vec c.in-If.other, cells)),
                (
                  rw body (fits_first c.args.self.now.on c.args.self.now.scope c.args.round c.in-If.e c.in-If.body c.in-If.other (rw c.in-If.is at c.requires.fits)),
                  rw other (fits_second c.args.self.now.on c.args.self.now.scope c.args.round c.in-If.e c.in-If.body c.in-If.other (rw c.in-If.is at c.requires.fits)),
                ),
              ),
            ),
          ),
        ),
      ),
    )

pub lower_stmt-lower_while-requires : goal.lower_stmt-lower_while-requires
lower_stmt-lower_while-requires t c =
    let labels = rw c.in-While.is at c.requires.labels in
    let cells = rw c.in-While.is at c.requires.cells in
    let low = rw c.in-While.is at c.requires.low in
    let room = rw c.in-While.is at c.requires.room in
    let body = c.deref-in-While.ensures.value in
    let measure : blocks c.args.s.now ≡ t = c.decreases in
    let whole = rw c.in-While.is at measure in (
      rw body (omega (arith, whole, blocks_of_vec c.in-While.body)),
      (
        c.requires.few_tables,
        (
          (low.0, rw body (low_of_vec c.in-While.body low.1)),
          (rw body (omega (arith, added_of_vec c.args.self.now.on.quiet_calls c.in-While.body, labels)), (rw body (room_within c.args.self.now.on _ _ (omega (arith, kept_of_vec c.in-While.body)) room), (rw body (omega (arith, declared_of_vec c.in-While.body, cells)), rw body (fits_while c.args.self.now.on c.args.self.now.scope c.args.round c.in-While.e c.in-While.body (rw c.in-While.is at c.requires.fits))))),
        ),
      ),
    )

pub lower_stmt-begin_loop-requires-clause-labels : goal.lower_stmt-begin_loop-requires-clause-labels
lower_stmt-begin_loop-requires-clause-labels t c =
    let labels = rw c.in-Loop.is at c.requires.labels in
    rw c.deref-in-Loop.ensures.value (omega (arith, added_of_vec c.args.self.now.on.quiet_calls c.in-Loop.body, labels))

pub lower_stmt-end_loop-requires-clause-labels : goal.lower_stmt-end_loop-requires-clause-labels
lower_stmt-end_loop-requires-clause-labels t c =
    let labels = rw c.in-Loop.is at c.requires.labels in
    let inner = rw (c.deref-in-Loop-2.ensures.value, c.in_ok-turns-in-Loop.ensures.on) at c.in_ok-lower_body-in-Loop.ensures.labels in
    omega (arith, added_of_vec c.args.self.now.on.quiet_calls c.in-Loop.body, labels, inner, c.in_ok-turns-in-Loop.ensures.labels)

pub lower_stmt-lower_body-requires : goal.lower_stmt-lower_body-requires
lower_stmt-lower_body-requires t c =
    let self = c.args.self.now in
    let begun = c.in_ok-turns-in-Loop.ensures in
    let labels = rw c.in-Loop.is at c.requires.labels in
    let cells = rw c.in-Loop.is at c.requires.cells in
    let low = rw c.in-Loop.is at c.requires.low in
    let room = rw c.in-Loop.is at c.requires.room in
    let fits = rw c.in-Loop.is at c.requires.fits in
    let body = c.deref-in-Loop-2.ensures.value in
    let measure : blocks c.args.s.now ≡ t = c.decreases in
    let whole = rw c.in-Loop.is at measure in (
      rw body (omega (arith, whole, blocks_of_vec c.in-Loop.body)),
      rw (begun.on, begun.scope, body) (
        c.requires.few_tables,
        (
          low_of_vec c.in-Loop.body low.2,
          (
            omega (arith, added_of_vec self.on.quiet_calls c.in-Loop.body, labels, begun.labels),
            (
              room_within self.on _ _ (omega (arith, kept_of_vec c.in-Loop.body)) room,
              (
                omega (arith, declared_of_vec c.in-Loop.body, cells),
                (fresh_empty c.begin_loop.new.self.out begun.fresh, fits_loop self.on self.scope c.args.round c.in-Loop.x c.in-Loop.a c.in-Loop.b c.in-Loop.body fits),
              ),
            ),
          ),
        ),
      ),
    )

pub lower_stmt-lower_call-requires-clause-bare : goal.lower_stmt-lower_call-requires-clause-bare
lower_stmt-lower_call-requires-clause-bare t c =
    (rw c.in-Call.is at c.requires.fits.still) refl

pub lower_stmt-lower_both-requires-clause-bare : goal.lower_stmt-lower_both-requires-clause-bare
lower_stmt-lower_both-requires-clause-bare t c =
    (rw c.in-Both.is at c.requires.fits.still) refl

pub lower_stmt-lower_par-requires : goal.lower_stmt-lower_par-requires
lower_stmt-lower_par-requires t c =
    let l = c.in-Par.l in
    let labels = rw c.in-Par.is at c.requires.labels in
    let cells = rw c.in-Par.is at c.requires.cells in
    let low = rw c.in-Par.is at c.requires.low in
    let room = rw c.in-Par.is at c.requires.room in
    let measure : blocks c.args.s.now ≡ t = c.decreases in
    let whole = rw c.in-Par.is at measure in (
      omega (arith, whole, blocks_of_vec l.body),
      (
        c.requires.few_tables,
        (
          (low.0, low.1, low_of_vec l.body low.2),
          (omega (arith, par_of_vec c.args.self.now.on.quiet_calls l.carries.items l.reduces.items l.body, labels), (room_within c.args.self.now.on _ _ (omega (arith, kept_of_vec l.body)) room, (omega (arith, declared_of_vec l.body, cells), rw c.in-Par.is at c.requires.fits))),
        ),
      ),
    )

pub lower_stmt-unreachable-requires : goal.lower_stmt-unreachable-requires
lower_stmt-unreachable-requires t c = (rw c.in-Leave.is at c.requires.fits.fits).0

pub lower_stmt-returns-in-Let-clause-sees : goal.lower_stmt-returns-in-Let-clause-sees
lower_stmt-returns-in-Let-clause-sees t c = on_ok c.lower_let.result (λ h. rw c.in-Let.is h) c.lower_let.ensures.sees

pub lower_stmt-returns-in-Let-clause-code : goal.lower_stmt-returns-in-Let-clause-code
lower_stmt-returns-in-Let-clause-code t c =
    on_ok c.lower_let.result (λ h. rw c.in-Let.is (h c.args.self.now.on c.args.round))
    c.lower_let.ensures.code

pub lower_stmt-returns-in-Set-clause-code : goal.lower_stmt-returns-in-Set-clause-code
lower_stmt-returns-in-Set-clause-code t c =
    on_ok c.lower_set.result (λ h. rw c.in-Set.is (h c.args.self.now.on c.args.round))
    c.lower_set.ensures.code

pub lower_stmt-returns-in-Print-clause-code : goal.lower_stmt-returns-in-Print-clause-code
lower_stmt-returns-in-Print-clause-code t c =
    on_ok c.lower_print.result (λ h. rw c.in-Print.is (h c.args.self.now.on c.args.round _))
    c.lower_print.ensures.code

pub lower_stmt-returns-in-Put-clause-code : goal.lower_stmt-returns-in-Put-clause-code
lower_stmt-returns-in-Put-clause-code t c =
    on_ok c.lower_put.result (λ h. rw c.in-Put.is (h c.args.round)) c.lower_put.ensures.code

pub lower_stmt-returns-in-Call-clause-code : goal.lower_stmt-returns-in-Call-clause-code
lower_stmt-returns-in-Call-clause-code t c =
    on_ok c.lower_call.result (λ h. rw c.in-Call.is (h c.args.round)) c.lower_call.ensures.code

pub lower_stmt-returns-in-Both-clause-code : goal.lower_stmt-returns-in-Both-clause-code
lower_stmt-returns-in-Both-clause-code t c =
    on_ok c.lower_both.result (λ h. rw c.in-Both.is (h c.args.round)) c.lower_both.ensures.code

pub lower_stmt-returns-in-Emit-clause-code : goal.lower_stmt-returns-in-Emit-clause-code
lower_stmt-returns-in-Emit-clause-code t c =
    on_ok c.lower_emit.result (λ h. rw c.in-Emit.is (h c.args.self.now.on c.args.round _))
    c.lower_emit.ensures.code

pub lower_stmt-returns-in-If-clause-labels : goal.lower_stmt-returns-in-If-clause-labels
lower_stmt-returns-in-If-clause-labels t c =
    on_ok c.lower_if.result
    (λ h.
    let inner = rw (c.deref.ensures.value, c.deref-in-If.ensures.value) at h in
    rw c.in-If.is (omega (arith, added_of_vec c.args.self.now.on.quiet_calls c.in-If.body, second_of_vec c.args.self.now.on.quiet_calls c.in-If.other, inner)))
    c.lower_if.ensures.labels

pub lower_stmt-returns-in-While-clause-labels : goal.lower_stmt-returns-in-While-clause-labels
lower_stmt-returns-in-While-clause-labels t c =
    on_ok c.lower_while.result (λ h. let inner = rw c.deref-in-While.ensures.value at h in rw c.in-While.is (omega (arith, added_of_vec c.args.self.now.on.quiet_calls c.in-While.body, inner))) c.lower_while.ensures.labels

pub lower_stmt-returns-in-Par-clause-labels : goal.lower_stmt-returns-in-Par-clause-labels
lower_stmt-returns-in-Par-clause-labels t c =
    on_ok c.lower_par.result (λ h. rw c.in-Par.is (omega (arith, par_of_vec c.args.self.now.on.quiet_calls c.in-Par.l.carries.items c.in-Par.l.reduces.items c.in-Par.l.body, h))) c.lower_par.ensures.labels

pub lower_stmt-returns-in_ok-end_loop-in-Loop-clause-labels : goal.lower_stmt-returns-in_ok-end_loop-in-Loop-clause-labels
lower_stmt-returns-in_ok-end_loop-in-Loop-clause-labels t c =
    let inner = rw (c.deref-in-Loop-2.ensures.value, c.in_ok-turns-in-Loop.ensures.on) at c.in_ok-lower_body-in-Loop.ensures.labels in
    rw c.in-Loop.is (omega (arith, added_of_vec c.args.self.now.on.quiet_calls c.in-Loop.body, inner, c.in_ok-turns-in-Loop.ensures.labels, c.in_ok-end_loop-in-Loop.ensures.labels))

pub lower_stmt-returns-in_ok-end_loop-in-Loop-clause-code : goal.lower_stmt-returns-in_ok-end_loop-in-Loop-clause-code
lower_stmt-returns-in_ok-end_loop-in-Loop-clause-code t c =
    let turns = c.in_ok-turns-in-Loop.turns in
    let begun = c.in_ok-turns-in-Loop.ensures in
    let inside = c.in_ok-lower_body-in-Loop.ensures in
    let end = c.in_ok-end_loop-in-Loop.ensures in
    let body = c.deref-in-Loop-2.ensures.value in
    let size = rw c.deref-in-Loop.ensures.value at begun.exit in
    let behind = rw (body, begun.on) at inside.labels in
    rw c.in-Loop.is
    (loop_written c.args.self.now.on c.args.round c.args.self.now.scope c.in-Loop.x c.in-Loop.a c.in-Loop.b c.in-Loop.body.items turns.level turns.bound turns.again turns.exit
    c.args.self.now.out c.begin_loop.new.self.out c.lower_body.new.self.out c.end_loop.new.self.out begun.level begun.code begun.fresh
    (omega (arith, begun.again, begun.labels, ap length begun.fresh.traps))
    (rw (body, begun.on, begun.scope) at inside.code) end.code end.fresh
    (omega (arith, begun.again, begun.labels, size, behind, end.labels, ap length end.fresh.traps))
    c.in-Loop.body refl)
