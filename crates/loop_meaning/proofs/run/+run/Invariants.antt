use Rattle.std.proofs.Common.{◌-◌, ◌+◌, ◌*◌, ◌+ℤ◌, pos, drop, []}
use Rattle.loop_meaning.specs.Statements.{run_list, turns, block, iterate}
use Rattle.loop_meaning.specs.Ends.{setting_of, state_of, EndAlike}
use Rattle.loop_meaning.proofs.Weights.{level_of, body_size}
use Rattle.loop_meaning.proofs.run.+run.Given as goal

abbrev pub invariant-run_list-loop-s : goal.invariant-run_list-loop-s
invariant-run_list-loop-s l =
    let k = setting_of l.setting in
    EndAlike (run_list k (drop l.s-index l.body) (state_of l.memory)) (run_list k l.body (state_of l.initial.memory))

abbrev pub invariant-run_while-loop-i : goal.invariant-run_while-loop-i
invariant-run_while-loop-i l =
    let body = block (run_list (setting_of l.setting) l.body) in
    EndAlike (turns (l.turns - l.i) l.setting.fuel l.condition body (state_of l.memory)) (turns l.turns l.setting.fuel l.condition body (state_of l.initial.memory))

abbrev pub invariant-run_iterations-loop-j : goal.invariant-run_iterations-loop-j
invariant-run_iterations-loop-j l =
    let body = run_list (setting_of l.setting) l.body in
    EndAlike (iterate l.setting.fuel l.variable body [] [] (l.n - l.j) (l.first +ℤ pos l.j) (state_of l.memory)) (iterate l.setting.fuel l.variable body [] [] l.n l.first (state_of l.initial.memory))

abbrev pub decreases-run_stmt : goal.decreases-run_stmt
decreases-run_stmt l = level_of l.setting.now + (16 * goal.size-run_stmt l + 4)

abbrev pub decreases-run_list : goal.decreases-run_list
decreases-run_list l = level_of l.setting.now + (16 * goal.size-run_list l + 5)

abbrev pub decreases-run_block : goal.decreases-run_block
decreases-run_block l = level_of l.setting.now + (16 * goal.size-run_block l + 6)

abbrev pub decreases-run_iteration : goal.decreases-run_iteration
decreases-run_iteration l = level_of l.setting.now + (16 * goal.size-run_iteration l + 6)

abbrev pub decreases-run_iterations : goal.decreases-run_iterations
decreases-run_iterations l = level_of l.setting.now + (16 * goal.size-run_iterations l + 7)

abbrev pub decreases-run_while : goal.decreases-run_while
decreases-run_while l = level_of l.setting.now + (16 * goal.size-run_while l + 7)

abbrev pub decreases-run_loop : goal.decreases-run_loop
decreases-run_loop l = level_of l.setting.now + (16 * goal.size-run_loop l + 8)

abbrev pub decreases-run_body : goal.decreases-run_body
decreases-run_body l = level_of l.setting.now + (16 * goal.size-run_body l + 8)

abbrev pub decreases-run_par : goal.decreases-run_par
decreases-run_par l = level_of l.setting.now + (16 * goal.size-run_par l + 9)

abbrev pub decreases-run_both : goal.decreases-run_both
decreases-run_both l = level_of l.setting.now + 3

abbrev pub decreases-run_two : goal.decreases-run_two
decreases-run_two l = level_of l.setting.now + 2

abbrev pub decreases-run_call : goal.decreases-run_call
decreases-run_call l = level_of l.setting.now + 2

abbrev pub decreases-call : goal.decreases-call
decreases-call l = level_of l.setting.now + 1

abbrev pub decreases-enter : goal.decreases-enter
decreases-enter l = level_of l.setting.now + (16 * body_size l.func.now + 6)
