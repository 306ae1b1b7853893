use Rattle.std.proofs.Common.{◌≡◌, ◌<◌, ◌≤◌, ◌-◌, ◌+◌, sym, ◌∙◌, arith, rules, SFits, refl, suc, []}
use Rattle.std.proofs.Common.{◌∷◌, Some, None, pos}
use Rattle.std.specs.Int.{w64}
use Rattle.std.proofs.lemmas.Int.{to_z-of_z}
use Rattle.tp_value.specs.declared.limits.TheConstants.{MAX_CALL_DEPTH}
use Rattle.tp_value.specs.declared.Stop.TheVariants.{Done}
use Rattle.loop_meaning.specs.declared.argument.Numbers.TheVariants.{All}
use Rattle.loop_meaning.specs.State.{Chance}
use Rattle.loop_meaning.specs.Statements.{run_list, block}
use Rattle.loop_meaning.specs.Ends.{setting_of, state_of, NumbersOf}
use Rattle.loop_meaning.proofs.Runs.{ok_map, run_then, run_else, run_while_is, run_loop_is}
use Rattle.loop_meaning.proofs.Runs.{run_par_is, while_trap, while_zero, while_spent, while_stopped}
use Rattle.loop_meaning.proofs.Runs.{while_again, turns_out, iterate_on, iterate_stopped}
use Rattle.loop_meaning.proofs.Runs.{iterate_end, offset_is, ends_alike, ends_unlike, alike_trans}
use Rattle.loop_meaning.proofs.Runs.{alike_back}
use Rattle.loop_meaning.proofs.Weights.{level, level_falls}
use Rattle.loop_meaning.proofs.Calls.{call_spent, call_deep, call_enters, call_notes, both_notes}
use Rattle.loop_meaning.proofs.run.+run.Goals as goal

pub run_stmt-returns-then-n-ne0 : goal.run_stmt-returns-then-n-ne0
run_stmt-returns-then-n-ne0 t c =
    let k = setting_of c.args.setting.now in
    let s = state_of c.args.memory.now in
    let h = sym c.value_of.ensures ∙ c.in-Number.is in
    ok_map c.run_block.result
    (λ x f. run_then k c.args.statement.now c.in-If.e c.in-If.body c.in-If.other s c.in-Number.n c.in-If.is h x _ c.if-n-ne0.true
    (rw c.deref.ensures.value at f)) c.run_block.ensures

pub run_stmt-returns-else-n-ne0 : goal.run_stmt-returns-else-n-ne0
run_stmt-returns-else-n-ne0 t c =
    let k = setting_of c.args.setting.now in
    let s = state_of c.args.memory.now in
    let h = sym c.value_of.ensures ∙ c.in-Number.is in
    let r : SFits w64 c.in-Number.n = search rules in
    ok_map c.run_block-else-n-ne0.result
    (λ x f. run_else k c.args.statement.now c.in-If.e c.in-If.body c.in-If.other s c.in-Number.n c.in-If.is h x _ r c.if-n-ne0.false
    (rw c.deref-else-n-ne0.ensures.value at f)) c.run_block-else-n-ne0.ensures

pub run_stmt-returns-in-While : goal.run_stmt-returns-in-While
run_stmt-returns-in-While t c =
    let k = setting_of c.args.setting.now in
    let s = state_of c.args.memory.now in
    ok_map c.run_while.result
    (λ x f. rw (run_while_is k c.args.statement.now c.in-While.e c.in-While.body s c.in-While.is) (rw c.deref-in-While.ensures.value at f))
    c.run_while.ensures

pub run_stmt-returns-in-Loop : goal.run_stmt-returns-in-Loop
run_stmt-returns-in-Loop t c =
    let k = setting_of c.args.setting.now in
    let s = state_of c.args.memory.now in
    ok_map c.run_loop.result
    (λ x f. rw (run_loop_is k c.args.statement.now c.in-Loop.x c.in-Loop.a c.in-Loop.b c.in-Loop.body s c.in-Loop.is) (rw c.deref-in-Loop.ensures.value at f))
    c.run_loop.ensures

pub run_stmt-returns-in-Par : goal.run_stmt-returns-in-Par
run_stmt-returns-in-Par t c =
    let k = setting_of c.args.setting.now in
    let s = state_of c.args.memory.now in
    ok_map c.run_par.result (λ x f. ends_alike (run_par_is k c.args.statement.now c.in-Par.l s c.in-Par.is) f) c.run_par.ensures

pub run_stmt-returns-in-Both : goal.run_stmt-returns-in-Both
run_stmt-returns-in-Both t c = ok_map c.run_both.result (λ x f. rw c.in-Both.is f) c.run_both.ensures

pub run_while-returns-then-n-eq0 : goal.run_while-returns-then-n-eq0
run_while-returns-then-n-eq0 t c =
    let n = c.args.setting.now.fuel + 1 in
    let body = block (run_list (setting_of c.args.setting.now) c.args.body.now) in
    let h = sym c.value_of.ensures ∙ c.in-Number.is in
    let r : SFits w64 c.in-Number.n = search rules in
    ends_unlike c.loop-i.invariant (while_zero n c.loop-i.i c.args.setting.now.fuel c.args.condition.now body (state_of c.loop-i.memory) c.loop-i-test.true c.in-Number.n r c.if-n-eq0.true h)

pub run_while-returns-in-Traps : goal.run_while-returns-in-Traps
run_while-returns-in-Traps t c =
    let n = c.args.setting.now.fuel + 1 in
    let body = block (run_list (setting_of c.args.setting.now) c.args.body.now) in
    let h = sym c.value_of.ensures ∙ c.in-Traps.is in
    ends_unlike c.loop-i.invariant (while_trap n c.loop-i.i c.args.setting.now.fuel c.args.condition.now body (state_of c.loop-i.memory) c.loop-i-test.true c.in-Traps.kind c.in-Traps.place h)

pub run_while-returns-in_default : goal.run_while-returns-in_default
run_while-returns-in_default t c =
    let n = c.args.setting.now.fuel + 1 in
    let body = block (run_list (setting_of c.args.setting.now) c.args.body.now) in
    let h = sym c.value_of.ensures ∙ c.in-Number.is in
    ends_unlike c.loop-i.invariant (while_spent n c.loop-i.i c.args.setting.now.fuel c.args.condition.now body (state_of c.loop-i.memory) c.loop-i-test.true c.in-Number.n _ _ c.if-n-eq0.false h c.count_tick.ensures c.in_default.not-Done)

pub run_while-returns-in_default-2 : goal.run_while-returns-in_default-2
run_while-returns-in_default-2 t c =
    let n = c.args.setting.now.fuel + 1 in
    let body = block (run_list (setting_of c.args.setting.now) c.args.body.now) in
    let h = sym c.value_of.ensures ∙ c.in-Number.is in
    let f = rw c.in-Done.is at c.count_tick.ensures in
    ends_unlike c.loop-i.invariant (while_stopped n c.loop-i.i c.args.setting.now.fuel c.args.condition.now body (state_of c.loop-i.memory) c.loop-i-test.true c.in-Number.n _ _ _ c.if-n-eq0.false h f c.in_ok-stop.ensures c.in_default-2.not-Done)

pub run_while-loop-i-preserved : goal.run_while-loop-i-preserved
run_while-loop-i-preserved t c =
    let n = c.args.setting.now.fuel + 1 in
    let body = block (run_list (setting_of c.args.setting.now) c.args.body.now) in
    let h = sym c.value_of.ensures ∙ c.in-Number.is in
    let f = rw c.in-Done.is at c.count_tick.ensures in
    let g = rw c.in-Done-2.is at c.in_ok-stop.ensures in
    alike_trans (alike_back (while_again n c.loop-i.i c.args.setting.now.fuel c.args.condition.now body (state_of c.loop-i.memory) c.loop-i-test.true c.in-Number.n _ _ c.if-n-eq0.false h f g)) c.loop-i.invariant

pub run_while-returns : goal.run_while-returns
run_while-returns t c =
    let n = c.args.setting.now.fuel + 1 in
    let body = block (run_list (setting_of c.args.setting.now) c.args.body.now) in
    ends_unlike c.loop-i.invariant (turns_out n c.loop-i.i c.args.setting.now.fuel c.args.condition.now body (state_of c.loop-i.memory) c.loop-i-test.false)

pub run_iterations-returns-in_default : goal.run_iterations-returns-in_default
run_iterations-returns-in_default t c =
    let body = run_list (setting_of c.args.setting.now) c.args.body.now in
    let inv = simp (to_z-of_z, c.ranges.first) at c.loop-j.invariant in
    let le : c.loop-j.j ≤ c.args.n = omega arith in
    let fit : SFits w64 c.wrapping_add_unsigned.result = search rules in
    let number = simp (to_z-of_z, c.ranges.first) at c.wrapping_add_unsigned.ensures ∙ offset_is c.args.first c.loop-j.j c.args.n c.ranges.first c.requires le in
    let f = rw number at (simp (to_z-of_z, fit) at c.in_ok-stop.ensures) in
    ends_unlike inv (iterate_stopped c.args.n c.loop-j.j c.args.setting.now.fuel c.args.variable.now body c.args.first (state_of c.loop-j.memory) c.loop-j-test.true _ _ f c.in_default.not-Done)

pub run_iterations-loop-j-preserved : goal.run_iterations-loop-j-preserved
run_iterations-loop-j-preserved t c =
    let body = run_list (setting_of c.args.setting.now) c.args.body.now in
    let inv = simp (to_z-of_z, c.ranges.first) at c.loop-j.invariant in
    let le : c.loop-j.j ≤ c.args.n = omega arith in
    let fit : SFits w64 c.wrapping_add_unsigned.result = search rules in
    let number = simp (to_z-of_z, c.ranges.first) at c.wrapping_add_unsigned.ensures ∙ offset_is c.args.first c.loop-j.j c.args.n c.ranges.first c.requires le in
    let f = rw (number, c.in-Done.is) at (simp (to_z-of_z, fit) at c.in_ok-stop.ensures) in
    simp (to_z-of_z, c.ranges.first)
    (alike_trans (alike_back (iterate_on c.args.n c.loop-j.j c.args.setting.now.fuel c.args.variable.now body c.args.first (state_of c.loop-j.memory) c.loop-j-test.true _ f)) inv)

pub run_iterations-returns : goal.run_iterations-returns
run_iterations-returns t c =
    let body = run_list (setting_of c.args.setting.now) c.args.body.now in
    let inv = simp (to_z-of_z, c.ranges.first) at c.loop-j.invariant in
    ends_unlike inv (iterate_end c.args.n c.loop-j.j c.args.setting.now.fuel c.args.variable.now body _ (state_of c.loop-j.memory) c.loop-j-test.false)

pub call-enter-requires : goal.call-enter-requires
call-enter-requires t c =
    let fs = c.args.setting.now.program.now.funcs.items in
    let e = rw c.deref.ensures.value at c.in-Some.ensures in
    let lt : c.args.setting.now.depth < 10000 = omega arith in
    let d : level fs c.args.setting.now.depth + 1 ≡ t = c.decreases in
    let p = level_falls fs c.args.callee.now.text.items c.in-Some.g.now c.args.setting.now.depth e lt in
    (rw d at p, tt)

pub call-returns-in_default : goal.call-returns-in_default
call-returns-in_default t c =
    rw c.stopped.ensures.stop
    (call_spent c.args.setting.now.program.now.funcs.items c.args.setting.now.fuel (MAX_CALL_DEPTH - c.args.setting.now.depth) c.args.callee.now.text.items c.args.callee.now.place c.args.arguments.now [] (state_of c.args.memory.now) _ _ _ c.count_tick.ensures c.in_default.not-Done)

pub call-returns-then-setting-ge-MAX_CALL_DEPTH : goal.call-returns-then-setting-ge-MAX_CALL_DEPTH
call-returns-then-setting-ge-MAX_CALL_DEPTH t c =
    let z : MAX_CALL_DEPTH - c.args.setting.now.depth ≡ 0 = omega arith in
    rw c.stopped-then-setting-ge-MAX_CALL_DEPTH.ensures.stop
    (call_deep c.args.setting.now.program.now.funcs.items c.args.setting.now.fuel (MAX_CALL_DEPTH - c.args.setting.now.depth) c.args.callee.now.text.items c.args.callee.now.place c.args.arguments.now [] (state_of c.args.memory.now) _ _ z (rw c.in-Done.is at c.count_tick.ensures))

pub call-returns-in-Some : goal.call-returns-in-Some
call-returns-in-Some t c =
    let z : MAX_CALL_DEPTH - c.args.setting.now.depth ≡ suc (MAX_CALL_DEPTH - (c.args.setting.now.depth + 1)) = omega arith in
    let e = rw c.deref.ensures.value at c.in-Some.ensures in
    ok_map c.enter.result
    (λ r f. call_enters c.args.setting.now.program.now.funcs.items c.args.setting.now.fuel (MAX_CALL_DEPTH - c.args.setting.now.depth) c.args.callee.now.text.items c.args.callee.now.place c.args.arguments.now [] (state_of c.args.memory.now)
    (MAX_CALL_DEPTH - (c.args.setting.now.depth + 1)) (Some c.in-Some.g.now) _ r.stop r.value _ z e (rw c.in-Done.is at c.count_tick.ensures) f)
    c.enter.ensures

pub call-returns-in-None : goal.call-returns-in-None
call-returns-in-None t c =
    let z : MAX_CALL_DEPTH - c.args.setting.now.depth ≡ suc (MAX_CALL_DEPTH - (c.args.setting.now.depth + 1)) = omega arith in
    let e = rw c.deref.ensures.value at c.in-None.ensures in
    rw (c.stopped-in-None.ensures.stop, c.stopped-in-None.ensures.value)
    (call_enters c.args.setting.now.program.now.funcs.items c.args.setting.now.fuel (MAX_CALL_DEPTH - c.args.setting.now.depth) c.args.callee.now.text.items c.args.callee.now.place c.args.arguments.now [] (state_of c.args.memory.now)
    (MAX_CALL_DEPTH - (c.args.setting.now.depth + 1)) None (state_of c.count_tick.new.memory) Done (pos 0) (state_of c.count_tick.new.memory) z e (rw c.in-Done.is at c.count_tick.ensures)
    (record { ran = record { stop = refl; state = refl }; value = λ h. refl }))

pub run_both-returns-in-All-2 : goal.run_both-returns-in-All-2
run_both-returns-in-All-2 t c =
    let k = setting_of c.args.setting.now in
    let s = state_of c.args.memory.now in
    let a : NumbersOf c.args.application.now.args.items s (All c.in-All.ns) = rw (c.in-All.is, c.deref.ensures.value) at c.in_ok-ns.ensures in
    let b : NumbersOf c.args.second_application.now.args.items s (All c.in-All-2.ms) = rw (c.in-All-2.is, c.deref-in-All.ensures.value) at c.in_ok-ms-in-All.ensures in
    let n = both_notes k c.args.target.now c.args.application.now.callee c.in-All.ns.items c.args.second_target.now c.args.second_application.now.callee c.in-All-2.ms.items (Chance ∷ []) s
    (call_notes c.args.setting.now.program.now.funcs.items c.args.setting.now.fuel (MAX_CALL_DEPTH - c.args.setting.now.depth) c.args.application.now.callee.text.items c.args.application.now.callee.place c.in-All.ns.items (Chance ∷ []) s) in
    ok_map c.run_two.result
    (λ y f. ends_alike (alike_trans (a _) (alike_trans (b _) n)) (rw (c.deref-in-All-2.ensures.value, c.deref-in-All-2-2.ensures.value) at f))
    c.run_two.ensures
