use Rattle.std.proofs.Common.{rules, arith, ap, sym, subst, ◌≡◌, ◌∙◌, ◌∷◌, ◌++◌, [], All, length, ℕ}
use Rattle.std.proofs.lemmas.List.Elements.{All-append, All-cons, All-nil}
use Rattle.join_records.specs.Passes.{IsPassOf, NewView, view}
use Rattle.join_records.proofs.Calls.{last_before, last_here, last_total}
use Rattle.join_records.proofs.Functions.{length_more}
use Rattle.steal_pool.specs.declared.desk.Work.TheVariants as work
use Rattle.steal_pool.specs.Facts.{Owed}
use Rattle.steal_pool.specs.Has.{Has, IsRooted}
use Rattle.steal_pool.proofs.Beginning.{first_begins, idle_begins, idle_view, starts}
use Rattle.steal_pool.proofs.Tying.{left_meet, left_tied, more_tied}
use Rattle.steal_pool.proofs.crew.make_workers.Goals as goal

-- a worker that begins with nothing
pub loop-passes-preserved : goal.loop-passes-preserved
loop-passes-preserved g c =
    let terms = g.S.RunTerms.terms in
    let table = c.args.plan.now.records.now in
    let p = c.in-Some-Some.pass in
    let xs = c.pop.new.self.items in
    let last = c.in-Some-Some.ensures.items in
    let kept = c.loop-passes.invariant in
    let many = c.loop-passes-test.true in
    let short = ap length last ∙ length_more _ _ in
    let e = kept.0.0 in
    let here = kept.0.2 (length xs) p (last_here _ xs p last) in
    let idle = idle_view e (length c.args.passes.items) (length xs) (view p) (omega arith) here.1 in
    let made = c.make_worker.ensures in
    let worker = c.make_worker.result in
    let others = c.loop-passes.workers.items in
    let new : c.push.new.self.items ≡ others ++ worker ∷ [] = search rules in
    let owed =
    subst (λ t. Owed terms.code terms.heartbeat t e) c.requires.first kept.0.1 in
    let fits : _ → Type 0 =
    λ w. IsPassOf table w.desk.pass
    × Has terms (view w.desk.pass) w.desk.taken w.desk.counts w.desk.work
    × IsRooted terms (view w.desk.pass) in
    let mine : fits worker =
    starts terms table p worker.desk.pass worker.desk.taken worker.desk.counts worker.desk.work
    work.Nothing made.pass made.work made.taken made.counts here.0
    (idle_begins terms e (length xs) (view p) idle)
    record { ending = e; root = idle.3.1; owed = owed } in
    let parts : (view worker.desk.pass).parts ≡ 1 =
    ap (λ q. (view q).parts) made.pass ∙ idle.0 in
    let sum = last_total (λ w. (view w.desk.pass).parts) _ others worker new in
    let long = ap length new ∙ length_more others worker in
    let all_parts = kept.2 in
    let all_count = kept.3 in
    let sources = kept.4 in
    let from = c.in-Some-Some.ensures'.items in
    let source = c.in-Some-Some.source in
    let taken = ap length from ∙ length_more _ _ in (
      (e, kept.0.1, λ j y at. kept.0.2 j y (last_before _ xs p last j y at)),
      subst (All fits) (sym new) (All-append fits others (worker ∷ []) kept.1 (All-cons fits worker [] mine (All-nil fits))),
      omega arith,
      omega arith,
      omega arith,
      omega arith,
      left_tied (λ w. w.source) others c.push.new.self.items worker c.loop-passes.sources.items _ source new from made.source kept.6 kept.7 kept.8,
      left_meet (λ w. w.source) others c.push.new.self.items worker c.loop-passes.sources.items _ source new from made.source kept.6 kept.7 kept.8,
      more_tied (λ w. w.source) others c.push.new.self.items worker c.loop-passes.sources.items _ source new from made.source kept.6 kept.7 kept.8,
    )

-- the worker with the first task
pub returns-clause-each : goal.returns-clause-each
returns-clause-each g c =
    let terms = g.S.RunTerms.terms in
    let table = c.args.plan.now.records.now in
    let p = c.in-Some-Some-2.pass in
    let xs = c.pop-2.new.self.items in
    let last = c.in-Some-Some-2.ensures.items in
    let kept = c.loop-passes.invariant in
    let one = c.loop-passes-test.false in
    let some = kept.5 in
    let short = ap length last ∙ length_more _ _ in
    let none : length xs ≡ 0 = omega arith in
    let e = kept.0.0 in
    let here = kept.0.2 (length xs) p (last_here _ xs p last) in
    let count = length c.args.passes.items in
    let root = subst (λ (k : ℕ). NewView e count k (view p)) none here.1 in
    let made = c.make_worker-2.ensures in
    let worker = c.make_worker-2.result in
    let others = c.loop-passes.workers.items in
    let new : c.push-2.new.self.items ≡ others ++ worker ∷ [] = search rules in
    let owed =
    subst (λ t. Owed terms.code terms.heartbeat t e) c.requires.first kept.0.1 in
    let fits : _ → Type 0 =
    λ w. IsPassOf table w.desk.pass
    × Has terms (view w.desk.pass) w.desk.taken w.desk.counts w.desk.work
    × IsRooted terms (view w.desk.pass) in
    let mine : fits worker =
    starts terms table p worker.desk.pass worker.desk.taken worker.desk.counts worker.desk.work
    (work.Runs c.args.first) made.pass made.work made.taken made.counts here.0
    (first_begins terms e count (view p) c.args.first root kept.0.1 c.requires.end)
    record { ending = e; root = root.2.1; owed = owed } in
    subst (All fits) (sym new) (All-append fits others (worker ∷ []) kept.1 (All-cons fits worker [] mine (All-nil fits)))

-- the last source is that of the worker with the first task
pub returns-clause-tied : goal.returns-clause-tied
returns-clause-tied g c =
    let kept = c.loop-passes.invariant in
    let others = c.loop-passes.workers.items in
    let worker = c.make_worker-2.result in
    let new : c.push-2.new.self.items ≡ others ++ worker ∷ [] = search rules in
    more_tied (λ w. w.source) others c.push-2.new.self.items worker c.loop-passes.sources.items _
    c.in-Some-Some-2.source new c.in-Some-Some-2.ensures'.items c.make_worker-2.ensures.source
    kept.6 kept.7 kept.8

pub returns-clause-parts : goal.returns-clause-parts
returns-clause-parts g c =
    let p = c.in-Some-Some-2.pass in
    let xs = c.pop-2.new.self.items in
    let last = c.in-Some-Some-2.ensures.items in
    let kept = c.loop-passes.invariant in
    let one = c.loop-passes-test.false in
    let some = kept.5 in
    let short = ap length last ∙ length_more _ _ in
    let none : length xs ≡ 0 = omega arith in
    let e = kept.0.0 in
    let here = kept.0.2 (length xs) p (last_here _ xs p last) in
    let count = length c.args.passes.items in
    let root = subst (λ (k : ℕ). NewView e count k (view p)) none here.1 in
    let worker = c.make_worker-2.result in
    let others = c.loop-passes.workers.items in
    let new : c.push-2.new.self.items ≡ others ++ worker ∷ [] = search rules in
    let sum = last_total (λ w. (view w.desk.pass).parts) _ others worker new in
    let parts = ap (λ q. (view q).parts) c.make_worker-2.ensures.pass in
    let first = root.0 in
    let all_parts = kept.2 in
    let all_count = kept.3 in
    omega arith
