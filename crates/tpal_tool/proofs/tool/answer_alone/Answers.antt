use Rattle.std.proofs.Common.{sym, subst, ◌∙◌}
use Rattle.tpal_tool.specs.declared.answer.Answer.{Answer}
use Rattle.tpal_tool.specs.declared.prepared.Prepared.{Prepared}
use Rattle.tpal_tool.specs.declared.prepared.Prepared.TheVariants.{Compiled}
use Rattle.tpal_tool.specs.declared.status.Status.{Status}
use Rattle.tpal_tool.specs.Answering.{whole_of}
use Rattle.tpal_tool.specs.Asking.{exec_options_seen, options_seen}
use Rattle.tpal_tool.specs.Owed.{Owed}
use Rattle.tpal_tool.specs.Preparing.{HasWorkers, IsPreparedExec, IsPreparedFor, Prepares}
use Rattle.tpal_tool.specs.Words.{asked_by, workers_asked}
use Rattle.tpal_tool.proofs.ExecFinishing.{executed-owed}
use Rattle.tpal_tool.proofs.Finishing.{ended-owed}
use Rattle.tpal_tool.proofs.tool.answer_alone.Goals as goal

pub returns-in_ok-compiled-in-Compiled-clause-answer : goal.returns-in_ok-compiled-in-Compiled-clause-answer
returns-in_ok-compiled-in-Compiled-clause-answer g c =
    let answer : Answer = c.in_ok-compiled-in-Compiled.field-0 in
    let owed : Prepares (Owed (asked_by c.args.words.now) (g.S.Shelf.text c.args.shelf.now)) (Compiled c.in-Compiled.code) =
    subst (λ (p : Prepared). Prepares (Owed (asked_by c.args.words.now) (g.S.Shelf.text c.args.shelf.now)) p) c.in-Compiled.is c.in_ok-code.ensures.prepared in
    subst (λ (s : Status). Owed (asked_by c.args.words.now) (g.S.Shelf.text c.args.shelf.now) s (whole_of answer.texts)) (sym c.in_ok-compiled-in-Compiled.ensures.status)
    (owed (whole_of answer.texts) c.in_ok-compiled-in-Compiled.ensures.text)

pub run_alone-requires-clause-one : goal.run_alone-requires-clause-one
run_alone-requires-clause-one g c =
    subst (λ (p : Prepared). HasWorkers (workers_asked (asked_by c.args.words.now)) p) c.in-Run.is c.in_ok-code.ensures.workers ∙ c.requires

pub run_alone-requires-clause-first : goal.run_alone-requires-clause-first
run_alone-requires-clause-first g c =
    let prepared : IsPreparedFor (Owed (asked_by c.args.words.now) (g.S.Shelf.text c.args.shelf.now)) c.in-Run.prepared.code c.in-Run.prepared.held.items (options_seen c.in-Run.prepared.options) =
    subst (λ (p : Prepared). Prepares (Owed (asked_by c.args.words.now) (g.S.Shelf.text c.args.shelf.now)) p) c.in-Run.is c.in_ok-code.ensures.prepared in
    (prepared.program, prepared.inputs, prepared.first)

pub returns-in_ok-ran-in-Run-clause-answer : goal.returns-in_ok-ran-in-Run-clause-answer
returns-in_ok-ran-in-Run-clause-answer g c =
    let prepared : IsPreparedFor (Owed (asked_by c.args.words.now) (g.S.Shelf.text c.args.shelf.now)) c.in-Run.prepared.code c.in-Run.prepared.held.items (options_seen c.in-Run.prepared.options) =
    subst (λ (p : Prepared). Prepares (Owed (asked_by c.args.words.now) (g.S.Shelf.text c.args.shelf.now)) p) c.in-Run.is c.in_ok-code.ensures.prepared in
    ended-owed c.in-Run.prepared.code c.in-Run.prepared.held.items (options_seen c.in-Run.prepared.options) prepared c.in_ok-ended-in-Run.ended
    (c.in_ok-ended-in-Run.ensures prepared.program prepared.inputs prepared.first) c.in_ok-ran-in-Run.field-0
    c.in_ok-ran-in-Run.ensures.status c.in_ok-ran-in-Run.ensures.plain c.in_ok-ran-in-Run.ensures.shown

pub run_code-requires : goal.run_code-requires
run_code-requires g c =
    let prepared : IsPreparedExec (Owed (asked_by c.args.words.now) (g.S.Shelf.text c.args.shelf.now)) c.in-Exec.prepared.code c.in-Exec.prepared.held.items (exec_options_seen c.in-Exec.prepared.options) =
    subst (λ (p : Prepared). Prepares (Owed (asked_by c.args.words.now) (g.S.Shelf.text c.args.shelf.now)) p) c.in-Exec.is c.in_ok-code.ensures.prepared in
    prepared.as_many

pub returns-in_ok-executed-in-Exec-clause-answer : goal.returns-in_ok-executed-in-Exec-clause-answer
returns-in_ok-executed-in-Exec-clause-answer g c =
    let prepared : IsPreparedExec (Owed (asked_by c.args.words.now) (g.S.Shelf.text c.args.shelf.now)) c.in-Exec.prepared.code c.in-Exec.prepared.held.items (exec_options_seen c.in-Exec.prepared.options) =
    subst (λ (p : Prepared). Prepares (Owed (asked_by c.args.words.now) (g.S.Shelf.text c.args.shelf.now)) p) c.in-Exec.is c.in_ok-code.ensures.prepared in
    executed-owed c.in-Exec.prepared.code c.in-Exec.prepared.held.items (exec_options_seen c.in-Exec.prepared.options) prepared c.in_ok-ended-in-Exec.ended
    c.in_ok-ended-in-Exec.ensures.code c.in_ok-ended-in-Exec.ensures.report c.in_ok-executed-in-Exec.field-0
    c.in_ok-executed-in-Exec.ensures.status c.in_ok-executed-in-Exec.ensures.text
