use Rattle.std.proofs.Common.{ap, sym, subst, ◌∙◌}
use Rattle.std.specs.Prelude.{Option, IfErr, IfOk, option_map}
use Rattle.tpal_tool.specs.Answering.{IsFaultOf, OwesRefusal}
use Rattle.tpal_tool.specs.Asking.{command_of}
use Rattle.tpal_tool.specs.Owed.{Owed, ReadFailed}
use Rattle.tpal_tool.specs.Preparing.{HasWorkers, Prepares}
use Rattle.tpal_tool.specs.Words.{Command, workers_asked}
use Rattle.tpal_tool.proofs.preparing.prepare.Goals as goal

pub returns-in-Some-clause-prepared : goal.returns-in-Some-clause-prepared
returns-in-Some-clause-prepared g c =
    subst (λ (o : Option Command). IfOk c.prepare_request.result (Prepares (Owed o (g.S.Shelf.text c.args.shelf.now))))
    (ap (option_map command_of) (sym c.in-Some.is) ∙ c.asked.ensures) c.prepare_request.ensures.prepared

pub returns-in-Some-clause-workers : goal.returns-in-Some-clause-workers
returns-in-Some-clause-workers g c =
    subst (λ (o : Option Command). IfOk c.prepare_request.result (HasWorkers (workers_asked o)))
    (ap (option_map command_of) (sym c.in-Some.is) ∙ c.asked.ensures) c.prepare_request.ensures.workers

pub returns-in-Some-clause-fault : goal.returns-in-Some-clause-fault
returns-in-Some-clause-fault g c =
    subst (λ (o : Option Command). IfErr c.prepare_request.result (IsFaultOf (OwesRefusal (Owed o (g.S.Shelf.text c.args.shelf.now))) (ReadFailed o (g.S.Shelf.text c.args.shelf.now) (g.S.Shelf.faults c.args.shelf.now) (g.S.Shelf.faults c.prepare_request.new.shelf))))
    (ap (option_map command_of) (sym c.in-Some.is) ∙ c.asked.ensures) c.prepare_request.ensures.fault
