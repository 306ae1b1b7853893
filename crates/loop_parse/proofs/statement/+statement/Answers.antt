use Rattle.std.proofs.Common.{◌≡◌, map, Ok, ap, sym, ◌∙◌, arith}
use Rattle.loop_syntax.specs.declared.statement.Stmt.{Stmt}
use Rattle.loop_syntax.specs.declared.statement.Stmt.TheVariants.{Par, rolls-Par}
use Rattle.loop_syntax.specs.declared.statement.Stmt.TheOpen.{ParLoop-F}
use Rattle.loop_syntax.specs.declared.statement.Stmt.TheOpen as layers
use Rattle.loop_syntax.specs.declared.statement.Stmt.TheFolds.{fold-roll-Stmt, fold-roll-ParLoop}
use Rattle.loop_syntax.specs.declared.statement.ParLoop.{ParLoop, roll-ParLoop}
use Rattle.loop_syntax.specs.Tree.{node_of, nodes_of, Node, NPar, ParHead, Nodes, spelled, tree_of}
use Rattle.loop_syntax.specs.Tree.{carry_of, reduce_of, stmt_step, par_step}
use Rattle.loop_parse.specs.Terms.{seen}
use Rattle.loop_parse.specs.Reading.{par_tail, block}
use Rattle.loop_parse.proofs.Complete.{bind_at}
use Rattle.loop_parse.proofs.Steps.{gives_inner}
use Rattle.loop_parse.proofs.statement.+statement.Goals as goal

-- the tree of a parallel loop
par_node : (l : ParLoop-F Stmt ParLoop) →
    node_of (Par (roll-ParLoop l))
    ≡ NPar (record { place = l.place; var = spelled l.var; from = tree_of l.from; to = tree_of l.to; carry_place = l.carry_place; carries = map carry_of l.carries.items; reduces = map reduce_of l.reduces.items }) (nodes_of l.body.items)
par_node l =
    ap node_of (sym (rolls-Par (roll-ParLoop l)))
    ∙ fold-roll-Stmt Node (ParHead × Nodes) stmt_step par_step (layers.Par (roll-ParLoop l))
    ∙ ap (λ (p : ParHead × Nodes). NPar p.0 p.1) (fold-roll-ParLoop Node (ParHead × Nodes) stmt_step par_step l)

pub inner_statements-returns-clause-reads : goal.inner_statements-returns-clause-reads
inner_statements-returns-clause-reads t c =
    gives_inner c.args.source.now (λ x. (map node_of x.0.items, seen c.args.source.now x.1.now)) c.statements.result c.args.level (seen c.args.source.now c.args.tokens.now) c.statements.ensures.reads

pub par_tail-returns-clause-reads : goal.par_tail-returns-clause-reads
unfolding par_tail block
par_tail-returns-clause-reads t c = λ n l.
    bind_at _ (c.in_ok-carry_place.ensures.reads n l)
    (bind_at _ (c.in_ok-reduces.ensures.reads n (omega (arith, l, c.in_ok-carry_place.ensures.no_longer)))
    (bind_at _ (c.in_ok-body.ensures.reads n (omega (arith, l, c.in_ok-carry_place.ensures.no_longer, c.in_ok-reduces.ensures.no_longer)))
    (ap (λ node. Ok (node, seen c.args.source.now c.in_ok-body.rest.now)) (sym (par_node (record { place = c.args.place; var = c.args.var; from = c.args.from; to = c.args.to; carry_place = c.in_ok-carry_place.carry_place; carries = c.in_ok-carry_place.carries; reduces = c.in_ok-reduces.reduces; body = c.in_ok-body.body }))))))
