use Rattle.std.proofs.Common.{arith, length, ◌<◌, ◌≤◌, [], sym, ◌∙◌}
use Rattle.std.proofs.lemmas.List.{length-map}
use Rattle.std.proofs.lemmas.Bool.{true≢false}
use Rattle.loop_rules.proofs.Indexing.{index_present, index_absent, names_of, named_at}
use Rattle.loop_rules.proofs.scope.index_of.Goals as goal

pub returns-then-k-names : goal.returns-then-k-names
returns-then-k-names c =
    let ns = names_of c.args.names.now in
    let le : length ns ≤ c.in_ok-k.field-0.now = rw length-map c.if-k-names.true in
    index_absent c.args.first.now ns c.args.name.now c.requires c.in_ok-k.field-0.now (sym c.in_ok-k.ensures.value) (λ lt e. omega arith)

pub returns-then-eq : goal.returns-then-eq
returns-then-eq c =
    let ns = names_of c.args.names.now in
    let k = c.in_ok-k.field-0.now in
    let lt : k < length ns = rw length-map c.if-k-names.false in
    let at = named_at c.args.names.now k (record { ref_ptr = (0, 0); now = [] }) c.if-k-names.false in
    index_present c.args.first.now ns c.args.name.now c.requires k (sym c.in_ok-k.ensures.value) lt (rw at (sym c.if-eq.ensures))

pub returns-else-eq : goal.returns-else-eq
returns-else-eq c =
    let ns = names_of c.args.names.now in
    let k = c.in_ok-k.field-0.now in
    let at = named_at c.args.names.now k (record { ref_ptr = (0, 0); now = [] }) c.if-k-names.false in
    index_absent c.args.first.now ns c.args.name.now c.requires k (sym c.in_ok-k.ensures.value)
    (λ lt e. true≢false (sym e ∙ rw at (sym c.if-eq.ensures)))
