use Rattle.std.proofs.Common.{rules, ◌≡◌, ◌∙◌, ap, subst, IfOk}
use Rattle.tpal_verify.specs.Flat.{ground_of, cells_of, mark_of}
use Rattle.tpal_verify.specs.Rounds.{all_joins, traces, least}
use Rattle.tpal_verify.specs.Breaks.{listed, lists_agree}
use Rattle.tpal_verify.proofs.Naming.{first_is}
use Rattle.tpal_verify.proofs.breaks.first_break.Goals as goal

pub returns : goal.returns
returns c =
    let whole = c.new-ground.result in
    let found = c.deref-2.result.now in
    let is_whole : whole ≡ ground_of c.args.code.now =
    c.new-ground.ensures ∙ ap (λ bs. record { blocks = bs; cells = cells_of bs; mark = mark_of bs }) c.blocks-2.ensures.blocks in
    let least : found ≡ traces whole (least whole) = search rules in
    let agree : c.in_ok-agree.agree ≡ lists_agree (all_joins found) (listed whole.blocks) = search rules in
    subst (λ x. IfOk c.first_from.result (λ b. b ≡ x)) (first_is c.args.code.now whole c.in_ok-agree.agree found is_whole least agree) c.first_from.ensures
