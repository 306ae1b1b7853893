use Rattle.std.proofs.Common.{◌≡◌, List, [], ◌∷◌, ◌++◌, ap, subst, ◌∙◌}
use Rattle.tpal_syntax.specs.declared.blocks.Block.{Block}
use Rattle.handler_gen.specs.LeafBlocks.{start_block}
use Rattle.block_lower.specs.Writing.{Appends}
use Rattle.block_lower.proofs.Written.Placed.{leaf_start_conforms}
use Rattle.block_lower.proofs.lowering.Lowering.push_leaf_start.Goals as goal

pub returns-clause-code : goal.returns-clause-code
returns-clause-code c =
    let none : c.new-blocks.result.items ≡ [] = c.new-blocks.ensures.items in
    let all : c.push.new.self.items ≡ start_block c.args.site.now c.args.first ∷ [] =
    c.in_ok-push.ensures.items
    ∙ ap (λ (bs : List Block). bs ++ c.in_ok-start.start ∷ []) none
    ∙ ap (λ (b : Block). b ∷ []) c.in_ok-start.ensures.block in
    subst (λ (bs : List Block). Appends bs c.args.self.now.out c.append.new.self.out) all
    c.in_ok-append.ensures.appended

pub returns-clause-fit : goal.returns-clause-fit
returns-clause-fit c =
    leaf_start_conforms c.args.self.now c.append.new.self c.args.site.now c.args.first
    c.requires.site (returns-clause-code c) c.in_ok-append.ensures.on c.in_ok-append.ensures.scope
