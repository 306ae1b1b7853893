use Rattle.std.proofs.Common.{rules, arith, sym, ◌∙◌}
use Rattle.std.proofs.lemmas.List.{get_or_default}
use Rattle.steal_pool.proofs.source.Source.steal.Goals as goal

-- the deque at which the loop stands was lost
pub returns-in-Retry-clause-lost : goal.returns-in-Retry-clause-lost
returns-in-Retry-clause-lost g c =
    let others = c.loop-k.self.others.items in
    let other = c.index_mut.result.now in record {
      place = c.loop-k.k;
      near = search rules;
      old = other;
      new = c.steal.new.self;
      was =
          λ d. sym (c.loop-k.invariant.1 c.loop-k.k d (omega arith))
          ∙ (get_or_default others c.loop-k.k d other (search rules)
          ∙ sym c.index_mut.ensures.value);
      is = λ d. search rules;
      answered = search rules;
      taken = search rules;
    }
