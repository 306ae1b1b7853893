use Rattle.std.proofs.Common.{◌≡◌, map, drop}
use Rattle.std.specs.List.{list_all}
use Rattle.tpal_syntax.specs.Parts.{is_word}
use Rattle.tpal_syntax.proofs.conditions.are_words.Given as goal

-- what is left decides
abbrev pub invariant-loop-name : goal.invariant-loop-name
invariant-loop-name l = list_all is_word (map (λ n. n.now) (drop l.name-index l.names)) ≡ list_all is_word (map (λ n. n.now) l.names)
