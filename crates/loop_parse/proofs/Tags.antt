-- The numbers of words and signs.
use Rattle.std.proofs.Common.{◌≡◌, nat_eq, refl, ap, ◌∙◌}
use Rattle.loop_parse.specs.declared.terminal.Fixed.{Fixed}
use Rattle.loop_parse.specs.declared.terminal.Fixed.TheVariants.{Input}
use Rattle.loop_parse.specs.contracts.terminal.Fixed as contract
use Rattle.loop_parse.specs.Reading.{tag}
use denote.Enum.Declared.{tag_of}

tag_is : (s : Fixed) → tag_of contract.the_type s ≡ tag s
tag_is Input = refl
tag_is _ = refl

pub same_tags : (a b : Fixed) → nat_eq (tag_of contract.the_type a) (tag_of contract.the_type b) ≡ nat_eq (tag a) (tag b)
same_tags a b = ap (λ n. nat_eq n (tag_of contract.the_type b)) (tag_is a) ∙ ap (λ n. nat_eq (tag a) n) (tag_is b)
