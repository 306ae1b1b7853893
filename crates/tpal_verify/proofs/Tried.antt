-- What the definitions answer of the sample codes, by computing.
use Rattle.std.proofs.Common.{◌≡◌, Some, None, [], ◌∷◌, refl}
use Rattle.tpal_syntax.specs.declared.instructions.Instr.TheVariants.{PrmPop, PrmPush}
use Rattle.tpal_verify.specs.Rounds.{settled}
use Rattle.tpal_verify.specs.Breaks.{first_break}
use Rattle.tpal_verify.specs.Sample.{sum, forks_twice, halts_at_end, swapped, goes_back, tests_nil, tests_number, stops, writes_base}

pub sum_passes : first_break sum ≡ None
unfolding settled
sum_passes = refl

pub twice : first_break forks_twice ≡ Some (5, 7, 5)
unfolding settled
twice = refl

pub at_end : first_break halts_at_end ≡ Some (3, 4, 6)
unfolding settled
at_end = refl

pub swaps : first_break swapped ≡ Some (3, 2, 2)
unfolding settled
swaps = refl

pub back : first_break (goes_back (PrmPop 31 0 ∷ PrmPush 31 0 1 2 ∷ [])) ≡ None
unfolding settled
back = refl

pub back_marked : first_break (goes_back (PrmPush 31 0 1 2 ∷ [])) ≡ Some (0, 1, 3)
unfolding settled
back_marked = refl

pub nil : first_break tests_nil ≡ None
unfolding settled
nil = refl

pub number : first_break tests_number ≡ Some (0, 3, 7)
unfolding settled
number = refl

pub stop : first_break stops ≡ None
unfolding settled
stop = refl

pub base : first_break writes_base ≡ Some (1, 0, 1)
unfolding settled
base = refl
