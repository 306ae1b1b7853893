-- The definitions, computed where the answers are known.
use Rattle.std.proofs.Common.{◌≡◌, pos, [], ◌∷◌, map, refl}
use Rattle.sample_gen.specs.Cells.{state_after, sample_rows}

pub states_of_1 :
    map (state_after 1) (1 ∷ 2 ∷ 3 ∷ 4 ∷ [])
    ≡ 1015568748 ∷ 1586005467 ∷ 2165703038 ∷ 3027450565 ∷ []
unfolding state_after
states_of_1 = refl

pub cells_of_1 : sample_rows 1 2 2 ≡ (pos 496 ∷ pos 200 ∷ []) ∷ (pos 46 ∷ pos 195 ∷ []) ∷ []
unfolding state_after
cells_of_1 = refl
