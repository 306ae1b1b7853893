-- Cells of a scope, where variables become visible and leave.
use Rattle.std.proofs.Common.{◌≡◌, ℕ, zero, suc, ◌+◌, List, [], ◌∷◌, ◌++◌, length, take, map, Vec}
use Rattle.std.proofs.Common.{refl, ap, arith}
use Rattle.std.specs.declared.alloc.Global.{Global}
use Rattle.scene_laws.specs.Layout.{value_cell}
use Rattle.scene_laws.specs.Names.{AreLaid}

abbrev Cell : Type 0
Cell = Vec ℕ Global × ℕ

pub names_take_cells : (n : ℕ) (cs : List (Vec ℕ Global × ℕ)) → map (λ (c : Vec ℕ Global × ℕ). c.0.items) (take n cs) ≡ take n (map (λ (c : Vec ℕ Global × ℕ). c.0.items) cs)
names_take_cells zero [] = refl
names_take_cells zero (c ∷ cs) = refl
names_take_cells (suc n) [] = refl
names_take_cells (suc n) (c ∷ cs) = ap (λ ns. c.0.items ∷ ns) (names_take_cells n cs)

pub laid_take : (n level : ℕ) (cs : List (Vec ℕ Global × ℕ)) → AreLaid level cs → AreLaid level (take n cs)
laid_take zero level [] h = tt
laid_take zero level (c ∷ cs) h = tt
laid_take (suc n) level [] h = tt
laid_take (suc n) level (c ∷ cs) h = (h.0, laid_take n (suc level) cs h.1)

pub laid_push : (level : ℕ) (cs : List (Vec ℕ Global × ℕ)) (c : Vec ℕ Global × ℕ) → c.1 ≡ value_cell (level + length cs) → AreLaid level cs → AreLaid level (cs ++ c ∷ [])
laid_push level [] c is h = let e : level + 0 ≡ level = omega arith in (rw e at is, tt)
laid_push level (d ∷ ds) c is h =
    let e : level + suc (length ds) ≡ suc level + length ds = omega arith in
    (h.0, laid_push (suc level) ds c (rw e at is) h.1)
