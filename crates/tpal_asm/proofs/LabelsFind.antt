-- Labels find the names of blocks.
use Rattle.std.proofs.Common.{◌≡◌, ℕ, suc, List, [], ◌∷◌, length, map, refl, ap, Bor, Bool, arith}
use Rattle.tpal_asm.specs.declared.labels.Labels.{Labels}
use Rattle.tpal_asm.specs.Labels.{Head, heads, names_of, place_of}
use Rattle.tpal_asm.proofs.InsideFaults.{Finds}
use Rattle.tpal_asm.proofs.Finding.{finds-places}

length-heads : (es : List (Bor (List ℕ) × Bool)) → length (map {A = Bor (List ℕ) × Bool} {B = Head} (λ e. (e.0.now, e.1)) es) ≡ length es
length-heads [] = refl
length-heads (e ∷ es) = ap suc (length-heads es)

pub labels-find : (labels : Labels) → Finds (place_of (heads labels.places)) (names_of (heads labels.places)) 4294967295
labels-find labels = finds-places (heads labels.places) 4294967295 labels.words (omega (arith, labels.few, length-heads labels.places.entries))
