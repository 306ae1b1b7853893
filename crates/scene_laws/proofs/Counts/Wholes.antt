-- The blocks of a code stand in it.
use Rattle.std.proofs.Common.{◌≡◌, ℕ, List, [], ◌∷◌, ◌++◌, length, Some, append_assoc, refl, sym}
use Rattle.std.proofs.Common.{ap, subst, ◌∙◌}
use Rattle.std.specs.Prelude.{slice_get}
use Rattle.std.proofs.lemmas.List.{length-append}
use Rattle.tpal_syntax.specs.declared.blocks.Block.{Block}
use Rattle.tpal_syntax.specs.Listing.{Listing}
use Rattle.expr_lower.specs.Standing.{AreAt}

get_behind : (front : List Block) (b : Block) (bs : List Block) → slice_get (front ++ b ∷ bs) (length front) ≡ Some b
get_behind [] b bs = refl
get_behind (x ∷ xs) b bs = get_behind xs b bs

stand_from : (code : Listing) (front blocks : List Block) → code.blocks ≡ front ++ blocks → AreAt code (length front) blocks
stand_from code front [] same = tt
stand_from code front (b ∷ bs) same = (
  ap (λ (all : List Block). slice_get all (length front)) same ∙ get_behind front b bs,
  subst (λ (l : ℕ). AreAt code l bs) (length-append front (b ∷ [])) (stand_from code (front ++ b ∷ []) bs (same ∙ sym (append_assoc front (b ∷ []) bs))),
)

pub stand_whole : (code : Listing) → AreAt code 0 code.blocks
stand_whole code = stand_from code [] code.blocks refl
