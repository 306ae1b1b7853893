-- Blocks that are named for their labels have names that differ.
use Rattle.std.proofs.Common.{◌≡◌, ℕ, suc, ◌+◌, ◌<◌, ◌≤◌, ◌^◌, All, List, [], ◌∷◌, length, map, drop}
use Rattle.std.proofs.Common.{ap, subst, sym, arith}
use Rattle.std.proofs.lemmas.Fmt.{decimal_injective}
use Rattle.std.proofs.lemmas.List.Elements.{All-cons, All-nil}
use Rattle.std.proofs.lemmas.List.Kept.{AllPairs-cons}
use Rattle.std.specs.Prelude.{◌≢◌, AllPairs}
use Rattle.tpal_syntax.specs.Conditions.{AreDistinct, block_names}
use Rattle.tpal_syntax.specs.declared.blocks.Block.{Block}
use Rattle.expr_lower.specs.Bodies.{name_of}
use Rattle.block_lower.specs.Conforming.{AreNamed}

names_differ : (label other : ℕ) → label < other → other < 2 ^ 64 → name_of label ≢ name_of other
names_differ label other less small same =
    let is : label ≡ other =
    decimal_injective label other (omega (arith, less, small)) small
    (ap (λ (name : List ℕ). drop 1 name) same) in
    absurd (omega (arith, less, is))

others_differ : (label at : ℕ) (blocks : List Block) → label < at → at + length blocks < 2 ^ 64
    → AreNamed at blocks → All (λ name. name_of label ≢ name) (block_names blocks)
others_differ label at [] less small named = All-nil (λ name. name_of label ≢ name)
others_differ label at (b ∷ bs) less small named =
    let many : at + suc (length bs) < 2 ^ 64 = small in
    All-cons (λ name. name_of label ≢ name) b.name (block_names bs)
    (subst (λ (name : List ℕ). name_of label ≢ name) (sym named.0)
    (names_differ label at less (omega (arith, many))))
    (others_differ label (at + 1) bs (omega (arith, less)) (omega (arith, many)) named.1)

pub named_differ : (at : ℕ) (blocks : List Block) → at + length blocks < 2 ^ 64
    → AreNamed at blocks → AreDistinct (block_names blocks)
named_differ at [] small named = λ i j d less inside. absurd (omega (arith, inside))
named_differ at (b ∷ bs) small named =
    let many : at + suc (length bs) < 2 ^ 64 = small in
    AllPairs-cons (λ a b. a ≢ b) b.name (block_names bs)
    (subst (λ (name : List ℕ). All (λ other. name ≢ other) (block_names bs)) (sym named.0)
    (others_differ at (at + 1) bs (omega arith) (omega (arith, many)) named.1))
    (named_differ (at + 1) bs (omega (arith, many)) named.1)
