-- What the window of an outermost expression says of the whole.
use Rattle.std.proofs.Common.{◌≡◌, ℕ, ◌-◌, List, length, take, drop, Ok, Err, true, false, ◌&&◌}
use Rattle.std.proofs.Common.{nat_le, refl, ap, ◌∙◌}
use Rattle.loop_parse.specs.Terms.{Token}
use Rattle.loop_syntax.specs.Tree.{Tree}
use Rattle.loop_parse.specs.Reading.{Form, Deep, expr, outer, limited, window, is_empty}

pub outer_deep_ok : (n : ℕ) (ts left : List Token) (e : Tree) → expr n (take window ts) ≡ Ok (e, left) → (nat_le window (length ts) && is_empty left) ≡ true → outer n ts ≡ Err (Deep (drop 256 ts))
unfolding outer
outer_deep_ok n ts left e h k = ap (limited ts) h ∙ rw k refl

pub outer_ok : (n : ℕ) (ts left : List Token) (e : Tree) → expr n (take window ts) ≡ Ok (e, left) → (nat_le window (length ts) && is_empty left) ≡ false → outer n ts ≡ Ok (e, drop (length (take window ts) - length left) ts)
unfolding outer
outer_ok n ts left e h k = ap (limited ts) h ∙ rw k refl

pub outer_deep_fault : (n : ℕ) (ts left : List Token) → expr n (take window ts) ≡ Err (Form left) → (nat_le window (length ts) && is_empty left) ≡ true → outer n ts ≡ Err (Deep (drop 256 ts))
unfolding outer
outer_deep_fault n ts left h k = ap (limited ts) h ∙ rw k refl

pub outer_fault : (n : ℕ) (ts left : List Token) → expr n (take window ts) ≡ Err (Form left) → (nat_le window (length ts) && is_empty left) ≡ false → outer n ts ≡ Err (Form (drop (length (take window ts) - length left) ts))
unfolding outer
outer_fault n ts left h k = ap (limited ts) h ∙ rw k refl

pub outer_deep : (n : ℕ) (ts left : List Token) → expr n (take window ts) ≡ Err (Deep left) → outer n ts ≡ Err (Deep left)
unfolding outer
outer_deep n ts left h = ap (limited ts) h
