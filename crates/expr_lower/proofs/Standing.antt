-- Instructions and blocks at their places in a code.
use Rattle.std.proofs.Common.{◌≡◌, ℕ, zero, suc, ◌+◌, List, [], ◌∷◌, ◌++◌, length, drop, None, Some}
use Rattle.std.proofs.Common.{refl, ap, sym, subst, ◌∙◌, arith, add-one, add-zero, append_assoc}
use Rattle.std.specs.Prelude.{slice_get}
use Rattle.tpal_syntax.specs.declared.blocks.Block.{Block}
use Rattle.tpal_syntax.specs.declared.instructions.Instr.{Instr}
use Rattle.tpal_syntax.specs.declared.instructions.Term.{Term}
use Rattle.tpal_syntax.specs.Listing.{Listing}
use Rattle.tpal_machine.specs.State.{State}
use Rattle.tpal_machine.proofs.Kit.{IsNext, IsAtEnd}
use Rattle.expr_lower.specs.Standing.{Remains, AreAt}

-- ---- what remains of a list

first_left : {A : Type 0} (xs : List A) (at : ℕ) (x : A) (more : List A) → drop at xs ≡ x ∷ more → slice_get xs at ≡ Some x
first_left [] zero x more is = cc
first_left [] (suc at) x more is = cc
first_left (y ∷ ys) zero x more is = cc
first_left (y ∷ ys) (suc at) x more is = first_left ys at x more is

left_behind : {A : Type 0} (xs : List A) (at : ℕ) (x : A) (more : List A) → drop at xs ≡ x ∷ more → drop (suc at) xs ≡ more
left_behind [] zero x more is = cc
left_behind [] (suc at) x more is = cc
left_behind (y ∷ ys) zero x more is = cc
left_behind (y ∷ ys) (suc at) x more is = left_behind ys at x more is

none_left : {A : Type 0} (xs : List A) (at : ℕ) → drop at xs ≡ [] → slice_get xs at ≡ None
none_left [] zero is = refl
none_left [] (suc at) is = refl
none_left (y ∷ ys) zero is = cc
none_left (y ∷ ys) (suc at) is = none_left ys at is

-- ---- instructions

-- the first of the instructions that remain is the next one
pub next : (code : Listing) (state : State) (i : Instr) (more : List Instr) (end : Term) → Remains code state.block state.at (i ∷ more) end → IsNext code state i
next code state i more end left = record { block = left.block; found = left.found; is = first_left left.block.body state.at i more left.rest }

-- the others remain behind it
pub behind : (code : Listing) (label at : ℕ) (i : Instr) (more : List Instr) (end : Term) → Remains code label at (i ∷ more) end → Remains code label (at + 1) more end
behind code label at i more end left = record {
  block = left.block;
  found = left.found;
  rest = ap (λ n. drop n left.block.body) (add-one at) ∙ left_behind left.block.body at i more left.rest;
  ends = left.ends;
}

-- where none remains a task is at the end of its block
pub at_end : (code : Listing) (state : State) (end : Term) → Remains code state.block state.at [] end → IsAtEnd code state end
at_end code state end left = record { block = left.block; found = left.found; none = none_left left.block.body state.at left.rest; is = left.ends }

-- the same instructions, put together in another way
pub regrouped : (code : Listing) (label at : ℕ) (xs ys : List Instr) (end : Term) → xs ≡ ys → Remains code label at xs end → Remains code label at ys end
regrouped code label at xs ys end same left = record { block = left.block; found = left.found; rest = left.rest ∙ same; ends = left.ends }

pub split : (code : Listing) (label at : ℕ) (xs ys more : List Instr) (end : Term) → Remains code label at ((xs ++ ys) ++ more) end → Remains code label at (xs ++ (ys ++ more)) end
split code label at xs ys more end left = regrouped code label at ((xs ++ ys) ++ more) (xs ++ (ys ++ more)) end (append_assoc xs ys more) left

-- ---- blocks

pub front : (code : Listing) (label : ℕ) (xs ys : List Block) → AreAt code label (xs ++ ys) → AreAt code label xs
front code label [] ys are = tt
front code label (x ∷ xs) ys (is, are) = (is, front code (label + 1) xs ys are)

pub back : (code : Listing) (label : ℕ) (xs ys : List Block) → AreAt code label (xs ++ ys) → AreAt code (label + length xs) ys
back code label [] ys are = subst (λ (l : ℕ). AreAt code l ys) (sym (add-zero label)) are
back code label (x ∷ xs) ys (is, are) =
    let same : label + 1 + length xs ≡ label + suc (length xs) = omega arith in
    subst (λ (l : ℕ). AreAt code l ys) same (back code (label + 1) xs ys are)
