-- Facts of lists of statements that loops and calls over them need.
use Rattle.std.proofs.Common.{◌≡◌, ℕ, zero, suc, ◌+◌, ◌<◌, ◌≤◌, true, List, [], ◌∷◌, ◌++◌, length}
use Rattle.std.proofs.Common.{take, get_or, Ok, Err, Result, Vec, vec_len, refl, sym, ap, ◌∙◌}
use Rattle.std.proofs.Common.{arith, rules}
use Rattle.std.specs.Prelude.{OnOk, ◌==◌}
use Rattle.std.specs.declared.alloc.Global.{Global}
use Rattle.std.proofs.lemmas.List.{take_more}
use Rattle.loop_syntax.specs.declared.Stmt.{Stmt}
use Rattle.block_lower.specs.declared.body.Body.{Body}
use Rattle.block_lower.specs.Bodies.{HasRoomFor}
use Rattle.scene_laws.specs.Heights.{AreLow, AllAreLow}
use Rattle.scene_laws.specs.Sizes.{kept, kept_by_list}

-- what follows from what holds where a call came to its end
pub on_ok : {A E : Type 0} {P Q : Type 0} (r : Result A E) → (P → Q) → OnOk r P → OnOk r Q
on_ok (Ok x) f h = f h
on_ok (Err e) f h = tt

-- the same of what follows from two facts
pub on_ok_two : {A E : Type 0} {P Q S : Type 0} (r : Result A E) → (P → Q → S) → OnOk r P
    → OnOk r Q → OnOk r S
on_ok_two (Ok x) f h k = f h k
on_ok_two (Err e) f h k = tt

pub low_at : (ss : List Stmt) (i : ℕ) (d : Stmt) → i < length ss → AllAreLow ss → AreLow (get_or ss i d)
low_at [] i d below can = absurd (omega arith)
low_at (s ∷ ss) zero d below can = can.0
low_at (s ∷ ss) (suc i) d below can = low_at ss i d (omega arith) can.1

-- the first statements and the next one
pub first_more : {X : Type 0} (ss : List X) (i : ℕ) (s : X) → i < length ss → s ≡ get_or ss i s → take (i + 1) ss ≡ take i ss ++ s ∷ []
first_more ss i s below is = take_more ss i s below ∙ ap (λ t. take i ss ++ t ∷ []) (sym is)

-- how many cells a scope has
pub long_as : {X : Type 0} (v : Vec X Global) (n : ℕ) → n ≡ vec_len v → n ≡ length v.items
long_as v n is = omega (arith, is, v.ok)

pub no_items : {X : Type 0} (xs : List X) → true ≡ (length xs == 0) → xs ≡ []
no_items [] none = refl
no_items (x ∷ xs) none = absurd (search rules)

-- no statement keeps more than the most that one of them keeps
pub kept_at : (ss : List Stmt) (i : ℕ) (d : Stmt) → i < length ss → kept (get_or ss i d) ≤ kept_by_list ss
kept_at [] i d below = absurd (omega arith)
kept_at (s ∷ ss) zero d below = omega arith
kept_at (s ∷ ss) (suc i) d below = let rest : kept (get_or ss i d) ≤ kept_by_list ss = kept_at ss i d (omega arith) in omega arith

pub room_within : (on : Body) (m n : ℕ) → n ≤ m → HasRoomFor on m → HasRoomFor on n
room_within on m n less room = record { few = room.few; room = omega (arith, less, room.room); fits = room.fits }
