-- The cells that a mode gives at some values of the variables, and what keeps them.
use Rattle.frame_machine.proofs.Bends.{Keeps, keeps_lookup, lookup_declare, lookup_other, name_is}
use Rattle.frame_machine.specs.Bodies.{AndVar, MayCarry}
use Rattle.frame_machine.specs.Modes.{AllOfLine, AllOfMode, AllOfModes, Closed, Fixed, Line, Mode}
use Rattle.frame_machine.specs.Modes.{Modes, Named, OwnCell, OwnRow, Whole, demoted, inner_modes}
use Rattle.frame_machine.specs.Parts.{Cells, line_value}
use Rattle.loop_meaning.specs.State.{assign, declare, lookup}
use Rattle.loop_meaning.specs.declared.value.Variable.{Variable}
use Rattle.loop_syntax.specs.declared.Carry.{Carry}
use Rattle.std.proofs.Common.{Bool, List, [], bytes_eq, cond, false, inl, length, refl, subst, sym}
use Rattle.std.proofs.Common.{true, ℕ, ℤ, ◌∷◌, ◌≡◌}
use Rattle.std.specs.Prelude.{⊤}
use Rattle.loop_syntax.specs.declared.RowAt.TheVariants as row
use Rattle.loop_syntax.specs.declared.Carry.TheVariants as carry

-- the cells of A hold those that a mode gives where the variables have these values
abbrev pub OwnsAt : (ℤ → ℤ → Type 0) → Mode → List Variable → Type 0
OwnsAt A Whole vs = ⊤
OwnsAt A Closed vs = ⊤
OwnsAt A (OwnRow x) vs = (j : ℤ) → A (lookup vs x) j
OwnsAt A (OwnCell k x) vs = A (line_value k vs) (lookup vs x)

abbrev pub Owns : Cells → Modes → List Variable → Type 0
Owns A m vs = (y : List ℕ) → OwnsAt (A y) (m y) vs

-- a table of which every cell may be read is in A whole
abbrev pub Clear : Cells → Modes → Type 0
Clear A m = (y : List ℕ) → m y ≡ Whole → (i j : ℤ) → A y i j

line_kept : (F : List ℕ → Type 0) (k : Line) (us vs : List Variable) → ((x : List ℕ) → F x → lookup vs x ≡ lookup us x) → AllOfLine F k → line_value k vs ≡ line_value k us
line_kept F (Named x) us vs e f = e x f
line_kept F (Fixed n) us vs e f = refl

-- what a mode gives stays where the variables that it names keep their values
owns_kept : (A : ℤ → ℤ → Type 0) (F : List ℕ → Type 0) (md : Mode) (us vs : List Variable) → ((x : List ℕ) → F x → lookup vs x ≡ lookup us x) → AllOfMode F md → OwnsAt A md us → OwnsAt A md vs
owns_kept A F Whole us vs e f w = tt
owns_kept A F Closed us vs e f w = tt
owns_kept A F (OwnRow x) us vs e f w = λ j. subst (λ i. A i j) (sym (e x f)) (w j)
owns_kept A F (OwnCell k x) us vs e f w = subst (λ i. A i (lookup vs x)) (sym (line_kept F k us vs e f.0)) (subst (λ j. A (line_value k us) j) (sym (e x f.1)) w)

pub owns_survives : (A : Cells) (F : List ℕ → Type 0) (m : Modes) → AllOfModes F m → (us vs : List Variable) → Keeps F us vs → length vs ≡ length us → Owns A m us → Owns A m vs
owns_survives A F m f us vs k l w y = owns_kept (A y) F (m y) us vs (λ x g. keeps_lookup F us vs x k l g) (f y) (w y)

pub owns_declare : (A : Cells) (m : Modes) (us : List Variable) (x : List ℕ) (n : ℤ) → AllOfModes (λ y. x ≡ y → ⊥) m → Owns A m us → Owns A m (declare us x n)
owns_declare A m us x n f w y = owns_kept (A y) (λ z. x ≡ z → ⊥) (m y) us (declare us x n) (λ z g. lookup_declare us x z n g) (f y) (w y)

pub owns_assign : (A : Cells) (F : List ℕ → Type 0) (m : Modes) (us : List Variable) (x : List ℕ) (n : ℤ) → (F x → ⊥) → AllOfModes F m → Owns A m us → Owns A m (assign us x n)
owns_assign A F m us x n g f w y = owns_kept (A y) F (m y) us (assign us x n) (λ z fz. lookup_other us x z n (λ e. g (subst F (sym e) fz))) (f y) (w y)

pub demoted_owns : (A : ℤ → ℤ → Type 0) (md : Mode) (us : List Variable) → OwnsAt A (demoted md) us
demoted_owns A Whole us = tt
demoted_owns A Closed us = tt
demoted_owns A (OwnRow x) us = tt
demoted_owns A (OwnCell k x) us = tt

pub demoted_all : (P : List ℕ → Type 0) (md : Mode) → AllOfMode P (demoted md)
demoted_all P Whole = tt
demoted_all P Closed = tt
demoted_all P (OwnRow x) = tt
demoted_all P (OwnCell k x) = tt

pub demoted_whole : (md : Mode) → demoted md ≡ Whole → md ≡ Whole
demoted_whole Whole e = refl
demoted_whole Closed e = e
demoted_whole (OwnRow x) e = absurd (let z : Closed ≡ Whole = e in cc)
demoted_whole (OwnCell k x) e = absurd (let z : Closed ≡ Whole = e in cc)

-- the cells that an inner loop carries are of a row that the body has
pub inner_owns : (A : Cells) (m : Modes) (us : List Variable) (x : List ℕ) (i : ℤ) → AllOfModes (λ y. x ≡ y → ⊥) m → Owns A m us → (cs : List Carry) → MayCarry m cs → Owns A (inner_modes cs x m) (declare us x i)
inner_owns A m us x i f w [] c y = demoted_owns (A y) (m y) (declare us x i)
inner_owns A m us x i f w (carry.Rows t r ∷ cs) c y = absurd c
inner_owns A m us x i f w (carry.Cells t (row.Int n) j ∷ cs) c y = absurd c
inner_owns A m us x i f w (carry.Cells t (row.Var k) j ∷ cs) c y = go (bytes_eq t.text.items y) refl (inner_owns A m us x i f w cs c.1 y)
  where
    apart : x ≡ k.text.items → ⊥
    apart = subst (AllOfMode (λ z. x ≡ z → ⊥)) c.0 (f t.text.items)

    own : (l : ℤ) → A t.text.items (lookup us k.text.items) l
    own = subst (λ md. OwnsAt (A t.text.items) md us) c.0 (w t.text.items)

    go : (b : Bool) → bytes_eq t.text.items y ≡ b → OwnsAt (A y) (inner_modes cs x m y) (declare us x i) → OwnsAt (A y) (cond b (OwnCell (Named k.text.items) x) (inner_modes cs x m y)) (declare us x i)
    go true e r = subst (λ z. A z (lookup (declare us x i) k.text.items) (lookup (declare us x i) x)) (name_is t.text.items y e)
        (subst (λ n. A t.text.items n (lookup (declare us x i) x)) (sym (lookup_declare us x k.text.items i apart)) (own (lookup (declare us x i) x)))
    go false e r = r

pub inner_all : (F : List ℕ → Type 0) (m : Modes) (x : List ℕ) → F x → AllOfModes F m → (cs : List Carry) → MayCarry m cs → AllOfModes F (inner_modes cs x m)
inner_all F m x fx f [] c y = demoted_all F (m y)
inner_all F m x fx f (carry.Rows t r ∷ cs) c y = absurd c
inner_all F m x fx f (carry.Cells t (row.Int n) j ∷ cs) c y = absurd c
inner_all F m x fx f (carry.Cells t (row.Var k) j ∷ cs) c y = go (bytes_eq t.text.items y) (inner_all F m x fx f cs c.1 y)
  where
    go : (b : Bool) → AllOfMode F (inner_modes cs x m y) → AllOfMode F (cond b (OwnCell (Named k.text.items) x) (inner_modes cs x m y))
    go true r = (subst (AllOfMode F) c.0 (f t.text.items), fx)
    go false r = r

pub inner_clear : (A : Cells) (m : Modes) (x : List ℕ) → Clear A m → (cs : List Carry) → MayCarry m cs → Clear A (inner_modes cs x m)
inner_clear A m x cl [] c y e = cl y (demoted_whole (m y) e)
inner_clear A m x cl (carry.Rows t r ∷ cs) c y e = absurd c
inner_clear A m x cl (carry.Cells t (row.Int n) j ∷ cs) c y e = absurd c
inner_clear A m x cl (carry.Cells t (row.Var k) j ∷ cs) c y e = go (bytes_eq t.text.items y) (inner_clear A m x cl cs c.1 y) e
  where
    go : (b : Bool) → (inner_modes cs x m y ≡ Whole → (i l : ℤ) → A y i l) → cond b (OwnCell (Named k.text.items) x) (inner_modes cs x m y) ≡ Whole → (i l : ℤ) → A y i l
    go true r q = absurd (let z : OwnCell (Named k.text.items) x ≡ Whole = q in cc)
    go false r q = r q

mode_all : (P Q : List ℕ → Type 0) → ((y : List ℕ) → P y → Q y) → (md : Mode) → AllOfMode P md → AllOfMode Q md
mode_all P Q f Whole a = tt
mode_all P Q f Closed a = tt
mode_all P Q f (OwnRow x) a = f x a
mode_all P Q f (OwnCell (Named k) x) a = (f k a.0, f x a.1)
mode_all P Q f (OwnCell (Fixed n) x) a = (tt, f x a.1)

pub modes_and : (F : List ℕ → Type 0) (x : List ℕ) (m : Modes) → AllOfModes F m → AllOfModes (AndVar F x) m
modes_and F x m f y = mode_all F (AndVar F x) (λ z. inl) (m y) (f y)
