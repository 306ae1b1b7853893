-- A stack as it is shown where registers stand for some of its cells: as if they were stored.
use Rattle.std.proofs.Common.{◌≡◌, ◌≢◌, ◌⊎◌, inl, inr, ℕ, ◌+◌, ◌-◌, ◌<◌, ◌≤◌, Bool, true, false}
use Rattle.std.proofs.Common.{All, List, [], ◌∷◌, length, None, Some, refl, sym, ap, subst}
use Rattle.std.proofs.Common.{◌∙◌, arith}
use Rattle.std.specs.Prelude.{pos, nat_eq, slice_set, ⊤, AllPairs}
use Rattle.std.specs.List.{AllByRecursion}
use Rattle.std.proofs.lemmas.Bool.{cases_eq, true≢false}
use Rattle.std.proofs.lemmas.Bool.Decides.{nat_tests}
use Rattle.std.proofs.lemmas.List.{set-set, set_comm}
use Rattle.std.proofs.lemmas.List.Kept.{AllPairs-cons}
use Rattle.std.proofs.lemmas.List.Elements.{All-cons, All-head, All-nil, All-tail}
use Rattle.stack_marks.specs.Stacks.{StackValue, word_at, with_word}
use Rattle.tpal_syntax.specs.declared.words.Word.{Word}
use Rattle.tpal_machine.specs.Reading.{register}
use Rattle.expr_lower.proofs.Keeping.{register_other, register_set}
use Rattle.handler_gen.specs.LeafCuts.{HaveRegisters, with_registers}
use Rattle.handler_gen.proofs.LeafStores.{cells_with}
use Rattle.scene_laws.specs.Round.{register_for}
use Rattle.handler_gen.proofs.Words.{word_other, word_same, words_as_many}

-- registers that no expression changes
abbrev pub AreHigh : List (ℕ × ℕ) → Type 0
AreHigh ps = AllByRecursion (λ (p : ℕ × ℕ). (24 ≤ p.1) × (p.1 ≤ 29)) ps

-- words that agree from 24 on are shown alike
pub same_registers : (ps : List (ℕ × ℕ)) (z : ℕ) (words other : List Word) (s : StackValue)
    → AreHigh ps → ((r : ℕ) → 24 ≤ r → r ≤ 29 → register other r ≡ register words r)
    → with_registers ps z other s ≡ with_registers ps z words s
same_registers [] z words other s high same = refl
same_registers (p ∷ ps) z words other s high same =
    same_registers ps z words other (with_word s (pos (z + p.0)) (register other p.1)) high.1 same
    ∙ ap (λ (w : Word). with_registers ps z words (with_word s (pos (z + p.0)) w))
    (same p.1 high.0.0 high.0.1)

-- two stores to different cells
stores_swap : (s : StackValue) (a b : ℕ) (v w : Word) → s.base ≤ a → s.base ≤ b → a ≢ b
    → with_word (with_word s (pos a) v) (pos b) w ≡ with_word (with_word s (pos b) w) (pos a) v
stores_swap s a b v w low_a low_b apart =
    let other : a - s.base ≢ b - s.base =
    λ (q : a - s.base ≡ b - s.base). apart (omega (arith, q)) in
    ap (λ cells. record { base = s.base; cells = cells; marks = s.marks })
    (set_comm s.cells (a - s.base) (b - s.base) v w other)

-- a store to a cell for which no register stands
pub other_store : (ps : List (ℕ × ℕ)) (z cell : ℕ) (words : List Word) (s : StackValue) (w : Word)
    → s.base ≤ z → All (λ c. cell ≢ c) (cells_with ps)
    → with_registers ps z words (with_word s (pos (z + cell)) w)
    ≡ with_word (with_registers ps z words s) (pos (z + cell)) w
other_store [] z cell words s w low apart = refl
other_store (p ∷ ps) z cell words s w low apart =
    let ne : cell ≢ p.0 = All-head (λ (c : ℕ). cell ≢ c) p.0 (cells_with ps) apart in
    ap (λ (t : StackValue). with_registers ps z words t)
    (stores_swap s (z + cell) (z + p.0) w (register words p.1) (omega (arith, low))
    (omega (arith, low)) (λ (q : z + cell ≡ z + p.0). ne (omega (arith, q))))
    ∙ other_store ps z cell words (with_word s (pos (z + p.0)) (register words p.1)) w low
    (All-tail (λ (c : ℕ). cell ≢ c) p.0 (cells_with ps) apart)

-- the base, the height and the marks are those of the stack itself
pub base_shown : (ps : List (ℕ × ℕ)) (z : ℕ) (words : List Word) (s : StackValue)
    → (with_registers ps z words s).base ≡ s.base
base_shown [] z words s = refl
base_shown (p ∷ ps) z words s =
    base_shown ps z words (with_word s (pos (z + p.0)) (register words p.1))

pub as_many_shown : (ps : List (ℕ × ℕ)) (z : ℕ) (words : List Word) (s : StackValue)
    → length (with_registers ps z words s).cells ≡ length s.cells
as_many_shown [] z words s = refl
as_many_shown (p ∷ ps) z words s =
    as_many_shown ps z words (with_word s (pos (z + p.0)) (register words p.1))
    ∙ words_as_many s (z + p.0) (register words p.1)

-- where the cells have the words of the registers already, what is shown is what stands there
pub already_shown : (ps : List (ℕ × ℕ)) (z n : ℕ) (words : List Word) (s t : StackValue) (a : ℕ)
    → s.base ≤ z → z + n ≤ s.base + length s.cells → All (λ c. c < n) (cells_with ps)
    → HaveRegisters ps z words t
    → word_at s (pos a) ≡ word_at t (pos a)
    → word_at (with_registers ps z words s) (pos a) ≡ word_at t (pos a)
already_shown [] z n words s t a low high inside have same = same
already_shown (p ∷ ps) z n words s t a low high inside have same =
    let own : p.0 < n = All-head (λ (c : ℕ). c < n) p.0 (cells_with ps) inside in
    let after : StackValue = with_word s (pos (z + p.0)) (register words p.1) in
    already_shown ps z n words after t a low
    (omega (arith, high, words_as_many s (z + p.0) (register words p.1)))
    (All-tail (λ (c : ℕ). c < n) p.0 (cells_with ps) inside) have.1
    (by_cell (cases_eq a (z + p.0)))
  where
    by_cell : (a ≡ z + p.0) ⊎ (a ≢ z + p.0)
        → word_at (with_word s (pos (z + p.0)) (register words p.1)) (pos a) ≡ word_at t (pos a)
    by_cell (inl here) =
        ap (λ (b : ℕ). word_at (with_word s (pos (z + p.0)) (register words p.1)) (pos b)) here
        ∙ (word_same s (z + p.0) (register words p.1) (omega (arith, low))
        (omega (arith, high, All-head (λ (c : ℕ). c < n) p.0 (cells_with ps) inside))
        ∙ (sym have.0 ∙ ap (λ (b : ℕ). word_at t (pos b)) (sym here)))
    by_cell (inr other) =
        word_other s (z + p.0) a (register words p.1) (omega (arith, low)) other ∙ same

-- a cell for which a register stands shows its word
pub shown_in : (ps : List (ℕ × ℕ)) (z cell held : ℕ) (words : List Word) (t : StackValue)
    → register_for ps cell ≡ Some held → HaveRegisters ps z words t
    → word_at t (pos (z + cell)) ≡ Some (register words held)
shown_in [] z cell held words t is have = cc
shown_in (p ∷ ps) z cell held words t is have =
    go (nat_eq p.0 cell) refl (λ rest. shown_in ps z cell held words t rest have.1)
  where
    go : (b : Bool) → nat_eq p.0 cell ≡ b → (register_for ps cell ≡ Some held
        → word_at t (pos (z + cell)) ≡ Some (register words held))
        → word_at t (pos (z + cell)) ≡ Some (register words held)
    go true e others =
        let here : Some p.1 ≡ Some held = rw e at is in
        let same : p.0 ≡ cell = grind (arith, nat_tests) in
        let there : p.1 ≡ held = cc in
        ap (λ (c : ℕ). word_at t (pos (z + c))) (sym same)
        ∙ (have.0 ∙ ap (λ (r : ℕ). Some (register words r)) there)
    go false e others = others (rw e at is)

-- ---- a register gets another word

-- neither cells nor registers stand twice
abbrev pub AreApart : List (ℕ × ℕ) → Type 0
AreApart [] = ⊤
AreApart (p ∷ ps) = AllByRecursion (λ (q : ℕ × ℕ). (p.0 ≢ q.0) × (p.1 ≢ q.1)) ps × AreApart ps

-- a register that stands for none of these cells may have any word
not_there : (ps : List (ℕ × ℕ)) (z r : ℕ) (words : List Word) (s : StackValue) (w : Word)
    → AllByRecursion (λ (q : ℕ × ℕ). r ≢ q.1) ps
    → with_registers ps z (slice_set words r w) s ≡ with_registers ps z words s
not_there [] z r words s w other = refl
not_there (p ∷ ps) z r words s w other =
    ap (λ (u : Word). with_registers ps z (slice_set words r w) (with_word s (pos (z + p.0)) u))
    (register_other words r p.1 w (λ (q : p.1 ≡ r). other.0 (sym q)))
    ∙ not_there ps z r words (with_word s (pos (z + p.0)) (register words p.1)) w other.1

second_apart : (x r : ℕ) (ps : List (ℕ × ℕ))
    → AllByRecursion (λ (q : ℕ × ℕ). (x ≢ q.0) × (r ≢ q.1)) ps
    → AllByRecursion (λ (q : ℕ × ℕ). r ≢ q.1) ps
second_apart x r [] all = tt
second_apart x r (p ∷ ps) all = (all.0.1, second_apart x r ps all.1)

first_apart : (x r : ℕ) (ps : List (ℕ × ℕ))
    → AllByRecursion (λ (q : ℕ × ℕ). (x ≢ q.0) × (r ≢ q.1)) ps → All (λ c. x ≢ c) (cells_with ps)
first_apart x r [] all = All-nil (λ (c : ℕ). x ≢ c)
first_apart x r (p ∷ ps) all =
    All-cons (λ (c : ℕ). x ≢ c) p.0 (cells_with ps) all.0.0 (first_apart x r ps all.1)

-- a cell with a register is none of those that come before it
other_pair : (ps : List (ℕ × ℕ)) (p : ℕ × ℕ) (cell held : ℕ) → register_for ps cell ≡ Some held
    → AllByRecursion (λ (q : ℕ × ℕ). (p.0 ≢ q.0) × (p.1 ≢ q.1)) ps → p.1 ≢ held
other_pair [] p cell held is all = cc
other_pair (q ∷ qs) p cell held is all =
    go (nat_eq q.0 cell) refl (λ rest. other_pair qs p cell held rest all.1)
  where
    go : (b : Bool) → nat_eq q.0 cell ≡ b → (register_for qs cell ≡ Some held → p.1 ≢ held)
        → p.1 ≢ held
    go true e others =
        let here : Some q.1 ≡ Some held = rw e at is in
        let there : q.1 ≡ held = cc in
        λ (same : p.1 ≡ held). all.0.1 (same ∙ sym there)
    go false e others = others (rw e at is)

-- Where a register stands for a cell, setting it is shown as a store to that cell.
pub register_store : (ps : List (ℕ × ℕ)) (z cell held : ℕ) (words : List Word) (s : StackValue)
    (w : Word) → s.base ≤ z → held < length words → AreApart ps → register_for ps cell ≡ Some held
    → with_registers ps z (slice_set words held w) s
    ≡ with_word (with_registers ps z words s) (pos (z + cell)) w
register_store [] z cell held words s w low inside apart is = cc
register_store (p ∷ ps) z cell held words s w low inside apart is =
    go (nat_eq p.0 cell) refl
    (λ rest t low_t. register_store ps z cell held words t w low_t inside apart.1 rest)
  where
    go : (b : Bool) → nat_eq p.0 cell ≡ b → (register_for ps cell ≡ Some held → (t : StackValue)
        → t.base ≤ z → with_registers ps z (slice_set words held w) t
        ≡ with_word (with_registers ps z words t) (pos (z + cell)) w)
        → with_registers (p ∷ ps) z (slice_set words held w) s
        ≡ with_word (with_registers (p ∷ ps) z words s) (pos (z + cell)) w
    go true e others =
        let here : Some p.1 ≡ Some held = rw e at is in
        let there : p.1 ≡ held = cc in
        let same : p.0 ≡ cell = grind (arith, nat_tests) in
        let set_is : register (slice_set words held w) p.1 ≡ w =
        ap (λ (r : ℕ). register (slice_set words held w) r) there ∙ register_set words held w inside
        in
        let old : StackValue = with_word s (pos (z + p.0)) (register words p.1) in
        let twice : with_word old (pos (z + p.0)) w ≡ with_word s (pos (z + p.0)) w =
        ap (λ cells. record { base = s.base; cells = cells; marks = s.marks })
        (set-set s.cells (z + p.0 - s.base) (register words p.1) w) in
        ap (λ (u : Word). with_registers ps z (slice_set words held w)
        (with_word s (pos (z + p.0)) u)) set_is
        ∙ (not_there ps z held words (with_word s (pos (z + p.0)) w) w
        (subst (λ (r : ℕ). AllByRecursion (λ (q : ℕ × ℕ). r ≢ q.1) ps) there
        (second_apart p.0 p.1 ps apart.0))
        ∙ (ap (λ (t : StackValue). with_registers ps z words t) (sym twice)
        ∙ (other_store ps z p.0 words old w low (first_apart p.0 p.1 ps apart.0)
        ∙ ap (λ (c : ℕ). with_word (with_registers ps z words old) (pos (z + c)) w) same)))
    go false e others =
        let rest : register_for ps cell ≡ Some held = rw e at is in
        let ne : p.1 ≢ held = other_pair ps p cell held rest apart.0 in
        ap (λ (u : Word). with_registers ps z (slice_set words held w)
        (with_word s (pos (z + p.0)) u)) (register_other words held p.1 w ne)
        ∙ others rest (with_word s (pos (z + p.0)) (register words p.1)) low

-- a cell for which no register stands
pub none_stands : (ps : List (ℕ × ℕ)) (cell : ℕ) → register_for ps cell ≡ None
    → All (λ c. cell ≢ c) (cells_with ps)
none_stands [] cell is = All-nil (λ (c : ℕ). cell ≢ c)
none_stands (p ∷ ps) cell is = go (nat_eq p.0 cell) refl (λ rest. none_stands ps cell rest)
  where
    go : (b : Bool) → nat_eq p.0 cell ≡ b
        → (register_for ps cell ≡ None → All (λ c. cell ≢ c) (cells_with ps))
        → All (λ c. cell ≢ c) (cells_with (p ∷ ps))
    go true e others = let wrong : Some p.1 ≡ None = rw e at is in cc
    go false e others =
        let ne : cell ≢ p.0 =
        λ (q : cell ≡ p.0).
        let wrong : nat_eq p.0 cell ≡ true = grind (arith, nat_tests, q) in
        absurd (true≢false (sym wrong ∙ e)) in
        All-cons (λ (c : ℕ). cell ≢ c) p.0 (cells_with ps) ne (others (rw e at is))

-- a cell above all for which registers stand is none of them
pub above_apart : (ps : List (ℕ × ℕ)) (cell bound : ℕ) → All (λ c. c < bound) (cells_with ps)
    → bound ≤ cell → All (λ c. cell ≢ c) (cells_with ps)
above_apart ps cell bound under from =
    λ i d below q. absurd (omega (arith, under i d below, from, q))

-- a register that stands for a cell is one of those that no expression changes
pub high_for : (ps : List (ℕ × ℕ)) (cell held : ℕ) → AreHigh ps → register_for ps cell ≡ Some held
    → (24 ≤ held) × (held ≤ 29)
high_for [] cell held high is = cc
high_for (p ∷ ps) cell held high is =
    go (nat_eq p.0 cell) refl (λ rest. high_for ps cell held high.1 rest)
  where
    go : (b : Bool) → nat_eq p.0 cell ≡ b → (register_for ps cell ≡ Some held
        → (24 ≤ held) × (held ≤ 29)) → (24 ≤ held) × (held ≤ 29)
    go true e others =
        let here : Some p.1 ≡ Some held = rw e at is in
        let there : p.1 ≡ held = cc in
        (omega (arith, there, high.0.0), omega (arith, there, high.0.1))
    go false e others = others (rw e at is)

-- the cells differ one from another
pub cells_differ : (ps : List (ℕ × ℕ)) → AreApart ps → AllPairs (λ a b. a ≢ b) (cells_with ps)
cells_differ [] apart = λ i j d less below. absurd (omega (arith, below))
cells_differ (p ∷ ps) apart =
    AllPairs-cons (λ (a b : ℕ). a ≢ b) p.0 (cells_with ps) (first_apart p.0 p.1 ps apart.0)
    (cells_differ ps apart.1)
