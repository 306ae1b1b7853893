-- Places in the list of open records.
use Rattle.std.proofs.Common.{◌≡◌, ℕ, zero, suc, ◌<◌, ◌≤◌, List, [], ◌∷◌, ◌++◌, length, refl, sym}
use Rattle.std.proofs.Common.{ap, ◌∙◌, subst, ⊎_elim, arith}
use Rattle.std.specs.Prelude.{not, nat_eq, if◌then◌else◌}
use Rattle.std.proofs.lemmas.Bool.{cases_eq, eq-eqb, ne_eqb, cond-true, cond-false}
use Rattle.schedule_core.specs.Core.{without}
use Rattle.schedule_core.specs.Sound.{place, later, IsOnce}

place_here : (j k : ℕ) (js : List ℕ) → j ≡ k → place (j ∷ js) k ≡ 1
place_here j k js e = cond-true (nat_eq j k) 1 (later (place js k)) (eq-eqb j k e)

place_next : (j k : ℕ) (js : List ℕ) → (j ≡ k → ⊥) → place (j ∷ js) k ≡ later (place js k)
place_next j k js ne = cond-false (nat_eq j k) 1 (later (place js k)) (ne_eqb j k ne)

without_here : (k j : ℕ) (js : List ℕ) → j ≡ k → without k (j ∷ js) ≡ without k js
without_here k j js e = ap (λ b. if not b then j ∷ without k js else without k js) (eq-eqb j k e)

without_next : (k j : ℕ) (js : List ℕ) → (j ≡ k → ⊥) → without k (j ∷ js) ≡ j ∷ without k js
without_next k j js ne = ap (λ b. if not b then j ∷ without k js else without k js) (ne_eqb j k ne)

-- what `later` does to places
later_zero : (n : ℕ) → later n ≡ 0 → n ≡ 0
later_zero zero e = refl
later_zero (suc n) e = absurd (omega (arith, e))

later_one : (n : ℕ) → later n < 2 → n ≡ 0
later_one zero e = refl
later_one (suc n) e = absurd (omega (arith, e))

later_there : (n : ℕ) → 0 < n → 1 < later n
later_there zero e = absurd (omega (arith, e))
later_there (suc n) e = omega arith

later_down : (n m : ℕ) → later n < later m → n < m
later_down zero zero e = absurd (omega (arith, e))
later_down zero (suc m) e = omega arith
later_down (suc n) zero e = absurd (omega (arith, e))
later_down (suc n) (suc m) e = omega (arith, e)

later_up : (n m : ℕ) → n < m → later n < later m
later_up zero zero e = absurd (omega (arith, e))
later_up zero (suc m) e = omega arith
later_up (suc n) zero e = absurd (omega (arith, e))
later_up (suc n) (suc m) e = omega (arith, e)

later_short : (n m : ℕ) → n ≤ m → later n ≤ suc m
later_short zero m e = omega arith
later_short (suc n) m e = omega (arith, e)

later_same : (n m : ℕ) → later n ≡ later m → n ≡ m
later_same zero zero e = refl
later_same zero (suc m) e = absurd (omega (arith, e))
later_same (suc n) zero e = absurd (omega (arith, e))
later_same (suc n) (suc m) e = omega (arith, e)

later_from : (n : ℕ) → 0 < later n → 0 < n
later_from zero e = absurd (omega (arith, e))
later_from (suc n) e = omega arith

not_first : (n : ℕ) → later n ≡ 1 → ⊥
not_first zero e = omega (arith, e)
not_first (suc n) e = omega (arith, e)

-- two records at one place are one
pub place_one : (js : List ℕ) (k i : ℕ) → 0 < place js k → place js k ≡ place js i → k ≡ i
place_one [] k i there same = absurd (omega (arith, there))
place_one (j ∷ js) k i there same = ⊎_elim
    (λ (e : j ≡ k). ⊎_elim
    (λ (f : j ≡ i). sym e ∙ f)
    (λ (n : j ≡ i → ⊥). absurd (not_first (place js i) (sym (place_next j i js n) ∙ (sym same ∙ place_here j k js e))))
    (cases_eq j i))
    (λ (ne : j ≡ k → ⊥). let a = place_next j k js ne in
    ⊎_elim
    (λ (f : j ≡ i). absurd (not_first (place js k) (sym a ∙ (same ∙ place_here j i js f))))
    (λ (n : j ≡ i → ⊥). place_one js k i (later_from (place js k) (omega (arith, there, a))) (later_same (place js k) (place js i) (sym a ∙ (same ∙ place_next j i js n))))
    (cases_eq j i))
    (cases_eq j k)

-- ---- one more at the end

pub place_short : (js : List ℕ) (k : ℕ) → place js k ≤ length js
place_short [] k = omega arith
place_short (j ∷ js) k = ⊎_elim
    (λ (e : j ≡ k). let a = place_here j k js e in omega (arith, a))
    (λ (ne : j ≡ k → ⊥). let a = place_next j k js ne in let b = later_short (place js k) (length js) (place_short js k) in omega (arith, a, b))
    (cases_eq j k)

pub place_last : (js : List ℕ) (k : ℕ) → place js k ≡ 0 → place (js ++ k ∷ []) k ≡ suc (length js)
place_last [] k z = place_here k k [] refl
place_last (j ∷ js) k z = ⊎_elim
    (λ (e : j ≡ k). let a = place_here j k js e in absurd (omega (arith, a, z)))
    (λ (ne : j ≡ k → ⊥). place_next j k (js ++ k ∷ []) ne ∙ ap later (place_last js k (later_zero (place js k) (sym (place_next j k js ne) ∙ z))))
    (cases_eq j k)

pub place_other : (js : List ℕ) (k i : ℕ) → (k ≡ i → ⊥) → place (js ++ k ∷ []) i ≡ place js i
place_other [] k i ne = place_next k i [] ne
place_other (j ∷ js) k i ne = ⊎_elim
    (λ (e : j ≡ i). place_here j i (js ++ k ∷ []) e ∙ sym (place_here j i js e))
    (λ (n : j ≡ i → ⊥). place_next j i (js ++ k ∷ []) n ∙ (ap later (place_other js k i ne) ∙ sym (place_next j i js n)))
    (cases_eq j i)

-- the last of a list has the greatest place
pub place_most : (js : List ℕ) (k i : ℕ) → place js k ≡ 0
    → place (js ++ k ∷ []) i ≤ place (js ++ k ∷ []) k
place_most js k i none =
    let last = place_last js k none in
    ⊎_elim
    (λ (same : k ≡ i). let here = ap (place (js ++ k ∷ [])) same in omega (arith, here))
    (λ (other : k ≡ i → ⊥).
    let there = place_other js k i other in
    let short = place_short js i in
    omega (arith, last, there, short))
    (cases_eq k i)

pub once_more : (js : List ℕ) (k : ℕ) → place js k ≡ 0 → IsOnce js → IsOnce (js ++ k ∷ [])
once_more [] k z o = (refl, tt)
once_more (j ∷ js) k z o = ⊎_elim
    (λ (e : j ≡ k). let a = place_here j k js e in absurd (omega (arith, a, z)))
    (λ (ne : j ≡ k → ⊥). (place_other js k j (λ q. ne (sym q)) ∙ o.0, once_more js k (later_zero (place js k) (sym (place_next j k js ne) ∙ z)) o.1))
    (cases_eq j k)

-- ---- without a record

pub place_without : (js : List ℕ) (k : ℕ) → place (without k js) k ≡ 0
place_without [] k = refl
place_without (j ∷ js) k = ⊎_elim
    (λ (e : j ≡ k). ap (λ xs. place xs k) (without_here k j js e) ∙ place_without js k)
    (λ (ne : j ≡ k → ⊥). ap (λ xs. place xs k) (without_next k j js ne) ∙ (place_next j k (without k js) ne ∙ ap later (place_without js k)))
    (cases_eq j k)

-- a list without a record at its head, and one with another there
module _ (j k i : ℕ) (js : List ℕ) where
  gone : (e : j ≡ k) → place (without k (j ∷ js)) i ≡ place (without k js) i
  gone e = ap (λ xs. place xs i) (without_here k j js e)

  stays : (ne : j ≡ k → ⊥) → place (without k (j ∷ js)) i ≡ place (j ∷ without k js) i
  stays ne = ap (λ xs. place xs i) (without_next k j js ne)

-- a record that was opened last is taken out
pub without_last : (js : List ℕ) (k : ℕ) → place js k ≡ 0 → without k (js ++ k ∷ []) ≡ js
without_last [] k none = without_here k k [] refl
without_last (j ∷ js) k none = ⊎_elim
    (λ (same : j ≡ k). let here = place_here j k js same in absurd (omega (arith, here, none)))
    (λ (other : j ≡ k → ⊥).
    without_next k j (js ++ k ∷ []) other
    ∙ ap (λ xs. j ∷ xs)
    (without_last js k (later_zero (place js k) (sym (place_next j k js other) ∙ none))))
    (cases_eq j k)

-- the records 0 to n, each of which was opened while those below it were open
unfoldable pub nested : ℕ → List ℕ
nested zero = []
nested (suc n) = nested n ++ n ∷ []

pub nested_first : [] ≡ nested 0
unfolding nested
nested_first = refl

pub nested_none : (n k : ℕ) → n ≤ k → place (nested n) k ≡ 0
unfolding nested
nested_none zero k far = refl
nested_none (suc n) k far =
    place_other (nested n) n k (λ same. omega (arith, far, same)) ∙ nested_none n k (omega (arith, far))

pub nested_last : (n i : ℕ) → place (nested (suc n)) i ≤ place (nested (suc n)) n
unfolding nested
nested_last n i = place_most (nested n) n i (nested_none n n (omega arith))

pub nested_without : (n : ℕ) → without n (nested (suc n)) ≡ nested n
unfolding nested
nested_without n = without_last (nested n) n (nested_none n n (omega arith))

pub nested_more : (n : ℕ) → nested n ++ n ∷ [] ≡ nested (suc n)
unfolding nested
nested_more n = refl

pub without_absent : (js : List ℕ) (k i : ℕ) → place js i ≡ 0 → place (without k js) i ≡ 0
without_absent [] k i z = refl
without_absent (j ∷ js) k i z = ⊎_elim
    (λ (e : j ≡ i). let a = place_here j i js e in absurd (omega (arith, a, z)))
    (λ (n : j ≡ i → ⊥).
    let b = without_absent js k i (later_zero (place js i) (sym (place_next j i js n) ∙ z)) in
    ⊎_elim
    (λ (e : j ≡ k). gone j k i js e ∙ b)
    (λ (ne : j ≡ k → ⊥). stays j k i js ne ∙ (place_next j i (without k js) n ∙ ap later b))
    (cases_eq j k))
    (cases_eq j i)

pub without_there : (js : List ℕ) (k i : ℕ) → (i ≡ k → ⊥) → 0 < place js i → 0 < place (without k js) i
without_there [] k i ne lt = absurd (omega (arith, lt))
without_there (j ∷ js) k i ne lt = ⊎_elim
    (λ (e : j ≡ i). let a = stays j k i js (λ q. ne (sym e ∙ q)) in let b = place_here j i (without k js) e in omega (arith, a, b))
    (λ (n : j ≡ i → ⊥).
    let p = place_next j i js n in
    let h = without_there js k i ne (⊎_elim (λ (z : place js i ≡ 0). let l = ap later z in absurd (omega (arith, lt, p, l))) (λ (z : place js i ≡ 0 → ⊥). omega (arith, z)) (cases_eq (place js i) 0)) in
    ⊎_elim
    (λ (e : j ≡ k). let a = gone j k i js e in omega (arith, a, h))
    (λ (m : j ≡ k → ⊥). let a = stays j k i js m in let b = place_next j i (without k js) n in let l = later_there (place (without k js) i) h in omega (arith, a, b, l))
    (cases_eq j k))
    (cases_eq j i)

pub without_below : (js : List ℕ) (k i m : ℕ) → (m ≡ k → ⊥) → place js i < place js m → place (without k js) i < place (without k js) m
without_below [] k i m ne lt = absurd (omega (arith, lt))
without_below (j ∷ js) k i m ne lt = ⊎_elim
    (λ (e : j ≡ k).
    let a = gone j k i js e in
    let b = gone j k m js e in
    let c = place_next j m js (λ q. ne (sym q ∙ e)) in
    let below : (x : ℕ) → place (j ∷ js) i ≡ x → x < later (place js m) → place (without k js) i < place (without k js) m = λ x q l. ⊎_elim
    (λ (s : j ≡ i).
    let z : place (without k js) i ≡ 0 = ap (place (without k js)) (sym s ∙ e) ∙ place_without js k in
    let t = without_there js k m ne (⊎_elim (λ (y : place js m ≡ 0). let g = ap later y in absurd (omega (arith, l, g))) (λ (y : place js m ≡ 0 → ⊥). omega (arith, y)) (cases_eq (place js m) 0)) in
    omega (arith, z, t))
    (λ (s : j ≡ i → ⊥). let p = place_next j i js s in without_below js k i m ne (later_down (place js i) (place js m) (omega (arith, q, p, l))))
    (cases_eq j i) in
    let r = below (place (j ∷ js) i) refl (omega (arith, lt, c)) in
    omega (arith, a, b, r))
    (λ (nk : j ≡ k → ⊥).
    let a = stays j k i js nk in
    let b = stays j k m js nk in
    ⊎_elim
    (λ (s : j ≡ i).
    let p = place_here j i js s in
    let p2 = place_here j i (without k js) s in
    ⊎_elim
    (λ (t : j ≡ m). let q = place_here j m js t in absurd (omega (arith, lt, p, q)))
    (λ (t : j ≡ m → ⊥).
    let q = place_next j m js t in
    let q2 = place_next j m (without k js) t in
    let th = without_there js k m ne (⊎_elim (λ (y : place js m ≡ 0). let g = ap later y in absurd (omega (arith, lt, q, g))) (λ (y : place js m ≡ 0 → ⊥). omega (arith, y)) (cases_eq (place js m) 0)) in
    let l = later_there (place (without k js) m) th in
    omega (arith, a, b, p2, q2, l))
    (cases_eq j m))
    (λ (s : j ≡ i → ⊥).
    let p = place_next j i js s in
    let p2 = place_next j i (without k js) s in
    ⊎_elim
    (λ (t : j ≡ m).
    let q = place_here j m js t in
    let q2 = place_here j m (without k js) t in
    let z = without_absent js k i (later_one (place js i) (omega (arith, lt, p, q))) in
    let l = ap later z in
    omega (arith, a, b, p2, q2, l))
    (λ (t : j ≡ m → ⊥).
    let q = place_next j m js t in
    let q2 = place_next j m (without k js) t in
    let h = without_below js k i m ne (later_down (place js i) (place js m) (omega (arith, lt, p, q))) in
    let l = later_up (place (without k js) i) (place (without k js) m) h in
    omega (arith, a, b, p2, q2, l))
    (cases_eq j m))
    (cases_eq j i))
    (cases_eq j k)

pub once_without : (js : List ℕ) (k : ℕ) → IsOnce js → IsOnce (without k js)
once_without [] k o = tt
once_without (j ∷ js) k o = ⊎_elim
    (λ (e : j ≡ k). subst IsOnce (sym (without_here k j js e)) (once_without js k o.1))
    (λ (ne : j ≡ k → ⊥). subst IsOnce (sym (without_next k j js ne)) (without_absent js k j o.0, once_without js k o.1))
    (cases_eq j k)
