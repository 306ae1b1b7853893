-- What several spans hold at a position.
use Rattle.std.proofs.Common.{◌≡◌, ℕ, zero, suc, ◌+◌, ◌<◌, ◌≤◌, ◌⊎◌, inl, inr, Bool, true, false}
use Rattle.std.proofs.Common.{cond, List, [], ◌∷◌, ◌++◌, length, take, drop, set, get_or, Option}
use Rattle.std.proofs.Common.{None, Some, refl, sym, ◌∙◌, ap, subst, arith, zero-add, is_some}
use Rattle.std.proofs.lemmas.Bool.{cases_eq, eq-eqb, ne_eqb, false≢true}
use Rattle.std.proofs.lemmas.List.{take_more, take_more_set}
use Rattle.std.specs.List.{remove}
use Rattle.std.specs.Prelude.{ℤ, IsSome, nat_lt, nat_le, nat_eq, ◌&&◌}
use Rattle.slices.specs.Spans.{or_else, count, between, span_at, spans_at, holders}
use Rattle.slices.specs.declared.spans.Span.{Span}

pub or_else-none : (a : Option ℤ) → or_else a None ≡ a
or_else-none None = refl
or_else-none (Some x) = refl

pub or_else_assoc : (a b c : Option ℤ) → or_else (or_else a b) c ≡ or_else a (or_else b c)
or_else_assoc None b c = refl
or_else_assoc (Some x) b c = refl

-- where one of the two is not there, their order does not matter
pub or_else_swap : (a b : Option ℤ) → count a + count b ≤ 1 → or_else a b ≡ or_else b a
or_else_swap None b h = sym (or_else-none b)
or_else_swap (Some x) None h = refl
or_else_swap (Some x) (Some y) h = absurd (omega arith)

pub count_none : (a : Option ℤ) → count a ≡ 0 → a ≡ None
count_none None e = refl
count_none (Some x) e = absurd (omega arith)

pub count_some : (a : Option ℤ) → IsSome a → count a ≡ 1
count_some None e = absurd (false≢true e)
count_some (Some x) e = refl

pub spans_at-append : (xs ys : List Span) (i : ℕ) → spans_at (xs ++ ys) i ≡ or_else (spans_at xs i) (spans_at ys i)
spans_at-append [] ys i = refl
spans_at-append (x ∷ xs) ys i = ap (or_else (span_at x i)) (spans_at-append xs ys i) ∙ sym (or_else_assoc (span_at x i) _ _)

pub holders-append : (xs ys : List Span) (i : ℕ) → holders (xs ++ ys) i ≡ holders xs i + holders ys i
holders-append [] ys i = sym (zero-add (holders ys i))
holders-append (x ∷ xs) ys i = omega (arith, holders-append xs ys i)

pub spans_at-push : (xs : List Span) (x : Span) (i : ℕ) → spans_at (xs ++ x ∷ []) i ≡ or_else (spans_at xs i) (span_at x i)
spans_at-push xs x i = spans_at-append xs (x ∷ []) i ∙ ap (or_else (spans_at xs i)) (or_else-none (span_at x i))

pub holders-push : (xs : List Span) (x : Span) (i : ℕ) → holders (xs ++ x ∷ []) i ≡ holders xs i + count (span_at x i)
holders-push xs x i = omega (arith, holders-append xs (x ∷ []) i)

-- a list around its k-th span
pub around : (xs : List Span) (k : ℕ) (d : Span) (i : ℕ) → k < length xs → spans_at xs i ≡ or_else (spans_at (take k xs) i) (or_else (span_at (get_or xs k d) i) (spans_at (drop (suc k) xs) i))
around [] k d i h = absurd (omega arith)
around (x ∷ xs) zero d i h = refl
around (x ∷ xs) (suc k) d i h = ap (or_else (span_at x i)) (around xs k d i (omega arith)) ∙ sym (or_else_assoc (span_at x i) _ _)

pub around_set : (xs : List Span) (k : ℕ) (y : Span) (i : ℕ) → k < length xs → spans_at (set xs k y) i ≡ or_else (spans_at (take k xs) i) (or_else (span_at y i) (spans_at (drop (suc k) xs) i))
around_set [] k y i h = absurd (omega arith)
around_set (x ∷ xs) zero y i h = refl
around_set (x ∷ xs) (suc k) y i h = ap (or_else (span_at x i)) (around_set xs k y i (omega arith)) ∙ sym (or_else_assoc (span_at x i) _ _)

pub count_around : (xs : List Span) (k : ℕ) (d : Span) (i : ℕ) → k < length xs → holders xs i ≡ holders (take k xs) i + (count (span_at (get_or xs k d) i) + holders (drop (suc k) xs) i)
count_around [] k d i h = absurd (omega arith)
count_around (x ∷ xs) zero d i h = sym (zero-add _)
count_around (x ∷ xs) (suc k) d i h = omega (arith, count_around xs k d i (omega arith))

pub count_around_set : (xs : List Span) (k : ℕ) (y : Span) (i : ℕ) → k < length xs → holders (set xs k y) i ≡ holders (take k xs) i + (count (span_at y i) + holders (drop (suc k) xs) i)
count_around_set [] k y i h = absurd (omega arith)
count_around_set (x ∷ xs) zero y i h = sym (zero-add _)
count_around_set (x ∷ xs) (suc k) y i h = omega (arith, count_around_set xs k y i (omega arith))

-- a span that holds the same in another's place
pub same_set : (xs : List Span) (k : ℕ) (d y : Span) (i : ℕ) → k < length xs → span_at y i ≡ span_at (get_or xs k d) i → (spans_at (set xs k y) i ≡ spans_at xs i) × (holders (set xs k y) i ≡ holders xs i)
same_set xs k d y i h e = (
  around_set xs k y i h ∙ ap (λ v. or_else (spans_at (take k xs) i) (or_else v (spans_at (drop (suc k) xs) i))) e ∙ sym (around xs k d i h),
  count_around_set xs k y i h ∙ ap (λ v. holders (take k xs) i + (count v + holders (drop (suc k) xs) i)) e ∙ sym (count_around xs k d i h),
)

-- the first span that reaches a position is the k-th
pub first_around : (xs : List Span) (k : ℕ) (d : Span) (i : ℕ) → k < length xs → spans_at (take k xs) i ≡ None → IsSome (span_at (get_or xs k d) i) → spans_at xs i ≡ span_at (get_or xs k d) i
first_around xs k d i h e s = around xs k d i h ∙ ap (λ v. or_else v (or_else (span_at (get_or xs k d) i) (spans_at (drop (suc k) xs) i))) e ∙ some_first _ _ s
  where
    some_first : (a b : Option ℤ) → IsSome a → or_else a b ≡ a
    some_first None b s = absurd (false≢true s)
    some_first (Some x) b s = refl

pub first_around_set : (xs : List Span) (k : ℕ) (y : Span) (i : ℕ) (value : ℤ) → k < length xs → spans_at (take k xs) i ≡ None → span_at y i ≡ Some value → spans_at (set xs k y) i ≡ Some value
first_around_set xs k y i value h e s = around_set xs k y i h ∙ ap (λ v. or_else v (or_else (span_at y i) (spans_at (drop (suc k) xs) i))) e ∙ ap (λ v. or_else v (spans_at (drop (suc k) xs) i)) s

pub between-or_else : (low high i : ℕ) (u v : Option ℤ) → or_else (between low high i u) (between low high i v) ≡ between low high i (or_else u v)
between-or_else low high i u v = both (nat_le low i && nat_lt i high)
  where
    both : (b : Bool) → or_else (cond b u None) (cond b v None) ≡ cond b (or_else u v) None
    both true = refl
    both false = refl

pub count-between : (low high i : ℕ) (u : Option ℤ) → count (between low high i u) ≤ count u
count-between low high i u = one (nat_le low i && nat_lt i high)
  where
    one : (b : Bool) → count (cond b u None) ≤ count u
    one true = omega arith
    one false = omega arith

-- one more span, after those before it
pub at_more : (xs : List Span) (k : ℕ) (d : Span) (i : ℕ) → k < length xs → d ≡ get_or xs k d → spans_at (take (k + 1) xs) i ≡ or_else (spans_at (take k xs) i) (span_at d i)
at_more xs k d i h e = ap (λ ys. spans_at ys i) (take_more xs k d h) ∙ spans_at-push (take k xs) (get_or xs k d) i ∙ ap (λ s. or_else (spans_at (take k xs) i) (span_at s i)) (sym e)

pub count_more : (xs : List Span) (k : ℕ) (d : Span) (i : ℕ) → k < length xs → d ≡ get_or xs k d → holders (take (k + 1) xs) i ≡ holders (take k xs) i + count (span_at d i)
count_more xs k d i h e = ap (λ ys. holders ys i) (take_more xs k d h) ∙ holders-push (take k xs) (get_or xs k d) i ∙ ap (λ s. holders (take k xs) i + count (span_at s i)) (sym e)

-- a span set where none before it reaches the position
pub put_at : (xs : List Span) (k : ℕ) (d y : Span) (at i : ℕ) (value : ℤ) → k < length xs → spans_at (take k xs) at ≡ None → ((j : ℕ) → span_at y j ≡ cond (nat_eq j at) (Some value) (span_at (get_or xs k d) j)) → spans_at (set xs k y) i ≡ cond (nat_eq i at) (Some value) (spans_at xs i)
put_at xs k d y at i value h none f =
    elim (cases_eq i at) [
      | inl q ↦ subst (λ j. spans_at (set xs k y) j ≡ cond (nat_eq j at) (Some value) (spans_at xs j)) (sym q)
          (first_around_set xs k y at value h none (f at ∙ ap (λ b. cond b (Some value) (span_at (get_or xs k d) at)) (eq-eqb at at refl)) ∙ sym (ap (λ b. cond b (Some value) (spans_at xs at)) (eq-eqb at at refl)))
      | inr q ↦ (same_set xs k d y i h (f i ∙ ap (λ b. cond b (Some value) (span_at (get_or xs k d) i)) (ne_eqb i at q))).0 ∙ sym (ap (λ b. cond b (Some value) (spans_at xs i)) (ne_eqb i at q))
    ]

pub count_put : (xs : List Span) (k : ℕ) (d y : Span) (at i : ℕ) (value : ℤ) → k < length xs → IsSome (span_at (get_or xs k d) at) → ((j : ℕ) → span_at y j ≡ cond (nat_eq j at) (Some value) (span_at (get_or xs k d) j)) → holders (set xs k y) i ≡ holders xs i
count_put xs k d y at i value h some f =
    count_around_set xs k y i h ∙ ap (λ n. holders (take k xs) i + (n + holders (drop (suc k) xs) i)) (kept i (cases_eq i at)) ∙ sym (count_around xs k d i h)
  where
    kept : (j : ℕ) → (j ≡ at) ⊎ (j ≡ at → ⊥) → count (span_at y j) ≡ count (span_at (get_or xs k d) j)
    kept j (inl q) = ap count (f j ∙ ap (λ b. cond b (Some value) (span_at (get_or xs k d) j)) (eq-eqb j at q)) ∙ sym (count_some (span_at (get_or xs k d) j) (subst (λ m. IsSome (span_at (get_or xs k d) m)) (sym q) some))
    kept j (inr q) = ap count (f j ∙ ap (λ b. cond b (Some value) (span_at (get_or xs k d) j)) (ne_eqb j at q))

-- one more span passed that doesn't reach the position
pub passed_more : (xs : List Span) (k : ℕ) (d y : Span) (at : ℕ) → k < length xs → spans_at (take k xs) at ≡ None → span_at y at ≡ None → spans_at (take (k + 1) (set xs k y)) at ≡ None
passed_more xs k d y at h none e = ap (λ ys. spans_at ys at) (take_more_set xs k y h) ∙ spans_at-push (take k xs) y at ∙ ap (λ v. or_else v (span_at y at)) none ∙ e

pub none_of_is_some : (a : Option ℤ) → false ≡ is_some a → a ≡ None
none_of_is_some None e = refl
none_of_is_some (Some x) e = absurd (false≢true e)

-- one more span copied
pub copied_more : (xs ps qs : List Span) (k low high i : ℕ) (d p : Span) → k < length xs → d ≡ get_or xs k d → span_at p i ≡ between low high i (span_at d i) → spans_at ps i ≡ between low high i (spans_at (take k xs) i) → spans_at qs i ≡ or_else (spans_at ps i) (span_at p i) → spans_at qs i ≡ between low high i (spans_at (take (k + 1) xs) i)
copied_more xs ps qs k low high i d p h e f g j =
    j ∙ ap (λ v. or_else v (span_at p i)) g ∙ ap (or_else (between low high i (spans_at (take k xs) i))) f
    ∙ between-or_else low high i (spans_at (take k xs) i) (span_at d i) ∙ ap (between low high i) (sym (at_more xs k d i h e))

pub copied_count : (xs ps qs : List Span) (k low high i : ℕ) (d p : Span) → k < length xs → d ≡ get_or xs k d → span_at p i ≡ between low high i (span_at d i) → holders ps i ≤ holders (take k xs) i → holders qs i ≡ holders ps i + count (span_at p i) → holders qs i ≤ holders (take (k + 1) xs) i
copied_count xs ps qs k low high i d p h e f g j =
    let less : count (span_at p i) ≤ count (span_at d i) = subst (λ v. count v ≤ count (span_at d i)) (sym f) (count-between low high i (span_at d i)) in
    omega (arith, count_more xs k d i h e)

pub some_or_else : (a b : Option ℤ) → (IsSome a) ⊎ (IsSome b) → IsSome (or_else a b)
some_or_else None b (inl s) = absurd (false≢true s)
some_or_else None b (inr s) = s
some_or_else (Some x) b s = refl

-- a position that one span reaches
pub some_around : (xs : List Span) (k : ℕ) (d : Span) (i : ℕ) → k < length xs → IsSome (span_at (get_or xs k d) i) → IsSome (spans_at xs i)
some_around xs k d i h s = subst IsSome (sym (around xs k d i h)) (some_or_else _ _ (inr (some_or_else _ _ (inl s))))

pub count_sum : (a b : Option ℤ) → count (or_else a b) ≤ count a + count b
count_sum None b = omega arith
count_sum (Some x) b = omega arith

pub count_spans : (xs : List Span) (i : ℕ) → count (spans_at xs i) ≤ holders xs i
count_spans [] i = omega arith
count_spans (x ∷ xs) i = omega (arith, count_spans xs i, count_sum (span_at x i) (spans_at xs i))

pub remove-set : (xs : List Span) (k : ℕ) (y : Span) → k < length xs → remove (set xs k y) k ≡ take k xs ++ drop (suc k) xs
remove-set [] k y h = absurd (omega arith)
remove-set (x ∷ xs) zero y h = refl
remove-set (x ∷ xs) (suc k) y h = ap (λ ys. x ∷ ys) (remove-set xs k y (omega arith))

moved_front : (f x t u : Option ℤ) → count x + count t ≤ 1 → or_else (or_else f x) (or_else t u) ≡ or_else f (or_else t (or_else x u))
moved_front f x t u h =
    or_else_assoc f x (or_else t u)
    ∙ ap (or_else f) (sym (or_else_assoc x t u) ∙ ap (λ v. or_else v u) (or_else_swap x t h) ∙ or_else_assoc t x u)

-- the k-th span joined to the first
pub joined_first : (f g : Span) (xs : List Span) (k : ℕ) (d y : Span) (i : ℕ) → k < length xs → count (span_at g i) ≡ count (span_at f i) + count (span_at (get_or xs k d) i) → (count (span_at f i) + count (span_at (get_or xs k d) i) ≤ 1 → span_at g i ≡ or_else (span_at f i) (span_at (get_or xs k d) i)) → (holders (g ∷ remove (set xs k y) k) i ≡ holders (f ∷ xs) i) × (holders (f ∷ xs) i ≤ 1 → spans_at (g ∷ remove (set xs k y) k) i ≡ spans_at (f ∷ xs) i)
joined_first f g xs k d y i h e s =
    let r = remove-set xs k y h in
    let n = count_around xs k d i h in (
      omega (arith, n, e, ap (λ ys. holders ys i) r ∙ holders-append (take k xs) (drop (suc k) xs) i),
      λ le.
          ap (or_else (span_at g i)) (ap (λ ys. spans_at ys i) r ∙ spans_at-append (take k xs) (drop (suc k) xs) i)
          ∙ ap (λ v. or_else v (or_else (spans_at (take k xs) i) (spans_at (drop (suc k) xs) i))) (s (omega (arith, n, le)))
          ∙ moved_front (span_at f i) (span_at (get_or xs k d) i) (spans_at (take k xs) i) (spans_at (drop (suc k) xs) i) (omega (arith, n, le, count_spans (take k xs) i))
          ∙ ap (or_else (span_at f i)) (sym (around xs k d i h)),
    )

-- the last of the spans moved to the front
pub moved_last : (a : Option ℤ) (xs : List Span) (x : Span) (i : ℕ) → count (span_at x i) + holders xs i ≤ 1 → or_else (or_else a (span_at x i)) (spans_at xs i) ≡ or_else a (spans_at (xs ++ x ∷ []) i)
moved_last a xs x i h =
    or_else_assoc a (span_at x i) (spans_at xs i)
    ∙ ap (or_else a) (or_else_swap (span_at x i) (spans_at xs i) (omega (arith, count_spans xs i)) ∙ sym (spans_at-push xs x i))

none_unless : (a : Option ℤ) → (IsSome a → ⊥) → a ≡ None
none_unless None f = refl
none_unless (Some x) f = absurd (f refl)

-- one more span that doesn't reach a position
pub neither : (xs : List Span) (k : ℕ) (d : Span) (i : ℕ) → k < length xs → d ≡ get_or xs k d → spans_at (take k xs) i ≡ None → (IsSome (span_at d i) → ⊥) → spans_at (take (k + 1) xs) i ≡ None
neither xs k d i h e none f = at_more xs k d i h e ∙ ap (λ v. or_else v (span_at d i)) none ∙ none_unless (span_at d i) f

pub either_more : (xs : List Span) (k : ℕ) (d : Span) (i : ℕ) → k < length xs → d ≡ get_or xs k d → IsSome (spans_at (take (k + 1) xs) i) → (IsSome (spans_at (take k xs) i)) ⊎ (IsSome (span_at d i))
either_more xs k d i h e s = either (spans_at (take k xs) i) (span_at d i) (subst IsSome (at_more xs k d i h e) s)
  where
    either : (a b : Option ℤ) → IsSome (or_else a b) → (IsSome a) ⊎ (IsSome b)
    either None b t = inr t
    either (Some x) b t = inl refl

pub swap_last : (a b c : Option ℤ) → count b + count c ≤ 1 → or_else (or_else a b) c ≡ or_else (or_else a c) b
swap_last a b c h = or_else_assoc a b c ∙ ap (or_else a) (or_else_swap b c h) ∙ sym (or_else_assoc a c b)

-- a span pushed behind the others
pub pushed_last : (f g : Span) (xs : List Span) (x y : Span) (i : ℕ) → span_at g i ≡ span_at f i → span_at y i ≡ span_at x i → (spans_at (g ∷ (xs ++ y ∷ [])) i ≡ or_else (spans_at (f ∷ xs) i) (span_at x i)) × (holders (g ∷ (xs ++ y ∷ [])) i ≡ holders (f ∷ xs) i + count (span_at x i))
pushed_last f g xs x y i e s = (
  ap (λ v. or_else v (spans_at (xs ++ y ∷ []) i)) e ∙ ap (or_else (span_at f i)) (spans_at-push xs y i ∙ ap (or_else (spans_at xs i)) s) ∙ sym (or_else_assoc (span_at f i) (spans_at xs i) (span_at x i)),
  omega (arith, ap count e, ap count s, holders-push xs y i),
)

pub joined_item : (f g : Span) (xs : List Span) (k : ℕ) (d y : Span) (i : ℕ) → k < length xs → d ≡ get_or xs k d → count (span_at g i) ≡ count (span_at f i) + count (span_at d i) → (count (span_at f i) + count (span_at d i) ≤ 1 → span_at g i ≡ or_else (span_at f i) (span_at d i)) → (holders (g ∷ remove (set xs k y) k) i ≡ holders (f ∷ xs) i) × (holders (f ∷ xs) i ≤ 1 → spans_at (g ∷ remove (set xs k y) k) i ≡ spans_at (f ∷ xs) i)
joined_item f g xs k d y i h is e s =
    joined_first f g xs k d y i h
    (subst (λ v. count (span_at g i) ≡ count (span_at f i) + count (span_at v i)) is e)
    (subst (λ v. count (span_at f i) + count (span_at v i) ≤ 1 → span_at g i ≡ or_else (span_at f i) (span_at v i)) is s)

pub same_item : (xs : List Span) (k : ℕ) (d y : Span) (i : ℕ) → k < length xs → d ≡ get_or xs k d → span_at y i ≡ span_at d i → (spans_at (set xs k y) i ≡ spans_at xs i) × (holders (set xs k y) i ≡ holders xs i)
same_item xs k d y i h is e = same_set xs k d y i h (e ∙ ap (λ v. span_at v i) is)
