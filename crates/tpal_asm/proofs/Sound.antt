-- What is read from the front of a text stands there, spelled in the one way.
use Rattle.std.proofs.Common.{◌≡◌, ◌≢◌, ◌⊎◌, ℕ, ◌+◌, ◌-◌, ◌*◌, ◌/◌, ◌%◌, ◌^◌, ◌<◌, ◌≤◌, Bool, true}
use Rattle.std.proofs.Common.{false, cond, eqb, leb, ltb, ◌&&◌, List, [], ◌∷◌, ◌++◌, Option, Some}
use Rattle.std.proofs.Common.{None, get_or, refl, sym, ap, ◌∙◌, inl, inr, append_assoc, arith}
use Rattle.std.specs.Prelude.{codes}
use Rattle.std.specs.List.{list_all}
use Rattle.std.specs.Fmt.{decimal}
use Rattle.std.proofs.lemmas.Fmt.{decimal_step, decimal_digit}
use Rattle.std.proofs.lemmas.Bool.{eqb-true, leb-true}
use Rattle.std.proofs.lemmas.Bool.Decides.{nat_tests}
use Rattle.tpal_syntax.specs.Parts.{is_letter, is_word_byte, is_word}
use Rattle.tpal_syntax.specs.Text.{register_text, table_text}
use Rattle.tpal_syntax.specs.Readers.{◌>>=◌, after, branch, is_digit, no_digit, digits_at}
use Rattle.tpal_syntax.specs.Readers.{number_at, word_bytes, word_at, register_at, table_at}
use Rattle.tpal_print.proofs.Pieces.{and_left, and_right}

-- ---- steps of a reading

-- a step that goes on has read something
pub bind : {A B : Type 0} (o : Option A) (k : A → Option B) (y : B) → (o >>= k) ≡ Some y → (x : A) × (o ≡ Some x) × (k x ≡ Some y)
bind (Some x) k y e = (x, refl, e)
bind None k y e = absurd cc

-- where bytes come first, or where they don't
pub chosen : {A : Type 0} (o : Option (List ℕ)) (k : List ℕ → Option A) (other : Option A) (y : A) → branch o k other ≡ Some y → ((rest : List ℕ) × (o ≡ Some rest) × (k rest ≡ Some y)) ⊎ (other ≡ Some y)
chosen (Some rest) k other y e = inl (rest, refl, e)
chosen None k other y e = inr e

same_byte : (t l : ℕ) (b : Bool) (o : Option (List ℕ)) (rest : List ℕ) → eqb t l ≡ b → cond b o None ≡ Some rest → (t ≡ l) × (o ≡ Some rest)
same_byte t l true o rest e read = (eqb-true t l e, read)
same_byte t l false o rest e read = absurd cc

pub after-sound : (ls ts rest : List ℕ) → after ls ts ≡ Some rest → ts ≡ ls ++ rest
after-sound [] ts rest e = cc
after-sound (l ∷ ls) [] rest e = absurd cc
after-sound (l ∷ ls) (t ∷ ts) rest e =
    let s = same_byte t l (eqb t l) (after ls ts) rest refl e in
    ap (λ (b : ℕ). b ∷ ts) s.0 ∙ ap (λ (x : List ℕ). l ∷ x) (after-sound ls ts rest s.1)

pub none_some : {A : Type 0} (x : A) → None ≡ Some x → ⊥
none_some x e = cc

pub same : {A : Type 0} (a b : A) → Some a ≡ Some b → a ≡ b
same a b e = cc

-- ---- pieces of a text, joined from the front

pub join2 : (a b r : List ℕ) → a ++ (b ++ r) ≡ (a ++ b) ++ r
join2 a b r = sym (append_assoc a b r)

pub join3 : (a b c r : List ℕ) → a ++ (b ++ (c ++ r)) ≡ (a ++ (b ++ c)) ++ r
join3 a b c r = ap (λ (x : List ℕ). a ++ x) (join2 b c r) ∙ join2 a (b ++ c) r

pub join4 : (a b c d r : List ℕ) → a ++ (b ++ (c ++ (d ++ r))) ≡ (a ++ (b ++ (c ++ d))) ++ r
join4 a b c d r = ap (λ (x : List ℕ). a ++ x) (join3 b c d r) ∙ join2 a (b ++ (c ++ d)) r

pub join5 : (a b c d e r : List ℕ) → a ++ (b ++ (c ++ (d ++ (e ++ r)))) ≡ (a ++ (b ++ (c ++ (d ++ e)))) ++ r
join5 a b c d e r = ap (λ (x : List ℕ). a ++ x) (join4 b c d e r) ∙ join2 a (b ++ (c ++ (d ++ e))) r

pub join6 : (a b c d e f r : List ℕ) → a ++ (b ++ (c ++ (d ++ (e ++ (f ++ r))))) ≡ (a ++ (b ++ (c ++ (d ++ (e ++ f))))) ++ r
join6 a b c d e f r = ap (λ (x : List ℕ). a ++ x) (join5 b c d e f r) ∙ join2 a (b ++ (c ++ (d ++ (e ++ f)))) r

pub join7 : (a b c d e f g r : List ℕ) → a ++ (b ++ (c ++ (d ++ (e ++ (f ++ (g ++ r)))))) ≡ (a ++ (b ++ (c ++ (d ++ (e ++ (f ++ g)))))) ++ r
join7 a b c d e f g r = ap (λ (x : List ℕ). a ++ x) (join6 b c d e f g r) ∙ join2 a (b ++ (c ++ (d ++ (e ++ (f ++ g))))) r

pub join8 : (a b c d e f g h r : List ℕ) → a ++ (b ++ (c ++ (d ++ (e ++ (f ++ (g ++ (h ++ r))))))) ≡ (a ++ (b ++ (c ++ (d ++ (e ++ (f ++ (g ++ h))))))) ++ r
join8 a b c d e f g h r = ap (λ (x : List ℕ). a ++ x) (join7 b c d e f g h r) ∙ join2 a (b ++ (c ++ (d ++ (e ++ (f ++ (g ++ h)))))) r

-- ---- numbers

-- one digit more
decimal-more : (n t : ℕ) → 0 < n → is_digit t ≡ true → 10 * n + (t - 48) < 2 ^ 64 → decimal (10 * n + (t - 48)) ≡ decimal n ++ (t ∷ [])
decimal-more n t lo digit small =
    let low : 48 ≤ t = leb-true 48 t (and_left (leb 48 t) (leb t 57) digit) in
    let high : t ≤ 57 = leb-true t 57 (and_right (leb 48 t) (leb t 57) digit) in
    let m = 10 * n + (t - 48) in
    let front : m / 10 ≡ n = omega arith in
    let end : 48 + m % 10 ≡ t = omega arith in
    decimal_step m (omega arith) small ∙ ap (λ (k : ℕ). decimal k ++ ((48 + m % 10) ∷ [])) front ∙ ap (λ (d : ℕ). decimal n ++ (d ∷ [])) end

pub digit_case : (b c : Bool) (o : Option (ℕ × List ℕ)) (n : ℕ) (ts : List ℕ) (m : ℕ) (rest : List ℕ) → cond b (cond c o None) (Some (n, ts)) ≡ Some (m, rest)
    → ((b ≡ true) × (c ≡ true) × (o ≡ Some (m, rest))) ⊎ ((n ≡ m) × (ts ≡ rest))
digit_case true true o n ts m rest e = inl (refl, refl, e)
digit_case true false o n ts m rest e = absurd cc
digit_case false c o n ts m rest e = inr (ap (λ (p : ℕ × List ℕ). p.0) (same _ _ e), ap (λ (p : ℕ × List ℕ). p.1) (same _ _ e))

digits-sound : (limit n : ℕ) (ts : List ℕ) (m : ℕ) (rest : List ℕ) → limit < 2 ^ 64 → 0 < n → digits_at limit n ts ≡ Some (m, rest) → decimal n ++ ts ≡ decimal m ++ rest
unfolding digits_at
digits-sound limit n [] m rest small lo e = ap (λ (p : ℕ × List ℕ). decimal p.0 ++ p.1) (same _ _ e)
digits-sound limit n (t ∷ ts) m rest small lo e =
    let next = 10 * n + (t - 48) in
    elim (digit_case (is_digit t) (leb next limit) (digits_at limit next ts) n (t ∷ ts) m rest e) [
      | inl h ↦
          let le = leb-true next limit h.1 in
          let here = decimal-more n t lo h.0 (omega arith) in
          let there = digits-sound limit next ts m rest small (omega arith) h.2 in
          sym (append_assoc (decimal n) (t ∷ []) ts) ∙ ap (λ (x : List ℕ). x ++ ts) (sym here) ∙ there
      | inr h ↦ ap (λ (k : ℕ). decimal k ++ (t ∷ ts)) h.0 ∙ ap (λ (x : List ℕ). decimal m ++ x) h.1
    ]

pub zero_case : (b : Bool) (ts : List ℕ) (m : ℕ) (rest : List ℕ) → cond {A = Option (ℕ × List ℕ)} b (Some (0, ts)) None ≡ Some (m, rest) → (0 ≡ m) × (ts ≡ rest)
zero_case true ts m rest e = (ap (λ (p : ℕ × List ℕ). p.0) (same _ _ e), ap (λ (p : ℕ × List ℕ). p.1) (same _ _ e))
zero_case false ts m rest e = absurd cc

pub first_case : (t : ℕ) (z b c : Bool) (o p : Option (ℕ × List ℕ)) (m : ℕ) (rest : List ℕ) → cond z o (cond b (cond c p None) None) ≡ Some (m, rest)
    → ((z ≡ true) × (o ≡ Some (m, rest))) ⊎ ((z ≡ false) × (b ≡ true) × (p ≡ Some (m, rest)))
first_case t true b c o p m rest e = inl (refl, e)
first_case t false true true o p m rest e = inr (refl, refl, e)
first_case t false true false o p m rest e = absurd cc
first_case t false false c o p m rest e = absurd cc

pub number-sound : (limit : ℕ) (ts : List ℕ) (m : ℕ) (rest : List ℕ) → limit < 2 ^ 64 → number_at limit ts ≡ Some (m, rest) → ts ≡ decimal m ++ rest
unfolding number_at
number-sound limit [] m rest small e = absurd cc
number-sound limit (t ∷ ts) m rest small e =
    elim (first_case t (eqb t 48) (is_digit t) (leb (t - 48) limit) (cond (no_digit ts) (Some (0, ts)) None) (digits_at limit (t - 48) ts) m rest e) [
      | inl h ↦
          let z = zero_case (no_digit ts) ts m rest h.1 in
          ap (λ (b : ℕ). b ∷ ts) (eqb-true t 48 h.0) ∙ ap (λ (x : List ℕ). x ++ ts) (sym (decimal_digit 0 (omega arith)))
          ∙ ap (λ (k : ℕ). decimal k ++ ts) z.0 ∙ ap (λ (x : List ℕ). decimal m ++ x) z.1
      | inr h ↦
          let low : 48 ≤ t = leb-true 48 t (and_left (leb 48 t) (leb t 57) h.1) in
          let high : t ≤ 57 = leb-true t 57 (and_right (leb 48 t) (leb t 57) h.1) in
          let other : t ≢ 48 = λ q. not_same t h.0 q in
          let digit = decimal_digit (t - 48) (omega arith) in
          let is : 48 + (t - 48) ≡ t = omega arith in
          ap (λ (b : ℕ). b ∷ ts) (sym is) ∙ ap (λ (x : List ℕ). x ++ ts) (sym digit)
          ∙ digits-sound limit (t - 48) ts m rest small (omega arith) h.2
    ]
  where
    not_same : (t : ℕ) → eqb t 48 ≡ false → t ≡ 48 → ⊥
    not_same t e q = grind (arith, nat_tests)

-- ---- words

byte_case : (b : Bool) (t : ℕ) (x y ts : List ℕ) (n rest : List ℕ) → cond {A = Option (List ℕ × List ℕ)} b (Some (t ∷ x, y)) None ≡ Some (n, rest) → (b ≡ true) × (t ∷ x ≡ n) × (y ≡ rest)
byte_case true t x y ts n rest e = (refl, ap (λ (p : List ℕ × List ℕ). p.0) (same _ _ e), ap (λ (p : List ℕ × List ℕ). p.1) (same _ _ e))
byte_case false t x y ts n rest e = absurd cc

record Split (ts : List ℕ) (p : List ℕ × List ℕ) : Type 0 where
  all : list_all is_word_byte p.0 ≡ true
  joined : ts ≡ p.0 ++ p.1

split_more : (b : Bool) (t : ℕ) (ts : List ℕ) (p : List ℕ × List ℕ) → is_word_byte t ≡ b → Split ts p → Split (t ∷ ts) (cond {A = List ℕ × List ℕ} b (t ∷ p.0, p.1) ([], t ∷ ts))
split_more true t ts p e s = record { all = ap (λ (b : Bool). b && list_all is_word_byte p.0) e ∙ s.all; joined = ap (λ (x : List ℕ). t ∷ x) s.joined }
split_more false t ts p e s = record { all = refl; joined = refl }

split : (ts : List ℕ) → Split ts (word_bytes ts)
split [] = record { all = refl; joined = refl }
split (t ∷ ts) = split_more (is_word_byte t) t ts (word_bytes ts) refl (split ts)

pub word-sound : (ts n rest : List ℕ) → word_at ts ≡ Some (n, rest) → (ts ≡ n ++ rest) × (is_word n ≡ true)
unfolding word_at
word-sound [] n rest e = absurd cc
word-sound (t ∷ ts) n rest e =
    let h = byte_case (is_letter t) t (word_bytes ts).0 (word_bytes ts).1 ts n rest e in
    let s = split ts in
    let good : (is_letter t && list_all is_word_byte (word_bytes ts).0) ≡ true = ap (λ (b : Bool). b && list_all is_word_byte (word_bytes ts).0) h.0 ∙ s.all in (
      ap (λ (x : List ℕ). t ∷ x) s.joined ∙ ap (λ (x : List ℕ). x ++ (word_bytes ts).1) h.1 ∙ ap (λ (x : List ℕ). n ++ x) h.2,
      ap is_word (sym h.1) ∙ good,
    )

-- ---- parts

pub register-sound : (ts : List ℕ) (r : ℕ) (rest : List ℕ) → register_at ts ≡ Some (r, rest) → ts ≡ register_text r ++ rest
register-sound ts r rest e =
    let a = bind (after (codes "r") ts) (number_at 31) (r, rest) e in
    after-sound (codes "r") ts a.0 a.1 ∙ ap (λ (x : List ℕ). 114 ∷ x) (number-sound 31 a.0 r rest (omega arith) a.2)

pub table-sound : (ts : List ℕ) (t : ℕ) (rest : List ℕ) → table_at ts ≡ Some (t, rest) → ts ≡ table_text t ++ rest
table-sound ts t rest e =
    let a = bind (after (codes "t") ts) (number_at 15) (t, rest) e in
    after-sound (codes "t") ts a.0 a.1 ∙ ap (λ (x : List ℕ). 116 ∷ x) (number-sound 15 a.0 t rest (omega arith) a.2)

pub size-sound : (ts : List ℕ) (n : ℕ) (rest : List ℕ) → number_at 512 ts ≡ Some (n, rest) → ts ≡ decimal n ++ rest
size-sound ts n rest e = number-sound 512 ts n rest (omega arith) e

-- ---- what a line names

-- a fact about a name, where there is one
abbrev pub OnName : (List ℕ → Type 0) → Option (List ℕ) → Type 0
OnName P None = Unit {0}
OnName P (Some name) = P name

-- the name is the one at its label
abbrev pub Stands : (List ℕ → ℕ) → List (List ℕ) → Option (List ℕ) → Type 0
Stands f names name = OnName (λ n. get_or names (f n) [] ≡ n) name

pub record Named (f : List ℕ → ℕ) (spell : List (List ℕ) → List ℕ) (below : ℕ → Bool) (ts rest : List ℕ) : Type 0 where
  pub name : Option (List ℕ)
  pub word : OnName (λ n. is_word n ≡ true) name
  pub within : (blocks : ℕ) → below blocks ≡ true → OnName (λ n. ltb (f n) blocks ≡ true) name
  pub spelled : (names : List (List ℕ)) → Stands f names name → ts ≡ spell names ++ rest
