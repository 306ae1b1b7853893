-- A text reads as one thing alone, and each token has the text of its span.
use Rattle.std.proofs.Common.{◌≡◌, ◌≢◌, ℕ, ◌<◌, List, [], ◌∷◌, ◌++◌, length, codes, pos, ⊎_elim}
use Rattle.std.proofs.Common.{eqb-true, Bool, true, false, not, ◌&&◌, ◌||◌, ◌==◌, if◌then◌else◌}
use Rattle.std.proofs.Common.{Err, refl, sym, ap, subst, ◌∙◌, arith}
use Rattle.std.specs.List.{list_all}
use Rattle.std.proofs.lemmas.Bool.{and_parts, or_cases, or_left, or_right, not-true}
use Rattle.loop_lex.specs.declared.token.TokenKind.TheVariants as kinds
use Rattle.std.specs.Char.{is_ascii_digit}
use Rattle.loop_lex.specs.declared.token.TokenKind.{TokenKind}
use Rattle.loop_lex.specs.declared.token.LexFault.{LexFault}
use Rattle.loop_lex.specs.declared.token.LexFault.TheVariants as faults
use Rattle.loop_lex.specs.Bytes.{is_one_of, is_blank, starts_word, is_single_sign, begins_double}
use Rattle.loop_lex.specs.Lexical.{Form, AWord, ALiteral, ASign, IsForm, word, literal, single}
use Rattle.loop_lex.specs.Lexical.{double, IsLongest, IsKind, word_kind, sign_kind, literal_kind}
use Rattle.loop_lex.specs.Lexical.{IsComment, EndsLine, IsBad, Reading, before, ReadsAs, at_end}
use Rattle.loop_lex.specs.Lexical.{blank, comment, token, bad_byte, too_large, token_after}
use Rattle.loop_lex.specs.Lexical.{place_of, decimal, greatest, IsCause, IsOnlyReading}
use Rattle.loop_lex.proofs.Forms.{one_of, single_no_run, double_no_run, digit_no_word}

-- a token stands at the front
abbrev begins_token : ℕ → List ℕ → Bool
begins_token b bs = (starts_word b || is_ascii_digit b) || (is_single_sign b || begins_double (b ∷ bs))

-- what stands at the front: nothing, a blank, a comment, a token or a bad byte
abbrev class_of : List ℕ → ℕ
class_of [] = 0
class_of (b ∷ bs) = if is_blank b then 1 else (if b == 35 then 2 else (if begins_token b bs then 3 else 4))

abbrev class_read : {front rest : List ℕ} {read : Reading} → ReadsAs front rest read → ℕ
class_read at_end = 0
class_read (blank h z) = 1
class_read (comment c z) = 2
class_read (token f k z) = 3
class_read (bad_byte b) = 4
class_read (too_large r f g) = 3

never : {A : Type 0} (b : Bool) → b ≡ true → b ≡ false → A
never b h k = absurd (let e : true ≡ false = sym h ∙ k in cc)

refuted : (b : Bool) → (b ≡ true → ⊥) → b ≡ false
refuted true f = absurd (f refl)
refuted false f = refl

-- where the test passes, no gap begins
no_gap : (p : ℕ → Bool) (b : ℕ) → list_all (λ c. not (p c)) (codes "# \t\r\n") ≡ true → p b ≡ true → (is_blank b ≡ false) × ((b == 35) ≡ false)
no_gap p b h k =
    let q = and_parts (not (p 35)) (list_all (λ c. not (p c)) (codes " \t\r\n")) h in (
      refuted (is_blank b) (λ e. never (p b) k (not-true (p b) (one_of (λ c. not (p c)) (codes " \t\r\n") b q.1 e))),
      refuted (b == 35) (λ e. never (p b) k (ap p (eqb-true b 35 e) ∙ not-true (p 35) q.0)),
    )

class_token : (b : ℕ) (bs : List ℕ) → (is_blank b ≡ false) × ((b == 35) ≡ false) → begins_token b bs ≡ true → class_of (b ∷ bs) ≡ 3
class_token b bs g h =
    ap (λ t. if t then 1 else (if b == 35 then 2 else (if begins_token b bs then 3 else 4))) g.0
    ∙ ap (λ t. if t then 2 else (if begins_token b bs then 3 else 4)) g.1
    ∙ ap (λ t. if t then 3 else 4) h

class_form : {form : Form} {bytes : List ℕ} (rest : List ℕ) → IsForm form bytes → class_of (bytes ++ rest) ≡ 3
class_form rest (word {b} {bs} h k) = class_token b (bs ++ rest) (no_gap starts_word b refl h) (or_left (starts_word b || is_ascii_digit b) _ (or_left (starts_word b) (is_ascii_digit b) h))
class_form rest (literal {b} {bs} h k) = class_token b (bs ++ rest) (no_gap is_ascii_digit b refl h) (or_left (starts_word b || is_ascii_digit b) _ (or_right (starts_word b) (is_ascii_digit b) h))
class_form rest (single {b} h) =
    class_token b rest (no_gap is_single_sign b refl h) (or_right (starts_word b || is_ascii_digit b) _ (or_left (is_single_sign b) (begins_double (b ∷ rest)) h))
class_form rest (double {a} {b} h) =
    class_token a (b ∷ rest)
    (no_gap (λ c. is_one_of (codes "=!<>") c || c == 46) a refl (⊎_elim
    (λ k. or_left (is_one_of (codes "=!<>") a) (a == 46) (and_parts (is_one_of (codes "=!<>") a) (b == 61) k).0)
    (λ k. or_right (is_one_of (codes "=!<>") a) (a == 46) (and_parts (a == 46) (b == 46) k).0)
    (or_cases (is_one_of (codes "=!<>") a && b == 61) (a == 46 && b == 46) h)))
    (or_right (starts_word a || is_ascii_digit a) _ (or_right (is_single_sign a) (begins_double (a ∷ b ∷ rest)) h))

double_stands : (b : ℕ) (bs : List ℕ) → IsBad b bs → begins_double (b ∷ bs) ≡ true → ⊥
double_stands b [] h e = cc
double_stands b (c ∷ bs) h e = h.no_token ASign (b ∷ c ∷ []) (double e) (bs, refl)

bad_begins : (b : ℕ) (bs : List ℕ) → IsBad b bs → begins_token b bs ≡ true → ⊥
bad_begins b bs h e = ⊎_elim
    (λ k. ⊎_elim (λ w. h.no_token AWord (b ∷ []) (word w refl) (bs, refl)) (λ d. h.no_token ALiteral (b ∷ []) (literal d refl) (bs, refl)) (or_cases (starts_word b) (is_ascii_digit b) k))
    (λ k. ⊎_elim (λ s. h.no_token ASign (b ∷ []) (single s) (bs, refl)) (λ d. double_stands b bs h d) (or_cases (is_single_sign b) (begins_double (b ∷ bs)) k))
    (or_cases (starts_word b || is_ascii_digit b) (is_single_sign b || begins_double (b ∷ bs)) e)

class_bad : (b : ℕ) (bs : List ℕ) → IsBad b bs → class_of (b ∷ bs) ≡ 4
class_bad b bs h =
    ap (λ t. if t then 1 else (if b == 35 then 2 else (if begins_token b bs then 3 else 4))) (refuted (is_blank b) h.no_blank)
    ∙ ap (λ t. if t then 2 else (if begins_token b bs then 3 else 4)) (refuted (b == 35) (λ e. h.no_comment (eqb-true b 35 e)))
    ∙ ap (λ t. if t then 3 else 4) (refuted (begins_token b bs) (bad_begins b bs h))

class_is : {front rest : List ℕ} {read : Reading} (z : ReadsAs front rest read) → class_of rest ≡ class_read z
class_is at_end = refl
class_is (blank {rest} {byte} h z) = ap (λ t. if t then 1 else (if byte == 35 then 2 else (if begins_token byte rest then 3 else 4))) h
class_is (comment {rest} c z) = ap (λ t. class_of (t ++ rest)) c.begins
class_is (token {rest} f k z) = class_form rest f.is_form
class_is (bad_byte {rest} {byte} b) = class_bad byte rest b
class_is (too_large rest f g) = class_form rest f.is_form

split_same : (w r v s : List ℕ) → w ++ r ≡ v ++ s → length w ≡ length v → (w ≡ v) × (r ≡ s)
split_same [] r [] s e l = (refl, e)
split_same [] r (y ∷ v) s e l = absurd (omega arith)
split_same (x ∷ w) r [] s e l = absurd (omega arith)
split_same (x ∷ w) r (y ∷ v) s e l =
    let head : x ≡ y = cc in
    let tail : w ++ r ≡ v ++ s = cc in
    let q = split_same w r v s tail (omega arith) in
    (ap (λ z. z ∷ w) head ∙ ap (λ z. y ∷ z) q.0, q.1)

longest_same : {f g : Form} (w r v s : List ℕ) → IsLongest f w (w ++ r) → IsLongest g v (v ++ s) → w ++ r ≡ v ++ s → (w ≡ v) × (r ≡ s)
longest_same {f} {g} w r v s x y e =
    let a = x.longest g v y.is_form (s, e) in
    let b = y.longest f w x.is_form (r, sym e) in
    split_same w r v s e (omega arith)

comment_same : (w r v s : List ℕ) → w ++ r ≡ v ++ s → list_all (λ c. not (c == 10)) w ≡ true → list_all (λ c. not (c == 10)) v ≡ true → EndsLine r → EndsLine s → (w ≡ v) × (r ≡ s)
comment_same [] r [] s e h k p q = (refl, e)
comment_same [] r (y ∷ v) s e h k p q =
    let a : y ≡ 10 = subst EndsLine e p in
    let b = and_parts (not (y == 10)) (list_all (λ c. not (c == 10)) v) k in
    never (not (y == 10)) b.0 (ap (λ c. not (c == 10)) a)
comment_same (x ∷ w) r [] s e h k p q =
    let a : x ≡ 10 = subst EndsLine (sym e) q in
    let b = and_parts (not (x == 10)) (list_all (λ c. not (c == 10)) w) h in
    never (not (x == 10)) b.0 (ap (λ c. not (c == 10)) a)
comment_same (x ∷ w) r (y ∷ v) s e h k p q =
    let head : x ≡ y = cc in
    let tail : w ++ r ≡ v ++ s = cc in
    let m = comment_same w r v s tail (and_parts (not (x == 10)) _ h).1 (and_parts (not (y == 10)) _ k).1 p q in
    (ap (λ z. z ∷ w) head ∙ ap (λ z. y ∷ z) m.0, m.1)

comments_same : {w r v s : List ℕ} → IsComment w r → IsComment v s → w ++ r ≡ v ++ s → (w ≡ v) × (r ≡ s)
comments_same {w} {r} {v} {s} c d e =
    let f : 35 ∷ (c.after ++ r) ≡ 35 ∷ (d.after ++ s) = ap (λ t. t ++ r) (sym c.begins) ∙ e ∙ ap (λ t. t ++ s) d.begins in
    let tail : c.after ++ r ≡ d.after ++ s = cc in
    let m = comment_same c.after r d.after s tail c.within_line d.within_line c.ends d.ends in
    (c.begins ∙ ap (λ z. 35 ∷ z) m.0 ∙ sym d.begins, m.1)

-- the form of the first byte
form_of : List ℕ → Form
form_of [] = ASign
form_of (b ∷ bs) = if starts_word b then AWord else (if is_ascii_digit b then ALiteral else ASign)

form_is : {f : Form} {w : List ℕ} → IsForm f w → form_of w ≡ f
unfolding form_of
form_is (word {b} h k) = ap (λ t. if t then AWord else (if is_ascii_digit b then ALiteral else ASign)) h
form_is (literal {b} h k) = ap (λ t. if t then AWord else (if is_ascii_digit b then ALiteral else ASign)) (digit_no_word b h) ∙ ap (λ t. if t then ALiteral else ASign) h
form_is (single {b} h) = let q = single_no_run b h in ap (λ t. if t then AWord else (if is_ascii_digit b then ALiteral else ASign)) q.0 ∙ ap (λ t. if t then ALiteral else ASign) q.1
form_is (double {a} {b} h) = let q = double_no_run a b h in ap (λ t. if t then AWord else (if is_ascii_digit a then ALiteral else ASign)) q.0 ∙ ap (λ t. if t then ALiteral else ASign) q.1

kind_same : {f g : Form} {w v : List ℕ} {k l : TokenKind} → IsKind f w k → IsKind g v l → f ≡ g → w ≡ v → k ≡ l
kind_same word_kind word_kind e h = refl
kind_same sign_kind sign_kind e h = refl
kind_same (literal_kind a) (literal_kind b) e h = ap (λ t. kinds.Int (pos (decimal t))) h
kind_same word_kind sign_kind e h = cc
kind_same word_kind (literal_kind b) e h = cc
kind_same sign_kind word_kind e h = cc
kind_same sign_kind (literal_kind b) e h = cc
kind_same (literal_kind a) word_kind e h = cc
kind_same (literal_kind a) sign_kind e h = cc

not_large : {f : Form} {w : List ℕ} {k : TokenKind} (v : List ℕ) → IsKind f w k → f ≡ ALiteral → w ≡ v → greatest < decimal v → ⊥
not_large v word_kind e h g = cc
not_large v sign_kind e h g = cc
not_large v (literal_kind a) e h g = omega (arith, a, ap decimal h, g)

same_front : (f g w v : List ℕ) → f ≡ g → w ≡ v → f ++ w ≡ g ++ v
same_front f g w v e h = ap (λ z. z ++ w) e ∙ ap (λ z. g ++ z) h

reads_one : {f s f' s' : List ℕ} {r r' : Reading} → ReadsAs f s r → ReadsAs f' s' r' → f ≡ f' → s ≡ s' → r ≡ r'
reads_one at_end at_end e h = refl
reads_one (blank {front = f} {rest = r} {byte = b} p z) (blank {front = g} {rest = s} {byte = c} q y) e h =
    let head : b ≡ c = cc in
    let tail : r ≡ s = cc in
    reads_one z y (same_front f g (b ∷ []) (c ∷ []) e (ap (λ x. x ∷ []) head)) tail
reads_one (comment {front = f} {bytes = w} c z) (comment {front = g} {bytes = v} d y) e h =
    let m = comments_same c d h in reads_one z y (same_front f g w v e m.0) m.1
reads_one (token {front = f} {bytes = w} {rest = r} {kind = k} {read = a} x p z) (token {front = g} {bytes = v} {rest = s} {kind = l} {read = b} y q u) e h =
    let m = longest_same w r v s x y h in
    let n : k ≡ l = kind_same p q (sym (form_is x.is_form) ∙ ap form_of m.0 ∙ form_is y.is_form) m.0 in
    ap (λ t. before (token_after t w k) a) e ∙ ap (λ t. before (token_after g t k) a) m.0 ∙ ap (λ t. before (token_after g v t) a) n
    ∙ ap (before (token_after g v l)) (reads_one z u (same_front f g w v e m.0) m.1)
reads_one (token {bytes = w} {rest = r} x p z) (too_large {bytes = v} s y g) e h =
    let m = longest_same w r v s x y h in absurd (not_large v p (sym (form_is x.is_form) ∙ ap form_of m.0 ∙ form_is y.is_form) m.0 g)
reads_one (too_large {bytes = v} s y g) (token {bytes = w} {rest = r} x p z) e h =
    let m = longest_same w r v s x y (sym h) in absurd (not_large v p (sym (form_is x.is_form) ∙ ap form_of m.0 ∙ form_is y.is_form) m.0 g)
reads_one (too_large s y g) (too_large r x f) e h = ap (λ t. Err (faults.Range (place_of t))) e
reads_one (bad_byte b) (bad_byte c) e h = ap (λ t. Err (faults.Byte (place_of t))) e
reads_one x y e h = let c : class_read x ≡ class_read y = sym (class_is x) ∙ ap class_of h ∙ class_is y in cc

pub one_reading : (source : List ℕ) (a b : Reading) → ReadsAs [] source a → ReadsAs [] source b → b ≡ a
one_reading source a b x y = reads_one y x refl refl

pub only_cause : (source : List ℕ) (fault : LexFault) → IsCause source fault → fault ≢ faults.NoMemory → IsOnlyReading source (Err fault)
only_cause source (faults.Byte place) z n = λ other y. one_reading source (Err (faults.Byte place)) other z y
only_cause source (faults.Range place) z n = λ other y. one_reading source (Err (faults.Range place)) other z y
only_cause source faults.NoMemory z n = absurd (n refl)
