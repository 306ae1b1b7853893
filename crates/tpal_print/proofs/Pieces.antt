-- Each part is read from its own text, whatever follows it that is no part of a word.
use Rattle.std.proofs.Common.{◌≡◌, ℕ, zero, suc, ◌+◌, ◌-◌, ◌*◌, ◌/◌, ◌%◌, ◌^◌, ◌<◌, ◌≤◌, Bool, true}
use Rattle.std.proofs.Common.{false, cond, eqb, leb, ltb, ◌&&◌, ◌||◌, List, [], ◌∷◌, ◌++◌, Option}
use Rattle.std.proofs.Common.{Some, None, get_or, pos, negsuc, refl, ap, ◌∙◌, append_assoc, arith}
use Rattle.std.specs.Prelude.{codes, not}
use Rattle.std.specs.List.{list_all}
use Rattle.std.specs.Fmt.{decimal}
use Rattle.std.proofs.lemmas.Fmt.{decimal_by_steps, decimal_digit}
use Rattle.std.proofs.lemmas.Bool.Decides.{nat_tests}
use Rattle.tpal_syntax.specs.Parts.{is_letter, is_word_byte, is_word, is_register, is_place}
use Rattle.tpal_syntax.specs.Parts.{is_place_number, is_value}
use Rattle.std.proofs.lemmas.Bool.{ltb-true, leb-true}
use Rattle.tpal_syntax.specs.Text.{cell_text, place_text, alu_text, trap_text, value_text}
use Rattle.tpal_syntax.specs.declared.instructions.Value.{Value}
use Rattle.tpal_syntax.specs.declared.instructions.Value.TheVariants.{Reg, Int, Label, Nil}
use Rattle.tpal_syntax.specs.declared.instructions.Alu.{Alu}
use Rattle.tpal_syntax.specs.declared.instructions.Alu.TheVariants as alu
use Rattle.tp_value.specs.declared.values.Place.{Place}
use Rattle.tp_value.specs.declared.values.TrapKind.{TrapKind}
use Rattle.tp_value.specs.declared.values.TrapKind.TheVariants.{Divide, Index, Deep, Size, Wide}
use Rattle.tpal_syntax.specs.Readers.{after, is_digit, digits_at, no_digit, number_at, word_bytes}
use Rattle.tpal_syntax.specs.Readers.{word_at, cell_at, place_at, alu_at, trap_at, value_at}
use Rattle.tpal_print.proofs.Reading.{relabel_value}

-- no byte of a word comes next
abbrev pub stops : List ℕ → Bool
stops [] = true
stops (t ∷ ts) = not (is_word_byte t)

-- a test of a digit
digit_test : (d : ℕ) → d < 10 → is_digit (48 + d) ≡ true
digit_test d lt = grind (arith, nat_tests)

over_test : (d : ℕ) → 0 < d → d < 10 → eqb (48 + d) 48 ≡ false
over_test d lo lt = grind (arith, nat_tests)

-- ---- numbers

-- digits in front leave the rest of the digits to be read
abbrev Begins : ℕ → ℕ → List ℕ → Type 0
Begins limit n ds = (rest : List ℕ) → 0 < n → n ≤ limit → number_at limit (ds ++ rest) ≡ digits_at limit n rest

begins : (limit n : ℕ) → n < 2 ^ 64 → Begins limit n (decimal n)
unfolding number_at digits_at
begins limit n small = decimal_by_steps (Begins limit) one more n small
  where
    one : (n : ℕ) → n < 10 → Begins limit n ((48 + n) ∷ [])
    one n lt rest lo le =
        let fits : leb (48 + n - 48) limit ≡ true = grind (arith, nat_tests) in
        let is : 48 + n - 48 ≡ n = omega arith in
        rw (over_test n lo lt, digit_test n lt, fits, is) refl

    more : (n : ℕ) (ds : List ℕ) → 10 ≤ n → Begins limit (n / 10) ds → Begins limit n (ds ++ (48 + n % 10) ∷ [])
    more n ds ge so_far rest lo le =
        let d = n % 10 in
        let fits : leb (10 * (n / 10) + (48 + d - 48)) limit ≡ true = grind (arith, nat_tests) in
        let is : 10 * (n / 10) + (48 + d - 48) ≡ n = omega arith in
        ap (number_at limit) (append_assoc ds ((48 + d) ∷ []) rest)
        ∙ so_far ((48 + d) ∷ rest) (omega arith) (omega arith)
        ∙ rw (digit_test d (omega arith), fits, is) refl

-- what is no part of a word is no digit
no_digit-stops : (ts : List ℕ) → stops ts ≡ true → no_digit ts ≡ true
no_digit-stops [] s = refl
no_digit-stops (t ∷ ts) s = go (is_letter t) (is_digit t) s
  where
    go : (l d : Bool) → not (l || d) ≡ true → not d ≡ true
    go true d e = absurd cc
    go false d e = e

digits_at-end : (limit n : ℕ) (rest : List ℕ) → no_digit rest ≡ true → digits_at limit n rest ≡ Some (n, rest)
unfolding digits_at
digits_at-end limit n [] s = refl
digits_at-end limit n (t ∷ ts) s = go (is_digit t) _ s
  where
    go : (d : Bool) (x : Option (ℕ × List ℕ)) → not d ≡ true → cond d x (Some (n, t ∷ ts)) ≡ Some (n, t ∷ ts)
    go true x e = absurd cc
    go false x e = refl

-- a number's digits are read as the number
pub number_comes : (limit n : ℕ) (rest : List ℕ) → n ≤ limit → n < 2 ^ 64 → stops rest ≡ true → number_at limit (decimal n ++ rest) ≡ Some (n, rest)
unfolding number_at
number_comes limit zero rest le small s =
    ap (λ (ds : List ℕ). number_at limit (ds ++ rest)) (decimal_digit 0 (omega arith))
    ∙ ap (λ (b : Bool). cond b (Some (0, rest)) None) (no_digit-stops rest s)
number_comes limit (suc n) rest le small s =
    begins limit (suc n) small rest (omega arith) le ∙ digits_at-end limit (suc n) rest (no_digit-stops rest s)

-- ---- words

pub and_left : (a b : Bool) → (a && b) ≡ true → a ≡ true
and_left true b e = refl
and_left false b e = absurd cc

pub and_right : (a b : Bool) → (a && b) ≡ true → b ≡ true
and_right true b e = e
and_right false b e = absurd cc

pub stops_word : (b x : Bool) → not b ≡ true → b ≡ false
stops_word true x e = absurd cc
stops_word false x e = refl

word_bytes-comes : (n rest : List ℕ) → list_all is_word_byte n ≡ true → stops rest ≡ true → word_bytes (n ++ rest) ≡ (n, rest)
word_bytes-comes [] [] w s = refl
word_bytes-comes [] (t ∷ rest) w s = ap (λ (b : Bool). cond b (t ∷ (word_bytes rest).0, (word_bytes rest).1) ([], t ∷ rest)) (stops_word (is_word_byte t) true s)
word_bytes-comes (b ∷ n) rest w s =
    let read = word_bytes-comes n rest (and_right (is_word_byte b) (list_all is_word_byte n) w) s in
    ap (λ (x : Bool). cond x (b ∷ (word_bytes (n ++ rest)).0, (word_bytes (n ++ rest)).1) ([], b ∷ n ++ rest)) (and_left (is_word_byte b) (list_all is_word_byte n) w)
    ∙ ap (λ (p : List ℕ × List ℕ). (b ∷ p.0, p.1)) read

-- a word is read as itself
pub word_comes : (n rest : List ℕ) → is_word n ≡ true → stops rest ≡ true → word_at (n ++ rest) ≡ Some (n, rest)
unfolding word_at
word_comes [] rest w s = absurd cc
word_comes (b ∷ n) rest w s =
    let read = word_bytes-comes n rest (and_right (is_letter b) (list_all is_word_byte n) w) s in
    ap (λ (x : Bool). cond x (Some (b ∷ (word_bytes (n ++ rest)).0, (word_bytes (n ++ rest)).1)) None) (and_left (is_letter b) (list_all is_word_byte n) w)
    ∙ ap (λ (p : List ℕ × List ℕ). Some (b ∷ p.0, p.1)) read

-- ---- parts of instructions

pub at_most : (a b : ℕ) → leb a b ≡ true → a ≤ b
at_most a b e = leb-true a b e

pub below : (a b : ℕ) → ltb a b ≡ true → a < b
below a b e = ltb-true a b e

pub register_comes : (r : ℕ) (rest : List ℕ) → is_register r ≡ true → stops rest ≡ true → number_at 31 (decimal r ++ rest) ≡ Some (r, rest)
register_comes r rest ok s = let lt = below r 32 ok in number_comes 31 r rest (omega arith) (omega arith) s

pub table_comes : (tables t : ℕ) (rest : List ℕ) → tables ≤ 16 → ltb t tables ≡ true → stops rest ≡ true → number_at 15 (decimal t ++ rest) ≡ Some (t, rest)
table_comes tables t rest few ok s = let lt = below t tables ok in number_comes 15 t rest (omega arith) (omega arith) s

-- ---- the same, in the midst of a text

pub register_mid : (r : ℕ) (tail rest : List ℕ) → is_register r ≡ true → stops (tail ++ rest) ≡ true → number_at 31 ((decimal r ++ tail) ++ rest) ≡ Some (r, tail ++ rest)
register_mid r tail rest ok s = ap (number_at 31) (append_assoc (decimal r) tail rest) ∙ register_comes r (tail ++ rest) ok s

pub table_mid : (tables t : ℕ) (tail rest : List ℕ) → tables ≤ 16 → ltb t tables ≡ true → stops (tail ++ rest) ≡ true → number_at 15 ((decimal t ++ tail) ++ rest) ≡ Some (t, tail ++ rest)
table_mid tables t tail rest few ok s = ap (number_at 15) (append_assoc (decimal t) tail rest) ∙ table_comes tables t (tail ++ rest) few ok s

pub size_comes : (n : ℕ) (rest : List ℕ) → leb n 512 ≡ true → stops rest ≡ true → number_at 512 (decimal n ++ rest) ≡ Some (n, rest)
size_comes n rest ok s = let le = at_most n 512 ok in number_comes 512 n rest (omega arith) (omega arith) s

pub size_mid : (n : ℕ) (tail rest : List ℕ) → leb n 512 ≡ true → stops (tail ++ rest) ≡ true → number_at 512 ((decimal n ++ tail) ++ rest) ≡ Some (n, tail ++ rest)
size_mid n tail rest ok s = ap (number_at 512) (append_assoc (decimal n) tail rest) ∙ size_comes n (tail ++ rest) ok s

pub cell_comes : (base off : ℕ) (rest : List ℕ) → is_register base ≡ true → leb off 511 ≡ true → cell_at (cell_text base off ++ rest) ≡ Some ((base, off), rest)
unfolding cell_at
cell_comes base off rest okb oko =
    let le = at_most off 511 oko in
    let first = register_mid base (codes "+" ++ (decimal off ++ codes "]")) rest okb refl in
    let second = ap (number_at 511) (append_assoc (decimal off) (codes "]") rest) ∙ number_comes 511 off (93 ∷ rest) (omega arith) (omega arith) refl in
    rw (first, second) refl

pub cell_mid : (base off : ℕ) (tail rest : List ℕ) → is_register base ≡ true → leb off 511 ≡ true → cell_at ((cell_text base off ++ tail) ++ rest) ≡ Some ((base, off), tail ++ rest)
cell_mid base off tail rest okb oko = ap cell_at (append_assoc (cell_text base off) tail rest) ∙ cell_comes base off (tail ++ rest) okb oko

pub place_comes : (place : Place) (rest : List ℕ) → is_place place ≡ true → stops rest ≡ true → place_at (place_text place ++ rest) ≡ Some (place, rest)
unfolding place_at
place_comes place rest ok s =
    let line = at_most place.line 4294967295 (and_right (leb 1 place.line) (leb place.line 4294967295) (and_left (is_place_number place.line) (is_place_number place.col) ok)) in
    let col = at_most place.col 4294967295 (and_right (leb 1 place.col) (leb place.col 4294967295) (and_right (is_place_number place.line) (is_place_number place.col) ok)) in
    let first = ap (number_at 4294967295) (append_assoc (decimal place.line) (codes ", " ++ decimal place.col) rest) ∙ number_comes 4294967295 place.line (codes ", " ++ (decimal place.col ++ rest)) (omega arith) (omega arith) refl in
    rw (first, number_comes 4294967295 place.col rest (omega arith) (omega arith) s) refl

pub alu_mid : (op : Alu) (tail rest : List ℕ) → alu_at ((alu_text op ++ (32 ∷ tail)) ++ rest) ≡ Some (op, tail ++ rest)
unfolding alu_at
alu_mid alu.Add tail rest = refl
alu_mid alu.Sub tail rest = refl
alu_mid alu.Mul tail rest = refl
alu_mid alu.Div tail rest = refl
alu_mid alu.Rem tail rest = refl
alu_mid alu.Eq tail rest = refl
alu_mid alu.Ne tail rest = refl
alu_mid alu.Lt tail rest = refl
alu_mid alu.Le tail rest = refl
alu_mid alu.Min tail rest = refl
alu_mid alu.Max tail rest = refl
alu_mid alu.Affine tail rest = refl

pub trap_mid : (kind : TrapKind) (tail rest : List ℕ) → trap_at ((trap_text kind ++ (44 ∷ 32 ∷ tail)) ++ rest) ≡ Some (kind, tail ++ rest)
unfolding trap_at
trap_mid Divide tail rest = refl
trap_mid Index tail rest = refl
trap_mid Deep tail rest = refl
trap_mid Size tail rest = refl
trap_mid Wide tail rest = refl

-- ---- operands

-- digits begin nothing that another byte begins
pub no_digits : (l : ℕ) (ls : List ℕ) (n : ℕ) (rest : List ℕ) → ((d : ℕ) → d < 10 → eqb (48 + d) l ≡ false) → n < 2 ^ 64 → after (l ∷ ls) (decimal n ++ rest) ≡ None
no_digits l ls n rest other small = decimal_by_steps (λ n ds. (rest : List ℕ) → after (l ∷ ls) (ds ++ rest) ≡ None) one more n small rest
  where
    one : (n : ℕ) → n < 10 → (rest : List ℕ) → after (l ∷ ls) (((48 + n) ∷ []) ++ rest) ≡ None
    one n lt rest = ap (λ (b : Bool). cond b (after ls rest) None) (other n lt)

    more : (n : ℕ) (ds : List ℕ) → 10 ≤ n → ((rest : List ℕ) → after (l ∷ ls) (ds ++ rest) ≡ None) → (rest : List ℕ) → after (l ∷ ls) ((ds ++ (48 + n % 10) ∷ []) ++ rest) ≡ None
    more n ds ge so_far rest = ap (after (l ∷ ls)) (append_assoc ds ((48 + n % 10) ∷ []) rest) ∙ so_far ((48 + n % 10) ∷ rest)

pub no_letter : (l : ℕ) → 58 ≤ l → (d : ℕ) → d < 10 → eqb (48 + d) l ≡ false
no_letter l ge d lt = grind (arith, nat_tests)

pub no_sign : (d : ℕ) → d < 10 → eqb (48 + d) 45 ≡ false
no_sign d lt = grind (arith, nat_tests)

-- each label's name is a word
abbrev pub Words : List (List ℕ) → ℕ → Type 0
Words names blocks = (l : ℕ) → ltb l blocks ≡ true → is_word (get_or names l []) ≡ true

pub value_comes : (f : List ℕ → ℕ) (names : List (List ℕ)) (blocks : ℕ) (v : Value) (rest : List ℕ) → Words names blocks → is_value blocks v ≡ true → stops rest ≡ true
    → value_at f (value_text names v ++ rest) ≡ Some (relabel_value (λ l. f (get_or names l [])) v, rest)
unfolding value_at
value_comes f names blocks (Reg r) rest words ok s = rw (register_comes r rest ok s) refl
value_comes f names blocks (Label l) rest words ok s = rw (word_comes (get_or names l []) rest (words l ok) s) refl
value_comes f names blocks Nil rest words ok s = refl
value_comes f names blocks (Int (pos n)) rest words ok s =
    let lt = below n 9223372036854775808 ok in
    rw (
      no_digits 114 [] n rest (no_letter 114 (omega arith)) (omega arith),
      no_digits 64 [] n rest (no_letter 64 (omega arith)) (omega arith),
      no_digits 110 (codes "il") n rest (no_letter 110 (omega arith)) (omega arith),
      no_digits 45 [] n rest no_sign (omega arith),
      number_comes 9223372036854775807 n rest (omega arith) (omega arith) s,
    ) refl
value_comes f names blocks (Int (negsuc n)) rest words ok s =
    let lt = below n 9223372036854775808 ok in
    rw (number_comes 9223372036854775808 (suc n) rest (omega arith) (omega arith) s) refl
