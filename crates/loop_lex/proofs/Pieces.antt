-- What stands at the front of a text.
use Rattle.std.proofs.Common.{◌≡◌, ◌≢◌, ℕ, ◌<◌, ◌≤◌, List, [], ◌∷◌, ◌++◌, length, take, slice_index}
use Rattle.std.proofs.Common.{pos, to_z, w64, Bool, true, false, not, ◌==◌, sym, ap, subst, ◌∙◌}
use Rattle.std.proofs.Common.{arith}
use Rattle.std.proofs.lemmas.Bool.{and_from, or_left}
use Rattle.std.proofs.lemmas.List.Folds.{length-prefix_len}
use Rattle.std.proofs.lemmas.List.Sums.{prefix_len-le-length}
use Rattle.std.specs.List.{list_all, prefix_len, AllPass}
use Rattle.std.proofs.lemmas.List.Sums.{AllPass-from_list_all}
use Rattle.std.proofs.lemmas.Int.{to_z_pos}
use Rattle.std.specs.Char.{is_ascii_digit}
use Rattle.loop_lex.specs.declared.token.TokenKind.TheVariants as kinds
use Rattle.loop_lex.specs.declared.lexer.Piece.TheVariants as pieces
use Rattle.loop_lex.specs.Bytes.{is_blank, starts_word, continues_word, is_single_sign}
use Rattle.loop_lex.specs.Bytes.{begins_double}
use Rattle.loop_lex.specs.Lexical.{Form, AWord, ALiteral, ASign, IsForm, word, literal, single}
use Rattle.loop_lex.specs.Lexical.{double, StandsAt, IsLongest, word_kind, sign_kind, IsPiece}
use Rattle.loop_lex.specs.Lexical.{blank_piece, comment_piece, token_piece, bad_piece, large_piece}
use Rattle.loop_lex.specs.Lexical.{literal_kind, decimal, greatest}
use Rattle.loop_lex.proofs.Forms.{single_no_run, double_no_run, digit_no_word, digits_continue}
use Rattle.loop_lex.proofs.Runs.{prefix_len-cons, run-cons, run_passes, run_reaches, run_ends_line}

pub piece_blank : (text : List ℕ) → 0 < length text → is_blank (slice_index text 0) ≡ true → IsPiece text pieces.Blank
piece_blank [] l h = absurd (omega arith)
piece_blank (b ∷ bs) l h = blank_piece h

pub piece_comment : (text : List ℕ) (n : ℕ) → 0 < length text → slice_index text 0 ≡ 35 → n ≡ prefix_len (λ c. not (c == 10)) text → IsPiece text (pieces.Comment n)
piece_comment [] n l h e = absurd (omega arith)
piece_comment (b ∷ bs) n l h e =
    let q : not (b == 10) ≡ true = ap (λ c. not (c == 10)) h in
    subst (λ m. IsPiece (b ∷ bs) (pieces.Comment m)) (sym e)
    (comment_piece (prefix_len-le-length (λ c. not (c == 10)) (b ∷ bs)) (record {
      after = take (prefix_len (λ c. not (c == 10)) bs) bs;
      begins = run-cons (λ c. not (c == 10)) b bs q ∙ ap (λ c. c ∷ take (prefix_len (λ c. not (c == 10)) bs) bs) h;
      within_line = run_passes (λ c. not (c == 10)) bs;
      ends = run_ends_line (b ∷ bs);
    }))

-- the front of a list that begins with these bytes
heads : (b c : ℕ) (bs cs : List ℕ) → b ∷ bs ≡ c ∷ cs → b ≡ c
heads b c bs cs e = cc

never : {A : Type 0} (b : Bool) → b ≡ true → b ≡ false → A
never b h k = absurd (let e : true ≡ false = sym h ∙ k in cc)

one_in : (p : ℕ → Bool) (b : ℕ) (bs : List ℕ) → p b ≡ true → 1 ≤ prefix_len p (b ∷ bs)
one_in p b bs h = omega (arith, prefix_len-cons p b bs h)

word_reaches : (b : ℕ) (bs : List ℕ) → starts_word b ≡ true → (other : Form) (more : List ℕ) → IsForm other more → StandsAt more (b ∷ bs) → length more ≤ prefix_len continues_word (b ∷ bs)
word_reaches b bs h AWord _ (word {b = c} {bs = cs} s k) (r, e) =
    subst (λ t. length (c ∷ cs) ≤ prefix_len continues_word t) (sym e) (run_reaches continues_word (c ∷ cs) r (and_from (continues_word c) (list_all continues_word cs) (or_left (starts_word c) (is_ascii_digit c) s) k))
word_reaches b bs h ALiteral _ (literal {b = c} {bs = cs} s k) (r, e) =
    subst (λ t. length (c ∷ cs) ≤ prefix_len continues_word t) (sym e) (run_reaches continues_word (c ∷ cs) r (digits_continue (c ∷ cs) (and_from (is_ascii_digit c) (list_all is_ascii_digit cs) s k)))
word_reaches b bs h ASign _ (single s) (r, e) = one_in continues_word b bs (or_left (starts_word b) (is_ascii_digit b) h)
word_reaches b bs h ASign _ (double {a} {b = c} s) (r, e) = never (starts_word a) (ap starts_word (sym (heads b a bs (c ∷ r) e)) ∙ h) (double_no_run a c s).0

literal_reaches : (b : ℕ) (bs : List ℕ) → is_ascii_digit b ≡ true → (other : Form) (more : List ℕ) → IsForm other more → StandsAt more (b ∷ bs) → length more ≤ prefix_len is_ascii_digit (b ∷ bs)
literal_reaches b bs h AWord _ (word {b = c} {bs = cs} s k) (r, e) = never (starts_word c) s (digit_no_word c (ap is_ascii_digit (sym (heads b c bs (cs ++ r) e)) ∙ h))
literal_reaches b bs h ALiteral _ (literal {b = c} {bs = cs} s k) (r, e) =
    subst (λ t. length (c ∷ cs) ≤ prefix_len is_ascii_digit t) (sym e) (run_reaches is_ascii_digit (c ∷ cs) r (and_from (is_ascii_digit c) (list_all is_ascii_digit cs) s k))
literal_reaches b bs h ASign _ (single s) (r, e) = one_in is_ascii_digit b bs h
literal_reaches b bs h ASign _ (double {a} {b = c} s) (r, e) = never (is_ascii_digit a) (ap is_ascii_digit (sym (heads b a bs (c ∷ r) e)) ∙ h) (double_no_run a c s).1

-- where no word and no literal begins, only signs stand
sign_reaches : (b : ℕ) (bs : List ℕ) (n : ℕ) → starts_word b ≡ false → is_ascii_digit b ≡ false → 1 ≤ n → (begins_double (b ∷ bs) ≡ true → 2 ≤ n) →
    (other : Form) (more : List ℕ) → IsForm other more → StandsAt more (b ∷ bs) → length more ≤ n
sign_reaches b bs n w d l g AWord _ (word {b = c} {bs = cs} s k) (r, e) = never (starts_word c) s (ap starts_word (sym (heads b c bs (cs ++ r) e)) ∙ w)
sign_reaches b bs n w d l g ALiteral _ (literal {b = c} {bs = cs} s k) (r, e) = never (is_ascii_digit c) s (ap is_ascii_digit (sym (heads b c bs (cs ++ r) e)) ∙ d)
sign_reaches b bs n w d l g ASign _ (single s) (r, e) = l
sign_reaches b bs n w d l g ASign _ (double {a} {b = c} s) (r, e) = g (ap begins_double e ∙ s)

pub piece_double : (text : List ℕ) → begins_double text ≡ true → IsPiece text (pieces.Token kinds.Sign 2)
piece_double [] h = cc
piece_double (a ∷ []) h = cc
piece_double (a ∷ b ∷ rest) h =
    let k = double_no_run a b h in
    token_piece (omega arith) (record {
      is_form = double h;
      longest = sign_reaches a (b ∷ rest) 2 k.0 k.1 (omega arith) (λ _. omega arith);
    }) sign_kind

pub piece_single : (text : List ℕ) → 0 < length text → begins_double text ≡ false → is_single_sign (slice_index text 0) ≡ true → IsPiece text (pieces.Token kinds.Sign 1)
piece_single [] l h k = absurd (omega arith)
piece_single (b ∷ bs) l h k =
    let q = single_no_run b k in
    token_piece (omega arith) (record {
      is_form = single k;
      longest = sign_reaches b bs 1 q.0 q.1 (omega arith) (λ e. never (begins_double (b ∷ bs)) e h);
    }) sign_kind

no_token : (b : ℕ) (bs : List ℕ) → starts_word b ≡ false → is_ascii_digit b ≡ false → is_single_sign b ≡ false → begins_double (b ∷ bs) ≡ false →
    (form : Form) (bytes : List ℕ) → IsForm form bytes → StandsAt bytes (b ∷ bs) → ⊥
no_token b bs w d s h AWord _ (word {b = c} {bs = cs} f k) (r, e) = never (starts_word c) f (ap starts_word (sym (heads b c bs (cs ++ r) e)) ∙ w)
no_token b bs w d s h ALiteral _ (literal {b = c} {bs = cs} f k) (r, e) = never (is_ascii_digit c) f (ap is_ascii_digit (sym (heads b c bs (cs ++ r) e)) ∙ d)
no_token b bs w d s h ASign _ (single {b = c} f) (r, e) = never (is_single_sign c) f (ap is_single_sign (sym (heads b c bs r e)) ∙ s)
no_token b bs w d s h ASign _ (double {a} {b = c} f) (r, e) = never (begins_double (b ∷ bs)) (ap begins_double e ∙ f) h

pub piece_bad : (text : List ℕ) → 0 < length text → is_blank (slice_index text 0) ≡ false → slice_index text 0 ≢ 35 → starts_word (slice_index text 0) ≡ false → is_ascii_digit (slice_index text 0) ≡ false →
    is_single_sign (slice_index text 0) ≡ false → begins_double text ≡ false → IsPiece text pieces.Bad
piece_bad [] l b c w d s h = absurd (omega arith)
piece_bad (x ∷ xs) l b c w d s h = bad_piece (record { no_blank = λ k. never (is_blank x) k b; no_comment = c; no_token = no_token x xs w d s h })

pub longest_word : (text : List ℕ) → 0 < length text → starts_word (slice_index text 0) ≡ true → IsLongest AWord (take (prefix_len continues_word text) text) text
longest_word [] l h = absurd (omega arith)
longest_word (b ∷ bs) l h = record {
  is_form = subst (λ t. IsForm AWord t) (sym (run-cons continues_word b bs (or_left (starts_word b) (is_ascii_digit b) h))) (word h (run_passes continues_word bs));
  longest = λ other more f s. omega (arith, word_reaches b bs h other more f s, length-prefix_len continues_word (b ∷ bs));
}

pub piece_word : (text : List ℕ) (n : ℕ) → 0 < length text → starts_word (slice_index text 0) ≡ true → n ≡ prefix_len continues_word text → IsPiece text (pieces.Token kinds.Word n)
piece_word text n l h e = subst (λ m. IsPiece text (pieces.Token kinds.Word m)) (sym e) (token_piece (prefix_len-le-length continues_word text) (longest_word text l h) word_kind)

pub longest_literal : (text : List ℕ) → 0 < length text → is_ascii_digit (slice_index text 0) ≡ true → IsLongest ALiteral (take (prefix_len is_ascii_digit text) text) text
longest_literal [] l h = absurd (omega arith)
longest_literal (b ∷ bs) l h = record {
  is_form = subst (λ t. IsForm ALiteral t) (sym (run-cons is_ascii_digit b bs h)) (literal h (run_passes is_ascii_digit bs));
  longest = λ other more f s. omega (arith, literal_reaches b bs h other more f s, length-prefix_len is_ascii_digit (b ∷ bs));
}

pub ruleset piece_facts = (piece_blank, piece_comment, piece_word)

pub ruleset sign_facts = (piece_double, piece_single, piece_bad)

pub digits_pass : (text : List ℕ) (n : ℕ) → n ≡ prefix_len is_ascii_digit text → AllPass is_ascii_digit (take n text)
digits_pass text n e = AllPass-from_list_all is_ascii_digit (take n text) (ap (λ m. list_all is_ascii_digit (take m text)) e ∙ run_passes is_ascii_digit text)

some_byte : (text : List ℕ) → is_ascii_digit (slice_index text 0) ≡ true → 0 < length text
some_byte [] h = cc
some_byte (b ∷ bs) h = omega arith

pub piece_literal : (text : List ℕ) (n value : ℕ) → is_ascii_digit (slice_index text 0) ≡ true → n ≡ prefix_len is_ascii_digit text → value ≡ decimal (take n text) → value ≤ greatest →
    IsPiece text (pieces.Token (kinds.Int (to_z w64 value)) n)
piece_literal text n value h e v l =
    let q : to_z w64 value ≡ pos (decimal (take n text)) = to_z_pos w64 value (omega arith) ∙ ap pos v in
    subst (λ z. IsPiece text (pieces.Token (kinds.Int z) n)) (sym q)
    (token_piece (omega (arith, e, prefix_len-le-length is_ascii_digit text))
    (subst (λ m. IsLongest ALiteral (take m text) text) (sym e) (longest_literal text (some_byte text h) h))
    (literal_kind (omega (arith, v, l))))

pub piece_large : (text : List ℕ) (n : ℕ) → is_ascii_digit (slice_index text 0) ≡ true → n ≡ prefix_len is_ascii_digit text → greatest < decimal (take n text) → IsPiece text pieces.TooLarge
piece_large text n h e l =
    large_piece n (omega (arith, e, prefix_len-le-length is_ascii_digit text)) (subst (λ m. IsLongest ALiteral (take m text) text) (sym e) (longest_literal text (some_byte text h) h)) l

pub ruleset literal_facts = (digits_pass, piece_literal, piece_large)
