-- How far a text has been read, one piece further.
use Rattle.std.proofs.Common.{◌≡◌, ℕ, zero, suc, ◌+◌, ◌<◌, ◌≤◌, List, [], ◌∷◌, ◌++◌, length, take}
use Rattle.std.proofs.Common.{drop, slice_index, true, Ok, Err, refl, sym, ap, subst, ◌∙◌, zero-add}
use Rattle.std.proofs.Common.{length-take, length-drop, arith}
use Rattle.std.proofs.lemmas.List.{take-append-drop, drop_all}
use Rattle.std.proofs.Math.Seq.{take-add, drop-nil}
use Rattle.std.specs.List.{list_all}
use Rattle.tp_value.specs.declared.values.Place.{Place}
use Rattle.loop_lex.specs.declared.token.Token.{Token}
use Rattle.loop_lex.specs.declared.token.TokenKind.{TokenKind}
use Rattle.loop_lex.specs.declared.token.LexFault.{LexFault}
use Rattle.loop_lex.specs.declared.token.LexFault.TheVariants as faults
use Rattle.loop_lex.specs.declared.lexer.Piece.TheVariants as pieces
use Rattle.loop_lex.specs.Lexical.{place_after, place_of, ALiteral, IsLongest, IsComment, IsPiece}
use Rattle.loop_lex.specs.Lexical.{blank_piece, comment_piece, token_piece, bad_piece, large_piece}
use Rattle.loop_lex.specs.Lexical.{Reading, before, ReadsAs, at_end, blank, comment, token}
use Rattle.loop_lex.specs.Lexical.{bad_byte, too_large, token_after, after_tokens, IsReadTo}
use Rattle.loop_lex.specs.Lexical.{AreTokensOf, IsFirstFault}
use Rattle.loop_lex.proofs.Forms.{within_line, form_within, form_some}
use Rattle.loop_lex.proofs.Places.{place_after-append, place_after-line, place_bounds}

drop_on : (at n : ℕ) (s : List ℕ) → drop (at + n) s ≡ drop n (drop at s)
drop_on zero n s = ap (λ k. drop k s) (zero-add n)
drop_on (suc a) n [] = drop-nil (suc a + n) ∙ sym (drop-nil n)
drop_on (suc a) n (x ∷ s) = let e : suc a + n ≡ suc (a + n) = omega arith in ap (λ k. drop k (x ∷ s)) e ∙ drop_on a n s

pub bounds_so_far : {source : List ℕ} {at : ℕ} {place : Place} {tokens : List Token} → IsReadTo source at place tokens → (place.line ≤ 1 + at) × (place.col ≤ 1 + at)
bounds_so_far {source} {at} {place} r =
    let b = place_bounds (take at source) in
    let l : length (take at source) ≤ at = omega (arith, length-take at source) in
    (omega (arith, ap (λ p. p.line) r.placed, b.0, l), omega (arith, ap (λ p. p.col) r.placed, b.1, l))

pub start_read : (source : List ℕ) → IsReadTo source 0 (record { line = 1; col = 1 }) []
start_read source = record { within = omega arith; placed = refl; goes_on = λ read z. z }

-- one piece further
advance : {source : List ℕ} {at : ℕ} {place : Place} {tokens : List Token} (n : ℕ) (text : List ℕ) (next : Place) (new : List Token) (change : Reading → Reading) →
    IsReadTo source at place tokens → text ≡ drop at source → n ≤ length text → next ≡ place_after place (take n text) →
    ((read : Reading) → ReadsAs (take at source ++ take n text) (drop n text) read → ReadsAs (take at source) text (change read)) →
    ((read : Reading) → after_tokens tokens (change read) ≡ after_tokens new read) → IsReadTo source (at + n) next new
advance {source} {at} {place} {tokens} n text next new change r e l p k same = record {
  within = omega (arith, r.within, l, ap length e, length-drop at source);
  placed = p ∙ ap (λ q. place_after q (take n text)) r.placed ∙ sym (place_after-append (record { line = 1; col = 1 }) (take at source) (take n text)) ∙ ap place_of (sym front);
  goes_on = λ read z. subst (λ q. ReadsAs [] source q) (same read) (r.goes_on (change read) (subst (λ t. ReadsAs (take at source) t (change read)) e (k read
      (subst (λ t. ReadsAs (take at source ++ take n text) t read) rest (subst (λ t. ReadsAs t (drop (at + n) source) read) front z)))));
}
  where
    front : take (at + n) source ≡ take at source ++ take n text
    front = take-add at n source ∙ ap (λ t. take at source ++ take n t) (sym e)

    rest : drop (at + n) source ≡ drop n text
    rest = drop_on at n source ∙ ap (drop n) (sym e)

same_length : (n : ℕ) (text : List ℕ) → n ≤ length text → length (take n text) ≡ n
same_length n text l = omega (arith, length-take n text)

place_right : (p next : Place) (n : ℕ) (text : List ℕ) → n ≤ length text → list_all within_line (take n text) ≡ true → next ≡ record { line = p.line; col = p.col + n } → next ≡ place_after p (take n text)
place_right p next n text l h e = e ∙ ap (λ c. record { line = p.line; col = p.col + c }) (sym (same_length n text l)) ∙ sym (place_after-line p (take n text) h)

pub step_blank : {source : List ℕ} {at : ℕ} {place : Place} {tokens : List Token} (text : List ℕ) (next : Place) → IsReadTo source at place tokens → text ≡ drop at source →
    IsPiece text pieces.Blank → next ≡ place_after place (slice_index text 0 ∷ []) → IsReadTo source (at + 1) next tokens
step_blank {source} {at} _ next r e (blank_piece {byte} {rest} h) p = advance 1 (byte ∷ rest) next _ (λ q. q) r e (omega arith) p (λ read z. blank h z) (λ read. refl)

comment_within : {bytes rest : List ℕ} → IsComment bytes rest → list_all within_line bytes ≡ true
comment_within {bytes} c = ap (list_all within_line) c.begins ∙ c.within_line

pub step_comment : {source : List ℕ} {at : ℕ} {place : Place} {tokens : List Token} (text : List ℕ) (n : ℕ) (next : Place) → IsReadTo source at place tokens → text ≡ drop at source →
    IsPiece text (pieces.Comment n) → next ≡ record { line = place.line; col = place.col + n } → IsReadTo source (at + n) next tokens
step_comment {source} {at} {place} text n next r e (comment_piece l c) p =
    advance n text next _ (λ q. q) r e l (place_right place next n text l (comment_within c) p)
    (λ read z. subst (λ t. ReadsAs (take at source) t read) (take-append-drop n text) (comment c z)) (λ read. refl)

pub after_more : (tokens : List Token) (t : Token) (read : Reading) → after_tokens (tokens ++ t ∷ []) read ≡ after_tokens tokens (before t read)
after_more [] t read = refl
after_more (x ∷ xs) t read = ap (before x) (after_more xs t read)

same_token : (front bytes : List ℕ) (kind : TokenKind) (at n : ℕ) (place : Place) → length front ≡ at → length bytes ≡ n → place ≡ place_of front →
    token_after front bytes kind ≡ record { kind = kind; start = at; end = at + n; place = place }
same_token front bytes kind at n place a b p =
    ap (λ k. record { kind = kind; start = k; end = k + length bytes; place = place_of front }) a
    ∙ ap (λ k. record { kind = kind; start = at; end = at + k; place = place_of front }) b
    ∙ ap (λ q. record { kind = kind; start = at; end = at + n; place = q }) (sym p)

pub step_token : {source : List ℕ} {at : ℕ} {place : Place} {tokens new : List Token} (text : List ℕ) (n : ℕ) (kind : TokenKind) (next : Place) → IsReadTo source at place tokens → text ≡ drop at source →
    IsPiece text (pieces.Token kind n) → new ≡ tokens ++ record { kind = kind; start = at; end = at + n; place = place } ∷ [] → next ≡ record { line = place.line; col = place.col + n } → IsReadTo source (at + n) next new
step_token {source} {at} {place} {tokens} {new} text n kind next r e (token_piece {form} l f k) w p =
    advance n text next new (before (token_after (take at source) (take n text) kind)) r e l (place_right place next n text l (form_within f.is_form) p)
    (λ read z. subst (λ t. ReadsAs (take at source) t (before (token_after (take at source) (take n text) kind) read)) (take-append-drop n text)
    (token (subst (λ t. IsLongest form (take n text) t) (sym (take-append-drop n text)) f) k z))
    (λ read. ap (λ t. after_tokens tokens (before t read)) (same_token (take at source) (take n text) kind at n place (same_length at source r.within) (same_length n text l) r.placed)
    ∙ sym (after_more tokens (record { kind = kind; start = at; end = at + n; place = place }) read) ∙ ap (λ ts. after_tokens ts read) (sym w))

pub piece_some : {text : List ℕ} {kind : TokenKind} {n : ℕ} → IsPiece text (pieces.Token kind n) → (0 < n) × (n ≤ length text)
piece_some {text} {kind} {n} (token_piece l f k) = (omega (arith, form_some f.is_form, same_length n text l), l)

pub comment_some : {text : List ℕ} {n : ℕ} → IsPiece text (pieces.Comment n) → (0 < n) × (n ≤ length text)
comment_some {text} {n} (comment_piece l c) = (omega (arith, ap length c.begins, same_length n text l), l)

after_fault : (tokens : List Token) (fault : LexFault) → after_tokens tokens (Err fault) ≡ Err fault
after_fault [] fault = refl
after_fault (t ∷ ts) fault = ap (before t) (after_fault ts fault)

after_all : (tokens : List Token) → after_tokens tokens (Ok []) ≡ Ok tokens
after_all [] = refl
after_all (t ∷ ts) = ap (before t) (after_all ts)

ends_in : {source : List ℕ} {at : ℕ} {place : Place} {tokens : List Token} (text : List ℕ) (fault : LexFault) → IsReadTo source at place tokens → text ≡ drop at source →
    ReadsAs (take at source) text (Err fault) → IsFirstFault source fault
ends_in {source} {at} {place} {tokens} text fault r e z =
    subst (λ q. ReadsAs [] source q) (after_fault tokens fault) (r.goes_on (Err fault) (subst (λ t. ReadsAs (take at source) t (Err fault)) e z))

pub step_bad : {source : List ℕ} {at : ℕ} {place : Place} {tokens : List Token} (text : List ℕ) → IsReadTo source at place tokens → text ≡ drop at source → IsPiece text pieces.Bad → IsFirstFault source (faults.Byte place)
step_bad {source} {at} _ r e (bad_piece {byte} {rest} b) = ends_in (byte ∷ rest) _ r e (subst (λ p. ReadsAs (take at source) (byte ∷ rest) (Err (faults.Byte p))) (sym r.placed) (bad_byte b))

pub step_large : {source : List ℕ} {at : ℕ} {place : Place} {tokens : List Token} (text : List ℕ) → IsReadTo source at place tokens → text ≡ drop at source → IsPiece text pieces.TooLarge → IsFirstFault source (faults.Range place)
step_large {source} {at} text r e (large_piece n l f g) =
    ends_in text _ r e (subst (λ p. ReadsAs (take at source) text (Err (faults.Range p))) (sym r.placed)
    (subst (λ t. ReadsAs (take at source) t (Err (faults.Range (place_of (take at source))))) (take-append-drop n text)
    (too_large (drop n text) (subst (λ t. IsLongest ALiteral (take n text) t) (sym (take-append-drop n text)) f) g)))

-- at the end all is read
pub read_all : {source : List ℕ} {at : ℕ} {place : Place} {tokens : List Token} → IsReadTo source at place tokens → length source ≤ at → AreTokensOf source tokens
read_all {source} {at} {place} {tokens} r l =
    subst (λ q. ReadsAs [] source q) (after_all tokens) (r.goes_on (Ok []) (subst (λ t. ReadsAs (take at source) t (Ok [])) (sym (drop_all at source l)) at_end))

pub ruleset step_facts = (step_blank, step_comment, step_token, step_bad, step_large)
