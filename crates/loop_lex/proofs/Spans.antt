-- Each token has the text of its span, and the spans are in order.
use Rattle.std.proofs.Common.{◌≡◌, ℕ, ◌+◌, ◌-◌, ◌≤◌, List, [], ◌∷◌, ◌++◌, length, take, drop, Ok}
use Rattle.std.proofs.Common.{Err, refl, sym, ap, subst, ◌∙◌, append_assoc, length-append, arith}
use Rattle.loop_lex.specs.declared.token.Token.{Token}
use Rattle.loop_lex.specs.declared.token.TokenKind.{TokenKind}
use Rattle.loop_lex.specs.Lexical.{Form, IsLongest, IsKind, Reading, before, ReadsAs, at_end, blank}
use Rattle.loop_lex.specs.Lexical.{comment, token, bad_byte, too_large, token_after, place_of}
use Rattle.loop_lex.specs.Lexical.{text_of, AreInOrder, IsTokenOf, EachIsTokenOf}
use Rattle.loop_lex.proofs.Forms.{form_some}

drop_front : (p y : List ℕ) → drop (length p) (p ++ y) ≡ y
drop_front [] y = refl
drop_front (t ∷ p) y = drop_front p y

take_front : (p y : List ℕ) → take (length p) (p ++ y) ≡ p
take_front [] y = refl
take_front (t ∷ p) y = ap (λ z. t ∷ z) (take_front p y)

abbrev Told : List ℕ → ℕ → Reading → Type 0
Told source from (Ok ts) = EachIsTokenOf source ts × AreInOrder from (length source) ts
Told source from (Err f) = Unit {0}

order_weaken : (a b end : ℕ) (ts : List Token) → a ≤ b → AreInOrder b end ts → AreInOrder a end ts
order_weaken a b end [] l h = omega arith
order_weaken a b end (t ∷ ts) l h = (omega (arith, h.0), h.1, h.2)

told_weaken : (source : List ℕ) (a b : ℕ) (r : Reading) → a ≤ b → Told source b r → Told source a r
told_weaken source a b (Ok ts) l h = (h.0, order_weaken a b (length source) ts l h.1)
told_weaken source a b (Err f) l h = tt

told_before : (source : List ℕ) (from : ℕ) (t : Token) (r : Reading) → IsTokenOf source t → t.start ≡ from → Told source t.end r → Told source from (before t r)
told_before source from t (Ok ts) h e k = ((h, k.0), (omega (arith, e), h.some, k.1))
told_before source from t (Err f) h e k = tt

is_token : {form : Form} {kind : TokenKind} (source front bytes rest : List ℕ) → front ++ (bytes ++ rest) ≡ source → IsLongest form bytes (bytes ++ rest) → IsKind form bytes kind → IsTokenOf source (token_after front bytes kind)
is_token {form} {kind} source front bytes rest e f k =
    let rests : drop (length front) source ≡ bytes ++ rest = ap (drop (length front)) (sym e) ∙ drop_front front (bytes ++ rest) in
    let n : (length front + length bytes) - length front ≡ length bytes = omega arith in
    let text : text_of source (token_after front bytes kind) ≡ bytes = ap (λ m. take m (drop (length front) source)) n ∙ ap (take (length bytes)) rests ∙ take_front bytes rest in
    let some = form_some f.is_form in
    record {
      form = form;
      ends = omega (arith, ap length e, length-append front (bytes ++ rest), length-append bytes rest);
      some = omega (arith, some);
      place = ap place_of (sym (take_front front (bytes ++ rest)) ∙ ap (take (length front)) e);
      is_longest = subst (λ t. IsLongest form t (drop (length front) source)) (sym text) (subst (λ t. IsLongest form bytes t) (sym rests) f);
      is_kind = subst (λ t. IsKind form t kind) (sym text) k;
    }

tells : {front rest : List ℕ} {read : Reading} (source : List ℕ) → ReadsAs front rest read → front ++ rest ≡ source → Told source (length front) read
tells source (at_end {front}) e = (tt, omega (arith, ap length e, length-append front []))
tells source (blank {front} {rest} {byte} {read} h z) e =
    told_weaken source (length front) (length (front ++ byte ∷ [])) read (omega (arith, length-append front (byte ∷ []))) (tells source z (append_assoc front (byte ∷ []) rest ∙ e))
tells source (comment {front} {bytes} {rest} {read} c z) e =
    told_weaken source (length front) (length (front ++ bytes)) read (omega (arith, length-append front bytes)) (tells source z (append_assoc front bytes rest ∙ e))
tells source (token {front} {bytes} {rest} {form} {kind} {read} f k z) e =
    told_before source (length front) (token_after front bytes kind) read (is_token source front bytes rest e f k) refl
    (subst (λ n. Told source n read) (length-append front bytes) (tells source z (append_assoc front bytes rest ∙ e)))
tells source (bad_byte b) e = tt
tells source (too_large r f g) e = tt

pub tokens_tell : (source : List ℕ) (ts : List Token) → ReadsAs [] source (Ok ts) → EachIsTokenOf source ts × AreInOrder 0 (length source) ts
tokens_tell source ts z = tells source z refl
