-- The tokens of a whole text, or its first fault.
use Rattle.std.specs.Prelude.{◌≡◌, ℕ, pos, ◌+◌, ◌*◌, ◌-◌, ◌<◌, ◌≤◌, ◌≢◌, List, [], ◌∷◌, ◌++◌}
use Rattle.std.specs.Prelude.{length, IsTrue, not, Result, Ok, Err, if◌then◌else◌, ◌==◌}
use Rattle.std.specs.Prelude.{slice_range, take, drop}
use Rattle.std.specs.List.{list_all}
use Rattle.std.specs.Char.{is_ascii_digit}
use Rattle.tp_value.specs.declared.values.Place.{Place}
use Rattle.loop_lex.specs.declared.token.Token.{Token}
use Rattle.loop_lex.specs.declared.token.TokenKind.{TokenKind}
use Rattle.loop_lex.specs.declared.token.TokenKind.TheVariants as kinds
use Rattle.loop_lex.specs.declared.token.LexFault.{LexFault}
use Rattle.loop_lex.specs.declared.token.LexFault.TheVariants as faults
use Rattle.loop_lex.specs.declared.lexer.Piece.{Piece}
use Rattle.loop_lex.specs.declared.lexer.Piece.TheVariants as pieces
use Rattle.loop_lex.specs.Bytes.{is_blank, starts_word, continues_word, is_single_sign}
use Rattle.loop_lex.specs.Bytes.{is_double_sign}

-- the place of the byte after these bytes, where the first of them is at p: an LF ends a line
abbrev pub place_after : Place → List ℕ → Place
place_after p [] = p
place_after p (b ∷ bs) =
    place_after
    (if b == 10 then record { line = p.line + 1; col = 1 }
    else record { line = p.line; col = p.col + 1 })
    bs

-- the place of the byte after the front of a text
abbrev pub place_of : List ℕ → Place
place_of front = place_after (record { line = 1; col = 1 }) front

-- what a token looks like
pub data Form : Type 0 where
  AWord : Form
  ALiteral : Form
  ASign : Form

pub data IsForm : Form → List ℕ → Type 0 where
  word : {b : ℕ} {bs : List ℕ} → IsTrue (starts_word b) → IsTrue (list_all continues_word bs) →
      IsForm AWord (b ∷ bs)
  literal : {b : ℕ} {bs : List ℕ} → IsTrue (is_ascii_digit b) →
      IsTrue (list_all is_ascii_digit bs) → IsForm ALiteral (b ∷ bs)
  single : {b : ℕ} → IsTrue (is_single_sign b) → IsForm ASign (b ∷ [])
  double : {a b : ℕ} → IsTrue (is_double_sign a b) → IsForm ASign (a ∷ b ∷ [])

-- the bytes stand at the front of the text
abbrev pub StandsAt : List ℕ → List ℕ → Type 0
StandsAt bytes text = (rest : List ℕ) × (text ≡ bytes ++ rest)

-- the bytes are of this form, and no token that stands at the front of the text is longer
pub record IsLongest (form : Form) (bytes text : List ℕ) : Type 0 where
  pub is_form : IsForm form bytes
  pub longest : (other : Form) (more : List ℕ) → IsForm other more → StandsAt more text →
      length more ≤ length bytes

-- the number that digits write
abbrev pub decimal_from : ℕ → List ℕ → ℕ
decimal_from n [] = n
decimal_from n (d ∷ ds) = decimal_from (n * 10 + (d - 48)) ds

abbrev pub decimal : List ℕ → ℕ
decimal digits = decimal_from 0 digits

-- the greatest literal
abbrev pub greatest : ℕ
greatest = 9223372036854775807

-- the kind of a token of this form with these bytes
pub data IsKind : Form → List ℕ → TokenKind → Type 0 where
  word_kind : {bytes : List ℕ} → IsKind AWord bytes kinds.Word
  sign_kind : {bytes : List ℕ} → IsKind ASign bytes kinds.Sign
  literal_kind : {bytes : List ℕ} → decimal bytes ≤ greatest →
      IsKind ALiteral bytes (kinds.Int (pos (decimal bytes)))

-- the text is at the end of a line
abbrev pub EndsLine : List ℕ → Type 0
EndsLine [] = Unit {0}
EndsLine (b ∷ bs) = b ≡ 10

-- a `#` and what follows it, up to the end of its line
pub record IsComment (bytes rest : List ℕ) : Type 0 where
  pub after : List ℕ
  pub begins : bytes ≡ 35 ∷ after
  pub within_line : IsTrue (list_all (λ c. not (c == 10)) after)
  pub ends : EndsLine rest

-- the byte separates no tokens, begins no comment, and no token stands at it
pub record IsBad (byte : ℕ) (rest : List ℕ) : Type 0 where
  pub no_blank : IsTrue (is_blank byte) → ⊥
  pub no_comment : byte ≢ 35
  pub no_token : (form : Form) (bytes : List ℕ) → IsForm form bytes → StandsAt bytes (byte ∷ rest) →
      ⊥

-- the token with these bytes, behind the front of the text
abbrev pub token_after : List ℕ → List ℕ → TokenKind → Token
token_after front bytes kind =
    record {
      kind = kind;
      start = length front;
      end = length front + length bytes;
      place = place_of front;
    }

-- what a text reads as: its tokens, or its first fault
abbrev pub Reading : Type 0
Reading = Result (List Token) LexFault

-- the token before what is read
abbrev pub before : Token → Reading → Reading
before t (Ok tokens) = Ok (t ∷ tokens)
before t (Err fault) = Err fault

-- what the rest of a text reads as, behind its front
pub data ReadsAs : List ℕ → List ℕ → Reading → Type 0 where
  at_end : {front : List ℕ} → ReadsAs front [] (Ok [])
  blank : {front rest : List ℕ} {byte : ℕ} {read : Reading} → IsTrue (is_blank byte) →
      ReadsAs (front ++ byte ∷ []) rest read → ReadsAs front (byte ∷ rest) read
  comment : {front bytes rest : List ℕ} {read : Reading} → IsComment bytes rest →
      ReadsAs (front ++ bytes) rest read → ReadsAs front (bytes ++ rest) read
  token : {front bytes rest : List ℕ} {form : Form} {kind : TokenKind} {read : Reading} →
      IsLongest form bytes (bytes ++ rest) → IsKind form bytes kind →
      ReadsAs (front ++ bytes) rest read →
      ReadsAs front (bytes ++ rest) (before (token_after front bytes kind) read)
  bad_byte : {front rest : List ℕ} {byte : ℕ} → IsBad byte rest →
      ReadsAs front (byte ∷ rest) (Err (faults.Byte (place_of front)))
  too_large : {front bytes : List ℕ} (rest : List ℕ) → IsLongest ALiteral bytes (bytes ++ rest) →
      greatest < decimal bytes →
      ReadsAs front (bytes ++ rest) (Err (faults.Range (place_of front)))

-- the tokens of a whole text
abbrev pub AreTokensOf : List ℕ → List Token → Type 0
AreTokensOf source tokens = ReadsAs [] source (Ok tokens)

-- the first fault of a whole text
abbrev pub IsFirstFault : List ℕ → LexFault → Type 0
IsFirstFault source fault = ReadsAs [] source (Err fault)

-- the bytes of a token's span
abbrev pub text_of : List ℕ → Token → List ℕ
text_of source t = slice_range source t.start t.end

-- the spans are in order, and none is empty or past the end
abbrev pub AreInOrder : ℕ → ℕ → List Token → Type 0
AreInOrder from end [] = from ≤ end
AreInOrder from end (t ∷ ts) = (from ≤ t.start) × (t.start < t.end) × AreInOrder t.end end ts

-- what stands at the front of a text that has a byte
pub data IsPiece : List ℕ → Piece → Type 0 where
  blank_piece : {byte : ℕ} {rest : List ℕ} → IsTrue (is_blank byte) →
      IsPiece (byte ∷ rest) pieces.Blank
  comment_piece : {text : List ℕ} {n : ℕ} → n ≤ length text →
      IsComment (take n text) (drop n text) → IsPiece text (pieces.Comment n)
  token_piece : {text : List ℕ} {form : Form} {kind : TokenKind} {n : ℕ} → n ≤ length text →
      IsLongest form (take n text) text → IsKind form (take n text) kind →
      IsPiece text (pieces.Token kind n)
  bad_piece : {byte : ℕ} {rest : List ℕ} → IsBad byte rest → IsPiece (byte ∷ rest) pieces.Bad
  large_piece : {text : List ℕ} (n : ℕ) → n ≤ length text → IsLongest ALiteral (take n text) text →
      greatest < decimal (take n text) → IsPiece text pieces.TooLarge

-- what is read after these tokens
abbrev pub after_tokens : List Token → Reading → Reading
after_tokens [] read = read
after_tokens (t ∷ ts) read = before t (after_tokens ts read)

-- the first bytes of the text read as these tokens, whatever follows, and the next byte is at this
-- place
pub record IsReadTo (source : List ℕ) (at : ℕ) (place : Place) (tokens : List Token) : Type 0 where
  pub within : at ≤ length source
  pub placed : place ≡ place_of (take at source)
  pub goes_on : (read : Reading) → ReadsAs (take at source) (drop at source) read →
      ReadsAs [] source (after_tokens tokens read)

-- the text reads as this alone
abbrev pub IsOnlyReading : List ℕ → Reading → Type 0
IsOnlyReading source read = (other : Reading) → ReadsAs [] source other → other ≡ read

-- why there are no tokens
abbrev pub IsCause : List ℕ → LexFault → Type 0
IsCause source (faults.Byte place) = IsFirstFault source (faults.Byte place)
IsCause source (faults.Range place) = IsFirstFault source (faults.Range place)
IsCause source faults.NoMemory = Unit {0}

-- the token's span, place and kind are those of a longest token that stands there
pub record IsTokenOf (source : List ℕ) (t : Token) : Type 0 where
  pub form : Form
  pub ends : t.end ≤ length source
  pub some : t.start < t.end
  pub place : t.place ≡ place_of (take t.start source)
  pub is_longest : IsLongest form (text_of source t) (drop t.start source)
  pub is_kind : IsKind form (text_of source t) t.kind

abbrev pub EachIsTokenOf : List ℕ → List Token → Type 0
EachIsTokenOf source [] = Unit {0}
EachIsTokenOf source (t ∷ ts) = IsTokenOf source t × EachIsTokenOf source ts
