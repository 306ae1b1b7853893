-- Tokens as the grammar sees them.
use Rattle.std.specs.Prelude.{◌≡◌, ℕ, ℤ, List, map, slice_range}
use Rattle.tp_value.specs.declared.values.Place.{Place}
use Rattle.loop_lex.specs.declared.token.Token as lexed
use Rattle.loop_lex.specs.Lexical.{text_of}
use Rattle.loop_syntax.specs.Tree.{Spelled}
use Rattle.loop_parse.specs.declared.terminal.Fixed.{Fixed}
use Rattle.loop_parse.specs.declared.terminal.Terminal.{Terminal}
use Rattle.loop_parse.specs.declared.terminal.Terminal.TheVariants as terminals
use Rattle.loop_parse.specs.declared.terminal.Lexeme.{Lexeme}
use Rattle.loop_parse.specs.Spelling.{terminal_of}

-- a literal with its value, a name with its bytes, or a fixed spelling
pub data Kind : Type 0 where
  Literal : ℤ → Kind
  Name : List ℕ → Kind
  Spelling : Fixed → Kind

pub record Token : Type 0 where
  pub kind : Kind
  pub place : Place

abbrev pub kind_of : Terminal → List ℕ → Kind
kind_of (terminals.Literal n) text = Literal n
kind_of terminals.Name text = Name text
kind_of (terminals.Fixed s) text = Spelling s

-- a token of the lexer
abbrev pub token_of : List ℕ → lexed.Token → Token
token_of source t =
    record {
      kind = kind_of (terminal_of t.kind (text_of source t)) (text_of source t);
      place = t.place;
    }

abbrev pub tokens_of : List ℕ → List lexed.Token → List Token
tokens_of source ts = map (token_of source) ts

-- a token of the parser
abbrev pub saw : List ℕ → Lexeme → Token
saw source l =
    record { kind = kind_of l.terminal (slice_range source l.start l.end); place = l.place }

abbrev pub seen : List ℕ → List Lexeme → List Token
seen source ls = map (saw source) ls

-- the token is this word or sign
abbrev pub Is : Fixed → Token → Type 0
Is s t = t.kind ≡ Spelling s

-- the token is this name, or this literal
pub record IsName (t : Token) (x : Spelled) : Type 0 where
  pub named : t.kind ≡ Name x.text
  pub placed : x.place ≡ t.place

abbrev pub IsLiteral : Token → ℤ → Type 0
IsLiteral t n = t.kind ≡ Literal n
