-- What a whole text is: the tree that it reads as, or its first fault.
use Rattle.std.specs.Prelude.{◌≡◌, ◌<◌, ◌≤◌, ℕ, List, [], ◌∷◌, length}
use Rattle.tp_value.specs.declared.values.Place.{Place}
use Rattle.loop_lex.specs.declared.token.Token as lexed
use Rattle.loop_lex.specs.declared.token.LexFault.TheVariants as lexing
use Rattle.loop_lex.specs.Lexical.{AreTokensOf, IsFirstFault, place_of}
use Rattle.loop_syntax.specs.Tree.{ProgramTree}
use Rattle.loop_parse.specs.declared.parser.ParseFault.{ParseFault}
use Rattle.loop_parse.specs.declared.parser.ParseFault.TheVariants as parsing
use Rattle.loop_parse.specs.Terms.{Token, tokens_of}
use Rattle.loop_parse.specs.Grammar.{IsProgram, FormFault, DeepFault}

-- the text has tokens that are a program with this tree, and nothing in it is too deep
pub record Reads (source : List ℕ) (program : ProgramTree) : Type 0 where
  pub tokens : List lexed.Token
  pub lexed : AreTokensOf source tokens
  pub is_program : IsProgram (tokens_of source tokens) program
  pub is_shallow : (us : List Token) → DeepFault (tokens_of source tokens) us → ⊥

-- the place where these tokens begin, or of the byte after the text's last
abbrev pub place_at : List ℕ → List Token → Place
place_at source [] = place_of source
place_at source (t ∷ ts) = t.place

-- the first place where the tokens aren't of the form: whatever is too deep is so later, where
-- fewer tokens are left
pub record IsFormPlace (source : List ℕ) (tokens : List Token) (place : Place) : Type 0 where
  pub rest : List Token
  pub fault : FormFault tokens rest
  pub first : (us : List Token) → DeepFault tokens us → length us < length rest
  pub placed : place ≡ place_at source rest

-- the first place where something is too deep
pub record IsDeepPlace (source : List ℕ) (tokens : List Token) (place : Place) : Type 0 where
  pub rest : List Token
  pub fault : DeepFault tokens rest
  pub first : (us : List Token) → DeepFault tokens us → length us ≤ length rest
  pub before_form : (us : List Token) → FormFault tokens us → length us < length rest
  pub placed : place ≡ place_at source rest

-- a fault of a text with its place
pub data TextFault : Type 0 where
  Byte : Place → TextFault  -- E1
  Range : Place → TextFault  -- E2
  Form : Place → TextFault  -- E3
  Deep : Place → TextFault  -- E14

-- the first fault of a text: of the lexer's, and where there is none of the parser's
pub data FirstTextFault (source : List ℕ) : TextFault → Type 0 where
  byte : {place : Place} → IsFirstFault source (lexing.Byte place) →
      FirstTextFault source (Byte place)
  range : {place : Place} → IsFirstFault source (lexing.Range place) →
      FirstTextFault source (Range place)
  form : {place : Place} (tokens : List lexed.Token) → AreTokensOf source tokens →
      IsFormPlace source (tokens_of source tokens) place → FirstTextFault source (Form place)
  deep : {place : Place} (tokens : List lexed.Token) → AreTokensOf source tokens →
      IsDeepPlace source (tokens_of source tokens) place → FirstTextFault source (Deep place)

-- no other tree
abbrev pub IsOnlyTree : List ℕ → ProgramTree → Type 0
IsOnlyTree source program = (other : ProgramTree) → Reads source other → other ≡ program

-- no other fault, and no tree
abbrev pub IsOnlyFault : List ℕ → TextFault → Type 0
IsOnlyFault source fault =
    ((other : TextFault) → FirstTextFault source other → other ≡ fault)
    × ((program : ProgramTree) → Reads source program → ⊥)

-- why there is no tree
abbrev pub IsCause : List ℕ → ParseFault → Type 0
IsCause source (parsing.Form place) = FirstTextFault source (Form place)
IsCause source (parsing.Deep place) = FirstTextFault source (Deep place)
IsCause source parsing.NoMemory = Unit {0}

-- the cause stands alone
abbrev pub IsOnlyCause : List ℕ → ParseFault → Type 0
IsOnlyCause source (parsing.Form place) = IsOnlyFault source (Form place)
IsOnlyCause source (parsing.Deep place) = IsOnlyFault source (Deep place)
IsOnlyCause source parsing.NoMemory = Unit {0}
