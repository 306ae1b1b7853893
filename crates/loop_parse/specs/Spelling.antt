-- How words and signs are spelled.
use Rattle.std.specs.Prelude.{ℕ, Bool, true, false, ◌&&◌, ◌==◌, if◌then◌else◌, List, [], ◌∷◌}
use Rattle.std.specs.Prelude.{length, codes, Option, Some, None}
use Rattle.loop_lex.specs.declared.token.TokenKind.{TokenKind}
use Rattle.loop_lex.specs.declared.token.TokenKind.TheVariants as tokens
use Rattle.loop_parse.specs.declared.terminal.Fixed.{Fixed}
use Rattle.loop_parse.specs.declared.terminal.Fixed.TheVariants.{Input, Table, Fn, Return, Main}
use Rattle.loop_parse.specs.declared.terminal.Fixed.TheVariants.{Let, If, Else, While, Loop, Par}
use Rattle.loop_parse.specs.declared.terminal.Fixed.TheVariants.{In, Carry, Reduce, By, Fold, With}
use Rattle.loop_parse.specs.declared.terminal.Fixed.TheVariants.{Call, Both, Print, Emit, Rows}
use Rattle.loop_parse.specs.declared.terminal.Fixed.TheVariants.{Cols, Add, Mul, Min, Max, Affine}
use Rattle.loop_parse.specs.declared.terminal.Fixed.TheVariants.{Leave, OpenRound, CloseRound}
use Rattle.loop_parse.specs.declared.terminal.Fixed.TheVariants.{OpenBrace, CloseBrace, OpenSquare}
use Rattle.loop_parse.specs.declared.terminal.Fixed.TheVariants.{CloseSquare, Comma, Semi, Assign}
use Rattle.loop_parse.specs.declared.terminal.Fixed.TheVariants.{Plus, Minus, Star, Slash, Percent}
use Rattle.loop_parse.specs.declared.terminal.Fixed.TheVariants.{Same, Differs, Less, AtMost}
use Rattle.loop_parse.specs.declared.terminal.Fixed.TheVariants.{Greater, AtLeast, DotDot}
use Rattle.loop_parse.specs.declared.terminal.Terminal.{Terminal}
use Rattle.loop_parse.specs.declared.terminal.Terminal.TheVariants as terminals

-- whether the text is this word
abbrev pub spells : List ℕ → List ℕ → Bool
spells [] [] = true
spells [] (y ∷ ys) = false
spells (x ∷ xs) [] = false
spells (x ∷ xs) (y ∷ ys) = x == y && spells xs ys

-- the reserved words, by their length
abbrev pub two_letters : List ℕ → Option Fixed
two_letters text =
    (if spells text (codes "fn") then Some Fn else
    (if spells text (codes "if") then Some If else
    (if spells text (codes "in") then Some In else
    (if spells text (codes "by") then Some By else
    None))))

abbrev pub three_letters : List ℕ → Option Fixed
three_letters text =
    (if spells text (codes "let") then Some Let else
    (if spells text (codes "par") then Some Par else
    (if spells text (codes "add") then Some Add else
    (if spells text (codes "mul") then Some Mul else
    (if spells text (codes "min") then Some Min else
    (if spells text (codes "max") then Some Max else
    None))))))

abbrev pub four_letters : List ℕ → Option Fixed
four_letters text =
    (if spells text (codes "main") then Some Main else
    (if spells text (codes "else") then Some Else else
    (if spells text (codes "loop") then Some Loop else
    (if spells text (codes "fold") then Some Fold else
    (if spells text (codes "with") then Some With else
    (if spells text (codes "call") then Some Call else
    (if spells text (codes "both") then Some Both else
    (if spells text (codes "emit") then Some Emit else
    (if spells text (codes "rows") then Some Rows else
    (if spells text (codes "cols") then Some Cols else
    None))))))))))

abbrev pub five_letters : List ℕ → Option Fixed
five_letters text =
    (if spells text (codes "input") then Some Input else
    (if spells text (codes "table") then Some Table else
    (if spells text (codes "while") then Some While else
    (if spells text (codes "carry") then Some Carry else
    (if spells text (codes "print") then Some Print else
    (if spells text (codes "leave") then Some Leave else
    None))))))

abbrev pub six_letters : List ℕ → Option Fixed
six_letters text =
    (if spells text (codes "return") then Some Return else
    (if spells text (codes "reduce") then Some Reduce else
    (if spells text (codes "affine") then Some Affine else
    None)))

abbrev pub reserved : List ℕ → Option Fixed
reserved text =
    (if length text == 2 then two_letters text else
    (if length text == 3 then three_letters text else
    (if length text == 4 then four_letters text else
    (if length text == 5 then five_letters text else
    (if length text == 6 then six_letters text else
    None)))))

-- the signs of one byte, the last of which is `>`
abbrev pub single_sign : ℕ → Fixed
single_sign b =
    (if b == 40 then OpenRound else
    (if b == 41 then CloseRound else
    (if b == 123 then OpenBrace else
    (if b == 125 then CloseBrace else
    (if b == 91 then OpenSquare else
    (if b == 93 then CloseSquare else
    (if b == 44 then Comma else
    (if b == 59 then Semi else
    (if b == 61 then Assign else
    (if b == 43 then Plus else
    (if b == 45 then Minus else
    (if b == 42 then Star else
    (if b == 47 then Slash else
    (if b == 37 then Percent else
    (if b == 60 then Less else
    Greater)))))))))))))))

abbrev pub first_sign : List ℕ → Fixed
first_sign (b ∷ []) = single_sign b
first_sign _ = DotDot

-- the signs, the last of which is `..`
abbrev pub sign_of : List ℕ → Fixed
sign_of text =
    (if spells text (codes "==") then Same else
    (if spells text (codes "!=") then Differs else
    (if spells text (codes "<=") then AtMost else
    (if spells text (codes ">=") then AtLeast else
    first_sign text))))

abbrev pub word_of : Option Fixed → Terminal
word_of (Some fixed) = terminals.Fixed fixed
word_of None = terminals.Name

-- what the grammar makes of a token with this text
abbrev pub terminal_of : TokenKind → List ℕ → Terminal
terminal_of (tokens.Int value) text = terminals.Literal value
terminal_of tokens.Word text = word_of (reserved text)
terminal_of tokens.Sign text = terminals.Fixed (sign_of text)
