-- The grammar of expressions, by cases: IsExpr ts e rest says that ts up to rest is an expression,
-- and that e is its tree.
use Rattle.std.specs.Prelude.{◌≡◌, ℤ, List, [], ◌∷◌, ◌++◌, Option, Some, None}
use Rattle.loop_syntax.specs.declared.expression.BinOp.{BinOp}
use Rattle.loop_syntax.specs.declared.expression.BinOp.TheVariants as ops
use Rattle.loop_syntax.specs.Tree.{Spelled, Tree, TInt, TVar, TCell, TRows, TCols, TNeg, TBin}
use Rattle.loop_parse.specs.declared.terminal.Fixed.{Fixed}
use Rattle.loop_parse.specs.declared.terminal.Fixed.TheVariants.{Same, Differs, Less, AtMost}
use Rattle.loop_parse.specs.declared.terminal.Fixed.TheVariants.{Greater, AtLeast, Plus, Minus}
use Rattle.loop_parse.specs.declared.terminal.Fixed.TheVariants.{Star, Slash, Percent, OpenRound}
use Rattle.loop_parse.specs.declared.terminal.Fixed.TheVariants.{CloseRound, OpenSquare}
use Rattle.loop_parse.specs.declared.terminal.Fixed.TheVariants.{CloseSquare, Rows, Cols}
use Rattle.loop_parse.specs.Terms.{Token, Is, IsName, IsLiteral}

-- "==" | "!=" | "<" | "<=" | ">" | ">="
abbrev pub compare_fixed : Fixed → Option BinOp
compare_fixed Same = Some ops.Eq
compare_fixed Differs = Some ops.Ne
compare_fixed Less = Some ops.Lt
compare_fixed AtMost = Some ops.Le
compare_fixed Greater = Some ops.Gt
compare_fixed AtLeast = Some ops.Ge
compare_fixed _ = None

-- "+" | "-"
abbrev pub sum_fixed : Fixed → Option BinOp
sum_fixed Plus = Some ops.Add
sum_fixed Minus = Some ops.Sub
sum_fixed _ = None

-- "*" | "/" | "%"
abbrev pub product_fixed : Fixed → Option BinOp
product_fixed Star = Some ops.Mul
product_fixed Slash = Some ops.Div
product_fixed Percent = Some ops.Rem
product_fixed _ = None

mutual
  -- expr = sum [ compare sum ]
  pub data IsExpr : List Token → Tree → List Token → Type 0 where
    plain : {ts rest : List Token} {e : Tree} → IsSum ts e rest → IsExpr ts e rest
    compare : {ts mid rest : List Token} {t : Token} {s : Fixed} {op : BinOp} {a b : Tree} →
        IsSum ts a (t ∷ mid) → Is s t → compare_fixed s ≡ Some op → IsSum mid b rest →
        IsExpr ts (TBin op t.place a b) rest

  -- sum = prod { ( "+" | "-" ) prod }, grouped to the left
  pub data IsSum : List Token → Tree → List Token → Type 0 where
    one : {ts rest : List Token} {e : Tree} → IsProduct ts e rest → IsSum ts e rest
    more : {ts mid rest : List Token} {t : Token} {s : Fixed} {op : BinOp} {a b : Tree} →
        IsSum ts a (t ∷ mid) → Is s t → sum_fixed s ≡ Some op → IsProduct mid b rest →
        IsSum ts (TBin op t.place a b) rest

  -- prod = unary { ( "*" | "/" | "%" ) unary }, grouped to the left
  pub data IsProduct : List Token → Tree → List Token → Type 0 where
    factor : {ts rest : List Token} {e : Tree} → IsUnary ts e rest → IsProduct ts e rest
    times : {ts mid rest : List Token} {t : Token} {s : Fixed} {op : BinOp} {a b : Tree} →
        IsProduct ts a (t ∷ mid) → Is s t → product_fixed s ≡ Some op → IsUnary mid b rest →
        IsProduct ts (TBin op t.place a b) rest

  -- unary = "-" unary | prim
  pub data IsUnary : List Token → Tree → List Token → Type 0 where
    primary : {ts rest : List Token} {e : Tree} → IsPrimary ts e rest → IsUnary ts e rest
    negated : {t : Token} {ts rest : List Token} {e : Tree} → Is Minus t → IsUnary ts e rest →
        IsUnary (t ∷ ts) (TNeg e t.place) rest

  -- prim = literal | name | name "[" expr "]" "[" expr "]" | "rows" "(" name ")" | "cols" "(" name
  -- ")" | "(" expr ")"
  pub data IsPrimary : List Token → Tree → List Token → Type 0 where
    literal : {t : Token} {rest : List Token} {n : ℤ} → IsLiteral t n →
        IsPrimary (t ∷ rest) (TInt n t.place) rest
    variable : {t : Token} {rest : List Token} {x : Spelled} → IsName t x →
        IsPrimary (t ∷ rest) (TVar x) rest
    cell : {t o c o2 c2 : Token} {ts us rest : List Token} {x : Spelled} {a b : Tree} →
        IsName t x → Is OpenSquare o → IsExpr ts a (c ∷ o2 ∷ us) → Is CloseSquare c →
        Is OpenSquare o2 → IsExpr us b (c2 ∷ rest) → Is CloseSquare c2 →
        IsPrimary (t ∷ o ∷ ts) (TCell x a b) rest
    rows : {w o t c : Token} {rest : List Token} {x : Spelled} → Is Rows w → Is OpenRound o →
        IsName t x → Is CloseRound c → IsPrimary (w ∷ o ∷ t ∷ c ∷ rest) (TRows x) rest
    cols : {w o t c : Token} {rest : List Token} {x : Spelled} → Is Cols w → Is OpenRound o →
        IsName t x → Is CloseRound c → IsPrimary (w ∷ o ∷ t ∷ c ∷ rest) (TCols x) rest
    bracketed : {o c : Token} {ts rest : List Token} {e : Tree} →
        Is OpenRound o → IsExpr ts e (c ∷ rest) → Is CloseRound c → IsPrimary (o ∷ ts) e rest

-- the tokens begin an expression: some further tokens, or none, make them one
abbrev pub BeginsExpr : List Token → Type 0
BeginsExpr ts = (more : List Token) × (e : Tree) × IsExpr (ts ++ more) e []
