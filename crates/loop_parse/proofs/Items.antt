-- Items and what is read of them: whole, or up to where something is too deep.
use Rattle.std.proofs.Common.{◌≡◌, ℕ, ℤ, ◌≤◌, List, [], ◌∷◌, length, None, Bool, true, false, ◌⊎◌}
use Rattle.std.proofs.Common.{inl, inr, ⊎_elim, nat_eq, refl, sym, ap, subst, ◌∙◌, length-drop}
use Rattle.std.proofs.Common.{arith}
use Rattle.tp_value.specs.declared.values.Place.{Place}
use Rattle.loop_syntax.specs.Tree.{Spelled, Tree, CarryTree, ReduceTree, Nodes}
use Rattle.loop_parse.specs.declared.terminal.Fixed.{Fixed}
use Rattle.loop_parse.specs.declared.terminal.Fixed.TheVariants as words
use Rattle.loop_parse.specs.declared.terminal.Fixed.TheVariants.{Comma, OpenBrace, CloseBrace}
use Rattle.loop_parse.specs.declared.terminal.Fixed.TheVariants.{OpenRound, CloseRound, OpenSquare}
use Rattle.loop_parse.specs.declared.terminal.Fixed.TheVariants.{CloseSquare}
use Rattle.loop_parse.specs.Terms as kinds
use Rattle.loop_parse.specs.Terms.{Kind, Token, Is, IsName, IsLiteral}
use Rattle.loop_parse.specs.Expressions.{IsExpr}
use Rattle.loop_parse.specs.Grammar.{Item, The, At, AName, ALiteral, AnExpr, ABrace, ABlock}
use Rattle.loop_parse.specs.Grammar.{CarryList, ReduceList, MoreArgs, Makes, program, block}
use Rattle.loop_parse.specs.Grammar.{no_carry, carries, no_reduce, reduces, no_more_arg, more_args}
use Rattle.loop_parse.specs.Grammar.{Fits, the, at_place, a_name, a_literal, an_expr, a_brace, by}
use Rattle.loop_parse.specs.Grammar.{FitAll, none, next_item, Comes, here, inside, ComesIn}
use Rattle.loop_parse.specs.Grammar.{in_first, in_later, IsTooDeep, long_expr, deep_brace, DeepIn}
use Rattle.loop_parse.specs.Reading.{Reply, Reader, Fault, Form, Deep, ◌>>=◌, tag, is_fixed, expect}
use Rattle.loop_parse.specs.Reading.{Limits, starts, begins_with, many_of, after_comma, further}
use Rattle.loop_parse.specs.Reading
use Rattle.loop_parse.proofs.Complete.{shorter_expr, Stop, stop_sign}
use Rattle.loop_parse.proofs.Outer.{TooLong}

-- something too deep comes in one of these items
pub record DeepAmong (items : List Item) (ts us : List Token) : Type 0 where
  pub what : Item
  pub at : List Token
  pub comes : ComesIn items ts what at
  pub is_deep : IsTooDeep what at us

-- in one item of this family
abbrev pub Deeply : {A : Type 0} → (A → Item) → List Token → List Token → Type 0
Deeply {A} f ts us = (v : A) × DeepIn (f v) ts us

pub under : {item : Item} {parts : List Item} {ts us : List Token} → Makes item parts → DeepAmong parts ts us → DeepIn item ts us
under m d = record { what = d.what; at = d.at; comes = inside m d.comes; is_deep = d.is_deep }

pub now : {item : Item} {items : List Item} {ts us : List Token} → DeepIn item ts us → DeepAmong (item ∷ items) ts us
now d = record { what = d.what; at = d.at; comes = in_first d.comes; is_deep = d.is_deep }

infixr 10 ◌▸◌
pub ◌▸◌ : {item : Item} {items : List Item} {ts mid us : List Token} → Fits item ts mid → DeepAmong items mid us → DeepAmong (item ∷ items) ts us
z ▸ d = record { what = d.what; at = d.at; comes = in_later z d.comes; is_deep = d.is_deep }

infixr 10 ◌◂◌
pub ◌◂◌ : {item : Item} {items : List Item} {ts mid rest : List Token} → Fits item ts mid → FitAll items mid rest → FitAll (item ∷ items) ts rest
z ◂ zs = next_item z zs

pub long_in : {ts us : List Token} → TooLong ts us → Deeply AnExpr ts us
long_in {ts} {us} b = (b.1.1, record { what = AnExpr b.1.1; at = ts; comes = here; is_deep = long_expr b.0 b.1 b.2 })

-- a list that has become shorter, or is as it was
mutual
  pub fits_length : {item : Item} {ts rest : List Token} → Fits item ts rest → length rest ≤ length ts
  fits_length (the i) = omega arith
  fits_length (at_place i) = omega arith
  fits_length (a_name i) = omega arith
  fits_length (a_literal i) = omega arith
  fits_length (an_expr z) = let h = shorter_expr z in omega arith
  fits_length (a_brace i) = omega arith
  fits_length (by m z) = all_length z

  pub all_length : {items : List Item} {ts rest : List Token} → FitAll items ts rest → length rest ≤ length ts
  all_length none = omega arith
  all_length (next_item z zs) = let h = fits_length z in let k = all_length zs in omega arith

mutual
  comes_length : {item what : Item} {ts us : List Token} → Comes item ts what us → length us ≤ length ts
  comes_length here = omega arith
  comes_length (inside m c) = comes_in_length c

  comes_in_length : {items : List Item} {what : Item} {ts us : List Token} → ComesIn items ts what us → length us ≤ length ts
  comes_in_length (in_first c) = comes_length c
  comes_in_length (in_later z c) = let h = fits_length z in let k = comes_in_length c in omega arith

deep_length : {what : Item} {ts us : List Token} → IsTooDeep what ts us → length us ≤ length ts
deep_length (long_expr {ts = ts} l b e) = omega (arith, ap length e, length-drop 256 ts)
deep_length (deep_brace l i e) = omega (arith, ap length e)

pub deep_in_length : {item : Item} {ts us : List Token} → DeepIn item ts us → length us ≤ length ts
deep_in_length d = let h = comes_length d.comes in let k = deep_length d.is_deep in omega arith

pub among_length : {items : List Item} {ts us : List Token} → DeepAmong items ts us → length us ≤ length ts
among_length d = let h = comes_in_length d.comes in let k = deep_length d.is_deep in omega arith

-- all is read, or something is too deep
pub data Out : Type 0 where
  Full : List Token → Out
  Bad : List Token → Out

abbrev pub left : Out → List Token
left (Full rest) = rest
left (Bad us) = us

pub data Part (item : Item) (ts : List Token) : Out → Type 0 where
  whole : {rest : List Token} → Fits item ts rest → Part item ts (Full rest)
  bad : {us : List Token} → DeepIn item ts us → Part item ts (Bad us)

pub data Parts (items : List Item) (ts : List Token) : Out → Type 0 where
  wholes : {rest : List Token} → FitAll items ts rest → Parts items ts (Full rest)
  bads : {us : List Token} → DeepAmong items ts us → Parts items ts (Bad us)

pub part_length : {item : Item} {ts : List Token} {out : Out} → Part item ts out → length (left out) ≤ length ts
part_length (whole z) = fits_length z
part_length (bad d) = deep_in_length d

pub parts_length : {items : List Item} {ts : List Token} {out : Out} → Parts items ts out → length (left out) ≤ length ts
parts_length (wholes z) = all_length z
parts_length (bads d) = among_length d

-- the first of some items is deep, or is read and the others follow
pub data Headed (item : Item) (items : List Item) (ts : List Token) (out : Out) : Type 0 where
  deep_head : (us : List Token) → out ≡ Bad us → DeepIn item ts us → Headed item items ts out
  head : (mid : List Token) → Fits item ts mid → Parts items mid out → Headed item items ts out

head_bad : {item : Item} {items : List Item} {ts us : List Token} (d : DeepAmong (item ∷ items) ts us) → ComesIn (item ∷ items) ts d.what d.at → Headed item items ts (Bad us)
head_bad {us = us} d (in_first c) = deep_head us refl (record { what = d.what; at = d.at; comes = c; is_deep = d.is_deep })
head_bad d (in_later {mid} z c) = head mid z (bads (record { what = d.what; at = d.at; comes = c; is_deep = d.is_deep }))

pub headed : {item : Item} {items : List Item} {ts : List Token} {out : Out} → Parts (item ∷ items) ts out → Headed item items ts out
headed (wholes (next_item {mid} z zs)) = head mid z (wholes zs)
headed (bads d) = head_bad d d.comes

-- a form that is made of others
abbrev pub is_form : Item → Bool
is_form (The s) = false
is_form (At s p) = false
is_form (AName x) = false
is_form (ALiteral n) = false
is_form (AnExpr e) = false
is_form (ABrace l) = false
is_form _ = true

pub data Opened (item : Item) (ts : List Token) (out : Out) : Type 0 where
  opened : (parts : List Item) → Makes item parts → Parts parts ts out → Opened item ts out

open_fits : {item : Item} {ts rest : List Token} → Fits item ts rest → is_form item ≡ true → Opened item ts (Full rest)
open_fits (the i) h = cc
open_fits (at_place i) h = cc
open_fits (a_name i) h = cc
open_fits (a_literal i) h = cc
open_fits (an_expr z) h = cc
open_fits (a_brace i) h = cc
open_fits (by {parts} m z) h = opened parts m (wholes z)

not_deep : {item : Item} {ts us : List Token} → IsTooDeep item ts us → is_form item ≡ true → ⊥
not_deep (long_expr l b e) h = cc
not_deep (deep_brace l i e) h = cc

open_comes : {item what : Item} {ts from us : List Token} → Comes item ts what from → IsTooDeep what from us → is_form item ≡ true → Opened item ts (Bad us)
open_comes here d h = absurd (not_deep d h)
open_comes {what = what} {from = from} (inside {parts} m c) d h = opened parts m (bads (record { what = what; at = from; comes = c; is_deep = d }))

pub open_part : {item : Item} {ts : List Token} {out : Out} → Part item ts out → is_form item ≡ true → Opened item ts out
open_part (whole z) h = open_fits z h
open_part (bad d) h = open_comes d.comes d.is_deep h

-- a fixed word or sign, a name and a literal are never deep
makes_form : {item : Item} {parts : List Item} → Makes item parts → is_form item ≡ true
makes_form program = refl
makes_form _ = refl

comes_leaf : {item what : Item} {ts from us : List Token} → Comes item ts what from → IsTooDeep what from us → is_form item ≡ false → IsTooDeep item ts us
comes_leaf here d h = d
comes_leaf (inside m c) d h = let k = makes_form m in absurd (let e : true ≡ false = sym k ∙ h in cc)

pub leaf_deep : {item : Item} {ts us : List Token} → DeepIn item ts us → is_form item ≡ false → IsTooDeep item ts us
leaf_deep d h = comes_leaf d.comes d.is_deep h

-- the first token is a word or sign that passes the test
pub record First (test : Fixed → Bool) (ts : List Token) : Type 0 where
  pub word : Fixed
  pub token : Token
  pub rest : List Token
  pub split : ts ≡ token ∷ rest
  pub is_word : Is word token
  pub passes : test word ≡ true

pub fits_the : {s : Fixed} {ts rest : List Token} → Fits (The s) ts rest → (t : Token) × Is s t × (ts ≡ t ∷ rest)
fits_the (the {t} i) = (t, i, refl)
fits_the (by m z) = absurd (let k = makes_form m in let e : false ≡ true = k in cc)

pub fits_at : {s : Fixed} {p : Place} {ts rest : List Token} → Fits (At s p) ts rest → (t : Token) × Is s t × (ts ≡ t ∷ rest) × (p ≡ t.place)
fits_at (at_place {t} i) = (t, i, refl, refl)
fits_at (by m z) = absurd (let k = makes_form m in let e : false ≡ true = k in cc)

pub fits_name : {x : Spelled} {ts rest : List Token} → Fits (AName x) ts rest → (t : Token) × IsName t x × (ts ≡ t ∷ rest)
fits_name (a_name {t} i) = (t, i, refl)
fits_name (by m z) = absurd (let k = makes_form m in let e : false ≡ true = k in cc)

pub fits_literal : {n : ℤ} {ts rest : List Token} → Fits (ALiteral n) ts rest → (t : Token) × IsLiteral t n × (ts ≡ t ∷ rest)
fits_literal (a_literal {t} i) = (t, i, refl)
fits_literal (by m z) = absurd (let k = makes_form m in let e : false ≡ true = k in cc)

pub fits_expr : {e : Tree} {ts rest : List Token} → Fits (AnExpr e) ts rest → IsExpr ts e rest
fits_expr (an_expr z) = z
fits_expr (by m z) = absurd (let k = makes_form m in let e : false ≡ true = k in cc)

pub fits_brace : {l : ℕ} {ts rest : List Token} → Fits (ABrace l) ts rest → (t : Token) × Is OpenBrace t × (ts ≡ t ∷ rest)
fits_brace (a_brace {t} i) = (t, i, refl)
fits_brace (by m z) = absurd (let k = makes_form m in let e : false ≡ true = k in cc)

no_deep_the : {s : Fixed} {ts us : List Token} → DeepIn (The s) ts us → ⊥
no_deep_the d = elim (leaf_deep d refl) [ ]

no_deep_at : {s : Fixed} {p : Place} {ts us : List Token} → DeepIn (At s p) ts us → ⊥
no_deep_at d = elim (leaf_deep d refl) [ ]

no_deep_name : {x : Spelled} {ts us : List Token} → DeepIn (AName x) ts us → ⊥
no_deep_name d = elim (leaf_deep d refl) [ ]

no_deep_literal : {n : ℤ} {ts us : List Token} → DeepIn (ALiteral n) ts us → ⊥
no_deep_literal d = elim (leaf_deep d refl) [ ]

brace_at : {l : ℕ} {ts us : List Token} → IsTooDeep (ABrace l) ts us → (32 ≤ l) × (t : Token) × (rest : List Token) × Is OpenBrace t × (ts ≡ t ∷ rest) × (us ≡ t ∷ rest)
brace_at (deep_brace {t} {rest} l i e) = (l, t, rest, i, refl, e)

expr_at : {e : Tree} {ts us : List Token} → IsTooDeep (AnExpr e) ts us → TooLong ts us
expr_at (long_expr l b e) = (l, b, e)

pub deep_expr : {e : Tree} {ts us : List Token} → DeepIn (AnExpr e) ts us → TooLong ts us
deep_expr d = expr_at (leaf_deep d refl)

pub deep_brace_at : {l : ℕ} {ts us : List Token} → DeepIn (ABrace l) ts us → (32 ≤ l) × (t : Token) × (rest : List Token) × Is OpenBrace t × (ts ≡ t ∷ rest) × (us ≡ t ∷ rest)
deep_brace_at d = brace_at (leaf_deep d refl)

-- a fixed word at the head
pub data TheHead (s : Fixed) (items : List Item) (ts : List Token) (out : Out) : Type 0 where
  the_head : (t : Token) (mid : List Token) → Is s t → ts ≡ t ∷ mid → Parts items mid out → TheHead s items ts out

pub head_the : {s : Fixed} {items : List Item} {ts : List Token} {out : Out} → Parts (The s ∷ items) ts out → TheHead s items ts out
head_the {s} {items} {ts} {out} z = go (headed z)
  where
    go : Headed (The s) items ts out → TheHead s items ts out
    go (deep_head us e d) = absurd (no_deep_the d)
    go (head mid y ys) = let f = fits_the y in the_head f.0 mid f.1 f.2 ys

pub data AtHead (s : Fixed) (p : Place) (items : List Item) (ts : List Token) (out : Out) : Type 0 where
  at_head : (t : Token) (mid : List Token) → Is s t → ts ≡ t ∷ mid → p ≡ t.place → Parts items mid out → AtHead s p items ts out

pub head_at : {s : Fixed} {p : Place} {items : List Item} {ts : List Token} {out : Out} → Parts (At s p ∷ items) ts out → AtHead s p items ts out
head_at {s} {p} {items} {ts} {out} z = go (headed z)
  where
    go : Headed (At s p) items ts out → AtHead s p items ts out
    go (deep_head us e d) = absurd (no_deep_at d)
    go (head mid y ys) = let f = fits_at y in at_head f.0 mid f.1 f.2 f.3 ys

pub data NameHead (x : Spelled) (items : List Item) (ts : List Token) (out : Out) : Type 0 where
  name_head : (t : Token) (mid : List Token) → IsName t x → ts ≡ t ∷ mid → Parts items mid out → NameHead x items ts out

pub head_name : {x : Spelled} {items : List Item} {ts : List Token} {out : Out} → Parts (AName x ∷ items) ts out → NameHead x items ts out
head_name {x} {items} {ts} {out} z = go (headed z)
  where
    go : Headed (AName x) items ts out → NameHead x items ts out
    go (deep_head us e d) = absurd (no_deep_name d)
    go (head mid y ys) = let f = fits_name y in name_head f.0 mid f.1 f.2 ys

pub data LiteralHead (n : ℤ) (items : List Item) (ts : List Token) (out : Out) : Type 0 where
  literal_head : (t : Token) (mid : List Token) → IsLiteral t n → ts ≡ t ∷ mid → Parts items mid out → LiteralHead n items ts out

pub head_literal : {n : ℤ} {items : List Item} {ts : List Token} {out : Out} → Parts (ALiteral n ∷ items) ts out → LiteralHead n items ts out
head_literal {n} {items} {ts} {out} z = go (headed z)
  where
    go : Headed (ALiteral n) items ts out → LiteralHead n items ts out
    go (deep_head us e d) = absurd (no_deep_literal d)
    go (head mid y ys) = let f = fits_literal y in literal_head f.0 mid f.1 f.2 ys

none_comes : {A : Type 0} {what : Item} {ts us : List Token} → ComesIn [] ts what us → A
none_comes c = elim c [ ]

pub none_left : {ts : List Token} {out : Out} → Parts [] ts out → out ≡ Full ts
none_left (wholes none) = refl
none_left (bads d) = none_comes d.comes

-- first tokens
pub first_the : {s : Fixed} {items : List Item} {ts : List Token} {out : Out} (test : Fixed → Bool) → Parts (The s ∷ items) ts out → test s ≡ true → First test ts
first_the {s} {items} {ts} {out} test z h = go (head_the z)
  where
    go : TheHead s items ts out → First test ts
    go (the_head t mid i e ys) = record { word = s; token = t; rest = mid; split = e; is_word = i; passes = h }

first_at : {s : Fixed} {p : Place} {items : List Item} {ts : List Token} {out : Out} (test : Fixed → Bool) → Parts (At s p ∷ items) ts out → test s ≡ true → First test ts
first_at {s} {p} {items} {ts} {out} test z h = go (head_at z)
  where
    go : AtHead s p items ts out → First test ts
    go (at_head t mid i e q ys) = record { word = s; token = t; rest = mid; split = e; is_word = i; passes = h }

pub first_brace : {l : ℕ} {items : List Item} {ts : List Token} {out : Out} (test : Fixed → Bool) → Parts (ABrace l ∷ items) ts out → test OpenBrace ≡ true → First test ts
first_brace {l} {items} {ts} {out} test z h = go (headed z)
  where
    go : Headed (ABrace l) items ts out → First test ts
    go (deep_head us e d) = let b = deep_brace_at d in record { word = OpenBrace; token = b.1; rest = b.2; split = b.4; is_word = b.3; passes = h }
    go (head mid y ys) = let f = fits_brace y in record { word = OpenBrace; token = f.0; rest = mid; split = f.2; is_word = f.1; passes = h }

block_parts : {l : ℕ} {b : Nodes} {parts : List Item} {ts : List Token} {out : Out} (test : Fixed → Bool) → Makes (ABlock l b) parts → Parts parts ts out → test OpenBrace ≡ true → First test ts
block_parts test block ys h = first_brace test ys h

block_opened : {l : ℕ} {b : Nodes} {ts : List Token} {out : Out} (test : Fixed → Bool) → Opened (ABlock l b) ts out → test OpenBrace ≡ true → First test ts
block_opened test (opened parts m ys) h = block_parts test m ys h

-- where the first of the items begins with such a token, all do
pub first_of : {item : Item} {items : List Item} {ts : List Token} {out : Out} (test : Fixed → Bool) → Parts (item ∷ items) ts out → ((o : Out) → Part item ts o → First test ts) → First test ts
first_of {item} {items} {ts} {out} test z f = go (headed z)
  where
    go : Headed item items ts out → First test ts
    go (deep_head us e d) = f (Bad us) (bad d)
    go (head mid y ys) = f (Full mid) (whole y)

pub first_block : {l : ℕ} {b : Nodes} {items : List Item} {ts : List Token} {out : Out} (test : Fixed → Bool) → Parts (ABlock l b ∷ items) ts out → test OpenBrace ≡ true → First test ts
first_block test z h = first_of test z (λ o y. block_opened test (open_part y refl) h)

-- a form that may be empty begins with such a token, or is empty
first_or : {item : Item} {items : List Item} {ts : List Token} {out : Out} (test : Fixed → Bool) → is_form item ≡ true → Parts (item ∷ items) ts out →
    ((parts : List Item) → Makes item parts → (o : Out) → Parts parts ts o → First test ts ⊎ (o ≡ Full ts)) → (Parts items ts out → First test ts) → First test ts
first_or {item} {items} {ts} {out} test k z f g = go (headed z)
  where
    deep : (us : List Token) → Opened item ts (Bad us) → First test ts
    deep us (opened parts m ys) = ⊎_elim (λ x. x) (λ e. cc) (f parts m (Bad us) ys)

    full : (mid : List Token) → Parts items mid out → Opened item ts (Full mid) → First test ts
    full mid rest (opened parts m ys) = ⊎_elim (λ x. x) (λ e. let q : mid ≡ ts = cc in g (subst (λ (u : List Token). Parts items u out) q rest)) (f parts m (Full mid) ys)

    go : Headed item items ts out → First test ts
    go (deep_head us e d) = deep us (open_part (bad d) k)
    go (head mid y ys) = full mid ys (open_part (whole y) k)

more_args_first : {es : List Tree} {parts : List Item} {ts : List Token} {o : Out} (test : Fixed → Bool) → Makes (MoreArgs es) parts → Parts parts ts o → test Comma ≡ true → First test ts ⊎ (o ≡ Full ts)
more_args_first test no_more_arg ys h = inr (none_left ys)
more_args_first test more_args ys h = inl (first_the test ys h)

pub first_more_args : {es : List Tree} {items : List Item} {ts : List Token} {out : Out} (test : Fixed → Bool) → Parts (MoreArgs es ∷ items) ts out → test Comma ≡ true → (Parts items ts out → First test ts) → First test ts
first_more_args test z h g = first_or test refl z (λ parts m o ys. more_args_first test m ys h) g

carries_first : {p q : Place} {cs : List CarryTree} {parts : List Item} {ts : List Token} {o : Out} (test : Fixed → Bool) → Makes (CarryList p q cs) parts → Parts parts ts o → test words.Carry ≡ true → First test ts ⊎ (o ≡ Full ts)
carries_first test (no_carry e) ys h = inr (none_left ys)
carries_first test carries ys h = inl (first_at test ys h)

pub first_carries : {p q : Place} {cs : List CarryTree} {items : List Item} {ts : List Token} {out : Out} (test : Fixed → Bool) → Parts (CarryList p q cs ∷ items) ts out → test words.Carry ≡ true → (Parts items ts out → First test ts) → First test ts
first_carries test z h g = first_or test refl z (λ parts m o ys. carries_first test m ys h) g

reduces_first : {rs : List ReduceTree} {parts : List Item} {ts : List Token} {o : Out} (test : Fixed → Bool) → Makes (ReduceList rs) parts → Parts parts ts o → test words.Reduce ≡ true → First test ts ⊎ (o ≡ Full ts)
reduces_first test no_reduce ys h = inr (none_left ys)
reduces_first test reduces ys h = inl (first_the test ys h)

pub first_reduces : {rs : List ReduceTree} {items : List Item} {ts : List Token} {out : Out} (test : Fixed → Bool) → Parts (ReduceList rs ∷ items) ts out → test words.Reduce ≡ true → (Parts items ts out → First test ts) → First test ts
first_reduces test z h g = first_or test refl z (λ parts m o ys. reduces_first test m ys h) g

-- no expression goes on with the word or sign
abbrev pub ends : Fixed → Bool
ends words.Plus = false
ends words.Minus = false
ends words.Star = false
ends words.Slash = false
ends words.Percent = false
ends words.Same = false
ends words.Differs = false
ends words.Less = false
ends words.AtMost = false
ends words.Greater = false
ends words.AtLeast = false
ends words.OpenSquare = false
ends _ = true

ends_all : (s : Fixed) → ends s ≡ true → (nat_eq (tag s) (tag OpenSquare) ≡ false) × (Reading.product_op_of (kinds.Spelling s) ≡ None) × (Reading.sum_op_of (kinds.Spelling s) ≡ None) × (Reading.compare_op_of (kinds.Spelling s) ≡ None)
ends_all words.Plus h = cc
ends_all words.Minus h = cc
ends_all words.Star h = cc
ends_all words.Slash h = cc
ends_all words.Percent h = cc
ends_all words.Same h = cc
ends_all words.Differs h = cc
ends_all words.Less h = cc
ends_all words.AtMost h = cc
ends_all words.Greater h = cc
ends_all words.AtLeast h = cc
ends_all words.OpenSquare h = cc
ends_all _ h = (refl, refl, refl, refl)

pub stop_first : (ts : List Token) → First ends ts → Stop ts
stop_first ts f = let e = ends_all f.word f.passes in subst (λ (us : List Token). Stop us) (sym f.split) (stop_sign f.word f.token f.rest f.is_word e.0 e.1 e.2 e.3)

-- where the first token passes, one test of kinds fails
pub starts_first : (begins : Kind → Bool) (test : Fixed → Bool) (ts : List Token) → First test ts → ((s : Fixed) → test s ≡ true → begins (kinds.Spelling s) ≡ false) → starts begins ts ≡ false
starts_first begins test ts f h = ap (starts begins) f.split ∙ ap begins f.is_word ∙ h f.word f.passes
