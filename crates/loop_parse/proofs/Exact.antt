-- The readings of expressions are sound, shorten the list, and stop where the machine stops.
use Rattle.std.proofs.Common.{◌≡◌, ℕ, zero, suc, ◌<◌, ◌≤◌, List, [], ◌∷◌, ◌++◌, length, Option}
use Rattle.std.proofs.Common.{Some, None, Ok, Err, Bool, true, false, nat_eq, cond, if◌then◌else◌}
use Rattle.std.proofs.Common.{refl, sym, ap, subst, ◌∙◌, eqb-true, arith}
use Rattle.tp_value.specs.declared.values.Place.{Place}
use Rattle.loop_syntax.specs.declared.expression.BinOp.{BinOp}
use Rattle.loop_syntax.specs.Tree.{Spelled, Tree, TVar, TCell, TRows, TCols, TNeg, TBin}
use Rattle.loop_parse.specs.declared.terminal.Fixed.{Fixed}
use Rattle.loop_parse.specs.declared.terminal.Fixed.TheVariants.{Input, Table, Fn, Return, Main}
use Rattle.loop_parse.specs.declared.terminal.Fixed.TheVariants.{Let, If, Else, While, Loop, Par}
use Rattle.loop_parse.specs.declared.terminal.Fixed.TheVariants.{In, Carry, Reduce, By, Fold, With}
use Rattle.loop_parse.specs.declared.terminal.Fixed.TheVariants.{Call, Both, Print, Emit, Rows}
use Rattle.loop_parse.specs.declared.terminal.Fixed.TheVariants.{Cols, Add, Mul, Min, Max, Affine}
use Rattle.loop_parse.specs.declared.terminal.Fixed.TheVariants.{Leave, OpenRound, CloseRound}
use Rattle.loop_parse.specs.declared.terminal.Fixed.TheVariants.{OpenBrace, CloseBrace, OpenSquare}
use Rattle.loop_parse.specs.declared.terminal.Fixed.TheVariants.{CloseSquare, Comma, Semi, Assign}
use Rattle.loop_parse.specs.declared.terminal.Fixed.TheVariants.{Plus, Minus, Star, Slash, Percent}
use Rattle.loop_parse.specs.declared.terminal.Fixed.TheVariants.{Same, Differs, Less, AtMost}
use Rattle.loop_parse.specs.declared.terminal.Fixed.TheVariants.{Greater, AtLeast, DotDot}
use Rattle.loop_parse.specs.Terms as kinds
use Rattle.loop_parse.specs.Terms.{Kind, Token, Is, IsName, IsLiteral}
use Rattle.loop_parse.specs.Expressions.{IsExpr, plain, compare, IsSum, one, more, IsProduct}
use Rattle.loop_parse.specs.Expressions.{factor, times, IsUnary, primary, negated, IsPrimary}
use Rattle.loop_parse.specs.Expressions.{literal, variable, cell, rows, cols, bracketed}
use Rattle.loop_parse.specs.Expressions.{compare_fixed, sum_fixed, product_fixed}
use Rattle.loop_parse.specs.Reading.{Reply, Fault, Form, Deep, ◌>>=◌, tag, is_fixed, by_fixed}
use Rattle.loop_parse.specs.Reading.{expect, compare_op_of, sum_op_of, product_op_of, chain_rest}
use Rattle.loop_parse.specs.Reading.{chain, name_rest, primary_at, fixed_at, primary_of, unary_of}
use Rattle.loop_parse.specs.Reading.{expr_of, nested}
use Rattle.loop_parse.specs.Reading
use Rattle.loop_parse.proofs.Machine.{Symbol, Want, AName, Unary, NameRest, ProductRest, SumRest}
use Rattle.loop_parse.proofs.Machine.{CompareRest, Move, Take, Skip, Refuse, an_expr, step, offer}
use Rattle.loop_parse.proofs.Machine.{moved, run, primary_move, fixed_move, name_move}

-- the machine takes the first of these tokens
abbrev pub Past : Option (List Token) → List Token → Type 0
Past o us = (t : Token) × (rest : List Token) × (next : List Symbol) × (us ≡ t ∷ rest) × (o ≡ run next rest)

pub past_along : (o q : Option (List Token)) (us : List Token) → o ≡ q → Past q us → Past o us
past_along o q us e p = (p.0, p.1, p.2, p.3, e ∙ p.4)

-- what a reply says: the value is in the grammar, fewer tokens are left, and the machine goes on at them, or stops there; or it is too deep there
abbrev pub Told : {A : Type 0} → (A → List Token → Type 0) → (List Symbol → Option (List Token)) → (List Token → Type 0) → ℕ → Reply A → Type 0
Told Y v W b (Ok x) = Y x.0 x.1 × (length x.1 < b) × ((st : List Symbol) → v st ≡ run st x.1)
Told Y v W b (Err (Form us)) = (st : List Symbol) → v st ≡ Some us
Told Y v W b (Err (Deep us)) = W us × ((st : List Symbol) → Past (v st) us)

pub record Ends {A : Type 0} (Y : A → List Token → Type 0) (v : List Symbol → Option (List Token)) (W : List Token → Type 0) (b : ℕ) (r : Reply A) : Type 0 where
  pub told : Told Y v W b r

pub done : {A : Type 0} {Y : A → List Token → Type 0} {v : List Symbol → Option (List Token)} {W : List Token → Type 0} {b : ℕ} {e : A} {rest : List Token} →
    Y e rest → length rest < b → ((st : List Symbol) → v st ≡ run st rest) → Ends Y v W b (Ok (e, rest))
done y l h = record { told = (y, l, h) }

pub stopped : {A : Type 0} {Y : A → List Token → Type 0} {v : List Symbol → Option (List Token)} {W : List Token → Type 0} {b : ℕ} {us : List Token} →
    ((st : List Symbol) → v st ≡ Some us) → Ends Y v W b (Err (Form us))
stopped h = record { told = h }

bound : {A B : Type 0} (Z : A → List Token → Type 0) (w : List Symbol → Option (List Token)) (W : List Token → Type 0) (b : ℕ) (Y : B → List Token → Type 0) (v : List Symbol → Option (List Token)) (later : List Symbol → List Symbol) (d : ℕ) (r : Reply A) (f : A × List Token → Reply B) →
    ((st : List Symbol) → v st ≡ w (later st)) → Told Z w W b r →
    ((e : A) (rest : List Token) → Z e rest → length rest < b → Ends Y (λ st. run (later st) rest) W d (f (e, rest))) →
    Told Y v W d (r >>= f)
bound Z w W b Y v later d (Err (Form us)) f same h k = λ st. same st ∙ h (later st)
bound Z w W b Y v later d (Err (Deep us)) f same h k = (h.0, λ st. past_along _ _ us (same st) (h.1 (later st)))
bound {B = B} Z w W b Y v later d (Ok x) f same h k = over (f x) (k x.0 x.1 h.0 h.1).told
  where
    over : (q : Reply B) → Told Y (λ st. run (later st) x.1) W d q → Told Y v W d q
    over (Ok y) g = (g.0, g.1, λ st. same st ∙ h.2 (later st) ∙ g.2 st)
    over (Err (Form us)) g = λ st. same st ∙ h.2 (later st) ∙ g st
    over (Err (Deep us)) g = (g.0, λ st. past_along _ _ us (same st ∙ h.2 (later st)) (g.1 st))

-- one reading after another, with what the machine waits for later
pub bind : {A B : Type 0} {Z : A → List Token → Type 0} {w : List Symbol → Option (List Token)} {W : List Token → Type 0} {b : ℕ} {Y : B → List Token → Type 0} {v : List Symbol → Option (List Token)} {d : ℕ} {r : Reply A} (later : List Symbol → List Symbol) (f : A × List Token → Reply B) →
    ((st : List Symbol) → v st ≡ w (later st)) → Ends Z w W b r →
    ((e : A) (rest : List Token) → Z e rest → length rest < b → Ends Y (λ st. run (later st) rest) W d (f (e, rest))) →
    Ends Y v W d (r >>= f)
bind {Z = Z} {w = w} {W = W} {b = b} {Y = Y} {v = v} {d = d} {r = r} later f same h k = record { told = bound Z w W b Y v later d r f same h.told k }

told_along : {A : Type 0} (Y : A → List Token → Type 0) (v w : List Symbol → Option (List Token)) (W : List Token → Type 0) (b : ℕ) (r : Reply A) →
    ((st : List Symbol) → v st ≡ w st) → Told Y w W b r → Told Y v W b r
told_along Y v w W b (Ok x) same h = (h.0, h.1, λ st. same st ∙ h.2 st)
told_along Y v w W b (Err (Form us)) same h = λ st. same st ∙ h st
told_along Y v w W b (Err (Deep us)) same h = (h.0, λ st. past_along _ _ us (same st) (h.1 st))

pub along : {A : Type 0} {Y : A → List Token → Type 0} {v w : List Symbol → Option (List Token)} {W : List Token → Type 0} {b : ℕ} {r : Reply A} →
    ((st : List Symbol) → v st ≡ w st) → Ends Y w W b r → Ends Y v W b r
along {Y = Y} {v = v} {w = w} {W = W} {b = b} {r = r} same h = record { told = told_along Y v w W b r same h.told }

told_weaken : {A : Type 0} (Y Z : A → List Token → Type 0) (v : List Symbol → Option (List Token)) (W : List Token → Type 0) (b : ℕ) (r : Reply A) →
    ((e : A) (rest : List Token) → Z e rest → Y e rest) → Told Z v W b r → Told Y v W b r
told_weaken Y Z v W b (Ok x) f h = (f x.0 x.1 h.0, h.1, h.2)
told_weaken Y Z v W b (Err (Form us)) f h = h
told_weaken Y Z v W b (Err (Deep us)) f h = h

pub weaken : {A : Type 0} {Y Z : A → List Token → Type 0} {v : List Symbol → Option (List Token)} {W : List Token → Type 0} {b : ℕ} {r : Reply A} →
    ((e : A) (rest : List Token) → Z e rest → Y e rest) → Ends Z v W b r → Ends Y v W b r
weaken {Y = Y} {Z = Z} {v = v} {W = W} {b = b} {r = r} f h = record { told = told_weaken Y Z v W b r f h.told }

told_wider : {A : Type 0} (Y : A → List Token → Type 0) (v : List Symbol → Option (List Token)) (W : List Token → Type 0) (b d : ℕ) (r : Reply A) → b ≤ d → Told Y v W b r → Told Y v W d r
told_wider Y v W b d (Ok x) l h = (h.0, omega (arith, h.1), h.2)
told_wider Y v W b d (Err (Form us)) l h = h
told_wider Y v W b d (Err (Deep us)) l h = h

pub wider : {A : Type 0} {Y : A → List Token → Type 0} {v : List Symbol → Option (List Token)} {W : List Token → Type 0} {b d : ℕ} {r : Reply A} →
    b ≤ d → Ends Y v W b r → Ends Y v W d r
wider {Y = Y} {v = v} {W = W} {b = b} {d = d} {r = r} l h = record { told = told_wider Y v W b d r l h.told }

told_deeper : {A : Type 0} (Y : A → List Token → Type 0) (v : List Symbol → Option (List Token)) (W V : List Token → Type 0) (b : ℕ) (r : Reply A) → ((us : List Token) → V us → W us) → Told Y v V b r → Told Y v W b r
told_deeper Y v W V b (Ok x) f h = h
told_deeper Y v W V b (Err (Form us)) f h = h
told_deeper Y v W V b (Err (Deep us)) f h = (f us h.0, h.1)

pub deeper : {A : Type 0} {Y : A → List Token → Type 0} {v : List Symbol → Option (List Token)} {W V : List Token → Type 0} {b : ℕ} {r : Reply A} →
    ((us : List Token) → V us → W us) → Ends Y v V b r → Ends Y v W b r
deeper {Y = Y} {v = v} {W = W} {V = V} {b = b} {r = r} f h = record { told = told_deeper Y v W V b r f h.told }

-- no answer that it is too deep
abbrev pub Never : List Token → Type 0
Never us = ⊥

-- the word or sign of a number
of_tag : ℕ → Fixed
of_tag n =
    (if nat_eq n 0 then Input else
    (if nat_eq n 1 then Table else
    (if nat_eq n 2 then Fn else
    (if nat_eq n 3 then Return else
    (if nat_eq n 4 then Main else
    (if nat_eq n 5 then Let else
    (if nat_eq n 6 then If else
    (if nat_eq n 7 then Else else
    (if nat_eq n 8 then While else
    (if nat_eq n 9 then Loop else
    (if nat_eq n 10 then Par else
    (if nat_eq n 11 then In else
    (if nat_eq n 12 then Carry else
    (if nat_eq n 13 then Reduce else
    (if nat_eq n 14 then By else
    (if nat_eq n 15 then Fold else
    (if nat_eq n 16 then With else
    (if nat_eq n 17 then Call else
    (if nat_eq n 18 then Both else
    (if nat_eq n 19 then Print else
    (if nat_eq n 20 then Emit else
    (if nat_eq n 21 then Rows else
    (if nat_eq n 22 then Cols else
    (if nat_eq n 23 then Add else
    (if nat_eq n 24 then Mul else
    (if nat_eq n 25 then Min else
    (if nat_eq n 26 then Max else
    (if nat_eq n 27 then Affine else
    (if nat_eq n 28 then Leave else
    (if nat_eq n 29 then OpenRound else
    (if nat_eq n 30 then CloseRound else
    (if nat_eq n 31 then OpenBrace else
    (if nat_eq n 32 then CloseBrace else
    (if nat_eq n 33 then OpenSquare else
    (if nat_eq n 34 then CloseSquare else
    (if nat_eq n 35 then Comma else
    (if nat_eq n 36 then Semi else
    (if nat_eq n 37 then Assign else
    (if nat_eq n 38 then Plus else
    (if nat_eq n 39 then Minus else
    (if nat_eq n 40 then Star else
    (if nat_eq n 41 then Slash else
    (if nat_eq n 42 then Percent else
    (if nat_eq n 43 then Same else
    (if nat_eq n 44 then Differs else
    (if nat_eq n 45 then Less else
    (if nat_eq n 46 then AtMost else
    (if nat_eq n 47 then Greater else
    (if nat_eq n 48 then AtLeast else
    DotDot)))))))))))))))))))))))))))))))))))))))))))))))))

of_tag-tag : (s : Fixed) → of_tag (tag s) ≡ s
unfolding of_tag
of_tag-tag Input = refl
of_tag-tag _ = refl

same_fixed : (a b : Fixed) → nat_eq (tag a) (tag b) ≡ true → a ≡ b
same_fixed a b h = sym (of_tag-tag a) ∙ ap of_tag (eqb-true (tag a) (tag b) h) ∙ of_tag-tag b

pub is_found : (s : Fixed) (k : Kind) → is_fixed s k ≡ true → k ≡ kinds.Spelling s
is_found s (kinds.Literal n) h = cc
is_found s (kinds.Name x) h = cc
is_found s (kinds.Spelling u) h = ap kinds.Spelling (same_fixed u s h)

-- the word or sign, by its place
abbrev pub AtFixed : Fixed → List Token → Place → List Token → Type 0
AtFixed s ts p rest = (t : Token) × Is s t × (ts ≡ t ∷ rest) × (p ≡ t.place)

want_step : (s : Fixed) (t : Token) (ts : List Token) (b : Bool) → is_fixed s t.kind ≡ b → (st : List Symbol) → run (Want s ∷ st) (t ∷ ts) ≡ cond b (run st ts) (Some (t ∷ ts))
want_step s t ts true h st = rw (h, run) refl
want_step s t ts false h st = rw (h, run) refl

pub expects : {W : List Token → Type 0} (s : Fixed) (ts : List Token) → Ends (AtFixed s ts) (λ st. run (Want s ∷ st) ts) W (length ts) (expect s ts)
unfolding expect
expects {W} s [] = stopped (λ st. refl)
expects {W} s (t ∷ ts) = go (is_fixed s t.kind) refl
  where
    go : (b : Bool) → is_fixed s t.kind ≡ b → Ends (AtFixed s (t ∷ ts)) (λ st. run (Want s ∷ st) (t ∷ ts)) W (length (t ∷ ts)) (if b then Ok (t.place, ts) else Err (Form (t ∷ ts)))
    go true h = done (t, is_found s t.kind h, refl, refl) (omega arith) (want_step s t ts true h)
    go false h = stopped (want_step s t ts false h)

-- how the machine goes on at a move of its top symbol
abbrev pub taken : Move → List Symbol → Token → List Token → Option (List Token)
taken m st t ts = elim (moved m (offer st t.kind) st) [ None ↦ Some (t ∷ ts) | Some next ↦ run next ts ]

-- a refusal at a token
pub refused : (s : Symbol) (t : Token) (ts : List Token) → step s t.kind ≡ Refuse → (st : List Symbol) → run (s ∷ st) (t ∷ ts) ≡ Some (t ∷ ts)
refused s t ts h st = ap (λ m. taken m st t ts) h

pub took : (s : Symbol) (t : Token) (ts : List Token) (next : List Symbol) → step s t.kind ≡ Take next → (st : List Symbol) → run (s ∷ st) (t ∷ ts) ≡ run (next ++ st) ts
took s t ts next h st = ap (λ m. taken m st t ts) h

pub skipped : (s : Symbol) (t : Token) (ts : List Token) → step s t.kind ≡ Skip → (st : List Symbol) → run (s ∷ st) (t ∷ ts) ≡ run st (t ∷ ts)
skipped s t ts h st = ap (λ m. taken m st t ts) h

-- a name
abbrev pub AtName : List Token → Spelled → List Token → Type 0
AtName ts x rest = (t : Token) × IsName t x × (ts ≡ t ∷ rest)

pub name_law : {W : List Token → Type 0} (ts : List Token) → Ends (AtName ts) (λ st. run (AName ∷ st) ts) W (length ts) (Reading.name ts)
unfolding Reading.name
name_law {W} [] = stopped (λ st. refl)
name_law {W} (t ∷ ts) = go t.kind refl
  where
    go : (k : Kind) → t.kind ≡ k → Ends (AtName (t ∷ ts)) (λ st. run (AName ∷ st) (t ∷ ts)) W (length (t ∷ ts)) (Reading.name_at k t ts)
    go (kinds.Name x) h = done (t, record { named = h; placed = refl }, refl) (omega arith) (took AName t ts [] (ap name_move h))
    go (kinds.Literal n) h = stopped (refused AName t ts (ap name_move h))
    go (kinds.Spelling s) h = stopped (refused AName t ts (ap name_move h))

-- a name in brackets
abbrev AtSized : List Token → Spelled → List Token → Type 0
AtSized ts x rest = (o t c : Token) × (ts ≡ o ∷ t ∷ c ∷ rest) × Is OpenRound o × IsName t x × Is CloseRound c

sized_law : {W : List Token → Type 0} (ts : List Token) → Ends (AtSized ts) (λ st. run (Want OpenRound ∷ AName ∷ Want CloseRound ∷ st) ts) W (length ts) (Reading.sized ts)
unfolding Reading.sized
sized_law ts =
    bind (λ st. AName ∷ Want CloseRound ∷ st) _ (λ st. refl) (expects OpenRound ts) (λ o r1 zo lo.
    bind (λ st. Want CloseRound ∷ st) _ (λ st. refl) (name_law r1) (λ x r2 zx lx.
    bind (λ st. st) _ (λ st. refl) (expects CloseRound r2) (λ c r3 zc lc.
    done (zo.0, zx.0, zc.0, zo.2 ∙ ap (λ us. zo.0 ∷ us) (zx.2 ∙ ap (λ us. zx.0 ∷ us) zc.2), zo.1, zx.1, zc.1) (omega arith) (λ st. refl))))

-- what a reading of expressions is to do, on lists that are shorter than a bound
abbrev Law : (List Token → Tree → List Token → Type 0) → (List Symbol → List Symbol) → ℕ → (List Token → Reply Tree) → Type 0
Law X pre n r = (ts : List Token) → length ts < n → Ends (X ts) (λ st. run (pre st) ts) Never (length ts) (r ts)

names : (n : ℕ) (inner : List Token → Reply Tree) → Law IsExpr an_expr n inner →
    (t : Token) (x : Spelled) (ts : List Token) → IsName t x → length ts < n →
    Ends (IsPrimary (t ∷ ts)) (λ st. run (NameRest ∷ st) ts) Never (length (t ∷ ts)) (name_rest inner x ts)
names n inner law t x [] k l = done (variable k) (omega arith) (λ st. refl)
names n inner law t x (o ∷ ts) k l = go (is_fixed OpenSquare o.kind) refl
  where
    go : (b : Bool) → is_fixed OpenSquare o.kind ≡ b →
        Ends (IsPrimary (t ∷ o ∷ ts)) (λ st. run (NameRest ∷ st) (o ∷ ts)) Never (length (t ∷ o ∷ ts))
        (if b then (do
          a ← inner ts
          c ← expect CloseSquare a.1
          o2 ← expect OpenSquare c.1
          b ← inner o2.1
          c2 ← expect CloseSquare b.1
          Ok (TCell x a.0 b.0, c2.1))
        else Ok (TVar x, o ∷ ts))
    go false h = done (variable k) (omega arith) (λ st. rw (h, run) refl)
    go true h =
        bind (λ st. Want CloseSquare ∷ Want OpenSquare ∷ an_expr (Want CloseSquare ∷ st)) _ (λ st. rw (h, run) refl) (law ts (omega arith)) (λ a r1 za la.
        bind (λ st. Want OpenSquare ∷ an_expr (Want CloseSquare ∷ st)) _ (λ st. refl) (expects CloseSquare r1) (λ c r2 zc lc.
        bind (λ st. an_expr (Want CloseSquare ∷ st)) _ (λ st. refl) (expects OpenSquare r2) (λ o2 r3 zo lo.
        bind (λ st. Want CloseSquare ∷ st) _ (λ st. refl) (law r3 (omega arith)) (λ b r4 zb lb.
        bind (λ st. st) _ (λ st. refl) (expects CloseSquare r4) (λ c2 r5 zc2 lc2.
        done
        (cell k (is_found OpenSquare o.kind h) (subst (λ us. IsExpr ts a us) (zc.2 ∙ ap (λ us. zc.0 ∷ us) zo.2) za) zc.1 zo.1 (subst (λ us. IsExpr r3 b us) zc2.2 zb) zc2.1)
        (omega arith) (λ st. refl))))))

module _ (n : ℕ) (inner : List Token → Reply Tree) (law : Law IsExpr an_expr n inner) where
  fixed_law : (t : Token) (s : Fixed) (ts : List Token) → Is s t → length ts < n → (w : List Symbol → Option (List Token)) →
      ((st : List Symbol) → w st ≡ taken (fixed_move s []) st t ts) → Ends (IsPrimary (t ∷ ts)) w Never (length (t ∷ ts)) (fixed_at inner s t ts)
  fixed_law t OpenRound ts k l w same =
      bind (λ st. Want CloseRound ∷ st) _ same (law ts (omega arith)) (λ e r1 ze le.
      bind (λ st. st) _ (λ st. refl) (expects CloseRound r1) (λ c r2 zc lc.
      done (bracketed k (subst (λ us. IsExpr ts e us) zc.2 ze) zc.1) (omega arith) (λ st. refl)))
  fixed_law t Rows ts k l w same =
      bind (λ st. st) _ same (sized_law ts) (λ x r1 z q. done (subst (λ us. IsPrimary (t ∷ us) (TRows x) r1) (sym z.3) (rows k z.4 z.5 z.6)) (omega arith) (λ st. refl))
  fixed_law t Cols ts k l w same =
      bind (λ st. st) _ same (sized_law ts) (λ x r1 z q. done (subst (λ us. IsPrimary (t ∷ us) (TCols x) r1) (sym z.3) (cols k z.4 z.5 z.6)) (omega arith) (λ st. refl))
  fixed_law t _ ts k l w same = stopped same

  primaries : (t : Token) (k : Kind) (ts : List Token) → t.kind ≡ k → length ts < n → (w : List Symbol → Option (List Token)) →
      ((st : List Symbol) → w st ≡ taken (primary_move k []) st t ts) →
      Ends (IsPrimary (t ∷ ts)) w Never (length (t ∷ ts)) (primary_at inner k t ts)
  primaries t (kinds.Literal i) ts k l w same = done (literal k) (omega arith) same
  primaries t (kinds.Name x) ts k l w same = along same (names n inner law t (record { text = x; place = t.place }) ts (record { named = k; placed = refl }) l)
  primaries t (kinds.Spelling s) ts k l w same = fixed_law t s ts k l w same

primary_law : (n : ℕ) (inner : List Token → Reply Tree) → Law IsExpr an_expr n inner → (t : Token) (ts : List Token) → length ts < n → is_fixed Minus t.kind ≡ false →
    Ends (IsPrimary (t ∷ ts)) (λ st. run (Unary ∷ st) (t ∷ ts)) Never (length (t ∷ ts)) (primary_of inner (t ∷ ts))
primary_law n inner law t ts l h = primaries n inner law t t.kind ts refl l _ (λ st. rw (h, run) refl)

unary_law : (n : ℕ) (inner : List Token → Reply Tree) → Law IsExpr an_expr n inner → Law IsUnary (λ st. Unary ∷ st) (suc n) (unary_of inner)
unary_law n inner law [] l = stopped (λ st. refl)
unary_law n inner law (t ∷ ts) l = go (is_fixed Minus t.kind) refl (unary_law n inner law ts (omega arith))
  where
    go : (b : Bool) → is_fixed Minus t.kind ≡ b → Ends (IsUnary ts) (λ st. run (Unary ∷ st) ts) Never (length ts) (unary_of inner ts) →
        Ends (IsUnary (t ∷ ts)) (λ st. run (Unary ∷ st) (t ∷ ts)) Never (length (t ∷ ts)) (if b then (unary_of inner ts >>= λ e. Ok (TNeg e.0 t.place, e.1)) else primary_of inner (t ∷ ts))
    go true h u =
        bind (λ st. st) _ (λ st. rw (h, run) refl) u (λ e r1 ze le.
        done (negated (is_found Minus t.kind h) ze) (omega arith) (λ st. refl))
    go false h u = weaken (λ e rest z. primary z) (primary_law n inner law t ts (omega arith) h)

by_fixed_some : (f : Fixed → Option BinOp) (k : Kind) (o : BinOp) → by_fixed f k ≡ Some o → (s : Fixed) × (k ≡ kinds.Spelling s) × (f s ≡ Some o)
by_fixed_some f (kinds.Literal n) o h = cc
by_fixed_some f (kinds.Name x) o h = cc
by_fixed_some f (kinds.Spelling s) o h = (s, refl, h)

-- a chain of operators: what one item is, what the chain is, and what the machine waits for after an item
record Chained (X Y : List Token → Tree → List Token → Type 0) (pre : List Symbol → List Symbol) (T : Symbol) (signs : Fixed → Option BinOp) : Type 0 where
  first : (ts rest : List Token) (e : Tree) → X ts e rest → Y ts e rest
  grows : (ts mid rest : List Token) (t : Token) (s : Fixed) (o : BinOp) (a b : Tree) → Y ts a (t ∷ mid) → Is s t → signs s ≡ Some o → X mid b rest → Y ts (TBin o t.place a b) rest
  takes : (t : Token) (ts : List Token) (o : BinOp) → by_fixed signs t.kind ≡ Some o → (st : List Symbol) → run (T ∷ st) (t ∷ ts) ≡ run (pre (T ∷ st)) ts
  skips : (t : Token) (ts : List Token) → by_fixed signs t.kind ≡ None → (st : List Symbol) → run (T ∷ st) (t ∷ ts) ≡ run st (t ∷ ts)
  ends : (st : List Symbol) → run (T ∷ st) [] ≡ run st []

module _ (X Y : List Token → Tree → List Token → Type 0) (pre : List Symbol → List Symbol) (T : Symbol) (signs : Fixed → Option BinOp) (c : Chained X Y pre T signs) (n : ℕ) (item : List Token → Reply Tree) (law : Law X pre n item) where
  chain_rest_law : (m : ℕ) (all : List Token) (l : Tree) (rest : List Token) → Y all l rest → length rest ≤ m → length rest ≤ n →
      Ends (Y all) (λ st. run (T ∷ st) rest) Never (suc (length rest)) (chain_rest item (by_fixed signs) m l rest)
  chain_rest_law zero all l [] y h k = done y (omega arith) c.ends
  chain_rest_law zero all l (t ∷ ts) y h k = absurd (omega arith)
  chain_rest_law (suc m) all l [] y h k = done y (omega arith) c.ends
  chain_rest_law (suc m) all l (t ∷ ts) y h k = go (by_fixed signs t.kind) refl (λ e rest z q. chain_rest_law m all e rest z (omega arith) (omega arith))
    where
      go : (o : Option BinOp) → by_fixed signs t.kind ≡ o →
          ((e : Tree) (rest : List Token) → Y all e rest → length rest < length ts → Ends (Y all) (λ st. run (T ∷ st) rest) Never (suc (length rest)) (chain_rest item (by_fixed signs) m e rest)) →
          Ends (Y all) (λ st. run (T ∷ st) (t ∷ ts)) Never (suc (length (t ∷ ts)))
          (elim o [ None ↦ Ok (l, t ∷ ts) | Some o2 ↦ item ts >>= λ x. chain_rest item (by_fixed signs) m (TBin o2 t.place l x.0) x.1 ])
      go None e again = done y (omega arith) (c.skips t ts e)
      go (Some o) e again =
          let f = by_fixed_some signs t.kind o e in
          bind (λ st. T ∷ st) _ (c.takes t ts o e) (law ts (omega arith)) (λ b r1 z q.
          wider (omega arith) (again (TBin o t.place l b) r1 (c.grows all ts r1 t f.0 o l b y f.1 f.2 z) q))

  chain_law : (m : ℕ) → n ≤ suc m → Law Y (λ st. pre (T ∷ st)) n (chain item (by_fixed signs) m)
  chain_law m w ts l =
      bind (λ st. T ∷ st) _ (λ st. refl) (law ts l) (λ e r1 z q.
      wider (omega arith) (chain_rest_law m ts e r1 (c.first ts r1 e z) (omega arith) (omega arith)))

product_chain : Chained IsUnary IsProduct (λ st. Unary ∷ st) ProductRest product_fixed
product_chain = record {
  first = λ ts rest e x. factor x;
  grows = λ ts mid rest t s o a b y i p x. times y i p x;
  takes = λ t ts o h st. rw (h, run) refl;
  skips = λ t ts h st. rw (h, run) refl;
  ends = λ st. refl;
}

sum_chain : Chained IsProduct IsSum (λ st. Unary ∷ ProductRest ∷ st) SumRest sum_fixed
sum_chain = record {
  first = λ ts rest e x. one x;
  grows = λ ts mid rest t s o a b y i p x. more y i p x;
  takes = λ t ts o h st. rw (h, run) refl;
  skips = λ t ts h st. rw (h, run) refl;
  ends = λ st. refl;
}

-- a comparison, or none
compare_law : (n : ℕ) (item : List Token → Reply Tree) → Law IsSum (λ st. Unary ∷ ProductRest ∷ SumRest ∷ st) n item → Law IsExpr an_expr n (chain item compare_op_of 1)
compare_law n item law ts l =
    bind (λ st. CompareRest ∷ st) _ (λ st. refl) (law ts l) (λ e r1 z q. wider q (rest e r1 z (omega arith)))
  where
    rest : (e : Tree) (r1 : List Token) → IsSum ts e r1 → length r1 < n → Ends (IsExpr ts) (λ st. run (CompareRest ∷ st) r1) Never (suc (length r1)) (chain_rest item compare_op_of 1 e r1)
    rest e [] z k = done (plain z) (omega arith) (λ st. refl)
    rest e (t ∷ us) z k = go (compare_op_of t.kind) refl
      where
        go : (o : Option BinOp) → compare_op_of t.kind ≡ o →
            Ends (IsExpr ts) (λ st. run (CompareRest ∷ st) (t ∷ us)) Never (suc (length (t ∷ us)))
            (elim o [ None ↦ Ok (e, t ∷ us) | Some o2 ↦ item us >>= λ x. Ok (TBin o2 t.place e x.0, x.1) ])
        go None h = done (plain z) (omega arith) (λ st. rw (h, run) refl)
        go (Some o) h =
            let f = by_fixed_some compare_fixed t.kind o h in
            bind (λ st. st) _ (λ st. rw (h, run) refl) (law us (omega arith)) (λ b r2 zb lb.
            done (compare z f.1 f.2 zb) (omega arith) (λ st. refl))

expr_of_law : (n : ℕ) (inner : List Token → Reply Tree) → Law IsExpr an_expr n inner → Law IsExpr an_expr (suc n) (expr_of inner n)
expr_of_law n inner law =
    compare_law (suc n) _ (chain_law IsProduct IsSum (λ st. Unary ∷ ProductRest ∷ st) SumRest sum_fixed sum_chain (suc n) _
    (chain_law IsUnary IsProduct (λ st. Unary ∷ st) ProductRest product_fixed product_chain (suc n) _ (unary_law n inner law) n (omega arith)) n (omega arith))

pub nested_law : (n : ℕ) → Law IsExpr an_expr n (nested n)
unfolding nested
nested_law zero ts l = absurd (omega arith)
nested_law (suc n) ts l = expr_of_law n (nested n) (nested_law n) ts l

pub expr_law : (n : ℕ) (ts : List Token) → length ts ≤ n → Ends (IsExpr ts) (λ st. run (an_expr st) ts) Never (length ts) (Reading.expr n ts)
unfolding Reading.expr Reading.sum Reading.product Reading.unary
expr_law n ts l = expr_of_law n (nested n) (nested_law n) ts (omega arith)
