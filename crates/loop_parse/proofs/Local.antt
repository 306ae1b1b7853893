-- What is read of a front of the tokens is read of all of them, where the reading leaves a token of the front.
use Rattle.std.proofs.Common.{◌≡◌, ℕ, zero, suc, List, [], ◌∷◌, ◌++◌, Option, Some, None, Ok, Err}
use Rattle.std.proofs.Common.{Bool, true, false, if◌then◌else◌, refl, sym, ap, subst}
use Rattle.tp_value.specs.declared.values.Place.{Place}
use Rattle.loop_syntax.specs.declared.expression.BinOp.{BinOp}
use Rattle.loop_syntax.specs.Tree.{Spelled, Tree, TInt, TVar, TCell, TNeg, TBin}
use Rattle.loop_parse.specs.declared.terminal.Fixed.{Fixed}
use Rattle.loop_parse.specs.declared.terminal.Fixed.TheVariants.{Rows, Cols, OpenRound, CloseRound}
use Rattle.loop_parse.specs.declared.terminal.Fixed.TheVariants.{OpenSquare, CloseSquare, Minus}
use Rattle.loop_parse.specs.Terms as kinds
use Rattle.loop_parse.specs.Terms.{Kind, Token, Is, IsName, IsLiteral}
use Rattle.loop_parse.specs.Reading.{Reply, Fault, Form, Deep, ◌>>=◌, tag, is_fixed, expect}
use Rattle.loop_parse.specs.Reading.{compare_op_of, sum_op_of, product_op_of, chain_rest, chain}
use Rattle.loop_parse.specs.Reading.{name_rest, primary_at, fixed_at, primary_of, unary_of, expr_of}
use Rattle.loop_parse.specs.Reading.{nested}
use Rattle.loop_parse.specs.Reading

-- the reply leaves nothing
abbrev pub AtEnd : {A : Type 0} → Reply A → Type 0
AtEnd (Ok x) = x.1 ≡ []
AtEnd (Err (Form us)) = us ≡ []
AtEnd (Err (Deep us)) = us ≡ us

abbrev ok_kept : {A : Type 0} → List Token → A → List Token → Reply A → Type 0
ok_kept x e [] q = Unit {0}
ok_kept x e (t ∷ us) q = q ≡ Ok (e, (t ∷ us) ++ x)

abbrev form_kept : {A : Type 0} → List Token → List Token → Reply A → Type 0
form_kept x [] q = Unit {0}
form_kept x (t ∷ us) q = q ≡ Err (Form ((t ∷ us) ++ x))

-- the second reply, with x after the tokens, is the first, where that leaves a token
abbrev pub Kept : {A : Type 0} → List Token → Reply A → Reply A → Type 0
Kept x (Ok y) q = ok_kept x y.0 y.1 q
Kept x (Err (Form us)) q = form_kept x us q
Kept x (Err (Deep us)) q = Unit {0}

end_ok : {A : Type 0} (x : List Token) (e : A) (us : List Token) (q : Reply A) → us ≡ [] → ok_kept x e us q
end_ok x e [] q h = tt
end_ok x e (t ∷ us) q h = cc

end_form : {A : Type 0} (x us : List Token) (q : Reply A) → us ≡ [] → form_kept x us q
end_form x [] q h = tt
end_form x (t ∷ us) q h = cc

end_kept : {A : Type 0} (x : List Token) (r q : Reply A) → AtEnd r → Kept x r q
end_kept x (Ok y) q h = end_ok x y.0 y.1 q h
end_kept x (Err (Form us)) q h = end_form x us q h
end_kept x (Err (Deep us)) q h = tt

end_bind : {A B : Type 0} (r : Reply A) (f : A × List Token → Reply B) → AtEnd r → ((e : A) → AtEnd (f (e, []))) → AtEnd (r >>= f)
end_bind (Ok y) f h k = subst (λ us. AtEnd (f (y.0, us))) (sym h) (k y.0)
end_bind (Err (Form us)) f h k = h
end_bind (Err (Deep us)) f h k = h

kept_bind : {A B : Type 0} (x : List Token) (r q : Reply A) (f : A × List Token → Reply B) → Kept x r q → ((e : A) → AtEnd (f (e, []))) →
    ((e : A) (t : Token) (us : List Token) → Kept x (f (e, t ∷ us)) (f (e, (t ∷ us) ++ x))) → Kept x (r >>= f) (q >>= f)
kept_bind x (Ok y) q f h z k = go y.1 refl h
  where
    go : (us : List Token) → y.1 ≡ us → ok_kept x y.0 us q → Kept x (f y) (q >>= f)
    go [] e h = end_kept x (f y) (q >>= f) (subst (λ us. AtEnd (f (y.0, us))) (sym e) (z y.0))
    go (t ∷ us) e h = subst (λ vs. Kept x (f (y.0, vs)) (q >>= f)) (sym e) (subst (λ p. Kept x (f (y.0, t ∷ us)) (p >>= f)) (sym h) (k y.0 t us))
kept_bind x (Err (Form [])) q f h z k = tt
kept_bind x (Err (Form (t ∷ us))) q f h z k = ap (λ p. p >>= f) h
kept_bind x (Err (Deep us)) q f h z k = tt

expect_end : (s : Fixed) → AtEnd (expect s [])
unfolding expect
expect_end s = refl

expect_kept : (x : List Token) (s : Fixed) (w : List Token) → Kept x (expect s w) (expect s (w ++ x))
unfolding expect
expect_kept x s [] = tt
expect_kept x s (t ∷ w) = go (is_fixed s t.kind) w
  where
    go : (b : Bool) (w : List Token) → Kept {A = Place} x (if b then Ok (t.place, w) else Err (Form (t ∷ w))) (if b then Ok (t.place, w ++ x) else Err (Form (t ∷ w ++ x)))
    go true [] = tt
    go true (u ∷ us) = refl
    go false w = refl

-- a reading that keeps
pub record Keeps {A : Type 0} (r : List Token → Reply A) : Type 0 where
  pub at_end : AtEnd (r [])
  pub kept : (x w : List Token) → Kept x (r w) (r (w ++ x))

ok_with : {A : Type 0} (x : List Token) (e : A) (w : List Token) → Kept x (Ok (e, w)) (Ok (e, w ++ x))
ok_with x e [] = tt
ok_with x e (t ∷ w) = refl

name_keeps : Keeps Reading.name
unfolding Reading.name
name_keeps = record { at_end = refl; kept = λ x w. go x w }
  where
    at : (x : List Token) (k : Kind) (t : Token) (us : List Token) → Kept x (Reading.name_at k t us) (Reading.name_at k t (us ++ x))
    at x (kinds.Name n) t us = ok_with x (record { text = n; place = t.place }) us
    at x (kinds.Literal n) t us = refl
    at x (kinds.Spelling s) t us = refl

    go : (x w : List Token) → Kept x (Reading.name w) (Reading.name (w ++ x))
    go x [] = tt
    go x (t ∷ us) = at x t.kind t us

sized_keeps : Keeps Reading.sized
unfolding Reading.sized
sized_keeps = record {
  at_end = end_bind (expect OpenRound []) _ (expect_end OpenRound) (λ o. end_bind (Reading.name []) _ name_keeps.at_end (λ n. end_bind (expect CloseRound []) _ (expect_end CloseRound) (λ c. refl)));
  kept = λ x w. kept_bind x (expect OpenRound w) (expect OpenRound (w ++ x)) _ (expect_kept x OpenRound w) (λ o. end_bind (Reading.name []) _ name_keeps.at_end (λ n. end_bind (expect CloseRound []) _ (expect_end CloseRound) (λ c. refl)))
      (λ o t us. kept_bind x (Reading.name (t ∷ us)) (Reading.name ((t ∷ us) ++ x)) _ (name_keeps.kept x (t ∷ us)) (λ n. end_bind (expect CloseRound []) _ (expect_end CloseRound) (λ c. refl))
      (λ n t us. kept_bind x (expect CloseRound (t ∷ us)) (expect CloseRound ((t ∷ us) ++ x)) _ (expect_kept x CloseRound (t ∷ us)) (λ c. refl) (λ c u vs. refl)));
}

expect_keeps : (s : Fixed) → Keeps (expect s)
expect_keeps s = record { at_end = expect_end s; kept = λ x w. expect_kept x s w }

module _ (inner : List Token → Reply Tree) (k : Keeps inner) where
  bracketed_keeps : Keeps (Reading.bracketed inner)
  bracketed_keeps = record {
    at_end = end_bind (inner []) _ k.at_end (λ e. end_bind (expect CloseRound []) _ (expect_end CloseRound) (λ c. refl));
    kept = λ x w. kept_bind x (inner w) (inner (w ++ x)) _ (k.kept x w) (λ e. end_bind (expect CloseRound []) _ (expect_end CloseRound) (λ c. refl))
        (λ e t us. kept_bind x (expect CloseRound (t ∷ us)) (expect CloseRound ((t ∷ us) ++ x)) _ (expect_kept x CloseRound (t ∷ us)) (λ c. refl) (λ c u vs. refl));
  }

  cell_rest : Spelled → List Token → Reply Tree
  cell_rest n ts = do
    a ← inner ts
    c ← expect CloseSquare a.1
    o2 ← expect OpenSquare c.1
    b ← inner o2.1
    c2 ← expect CloseSquare b.1
    Ok (TCell n a.0 b.0, c2.1)

  cell_keeps : (n : Spelled) → Keeps (cell_rest n)
  unfolding cell_rest
  cell_keeps n = record {
    at_end = end_bind (inner []) _ k.at_end (λ a. end_bind (expect CloseSquare []) _ (expect_end CloseSquare) (λ c. end_bind (expect OpenSquare []) _ (expect_end OpenSquare) (λ o. end_bind (inner []) _ k.at_end (λ b. end_bind (expect CloseSquare []) _ (expect_end CloseSquare) (λ c2. refl)))));
    kept = λ x w.
        kept_bind x (inner w) (inner (w ++ x)) _ (k.kept x w) (λ a. end_bind (expect CloseSquare []) _ (expect_end CloseSquare) (λ c. end_bind (expect OpenSquare []) _ (expect_end OpenSquare) (λ o. end_bind (inner []) _ k.at_end (λ b. end_bind (expect CloseSquare []) _ (expect_end CloseSquare) (λ c2. refl)))))
        (λ a t us. kept_bind x (expect CloseSquare (t ∷ us)) (expect CloseSquare ((t ∷ us) ++ x)) _ (expect_kept x CloseSquare (t ∷ us)) (λ c. end_bind (expect OpenSquare []) _ (expect_end OpenSquare) (λ o. end_bind (inner []) _ k.at_end (λ b. end_bind (expect CloseSquare []) _ (expect_end CloseSquare) (λ c2. refl))))
        (λ c t us. kept_bind x (expect OpenSquare (t ∷ us)) (expect OpenSquare ((t ∷ us) ++ x)) _ (expect_kept x OpenSquare (t ∷ us)) (λ o. end_bind (inner []) _ k.at_end (λ b. end_bind (expect CloseSquare []) _ (expect_end CloseSquare) (λ c2. refl)))
        (λ o t us. kept_bind x (inner (t ∷ us)) (inner ((t ∷ us) ++ x)) _ (k.kept x (t ∷ us)) (λ b. end_bind (expect CloseSquare []) _ (expect_end CloseSquare) (λ c2. refl))
        (λ b t us. kept_bind x (expect CloseSquare (t ∷ us)) (expect CloseSquare ((t ∷ us) ++ x)) _ (expect_kept x CloseSquare (t ∷ us)) (λ c2. refl)
        (λ c2 t us. refl)))));
  }

  names_keep : (n : Spelled) → Keeps (name_rest inner n)
  unfolding cell_rest
  names_keep n = record { at_end = refl; kept = λ x w. go x w }
    where
      by : (x : List Token) (o : Token) (us : List Token) (b : Bool) → Kept x (if b then cell_rest n us else Ok (TVar n, o ∷ us)) (if b then cell_rest n (us ++ x) else Ok (TVar n, (o ∷ us) ++ x))
      by x o us true = (cell_keeps n).kept x us
      by x o us false = refl

      go : (x w : List Token) → Kept x (name_rest inner n w) (name_rest inner n (w ++ x))
      go x [] = tt
      go x (o ∷ us) = by x o us (is_fixed OpenSquare o.kind)

  primary_keeps : Keeps (primary_of inner)
  primary_keeps = record { at_end = refl; kept = λ x w. go x w }
    where
      fixed : (x : List Token) (s : Fixed) (t : Token) (us : List Token) → Kept x (fixed_at inner s t us) (fixed_at inner s t (us ++ x))
      fixed x OpenRound t us = bracketed_keeps.kept x us
      fixed x Rows t us = kept_bind x (Reading.sized us) (Reading.sized (us ++ x)) _ (sized_keeps.kept x us) (λ n. refl) (λ n u vs. refl)
      fixed x Cols t us = kept_bind x (Reading.sized us) (Reading.sized (us ++ x)) _ (sized_keeps.kept x us) (λ n. refl) (λ n u vs. refl)
      fixed x _ t us = refl

      at : (x : List Token) (k : Kind) (t : Token) (us : List Token) → Kept x (primary_at inner k t us) (primary_at inner k t (us ++ x))
      at x (kinds.Literal n) t us = ok_with x (TInt n t.place) us
      at x (kinds.Name i) t us = (names_keep (record { text = i; place = t.place })).kept x us
      at x (kinds.Spelling s) t us = fixed x s t us

      go : (x w : List Token) → Kept x (primary_of inner w) (primary_of inner (w ++ x))
      go x [] = tt
      go x (t ∷ us) = at x t.kind t us

  unary_kept : (x w : List Token) → Kept x (unary_of inner w) (unary_of inner (w ++ x))
  unary_kept x [] = tt
  unary_kept x (t ∷ us) = by (is_fixed Minus t.kind) (unary_kept x us)
    where
      by : (b : Bool) → Kept x (unary_of inner us) (unary_of inner (us ++ x)) →
          Kept x (if b then (unary_of inner us >>= λ e. Ok (TNeg e.0 t.place, e.1)) else primary_of inner (t ∷ us)) (if b then (unary_of inner (us ++ x) >>= λ e. Ok (TNeg e.0 t.place, e.1)) else primary_of inner (t ∷ us ++ x))
      by true h = kept_bind x (unary_of inner us) (unary_of inner (us ++ x)) _ h (λ e. refl) (λ e u vs. refl)
      by false h = primary_keeps.kept x (t ∷ us)

  unary_keeps : Keeps (unary_of inner)
  unary_keeps = record { at_end = refl; kept = unary_kept }

module _ (item : List Token → Reply Tree) (k : Keeps item) (op : Kind → Option BinOp) where
  rest_end : (m : ℕ) (l : Tree) → AtEnd (chain_rest item op m l [])
  rest_end zero l = refl
  rest_end (suc m) l = refl

  rest_kept : (x : List Token) (m : ℕ) (l : Tree) (w : List Token) → Kept x (chain_rest item op m l w) (chain_rest item op m l (w ++ x))
  rest_kept x zero l w = ok_with x l w
  rest_kept x (suc m) l [] = tt
  rest_kept x (suc m) l (t ∷ us) = by (op t.kind) (λ e vs. rest_kept x m e vs)
    where
      by : (o : Option BinOp) → ((e : Tree) (vs : List Token) → Kept x (chain_rest item op m e vs) (chain_rest item op m e (vs ++ x))) →
          Kept x (elim o [ None ↦ Ok (l, t ∷ us) | Some o2 ↦ item us >>= λ y. chain_rest item op m (TBin o2 t.place l y.0) y.1 ])
          (elim o [ None ↦ Ok (l, t ∷ us ++ x) | Some o2 ↦ item (us ++ x) >>= λ y. chain_rest item op m (TBin o2 t.place l y.0) y.1 ])
      by None again = refl
      by (Some o) again = kept_bind x (item us) (item (us ++ x)) _ (k.kept x us) (λ e. rest_end m (TBin o t.place l e)) (λ e u vs. again (TBin o t.place l e) (u ∷ vs))

  chain_keeps : (m : ℕ) → Keeps (chain item op m)
  chain_keeps m = record {
    at_end = end_bind (item []) _ k.at_end (λ e. rest_end m e);
    kept = λ x w. kept_bind x (item w) (item (w ++ x)) _ (k.kept x w) (λ e. rest_end m e) (λ e u vs. rest_kept x m e (u ∷ vs));
  }

expr_of_keeps : (inner : List Token → Reply Tree) → Keeps inner → (n : ℕ) → Keeps (expr_of inner n)
expr_of_keeps inner k n = chain_keeps _ (chain_keeps _ (chain_keeps _ (unary_keeps inner k) product_op_of n) sum_op_of n) compare_op_of 1

nested_keeps : (n : ℕ) → Keeps (nested n)
unfolding nested
nested_keeps zero = record { at_end = refl; kept = λ x w. fault x w }
  where
    fault : (x w : List Token) → Kept {A = Tree} x (Err (Form w)) (Err (Form (w ++ x)))
    fault x [] = tt
    fault x (t ∷ us) = refl
nested_keeps (suc n) = expr_of_keeps (nested n) (nested_keeps n) n

pub expr_keeps : (n : ℕ) → Keeps (Reading.expr n)
unfolding Reading.expr Reading.sum Reading.product Reading.unary
expr_keeps n = expr_of_keeps (nested n) (nested_keeps n) n
