-- What is left of a list is its end, and two ends of one length are one.
use Rattle.std.proofs.Common.{◌≡◌, List, [], ◌∷◌, ◌++◌, length, take, refl, sym, ap, ◌∙◌}
use Rattle.std.proofs.Common.{append_assoc, length-append, arith}
use Rattle.loop_parse.specs.Terms.{Token}
use Rattle.loop_parse.specs.Grammar.{Item, Fits, the, at_place, a_name, a_literal, an_expr, a_brace}
use Rattle.loop_parse.specs.Grammar.{by, FitAll, none, next_item, Comes, here, inside, ComesIn}
use Rattle.loop_parse.specs.Grammar.{in_first, in_later, IsTooDeep, long_expr, deep_brace}
use Rattle.loop_parse.specs.Grammar.{DeepFault}
use Rattle.loop_parse.proofs.Shift.{shift_expr}
use Rattle.loop_parse.proofs.Outer.{take_rest}

-- the end of a list
pub record EndOf (ts rest : List Token) : Type 0 where
  pub front : List Token
  pub split : ts ≡ front ++ rest

all_of : (ts : List Token) → EndOf ts ts
all_of ts = record { front = []; split = refl }

end_of : {ts mid rest : List Token} → EndOf ts mid → EndOf mid rest → EndOf ts rest
end_of {ts} {mid} {rest} a b = record { front = a.front ++ b.front; split = a.split ∙ ap (λ us. a.front ++ us) b.split ∙ sym (append_assoc a.front b.front rest) }

one_token : (t : Token) (rest : List Token) → EndOf (t ∷ rest) rest
one_token t rest = record { front = t ∷ []; split = refl }

mutual
  fits_end : {item : Item} {ts rest : List Token} → Fits item ts rest → EndOf ts rest
  fits_end (the {t} {rest} i) = one_token t rest
  fits_end (at_place {t} {rest} i) = one_token t rest
  fits_end (a_name {t} {rest} i) = one_token t rest
  fits_end (a_literal {t} {rest} i) = one_token t rest
  fits_end (an_expr z) = let s = shift_expr z in record { front = s.front; split = s.split }
  fits_end (a_brace {t} {rest} i) = one_token t rest
  fits_end (by m z) = all_end z

  all_end : {items : List Item} {ts rest : List Token} → FitAll items ts rest → EndOf ts rest
  all_end {ts = ts} none = all_of ts
  all_end (next_item z zs) = end_of (fits_end z) (all_end zs)

mutual
  comes_end : {item what : Item} {ts us : List Token} → Comes item ts what us → EndOf ts us
  comes_end {ts = ts} here = all_of ts
  comes_end (inside m c) = comes_in_end c

  comes_in_end : {items : List Item} {what : Item} {ts us : List Token} → ComesIn items ts what us → EndOf ts us
  comes_in_end (in_first c) = comes_end c
  comes_in_end (in_later z c) = end_of (fits_end z) (comes_in_end c)

deep_end : {what : Item} {ts us : List Token} → IsTooDeep what ts us → EndOf ts us
deep_end (long_expr {ts = ts} l b e) = record { front = take 256 ts; split = sym (take_rest 256 ts) ∙ ap (λ us. take 256 ts ++ us) (sym e) }
deep_end (deep_brace l i e) = record { front = []; split = sym e }

pub fault_end : {ts us : List Token} → DeepFault ts us → EndOf ts us
fault_end d = end_of (comes_end d.2.comes) (deep_end d.2.is_deep)

ends_same : (f g a b : List Token) → f ++ a ≡ g ++ b → length f ≡ length g → a ≡ b
ends_same [] [] a b e l = e
ends_same [] (t ∷ g) a b e l = absurd (omega arith)
ends_same (t ∷ f) [] a b e l = absurd (omega arith)
ends_same (t ∷ f) (u ∷ g) a b e l = let tail : f ++ a ≡ g ++ b = cc in ends_same f g a b tail (omega arith)

pub same_end : {ts a b : List Token} → EndOf ts a → EndOf ts b → length a ≡ length b → a ≡ b
same_end {ts} {a} {b} x y l =
    ends_same x.front y.front a b (sym x.split ∙ y.split) (omega (arith, l, ap length x.split, ap length y.split, length-append x.front a, length-append y.front b))
