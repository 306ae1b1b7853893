-- What is in the grammar is read, or is refused as too deep; what is too deep is refused, there or before.
use Rattle.std.proofs.Common.{◌≡◌, ℕ, zero, suc, ◌<◌, ◌≤◌, List, [], ◌∷◌, length, Ok, Err, Bool}
use Rattle.std.proofs.Common.{true, false, inl, inr, refl, sym, ap, subst, ◌∙◌, arith}
use Rattle.tp_value.specs.declared.values.Place.{Place}
use Rattle.loop_syntax.specs.Tree.{Spelled, Tree}
use Rattle.loop_parse.specs.declared.terminal.Fixed.{Fixed}
use Rattle.loop_parse.specs.declared.terminal.Fixed.TheVariants.{OpenBrace}
use Rattle.loop_parse.specs.Terms.{Kind, Token, Is}
use Rattle.loop_parse.specs.Expressions.{IsExpr}
use Rattle.loop_parse.specs.Grammar.{Item, The, At, AName, AnExpr, ABrace, Fits, DeepIn}
use Rattle.loop_parse.specs.Reading.{Reply, Reader, Fault, Form, Deep, ◌>>=◌, tag, is_fixed, expect}
use Rattle.loop_parse.specs.Reading.{Limits, starts, begins_with, many_of, after_comma, further}
use Rattle.loop_parse.specs.Reading
use Rattle.loop_parse.proofs.Items.{Out, Full, Bad, left, Part, whole, bad, Parts, Headed}
use Rattle.loop_parse.proofs.Items.{deep_head, head, headed, parts_length, part_length, TheHead}
use Rattle.loop_parse.proofs.Items.{the_head, head_the, AtHead, at_head, head_at, NameHead}
use Rattle.loop_parse.proofs.Items.{name_head, head_name, none_left, First, ends, stop_first}
use Rattle.loop_parse.proofs.Items.{fits_expr, deep_expr, fits_brace, deep_brace_at}
use Rattle.loop_parse.proofs.Complete.{Stop, expect_at, name_read, bind_at, shorter_expr}
use Rattle.loop_parse.proofs.Limits as limits
use Rattle.loop_parse.proofs.Outer.{TooLong}
use Rattle.loop_parse.proofs.Many.{many_more, many_stop, on_item}

-- refused as too deep, at this place or before it
pub record Deeps {A : Type 0} (r : Reply A) (us : List Token) : Type 0 where
  pub at : List Token
  pub is : r ≡ Err (Deep at)
  pub order : length us ≤ length at

here_deeps : {A B : Type 0} {r : Reply A} {us : List Token} (f : A × List Token → Reply B) → Deeps r us → Deeps (r >>= f) us
here_deeps f d = record { at = d.at; is = ap (λ r. r >>= f) d.is; order = d.order }

deeps_along : {A : Type 0} {r q : Reply A} {us : List Token} → r ≡ q → Deeps q us → Deeps r us
deeps_along e d = record { at = d.at; is = e ∙ d.is; order = d.order }

later_deeps : {A B : Type 0} {r : Reply A} {x : A} {mid us : List Token} (f : A × List Token → Reply B) → limits.Reads r x mid → Deeps (f (x, mid)) us → length us ≤ length mid → Deeps (r >>= f) us
later_deeps f (inl e) d l = record { at = d.at; is = bind_at f e d.is; order = d.order }
later_deeps f (inr d) k l = record { at = d.0; is = ap (λ r. r >>= f) d.1; order = omega (arith, d.2) }

bind_reads : {A B : Type 0} {r : Reply A} {x : A} {mid rest : List Token} {y : B} (f : A × List Token → Reply B) → limits.Reads r x mid → limits.Reads (f (x, mid)) y rest → length rest ≤ length mid → limits.Reads (r >>= f) y rest
bind_reads f (inl e) (inl q) l = inl (bind_at f e q)
bind_reads f (inl e) (inr d) l = inr (d.0, bind_at f e d.1, d.2)
bind_reads f (inr d) k l = inr (d.0, ap (λ r. r >>= f) d.1, omega (arith, d.2))

reads_along : {A : Type 0} {r q : Reply A} {x : A} {rest : List Token} → r ≡ q → limits.Reads q x rest → limits.Reads r x rest
reads_along e (inl h) = inl (e ∙ h)
reads_along e (inr d) = inr (d.0, e ∙ d.1, d.2)

abbrev Says : {A : Type 0} → Type 0 → Reply A → A → Out → Type 0
Says L r v (Full rest) = limits.Reads r v rest
Says L r v (Bad us) = L → Deeps r us

-- what reading answers where all is read, or something is too deep
pub record Answers {A : Type 0} (L : Type 0) (r : Reply A) (v : A) (out : Out) : Type 0 where
  pub says : Says L r v out

says_along : {A : Type 0} (L : Type 0) {r q : Reply A} (v : A) (out : Out) → r ≡ q → Says L q v out → Says L r v out
says_along L v (Full rest) e h = reads_along e h
says_along L v (Bad us) e h = λ l. deeps_along e (h l)

pub answers_along : {A : Type 0} {L : Type 0} {r q : Reply A} {v : A} {out : Out} → r ≡ q → Answers L q v out → Answers L r v out
answers_along {L = L} {v = v} {out = out} e h = record { says = says_along L v out e h.says }

says_next : {A B : Type 0} (L : Type 0) {r : Reply A} {v : A} (w : B) {mid : List Token} (out : Out) (f : A × List Token → Reply B) → limits.Reads r v mid → Says L (f (v, mid)) w out → length (left out) ≤ length mid → Says L (r >>= f) w out
says_next L w (Full rest) f h k l = bind_reads f h k l
says_next L w (Bad us) f h k l = λ q. later_deeps f h (k q) l

pub answers_next : {A B : Type 0} {L : Type 0} {r : Reply A} {v : A} {w : B} {mid : List Token} {out : Out} (f : A × List Token → Reply B) → limits.Reads r v mid → Answers L (f (v, mid)) w out → length (left out) ≤ length mid → Answers L (r >>= f) w out
answers_next {L = L} {w = w} {out = out} f h k l = record { says = says_next L w out f h k.says l }

says_deep : {A B : Type 0} (L : Type 0) {r : Reply A} (w : B) {us : List Token} (f : A × List Token → Reply B) → (out : Out) → out ≡ Bad us → (L → Deeps r us) → Says L (r >>= f) w out
says_deep L w f (Full rest) e h = cc
says_deep L {r = r} w {us = us} f (Bad vs) e h = let q : vs ≡ us = cc in λ l. subst (λ (x : List Token). Deeps (r >>= f) x) (sym q) (here_deeps f (h l))

answers_deep : {A B : Type 0} {L : Type 0} {r : Reply A} {w : B} {us : List Token} {out : Out} (f : A × List Token → Reply B) → out ≡ Bad us → (L → Deeps r us) → Answers L (r >>= f) w out
answers_deep {L = L} {w = w} {out = out} f e h = record { says = says_deep L w f out e h }

-- a reading and what comes after it
pub andthen : {A B : Type 0} {L : Type 0} {item : Item} {items : List Item} {ts : List Token} {out : Out} {r : Reply A} {v : A} {w : B} (f : A × List Token → Reply B) → Parts (item ∷ items) ts out →
    ((mid : List Token) → Fits item ts mid → Parts items mid out → limits.Reads r v mid) → ((us : List Token) → DeepIn item ts us → L → Deeps r us) →
    ((mid : List Token) → Fits item ts mid → Parts items mid out → Answers L (f (v, mid)) w out) → Answers L (r >>= f) w out
andthen {A} {B} {L} {item} {items} {ts} {out} {r} {v} {w} f ps read deep next = go (headed ps)
  where
    go : Headed item items ts out → Answers L (r >>= f) w out
    go (deep_head us e d) = answers_deep f e (deep us d)
    go (head mid z zs) = answers_next f (read mid z zs) (next mid z zs) (parts_length zs)

pub the_then : {B : Type 0} {L : Type 0} (s : Fixed) {items : List Item} {ts : List Token} {out : Out} {w : B} (f : Place × List Token → Reply B) → Parts (The s ∷ items) ts out →
    ((p : Place) (mid : List Token) → length mid < length ts → Parts items mid out → Answers L (f (p, mid)) w out) → Answers L (expect s ts >>= f) w out
the_then {B} {L} s {items} {ts} {out} {w} f ps next = go (head_the ps)
  where
    go : TheHead s items ts out → Answers L (expect s ts >>= f) w out
    go (the_head t mid i e ys) = answers_along (ap (λ (u : List Token). expect s u >>= f) e ∙ ap (λ r. r >>= f) (expect_at s t mid i)) (next t.place mid (omega (arith, ap length e)) ys)

pub at_then : {B : Type 0} {L : Type 0} (s : Fixed) {p : Place} {items : List Item} {ts : List Token} {out : Out} {w : B} (f : Place × List Token → Reply B) → Parts (At s p ∷ items) ts out →
    ((mid : List Token) → length mid < length ts → Parts items mid out → Answers L (f (p, mid)) w out) → Answers L (expect s ts >>= f) w out
at_then {B} {L} s {p} {items} {ts} {out} {w} f ps next = go (head_at ps)
  where
    go : AtHead s p items ts out → Answers L (expect s ts >>= f) w out
    go (at_head t mid i e q ys) = answers_along (ap (λ (u : List Token). expect s u >>= f) e ∙ ap (λ r. r >>= f) (expect_at s t mid i) ∙ ap (λ (x : Place). f (x, mid)) (sym q)) (next mid (omega (arith, ap length e)) ys)

pub name_then : {B : Type 0} {L : Type 0} {x : Spelled} {items : List Item} {ts : List Token} {out : Out} {w : B} (f : Spelled × List Token → Reply B) → Parts (AName x ∷ items) ts out →
    ((mid : List Token) → length mid < length ts → Parts items mid out → Answers L (f (x, mid)) w out) → Answers L (Reading.name ts >>= f) w out
name_then {B} {L} {x} {items} {ts} {out} {w} f ps next = go (head_name ps)
  where
    go : NameHead x items ts out → Answers L (Reading.name ts >>= f) w out
    go (name_head t mid i e ys) = answers_along (ap (λ (u : List Token). Reading.name u >>= f) e ∙ ap (λ r. r >>= f) (name_read t x mid i)) (next mid (omega (arith, ap length e)) ys)

ends_says : {A : Type 0} (L : Type 0) (v : A) {ts : List Token} (out : Out) → out ≡ Full ts → Says L (Ok (v, ts)) v out
ends_says L v {ts = ts} (Full rest) e = let q : rest ≡ ts = cc in inl (ap (λ (x : List Token). Ok (v, x)) (sym q))
ends_says L v (Bad us) e = cc

-- nothing more is read
pub finished : {A : Type 0} {L : Type 0} {v : A} {ts : List Token} {out : Out} → Parts [] ts out → Answers L (Ok (v, ts)) v out
finished {L = L} {v = v} {out = out} ps = record { says = ends_says L v out (none_left ps) }

-- one item alone
pub sole : {item : Item} {ts : List Token} {out : Out} → Parts (item ∷ []) ts out → Part item ts out
sole {item} {ts} {out} ps = go (headed ps)
  where
    full : (mid : List Token) → Fits item ts mid → Parts [] mid out → Part item ts out
    full mid z zs = subst (λ (o : Out). Part item ts o) (sym (none_left zs)) (whole z)

    go : Headed item [] ts out → Part item ts out
    go (deep_head us e d) = subst (λ (o : Out). Part item ts o) (sym e) (bad d)
    go (head mid z zs) = full mid z zs

-- the last reading, and what is made of it
pub made : {A B : Type 0} {L : Type 0} {r : Reply A} {v : A} {out : Out} (g : A → B) → Answers L r v out → Answers L (r >>= λ x. Ok (g x.0, x.1)) (g v) out
made {A} {B} {L} {r} {v} {out} g h = record { says = go out h.says }
  where
    full : (rest : List Token) → limits.Reads r v rest → limits.Reads (r >>= λ x. Ok (g x.0, x.1)) (g v) rest
    full rest (inl e) = inl (ap (λ q. q >>= λ x. Ok (g x.0, x.1)) e)
    full rest (inr d) = inr (d.0, ap (λ q. q >>= λ x. Ok (g x.0, x.1)) d.1, d.2)

    go : (o : Out) → Says L r v o → Says L (r >>= λ x. Ok (g x.0, x.1)) (g v) o
    go (Full rest) k = full rest k
    go (Bad us) k = λ l. here_deeps _ (k l)

-- the end of a list of items isn't one that begins
pub data Follows (begins : Kind → Bool) : Out → Type 0 where
  follow_full : {rest : List Token} → starts begins rest ≡ false → Follows begins (Full rest)
  follow_bad : {us : List Token} → Follows begins (Bad us)

-- a list of items is at its end, its first is too deep, or the first is read
pub data Split {A : Type 0} (F : List A → Item) (L : Type 0) (begins : Kind → Bool) (item : Reader A) (xs : List A) (ts : List Token) (out : Out) : Type 0 where
  stop : xs ≡ [] → out ≡ Full ts → Split F L begins item xs ts out
  halt : (us : List Token) → out ≡ Bad us → starts begins ts ≡ true → (L → Deeps (item ts) us) → Split F L begins item xs ts out
  go_on : (x : A) (ys : List A) (mid : List Token) → xs ≡ x ∷ ys → starts begins ts ≡ true → limits.Reads (item ts) x mid → length mid < length ts → Part (F ys) mid out → Split F L begins item xs ts out

stopped_says : {A : Type 0} (L : Type 0) {r : Reply (List A)} {xs : List A} {ts : List Token} (out : Out) → r ≡ Ok ([], ts) → xs ≡ [] → out ≡ Full ts → Says L r xs out
stopped_says L {xs = xs} {ts = ts} (Full rest) h e k = let q : rest ≡ ts = cc in inl (h ∙ ap (λ (x : List Token). Ok ([], x)) (sym q) ∙ ap (λ y. Ok (y, rest)) (sym e))
stopped_says L (Bad us) h e k = cc

pub follows_at : (begins : Kind → Bool) (out : Out) (ts : List Token) → Follows begins out → out ≡ Full ts → starts begins ts ≡ false
follows_at begins _ ts (follow_full {rest} h) e = let q : rest ≡ ts = cc in ap (starts begins) (sym q) ∙ h
follows_at begins _ ts follow_bad e = cc

module _ {A : Type 0} (F : List A → Item) (L : Type 0) (begins : Kind → Bool) (item : Reader A) (n : ℕ) (out : Out) (f : Follows begins out) (split : (xs : List A) (ts : List Token) → length ts ≤ n → Part (F xs) ts out → Split F L begins item xs ts out) where
  at_none : (xs : List A) → Split F L begins item xs [] out → Answers L (Ok ([], [])) xs out
  at_none xs (stop e h) = record { says = stopped_says L out refl e h }
  at_none xs (halt us e h d) = cc
  at_none xs (go_on x ys mid e h r q z) = cc

  pub many_answers : (m : ℕ) (xs : List A) (ts : List Token) → length ts ≤ m → length ts ≤ n → Part (F xs) ts out → Answers L (many_of begins item m ts) xs out
  many_answers zero xs [] l k p = at_none xs (split xs [] k p)
  many_answers zero xs (t ∷ ts) l k p = absurd (omega arith)
  many_answers (suc m) xs [] l k p = at_none xs (split xs [] k p)
  many_answers (suc m) xs (t ∷ ts) l k p = at (split xs (t ∷ ts) k p) (λ ys mid q z. many_answers m ys mid (omega arith) (omega arith) z)
    where
      at : Split F L begins item xs (t ∷ ts) out → ((ys : List A) (mid : List Token) → length mid < length (t ∷ ts) → Part (F ys) mid out → Answers L (many_of begins item m mid) ys out) → Answers L (many_of begins item (suc m) (t ∷ ts)) xs out
      at (stop e h) again = record { says = stopped_says L out (many_stop begins item (suc m) (t ∷ ts) (follows_at begins out (t ∷ ts) f h)) e h }
      at (halt us e h d) again = answers_along (many_more begins item m t ts h) (answers_deep (on_item begins item m) e d)
      at (go_on x ys mid e h r q z) again =
          subst (λ (v : List A). Answers L (many_of begins item (suc m) (t ∷ ts)) v out) (sym e)
          (answers_along (many_more begins item m t ts h) (answers_next (on_item begins item m) r (made (λ (v : List A). x ∷ v) (again ys mid q z)) (part_length z)))

-- what the two limits say of what is in the grammar, and of what is too deep
pub record BaseAnswers (k : Limits) (L : Type 0) : Type 0 where
  pub expr_reads : (n : ℕ) (ts rest : List Token) (e : Tree) → IsExpr ts e rest → length ts ≤ n → Stop rest → limits.Reads (k.outermost n ts) e rest
  pub expr_deeps : L → (n : ℕ) (ts us : List Token) → length ts ≤ n → TooLong ts us → Deeps (k.outermost n ts) us
  pub brace_reads : (level : ℕ) (o : Token) (ts : List Token) → Is OpenBrace o → limits.Reads (Reading.open_brace k level (o ∷ ts)) o.place ts
  pub brace_deeps : L → (level : ℕ) (o : Token) (ts : List Token) → 32 ≤ level → Is OpenBrace o → Deeps (Reading.open_brace k level (o ∷ ts)) (o ∷ ts)

pub expr_then : {B : Type 0} {k : Limits} {L : Type 0} (base : BaseAnswers k L) (n : ℕ) {e : Tree} {items : List Item} {ts : List Token} {out : Out} {w : B} (f : Tree × List Token → Reply B) → length ts ≤ n → Parts (AnExpr e ∷ items) ts out →
    ((mid : List Token) → Parts items mid out → First ends mid) → ((mid : List Token) → length mid < length ts → Parts items mid out → Answers L (f (e, mid)) w out) → Answers L (k.outermost n ts >>= f) w out
expr_then base n {e} {items} {ts} {out} f l ps after next =
    andthen f ps (λ mid z zs. base.expr_reads n ts mid e (fits_expr z) l (stop_first mid (after mid zs))) (λ us d q. base.expr_deeps q n ts us l (deep_expr d)) (λ mid z zs. next mid (shorter_expr (fits_expr z)) zs)

brace_place : {k : Limits} {L : Type 0} (base : BaseAnswers k L) (level : ℕ) (ts mid : List Token) (t : Token) → Is OpenBrace t → ts ≡ t ∷ mid → limits.Reads (Reading.open_brace k level ts) t.place mid
brace_place {k} base level ts mid t i e = subst (λ (u : List Token). limits.Reads (Reading.open_brace k level u) t.place mid) (sym e) (base.brace_reads level t mid i)

brace_is_deep : {k : Limits} {L : Type 0} (base : BaseAnswers k L) (level : ℕ) {ts us : List Token} → DeepIn (ABrace level) ts us → L → Deeps (Reading.open_brace k level ts) us
brace_is_deep {k} base level {ts} {us} d q =
    let b = deep_brace_at d in
    subst (λ (u : List Token). Deeps (Reading.open_brace k level ts) u) (sym b.5) (subst (λ (u : List Token). Deeps (Reading.open_brace k level u) (b.1 ∷ b.2)) (sym b.4) (base.brace_deeps q level b.1 b.2 b.0 b.3))

pub brace_then : {B : Type 0} {k : Limits} {L : Type 0} (base : BaseAnswers k L) (level : ℕ) {items : List Item} {ts : List Token} {out : Out} {w : B} (f : Place × List Token → Reply B) → Parts (ABrace level ∷ items) ts out →
    ((p : Place) (mid : List Token) → length mid < length ts → Parts items mid out → Answers L (f (p, mid)) w out) → Answers L (Reading.open_brace k level ts >>= f) w out
brace_then {B} {k} {L} base level {items} {ts} {out} {w} f ps next = go (headed ps)
  where
    go : Headed (ABrace level) items ts out → Answers L (Reading.open_brace k level ts >>= f) w out
    go (deep_head us e d) = answers_deep f e (brace_is_deep base level d)
    go (head mid z zs) = let b = fits_brace z in answers_next f (brace_place base level ts mid b.0 b.1 b.2) (next b.0.place mid (omega (arith, ap length b.2)) zs) (parts_length zs)

-- a reading that is told what becomes of its item, and what comes after it
pub item_then : {A B : Type 0} {L : Type 0} {item : Item} {items : List Item} {ts : List Token} {out : Out} {r : Reply A} {v : A} {w : B} (f : A × List Token → Reply B) → Parts (item ∷ items) ts out →
    ((o : Out) → Part item ts o → ((mid : List Token) → o ≡ Full mid → Parts items mid out) → Answers L r v o) →
    ((mid : List Token) → length mid ≤ length ts → Parts items mid out → Answers L (f (v, mid)) w out) → Answers L (r >>= f) w out
item_then {items = items} {out = out} f ps answers next =
    andthen f ps (λ mid z zs. (answers (Full mid) (whole z) (λ m e. let q : mid ≡ m = cc in subst (λ (u : List Token). Parts items u out) q zs)).says) (λ us d q. (answers (Bad us) (bad d) (λ m e. cc)).says q) (λ mid z zs. next mid (part_length (whole z)) zs)
