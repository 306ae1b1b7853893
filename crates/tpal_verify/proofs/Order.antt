-- The order of kinds, of lists of them and of the four facts.
use Rattle.std.proofs.Common.{◌≡◌, ℕ, zero, suc, List, [], ◌∷◌, Option, Some, None, refl, sym, subst}
use Rattle.std.proofs.lemmas.Bool.{eq-eqb, eqb-true, false≢true}
use Rattle.std.specs.Prelude.{Bool, true, false, ◌&&◌, if◌then◌else◌, map, slice_set}
use Rattle.std.specs.Prelude.{slice_index_or}
use Rattle.tpal_verify.specs.declared.kinds.Kind.{Kind}
use Rattle.tpal_verify.specs.declared.kinds.Kind.TheVariants.{Number, Empty, Own, Up, Pend, Met, Back, Any}
use Rattle.tpal_verify.specs.declared.kinds.EndFact.{EndFact}
use Rattle.tpal_verify.specs.declared.kinds.EndFact.TheVariants.{Root, Side, Either}
use Rattle.tpal_verify.specs.declared.kinds.MarkFact.{MarkFact}
use Rattle.tpal_verify.specs.declared.kinds.MarkFact.TheVariants.{Marked, Clear, Maybe}
use Rattle.tpal_verify.specs.Kinds.{is_root, is_side, is_marked, is_clear, kind_below, end_below, mark_below, grant_below, met_below, kind_joined, end_joined, mark_joined, grant_joined, met_joined}
use Rattle.tpal_verify.specs.Shapes.{kinds_below, kinds_joined}

-- ---- truths

pub and_left : (a b : Bool) → (a && b) ≡ true → a ≡ true
and_left true b q = refl
and_left false b q = q

pub and_right : (a b : Bool) → (a && b) ≡ true → b ≡ true
and_right true b q = q
and_right false b q = absurd (false≢true q)

pub and_both : (a b : Bool) → a ≡ true → b ≡ true → (a && b) ≡ true
and_both true b p q = q
and_both false b p q = p

pub if_is : {A : Type 0} (b : Bool) (x y : A) (P : A → Type 0) → b ≡ true → P x → P (if b then x else y)
if_is true x y P q p = p
if_is false x y P q p = absurd (false≢true q)

pub if_either : {A : Type 0} (b : Bool) (x y : A) (P : A → Type 0) → (b ≡ true → P x) → P y → P (if b then x else y)
if_either true x y P p q = p refl
if_either false x y P p q = q

-- ---- kinds

-- one kind is below another, in shapes of which the lower has this end
pub data KindBelow (e : EndFact) : Kind → Kind → Type 0 where
  same : (k : Kind) → KindBelow e k k
  to_any : (k : Kind) → KindBelow e k Any
  own_up : KindBelow e Own Up
  nil_up : is_root e ≡ true → KindBelow e Empty Up

back_below : (e : EndFact) (h j : ℕ) → h ≡ j → KindBelow e (Back h) (Back j)
back_below e h j q = subst (λ x. KindBelow e (Back h) (Back x)) q (same (Back h))

pub below_of : (e : EndFact) (a b : Kind) → kind_below e a b ≡ true → KindBelow e a b
below_of e k Any q = to_any k
below_of e Own Up q = own_up
below_of e Empty Up q = nil_up q
below_of e Number Number q = same Number
below_of e Empty Empty q = same Empty
below_of e Own Own q = same Own
below_of e Up Up q = same Up
below_of e Pend Pend q = same Pend
below_of e Met Met q = same Met
below_of e (Back h) (Back j) q = back_below e h j (eqb-true h j q)
below_of e _ _ q = absurd (false≢true q)

pub kind_same : (e : EndFact) (k : Kind) → kind_below e k k ≡ true
kind_same e Number = refl
kind_same e Empty = refl
kind_same e Own = refl
kind_same e Up = refl
kind_same e Pend = refl
kind_same e Met = refl
kind_same e (Back h) = eq-eqb h h refl
kind_same e Any = refl

any_above : (e : EndFact) (k : Kind) → kind_below e k Any ≡ true
any_above e Number = refl
any_above e Empty = refl
any_above e Own = refl
any_above e Up = refl
any_above e Pend = refl
any_above e Met = refl
any_above e (Back h) = refl
any_above e Any = refl

pub is_below : (e : EndFact) (a b : Kind) → KindBelow e a b → kind_below e a b ≡ true
is_below e _ _ (same k) = kind_same e k
is_below e _ _ (to_any k) = any_above e k
is_below e _ _ own_up = refl
is_below e _ _ (nil_up q) = q

pub kind_trans : (e f : EndFact) (a b c : Kind) → (is_root f ≡ true → is_root e ≡ true) → KindBelow e a b → KindBelow f b c → KindBelow e a c
kind_trans e f _ _ _ r (same k) (same _) = same k
kind_trans e f _ _ _ r (same k) (to_any _) = to_any k
kind_trans e f _ _ _ r (same k) own_up = own_up
kind_trans e f _ _ _ r (same k) (nil_up q) = nil_up (r q)
kind_trans e f _ _ _ r (to_any k) (same _) = to_any k
kind_trans e f _ _ _ r (to_any k) (to_any _) = to_any k
kind_trans e f _ _ _ r own_up (same _) = own_up
kind_trans e f _ _ _ r own_up (to_any _) = to_any Own
kind_trans e f _ _ _ r (nil_up q) (same _) = nil_up q
kind_trans e f _ _ _ r (nil_up q) (to_any _) = to_any Empty

-- with another lower end
pub kind_as : (e f : EndFact) (a b : Kind) → (is_root e ≡ true → is_root f ≡ true) → KindBelow e a b → KindBelow f a b
kind_as e f _ _ r (same k) = same k
kind_as e f _ _ r (to_any k) = to_any k
kind_as e f _ _ r own_up = own_up
kind_as e f _ _ r (nil_up q) = nil_up (r q)

left_by : (e : EndFact) (a b : Kind) (x y z w : Bool) → (y ≡ true → KindBelow e a b) → (z ≡ true → KindBelow e a Up) → KindBelow e a (if x then a else (if y then b else (if z && w then Up else Any)))
left_by e a b true y z w p q = same a
left_by e a b false true z w p q = p refl
left_by e a b false false true true p q = q refl
left_by e a b false false true false p q = to_any a
left_by e a b false false false w p q = to_any a

pub kind_left : (e f : EndFact) (a b : Kind) → KindBelow e a (kind_joined e f a b)
kind_left e f a b = left_by e a b (kind_below f b a) (kind_below e a b) (kind_below e a Up) (kind_below f b Up) (below_of e a b) (below_of e a Up)

right_by : (f : EndFact) (a b : Kind) (x y z w : Bool) → (x ≡ true → KindBelow f b a) → (w ≡ true → KindBelow f b Up) → KindBelow f b (if x then a else (if y then b else (if z && w then Up else Any)))
right_by f a b true y z w p q = p refl
right_by f a b false true z w p q = same b
right_by f a b false false true true p q = q refl
right_by f a b false false true false p q = to_any b
right_by f a b false false false w p q = to_any b

pub kind_right : (e f : EndFact) (a b : Kind) → KindBelow f b (kind_joined e f a b)
kind_right e f a b = right_by f a b (kind_below f b a) (kind_below e a b) (kind_below e a Up) (kind_below f b Up) (below_of f b a) (below_of f b Up)

self_joined : (e f g : EndFact) (k : Kind) → KindBelow g (kind_joined e f k k) k
self_joined e f g k = if_is (kind_below f k k) k _ (λ x. KindBelow g x k) (kind_same f k) (same k)

pub both_root : (e f : EndFact) → is_root e ≡ true → is_root f ≡ true → is_root (end_joined e f) ≡ true
both_root Root Root q r = refl
both_root Root Side q r = absurd (false≢true r)
both_root Root Either q r = absurd (false≢true r)
both_root Side f q r = absurd (false≢true q)
both_root Either f q r = absurd (false≢true q)

pub kind_least : (e f : EndFact) (a b c : Kind) → KindBelow e a c → KindBelow f b c → KindBelow (end_joined e f) (kind_joined e f a b) c
kind_least e f _ _ _ (same k) (same _) = self_joined e f (end_joined e f) k
kind_least e f _ _ _ (same _) (to_any b) = to_any _
kind_least e f _ _ _ (same _) own_up = same Up
kind_least e f _ _ _ (same _) (nil_up r) = if_is (is_root f) Up _ (λ x. KindBelow (end_joined e f) x Up) r (same Up)
kind_least e f _ _ _ (to_any a) (same _) = to_any _
kind_least e f _ _ _ (to_any a) (to_any b) = to_any _
kind_least e f _ _ _ own_up (same _) = same Up
kind_least e f _ _ _ own_up own_up = own_up
kind_least e f _ _ _ own_up (nil_up r) = if_is (is_root f) Up _ (λ x. KindBelow (end_joined e f) x Up) r (same Up)
kind_least e f _ _ _ (nil_up q) (same _) = if_is (is_root e) Up _ (λ x. KindBelow (end_joined e f) x Up) q (same Up)
kind_least e f _ _ _ (nil_up q) own_up = if_is (is_root e && true) Up _ (λ x. KindBelow (end_joined e f) x Up) (and_both (is_root e) true q refl) (same Up)
kind_least e f _ _ _ (nil_up q) (nil_up r) = nil_up (both_root e f q r)

-- ---- lists of kinds

abbrev pub KindsBelow : EndFact → List Kind → List Kind → Type 0
KindsBelow e xs [] = Unit {0}
KindsBelow e [] (b ∷ ys) = ⊥
KindsBelow e (a ∷ xs) (b ∷ ys) = KindBelow e a b × KindsBelow e xs ys

none_above : (e : EndFact) (xs : List Kind) → kinds_below e xs [] ≡ true
none_above e [] = refl
none_above e (a ∷ xs) = refl

pub kinds_of : (e : EndFact) (xs ys : List Kind) → kinds_below e xs ys ≡ true → KindsBelow e xs ys
kinds_of e [] [] q = tt
kinds_of e (a ∷ xs) [] q = tt
kinds_of e [] (b ∷ ys) q = absurd (false≢true q)
kinds_of e (a ∷ xs) (b ∷ ys) q = (below_of e a b (and_left (kind_below e a b) (kinds_below e xs ys) q), kinds_of e xs ys (and_right (kind_below e a b) (kinds_below e xs ys) q))

pub are_below : (e : EndFact) (xs ys : List Kind) → KindsBelow e xs ys → kinds_below e xs ys ≡ true
are_below e xs [] b = none_above e xs
are_below e [] (y ∷ ys) b = absurd b
are_below e (x ∷ xs) (y ∷ ys) b = and_both (kind_below e x y) (kinds_below e xs ys) (is_below e x y b.0) (are_below e xs ys b.1)

pub kinds_same : (e : EndFact) (xs : List Kind) → KindsBelow e xs xs
kinds_same e [] = tt
kinds_same e (x ∷ xs) = (same x, kinds_same e xs)

pub kinds_trans : (e f : EndFact) (xs ys zs : List Kind) → (is_root f ≡ true → is_root e ≡ true) → KindsBelow e xs ys → KindsBelow f ys zs → KindsBelow e xs zs
kinds_trans e f xs ys [] r a b = tt
kinds_trans e f xs [] (z ∷ zs) r a b = absurd b
kinds_trans e f [] (y ∷ ys) (z ∷ zs) r a b = absurd a
kinds_trans e f (x ∷ xs) (y ∷ ys) (z ∷ zs) r a b = (kind_trans e f x y z r a.0 b.0, kinds_trans e f xs ys zs r a.1 b.1)

pub kinds_as : (e f : EndFact) (xs ys : List Kind) → (is_root e ≡ true → is_root f ≡ true) → KindsBelow e xs ys → KindsBelow f xs ys
kinds_as e f xs [] r a = tt
kinds_as e f [] (y ∷ ys) r a = absurd a
kinds_as e f (x ∷ xs) (y ∷ ys) r a = (kind_as e f x y r a.0, kinds_as e f xs ys r a.1)

pub kinds_at : (e : EndFact) (xs ys : List Kind) (r : ℕ) → KindsBelow e xs ys → KindBelow e (slice_index_or xs r Any) (slice_index_or ys r Any)
kinds_at e xs [] r a = to_any (slice_index_or xs r Any)
kinds_at e [] (y ∷ ys) r a = absurd a
kinds_at e (x ∷ xs) (y ∷ ys) zero a = a.0
kinds_at e (x ∷ xs) (y ∷ ys) (suc r) a = kinds_at e xs ys r a.1

pub kinds_set : (e : EndFact) (xs ys : List Kind) (r : ℕ) (j k : Kind) → KindBelow e j k → KindsBelow e xs ys → KindsBelow e (slice_set xs r j) (slice_set ys r k)
kinds_set e xs [] r j k b a = tt
kinds_set e [] (y ∷ ys) r j k b a = absurd a
kinds_set e (x ∷ xs) (y ∷ ys) zero j k b a = (b, a.1)
kinds_set e (x ∷ xs) (y ∷ ys) (suc r) j k b a = (a.0, kinds_set e xs ys r j k b a.1)

-- a change of the upper list, or of the lower one, alone
pub set_above : (e : EndFact) (xs ys : List Kind) (r : ℕ) (k : Kind) → KindBelow e (slice_index_or xs r Any) k → KindsBelow e xs ys → KindsBelow e xs (slice_set ys r k)
set_above e xs [] r k b a = tt
set_above e [] (y ∷ ys) r k b a = absurd a
set_above e (x ∷ xs) (y ∷ ys) zero k b a = (b, a.1)
set_above e (x ∷ xs) (y ∷ ys) (suc r) k b a = (a.0, set_above e xs ys r k b a.1)

pub set_under : (e : EndFact) (xs ys : List Kind) (r : ℕ) (j : Kind) → KindBelow e j (slice_index_or ys r Any) → KindsBelow e xs ys → KindsBelow e (slice_set xs r j) ys
set_under e xs [] r j b a = tt
set_under e [] (y ∷ ys) r j b a = absurd a
set_under e (x ∷ xs) (y ∷ ys) zero j b a = (b, a.1)
set_under e (x ∷ xs) (y ∷ ys) (suc r) j b a = (a.0, set_under e xs ys r j b a.1)

pub kinds_map : (e f : EndFact) (g : Kind → Kind) (xs ys : List Kind) → ((j k : Kind) → KindBelow e j k → KindBelow f (g j) (g k)) → KindsBelow e xs ys → KindsBelow f (map g xs) (map g ys)
kinds_map e f g xs [] m a = tt
kinds_map e f g [] (y ∷ ys) m a = absurd a
kinds_map e f g (x ∷ xs) (y ∷ ys) m a = (m x y a.0, kinds_map e f g xs ys m a.1)

pub kinds_left : (e f : EndFact) (xs ys : List Kind) → KindsBelow e xs (kinds_joined e f xs ys)
kinds_left e f [] ys = tt
kinds_left e f (x ∷ xs) [] = tt
kinds_left e f (x ∷ xs) (y ∷ ys) = (kind_left e f x y, kinds_left e f xs ys)

pub kinds_right : (e f : EndFact) (xs ys : List Kind) → KindsBelow f ys (kinds_joined e f xs ys)
kinds_right e f [] ys = tt
kinds_right e f (x ∷ xs) [] = tt
kinds_right e f (x ∷ xs) (y ∷ ys) = (kind_right e f x y, kinds_right e f xs ys)

pub kinds_least : (e f : EndFact) (xs ys zs : List Kind) → KindsBelow e xs zs → KindsBelow f ys zs → KindsBelow (end_joined e f) (kinds_joined e f xs ys) zs
kinds_least e f xs ys [] a b = tt
kinds_least e f [] ys (z ∷ zs) a b = absurd a
kinds_least e f (x ∷ xs) [] (z ∷ zs) a b = absurd b
kinds_least e f (x ∷ xs) (y ∷ ys) (z ∷ zs) a b = (kind_least e f x y z a.0 b.0, kinds_least e f xs ys zs a.1 b.1)

-- ---- the four facts

pub end_same : (e : EndFact) → end_below e e ≡ true
end_same Root = refl
end_same Side = refl
end_same Either = refl

pub end_any : (e : EndFact) → end_below e Either ≡ true
end_any Root = refl
end_any Side = refl
end_any Either = refl

pub end_trans : (e f g : EndFact) → end_below e f ≡ true → end_below f g ≡ true → end_below e g ≡ true
end_trans Root Root g p q = q
end_trans Root Side g p q = absurd (false≢true p)
end_trans Side Root g p q = absurd (false≢true p)
end_trans Side Side g p q = q
end_trans Either Root g p q = absurd (false≢true p)
end_trans Either Side g p q = absurd (false≢true p)
end_trans Either Either g p q = q
end_trans Root Either Root p q = refl
end_trans Root Either Side p q = q
end_trans Root Either Either p q = refl
end_trans Side Either Root p q = q
end_trans Side Either Side p q = refl
end_trans Side Either Either p q = refl

pub end_root : (e f : EndFact) → end_below e f ≡ true → is_root f ≡ true → is_root e ≡ true
end_root Root f p q = refl
end_root Side Root p q = p
end_root Side Side p q = q
end_root Side Either p q = q
end_root Either Root p q = p
end_root Either Side p q = q
end_root Either Either p q = q

pub end_side : (e f : EndFact) → end_below e f ≡ true → is_side f ≡ true → is_side e ≡ true
end_side Side f p q = refl
end_side Root Root p q = q
end_side Root Side p q = p
end_side Root Either p q = q
end_side Either Root p q = q
end_side Either Side p q = p
end_side Either Either p q = q

pub end_left : (e f : EndFact) → end_below e (end_joined e f) ≡ true
end_left e f = if_either (end_below f e) e Either (λ g. end_below e g ≡ true) (λ _. end_same e) (end_any e)

pub end_right : (e f : EndFact) → end_below f (end_joined e f) ≡ true
end_right e f = if_either (end_below f e) e Either (λ g. end_below f g ≡ true) (λ q. q) (end_any f)

pub end_least : (e f g : EndFact) → end_below e g ≡ true → end_below f g ≡ true → end_below (end_joined e f) g ≡ true
end_least e f Either p q = end_any (end_joined e f)
end_least Root Root Root p q = refl
end_least Root Side Root p q = q
end_least Root Either Root p q = q
end_least Side f Root p q = absurd (false≢true p)
end_least Either f Root p q = absurd (false≢true p)
end_least Side Side Side p q = refl
end_least Side Root Side p q = q
end_least Side Either Side p q = q
end_least Root f Side p q = absurd (false≢true p)
end_least Either f Side p q = absurd (false≢true p)

pub mark_same : (m : MarkFact) → mark_below m m ≡ true
mark_same Marked = refl
mark_same Clear = refl
mark_same Maybe = refl

mark_any : (m : MarkFact) → mark_below m Maybe ≡ true
mark_any Marked = refl
mark_any Clear = refl
mark_any Maybe = refl

pub mark_trans : (m n o : MarkFact) → mark_below m n ≡ true → mark_below n o ≡ true → mark_below m o ≡ true
mark_trans Marked Marked o p q = q
mark_trans Marked Clear o p q = absurd (false≢true p)
mark_trans Clear Marked o p q = absurd (false≢true p)
mark_trans Clear Clear o p q = q
mark_trans Maybe Marked o p q = absurd (false≢true p)
mark_trans Maybe Clear o p q = absurd (false≢true p)
mark_trans Maybe Maybe o p q = q
mark_trans Marked Maybe Marked p q = refl
mark_trans Marked Maybe Clear p q = q
mark_trans Marked Maybe Maybe p q = refl
mark_trans Clear Maybe Marked p q = q
mark_trans Clear Maybe Clear p q = refl
mark_trans Clear Maybe Maybe p q = refl

pub mark_marked : (m n : MarkFact) → mark_below m n ≡ true → is_marked n ≡ true → is_marked m ≡ true
mark_marked Marked n p q = refl
mark_marked Clear Marked p q = p
mark_marked Clear Clear p q = q
mark_marked Clear Maybe p q = q
mark_marked Maybe Marked p q = p
mark_marked Maybe Clear p q = q
mark_marked Maybe Maybe p q = q

pub mark_clear : (m n : MarkFact) → mark_below m n ≡ true → is_clear n ≡ true → is_clear m ≡ true
mark_clear Clear n p q = refl
mark_clear Marked Marked p q = q
mark_clear Marked Clear p q = p
mark_clear Marked Maybe p q = q
mark_clear Maybe Marked p q = q
mark_clear Maybe Clear p q = p
mark_clear Maybe Maybe p q = q

pub mark_left : (m n : MarkFact) → mark_below m (mark_joined m n) ≡ true
mark_left m n = if_either (mark_below n m) m Maybe (λ o. mark_below m o ≡ true) (λ _. mark_same m) (mark_any m)

pub mark_right : (m n : MarkFact) → mark_below n (mark_joined m n) ≡ true
mark_right m n = if_either (mark_below n m) m Maybe (λ o. mark_below n o ≡ true) (λ q. q) (mark_any n)

pub mark_least : (m n o : MarkFact) → mark_below m o ≡ true → mark_below n o ≡ true → mark_below (mark_joined m n) o ≡ true
mark_least m n Maybe p q = mark_any (mark_joined m n)
mark_least Marked Marked Marked p q = refl
mark_least Marked Clear Marked p q = q
mark_least Marked Maybe Marked p q = q
mark_least Clear n Marked p q = absurd (false≢true p)
mark_least Maybe n Marked p q = absurd (false≢true p)
mark_least Clear Clear Clear p q = refl
mark_least Clear Marked Clear p q = q
mark_least Clear Maybe Clear p q = q
mark_least Marked n Clear p q = absurd (false≢true p)
mark_least Maybe n Clear p q = absurd (false≢true p)

pub grant_same : (g : Bool) → grant_below g g ≡ true
grant_same true = refl
grant_same false = refl

grant_none : (g : Bool) → grant_below g false ≡ true
grant_none true = refl
grant_none false = refl

pub grant_trans : (g h i : Bool) → grant_below g h ≡ true → grant_below h i ≡ true → grant_below g i ≡ true
grant_trans true true i p q = q
grant_trans false true i p q = absurd (false≢true p)
grant_trans true false true p q = refl
grant_trans true false false p q = refl
grant_trans false false i p q = q

pub grant_granted : (g h : Bool) → grant_below g h ≡ true → h ≡ true → g ≡ true
grant_granted true h p q = refl
grant_granted false true p q = p
grant_granted false false p q = q

pub grant_left : (g h : Bool) → grant_below g (grant_joined g h) ≡ true
grant_left true true = refl
grant_left true false = refl
grant_left false h = refl

pub grant_right : (g h : Bool) → grant_below h (grant_joined g h) ≡ true
grant_right true h = grant_same h
grant_right false h = grant_none h

pub grant_least : (g h i : Bool) → grant_below g i ≡ true → grant_below h i ≡ true → grant_below (grant_joined g h) i ≡ true
grant_least true h i p q = q
grant_least false h i p q = p

pub met_same : (m : Option ℕ) → met_below m m ≡ true
met_same None = refl
met_same (Some a) = eq-eqb a a refl

met_none : (m : Option ℕ) → met_below m None ≡ true
met_none None = refl
met_none (Some a) = refl

pub met_some : (m : Option ℕ) (b : ℕ) → met_below m (Some b) ≡ true → m ≡ Some b
met_some None b q = absurd (false≢true q)
met_some (Some a) b q = subst (λ x. Some a ≡ Some x) (eqb-true a b q) refl

pub met_trans : (m n o : Option ℕ) → met_below m n ≡ true → met_below n o ≡ true → met_below m o ≡ true
met_trans m n None p q = met_none m
met_trans m n (Some c) p q = subst (λ x. met_below m x ≡ true) (met_some n c q) p

pub met_left : (m n : Option ℕ) → met_below m (met_joined m n) ≡ true
met_left m n = if_either (met_below n m) m None (λ o. met_below m o ≡ true) (λ _. met_same m) (met_none m)

pub met_right : (m n : Option ℕ) → met_below n (met_joined m n) ≡ true
met_right m n = if_either (met_below n m) m None (λ o. met_below n o ≡ true) (λ q. q) (met_none n)

pub met_least : (m n o : Option ℕ) → met_below m o ≡ true → met_below n o ≡ true → met_below (met_joined m n) o ≡ true
met_least m n None p q = met_none (met_joined m n)
met_least m n (Some c) p q =
    let e = met_some m c p in
    let f = met_some n c q in
    subst (λ x. met_below (met_joined x n) (Some c) ≡ true) (sym e)
    (if_is (met_below n (Some c)) (Some c) None (λ x. met_below x (Some c) ≡ true) q (met_same (Some c)))
