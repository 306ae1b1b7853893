-- The targets of `leave` statements, gathered and gone over.
use Rattle.std.proofs.Common.{◌≡◌, ◌<◌, ◌+◌, ◌++◌, ◌∷◌, [], ℕ, zero, suc, List, map, take}
use Rattle.std.proofs.Common.{drop, drop-cons, add-one, length, get_or, Vec, Option, Bool, true, false}
use Rattle.std.proofs.Common.{◌||◌, not, bytes_eq, refl, sym, ap, subst, ◌∙◌, append_assoc, arith}
use Rattle.std.proofs.Math.Seq.{take-suc}
use Rattle.std.proofs.lemmas.List.{length-map, get_or-map}
use Rattle.std.specs.Borrow.{Bor}
use Rattle.std.specs.declared.alloc.Global.{Global}
use Rattle.loop_syntax.specs.declared.Name.{Name}
use Rattle.loop_syntax.specs.declared.Expr.{Expr}
use Rattle.loop_syntax.specs.declared.Stmt.{Stmt}
use Rattle.loop_syntax.specs.declared.Stmt.TheBlock.{hidden-the_row-Stmt-0}
use Rattle.loop_syntax.specs.declared.Stmt.TheVariants.{If, While, Loop}
use Rattle.loop_rules.specs.declared.fault.Fault.{Fault}
use Rattle.loop_rules.specs.declared.rule.Rule.TheVariants as rules
use Rattle.loop_rules.specs.Leaves.{has_other, bad_lefts}
use Rattle.loop_rules.specs.Names.{is_in}
use Rattle.loop_rules.specs.Reductions.{any_loop}
use Rattle.loop_rules.specs.Scopes.{at}
use Rattle.loop_rules.specs.Search.{lowest}
use Rattle.loop_rules.specs.Sites.{Spot}
use Rattle.loop_rules.specs.Targets.{targets_in, targets_all, targets_list}
use Rattle.loop_rules.specs.Walk.{named}
use Rattle.loop_rules.proofs.Searching.{lowest_append}
use Rattle.loop_rules.proofs.Walking.{vec_targets}
use Rattle.loop_check.proofs.Backwards.{onto, onto_in}
use Rattle.loop_check.proofs.Bools.{no_both}
use Rattle.loop_check.proofs.Found.{eq_is, eq_self}

-- ---- gathering

pub targets_if : (e : Expr) (body other : Vec Stmt Global) → targets_in (If e body other) ≡ targets_list body.items ++ targets_list other.items
targets_if e body other =
    ap (λ r. r ++ targets_all (hidden-the_row-Stmt-0 other)) (vec_targets body) ∙ ap (λ r. targets_list body.items ++ r) (vec_targets other)

pub targets_while : (e : Expr) (body : Vec Stmt Global) → targets_in (While e body) ≡ targets_list body.items
targets_while e body = vec_targets body

pub targets_loop : (x : Name) (a b : Expr) (body : Vec Stmt Global) → targets_in (Loop x a b body) ≡ targets_list body.items
targets_loop x a b body = vec_targets body

pub targets_step : (names : List Name) (body : List Stmt) (i : ℕ) (s : Stmt) → i < length body → s ≡ get_or body i s
    → (names ++ targets_in s) ++ targets_list (drop (i + 1) body) ≡ names ++ targets_list (drop i body)
targets_step names body i s lt is =
    rw (add-one, drop-cons body i s lt, ← is) (append_assoc names (targets_in s) (targets_list (drop (suc i) body)))

-- ---- going over them

abbrev pub name_of : Name → List ℕ
name_of x = x.text.items

-- the names, the last one first
abbrev pub behind : List Name → List (List ℕ)
behind xs = onto name_of xs []

onto_more : (ys : List Name) (y : Name) (xs : List (List ℕ)) → onto name_of (ys ++ y ∷ []) xs ≡ name_of y ∷ onto name_of ys xs
onto_more [] y xs = refl
onto_more (z ∷ ys) y xs = onto_more ys y (name_of z ∷ xs)

-- where one of them is not that one, another one than that one is among them
other_of : (before : List (List ℕ)) (f x : List ℕ) → is_in before f ≡ true → bytes_eq f x ≡ false → has_other before x ≡ true
other_of [] f x h k = absurd (no_both true refl (sym h))
other_of (y ∷ ys) f x h k = go (λ l. other_of ys f x l k) (bytes_eq y x) refl
  where
    later : (is_in ys f ≡ true → has_other ys x ≡ true) → bytes_eq y x ≡ true → (c : Bool) → bytes_eq y f ≡ c → (c || is_in ys f) ≡ true → has_other ys x ≡ true
    later again e true i l = absurd (no_both (bytes_eq f x) (subst (λ z. bytes_eq z x ≡ true) (eq_is y f i) e) k)
    later again e false i l = again l

    go : (is_in ys f ≡ true → has_other ys x ≡ true) → (b : Bool) → bytes_eq y x ≡ b → (not b || has_other ys x) ≡ true
    go again false e = refl
    go again true e = later again e (bytes_eq y f) refl h

or_false : (b : Bool) → b ≡ (b || false)
or_false true = refl
or_false false = refl

or_true : (b : Bool) → (b || true) ≡ true
or_true true = refl
or_true false = refl

or_turned : (a b : Bool) → (a || b) ≡ (b || a)
or_turned true b = sym (or_true b)
or_turned false b = or_false b

-- behind names of which one is the first, another one stands where another than the first does, or it isn't the first
pub by_first : (before : List (List ℕ)) (f x : List ℕ) → is_in before f ≡ true → has_other before x ≡ (has_other before f || not (bytes_eq x f))
by_first before f x h = go (bytes_eq x f) refl
  where
    other : bytes_eq x f ≡ false → (c : Bool) → bytes_eq f x ≡ c → bytes_eq f x ≡ false
    other e false d = d
    other e true d = absurd (no_both (bytes_eq x f) (subst (λ z. bytes_eq z f ≡ true) (eq_is f x d) (eq_self f)) e)

    go : (b : Bool) → bytes_eq x f ≡ b → has_other before x ≡ (has_other before f || not b)
    go true e = ap (has_other before) (eq_is x f e) ∙ or_false (has_other before f)
    go false e = other_of before f x h (other e (bytes_eq f x) refl) ∙ sym (or_true (has_other before f))

-- the first target tells of those behind it whether another one stands before
seen : (i : ℕ) (xs : List Name) (x first : Name) → i < length xs → x ≡ get_or xs i x → first ≡ get_or xs 0 first
    → has_other (behind (take i xs)) (name_of x) ≡ (has_other (behind (take i xs)) (name_of first) || not (bytes_eq (name_of x) (name_of first)))
seen i [] x first lt is head = absurd (omega arith)
seen zero (y ∷ ys) x first lt is head =
    let same : name_of first ≡ name_of x = ap name_of (head ∙ sym is) in
    sym (ap not (ap (bytes_eq (name_of x)) same ∙ eq_self (name_of x)))
seen (suc i) (y ∷ ys) x first lt is head =
    let here : bytes_eq (name_of y) (name_of first) ≡ true = ap (bytes_eq (name_of y)) (ap name_of head) ∙ eq_self (name_of y) in
    by_first (behind (take (suc i) (y ∷ ys))) (name_of first) (name_of x)
    (onto_in name_of (take i ys) (name_of y ∷ []) (name_of first)
    ∙ ap (λ c. is_in (map name_of (take i ys)) (name_of first) || (c || false)) here
    ∙ or_true (is_in (map name_of (take i ys)) (name_of first)))

-- one more target
module _ (i : ℕ) (xs : List Name) (x first : Name) (mixed : Bool) (lt : i < length xs) (is : x ≡ get_or xs i x) (head : first ≡ get_or xs 0 first)
    (before : mixed ≡ has_other (behind (take i xs)) (name_of first)) where
  back : behind (take (i + 1) xs) ≡ name_of x ∷ behind (take i xs)
  back = ap (λ n. behind (take n xs)) (add-one i) ∙ ap behind (take-suc xs i x lt) ∙ ap (λ z. behind (take i xs ++ z ∷ [])) (sym is) ∙ onto_more (take i xs) x []

  pub next_mixed : (mixed || not (bytes_eq (name_of x) (name_of first))) ≡ has_other (behind (take (i + 1) xs)) (name_of first)
  next_mixed =
      ap (λ c. c || not (bytes_eq (name_of x) (name_of first))) before
      ∙ or_turned (has_other (behind (take i xs)) (name_of first)) (not (bytes_eq (name_of x) (name_of first)))
      ∙ sym (ap (λ l. has_other l (name_of first)) back)

  pub next_target : (b : Option Fault) (w : Spot)
      → lowest (lowest b rules.Leaves (at x ((any_loop (λ loop. is_in loop.outside x.text.items) w.rounds || is_in w.loops x.text.items) || (mixed || not (bytes_eq (name_of x) (name_of first)))))) rules.Leaves
      (bad_lefts (behind (take (i + 1) xs)) (drop (i + 1) xs) w)
      ≡ lowest b rules.Leaves (bad_lefts (behind (take i xs)) (drop i xs) w)
  next_target b w =
      let now : (mixed || not (bytes_eq (name_of x) (name_of first))) ≡ has_other (behind (take i xs)) (name_of x) =
      ap (λ c. c || not (bytes_eq (name_of x) (name_of first))) before ∙ sym (seen i xs x first lt is head) in
      rw (back, now, add-one, drop-cons xs i x lt, ← is)
      (sym (lowest_append b rules.Leaves (at x (any_loop (λ loop. is_in loop.outside x.text.items) w.rounds || is_in w.loops x.text.items || has_other (behind (take i xs)) (name_of x))) (bad_lefts (name_of x ∷ behind (take i xs)) (drop (suc i) xs) w)))

-- ---- what references point to

pub at_place : (ys : List (Bor Name)) (i : ℕ) (y : Bor Name) → i < length ys → y ≡ get_or ys i y → y.now ≡ get_or (named ys) i y.now
at_place ys i y lt is = ap {A = Bor Name} {B = Name} (λ z. z.now) is ∙ sym (get_or-map (λ (z : Bor Name). z.now) ys i y y.now lt)

pub as_many : (ys : List (Bor Name)) (i : ℕ) → i < length ys → i < length (named ys)
as_many ys i lt = let same : length (named ys) ≡ length ys = length-map ys _ in omega (arith, lt, same)

-- there is one first
pub one_first : (xs : List Name) (x y : Name) → 0 < length xs → x ≡ get_or xs 0 x → y ≡ get_or xs 0 y → x ≡ y
one_first [] x y lt e f = absurd (omega arith)
one_first (z ∷ zs) x y lt e f = e ∙ sym f
