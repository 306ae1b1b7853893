-- What joins find below an assignment that meets the rules, and what flows into combining blocks.
use Rattle.std.proofs.Common.{◌≡◌, ℕ, zero, suc, List, [], ◌∷◌, ◌++◌, Option, Some, None, refl, sym, ap, subst, ◌∙◌}
use Rattle.std.proofs.lemmas.Bool.{false≢true}
use Rattle.std.specs.Prelude.{Bool, true, false, not, if◌then◌else◌, map, replicate, slice_set, slice_get, slice_index_or}
use Rattle.std.specs.List.{list_all}
use Rattle.tpal_syntax.specs.declared.blocks.Block.{Block}
use Rattle.tpal_syntax.specs.declared.notes.Note.{Note}
use Rattle.tpal_syntax.specs.declared.notes.Note.TheVariants as note
use Rattle.tpal_syntax.specs.declared.notes.Target.{Target}
use Rattle.tpal_verify.specs.declared.kinds.Kind.{Kind}
use Rattle.tpal_verify.specs.declared.kinds.Kind.TheVariants.{Number, Empty, Own, Up, Pend, Met, Back, Any}
use Rattle.tpal_verify.specs.declared.kinds.EndFact.{EndFact}
use Rattle.tpal_verify.specs.declared.kinds.MarkFact.TheVariants.{Clear}
use Rattle.tpal_verify.specs.declared.trace.Trace.{Trace}
use Rattle.tpal_verify.specs.Kinds.{kind_eq}
use Rattle.tpal_verify.specs.Shapes.{Shape}
use Rattle.tpal_verify.specs.Flat.{Ground}
use Rattle.tpal_verify.specs.Rules.{note_of, note_at}
use Rattle.tpal_verify.specs.Walk.{Flow}
use Rattle.tpal_verify.specs.Rounds.{Shapes, forks_of, all_forks, join_in, with_join, all_joins, each_has, found, left_kinds, right_kinds, comb_shape, comb_flow, each_comb_flow, comb_flows, holds, holds_all}
use Rattle.tpal_verify.specs.Breaks.{listed_by, listed, lists_agree}
use Rattle.tpal_verify.proofs.Order.{and_left, and_right, and_both, KindBelow, KindsBelow, kinds_at, kinds_same, mark_same, grant_same, met_same}
use Rattle.tpal_verify.proofs.ShapeOrder.{Below, cells_kept}
use Rattle.tpal_verify.proofs.Lower.{low_below, JoinBelow, ForksBelow, all_left, all_right, all_both, into_below}

-- ---- traces below traces

abbrev pub TraceBelow : Option Trace → Option Trace → Type 0
TraceBelow None y = Unit {0}
TraceBelow (Some x) None = ⊥
TraceBelow (Some x) (Some y) = JoinBelow x.join y.join × ForksBelow x.forks y.forks

abbrev pub TracesBelow : List (Option Trace) → List (Option Trace) → Type 0
TracesBelow [] ys = Unit {0}
TracesBelow (x ∷ xs) [] = ⊥
TracesBelow (x ∷ xs) (y ∷ ys) = TraceBelow x y × TracesBelow xs ys

join_in_below : (x y : Option Trace) → TraceBelow x y → JoinBelow (join_in x) (join_in y)
join_in_below None y w = tt
join_in_below (Some x) None w = absurd w
join_in_below (Some x) (Some y) w = w.0

-- ---- the kinds at joins

drop_join : (k : Kind) (r : ℕ) (j : Option (List Kind)) (js : List (List Kind)) → each_has k r (with_join j js) ≡ true → each_has k r js ≡ true
drop_join k r None js q = q
drop_join k r (Some xs) js q = and_right (kind_eq (slice_index_or xs r Any) k) (each_has k r js) q

-- a kind above which only Up and Any stand
abbrev IsKept : Kind → Type 0
IsKept k = (e : EndFact) (a b : Kind) → KindBelow e a b → kind_eq b k ≡ true → kind_eq a k ≡ true

one_join : (k : Kind) (r : ℕ) (i j : Option (List Kind)) (is js : List (List Kind)) → IsKept k → JoinBelow i j → (each_has k r js ≡ true → each_has k r is ≡ true)
    → each_has k r (with_join j js) ≡ true → each_has k r (with_join i is) ≡ true
one_join k r None j is js h w f q = f (drop_join k r j js q)
one_join k r (Some xs) None is js h w f q = absurd w
one_join k r (Some xs) (Some ys) is js h w f q =
    and_both (kind_eq (slice_index_or xs r Any) k) (each_has k r is)
    (h w.0 (slice_index_or xs r Any) (slice_index_or ys r Any) (kinds_at w.0 xs ys r w.1) (and_left (kind_eq (slice_index_or ys r Any) k) (each_has k r js) q))
    (f (and_right (kind_eq (slice_index_or ys r Any) k) (each_has k r js) q))

each_below : (k : Kind) (r : ℕ) (xs ys : List (Option Trace)) → IsKept k → TracesBelow xs ys → each_has k r (all_joins ys) ≡ true → each_has k r (all_joins xs) ≡ true
each_below k r [] ys h w q = refl
each_below k r (x ∷ xs) [] h w q = absurd w
each_below k r (x ∷ xs) (y ∷ ys) h w q = one_join k r (join_in x) (join_in y) (all_joins xs) (all_joins ys) h (join_in_below x y w.0) (each_below k r xs ys h w.1) q

own_is : (k : Kind) → kind_eq k Own ≡ true → k ≡ Own
own_is Own q = refl
own_is Number q = absurd (false≢true q)
own_is Empty q = absurd (false≢true q)
own_is Up q = absurd (false≢true q)
own_is Pend q = absurd (false≢true q)
own_is Met q = absurd (false≢true q)
own_is (Back h) q = absurd (false≢true q)
own_is Any q = absurd (false≢true q)

number_is : (k : Kind) → kind_eq k Number ≡ true → k ≡ Number
number_is Number q = refl
number_is Empty q = absurd (false≢true q)
number_is Own q = absurd (false≢true q)
number_is Up q = absurd (false≢true q)
number_is Pend q = absurd (false≢true q)
number_is Met q = absurd (false≢true q)
number_is (Back h) q = absurd (false≢true q)
number_is Any q = absurd (false≢true q)

own_kept : IsKept Own
own_kept e a b w q = subst (λ x. kind_eq x Own ≡ true) (sym (low_below e a b Own tt w (own_is b q))) refl

number_kept : IsKept Number
number_kept e a b w q = subst (λ x. kind_eq x Number ≡ true) (sym (low_below e a b Number tt w (number_is b q))) refl

-- ---- the finding

abbrev IsFound : List (List Kind) → ℕ → Type 0
IsFound joins r = not (kind_eq (found joins r) Any) ≡ true

found_below : (xs ys : List (Option Trace)) (r : ℕ) → TracesBelow xs ys → IsFound (all_joins ys) r → IsFound (all_joins xs) r
found_below xs ys r w q = by (each_has Number r (all_joins ys)) (each_has Own r (all_joins ys)) (each_has Number r (all_joins xs)) (each_has Own r (all_joins xs)) (each_below Number r xs ys number_kept w) (each_below Own r xs ys own_kept w) q
  where
    by : (a b c d : Bool) → (a ≡ true → c ≡ true) → (b ≡ true → d ≡ true) → not (kind_eq (if a then Number else (if b then Met else Any)) Any) ≡ true → not (kind_eq (if c then Number else (if d then Met else Any)) Any) ≡ true
    by a b true d f g z = refl
    by a b false true f g z = refl
    by true b false false f g z = absurd (false≢true (f refl))
    by false true false false f g z = absurd (false≢true (g refl))
    by false false false false f g z = z

not_number : (j : List Kind) (js : List (List Kind)) (r : ℕ) → each_has Own r (j ∷ js) ≡ true → each_has Number r (j ∷ js) ≡ true → ⊥
not_number j js r p q =
    let a = own_is (slice_index_or j r Any) (and_left (kind_eq (slice_index_or j r Any) Own) (each_has Own r js) p) in
    let b = and_left (kind_eq (slice_index_or j r Any) Number) (each_has Number r js) q in
    false≢true (subst (λ x. kind_eq x Number ≡ true) a b)

-- where some side is known to end by a join, both find the same in what is found
found_same : (j : List Kind) (js is : List (List Kind)) (r : ℕ) → (each_has Number r is ≡ true → each_has Number r (j ∷ js) ≡ true) → (each_has Own r is ≡ true → each_has Own r (j ∷ js) ≡ true)
    → IsFound is r → found (j ∷ js) r ≡ found is r
found_same j js is r f g q = by (each_has Number r is) (each_has Own r is) (each_has Number r (j ∷ js)) (each_has Own r (j ∷ js)) f g (not_number j js r) q
  where
    by : (a b c d : Bool) → (a ≡ true → c ≡ true) → (b ≡ true → d ≡ true) → (d ≡ true → c ≡ true → ⊥) → not (kind_eq (if a then Number else (if b then Met else Any)) Any) ≡ true
        → (if c then Number else (if d then Met else Any)) ≡ (if a then Number else (if b then Met else Any))
    by true b true d f g n z = refl
    by true b false d f g n z = absurd (false≢true (f refl))
    by false true true true f g n z = absurd (n refl refl)
    by false true false true f g n z = refl
    by false true c false f g n z = absurd (false≢true (g refl))
    by false false c d f g n z = absurd (false≢true z)

-- ---- combining blocks

list_left : {X : Type 0} (p : X → Bool) (xs ys : List X) → list_all p (xs ++ ys) ≡ true → list_all p xs ≡ true
list_left p [] ys q = refl
list_left p (x ∷ xs) ys q = and_both (p x) (list_all p xs) (and_left (p x) (list_all p (xs ++ ys)) q) (list_left p xs ys (and_right (p x) (list_all p (xs ++ ys)) q))

list_right : {X : Type 0} (p : X → Bool) (xs ys : List X) → list_all p (xs ++ ys) ≡ true → list_all p ys ≡ true
list_right p [] ys q = q
list_right p (x ∷ xs) ys q = list_right p xs ys (and_right (p x) (list_all p (xs ++ ys)) q)

-- the left names of a block's note are found where all listed registers are
agree_at : (joins : List (List Kind)) (blocks : List Block) (l : ℕ) → lists_agree joins (listed blocks) ≡ true → lists_agree joins (listed_by (note_of (slice_get blocks l))) ≡ true
agree_at joins [] l q = refl
agree_at joins (b ∷ bs) zero q = list_left (λ r. not (kind_eq (found joins r) Any)) (listed_by b.note) (listed bs) q
agree_at joins (b ∷ bs) (suc l) q = agree_at joins bs l (list_right (λ r. not (kind_eq (found joins r) Any)) (listed_by b.note) (listed bs) q)

pub lists_below : (xs ys : List (Option Trace)) (rs : List ℕ) → TracesBelow xs ys → lists_agree (all_joins ys) rs ≡ true → lists_agree (all_joins xs) rs ≡ true
lists_below xs ys [] w q = refl
lists_below xs ys (r ∷ rs) w q =
    and_both (not (kind_eq (found (all_joins xs) r) Any)) (lists_agree (all_joins xs) rs)
    (found_below xs ys r w (and_left (not (kind_eq (found (all_joins ys) r) Any)) (lists_agree (all_joins ys) rs) q))
    (lists_below xs ys rs w (and_right (not (kind_eq (found (all_joins ys) r) Any)) (lists_agree (all_joins ys) rs) q))

abbrev SameFound : List (List Kind) → List (List Kind) → List (ℕ × ℕ) → Type 0
SameFound is js [] = Unit {0}
SameFound is js (p ∷ ps) = (found is p.0 ≡ found js p.0) × SameFound is js ps

left_same : (is js : List (List Kind)) (ks : List Kind) (ps : List (ℕ × ℕ)) → SameFound is js ps → left_kinds is ks ps ≡ left_kinds js ks ps
left_same is js ks [] w = refl
left_same is js ks (p ∷ ps) w =
    ap (λ k. left_kinds is (slice_set ks p.0 k) ps) w.0 ∙ left_same is js (slice_set ks p.0 (found js p.0)) ps w.1

right_same : (is js : List (List Kind)) (ks : List Kind) (ps : List (ℕ × ℕ)) → SameFound is js ps → right_kinds is ks ps ≡ right_kinds js ks ps
right_same is js ks [] w = refl
right_same is js ks (p ∷ ps) w =
    ap (λ k. right_kinds is (slice_set ks p.1 k) ps) w.0 ∙ right_same is js (slice_set ks p.1 (found js p.0)) ps w.1

comb_below : (is js : List (List Kind)) (l : ℕ) (target : Target) (s t : Shape) → SameFound is js target.renames → Below s t → Below (comb_shape is l target s) (comb_shape js l target t)
comb_below is js l target s t f w = record {
  registers = subst (λ x. KindsBelow s.at_end x (comb_shape js l target t).registers) (sym (ap (λ ks. right_kinds is ks target.renames) (left_same is js (replicate 31 Empty) target.renames f) ∙ right_same is js (left_kinds js (replicate 31 Empty) target.renames) target.renames f))
      (kinds_same s.at_end (comb_shape js l target t).registers);
  cells = cells_kept s t w;
  at_end = w.at_end;
  mark = mark_same Clear;
  granted = grant_same false;
  met = met_same (Some l);
}

module _ (A : Shapes) (whole : Ground) (j : List Kind) (js is : List (List Kind)) where
  abbrev Finds : Type 0
  Finds = (r : ℕ) → IsFound is r → found (j ∷ js) r ≡ found is r

  names_same : Finds → (ps : List (ℕ × ℕ)) → lists_agree is (map (λ p. p.0) ps) ≡ true → SameFound (j ∷ js) is ps
  names_same f [] q = tt
  names_same f (p ∷ ps) q =
      (f p.0 (and_left (not (kind_eq (found is p.0) Any)) (lists_agree is (map (λ p. p.0) ps)) q), names_same f ps (and_right (not (kind_eq (found is p.0) Any)) (lists_agree is (map (λ p. p.0) ps)) q))

  one_comb : Finds → (m : Note) (l : ℕ) (s t : Shape) → lists_agree is (listed_by m) ≡ true → Below s t → holds_all A (comb_flow m is (l, t)) ≡ true → holds_all A (comb_flow m (j ∷ js) (l, s)) ≡ true
  one_comb f note.Plain l s t a w q = refl
  one_comb f (note.Ready h) l s t a w q = refl
  one_comb f (note.Target target) l s t a w q =
      and_both (holds A (target.comb, comb_shape (j ∷ js) l target s)) true
      (into_below A target.comb (comb_shape (j ∷ js) l target s) (comb_shape is l target t) (comb_below (j ∷ js) is l target s t (names_same f target.renames a) w)
      (and_left (holds A (target.comb, comb_shape is l target t)) true q)) refl

  comb_left : (joins : List (List Kind)) (fs gs : List Flow) → holds_all A (each_comb_flow whole joins (fs ++ gs)) ≡ true → holds_all A (each_comb_flow whole joins fs) ≡ true
  comb_left joins [] gs q = refl
  comb_left joins (f ∷ fs) gs q =
      all_both A (comb_flow (note_at whole f.0) joins f) (each_comb_flow whole joins fs) (all_left A (comb_flow (note_at whole f.0) joins f) (each_comb_flow whole joins (fs ++ gs)) q)
      (comb_left joins fs gs (all_right A (comb_flow (note_at whole f.0) joins f) (each_comb_flow whole joins (fs ++ gs)) q))

  comb_right : (joins : List (List Kind)) (fs gs : List Flow) → holds_all A (each_comb_flow whole joins (fs ++ gs)) ≡ true → holds_all A (each_comb_flow whole joins gs) ≡ true
  comb_right joins [] gs q = q
  comb_right joins (f ∷ fs) gs q = comb_right joins fs gs (all_right A (comb_flow (note_at whole f.0) joins f) (each_comb_flow whole joins (fs ++ gs)) q)

  comb_both : (joins : List (List Kind)) (fs gs : List Flow) → holds_all A (each_comb_flow whole joins fs) ≡ true → holds_all A (each_comb_flow whole joins gs) ≡ true → holds_all A (each_comb_flow whole joins (fs ++ gs)) ≡ true
  comb_both joins [] gs p q = q
  comb_both joins (f ∷ fs) gs p q =
      all_both A (comb_flow (note_at whole f.0) joins f) (each_comb_flow whole joins (fs ++ gs)) (all_left A (comb_flow (note_at whole f.0) joins f) (each_comb_flow whole joins fs) p)
      (comb_both joins fs gs (all_right A (comb_flow (note_at whole f.0) joins f) (each_comb_flow whole joins fs) p) q)

  forks_comb : Finds → (fs gs : List Flow) → lists_agree is (listed whole.blocks) ≡ true → ForksBelow fs gs → holds_all A (each_comb_flow whole is gs) ≡ true → holds_all A (each_comb_flow whole (j ∷ js) fs) ≡ true
  forks_comb f [] gs a w q = refl
  forks_comb f (x ∷ fs) [] a w q = absurd w
  forks_comb f (x ∷ fs) (y ∷ gs) a w q =
      let p = all_left A (comb_flow (note_at whole y.0) is y) (each_comb_flow whole is gs) q in
      all_both A (comb_flow (note_at whole x.0) (j ∷ js) x) (each_comb_flow whole (j ∷ js) fs)
      (subst (λ l. holds_all A (comb_flow (note_at whole l) (j ∷ js) (l, x.1)) ≡ true) (sym w.0)
      (one_comb f (note_at whole y.0) y.0 x.1 y.1 (agree_at is whole.blocks y.0 a) w.1 p))
      (forks_comb f fs gs a w.2 (all_right A (comb_flow (note_at whole y.0) is y) (each_comb_flow whole is gs) q))

  forks_in : (x y : Option Trace) → TraceBelow x y → ForksBelow (forks_of x) (forks_of y)
  forks_in None y w = tt
  forks_in (Some x) None w = absurd w
  forks_in (Some x) (Some y) w = w.1

  all_comb : Finds → (xs ys : List (Option Trace)) → lists_agree is (listed whole.blocks) ≡ true → TracesBelow xs ys → holds_all A (each_comb_flow whole is (all_forks ys)) ≡ true → holds_all A (each_comb_flow whole (j ∷ js) (all_forks xs)) ≡ true
  all_comb f [] ys a w q = refl
  all_comb f (x ∷ xs) [] a w q = absurd w
  all_comb f (x ∷ xs) (y ∷ ys) a w q =
      comb_both (j ∷ js) (forks_of x) (all_forks xs)
      (forks_comb f (forks_of x) (forks_of y) a (forks_in x y w.0) (comb_left is (forks_of y) (all_forks ys) q))
      (all_comb f xs ys a w.1 (comb_right is (forks_of y) (all_forks ys) q))

-- no side is known to end by a join where none is above
no_join : (x y : Option (List Kind)) (is js : List (List Kind)) → JoinBelow x y → (js ≡ [] → is ≡ []) → with_join y js ≡ [] → with_join x is ≡ []
no_join None None is js w f q = f q
no_join None (Some ys) is js w f q = cc
no_join (Some xs) None is js w f q = absurd w
no_join (Some xs) (Some ys) is js w f q = cc

no_joins : (xs ys : List (Option Trace)) → TracesBelow xs ys → all_joins ys ≡ [] → all_joins xs ≡ []
no_joins [] ys w q = refl
no_joins (x ∷ xs) [] w q = absurd w
no_joins (x ∷ xs) (y ∷ ys) w q = no_join (join_in x) (join_in y) (all_joins xs) (all_joins ys) (join_in_below x y w.0) (no_joins xs ys w.1) q

-- What flows into combining blocks from below an assignment is held by it.
pub comb_held : (A : Shapes) (whole : Ground) (xs ys : List (Option Trace)) → TracesBelow xs ys → lists_agree (all_joins ys) (listed whole.blocks) ≡ true
    → holds_all A (comb_flows whole (all_joins ys) (all_forks ys)) ≡ true → holds_all A (comb_flows whole (all_joins xs) (all_forks xs)) ≡ true
comb_held A whole xs ys w a q = by (all_joins xs) (all_joins ys) (λ r. each_below Number r xs ys number_kept w) (λ r. each_below Own r xs ys own_kept w) (no_joins xs ys w) a q
  where
    by : (is js : List (List Kind)) → ((r : ℕ) → each_has Number r js ≡ true → each_has Number r is ≡ true) → ((r : ℕ) → each_has Own r js ≡ true → each_has Own r is ≡ true) → (js ≡ [] → is ≡ [])
        → lists_agree js (listed whole.blocks) ≡ true → holds_all A (comb_flows whole js (all_forks ys)) ≡ true → holds_all A (comb_flows whole is (all_forks xs)) ≡ true
    by [] js f g n b z = refl
    by (i ∷ is) [] f g n b z = cc (n refl)
    by (i ∷ is) (j ∷ js) f g n b z = all_comb A whole i is (j ∷ js) (λ r. found_same i is (j ∷ js) r (f r) (g r)) xs ys b w z
