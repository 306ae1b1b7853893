-- The rules of disjoint writes by trees alone.
use Rattle.std.proofs.Common.{◌≡◌, ◌∷◌, ◌++◌, [], ℕ, ℤ, Bool, true, false, cond, ◌||◌, ◌&&◌, not}
use Rattle.std.proofs.Common.{List, map, Option, Some, None, bytes_eq, refl, ap, ◌∙◌}
use Rattle.std.specs.Ordering.{int_eq}
use Rattle.tp_value.specs.declared.values.Place.{Place}
use Rattle.tp_value.specs.declared.values.Op.{Op}
use Rattle.loop_syntax.specs.declared.expression.Name.{Name}
use Rattle.loop_syntax.specs.declared.expression.Expr.{Expr}
use Rattle.loop_syntax.specs.declared.expression.Expr.TheVariants.{Int, Var, Cell', Rows, Cols}
use Rattle.loop_syntax.specs.declared.expression.Expr.TheVariants.{Neg', Bin'}
use Rattle.loop_syntax.specs.declared.statement.RowAt.{RowAt}
use Rattle.loop_syntax.specs.declared.statement.RowAt.TheVariants as row
use Rattle.loop_syntax.specs.declared.statement.Carry.{Carry}
use Rattle.loop_syntax.specs.declared.statement.Carry.TheVariants as carry
use Rattle.loop_syntax.specs.declared.statement.Reduce.{Reduce}
use Rattle.loop_syntax.specs.Tree.{Spelled, spelled, Tree, TInt, TVar, tree_of, RowTree, RVar, RInt}
use Rattle.loop_syntax.specs.Tree.{row_of, CarryTree, CRows, CCells, carry_of, ReduceTree}
use Rattle.loop_syntax.specs.Tree.{reduce_of}
use Rattle.loop_rules.specs.Names.{is_in, table_name, operator_of, item_of}
use Rattle.loop_rules.specs.Sites.{Loop, Act, DeclaresTable, DeclaresFunc, DeclaresAll, Declares}
use Rattle.loop_rules.specs.Sites.{Uses, Assigns, Folds, AssignsBoth, NamesTable, ReadsCell}
use Rattle.loop_rules.specs.Sites.{WritesCell, Calls, Evaluates, Shows, Parallel, Leaves, LeavesAll, Spot}
use Rattle.loop_rules.specs.Reductions.{any_loop, is_op, some_op, reduced, nearest_reduces}
use Rattle.loop_rules.specs.Reductions.{other_operator, reduced_otherwise, bad_targets, outer_set}
use Rattle.loop_rules.specs.Reductions.{misreduced}
use Rattle.loop_rules.specs.Carries.{is_some_item, carries, is_var, is_int, is_row, fits, fits_some}
use Rattle.loop_rules.specs.Carries.{has_shape, bad_write, bad_read, last_index, row_reduced}
use Rattle.loop_rules.specs.Carries.{is_rows_item, is_within, outside_nearest, bad_item, bad_items}
use Rattle.loop_rules.specs.Carries.{miswritten, misread, miscarried}
use Rattle.loop_rules.specs.Leaves.{is_empty, cannot_leave, is_inner, has_other, bad_lefts, misleft}
use Rattle.loop_rules.proofs.TreeRules.{at_name, carried}
use Rattle.loop_check.proofs.TreeSites.{LoopTree, ActTree, Declared, Used, Assigned, Folded, Read}
use Rattle.loop_check.proofs.TreeSites.{Written, InParallel, Left, LeftAll, TreeSpot}
use Rattle.loop_check.proofs.TreeWalk.{loop_tree, rounds_tree, act_tree, spot_tree}

-- ---- loops

abbrev pub any_round : (LoopTree → Bool) → List LoopTree → Bool
any_round f [] = false
any_round f (r ∷ rs) = f r || any_round f rs

pub any_same : (f : Loop → Bool) (g : LoopTree → Bool) → ((r : Loop) → f r ≡ g (loop_tree r)) → (rs : List Loop) → any_loop f rs ≡ any_round g (rounds_tree rs)
any_same f g h [] = refl
any_same f g h (r ∷ rs) = ap (λ b. b || any_loop f rs) (h r) ∙ ap (λ b. g (loop_tree r) || b) (any_same f g h rs)

-- ---- reductions

abbrev operator_in : List ReduceTree → List ℕ → Option Op
operator_in [] x = None
operator_in (r ∷ rs) x = cond (bytes_eq r.target.text x) (Some r.op) (operator_in rs x)

operator_same : (rs : List Reduce) (x : List ℕ) → operator_of rs x ≡ operator_in (map reduce_of rs) x
operator_same [] x = refl
operator_same (r ∷ rs) x = ap (λ o. cond (bytes_eq r.target.text.items x) (Some r.op) o) (operator_same rs x)

abbrev reduces_in : List ℕ → LoopTree → Bool
reduces_in x r = some_op (operator_in r.reduces x)

reduced_same : (x : List ℕ) (r : Loop) → reduced x r ≡ reduces_in x (loop_tree r)
reduced_same x r = ap some_op (operator_same r.reduces x)

abbrev nearest_in : List LoopTree → List ℕ → Bool
nearest_in [] x = false
nearest_in (r ∷ rs) x = reduces_in x r

nearest_same : (rs : List Loop) (x : List ℕ) → nearest_reduces rs x ≡ nearest_in (rounds_tree rs) x
nearest_same [] x = refl
nearest_same (r ∷ rs) x = reduced_same x r

abbrev other_in : ReduceTree → LoopTree → Bool
other_in q r = reduces_in q.target.text r && not (is_op q.op (operator_in r.reduces q.target.text))

other_same : (q : Reduce) (r : Loop) → other_operator q r ≡ other_in (reduce_of q) (loop_tree r)
other_same q r = ap (λ o. some_op o && not (is_op q.op o)) (operator_same r.reduces q.target.text.items)

abbrev otherwise_in : ReduceTree → LoopTree → Bool
otherwise_in q r = is_in r.outside q.target.text && not (is_op q.op (operator_in r.reduces q.target.text))

otherwise_same : (q : Reduce) (r : Loop) → reduced_otherwise q r ≡ otherwise_in (reduce_of q) (loop_tree r)
otherwise_same q r = ap (λ o. is_in r.outside q.target.text.items && not (is_op q.op o)) (operator_same r.reduces q.target.text.items)

abbrev targets_in : List (List ℕ) → List ReduceTree → List LoopTree → List Place
targets_in before [] rs = []
targets_in before (q ∷ qs) rs =
    at_name q.target (any_round (other_in q) rs || any_round (otherwise_in q) rs || is_in before q.target.text) ++ targets_in (q.target.text ∷ before) qs rs

targets_same : (before : List (List ℕ)) (qs : List Reduce) (rs : List Loop) → bad_targets before qs rs ≡ targets_in before (map reduce_of qs) (rounds_tree rs)
targets_same before [] rs = refl
targets_same before (q ∷ qs) rs =
    let x = q.target.text.items in
    let found = λ (a b : Bool) (more : List Place). at_name (spelled q.target) (a || b || is_in before x) ++ more in
    ap (λ a. found a (any_loop (reduced_otherwise q) rs) (bad_targets (x ∷ before) qs rs)) (any_same (other_operator q) (other_in (reduce_of q)) (other_same q) rs)
    ∙ ap (λ b. found (any_round (other_in (reduce_of q)) (rounds_tree rs)) b (bad_targets (x ∷ before) qs rs)) (any_same (reduced_otherwise q) (otherwise_in (reduce_of q)) (otherwise_same q) rs)
    ∙ ap (found (any_round (other_in (reduce_of q)) (rounds_tree rs)) (any_round (otherwise_in (reduce_of q)) (rounds_tree rs))) (targets_same (x ∷ before) qs rs)

-- ---- carries

carried_text : (c : Carry) → (table_name c).text.items ≡ (carried (carry_of c)).text
carried_text (carry.Rows t i) = refl
carried_text (carry.Cells t k j) = refl

carried_at : (c : Carry) → spelled (table_name c) ≡ carried (carry_of c)
carried_at (carry.Rows t i) = refl
carried_at (carry.Cells t k j) = refl

abbrev item_in : List CarryTree → List ℕ → Option CarryTree
item_in [] t = None
item_in (c ∷ cs) t = cond (bytes_eq (carried c).text t) (Some c) (item_in cs t)

abbrev item_tree : Option Carry → Option CarryTree
item_tree None = None
item_tree (Some c) = Some (carry_of c)

item_same : (cs : List Carry) (t : List ℕ) → item_tree (item_of cs t) ≡ item_in (map carry_of cs) t
item_same [] t = refl
item_same (c ∷ cs) t =
    go (item_same cs t) (bytes_eq (table_name c).text.items t) ∙ ap (λ x. cond (bytes_eq x t) (Some (carry_of c)) (item_in (map carry_of cs) t)) (carried_text c)
  where
    go : item_tree (item_of cs t) ≡ item_in (map carry_of cs) t → (b : Bool) → item_tree (cond b (Some c) (item_of cs t)) ≡ cond b (Some (carry_of c)) (item_in (map carry_of cs) t)
    go h true = refl
    go h false = h

abbrev is_some_in : Option CarryTree → Bool
is_some_in None = false
is_some_in (Some c) = true

some_same : (o : Option Carry) → is_some_item o ≡ is_some_in (item_tree o)
some_same None = refl
some_same (Some c) = refl

abbrev pub carries_in : List ℕ → LoopTree → Bool
carries_in t r = is_some_in (item_in r.carries t)

pub carries_same : (t : List ℕ) (r : Loop) → carries t r ≡ carries_in t (loop_tree r)
carries_same t r = some_same (item_of r.carries t) ∙ ap is_some_in (item_same r.carries t)

-- ---- shapes

abbrev is_var_in : Tree → List ℕ → Bool
is_var_in (TVar x) y = bytes_eq x.text y
is_var_in _ y = false

var_same : (e : Expr) (y : List ℕ) → is_var e y ≡ is_var_in (tree_of e) y
var_same (Int n p) y = refl
var_same (Var x) y = refl
var_same (Cell' t p a q b) y = refl
var_same (Rows t) y = refl
var_same (Cols t) y = refl
var_same (Neg' p a place) y = refl
var_same (Bin' o place p a q b) y = refl

abbrev is_int_in : Tree → ℤ → Bool
is_int_in (TInt n p) m = int_eq n m
is_int_in _ m = false

int_same : (e : Expr) (m : ℤ) → is_int e m ≡ is_int_in (tree_of e) m
int_same (Int n p) m = refl
int_same (Var x) m = refl
int_same (Cell' t p a q b) m = refl
int_same (Rows t) m = refl
int_same (Cols t) m = refl
int_same (Neg' p a place) m = refl
int_same (Bin' o place p a q b) m = refl

abbrev is_row_in : RowTree → Tree → Bool
is_row_in (RVar k) a = is_var_in a k.text
is_row_in (RInt n) a = is_int_in a n

row_same : (k : RowAt) (a : Expr) → is_row k a ≡ is_row_in (row_of k) (tree_of a)
row_same (row.Var k) a = var_same a k.text.items
row_same (row.Int n) a = int_same a n

abbrev fits_in : CarryTree → Tree → Tree → Bool
fits_in (CRows t i) a b = is_var_in a i.text
fits_in (CCells t k j) a b = is_row_in k a && is_var_in b j.text

fits_same : (c : Carry) (a b : Expr) → fits c a b ≡ fits_in (carry_of c) (tree_of a) (tree_of b)
fits_same (carry.Rows t i) a b = var_same a i.text.items
fits_same (carry.Cells t k j) a b = ap (λ x. x && is_var b j.text.items) (row_same k a) ∙ ap (λ x. is_row_in (row_of k) (tree_of a) && x) (var_same b j.text.items)

abbrev fits_some_in : Option CarryTree → Tree → Tree → Bool
fits_some_in None a b = false
fits_some_in (Some c) a b = fits_in c a b

fits_some_same : (o : Option Carry) (a b : Expr) → fits_some o a b ≡ fits_some_in (item_tree o) (tree_of a) (tree_of b)
fits_some_same None a b = refl
fits_some_same (Some c) a b = fits_same c a b

abbrev shape_in : LoopTree → List ℕ → Tree → Tree → Bool
shape_in r t a b = fits_some_in (item_in r.carries t) a b

shape_same : (r : Loop) (t : List ℕ) (a b : Expr) → has_shape r t a b ≡ shape_in (loop_tree r) t (tree_of a) (tree_of b)
shape_same r t a b = fits_some_same (item_of r.carries t) a b ∙ ap (λ o. fits_some_in o (tree_of a) (tree_of b)) (item_same r.carries t)

-- ---- writes and reads

abbrev write_in : List LoopTree → List ℕ → Tree → Tree → Bool
write_in [] t a b = false
write_in (r ∷ rs) t a b = any_round (λ q. not (carries_in t q)) (r ∷ rs) || not (shape_in r t a b)

write_same : (rs : List Loop) (t : List ℕ) (a b : Expr) → bad_write rs t a b ≡ write_in (rounds_tree rs) t (tree_of a) (tree_of b)
write_same [] t a b = refl
write_same (r ∷ rs) t a b =
    ap (λ x. x || not (has_shape r t a b)) (any_same (λ q. not (carries t q)) (λ q. not (carries_in t q)) (λ q. ap not (carries_same t q)) (r ∷ rs))
    ∙ ap (λ x. any_round (λ q. not (carries_in t q)) (rounds_tree (r ∷ rs)) || not x) (shape_same r t a b)

abbrev read_in : List LoopTree → List ℕ → Tree → Tree → Bool
read_in [] t a b = false
read_in (r ∷ rs) t a b = any_round (carries_in t) (r ∷ rs) && not (shape_in r t a b)

read_same : (rs : List Loop) (t : List ℕ) (a b : Expr) → bad_read rs t a b ≡ read_in (rounds_tree rs) t (tree_of a) (tree_of b)
read_same [] t a b = refl
read_same (r ∷ rs) t a b =
    ap (λ x. x && not (has_shape r t a b)) (any_same (carries t) (carries_in t) (carries_same t) (r ∷ rs))
    ∙ ap (λ x. any_round (carries_in t) (rounds_tree (r ∷ rs)) && not x) (shape_same r t a b)

-- ---- carry lists

abbrev last_in : CarryTree → List ℕ
last_in (CRows t i) = i.text
last_in (CCells t k j) = j.text

last_same : (c : Carry) → last_index c ≡ last_in (carry_of c)
last_same (carry.Rows t i) = refl
last_same (carry.Cells t k j) = refl

abbrev row_reduced_in : LoopTree → CarryTree → Bool
row_reduced_in r (CRows t i) = false
row_reduced_in r (CCells t (RVar k) j) = reduces_in k.text r
row_reduced_in r (CCells t (RInt n) j) = false

row_reduced_same : (r : Loop) (c : Carry) → row_reduced r c ≡ row_reduced_in (loop_tree r) (carry_of c)
row_reduced_same r (carry.Rows t i) = refl
row_reduced_same r (carry.Cells t (row.Var k) j) = reduced_same k.text.items r
row_reduced_same r (carry.Cells t (row.Int n) j) = refl

abbrev rows_item_in : Option CarryTree → RowTree → Bool
rows_item_in (Some (CRows t i)) (RVar k) = bytes_eq i.text k.text
rows_item_in _ _ = false

rows_item_same : (o : Option Carry) (k : RowAt) → is_rows_item o k ≡ rows_item_in (item_tree o) (row_of k)
rows_item_same None k = refl
rows_item_same (Some (carry.Rows t i)) (row.Var k) = refl
rows_item_same (Some (carry.Rows t i)) (row.Int n) = refl
rows_item_same (Some (carry.Cells t l j)) k = refl

abbrev within_in : LoopTree → CarryTree → Bool
within_in r (CRows t i) = false
within_in r (CCells t k j) = rows_item_in (item_in r.carries t.text) k

within_same : (r : Loop) (c : Carry) → is_within r c ≡ within_in (loop_tree r) (carry_of c)
within_same r (carry.Rows t i) = refl
within_same r (carry.Cells t k j) = rows_item_same (item_of r.carries t.text.items) k ∙ ap (λ o. rows_item_in o (row_of k)) (item_same r.carries t.text.items)

abbrev outside_in : List LoopTree → CarryTree → Bool
outside_in [] c = false
outside_in (r ∷ rs) c = not (within_in r c)

outside_same : (rs : List Loop) (c : Carry) → outside_nearest rs c ≡ outside_in (rounds_tree rs) (carry_of c)
outside_same [] c = refl
outside_same (r ∷ rs) c = ap not (within_same r c)

abbrev bad_item_in : List LoopTree → LoopTree → CarryTree → Bool
bad_item_in rs r c = not (bytes_eq (last_in c) r.var) || row_reduced_in r c || outside_in rs c

bad_item_same : (rs : List Loop) (r : Loop) (c : Carry) → bad_item rs r c ≡ bad_item_in (rounds_tree rs) (loop_tree r) (carry_of c)
bad_item_same rs r c =
    ap (λ x. not (bytes_eq x r.var) || row_reduced r c || outside_nearest rs c) (last_same c)
    ∙ ap (λ x. not (bytes_eq (last_in (carry_of c)) r.var) || x || outside_nearest rs c) (row_reduced_same r c)
    ∙ ap (λ x. not (bytes_eq (last_in (carry_of c)) r.var) || row_reduced_in (loop_tree r) (carry_of c) || x) (outside_same rs c)

abbrev items_in : List (List ℕ) → List CarryTree → LoopTree → List LoopTree → List Place
items_in before [] r rs = []
items_in before (c ∷ cs) r rs = at_name (carried c) (bad_item_in rs r c || is_in before (carried c).text) ++ items_in ((carried c).text ∷ before) cs r rs

items_same : (before : List (List ℕ)) (cs : List Carry) (r : Loop) (rs : List Loop) → bad_items before cs r rs ≡ items_in before (map carry_of cs) (loop_tree r) (rounds_tree rs)
items_same before [] r rs = refl
items_same before (c ∷ cs) r rs =
    let found = λ (b : Bool) (x : Spelled) (more : List Place). at_name x (b || is_in before x.text) ++ more in
    ap (λ b. found b (spelled (table_name c)) (bad_items ((table_name c).text.items ∷ before) cs r rs)) (bad_item_same rs r c)
    ∙ ap (found (bad_item_in (rounds_tree rs) (loop_tree r) (carry_of c)) (spelled (table_name c))) (items_same ((table_name c).text.items ∷ before) cs r rs)
    ∙ ap (λ (x : Spelled). found (bad_item_in (rounds_tree rs) (loop_tree r) (carry_of c)) x (items_in (x.text ∷ before) (map carry_of cs) (loop_tree r) (rounds_tree rs))) (carried_at c)

-- ---- leaving a loop

empty_same : {A B : Type 0} (f : A → B) (xs : List A) → is_empty xs ≡ is_empty (map f xs)
empty_same f [] = refl
empty_same f (x ∷ xs) = refl

abbrev cannot_leave_in : List LoopTree → Bool
cannot_leave_in [] = true
cannot_leave_in (r ∷ rs) = not (is_empty r.carries) || not (is_empty r.reduces)

cannot_same : (rs : List Loop) → cannot_leave rs ≡ cannot_leave_in (rounds_tree rs)
cannot_same [] = refl
cannot_same (r ∷ rs) =
    ap (λ b. not b || not (is_empty r.reduces)) (empty_same carry_of r.carries) ∙ ap (λ b. not (is_empty (map carry_of r.carries)) || not b) (empty_same reduce_of r.reduces)

abbrev inner_in : List (List ℕ) → List LoopTree → List ℕ → Bool
inner_in scope [] x = false
inner_in scope (r ∷ rs) x = is_in scope x && not (is_in r.outside x)

inner_same : (scope : List (List ℕ)) (rs : List Loop) (x : List ℕ) → is_inner scope rs x ≡ inner_in scope (rounds_tree rs) x
inner_same scope [] x = refl
inner_same scope (r ∷ rs) x = refl

left_same : (w : Spot) (x : Name) → misleft (Leaves x) w ≡ at_name (spelled x) (cannot_leave_in (rounds_tree w.rounds) || inner_in w.scope (rounds_tree w.rounds) x.text.items)
left_same w x =
    ap (λ b. at_name (spelled x) (b || is_inner w.scope w.rounds x.text.items)) (cannot_same w.rounds)
    ∙ ap (λ b. at_name (spelled x) (cannot_leave_in (rounds_tree w.rounds) || b)) (inner_same w.scope w.rounds x.text.items)

abbrev lefts_in : List (List ℕ) → List Spelled → TreeSpot → List Place
lefts_in before [] v = []
lefts_in before (x ∷ xs) v =
    at_name x (any_round (λ r. is_in r.outside x.text) v.rounds || is_in v.loops x.text || has_other before x.text) ++ lefts_in (x.text ∷ before) xs v

lefts_same : (before : List (List ℕ)) (xs : List Name) (w : Spot) → bad_lefts before xs w ≡ lefts_in before (map spelled xs) (spot_tree w)
lefts_same before [] w = refl
lefts_same before (x ∷ xs) w =
    let y = x.text.items in
    let found = λ (a : Bool) (more : List Place). at_name (spelled x) (a || is_in w.loops y || has_other before y) ++ more in
    ap (λ a. found a (bad_lefts (y ∷ before) xs w)) (any_same (λ r. is_in r.outside y) (λ r. is_in r.outside y) (λ r. refl) w.rounds)
    ∙ ap (found (any_round (λ r. is_in r.outside y) (rounds_tree w.rounds))) (lefts_same (y ∷ before) xs w)

-- ---- rules

abbrev pub two : ActTree → List LoopTree → List Place
two (Assigned x) rs = at_name x (any_round (λ r. is_in r.outside x.text) rs)
two _ rs = []

abbrev pub three : ActTree → List LoopTree → List Place
three (Used x) rs = at_name x (any_round (reduces_in x.text) rs)
three (Assigned x) rs = at_name x (any_round (reduces_in x.text) rs)
three (Declared x) rs = at_name x (any_round (reduces_in x.text) rs)
three (Folded x) rs = at_name x (not (nearest_in rs x.text))
three (Left x) rs = at_name x (any_round (reduces_in x.text) rs)
three (InParallel r) rs = targets_in [] r.reduces rs
three _ rs = []

abbrev pub four : ActTree → List LoopTree → List Place
four (Written t a b) rs = at_name t (write_in rs t.text a b)
four _ rs = []

abbrev pub five : ActTree → List LoopTree → List Place
five (Read t a b) rs = at_name t (read_in rs t.text a b)
five _ rs = []

abbrev pub six : ActTree → List LoopTree → List Place
six (InParallel r) rs = items_in [] r.carries r rs
six _ rs = []

abbrev pub twelve : ActTree → TreeSpot → List Place
twelve (Left x) v = at_name x (cannot_leave_in v.rounds || inner_in v.scope v.rounds x.text)
twelve (LeftAll xs) v = lefts_in [] xs v
twelve _ v = []

-- each rule is broken at the same places
pub record SamePlaces (a : Act) (w : Spot) : Type 0 where
  pub by2 : outer_set a w ≡ two (act_tree a) (rounds_tree w.rounds)
  pub by3 : misreduced a w ≡ three (act_tree a) (rounds_tree w.rounds)
  pub by4 : miswritten a w ≡ four (act_tree a) (rounds_tree w.rounds)
  pub by5 : misread a w ≡ five (act_tree a) (rounds_tree w.rounds)
  pub by6 : miscarried a w ≡ six (act_tree a) (rounds_tree w.rounds)
  pub by12 : misleft a w ≡ twelve (act_tree a) (spot_tree w)

module _ (w : Spot) where
  abbrev reduced_at : Name → Type 0
  reduced_at x = cond (any_loop (reduced x.text.items) w.rounds) (x.place ∷ []) [] ≡ at_name (spelled x) (any_round (reduces_in x.text.items) (rounds_tree w.rounds))

  places_reduced : (x : Name) → reduced_at x
  places_reduced x = ap (at_name (spelled x)) (any_same (reduced x.text.items) (reduces_in x.text.items) (reduced_same x.text.items) w.rounds)

  pub same_places : (a : Act) → SamePlaces a w
  same_places (DeclaresTable t) = record { by2 = refl; by3 = refl; by4 = refl; by5 = refl; by6 = refl; by12 = refl }
  same_places (DeclaresFunc f) = record { by2 = refl; by3 = refl; by4 = refl; by5 = refl; by6 = refl; by12 = refl }
  same_places (DeclaresAll xs) = record { by2 = refl; by3 = refl; by4 = refl; by5 = refl; by6 = refl; by12 = refl }
  same_places (Declares x) = record { by2 = refl; by3 = places_reduced x; by4 = refl; by5 = refl; by6 = refl; by12 = refl }
  same_places (Uses x) = record { by2 = refl; by3 = places_reduced x; by4 = refl; by5 = refl; by6 = refl; by12 = refl }
  same_places (Assigns x) = record { by2 = ap (at_name (spelled x)) (any_same (λ r. is_in r.outside x.text.items) (λ r. is_in r.outside x.text.items) (λ r. refl) w.rounds); by3 = places_reduced x; by4 = refl; by5 = refl; by6 = refl; by12 = refl }
  same_places (Folds x) = record { by2 = refl; by3 = ap (λ b. at_name (spelled x) (not b)) (nearest_same w.rounds x.text.items); by4 = refl; by5 = refl; by6 = refl; by12 = refl }
  same_places (AssignsBoth x y) = record { by2 = refl; by3 = refl; by4 = refl; by5 = refl; by6 = refl; by12 = refl }
  same_places (NamesTable t) = record { by2 = refl; by3 = refl; by4 = refl; by5 = refl; by6 = refl; by12 = refl }
  same_places (ReadsCell t a b) = record { by2 = refl; by3 = refl; by4 = refl; by5 = ap (at_name (spelled t)) (read_same w.rounds t.text.items a b); by6 = refl; by12 = refl }
  same_places (WritesCell t a b) = record { by2 = refl; by3 = refl; by4 = ap (at_name (spelled t)) (write_same w.rounds t.text.items a b); by5 = refl; by6 = refl; by12 = refl }
  same_places (Calls f n) = record { by2 = refl; by3 = refl; by4 = refl; by5 = refl; by6 = refl; by12 = refl }
  same_places (Evaluates e) = record { by2 = refl; by3 = refl; by4 = refl; by5 = refl; by6 = refl; by12 = refl }
  same_places (Shows p) = record { by2 = refl; by3 = refl; by4 = refl; by5 = refl; by6 = refl; by12 = refl }
  same_places (Parallel p q r) = record { by2 = refl; by3 = targets_same [] r.reduces w.rounds; by4 = refl; by5 = refl; by6 = items_same [] r.carries r w.rounds; by12 = refl }
  same_places (Leaves x) = record { by2 = refl; by3 = places_reduced x; by4 = refl; by5 = refl; by6 = refl; by12 = left_same w x }
  same_places (LeavesAll xs) = record { by2 = refl; by3 = refl; by4 = refl; by5 = refl; by6 = refl; by12 = lefts_same [] xs w }
