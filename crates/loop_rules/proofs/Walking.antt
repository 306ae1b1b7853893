-- The walk over statements: sites in order, and where it stands after them.
use Rattle.std.proofs.Common.{◌≡◌, ◌<◌, ◌+◌, ◌++◌, ◌∷◌, [], ℕ, suc, List, take, drop, drop-cons}
use Rattle.std.proofs.Common.{add-one, length, get_or, Option, Some, None, MatchOption, Vec, Result}
use Rattle.std.proofs.Common.{Ok, Err, IfOk, refl, sym, ap, ◌∙◌, append_assoc, arith}
use Rattle.std.proofs.lemmas.List.{append-nil}
use Rattle.std.proofs.Math.Seq.{take-append_seam}
use Rattle.std.specs.declared.alloc.Global.{Global}
use Rattle.loop_syntax.specs.declared.Name.{Name}
use Rattle.loop_syntax.specs.declared.Expr.{Expr}
use Rattle.loop_syntax.specs.declared.App.{App}
use Rattle.loop_syntax.specs.declared.ParLoop.{ParLoop}
use Rattle.loop_syntax.specs.declared.Stmt.{Stmt, Row_of-Stmt, end_of-Stmt, more_of-Stmt}
use Rattle.loop_syntax.specs.declared.Stmt.{items-the_row-Stmt, items_hidden-the_row-Stmt-0}
use Rattle.loop_syntax.specs.declared.Stmt.TheBlock.{hidden-the_row-Stmt-0}
use Rattle.loop_syntax.specs.declared.Stmt.TheVariants.{Let, Put, If, While, Loop, Par, Both}
use Rattle.loop_rules.specs.declared.fault.Fault.{Fault}
use Rattle.loop_rules.specs.Sites.{Site, Spot, site, Declares, Assigns, AssignsBoth, NamesTable}
use Rattle.loop_rules.specs.Sites.{WritesCell, Parallel, LeavesAll, in_whole, in_app, in_carries}
use Rattle.loop_rules.specs.Sites.{in_stmt, in_all, in_list, in_loop, in_par, the_loop, spot_after}
use Rattle.loop_rules.specs.Sites.{spot_of_list}
use Rattle.loop_rules.specs.Targets.{targets_in, targets_all, targets_list}
use Rattle.loop_rules.specs.Search.{Asked, lowest_at, lowest_in, resolved_rules}
use Rattle.loop_rules.proofs.Apart.{bare, rounds_apart}
use Rattle.loop_rules.proofs.Searching.{lowest_in_append}

-- ---- parts in order

pub two_parts : (rules : List Asked) (f g h : Option Fault) (xs ys : List Site) → g ≡ lowest_in rules f xs → h ≡ lowest_in rules g ys → h ≡ lowest_in rules f (xs ++ ys)
two_parts rules f g h xs ys p q = q ∙ ap (λ b. lowest_in rules b ys) p ∙ sym (lowest_in_append rules f xs ys)

pub site_first : (rules : List Asked) (f g h : Option Fault) (s : Site) (xs : List Site) → g ≡ lowest_at rules f s → h ≡ lowest_in rules g xs → h ≡ lowest_in rules f (s ∷ xs)
site_first rules f g h s xs p q = q ∙ ap (λ b. lowest_in rules b xs) p

module _ (rules : List Asked) (w : Spot) (f0 f1 f2 f3 f4 f5 : Option Fault) where
  pub put_found : (t : Name) (a b e : Expr) → f1 ≡ lowest_at rules f0 (site w (NamesTable t)) → f2 ≡ lowest_at rules f1 (site w (WritesCell t a b))
      → f3 ≡ lowest_in rules f2 (in_whole w a) → f4 ≡ lowest_in rules f3 (in_whole w b) → f5 ≡ lowest_in rules f4 (in_whole w e) → f5 ≡ lowest_in rules f0 (in_stmt w (Put t a b e))
  put_found t a b e p q r u v =
      let rest : List Site = in_whole w a ++ (in_whole w b ++ in_whole w e) in
      site_first rules f0 f1 f5 (site w (NamesTable t)) (site w (WritesCell t a b) ∷ rest) p
      (site_first rules f1 f2 f5 (site w (WritesCell t a b)) rest q
      (two_parts rules f2 f3 f5 (in_whole w a) (in_whole w b ++ in_whole w e) r (two_parts rules f3 f4 f5 (in_whole w b) (in_whole w e) u v)))

  pub both_found : (x : Name) (f : App) (y : Name) (g : App) → f1 ≡ lowest_at rules f0 (site w (Assigns x)) → f2 ≡ lowest_in rules f1 (in_app w f)
      → f3 ≡ lowest_at rules f2 (site w (Assigns y)) → f4 ≡ lowest_at rules f3 (site w (AssignsBoth x y)) → f5 ≡ lowest_in rules f4 (in_app w g) → f5 ≡ lowest_in rules f0 (in_stmt w (Both x f y g))
  both_found x f y g p q r u v =
      let rest : List Site = site w (Assigns y) ∷ site w (AssignsBoth x y) ∷ in_app w g in
      site_first rules f0 f1 f5 (site w (Assigns x)) (in_app w f ++ rest) p
      (two_parts rules f1 f2 f5 (in_app w f) rest q
      (site_first rules f2 f3 f5 (site w (Assigns y)) (site w (AssignsBoth x y) ∷ in_app w g) r (site_first rules f3 f4 f5 (site w (AssignsBoth x y)) (in_app w g) u v)))

  pub bounds_found : (x : Name) (a b : Expr) → f1 ≡ lowest_at rules f0 (site w (Declares x)) → f2 ≡ lowest_in rules f1 (in_whole w a) → f3 ≡ lowest_in rules f2 (in_whole w b)
      → f3 ≡ lowest_in rules f0 (site w (Declares x) ∷ in_whole w a ++ in_whole w b)
  bounds_found x a b p q r =
      site_first rules f0 f1 f3 (site w (Declares x)) (in_whole w a ++ in_whole w b) p (two_parts rules f1 f2 f3 (in_whole w a) (in_whole w b) q r)

-- ---- blocks as lists

pub rows_list : {m : _} (w : Spot) (row : Row_of-Stmt m) → in_all w row ≡ in_list w (items-the_row-Stmt _ row)
rows_list w end_of-Stmt = refl
rows_list w (more_of-Stmt b rest) = ap (λ r. in_stmt w b ++ r) (rows_list (spot_after w b) rest)

pub rows_targets : {m : _} (row : Row_of-Stmt m) → targets_all row ≡ targets_list (items-the_row-Stmt _ row)
rows_targets end_of-Stmt = refl
rows_targets (more_of-Stmt b rest) = ap (λ r. targets_in b ++ r) (rows_targets rest)

pub vec_targets : (v : Vec Stmt Global) → targets_all (hidden-the_row-Stmt-0 v) ≡ targets_list v.items
vec_targets v = rows_targets (hidden-the_row-Stmt-0 v) ∙ ap targets_list (items_hidden-the_row-Stmt-0 v)

pub vec_list : (w : Spot) (v : Vec Stmt Global) → in_all w (hidden-the_row-Stmt-0 v) ≡ in_list w v.items
vec_list w v = rows_list w (hidden-the_row-Stmt-0 v) ∙ ap (in_list w) (items_hidden-the_row-Stmt-0 v)

pub in_if : (w : Spot) (e : Expr) (body other : Vec Stmt Global) → in_stmt w (If e body other) ≡ in_whole w e ++ (in_list w body.items ++ in_list w other.items)
in_if w e body other =
    ap (λ r. in_whole w e ++ (r ++ in_all w (hidden-the_row-Stmt-0 other))) (vec_list w body)
    ∙ ap (λ r. in_whole w e ++ (in_list w body.items ++ r)) (vec_list w other)

pub in_while : (w : Spot) (e : Expr) (body : Vec Stmt Global) → in_stmt w (While e body) ≡ in_whole w e ++ in_list w body.items
in_while w e body = ap (λ r. in_whole w e ++ r) (vec_list w body)

pub in_looped : (w : Spot) (x : Name) (a b : Expr) (body : Vec Stmt Global) → in_stmt w (Loop x a b body) ≡ (site w (Declares x) ∷ in_whole w a ++ in_whole w b) ++ in_list (in_loop w x) body.items
in_looped w x a b body =
    ap (λ r. site w (Declares x) ∷ in_whole w a ++ (in_whole w b ++ r)) (vec_list (in_loop w x) body)
    ∙ ap (λ r. site w (Declares x) ∷ r) (sym (append_assoc (in_whole w a) (in_whole w b) (in_list (in_loop w x) body.items)))

pub in_parallel : (w : Spot) (l : ParLoop) → in_stmt w (Par l)
    ≡ site w (Parallel l.place l.carry_place (the_loop w l.var l.carries.items l.reduces.items))
    ∷ site w (LeavesAll (targets_list l.body.items))
    ∷ ((site w (Declares l.var) ∷ in_whole w l.from ++ in_whole w l.to) ++ (in_carries w l.carries.items ++ in_list (in_par w l.var l.carries.items l.reduces.items) l.body.items))
in_parallel w l =
    let p = site w (Parallel l.place l.carry_place (the_loop w l.var l.carries.items l.reduces.items)) in
    let v = in_par w l.var l.carries.items l.reduces.items in
    let q = site w (LeavesAll (targets_list l.body.items)) in
    ap (λ ts. p ∷ site w (LeavesAll ts) ∷ site w (Declares l.var) ∷ in_whole w l.from ++ (in_whole w l.to ++ (in_carries w l.carries.items ++ in_all v (hidden-the_row-Stmt-0 l.body)))) (vec_targets l.body)
    ∙ ap (λ r. p ∷ q ∷ site w (Declares l.var) ∷ in_whole w l.from ++ (in_whole w l.to ++ (in_carries w l.carries.items ++ r))) (vec_list v l.body)
    ∙ ap (λ r. p ∷ q ∷ site w (Declares l.var) ∷ r) (sym (append_assoc (in_whole w l.from) (in_whole w l.to) (in_carries w l.carries.items ++ in_list v l.body.items)))

-- ---- a list of statements

module _ (rules : List Asked) (w : Spot) (f g : Option Fault) (body : List Stmt) (i : ℕ) (s : Stmt) (v : Spot) (lt : i < length body) (is : s ≡ get_or body i s) where
  pub list_found : g ≡ lowest_in rules f (in_stmt w s) → v ≡ spot_after w s → lowest_in rules g (in_list v (drop (i + 1) body)) ≡ lowest_in rules f (in_list w (drop i body))
  list_found p q =
      rw (add-one, drop-cons body i s lt, ← is, p, q) (sym (lowest_in_append rules f (in_stmt w s) (in_list (spot_after w s) (drop (suc i) body))))

module _ (w : Spot) (body : List Stmt) (i : ℕ) (s : Stmt) (v : Spot) (lt : i < length body) (is : s ≡ get_or body i s) where
  pub list_stands : v ≡ spot_after w s → spot_of_list v (drop (i + 1) body) ≡ spot_of_list w (drop i body)
  list_stands q = rw (add-one, drop-cons body i s lt, ← is, q) refl

-- ---- where a block ends

abbrev let_of : Stmt → List (List ℕ)
let_of (Let x e) = x.text.items ∷ []
let_of _ = []

abbrev pub lets : List Stmt → List (List ℕ)
lets [] = []
lets (s ∷ ss) = let_of s ++ lets ss

more_scope : (w : Spot) → record w { scope = w.scope ++ [] } ≡ w
more_scope w = ap {A = List (List ℕ)} {B = Spot} (λ sc. record w { scope = sc }) (append-nil w.scope)

spot_after_more : (w : Spot) (s : Stmt) → spot_after w s ≡ record w { scope = w.scope ++ let_of s }
spot_after_more w (Let x e) = refl
spot_after_more w _ = sym (more_scope w)

pub spot_of_list_more : (w : Spot) (ss : List Stmt) → spot_of_list w ss ≡ record w { scope = w.scope ++ lets ss }
spot_of_list_more w [] = sym (more_scope w)
spot_of_list_more w (s ∷ ss) =
    ap (λ v. spot_of_list v ss) (spot_after_more w s)
    ∙ spot_of_list_more (record w { scope = w.scope ++ let_of s }) ss
    ∙ ap {A = List (List ℕ)} {B = Spot} (λ sc. record w { scope = sc }) (append_assoc w.scope (let_of s) (lets ss))

pub block_left : (w v : Spot) (ss : List Stmt) (sc : List (List ℕ)) → v ≡ spot_of_list w ss → sc ≡ take (length w.scope) v.scope → record v { scope = sc } ≡ w
block_left w v ss sc e h =
    let p : v ≡ record w { scope = w.scope ++ lets ss } = e ∙ spot_of_list_more w ss in
    let q : sc ≡ w.scope = h ∙ ap {A = Spot} {B = List (List ℕ)} (λ u. take (length w.scope) u.scope) p ∙ take-append_seam w.scope (lets ss) in
    ap {A = Spot} {B = Spot} (λ u. record u { scope = sc }) p ∙ ap {A = List (List ℕ)} {B = Spot} (λ r. record w { scope = r }) q

pub loop_left : (w v : Spot) (x : Name) (ss : List Stmt) (sc lp : List (List ℕ)) → v ≡ spot_of_list (in_loop w x) ss
    → sc ≡ take (length w.scope) v.scope → lp ≡ take (length w.loops) v.loops → record v { scope = sc; loops = lp } ≡ w
loop_left w v x ss sc lp e h k =
    let u : Spot = in_loop w x in
    let p : v ≡ record u { scope = u.scope ++ lets ss } = e ∙ spot_of_list_more u ss in
    let q : sc ≡ w.scope =
    h ∙ ap {A = Spot} {B = List (List ℕ)} (λ r. take (length w.scope) r.scope) p ∙ ap (take (length w.scope)) (append_assoc w.scope (x.text.items ∷ []) (lets ss))
    ∙ take-append_seam w.scope (x.text.items ∷ [] ++ lets ss) in
    let r : lp ≡ w.loops = k ∙ ap {A = Spot} {B = List (List ℕ)} (λ r. take (length w.loops) r.loops) p ∙ take-append_seam w.loops (x.text.items ∷ []) in
    ap {A = Spot} {B = Spot} (λ u. record u { scope = sc; loops = lp }) p
    ∙ ap {A = List (List ℕ)} {B = Spot} (λ r. record w { scope = r; loops = lp }) q
    ∙ ap {A = List (List ℕ)} {B = Spot} (λ r. record w { loops = r }) r

pub ok_map : {A F : Type 0} {P Q : A → Type 0} (r : Result A F) → ((x : A) → P x → Q x) → IfOk r P → IfOk r Q
ok_map (Ok x) f h = f x h
ok_map (Err e) f h = tt

-- ---- the end of a `par`

pub popped : {A : Type 0} (o : Option A) (n m : ℕ) → MatchOption o ((n ≡ 0) × (m ≡ 0)) (λ x. m + 1 ≡ n) → 0 < n → suc m ≡ n
popped None n m h p = absurd (omega arith)
popped (Some x) n m h p = omega arith

pub par_left : (w v : Spot) (d : ℕ) → v ≡ record w { depth = suc w.depth } → suc d ≡ v.depth → record v { depth = d } ≡ w
par_left w v d e h =
    let p : suc d ≡ suc w.depth = h ∙ ap {A = Spot} {B = ℕ} (λ u. u.depth) e in
    let q : d ≡ w.depth = omega arith in
    ap {A = Spot} {B = Spot} (λ u. record u { depth = d }) e ∙ ap {A = ℕ} {B = Spot} (λ n. record w { depth = n }) q

pub par_found : (w : Spot) (l : ParLoop) (f0 f1 f2 f3 f4 : Option Fault)
    → f1 ≡ lowest_at resolved_rules f0 (site w (Parallel l.place l.carry_place (the_loop w l.var l.carries.items l.reduces.items)))
    → f2 ≡ lowest_in resolved_rules f1 (site w (Declares l.var) ∷ in_whole w l.from ++ in_whole w l.to)
    → f3 ≡ lowest_in resolved_rules f2 (in_carries w l.carries.items)
    → f4 ≡ lowest_in resolved_rules f3 (in_list (bare (in_par w l.var l.carries.items l.reduces.items)) l.body.items)
    → f4 ≡ lowest_in resolved_rules f0 (in_stmt w (Par l))
par_found w l f0 f1 f2 f3 f4 p q r u =
    let v : Spot = in_par w l.var l.carries.items l.reduces.items in
    let s : Site = site w (Parallel l.place l.carry_place (the_loop w l.var l.carries.items l.reduces.items)) in
    let bounds : List Site = site w (Declares l.var) ∷ in_whole w l.from ++ in_whole w l.to in
    let carried : List Site = in_carries w l.carries.items in
    let body : List Site = in_list v l.body.items in
    let left : Site = site w (LeavesAll (targets_list l.body.items)) in
    site_first resolved_rules f0 f1 f4 s (left ∷ (bounds ++ (carried ++ body))) p
    (site_first resolved_rules f1 f1 f4 left (bounds ++ (carried ++ body)) refl
    (two_parts resolved_rules f1 f2 f4 bounds (carried ++ body) q (two_parts resolved_rules f2 f3 f4 carried body r (u ∙ sym (rounds_apart f3 v l.body.items)))))
    ∙ ap (lowest_in resolved_rules f0) (sym (in_parallel w l))
