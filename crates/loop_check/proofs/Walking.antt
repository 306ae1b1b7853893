-- The walk over statements: where it stands after loops, and what it found.
use Rattle.std.proofs.Common.{◌≡◌, ◌++◌, ◌∷◌, [], ℕ, zero, suc, List, take, length, Option, sym, ap}
use Rattle.std.proofs.Common.{◌∙◌, refl, Vec}
use Rattle.std.specs.declared.alloc.Global.{Global}
use Rattle.std.specs.Borrow.{Bor}
use Rattle.loop_syntax.specs.declared.Name.{Name}
use Rattle.loop_syntax.specs.declared.Expr.{Expr}
use Rattle.loop_syntax.specs.declared.App.{App}
use Rattle.loop_syntax.specs.declared.ParLoop.{ParLoop}
use Rattle.loop_syntax.specs.declared.Stmt.{Stmt}
use Rattle.loop_syntax.specs.declared.Stmt.TheVariants.{Put, Loop, Par, Both}
use Rattle.loop_rules.specs.declared.rule.Rule.TheVariants.{OuterVariables, Reductions, TableWrites}
use Rattle.loop_rules.specs.declared.rule.Rule.TheVariants.{CarryLists, Leaves}
use Rattle.loop_rules.specs.declared.fault.Fault.{Fault}
use Rattle.loop_rules.specs.Sites.{Site, Spot, site, Uses, Declares, Assigns, WritesCell, Parallel}
use Rattle.loop_rules.specs.Sites.{LeavesAll, in_whole, in_app, in_carries, in_stmt, in_list}
use Rattle.loop_rules.specs.Sites.{in_loop, in_par, the_loop}
use Rattle.loop_rules.specs.Reductions.{outer_set, misreduced}
use Rattle.loop_rules.specs.Carries.{miswritten, miscarried}
use Rattle.loop_rules.specs.Leaves.{misleft}
use Rattle.loop_rules.specs.Targets.{targets_list}
use Rattle.loop_rules.specs.Search.{lowest, lowest_in}
use Rattle.loop_rules.proofs.Walking as walking
use Rattle.loop_rules.proofs.Walking.{two_parts, site_first, in_looped, in_parallel}
use Rattle.loop_check.specs.declared.reader.Reader.{Reader}
use Rattle.loop_check.specs.Search.{checked_rules}
use Rattle.loop_check.specs.Walk.{texts_of}
use Rattle.loop_check.proofs.Apart.{bare, bare_apart}

-- ---- statements without blocks

module _ (rs : List Reader) (w : Spot) (f0 f1 f2 f3 f4 : Option Fault) where
  pub put_found : (t : Name) (a b e : Expr) → f1 ≡ lowest f0 TableWrites (miswritten (WritesCell t a b) w)
      → f2 ≡ lowest_in (checked_rules rs) f1 (in_whole w a) → f3 ≡ lowest_in (checked_rules rs) f2 (in_whole w b)
      → f4 ≡ lowest_in (checked_rules rs) f3 (in_whole w e) → f4 ≡ lowest_in (checked_rules rs) f0 (in_stmt w (Put t a b e))
  put_found t a b e q r u v = walking.put_found (checked_rules rs) w f0 f0 f1 f2 f3 f4 t a b e refl q r u v

  pub both_found : (x : Name) (f : App) (y : Name) (g : App)
      → f1 ≡ lowest (lowest f0 OuterVariables (outer_set (Assigns x) w)) Reductions (misreduced (Assigns x) w) → f2 ≡ lowest_in (checked_rules rs) f1 (in_app w f)
      → f3 ≡ lowest (lowest f2 OuterVariables (outer_set (Assigns y) w)) Reductions (misreduced (Assigns y) w) → f4 ≡ lowest_in (checked_rules rs) f3 (in_app w g)
      → f4 ≡ lowest_in (checked_rules rs) f0 (in_stmt w (Both x f y g))
  both_found x f y g p q r u = walking.both_found (checked_rules rs) w f0 f1 f2 f3 f3 f4 x f y g p q r refl u

  pub bounds_found : (x : Name) (a b : Expr) → f1 ≡ lowest f0 Reductions (misreduced (Uses x) w) → f2 ≡ lowest_in (checked_rules rs) f1 (in_whole w a)
      → f3 ≡ lowest_in (checked_rules rs) f2 (in_whole w b) → f3 ≡ lowest_in (checked_rules rs) f0 (site w (Declares x) ∷ in_whole w a ++ in_whole w b)
  bounds_found x a b p q r = walking.bounds_found (checked_rules rs) w f0 f1 f2 f3 f3 f3 x a b p q r

-- ---- a loop

pub texts_more : (xs : List (Bor (List ℕ))) (x : Bor (List ℕ)) → texts_of (xs ++ x ∷ []) ≡ texts_of xs ++ x.now ∷ []
texts_more [] x = refl
texts_more (y ∷ ys) x = ap (λ l. y.now ∷ l) (texts_more ys x)

pub texts_take : (n : ℕ) (xs : List (Bor (List ℕ))) → texts_of (take n xs) ≡ take n (texts_of xs)
texts_take zero xs = refl
texts_take (suc n) [] = refl
texts_take (suc n) (y ∷ ys) = ap (λ l. y.now ∷ l) (texts_take n ys)

pub texts_length : (xs : List (Bor (List ℕ))) → length (texts_of xs) ≡ length xs
texts_length [] = refl
texts_length (y ∷ ys) = ap suc (texts_length ys)

pub looped_found : (rs : List Reader) (w : Spot) (x : Name) (a b : Expr) (body : Vec Stmt Global) (f0 f1 f2 : Option Fault)
    → f1 ≡ lowest_in (checked_rules rs) f0 (site w (Declares x) ∷ in_whole w a ++ in_whole w b)
    → f2 ≡ lowest_in (checked_rules rs) f1 (in_list (in_loop w x) body.items) → f2 ≡ lowest_in (checked_rules rs) f0 (in_stmt w (Loop x a b body))
looped_found rs w x a b body f0 f1 f2 p q =
    two_parts (checked_rules rs) f0 f1 f2 (site w (Declares x) ∷ in_whole w a ++ in_whole w b) (in_list (in_loop w x) body.items) p q
    ∙ ap (lowest_in (checked_rules rs) f0) (sym (in_looped w x a b body))

pub par_found : (rs : List Reader) (w : Spot) (l : ParLoop) (f0 f1 f2 f3 f4 f5 : Option Fault)
    → let r = the_loop w l.var l.carries.items l.reduces.items in
    f1 ≡ lowest (lowest f0 Reductions (misreduced (Parallel l.place l.carry_place r) w)) CarryLists (miscarried (Parallel l.place l.carry_place r) w)
    → f2 ≡ lowest f1 Leaves (misleft (LeavesAll (targets_list l.body.items)) w)
    → f3 ≡ lowest_in (checked_rules rs) f2 (site w (Declares l.var) ∷ in_whole w l.from ++ in_whole w l.to)
    → f4 ≡ lowest_in (checked_rules rs) f3 (in_carries w l.carries.items)
    → f5 ≡ lowest_in (checked_rules rs) f4 (in_list (bare (in_par w l.var l.carries.items l.reduces.items)) l.body.items)
    → f5 ≡ lowest_in (checked_rules rs) f0 (in_stmt w (Par l))
par_found rs w l f0 f1 f2 f3 f4 f5 p o q r u =
    let v : Spot = in_par w l.var l.carries.items l.reduces.items in
    let s : Site = site w (Parallel l.place l.carry_place (the_loop w l.var l.carries.items l.reduces.items)) in
    let bounds : List Site = site w (Declares l.var) ∷ in_whole w l.from ++ in_whole w l.to in
    let carried : List Site = in_carries w l.carries.items in
    let body : List Site = in_list v l.body.items in
    let left : Site = site w (LeavesAll (targets_list l.body.items)) in
    site_first (checked_rules rs) f0 f1 f5 s (left ∷ (bounds ++ (carried ++ body))) p
    (site_first (checked_rules rs) f1 f2 f5 left (bounds ++ (carried ++ body)) o
    (two_parts (checked_rules rs) f2 f3 f5 bounds (carried ++ body) q (two_parts (checked_rules rs) f3 f4 f5 carried body r (u ∙ sym (bare_apart rs f4 v l.body.items)))))
    ∙ ap (lowest_in (checked_rules rs) f0) (sym (in_parallel w l))
