-- Which functions read which tables, by trees alone.
use Rattle.std.proofs.Common.{◌≡◌, ◌<◌, ◌∷◌, [], ℕ, zero, suc, Bool, true, false, cond, List, map}
use Rattle.std.proofs.Common.{length, get_or, Option, Some, None, bytes_eq, refl, sym, subst, ap}
use Rattle.std.proofs.Common.{◌∙◌, arith}
use Rattle.std.specs.List.{Contains}
use Rattle.std.proofs.lemmas.List.{length-map, get_or-map}
use Rattle.loop_syntax.specs.declared.expression.Name.{Name}
use Rattle.loop_syntax.specs.declared.expression.Expr.{Expr}
use Rattle.loop_syntax.specs.declared.program.Func.{Func}
use Rattle.loop_syntax.specs.declared.program.Program.{Program}
use Rattle.loop_syntax.specs.Tree.{Spelled, spelled, Tree, FuncTree, ProgramTree, program_of}
use Rattle.loop_syntax.specs.Tree as tree
use Rattle.loop_rules.specs.Names.{func_of}
use Rattle.loop_rules.specs.Reading.{ReadsTable, itself, through}
use Rattle.loop_rules.specs.Sites.{Act, DeclaresTable, DeclaresFunc, DeclaresAll, Declares, Uses}
use Rattle.loop_rules.specs.Sites.{Assigns, Folds, AssignsBoth, NamesTable, ReadsCell, WritesCell}
use Rattle.loop_rules.specs.Sites.{Calls, Evaluates, Shows, Parallel, Leaves, LeavesAll, Site, in_func}
use Rattle.loop_check.proofs.TreeSites.{Read, Called, SiteTree, func_sites}
use Rattle.loop_check.proofs.TreeWalk.{act_tree, site_tree, func_same}

-- ---- sites with a tree

pub has_tree : (ss : List Site) (s : Site) → Contains ss s → Contains (map site_tree ss) (site_tree s)
has_tree ss s h =
    let low : h.0 < length ss = h.1 in
    (h.0, omega (arith, length-map ss site_tree, low), get_or-map site_tree ss h.0 s (site_tree s) low ∙ ap site_tree h.2)

-- a site of the list with that tree
pub record Stands (ss : List Site) (t : SiteTree) : Type 0 where
  pub site : Site
  pub stands : Contains ss site
  pub is : site_tree site ≡ t

pub of_tree : (ss : List Site) (t : SiteTree) → Contains (map site_tree ss) t → Stands ss t
of_tree ss t h = go ss h.0 h.1 h.2
  where
    go : (ss : List Site) (k : ℕ) → k < length (map site_tree ss) → get_or (map site_tree ss) k t ≡ t → Stands ss t
    go [] k lt e = absurd (omega arith)
    go (s ∷ ss) zero lt e = record { site = s; stands = (0, omega arith, refl); is = e }
    go (s ∷ ss) (suc k) lt e =
        let more : Stands ss t = go ss k (omega arith) e in
        record { site = more.site; stands = (suc more.stands.0, (let low : more.stands.0 < length ss = more.stands.1 in omega arith), more.stands.2); is = more.is }

-- ---- what a site does

pub record Callee (a : Act) (f : Spelled) : Type 0 where
  pub callee : Name
  pub arguments : ℕ
  pub is_call : a ≡ Calls callee arguments
  pub named : spelled callee ≡ f

record Cell (a : Act) (t : Spelled) : Type 0 where
  table : Name
  at_row : Expr
  at_column : Expr
  is_read : a ≡ ReadsCell table at_row at_column
  named : spelled table ≡ t

pub callee_of : (a : Act) (g : Spelled) → act_tree a ≡ Called g → Callee a g
callee_of (DeclaresTable t) g e = cc
callee_of (DeclaresFunc f) g e = cc
callee_of (DeclaresAll xs) g e = cc
callee_of (Declares x) g e = cc
callee_of (Uses x) g e = cc
callee_of (Assigns x) g e = cc
callee_of (Folds x) g e = cc
callee_of (AssignsBoth x y) g e = cc
callee_of (NamesTable t) g e = cc
callee_of (ReadsCell t a b) g e = cc
callee_of (WritesCell t a b) g e = cc
callee_of (Calls f n) g e = record { callee = f; arguments = n; is_call = refl; named = cc }
callee_of (Evaluates a) g e = cc
callee_of (Shows p) g e = cc
callee_of (Parallel p q r) g e = cc
callee_of (Leaves x) g e = cc
callee_of (LeavesAll xs) g e = cc

cell_of : (a : Act) (u : Spelled) (i j : Tree) → act_tree a ≡ Read u i j → Cell a u
cell_of (DeclaresTable t) u i j e = cc
cell_of (DeclaresFunc f) u i j e = cc
cell_of (DeclaresAll xs) u i j e = cc
cell_of (Declares x) u i j e = cc
cell_of (Uses x) u i j e = cc
cell_of (Assigns x) u i j e = cc
cell_of (Folds x) u i j e = cc
cell_of (AssignsBoth x y) u i j e = cc
cell_of (NamesTable t) u i j e = cc
cell_of (ReadsCell t a b) u i j e = record { table = t; at_row = a; at_column = b; is_read = refl; named = cc }
cell_of (WritesCell t a b) u i j e = cc
cell_of (Calls f n) u i j e = cc
cell_of (Evaluates a) u i j e = cc
cell_of (Shows p) u i j e = cc
cell_of (Parallel p q r) u i j e = cc
cell_of (Leaves x) u i j e = cc
cell_of (LeavesAll xs) u i j e = cc

-- ---- functions

abbrev func_in : List FuncTree → List ℕ → Option FuncTree
func_in [] x = None
func_in (f ∷ fs) x = cond (bytes_eq f.name.text x) (Some f) (func_in fs x)

abbrev func_tree : Option Func → Option FuncTree
func_tree None = None
func_tree (Some f) = Some (tree.func_of f)

func_same_name : (fs : List Func) (x : List ℕ) → func_tree (func_of fs x) ≡ func_in (map tree.func_of fs) x
func_same_name [] x = refl
func_same_name (f ∷ fs) x = go (func_same_name fs x) (bytes_eq f.name.text.items x)
  where
    go : func_tree (func_of fs x) ≡ func_in (map tree.func_of fs) x → (b : Bool) → func_tree (cond b (Some f) (func_of fs x)) ≡ cond b (Some (tree.func_of f)) (func_in (map tree.func_of fs) x)
    go h true = refl
    go h false = h

-- a function of that name with that tree
record Named (fs : List Func) (x : List ℕ) (t : FuncTree) : Type 0 where
  func : Func
  found : func_of fs x ≡ Some func
  is : tree.func_of func ≡ t

func_named : (fs : List Func) (x : List ℕ) (t : FuncTree) → func_tree (func_of fs x) ≡ Some t → Named fs x t
func_named fs x t e = go (func_of fs x) refl e
  where
    go : (o : Option Func) → func_of fs x ≡ o → func_tree o ≡ Some t → Named fs x t
    go None is e = cc
    go (Some f) is e = record { func = f; found = is; is = cc }

module _ (p q : Program) (same : program_of p ≡ program_of q) where
  other_func : (x : List ℕ) (g : Func) → func_of p.funcs.items x ≡ Some g → Named q.funcs.items x (tree.func_of g)
  other_func x g is =
      let funcs : map tree.func_of p.funcs.items ≡ map tree.func_of q.funcs.items = ap (λ (t : ProgramTree). t.funcs) same in
      func_named q.funcs.items x (tree.func_of g)
      (func_same_name q.funcs.items x ∙ ap (λ fs. func_in fs x) (sym funcs) ∙ sym (func_same_name p.funcs.items x) ∙ ap func_tree is)

  other_site : (g h : Func) → tree.func_of h ≡ tree.func_of g → (s : Site) → Contains (in_func p g) s → Stands (in_func q h) (site_tree s)
  other_site g h is s k =
      let sites : map site_tree (in_func p g) ≡ map site_tree (in_func q h) = func_same p g ∙ ap func_sites (sym is) ∙ sym (func_same q h) in
      of_tree (in_func q h) (site_tree s) (subst (λ (ts : List SiteTree). Contains ts (site_tree s)) sites (has_tree (in_func p g) s k))

  read_again : (f t : List ℕ) (g : Func) (s : Site) (u : Spelled) (i j : Tree) → u.text ≡ t → func_of q.funcs.items f ≡ Some g → Contains (in_func q g) s → act_tree s.act ≡ Read u i j → ReadsTable q f t
  read_again f t g s u i j text found stands is =
      let cell : Cell s.act u = cell_of s.act u i j is in
      let here : Contains (in_func q g) (record { act = ReadsCell cell.table cell.at_row cell.at_column; spot = s.spot }) =
      subst (λ (a : Act). Contains (in_func q g) (record { act = a; spot = s.spot })) cell.is_read stands in
      subst (λ (x : List ℕ). ReadsTable q f x) (ap (λ (x : Spelled). x.text) cell.named ∙ text) (itself f g s.spot cell.table cell.at_row cell.at_column found here)

  call_again : (f t : List ℕ) (g : Func) (s : Site) (u : Spelled) → func_of q.funcs.items f ≡ Some g → Contains (in_func q g) s → act_tree s.act ≡ Called u → ReadsTable q u.text t → ReadsTable q f t
  call_again f t g s u found stands is reads =
      let call : Callee s.act u = callee_of s.act u is in
      let here : Contains (in_func q g) (record { act = Calls call.callee call.arguments; spot = s.spot }) =
      subst (λ (a : Act). Contains (in_func q g) (record { act = a; spot = s.spot })) call.is_call stands in
      through f g s.spot call.callee call.arguments t found here (subst (λ (x : List ℕ). ReadsTable q x t) (sym (ap (λ (x : Spelled). x.text) call.named)) reads)

  -- a table that a function reads is read in the other program
  pub reads_too : (f t : List ℕ) → ReadsTable p f t → ReadsTable q f t
  reads_too _ _ (itself f g w t a b found stands) =
      let there : Named q.funcs.items f (tree.func_of g) = other_func f g found in
      let s : Stands (in_func q there.func) (site_tree (record { act = ReadsCell t a b; spot = w })) = other_site g there.func there.is (record { act = ReadsCell t a b; spot = w }) stands in
      read_again f t.text.items there.func s.site (spelled t) (tree.tree_of a) (tree.tree_of b) refl there.found s.stands (ap (λ (x : SiteTree). x.act) s.is)
  reads_too _ _ (through f g w h n t found stands reads) =
      let there : Named q.funcs.items f (tree.func_of g) = other_func f g found in
      let s : Stands (in_func q there.func) (site_tree (record { act = Calls h n; spot = w })) = other_site g there.func there.is (record { act = Calls h n; spot = w }) stands in
      call_again f t there.func s.site (spelled h) there.found s.stands (ap (λ (x : SiteTree). x.act) s.is) (reads_too h.text.items t reads)
