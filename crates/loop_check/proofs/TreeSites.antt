-- The sites of a tree, as far as the rules of disjoint writes look at them.
use Rattle.std.specs.Prelude.{ℕ, List, [], ◌∷◌, ◌++◌}
use Rattle.loop_syntax.specs.Tree.{Spelled, Tree, TInt, TVar, TCell, TRows, TCols, TNeg, TBin, RVar}
use Rattle.loop_syntax.specs.Tree.{RInt, CarryTree, CRows, CCells, ReduceTree, AppTree, Node, NLet}
use Rattle.loop_syntax.specs.Tree.{NSet, NPut, NIf, NWhile, NLoop, NPar, NFold, NCall, NBoth}
use Rattle.loop_syntax.specs.Tree.{NPrint, NEmit, NLeave, NFill, Nodes, Last, Then, TableTree}
use Rattle.loop_syntax.specs.Tree.{TInput, TMade, FuncTree, ProgramTree}
use Rattle.loop_rules.proofs.TreeRules.{texts_of}

-- a `par` round a part of a tree
pub record LoopTree : Type 0 where
  pub outside : List (List ℕ)
  pub var : List ℕ
  pub carries : List CarryTree
  pub reduces : List ReduceTree

-- what is done at a place
pub data ActTree : Type 0 where
  Declared : Spelled → ActTree
  Used : Spelled → ActTree
  Assigned : Spelled → ActTree
  Folded : Spelled → ActTree
  Read : Spelled → Tree → Tree → ActTree
  Written : Spelled → Tree → Tree → ActTree
  Called : Spelled → ActTree
  InParallel : LoopTree → ActTree
  Left : Spelled → ActTree
  LeftAll : List Spelled → ActTree
  -- what none of these rules looks at
  Other : ActTree

-- what is round a part of a tree
pub record TreeSpot : Type 0 where
  pub scope : List (List ℕ)
  pub loops : List (List ℕ)
  pub rounds : List LoopTree

pub record SiteTree : Type 0 where
  pub act : ActTree
  pub spot : TreeSpot

abbrev pub stands : TreeSpot → ActTree → SiteTree
stands v a = record { act = a; spot = v }

-- ---- expressions

abbrev pub expr_sites : TreeSpot → Tree → List SiteTree
expr_sites v (TInt n place) = []
expr_sites v (TVar x) = stands v (Used x) ∷ []
expr_sites v (TCell t a b) = stands v Other ∷ stands v (Read t a b) ∷ expr_sites v a ++ expr_sites v b
expr_sites v (TRows t) = stands v Other ∷ []
expr_sites v (TCols t) = stands v Other ∷ []
expr_sites v (TNeg a place) = expr_sites v a
expr_sites v (TBin o place a b) = expr_sites v a ++ expr_sites v b

abbrev pub whole_sites : TreeSpot → Tree → List SiteTree
whole_sites v e = stands v Other ∷ expr_sites v e

abbrev pub arg_sites : TreeSpot → List Tree → List SiteTree
arg_sites v [] = []
arg_sites v (e ∷ es) = whole_sites v e ++ arg_sites v es

abbrev pub app_sites : TreeSpot → AppTree → List SiteTree
app_sites v f = stands v (Called f.callee) ∷ arg_sites v f.args

abbrev pub carry_sites : TreeSpot → List CarryTree → List SiteTree
carry_sites v [] = []
carry_sites v (CRows t i ∷ cs) = stands v Other ∷ carry_sites v cs
carry_sites v (CCells t (RVar k) j ∷ cs) = stands v Other ∷ stands v (Used k) ∷ carry_sites v cs
carry_sites v (CCells t (RInt n) j ∷ cs) = stands v Other ∷ carry_sites v cs

-- ---- statements

abbrev pub with_var : TreeSpot → Spelled → TreeSpot
with_var v x = record v { scope = v.scope ++ x.text ∷ [] }

abbrev pub with_loop : TreeSpot → Spelled → TreeSpot
with_loop v x = record v { scope = v.scope ++ x.text ∷ []; loops = v.loops ++ x.text ∷ [] }

abbrev pub the_round : TreeSpot → Spelled → List CarryTree → List ReduceTree → LoopTree
the_round v x carries reduces = record { outside = v.scope; var = x.text; carries = carries; reduces = reduces }

abbrev pub with_par : TreeSpot → Spelled → List CarryTree → List ReduceTree → TreeSpot
with_par v x carries reduces = record {
  scope = v.scope ++ x.text ∷ [];
  loops = v.loops ++ x.text ∷ [];
  rounds = the_round v x carries reduces ∷ v.rounds;
}

abbrev pub behind : TreeSpot → Node → TreeSpot
behind v (NLet x e) = with_var v x
behind v _ = v

-- the targets of the `leave` statements whose nearest `par` is the one round these
abbrev mutual
  pub left_in : Node → List Spelled
  left_in (NLeave x e) = x ∷ []
  left_in (NIf e body other) = left_all body ++ left_all other
  left_in (NWhile e body) = left_all body
  left_in (NLoop x a b body) = left_all body
  left_in _ = []

  pub left_all : Nodes → List Spelled
  left_all Last = []
  left_all (Then n ns) = left_in n ++ left_all ns

abbrev mutual
  pub node_sites : TreeSpot → Node → List SiteTree
  node_sites v (NLet x e) = stands v (Declared x) ∷ whole_sites v e
  node_sites v (NSet x e) = stands v (Assigned x) ∷ whole_sites v e
  node_sites v (NPut t a b e) = stands v Other ∷ stands v (Written t a b) ∷ whole_sites v a ++ (whole_sites v b ++ whole_sites v e)
  node_sites v (NIf e body other) = whole_sites v e ++ (nodes_sites v body ++ nodes_sites v other)
  node_sites v (NWhile e body) = whole_sites v e ++ nodes_sites v body
  node_sites v (NLoop x a b body) = stands v (Declared x) ∷ whole_sites v a ++ (whole_sites v b ++ nodes_sites (with_loop v x) body)
  node_sites v (NPar h body) =
      stands v (InParallel (the_round v h.var h.carries h.reduces)) ∷ stands v (LeftAll (left_all body)) ∷ stands v (Declared h.var)
      ∷ whole_sites v h.from ++ (whole_sites v h.to ++ (carry_sites v h.carries ++ nodes_sites (with_par v h.var h.carries h.reduces) body))
  node_sites v (NFold x e) = stands v (Folded x) ∷ whole_sites v e
  node_sites v (NCall x f) = stands v (Assigned x) ∷ app_sites v f
  node_sites v (NBoth x f y g) = stands v (Assigned x) ∷ app_sites v f ++ (stands v (Assigned y) ∷ stands v Other ∷ app_sites v g)
  node_sites v (NPrint place e) = stands v Other ∷ whole_sites v e
  node_sites v (NEmit place t) = stands v Other ∷ stands v Other ∷ []
  node_sites v (NLeave x e) = stands v (Left x) ∷ whole_sites v e
  node_sites v (NFill f t r es) = []

  pub nodes_sites : TreeSpot → Nodes → List SiteTree
  nodes_sites v Last = []
  nodes_sites v (Then n ns) = node_sites v n ++ nodes_sites (behind v n) ns

abbrev pub behind_all : TreeSpot → Nodes → TreeSpot
behind_all v Last = v
behind_all v (Then n ns) = behind_all (behind v n) ns

-- ---- programs

-- where no variable is visible
abbrev pub top : TreeSpot
top = record { scope = []; loops = []; rounds = [] }

abbrev pub table_sites : TableTree → List SiteTree
table_sites (TInput t) = stands top Other ∷ []
table_sites (TMade t a b) = stands top Other ∷ whole_sites top a ++ whole_sites top b

abbrev pub tables_sites : List TableTree → List SiteTree
tables_sites [] = []
tables_sites (d ∷ ds) = table_sites d ++ tables_sites ds

abbrev pub param_sites : TreeSpot → List Spelled → List SiteTree
param_sites v [] = []
param_sites v (x ∷ xs) = stands v (Declared x) ∷ param_sites (with_var v x) xs

abbrev pub inside : FuncTree → TreeSpot
inside f = record { scope = texts_of f.params; loops = []; rounds = [] }

abbrev pub func_sites : FuncTree → List SiteTree
func_sites f =
    stands (inside f) Other ∷ param_sites top f.params ++ (nodes_sites (inside f) f.body ++ whole_sites (behind_all (inside f) f.body) f.value)

abbrev pub funcs_sites : List FuncTree → List SiteTree
funcs_sites [] = []
funcs_sites (f ∷ fs) = stands top Other ∷ func_sites f ++ funcs_sites fs

abbrev pub main_sites : Nodes → List SiteTree
main_sites body = stands top Other ∷ nodes_sites top body

abbrev pub tree_sites : ProgramTree → List SiteTree
tree_sites p = tables_sites p.tables ++ (funcs_sites p.funcs ++ main_sites p.main)
