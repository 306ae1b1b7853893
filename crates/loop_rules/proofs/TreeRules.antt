-- The first broken rule of a tree, one part after the other: the rules by trees alone.
use Rattle.std.specs.Prelude.{ℕ, suc, Bool, true, false, cond, not, ◌||◌, List, [], ◌∷◌, ◌++◌, map}
use Rattle.std.specs.Prelude.{length, drop, Option, Some, None, bytes_eq, nat_lt, nat_le, nat_eq}
use Rattle.std.specs.Prelude.{max}
use Rattle.tp_value.specs.declared.values.Place.{Place}
use Rattle.tp_value.specs.declared.limits.TheConstants.{MAX_TABLES, MAX_FUNCTIONS, MAX_PARAMETERS}
use Rattle.tp_value.specs.declared.limits.TheConstants.{MAX_DECLARED_VARIABLES}
use Rattle.tp_value.specs.declared.limits.TheConstants.{MAX_EXPRESSION_HEIGHT, MAX_PAR_NESTING}
use Rattle.tp_value.specs.declared.limits.TheConstants.{MAX_REDUCTIONS, MAX_CARRIES}
use Rattle.loop_syntax.specs.Tree.{Spelled, Tree, TInt, TVar, TCell, TRows, TCols, TNeg, TBin, RVar}
use Rattle.loop_syntax.specs.Tree.{RInt, CarryTree, CRows, CCells, ReduceTree, AppTree, ParHead}
use Rattle.loop_syntax.specs.Tree.{Node, NLet, NSet, NPut, NIf, NWhile, NLoop, NPar, NFold, NCall}
use Rattle.loop_syntax.specs.Tree.{NBoth, NPrint, NEmit, NLeave, NFill, Nodes, Last, Then}
use Rattle.loop_syntax.specs.Tree.{TableTree, TInput, TMade, FuncTree, ProgramTree}
use Rattle.loop_rules.specs.declared.rule.Rule.TheVariants.{Names, Functions, Output, LoopVariables}
use Rattle.loop_rules.specs.declared.rule.Rule.TheVariants.{Limits}
use Rattle.loop_rules.specs.declared.fault.Fault.{Fault}
use Rattle.loop_rules.specs.declared.part.Part.{Part}
use Rattle.loop_rules.specs.declared.part.Part.TheVariants.{OfSize, OfFunc, OfMain}
use Rattle.loop_rules.specs.Keeps.{in_function, in_par_of_main}
use Rattle.loop_rules.specs.Limits.{earlier}
use Rattle.loop_rules.specs.Names.{is_in}
use Rattle.loop_rules.specs.Scopes.{is_before}
use Rattle.loop_rules.specs.Search.{lowest}

-- a function's name, and how many parameters it has
pub record Sig : Type 0 where
  pub name : Spelled
  pub params : ℕ

-- what is round a part of a tree
pub record TreeSpot : Type 0 where
  pub part : Part
  pub tables : List Spelled
  pub funcs : List Sig
  pub scope : List (List ℕ)
  pub loops : List (List ℕ)
  pub depth : ℕ

abbrev pub at_name : Spelled → Bool → List Place
at_name x test = cond test (x.place ∷ []) []

abbrev pub texts_of : List Spelled → List (List ℕ)
texts_of xs = map (λ x. x.text) xs

abbrev pub sig_names : List Sig → List (List ℕ)
sig_names fs = map (λ f. f.name.text) fs

abbrev pub sig_of : List Sig → List ℕ → Option Sig
sig_of [] x = None
sig_of (f ∷ fs) x = cond (bytes_eq f.name.text x) (Some f) (sig_of fs x)

abbrev pub first_of : List Spelled → List ℕ → Option Spelled
first_of [] x = None
first_of (y ∷ ys) x = cond (bytes_eq y.text x) (Some y) (first_of ys x)

abbrev pub sig_misfits : Option Sig → ℕ → Bool
sig_misfits None n = true
sig_misfits (Some f) n = not (nat_eq f.params n)

abbrev pub is_sig_before : Option Sig → Spelled → Bool
is_sig_before None x = false
is_sig_before (Some f) x = is_before f.name.place x.place

abbrev pub is_name_by : Option Spelled → Spelled → Bool
is_name_by None x = false
is_name_by (Some t) x = not (is_before x.place t.place)

abbrev pub first_places : List Spelled → List Place
first_places [] = []
first_places (x ∷ xs) = x.place ∷ []

abbrev pub past_of : ℕ → List Spelled → List Place
past_of n xs = first_places (drop n xs)

-- ---- expressions

abbrev pub height_of : Tree → ℕ
height_of (TInt n place) = 1
height_of (TVar x) = 1
height_of (TCell t a b) = suc (max (height_of a) (height_of b))
height_of (TRows t) = 1
height_of (TCols t) = 1
height_of (TNeg a place) = suc (height_of a)
height_of (TBin o place a b) = suc (max (height_of a) (height_of b))

abbrev pub place_of : Tree → Place
place_of (TInt n place) = place
place_of (TVar x) = x.place
place_of (TCell t a b) = earlier (earlier t.place (place_of a)) (place_of b)
place_of (TRows t) = t.place
place_of (TCols t) = t.place
place_of (TNeg a place) = earlier place (place_of a)
place_of (TBin o place a b) = earlier (earlier place (place_of a)) (place_of b)

abbrev pub low_uses : TreeSpot → Option Fault → Spelled → Option Fault
low_uses v b x = lowest b Names (at_name x (not (is_in v.scope x.text)))

abbrev pub low_table : TreeSpot → Option Fault → Spelled → Option Fault
low_table v b t = lowest b Names (at_name t (not (is_in (texts_of v.tables) t.text)))

abbrev pub low_expr : TreeSpot → Option Fault → Tree → Option Fault
low_expr v b (TInt n place) = b
low_expr v b (TVar x) = low_uses v b x
low_expr v b (TCell t i j) = low_expr v (low_expr v (low_table v b t) i) j
low_expr v b (TRows t) = low_table v b t
low_expr v b (TCols t) = low_table v b t
low_expr v b (TNeg a place) = low_expr v b a
low_expr v b (TBin o place a c) = low_expr v (low_expr v b a) c

abbrev pub low_height : Option Fault → Tree → Option Fault
low_height b e = lowest b Limits (cond (nat_lt MAX_EXPRESSION_HEIGHT (height_of e)) (place_of e ∷ []) [])

abbrev pub low_whole : TreeSpot → Option Fault → Tree → Option Fault
low_whole v b e = low_expr v (low_height b e) e

abbrev pub low_args : TreeSpot → Option Fault → List Tree → Option Fault
low_args v b [] = b
low_args v b (e ∷ es) = low_args v (low_whole v b e) es

abbrev pub low_call : TreeSpot → Option Fault → Spelled → ℕ → Option Fault
low_call v b f n = lowest b Names (at_name f (sig_misfits (sig_of v.funcs f.text) n))

abbrev pub low_app : TreeSpot → Option Fault → AppTree → Option Fault
low_app v b f = low_args v (low_call v b f.callee (length f.args)) f.args

-- ---- clauses of a `par`

abbrev pub low_carries : TreeSpot → Option Fault → List CarryTree → Option Fault
low_carries v b [] = b
low_carries v b (CRows t i ∷ cs) = low_carries v (low_table v b t) cs
low_carries v b (CCells t (RVar k) j ∷ cs) = low_carries v (low_uses v (low_table v b t) k) cs
low_carries v b (CCells t (RInt n) j ∷ cs) = low_carries v (low_table v b t) cs

abbrev pub unseen : List (List ℕ) → List ReduceTree → List Place
unseen vs [] = []
unseen vs (r ∷ rs) = at_name r.target (not (is_in vs r.target.text)) ++ unseen vs rs

abbrev pub looped : List (List ℕ) → List ReduceTree → List Place
looped vs [] = []
looped vs (r ∷ rs) = at_name r.target (is_in vs r.target.text) ++ looped vs rs

abbrev pub word_of : Part → Place → List CarryTree → List Place
word_of part q [] = []
word_of part q (c ∷ cs) = in_function part q

abbrev pub carried : CarryTree → Spelled
carried (CRows t i) = t
carried (CCells t k j) = t

abbrev pub low_par : TreeSpot → Option Fault → ParHead → Option Fault
low_par v b h =
    lowest (lowest (lowest (lowest b Names (unseen v.scope h.reduces)) Functions (word_of v.part h.carry_place h.carries)) LoopVariables (looped v.loops h.reduces)) Limits
    (cond (nat_le MAX_PAR_NESTING v.depth) (h.place ∷ []) [] ++ (past_of MAX_REDUCTIONS (map (λ r. r.target) h.reduces) ++ past_of MAX_CARRIES (map carried h.carries)))

-- ---- statements

abbrev pub low_declares : TreeSpot → Option Fault → Spelled → Option Fault
low_declares v b x = lowest b Names (at_name x (is_in v.scope x.text || (is_in (texts_of v.tables) x.text || is_in (sig_names v.funcs) x.text)))

abbrev pub low_assigns : TreeSpot → Option Fault → Spelled → Option Fault
low_assigns v b x = lowest (lowest b Names (at_name x (not (is_in v.scope x.text)))) LoopVariables (at_name x (is_in v.loops x.text))

abbrev pub low_both : Option Fault → Spelled → Spelled → Option Fault
low_both b x y = lowest b Names (at_name y (bytes_eq x.text y.text))

abbrev pub low_put : TreeSpot → Option Fault → Spelled → Option Fault
low_put v b t = lowest b Functions (in_function v.part t.place)

abbrev pub low_shows : TreeSpot → Option Fault → Place → Option Fault
low_shows v b p = lowest (lowest b Functions (in_function v.part p)) Output (in_par_of_main v.part v.depth p)

abbrev pub with_var : TreeSpot → Spelled → TreeSpot
with_var v x = record v { scope = v.scope ++ x.text ∷ [] }

abbrev pub with_loop : TreeSpot → Spelled → TreeSpot
with_loop v x = record v { scope = v.scope ++ x.text ∷ []; loops = v.loops ++ x.text ∷ [] }

abbrev pub with_par : TreeSpot → Spelled → TreeSpot
with_par v x = record v { scope = v.scope ++ x.text ∷ []; loops = v.loops ++ x.text ∷ []; depth = suc v.depth }

abbrev pub behind : TreeSpot → Node → TreeSpot
behind v (NLet x e) = with_var v x
behind v _ = v

abbrev mutual
  pub low_node : TreeSpot → Option Fault → Node → Option Fault
  low_node v b (NLet x e) = low_whole v (low_declares v b x) e
  low_node v b (NSet x e) = low_whole v (low_assigns v b x) e
  low_node v b (NPut t i j e) = low_whole v (low_whole v (low_whole v (low_put v (low_table v b t) t) i) j) e
  low_node v b (NIf e body other) = low_nodes v (low_nodes v (low_whole v b e) body) other
  low_node v b (NWhile e body) = low_nodes v (low_whole v b e) body
  low_node v b (NLoop x a c body) = low_nodes (with_loop v x) (low_whole v (low_whole v (low_declares v b x) a) c) body
  low_node v b (NPar h body) =
      low_nodes (with_par v h.var) (low_carries v (low_whole v (low_whole v (low_declares v (low_par v b h) h.var) h.from) h.to) h.carries) body
  low_node v b (NFold x e) = low_whole v (low_assigns v b x) e
  low_node v b (NCall x f) = low_app v (low_assigns v b x) f
  low_node v b (NBoth x f y g) = low_app v (low_both (low_assigns v (low_app v (low_assigns v b x) f) y) x y) g
  low_node v b (NPrint p e) = low_whole v (low_shows v b p) e
  low_node v b (NEmit p t) = low_table v (low_shows v b p) t
  low_node v b (NLeave x e) = low_whole v (low_uses v b x) e
  low_node v b (NFill f t r es) = b

  pub low_nodes : TreeSpot → Option Fault → Nodes → Option Fault
  low_nodes v b Last = b
  low_nodes v b (Then n ns) = low_nodes (behind v n) (low_node v b n) ns

abbrev pub behind_all : TreeSpot → Nodes → TreeSpot
behind_all v Last = v
behind_all v (Then n ns) = behind_all (behind v n) ns

abbrev mutual
  pub vars_of : Node → List Spelled
  vars_of (NLet x e) = x ∷ []
  vars_of (NIf e body other) = vars_in body ++ vars_in other
  vars_of (NWhile e body) = vars_in body
  vars_of (NLoop x a b body) = x ∷ vars_in body
  vars_of (NPar h body) = h.var ∷ vars_in body
  vars_of (NSet x e) = []
  vars_of (NPut t i j e) = []
  vars_of (NFold x e) = []
  vars_of (NCall x f) = []
  vars_of (NBoth x f y g) = []
  vars_of (NPrint p e) = []
  vars_of (NEmit p t) = []
  vars_of (NLeave x e) = []
  vars_of (NFill f t r es) = []

  pub vars_in : Nodes → List Spelled
  vars_in Last = []
  vars_in (Then n ns) = vars_of n ++ vars_in ns

-- ---- declarations

abbrev pub outside : Part → List Spelled → List Sig → TreeSpot
outside part tables funcs = record { part = part; tables = tables; funcs = funcs; scope = []; loops = []; depth = 0 }

abbrev pub name_of : TableTree → Spelled
name_of (TInput t) = t
name_of (TMade t a b) = t

abbrev pub sig : FuncTree → Sig
sig f = record { name = f.name; params = length f.params }

abbrev pub low_new_table : TreeSpot → Option Fault → Spelled → Option Fault
low_new_table v b t =
    lowest (lowest b Names (at_name t (is_in (texts_of v.tables) t.text || is_sig_before (sig_of v.funcs t.text) t))) Limits (at_name t (nat_eq (length v.tables) MAX_TABLES))

abbrev pub low_decl : List Sig → List Spelled → Option Fault → TableTree → Option Fault
low_decl fs before b (TInput t) = low_new_table (outside OfSize before fs) b t
low_decl fs before b (TMade t i j) =
    low_whole (outside OfSize before fs) (low_whole (outside OfSize before fs) (low_new_table (outside OfSize before fs) b t) i) j

abbrev pub low_decls : List Sig → List Spelled → Option Fault → List TableTree → Option Fault
low_decls fs before b [] = b
low_decls fs before b (d ∷ ds) = low_decls fs (before ++ name_of d ∷ []) (low_decl fs before b d) ds

abbrev pub low_new_func : TreeSpot → Option Fault → FuncTree → Option Fault
low_new_func v b f =
    lowest (lowest b Names (at_name f.name (is_in (sig_names v.funcs) f.name.text || is_name_by (first_of v.tables f.name.text) f.name))) Limits
    (at_name f.name (nat_eq (length v.funcs) MAX_FUNCTIONS) ++ past_of MAX_PARAMETERS f.params)

abbrev pub low_params : TreeSpot → Option Fault → List Spelled → Option Fault
low_params v b [] = b
low_params v b (x ∷ xs) = low_params (with_var v x) (low_declares v b x) xs

abbrev pub inside : List Spelled → List Sig → FuncTree → TreeSpot
inside tables funcs f = record (outside OfFunc tables funcs) { scope = texts_of f.params }

abbrev pub low_vars : Option Fault → List Spelled → Option Fault
low_vars b xs = lowest b Limits (past_of MAX_DECLARED_VARIABLES xs)

abbrev pub low_func : List Spelled → List Sig → Option Fault → FuncTree → Option Fault
low_func tables funcs b f =
    low_whole (behind_all (inside tables funcs f) f.body)
    (low_nodes (inside tables funcs f) (low_params (outside OfFunc tables funcs) (low_vars b (f.params ++ vars_in f.body)) f.params) f.body) f.value

abbrev pub low_funcs : List Spelled → List Sig → List Sig → Option Fault → List FuncTree → Option Fault
low_funcs tables all before b [] = b
low_funcs tables all before b (f ∷ fs) =
    low_funcs tables all (before ++ sig f ∷ []) (low_func tables all (low_new_func (outside OfFunc tables before) b f) f) fs

abbrev pub low_main : List Spelled → List Sig → Option Fault → Nodes → Option Fault
low_main tables funcs b body = low_nodes (outside OfMain tables funcs) (low_vars b (vars_in body)) body

abbrev pub low_program : Option Fault → ProgramTree → Option Fault
low_program b p =
    let tables = map name_of p.tables in
    let funcs = map sig p.funcs in
    low_main tables funcs (low_funcs tables funcs [] (low_decls funcs [] b p.tables) p.funcs) p.main
