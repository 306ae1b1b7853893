-- A `par` that occurs in statements is among their bodies, and its numbers are in range as theirs
-- are: so what the rules say of the bodies of a program is said of each `par` that occurs.
use Rattle.std.proofs.Common.{◌≡◌, ℕ, List, [], ◌∷◌, ◌++◌, All, Some, Vec, bytes_eq, false, Bool}
use Rattle.std.proofs.Common.{Option, true}
use Rattle.std.proofs.Common.{map, refl, sym, ap, subst, ◌∙◌}
use Rattle.std.specs.Prelude.{Contains}
use Rattle.std.specs.List.{AllByRecursion, IsDistinct}
use Rattle.std.specs.declared.alloc.Global.{Global}
use Rattle.std.proofs.lemmas.List.Elements.{All-cons, All-head, All-nil, All-tail}
use Rattle.std.proofs.lemmas.List.Elements.{Contains-append_left, Contains-append_right}
use Rattle.std.proofs.lemmas.Slice.Eq.{bytes_eq-Decides}
use Rattle.loop_syntax.specs.declared.Func.{Func}
use Rattle.loop_syntax.specs.declared.ParLoop.{ParLoop}
use Rattle.loop_syntax.specs.declared.Program.{Program}
use Rattle.loop_syntax.specs.declared.Stmt.{Stmt, Row_of-Stmt, end_of-Stmt, more_of-Stmt}
use Rattle.loop_syntax.specs.declared.Stmt.{items-the_row-Stmt, items_hidden-the_row-Stmt-0}
use Rattle.loop_syntax.specs.declared.Stmt.TheBlock.{hidden-the_row-Stmt-0}
use Rattle.loop_syntax.specs.declared.Stmt.TheVariants.{Let, Set, Put, If', While', Loop', Par'}
use Rattle.loop_syntax.specs.declared.Stmt.TheVariants.{Fold, Call, Both, Print, Emit, Leave, Fill}
use Rattle.loop_syntax.specs.declared.Stmt.TheVariants.{Par}
use Rattle.loop_rules.specs.Declarations.{tables_of_decls}
use Rattle.loop_rules.specs.Names.{func_of, is_in, texts}
use Rattle.loop_rules.specs.Sites as rules
use Rattle.loop_check.specs.Unbroken.{NoneBroken}
use Rattle.loop_check.proofs.Bools.{and_left, and_right}
use Rattle.loop_check.proofs.Lists.{contains_here, contains_there}
use Rattle.loop_meaning.specs.Cells.{Body, bodies, bodies_all, bodies_of_funcs, bodies_of_list}
use Rattle.loop_meaning.specs.Cells.{body_of, visible_after}
use Rattle.loop_meaning.specs.InRange.{BlockInRange, FuncInRange, ProgramInRange, StmtInRange}
use Rattle.frame_machine.specs.AllLawful.{AllLawful}
use Rattle.frame_machine.specs.Lawful.{Callable, Distinct, Lawful}
use Rattle.frame_machine.specs.Bodies.{FuncKeeps, ListKeeps, NoVariable}
use Rattle.frame_machine.specs.Modes.{Modes, inner_modes, modes_of}
use Rattle.frame_machine.proofs.RulesLawful.{all_lawful}
use Rattle.loop_syntax.specs.declared.TableDecl.{TableDecl}
use Rattle.loop_syntax.specs.declared.TableDecl.TheVariants.{Input, Made}
use Rattle.form_laws.specs.Functions.{table_name}
use Rattle.scene_laws.specs.Built.{functions_are_built, list_is_built, program_is_built}
use Rattle.scene_laws.specs.Names.{names_after}
use Rattle.code_laws.proofs.Rules.Unbroken.{program_fits}
use Rattle.form_laws.proofs.Premises.Around.{Around, Free, callable_in_call, in_body, in_call}
use Rattle.form_laws.proofs.Premises.Around.{modes_at}
use Rattle.form_laws.proofs.Premises.Built.{built_in, function_built, functions_stay, list_stays}
use Rattle.form_laws.proofs.Premises.Cutting.{ProgramRules}
use Rattle.form_laws.proofs.Premises.Keeps.{called_in_safe, stands_free_in, stands_in, whole_in}
use Rattle.form_laws.proofs.Premises.Occurring.{Occurs, OccursIn, at_first, at_later, in_if}
use Rattle.form_laws.proofs.Premises.Occurring.{in_loop}
use Rattle.form_laws.proofs.Premises.Occurring.{in_other, in_par, in_while, itself}

same_after : (names : List (List ℕ)) (s : Stmt) → visible_after names s ≡ names_after names s
same_after names (Let x e) = refl
same_after names (Set x e) = refl
same_after names (Put t a b e) = refl
same_after names (If' e p body q other) = refl
same_after names (While' e p body) = refl
same_after names (Loop' x a b p body) = refl
same_after names (Par' place x a b carry_place carries reduces p body) = refl
same_after names (Fold x e) = refl
same_after names (Call x f) = refl
same_after names (Both x f y g) = refl
same_after names (Print place e) = refl
same_after names (Emit place t) = refl
same_after names (Leave x e) = refl
same_after names (Fill f t r es) = refl

-- ---- bodies

bodies_row : {m : _} (names : List (List ℕ)) (rounds : List rules.Loop) (row : Row_of-Stmt m)
    → bodies_all names rounds row ≡ bodies_of_list names rounds (items-the_row-Stmt _ row)
bodies_row names rounds end_of-Stmt = refl
bodies_row names rounds (more_of-Stmt first rest) =
    ap (λ (bs : List Body). bodies names rounds first ++ bs)
    (bodies_row (visible_after names first) rounds rest)

bodies_vec : (names : List (List ℕ)) (rounds : List rules.Loop) (v : Vec Stmt Global)
    → bodies_all names rounds (hidden-the_row-Stmt-0 v) ≡ bodies_of_list names rounds v.items
bodies_vec names rounds v =
    bodies_row names rounds (hidden-the_row-Stmt-0 v)
    ∙ ap (λ (ss : List Stmt). bodies_of_list names rounds ss) (items_hidden-the_row-Stmt-0 v)

-- what a `par` is as a loop round its body
abbrev loop_of : List (List ℕ) → ParLoop → rules.Loop
loop_of outside l = record {
  outside = outside;
  var = l.var.text.items;
  carries = l.carries.items;
  reduces = l.reduces.items;
}

-- a `par` is among some bodies, under some loops round it; and where something is so of those that
-- are round the bodies, these loops allow what is round the `par`
pub record IsFound (l : ParLoop) (outside : List (List ℕ)) (near : Around) (So : Type 0)
    (all : List Body) : Type 0 where
  pub rounds : List rules.Loop
  pub is : Contains all (body_of outside rounds l)
  pub allows : So → modes_of rounds ≡ modes_at near

module _ {l : ParLoop} {outside : List (List ℕ)} {near : Around} where
  found_left : {So : Type 0} (xs ys : List Body) → IsFound l outside near So xs
      → IsFound l outside near So (xs ++ ys)
  found_left xs ys f = record {
    rounds = f.rounds;
    is = Contains-append_left xs ys _ f.is;
    allows = f.allows;
  }

  found_right : {So : Type 0} (xs ys : List Body) → IsFound l outside near So ys
      → IsFound l outside near So (xs ++ ys)
  found_right xs ys f = record {
    rounds = f.rounds;
    is = Contains-append_right xs ys _ f.is;
    allows = f.allows;
  }

  found_there : {So : Type 0} (x : Body) (xs : List Body) → IsFound l outside near So xs
      → IsFound l outside near So (x ∷ xs)
  found_there x xs f = record {
    rounds = f.rounds;
    is = contains_there xs x _ f.is;
    allows = f.allows;
  }

module _ (l : ParLoop) (outside : List (List ℕ)) (near : Around) where
  found_vec : (So : Type 0) (names : List (List ℕ)) (rounds : List rules.Loop)
      (v : Vec Stmt Global)
      → IsFound l outside near So (bodies_of_list names rounds v.items)
      → IsFound l outside near So (bodies_all names rounds (hidden-the_row-Stmt-0 v))
  found_vec So names rounds v f =
      subst (IsFound l outside near So) (sym (bodies_vec names rounds v)) f

  -- what these loops allow is what is round the statements
  abbrev So : List rules.Loop → Around → Type 0
  So rounds a = modes_of rounds ≡ modes_at a

  mutual
    found : {a : Around} {names : List (List ℕ)} {s : Stmt} → Occurs l outside near a names s
        → (rounds : List rules.Loop) → IsFound l outside near (So rounds a) (bodies names rounds s)
    found itself rounds = record {
      rounds = rounds;
      is = subst (λ (ss : List Stmt). Contains (bodies outside rounds (Par l))
          (record { loop = loop_of outside l; rounds = rounds; statements = ss }))
          (items_hidden-the_row-Stmt-0 l.body) (contains_here _ _);
      allows = λ so. so;
    }
    found {a} (in_if {names = names} body other o) rounds =
        found_left (bodies_all names rounds (hidden-the_row-Stmt-0 body))
        (bodies_all names rounds (hidden-the_row-Stmt-0 other))
        (found_vec (So rounds a) names rounds body (found_in o rounds))
    found {a} (in_other {names = names} body other o) rounds =
        found_right (bodies_all names rounds (hidden-the_row-Stmt-0 body))
        (bodies_all names rounds (hidden-the_row-Stmt-0 other))
        (found_vec (So rounds a) names rounds other (found_in o rounds))
    found {a} (in_while {names = names} body o) rounds =
        found_vec (So rounds a) names rounds body (found_in o rounds)
    found {a} (in_loop {names = names} {x = x} body o) rounds =
        found_vec (So rounds a) (names ++ x.text.items ∷ []) rounds body (found_in o rounds)
    found {a} (in_par {names = names} other o) rounds =
        let inner : List rules.Loop = loop_of names other ∷ rounds in
        let there : IsFound l outside near (So inner (in_body a other))
        (bodies_of_list (names ++ other.var.text.items ∷ []) inner other.body.items) =
        found_in o inner in
        found_there _ _ (found_vec (So rounds a) (names ++ other.var.text.items ∷ []) inner
        other.body (record {
          rounds = there.rounds;
          is = there.is;
          allows = λ so. there.allows
              (ap (λ (m : Modes). inner_modes other.carries.items other.var.text.items m) so);
        }))

    pub found_in : {a : Around} {names : List (List ℕ)} {ss : List Stmt}
        → OccursIn l outside near a names ss → (rounds : List rules.Loop)
        → IsFound l outside near (So rounds a) (bodies_of_list names rounds ss)
    found_in {a} (at_first {names = names} {s = s} {ss = ss} o) rounds =
        found_left (bodies names rounds s) (bodies_of_list (visible_after names s) rounds ss)
        (found o rounds)
    found_in {a} (at_later {names = names} {s = s} {ss = ss} o) rounds =
        found_right (bodies names rounds s) (bodies_of_list (visible_after names s) rounds ss)
        (subst (λ (ns : List (List ℕ)). IsFound l outside near (So rounds a)
        (bodies_of_list ns rounds ss)) (sym (same_after names s)) (found_in o rounds))

-- ---- numbers

range_row : {m : _} (row : Row_of-Stmt m) → BlockInRange row
    → All StmtInRange (items-the_row-Stmt _ row)
range_row end_of-Stmt range = All-nil StmtInRange
range_row (more_of-Stmt first rest) range =
    All-cons StmtInRange first (items-the_row-Stmt _ rest) range.0 (range_row rest range.1)

range_vec : (v : Vec Stmt Global) → BlockInRange (hidden-the_row-Stmt-0 v)
    → All StmtInRange v.items
range_vec v range =
    subst (All StmtInRange) (items_hidden-the_row-Stmt-0 v)
    (range_row (hidden-the_row-Stmt-0 v) range)

module _ (l : ParLoop) (outside : List (List ℕ)) (near : Around) where
  mutual
    range_of : {a : Around} {names : List (List ℕ)} {s : Stmt} → Occurs l outside near a names s
        → StmtInRange s → StmtInRange (Par l)
    range_of itself range = range
    range_of (in_if body other o) range = range_in o (range_vec body range.1)
    range_of (in_other body other o) range = range_in o (range_vec other range.2)
    range_of (in_while body o) range = range_in o (range_vec body range.1)
    range_of (in_loop body o) range = range_in o (range_vec body range.2)
    range_of (in_par other o) range = range_in o (range_vec other.body range.2)

    pub range_in : {a : Around} {names : List (List ℕ)} {ss : List Stmt}
        → OccursIn l outside near a names ss → All StmtInRange ss → StmtInRange (Par l)
    range_in (at_first {s = s} {ss = ss} o) range = range_of o (All-head StmtInRange s ss range)
    range_in (at_later {s = s} {ss = ss} o) range = range_in o (All-tail StmtInRange s ss range)

-- ---- a program

-- names that differ, in other words
none_in : (x : List ℕ) (ys : List (List ℕ)) → AllByRecursion (λ y. bytes_eq x y ≡ false) ys
    → is_in ys x ≡ false
none_in x [] none = refl
none_in x (y ∷ ys) none = go (λ rest. none_in x ys rest) (bytes_eq y x) refl
  where
    go : (AllByRecursion (λ o. bytes_eq x o ≡ false) ys → is_in ys x ≡ false) → (b : Bool)
        → bytes_eq y x ≡ b → is_in (y ∷ ys) x ≡ false
    go behind true e =
        let same : bytes_eq x y ≡ true =
        (bytes_eq-Decides x y).1 (sym ((bytes_eq-Decides y x).0 e)) in
        let wrong : true ≡ false = sym same ∙ none.0 in
        cc
    go behind false e = rw e (behind none.1)

pub distinct_of : (xs : List (List ℕ)) → IsDistinct bytes_eq xs → Distinct xs
unfolding IsDistinct
distinct_of [] differ = tt
distinct_of (x ∷ xs) differ = (none_in x xs differ.0, distinct_of xs differ.1)

func_range : (fs : List Func) (x : List ℕ) (f : Func) → func_of fs x ≡ Some f
    → All FuncInRange fs → FuncInRange f
func_range [] x f is all = cc
func_range (g ∷ gs) x f is all =
    go (bytes_eq g.name.text.items x) refl
    (λ later. func_range gs x f later (All-tail FuncInRange g gs all))
  where
    go : (b : Bool) → bytes_eq g.name.text.items x ≡ b
        → (func_of gs x ≡ Some f → FuncInRange f) → FuncInRange f
    go true e behind =
        let same : Some g ≡ Some f = rw e at is in
        let here : g ≡ f = cc in
        subst FuncInRange here (All-head FuncInRange g gs all)
    go false e behind = behind (rw e at is)

-- the tables of a program, by their names
names_of_decls : (ds : List TableDecl) → map table_name ds ≡ texts (tables_of_decls ds)
names_of_decls [] = refl
names_of_decls (Input x ∷ ds) = ap (λ (ns : List (List ℕ)). x.text.items ∷ ns) (names_of_decls ds)
names_of_decls (Made x a b ∷ ds) =
    ap (λ (ns : List (List ℕ)). x.text.items ∷ ns) (names_of_decls ds)

module _ (p : Program) (none : NoneBroken p) (range : ProgramInRange p)
    (built : program_is_built p ≡ true) where
  lawful : AllLawful p
  lawful = all_lawful p none

  differ : IsDistinct bytes_eq (map table_name p.tables.items)
  differ = subst (IsDistinct bytes_eq) (sym (names_of_decls p.tables.items))
      (program_fits p none built).tables_differ

  functions_built : functions_are_built p.funcs.items ≡ true
  functions_built = and_left (functions_are_built p.funcs.items) (list_is_built p.main.items) built

  main_built : list_is_built p.main.items ≡ true
  main_built = and_right (functions_are_built p.funcs.items) (list_is_built p.main.items) built

  -- what a function that may be called keeps to
  keeps : (x : List ℕ) (f : Func) → func_of p.funcs.items x ≡ Some f → (a : Around)
      → Callable p (modes_at a) x
      → ListKeeps [] (Callable p (modes_at a)) NoVariable [] (modes_at (in_call a)) f.body.items
  keeps x f is a callable =
      (subst (λ (g : Option Func). FuncKeeps (Callable p (modes_at a)) (modes_at a) g) is
      (lawful.functions (modes_at a) x callable)).0

  -- where no rule is broken each `par` may be cut
  main_lawful : (outside : List (List ℕ)) (l : ParLoop) (near : Around)
      → OccursIn l outside near Free [] p.main.items → Lawful p (modes_at near) outside l
  main_lawful outside l near o =
      let here = found_in l outside near o [] in
      subst (λ (m : Modes). Lawful p m outside l) (here.allows refl)
      (lawful.loops here.rounds outside l
      (Contains-append_right (bodies_of_funcs p.funcs.items)
      (bodies_of_list [] [] p.main.items) (body_of outside here.rounds l) here.is))

  pub program_rules : ProgramRules p (map table_name p.tables.items)
  program_rules = record {
    funcs = range.funcs;
    never = functions_stay p.funcs.items functions_built;
    differ = differ;
    distinct = distinct_of (map table_name p.tables.items) differ;
    functions = lawful.functions;
    of_main = λ outside l near o. record {
      lawful = main_lawful outside l near o;
      stands = stands_free_in p l outside o
          (λ before q at. main_lawful before q Free at);
      ranged = range_in l outside near o range.main;
      stays = list_stays l.body.items (built_in l outside near o main_built);
    };
    of_function = λ x f is a callable outside l near o.
        let here = found_in l outside near o [] in
        let body = keeps x f is a callable in
        record {
          lawful = lawful.of_function x f is (modes_at near)
              (λ t reads. whole_in [] (Callable p (modes_at a)) l outside near NoVariable [] o body
              t (callable_in_call p a x callable t reads)) here.rounds outside l here.is;
          stands = stands_in [] (Callable p (modes_at a)) l outside near NoVariable [] o body;
          ranged = range_in l outside near o (func_range p.funcs.items x f is range.funcs).0;
          stays = list_stays l.body.items (built_in l outside near o
              (function_built p.funcs.items x f is functions_built));
        };
    calls = λ x f is a callable g called.
        called_in_safe [] (Callable p (modes_at a)) NoVariable [] (modes_at (in_call a)) g called
        (keeps x f is a callable);
  }
