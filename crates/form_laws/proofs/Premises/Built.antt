-- No run of statements that have code is left.
use Rattle.std.proofs.Common.{◌≡◌, ℕ, Bool, true, false, List, [], ◌∷◌, All, Some, None, Option, Vec}
use Rattle.std.proofs.Common.{bytes_eq, refl, ap, subst, ◌∙◌}
use Rattle.std.specs.Prelude.{◌&&◌}
use Rattle.std.specs.declared.alloc.Global.{Global}
use Rattle.std.proofs.lemmas.List.Elements.{All-cons, All-nil}
use Rattle.loop_check.proofs.Bools.{and_left, and_right}
use Rattle.loop_syntax.specs.declared.Func.{Func}
use Rattle.loop_syntax.specs.declared.ParLoop.{ParLoop}
use Rattle.loop_syntax.specs.declared.Stmt.{Stmt, Row_of-Stmt, end_of-Stmt, more_of-Stmt}
use Rattle.loop_syntax.specs.declared.Stmt.{items-the_row-Stmt, items_hidden-the_row-Stmt-0}
use Rattle.loop_syntax.specs.declared.Stmt.TheBlock.{hidden-the_row-Stmt-0}
use Rattle.loop_syntax.specs.declared.Stmt.TheVariants.{Let, Set, Put, If', While', Loop', Par'}
use Rattle.loop_syntax.specs.declared.Stmt.TheVariants.{Fold, Call, Both, Print, Emit, Leave, Fill}
use Rattle.loop_rules.specs.Names.{func_of}
use Rattle.loop_meaning.specs.Leaving.{or_else, left_of, left_in, left_list}
use Rattle.loop_meaning.specs.Only.{LeavesNothing, IsNeverLeft}
use Rattle.scene_laws.specs.Built.{is_built, all_are_built, list_is_built, functions_are_built}
use Rattle.form_laws.proofs.Premises.Around.{Around}
use Rattle.form_laws.proofs.Premises.Occurring.{Occurs, OccursIn, at_first, at_later, in_if}
use Rattle.form_laws.proofs.Premises.Occurring.{in_loop, in_other, in_par, in_while, itself}

-- ---- what has code leaves nothing

mutual
  stays : (s : Stmt) → is_built s ≡ true → left_of s ≡ None
  stays (Let x e) built = refl
  stays (Set x e) built = refl
  stays (Put t a b e) built = refl
  stays (If' e p body q other) built =
      ap (λ (x : Option (List ℕ)). or_else x (left_in other))
      (row_stays body (and_left (all_are_built body) (all_are_built other) built))
      ∙ row_stays other (and_right (all_are_built body) (all_are_built other) built)
  stays (While' e p body) built = row_stays body built
  stays (Loop' x a b p body) built = row_stays body built
  stays (Par' place x a b carry_place carries reduces p body) built = refl
  stays (Fold x e) built = refl
  stays (Call x f) built = refl
  stays (Both x f y g) built = refl
  stays (Print place e) built = refl
  stays (Emit place t) built = refl
  stays (Leave x e) built = absurd (let wrong : false ≡ true = built in cc)
  stays (Fill f t r es) built = refl

  row_stays : {m : _} (row : Row_of-Stmt m) → all_are_built row ≡ true → left_in row ≡ None
  row_stays end_of-Stmt built = refl
  row_stays (more_of-Stmt first rest) built =
      ap (λ (x : Option (List ℕ)). or_else x (left_in rest))
      (stays first (and_left (is_built first) (all_are_built rest) built))
      ∙ row_stays rest (and_right (is_built first) (all_are_built rest) built)

pub list_stays : (ss : List Stmt) → list_is_built ss ≡ true → LeavesNothing ss
list_stays [] built = refl
list_stays (s ∷ ss) built =
    ap (λ (x : Option (List ℕ)). or_else x (left_list ss))
    (stays s (and_left (is_built s) (list_is_built ss) built))
    ∙ list_stays ss (and_right (is_built s) (list_is_built ss) built)

pub functions_stay : (fs : List Func) → functions_are_built fs ≡ true → All IsNeverLeft fs
functions_stay [] built = All-nil IsNeverLeft
functions_stay (f ∷ fs) built =
    All-cons IsNeverLeft f fs
    (list_stays f.body.items
    (and_left (list_is_built f.body.items) (functions_are_built fs) built))
    (functions_stay fs (and_right (list_is_built f.body.items) (functions_are_built fs) built))

-- ---- in statements that have code, each `par` has a body that has

built_of_row : {m : _} (row : Row_of-Stmt m)
    → all_are_built row ≡ list_is_built (items-the_row-Stmt _ row)
built_of_row end_of-Stmt = refl
built_of_row (more_of-Stmt first rest) =
    ap (λ (b : Bool). is_built first && b) (built_of_row rest)

-- the statements of a vector have code where its row has
built_vec : (v : Vec Stmt Global) → all_are_built (hidden-the_row-Stmt-0 v) ≡ true
    → list_is_built v.items ≡ true
built_vec v built =
    subst (λ (ss : List Stmt). list_is_built ss ≡ true) (items_hidden-the_row-Stmt-0 v)
    (subst (λ (b : Bool). b ≡ true) (built_of_row (hidden-the_row-Stmt-0 v)) built)

module _ (l : ParLoop) (outside : List (List ℕ)) (near : Around) where
  mutual
    built_of : {a : Around} {names : List (List ℕ)} {s : Stmt} → Occurs l outside near a names s
        → is_built s ≡ true → list_is_built l.body.items ≡ true
    built_of itself built = built_vec l.body built
    built_of (in_if body other o) built =
        built_in o (built_vec body (and_left (all_are_built (hidden-the_row-Stmt-0 body))
        (all_are_built (hidden-the_row-Stmt-0 other)) built))
    built_of (in_other body other o) built =
        built_in o (built_vec other (and_right (all_are_built (hidden-the_row-Stmt-0 body))
        (all_are_built (hidden-the_row-Stmt-0 other)) built))
    built_of (in_while body o) built = built_in o (built_vec body built)
    built_of (in_loop body o) built = built_in o (built_vec body built)
    built_of (in_par other o) built = built_in o (built_vec other.body built)

    pub built_in : {a : Around} {names : List (List ℕ)} {ss : List Stmt}
        → OccursIn l outside near a names ss → list_is_built ss ≡ true
        → list_is_built l.body.items ≡ true
    built_in (at_first {s = s} {ss = ss} o) built =
        built_of o (and_left (is_built s) (list_is_built ss) built)
    built_in (at_later {s = s} {ss = ss} o) built =
        built_in o (and_right (is_built s) (list_is_built ss) built)

pub function_built : (fs : List Func) (x : List ℕ) (f : Func) → func_of fs x ≡ Some f
    → functions_are_built fs ≡ true → list_is_built f.body.items ≡ true
function_built [] x f is built = cc
function_built (g ∷ gs) x f is built =
    go (bytes_eq g.name.text.items x) refl
    (λ later. function_built gs x f later
    (and_right (list_is_built g.body.items) (functions_are_built gs) built))
  where
    go : (b : Bool) → bytes_eq g.name.text.items x ≡ b
        → (func_of gs x ≡ Some f → list_is_built f.body.items ≡ true)
        → list_is_built f.body.items ≡ true
    go true e behind =
        let same : Some g ≡ Some f = rw e at is in
        let here : g ≡ f = cc in
        subst (λ (h : Func). list_is_built h.body.items ≡ true) here
        (and_left (list_is_built g.body.items) (functions_are_built gs) built)
    go false e behind = behind (rw e at is)
