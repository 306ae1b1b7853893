-- The sizes of statements, as a row and as a list; and how few values are kept.
use Rattle.std.proofs.Common.{◌≡◌, ℕ, ◌≤◌, ◌+◌, max, Bool, true, false, ◌&&◌, if◌then◌else◌, List}
use Rattle.std.proofs.Common.{[], ◌∷◌, length, refl, ap, sym, ◌∙◌, Vec, arith}
use Rattle.std.specs.List.{sum_by}
use Rattle.std.proofs.lemmas.List.{length-append}
use Rattle.std.proofs.lemmas.List.Sums.{sum_by-cons}
use Rattle.std.specs.declared.alloc.Global.{Global}
use Rattle.tp_value.specs.declared.limits.TheConstants.{MAX_PARAMETERS}
use Rattle.loop_rules.specs.Declarations.{declared_in, declared_all}
use Rattle.loop_syntax.specs.declared.Carry.{Carry}
use Rattle.loop_syntax.specs.declared.Reduce.{Reduce}
use Rattle.loop_syntax.specs.declared.Stmt.{Stmt, Row_of-Stmt, end_of-Stmt, more_of-Stmt}
use Rattle.loop_syntax.specs.declared.Stmt.{items-the_row-Stmt, items_hidden-the_row-Stmt-0}
use Rattle.loop_syntax.specs.declared.Stmt.TheBlock.{hidden-the_row-Stmt-0}
use Rattle.loop_syntax.specs.declared.Stmt.TheVariants.{Let, Set, Put, If', While', Loop', Par'}
use Rattle.loop_syntax.specs.declared.Stmt.TheVariants.{Fold, Call, Both, Print, Emit, Leave, Fill}
use Rattle.loop_syntax.specs.declared.Expr.{Expr}
use Rattle.loop_syntax.specs.declared.Expr.TheVariants.{Int, Var, Cell', Rows, Cols, Neg', Bin'}
use Rattle.loop_syntax.specs.declared.TableDecl.{TableDecl}
use Rattle.loop_syntax.specs.declared.TableDecl.TheVariants.{Input, Made}
use Rattle.loop_rules.specs.Limits.{height}
use Rattle.scene_laws.specs.Heights.{AllAreLow, AreLow, RowIsLow}
use Rattle.scene_laws.specs.Layout.{kept_by_both}
use Rattle.scene_laws.specs.Quiet.{all_is_quiet, is_leaf, list_is_quiet, row_is_leaf}
use Rattle.scene_laws.specs.Sizes.{added, added_by_all, added_by_list, added_by_other}
use Rattle.scene_laws.specs.Sizes.{added_by_second, par_blocks, declared, is_low_at, kept}
use Rattle.scene_laws.specs.Sizes.{kept_by_all, kept_by_list, kept_by_decl, kept_by_decls}
use Rattle.scene_laws.proofs.Counts.QuietRows.{leaf_of_vec, quiet_of_vec}

added_of_row : {m : _} (calls : Bool) (row : Row_of-Stmt m) → added_by_all calls row ≡ sum_by (added calls) (items-the_row-Stmt _ row)
added_of_row calls end_of-Stmt = refl
added_of_row calls (more_of-Stmt b rest) =
    ap (λ n. added calls b + n) (added_of_row calls rest) ∙ sym (sum_by-cons (added calls) b (items-the_row-Stmt _ rest))

pub added_of_vec : (calls : Bool) (body : Vec Stmt Global) → added_by_all calls (hidden-the_row-Stmt-0 body) ≡ sum_by (added calls) body.items
added_of_vec calls body =
    added_of_row calls (hidden-the_row-Stmt-0 body) ∙ ap (λ ss. sum_by (added calls) ss) (items_hidden-the_row-Stmt-0 body)

second_of_row : {m : _} (calls : Bool) (row : Row_of-Stmt m) → added_by_other calls row ≡ added_by_second calls (items-the_row-Stmt _ row)
second_of_row calls end_of-Stmt = refl
second_of_row calls (more_of-Stmt b rest) =
    ap (λ n. added calls b + n + 1) (added_of_row calls rest) ∙ ap (λ n. n + 1) (sym (sum_by-cons (added calls) b (items-the_row-Stmt _ rest)))

pub second_of_vec : (calls : Bool) (body : Vec Stmt Global) → added_by_other calls (hidden-the_row-Stmt-0 body) ≡ added_by_second calls body.items
second_of_vec calls body =
    second_of_row calls (hidden-the_row-Stmt-0 body) ∙ ap (λ ss. added_by_second calls ss) (items_hidden-the_row-Stmt-0 body)

pub par_of_vec : (calls : Bool) (carries : List Carry) (reduces : List Reduce)
    (body : Vec Stmt Global)
    → par_blocks (row_is_leaf (hidden-the_row-Stmt-0 body) reduces)
    (all_is_quiet calls (hidden-the_row-Stmt-0 body)) carries
    (added_by_all calls (hidden-the_row-Stmt-0 body) + 1)
    ≡ par_blocks (is_leaf body.items reduces) (list_is_quiet calls body.items) carries
    (added_by_list calls body.items + 1)
par_of_vec calls carries reduces body =
    ap (λ (leaf : Bool). par_blocks leaf (all_is_quiet calls (hidden-the_row-Stmt-0 body)) carries
    (added_by_all calls (hidden-the_row-Stmt-0 body) + 1)) (leaf_of_vec body reduces)
    ∙ ap (λ (quiet : Bool). par_blocks (is_leaf body.items reduces) quiet carries
    (added_by_all calls (hidden-the_row-Stmt-0 body) + 1)) (quiet_of_vec calls body)
    ∙ ap (λ n. par_blocks (is_leaf body.items reduces) (list_is_quiet calls body.items) carries
    (n + 1)) (added_of_vec calls body)

declared_of_row : {m : _} (row : Row_of-Stmt m) → length (declared_all row) ≡ sum_by declared (items-the_row-Stmt _ row)
declared_of_row end_of-Stmt = refl
declared_of_row (more_of-Stmt b rest) =
    length-append (declared_in b) (declared_all rest) ∙ ap (λ n. declared b + n) (declared_of_row rest) ∙ sym (sum_by-cons declared b (items-the_row-Stmt _ rest))

pub declared_of_vec : (body : Vec Stmt Global) → length (declared_all (hidden-the_row-Stmt-0 body)) ≡ sum_by declared body.items
declared_of_vec body = declared_of_row (hidden-the_row-Stmt-0 body) ∙ ap (λ ss. sum_by declared ss) (items_hidden-the_row-Stmt-0 body)

kept_of_row : {m : _} (row : Row_of-Stmt m) → kept_by_all row ≡ kept_by_list (items-the_row-Stmt _ row)
kept_of_row end_of-Stmt = refl
kept_of_row (more_of-Stmt b rest) = ap (λ n. max (kept b) n) (kept_of_row rest)

pub kept_of_vec : (body : Vec Stmt Global) → kept_by_all (hidden-the_row-Stmt-0 body) ≡ kept_by_list body.items
kept_of_vec body = kept_of_row (hidden-the_row-Stmt-0 body) ∙ ap kept_by_list (items_hidden-the_row-Stmt-0 body)

-- an expression has a node
pub some_height : (e : Expr) → 1 ≤ height e
some_height (Int n p) = omega arith
some_height (Var x) = omega arith
some_height (Cell' t p a q b) = omega arith
some_height (Rows t) = omega arith
some_height (Cols t) = omega arith
some_height (Neg' p a place) = omega arith
some_height (Bin' o place p a q b) = omega arith

-- ---- few values are kept

-- as many as there may be
abbrev pub most_kept : ℕ
most_kept = kept_by_both MAX_PARAMETERS

few_if : (b : Bool) → (if b then 0 else 2) ≤ most_kept
few_if true = omega arith
few_if false = omega arith

mutual
  few_kept : (s : Stmt) → AreLow s → kept s ≤ most_kept
  few_kept (Let x e) low = omega arith
  few_kept (Set x e) low = omega arith
  few_kept (Put t a b e) low = few_if (is_low_at 1 b && is_low_at 2 e)
  few_kept (If' e p body q other) low =
      omega (arith, few_kept_by_all body low.1, few_kept_by_all other low.2)
  few_kept (While' e p body) low = few_kept_by_all body low.1
  few_kept (Loop' x a b p body) low = few_kept_by_all body low.2
  few_kept (Par' place x a b carry_place carries reduces p body) low = few_kept_by_all body low.2
  few_kept (Fold x e) low = omega arith
  few_kept (Call x f) low = omega arith
  few_kept (Both x f y g) low = omega (arith, low.1.0)
  few_kept (Print place e) low = omega arith
  few_kept (Emit place t) low = omega arith
  few_kept (Leave x e) low = omega arith
  few_kept (Fill f t r es) low = omega arith

  few_kept_by_all : {m : _} (row : Row_of-Stmt m) → RowIsLow row → kept_by_all row ≤ most_kept
  few_kept_by_all end_of-Stmt low = omega arith
  few_kept_by_all (more_of-Stmt b rest) low =
      omega (arith, few_kept b low.0, few_kept_by_all rest low.1)

pub few_kept_by_list : (body : List Stmt) → AllAreLow body → kept_by_list body ≤ most_kept
few_kept_by_list [] low = omega arith
few_kept_by_list (s ∷ ss) low = omega (arith, few_kept s low.0, few_kept_by_list ss low.1)

few_if_one : (b : Bool) → (if b then 0 else 1) ≤ most_kept
few_if_one true = omega arith
few_if_one false = omega arith

few_kept_by_decl : (d : TableDecl) → kept_by_decl d ≤ most_kept
few_kept_by_decl (Input x) = omega arith
few_kept_by_decl (Made x a b) = few_if_one (is_low_at 1 b)

pub few_kept_by_decls : (ds : List TableDecl) → kept_by_decls ds ≤ most_kept
few_kept_by_decls [] = omega arith
few_kept_by_decls (d ∷ ds) = omega (arith, few_kept_by_decl d, few_kept_by_decls ds)
