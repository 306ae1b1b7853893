-- Statements that fit, as a row, as a list and one after another.
use Rattle.std.proofs.Common.{◌≡◌, ℕ, List, [], ◌∷◌, ◌++◌, length, refl, subst, Vec}
use Rattle.std.specs.declared.alloc.Global.{Global}
use Rattle.loop_syntax.specs.declared.Stmt.{Stmt, Row_of-Stmt, end_of-Stmt, more_of-Stmt}
use Rattle.loop_syntax.specs.declared.Stmt.{items-the_row-Stmt, items_hidden-the_row-Stmt-0}
use Rattle.loop_syntax.specs.declared.Stmt.TheBlock.{hidden-the_row-Stmt-0}
use Rattle.loop_syntax.specs.declared.Stmt.TheVariants.{Let, Set, Put, If', While', Loop', Par'}
use Rattle.loop_syntax.specs.declared.Stmt.TheVariants.{Fold, Call, Both, Print, Emit, Leave, Fill}
use Rattle.tpal_syntax.specs.declared.instructions.Instr.{Instr}
use Rattle.tpal_syntax.specs.declared.instructions.Term.{Term}
use Rattle.tpal_syntax.specs.Listing.{Listing}
use Rattle.scene_laws.specs.Code.{Code, Codes, none, one_more}
use Rattle.code_laws.specs.Fitting.{Fits, FitInRow, AllFit}
use Rattle.scene_laws.specs.Heights.{RowIsLow, AllAreLow}
use Rattle.scene_laws.specs.Layout.{Entry, Activation}
use Rattle.scene_laws.specs.Names.{names_after, names_after_list}
use Rattle.scene_laws.specs.Round.{Round, loop_round}

low_of_row : {m : _} (row : Row_of-Stmt m) → RowIsLow row → AllAreLow (items-the_row-Stmt _ row)
low_of_row end_of-Stmt low = tt
low_of_row (more_of-Stmt b rest) low = (low.0, low_of_row rest low.1)

pub low_of_vec : (body : Vec Stmt Global) → RowIsLow (hidden-the_row-Stmt-0 body) → AllAreLow body.items
low_of_vec body low = subst (λ (ss : List Stmt). AllAreLow ss) (items_hidden-the_row-Stmt-0 body) (low_of_row (hidden-the_row-Stmt-0 body) low)

pub names_after_more : (names : List (List ℕ)) (ss : List Stmt) (s : Stmt) → names_after_list names (ss ++ s ∷ []) ≡ names_after (names_after_list names ss) s
names_after_more names [] s = refl
names_after_more names (t ∷ ts) s = names_after_more (names_after names t) ts s

module _ (tables : List (List ℕ)) (functions : List Entry) (most : ℕ) where
  fit_of_row : {m : _} (round : Round) (names : List (List ℕ)) (row : Row_of-Stmt m) → FitInRow tables functions most round names row → AllFit tables functions most round names (items-the_row-Stmt _ row)
  fit_of_row round names end_of-Stmt fit = tt
  fit_of_row round names (more_of-Stmt b rest) fit = (fit.0, fit_of_row round (names_after names b) rest fit.1)

  pub fit_of_vec : (round : Round) (names : List (List ℕ)) (body : Vec Stmt Global) → FitInRow tables functions most round names (hidden-the_row-Stmt-0 body) → AllFit tables functions most round names body.items
  fit_of_vec round names body fit =
      subst (λ (ss : List Stmt). AllFit tables functions most round names ss) (items_hidden-the_row-Stmt-0 body) (fit_of_row round names (hidden-the_row-Stmt-0 body) fit)

  -- the registers don't matter
  mutual
    fits_held : (round : Round) (registers : List (ℕ × ℕ)) (names : List (List ℕ)) (s : Stmt)
        → Fits tables functions most round names s
        → Fits tables functions most (record round { registers = registers }) names s
    fits_held round registers names (Let x e) f = f
    fits_held round registers names (Set x e) f = f
    fits_held round registers names (Put t a b e) f = f
    fits_held round registers names (If' e p body q other) f =
        (f.0, row_held round registers names body f.1, row_held round registers names other f.2)
    fits_held round registers names (While' e p body) f =
        (f.0, row_held round registers names body f.1)
    fits_held round registers names (Loop' x a b p body) f = (
      f.0,
      f.1,
      f.2,
      row_held (loop_round round (length names)) registers
          (names ++ x.text.items ∷ []) body f.3,
    )
    fits_held round registers names (Par' place x a b carry_place carries reduces p body) f = f
    fits_held round registers names (Fold x e) f = f
    fits_held round registers names (Call x g) f = f
    fits_held round registers names (Both x g y h) f = f
    fits_held round registers names (Print place e) f = f
    fits_held round registers names (Emit place t) f = f
    fits_held round registers names (Leave x e) f = f
    fits_held round registers names (Fill g t r es) f = f

    row_held : {m : _} (round : Round) (registers : List (ℕ × ℕ)) (names : List (List ℕ))
        (row : Row_of-Stmt m) → FitInRow tables functions most round names row
        → FitInRow tables functions most (record round { registers = registers }) names row
    row_held round registers names end_of-Stmt f = tt
    row_held round registers names (more_of-Stmt s rest) f = (
      fits_held round registers names s f.0,
      row_held round registers (names_after names s) rest f.1,
    )

  pub all_held : (round : Round) (registers : List (ℕ × ℕ)) (names : List (List ℕ))
      (ss : List Stmt) → AllFit tables functions most round names ss
      → AllFit tables functions most (record round { registers = registers }) names ss
  all_held round registers names [] f = tt
  all_held round registers names (s ∷ ss) f = (
    fits_held round registers names s f.0,
    all_held round registers (names_after names s) ss f.1,
  )

  pub fit_before : (round : Round) (names : List (List ℕ)) (ss : List Stmt) (s : Stmt) → AllFit tables functions most round names (ss ++ s ∷ []) → AllFit tables functions most round names ss
  fit_before round names [] s fit = tt
  fit_before round names (t ∷ ts) s fit = (fit.0, fit_before round (names_after names t) ts s fit.1)

  pub fit_last : (round : Round) (names : List (List ℕ)) (ss : List Stmt) (s : Stmt) → AllFit tables functions most round names (ss ++ s ∷ []) → Fits tables functions most round (names_after_list names ss) s
  fit_last round names [] s fit = fit.0
  fit_last round names (t ∷ ts) s fit = fit_last round (names_after names t) ts s fit.1

-- the code of statements and of one more behind them
pub codes_more : {code : Listing} {act : Activation} {round : Round} {names : List (List ℕ)} {ss : List Stmt} {s : Stmt} {instrs middle more : List Instr} {end half last : Term}
    → Codes code act round names ss instrs end middle half → Code code act round (names_after_list names ss) s middle half more last → Codes code act round names (ss ++ s ∷ []) instrs end more last
codes_more none c = one_more c none
codes_more (one_more b bs) c = one_more b (codes_more bs c)
