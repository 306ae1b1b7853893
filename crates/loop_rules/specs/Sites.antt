-- The places of a program that the rules speak of, each with what is round it. One walk gives them
-- in the order of the text.
use Rattle.std.specs.Prelude.{ℕ, suc, List, [], ◌∷◌, ◌++◌, length}
use Rattle.tp_value.specs.declared.Place.{Place}
use Rattle.loop_syntax.specs.declared.Name.{Name}
use Rattle.loop_syntax.specs.declared.Expr.{Expr}
use Rattle.loop_syntax.specs.declared.Expr.TheVariants.{Int, Var, Cell', Rows, Cols, Neg', Bin'}
use Rattle.loop_syntax.specs.declared.RowAt.TheVariants as row
use Rattle.loop_syntax.specs.declared.Carry.{Carry}
use Rattle.loop_syntax.specs.declared.Carry.TheVariants as carry
use Rattle.loop_syntax.specs.declared.Reduce.{Reduce}
use Rattle.loop_syntax.specs.declared.App.{App}
use Rattle.loop_syntax.specs.declared.Stmt.{Stmt, Row_of-Stmt, end_of-Stmt, more_of-Stmt}
use Rattle.loop_syntax.specs.declared.Stmt.TheVariants.{Let, Set, Put, If', While', Loop', Par'}
use Rattle.loop_syntax.specs.declared.Stmt.TheVariants.{Fold, Call, Both, Print, Emit, Leave, Fill}
use Rattle.loop_syntax.specs.declared.Func.{Func}
use Rattle.loop_syntax.specs.declared.TableDecl.{TableDecl}
use Rattle.loop_syntax.specs.declared.TableDecl.TheVariants.{Input, Made}
use Rattle.loop_syntax.specs.declared.Program.{Program}
use Rattle.loop_rules.specs.declared.part.Part.{Part}
use Rattle.loop_rules.specs.declared.part.Part.TheVariants.{OfSize, OfFunc, OfMain}
use Rattle.loop_rules.specs.Declarations.{declared_list, table_of_decl, tables_of_decls}
use Rattle.loop_rules.specs.Names.{texts}
use Rattle.loop_rules.specs.Targets.{targets_all}

-- a `par`: the variables that are declared outside its body, and its own variable, carry list and
-- reduce list
pub record Loop : Type 0 where
  pub outside : List (List ℕ)
  pub var : List ℕ
  pub carries : List Carry
  pub reduces : List Reduce

-- what is done at a place
pub data Act : Type 0 where
  -- a table or a function is declared
  DeclaresTable : Name → Act
  DeclaresFunc : Func → Act
  -- a function or main declares these variables, in this order
  DeclaresAll : List Name → Act
  -- a variable is declared, used, set, or folded into
  Declares : Name → Act
  Uses : Name → Act
  Assigns : Name → Act
  Folds : Name → Act
  -- the two targets of a `both`
  AssignsBoth : Name → Name → Act
  -- a table is named; a cell of it is read or written
  NamesTable : Name → Act
  ReadsCell : Name → Expr → Expr → Act
  WritesCell : Name → Expr → Expr → Act
  -- a function is called with so many arguments
  Calls : Name → ℕ → Act
  -- an expression stands that isn't inside another one
  Evaluates : Expr → Act
  -- a `print` or an `emit`
  Shows : Place → Act
  -- a `par`, with its place and that of its word `carry`
  Parallel : Place → Place → Loop → Act
  -- the target of a `leave`, and those of all whose nearest `par` stands here
  Leaves : Name → Act
  LeavesAll : List Name → Act

-- the part of the program; the visible tables, functions and variables; those of the variables that
-- are a loop's; the number of `par` loops round, and these loops, nearest first
pub record Spot : Type 0 where
  pub part : Part
  pub tables : List Name
  pub funcs : List Func
  pub scope : List (List ℕ)
  pub loops : List (List ℕ)
  pub depth : ℕ
  pub rounds : List Loop

pub record Site : Type 0 where
  pub act : Act
  pub spot : Spot

abbrev pub site : Spot → Act → Site
site spot act = record { act = act; spot = spot }

-- ---- expressions

abbrev pub in_expr : Spot → Expr → List Site
in_expr spot (Int n p) = []
in_expr spot (Var variable) = site spot (Uses variable) ∷ []
in_expr spot (Cell' table p row_index q column_index) =
    site spot (NamesTable table) ∷ site spot (ReadsCell table row_index column_index)
    ∷ in_expr spot row_index ++ in_expr spot column_index
in_expr spot (Rows table) = site spot (NamesTable table) ∷ []
in_expr spot (Cols table) = site spot (NamesTable table) ∷ []
in_expr spot (Neg' p negated place) = in_expr spot negated
in_expr spot (Bin' op place p left q right) = in_expr spot left ++ in_expr spot right

-- an expression that isn't inside another one
abbrev pub in_whole : Spot → Expr → List Site
in_whole spot expression = site spot (Evaluates expression) ∷ in_expr spot expression

abbrev pub in_args : Spot → List Expr → List Site
in_args spot [] = []
in_args spot (argument ∷ arguments) = in_whole spot argument ++ in_args spot arguments

abbrev pub in_app : Spot → App → List Site
in_app spot call =
    site spot (Calls call.callee (length call.args.items)) ∷ in_args spot call.args.items

-- ---- clauses of a `par`

-- the tables of a carry list, and the variables that stand there as rows
abbrev pub in_carries : Spot → List Carry → List Site
in_carries spot [] = []
in_carries spot (carry.Rows table variable ∷ items) =
    site spot (NamesTable table) ∷ in_carries spot items
in_carries spot (carry.Cells table (row.Var row_variable) column ∷ items) =
    site spot (NamesTable table) ∷ site spot (Uses row_variable) ∷ in_carries spot items
in_carries spot (carry.Cells table (row.Int number) column ∷ items) =
    site spot (NamesTable table) ∷ in_carries spot items

-- ---- statements

abbrev pub declared_var : Spot → Name → Spot
declared_var spot variable = record spot { scope = spot.scope ++ variable.text.items ∷ [] }

-- the body of a loop over that variable
abbrev pub in_loop : Spot → Name → Spot
in_loop spot variable = record spot {
  scope = spot.scope ++ variable.text.items ∷ [];
  loops = spot.loops ++ variable.text.items ∷ [];
}

abbrev pub the_loop : Spot → Name → List Carry → List Reduce → Loop
the_loop spot variable carries reduces =
    record { outside = spot.scope; var = variable.text.items; carries = carries; reduces = reduces }

-- the body of a `par` over that variable
abbrev pub in_par : Spot → Name → List Carry → List Reduce → Spot
in_par spot variable carries reduces = record spot {
  scope = spot.scope ++ variable.text.items ∷ [];
  loops = spot.loops ++ variable.text.items ∷ [];
  depth = suc spot.depth;
  rounds = the_loop spot variable carries reduces ∷ spot.rounds;
}

abbrev pub spot_after : Spot → Stmt → Spot
spot_after spot (Let variable value) = declared_var spot variable
spot_after spot _ = spot

abbrev mutual
  pub in_stmt : Spot → Stmt → List Site
  in_stmt spot (Let variable value) = site spot (Declares variable) ∷ in_whole spot value
  in_stmt spot (Set variable value) = site spot (Assigns variable) ∷ in_whole spot value
  in_stmt spot (Put table row_index column_index value) =
      site spot (NamesTable table) ∷ site spot (WritesCell table row_index column_index)
      ∷ in_whole spot row_index
      ++ (in_whole spot column_index ++ in_whole spot value)
  in_stmt spot (If' condition p body q other) =
      in_whole spot condition ++ (in_all spot body ++ in_all spot other)
  in_stmt spot (While' condition p body) = in_whole spot condition ++ in_all spot body
  in_stmt spot (Loop' variable from to p body) =
      site spot (Declares variable) ∷ in_whole spot from
      ++ (in_whole spot to ++ in_all (in_loop spot variable) body)
  in_stmt spot (Par' place variable from to carry_place carries reduces p body) =
      site spot (Parallel place carry_place (the_loop spot variable carries.items reduces.items))
      ∷ site spot (LeavesAll (targets_all body))
      ∷ site spot (Declares variable)
      ∷ in_whole spot from
      ++ (in_whole spot to
      ++ (in_carries spot carries.items
      ++ in_all (in_par spot variable carries.items reduces.items) body))
  in_stmt spot (Fold variable value) = site spot (Folds variable) ∷ in_whole spot value
  in_stmt spot (Call variable call) = site spot (Assigns variable) ∷ in_app spot call
  in_stmt spot (Both first first_call second second_call) =
      site spot (Assigns first) ∷ in_app spot first_call
      ++ (site spot (Assigns second) ∷ site spot (AssignsBoth first second)
      ∷ in_app spot second_call)
  in_stmt spot (Print place value) = site spot (Shows place) ∷ in_whole spot value
  in_stmt spot (Emit place table) = site spot (Shows place) ∷ site spot (NamesTable table) ∷ []
  in_stmt spot (Leave target value) = site spot (Leaves target) ∷ in_whole spot value
  in_stmt spot (Fill callee table row_variable arguments) = []

  pub in_all : {m : _} → Spot → Row_of-Stmt m → List Site
  in_all spot end_of-Stmt = []
  in_all spot (more_of-Stmt first rest) = in_stmt spot first ++ in_all (spot_after spot first) rest

abbrev pub in_list : Spot → List Stmt → List Site
in_list spot [] = []
in_list spot (statement ∷ statements) =
    in_stmt spot statement ++ in_list (spot_after spot statement) statements

abbrev pub spot_of_list : Spot → List Stmt → Spot
spot_of_list spot [] = spot
spot_of_list spot (statement ∷ statements) = spot_of_list (spot_after spot statement) statements

-- ---- declarations

-- the declared tables
abbrev pub tables_of : Program → List Name
tables_of program = tables_of_decls program.tables.items

-- where no variable is visible
abbrev pub top : Part → List Name → List Func → Spot
top part tables funcs =
    record {
      part = part;
      tables = tables;
      funcs = funcs;
      scope = [];
      loops = [];
      depth = 0;
      rounds = [];
    }

-- a declared table behind those, and its size: there the tables before are visible, and no variable
-- is
abbrev pub in_decl : List Func → List Name → TableDecl → List Site
in_decl funcs before (Input table) = site (top OfSize before funcs) (DeclaresTable table) ∷ []
in_decl funcs before (Made table rows columns) =
    site (top OfSize before funcs) (DeclaresTable table) ∷ in_whole (top OfSize before funcs) rows
    ++ in_whole (top OfSize before funcs) columns

abbrev pub in_decls : List Func → List Name → List TableDecl → List Site
in_decls funcs before [] = []
in_decls funcs before (declaration ∷ declarations) =
    in_decl funcs before declaration
    ++ in_decls funcs (before ++ table_of_decl declaration ∷ []) declarations

-- the parameters of a function, each visible from the next one on
abbrev pub in_params : Spot → List Name → List Site
in_params spot [] = []
in_params spot (param ∷ params) =
    site spot (Declares param) ∷ in_params (declared_var spot param) params

-- where the body of a function begins
abbrev pub func_spot : Program → Func → Spot
func_spot program func =
    record (top OfFunc (tables_of program) program.funcs.items) { scope = texts func.params.items }

abbrev pub in_func : Program → Func → List Site
in_func program func =
    site (func_spot program func) (DeclaresAll (func.params.items ++ declared_list func.body.items))
    ∷ in_params (top OfFunc (tables_of program) program.funcs.items) func.params.items
    ++ (in_list (func_spot program func) func.body.items
    ++ in_whole (spot_of_list (func_spot program func) func.body.items) func.result)

-- the functions, those before being declared already
abbrev pub in_funcs : Program → List Func → List Func → List Site
in_funcs program before [] = []
in_funcs program before (func ∷ funcs) =
    site (top OfFunc (tables_of program) before) (DeclaresFunc func) ∷ in_func program func
    ++ in_funcs program (before ++ func ∷ []) funcs

abbrev pub main_spot : Program → Spot
main_spot program = top OfMain (tables_of program) program.funcs.items

abbrev pub in_main : Program → List Site
in_main program =
    site (main_spot program) (DeclaresAll (declared_list program.main.items))
    ∷ in_list (main_spot program) program.main.items

abbrev pub sites : Program → List Site
sites program =
    in_decls program.funcs.items [] program.tables.items
    ++ (in_funcs program [] program.funcs.items ++ in_main program)
