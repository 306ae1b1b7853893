-- The code that makes tables is written where that of their sizes is.
use Rattle.std.proofs.Common.{◌≡◌, ℕ, zero, suc, ◌+◌, ◌<◌, ◌≤◌, List, [], ◌∷◌, ◌++◌, length, map}
use Rattle.std.proofs.Common.{get_or, Vec, refl, sym, ap, subst, ◌∙◌, arith, append_assoc}
use Rattle.std.proofs.Common.{append-nil}
use Rattle.std.specs.List.{AllByRecursion}
use Rattle.std.proofs.lemmas.List.{length-map}
use Rattle.std.specs.declared.alloc.Global.{Global}
use Rattle.loop_syntax.specs.declared.Expr.{Expr}
use Rattle.loop_syntax.specs.declared.Name.{Name}
use Rattle.loop_syntax.specs.declared.TableDecl.{TableDecl}
use Rattle.loop_syntax.specs.declared.TableDecl.TheVariants.{Input, Made}
use Rattle.loop_rules.specs.Declarations.{table_of_decl, tables_of_decls}
use Rattle.loop_rules.specs.Names.{texts}
use Rattle.loop_rules.specs.Sites.{tables_of}
use Rattle.loop_syntax.specs.declared.Program.{Program}
use Rattle.tpal_syntax.specs.declared.instructions.Instr.{Instr}
use Rattle.tpal_syntax.specs.declared.instructions.Instr.TheVariants as instr
use Rattle.tpal_syntax.specs.declared.instructions.Value.TheVariants as value
use Rattle.tpal_syntax.specs.Listing.{Listing}
use Rattle.expr_lower.specs.declared.scope.Scope.{Scope}
use Rattle.block_lower.specs.declared.body.Body.{Body}
use Rattle.block_lower.specs.declared.output.Output.{Output}
use Rattle.block_lower.specs.Bodies.{activation, HasRoomFor}
use Rattle.scene_laws.specs.Code.{Computes, store, load}
use Rattle.code_laws.specs.Fitting.{DeclsFit}
use Rattle.scene_laws.specs.Heights.{DeclIsLow}
use Rattle.scene_laws.specs.Layout.{value_cell, Activation}
use Rattle.block_lower.specs.Lowering.{WritesValue}
use Rattle.form_laws.specs.Functions.{Makes, no_table, input_table, made_table, made_kept_table}
use Rattle.form_laws.specs.Functions.{table_name}
use Rattle.scene_laws.specs.Names.{Sees, SeesAs, SeesBare}
use Rattle.block_lower.specs.Programs.{SeesTables, WritesMakes}
use Rattle.scene_laws.specs.Sizes.{kept_by_decl, kept_by_decls}
use Rattle.block_lower.specs.Writing.{Pushes, Leads}
use Rattle.block_lower.proofs.Written.Stepping.{room_within}
use Rattle.block_lower.proofs.Written.Standing.{sees_bare}
use Rattle.block_lower.proofs.Written.Writing.{pushed}

-- ---- names of tables

pub decl_name : (d : TableDecl) → (table_of_decl d).text.items ≡ table_name d
decl_name (Input x) = refl
decl_name (Made x a b) = refl

names_of_decls : (ds : List TableDecl) → texts (tables_of_decls ds) ≡ map table_name ds
names_of_decls [] = refl
names_of_decls (d ∷ ds) = ap (λ (x : List ℕ). x ∷ texts (tables_of_decls ds)) (decl_name d) ∙ ap (λ (xs : List (List ℕ)). table_name d ∷ xs) (names_of_decls ds)

pub names_of_tables : (p : Program) → texts (tables_of p) ≡ map table_name p.tables.items
names_of_tables p = names_of_decls p.tables.items

-- as many tables as names
pub as_many_tables : (scope : Scope) (names tables : List (List ℕ)) → Sees scope names tables → length scope.tables.items ≡ length tables
as_many_tables scope names tables sees = sym (length-map scope.tables.items (λ (t : Vec ℕ Global). t.items)) ∙ ap (λ (ts : List (List ℕ)). length ts) sees.listed

-- ---- one table

module _ (on : Body) (scope : Scope) where
  pub input_written : (x : Name) (old : Output) → WritesMakes on scope (Input x ∷ []) old old
  input_written x old code tables seen more last sees fits c = record { instrs = more; end = last; continues = c; told = (refl, input_table no_table) }

  pub made_written : (x : Name) (a b : Expr) (table : ℕ) (old rows cols new : Output) → table ≡ length scope.tables.items → WritesValue scope a 0 old rows → WritesValue scope b 1 rows cols → Pushes (instr.Make table 0 1 x.place ∷ []) cols new → WritesMakes on scope (Made x a b ∷ []) old new
  made_written x a b table old rows cols new number first second push code tables seen more last sees fits c =
      let act : Activation = record (activation on tables) { tables = seen } in
      let make : ℕ → Instr = λ n. instr.Make n 0 1 x.place in
      let count : table ≡ length seen = number ∙ as_many_tables scope [] seen sees.sees in
      let bare : SeesAs scope [] seen [] = sees_bare sees.bare sees.sees in
      let w : Leads code rows (λ instrs end. (end ≡ last) × Computes code act [] [] b 1 instrs (make table ∷ more)) =
      second code act [] [] (make table ∷ more) last bare fits.0.1 (pushed code cols new (make table ∷ []) more last push c) in
      let v : Leads code old (λ instrs end. (end ≡ w.end) × Computes code act [] [] a 0 instrs w.instrs) = first code act [] [] w.instrs w.end bare fits.0.0 w.continues in
      record {
        instrs = v.instrs;
        end = v.end;
        continues = v.continues;
        told = (v.told.0 ∙ w.told.0, made_table v.told.1 (subst (λ (n : ℕ). Computes code act [] [] b 1 w.instrs (make n ∷ more)) count w.told.1) no_table);
      }

  pub made_kept_written : (x : Name) (a b : Expr) (table : ℕ) (old rows keeps cols loads new : Output) → table ≡ length scope.tables.items → HasRoomFor on 1 → WritesValue scope a 0 old rows → Pushes (store (value_cell on.most + 0) (value.Reg 0) ∷ []) rows keeps
      → WritesValue scope b 0 keeps cols → Pushes (load 1 (value_cell on.most + 0) ∷ []) cols loads → Pushes (instr.Make table 1 0 x.place ∷ []) loads new → WritesMakes on scope (Made x a b ∷ []) old new
  made_kept_written x a b table old rows keeps cols loads new number room first keep second loading push code tables seen more last sees fits c =
      let act : Activation = record (activation on tables) { tables = seen } in
      let make : ℕ → Instr = λ n. instr.Make n 1 0 x.place in
      let kept : Instr = store (value_cell on.most + 0) (value.Reg 0) in
      let loaded : Instr = load 1 (value_cell on.most + 0) in
      let count : table ≡ length seen = number ∙ as_many_tables scope [] seen sees.sees in
      let bare : SeesAs scope [] seen [] = sees_bare sees.bare sees.sees in
      let w : Leads code keeps (λ instrs end. (end ≡ last) × Computes code act [] [] b 0 instrs (loaded ∷ make table ∷ more)) =
      second code act [] [] (loaded ∷ make table ∷ more) last bare fits.0.1
      (pushed code cols loads (loaded ∷ []) _ last loading (pushed code loads new (make table ∷ []) more last push c)) in
      let v : Leads code old (λ instrs end. (end ≡ w.end) × Computes code act [] [] a 0 instrs (kept ∷ w.instrs)) =
      first code act [] [] (kept ∷ w.instrs) w.end bare fits.0.0 (pushed code rows keeps (kept ∷ []) w.instrs w.end keep w.continues) in
      record {
        instrs = v.instrs;
        end = v.end;
        continues = v.continues;
        told = (v.told.0 ∙ w.told.0, made_kept_table {instrs = v.instrs} room.room v.told.1 (subst (λ (n : ℕ). Computes code act [] [] b 0 w.instrs (loaded ∷ make n ∷ more)) count w.told.1) no_table);
      }

-- ---- tables in order

module _ (code : Listing) (act : Activation) where
  pub makes_more : (ds : List TableDecl) (d : TableDecl) {seen : List (List ℕ)} {instrs middle more : List Instr} → Makes code act seen ds instrs middle → Makes code act (seen ++ map table_name ds) (d ∷ []) middle more → Makes code act seen (ds ++ d ∷ []) instrs more
  makes_more [] d {seen} {instrs} {middle} {more} no_table one = subst (λ (ts : List (List ℕ)). Makes code act ts (d ∷ []) middle more) (append-nil seen) one
  makes_more (Input x ∷ ds) d {seen} {instrs} {middle} {more} (input_table rest) one =
      input_table (makes_more ds d rest (subst (λ (ts : List (List ℕ)). Makes code act ts (d ∷ []) middle more) (sym (append_assoc seen (x.text.items ∷ []) (map table_name ds))) one))
  makes_more (Made x a b ∷ ds) d {seen} {instrs} {middle} {more} (made_table first second rest) one =
      made_table first second (makes_more ds d rest (subst (λ (ts : List (List ℕ)). Makes code act ts (d ∷ []) middle more) (sym (append_assoc seen (x.text.items ∷ []) (map table_name ds))) one))
  makes_more (Made x a b ∷ ds) d {seen} {instrs} {middle} {more} (made_kept_table room first second rest) one =
      made_kept_table room first second (makes_more ds d rest (subst (λ (ts : List (List ℕ)). Makes code act ts (d ∷ []) middle more) (sym (append_assoc seen (x.text.items ∷ []) (map table_name ds))) one))

fits_before : (seen : List (List ℕ)) (ds es : List TableDecl) → DeclsFit seen (ds ++ es) → DeclsFit seen ds
fits_before seen [] es fits = tt
fits_before seen (d ∷ ds) es fits = (fits.0, fits.1, fits_before (seen ++ (table_of_decl d).text.items ∷ []) ds es fits.2)

fits_behind : (seen : List (List ℕ)) (ds es : List TableDecl) → DeclsFit seen (ds ++ es) → DeclsFit (seen ++ map table_name ds) es
fits_behind seen [] es fits = subst (λ (ts : List (List ℕ)). DeclsFit ts es) (sym (append-nil seen)) fits
fits_behind seen (d ∷ ds) es fits =
    subst (λ (ts : List (List ℕ)). DeclsFit ts es)
    (ap (λ (x : List ℕ). (seen ++ x ∷ []) ++ map table_name ds) (decl_name d) ∙ append_assoc seen (table_name d ∷ []) (map table_name ds))
    (fits_behind (seen ++ (table_of_decl d).text.items ∷ []) ds es fits.2)

pub no_makes_written : (on : Body) (scope : Scope) (old : Output) → WritesMakes on scope [] old old
no_makes_written on scope old code tables seen more last sees fits c = record { instrs = more; end = last; continues = c; told = (refl, no_table) }

pub makes_written : (on : Body) (first scope : Scope) (ds : List TableDecl) (d : TableDecl) (old middle new : Output) → WritesMakes on first ds old middle → SeesTables (λ tables. tables ++ map table_name ds) first scope
    → WritesMakes on scope (d ∷ []) middle new → WritesMakes on first (ds ++ d ∷ []) old new
makes_written on first scope ds d old middle new all keeps one code tables seen more last sees fits c =
    let act : Activation = activation on tables in
    let w : Leads code middle (λ instrs end. (end ≡ last) × Makes code act (seen ++ map table_name ds) (d ∷ []) instrs more) =
    one code tables (seen ++ map table_name ds) more last (keeps [] seen sees) (fits_behind seen ds (d ∷ []) fits) c in
    let v : Leads code old (λ instrs end. (end ≡ w.end) × Makes code act seen ds instrs w.instrs) = all code tables seen w.instrs w.end sees (fits_before seen ds (d ∷ []) fits) w.continues in
    record { instrs = v.instrs; end = v.end; continues = v.continues; told = (v.told.0 ∙ w.told.0, makes_more code act ds d v.told.1 w.told.1) }

-- ---- which tables are visible

names_more : (ds : List TableDecl) (d : TableDecl) → map table_name (ds ++ d ∷ []) ≡ map table_name ds ++ table_name d ∷ []
names_more [] d = refl
names_more (e ∷ es) d = ap (λ (xs : List (List ℕ)). table_name e ∷ xs) (names_more es d)

pub sees_no_table : (scope : Scope) → SeesTables (λ tables. tables ++ map table_name []) scope scope
sees_no_table scope names tables sees = subst (λ (ts : List (List ℕ)). SeesBare scope names ts) (sym (append-nil tables)) sees

pub sees_next_table : (ds : List TableDecl) (d : TableDecl) (first middle new : Scope) → SeesTables (λ tables. tables ++ map table_name ds) first middle → SeesTables (λ tables. tables ++ table_name d ∷ []) middle new → SeesTables (λ tables. tables ++ map table_name (ds ++ d ∷ [])) first new
sees_next_table ds d first middle new all one names tables sees =
    subst (λ (ts : List (List ℕ)). SeesBare new names ts)
    (append_assoc tables (map table_name ds) (table_name d ∷ []) ∙ ap (λ (xs : List (List ℕ)). tables ++ xs) (sym (names_more ds d)))
    (one names (tables ++ map table_name ds) (all names tables sees))

-- ---- what is asked of each

pub low_of_fit : (seen : List (List ℕ)) (ds : List TableDecl) → DeclsFit seen ds → AllByRecursion DeclIsLow ds
low_of_fit seen [] fits = tt
low_of_fit seen (d ∷ ds) fits = (fits.1, low_of_fit (seen ++ (table_of_decl d).text.items ∷ []) ds fits.2)

kept_from : (ds : List TableDecl) (i : ℕ) (d : TableDecl) → i < length ds → kept_by_decl (get_or ds i d) ≤ kept_by_decls ds
kept_from [] i d below = absurd (omega arith)
kept_from (e ∷ es) zero d below = omega arith
kept_from (e ∷ es) (suc i) d below = omega (arith, kept_from es i d (omega arith))

-- where there is room for what is kept for each of the tables, there is for one of them
pub room_at : (on : Body) (ds : List TableDecl) (i : ℕ) (d : TableDecl) → i < length ds → d ≡ get_or ds i d → HasRoomFor on (kept_by_decls ds) → HasRoomFor on (kept_by_decl d)
room_at on ds i d below is room =
    let few : kept_by_decl d ≤ kept_by_decls ds = subst (λ (e : TableDecl). kept_by_decl e ≤ kept_by_decls ds) (sym is) (kept_from ds i d below) in
    room_within on (kept_by_decls ds) (kept_by_decl d) few room
