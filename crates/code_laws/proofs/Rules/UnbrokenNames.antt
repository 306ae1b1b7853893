-- The names of tables and functions differ where no rule is broken.
use Rattle.std.proofs.Common.{◌≡◌, ℕ, Bool, true, false, List, [], ◌∷◌, ◌++◌, bytes_eq, Option}
use Rattle.std.proofs.Common.{Some, refl, sym, ap, subst}
use Rattle.std.specs.Prelude.{◌||◌, not}
use Rattle.std.specs.List.{AllByRecursion, IsDistinct}
use Rattle.loop_syntax.specs.declared.Func.{Func}
use Rattle.loop_syntax.specs.declared.Name.{Name}
use Rattle.loop_syntax.specs.declared.Program.{Program}
use Rattle.loop_syntax.specs.declared.TableDecl.{TableDecl}
use Rattle.loop_syntax.specs.declared.TableDecl.TheVariants.{Input, Made}
use Rattle.loop_rules.specs.declared.part.Part.TheVariants.{OfSize}
use Rattle.loop_rules.specs.Declarations.{table_of_decl, tables_of_decls}
use Rattle.loop_rules.specs.Names.{is_in, texts, func_names, first_named, func_of}
use Rattle.loop_rules.specs.Scopes.{is_before, is_table_by, is_func_before}
use Rattle.loop_rules.specs.Sites.{Site, site, DeclaresTable, top, in_decl, in_decls, in_func}
use Rattle.loop_rules.specs.Sites.{in_funcs, tables_of}
use Rattle.loop_check.proofs.Bools.{or_left, or_right, not_false, no_both}
use Rattle.loop_check.proofs.Fine.{at_none}
use Rattle.loop_check.proofs.Found.{eq_is, is_in_end, is_in_more}
use Rattle.loop_check.proofs.Lists.{Each, each_left, each_right}
use Rattle.code_laws.proofs.Rules.UnbrokenExpressions.{Keeps}

-- ---- names that differ

-- each name is none of those before it
abbrev AreNew : List (List ℕ) → List (List ℕ) → Type 0
AreNew seen [] = Unit
AreNew seen (y ∷ ys) = (is_in seen y ≡ false) × AreNew (seen ++ y ∷ []) ys

differ_from : (seen : List (List ℕ)) (x : List ℕ) (ys : List (List ℕ)) → is_in seen x ≡ true → AreNew seen ys → AllByRecursion (λ y. bytes_eq x y ≡ false) ys
differ_from seen x [] here new = tt
differ_from seen x (y ∷ ys) here new = (go (bytes_eq x y) refl, differ_from (seen ++ y ∷ []) x ys (is_in_more seen y x here) new.1)
  where
    go : (b : Bool) → bytes_eq x y ≡ b → b ≡ false
    go true e = absurd (no_both (is_in seen y) (subst (λ (z : List ℕ). is_in seen z ≡ true) (eq_is x y e) here) new.0)
    go false e = refl

distinct : (seen ys : List (List ℕ)) → AreNew seen ys → IsDistinct bytes_eq ys
unfolding IsDistinct
distinct seen [] new = tt
distinct seen (y ∷ ys) new = (differ_from (seen ++ y ∷ []) y ys (is_in_end seen y) new.1, distinct (seen ++ y ∷ []) ys new.1)

-- ---- tables

pub texts_more : (xs : List Name) (x : Name) → texts (xs ++ x ∷ []) ≡ texts xs ++ x.text.items ∷ []
texts_more [] x = refl
texts_more (y ∷ ys) x = ap (λ (zs : List (List ℕ)). y.text.items ∷ zs) (texts_more ys x)

pub declares_table : (fs : List Func) (before : List Name) (d : TableDecl) → Each Keeps (in_decl fs before d) → Keeps (site (top OfSize before fs) (DeclaresTable (table_of_decl d)))
declares_table fs before (Input t) k = k.0
declares_table fs before (Made t a b) k = k.0

new_table : (fs : List Func) (before : List Name) (t : Name) → Keeps (site (top OfSize before fs) (DeclaresTable t)) → is_in (texts before) t.text.items ≡ false
new_table fs before t k =
    or_left (is_in (texts before) t.text.items) (is_func_before (func_of fs t.text.items) t)
    (at_none t (is_in (texts before) t.text.items || is_func_before (func_of fs t.text.items) t) k.names)

tables_new : (fs : List Func) (before : List Name) (ds : List TableDecl) → Each Keeps (in_decls fs before ds) → AreNew (texts before) (texts (tables_of_decls ds))
tables_new fs before [] k = tt
tables_new fs before (d ∷ ds) k =
    let t : Name = table_of_decl d in
    let rest : List Site = in_decls fs (before ++ t ∷ []) ds in (
      new_table fs before t (declares_table fs before d (each_left Keeps (in_decl fs before d) rest k)),
      subst (λ (seen : List (List ℕ)). AreNew seen (texts (tables_of_decls ds))) (texts_more before t) (tables_new fs (before ++ t ∷ []) ds (each_right Keeps (in_decl fs before d) rest k)),
    )

pub tables_distinct : (fs : List Func) (ds : List TableDecl) → Each Keeps (in_decls fs [] ds) → IsDistinct bytes_eq (texts (tables_of_decls ds))
tables_distinct fs ds k = distinct [] (texts (tables_of_decls ds)) (tables_new fs [] ds k)

-- ---- functions

names_more : (fs : List Func) (f : Func) → func_names (fs ++ f ∷ []) ≡ func_names fs ++ f.name.text.items ∷ []
names_more [] f = refl
names_more (g ∷ gs) f = ap (λ (zs : List (List ℕ)). g.name.text.items ∷ zs) (names_more gs f)

funcs_new : (p : Program) (before fs : List Func) → Each Keeps (in_funcs p before fs) → AreNew (func_names before) (func_names fs)
funcs_new p before [] k = tt
funcs_new p before (f ∷ fs) k =
    let seen : Bool = is_in (func_names before) f.name.text.items in
    let table : Bool = is_table_by (first_named (tables_of p) f.name.text.items) f.name in (
      or_left seen table (at_none f.name (seen || table) k.0.names),
      subst (λ (names : List (List ℕ)). AreNew names (func_names fs)) (names_more before f) (funcs_new p (before ++ f ∷ []) fs (each_right Keeps (in_func p f) (in_funcs p (before ++ f ∷ []) fs) k.1)),
    )

pub funcs_distinct : (p : Program) (fs : List Func) → Each Keeps (in_funcs p [] fs) → IsDistinct bytes_eq (func_names fs)
funcs_distinct p fs k = distinct [] (func_names fs) (funcs_new p [] fs k)

-- ---- tables and functions

-- no function of its name is declared before a table
abbrev IsFirstTable : List Func → Name → Type 0
IsFirstTable fs t = is_func_before (func_of fs t.text.items) t ≡ false

-- no table of its name is declared before a function
abbrev IsFirstFunc : List Name → Func → Type 0
IsFirstFunc ts f = is_table_by (first_named ts f.name.text.items) f.name ≡ false

first_tables : (fs : List Func) (before : List Name) (ds : List TableDecl) → Each Keeps (in_decls fs before ds) → AllByRecursion (IsFirstTable fs) (tables_of_decls ds)
first_tables fs before [] k = tt
first_tables fs before (d ∷ ds) k =
    let t : Name = table_of_decl d in
    let rest : List Site = in_decls fs (before ++ t ∷ []) ds in
    let here : Keeps (site (top OfSize before fs) (DeclaresTable t)) = declares_table fs before d (each_left Keeps (in_decl fs before d) rest k) in
    let seen : Bool = is_in (texts before) t.text.items in
    let func : Bool = is_func_before (func_of fs t.text.items) t in (
      or_right seen func (at_none t (seen || func) here.names),
      first_tables fs (before ++ t ∷ []) ds (each_right Keeps (in_decl fs before d) rest k),
    )

first_funcs : (p : Program) (before fs : List Func) → Each Keeps (in_funcs p before fs) → AllByRecursion (IsFirstFunc (tables_of p)) fs
first_funcs p before [] k = tt
first_funcs p before (f ∷ fs) k =
    let seen : Bool = is_in (func_names before) f.name.text.items in
    let table : Bool = is_table_by (first_named (tables_of p) f.name.text.items) f.name in (
      or_right seen table (at_none f.name (seen || table) k.0.names),
      first_funcs p (before ++ f ∷ []) fs (each_right Keeps (in_func p f) (in_funcs p (before ++ f ∷ []) fs) k.1),
    )

-- the first table of a name, where there is one
record TheTable (P : Name → Type 0) (ts : List Name) (x : List ℕ) : Type 0 where
  table : Name
  is : first_named ts x ≡ Some table
  named : table.text.items ≡ x
  holds : P table

the_table : (P : Name → Type 0) (ts : List Name) (x : List ℕ) → AllByRecursion P ts → is_in (texts ts) x ≡ true → TheTable P ts x
the_table P [] x all h = absurd (cc)
the_table P (t ∷ ts) x all h = go (bytes_eq t.text.items x) refl h (the_table P ts x all.1)
  where
    go : (b : Bool) → bytes_eq t.text.items x ≡ b → (b || is_in (texts ts) x) ≡ true → (is_in (texts ts) x ≡ true → TheTable P ts x) → TheTable P (t ∷ ts) x
    go true e h k = record { table = t; is = rw e refl; named = eq_is t.text.items x e; holds = all.0 }
    go false e h k = let the : TheTable P ts x = k h in record { table = the.table; is = rw e the.is; named = the.named; holds = the.holds }

-- the first function of a name, where there is one
record TheFunc (P : Func → Type 0) (fs : List Func) (x : List ℕ) : Type 0 where
  func : Func
  is : func_of fs x ≡ Some func
  named : func.name.text.items ≡ x
  holds : P func

the_func : (P : Func → Type 0) (fs : List Func) (x : List ℕ) → AllByRecursion P fs → is_in (func_names fs) x ≡ true → TheFunc P fs x
the_func P [] x all h = absurd (cc)
the_func P (f ∷ fs) x all h = go (bytes_eq f.name.text.items x) refl h (the_func P fs x all.1)
  where
    go : (b : Bool) → bytes_eq f.name.text.items x ≡ b → (b || is_in (func_names fs) x) ≡ true → (is_in (func_names fs) x ≡ true → TheFunc P fs x) → TheFunc P (f ∷ fs) x
    go true e h k = record { func = f; is = rw e refl; named = eq_is f.name.text.items x e; holds = all.0 }
    go false e h k = let the : TheFunc P fs x = k h in record { func = the.func; is = rw e the.is; named = the.named; holds = the.holds }

-- the first table and the first function of one name would each have to come after the other
pub tables_apart : (p : Program) → Each Keeps (in_decls p.funcs.items [] p.tables.items) → Each Keeps (in_funcs p [] p.funcs.items) → (x : List ℕ) → is_in (texts (tables_of p)) x ≡ true → is_in (func_names p.funcs.items) x ≡ true → ⊥
tables_apart p tables funcs x is_table is_func =
    let t : TheTable (IsFirstTable p.funcs.items) (tables_of p) x = the_table (IsFirstTable p.funcs.items) (tables_of p) x (first_tables p.funcs.items [] p.tables.items tables) is_table in
    let f : TheFunc (IsFirstFunc (tables_of p)) p.funcs.items x = the_func (IsFirstFunc (tables_of p)) p.funcs.items x (first_funcs p [] p.funcs.items funcs) is_func in
    let of_table : func_of p.funcs.items t.table.text.items ≡ Some f.func = subst (λ (y : List ℕ). func_of p.funcs.items y ≡ Some f.func) (sym t.named) f.is in
    let of_func : first_named (tables_of p) f.func.name.text.items ≡ Some t.table = subst (λ (y : List ℕ). first_named (tables_of p) y ≡ Some t.table) (sym f.named) t.is in
    let later : is_before f.func.name.place t.table.place ≡ false = subst (λ (o : Option Func). is_func_before o t.table ≡ false) of_table t.holds in
    let earlier : not (is_before f.func.name.place t.table.place) ≡ false = subst (λ (o : Option Name). is_table_by o f.func.name ≡ false) of_func f.holds in
    no_both (is_before f.func.name.place t.table.place) (not_false (is_before f.func.name.place t.table.place) earlier) later
