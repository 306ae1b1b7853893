use Rattle.std.proofs.Common.{◌≡◌, List, [], ◌∷◌, ◌++◌, map, refl, ap, sym, ◌∙◌}
use Rattle.std.proofs.lemmas.List.{map-append}
use Rattle.loop_syntax.specs.Tree.{table_of, func_of, TableTree, FuncTree}
use Rattle.loop_parse.specs.declared.declaration.Decl.{Decl}
use Rattle.loop_parse.specs.Heads.{decl_of}
use Rattle.loop_parse.specs.Grammar.{DeclTree, DTable, DFunc, tables_in, funcs_in}
use Rattle.loop_parse.proofs.declaration.assembled.Goals as goal

tables_in-table : (ds : List DeclTree) (t : TableTree) → tables_in (ds ++ DTable t ∷ []) ≡ tables_in ds ++ t ∷ []
tables_in-table [] t = refl
tables_in-table (DTable u ∷ ds) t = ap (λ ts. u ∷ ts) (tables_in-table ds t)
tables_in-table (DFunc f ∷ ds) t = tables_in-table ds t

tables_in-func : (ds : List DeclTree) (f : FuncTree) → tables_in (ds ++ DFunc f ∷ []) ≡ tables_in ds
tables_in-func [] f = refl
tables_in-func (DTable u ∷ ds) f = ap (λ ts. u ∷ ts) (tables_in-func ds f)
tables_in-func (DFunc g ∷ ds) f = tables_in-func ds f

funcs_in-table : (ds : List DeclTree) (t : TableTree) → funcs_in (ds ++ DTable t ∷ []) ≡ funcs_in ds
funcs_in-table [] t = refl
funcs_in-table (DTable u ∷ ds) t = funcs_in-table ds t
funcs_in-table (DFunc f ∷ ds) t = ap (λ fs. f ∷ fs) (funcs_in-table ds t)

funcs_in-func : (ds : List DeclTree) (f : FuncTree) → funcs_in (ds ++ DFunc f ∷ []) ≡ funcs_in ds ++ f ∷ []
funcs_in-func [] f = refl
funcs_in-func (DTable u ∷ ds) f = funcs_in-func ds f
funcs_in-func (DFunc g ∷ ds) f = ap (λ fs. g ∷ fs) (funcs_in-func ds f)

-- one declaration more
one_more : (ds : List Decl) (d : Decl) (t : DeclTree) → decl_of d ≡ t → map decl_of (ds ++ d ∷ []) ≡ map decl_of ds ++ t ∷ []
one_more ds d t is = map-append decl_of ds (d ∷ []) ∙ ap (λ u. map decl_of ds ++ u ∷ []) is

pub loop-found-preserved-in-Continue-1 : goal.loop-found-preserved-in-Continue-1
loop-found-preserved-in-Continue-1 c =
    let ds = map decl_of c.loop-found.yielded in
    let t = table_of c.in-Table.table in
    let more = one_more c.loop-found.yielded c.in-Some.found (DTable t) (ap decl_of c.in-Table.is) in (
      ap (map table_of) c.in_ok-push-in-Table.ensures.items ∙ map-append table_of c.loop-found.tables.items (c.in-Table.table ∷ []) ∙ ap (λ ts. ts ++ t ∷ []) c.loop-found.invariant.0
          ∙ sym (tables_in-table ds t) ∙ sym (ap tables_in more),
      c.loop-found.invariant.1 ∙ sym (funcs_in-table ds t) ∙ sym (ap funcs_in more),
    )

pub loop-found-preserved : goal.loop-found-preserved
loop-found-preserved c =
    let ds = map decl_of c.loop-found.yielded in
    let f = func_of c.in-Func.func in
    let more = one_more c.loop-found.yielded c.in-Some.found (DFunc f) (ap decl_of c.in-Func.is) in (
      c.loop-found.invariant.0 ∙ sym (tables_in-func ds f) ∙ sym (ap tables_in more),
      ap (map func_of) c.in_ok-push-in-Func.ensures.items ∙ map-append func_of c.loop-found.funcs.items (c.in-Func.func ∷ []) ∙ ap (λ fs. fs ++ f ∷ []) c.loop-found.invariant.1
          ∙ sym (funcs_in-func ds f) ∙ sym (ap funcs_in more),
    )
