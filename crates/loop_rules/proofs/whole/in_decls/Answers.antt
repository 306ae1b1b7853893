use Rattle.std.proofs.Common.{◌≡◌, ◌<◌, ◌∙◌, ◌++◌, ◌∷◌, [], List, ℕ, ap, sym, take, length, get_or}
use Rattle.loop_syntax.specs.declared.Name.{Name}
use Rattle.loop_rules.specs.Declarations.{table_of_decl, tables_of_decls}
use Rattle.loop_rules.specs.Names.{texts}
use Rattle.loop_rules.proofs.Wholes.{decl_names, decls_step}
use Rattle.loop_rules.proofs.whole.in_decls.Goals as goal

pub loop-i-preserved : goal.loop-i-preserved
loop-i-preserved c =
    let p = c.args.program.now in
    let ds = p.tables.items in
    let i = c.loop-i.i in
    let d = c.index-decls-i.result in
    let is : d ≡ get_or ds i d = rw c.as_slice-decls.ensures.value at c.index-decls-i.is in
    let lt : i < length ds = rw c.as_slice-decls.ensures.value at c.loop-i-test.true in
    let e = rw c.as_slice-decls.ensures.value at c.in_declared_table.ensures in
    let text : c.deref.result.now ≡ (table_of_decl d).text.items =
    c.deref.ensures.value ∙ ap {A = Name} {B = List ℕ} (λ n. n.text.items) c.name.ensures in (
      c.in_ok-declare.ensures ∙ ap (λ r. r ++ c.deref.result.now ∷ []) c.loop-i.invariant.0 ∙ ap (λ n. texts (tables_of_decls (take i ds)) ++ n ∷ []) text
          ∙ sym (decl_names ds i d lt is),
      decls_step ds i d lt is p.funcs.items c.loop-i.found c.in_declared_table.new.found e ∙ c.loop-i.invariant.1,
    )
