use Rattle.std.proofs.Common.{sym, subst, take}
use Rattle.loop_rules.specs.Declarations.{table_of_decl, tables_of_decls}
use Rattle.loop_check.specs.Readers.{IsReaders}
use Rattle.loop_check.specs.Walk.{texts_of}
use Rattle.loop_check.proofs.Reading.{decls_more, readers_more}
use Rattle.loop_check.proofs.readers.all_readers.Goals as goal

pub loop-d-preserved : goal.loop-d-preserved
loop-d-preserved c =
    let p = c.args.program.now in
    let ds = p.tables.items in
    let lt = rw c.deref-d-items.ensures.value at c.loop-d-test.true in
    let is = rw c.deref-d-items.ensures.value at c.d-item.is in
    let own = rw (c.deref.ensures.value, c.name-t.ensures) at c.in_ok-names.ensures in
    let e = rw (c.deref-in-loop-d.ensures.value, c.deref-in-loop-d-2.ensures.value, c.name-t.ensures) at c.in_ok-push_readers.ensures in
    subst (λ ts. IsReaders p ts c.push_readers.new.readers.items) (sym (decls_more ds c.loop-d.d-index c.d-item.result lt is))
    (readers_more p (tables_of_decls (take c.loop-d.d-index ds)) (table_of_decl c.d-item.result) (texts_of c.in_ok-names.names.items) c.loop-d.readers.items c.push_readers.new.readers.items
    c.loop-d.invariant own e)
