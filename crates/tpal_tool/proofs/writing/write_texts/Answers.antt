use Rattle.std.proofs.Common.{◌++◌, ◌<◌, [], ℕ, List, length, sym, subst}
use Rattle.std.specs.Prelude.{◌≢◌, Err, Ok, OnErr, Result}
use Rattle.tpal_tool.specs.declared.answer.Texts.{Texts}
use Rattle.tpal_tool.specs.Answering.{whole_of}
use Rattle.tpal_tool.specs.Sink.{Appended, PrefixAppended}
use Rattle.tpal_tool.proofs.ThreeTexts.{on_err, some_back, some_bytes, some_front, second_begun}
use Rattle.tpal_tool.proofs.ThreeTexts.{third_begun}
use Rattle.tpal_tool.proofs.writing.write_texts.Goals as goal

-- what more a failed call says
more_on_err : {A E : Type 0} (r : Result A E) {P Q : Type 0} → (P → Q) → OnErr r P → OnErr r Q
more_on_err (Ok a) more said = tt
more_on_err (Err e) more said = more said

pub returns-in_err-write_text-in-Shown-clause-some :
    goal.returns-in_err-write_text-in-Shown-clause-some
returns-in_err-write_text-in-Shown-clause-some g c =
    let some : c.in-Shown.code.items ≢ [] = some_bytes _ (rw c.deref-in-Shown.ensures.value at c.in_err-write_text-in-Shown.ensures.some) in
    on_err c.from_residual.result (subst (λ (t : Texts). whole_of t ≢ []) (sym c.in-Shown.is)
    (some_front (c.in-Shown.code.items ++ c.in-Shown.output.items) c.in-Shown.counts.items
    (some_front c.in-Shown.code.items c.in-Shown.output.items some)))

pub returns-in_err-write_text-in-Shown-2-clause-some :
    goal.returns-in_err-write_text-in-Shown-2-clause-some
returns-in_err-write_text-in-Shown-2-clause-some g c =
    let some : c.in-Shown.output.items ≢ [] = some_bytes _ (rw c.deref-in-Shown-2.ensures.value at c.in_err-write_text-in-Shown-2.ensures.some) in
    on_err c.from_residual-in_err-write_text-in-Shown-2.result (subst (λ (t : Texts). whole_of t ≢ []) (sym c.in-Shown.is)
    (some_front (c.in-Shown.code.items ++ c.in-Shown.output.items) c.in-Shown.counts.items
    (some_back c.in-Shown.code.items c.in-Shown.output.items some)))

pub returns-in_err-write_text-in-Shown-2-clause-prefix :
    goal.returns-in_err-write_text-in-Shown-2-clause-prefix
returns-in_err-write_text-in-Shown-2-clause-prefix g c =
    let old = g.K.Sink.written c.args.sink.now in
    let mid = g.K.Sink.written c.write_text-in-Shown.new.sink in
    let new = g.K.Sink.written c.write_text-in-Shown-2.new.sink in
    let first : Appended old mid c.in-Shown.code.items = subst (λ (t : List ℕ). Appended old mid t) c.deref-in-Shown.ensures.value c.in_ok-write_text-in-Shown.ensures.whole in
    let part : PrefixAppended mid new c.in-Shown.output.items = subst (λ (t : List ℕ). PrefixAppended mid new t) c.deref-in-Shown-2.ensures.value c.in_err-write_text-in-Shown-2.ensures.prefix in
    on_err c.from_residual-in_err-write_text-in-Shown-2.result (subst (λ (t : Texts). PrefixAppended old new (whole_of t)) (sym c.in-Shown.is)
    (second_begun old mid new c.in-Shown.code.items c.in-Shown.output.items c.in-Shown.counts.items first part))

pub returns-in_ok-write_text-in-Shown-2-clause-some :
    goal.returns-in_ok-write_text-in-Shown-2-clause-some
returns-in_ok-write_text-in-Shown-2-clause-some g c =
    more_on_err c.write_text-in-Shown-3.result
    (λ (said : 0 < length c.deref-in-Shown-3.result.now). subst (λ (t : Texts). whole_of t ≢ []) (sym c.in-Shown.is)
    (some_back (c.in-Shown.code.items ++ c.in-Shown.output.items) c.in-Shown.counts.items (some_bytes c.in-Shown.counts.items (rw c.deref-in-Shown-3.ensures.value at said))))
    c.write_text-in-Shown-3.ensures.some

pub returns-in_ok-write_text-in-Shown-2-clause-prefix :
    goal.returns-in_ok-write_text-in-Shown-2-clause-prefix
returns-in_ok-write_text-in-Shown-2-clause-prefix g c =
    let old = g.K.Sink.written c.args.sink.now in
    let mid = g.K.Sink.written c.write_text-in-Shown.new.sink in
    let next = g.K.Sink.written c.write_text-in-Shown-2.new.sink in
    let new = g.K.Sink.written c.write_text-in-Shown-3.new.sink in
    let first : Appended old mid c.in-Shown.code.items = subst (λ (t : List ℕ). Appended old mid t) c.deref-in-Shown.ensures.value c.in_ok-write_text-in-Shown.ensures.whole in
    let second : Appended mid next c.in-Shown.output.items = subst (λ (t : List ℕ). Appended mid next t) c.deref-in-Shown-2.ensures.value c.in_ok-write_text-in-Shown-2.ensures.whole in
    more_on_err c.write_text-in-Shown-3.result
    (λ (said : PrefixAppended next new c.deref-in-Shown-3.result.now). subst (λ (t : Texts). PrefixAppended old new (whole_of t)) (sym c.in-Shown.is)
    (third_begun old mid next new c.in-Shown.code.items c.in-Shown.output.items c.in-Shown.counts.items first second
    (subst (λ (t : List ℕ). PrefixAppended next new t) c.deref-in-Shown-3.ensures.value said)))
    c.write_text-in-Shown-3.ensures.prefix
