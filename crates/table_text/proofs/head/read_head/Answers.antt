use Rattle.std.proofs.Common.{◌∙◌, sym, length}
use Rattle.std.proofs.lemmas.Result.{err_from_is_err_and}
use Rattle.table_text.specs.Reading.{tokens_at, has_name}
use Rattle.table_text.proofs.Steps.{read-word, read-no_word, read-name, read-no_name, read-rows}
use Rattle.table_text.proofs.Steps.{read-no_rows, read-cols, read-no_cols, OnFault-any, OnFault-map}
use Rattle.table_text.proofs.head.read_head.Goals as goal

pub returns-then-not-is_table_word-clause-fault : goal.returns-then-not-is_table_word-clause-fault
returns-then-not-is_table_word-clause-fault c = λ before names sum.
    read-no_word (length c.args.text.now) (record { at = c.args.word.now.at; bytes = c.args.word.now.bytes.now })
    (tokens_at c.args.text.now c.args.word.now.end) before (sym c.if-not-is_table_word.ensures)

pub returns-in_err-name-clause-fault : goal.returns-in_err-name-clause-fault
returns-in_err-name-clause-fault c =
    let e = err_from_is_err_and c.from_residual.result c.from_residual.ensures.1 in
    rw (e.1, e.2)
    (OnFault-map c.in_err-name.field-0.0 _ _
    (λ wrong before names sum.
    read-word (length c.args.text.now) (record { at = c.args.word.now.at; bytes = c.args.word.now.bytes.now })
    (tokens_at c.args.text.now c.args.word.now.end) before (sym c.if-not-is_table_word.ensures)
    ∙ read-no_name (length c.args.text.now) (has_name c.args.names.now) (tokens_at c.args.text.now c.args.word.now.end)
    c.in_err-name.field-0.0 before wrong names)
    c.in_err-name.ensures.fault)

pub returns-in_err-rows-clause-fault : goal.returns-in_err-rows-clause-fault
returns-in_err-rows-clause-fault c =
    let e = err_from_is_err_and c.from_residual-in_err-rows.result c.from_residual-in_err-rows.ensures.1 in
    rw (e.1, e.2)
    (OnFault-any c.in_err-rows.field-0.0 _
    (λ before names sum.
    read-word (length c.args.text.now) (record { at = c.args.word.now.at; bytes = c.args.word.now.bytes.now })
    (tokens_at c.args.text.now c.args.word.now.end) before (sym c.if-not-is_table_word.ensures)
    ∙ read-name (length c.args.text.now) (has_name c.args.names.now) (tokens_at c.args.text.now c.args.word.now.end)
    c.in_ok-name.name.bytes.now (tokens_at c.args.text.now c.in_ok-name.name.end) before c.in_ok-name.ensures.name names
    ∙ read-no_rows (length c.args.text.now) (tokens_at c.args.text.now c.in_ok-name.name.end) c.in_err-rows.field-0.0 before
    c.in_ok-name.name.bytes.now c.in_err-rows.ensures.fault))

pub returns-in_err-cols-clause-fault : goal.returns-in_err-cols-clause-fault
returns-in_err-cols-clause-fault c =
    let e = err_from_is_err_and c.from_residual-in_err-cols.result c.from_residual-in_err-cols.ensures.1 in
    rw (e.1, e.2)
    (OnFault-any c.in_err-cols.field-0.0 _
    (λ before names sum.
    read-word (length c.args.text.now) (record { at = c.args.word.now.at; bytes = c.args.word.now.bytes.now })
    (tokens_at c.args.text.now c.args.word.now.end) before (sym c.if-not-is_table_word.ensures)
    ∙ read-name (length c.args.text.now) (has_name c.args.names.now) (tokens_at c.args.text.now c.args.word.now.end)
    c.in_ok-name.name.bytes.now (tokens_at c.args.text.now c.in_ok-name.name.end) before c.in_ok-name.ensures.name names
    ∙ read-rows (length c.args.text.now) (tokens_at c.args.text.now c.in_ok-name.name.end) c.in_ok-rows.rows.value
    (tokens_at c.args.text.now c.in_ok-rows.rows.end) before c.in_ok-name.name.bytes.now c.in_ok-rows.ensures.size
    ∙ read-no_cols (length c.args.text.now) c.args.cells (tokens_at c.args.text.now c.in_ok-rows.rows.end) c.in_ok-rows.rows.value
    c.in_err-cols.field-0.0 before c.in_ok-name.name.bytes.now c.in_err-cols.ensures.fault sum))

pub returns-clause-head : goal.returns-clause-head
returns-clause-head c = λ before names sum.
    read-word (length c.args.text.now) (record { at = c.args.word.now.at; bytes = c.args.word.now.bytes.now })
    (tokens_at c.args.text.now c.args.word.now.end) before (sym c.if-not-is_table_word.ensures)
    ∙ read-name (length c.args.text.now) (has_name c.args.names.now) (tokens_at c.args.text.now c.args.word.now.end)
    c.in_ok-name.name.bytes.now (tokens_at c.args.text.now c.in_ok-name.name.end) before c.in_ok-name.ensures.name names
    ∙ read-rows (length c.args.text.now) (tokens_at c.args.text.now c.in_ok-name.name.end) c.in_ok-rows.rows.value
    (tokens_at c.args.text.now c.in_ok-rows.rows.end) before c.in_ok-name.name.bytes.now c.in_ok-rows.ensures.size
    ∙ read-cols (length c.args.text.now) c.args.cells (tokens_at c.args.text.now c.in_ok-rows.rows.end) c.in_ok-rows.rows.value
    c.in_ok-cols.cols.value (tokens_at c.args.text.now c.in_ok-cols.cols.end) before c.in_ok-name.name.bytes.now c.in_ok-cols.ensures.size sum
