use Rattle.std.proofs.Common.{◌≡◌, ◌⊎◌, ⊎_elim, ◌∙◌, sym, inl, inr, refl, length, [], Ok, Err}
use Rattle.std.proofs.lemmas.Result.{IfOk-weaker, IfErr-weaker, MatchResult-from_both}
use Rattle.table_text.specs.declared.fault.TableFault.{TableFault}
use Rattle.table_text.specs.declared.fault.TableFault.TheVariants.{Form, Cells, Repeated, NoMemory}
use Rattle.table_text.specs.Token.{tokens_of}
use Rattle.table_text.specs.Reading.{read, Between, OnFault}
use Rattle.table_text.proofs.Soundness.{TablesOf-read, FirstTableFault-read, ok_same, err_same}
use Rattle.table_text.proofs.Soundness.{err_no_ok}
use Rattle.table_text.proofs.Completeness.{read-TablesOf, read-FirstTableFault}
use Rattle.table_text.proofs.reading.read_tables.Goals as goal

-- a fault is want of memory, or what is said of it holds
fault_cases : (fault : TableFault) (P : Type 0) → OnFault fault P → (fault ≡ NoMemory) ⊎ P
fault_cases (Form at) P p = inr p
fault_cases (Cells at) P p = inr p
fault_cases (Repeated at) P p = inr p
fault_cases NoMemory P p = inl refl

pub returns-clause-tables : goal.returns-clause-tables
returns-clause-tables c =
    IfOk-weaker c.read_text.result _ _ (λ tables is. TablesOf-read c.args.text.now tables.items is) c.read_text.ensures.tables

pub returns-clause-accepted : goal.returns-clause-accepted
returns-clause-accepted c = λ tables of.
    let whole : read (length c.args.text.now) (tokens_of c.args.text.now) (Between []) ≡ Ok tables = read-TablesOf c.args.text.now tables of in
    MatchResult-from_both c.read_text.result _ _
    (IfOk-weaker c.read_text.result _ _ (λ found is. ok_same found.items tables (sym is ∙ whole)) c.read_text.ensures.tables)
    (IfErr-weaker c.read_text.result _ _
    (λ fault is. ⊎_elim (λ none. none) (λ wrong. absurd (err_no_ok fault tables (sym wrong ∙ whole))) (fault_cases fault _ is))
    c.read_text.ensures.fault)

pub returns-clause-fault : goal.returns-clause-fault
returns-clause-fault c =
    IfErr-weaker c.read_text.result _ _
    (λ fault is. ⊎_elim (λ none. inl none) (λ wrong. inr (FirstTableFault-read c.args.text.now fault wrong)) (fault_cases fault _ is))
    c.read_text.ensures.fault

pub returns-clause-refused : goal.returns-clause-refused
returns-clause-refused c = λ first is.
    let whole : read (length c.args.text.now) (tokens_of c.args.text.now) (Between []) ≡ Err first = read-FirstTableFault c.args.text.now first is in
    MatchResult-from_both c.read_text.result _ _
    (IfOk-weaker c.read_text.result _ _ (λ found ok. absurd (err_no_ok first found.items (sym whole ∙ ok))) c.read_text.ensures.tables)
    (IfErr-weaker c.read_text.result _ _
    (λ fault wrong. ⊎_elim (λ none. inl none) (λ e. inr (err_same fault first (sym e ∙ whole))) (fault_cases fault _ wrong))
    c.read_text.ensures.fault)
