use Rattle.std.proofs.Common.{◌≡◌, ◌⊎◌, ◌∙◌, ℕ, List, sym, inl, inr, refl, length, [], Ok, Err}
use Rattle.std.proofs.Common.{Result}
use Rattle.tp_value.specs.declared.values.Table.{Table}
use Rattle.table_text.specs.declared.fault.TableFault.{TableFault}
use Rattle.table_text.specs.Token.{tokens_of}
use Rattle.table_text.specs.TablesText.{TablesOf, FirstTableFault}
use Rattle.table_text.specs.Reading.{read, Between}
use Rattle.table_text.proofs.Soundness.{TablesOf-read, FirstTableFault-read, ok_same, err_same}
use Rattle.table_text.proofs.Soundness.{err_no_ok}
use Rattle.table_text.proofs.Completeness.{read-TablesOf, read-FirstTableFault}
use Rattle.table_text.proofs.laws.text_is_read_one_way.Goals as goal

pub returns-clause-one_of_them : goal.returns-clause-one_of_them
returns-clause-one_of_them c = λ text. either text (read (length text) (tokens_of text) (Between [])) refl
  where
    either : (text : List ℕ) (r : Result (List Table) TableFault) → read (length text) (tokens_of text) (Between []) ≡ r →
        ((tables : List Table) × TablesOf text tables) ⊎ ((fault : TableFault) × FirstTableFault text fault)
    either text (Ok tables) e = inl (tables, TablesOf-read text tables e)
    either text (Err fault) e = inr (fault, FirstTableFault-read text fault e)

pub returns-clause-one_list : goal.returns-clause-one_list
returns-clause-one_list c = λ text a b p q. ok_same a b (sym (read-TablesOf text a p) ∙ read-TablesOf text b q)

pub returns-clause-one_fault : goal.returns-clause-one_fault
returns-clause-one_fault c = λ text a b p q. err_same a b (sym (read-FirstTableFault text a p) ∙ read-FirstTableFault text b q)

pub returns-clause-not_both : goal.returns-clause-not_both
returns-clause-not_both c = λ text tables fault p q. err_no_ok fault tables (sym (read-FirstTableFault text fault q) ∙ read-TablesOf text tables p)
