-- What a call wrote that came to its end and runs a code.
use Rattle.std.proofs.Common.{◌≡◌, ℕ, ◌<◌, ◌≤◌, List, length, ap, sym, ◌∙◌, arith, subst}
use Rattle.std.specs.Prelude.{Option, Some, None, IfSome}
use Rattle.tp_value.specs.declared.limits.TheConstants.{MAX_TABLES_BYTES}
use Rattle.tp_value.specs.declared.values.Table.{Table}
use Rattle.table_text.specs.TablesText.{TablesOf, FirstTableFault}
use Rattle.table_text.specs.declared.fault.TableFault.{TableFault}
use Rattle.tpal_syntax.specs.declared.blocks.Block.{Block}
use Rattle.tpal_syntax.specs.declared.blocks.CodeTable.{CodeTable}
use Rattle.tpal_syntax.specs.Listing.{Listing}
use Rattle.tpal_syntax.specs.Text.{CodeText}
use Rattle.tpal_asm.specs.declared.fault.AsmFault.{AsmFault}
use Rattle.tpal_asm.specs.Faults.{FirstFault}
use Rattle.tpal_verify.specs.Breaks.{Break, first_break}
use Rattle.tpal_tool.specs.declared.fetching.TheConstants.{MAX_CODE_BYTES}
use Rattle.tpal_tool.specs.declared.status.Status.{Status}
use Rattle.tpal_tool.specs.declared.status.Status.TheVariants.{Refused}
use Rattle.tpal_tool.specs.CodeInputs.{first_missing_input}
use Rattle.tpal_tool.specs.CodeVerdict.{RefusesCode, faulty, broken, AcceptsCode}
use Rattle.tpal_tool.specs.ExecLines.{assembly_line, break_line, name_at}
use Rattle.tpal_tool.specs.ExecOwed.{ComesTo, ExecOwes, ExecRunOwes, faulty_tables, missing, ran}
use Rattle.tpal_tool.specs.ExecOwed as exec
use Rattle.tpal_tool.specs.ExecPromises.{HasExecuted}
use Rattle.tpal_tool.specs.Lines.{missing_line, tables_line, too_long_line}
use Rattle.tpal_tool.specs.Owed.{Owes, Finished}
use Rattle.tpal_tool.specs.Owed as owed
use Rattle.tpal_tool.specs.Promises.{IsRefusedWith}
use Rattle.tpal_tool.specs.Sink.{Appended}
use Rattle.tpal_tool.specs.Told.{text_over}
use Rattle.tpal_tool.specs.Words.{ExecOptions, Command, Run, Compile, Sample, Exec, code_name}
use Rattle.tpal_tool.specs.Words.{program_name, run_options}
use Rattle.tpal_tool.proofs.Answered.{ReadOneWay}
use Rattle.tpal_tool.proofs.Endings.{some_none, some_same}

-- a code text is read in one way only
pub record CodeReadOneWay : Type 0 where
  pub one_code : (text : List ℕ) (tables others : List CodeTable) (blocks more : List Block) → CodeText text tables blocks → CodeText text others more → (tables ≡ others) × (blocks ≡ more)
  pub one_fault : (text : List ℕ) (fault other : AsmFault) → FirstFault text fault → FirstFault text other → fault ≡ other
  pub not_both : (text : List ℕ) (tables : List CodeTable) (blocks : List Block) (fault : AsmFault) → CodeText text tables blocks → FirstFault text fault → ⊥

same_code : CodeReadOneWay → (text : List ℕ) (a b : Listing) → CodeText text a.tables a.blocks → CodeText text b.tables b.blocks → a ≡ b
same_code way text a b reads other =
    let both = way.one_code text a.tables b.tables a.blocks b.blocks reads other in
    λ i. record { tables = both.0 i; blocks = both.1 i }

abbrev break_of : Listing → Break → List ℕ
break_of code first = break_line (name_at code first.0) first.1 first.2

-- it is refused with one line alone
one_refusal : CodeReadOneWay → (text line other : List ℕ) → RefusesCode text line → RefusesCode text other → line ≡ other
one_refusal way text line other (faulty fault first is) (faulty fault' first' is') = is ∙ ap assembly_line (way.one_fault text fault fault' first first') ∙ sym is'
one_refusal way text line other (faulty fault first is) (broken code block at rule reads breaks is') = absurd (way.not_both text code.tables code.blocks fault reads first)
one_refusal way text line other (broken code block at rule reads breaks is) (faulty fault first is') = absurd (way.not_both text code.tables code.blocks fault reads first)
one_refusal way text line other (broken code block at rule reads breaks is) (broken code' block' at' rule' reads' breaks' is') =
    let same : code ≡ code' = same_code way text code code' reads reads' in
    let one : (block, at, rule) ≡ (block', at', rule') = some_same (sym breaks ∙ ap first_break same ∙ breaks') in
    is ∙ ap (λ c. break_of c (block, at, rule)) same ∙ ap (break_of code') one ∙ sym is'

-- and not where it is that of an accepted code
not_refused : CodeReadOneWay → (text line : List ℕ) (code : Listing) → AcceptsCode text code → RefusesCode text line → ⊥
not_refused way text line code accepts (faulty fault first is) = way.not_both text code.tables code.blocks fault accepts.code_text first
not_refused way text line code accepts (broken other block at rule reads breaks is) =
    some_none (sym accepts.accepted ∙ ap first_break (same_code way text code other accepts.code_text reads) ∙ breaks)

-- ---- a run of a code

faulty_is : ReadOneWay → (code : Listing) (tables : List ℕ) (options : ExecOptions) (fault : TableFault) (status : Status) (text : List ℕ) → FirstTableFault tables fault → ExecRunOwes code tables options status text → (status ≡ Refused) × (text ≡ tables_line fault)
faulty_is way code tables options fault status text first (faulty_tables other also is text_is) = (is, text_is ∙ ap tables_line (way.one_fault tables other fault also first))
faulty_is way code tables options fault status text first (missing inputs name are misses is text_is) = absurd (way.not_both tables inputs fault are first)
faulty_is way code tables options fault status text first (ran inputs report are complete comes is text_is) = absurd (way.not_both tables inputs fault are first)

missing_is : ReadOneWay → (code : Listing) (tables : List ℕ) (options : ExecOptions) (inputs : List Table) (name : List ℕ) (status : Status) (text : List ℕ) → TablesOf tables inputs → first_missing_input code.tables inputs ≡ Some name → ExecRunOwes code tables options status text → (status ≡ Refused) × (text ≡ missing_line name)
missing_is way code tables options inputs name status text are misses (faulty_tables fault first is text_is) = absurd (way.not_both tables inputs fault are first)
missing_is way code tables options inputs name status text are misses (missing inputs' name' are' misses' is text_is) =
    let one : name' ≡ name = some_same (sym misses' ∙ ap (first_missing_input code.tables) (way.one_list tables inputs' inputs are' are) ∙ misses) in
    (is, text_is ∙ ap missing_line one)
missing_is way code tables options inputs name status text are misses (ran inputs' report are' complete comes is text_is) =
    absurd (some_none (sym complete ∙ ap (first_missing_input code.tables) (way.one_list tables inputs' inputs are' are) ∙ misses))

ran_is : ReadOneWay → (code : Listing) (tables : List ℕ) (options : ExecOptions) (inputs : List Table) (status : Status) (text : List ℕ) (old new : Option (List ℕ)) → TablesOf tables inputs → first_missing_input code.tables inputs ≡ None → Appended old new text → ExecRunOwes code tables options status text → HasExecuted old new status code inputs options
ran_is way code tables options inputs status text old new are complete written (faulty_tables fault first is text_is) = absurd (way.not_both tables inputs fault are first)
ran_is way code tables options inputs status text old new are complete written (missing inputs' name are' misses is text_is) =
    absurd (some_none (sym complete ∙ ap (first_missing_input code.tables) (way.one_list tables inputs inputs' are are') ∙ misses))
ran_is way code tables options inputs status text old new are complete written (ran inputs' report are' complete' comes is text_is) = record {
  report = report;
  comes = subst (λ (list : List Table). ComesTo code list options report) (way.one_list tables inputs' inputs are' are) comes;
  status_is = is;
  written = subst (λ (t : List ℕ). Appended old new t) text_is written;
}

-- what a call owes of a command that runs a code
abbrev OwesOf : Command → List ℕ → List ℕ → Status → List ℕ → Type 0
OwesOf (Run program tables options) source given status text = Unit {0}
OwesOf (Compile program) source given status text = Unit {0}
OwesOf (Sample seed options) source given status text = Unit {0}
OwesOf (Exec name over options) source given status text = ExecOwes name over options source given status text

module _ (wanted : Option Command) (told : List ℕ → Option (List ℕ)) (old new : Option (List ℕ)) (status : Status) (f : Finished wanted told old new status) (name : List ℕ) (over : Option (List ℕ)) (options : ExecOptions) (asked_is : wanted ≡ Some (Exec name over options)) where
  -- the text that is told is the one that the call was about
  source_same : (source : List ℕ) → told name ≡ Some source → source ≡ f.source
  source_same source told_is = subst (λ (o : Option (List ℕ)). IfSome o (λ text. text ≡ f.source)) told_is (f.are_texts.is_code (Exec name over options) asked_is)

  tables_same : (tables : List ℕ) → text_over told over ≡ Some tables → tables ≡ f.tables
  tables_same tables told_is = subst (λ (o : Option (List ℕ)). IfSome o (λ text. text ≡ f.tables)) told_is (f.are_texts.is_tables (Exec name over options) asked_is)

  exec_owes : {text : List ℕ} → Owes wanted f.source f.tables status text → ExecOwes name over options f.source f.tables status text
  exec_owes (owed.bad_words none is text_is) = absurd (some_none (sym none ∙ asked_is))
  exec_owes (owed.too_long also named beyond is text_is) = absurd (some_none (ap program_name (some_same (sym asked_is ∙ also)) ∙ named))
  exec_owes (owed.refused also none low only is) = absurd (some_none (sym none ∙ ap code_name (some_same (sym also ∙ asked_is))))
  exec_owes (owed.compiled also low only is compiles) = absurd (some_none (ap program_name (some_same (sym asked_is ∙ also))))
  exec_owes (owed.tables_too_long also low only beyond is text_is) = absurd (some_none (ap program_name (some_same (sym asked_is ∙ also))))
  exec_owes (owed.ran also goes low only few owes) = absurd (some_none (ap run_options (some_same (sym asked_is ∙ also)) ∙ goes))
  exec_owes {text = text} (owed.executed also owes) = subst (λ (c : Command). OwesOf c f.source f.tables status text) (some_same (sym also ∙ asked_is)) owes

  wrote : {line : List ℕ} → f.text ≡ line → Appended old new line
  wrote is = subst (λ (t : List ℕ). Appended old new t) is f.written

  -- a code text that is too long
  pub exec-too_long : (source : List ℕ) → told name ≡ Some source → MAX_CODE_BYTES < length source → IsRefusedWith old new status (too_long_line name)
  exec-too_long source told_is is_long = by (exec_owes f.owed)
    where
      over_it : MAX_CODE_BYTES < length f.source
      over_it = subst (λ (s : List ℕ). MAX_CODE_BYTES < length s) (source_same source told_is) is_long

      by : ExecOwes name over options f.source f.tables status f.text → IsRefusedWith old new status (too_long_line name)
      by (exec.too_long beyond is text_is) = record { refused = is; written = wrote text_is }
      by (exec.refused low refuses is) = absurd (omega (arith, low, over_it))
      by (exec.tables_too_long over_is low accepts beyond is text_is) = absurd (omega (arith, low, over_it))
      by (exec.ran low accepts few owes) = absurd (omega (arith, low, over_it))

  module _ (way : CodeReadOneWay) (source : List ℕ) (told_is : told name ≡ Some source) (low_source : length source ≤ MAX_CODE_BYTES) where
    low_here : length f.source ≤ MAX_CODE_BYTES
    low_here = subst (λ (s : List ℕ). length s ≤ MAX_CODE_BYTES) (source_same source told_is) low_source

    -- a code text that is refused
    pub exec-refused : (line : List ℕ) → RefusesCode source line → IsRefusedWith old new status line
    exec-refused line refuses = by (exec_owes f.owed)
      where
        refuses_here : RefusesCode f.source line
        refuses_here = subst (λ (s : List ℕ). RefusesCode s line) (source_same source told_is) refuses

        by : ExecOwes name over options f.source f.tables status f.text → IsRefusedWith old new status line
        by (exec.too_long beyond is text_is) = absurd (omega (arith, low_here, beyond))
        by (exec.refused low also is) = record { refused = is; written = wrote (one_refusal way f.source f.text line also refuses_here) }
        by (exec.tables_too_long {code = code} over_is low accepts beyond is text_is) = absurd (not_refused way f.source line code accepts refuses_here)
        by (exec.ran {code = code} low accepts few owes) = absurd (not_refused way f.source line code accepts refuses_here)

    accepts_here : (code : Listing) → AcceptsCode source code → AcceptsCode f.source code
    accepts_here code accepts_source = subst (λ (s : List ℕ). AcceptsCode s code) (source_same source told_is) accepts_source

    -- a tables text that is too long
    pub exec-tables_too_long : (code : Listing) → AcceptsCode source code → (other tables : List ℕ) → over ≡ Some other → told other ≡ Some tables → MAX_TABLES_BYTES < length tables → IsRefusedWith old new status (too_long_line other)
    exec-tables_too_long code accepts_source other tables over_is tables_told is_long = by (exec_owes f.owed)
      where
        over_it : MAX_TABLES_BYTES < length f.tables
        over_it = subst (λ (t : List ℕ). MAX_TABLES_BYTES < length t) (tables_same tables (ap (text_over told) over_is ∙ tables_told)) is_long

        by : ExecOwes name over options f.source f.tables status f.text → IsRefusedWith old new status (too_long_line other)
        by (exec.too_long beyond is text_is) = absurd (omega (arith, low_here, beyond))
        by (exec.refused low refuses is) = absurd (not_refused way f.source f.text code (accepts_here code accepts_source) refuses)
        by (exec.tables_too_long {other = mine} also low accepts beyond is text_is) =
            let one : mine ≡ other = some_same (sym also ∙ over_is) in
            record { refused = is; written = wrote (text_is ∙ ap too_long_line one) }
        by (exec.ran low accepts few owes) = absurd (omega (arith, few, over_it))

    -- what it owes over a tables text that isn't
    pub exec-run : (code : Listing) → AcceptsCode source code → (tables : List ℕ) → text_over told over ≡ Some tables → length tables ≤ MAX_TABLES_BYTES → ExecRunOwes code tables options status f.text
    exec-run code accepts_source tables tables_told few_tables = by (exec_owes f.owed)
      where
        few_here : length f.tables ≤ MAX_TABLES_BYTES
        few_here = subst (λ (t : List ℕ). length t ≤ MAX_TABLES_BYTES) (tables_same tables tables_told) few_tables

        by : ExecOwes name over options f.source f.tables status f.text → ExecRunOwes code tables options status f.text
        by (exec.too_long beyond is text_is) = absurd (omega (arith, low_here, beyond))
        by (exec.refused low refuses is) = absurd (not_refused way f.source f.text code (accepts_here code accepts_source) refuses)
        by (exec.tables_too_long also low accepts beyond is text_is) = absurd (omega (arith, few_here, beyond))
        by (exec.ran {code = mine} low accepts few owes) =
            subst (λ (t : List ℕ). ExecRunOwes code t options status f.text) (sym (tables_same tables tables_told))
            (subst (λ (c : Listing). ExecRunOwes c f.tables options status f.text) (same_code way f.source mine code accepts.code_text (accepts_here code accepts_source).code_text) owes)

    pub exec-faulty : (code : Listing) → AcceptsCode source code → ReadOneWay → (tables : List ℕ) (fault : TableFault) → text_over told over ≡ Some tables → length tables ≤ MAX_TABLES_BYTES → FirstTableFault tables fault → IsRefusedWith old new status (tables_line fault)
    exec-faulty code accepts_source read tables fault tables_told few_tables first =
        let one = faulty_is read code tables options fault status f.text first (exec-run code accepts_source tables tables_told few_tables) in
        record { refused = one.0; written = wrote one.1 }

    pub exec-missing : (code : Listing) → AcceptsCode source code → ReadOneWay → (tables : List ℕ) (inputs : List Table) (input : List ℕ) → text_over told over ≡ Some tables → length tables ≤ MAX_TABLES_BYTES → TablesOf tables inputs → first_missing_input code.tables inputs ≡ Some input → IsRefusedWith old new status (missing_line input)
    exec-missing code accepts_source read tables inputs input tables_told few_tables are misses =
        let one = missing_is read code tables options inputs input status f.text are misses (exec-run code accepts_source tables tables_told few_tables) in
        record { refused = one.0; written = wrote one.1 }

    pub exec-ran : (code : Listing) → AcceptsCode source code → ReadOneWay → (tables : List ℕ) (inputs : List Table) → text_over told over ≡ Some tables → length tables ≤ MAX_TABLES_BYTES → TablesOf tables inputs → first_missing_input code.tables inputs ≡ None → HasExecuted old new status code inputs options
    exec-ran code accepts_source read tables inputs tables_told few_tables are complete =
        ran_is read code tables options inputs status f.text old new are complete f.written (exec-run code accepts_source tables tables_told few_tables)
