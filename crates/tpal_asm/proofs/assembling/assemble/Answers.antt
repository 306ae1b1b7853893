use Rattle.std.proofs.Common.{◌≡◌, ℕ, List, ◌++◌, ◌∙◌, sym, ap, subst, Result, Ok, Err, IfOk, IfErr}
use Rattle.tpal_syntax.specs.declared.versions.Version.{Version}
use Rattle.tpal_syntax.specs.Listing.{Listing}
use Rattle.tpal_syntax.specs.Text.{CodeText, first_line}
use Rattle.tpal_syntax.specs.Readers.{parted}
use Rattle.tpal_asm.specs.declared.fault.AsmFault.{AsmFault}
use Rattle.tpal_asm.specs.declared.fault.AsmFault.TheVariants as faults
use Rattle.tpal_asm.specs.Lines.{AreLines}
use Rattle.tpal_asm.specs.Faults.{FirstFaultIn, FirstFault, OnFault}
use Rattle.tpal_asm.proofs.Complete.{code-answered, fault-answered, refused-codeless}
use Rattle.tpal_asm.proofs.EachText.{code_text, whole_text}
use Rattle.tpal_asm.proofs.assembling.assemble.Goals as goal

-- the lines of a text, in its version
module _ (text : List ℕ) (v : Version) (lines : List ℕ) (version : v ≡ (parted text).0) (behind : lines ≡ (parted text).1) where
  text_is : text ≡ first_line v ++ lines
  text_is = whole_text text ∙ ap (λ (w : Version). first_line w ++ (parted text).1) (sym version) ∙ ap (λ (y : List ℕ). first_line v ++ y) (sym behind)

  code_of : (r : Result Listing AsmFault) → IfOk r (λ code. AreLines v lines code.tables code.blocks) → IfOk r (λ code. CodeText text code.tables code.blocks)
  code_of (Ok code) are = code_text v text lines code.tables code.blocks text_is are
  code_of (Err fault) are = tt

  of_text : (fault : AsmFault) → FirstFaultIn v lines fault → FirstFault text fault
  of_text fault first =
      let P : Version → Type 0 = λ w. FirstFaultIn w lines fault in
      let Q : List ℕ → Type 0 = λ y. FirstFaultIn (parted text).0 y fault in
      subst Q behind (subst P version first)

  fault_of : (r : Result Listing AsmFault) → IfErr r (λ f. OnFault f (FirstFaultIn v lines f)) → IfErr r (λ f. OnFault f (FirstFault text f))
  fault_of (Ok code) first = tt
  fault_of (Err (faults.Form n)) first = of_text (faults.Form n) first
  fault_of (Err (faults.Label n)) first = of_text (faults.Label n) first
  fault_of (Err (faults.Limit n)) first = of_text (faults.Limit n) first
  fault_of (Err faults.NoMemory) first = tt

pub returns-clause-code : goal.returns-clause-code
returns-clause-code c = code_of c.args.text.now c.in_ok-labels.labels.version c.lines_of-lines.result.now (c.in_ok-labels.ensures.version ∙ c.version_of-version.ensures) c.lines_of-lines.ensures.lines c.read_code.result c.read_code.ensures.code

pub returns-clause-fault : goal.returns-clause-fault
returns-clause-fault c = fault_of c.args.text.now c.in_ok-labels.labels.version c.lines_of-lines.result.now (c.in_ok-labels.ensures.version ∙ c.version_of-version.ensures) c.lines_of-lines.ensures.lines c.read_code.result c.read_code.ensures.fault

pub returns-clause-refused : goal.returns-clause-refused
returns-clause-refused c = refused-codeless c.args.text.now c.read_code.result (returns-clause-fault c)

pub returns-clause-no_fault : goal.returns-clause-no_fault
returns-clause-no_fault c = code-answered c.args.text.now c.read_code.result (returns-clause-code c) (returns-clause-fault c)

pub returns-clause-first_fault : goal.returns-clause-first_fault
returns-clause-first_fault c = fault-answered c.args.text.now c.read_code.result (returns-clause-code c) (returns-clause-fault c)
