-- Why a part of a call is_fault, and why the whole does.
use Rattle.std.proofs.Common.{◌≡◌, ◌≤◌, ℕ, List, length, refl, sym, subst}
use Rattle.std.specs.Prelude.{Option, Some, None, Result, Ok, Err, IfErr, IfSome}
use Rattle.tp_value.specs.declared.limits.TheConstants.{MAX_SOURCE_BYTES}
use Rattle.tp_value.specs.declared.values.Table.{Table}
use Rattle.loop_syntax.specs.declared.program.Program.{Program}
use Rattle.table_text.specs.TablesText.{TablesOf}
use Rattle.tpal_tool.specs.declared.refusal.CallFault.{CallFault}
use Rattle.tpal_tool.specs.declared.refusal.CallFault.TheVariants.{Refused, ReadFailed, NoMemory}
use Rattle.tpal_tool.specs.declared.refusal.Refusal.{Refusal}
use Rattle.tpal_tool.specs.declared.status.Status.{Status}
use Rattle.tpal_tool.specs.Answering.{IsFaultOf, OwesRefusal, RefusesLength, RefusesMissing}
use Rattle.tpal_tool.specs.Answering.{RefusesSource, RefusesTables, RefusesTablesLength}
use Rattle.tpal_tool.specs.Answering.{RefusesCodeText, RefusesMissingInput, status_with}
use Rattle.tpal_syntax.specs.Listing.{Listing}
use Rattle.tpal_tool.specs.declared.fetching.TheConstants.{MAX_CODE_BYTES}
use Rattle.tpal_tool.specs.ExecOwed.{ExecRunOwes, NamedExecOwes}
use Rattle.tpal_tool.specs.ExecOwed as exec
use Rattle.tpal_tool.specs.Lines.{line_of}
use Rattle.tpal_tool.specs.Owed.{NamedRunOwes, long, Owed, RunOwes, faulty_tables, missing}
use Rattle.tpal_tool.specs.Told.{told_source}
use Rattle.tpal_tool.specs.Words.{Command, Options, ExecOptions, Exec, code_name, program_name}
use Rattle.tpal_tool.proofs.Endings.{refused-owed, too_long-owed, exec_too_long-owed}
use Rattle.tpal_tool.proofs.Endings.{exec_refused-owed}

-- what is_fault a part is_fault the whole
pub fault_more : {R S : Refusal → Type 0} {C D : Type 0} (h : CallFault) → ((r : Refusal) → R r → S r) → (C → D) → IsFaultOf R C h → IsFaultOf S D h
fault_more (Refused r) more cause is_fault = more r is_fault
fault_more ReadFailed more cause is_fault = cause is_fault
fault_more NoMemory more cause is_fault = tt

-- what an error gives gives more
pub err_map : {A E : Type 0} (r : Result A E) {P Q : E → Type 0} → ((e : E) → P e → Q e) → IfErr r P → IfErr r Q
err_map (Ok a) more is = tt
err_map (Err e) more is = more e is

-- a tables text with a fault is what a run owes
pub refuses_tables : (program : Program) (tables : List ℕ) (options : Options) (r : Refusal) → RefusesTables tables r → OwesRefusal (RunOwes program tables options) r
refuses_tables program tables options r (fault, first, is) = faulty_tables fault first is.0 is.1

-- and so is a missing input
pub refuses_missing : (program : Program) (tables : List ℕ) (options : Options) (given : List Table) → TablesOf tables given → (r : Refusal) → RefusesMissing program.tables.items given r → OwesRefusal (RunOwes program tables options) r
refuses_missing program tables options given are r (name, misses, is) = missing given name are misses is.0 is.1

-- a tables text that is too long
pub refuses_over : (program : Program) (told : List ℕ → Option (List ℕ)) (over : Option (List ℕ)) (options : Options) (r : Refusal) → RefusesTablesLength told over r → OwesRefusal (NamedRunOwes program told over options) r
refuses_over program told None options r never = elim never [ ]
refuses_over program told (Some name) options r (is, is_long) = long refl is_long is.0 is.1

-- a source text that is too long
pub refuses_long : (told : List ℕ → Option (List ℕ)) (command : Command) (name : List ℕ) → program_name command ≡ Some name → (r : Refusal) → RefusesLength (told name) MAX_SOURCE_BYTES name r → OwesRefusal (Owed (Some command) told) r
refuses_long told command name named r (is, is_long) = too_long-owed told command name (status_with r) (line_of r) named is_long is.0 is.1

-- a source text that is refused
pub refuses_source : (told : List ℕ → Option (List ℕ)) (command : Command) (source : List ℕ) → code_name command ≡ None → IfSome (told_source told command) (λ t. t ≡ source) → length source ≤ MAX_SOURCE_BYTES → (r : Refusal) → RefusesSource source r → OwesRefusal (Owed (Some command) told) r
refuses_source told command source none is_source low r (is, only) = refused-owed told command source (status_with r) (line_of r) none is_source low only is

-- a code text that is too long, or refused
pub refuses_long_code : (told : List ℕ → Option (List ℕ)) (name : List ℕ) (over : Option (List ℕ)) (options : ExecOptions) (r : Refusal) → RefusesLength (told name) MAX_CODE_BYTES name r → OwesRefusal (Owed (Some (Exec name over options)) told) r
refuses_long_code told name over options r (is, is_long) = exec_too_long-owed told name over options (status_with r) (line_of r) is_long is.0 is.1

pub refuses_code : (told : List ℕ → Option (List ℕ)) (name : List ℕ) (over : Option (List ℕ)) (options : ExecOptions) (source : List ℕ) → IfSome (told name) (λ t. t ≡ source) → length source ≤ MAX_CODE_BYTES → (r : Refusal) → RefusesCodeText source r → OwesRefusal (Owed (Some (Exec name over options)) told) r
refuses_code told name over options source is_source low r (is, refuses) = exec_refused-owed told name over options source (status_with r) (line_of r) is_source low refuses is

-- of a run of a code: a tables text with a fault, a missing input, a tables text that is too long
pub refuses_exec_tables : (code : Listing) (tables : List ℕ) (options : ExecOptions) (r : Refusal) → RefusesTables tables r → OwesRefusal (ExecRunOwes code tables options) r
refuses_exec_tables code tables options r (fault, first, is) = exec.faulty_tables fault first is.0 is.1

pub refuses_exec_missing : (code : Listing) (tables : List ℕ) (options : ExecOptions) (given : List Table) → TablesOf tables given → (r : Refusal) → RefusesMissingInput code.tables given r → OwesRefusal (ExecRunOwes code tables options) r
refuses_exec_missing code tables options given are r (name, misses, is) = exec.missing given name are misses is.0 is.1

pub refuses_exec_over : (code : Listing) (told : List ℕ → Option (List ℕ)) (over : Option (List ℕ)) (options : ExecOptions) (r : Refusal) → RefusesTablesLength told over r → OwesRefusal (NamedExecOwes code told over options) r
refuses_exec_over code told None options r never = elim never [ ]
refuses_exec_over code told (Some name) options r (is, is_long) = exec.long refl is_long is.0 is.1

-- what is written of a refusal is what is owed
pub refusal-owed : (wanted : Option Command) (told : List ℕ → Option (List ℕ)) (r : Refusal) (status : Status) (text : List ℕ) → status ≡ status_with r → text ≡ line_of r → OwesRefusal (Owed wanted told) r → Owed wanted told status text
refusal-owed wanted told r status text is text_is owed =
    subst (λ (s : Status). Owed wanted told s text) (sym is) (subst (λ (t : List ℕ). Owed wanted told (status_with r) t) (sym text_is) owed)
