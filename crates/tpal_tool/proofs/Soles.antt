-- A source text comes to one thing alone.
use Rattle.std.proofs.Common.{◌≡◌, ◌≢◌, ◌<◌, ◌≤◌, ℕ, List, refl, ap, sym, ◌∙◌, arith}
use Rattle.std.specs.Prelude.{Ok, Err, true, false}
use Rattle.std.proofs.lemmas.Bool.{false≢true}
use Rattle.tp_value.specs.declared.limits.TheConstants.{MAX_BLOCKS}
use Rattle.tp_value.specs.declared.values.Place.{Place}
use Rattle.loop_lex.specs.declared.token.Token.{Token}
use Rattle.loop_lex.specs.declared.token.LexFault.{LexFault}
use Rattle.loop_lex.specs.declared.token.LexFault.TheVariants as lexing
use Rattle.loop_lex.specs.Lexical as lexical
use Rattle.loop_syntax.specs.declared.program.Program.{Program}
use Rattle.loop_syntax.specs.Tree.{ProgramTree, program_of}
use Rattle.loop_parse.specs.Text.{Reads, TextFault, Byte, Range, Form, Deep, FirstTextFault, byte}
use Rattle.loop_parse.specs.Text.{range, form, deep, IsOnlyFault}
use Rattle.tpal_tool.specs.declared.refusal.SourceFault.{SourceFault}
use Rattle.tpal_tool.specs.Lines.{blocks_line, fault_line, fault_of, not_built_line, parallel_line}
use Rattle.tpal_tool.specs.Lines.{rule_line}
use Rattle.tpal_tool.specs.Parsing.{ParsesAs}
use Rattle.tpal_tool.specs.Verdict.{Refuses, faulty, broken, broken_parallel, not_built}
use Rattle.tpal_tool.specs.Verdict.{too_many_blocks, RefusesOnly, AcceptsOnly}
use Rattle.loop_rules.specs.Resolving.{IsFirstBroken}
use Rattle.loop_rules.specs.Unbroken.{IsResolved}
use Rattle.loop_rules.proofs.Firsts.{first-tree, resolved-tree, firsts_agree, not_both}
use Rattle.loop_check.specs.Checking as parallel
use Rattle.loop_check.specs.Unbroken.{NoneBroken}
use Rattle.loop_check.proofs.Firsts as parallels
use Rattle.scene_laws.specs.Built.{program_is_built}
use Rattle.scene_laws.specs.Count.{blocks_of_program}
use Rattle.scene_laws.proofs.Counts.TreeBlocks.{blocks_of_tree}
use Rattle.block_lower.proofs.TreeBuilt.{built_of_tree}

-- ---- faults of the lexer

abbrev place_in : Place → lexical.Reading → Place
place_in p (Ok tokens) = p
place_in p (Err (lexing.Byte q)) = q
place_in p (Err (lexing.Range q)) = q
place_in p (Err lexing.NoMemory) = p

no_tokens : (tokens : List Token) (fault : LexFault) → Ok tokens ≡ Err fault → ⊥
no_tokens tokens fault is = cc

abbrev failed : LexFault → lexical.Reading
failed fault = Err fault

no_range : (p q : Place) → failed (lexing.Range q) ≡ failed (lexing.Byte p) → ⊥
no_range p q is = cc

no_byte : (p q : Place) → failed (lexing.Byte q) ≡ failed (lexing.Range p) → ⊥
no_byte p q is = cc

byte_first : (source : List ℕ) (p : Place) → lexical.IsOnlyReading source (Err (lexing.Byte p)) → (other : TextFault) → FirstTextFault source other → other ≡ Byte p
byte_first source p only (Byte q) (byte h) = ap (λ r. Byte (place_in p r)) (only (Err (lexing.Byte q)) h)
byte_first source p only (Range q) (range h) = absurd (no_range p q (only (Err (lexing.Range q)) h))
byte_first source p only (Form q) (form tokens lexed fault) = absurd (no_tokens tokens _ (only (Ok tokens) lexed))
byte_first source p only (Deep q) (deep tokens lexed fault) = absurd (no_tokens tokens _ (only (Ok tokens) lexed))

range_first : (source : List ℕ) (p : Place) → lexical.IsOnlyReading source (Err (lexing.Range p)) → (other : TextFault) → FirstTextFault source other → other ≡ Range p
range_first source p only (Byte q) (byte h) = absurd (no_byte p q (only (Err (lexing.Byte q)) h))
range_first source p only (Range q) (range h) = ap (λ r. Range (place_in p r)) (only (Err (lexing.Range q)) h)
range_first source p only (Form q) (form tokens lexed fault) = absurd (no_tokens tokens _ (only (Ok tokens) lexed))
range_first source p only (Deep q) (deep tokens lexed fault) = absurd (no_tokens tokens _ (only (Ok tokens) lexed))

no_tree : (source : List ℕ) (fault : LexFault) → lexical.IsOnlyReading source (Err fault) → (program : ProgramTree) → Reads source program → ⊥
no_tree source fault only program reads = no_tokens reads.tokens fault (only (Ok reads.tokens) reads.lexed)

real_byte : (p : Place) → lexing.Byte p ≢ lexing.NoMemory
real_byte p is = cc

real_range : (p : Place) → lexing.Range p ≢ lexing.NoMemory
real_range p is = cc

-- the lexer's fault is the first of the text, and the only one
pub byte-only : (source : List ℕ) (p : Place) → (lexing.Byte p ≢ lexing.NoMemory → lexical.IsOnlyReading source (Err (lexing.Byte p))) → IsOnlyFault source (Byte p)
byte-only source p only = (byte_first source p (only (real_byte p)), no_tree source (lexing.Byte p) (only (real_byte p)))

pub range-only : (source : List ℕ) (p : Place) → (lexing.Range p ≢ lexing.NoMemory → lexical.IsOnlyReading source (Err (lexing.Range p))) → IsOnlyFault source (Range p)
range-only source p only = (range_first source p (only (real_range p)), no_tree source (lexing.Range p) (only (real_range p)))

-- ---- verdicts

-- a program that breaks no rule at all breaks none of those on names, limits, output and variables of loops
resolved_of : (p : Program) → NoneBroken p → IsResolved p
resolved_of p none = record { unbroken = λ r place u h. none.unbroken r place h }

-- where there is code for a program, there is for another one with its tree
built_too : (p q : Program) → program_of q ≡ program_of p → program_is_built p ≡ true → program_is_built q ≡ false → ⊥
built_too p q same built not = false≢true (sym not ∙ built_of_tree q p same ∙ built)

-- a program that breaks no rule, for which there is code, and whose code has few enough blocks
pub accepted-only : (source : List ℕ) (p : Program) → ParsesAs source p → NoneBroken p → program_is_built p ≡ true → blocks_of_program p ≤ MAX_BLOCKS → AcceptsOnly source p
accepted-only source p parses_as none built few = record {
  accepts = record { reads = parses_as.0; unbroken = none; built = built; fits = few };
  one_program = λ other a. parses_as.1 (program_of other) a.reads;
  not_refused = unrefused;
}
  where
    unrefused : (line : List ℕ) → Refuses source line → ⊥
    unrefused line (faulty fault first t) = parses_as.2 fault first
    unrefused line (broken program rule place reads first t) =
        not_both p rule place (resolved_of p none) (first-tree program p rule place (parses_as.1 (program_of program) reads) first)
    unrefused line (broken_parallel program rule place reads resolved first t) =
        parallels.not_both p rule place none (parallels.first-tree program p (parses_as.1 (program_of program) reads) rule place first)
    unrefused line (not_built program reads unbroken not t) =
        built_too p program (parses_as.1 (program_of program) reads) built not
    unrefused line (too_many_blocks program reads unbroken also many t) =
        omega (arith, few, many, blocks_of_tree program p (parses_as.1 (program_of program) reads))

-- a program that breaks no rule, and for which there is no code
pub not_built-only : (source : List ℕ) (p : Program) → ParsesAs source p → NoneBroken p → program_is_built p ≡ false → RefusesOnly source not_built_line
not_built-only source p parses_as none not = record {
  refuses = not_built p parses_as.0 none not refl;
  one_line = one;
  not_accepted = λ program a. built_too program p (sym (parses_as.1 (program_of program) a.reads)) a.built not;
}
  where
    one : (other : List ℕ) → Refuses source other → other ≡ not_built_line
    one other (faulty fault first t) = absurd (parses_as.2 fault first)
    one other (broken program rule place reads first t) =
        absurd (not_both p rule place (resolved_of p none) (first-tree program p rule place (parses_as.1 (program_of program) reads) first))
    one other (broken_parallel program rule place reads resolved first t) =
        absurd (parallels.not_both p rule place none (parallels.first-tree program p (parses_as.1 (program_of program) reads) rule place first))
    one other (not_built program reads unbroken also t) = t
    one other (too_many_blocks program reads unbroken built many t) =
        absurd (built_too program p (sym (parses_as.1 (program_of program) reads)) built not)

-- a program that breaks no rule, for which there is code, with too many blocks
pub too_many-only : (source : List ℕ) (p : Program) (line : List ℕ) → ParsesAs source p → NoneBroken p → program_is_built p ≡ true → MAX_BLOCKS < blocks_of_program p → line ≡ blocks_line (blocks_of_program p) → RefusesOnly source line
too_many-only source p line parses_as none built many is = record {
  refuses = too_many_blocks p parses_as.0 none built many is;
  one_line = one;
  not_accepted = λ program a. omega (arith, many, a.fits, blocks_of_tree program p (parses_as.1 (program_of program) a.reads));
}
  where
    one : (other : List ℕ) → Refuses source other → other ≡ line
    one other (faulty fault first t) = absurd (parses_as.2 fault first)
    one other (broken program rule place reads first t) =
        absurd (not_both p rule place (resolved_of p none) (first-tree program p rule place (parses_as.1 (program_of program) reads) first))
    one other (broken_parallel program rule place reads resolved first t) =
        absurd (parallels.not_both p rule place none (parallels.first-tree program p (parses_as.1 (program_of program) reads) rule place first))
    one other (not_built program reads unbroken not t) =
        absurd (built_too p program (parses_as.1 (program_of program) reads) built not)
    one other (too_many_blocks program reads unbroken also more t) =
        t ∙ ap blocks_line (blocks_of_tree program p (parses_as.1 (program_of program) reads)) ∙ sym is

-- a program that breaks a rule on names, limits, output or variables of loops
pub broken-only : (source : List ℕ) (p : Program) (rule : ℕ) (place : Place) (line : List ℕ) → ParsesAs source p → IsFirstBroken p rule place → line ≡ rule_line rule place → RefusesOnly source line
broken-only source p rule place line parses_as first is = record {
  refuses = broken p rule place parses_as.0 first is;
  one_line = one;
  not_accepted = λ program a. not_both p rule place (resolved-tree program p (parses_as.1 (program_of program) a.reads) (resolved_of program a.unbroken)) first;
}
  where
    one : (other : List ℕ) → Refuses source other → other ≡ line
    one other (faulty fault found t) = absurd (parses_as.2 fault found)
    one other (broken program rule' place' reads first' t) =
        let same : (rule' ≡ rule) × (place' ≡ place) = firsts_agree p rule' rule place' place (first-tree program p rule' place' (parses_as.1 (program_of program) reads) first') first in
        t ∙ ap (λ n. rule_line n place') same.0 ∙ ap (rule_line rule) same.1 ∙ sym is
    one other (broken_parallel program rule' place' reads resolved first' t) =
        absurd (not_both p rule place (resolved-tree program p (parses_as.1 (program_of program) reads) resolved) first)
    one other (not_built program reads none not t) =
        absurd (not_both p rule place (resolved-tree program p (parses_as.1 (program_of program) reads) (resolved_of program none)) first)
    one other (too_many_blocks program reads none built many t) =
        absurd (not_both p rule place (resolved-tree program p (parses_as.1 (program_of program) reads) (resolved_of program none)) first)

-- a program that breaks a rule on parallel loops, and none of those
pub parallel-only : (source : List ℕ) (p : Program) (rule : ℕ) (place : Place) (line : List ℕ) → ParsesAs source p → IsResolved p → parallel.IsFirstBroken p rule place → line ≡ parallel_line rule place → RefusesOnly source line
parallel-only source p rule place line parses_as resolved first is = record {
  refuses = broken_parallel p rule place parses_as.0 resolved first is;
  one_line = one;
  not_accepted = λ program a. parallels.not_both p rule place (parallels.none-tree program p (parses_as.1 (program_of program) a.reads) a.unbroken) first;
}
  where
    one : (other : List ℕ) → Refuses source other → other ≡ line
    one other (faulty fault found t) = absurd (parses_as.2 fault found)
    one other (broken program rule' place' reads first' t) =
        absurd (not_both p rule' place' resolved (first-tree program p rule' place' (parses_as.1 (program_of program) reads) first'))
    one other (broken_parallel program rule' place' reads resolved' first' t) =
        let same : (rule' ≡ rule) × (place' ≡ place) = parallels.firsts_agree p rule' rule place' place (parallels.first-tree program p (parses_as.1 (program_of program) reads) rule' place' first') first in
        t ∙ ap (λ n. parallel_line n place') same.0 ∙ ap (parallel_line rule) same.1 ∙ sym is
    one other (not_built program reads none not t) =
        absurd (parallels.not_both p rule place (parallels.none-tree program p (parses_as.1 (program_of program) reads) none) first)
    one other (too_many_blocks program reads none built many t) =
        absurd (parallels.not_both p rule place (parallels.none-tree program p (parses_as.1 (program_of program) reads) none) first)

-- a text with a fault
pub faulty-only : (source : List ℕ) (fault : SourceFault) (line : List ℕ) → FirstTextFault source (fault_of fault) → IsOnlyFault source (fault_of fault) → line ≡ fault_line (fault_of fault) → RefusesOnly source line
faulty-only source fault line first only is = record {
  refuses = faulty (fault_of fault) first is;
  one_line = one;
  not_accepted = λ program a. only.1 (program_of program) a.reads;
}
  where
    one : (other : List ℕ) → Refuses source other → other ≡ line
    one other (faulty found first' t) = t ∙ ap fault_line (only.0 found first') ∙ sym is
    one other (broken program rule place reads first' t) = absurd (only.1 (program_of program) reads)
    one other (broken_parallel program rule place reads resolved first' t) = absurd (only.1 (program_of program) reads)
    one other (not_built program reads none not t) = absurd (only.1 (program_of program) reads)
    one other (too_many_blocks program reads none built many t) = absurd (only.1 (program_of program) reads)
