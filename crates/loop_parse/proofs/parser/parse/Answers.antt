use Rattle.std.proofs.Common.{◌≡◌, ℕ, ◌≤◌, List, length, Result, Ok, Err, ap, ◌∙◌, arith, subst}
use Rattle.std.specs.Prelude.{IfOk, IfErr}
use Rattle.loop_lex.specs.declared.token.Token as lexed
use Rattle.loop_lex.specs.Lexical.{AreTokensOf}
use Rattle.loop_lex.proofs.Spans.{tokens_tell}
use Rattle.loop_syntax.specs.declared.program.Program.{Program}
use Rattle.loop_syntax.specs.Tree.{ProgramTree, program_of}
use Rattle.loop_parse.specs.declared.reader.Unparsed.{Unparsed}
use Rattle.loop_parse.specs.declared.parser.ParseFault.{ParseFault}
use Rattle.loop_parse.specs.Terms.{Token, seen, tokens_of}
use Rattle.loop_parse.specs.Text.{Reads, TextFault, FirstTextFault, IsOnlyTree, IsCause}
use Rattle.loop_parse.specs.Text.{IsOnlyCause}
use Rattle.loop_parse.specs.Parsing.{Finishes}
use Rattle.loop_parse.specs.Reading as reading
use Rattle.loop_parse.specs.Reading.{Fails, within}
use Rattle.loop_parse.proofs.Texts.{finished_tree, finished_fault, halted_fault, only_tree}
use Rattle.loop_parse.proofs.Texts.{no_fault}
use Rattle.loop_parse.proofs.parser.parse.Goals as goal

pub lexemes-requires : goal.lexemes-requires
lexemes-requires c = (tokens_tell c.args.source.now c.args.tokens.now c.requires.lexed).0

-- a program that was read to a rest
module _ (source : List ℕ) (ts : List lexed.Token) (lexed_ts : AreTokensOf source ts) (tree : ProgramTree) (rest : List Token) (read : reading.program within (length (tokens_of source ts)) (tokens_of source ts) ≡ Ok (tree, rest)) where
  tree_clause : (r : Result Program ParseFault) → Finishes tree rest r → IfOk r (λ p. Reads source (program_of p))
  tree_clause (Ok p) f = finished_tree source ts lexed_ts tree rest p read f
  tree_clause (Err x) f = tt

  only_clause : (r : Result Program ParseFault) → Finishes tree rest r → IfOk r (λ p. IsOnlyTree source (program_of p))
  only_clause (Ok p) f = only_tree source ts lexed_ts (program_of p) (finished_tree source ts lexed_ts tree rest p read f)
  only_clause (Err x) f = tt

  fault_clause : (r : Result Program ParseFault) → Finishes tree rest r → IfOk r (λ p. (fault : TextFault) → FirstTextFault source fault → ⊥)
  fault_clause (Ok p) f = no_fault source ts lexed_ts (program_of p) (finished_tree source ts lexed_ts tree rest p read f)
  fault_clause (Err x) f = tt

  cause_clause : (r : Result Program ParseFault) → Finishes tree rest r → IfErr r (IsCause source)
  cause_clause (Ok p) f = tt
  cause_clause (Err x) f = (finished_fault source ts lexed_ts tree rest x read f).0

  only_cause : (r : Result Program ParseFault) → Finishes tree rest r → IfErr r (IsOnlyCause source)
  only_cause (Ok p) f = tt
  only_cause (Err x) f = (finished_fault source ts lexed_ts tree rest x read f).1

-- the lexemes are the tokens
read_of : (source : List ℕ) (here there : List Token) (tree : ProgramTree) (rest : List Token) → there ≡ here → ((n : ℕ) → length there ≤ n → reading.program within n there ≡ Ok (tree, rest)) → reading.program within (length here) here ≡ Ok (tree, rest)
read_of source here there tree rest same read =
    subst (λ (us : List Token). reading.program within (length here) us ≡ Ok (tree, rest)) same (read (length here) (omega (arith, ap length same)))

pub returns-in-Ok-clause-tree : goal.returns-in-Ok-clause-tree
returns-in-Ok-clause-tree c =
    let same = ap (seen c.args.source.now) c.deref.ensures.value ∙ c.in_ok-lexemes.ensures in
    tree_clause c.args.source.now c.args.tokens.now c.requires.lexed _ _ (read_of c.args.source.now _ _ _ _ same c.in-Ok.ensures.reads) c.finish.result c.finish.ensures

pub returns-in-Ok-clause-no_other : goal.returns-in-Ok-clause-no_other
returns-in-Ok-clause-no_other c =
    let same = ap (seen c.args.source.now) c.deref.ensures.value ∙ c.in_ok-lexemes.ensures in
    only_clause c.args.source.now c.args.tokens.now c.requires.lexed _ _ (read_of c.args.source.now _ _ _ _ same c.in-Ok.ensures.reads) c.finish.result c.finish.ensures

pub returns-in-Ok-clause-no_fault : goal.returns-in-Ok-clause-no_fault
returns-in-Ok-clause-no_fault c =
    let same = ap (seen c.args.source.now) c.deref.ensures.value ∙ c.in_ok-lexemes.ensures in
    fault_clause c.args.source.now c.args.tokens.now c.requires.lexed _ _ (read_of c.args.source.now _ _ _ _ same c.in-Ok.ensures.reads) c.finish.result c.finish.ensures

pub returns-in-Ok-clause-cause : goal.returns-in-Ok-clause-cause
returns-in-Ok-clause-cause c =
    let same = ap (seen c.args.source.now) c.deref.ensures.value ∙ c.in_ok-lexemes.ensures in
    cause_clause c.args.source.now c.args.tokens.now c.requires.lexed _ _ (read_of c.args.source.now _ _ _ _ same c.in-Ok.ensures.reads) c.finish.result c.finish.ensures

pub returns-in-Ok-clause-no_other_cause : goal.returns-in-Ok-clause-no_other_cause
returns-in-Ok-clause-no_other_cause c =
    let same = ap (seen c.args.source.now) c.deref.ensures.value ∙ c.in_ok-lexemes.ensures in
    only_cause c.args.source.now c.args.tokens.now c.requires.lexed _ _ (read_of c.args.source.now _ _ _ _ same c.in-Ok.ensures.reads) c.finish.result c.finish.ensures

-- the same of a reading that stopped
stopped_of : (source : List ℕ) (here there : List Token) (h : Unparsed) → there ≡ here → ((n : ℕ) → length there ≤ n → Fails source h (reading.program within n there)) → Fails source h (reading.program within (length here) here)
stopped_of source here there h same read =
    subst (λ (us : List Token). Fails source h (reading.program within (length here) us)) same (read (length here) (omega (arith, ap length same)))

pub returns-clause-cause : goal.returns-clause-cause
returns-clause-cause c =
    let same = ap (seen c.args.source.now) c.deref.ensures.value ∙ c.in_ok-lexemes.ensures in
    (halted_fault c.args.source.now c.args.tokens.now c.requires.lexed c.in-Err.halt c.fault_at.result (stopped_of c.args.source.now _ _ c.in-Err.halt same c.in-Err.ensures.reads) c.fault_at.ensures).0

pub returns-clause-no_other_cause : goal.returns-clause-no_other_cause
returns-clause-no_other_cause c =
    let same = ap (seen c.args.source.now) c.deref.ensures.value ∙ c.in_ok-lexemes.ensures in
    (halted_fault c.args.source.now c.args.tokens.now c.requires.lexed c.in-Err.halt c.fault_at.result (stopped_of c.args.source.now _ _ c.in-Err.halt same c.in-Err.ensures.reads) c.fault_at.ensures).1
