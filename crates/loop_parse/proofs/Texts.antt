-- The parser's answers on a whole text, from what its reading says of the tokens.
use Rattle.std.proofs.Common.{◌≡◌, ℕ, ◌<◌, ◌≤◌, List, [], ◌∷◌, length, Ok, Err, refl, sym, ap}
use Rattle.std.proofs.Common.{subst, ◌∙◌, arith}
use Rattle.tp_value.specs.declared.values.Place.{Place}
use Rattle.loop_lex.specs.declared.token.Token as lexed
use Rattle.loop_lex.specs.declared.token.LexFault.{LexFault}
use Rattle.loop_lex.specs.Lexical.{AreTokensOf, IsFirstFault}
use Rattle.loop_lex.proofs.Readings.{one_reading}
use Rattle.loop_syntax.specs.declared.program.Program.{Program}
use Rattle.loop_syntax.specs.Tree.{ProgramTree, program_of}
use Rattle.loop_parse.specs.declared.reader.Unparsed.{Unparsed}
use Rattle.loop_parse.specs.declared.reader.Unparsed.TheVariants as halts
use Rattle.loop_parse.specs.declared.parser.ParseFault.{ParseFault}
use Rattle.loop_parse.specs.declared.parser.ParseFault.TheVariants as parsing
use Rattle.loop_parse.specs.Terms.{Token, tokens_of, seen}
use Rattle.loop_parse.specs.Grammar.{IsProgram, FormFault, DeepFault}
use Rattle.loop_parse.specs.Text.{Reads, place_at, IsFormPlace, IsDeepPlace, TextFault, Form, Deep}
use Rattle.loop_parse.specs.Text.{FirstTextFault, byte, range, form, deep, IsOnlyTree, IsCause}
use Rattle.loop_parse.specs.Text.{IsOnlyCause}
use Rattle.loop_parse.specs.Reading as reading
use Rattle.loop_parse.specs.Reading.{Fails, within}
use Rattle.loop_parse.specs.Parsing.{Finishes, IsPlaced}
use Rattle.loop_parse.proofs.Top.{one_tree, program_no_fault, no_two_faults, read_program, shallow}
use Rattle.loop_parse.proofs.Top.{fault_after, fault_at, deep_at}
use Rattle.loop_parse.proofs.Suffixes.{EndOf, same_end, fault_end}

-- a text has its tokens alone
same_tokens : (source : List ℕ) (a b : List lexed.Token) → AreTokensOf source a → AreTokensOf source b → b ≡ a
same_tokens source a b x y = let e : Ok b ≡ Ok a = one_reading source (Ok a) (Ok b) x y in cc

no_lex_fault : (source : List ℕ) (ts : List lexed.Token) (f : LexFault) → AreTokensOf source ts → IsFirstFault source f → ⊥
no_lex_fault source ts f x y = let e : Err f ≡ Ok ts = one_reading source (Ok ts) (Err f) x y in cc

module _ (source : List ℕ) (ts : List lexed.Token) (lexed_ts : AreTokensOf source ts) where
  abbrev here : List Token
  here = tokens_of source ts

  pub text_reads : (tree : ProgramTree) → reading.program within (length here) here ≡ Ok (tree, []) → Reads source tree
  text_reads tree e = record { tokens = ts; lexed = lexed_ts; is_program = read_program here tree e; is_shallow = shallow here (λ us d. cc) }

  reads_here : (other : ProgramTree) → Reads source other → IsProgram here other × ((us : List Token) → DeepFault here us → ⊥)
  reads_here other r = (
    subst (λ (q : List lexed.Token). IsProgram (tokens_of source q) other) (same_tokens source ts r.tokens lexed_ts r.lexed) r.is_program,
    subst (λ (q : List lexed.Token). (us : List Token) → DeepFault (tokens_of source q) us → ⊥) (same_tokens source ts r.tokens lexed_ts r.lexed) r.is_shallow,
  )

  form_here : (us : List lexed.Token) (place : Place) → AreTokensOf source us → IsFormPlace source (tokens_of source us) place → IsFormPlace source here place
  form_here us place x p = subst (λ (q : List lexed.Token). IsFormPlace source (tokens_of source q) place) (same_tokens source ts us lexed_ts x) p

  deep_here : (us : List lexed.Token) (place : Place) → AreTokensOf source us → IsDeepPlace source (tokens_of source us) place → IsDeepPlace source here place
  deep_here us place x p = subst (λ (q : List lexed.Token). IsDeepPlace source (tokens_of source q) place) (same_tokens source ts us lexed_ts x) p

  pub only_tree : (tree : ProgramTree) → Reads source tree → IsOnlyTree source tree
  only_tree tree r = λ other s. one_tree here other tree (reads_here other s).0 (reads_here tree r).0

  pub no_fault : (tree : ProgramTree) → Reads source tree → (fault : TextFault) → FirstTextFault source fault → ⊥
  no_fault tree r _ (byte x) = no_lex_fault source ts _ lexed_ts x
  no_fault tree r _ (range x) = no_lex_fault source ts _ lexed_ts x
  no_fault tree r _ (form {place} us x p) = let q = form_here us place x p in program_no_fault here q.rest tree (reads_here tree r).0 q.fault
  no_fault tree r _ (deep {place} us x p) = let q = deep_here us place x p in (reads_here tree r).1 q.rest q.fault

  form_end : {rest : List Token} → FormFault here rest → EndOf here rest
  form_end f = record { front = f.front; split = f.split }

  -- one place of a fault of the form
  form_same : (p q : Place) → IsFormPlace source here p → IsFormPlace source here q → q ≡ p
  form_same p q x y =
      let a : length x.rest < length y.rest → ⊥ = λ l. no_two_faults y.fault x.fault l in
      let b : length y.rest < length x.rest → ⊥ = λ l. no_two_faults x.fault y.fault l in
      let e : y.rest ≡ x.rest = same_end (form_end y.fault) (form_end x.fault) (grind arith) in
      y.placed ∙ ap (place_at source) e ∙ sym x.placed

  deep_same : (p q : Place) → IsDeepPlace source here p → IsDeepPlace source here q → q ≡ p
  deep_same p q x y =
      let a = x.first y.rest y.fault in
      let b = y.first x.rest x.fault in
      let e : y.rest ≡ x.rest = same_end (fault_end y.fault) (fault_end x.fault) (omega arith) in
      y.placed ∙ ap (place_at source) e ∙ sym x.placed

  never_both : {A : Type 0} (p q : Place) → IsFormPlace source here p → IsDeepPlace source here q → A
  never_both p q x y = let a = x.first y.rest y.fault in let b = y.before_form x.rest x.fault in absurd (omega arith)

  form_only : (p : Place) → IsFormPlace source here p → (other : TextFault) → FirstTextFault source other → other ≡ Form p
  form_only p x _ (byte z) = absurd (no_lex_fault source ts _ lexed_ts z)
  form_only p x _ (range z) = absurd (no_lex_fault source ts _ lexed_ts z)
  form_only p x _ (form {place} us z y) = ap Form (form_same p place x (form_here us place z y))
  form_only p x _ (deep {place} us z y) = never_both p place x (deep_here us place z y)

  deep_only : (p : Place) → IsDeepPlace source here p → (other : TextFault) → FirstTextFault source other → other ≡ Deep p
  deep_only p x _ (byte z) = absurd (no_lex_fault source ts _ lexed_ts z)
  deep_only p x _ (range z) = absurd (no_lex_fault source ts _ lexed_ts z)
  deep_only p x _ (form {place} us z y) = never_both place p (form_here us place z y) x
  deep_only p x _ (deep {place} us z y) = ap Deep (deep_same p place x (deep_here us place z y))

  -- a cause that stands alone
  abbrev Caused : ParseFault → Type 0
  Caused fault = IsCause source fault × IsOnlyCause source fault

  form_cause : (rest : List Token) → FormFault here rest → ((us : List Token) → DeepFault here us → ⊥) → Caused (parsing.Form (place_at source rest))
  form_cause rest f h =
      let x : IsFormPlace source here (place_at source rest) = record { rest = rest; fault = f; first = λ us d. absurd (h us d); placed = refl } in
      (form ts lexed_ts x, (form_only (place_at source rest) x, λ tree r. program_no_fault here rest tree (reads_here tree r).0 f))

  deep_cause : (us : List Token) → DeepFault here us × ((vs : List Token) → DeepFault here vs → length vs ≤ length us) × ((rest : List Token) → FormFault here rest → length rest < length us) → Caused (parsing.Deep (place_at source us))
  deep_cause us h =
      let x : IsDeepPlace source here (place_at source us) = record { rest = us; fault = h.0; first = h.1; before_form = h.2; placed = refl } in
      (deep ts lexed_ts x, (deep_only (place_at source us) x, λ tree r. (reads_here tree r).1 us h.0))

  pub finished_fault : (tree : ProgramTree) (rest : List Token) (fault : ParseFault) → reading.program within (length here) here ≡ Ok (tree, rest) → Finishes tree rest (Err fault) → Caused fault
  finished_fault tree [] fault e f = absurd f
  finished_fault tree (t ∷ us) fault e f = subst (λ (q : ParseFault). Caused q) (sym f) (form_cause (t ∷ us) (fault_after here tree t us e) (shallow here (λ vs d. cc)))

  pub halted_fault : (h : Unparsed) (fault : ParseFault) → Fails source h (reading.program within (length here) here) → IsPlaced source h fault → Caused fault
  halted_fault (halts.Form rest) fault e p = subst (λ (q : ParseFault). Caused q) (sym p) (form_cause (seen source rest.now) (fault_at here (seen source rest.now) e) (shallow here (λ vs d. cc)))
  halted_fault (halts.Deep rest) fault e p = subst (λ (q : ParseFault). Caused q) (sym p) (deep_cause (seen source rest.now) (deep_at here (seen source rest.now) e))
  halted_fault halts.NoMemory fault e p = subst (λ (q : ParseFault). Caused q) (sym p) (tt, tt)

  pub finished_tree : (tree : ProgramTree) (rest : List Token) (found : Program) → reading.program within (length here) here ≡ Ok (tree, rest) → Finishes tree rest (Ok found) → Reads source (program_of found)
  finished_tree tree rest found e f = text_reads (program_of found) (e ∙ ap (λ (us : List Token). Ok (tree, us)) f.0 ∙ ap (λ (t : ProgramTree). Ok (t, [])) (sym f.1))
