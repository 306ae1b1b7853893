-- The iterations of a `par` that is cut between two of them alone: each piece owes what it gives,
-- by induction on how many iterations are left.
use Rattle.std.proofs.Common.{◌≡◌, ℕ, zero, suc, ◌<◌, ◌≤◌, true, List, [], ◌∷◌, ◌++◌, length, take}
use Rattle.std.proofs.Common.{refl, sym, ap, ◌∙◌, arith}
use Rattle.std.specs.Prelude.{ℤ}
use Rattle.beat_count.specs.Heartbeat.{is_diverted}
use Rattle.stack_marks.specs.declared.mark.Mark.{Mark}
use Rattle.tp_value.specs.declared.limits.TheConstants.{MAX_PAR_LENGTH}
use Rattle.loop_meaning.specs.declared.value.Variable.{Variable}
use Rattle.loop_meaning.specs.InRange.{InRange}
use Rattle.loop_meaning.specs.State as meaning
use Rattle.loop_meaning.specs.State.{Chance, Ran}
use Rattle.loop_meaning.specs.Statements.{iterate}
use Rattle.tpal_syntax.specs.declared.instructions.Instr.{Instr}
use Rattle.tpal_syntax.specs.declared.instructions.Instr.TheVariants as instr
use Rattle.tpal_syntax.specs.declared.instructions.Term.{Term}
use Rattle.tpal_syntax.specs.declared.notes.Note.TheVariants as note
use Rattle.tpal_syntax.specs.Listing.{Listing}
use Rattle.tpal_machine.specs.Effect.{has_mark}
use Rattle.tpal_machine.specs.Reading.{block_at, note_of}
use Rattle.tpal_machine.specs.State as machine
use Rattle.tpal_machine.specs.Step.{advanced}
use Rattle.expr_lower.specs.Standing.{Remains}
use Rattle.handler_gen.proofs.Ready.{diverted_to, goes_in}
use Rattle.handler_gen.specs.LoopCuts.{loop_mark}
use Rattle.handler_gen.specs.Sites.{over_label, side_label}
use Rattle.join_gen.specs.LoopJoins.{JoinsLoop}
use Rattle.scene_laws.specs.Code.{Opens, OpensAs, to}
use Rattle.scene_laws.specs.Layout.{Activation}
use Rattle.scene_laws.specs.Marked.{side_test, unmark}
use Rattle.scene_laws.proofs.Cuts.Gaps.{IsGap}
use Rattle.scene_laws.proofs.Scenes.Pieces.{Apart, Host, Piece}
use Rattle.scene_laws.proofs.Scenes.Promises.{Promise}
use Rattle.par_laws.proofs.QuietPars.QuietBacks.{outer_handles, turned_at_head}
use Rattle.par_laws.proofs.QuietPars.QuietEnds.{at_over}
use Rattle.par_laws.proofs.QuietPars.QuietTests.{compared, test_more, test_over}
use Rattle.scene_laws.proofs.Scenes.Results.{Result, result}
use Rattle.scene_laws.proofs.Scenes.Scene.{Owed, Scene, ShowsIn}
use Rattle.par_laws.proofs.QuietPars.Turned.{AtTest, AtTurn, RunsBody, T, a_turn}
use Rattle.par_laws.proofs.QuietPars.Turning.{ParAt, marks_of, pieces}
use Rattle.scene_laws.proofs.Scenes.Variables.{var_names}

-- the blocks behind the begin of such a `par`: its first iteration, each later one at the promotion
-- point, and its end
pub record TurnBlocks (code : Listing) (act : Activation) (q : ParAt code act) (dispatch : ℕ)
    : Type 0 where
  pub first : ℕ
  pub head : ℕ
  pub exit : ℕ
  pub instrs : List Instr
  pub last : Term
  pub again : List Instr
  pub half : Term
  pub begins : Opens code first (instr.Tick ∷ instrs) last
  pub ready : OpensAs code (note.Ready dispatch) head (instr.Tick ∷ again) half
  pub over : Opens code (over_label q.site.label) (unmark q.site ∷ side_test q.site exit)
      (to (side_label q.site.label))
  pub side_instrs : List Instr
  pub side_end : Term
  pub side : Opens code (side_label q.site.label) side_instrs side_end

module _ (code : Listing) (heartbeat z : ℕ) (act : Activation) (q : ParAt code act)
    (S : Scene code heartbeat z) (lowest : S.lowest ≤ length q.names) (k : meaning.State → Result)
    (vs : List Variable) (named : var_names vs ≡ q.names) (fuel : ℕ) (x : List ℕ)
    (body : meaning.State → Ran) (inner : List (List ℕ))
    (first : take (length q.names) inner ≡ q.names) (b : TurnBlocks code act q S.dispatch) where
  abbrev P : Promise code heartbeat (Piece S.World)
  P = pieces code heartbeat z act q S lowest k

  abbrev Turning : ℤ → ℤ → Scene code heartbeat z
  Turning m j = T code heartbeat z act q S lowest k vs named true m j

  abbrev over : ℕ
  over = over_label q.site.label

  abbrev pub Turns : ℕ → Type 0
  Turns n =
      AtTurn code heartbeat z act q S lowest k vs named fuel x body inner first b.head over n

  abbrev Tests : ℕ → Type 0
  Tests n =
      AtTest code heartbeat z act q S lowest k vs named fuel x body inner first b.head over n

  abbrev Runs : List Instr → Term → Type 0
  Runs instrs end =
      RunsBody code heartbeat z act q S lowest k vs named fuel x body inner first b.head over instrs
      end

  abbrev first_turns : ℕ → ℤ → meaning.State → Ran
  first_turns n m = iterate fuel x body (Chance ∷ []) [] (suc n) m

  -- what a task owes that is diverted before one of so many iterations and one more, where the
  -- loop's own mark is the oldest
  abbrev pub OwnCutOwed : ℕ → Type 0
  OwnCutOwed n =
      (m j : ℤ) (i : Piece S.World) (st : meaning.State) (state : machine.State)
      → ShowsIn code heartbeat z act fuel (Turning m j) i q.names st state
      → marks_of code heartbeat z act q S lowest true i ≡ loop_mark q.site z ∷ []
      → is_diverted heartbeat (has_mark state.stack) true (advanced state).beat ≡ true
      → IsGap (suc n) m j → InRange m → InRange j → suc n ≤ MAX_PAR_LENGTH
      → ((c : ℕ) → c ≤ n → Turns c)
      → (P.diverted i (result (first_turns n m st))).Holds
      (diverted_to heartbeat b.head S.dispatch state)

  module _ (opened : S.is_open ≡ true) (free_rec : S.may q.site.rec) (more : List Instr)
      (end : Term) (ends : Opens code b.exit more end)
      (post : Owed code heartbeat z act fuel S q.names more end k)
      (joins : JoinsLoop code heartbeat q.site) (runs_again : Runs b.again b.half)
      (own_cut : (n : ℕ) → OwnCutOwed n) where
    ready : note_of (block_at code b.head) ≡ note.Ready S.dispatch
    ready = ap note_of b.ready.found ∙ b.ready.noted

    opens_head : Remains code b.head 0 (instr.Tick ∷ b.again) b.half
    opens_head = record {
      block = b.ready.block;
      found = b.ready.found;
      rest = b.ready.body;
      ends = b.ready.ends;
    }

    -- an iteration at the promotion point
    at_head : (n : ℕ) → Turns n → (m j : ℤ) → IsGap (suc n) m j → InRange m → InRange j
        → (i : Piece S.World) (st : meaning.State) (task : machine.State)
        → ShowsIn code heartbeat z act fuel (Turning m j) i q.names st task
        → task.block ≡ b.head → task.at ≡ 0
        → (P.owing i (result (first_turns n m st))).Holds task
    at_head n turns m j gap in_m in_j i st task shows at_label at_begin =
        turns m j i st task shows gap in_m in_j b.again b.half runs_again
        (rw (at_label, at_begin) opens_head)

    diverted : (n : ℕ) → suc n ≤ MAX_PAR_LENGTH → ((c : ℕ) → c ≤ n → Turns c) → (m j : ℤ)
        (i : Piece S.World) (st : meaning.State) (state : machine.State)
        → ShowsIn code heartbeat z act fuel (Turning m j) i q.names st state
        → is_diverted heartbeat (has_mark state.stack) true (advanced state).beat ≡ true
        → IsGap (suc n) m j → InRange m → InRange j
        → (P.diverted i (result (first_turns n m st))).Holds
        (diverted_to heartbeat b.head S.dispatch state)
    diverted n short turns m j (Apart p) st state shows beats gap in_m in_j =
        own_cut n m j (Apart p) st state shows refl beats gap in_m in_j short turns
    diverted n short turns m j (Host w) st state shows beats gap in_m in_j =
        by_marks (S.marks w) refl
      where
        by_marks : (marks : List Mark) → S.marks w ≡ marks
            → (P.diverted (Host w) (result (first_turns n m st))).Holds
            (diverted_to heartbeat b.head S.dispatch state)
        by_marks [] none =
            own_cut n m j (Host w) st state shows
            (ap (λ (ms : List Mark). ms ++ loop_mark q.site z ∷ []) none) beats gap in_m in_j short
            turns
        by_marks (o ∷ os) some =
            outer_handles code heartbeat z act q S lowest k vs named fuel m j opened free_rec w
            (λ none. let wrong : [] ≡ o ∷ os = sym none ∙ some in cc) st
            (result (first_turns n m st)) (diverted_to heartbeat b.head S.dispatch state)
            (turned_at_head code heartbeat z act q S lowest k vs named fuel m j b.head ready
            (Host w) st (result (first_turns n m st)) state shows beats
            (λ i task shows_it at_label at_begin.
            at_head n (turns n (omega arith)) m j gap in_m in_j i st task shows_it at_label
            at_begin))

    at_test : (n : ℕ) → n ≤ MAX_PAR_LENGTH → ((c : ℕ) → c < n → Turns c) → Tests n
    at_test zero short turns m j i st state shows gap in_m in_j is_m stands =
        test_over code heartbeat z act q S lowest k vs named fuel x body inner first b.head over m j
        i st state shows is_m stands (unmark q.site ∷ side_test q.site b.exit)
        (to (side_label q.site.label)) b.over gap
        (λ task shows_it at_label at_begin.
        at_over code heartbeat z act q S lowest k vs named fuel true m j st task b.exit b.over more
        end ends post joins b.side_instrs b.side_end b.side i shows_it at_label at_begin)
    at_test (suc n) short turns m j i st state shows gap in_m in_j is_m stands =
        test_more code heartbeat z act q S lowest k vs named fuel x body inner first b.head over m j
        i st state shows is_m stands (instr.Tick ∷ b.again) b.half b.ready n gap
        (λ shows_it.
        at_head n (turns n (omega arith)) m j gap in_m in_j i st (goes_in heartbeat b.head here)
        shows_it refl refl)
        (λ shows_it beats.
        diverted n short (λ c le. turns c (omega (arith, le))) m j i st here shows_it beats gap in_m
        in_j)
      where
        here : machine.State
        here =
            compared code heartbeat z act q S lowest k vs named fuel x body inner first b.head over
            m
            j i st state shows is_m stands true

    turns_below : (bound : ℕ) → bound ≤ MAX_PAR_LENGTH → (n : ℕ) → n < bound → Turns n
    turns_below zero few n less = absurd (omega (arith, less))
    turns_below (suc bound) few n less =
        a_turn code heartbeat z act q S lowest k vs named fuel x body inner first b.head over n
        (at_test n (omega (arith, few, less))
        (λ c below. turns_below bound (omega (arith, few)) c (omega (arith, below, less))))

    -- a task owes so many iterations where the first one begins
    pub all_turns : (n : ℕ) → suc n ≤ MAX_PAR_LENGTH → Turns n
    all_turns n short = turns_below (suc n) short n (omega arith)
