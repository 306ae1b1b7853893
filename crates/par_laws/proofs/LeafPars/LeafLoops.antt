-- A piece of a leaf loop owes its iterations, whatever is cut while it runs.
use Rattle.std.proofs.Common.{◌≡◌, ℕ, zero, suc, ◌<◌, ◌≤◌, true, false, All, List, []}
use Rattle.std.proofs.Common.{◌∷◌}
use Rattle.std.proofs.Common.{◌++◌, length, take, Some, refl, ap, sym, subst, ◌∙◌, arith}
use Rattle.std.specs.Prelude.{ℤ, slice_get}
use Rattle.beat_count.specs.Heartbeat.{is_diverted}
use Rattle.loop_syntax.specs.declared.Program.{Program}
use Rattle.loop_meaning.specs.declared.value.Variable.{Variable}
use Rattle.loop_meaning.specs.InRange.{InRange}
use Rattle.loop_meaning.specs.State as meaning
use Rattle.loop_meaning.specs.State.{Ran}
use Rattle.stack_marks.specs.declared.mark.Mark.{Mark}
use Rattle.tp_value.specs.declared.limits.TheConstants.{MAX_PAR_LENGTH}
use Rattle.tpal_syntax.specs.Conditions.{is_ready}
use Rattle.tpal_syntax.specs.declared.instructions.Instr.{Instr}
use Rattle.tpal_syntax.specs.declared.instructions.Instr.TheVariants as instr
use Rattle.tpal_syntax.specs.declared.instructions.Term.{Term}
use Rattle.tpal_syntax.specs.declared.notes.Note.TheVariants as note
use Rattle.tpal_syntax.specs.declared.words.Word.TheVariants as word
use Rattle.tpal_syntax.specs.Listing.{Listing}
use Rattle.tpal_machine.specs.Effect.{has_mark, oldest}
use Rattle.tpal_machine.specs.Reading.{block_at, note_of, register}
use Rattle.tpal_machine.specs.State as machine
use Rattle.tpal_machine.specs.Step.{advanced}
use Rattle.expr_lower.specs.Standing.{Remains}
use Rattle.handler_gen.specs.LeafCuts.{CutsLeaf, StartsLeaf}
use Rattle.handler_gen.specs.LeafSites.{head_label, reload_label, start_label}
use Rattle.handler_gen.specs.LoopCuts.{loop_mark}
use Rattle.handler_gen.specs.Sites.{first_label, over_label, side_label}
use Rattle.handler_gen.proofs.LeafStores.{cells_with, marks_registers}
use Rattle.handler_gen.proofs.Ready.{diverted_to}
use Rattle.join_gen.specs.LoopJoins.{JoinsLoop}
use Rattle.scene_laws.specs.Code.{Opens, OpensAs, to}
use Rattle.scene_laws.specs.Layout.{Activation, value_cell}
use Rattle.scene_laws.specs.Marked.{side_test, unmark}
use Rattle.scene_laws.proofs.Cuts.CutGaps.{Halved, halved}
use Rattle.scene_laws.proofs.Cuts.Gaps.{IsGap}
use Rattle.par_laws.proofs.LeafPars.LeafHeads.{at_dispatch, is_turned, label_there, loads_again}
use Rattle.par_laws.proofs.LeafPars.LeafHeads.{loads_first, shows_stored_task, turned_owes}
use Rattle.par_laws.proofs.LeafPars.LeafTurning.{LeafAt, kept, leaf_turning}
use Rattle.par_laws.proofs.LeafPars.LeafTurns.{LeafTest, LeafTurn, RunsLeaf, a_leaf_turn}
use Rattle.par_laws.proofs.LeafPars.LeafTurns.{compared, first_turns, test_more, test_over}
use Rattle.par_laws.proofs.QuietPars.QuietBacks as backs
use Rattle.par_laws.proofs.QuietPars.QuietCuts.{OverOwed, body, split_owed}
use Rattle.par_laws.proofs.QuietPars.QuietSides.{AllowsCuts, IsSplit}
use Rattle.par_laws.proofs.QuietPars.Turned.{T}
use Rattle.par_laws.proofs.QuietPars.Turning.{marks_of, pieces}
use Rattle.scene_laws.proofs.Scenes.Moves.{calm, opened}
use Rattle.scene_laws.proofs.Scenes.Pieces.{Apart, Host, Piece}
use Rattle.scene_laws.proofs.Scenes.Promises.{Promise}
use Rattle.scene_laws.proofs.Scenes.Results.{Result, result}
use Rattle.scene_laws.proofs.Scenes.Scene.{GoesBack, Scene, SeenIn, ShowsIn}
use Rattle.scene_laws.proofs.Scenes.Variables.{var_names}

-- the oldest of some marks and one more
abbrev first_of : List Mark → Mark → Mark
first_of [] own = own
first_of (m ∷ ms) own = m

first_is : (ms : List Mark) (own : Mark)
    → slice_get (ms ++ own ∷ []) 0 ≡ Some (first_of ms own)
first_is [] own = refl
first_is (m ∷ ms) own = refl

-- the blocks behind the begin of a leaf loop
pub record LeafBlocks (code : Listing) (act : Activation) (l : LeafAt code act) : Type 0 where
  pub first : ℕ
  pub exit : ℕ
  pub instrs : List Instr
  pub last : Term
  pub again : List Instr
  pub half : Term
  pub begins : Opens code first (instr.Tick ∷ instrs) last
  pub ready : OpensAs code (note.Ready l.leaf.label) (head_label l.leaf) (instr.Tick ∷ again) half
  pub over : Opens code (over_label l.q.site.label) (unmark l.q.site ∷ side_test l.q.site exit)
      (to (side_label l.q.site.label))

module _ {code : Listing} (heartbeat z : ℕ) {act : Activation} (l : LeafAt code act)
    (S : Scene code heartbeat z) (lowest : S.lowest ≤ length l.q.names)
    (k : meaning.State → Result) (vs : List Variable) (named : var_names vs ≡ l.q.names)
    (accs_below : All (λ c. c < value_cell (suc (length l.q.names))) (cells_with (kept l)))
    (tall : S.size ≤ act.size) (fuel : ℕ) (p : Program) (room : ℕ) (inner : List (List ℕ))
    (inner_first : take (length l.q.names) inner ≡ l.q.names) (b : LeafBlocks code act l)
    (allows : AllowsCuts code heartbeat z act l.q S p room)
    (joins : JoinsLoop code heartbeat l.q.site) (cuts : CutsLeaf code heartbeat l.leaf)
    (starts : StartsLeaf code heartbeat l.leaf b.first)
    (calm_reload : is_ready (note_of (block_at code (reload_label l.leaf.label))) ≡ false) where
  abbrev P : Promise code heartbeat (Piece S.World)
  P = pieces code heartbeat z act l.q S lowest k

  abbrev x : List ℕ
  x = l.q.loop.var.text.items

  abbrev run : meaning.State → Ran
  run = body code heartbeat z act l.q S lowest k vs named fuel p room b.exit b.over allows joins

  abbrev head : ℕ
  head = head_label l.leaf

  abbrev over : ℕ
  over = over_label l.q.site.label

  abbrev Stored : ℤ → ℤ → Scene code heartbeat z
  Stored m j = T code heartbeat z act l.q S lowest k vs named true m j

  abbrev pub Turns : ℕ → Type 0
  Turns n =
      LeafTurn heartbeat z l S lowest k vs named accs_below tall fuel x run inner inner_first head
      over n

  abbrev Tests : ℕ → Type 0
  Tests n =
      LeafTest heartbeat z l S lowest k vs named accs_below tall fuel x run inner inner_first head
      over n

  abbrev pub Runs : List Instr → Term → Type 0
  Runs instrs end =
      RunsLeaf heartbeat z l S lowest k vs named accs_below tall fuel x run inner inner_first head
      over instrs end

  abbrev turns_of : ℕ → ℤ → meaning.State → Result
  turns_of n m st =
      result (first_turns heartbeat z l S lowest k vs named accs_below tall fuel x run inner
      inner_first head over n m st)

  pub ready : note_of (block_at code head) ≡ note.Ready l.leaf.label
  ready = ap note_of b.ready.found ∙ b.ready.noted

  opens_head : Remains code head 0 (instr.Tick ∷ b.again) b.half
  opens_head = record {
    block = b.ready.block;
    found = b.ready.found;
    rest = b.ready.body;
    ends = b.ready.ends;
  }

  start_is : first_label l.q.site.label ≡ start_label l.leaf
  start_is = ap (λ s. first_label s.label) l.is

  module _ (runs_first : Runs b.instrs b.last) (runs_again : Runs b.again b.half)
      (over_owed : OverOwed code heartbeat z act l.q S lowest k vs named fuel p room b.exit b.over
      allows joins) where
    -- ---- a beat before one of so many iterations and one more

    module _ (n : ℕ) (short : suc n ≤ MAX_PAR_LENGTH) (turns : (c : ℕ) → c ≤ n → Turns c) (m j : ℤ)
        (gap : IsGap (suc n) m j) (in_m : InRange m) (in_j : InRange j) (i : Piece S.World)
        (st : meaning.State) (state : machine.State)
        (seen : SeenIn code heartbeat z act fuel
        (leaf_turning heartbeat z l S lowest k vs named accs_below m j) i l.q.names st state)
        (beats : is_diverted heartbeat (has_mark state.stack) true (advanced state).beat ≡ true)
        (mark : Mark) (marked : oldest state.stack ≡ Some mark) where
      abbrev other : machine.State
      other = at_dispatch heartbeat z l S lowest k vs named accs_below tall fuel cuts
          allows.blocks.dispatches ready calm_reload m j i st state seen mark marked beats

      label : register other.registers 30 ≡ word.Label (reload_label l.leaf.label)
      label = label_there heartbeat z l S lowest k vs named accs_below tall fuel cuts
          allows.blocks.dispatches ready calm_reload m j i st state seen mark marked beats

      -- whoever goes back with so many iterations
      goes_back : (a : ℕ) → a ≤ n → (to_n : ℤ) → IsGap (suc a) m to_n → InRange to_n
          → (o : Piece S.World) (u : machine.State) → GoesBack code other u
          → ShowsIn code heartbeat z act fuel (Stored m to_n) o l.q.names st u
          → (P.owing o (turns_of a m st)).Holds u
      goes_back a few to_n gap_a in_n o u gone shows_u =
          loads_again heartbeat z l S lowest k vs named accs_below tall fuel cuts
          allows.blocks.dispatches ready calm_reload m to_n o st (turns_of a m st) other u label
          gone shows_u (λ task seen_task at_label at_begin.
          turns a few m to_n o st task seen_task gap_a in_m in_n b.again b.half runs_again
          (rw (at_label, at_begin) opens_head))

      -- whoever begins
      begins : (a : ℕ) → a ≤ n → (from_n : ℤ) → IsGap (suc a) from_n j → InRange from_n
          → (o : Piece S.World) (begin : meaning.State) (u : machine.State)
          → ShowsIn code heartbeat z act fuel (Stored from_n j) o l.q.names begin u
          → u.block ≡ first_label l.q.site.label → u.at ≡ 0
          → (P.owing o (turns_of a from_n begin)).Holds u
      begins a few from_n gap_a in_n o begin u shows_u at_label at_begin =
          loads_first heartbeat z l S lowest k vs named accs_below tall fuel cuts
          allows.blocks.dispatches ready calm_reload b.first starts
          (calm code b.first (instr.Tick ∷ b.instrs) b.last b.begins) from_n j o begin
          (turns_of a from_n begin) u shows_u (at_label ∙ start_is) at_begin
          (λ task seen_task at_first at_zero.
          turns a few from_n j o begin task seen_task gap_a in_n in_j b.instrs b.last runs_first
          (rw (at_first, at_zero)
          (opened code b.first (instr.Tick ∷ b.instrs) b.last b.begins)))

      turned_back : backs.IsTurned code heartbeat z act l.q S lowest k vs named fuel m j i st
          (turns_of n m st) other
      turned_back = record {
        shows = shows_stored_task heartbeat z l S lowest k vs named accs_below tall fuel cuts
            allows.blocks.dispatches ready calm_reload m j i st state seen mark marked beats;
        turned = is_turned heartbeat z l S lowest k vs named accs_below tall fuel cuts
            allows.blocks.dispatches ready calm_reload m j i st state seen mark marked beats;
        goes_on = λ o u gone shows_u. goes_back n (omega arith) j gap in_j o u gone shows_u;
      }

      -- where its own mark is the oldest
      own_owed : marks_of code heartbeat z act l.q S lowest true i ≡ loop_mark l.q.site z ∷ []
          → (P.diverted i (turns_of n m st)).Holds other
      own_owed oldest_is =
          split_owed code heartbeat z act l.q S lowest k vs named fuel p room b.exit b.over allows
          joins over_owed m j i st other split_here goes_back begins
          (backs.uncut_goes_on code heartbeat z act l.q S lowest k vs named fuel m j i st
          (turns_of n m st) other turned_back)
        where
          half : Halved n m j
          half = halved n m j gap

          split_here : IsSplit code heartbeat z act l.q S lowest k vs named fuel p room allows m j i
              st other
          split_here = record {
            shows = turned_back.shows;
            turned = turned_back.turned;
            oldest = oldest_is;
            n = n;
            gap = gap;
            short = short;
            in_m = in_m;
            in_j = in_j;
            below = half.lower;
            above = half.upper;
            all = half.all;
            cuts = half.cut ∙ ap Some (sym half.is);
          }

      at_dispatch_owed : (o : Piece S.World) → o ≡ i → (P.diverted i (turns_of n m st)).Holds other
      at_dispatch_owed (Apart q) is =
          own_owed (ap (λ v. marks_of code heartbeat z act l.q S lowest true v) (sym is))
      at_dispatch_owed (Host w) is = by_marks (S.marks w) refl
        where
          by_marks : (marks : List Mark) → S.marks w ≡ marks
              → (P.diverted i (turns_of n m st)).Holds other
          by_marks [] none =
              own_owed (ap (λ v. marks_of code heartbeat z act l.q S lowest true v) (sym is)
              ∙ ap (λ (ms : List Mark). ms ++ loop_mark l.q.site z ∷ []) none)
          by_marks (o ∷ os) some =
              subst (λ (v : Piece S.World). (P.diverted v (turns_of n m st)).Holds other) is
              (backs.outer_handles code heartbeat z act l.q S lowest k vs named fuel m j
              allows.opened allows.free_rec w (λ none. let wrong : [] ≡ o ∷ os = sym none ∙ some in
              cc) st (turns_of n m st) other
              (subst (λ (v : Piece S.World). backs.IsTurned code heartbeat z act l.q S lowest k vs
              named fuel m j v st (turns_of n m st) other) (sym is) turned_back))

      pub diverted : (P.diverted i (turns_of n m st)).Holds
          (diverted_to heartbeat head l.leaf.label state)
      diverted =
          turned_owes heartbeat z l S lowest k vs named accs_below tall fuel cuts
          allows.blocks.dispatches ready calm_reload m j i st state seen mark marked beats
          (turns_of n m st) (at_dispatch_owed i refl)

    -- ---- the iterations

    abbrev own : Mark
    own = loop_mark l.q.site z

    -- the oldest mark of a piece
    abbrev oldest_of : Piece S.World → Mark
    oldest_of (Host w) = first_of (S.marks w) own
    oldest_of (Apart q) = own

    oldest_in : (i : Piece S.World)
        → slice_get (marks_of code heartbeat z act l.q S lowest true i) 0 ≡ Some (oldest_of i)
    oldest_in (Host w) = first_is (S.marks w) own
    oldest_in (Apart q) = refl

    oldest_there : (m j : ℤ) (i : Piece S.World) (st : meaning.State) (state : machine.State)
        → SeenIn code heartbeat z act fuel
        (leaf_turning heartbeat z l S lowest k vs named accs_below m j) i l.q.names st state
        → oldest state.stack ≡ Some (oldest_of i)
    oldest_there m j i st state seen =
        ap (λ (ms : List Mark). slice_get ms 0)
        (sym (marks_registers (kept l) state.registers state.stack z) ∙ seen.marked) ∙ oldest_in i

    at_test : (n : ℕ) → n ≤ MAX_PAR_LENGTH → ((c : ℕ) → c < n → Turns c) → Tests n
    at_test zero short turns m j i st state seen gap in_m in_j stands =
        test_over heartbeat z l S lowest k vs named accs_below tall fuel x run inner inner_first
        head over m j i st state seen (unmark l.q.site ∷ side_test l.q.site b.exit)
        (to (side_label l.q.site.label)) b.over gap stands
        (λ task shows at_label at_begin. over_owed true m j i st task shows at_label at_begin)
    at_test (suc n) short turns m j i st state seen gap in_m in_j stands =
        test_more heartbeat z l S lowest k vs named accs_below tall fuel x run inner inner_first
        head over m j i st state seen (instr.Tick ∷ b.again) b.half l.leaf.label b.ready n gap
        stands (λ seen_in.
        turns n (omega arith) m j i st _ seen_in gap in_m in_j b.again b.half runs_again opens_head)
        (λ seen_here beats.
        diverted n short (λ c le. turns c (omega (arith, le))) m j gap in_m in_j i st here seen_here
        beats (oldest_of i) (oldest_there m j i st here seen_here))
      where
        here : machine.State
        here =
            compared heartbeat z l S lowest k vs named accs_below tall fuel x run inner inner_first
            head over m j i st state seen true

    turns_below : (bound : ℕ) → bound ≤ MAX_PAR_LENGTH → (n : ℕ) → n < bound → Turns n
    turns_below zero few n less = absurd (omega (arith, less))
    turns_below (suc bound) few n less =
        a_leaf_turn heartbeat z l S lowest k vs named accs_below tall fuel x run inner inner_first
        head over n
        (at_test n (omega (arith, few, less))
        (λ c below. turns_below bound (omega (arith, few)) c (omega (arith, below, less))))

    -- a task owes so many iterations where the first one begins
    pub all_turns : (n : ℕ) → suc n ≤ MAX_PAR_LENGTH → Turns n
    all_turns n short = turns_below (suc n) short n (omega arith)
