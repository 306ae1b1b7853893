-- The scene of an iteration of a `par` that is cut between two iterations alone.
use Rattle.std.proofs.Common.{◌≡◌, ◌≢◌, ℕ, suc, ◌+◌, ◌<◌, ◌≤◌, Bool, true, false, List, [], ◌∷◌}
use Rattle.std.proofs.Common.{◌++◌, length, drop, Some, refl, sym, ap, subst, ◌∙◌, arith}
use Rattle.std.specs.Prelude.{ℤ, pos, ⊤}
use Rattle.std.specs.List.{AllByRecursion}
use Rattle.std.specs.Prelude.{nat_le}
use Rattle.std.proofs.lemmas.Bool.{true≢false}
use Rattle.std.proofs.lemmas.Bool.Decides.{nat_tests}
use Rattle.std.proofs.lemmas.List.Elements.{All-nil}
use Rattle.stack_marks.specs.declared.mark.Mark.{Mark}
use Rattle.stack_marks.specs.Stacks.{StackValue, word_at}
use Rattle.tp_value.specs.declared.limits.TheConstants.{MAX_PAR_NESTING}
use Rattle.tp_value.specs.declared.Table.{Table}
use Rattle.tp_value.specs.declared.Stop.{Stop}
use Rattle.tp_value.specs.declared.Stop.TheVariants.{Done, Left, Trap, NoFuel}
use Rattle.loop_syntax.specs.declared.ParLoop.{ParLoop}
use Rattle.loop_meaning.specs.declared.value.Variable.{Variable}
use Rattle.loop_meaning.specs.State as meaning
use Rattle.loop_meaning.specs.State.{Writes, has_cell, table_of, write_cell}
use Rattle.tpal_syntax.specs.declared.sites.LoopSite.{LoopSite}
use Rattle.tpal_syntax.specs.declared.words.Word.{Word}
use Rattle.tpal_syntax.specs.declared.words.Word.TheVariants.{Int, Nil, Rec}
use Rattle.tpal_syntax.specs.Listing.{Listing}
use Rattle.tpal_machine.specs.declared.ends.Ending.TheVariants as ending
use Rattle.tpal_machine.specs.declared.ends.Goal.{Goal}
use Rattle.tpal_machine.specs.declared.ends.Goal.TheVariants as goal
use Rattle.tpal_machine.specs.Effect.{is_marked_from}
use Rattle.tpal_machine.specs.Ended.{ended, ended_at, side_of}
use Rattle.tpal_machine.specs.declared.ends.Side.{Side}
use Rattle.tpal_machine.specs.Merge.{ended_together}
use Rattle.tpal_machine.specs.Owes as owes
use Rattle.tpal_machine.specs.Reading.{the_target}
use Rattle.tpal_machine.specs.State as machine
use Rattle.tpal_machine.specs.Step.{Ends, step}
use Rattle.frame_machine.specs.Modes.{Modes}
use Rattle.form_laws.proofs.Marks.{clear_both}
use Rattle.handler_gen.specs.LoopCuts.{loop_mark}
use Rattle.handler_gen.specs.Sites.{target_label}
use Rattle.scene_laws.specs.Layout.{Activation, bound_cell, rec_cell, value_cell}
use Rattle.scene_laws.specs.Marked.{IsSite}
use Rattle.scene_laws.proofs.Scenes.Activations.{clear_above}
use Rattle.scene_laws.proofs.Scenes.Fixed.{AreFixed, IsFree, fixed_same}
use Rattle.scene_laws.proofs.Merges.JoinsModes.{Serves}
use Rattle.scene_laws.proofs.Scenes.Pieces.{Piece, Host, Apart, either_promise, side_promise}
use Rattle.scene_laws.proofs.Scenes.Promises.{Promise, following}
use Rattle.scene_laws.proofs.Scenes.Regions.{Covers, Region, all_front}
use Rattle.scene_laws.proofs.Scenes.Results.{Result, noting, noting_then, notes_behind, notes_then}
use Rattle.scene_laws.proofs.Scenes.Results.{out}
use Rattle.scene_laws.proofs.Scenes.Results.{then}
use Rattle.scene_laws.proofs.Scenes.Scene.{IsEarly, Same, Scene}
use Rattle.scene_laws.proofs.Scenes.Showing.{as_many}
use Rattle.scene_laws.proofs.Cuts.Sides.{Part, side_by}
use Rattle.scene_laws.proofs.Scenes.Variables.{var_names}

-- a `par` that is cut between two iterations alone, at its place in a code: its cursor is its
-- variable
pub record ParAt (code : Listing) (act : Activation) : Type 0 where
  pub names : List (List ℕ)
  pub loop : ParLoop
  pub depth : ℕ
  pub site : LoopSite
  -- what is allowed round it
  pub modes : Modes
  pub nested : depth < MAX_PAR_NESTING
  pub fits : length names < act.most
  pub is_site : IsSite code act names loop depth (value_cell (length names)) site

pub drop_front : (xs ys : List ℕ) → drop (length xs) (xs ++ ys) ≡ ys
drop_front [] ys = refl
drop_front (x ∷ xs) ys = drop_front xs ys

-- what is kept of a piece on the stack while an iteration runs: what its world keeps, the record of
-- its end, the number of the iteration, the bound, and the variables that aren't reduced
pub record KeptTurn (z : ℕ) (site : LoopSite) (level : ℕ) (Outer : StackValue → Type 0)
    (own_rec : Word) (Fixed : StackValue → Type 0) (Enough : ℤ → ℤ → Type 0) (m j : ℤ)
    (s : StackValue) : Type 0 where
  pub outer : Outer s
  pub rec : word_at s (pos (z + site.rec)) ≡ Some own_rec
  pub next : word_at s (pos (z + value_cell level)) ≡ Some (Int m)
  pub bound : word_at s (pos (z + bound_cell level)) ≡ Some (Int j)
  pub fixed : Fixed s
  -- what the piece holds suffices for these iterations
  pub enough : Enough m j

module _ (code : Listing) (heartbeat z : ℕ) (act : Activation) (q : ParAt code act)
    (S : Scene code heartbeat z) (lowest : S.lowest ≤ length q.names) where
  abbrev pub level : ℕ
  level = length q.names

  pub rec_is : q.site.rec ≡ rec_cell q.depth
  rec_is = ap (λ (s : LoopSite). s.rec) q.is_site.is

  pub mark_is : q.site.mark ≡ bound_cell level
  mark_is = ap (λ (s : LoopSite). s.mark) q.is_site.is

  -- ---- what a piece owes, where the rest follows the whole

  module _ (k : meaning.State → Result) where
    abbrev pub host_promise : Promise code heartbeat S.World
    host_promise = following code heartbeat S.promise (λ w. w) (λ w. k)

    abbrev pub apart_promise : Promise code heartbeat Part
    apart_promise = side_promise code heartbeat q.is_site.scope q.loop

    abbrev pub pieces : Promise code heartbeat (Piece S.World)
    pieces = either_promise code heartbeat host_promise apart_promise

  -- ---- what a piece is like

  abbrev pub own_marks : Bool → List Mark
  own_marks true = loop_mark q.site z ∷ []
  own_marks false = []

  abbrev pub marks_of : Bool → Piece S.World → List Mark
  marks_of marked (Host w) = S.marks w ++ own_marks marked
  marks_of marked (Apart p) = own_marks marked

  abbrev pub goal_of : Piece S.World → Goal
  goal_of (Host w) = S.goal w
  goal_of (Apart p) = goal.At p.rec p.which (target_label q.site.label)

  abbrev pub before_of : Piece S.World → List ℕ
  before_of (Host w) = S.before w
  before_of (Apart p) = p.before

  abbrev pub since_of : Piece S.World → ℕ
  since_of (Host w) = S.since w
  since_of (Apart p) = p.since

  abbrev pub region_of : Piece S.World → Region
  region_of (Host w) = S.region w
  region_of (Apart p) = p.region

  abbrev pub outer_of : Piece S.World → StackValue → Type 0
  outer_of (Host w) s = S.kept w s
  outer_of (Apart p) s = ⊤

  abbrev pub rec_of : Piece S.World → Word
  rec_of (Host w) = Nil
  rec_of (Apart p) = Rec p.rec

  abbrev pub enough_of : List Variable → Piece S.World → ℤ → ℤ → Type 0
  enough_of vs (Host w) m j = ⊤
  enough_of vs (Apart p) m j = Serves q.modes q.loop vs m j p.region

  abbrev pub can_of : Piece S.World → List Table → Type 0
  can_of (Host w) ts = S.can w ts
  can_of (Apart p) ts = ⊤

  abbrev pub cut_of_piece : Piece S.World → ℕ → List ℕ → Piece S.World
  cut_of_piece (Host w) n printed = Host (S.cut w n printed)
  cut_of_piece (Apart p) n printed = Apart p

  -- ---- the scene

  abbrev pub FixedIn : List Variable → StackValue → Type 0
  FixedIn vs s = AreFixed q.loop.reduces.items s z 0 vs

  abbrev pub KeptOf : List Variable → ℤ → ℤ → Piece S.World → StackValue → Type 0
  KeptOf vs m j i s =
      KeptTurn z q.site level (outer_of i) (rec_of i) (FixedIn vs) (enough_of vs i) m j s

  -- the cells of the activation that an iteration may change below its own
  pub record MayTurn (c : ℕ) : Type 0 where
    pub no_next : c ≢ value_cell level
    pub no_bound : c ≢ bound_cell level
    pub no_rec : c ≢ q.site.rec
    pub free : IsFree q.loop.reduces.items q.names 0 c
    pub may : S.may c

  pub clear_own : (marked : Bool) → is_marked_from (own_marks marked) (z + value_cell
      (suc level)) ≡ false
  clear_own true =
      let is : nat_le (z + value_cell (suc level)) (z + q.site.mark) ≡ false =
      grind (arith, nat_tests, mark_is) in
      rw is refl
  clear_own false = refl

  pub clear_of : (marked : Bool) (i : Piece S.World)
      → is_marked_from (marks_of marked i) (z + value_cell (suc level)) ≡ false
  clear_of marked (Host w) =
      clear_both (S.marks w) (own_marks marked) (z + value_cell (suc level))
      (clear_above (S.marks w) (z + value_cell S.lowest) (z + value_cell (suc level))
      (omega (arith, lowest)) (S.below w)) (clear_own marked)
  clear_of marked (Apart p) = clear_own marked

  pub outer_stable : (i : Piece S.World) (s t : StackValue) → Same z S.may level s t → outer_of i s
      → outer_of i t
  outer_stable (Host w) s t same h = S.stable w level s t lowest same h
  outer_stable (Apart p) s t same h = tt

  pub below_own : (other : ℕ) (s t : StackValue) → suc level ≤ other → Same z MayTurn other s t
      → Same z S.may level s t
  below_own other s t low same = record {
    base = same.base;
    at = λ a lt others. same.at a (omega (arith, low, lt)) (λ c m. others c m.may);
  }

  pub stable_of : (vs : List Variable) → var_names vs ≡ q.names → (m j : ℤ) (i : Piece S.World)
      (other : ℕ) (s t : StackValue) → suc level ≤ other → Same z MayTurn other s t
      → KeptOf vs m j i s → KeptOf vs m j i t
  stable_of vs named m j i other s t low same h = record {
    outer = outer_stable i s t (below_own other s t low same) h.outer;
    rec = same.at (z + q.site.rec) (omega (arith, low, rec_is, q.nested))
        (λ c m e. m.no_rec (omega (arith, e))) ∙ h.rec;
    next = same.at (z + value_cell level) (omega (arith, low))
        (λ c m e. m.no_next (omega (arith, e))) ∙ h.next;
    bound = same.at (z + bound_cell level) (omega (arith, low))
        (λ c m e. m.no_bound (omega (arith, e))) ∙ h.bound;
    fixed = fixed_same q.loop.reduces.items s t z 0 vs
        (λ x below others. same.at (z + value_cell x) (omega (arith, low, below, many))
        (λ c m e. others c (rw named m.free) (omega (arith, e)))) h.fixed;
    enough = h.enough;
  }
    where
      many : length vs ≡ level
      many = as_many vs q.names named

  -- ---- stops

  pub early_end : (p : Part) (stop : Stop) (st : meaning.State) (output : List ℕ) → IsEarly stop
      → st.output ≡ p.before ++ output
      → side_by q.is_site.scope q.loop p (out stop st).end ≡ record {
        stop = stop;
        ticks = st.ticks;
        output = output;
        words = [];
        slices = [];
      }
  early_end p stop st output early printed =
      ap (λ (bytes : List ℕ). record {
        stop = stop;
        ticks = st.ticks;
        output = bytes;
        words = [];
        slices = [];
      }) (ap (λ (bytes : List ℕ). drop (length p.before) bytes) printed
      ∙ drop_front p.before output)

  pub early_side : (p : Part) (stop : Stop) (st : meaning.State) (last : machine.State)
      → IsEarly stop
      → last.fuel.ticks ≡ st.ticks → st.output ≡ p.before ++ last.output
      → side_of (the_target code (target_label q.site.label)) stop last
      ≡ side_by q.is_site.scope q.loop p (out stop st).end
  early_side p Done st last early ticks printed = absurd early
  early_side p (Left number) st last early ticks printed = absurd early
  early_side p (Trap kind place) st last early ticks printed =
      rw ticks (sym (early_end p (Trap kind place) st last.output tt printed))
  early_side p NoFuel st last early ticks printed =
      rw ticks (sym (early_end p NoFuel st last.output tt printed))

  pub stops_of : (k : meaning.State → Result) (i : Piece S.World) (stop : Stop) (st : meaning.State)
      (state last : machine.State) → IsEarly stop → last.fuel.ticks ≡ st.ticks
      → st.output ≡ before_of i ++ last.output → last.goal ≡ goal_of i
      → ((allowed : Bool) → step code heartbeat allowed state ≡ Ends (ended code stop last))
      → ((pieces k).owing i (out stop st)).Holds state
  stops_of k (Host w) stop st state last early ticks printed ends step_is =
      S.stops w stop st state last early ticks printed ends step_is
  stops_of k (Apart p) stop st state last early ticks printed ends step_is =
      λ given can. owes.ends state ((pieces k).ending (Apart p) (out stop st))
      (step_is true
      ∙ ap Ends (ap (λ (g : Goal). ended_at g code stop last) ends
      ∙ ap (λ (side : Side). ending.At p.rec p.which side)
      (early_side p stop st last early ticks printed)))

  pub stopped_of : (k : meaning.State → Result) (i : Piece S.World) (stop : Stop)
      (st : meaning.State)
      (output : List ℕ) → IsEarly stop → st.output ≡ before_of i ++ output
      → (pieces k).ending i (out stop st) ≡ ended_together (goal_of i) stop st.ticks output
  stopped_of k (Host w) stop st output early printed = S.stopped w stop st output early printed
  stopped_of k (Apart p) stop st output early printed =
      ap (λ s. ending.At p.rec p.which s) (early_end p stop st output early printed)

  pub covers_of : (k : meaning.State → Result) (i : Piece S.World) (r : Result)
      → (pieces k).given i r → AllByRecursion (Covers (region_of i)) r.notes
  covers_of k (Host w) r given =
      all_front (Covers (S.region w)) r.notes (notes_behind r k)
      (subst (AllByRecursion (Covers (S.region w))) (notes_then r k) (S.covers w (then r k) given))
  covers_of k (Apart p) r given = given

  pub allows_of : (k : meaning.State → Result) (i : Piece S.World) (t : List ℕ) (a b n : ℤ)
      (ts : List Table) (r : Result) → has_cell (table_of ts t) a b ≡ true
      → (pieces k).given i (noting (Writes t a b ∷ []) r)
      → can_of i ts → can_of i (write_cell ts t a b n)
  allows_of k (Host w) t a b n ts r has given can =
      S.allows w t a b n ts (then r k) has
      (subst (S.given w) (noting_then (Writes t a b ∷ []) r k) given) can
  allows_of k (Apart p) t a b n ts r has given can = tt

  -- The iteration m runs, of those up to a bound, where the variables round the loop have these
  -- values. The loop's own mark stands, or it has gone.
  abbrev pub turning : (k : meaning.State → Result) → Bool → (vs : List Variable)
      → var_names vs ≡ q.names → ℤ → ℤ → Scene code heartbeat z
  turning k marked vs named m j = record {
    World = Piece S.World;
    levels = S.levels;
    fuel = S.fuel;
    dispatch = S.dispatch;
    size = S.size;
    promise = pieces k;
    around = record {
      marks = marks_of marked;
      goal = goal_of;
      before = before_of;
      since = since_of;
      region = region_of;
      kept = KeptOf vs m j;
      can = can_of;
    };
    lowest = suc level;
    may = MayTurn;
    registers = [];
    high = tt;
    unlike = tt;
    under = All-nil (λ (c : ℕ). c < value_cell (suc level));
    sized = All-nil (λ (c : ℕ). c < S.size);
    cut = cut_of_piece;
    stable = stable_of vs named m j;
    below = clear_of marked;
    stops = stops_of k;
    stopped = stopped_of k;
    covers = covers_of k;
    allows = allows_of k;
    is_open = false;
    handles = λ opened. absurd (true≢false (sym opened));
  }
