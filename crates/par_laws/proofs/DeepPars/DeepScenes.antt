-- A `par` that may be cut in the middle of an iteration, where it stands, with what goes on round
-- it; and the scene between two of its iterations.
use Rattle.std.proofs.Common.{◌≡◌, ◌≢◌, ℕ, suc, ◌+◌, ◌<◌, ◌≤◌, Bool, true, false, All, List, []}
use Rattle.std.proofs.Common.{◌∷◌}
use Rattle.std.proofs.Common.{◌++◌, length, drop, Some, bytes_eq, refl, sym, ap, subst, ◌∙◌, arith}
use Rattle.std.specs.Prelude.{ℤ, pos, ⊤, nat_le}
use Rattle.std.specs.List.{AllByRecursion, IsDistinct}
use Rattle.std.proofs.lemmas.Bool.{true≢false}
use Rattle.std.proofs.lemmas.Bool.Decides.{nat_tests}
use Rattle.stack_marks.specs.declared.mark.Mark.{Mark}
use Rattle.stack_marks.specs.Stacks.{StackValue, word_at}
use Rattle.tp_value.specs.declared.limits.TheConstants.{MAX_CALL_DEPTH, MAX_PAR_LENGTH}
use Rattle.tp_value.specs.declared.limits.TheConstants.{MAX_PAR_NESTING}
use Rattle.tp_value.specs.declared.Table.{Table}
use Rattle.tp_value.specs.declared.Stop.{Stop}
use Rattle.tp_value.specs.declared.Stop.TheVariants.{Done, Left, Trap, NoFuel}
use Rattle.loop_syntax.specs.declared.ParLoop.{ParLoop}
use Rattle.loop_syntax.specs.declared.Program.{Program}
use Rattle.loop_syntax.specs.declared.Stmt.TheVariants.{Par}
use Rattle.loop_meaning.specs.declared.value.Variable.{Variable}
use Rattle.loop_meaning.specs.InRange.{FuncInRange, InRange, StmtInRange}
use Rattle.loop_meaning.specs.Only.{IsNeverLeft, LeavesNothing}
use Rattle.loop_meaning.specs.State as meaning
use Rattle.loop_meaning.specs.State.{Chance, Ran, Writes, has_cell, table_of, write_cell}
use Rattle.loop_meaning.specs.Statements.{iterate, run_list}
use Rattle.tpal_syntax.specs.declared.sites.LoopSite.{LoopSite}
use Rattle.tpal_syntax.specs.declared.words.Word.{Word}
use Rattle.tpal_syntax.specs.declared.words.Word.TheVariants.{Int, Nil, Rec}
use Rattle.tpal_syntax.specs.Listing.{Listing}
use Rattle.tpal_machine.specs.declared.ends.Ending.{Ending}
use Rattle.tpal_machine.specs.declared.ends.Ending.TheVariants as ending
use Rattle.tpal_machine.specs.declared.ends.Goal.{Goal}
use Rattle.tpal_machine.specs.declared.ends.Goal.TheVariants as goal
use Rattle.tpal_machine.specs.declared.ends.Side.{Side}
use Rattle.tpal_machine.specs.Effect.{is_marked_from}
use Rattle.tpal_machine.specs.Ended.{ended, ended_at, side_of}
use Rattle.tpal_machine.specs.Merge.{ended_together}
use Rattle.tpal_machine.specs.Owes as owes
use Rattle.tpal_machine.specs.Reading.{the_target}
use Rattle.tpal_machine.specs.State as machine
use Rattle.tpal_machine.specs.Step.{Ends, step}
use Rattle.expr_lower.specs.declared.scope.Scope.{Scope}
use Rattle.expr_lower.specs.Standing.{AreAt}
use Rattle.frame_machine.specs.Iterating.{body_setting}
use Rattle.frame_machine.specs.Lawful.{Distinct, Lawful, modes_in}
use Rattle.frame_machine.specs.Modes.{Modes}
use Rattle.frame_machine.specs.Parts.{Written}
use Rattle.handler_gen.specs.Blocks.{dispatch_block}
use Rattle.handler_gen.specs.LoopCuts.{loop_mark}
use Rattle.handler_gen.specs.Sites.{first_label, over_label, target_label}
use Rattle.handler_gen.proofs.Offsets.{cells_of}
use Rattle.scene_laws.specs.DeepMarked.{IsDeepSite}
use Rattle.scene_laws.specs.Layout.{Activation, bound_cell, cursor_cell, rec_cell, value_cell}
use Rattle.scene_laws.specs.Marked.{IsSite}
use Rattle.scene_laws.proofs.Scenes.Activations.{clear_above}
use Rattle.scene_laws.proofs.Scenes.Changing.{Changed}
use Rattle.scene_laws.proofs.Scenes.Fixed.{AreFixed}
use Rattle.scene_laws.proofs.Cuts.Gaps.{IsGap}
use Rattle.scene_laws.proofs.Merges.JoinsModes.{Serves}
use Rattle.scene_laws.proofs.Cuts.OldestOwed.{only_where}
use Rattle.scene_laws.proofs.Pairs.PairPromises.{is_begun, is_begun_by, output_of}
use Rattle.scene_laws.proofs.Scenes.Pieces.{Piece, Host, Apart, either_promise, side_terms}
use Rattle.scene_laws.proofs.Scenes.Promises.{Promise, following, promised}
use Rattle.scene_laws.proofs.Scenes.Regions.{Covers, Region, all_front}
use Rattle.scene_laws.proofs.Scenes.Results.{End, Result, fin, noting, noting_then, notes_behind}
use Rattle.scene_laws.proofs.Scenes.Results.{notes_then}
use Rattle.scene_laws.proofs.Scenes.Results.{out, result, then}
use Rattle.scene_laws.proofs.Scenes.Scene.{IsEarly, Same, Scene, ShowsIn}
use Rattle.form_laws.proofs.Premises.Serving.{Any}
use Rattle.scene_laws.proofs.Cuts.Sides.{Part, side_by}
use Rattle.form_laws.proofs.Marks.{clear_both}
use Rattle.par_laws.proofs.QuietPars.Turning.{drop_front}
use Rattle.scene_laws.proofs.Scenes.Variables.{var_names}

-- such a `par` at its place in a code: its cursor has a cell of its own
pub record DeepAt (code : Listing) (act : Activation) (dispatch : ℕ) : Type 0 where
  pub names : List (List ℕ)
  pub loop : ParLoop
  pub depth : ℕ
  pub site : LoopSite
  -- what is allowed round it
  pub modes : Modes
  pub nested : depth < MAX_PAR_NESTING
  pub fits : length names < act.most
  pub check : ℕ
  pub head : ℕ
  pub turn : ℕ
  pub exit : ℕ
  pub is_deep : IsDeepSite code act dispatch names loop depth check head turn exit site

-- The `par`, with what goes on round it, what follows it, and the program that it is part of. What
-- a world holds serves its iterations, and its tables may be any that differ where these write.
pub record Deep (code : Listing) (heartbeat z : ℕ) (act : Activation) : Type 1 where
  pub S : Scene code heartbeat z
  pub q : DeepAt code act S.dispatch
  pub k : meaning.State → Result
  pub p : Program
  pub room : ℕ
  pub fuel : ℕ
  pub lowest : S.lowest ≤ length q.names
  pub limited : S.fuel ≡ fuel
  pub tall : S.size ≤ act.size
  pub space : value_cell act.most ≤ act.size
  pub dispatches : AreAt code S.dispatch (dispatch_block S.dispatch ∷ [])
  pub opened : S.is_open ≡ true
  pub free_cursor : S.may q.site.cursor
  pub free_rec : S.may q.site.rec
  pub free_accs : All S.may (cells_of q.site.accs)
  pub serves : (w : S.World) (s : StackValue) (vs : List Variable) → var_names vs ≡ q.names
      → S.kept w s → AreFixed q.loop.reduces.items s z 0 vs → (m j : ℤ)
      → Serves q.modes q.loop vs m j (S.region w)
  pub meets : (w : S.World) (s : StackValue) (vs : List Variable) → var_names vs ≡ q.names
      → S.kept w s → AreFixed q.loop.reduces.items s z 0 vs → (ts us : List Table)
      → Changed (Written Any vs (modes_in q.modes q.loop)) ts us → S.can w ts → S.can w us
  -- a cut moves no begin
  pub early : (w : S.World) (c : ℕ) (printed : List ℕ) → S.since (S.cut w c printed) ≤ S.since w
  -- what the rules of the program say of it
  pub calls : room ≤ MAX_CALL_DEPTH
  pub rules : Lawful p q.modes q.names q.loop
  pub funcs : All FuncInRange p.funcs.items
  pub par : StmtInRange (Par q.loop)
  pub never : All IsNeverLeft p.funcs.items
  pub stays : LeavesNothing q.loop.body.items
  pub differ : IsDistinct bytes_eq act.tables
  pub distinct : Distinct act.tables

module _ {code : Listing} {heartbeat z : ℕ} {act : Activation} (d : Deep code heartbeat z act) where
  abbrev pub World : Type 0
  World = d.S.World

  abbrev pub level : ℕ
  level = length d.q.names

  abbrev pub site : LoopSite
  site = d.q.site

  abbrev pub loop : ParLoop
  loop = d.q.loop

  abbrev pub is_site : IsSite code act d.q.names d.q.loop d.q.depth (cursor_cell d.q.depth) d.q.site
  is_site = d.q.is_deep.is_site

  abbrev pub scope : Scope
  scope = d.q.is_deep.is_site.scope

  pub rec_is : d.q.site.rec ≡ rec_cell d.q.depth
  rec_is = ap (λ (s : LoopSite). s.rec) is_site.is

  pub cursor_is : d.q.site.cursor ≡ cursor_cell d.q.depth
  cursor_is = ap (λ (s : LoopSite). s.cursor) is_site.is

  pub bound_is : d.q.site.bound ≡ bound_cell (length d.q.names)
  bound_is = ap (λ (s : LoopSite). s.bound) is_site.is

  pub mark_is : d.q.site.mark ≡ bound_cell (length d.q.names)
  mark_is = ap (λ (s : LoopSite). s.mark) is_site.is

  pub cells_are : d.q.site.cells ≡ act.size
  cells_are = ap (λ (s : LoopSite). s.cells) is_site.is

  -- the body of an iteration
  abbrev pub body : meaning.State → Ran
  body = run_list (body_setting d.p d.fuel d.room d.q.loop) d.q.loop.body.items

  -- the loop's variable
  abbrev pub variable : List ℕ
  variable = d.q.loop.var.text.items

  -- ---- what a piece owes, where the rest follows the whole

  abbrev pub host_promise : Promise code heartbeat d.S.World
  host_promise = following code heartbeat d.S.promise (λ w. w) (λ w. d.k)

  -- What a side ends with, of which what was printed before is the begin of what is printed at its
  -- end: a side that goes on from another task's place comes to no other end.
  abbrev pub apart_ending : Part → End → Ending
  apart_ending part e =
      only_where (is_begun_by part.before (output_of e))
      (ending.At part.rec part.which (side_by d.q.is_deep.is_site.scope d.q.loop part e))

  abbrev pub apart_promise : Promise code heartbeat Part
  apart_promise = promised code heartbeat
      (record (side_terms code heartbeat d.q.is_deep.is_site.scope d.q.loop) {
        ending = λ part r. apart_ending part r.end;
        blind = λ part ns r. refl;
      })

  abbrev pub pieces : Promise code heartbeat (Piece d.S.World)
  pieces = either_promise code heartbeat host_promise apart_promise

  -- ---- what a piece is like

  abbrev pub own_marks : Bool → List Mark
  own_marks true = loop_mark d.q.site z ∷ []
  own_marks false = []

  abbrev pub marks_of : Bool → Piece d.S.World → List Mark
  marks_of marked (Host w) = d.S.marks w ++ own_marks marked
  marks_of marked (Apart part) = own_marks marked

  abbrev pub goal_of : Piece d.S.World → Goal
  goal_of (Host w) = d.S.goal w
  goal_of (Apart part) = goal.At part.rec part.which (target_label d.q.site.label)

  abbrev pub before_of : Piece d.S.World → List ℕ
  before_of (Host w) = d.S.before w
  before_of (Apart part) = part.before

  abbrev pub since_of : Piece d.S.World → ℕ
  since_of (Host w) = d.S.since w
  since_of (Apart part) = part.since

  abbrev pub region_of : Piece d.S.World → Region
  region_of (Host w) = d.S.region w
  region_of (Apart part) = part.region

  abbrev pub outer_of : Piece d.S.World → StackValue → Type 0
  outer_of (Host w) s = d.S.kept w s
  outer_of (Apart part) s = ⊤

  abbrev pub rec_of : Piece d.S.World → Word
  rec_of (Host w) = Nil
  rec_of (Apart part) = Rec part.rec

  -- what is known of what a side holds
  abbrev pub enough_of : Piece d.S.World → List Variable → ℤ → ℤ → Type 0
  enough_of (Host w) vs m j = ⊤
  enough_of (Apart part) vs m j = Serves d.q.modes d.q.loop vs m j part.region

  abbrev pub can_of : Piece d.S.World → List Table → Type 0
  can_of (Host w) ts = d.S.can w ts
  can_of (Apart part) ts = ⊤

  pub clear_own : (marked : Bool)
      → is_marked_from (own_marks marked) (z + value_cell (suc level)) ≡ false
  clear_own true =
      let is : nat_le (z + value_cell (suc level)) (z + d.q.site.mark) ≡ false =
      grind (arith, nat_tests, mark_is) in
      rw is refl
  clear_own false = refl

  pub clear_of : (marked : Bool) (i : Piece d.S.World)
      → is_marked_from (marks_of marked i) (z + value_cell (suc level)) ≡ false
  clear_of marked (Host w) =
      clear_both (d.S.marks w) (own_marks marked) (z + value_cell (suc level))
      (clear_above (d.S.marks w) (z + value_cell d.S.lowest) (z + value_cell (suc level))
      (omega (arith, d.lowest)) (d.S.below w)) (clear_own marked)
  clear_of marked (Apart part) = clear_own marked

  pub outer_stable : (i : Piece d.S.World) (s t : StackValue) → Same z d.S.may level s t
      → outer_of i s → outer_of i t
  outer_stable (Host w) s t same h = d.S.stable w level s t d.lowest same h
  outer_stable (Apart part) s t same h = tt

  -- ---- stops

  -- behind what was printed before it a side ends as itself
  pub ends_apart : (part : Part) (e : End) (output : List ℕ) → output_of e ≡ part.before ++ output
      → apart_ending part e
      ≡ ending.At part.rec part.which (side_by d.q.is_deep.is_site.scope d.q.loop part e)
  ends_apart part e output printed =
      ap (λ (so : Bool). only_where so
      (ending.At part.rec part.which (side_by d.q.is_deep.is_site.scope d.q.loop part e)))
      (ap (λ (bytes : List ℕ). is_begun_by part.before bytes) printed
      ∙ is_begun part.before output)

  pub early_end : (part : Part) (stop : Stop) (st : meaning.State) (output : List ℕ)
      → IsEarly stop → st.output ≡ part.before ++ output
      → side_by scope d.q.loop part (out stop st).end ≡ record {
        stop = stop;
        ticks = st.ticks;
        output = output;
        words = [];
        slices = [];
      }
  early_end part stop st output early printed =
      ap (λ (bytes : List ℕ). record {
        stop = stop;
        ticks = st.ticks;
        output = bytes;
        words = [];
        slices = [];
      }) (ap (λ (bytes : List ℕ). drop (length part.before) bytes) printed
      ∙ drop_front part.before output)

  early_side : (part : Part) (stop : Stop) (st : meaning.State) (last : machine.State)
      → IsEarly stop → last.fuel.ticks ≡ st.ticks → st.output ≡ part.before ++ last.output
      → side_of (the_target code (target_label d.q.site.label)) stop last
      ≡ side_by scope d.q.loop part (out stop st).end
  early_side part Done st last early ticks printed = absurd early
  early_side part (Left number) st last early ticks printed = absurd early
  early_side part (Trap kind place) st last early ticks printed =
      rw ticks (sym (early_end part (Trap kind place) st last.output tt printed))
  early_side part NoFuel st last early ticks printed =
      rw ticks (sym (early_end part NoFuel st last.output tt printed))

  pub stops_of : (i : Piece d.S.World) (stop : Stop) (st : meaning.State)
      (state last : machine.State) → IsEarly stop → last.fuel.ticks ≡ st.ticks
      → st.output ≡ before_of i ++ last.output → last.goal ≡ goal_of i
      → ((allowed : Bool) → step code heartbeat allowed state ≡ Ends (ended code stop last))
      → (pieces.owing i (out stop st)).Holds state
  stops_of (Host w) stop st state last early ticks printed ends step_is =
      d.S.stops w stop st state last early ticks printed ends step_is
  stops_of (Apart part) stop st state last early ticks printed ends step_is =
      λ given can. owes.ends state (pieces.ending (Apart part) (out stop st))
      (step_is true
      ∙ ap Ends (ap (λ (g : Goal). ended_at g code stop last) ends
      ∙ (ap (λ (side : Side). ending.At part.rec part.which side)
      (early_side part stop st last early ticks printed)
      ∙ sym (ends_apart part (out stop st).end last.output printed))))

  pub stopped_of : (i : Piece d.S.World) (stop : Stop) (st : meaning.State) (output : List ℕ)
      → IsEarly stop → st.output ≡ before_of i ++ output
      → pieces.ending i (out stop st) ≡ ended_together (goal_of i) stop st.ticks output
  stopped_of (Host w) stop st output early printed = d.S.stopped w stop st output early printed
  stopped_of (Apart part) stop st output early printed =
      ends_apart part (out stop st).end output printed
      ∙ ap (λ s. ending.At part.rec part.which s) (early_end part stop st output early printed)

  pub covers_of : (i : Piece d.S.World) (r : Result) → pieces.given i r
      → AllByRecursion (Covers (region_of i)) r.notes
  covers_of (Host w) r given =
      all_front (Covers (d.S.region w)) r.notes (notes_behind r d.k)
      (subst (AllByRecursion (Covers (d.S.region w))) (notes_then r d.k)
      (d.S.covers w (then r d.k) given))
  covers_of (Apart part) r given = given

  pub allows_of : (i : Piece d.S.World) (t : List ℕ) (a b n : ℤ) (ts : List Table) (r : Result)
      → has_cell (table_of ts t) a b ≡ true → pieces.given i (noting (Writes t a b ∷ []) r)
      → can_of i ts → can_of i (write_cell ts t a b n)
  allows_of (Host w) t a b n ts r has given can =
      d.S.allows w t a b n ts (then r d.k) has
      (subst (d.S.given w) (noting_then (Writes t a b ∷ []) r d.k) given) can
  allows_of (Apart part) t a b n ts r has given can = tt

  -- ---- between two iterations

  -- what is kept of a piece on the stack between two iterations: what its world keeps, the record
  -- of its end, the number of the next iteration, and the bound
  pub record KeptBetween (i : Piece d.S.World) (m j : ℤ) (s : StackValue) : Type 0 where
    pub outer : outer_of i s
    pub rec : word_at s (pos (z + d.q.site.rec)) ≡ Some (rec_of i)
    pub cursor : word_at s (pos (z + d.q.site.cursor)) ≡ Some (Int m)
    pub bound : word_at s (pos (z + d.q.site.bound)) ≡ Some (Int j)

  -- the cells of the activation that may change there
  pub record MayBetween (c : ℕ) : Type 0 where
    pub no_bound : c ≢ d.q.site.bound
    pub no_cursor : c ≢ d.q.site.cursor
    pub no_rec : c ≢ d.q.site.rec
    pub may : d.S.may c

  pub stable_between : (m j : ℤ) (i : Piece d.S.World) (other : ℕ) (s t : StackValue)
      → suc level ≤ other → Same z MayBetween other s t → KeptBetween i m j s
      → KeptBetween i m j t
  stable_between m j i other s t low same h = record {
    outer = outer_stable i s t
        (record {
          base = same.base;
          at = λ a lt others. same.at a (omega (arith, low, lt)) (λ c free. others c free.may);
        }) h.outer;
    rec = same.at (z + d.q.site.rec) (omega (arith, low, rec_is, d.q.nested))
        (λ c free e. free.no_rec (omega (arith, e))) ∙ h.rec;
    cursor = same.at (z + d.q.site.cursor) (omega (arith, low, cursor_is, d.q.nested))
        (λ c free e. free.no_cursor (omega (arith, e))) ∙ h.cursor;
    bound = same.at (z + d.q.site.bound) (omega (arith, low, bound_is))
        (λ c free e. free.no_bound (omega (arith, e))) ∙ h.bound;
  }

  -- The iterations from m on, to below j, aren't begun. The loop's own mark stands, or it has gone.
  abbrev pub between : Bool → ℤ → ℤ → Scene code heartbeat z
  between marked m j = record {
    World = Piece d.S.World;
    levels = d.S.levels;
    fuel = d.S.fuel;
    dispatch = d.S.dispatch;
    size = d.S.size;
    promise = pieces;
    around = record {
      marks = marks_of marked;
      goal = goal_of;
      before = before_of;
      since = since_of;
      region = region_of;
      kept = λ i s. KeptBetween i m j s;
      can = can_of;
    };
    lowest = suc level;
    may = MayBetween;
    cut = λ i n printed. i;
    registers = [];
    high = tt;
    unlike = tt;
    under = λ i d below. absurd (omega (arith, below));
    sized = λ i d below. absurd (omega (arith, below));
    stable = stable_between m j;
    below = clear_of marked;
    stops = stops_of;
    stopped = stopped_of;
    covers = covers_of;
    allows = allows_of;
    is_open = false;
    handles = λ opened. absurd (true≢false (sym opened));
  }

  -- ---- behind the last iteration

  -- what is kept of a piece on the stack where no iteration is left
  pub record KeptEnded (i : Piece d.S.World) (s : StackValue) : Type 0 where
    pub outer : outer_of i s
    pub rec : word_at s (pos (z + d.q.site.rec)) ≡ Some (rec_of i)

  pub record MayEnded (c : ℕ) : Type 0 where
    pub no_rec : c ≢ d.q.site.rec
    pub may : d.S.may c

  pub stable_ended : (i : Piece d.S.World) (other : ℕ) (s t : StackValue) → suc level ≤ other
      → Same z MayEnded other s t → KeptEnded i s → KeptEnded i t
  stable_ended i other s t low same h = record {
    outer = outer_stable i s t
        (record {
          base = same.base;
          at = λ a lt others. same.at a (omega (arith, low, lt)) (λ c free. others c free.may);
        }) h.outer;
    rec = same.at (z + d.q.site.rec) (omega (arith, low, rec_is, d.q.nested))
        (λ c free e. free.no_rec (omega (arith, e))) ∙ h.rec;
  }

  -- no iteration is left, and the loop's mark has gone
  abbrev pub ended_pieces : Scene code heartbeat z
  ended_pieces = record {
    World = Piece d.S.World;
    levels = d.S.levels;
    fuel = d.S.fuel;
    dispatch = d.S.dispatch;
    size = d.S.size;
    promise = pieces;
    around = record {
      marks = marks_of false;
      goal = goal_of;
      before = before_of;
      since = since_of;
      region = region_of;
      kept = λ i s. KeptEnded i s;
      can = can_of;
    };
    lowest = suc level;
    may = MayEnded;
    cut = λ i n printed. i;
    registers = [];
    high = tt;
    unlike = tt;
    under = λ i d below. absurd (omega (arith, below));
    sized = λ i d below. absurd (omega (arith, below));
    stable = stable_ended;
    below = clear_of false;
    stops = stops_of;
    stopped = stopped_of;
    covers = covers_of;
    allows = allows_of;
    is_open = false;
    handles = λ opened. absurd (true≢false (sym opened));
  }

  -- ---- what is owed

  -- what a task owes where the first one of so many iterations and one more begins, which is no
  -- promotion point
  abbrev pub FirstOwed : ℕ → Type 0
  FirstOwed n =
      (m j : ℤ) (i : Piece d.S.World) (st : meaning.State) (task : machine.State)
      → ShowsIn code heartbeat z act d.fuel (between true m j) i d.q.names st task
      → enough_of i st.vars m j → IsGap (suc n) m j → InRange m → InRange j
      → suc n ≤ MAX_PAR_LENGTH → task.block ≡ first_label d.q.site.label → task.at ≡ 0
      → (pieces.owing i
      (result (iterate d.fuel variable body (Chance ∷ []) [] (suc n) m st))).Holds task

  -- and where none is left
  abbrev pub OverOwed : Type 0
  OverOwed =
      (m j : ℤ) (i : Piece d.S.World) (st : meaning.State) (task : machine.State)
      → ShowsIn code heartbeat z act d.fuel ended_pieces i d.q.names st task
      → enough_of i st.vars m j → task.block ≡ over_label d.q.site.label → task.at ≡ 0
      → (pieces.owing i (fin st)).Holds task
