-- The iterations of a `par` that may be cut in the middle of one: each piece owes what it gives, by
-- induction on how many iterations are left.
use Rattle.std.proofs.Common.{◌≡◌, ℕ, zero, suc, ◌<◌, ◌≤◌, List, ◌∷◌, length, take, refl, sym}
use Rattle.std.proofs.Common.{◌∙◌, arith}
use Rattle.std.specs.Prelude.{pos, ◌+ℤ◌}
use Rattle.std.proofs.lemmas.Int.{ints}
use Rattle.loop_meaning.specs.State as meaning
use Rattle.loop_meaning.specs.Statements.{iterate}
use Rattle.tpal_syntax.specs.declared.instructions.Instr.{Instr}
use Rattle.tpal_syntax.specs.declared.instructions.Instr.TheVariants as instr
use Rattle.tpal_syntax.specs.declared.instructions.Term.{Term}
use Rattle.tpal_syntax.specs.Listing.{Listing}
use Rattle.tpal_machine.specs.State as machine
use Rattle.expr_lower.specs.Standing.{Remains}
use Rattle.handler_gen.specs.Sites.{first_label, over_label}
use Rattle.join_gen.specs.LoopJoins.{JoinsLoop}
use Rattle.scene_laws.specs.Code.{Opens, to}
use Rattle.scene_laws.specs.DeepMarked.{next_begun}
use Rattle.scene_laws.specs.Layout.{Activation}
use Rattle.par_laws.proofs.DeepPars.DeepBacks.{diverted_owed}
use Rattle.par_laws.proofs.DeepPars.DeepHandles.{handles}
use Rattle.par_laws.proofs.DeepPars.DeepPoints.{HeadOwed, IsAhead, NextOwed, head_owed}
use Rattle.par_laws.proofs.DeepPars.DeepPoints.{next_result}
use Rattle.par_laws.proofs.DeepPars.DeepRunning.{Handles, Running, are_any, running}
use Rattle.par_laws.proofs.DeepPars.DeepScenes.{Deep, FirstOwed, OverOwed, between, enough_of}
use Rattle.par_laws.proofs.DeepPars.DeepScenes.{pieces}
use Rattle.par_laws.proofs.DeepPars.DeepTests.{to_over, to_turn}
use Rattle.par_laws.proofs.DeepPars.DeepTurns.{BehindOwed, BodyOwed, turn_owed}
use Rattle.scene_laws.proofs.Scenes.Fixed.{fixed_round}
use Rattle.scene_laws.proofs.Merges.JoinsModes.{serves_round, serves_within}
use Rattle.scene_laws.proofs.Scenes.Moves.{opened}
use Rattle.scene_laws.proofs.Scenes.Pieces.{Apart, Host, Piece}
use Rattle.scene_laws.proofs.Scenes.Results.{left}
use Rattle.scene_laws.proofs.Scenes.Scene.{ShowsIn}
use Rattle.scene_laws.proofs.Scenes.Showing.{shows_left}

module _ {code : Listing} {heartbeat z : ℕ} {act : Activation} (d : Deep code heartbeat z act) where
  abbrev level : ℕ
  level = length d.q.names

  -- the block `first` of a site
  first_owed : (n : ℕ) → NextOwed d (suc n) → FirstOwed d n
  first_owed n owed m j i st task shows enough gap in_m in_j short at_label at_begin =
      owed m j i st task
      (record {
        shows = shows;
        enough = enough;
        far = gap;
        in_m = in_m;
        in_j = in_j;
        short = short;
      }) here
    where
      here : Remains code task.block task.at (next_begun d.q.site level d.q.turn)
          (to d.q.is_deep.last)
      here =
          let there : Remains code (first_label d.q.site.label) 0
          (next_begun d.q.site level d.q.turn) (to d.q.is_deep.last) =
          opened code (first_label d.q.site.label) (next_begun d.q.site level d.q.turn)
          (to d.q.is_deep.last) d.q.is_deep.first in
          rw (at_label, at_begin) there

  -- ---- behind an iteration

  module _ (N : ℕ) (handles : Handles d N) (v : Running d N)
      (names : List (List ℕ)) (st : meaning.State) (task : machine.State)
      (shows : ShowsIn code heartbeat z act d.fuel (running d N handles) v names st task)
      (first : take level names ≡ d.q.names) where
    abbrev behind : meaning.State
    behind = left level st

    shows_behind : ShowsIn code heartbeat z act d.fuel (running d N handles) v d.q.names behind
        task
    shows_behind =
        shows_left code heartbeat z act d.fuel (running d N handles) v shows level d.q.names
        first

    -- the next iterations aren't begun
    shows_next : ShowsIn code heartbeat z act d.fuel
        (between d (are_any v.more) (v.from +ℤ pos 1) v.to) v.piece d.q.names behind task
    shows_next = record {
      size = shows_behind.size;
      base = shows_behind.base;
      limit = shows_behind.limit;
      limited = shows_behind.limited;
      tall = d.tall;
      ticks = shows_behind.ticks;
      within = shows_behind.within;
      begun = shows_behind.begun;
      printed = shows_behind.printed;
      ends = shows_behind.ends;
      free = shows_behind.free;
      unmet = shows_behind.unmet;
      marked = shows_behind.marked;
      named = shows_behind.named;
      few = shows_behind.few;
      tabled = shows_behind.tabled;
      held = shows_behind.held;
      can = shows_behind.can.0;
      ranged = shows_behind.ranged;
      levels = shows_behind.levels;
      unmarked = shows_behind.unmarked;
      top = shows_behind.top;
      low = shows_behind.low;
      room = shows_behind.room;
      vars = shows_behind.vars;
      keeps = record {
        outer = shows_behind.keeps.outer;
        rec = shows_behind.keeps.rec;
        cursor = shows_behind.keeps.cursor;
        bound = shows_behind.keeps.bound;
      };
    }

    -- what is held serves them
    enough_next : (o : Piece d.S.World) → enough_of d o v.start.vars v.from v.to
        → enough_of d o behind.vars (v.from +ℤ pos 1) v.to
    enough_next (Host w) enough = tt
    enough_next (Apart part) enough =
        serves_round d.q.modes d.q.loop d.q.names v.start.vars behind.vars (v.from +ℤ pos 1) v.to
        part.region d.rules.rows
        (fixed_round d.q.loop.reduces.items task.stack z v.start.vars behind.vars
        (shows_behind.named ∙ sym v.named) shows_behind.keeps.fixed shows_behind.vars)
        (serves_within d.q.modes d.q.loop v.start.vars v.from v.to part.region enough
        (v.from +ℤ pos 1) v.to (omega (arith, ints)) (omega (arith, ints)))

    ahead_next : IsAhead d v.more (v.from +ℤ pos 1) v.to v.piece behind task
    ahead_next = record {
      shows = shows_next;
      enough = enough_next v.piece shows_behind.keeps.enough;
      far = v.far;
      in_m = omega (arith, ints, v.in_from, v.in_to, v.far);
      in_j = v.in_to;
      short = v.short;
    }

  module _ (joins : JoinsLoop code heartbeat d.q.site) (over_owed : OverOwed d)
      (over_instrs : List Instr) (over_end : Term)
      (over : Opens code (over_label d.q.site.label) over_instrs over_end)
      (instrs : List Instr) (half : Term)
      (opens : Opens code d.q.turn (instr.Tick ∷ instrs) half)
      (inner : List (List ℕ)) (first : take (length d.q.names) inner ≡ d.q.names)
      (runs : (N : ℕ) (turns : (c : ℕ) → c < N → FirstOwed d c)
      → BodyOwed d N (handles d N joins turns over_owed) inner first instrs half
      opens) where
    -- no iteration is left
    next_none : NextOwed d zero
    unfolding iterate
    next_none m j i st task h stands =
        to_over d zero m j i st task h.shows h.far h.in_m h.in_j h.short
        ((pieces d).owing i (next_result d zero m st)) stands instrs half opens over_instrs over_end
        over refl
        (λ t shows at_label at_begin. over_owed m j i st t shows h.enough at_label at_begin)

    -- one iteration and so many more
    next_more : (N : ℕ) → ((c : ℕ) → c ≤ N → HeadOwed d c) → ((c : ℕ) → c < N → FirstOwed d c)
        → NextOwed d (suc N)
    next_more N heads turns m j i st task h stands =
        to_turn d (suc N) m j i st task h.shows h.far h.in_m h.in_j h.short
        ((pieces d).owing i (next_result d (suc N) m st)) stands instrs half opens over_instrs
        over_end over N N (omega arith) refl h.enough
        (handles d N joins turns over_owed)
        (λ t shows at_label at_begin.
        turn_owed d N (handles d N joins turns over_owed) inner first instrs half
        opens (runs N turns) behind_owed _ t shows at_label at_begin)
      where
        behind_owed : BehindOwed d N (handles d N joins turns over_owed) inner
            first instrs half opens
        behind_owed v s done_task shows_done stands_done =
            heads v.more v.few (v.from +ℤ pos 1) v.to v.piece (left level s) done_task
            (ahead_next N (handles d N joins turns over_owed) v inner s done_task
            shows_done first) stands_done

    next_owed : (N : ℕ) → ((c : ℕ) → c ≤ N → NextOwed d c) → NextOwed d (suc N)
    next_owed N before =
        next_more N
        (λ c few. head_owed d c (before c few)
        (diverted_owed d joins over_owed c (λ e fewer. before e (omega (arith, few, fewer)))
        (λ e fewer. first_owed e (before (suc e) (omega (arith, few, fewer))))))
        (λ c fewer. first_owed c (before (suc c) (omega (arith, fewer))))

    nexts_below : (bound n : ℕ) → n < bound → NextOwed d n
    nexts_below zero n less = absurd (omega (arith, less))
    nexts_below (suc bound) zero less = next_none
    nexts_below (suc bound) (suc n) less =
        next_owed n (λ c few. nexts_below bound c (omega (arith, few, less)))

    -- a task owes all iterations where the first one begins
    pub all_owed : (n : ℕ) → FirstOwed d n
    all_owed n = first_owed n (nexts_below (suc (suc n)) (suc n) (omega arith))
