-- The scene of a loop's body: its variable and its bound are kept.
use Rattle.std.proofs.Common.{◌≡◌, ◌≢◌, ℕ, suc, ◌+◌, ◌<◌, ◌≤◌, List, Option, Some, None, sym, ◌∙◌}
use Rattle.std.proofs.Common.{arith, ⊎_elim}
use Rattle.std.specs.Prelude.{ℤ, pos, ⊤}
use Rattle.std.proofs.lemmas.Bool.{cases_lt}
use Rattle.stack_marks.specs.Stacks.{StackValue, word_at, with_word}
use Rattle.loop_meaning.specs.State as meaning
use Rattle.tpal_syntax.specs.declared.words.Word.{Word}
use Rattle.tpal_syntax.specs.declared.words.Word.TheVariants as word
use Rattle.tpal_syntax.specs.Listing.{Listing}
use Rattle.tpal_machine.specs.State as machine
use Rattle.handler_gen.proofs.Words.{word_other}
use Rattle.scene_laws.specs.Layout.{value_cell, bound_cell, Activation}
use Rattle.scene_laws.proofs.Scenes.Scene.{Scene, Same, Near, SeenIn, runs_kept, seen}
use Rattle.scene_laws.proofs.Scenes.Activations.{clear_above, marks_from}
use Rattle.form_laws.proofs.Forms.Simple.{low_there, seen_above}

abbrev pub BoundHeld : ℕ → ℕ → Option ℤ → StackValue → Type 0
BoundHeld z level None s = ⊤
BoundHeld z level (Some j) s = word_at s (pos (z + bound_cell level)) ≡ Some (word.Int j)

pub bound_kept : (z level : ℕ) (held : Option ℤ) (may : ℕ → Type 0) (other : ℕ) (s t : StackValue) →
    suc level ≤ other → ((c : ℕ) → may c → c ≢ bound_cell level) → Same z may other s t → BoundHeld
    z level held s → BoundHeld z level held t
bound_kept z level None may other s t low never same h = tt
bound_kept z level (Some j) may other s t low never same h = same.at (z + bound_cell level) (omega
    (arith, low)) (λ c m q. never c m (omega (arith, q))) ∙ h

-- a handler that cuts a world leaves it too
pub bound_near : (z : ℕ) (may : ℕ → Type 0) (lowest level : ℕ) (held : Option ℤ) (s t : StackValue)
    → lowest ≤ level → Near z may lowest s t → BoundHeld z level held s → BoundHeld z level held t
bound_near z may lowest level None s t low near h = tt
bound_near z may lowest level (Some j) s t low near h = near.above (z + bound_cell level) (omega
    (arith, low)) ∙ h

-- what may change in a loop's body: neither the loop's variable nor its bound
abbrev pub MayIn : ℕ → (ℕ → Type 0) → ℕ → Type 0
MayIn level may c = (c ≢ value_cell level) × (c ≢ bound_cell level) × may c

-- what is changed neither from one level on nor in the variables below is so from a higher one on
pub nearer : (z : ℕ) (may : ℕ → Type 0) (lowest level : ℕ) (s t : StackValue) → lowest ≤ level →
    Near z may lowest s t → Near z (MayIn level may) (suc level) s t
nearer z may lowest level s t low near = record {
  low = near.low;
  top = near.top;
  levels = near.levels;
  vars = λ x lt. ⊎_elim (λ (below : x < lowest). near.vars x below) (λ (above : lowest ≤ x).
      near.above (z + value_cell x) (omega (arith, above))) (cases_lt x lowest);
  own = λ c m. near.own c m.2;
  above = λ a from. near.above a (omega (arith, low, from));
}

-- what a loop's body keeps
abbrev pub KeptIn : ℕ → ℕ → ℤ → Option ℤ → (StackValue → Type 0) → StackValue → Type 0
KeptIn z level m held outer s = outer s × (word_at s (pos (z + value_cell level)) ≡ Some (word.Int
    m)) × BoundHeld z level held s

-- a store to the variable's cell leaves the bound
pub bound_stays : (z level : ℕ) (held : Option ℤ) (s : StackValue) (w : Word) → s.base ≤ z → BoundHeld z
    level held s → BoundHeld z level held (with_word s (pos (z + value_cell level)) w)
bound_stays z level None s w low h = tt
bound_stays z level (Some j) s w low h = word_other s (z + value_cell level) (z + bound_cell level)
    w (omega (arith, low)) (λ (q : z + bound_cell level ≡ z + value_cell level). absurd (omega
    (arith, q))) ∙ h

module _ (code : Listing) (heartbeat z : ℕ) where
  abbrev pub inside : (S : Scene code heartbeat z) (level : ℕ) → S.lowest ≤ level → ℤ → Option ℤ →
      Scene code heartbeat z
  inside S level lowest m held = record {
    World = S.World;
    levels = S.levels;
    fuel = S.fuel;
    dispatch = S.dispatch;
    size = S.size;
    promise = S.promise;
    around = record S.around { kept = λ w s. KeptIn z level m held (S.kept w) s };
    lowest = suc level;
    may = MayIn level S.may;
    registers = S.registers;
    high = S.high;
    unlike = S.unlike;
    under = λ i d below. omega (arith, S.under i d below, lowest);
    sized = S.sized;
    cut = S.cut;
    below = λ w. clear_above (S.marks w) (z + value_cell S.lowest) (z + value_cell (suc level))
        (omega (arith, lowest)) (S.below w);
    stable = λ w other s t low same k. (
      S.stable w other s t (omega (arith, lowest, low)) (record {
        base = same.base;
        at = λ a lt
            others. same.at a lt (λ c m. others c m.2);
      }) k.0,
      same.at (z + value_cell level) (omega (arith, low)) (λ c m q. m.0 (omega (arith, q))) ∙ k.1,
      bound_kept z level held (MayIn level S.may) other s t low (λ c m. m.1) same k.2,
    );
    stops = S.stops;
    stopped = S.stopped;
    covers = S.covers;
    allows = S.allows;
    is_open = S.is_open;
    handles = λ opened w more r st state marked from diverted runs back cut.
        S.handles opened w more r st state marked (marks_from more (z + value_cell S.lowest) (z +
        value_cell (suc level)) (omega (arith, lowest)) from) diverted (runs_kept runs z S.size
        (S.kept w) runs.low runs.tall runs.keeps.0) back
        (λ k u gone near runs_u. cut k u gone (nearer z S.may S.lowest level state.stack u.stack
        lowest near)
        (runs_kept runs_u z S.size (KeptIn z level m held (S.kept (S.cut w k st.output))) runs_u.low
        runs_u.tall (
          runs_u.keeps,
          near.above (z + value_cell level) (omega (arith, lowest)) ∙ runs.keeps.1,
          bound_near z S.may S.lowest level held state.stack u.stack lowest near runs.keeps.2,
        )));
  }

  -- the bound is shown as it is
  bound_seen : (act : Activation) (fuel : ℕ) (S : Scene code heartbeat z) (level : ℕ)
      → S.lowest ≤ level → (held : Option ℤ) (words : List Word) (s : StackValue) → s.base ≤ z
      → BoundHeld z level held s → BoundHeld z level held (seen code heartbeat z act fuel S words s)
  bound_seen act fuel S level lowest None words s low h = tt
  bound_seen act fuel S level lowest (Some j) words s low h =
      seen_above code heartbeat z act fuel S words s (bound_cell level) low (omega (arith, lowest))
      ∙ h

  pub bound_there : (act : Activation) (fuel : ℕ) (S : Scene code heartbeat z) (level : ℕ)
      → S.lowest ≤ level → (held : Option ℤ) (words : List Word) (s : StackValue) → s.base ≤ z
      → BoundHeld z level held (seen code heartbeat z act fuel S words s) → BoundHeld z level held s
  bound_there act fuel S level lowest None words s low h = tt
  bound_there act fuel S level lowest (Some j) words s low h =
      sym (seen_above code heartbeat z act fuel S words s (bound_cell level) low
      (omega (arith, lowest)))
      ∙ h

  module _ (act : Activation) (fuel : ℕ) (S : Scene code heartbeat z) (level : ℕ) (lowest : S.lowest
      ≤ level) (m : ℤ) (held : Option ℤ) (i : S.World) (names : List (List ℕ)) (st : meaning.State)
      (state : machine.State) where
    pub shows_in : SeenIn code heartbeat z act fuel S i names st state → word_at state.stack (pos (z +
        value_cell level)) ≡ Some (word.Int m) → BoundHeld z level held state.stack → SeenIn code
        heartbeat z act fuel (inside S level lowest m held) i names st state
    shows_in h cell bound = let low : state.stack.base ≤ z = low_there code heartbeat z act fuel S i
        names st state h in record {
          size = h.size;
          base = h.base;
          limit = h.limit;
          limited = h.limited;
          tall = h.tall;
          ticks = h.ticks;
          within = h.within;
          begun = h.begun;
          printed = h.printed;
          ends = h.ends;
          free = h.free;
          unmet = h.unmet;
          marked = h.marked;
          named = h.named;
          few = h.few;
          tabled = h.tabled;
          held = h.held;
          can = h.can;
          ranged = h.ranged;
          levels = h.levels;
          unmarked = h.unmarked;
          top = h.top;
          low = h.low;
          room = h.room;
          vars = h.vars;
          keeps = (
            h.keeps,
            seen_above code heartbeat z act fuel S state.registers state.stack (value_cell level)
                low
                (omega (arith, lowest)) ∙ cell,
            bound_seen act fuel S level lowest held state.registers state.stack low bound,
          );
        }

    pub shows_out : SeenIn code heartbeat z act fuel (inside S level lowest m held) i names st state →
        SeenIn code heartbeat z act fuel S i names st state
    shows_out h = record {
      size = h.size;
      base = h.base;
      limit = h.limit;
      limited = h.limited;
      tall = h.tall;
      ticks = h.ticks;
      within = h.within;
      begun = h.begun;
      printed = h.printed;
      ends = h.ends;
      free = h.free;
      unmet = h.unmet;
      marked = h.marked;
      named = h.named;
      few = h.few;
      tabled = h.tabled;
      held = h.held;
      can = h.can;
      ranged = h.ranged;
      levels = h.levels;
      unmarked = h.unmarked;
      top = h.top;
      low = h.low;
      room = h.room;
      vars = h.vars;
      keeps = h.keeps.0;
    }
