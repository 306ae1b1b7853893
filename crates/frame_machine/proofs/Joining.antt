-- The law of a loop that is cut: its lower part, then its upper part from units, merged, is the loop.
use Rattle.beat_count.specs.Joining.{joined_stop}
use Rattle.frame_machine.proofs.Begins.{At, Units, UnitsRight, at_lookup, begins_bent, bend_of}
use Rattle.frame_machine.proofs.Begins.{bent_combined, goes_bend, lawful_cut, lawful_round}
use Rattle.frame_machine.proofs.Begins.{names_kept}
use Rattle.frame_machine.proofs.Bends.{Bend, Goes, bent, keeps_refl}
use Rattle.frame_machine.proofs.Following.{Joined, goes_done, left_done, no_done, trap_done}
use Rattle.frame_machine.proofs.Guarding.{Kept}
use Rattle.frame_machine.proofs.Moving.{Near}
use Rattle.frame_machine.proofs.Ranges.{Around, Begins, Cut, low, lower_guards, range_joined}
use Rattle.frame_machine.proofs.Ranges.{range_lower, up, upper_guards, whole}
use Rattle.frame_machine.specs.Iterating.{iterations_in}
use Rattle.frame_machine.specs.Joins.{Joins, combined, names_of}
use Rattle.frame_machine.specs.Lawful.{Callable, Distinct, FixedIn, Lawful, modes_in}
use Rattle.frame_machine.specs.Modes.{Modes}
use Rattle.frame_machine.specs.Parts.{AgreeOn, Below, Cells, From, NotesKeep, Seen, Written}
use Rattle.loop_meaning.specs.Ends.{EndAlike}
use Rattle.loop_meaning.specs.State.{Note, Ran, State, lookup}
use Rattle.loop_meaning.specs.declared.value.Variable.{Variable}
use Rattle.loop_syntax.specs.declared.ParLoop.{ParLoop}
use Rattle.loop_syntax.specs.declared.Program.{Program}
use Rattle.loop_syntax.specs.declared.Reduce.{Reduce}
use Rattle.std.proofs.Common.{Bool, List, [], arith, false, nat_le, pos, refl, subst, sym, true, ℕ}
use Rattle.std.proofs.Common.{ℤ, ◌+ℤ◌, ◌+◌, ◌∙◌, ◌≡◌, ◌≤ℤ◌, ◌≤◌}
use Rattle.std.proofs.lemmas.Bool.Decides.{nat_tests}
use Rattle.std.proofs.lemmas.Int.{ints}
use Rattle.tp_value.specs.declared.Stop.{Stop}
use Rattle.tp_value.specs.declared.Stop.TheVariants.{Done, Left, NoFuel, Trap}

pub low_done : (x : Stop) (t : ℕ) (y : Stop) (r fuel : ℕ) → joined_stop x t y r fuel ≡ Done → x ≡ Done
low_done Done t y r fuel e = refl
low_done (Left n) t y r fuel e = e
low_done (Trap k q) t y r fuel e = e
low_done NoFuel t y r fuel e = e

pub up_done : (x : Stop) (t : ℕ) (y : Stop) (r fuel : ℕ) → joined_stop x t y r fuel ≡ Done → y ≡ Done
up_done Done t y r fuel e = go (nat_le (t + r) fuel) refl
  where
    go : (b : Bool) → nat_le (t + r) fuel ≡ b → y ≡ Done
    go true f = rw f at e
    go false f = absurd (no_done (rw f at e))
up_done (Left n) t y r fuel e = absurd (left_done n e)
up_done (Trap k q) t y r fuel e = absurd (trap_done k q e)
up_done NoFuel t y r fuel e = absurd (no_done e)

pub joined_within : (x : Stop) (t : ℕ) (y : Stop) (r fuel : ℕ) → joined_stop x t y r fuel ≡ Done → x ≡ Done → t + r ≤ fuel
joined_within x t y r fuel e d = go (nat_le (t + r) fuel) refl
  where
    here : joined_stop Done t y r fuel ≡ Done
    here = rw d at e

    go : (b : Bool) → nat_le (t + r) fuel ≡ b → t + r ≤ fuel
    go true f = grind (arith, nat_tests)
    go false f = absurd (no_done (rw f at here))

pub joins_alike : (fuel : ℕ) (rs : List Reduce) (seen written : Cells) (low up whole low' up' whole' : Ran) → EndAlike low low' → EndAlike up up' → EndAlike whole whole' → Joins fuel rs seen written low' up' whole' → Joins fuel rs seen written low up whole
joins_alike fuel rs seen written low up whole low' up' whole' e f g j = record {
  stop = rw (e.stop, e.state, f.stop, f.state, g.stop) j.stop;
  ticks = rw (e.stop, e.state, f.stop, f.state, g.state) j.ticks;
  vars = λ d. rw (e.state, f.state, g.state) (j.vars (sym g.stop ∙ d));
  upper = λ d. rw (f.state, g.state) (j.upper (sym g.stop ∙ d));
  lower = λ d. rw (e.state, g.state) (j.lower (sym g.stop ∙ d));
  output = λ d. rw (e.state, f.state, g.state) (j.output (sym g.stop ∙ d));
}

module _ (p : Program) (outer : Modes) (l : ParLoop) (fuel room : ℕ) (vs : List Variable) (rules : Lawful p outer (names_of vs) l) where
  abbrev F : List ℕ → Type 0
  F = FixedIn (names_of vs) l.reduces.items l.var.text.items

  abbrev Safe : List ℕ → Type 0
  Safe = Callable p (modes_in outer l)

  module _ (a b : ℕ) (i : ℤ) (s u : State) where
    abbrev lower : Ran
    lower = iterations_in p fuel room l [] [] a i s

    abbrev upper : Ran
    upper = iterations_in p fuel room l [] [] b (i +ℤ pos a) u

    abbrev both : Ran
    both = iterations_in p fuel room l [] [] (a + b) i s

    abbrev seen : Cells
    seen = Seen (From (i +ℤ pos a)) vs (modes_in outer l)

    abbrev written : Cells
    written = Written (From (i +ℤ pos a)) vs (modes_in outer l)

    -- where the upper part begins, and where the whole does
    pub record Starts : Type 0 where
      pub within : s.ticks ≤ fuel
      pub around : Around F vs s.vars
      pub upper : Around F vs u.vars
      pub units : Units l.reduces.items vs u.vars
      pub given : AgreeOn seen u.tables s.tables
      pub output : u.output ≡ []
      pub ticks : u.ticks ≡ 0

    module _ (g : Starts) (unit_law : lower.stop ≡ Done → UnitsRight l.reduces.items (λ y. lookup lower.state.vars y)) where
      h : Bend
      h = bend_of l.reduces.items (λ y. lookup lower.state.vars y)

      goes : Goes l.reduces.items h
      unfolding h
      goes = goes_bend l.reduces.items (λ y. lookup lower.state.vars y)

      cut : Cut p.funcs.items l.var.text.items l.reduces.items l.body.items F Safe (modes_in outer l) vs
      cut = lawful_cut p outer l vs rules

      around : lower.stop ≡ Done → Around F vs lower.state.vars
      around d = ((lower_guards p.funcs.items fuel room l.var.text.items l.reduces.items l.body.items h goes F Safe (modes_in outer l) vs cut (i +ℤ pos a) a [] [] i tt tt (omega (arith, ints)) s g.around).leaves (goes_done d)).claim

      values : lower.stop ≡ Done → At (λ y. lookup lower.state.vars y) lower.state.vars
      values d = let k = around d in at_lookup lower.state.vars (subst Distinct (sym (names_kept F vs lower.state.vars k.keeps k.size)) rules.distinct)

      begin_vars : lower.stop ≡ Done → lower.state.vars ≡ bent h u.vars
      unfolding h
      begin_vars d =
          let k = around d in
          begins_bent F l.reduces.items (λ y. lookup lower.state.vars y) (unit_law d) vs u.vars lower.state.vars g.units k.keeps k.size (lawful_round p outer l vs rules) (values d)

      begins : Begins p.funcs.items fuel room l.var.text.items l.reduces.items l.body.items h goes F Safe (modes_in outer l) vs cut a b i s u
      begins = record { within = g.within; around = g.around; upper = g.upper; given = g.given; output = g.output; ticks = g.ticks; vars = begin_vars }

      abbrev R : State → State → Type 0
      R = Near fuel lower.state.ticks lower.state.output seen h (Around F vs)

      joined : Joined fuel R lower upper both
      joined = range_joined p.funcs.items fuel room l.var.text.items l.reduces.items l.body.items h goes F Safe (modes_in outer l) vs cut a b i s u begins

      lower_done : both.stop ≡ Done → lower.stop ≡ Done
      lower_done d = low_done lower.stop lower.state.ticks upper.stop upper.state.ticks fuel (sym joined.stop ∙ d)

      ends_combined : both.stop ≡ Done → both.state.vars ≡ combined l.reduces.items lower.state.vars upper.state.vars
      unfolding h
      ends_combined d =
          let n = joined.merged d in
          let k = around (lower_done d) in
          n.vars ∙ bent_combined F l.reduces.items (λ y. lookup lower.state.vars y) vs lower.state.vars upper.state.vars k.keeps k.size n.claim.keeps n.claim.size (lawful_round p outer l vs rules) (values (lower_done d))

      pub joins_from : Joins fuel l.reduces.items seen written lower upper both
      joins_from = record {
        stop = joined.stop;
        ticks = joined.ticks;
        vars = ends_combined;
        upper = λ d. (joined.merged d).base.tables;
        lower = λ d. range_lower p.funcs.items fuel room l.var.text.items l.reduces.items l.body.items h goes F Safe (modes_in outer l) vs cut a b i s u begins (lower_done d) d;
        output = λ d. (joined.merged d).base.output;
      }

-- each part touches only cells of its own numbers
module _ (p : Program) (outer : Modes) (l : ParLoop) (fuel room : ℕ) (again begin : List Note) (n : ℕ) (i c : ℤ) (vs : List Variable) (s : State) (rules : Lawful p outer (names_of vs) l) (around : Around (FixedIn (names_of vs) l.reduces.items l.var.text.items) vs s.vars) where
  abbrev G : List ℕ → Type 0
  G = FixedIn (names_of vs) l.reduces.items l.var.text.items

  abbrev LowerKept : Type 0
  LowerKept = Kept (Seen (Below c) vs (modes_in outer l)) (Written (Below c) vs (modes_in outer l)) G (Around G vs) s (iterations_in p fuel room l again begin n i s)

  abbrev UpperKept : Type 0
  UpperKept = Kept (Seen (From c) vs (modes_in outer l)) (Written (From c) vs (modes_in outer l)) G (Around G vs) s (iterations_in p fuel room l again begin n i s)

  pub lower_kept_from : NotesKeep (Seen (Below c) vs (modes_in outer l)) (Written (Below c) vs (modes_in outer l)) again → NotesKeep (Seen (Below c) vs (modes_in outer l)) (Written (Below c) vs (modes_in outer l)) begin → (i +ℤ pos n) ≤ℤ c → LowerKept
  lower_kept_from q r h =
      lower_guards p.funcs.items fuel room l.var.text.items l.reduces.items l.body.items (bend_of l.reduces.items (λ y. pos 0)) (goes_bend l.reduces.items (λ y. pos 0)) G (Callable p (modes_in outer l)) (modes_in outer l) vs
      (lawful_cut p outer l vs rules) c n again begin i q r h s around

  pub upper_kept_from : NotesKeep (Seen (From c) vs (modes_in outer l)) (Written (From c) vs (modes_in outer l)) again → NotesKeep (Seen (From c) vs (modes_in outer l)) (Written (From c) vs (modes_in outer l)) begin → c ≤ℤ i → UpperKept
  upper_kept_from q r h =
      upper_guards p.funcs.items fuel room l.var.text.items l.reduces.items l.body.items (bend_of l.reduces.items (λ y. pos 0)) (goes_bend l.reduces.items (λ y. pos 0)) G (Callable p (modes_in outer l)) (modes_in outer l) vs
      (lawful_cut p outer l vs rules) c n again begin i q r h s around

pub lower_kept : (p : Program) (outer : Modes) (l : ParLoop) (fuel room : ℕ) (again begin : List Note) (n : ℕ) (i c : ℤ) (s : State) (rules : Lawful p outer (names_of s.vars) l)
    → NotesKeep (Seen (Below c) s.vars (modes_in outer l)) (Written (Below c) s.vars (modes_in outer l)) again → NotesKeep (Seen (Below c) s.vars (modes_in outer l)) (Written (Below c) s.vars (modes_in outer l)) begin → (i +ℤ pos n) ≤ℤ c
    → Kept (Seen (Below c) s.vars (modes_in outer l)) (Written (Below c) s.vars (modes_in outer l)) (FixedIn (names_of s.vars) l.reduces.items l.var.text.items) (Around (FixedIn (names_of s.vars) l.reduces.items l.var.text.items) s.vars) s (iterations_in p fuel room l again begin n i s)
lower_kept p outer l fuel room again begin n i c s rules = lower_kept_from p outer l fuel room again begin n i c s.vars s rules (record { keeps = keeps_refl _ s.vars; size = refl })

pub upper_kept : (p : Program) (outer : Modes) (l : ParLoop) (fuel room : ℕ) (again begin : List Note) (n : ℕ) (i c : ℤ) (s : State) (rules : Lawful p outer (names_of s.vars) l)
    → NotesKeep (Seen (From c) s.vars (modes_in outer l)) (Written (From c) s.vars (modes_in outer l)) again → NotesKeep (Seen (From c) s.vars (modes_in outer l)) (Written (From c) s.vars (modes_in outer l)) begin → c ≤ℤ i
    → Kept (Seen (From c) s.vars (modes_in outer l)) (Written (From c) s.vars (modes_in outer l)) (FixedIn (names_of s.vars) l.reduces.items l.var.text.items) (Around (FixedIn (names_of s.vars) l.reduces.items l.var.text.items) s.vars) s (iterations_in p fuel room l again begin n i s)
upper_kept p outer l fuel room again begin n i c s rules = upper_kept_from p outer l fuel room again begin n i c s.vars s rules (record { keeps = keeps_refl _ s.vars; size = refl })
