-- When a frame is the whole of its `par`, or of its `both`.
use Rattle.std.specs.Prelude.{ℕ, zero, suc, Bool, false, ℤ, List, [], ◌∷◌, if◌then◌else◌}
use Rattle.std.specs.Int.{int_gap}
use Rattle.beat_count.specs.Ticks.{is_tick_allowed}
use Rattle.loop_syntax.specs.declared.Name.{Name}
use Rattle.loop_syntax.specs.declared.App.{App}
use Rattle.loop_syntax.specs.declared.ParLoop.{ParLoop}
use Rattle.loop_syntax.specs.declared.Program.{Program}
use Rattle.loop_meaning.specs.declared.frame.Frame.TheVariants.{Pair}
use Rattle.loop_meaning.specs.State.{State, Note, Chance, Ran, done, after}
use Rattle.loop_meaning.specs.Statements.{given_all, iterate, run_list, set_var}
use Rattle.loop_meaning.specs.Calls.{setting}
use Rattle.loop_meaning.specs.Frames.{OfBoth, FrameRan, run_frame}

-- the iterations first, .., end - 1 of a `par`, where `first` is its first one
abbrev pub iterations : Program → ℕ → ℕ → ParLoop → ℤ → ℤ → State → Ran
iterations p fuel depth l first end s =
    iterate fuel l.var.text.items (run_list (setting p fuel depth l.reduces.items) l.body.items)
    (Chance ∷ []) [] (int_gap first end) first s

-- a chance for the first of n iterations, where it is begun: there is one, and its tick is allowed
abbrev pub first_chance : ℕ → ℕ → State → List Note
first_chance fuel zero s = []
first_chance fuel (suc n) s = if is_tick_allowed fuel s.ticks then Chance ∷ [] else []

-- two variables with the values of two calls
abbrev pub set_both : Name → Name → List ℤ → State → State
set_both x y (v ∷ w ∷ ns) s = set_var y w (set_var x v s)
set_both x y _ s = s

-- where a pair's frame is done, the variables are set
abbrev pub then_set : Name → Name → FrameRan → Ran
then_set x y r = after r.ran (λ s. done (set_both x y r.results s))

-- a `both` that evaluates its arguments and then runs a frame of both calls
abbrev pub both_by_frame : Program → ℕ → ℕ → Bool → Name → App → Name → App → State → Ran
both_by_frame p fuel depth child x f y g s =
    given_all f.args.items s (λ ns. given_all g.args.items s (λ ms. then_set x y
    (run_frame p fuel depth (OfBoth f.callee.text.items f.callee.place ns g.callee.place child)
    (Pair g.callee.text.items ms false) s)))
