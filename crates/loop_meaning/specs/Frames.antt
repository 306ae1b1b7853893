-- The meaning of a `par`, or of a `both`, that is partly done.
use Rattle.std.specs.Prelude.{ℕ, Bool, true, false, ℤ, List, [], ◌∷◌, map}
use Rattle.std.specs.Int.{int_gap}
use Rattle.tp_value.specs.declared.Place.{Place}
use Rattle.tp_value.specs.declared.Op.{Op}
use Rattle.loop_syntax.specs.declared.Reduce.{Reduce}
use Rattle.loop_syntax.specs.declared.ParLoop.{ParLoop}
use Rattle.loop_syntax.specs.declared.Program.{Program}
use Rattle.loop_meaning.specs.declared.frame.Frame.{Frame}
use Rattle.loop_meaning.specs.declared.frame.Frame.TheVariants.{Range, Pair}
use Rattle.loop_meaning.specs.declared.value.Variable.{Variable}
use Rattle.loop_meaning.specs.State.{lookup, assign, State, Note, Chance, Ran, done, after}
use Rattle.loop_meaning.specs.Statements.{Called, iterate, run_list}
use Rattle.loop_meaning.specs.Calls.{setting}

-- the source that a frame belongs to: a `par`, or the first call of a `both` with its evaluated
-- arguments and the place of the second function's name; and whether a taken pair is the child's
pub data Source : Type 0 where
  OfPar : ParLoop → Source
  OfBoth : List ℕ → Place → List ℤ → Place → (child : Bool) → Source

-- how a frame ends: the run, and the accumulators or the values of the calls that it made
pub record FrameRan : Type 0 where
  pub ran : Ran
  pub results : List ℤ

-- the reduced variables with the values of the accumulators
abbrev pub with_accs : List Reduce → List (Op × ℤ) → List Variable → List Variable
with_accs [] xs vs = vs
with_accs (r ∷ rs) [] vs = vs
with_accs (r ∷ rs) (a ∷ xs) vs = with_accs rs xs (assign vs r.target.text.items a.1)

-- the values of the reduced variables
abbrev pub accs_of : List Reduce → List Variable → List ℤ
accs_of rs vs = map (λ r. lookup vs r.target.text.items) rs

-- a call alone, with its value
abbrev pub one_call : Called → FrameRan
one_call c = record { ran = c.ran; results = c.value ∷ [] }

-- two calls, one after the other
abbrev pub two_calls_of : Called → (State → Called) → FrameRan
two_calls_of c go = record {
  ran = after c.ran (λ s. (go s).ran);
  results = c.value ∷ (go c.ran.state).value ∷ [];
}

-- the iterations next, .., end - 1 of a `par`; none of them is its first
abbrev pub run_range : Program → ℕ → ℕ → ParLoop → ℤ → ℤ → State → Ran
run_range p fuel depth l next end s =
    iterate fuel l.var.text.items (run_list (setting p fuel depth l.reduces.items) l.body.items)
    (Chance ∷ []) (Chance ∷ []) (int_gap next end) next s

-- both calls of a pair that isn't taken; of a taken one the second alone where it is the child's,
-- else the first alone
abbrev pub run_pair : (List ℕ → Place → List ℤ → List Note → State → Called) → Bool → Bool → List ℕ
    → Place → List ℤ → List ℕ → Place → List ℤ → State → FrameRan
run_pair call false child f p ns g q ms s =
    two_calls_of (call f p ns (Chance ∷ []) s) (call g q ms [])
run_pair call true false f p ns g q ms s = one_call (call f p ns (Chance ∷ []) s)
run_pair call true true f p ns g q ms s = one_call (call g q ms [] s)

-- a frame, at a depth of calls. A frame of the other kind than its source has nothing to run
abbrev pub run_frame : Program → ℕ → ℕ → Source → Frame → State → FrameRan
run_frame p fuel depth (OfPar l) (Range next end accs) s =
    let r : Ran =
    run_range p fuel depth l next end
    (record s { vars = with_accs l.reduces.items accs s.vars }) in
    record { ran = r; results = accs_of l.reduces.items r.state.vars }
run_frame p fuel depth (OfPar l) (Pair second args taken) s = record { ran = done s; results = [] }
run_frame p fuel depth (OfBoth f place ns second_place child) (Range next end accs) s =
    record { ran = done s; results = [] }
run_frame p fuel depth (OfBoth f place ns second_place child) (Pair second args taken) s =
    run_pair (setting p fuel depth []).call taken child f place ns second second_place args s
