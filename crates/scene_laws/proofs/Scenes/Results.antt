-- How a run ends, as far as a task tells it, and what follows it.
use Rattle.std.proofs.Common.{◌≡◌, ℕ, List, [], ◌++◌, take, refl, sym, ap, append-nil, append_assoc}
use Rattle.tp_value.specs.declared.Stop.{Stop}
use Rattle.tp_value.specs.declared.Stop.TheVariants.{Done, Left, Trap, NoFuel}
use Rattle.loop_meaning.specs.State as meaning
use Rattle.loop_meaning.specs.State.{Note, Ran, after, leave_block, noted}

-- what the state is where a run is done, else its stop with the ticks and the output
pub data End : Type 0 where
  Fin : meaning.State → End
  Out : Stop → ℕ → List ℕ → End

-- the same with what was noted on the way
pub record Result : Type 0 where
  pub notes : List Note
  pub end : End

abbrev pub end_by : Stop → meaning.State → End
end_by Done s = Fin s
end_by (Left number) s = Out (Left number) s.ticks s.output
end_by (Trap kind place) s = Out (Trap kind place) s.ticks s.output
end_by NoFuel s = Out NoFuel s.ticks s.output

abbrev pub result : Ran → Result
result r = record { notes = r.notes; end = end_by r.stop r.state }

-- a run that is done, or that stops, where nothing was noted
abbrev pub fin : meaning.State → Result
fin s = record { notes = []; end = Fin s }

abbrev pub out : Stop → meaning.State → Result
out stop s = record { notes = []; end = Out stop s.ticks s.output }

-- with notes made before
abbrev pub noting : List Note → Result → Result
noting ns r = record { notes = ns ++ r.notes; end = r.end }

-- goes on where a run is done
abbrev pub then_end : List Note → End → (meaning.State → Result) → Result
then_end ns (Fin s) k = noting ns (k s)
then_end ns (Out stop ticks output) k = record { notes = ns; end = Out stop ticks output }

abbrev pub then : Result → (meaning.State → Result) → Result
then r k = then_end r.notes r.end k

-- ---- laws

pub noting_twice : (ns ms : List Note) (r : Result) → noting (ns ++ ms) r ≡ noting ns (noting ms r)
noting_twice ns ms r =
    ap (λ (ks : List Note). record { notes = ks; end = r.end }) (append_assoc ns ms r.notes)

noting_end : (ns ms : List Note) (e : End) (k : meaning.State → Result) →
    then_end (ns ++ ms) e k ≡ noting ns (then_end ms e k)
noting_end ns ms (Fin s) k = noting_twice ns ms (k s)
noting_end ns ms (Out stop ticks output) k = refl

-- notes made before a run stand before what follows it too
pub noting_then : (ns : List Note) (r : Result) (k : meaning.State → Result) →
    then (noting ns r) k ≡ noting ns (then r k)
noting_then ns r k = noting_end ns r.notes r.end k

-- what is noted where a run goes on stands behind its own notes
abbrev pub behind_end : End → (meaning.State → Result) → List Note
behind_end (Fin s) k = (k s).notes
behind_end (Out stop ticks output) k = []

abbrev pub notes_behind : Result → (meaning.State → Result) → List Note
notes_behind r k = behind_end r.end k

notes_of_end : (ns : List Note) (e : End) (k : meaning.State → Result) →
    (then_end ns e k).notes ≡ ns ++ behind_end e k
notes_of_end ns (Fin s) k = refl
notes_of_end ns (Out stop ticks output) k = sym (append-nil ns)

pub notes_then : (r : Result) (k : meaning.State → Result) →
    (then r k).notes ≡ r.notes ++ notes_behind r k
notes_then r k = notes_of_end r.notes r.end k

pub out_noting : (ns : List Note) (stop : Stop) (s : meaning.State) →
    noting ns (out stop s) ≡ record { notes = ns; end = Out stop s.ticks s.output }
out_noting ns stop s =
    ap (λ (ks : List Note). record { notes = ks; end = Out stop s.ticks s.output }) (append-nil ns)

go_then : (x : Stop) (r : Ran) (g : meaning.State → Ran) (k : meaning.State → Result) → r.stop ≡ x →
    then (result (meaning.go_on x r g)) k
    ≡ then_end r.notes (end_by x r.state) (λ s. then (result (g s)) k)
go_then Done r g k is = noting_then r.notes (result (g r.state)) k
go_then (Left number) r g k is = rw is refl
go_then (Trap kind place) r g k is = rw is refl
go_then NoFuel r g k is = rw is refl

pub after_then : (r : Ran) (g : meaning.State → Ran) (k : meaning.State → Result) →
    then (result (after r g)) k ≡ then (result r) (λ s. then (result (g s)) k)
after_then r g k = go_then r.stop r g k refl

-- a state with the first variables alone
abbrev pub left : ℕ → meaning.State → meaning.State
left n s = record s { vars = take n s.vars }

left_by : (ns : List Note) (x : Stop) (s : meaning.State) (n : ℕ) (k : meaning.State → Result) →
    then_end ns (end_by x (left n s)) k ≡ then_end ns (end_by x s) (λ t. k (left n t))
left_by ns Done s n k = refl
left_by ns (Left number) s n k = refl
left_by ns (Trap kind place) s n k = refl
left_by ns NoFuel s n k = refl

pub leave_then : (n : ℕ) (r : Ran) (k : meaning.State → Result) →
    then (result (leave_block n r)) k ≡ then (result r) (λ s. k (left n s))
leave_then n r k = left_by r.notes r.stop r.state n k
