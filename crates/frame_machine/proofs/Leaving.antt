-- What the lower iterations leave, the upper ones may begin with.
use Rattle.frame_machine.proofs.Begins.{names_kept}
use Rattle.frame_machine.proofs.Bends.{keeps_lookup}
use Rattle.frame_machine.proofs.Following.{GoesOn}
use Rattle.frame_machine.proofs.Joining.{lower_kept}
use Rattle.frame_machine.proofs.Ranges.{Around, seen_spared}
use Rattle.frame_machine.proofs.Tables.{agree_sym}
use Rattle.frame_machine.specs.Iterating.{iterations_in}
use Rattle.frame_machine.specs.Joins.{SameRound, names_of}
use Rattle.frame_machine.specs.Lawful.{FixedIn, Lawful, modes_in}
use Rattle.frame_machine.specs.Modes.{Modes}
use Rattle.frame_machine.specs.Parts.{AgreeOn, Below, From, NotesKeep, Seen, Written}
use Rattle.loop_meaning.specs.State.{Note, State, lookup}
use Rattle.loop_meaning.specs.declared.value.Variable.{Variable}
use Rattle.loop_rules.specs.Names.{is_in, operator_of}
use Rattle.loop_syntax.specs.declared.ParLoop.{ParLoop}
use Rattle.loop_syntax.specs.declared.Program.{Program}
use Rattle.loop_syntax.specs.declared.Reduce.{Reduce}
use Rattle.std.proofs.Common.{Bool, List, None, [], ap, bytes_eq, false, inl, pos, refl, sym, true}
use Rattle.std.proofs.Common.{ℕ, ℤ, ◌+ℤ◌, ◌∙◌, ◌∷◌, ◌≡◌, ◌≤ℤ◌}

lookup_absent : (vs : List Variable) (x : List ℕ) → is_in (names_of vs) x ≡ false → lookup vs x ≡ pos 0
lookup_absent [] x h = refl
lookup_absent (v ∷ vs) x h = go (bytes_eq v.name x) refl (lookup_absent vs x)
  where
    go : (b : Bool) → bytes_eq v.name x ≡ b → (is_in (names_of vs) x ≡ false → lookup vs x ≡ pos 0) → lookup (v ∷ vs) x ≡ pos 0
    go true e k = absurd (let z : true ≡ false = (rw e at h) in cc)
    go false e k = rw e (k (rw e at h))

-- variables that keep what a loop doesn't reduce
round_kept : (rs : List Reduce) (x : List ℕ) (vs us : List Variable) → Around (FixedIn (names_of vs) rs x) vs us → SameRound rs vs us
round_kept rs x vs us a = record { names = named; values = λ y n. go y n (is_in (names_of vs) y) refl }
  where
    named : names_of us ≡ names_of vs
    named = names_kept (FixedIn (names_of vs) rs x) vs us a.keeps a.size

    go : (y : List ℕ) → operator_of rs y ≡ None → (b : Bool) → is_in (names_of vs) y ≡ b → lookup us y ≡ lookup vs y
    go y n true e = keeps_lookup (FixedIn (names_of vs) rs x) vs us y a.keeps a.size (inl (e, n))
    go y n false e = lookup_absent us y (ap (λ ns. is_in ns y) named ∙ e) ∙ sym (lookup_absent vs y e)

pub lower_leaves : (p : Program) (outer : Modes) (l : ParLoop) (fuel room : ℕ) (again begin : List Note) (n : ℕ) (i c : ℤ) (s : State) (rules : Lawful p outer (names_of s.vars) l)
    → NotesKeep (Seen (Below c) s.vars (modes_in outer l)) (Written (Below c) s.vars (modes_in outer l)) again → NotesKeep (Seen (Below c) s.vars (modes_in outer l)) (Written (Below c) s.vars (modes_in outer l)) begin → (i +ℤ pos n) ≤ℤ c
    → GoesOn (iterations_in p fuel room l again begin n i s).stop
    → SameRound l.reduces.items s.vars (iterations_in p fuel room l again begin n i s).state.vars × AgreeOn (Seen (From c) s.vars (modes_in outer l)) (iterations_in p fuel room l again begin n i s).state.tables s.tables
lower_leaves p outer l fuel room again begin n i c s rules q r h d =
    let k = (lower_kept p outer l fuel room again begin n i c s rules q r h).leaves d in
    let end : State = (iterations_in p fuel room l again begin n i s).state in (
      round_kept l.reduces.items l.var.text.items s.vars end.vars k.claim,
      agree_sym (Seen (From c) s.vars (modes_in outer l)) s.tables end.tables (seen_spared c s.vars (modes_in outer l) s.tables end.tables k.tables),
    )
