-- One instruction of a walk, and what is left of the walk behind it.
use Rattle.std.proofs.Common.{◌≡◌, ℕ, ◌+◌, List, [], ◌∷◌, ◌++◌, Option, Some, None, refl, sym, ap, ◌∙◌, append-nil, append_assoc, Bool, false}
use Rattle.tpal_syntax.specs.declared.instructions.Instr.{Instr}
use Rattle.tpal_syntax.specs.declared.instructions.Term.{Term}
use Rattle.tpal_verify.specs.declared.blocks.Found.{Found}
use Rattle.tpal_verify.specs.declared.phases.Phase.{Phase}
use Rattle.tpal_verify.specs.declared.trace.Trace.{Trace}
use Rattle.tpal_verify.specs.Shapes.{Shape}
use Rattle.tpal_verify.specs.Flat.{Ground}
use Rattle.tpal_verify.specs.Rules.{broken_rule}
use Rattle.tpal_verify.specs.Walk.{Flow, Walked, going, walk, walk_on, with_going, with_forks, unless_broken}
use Rattle.tpal_verify.specs.Rounds.{Shapes, with_flow, with_flows}
use Rattle.tpal_verify.specs.Walking.{Walking, Went, Ended, stands}

pub with_append : (xs : Shapes) (fs gs : List Flow) → with_flows xs (fs ++ gs) ≡ with_flows (with_flows xs fs) gs
with_append xs [] gs = refl
with_append xs (f ∷ fs) gs = with_append (with_flow xs f) fs gs

-- what a walk makes of the shapes, and what is found behind these forks
abbrev pub comes_to : Shapes → List Flow → Walked → Shapes × Trace
comes_to next forks walked = (with_flows next walked.flows, with_forks forks walked.trace)

abbrev pub traced : Found → List Flow → Trace
traced found forks = record { broken = found.broken; join = found.join; forks = forks }

after_going : (next : Shapes) (forks fs gs : List Flow) (w : Walked) → comes_to next forks (with_going fs gs w) ≡ comes_to (with_flows next fs) (forks ++ gs) w
after_going next forks fs gs w =
    ap (λ x. (x, with_forks forks (with_forks gs w.trace))) (with_append next fs w.flows)
    ∙ ap (λ x. (with_flows (with_flows next fs) w.flows, record w.trace { forks = x })) (sym (append_assoc forks gs w.trace.forks))

module _ (whole : Ground) (first : Bool) (at : ℕ) (p : Phase) (i : Instr) (rest : List Instr) (term : Term) where
  abbrev later : Phase → Shape → Walked
  later q t = walk whole false (at + 1) q t rest term

  pub broken_here : (next : Shapes) (forks : List Flow) (s : Shape) (rule : ℕ) → broken_rule whole first p s i rest ≡ Some rule
      → (next, traced (record { broken = Some (at, rule); join = None }) forks) ≡ comes_to next forks (walk whole first at p s (i ∷ rest) term)
  broken_here next forks s rule q =
      sym (ap (λ b. comes_to next forks (unless_broken b at (going whole p s i) later)) q
      ∙ ap (λ fs. (next, traced (record { broken = Some (at, rule); join = None }) fs)) (append-nil forks))

  pub went_on : (old new : Walking) (on : Option Phase) → broken_rule whole first p old.shape i rest ≡ None → Went old new (going whole p old.shape i) on
      → comes_to new.next new.forks (walk_on (stands on new.shape) later) ≡ comes_to old.next old.forks (walk whole first at p old.shape (i ∷ rest) term)
  went_on old new on q w =
      let g = going whole p old.shape i in
      sym (ap (λ b. comes_to old.next old.forks (unless_broken b at g later)) q
      ∙ (after_going old.next old.forks g.flows g.forks (walk_on g.on later)
      ∙ (ap (λ x. comes_to x (old.forks ++ g.forks) (walk_on g.on later)) (sym w.flows)
      ∙ (ap (λ x. comes_to new.next x (walk_on g.on later)) (sym w.forks)
      ∙ ap (λ x. comes_to new.next new.forks (walk_on x later)) (sym w.on)))))

  pub went_out : (old new : Walking) → broken_rule whole first p old.shape i rest ≡ None → Went old new (going whole p old.shape i) None
      → (new.next, traced (record { broken = None; join = None }) new.forks) ≡ comes_to old.next old.forks (walk whole first at p old.shape (i ∷ rest) term)
  went_out old new q w =
      ap (λ fs. (new.next, traced (record { broken = None; join = None }) fs)) (sym (append-nil new.forks)) ∙ went_on old new None q w

  pub goes_on : (old new : Walking) (behind : Option Phase) (next : Phase) → broken_rule whole first p old.shape i rest ≡ None → Went old new (going whole p old.shape i) behind → behind ≡ Some next
      → comes_to new.next new.forks (walk whole false (at + 1) next new.shape rest term) ≡ comes_to old.next old.forks (walk whole first at p old.shape (i ∷ rest) term)
  goes_on old new behind next q w b =
      ap (λ o. comes_to new.next new.forks (walk_on (stands o new.shape) later)) (sym b) ∙ went_on old new behind q w

pub ended : (old new : Walking) (walked : Walked) (found : Found) → (new.next, traced found new.forks) ≡ comes_to old.next old.forks walked → new.now ≡ old.now → Ended old new walked found
ended old new walked found q n = record {
  flows = ap (λ x. x.0) q;
  forks = ap (λ x. x.1.forks) q;
  broken = ap (λ x. x.1.broken) q;
  join = ap (λ x. x.1.join) q;
  now = n;
}

as_one : (old new : Walking) (walked : Walked) (found : Found) → Ended old new walked found → (new.next, traced found new.forks) ≡ comes_to old.next old.forks walked
as_one old new walked found e =
    ap (λ x. (x, traced found new.forks)) e.flows
    ∙ (ap (λ x. (with_flows old.next walked.flows, traced found x)) e.forks
    ∙ (ap (λ x. (with_flows old.next walked.flows, traced (record { broken = x; join = found.join }) (old.forks ++ walked.trace.forks))) e.broken
    ∙ ap (λ x. (with_flows old.next walked.flows, traced (record { broken = walked.trace.broken; join = x }) (old.forks ++ walked.trace.forks))) e.join))

-- the rest of a walk ended, and so the whole walk
pub ended_behind : (old middle new : Walking) (whole rest : Walked) (found : Found) → comes_to middle.next middle.forks rest ≡ comes_to old.next old.forks whole → middle.now ≡ old.now
    → Ended middle new rest found → Ended old new whole found
ended_behind old middle new whole rest found q n e =
    ended old new whole found (as_one middle new rest found e ∙ q) (e.now ∙ n)
