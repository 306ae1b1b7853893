-- What the workers have when they are made.
use Rattle.std.proofs.Common.{◌≡◌, ℕ, zero, suc, ◌+◌, ◌*◌, ◌<◌, ◌≤◌, Option, None, inl, refl, sym}
use Rattle.std.proofs.Common.{subst, arith}
use Rattle.tpal_machine.specs.declared.ends.End.TheVariants as «end»
use Rattle.tpal_machine.specs.declared.ends.Ending.{Ending}
use Rattle.tpal_machine.specs.State.{State}
use Rattle.join_records.specs.Passes.{NewView, IdleView, RootView}
use Rattle.steal_pool.specs.Facts.{HasEnd, Owed}
use Rattle.join_records.specs.declared.load.Load.{Ghosts}
use Rattle.join_records.specs.declared.table.Pass.{Pass}
use Rattle.join_records.specs.declared.table.Records.{Records}
use Rattle.join_records.specs.declared.table.Taken.{Taken}
use Rattle.join_records.specs.Passes.{IsPassOf, view}
use Rattle.steal_pool.specs.declared.desk.Counts.{Counts}
use Rattle.steal_pool.specs.declared.desk.Work.{Work}
use Rattle.steal_pool.specs.Has.{Knows, Has, HasCounts, HasNothing, IsRooted, Runs}
use Rattle.steal_pool.specs.Terms.{Terms}
use Rattle.steal_pool.specs.Together.{no_counts}
use Rattle.steal_pool.proofs.Claiming.{begins}

-- the view of a pass that isn't the first
pub idle_view : (e : Ending) (n k : ℕ) (v : Knows) → 0 < k → NewView e n k v → IdleView e k v
idle_view e n zero v some h = absurd (omega arith)
idle_view e n (suc k) v some h = h

module _ (terms : Terms) where
  -- a worker that has done nothing has counted nothing
  counts_begin : (v : Knows) → v.opens ≡ 0 → HasCounts terms v None no_counts 0 0
  counts_begin v opens = record {
    beats = omega arith;
    few = omega arith;
    paid = inl (subst (λ (n : ℕ). n * terms.heartbeat + 0 ≤ 0) (sym opens) (omega arith));
  }

  -- a worker that isn't the first begins with nothing
  pub idle_begins : (e : Ending) (k : ℕ) (v : Knows) → IdleView e k v → HasNothing terms v None no_counts
  idle_begins e k v i = record { rests = record { none = refl; hand = i.3.2; counts_fit = counts_begin v i.3.3 }; made = i.3.4; holds = i.1 }

  -- the first worker begins with the first task, and holds Root
  pub first_begins : (e : Ending) (n : ℕ) (v : Knows) (task : State) → RootView e n v → Owed terms.code terms.heartbeat task e → HasEnd terms.heartbeat task «end».Root → Runs terms v None no_counts task
  first_begins e n v task r owes place = begins terms v None no_counts task «end».Root e record { none = refl; hand = r.2.2; counts_fit = counts_begin v r.2.3 } r.2.4 record { holds = r.1; within = tt } owes place.0 place.1.none place.1.credit

module _ {L R D : Type 0} {G : Ghosts L R State D Ending} (terms : Terms) where
  -- a worker is made with a pass, and with what it has to do at first
  pub starts : (t : Records L R State D Ending) (p q : Pass L R State D Ending G) (taken : Option Taken) (c : Counts) (w first : Work) → q ≡ p → w ≡ first → taken ≡ None → c ≡ no_counts → IsPassOf t p → Has terms (view p) None no_counts first → IsRooted terms (view p)
      → IsPassOf t q × Has terms (view q) taken c w × IsRooted terms (view q)
  starts t p q taken c w first same does none new of has rooted = (
    subst (λ (x : Pass L R State D Ending G). IsPassOf t x) (sym same) of,
    subst (λ (x : Option Taken × (Counts × Work)). Has terms (view q) x.0 x.1.0 x.1.1) (λ i. (sym none i, (sym new i, sym does i)))
        (subst (λ (x : Pass L R State D Ending G). Has terms (view x) None no_counts first) (sym same) has),
    subst (λ (x : Pass L R State D Ending G). IsRooted terms (view x)) (sym same) rooted,
  )
