-- What a task is bound to: by its step, and at most one ending.
use Rattle.std.proofs.Common.{◌≡◌, ℕ, Bool, true, false, None, refl, ap, sym, subst, ◌∙◌, arith}
use Rattle.tpal_syntax.specs.Listing.{Listing}
use Rattle.tpal_machine.specs.declared.ends.Ending.{Ending}
use Rattle.tpal_machine.specs.declared.ends.Ending.TheVariants as ending
use Rattle.tpal_machine.specs.declared.ends.SideName.TheVariants.{Left, Right}
use Rattle.tpal_machine.specs.Effect.{answered}
use Rattle.tpal_machine.specs.Merge as merging
use Rattle.tpal_machine.specs.Owes.{Bound, ends, goes, beats, asks, forks, forks_on}
use Rattle.tpal_machine.specs.State.{State}
use Rattle.tpal_machine.specs.Step.{Step, step}
use Rattle.tpal_machine.specs.Within.{Owing, NextOwes, JoinedOwes}

-- bound to an ending for some least number of points
pub record Somehow (code : Listing) (heartbeat : ℕ) (due : Bool) (state : State) (e : Ending) : Type 0 where
  pub least : ℕ
  pub bound : Bound code heartbeat due least state e

module _ (code : Listing) (heartbeat : ℕ) where
  abbrev pub Some_bound : Owing
  Some_bound due state e = Somehow code heartbeat due state e

  some : (n : ℕ) (due : Bool) (state : State) (e : Ending) → Bound code heartbeat due n state e → Some_bound due state e
  some n due state e bound = record { least = n; bound = bound }

  -- what a task that is bound to an ending is bound to after a step
  abbrev pub By_step : Bool → State → Ending → Step → Type 0
  By_step due state e one = NextOwes code heartbeat Some_bound due state e one

  pub by_step : (due : Bool) (n : ℕ) (state : State) (e : Ending) → Bound code heartbeat due n state e → By_step due state e (step code heartbeat true state)
  by_step false n state e (ends _ _ is) = subst (By_step false state e) (sym is) (refl, refl)
  by_step due n state e (goes _ _ m _ after _ few is bound) = subst (By_step due state e) (sym is) (some m due after e bound)
  by_step false n state e (beats _ m _ after diverted _ few goes_on is bound other) =
      subst (By_step false state e) (sym is) (refl, record { after = after; goes = goes_on; after_owes = some m false after e bound; diverted_owes = some 0 true diverted e other })
  by_step true n state e (asks _ waits _ is bound) = subst (By_step true state e) (sym is) (refl, λ rec fits. some 0 false (answered rec waits) e (bound rec fits))
  by_step false n state e (forks _ parts p q _ is left right merged) =
      subst (By_step false state e) (sym is) (
        refl,
        record {
          left = p;
          right = q;
          both = merging.Ends e;
          left_owes = some 0 false parts.left (ending.At parts.rec Left p) left;
          child_owes = some 0 false parts.child (ending.At parts.rec Right q) right;
          merged = merged;
          joined_owes = refl;
        },
      )
  by_step false n state e (forks_on _ parts p q joined _ is left right merged bound) =
      subst (By_step false state e) (sym is) (
        refl,
        record {
          left = p;
          right = q;
          both = merging.Goes joined;
          left_owes = some 0 false parts.left (ending.At parts.rec Left p) left;
          child_owes = some 0 false parts.child (ending.At parts.rec Right q) right;
          merged = merged;
          joined_owes = some 0 false joined e bound;
        },
      )

  -- a task that is bound with a least number of points is bound with none
  pub no_least : (due : Bool) (n : ℕ) (state : State) (e : Ending) → Bound code heartbeat due n state e → Bound code heartbeat due 0 state e
  no_least false n state e (ends _ _ is) = ends state e is
  no_least due n state e (goes _ _ m _ after _ few is bound) = goes due 0 0 state after e (omega arith) is (no_least due m after e bound)
  no_least false n state e (beats _ m _ after diverted _ few calmly is bound other) = beats 0 0 state after diverted e (omega arith) calmly is (no_least false m after e bound) other
  no_least true n state e (asks _ waits _ is bound) = asks state waits e is bound
  no_least false n state e (forks _ parts p q _ is left right merged) = forks state parts p q e is left right merged
  no_least false n state e (forks_on _ parts p q joined _ is left right merged bound) = forks_on state parts p q joined e is left right merged bound

  -- a task is bound to at most one ending
  pub one_ending : (due : Bool) (n m : ℕ) (state : State) (e f : Ending) → Bound code heartbeat due n state e → Bound code heartbeat due m state f → e ≡ f
  one_ending false n m state e f (ends _ _ is) second = (subst (By_step false state f) is (by_step false m state f second)).1
  one_ending due n m state e f (goes _ _ k _ after _ few is bound) second =
      let other = subst (By_step due state f) is (by_step due m state f second) in
      one_ending due k other.least after e f bound other.bound
  one_ending false n m state e f (beats _ k _ after diverted _ few goes_on is bound also) second =
      let other = (subst (By_step false state f) is (by_step false m state f second)).1 in
      let same : other.after ≡ after = cc (sym other.goes ∙ goes_on) in
      one_ending false k other.after_owes.least after e f bound (subst (λ (s : State). Bound code heartbeat false other.after_owes.least s f) same other.after_owes.bound)
  one_ending true n m state e f (asks _ waits _ is bound) second =
      let other = (subst (By_step true state f) is (by_step true m state f second)).1 None tt in
      one_ending false 0 other.least (answered None waits) e f (bound None tt) other.bound
  one_ending false n m state e f (forks _ parts p q _ is left right merged) second =
      let other = (subst (By_step false state f) is (by_step false m state f second)).1 in
      let same_left : p ≡ other.left = cc (one_ending false 0 other.left_owes.least parts.left _ _ left other.left_owes.bound) in
      let same_right : q ≡ other.right = cc (one_ending false 0 other.child_owes.least parts.child _ _ right other.child_owes.bound) in
      let same : merging.Ends e ≡ other.both = sym merged.gives ∙ ap (λ x. merging.joined code parts.rest x q) same_left ∙ ap (λ x. merging.joined code parts.rest other.left x) same_right ∙ other.merged.gives in
      subst (JoinedOwes Some_bound f) (sym same) other.joined_owes
  one_ending false n m state e f (forks_on _ parts p q joined _ is left right merged bound) second =
      let other = (subst (By_step false state f) is (by_step false m state f second)).1 in
      let same_left : p ≡ other.left = cc (one_ending false 0 other.left_owes.least parts.left _ _ left other.left_owes.bound) in
      let same_right : q ≡ other.right = cc (one_ending false 0 other.child_owes.least parts.child _ _ right other.child_owes.bound) in
      let same : merging.Goes joined ≡ other.both = sym merged.gives ∙ ap (λ x. merging.joined code parts.rest x q) same_left ∙ ap (λ x. merging.joined code parts.rest other.left x) same_right ∙ other.merged.gives in
      let after = subst (JoinedOwes Some_bound f) (sym same) other.joined_owes in
      one_ending false 0 after.least joined e f bound after.bound
