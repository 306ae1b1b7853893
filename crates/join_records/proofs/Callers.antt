-- What a caller knows of its hand after a call.
use Rattle.std.proofs.Common.{inl, inr, ◌≡◌, ℕ, suc, ◌+◌, List, [], ◌∷◌, Bool, cond, refl, sym, ap}
use Rattle.std.proofs.Common.{◌∙◌, subst, ◌++◌, length, eq-eqb, ne_eqb, Some, None, arith}
use mathlib.Core.Logic.{dite}
use mathlib.Core.Option.{some}
use lib.ListN.{get_elem?}
use Rattle.join_records.proofs.Calls.{last_here, last_before, reads_twice}
use native.Mathlib.Decide.{ℕ_discrete}
use Rattle.tpal_machine.specs.declared.ends.End.{End}
use Rattle.tpal_machine.specs.declared.ends.End.TheVariants.{At}
use Rattle.tpal_machine.specs.declared.ends.SideName.TheVariants.{Right}
use Rattle.join_records.specs.declared.views.CallState.TheVariants.{Steady}
use Rattle.join_records.specs.declared.views.Grip.{Grip}
use Rattle.join_records.specs.declared.views.Grip.TheVariants.{Reserved, Emptying, Emptied}
use Rattle.join_records.specs.declared.views.View.{View}
use Rattle.join_records.specs.Views.{in_hand, drop_record, NoneMet, HasMet, read, with_hand}
use Rattle.join_records.specs.Views.{with_ends, holds_end, opened_view}
use Rattle.join_records.specs.declared.table.Taken.{Taken}
use Rattle.join_records.specs.Passes.{taken_number}
use Rattle.std.specs.Prelude.{Option, IfSome, IfNone, ◌<◌}
use Rattle.join_records.specs.Answers.{FoundFree, NoneFree, met_view, reads_more, ReadFew}
use Rattle.join_records.specs.Answers.{Unclaimable, ClaimsSoon}
use Rattle.join_records.proofs.Functions.{dropped, undropped, dropped_twice, length_more}

module _ {C E : Type 0} where
  -- a record that was found is in hand
  pub found_here : (v w : View C E) (k : ℕ) → FoundFree v k w → in_hand w.hand k ≡ Some Reserved
  found_here v w k (rs, is) = ap (λ (u : View C E). in_hand u.hand k) is ∙ ap (λ (b : Bool). cond b (Some Reserved) (in_hand v.hand k)) (eq-eqb k k refl)

  -- and no other record became met
  pub found_unmet : (v w : View C E) (k : ℕ) → NoneMet v → FoundFree v k w → NoneMet w
  found_unmet v w k unmet (rs, is) = subst (λ (u : View C E). NoneMet u) (sym is) (λ i up. dite (ℕ_discrete k i)
      (λ z. let at = ap (λ (b : Bool). cond b (Some Reserved) (in_hand v.hand i)) (eq-eqb k i z) in ((λ e. not_emptied (sym at ∙ e)), λ e. not_emptying (sym at ∙ e)))
      (λ n. let at = ap (λ (b : Bool). cond b (Some Reserved) (in_hand v.hand i)) (ne_eqb k i n) in ((λ e. (unmet i up).0 (sym at ∙ e)), λ e. (unmet i up).1 (sym at ∙ e))))
    where
      not_emptied : {up : End} → Some Reserved ≡ Some (Emptied up) → ⊥
      not_emptied e = cc

      not_emptying : {up : End} → Some Reserved ≡ Some (Emptying up) → ⊥
      not_emptying e = cc

module _ {C E : Type 0} where
  -- a search, whether it found a record or not, leaves the ends and what was opened, and none met
  pub searched : (o : Option Taken) (v w : View C E) (n : ℕ) → IfSome o (λ t. FoundFree v (taken_number t) w) → IfNone o (NoneFree 0 n v w) → NoneMet v → NoneMet w × (w.ends ≡ v.ends) × (w.parts ≡ v.parts) × (w.opens ≡ v.opens)
  searched None v w n found none unmet = let is = none.1 in (subst (λ (u : View C E). NoneMet u) (sym is) unmet, ap (λ (u : View C E). u.ends) is, ap (λ (u : View C E). u.parts) is, ap (λ (u : View C E). u.opens) is)
  searched (Some t) v w n found none unmet = let is = found.1 in (found_unmet v w (taken_number t) unmet found, ap (λ (u : View C E). u.ends) is, ap (λ (u : View C E). u.parts) is, ap (λ (u : View C E). u.opens) is)

  -- in a table of one record it finds the first
  pub found_first : (o : Option Taken) (v w : View C E) (n : ℕ) → n ≡ 1 → IfSome o (λ t. FoundFree v (taken_number t) w) → IfSome o (λ t. taken_number t < n) → IfSome o (λ t. (taken_number t ≡ 0) × (in_hand w.hand 0 ≡ Some Reserved))
  found_first None v w n one found below = tt
  found_first (Some t) v w n one found below = let zero : taken_number t ≡ 0 = omega arith in (zero, subst (λ (k : ℕ). in_hand w.hand k ≡ Some Reserved) zero (found_here v w (taken_number t) found))

none_some : {A : Type 0} {x : A} → None ≡ Some x → ⊥
none_some e = cc

module _ {C E : Type 0} where
  -- nothing is met in an empty hand
  pub empty_unmet : (v : View C E) → v.hand ≡ [] → NoneMet v
  empty_unmet v is i up = ((λ e. none_some (ap (λ (h : List (ℕ × Grip)). in_hand h i) (sym is) ∙ e)), λ e. none_some (ap (λ (h : List (ℕ × Grip)). in_hand h i) (sym is) ∙ e))

  -- a hand without a record has no other met record
  pub dropped_unmet : (v w : View C E) (k : ℕ) → NoneMet v → w.hand ≡ drop_record k v.hand → NoneMet w
  dropped_unmet v w k unmet is i up = dite (ℕ_discrete i k)
      (λ z. let at = ap (λ (h : List (ℕ × Grip)). in_hand h i) is ∙ (ap (in_hand (drop_record k v.hand)) z ∙ dropped k v.hand) in ((λ e. none_some (sym at ∙ e)), λ e. none_some (sym at ∙ e)))
      (λ n. let at = ap (λ (h : List (ℕ × Grip)). in_hand h i) is ∙ undropped k v.hand i n in ((λ e. (unmet i up).0 (sym at ∙ e)), λ e. (unmet i up).1 (sym at ∙ e)))

  -- an opening leaves none met
  pub opened_unmet : (v w : View C E) (k x : ℕ) (e : E) → NoneMet v → w ≡ opened_view (read v (k + 1) x) k e → NoneMet w
  opened_unmet v w k x e unmet is = dropped_unmet v w k unmet (ap (λ (t : View C E). t.hand) is)

  -- the second side has the record in hand as met
  pub met_here : (v w : View C E) (k x y z : ℕ) (up : End) (u : E) → w ≡ met_view v k x y z up u → HasMet w k up
  met_here v w k x y z up u is = ap (λ (t : View C E). in_hand t.hand k) is ∙ ap (λ (b : Bool). cond b (Some (Emptied up)) (in_hand (drop_record k v.hand) k)) (eq-eqb k k refl)

  -- until it is free
  pub freed_unmet : (v m w : View C E) (k n x y z a : ℕ) (up : End) (u : E) → NoneMet v → n ≡ k → m ≡ met_view v k x y z up u → w ≡ with_hand (read (read m (n + 1) a) (n + 1) a) (drop_record n m.hand) → NoneMet w
  freed_unmet v m w k n x y z a up u unmet same is is' = dropped_unmet v w k unmet (ap (λ (t : View C E). t.hand) is' ∙ (ap (λ (i : ℕ). drop_record i m.hand) same ∙ (ap (λ (t : View C E). drop_record k t.hand) is ∙ dropped_twice k (Emptied up) v.hand)))

module _ {C E : Type 0} where
  -- a claim that answers no child changes the reads alone
  pub unclaimable_reads : (v w : View C E) (k : ℕ) → Unclaimable v k w → (rs : List (ℕ × ℕ)) × (w ≡ reads_more v rs)
  unclaimable_reads v w k (inl (x, not, is)) = ((k + 1, x) ∷ [], is)
  unclaimable_reads v w k (inr (inl (x, y, not, is))) = ((k + 1, x) ∷ (k + 1, y) ∷ [], is ∙ reads_twice v ((k + 1, x) ∷ []) ((k + 1, y) ∷ []))
  unclaimable_reads v w k (inr (inr (x, y, z, first, second, is))) = (
    (k + 1, x) ∷ (k + 1, y) ∷ (k + 1, z) ∷ [],
    is ∙ (ap (λ (u : View C E). read u (k + 1) z) (reads_twice v ((k + 1, x) ∷ []) ((k + 1, y) ∷ [])) ∙ reads_twice v ((k + 1, x) ∷ (k + 1, y) ∷ []) ((k + 1, z) ∷ [])),
  )

  few_reads : (v u : View C E) (k : ℕ) → ReadFew v k u → (rs : List (ℕ × ℕ)) × (u ≡ reads_more v rs)
  few_reads v u k (inl (x, is)) = ((k + 1, x) ∷ [], is)
  few_reads v u k (inr (x, y, is)) = ((k + 1, x) ∷ (k + 1, y) ∷ [], is ∙ reads_twice v ((k + 1, x) ∷ []) ((k + 1, y) ∷ []))

  -- one that answers a child changes the reads and the end that is held
  pub claims_reads : (owes : C → E → Type 0) (v w : View C E) (k : ℕ) (child : C) → ClaimsSoon owes v k child w → (e : E) × owes child e × ((rs : List (ℕ × ℕ)) × (w ≡ with_ends (reads_more v rs) (holds_end (At k Right) e Steady)))
  claims_reads owes v w k child (u, few, (e, found, again, owed, is)) = let before = few_reads v u k few in (
    e,
    owed,
    (
      before.0 ++ (k + 1, found) ∷ (k + 1, again) ∷ [],
      is ∙ ap (λ (t : View C E). with_ends t (holds_end (At k Right) e Steady))
          (reads_twice u ((k + 1, found) ∷ []) ((k + 1, again) ∷ []) ∙ (ap (λ (t : View C E). reads_more t ((k + 1, found) ∷ (k + 1, again) ∷ [])) before.1 ∙ reads_twice v before.0 ((k + 1, found) ∷ (k + 1, again) ∷ []))),
    ),
  )

-- what holds of each of a list by its place holds of the last, and of each of the others
pub popped : {A : Type 0} (P : ℕ → A → Type 0) (items xs : List A) (x : A) → ((k : ℕ) (y : A) → get_elem? items k ≡ some y → P k y) → items ≡ xs ++ x ∷ [] → P (length xs) x × ((k : ℕ) (y : A) → get_elem? xs k ≡ some y → P k y)
popped P items xs x each is = (each (length xs) x (last_here items xs x is), λ k y at. each k y (last_before items xs x is k y at))

-- and where the list has n + 1, the last is the one at n, and n are left
pub last_of : {A : Type 0} (P : ℕ → A → Type 0) (n : ℕ) (items xs : List A) (x : A) → ((k : ℕ) (y : A) → get_elem? items k ≡ some y → P k y) → length items ≡ suc n → items ≡ xs ++ x ∷ []
    → P n x × ((k : ℕ) (y : A) → get_elem? xs k ≡ some y → P k y) × (length xs ≡ n)
last_of P n items xs x each long is = let both = popped P items xs x each is in let more = ap length is ∙ length_more xs x in let left : length xs ≡ n = omega arith in (subst (λ (k : ℕ). P k x) left both.0, both.1, left)

-- each of four, taken off from the last on
pub last_four : {A : Type 0} (P : ℕ → A → Type 0) (items xs ys zs ws : List A) (first second third fourth : A) → ((k : ℕ) (y : A) → get_elem? items k ≡ some y → P k y) → length items ≡ 4
    → items ≡ xs ++ fourth ∷ [] → xs ≡ ys ++ third ∷ [] → ys ≡ zs ++ second ∷ [] → zs ≡ ws ++ first ∷ [] → P 0 first × P 1 second × P 2 third × P 3 fourth
last_four P items xs ys zs ws first second third fourth each long d c b a =
    let r = last_of P 3 items xs fourth each long d in let q = last_of P 2 xs ys third r.1 r.2 c in let p = last_of P 1 ys zs second q.1 q.2 b in ((last_of P 0 zs ws first p.1 p.2 a).0, p.0, q.0, r.0)
