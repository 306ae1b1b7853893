-- What a task that is bound to an ending comes to, is bound to it.
use Rattle.std.proofs.Common.{◌≡◌, ℕ, zero, suc, Bool, true, false, cond, eqb, refl, sym}
use Rattle.std.proofs.Common.{ap, ◌∙◌, subst, arith, ⊎_elim}
use Rattle.std.proofs.lemmas.Bool.{cases_Bool, true≢false, eqb-true, and_parts}
use Rattle.std.specs.Prelude.{nat_le, not, ◌&&◌}
use Rattle.beat_count.specs.Heartbeat.{is_diverted, entered}
use Rattle.tpal_syntax.specs.declared.words.Word.TheVariants as word
use Rattle.tpal_syntax.specs.Listing.{Listing}
use Rattle.tpal_machine.specs.declared.ends.Ending.{Ending}
use Rattle.tpal_machine.specs.Effect.{has_mark}
use Rattle.tpal_machine.specs.Owes.{Bound, points}
use Rattle.tpal_machine.specs.Owes as owes
use Rattle.tpal_machine.specs.Reading.{with_register}
use Rattle.tpal_machine.specs.State.{State}
use Rattle.tpal_machine.specs.Step.{Step, Goes, Beats, Ends, Asks, Forks, Stuck, Strays, at_block}
use Rattle.tpal_machine.specs.Step.{entered_ready, step}
use Rattle.tpal_machine.proofs.Owing.{Somehow, By_step, by_step, no_least}
use Rattle.sum_code.proofs.Walking.{on_goes, goes, after_or, strays_not, steps, picked, with_beat}
use Rattle.sum_code.proofs.Walking.{begun}

-- ---- entries that aren't diverted

-- no entry is diverted where no mark stands, or where no diversion is allowed
calm : (quiet late marked allowed : Bool) → marked && allowed ≡ false
    → not quiet && (late && (marked && allowed)) ≡ false
calm true late marked allowed free = refl
calm false true marked allowed free = free
calm false false marked allowed free = refl

module _ (heartbeat : ℕ) where
  -- such an entry of a task whose beat isn't quiet only moves it
  pub entry_moves : (allowed : Bool) (l handler : ℕ) (state : State)
      → state.beat.quiet ≡ false → has_mark state.stack && allowed ≡ false
      → entered_ready heartbeat allowed l handler state
      ≡ Goes (with_beat (at_block l state) state.beat)
  entry_moves allowed l handler state speaks free =
      let marked = has_mark state.stack in
      let late = nat_le heartbeat state.beat.count in
      let stays : is_diverted heartbeat marked allowed state.beat ≡ false =
      calm state.beat.quiet late marked allowed free in
      let beat : entered heartbeat marked allowed state.beat ≡ state.beat =
      ap
      (λ q.
      cond q (record state.beat { quiet = false })
      (cond (is_diverted heartbeat marked allowed state.beat) begun state.beat))
      speaks
      ∙ ap (λ d. cond d begun state.beat) stays in
      ap (λ d. picked state l handler d (entered heartbeat marked allowed state.beat)) stays
      ∙ ap (λ b. Goes (with_beat (at_block l state) b)) beat

  -- an entry of a task whose beat is late, while a mark stands, is diverted
  pub entry_beats : (l handler : ℕ) (state : State)
      → state.beat.quiet ≡ false → has_mark state.stack ≡ true
      → nat_le heartbeat state.beat.count ≡ true
      → entered_ready heartbeat true l handler state
      ≡ Beats (with_beat (with_register (at_block handler state) 30 (word.Label l)) begun)
  entry_beats l handler state speaks marked late =
      let mark = has_mark state.stack in
      let goes_off : is_diverted heartbeat mark true state.beat ≡ true =
      ap (λ q. not q && (nat_le heartbeat state.beat.count && (mark && true))) speaks
      ∙ ap (λ t. t && (mark && true)) late ∙ ap (λ m. m && true) marked in
      let beat : entered heartbeat mark true state.beat ≡ begun =
      ap
      (λ q.
      cond q (record state.beat { quiet = false })
      (cond (is_diverted heartbeat mark true state.beat) begun state.beat))
      speaks
      ∙ ap (λ d. cond d begun state.beat) goes_off in
      ap (λ d. picked state l handler d (entered heartbeat mark true state.beat)) goes_off
      ∙ ap (picked state l handler true) beat

-- ---- what a bound task is bound to later

-- whether a test holds of the task that a step goes on to, if any
abbrev all_on : Step → (State → Bool) → Bool
all_on (Goes after) test = test after
all_on (Beats after) test = true
all_on (Ends e) test = true
all_on (Asks waits) test = true
all_on (Forks parts) test = true
all_on (Stuck fault) test = true
all_on Strays test = true

module _ (code : Listing) (heartbeat : ℕ) where
  -- bound to an ending, for no least number of points
  abbrev pub Binds : Bool → State → Ending → Type 0
  Binds due state e = Bound code heartbeat due 0 state e

  binds : (due : Bool) (state : State) (e : Ending) → Somehow code heartbeat due state e
      → Binds due state e
  binds due state e some = no_least code heartbeat due some.least state e some.bound

  pub after_step : (due : Bool) (state after : State) (e : Ending)
      → step code heartbeat true state ≡ Goes after → Binds due state e → Binds due after e
  after_step due state after e is bound =
      binds due after e (subst (By_step code heartbeat due state e) is
      (by_step code heartbeat due 0 state e bound))

  pub after_steps : (n : ℕ) (due : Bool) (state last : State) (e : Ending)
      → steps code heartbeat n state ≡ Goes last → Binds due state e → Binds due last e
  unfolding steps
  after_steps zero due state last e is bound = subst (λ s. Binds due s e) (ap (after_or last) is) bound
  after_steps (suc n) due state last e is bound =
      first (step code heartbeat true state) refl is
      (λ after more. after_steps n due after last e more)
    where
      first : (one : Step) → step code heartbeat true state ≡ one
          → on_goes one (λ after. steps code heartbeat n after) ≡ Goes last
          → ((after : State) → steps code heartbeat n after ≡ Goes last → Binds due after e
          → Binds due last e)
          → Binds due last e
      first (Goes after) one is more = more after is (after_step due state after e one bound)
      first (Beats after) one is more = strays_not is
      first (Ends other) one is more = strays_not is
      first (Asks waits) one is more = strays_not is
      first (Forks parts) one is more = strays_not is
      first (Stuck fault) one is more = strays_not is
      first Strays one is more = strays_not is

  same_after : (a b : State) → Goes a ≡ Goes b → a ≡ b
  same_after a b is = ap (after_or a) is

  -- behind an entry of a promotion-ready block, by a task whose beat isn't quiet and with a mark,
  -- both what isn't diverted and, where the beat is late, what is
  module _ (before state : State) (l handler : ℕ) (e : Ending)
      (enters : (allowed : Bool) →
      step code heartbeat allowed before ≡ entered_ready heartbeat allowed l handler state)
      (speaks : state.beat.quiet ≡ false) (marked : has_mark state.stack ≡ true)
      (bound : Binds false before e) where
    abbrev on : State
    on = with_beat (at_block l state) state.beat

    abbrev off : State
    off = with_beat (with_register (at_block handler state) 30 (word.Label l)) begun

    goes_on : step code heartbeat false before ≡ Goes on
    goes_on =
        enters false ∙ entry_moves heartbeat false l handler state speaks (ap (λ m. m && false) marked)

    pub entry_diverted : nat_le heartbeat state.beat.count ≡ true → Binds true off e
    entry_diverted late =
        let is = enters true ∙ entry_beats heartbeat l handler state speaks marked late in
        let both = (subst (By_step code heartbeat false before e) is
        (by_step code heartbeat false 0 before e bound)).1 in
        binds true off e both.diverted_owes

    late_on : nat_le heartbeat state.beat.count ≡ true → Binds false on e
    late_on late =
        let is = enters true ∙ entry_beats heartbeat l handler state speaks marked late in
        let both = (subst (By_step code heartbeat false before e) is
        (by_step code heartbeat false 0 before e bound)).1 in
        subst (λ s. Binds false s e) (same_after both.after on (sym both.goes ∙ goes_on))
        (binds false both.after e both.after_owes)

    early_on : nat_le heartbeat state.beat.count ≡ false → Binds false on e
    early_on early =
        let mark = has_mark state.stack in
        let stays : is_diverted heartbeat mark true state.beat ≡ false =
        ap (λ t. not state.beat.quiet && (t && (mark && true))) early ∙ quietly state.beat.quiet in
        let beat : entered heartbeat mark true state.beat ≡ state.beat =
        ap
        (λ q.
        cond q (record state.beat { quiet = false })
        (cond (is_diverted heartbeat mark true state.beat) begun state.beat))
        speaks
        ∙ ap (λ d. cond d begun state.beat) stays in
        after_step false before on e
        (enters true
        ∙ ap (λ d. picked state l handler d (entered heartbeat mark true state.beat)) stays
        ∙ ap (λ b. Goes (with_beat (at_block l state) b)) beat)
        bound
      where
        quietly : (q : Bool) → not q && false ≡ false
        quietly true = refl
        quietly false = refl

    pub entry_on : Binds false on e
    entry_on = ⊎_elim late_on early_on (cases_Bool (nat_le heartbeat state.beat.count))

  -- ---- how many promotion points are entered

  -- a task is bound to no more than none
  abbrev pub Pointless : State → Type 0
  Pointless state = (n : ℕ) (e : Ending) → Bound code heartbeat false n state e → n ≡ 0

  no_goes : {A : Type 0} {one : Step} {after : State} → goes one ≡ false → one ≡ Goes after → A
  no_goes not_on is = absurd (true≢false (sym (ap goes is) ∙ not_on))

  pub pointless_end : (state : State) (last : Ending) → step code heartbeat true state ≡ Ends last
      → Pointless state
  pointless_end state last is n e (owes.ends _ _ _) = refl
  pointless_end state last is n e (owes.goes _ _ m _ after _ few is_on bound) =
      no_goes (ap goes is) is_on
  pointless_end state last is n e (owes.beats _ m _ after diverted _ few is_on beats bound other) =
      no_ends (ap ends_run (sym beats ∙ is))
    where
      ends_run : Step → Bool
      ends_run (Ends e) = true
      ends_run (Goes s) = false
      ends_run (Beats s) = false
      ends_run (Asks s) = false
      ends_run (Forks p) = false
      ends_run (Stuck f) = false
      ends_run Strays = false

      no_ends : {A : Type 0} → false ≡ true → A
      no_ends e = absurd (true≢false (sym e))
  pointless_end state last is n e (owes.forks _ _ _ _ _ _ _ _ _) = refl
  pointless_end state last is n e (owes.forks_on _ _ _ _ _ _ _ _ _ _ _) = refl

  pub pointless_before : (state after : State) → step code heartbeat true state ≡ Goes after
      → points code after ≡ 0 → Pointless after → Pointless state
  pointless_before state after is none rest n e (owes.ends _ _ _) = refl
  pointless_before state after is none rest n e (owes.goes _ _ m _ other _ few is_on bound) =
      let same = same_after other after (sym is_on ∙ is) in
      let low = rest m e (subst (λ s. Bound code heartbeat false m s e) same bound) in
      let point : points code other ≡ 0 = ap (points code) same ∙ none in
      omega (arith, few, low, point)
  pointless_before state after is none rest n e (owes.beats _ m _ other diverted _ few is_on beats bound cut) =
      no_goes (ap goes beats) is
  pointless_before state after is none rest n e (owes.forks _ _ _ _ _ _ _ _ _) = refl
  pointless_before state after is none rest n e (owes.forks_on _ _ _ _ _ _ _ _ _ _ _) = refl

  -- whether none of so many steps enters a promotion point
  unfoldable pub no_points : ℕ → State → Bool
  no_points zero state = true
  no_points (suc n) state =
      all_on (step code heartbeat true state) (λ after.
      eqb (points code after) 0 && no_points n after)

  pub pointless_steps : (n : ℕ) (state last : State) → steps code heartbeat n state ≡ Goes last
      → no_points n state ≡ true → Pointless last → Pointless state
  unfolding steps no_points
  pointless_steps zero state last is none rest =
      subst Pointless (sym (same_after state last is)) rest
  pointless_steps (suc n) state last is none rest =
      first (step code heartbeat true state) refl is none
      (λ after more clear. pointless_steps n after last more clear rest)
    where
      first : (one : Step) → step code heartbeat true state ≡ one
          → on_goes one (λ after. steps code heartbeat n after) ≡ Goes last
          → all_on one (λ after. eqb (points code after) 0 && no_points n after) ≡ true
          → ((after : State) → steps code heartbeat n after ≡ Goes last
          → no_points n after ≡ true → Pointless after)
          → Pointless state
      first (Goes after) one is none more =
          let parts = and_parts (eqb (points code after) 0) (no_points n after) none in
          pointless_before state after one (eqb-true (points code after) 0 parts.0)
          (more after is parts.1)
      first (Beats after) one is none more = strays_not is
      first (Ends other) one is none more = strays_not is
      first (Asks waits) one is none more = strays_not is
      first (Forks parts) one is none more = strays_not is
      first (Stuck fault) one is none more = strays_not is
      first Strays one is none more = strays_not is
