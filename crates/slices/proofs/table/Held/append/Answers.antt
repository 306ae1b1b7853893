use Rattle.std.proofs.Common.{◌≡◌, ◌*◌, ◌∙◌, sym, subst}
use Rattle.std.specs.Prelude.{IsSome}
use Rattle.slices.specs.Spans.{AreApart}
use Rattle.slices.specs.Stored.{store_at, is_owned, stored, IsSound}
use Rattle.slices.specs.Holding.{SameSize, CommonCell}
use Rattle.slices.proofs.Seen.{seen, opened_view, seen_size, seen_same, common_seen, none_common}
use Rattle.slices.proofs.Seen.{reached_inside, apart_sum, same_size, no_common, joined_holdings}
use Rattle.slices.proofs.table.Held.append.Goals as goal

pub returns-then-overlaps-clause-cause : goal.returns-then-overlaps-clause-cause
returns-then-overlaps-clause-cause c =
    let s = c.self.inside in
    let u = c.upper.inside in
    let m = c.if-overlaps.ensures.yes in
    let mine : IsSome (store_at c.open.new.self m.0) = subst IsSome (c.pieces.ensures.cells m.0).0 m.1 in
    let theirs : IsSome (store_at c.open-2.new.self m.0) = subst IsSome (c.pieces-2.ensures.cells m.0).0 m.2 in
    let common : CommonCell (seen s.rows s.cols (store_at c.open.new.self) (is_owned c.open.new.self)) (seen s.rows s.cols (store_at c.open-2.new.self) (is_owned c.open-2.new.self)) =
    common_seen s.rows s.cols (store_at c.open.new.self) (store_at c.open-2.new.self) (is_owned c.open.new.self) (is_owned c.open-2.new.self) m.0 (reached_inside (s.rows * s.cols) m.0 (stored c.open.new.self) (subst (AreApart (c.self.inside.rows * c.self.inside.cols)) (sym c.open.ensures.spans) c.self.invariant.apart) mine) mine theirs in
    let sized = seen_size s.rows u.rows s.cols u.cols (store_at c.open-2.new.self) (is_owned c.open-2.new.self) c.if-self-upper.false c.if-self-upper-2.false ∙ (opened_view _ _ c.upper.inside.store c.open-2.new.self _ c.open-2.ensures.spans c.open-2.ensures.owned c.upper.view_is) in
    let same : SameSize (seen s.rows s.cols (store_at c.open.new.self) (is_owned c.open.new.self)) (seen u.rows u.cols (store_at c.open-2.new.self) (is_owned c.open-2.new.self)) = (c.if-self-upper.false, c.if-self-upper-2.false) in (
      subst (λ h. SameSize h c.args.upper) (opened_view _ _ c.self.inside.store c.open.new.self _ c.open.ensures.spans c.open.ensures.owned c.self.view_is) (subst (λ h. SameSize (seen s.rows s.cols (store_at c.open.new.self) (is_owned c.open.new.self)) h) (opened_view _ _ c.upper.inside.store c.open-2.new.self _ c.open-2.ensures.spans c.open-2.ensures.owned c.upper.view_is) same),
      subst (λ h. CommonCell h c.args.upper) (opened_view _ _ c.self.inside.store c.open.new.self _ c.open.ensures.spans c.open.ensures.owned c.self.view_is) (subst (λ h. CommonCell (seen s.rows s.cols (store_at c.open.new.self) (is_owned c.open.new.self)) h) sized common),
    )

pub take_in-requires-clause-none_common : goal.take_in-requires-clause-none_common
take_in-requires-clause-none_common c = λ i.
    let s = c.self.inside in
    let u = c.upper.inside in
    let size : u.rows * u.cols ≡ s.rows * s.cols = λ j. sym c.if-self-upper.false j * sym c.if-self-upper-2.false j in
    none_common (s.rows * s.cols) i (stored c.open.new.self) (stored c.open-2.new.self) (subst (AreApart (c.self.inside.rows * c.self.inside.cols)) (sym c.open.ensures.spans) c.self.invariant.apart) (subst (λ n. AreApart n (stored c.open-2.new.self)) size (subst (AreApart (c.upper.inside.rows * c.upper.inside.cols)) (sym c.open-2.ensures.spans) c.upper.invariant.apart))
    (λ t. sym (c.pieces.ensures.cells i).0 ∙ c.if-overlaps.ensures.no i (subst IsSome (sym (c.pieces-2.ensures.cells i).0) t))

pub returns-in-Err-clause-cause : goal.returns-in-Err-clause-cause
returns-in-Err-clause-cause c = (
  same_size c.self.inside.rows c.self.inside.cols c.upper.inside.rows c.upper.inside.cols (store_at c.open.new.self) (store_at c.open-2.new.self) (is_owned c.open.new.self) (is_owned c.open-2.new.self) c.args.self.now c.args.upper c.if-self-upper.false c.if-self-upper-2.false (opened_view _ _ c.self.inside.store c.open.new.self _ c.open.ensures.spans c.open.ensures.owned c.self.view_is) (opened_view _ _ c.upper.inside.store c.open-2.new.self _ c.open-2.ensures.spans c.open-2.ensures.owned c.upper.view_is),
  no_common c.self.inside.rows c.self.inside.cols c.upper.inside.rows c.upper.inside.cols (store_at c.open.new.self) (store_at c.open-2.new.self) (is_owned c.open.new.self) (is_owned c.open-2.new.self) c.args.self.now c.args.upper c.if-self-upper.false c.if-self-upper-2.false (opened_view _ _ c.self.inside.store c.open.new.self _ c.open.ensures.spans c.open.ensures.owned c.self.view_is) (opened_view _ _ c.upper.inside.store c.open-2.new.self _ c.open-2.ensures.spans c.open-2.ensures.owned c.upper.view_is)
      (λ i t. sym (c.pieces.ensures.cells i).0 ∙ c.if-overlaps.ensures.no i (subst IsSome (sym (c.pieces-2.ensures.cells i).0) t)),
)

pub returns-in-Err-clause-err : goal.returns-in-Err-clause-err
returns-in-Err-clause-err c =
    seen_same c.self.inside.rows c.self.inside.cols (store_at c.open.new.self) (store_at c.take_in.new.self) (is_owned c.open.new.self) (is_owned c.take_in.new.self) c.in-Err.ensures.err.cells c.in-Err.ensures.err.owned ∙ (opened_view _ _ c.self.inside.store c.open.new.self _ c.open.ensures.spans c.open.ensures.owned c.self.view_is)

pub invariant_of-self-2 : goal.invariant_of-self-2
invariant_of-self-2 c =
    let s = c.self.inside in
    let u = c.upper.inside in
    let size : u.rows * u.cols ≡ s.rows * s.cols = λ j. sym c.if-self-upper.false j * sym c.if-self-upper-2.false j in
    let theirs : AreApart (s.rows * s.cols) (stored c.open-2.new.self) = subst (λ n. AreApart n (stored c.open-2.new.self)) size (subst (AreApart (c.upper.inside.rows * c.upper.inside.cols)) (sym c.open-2.ensures.spans) c.upper.invariant.apart) in
    let apart : AreApart (s.rows * s.cols) (stored c.take_in.new.self) = apart_sum (s.rows * s.cols) (stored c.open.new.self) (stored c.open-2.new.self) (stored c.take_in.new.self) (subst (AreApart (c.self.inside.rows * c.self.inside.cols)) (sym c.open.ensures.spans) c.self.invariant.apart) theirs
    (λ i. none_common (s.rows * s.cols) i (stored c.open.new.self) (stored c.open-2.new.self) (subst (AreApart (c.self.inside.rows * c.self.inside.cols)) (sym c.open.ensures.spans) c.self.invariant.apart) theirs
    (λ t. sym (c.pieces.ensures.cells i).0 ∙ c.if-overlaps.ensures.no i (subst IsSome (sym (c.pieces-2.ensures.cells i).0) t)))
    c.in_default.ensures.reaching in
    let end : c.end-end.result ≡ s.rows * s.cols = rw (← c.self.view_is) at c.end-end.ensures in
    record { apart = subst (AreApart (s.rows * s.cols)) (sym c.close.ensures.spans) apart; sound = subst (λ n. IsSound n c.close.new.self) end c.close.ensures.sound }

pub returns-clause-joined : goal.returns-clause-joined
returns-clause-joined c =
    opened_view _ _ c.take_in.new.self c.close.new.self _ c.close.ensures.spans c.close.ensures.owned (joined_holdings c.self.inside.rows c.self.inside.cols c.upper.inside.rows c.upper.inside.cols (store_at c.open.new.self) (store_at c.open-2.new.self) (store_at c.take_in.new.self) (is_owned c.open.new.self) (is_owned c.open-2.new.self) (is_owned c.take_in.new.self) c.args.self.now c.args.upper c.if-self-upper.false c.if-self-upper-2.false (opened_view _ _ c.self.inside.store c.open.new.self _ c.open.ensures.spans c.open.ensures.owned c.self.view_is) (opened_view _ _ c.upper.inside.store c.open-2.new.self _ c.open-2.ensures.spans c.open-2.ensures.owned c.upper.view_is) c.in_default.ensures.cells c.in_default.ensures.owned)

pub returns-clause-apart : goal.returns-clause-apart
returns-clause-apart c = (
  same_size c.self.inside.rows c.self.inside.cols c.upper.inside.rows c.upper.inside.cols (store_at c.open.new.self) (store_at c.open-2.new.self) (is_owned c.open.new.self) (is_owned c.open-2.new.self) c.args.self.now c.args.upper c.if-self-upper.false c.if-self-upper-2.false (opened_view _ _ c.self.inside.store c.open.new.self _ c.open.ensures.spans c.open.ensures.owned c.self.view_is) (opened_view _ _ c.upper.inside.store c.open-2.new.self _ c.open-2.ensures.spans c.open-2.ensures.owned c.upper.view_is),
  no_common c.self.inside.rows c.self.inside.cols c.upper.inside.rows c.upper.inside.cols (store_at c.open.new.self) (store_at c.open-2.new.self) (is_owned c.open.new.self) (is_owned c.open-2.new.self) c.args.self.now c.args.upper c.if-self-upper.false c.if-self-upper-2.false (opened_view _ _ c.self.inside.store c.open.new.self _ c.open.ensures.spans c.open.ensures.owned c.self.view_is) (opened_view _ _ c.upper.inside.store c.open-2.new.self _ c.open-2.ensures.spans c.open-2.ensures.owned c.upper.view_is)
      (λ i t. sym (c.pieces.ensures.cells i).0 ∙ c.if-overlaps.ensures.no i (subst IsSome (sym (c.pieces-2.ensures.cells i).0) t)),
)
