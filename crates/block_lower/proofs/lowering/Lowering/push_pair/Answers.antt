use Rattle.std.proofs.Common.{◌+◌, ◌<◌, ◌≤◌, [], length, ap, sym, subst, ◌∙◌, arith}
use Rattle.tpal_syntax.specs.declared.sites.CallSite.{CallSite}
use Rattle.tpal_syntax.specs.Listing.{Listing}
use Rattle.handler_gen.specs.Sites.{IsCallSite}
use Rattle.block_lower.proofs.Written.LoweredPairs.{pair_written, right_call_site}
use Rattle.block_lower.specs.declared.body.Body.{Body}
use Rattle.block_lower.specs.Conforming.{IsCallPlaced, blocks_of}
use Rattle.block_lower.specs.Writing.{next_label}
use Rattle.block_lower.proofs.Written.Placed.{known_still}
use Rattle.block_lower.proofs.lowering.Lowering.push_pair.Goals as goal

abbrev no_code : Listing
no_code = record { tables = []; blocks = [] }

pub overflow_add-last : goal.overflow_add-last
overflow_add-last c =
    let entry = ap (λ (q : CallSite). q.entry) (c.in_ok-site.ensures no_code []) in
    omega (arith, entry, c.next_label-label.ensures, c.requires.labels)

pub push_first-requires-clause-entry : goal.push_first-requires-clause-entry
push_first-requires-clause-entry c =
    let entry = ap (λ (q : CallSite). q.entry) (c.in_ok-site.ensures no_code []) in
    omega (arith, entry, c.next_label-label.ensures, c.requires.labels)

pub push_first-requires-clause-cells : goal.push_first-requires-clause-cells
push_first-requires-clause-cells c =
    sym (ap (λ (q : CallSite). q.cells) (c.in_ok-site.ensures no_code []))

pub child_end_label-requires : goal.child_end_label-requires
child_end_label-requires c =
    let at = ap (λ (q : CallSite). q.label) (c.in_ok-site.ensures no_code []) in
    omega (arith, at, c.next_label-label.ensures, c.requires.labels)

pub push_call_handler-requires-clause-site : goal.push_call_handler-requires-clause-site
push_call_handler-requires-clause-site c =
    subst IsCallSite (sym (c.in_ok-site.ensures no_code []))
    (right_call_site c.args.self.now.on no_code [] c.args.pair.count _ _ c.requires.room c.requires.few
    (omega (arith, c.next_label-label.ensures, c.requires.labels))
    (omega (arith, c.next_label-label.ensures, c.requires.labels)))

pub returns-clause-code : goal.returns-clause-code
returns-clause-code c =
    let on = c.args.self.now.on in
    let site = c.in_ok-site.site in
    let is = c.in_ok-site.ensures in
    let at = ap (λ (q : CallSite). q.label) (is no_code []) in
    let entry = ap (λ (q : CallSite). q.entry) (is no_code []) in
    let first = c.in_ok-push_first.ensures in
    let handler = c.in_ok-push_call_handler.ensures in
    let joined = c.in_ok-push_joined.ensures in
    let child = c.in_ok-push_second.ensures in
    let between = c.in_ok-push_between.ensures in
    let fit = c.in_ok-push_fitted.ensures in
    let again = c.in_ok-push_passed_call.ensures in
    let on_handler = handler.on ∙ first.on in
    let on_joined = joined.on ∙ on_handler in
    let on_child = child.on ∙ on_joined in
    let on_between = between.on ∙ on_child in
    let on_fit = fit.on ∙ on_between in
    pair_written on c.args.place c.args.pair.cell c.args.pair.count c.args.pair.first
    c.args.pair.second site
    c.args.self.now.out c.push_first.new.self.out c.push_call_handler.new.self.out
    c.push_joined.new.self.out c.push_second.new.self.out c.push_between.new.self.out
    c.push_fitted.new.self.out c.push_passed_call.new.self.out c.push_exit.new.self.out
    (rw c.next_label-label.ensures at is)
    (subst IsCallSite (sym (is no_code []))
    (right_call_site on no_code [] c.args.pair.count _ _ c.requires.room c.requires.few
    (omega (arith, c.next_label-label.ensures, c.requires.labels))
    (omega (arith, c.next_label-label.ensures, c.requires.labels))))
    first.code handler.code
    (rw on_handler at joined.code) joined.fresh
    (rw (c.child_end_label.ensures, on_joined) at child.code) child.fresh
    (rw on_child at between.pushed) fit.pushed (rw on_fit at again.code) again.fresh
    (rw (again.on ∙ on_fit) at c.in_ok-push_exit.ensures.pushed)
    (omega (arith, at, c.next_label-label.ensures, first.labels, ap length first.fresh.traps))
    (omega (
      arith,
      at,
      c.next_label-label.ensures,
      first.labels,
      handler.labels,
      ap length handler.code.fresh.traps,
    ))
    (omega (
      arith,
      entry,
      c.next_label-label.ensures,
      first.labels,
      handler.labels,
      joined.labels,
      ap length joined.fresh.traps,
    ))
    (omega (
      arith,
      entry,
      c.next_label-label.ensures,
      first.labels,
      handler.labels,
      joined.labels,
      child.labels,
      ap length child.fresh.traps,
    ))
    (omega (
      arith,
      entry,
      c.next_label-label.ensures,
      first.labels,
      handler.labels,
      joined.labels,
      child.labels,
      between.labels,
      fit.labels,
      again.labels,
      ap length again.fresh.traps,
    ))

pub returns-clause-fit : goal.returns-clause-fit
returns-clause-fit c = λ to_first first_size to_second second_size placed cell below before.
    let on = c.args.self.now.on in
    let site = c.in_ok-site.site in
    let is = c.in_ok-site.ensures in
    let at = ap (λ (q : CallSite). q.label) (is no_code []) in
    let entry = ap (λ (q : CallSite). q.entry) (is no_code []) in
    let right : IsCallSite site =
    subst IsCallSite (sym (is no_code []))
    (right_call_site on no_code [] c.args.pair.count _ _ c.requires.room c.requires.few
    (omega (arith, c.next_label-label.ensures, c.requires.labels))
    (omega (arith, c.next_label-label.ensures, c.requires.labels))) in
    let first = c.in_ok-push_first.ensures in
    let handler = c.in_ok-push_call_handler.ensures in
    let joined = c.in_ok-push_joined.ensures in
    let child = c.in_ok-push_second.ensures in
    let between = c.in_ok-push_between.ensures in
    let fit = c.in_ok-push_fitted.ensures in
    let again = c.in_ok-push_passed_call.ensures in
    let on_handler = handler.on ∙ first.on in
    let on_joined = joined.on ∙ on_handler in
    let on_fit = fit.on ∙ between.on ∙ child.on ∙ on_joined in
    let here = c.next_label-label.ensures in
    let end : next_label c.args.self.now.out + 12 ≤ blocks_of on =
    omega (
      arith,
      first.labels,
      handler.labels,
      joined.labels,
      child.labels,
      between.labels,
      fit.labels,
      again.labels,
      c.in_ok-push_exit.ensures.labels,
      below,
    ) in
    let around : IsCallPlaced on site = record {
      joined = omega (arith, at, here, end);
      entry = omega (arith, entry, here, end);
    } in
    let last : site.entry + 2 < blocks_of on = omega (arith, entry, here, end) in
    c.in_ok-push_exit.ensures.fit second_size
    (again.fit (known_still on c.push_fitted.new.self.on c.args.pair.second.label on_fit to_second)
    (known_still on c.push_fitted.new.self.on (site.entry + 2) on_fit last) second_size
    (fit.fit first_size second_size
    (between.fit right cell
    ((rw c.child_end_label.ensures at child.fit)
    (known_still on c.push_joined.new.self.on c.args.pair.second.label on_joined to_second)
    (known_still on c.push_joined.new.self.on (site.label + 5) on_joined
    (omega (arith, at, here, end)))
    second_size
    (joined.fit cell second_size
    (known_still on c.push_call_handler.new.self.on (site.entry + 2) on_handler last)
    (handler.fit (omega (arith, at, here, first.labels, ap length first.fresh.traps))
    (subst (λ (x : Body). IsCallPlaced x site) (sym first.on) around)
    (first.fit to_first placed right around (omega (arith, entry, here, end))
    (omega (arith, first.labels, end)) before)))))))
