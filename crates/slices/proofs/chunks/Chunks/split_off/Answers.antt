use Rattle.std.proofs.Common.{arith, subst, ◌≡◌, ◌-◌, ◌/◌, min, length}
use Rattle.slices.proofs.Places.{kept_between, given_between, LowerIs}
use Rattle.slices.proofs.chunks.Chunks.split_off.Goals as goal

pub returns-clause-kept : goal.returns-clause-kept
returns-clause-kept c = λ i.
    let e : c.min-index.result ≡ min (c.args.at / 256 - c.args.self.now.start / 256) (length c.args.self.now.list.items) = omega (arith, c.min-index.ensures, c.len.ensures) in
    rw (c.put_behind.ensures, c.in_ok-list.ensures.items, c.replace-end.ensures.after)
    (kept_between c.args.self.now.start c.args.at c.args.self.now.end i c.min-index.result c.args.self.now.list.items c.in_ok-lower.lower (omega (arith, c.if-at-self.false)) e
    (subst (λ xs. LowerIs xs c.min-index.result c.args.at c.in_ok-lower.lower) c.deref.ensures.value c.in_ok-lower.ensures))

pub returns-clause-given : goal.returns-clause-given
returns-clause-given c = λ i.
    let e : c.min-index.result ≡ min (c.args.at / 256 - c.args.self.now.start / 256) (length c.args.self.now.list.items) = omega (arith, c.min-index.ensures, c.len.ensures) in
    rw (c.replace-end.ensures.value, c.in_ok-list.ensures.tail)
    (given_between c.args.self.now.start c.args.at c.args.self.now.end i c.min-index.result c.args.self.now.list.items c.requires e)
