use Rattle.std.proofs.Common.{◌≡◌, ◌*◌, sym, subst}
use Rattle.slices.specs.Stored.{stored, IsSound}
use Rattle.slices.proofs.Cuts.{apart_less}
use Rattle.slices.proofs.table.Held.own.Goals as goal

pub invariant_of-self-2 : goal.invariant_of-self-2
invariant_of-self-2 c =
    let n = c.self.inside.rows * c.self.inside.cols in
    let end : c.end-end.result ≡ n = rw (← c.self.view_is) at c.end-end.ensures in
    let sound : IsSound c.end-end.result c.own.new.self = c.own.ensures.sound (subst (λ m. IsSound m c.self.inside.store) (sym end) c.self.invariant.sound) in
    record { apart = apart_less n (stored c.self.inside.store) (stored c.own.new.self) c.own.ensures.reaching c.self.invariant.apart; sound = subst (λ m. IsSound m c.own.new.self) end sound }
