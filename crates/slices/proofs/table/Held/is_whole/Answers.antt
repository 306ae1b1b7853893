use Rattle.std.proofs.Common.{◌≡◌, ◌*◌, refl}
use Rattle.slices.specs.Stored.{store_at, is_owned}
use Rattle.slices.proofs.Seen.{whole_iff, full_same}
use Rattle.slices.proofs.table.Held.is_whole.Goals as goal

pub returns : goal.returns
returns c =
    let end : c.end.result ≡ c.self.inside.rows * c.self.inside.cols = rw (← c.self.view_is) at c.end.ensures in
    let full = full_same c.end.result (c.self.inside.rows * c.self.inside.cols) _ (store_at c.self.inside.store) c.is_full.result end (λ _. refl) c.is_full.ensures.yes c.is_full.ensures.no in
    rw (← c.self.view_is) (whole_iff c.self.inside.rows c.self.inside.cols (store_at c.self.inside.store) (is_owned c.self.inside.store) c.is_full.result full.0 full.1)
