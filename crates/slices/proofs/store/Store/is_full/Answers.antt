use Rattle.std.proofs.Common.{ap, sym, refl}
use Rattle.slices.specs.Stored.{store_at, is_open}
use Rattle.slices.specs.declared.store.Store.TheVariants.{Parted}
use Rattle.slices.proofs.Seen.{full_same}
use Rattle.slices.proofs.Sound.{sound_there}
use Rattle.slices.proofs.store.Store.is_full.Goals as goal

pub returns-in-Whole-clause-yes : goal.returns-in-Whole-clause-yes
returns-in-Whole-clause-yes c = λ i h. sound_there c.args.n c.args.self.now i (ap is_open c.in-Whole.is) c.requires h

pub returns-in-Boxed-clause-yes : goal.returns-in-Boxed-clause-yes
returns-in-Boxed-clause-yes c = λ i h. sound_there c.args.n c.args.self.now i (ap is_open c.in-Boxed.is) c.requires h

pub returns-in-Parted-clause-no : goal.returns-in-Parted-clause-no
returns-in-Parted-clause-no c = (full_same c.args.n c.args.n (store_at (Parted c.in-Parted.parts)) (store_at c.args.self.now) c.is_full.result refl (λ i. ap (λ s. store_at s i) (sym c.in-Parted.is)) c.is_full.ensures.yes c.is_full.ensures.no).1
