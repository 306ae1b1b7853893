use Rattle.std.proofs.Common.{◌∙◌, ap, sym, refl}
use Rattle.slices.specs.Pieces.{piece_at}
use Rattle.slices.specs.Stored.{store_at, is_open}
use Rattle.slices.specs.declared.store.Store.TheVariants.{Parted}
use Rattle.slices.specs.declared.store.Parts.TheVariants.{Shared}
use Rattle.slices.proofs.Seen.{full_same}
use Rattle.slices.proofs.Sound.{sound_there}
use Rattle.slices.proofs.store.Parts.is_full.Goals as goal

pub returns-in-Owned-clause-no : goal.returns-in-Owned-clause-no
returns-in-Owned-clause-no c = (full_same c.args.n c.args.n (piece_at c.in-Owned.pieces) (store_at (Parted c.args.self.now)) c.is_full.result refl (λ i. ap (λ p. store_at (Parted p) i) (sym c.in-Owned.is)) c.is_full.ensures.yes c.is_full.ensures.no).1

pub returns-in-Flat-clause-yes : goal.returns-in-Flat-clause-yes
returns-in-Flat-clause-yes c = λ i h. sound_there c.args.n (Parted c.args.self.now) i (ap (λ p. is_open (Parted p)) c.in-Shared.is ∙ ap (λ f. is_open (Parted (Shared c.in-Shared.shared f))) c.in-Flat.is) c.requires h

pub returns-in-Boxed-clause-yes : goal.returns-in-Boxed-clause-yes
returns-in-Boxed-clause-yes c = λ i h. sound_there c.args.n (Parted c.args.self.now) i (ap (λ p. is_open (Parted p)) c.in-Shared.is ∙ ap (λ f. is_open (Parted (Shared c.in-Shared.shared f))) c.in-Boxed.is) c.requires h

pub returns-in-Open-clause-no : goal.returns-in-Open-clause-no
returns-in-Open-clause-no c = (full_same c.args.n c.args.n (piece_at c.deref.result.now) (store_at (Parted c.args.self.now)) c.is_full-in-Open.result refl (λ i. ap (λ p. piece_at p i) c.deref.ensures ∙ ap (λ p. store_at (Parted p) i) (sym c.in-Shared.is)) c.is_full-in-Open.ensures.yes c.is_full-in-Open.ensures.no).1
