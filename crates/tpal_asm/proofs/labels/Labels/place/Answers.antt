use Rattle.std.proofs.Common.{sym, ◌∙◌}
use Rattle.std.specs.Prelude.{bytes_eq}
use Rattle.std.specs.Map.{keys_of}
use Rattle.tpal_asm.proofs.Places.{place-keys, found_at, found_none, length-keys}
use Rattle.tpal_asm.proofs.labels.Labels.place.Goals as goal

pub returns-in-Some : goal.returns-in-Some
returns-in-Some c =
    let es = c.args.self.now.places.entries in
    let name = c.args.name.now in
    found_at (λ k. bytes_eq name k.now) (keys_of es) c.in-Some.place c.in-Some.ensures.index ∙ sym (place-keys name es)

pub returns-in-None : goal.returns-in-None
returns-in-None c =
    let es = c.args.self.now.places.entries in
    let name = c.args.name.now in
    c.len.ensures.len ∙ sym (length-keys es) ∙ found_none (λ k. bytes_eq name k.now) (keys_of es) c.in-None.ensures.index ∙ sym (place-keys name es)
