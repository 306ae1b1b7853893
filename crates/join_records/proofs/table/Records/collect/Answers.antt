use Rattle.std.proofs.Common.{◌∙◌, ℕ, ◌+◌, ◌*◌, [], ◌∷◌, Some, None, refl, sym, ap, rules}
use Rattle.atomic_table.specs.Table.{rest, turned}
use Rattle.join_records.specs.declared.slot.Item.TheVariants.{Rest, Side}
use Rattle.join_records.specs.Views.{in_hand}
use Rattle.join_records.specs.declared.views.Grip.TheVariants.{Emptying, Emptied}
use Rattle.join_records.specs.Views.{read, with_hand, drop_record}
use Rattle.join_records.proofs.Functions.{dropped_twice}
use Rattle.join_records.proofs.Calls.{front, emptying_here}
use Rattle.join_records.proofs.Freeing.{gives_slots}
use Rattle.join_records.proofs.table.Records.collect.Goals as goal

pub exchange-rest-requires : goal.exchange-rest-requires
exchange-rest-requires g c = let sl = c.requires.slots in (c.requires.table.0, (Some (Rest sl.0), front _ _ _ sl.3))

pub exchange-other-requires : goal.exchange-other-requires
exchange-other-requires g c = let k : ℕ = c.args.k in let a : ℕ = c.args.a in let b : ℕ = c.args.b in let sl = c.requires.slots in
    let m1 = ap (λ m. m.1) c.exchange-rest.ensures.3 ∙ ap (λ l. (4 * k, None) ∷ rest l) sl.3 in let m2 = ap (λ m. m.1) c.turn.ensures.2 ∙ ap turned m1 in
    (c.turn.ensures.0 ∙ c.exchange-rest.ensures.0 ∙ c.requires.table.0, (Some (Side sl.1), front _ _ _ m2))

pub exchange-own-requires : goal.exchange-own-requires
exchange-own-requires g c = let k : ℕ = c.args.k in let a : ℕ = c.args.a in let b : ℕ = c.args.b in let sl = c.requires.slots in
    let m1 = ap (λ m. m.1) c.exchange-rest.ensures.3 ∙ ap (λ l. (4 * k, None) ∷ rest l) sl.3 in let m2 = ap (λ m. m.1) c.turn.ensures.2 ∙ ap turned m1 in
    let m3 = ap (λ m. m.1) c.exchange-other.ensures.3 ∙ ap (λ l. (a, None) ∷ rest l) m2 in let m4 = ap (λ m. m.1) c.turn-2.ensures.2 ∙ ap turned m3 in
    (c.turn-2.ensures.0 ∙ c.exchange-other.ensures.0 ∙ c.turn.ensures.0 ∙ c.exchange-rest.ensures.0 ∙ c.requires.table.0, (Some (Side sl.2), front _ _ _ m4))

pub load-requires : goal.load-requires
load-requires g c = let hand = c.requires.hand in let k : ℕ = c.args.k in let a : ℕ = c.args.a in let b : ℕ = c.args.b in let sl = c.requires.slots in
    let m1 = ap (λ m. m.1) c.exchange-rest.ensures.3 ∙ ap (λ l. (4 * k, None) ∷ rest l) sl.3 in let m2 = ap (λ m. m.1) c.turn.ensures.2 ∙ ap turned m1 in
    let m3 = ap (λ m. m.1) c.exchange-other.ensures.3 ∙ ap (λ l. (a, None) ∷ rest l) m2 in let m4 = ap (λ m. m.1) c.turn-2.ensures.2 ∙ ap turned m3 in
    let m5 = ap (λ m. m.1) c.exchange-own.ensures.3 ∙ ap (λ l. (b, None) ∷ rest l) m4 in let m6 = ap (λ m. m.1) c.turn-3.ensures.2 ∙ ap turned m5 in
    let seen = ap (λ m. m.0) c.turn-3.ensures.2 ∙ ap (λ m. m.0) c.exchange-own.ensures.3 ∙ ap (λ m. m.0) c.turn-2.ensures.2 ∙ ap (λ m. m.0) c.exchange-other.ensures.3 ∙ ap (λ m. m.0) c.turn.ensures.2 ∙ ap (λ m. m.0) c.exchange-rest.ensures.3 in
    (c.turn-3.ensures.0 ∙ c.exchange-own.ensures.0 ∙ c.turn-2.ensures.0 ∙ c.exchange-other.ensures.0 ∙ c.turn.ensures.0 ∙ c.exchange-rest.ensures.0 ∙ c.requires.table.0, search rules, gives_slots _ _ _ _ _ k a b hand.0 [] (λ z. c.requires.table.1 (sym (ap (λ v. v.parts) seen) ∙ z)) (search rules) (ap (λ v. in_hand v.hand k) seen ∙ emptying_here k hand.0 hand.1 _ hand.2) c.requires.places m6)

pub invariant_of-pass : goal.invariant_of-pass
invariant_of-pass g c = let was = c.args.pass.now.counted in
    let seen = ap (λ m. m.0) c.turn-3.ensures.2 ∙ ap (λ m. m.0) c.exchange-own.ensures.3 ∙ ap (λ m. m.0) c.turn-2.ensures.2 ∙ ap (λ m. m.0) c.exchange-other.ensures.3 ∙ ap (λ m. m.0) c.turn.ensures.2 ∙ ap (λ m. m.0) c.exchange-rest.ensures.3 in
    let k : ℕ = c.args.k in let hand = c.requires.hand in let last = (c.load.ensures.2 k hand.0 refl (ap (λ v. in_hand v.hand k) seen ∙ emptying_here k hand.0 hand.1 _ hand.2)).0 in
    record { counted = (was.0 ∙ sym (ap (λ v. v.opens) last ∙ ap (λ v. v.opens) seen), was.1, was.2 ∙ sym (ap (λ v. v.made) last ∙ ap (λ v. v.made) seen)) }

pub returns-clause-pass : goal.returns-clause-pass
returns-clause-pass g c = let hand = c.requires.hand in let k : ℕ = c.args.k in let a : ℕ = c.args.a in let b : ℕ = c.args.b in let sl = c.requires.slots in
    let m1 = ap (λ m. m.1) c.exchange-rest.ensures.3 ∙ ap (λ l. (4 * k, None) ∷ rest l) sl.3 in let m2 = ap (λ m. m.1) c.turn.ensures.2 ∙ ap turned m1 in
    let m3 = ap (λ m. m.1) c.exchange-other.ensures.3 ∙ ap (λ l. (a, None) ∷ rest l) m2 in let m4 = ap (λ m. m.1) c.turn-2.ensures.2 ∙ ap turned m3 in
    let m5 = ap (λ m. m.1) c.exchange-own.ensures.3 ∙ ap (λ l. (b, None) ∷ rest l) m4 in let m6 = ap (λ m. m.1) c.turn-3.ensures.2 ∙ ap turned m5 in
    let seen = ap (λ m. m.0) c.turn-3.ensures.2 ∙ ap (λ m. m.0) c.exchange-own.ensures.3 ∙ ap (λ m. m.0) c.turn-2.ensures.2 ∙ ap (λ m. m.0) c.exchange-other.ensures.3 ∙ ap (λ m. m.0) c.turn.ensures.2 ∙ ap (λ m. m.0) c.exchange-rest.ensures.3 in
    ((c.load.ensures.0 ∙ c.turn-3.ensures.0 ∙ c.exchange-own.ensures.0 ∙ c.turn-2.ensures.0 ∙ c.exchange-other.ensures.0 ∙ c.turn.ensures.0 ∙ c.exchange-rest.ensures.0, c.load.ensures.1 ∙ c.turn-3.ensures.1 ∙ c.exchange-own.ensures.1 ∙ c.turn-2.ensures.1 ∙ c.exchange-other.ensures.1 ∙ c.turn.ensures.1 ∙ c.exchange-rest.ensures.1), (c.load.ensures.2 k hand.0 refl (ap (λ v. in_hand v.hand k) seen ∙ emptying_here k hand.0 hand.1 _ hand.2)).1 ∙ ap (λ l. rest (rest (rest l))) m6)

pub returns-clause-seen : goal.returns-clause-seen
returns-clause-seen g c = let k : ℕ = c.args.k in let x : ℕ = c.load.result in
    let seen = ap (λ m. m.0) c.turn-3.ensures.2 ∙ ap (λ m. m.0) c.exchange-own.ensures.3 ∙ ap (λ m. m.0) c.turn-2.ensures.2 ∙ ap (λ m. m.0) c.exchange-other.ensures.3 ∙ ap (λ m. m.0) c.turn.ensures.2 ∙ ap (λ m. m.0) c.exchange-rest.ensures.3 in (
      x,
      λ up h is. (c.load.ensures.2 k up refl (ap (λ v. in_hand v.hand k) seen ∙ emptying_here k up h _ is)).0
          ∙ (ap (λ v. with_hand (read v (k + 1) x) ((k, Emptied up) ∷ drop_record k v.hand)) seen
          ∙ ap (λ l. with_hand (read c.args.pass.now.seat.me.0 (k + 1) x) ((k, Emptied up) ∷ l)) (ap (drop_record k) is ∙ dropped_twice k (Emptying up) h)),
    )
