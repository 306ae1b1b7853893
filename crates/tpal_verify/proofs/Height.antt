-- A round that changes something lowers a number, so rounds end.
use Rattle.std.proofs.Common.{◌≡◌, ℕ, zero, suc, ◌+◌, ◌*◌, ◌≤◌, ◌<◌, List, [], ◌∷◌, Option, Some, None, refl, sym, subst, ◌∙◌, length, arith}
use Rattle.std.proofs.lemmas.Bool.{false≢true}
use Rattle.std.specs.Prelude.{Bool, true, false}
use Rattle.tpal_verify.specs.declared.kinds.Kind.{Kind}
use Rattle.tpal_verify.specs.declared.kinds.Kind.TheVariants.{Number, Empty, Own, Up, Pend, Met, Back, Any}
use Rattle.tpal_verify.specs.declared.kinds.EndFact.{EndFact}
use Rattle.tpal_verify.specs.declared.kinds.EndFact.TheVariants.{Root, Side, Either}
use Rattle.tpal_verify.specs.declared.kinds.MarkFact.{MarkFact}
use Rattle.tpal_verify.specs.declared.kinds.MarkFact.TheVariants.{Marked, Clear, Maybe}
use Rattle.tpal_verify.specs.Kinds.{end_below, mark_below, grant_below, met_below}
use Rattle.tpal_verify.specs.Shapes.{Shape}
use Rattle.tpal_verify.specs.Flat.{Ground}
use Rattle.tpal_verify.specs.Rounds.{Shapes, holds_all, flows_of, round, or_later, settled, start, height, least}
use Rattle.tpal_verify.proofs.Order.{KindBelow, same, to_any, own_up, nil_up, KindsBelow, met_same, met_some}
use Rattle.tpal_verify.proofs.ShapeOrder.{Below}
use Rattle.tpal_verify.proofs.Proper.{Proper}
use Rattle.tpal_verify.proofs.Assigned.{ShapeBelow, AllBelow, ShapeProper, AllProper, all_held_above, flows_grow, flows_held, round_proper, start_proper, start_length}

-- ---- how often a part of a shape may still change

abbrev rank : Kind → ℕ
rank Number = 1
rank Empty = 2
rank Own = 2
rank Up = 1
rank Pend = 1
rank Met = 1
rank (Back h) = 1
rank Any = 0

abbrev ranks : List Kind → ℕ
ranks [] = 0
ranks (k ∷ ks) = rank k + ranks ks

abbrev end_rank : EndFact → ℕ
end_rank Root = 1
end_rank Side = 1
end_rank Either = 0

abbrev mark_rank : MarkFact → ℕ
mark_rank Marked = 1
mark_rank Clear = 1
mark_rank Maybe = 0

abbrev grant_rank : Bool → ℕ
grant_rank true = 1
grant_rank false = 0

abbrev met_rank : Option ℕ → ℕ
met_rank (Some l) = 1
met_rank None = 0

abbrev facts : Shape → ℕ
facts s = end_rank s.at_end + mark_rank s.mark + grant_rank s.granted + met_rank s.met

abbrev room_in : Shape → ℕ
room_in s = ranks s.registers + ranks s.cells + facts s

-- of no shape, with so many cells, one more than the greatest
abbrev room_of : ℕ → Option Shape → ℕ
room_of n None = 2 * (31 + n) + 5
room_of n (Some s) = room_in s

abbrev room : ℕ → Shapes → ℕ
room n [] = 0
room n (a ∷ xs) = room_of n a + room n xs

-- ---- above there is no more room, and as much only where both are the same

rank_at_most : (k : Kind) → rank k ≤ 2
rank_at_most Number = omega arith
rank_at_most Empty = omega arith
rank_at_most Own = omega arith
rank_at_most Up = omega arith
rank_at_most Pend = omega arith
rank_at_most Met = omega arith
rank_at_most (Back h) = omega arith
rank_at_most Any = omega arith

kind_rank : (e : EndFact) (a b : Kind) → KindBelow e a b → rank b ≤ rank a
kind_rank e _ _ (same k) = omega arith
kind_rank e _ _ (to_any k) = omega arith
kind_rank e _ _ own_up = omega arith
kind_rank e _ _ (nil_up q) = omega arith

any_rank : (f : EndFact) (k : Kind) → rank k ≤ 0 → KindBelow f Any k
any_rank f Any q = same Any
any_rank f Number q = absurd (omega (arith, q))
any_rank f Empty q = absurd (omega (arith, q))
any_rank f Own q = absurd (omega (arith, q))
any_rank f Up q = absurd (omega (arith, q))
any_rank f Pend q = absurd (omega (arith, q))
any_rank f Met q = absurd (omega (arith, q))
any_rank f (Back h) q = absurd (omega (arith, q))

kind_back : (e f : EndFact) (a b : Kind) → KindBelow e a b → rank a ≤ rank b → KindBelow f b a
kind_back e f _ _ (same k) q = same k
kind_back e f _ _ (to_any k) q = any_rank f k q
kind_back e f _ _ own_up q = absurd (omega (arith, q))
kind_back e f _ _ (nil_up z) q = absurd (omega (arith, q))

ranks_below : (e : EndFact) (xs ys : List Kind) → KindsBelow e xs ys → ranks ys ≤ ranks xs
ranks_below e xs [] w = omega arith
ranks_below e [] (y ∷ ys) w = absurd w
ranks_below e (x ∷ xs) (y ∷ ys) w = omega (arith, kind_rank e x y w.0, ranks_below e xs ys w.1)

kinds_back : (e f : EndFact) (xs ys : List Kind) → length xs ≡ length ys → KindsBelow e xs ys → ranks xs ≤ ranks ys → KindsBelow f ys xs
kinds_back e f [] [] q w r = tt
kinds_back e f (x ∷ xs) [] q w r = absurd (omega (arith, q))
kinds_back e f [] (y ∷ ys) q w r = absurd w
kinds_back e f (x ∷ xs) (y ∷ ys) q w r =
    let a = kind_rank e x y w.0 in
    let b = ranks_below e xs ys w.1 in
    (kind_back e f x y w.0 (omega (arith, a, b, r)), kinds_back e f xs ys (omega (arith, q)) w.1 (omega (arith, a, b, r)))

end_rank_below : (e f : EndFact) → end_below e f ≡ true → end_rank f ≤ end_rank e
end_rank_below Root f q = by f
  where
    by : (g : EndFact) → end_rank g ≤ 1
    by Root = omega arith
    by Side = omega arith
    by Either = omega arith
end_rank_below Side f q = by f
  where
    by : (g : EndFact) → end_rank g ≤ 1
    by Root = omega arith
    by Side = omega arith
    by Either = omega arith
end_rank_below Either Root q = absurd (false≢true q)
end_rank_below Either Side q = absurd (false≢true q)
end_rank_below Either Either q = omega arith

end_back : (e f : EndFact) → end_below e f ≡ true → end_rank e ≤ end_rank f → end_below f e ≡ true
end_back Root Root q r = refl
end_back Side Side q r = refl
end_back Either Either q r = refl
end_back Root Side q r = q
end_back Side Root q r = q
end_back Either Root q r = refl
end_back Either Side q r = refl
end_back Root Either q r = absurd (omega (arith, r))
end_back Side Either q r = absurd (omega (arith, r))

mark_rank_below : (m o : MarkFact) → mark_below m o ≡ true → mark_rank o ≤ mark_rank m
mark_rank_below Marked Marked q = omega arith
mark_rank_below Marked Clear q = omega arith
mark_rank_below Marked Maybe q = omega arith
mark_rank_below Clear Marked q = omega arith
mark_rank_below Clear Clear q = omega arith
mark_rank_below Clear Maybe q = omega arith
mark_rank_below Maybe Marked q = absurd (false≢true q)
mark_rank_below Maybe Clear q = absurd (false≢true q)
mark_rank_below Maybe Maybe q = omega arith

mark_back : (m o : MarkFact) → mark_below m o ≡ true → mark_rank m ≤ mark_rank o → mark_below o m ≡ true
mark_back Marked Marked q r = refl
mark_back Clear Clear q r = refl
mark_back Maybe Maybe q r = refl
mark_back Marked Clear q r = q
mark_back Clear Marked q r = q
mark_back Maybe Marked q r = refl
mark_back Maybe Clear q r = refl
mark_back Marked Maybe q r = absurd (omega (arith, r))
mark_back Clear Maybe q r = absurd (omega (arith, r))

grant_rank_below : (g h : Bool) → grant_below g h ≡ true → grant_rank h ≤ grant_rank g
grant_rank_below true true q = omega arith
grant_rank_below true false q = omega arith
grant_rank_below false true q = absurd (false≢true q)
grant_rank_below false false q = omega arith

grant_back : (g h : Bool) → grant_below g h ≡ true → grant_rank g ≤ grant_rank h → grant_below h g ≡ true
grant_back true true q r = refl
grant_back true false q r = absurd (omega (arith, r))
grant_back false true q r = refl
grant_back false false q r = refl

met_rank_below : (m o : Option ℕ) → met_below m o ≡ true → met_rank o ≤ met_rank m
met_rank_below None None q = omega arith
met_rank_below None (Some b) q = absurd (false≢true q)
met_rank_below (Some a) None q = omega arith
met_rank_below (Some a) (Some b) q = omega arith

met_back : (m o : Option ℕ) → met_below m o ≡ true → met_rank m ≤ met_rank o → met_below o m ≡ true
met_back None None q r = refl
met_back None (Some b) q r = refl
met_back (Some a) None q r = absurd (omega (arith, r))
met_back (Some a) (Some b) q r = subst (λ x. met_below (Some b) x ≡ true) (sym (met_some (Some a) b q)) (met_same (Some b))

room_below : (s t : Shape) → Below s t → room_in t ≤ room_in s
room_below s t w =
    omega (arith, ranks_below s.at_end s.registers t.registers w.registers, ranks_below s.at_end s.cells t.cells w.cells, end_rank_below s.at_end t.at_end w.at_end, mark_rank_below s.mark t.mark w.mark, grant_rank_below s.granted t.granted w.granted, met_rank_below s.met t.met w.met)

shape_back : (n : ℕ) (s t : Shape) → Proper n s → Proper n t → Below s t → room_in s ≤ room_in t → Below t s
shape_back n s t u v w r =
    let a = ranks_below s.at_end s.registers t.registers w.registers in
    let b = ranks_below s.at_end s.cells t.cells w.cells in
    let c = end_rank_below s.at_end t.at_end w.at_end in
    let d = mark_rank_below s.mark t.mark w.mark in
    let e = grant_rank_below s.granted t.granted w.granted in
    let f = met_rank_below s.met t.met w.met in
    record {
      registers = kinds_back s.at_end t.at_end s.registers t.registers (u.all_registers ∙ sym v.all_registers) w.registers (omega (arith, a, b, c, d, e, f, r));
      cells = kinds_back s.at_end t.at_end s.cells t.cells (u.all_cells ∙ sym v.all_cells) w.cells (omega (arith, a, b, c, d, e, f, r));
      at_end = end_back s.at_end t.at_end w.at_end (omega (arith, a, b, c, d, e, f, r));
      mark = mark_back s.mark t.mark w.mark (omega (arith, a, b, c, d, e, f, r));
      granted = grant_back s.granted t.granted w.granted (omega (arith, a, b, c, d, e, f, r));
      met = met_back s.met t.met w.met (omega (arith, a, b, c, d, e, f, r));
    }

-- ---- the room of a shape is bounded

ranks_bound : (ks : List Kind) → ranks ks ≤ 2 * length ks
ranks_bound [] = omega arith
ranks_bound (k ∷ ks) = omega (arith, rank_at_most k, ranks_bound ks)

end_bound : (e : EndFact) → end_rank e ≤ 1
end_bound Root = omega arith
end_bound Side = omega arith
end_bound Either = omega arith

mark_bound : (m : MarkFact) → mark_rank m ≤ 1
mark_bound Marked = omega arith
mark_bound Clear = omega arith
mark_bound Maybe = omega arith

grant_bound : (g : Bool) → grant_rank g ≤ 1
grant_bound true = omega arith
grant_bound false = omega arith

met_bound : (m : Option ℕ) → met_rank m ≤ 1
met_bound None = omega arith
met_bound (Some l) = omega arith

room_bound : (n : ℕ) (s : Shape) → Proper n s → room_in s ≤ 2 * (31 + n) + 4
room_bound n s w =
    omega (arith, ranks_bound s.registers, ranks_bound s.cells, w.all_registers, w.all_cells, end_bound s.at_end, mark_bound s.mark, grant_bound s.granted, met_bound s.met)

-- ---- assignments

option_room : (n : ℕ) (a b : Option Shape) → ShapeProper n b → ShapeBelow a b → room_of n b ≤ room_of n a
option_room n None None v w = omega arith
option_room n None (Some t) v w = omega (arith, room_bound n t v)
option_room n (Some s) None v w = absurd w
option_room n (Some s) (Some t) v w = room_below s t w

option_back : (n : ℕ) (a b : Option Shape) → ShapeProper n a → ShapeProper n b → ShapeBelow a b → room_of n a ≤ room_of n b → ShapeBelow b a
option_back n None None u v w r = tt
option_back n None (Some t) u v w r = absurd (omega (arith, room_bound n t v, r))
option_back n (Some s) None u v w r = absurd w
option_back n (Some s) (Some t) u v w r = shape_back n s t u v w r

all_room : (n : ℕ) (xs ys : Shapes) → AllProper n ys → AllBelow xs ys → room n ys ≤ room n xs
all_room n [] [] v w = omega arith
all_room n [] (b ∷ ys) v w = absurd w
all_room n (a ∷ xs) [] v w = absurd w
all_room n (a ∷ xs) (b ∷ ys) v w = omega (arith, option_room n a b v.0 w.0, all_room n xs ys v.1 w.1)

all_back : (n : ℕ) (xs ys : Shapes) → AllProper n xs → AllProper n ys → AllBelow xs ys → room n xs ≤ room n ys → AllBelow ys xs
all_back n [] [] u v w r = tt
all_back n [] (b ∷ ys) u v w r = absurd w
all_back n (a ∷ xs) [] u v w r = absurd w
all_back n (a ∷ xs) (b ∷ ys) u v w r =
    let p = option_room n a b v.0 w.0 in
    let q = all_room n xs ys v.1 w.1 in
    (option_back n a b u.0 v.0 w.0 (omega (arith, p, q, r)), all_back n xs ys u.1 v.1 w.1 (omega (arith, p, q, r)))

all_bound : (n : ℕ) (xs : Shapes) → AllProper n xs → room n xs ≤ length xs * (2 * (31 + n) + 6)
all_bound n [] v = omega arith
all_bound n (None ∷ xs) v = let h = all_bound n xs v.1 in omega (arith, h)
all_bound n (Some s ∷ xs) v = let h = all_bound n xs v.1 in let b = room_bound n s v.0 in omega (arith, h, b)

-- ---- rounds end

module _ (n : ℕ) (whole : Ground) where
  -- a round that leaves as much room changes nothing
  round_back : (xs : Shapes) → AllProper n xs → room n xs ≤ room n (round whole xs) → holds_all xs (flows_of whole xs) ≡ true
  round_back xs v r =
      all_held_above (round whole xs) xs (flows_of whole xs)
      (all_back n xs (round whole xs) v (round_proper n whole xs v) (flows_grow xs (flows_of whole xs)) r) (flows_held xs (flows_of whole xs))

  round_room : (xs : Shapes) → AllProper n xs → room n (round whole xs) ≤ room n xs
  round_room xs v = all_room n xs (round whole xs) (round_proper n whole xs v) (flows_grow xs (flows_of whole xs))

  round_lowers : (xs : Shapes) → AllProper n xs → holds_all xs (flows_of whole xs) ≡ false → room n (round whole xs) < room n xs
  round_lowers xs v q =
      let no : room n xs ≤ room n (round whole xs) → ⊥ = λ le. false≢true (sym q ∙ round_back xs v le) in
      omega (arith, no)

  later_fixed : (b : Bool) (xs : Shapes) (later : Unit {0} → Shapes) → holds_all xs (flows_of whole xs) ≡ b → (b ≡ false → holds_all (later tt) (flows_of whole (later tt)) ≡ true) → holds_all (or_later b xs later) (flows_of whole (or_later b xs later)) ≡ true
  later_fixed true xs later q go = q
  later_fixed false xs later q go = go refl

  pub settled_fixed : (k : ℕ) (xs : Shapes) → AllProper n xs → room n xs ≤ k → holds_all (settled k whole xs) (flows_of whole (settled k whole xs)) ≡ true
  unfolding settled
  settled_fixed zero xs v r = round_back xs v (omega (arith, r))
  settled_fixed (suc k) xs v r =
      later_fixed (holds_all xs (flows_of whole xs)) xs (λ _. settled k whole (round whole xs)) refl
      (λ q. settled_fixed k (round whole xs) (round_proper n whole xs v) (let h = round_lowers xs v q in omega (arith, r, h)))

pub least_fixed : (whole : Ground) → holds_all (least whole) (flows_of whole (least whole)) ≡ true
least_fixed whole =
    settled_fixed whole.cells whole (height whole) (start whole) (start_proper whole)
    (subst (λ m. room whole.cells (start whole) ≤ m * (2 * (31 + whole.cells) + 6)) (start_length whole) (all_bound whole.cells (start whole) (start_proper whole)))
