-- The order is antisymmetric, so what flows may be joined in any order.
use Rattle.std.proofs.Common.{◌≡◌, ℕ, List, [], ◌∷◌, Option, Some, None, refl, sym, ap, ◌∙◌}
use Rattle.std.proofs.lemmas.Bool.{false≢true}
use Rattle.std.specs.Prelude.{Bool, true, false}
use Rattle.tpal_verify.specs.declared.kinds.Kind.{Kind}
use Rattle.tpal_verify.specs.declared.kinds.Kind.TheVariants.{Number, Empty, Own, Up, Pend, Met, Back, Any}
use Rattle.tpal_verify.specs.declared.kinds.EndFact.{EndFact}
use Rattle.tpal_verify.specs.declared.kinds.EndFact.TheVariants.{Root, Side, Either}
use Rattle.tpal_verify.specs.declared.kinds.MarkFact.{MarkFact}
use Rattle.tpal_verify.specs.declared.kinds.MarkFact.TheVariants.{Marked, Clear, Maybe}
use Rattle.tpal_verify.specs.Kinds.{kind_below, end_below, mark_below, grant_below, met_below}
use Rattle.tpal_verify.specs.Shapes.{Shape, kinds_below}
use Rattle.tpal_verify.specs.Walk.{Flow}
use Rattle.tpal_verify.specs.Rounds.{Shapes, with_flows, holds_all}
use Rattle.tpal_verify.proofs.Order.{KindBelow, same, to_any, own_up, nil_up, is_below, KindsBelow, kinds_of, met_some}
use Rattle.tpal_verify.proofs.ShapeOrder.{Below}
use Rattle.tpal_verify.proofs.Kept.{made}
use Rattle.tpal_verify.proofs.Assigned.{ShapeBelow, AllBelow, flows_below, flows_grow}

any_is : (e : EndFact) (k : Kind) → kind_below e Any k ≡ true → Any ≡ k
any_is e Any q = refl
any_is e Number q = absurd (false≢true q)
any_is e Empty q = absurd (false≢true q)
any_is e Own q = absurd (false≢true q)
any_is e Up q = absurd (false≢true q)
any_is e Pend q = absurd (false≢true q)
any_is e Met q = absurd (false≢true q)
any_is e (Back h) q = absurd (false≢true q)

kind_both : (e f : EndFact) (a b : Kind) → KindBelow e a b → KindBelow f b a → a ≡ b
kind_both e f _ _ (same k) y = refl
kind_both e f _ _ (to_any k) y = sym (any_is f k (is_below f Any k y))
kind_both e f _ _ own_up y = absurd (false≢true (is_below f Up Own y))
kind_both e f _ _ (nil_up q) y = absurd (false≢true (is_below f Up Empty y))

kinds_both : (e f : EndFact) (xs ys : List Kind) → KindsBelow e xs ys → KindsBelow f ys xs → xs ≡ ys
kinds_both e f [] [] v w = refl
kinds_both e f [] (y ∷ ys) v w = absurd v
kinds_both e f (x ∷ xs) [] v w = absurd w
kinds_both e f (x ∷ xs) (y ∷ ys) v w =
    ap (λ k. k ∷ xs) (kind_both e f x y v.0 w.0) ∙ ap (λ ks. y ∷ ks) (kinds_both e f xs ys v.1 w.1)

-- lists of which each is below the other are the same
pub same_kinds : (xs ys : List Kind) → kinds_below Either xs ys ≡ true → kinds_below Either ys xs ≡ true → xs ≡ ys
same_kinds xs ys p q = kinds_both Either Either xs ys (kinds_of Either xs ys p) (kinds_of Either ys xs q)

end_both : (e f : EndFact) → end_below e f ≡ true → end_below f e ≡ true → e ≡ f
end_both Root Root p q = refl
end_both Side Side p q = refl
end_both Either Either p q = refl
end_both Root Side p q = absurd (false≢true p)
end_both Side Root p q = absurd (false≢true p)
end_both Root Either p q = absurd (false≢true q)
end_both Side Either p q = absurd (false≢true q)
end_both Either Root p q = absurd (false≢true p)
end_both Either Side p q = absurd (false≢true p)

mark_both : (m n : MarkFact) → mark_below m n ≡ true → mark_below n m ≡ true → m ≡ n
mark_both Marked Marked p q = refl
mark_both Clear Clear p q = refl
mark_both Maybe Maybe p q = refl
mark_both Marked Clear p q = absurd (false≢true p)
mark_both Clear Marked p q = absurd (false≢true p)
mark_both Marked Maybe p q = absurd (false≢true q)
mark_both Clear Maybe p q = absurd (false≢true q)
mark_both Maybe Marked p q = absurd (false≢true p)
mark_both Maybe Clear p q = absurd (false≢true p)

grant_both : (g h : Bool) → grant_below g h ≡ true → grant_below h g ≡ true → g ≡ h
grant_both true true p q = refl
grant_both false false p q = refl
grant_both true false p q = absurd (false≢true q)
grant_both false true p q = absurd (false≢true p)

met_both : (m n : Option ℕ) → met_below m n ≡ true → met_below n m ≡ true → m ≡ n
met_both None None p q = refl
met_both None (Some b) p q = absurd (false≢true p)
met_both (Some a) None p q = absurd (false≢true q)
met_both (Some a) (Some b) p q = met_some (Some a) b p

shape_both : (s t : Shape) → Below s t → Below t s → s ≡ t
shape_both s t v w =
    ap (λ x. made x s.cells s.at_end s.mark s.granted s.met) (kinds_both s.at_end t.at_end s.registers t.registers v.registers w.registers)
    ∙ (ap (λ x. made t.registers x s.at_end s.mark s.granted s.met) (kinds_both s.at_end t.at_end s.cells t.cells v.cells w.cells)
    ∙ (ap (λ x. made t.registers t.cells x s.mark s.granted s.met) (end_both s.at_end t.at_end v.at_end w.at_end)
    ∙ (ap (λ x. made t.registers t.cells t.at_end x s.granted s.met) (mark_both s.mark t.mark v.mark w.mark)
    ∙ (ap (λ x. made t.registers t.cells t.at_end t.mark x s.met) (grant_both s.granted t.granted v.granted w.granted)
    ∙ ap (λ x. made t.registers t.cells t.at_end t.mark t.granted x) (met_both s.met t.met v.met w.met)))))

option_both : (a b : Option Shape) → ShapeBelow a b → ShapeBelow b a → a ≡ b
option_both None None v w = refl
option_both None (Some t) v w = absurd w
option_both (Some s) None v w = absurd v
option_both (Some s) (Some t) v w = ap (λ x. Some x) (shape_both s t v w)

pub all_both : (xs ys : Shapes) → AllBelow xs ys → AllBelow ys xs → xs ≡ ys
all_both [] [] v w = refl
all_both [] (b ∷ ys) v w = absurd v
all_both (a ∷ xs) [] v w = absurd w
all_both (a ∷ xs) (b ∷ ys) v w = ap (λ x. x ∷ xs) (option_both a b v.0 w.0) ∙ ap (λ zs. b ∷ zs) (all_both xs ys v.1 w.1)

-- Flows that hold each other come to the same.
pub same_flows : (xs : Shapes) (fs gs : List Flow) → holds_all (with_flows xs gs) fs ≡ true → holds_all (with_flows xs fs) gs ≡ true → with_flows xs fs ≡ with_flows xs gs
same_flows xs fs gs p q =
    all_both (with_flows xs fs) (with_flows xs gs) (flows_below xs (with_flows xs gs) fs (flows_grow xs gs) p) (flows_below xs (with_flows xs fs) gs (flows_grow xs fs) q)
