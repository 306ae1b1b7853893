-- What is held already changes nothing when it is joined in.
use Rattle.std.proofs.Common.{◌≡◌, ℕ, zero, suc, List, [], ◌∷◌, Option, Some, None, refl, sym, ap, subst, ◌∙◌}
use Rattle.std.proofs.lemmas.Bool.{false≢true}
use Rattle.std.specs.Prelude.{Bool, true, false, ◌&&◌, if◌then◌else◌, slice_get}
use Rattle.tpal_verify.specs.declared.kinds.Kind.{Kind}
use Rattle.tpal_verify.specs.declared.kinds.Kind.TheVariants.{Up, Any}
use Rattle.tpal_verify.specs.declared.kinds.EndFact.{EndFact}
use Rattle.tpal_verify.specs.declared.kinds.EndFact.TheVariants.{Either}
use Rattle.tpal_verify.specs.declared.kinds.MarkFact.{MarkFact}
use Rattle.tpal_verify.specs.declared.kinds.MarkFact.TheVariants.{Maybe}
use Rattle.tpal_verify.specs.Kinds.{kind_below, end_below, mark_below, grant_below, met_below, grant_joined}
use Rattle.tpal_verify.specs.Shapes.{Shape, joined, kinds_joined}
use Rattle.tpal_verify.specs.Walk.{Flow}
use Rattle.tpal_verify.specs.Rounds.{Shapes, with_flow, with_flows, holds_at, holds, holds_all, option_below, shapes_below}
use Rattle.tpal_verify.proofs.Order.{and_left, and_right, and_both, if_is, is_below, KindsBelow}
use Rattle.tpal_verify.proofs.ShapeOrder.{Below, shape_of, is_shape_below}
use Rattle.tpal_verify.proofs.Assigned.{ShapeBelow, AllBelow, set_at}

kinds_kept : (f e : EndFact) (ts ss : List Kind) → KindsBelow e ss ts → kinds_joined f e ts ss ≡ ts
kinds_kept f e [] ss w = refl
kinds_kept f e (t ∷ ts) [] w = absurd w
kinds_kept f e (t ∷ ts) (s ∷ ss) w =
    ap (λ k. k ∷ kinds_joined f e ts ss) (if_is (kind_below e s t) t (if kind_below f t s then s else (if kind_below f t Up && kind_below e s Up then Up else Any)) (λ x. x ≡ t) (is_below e s t w.0) refl)
    ∙ ap (λ ks. t ∷ ks) (kinds_kept f e ts ss w.1)

grant_kept : (g h : Bool) → grant_below h g ≡ true → grant_joined g h ≡ g
grant_kept true true q = refl
grant_kept true false q = absurd (false≢true q)
grant_kept false h q = refl

abbrev pub made : List Kind → List Kind → EndFact → MarkFact → Bool → Option ℕ → Shape
made r c e m g o = record { registers = r; cells = c; at_end = e; mark = m; granted = g; met = o }

pub shape_kept : (s t : Shape) → Below s t → joined t s ≡ t
shape_kept s t w =
    let r = kinds_kept t.at_end s.at_end t.registers s.registers w.registers in
    let c = kinds_kept t.at_end s.at_end t.cells s.cells w.cells in
    let e = if_is (end_below s.at_end t.at_end) t.at_end Either (λ x. x ≡ t.at_end) w.at_end refl in
    let m = if_is (mark_below s.mark t.mark) t.mark Maybe (λ x. x ≡ t.mark) w.mark refl in
    let g = grant_kept t.granted s.granted w.granted in
    let o = if_is (met_below s.met t.met) t.met None (λ x. x ≡ t.met) w.met refl in
    let u = joined t s in
    ap (λ x. made x u.cells u.at_end u.mark u.granted u.met) r
    ∙ (ap (λ x. made t.registers x u.at_end u.mark u.granted u.met) c
    ∙ (ap (λ x. made t.registers t.cells x u.mark u.granted u.met) e
    ∙ (ap (λ x. made t.registers t.cells t.at_end x u.granted u.met) m
    ∙ (ap (λ x. made t.registers t.cells t.at_end t.mark x u.met) g
    ∙ ap (λ x. made t.registers t.cells t.at_end t.mark t.granted x) o))))

set_kept : (xs : Shapes) (l : ℕ) (s : Shape) → holds_at (slice_get xs l) s ≡ true → set_at xs l s ≡ xs
set_kept [] l s q = refl
set_kept (None ∷ xs) zero s q = absurd (false≢true q)
set_kept (Some t ∷ xs) zero s q = ap (λ x. Some x ∷ xs) (shape_kept s t (shape_of s t q))
set_kept (a ∷ xs) (suc l) s q = ap (λ ys. a ∷ ys) (set_kept xs l s q)

pub flow_kept : (xs : Shapes) (f : Flow) → holds xs f ≡ true → with_flow xs f ≡ xs
flow_kept xs f q = set_kept xs f.0 f.1 q

pub flows_kept : (xs : Shapes) (fs : List Flow) → holds_all xs fs ≡ true → with_flows xs fs ≡ xs
flows_kept xs [] q = refl
flows_kept xs (f ∷ fs) q =
    subst (λ ys. with_flows ys fs ≡ xs) (sym (flow_kept xs f (and_left (holds xs f) (holds_all xs fs) q))) (flows_kept xs fs (and_right (holds xs f) (holds_all xs fs) q))

-- ---- the order as a test

option_is : (a b : Option Shape) → ShapeBelow a b → option_below a b ≡ true
option_is None b w = refl
option_is (Some s) None w = absurd w
option_is (Some s) (Some t) w = is_shape_below s t w

pub are_all_below : (xs ys : Shapes) → AllBelow xs ys → shapes_below xs ys ≡ true
are_all_below [] [] w = refl
are_all_below [] (b ∷ ys) w = absurd w
are_all_below (a ∷ xs) [] w = absurd w
are_all_below (a ∷ xs) (b ∷ ys) w = and_both (option_below a b) (shapes_below xs ys) (option_is a b w.0) (are_all_below xs ys w.1)
