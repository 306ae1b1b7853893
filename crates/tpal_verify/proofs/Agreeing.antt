-- One join that stands for all finds what they find.
use Rattle.std.proofs.Common.{◌≡◌, ℕ, zero, suc, List, [], ◌∷◌, ◌++◌, Option, Some, None, refl, sym, ap, subst, ◌∙◌, slice_index_or, slice_set, Bool, true, false, ◌&&◌, if◌then◌else◌, not, replicate}
use Rattle.std.proofs.lemmas.Bool.{false≢true}
use Rattle.tpal_syntax.specs.declared.notes.Note.{Note}
use Rattle.tpal_syntax.specs.declared.notes.Note.TheVariants as note
use Rattle.tpal_syntax.specs.declared.notes.Target.{Target}
use Rattle.tpal_verify.specs.declared.kinds.Kind.{Kind}
use Rattle.tpal_verify.specs.declared.kinds.Kind.TheVariants.{Number, Empty, Own, Up, Pend, Met, Back, Any}
use Rattle.tpal_verify.specs.declared.trace.Trace.{Trace}
use Rattle.tpal_verify.specs.Kinds.{kind_eq}
use Rattle.tpal_verify.specs.Shapes.{Shape}
use Rattle.tpal_verify.specs.Flat.{Ground}
use Rattle.tpal_verify.specs.Rules.{note_at}
use Rattle.tpal_verify.specs.Walk.{Flow}
use Rattle.tpal_verify.specs.Rounds.{with_join, join_in, all_joins, each_has, found, left_kinds, right_kinds, comb_shape, comb_flow, each_comb_flow, comb_flows}
use Rattle.tpal_verify.specs.Breaks.{lists_agree}
use Rattle.tpal_verify.specs.Agreement.{kind_agreed, kinds_agreed, agreed_with, is_none, StandsFor}

-- ---- two kinds

unlike : (c : Bool) (a k : Kind) → kind_eq a k ≡ false → kind_eq Any k ≡ false → kind_eq (if c then a else Any) k ≡ false
unlike true a k p q = p
unlike false a k p q = q

number_agreed : (a b : Kind) → kind_eq (kind_agreed a b) Number ≡ kind_eq a Number && kind_eq b Number
number_agreed Number Number = refl
number_agreed Number Empty = refl
number_agreed Number Own = refl
number_agreed Number Up = refl
number_agreed Number Pend = refl
number_agreed Number Met = refl
number_agreed Number (Back h) = refl
number_agreed Number Any = refl
number_agreed Empty b = unlike (kind_eq Empty b) Empty Number refl refl
number_agreed Own b = unlike (kind_eq Own b) Own Number refl refl
number_agreed Up b = unlike (kind_eq Up b) Up Number refl refl
number_agreed Pend b = unlike (kind_eq Pend b) Pend Number refl refl
number_agreed Met b = unlike (kind_eq Met b) Met Number refl refl
number_agreed (Back h) b = unlike (kind_eq (Back h) b) (Back h) Number refl refl
number_agreed Any b = unlike (kind_eq Any b) Any Number refl refl

own_agreed : (a b : Kind) → kind_eq (kind_agreed a b) Own ≡ kind_eq a Own && kind_eq b Own
own_agreed Own Number = refl
own_agreed Own Empty = refl
own_agreed Own Own = refl
own_agreed Own Up = refl
own_agreed Own Pend = refl
own_agreed Own Met = refl
own_agreed Own (Back h) = refl
own_agreed Own Any = refl
own_agreed Number b = unlike (kind_eq Number b) Number Own refl refl
own_agreed Empty b = unlike (kind_eq Empty b) Empty Own refl refl
own_agreed Up b = unlike (kind_eq Up b) Up Own refl refl
own_agreed Pend b = unlike (kind_eq Pend b) Pend Own refl refl
own_agreed Met b = unlike (kind_eq Met b) Met Own refl refl
own_agreed (Back h) b = unlike (kind_eq (Back h) b) (Back h) Own refl refl
own_agreed Any b = unlike (kind_eq Any b) Any Own refl refl

-- ---- two joins

and_assoc : (a b c : Bool) → (a && b) && c ≡ a && (b && c)
and_assoc true b c = refl
and_assoc false b c = refl

and_false : (b : Bool) → false ≡ b && false
and_false true = refl
and_false false = refl

module _ (k : Kind) (any : kind_eq Any k ≡ false) (both : (a b : Kind) → kind_eq (kind_agreed a b) k ≡ kind_eq a k && kind_eq b k) where
  at_agreed : (xs ys : List Kind) (r : ℕ) → kind_eq (slice_index_or (kinds_agreed xs ys) r Any) k ≡ kind_eq (slice_index_or xs r Any) k && kind_eq (slice_index_or ys r Any) k
  at_agreed [] ys r = any ∙ ap (λ b. b && kind_eq (slice_index_or ys r Any) k) (sym any)
  at_agreed (x ∷ xs) [] r = any ∙ (and_false (kind_eq (slice_index_or (x ∷ xs) r Any) k) ∙ ap (λ b. kind_eq (slice_index_or (x ∷ xs) r Any) k && b) (sym any))
  at_agreed (x ∷ xs) (y ∷ ys) zero = both x y
  at_agreed (x ∷ xs) (y ∷ ys) (suc r) = at_agreed xs ys r

  each_agreed : (kinds join : Option (List Kind)) (joins : List (List Kind)) (r : ℕ) → each_has k r (with_join (agreed_with kinds join) joins) ≡ each_has k r (with_join kinds (with_join join joins))
  each_agreed None join joins r = refl
  each_agreed (Some xs) None joins r = refl
  each_agreed (Some xs) (Some ys) joins r =
      ap (λ b. b && each_has k r joins) (at_agreed xs ys r)
      ∙ and_assoc (kind_eq (slice_index_or xs r Any) k) (kind_eq (slice_index_or ys r Any) k) (each_has k r joins)

none_agreed : (kinds join : Option (List Kind)) (joins : List (List Kind)) → is_none (with_join (agreed_with kinds join) joins) ≡ is_none (with_join kinds (with_join join joins))
none_agreed None join joins = refl
none_agreed (Some xs) None joins = refl
none_agreed (Some xs) (Some ys) joins = refl

pub same_joins : (joins : List (List Kind)) → StandsFor joins joins
same_joins joins = record { none = refl; numbers = λ r. refl; owns = λ r. refl }

pub stands_trans : (a b c : List (List Kind)) → StandsFor a b → StandsFor b c → StandsFor a c
stands_trans a b c v w = record { none = v.none ∙ w.none; numbers = λ r. v.numbers r ∙ w.numbers r; owns = λ r. v.owns r ∙ w.owns r }

pub one_more : (kinds join : Option (List Kind)) (joins : List (List Kind)) → StandsFor (with_join (agreed_with kinds join) joins) (with_join kinds (with_join join joins))
one_more kinds join joins = record {
  none = none_agreed kinds join joins;
  numbers = λ r. each_agreed Number refl number_agreed kinds join joins r;
  owns = λ r. each_agreed Own refl own_agreed kinds join joins r;
}

pub one_more_of : (kinds new : Option (List Kind)) (trace : Option Trace) (rest behind : List (Option Trace)) (all : List (List Kind)) → rest ≡ trace ∷ behind → new ≡ agreed_with kinds (join_in trace)
    → StandsFor (with_join kinds (all_joins rest)) all → StandsFor (with_join new (all_joins behind)) all
one_more_of kinds new trace rest behind all split e w =
    stands_trans (with_join new (all_joins behind)) (with_join kinds (all_joins (trace ∷ behind))) all
    (subst (λ k. StandsFor (with_join k (all_joins behind)) (with_join kinds (with_join (join_in trace) (all_joins behind)))) (sym e) (one_more kinds (join_in trace) (all_joins behind)))
    (subst (λ r. StandsFor (with_join kinds (all_joins r)) all) split w)

-- ---- what they find

module _ (js ks : List (List Kind)) (w : StandsFor js ks) where
  pub found_same : (r : ℕ) → found js r ≡ found ks r
  found_same r =
      ap (λ b. if b then Number else (if each_has Own r js then Met else Any)) (w.numbers r)
      ∙ ap (λ b. if each_has Number r ks then Number else (if b then Met else Any)) (w.owns r)

  left_same : (kinds : List Kind) (ps : List (ℕ × ℕ)) → left_kinds js kinds ps ≡ left_kinds ks kinds ps
  left_same kinds [] = refl
  left_same kinds (p ∷ ps) =
      ap (λ k. left_kinds js (slice_set kinds p.0 k) ps) (found_same p.0) ∙ left_same (slice_set kinds p.0 (found ks p.0)) ps

  right_same : (kinds : List Kind) (ps : List (ℕ × ℕ)) → right_kinds js kinds ps ≡ right_kinds ks kinds ps
  right_same kinds [] = refl
  right_same kinds (p ∷ ps) =
      ap (λ k. right_kinds js (slice_set kinds p.1 k) ps) (found_same p.0) ∙ right_same (slice_set kinds p.1 (found ks p.0)) ps

  shape_same : (l : ℕ) (t : Target) (s : Shape) → comb_shape js l t s ≡ comb_shape ks l t s
  shape_same l t s =
      let empty : List Kind = replicate 31 Empty in
      ap (λ x. record (comb_shape js l t s) { registers = x })
      (ap (λ x. right_kinds js x t.renames) (left_same empty t.renames) ∙ right_same (left_kinds ks empty t.renames) t.renames)

  flow_same : (n : Note) (fork : Flow) → comb_flow n js fork ≡ comb_flow n ks fork
  flow_same note.Plain fork = refl
  flow_same (note.Ready handler) fork = refl
  flow_same (note.Target target) fork = ap (λ s. (target.comb, s) ∷ []) (shape_same fork.0 target fork.1)

  each_same : (whole : Ground) (forks : List Flow) → each_comb_flow whole js forks ≡ each_comb_flow whole ks forks
  each_same whole [] = refl
  each_same whole (fork ∷ forks) =
      ap (λ fs. fs ++ each_comb_flow whole js forks) (flow_same (note_at whole fork.0) fork)
      ∙ ap (λ fs. comb_flow (note_at whole fork.0) ks fork ++ fs) (each_same whole forks)

  pub lists_same : (rs : List ℕ) → lists_agree js rs ≡ lists_agree ks rs
  lists_same [] = refl
  lists_same (r ∷ rs) =
      ap (λ k. not (kind_eq k Any) && lists_agree js rs) (found_same r)
      ∙ ap (λ b. not (kind_eq (found ks r) Any) && b) (lists_same rs)

pub combs_same : (js ks : List (List Kind)) (whole : Ground) (forks : List Flow) → StandsFor js ks → comb_flows whole js forks ≡ comb_flows whole ks forks
combs_same [] [] whole forks w = refl
combs_same [] (k ∷ ks) whole forks w = absurd (false≢true (sym w.none))
combs_same (j ∷ js) [] whole forks w = absurd (false≢true w.none)
combs_same (j ∷ js) (k ∷ ks) whole forks w = each_same (j ∷ js) (k ∷ ks) w whole forks

-- ---- whether listed registers agree

pub lists_append : (js : List (List Kind)) (rs ss : List ℕ) → lists_agree js (rs ++ ss) ≡ lists_agree js rs && lists_agree js ss
lists_append js [] ss = refl
lists_append js (r ∷ rs) ss =
    let b = not (kind_eq (found js r) Any) in
    ap (λ x. b && x) (lists_append js rs ss) ∙ sym (and_assoc b (lists_agree js rs) (lists_agree js ss))

pub none_agree : (rs : List ℕ) → true ≡ lists_agree [] rs
none_agree [] = refl
none_agree (r ∷ rs) = none_agree rs

pub agree_by : (kinds : Option (List Kind)) (js : List (List Kind)) (rs : List ℕ) → StandsFor (with_join kinds []) js → lists_agree (with_join kinds []) rs ≡ lists_agree js rs
agree_by kinds js rs w = lists_same (with_join kinds []) js w rs
