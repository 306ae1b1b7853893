-- A walk that goes well, one instruction at a time, and that the walks of an assignment that meets
-- the rules go well.
use Rattle.std.proofs.Common.{◌≡◌, ℕ, zero, suc, ◌+◌, List, [], ◌∷◌, ◌++◌, Option, Some, None, refl, sym, ap, subst, ◌∙◌, length, arith}
use Rattle.std.proofs.lemmas.Bool.{false≢true}
use Rattle.std.specs.Prelude.{Bool, true, false, ◌==◌, if◌then◌else◌, map, slice_get, slice_index_or}
use Rattle.tpal_syntax.specs.declared.blocks.Block.{Block}
use Rattle.tpal_syntax.specs.declared.instructions.Instr.{Instr}
use Rattle.tpal_syntax.specs.declared.instructions.Term.{Term}
use Rattle.tpal_syntax.specs.Listing.{Listing}
use Rattle.tpal_verify.specs.declared.kinds.Kind.{Kind}
use Rattle.tpal_verify.specs.declared.kinds.Kind.TheVariants.{Number, Empty, Own, Up, Pend, Met, Back, Any}
use Rattle.tpal_verify.specs.declared.phases.Phase.{Phase}
use Rattle.tpal_verify.specs.declared.phases.Phase.TheVariants.{Calm}
use Rattle.tpal_verify.specs.Kinds.{kind_eq}
use Rattle.tpal_verify.specs.Shapes.{Shape}
use Rattle.tpal_verify.specs.Flat.{Ground, ground_of}
use Rattle.tpal_verify.specs.Rules.{note_at, broken_rule}
use Rattle.tpal_verify.specs.Walk.{Flow, going, Walked, walk_on, unless_broken, walk, note_flows, block_walk}
use Rattle.tpal_verify.specs.Rounds.{Shapes, walk_of, walks_from, walks, all_flows, trace_of, traces, forks_of, all_forks, join_in, with_join, all_joins, each_has, each_comb_flow, comb_flows, comb_flow, holds, holds_at, holds_all}
use Rattle.tpal_verify.specs.Breaks.{Spot, Break, is_before, break_or, first_from, break_in, flat_break, walk_break, list_break, earlier, listed, lists_agree, MeetsRules}
use Rattle.tpal_verify.specs.Flat.{unflat_in}
use Rattle.tpal_verify.specs.Well.{IsJoinOf, IsWell, GoesWell}
use Rattle.tpal_verify.proofs.Order.{and_left, and_right}
use Rattle.tpal_verify.proofs.ShapeOrder.{Below, shape_of}
use Rattle.tpal_verify.proofs.Lower.{some_none, all_left, all_right, all_both as all_of}
use Rattle.tpal_verify.proofs.Accepting.{agrees}

-- ---- combining flows of some of the forks

each_left : (A : Shapes) (whole : Ground) (js : List (List Kind)) (fs gs : List Flow) → holds_all A (each_comb_flow whole js (fs ++ gs)) ≡ true → holds_all A (each_comb_flow whole js fs) ≡ true
each_left A whole js [] gs q = refl
each_left A whole js (f ∷ fs) gs q =
    let one = comb_flow (note_at whole f.0) js f in
    all_of A one (each_comb_flow whole js fs) (all_left A one (each_comb_flow whole js (fs ++ gs)) q) (each_left A whole js fs gs (all_right A one (each_comb_flow whole js (fs ++ gs)) q))

each_right : (A : Shapes) (whole : Ground) (js : List (List Kind)) (fs gs : List Flow) → holds_all A (each_comb_flow whole js (fs ++ gs)) ≡ true → holds_all A (each_comb_flow whole js gs) ≡ true
each_right A whole js [] gs q = q
each_right A whole js (f ∷ fs) gs q =
    each_right A whole js fs gs (all_right A (comb_flow (note_at whole f.0) js f) (each_comb_flow whole js (fs ++ gs)) q)

comb_left : (A : Shapes) (whole : Ground) (js : List (List Kind)) (fs gs : List Flow) → holds_all A (comb_flows whole js (fs ++ gs)) ≡ true → holds_all A (comb_flows whole js fs) ≡ true
comb_left A whole [] fs gs q = refl
comb_left A whole (j ∷ js) fs gs q = each_left A whole (j ∷ js) fs gs q

comb_right : (A : Shapes) (whole : Ground) (js : List (List Kind)) (fs gs : List Flow) → holds_all A (comb_flows whole js (fs ++ gs)) ≡ true → holds_all A (comb_flows whole js gs) ≡ true
comb_right A whole [] fs gs q = refl
comb_right A whole (j ∷ js) fs gs q = each_right A whole (j ∷ js) fs gs q

-- ---- one instruction

module _ (whole : Ground) (A : Shapes) where
  abbrev pub joins : List (List Kind)
  joins = all_joins (traces whole A)

  -- how a block goes on behind an instruction
  abbrev pub OnWell : ℕ → List Instr → Term → Option (Phase × Shape) → Type 0
  OnWell at rest term None = Unit {0}
  OnWell at rest term (Some here) = GoesWell whole A false at here.0 here.1 rest term

  -- an instruction breaks no rule, what flows from it is held, and so it goes on
  pub record StepsWell (first : Bool) (at : ℕ) (p : Phase) (s : Shape) (i : Instr) (rest : List Instr) (term : Term) : Type 0 where
    pub unbroken : broken_rule whole first p s i rest ≡ None
    pub flows : holds_all A (going whole p s i).flows ≡ true
    pub combines : holds_all A (comb_flows whole joins (going whole p s i).forks) ≡ true
    pub on : OnWell (at + 1) rest term (going whole p s i).on

  on_well : (at : ℕ) (rest : List Instr) (term : Term) (o : Option (Phase × Shape)) → IsWell whole A (walk_on o (λ q t. walk whole false at q t rest term)) → OnWell at rest term o
  on_well at rest term None w = tt
  on_well at rest term (Some here) w = w

  pub steps_well : (first : Bool) (at : ℕ) (p : Phase) (s : Shape) (i : Instr) (rest : List Instr) (term : Term) → GoesWell whole A first at p s (i ∷ rest) term → StepsWell first at p s i rest term
  steps_well first at p s i rest term w = by (broken_rule whole first p s i rest) refl w
    where
      by : (b : Option ℕ) → broken_rule whole first p s i rest ≡ b → IsWell whole A (unless_broken b at (going whole p s i) (λ q t. walk whole false (at + 1) q t rest term)) → StepsWell first at p s i rest term
      by (Some rule) q v = some_none (at, rule) v.broken
      by None q v =
          let x = going whole p s i in
          let y = walk_on x.on (λ u t. walk whole false (at + 1) u t rest term) in
          record {
            unbroken = q;
            flows = all_left A x.flows y.flows v.flows;
            combines = comb_left A whole joins x.forks y.trace.forks v.combines;
            on = on_well (at + 1) rest term x.on (record {
              broken = v.broken;
              flows = all_right A x.flows y.flows v.flows;
              combines = comb_right A whole joins x.forks y.trace.forks v.combines;
              join = v.join;
            });
          }

-- ---- the walks of an assignment

earlier_none : (a b : Option Spot) → earlier a b ≡ None → (a ≡ None) × (b ≡ None)
earlier_none None b q = (refl, q)
earlier_none (Some a) None q = some_none a q
earlier_none (Some a) (Some b) q = by (is_before b a) q
  where
    by : (c : Bool) → (if c then Some b else Some a) ≡ None → (Some a ≡ None) × (Some b ≡ None)
    by true z = some_none b z
    by false z = some_none a z

break_none : (l : ℕ) (a : Option Spot) (later : Unit {0} → Option Break) → break_or l a later ≡ None → (a ≡ None) × (later tt ≡ None)
break_none l None later q = (refl, q)
break_none l (Some a) later q = some_none (l, a.0, a.1) q

not_both : (k : Kind) → kind_eq k Number ≡ true → kind_eq k Own ≡ true → ⊥
not_both Number p q = false≢true q
not_both Empty p q = false≢true q
not_both Own p q = false≢true p
not_both Up p q = false≢true q
not_both Pend p q = false≢true q
not_both Met p q = false≢true q
not_both (Back h) p q = false≢true q
not_both Any p q = false≢true q

module _ (whole : Ground) (A : Shapes) where
  -- a block that is entered is flat, and its walk goes well
  pub record BlockWell (l : ℕ) (block : Block) (s : Shape) : Type 0 where
    pub flat : flat_break (unflat_in whole (l == 0) block) ≡ None
    pub note : holds_all A (note_flows block.note s) ≡ true
    pub walk : GoesWell whole A (l == 0) 0 Calm s block.body block.term

  -- what is found at all joins is found at these
  abbrev Found : List (List Kind) → Type 0
  Found js = (k : Kind) (r : ℕ) → each_has k r (joins whole A) ≡ true → each_has k r js ≡ true

  join_of : (all js : List (List Kind)) (j : Option (List Kind)) → ((k : Kind) (r : ℕ) → each_has k r all ≡ true → each_has k r (with_join j js) ≡ true) → IsJoinOf all j
  join_of all js None f = tt
  join_of [] js (Some registers) f =
      not_both (slice_index_or registers 0 Any)
      (and_left (kind_eq (slice_index_or registers 0 Any) Number) (each_has Number 0 js) (f Number 0 refl))
      (and_left (kind_eq (slice_index_or registers 0 Any) Own) (each_has Own 0 js) (f Own 0 refl))
  join_of (x ∷ all) js (Some registers) f =
      λ k r q. and_left (kind_eq (slice_index_or registers r Any) k) (each_has k r js) (f k r q)

  drop_join : (j : Option (List Kind)) (js : List (List Kind)) → Found (with_join j js) → Found js
  drop_join None js f = f
  drop_join (Some registers) js f = λ k r q. and_right (kind_eq (slice_index_or registers r Any) k) (each_has k r js) (f k r q)

  one_block : (agree : Bool) (l : ℕ) (block : Block) (o : Option Shape) (s : Shape) (js : List (List Kind)) → o ≡ Some s
      → break_in whole agree l block (trace_of (walk_of whole l block o)) ≡ None
      → holds_all A (all_flows (walk_of whole l block o ∷ [])) ≡ true
      → holds_all A (comb_flows whole (joins whole A) (forks_of (trace_of (walk_of whole l block o)))) ≡ true
      → Found (with_join (join_in (trace_of (walk_of whole l block o))) js)
      → BlockWell l block s
  one_block agree l block None s js e b h c f = some_none s (sym e)
  one_block agree l block (Some t) s js e b h c f =
      let w = block_walk whole l block t in
      let v = walk whole (l == 0) 0 Calm t block.body block.term in
      let p = earlier_none (flat_break (unflat_in whole (l == 0) block)) (earlier (walk_break (Some w.trace)) (list_break agree (length block.body) (join_in (Some w.trace)))) b in
      let q = earlier_none (walk_break (Some w.trace)) (list_break agree (length block.body) (join_in (Some w.trace))) p.1 in
      let hw = all_left A w.flows [] h in
      subst (λ x. BlockWell l block x) (some_is t s e) (record {
        flat = p.0;
        note = all_left A (note_flows block.note t) v.flows hw;
        walk = record {
          broken = q.0;
          flows = all_right A (note_flows block.note t) v.flows hw;
          combines = c;
          join = join_of (joins whole A) js (join_in (Some w.trace)) f;
        };
      })
    where
      some_is : (x y : Shape) → Some x ≡ Some y → x ≡ y
      some_is x y q = ap of q
        where
          of : Option Shape → Shape
          of None = x
          of (Some z) = z

  some_block : (x y : Block) → Some x ≡ Some y → x ≡ y
  some_block x y q = ap of q
    where
      of : Option Block → Block
      of None = x
      of (Some z) = z

  head_flows : (w : Option Walked) (ws : List (Option Walked)) → holds_all A (all_flows (w ∷ ws)) ≡ true → holds_all A (all_flows (w ∷ [])) ≡ true
  head_flows None ws q = refl
  head_flows (Some w) ws q = all_of A w.flows [] (all_left A w.flows (all_flows ws) q) refl

  tail_flows : (w : Option Walked) (ws : List (Option Walked)) → holds_all A (all_flows (w ∷ ws)) ≡ true → holds_all A (all_flows ws) ≡ true
  tail_flows None ws q = q
  tail_flows (Some w) ws q = all_right A w.flows (all_flows ws) q

  each_block : (agree : Bool) (i l : ℕ) (blocks : List Block) (xs : Shapes) (block : Block) (s : Shape)
      → slice_get blocks i ≡ Some block → slice_get xs i ≡ Some (Some s)
      → first_from whole agree l blocks (map trace_of (walks_from whole l blocks xs)) ≡ None
      → holds_all A (all_flows (walks_from whole l blocks xs)) ≡ true
      → holds_all A (comb_flows whole (joins whole A) (all_forks (map trace_of (walks_from whole l blocks xs)))) ≡ true
      → Found (all_joins (map trace_of (walks_from whole l blocks xs)))
      → BlockWell (l + i) block s
  each_block agree i l [] xs block s is has b h c f = some_none block (sym is)
  each_block agree i l (x ∷ bs) [] block s is has b h c f = some_none (Some s) (sym has)
  each_block agree zero l (x ∷ bs) (o ∷ xs) block s is has b h c f =
      let ws = walks_from whole (l + 1) bs xs in
      let w = walk_of whole l x o in
      let n = break_none l (break_in whole agree l x (trace_of w)) (λ _. first_from whole agree (l + 1) bs (map trace_of ws)) b in
      subst (λ k. BlockWell k block s) (let z : l ≡ l + 0 = omega arith in z)
      (subst (λ y. BlockWell l y s) (some_block x block is)
      (one_block agree l x o s (all_joins (map trace_of ws)) (some_shape o (Some s) has) n.0 (head_flows w ws h) (comb_left A whole (joins whole A) (forks_of (trace_of w)) (all_forks (map trace_of ws)) c) f))
    where
      some_shape : (x y : Option Shape) → Some x ≡ Some y → x ≡ y
      some_shape x y q = ap of q
        where
          of : Option (Option Shape) → Option Shape
          of None = x
          of (Some z) = z
  each_block agree (suc i) l (x ∷ bs) (o ∷ xs) block s is has b h c f =
      let ws = walks_from whole (l + 1) bs xs in
      let w = walk_of whole l x o in
      let n = break_none l (break_in whole agree l x (trace_of w)) (λ _. first_from whole agree (l + 1) bs (map trace_of ws)) b in
      subst (λ k. BlockWell k block s) (let z : l + 1 + i ≡ l + suc i = omega arith in z)
      (each_block agree i (l + 1) bs xs block s is has n.1 (tail_flows w ws h) (comb_right A whole (joins whole A) (forks_of (trace_of w)) (all_forks (map trace_of ws)) c)
      (drop_join (join_in (trace_of w)) (all_joins (map trace_of ws)) f))

  -- also a block that isn't entered is flat
  each_flat : (agree : Bool) (i l : ℕ) (blocks : List Block) (xs : Shapes) (block : Block) → slice_get blocks i ≡ Some block → length xs ≡ length blocks
      → first_from whole agree l blocks (map trace_of (walks_from whole l blocks xs)) ≡ None → flat_break (unflat_in whole ((l + i) == 0) block) ≡ None
  each_flat agree i l [] xs block is n b = some_none block (sym is)
  each_flat agree i l (x ∷ bs) [] block is n b = absurd (omega (arith, n))
  each_flat agree zero l (x ∷ bs) (o ∷ xs) block is n b =
      let ws = walks_from whole (l + 1) bs xs in
      let t = trace_of (walk_of whole l x o) in
      let f = break_none l (break_in whole agree l x t) (λ _. first_from whole agree (l + 1) bs (map trace_of ws)) b in
      let q = earlier_none (flat_break (unflat_in whole (l == 0) x)) (earlier (walk_break t) (list_break agree (length x.body) (join_in t))) f.0 in
      subst (λ k. flat_break (unflat_in whole (k == 0) block) ≡ None) (let z : l ≡ l + 0 = omega arith in z)
      (subst (λ y. flat_break (unflat_in whole (l == 0) y) ≡ None) (some_block x block is) q.0)
  each_flat agree (suc i) l (x ∷ bs) (o ∷ xs) block is n b =
      let ws = walks_from whole (l + 1) bs xs in
      let t = trace_of (walk_of whole l x o) in
      let f = break_none l (break_in whole agree l x t) (λ _. first_from whole agree (l + 1) bs (map trace_of ws)) b in
      subst (λ k. flat_break (unflat_in whole (k == 0) block) ≡ None) (let z : l + 1 + i ≡ l + suc i = omega arith in z)
      (each_flat agree i (l + 1) bs xs block is (omega (arith, n)) f.1)

  -- as many shapes as blocks
  found_shape : (l : ℕ) (blocks : List Block) (xs : Shapes) (block : Block) → length xs ≡ length blocks → slice_get blocks l ≡ Some block → (o : Option (Option Shape)) → slice_get xs l ≡ o → o ≡ None → ⊥
  found_shape l [] xs block n is o e none = some_none block (sym is)
  found_shape l (b ∷ bs) [] block n is o e none = absurd (omega (arith, n))
  found_shape zero (b ∷ bs) (x ∷ xs) block n is o e none = some_none x (e ∙ none)
  found_shape (suc l) (b ∷ bs) (x ∷ xs) block n is o e none = found_shape l bs xs block (omega (arith, n)) is o e none

-- a task that comes to a block with what is held there
pub record StandsAt (whole : Ground) (A : Shapes) (l : ℕ) (block : Block) (s : Shape) : Type 0 where
  pub shape : Shape
  pub below : Below s shape
  pub well : BlockWell whole A l block shape

module _ (code : Listing) (A : Shapes) (rules : MeetsRules code A) where
  abbrev whole : Ground
  whole = ground_of code

  block_well : (l : ℕ) (block : Block) (s : Shape) → slice_get code.blocks l ≡ Some block → slice_get A l ≡ Some (Some s) → BlockWell whole A l block s
  block_well l block s is has =
      let ws = walks whole A in
      subst (λ k. BlockWell whole A k block s) (let z : 0 + l ≡ l = omega arith in z)
      (each_block whole A (lists_agree (joins whole A) (listed code.blocks)) l 0 code.blocks A block s is has rules.rules
      (all_left A (all_flows ws) (comb_flows whole (joins whole A) (all_forks (traces whole A))) rules.flows)
      (all_right A (all_flows ws) (comb_flows whole (joins whole A) (all_forks (traces whole A))) rules.flows)
      (λ k r q. q))

  pub stands_at : (l : ℕ) (block : Block) (s : Shape) → slice_get code.blocks l ≡ Some block → holds A (l, s) ≡ true → StandsAt whole A l block s
  stands_at l block s is h = by (slice_get A l) refl h
    where
      by : (o : Option (Option Shape)) → slice_get A l ≡ o → holds_at o s ≡ true → StandsAt whole A l block s
      by None e q = absurd (found_shape whole A l code.blocks A block rules.each_block is None e refl)
      by (Some None) e q = absurd (false≢true q)
      by (Some (Some t)) e q = record { shape = t; below = shape_of s t q; well = block_well l block t is e }

  pub lists_are : lists_agree (joins whole A) (listed code.blocks) ≡ true
  lists_are = agrees whole A rules.rules

  pub flat_at : (l : ℕ) (block : Block) → slice_get code.blocks l ≡ Some block → flat_break (unflat_in whole (l == 0) block) ≡ None
  flat_at l block is =
      subst (λ k. flat_break (unflat_in whole (k == 0) block) ≡ None) (let z : 0 + l ≡ l = omega arith in z)
      (each_flat whole A (lists_agree (joins whole A) (listed code.blocks)) l 0 code.blocks A block is rules.each_block rules.rules)
