-- A code is accepted exactly where some assignment meets the rules, and then the least one does.
use Rattle.std.proofs.Common.{◌≡◌, ℕ, ◌+◌, List, [], ◌∷◌, Option, Some, None, refl, sym, ap, subst, ◌∙◌, length}
use Rattle.std.proofs.lemmas.Bool.{false≢true}
use Rattle.std.specs.Prelude.{Bool, true, false, ◌==◌, if◌then◌else◌, map}
use Rattle.tpal_syntax.specs.declared.blocks.Block.{Block}
use Rattle.tpal_syntax.specs.Listing.{Listing}
use Rattle.tpal_verify.specs.declared.kinds.Kind.{Kind}
use Rattle.tpal_verify.specs.declared.trace.Trace.{Trace}
use Rattle.tpal_verify.specs.Shapes.{Shape, first_shape}
use Rattle.tpal_verify.specs.Flat.{Ground, ground_of, unflat_in}
use Rattle.tpal_verify.specs.Walk.{Walked, block_walk}
use Rattle.tpal_verify.specs.Rounds.{Shapes, walk_of, walks_from, walks, all_flows, trace_of, all_forks, traces, join_in, with_join, all_joins, comb_flows, flows_of, holds_all, start, height, least}
use Rattle.tpal_verify.specs.Breaks.{Spot, is_before, earlier, flat_break, walk_break, list_break, break_in, Break, break_or, first_from, break_by, Accepted, listed, lists_agree, MeetsRules}
use Rattle.tpal_verify.proofs.Lower.{some_none, WalkBelow, blocks_below, all_left, all_right, all_both}
use Rattle.tpal_verify.proofs.Assigned.{ShapeBelow, AllBelow, ShapeProper, AllProper, all_length, holds_above, settled_grows, settled_proper, settled_below, start_proper, start_below, start_holds, start_length}
use Rattle.tpal_verify.proofs.Finding.{TraceBelow, TracesBelow, lists_below, comb_held}
use Rattle.tpal_verify.proofs.Height.{least_fixed}

-- ---- what no break says

earlier_none : (a b : Option Spot) → earlier a b ≡ None → (a ≡ None) × (b ≡ None)
earlier_none None b q = (refl, q)
earlier_none (Some a) None q = some_none a q
earlier_none (Some a) (Some b) q = by (is_before b a) q
  where
    by : (c : Bool) → (if c then Some b else Some a) ≡ None → (Some a ≡ None) × (Some b ≡ None)
    by true z = some_none b z
    by false z = some_none a z

both_none : (a b : Option Spot) → a ≡ None → b ≡ None → earlier a b ≡ None
both_none a b p q = ap (λ x. earlier x b) p ∙ q

break_none : (l : ℕ) (a : Option Spot) (later : Unit {0} → Option Break) → break_or l a later ≡ None → (a ≡ None) × (later tt ≡ None)
break_none l None later q = (refl, q)
break_none l (Some a) later q = some_none (l, a.0, a.1) q

none_break : (l : ℕ) (a : Option Spot) (later : Unit {0} → Option Break) → a ≡ None → later tt ≡ None → break_or l a later ≡ None
none_break l a later p q = ap (λ x. break_or l x later) p ∙ q

list_none : (at : ℕ) (agree : Bool) (join : Option (List Kind)) → list_break agree at join ≡ None → (agree ≡ false) → join ≡ None
list_none at true join q f = cc
list_none at false None q f = refl
list_none at false (Some xs) q f = some_none (at, 6) q

module _ (whole : Ground) where
  -- of one block: it is flat, its walk breaks nothing, and its join isn't broken
  record Clean (agree : Bool) (l : ℕ) (block : Block) (trace : Option Trace) : Type 0 where
    flat : flat_break (unflat_in whole (l == 0) block) ≡ None
    walked : walk_break trace ≡ None
    lists : list_break agree (length block.body) (join_in trace) ≡ None

  clean_of : (agree : Bool) (l : ℕ) (block : Block) (trace : Option Trace) → break_in whole agree l block trace ≡ None → Clean agree l block trace
  clean_of agree l block trace q =
      let a = earlier_none (flat_break (unflat_in whole (l == 0) block)) (earlier (walk_break trace) (list_break agree (length block.body) (join_in trace))) q in
      let b = earlier_none (walk_break trace) (list_break agree (length block.body) (join_in trace)) a.1 in
      record { flat = a.0; walked = b.0; lists = b.1 }

  is_clean : (agree : Bool) (l : ℕ) (block : Block) (trace : Option Trace) → Clean agree l block trace → break_in whole agree l block trace ≡ None
  is_clean agree l block trace c =
      both_none (flat_break (unflat_in whole (l == 0) block)) (earlier (walk_break trace) (list_break agree (length block.body) (join_in trace))) c.flat
      (both_none (walk_break trace) (list_break agree (length block.body) (join_in trace)) c.walked c.lists)

  abbrev from_walks : Bool → ℕ → List Block → Shapes → Option Break
  from_walks agree l blocks xs = first_from whole agree l blocks (map trace_of (walks_from whole l blocks xs))

  -- where the lists don't agree and nothing is broken, no side is known to end by a join
  no_joins : (l : ℕ) (blocks : List Block) (xs : Shapes) → from_walks false l blocks xs ≡ None → all_joins (map trace_of (walks_from whole l blocks xs)) ≡ []
  no_joins l [] xs q = refl
  no_joins l (b ∷ bs) [] q = refl
  no_joins l (b ∷ bs) (x ∷ xs) q =
      let t = trace_of (walk_of whole l b x) in
      let n = break_none l (break_in whole false l b t) (λ _. from_walks false (l + 1) bs xs) q in
      let j = list_none (length b.body) false (join_in t) (clean_of false l b t n.0).lists refl in
      ap (λ y. with_join y (all_joins (map trace_of (walks_from whole (l + 1) bs xs)))) j ∙ no_joins (l + 1) bs xs n.1

  none_agree : (rs : List ℕ) → lists_agree [] rs ≡ true
  none_agree [] = refl
  none_agree (r ∷ rs) = none_agree rs

  agree_by : (b : Bool) (xs : Shapes) → lists_agree (all_joins (traces whole xs)) (listed whole.blocks) ≡ b → from_walks b 0 whole.blocks xs ≡ None → b ≡ true
  agree_by true xs e q = refl
  agree_by false xs e q =
      let n = no_joins 0 whole.blocks xs q in
      absurd (false≢true (sym e ∙ (ap (λ y. lists_agree y (listed whole.blocks)) n ∙ none_agree (listed whole.blocks))))

  -- nothing broken: the lists agree
  pub agrees : (xs : Shapes) → break_by whole xs ≡ None → lists_agree (all_joins (traces whole xs)) (listed whole.blocks) ≡ true
  agrees xs q = agree_by (lists_agree (all_joins (traces whole xs)) (listed whole.blocks)) xs refl q

  -- ---- below an assignment that meets the rules

  module _ (A : Shapes) (n : ℕ) where
    trace_below : (x y : Walked) → WalkBelow A whole x y → TraceBelow (Some x.trace) (Some y.trace)
    trace_below x y w = (w.join, w.forks)

    one_below : (agree : Bool) (l : ℕ) (block : Block) (x y : Option Shape) → ShapeBelow x y → ShapeProper n x → Clean agree l block (trace_of (walk_of whole l block y)) → holds_all A (all_flows (walk_of whole l block y ∷ [])) ≡ true
        → (walk_break (trace_of (walk_of whole l block x)) ≡ None) × TraceBelow (trace_of (walk_of whole l block x)) (trace_of (walk_of whole l block y)) × (holds_all A (all_flows (walk_of whole l block x ∷ [])) ≡ true)
    one_below agree l block None y w v c q = (refl, tt, refl)
    one_below agree l block (Some s) None w v c q = absurd w
    one_below agree l block (Some s) (Some t) w v c q =
        let z = blocks_below A whole l n block s t v w c.walked (all_left A (block_walk whole l block t).flows [] q) in
        (z.broken, trace_below (block_walk whole l block s) (block_walk whole l block t) z, all_both A (block_walk whole l block s).flows [] z.flows refl)

    cons_left : (w : Option Walked) (ws : List (Option Walked)) → holds_all A (all_flows (w ∷ ws)) ≡ true → holds_all A (all_flows (w ∷ [])) ≡ true
    cons_left None ws q = refl
    cons_left (Some w) ws q = all_both A w.flows [] (all_left A w.flows (all_flows ws) q) refl

    cons_right : (w : Option Walked) (ws : List (Option Walked)) → holds_all A (all_flows (w ∷ ws)) ≡ true → holds_all A (all_flows ws) ≡ true
    cons_right None ws q = q
    cons_right (Some w) ws q = all_right A w.flows (all_flows ws) q

    cons_both : (w : Option Walked) (ws : List (Option Walked)) → holds_all A (all_flows (w ∷ [])) ≡ true → holds_all A (all_flows ws) ≡ true → holds_all A (all_flows (w ∷ ws)) ≡ true
    cons_both None ws p q = q
    cons_both (Some w) ws p q = all_both A w.flows (all_flows ws) (all_left A w.flows [] p) q

    record AllWalks (l : ℕ) (blocks : List Block) (xs ys : Shapes) : Type 0 where
      broken : from_walks true l blocks xs ≡ None
      traces : TracesBelow (map trace_of (walks_from whole l blocks xs)) (map trace_of (walks_from whole l blocks ys))
      flows : holds_all A (all_flows (walks_from whole l blocks xs)) ≡ true

    list_true : (at : ℕ) (j : Option (List Kind)) → list_break true at j ≡ None
    list_true at None = refl
    list_true at (Some xs) = refl

    all_below : (l : ℕ) (blocks : List Block) (xs ys : Shapes) → AllBelow xs ys → AllProper n xs → from_walks true l blocks ys ≡ None → holds_all A (all_flows (walks_from whole l blocks ys)) ≡ true → AllWalks l blocks xs ys
    all_below l [] xs ys w v q h = record { broken = refl; traces = tt; flows = refl }
    all_below l (b ∷ bs) [] ys w v q h = record { broken = refl; traces = tt; flows = refl }
    all_below l (b ∷ bs) (x ∷ xs) [] w v q h = absurd w
    all_below l (b ∷ bs) (x ∷ xs) (y ∷ ys) w v q h =
        let wx = walk_of whole l b x in
        let wy = walk_of whole l b y in
        let k = break_none l (break_in whole true l b (trace_of wy)) (λ _. from_walks true (l + 1) bs ys) q in
        let c = clean_of true l b (trace_of wy) k.0 in
        let o = one_below true l b x y w.0 v.0 c (cons_left wy (walks_from whole (l + 1) bs ys) h) in
        let r = all_below (l + 1) bs xs ys w.1 v.1 k.1 (cons_right wy (walks_from whole (l + 1) bs ys) h) in
        record {
          broken = none_break l (break_in whole true l b (trace_of wx)) (λ _. from_walks true (l + 1) bs xs)
              (is_clean true l b (trace_of wx) (record { flat = c.flat; walked = o.0; lists = list_true (length b.body) (join_in (trace_of wx)) })) r.broken;
          traces = (o.1, r.traces);
          flows = cons_both wx (walks_from whole (l + 1) bs xs) o.2 r.flows;
        }

  -- an assignment below one that meets the rules breaks nothing, and all that flows is held above
  module _ (ys : Shapes) (n : ℕ) where
    as_true : break_by whole ys ≡ None → from_walks true 0 whole.blocks ys ≡ None
    as_true q = subst (λ b. from_walks b 0 whole.blocks ys ≡ None) (agrees ys q) q

    walks_of : holds_all ys (flows_of whole ys) ≡ true → break_by whole ys ≡ None → (xs : Shapes) → AllBelow xs ys → AllProper n xs → AllWalks ys n 0 whole.blocks xs ys
    walks_of h q xs w v =
        all_below ys n 0 whole.blocks xs ys w v (as_true q) (all_left ys (all_flows (walks whole ys)) (comb_flows whole (all_joins (traces whole ys)) (all_forks (traces whole ys))) h)

    pub held_below : holds_all ys (flows_of whole ys) ≡ true → break_by whole ys ≡ None → (xs : Shapes) → AllBelow xs ys → AllProper n xs → holds_all ys (flows_of whole xs) ≡ true
    held_below h q xs w v =
        let z = walks_of h q xs w v in
        all_both ys (all_flows (walks whole xs)) (comb_flows whole (all_joins (traces whole xs)) (all_forks (traces whole xs))) z.flows
        (comb_held ys whole (traces whole xs) (traces whole ys) z.traces (agrees ys q) (all_right ys (all_flows (walks whole ys)) (comb_flows whole (all_joins (traces whole ys)) (all_forks (traces whole ys))) h))

    pub unbroken_below : holds_all ys (flows_of whole ys) ≡ true → break_by whole ys ≡ None → (xs : Shapes) → AllBelow xs ys → AllProper n xs → break_by whole xs ≡ None
    unbroken_below h q xs w v =
        let z = walks_of h q xs w v in
        let a = lists_below (traces whole xs) (traces whole ys) (listed whole.blocks) z.traces (agrees ys q) in
        subst (λ b. from_walks b 0 whole.blocks xs ≡ None) (sym a) z.broken

-- ---- the laws

pub least_below : (code : Listing) (ys : Shapes) → MeetsRules code ys → AllBelow (least (ground_of code)) ys
least_below code ys m =
    let g = ground_of code in
    settled_below (height g) g.cells g ys (held_below g ys g.cells m.flows m.rules) (start g) (start_below g ys m.each_block m.first) (start_proper g)

pub accepts : (code : Listing) (ys : Shapes) → MeetsRules code ys → Accepted code
accepts code ys m =
    let g = ground_of code in
    unbroken_below g ys g.cells m.flows m.rules (least g) (least_below code ys m) (settled_proper (height g) g.cells g (start g) (start_proper g))

pub least_meets : (code : Listing) → Accepted code → MeetsRules code (least (ground_of code))
least_meets code q =
    let g = ground_of code in
    let grown = settled_grows (height g) g (start g) in
    record {
      each_block = sym (all_length (start g) (least g) grown) ∙ start_length g;
      first = holds_above (start g) (least g) (0, first_shape g.cells) grown (start_holds g);
      flows = least_fixed g;
      rules = q;
    }
