-- A range of a `par` that is cut, as frames.
use Rattle.frame_machine.proofs.Begins.{At, NoneFixed, Ops, UnitAt, Units, accs_around, at_lookup}
use Rattle.frame_machine.proofs.Begins.{lawful_reduced, units_accs}
use Rattle.frame_machine.proofs.Bends.{Keeps, keeps_refl, keeps_trans, name_is}
use Rattle.frame_machine.proofs.Joining.{joins_alike, joins_from}
use Rattle.frame_machine.proofs.Moving.{within}
use Rattle.frame_machine.proofs.Numbers.{iterations_in_range, units_right}
use Rattle.frame_machine.proofs.Ranges.{Around, low}
use Rattle.frame_machine.specs.Bodies.{Unreduced}
use Rattle.frame_machine.specs.Fitting.{numbers_of, operators_of}
use Rattle.frame_machine.specs.FrameLaws.{ops_of}
use Rattle.frame_machine.specs.Iterating.{LoopInRange, iterations_in}
use Rattle.frame_machine.specs.Joins.{Joins, SameRound, combined, combined_by, names_of, units_for}
use Rattle.frame_machine.specs.Joins.{upper_start}
use Rattle.frame_machine.specs.Lawful.{Distinct, DistinctTargets, FixedIn, Lawful, TargetsIn}
use Rattle.frame_machine.specs.Lawful.{modes_in}
use Rattle.frame_machine.specs.Modes.{Modes}
use Rattle.frame_machine.specs.Parts.{AgreeOn, From, Seen, Written}
use Rattle.frame_machine.specs.Splitting.{merged, with_units}
use Rattle.loop_meaning.proofs.Runs.{iterate_notes}
use Rattle.loop_meaning.specs.Frames.{accs_of, with_accs}
use Rattle.loop_meaning.specs.InRange.{InRange, VariableInRange}
use Rattle.loop_meaning.specs.State.{Note, State, assign, done, lookup}
use Rattle.loop_meaning.specs.Statements.{given, iterate}
use Rattle.loop_meaning.specs.declared.value.Variable.{Variable}
use Rattle.loop_rules.specs.Names.{is_in, operator_of}
use Rattle.loop_syntax.specs.declared.ParLoop.{ParLoop}
use Rattle.loop_syntax.specs.declared.Program.{Program}
use Rattle.loop_syntax.specs.declared.Reduce.{Reduce}
use Rattle.reduce_ops.specs.Reduction.{combine, unit}
use Rattle.std.proofs.Common.{All, Bool, List, None, Option, Some, [], ap, arith, bytes_eq, cond}
use Rattle.std.proofs.Common.{false, inl, inr, length, map, pos, refl, subst, suc, sym, true, ℕ, ℤ}
use Rattle.std.proofs.Common.{◌+ℤ◌, ◌+◌, ◌||◌, ◌∙◌, ◌∷◌, ◌≡◌, ◌≤◌}
use Rattle.std.proofs.lemmas.Int.{ints}
use Rattle.std.proofs.lemmas.List.Elements.{All-cons, All-head, All-nil, All-tail}
use Rattle.std.proofs.lemmas.Slice.Eq.{bytes_eq-Decides}
use Rattle.tp_value.specs.declared.Op.{Op}
use Rattle.tp_value.specs.declared.Table.{Table}
use Rattle.tp_value.specs.declared.limits.TheConstants.{MAX_CALL_DEPTH}

-- ---- variables round the loop

keeps_from : (G : List ℕ → Type 0) (a b : List ℕ → ℤ) → ((x : List ℕ) → G x → b x ≡ a x) → (vs us : List Variable) → names_of us ≡ names_of vs → At a vs → At b us → Keeps G vs us
keeps_from G a b f [] us e p q = tt
keeps_from G a b f (v ∷ vs) [] e p q = absurd (let z : ([] ≡ v.name ∷ names_of vs) = e in cc)
keeps_from G a b f (v ∷ vs) (u ∷ us) e p q =
    let n : u.name ≡ v.name = ap (head_or v.name) e in
    (n, λ g. sym q.0 ∙ ap b n ∙ f v.name g ∙ p.0, keeps_from G a b f vs us (ap rest_of e) p.1 q.1)
  where
    head_or : List ℕ → List (List ℕ) → List ℕ
    head_or d [] = d
    head_or d (x ∷ xs) = x

    rest_of : List (List ℕ) → List (List ℕ)
    rest_of [] = []
    rest_of (x ∷ xs) = xs

length_names : (vs us : List Variable) → names_of us ≡ names_of vs → length us ≡ length vs
length_names vs us e = sym (count us) ∙ ap length e ∙ count vs
  where
    count : (ws : List Variable) → length (names_of ws) ≡ length ws
    count [] = refl
    count (w ∷ ws) = ap suc (count ws)

-- units over variables that agree are units
units_between : (rs : List Reduce) (vs ws us : List Variable) → Keeps (Unreduced rs) vs ws → length ws ≡ length vs → Units rs ws us → Units rs vs us
units_between rs [] [] us k l p = p
units_between rs [] (w ∷ ws) us k l p = absurd (omega (arith, l))
units_between rs (v ∷ vs) [] us k l p = absurd k
units_between rs (v ∷ vs) (w ∷ ws) [] k l p = absurd p
units_between rs (v ∷ vs) (w ∷ ws) (u ∷ us) k l p =
    (p.0 ∙ k.0, go (operator_of rs v.name) refl, units_between rs vs ws us k.2 (omega (arith, l)) p.2)
  where
    named : operator_of rs w.name ≡ operator_of rs v.name
    named = ap (operator_of rs) k.0

    go : (q : Option Op) → operator_of rs v.name ≡ q → UnitAt q v.value u.value
    go None e = subst (λ q. UnitAt q w.value u.value) (named ∙ e) p.1 ∙ k.1 e
    go (Some o) e = subst (λ q. UnitAt q w.value u.value) (named ∙ e) p.1

module _ (l : ParLoop) (vs ws : List Variable) (distinct : Distinct (names_of vs)) (targets : DistinctTargets l.reduces.items) (same : SameRound l.reduces.items vs ws) where
  unreduced_kept : Keeps (Unreduced l.reduces.items) vs ws
  unreduced_kept =
      keeps_from (Unreduced l.reduces.items) (λ y. lookup vs y) (λ y. lookup ws y) same.values vs ws same.names
      (at_lookup vs distinct) (at_lookup ws (subst Distinct (sym same.names) distinct))

  pub round_units : Units l.reduces.items vs (with_accs l.reduces.items (units_for l.reduces.items) ws)
  round_units =
      units_between l.reduces.items vs ws (with_accs l.reduces.items (units_for l.reduces.items) ws) unreduced_kept (length_names vs ws same.names)
      (units_accs l.reduces.items ws targets (subst Distinct (sym same.names) distinct))

  -- where the fixed variables are the loop's own and those that it doesn't reduce
  pub round_around : (xs : List (Op × ℤ)) → NoneFixed (FixedIn (names_of vs) l.reduces.items l.var.text.items) l.reduces.items → is_in (names_of vs) l.var.text.items ≡ false → Around (FixedIn (names_of vs) l.reduces.items l.var.text.items) vs (with_accs l.reduces.items xs ws)
  round_around xs none fresh =
      let F = FixedIn (names_of vs) l.reduces.items l.var.text.items in
      let a = accs_around F l.reduces.items xs ws none in
      record {
        keeps = keeps_trans F vs ws (with_accs l.reduces.items xs ws) (fixed vs ws (λ y h. h) unreduced_kept) a.keeps;
        size = a.size ∙ length_names vs ws same.names;
      }
    where
      fixed : (us zs : List Variable) → ((y : List ℕ) → is_in (names_of us) y ≡ true → is_in (names_of vs) y ≡ true) → Keeps (Unreduced l.reduces.items) us zs → Keeps (FixedIn (names_of vs) l.reduces.items l.var.text.items) us zs
      fixed [] zs f k = tt
      fixed (u ∷ us) [] f k = absurd k
      fixed (u ∷ us) (z ∷ zs) f k = (k.0, λ g. k.1 (un g), fixed us zs (λ y h. f y (late (bytes_eq u.name y) (is_in (names_of us) y) h)) k.2)
        where
          late : (b c : Bool) → c ≡ true → (b || c) ≡ true
          late true c h = refl
          late false c h = h

          seen : is_in (names_of vs) u.name ≡ true
          seen = f u.name (ap (λ b. b || is_in (names_of us) u.name) ((bytes_eq-Decides u.name u.name).1 refl))

          un : FixedIn (names_of vs) l.reduces.items l.var.text.items u.name → Unreduced l.reduces.items u.name
          un (inl p) = p.1
          un (inr e) = absurd (let q : true ≡ false = sym seen ∙ ap (is_in (names_of vs)) e ∙ fresh in cc)

-- ---- the law from the first state of the iterations, whatever they note, where the upper part has other variables round it

pub iterations_join_from : (p : Program) (outer : Modes) (l : ParLoop) (fuel room : ℕ) (again begin again' begin' : List Note) (a b : ℕ) (i : ℤ) (vs : List Variable) (s : State) (ws : List Variable) (ts : List Table)
    → Lawful p outer (names_of vs) l → room ≤ MAX_CALL_DEPTH → LoopInRange p l s i (i +ℤ pos a) → s.ticks ≤ fuel
    → Around (FixedIn (names_of vs) l.reduces.items l.var.text.items) vs s.vars → SameRound l.reduces.items vs ws → AgreeOn (Seen (From (i +ℤ pos a)) vs (modes_in outer l)) ts s.tables
    → Joins fuel l.reduces.items (Seen (From (i +ℤ pos a)) vs (modes_in outer l)) (Written (From (i +ℤ pos a)) vs (modes_in outer l))
    (iterations_in p fuel room l again begin a i s)
    (iterations_in p fuel room l again' begin' b (i +ℤ pos a) (upper_start l.reduces.items ws ts))
    (iterations_in p fuel room l again begin (a + b) i s)
iterations_join_from p outer l fuel room again begin again' begin' a b i vs s ws ts rules low range within around same given =
    joins_alike fuel l.reduces.items _ _ _ _ _ _ _ _
    (iterate_notes a fuel l.var.text.items _ again begin i s) (iterate_notes b fuel l.var.text.items _ again' begin' (i +ℤ pos a) (upper_start l.reduces.items ws ts)) (iterate_notes (a + b) fuel l.var.text.items _ again begin i s)
    (joins_from p outer l fuel room vs rules a b i s (upper_start l.reduces.items ws ts)
    (record {
      within = within;
      around = around;
      upper = round_around l vs ws rules.distinct rules.targets same (units_for l.reduces.items) (lawful_reduced p outer l vs rules) rules.fresh;
      units = round_units l vs ws rules.distinct rules.targets same;
      given = given;
      output = refl;
      ticks = refl;
    })
    (λ d. units_right l.reduces.items _ (iterations_in_range p fuel l a i s range room low).vars))

pub iterations_join : (p : Program) (outer : Modes) (l : ParLoop) (fuel room : ℕ) (again begin again' begin' : List Note) (a b : ℕ) (i : ℤ) (s : State) (ws : List Variable) (ts : List Table)
    → Lawful p outer (names_of s.vars) l → room ≤ MAX_CALL_DEPTH → LoopInRange p l s i (i +ℤ pos a) → s.ticks ≤ fuel
    → SameRound l.reduces.items s.vars ws → AgreeOn (Seen (From (i +ℤ pos a)) s.vars (modes_in outer l)) ts s.tables
    → Joins fuel l.reduces.items (Seen (From (i +ℤ pos a)) s.vars (modes_in outer l)) (Written (From (i +ℤ pos a)) s.vars (modes_in outer l))
    (iterations_in p fuel room l again begin a i s)
    (iterations_in p fuel room l again' begin' b (i +ℤ pos a) (upper_start l.reduces.items ws ts))
    (iterations_in p fuel room l again begin (a + b) i s)
iterations_join p outer l fuel room again begin again' begin' a b i s ws ts rules low range within same given =
    iterations_join_from p outer l fuel room again begin again' begin' a b i s.vars s ws ts rules low range within
    (record { keeps = keeps_refl _ s.vars; size = refl }) same given

-- iterations from any accumulators end with these combined with what they come to from units
pub iterations_from_units : (p : Program) (outer : Modes) (l : ParLoop) (fuel room : ℕ) (again begin again' begin' : List Note) (n : ℕ) (i : ℤ) (s : State) (ws : List Variable) (ts : List Table)
    → Lawful p outer (names_of s.vars) l → room ≤ MAX_CALL_DEPTH → LoopInRange p l s i i → s.ticks ≤ fuel
    → SameRound l.reduces.items s.vars ws → AgreeOn (Seen (From i) s.vars (modes_in outer l)) ts s.tables
    → Joins fuel l.reduces.items (Seen (From i) s.vars (modes_in outer l)) (Written (From i) s.vars (modes_in outer l))
    (done s)
    (iterations_in p fuel room l again' begin' n i (upper_start l.reduces.items ws ts))
    (iterations_in p fuel room l again begin n i s)
unfolding iterate
iterations_from_units p outer l fuel room again begin again' begin' n i s ws ts rules low range within same given =
    let e : i +ℤ pos 0 ≡ i = omega (arith, ints) in
    let z : 0 + n ≡ n = omega arith in
    subst (λ (j : ℤ). Joins fuel l.reduces.items (Seen (From j) s.vars (modes_in outer l)) (Written (From j) s.vars (modes_in outer l)) (done s) (iterations_in p fuel room l again' begin' n j (upper_start l.reduces.items ws ts)) (iterations_in p fuel room l again begin n i s)) e
    (subst (λ (k : ℕ). Joins fuel l.reduces.items (Seen (From (i +ℤ pos 0)) s.vars (modes_in outer l)) (Written (From (i +ℤ pos 0)) s.vars (modes_in outer l)) (done s) (iterations_in p fuel room l again' begin' n (i +ℤ pos 0) (upper_start l.reduces.items ws ts)) (iterations_in p fuel room l again begin k i s)) z
    (iterations_join p outer l fuel room again begin again' begin' 0 n i s ws ts rules low
    (subst (λ (j : ℤ). LoopInRange p l s i j) (sym e) range) within same
    (subst (λ (j : ℤ). AgreeOn (Seen (From j) s.vars (modes_in outer l)) ts s.tables) (sym e) given)))

-- ---- accumulators

pub accs_in : (rs : List Reduce) (accs : List (Op × ℤ)) (vs : List Variable) → All InRange (numbers_of accs) → All VariableInRange vs → All VariableInRange (with_accs rs accs vs)
accs_in [] accs vs h v = v
accs_in (r ∷ rs) [] vs h v = v
accs_in (r ∷ rs) (a ∷ accs) vs h v =
    accs_in rs accs (assign vs r.target.text.items a.1) (All-tail InRange a.1 (numbers_of accs) h) (assign_in vs r.target.text.items a.1 (All-head InRange a.1 (numbers_of accs) h) v)
  where
    assign_in : (us : List Variable) (x : List ℕ) (n : ℤ) → InRange n → All VariableInRange us → All VariableInRange (assign us x n)
    assign_in [] x n f g = All-nil VariableInRange
    assign_in (u ∷ us) x n f g = go (bytes_eq u.name x) (assign_in us x n f (All-tail VariableInRange u us g))
      where
        go : (b : Bool) → All VariableInRange (assign us x n) → All VariableInRange (cond b (record { name = u.name; value = n } ∷ us) (u ∷ assign us x n))
        go true r = All-cons VariableInRange (record { name = u.name; value = n }) us f (All-tail VariableInRange u us g)
        go false r = All-cons VariableInRange u (assign us x n) (All-head VariableInRange u us g) r

-- accumulators with these operators have the units of the reduce list
pub units_are : (rs : List Reduce) (accs : List (Op × ℤ)) → operators_of accs ≡ ops_of rs → with_units accs ≡ units_for rs
units_are rs accs e = through accs ∙ ap (map (λ (o : Op). (o, unit o))) e ∙ back rs
  where
    through : (xs : List (Op × ℤ)) → with_units xs ≡ map (λ (o : Op). (o, unit o)) (operators_of xs)
    through [] = refl
    through (x ∷ xs) = ap (λ zs. (x.0, unit x.0) ∷ zs) (through xs)

    back : (qs : List Reduce) → map (λ (o : Op). (o, unit o)) (ops_of qs) ≡ units_for qs
    back [] = refl
    back (q ∷ qs) = ap (λ zs. (q.op, unit q.op) ∷ zs) (back qs)

lookup_combined : (rs : List Reduce) (us vs : List Variable) (y : List ℕ) → names_of vs ≡ names_of us → is_in (names_of us) y ≡ true → lookup (combined rs us vs) y ≡ combined_by (operator_of rs y) (lookup us y) (lookup vs y)
lookup_combined rs [] vs y e h = absurd (let z : false ≡ true = h in cc)
lookup_combined rs (u ∷ us) [] y e h = absurd (let z : ([] ≡ u.name ∷ names_of us) = e in cc)
lookup_combined rs (u ∷ us) (v ∷ vs) y e h = go (bytes_eq u.name y) refl (lookup_combined rs us vs y (ap rest_of e))
  where
    head_or : List ℕ → List (List ℕ) → List ℕ
    head_or d [] = d
    head_or d (x ∷ xs) = x

    rest_of : List (List ℕ) → List (List ℕ)
    rest_of [] = []
    rest_of (x ∷ xs) = xs

    name : v.name ≡ u.name
    name = ap (head_or u.name) e

    go : (b : Bool) → bytes_eq u.name y ≡ b → (is_in (names_of us) y ≡ true → lookup (combined rs us vs) y ≡ combined_by (operator_of rs y) (lookup us y) (lookup vs y)) → lookup (combined rs (u ∷ us) (v ∷ vs)) y ≡ combined_by (operator_of rs y) (lookup (u ∷ us) y) (lookup (v ∷ vs) y)
    go true f k = rw (name, f) (ap (λ x. combined_by (operator_of rs x) u.value v.value) (name_is u.name y f))
    go false f k = rw (name, f) (k (rw f at h))

pub accs_merged : (all : List Reduce) (us vs : List Variable) → names_of vs ≡ names_of us → (rs : List Reduce) → Ops all rs → TargetsIn (names_of us) rs → accs_of rs (combined all us vs) ≡ merged (ops_of rs) (accs_of rs us) (accs_of rs vs)
accs_merged all us vs e [] o v = refl
accs_merged all us vs e (r ∷ rs) o v =
    ap (λ n. n ∷ accs_of rs (combined all us vs)) (lookup_combined all us vs r.target.text.items e v.0 ∙ ap (λ q. combined_by q (lookup us r.target.text.items) (lookup vs r.target.text.items)) o.0)
    ∙ ap (λ ns. combine r.op (lookup us r.target.text.items) (lookup vs r.target.text.items) ∷ ns) (accs_merged all us vs e rs o.1 v.1)
