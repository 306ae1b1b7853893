-- What iterations of a `par` leave, and what those of both parts of one that is cut come to.
use Rattle.std.proofs.Common.{◌≡◌, ℕ, ◌+◌, ◌-◌, ◌<◌, ◌≤◌, Bool, true, false, cond, List, [], ◌∷◌}
use Rattle.std.proofs.Common.{map, length, bytes_eq, inl, refl, sym, ap, subst, ◌∙◌, Some, None}
use Rattle.std.proofs.Common.{⊎_elim, arith}
use Rattle.std.proofs.lemmas.Bool.{cases_lt}
use Rattle.std.proofs.lemmas.Int.{ints}
use Rattle.std.proofs.lemmas.Slice.Eq.{bytes_eq-Decides}
use Rattle.std.specs.Prelude.{ℤ, pos, ⊤, ◌+ℤ◌, ◌≤ℤ◌}
use Rattle.std.specs.List.{All}
use Rattle.tp_value.specs.declared.limits.TheConstants.{MAX_CALL_DEPTH}
use Rattle.tp_value.specs.declared.Op.{Op}
use Rattle.tp_value.specs.declared.Place.{Place}
use Rattle.tp_value.specs.declared.Stop.TheVariants.{Done, Left}
use Rattle.tp_value.specs.declared.Table.{Table}
use Rattle.loop_syntax.specs.declared.ParLoop.{ParLoop}
use Rattle.loop_syntax.specs.declared.Program.{Program}
use Rattle.loop_syntax.specs.declared.Reduce.{Reduce}
use Rattle.loop_meaning.proofs.OnlyLeaves.{calls_stay, iterations_stay}
use Rattle.loop_meaning.proofs.Runs.{iterate_notes}
use Rattle.loop_meaning.proofs.Telling.{iterations_move, iterations_tell}
use Rattle.loop_meaning.specs.Ends.{EndAlike}
use Rattle.loop_meaning.specs.Calls.{call_at}
use Rattle.loop_meaning.specs.Frames.{with_accs}
use Rattle.loop_meaning.specs.Only.{IsNeverLeft, LeavesNothing}
use Rattle.loop_meaning.specs.State.{Note, Ran, State, assign, lookup}
use Rattle.loop_meaning.specs.Statements.{run_list}
use Rattle.loop_meaning.specs.Told.{Moves, Shape, Spent, shapes}
use Rattle.loop_meaning.specs.declared.value.Variable.{Variable}
use Rattle.loop_rules.specs.Names.{is_in, operator_of}
use Rattle.frame_machine.specs.Iterating.{CutLoop, LoopCut, LoopLaw, LowerWritten, body_setting}
use Rattle.frame_machine.specs.Iterating.{iterations_in, lower_of, middle_of, upper_of, whole_of}
use Rattle.frame_machine.specs.Joins.{SameRound, names_of, units_for, upper_start}
use Rattle.frame_machine.specs.Lawful.{DistinctTargets, FixedIn, Lawful, TargetsIn}
use Rattle.frame_machine.specs.Modes.{Modes}
use Rattle.frame_machine.specs.Parts.{AgreeOn, Outside}
use Rattle.frame_machine.specs.Splitting.{merged}
use Rattle.frame_machine.specs.FrameLaws as frames
use Rattle.frame_machine.proofs.Following.{goes_done}
use Rattle.frame_machine.proofs.Framing.{accs_merged, iterations_join}
use Rattle.frame_machine.proofs.Joining.{low_done, lower_kept, up_done, upper_kept}
use Rattle.join_gen.specs.LoopJoins.{ops_of}
use Rattle.expr_lower.specs.declared.scope.Scope.{Scope}
use Rattle.scene_laws.specs.Sites.{accs_of}
use Rattle.scene_laws.proofs.Cuts.Sides.{numbers_in}
use Rattle.scene_laws.proofs.Scenes.Tables.{table_names}
use Rattle.scene_laws.proofs.Scenes.Variables.{names_assign}

-- ---- variables that stay

-- the variables of a list stay one by one, with the values of those that are fixed
abbrev Stay : (List ℕ → Type 0) → List Variable → List Variable → Type 0
Stay F [] us = ⊤
Stay F (v ∷ vs) [] = ⊥
Stay F (v ∷ vs) (u ∷ us) = (u.name ≡ v.name) × (F v.name → u.value ≡ v.value) × Stay F vs us

stay_named : (F : List ℕ → Type 0) (vs us : List Variable) → Stay F vs us
    → length us ≡ length vs → names_of us ≡ names_of vs
stay_named F [] [] stay same = refl
stay_named F [] (u ∷ us) stay same = absurd (omega (arith, same))
stay_named F (v ∷ vs) [] stay same = absurd stay
stay_named F (v ∷ vs) (u ∷ us) stay same =
    ap (λ n. n ∷ names_of us) stay.0
    ∙ ap (λ ns. v.name ∷ ns) (stay_named F vs us stay.2 (omega (arith, same)))

stay_valued : (F : List ℕ → Type 0) (vs us : List Variable) (y : List ℕ) → Stay F vs us
    → length us ≡ length vs → (is_in (names_of vs) y ≡ true → F y) → lookup us y ≡ lookup vs y
stay_valued F [] [] y stay same fixed = refl
stay_valued F [] (u ∷ us) y stay same fixed = absurd (omega (arith, same))
stay_valued F (v ∷ vs) [] y stay same fixed = absurd stay
stay_valued F (v ∷ vs) (u ∷ us) y stay same fixed =
    go (bytes_eq v.name y) refl
    (λ more. stay_valued F vs us y stay.2 (omega (arith, same)) more)
  where
    go : (b : Bool) → bytes_eq v.name y ≡ b
        → ((is_in (names_of vs) y ≡ true → F y) → lookup us y ≡ lookup vs y)
        → lookup (u ∷ us) y ≡ lookup (v ∷ vs) y
    go true is behind =
        let here : F v.name =
        subst F (sym ((bytes_eq-Decides v.name y).0 is)) (fixed (rw is refl)) in
        rw (stay.0, is) (stay.1 here)
    go false is behind = rw (stay.0, is) (behind (λ more. fixed (rw is more)))

-- where all that a loop doesn't reduce is fixed
same_round : (rs : List Reduce) (x : List ℕ) (vs us : List Variable)
    → Stay (FixedIn (names_of vs) rs x) vs us → length us ≡ length vs → SameRound rs vs us
same_round rs x vs us stay same = record {
  names = stay_named (FixedIn (names_of vs) rs x) vs us stay same;
  values = λ y plain. stay_valued (FixedIn (names_of vs) rs x) vs us y stay same
      (λ among. inl (among, plain));
}

-- ---- iterations alone

names_by_shape : (ts : List Table) → map (λ (h : Shape). h.name) (shapes ts) ≡ table_names ts
names_by_shape [] = refl
names_by_shape (t ∷ ts) = ap (λ ns. t.name ∷ ns) (names_by_shape ts)

module _ (p : Program) (fuel : ℕ) (l : ParLoop) (n : ℕ) (i : ℤ) (s : State) where
  -- where so many calls may be open
  abbrev run_at : ℕ → State → Ran
  run_at room u = iterations_in p fuel room l [] [] n i u

  abbrev Named : ℕ → Type 0
  Named room = table_names (run_at room s).state.tables ≡ table_names s.tables

  abbrev Within : ℕ → Type 0
  Within room = (run_at room s).state.ticks ≤ fuel + 1

  named_at : (depth : ℕ) → Named (MAX_CALL_DEPTH - depth)
  named_at depth =
      sym (names_by_shape (run_at (MAX_CALL_DEPTH - depth) s).state.tables)
      ∙ (ap (map (λ (h : Shape). h.name))
      ((iterations_tell p fuel depth l.reduces.items l.body.items l.var.text.items [] [] refl refl n
      i).sizes s) ∙ names_by_shape s.tables)

  ticks_at : (depth : ℕ) → s.ticks ≤ fuel → Within (MAX_CALL_DEPTH - depth)
  ticks_at depth within =
      ⊎_elim (λ (over : fuel < (run_at (MAX_CALL_DEPTH - depth) s).state.ticks). spent over)
      (λ (under : (run_at (MAX_CALL_DEPTH - depth) s).state.ticks ≤ fuel). omega (arith, under))
      (cases_lt fuel (run_at (MAX_CALL_DEPTH - depth) s).state.ticks)
    where
      moves : Moves fuel (run_at (MAX_CALL_DEPTH - depth))
      moves =
          iterations_move p fuel depth l.reduces.items l.body.items l.var.text.items [] [] refl refl
          n i

      unmoved : record s { ticks = s.ticks + 0 } ≡ s
      unmoved = ap (λ t. record s { ticks = t }) (omega arith)

      spent : fuel < (run_at (MAX_CALL_DEPTH - depth) s).state.ticks
          → Within (MAX_CALL_DEPTH - depth)
      spent over =
          let out : Spent fuel (run_at (MAX_CALL_DEPTH - depth)
          (record s { ticks = s.ticks + 0 })) =
          moves.spent 0 [] s (omega (arith, within)) (omega (arith, over)) in
          let here : Spent fuel (run_at (MAX_CALL_DEPTH - depth) s) =
          subst (λ u. Spent fuel (run_at (MAX_CALL_DEPTH - depth) u)) unmoved out in
          omega (arith, here.ticks)

room_back : (room : ℕ) → room ≤ MAX_CALL_DEPTH → MAX_CALL_DEPTH - (MAX_CALL_DEPTH - room) ≡ room
room_back room low = omega (arith, low)

-- a call is never left where the functions have no `leave` of their own
pub call_never_left : (p : Program) (fuel room : ℕ) → room ≤ MAX_CALL_DEPTH
    → All IsNeverLeft p.funcs.items → (f : List ℕ) (place : Place) (ns : List ℤ)
    (begin : List Note) (s : State) (number : ℤ)
    → (call_at p.funcs.items fuel room f place ns begin s).ran.stop ≡ Left number → ⊥
call_never_left p fuel room low never f place ns begin s number =
    subst (λ (r : ℕ). (call_at p.funcs.items fuel r f place ns begin s).ran.stop ≡ Left number → ⊥)
    (room_back room low)
    (calls_stay p fuel never (MAX_CALL_DEPTH - room) [] f place ns begin s number)

-- whatever they note where they begin
module _ (p : Program) (fuel room : ℕ) (l : ParLoop) (again begin : List Note) (n : ℕ) (i : ℤ)
    (s : State) where
  abbrev ran : Ran
  ran = iterations_in p fuel room l again begin n i s

  unnoted : EndAlike ran (iterations_in p fuel room l [] [] n i s)
  unnoted =
      iterate_notes n fuel l.var.text.items (run_list (body_setting p fuel room l) l.body.items)
      again begin i s

  -- tables keep their names
  pub tables_named : room ≤ MAX_CALL_DEPTH → table_names ran.state.tables ≡ table_names s.tables
  tables_named low =
      ap (λ (u : State). table_names u.tables) unnoted.state
      ∙ subst (Named p fuel l n i s) (room_back room low)
      (named_at p fuel l n i s (MAX_CALL_DEPTH - room))

  -- there is at most one tick above the fuel
  pub ticks_within : room ≤ MAX_CALL_DEPTH → s.ticks ≤ fuel → ran.state.ticks ≤ fuel + 1
  ticks_within low within =
      subst (λ k. k ≤ fuel + 1) (sym (ap (λ (u : State). u.ticks) unnoted.state))
      (subst (Within p fuel l n i s) (room_back room low)
      (ticks_at p fuel l n i s (MAX_CALL_DEPTH - room) within))

  -- none is left where the body has no `leave` of its own, and no function has
  pub never_left : room ≤ MAX_CALL_DEPTH → All IsNeverLeft p.funcs.items
      → LeavesNothing l.body.items → (number : ℤ) → ran.stop ≡ Left number → ⊥
  never_left low never stays number =
      subst (λ (r : ℕ). (iterations_in p fuel r l again begin n i s).stop ≡ Left number → ⊥)
      (room_back room low)
      (λ is. iterations_stay p fuel never (MAX_CALL_DEPTH - room) l.reduces.items l.body.items
      l.var.text.items again begin n i s number stays is)

  module _ (outer : Modes) (rules : Lawful p outer (names_of s.vars) l) where
    -- nothing is printed
    pub output_kept : ran.state.output ≡ s.output
    output_kept =
        ap (λ (u : State). u.output) unnoted.state
        ∙ (upper_kept p outer l fuel room [] [] n i i s rules tt tt (omega (arith, ints))).output

    -- the variables round the loop that it doesn't reduce stay
    pub round_kept : ran.stop ≡ Done → SameRound l.reduces.items s.vars ran.state.vars
    round_kept done =
        let ends =
        (lower_kept p outer l fuel room [] [] n i (i +ℤ pos n) s rules tt tt
        (omega (arith, ints))).leaves (goes_done (sym unnoted.stop ∙ done)) in
        subst (λ (u : State). SameRound l.reduces.items s.vars u.vars) (sym unnoted.state)
        (same_round l.reduces.items l.var.text.items s.vars
        (iterations_in p fuel room l [] [] n i s).state.vars ends.claim.keeps ends.claim.size)

    -- and so do the cells that the iterations below a number don't write
    pub cells_kept : (c : ℤ) → (i +ℤ pos n) ≤ℤ c → ran.stop ≡ Done
        → AgreeOn (Outside (LowerWritten outer l s.vars c)) s.tables ran.state.tables
    cells_kept c below done =
        subst (λ (u : State). AgreeOn (Outside (LowerWritten outer l s.vars c)) s.tables u.tables)
        (sym unnoted.state)
        ((lower_kept p outer l fuel room [] [] n i c s rules tt tt below).leaves
        (goes_done (sym unnoted.stop ∙ done))).tables

-- ---- variables with accumulators

pub assign_other : (vs : List Variable) (x y : List ℕ) (n : ℤ) → bytes_eq x y ≡ false
    → lookup (assign vs x n) y ≡ lookup vs y
assign_other [] x y n differ = refl
assign_other (v ∷ vs) x y n differ = go (bytes_eq v.name x) refl (assign_other vs x y n differ)
  where
    go : (b : Bool) → bytes_eq v.name x ≡ b → lookup (assign vs x n) y ≡ lookup vs y
        → lookup (cond b (record { name = v.name; value = n } ∷ vs) (v ∷ assign vs x n)) y
        ≡ lookup (v ∷ vs) y
    go true same behind =
        let other : bytes_eq v.name y ≡ false =
        ap (λ z. bytes_eq z y) ((bytes_eq-Decides v.name x).0 same) ∙ differ in
        rw other refl
    go false same behind = ap (λ m. cond (bytes_eq v.name y) v.value m) behind

accs_named : (rs : List Reduce) (xs : List (Op × ℤ)) (vs : List Variable)
    → names_of (with_accs rs xs vs) ≡ names_of vs
accs_named [] xs vs = refl
accs_named (r ∷ rs) [] vs = refl
accs_named (r ∷ rs) (a ∷ xs) vs =
    accs_named rs xs (assign vs r.target.text.items a.1) ∙ names_assign vs r.target.text.items a.1

accs_other : (rs : List Reduce) (xs : List (Op × ℤ)) (vs : List Variable) (y : List ℕ)
    → operator_of rs y ≡ None → lookup (with_accs rs xs vs) y ≡ lookup vs y
accs_other [] xs vs y plain = refl
accs_other (r ∷ rs) [] vs y plain = refl
accs_other (r ∷ rs) (a ∷ xs) vs y plain =
    go (bytes_eq r.target.text.items y) refl
    (λ behind. accs_other rs xs (assign vs r.target.text.items a.1) y behind)
  where
    go : (b : Bool) → bytes_eq r.target.text.items y ≡ b
        → (operator_of rs y ≡ None
        → lookup (with_accs rs xs (assign vs r.target.text.items a.1)) y
        ≡ lookup (assign vs r.target.text.items a.1) y)
        → lookup (with_accs rs xs (assign vs r.target.text.items a.1)) y ≡ lookup vs y
    go true same behind =
        absurd (let no_way : Some r.op ≡ None = (rw same at plain) in cc)
    go false same behind =
        behind (rw same at plain) ∙ assign_other vs r.target.text.items y a.1 same

-- accumulators change only the variables that are reduced
pub accs_round : (rs : List Reduce) (xs : List (Op × ℤ)) (vs us : List Variable)
    → SameRound rs vs us → SameRound rs vs (with_accs rs xs us)
accs_round rs xs vs us same = record {
  names = accs_named rs xs us ∙ same.names;
  values = λ y plain. accs_other rs xs us y plain ∙ same.values y plain;
}

round_trans : (rs : List Reduce) (vs us ws : List Variable) → SameRound rs vs us
    → SameRound rs us ws → SameRound rs vs ws
round_trans rs vs us ws first second = record {
  names = second.names ∙ first.names;
  values = λ y plain. second.values y plain ∙ first.values y plain;
}

-- ---- operators

-- the operator of each is found under its name
abbrev Finds : List Reduce → List Reduce → Type 0
Finds all [] = ⊤
Finds all (r ∷ rs) = (operator_of all r.target.text.items ≡ Some r.op) × Finds all rs

finds_more : (r : Reduce) (all rs : List Reduce) → operator_of all r.target.text.items ≡ None
    → Finds all rs → Finds (r ∷ all) rs
finds_more r all [] new found = tt
finds_more r all (q ∷ rs) new found =
    (go (bytes_eq r.target.text.items q.target.text.items) refl, finds_more r all rs new found.1)
  where
    go : (b : Bool) → bytes_eq r.target.text.items q.target.text.items ≡ b
        → cond b (Some r.op) (operator_of all q.target.text.items) ≡ Some q.op
    go true is =
        absurd (let no_way : None ≡ Some q.op =
        sym new ∙ (ap (operator_of all)
        ((bytes_eq-Decides r.target.text.items q.target.text.items).0 is) ∙ found.0) in cc)
    go false is = found.0

finds_all : (rs : List Reduce) → DistinctTargets rs → Finds rs rs
finds_all [] differ = tt
finds_all (r ∷ rs) differ =
    (itself, finds_more r rs rs differ.0 (finds_all rs differ.1))
  where
    itself : cond (bytes_eq r.target.text.items r.target.text.items) (Some r.op)
        (operator_of rs r.target.text.items) ≡ Some r.op
    itself = rw ((bytes_eq-Decides r.target.text.items r.target.text.items).1 refl) refl

-- a site has the operators of its loop
pub ops_are : (scope : Scope) (rs : List Reduce) → frames.ops_of rs ≡ ops_of (accs_of scope rs)
ops_are scope [] = refl
ops_are scope (r ∷ rs) = ap (λ os. r.op ∷ os) (ops_are scope rs)

-- ---- a loop that is cut

module _ (p : Program) (outer : Modes) (l : ParLoop) (fuel : ℕ) (c : CutLoop)
    (rules : Lawful p outer (names_of c.state.vars) l) (cut : LoopCut p outer l fuel c) where
  abbrev low : Ran
  low = lower_of p fuel l c

  abbrev up : Ran
  up = upper_of p fuel l c

  abbrev whole : Ran
  whole = whole_of p fuel l c

  pub parts_join : LoopLaw p fuel outer l c
  parts_join =
      iterations_join p outer l fuel c.room c.again c.begin c.upper_again c.upper_begin c.below
      c.above c.first c.state c.vars c.tables rules cut.calls cut.range cut.within cut.round
      cut.given

  -- where the whole is done, both parts are
  pub low_is_done : whole.stop ≡ Done → low.stop ≡ Done
  low_is_done done =
      low_done low.stop low.state.ticks up.stop up.state.ticks fuel (sym parts_join.stop ∙ done)

  pub up_is_done : whole.stop ≡ Done → up.stop ≡ Done
  up_is_done done =
      up_done low.stop low.state.ticks up.stop up.state.ticks fuel (sym parts_join.stop ∙ done)

  -- where the child begins
  pub child_round : SameRound l.reduces.items c.state.vars
      (upper_start l.reduces.items c.vars c.tables).vars
  child_round =
      accs_round l.reduces.items (units_for l.reduces.items) c.state.vars c.vars cut.round

  child_rules : Lawful p outer
      (names_of (upper_start l.reduces.items c.vars c.tables).vars) l
  child_rules = subst (λ names. Lawful p outer names l) (sym child_round.names) rules

  pub low_round : low.stop ≡ Done → SameRound l.reduces.items c.state.vars low.state.vars
  low_round done =
      round_kept p fuel c.room l c.again c.begin c.below c.first c.state outer rules done

  pub up_round : up.stop ≡ Done → SameRound l.reduces.items c.state.vars up.state.vars
  up_round done =
      round_trans l.reduces.items c.state.vars (upper_start l.reduces.items c.vars c.tables).vars
      up.state.vars child_round
      (round_kept p fuel c.room l c.upper_again c.upper_begin c.above (middle_of c)
      (upper_start l.reduces.items c.vars c.tables) outer child_rules done)

  -- the variables round the loop that it doesn't reduce stay
  pub whole_round : whole.stop ≡ Done → SameRound l.reduces.items c.state.vars whole.state.vars
  whole_round done =
      round_kept p fuel c.room l c.again c.begin (c.below + c.above) c.first c.state outer rules
      done

  -- and those that it reduces have the values of both parts combined
  pub numbers_joined : (scope : Scope) → whole.stop ≡ Done
      → numbers_in l.reduces.items whole.state.vars
      ≡ merged (ops_of (accs_of scope l.reduces.items)) (numbers_in l.reduces.items low.state.vars)
      (numbers_in l.reduces.items up.state.vars)
  numbers_joined scope done =
      ap (numbers_in l.reduces.items) (parts_join.vars done)
      ∙ (accs_merged l.reduces.items low.state.vars up.state.vars
      ((up_round (up_is_done done)).names ∙ sym (low_round (low_is_done done)).names)
      l.reduces.items (finds_all l.reduces.items rules.targets)
      (subst (λ names. TargetsIn names l.reduces.items)
      (sym (low_round (low_is_done done)).names) rules.visible)
      ∙ ap (λ os. merged os (numbers_in l.reduces.items low.state.vars)
      (numbers_in l.reduces.items up.state.vars)) (ops_are scope l.reduces.items))
