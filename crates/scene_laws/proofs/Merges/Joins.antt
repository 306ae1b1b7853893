-- Both sides of a `par` that is cut merge to what the whole of it comes to.
use Rattle.std.proofs.Common.{◌≡◌, ℕ, ◌+◌, ◌≤◌, Bool, true, false, cond, List, [], ◌∷◌, ◌++◌}
use Rattle.std.proofs.Common.{length, bytes_eq, drop, refl, sym, ap, subst, ◌∙◌, Some, arith}
use Rattle.std.proofs.Common.{append-nil}
use Rattle.std.proofs.lemmas.Int.{ints}
use Rattle.std.proofs.Math.Seq.{drop-length}
use Rattle.std.specs.List.{AllPairs, IsDistinct, slice_get}
use Rattle.std.specs.Prelude.{pos, ◌+ℤ◌}
use Rattle.beat_count.specs.Joining.{joined_stop, joined_ticks}
use Rattle.slices.specs.Holding.{Holding}
use Rattle.tp_value.specs.declared.Stop.{Stop}
use Rattle.tp_value.specs.declared.Stop.TheVariants.{Done, Left, Trap, NoFuel}
use Rattle.tpal_syntax.specs.Listing.{Listing}
use Rattle.tpal_syntax.specs.Parts as syntax
use Rattle.tpal_syntax.specs.declared.notes.CarryAt.{CarryAt}
use Rattle.tpal_syntax.specs.declared.sites.LoopSite.{LoopSite}
use Rattle.tpal_machine.specs.Belongs.{RestBelongsTo}
use Rattle.tpal_machine.specs.Ended.{is_done}
use Rattle.tpal_machine.specs.Merge.{AreParts, AreSides, Ends, Goes, Joined, MergeOf}
use Rattle.tpal_machine.specs.Merge.{ended_together, joined, joined_by, joined_output, merged_task}
use Rattle.tpal_machine.specs.Merge.{part_of, parts_of, put_together}
use Rattle.tpal_machine.specs.Reading.{note_of, or_plain, table_at, target_of, the_target}
use Rattle.tpal_machine.specs.RestState.{RestState}
use Rattle.tpal_machine.specs.declared.ends.Side.{Side}
use Rattle.loop_syntax.specs.declared.ParLoop.{ParLoop}
use Rattle.loop_syntax.specs.declared.Program.{Program}
use Rattle.loop_meaning.specs.State.{Ran, State, table_of}
use Rattle.expr_lower.specs.declared.scope.Scope.{Scope}
use Rattle.expr_lower.specs.Scopes.{HasTable, table_number}
use Rattle.expr_lower.specs.Standing.{AreAt}
use Rattle.frame_machine.specs.Iterating.{CutLoop, LoopCut, lower_of, middle_of, upper_of, whole_of}
use Rattle.frame_machine.specs.Joins.{names_of, upper_start}
use Rattle.frame_machine.specs.Lawful.{Lawful, modes_in}
use Rattle.frame_machine.specs.Modes.{Modes}
use Rattle.handler_gen.specs.Blocks.{loop_target, renames_from}
use Rattle.handler_gen.specs.Sites.{target_label}
use Rattle.join_gen.specs.Blocks.{loop_join_blocks}
use Rattle.join_gen.specs.LoopJoins.{AreSidesOfLoop, handed, ops_of}
use Rattle.stack_marks.specs.Causes.{Holds}
use Rattle.tp_value.specs.declared.Op.{Op}
use Rattle.frame_machine.specs.Splitting.{merged}
use Rattle.loop_meaning.specs.declared.value.Variable.{Variable}
use Rattle.scene_laws.specs.Sites.{accs_of, carries_from}
use Rattle.scene_laws.proofs.Merges.JoinsModes.{CutAs, cut_as, is_carried}
use Rattle.scene_laws.proofs.Merges.JoinsTables.{AreOfCut, tables_joined}
use Rattle.scene_laws.proofs.Merges.JoinsRuns.{cells_kept, child_round, low_is_done}
use Rattle.scene_laws.proofs.Merges.JoinsRuns.{numbers_joined}
use Rattle.scene_laws.proofs.Merges.JoinsRuns.{output_kept, parts_join, tables_named, ticks_within}
use Rattle.scene_laws.proofs.Merges.JoinsRuns.{up_is_done}
use Rattle.scene_laws.proofs.Merges.JoinsSides.{carry_found, child_side, left_and_child, left_side}
use Rattle.scene_laws.proofs.Merges.JoinsSides.{numbers_many, parts_paired, rest_and_child}
use Rattle.scene_laws.proofs.Merges.JoinsSides.{rest_and_left}
use Rattle.scene_laws.proofs.Merges.JoinsSides.{side_belongs, side_of_target, side_output}
use Rattle.scene_laws.proofs.Merges.JoinsSides.{side_part}
use Rattle.scene_laws.proofs.Merges.JoinsSides.{side_parts, side_slices, side_stop, side_ticks}
use Rattle.scene_laws.proofs.Merges.JoinsSides.{side_words}
use Rattle.scene_laws.proofs.Cuts.Parts.{IsKnown, rest_extent}
use Rattle.scene_laws.proofs.Scenes.Regions.{AreShown, IsShown, Region, shown_at}
use Rattle.scene_laws.proofs.Scenes.Results.{result}
use Rattle.scene_laws.proofs.Scenes.Scene.{IsEarly}
use Rattle.scene_laws.proofs.Cuts.Sides.{Part, cut_by, numbers_in, side_by}
use Rattle.scene_laws.proofs.Scenes.Tables.{listed_names, table_names}

-- the join target of a site is that of its loop
pub target_stands : (code : Listing) (site : LoopSite)
    → AreAt code (target_label site.label) (loop_join_blocks site)
    → the_target code (target_label site.label) ≡ loop_target site
target_stands code site stands = ap (λ b. or_plain (target_of (note_of b))) stands.0

-- What a rest holds, of the tables of a loop that is cut, where so much of each was held: the parts
-- that neither side has.
pub record HasRest (scope : Scope) (l : ParLoop) (region : Region) (c : CutLoop)
    (tables : List Holding) : Type 0 where
  pub differ : IsDistinct bytes_eq (table_names c.state.tables)
  pub listed : listed_names scope.tables.items ≡ table_names c.state.tables
  pub there : (t : List ℕ) → is_carried l.carries.items t ≡ true → HasTable scope t
  pub known : (t : List ℕ) → is_carried l.carries.items t ≡ true → IsKnown (region t)
  pub shown : AreShown
      (λ t. rest_extent (cut_by c.state.vars (middle_of c) l.carries.items t) (region t)) tables
      c.state.tables

-- a rest of the site of a loop
pub record IsRestAt (code : Listing) (scope : Scope) (l : ParLoop) (fuel : ℕ) (site : LoopSite)
    (rest : RestState) : Type 0 where
  pub accs : site.accs ≡ accs_of scope l.reduces.items
  pub carries : site.carries ≡ carries_from scope 0 l.carries.items
  pub target : the_target code rest.target ≡ loop_target site
  pub limit : rest.limit ≡ fuel
  pub belongs : RestBelongsTo code rest

module _ (code : Listing) (p : Program) (outer : Modes) (l : ParLoop) (fuel : ℕ) (c : CutLoop)
    (rules : Lawful p outer (names_of c.state.vars) l) (cut : LoopCut p outer l fuel c)
    (scope : Scope) (region : Region) (site : LoopSite) (rest : RestState)
    (held : HasRest scope l region c rest.tables) (of : IsRestAt code scope l fuel site rest) where
  abbrev low : Ran
  low = lower_of p fuel l c

  abbrev up : Ran
  up = upper_of p fuel l c

  abbrev whole : Ran
  whole = whole_of p fuel l c

  -- both sides, and where the child begins
  abbrev left : Part
  left = left_side l rest.rec region (middle_of c) c.state

  abbrev child : Part
  child = child_side l rest.rec region (middle_of c) c.state

  abbrev child_start : State
  child_start = upper_start l.reduces.items c.vars c.tables

  -- what the left and the child end with
  abbrev pub left_end : Side
  left_end = side_by scope l left (result low).end

  abbrev pub child_end : Side
  child_end = side_by scope l child (result up).end

  child_rules : Lawful p outer (names_of child_start.vars) l
  child_rules =
      subst (λ names. Lawful p outer names l) (sym (child_round p outer l fuel c rules cut).names)
      rules

  -- ---- they are sides of the rest's record

  left_stop : left_end.stop ≡ low.stop
  left_stop = side_stop scope l left low.state low.stop

  child_stop : child_end.stop ≡ up.stop
  child_stop = side_stop scope l child up.state up.stop

  left_ticks : left_end.ticks ≡ low.state.ticks
  left_ticks = side_ticks scope l left low.state low.stop

  child_ticks : child_end.ticks ≡ up.state.ticks
  child_ticks = side_ticks scope l child up.state up.stop

  left_in_fuel : left_end.ticks ≤ rest.limit + 1
  left_in_fuel =
      let under : low.state.ticks ≤ fuel + 1 =
      ticks_within p fuel c.room l c.again c.begin c.below c.first c.state cut.calls cut.within in
      rw (left_ticks, of.limit) under

  child_in_fuel : child_end.ticks ≤ rest.limit + 1
  child_in_fuel =
      let under : up.state.ticks ≤ fuel + 1 =
      ticks_within p fuel c.room l c.upper_again c.upper_begin c.above (middle_of c) child_start
      cut.calls (omega arith) in
      rw (child_ticks, of.limit) under

  module _ (x : List ℕ) (is : is_carried l.carries.items x ≡ true) where
    there : HasTable scope x
    there = held.there x is

    known : IsKnown (region x)
    known = held.known x is

    as_cut : CutAs c.state.vars (middle_of c) true (modes_in outer l x)
        (cut_by c.state.vars (middle_of c) l.carries.items x)
    as_cut =
        subst (λ b. CutAs c.state.vars (middle_of c) b (modes_in outer l x)
        (cut_by c.state.vars (middle_of c) l.carries.items x)) is
        (cut_as c.state.vars (middle_of c) outer l.var.text.items l.carries.items x)

    rest_holds : IsShown (rest_extent (cut_by c.state.vars (middle_of c) l.carries.items x)
        (region x)) (table_at rest.tables (table_number scope x)) (table_of c.state.tables x)
    rest_holds =
        shown_at (λ t. rest_extent (cut_by c.state.vars (middle_of c) l.carries.items t) (region t))
        rest.tables c.state.tables scope.tables.items x held.shown held.listed there

    -- the sizes of tables stay where a part is done
    low_sizes : low.stop ≡ Done
        → ((table_of low.state.tables x).rows ≡ (table_of c.state.tables x).rows)
        × ((table_of low.state.tables x).cols ≡ (table_of c.state.tables x).cols)
    low_sizes done =
        let kept = cells_kept p fuel c.room l c.again c.begin c.below c.first c.state outer rules
        (middle_of c) (omega (arith, ints)) done x in (kept.rows, kept.cols)

    up_sizes : up.stop ≡ Done
        → ((table_of up.state.tables x).rows ≡ (table_of c.state.tables x).rows)
        × ((table_of up.state.tables x).cols ≡ (table_of c.state.tables x).cols)
    up_sizes done =
        let kept = cells_kept p fuel c.room l c.upper_again c.upper_begin c.above (middle_of c)
        child_start outer child_rules (middle_of c +ℤ pos c.above) (omega (arith, ints)) done x in
        let same = cut.given x in (kept.rows ∙ sym same.rows, kept.cols ∙ sym same.cols)

    done_is : (stop : Stop) → is_done stop ≡ true → stop ≡ Done
    done_is Done is_so = refl
    done_is (Left number) is_so = absurd (let no_way : false ≡ true = is_so in cc)
    done_is (Trap kind place) is_so = absurd (let no_way : false ≡ true = is_so in cc)
    done_is NoFuel is_so = absurd (let no_way : false ≡ true = is_so in cc)

    -- what the rest, the left and the child have of the table
    abbrev rest_part : Holding
    rest_part = table_at rest.tables (table_number scope x)

    abbrev left_part : Holding
    left_part = side_part scope l left low.state x there

    abbrev child_part : Holding
    child_part = side_part scope l child up.state x there

    -- they are parts of it that have no cell in common
    paired : AllPairs AreParts (parts_of rest left_end child_end (table_number scope x))
    paired =
        subst (λ hs. AllPairs AreParts (rest_part ∷ hs)) (sym both)
        (parts_paired rest_part left_part child_part (is_done low.stop) (is_done up.stop)
        (λ a. rest_and_left c.state.vars (middle_of c) as_cut (region x) known
        rest_part (table_of c.state.tables x) (table_of low.state.tables x)
        (table_of up.state.tables x) rest_holds (low_sizes (done_is low.stop a)).0
        (low_sizes (done_is low.stop a)).1)
        (λ b. rest_and_child c.state.vars (middle_of c) as_cut (region x) known
        rest_part (table_of c.state.tables x) (table_of low.state.tables x)
        (table_of up.state.tables x) rest_holds (up_sizes (done_is up.stop b)).0
        (up_sizes (done_is up.stop b)).1)
        (λ a b. left_and_child c.state.vars (middle_of c) as_cut (region x) known
        rest_part (table_of c.state.tables x) (table_of low.state.tables x)
        (table_of up.state.tables x) rest_holds (low_sizes (done_is low.stop a)).0
        (low_sizes (done_is low.stop a)).1 (up_sizes (done_is up.stop b)).0
        (up_sizes (done_is up.stop b)).1))
      where
        both : part_of left_end (table_number scope x) ++ part_of child_end (table_number scope x)
            ≡ cond (is_done low.stop) (left_part ∷ []) []
            ++ cond (is_done up.stop) (child_part ∷ []) []
        both =
            ap (λ hs. hs ++ part_of child_end (table_number scope x))
            (side_parts scope l left low.state x there is low.stop)
            ∙ ap (λ hs. cond (is_done low.stop) (left_part ∷ []) [] ++ hs)
            (side_parts scope l child up.state x there is up.stop)

  parts_apart : (i : ℕ) (d : CarryAt)
      → slice_get (the_target code rest.target).carries i ≡ Some d
      → AllPairs AreParts (parts_of rest left_end child_end (syntax.table_of d))
  parts_apart i d found =
      let here : slice_get (carries_from scope 0 l.carries.items) i ≡ Some d =
      ap (λ cs. slice_get cs i) (sym of.carries ∙ sym (ap (λ t. t.carries) of.target)) ∙ found in
      let of_table = carry_found scope l.carries.items 0 i d here in
      subst (λ t. AllPairs AreParts (parts_of rest left_end child_end t)) (sym of_table.1)
      (paired of_table.0 of_table.2)

  renamed : (the_target code rest.target).renames
      ≡ renames_from 0 (accs_of scope l.reduces.items) ++ (24, 25) ∷ []
  renamed =
      ap (λ t. t.renames) of.target
      ∙ ap (λ accs. renames_from 0 accs ++ (24, 25) ∷ []) of.accs

  carried_by : (the_target code rest.target).carries ≡ carries_from scope 0 l.carries.items
  carried_by = ap (λ t. t.carries) of.target ∙ of.carries

  are_sides : AreSides code rest left_end child_end
  are_sides = record {
    left_ticks = left_in_fuel;
    right_ticks = child_in_fuel;
    left_side =
        side_of_target scope l left low.state (the_target code rest.target) renamed carried_by
        low.stop;
    right_side =
        side_of_target scope l child up.state (the_target code rest.target) renamed carried_by
        up.stop;
    parts = parts_apart;
  }

  -- ---- what they are joined to

  left_output : left_end.output ≡ []
  left_output =
      side_output scope l left low.state low.stop
      ∙ (ap (drop (length c.state.output))
      (output_kept p fuel c.room l c.again c.begin c.below c.first c.state outer rules)
      ∙ drop-length c.state.output)

  pub child_output : child_end.output ≡ []
  child_output =
      side_output scope l child up.state up.stop
      ∙ output_kept p fuel c.room l c.upper_again c.upper_begin c.above (middle_of c)
      child_start outer child_rules

  nothing_more : joined_output rest left_end child_end ≡ rest.output
  nothing_more =
      ap (λ out. rest.output ++ out ++ cond (is_done left_end.stop) child_end.output [])
      left_output
      ∙ (ap (λ out. out ++ cond (is_done left_end.stop) child_end.output [])
      (append-nil rest.output)
      ∙ (ap (λ out. rest.output ++ out) (neither (is_done left_end.stop) child_end.output
      child_output)
      ∙ append-nil rest.output))
    where
      neither : (b : Bool) (out : List ℕ) → out ≡ [] → cond b out [] ≡ []
      neither true out none_of_it = none_of_it
      neither false out none_of_it = refl

  stops_so : joined_stop left_end.stop left_end.ticks child_end.stop child_end.ticks rest.limit
      ≡ whole.stop
  stops_so =
      rw (left_stop, left_ticks, child_stop, child_ticks, of.limit)
      (sym (parts_join p outer l fuel c rules cut).stop)

  ticks_so : joined_ticks left_end.stop left_end.ticks child_end.stop child_end.ticks rest.limit
      ≡ whole.state.ticks
  ticks_so =
      rw (left_stop, left_ticks, child_stop, child_ticks, of.limit)
      (sym (parts_join p outer l fuel c rules cut).ticks)

  joined_so : joined code rest left_end child_end
      ≡ joined_by whole.stop whole.state.ticks rest.output (loop_target site) rest left_end
      child_end
  joined_so =
      ap (λ stop. joined_by stop
      (joined_ticks left_end.stop left_end.ticks child_end.stop child_end.ticks rest.limit)
      (joined_output rest left_end child_end) (the_target code rest.target) rest left_end child_end)
      stops_so
      ∙ (ap (λ ticks. joined_by whole.stop ticks (joined_output rest left_end child_end)
      (the_target code rest.target) rest left_end child_end) ticks_so
      ∙ (ap (λ out. joined_by whole.stop whole.state.ticks out (the_target code rest.target) rest
      left_end child_end) nothing_more
      ∙ ap (λ target. joined_by whole.stop whole.state.ticks rest.output target rest left_end
      child_end) of.target))

  merges : (both : Joined)
      → joined_by whole.stop whole.state.ticks rest.output (loop_target site) rest left_end
      child_end ≡ both
      → MergeOf code rest left_end child_end both
  merges both gives = record {
    sides = are_sides;
    rest_belongs = of.belongs;
    left_belongs = side_belongs scope l left low.state code low.stop;
    right_belongs = side_belongs scope l child up.state code up.stop;
    gives = joined_so ∙ gives;
  }

  -- both sides merge to a task that goes on where the whole is done
  pub merge_goes : whole.stop ≡ Done
      → MergeOf code rest left_end child_end (Goes (merged_task (loop_target site) rest left_end
      child_end whole.state.ticks rest.output))
  merge_goes done =
      merges (Goes (merged_task (loop_target site) rest left_end child_end whole.state.ticks
      rest.output)) (ap (λ stop. joined_by stop whole.state.ticks rest.output (loop_target site)
      rest left_end child_end) done)

  -- and else end with its stop
  pub merge_ends : IsEarly whole.stop
      → MergeOf code rest left_end child_end (Ends (ended_together rest.goal whole.stop
      whole.state.ticks rest.output))
  merge_ends early =
      merges (Ends (ended_together rest.goal whole.stop whole.state.ticks rest.output))
      (by_stop whole.stop early)
    where
      by_stop : (stop : Stop) → IsEarly stop
          → joined_by stop whole.state.ticks rest.output (loop_target site) rest left_end child_end
          ≡ Ends (ended_together rest.goal stop whole.state.ticks rest.output)
      by_stop Done early = absurd early
      by_stop (Left number) early = absurd early
      by_stop (Trap kind place) early = refl
      by_stop NoFuel early = refl

  -- ---- what the task that goes on holds

  module _ (done : whole.stop ≡ Done) where
    low_done : low.stop ≡ Done
    low_done = low_is_done p outer l fuel c rules cut done

    up_done : up.stop ≡ Done
    up_done = up_is_done p outer l fuel c rules cut done

    -- the sides hand over the numbers of both parts
    pub left_words : left_end.words
        ≡ handed (numbers_in l.reduces.items low.state.vars) rest.rec
    left_words = side_words scope l left low.state low.stop low_done

    pub child_words : child_end.words
        ≡ handed (numbers_in l.reduces.items up.state.vars) rest.rec
    child_words = side_words scope l child up.state up.stop up_done

    -- so the join combines them, where the activation that was cut is on the rest's stack
    pub sides_of_loop : rest.target ≡ target_label site.label
        → Holds rest.stack rest.base site.cells
        → AreSidesOfLoop site (numbers_in l.reduces.items low.state.vars)
        (numbers_in l.reduces.items up.state.vars) rest left_end child_end
    sides_of_loop target stands = record {
      target = target;
      held = stands;
      left_many = many low.state.vars;
      right_many = many up.state.vars;
      left_words = left_words;
      right_words = child_words;
    }
      where
        many : (vs : List Variable)
            → length (numbers_in l.reduces.items vs) ≡ length site.accs
        many vs =
            numbers_many scope l.reduces.items vs ∙ sym (ap (length {A = ℕ × Op}) of.accs)

    -- to the numbers that the whole comes to
    pub merged_numbers : merged (ops_of site.accs) (numbers_in l.reduces.items low.state.vars)
        (numbers_in l.reduces.items up.state.vars) ≡ numbers_in l.reduces.items whole.state.vars
    merged_numbers =
        ap (λ accs. merged (ops_of accs) (numbers_in l.reduces.items low.state.vars)
        (numbers_in l.reduces.items up.state.vars)) of.accs
        ∙ sym (numbers_joined p outer l fuel c rules cut scope done)

    -- the tables are held as they were before the cut, with what the whole leaves in them
    pub merged_tables : AreShown region
        (put_together (put_together rest.tables left_end.slices) child_end.slices)
        whole.state.tables
    merged_tables =
        rw (
          side_slices scope l left low.state low.stop low_done,
          side_slices scope l child up.state up.stop up_done,
        )
        (tables_joined scope c.state.vars (middle_of c) outer l.var.text.items l.carries.items
        region rest.tables c.state.tables low.state.tables up.state.tables whole.state.tables are)
      where
        are : AreOfCut scope c.state.vars (middle_of c) outer l.var.text.items l.carries.items
            region rest.tables c.state.tables low.state.tables up.state.tables whole.state.tables
        are = record {
          differ = held.differ;
          listed = held.listed;
          named =
              tables_named p fuel c.room l c.again c.begin (c.below + c.above) c.first c.state
              cut.calls;
          below =
              cells_kept p fuel c.room l c.again c.begin c.below c.first c.state outer rules
              (middle_of c) (omega (arith, ints)) low_done;
          above = (parts_join p outer l fuel c rules cut).lower done;
          seen = (parts_join p outer l fuel c rules cut).upper done;
          rest = held.shown;
        }
