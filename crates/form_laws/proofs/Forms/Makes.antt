-- The making of tables: a task that makes them owes what the meaning of the declarations gives.
use Rattle.std.proofs.Common.{◌≡◌, ℕ, suc, ◌+◌, ◌*◌, ◌<◌, ◌≤◌, Bool, true, false, not, List, []}
use Rattle.std.proofs.Common.{◌∷◌, ◌++◌, length, map, Option, Some, refl, sym, ap, subst, ◌∙◌}
use Rattle.std.proofs.Common.{arith, append_assoc, append-nil, bytes_eq, cond, All}
use Rattle.std.specs.Prelude.{ℤ, pos, negsuc, ⊤, ◌&&◌, ◌||◌, ◌==◌, nat_le, nat_lt, slice_get}
use Rattle.std.specs.Prelude.{slice_set, unsigned_abs}
use Rattle.std.specs.List.{AllByRecursion, list_any}
use Rattle.std.proofs.lemmas.Bool.Decides.{nat_tests}
use Rattle.std.proofs.lemmas.Int.{ints}
use Rattle.std.proofs.lemmas.List.{get_or-replicate, length-append, length-replicate, length-set}
use Rattle.std.proofs.lemmas.List.{map-append}
use Rattle.std.proofs.lemmas.List.Elements.{All-nil, All-cons, All-append, All-replicate}
use Rattle.beat_count.specs.BeatState.{BeatState}
use Rattle.beat_count.specs.FuelState.{FuelState}
use Rattle.slices.specs.Holding.{Holding}
use Rattle.slices.proofs.Maps.{inside_size}
use Rattle.stack_marks.specs.Stacks.{StackValue, with_word}
use Rattle.tp_value.specs.declared.limits.TheConstants.{MAX_TABLE_CELLS}
use Rattle.tp_value.specs.declared.Place.{Place}
use Rattle.tp_value.specs.declared.Stop.TheVariants.{Trap}
use Rattle.tp_value.specs.declared.TrapKind.TheVariants.{Size}
use Rattle.tp_value.specs.declared.Table.{Table}
use Rattle.loop_syntax.specs.declared.Name.{Name}
use Rattle.loop_syntax.specs.declared.Expr.{Expr}
use Rattle.loop_syntax.specs.declared.TableDecl.{TableDecl}
use Rattle.loop_syntax.specs.declared.TableDecl.TheVariants.{Input, Made}
use Rattle.loop_meaning.specs.InRange.{InRange, TableInRange}
use Rattle.loop_meaning.specs.Meaning.{add_table, input_cells, is_bad_size, is_too_large}
use Rattle.loop_meaning.specs.Meaning.{make_tables, unless_large, zero_table}
use Rattle.loop_meaning.specs.State as meaning
use Rattle.loop_meaning.specs.State.{Ran, table_of}
use Rattle.loop_meaning.specs.Statements.{given}
use Rattle.tpal_syntax.specs.declared.blocks.CodeTable.{CodeTable}
use Rattle.tpal_syntax.specs.declared.blocks.CodeTable.TheVariants as code_table
use Rattle.tpal_syntax.specs.declared.instructions.Instr.{Instr}
use Rattle.tpal_syntax.specs.declared.instructions.Instr.TheVariants as instr
use Rattle.tpal_syntax.specs.declared.instructions.Term.{Term}
use Rattle.tpal_syntax.specs.declared.instructions.Value.TheVariants as value
use Rattle.tpal_syntax.specs.declared.words.Word.{Word}
use Rattle.tpal_syntax.specs.declared.words.Word.TheVariants as word
use Rattle.tpal_syntax.specs.Listing.{Listing}
use Rattle.tpal_machine.specs.declared.ends.Goal.{Goal}
use Rattle.tpal_machine.specs.declared.ends.Goal.TheVariants as goal
use Rattle.tpal_machine.specs.declared.ends.Tie.{Tie}
use Rattle.tpal_machine.specs.Effect as effect
use Rattle.tpal_machine.specs.Reading.{cell_count, register, with_register, zeros}
use Rattle.tpal_machine.specs.State as machine
use Rattle.tpal_machine.specs.Step.{advanced}
use Rattle.tpal_machine.proofs.Kit.{Back, on_load}
use Rattle.expr_lower.specs.Leaving.{Keeps, moved}
use Rattle.expr_lower.specs.Standing.{Remains}
use Rattle.expr_lower.proofs.Keeping.{register_set, register_other}
use Rattle.expr_lower.proofs.Standing.{next, behind}
use Rattle.handler_gen.proofs.Words.{word_same}
use Rattle.scene_laws.specs.Code.{Computes, store, load}
use Rattle.scene_laws.specs.Layout.{kept_cell, Activation}
use Rattle.form_laws.specs.Functions.{Makes, no_table, input_table, made_table, made_kept_table}
use Rattle.form_laws.specs.Functions.{table_name}
use Rattle.scene_laws.proofs.Scenes.Cells.{counted_whole}
use Rattle.scene_laws.proofs.Scenes.Results.{Result, result, then}
use Rattle.scene_laws.proofs.Scenes.Scene.{Scene, Shows, ShowsIn, Owed}
use Rattle.scene_laws.proofs.Scenes.Showing.{shows_words, shows_new}
use Rattle.form_laws.proofs.Forms.Simple.{stores_in, still_shows}
use Rattle.form_laws.proofs.Forms.TableSteps.{on_make, make_traps}
use Rattle.scene_laws.specs.Tables.{IsTable, AreDeclared, AreNamed, IsWholeOf, AreHeld}
use Rattle.scene_laws.proofs.Scenes.Regions.{AreShown, Region, everywhere, wholly_shown}
use Rattle.scene_laws.proofs.Scenes.Tables.{AreWhole}
use Rattle.scene_laws.proofs.Scenes.Values.{ExprLaw, computes_bare}

-- ---- tables that are wholly held

zeros_whole : (x : Name) (m n : ℕ) → IsWholeOf (zeros m n) (zero_table x (pos m) (pos n))
zeros_whole x m n = counted_whole (zero_table x (pos m) (pos n)) (λ i. Some (pos 0)) (length-replicate (m * n) (pos 0))
    (λ r c low left. ap Some (sym (get_or-replicate (m * n) (r * n + c) (pos 0) (pos 0) (inside_size m n r c low left))))

whole_append : (hs more : List Holding) (ts : List Table) (h : Holding) (t : Table) → length hs ≡ length ts → AreWhole hs ts → IsWholeOf h t → AreWhole (hs ++ h ∷ more) (ts ++ t ∷ [])
whole_append [] more [] h t many held is = (is, tt)
whole_append [] more (u ∷ us) h t many held is = absurd held
whole_append (g ∷ gs) more [] h t many held is = absurd (omega (arith, many))
whole_append (g ∷ gs) more (u ∷ us) h t many held is = (held.0, whole_append gs more us h t (omega (arith, many)) held.1 is)

-- ---- the count of cells

count_append : (hs gs : List Holding) → cell_count (hs ++ gs) ≡ cell_count hs + cell_count gs
count_append [] gs = omega arith
count_append (h ∷ hs) gs = omega (arith, count_append hs gs)

pub count_held : (ds : List TableDecl) (ts : List Table) (hs : List Holding) → AreHeld ds ts hs → cell_count hs ≡ input_cells ds ts
count_held [] ts [] held = refl
count_held [] ts (h ∷ hs) held = absurd held
count_held (d ∷ ds) ts [] held = absurd held
count_held (Input x ∷ ds) ts (h ∷ hs) held =
    ap (λ n. h.rows * h.cols + n) (count_held ds ts hs held.1)
    ∙ ap (λ n. n * h.cols + input_cells ds ts) held.0.rows ∙ ap (λ n. (table_of ts x.text.items).rows * n + input_cells ds ts) held.0.cols
count_held (Made x a b ∷ ds) ts (h ∷ hs) held =
    let none : h.rows * h.cols ≡ 0 = rw held.0 (omega arith) in
    omega (arith, none, count_held ds ts hs held.2)

-- ---- the tables that are given

-- a table of that name, with all its cells
pub record IsTableOf (x : List ℕ) (t : Table) : Type 0 where
  pub named : t.name ≡ x
  pub is : IsTable t

-- each declared input has one
abbrev pub AreGiven : List TableDecl → List Table → Type 0
AreGiven [] given = ⊤
AreGiven (Input x ∷ ds) given = IsTableOf x.text.items (table_of given x.text.items) × AreGiven ds given
AreGiven (Made x a b ∷ ds) given = AreGiven ds given

no_table_is : IsTable meaning.no_table
no_table_is = record { full = refl; ranged = record { cells = All-nil InRange; rows = omega (arith, ints); cols = omega (arith, ints) } }

given_is : (ts : List Table) (x : List ℕ) → All IsTable ts → IsTable (table_of ts x)
given_is [] x are = no_table_is
given_is (t ∷ ts) x are = by_name (given_is ts x (λ n d inside. are (suc n) d (omega arith))) (bytes_eq t.name x)
  where
    by_name : IsTable (table_of ts x) → (b : Bool) → IsTable (cond b t (table_of ts x))
    by_name others true = are 0 t (omega arith)
    by_name others false = others

pub given_tables_are : (ds : List TableDecl) (ts : List Table) → All IsTable ts → AreNamed ds ts → AreGiven ds ts
given_tables_are [] ts are named = tt
given_tables_are (Input x ∷ ds) ts are named = (record { named = named.0; is = given_is ts x.text.items are }, given_tables_are ds ts are named.1)
given_tables_are (Made x a b ∷ ds) ts are named = given_tables_are ds ts are named

set_middle : (hs more : List Holding) (h v : Holding) → slice_set (hs ++ h ∷ more) (length hs) v ≡ hs ++ v ∷ more
set_middle [] more h v = refl
set_middle (g ∷ gs) more h v = ap (λ xs. g ∷ xs) (set_middle gs more h v)

-- ---- sizes

side_is : (n : ℕ) → effect.is_side (pos n) ≡ not (is_bad_size (pos n))
side_is n = grind (arith, nat_tests)

none_bad : (x y w : Bool) → (not x && not y && not w) ≡ not (x || y || w)
none_bad true y w = refl
none_bad false true w = refl
none_bad false false w = refl

second_bad : (x u v : Bool) → (not x && false && u) ≡ not (x || true || v)
second_bad true u v = refl
second_bad false u v = refl

-- a table fits beside the others where it isn't too large
fits_is : (hs : List Holding) (m n : ℤ) → effect.fits hs m n ≡ not (is_too_large (cell_count hs) m n)
fits_is hs (pos a) (pos b) =
    let total : nat_le (cell_count hs + a * b) MAX_TABLE_CELLS ≡ not (nat_lt MAX_TABLE_CELLS (cell_count hs + a * b)) = grind (arith, nat_tests) in
    rw (side_is a, side_is b, total) (none_bad (is_bad_size (pos a)) (is_bad_size (pos b)) (nat_lt MAX_TABLE_CELLS (cell_count hs + a * b)))
fits_is hs (pos a) (negsuc b) =
    rw (side_is a) (second_bad (is_bad_size (pos a)) (nat_le (cell_count hs + a * 0) MAX_TABLE_CELLS) (nat_lt MAX_TABLE_CELLS (cell_count hs + a * suc b)))
fits_is hs (negsuc a) n = refl

-- a size below 0 is too large
large_second : (cells a b : ℕ) → is_too_large cells (pos a) (negsuc b) ≡ true
large_second cells a b = by_first (is_bad_size (pos a))
  where
    by_first : (x : Bool) → (x || true || nat_lt MAX_TABLE_CELLS (cells + a * suc b)) ≡ true
    by_first true = refl
    by_first false = refl

zero_in_range : (x : Name) (a b : ℕ) → InRange (pos a) → InRange (pos b) → TableInRange (zero_table x (pos a) (pos b))
zero_in_range x a b in_a in_b = record { cells = All-replicate InRange (a * b) (pos 0) (omega (arith, ints)); rows = in_a; cols = in_b }

none_made : (made : List ℕ) (n : ℕ) → AllByRecursion (λ k. k < n) made → list_any (λ t. t == n) made ≡ false
none_made [] n below = refl
none_made (k ∷ ks) n below =
    let other : (k == n) ≡ false = grind (arith, nat_tests, below.0) in
    rw other (none_made ks n below.1)

more_made : (made : List ℕ) (n : ℕ) → AllByRecursion (λ k. k < n) made → AllByRecursion (λ k. k < n + 1) (made ++ n ∷ [])
more_made [] n below = (omega arith, tt)
more_made (k ∷ ks) n below = (omega (arith, below.0), more_made ks n below.1)

found_at : (front rest : List CodeTable) (t : CodeTable) → slice_get (front ++ t ∷ rest) (length front) ≡ Some t
found_at [] rest t = refl
found_at (u ∷ us) rest t = found_at us rest t

-- ---- scenes in which tables are made

-- the activation, where these tables are visible
abbrev pub seeing : Activation → List (List ℕ) → Activation
seeing act seen = record act { tables = seen }

module _ (code : Listing) (heartbeat z : ℕ) (act : Activation) (fuel : ℕ) (S : Scene code heartbeat z) (i : S.World) (seen : List (List ℕ)) where
  -- one table more
  shows_added : {names : List (List ℕ)} {st : meaning.State} {words : List Word} {stack : StackValue} {holdings : List Holding} {spent : FuelState} {output : List ℕ} {goal_now : Goal} {ties : Option Tie × Option Tie} → Shows code heartbeat z (seeing act seen) fuel S i names st words stack holdings spent output goal_now ties
      → (x : List ℕ) (t : Table) (others : List Holding) → t.name ≡ x → AreShown (S.region i) others (st.tables ++ t ∷ []) → S.can i (st.tables ++ t ∷ []) → TableInRange t → Shows code heartbeat z (seeing act (seen ++ x ∷ [])) fuel S i names (add_table t st) words stack others spent output goal_now ties
  shows_added {st = st} h x t others is held can ranged = record {
    size = h.size;
    base = h.base;
    limit = h.limit;
    limited = h.limited;
    tall = h.tall;
    ticks = h.ticks;
    within = h.within;
    begun = h.begun;
    printed = h.printed;
    ends = h.ends;
    free = h.free;
    unmet = h.unmet;
    marked = h.marked;
    named = h.named;
    few = h.few;
    tabled = map-append (λ (u : Table). u.name) st.tables (t ∷ []) ∙ (ap (λ ns. ns ++ t.name ∷ []) h.tabled ∙ ap (λ n. seen ++ n ∷ []) is);
    held = held;
    can = can;
    ranged = All-append TableInRange st.tables (t ∷ []) h.ranged (All-cons TableInRange t [] ranged (All-nil TableInRange));
    levels = h.levels;
    unmarked = h.unmarked;
    top = h.top;
    low = h.low;
    room = h.room;
    vars = h.vars;
    keeps = h.keeps;
  }

module _ (code : Listing) (heartbeat z : ℕ) (act : Activation) (fuel : ℕ)
    (expr_law : ExprLaw code heartbeat) (S : Scene code heartbeat z) (bare : S.registers ≡ [])
    (lowest : S.lowest ≤ 0) (roots : (i : S.World) → S.goal i ≡ goal.Root) (all : (i : S.World)
    → S.region i ≡ everywhere) (can : (i : S.World) (ts : List Table) → S.can i ts)
    (given_tables : List Table) where
  -- a task that has made the tables up to here
  pub record Making (i : S.World) (seen : List (List ℕ)) (cells : ℕ) (ds : List TableDecl) (st : meaning.State) (state : machine.State) : Type 0 where
    pub shows : ShowsIn code heartbeat z (seeing act seen) fuel S i [] st state
    pub before : List Holding
    pub as_many : length before ≡ length seen
    pub as_tables : length before ≡ length st.tables
    pub held : AreWhole before st.tables
    pub rest : List Holding
    pub left : AreHeld ds given_tables rest
    pub tables : state.tables ≡ before ++ rest
    pub count : cell_count state.tables ≡ cells
    pub made : AllByRecursion (λ k. k < length seen) state.made

  -- what a task owes that has made the tables up to here, where these instructions remain
  abbrev pub MakingOwes : List (List ℕ) → List TableDecl → List Instr → Term → (meaning.State → Result) → Type 0
  MakingOwes seen ds instrs end f =
      (cells : ℕ) (i : S.World) (st : meaning.State) (state : machine.State) → Making i seen cells ds st state → Remains code state.block state.at instrs end → (S.owing i (then (result (make_tables given_tables cells ds st)) f)).Holds state

  -- the same task, where registers below 24 alone changed
  making_moved : (i : S.World) (seen : List (List ℕ)) (cells : ℕ) (ds : List TableDecl) (st : meaning.State) (state : machine.State) (r : ℕ) (words : List Word) (beat : BeatState) (at : ℕ) → Making i seen cells ds st state → Keeps r state words beat → Making i seen cells ds st (moved state words beat at)
  making_moved i seen cells ds st state r words beat at h keeps = record {
    shows = still_shows code heartbeat z (seeing act seen) fuel S i [] st state r words beat at h.shows keeps;
    before = h.before;
    as_many = h.as_many;
    as_tables = h.as_tables;
    held = h.held;
    rest = h.rest;
    left = h.left;
    tables = h.tables;
    count = h.count;
    made = h.made;
  }

  -- what is wholly held is held in the whole region
  shown_all : (i : S.World) (hs : List Holding) (ts : List Table) → AreWhole hs ts → AreShown (S.region i) hs ts
  shown_all i hs ts whole = subst (λ (region : Region). AreShown region hs ts) (sym (all i)) (wholly_shown hs ts whole)

  -- an input is there
  input_done : (x : Name) (ds : List TableDecl) (seen : List (List ℕ)) (cells : ℕ) (i : S.World) (st : meaning.State) (state : machine.State) → IsTableOf x.text.items (table_of given_tables x.text.items)
      → Making i seen cells (Input x ∷ ds) st state → Making i (seen ++ x.text.items ∷ []) cells ds (add_table (table_of given_tables x.text.items) st) state
  input_done x ds seen cells i st state is h = by_rest h.rest h.left h.tables
    where
      made_below : (made : List ℕ) → AllByRecursion (λ k. k < length seen) made → AllByRecursion (λ k. k < length (seen ++ x.text.items ∷ [])) made
      made_below [] below = tt
      made_below (k ∷ ks) below = (omega (arith, below.0, length-append seen (x.text.items ∷ [])), made_below ks below.1)

      by_rest : (rest : List Holding) → AreHeld (Input x ∷ ds) given_tables rest → state.tables ≡ h.before ++ rest → Making i (seen ++ x.text.items ∷ []) cells ds (add_table (table_of given_tables x.text.items) st) state
      by_rest [] left tables = absurd left
      by_rest (g ∷ gs) left tables = record {
        shows = shows_added code heartbeat z act fuel S i seen h.shows x.text.items (table_of given_tables x.text.items) state.tables is.named
            (shown_all i state.tables (st.tables ++ table_of given_tables x.text.items ∷ [])
            (subst (λ hs. AreWhole hs (st.tables ++ table_of given_tables x.text.items ∷ [])) (sym tables) (whole_append h.before gs st.tables g (table_of given_tables x.text.items) h.as_tables h.held left.0)))
            (can i (st.tables ++ table_of given_tables x.text.items ∷ [])) is.is.ranged;
        before = h.before ++ g ∷ [];
        as_many = omega (arith, h.as_many, length-append h.before (g ∷ []), length-append seen (x.text.items ∷ []));
        as_tables = omega (arith, h.as_tables, length-append h.before (g ∷ []), length-append st.tables (table_of given_tables x.text.items ∷ []));
        held = whole_append h.before [] st.tables g (table_of given_tables x.text.items) h.as_tables h.held left.0;
        rest = gs;
        left = left.1;
        tables = tables ∙ sym (append_assoc h.before (g ∷ []) gs);
        count = h.count;
        made = made_below state.made h.made;
      }

  -- the task after a `make`
  abbrev with_table_made : machine.State → ℕ → ℕ → ℕ → machine.State
  with_table_made state number a b = effect.with_made (advanced state) number a b

  made_done : (x : Name) (a b : Expr) (ds : List TableDecl) (seen : List (List ℕ)) (cells m n : ℕ) (i : S.World) (st : meaning.State) (state : machine.State) → InRange (pos m) → InRange (pos n)
      → Making i seen cells (Made x a b ∷ ds) st state → Making i (seen ++ x.text.items ∷ []) (cells + m * n) ds (add_table (zero_table x (pos m) (pos n)) st) (with_table_made state (length seen) m n)
  made_done x a b ds seen cells m n i st state in_m in_n h = by_rest h.rest h.left h.tables
    where
      by_rest : (rest : List Holding) → AreHeld (Made x a b ∷ ds) given_tables rest → state.tables ≡ h.before ++ rest
          → Making i (seen ++ x.text.items ∷ []) (cells + m * n) ds (add_table (zero_table x (pos m) (pos n)) st) (effect.with_made (advanced state) (length seen) m n)
      by_rest [] left tables = absurd left
      by_rest (g ∷ gs) left tables =
          let t : Table = zero_table x (pos m) (pos n) in
          let none : g.rows * g.cols ≡ 0 = rw left.0 (omega arith) in
          let set : slice_set state.tables (length seen) (zeros m n) ≡ h.before ++ zeros m n ∷ gs =
          ap (λ hs. slice_set hs (length seen) (zeros m n)) tables ∙ (ap (λ k. slice_set (h.before ++ g ∷ gs) k (zeros m n)) (sym h.as_many) ∙ set_middle h.before gs g (zeros m n)) in
          let counted : cell_count (h.before ++ zeros m n ∷ gs) ≡ cells + m * n =
          omega (arith, count_append h.before (zeros m n ∷ gs), count_append h.before (g ∷ gs), ap cell_count tables, h.count, none) in
          record {
            shows = shows_added code heartbeat z act fuel S i seen h.shows x.text.items t (slice_set state.tables (length seen) (zeros m n)) refl
                (shown_all i (slice_set state.tables (length seen) (zeros m n)) (st.tables ++ t ∷ [])
                (subst (λ hs. AreWhole hs (st.tables ++ t ∷ [])) (sym set) (whole_append h.before gs st.tables (zeros m n) t h.as_tables h.held (zeros_whole x m n))))
                (can i (st.tables ++ t ∷ [])) (zero_in_range x m n in_m in_n);
            before = h.before ++ zeros m n ∷ [];
            as_many = omega (arith, h.as_many, length-append h.before (zeros m n ∷ []), length-append seen (x.text.items ∷ []));
            as_tables = omega (arith, h.as_tables, length-append h.before (zeros m n ∷ []), length-append st.tables (t ∷ []));
            held = whole_append h.before [] st.tables (zeros m n) t h.as_tables h.held (zeros_whole x m n);
            rest = gs;
            left = left.2;
            tables = set ∙ sym (append_assoc h.before (zeros m n ∷ []) gs);
            count = ap cell_count set ∙ counted;
            made = subst (λ k. AllByRecursion (λ j. j < k) (state.made ++ length seen ∷ [])) (sym (length-append seen (x.text.items ∷ []))) (more_made state.made (length seen) h.made);
          }

  -- the task with other registers, or with another stack, has made the same tables
  making_shown : (i : S.World) (seen : List (List ℕ)) (cells : ℕ) (ds : List TableDecl) (st : meaning.State) (state other : machine.State) → other.tables ≡ state.tables → other.made ≡ state.made → ShowsIn code heartbeat z (seeing act seen) fuel S i [] st other → Making i seen cells ds st state → Making i seen cells ds st other
  making_shown i seen cells ds st state other same_tables same_made shows h = record {
    shows = shows;
    before = h.before;
    as_many = h.as_many;
    as_tables = h.as_tables;
    held = h.held;
    rest = h.rest;
    left = h.left;
    tables = same_tables ∙ h.tables;
    count = ap cell_count same_tables ∙ h.count;
    made = subst (λ ks. AllByRecursion (λ k. k < length seen) ks) (sym same_made) h.made;
  }

  -- what follows, where the next table has these sizes
  abbrev followed : Name → List TableDecl → ℕ → meaning.State → ℤ → ℤ → Ran
  followed x ds cells st m n = unless_large (is_too_large cells m n) x.place (λ t. make_tables given_tables (cells + unsigned_abs m * unsigned_abs n) ds (add_table (zero_table x m n) t)) st

  module _ (x : Name) (a b : Expr) (ds : List TableDecl) (seen : List (List ℕ)) (rows cols : ℕ) (rest : List Instr) (end : Term) (front others : List CodeTable) (is_code : code.tables ≡ front ++ code_table.Made ∷ others) (as_many : length front ≡ length seen)
      (f : meaning.State → Result) (post : MakingOwes (seen ++ x.text.items ∷ []) ds rest end f) (cells : ℕ) (i : S.World) (st : meaning.State) (state : machine.State) (h : Making i seen cells (Made x a b ∷ ds) st state) (stands : Remains code state.block state.at (instr.Make (length seen) rows cols x.place ∷ rest) end) where
    makeable : effect.is_makeable code (length seen) state ≡ true
    makeable =
        let found : slice_get code.tables (length seen) ≡ Some code_table.Made = ap (λ ts. slice_get ts (length seen)) is_code ∙ (ap (λ k. slice_get (front ++ code_table.Made ∷ others) k) (sym as_many) ∙ found_at front others code_table.Made) in
        let none : list_any (λ t. t == length seen) state.made ≡ false = none_made state.made (length seen) h.made in
        let root : state.goal ≡ goal.Root = h.shows.ends ∙ roots i in
        rw (found, none, root) refl

    fits_by : (m n : ℤ) (large : Bool) → is_too_large cells m n ≡ large → effect.fits state.tables m n ≡ not large
    fits_by m n large is = fits_is state.tables m n ∙ (ap (λ c. not (is_too_large c m n)) h.count ∙ ap not is)

    too_large : (m n : ℤ) → is_too_large cells m n ≡ true → register state.registers rows ≡ word.Int m → register state.registers cols ≡ word.Int n → (S.owing i (then (result (followed x ds cells st m n)) f)).Holds state
    too_large m n is first second =
        subst (λ (large : Bool). (S.owing i (then (result (unless_large large x.place (λ t. make_tables given_tables (cells + unsigned_abs m * unsigned_abs n) ds (add_table (zero_table x m n) t)) st)) f)).Holds state) (sym is)
        (S.stops i (Trap Size x.place) st state (advanced state) tt h.shows.ticks h.shows.printed h.shows.ends
        (make_traps code heartbeat state (length seen) rows cols m n x.place (next code state _ rest end stands) first second makeable (fits_by m n true is) h.shows.free))

    fitting : (m n : ℕ) → is_too_large cells (pos m) (pos n) ≡ false → InRange (pos m) → InRange (pos n) → register state.registers rows ≡ word.Int (pos m) → register state.registers cols ≡ word.Int (pos n) → (S.owing i (then (result (followed x ds cells st (pos m) (pos n))) f)).Holds state
    fitting m n is in_m in_n first second =
        subst (λ (large : Bool). (S.owing i (then (result (unless_large large x.place (λ t. make_tables given_tables (cells + m * n) ds (add_table (zero_table x (pos m) (pos n)) t)) st)) f)).Holds state) (sym is)
        (on_make code heartbeat state (length seen) rows cols (pos m) (pos n) x.place (next code state _ rest end stands) first second makeable
        (S.owing i (then (result (make_tables given_tables (cells + m * n) ds (add_table (zero_table x (pos m) (pos n)) st))) f)) (fits_by (pos m) (pos n) false is)
        (post (cells + m * n) i (add_table (zero_table x (pos m) (pos n)) st) (with_table_made state (length seen) m n) (made_done x a b ds seen cells m n i st state in_m in_n h) (behind code state.block state.at _ rest end stands)))

    by_size : (m n : ℕ) (large : Bool) → is_too_large cells (pos m) (pos n) ≡ large → InRange (pos m) → InRange (pos n) → register state.registers rows ≡ word.Int (pos m) → register state.registers cols ≡ word.Int (pos n) → (S.owing i (then (result (followed x ds cells st (pos m) (pos n))) f)).Holds state
    by_size m n true is in_m in_n first second = too_large (pos m) (pos n) is first second
    by_size m n false is in_m in_n first second = fitting m n is in_m in_n first second

    -- at a `make`, with both sizes in registers
    at_make : (m n : ℤ) → InRange m → InRange n → register state.registers rows ≡ word.Int m → register state.registers cols ≡ word.Int n → (S.owing i (then (result (followed x ds cells st m n)) f)).Holds state
    at_make (pos m) (pos n) in_m in_n first second = by_size m n (is_too_large cells (pos m) (pos n)) refl in_m in_n first second
    at_make (pos m) (negsuc n) in_m in_n first second = too_large (pos m) (negsuc n) (large_second cells m n) first second
    at_make (negsuc m) n in_m in_n first second = too_large (negsuc m) n refl first second

  -- the first size kept in a cell, and taken back behind the second
  kept_size : (seen : List (List ℕ)) (b : Expr) (number : ℕ) (place : Place) (second third : List Instr) (end : Term) → kept_cell act 1 ≤ act.size
      → Computes code (seeing act seen) [] [] b 0 second
      (load 1 (kept_cell act 0) ∷ instr.Make number 1 0 place ∷ third)
      → (g : ℤ → Ran) (f : meaning.State → Result) (i : S.World) (st : meaning.State) (state : machine.State) (m : ℤ) → ShowsIn code heartbeat z (seeing act seen) fuel S i [] st state → register state.registers 0 ≡ word.Int m
      → Remains code state.block state.at (store (kept_cell act 0) (value.Reg 0) ∷ second) end
      → ((n : ℤ) → InRange n → (other : machine.State) → ShowsIn code heartbeat z (seeing act seen) fuel S i [] st other → other.tables ≡ state.tables → other.made ≡ state.made → register other.registers 1 ≡ word.Int m → register other.registers 0 ≡ word.Int n
      → Remains code other.block other.at (instr.Make number 1 0 place ∷ third) end → (S.owing i (then (result (g n)) f)).Holds other)
      → (S.owing i (then (result (given b st g)) f)).Holds state
  kept_size seen b number place second third end kept d g f i st state m shows is_m stands go =
      let inside_it : z + kept_cell act 0 < state.stack.base + length state.stack.cells = omega (arith, shows.top, kept) in
      let from : state.stack.base ≤ z + kept_cell act 0 = omega (arith, shows.low) in
      let K : Back code heartbeat = S.owing i (then (result (given b st g)) f) in
      let stack : StackValue = with_word state.stack (pos (z + kept_cell act 0)) (word.Int m) in
      let one : machine.State = effect.with_stack (advanced state) stack in
      let shows_one : ShowsIn code heartbeat z (seeing act seen) fuel S i [] st one = shows_new code heartbeat z (seeing act seen) fuel S i shows (kept_cell act 0) (word.Int m) (omega arith) lowest in
      stores_in code heartbeat z (seeing act seen) fuel K state (kept_cell act 0) (value.Reg 0) second end stands shows.base shows.low inside_it
      (subst (λ (w : Word). K.Holds (effect.with_stack (advanced state) (with_word state.stack (pos (z + kept_cell act 0)) w))) (sym is_m)
      (computes_bare code heartbeat z (seeing act seen) fuel expr_law S bare i [] st one shows_one b
      0 second (load 1 (kept_cell act 0) ∷ instr.Make number 1 0 place ∷ third) end d
      (behind code state.block state.at _ second end stands) g f
      (λ n in_n words beat at keeps is_n left.
      let two : machine.State = moved one words beat at in
      let shows_two : ShowsIn code heartbeat z (seeing act seen) fuel S i [] st two = still_shows code heartbeat z (seeing act seen) fuel S i [] st one 0 words beat at shows_one keeps in
      on_load code heartbeat (S.owing i (then (result (g n)) f)) two 1 31 (kept_cell act 0) (pos z) (word.Int m) (next code two _ _ end left) shows_two.base (word_same state.stack (z + kept_cell act 0) (word.Int m) from inside_it)
      (go n in_n (with_register (advanced two) 1 (word.Int m))
      (shows_words code heartbeat z (seeing act seen) fuel S i shows_two (slice_set words 1 (word.Int m)) (length-set words 1 (word.Int m)) (register_other words 1 31 (word.Int m) (λ (q : 31 ≡ 1). absurd (omega (arith, q)))))
      refl refl (register_set words 1 (word.Int m) (omega (arith, shows_two.size))) (register_other words 1 0 (word.Int m) (λ (q : 0 ≡ 1). absurd (omega (arith, q))) ∙ is_n)
      (behind code state.block at _ _ end left)))))

  pub makes_law : {seen : List (List ℕ)} {ds : List TableDecl} {instrs more : List Instr} → Makes code act seen ds instrs more → (end : Term) (front tables : List CodeTable) → code.tables ≡ front ++ tables → length front ≡ length seen → AreDeclared ds tables → AreGiven ds given_tables
      → (f : meaning.State → Result) → Owed code heartbeat z (seeing act (seen ++ map table_name ds)) fuel S [] more end f → MakingOwes seen ds instrs end f
  makes_law (no_table {seen}) end front tables is_code as_many declared there f post cells i st state h stands =
      post i st state (subst (λ ns. ShowsIn code heartbeat z (seeing act ns) fuel S i [] st state) (sym (append-nil seen)) h.shows) stands
  makes_law (input_table {seen} {x} {ds} rest) end front [] is_code as_many declared there f post cells i st state h stands = absurd declared
  makes_law (input_table {seen} {x} {ds} {more = more} rest) end front (t ∷ ts) is_code as_many declared there f post cells i st state h stands =
      makes_law rest end (front ++ t ∷ []) ts (is_code ∙ sym (append_assoc front (t ∷ []) ts)) (omega (arith, as_many, length-append front (t ∷ []), length-append seen (x.text.items ∷ []))) declared.1 there.1 f
      (subst (λ ns. Owed code heartbeat z (seeing act ns) fuel S [] more end f) (sym (append_assoc seen (x.text.items ∷ []) (map table_name ds))) post)
      cells i (add_table (table_of given_tables x.text.items) st) state (input_done x ds seen cells i st state there.0 h) stands
  makes_law (made_table {seen} {x} {a} {b} {ds} c d rest) end front [] is_code as_many declared there f post cells i st state h stands = absurd declared
  makes_law (made_table {seen} {x} {a} {b} {ds} c d rest) end front (code_table.Input name ∷ ts) is_code as_many declared there f post cells i st state h stands = absurd declared.0
  makes_law (made_table {seen} {x} {a} {b} {ds} {instrs} {second} {third} {more} c d rest) end front (code_table.Made ∷ ts) is_code as_many declared there f post cells i st state h stands =
      let others : MakingOwes (seen ++ x.text.items ∷ []) ds third end f =
      makes_law rest end (front ++ code_table.Made ∷ []) ts (is_code ∙ sym (append_assoc front (code_table.Made ∷ []) ts)) (omega (arith, as_many, length-append front (code_table.Made ∷ []), length-append seen (x.text.items ∷ []))) declared.1 there f
      (subst (λ ns. Owed code heartbeat z (seeing act ns) fuel S [] more end f) (sym (append_assoc seen (x.text.items ∷ []) (map table_name ds))) post) in
      computes_bare code heartbeat z (seeing act seen) fuel expr_law S bare i [] st state h.shows a
      0 instrs second end c stands
      (λ m. given b st (λ n. followed x ds cells st m n)) f
      (λ m in_m words beat at keeps is_m left.
      let one : machine.State = moved state words beat at in
      let making_one : Making i seen cells (Made x a b ∷ ds) st one = making_moved i seen cells (Made x a b ∷ ds) st state 0 words beat at h keeps in
      computes_bare code heartbeat z (seeing act seen) fuel expr_law S bare i [] st one
      making_one.shows b 1 second (instr.Make (length seen) 0 1 x.place ∷ third) end d left
      (λ n. followed x ds cells st m n) f
      (λ n in_n words2 beat2 at2 keeps2 is_n left2.
      at_make x a b ds seen 0 1 third end front ts is_code as_many f others cells i st (moved one words2 beat2 at2) (making_moved i seen cells (Made x a b ∷ ds) st one 1 words2 beat2 at2 making_one keeps2) left2 m n in_m in_n (keeps2.below 0 (omega arith) ∙ is_m) is_n))
  makes_law (made_kept_table {seen} {x} {a} {b} {ds} kept c d rest) end front [] is_code as_many declared there f post cells i st state h stands = absurd declared
  makes_law (made_kept_table {seen} {x} {a} {b} {ds} kept c d rest) end front (code_table.Input name ∷ ts) is_code as_many declared there f post cells i st state h stands = absurd declared.0
  makes_law (made_kept_table {seen} {x} {a} {b} {ds} {instrs} {second} {third} {more} kept c d rest) end front (code_table.Made ∷ ts) is_code as_many declared there f post cells i st state h stands =
      let others : MakingOwes (seen ++ x.text.items ∷ []) ds third end f =
      makes_law rest end (front ++ code_table.Made ∷ []) ts (is_code ∙ sym (append_assoc front (code_table.Made ∷ []) ts)) (omega (arith, as_many, length-append front (code_table.Made ∷ []), length-append seen (x.text.items ∷ []))) declared.1 there f
      (subst (λ ns. Owed code heartbeat z (seeing act ns) fuel S [] more end f) (sym (append_assoc seen (x.text.items ∷ []) (map table_name ds))) post) in
      computes_bare code heartbeat z (seeing act seen) fuel expr_law S bare i [] st state h.shows a
      0 instrs (store (kept_cell act 0) (value.Reg 0) ∷ second) end c stands
      (λ m. given b st (λ n. followed x ds cells st m n)) f
      (λ m in_m words beat at keeps is_m left.
      let one : machine.State = moved state words beat at in
      let making_one : Making i seen cells (Made x a b ∷ ds) st one = making_moved i seen cells (Made x a b ∷ ds) st state 0 words beat at h keeps in
      kept_size seen b (length seen) x.place second third end kept d (λ n. followed x ds cells st m n) f i st one m making_one.shows is_m left
      (λ n in_n other shows_other same_tables same_made first_is second_is left2.
      at_make x a b ds seen 1 0 third end front ts is_code as_many f others cells i st other (making_shown i seen cells (Made x a b ∷ ds) st one other same_tables same_made shows_other making_one) left2 m n in_m in_n first_is second_is))
