-- What is held of the tables where statements stand: enough for each `par` among them that is cut.
use Rattle.std.proofs.Common.{◌≡◌, ◌≤◌, ℕ, Bool, true, false, cond, List, [], ◌∷◌, ◌++◌, bytes_eq}
use Rattle.std.proofs.Common.{None, Option, append-nil, append_assoc, ap, refl, sym, subst, ◌∙◌}
use Rattle.std.proofs.Common.{arith}
use Rattle.std.specs.Prelude.{ℤ, ⊤, ◌≤ℤ◌}
use Rattle.std.specs.List.{AllByRecursion}
use Rattle.std.proofs.lemmas.Slice.Eq.{bytes_eq-Decides}
use Rattle.tp_value.specs.declared.Table.{Table}
use Rattle.loop_syntax.specs.declared.Carry.{Carry}
use Rattle.loop_syntax.specs.declared.Carry.TheVariants as carry
use Rattle.loop_syntax.specs.declared.ParLoop.{ParLoop}
use Rattle.loop_syntax.specs.declared.Program.{Program}
use Rattle.loop_syntax.specs.declared.Reduce.{Reduce}
use Rattle.loop_syntax.specs.declared.RowAt.TheVariants as row
use Rattle.loop_rules.specs.Names.{operator_of}
use Rattle.loop_meaning.specs.declared.value.Variable.{Variable}
use Rattle.loop_meaning.specs.State.{lookup}
use Rattle.stack_marks.specs.Stacks.{StackValue}
use Rattle.tpal_syntax.specs.Listing.{Listing}
use Rattle.frame_machine.specs.Bodies.{MayCarry}
use Rattle.frame_machine.specs.Lawful.{Lawful, RowsFixed, modes_in}
use Rattle.frame_machine.specs.Modes.{Mode, Modes, demoted, inner_modes}
use Rattle.frame_machine.specs.Modes as mode
use Rattle.frame_machine.specs.Parts.{Cells, SeenAt, Written, WrittenAt}
use Rattle.form_laws.proofs.Premises.Around.{Around, Free, MayStand, Within}
use Rattle.form_laws.proofs.Premises.Around.{in_call, no_row_in_call, whole_in_call}
use Rattle.form_laws.proofs.Premises.Around.{demoted_whole, modes_at}
use Rattle.scene_laws.proofs.Scenes.Changing.{Changed, changed_more}
use Rattle.form_laws.proofs.Forms.Choices.{Longer}
use Rattle.scene_laws.proofs.Scenes.Fixed.{AreFixed}
use Rattle.scene_laws.proofs.Merges.JoinsModes.{Serves}
use Rattle.form_laws.proofs.Forms.LoopScenes.{inside}
use Rattle.scene_laws.proofs.Cuts.Parts.{IsKnown}
use Rattle.scene_laws.proofs.Scenes.Regions.{Extent, Has, HasCell, IsWholly, Unknown, Wholly}
use Rattle.scene_laws.proofs.Scenes.Scene.{Scene}
use Rattle.scene_laws.proofs.Cuts.Sides.{carried}
use Rattle.form_laws.proofs.Forms.Ticks.{later_in}
use Rattle.scene_laws.proofs.Scenes.Variables.{var_names}

-- ---- cells

-- the rows that are an iteration's own, where the variables have these values and a loop inside
-- reduces some others
pub record IsOwn (rs : List Reduce) (m : Mode) (vs : List Variable) (i : ℤ) : Type 0 where
  pub var : List ℕ
  pub is_row : m ≡ mode.OwnRow var
  pub unreduced : operator_of rs var ≡ None
  pub at : i ≡ lookup vs var

-- the cells that may change where this is round: every one, or those of an iteration's own rows
abbrev pub Own : List Reduce → Around → List Variable → Cells
Own rs Free vs t i j = ⊤
Own rs (Within m) vs t i j = IsOwn rs (m t) vs i

-- every number
abbrev pub Any : ℤ → Type 0
Any n = ⊤

pub wholly_cell : (e : Extent) (i j : ℤ) → IsWholly e → HasCell e i j
wholly_cell Wholly i j whole = tt
wholly_cell (Has test) i j whole = absurd whole
wholly_cell Unknown i j whole = absurd whole

wholly_known : (e : Extent) → IsWholly e → IsKnown e
wholly_known Wholly whole = tt
wholly_known (Has test) whole = absurd whole
wholly_known Unknown whole = absurd whole

-- what may be read anywhere in the body of a `par` may be read so round it
module _ (x : List ℕ) where
  pub whole_of : (cs : List Carry) (m : Modes) (t : List ℕ) → inner_modes cs x m t ≡ mode.Whole
      → m t ≡ mode.Whole
  whole_of [] m t is = demoted_whole (m t) is
  whole_of (carry.Rows u k ∷ cs) m t is = go (bytes_eq u.text.items t) is (whole_of cs m t)
    where
      go : (b : Bool) → cond b (mode.OwnRow x) (inner_modes cs x m t) ≡ mode.Whole
          → (inner_modes cs x m t ≡ mode.Whole → m t ≡ mode.Whole) → m t ≡ mode.Whole
      go true wrong behind =
          absurd (let no_way : mode.OwnRow x ≡ mode.Whole = wrong in cc)
      go false here behind = behind here
  whole_of (carry.Cells u k c ∷ cs) m t is = go (bytes_eq u.text.items t) is (whole_of cs m t)
    where
      go : (b : Bool)
          → cond b (mode.OwnCell (mode.line_of k) x) (inner_modes cs x m t) ≡ mode.Whole
          → (inner_modes cs x m t ≡ mode.Whole → m t ≡ mode.Whole) → m t ≡ mode.Whole
      go true wrong behind =
          absurd (let no_way : mode.OwnCell (mode.line_of k) x ≡ mode.Whole = wrong in cc)
      go false here behind = behind here

-- ---- what is held

-- names that begin with some which begin with others begin with these
pub longer_on : {first second third : List (List ℕ)} → Longer first second → Longer second third
    → Longer first third
longer_on {first} {second} {third} p q = record {
  more = p.more ++ q.more;
  is = q.is ∙ ap (λ (ns : List (List ℕ)). ns ++ q.more) p.is ∙ append_assoc first p.more q.more;
}

module _ (code : Listing) (heartbeat z : ℕ) where
  -- What may be read anywhere is held wholly. The cells that may change are held, and tables that
  -- may be met may be met behind such a change. A task that was cut isn't taken to have more ticks.
  pub record Served (S : Scene code heartbeat z) (a : Around) (names : List (List ℕ)) : Type 0
    where
      pub whole : (w : S.World) (s : StackValue) → S.kept w s → (t : List ℕ)
          → modes_at a t ≡ mode.Whole → IsWholly (S.region w t)
      pub known : (w : S.World) (s : StackValue) → S.kept w s → (t x : List ℕ)
          → modes_at a t ≡ mode.OwnRow x → IsKnown (S.region w t)
      pub cells : (w : S.World) (s : StackValue) (rs : List Reduce) (vs : List Variable)
          → Longer names (var_names vs) → S.kept w s → AreFixed rs s z 0 vs
          → (t : List ℕ) (i j : ℤ) → Own rs a vs t i j → HasCell (S.region w t) i j
      pub meets : (w : S.World) (s : StackValue) (rs : List Reduce) (vs : List Variable)
          → Longer names (var_names vs) → S.kept w s → AreFixed rs s z 0 vs
          → (ts us : List Table) → Changed (Own rs a vs) ts us → S.can w ts → S.can w us
      pub early : (w : S.World) (k : ℕ) (printed : List ℕ) → S.since (S.cut w k printed) ≤ S.since w

  module _ (S : Scene code heartbeat z) (p : Program) (l : ParLoop) (names : List (List ℕ))
      (w : S.World) (s : StackValue) (vs : List Variable) (named : var_names vs ≡ names)
      (kept : S.kept w s) (fixed : AreFixed l.reduces.items s z 0 vs) where
    begins : Longer names (var_names vs)
    begins = record { more = []; is = named ∙ sym (append-nil names) }

    -- what iterations may see is held, and they write only rows that are an iteration's own
    module _ (m : Modes) (served : Served S (Within m) names) where
      by_mode : (P : ℤ → Type 0) (t : List ℕ) (i j : ℤ) (md : Mode) → m t ≡ md
          → SeenAt P vs (demoted md) i j → HasCell (S.region w t) i j
      by_mode P t i j mode.Whole is seen =
          wholly_cell (S.region w t) i j (served.whole w s kept t is)
      by_mode P t i j mode.Closed is seen = absurd seen
      by_mode P t i j (mode.OwnRow x) is seen = absurd seen
      by_mode P t i j (mode.OwnCell k x) is seen = absurd seen

      own_of : (u t k : List ℕ) (i : ℤ) → u ≡ t → m u ≡ mode.OwnRow k
          → operator_of l.reduces.items k ≡ None → i ≡ lookup vs k
          → IsOwn l.reduces.items (m t) vs i
      own_of u t k i same is none at = record {
        var = k;
        is_row = subst (λ y. m y ≡ mode.OwnRow k) same is;
        unreduced = none;
        at = at;
      }

      seen_held : (P : ℤ → Type 0) (x : List ℕ) (cs : List Carry) → MayCarry m cs
          → RowsFixed names l.reduces.items cs → (t : List ℕ) (i j : ℤ)
          → SeenAt P vs (inner_modes cs x m t) i j → HasCell (S.region w t) i j
      seen_held P x [] stand rows t i j seen = by_mode P t i j (m t) refl seen
      seen_held P x (carry.Rows u k ∷ cs) stand rows t i j seen = absurd stand
      seen_held P x (carry.Cells u (row.Int n) c ∷ cs) stand rows t i j seen = absurd stand
      seen_held P x (carry.Cells u (row.Var k) c ∷ cs) stand rows t i j seen =
          go (bytes_eq u.text.items t) refl seen (seen_held P x cs stand.1 rows.2 t i j)
        where
          go : (b : Bool) → bytes_eq u.text.items t ≡ b
              → SeenAt P vs (cond b (mode.OwnCell (mode.Named k.text.items) x)
              (inner_modes cs x m t)) i j
              → (SeenAt P vs (inner_modes cs x m t) i j → HasCell (S.region w t) i j)
              → HasCell (S.region w t) i j
          go true e here behind =
              served.cells w s l.reduces.items vs begins kept fixed t i j
              (own_of u.text.items t k.text.items i ((bytes_eq-Decides u.text.items t).0 e)
              stand.0 rows.1 here.0)
          go false e here behind = behind here

      written_own : (x : List ℕ) (cs : List Carry) → MayCarry m cs
          → RowsFixed names l.reduces.items cs → (t : List ℕ) (i j : ℤ)
          → WrittenAt Any vs (inner_modes cs x m t) i j
          → Own l.reduces.items (Within m) vs t i j
      written_own x [] stand rows t i j written = none_written (m t) written
        where
          none_written : (md : Mode) → WrittenAt Any vs (demoted md) i j
              → Own l.reduces.items (Within m) vs t i j
          none_written mode.Whole wrong = absurd wrong
          none_written mode.Closed wrong = absurd wrong
          none_written (mode.OwnRow y) wrong = absurd wrong
          none_written (mode.OwnCell k y) wrong = absurd wrong
      written_own x (carry.Rows u k ∷ cs) stand rows t i j written = absurd stand
      written_own x (carry.Cells u (row.Int n) c ∷ cs) stand rows t i j written = absurd stand
      written_own x (carry.Cells u (row.Var k) c ∷ cs) stand rows t i j written =
          go (bytes_eq u.text.items t) refl written (written_own x cs stand.1 rows.2 t i j)
        where
          go : (b : Bool) → bytes_eq u.text.items t ≡ b
              → WrittenAt Any vs (cond b (mode.OwnCell (mode.Named k.text.items) x)
              (inner_modes cs x m t)) i j
              → (WrittenAt Any vs (inner_modes cs x m t) i j
              → Own l.reduces.items (Within m) vs t i j)
              → Own l.reduces.items (Within m) vs t i j
          go true e here behind =
              own_of u.text.items t k.text.items i ((bytes_eq-Decides u.text.items t).0 e)
              stand.0 rows.1 here.0
          go false e here behind = behind here

      carried_known : (cs : List Carry) → MayCarry m cs
          → AllByRecursion (λ (c : Carry). IsKnown (S.region w (carried c))) cs
      carried_known [] stand = tt
      carried_known (carry.Rows u k ∷ cs) stand = absurd stand
      carried_known (carry.Cells u (row.Int n) c ∷ cs) stand = absurd stand
      carried_known (carry.Cells u (row.Var k) c ∷ cs) stand =
          (served.known w s kept u.text.items k.text.items stand.0, carried_known cs stand.1)

    all_known : ((t : List ℕ) → IsWholly (S.region w t)) → (cs : List Carry)
        → AllByRecursion (λ (c : Carry). IsKnown (S.region w (carried c))) cs
    all_known all [] = tt
    all_known all (c ∷ cs) =
        (wholly_known (S.region w (carried c)) (all (carried c)), all_known all cs)

    module _ (a : Around) (served : Served S a names) (rules : Lawful p (modes_at a) names l)
        (stands : MayStand a l.carries.items) where
      -- so it serves the iterations of a `par` that stands there
      pub serves_at : (from to : ℤ) → Serves (modes_at a) l vs from to (S.region w)
      serves_at from to = go a served rules stands
        where
          go : (b : Around) → Served S b names → Lawful p (modes_at b) names l
              → MayStand b l.carries.items → Serves (modes_at b) l vs from to (S.region w)
          go Free here law may = record {
            enough = record {
              cells = λ t i j up low. wholly_cell (S.region w t) i j (here.whole w s kept t refl);
              known = all_known (λ t. here.whole w s kept t refl) l.carries.items;
            };
            whole = λ t is. here.whole w s kept t refl;
          }
          go (Within m) here law may = record {
            enough = record {
              cells = λ t i j up low. seen_held m here (λ n. from ≤ℤ n) l.var.text.items
                  l.carries.items may law.rows t i j up;
              known = carried_known m here l.carries.items may;
            };
            whole = λ t is. here.whole w s kept t
                (whole_of l.var.text.items l.carries.items m t is);
          }

      -- and its tables may change where those write
      pub meets_at : (ts us : List Table)
          → Changed (Written Any vs (modes_in (modes_at a) l)) ts us → S.can w ts → S.can w us
      meets_at ts us changed =
          served.meets w s l.reduces.items vs begins kept fixed ts us
          (changed_more (Written Any vs (modes_in (modes_at a) l)) (Own l.reduces.items a vs) ts us
          (go a served rules stands) changed)
        where
          go : (b : Around) → Served S b names → Lawful p (modes_at b) names l
              → MayStand b l.carries.items → (t : List ℕ) (i j : ℤ)
              → Written Any vs (modes_in (modes_at b) l) t i j → Own l.reduces.items b vs t i j
          go Free here law may t i j written = tt
          go (Within m) here law may t i j written =
              written_own m here l.var.text.items l.carries.items may law.rows t i j written

  -- ---- elsewhere

  module _ {S : Scene code heartbeat z} {a : Around} {names : List (List ℕ)}
      (served : Served S a names) where
    -- where more variables are visible
    pub served_more : {more : List (List ℕ)} → Longer names more → Served S a more
    served_more {more} longer = record {
      whole = served.whole;
      known = served.known;
      cells = λ w s rs vs begins. served.cells w s rs vs (longer_on longer begins);
      meets = λ w s rs vs begins. served.meets w s rs vs (longer_on longer begins);
      early = served.early;
    }

    -- with more ticks, and inside a loop
    pub served_later : (n : ℕ) → Served (later_in code heartbeat z S n) a names
    served_later n = record {
      whole = served.whole;
      known = served.known;
      cells = served.cells;
      meets = served.meets;
      early = λ w k printed. let by = served.early w k printed in omega (arith, by);
    }

    pub served_inside : (level : ℕ) (lowest : S.lowest ≤ level) (m : ℤ) (held : Option ℤ)
        → Served (inside code heartbeat z S level lowest m held) a names
    served_inside level lowest m held = record {
      whole = λ w s kept. served.whole w s kept.0;
      known = λ w s kept. served.known w s kept.0;
      cells = λ w s rs vs begins kept. served.cells w s rs vs begins kept.0;
      meets = λ w s rs vs begins kept. served.meets w s rs vs begins kept.0;
      early = served.early;
    }

-- ---- a function that is called

-- in a function's scene no row is its own: it is enough that what may be read anywhere round the
-- call is held wholly
pub served_call : (code : Listing) (heartbeat z : ℕ) (C : Scene code heartbeat z) (a : Around)
    (params : List (List ℕ))
    → ((w : C.World) (s : StackValue) → C.kept w s → (t : List ℕ) → modes_at a t ≡ mode.Whole
    → IsWholly (C.region w t))
    → ((w : C.World) (k : ℕ) (printed : List ℕ) → C.since (C.cut w k printed) ≤ C.since w)
    → Served code heartbeat z C (in_call a) params
served_call code heartbeat z C a params whole early = record {
  whole = λ w s kept t is. whole w s kept t (whole_in_call a t is);
  known = λ w s kept t x is. absurd (no_row_in_call a t x is);
  cells = λ w s rs vs begins kept fixed t i j own.
      absurd (no_row_in_call a t own.var own.is_row);
  meets = λ w s rs vs begins kept fixed ts us changed can.
      subst (C.can w)
      (sym (changed.none (λ t i j own. no_row_in_call a t own.var own.is_row))) can;
  early = early;
}
