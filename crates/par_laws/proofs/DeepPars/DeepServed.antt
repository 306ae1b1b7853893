-- What is held of the tables in a running iteration of a `par` that may be cut in the middle of it
-- serves what stands in its body.
use Rattle.std.proofs.Common.{◌≡◌, ℕ, zero, suc, ◌+◌, ◌≤◌, Bool, true, false, cond, List, [], ◌∷◌}
use Rattle.std.proofs.Common.{◌++◌, append_assoc, length, None, Some, bytes_eq, refl, sym, ap}
use Rattle.std.proofs.Common.{subst}
use Rattle.std.proofs.Common.{◌∙◌, arith}
use Rattle.std.specs.Prelude.{ℤ, pos, ◌||◌}
use Rattle.std.proofs.lemmas.Bool.{true≢false}
use Rattle.std.proofs.lemmas.Int.{ints}
use Rattle.std.proofs.lemmas.Slice.Eq.{bytes_eq-Decides}
use Rattle.stack_marks.specs.declared.mark.Mark.{Mark}
use Rattle.stack_marks.specs.Stacks.{StackValue, word_at}
use Rattle.tp_value.specs.declared.Table.{Table}
use Rattle.loop_syntax.specs.declared.Carry.{Carry}
use Rattle.loop_syntax.specs.declared.Carry.TheVariants as carry
use Rattle.loop_syntax.specs.declared.Reduce.{Reduce}
use Rattle.loop_rules.specs.Names.{is_in, operator_of}
use Rattle.loop_meaning.specs.declared.value.Variable.{Variable}
use Rattle.loop_meaning.specs.State.{lookup}
use Rattle.tpal_syntax.specs.declared.words.Word.TheVariants.{Int}
use Rattle.tpal_syntax.specs.Listing.{Listing}
use Rattle.frame_machine.specs.Lawful.{modes_in}
use Rattle.frame_machine.specs.Modes as mode
use Rattle.frame_machine.specs.Modes.{Mode, Modes, demoted, inner_modes}
use Rattle.frame_machine.specs.Parts.{Below, From, SeenAt, Written, WrittenAt}
use Rattle.scene_laws.specs.Layout.{Activation, value_cell}
use Rattle.form_laws.proofs.Premises.Around.{Around, Within, in_body}
use Rattle.scene_laws.proofs.Scenes.Changing.{Changed, changed_more, changed_trans}
use Rattle.form_laws.proofs.Forms.Choices.{Longer}
use Rattle.par_laws.proofs.DeepPars.DeepRunning.{Handles, KeptRunning, Running, can_running}
use Rattle.par_laws.proofs.DeepPars.DeepRunning.{cut_host}
use Rattle.par_laws.proofs.DeepPars.DeepRunning.{cut_left}
use Rattle.par_laws.proofs.DeepPars.DeepRunning.{cut_piece, own_written, running}
use Rattle.par_laws.proofs.DeepPars.DeepScenes.{Deep, can_of, enough_of, outer_of, region_of}
use Rattle.par_laws.proofs.DeepPars.DeepScenes.{since_of}
use Rattle.par_laws.proofs.DeepPars.DeepScenes.{variable}
use Rattle.scene_laws.proofs.Scenes.Fixed.{AreFixed}
use Rattle.scene_laws.proofs.Merges.JoinsModes.{Serves, each_carried, is_carried}
use Rattle.scene_laws.proofs.Cuts.Parts.{IsKnown}
use Rattle.scene_laws.proofs.Scenes.Pieces.{Apart, Host, Piece}
use Rattle.scene_laws.proofs.Scenes.Regions.{HasCell}
use Rattle.form_laws.proofs.Premises.Serving.{Any, IsOwn, Served}
use Rattle.scene_laws.proofs.Scenes.Variables.{var_names}

-- ---- an iteration's own rows

row_demoted : (m : Mode) (y : List ℕ) → demoted m ≡ mode.OwnRow y → ⊥
row_demoted mode.Whole y is = cc
row_demoted mode.Closed y is = cc
row_demoted (mode.OwnRow x) y is = cc
row_demoted (mode.OwnCell k x) y is = cc

-- are those of the loop's variable, in tables that are carried
own_rows : (x : List ℕ) (m : Modes) (cs : List Carry) (t y : List ℕ)
    → inner_modes cs x m t ≡ mode.OwnRow y → (y ≡ x) × (is_carried cs t ≡ true)
own_rows x m [] t y is = absurd (row_demoted (m t) y is)
own_rows x m (carry.Rows u i ∷ cs) t y is =
    go (bytes_eq u.text.items t) refl is (own_rows x m cs t y)
  where
    go : (b : Bool) → bytes_eq u.text.items t ≡ b
        → cond b (mode.OwnRow x) (inner_modes cs x m t) ≡ mode.OwnRow y
        → (inner_modes cs x m t ≡ mode.OwnRow y → (y ≡ x) × (is_carried cs t ≡ true))
        → (y ≡ x) × ((bytes_eq u.text.items t || is_carried cs t) ≡ true)
    go true e here rest = ((let same : mode.OwnRow x ≡ mode.OwnRow y = here in cc), rw e refl)
    go false e here rest = ((rest here).0, rw e (rest here).1)
own_rows x m (carry.Cells u k j ∷ cs) t y is =
    go (bytes_eq u.text.items t) refl is (own_rows x m cs t y)
  where
    go : (b : Bool) → bytes_eq u.text.items t ≡ b
        → cond b (mode.OwnCell (mode.line_of k) x) (inner_modes cs x m t) ≡ mode.OwnRow y
        → (inner_modes cs x m t ≡ mode.OwnRow y → (y ≡ x) × (is_carried cs t ≡ true))
        → (y ≡ x) × ((bytes_eq u.text.items t || is_carried cs t) ≡ true)
    go true e here rest =
        absurd (let wrong : mode.OwnCell (mode.line_of k) x ≡ mode.OwnRow y = here in cc)
    go false e here rest = ((rest here).0, rw e (rest here).1)

-- ---- the loop's variable

int_same : (m n : ℤ) → Some (Int m) ≡ Some (Int n) → m ≡ n
int_same m n is = cc

-- a variable behind others of other names has the number in its cell, if it isn't reduced
variable_value : (rs : List Reduce) (s : StackValue) (z : ℕ) (outside more : List (List ℕ))
    (x : List ℕ) (level cell : ℕ) (vs : List Variable) (n : ℤ)
    → var_names vs ≡ outside ++ x ∷ more → is_in outside x ≡ false → operator_of rs x ≡ None
    → AreFixed rs s z level vs → level + length outside ≡ cell
    → word_at s (pos (z + value_cell cell)) ≡ Some (Int n) → lookup vs x ≡ n
variable_value rs s z [] more x level cell [] n named fresh free fixed at word = cc
variable_value rs s z [] more x level cell (u ∷ us) n named fresh free fixed at word =
    let is : u.name ≡ x = cc in
    let here : bytes_eq u.name x ≡ true = (bytes_eq-Decides u.name x).1 is in
    let same : level ≡ cell = omega (arith, at) in
    let own : operator_of rs u.name ≡ None = rw is free in
    let value : u.value ≡ n =
    int_same u.value n (sym (fixed.0 own)
    ∙ (ap (λ (c : ℕ). word_at s (pos (z + value_cell c))) same ∙ word)) in
    rw here value
variable_value rs s z (o ∷ os) more x level cell [] n named fresh free fixed at word = cc
variable_value rs s z (o ∷ os) more x level cell (u ∷ us) n named fresh free fixed at word =
    let is : u.name ≡ o = cc in
    let others : var_names us ≡ os ++ x ∷ more = cc in
    go is (λ later. variable_value rs s z os more x (suc level) cell us n others later free fixed.1
    (omega (arith, at)) word) (bytes_eq o x) refl
  where
    go : u.name ≡ o → (is_in os x ≡ false → lookup us x ≡ n) → (b : Bool) → bytes_eq o x ≡ b
        → lookup (u ∷ us) x ≡ n
    go is rest true e = absurd (true≢false (let wrong : true ≡ false = rw e at fresh in wrong))
    go is rest false e =
        let other : bytes_eq u.name x ≡ false = rw is e in
        let later : is_in os x ≡ false = rw e at fresh in
        rw other (rest later)

-- ---- a running iteration

module _ {code : Listing} {heartbeat z : ℕ} {act : Activation} (d : Deep code heartbeat z act)
    (N : ℕ) where
  abbrev modes : Modes
  modes = modes_in d.q.modes d.q.loop

  -- what is held serves the running iteration and those that aren't begun
  serves_running : (v : Running d N) (s : StackValue) → KeptRunning d v s
      → Serves d.q.modes d.q.loop v.start.vars v.from v.to (region_of d v.piece)
  serves_running v s kept = by_piece v.piece kept.outer kept.enough
    where
      by_piece : (o : Piece d.S.World) → outer_of d o s → enough_of d o v.start.vars v.from v.to
          → Serves d.q.modes d.q.loop v.start.vars v.from v.to (region_of d o)
      by_piece (Host w) outer enough =
          d.serves w s v.start.vars v.named outer kept.fixed v.from v.to
      by_piece (Apart part) outer enough = enough

  module _ (v : Running d N) (s : StackValue) (rs : List Reduce) (vs : List Variable)
      (longer : Longer (d.q.names ++ variable d ∷ []) (var_names vs)) (kept : KeptRunning d v s)
      (fixed : AreFixed rs s z 0 vs) where
    -- an own row is that of the number of the iteration
    own_row : (t : List ℕ) (i : ℤ) → IsOwn rs (modes t) vs i
        → (modes t ≡ mode.OwnRow (variable d)) × (i ≡ v.from)
    own_row t i own = (
      own.is_row ∙ ap (λ (y : List ℕ). mode.OwnRow y) same,
      own.at ∙ (ap (λ (y : List ℕ). lookup vs y) same ∙ value),
    )
      where
        same : own.var ≡ variable d
        same = (own_rows (variable d) d.q.modes d.q.loop.carries.items t own.var own.is_row).0

        free : operator_of rs (variable d) ≡ None
        free = subst (λ (y : List ℕ). operator_of rs y ≡ None) same own.unreduced

        value : lookup vs (variable d) ≡ v.from
        value =
            variable_value rs s z d.q.names longer.more (variable d) 0 (length d.q.names) vs v.from
            (longer.is ∙ append_assoc d.q.names (variable d ∷ []) longer.more) d.rules.fresh free
            fixed (omega arith) kept.next

    own_cell : (t : List ℕ) (i j : ℤ) → IsOwn rs (modes t) vs i →
        HasCell (region_of d v.piece t) i j
    own_cell t i j own =
        (serves_running v s kept).enough.cells t i j
        (subst (λ (md : Mode). SeenAt (From v.from) v.start.vars md i j) (sym row.0)
        (omega (arith, ints, row.1)))
        (subst (λ (md : Mode). SeenAt (Below v.to) v.start.vars md i j) (sym row.0)
        (omega (arith, ints, row.1, v.far)))
      where
        row : (modes t ≡ mode.OwnRow (variable d)) × (i ≡ v.from)
        row = own_row t i own

    own_change : (P : ℤ → Type 0) → P v.from → (t : List ℕ) (i j : ℤ) → IsOwn rs (modes t) vs i
        → Written P v.start.vars modes t i j
    own_change P there t i j own =
        let row : (modes t ≡ mode.OwnRow (variable d)) × (i ≡ v.from) = own_row t i own in
        subst (λ (md : Mode). WrittenAt P v.start.vars md i j) (sym row.0)
        (subst P (sym row.1) there)

    meets_running : (ts us : List Table) → Changed (λ t i j. IsOwn rs (modes t) vs i) ts us
        → can_running d v ts → can_running d v us
    meets_running ts us changed can = (
      by_piece v.piece kept.outer can.0,
      changed_trans (own_written d v) v.start.tables ts us can.1
          (changed_more (λ t i j. IsOwn rs (modes t) vs i) (own_written d v) ts us
          (own_change (λ n. n ≡ v.from) refl) changed),
    )
      where
        by_piece : (o : Piece d.S.World) → outer_of d o s → can_of d o ts → can_of d o us
        by_piece (Host w) outer can_there =
            d.meets w s v.start.vars v.named outer kept.fixed ts us
            (changed_more (λ t i j. IsOwn rs (modes t) vs i) (Written Any v.start.vars modes) ts us
            (own_change Any tt) changed) can_there
        by_piece (Apart part) outer can_there = tt

  -- a cut moves no begin
  early_left : (v : Running d N) (more : ℕ) (is : v.more ≡ more) (c : ℕ) (printed : List ℕ)
      → since_of d (cut_left d v more is c printed).piece ≤ since_of d v.piece
  early_left v zero is c printed = omega arith
  early_left v (suc n) is c printed = omega arith

  early_host : (v : Running d N) (w : d.S.World) (marks : List Mark) (c : ℕ) (printed : List ℕ)
      (begins : d.S.since w ≤ v.start.ticks) → v.piece ≡ Host w
      → since_of d (cut_host d v w marks c printed begins).piece ≤ since_of d v.piece
  early_host v w [] c printed begins at_host = early_left v v.more refl c printed
  early_host v w (m ∷ ms) c printed begins at_host =
      let same : since_of d v.piece ≡ d.S.since w = ap (λ o. since_of d o) at_host in
      omega (arith, d.early w c printed, same)

  early_piece : (v : Running d N) (i : Piece d.S.World) (c : ℕ) (printed : List ℕ)
      (begins : since_of d i ≤ v.start.ticks) → v.piece ≡ i
      → since_of d (cut_piece d v i c printed begins).piece ≤ since_of d v.piece
  early_piece v (Host w) c printed begins at_host =
      early_host v w (d.S.marks w) c printed begins at_host
  early_piece v (Apart part) c printed begins apart = early_left v v.more refl c printed

  module _ (handles : Handles d N) (a : Around) (inside : in_body a d.q.loop ≡ Within modes) where
    pub served_running : Served code heartbeat z (running d N handles) (in_body a d.q.loop)
        (d.q.names ++ variable d ∷ [])
    served_running =
        subst (λ (b : Around). Served code heartbeat z (running d N handles) b
        (d.q.names ++ variable d ∷ [])) (sym inside)
        (record {
          whole = λ v s kept t is. (serves_running v s kept).whole t is;
          known = λ v s kept t y is.
              each_carried (λ u. IsKnown (region_of d v.piece u)) d.q.loop.carries.items t
              (serves_running v s kept).enough.known
              (own_rows (variable d) d.q.modes d.q.loop.carries.items t y is).1;
          cells = λ v s rs vs longer kept fixed t i j own.
              own_cell v s rs vs longer kept fixed t i j own;
          meets = λ v s rs vs longer kept fixed ts us changed can.
              meets_running v s rs vs longer kept fixed ts us changed can;
          early = λ v c printed. early_piece v v.piece c printed v.begins refl;
        })
