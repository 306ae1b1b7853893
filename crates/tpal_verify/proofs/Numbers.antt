-- What calculations, instructions on tables, output, ticks and stops come to.
use Rattle.std.proofs.Common.{◌≡◌, ℕ, ℤ, List, Option, Some, None, refl}
use Rattle.std.specs.Prelude.{Bool, true, false, ◌&&◌, if◌then◌else◌}
use Rattle.tp_value.specs.declared.values.Stop.{Stop}
use Rattle.tp_value.specs.declared.values.Stop.TheVariants as stop
use Rattle.tpal_syntax.specs.declared.blocks.Block.{Block}
use Rattle.tpal_syntax.specs.declared.instructions.Instr.{Instr}
use Rattle.tpal_syntax.specs.declared.instructions.Instr.TheVariants.{Fetch, Put, Make, Tick, Trap, Print, Emit}
use Rattle.tpal_syntax.specs.declared.words.Word.{Word}
use Rattle.tpal_syntax.specs.declared.words.Word.TheVariants as word
use Rattle.tpal_syntax.specs.Listing.{Listing}
use Rattle.tpal_machine.specs.declared.ends.Goal.{Goal}
use Rattle.tpal_machine.specs.declared.ends.Goal.TheVariants as goal
use Rattle.tpal_machine.specs.declared.ends.Tie.{Tie}
use Rattle.tpal_machine.specs.Calculation.{on_number}
use Rattle.tpal_machine.specs.Cut.{Forked}
use Rattle.tpal_machine.specs.Effect as effect
use Rattle.tpal_machine.specs.Effect.{on_held}
use Rattle.tpal_machine.specs.Ended.{ended_at}
use Rattle.tpal_machine.specs.Reading.{register, block_at, table_at}
use Rattle.tpal_machine.specs.State.{State}
use Rattle.tpal_machine.specs.Step.{Step, stepped, halting, executed}
use Rattle.tpal_verify.specs.declared.phases.Phase.{Phase}
use Rattle.tpal_verify.specs.declared.phases.Phase.TheVariants.{Calm}
use Rattle.tpal_verify.specs.Shapes.{Shape, kind_at}
use Rattle.tpal_verify.specs.Flat.{Ground, ground_of}
use Rattle.tpal_verify.specs.Rules.{is_number_at}
use Rattle.tpal_verify.specs.Rounds.{Shapes}
use Rattle.tpal_verify.specs.Well.{GoesWell}
use Rattle.tpal_verify.specs.Fits.{IsNumberWord, Holds, IsApart, Knows}
use Rattle.tpal_verify.proofs.Order.{and_left, and_right}
use Rattle.tpal_verify.proofs.Lower.{some_none}
use Rattle.tpal_verify.proofs.Holding.{register_is}
use Rattle.tpal_verify.proofs.Ahead.{IsOrdinary, calm_at}
use Rattle.tp_value.specs.declared.values.Place.{Place}
use Rattle.tp_value.specs.declared.values.TrapKind.{TrapKind}
use Rattle.tp_value.specs.declared.values.TrapKind.TheVariants.{Size}
use Rattle.beat_count.specs.Ticks.{is_tick_allowed}
use Rattle.slices.specs.Holding as slices
use Rattle.tpal_verify.proofs.Entering.{EndKnown}
use Rattle.tpal_verify.proofs.Instructions.{number_kind, Here, goes_on, Comes, number_comes}

if_by : {X : Type 0} (Q : X → Type 0) (b : Bool) (x y : X) → Q x → Q y → Q (if b then x else y)
if_by Q true x y f g = f
if_by Q false x y f g = g

module _ (code : Listing) (A : Shapes) (heartbeat : ℕ) (allowed : Bool) (F : Forked → Type 0) (block : Block) where
  abbrev whole : Ground
  whole = ground_of code

  abbrev Gives : Step → Type 0
  Gives x = Comes code A heartbeat allowed F block x

  -- ---- words that are numbers

  pub number_at : (s : Shape) (t : State) (r : ℕ) → is_number_at s r ≡ true → Holds whole false s t → IsNumberWord (register t.registers r)
  number_at s t r q h = number_kind whole t.goal t.pending t.met (kind_at s r) (register t.registers r) q (register_is whole false s t.registers t.stack t.goal t.pending t.met t.beat.granted h r)

  number_by : (w : Word) (go : ℤ → effect.Effect) → IsNumberWord w → ((n : ℤ) → Gives (stepped (go n))) → Gives (stepped (on_number w go))
  number_by (word.Int n) go i f = f n
  number_by (word.Label l) go i f = absurd i
  number_by (word.Rec k) go i f = absurd i
  number_by word.Nil go i f = absurd i

  held_by : (o : Option ℤ) (go : ℤ → effect.Effect) → ((n : ℤ) → Gives (stepped (go n))) → Gives (stepped (on_held o go))
  held_by None go f = tt
  held_by (Some n) go f = f n

  halting_by : (w : Word) (go : ℤ → effect.Halting) → IsNumberWord w → ((n : ℤ) → Gives (halting code (go n))) → Gives (halting code (on_number w go))
  halting_by (word.Int n) go i f = f n
  halting_by (word.Label l) go i f = absurd i
  halting_by (word.Rec k) go i f = absurd i
  halting_by word.Nil go i f = absurd i

  -- ---- tables and output

  pub fetch_comes : (p : Phase) (s : Shape) (first : Bool) (rest : List Instr) (t : State) (to table row col : ℕ) → Here code A heartbeat allowed F block p s first (Fetch to table row col) rest t → Gives (executed code heartbeat allowed (Fetch to table row col) t)
  fetch_comes p s first rest t to table row col h =
      let n = h.obeys.numbers in
      number_by (register t.registers row) _ (number_at s t row (and_left (is_number_at s row) (is_number_at s col) n) h.holds) (λ i.
      number_by (register t.registers col) _ (number_at s t col (and_right (is_number_at s row) (is_number_at s col) n) h.holds) (λ j.
      held_by (slices.cell_at (table_at t.tables table) i j) _ (λ k.
      number_comes code A heartbeat allowed F block p s rest t t to k h.found refl h.rest_is h.on h.obeys.flat (calm_at p (Fetch to table row col) rest t.registers t.pending tt h.ahead h.in_phase) h.holds h.met_apart h.pending_apart)))

  -- a task that holds what it held
  same : (p : Phase) (s : Shape) (first : Bool) (i : Instr) (rest : List Instr) (t : State) → Here code A heartbeat allowed F block p s first i rest t → IsOrdinary i → GoesWell whole A false t.at Calm s rest block.term
      → (v : State) → block_at code v.block ≡ Some block → v.at ≡ t.at → Holds whole false s v → v.pending ≡ None → IsApart v.goal v.met → IsApart v.goal v.pending → Knows code A v
  same p s first i rest t h o on v found at ho pn ma pa = goes_on code A heartbeat allowed F block rest t Calm s v found at h.rest_is on ho pn tt ma pa

  pub put_comes : (p : Phase) (s : Shape) (first : Bool) (rest : List Instr) (t : State) (table row col value : ℕ) → Here code A heartbeat allowed F block p s first (Put table row col value) rest t → Gives (executed code heartbeat allowed (Put table row col value) t)
  put_comes p s first rest t table row col value h =
      let n = h.obeys.numbers in
      let two = and_left (is_number_at s row && is_number_at s col) (is_number_at s value) n in
      number_by (register t.registers row) _ (number_at s t row (and_left (is_number_at s row) (is_number_at s col) two) h.holds) (λ i.
      number_by (register t.registers col) _ (number_at s t col (and_right (is_number_at s row) (is_number_at s col) two) h.holds) (λ j.
      number_by (register t.registers value) _ (number_at s t value (and_right (is_number_at s row && is_number_at s col) (is_number_at s value) n) h.holds) (λ k.
      held_by (slices.cell_at (table_at t.tables table) i j) _ (λ before.
      same p s first (Put table row col value) rest t h tt h.on (effect.with_table t table (slices.with_cell (table_at t.tables table) i j k)) h.found refl h.holds (calm_at p (Put table row col value) rest t.registers t.pending tt h.ahead h.in_phase) h.met_apart h.pending_apart))))

  pub print_comes : (p : Phase) (s : Shape) (first : Bool) (rest : List Instr) (t : State) (r : ℕ) → Here code A heartbeat allowed F block p s first (Print r) rest t → Gives (executed code heartbeat allowed (Print r) t)
  print_comes p s first rest t r h =
      number_by (register t.registers r) _ (number_at s t r h.obeys.numbers h.holds) (λ n.
      same p s first (Print r) rest t h tt h.on (effect.with_output t _) h.found refl h.holds (calm_at p (Print r) rest t.registers t.pending tt h.ahead h.in_phase) h.met_apart h.pending_apart)

  pub emit_comes : (p : Phase) (s : Shape) (first : Bool) (rest : List Instr) (t : State) (table : ℕ) → Here code A heartbeat allowed F block p s first (Emit table) rest t → Gives (executed code heartbeat allowed (Emit table) t)
  emit_comes p s first rest t table h = by (effect.table_lines (table_at t.tables table))
    where
      by : (o : Option (List ℕ)) → Gives (stepped (effect.put_output t o))
      by None = tt
      by (Some text) = same p s first (Emit table) rest t h tt h.on (effect.with_output t text) h.found refl h.holds (calm_at p (Emit table) rest t.registers t.pending tt h.ahead h.in_phase) h.met_apart h.pending_apart

  -- ---- stops

  abbrev IsBreak : Stop → Type 0
  IsBreak stop.Done = ⊥
  IsBreak (stop.Left number) = ⊥
  IsBreak (stop.Trap kind place) = Unit {0}
  IsBreak stop.NoFuel = Unit {0}

  ended_by : (g : Goal) (x : Stop) (v : State) → IsBreak x → EndKnown code A (ended_at g code x v)
  ended_by goal.Root x v b = tt
  ended_by (goal.At rec side target) stop.Done v b = absurd b
  ended_by (goal.At rec side target) (stop.Left number) v b = absurd b
  ended_by (goal.At rec side target) (stop.Trap kind place) v b = (tt, tt)
  ended_by (goal.At rec side target) stop.NoFuel v b = (tt, tt)

  stops_by : (pending : Option Tie) (x : Stop) (v : State) → pending ≡ None → IsBreak x → Gives (halting code (effect.stops pending x v))
  stops_by None x v q b = ended_by v.goal x v b
  stops_by (Some tie) x v q b = some_none tie q

  pub trap_comes : (p : Phase) (s : Shape) (first : Bool) (rest : List Instr) (t : State) (kind : TrapKind) (place : Place) → Here code A heartbeat allowed F block p s first (Trap kind place) rest t → Gives (executed code heartbeat allowed (Trap kind place) t)
  trap_comes p s first rest t kind place h = stops_by t.pending (stop.Trap kind place) t (calm_at p (Trap kind place) rest t.registers t.pending tt h.ahead h.in_phase) tt

  pub tick_comes : (p : Phase) (s : Shape) (first : Bool) (rest : List Instr) (t : State) → Here code A heartbeat allowed F block p s first Tick rest t → Gives (executed code heartbeat allowed Tick t)
  tick_comes p s first rest t h =
      let calm = calm_at p Tick rest t.registers t.pending tt h.ahead h.in_phase in
      if_by (λ x. Gives (halting code x)) (is_tick_allowed t.fuel.limit t.fuel.ticks) _ _
      (same p s first Tick rest t h tt h.on (effect.with_tick t) h.found refl h.holds calm h.met_apart h.pending_apart)
      (stops_by t.pending stop.NoFuel (effect.with_tick t) calm tt)

  pub make_comes : (p : Phase) (s : Shape) (first : Bool) (rest : List Instr) (t : State) (table rows cols : ℕ) (place : Place) → Here code A heartbeat allowed F block p s first (Make table rows cols place) rest t → Gives (executed code heartbeat allowed (Make table rows cols place) t)
  make_comes p s first rest t table rows cols place h =
      let calm = calm_at p (Make table rows cols place) rest t.registers t.pending tt h.ahead h.in_phase in
      let n = h.obeys.numbers in
      halting_by (register t.registers rows) _ (number_at s t rows (and_left (is_number_at s rows) (is_number_at s cols) n) h.holds) (λ i.
      halting_by (register t.registers cols) _ (number_at s t cols (and_right (is_number_at s rows) (is_number_at s cols) n) h.holds) (λ j.
      if_by (λ x. Gives (halting code x)) (effect.is_makeable code table t) _ _
      (if_by (λ x. Gives (halting code x)) (effect.fits t.tables i j) _ _
      (same p s first (Make table rows cols place) rest t h tt h.on (effect.with_made t table (effect.magnitude i) (effect.magnitude j)) h.found refl h.holds calm h.met_apart h.pending_apart)
      (stops_by t.pending (stop.Trap Size place) t calm tt))
      tt))
