-- The law of a call as a statement, and parts of it that two calls share.
use Rattle.std.proofs.Common.{◌≡◌, ℕ, ◌+◌, ◌<◌, ◌≤◌, false, List, [], ◌∷◌, length, Some, refl, sym}
use Rattle.std.proofs.Common.{subst, ◌∙◌, arith}
use Rattle.std.specs.Prelude.{ℤ, pos, ⊤}
use Rattle.stack_marks.specs.Stacks.{with_word, pushed}
use Rattle.loop_syntax.specs.declared.Stmt.{Stmt}
use Rattle.loop_syntax.specs.declared.Program.{Program}
use Rattle.loop_syntax.specs.declared.App.{App}
use Rattle.loop_syntax.specs.declared.Func.{Func}
use Rattle.loop_syntax.specs.declared.Name.{Name}
use Rattle.loop_syntax.specs.declared.Reduce.{Reduce}
use Rattle.loop_syntax.specs.declared.Stmt.TheVariants.{Call}
use Rattle.loop_meaning.specs.Calls.{call_at}
use Rattle.loop_meaning.specs.InRange.{InRange}
use Rattle.loop_meaning.specs.State as meaning
use Rattle.loop_meaning.specs.State.{Ran, Chance, done}
use Rattle.loop_meaning.specs.Statements.{Setting, run, set_var, with_call}
use Rattle.tpal_syntax.specs.declared.instructions.Instr.{Instr}
use Rattle.tpal_syntax.specs.declared.instructions.Instr.TheVariants as instr
use Rattle.tpal_syntax.specs.declared.instructions.Term.{Term}
use Rattle.tpal_syntax.specs.declared.instructions.Value.TheVariants as value
use Rattle.tpal_syntax.specs.declared.words.Word.{Word}
use Rattle.tpal_syntax.specs.declared.words.Word.TheVariants as word
use Rattle.tpal_syntax.specs.Listing.{Listing}
use Rattle.tpal_machine.specs.Effect as effect
use Rattle.tpal_machine.specs.Effect.{is_marked_from}
use Rattle.tpal_machine.specs.Reading.{register}
use Rattle.tpal_machine.specs.State as machine
use Rattle.tpal_machine.specs.Step.{advanced}
use Rattle.tpal_machine.proofs.Kit.{Back, on_salloc}
use Rattle.expr_lower.specs.Standing.{Remains}
use Rattle.expr_lower.proofs.Standing.{next, behind}
use Rattle.scene_laws.specs.Code.{Arguments, Calls, IsCell, parameter_cell, store}
use Rattle.scene_laws.specs.Layout.{value_cell, Entry, entry_of, Activation}
use Rattle.form_laws.specs.Functions.{FunctionAt, bare}
use Rattle.form_laws.proofs.Forms.Arguments.{arguments_law}
use Rattle.scene_laws.proofs.Scenes.Called.{back_with}
use Rattle.form_laws.proofs.Forms.Callees.{shows_pushed, HasPlace, CallsOwe}
use Rattle.form_laws.proofs.Forms.CallLaws.{calls_law}
use Rattle.form_laws.proofs.Forms.Calls.{Keeping}
use Rattle.form_laws.proofs.Premises.Occurring.{Called}
use Rattle.form_laws.proofs.Premises.Permitting.{PermitsOne}
use Rattle.scene_laws.proofs.Scenes.Results.{Result, result, then}
use Rattle.scene_laws.proofs.Scenes.Scene.{Scene, ShowsIn, Owed}
use Rattle.scene_laws.proofs.Scenes.Showing.{shows_assigned}
use Rattle.form_laws.proofs.Forms.Simple.{stores_in}
use Rattle.scene_laws.proofs.Scenes.Values.{ExprLaw}

module _ (code : Listing) (heartbeat z : ℕ) (act : Activation) (fuel : ℕ) (p : Program) (room : ℕ)
    (expr_law : ExprLaw code heartbeat) (calls : CallsOwe code heartbeat fuel (bare act) p room)
    (place : HasPlace z act room)
    (S : Scene code heartbeat z) (levels : S.levels ≡ room) (names : List (List ℕ)) (lowest :
    S.lowest ≤ length names) (stmt : Stmt) (permits : act.calls ≡ false → PermitsOne code
    heartbeat z p act.dispatch S names stmt) where
  abbrev fs : List Func
  fs = p.funcs.items

  abbrev Showing : S.World → meaning.State → machine.State → Type 0
  Showing i st task = ShowsIn code heartbeat z act fuel S i names st task

  abbrev setting : List Reduce → Setting
  setting reduces = record { reduces = reduces; fuel = fuel; call = call_at fs fuel room }

  -- ---- parts

  -- a number in a register is assigned
  pub assigns : (K : Back code heartbeat) (i : S.World) (st : meaning.State) (state : machine.State)
      (fixed : List ℕ) (x : Name) (cell r : ℕ) (n : ℤ) (more : List Instr) (end : Term) → Showing i
      st state → (c : IsCell code act names fixed x.text.items cell) → S.may cell → register
      state.registers r ≡ word.Int n → InRange n
      → Remains code state.block state.at (store cell (value.Reg r) ∷ more) end
      → ((task : machine.State) → task.registers ≡ state.registers → Showing i (set_var x n st) task
      → Remains code task.block task.at more end → K.Holds task) → K.Holds state
  assigns K i st state fixed x cell r n more end shows c may is fits stands go =
      stores_in code heartbeat z act fuel K state cell (value.Reg r) more end stands shows.base
      shows.low (omega (arith, shows.room, c.at_level, c.below))
      (subst (λ (w : Word). K.Holds (effect.with_stack (advanced state) (with_word state.stack (pos
      (z + cell)) w))) (sym is)
      (go (effect.with_stack (advanced state) (with_word state.stack (pos (z + cell)) (word.Int n)))
      refl (shows_assigned code heartbeat z act fuel S i shows fixed x.text.items cell n c may
      lowest fits) (behind code state.block state.at (store cell (value.Reg r)) more end
      stands)))

  module _ (f : Name) (entry : Entry) (is_entry : entry_of act.functions f.text.items ≡ Some entry)
    where
      there : FunctionAt code (bare act) fs f.text.items entry
      there = calls.are f.text.items entry is_entry

      -- the activation of a function is put on top
      pub opens : (K : Back code heartbeat) (i : S.World) (st : meaning.State) (state : machine.State)
          (more : List Instr) (end : Term) → Showing i st state → Remains code state.block state.at
          (instr.Salloc entry.size ∷ more) end → K.Holds (effect.with_stack (advanced state) (pushed
          state.stack entry.size)) → K.Holds state
      opens K i st state more end shows stands holds =
          on_salloc code heartbeat K state entry.size (next code state _ more end stands) (omega
          (arith, shows.top, place.deep, place.has_room.fits, there.is.has_room.fits)) holds

      -- its parameters have room in it
      parameters_fit : (n p : ℕ) → n ≡ entry.parameters → p < n → value_cell p < entry.size
      parameters_fit n p is below = omega (
        arith,
        is,
        below,
        there.arity,
        there.is.params,
        there.is.has_room.room,
      )

  above : length names ≤ act.most → value_cell (length names) ≤ act.size
  above few = omega (arith, few, place.has_room.room)

  parameters_rise : (p q : ℕ) → p < q → parameter_cell code act p < parameter_cell code act q
  parameters_rise p q lt = omega (arith, lt)

  -- ---- one call

  -- no value is kept
  abbrev nothing_kept : Keeping code heartbeat z act fuel S names ⊤
  nothing_kept = record { Holds = λ a s. ⊤; same = λ few a s t alike holds. tt }

  pub call_law : S.registers ≡ [] → (reduces : List Reduce) (k : meaning.State → Result) (fixed : List ℕ) (x : Name) (f
      : App) (entry : Entry) (cell : ℕ) (arguments test more : List Instr) (last end : Term)
      → Called f.callee.text.items stmt
      → entry_of act.functions f.callee.text.items ≡ Some entry → length f.args.items ≡
      entry.parameters → (c : IsCell code act names fixed x.text.items cell) → S.may cell
      → Arguments code act names (parameter_cell code act) 0 f.args.items arguments test → Calls
      code act f.callee.place entry test last (store cell (value.Reg 0) ∷ more) end
      → Owed code heartbeat z act fuel S names more end k → Owed code heartbeat z act fuel S names
      (instr.Salloc entry.size ∷ arguments) last (λ st. then (result (run (setting reduces)
      (Call x f) st)) k)
  call_law none reduces k fixed x f entry cell arguments test more last end is_called is_entry arity
      c may args call post i st state shows stands =
      let one : machine.State = effect.with_stack (advanced state) (pushed state.stack entry.size)
      in
      opens f.callee entry is_entry (S.owing i (then (result (run (setting reduces) (Call x f) st))
      k)) i st state arguments last shows stands
      (arguments_law code heartbeat z act entry.size fuel S i names lowest st none expr_law args
      parameters_rise (omega (arith, above shows.few)) (λ p lt. omega (
        arith,
        parameters_fit
            f.callee entry is_entry (length f.args.items) p arity (omega (arith, lt)),
      )) last one
      (shows_pushed code heartbeat z act entry.size fuel S i names lowest st shows) (behind code
      state.block state.at _ arguments last stands) (λ ns. with_call (call_at fs fuel room
      f.callee.text.items f.callee.place ns [] st) (λ v t. done (set_var x v t))) k
      (λ ns task many shows_task stored left.
      calls_law code heartbeat z act fuel S names entry ⊤ nothing_kept (λ a v t. done (set_var x v
      t)) k lowest stmt p permits f.callee is_called is_entry test (store cell (value.Reg 0) ∷
      more) last end call
      (λ w v u back fits shows_back also is here.
      assigns (S.owing w.world (k (set_var x v (back_with w.state.vars u)))) w.world (back_with
      w.state.vars u) back fixed x cell 0 v more end shows_back c may is fits here
      (λ after registers shows_after here_after. post w.world (set_var x v (back_with w.state.vars
      u)) after shows_after here_after))
      room levels calls place
      (record {
        world = i;
        state = st;
        value = tt;
        named = shows.named;
        few = shows.few;
        tall =
            shows.tall;
      })
      (record {
        task = task;
        numbers = ns;
        shows = shows_task;
        many = many ∙ arity;
        stored =
            stored.are;
        also = tt;
      }) left))
