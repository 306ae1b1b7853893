-- The code of calls is written where that of its parts is.
use Rattle.std.proofs.Common.{◌≡◌, ℕ, zero, suc, ◌+◌, ◌*◌, List, [], ◌∷◌, ◌++◌, length, Some, refl}
use Rattle.std.proofs.Common.{sym, ap, subst, ◌∙◌, arith}
use Rattle.std.specs.Prelude.{pos}
use Rattle.loop_syntax.specs.declared.App.{App}
use Rattle.loop_syntax.specs.declared.Name.{Name}
use Rattle.loop_syntax.specs.declared.Expr.{Expr}
use Rattle.loop_syntax.specs.declared.Stmt.TheVariants.{Call}
use Rattle.tp_value.specs.declared.Place.{Place}
use Rattle.tp_value.specs.declared.TrapKind.TheVariants.{Deep}
use Rattle.tpal_syntax.specs.declared.instructions.Alu.TheVariants.{Add}
use Rattle.tpal_syntax.specs.declared.instructions.Instr.{Instr}
use Rattle.tpal_syntax.specs.declared.instructions.Instr.TheVariants as instr
use Rattle.tpal_syntax.specs.declared.instructions.Term.{Term}
use Rattle.tpal_syntax.specs.declared.instructions.Term.TheVariants.{Halt}
use Rattle.tpal_syntax.specs.declared.instructions.Value.{Value}
use Rattle.tpal_syntax.specs.declared.instructions.Value.TheVariants as value
use Rattle.tpal_syntax.specs.Listing.{Listing}
use Rattle.expr_lower.specs.declared.scope.Scope.{Scope}
use Rattle.expr_lower.specs.Scopes.{offset_of}
use Rattle.block_lower.specs.declared.body.Body.{Body}
use Rattle.block_lower.specs.declared.output.Output.{Output}
use Rattle.block_lower.specs.declared.round.Round as told
use Rattle.block_lower.specs.Bodies.{entries, activation}
use Rattle.scene_laws.specs.Code.{Operand, Arguments, no_argument, one_argument, parameter_cell}
use Rattle.scene_laws.specs.Code.{passed, Calls, Code, call_code, Opens, to, store, load}
use Rattle.scene_laws.specs.Code.{call_test, call_entry, call_exit}
use Rattle.scene_laws.specs.Visible.{IsVisible, AreVisible}
use Rattle.scene_laws.specs.Layout.{levels_cell, value_cell, Entry, entry_of, Activation}
use Rattle.scene_laws.specs.Layout.{kept_argument}
use Rattle.block_lower.specs.Lowering.{WritesOperand, WritesArguments, WritesBothArguments}
use Rattle.block_lower.specs.Lowering.{WritesPassed, WritesCall, Lowers}
use Rattle.scene_laws.specs.Pairs.{call_given}
use Rattle.block_lower.specs.Writing.{label, IsFresh, Pushes, Closes, Stands, Continues, Leads}
use Rattle.block_lower.proofs.Written.Lowered.{cell_is}
use Rattle.block_lower.proofs.Written.Standing.{sees_bare}
use Rattle.block_lower.proofs.Written.Writing.{pushed, closed_block, fresh_opens}

-- ---- arguments

visible_before : (tables names : List (List ℕ)) (es : List Expr) (e : Expr) → AreVisible tables names (es ++ e ∷ []) → AreVisible tables names es
visible_before tables names [] e seen = tt
visible_before tables names (d ∷ ds) e seen = (seen.0, visible_before tables names ds e seen.1)

visible_last : (tables names : List (List ℕ)) (es : List Expr) (e : Expr) → AreVisible tables names (es ++ e ∷ []) → IsVisible tables names e
visible_last tables names [] e seen = seen.0
visible_last tables names (d ∷ ds) e seen = visible_last tables names ds e seen.1

module _ (code : Listing) (act : Activation) (names : List (List ℕ)) where
  -- one argument more
  arguments_more : (cell : ℕ → ℕ) (i : ℕ) (es : List Expr) (e : Expr) (v : Value) (instrs middle more : List Instr)
      → Arguments code act names cell i es instrs middle → Operand code act [] names e 0 v middle (store (cell (i + length es)) v ∷ more) → Arguments code act names cell i (es ++ e ∷ []) instrs more
  arguments_more cell i [] e v instrs middle more no_argument o =
      one_argument (subst (λ (n : ℕ). Operand code act [] names e 0 v instrs (store (cell n) v ∷ more)) (omega arith) o) no_argument
  arguments_more cell i (d ∷ ds) e v instrs middle more (one_argument p others) o =
      one_argument p (arguments_more cell (suc i) ds e v _ middle more others (subst (λ (n : ℕ). Operand code act [] names e 0 v middle (store (cell n) v ∷ more)) (omega arith) o))

  -- the same cells, named in another way
  arguments_at : (cell other : ℕ → ℕ) → ((i : ℕ) → cell i ≡ other i) → (i : ℕ) (es : List Expr) (instrs more : List Instr) → Arguments code act names cell i es instrs more → Arguments code act names other i es instrs more
  arguments_at cell other same i [] instrs more no_argument = no_argument
  arguments_at cell other same i (e ∷ es) instrs more (one_argument {v = v} {second = second} p others) =
      one_argument (subst (λ (n : ℕ). Operand code act [] names e 0 v instrs (store n v ∷ second)) (same i) p) (arguments_at cell other same (suc i) es second more others)

pub none_stored : (scope : Scope) (cell : ℕ → ℕ) (old : Output) → WritesArguments scope [] cell old old
none_stored scope cell old code act names more last sees visible c = record { instrs = more; end = last; continues = c; told = (refl, no_argument) }

pub more_stored : (scope : Scope) (es : List Expr) (e : Expr) (v : Value) (cell : ℕ → ℕ) (old middle valued new : Output)
    → WritesArguments scope es cell old middle → WritesOperand scope e 0 v middle valued → Pushes (store (cell (length es)) v ∷ []) valued new → WritesArguments scope (es ++ e ∷ []) cell old new
more_stored scope es e v cell old middle valued new all one push code act names more last sees visible c =
    let own : Instr = store (cell (length es)) v in
    let w : Leads code middle (λ instrs end. (end ≡ last) × Operand code act [] names e 0 v instrs (own ∷ more)) =
    one code act names [] (own ∷ more) last sees (visible_last act.tables names es e visible) (pushed code valued new (own ∷ []) more last push c) in
    let u : Leads code old (λ instrs end. (end ≡ w.end) × Arguments code act names cell 0 es instrs w.instrs) =
    all code act names w.instrs w.end sees (visible_before act.tables names es e visible) w.continues in
    record {
      instrs = u.instrs;
      end = u.end;
      continues = u.continues;
      told = (
        u.told.0 ∙ w.told.0,
        arguments_more code act names cell 0 es e v u.instrs w.instrs more u.told.1
            (subst (λ (n : ℕ). Operand code act [] names e 0 v w.instrs (store (cell n) v ∷ more)) (omega arith) w.told.1),
      );
    }

pub both_arguments_written : (on : Body) (scope : Scope) (fs gs : List Expr) (first kept : ℕ) (old middle new : Output) → first ≡ on.size + value_cell 0 → kept ≡ value_cell on.most + (2 + 0)
    → WritesArguments scope fs (λ i. first + i * 2) old middle → WritesArguments scope gs (λ i. kept + i * 1) middle new → WritesBothArguments on scope fs gs old new
both_arguments_written on scope fs gs first kept old middle new first_is kept_is one two code tables names more last sees visible_f visible_g c =
    let act : Activation = activation on tables in
    let w : Leads code middle (λ instrs end. (end ≡ last) × Arguments code act names (λ i. kept + i * 1) 0 gs instrs more) = two code act names more last sees visible_g c in
    let v : Leads code old (λ instrs end. (end ≡ w.end) × Arguments code act names (λ i. first + i * 2) 0 fs instrs w.instrs) = one code act names w.instrs w.end sees visible_f w.continues in
    record {
      instrs = v.instrs;
      end = v.end;
      continues = v.continues;
      told = (
        v.told.0 ∙ w.told.0,
        record {
          others = w.instrs;
          first = arguments_at code act names (λ i. first + i * 2) (parameter_cell code act) (λ i. omega (arith, first_is)) 0 fs v.instrs w.instrs v.told.1;
          second = arguments_at code act names (λ i. kept + i * 1) (kept_argument act) (λ i. omega (arith, kept_is)) 0 gs w.instrs more w.told.1;
        },
      );
    }

-- ---- kept numbers

passed_more : (code : Listing) (act : Activation) (n i : ℕ) (more : List Instr)
    → passed code act (suc n) i more ≡ passed code act n i (load 0 (kept_argument act (i + n)) ∷ store (parameter_cell code act (i + n)) (value.Reg 0) ∷ more)
passed_more code act zero i more = ap (λ (k : ℕ). load 0 (kept_argument act k) ∷ store (parameter_cell code act k) (value.Reg 0) ∷ more) (omega arith)
passed_more code act (suc n) i more =
    ap (λ (rest : List Instr). load 0 (kept_argument act i) ∷ store (parameter_cell code act i) (value.Reg 0) ∷ rest)
    (passed_more code act n (suc i) more ∙ ap (λ (k : ℕ). passed code act n (suc i) (load 0 (kept_argument act k) ∷ store (parameter_cell code act k) (value.Reg 0) ∷ more)) (omega arith))

pub more_passed : (on : Body) (n : ℕ) (old middle loads new : Output) → WritesPassed on n old middle → Pushes (load 0 (value_cell on.most + (2 + n)) ∷ []) middle loads
    → Pushes (store (on.size + value_cell n) (value.Reg 0) ∷ []) loads new → WritesPassed on (suc n) old new
more_passed on n old middle loads new all push_load push_store code tables more last c =
    let act : Activation = activation on tables in
    let own : ℕ → List Instr = λ k. load 0 (kept_argument act k) ∷ store (parameter_cell code act k) (value.Reg 0) ∷ more in
    let here : Continues code middle (own n) last =
    pushed code middle loads (load 0 (kept_argument act n) ∷ []) (store (parameter_cell code act n) (value.Reg 0) ∷ more) last push_load
    (pushed code loads new (store (parameter_cell code act n) (value.Reg 0) ∷ []) more last push_store c) in
    let same : passed code act n 0 (own n) ≡ passed code act (suc n) 0 more = ap (λ (k : ℕ). passed code act n 0 (own k)) (omega arith) ∙ sym (passed_more code act n 0 more) in
    subst (λ (instrs : List Instr). Continues code old instrs last) same (all code tables (own n) last here)

-- ---- a call

pub deep_test_written : (go : ℕ) (place : Place) (old jumps traps new : Output)
    → Pushes (instr.IfJump 0 go ∷ []) old jumps → Pushes (instr.Trap Deep place ∷ []) jumps traps
    → Closes Halt traps new → (code : Listing) → Stands code new
    → Continues code old (instr.IfJump 0 go ∷ instr.Trap Deep place ∷ []) Halt
deep_test_written go place old jumps traps new one two close code stands =
    pushed code old jumps (instr.IfJump 0 go ∷ []) _ Halt one
    (pushed code jumps traps (instr.Trap Deep place ∷ []) [] Halt two
    (closed_block code traps new Halt close stands))

pub entry_written : (size at back : ℕ) (old given moves new : Output)
    → Pushes (call_given 0 size back []) old given
    → Pushes (instr.Calc 31 31 Add (value.Int (pos size)) ∷ []) given moves
    → Closes (to at) moves new
    → (code : Listing) → Stands code new → Continues code old (call_entry size back) (to at)
entry_written size at back old given moves new one two close code stands =
    pushed code old given (call_given 0 size back []) _ (to at) one
    (pushed code given moves (instr.Calc 31 31 Add (value.Int (pos size)) ∷ []) [] (to at) two
    (closed_block code moves new (to at) close stands))

pub call_written : (on : Body) (place : Place) (at size go : ℕ)
    (old ticked tested entered new : Output)
    → Pushes (instr.Tick ∷ load 0 levels_cell ∷ []) old ticked
    → ((code : Listing) → Stands code tested
    → Continues code ticked (instr.IfJump 0 go ∷ instr.Trap Deep place ∷ []) Halt)
    → go ≡ label tested → IsFresh tested
    → ((code : Listing) → Stands code entered
    → Continues code tested (call_entry on.size (go + 1)) (to at))
    → go + 1 ≡ label entered → IsFresh entered
    → Pushes (call_exit size on.size []) entered new → WritesCall on place at size old new
call_written on place at size go old ticked tested entered new tick tests go_is fresh enters
    return_is fresh_entered exits code tables entry more last at_is size_is c =
    let x : Continues code entered (call_exit size on.size more) last =
    pushed code entered new (call_exit size on.size []) more last exits c in
    let e : Continues code tested (call_entry on.size (go + 1)) (to at) = enters code x.closed in
    let behind : List Instr = instr.IfJump 0 go ∷ instr.Trap Deep place ∷ [] in
    record {
      instrs = call_test go place;
      end = Halt;
      continues = pushed code old ticked (instr.Tick ∷ load 0 levels_cell ∷ []) behind Halt tick
          (tests code e.closed);
      told = record {
        go = go;
        return = go + 1;
        test = refl;
        stops = refl;
        enters = subst (λ (l : ℕ). Opens code go (call_entry on.size (go + 1)) (to l)) (sym at_is)
            (subst (λ (k : ℕ). Opens code k (call_entry on.size (go + 1)) (to at)) (sym go_is)
            (fresh_opens code tested (call_entry on.size (go + 1)) (to at) fresh e));
        behind = subst (λ (n : ℕ). Opens code (go + 1) (call_exit n on.size more) last)
            (sym size_is)
            (subst (λ (k : ℕ). Opens code k (call_exit size on.size more) last) (sym return_is)
            (fresh_opens code entered (call_exit size on.size more) last fresh_entered x));
      };
    }

-- ---- statements

module _ (on : Body) (as_told : told.Round) (scope : Scope) where
  -- a label and a size are those of the function of a name
  pub record IsTarget (x : List ℕ) (at size : ℕ) : Type 0 where
    pub at_is : (entry : Entry) → entry_of (entries on.callees.items) x ≡ Some entry → at ≡ entry.label
    pub size_is : (entry : Entry) → entry_of (entries on.callees.items) x ≡ Some entry → size ≡ entry.size

  pub call_statement_written : (x : Name) (f : App) (at size first : ℕ) (old allocs stored called new : Output) → scope.regs.items ≡ [] → IsTarget f.callee.text.items at size → first ≡ on.size + value_cell 0
      → Pushes (instr.Salloc size ∷ []) old allocs → WritesArguments scope f.args.items (λ i. first + i * 2) allocs stored → WritesCall on f.callee.place at size stored called
      → Pushes (store (offset_of scope x.text.items) (value.Reg 0) ∷ []) called new → Lowers on as_told scope (Call x f) old new
  call_statement_written x f at size first old allocs stored called new none target first_is alloc arguments call push code tables names round more last same sees fits c =
      let act : Activation = activation on tables in
      let own : Instr = store (offset_of scope x.text.items) (value.Reg 0) in
      let w : Leads code stored (λ instrs end. Calls code act f.callee.place fits.1.entry instrs end (own ∷ more) last) =
      call code tables fits.1.entry (own ∷ more) last (sym (target.at_is fits.1.entry fits.1.is_entry)) (sym (target.size_is fits.1.entry fits.1.is_entry)) (pushed code called new (own ∷ []) more last push c) in
      let v : Leads code allocs (λ instrs end. (end ≡ w.end) × Arguments code act names (λ i. first + i * 2) 0 f.args.items instrs w.instrs) =
      arguments code act names w.instrs w.end (sees_bare none sees.sees) fits.1.seen w.continues in
      let stored_at : Arguments code act names (parameter_cell code act) 0 f.args.items v.instrs w.instrs =
      arguments_at code act names (λ i. first + i * 2) (parameter_cell code act) (λ i. omega (arith, first_is)) 0 f.args.items v.instrs w.instrs v.told.1 in
      let is : Code code act round names (Call x f) (instr.Salloc fits.1.entry.size ∷ v.instrs) w.end more last =
      call_code (sees.stand.bare none) fits.1.is_entry fits.1.arity (cell_is on as_told scope tables names round.fixed x.text.items code sees.sees fits.0) stored_at w.told in
      record {
        instrs = instr.Salloc size ∷ v.instrs;
        end = v.end;
        continues = pushed code old allocs (instr.Salloc size ∷ []) v.instrs v.end alloc v.continues;
        told = subst (λ (n : ℕ). Code code act round names (Call x f) (instr.Salloc n ∷ v.instrs) v.end more last) (sym (target.size_is fits.1.entry fits.1.is_entry))
            (subst (λ (t : Term). Code code act round names (Call x f) (instr.Salloc fits.1.entry.size ∷ v.instrs) t more last) (sym v.told.0) is);
      }
