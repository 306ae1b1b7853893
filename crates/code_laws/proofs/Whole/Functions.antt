-- The functions of a code owe what their bodies and their results give, however many levels of
-- calls are left.
use Rattle.std.proofs.Common.{◌≡◌, ℕ, zero, suc, ◌≤◌, List, [], ◌∷◌, ◌∙◌, arith}
use Rattle.std.specs.Prelude.{pos, slice_set}
use Rattle.std.proofs.lemmas.List.{length-set}
use Rattle.beat_count.specs.Heartbeat.{counted}
use Rattle.tp_value.specs.declared.limits.TheConstants.{MAX_CALL_DEPTH}
use Rattle.loop_syntax.specs.declared.Func.{Func}
use Rattle.loop_rules.specs.Names.{texts}
use Rattle.loop_meaning.specs.State.{done}
use Rattle.loop_meaning.specs.Statements.{run_list}
use Rattle.tpal_syntax.specs.declared.instructions.Term.TheVariants as term
use Rattle.tpal_syntax.specs.declared.instructions.Value.TheVariants as value
use Rattle.tpal_syntax.specs.declared.words.Word.{Word}
use Rattle.tpal_syntax.specs.declared.words.Word.TheVariants as word
use Rattle.tpal_syntax.specs.Listing.{Listing}
use Rattle.tpal_machine.specs.Reading.{with_register}
use Rattle.tpal_machine.specs.State as machine
use Rattle.tpal_machine.specs.Step.{advanced}
use Rattle.tpal_machine.proofs.Kit.{Back, on_load, on_jump}
use Rattle.expr_lower.specs.Leaving.{moved}
use Rattle.expr_lower.proofs.Keeping.{register_set, register_other}
use Rattle.expr_lower.proofs.Standing.{next, behind, at_end}
use Rattle.scene_laws.specs.Code.{load}
use Rattle.scene_laws.specs.Layout.{cursor_cell, rec_cell, return_cell, value_cell, Entry}
use Rattle.scene_laws.specs.Layout.{Activation}
use Rattle.loop_syntax.specs.declared.Program.{Program}
use Rattle.expr_lower.specs.Standing.{AreAt}
use Rattle.handler_gen.specs.Blocks.{dispatch_block}
use Rattle.form_laws.specs.Functions.{IsFunction, FunctionAt, AreFunctions, bare}
use Rattle.scene_laws.specs.Quiet.{functions_are_quiet}
use Rattle.scene_laws.specs.Names.{names_after_list}
use Rattle.scene_laws.proofs.Scenes.Called.{with_value, value_then, body_set}
use Rattle.form_laws.proofs.Forms.Callees.{Returns, FunctionOwes, FunctionsOwe, CallsOwe}
use Rattle.form_laws.proofs.Forms.Choices.{enters}
use Rattle.form_laws.proofs.Premises.Cutting.{ProgramRules}
use Rattle.form_laws.proofs.Premises.Around.{callable_in_call, in_call}
use Rattle.code_laws.proofs.Whole.Law.{codes_law}
use Rattle.form_laws.proofs.Premises.Permitting.{PermitsAll, PermitsCall}
use Rattle.scene_laws.proofs.Scenes.Results.{fin, result, then}
use Rattle.scene_laws.proofs.Scenes.Scene.{Scene, ShowsIn, Owed, owed_bare, owed_seen}
use Rattle.scene_laws.proofs.Scenes.Showing.{shows_words}
use Rattle.form_laws.proofs.Forms.Simple.{still_shows}
use Rattle.scene_laws.proofs.Scenes.Values.{ExprLaw, computes_bare}

module _ (code : Listing) (heartbeat z : ℕ) (act : Activation) (fuel : ℕ) (expr_law : ExprLaw code
    heartbeat) (C : Scene code heartbeat z) (returns : Returns code heartbeat fuel z act C) where
  -- behind the body of a function its result is left in register 0, and control returns
  gives_value : (f : Func) (label : ℕ) (is : IsFunction code act f label) → Owed code heartbeat z
      act fuel C (names_after_list (texts f.params.items) f.body.items) is.last (term.Jump
      (value.Reg 1)) (value_then f.result)
  gives_value f label is w st state shows stands =
      computes_bare code heartbeat z act fuel expr_law C returns.bare w
      (names_after_list (texts f.params.items)
      f.body.items) st state shows f.result 0 is.last (load 1 return_cell ∷ []) (term.Jump
      (value.Reg 1)) is.value stands (λ n. done (with_value n st)) fin
      (λ n fits words beat at keeps is_n here.
      let K : Back code heartbeat = C.owing w (fin (with_value n st)) in
      let one : machine.State = moved state words beat at in
      let shows_one : ShowsIn code heartbeat z act fuel C w (names_after_list (texts f.params.items)
      f.body.items) st one = still_shows code heartbeat z act fuel C w (names_after_list (texts
      f.params.items) f.body.items) st state 0 words beat at shows keeps in
      let back : Word = word.Label (returns.label w) in
      let two : machine.State = with_register (advanced one) 1 back in
      let shows_two : ShowsIn code heartbeat z act fuel C w (names_after_list (texts f.params.items)
      f.body.items) st two =
      shows_words code heartbeat z act fuel C w shows_one (slice_set words 1 back) (length-set words
      1 back) (register_other words 1 31 back (λ (q : 31 ≡ 1). absurd (omega (arith, q)))) in
      on_load code heartbeat K one 1 31 return_cell (pos z) back (next code one _ _ (term.Jump
      (value.Reg 1)) here) shows_one.base (returns.held w state.stack shows.keeps)
      (on_jump code heartbeat K two (value.Reg 1) (returns.label w) (at_end code two (term.Jump
      (value.Reg 1)) (behind code state.block at _ [] (term.Jump (value.Reg 1)) here))
      (register_set words 1 back (omega (arith, shows_one.size))) (returns.calm w)
      (returns.goes_on w (names_after_list (texts f.params.items) f.body.items) st two n (counted
      (counted beat)) shows_two fits (register_other words 1 0 back (λ (q : 0 ≡ 1). absurd
      (omega (arith, q))) ∙ is_n))))

module _ (code : Listing) (heartbeat fuel : ℕ) (expr_law : ExprLaw code heartbeat) (base :
    Activation) (p : Program) (rules : ProgramRules p base.tables) (dispatches : AreAt code
    base.dispatch (dispatch_block base.dispatch ∷ [])) (quiet : base.calls ≡ functions_are_quiet
    p.funcs.items) where
  -- a function, where those that it calls owe what they give
  pub function_law : (room : ℕ) → CallsOwe code heartbeat fuel (bare base) p room → (x : List ℕ)
      (entry : Entry) (f : FunctionAt code (bare base) p.funcs.items x entry) → FunctionOwes code
      heartbeat fuel (bare base) p x entry f room
  function_law room calls x entry f z place C levels lowest may permits returns =
      enters code heartbeat z act fuel C (texts f.func.params.items) entry.label f.is.instrs
      f.is.end (λ st. then (result (run_list (body_set p.funcs.items fuel room)
      f.func.body.items st)) (value_then f.func.result)) f.is.begins
      (owed_bare code heartbeat z act fuel C _ _ _ _ returns.bare
      (codes_law code heartbeat z act p fuel room expr_law rules dispatches calls place
      f.is.statements C (record {
        levels = levels;
        registers = returns.bare;
        lowest = omega (arith, lowest);
        allows = λ y
            free. may (value_cell y) (omega arith);
        controls = λ d from below. (
          may (cursor_cell d)
              (omega arith),
          may (rec_cell d) (omega arith),
        );
      }) (λ loud. permitted (permits loud))
      (value_then f.func.result) (owed_seen code heartbeat z act fuel C _ _ _
      (value_then f.func.result) returns.bare
      (gives_value code heartbeat z act fuel expr_law C returns
      f.func entry.label f.is))))
    where
      act : Activation
      act = record base { most = f.most; size = entry.size }

      -- the body is permitted, where the call is
      permitted : PermitsCall code heartbeat z p base.dispatch C (texts f.func.params.items) x
          → PermitsAll code heartbeat z p base.dispatch C (texts f.func.params.items)
          f.func.body.items
      permitted call = record {
        opened = call.opened;
        diverts = call.diverts;
        around = in_call call.around;
        served = call.served;
        cuts = rules.of_function x f.func f.named call.around call.callable;
        calls = λ g called. callable_in_call p call.around g
            (rules.calls x f.func f.named call.around call.callable g called);
      }

  -- all of them, by the levels of calls that are left
  pub functions_owe : (are : AreFunctions code (bare base) p.funcs.items) (room : ℕ) → room ≤
      MAX_CALL_DEPTH → FunctionsOwe code heartbeat fuel (bare base) p are room
  functions_owe are zero few = tt
  functions_owe are (suc room) few = λ x entry is. function_law room (record {
    few = omega (
      arith,
      few,
    );
    quiet = quiet;
    are = are;
    owe = functions_owe are room (omega (arith, few));
  }) x entry
      (are x entry is)

  -- what the code of main's statements takes from them
  pub calls_owe : (are : AreFunctions code (bare base) p.funcs.items) (room : ℕ) → room ≤
      MAX_CALL_DEPTH → CallsOwe code heartbeat fuel (bare base) p room
  calls_owe are room few = record {
    few = few;
    quiet = quiet;
    are = are;
    owe = functions_owe are
        room few;
  }
