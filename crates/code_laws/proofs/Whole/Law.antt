-- The law of the code of statements: inside any scene, where a task that shows a state behind it
-- owes what follows, a task that shows a state before it owes what the statements give and what
-- follows.
use Rattle.std.proofs.Common.{◌≡◌, ℕ, false, List, [], ◌∷◌, ◌++◌, length, Some, None, refl, sym}
use Rattle.std.proofs.Common.{ap, subst, ◌∙◌}
use Rattle.std.proofs.lemmas.Bool.{true≢false}
use Rattle.loop_syntax.specs.declared.Expr.{Expr}
use Rattle.loop_syntax.specs.declared.Func.{Func}
use Rattle.loop_syntax.specs.declared.Program.{Program}
use Rattle.loop_syntax.specs.declared.Stmt.{Stmt}
use Rattle.loop_syntax.specs.declared.Stmt.TheVariants.{Call}
use Rattle.loop_meaning.specs.Calls.{call_at}
use Rattle.loop_meaning.specs.State as meaning
use Rattle.loop_meaning.specs.Statements.{Setting, block, run, run_list}
use Rattle.tpal_syntax.specs.declared.instructions.Instr.{Instr}
use Rattle.tpal_syntax.specs.declared.instructions.Term.{Term}
use Rattle.tpal_syntax.specs.declared.instructions.Value as operands
use Rattle.tpal_syntax.specs.Listing.{Listing}
use Rattle.expr_lower.specs.Standing.{AreAt}
use Rattle.handler_gen.specs.Blocks.{dispatch_block}
use Rattle.scene_laws.specs.Layout.{Activation}
use Rattle.form_laws.specs.Functions.{bare}
use Rattle.scene_laws.specs.Quiet.{is_quiet, list_is_quiet}
use Rattle.scene_laws.specs.Code.{Computes, Operand, IsCell, IsTable, Opens, Code, let_code}
use Rattle.scene_laws.specs.Code.{set_code, set_register_code, put_code, put_kept_code}
use Rattle.scene_laws.specs.Code.{print_code, emit_code, if_code, if_not_code, while_code}
use Rattle.scene_laws.specs.Code.{loop_code, loop_to_code, quiet_par_code, deep_par_code}
use Rattle.scene_laws.specs.Code.{fold_code}
use Rattle.scene_laws.specs.Code.{fold_register_code, leaf_par_code}
use Rattle.scene_laws.specs.Code.{fold_nothing_code, call_code, both_code, Codes, none, one_more}
use Rattle.scene_laws.specs.Code.{Branch, branch, Other, nothing, something}
use Rattle.scene_laws.specs.Names.{names_after, names_after_list}
use Rattle.scene_laws.specs.Round.{Round, register_for}
use Rattle.form_laws.proofs.Premises.Admitting.{Admits, admits_more, admits_later, admits_loop}
use Rattle.form_laws.proofs.Forms.Callees.{CallsOwe, HasPlace}
use Rattle.form_laws.proofs.Forms.CallStatements.{call_law}
use Rattle.form_laws.proofs.Forms.Choices.{SeenAt, blocks, leaves, nothing_done, if_law}
use Rattle.form_laws.proofs.Forms.Choices.{if_not_law}
use Rattle.form_laws.proofs.Forms.Choices.{first_names}
use Rattle.form_laws.proofs.Forms.Choices.{first_names_in, more_names_one, Longer, longer_one}
use Rattle.form_laws.proofs.Forms.Choices.{same_names}
use Rattle.form_laws.proofs.Premises.Cutting.{ProgramRules}
use Rattle.par_laws.proofs.DeepPars.DeepStatements.{deep_statement}
use Rattle.form_laws.proofs.Forms.Emits.{emit_law}
use Rattle.form_laws.proofs.Forms.Folds.{fold_law, fold_nothing_law, fold_register_law}
use Rattle.form_laws.proofs.Forms.LoopScenes.{inside}
use Rattle.form_laws.proofs.Forms.Loops.{loop_law, loop_to_law}
use Rattle.par_laws.proofs.LeafPars.LeafStatements.{leaf_statement}
use Rattle.form_laws.proofs.Premises.Occurring.{in_if, in_other, in_while, in_loop, at_first}
use Rattle.form_laws.proofs.Premises.Occurring.{at_later}
use Rattle.form_laws.proofs.Premises.Occurring.{by_call, called_if, called_other, called_while}
use Rattle.form_laws.proofs.Premises.Occurring.{called_loop, first_calls, later_calls}
use Rattle.form_laws.proofs.CallPairs.PairStatements.{pair_law}
use Rattle.form_laws.proofs.Premises.Permitting.{PermitsOne, PermitsAll, permits_more}
use Rattle.form_laws.proofs.Premises.Permitting.{permits_later}
use Rattle.form_laws.proofs.Premises.Permitting.{permits_inside, first_loud, second_loud, loud_if}
use Rattle.form_laws.proofs.Premises.Permitting.{loud_other, loud_while, loud_list, loud_loop}
use Rattle.par_laws.proofs.QuietPars.QuietStatements.{quiet_statement}
use Rattle.form_laws.proofs.Forms.Puts.{put_law, put_kept_law}
use Rattle.scene_laws.proofs.Scenes.Results.{Result, result, then, left, after_then}
use Rattle.scene_laws.proofs.Scenes.Scene.{Scene, OwedSeen, owed_bare, owed_seen}
use Rattle.form_laws.proofs.Forms.Simple.{let_law, set_law, set_register_law, print_law}
use Rattle.form_laws.proofs.Forms.Ticks.{later_in, while_law}
use Rattle.scene_laws.proofs.Scenes.Values.{ExprLaw}

module _ (code : Listing) (heartbeat z : ℕ) (act : Activation) (p : Program) (fuel room : ℕ)
    (expr_law : ExprLaw code heartbeat) (rules : ProgramRules p act.tables)
    (dispatches : AreAt code act.dispatch (dispatch_block act.dispatch ∷ []))
    (calls : CallsOwe code heartbeat fuel (bare act) p room) (place : HasPlace z act room) where
  abbrev fs : List Func
  fs = p.funcs.items

  -- how the statements run that this stands round, where so many levels of calls are left
  abbrev pub setting : Round → Setting
  setting round = record { reduces = round.reduces; fuel = fuel; call = call_at fs fuel room }

  -- what the law asks of a scene
  abbrev Admitted : Scene code heartbeat z → Round → List (List ℕ) → Type 0
  Admitted S round names = Admits code heartbeat z room S round names

  -- a scene permits what may not be quiet
  abbrev PermittedOne : Scene code heartbeat z → List (List ℕ) → Stmt → Type 0
  PermittedOne S names s =
      is_quiet act.calls s ≡ false → PermitsOne code heartbeat z p act.dispatch S names s

  abbrev Permitted : Scene code heartbeat z → List (List ℕ) → List Stmt → Type 0
  Permitted S names ss =
      list_is_quiet act.calls ss ≡ false → PermitsAll code heartbeat z p act.dispatch S names ss

  -- one name more
  one_more_name : (names : List (List ℕ)) (x : List ℕ) → Longer names (names ++ x ∷ [])
  one_more_name names x = record { more = x ∷ []; is = refl }

  -- the cell of a variable that isn't fixed may change
  changes : {S : Scene code heartbeat z} {round : Round} {names : List (List ℕ)} {x : List ℕ}
      {cell : ℕ} → Admitted S round names → IsCell code act names round.fixed x cell → S.may cell
  changes {S} admits is =
      subst (λ (c : ℕ). S.may c) (sym is.at_level) (admits.allows is.level is.free)

  -- the code of an operand, of an expression and of a table, with the registers of a scene
  register_here : {S : Scene code heartbeat z} {round : Round} {names : List (List ℕ)}
      → Admitted S round names → (cell : ℕ)
      → register_for S.registers cell ≡ register_for round.registers cell
  register_here admits cell = ap (λ (ps : List (ℕ × ℕ)). register_for ps cell) admits.registers

  computes_here : {S : Scene code heartbeat z} {round : Round} {names : List (List ℕ)} {e : Expr}
      {r : ℕ} {instrs more : List Instr} → Admitted S round names
      → Computes code act round.registers names e r instrs more
      → Computes code act S.registers names e r instrs more
  computes_here {names = names} {e} {r} {instrs} {more} admits c =
      subst (λ (ps : List (ℕ × ℕ)). Computes code act ps names e r instrs more)
      (sym admits.registers) c

  operand_here : {S : Scene code heartbeat z} {round : Round} {names : List (List ℕ)} {e : Expr}
      {r : ℕ} {v : operands.Value} {instrs more : List Instr} → Admitted S round names
      → Operand code act round.registers names e r v instrs more
      → Operand code act S.registers names e r v instrs more
  operand_here {names = names} {e} {r} {v} {instrs} {more} admits c =
      subst (λ (ps : List (ℕ × ℕ)). Operand code act ps names e r v instrs more)
      (sym admits.registers) c

  table_here : {S : Scene code heartbeat z} {round : Round} {names : List (List ℕ)} {t : List ℕ}
      {number : ℕ} → Admitted S round names → IsTable code act round.registers names t number
      → IsTable code act S.registers names t number
  table_here {names = names} {t} {number} admits c =
      subst (λ (ps : List (ℕ × ℕ)). IsTable code act ps names t number) (sym admits.registers) c

  -- the block that a branch opens
  record First (label : ℕ) : Type 0 where
    instrs : List Instr
    end : Term
    opens : Opens code label instrs end

  first_of : {round : Round} {names : List (List ℕ)} {body : List Stmt} {label exit : ℕ} →
      Branch code act round names body label exit → First label
  first_of (branch opens inner) = record { instrs = _; end = _; opens = opens }

  first_of_other : {round : Round} {names : List (List ℕ)} {body : List Stmt} {label exit : ℕ}
      {more : List Instr} {end : Term} →
      Other code act round names body label exit → Opens code exit more end → First label
  first_of_other nothing opens = record { instrs = _; end = _; opens = opens }
  first_of_other (something b) opens = first_of b

  mutual
    pub law : {round : Round} {names : List (List ℕ)} {s : Stmt} {instrs more : List Instr}
        {end last : Term} →
        Code code act round names s instrs end more last → (S : Scene code heartbeat z) →
        Admitted S round names → PermittedOne S names s → (k : meaning.State → Result)
        → OwedSeen code heartbeat z act fuel S (names_after names s) more last k →
        OwedSeen code heartbeat z act fuel S names instrs end
        (λ st. then (result (run (setting round) s st)) k)
    law (let_code {round} {names} {x = x} {e = e} {v = v} room_left c) S admits permits k post =
        let_law code heartbeat z act (setting round) expr_law S names admits.lowest k x e v _ _ _
        room_left (operand_here admits c) post
    law (set_code {round} {names} {x = x} {e = e} {v = v} {cell = cell} is empty c) S admits permits
        k post =
        set_law code heartbeat z act (setting round) expr_law S names admits.lowest k round.fixed x
        e v cell _ _ _ is (changes admits is) (register_here admits cell ∙ empty)
        (operand_here admits c) post
    law (set_register_code {round} {names} {x = x} {e = e} {v = v} {cell = cell} {held} is is_held
        c) S admits permits k post =
        set_register_law code heartbeat z act (setting round) expr_law S names admits.lowest k
        round.fixed x e v cell held _ _ _ is (changes admits is)
        (register_here admits cell ∙ is_held) (operand_here admits c) post
    law (print_code {round} {names} {place = place} {e = e} c) S admits permits k post =
        print_law code heartbeat z act (setting round) expr_law S names admits.lowest k place e _ _
        _ (computes_here admits c) post
    law (if_code {round} {names} {e = e} body other {first} {second} {exit} c yes_branch no_branch
        ends) S admits permits k post =
        let one : First first = first_of yes_branch in
        let two : First second = first_of_other no_branch ends in
        if_law code heartbeat z act (setting round) expr_law S names k e body other first second _
        one.instrs two.instrs one.end two.end (computes_here admits c) one.opens two.opens
        (branch_law yes_branch S admits
        (λ loud.
        permits_more code heartbeat z p act.dispatch
        (permits (loud_if act.calls e body other loud)) (same_names names)
        (λ a outside l near o. in_if body other o) (λ f c. called_if body other c))
        k ends post)
        (other_law no_branch S admits
        (λ loud.
        permits_more code heartbeat z p act.dispatch
        (permits (loud_other act.calls e body other loud)) (same_names names)
        (λ a outside l near o. in_other body other o)
        (λ f c. called_other body other c))
        k ends post)
    law (if_not_code {round} {names} {e = e} {e'} body other {second} {exit} is c inner_code no_branch
        ends) S admits permits k post =
        let two : First second = first_of_other no_branch ends in
        if_not_law code heartbeat z act (setting round) expr_law S names k e e' is body other second _
        _ two.instrs _ two.end (computes_here admits c) two.opens
        (codes_law inner_code S admits
        (λ loud.
        permits_more code heartbeat z p act.dispatch
        (permits (loud_if act.calls e body other loud)) (same_names names)
        (λ a outside l near o. in_if body other o) (λ f c. called_if body other c))
        (λ s. k (left (length names) s))
        (leaves code heartbeat z act fuel S names (names_after_list names body.items) exit _ _ k
        (first_names names body.items) ends post))
        (other_law no_branch S admits
        (λ loud.
        permits_more code heartbeat z p act.dispatch
        (permits (loud_other act.calls e body other loud)) (same_names names)
        (λ a outside l near o. in_other body other o)
        (λ f c. called_other body other c))
        k ends post)
    law (while_code {round} {names} {e = e} body {again} {exit} {inner = inner} {test = test} {last
        = last} c begins inner_code test_code ends) S admits permits k post =
        while_law code heartbeat z act (setting round) expr_law S names
        (names_after_list names body.items) (first_names names body.items) k e body again exit _
        inner test _ last _ (computes_here admits c) begins (computes_here admits test_code) ends
        post
        (λ n f after_it.
        codes_law inner_code (later_in code heartbeat z S n)
        (admits_later code heartbeat z room admits n)
        (λ loud.
        permits_more code heartbeat z p act.dispatch
        (permits_later code heartbeat z p act.dispatch
        (permits (loud_while act.calls e body loud)) n)
        (same_names names) (λ a outside l near o. in_while body o)
        (λ g c. called_while body c))
        f after_it)
    law (loop_code {round} {names} {x = x} {a = a} {b = b} body {again} {exit} {second = second}
        {inner = inner} {last = last} room_left c d begins inner_code ends) S admits permits k post
        =
        loop_law code heartbeat z act (setting round) expr_law S names
        (names_after_list (names ++ x.text.items ∷ []) body.items) admits.lowest room_left
        (first_names_in names x.text.items body.items) k x a b body again exit _ second inner _ last
        _ (computes_here admits c) (computes_here admits d) begins ends post
        (λ j m f after_it.
        codes_law inner_code
        (inside code heartbeat z S (length names) admits.lowest m (Some j))
        (admits_loop code heartbeat z room admits x.text.items m (Some j))
        (λ loud.
        permits_more code heartbeat z p act.dispatch
        (permits_inside code heartbeat z p act.dispatch
        (permits (loud_loop act.calls x a b body loud)) (length names)
        admits.lowest m (Some j))
        (one_more_name names x.text.items) (λ c outside l near o. in_loop body o)
        (λ g c. called_loop body c))
        f after_it)
    law (loop_to_code {round} {names} {x = x} {a = a} {b = b} body {n} {again} {exit} {inner =
        inner} {last = last} room_left is_literal in_n c begins inner_code ends) S admits permits k
        post =
        loop_to_law code heartbeat z act (setting round) expr_law S names
        (names_after_list (names ++ x.text.items ∷ []) body.items) admits.lowest room_left
        (first_names_in names x.text.items body.items) k x a b body n again exit _ inner _ last _
        is_literal in_n (computes_here admits c) begins ends post
        (λ m f after_it.
        codes_law inner_code (inside code heartbeat z S (length names) admits.lowest m None)
        (admits_loop code heartbeat z room admits x.text.items m None)
        (λ loud.
        permits_more code heartbeat z p act.dispatch
        (permits_inside code heartbeat z p act.dispatch
        (permits (loud_loop act.calls x a b body loud)) (length names)
        admits.lowest m None)
        (one_more_name names x.text.items) (λ c outside l near o. in_loop body o)
        (λ g c. called_loop body c))
        f after_it)
    law (put_code {round} {names} {t = t} {a} {b} {e} {table} {trap} is c d f traps) S admits
        permits k post =
        put_law code heartbeat z act (setting round) expr_law S names admits.lowest k t a b e table
        trap _ _ _ _ _ (table_here admits is) (computes_here admits c) (computes_here admits d)
        (computes_here admits f) traps post
    law (put_kept_code {round} {names} {t = t} {a} {b} {e} {table} {trap} keeps is c d f traps) S
        admits permits k post =
        put_kept_law code heartbeat z act (setting round) expr_law S names admits.lowest k t a b e
        table trap _ _ _ _ _ keeps (table_here admits is) (computes_here admits c)
        (computes_here admits d) (computes_here admits f) traps post
    law (quiet_par_code {round} {names} l site {check} {first = start} {head} {exit} empty shallow
        room_left quiet free c d is_site begins inner_code ready again_code ends) S admits permits k
        post =
        owed_seen code heartbeat z act fuel S names _ _ _ (admits.registers ∙ empty)
        (quiet_statement code heartbeat z act p fuel room expr_law rules dispatches calls.few S
        round names admits k l site check start head exit (permits refl) shallow room_left free
        (admits.registers ∙ empty) _ _ _ _ _
        _ _ _ c d is_site begins ready ends
        (names_after_list (names ++ l.var.text.items ∷ []) l.body.items)
        (first_names_in names l.var.text.items l.body.items)
        (owed_bare code heartbeat z act fuel S names _ _ k (admits.registers ∙ empty) post)
        (λ T inner_admits f after_it.
        owed_bare code heartbeat z act fuel T _ _ _ _ inner_admits.registers
        (codes_law inner_code T inner_admits (λ loud. absurd (true≢false (sym quiet ∙ loud)))
        f (owed_seen code heartbeat z act fuel T _ _ _ f inner_admits.registers after_it)))
        (λ T inner_admits f after_it.
        owed_bare code heartbeat z act fuel T _ _ _ _ inner_admits.registers
        (codes_law again_code T inner_admits (λ loud. absurd (true≢false (sym quiet ∙ loud)))
        f (owed_seen code heartbeat z act fuel T _ _ _ f inner_admits.registers after_it))))
    law (leaf_par_code {round} {names} l site {check} {first = start} {exit} empty shallow room_left
        quiet free c d is_leaf ready again_code begins inner_code ends) S admits permits k post =
        owed_seen code heartbeat z act fuel S names _ _ _ (admits.registers ∙ empty)
        (leaf_statement code heartbeat z act p fuel room expr_law rules dispatches calls.few S round
        names admits k l site check start exit
        (permits refl) shallow room_left free (admits.registers ∙ empty) _ _ _ _ _ _ _ _ c d is_leaf
        begins ready ends
        (names_after_list (names ++ l.var.text.items ∷ []) l.body.items)
        (first_names_in names l.var.text.items l.body.items)
        (owed_bare code heartbeat z act fuel S names _ _ k (admits.registers ∙ empty) post)
        (λ T inner_admits f after_it.
        codes_law inner_code T inner_admits
        (λ loud. absurd (true≢false (sym quiet ∙ loud_list act.calls l.body.items loud))) f
        after_it) (λ T inner_admits f after_it.
        codes_law again_code T inner_admits
        (λ loud. absurd (true≢false (sym quiet ∙ loud_list act.calls l.body.items loud))) f
        after_it))
    law (deep_par_code {round} {names} l site {check} {head} {turn} {exit} empty shallow room_left
        loud free c d is_site begins inner_code ends) S admits permits k post =
        owed_seen code heartbeat z act fuel S names _ _ _ (admits.registers ∙ empty)
        (deep_statement code heartbeat z act p fuel room expr_law rules dispatches calls.few S round
        names admits k l site check head turn exit (permits refl) shallow room_left free is_site
        (admits.registers ∙ empty) _ _
        _ _ _ _ c d begins ends
        (names_after_list (names ++ l.var.text.items ∷ []) l.body.items)
        (first_names_in names l.var.text.items l.body.items)
        (owed_bare code heartbeat z act fuel S names _ _ k (admits.registers ∙ empty) post)
        (λ C inner_admits inner_permits f after_it.
        owed_bare code heartbeat z act fuel C _ _ _ _ inner_admits.registers
        (codes_law inner_code C inner_admits (λ body_loud. inner_permits) f
        (owed_seen code heartbeat z act fuel C _ _ _ f inner_admits.registers after_it))))
    law (fold_code {round} {names} {x = x} {e} {o} {v} {cell} is_op is empty c) S admits permits k
        post =
        fold_law code heartbeat z act (setting round) expr_law S names admits.lowest k round.fixed x
        e o v cell _ _ _ is_op is (changes admits is) (register_here admits cell ∙ empty)
        (operand_here admits c) post
    law (fold_register_code {round} {names} {x = x} {e} {o} {v} {cell} {held} is_op is is_held c) S
        admits permits k post =
        fold_register_law code heartbeat z act (setting round) expr_law S names admits.lowest k
        round.fixed x e o v cell held _ _ _ is_op is (changes admits is)
        (register_here admits cell ∙ is_held) (operand_here admits c) post
    law (fold_nothing_code {round} {names} {x = x} {e} is_none c) S admits permits k post =
        fold_nothing_law code heartbeat z act (setting round) expr_law S names admits.lowest k x e _
        _ _ is_none (computes_here admits c) post
    law (emit_code {round} {names} {place = place} {t = t} {table} is) S admits permits k post =
        emit_law code heartbeat z act (setting round) S names k place t table _ _
        (table_here admits is) post
    law (call_code {round} {names} {x = x} {f} {entry} {cell} empty is_entry arity is args call) S
        admits permits k post =
        owed_seen code heartbeat z act fuel S names _ _ _ (admits.registers ∙ empty)
        (call_law code heartbeat z act fuel p room expr_law calls place S admits.levels names
        admits.lowest (Call x f) permits (admits.registers ∙ empty) round.reduces k round.fixed x f
        entry cell _ _ _ _ _ (by_call f refl) is_entry arity is (changes admits is) args call
        (owed_bare code heartbeat z act fuel S names _ _ k (admits.registers ∙ empty) post))
    law (both_code {round} {names} {x = x} {y} {f} {g} first second site {x_cell} {y_cell} empty
        kept is_first arity_first is_second arity_second is_x is_y eight args others pair) S admits
        permits k post =
        owed_seen code heartbeat z act fuel S names _ _ _ (admits.registers ∙ empty)
        (pair_law code heartbeat z act p fuel room expr_law rules dispatches calls place S
        (admits.registers ∙ empty) round names admits k x y f g (permits refl) first second site
        x_cell y_cell _ _ _ _ kept is_first arity_first is_second arity_second is_x
        (changes admits is_x) is_y (changes admits is_y) eight pair
        (owed_bare code heartbeat z act fuel S names _ _ k (admits.registers ∙ empty) post) _ _ args
        others)

    pub codes_law : {round : Round} {names : List (List ℕ)} {ss : List Stmt}
        {instrs more : List Instr} {end last : Term} →
        Codes code act round names ss instrs end more last → (S : Scene code heartbeat z) →
        Admitted S round names → Permitted S names ss → (k : meaning.State → Result)
        → OwedSeen code heartbeat z act fuel S (names_after_list names ss) more last k →
        OwedSeen code heartbeat z act fuel S names instrs end
        (λ st. then (result (run_list (setting round) ss st)) k)
    codes_law none S admits permits k post = post
    codes_law (one_more {round} {names} {s = s} {ss = ss} c cs) S admits permits k post =
        λ i st state shows stands.
        subst (λ (r : Result). (S.owing i r).Holds state)
        (sym (after_then (run (setting round) s st) (run_list (setting round) ss) k))
        (law c S admits
        (λ loud.
        permits_more code heartbeat z p act.dispatch
        (permits (first_loud (is_quiet act.calls s) (list_is_quiet act.calls ss) loud))
        (same_names names) (λ a outside l near o. at_first o) (λ f c. first_calls c))
        (λ t. then (result (run_list (setting round) ss t)) k)
        (codes_law cs S (admits_more code heartbeat z room admits (more_names_one names s))
        (λ loud.
        permits_more code heartbeat z p act.dispatch
        (permits (second_loud (is_quiet act.calls s) (list_is_quiet act.calls ss) loud))
        (longer_one names s) (λ a outside l near o. at_later o) (λ f c. later_calls c))
        k post)
        i st state shows stands)

    branch_law : {round : Round} {names : List (List ℕ)} {body : List Stmt} {label exit : ℕ}
        {more : List Instr} {end : Term} →
        Branch code act round names body label exit → (S : Scene code heartbeat z) →
        Admitted S round names → Permitted S names body → (k : meaning.State → Result) →
        Opens code exit more end
        → OwedSeen code heartbeat z act fuel S names more end k →
        SeenAt code heartbeat z act fuel S names label
        (λ st. then (result (block (run_list (setting round) body) st)) k)
    branch_law {more = more} {end = end}
        (branch {round} {names} {body = body} {label = label} {exit = exit} opens inner) S admits
        permits k ends post =
        blocks code heartbeat z act fuel (setting round) S names body label _ _ k opens
        (codes_law inner S admits permits (λ s. k (left (length names) s))
        (leaves code heartbeat z act fuel S names (names_after_list names body) exit more end k
        (first_names names body) ends post))

    other_law : {round : Round} {names : List (List ℕ)} {body : List Stmt} {label exit : ℕ}
        {more : List Instr} {end : Term} →
        Other code act round names body label exit → (S : Scene code heartbeat z) →
        Admitted S round names → Permitted S names body → (k : meaning.State → Result) →
        Opens code exit more end
        → OwedSeen code heartbeat z act fuel S names more end k →
        SeenAt code heartbeat z act fuel S names label
        (λ st. then (result (block (run_list (setting round) body) st)) k)
    other_law {more = more} {end = end} (nothing {round} {names} {exit = exit}) S admits permits k
        ends post =
        nothing_done code heartbeat z act fuel (setting round) S names exit more end k ends post
    other_law (something b) S admits permits k ends post = branch_law b S admits permits k ends post
