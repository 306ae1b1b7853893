-- The statements of a body, and the functions that it calls, touch only the cells that are theirs.
use Rattle.frame_machine.proofs.Bends.{Keeps, keeps_assign, keeps_declare, keeps_trans}
use Rattle.frame_machine.proofs.Guarding.{Guards, Kept, KeptCall, MaySet, kept_after, kept_block}
use Rattle.frame_machine.proofs.Guarding.{kept_caught, kept_choose, kept_done, kept_given}
use Rattle.frame_machine.proofs.Guarding.{kept_iterate, kept_left}
use Rattle.frame_machine.proofs.Guarding.{kept_noted, kept_put, kept_turns, kept_vars, kept_weaken}
use Rattle.frame_machine.proofs.Guarding.{kept_wide, kept_with_call}
use Rattle.frame_machine.proofs.Owning.{Clear, Owns, demoted_all, demoted_owns, demoted_whole}
use Rattle.frame_machine.proofs.Owning.{inner_all, inner_clear, inner_owns, modes_and, owns_assign}
use Rattle.frame_machine.proofs.Owning.{owns_declare, owns_survives}
use Rattle.frame_machine.proofs.Tables.{agree_refl}
use Rattle.frame_machine.proofs.Values.{eval_keeps, notes_append, write_owned}
use Rattle.frame_machine.specs.Bodies.{AllKeep, AllRead, AndVar, FuncKeeps, FuncsKeep, KeepsTo}
use Rattle.frame_machine.specs.Bodies.{ListKeeps, MayCarry, MayLeave, MayRead, NoVariable}
use Rattle.frame_machine.specs.Modes.{AllOfModes, Modes, demoted, inner_modes}
use Rattle.frame_machine.specs.Parts.{Cells, NotesKeep, Outside}
use Rattle.loop_meaning.proofs.Ticks.{tick_allowed, tick_refused}
use Rattle.loop_meaning.specs.Calls.{bound, call_at, call_on, enter, no_value}
use Rattle.loop_meaning.specs.Expressions.{eval}
use Rattle.loop_meaning.specs.Leaving.{caught, left_in}
use Rattle.loop_meaning.specs.State.{Chance, Note, Ran, State, after, assign, declare, done, noted}
use Rattle.loop_meaning.specs.State.{tick, trapped}
use Rattle.loop_meaning.specs.Statements.{Called, Setting, block, folded, given, given_all}
use Rattle.loop_meaning.specs.Statements.{given_two, iterate, put_cell, run, run_all, run_list}
use Rattle.loop_meaning.specs.Statements.{set_var, too_wide, two_calls, with_call}
use Rattle.loop_meaning.specs.declared.value.Answer.TheVariants.{Number}
use Rattle.loop_meaning.specs.declared.value.Variable.{Variable}
use Rattle.loop_rules.specs.Names.{func_of, operator_of}
use Rattle.loop_syntax.specs.declared.Carry.{Carry}
use Rattle.loop_syntax.specs.declared.Expr.{Expr}
use Rattle.loop_syntax.specs.declared.Func.{Func}
use Rattle.loop_syntax.specs.declared.Reduce.{Reduce}
use Rattle.loop_syntax.specs.declared.Stmt.{Row_of-Stmt, Stmt, end_of-Stmt, more_of-Stmt}
use Rattle.loop_syntax.specs.declared.Stmt.TheVariants.{Both, Call, Emit, Fill, Fold, If', Leave}
use Rattle.loop_syntax.specs.declared.Stmt.TheVariants.{Let, Loop', Par', Print, Put, Set, While'}
use Rattle.std.proofs.Common.{Bool, List, None, Option, Some, [], false, inl, inr, length, nat_lt}
use Rattle.std.proofs.Common.{refl, subst, suc, sym, true, zero, ℕ, ℤ, ◌+◌, ◌∷◌, ◌≡◌}
use Rattle.std.specs.Int.{int_gap}
use Rattle.std.specs.Prelude.{⊤}
use Rattle.tp_value.specs.declared.Op.{Op}
use Rattle.tp_value.specs.declared.Place.{Place}
use Rattle.tp_value.specs.declared.TrapKind.TheVariants.{Deep}

-- the cells that may be read and those that may be written hold what the modes give
abbrev pub Owned : Cells → Cells → Modes → List Variable → Type 0
Owned R W m vs = Owns R m vs × Owns W m vs

owned_survives : (R W : Cells) (F : List ℕ → Type 0) (m : Modes) → AllOfModes F m → (us vs : List Variable) → Keeps F us vs → length vs ≡ length us → Owned R W m us → Owned R W m vs
owned_survives R W F m f us vs k l w = (owns_survives R F m f us vs k l w.0, owns_survives W F m f us vs k l w.1)

owned_declare : (R W : Cells) (m : Modes) (us : List Variable) (x : List ℕ) (n : ℤ) → AllOfModes (λ y. x ≡ y → ⊥) m → Owned R W m us → Owned R W m (declare us x n)
owned_declare R W m us x n f w = (owns_declare R m us x n f w.0, owns_declare W m us x n f w.1)

owned_assign : (R W : Cells) (F : List ℕ → Type 0) (m : Modes) (us : List Variable) (x : List ℕ) (n : ℤ) → (F x → ⊥) → AllOfModes F m → Owned R W m us → Owned R W m (assign us x n)
owned_assign R W F m us x n g f w = (owns_assign R F m us x n g f w.0, owns_assign W F m us x n g f w.1)

inner_owned : (R W : Cells) (m : Modes) (us : List Variable) (x : List ℕ) (i : ℤ) → AllOfModes (λ y. x ≡ y → ⊥) m → Owned R W m us → (cs : List Carry) → MayCarry m cs → Owned R W (inner_modes cs x m) (declare us x i)
inner_owned R W m us x i f w cs c = (inner_owns R m us x i f w.0 cs c, inner_owns W m us x i f w.1 cs c)

module _ (R W : Cells) (cut : List Reduce) (Safe : List ℕ → Type 0) (fuel : ℕ) (call : List ℕ → Place → List ℤ → List Note → State → Called)
    (calls : (f : List ℕ) → Safe f → (p : Place) (ns : List ℤ) (b : List Note) → NotesKeep R W b → (u : State) → KeptCall R W u (call f p ns b u)) where
  abbrev at : List Reduce → Setting
  at rs = record { reduces = rs; fuel = fuel; call = call }

  chance : NotesKeep R W (Chance ∷ [])
  chance = (tt, tt)

  module _ (F : List ℕ → Type 0) (m : Modes) (clear : Clear R m) (f : AllOfModes F m) where
    reads : (e : Expr) → MayRead cut m e → (u : State) → Owned R W m u.vars → NotesKeep R W (eval u.vars u.tables e).notes
    reads e a u w = eval_keeps R W cut m u.vars u.tables clear w.0 e a

    kept_assign : (x : List ℕ) (n : ℤ) → (F x → ⊥) → Guards R W F (Owned R W m) (λ s. done (record s { vars = assign s.vars x n }))
    kept_assign x n a u w = kept_vars R W F (Owned R W m) (λ vs. assign vs x n) u (keeps_assign F u.vars x n a) (owned_assign R W F m u.vars x n a f w)

    kept_fold : (x : List ℕ) (n : ℤ) (op : Option Op) → (F x → ⊥) → Guards R W F (Owned R W m) (λ s. done (record s { vars = folded op s.vars x n }))
    kept_fold x n None a u w = kept_done R W F (Owned R W m) u w
    kept_fold x n (Some op) a u w = kept_vars R W F (Owned R W m) (λ vs. folded (Some op) vs x n) u (keeps_assign F u.vars x _ a) (owned_assign R W F m u.vars x _ a f w)

    may_set : (target : Option (List ℕ)) → MayLeave cut F target → MaySet R W F (Owned R W m) target
    may_set None a = tt
    may_set (Some x) a = λ n us w. (keeps_assign F us x n a.1, owned_assign R W F m us x n a.1 f w)

    kept_args : (es : List Expr) (u : State) (g : List ℤ → Ran) → AllRead cut m es → Owned R W m u.vars → ((ns : List ℤ) → Kept R W F (Owned R W m) u (g ns)) → Kept R W F (Owned R W m) u (given_all es u g)
    kept_args [] u g a w p = p []
    kept_args (e ∷ es) u g a w p =
        kept_given R W F (Owned R W m) e u (λ n. given_all es u (λ ns. g (n ∷ ns))) (reads e a.0 u w) (λ n q. kept_args es u (λ ns. g (n ∷ ns)) a.1 w (λ ns. p (n ∷ ns)))

    kept_two : (a b : Expr) (u : State) (g : ℤ → ℤ → Ran) → MayRead cut m a → MayRead cut m b → Owned R W m u.vars → ((i j : ℤ) → (eval u.vars u.tables a).answer ≡ Number i → (eval u.vars u.tables b).answer ≡ Number j → Kept R W F (Owned R W m) u (g i j)) → Kept R W F (Owned R W m) u (given_two a b u g)
    kept_two a b u g p q w h =
        kept_given R W F (Owned R W m) a u (λ i. given b u (λ j. g i j)) (reads a p u w) (λ i d. kept_given R W F (Owned R W m) b u (λ j. g i j) (reads b q u w) (λ j e. h i j d e))

  mutual
    pub kept_run : (F : List ℕ → Type 0) (rs : List Reduce) (m : Modes) → Clear R m → AllOfModes F m → (s : Stmt) → KeepsTo cut Safe F rs m s → Guards R W F (Owned R W m) (run (at rs) s)
    kept_run F rs m c f (Let x e) a u w =
        kept_given R W F (Owned R W m) e u _ (reads F m c f e a.0 u w)
        (λ n q. kept_vars R W F (Owned R W m) (λ vs. declare vs x.text.items n) u (keeps_declare F u.vars x.text.items n) (owned_declare R W m u.vars x.text.items n a.1.1 w))
    kept_run F rs m c f (Set x e) a u w =
        kept_given R W F (Owned R W m) e u _ (reads F m c f e a.0 u w) (λ n q. kept_assign F m c f x.text.items n a.1.1 u w)
    kept_run F rs m c f (Put t p q e) a u w =
        kept_two F m c f p q u _ a.0 a.1 w (λ i j d g. kept_given R W F (Owned R W m) e u (λ n. put_cell t i j n u) (reads F m c f e a.2 u w)
        (λ n h. kept_put R W F (Owned R W m) t i j n u w (write_owned (W t.text.items) (m t.text.items) u.vars u.tables p q i j (w.1 t.text.items) a.3 d g)))
    kept_run F rs m c f (If' e p body q other) a u w =
        kept_given R W F (Owned R W m) e u _ (reads F m c f e a.0 u w)
        (λ n h. kept_choose R W F (Owned R W m) n (block (run_all (at rs) body)) (block (run_all (at rs) other))
        (kept_block R W F (Owned R W m) (owned_survives R W F m f) _ (kept_all F rs m c f body a.1))
        (kept_block R W F (Owned R W m) (owned_survives R W F m f) _ (kept_all F rs m c f other a.2)) u w)
    kept_run F rs m c f (While' e p body) a u w =
        kept_turns R W F (Owned R W m) (fuel + 1) fuel e (block (run_all (at rs) body)) (λ v i. reads F m c f e a.0 v i)
        (kept_block R W F (Owned R W m) (owned_survives R W F m f) _ (kept_all F rs m c f body a.1)) u w
    kept_run F rs m c f (Loop' x p q shape body) a u w =
        kept_two F m c f p q u _ a.0 a.1 w
        (λ i j d g. kept_iterate R W F (Owned R W m) (Owned R W m) (owned_survives R W F m f) (λ n k. ⊤) (λ n k r. tt) fuel x.text.items (run_all (at rs) body)
        (λ n k r us v. owned_declare R W m us x.text.items k a.2.1 v) (kept_all F rs m c f body a.3) (int_gap i j) [] [] i tt tt tt u w)
    kept_run F rs m c f (Par' place x p q carry_place carries reduces shape body) a u w =
        kept_two F m c f p q u _ a.0 a.1 w
        (λ i j d g. kept_wide R W F (Owned R W m) (too_wide i j) place (λ v. caught (left_in body) (iterate fuel x.text.items (run_all (at reduces.items) body) (Chance ∷ []) [] (int_gap i j) i v))
        (λ v k. kept_caught R W F (Owned R W m) v (left_in body) _ (kept_iterate R W F (Owned R W m) (Owned R W (inner_modes carries.items x.text.items m)) (owned_survives R W F m f) (λ n k. ⊤) (λ n k r. tt) fuel x.text.items (run_all (at reduces.items) body)
        (λ n k r us v. inner_owned R W m us x.text.items k a.2.1 v carries.items a.3)
        (λ v i. kept_weaken R W F (AndVar F x.text.items) (λ z. inl) (Owned R W (inner_modes carries.items x.text.items m)) v (run_all (at reduces.items) body v)
        (kept_all (AndVar F x.text.items) reduces.items (inner_modes carries.items x.text.items m) (inner_clear R m x.text.items c carries.items a.3) (inner_all (AndVar F x.text.items) m x.text.items (inr refl) (modes_and F x.text.items m f) carries.items a.3) body a.4 v i))
        (int_gap i j) (Chance ∷ []) [] i chance tt tt v k) (may_set F m c f (left_in body) a.5)) u w)
    kept_run F rs m c f (Fold x e) a u w =
        kept_given R W F (Owned R W m) e u _ (reads F m c f e a.0 u w) (λ n q. kept_fold F m c f x.text.items n (operator_of rs x.text.items) a.2 u w)
    kept_run F rs m c f (Call x g) a u w =
        kept_args F m c f g.args.items u _ a.0 w
        (λ ns. kept_with_call R W F (Owned R W m) u (call g.callee.text.items g.callee.place ns [] u) (λ v t. done (set_var x v t)) w (calls g.callee.text.items a.1 g.callee.place ns [] tt u)
        (λ n. kept_assign F m c f x.text.items n a.2.1))
    kept_run F rs m c f (Both x f1 y g1) a u w =
        kept_args F m c f f1.args.items u (λ ns. given_all g1.args.items u (λ ms. two_calls (at rs) x f1.callee ns y g1.callee ms (Chance ∷ []) u)) a.0 w
        (λ ns. kept_args F m c f g1.args.items u (λ ms. two_calls (at rs) x f1.callee ns y g1.callee ms (Chance ∷ []) u) a.1 w
        (λ ms. kept_with_call R W F (Owned R W m) u (call f1.callee.text.items f1.callee.place ns (Chance ∷ []) u)
        (λ v t. with_call (call g1.callee.text.items g1.callee.place ms [] t) (λ k z. done (set_var y k (set_var x v z)))) w (calls f1.callee.text.items a.2 f1.callee.place ns (Chance ∷ []) chance u)
        (λ v t i. kept_with_call R W F (Owned R W m) t (call g1.callee.text.items g1.callee.place ms [] t) (λ k z. done (set_var y k (set_var x v z))) i (calls g1.callee.text.items a.3 g1.callee.place ms [] tt t)
        (λ k z j. kept_vars R W F (Owned R W m) (λ vs. assign (assign vs x.text.items v) y.text.items k) z
        (keeps_trans F z.vars (assign z.vars x.text.items v) (assign (assign z.vars x.text.items v) y.text.items k) (keeps_assign F z.vars x.text.items v a.4.1) (keeps_assign F (assign z.vars x.text.items v) y.text.items k a.5.1))
        (owned_assign R W F m (assign z.vars x.text.items v) y.text.items k a.5.1 f (owned_assign R W F m z.vars x.text.items v a.4.1 f j))))))
    kept_run F rs m c f (Print place e) a u w = absurd a
    kept_run F rs m c f (Emit place x) a u w = absurd a
    kept_run F rs m c f (Leave x e) a u w = kept_given R W F (Owned R W m) e u _ (reads F m c f e a u w) (λ n q. kept_left R W F (Owned R W m) n u w)
    kept_run F rs m c f (Fill g x r es) a u w = kept_done R W F (Owned R W m) u w

    pub kept_all : {n : _} (F : List ℕ → Type 0) (rs : List Reduce) (m : Modes) → Clear R m → AllOfModes F m → (b : Row_of-Stmt n) → AllKeep cut Safe F rs m b → Guards R W F (Owned R W m) (run_all (at rs) b)
    kept_all F rs m c f end_of-Stmt a u w = kept_done R W F (Owned R W m) u w
    kept_all F rs m c f (more_of-Stmt first rest) a u w = kept_after R W F (Owned R W m) u (run (at rs) first u) (run_all (at rs) rest) (kept_run F rs m c f first a.0 u w) (kept_all F rs m c f rest a.1)

  pub kept_list : (F : List ℕ → Type 0) (rs : List Reduce) (m : Modes) → Clear R m → AllOfModes F m → (b : List Stmt) → ListKeeps cut Safe F rs m b → Guards R W F (Owned R W m) (run_list (at rs) b)
  kept_list F rs m c f [] a u w = kept_done R W F (Owned R W m) u w
  kept_list F rs m c f (s ∷ ss) a u w = kept_after R W F (Owned R W m) u (run (at rs) s u) (run_list (at rs) ss) (kept_run F rs m c f s a.0 u w) (kept_list F rs m c f ss a.1)

-- ---- calls

module _ (R W : Cells) where
  kept_call_on : (fuel : ℕ) (u : State) (go : State → Called) → ((v : State) → KeptCall R W v (go v)) → KeptCall R W u (call_on (tick fuel u).stop (tick fuel u) go)
  kept_call_on fuel u go q = at (nat_lt u.ticks fuel) refl
    where
      at : (b : Bool) → nat_lt u.ticks fuel ≡ b → KeptCall R W u (call_on (tick fuel u).stop (tick fuel u) go)
      at true e =
          subst (λ r. KeptCall R W u (call_on r.stop r go)) (sym (tick_allowed fuel u e))
          (let p = q (record u { ticks = u.ticks + 1 }) in record { vars = p.vars; tables = p.tables; notes = p.notes; output = p.output })
      at false e =
          subst (λ r. KeptCall R W u (call_on r.stop r go)) (sym (tick_refused fuel u e))
          (record { vars = λ d. refl; tables = λ d. agree_refl (Outside W) u.tables; notes = tt; output = refl })

  module _ (m : Modes) (clear : Clear R m) (Safe : List ℕ → Type 0) where
    kept_enter : (fuel : ℕ) (call : List ℕ → Place → List ℤ → List Note → State → Called) → ((f : List ℕ) → Safe f → (p : Place) (ns : List ℤ) (b : List Note) → NotesKeep R W b → (u : State) → KeptCall R W u (call f p ns b u))
        → (g : Option Func) → FuncKeeps Safe m g → (ns : List ℤ) (b : List Note) → NotesKeep R W b → (u : State) → KeptCall R W u (enter (record { reduces = []; fuel = fuel; call = call }) g ns b u)
    kept_enter fuel call calls None fine ns b h u = record { vars = λ d. refl; tables = λ d. agree_refl (Outside W) u.tables; notes = notes_append R W b [] h tt; output = refl }
    kept_enter fuel call calls (Some f) fine ns b h u =
        record { vars = λ d. refl; tables = λ d. (whole.leaves d).tables; notes = whole.notes; output = whole.output }
      where
        inside : Modes
        inside y = demoted (m y)

        cl : Clear R inside
        cl y e = clear y (demoted_whole (m y) e)

        start : State
        start = record u { vars = bound f.params.items ns }

        own : (vs : List Variable) → Owned R W inside vs
        own vs = (λ y. demoted_owns (R y) (m y) vs, λ y. demoted_owns (W y) (m y) vs)

        body : Ran
        body = noted b (run_list (record { reduces = []; fuel = fuel; call = call }) f.body.items start)

        whole : Kept R W NoVariable (Owned R W inside) start (after body (λ s. given f.result s (λ n. done s)))
        whole = kept_after R W NoVariable (Owned R W inside) start body (λ s. given f.result s (λ n. done s))
            (kept_noted R W NoVariable (Owned R W inside) b start _ h
            (kept_list R W [] Safe fuel call calls NoVariable [] inside cl (λ y. demoted_all NoVariable (m y)) f.body.items fine.0 start (own start.vars)))
            (λ s i. kept_given R W NoVariable (Owned R W inside) f.result s (λ n. done s) (eval_keeps R W [] inside s.vars s.tables cl i.0 f.result fine.1)
            (λ n q. kept_done R W NoVariable (Owned R W inside) s i))

    pub kept_call : (fs : List Func) (fuel : ℕ) → FuncsKeep Safe m fs → (room : ℕ) (f : List ℕ) → Safe f → (p : Place) (ns : List ℤ) (b : List Note) → NotesKeep R W b → (u : State) → KeptCall R W u (call_at fs fuel room f p ns b u)
    unfolding call_at
    kept_call fs fuel safe zero f s p ns b h u =
        kept_call_on fuel u (λ v. no_value (trapped Deep p v)) (λ v. record { vars = λ d. refl; tables = λ d. agree_refl (Outside W) v.tables; notes = tt; output = refl })
    kept_call fs fuel safe (suc room) f s p ns b h u =
        kept_call_on fuel u (enter (record { reduces = []; fuel = fuel; call = call_at fs fuel room }) (func_of fs f) ns b)
        (kept_enter fuel (call_at fs fuel room) (kept_call fs fuel safe room) (func_of fs f) (safe f s) ns b h)
