-- Statements of a body do the same in an upper part and in the whole.
use Rattle.frame_machine.proofs.Bends.{Bend, Goes, Keeps, bent, bent_assign, bent_declare}
use Rattle.frame_machine.proofs.Bends.{bent_fold, keeps_assign, keeps_declare, keeps_refl}
use Rattle.frame_machine.proofs.Bends.{keeps_trans}
use Rattle.frame_machine.proofs.Following.{Follows, GoesOn, Later, follows_alike, later_alike}
use Rattle.frame_machine.proofs.Following.{set_left}
use Rattle.frame_machine.proofs.Moving.{Agrees, AllAgree, Moves, Near, NearCall, moves_block}
use Rattle.frame_machine.proofs.Moving.{moves_caught, moves_choose, moves_done, moves_given}
use Rattle.frame_machine.proofs.Moving.{moves_given_all, moves_left}
use Rattle.frame_machine.proofs.Moving.{moves_iterate, moves_noted, moves_pure, moves_seq}
use Rattle.frame_machine.proofs.Moving.{moves_trap, moves_turns, moves_two, moves_weaken}
use Rattle.frame_machine.proofs.Moving.{moves_with_call}
use Rattle.frame_machine.proofs.Owning.{Clear, Owns, inner_all, inner_clear, inner_owns, modes_and}
use Rattle.frame_machine.proofs.Owning.{owns_assign, owns_declare, owns_survives}
use Rattle.frame_machine.proofs.Tables.{agree_has, agree_write}
use Rattle.frame_machine.proofs.Values.{eval_same}
use Rattle.frame_machine.specs.Bodies.{AllKeep, AllRead, AndVar, FoldsBy, KeepsTo, ListKeeps}
use Rattle.frame_machine.specs.Bodies.{MayAssign, MayDeclare, MayLeave, MayRead}
use Rattle.frame_machine.specs.Modes.{AllOfModes, Modes, inner_modes}
use Rattle.frame_machine.specs.Parts.{Cells}
use Rattle.loop_meaning.proofs.Runs.{alike_refl}
use Rattle.loop_meaning.specs.Ends.{EndAlike}
use Rattle.loop_meaning.specs.Expressions.{eval}
use Rattle.loop_meaning.specs.State.{Chance, Note, Ran, State, Writes, assign, declare, done}
use Rattle.loop_meaning.specs.State.{has_cell, noted, table_of, trapped, write_cell}
use Rattle.loop_meaning.specs.Leaving.{left_in}
use Rattle.loop_meaning.specs.Statements.{Called, Setting, folded, put_cell, run, run_all, run_list}
use Rattle.loop_meaning.specs.Statements.{too_wide, unless_wide}
use Rattle.loop_meaning.specs.declared.value.Variable.{Variable}
use Rattle.loop_rules.specs.Names.{operator_of}
use Rattle.loop_syntax.specs.declared.Expr.{Expr}
use Rattle.loop_syntax.specs.declared.Name.{Name}
use Rattle.loop_syntax.specs.declared.Reduce.{Reduce}
use Rattle.loop_syntax.specs.declared.Stmt.{Row_of-Stmt, Stmt, end_of-Stmt, more_of-Stmt}
use Rattle.loop_syntax.specs.declared.Stmt.TheVariants.{Both, Call, Emit, Fill, Fold, If', Leave}
use Rattle.loop_syntax.specs.declared.Stmt.TheVariants.{Let, Loop', Par', Print, Put, Set, While'}
use Rattle.std.proofs.Common.{Bool, List, None, Option, Some, [], ap, false, inl, inr, refl, subst}
use Rattle.std.proofs.Common.{sym, true, ℕ, ℤ, ◌+◌, ◌∙◌, ◌∷◌, ◌≡◌}
use Rattle.std.specs.Int.{int_gap}
use Rattle.std.specs.Prelude.{⊤}
use Rattle.tp_value.specs.declared.Op.{Op}
use Rattle.tp_value.specs.declared.Place.{Place}
use Rattle.tp_value.specs.declared.TrapKind.TheVariants.{Index, Wide}

module _ (fuel t : ℕ) (o : List ℕ) (A : Cells) (zs : List Reduce) (h : Bend) (goes : Goes zs h) (Safe : List ℕ → Type 0) (call : List ℕ → Place → List ℤ → List Note → State → Called)
    (calls : (f : List ℕ) → Safe f → (p : Place) (ns : List ℤ) (b : List Note) → NearCall fuel t o A (call f p ns b)) where
  abbrev at : List Reduce → Setting
  at rs = record { reduces = rs; fuel = fuel; call = call }

  pub agrees : (F : List ℕ → Type 0) → (m : Modes) → Clear A m → (e : Expr) → MayRead zs m e → Agrees fuel t o A h F (Owns A m) e
  agrees F m c e r u v n = ap (λ vs. (eval vs v.tables e).answer) n.vars ∙ eval_same A zs h goes m u.vars u.tables v.tables c n.claim n.base.tables e r

  all_agree : (F : List ℕ → Type 0) → (m : Modes) → Clear A m → (es : List Expr) → AllRead zs m es → AllAgree fuel t o A h F (Owns A m) es
  all_agree F m c [] r = tt
  all_agree F m c (e ∷ es) r = (agrees F m c e r.0, all_agree F m c es r.1)

  -- a change of the variables alone
  moves_vars : (F : List ℕ → Type 0) → (I : List Variable → Type 0) (f : List Variable → List Variable) → ((us : List Variable) → Keeps F us (f us)) → ((us : List Variable) → f (bent h us) ≡ bent h (f us)) → ((us : List Variable) → I us → I (f us)) → Moves fuel t o A h F I (λ s. done (record s { vars = f s.vars }))
  moves_vars F I f k e g = moves_pure fuel t o A h F I (λ s. record s { vars = f s.vars }) (λ u. refl) (λ u. k u.vars)
      (λ u v n. record { vars = ap f n.vars ∙ e u.vars; claim = g u.vars n.claim; base = record { tables = n.base.tables; output = n.base.output; ticks = n.base.ticks; fits = n.base.fits } })

  moves_assign : (F : List ℕ → Type 0) → (m : Modes) → AllOfModes F m → (x : List ℕ) (n : ℤ) → MayAssign zs F x → Moves fuel t o A h F (Owns A m) (λ s. done (record s { vars = assign s.vars x n }))
  moves_assign F m f x n a = moves_vars F (Owns A m) (λ vs. assign vs x n) (λ us. keeps_assign F us x n a.1) (λ us. bent_assign h us x n (goes.plain x a.0)) (λ us w. owns_assign A F m us x n a.1 f w)

  moves_declare : (F : List ℕ → Type 0) → (m : Modes) (x : List ℕ) (n : ℤ) → MayDeclare zs m x → Moves fuel t o A h F (Owns A m) (λ s. done (record s { vars = declare s.vars x n }))
  moves_declare F m x n d = moves_vars F (Owns A m) (λ vs. declare vs x n) (λ us. keeps_declare F us x n) (λ us. bent_declare h us x n (goes.plain x d.0)) (λ us w. owns_declare A m us x n d.1 w)

  moves_fold : (F : List ℕ → Type 0) → (m : Modes) → AllOfModes F m → (x : List ℕ) (n : ℤ) (op : Option Op) → FoldsBy zs x op → (F x → ⊥) → Moves fuel t o A h F (Owns A m) (λ s. done (record s { vars = folded op s.vars x n }))
  moves_fold F m f x n None a g = moves_vars F (Owns A m) (λ vs. vs) (λ us. keeps_refl F us) (λ us. refl) (λ us w. w)
  moves_fold F m f x n (Some op) a g =
      moves_vars F (Owns A m) (λ vs. folded (Some op) vs x n) (λ us. keeps_assign F us x _ g) (λ us. bent_fold h op us x n (goes.folds x op a)) (λ us w. owns_assign A F m us x _ g f w)

  moves_put : (F : List ℕ → Type 0) → (I : List Variable → Type 0) (x : Name) (i j n : ℤ) → Moves fuel t o A h F I (put_cell x i j n)
  moves_put F I x i j n = record {
    later = λ u. la u (has_cell (table_of u.tables x.text.items) i j) refl;
    stays = λ u. st u (has_cell (table_of u.tables x.text.items) i j) refl;
    near = λ u v r. sh u v r (has_cell (table_of u.tables x.text.items) i j) refl;
  }
    where
      put : State → Ran
      put s = noted (Writes x.text.items i j ∷ []) (done (record s { tables = write_cell s.tables x.text.items i j n }))

      moves : Moves fuel t o A h F I put
      moves = moves_noted fuel t o A h F I (Writes x.text.items i j ∷ []) _ (moves_pure fuel t o A h F I (λ s. record s { tables = write_cell s.tables x.text.items i j n }) (λ u. refl) (λ u. keeps_refl F u.vars)
          (λ u v r. record { vars = r.vars; claim = r.claim; base = record { tables = agree_write A u.tables v.tables x.text.items i j n r.base.tables; output = r.base.output; ticks = r.base.ticks; fits = r.base.fits } }))

      there : (u : State) → has_cell (table_of u.tables x.text.items) i j ≡ true → EndAlike (put_cell x i j n u) (put u)
      there u q = rw (q, put_cell) (alike_refl _)

      gone : (u : State) → has_cell (table_of u.tables x.text.items) i j ≡ false → EndAlike (put_cell x i j n u) (trapped Index x.place u)
      gone u q = rw (q, put_cell) (alike_refl _)

      la : (u : State) (b : Bool) → has_cell (table_of u.tables x.text.items) i j ≡ b → Later fuel u (put_cell x i j n u)
      la u true q = later_alike fuel u _ (put u) (there u q) (moves.later u)
      la u false q = later_alike fuel u _ (trapped Index x.place u) (gone u q) ((moves_trap fuel t o A h F I Index x.place).later u)

      st : (u : State) (b : Bool) → has_cell (table_of u.tables x.text.items) i j ≡ b → GoesOn (put_cell x i j n u).stop → Keeps F u.vars (put_cell x i j n u).state.vars
      st u true q d = subst (λ s. Keeps F u.vars s.vars) (sym (there u q).state) (moves.stays u (subst GoesOn (there u q).stop d))
      st u false q d = subst (λ s. Keeps F u.vars s.vars) (sym (gone u q).state) ((moves_trap fuel t o A h F I Index x.place).stays u (subst GoesOn (gone u q).stop d))

      has : (u v : State) (b : Bool) → Near fuel t o A h I u v → has_cell (table_of u.tables x.text.items) i j ≡ b → has_cell (table_of v.tables x.text.items) i j ≡ b
      has u v b r q = agree_has (A x.text.items) (table_of u.tables x.text.items) (table_of v.tables x.text.items) i j (r.base.tables x.text.items) ∙ q

      sh : (u v : State) → Near fuel t o A h I u v → (b : Bool) → has_cell (table_of u.tables x.text.items) i j ≡ b → Follows fuel t (Near fuel t o A h I) (put_cell x i j n u) (put_cell x i j n v)
      sh u v r true q = follows_alike fuel t (Near fuel t o A h I) _ (put u) _ (put v) (there u q) (there v (has u v true r q)) (moves.near u v r)
      sh u v r false q = follows_alike fuel t (Near fuel t o A h I) _ (trapped Index x.place u) _ (trapped Index x.place v) (gone u q) (gone v (has u v false r q)) ((moves_trap fuel t o A h F I Index x.place).near u v r)

  moves_wide : (F : List ℕ → Type 0) → (I : List Variable → Type 0) (b : Bool) (p : Place) (f : State → Ran) → Moves fuel t o A h F I f → Moves fuel t o A h F I (unless_wide b p f)
  moves_wide F I true p f q = moves_trap fuel t o A h F I Wide p
  moves_wide F I false p f q = q

  -- what a `par` sets where it is left
  moves_set_left : (F : List ℕ → Type 0) → (m : Modes) → AllOfModes F m → (target : Option (List ℕ)) (n : ℤ) → MayLeave zs F target → Moves fuel t o A h F (Owns A m) (set_left target n)
  moves_set_left F m f None n a = moves_done fuel t o A h F (Owns A m)
  moves_set_left F m f (Some x) n a = moves_assign F m f x n a

  keeps_two : (F : List ℕ → Type 0) → (us : List Variable) (x y : List ℕ) (i j : ℤ) → (F x → ⊥) → (F y → ⊥) → Keeps F us (assign (assign us x i) y j)
  keeps_two F us x y i j p q = keeps_trans F us (assign us x i) (assign (assign us x i) y j) (keeps_assign F us x i p) (keeps_assign F (assign us x i) y j q)

  mutual
    pub moves_run : (F : List ℕ → Type 0) → (rs : List Reduce) (m : Modes) → Clear A m → AllOfModes F m → (s : Stmt) → KeepsTo zs Safe F rs m s → Moves fuel t o A h F (Owns A m) (run (at rs) s)
    moves_run F rs m c f (Let x e) a = moves_given fuel t o A h F (Owns A m) e _ (agrees F m c e a.0) (λ n. moves_declare F m x.text.items n a.1)
    moves_run F rs m c f (Set x e) a = moves_given fuel t o A h F (Owns A m) e _ (agrees F m c e a.0) (λ n. moves_assign F m f x.text.items n a.1)
    moves_run F rs m c f (Put x p q e) a =
        moves_two fuel t o A h F (Owns A m) p q _ (agrees F m c p a.0) (agrees F m c q a.1) (λ i j. moves_given fuel t o A h F (Owns A m) e _ (agrees F m c e a.2) (λ n. moves_put F (Owns A m) x i j n))
    moves_run F rs m c f (If' e p body q other) a =
        moves_given fuel t o A h F (Owns A m) e _ (agrees F m c e a.0) (λ n. moves_choose fuel t o A h F (Owns A m) n _ _ (moves_block fuel t o A h F (Owns A m) (owns_survives A F m f) _ (moves_all F rs m c f body a.1)) (moves_block fuel t o A h F (Owns A m) (owns_survives A F m f) _ (moves_all F rs m c f other a.2)))
    moves_run F rs m c f (While' e p body) a = moves_turns fuel t o A h F (Owns A m) (fuel + 1) e _ (agrees F m c e a.0) (moves_block fuel t o A h F (Owns A m) (owns_survives A F m f) _ (moves_all F rs m c f body a.1))
    moves_run F rs m c f (Loop' x p q cap body) a =
        moves_two fuel t o A h F (Owns A m) p q _ (agrees F m c p a.0) (agrees F m c q a.1)
        (λ i j. moves_iterate fuel t o A h F (Owns A m) (Owns A m) (owns_survives A F m f) (λ z. ⊤) (λ z u. tt) x.text.items _ (goes.plain x.text.items a.2.0) (λ z u us w. owns_declare A m us x.text.items z a.2.1 w) (moves_all F rs m c f body a.3) (int_gap i j) [] [] i tt)
    moves_run F rs m c f (Par' place x p q cap carries reduces cap2 body) a =
        moves_two fuel t o A h F (Owns A m) p q _ (agrees F m c p a.0) (agrees F m c q a.1)
        (λ i j. moves_wide F (Owns A m) (too_wide i j) place _ (moves_caught fuel t o A h F (Owns A m) (left_in body) _
        (moves_iterate fuel t o A h F (Owns A m) (Owns A (inner_modes carries.items x.text.items m)) (owns_survives A F m f) (λ z. ⊤) (λ z u. tt) x.text.items _ (goes.plain x.text.items a.2.0)
        (λ z u us w. inner_owns A m us x.text.items z a.2.1 w carries.items a.3)
        (moves_weaken fuel t o A h F (AndVar F x.text.items) (λ z. inl) (Owns A (inner_modes carries.items x.text.items m)) _ (moves_all (AndVar F x.text.items) reduces.items (inner_modes carries.items x.text.items m) (inner_clear A m x.text.items c carries.items a.3) (inner_all (AndVar F x.text.items) m x.text.items (inr refl) (modes_and F x.text.items m f) carries.items a.3) body a.4)) (int_gap i j) (Chance ∷ []) [] i tt)
        (λ n. moves_set_left F m f (left_in body) n a.5)))
    moves_run F rs m c f (Fold x e) a = moves_given fuel t o A h F (Owns A m) e _ (agrees F m c e a.0) (λ n. moves_fold F m f x.text.items n (operator_of rs x.text.items) a.1 a.2)
    moves_run F rs m c f (Call x g) a =
        moves_given_all fuel t o A h F (Owns A m) g.args.items _ (all_agree F m c g.args.items a.0)
        (λ ns. moves_with_call fuel t o A h F (Owns A m) (call g.callee.text.items g.callee.place ns []) _ (calls g.callee.text.items a.1 g.callee.place ns []) (λ n. moves_assign F m f x.text.items n a.2))
    moves_run F rs m c f (Both x f1 y g1) a =
        moves_given_all fuel t o A h F (Owns A m) f1.args.items _ (all_agree F m c f1.args.items a.0) (λ ns. moves_given_all fuel t o A h F (Owns A m) g1.args.items _ (all_agree F m c g1.args.items a.1) (λ ms.
        moves_with_call fuel t o A h F (Owns A m) (call f1.callee.text.items f1.callee.place ns (Chance ∷ [])) _ (calls f1.callee.text.items a.2 f1.callee.place ns (Chance ∷ []))
        (λ i. moves_with_call fuel t o A h F (Owns A m) (call g1.callee.text.items g1.callee.place ms []) _ (calls g1.callee.text.items a.3 g1.callee.place ms [])
        (λ j. moves_vars F (Owns A m) (λ vs. assign (assign vs x.text.items i) y.text.items j)
        (λ us. keeps_two F us x.text.items y.text.items i j a.4.1 a.5.1)
        (λ us. ap (λ vs. assign vs y.text.items j) (bent_assign h us x.text.items i (goes.plain x.text.items a.4.0)) ∙ bent_assign h (assign us x.text.items i) y.text.items j (goes.plain y.text.items a.5.0))
        (λ us w. owns_assign A F m (assign us x.text.items i) y.text.items j a.5.1 f (owns_assign A F m us x.text.items i a.4.1 f w))))))
    moves_run F rs m c f (Print place e) a = absurd a
    moves_run F rs m c f (Emit place x) a = absurd a
    moves_run F rs m c f (Leave x e) a = moves_given fuel t o A h F (Owns A m) e _ (agrees F m c e a) (λ n. moves_left fuel t o A h F (Owns A m) n)
    moves_run F rs m c f (Fill g x r es) a = moves_done fuel t o A h F (Owns A m)

    pub moves_all : {n : _} → (F : List ℕ → Type 0) → (rs : List Reduce) (m : Modes) → Clear A m → AllOfModes F m → (b : Row_of-Stmt n) → AllKeep zs Safe F rs m b → Moves fuel t o A h F (Owns A m) (run_all (at rs) b)
    moves_all F rs m c f end_of-Stmt a = moves_done fuel t o A h F (Owns A m)
    moves_all F rs m c f (more_of-Stmt first rest) a = moves_seq fuel t o A h F (Owns A m) (run (at rs) first) (run_all (at rs) rest) (moves_run F rs m c f first a.0) (moves_all F rs m c f rest a.1)

  pub moves_list : (F : List ℕ → Type 0) → (rs : List Reduce) (m : Modes) → Clear A m → AllOfModes F m → (b : List Stmt) → ListKeeps zs Safe F rs m b → Moves fuel t o A h F (Owns A m) (run_list (at rs) b)
  moves_list F rs m c f [] a = moves_done fuel t o A h F (Owns A m)
  moves_list F rs m c f (s ∷ ss) a = moves_seq fuel t o A h F (Owns A m) (run (at rs) s) (run_list (at rs) ss) (moves_run F rs m c f s a.0) (moves_list F rs m c f ss a.1)
