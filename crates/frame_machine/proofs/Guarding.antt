-- Runs that read and write only the cells that are theirs, change no variable that is fixed, and show nothing.
use Rattle.frame_machine.proofs.Bends.{Keeps, keeps_declare, keeps_length, keeps_refl, keeps_take}
use Rattle.frame_machine.proofs.Bends.{keeps_trans, keeps_weaken, name_is}
use Rattle.frame_machine.proofs.Following.{GoesOn, goes_done, goes_left}
use Rattle.frame_machine.proofs.Tables.{agree_refl, agree_trans, table_other, table_written}
use Rattle.frame_machine.proofs.Values.{notes_append}
use Rattle.frame_machine.specs.Parts.{AgreeAt, AgreeOn, Cells, NotesKeep, Outside}
use Rattle.loop_meaning.proofs.Ticks.{tick_allowed, tick_refused}
use Rattle.loop_meaning.specs.Calls.{enter}
use Rattle.loop_meaning.specs.Expressions.{eval}
use Rattle.loop_meaning.specs.Leaving.{caught, caught_by}
use Rattle.loop_meaning.specs.State.{Note, Ran, State, after, assign, cell_number, declare, done}
use Rattle.loop_meaning.specs.State.{go_on, has_cell, is_below, leave_block, left_with, noted}
use Rattle.loop_meaning.specs.State.{table_of, tick}
use Rattle.loop_meaning.specs.State.{with_cell, write_cell}
use Rattle.loop_meaning.specs.Statements.{Called, block, choose, given, given_answer, iterate}
use Rattle.loop_meaning.specs.Statements.{iteration, put_cell, turns, unless_wide, with_call}
use Rattle.loop_meaning.specs.declared.value.Answer.{Answer}
use Rattle.loop_meaning.specs.declared.value.Answer.TheVariants.{Number, Traps}
use Rattle.loop_meaning.specs.declared.value.Variable.{Variable}
use Rattle.loop_syntax.specs.declared.Expr.{Expr}
use Rattle.loop_syntax.specs.declared.Name.{Name}
use Rattle.std.specs.Prelude.{⊤}
use Rattle.std.proofs.Common.{None, Option, Some}
use Rattle.std.proofs.Common.{Bool, List, [], ap, arith, bytes_eq, false, length, nat_lt, negsuc}
use Rattle.std.proofs.Common.{pos, refl, subst, suc, sym, take, true, unsigned_abs, zero, ℕ, ℤ}
use Rattle.std.proofs.Common.{⊎_elim, ◌&&◌, ◌*◌, ◌+ℤ◌, ◌+◌, ◌<◌, ◌∙◌, ◌≡◌, ◌≤◌}
use Rattle.std.proofs.lemmas.Bool.{cases_eq, cases_lt}
use Rattle.std.proofs.lemmas.Bool.Decides.{nat_tests}
use Rattle.std.proofs.lemmas.List.{get_or-set_other, length-set}
use Rattle.std.proofs.lemmas.Nat.{mul-add-lt}
use Rattle.std.proofs.lemmas.Slice.Eq.{bytes_eq-Decides}
use Rattle.tp_value.specs.declared.Place.{Place}
use Rattle.tp_value.specs.declared.Stop.{Stop}
use Rattle.tp_value.specs.declared.Stop.TheVariants.{Done, NoFuel, Trap}
use Rattle.tp_value.specs.declared.Stop.TheVariants as stop
use Rattle.tp_value.specs.declared.Table.{Table}
use Rattle.tp_value.specs.declared.TrapKind.{TrapKind}
use Rattle.tp_value.specs.declared.TrapKind.TheVariants.{Index, Wide}

-- ---- one write

below_pos : (i : ℤ) (n : ℕ) → is_below i n ≡ true → (k : ℕ) × (i ≡ pos k) × (k < n)
below_pos (pos k) n h = (k, refl, (grind (arith, nat_tests)))
below_pos (negsuc k) n h = absurd (cc)

and_left : (a b : Bool) → (a && b) ≡ true → a ≡ true
and_left true b h = refl
and_left false b h = h

and_right : (a b : Bool) → (a && b) ≡ true → b ≡ true
and_right true b h = h
and_right false b h = absurd (let z : false ≡ true = h in cc)

number_apart : (c i j k l : ℕ) → j < c → l < c → i * c + j ≡ k * c + l → (i ≡ k) × (j ≡ l)
number_apart c i j k l p q e = ⊎_elim
    (λ (h : i ≡ k). (h, (let f : i * c ≡ k * c = ap (λ z. z * c) h in omega (arith, e, f))))
    (λ (h : i ≡ k → ⊥). ⊎_elim
    (λ (lt : i < k). absurd (let f = mul-add-lt i c j k lt p in omega (arith, e, f)))
    (λ (ge : k ≤ i). absurd (let f = mul-add-lt k c l i (omega (arith, ge, λ (z : i ≡ k). h z)) q in omega (arith, e, f)))
    (cases_lt i k))
    (cases_eq i k)

write_outside : (W : ℤ → ℤ → Type 0) (a : Table) (i j n : ℤ) → has_cell a i j ≡ true → W i j → AgreeAt (λ k l. W k l → ⊥) a (with_cell a i j n)
write_outside W a i j n h w = record {
  rows = refl;
  cols = refl;
  size = length-set a.cells (cell_number a i j) n;
  cells = λ k l out g. get_or-set_other a.cells (cell_number a i j) (cell_number a k l) n (pos 0) (λ e. out (same k l g (sym e)));
}
  where
    same : (k l : ℤ) → has_cell a k l ≡ true → cell_number a i j ≡ cell_number a k l → W k l
    same k l g e =
        let p = below_pos i a.rows (and_left (is_below i a.rows) (is_below j a.cols) h) in
        let q = below_pos j a.cols (and_right (is_below i a.rows) (is_below j a.cols) h) in
        let r = below_pos k a.rows (and_left (is_below k a.rows) (is_below l a.cols) g) in
        let s = below_pos l a.cols (and_right (is_below k a.rows) (is_below l a.cols) g) in
        let f : p.0 * a.cols + q.0 ≡ r.0 * a.cols + s.0 = sym (ap (λ z. unsigned_abs z * a.cols + unsigned_abs j) p.1 ∙ ap (λ z. p.0 * a.cols + unsigned_abs z) q.1) ∙ e ∙ (ap (λ z. unsigned_abs z * a.cols + unsigned_abs l) r.1 ∙ ap (λ z. r.0 * a.cols + unsigned_abs z) s.1) in
        let both = number_apart a.cols p.0 q.0 r.0 s.0 q.2 s.2 f in
        let ik : i ≡ k = p.1 ∙ ap pos both.0 ∙ sym r.1 in
        let jl : j ≡ l = q.1 ∙ ap pos both.1 ∙ sym s.1 in
        subst (λ z. W k z) jl (subst (λ z. W z j) ik w)

pub write_guarded : (W : Cells) (us : List Table) (x : List ℕ) (i j n : ℤ) → has_cell (table_of us x) i j ≡ true → W x i j → AgreeOn (Outside W) us (write_cell us x i j n)
write_guarded W us x i j n h w y = go (bytes_eq x y) refl
  where
    go : (b : Bool) → bytes_eq x y ≡ b → AgreeAt (λ k l. W y k l → ⊥) (table_of us y) (table_of (write_cell us x i j n) y)
    go true e =
        subst (λ z. AgreeAt (λ k l. W z k l → ⊥) (table_of us z) (table_of (write_cell us x i j n) z)) (name_is x y e)
        (subst (λ q. AgreeAt (λ k l. W x k l → ⊥) (table_of us x) q) (sym (table_written us x i j n)) (write_outside (W x) (table_of us x) i j n h w))
    go false e =
        subst (λ q. AgreeAt (λ k l. W y k l → ⊥) (table_of us y) q) (sym (table_other us x y i j n (λ q. (let z : false ≡ true = sym e ∙ (bytes_eq-Decides x y).1 q in cc))))
        (agree_refl (Outside W) us y)

-- ---- runs from a state

module _ (R W : Cells) where
  -- what a call from u leaves
  pub record KeptCall (u : State) (c : Called) : Type 0 where
    pub vars : GoesOn c.ran.stop → c.ran.state.vars ≡ u.vars
    pub tables : GoesOn c.ran.stop → AgreeOn (Outside W) u.tables c.ran.state.tables
    pub notes : NotesKeep R W c.ran.notes
    pub output : c.ran.state.output ≡ u.output

  module _ (F : List ℕ → Type 0) where
    -- what a run leaves after which the program goes on; the claim is about its variables
    pub record Left (I : List Variable → Type 0) (u w : State) : Type 0 where
      pub keeps : Keeps F u.vars w.vars
      pub claim : I w.vars
      pub tables : AgreeOn (Outside W) u.tables w.tables

    pub record Kept (I : List Variable → Type 0) (u : State) (r : Ran) : Type 0 where
      pub leaves : GoesOn r.stop → Left I u r.state
      pub notes : NotesKeep R W r.notes
      pub output : r.state.output ≡ u.output

    -- a claim that survives where the fixed variables are kept
    abbrev pub Lives : (List Variable → Type 0) → Type 0
    Lives I = (us vs : List Variable) → Keeps F us vs → length vs ≡ length us → I us → I vs

    -- from every state of which the claim holds
    abbrev pub Guards : (List Variable → Type 0) → (State → Ran) → Type 0
    Guards I act = (u : State) → I u.vars → Kept I u (act u)

    left_trans : (I : List Variable → Type 0) (u v w : State) → Left I u v → Left I v w → Left I u w
    left_trans I u v w p q = record { keeps = keeps_trans F u.vars v.vars w.vars p.keeps q.keeps; claim = q.claim; tables = agree_trans (Outside W) u.tables v.tables w.tables p.tables q.tables }

    pub kept_done : (I : List Variable → Type 0) (u : State) → I u.vars → Kept I u (done u)
    kept_done I u i = record { leaves = λ d. record { keeps = keeps_refl F u.vars; claim = i; tables = agree_refl (Outside W) u.tables }; notes = tt; output = refl }

    -- a change of the variables alone
    pub kept_vars : (I : List Variable → Type 0) (f : List Variable → List Variable) (u : State) → Keeps F u.vars (f u.vars) → I (f u.vars) → Kept I u (done (record u { vars = f u.vars }))
    kept_vars I f u k i = record { leaves = λ d. record { keeps = k; claim = i; tables = agree_refl (Outside W) u.tables }; notes = tt; output = refl }

    pub kept_trap : (I : List Variable → Type 0) (k : TrapKind) (p : Place) (ns : List Note) (u : State) → NotesKeep R W ns → Kept I u (record { stop = Trap k p; state = u; notes = ns })
    kept_trap I k p ns u h = record { leaves = λ d. absurd d; notes = h; output = refl }

    pub kept_left : (I : List Variable → Type 0) (n : ℤ) (u : State) → I u.vars → Kept I u (left_with n u)
    kept_left I n u i = record { leaves = λ d. record { keeps = keeps_refl F u.vars; claim = i; tables = agree_refl (Outside W) u.tables }; notes = tt; output = refl }

    pub kept_noted : (I : List Variable → Type 0) (ns : List Note) (u : State) (r : Ran) → NotesKeep R W ns → Kept I u r → Kept I u (noted ns r)
    kept_noted I ns u r h p = record { leaves = p.leaves; notes = notes_append R W ns r.notes h p.notes; output = p.output }

    pub kept_after : (I : List Variable → Type 0) (u : State) (r : Ran) (g : State → Ran) → Kept I u r → Guards I g → Kept I u (after r g)
    kept_after I u r g p q = go r.stop refl
      where
        go : (x : Stop) → r.stop ≡ x → Kept I u (go_on x r g)
        go Done e =
            let l = p.leaves (goes_done e) in
            let k = q r.state l.claim in
            record {
              leaves = λ d. left_trans I u r.state (g r.state).state l (k.leaves d);
              notes = notes_append R W r.notes (g r.state).notes p.notes k.notes;
              output = k.output ∙ p.output;
            }
        go (stop.Left n) e = p
        go (Trap k l) e = p
        go NoFuel e = p

    pub kept_given : (I : List Variable → Type 0) (e : Expr) (u : State) (f : ℤ → Ran) → NotesKeep R W (eval u.vars u.tables e).notes → ((n : ℤ) → (eval u.vars u.tables e).answer ≡ Number n → Kept I u (f n)) → Kept I u (given e u f)
    kept_given I e u f h p = go (eval u.vars u.tables e).answer refl
      where
        go : (a : Answer) → (eval u.vars u.tables e).answer ≡ a → Kept I u (given_answer a (eval u.vars u.tables e).notes u f)
        go (Number n) q = kept_noted I (eval u.vars u.tables e).notes u (f n) h (p n q)
        go (Traps k l) q = kept_trap I k l (eval u.vars u.tables e).notes u h

    pub kept_choose : (I : List Variable → Type 0) (n : ℤ) (a b : State → Ran) → Guards I a → Guards I b → Guards I (choose n a b)
    kept_choose I (pos zero) a b p q = q
    kept_choose I (pos (suc n)) a b p q = p
    kept_choose I (negsuc n) a b p q = p

    pub kept_tick : (I : List Variable → Type 0) (fuel : ℕ) → Guards I (tick fuel)
    kept_tick I fuel u i = go (nat_lt u.ticks fuel) refl
      where
        go : (b : Bool) → nat_lt u.ticks fuel ≡ b → Kept I u (tick fuel u)
        go true e = subst (λ r. Kept I u r) (sym (tick_allowed fuel u e)) (record { leaves = λ d. record { keeps = keeps_refl F u.vars; claim = i; tables = agree_refl (Outside W) u.tables }; notes = tt; output = refl })
        go false e = subst (λ r. Kept I u r) (sym (tick_refused fuel u e)) (record { leaves = λ d. absurd d; notes = tt; output = refl })

    -- a block in which another claim holds, from the state v
    pub kept_inner : (I J : List Variable → Type 0) → Lives I → (u v : State) (r : Ran) → I u.vars → Keeps F u.vars v.vars → AgreeOn (Outside W) u.tables v.tables → v.output ≡ u.output → Kept J v r → Kept I u (leave_block (length u.vars) r)
    kept_inner I J live u v r i k t o p = record {
      leaves = λ d. (let q = p.leaves d in let ks : Keeps F u.vars r.state.vars = keeps_trans F u.vars v.vars r.state.vars k q.keeps in record {
        keeps = keeps_take F u.vars r.state.vars ks;
        claim = live u.vars (take (length u.vars) r.state.vars) (keeps_take F u.vars r.state.vars ks) (keeps_length F u.vars r.state.vars ks) i;
        tables = agree_trans (Outside W) u.tables v.tables r.state.tables t q.tables;
      });
      notes = p.notes;
      output = p.output ∙ o;
    }

    pub kept_block : (I : List Variable → Type 0) → Lives I → (a : State → Ran) → Guards I a → Guards I (block a)
    kept_block I live a p u i = kept_inner I I live u u (a u) i (keeps_refl F u.vars) (agree_refl (Outside W) u.tables) refl (p u i)

    pub kept_turns : (I : List Variable → Type 0) (n fuel : ℕ) (e : Expr) (body : State → Ran) → ((u : State) → I u.vars → NotesKeep R W (eval u.vars u.tables e).notes) → Guards I body → Guards I (turns n fuel e body)
    unfolding turns
    kept_turns I zero fuel e body h p u i = record { leaves = λ d. absurd d; notes = tt; output = refl }
    kept_turns I (suc n) fuel e body h p u i =
        kept_given I e u (λ v. choose v (λ t. after (after (tick fuel t) body) (turns n fuel e body)) done u) (h u i)
        (λ v q. kept_choose I v (λ t. after (after (tick fuel t) body) (turns n fuel e body)) done
        (λ t j. kept_after I t (after (tick fuel t) body) (turns n fuel e body) (kept_after I t (tick fuel t) body (kept_tick I fuel t j) p) (kept_turns I n fuel e body h p))
        (kept_done I) u i)

    pub kept_iteration : (I J : List Variable → Type 0) → Lives I → (fuel : ℕ) (x : List ℕ) (body : State → Ran) (ns : List Note) (i : ℤ) → NotesKeep R W ns → ((us : List Variable) → I us → J (declare us x i)) → Guards J body → Guards I (iteration fuel x body ns i)
    kept_iteration I J live fuel x body ns i h enter p u c = go (nat_lt u.ticks fuel) refl
      where
        go : (b : Bool) → nat_lt u.ticks fuel ≡ b → Kept I u (iteration fuel x body ns i u)
        go true e =
            let v : State = record u { vars = declare u.vars x i; ticks = u.ticks + 1 } in
            subst (λ r. Kept I u (leave_block (length u.vars) (after r (λ t. noted ns (body (record t { vars = declare t.vars x i })))))) (sym (tick_allowed fuel u e))
            (kept_inner I J live u v (noted ns (body v)) c (keeps_declare F u.vars x i) (agree_refl (Outside W) u.tables) refl (kept_noted J ns v (body v) h (p v (enter u.vars c))))
        go false e =
            subst (λ r. Kept I u (leave_block (length u.vars) (after r (λ t. noted ns (body (record t { vars = declare t.vars x i })))))) (sym (tick_refused fuel u e))
            (record { leaves = λ d. absurd d; notes = tt; output = refl })

    -- n iterations, where P says which numbers may still come
    pub kept_iterate : (I J : List Variable → Type 0) → Lives I → (P : ℕ → ℤ → Type 0) → ((n : ℕ) (i : ℤ) → P (suc n) i → P n (i +ℤ pos 1)) → (fuel : ℕ) (x : List ℕ) (body : State → Ran) → ((n : ℕ) (i : ℤ) → P (suc n) i → (us : List Variable) → I us → J (declare us x i)) → Guards J body
        → (n : ℕ) (again ns : List Note) (i : ℤ) → NotesKeep R W again → NotesKeep R W ns → P n i → Guards I (iterate fuel x body again ns n i)
    unfolding iterate
    kept_iterate I J live P up fuel x body enter p zero again ns i a h q u c = kept_done I u c
    kept_iterate I J live P up fuel x body enter p (suc n) again ns i a h q u c =
        kept_after I u (iteration fuel x body ns i u) (iterate fuel x body again again n (i +ℤ pos 1))
        (kept_iteration I J live fuel x body ns i h (enter n i q) p u c)
        (kept_iterate I J live P up fuel x body enter p n again again (i +ℤ pos 1) a a (up n i q))

    -- what a `par` sets where it is left
    abbrev pub MaySet : (List Variable → Type 0) → Option (List ℕ) → Type 0
    MaySet I None = ⊤
    MaySet I (Some x) = (n : ℤ) (us : List Variable) → I us → Keeps F us (assign us x n) × I (assign us x n)

    pub kept_caught : (I : List Variable → Type 0) (u : State) (target : Option (List ℕ)) (r : Ran) → Kept I u r → MaySet I target → Kept I u (caught target r)
    kept_caught I u target r p set = go r.stop refl target set
      where
        go : (x : Stop) → r.stop ≡ x → (target : Option (List ℕ)) → MaySet I target → Kept I u (caught_by x target r)
        go (stop.Left n) e None m = record { leaves = λ d. p.leaves (goes_left n e); notes = p.notes; output = p.output }
        go (stop.Left n) e (Some x) m =
            let q = p.leaves (goes_left n e) in
            let s = m n r.state.vars q.claim in record {
              leaves = λ d. record { keeps = keeps_trans F u.vars r.state.vars (assign r.state.vars x n) q.keeps s.0; claim = s.1; tables = q.tables };
              notes = p.notes;
              output = p.output;
            }
        go Done e target m = p
        go (Trap k l) e target m = p
        go NoFuel e target m = p

    pub kept_with_call : (I : List Variable → Type 0) (u : State) (c : Called) (g : ℤ → State → Ran) → I u.vars → KeptCall u c → ((n : ℤ) → Guards I (g n)) → Kept I u (with_call c g)
    kept_with_call I u c g i p q = kept_after I u c.ran (g c.value)
        (record {
          leaves = λ d. record { keeps = subst (λ vs. Keeps F u.vars vs) (sym (p.vars d)) (keeps_refl F u.vars); claim = subst I (sym (p.vars d)) i; tables = p.tables d };
          notes = p.notes;
          output = p.output;
        })
        (q c.value)

    pub kept_wide : (I : List Variable → Type 0) (b : Bool) (p : Place) (f : State → Ran) → Guards I f → Guards I (unless_wide b p f)
    kept_wide I true p f q u i = kept_trap I Wide p [] u tt
    kept_wide I false p f q u i = q u i

    pub kept_put : (I : List Variable → Type 0) (x : Name) (i j n : ℤ) (u : State) → I u.vars → W x.text.items i j → Kept I u (put_cell x i j n u)
    kept_put I x i j n u c w = go (has_cell (table_of u.tables x.text.items) i j) refl
      where
        go : (b : Bool) → has_cell (table_of u.tables x.text.items) i j ≡ b → Kept I u (put_cell x i j n u)
        go true q = rw (q, put_cell) (record { leaves = λ d. record { keeps = keeps_refl F u.vars; claim = c; tables = write_guarded W u.tables x.text.items i j n q w }; notes = (w, tt); output = refl })
        go false q = rw (q, put_cell) (kept_trap I Index x.place [] u tt)

  -- where fewer variables are fixed
  pub kept_weaken : (F G : List ℕ → Type 0) → ((x : List ℕ) → F x → G x) → (I : List Variable → Type 0) (u : State) (r : Ran) → Kept G I u r → Kept F I u r
  kept_weaken F G w I u r p = record {
    leaves = λ d. (let q = p.leaves d in record { keeps = keeps_weaken F G w u.vars r.state.vars q.keeps; claim = q.claim; tables = q.tables });
    notes = p.notes;
    output = p.output;
  }
