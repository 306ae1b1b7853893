-- Two runs: the second is over other tables that are seen alike, and with more ticks and more output before it.
use Rattle.std.proofs.Common.{◌≡◌, ◌<◌, ◌≤◌, ◌+◌, ◌++◌, ◌∷◌, [], ℕ, zero, suc, ℤ, pos, negsuc, ◌+ℤ◌}
use Rattle.std.proofs.Common.{List, Option, Some, None, Bool, true, false, nat_lt, length, take}
use Rattle.std.proofs.Common.{Contains, ◌⊎◌, inl}
use Rattle.std.proofs.Common.{inr, refl, sym, ap, subst, ◌∙◌, append_assoc, arith}
use Rattle.std.proofs.lemmas.Bool.{ltb-true, ltb-false}
use Rattle.std.proofs.lemmas.Bool.Decides.{nat_tests}
use native.Mathlib.Decide.{dec_lt, ℕ_discrete}
use Rattle.tp_value.specs.declared.Place.{Place}
use Rattle.tp_value.specs.declared.TrapKind.{TrapKind}
use Rattle.tp_value.specs.declared.TrapKind.TheVariants.{Index, Wide}
use Rattle.tp_value.specs.declared.Stop.{Stop}
use Rattle.tp_value.specs.declared.Stop.TheVariants.{Done, Left, Trap, NoFuel}
use Rattle.tp_value.specs.declared.Table.{Table}
use Rattle.loop_syntax.specs.declared.Name.{Name}
use Rattle.loop_syntax.specs.declared.Expr.{Expr}
use Rattle.loop_meaning.specs.declared.value.Answer.{Answer}
use Rattle.loop_meaning.specs.declared.value.Answer.TheVariants.{Number, Traps}
use Rattle.loop_meaning.specs.declared.value.Variable.{Variable}
use Rattle.loop_meaning.specs.State.{declare, table_of, has_cell, write_cell, print_table, State}
use Rattle.loop_meaning.specs.State.{Note, Emits, Ran, done, left_with, trapped, out_of_fuel, noted}
use Rattle.loop_meaning.specs.State.{after}
use Rattle.loop_meaning.specs.State.{go_on, tick, leave_block}
use Rattle.loop_meaning.specs.Expressions.{Value, eval}
use Rattle.loop_meaning.specs.Leaving.{caught_by, caught}
use Rattle.loop_meaning.specs.Statements.{given, given_answer, given_two, given_all, put_cell}
use Rattle.loop_meaning.specs.Statements.{choose, turns, iteration, iterate, unless_wide}
use Rattle.loop_meaning.specs.Cells.{Cell, write_cells}
use Rattle.loop_meaning.specs.Told.{shapes, number_at, SeenAlike, Spent}
use Rattle.loop_meaning.proofs.Ticks.{tick_allowed, tick_refused}
use Rattle.loop_meaning.proofs.WrittenCells.{shapes_written, has_at, number_set, number_alike}
use Rattle.loop_meaning.proofs.WrittenCells.{table_alike}
use Rattle.loop_meaning.proofs.Seen.{NoWrites, no_writes_none, seen_front, seen_back, eval_same}
use Rattle.loop_meaning.proofs.Seen.{eval_writes, writes_cases, emit_seen, only_cell}

module _ (fuel t : ℕ) (o : List ℕ) where
  -- with so many ticks a run may be moved
  abbrev pub Within : ℕ → Type 0
  Within n = (t ≡ 0) ⊎ (n + t ≤ fuel)

  abbrev pub shift : List Table → State → State
  shift us s = record { vars = s.vars; tables = us; output = o ++ s.output; ticks = s.ticks + t }

  abbrev pub over : List Table → Ran → Ran
  over us r = record { stop = r.stop; state = shift us r.state; notes = r.notes }

  -- q is the run r, moved and over other tables: us stood in place of ts, and `end` is what it leaves
  pub record Like (ts us : List Table) (r q : Ran) : Type 0 where
    pub end : List Table
    pub same : q ≡ over end r
    pub sizes : shapes r.state.tables ≡ shapes end
    pub stays : (c : Cell) → number_at ts c ≡ number_at us c → number_at r.state.tables c ≡ number_at end c
    pub tables : (x : List ℕ) → table_of ts x ≡ table_of us x → table_of r.state.tables x ≡ table_of end x
    pub written : (c : Cell) → Contains (write_cells r.notes) c → number_at r.state.tables c ≡ number_at end c
    pub whole : ts ≡ us → r.state.tables ≡ end

  abbrev pub Twin : List Table → List Table → Ran → Ran → Type 0
  Twin ts us r q = (Within r.state.ticks × Like ts us r q) ⊎ ((Within r.state.ticks → ⊥) × Spent fuel q)

  -- ticks don't fall, a run that is done is within the fuel, and one beyond it has stopped there
  pub record Goes (f : State → Ran) : Type 0 where
    pub later : (s : State) → s.ticks ≤ fuel → s.ticks ≤ (f s).state.ticks
    pub stops : (s : State) → s.ticks ≤ fuel → (f s).stop ≡ Done → (f s).state.ticks ≤ fuel
    pub spends : (s : State) → s.ticks ≤ fuel → fuel < (f s).state.ticks → Spent fuel (f s)

  pub record Twins (f : State → Ran) : Type 0 where
    pub goes : Goes f
    pub twin : (s : State) (us : List Table) → Within s.ticks → SeenAlike (f s).notes s.tables us → Twin s.tables us (f s) (f (shift us s))

  -- ---- a state alone

  goes_still : (f : State → Ran) → ((s : State) → (f s).state.ticks ≡ s.ticks) → Goes f
  goes_still f h = record {
    later = λ s l. let e : (f s).state.ticks ≡ s.ticks = h s in omega arith;
    stops = λ s l d. let e : (f s).state.ticks ≡ s.ticks = h s in omega arith;
    spends = λ s l m. let e : (f s).state.ticks ≡ s.ticks = h s in absurd (omega arith);
  }

  still : (s : State) (us : List Table) (r : Ran) → r.state.tables ≡ s.tables → Within r.state.ticks → NoWrites r.notes → shapes s.tables ≡ shapes us → (q : Ran) → q ≡ over us r → Twin s.tables us r q
  still s us r e w n h q same = inl (
    w,
    record {
      end = us;
      same = same;
      sizes = ap shapes e ∙ h;
      stays = λ c k. ap (λ ts. number_at ts c) e ∙ k;
      tables = λ x k. ap (λ ts. table_of ts x) e ∙ k;
      written = λ c k. absurd (n c k);
      whole = λ k. e ∙ k;
    },
  )

  pub twins_vars : (g : List Variable → List Variable) → Twins (λ s. done (record s { vars = g s.vars }))
  twins_vars g = record {
    goes = goes_still _ (λ s. refl);
    twin = λ s us w h. still s us (done (record s { vars = g s.vars })) refl w no_writes_none h.sizes _ refl;
  }

  pub twins_done : Twins done
  twins_done = twins_vars (λ vs. vs)

  pub twins_print : (more : List ℕ) → Twins (λ s. done (record s { output = s.output ++ more }))
  twins_print more = record {
    goes = goes_still _ (λ s. refl);
    twin = λ s us w h. still s us (done (record s { output = s.output ++ more })) refl w no_writes_none h.sizes _
        (ap (λ z. done (record { vars = s.vars; tables = us; output = z; ticks = s.ticks + t })) (append_assoc o s.output more));
  }

  pub twins_emit : (x : List ℕ) → Twins (λ s. noted (Emits x ∷ []) (done (print_table (table_of s.tables x) s)))
  twins_emit x = record {
    goes = goes_still _ (λ s. refl);
    twin = λ s us w h.
        still s us (noted (Emits x ∷ []) (done (print_table (table_of s.tables x) s))) refl w no_writes_none h.sizes _
        (ap (λ z. noted (Emits x ∷ []) (done (print_table z (shift us s)))) (sym (emit_seen x s.tables us h))
        ∙ ap (λ z. noted (Emits x ∷ []) (done (record { vars = s.vars; tables = us; output = z; ticks = s.ticks + t }))) (append_assoc o s.output _));
  }

  pub twins_trap : (k : TrapKind) (p : Place) → Twins (trapped k p)
  twins_trap k p = record {
    goes = goes_still _ (λ s. refl);
    twin = λ s us w h. still s us (trapped k p s) refl w no_writes_none h.sizes _ refl;
  }

  pub twins_left : (n : ℤ) → Twins (left_with n)
  twins_left n = record {
    goes = goes_still _ (λ s. refl);
    twin = λ s us w h. still s us (left_with n s) refl w no_writes_none h.sizes _ refl;
  }

  pub twins_put : (x : Name) (i j n : ℤ) → Twins (put_cell x i j n)
  twins_put x i j n = record {
    goes = goes_still _ (λ s. ticks s (has_cell (table_of s.tables x.text.items) i j) refl);
    twin = λ s us w h. go s us w h.sizes (has_cell (table_of s.tables x.text.items) i j) refl;
  }
    where
      ticks : (s : State) (b : Bool) → has_cell (table_of s.tables x.text.items) i j ≡ b → (put_cell x i j n s).state.ticks ≡ s.ticks
      ticks s true e = rw (e, put_cell) refl
      ticks s false e = rw (e, put_cell) refl

      go : (s : State) (us : List Table) → Within s.ticks → shapes s.tables ≡ shapes us → (b : Bool) → has_cell (table_of s.tables x.text.items) i j ≡ b → Twin s.tables us (put_cell x i j n s) (put_cell x i j n (shift us s))
      go s us w h true e =
          let f : has_cell (table_of us x.text.items) i j ≡ true = sym (has_at s.tables us x.text.items i j h) ∙ e in
          rw (e, f, put_cell) (inl (
            w,
            record {
              end = write_cell us x.text.items i j n;
              same = refl;
              sizes = shapes_written s.tables x.text.items i j n ∙ h ∙ sym (shapes_written us x.text.items i j n);
              stays = λ c k. number_alike s.tables us x.text.items i j n c h e k;
              tables = λ y k. table_alike s.tables us x.text.items y i j n k;
              written = λ c k. only_cell x.text.items i j (λ c. number_at (write_cell s.tables x.text.items i j n) c ≡ number_at (write_cell us x.text.items i j n) c) c k (number_set s.tables us x.text.items i j n h e);
              whole = λ k. ap (λ ts. write_cell ts x.text.items i j n) k;
            },
          ))
      go s us w h false e =
          let f : has_cell (table_of us x.text.items) i j ≡ false = sym (has_at s.tables us x.text.items i j h) ∙ e in
          rw (e, f, put_cell) (still s us (trapped Index x.place s) refl w no_writes_none h _ refl)

  -- ---- one after the other

  twin_noted : (ns : List Note) (ts us : List Table) (r q : Ran) → NoWrites ns → Twin ts us r q → Twin ts us (noted ns r) (noted ns q)
  twin_noted ns ts us r q n (inl h) = inl (
    h.0,
    record {
      end = h.1.end;
      same = ap (noted ns) h.1.same;
      sizes = h.1.sizes;
      stays = h.1.stays;
      tables = h.1.tables;
      written = λ c k. elim (writes_cases ns r.notes c k) [ inl a ↦ absurd (n c a) | inr b ↦ h.1.written c b ];
      whole = h.1.whole;
    },
  )
  twin_noted ns ts us r q n (inr h) = inr (h.0, record { stop = h.1.stop; ticks = h.1.ticks })

  pub twins_noted : (ns : List Note) (f : State → Ran) → NoWrites ns → Twins f → Twins (λ s. noted ns (f s))
  twins_noted ns f n p = record {
    goes = record {
      later = λ s l. p.goes.later s l;
      stops = λ s l e. p.goes.stops s l e;
      spends = λ s l m. let h = p.goes.spends s l m in record { stop = h.stop; ticks = h.ticks };
    };
    twin = λ s us w h. twin_noted ns s.tables us (f s) (f (shift us s)) n (p.twin s us w (seen_back ns (f s).notes s.tables us h));
  }

  -- the variables play no part in this
  pub twins_pre : (g : List Variable → List Variable) (f : State → Ran) → Twins f → Twins (λ s. f (record s { vars = g s.vars }))
  twins_pre g f p = record {
    goes = record {
      later = λ s l. p.goes.later (record s { vars = g s.vars }) l;
      stops = λ s l e. p.goes.stops (record s { vars = g s.vars }) l e;
      spends = λ s l m. p.goes.spends (record s { vars = g s.vars }) l m;
    };
    twin = λ s us w h. p.twin (record s { vars = g s.vars }) us w h;
  }

  -- the variables at the end are those that the state before and the run's own give
  pub twins_end : (g : List Variable → List Variable → List Variable) (f : State → Ran) → Twins f → Twins (λ s. record (f s) { state = record (f s).state { vars = g s.vars (f s).state.vars } })
  twins_end g f p = record {
    goes = record {
      later = λ s l. p.goes.later s l;
      stops = λ s l e. p.goes.stops s l e;
      spends = λ s l m. let h = p.goes.spends s l m in record { stop = h.stop; ticks = h.ticks };
    };
    twin = λ s us w h. go s us (p.twin s us w h);
  }
    where
      ends : State → Ran → Ran
      ends s r = record r { state = record r.state { vars = g s.vars r.state.vars } }

      go : (s : State) (us : List Table) → Twin s.tables us (f s) (f (shift us s)) → Twin s.tables us (ends s (f s)) (ends s (f (shift us s)))
      go s us (inl h) = inl (h.0, record { end = h.1.end; same = ap (ends s) h.1.same; sizes = h.1.sizes; stays = h.1.stays; tables = h.1.tables; written = h.1.written; whole = h.1.whole })
      go s us (inr h) = inr (h.0, record { stop = h.1.stop; ticks = h.1.ticks })

  -- where the first was done, and the whole is within, so is the first
  pub within_back : (s : State) (r : Ran) (b : State → Ran) → Within s.ticks → (s.ticks ≤ fuel → r.state.ticks ≤ fuel) → Goes b → Within (b r.state).state.ticks → Within r.state.ticks
  within_back s r b (inl z) k g v = inl z
  within_back s r b (inr l) k g (inl z) = inl z
  within_back s r b (inr l) k g (inr m) =
      let low : s.ticks ≤ fuel = omega arith in
      let le : r.state.ticks ≤ fuel = k low in
      let on : r.state.ticks ≤ (b r.state).state.ticks = g.later r.state le in
      inr (omega arith)

  spent_after : (q : Ran) (g : State → Ran) → Spent fuel q → Spent fuel (after q g)
  spent_after q g h = (let e : after q g ≡ q = ap (λ x. go_on x q g) h.stop in record { stop = ap (λ (z : Ran). z.stop) e ∙ h.stop; ticks = ap (λ (z : Ran). z.state.ticks) e ∙ h.ticks })

  spent_is : (q r : Ran) → q ≡ r → Spent fuel r → Spent fuel q
  spent_is q r e h = record { stop = ap (λ (z : Ran). z.stop) e ∙ h.stop; ticks = ap (λ (z : Ran). z.state.ticks) e ∙ h.ticks }

  pub seen_after : (r : Ran) (g : State → Ran) (ts us : List Table) → SeenAlike (after r g).notes ts us → SeenAlike r.notes ts us
  seen_after r g ts us = go r.stop
    where
      go : (x : Stop) → SeenAlike (go_on x r g).notes ts us → SeenAlike r.notes ts us
      go Done h = seen_front r.notes (g r.state).notes ts us h
      go (Left n) h = h
      go (Trap k p) h = h
      go NoFuel h = h

  pub seen_next : (ms : List Note) (ts us : List Table) (r q : Ran) (l : Like ts us r q) → SeenAlike ms ts us → SeenAlike ms r.state.tables l.end
  seen_next ms ts us r q l h = record { sizes = l.sizes; cells = λ c k. l.stays c (h.cells c k); tables = λ x k. l.tables x (h.tables x k) }

  goes_seq : (a b : State → Ran) → Goes a → Goes b → Goes (λ s. after (a s) b)
  goes_seq a b p q = record {
    later = λ s l. later s l (a s).stop refl;
    stops = λ s l e. stops s l (a s).stop refl e;
    spends = λ s l m. spends s l (a s).stop refl m;
  }
    where
      later : (s : State) → s.ticks ≤ fuel → (x : Stop) → (a s).stop ≡ x → s.ticks ≤ (go_on x (a s) b).state.ticks
      later s l Done e =
          let first : s.ticks ≤ (a s).state.ticks = p.later s l in
          let second : (a s).state.ticks ≤ (b (a s).state).state.ticks = q.later (a s).state (p.stops s l e) in
          omega arith
      later s l (Left n) e = p.later s l
      later s l (Trap k y) e = p.later s l
      later s l NoFuel e = p.later s l

      stops : (s : State) → s.ticks ≤ fuel → (x : Stop) → (a s).stop ≡ x → (go_on x (a s) b).stop ≡ Done → (go_on x (a s) b).state.ticks ≤ fuel
      stops s l Done e d = q.stops (a s).state (p.stops s l e) d
      stops s l (Left n) e d = p.stops s l d
      stops s l (Trap k y) e d = p.stops s l d
      stops s l NoFuel e d = p.stops s l d

      spends : (s : State) → s.ticks ≤ fuel → (x : Stop) → (a s).stop ≡ x → fuel < (go_on x (a s) b).state.ticks → Spent fuel (go_on x (a s) b)
      spends s l Done e m = (let h = q.spends (a s).state (p.stops s l e) m in record { stop = h.stop; ticks = h.ticks })
      spends s l (Left n) e m = p.spends s l m
      spends s l (Trap k y) e m = p.spends s l m
      spends s l NoFuel e m = p.spends s l m

  pub twins_seq : (a b : State → Ran) → Twins a → Twins b → Twins (λ s. after (a s) b)
  twins_seq a b p q = record { goes = goes_seq a b p.goes q.goes; twin = λ s us w h. go s us w (a s).stop refl h }
    where
      -- a run that stopped early is the whole
      ended : (s : State) (us : List Table) (x : Stop) → (a s).stop ≡ x → (go_on x (over us (a s)) b ≡ over us (a s)) → (r : Ran) → r ≡ over us (a s) → after r b ≡ over us (a s)
      ended s us x e f r h = ap (λ z. after z b) h ∙ ap (λ y. go_on y (over us (a s)) b) e ∙ f

      early : (s : State) (us : List Table) (x : Stop) → (a s).stop ≡ x → ((vs : List Table) → go_on x (over vs (a s)) b ≡ over vs (a s)) → Twin s.tables us (a s) (a (shift us s)) → Twin s.tables us (a s) (after (a (shift us s)) b)
      early s us x e f (inl h) = inl (
        h.0,
        record {
          end = h.1.end;
          same = ended s h.1.end x e (f h.1.end) (a (shift us s)) h.1.same;
          sizes = h.1.sizes;
          stays = h.1.stays;
          tables = h.1.tables;
          written = h.1.written;
          whole = h.1.whole;
        },
      )
      early s us x e f (inr h) = inr (h.0, spent_after (a (shift us s)) b h.1)

      whole : (s : State) → Ran
      whole s = noted (a s).notes (b (a s).state)

      second : (s : State) (us : List Table) → (a s).stop ≡ Done → (l : Like s.tables us (a s) (a (shift us s))) → Twin (a s).state.tables l.end (b (a s).state) (b (shift l.end (a s).state)) → Twin s.tables us (whole s) (after (a (shift us s)) b)
      second s us e l k = go k
        where
          on : after (a (shift us s)) b ≡ noted (a s).notes (b (shift l.end (a s).state))
          on = ap (λ z. after z b) l.same ∙ ap (λ y. go_on y (over l.end (a s)) b) e

          go : Twin (a s).state.tables l.end (b (a s).state) (b (shift l.end (a s).state)) → Twin s.tables us (whole s) (after (a (shift us s)) b)
          go (inl h) = inl (
            h.0,
            record {
              end = h.1.end;
              same = on ∙ ap (noted (a s).notes) h.1.same;
              sizes = h.1.sizes;
              stays = λ c z. h.1.stays c (l.stays c z);
              tables = λ x z. h.1.tables x (l.tables x z);
              written = λ c z. elim (writes_cases (a s).notes (b (a s).state).notes c z) [ inl y ↦ h.1.stays c (l.written c y) | inr y ↦ h.1.written c y ];
              whole = λ z. h.1.whole (l.whole z);
            },
          )
          go (inr h) = inr (h.0, spent_is _ _ on (record { stop = h.1.stop; ticks = h.1.ticks }))

      first : (s : State) (us : List Table) → Within s.ticks → (a s).stop ≡ Done → SeenAlike (whole s).notes s.tables us → Twin s.tables us (a s) (a (shift us s)) → Twin s.tables us (whole s) (after (a (shift us s)) b)
      first s us w e h (inl k) =
          second s us e k.1 (q.twin (a s).state k.1.end k.0 (seen_next (b (a s).state).notes s.tables us (a s) (a (shift us s)) k.1 (seen_back (a s).notes (b (a s).state).notes s.tables us h)))
      first s us w e h (inr k) = inr (λ v. k.0 (within_back s (a s) b w (λ l. p.goes.stops s l e) q.goes v), spent_after (a (shift us s)) b k.1)

      go : (s : State) (us : List Table) → Within s.ticks → (x : Stop) → (a s).stop ≡ x → SeenAlike (go_on x (a s) b).notes s.tables us → Twin s.tables us (go_on x (a s) b) (after (a (shift us s)) b)
      go s us w Done e h = first s us w e h (p.twin s us w (seen_front (a s).notes (b (a s).state).notes s.tables us h))
      go s us w (Left n) e h = early s us (Left n) e (λ vs. refl) (p.twin s us w h)
      go s us w (Trap k y) e h = early s us (Trap k y) e (λ vs. refl) (p.twin s us w h)
      go s us w NoFuel e h = early s us NoFuel e (λ vs. refl) (p.twin s us w h)

  -- ---- a `par` that catches its iterations

  caught_over : (target : Option (List ℕ)) (us : List Table) (r : Ran) → caught target (over us r) ≡ over us (caught target r)
  caught_over target us r = go r.stop target
    where
      go : (x : Stop) (target : Option (List ℕ)) → caught_by x target (over us r) ≡ over us (caught_by x target r)
      go (Left n) (Some y) = refl
      go (Left n) None = refl
      go Done target = refl
      go (Trap k p) target = refl
      go NoFuel target = refl

  -- catching changes the stop and the variables alone
  caught_keeps : (P : List Table → ℕ → List Note → Type 0) (target : Option (List ℕ)) (r : Ran) → P r.state.tables r.state.ticks r.notes → P (caught target r).state.tables (caught target r).state.ticks (caught target r).notes
  caught_keeps P target r h = go r.stop target
    where
      go : (x : Stop) (target : Option (List ℕ)) → P (caught_by x target r).state.tables (caught_by x target r).state.ticks (caught_by x target r).notes
      go (Left n) (Some y) = h
      go (Left n) None = h
      go Done target = h
      go (Trap k p) target = h
      go NoFuel target = h

  spent_caught : (target : Option (List ℕ)) (q : Ran) → Spent fuel q → Spent fuel (caught target q)
  spent_caught target q h = spent_is (caught target q) q (ap (λ x. caught_by x target q) h.stop) h

  goes_caught : (target : Option (List ℕ)) (f : State → Ran) → Goes f → Goes (λ s. caught target (f s))
  goes_caught target f p = record {
    later = λ s l. caught_keeps (λ ts n ns. s.ticks ≤ n) target (f s) (p.later s l);
    stops = λ s l d. stops s l (f s).stop refl target d;
    spends = λ s l m. spent_caught target (f s) (p.spends s l (high s m));
  }
    where
      high : (s : State) → fuel < (caught target (f s)).state.ticks → fuel < (f s).state.ticks
      high s = caught_keeps (λ ts n ns. fuel < n → fuel < (f s).state.ticks) target (f s) (λ m. m)

      within : (s : State) → s.ticks ≤ fuel → (n : ℤ) → (f s).stop ≡ Left n → Dec (fuel < (f s).state.ticks) → (f s).state.ticks ≤ fuel
      within s l n e (yes m) = absurd (let c : Left n ≡ NoFuel = sym e ∙ (p.spends s l m).stop in cc)
      within s l n e (no m) = omega arith

      stops : (s : State) → s.ticks ≤ fuel → (x : Stop) → (f s).stop ≡ x → (target : Option (List ℕ)) → (caught_by x target (f s)).stop ≡ Done → (caught_by x target (f s)).state.ticks ≤ fuel
      stops s l (Left n) e (Some y) d = within s l n e (dec_lt fuel (f s).state.ticks)
      stops s l (Left n) e None d = within s l n e (dec_lt fuel (f s).state.ticks)
      stops s l Done e target d = p.stops s l d
      stops s l (Trap k y) e target d = p.stops s l d
      stops s l NoFuel e target d = p.stops s l d

  pub twins_caught : (target : Option (List ℕ)) (f : State → Ran) → Twins f → Twins (λ s. caught target (f s))
  twins_caught target f p = record {
    goes = goes_caught target f p.goes;
    twin = λ s us w h. go s us (p.twin s us w (caught_keeps (λ ts n ns. SeenAlike ns s.tables us → SeenAlike (f s).notes s.tables us) target (f s) (λ k. k) h));
  }
    where
      go : (s : State) (us : List Table) → Twin s.tables us (f s) (f (shift us s)) → Twin s.tables us (caught target (f s)) (caught target (f (shift us s)))
      go s us (inl h) =
          let r : Ran = f s in
          let end : List Table = h.1.end in
          let k = caught_keeps (λ vs n ns. Within n × (shapes vs ≡ shapes end)
          × ((c : Cell) → number_at s.tables c ≡ number_at us c → number_at vs c ≡ number_at end c)
          × ((x : List ℕ) → table_of s.tables x ≡ table_of us x → table_of vs x ≡ table_of end x)
          × ((c : Cell) → Contains (write_cells ns) c → number_at vs c ≡ number_at end c)
          × (s.tables ≡ us → vs ≡ end)) target r (h.0, h.1.sizes, h.1.stays, h.1.tables, h.1.written, h.1.whole) in
          inl (k.0, record { end = end; same = ap (caught target) h.1.same ∙ caught_over target end r; sizes = k.1; stays = k.2; tables = k.3; written = k.4; whole = k.5 })
      go s us (inr h) = inr (caught_keeps (λ ts n ns. Within n → ⊥) target (f s) h.0, spent_caught target (f (shift us s)) h.1)

  -- ---- numbers of expressions

  pub seen_given : (e : Expr) (s : State) (f : ℤ → Ran) (us : List Table) → SeenAlike (given e s f).notes s.tables us → SeenAlike (eval s.vars s.tables e).notes s.tables us
  seen_given e s f us = go (eval s.vars s.tables e).answer
    where
      go : (a : Answer) → SeenAlike (given_answer a (eval s.vars s.tables e).notes s f).notes s.tables us → SeenAlike (eval s.vars s.tables e).notes s.tables us
      go (Number n) h = seen_front (eval s.vars s.tables e).notes (f n).notes s.tables us h
      go (Traps k p) h = h

  pub twins_given : (e : Expr) (f : ℤ → State → Ran) → ((n : ℤ) → Twins (f n)) → Twins (λ s. given e s (λ n. f n s))
  twins_given e f p = record {
    goes = record {
      later = λ s l. later s l (eval s.vars s.tables e).answer;
      stops = λ s l d. stops s l (eval s.vars s.tables e).answer d;
      spends = λ s l m. spends s l (eval s.vars s.tables e).answer m;
    };
    twin = λ s us w h.
        subst (λ (z : Value). Twin s.tables us (given e s (λ n. f n s)) (given_answer z.answer z.notes (shift us s) (λ n. f n (shift us s))))
        (sym (eval_same s.vars s.tables us e (seen_given e s (λ n. f n s) us h))) (go s us w (eval s.vars s.tables e).answer h);
  }
    where
      later : (s : State) → s.ticks ≤ fuel → (a : Answer) → s.ticks ≤ (given_answer a (eval s.vars s.tables e).notes s (λ n. f n s)).state.ticks
      later s l (Number n) = (p n).goes.later s l
      later s l (Traps k y) = omega arith

      stops : (s : State) → s.ticks ≤ fuel → (a : Answer) → (given_answer a (eval s.vars s.tables e).notes s (λ n. f n s)).stop ≡ Done → (given_answer a (eval s.vars s.tables e).notes s (λ n. f n s)).state.ticks ≤ fuel
      stops s l (Number n) d = (p n).goes.stops s l d
      stops s l (Traps k y) d = l

      spends : (s : State) → s.ticks ≤ fuel → (a : Answer) → fuel < (given_answer a (eval s.vars s.tables e).notes s (λ n. f n s)).state.ticks → Spent fuel (given_answer a (eval s.vars s.tables e).notes s (λ n. f n s))
      spends s l (Number n) m = (let h = (p n).goes.spends s l m in record { stop = h.stop; ticks = h.ticks })
      spends s l (Traps k y) m = absurd (omega arith)

      go : (s : State) (us : List Table) → Within s.ticks → (a : Answer) → SeenAlike (given_answer a (eval s.vars s.tables e).notes s (λ n. f n s)).notes s.tables us
          → Twin s.tables us (given_answer a (eval s.vars s.tables e).notes s (λ n. f n s)) (given_answer a (eval s.vars s.tables e).notes (shift us s) (λ n. f n (shift us s)))
      go s us w (Number n) h =
          twin_noted (eval s.vars s.tables e).notes s.tables us (f n s) (f n (shift us s)) (eval_writes s.vars s.tables e) ((p n).twin s us w (seen_back (eval s.vars s.tables e).notes (f n s).notes s.tables us h))
      go s us w (Traps k y) h = still s us (record { stop = Trap k y; state = s; notes = (eval s.vars s.tables e).notes }) refl w (eval_writes s.vars s.tables e) h.sizes _ refl

  pub twins_two : (a b : Expr) (f : ℤ → ℤ → State → Ran) → ((m n : ℤ) → Twins (f m n)) → Twins (λ s. given_two a b s (λ m n. f m n s))
  twins_two a b f p = twins_given a (λ i s. given b s (λ j. f i j s)) (λ i. twins_given b (f i) (p i))

  pub twins_args : (es : List Expr) (f : List ℤ → State → Ran) → ((ns : List ℤ) → Twins (f ns)) → Twins (λ s. given_all es s (λ ns. f ns s))
  twins_args [] f p = p []
  twins_args (e ∷ es) f p = twins_given e (λ n s. given_all es s (λ ns. f (n ∷ ns) s)) (λ n. twins_args es (λ ns. f (n ∷ ns)) (λ ns. p (n ∷ ns)))

  -- ---- branches and loops

  pub twins_choose : (n : ℤ) (a b : State → Ran) → Twins a → Twins b → Twins (choose n a b)
  twins_choose (pos zero) a b p q = q
  twins_choose (pos (suc n)) a b p q = p
  twins_choose (negsuc n) a b p q = p

  pub twins_wide : (b : Bool) (p : Place) (f : State → Ran) → Twins f → Twins (unless_wide b p f)
  twins_wide true p f q = twins_trap Wide p
  twins_wide false p f q = q

  pub twins_leave : (f : State → Ran) → Twins f → Twins (λ s. leave_block (length s.vars) (f s))
  twins_leave f p = twins_end (λ vs us. take (length vs) us) f p

  twin_is : (ts us : List Table) (r v q z : Ran) → r ≡ v → q ≡ z → Twin ts us v z → Twin ts us r q
  twin_is ts us r v q z e f h = subst (λ a. Twin ts us a q) (sym e) (subst (λ b. Twin ts us v b) (sym f) h)

  pub twins_tick : Twins (tick fuel)
  twins_tick = record {
    goes = record {
      later = λ s l. later s (nat_lt s.ticks fuel) refl l;
      stops = λ s l d. stops s (nat_lt s.ticks fuel) refl d;
      spends = λ s l m. spends s (nat_lt s.ticks fuel) refl m;
    };
    twin = λ s us w h. go s us w h.sizes (ℕ_discrete t 0);
  }
    where
      later : (s : State) (b : Bool) → nat_lt s.ticks fuel ≡ b → s.ticks ≤ fuel → s.ticks ≤ (tick fuel s).state.ticks
      later s true e l = rw e (omega arith)
      later s false e l = rw e (omega arith)

      stops : (s : State) (b : Bool) → nat_lt s.ticks fuel ≡ b → (tick fuel s).stop ≡ Done → (tick fuel s).state.ticks ≤ fuel
      stops s true e d = (let lt : s.ticks < fuel = ltb-true s.ticks fuel e in rw e (omega arith))
      stops s false e d = (let q : NoFuel ≡ Done = sym (ap (λ (z : Ran). z.stop) (tick_refused fuel s e)) ∙ d in cc)

      spends : (s : State) (b : Bool) → nat_lt s.ticks fuel ≡ b → fuel < (tick fuel s).state.ticks → Spent fuel (tick fuel s)
      spends s true e m =
          let lt : s.ticks < fuel = ltb-true s.ticks fuel e in
          let q : (tick fuel s).state.ticks ≡ s.ticks + 1 = ap (λ (z : Ran). z.state.ticks) (tick_allowed fuel s e) in
          absurd (omega arith)
      spends s false e m = spent_is (tick fuel s) (out_of_fuel (record s { ticks = fuel + 1 })) (tick_refused fuel s e) (record { stop = refl; ticks = refl })

      counted : (s : State) (us : List Table) → Within (s.ticks + 1) → shapes s.tables ≡ shapes us → nat_lt s.ticks fuel ≡ true → nat_lt (s.ticks + t) fuel ≡ true → Twin s.tables us (tick fuel s) (tick fuel (shift us s))
      counted s us v h e f =
          let n : s.ticks + t + 1 ≡ s.ticks + 1 + t = omega arith in
          twin_is s.tables us (tick fuel s) (done (record s { ticks = s.ticks + 1 })) (tick fuel (shift us s)) (over us (done (record s { ticks = s.ticks + 1 })))
          (tick_allowed fuel s e) (tick_allowed fuel (shift us s) f ∙ ap (λ k. done (record { vars = s.vars; tables = us; output = o ++ s.output; ticks = k })) n)
          (still s us (done (record s { ticks = s.ticks + 1 })) refl v no_writes_none h _ refl)

      same : (s : State) (us : List Table) → t ≡ 0 → shapes s.tables ≡ shapes us → (b : Bool) → nat_lt s.ticks fuel ≡ b → Twin s.tables us (tick fuel s) (tick fuel (shift us s))
      same s us z h true e = (let n : s.ticks ≡ s.ticks + t = omega arith in counted s us (inl z) h e (ap (λ k. nat_lt k fuel) (sym n) ∙ e))
      same s us z h false e =
          let n : s.ticks + t ≡ s.ticks = omega arith in
          let m : fuel + 1 ≡ fuel + 1 + t = omega arith in
          twin_is s.tables us (tick fuel s) (out_of_fuel (record s { ticks = fuel + 1 })) (tick fuel (shift us s)) (over us (out_of_fuel (record s { ticks = fuel + 1 })))
          (tick_refused fuel s e) (tick_refused fuel (shift us s) (ap (λ k. nat_lt k fuel) n ∙ e) ∙ ap (λ k. out_of_fuel (record { vars = s.vars; tables = us; output = o ++ s.output; ticks = k })) m)
          (still s us (out_of_fuel (record s { ticks = fuel + 1 })) refl (inl z) no_writes_none h _ refl)

      more : (s : State) (us : List Table) → (t ≡ 0 → ⊥) → s.ticks + t ≤ fuel → shapes s.tables ≡ shapes us → (b : Bool) → nat_lt (s.ticks + t) fuel ≡ b → Twin s.tables us (tick fuel s) (tick fuel (shift us s))
      more s us d l h true f =
          let lt : s.ticks + t < fuel = ltb-true (s.ticks + t) fuel f in
          let low : s.ticks < fuel = omega arith in
          let e : nat_lt s.ticks fuel ≡ true = grind (arith, nat_tests) in
          counted s us (inr (omega arith)) h e f
      more s us d l h false f =
          let ge : fuel ≤ s.ticks + t = ltb-false (s.ticks + t) fuel f in
          let low : s.ticks < fuel = below d in
          let e : nat_lt s.ticks fuel ≡ true = grind (arith, nat_tests) in
          twin_is s.tables us (tick fuel s) (done (record s { ticks = s.ticks + 1 })) (tick fuel (shift us s)) (out_of_fuel (record (shift us s) { ticks = fuel + 1 }))
          (tick_allowed fuel s e) (tick_refused fuel (shift us s) f)
          (inr (λ v. elim v [ inl z ↦ d z | inr m ↦ (let k : s.ticks + 1 + t ≤ fuel = m in absurd (omega arith)) ], record { stop = refl; ticks = refl }))
        where
          some : (t ≡ 0 → ⊥) → 0 < t
          some d = omega arith

          below : (t ≡ 0 → ⊥) → s.ticks < fuel
          below d = omega (arith, some d)

      go : (s : State) (us : List Table) → Within s.ticks → shapes s.tables ≡ shapes us → Dec (t ≡ 0) → Twin s.tables us (tick fuel s) (tick fuel (shift us s))
      go s us w h (yes z) = same s us z h (nat_lt s.ticks fuel) refl
      go s us (inl z) h (no d) = absurd (d z)
      go s us (inr l) h (no d) = more s us d l h (nat_lt (s.ticks + t) fuel) refl

  pub twins_turns : (n : ℕ) (e : Expr) (body : State → Ran) → Twins body → Twins (turns n fuel e body)
  unfolding turns
  twins_turns zero e body p = record {
    goes = goes_still _ (λ s. refl);
    twin = λ s us w h. still s us (out_of_fuel s) refl w no_writes_none h.sizes _ refl;
  }
  twins_turns (suc n) e body p =
      twins_given e (λ v. choose v (λ u. after (after (tick fuel u) body) (turns n fuel e body)) done)
      (λ v. twins_choose v _ done (twins_seq (λ u. after (tick fuel u) body) (turns n fuel e body) (twins_seq (tick fuel) body twins_tick p) (twins_turns n e body p)) twins_done)

  pub twins_iteration : (x : List ℕ) (body : State → Ran) (ns : List Note) (i : ℤ) → NoWrites ns → Twins body → Twins (iteration fuel x body ns i)
  twins_iteration x body ns i n p =
      twins_leave (λ s. after (tick fuel s) (λ u. noted ns (body (record u { vars = declare u.vars x i }))))
      (twins_seq (tick fuel) (λ u. noted ns (body (record u { vars = declare u.vars x i }))) twins_tick
      (twins_noted ns (λ u. body (record u { vars = declare u.vars x i })) n (twins_pre (λ vs. declare vs x i) body p)))

  pub twins_iterate : (n : ℕ) (x : List ℕ) (body : State → Ran) (again ns : List Note) (i : ℤ) → NoWrites again → NoWrites ns → Twins body → Twins (iterate fuel x body again ns n i)
  unfolding iterate
  twins_iterate zero x body again ns i g h p = twins_done
  twins_iterate (suc n) x body again ns i g h p =
      twins_seq (iteration fuel x body ns i) (iterate fuel x body again again n (i +ℤ pos 1)) (twins_iteration x body ns i h p) (twins_iterate n x body again again (i +ℤ pos 1) g g p)
