-- A frame of the whole range of a `par`, and one of both calls of a `both`.
use Rattle.std.proofs.Common.{◌≡◌, Option, ℕ, zero, suc, Bool, true, false, ℤ, pos, ◌+ℤ◌, List, []}
use Rattle.std.proofs.Common.{◌∷◌}
use Rattle.std.proofs.Common.{cond, map, length, nat_lt, bytes_eq, append_assoc, refl, sym, ap, ◌∙◌}
use mathlib.Core.Path.{fun_ext}
use Rattle.std.specs.Prelude.{if◌then◌else◌}
use Rattle.std.specs.Int.{int_gap}
use Rattle.tp_value.specs.declared.Op.{Op}
use Rattle.tp_value.specs.declared.Stop.{Stop}
use Rattle.tp_value.specs.declared.Stop.TheVariants.{Done, Left, Trap, NoFuel}
use Rattle.loop_syntax.specs.declared.Name.{Name}
use Rattle.loop_syntax.specs.declared.Expr.{Expr}
use Rattle.loop_syntax.specs.declared.App.{App}
use Rattle.loop_syntax.specs.declared.Reduce.{Reduce}
use Rattle.loop_syntax.specs.declared.ParLoop.{ParLoop}
use Rattle.loop_syntax.specs.declared.Program.{Program}
use Rattle.loop_syntax.specs.declared.Stmt.TheVariants.{Par, Both}
use Rattle.loop_syntax.specs.declared.Stmt.TheBlock.{hidden-the_row-Stmt-0}
use Rattle.loop_meaning.specs.declared.frame.Frame.TheVariants.{Range, Pair}
use Rattle.loop_meaning.specs.declared.value.Variable.{Variable}
use Rattle.loop_meaning.specs.State.{lookup, assign, declare, State, Note, Chance, Ran, done, noted}
use Rattle.loop_meaning.specs.State.{after, go_on, leave_block}
use Rattle.loop_meaning.specs.Statements.{Called, given_two, given_all, too_wide, unless_wide}
use Rattle.loop_meaning.specs.Statements.{iteration, iterate, set_var, two_calls, run, run_list}
use Rattle.loop_meaning.specs.Leaving.{left_in, left_list, caught}
use Rattle.loop_meaning.specs.Calls.{setting}
use Rattle.loop_meaning.specs.Frames.{OfPar, OfBoth, with_accs, accs_of, two_calls_of, run_frame}
use Rattle.loop_meaning.specs.WholeFrames.{iterations, first_chance, then_set, both_by_frame}
use Rattle.loop_meaning.proofs.Caught.{vec_left}
use Rattle.loop_meaning.proofs.Runs.{vec_list}
use Rattle.loop_meaning.proofs.Ticks.{tick_allowed, tick_refused}

-- ---- accumulators that are the variables' own values

assign_own : (vs : List Variable) (x : List ℕ) → assign vs x (lookup vs x) ≡ vs
assign_own [] x = refl
assign_own (v ∷ vs) x = go (bytes_eq v.name x) (assign_own vs x)
  where
    go : (b : Bool) → assign vs x (lookup vs x) ≡ vs
        → cond b (record { name = v.name; value = cond b v.value (lookup vs x) } ∷ vs) (v ∷ assign vs x (cond b v.value (lookup vs x))) ≡ v ∷ vs
    go true h = refl
    go false h = ap (λ us. v ∷ us) h

head : List ℤ → ℤ
head [] = pos 0
head (n ∷ ns) = n

tail : List ℤ → List ℤ
tail [] = []
tail (n ∷ ns) = ns

with_own : (rs : List Reduce) (xs : List (Op × ℤ)) (vs : List Variable) → map (λ (a : Op × ℤ). a.1) xs ≡ accs_of rs vs → with_accs rs xs vs ≡ vs
unfolding head tail
with_own [] xs vs h = refl
with_own (r ∷ rs) [] vs h = refl
with_own (r ∷ rs) (a ∷ xs) vs h =
    ap (λ n. with_accs rs xs (assign vs r.target.text.items n)) (ap head h) ∙ ap (with_accs rs xs) (assign_own vs r.target.text.items)
    ∙ with_own rs xs vs (ap tail h)

-- ---- notes before a run

after_noted : (ns : List Note) (r : Ran) (go : State → Ran) → after (noted ns r) go ≡ noted ns (after r go)
after_noted ns r go = f r.stop
  where
    f : (x : Stop) → go_on x (noted ns r) go ≡ noted ns (go_on x r go)
    f Done = ap {A = List Note} {B = Ran} (λ ms. record { stop = (go r.state).stop; state = (go r.state).state; notes = ms }) (append_assoc ns r.notes (go r.state).notes)
    f (Left n) = refl
    f (Trap k p) = refl
    f NoFuel = refl

iterate_first : (fuel : ℕ) (x : List ℕ) (body : State → Ran) (n : ℕ) (i : ℤ) (s : State)
    → iterate fuel x body (Chance ∷ []) (Chance ∷ []) n i s ≡ noted (first_chance fuel n s) (iterate fuel x body (Chance ∷ []) [] n i s)
unfolding iterate
iterate_first fuel x body zero i s = refl
iterate_first fuel x body (suc n) i s = go (nat_lt s.ticks fuel) refl
  where
    rest : State → Ran
    rest = iterate fuel x body (Chance ∷ []) (Chance ∷ []) n (i +ℤ pos 1)

    begun : List Note → Ran → Ran
    begun ns r = leave_block (length s.vars) (after r (λ t. noted ns (body (record t { vars = declare t.vars x i }))))

    chance : (b : Bool) → nat_lt s.ticks fuel ≡ b → first_chance fuel (suc n) s ≡ (if b then Chance ∷ [] else [])
    chance b e = ap {A = Bool} {B = List Note} (λ c. if c then Chance ∷ [] else []) e

    go : (b : Bool) → nat_lt s.ticks fuel ≡ b → after (iteration fuel x body (Chance ∷ []) i s) rest ≡ noted (first_chance fuel (suc n) s) (after (iteration fuel x body [] i s) rest)
    go true e =
        let t = tick_allowed fuel s e in
        let q : iteration fuel x body (Chance ∷ []) i s ≡ noted (Chance ∷ []) (iteration fuel x body [] i s) = ap (begun (Chance ∷ [])) t ∙ sym (ap (λ r. noted (Chance ∷ []) (begun [] r)) t) in
        ap (λ r. after r rest) q ∙ after_noted (Chance ∷ []) (iteration fuel x body [] i s) rest ∙ ap (λ ns. noted ns (after (iteration fuel x body [] i s) rest)) (sym (chance true e))
    go false e =
        let t = tick_refused fuel s e in
        let q : iteration fuel x body (Chance ∷ []) i s ≡ iteration fuel x body [] i s = ap (begun (Chance ∷ [])) t ∙ sym (ap (begun []) t) in
        ap (λ r. after r rest) q ∙ ap (λ ns. noted ns (after (iteration fuel x body [] i s) rest)) (sym (chance false e))

-- ---- the whole range

pub whole_range : (p : Program) (fuel depth : ℕ) (l : ParLoop) (i j : ℤ) (accs : List (Op × ℤ)) (s : State) → map (λ (a : Op × ℤ). a.1) accs ≡ accs_of l.reduces.items s.vars
    → (run_frame p fuel depth (OfPar l) (Range i j accs) s).ran ≡ noted (first_chance fuel (int_gap i j) s) (iterations p fuel depth l i j s)
whole_range p fuel depth l i j accs s h =
    ap (λ vs. iterate fuel l.var.text.items body (Chance ∷ []) (Chance ∷ []) (int_gap i j) i (record s { vars = vs })) (with_own l.reduces.items accs s.vars h)
    ∙ iterate_first fuel l.var.text.items body (int_gap i j) i s
  where
    body : State → Ran
    body = run_list (setting p fuel depth l.reduces.items) l.body.items

pub whole_results : (p : Program) (fuel depth : ℕ) (l : ParLoop) (i j : ℤ) (accs : List (Op × ℤ)) (s : State) → map (λ (a : Op × ℤ). a.1) accs ≡ accs_of l.reduces.items s.vars
    → (run_frame p fuel depth (OfPar l) (Range i j accs) s).results ≡ accs_of l.reduces.items (iterations p fuel depth l i j s).state.vars
whole_results p fuel depth l i j accs s h = ap (λ r. accs_of l.reduces.items r.state.vars) (whole_range p fuel depth l i j accs s h)

pub par_is : (p : Program) (fuel depth : ℕ) (rs : List Reduce) (l : ParLoop) (s : State)
    → run (setting p fuel depth rs) (Par l) s ≡ given_two l.from l.to s (λ i j. unless_wide (too_wide i j) l.place (λ t. caught (left_list l.body.items) (iterations p fuel depth l i j t)) s)
par_is p fuel depth rs l s =
    ap (λ f. whole f (left_in (hidden-the_row-Stmt-0 l.body))) (vec_list (setting p fuel depth l.reduces.items) l.body)
    ∙ ap (whole (run_list (setting p fuel depth l.reduces.items) l.body.items)) (vec_left l.body)
  where
    whole : (State → Ran) → Option (List ℕ) → Ran
    whole f x = given_two l.from l.to s (λ i j. unless_wide (too_wide i j) l.place (λ t. caught x (iterate fuel l.var.text.items f (Chance ∷ []) [] (int_gap i j) i t)) s)

-- ---- both calls

after_at : (r : Ran) (f g : State → Ran) → f r.state ≡ g r.state → after r f ≡ after r g
after_at r f g h = go r.stop
  where
    go : (x : Stop) → go_on x r f ≡ go_on x r g
    go Done = ap (noted r.notes) h
    go (Left n) = refl
    go (Trap k p) = refl
    go NoFuel = refl

after_after : (r : Ran) (f g : State → Ran) → after (after r f) g ≡ after r (λ s. after (f s) g)
after_after r f g = go r.stop refl
  where
    go : (x : Stop) → r.stop ≡ x → after (go_on x r f) g ≡ go_on x r (λ s. after (f s) g)
    go Done e = after_noted r.notes (f r.state) g
    go (Left n) e = ap (λ x. go_on x r g) e
    go (Trap k p) e = ap (λ x. go_on x r g) e
    go NoFuel e = ap (λ x. go_on x r g) e

calls_then_set : (x y : Name) (c : Called) (go : State → Called)
    → after c.ran (λ t. after (go t).ran (λ u. done (set_var y (go t).value (set_var x c.value u)))) ≡ then_set x y (two_calls_of c go)
calls_then_set x y c go = after_at c.ran each (λ t. after (go t).ran last) refl ∙ sym (after_after c.ran (λ t. (go t).ran) last)
  where
    each : State → Ran
    each t = after (go t).ran (λ u. done (set_var y (go t).value (set_var x c.value u)))

    last : State → Ran
    last u = done (set_var y (go c.ran.state).value (set_var x c.value u))

args_same : (es : List Expr) (s : State) (f g : List ℤ → Ran) → ((ns : List ℤ) → f ns ≡ g ns) → given_all es s f ≡ given_all es s g
args_same es s f g h = ap (given_all es s) (fun_ext h)

pub both_is : (p : Program) (fuel depth : ℕ) (rs : List Reduce) (child : Bool) (x : Name) (f : App) (y : Name) (g : App) (s : State)
    → run (setting p fuel depth rs) (Both x f y g) s ≡ both_by_frame p fuel depth child x f y g s
both_is p fuel depth rs child x f y g s =
    args_same f.args.items s (λ ns. given_all g.args.items s (calls ns)) (λ ns. given_all g.args.items s (framed ns))
    (λ ns. args_same g.args.items s (calls ns) (framed ns) (same ns))
  where
    calls : List ℤ → List ℤ → Ran
    calls ns ms = two_calls (setting p fuel depth rs) x f.callee ns y g.callee ms (Chance ∷ []) s

    framed : List ℤ → List ℤ → Ran
    framed ns ms = then_set x y (run_frame p fuel depth (OfBoth f.callee.text.items f.callee.place ns g.callee.place child) (Pair g.callee.text.items ms false) s)

    same : (ns ms : List ℤ) → calls ns ms ≡ framed ns ms
    same ns ms =
        calls_then_set x y ((setting p fuel depth rs).call f.callee.text.items f.callee.place ns (Chance ∷ []) s)
        ((setting p fuel depth rs).call g.callee.text.items g.callee.place ms [])
