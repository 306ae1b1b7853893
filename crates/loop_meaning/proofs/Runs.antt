-- How the ends of runs compose.
use Rattle.std.proofs.Common.{◌≡◌, ℕ, zero, suc, ◌+◌, ◌-◌, ◌<◌, ◌≤◌, ℤ, pos, negsuc, ◌+ℤ◌, List, []}
use Rattle.std.proofs.Common.{◌∷◌, refl, sym, ap, subst, ◌∙◌, arith, SFits, of_z, to_z, ◌%◌, ◌^◌}
use Rattle.std.proofs.Common.{Bool, true, false, take, drop, length, get_or, drop-cons, Vec, Result}
use Rattle.std.proofs.Common.{Ok, Err, IfOk, Option}
use mathlib.Core.Path.{fun_ext}
use Rattle.std.specs.Int.{w64}
use Rattle.std.proofs.lemmas.Int.{ints, to_z-of_z}
use Rattle.tp_value.specs.declared.TrapKind.{TrapKind}
use Rattle.tp_value.specs.declared.Place.{Place}
use Rattle.tp_value.specs.declared.Stop.{Stop}
use Rattle.tp_value.specs.declared.Stop.TheVariants.{Done, Left, Trap, NoFuel}
use Rattle.loop_syntax.specs.declared.Expr.{Expr}
use Rattle.std.specs.declared.alloc.Global.{Global}
use Rattle.loop_syntax.specs.declared.Stmt.{Stmt, Row_of-Stmt, end_of-Stmt, more_of-Stmt}
use Rattle.loop_syntax.specs.declared.Stmt.{items-the_row-Stmt, items_hidden-the_row-Stmt-0}
use Rattle.loop_syntax.specs.declared.Stmt.TheBlock.{hidden-the_row-Stmt-0}
use Rattle.loop_syntax.specs.declared.Stmt.TheVariants.{If, While, Loop, Par}
use Rattle.loop_syntax.specs.declared.ParLoop.{ParLoop}
use Rattle.loop_syntax.specs.declared.Name.{Name}
use Rattle.std.specs.Int.{int_gap}
use Rattle.loop_meaning.specs.declared.value.Answer.{Answer}
use Rattle.loop_meaning.specs.declared.value.Answer.TheVariants.{Number, Traps}
use Rattle.loop_meaning.specs.State.{State, Note, Chance, Ran, done, after, go_on, tick}
use Rattle.loop_meaning.specs.State.{leave_block, noted}
use Rattle.loop_meaning.specs.Statements.{Setting, given, given_two, given_answer, unless_wide}
use Rattle.loop_meaning.specs.Statements.{too_wide, choose, run, run_all, run_list, turns, iterate}
use Rattle.loop_meaning.specs.Statements.{iteration, block}
use Rattle.loop_meaning.specs.Expressions.{eval}
use Rattle.loop_meaning.specs.Leaving.{left_in, left_list, caught}
use Rattle.loop_meaning.specs.Ends.{Ends, EndAlike}
use Rattle.loop_meaning.proofs.Caught.{vec_left, caught_alike}

pub alike_refl : (r : Ran) → EndAlike r r
alike_refl r = record { stop = refl; state = refl }

pub alike_trans : {p q r : Ran} → EndAlike p q → EndAlike q r → EndAlike p r
alike_trans f g = record { stop = f.stop ∙ g.stop; state = f.state ∙ g.state }

pub ends_alike : {r q : Ran} {x : Stop} {s : State} → EndAlike r q → Ends q x s → Ends r x s
ends_alike f g = record { stop = f.stop ∙ g.stop; state = f.state ∙ g.state }

pub alike_back : {p q : Ran} → EndAlike p q → EndAlike q p
alike_back f = record { stop = sym f.stop; state = sym f.state }

-- r ends as q does
pub ends_unlike : {r q : Ran} {x : Stop} {s : State} → EndAlike q r → Ends q x s → Ends r x s
ends_unlike f g = record { stop = sym f.stop ∙ g.stop; state = sym f.state ∙ g.state }

-- what comes after a run that is done
pub after_done : (r : Ran) (s : State) (go : State → Ran) → Ends r Done s → EndAlike (after r go) (go s)
after_done r s go e = rw (e.stop, e.state) (record { stop = refl; state = refl })

-- what comes after a run that stopped
after_stop : (r : Ran) (x : Stop) (go : State → Ran) → r.stop ≡ x → (x ≡ Done → ⊥) → EndAlike (go_on x r go) r
after_stop r Done go e h = absurd (h refl)
after_stop r (Left n) go e h = alike_refl r
after_stop r (Trap k p) go e h = alike_refl r
after_stop r NoFuel go e h = alike_refl r

pub after_stopped : (r : Ran) (x : Stop) (s : State) (go : State → Ran) → Ends r x s → (x ≡ Done → ⊥) → Ends (after r go) x s
after_stopped r x s go e h =
    ends_alike (subst (λ y. EndAlike (go_on y r go) r) (sym e.stop) (after_stop r x go e.stop h)) e

-- an expression with a number, and one that traps
pub given_number : (e : Expr) (s : State) (n : ℤ) (go : ℤ → Ran) → (eval s.vars s.tables e).answer ≡ Number n → EndAlike (given e s go) (go n)
given_number e s n go h = rw h (record { stop = refl; state = refl })

pub given_trap : (e : Expr) (s : State) (k : TrapKind) (p : Place) (go : ℤ → Ran) → (eval s.vars s.tables e).answer ≡ Traps k p → Ends (given e s go) (Trap k p) s
given_trap e s k p go h = rw h (record { stop = refl; state = refl })

-- ---- choices

pub choose_nonzero : (v : ℤ) (f g : State → Ran) (s : State) → (of_z w64 v ≡ 0 → ⊥) → choose v f g s ≡ f s
choose_nonzero (pos zero) f g s h = absurd (h refl)
choose_nonzero (pos (suc n)) f g s h = refl
choose_nonzero (negsuc n) f g s h = refl

pub choose_zero : (v : ℤ) (f g : State → Ran) (s : State) → SFits w64 v → of_z w64 v ≡ 0 → choose v f g s ≡ g s
choose_zero (pos zero) f g s r h = refl
choose_zero (pos (suc n)) f g s r h = absurd (omega arith)
choose_zero (negsuc n) f g s r h = absurd (omega (arith, ints))

-- ---- the turns of a `while`

module _ (n i fuel : ℕ) (e : Expr) (body : State → Ran) (s : State) (lt : i < n) where
  one_turn : EndAlike (turns (n - i) fuel e body s) (given e s (λ v. choose v (λ t. after (after (tick fuel t) body) (turns (n - (i + 1)) fuel e body)) done s))
  unfolding turns
  one_turn =
      let q : n - i ≡ suc (n - (i + 1)) = omega arith in
      subst (λ m. EndAlike (turns m fuel e body s) (given e s (λ v. choose v (λ t. after (after (tick fuel t) body) (turns (n - (i + 1)) fuel e body)) done s))) (sym q) (alike_refl _)

  pub while_trap : (k : TrapKind) (p : Place) → (eval s.vars s.tables e).answer ≡ Traps k p → Ends (turns (n - i) fuel e body s) (Trap k p) s
  while_trap k p h = ends_alike one_turn (given_trap e s k p _ h)

  pub while_zero : (v : ℤ) → SFits w64 v → of_z w64 v ≡ 0 → (eval s.vars s.tables e).answer ≡ Number v → Ends (turns (n - i) fuel e body s) Done s
  while_zero v r z h =
      ends_alike (alike_trans one_turn (given_number e s v _ h)) (rw (choose_zero v _ _ s r z) (record { stop = refl; state = refl }))

  turn_on : (v : ℤ) → (of_z w64 v ≡ 0 → ⊥) → (eval s.vars s.tables e).answer ≡ Number v → EndAlike (turns (n - i) fuel e body s) (after (after (tick fuel s) body) (turns (n - (i + 1)) fuel e body))
  turn_on v z h = alike_trans (alike_trans one_turn (given_number e s v _ h)) (rw (choose_nonzero v _ _ s z) (alike_refl _))

  pub while_spent : (v : ℤ) (x : Stop) (t : State) → (of_z w64 v ≡ 0 → ⊥) → (eval s.vars s.tables e).answer ≡ Number v → Ends (tick fuel s) x t → (x ≡ Done → ⊥) → Ends (turns (n - i) fuel e body s) x t
  while_spent v x t z h f d = ends_alike (turn_on v z h) (after_stopped _ x t _ (after_stopped _ x t _ f d) d)

  pub while_stopped : (v : ℤ) (t : State) (x : Stop) (u : State) → (of_z w64 v ≡ 0 → ⊥) → (eval s.vars s.tables e).answer ≡ Number v → Ends (tick fuel s) Done t → Ends (body t) x u → (x ≡ Done → ⊥) → Ends (turns (n - i) fuel e body s) x u
  while_stopped v t x u z h f g d = ends_alike (turn_on v z h) (after_stopped _ x u _ (ends_alike (after_done _ t body f) g) d)

  pub while_again : (v : ℤ) (t u : State) → (of_z w64 v ≡ 0 → ⊥) → (eval s.vars s.tables e).answer ≡ Number v → Ends (tick fuel s) Done t → Ends (body t) Done u → EndAlike (turns (n - i) fuel e body s) (turns (n - (i + 1)) fuel e body u)
  while_again v t u z h f g = alike_trans (turn_on v z h) (after_done _ u _ (ends_alike (after_done _ t body f) g))

-- ---- lists of statements

module _ (k : Setting) (body : List Stmt) (i : ℕ) (b : Stmt) (s : State) (lt : i < length body) (is : b ≡ get_or body i b) where
  first_of_list : EndAlike (run_list k (drop i body) s) (after (run k b s) (run_list k (drop (suc i) body)))
  first_of_list = rw (drop-cons body i b lt, ← is) (alike_refl _)

  pub list_on : (t : State) → Ends (run k b s) Done t → EndAlike (run_list k (drop i body) s) (run_list k (drop (suc i) body) t)
  list_on t f = alike_trans first_of_list (after_done _ t _ f)

  pub list_stopped : (x : Stop) (t : State) → Ends (run k b s) x t → (x ≡ Done → ⊥) → Ends (run_list k (drop i body) s) x t
  list_stopped x t f d = ends_alike first_of_list (after_stopped _ x t _ f d)

-- ---- the statements that hold blocks

rows_list : {m : _} (k : Setting) (row : Row_of-Stmt m) (s : State) → run_all k row s ≡ run_list k (items-the_row-Stmt _ row) s
rows_list k end_of-Stmt s = refl
rows_list k (more_of-Stmt b rest) s = ap (after (run k b s)) (fun_ext (rows_list k rest))

pub vec_list : (k : Setting) (v : Vec Stmt Global) → run_all k (hidden-the_row-Stmt-0 v) ≡ run_list k v.items
vec_list k v = fun_ext (λ s. rows_list k (hidden-the_row-Stmt-0 v) s ∙ ap (λ l. run_list k l s) (items_hidden-the_row-Stmt-0 v))

pub ok_map : {A F : Type 0} {P Q : A → Type 0} (r : Result A F) → ((x : A) → P x → Q x) → IfOk r P → IfOk r Q
ok_map (Ok x) f h = f x h
ok_map (Err e) f h = tt

run_if : (k : Setting) (e : Expr) (body other : Vec Stmt Global) (s : State) → run k (If e body other) s ≡ given e s (λ n. choose n (block (run_list k body.items)) (block (run_list k other.items)) s)
run_if k e body other s =
    ap (λ f. given e s (λ n. choose n (block f) (block (run_all k (hidden-the_row-Stmt-0 other))) s)) (vec_list k body)
    ∙ ap (λ g. given e s (λ n. choose n (block (run_list k body.items)) (block g) s)) (vec_list k other)

-- t is an `if` whose test has a number
module _ (k : Setting) (t : Stmt) (e : Expr) (body other : Vec Stmt Global) (s : State) (n : ℤ) (is : t ≡ If e body other) (h : (eval s.vars s.tables e).answer ≡ Number n) where
  if_alike : EndAlike (run k t s) (choose n (block (run_list k body.items)) (block (run_list k other.items)) s)
  if_alike = rw (is, run_if k e body other s) (given_number e s n _ h)

  pub run_then : (x : Stop) (u : State) → (of_z w64 n ≡ 0 → ⊥) → Ends (block (run_list k body.items) s) x u → Ends (run k t s) x u
  run_then x u z f = ends_alike if_alike (rw (choose_nonzero n _ _ s z) f)

  pub run_else : (x : Stop) (u : State) → SFits w64 n → of_z w64 n ≡ 0 → Ends (block (run_list k other.items) s) x u → Ends (run k t s) x u
  run_else x u r z f = ends_alike if_alike (rw (choose_zero n _ _ s r z) f)

pub run_while_is : (k : Setting) (t : Stmt) (e : Expr) (body : Vec Stmt Global) (s : State) → t ≡ While e body → run k t s ≡ turns (k.fuel + 1) k.fuel e (block (run_list k body.items)) s
run_while_is k t e body s is =
    rw is (ap (λ f. turns (k.fuel + 1) k.fuel e (block f) s) (vec_list k body))

pub turns_out : (n i fuel : ℕ) (e : Expr) (body : State → Ran) (s : State) → n ≤ i → Ends (turns (n - i) fuel e body s) NoFuel s
unfolding turns
turns_out n i fuel e body s h = let q : n - i ≡ 0 = omega arith in rw q (record { stop = refl; state = refl })

-- ---- the iterations of a loop

module _ (n k fuel : ℕ) (x : List ℕ) (body : State → Ran) (a : ℤ) (s : State) (lt : k < n) where
  one_iteration : EndAlike (iterate fuel x body [] [] (n - k) (a +ℤ pos k) s) (after (iteration fuel x body [] (a +ℤ pos k) s) (iterate fuel x body [] [] (n - (k + 1)) (a +ℤ pos (k + 1))))
  unfolding iterate
  one_iteration =
      let q : n - k ≡ suc (n - (k + 1)) = omega arith in
      let r : (a +ℤ pos k) +ℤ pos 1 ≡ a +ℤ pos (k + 1) = omega (arith, ints) in
      rw (q, r) (alike_refl _)

  pub iterate_on : (t : State) → Ends (iteration fuel x body [] (a +ℤ pos k) s) Done t → EndAlike (iterate fuel x body [] [] (n - k) (a +ℤ pos k) s) (iterate fuel x body [] [] (n - (k + 1)) (a +ℤ pos (k + 1)) t)
  iterate_on t f = alike_trans one_iteration (after_done _ t _ f)

  pub iterate_stopped : (y : Stop) (t : State) → Ends (iteration fuel x body [] (a +ℤ pos k) s) y t → (y ≡ Done → ⊥) → Ends (iterate fuel x body [] [] (n - k) (a +ℤ pos k) s) y t
  iterate_stopped y t f d = ends_alike one_iteration (after_stopped _ y t _ f d)

pub iterate_end : (n k fuel : ℕ) (x : List ℕ) (body : State → Ran) (i : ℤ) (s : State) → n ≤ k → Ends (iterate fuel x body [] [] (n - k) i s) Done s
unfolding iterate
iterate_end n k fuel x body i s h = let q : n - k ≡ 0 = omega arith in rw q (record { stop = refl; state = refl })

-- runs that end alike, with notes before them, and what comes after them
pub noted_alike : (ns ms : List Note) (r q : Ran) → EndAlike r q → EndAlike (noted ns r) (noted ms q)
noted_alike ns ms r q f = record { stop = f.stop; state = f.state }

go_on_alike : (x : Stop) (r q : Ran) (f g : State → Ran) → EndAlike r q → ((s : State) → EndAlike (f s) (g s)) → EndAlike (go_on x r f) (go_on x q g)
go_on_alike Done r q f g h e =
    noted_alike r.notes q.notes (f r.state) (g q.state) (alike_trans (subst (λ t. EndAlike (f r.state) (f t)) h.state (alike_refl (f r.state))) (e q.state))
go_on_alike (Left n) r q f g h e = h
go_on_alike (Trap k p) r q f g h e = h
go_on_alike NoFuel r q f g h e = h

pub after_alike : (r q : Ran) (f g : State → Ran) → EndAlike r q → ((s : State) → EndAlike (f s) (g s)) → EndAlike (after r f) (after q g)
after_alike r q f g h e = subst (λ x. EndAlike (go_on r.stop r f) (go_on x q g)) h.stop (go_on_alike r.stop r q f g h e)

pub leave_alike : (n : ℕ) (r q : Ran) → EndAlike r q → EndAlike (leave_block n r) (leave_block n q)
leave_alike n r q f = record { stop = f.stop; state = ap {A = State} {B = State} (λ s. record s { vars = take n s.vars }) f.state }

-- what is noted plays no part in how the iterations end
pub iterate_notes : (n fuel : ℕ) (x : List ℕ) (body : State → Ran) (again ns : List Note) (i : ℤ) (s : State) → EndAlike (iterate fuel x body again ns n i s) (iterate fuel x body [] [] n i s)
unfolding iterate
iterate_notes zero fuel x body again ns i s = alike_refl _
iterate_notes (suc n) fuel x body again ns i s =
    after_alike _ _ _ _
    (leave_alike (length s.vars) _ _ (after_alike (tick fuel s) (tick fuel s) _ _ (alike_refl _) (λ t. noted_alike ns [] _ _ (alike_refl _))))
    (λ t. alike_trans (iterate_notes n fuel x body again again (i +ℤ pos 1) t) (alike_back (iterate_notes n fuel x body [] [] (i +ℤ pos 1) t)))

-- a number and an offset, as `wrapping_add_unsigned` adds them
pub offset_is : (a : ℤ) (k n : ℕ) → SFits w64 a → SFits w64 (a +ℤ pos n) → k ≤ n → to_z w64 ((of_z w64 a + k) % 2 ^ 64) ≡ a +ℤ pos k
offset_is a k n f g h =
    let z = a +ℤ pos k in
    let fz : SFits w64 z = omega (arith, ints) in
    let e : of_z w64 z ≡ (of_z w64 a + k) % 2 ^ 64 = omega (arith, ints) in
    rw (← e) (to_z-of_z w64 z fz)

-- ---- loops

pub given_alike : (e : Expr) (s : State) (f g : ℤ → Ran) → ((n : ℤ) → EndAlike (f n) (g n)) → EndAlike (given e s f) (given e s g)
given_alike e s f g h = go (eval s.vars s.tables e).answer
  where
    go : (a : Answer) → EndAlike (given_answer a (eval s.vars s.tables e).notes s f) (given_answer a (eval s.vars s.tables e).notes s g)
    go (Number n) = noted_alike _ _ _ _ (h n)
    go (Traps k p) = alike_refl _

pub unless_wide_alike : (b : Bool) (p : Place) (f g : State → Ran) (s : State) → EndAlike (f s) (g s) → EndAlike (unless_wide b p f s) (unless_wide b p g s)
unless_wide_alike true p f g s h = alike_refl _
unless_wide_alike false p f g s h = h

pub run_loop_is : (k : Setting) (t : Stmt) (x : Name) (a b : Expr) (body : Vec Stmt Global) (s : State) → t ≡ Loop x a b body → run k t s ≡ given_two a b s (λ i j. iterate k.fuel x.text.items (run_list k body.items) [] [] (int_gap i j) i s)
run_loop_is k t x a b body s is =
    rw is (ap (λ f. given_two a b s (λ i j. iterate k.fuel x.text.items f [] [] (int_gap i j) i s)) (vec_list k body))

pub run_par_is : (k : Setting) (t : Stmt) (l : ParLoop) (s : State) → t ≡ Par l → EndAlike (run k t s) (given_two l.from l.to s (λ i j. unless_wide (too_wide i j) l.place (λ u. caught (left_list l.body.items) (iterate k.fuel l.var.text.items (run_list (record k { reduces = l.reduces.items }) l.body.items) [] [] (int_gap i j) i u)) s))
run_par_is k t l s is =
    let body = vec_list (record k { reduces = l.reduces.items }) l.body in
    let whole : (State → Ran) → Option (List ℕ) → Ran =
    λ f x. given_two l.from l.to s (λ i j. unless_wide (too_wide i j) l.place (λ u. caught x (iterate k.fuel l.var.text.items f [] [] (int_gap i j) i u)) s) in
    rw is (subst (λ x. EndAlike (run k (Par l) s) (whole (run_list (record k { reduces = l.reduces.items }) l.body.items) x)) (vec_left l.body)
    (subst (λ f. EndAlike (run k (Par l) s) (whole f (left_in (hidden-the_row-Stmt-0 l.body)))) body
    (given_alike l.from s _ _ (λ i. given_alike l.to s _ _ (λ j. unless_wide_alike (too_wide i j) l.place _ _ s
    (caught_alike (left_in (hidden-the_row-Stmt-0 l.body)) _ _ (iterate_notes (int_gap i j) k.fuel l.var.text.items _ (Chance ∷ []) [] i s)))))))
