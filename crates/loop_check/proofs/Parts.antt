-- Where no rule is broken, each iteration keeps within its part of each table that its `par` carries.
use Rattle.std.proofs.Common.{◌≡◌, ℕ, zero, suc, ◌+◌, ℤ, List, [], ◌∷◌, ◌++◌, map, length, take}
use Rattle.std.proofs.Common.{◌<◌, arith, Option, Some, None, refl, sym, ap, subst, ◌∙◌, Bool, true}
use Rattle.std.proofs.Common.{false, cond, ◌||◌, bytes_eq, inr}
use Rattle.tp_value.specs.declared.Place.{Place}
use Rattle.loop_syntax.specs.declared.Name.{Name}
use Rattle.loop_syntax.specs.declared.RowAt.TheVariants as row
use Rattle.loop_syntax.specs.declared.Carry.{Carry}
use Rattle.loop_syntax.specs.declared.Carry.TheVariants as carry
use Rattle.loop_syntax.specs.declared.Reduce.{Reduce}
use Rattle.loop_syntax.specs.declared.Program.{Program}
use Rattle.loop_meaning.specs.declared.value.Variable.{Variable}
use Rattle.loop_meaning.specs.Calls.{setting}
use Rattle.loop_meaning.specs.State.{lookup, declare, State, Ran}
use Rattle.loop_meaning.specs.Statements.{iteration, run_list}
use Rattle.loop_syntax.specs.declared.Stmt.{Stmt}
use Rattle.beat_count.specs.Ticks.{is_tick_allowed}
use Rattle.loop_rules.specs.Names.{is_in, item_of}
use Rattle.loop_rules.specs.Reductions.{some_op}
use Rattle.loop_rules.specs.Sites.{Declares, Parallel, Spot, in_carries, in_list, in_par, the_loop}
use Rattle.loop_meaning.specs.Cells.{bodies_of}
use Rattle.loop_check.specs.Unbroken.{NoneBroken}
use Rattle.loop_check.specs.Parts.{InPart, KeepsTo, Parted}
use Rattle.loop_check.proofs.Lists.{each_at}
use Rattle.loop_check.proofs.Bools.{no_both}
use Rattle.loop_check.proofs.Found.{Found, found_lookup, found_more, found_below, found_take}
use Rattle.loop_check.proofs.Found.{found_in, place_in}
use Rattle.loop_check.proofs.Keeps.{Mode, Fixed, Keeps, ticks_fixed}
use Rattle.loop_check.proofs.Calls.{QuietFuncs}
use Rattle.loop_check.proofs.Fine.{Fine, AllFine, quiet_funcs}
use Rattle.loop_check.proofs.Bodies.{body_at, each_par}
use Rattle.loop_check.proofs.Inner.{Region, ReadRegion, WriteRegion, begun, mode_of}
use Rattle.loop_check.proofs.Law.{body_keeps, notes_reads, notes_writes, iteration_keeps, own_value}
use Rattle.loop_check.proofs.Law.{uses_seen}

-- the value of a name that is declared before another is the same after
lookup_more : (vs : List Variable) (x : List ℕ) (i : ℤ) (y : List ℕ) → is_in (map (λ (v : Variable). v.name) vs) y ≡ true → lookup (declare vs x i) y ≡ lookup vs y
lookup_more vs x i y h =
    let f = found_in vs y h in
    found_lookup (place_in (map (λ (v : Variable). v.name) vs) y) (declare vs x i) y (lookup vs y) (found_more (place_in (map (λ (v : Variable). v.name) vs) y) vs _ y (lookup vs y) f)

found_less : (m : ℕ) (vs ws : List Variable) (y : List ℕ) (v : ℤ) → m < length vs → Found m (vs ++ ws) y v → Found m vs y v
found_less m [] ws y v l h = absurd (omega arith)
found_less zero (u ∷ us) ws y v l h = h
found_less (suc m) (u ∷ us) ws y v l h = (h.0, found_less m us ws y v (omega arith) h.1)

place_front : (ys zs : List (List ℕ)) (y : List ℕ) → is_in ys y ≡ true → place_in (ys ++ zs) y ≡ place_in ys y
place_front [] zs y h = absurd (no_both true refl (sym h))
place_front (z ∷ ys) zs y h = go (bytes_eq z y) (λ k. place_front ys zs y k) h
  where
    go : (b : Bool) → (is_in ys y ≡ true → place_in (ys ++ zs) y ≡ place_in ys y) → (b || is_in ys y) ≡ true → cond b 0 (suc (place_in (ys ++ zs) y)) ≡ cond b 0 (suc (place_in ys y))
    go true f k = refl
    go false f k = ap (λ n. suc n) (f k)

-- what stays through an iteration
iteration_stays : (m : Mode) (prog : Program) (fuel : ℕ) (x : List ℕ) (body : State → Ran) (i : ℤ) (s : State) → Keeps m prog body → Fixed m (begun s x i) → (y : List ℕ) → m.frozen y → m.stands y < length s.vars → lookup (iteration fuel x body [] i s).state.vars y ≡ m.holds y
iteration_stays m prog fuel x body i s k h y f l = go (is_tick_allowed fuel s.ticks) refl
  where
    go : (b : Bool) → is_tick_allowed fuel s.ticks ≡ b → lookup (iteration fuel x body [] i s).state.vars y ≡ m.holds y
    go true e = rw e (found_lookup (m.stands y) (take (length s.vars) (body (record s { vars = declare s.vars x i; ticks = s.ticks + 1 })).state.vars) y (m.holds y)
        (found_take (m.stands y) (length s.vars) (body (record s { vars = declare s.vars x i; ticks = s.ticks + 1 })).state.vars y (m.holds y) l ((k (record s { vars = declare s.vars x i; ticks = s.ticks + 1 }) (ticks_fixed m prog (begun s x i) (s.ticks + 1) h)).fixed.found y f)))
    go false e = rw e (found_lookup (m.stands y) (take (length s.vars) s.vars) y (m.holds y)
        (found_take (m.stands y) (length s.vars) s.vars y (m.holds y) l (found_less (m.stands y) s.vars (record { name = x; value = i } ∷ []) y (m.holds y) l (h.found y f))))

module _ (p : Program) (quiet : QuietFuncs p) (w : Spot) (x : Name) (cs : List Carry) (rs : List Reduce) where
  part_of : Fine p (Declares x) w → AllFine p (in_carries w cs) → (s : State) → map (λ (v : Variable). v.name) s.vars ≡ w.scope → (i : ℤ) (t : List ℕ) (d : Carry) → item_of cs t ≡ Some d → (a b : ℤ) → Region (λ y. lookup (declare s.vars x.text.items i) y) x.text.items d a b → InPart s i d a b
  part_of fresh uses s names i t (carry.Rows z v) is a b r = r ∙ own_value p quiet w x cs rs fresh s names i
  part_of fresh uses s names i t (carry.Cells z (row.Int n) v) is a b r = (r.0, r.1 ∙ own_value p quiet w x cs rs fresh s names i)
  part_of fresh uses s names i t (carry.Cells z (row.Var k) v) is a b r = (
    r.0 ∙ lookup_more s.vars x.text.items i k.text.items (subst (λ l. is_in l k.text.items ≡ true) (sym names) (uses_seen p w cs t (Some (carry.Cells z (row.Var k) v)) uses is k.text.items refl)),
    r.1 ∙ own_value p quiet w x cs rs fresh s names i,
  )

  write_part : (h : List ℕ → ℤ) (o : Option Carry) (a b : ℤ) → WriteRegion h x.text.items o a b → (d : Carry) × (o ≡ Some d) × Region h x.text.items d a b
  write_part h None a b q = absurd q
  write_part h (Some d) a b q = (d, refl, q)

  pub par_parts : (body : List Stmt) (place later : Place) → Fine p (Parallel place later (the_loop w x cs rs)) w → Fine p (Declares x) w → AllFine p (in_carries w cs) → AllFine p (in_list (in_par w x cs rs) body)
      → KeepsTo p (body_at w x cs rs body)
  par_parts body place later head fresh uses inner = record {
    writes = λ fuel depth s names i c h.
        let k = iteration_keeps p quiet w x cs rs body place later head fresh uses inner fuel depth s names i c.table in
        let q = write_part (λ y. lookup (declare s.vars x.text.items i) y) (item_of cs c.table) c.row c.col
        (notes_writes (mode_of (the_loop w x cs rs) c.table (begun s x.text.items i)) (iteration fuel x.text.items (run_list (setting p fuel depth rs) body) [] i s).notes c k h refl) in
        (q.0, q.1, part_of fresh uses s names i c.table q.0 q.1 c.row c.col q.2);
    reads = λ fuel depth s names i c h d is.
        let k = iteration_keeps p quiet w x cs rs body place later head fresh uses inner fuel depth s names i c.table in
        part_of fresh uses s names i c.table d is c.row c.col
        (subst (λ o. ReadRegion (λ y. lookup (declare s.vars x.text.items i) y) x.text.items o c.row c.col) is
        (notes_reads (mode_of (the_loop w x cs rs) c.table (begun s x.text.items i)) (iteration fuel x.text.items (run_list (setting p fuel depth rs) body) [] i s).notes c k h refl));
    stays = λ fuel depth s names i y seen plain.
        let k = body_keeps p quiet w x cs rs body place later head uses inner fuel depth s names i [] in
        let here : is_in (map (λ (v : Variable). v.name) s.vars) y ≡ true = subst (λ l. is_in l y ≡ true) (sym names) seen in
        let below : place_in (map (λ (v : Variable). v.name) s.vars) y < length s.vars = found_below (place_in (map (λ (v : Variable). v.name) s.vars) y) s.vars y (lookup s.vars y) (found_in s.vars y here) in
        let front : place_in (w.scope ++ x.text.items ∷ []) y ≡ place_in (map (λ (v : Variable). v.name) s.vars) y = place_front w.scope (x.text.items ∷ []) y seen ∙ ap (λ l. place_in l y) (sym names) in
        iteration_stays (mode_of (the_loop w x cs rs) [] (begun s x.text.items i)) p fuel x.text.items (run_list (setting p fuel depth rs) body) i s k.0 k.1 y
        (inr (seen, ap (λ o. some_op o) plain)) (subst (λ n. n < length s.vars) (sym front) below)
        ∙ lookup_more s.vars x.text.items i y here;
  }

pub parted_law : (p : Program) → NoneBroken p → Parted p
parted_law p none =
    let quiet = quiet_funcs p none in
    let all = each_par p none (KeepsTo p) (λ w x cs rs body place later i a b c d. par_parts p quiet w x cs rs body place later a b c d) in
    record { each = λ b h. each_at (KeepsTo p) (bodies_of p) b all h }
