-- Where no rule is broken, an iteration touches no table that another `par` reserves, and prints nothing; no more does a call.
use Rattle.std.proofs.Common.{◌≡◌, ℕ, suc, ◌-◌, ℤ, pos, List, [], Option, Some, None, refl, subst}
use Rattle.std.proofs.Common.{Bool, true, false, inl, inr}
use Rattle.tp_value.specs.declared.limits.TheConstants.{MAX_CALL_DEPTH}
use Rattle.tp_value.specs.declared.Place.{Place}
use Rattle.loop_syntax.specs.declared.Name.{Name}
use Rattle.loop_syntax.specs.declared.Carry.{Carry}
use Rattle.loop_syntax.specs.declared.Reduce.{Reduce}
use Rattle.loop_syntax.specs.declared.Stmt.{Stmt}
use Rattle.loop_syntax.specs.declared.Program.{Program}
use Rattle.loop_rules.specs.declared.part.Part.{Part}
use Rattle.loop_rules.specs.declared.part.Part.TheVariants.{OfSize, OfFunc, OfMain}
use Rattle.loop_rules.specs.Names.{item_of}
use Rattle.loop_rules.specs.Carries.{is_some_item, carries}
use Rattle.loop_rules.specs.Keeps.{in_function, in_par_of_main}
use Rattle.loop_rules.specs.Reading.{ReadsTable}
use Rattle.loop_rules.specs.Reductions.{any_loop}
use Rattle.loop_rules.specs.Sites.{Loop, Act, DeclaresTable, DeclaresFunc, DeclaresAll, Declares}
use Rattle.loop_rules.specs.Sites.{Uses, Assigns, Folds, AssignsBoth, NamesTable, ReadsCell}
use Rattle.loop_rules.specs.Sites.{WritesCell, Calls, Evaluates, Shows, Parallel, Leaves, LeavesAll, Spot, in_list}
use Rattle.loop_rules.specs.Sites.{in_par, the_loop}
use Rattle.loop_meaning.specs.Calls.{setting}
use Rattle.loop_meaning.specs.Cells.{Body, read_cells, write_cells, bodies_of, run_of}
use Rattle.loop_meaning.specs.State.{State, Emits, Ran}
use Rattle.loop_meaning.specs.Statements.{run_list}
use Rattle.loop_check.specs.Spared.{Spares, CallSpares, call_of, Spared}
use Rattle.loop_check.specs.Unbroken.{NoneBroken}
use Rattle.loop_check.proofs.Lists.{each_at, contains_append}
use Rattle.loop_check.proofs.Bools.{no_both}
use Rattle.loop_check.proofs.Keeps.{Mode, NoteOk, Good, ActOk, SitesOk, iteration_ok, list_ok}
use Rattle.loop_check.proofs.Calls.{QuietFuncs, call_ok}
use Rattle.loop_check.proofs.Fine.{Fine, AllFine, at_none, quiet_funcs}
use Rattle.loop_check.proofs.Walk.{list_walk}
use Rattle.loop_check.proofs.Bodies.{HasStatements, body_at, each_par}
use Rattle.loop_check.proofs.Shapes.{Inside, any_round, read_round, write_carried}
use Rattle.loop_check.proofs.Law.{notes_reads, notes_writes}

-- what an iteration of that loop may touch, where these `par` loops are round it
abbrev spared_mode : Loop → List Loop → State → Mode
spared_mode r outer start = record {
  frozen = λ y. ⊥;
  stands = λ y. 0;
  holds = λ y. pos 0;
  reads = λ t a b. item_of r.carries t ≡ None → any_loop (carries t) outer ≡ false;
  writes = λ t a b. item_of r.carries t ≡ None → ⊥;
  shows = ⊥;
  tables = start.tables;
  output = start.output;
}

-- where nothing may be printed
pub silent : (part : Part) (n m : ℕ) → HasStatements part → n ≡ suc m → (q : Place) → in_function part q ≡ [] → in_par_of_main part n q ≡ [] → ⊥
silent OfSize n m s e q f g = s
silent OfFunc n m s e q f g = absurd (cc)
silent OfMain n m s e q f g = let h : in_par_of_main OfMain (suc m) q ≡ [] = subst (λ k. in_par_of_main OfMain k q ≡ []) e g in absurd (cc)

module _ (prog : Program) (r : Loop) (outer : List Loop) (start : State) where
  abbrev Below : Spot → Type 0
  Below w = (m : ℕ) × (w.depth ≡ suc m)

  -- a spot inside the loop
  abbrev pub Within : Spot → Type 0
  Within w = Inside r outer w.rounds × (HasStatements w.part × Below w)

  call_round : (c : Name) (n : ℕ) (w : Spot) → Fine prog (Calls c n) w → Within w → (t : List ℕ) → ReadsTable prog c.text.items t → any_loop (carries t) outer ≡ false
  call_round c n w f i t reads = go (any_loop (carries t) outer) refl
    where
      go : (b : Bool) → any_loop (carries t) outer ≡ b → b ≡ false
      go false e = refl
      go true e = absurd (f.f8 c n refl t reads (any_round (carries t) r outer w.rounds i.0 e))

  site_spared : (a : Act) (w : Spot) → Fine prog a w → Within w → ActOk (spared_mode r outer start) prog a
  site_spared (ReadsCell t a b) w f i = λ s m n fixed ea eb none. read_round r outer t.text.items none a b w.rounds i.0 (at_none t _ f.f5)
  site_spared (WritesCell t a b) w f i = λ s m n fixed ea eb none. write_carried r outer t.text.items a b w.rounds none i.0 (at_none t _ f.f4)
  site_spared (Calls c n) w f i = λ t reads l m none. call_round c n w f i t reads
  site_spared (Shows q) w f i = silent w.part w.depth i.1.1.0 i.1.0 i.1.1.1 q f.f7 f.f9
  site_spared (Assigns y) w f i = λ z q. absurd q
  site_spared (Folds y) w f i = λ z q. absurd q
  site_spared (DeclaresTable t) w f i = tt
  site_spared (DeclaresFunc d) w f i = tt
  site_spared (DeclaresAll ys) w f i = tt
  site_spared (Declares y) w f i = tt
  site_spared (Uses y) w f i = tt
  site_spared (AssignsBoth y z) w f i = tt
  site_spared (NamesTable t) w f i = tt
  site_spared (Evaluates e) w f i = tt
  site_spared (Parallel p q l) w f i = tt
  site_spared (Leaves y) w f i = tt
  site_spared (LeavesAll ys) w f i = λ z q. absurd q

  list_spared : (w : Spot) → Within w → (ss : List Stmt) → AllFine prog (in_list w ss) → SitesOk (spared_mode r outer start) prog (in_list w ss)
  list_spared w i ss h =
      list_walk (Fine prog) (λ a w. ActOk (spared_mode r outer start) prog a) Within site_spared
      (λ w y i. i)
      (λ w y i. i)
      (λ w y cs rs p q f c i. (inr (record { items = f.f6; targets = f.f3 }, i.0), (i.1.0, (w.depth, refl))))
      w i ss h

-- ---- one `par`

abbrev AllSpare : Program → Body → Type 0
AllSpare p b = (fuel depth : ℕ) (s : State) (i : ℤ) → Spares b s (run_of p fuel depth b i s)

module _ (p : Program) (quiet : QuietFuncs p) (w : Spot) (x : Name) (cs : List Carry) (rs : List Reduce) where
  iteration_good : (body : List Stmt) → HasStatements w.part → AllFine p (in_list (in_par w x cs rs) body) → (fuel depth : ℕ) (s : State) (i : ℤ)
      → Good (spared_mode (the_loop w x cs rs) w.rounds s) (run_of p fuel depth (body_at w x cs rs body) i s)
  iteration_good body part inner fuel depth s i =
      iteration_ok mode p fuel x.text.items (run_list (setting p fuel depth rs) body) [] i tt
      (list_ok mode p (in_par w x cs rs) (setting p fuel depth rs) (call_ok p quiet fuel (MAX_CALL_DEPTH - depth) mode) body
      (list_spared p (the_loop w x cs rs) w.rounds s (in_par w x cs rs) (inl (refl, refl), (part, (w.depth, refl))) body inner))
      s (record { found = λ y f. absurd f; written = λ h. refl; shown = λ h. refl })
    where
      mode : Mode
      mode = spared_mode (the_loop w x cs rs) w.rounds s

  -- a table that is touched
  touched : (t : List ℕ) → (item_of cs t ≡ None → any_loop (carries t) w.rounds ≡ false) → any_loop (carries t) w.rounds ≡ true → is_some_item (item_of cs t) ≡ true
  touched t f h = go (item_of cs t) refl
    where
      go : (o : Option Carry) → item_of cs t ≡ o → is_some_item o ≡ true
      go None e = absurd (no_both _ h (f e))
      go (Some c) e = refl

  par_spares : (body : List Stmt) → HasStatements w.part → AllFine p (in_list (in_par w x cs rs) body) → AllSpare p (body_at w x cs rs body)
  par_spares body part inner fuel depth s i =
      let r : Ran = run_of p fuel depth (body_at w x cs rs body) i s in
      let mode : Mode = spared_mode (the_loop w x cs rs) w.rounds s in
      let good : Good (spared_mode (the_loop w x cs rs) w.rounds s) r = iteration_good body part inner fuel depth s i in
      record {
        tables = λ c h. touched c.table (elim (contains_append (read_cells r.notes) (write_cells r.notes) c h) [
          | inl k ↦ notes_reads mode r.notes c good.notes k
          | inr k ↦ (λ e. absurd (notes_writes mode r.notes c good.notes k e))
        ]);
        output = good.fixed.shown (λ q. q);
        emits = λ t h. each_at (NoteOk mode) r.notes (Emits t) good.notes h;
      }

-- ---- calls

-- what a call of that function may touch
abbrev call_mode : Program → List ℕ → State → Mode
call_mode p f start = record {
  frozen = λ y. ⊥;
  stands = λ y. 0;
  holds = λ y. pos 0;
  reads = λ t a b. ReadsTable p f t;
  writes = λ t a b. ⊥;
  shows = ⊥;
  tables = start.tables;
  output = start.output;
}

call_spares : (p : Program) → QuietFuncs p → (f : List ℕ) (fuel depth : ℕ) (place : Place) (ns : List ℤ) (s : State) → CallSpares p f s (call_of p fuel depth f place ns s)
call_spares p quiet f fuel depth place ns s =
    let r : Ran = call_of p fuel depth f place ns s in
    let mode : Mode = call_mode p f s in
    let good : Good (call_mode p f s) r = call_ok p quiet fuel (MAX_CALL_DEPTH - depth) (call_mode p f s) f place ns [] s (λ t k i j. k) tt
    (record { found = λ y h. absurd h; written = λ h. refl; shown = λ h. refl }) in
    record {
      tables = good.fixed.written (λ t i j q. q);
      writes = λ c h. notes_writes mode r.notes c good.notes h;
      output = good.fixed.shown (λ q. q);
      emits = λ t h. each_at (NoteOk mode) r.notes (Emits t) good.notes h;
      reads = λ c h. notes_reads mode r.notes c good.notes h;
    }

-- ---- a program

pub spared_law : (p : Program) → NoneBroken p → Spared p
spared_law p none =
    let quiet = quiet_funcs p none in
    let all = each_par p none (AllSpare p) (λ w x cs rs body place later part a b c d. par_spares p quiet w x cs rs body part d) in
    record { each = λ b h. each_at (AllSpare p) (bodies_of p) b all h; calls = call_spares p quiet }
