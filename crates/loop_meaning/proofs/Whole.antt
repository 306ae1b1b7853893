-- The run of a whole program.
use Rattle.std.proofs.Common.{◌≡◌, ◌<◌, ℕ, ℤ, Bool, true, false, min, nat_lt, List, [], ◌∷◌, refl}
use Rattle.std.proofs.Common.{sym, ap, arith}
use Rattle.tp_value.specs.declared.Stop.{Stop}
use Rattle.tp_value.specs.declared.Stop.TheVariants.{Done}
use Rattle.tp_value.specs.declared.Table.{Table}
use Rattle.tp_value.specs.declared.Outcome.{Outcome}
use Rattle.loop_syntax.specs.declared.Program.{Program}
use Rattle.loop_syntax.specs.declared.TableDecl.{TableDecl}
use Rattle.loop_syntax.specs.declared.TableDecl.TheVariants.{Input, Made}
use Rattle.loop_meaning.specs.State.{table_of, State, Ran}
use Rattle.loop_meaning.specs.Meaning.{whole_run, meaning, outcome_of, make_tables, add_table}
use Rattle.loop_meaning.specs.Meaning.{is_too_large, input_cells, first_state}
use Rattle.loop_meaning.specs.Statements.{given_two, run_list}
use Rattle.loop_meaning.specs.Calls.{setting}
use Rattle.std.proofs.lemmas.Bool.{ltb-true, ltb-false}
use Rattle.std.proofs.lemmas.Bool.Decides.{nat_tests}
use mathlib.Core.Path.{fun_ext}
use Rattle.tp_value.specs.declared.limits.TheConstants.{MAX_TABLE_CELLS}
use Rattle.loop_meaning.specs.declared.plain.TheConstants.{TOO_MANY_CELLS}
use Rattle.loop_meaning.specs.Ends.{Ends}
use Rattle.loop_meaning.proofs.Runs.{after_done, after_stopped, ends_alike}

outcome_is : (r : Ran) (x : Stop) (o : List ℕ) (s : State) → Ends r x s → o ≡ s.output → outcome_of r ≡ record { stop = x; output = o; ticks = s.ticks }
outcome_is r x o s e h = rw (e.stop, e.state, h) refl

pub meaning_is : (p : Program) (ts : List Table) (fuel : ℕ) (x : Stop) (o : List ℕ) (s : State) → Ends (whole_run p ts fuel) x s → o ≡ s.output → ◌≡◌ {A = Outcome} (record { stop = x; output = o; ticks = s.ticks }) (meaning p ts fuel)
unfolding meaning
meaning_is p ts fuel x o s e h = sym (outcome_is _ x o s e h)

pub whole_done : (p : Program) (ts : List Table) (fuel : ℕ) (s t u : State) (x : Stop) → s ≡ first_state → Ends (make_tables ts (input_cells p.tables.items ts) p.tables.items s) Done t → Ends (run_list (setting p fuel 0 []) p.main.items t) x u → Ends (whole_run p ts fuel) x u
unfolding whole_run
whole_done p ts fuel s t u x q e f = ends_alike (after_done _ t _ (rw q at e)) f

pub whole_stopped : (p : Program) (ts : List Table) (fuel : ℕ) (s t : State) (x : Stop) → s ≡ first_state → Ends (make_tables ts (input_cells p.tables.items ts) p.tables.items s) x t → (x ≡ Done → ⊥) → Ends (whole_run p ts fuel) x t
unfolding whole_run
whole_stopped p ts fuel s t x q e d = after_stopped _ x t _ (rw q at e) d

-- ---- too many cells are as good as any greater number

too_large : (c : ℕ) (m n : ℤ) → MAX_TABLE_CELLS < c → is_too_large c m n ≡ true
too_large c m n h = grind (arith, nat_tests)

all_large : (ts : List Table) (c d : ℕ) (ds : List TableDecl) (s : State) → MAX_TABLE_CELLS < c → MAX_TABLE_CELLS < d → make_tables ts c ds s ≡ make_tables ts d ds s
all_large ts c d [] s p q = refl
all_large ts c d (Input x ∷ ds) s p q = all_large ts c d ds (add_table (table_of ts x.text.items) s) p q
all_large ts c d (Made x a b ∷ ds) s p q = ap (given_two a b s) (fun_ext (λ m. fun_ext (λ n. rw (too_large c m n p, too_large d m n q) refl)))

pub tables_capped : (ts : List Table) (c : ℕ) (ds : List TableDecl) (s : State) → make_tables ts (min c TOO_MANY_CELLS) ds s ≡ make_tables ts c ds s
tables_capped ts c ds s = go (nat_lt MAX_TABLE_CELLS c) refl
  where
    go : (b : Bool) → nat_lt MAX_TABLE_CELLS c ≡ b → make_tables ts (min c TOO_MANY_CELLS) ds s ≡ make_tables ts c ds s
    go true h =
        let more : MAX_TABLE_CELLS < c = ltb-true MAX_TABLE_CELLS c h in
        all_large ts (min c TOO_MANY_CELLS) c ds s (omega arith) more
    go false h =
        let e : min c TOO_MANY_CELLS ≡ c = omega (arith, ltb-false MAX_TABLE_CELLS c h) in
        rw e refl
