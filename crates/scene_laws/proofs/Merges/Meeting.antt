-- Where a scene allows the writes that iterations note, it may meet the tables behind them as well.
use Rattle.std.proofs.Common.{◌≡◌, ℕ, true, List, [], ◌∷◌}
use Rattle.std.specs.Prelude.{ℤ, ⊤}
use Rattle.std.specs.List.{AllByRecursion}
use Rattle.tp_value.specs.declared.Table.{Table}
use Rattle.loop_syntax.specs.declared.ParLoop.{ParLoop}
use Rattle.loop_syntax.specs.declared.Program.{Program}
use Rattle.loop_meaning.specs.Calls.{call_at}
use Rattle.loop_meaning.specs.State as meaning
use Rattle.loop_meaning.specs.State.{Chance, Emits, Note, Reads, Writes, has_cell, table_of}
use Rattle.loop_meaning.specs.State.{write_cell}
use Rattle.loop_meaning.specs.Statements.{run_list}
use Rattle.loop_meaning.proofs.Traces.{Tells, Traced, any_funcs, any_list, traced_call}
use Rattle.loop_meaning.proofs.Traces.{traced_iterate, traced_list}
use Rattle.tpal_syntax.specs.Listing.{Listing}
use Rattle.frame_machine.specs.Iterating.{body_setting, iterations_in}
use Rattle.scene_laws.proofs.Counts.Lists.{all_behind}
use Rattle.scene_laws.proofs.Scenes.Regions.{all_front}
use Rattle.scene_laws.proofs.Scenes.Results.{Result, noting}
use Rattle.scene_laws.proofs.Scenes.Scene.{Scene}

-- behind a noted write into a cell of its table, tables may be met if they might before it
abbrev KeepsMet : (List Table → Type 0) → Note → Type 0
KeepsMet Can (Reads t a b) = ⊤
KeepsMet Can (Writes t a b) =
    (n : ℤ) (ts : List Table) → has_cell (table_of ts t) a b ≡ true → Can ts
    → Can (write_cell ts t a b n)
KeepsMet Can (Emits t) = ⊤
KeepsMet Can Chance = ⊤

module _ (Can : List Table → Type 0) where
  abbrev Stays : List Note → List Table → List ℕ → List Table → List ℕ → Type 0
  Stays ns ts o us q = AllByRecursion (KeepsMet Can) ns → Can ts → Can us

  stays : Tells Stays true true
  stays = record {
    nothing = λ ts o all can. can;
    joins = λ ns ms ts o us q vs r h k all can. k (all_behind (KeepsMet Can) ns ms all)
        (h (all_front (KeepsMet Can) ns ms all) can);
    reads = λ x a b ts o all can. can;
    chance = λ ts o all can. can;
    puts = λ w x a b n ts o has all can. all.0 n ts has can;
    shows = λ w ts o more all can. can;
    emits = λ w x ts o more all can. can;
  }

  iterations_stay : (p : Program) (fuel room : ℕ) (l : ParLoop) (again begin : List Note) (n : ℕ)
      (i : ℤ) → Traced Stays true true stays (iterations_in p fuel room l again begin n i)
  iterations_stay p fuel room l again begin n i =
      traced_iterate Stays true true stays fuel n l.var.text.items
      (run_list (body_setting p fuel room l) l.body.items) again begin i (λ ts o all can. can)
      (λ ts o all can. can)
      (traced_list Stays true true stays fuel (call_at p.funcs.items fuel room)
      (traced_call Stays true true stays p.funcs.items (any_funcs p.funcs.items) fuel room)
      l.reduces.items l.body.items (any_list l.body.items))

module _ {code : Listing} {heartbeat z : ℕ} (S : Scene code heartbeat z) (i : S.World) where
  -- the writes of what is given in a world keep what may be met there
  keep_met : (ns : List Note) (r : Result) → S.given i (noting ns r)
      → AllByRecursion (KeepsMet (S.can i)) ns
  keep_met [] r given = tt
  keep_met (Reads t a b ∷ ns) r given =
      (tt, keep_met ns r (S.fewer i (Reads t a b ∷ []) (noting ns r) given))
  keep_met (Writes t a b ∷ ns) r given = (
    λ n ts has can. S.allows i t a b n ts (noting ns r) has given can,
    keep_met ns r (S.fewer i (Writes t a b ∷ []) (noting ns r) given),
  )
  keep_met (Emits t ∷ ns) r given =
      (tt, keep_met ns r (S.fewer i (Emits t ∷ []) (noting ns r) given))
  keep_met (Chance ∷ ns) r given =
      (tt, keep_met ns r (S.fewer i (Chance ∷ []) (noting ns r) given))

  -- the tables behind iterations that are given may be met, if those before them may
  pub met_behind : (p : Program) (fuel room : ℕ) (l : ParLoop) (again begin : List Note) (n : ℕ)
      (m : ℤ) (s : meaning.State) (r : Result)
      → S.given i (noting (iterations_in p fuel room l again begin n m s).notes r)
      → S.can i s.tables → S.can i (iterations_in p fuel room l again begin n m s).state.tables
  met_behind p fuel room l again begin n m s r given =
      (iterations_stay (S.can i) p fuel room l again begin n m).links s
      (keep_met (iterations_in p fuel room l again begin n m s).notes r given)
