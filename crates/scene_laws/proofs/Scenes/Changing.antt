-- Tables that differ from others in some of their cells alone.
use Rattle.std.proofs.Common.{◌≡◌, ℕ, true, List, [], ◌∷◌, ◌++◌, refl, sym, ◌∙◌}
use Rattle.std.specs.Prelude.{ℤ}
use Rattle.tp_value.specs.declared.Place.{Place}
use Rattle.tp_value.specs.declared.Table.{Table}
use Rattle.loop_syntax.specs.declared.ParLoop.{ParLoop}
use Rattle.loop_syntax.specs.declared.Program.{Program}
use Rattle.loop_meaning.specs.Calls.{call_at}
use Rattle.loop_meaning.specs.State.{Note, State, has_cell, table_of}
use Rattle.loop_meaning.specs.State.{write_cell}
use Rattle.loop_meaning.proofs.Traces.{Tells, any_funcs, any_list, traced_call, traced_iterate}
use Rattle.loop_meaning.proofs.Traces.{traced_list}
use Rattle.frame_machine.specs.Iterating.{iterations_in}
use Rattle.frame_machine.specs.Parts.{AgreeOn, Cells, NotesKeep, Outside}
use Rattle.frame_machine.proofs.Guarding.{write_guarded}
use Rattle.frame_machine.proofs.Tables.{agree_refl, agree_sym, agree_trans}
use Rattle.scene_laws.proofs.Scenes.Cells.{names_write}
use Rattle.scene_laws.proofs.Scenes.Tables.{table_names}

-- on fewer cells
pub agree_fewer : (A B : Cells) (us vs : List Table)
    → ((t : List ℕ) (i j : ℤ) → B t i j → A t i j) → AgreeOn A us vs → AgreeOn B us vs
agree_fewer A B us vs fewer h x = record {
  rows = (h x).rows;
  cols = (h x).cols;
  size = (h x).size;
  cells = λ i j b g. (h x).cells i j (fewer x i j b) g;
}

-- The second tables are the first ones, but for these cells. Where there is no such cell, they are
-- the very same.
pub record Changed (W : Cells) (ts us : List Table) : Type 0 where
  pub agree : AgreeOn (Outside W) ts us
  pub named : table_names us ≡ table_names ts
  pub none : ((t : List ℕ) (i j : ℤ) → W t i j → ⊥) → us ≡ ts

pub changed_refl : (W : Cells) (ts : List Table) → Changed W ts ts
changed_refl W ts = record {
  agree = agree_refl (Outside W) ts;
  named = refl;
  none = λ empty. refl;
}

pub changed_back : (W : Cells) (ts us : List Table) → Changed W ts us → Changed W us ts
changed_back W ts us h = record {
  agree = agree_sym (Outside W) ts us h.agree;
  named = sym h.named;
  none = λ empty. sym (h.none empty);
}

pub changed_trans : (W : Cells) (ts us vs : List Table) → Changed W ts us → Changed W us vs
    → Changed W ts vs
changed_trans W ts us vs first second = record {
  agree = agree_trans (Outside W) ts us vs first.agree second.agree;
  named = second.named ∙ first.named;
  none = λ empty. second.none empty ∙ first.none empty;
}

-- in more cells
pub changed_more : (V W : Cells) (ts us : List Table)
    → ((t : List ℕ) (i j : ℤ) → V t i j → W t i j) → Changed V ts us → Changed W ts us
changed_more V W ts us more h = record {
  agree = agree_fewer (Outside V) (Outside W) ts us
      (λ t i j apart written. apart (more t i j written)) h.agree;
  named = h.named;
  none = λ empty. h.none (λ t i j written. empty t i j (more t i j written));
}

-- where one of them is written
pub changed_write : (W : Cells) (ts : List Table) (t : List ℕ) (i j n : ℤ)
    → has_cell (table_of ts t) i j ≡ true → W t i j → Changed W ts (write_cell ts t i j n)
changed_write W ts t i j n has written = record {
  agree = write_guarded W ts t i j n has written;
  named = names_write ts t i j n;
  none = λ empty. absurd (empty t i j written);
}

-- ---- what iterations change

module _ (R W : Cells) where
  abbrev Changes : List Note → List Table → List ℕ → List Table → List ℕ → Type 0
  Changes ns ts o us q = NotesKeep R W ns → Changed W ts us

  pub first_kept : (ns ms : List Note) → NotesKeep R W (ns ++ ms) → NotesKeep R W ns
  first_kept [] ms keeps = tt
  first_kept (n ∷ ns) ms keeps = (keeps.0, first_kept ns ms keeps.1)

  pub later_kept : (ns ms : List Note) → NotesKeep R W (ns ++ ms) → NotesKeep R W ms
  later_kept [] ms keeps = keeps
  later_kept (n ∷ ns) ms keeps = later_kept ns ms keeps.1

  changes : Tells Changes true true
  changes = record {
    nothing = λ ts o keeps. changed_refl W ts;
    joins = λ ns ms ts o us p vs q first second keeps.
        changed_trans W ts us vs (first (first_kept ns ms keeps)) (second (later_kept ns ms keeps));
    reads = λ x i j ts o keeps. changed_refl W ts;
    chance = λ ts o keeps. changed_refl W ts;
    puts = λ may x i j n ts o has keeps. changed_write W ts x i j n has keeps.0;
    shows = λ may ts o more keeps. changed_refl W ts;
    emits = λ may x ts o more keeps. changed_refl W ts;
  }

  -- iterations change the cells that they note as written alone
  pub iterations_change : (p : Program) (fuel room : ℕ) (l : ParLoop) (again begin : List Note)
      (n : ℕ) (i : ℤ) (s : State)
      → NotesKeep R W (iterations_in p fuel room l again begin n i s).notes
      → Changed W s.tables (iterations_in p fuel room l again begin n i s).state.tables
  iterations_change p fuel room l again begin n i s keeps =
      (traced_iterate Changes true true changes fuel n l.var.text.items _ again begin i
      (λ ts o any. changed_refl W ts) (λ ts o any. changed_refl W ts)
      (traced_list Changes true true changes fuel (call_at p.funcs.items fuel room)
      (traced_call Changes true true changes p.funcs.items (any_funcs p.funcs.items) fuel room)
      l.reduces.items l.body.items (any_list l.body.items))).links s keeps

  -- so does a call
  pub call_changes : (p : Program) (fuel room : ℕ) (f : List ℕ) (place : Place) (ns : List ℤ)
      (begin : List Note) (s : State)
      → NotesKeep R W (call_at p.funcs.items fuel room f place ns begin s).ran.notes
      → Changed W s.tables (call_at p.funcs.items fuel room f place ns begin s).ran.state.tables
  call_changes p fuel room f place ns begin s keeps =
      (traced_call Changes true true changes p.funcs.items (any_funcs p.funcs.items) fuel room f
      place ns begin (λ ts o any. changed_refl W ts)).links s keeps
