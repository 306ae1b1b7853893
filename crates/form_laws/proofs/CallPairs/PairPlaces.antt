-- A pair of calls in a scene, with what follows it, and a task of its first function that was
-- diverted where the pair's mark is the oldest.
use Rattle.std.proofs.Common.{◌<◌, ◌≡◌, ℕ, suc, ◌+◌, ◌≤◌, ◌^◌, false, All, List, [], ◌∷◌, length}
use Rattle.std.proofs.Common.{Some, arith}
use Rattle.std.specs.Prelude.{ℤ, pos}
use Rattle.std.specs.List.{All, AllByRecursion}
use Rattle.beat_count.specs.BeatState.{BeatState}
use Rattle.stack_marks.specs.declared.mark.Mark.{Mark}
use Rattle.stack_marks.specs.Stacks.{StackValue, word_at}
use Rattle.tp_value.specs.declared.limits.TheConstants.{MAX_CALL_DEPTH, MAX_PARAMETERS}
use Rattle.tp_value.specs.declared.Place.{Place}
use Rattle.tp_value.specs.declared.Table.{Table}
use Rattle.loop_syntax.specs.declared.Name.{Name}
use Rattle.loop_syntax.specs.declared.Program.{Program}
use Rattle.loop_meaning.specs.Calls.{call_at}
use Rattle.loop_meaning.specs.declared.value.Variable.{Variable}
use Rattle.loop_meaning.specs.InRange.{TableInRange}
use Rattle.loop_meaning.specs.Only.{IsNeverLeft}
use Rattle.loop_meaning.specs.State as meaning
use Rattle.loop_meaning.specs.State.{Chance, Note, Ran}
use Rattle.loop_meaning.specs.Statements.{Called, set_var, with_call}
use Rattle.tpal_syntax.specs.declared.instructions.Instr.{Instr}
use Rattle.tpal_syntax.specs.declared.instructions.Term.{Term}
use Rattle.tpal_syntax.specs.declared.sites.CallSite.{CallSite}
use Rattle.tpal_syntax.specs.declared.words.Word.{Word}
use Rattle.tpal_syntax.specs.declared.words.Word.TheVariants as word
use Rattle.tpal_syntax.specs.Listing.{Listing}
use Rattle.tpal_machine.specs.Owes.{Bound}
use Rattle.tpal_machine.specs.State as machine
use Rattle.frame_machine.specs.FrameLaws.{LawfulCalls, child_start}
use Rattle.frame_machine.specs.Modes.{Modes}
use Rattle.handler_gen.specs.CallCuts.{child_call_cells}
use Rattle.join_gen.specs.CallJoins.{JoinsCalls}
use Rattle.scene_laws.specs.Code.{IsCell}
use Rattle.scene_laws.specs.Layout.{Activation, Entry, kept_by_both, kept_cell, kept_mark}
use Rattle.scene_laws.specs.Layout.{kept_record, levels_cell, value_cell, kept_argument}
use Rattle.form_laws.specs.Functions.{HasRoom}
use Rattle.scene_laws.specs.Pairs.{IsPair}
use Rattle.scene_laws.proofs.Scenes.Activations.{StandsFrom}
use Rattle.form_laws.proofs.Forms.Arguments.{AreIn, are_in_same}
use Rattle.form_laws.proofs.Forms.Calls.{Caller, Keeping, Kept}
use Rattle.form_laws.proofs.CallPairs.PairChildren.{child_part}
use Rattle.form_laws.proofs.CallPairs.PairCuts.{IsPairChild, IsCutPair, pair_child}
use Rattle.scene_laws.proofs.Pairs.PairPromises.{call_ending}
use Rattle.scene_laws.proofs.Pairs.PairRuns.{call_end}
use Rattle.form_laws.proofs.CallPairs.PairScenes.{IsFirst, OwnCutOwed, RunsFirst, behind_first}
use Rattle.form_laws.proofs.CallPairs.PairScenes.{firsts}
use Rattle.form_laws.proofs.CallPairs.PairScenes.{first_scene, HoldsWhole, shared_region}
use Rattle.form_laws.proofs.CallPairs.PairStacks.{HasSecond}
use Rattle.scene_laws.proofs.Scenes.Pieces.{Host, Piece}
use Rattle.scene_laws.proofs.Scenes.Promises.{Promise}
use Rattle.scene_laws.proofs.Scenes.Regions.{AreShown, Region}
use Rattle.scene_laws.proofs.Scenes.Results.{Result}
use Rattle.scene_laws.proofs.Scenes.Scene.{IsDiverted, Scene}
use Rattle.scene_laws.proofs.Scenes.Tables.{table_names}
use Rattle.scene_laws.proofs.Scenes.Variables.{AreHeld, var_names}

-- the arguments of both calls: those of the second are kept
pub record Arguments (first second : ℕ) : Type 0 where
  pub numbers : List ℤ
  pub as_many : length numbers ≡ first
  pub kept_numbers : List ℤ
  pub kept_many : length kept_numbers ≡ second

-- A pair of calls at its place in a code, where a level of calls is left, with what goes on round
-- it, what ends it by both values, and what follows.
pub record PairAt (code : Listing) (heartbeat z : ℕ) (act : Activation) : Type 1 where
  pub S : Scene code heartbeat z
  pub names : List (List ℕ)
  pub lowest : S.lowest ≤ length names
  pub has_room : HasRoom act
  pub low : z + act.size ≤ 2 ^ 62
  pub fuel : ℕ
  pub fuel_is : S.fuel ≡ fuel
  pub room : ℕ
  pub few : room ≤ MAX_CALL_DEPTH
  pub at_most : suc room ≤ MAX_CALL_DEPTH
  pub levels : S.levels ≡ suc room
  -- the program, both functions, and what its rules say of them
  pub p : Program
  pub modes : Modes
  pub f : Name
  pub g : Name
  pub rules : LawfulCalls p modes f.text.items g.text.items
  pub never : All IsNeverLeft p.funcs.items
  -- what may be read anywhere is held wholly
  pub whole : (w : S.World) (s : StackValue) → S.kept w s → HoldsWhole modes (S.region w)
  pub first : Entry
  pub second : Entry
  pub eight : second.parameters ≤ MAX_PARAMETERS
  pub high : z + (act.size + second.size) ≤ 2 ^ 62
  -- the variable that is given the first call's value
  pub x : Name
  pub fixed : List ℕ
  pub cell : ℕ
  pub is_cell : IsCell code act names fixed x.text.items cell
  pub may : S.may cell
  -- the code of the pair
  pub site : CallSite
  pub instrs : List Instr
  pub end : Term
  pub more : List Instr
  pub last : Term
  pub code_is : IsPair code act S.dispatch f.place cell second.parameters first second site instrs
      end more last
  pub place : IsCutPair code S.dispatch site
  pub joins : JoinsCalls code heartbeat site
  pub cells : site.cells ≡ act.size
  pub mark_is : site.mark ≡ kept_cell act kept_mark
  pub rec_is : site.rec ≡ kept_cell act kept_record
  pub fits : kept_cell act (kept_by_both second.parameters) ≤ act.size
  pub mark_fits : site.mark < act.size
  -- what ends it by the second call's value, and what follows
  pub ends : ℤ → meaning.State → Ran
  pub k : meaning.State → Result

module _ {code : Listing} {heartbeat z : ℕ} {act : Activation} (q : PairAt code heartbeat z act)
  where
    -- what ends it by both values
    abbrev pub finish : ℤ → ℤ → meaning.State → Ran
    finish v u t = q.ends u (set_var q.x v t)

    abbrev pub Args : Type 0
    Args = Arguments q.first.parameters q.second.parameters

    -- the second call's arguments are kept
    abbrev pub kept : Keeping code heartbeat z act q.fuel q.S q.names Args
    kept = record {
      Holds = λ a s. AreIn s z (kept_argument act) 0 a.kept_numbers;
      same = λ most a s t alike are. are_in_same s t z (kept_argument act) 0 a.kept_numbers
          (λ j from below. alike (z + kept_argument act j) (omega (arith, most))
          (omega (arith, below, a.kept_many, q.eight, q.fits))) are;
    }

    -- a call where the pair stands
    abbrev pub calls : List ℕ → Place → List ℤ → List Note → meaning.State → Called
    calls = call_at q.p.funcs.items q.fuel (suc q.room)

    abbrev pub first_call : Args → meaning.State → Called
    first_call a st = calls q.f.text.items q.f.place a.numbers (Chance ∷ []) st

    -- the second call, and what ends the pair, where the first call gave a value
    abbrev pub next_in : Args → ℤ → meaning.State → Ran
    next_in a v t = with_call (calls q.g.text.items q.g.place a.kept_numbers [] t) (finish v)

    abbrev pub Waiting : Type 0
    Waiting = Caller code heartbeat z act q.fuel q.S q.names Args

    abbrev pub Worlds : Type 0
    Worlds = Piece Waiting

    abbrev pub Runs : Worlds → List Mark → meaning.State → machine.State → Type 0
    Runs = RunsFirst code heartbeat z act q.fuel q.S q.names q.lowest q.has_room Args kept next_in
        q.k q.room q.code_is.between q.site q.mark_is q.mark_fits first_call q.modes

    abbrev pub First : Waiting → Result → Type 0
    First = IsFirst code heartbeat z act q.fuel q.S q.names q.lowest q.has_room Args kept next_in q.k
        q.room q.code_is.between q.site q.mark_is q.mark_fits first_call q.modes

    abbrev pub Firsts : Promise code heartbeat Worlds
    Firsts = firsts code heartbeat z act q.fuel q.S q.names q.lowest q.has_room Args kept next_in q.k
        q.room q.code_is.between q.site q.mark_is q.mark_fits first_call q.modes

    -- what follows the first call
    abbrev pub after_first : Waiting → meaning.State → Result
    after_first = behind_first code heartbeat z act q.fuel q.S q.names q.lowest q.has_room Args kept
        next_in q.k q.room q.code_is.between q.site q.mark_is q.mark_fits first_call q.modes

    abbrev pub KeptIn : Waiting → StackValue → Type 0
    KeptIn = Kept code heartbeat z act q.fuel q.S q.names q.lowest q.has_room Args kept next_in q.k
        q.room q.code_is.between

    abbrev pub CutsOwed : Type 0
    CutsOwed = OwnCutOwed code heartbeat z act q.fuel q.S q.names q.lowest q.has_room Args kept
        next_in q.k q.room q.code_is.between q.site q.mark_is q.mark_fits first_call q.modes

    abbrev pub scene_in : CutsOwed → Scene code heartbeat (z + act.size)
    scene_in = first_scene code heartbeat z act q.fuel q.S q.names q.lowest q.has_room Args kept
        next_in q.k q.room q.code_is.between q.site q.mark_is q.mark_fits first_call q.modes

    -- a diverted task of the first function whose oldest mark is the pair's; more marks may stand
    -- above it, and the result is that of the first call
    pub record PairCut : Type 0 where
      pub w : Waiting
      pub more : List Mark
      pub r : Result
      pub st : meaning.State
      pub state : machine.State
      pub none : q.S.marks w.world ≡ []
      pub from : AllByRecursion (StandsFrom (z + act.size + value_cell 0)) more
      pub diverted : IsDiverted q.S.dispatch state
      pub runs : Runs (Host w) more st state
      pub given : First w r

    -- the task that is cut shows these variables, holds this of these tables, and keeps these
    -- arguments; under a record its child has its activation
    pub record CutsChild (n : ℕ) (region : Region) (vs : List Variable) (ts : List Table)
        (ms : List ℤ)
        (state : machine.State) : Type 0 where
      pub named : var_names vs ≡ q.names
      pub few : length q.names ≤ act.most
      pub tabled : table_names ts ≡ act.tables
      pub ranged : All TableInRange ts
      pub held : AreShown region state.tables ts
      pub whole : HoldsWhole q.modes region
      pub limit : state.fuel.limit ≡ q.fuel
      pub many : length ms ≡ q.second.parameters
      pub has : HasSecond q.site z n state.stack (child_call_cells q.site z n state.stack)
      pub levels : word_at state.stack (pos (z + levels_cell)) ≡ Some (word.Int (pos (suc q.room)))
      pub vars : AreHeld state.stack z 0 vs
      pub args : AreIn state.stack z (kept_argument act) 0 ms

    -- what the child owes under each record
    abbrev pub ChildOwed : Type 0
    ChildOwed =
        (n : ℕ) (region : Region) (vs : List Variable) (ts : List Table) (ms : List ℤ)
        (state : machine.State) → CutsChild n region vs ts ms state →
        (words : List Word) (beat : BeatState)
        → IsPairChild code q.site z n state words beat
        → Bound code heartbeat false 0 (pair_child q.site z n state words beat)
        (call_ending (child_part n (shared_region region))
        (call_end (calls q.g.text.items q.g.place ms [] (child_start vs ts))))
