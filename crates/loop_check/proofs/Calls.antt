-- A call touches no more than what its function reads, itself or through calls, and prints nothing.
use Rattle.std.proofs.Common.{◌≡◌, ℕ, zero, suc, ℤ, pos, List, [], ◌++◌, Option, Some, None, refl}
use Rattle.std.proofs.Common.{Contains}
use Rattle.tp_value.specs.declared.TrapKind.TheVariants.{Deep}
use Rattle.tp_value.specs.declared.Stop.{Stop}
use Rattle.tp_value.specs.declared.Stop.TheVariants.{Done, Left, Trap, NoFuel}
use Rattle.loop_syntax.specs.declared.Func.{Func}
use Rattle.loop_syntax.specs.declared.Program.{Program}
use Rattle.loop_meaning.specs.declared.value.Variable.{Variable}
use Rattle.loop_rules.specs.Names.{func_of}
use Rattle.loop_rules.specs.Reading.{ReadsTable, itself, through}
use Rattle.loop_rules.specs.declared.part.Part.TheVariants.{OfFunc}
use Rattle.loop_rules.specs.Sites.{Act, DeclaresTable, DeclaresFunc, DeclaresAll, Declares, Uses}
use Rattle.loop_rules.specs.Sites.{Assigns, Folds, AssignsBoth, NamesTable, ReadsCell, WritesCell}
use Rattle.loop_rules.specs.Sites.{Calls, Evaluates, Shows, Parallel, Leaves, LeavesAll, Spot, Site, in_whole, in_list}
use Rattle.loop_rules.specs.Sites.{in_params, spot_of_list, func_spot, in_func, top, tables_of}
use Rattle.loop_meaning.specs.Calls.{bound, enter, no_value, call_on, call_at}
use Rattle.loop_meaning.specs.State.{State, Note, Ran, done, trapped, noted, after, tick}
use Rattle.loop_meaning.specs.Statements.{Called, Setting, given, run_list}
use Rattle.loop_check.proofs.Lists.{Each, each_left, each_right, each_of, each_at}
use Rattle.loop_check.proofs.Keeps.{Mode, Notes, Fixed, Good, ActOk, SitesOk, CallsOk, noted_ok}
use Rattle.loop_check.proofs.Keeps.{done_ok, after_ok, given_ok, tick_ok, list_ok}

abbrev pub Quiet : Act → Type 0
Quiet (WritesCell t a b) = ⊥
Quiet (Shows p) = ⊥
Quiet _ = Unit

-- no function writes a cell, or prints anything
abbrev pub QuietFuncs : Program → Type 0
QuietFuncs prog = (f : List ℕ) (g : Func) → func_of prog.funcs.items f ≡ Some g → Each (λ (s : Site). Quiet s.act) (in_func prog g)

abbrev pub ReadsOk : Mode → Program → List ℕ → Type 0
ReadsOk m prog f = (t : List ℕ) → ReadsTable prog f t → (i j : ℤ) → m.reads t i j

-- the same cells, with no variable that stays
abbrev pub loosened : Mode → Mode
loosened m = record {
  frozen = λ x. ⊥;
  stands = λ x. 0;
  holds = λ x. pos 0;
  reads = m.reads;
  writes = m.writes;
  shows = m.shows;
  tables = m.tables;
  output = m.output;
}

loose : (m : Mode) (s : State) (vs : List Variable) → Fixed m s → Fixed (loosened m) (record s { vars = vs })
loose m s vs h = record { found = λ x f. absurd f; written = h.written; shown = h.shown }

sites_ok : (m : Mode) (prog : Program) → QuietFuncs prog → (f : List ℕ) (g : Func) → func_of prog.funcs.items f ≡ Some g → ReadsOk m prog f → SitesOk (loosened m) prog (in_func prog g)
sites_ok m prog quiet f g e r = each_of (λ (s : Site). ActOk (loosened m) prog s.act) (in_func prog g) (λ s h. go s.act s.spot h)
  where
    go : (a : Act) (w : Spot) → Contains (in_func prog g) (record { act = a; spot = w }) → ActOk (loosened m) prog a
    go (ReadsCell t a b) w h = λ s i j x y z. r t.text.items (itself f g w t a b e h) i j
    go (WritesCell t a b) w h = absurd (each_at (λ (s : Site). Quiet s.act) (in_func prog g) (record { act = WritesCell t a b; spot = w }) (quiet f g e) h)
    go (Assigns x) w h = λ y q. absurd q
    go (Folds x) w h = λ y q. absurd q
    go (Calls c n) w h = λ t q i j. r t (through f g w c n t e h q) i j
    go (DeclaresTable t) w h = tt
    go (DeclaresFunc d) w h = tt
    go (DeclaresAll xs) w h = tt
    go (Declares x) w h = tt
    go (Uses x) w h = tt
    go (AssignsBoth x y) w h = tt
    go (NamesTable t) w h = tt
    go (Evaluates x) w h = tt
    go (Shows q) w h = absurd (each_at (λ (s : Site). Quiet s.act) (in_func prog g) (record { act = Shows q; spot = w }) (quiet f g e) h)
    go (Parallel p q l) w h = tt
    go (Leaves x) w h = tt
    go (LeavesAll xs) w h = λ y q. absurd q

restored : (m : Mode) (r : Ran) (s : State) → Fixed m s → Good (loosened m) r → Good m (record r { state = record r.state { vars = s.vars } })
restored m r s h g = record { fixed = record { found = h.found; written = g.fixed.written; shown = g.fixed.shown }; notes = g.notes }

enter_ok : (m : Mode) (prog : Program) → QuietFuncs prog → (k : Setting) → CallsOk (loosened m) prog k → (f : List ℕ) (o : Option Func) → func_of prog.funcs.items f ≡ o → ReadsOk m prog f → (ns : List ℤ) (b : List Note) (s : State) → Notes m b → Fixed m s → Good m (enter k o ns b s).ran
enter_ok m prog quiet k c f None e r ns b s hb h = noted_ok m prog b (done s) hb (done_ok m prog s h)
enter_ok m prog quiet k c f (Some g) e r ns b s hb h =
    let all = sites_ok m prog quiet f g e r in
    let body : List Site = in_list (func_spot prog g) g.body.items in
    let last : List Site = in_whole (spot_of_list (func_spot prog g) g.body.items) g.result in
    let params : List Site = in_params (top OfFunc (tables_of prog) prog.funcs.items) g.params.items in
    let all : SitesOk (loosened m) prog (body ++ last) = each_right _ params (body ++ last) (sites_ok m prog quiet f g e r).1 in
    let start : State = record s { vars = bound g.params.items ns } in
    restored m (after (noted b (run_list k g.body.items start)) (λ t. given g.result t (λ n. done t))) s h
    (after_ok (loosened m) prog (noted b (run_list k g.body.items start)) (λ t. given g.result t (λ n. done t))
    (noted_ok (loosened m) prog b (run_list k g.body.items start) hb
    (list_ok (loosened m) prog (func_spot prog g) k c g.body.items (each_left _ body last all) start (loose m s start.vars h)))
    (λ t q. given_ok (loosened m) prog (spot_of_list (func_spot prog g) g.body.items) g.result t (λ n. done t) q
    (each_right _ body last all) (λ n z. done_ok (loosened m) prog t q)))

on_ok : (m : Mode) (prog : Program) (x : Stop) (r : Ran) (go : State → Called) → Good m r → ((s : State) → Fixed m s → Good m (go s).ran) → Good m (call_on x r go).ran
on_ok m prog Done r go g f = noted_ok m prog r.notes (go r.state).ran g.notes (f r.state g.fixed)
on_ok m prog (Left n) r go g f = g
on_ok m prog (Trap k p) r go g f = g
on_ok m prog NoFuel r go g f = g

pub call_ok : (prog : Program) → QuietFuncs prog → (fuel room : ℕ) (m : Mode) → CallsOk m prog (record { reduces = []; fuel = fuel; call = call_at prog.funcs.items fuel room })
unfolding call_at
call_ok prog quiet fuel zero m f p ns b s r hb h =
    on_ok m prog (tick fuel s).stop (tick fuel s) (λ u. no_value (trapped Deep p u)) (tick_ok m prog fuel s h) (λ t g. record { fixed = g; notes = tt })
call_ok prog quiet fuel (suc room) m f p ns b s r hb h =
    on_ok m prog (tick fuel s).stop (tick fuel s) (enter (record { reduces = []; fuel = fuel; call = call_at prog.funcs.items fuel room }) (func_of prog.funcs.items f) ns b) (tick_ok m prog fuel s h)
    (λ t g. enter_ok m prog quiet (record { reduces = []; fuel = fuel; call = call_at prog.funcs.items fuel room }) (call_ok prog quiet fuel room (loosened m)) f (func_of prog.funcs.items f) refl r ns b t hb g)
