-- The code of functions is written where that of their statements and results is.
use Rattle.std.proofs.Common.{◌≡◌, ℕ, zero, suc, ◌+◌, ◌<◌, ◌≤◌, Bool, List, [], ◌∷◌, ◌++◌, length}
use Rattle.std.proofs.Common.{map, drop, get_or, Vec, refl, sym, ap, subst, ◌∙◌, arith}
use Rattle.std.proofs.Common.{append_assoc, append-nil}
use Rattle.std.specs.List.{AllByRecursion}
use Rattle.std.proofs.lemmas.List.{drop_more}
use Rattle.std.proofs.lemmas.List.Sums.{sum_by-cons}
use Rattle.std.specs.declared.alloc.Global.{Global}
use Rattle.loop_syntax.specs.declared.Func.{Func}
use Rattle.loop_syntax.specs.declared.Name.{Name}
use Rattle.loop_rules.specs.Names.{texts}
use Rattle.tpal_syntax.specs.declared.blocks.Block.{Block}
use Rattle.tpal_syntax.specs.declared.instructions.Instr.{Instr}
use Rattle.tpal_syntax.specs.declared.instructions.Term.{Term}
use Rattle.tpal_syntax.specs.declared.instructions.Term.TheVariants as term
use Rattle.tpal_syntax.specs.declared.instructions.Value.TheVariants as value
use Rattle.tpal_syntax.specs.Listing.{Listing}
use Rattle.expr_lower.specs.declared.scope.Scope.{Scope}
use Rattle.block_lower.specs.declared.body.Body.{Body}
use Rattle.block_lower.specs.declared.body.Callee.{Callee}
use Rattle.block_lower.specs.declared.output.Output.{Output}
use Rattle.block_lower.specs.declared.round.Round as told
use Rattle.block_lower.specs.Bodies.{entry, entries, activation, HasRoomFor}
use Rattle.scene_laws.specs.Heights.{FuncIsLow}
use Rattle.scene_laws.specs.Code.{Computes, Codes, load}
use Rattle.code_laws.specs.Fitting.{AllFit}
use Rattle.scene_laws.specs.Layout.{return_cell, Entry, Activation}
use Rattle.block_lower.specs.Lowering.{IsRound, WritesValue, LowersAll}
use Rattle.form_laws.specs.Functions.{HasRoom, IsFunction}
use Rattle.scene_laws.specs.Names.{Sees, SeesAfter, SeesBare, names_after_list}
use Rattle.block_lower.specs.Programs.{most_of, size_of, entry_at, entries_from, added_by_funcs}
use Rattle.block_lower.specs.Programs.{FuncIsSmall, FuncFitsIn, LowersFunc, activation_of}
use Rattle.block_lower.specs.Programs.{AreWritten, LowersFuncs}
use Rattle.scene_laws.specs.Round.{outermost}
use Rattle.scene_laws.specs.Sizes.{added_by_func, kept_by_list}
use Rattle.block_lower.specs.Writing.{label, next_label, IsFresh, Pushes, Closes, Stands, Continues}
use Rattle.block_lower.specs.Writing.{Leads}
use Rattle.block_lower.proofs.Written.Planning.{func_fits}
use Rattle.block_lower.proofs.Written.Standing.{sees_bare}
use Rattle.block_lower.proofs.Written.Writing.{pushed, closed_block, fresh_opens}

-- ---- lists

-- the next one and those behind it
pub next_dropped : {X : Type 0} (xs : List X) (i : ℕ) (x : X) → i < length xs → x ≡ get_or xs i x → drop i xs ≡ x ∷ drop (i + 1) xs
next_dropped {X} xs i x below is = drop_more xs i x below ∙ ap (λ (y : X). y ∷ drop (i + 1) xs) (sym is)

pub holds_at : {X : Type 0} (P : X → Type 0) (xs : List X) (i : ℕ) (x : X) → i < length xs → x ≡ get_or xs i x → AllByRecursion P xs → P x
holds_at P xs i x below is all = subst P (sym is) (from P xs i x below all)
  where
    from : {X : Type 0} (P : X → Type 0) (xs : List X) (i : ℕ) (d : X) → i < length xs → AllByRecursion P xs → P (get_or xs i d)
    from P [] i d below all = absurd (omega arith)
    from P (x ∷ xs) zero d below all = all.0
    from P (x ∷ xs) (suc i) d below all = from P xs i d (omega arith) all.1

-- ---- entries

entries_more : (cs : List Callee) (c : Callee) → entries (cs ++ c ∷ []) ≡ entries cs ++ entry c ∷ []
entries_more [] c = refl
entries_more (d ∷ ds) c = ap (λ es. entry d ∷ es) (entries_more ds c)

entry_same : (c : Callee) (label : ℕ) (f : Func) → c.name.items ≡ f.name.text.items → c.label ≡ label → c.parameters ≡ length f.params.items → c.size ≡ size_of f → entry c ≡ entry_at label f
entry_same c label f name there many size = rw (name, there, many, size) refl

-- the next callee has the next entry
pub entries_next : (cs : List Callee) (c : Callee) (calls : Bool) (label added : ℕ) (f : Func) (rest : List Func) (all : List Entry) → c.name.items ≡ f.name.text.items → c.label ≡ label → c.parameters ≡ length f.params.items → c.size ≡ size_of f → added ≡ added_by_func calls f
    → entries cs ++ entries_from calls label (f ∷ rest) ≡ all → entries (cs ++ c ∷ []) ++ entries_from calls (label + added) rest ≡ all
entries_next cs c calls label added f rest all name there many size blocks listed =
    let behind : List Entry = entries_from calls (label + added) rest in
    ap (λ (es : List Entry). es ++ behind) (entries_more cs c) ∙ append_assoc (entries cs) (entry c ∷ []) behind ∙ ap (λ (e : Entry). entries cs ++ e ∷ behind) (entry_same c label f name there many size)
    ∙ ap (λ (n : ℕ). entries cs ++ entry_at label f ∷ entries_from calls (label + n) rest) blocks ∙ listed

-- ---- names

pub texts_more : (xs : List Name) (x : Name) → texts (xs ++ x ∷ []) ≡ texts xs ++ x.text.items ∷ []
texts_more [] x = refl
texts_more (y ∷ ys) x = ap (λ ts. y.text.items ∷ ts) (texts_more ys x)

pub sees_parameter : (before : List Name) (x : Name) (first middle new : Scope) → SeesAfter (λ names. names ++ texts before) first middle → SeesAfter (λ names. names ++ x.text.items ∷ []) middle new → SeesAfter (λ names. names ++ texts (before ++ x ∷ [])) first new
sees_parameter before x first middle new all one names tables sees =
    subst (λ (ns : List (List ℕ)). Sees new ns tables)
    (append_assoc names (texts before) (x.text.items ∷ []) ∙ ap (λ ts. names ++ ts) (sym (texts_more before x)))
    (one (names ++ texts before) tables (all names tables sees))

pub sees_no_parameter : (scope : Scope) → SeesAfter (λ names. names ++ texts []) scope scope
sees_no_parameter scope names tables sees = subst (λ (ns : List (List ℕ)). Sees scope ns tables) (sym (append-nil names)) sees

-- a scope with no variable sees what another one with the same tables does
pub sees_tables : (first scope : Scope) → first.cells.items ≡ [] → scope.cells.items ≡ []
    → scope.regs ≡ first.regs → scope.tables ≡ first.tables → (tables : List (List ℕ))
    → SeesBare first [] tables → SeesBare scope [] tables
sees_tables first scope empty none same_regs same tables sees = record {
  sees = record {
    named = ap (λ (cs : List (Vec ℕ Global × ℕ)). map (λ (c : Vec ℕ Global × ℕ). c.0.items) cs) none;
    laid = rw none tt;
    listed = ap (λ (ts : Vec (Vec ℕ Global) Global). map (λ (t : Vec ℕ Global). t.items) ts.items) same
        ∙ sees.sees.listed;
  };
  bare = ap (λ (rs : Vec (Vec ℕ Global × ℕ) Global). rs.items) same_regs ∙ sees.bare;
}

-- ---- a function

pub room_of : (on : Body) (n : ℕ) (tables : List (List ℕ)) → HasRoomFor on n → HasRoom (activation on tables)
room_of on n tables room = record { few = room.few; room = omega (arith, room.room); fits = room.fits }

-- the activation of a function has room for its statements
pub func_room : (on : Body) (f : Func) → FuncIsSmall f → FuncIsLow f → on.most ≡ most_of f → on.size ≡ size_of f → HasRoomFor on (kept_by_list f.body.items)
func_room on f small low most size = record {
  few = rw most small.few;
  room = rw (most, size) (omega arith);
  fits = rw size (func_fits f low small.few);
}

pub func_written : (on : Body) (as_told : told.Round) (scope declared after : Scope) (f : Func) (kept : ℕ) (old inner valued new : Output) → IsRound outermost as_told → HasRoomFor on kept → length f.params.items ≤ on.most → IsFresh old
    → declared.regs ≡ scope.regs
    → SeesAfter (λ names. names ++ texts f.params.items) scope declared → LowersAll on as_told declared f.body.items old inner
    → after.regs ≡ declared.regs → SeesAfter (λ names. names_after_list names f.body.items) declared after
    → WritesValue after f.result 0 inner valued
    → ((code : Listing) → Stands code new → Continues code valued (load 1 return_cell ∷ []) (term.Jump (value.Reg 1)))
    → LowersFunc on scope f old new
func_written on as_told scope declared after f kept old inner valued new is_round room params fresh same_declared declares all same_after keeps writes returns code tables sees fits visible stands =
    let names : List (List ℕ) = texts f.params.items in
    let act : Activation = activation on tables in
    let regs : Vec (Vec ℕ Global × ℕ) Global → List (Vec ℕ Global × ℕ) = λ rs. rs.items in
    let bare : declared.regs.items ≡ [] = ap regs same_declared ∙ sees.bare in
    let inside : Sees declared names tables = declares [] tables sees.sees in
    let tail : List Instr = load 1 return_cell ∷ [] in
    let v : Leads code inner (λ instrs end. (end ≡ term.Jump (value.Reg 1)) × Computes code act [] (names_after_list names f.body.items) f.result 0 instrs tail) =
    writes code act (names_after_list names f.body.items) [] tail (term.Jump (value.Reg 1)) (sees_bare (ap regs same_after ∙ bare) (keeps names tables inside)) visible (returns code stands) in
    let b : Leads code old (λ instrs end. Codes code act outermost names f.body.items instrs end v.instrs v.end) = all code tables names outermost v.instrs v.end is_round (sees_bare bare inside) fits v.continues in (
      b.continues.closed,
      record {
        has_room = room_of on kept tables room;
        params = params;
        instrs = b.instrs;
        end = b.end;
        last = v.instrs;
        begins = fresh_opens code old b.instrs b.end fresh b.continues;
        statements = subst (λ (t : Term). Codes code act outermost names f.body.items b.instrs b.end v.instrs t) v.told.0 b.told;
        value = v.told.1;
      },
    )

-- the end of a function
pub return_written : (old loads new : Output) → Pushes (load 1 return_cell ∷ []) old loads → Closes (term.Jump (value.Reg 1)) loads new
    → (code : Listing) → Stands code new → Continues code old (load 1 return_cell ∷ []) (term.Jump (value.Reg 1))
return_written old loads new one close code stands =
    pushed code old loads (load 1 return_cell ∷ []) [] (term.Jump (value.Reg 1)) one (closed_block code loads new (term.Jump (value.Reg 1)) close stands)

-- ---- functions one behind the other

pub written_more : (code : Listing) (act : Activation) (fs : List Func) (f : Func) (at : ℕ) → AreWritten code act at fs
    → IsFunction code (activation_of act f) f (at + added_by_funcs act.calls fs) → AreWritten code act at (fs ++ f ∷ [])
written_more code act [] f at all is = (subst (λ (l : ℕ). IsFunction code (activation_of act f) f l) (omega arith) is, tt)
written_more code act (g ∷ gs) f at all is =
    let there : at + added_by_funcs act.calls (g ∷ gs) ≡ at + added_by_func act.calls g + added_by_funcs act.calls gs = omega (arith, sum_by-cons (added_by_func act.calls) g gs) in (
      all.0,
      written_more code act gs f (at + added_by_func act.calls g) all.1 (subst (λ (l : ℕ). IsFunction code (activation_of act f) f l) there is),
    )

fits_before : (tables : List (List ℕ)) (functions : List Entry) (fs gs : List Func) → AllByRecursion (FuncFitsIn tables functions) (fs ++ gs) → AllByRecursion (FuncFitsIn tables functions) fs
fits_before tables functions [] gs all = tt
fits_before tables functions (f ∷ fs) gs all = (all.0, fits_before tables functions fs gs all.1)

fits_behind : (tables : List (List ℕ)) (functions : List Entry) (fs gs : List Func) → AllByRecursion (FuncFitsIn tables functions) (fs ++ gs) → AllByRecursion (FuncFitsIn tables functions) gs
fits_behind tables functions [] gs all = all
fits_behind tables functions (f ∷ fs) gs all = fits_behind tables functions fs gs all.1

pub no_funcs_written : (on : Body) (scope : Scope) (old : Output) → LowersFuncs on scope [] old old
no_funcs_written on scope old code tables sees fits stands = (stands, tt)

-- the label of the open block is that of the next one less one, where nothing is written in it
pub fresh_label : (out : Output) → IsFresh out → next_label out ≡ label out + 1
fresh_label out fresh = let none : length out.traps.items ≡ 0 = ap (λ (bs : List Block). length bs) fresh.traps in omega (arith, none)

-- two bodies stand on the same functions
pub record StandAlike (on also : Body) : Type 0 where
  pub callees : on.callees ≡ also.callees
  pub calls : on.quiet_calls ≡ also.quiet_calls
  pub dispatch : on.dispatch ≡ also.dispatch

pub funcs_written : (base on : Body) (first scope : Scope) (fs : List Func) (f : Func)
    (old middle new : Output) → StandAlike on base → on.most ≡ most_of f → on.size ≡ size_of f
    → first.cells.items ≡ [] → scope.cells.items ≡ [] → scope.regs ≡ first.regs
    → scope.tables ≡ first.tables
    → IsFresh old → IsFresh middle → next_label middle ≡ next_label old + added_by_funcs base.quiet_calls fs
    → LowersFuncs base first fs old middle → LowersFunc on scope f middle new → LowersFuncs base first (fs ++ f ∷ []) old new
funcs_written base on first scope fs f old middle new alike most size empty none same_regs same
    fresh fresh_middle labels all one code tables sees fits stands =
    let own : FuncFitsIn tables (entries base.callees.items) f = (fits_behind tables (entries base.callees.items) fs (f ∷ []) fits).0 in
    let fit_named : AllFit tables (entries on.callees.items) on.most outermost (texts f.params.items) f.body.items =
    rw (alike.callees, most) own.fits in
    let w : Stands code middle × IsFunction code (activation on tables) f (label middle) =
    one code tables (sees_tables first scope empty none same_regs same tables sees) fit_named
    own.seen stands in
    let v : Stands code old × AreWritten code (activation base tables) (label old) fs = all code tables sees (fits_before tables (entries base.callees.items) fs (f ∷ []) fits) w.0 in
    let there : label middle ≡ label old + added_by_funcs base.quiet_calls fs = omega (arith, labels, fresh_label old fresh, fresh_label middle fresh_middle) in
    let is : activation on tables ≡ activation_of (activation base tables) f = rw (alike.callees, alike.calls, alike.dispatch, most, size) refl in
    let placed : IsFunction code (activation on tables) f (label old + added_by_funcs base.quiet_calls fs) = subst (λ (l : ℕ). IsFunction code (activation on tables) f l) there w.1 in
    (v.0, written_more code (activation base tables) fs f (label old) v.1 (subst (λ (act : Activation). IsFunction code act f (label old + added_by_funcs base.quiet_calls fs)) is placed))
