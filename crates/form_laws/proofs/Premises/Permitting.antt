-- What the law of statements asks of a scene where a `par` may be cut.
use Rattle.std.proofs.Common.{◌≡◌, ◌≤◌, ℕ, Bool, true, false, List, [], ◌∷◌, Some, Vec}
use Rattle.std.proofs.Common.{bytes_eq, refl, ap, ◌∙◌}
use Rattle.std.specs.declared.alloc.Global.{Global}
use Rattle.std.specs.Prelude.{ℤ, Option, ◌&&◌}
use Rattle.loop_syntax.specs.declared.Expr.{Expr}
use Rattle.loop_syntax.specs.declared.Func.{Func}
use Rattle.loop_syntax.specs.declared.Name.{Name}
use Rattle.loop_syntax.specs.declared.ParLoop.{ParLoop}
use Rattle.loop_syntax.specs.declared.Program.{Program}
use Rattle.loop_syntax.specs.declared.Stmt.{Stmt, Row_of-Stmt, end_of-Stmt, more_of-Stmt}
use Rattle.loop_syntax.specs.declared.Stmt.TheBlock.{hidden-the_row-Stmt-0}
use Rattle.loop_syntax.specs.declared.Stmt.TheVariants.{Both, Call, Emit, Fill, Fold, If, If', Leave}
use Rattle.loop_syntax.specs.declared.Stmt.TheVariants.{Let, Loop, Loop', Par', Print, Put, Set}
use Rattle.loop_syntax.specs.declared.Stmt.TheVariants.{While, While'}
use Rattle.loop_rules.specs.Names.{func_of}
use Rattle.tpal_syntax.specs.Listing.{Listing}
use Rattle.frame_machine.specs.Lawful.{Callable}
use Rattle.scene_laws.specs.Quiet.{all_is_quiet, functions_are_quiet, is_quiet, list_is_quiet}
use Rattle.form_laws.proofs.Premises.Around.{Around, in_call, modes_at}
use Rattle.form_laws.proofs.Forms.Choices.{Longer}
use Rattle.form_laws.proofs.Premises.Cutting.{MayCut}
use Rattle.form_laws.proofs.Forms.LoopScenes.{inside}
use Rattle.form_laws.proofs.Premises.Occurring.{Called, CalledIn, Occurs, OccursIn}
use Rattle.scene_laws.proofs.Counts.QuietRows.{quiet_of_vec}
use Rattle.scene_laws.proofs.Scenes.Scene.{Scene}
use Rattle.form_laws.proofs.Premises.Serving.{Served, served_inside, served_later}
use Rattle.form_laws.proofs.Premises.Serving.{served_more}
use Rattle.form_laws.proofs.Forms.Ticks.{later_in}

module _ (code : Listing) (heartbeat z : ℕ) (p : Program) (dispatch : ℕ) where
  -- Promotion points may be reached, and divert there. What is held of the tables serves the `par`
  -- loops, which may be cut, and what is called may be called where this is round it.
  pub record Permits (S : Scene code heartbeat z) (names : List (List ℕ))
      (Loops : Around → List (List ℕ) → ParLoop → Around → Type 0) (Calls : List ℕ → Type 0)
      : Type 0 where
    pub opened : S.is_open ≡ true
    pub diverts : S.dispatch ≡ dispatch
    pub around : Around
    pub served : Served code heartbeat z S around names
    pub cuts : (outside : List (List ℕ)) (l : ParLoop) (near : Around)
        → Loops around outside l near → MayCut p near outside l
    pub calls : (f : List ℕ) → Calls f → Callable p (modes_at around) f

  -- so it is for a statement, and for statements
  abbrev pub PermitsOne : Scene code heartbeat z → List (List ℕ) → Stmt → Type 0
  PermitsOne S names s =
      Permits S names (λ a outside l near. Occurs l outside near a names s) (λ f. Called f s)

  abbrev pub PermitsAll : Scene code heartbeat z → List (List ℕ) → List Stmt → Type 0
  PermitsAll S names ss =
      Permits S names (λ a outside l near. OccursIn l outside near a names ss) (λ f. CalledIn f ss)

  module _ {S : Scene code heartbeat z} {names : List (List ℕ)}
      {Loops : Around → List (List ℕ) → ParLoop → Around → Type 0} {Calls : List ℕ → Type 0}
      (permits : Permits S names Loops Calls) where
    -- for fewer, where more variables are visible
    pub permits_more : {more : List (List ℕ)}
        {Fewer : Around → List (List ℕ) → ParLoop → Around → Type 0} {Fewest : List ℕ → Type 0}
        → Longer names more
        → ((a : Around) (outside : List (List ℕ)) (l : ParLoop) (near : Around)
        → Fewer a outside l near → Loops a outside l near) → ((f : List ℕ) → Fewest f → Calls f)
        → Permits S more Fewer Fewest
    permits_more longer fewer some = record {
      opened = permits.opened;
      diverts = permits.diverts;
      around = permits.around;
      served = served_more code heartbeat z permits.served longer;
      cuts = λ outside l near o.
          permits.cuts outside l near (fewer permits.around outside l near o);
      calls = λ f called. permits.calls f (some f called);
    }

    -- with more ticks, and inside a loop
    pub permits_later : (n : ℕ) → Permits (later_in code heartbeat z S n) names Loops Calls
    permits_later n = record {
      opened = permits.opened;
      diverts = permits.diverts;
      around = permits.around;
      served = served_later code heartbeat z permits.served n;
      cuts = permits.cuts;
      calls = permits.calls;
    }

    pub permits_inside : (level : ℕ) (lowest : S.lowest ≤ level) (m : ℤ) (held : Option ℤ)
        → Permits (inside code heartbeat z S level lowest m held) names Loops Calls
    permits_inside level lowest m held = record {
      opened = permits.opened;
      diverts = permits.diverts;
      around = permits.around;
      served = served_inside code heartbeat z permits.served level lowest m held;
      cuts = permits.cuts;
      calls = permits.calls;
    }

  -- a function is called in this scene, where this is round the call
  pub record PermitsCall (C : Scene code heartbeat z) (params : List (List ℕ)) (x : List ℕ)
      : Type 0 where
    pub opened : C.is_open ≡ true
    pub diverts : C.dispatch ≡ dispatch
    pub around : Around
    pub callable : Callable p (modes_at around) x
    pub served : Served code heartbeat z C (in_call around) params

-- ---- statements that aren't quiet

-- where the first of two isn't quiet, or the second, both together aren't
pub first_loud : (a b : Bool) → a ≡ false → (a && b) ≡ false
first_loud true b is = absurd (let wrong : true ≡ false = is in cc)
first_loud false b is = refl

pub second_loud : (a b : Bool) → b ≡ false → (a && b) ≡ false
second_loud true b is = is
second_loud false b is = refl

-- a branch, the body of a `while` or that of a `loop` that isn't quiet
pub loud_if : (calls : Bool) (e : Expr) (body other : Vec Stmt Global)
    → list_is_quiet calls body.items ≡ false → is_quiet calls (If e body other) ≡ false
loud_if calls e body other loud = first_loud _ _ (quiet_of_vec calls body ∙ loud)

pub loud_other : (calls : Bool) (e : Expr) (body other : Vec Stmt Global)
    → list_is_quiet calls other.items ≡ false → is_quiet calls (If e body other) ≡ false
loud_other calls e body other loud =
    second_loud (all_is_quiet calls (hidden-the_row-Stmt-0 body)) _
    (quiet_of_vec calls other ∙ loud)

pub loud_while : (calls : Bool) (e : Expr) (body : Vec Stmt Global)
    → list_is_quiet calls body.items ≡ false → is_quiet calls (While e body) ≡ false
loud_while calls e body loud = quiet_of_vec calls body ∙ loud

pub loud_loop : (calls : Bool) (x : Name) (a b : Expr) (body : Vec Stmt Global)
    → list_is_quiet calls body.items ≡ false → is_quiet calls (Loop x a b body) ≡ false
loud_loop calls x a b body loud = quiet_of_vec calls body ∙ loud

-- what isn't quiet isn't where calls reach points either
loud_either : (a b c d : Bool) → (a ≡ false → c ≡ false) → (b ≡ false → d ≡ false)
    → (a && b) ≡ false → (c && d) ≡ false
loud_either false b c d first second loud = first_loud c d (first refl)
loud_either true b c d first second loud = second_loud c d (second loud)

mutual
  loud_one : (calls : Bool) (s : Stmt) → is_quiet calls s ≡ false → is_quiet false s ≡ false
  loud_one calls (Let x e) loud = loud
  loud_one calls (Set x e) loud = loud
  loud_one calls (Put t a b e) loud = loud
  loud_one calls (If' e p body q other) loud =
      loud_either (all_is_quiet calls body) (all_is_quiet calls other) (all_is_quiet false body)
      (all_is_quiet false other) (loud_row calls body) (loud_row calls other) loud
  loud_one calls (While' e p body) loud = loud_row calls body loud
  loud_one calls (Loop' x a b p body) loud = loud_row calls body loud
  loud_one calls (Par' place x a b carry_place carries reduces p body) loud = loud
  loud_one calls (Fold x e) loud = loud
  loud_one calls (Call x f) loud = refl
  loud_one calls (Both x f y g) loud = loud
  loud_one calls (Print place e) loud = loud
  loud_one calls (Emit place t) loud = loud
  loud_one calls (Leave x e) loud = loud
  loud_one calls (Fill f t r es) loud = loud

  loud_row : {m : _} (calls : Bool) (row : Row_of-Stmt m) → all_is_quiet calls row ≡ false
      → all_is_quiet false row ≡ false
  loud_row calls end_of-Stmt loud = loud
  loud_row calls (more_of-Stmt first rest) loud =
      loud_either (is_quiet calls first) (all_is_quiet calls rest) (is_quiet false first)
      (all_is_quiet false rest) (loud_one calls first) (loud_row calls rest) loud

pub loud_list : (calls : Bool) (ss : List Stmt) → list_is_quiet calls ss ≡ false
    → list_is_quiet false ss ≡ false
loud_list calls [] loud = loud
loud_list calls (s ∷ ss) loud =
    loud_either (is_quiet calls s) (list_is_quiet calls ss) (is_quiet false s)
    (list_is_quiet false ss) (loud_one calls s) (loud_list calls ss) loud

-- a function that isn't quiet
loud_function : (fs : List Func) (x : List ℕ) (f : Func) → func_of fs x ≡ Some f
    → list_is_quiet true f.body.items ≡ false → functions_are_quiet fs ≡ false
loud_function [] x f is loud = cc
loud_function (g ∷ gs) x f is loud =
    go (λ later. loud_function gs x f later loud) (bytes_eq g.name.text.items x) refl
  where
    go : (func_of gs x ≡ Some f → functions_are_quiet gs ≡ false) → (b : Bool)
        → bytes_eq g.name.text.items x ≡ b → functions_are_quiet (g ∷ gs) ≡ false
    go behind true e =
        let same : Some g ≡ Some f = rw e at is in
        let here : g ≡ f = cc in
        first_loud (list_is_quiet true g.body.items) (functions_are_quiet gs)
        (ap (λ (h : Func). list_is_quiet true h.body.items) here ∙ loud)
    go behind false e =
        let later : func_of gs x ≡ Some f = rw e at is in
        second_loud (list_is_quiet true g.body.items) (functions_are_quiet gs) (behind later)

-- where a function isn't quiet, calls may not be
pub loud_calls : (fs : List Func) (x : List ℕ) (f : Func) → func_of fs x ≡ Some f → (calls : Bool)
    → calls ≡ functions_are_quiet fs → list_is_quiet calls f.body.items ≡ false → calls ≡ false
loud_calls fs x f is true quiet loud = quiet ∙ loud_function fs x f is loud
loud_calls fs x f is false quiet loud = refl
