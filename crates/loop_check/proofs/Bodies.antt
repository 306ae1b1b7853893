-- Each `par` of a program has what follows from all the sites of its clauses and its body.
use Rattle.std.proofs.Common.{◌≡◌, List, [], ◌∷◌, ◌++◌, refl, subst}
use Rattle.tp_value.specs.declared.Place.{Place}
use Rattle.loop_syntax.specs.declared.Name.{Name}
use Rattle.loop_syntax.specs.declared.Carry.{Carry}
use Rattle.loop_syntax.specs.declared.Reduce.{Reduce}
use Rattle.loop_syntax.specs.declared.Stmt.{Stmt, Row_of-Stmt, end_of-Stmt, more_of-Stmt}
use Rattle.loop_syntax.specs.declared.Stmt.{items-the_row-Stmt}
use Rattle.loop_syntax.specs.declared.Stmt.TheVariants.{Let, Set, Put, If', While', Loop', Par'}
use Rattle.loop_syntax.specs.declared.Stmt.TheVariants.{Fold, Call, Both, Print, Emit, Leave, Fill}
use Rattle.loop_syntax.specs.declared.Func.{Func}
use Rattle.loop_syntax.specs.declared.Program.{Program}
use Rattle.loop_rules.specs.declared.part.Part.{Part}
use Rattle.loop_rules.specs.declared.part.Part.TheVariants.{OfSize, OfFunc, OfMain}
use Rattle.loop_rules.specs.Sites.{Declares, Parallel, Spot, Site, in_whole, in_carries, in_stmt}
use Rattle.loop_rules.specs.Sites.{in_all, in_list, spot_after, declared_var, in_loop, in_par}
use Rattle.loop_rules.specs.Sites.{the_loop, func_spot, spot_of_list, in_func, in_funcs, main_spot}
use Rattle.loop_meaning.specs.Cells.{Body, visible_after, bodies, bodies_all, bodies_of_list}
use Rattle.loop_meaning.specs.Cells.{bodies_of_funcs, bodies_of}
use Rattle.loop_check.specs.Unbroken.{NoneBroken}
use Rattle.loop_check.proofs.Lists.{Each, each_left, each_right, each_both}
use Rattle.loop_rules.proofs.Walking.{rows_list}
use Rattle.loop_check.proofs.Fine.{Fine, AllFine, body_fine, funcs_fine, main_fine}

after_spot : (w : Spot) (s : Stmt) → spot_after w s ≡ record w { scope = visible_after w.scope s }
after_spot w (Let y e) = refl
after_spot w (Set y e) = refl
after_spot w (Put t a b e) = refl
after_spot w (If' e p body q other) = refl
after_spot w (While' e p body) = refl
after_spot w (Loop' y a b p body) = refl
after_spot w (Par' place y a b z cs rs p body) = refl
after_spot w (Fold y e) = refl
after_spot w (Call y f) = refl
after_spot w (Both y f z g) = refl
after_spot w (Print p e) = refl
after_spot w (Emit p t) = refl
after_spot w (Leave y e) = refl
after_spot w (Fill f t r es) = refl

-- the `par` over x with these clauses and this body
abbrev pub body_at : Spot → Name → List Carry → List Reduce → List Stmt → Body
body_at w x cs rs body = record { loop = the_loop w x cs rs; rounds = w.rounds; statements = body }

-- F holds at each site, and I of the spots that statements stand at: it goes from a block's begin to all that is inside
module _ (F : Site → Type 0) (I : Spot → Type 0)
    (let_ok : (w : Spot) (y : Name) → F (record { act = Declares y; spot = w }) → I w → I (declared_var w y))
    (loop_ok : (w : Spot) (y : Name) → F (record { act = Declares y; spot = w }) → I w → I (in_loop w y))
    (par_ok : (w : Spot) (y : Name) (cs : List Carry) (rs : List Reduce) → F (record { act = Declares y; spot = w }) → I w → I (in_par w y cs rs))
    (Q : Body → Type 0)
    (step : (w : Spot) (x : Name) (cs : List Carry) (rs : List Reduce) (body : List Stmt) (p q : Place) → I w → F (record { act = Parallel p q (the_loop w x cs rs); spot = w }) → F (record { act = Declares x; spot = w }) → Each F (in_carries w cs) → Each F (in_list (in_par w x cs rs) body) → Q (body_at w x cs rs body)) where
  after_ok : (w : Spot) (s : Stmt) → I w → Each F (in_stmt w s) → I (spot_after w s)
  after_ok w (Let y e) i h = let_ok w y h.0 i
  after_ok w (Set y e) i h = i
  after_ok w (Put t a b e) i h = i
  after_ok w (If' e p body q other) i h = i
  after_ok w (While' e p body) i h = i
  after_ok w (Loop' y a b p body) i h = i
  after_ok w (Par' place y a b z cs rs p body) i h = i
  after_ok w (Fold y e) i h = i
  after_ok w (Call y f) i h = i
  after_ok w (Both y f z g) i h = i
  after_ok w (Print p e) i h = i
  after_ok w (Emit p t) i h = i
  after_ok w (Leave y e) i h = i
  after_ok w (Fill f t r es) i h = i

  mutual
    pub each_stmt : (w : Spot) → I w → (s : Stmt) → Each F (in_stmt w s) → Each Q (bodies w.scope w.rounds s)
    each_stmt w i (Let y e) h = tt
    each_stmt w i (Set y e) h = tt
    each_stmt w i (Put t a b e) h = tt
    each_stmt w i (If' e p body q other) h =
        let k = each_right F (in_whole w e) (in_all w body ++ in_all w other) h in
        each_both Q (bodies_all w.scope w.rounds body) (bodies_all w.scope w.rounds other)
        (each_row w i body (each_left F (in_all w body) (in_all w other) k)) (each_row w i other (each_right F (in_all w body) (in_all w other) k))
    each_stmt w i (While' e p body) h = each_row w i body (each_right F (in_whole w e) (in_all w body) h)
    each_stmt w i (Loop' y a b p body) h =
        each_row (in_loop w y) (loop_ok w y h.0 i) body
        (each_right F (in_whole w b) (in_all (in_loop w y) body) (each_right F (in_whole w a) (in_whole w b ++ in_all (in_loop w y) body) h.1))
    each_stmt w i (Par' place y a b z cs rs p body) h =
        let k1 = each_right F (in_whole w a) (in_whole w b ++ (in_carries w cs.items ++ in_all (in_par w y cs.items rs.items) body)) h.1.1.1 in
        let k2 = each_right F (in_whole w b) (in_carries w cs.items ++ in_all (in_par w y cs.items rs.items) body) k1 in
        let k3 = each_right F (in_carries w cs.items) (in_all (in_par w y cs.items rs.items) body) k2 in (
          step w y cs.items rs.items (items-the_row-Stmt _ body) place z i h.0 h.1.1.0 (each_left F (in_carries w cs.items) (in_all (in_par w y cs.items rs.items) body) k2)
              (subst (Each F) (rows_list (in_par w y cs.items rs.items) body) k3),
          each_row (in_par w y cs.items rs.items) (par_ok w y cs.items rs.items h.1.1.0 i) body k3,
        )
    each_stmt w i (Fold y e) h = tt
    each_stmt w i (Call y f) h = tt
    each_stmt w i (Both y f z g) h = tt
    each_stmt w i (Print p e) h = tt
    each_stmt w i (Emit p t) h = tt
    each_stmt w i (Leave y e) h = tt
    each_stmt w i (Fill f t r es) h = tt

    pub each_row : {n : _} → (w : Spot) → I w → (row : Row_of-Stmt n) → Each F (in_all w row) → Each Q (bodies_all w.scope w.rounds row)
    each_row w i end_of-Stmt h = tt
    each_row w i (more_of-Stmt first rest) h =
        let own = each_left F (in_stmt w first) (in_all (spot_after w first) rest) h in
        let later = each_row (spot_after w first) (after_ok w first i own) rest (each_right F (in_stmt w first) (in_all (spot_after w first) rest) h) in
        each_both Q (bodies w.scope w.rounds first) (bodies_all (visible_after w.scope first) w.rounds rest) (each_stmt w i first own)
        (subst (λ (v : Spot). Each Q (bodies_all v.scope v.rounds rest)) (after_spot w first) later)

  pub each_list : (w : Spot) → I w → (ss : List Stmt) → Each F (in_list w ss) → Each Q (bodies_of_list w.scope w.rounds ss)
  each_list w i [] h = tt
  each_list w i (first ∷ rest) h =
      let own = each_left F (in_stmt w first) (in_list (spot_after w first) rest) h in
      let later = each_list (spot_after w first) (after_ok w first i own) rest (each_right F (in_stmt w first) (in_list (spot_after w first) rest) h) in
      each_both Q (bodies w.scope w.rounds first) (bodies_of_list (visible_after w.scope first) w.rounds rest) (each_stmt w i first own)
      (subst (λ (v : Spot). Each Q (bodies_of_list v.scope v.rounds rest)) (after_spot w first) later)

-- ---- a program

module _ (prog : Program) (none : NoneBroken prog) (I : Spot → Type 0)
    (let_ok : (w : Spot) (y : Name) → Fine prog (Declares y) w → I w → I (declared_var w y))
    (loop_ok : (w : Spot) (y : Name) → Fine prog (Declares y) w → I w → I (in_loop w y))
    (par_ok : (w : Spot) (y : Name) (cs : List Carry) (rs : List Reduce) → Fine prog (Declares y) w → I w → I (in_par w y cs rs))
    (func_ok : (f : Func) → AllFine prog (in_func prog f) → I (func_spot prog f))
    (main_ok : I (main_spot prog))
    (Q : Body → Type 0)
    (step : (w : Spot) (x : Name) (cs : List Carry) (rs : List Reduce) (body : List Stmt) (p q : Place) → I w → Fine prog (Parallel p q (the_loop w x cs rs)) w → Fine prog (Declares x) w → AllFine prog (in_carries w cs) → AllFine prog (in_list (in_par w x cs rs) body) → Q (body_at w x cs rs body)) where
  abbrev Ok : Site → Type 0
  Ok s = Fine prog s.act s.spot

  each_funcs : (before fs : List Func) → AllFine prog (in_funcs prog before fs) → Each Q (bodies_of_funcs fs)
  each_funcs before [] h = tt
  each_funcs before (f ∷ fs) h =
      let body : List Site = in_list (func_spot prog f) f.body.items in
      let last : List Site = in_whole (spot_of_list (func_spot prog f) f.body.items) f.result in
      let own : AllFine prog (in_func prog f) = each_left Ok (in_func prog f) (in_funcs prog (before ++ f ∷ []) fs) h.1 in
      each_both Q (bodies_of_list (func_spot prog f).scope [] f.body.items) (bodies_of_funcs fs)
      (each_list Ok I let_ok loop_ok par_ok Q step (func_spot prog f) (func_ok f own) f.body.items (each_left Ok body last (body_fine prog f own)))
      (each_funcs (before ++ f ∷ []) fs (each_right Ok (in_func prog f) (in_funcs prog (before ++ f ∷ []) fs) h.1))

  pub each_body : Each Q (bodies_of prog)
  each_body =
      each_both Q (bodies_of_funcs prog.funcs.items) (bodies_of_list [] [] prog.main.items) (each_funcs [] prog.funcs.items (funcs_fine prog none))
      (each_list Ok I let_ok loop_ok par_ok Q step (main_spot prog) main_ok prog.main.items (main_fine prog none).1)

-- whether a part of a program has statements
abbrev pub HasStatements : Part → Type 0
HasStatements OfSize = ⊥
HasStatements OfFunc = Unit {0}
HasStatements OfMain = Unit {0}

-- where nothing is asked of the spots but that statements stand there
module _ (prog : Program) (none : NoneBroken prog) (Q : Body → Type 0)
    (step : (w : Spot) (x : Name) (cs : List Carry) (rs : List Reduce) (body : List Stmt) (p q : Place) → HasStatements w.part → Fine prog (Parallel p q (the_loop w x cs rs)) w → Fine prog (Declares x) w → AllFine prog (in_carries w cs) → AllFine prog (in_list (in_par w x cs rs) body) → Q (body_at w x cs rs body)) where
  pub each_par : Each Q (bodies_of prog)
  each_par = each_body prog none (λ w. HasStatements w.part) (λ w y f i. i) (λ w y f i. i) (λ w y cs rs f i. i) (λ f h. tt) tt Q step
