-- What a scope sees after variables become visible and leave.
use Rattle.std.proofs.Common.{◌≡◌, ℕ, ◌+◌, List, [], ◌∷◌, ◌++◌, length, take, map, Vec, sym, ap}
use Rattle.std.proofs.Common.{subst, ◌∙◌, arith}
use Rattle.std.specs.declared.alloc.Global.{Global}
use Rattle.std.proofs.lemmas.List.{map-append}
use Rattle.loop_syntax.specs.declared.Stmt.{Stmt}
use Rattle.expr_lower.specs.declared.scope.Scope.{Scope}
use Rattle.scene_laws.specs.Layout.{value_cell}
use Rattle.scene_laws.specs.Names.{Sees, SeesAfter, AreLaid, names_after, names_after_list}
use Rattle.form_laws.proofs.Forms.Choices.{first_names, first_names_in}
use Rattle.block_lower.proofs.Written.Fitting.{names_after_more}
use Rattle.block_lower.proofs.Written.Laying.{names_take_cells, laid_take, laid_push}
use Rattle.scene_laws.proofs.Scenes.Seeing.{as_long}

pub sees_declared : (old new : Scope) (c : Vec ℕ Global × ℕ) (x : List ℕ)
    → new.cells.items ≡ old.cells.items ++ c ∷ [] → c.0.items ≡ x
    → c.1 ≡ value_cell (length old.cells.items) → new.tables ≡ old.tables
    → SeesAfter (λ names. names ++ x ∷ []) old new
sees_declared old new c x pushed is_named is same names tables sees =
    let cell_name : Vec ℕ Global × ℕ → List ℕ = λ d. d.0.items in
    record {
      named = ap (λ (cs : List (Vec ℕ Global × ℕ)). map cell_name cs) pushed ∙ map-append cell_name old.cells.items (c ∷ []) ∙ ap (λ (ns : List (List ℕ)). ns ++ c.0.items ∷ []) sees.named
          ∙ ap (λ (y : List ℕ). names ++ y ∷ []) is_named;
      laid = subst (λ (cs : List (Vec ℕ Global × ℕ)). AreLaid 0 cs) (sym pushed) (laid_push 0 old.cells.items c (let e : 0 + length old.cells.items ≡ length old.cells.items = omega arith in rw e is) sees.laid);
      listed = ap (λ (ts : Vec (Vec ℕ Global) Global). map (λ (t : Vec ℕ Global). t.items) ts.items) same ∙ sees.listed;
    }

pub sees_left : (old new : Scope) (n : ℕ) → new.cells.items ≡ take n old.cells.items
    → new.tables ≡ old.tables → SeesAfter (take n) old new
sees_left old new n left same names tables sees =
    let cell_name : Vec ℕ Global × ℕ → List ℕ = λ d. d.0.items in
    record {
      named = ap (λ (cs : List (Vec ℕ Global × ℕ)). map cell_name cs) left ∙ names_take_cells n old.cells.items ∙ ap (λ (ns : List (List ℕ)). take n ns) sees.named;
      laid = subst (λ (cs : List (Vec ℕ Global × ℕ)). AreLaid 0 cs) (sym left) (laid_take n 0 old.cells.items sees.laid);
      listed = ap (λ (ts : Vec (Vec ℕ Global) Global). map (λ (t : Vec ℕ Global). t.items) ts.items) same ∙ sees.listed;
    }

-- the variables of a block leave
pub sees_block : (old inner new : Scope) (n : ℕ) (body : List Stmt) → n ≡ length old.cells.items → SeesAfter (λ names. names_after_list names body) old inner → SeesAfter (take n) inner new → SeesAfter (λ names. names) old new
sees_block old inner new n body many runs leaves names tables sees =
    let same : take n (names_after_list names body) ≡ names =
    ap (λ (k : ℕ). take k (names_after_list names body)) (many ∙ as_long old names tables sees) ∙ first_names names body in
    subst (λ (ns : List (List ℕ)). Sees new ns tables) same (leaves (names_after_list names body) tables (runs names tables sees))

-- those of a loop's body leave
pub sees_body : (old declares inner new : Scope) (n : ℕ) (x : List ℕ) (body : List Stmt) → n ≡ length old.cells.items → SeesAfter (λ names. names ++ x ∷ []) old declares
    → SeesAfter (λ names. names_after_list names body) declares inner → SeesAfter (take n) inner new → SeesAfter (λ names. names) old new
sees_body old declares inner new n x body many declare runs leaves names tables sees =
    let deeper : List (List ℕ) = names ++ x ∷ [] in
    let same : take n (names_after_list deeper body) ≡ names =
    ap (λ (k : ℕ). take k (names_after_list deeper body)) (many ∙ as_long old names tables sees) ∙ first_names_in names x body in
    subst (λ (ns : List (List ℕ)). Sees new ns tables) same (leaves (names_after_list deeper body) tables (runs deeper tables (declare names tables sees)))

-- one more statement
pub sees_more : (old middle new : Scope) (ss : List Stmt) (s : Stmt) → SeesAfter (λ names. names_after_list names ss) old middle → SeesAfter (λ names. names_after names s) middle new → SeesAfter (λ names. names_after_list names (ss ++ s ∷ [])) old new
sees_more old middle new ss s all one names tables sees =
    subst (λ (ns : List (List ℕ)). Sees new ns tables) (sym (names_after_more names ss s)) (one (names_after_list names ss) tables (all names tables sees))
