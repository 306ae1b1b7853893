-- Variables that stand in registers, where others become visible.
use Rattle.std.proofs.Common.{◌≡◌, ℕ, zero, suc, ◌≤◌, Bool, true, false, cond, List, [], ◌∷◌}
use Rattle.std.proofs.Common.{◌++◌, length, map, bytes_eq, None, Some, Vec, refl, sym, ap}
use Rattle.std.proofs.Common.{subst, ◌∙◌, arith}
use Rattle.std.specs.declared.alloc.Global.{Global}
use Rattle.std.proofs.lemmas.Bool.{true≢false}
use Rattle.std.proofs.lemmas.List.{length-append}
use Rattle.loop_check.proofs.Found.{is_in_more}
use Rattle.loop_rules.specs.Names.{is_in}
use Rattle.loop_syntax.specs.declared.Stmt.{Stmt}
use Rattle.loop_syntax.specs.declared.Stmt.TheVariants.{Let, Set, Put, If', While', Loop', Par'}
use Rattle.loop_syntax.specs.declared.Stmt.TheVariants.{Fold, Call, Both, Print, Emit, Leave, Fill}
use Rattle.expr_lower.specs.declared.scope.Scope.{Scope}
use Rattle.expr_lower.specs.Scopes.{has_cell_in, offset_of, register_in, register_of}
use Rattle.scene_laws.specs.Code.{Stand}
use Rattle.scene_laws.specs.Layout.{value_cell}
use Rattle.scene_laws.specs.Names.{AreLaid, Sees, SeesAs, StandFor, level_of, names_after}
use Rattle.scene_laws.specs.Names.{names_after_list}
use Rattle.scene_laws.specs.Round.{register_for}
use Rattle.scene_laws.proofs.Scenes.Seeing.{cell_of_level, has_cell, seen_variable}

-- ---- names

-- a name that was there before stands where it stood
pub level_before : (names : List (List ℕ)) (x y : List ℕ) → is_in names y ≡ true
    → level_of (names ++ x ∷ []) y ≡ level_of names y
level_before [] x y seen = absurd (true≢false (sym seen))
level_before (n ∷ ns) x y seen = go (bytes_eq n y) refl (λ later. level_before ns x y later)
  where
    go : (b : Bool) → bytes_eq n y ≡ b
        → (is_in ns y ≡ true → level_of (ns ++ x ∷ []) y ≡ level_of ns y)
        → cond (bytes_eq n y) 0 (suc (level_of (ns ++ x ∷ []) y))
        ≡ cond (bytes_eq n y) 0 (suc (level_of ns y))
    go true e behind = rw e refl
    go false e behind = rw e (ap suc (behind (rw e at seen)))

-- another one stands behind them
pub level_behind : (names : List (List ℕ)) (x y : List ℕ) → is_in names y ≡ false
    → is_in (names ++ x ∷ []) y ≡ true → level_of (names ++ x ∷ []) y ≡ length names
level_behind [] x y new seen = go (bytes_eq x y) refl
  where
    go : (b : Bool) → bytes_eq x y ≡ b → cond (bytes_eq x y) zero (suc zero) ≡ zero
    go true e = rw e refl
    go false e = absurd (true≢false (sym (rw e at seen)))
level_behind (n ∷ ns) x y new seen =
    go (bytes_eq n y) refl (λ none later. level_behind ns x y none later)
  where
    go : (b : Bool) → bytes_eq n y ≡ b
        → (is_in ns y ≡ false → is_in (ns ++ x ∷ []) y ≡ true
        → level_of (ns ++ x ∷ []) y ≡ length ns)
        → cond (bytes_eq n y) 0 (suc (level_of (ns ++ x ∷ []) y)) ≡ suc (length ns)
    go true e behind = absurd (true≢false (rw e at new))
    go false e behind = rw e (ap suc (behind (rw e at new) (rw e at seen)))

-- and is the one that became visible
pub is_behind : (names : List (List ℕ)) (x y : List ℕ) → is_in names y ≡ false
    → is_in (names ++ x ∷ []) y ≡ true → bytes_eq x y ≡ true
is_behind [] x y new seen = go (bytes_eq x y) refl
  where
    go : (b : Bool) → bytes_eq x y ≡ b → bytes_eq x y ≡ true
    go true e = e
    go false e = absurd (true≢false (sym (rw e at seen)))
is_behind (n ∷ ns) x y new seen =
    go (bytes_eq n y) refl (λ none later. is_behind ns x y none later)
  where
    go : (b : Bool) → bytes_eq n y ≡ b
        → (is_in ns y ≡ false → is_in (ns ++ x ∷ []) y ≡ true → bytes_eq x y ≡ true)
        → bytes_eq x y ≡ true
    go true e behind = absurd (true≢false (rw e at new))
    go false e behind = behind (rw e at new) (rw e at seen)

-- ---- one more variable

no_register : (regs : List (Vec ℕ Global × ℕ)) (y : List ℕ) → has_cell_in regs y ≡ false
    → register_in regs y ≡ None
no_register [] y none = refl
no_register (r ∷ rs) y none = go (bytes_eq r.0.items y) refl (λ later. no_register rs y later)
  where
    go : (b : Bool) → bytes_eq r.0.items y ≡ b
        → (has_cell_in rs y ≡ false → register_in rs y ≡ None)
        → cond (bytes_eq r.0.items y) (Some r.1) (register_in rs y) ≡ None
    go true e behind = absurd (true≢false (rw e at none))
    go false e behind = rw e (behind (rw e at none))

module _ {names : List (List ℕ)} {regs : List (Vec ℕ Global × ℕ)} {registers : List (ℕ × ℕ)}
    (s : StandFor names regs registers) where
  stand_new : (x y : List ℕ) → is_in names y ≡ false → is_in (names ++ x ∷ []) y ≡ true
      → register_in regs y ≡ register_for registers (value_cell (level_of (names ++ x ∷ []) y))
  stand_new x y new seen =
      go (has_cell_in regs y) refl
      ∙ sym (s.others (level_of (names ++ x ∷ []) y)
      (omega (arith, level_behind names x y new seen)))
    where
      go : (b : Bool) → has_cell_in regs y ≡ b → register_in regs y ≡ None
      go true e = absurd (true≢false (sym (s.seen y e) ∙ new))
      go false e = no_register regs y e

  pub stand_more : (x : List ℕ) → StandFor (names ++ x ∷ []) regs registers
  stand_more x = record {
    are = λ y seen. by_name y seen (is_in names y) refl;
    seen = λ y held. is_in_more names x y (s.seen y held);
    others = λ level above. s.others level (below level above);
    bare = s.bare;
  }
    where
      below : (level : ℕ) → length (names ++ x ∷ []) ≤ level → length names ≤ level
      below level above = omega (arith, above, length-append names (x ∷ []))

      by_name : (y : List ℕ) → is_in (names ++ x ∷ []) y ≡ true → (b : Bool)
          → is_in names y ≡ b
          → register_in regs y ≡ register_for registers (value_cell (level_of (names ++ x ∷ []) y))
      by_name y seen true e =
          s.are y e
          ∙ ap (λ (n : ℕ). register_for registers (value_cell n)) (sym (level_before names x y e))
      by_name y seen false e = stand_new x y e seen

  pub stand_after : (st : Stmt) → StandFor (names_after names st) regs registers
  stand_after (Let x e) = stand_more x.text.items
  stand_after (Set x e) = s
  stand_after (Put t a b e) = s
  stand_after (If' e p body q other) = s
  stand_after (While' e p body) = s
  stand_after (Loop' x a b p body) = s
  stand_after (Par' place x a b carry_place carries reduces p body) = s
  stand_after (Fold x e) = s
  stand_after (Call x f) = s
  stand_after (Both x f y g) = s
  stand_after (Print place e) = s
  stand_after (Emit place t) = s
  stand_after (Leave x e) = s
  stand_after (Fill f t r es) = s

pub stand_after_list : {names : List (List ℕ)} {regs : List (Vec ℕ Global × ℕ)}
    {registers : List (ℕ × ℕ)} (ss : List Stmt) → StandFor names regs registers
    → StandFor (names_after_list names ss) regs registers
stand_after_list [] s = s
stand_after_list (st ∷ ss) s = stand_after_list ss (stand_after s st)

-- where none stands in a register
pub stand_bare : (names : List (List ℕ)) (regs : List (Vec ℕ Global × ℕ)) → regs ≡ []
    → StandFor names regs []
stand_bare names regs none = record {
  are = λ x seen. ap (λ (rs : List (Vec ℕ Global × ℕ)). register_in rs x) none;
  seen = λ x held.
      absurd (true≢false (sym held
      ∙ ap (λ (rs : List (Vec ℕ Global × ℕ)). has_cell_in rs x) none));
  others = λ level above. refl;
  bare = λ is. refl;
}

-- ---- a scope

-- the same where the scope has the same registers
pub sees_as : (scope later : Scope) {names tables : List (List ℕ)} {registers : List (ℕ × ℕ)}
    → later.regs ≡ scope.regs → Sees later names tables
    → StandFor names scope.regs.items registers → SeesAs later names tables registers
sees_as scope later {names} {tables} {registers} same sees stand = record {
  sees = sees;
  stand = subst (λ (rs : Vec (Vec ℕ Global × ℕ) Global). StandFor names rs.items registers)
      (sym same) stand;
}

-- the registers don't matter for what is seen
pub sees_held : (scope held : Scope) (names tables : List (List ℕ)) → held.cells ≡ scope.cells
    → held.tables ≡ scope.tables → Sees scope names tables → Sees held names tables
sees_held scope held names tables same_cells same_tables sees = record {
  named = ap (λ (cs : Vec (Vec ℕ Global × ℕ) Global).
      map (λ (c : Vec ℕ Global × ℕ). c.0.items) cs.items) same_cells ∙ sees.named;
  laid = subst (λ (cs : Vec (Vec ℕ Global × ℕ) Global). AreLaid 0 cs.items) (sym same_cells)
      sees.laid;
  listed = ap (λ (ts : Vec (Vec ℕ Global) Global).
      map (λ (t : Vec ℕ Global). t.items) ts.items) same_tables ∙ sees.listed;
}

pub sees_bare : {scope : Scope} {names tables : List (List ℕ)} → scope.regs.items ≡ []
    → Sees scope names tables → SeesAs scope names tables []
sees_bare {scope} {names} {tables} none sees =
    record { sees = sees; stand = stand_bare names scope.regs.items none }

-- the register of a variable is that of its cell
pub held_for : {scope : Scope} {names tables : List (List ℕ)} {registers : List (ℕ × ℕ)}
    → SeesAs scope names tables registers → (x : List ℕ) → is_in names x ≡ true
    → register_for registers (offset_of scope x) ≡ register_of scope x
held_for {scope} {names} {tables} {registers} s x seen =
    ap (λ (n : ℕ). register_for registers n) (cell_of_level scope names tables s.sees x seen)
    ∙ sym (s.stand.are x seen)

pub stand_of : {scope : Scope} {names tables : List (List ℕ)} {registers : List (ℕ × ℕ)}
    → SeesAs scope names tables registers → Stand scope registers
stand_of {scope} {names} {tables} {registers} s x has =
    (seen_variable scope names tables s.sees x seen, sym (held_for s x seen))
  where
    by_place : (b : Bool) → has_cell_in scope.regs.items x ≡ b → is_in names x ≡ true
    by_place true e = s.stand.seen x e
    by_place false e =
        sym (ap (λ (ns : List (List ℕ)). is_in ns x) s.sees.named)
        ∙ sym (has_cell scope.cells.items x) ∙ (rw e at has)

    seen : is_in names x ≡ true
    seen = by_place (has_cell_in scope.regs.items x) refl
