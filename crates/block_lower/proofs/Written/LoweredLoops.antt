-- The code of a `loop` is written where that of its parts is.
use Rattle.std.proofs.Common.{◌≡◌, ℕ, ◌+◌, List, [], ◌∷◌, ◌++◌, length, Some, Vec, sym, subst, ◌∙◌}
use Rattle.std.proofs.Common.{arith}
use Rattle.std.specs.Prelude.{ℤ}
use Rattle.std.specs.declared.alloc.Global.{Global}
use Rattle.loop_syntax.specs.declared.Name.{Name}
use Rattle.loop_syntax.specs.declared.Expr.{Expr}
use Rattle.loop_syntax.specs.declared.ParLoop.{ParLoop}
use Rattle.loop_syntax.specs.declared.Stmt.{Stmt}
use Rattle.loop_syntax.specs.declared.Stmt.TheVariants.{Loop}
use Rattle.loop_meaning.specs.InRange.{InRange}
use Rattle.tpal_syntax.specs.declared.instructions.Alu.TheVariants.{Lt}
use Rattle.tpal_syntax.specs.declared.instructions.Instr.{Instr}
use Rattle.tpal_syntax.specs.declared.instructions.Instr.TheVariants as instr
use Rattle.tpal_syntax.specs.declared.instructions.Term.{Term}
use Rattle.tpal_syntax.specs.declared.instructions.Value.TheVariants as value
use Rattle.tpal_syntax.specs.declared.notes.Note.{Note}
use Rattle.tpal_syntax.specs.declared.notes.Note.TheVariants as note
use Rattle.tpal_syntax.specs.Listing.{Listing}
use Rattle.expr_lower.specs.declared.scope.Scope.{Scope}
use Rattle.expr_lower.specs.Bodies.{literal}
use Rattle.block_lower.specs.declared.body.Body.{Body}
use Rattle.block_lower.specs.declared.output.Output.{Output}
use Rattle.block_lower.specs.declared.round.Round as told
use Rattle.block_lower.specs.Bodies.{entries, activation}
use Rattle.scene_laws.specs.Code.{OpensAs, Opens, Computes, Code, loop_code, loop_to_code, Codes}
use Rattle.scene_laws.specs.Code.{to, store, load, below_test, step_up}
use Rattle.code_laws.specs.Fitting.{AllFit}
use Rattle.scene_laws.specs.Layout.{value_cell, bound_cell}
use Rattle.block_lower.specs.declared.repeat.Bound.{Bound}
use Rattle.block_lower.specs.declared.repeat.Bound.TheVariants as bound
use Rattle.block_lower.specs.Lowering.{IsRound, WritesValue, WritesBelow, WritesStart, AreBounds}
use Rattle.block_lower.specs.Lowering.{WritesBounds}
use Rattle.block_lower.specs.Lowering.{WritesBoundedStart, BeginsLoop, turn, WritesSome}
use Rattle.block_lower.specs.Lowering.{Lowers, WithBody, IsBodyAt, LowersBody}
use Rattle.scene_laws.specs.Names.{Sees, SeesAs, StandFor}
use Rattle.scene_laws.specs.Round.{Round, loop_round, par_round}
use Rattle.block_lower.specs.Writing.{label, IsFresh, Pushes, Closes, Stands, Continues, Leads}
use Rattle.block_lower.proofs.Written.Fitting.{fit_of_vec}
use Rattle.scene_laws.proofs.Scenes.Seeing.{as_long}
use Rattle.block_lower.proofs.Written.Standing.{stand_more}
use Rattle.block_lower.proofs.Written.Writing.{pushed, closed_block, fresh_opens}

-- ---- before the body

pub start_written : (scope : Scope) (a : Expr) (n : ℤ) (again exit : ℕ) (old valued stores new : Output)
    → WritesValue scope a 0 old valued → Pushes (store (value_cell (length scope.cells.items)) (value.Reg 0) ∷ []) valued stores → WritesBelow 0 (value.Int n) again exit stores new → WritesStart scope a n again exit old new
start_written scope a n again exit old valued stores new writes push test code act names registers sees visible stands =
    let behind : ℕ → List Instr = λ l. store (value_cell l) (value.Reg 0) ∷ below_test 0 (value.Int n) again in
    let w : Leads code old (λ instrs end. (end ≡ to exit) × Computes code act registers names a 0 instrs (behind (length scope.cells.items))) =
    writes code act names registers (behind (length scope.cells.items)) (to exit) sees visible
    (pushed code valued stores (store (value_cell (length scope.cells.items)) (value.Reg 0) ∷ []) (below_test 0 (value.Int n) again) (to exit) push (test code stands)) in
    subst (λ (l : ℕ). Leads code old (λ instrs end. (end ≡ to exit) × Computes code act registers names a 0 instrs (behind l))) (as_long scope names act.tables sees.sees) w

pub bounds_written : (scope : Scope) (a b : Expr) (old first stores second bounds new : Output)
    → WritesValue scope a 0 old first → Pushes (store (value_cell (length scope.cells.items)) (value.Reg 0) ∷ []) first stores
    → WritesValue scope b 0 stores second → Pushes (store (bound_cell (length scope.cells.items)) (value.Reg 0) ∷ []) second bounds
    → Pushes (load 1 (value_cell (length scope.cells.items)) ∷ []) bounds new → WritesBounds scope a b old new
bounds_written scope a b old first stores second bounds new one push two push_bound push_load code act names registers more last sees visible_a visible_b c =
    let behind : ℕ → List Instr = λ l. store (bound_cell l) (value.Reg 0) ∷ load 1 (value_cell l) ∷ more in
    let level : ℕ = length scope.cells.items in
    let v : Leads code stores (λ instrs end. (end ≡ last) × Computes code act registers names b 0 instrs (behind level)) =
    two code act names registers (behind level) last sees visible_b
    (pushed code second bounds (store (bound_cell level) (value.Reg 0) ∷ []) (load 1 (value_cell level) ∷ more) last push_bound
    (pushed code bounds new (load 1 (value_cell level) ∷ []) more last push_load c)) in
    let w : Leads code old (λ instrs end. (end ≡ v.end) × Computes code act registers names a 0 instrs (store (value_cell level) (value.Reg 0) ∷ v.instrs)) =
    one code act names registers (store (value_cell level) (value.Reg 0) ∷ v.instrs) v.end sees visible_a
    (pushed code first stores (store (value_cell level) (value.Reg 0) ∷ []) v.instrs v.end push v.continues) in
    let many : level ≡ length names = as_long scope names act.tables sees.sees in
    record {
      instrs = w.instrs;
      end = w.end;
      continues = w.continues;
      told = (
        w.told.0 ∙ v.told.0,
        record {
          second = v.instrs;
          from = subst (λ (l : ℕ). Computes code act registers names a 0 w.instrs (store (value_cell l) (value.Reg 0) ∷ v.instrs)) many w.told.1;
          to = subst (λ (l : ℕ). Computes code act registers names b 0 v.instrs (behind l)) many v.told.1;
        },
      );
    }

pub bounded_start_written : (scope : Scope) (a b : Expr) (again exit : ℕ) (old bounds new : Output)
    → WritesBounds scope a b old bounds → WritesBelow 1 (value.Reg 0) again exit bounds new → WritesBoundedStart scope a b again exit old new
bounded_start_written scope a b again exit old bounds new starts test code act names registers sees visible_a visible_b stands =
    starts code act names registers (below_test 1 (value.Reg 0) again) (to exit) sees visible_a visible_b (test code stands)

-- ---- what stands round a body

pub loop_is_round : (round : Round) (as_told : told.Round) (level : ℕ) → IsRound round as_told → IsRound (loop_round round level) as_told
loop_is_round round as_told level same = record { reduces = same.reduces; depth = same.depth }

pub par_is_round : (round : Round) (as_told inside : told.Round) (names : List (List ℕ)) (l : ParLoop) → inside.reduces.now ≡ l.reduces.items → inside.depth ≡ as_told.depth + 1
    → IsRound round as_told → IsRound (par_round round names l.reduces.items) inside
par_is_round round as_told inside names l reduces depth same = record { reduces = sym reduces; depth = omega (arith, depth, same.depth) }

-- ---- the loop

-- the body with what stands behind it, and the begin of its block, which is marked as told
module _ (on : Body) (as_told : told.Round) (scope : Scope) (x : Name) (body : List Stmt) (level : ℕ) (half : Term) (mark : Note) (start inner new : Output) (behind : ℕ → List Instr)
    (long : level ≡ length scope.cells.items) (noted : start.note ≡ mark) (lowers : LowersBody on as_told scope x.text.items body start inner)
    (turn : (code : Listing) → Stands code new → Continues code inner (behind level) half) where
  -- what a code needs of a body
  pub record Bodied (code : Listing) (tables names : List (List ℕ)) (round : Round) (v : Vec Stmt Global) : Type 0 where
    pub before : Stands code start
    pub instrs : List Instr
    pub first : Term
    pub begins : OpensAs code mark (label start) (instr.Tick ∷ instrs) first
    pub codes : Codes code (activation on tables) round (names ++ x.text.items ∷ []) v.items instrs first (behind (length names)) half

  pub bodied : (code : Listing) (tables names : List (List ℕ)) (round : Round) (v : Vec Stmt Global) → IsRound round as_told → v.items ≡ body → Sees scope names tables
      → StandFor (names ++ x.text.items ∷ []) scope.regs.items round.registers
      → AllFit tables (entries on.callees.items) on.most round (names ++ x.text.items ∷ []) v.items → Stands code new → Bodied code tables names round v
  bodied code tables names round v same is sees stand fits stands =
      let deeper : List (List ℕ) = names ++ x.text.items ∷ [] in
      let b : IsBodyAt code (activation on tables) round deeper body start (behind level) half =
      lowers code tables names round (behind level) half same sees stand (subst (λ (ss : List Stmt). AllFit tables (entries on.callees.items) on.most round deeper ss) is fits) (turn code stands) in
      let with_vec : Codes code (activation on tables) round deeper v.items b.instrs b.end (behind level) half =
      subst (λ (ss : List Stmt). Codes code (activation on tables) round deeper ss b.instrs b.end (behind level) half) (sym is) b.codes in
      record {
        before = b.before;
        instrs = b.instrs;
        first = b.end;
        begins = subst (λ (n : Note). OpensAs code n (label start) (instr.Tick ∷ b.instrs) b.end) noted b.opens;
        codes = subst (λ (l : ℕ). Codes code (activation on tables) round deeper v.items b.instrs b.end (behind l) half) (long ∙ as_long scope names tables sees) with_vec;
      }

-- the same of a loop, with what stands behind it
module _ (on : Body) (as_told : told.Round) (scope : Scope) (x : Name) (body : List Stmt) (level again exit : ℕ) (start inner new : Output) (behind : ℕ → List Instr)
    (long : level ≡ length scope.cells.items) (fresh_start : IsFresh start) (again_is : again ≡ label start) (lowers : LowersBody on as_told scope x.text.items body start inner)
    (turn : (code : Listing) → Stands code new → Continues code inner (behind level) (to exit)) (fresh : IsFresh new) (exit_is : exit ≡ label new) where
  record Looped (code : Listing) (tables names : List (List ℕ)) (round : Round) (v : Vec Stmt Global) (more : List Instr) (last : Term) : Type 0 where
    before : Stands code start
    instrs : List Instr
    half : Term
    begins : Opens code again (instr.Tick ∷ instrs) half
    codes : Codes code (activation on tables) round (names ++ x.text.items ∷ []) v.items instrs half (behind (length names)) (to exit)
    ends : Opens code exit more last

  looped : (code : Listing) (tables names : List (List ℕ)) (round : Round) (v : Vec Stmt Global) (more : List Instr) (last : Term) → IsRound round as_told → v.items ≡ body → SeesAs scope names tables round.registers
      → AllFit tables (entries on.callees.items) on.most round (names ++ x.text.items ∷ []) v.items → Continues code new more last → Looped code tables names round v more last
  looped code tables names round v more last same is sees fits c =
      let b : Bodied on as_told scope x body level (to exit) note.Plain start inner new behind long fresh_start.plain lowers turn code tables names round v =
      bodied on as_told scope x body level (to exit) note.Plain start inner new behind long fresh_start.plain lowers turn code tables names round v same is sees.sees (stand_more sees.stand x.text.items) fits c.closed in
      record {
        before = b.before;
        instrs = b.instrs;
        half = b.first;
        begins = subst (λ (l : ℕ). Opens code l (instr.Tick ∷ b.instrs) b.first) (sym again_is) b.begins;
        codes = b.codes;
        ends = subst (λ (l : ℕ). Opens code l more last) (sym exit_is) (fresh_opens code new more last fresh c);
      }

loop_to_written : (on : Body) (as_told : told.Round) (scope : Scope) (x : Name) (a b : Expr) (n : ℤ) (body : List Stmt) (level again exit : ℕ) (old start inner new : Output) → literal b ≡ Some n → InRange n
    → level ≡ length scope.cells.items → WritesStart scope a n again exit old start → IsFresh start → again ≡ label start → LowersBody on as_told scope x.text.items body start inner
    → ((code : Listing) → Stands code new → Continues code inner (step_up 0 level (below_test 0 (value.Int n) again)) (to exit)) → IsFresh new → exit ≡ label new → WithBody body (λ v. Lowers on as_told scope (Loop x a b v) old new)
loop_to_written on as_told scope x a b n body level again exit old start inner new is_literal in_n long starts fresh_start again_is lowers turn fresh exit_is v is code tables names round more last same sees fits c =
    let behind : ℕ → List Instr = λ l. step_up 0 l (below_test 0 (value.Int n) again) in
    let q : Looped on as_told scope x body level again exit start inner new behind long fresh_start again_is lowers turn fresh exit_is code tables names (loop_round round (length names)) v more last =
    looped on as_told scope x body level again exit start inner new behind long fresh_start again_is lowers turn fresh exit_is code tables names (loop_round round (length names)) v more last (loop_is_round round as_told (length names) same) is sees (fit_of_vec tables (entries on.callees.items) on.most (loop_round round (length names)) (names ++ x.text.items ∷ []) v fits.3) c in
    let w : Leads code old (λ instrs end. (end ≡ to exit) × Computes code (activation on tables) round.registers names a 0 instrs (store (value_cell (length names)) (value.Reg 0) ∷ below_test 0 (value.Int n) again)) =
    starts code (activation on tables) names round.registers sees fits.1 q.before in
    record {
      instrs = w.instrs;
      end = w.end;
      continues = w.continues;
      told = subst (λ (t : Term). Code code (activation on tables) round names (Loop x a b v) w.instrs t more last) (sym w.told.0) (loop_to_code v fits.0 is_literal in_n w.told.1 q.begins q.codes q.ends);
    }

loop_bounded_written : (on : Body) (as_told : told.Round) (scope : Scope) (x : Name) (a b : Expr) (body : List Stmt) (level again exit : ℕ) (old start inner new : Output)
    → level ≡ length scope.cells.items → WritesBoundedStart scope a b again exit old start → IsFresh start → again ≡ label start → LowersBody on as_told scope x.text.items body start inner
    → ((code : Listing) → Stands code new → Continues code inner (step_up 1 level (load 0 (bound_cell level) ∷ below_test 1 (value.Reg 0) again)) (to exit)) → IsFresh new → exit ≡ label new → WithBody body (λ v. Lowers on as_told scope (Loop x a b v) old new)
loop_bounded_written on as_told scope x a b body level again exit old start inner new long starts fresh_start again_is lowers turn fresh exit_is v is code tables names round more last same sees fits c =
    let behind : ℕ → List Instr = λ l. step_up 1 l (load 0 (bound_cell l) ∷ below_test 1 (value.Reg 0) again) in
    let q : Looped on as_told scope x body level again exit start inner new behind long fresh_start again_is lowers turn fresh exit_is code tables names (loop_round round (length names)) v more last =
    looped on as_told scope x body level again exit start inner new behind long fresh_start again_is lowers turn fresh exit_is code tables names (loop_round round (length names)) v more last (loop_is_round round as_told (length names) same) is sees (fit_of_vec tables (entries on.callees.items) on.most (loop_round round (length names)) (names ++ x.text.items ∷ []) v fits.3) c in
    let w : Leads code old (λ instrs end. (end ≡ to exit) × AreBounds code (activation on tables) round.registers names a b instrs (below_test 1 (value.Reg 0) again)) =
    starts code (activation on tables) names round.registers sees fits.1 fits.2 q.before in
    record {
      instrs = w.instrs;
      end = w.end;
      continues = w.continues;
      told = subst (λ (t : Term). Code code (activation on tables) round names (Loop x a b v) w.instrs t more last) (sym w.told.0) (loop_code v fits.0 w.told.1.from w.told.1.to q.begins q.codes q.ends);
    }

pub loop_written : (on : Body) (as_told : told.Round) (scope : Scope) (x : Name) (a b : Expr) (body : List Stmt) (level : ℕ) (own : Bound) (again exit : ℕ) (old start inner new : Output)
    → level ≡ length scope.cells.items → BeginsLoop scope a b own again exit old start → IsFresh start → again ≡ label start → LowersBody on as_told scope x.text.items body start inner
    → ((code : Listing) → Stands code new → Continues code inner (turn level own again) (to exit)) → IsFresh new → exit ≡ label new → WithBody body (λ v. Lowers on as_told scope (Loop x a b v) old new)
loop_written on as_told scope x a b body level (bound.Number n) again exit old start inner new long begins fresh_start again_is lowers ends fresh exit_is =
    loop_to_written on as_told scope x a b n body level again exit old start inner new begins.0 begins.1 long begins.2 fresh_start again_is lowers ends fresh exit_is
loop_written on as_told scope x a b body level bound.Cell again exit old start inner new long begins fresh_start again_is lowers ends fresh exit_is =
    loop_bounded_written on as_told scope x a b body level again exit old start inner new long begins fresh_start again_is lowers ends fresh exit_is

-- ---- `par`

pub some_written : (check exit : ℕ) (old calc jumps new : Output) → Pushes (instr.Calc 2 1 Lt (value.Reg 0) ∷ []) old calc → Pushes (instr.IfJump 2 check ∷ []) calc jumps → Closes (to exit) jumps new → WritesSome check exit old new
some_written check exit old calc jumps new first second close code stands =
    pushed code old calc _ (instr.IfJump 2 check ∷ []) (to exit) first
    (pushed code calc jumps (instr.IfJump 2 check ∷ []) [] (to exit) second (closed_block code jumps new (to exit) close stands))
