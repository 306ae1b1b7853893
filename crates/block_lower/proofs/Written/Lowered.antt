-- The code of each statement is written where that of its parts is.
use Rattle.std.proofs.Common.{◌≡◌, ℕ, List, [], ◌∷◌, ◌++◌, length, Some, None}
use Rattle.std.proofs.Common.{refl, sym, subst, ◌∙◌}
use Rattle.std.specs.Prelude.{ℤ}
use Rattle.tp_value.specs.declared.Place.{Place}
use Rattle.loop_syntax.specs.declared.Name.{Name}
use Rattle.loop_syntax.specs.declared.Expr.{Expr}
use Rattle.loop_syntax.specs.declared.Expr.TheVariants.{Int, Var, Cell', Rows, Cols, Neg', Bin'}
use Rattle.loop_syntax.specs.declared.Stmt.{Stmt}
use Rattle.loop_syntax.specs.declared.Stmt.TheVariants.{Let, Set, If, While, Print}
use Rattle.loop_meaning.specs.InRange.{InRange}
use Rattle.tpal_syntax.specs.declared.instructions.Alu.TheVariants.{Lt}
use Rattle.tpal_syntax.specs.declared.instructions.Instr.{Instr}
use Rattle.tpal_syntax.specs.declared.instructions.Instr.TheVariants as instr
use Rattle.tpal_syntax.specs.declared.instructions.Term.{Term}
use Rattle.tpal_syntax.specs.declared.instructions.Value.{Value}
use Rattle.tpal_syntax.specs.declared.instructions.Value.TheVariants as value
use Rattle.tpal_syntax.specs.Listing.{Listing}
use Rattle.expr_lower.specs.declared.scope.Scope.{Scope}
use Rattle.expr_lower.specs.Bodies.{literal, trap_count}
use Rattle.expr_lower.specs.Scopes.{home_of, offset_of, register_of}
use Rattle.block_lower.specs.declared.body.Body.{Body}
use Rattle.block_lower.specs.declared.output.Output.{Output}
use Rattle.block_lower.specs.declared.round.Round as told
use Rattle.block_lower.specs.Bodies.{entries, activation}
use Rattle.scene_laws.specs.Code.{Opens, Computes, Operand, number, standing, computed, IsCell}
use Rattle.scene_laws.specs.Code.{Code, set_register_code}
use Rattle.scene_laws.specs.Code.{let_code, set_code, print_code, if_code, if_not_code, while_code}
use Rattle.scene_laws.specs.Code.{Codes}
use Rattle.scene_laws.specs.Code.{Branch, branch, Other, nothing, something, to, store}
use Rattle.code_laws.specs.Fitting.{AllFit, IsFree}
use Rattle.scene_laws.specs.Names.{level_of}
use Rattle.scene_laws.specs.Layout.{value_cell}
use Rattle.block_lower.specs.Lowering.{WritesValue, WritesOperand, WritesTest, WritesBelow, Lowers}
use Rattle.block_lower.specs.Lowering.{WritesChoice, by_opposite, by_test}
use Rattle.block_lower.specs.Lowering.{IsRound, WithBody, LowersAll, LowersBranch, LowersOther, LowersBody}
use Rattle.scene_laws.specs.Names.{Sees, SeesAfter, SeesAs, names_after_list}
use Rattle.block_lower.specs.Writing.{label, IsEmpty, IsFresh, Pushes, Closes, Stands, Continues}
use Rattle.block_lower.specs.Writing.{Leads}
use Rattle.scene_laws.specs.Round.{Round}
use Rattle.form_laws.proofs.Forms.Opposites.{opposite_visible}
use Rattle.block_lower.proofs.Written.Fitting.{fit_of_vec, fit_before, fit_last, codes_more}
use Rattle.scene_laws.proofs.Scenes.Seeing.{as_long, cell_of_level, seen_variable}
use Rattle.block_lower.proofs.Written.Standing.{held_for, sees_as, stand_after_list}
use Rattle.block_lower.proofs.Written.Writing.{pushed, closed_block, empty_opens, fresh_opens}

-- ---- operands and tests

pub literal_operand : (scope : Scope) (e : Expr) (r : ℕ) (n : ℤ) (old : Output) → literal e ≡ Some n → InRange n → WritesOperand scope e r (value.Int n) old old
literal_operand scope e r n old is fits code act names registers more last sees visible c = record { instrs = more; end = last; continues = c; told = (refl, number is fits) }

pub computed_operand : (scope : Scope) (e : Expr) (r : ℕ) (old new : Output) → WritesValue scope e r old new → WritesOperand scope e r (value.Reg r) old new
computed_operand scope e r old new writes code act names registers more last sees visible c =
    let w : Leads code old (λ instrs end. (end ≡ last) × Computes code act registers names e r instrs more) = writes code act names registers more last sees visible c in
    record { instrs = w.instrs; end = w.end; continues = w.continues; told = (w.told.0, computed w.told.1) }

-- a variable that stands in a register is the operand where it stands
pub standing_operand : (scope : Scope) (e : Expr) (r held : ℕ) (old : Output)
    → home_of scope e ≡ Some held → WritesOperand scope e r (value.Reg held) old old
standing_operand scope (Var x) r held old is code act names registers more last sees visible c =
    record {
      instrs = more;
      end = last;
      continues = c;
      told = (
        refl,
        standing refl
            (record {
              scope = scope;
              sees = sees.sees;
              inside = seen_variable scope names act.tables sees.sees x.text.items visible;
              is = refl;
            })
            (held_for sees x.text.items visible ∙ is),
      );
    }
standing_operand scope (Int n place) r held old is code act names registers more last sees visible c =
    absurd (cc)
standing_operand scope (Cell' t p a q b) r held old is code act names registers more last sees visible c =
    absurd (cc)
standing_operand scope (Rows t) r held old is code act names registers more last sees visible c =
    absurd (cc)
standing_operand scope (Cols t) r held old is code act names registers more last sees visible c =
    absurd (cc)
standing_operand scope (Neg' p a place) r held old is code act names registers more last sees visible c =
    absurd (cc)
standing_operand scope (Bin' o place p a q b) r held old is code act names registers more last sees visible c =
    absurd (cc)

-- it has no trap block
pub standing_calm : (scope : Scope) (e : Expr) (held : ℕ) → home_of scope e ≡ Some held
    → trap_count e ≡ 0
standing_calm scope (Var x) held is = refl
standing_calm scope (Int n place) held is = cc
standing_calm scope (Cell' t p a q b) held is = cc
standing_calm scope (Rows t) held is = cc
standing_calm scope (Cols t) held is = cc
standing_calm scope (Neg' p a place) held is = cc
standing_calm scope (Bin' o place p a q b) held is = cc

pub test_written : (scope : Scope) (e : Expr) (first second : ℕ) (old valued pushes new : Output) → WritesValue scope e 0 old valued → Pushes (instr.IfJump 0 first ∷ []) valued pushes → Closes (to second) pushes new → WritesTest scope e first second old new
test_written scope e first second old valued pushes new writes push close code act names registers sees visible stands =
    writes code act names registers (instr.IfJump 0 first ∷ []) (to second) sees visible
    (pushed code valued pushes (instr.IfJump 0 first ∷ []) [] (to second) push (closed_block code pushes new (to second) close stands))

pub below_written : (counter : ℕ) (bound : Value) (again exit : ℕ) (old calc jumps new : Output) → Pushes (instr.Calc 0 counter Lt bound ∷ []) old calc → Pushes (instr.IfJump 0 again ∷ []) calc jumps → Closes (to exit) jumps new → WritesBelow counter bound again exit old new
below_written counter bound again exit old calc jumps new first second close code stands =
    pushed code old calc _ (instr.IfJump 0 again ∷ []) (to exit) first
    (pushed code calc jumps (instr.IfJump 0 again ∷ []) [] (to exit) second (closed_block code jumps new (to exit) close stands))

-- ---- statements

module _ (on : Body) (as_told : told.Round) where
  -- ---- simple statements

  pub let_written : (scope : Scope) (x : Name) (e : Expr) (v : Value) (old valued new : Output) → WritesOperand scope e 0 v old valued → Pushes (store (value_cell (length scope.cells.items)) v ∷ []) valued new → Lowers on as_told scope (Let x e) old new
  let_written scope x e v old valued new writes push code tables names round more last same sees fits c =
      let cell : ℕ → Instr = λ n. store (value_cell n) v in
      let w : Leads code old (λ instrs end. (end ≡ last) × Operand code (activation on tables) round.registers names e 0 v instrs (cell (length scope.cells.items) ∷ more)) =
      writes code (activation on tables) names round.registers (cell (length scope.cells.items) ∷ more) last sees fits.1 (pushed code valued new (cell (length scope.cells.items) ∷ []) more last push c) in
      let operand : Operand code (activation on tables) round.registers names e 0 v w.instrs (cell (length names) ∷ more) =
      subst (λ (n : ℕ). Operand code (activation on tables) round.registers names e 0 v w.instrs (cell n ∷ more)) (as_long scope names tables sees.sees) w.told.1 in
      record {
        instrs = w.instrs;
        end = w.end;
        continues = w.continues;
        told = subst (λ (t : Term). Code code (activation on tables) round names (Let x e) w.instrs w.end more t) w.told.0 (let_code fits.0 operand);
      }

  pub cell_is : (scope : Scope) (tables names : List (List ℕ)) (fixed : List ℕ) (x : List ℕ) (code : Listing) → Sees scope names tables → IsFree tables (entries on.callees.items) on.most names fixed x → IsCell code (activation on tables) names fixed x (offset_of scope x)
  cell_is scope tables names fixed x code sees free = record {
    scope = scope;
    sees = sees;
    inside = seen_variable scope names tables sees x free.seen;
    is = refl;
    level = level_of names x;
    at_level = cell_of_level scope names tables sees x free.seen;
    below = free.below;
    free = free.free;
  }

  pub set_written : (scope : Scope) (x : Name) (e : Expr) (v : Value) (old valued new : Output) → register_of scope x.text.items ≡ None → WritesOperand scope e 0 v old valued → Pushes (store (offset_of scope x.text.items) v ∷ []) valued new → Lowers on as_told scope (Set x e) old new
  set_written scope x e v old valued new none writes push code tables names round more last same sees fits c =
      let cell : Instr = store (offset_of scope x.text.items) v in
      let w : Leads code old (λ instrs end. (end ≡ last) × Operand code (activation on tables) round.registers names e 0 v instrs (cell ∷ more)) =
      writes code (activation on tables) names round.registers (cell ∷ more) last sees fits.1 (pushed code valued new (cell ∷ []) more last push c) in
      record {
        instrs = w.instrs;
        end = w.end;
        continues = w.continues;
        told = subst (λ (t : Term). Code code (activation on tables) round names (Set x e) w.instrs w.end more t) w.told.0
            (set_code (cell_is scope tables names round.fixed x.text.items code sees.sees fits.0)
            (held_for sees x.text.items fits.0.seen ∙ none) w.told.1);
      }

  -- the same of a variable in a register
  pub set_register_written : (scope : Scope) (x : Name) (e : Expr) (v : Value) (held : ℕ)
      (old valued new : Output) → register_of scope x.text.items ≡ Some held
      → WritesOperand scope e 0 v old valued → Pushes (instr.Move held v ∷ []) valued new
      → Lowers on as_told scope (Set x e) old new
  set_register_written scope x e v held old valued new is writes push code tables names round more
      last same sees fits c =
      let move : Instr = instr.Move held v in
      let w : Leads code old (λ instrs end. (end ≡ last)
      × Operand code (activation on tables) round.registers names e 0 v instrs (move ∷ more)) =
      writes code (activation on tables) names round.registers (move ∷ more) last sees fits.1
      (pushed code valued new (move ∷ []) more last push c) in
      record {
        instrs = w.instrs;
        end = w.end;
        continues = w.continues;
        told = subst (λ (t : Term). Code code (activation on tables) round names (Set x e) w.instrs
            w.end more t) w.told.0
            (set_register_code
            (cell_is scope tables names round.fixed x.text.items code sees.sees fits.0)
            (held_for sees x.text.items fits.0.seen ∙ is) w.told.1);
      }

  pub print_written : (scope : Scope) (place : Place) (e : Expr) (old valued new : Output) → WritesValue scope e 0 old valued → Pushes (instr.Print 0 ∷ []) valued new → Lowers on as_told scope (Print place e) old new
  print_written scope place e old valued new writes push code tables names round more last same sees fits c =
      let w : Leads code old (λ instrs end. (end ≡ last) × Computes code (activation on tables) round.registers names e 0 instrs (instr.Print 0 ∷ more)) =
      writes code (activation on tables) names round.registers (instr.Print 0 ∷ more) last sees fits (pushed code valued new (instr.Print 0 ∷ []) more last push c) in
      record {
        instrs = w.instrs;
        end = w.end;
        continues = w.continues;
        told = subst (λ (t : Term). Code code (activation on tables) round names (Print place e) w.instrs w.end more t) w.told.0 (print_code w.told.1);
      }

  -- ---- statements in order

  pub none_written : (scope : Scope) (old : Output) → LowersAll on as_told scope [] old old
  none_written scope old code tables names round more last same sees fits c = record { instrs = more; end = last; continues = c; told = Codes.none }

  pub more_written : (scope between : Scope) (ss : List Stmt) (s : Stmt) (old middle new : Output) → LowersAll on as_told scope ss old middle → between.regs ≡ scope.regs → SeesAfter (λ names. names_after_list names ss) scope between → Lowers on as_told between s middle new → LowersAll on as_told scope (ss ++ s ∷ []) old new
  more_written scope between ss s old middle new all same_regs keeps one code tables names round more last same sees fits c =
      let w : Leads code middle (λ instrs end. Code code (activation on tables) round (names_after_list names ss) s instrs end more last) =
      one code tables (names_after_list names ss) round more last same (sees_as scope between same_regs (keeps names tables sees.sees) (stand_after_list ss sees.stand)) (fit_last tables (entries on.callees.items) on.most round names ss s fits) c in
      let v : Leads code old (λ instrs end. Codes code (activation on tables) round names ss instrs end w.instrs w.end) =
      all code tables names round w.instrs w.end same sees (fit_before tables (entries on.callees.items) on.most round names ss s fits) w.continues in
      record { instrs = v.instrs; end = v.end; continues = v.continues; told = codes_more v.told w.told }

  -- ---- branches

  pub branch_written : (scope : Scope) (body : List Stmt) (exit : ℕ) (old inner new : Output) → LowersAll on as_told scope body old inner → Closes (to exit) inner new → LowersBranch on as_told scope body exit old new
  branch_written scope body exit old inner new all close code tables names round same sees fits stands =
      all code tables names round [] (to exit) same sees fits (closed_block code inner new (to exit) close stands)

  -- a branch whose block was to be the open one
  branch_at : (scope : Scope) (body : List Stmt) (exit : ℕ) (old new : Output) → IsFresh old → LowersBranch on as_told scope body exit old new
      → (code : Listing) (tables names : List (List ℕ)) (round : Round) → IsRound round as_told → SeesAs scope names tables round.registers → AllFit tables (entries on.callees.items) on.most round names body
      → Stands code new → Stands code old × Branch code (activation on tables) round names body (label old) exit
  branch_at scope body exit old new fresh lowers code tables names round same sees fits stands =
      let w : Leads code old (λ instrs end. Codes code (activation on tables) round names body instrs end [] (to exit)) = lowers code tables names round same sees fits stands in
      (w.continues.closed, branch (fresh_opens code old w.instrs w.end fresh w.continues) w.told)

  pub other_written : (scope : Scope) (body : List Stmt) (exit : ℕ) (old new : Output) → IsFresh old → LowersBranch on as_told scope body exit old new → LowersOther on as_told scope body exit old new
  other_written scope body exit old new fresh lowers code tables names round same sees fits stands exits =
      let w : Stands code old × Branch code (activation on tables) round names body (label old) exit = branch_at scope body exit old new fresh lowers code tables names round same sees fits stands in
      (w.0, something w.1)

  pub no_other_written : (scope : Scope) (exit : ℕ) (old : Output) → LowersOther on as_told scope [] exit old old
  no_other_written scope exit old code tables names round same sees fits stands exits =
      (stands, subst (λ (l : ℕ). Other code (activation on tables) round names [] l exit) exits nothing)

  pub if_written : (scope second_scope : Scope) (e : Expr) (body other : List Stmt) (second exit : ℕ) (old test middle new : Output)
      → WritesChoice scope e second old test → LowersBranch on as_told scope body exit test middle → LowersOther on as_told second_scope other exit middle new
      → second_scope.regs ≡ scope.regs → SeesAfter (λ names. names) scope second_scope → IsFresh new → second ≡ label middle → exit ≡ label new
      → WithBody body (λ v. WithBody other (λ w. Lowers on as_told scope (If e v w) old new))
  if_written scope second_scope e body other second exit old test middle new tests one two same_regs keeps fresh second_is exit_is p is q is_other code tables names round more last same sees fits c =
      let inside : AllFit tables (entries on.callees.items) on.most round names body =
      subst (λ (ss : List Stmt). AllFit tables (entries on.callees.items) on.most round names ss) is (fit_of_vec tables (entries on.callees.items) on.most round names p fits.1) in
      let beside : AllFit tables (entries on.callees.items) on.most round names other =
      subst (λ (ss : List Stmt). AllFit tables (entries on.callees.items) on.most round names ss) is_other (fit_of_vec tables (entries on.callees.items) on.most round names q fits.2) in
      let v : Stands code middle × Other code (activation on tables) round names other (label middle) exit = two code tables names round same (sees_as scope second_scope same_regs (keeps names tables sees.sees) sees.stand) beside c.closed exit_is in
      let ends : Opens code exit more last = subst (λ (l : ℕ). Opens code l more last) (sym exit_is) (fresh_opens code new more last fresh c) in
      let others : Other code (activation on tables) round names q.items second exit =
      subst (λ (ss : List Stmt). Other code (activation on tables) round names ss second exit) (sym is_other)
      (subst (λ (l : ℕ). Other code (activation on tables) round names other l exit) (sym second_is) v.1) in
      by tests v.0 others ends inside
    where
      by : WritesChoice scope e second old test → Stands code middle → Other code (activation on tables) round names q.items second exit → Opens code exit more last → AllFit tables (entries on.callees.items) on.most round names body
          → Leads code old (λ instrs end. Code code (activation on tables) round names (If e p q) instrs end more last)
      by (by_opposite {e'} {middle = valued} opposes values jumps) stands others ends inside =
          let b : Leads code test (λ instrs end. Codes code (activation on tables) round names body instrs end [] (to exit)) = one code tables names round same sees inside stands in
          let jump : Instr = instr.IfJump 0 second in
          let w : Leads code old (λ instrs end. (end ≡ b.end) × Computes code (activation on tables) round.registers names e' 0 instrs (jump ∷ b.instrs)) =
          values code (activation on tables) names round.registers (jump ∷ b.instrs) b.end sees (opposite_visible tables names e e' opposes fits.0)
          (pushed code valued test (jump ∷ []) b.instrs b.end jumps b.continues) in
          let codes : Codes code (activation on tables) round names p.items b.instrs w.end [] (to exit) =
          subst (λ (ss : List Stmt). Codes code (activation on tables) round names ss b.instrs w.end [] (to exit)) (sym is)
          (subst (λ (t : Term). Codes code (activation on tables) round names body b.instrs t [] (to exit)) (sym w.told.0) b.told) in
          record { instrs = w.instrs; end = w.end; continues = w.continues; told = if_not_code p q opposes w.told.1 codes others ends }
      by (by_test fresh_test writes) stands others ends inside =
          let u : Stands code test × Branch code (activation on tables) round names body (label test) exit = branch_at scope body exit test middle fresh_test one code tables names round same sees inside stands in
          let w : Leads code old (λ instrs end. (end ≡ to second) × Computes code (activation on tables) round.registers names e 0 instrs (instr.IfJump 0 (label test) ∷ [])) = writes code (activation on tables) names round.registers sees fits.0 u.0 in
          let own : Branch code (activation on tables) round names p.items (label test) exit =
          subst (λ (ss : List Stmt). Branch code (activation on tables) round names ss (label test) exit) (sym is) u.1 in
          record {
            instrs = w.instrs;
            end = w.end;
            continues = w.continues;
            told = subst (λ (t : Term). Code code (activation on tables) round names (If e p q) w.instrs t more last) (sym w.told.0) (if_code p q w.told.1 own others ends);
          }

  -- ---- loops

  pub while_written : (scope last_scope : Scope) (e : Expr) (body : List Stmt) (again exit : ℕ) (old test tick inner new : Output)
      → WritesTest scope e again exit old test → IsFresh test → again ≡ label test → Pushes (instr.Tick ∷ []) test tick → LowersAll on as_told scope body tick inner
      → last_scope.regs ≡ scope.regs → SeesAfter (λ names. names) scope last_scope → WritesTest last_scope e again exit inner new → IsFresh new → exit ≡ label new → WithBody body (λ v. Lowers on as_told scope (While e v) old new)
  while_written scope last_scope e body again exit old test tick inner new first fresh_test again_is ticks all same_regs keeps second fresh exit_is v is code tables names round more last same sees fits c =
      let inside : AllFit tables (entries on.callees.items) on.most round names body = subst (λ (ss : List Stmt). AllFit tables (entries on.callees.items) on.most round names ss) is (fit_of_vec tables (entries on.callees.items) on.most round names v fits.1) in
      let q : Leads code inner (λ instrs end. (end ≡ to exit) × Computes code (activation on tables) round.registers names e 0 instrs (instr.IfJump 0 again ∷ [])) = second code (activation on tables) names round.registers (sees_as scope last_scope same_regs (keeps names tables sees.sees) sees.stand) fits.0 c.closed in
      let b : Leads code tick (λ instrs end. Codes code (activation on tables) round names body instrs end q.instrs q.end) = all code tables names round q.instrs q.end same sees inside q.continues in
      let starts : Continues code test (instr.Tick ∷ b.instrs) b.end = pushed code test tick (instr.Tick ∷ []) b.instrs b.end ticks b.continues in
      let p : Leads code old (λ instrs end. (end ≡ to exit) × Computes code (activation on tables) round.registers names e 0 instrs (instr.IfJump 0 again ∷ [])) = first code (activation on tables) names round.registers sees fits.0 starts.closed in
      let begins : Opens code again (instr.Tick ∷ b.instrs) b.end = subst (λ (l : ℕ). Opens code l (instr.Tick ∷ b.instrs) b.end) (sym again_is) (fresh_opens code test (instr.Tick ∷ b.instrs) b.end fresh_test starts) in
      let ends : Opens code exit more last = subst (λ (l : ℕ). Opens code l more last) (sym exit_is) (fresh_opens code new more last fresh c) in
      let codes : Codes code (activation on tables) round names v.items b.instrs b.end q.instrs (to exit) =
      subst (λ (t : Term). Codes code (activation on tables) round names v.items b.instrs b.end q.instrs t) q.told.0 (subst (λ (ss : List Stmt). Codes code (activation on tables) round names ss b.instrs b.end q.instrs q.end) (sym is) b.told) in
      record {
        instrs = p.instrs;
        end = p.end;
        continues = p.continues;
        told = subst (λ (t : Term). Code code (activation on tables) round names (While e v) p.instrs t more last) (sym p.told.0) (while_code v p.told.1 begins codes q.told.1 ends);
      }

  pub body_written : (scope inner_scope : Scope) (x : List ℕ) (body : List Stmt) (old tick new : Output) → IsEmpty old → inner_scope.regs ≡ scope.regs → SeesAfter (λ names. names ++ x ∷ []) scope inner_scope → Pushes (instr.Tick ∷ []) old tick → LowersAll on as_told inner_scope body tick new → LowersBody on as_told scope x body old new
  body_written scope inner_scope x body old tick new empty same_regs declares ticks all code tables names round more last same sees stand fits c =
      let b : Leads code tick (λ instrs end. Codes code (activation on tables) round (names ++ x ∷ []) body instrs end more last) =
      all code tables (names ++ x ∷ []) round more last same (sees_as scope inner_scope same_regs (declares names tables sees) stand) fits c in
      let starts : Continues code old (instr.Tick ∷ b.instrs) b.end = pushed code old tick (instr.Tick ∷ []) b.instrs b.end ticks b.continues in
      record { before = starts.closed; instrs = b.instrs; end = b.end; opens = empty_opens code old (instr.Tick ∷ b.instrs) b.end empty starts; codes = b.told }
