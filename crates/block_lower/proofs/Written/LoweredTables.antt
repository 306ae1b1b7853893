-- The code of statements on tables, and of `fold`, is written where that of its parts is.
use Rattle.std.proofs.Common.{◌≡◌, ℕ, List, [], ◌∷◌, ◌++◌, Some, None, refl, ap, subst, ◌∙◌}
use Rattle.std.specs.Prelude.{IsTrue}
use Rattle.loop_syntax.specs.declared.Name.{Name}
use Rattle.loop_syntax.specs.declared.Expr.{Expr}
use Rattle.loop_syntax.specs.declared.Stmt.TheVariants.{Put, Fold, Emit}
use Rattle.loop_rules.specs.Names.{is_in, operator_of}
use Rattle.tp_value.specs.declared.Op.{Op}
use Rattle.tp_value.specs.declared.Place.{Place}
use Rattle.tp_value.specs.declared.TrapKind.TheVariants.{Index}
use Rattle.tpal_syntax.specs.declared.instructions.Instr.{Instr}
use Rattle.tpal_syntax.specs.declared.instructions.Instr.TheVariants as instr
use Rattle.tpal_syntax.specs.declared.instructions.Term.{Term}
use Rattle.tpal_syntax.specs.declared.instructions.Value.{Value}
use Rattle.tpal_syntax.specs.declared.instructions.Value.TheVariants as value
use Rattle.tpal_syntax.specs.Listing.{Listing}
use Rattle.expr_lower.specs.declared.scope.Scope.{Scope}
use Rattle.expr_lower.specs.Bodies.{trap_block, range_tests}
use Rattle.expr_lower.specs.Scopes.{offset_of, register_of, table_number}
use Rattle.expr_lower.specs.Standing.{AreAt}
use Rattle.block_lower.specs.declared.body.Body.{Body}
use Rattle.block_lower.specs.declared.output.Output.{Output}
use Rattle.block_lower.specs.declared.round.Round as told
use Rattle.block_lower.specs.Bodies.{activation, HasRoomFor}
use Rattle.scene_laws.specs.Code.{Computes, Operand, IsTable, Code, put_code, put_kept_code}
use Rattle.scene_laws.specs.Code.{fold_code, fold_register_code, fold_nothing_code}
use Rattle.scene_laws.specs.Code.{emit_code, store, load, alu_of}
use Rattle.scene_laws.specs.Code.{put_tested}
use Rattle.scene_laws.specs.Layout.{kept_cell, Activation}
use Rattle.block_lower.specs.Lowering.{WritesValue, WritesOperand, WritesPut, Lowers}
use Rattle.block_lower.specs.Lowering.{folded_in_cell}
use Rattle.scene_laws.specs.Names.{SeesAs}
use Rattle.block_lower.specs.Writing.{next_label, Pushes, Traps, Continues, Leads}
use Rattle.block_lower.proofs.Written.Lowered.{cell_is}
use Rattle.scene_laws.proofs.Scenes.Seeing.{seen_table}
use Rattle.block_lower.proofs.Written.Standing.{held_for, stand_of}
use Rattle.block_lower.proofs.Written.Writing.{pushed, trapped}

pub put_pushed : (table row col number : ℕ) (place : Place) (old traps tests new : Output) → Traps Index place old traps → Pushes (range_tests table row col 3 (next_label old)) traps tests
    → Pushes (instr.Put table row col number ∷ []) tests new → WritesPut table row col number place old new
put_pushed table row col number place old traps tests new trap push_tests push code more last c =
    let own : List Instr = range_tests table row col 3 (next_label old) in
    trapped code old traps Index place (own ++ instr.Put table row col number ∷ more) last trap
    (pushed code traps tests own (instr.Put table row col number ∷ more) last push_tests (pushed code tests new (instr.Put table row col number ∷ []) more last push c))

table_is : (scope : Scope) (act : Activation) (registers : List (ℕ × ℕ)) (names : List (List ℕ))
    (t : List ℕ) (code : Listing) → SeesAs scope names act.tables registers
    → IsTrue (is_in act.tables t) → IsTable code act registers names t (table_number scope t)
table_is scope act registers names t code sees seen = record {
  scope = scope;
  sees = sees.sees;
  kept = stand_of sees;
  inside = seen_table scope names act.tables sees.sees t seen;
  is = refl;
}

module _ (on : Body) (as_told : told.Round) (scope : Scope) where
  pub put_written : (t : Name) (a b e : Expr) (old first second third new : Output) → WritesValue scope a 0 old first → WritesValue scope b 1 first second → WritesValue scope e 2 second third
      → WritesPut (table_number scope t.text.items) 0 1 2 t.place third new → Lowers on as_told scope (Put t a b e) old new
  put_written t a b e old first second third new one two three put code tables names round more last same sees fits c =
      let act : Activation = activation on tables in
      let table : ℕ = table_number scope t.text.items in
      let tested : List Instr = put_tested table 0 1 2 3 (next_label third) more in
      let p : Continues code third tested last × AreAt code (next_label third) (trap_block (next_label third) Index t.place ∷ []) = put code more last c in
      let u : Leads code second (λ instrs end. (end ≡ last) × Computes code act round.registers names e 2 instrs tested) = three code act names round.registers tested last sees fits.3 p.0 in
      let v : Leads code first (λ instrs end. (end ≡ u.end) × Computes code act round.registers names b 1 instrs u.instrs) = two code act names round.registers u.instrs u.end sees fits.2 u.continues in
      let w : Leads code old (λ instrs end. (end ≡ v.end) × Computes code act round.registers names a 0 instrs v.instrs) = one code act names round.registers v.instrs v.end sees fits.1 v.continues in
      record {
        instrs = w.instrs;
        end = w.end;
        continues = w.continues;
        told = subst (λ (end : Term). Code code act round names (Put t a b e) w.instrs w.end more end) (w.told.0 ∙ v.told.0 ∙ u.told.0)
            (put_code (table_is scope act round.registers names t.text.items code sees fits.0)
            w.told.1 v.told.1 u.told.1 p.1);
      }

  pub put_kept_written : (t : Name) (a b e : Expr) (old first kept_first second kept_second third loads both new : Output) → HasRoomFor on 2
      → WritesValue scope a 0 old first → Pushes (store (kept_cell (activation on []) 0) (value.Reg 0) ∷ []) first kept_first
      → WritesValue scope b 0 kept_first second → Pushes (store (kept_cell (activation on []) 1) (value.Reg 0) ∷ []) second kept_second
      → WritesValue scope e 0 kept_second third → Pushes (load 1 (kept_cell (activation on []) 0) ∷ []) third loads → Pushes (load 2 (kept_cell (activation on []) 1) ∷ []) loads both
      → WritesPut (table_number scope t.text.items) 1 2 0 t.place both new → Lowers on as_told scope (Put t a b e) old new
  put_kept_written t a b e old first kept_first second kept_second third loads both new room one keep_first two keep_second three load_first load_second put code tables names round more last same sees fits c =
      let act : Activation = activation on tables in
      let table : ℕ = table_number scope t.text.items in
      let row : ℕ = kept_cell act 0 in
      let col : ℕ = kept_cell act 1 in
      let tested : List Instr = put_tested table 1 2 0 3 (next_label both) more in
      let p : Continues code both tested last × AreAt code (next_label both) (trap_block (next_label both) Index t.place ∷ []) = put code more last c in
      let loaded : List Instr = load 1 row ∷ load 2 col ∷ tested in
      let u : Leads code kept_second (λ instrs end. (end ≡ last) × Computes code act round.registers names e 0 instrs loaded) =
      three code act names round.registers loaded last sees fits.3 (pushed code third loads (load 1 row ∷ []) (load 2 col ∷ tested) last load_first (pushed code loads both (load 2 col ∷ []) tested last load_second p.0)) in
      let v : Leads code kept_first (λ instrs end. (end ≡ u.end) × Computes code act round.registers names b 0 instrs (store col (value.Reg 0) ∷ u.instrs)) =
      two code act names round.registers (store col (value.Reg 0) ∷ u.instrs) u.end sees fits.2 (pushed code second kept_second (store col (value.Reg 0) ∷ []) u.instrs u.end keep_second u.continues) in
      let w : Leads code old (λ instrs end. (end ≡ v.end) × Computes code act round.registers names a 0 instrs (store row (value.Reg 0) ∷ v.instrs)) =
      one code act names round.registers (store row (value.Reg 0) ∷ v.instrs) v.end sees fits.1 (pushed code first kept_first (store row (value.Reg 0) ∷ []) v.instrs v.end keep_first v.continues) in
      record {
        instrs = w.instrs;
        end = w.end;
        continues = w.continues;
        told = subst (λ (end : Term). Code code act round names (Put t a b e) w.instrs w.end more end) (w.told.0 ∙ v.told.0 ∙ u.told.0)
            (put_kept_code room.room (table_is scope act round.registers names t.text.items code sees fits.0)
            w.told.1 v.told.1 u.told.1 p.1);
      }

  pub emit_written : (place : Place) (t : Name) (old new : Output) → Pushes (instr.Emit (table_number scope t.text.items) ∷ []) old new → Lowers on as_told scope (Emit place t) old new
  emit_written place t old new push code tables names round more last same sees fits c =
      let one : Instr = instr.Emit (table_number scope t.text.items) in
      record {
        instrs = one ∷ more;
        end = last;
        continues = pushed code old new (one ∷ []) more last push c;
        told = emit_code (table_is scope (activation on tables) round.registers names t.text.items code sees fits);
      }

  pub fold_written : (x : Name) (e : Expr) (o : Op) (v : Value) (old valued new : Output)
      → operator_of as_told.reduces.now x.text.items ≡ Some o
      → register_of scope x.text.items ≡ None → WritesOperand scope e 0 v old valued
      → Pushes (folded_in_cell (offset_of scope x.text.items) (alu_of o) v) valued new
      → Lowers on as_told scope (Fold x e) old new
  fold_written x e o v old valued new is none writes push code tables names round more last same
      sees fits c =
      let act : Activation = activation on tables in
      let cell : ℕ = offset_of scope x.text.items in
      let own : List Instr = folded_in_cell cell (alu_of o) v in
      let w : Leads code old (λ instrs end. (end ≡ last)
      × Operand code act round.registers names e 0 v instrs (own ++ more)) =
      writes code act names round.registers (own ++ more) last sees fits.1
      (pushed code valued new own more last push c) in
      record {
        instrs = w.instrs;
        end = w.end;
        continues = w.continues;
        told = subst (λ (end : Term). Code code act round names (Fold x e) w.instrs w.end more end)
            w.told.0
            (fold_code (ap (λ rs. operator_of rs x.text.items) same.reduces ∙ is)
            (cell_is on as_told scope tables names round.fixed x.text.items code sees.sees fits.0)
            (held_for sees x.text.items fits.0.seen ∙ none) w.told.1);
      }

  -- the same of a variable in a register
  pub fold_register_written : (x : Name) (e : Expr) (o : Op) (v : Value) (held : ℕ)
      (old valued new : Output)
      → operator_of as_told.reduces.now x.text.items ≡ Some o
      → register_of scope x.text.items ≡ Some held → WritesOperand scope e 0 v old valued
      → Pushes (instr.Calc held held (alu_of o) v ∷ []) valued new
      → Lowers on as_told scope (Fold x e) old new
  fold_register_written x e o v held old valued new is held_is writes push code tables names round
      more last same sees fits c =
      let act : Activation = activation on tables in
      let own : Instr = instr.Calc held held (alu_of o) v in
      let w : Leads code old (λ instrs end. (end ≡ last)
      × Operand code act round.registers names e 0 v instrs (own ∷ more)) =
      writes code act names round.registers (own ∷ more) last sees fits.1
      (pushed code valued new (own ∷ []) more last push c) in
      record {
        instrs = w.instrs;
        end = w.end;
        continues = w.continues;
        told = subst (λ (end : Term). Code code act round names (Fold x e) w.instrs w.end more end)
            w.told.0
            (fold_register_code (ap (λ rs. operator_of rs x.text.items) same.reduces ∙ is)
            (cell_is on as_told scope tables names round.fixed x.text.items code sees.sees fits.0)
            (held_for sees x.text.items fits.0.seen ∙ held_is) w.told.1);
      }

  pub fold_nothing_written : (x : Name) (e : Expr) (old new : Output) → operator_of as_told.reduces.now x.text.items ≡ None → WritesValue scope e 0 old new → Lowers on as_told scope (Fold x e) old new
  fold_nothing_written x e old new is writes code tables names round more last same sees fits c =
      let act : Activation = activation on tables in
      let w : Leads code old (λ instrs end. (end ≡ last) × Computes code act round.registers names e 0 instrs more) = writes code act names round.registers more last sees fits.1 c in
      record {
        instrs = w.instrs;
        end = w.end;
        continues = w.continues;
        told = subst (λ (end : Term). Code code act round names (Fold x e) w.instrs w.end more end) w.told.0 (fold_nothing_code (ap (λ rs. operator_of rs x.text.items) same.reduces ∙ is) w.told.1);
      }
