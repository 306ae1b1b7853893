-- The rows that the carries of a `par` name are loaded one behind the other.
use Rattle.std.proofs.Common.{◌≡◌, ℕ, suc, ◌+◌, ◌≤◌, List, [], ◌∷◌, ◌++◌, length, take, length-take}
use Rattle.std.proofs.Common.{sym, ap, ◌∙◌, arith, append_assoc}
use Rattle.loop_syntax.specs.declared.Carry.{Carry}
use Rattle.loop_syntax.specs.declared.Carry.TheVariants as carry
use Rattle.expr_lower.specs.declared.scope.Scope.{Scope}
use Rattle.tpal_syntax.specs.declared.instructions.Instr.{Instr}
use Rattle.block_lower.specs.declared.output.Output.{Output}
use Rattle.scene_laws.specs.Sites.{row_load, row_register, rows_from}
use Rattle.block_lower.specs.Writing.{Pushes}

rows_after : (scope : Scope) (before : ℕ) (xs ys : List Carry)
    → rows_from scope before (xs ++ ys)
    ≡ rows_from scope before xs ++ rows_from scope (before + length xs) ys
rows_after scope before [] ys = ap (λ n. rows_from scope n ys) (omega arith)
rows_after scope before (carry.Rows t i ∷ xs) ys =
    rows_after scope (suc before) xs ys
    ∙ ap (λ n. rows_from scope (suc before) xs ++ rows_from scope n ys) (omega arith)
rows_after scope before (carry.Cells t k j ∷ xs) ys =
    ap (λ (is : List Instr). row_load scope (row_register before) k ∷ is)
    (rows_after scope (suc before) xs ys
    ∙ ap (λ n. rows_from scope (suc before) xs ++ rows_from scope n ys) (omega arith))

pub rows_pushed : (scope : Scope) (cs : List Carry) (before : ℕ) (c : Carry)
    (old rows new : Output)
    → before ≤ length cs → take (before + 1) cs ≡ take before cs ++ c ∷ []
    → Pushes (rows_from scope 0 (take before cs)) old rows
    → Pushes (rows_from scope before (c ∷ [])) rows new
    → Pushes (rows_from scope 0 (take (before + 1) cs)) old new
rows_pushed scope cs before c old rows new less step first one =
    let long : 0 + length (take before cs) ≡ before = omega (arith, length-take before cs, less) in
    let all : rows_from scope 0 (take (before + 1) cs)
    ≡ rows_from scope 0 (take before cs) ++ rows_from scope before (c ∷ []) =
    ap (λ us. rows_from scope 0 us) step ∙ rows_after scope 0 (take before cs) (c ∷ [])
    ∙ ap (λ n. rows_from scope 0 (take before cs) ++ rows_from scope n (c ∷ [])) long in
    record {
      blocks = one.blocks ∙ first.blocks;
      body = one.body
          ∙ ap (λ (is : List Instr). is ++ rows_from scope before (c ∷ [])) first.body
          ∙ append_assoc old.body.items (rows_from scope 0 (take before cs))
          (rows_from scope before (c ∷ []))
          ∙ ap (λ (is : List Instr). old.body.items ++ is) (sym all);
      traps = one.traps ∙ first.traps;
      noted = one.noted ∙ first.noted;
    }
