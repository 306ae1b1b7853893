-- A measure for the evaluator: how many calls may still be opened, and how deep the statements are.
use Rattle.std.proofs.Common.{◌≡◌, ℕ, suc, ◌+◌, ◌-◌, ◌*◌, ◌<◌, ◌≤◌, List, [], ◌∷◌, max, Some, Bool}
use Rattle.std.proofs.Common.{true, false, bytes_eq, refl, arith, subst}
use denote.Param.Weighed.{most}
use Rattle.loop_syntax.specs.declared.Stmt.{size-Stmt}
use Rattle.loop_syntax.specs.declared.Func.{Func}
use Rattle.loop_meaning.specs.declared.setting.Setting.{Setting}
use Rattle.loop_rules.specs.Names.{func_of}

abbrev pub body_size : Func → ℕ
body_size f = most (λ s. size-Stmt s) f.body.items

-- the greatest size of a body
unfoldable pub weight : List Func → ℕ
weight fs = 16 * most body_size fs + 16

-- what the calls that may still be opened weigh
unfoldable pub level : List Func → ℕ → ℕ
level fs depth = (10000 - depth) * weight fs

abbrev pub level_of : Setting → ℕ
level_of k = level k.program.now.funcs.items k.depth

pub found_below : (fs : List Func) (x : List ℕ) (f : Func) → func_of fs x ≡ Some f → body_size f ≤ most body_size fs
found_below [] x f e = cc
found_below (g ∷ fs) x f e = go (bytes_eq g.name.text.items x) refl (found_below fs x f)
  where
    go : (b : Bool) → bytes_eq g.name.text.items x ≡ b → (func_of fs x ≡ Some f → body_size f ≤ most body_size fs) → body_size f ≤ max (body_size g) (most body_size fs)
    go true h r =
        let d : Some g ≡ Some f = rw h at e in
        let q : g ≡ f = cc in
        subst (λ v. body_size v ≤ max (body_size g) (most body_size fs)) q (omega arith)
    go false h r =
        let d : func_of fs x ≡ Some f = rw h at e in
        let m : body_size f ≤ most body_size fs = r d in
        omega arith

pub level_falls : (fs : List Func) (x : List ℕ) (f : Func) (depth : ℕ) → func_of fs x ≡ Some f → depth < 10000 → level fs (depth + 1) + (16 * body_size f + 6) < level fs depth + 1
unfolding level weight
level_falls fs x f depth e h =
    let q : 10000 - depth ≡ suc (10000 - (depth + 1)) = omega arith in
    rw q (omega (arith, found_below fs x f e))
