-- One reading in terms of another.
use Rattle.std.proofs.Common.{◌≡◌, ℕ, zero, suc, ◌<◌, ◌≤◌, List, ◌∷◌, length, false, Result, refl}
use Rattle.std.proofs.Common.{ap, sym, ◌∙◌, arith}
use Rattle.loop_parse.specs.declared.terminal.Fixed.TheVariants.{Minus}
use Rattle.loop_parse.specs.Terms as kinds
use Rattle.loop_parse.specs.Terms.{Kind, Token, Is, IsName, IsLiteral}
use Rattle.loop_parse.specs.declared.reader.Unparsed.{Unparsed}
use Rattle.loop_syntax.specs.Tree.{Tree, Node}
use Rattle.loop_parse.specs.Reading.{Reply, Gives, is_fixed, primary_of, unary_of, primary, unary}
use Rattle.loop_parse.specs.Reading.{product, sum, expr, nested, name, name_at, name_rest}
use Rattle.loop_parse.specs.Reading.{name_cell, primary_at, ◌>>=◌, stmts, stmt, inner_stmts, within}

unary_of_primary : (inner : List Token → Reply Tree) (t : Token) (ts : List Token) → is_fixed Minus t.kind ≡ false → unary_of inner (t ∷ ts) ≡ primary_of inner (t ∷ ts)
unary_of_primary inner t ts h = rw (h, unary_of) refl

pub unary_primary : (n : ℕ) (us : List Token) (t : Token) (ts : List Token) → us ≡ t ∷ ts → is_fixed Minus t.kind ≡ false → unary n us ≡ primary n us
unfolding unary primary
unary_primary n us t ts e h = rw e (unary_of_primary (nested n) t ts h)

pub nested_expr : (n : ℕ) (ts : List Token) → nested (suc n) ts ≡ expr n ts
unfolding nested expr sum product unary
nested_expr n ts = refl

pub gives_nested : {X : Type 0} (source : List ℕ) (view : X → Tree × List Token) (r : Result X Unparsed) (ts : List Token) →
    ((n : ℕ) → length ts ≤ n → Gives source view r (expr n ts)) → (n : ℕ) → length ts < n → Gives source view r (nested n ts)
gives_nested source view r ts f zero h = absurd (omega arith)
gives_nested source view r ts f (suc n) h = rw (nested_expr n ts) (f n (omega arith))

pub name_cell_at : (inner : List Token → Reply Tree) (t : Token) (ts : List Token) (x : List ℕ) → t.kind ≡ kinds.Name x → primary_of inner (t ∷ ts) ≡ name_cell inner (t ∷ ts)
unfolding name
name_cell_at inner t ts x h = ap (λ k. primary_at inner k t ts) h ∙ sym (ap (λ k. name_at k t ts >>= λ y. name_rest inner y.0 y.1) h)

pub primary_name : (n : ℕ) (us : List Token) (t : Token) (ts : List Token) (x : List ℕ) → us ≡ t ∷ ts → t.kind ≡ kinds.Name x → primary n us ≡ name_cell (nested n) us
unfolding primary
primary_name n us t ts x e h = ap (primary_of (nested n)) e ∙ name_cell_at (nested n) t ts x h ∙ ap (name_cell (nested n)) (sym e)

pub gives_inner : {X : Type 0} (source : List ℕ) (view : X → List Node × List Token) (r : Result X Unparsed) (level : ℕ) (ts : List Token) →
    ((n : ℕ) → length ts ≤ n → Gives source view r (stmts within n level ts)) → (n : ℕ) → length ts < n → Gives source view r (inner_stmts within n level ts)
unfolding inner_stmts stmts stmt
gives_inner source view r level ts f zero h = absurd (omega arith)
gives_inner source view r level ts f (suc n) h = f n (omega arith)
