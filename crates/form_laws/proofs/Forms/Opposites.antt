-- The law of opposites: an expression and its opposite trap alike, and else one of them is 0 where
-- the other is 1. Either may be written in the place of the other.
use Rattle.std.proofs.Common.{◌≡◌, ℕ, List, ◌++◌, Option, Some, None, Box, refl}
use Rattle.std.proofs.Common.{sym, ap, subst, ◌∙◌, arith}
use Rattle.std.proofs.lemmas.Bool.Decides.{nat_tests}
use Rattle.std.specs.declared.alloc.Global.{Global}
use Rattle.std.specs.Ordering.{int_eq}
use Rattle.std.specs.Prelude.{ℤ, pos, negsuc, Bool, true, false, not, int_lt, int_le, nat_lt, nat_le}
use Rattle.std.specs.Prelude.{if◌then◌else◌}
use Rattle.tp_value.specs.declared.Place.{Place}
use Rattle.tp_value.specs.declared.TrapKind.{TrapKind}
use Rattle.tp_value.specs.declared.Table.{Table}
use Rattle.tp_value.specs.Number.{truth}
use Rattle.loop_syntax.specs.declared.BinOp.{BinOp}
use Rattle.loop_syntax.specs.declared.BinOp.TheVariants as op
use Rattle.loop_syntax.specs.declared.Expr.{Expr}
use Rattle.loop_syntax.specs.declared.Expr.TheVariants.{Int, Var, Cell', Rows, Cols, Neg', Bin'}
use Rattle.loop_rules.specs.Limits.{height}
use Rattle.loop_meaning.specs.declared.value.Answer.{Answer}
use Rattle.loop_meaning.specs.declared.value.Answer.TheVariants.{Number, Traps}
use Rattle.loop_meaning.specs.declared.value.Variable.{Variable}
use Rattle.loop_meaning.specs.Expressions.{Value, bind, bind_answer, calculated, eval, number}
use Rattle.loop_meaning.specs.InRange.{ExprInRange}
use Rattle.loop_meaning.specs.State as meaning
use Rattle.loop_meaning.specs.State.{Note, Ran}
use Rattle.loop_meaning.specs.Statements.{choose, given, given_answer}
use Rattle.expr_lower.specs.declared.expression.Operation.{Operation}
use Rattle.expr_lower.specs.Bodies.{can_trap, literal, trap_count}
use Rattle.expr_lower.specs.Nodes.{operation_height, operation_traps}
use Rattle.scene_laws.specs.Visible.{IsVisible}
use Rattle.scene_laws.specs.Opposite.{IsFound, branch_blocks, of_below, opposite}
use Rattle.scene_laws.proofs.Scenes.Values.{literal_value}

-- ---- numbers

below_nat : (a b : ℕ) → nat_lt a b ≡ not (nat_le b a)
below_nat a b = grind (arith, nat_tests)

below_int : (a b : ℤ) → int_lt a b ≡ not (int_le b a)
below_int (pos a) (pos b) = below_nat a b
below_int (pos a) (negsuc b) = refl
below_int (negsuc a) (pos b) = refl
below_int (negsuc a) (negsuc b) = below_nat b a

twice_not : (b : Bool) → not (not b) ≡ b
twice_not true = refl
twice_not false = refl

above_int : (a b : ℤ) → int_le b a ≡ not (int_lt a b)
above_int a b = sym (twice_not (int_le b a)) ∙ ap not (sym (below_int a b))

-- ---- values

-- two values trap alike, or are the truth of a test and of its contrary
data Differ : Value → Value → Type 0 where
  trapping : {k : TrapKind} {p : Place} {ns : List Note}
      → Differ (record { answer = Traps k p; notes = ns }) (record { answer = Traps k p; notes = ns })
  differing : (b : Bool) {ns : List Note}
      → Differ (record { answer = Number (truth b); notes = ns })
      (record { answer = Number (truth (not b)); notes = ns })

differ_noted : (ns : List Note) (v w : Value) → Differ v w
    → Differ (record { answer = v.answer; notes = ns ++ v.notes })
    (record { answer = w.answer; notes = ns ++ w.notes })
differ_noted ns v w trapping = trapping
differ_noted ns v w (differing b) = differing b

differ_behind : (x : Answer) (ns : List Note) (f g : ℤ → Value) → ((n : ℤ) → Differ (f n) (g n))
    → Differ (bind_answer x ns f) (bind_answer x ns g)
differ_behind (Number n) ns f g differ = differ_noted ns (f n) (g n) (differ n)
differ_behind (Traps k p) ns f g differ = trapping

differ_bound : (x : Value) (f g : ℤ → Value) → ((n : ℤ) → Differ (f n) (g n))
    → Differ (bind x f) (bind x g)
differ_bound x f g differ = differ_behind x.answer x.notes f g differ

differ_contrary : (a b : Bool) → b ≡ not a → Differ (number (truth a)) (number (truth b))
differ_contrary a b is =
    subst (λ (c : Bool). Differ (number (truth a)) (number (truth c))) (sym is) (differing a)

-- ---- comparisons

-- an operator that traps nowhere
abbrev IsCalm : BinOp → Type 0
IsCalm o = (n : Option ℤ) → can_trap o n ≡ false

-- an operator over two operands, and another one over them as they are or over the two in turn,
-- where the first one is a literal
data Opposes : Expr → Expr → Type 0 where
  beside : {o other : BinOp} {place : Place} {p q : Box (Unit {0}) Global} {a b : Expr}
      → IsCalm o → IsCalm other
      → ((m n : ℤ) → Differ (calculated o place m n) (calculated other place m n))
      → Opposes (Bin' o place p a q b) (Bin' other place p a q b)
  turned : {o other : BinOp} {place : Place} {p q : Box (Unit {0}) Global} {a b : Expr} {k : ℤ}
      → IsCalm o → IsCalm other
      → ((m n : ℤ) → Differ (calculated o place m n) (calculated other place n m))
      → literal a ≡ Some k
      → Opposes (Bin' o place p a q b) (Bin' other place q b p a)

below_opposes : (o other same : BinOp) (place : Place) (p q : Box (Unit {0}) Global) (a b e' : Expr)
    (left right : Option ℤ) → IsCalm o → IsCalm other → IsCalm same
    → ((m n : ℤ) → Differ (calculated o place m n) (calculated other place n m))
    → ((m n : ℤ) → Differ (calculated o place m n) (calculated same place m n))
    → literal a ≡ left → of_below other same place p a q b left right ≡ Some e'
    → Opposes (Bin' o place p a q b) e'
below_opposes o other same place p q a b e' (Some k) right calm calm_other calm_same one two is found =
    let node : Bin' other place q b p a ≡ e' = cc in
    subst (Opposes (Bin' o place p a q b)) node (turned calm calm_other one is)
below_opposes o other same place p q a b e' None (Some k) calm calm_other calm_same one two is found =
    absurd (cc)
below_opposes o other same place p q a b e' None None calm calm_other calm_same one two is found =
    let node : Bin' same place p a q b ≡ e' = cc in
    subst (Opposes (Bin' o place p a q b)) node (beside calm calm_same two)

beside_opposes : (o other : BinOp) (place : Place) (p q : Box (Unit {0}) Global) (a b e' : Expr)
    → IsCalm o → IsCalm other
    → ((m n : ℤ) → Differ (calculated o place m n) (calculated other place m n))
    → Some (Bin' other place p a q b) ≡ Some e' → Opposes (Bin' o place p a q b) e'
beside_opposes o other place p q a b e' calm calm_other differ is =
    let node : Bin' other place p a q b ≡ e' = cc in
    subst (Opposes (Bin' o place p a q b)) node (beside calm calm_other differ)

opposes : (e e' : Expr) → opposite e ≡ Some e' → Opposes e e'
opposes (Int n place) e' is = absurd (cc)
opposes (Var x) e' is = absurd (cc)
opposes (Cell' t p a q b) e' is = absurd (cc)
opposes (Rows t) e' is = absurd (cc)
opposes (Cols t) e' is = absurd (cc)
opposes (Neg' p a place) e' is = absurd (cc)
opposes (Bin' op.Add place p a q b) e' is = absurd (cc)
opposes (Bin' op.Sub place p a q b) e' is = absurd (cc)
opposes (Bin' op.Mul place p a q b) e' is = absurd (cc)
opposes (Bin' op.Div place p a q b) e' is = absurd (cc)
opposes (Bin' op.Rem place p a q b) e' is = absurd (cc)
opposes (Bin' op.Eq place p a q b) e' is =
    beside_opposes op.Eq op.Ne place p q a b e' (λ n. refl) (λ n. refl)
    (λ m n. differing (int_eq m n)) is
opposes (Bin' op.Ne place p a q b) e' is =
    beside_opposes op.Ne op.Eq place p q a b e' (λ n. refl) (λ n. refl)
    (λ m n. differ_contrary (not (int_eq m n)) (int_eq m n) (sym (twice_not (int_eq m n)))) is
opposes (Bin' op.Lt place p a q b) e' is =
    below_opposes op.Lt op.Le op.Ge place p q a b e' (literal a) (literal b) (λ n. refl) (λ n. refl)
    (λ n. refl)
    (λ m n. differ_contrary (int_lt m n) (int_le n m) (above_int m n))
    (λ m n. differ_contrary (int_lt m n) (int_le n m) (above_int m n)) refl is
opposes (Bin' op.Le place p a q b) e' is =
    below_opposes op.Le op.Lt op.Gt place p q a b e' (literal a) (literal b) (λ n. refl) (λ n. refl)
    (λ n. refl)
    (λ m n. differ_contrary (int_le m n) (int_lt n m) (below_int n m))
    (λ m n. differ_contrary (int_le m n) (int_lt n m) (below_int n m)) refl is
opposes (Bin' op.Gt place p a q b) e' is =
    beside_opposes op.Gt op.Le place p q a b e' (λ n. refl) (λ n. refl)
    (λ m n. differ_contrary (int_lt n m) (int_le m n) (above_int n m)) is
opposes (Bin' op.Ge place p a q b) e' is =
    beside_opposes op.Ge op.Lt place p q a b e' (λ n. refl) (λ n. refl)
    (λ m n. differ_contrary (int_le n m) (int_lt m n) (below_int m n)) is

-- ---- what both have in common

turned_differ : (vs : List Variable) (ts : List Table) (o other : BinOp) (place : Place)
    (a b : Value) (k : ℤ)
    → ((m n : ℤ) → Differ (calculated o place m n) (calculated other place n m))
    → a ≡ number k
    → Differ (bind a (λ m. bind b (λ n. calculated o place m n)))
    (bind b (λ m. bind a (λ n. calculated other place m n)))
turned_differ vs ts o other place a b k differ is =
    subst (λ (v : Value). Differ (bind v (λ m. bind b (λ n. calculated o place m n)))
    (bind b (λ m. bind v (λ n. calculated other place m n)))) (sym is)
    (differ_bound b (λ n. calculated o place k n)
    (λ m. bind (number k) (λ n. calculated other place m n)) (λ n. differ k n))

values_differ : (vs : List Variable) (ts : List Table) {e e' : Expr} → Opposes e e'
    → Differ (eval vs ts e) (eval vs ts e')
values_differ vs ts (beside {o} {other} {place} {p} {q} {a} {b} calm calm_other differ) =
    differ_bound (eval vs ts a) (λ m. bind (eval vs ts b) (λ n. calculated o place m n))
    (λ m. bind (eval vs ts b) (λ n. calculated other place m n))
    (λ m.
    differ_bound (eval vs ts b) (λ n. calculated o place m n) (λ n. calculated other place m n)
    (λ n. differ m n))
values_differ vs ts (turned {o} {other} {place} {p} {q} {a} {b} {k} calm calm_other differ is) =
    turned_differ vs ts o other place (eval vs ts a) (eval vs ts b) k differ
    (literal_value vs ts a k is)

choices_same : (s : meaning.State) (f g : meaning.State → Ran) {v w : Value} → Differ v w
    → given_answer v.answer v.notes s (λ n. choose n f g s)
    ≡ given_answer w.answer w.notes s (λ n. choose n g f s)
choices_same s f g trapping = refl
choices_same s f g (differing true) = refl
choices_same s f g (differing false) = refl

-- a choice by an expression is the contrary one by its opposite
pub opposite_chooses : (e e' : Expr) → opposite e ≡ Some e' → (f g : meaning.State → Ran)
    (s : meaning.State)
    → given e s (λ n. choose n f g s) ≡ given e' s (λ n. choose n g f s)
opposite_chooses e e' is f g s =
    choices_same s f g (values_differ s.vars s.tables (opposes e e' is))

visible_too : (tables names : List (List ℕ)) {e e' : Expr} → Opposes e e' → IsVisible tables names e
    → IsVisible tables names e'
visible_too tables names (beside calm calm_other differ) visible = visible
visible_too tables names (turned calm calm_other differ is) visible = (visible.1, visible.0)

pub opposite_visible : (tables names : List (List ℕ)) (e e' : Expr) → opposite e ≡ Some e'
    → IsVisible tables names e → IsVisible tables names e'
opposite_visible tables names e e' is = visible_too tables names (opposes e e' is)

ranged_too : {e e' : Expr} → Opposes e e' → ExprInRange e' → ExprInRange e
ranged_too (beside calm calm_other differ) ranged = ranged
ranged_too (turned calm calm_other differ is) ranged = (ranged.1, ranged.0)

pub opposite_ranged : (e e' : Expr) → opposite e ≡ Some e' → ExprInRange e' → ExprInRange e
opposite_ranged e e' is = ranged_too (opposes e e' is)

height_same : {e e' : Expr} → Opposes e e' → height e' ≡ height e
height_same (beside calm calm_other differ) = refl
height_same (turned {a = a} {b = b} calm calm_other differ is) = omega arith

pub opposite_height : (e e' : Expr) → opposite e ≡ Some e' → height e' ≡ height e
opposite_height e e' is = height_same (opposes e e' is)

calm_count : (o : BinOp) (n : Option ℤ) → IsCalm o → ◌≡◌ {A = ℕ} (if can_trap o n then 1 else 0) 0
calm_count o n calm = rw (calm n) refl

traps_same : {e e' : Expr} → Opposes e e' → trap_count e' ≡ trap_count e
traps_same (beside {o} {other} {b = b} calm calm_other differ) =
    omega (arith, calm_count o (literal b) calm, calm_count other (literal b) calm_other)
traps_same (turned {o} {other} {a = a} {b = b} calm calm_other differ is) =
    omega (arith, calm_count o (literal b) calm, calm_count other (literal a) calm_other)

pub opposite_traps : (e e' : Expr) → opposite e ≡ Some e' → trap_count e' ≡ trap_count e
opposite_traps e e' is = traps_same (opposes e e' is)

-- ---- where it was found

pub found_height : (e : Expr) (o : Operation) → IsFound (opposite e) o
    → operation_height o ≡ height e
found_height e o found = ap height (sym found.holds.is) ∙ opposite_height e found.node found.is

pub found_traps : (e : Expr) (o : Operation) → IsFound (opposite e) o
    → operation_traps o ≡ trap_count e
found_traps e o found = ap trap_count (sym found.holds.is) ∙ opposite_traps e found.node found.is

pub found_blocks : (e : Expr) (o : Operation) → IsFound (opposite e) o
    → branch_blocks (opposite e) ≡ 0
found_blocks e o found = ap branch_blocks found.is
