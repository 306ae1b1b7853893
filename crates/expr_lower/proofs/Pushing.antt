-- What is appended for a node: the code and the trap blocks of its operands, and then its own.
use Rattle.std.proofs.Common.{◌≡◌, ℕ, ◌+◌, List, ◌++◌, Option, length, ap, ◌∙◌, arith, append_assoc}
use Rattle.std.specs.Prelude.{ℤ}
use Rattle.std.proofs.lemmas.List.{length-append}
use Rattle.loop_syntax.specs.declared.BinOp.{BinOp}
use Rattle.loop_syntax.specs.declared.Expr.{Expr}
use Rattle.tpal_syntax.specs.declared.blocks.Block.{Block}
use Rattle.tpal_syntax.specs.declared.instructions.Instr.{Instr}
use Rattle.expr_lower.specs.Bodies.{trap_count, traps_of, operation}
use Rattle.expr_lower.proofs.Law.{length_traps}

-- the label behind the trap blocks of an expression
pub label_behind : (first : ℕ) (before after : List Block) (e : Expr)
    → after ≡ before ++ traps_of (first + length before) e
    → first + length after ≡ first + length before + trap_count e
label_behind first before after e is =
    ap (λ (xs : List Block). first + length xs) is
    ∙ omega (
      arith,
      length-append before (traps_of (first + length before) e),
      length_traps e (first + length before),
    )

-- the trap blocks of two operands, and those of the node
pub traps_behind : (first : ℕ) (before one two three : List Block) (a b : Expr)
    (own : ℕ → List Block)
    → one ≡ before ++ traps_of (first + length before) a
    → two ≡ one ++ traps_of (first + length one) b
    → three ≡ two ++ own (first + length two)
    → three ≡ before
    ++ (traps_of (first + length before) a
    ++ (traps_of (first + length before + trap_count a) b
    ++ own (first + length before + trap_count a + trap_count b)))
traps_behind first before one two three a b own one_is two_is three_is =
    let start : ℕ = first + length before in
    let second : ℕ = start + trap_count a in
    let behind : first + length one ≡ second = label_behind first before one a one_is in
    let last : first + length two ≡ second + trap_count b =
    label_behind first one two b two_is ∙ ap (λ (n : ℕ). n + trap_count b) behind in
    let xs : List Block = traps_of start a in
    let ys : List Block = traps_of second b in
    let zs : List Block = own (second + trap_count b) in
    three_is
    ∙ ap (λ (n : ℕ). two ++ own n) last
    ∙ ap (λ (bs : List Block). bs ++ zs) two_is
    ∙ ap (λ (n : ℕ). (one ++ traps_of n b) ++ zs) behind
    ∙ ap (λ (bs : List Block). (bs ++ ys) ++ zs) one_is
    ∙ append_assoc (before ++ xs) ys zs
    ∙ append_assoc before xs (ys ++ zs)

-- the instructions of an operator over equal operands
pub operation_same : (o : BinOp) (to left other_left right other_right : ℕ) (xs ys : List Instr)
    (m n : Option ℤ) (trap other : ℕ)
    → left ≡ other_left
    → right ≡ other_right
    → xs ≡ ys
    → m ≡ n
    → trap ≡ other
    → operation o to left right xs m trap ≡ operation o to other_left other_right ys n other
operation_same o to left other_left right other_right xs ys m n trap other l r b v t =
    ap (λ (k : ℕ). operation o to k right xs m trap) l
    ∙ ap (λ (k : ℕ). operation o to other_left k xs m trap) r
    ∙ ap (λ (is : List Instr). operation o to other_left other_right is m trap) b
    ∙ ap (λ (k : Option ℤ). operation o to other_left other_right ys k trap) v
    ∙ ap (λ (k : ℕ). operation o to other_left other_right ys n k) t

-- the code of a first operand, and what stands behind it
pub code_behind : (before one two xs ys zs : List Instr)
    → one ≡ before ++ xs
    → two ≡ one ++ ys
    → ys ≡ zs
    → two ≡ before ++ (xs ++ zs)
code_behind before one two xs ys zs one_is two_is same =
    two_is
    ∙ ap (λ (is : List Instr). is ++ ys) one_is
    ∙ ap (λ (is : List Instr). (before ++ xs) ++ is) same
    ∙ append_assoc before xs zs
