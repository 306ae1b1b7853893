-- What the rules say of an instruction, and what stands ahead of a task in each phase.
use Rattle.std.proofs.Common.{◌≡◌, ℕ, zero, suc, ◌+◌, List, [], ◌∷◌, Option, Some, None, refl, sym, ap, subst, ◌∙◌, drop, arith}
use Rattle.std.proofs.lemmas.Bool.{eq-eqb, false≢true}
use Rattle.std.specs.Prelude.{Bool, true, false, not, ◌&&◌, ◌==◌, if◌then◌else◌, slice_get, slice_set}
use Rattle.tpal_syntax.specs.declared.instructions.Instr.{Instr}
use Rattle.tpal_syntax.specs.declared.instructions.Instr.TheVariants.{Move, Calc, IfJump, Load, Store, Salloc, Sfree, PrmPush, PrmPop, PrmDrop, PrmEmpty, PrmSplit, JrAlloc, Fork, Fetch, Put, Rows, Cols, Make, Tick, Trap, Print, Emit}
use Rattle.tpal_syntax.specs.declared.words.Word.{Word}
use Rattle.tpal_machine.specs.declared.ends.Tie.{Tie}
use Rattle.tpal_machine.specs.Reading.{register}
use Rattle.tpal_verify.specs.declared.phases.Phase.{Phase}
use Rattle.tpal_verify.specs.declared.phases.Phase.TheVariants.{Calm, Compared, Asked, Tested, Given}
use Rattle.tpal_verify.specs.Shapes.{Shape}
use Rattle.tpal_verify.specs.Flat.{Ground, is_flat}
use Rattle.tpal_verify.specs.Rules.{has_numbers, marks_rightly, asks_rightly, may_fork, broken_rule, leads_to_fork, truth_of, jumps_by, tests_first}
use Rattle.tpal_verify.specs.Walk.{after_other}
use Rattle.tpal_verify.specs.Fits.{IsGiven, IsAnswer, InPhase, jumps_first, Ahead, Opens}
use Rattle.tpal_verify.proofs.Order.{and_left, and_right}
use Rattle.tpal_verify.proofs.Lower.{some_none}

-- ---- positions

pub at_instr : (at : ℕ) (body : List Instr) (i : Instr) → slice_get body at ≡ Some i → drop at body ≡ i ∷ drop (at + 1) body
at_instr at [] i q = some_none i (sym q)
at_instr zero (x ∷ body) i q = ap (λ y. y ∷ body) (some_is x i q)
  where
    some_is : (x y : Instr) → Some x ≡ Some y → x ≡ y
    some_is x y q = ap of q
      where
        of : Option Instr → Instr
        of None = x
        of (Some z) = z
at_instr (suc at) (x ∷ body) i q = at_instr at body i q ∙ ap (λ n. i ∷ drop n (x ∷ body)) (let z : suc (at + 1) ≡ suc at + 1 = omega arith in z)

pub at_term : (at : ℕ) (body : List Instr) → slice_get body at ≡ None → drop at body ≡ []
at_term zero [] q = refl
at_term (suc at) [] q = refl
at_term zero (x ∷ body) q = some_none x q
at_term (suc at) (x ∷ body) q = at_term at body q

-- ---- rules

-- an instruction that breaks no rule
pub record Obeys (whole : Ground) (first : Bool) (p : Phase) (s : Shape) (i : Instr) (rest : List Instr) : Type 0 where
  pub flat : is_flat whole first i ≡ true
  pub numbers : has_numbers whole p s i ≡ true
  pub marks : marks_rightly s i ≡ true
  pub asks : asks_rightly whole i rest ≡ true
  pub forks : may_fork s i ≡ true

abbrev rule_of : Bool → Bool → Bool → Bool → Bool → Option ℕ
rule_of a b c d e = if not a then Some 1 else (if not b then Some 2 else (if not c then Some 3 else (if not d then Some 4 else (if not e then Some 5 else None))))

pub obeys : (whole : Ground) (first : Bool) (p : Phase) (s : Shape) (i : Instr) (rest : List Instr) → broken_rule whole first p s i rest ≡ None → Obeys whole first p s i rest
obeys whole first p s i rest q = by (is_flat whole first i) (has_numbers whole p s i) (marks_rightly s i) (asks_rightly whole i rest) (may_fork s i) refl refl refl refl refl q
  where
    by : (a b c d e : Bool) → is_flat whole first i ≡ a → has_numbers whole p s i ≡ b → marks_rightly s i ≡ c → asks_rightly whole i rest ≡ d → may_fork s i ≡ e
        → rule_of a b c d e ≡ None → Obeys whole first p s i rest
    by true true true true true u v w x y z = record { flat = u; numbers = v; marks = w; asks = x; forks = y }
    by false b c d e u v w x y z = some_none 1 z
    by true false c d e u v w x y z = some_none 2 z
    by true true false d e u v w x y z = some_none 3 z
    by true true true false e u v w x y z = some_none 4 z
    by true true true true false u v w x y z = some_none 5 z

-- ---- instructions that stand nowhere between a question and its fork

abbrev pub IsOrdinary : Instr → Type 0
IsOrdinary (Move to value) = ⊥
IsOrdinary (Calc to left alu right) = ⊥
IsOrdinary (IfJump test label) = ⊥
IsOrdinary (Load to base off) = ⊥
IsOrdinary (Store base off value) = ⊥
IsOrdinary (Salloc n) = Unit {0}
IsOrdinary (Sfree n) = Unit {0}
IsOrdinary (PrmPush base off cells split) = Unit {0}
IsOrdinary (PrmPop base off) = Unit {0}
IsOrdinary PrmDrop = Unit {0}
IsOrdinary (PrmEmpty r) = Unit {0}
IsOrdinary (PrmSplit base split) = Unit {0}
IsOrdinary (JrAlloc to target) = Unit {0}
IsOrdinary (Fork rec child) = ⊥
IsOrdinary (Fetch to table row col) = Unit {0}
IsOrdinary (Put table row col value) = Unit {0}
IsOrdinary (Rows to table) = Unit {0}
IsOrdinary (Cols to table) = Unit {0}
IsOrdinary (Make table rows cols place) = Unit {0}
IsOrdinary Tick = Unit {0}
IsOrdinary (Trap kind place) = Unit {0}
IsOrdinary (Print r) = Unit {0}
IsOrdinary (Emit table) = Unit {0}

-- what is no test isn't one that leads to a fork
pub no_test : (r : ℕ) (i : Instr) (rest : List Instr) → truth_of r i ≡ None → tests_first r (i ∷ rest) ≡ true → ⊥
no_test r i [] n q = false≢true q
no_test r i (jump ∷ body) n q = false≢true (subst (λ o. (jumps_by o jump && leads_to_fork r body) ≡ true) n q)

not_tested : (r : ℕ) (i : Instr) (rest : List Instr) → IsOrdinary i → tests_first r (i ∷ rest) ≡ true → ⊥
not_tested r (Move to value) rest o q = absurd o
not_tested r (Calc to left alu right) rest o q = absurd o
not_tested r (IfJump test label) rest o q = absurd o
not_tested r (Load to base off) rest o q = absurd o
not_tested r (Store base off value) rest o q = absurd o
not_tested r (Salloc n) rest o q = no_test r (Salloc n) rest refl q
not_tested r (Sfree n) rest o q = no_test r (Sfree n) rest refl q
not_tested r (PrmPush base off cells split) rest o q = no_test r (PrmPush base off cells split) rest refl q
not_tested r (PrmPop base off) rest o q = no_test r (PrmPop base off) rest refl q
not_tested r PrmDrop rest o q = no_test r PrmDrop rest refl q
not_tested r (PrmEmpty r0) rest o q = no_test r (PrmEmpty r0) rest refl q
not_tested r (PrmSplit base split) rest o q = no_test r (PrmSplit base split) rest refl q
not_tested r (JrAlloc to target) rest o q = no_test r (JrAlloc to target) rest refl q
not_tested r (Fork rec child) rest o q = absurd o
not_tested r (Fetch to table row col) rest o q = no_test r (Fetch to table row col) rest refl q
not_tested r (Put table row col value) rest o q = no_test r (Put table row col value) rest refl q
not_tested r (Rows to table) rest o q = no_test r (Rows to table) rest refl q
not_tested r (Cols to table) rest o q = no_test r (Cols to table) rest refl q
not_tested r (Make table rows cols place) rest o q = no_test r (Make table rows cols place) rest refl q
not_tested r Tick rest o q = no_test r Tick rest refl q
not_tested r (Trap kind place) rest o q = no_test r (Trap kind place) rest refl q
not_tested r (Print r0) rest o q = no_test r (Print r0) rest refl q
not_tested r (Emit table) rest o q = no_test r (Emit table) rest refl q

not_jumped : (r x : ℕ) (i : Instr) (rest : List Instr) → IsOrdinary i → jumps_first r x (i ∷ rest) ≡ true → ⊥
not_jumped r x (Move to value) rest o q = absurd o
not_jumped r x (Calc to left alu right) rest o q = absurd o
not_jumped r x (IfJump test label) rest o q = absurd o
not_jumped r x (Load to base off) rest o q = absurd o
not_jumped r x (Store base off value) rest o q = absurd o
not_jumped r x (Salloc n) rest o q = false≢true q
not_jumped r x (Sfree n) rest o q = false≢true q
not_jumped r x (PrmPush base off cells split) rest o q = false≢true q
not_jumped r x (PrmPop base off) rest o q = false≢true q
not_jumped r x PrmDrop rest o q = false≢true q
not_jumped r x (PrmEmpty r0) rest o q = false≢true q
not_jumped r x (PrmSplit base split) rest o q = false≢true q
not_jumped r x (JrAlloc to target) rest o q = false≢true q
not_jumped r x (Fork rec child) rest o q = absurd o
not_jumped r x (Fetch to table row col) rest o q = false≢true q
not_jumped r x (Put table row col value) rest o q = false≢true q
not_jumped r x (Rows to table) rest o q = false≢true q
not_jumped r x (Cols to table) rest o q = false≢true q
not_jumped r x (Make table rows cols place) rest o q = false≢true q
not_jumped r x Tick rest o q = false≢true q
not_jumped r x (Trap kind place) rest o q = false≢true q
not_jumped r x (Print r0) rest o q = false≢true q
not_jumped r x (Emit table) rest o q = false≢true q

not_led : (r : ℕ) (i : Instr) (rest : List Instr) → IsOrdinary i → leads_to_fork r (i ∷ rest) ≡ true → ⊥
not_led r (Move to value) rest o q = absurd o
not_led r (Calc to left alu right) rest o q = absurd o
not_led r (IfJump test label) rest o q = absurd o
not_led r (Load to base off) rest o q = absurd o
not_led r (Store base off value) rest o q = absurd o
not_led r (Salloc n) rest o q = false≢true q
not_led r (Sfree n) rest o q = false≢true q
not_led r (PrmPush base off cells split) rest o q = false≢true q
not_led r (PrmPop base off) rest o q = false≢true q
not_led r PrmDrop rest o q = false≢true q
not_led r (PrmEmpty r0) rest o q = false≢true q
not_led r (PrmSplit base split) rest o q = false≢true q
not_led r (JrAlloc to target) rest o q = false≢true q
not_led r (Fork rec child) rest o q = absurd o
not_led r (Fetch to table row col) rest o q = false≢true q
not_led r (Put table row col value) rest o q = false≢true q
not_led r (Rows to table) rest o q = false≢true q
not_led r (Cols to table) rest o q = false≢true q
not_led r (Make table rows cols place) rest o q = false≢true q
not_led r Tick rest o q = false≢true q
not_led r (Trap kind place) rest o q = false≢true q
not_led r (Print r0) rest o q = false≢true q
not_led r (Emit table) rest o q = false≢true q

-- where such an instruction stands no record is pending
pub calm_at : (p : Phase) (i : Instr) (rest : List Instr) (rs : List Word) (pending : Option Tie) → IsOrdinary i → Ahead p (i ∷ rest) → InPhase p rs pending → pending ≡ None
calm_at Calm i rest rs pending o a h = h
calm_at (Compared r x) i rest rs pending o a h = h.0
calm_at (Asked r l) i rest rs pending o a h = absurd (not_tested r i rest o a)
calm_at (Tested r x l) i rest rs pending o a h = absurd (not_jumped r x i rest o a)
calm_at (Given r l) i rest rs pending o a h = absurd (not_led r i rest o a)

-- ---- before the activation is made

abbrev pub IsSalloc : Instr → Type 0
IsSalloc (Move to value) = ⊥
IsSalloc (Calc to left alu right) = ⊥
IsSalloc (IfJump test label) = ⊥
IsSalloc (Load to base off) = ⊥
IsSalloc (Store base off value) = ⊥
IsSalloc (Salloc n) = Unit {0}
IsSalloc (Sfree n) = ⊥
IsSalloc (PrmPush base off cells split) = ⊥
IsSalloc (PrmPop base off) = ⊥
IsSalloc PrmDrop = ⊥
IsSalloc (PrmEmpty r) = ⊥
IsSalloc (PrmSplit base split) = ⊥
IsSalloc (JrAlloc to target) = ⊥
IsSalloc (Fork rec child) = ⊥
IsSalloc (Fetch to table row col) = ⊥
IsSalloc (Put table row col value) = ⊥
IsSalloc (Rows to table) = ⊥
IsSalloc (Cols to table) = ⊥
IsSalloc (Make table rows cols place) = ⊥
IsSalloc Tick = ⊥
IsSalloc (Trap kind place) = ⊥
IsSalloc (Print r) = ⊥
IsSalloc (Emit table) = ⊥

-- where the first instruction makes no activation there are no cells
pub no_cells : (whole : Ground) (first : Bool) (i : Instr) (rest : List Instr) → (IsSalloc i → ⊥) → Opens whole first (i ∷ rest) → first ≡ true → whole.cells ≡ 0
no_cells whole false i rest n o q = absurd (false≢true q)
no_cells whole true (Move to value) rest n o q = o
no_cells whole true (Calc to left alu right) rest n o q = o
no_cells whole true (IfJump test label) rest n o q = o
no_cells whole true (Load to base off) rest n o q = o
no_cells whole true (Store base off value) rest n o q = o
no_cells whole true (Salloc n0) rest n o q = absurd (n tt)
no_cells whole true (Sfree n0) rest n o q = o
no_cells whole true (PrmPush base off cells split) rest n o q = o
no_cells whole true (PrmPop base off) rest n o q = o
no_cells whole true PrmDrop rest n o q = o
no_cells whole true (PrmEmpty r) rest n o q = o
no_cells whole true (PrmSplit base split) rest n o q = o
no_cells whole true (JrAlloc to target) rest n o q = o
no_cells whole true (Fork rec child) rest n o q = o
no_cells whole true (Fetch to table row col) rest n o q = o
no_cells whole true (Put table row col value) rest n o q = o
no_cells whole true (Rows to table) rest n o q = o
no_cells whole true (Cols to table) rest n o q = o
no_cells whole true (Make table rows cols place) rest n o q = o
no_cells whole true Tick rest n o q = o
no_cells whole true (Trap kind place) rest n o q = o
no_cells whole true (Print r) rest n o q = o
no_cells whole true (Emit table) rest n o q = o

-- ---- registers

pub set_other : (ws : List Word) (q r : ℕ) (w : Word) → (q ≡ r → ⊥) → register (slice_set ws q w) r ≡ register ws r
set_other [] q r w n = refl
set_other (x ∷ ws) zero zero w n = absurd (n refl)
set_other (x ∷ ws) zero (suc r) w n = refl
set_other (x ∷ ws) (suc q) zero w n = refl
set_other (x ∷ ws) (suc q) (suc r) w n = set_other ws q r w (λ e. n (ap suc e))

pub not_same : (q r : ℕ) → not (q == r) ≡ true → q ≡ r → ⊥
not_same q r n e = by (q == r) (eq-eqb q r e) n
  where
    by : (b : Bool) → b ≡ true → not b ≡ true → ⊥
    by true x y = false≢true y
    by false x y = false≢true x

-- what is pending stays in its register
pub given_else : (pending : Option Tie) (l r q : ℕ) (ws : List Word) (w : Word) → (q ≡ r → ⊥) → IsGiven l pending (register ws r) → IsGiven l pending (register (slice_set ws q w) r)
given_else None l r q ws w n g = g
given_else (Some tie) l r q ws w n g = (g.0, set_other ws q r w n ∙ g.1)

pub answer_else : (pending : Option Tie) (l r q : ℕ) (ws : List Word) (w : Word) → (q ≡ r → ⊥) → IsAnswer l pending (register ws r) → IsAnswer l pending (register (slice_set ws q w) r)
answer_else None l r q ws w n g = set_other ws q r w n ∙ g
answer_else (Some tie) l r q ws w n g = (g.0, set_other ws q r w n ∙ g.1)

-- ---- moves, loads and calculations other than tests

-- a register is written, and what stands ahead of a fork leaves its record alone
abbrev pub Writes : ℕ → Phase → List Instr → List Instr → Type 0
Writes to Calm body rest = Unit {0}
Writes to (Compared r x) body rest = Unit {0}
Writes to (Asked r l) body rest = ⊥
Writes to (Tested r x l) body rest = ⊥
Writes to (Given r l) body rest = (not (to == r) ≡ true) × (leads_to_fork r rest ≡ true)

pub after_write : (p : Phase) (to : ℕ) (w : Word) (rs : List Word) (pending : Option Tie) (body rest : List Instr) → Writes to p body rest → InPhase p rs pending → InPhase (after_other p) (slice_set rs to w) pending
after_write Calm to w rs pending body rest c h = h
after_write (Compared r x) to w rs pending body rest c h = h.0
after_write (Asked r l) to w rs pending body rest c h = absurd c
after_write (Tested r x l) to w rs pending body rest c h = absurd c
after_write (Given r l) to w rs pending body rest c h = given_else pending l r to rs w (not_same to r c.0) h

pub ahead_of_write : (p : Phase) (to : ℕ) (body rest : List Instr) → Writes to p body rest → Ahead (after_other p) rest
ahead_of_write Calm to body rest c = tt
ahead_of_write (Compared r x) to body rest c = tt
ahead_of_write (Asked r l) to body rest c = absurd c
ahead_of_write (Tested r x l) to body rest c = absurd c
ahead_of_write (Given r l) to body rest c = c.1

pub move_writes : (p : Phase) (to : ℕ) (value : _) (rest : List Instr) → Ahead p (Move to value ∷ rest) → Writes to p (Move to value ∷ rest) rest
move_writes Calm to value rest a = tt
move_writes (Compared r x) to value rest a = tt
move_writes (Asked r l) to value rest a = absurd (no_test r (Move to value) rest refl a)
move_writes (Tested r x l) to value rest a = absurd (false≢true a)
move_writes (Given r l) to value rest a = (and_left (not (to == r)) (leads_to_fork r rest) a, and_right (not (to == r)) (leads_to_fork r rest) a)

pub load_writes : (p : Phase) (to base off : ℕ) (rest : List Instr) → Ahead p (Load to base off ∷ rest) → Writes to p (Load to base off ∷ rest) rest
load_writes Calm to base off rest a = tt
load_writes (Compared r x) to base off rest a = tt
load_writes (Asked r l) to base off rest a = absurd (no_test r (Load to base off) rest refl a)
load_writes (Tested r x l) to base off rest a = absurd (false≢true a)
load_writes (Given r l) to base off rest a = (and_left (not (to == r)) (leads_to_fork r rest) a, and_right (not (to == r)) (leads_to_fork r rest) a)

-- a store leaves registers alone
pub after_store : (p : Phase) (base off : ℕ) (value : _) (rest : List Instr) (rs : List Word) (pending : Option Tie) → Ahead p (Store base off value ∷ rest) → InPhase p rs pending → InPhase (after_other p) rs pending × Ahead (after_other p) rest
after_store Calm base off value rest rs pending a h = (h, tt)
after_store (Compared r x) base off value rest rs pending a h = (h.0, tt)
after_store (Asked r l) base off value rest rs pending a h = absurd (no_test r (Store base off value) rest refl a)
after_store (Tested r x l) base off value rest rs pending a h = absurd (false≢true a)
after_store (Given r l) base off value rest rs pending a h = (h, a)
